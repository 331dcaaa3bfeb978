-- What fails first.
use Rattle.std.proofs.Common.{◌≡◌, ℕ, ◌<◌, ◌≤◌, List, [], ◌∷◌, length, get_or, Bor, Option, Result, Ok, Err, ap, arith}
use Rattle.strm_msg.specs.Message.{bare, proto_msg}
use Rattle.strm_msg.specs.declared.kind.MsgKind.TheVariants.{MSetopts}
use Rattle.strm_msg.specs.declared.words.ReadMode.{ReadMode}
use Rattle.strm_script_text.specs.Text.{texts_of}
use Rattle.strm_script_words.specs.Fault.{◌>>=◌, Fails}
use Rattle.strm_script_words.specs.Field.{number_at, part_at, part_upto, optional_upto, optional_marks_at}
use Rattle.strm_script_words.specs.Push.{table_at}
use Rattle.strm_script_words.specs.Arrival.{proto_at, pcproto_at, optional_mode_at, optional_prot_at, setopts_at, optional_errno_at, error2_at}
use Rattle.strm_script_words.specs.declared.arrival.Limits.{Limits}
use Rattle.strm_script_words.specs.declared.fault.Cause.{Cause}
use Rattle.strm_script_words.specs.declared.fault.ReadError.{ReadError}
use Rattle.strm_script_words.specs.declared.fault.ReadError.TheVariants as errors
use Rattle.strm_script_words.specs.declared.field.TheConstants.{MOST_BAND}

-- where the first of two fails, both together do
pub fails_first : {A B : Type 0} (error : ReadError) (read : Result A Cause) (next : A → Result B Cause) → Fails error read → Fails error (read >>= next)
fails_first errors.Memory read next fails = tt
fails_first (errors.Fault cause) read next fails = ap (λ (r : Result _ Cause). r >>= next) fails

-- behind one that is read, the same
pub fails_second : {A B C : Type 0} (error : ReadError) (first : Result A Cause) (x : A) (read : A → Result B Cause) (next : A → B → Result C Cause) → first ≡ Ok x → Fails error (read x) → Fails error (first >>= λ x. read x >>= next x)
fails_second error (Ok y) x read next is fails = let same : y ≡ x = cc in rw same (fails_first error (read x) (next x) fails)
fails_second error (Err cause) x read next is fails = absurd cc

-- FROM is no part
pub from_fails : (error : ReadError) (texts : List (Bor (List ℕ))) (d : Bor (List ℕ)) → 2 ≤ length texts → length texts < 3 → Fails error (part_at (get_or texts 0 d).now) → Fails error (table_at (texts_of texts))
from_fails error [] d least below fails = absurd (omega (arith, least))
from_fails error (a ∷ []) d least below fails = absurd (omega (arith, least))
from_fails error (a ∷ b ∷ []) d least below fails = fails_first error (part_at a.now) _ fails
from_fails error (a ∷ b ∷ c ∷ texts) d least below fails = absurd (omega (arith, below))

-- READ is no errno
pub read_fails : (error : ReadError) (texts : List (Bor (List ℕ))) (d : Bor (List ℕ)) → 2 ≤ length texts → length texts < 3 → Fails error (optional_errno_at (get_or texts 0 d).now) → Fails error (error2_at (texts_of texts))
read_fails error [] d least below fails = absurd (omega (arith, least))
read_fails error (a ∷ []) d least below fails = absurd (omega (arith, least))
read_fails error (a ∷ b ∷ []) d least below fails = fails_first error (optional_errno_at a.now) _ fails
read_fails error (a ∷ b ∷ c ∷ texts) d least below fails = absurd (omega (arith, below))

-- PART is no part behind a band
pub control_fails : (limits : Limits) (error : ReadError) (texts : List (Bor (List ℕ))) (d : Bor (List ℕ)) (b : ℕ) → 3 ≤ length texts → length texts < 4 → number_at MOST_BAND (get_or texts 0 d).now ≡ Ok b → Fails error (part_upto limits.ctl (get_or texts 1 d).now) → Fails error (proto_at limits (texts_of texts))
control_fails limits error [] d b least below band fails = absurd (omega (arith, least))
control_fails limits error (x ∷ []) d b least below band fails = absurd (omega (arith, least))
control_fails limits error (x ∷ y ∷ []) d b least below band fails = absurd (omega (arith, least))
control_fails limits error (x ∷ y ∷ z ∷ []) d b least below band fails =
    fails_second error (number_at MOST_BAND x.now) b (λ n. part_upto limits.ctl y.now) (λ n control. optional_upto limits.dat z.now >>= λ bytes. Ok (proto_msg n control bytes)) band fails
control_fails limits error (x ∷ y ∷ z ∷ w ∷ texts) d b least below band fails = absurd (omega (arith, below))

-- BAND is no band, before control and data
pub band_fails : (limits : Limits) (error : ReadError) (texts : List (Bor (List ℕ))) (d : Bor (List ℕ)) → 3 ≤ length texts → length texts < 4 → Fails error (number_at MOST_BAND (get_or texts 0 d).now) → Fails error (proto_at limits (texts_of texts))
band_fails limits error [] d least below fails = absurd (omega (arith, least))
band_fails limits error (x ∷ []) d least below fails = absurd (omega (arith, least))
band_fails limits error (x ∷ y ∷ []) d least below fails = absurd (omega (arith, least))
band_fails limits error (x ∷ y ∷ z ∷ []) d least below fails = fails_first error (number_at MOST_BAND x.now) _ fails
band_fails limits error (x ∷ y ∷ z ∷ w ∷ texts) d least below fails = absurd (omega (arith, below))

-- PART is no part before DAT
pub first_control_fails : (limits : Limits) (error : ReadError) (texts : List (Bor (List ℕ))) (d : Bor (List ℕ)) → 2 ≤ length texts → length texts < 3 → Fails error (part_upto limits.ctl (get_or texts 0 d).now) → Fails error (pcproto_at limits (texts_of texts))
first_control_fails limits error [] d least below fails = absurd (omega (arith, least))
first_control_fails limits error (a ∷ []) d least below fails = absurd (omega (arith, least))
first_control_fails limits error (a ∷ b ∷ []) d least below fails = fails_first error (part_upto limits.ctl a.now) _ fails
first_control_fails limits error (a ∷ b ∷ c ∷ texts) d least below fails = absurd (omega (arith, below))

-- MODE is no mode
pub mode_fails : (error : ReadError) (texts : List (Bor (List ℕ))) (d : Bor (List ℕ)) → 3 ≤ length texts → length texts < 4 → Fails error (optional_mode_at (get_or texts 0 d).now) → Fails error (setopts_at (texts_of texts))
mode_fails error [] d least below fails = absurd (omega (arith, least))
mode_fails error (x ∷ []) d least below fails = absurd (omega (arith, least))
mode_fails error (x ∷ y ∷ []) d least below fails = absurd (omega (arith, least))
mode_fails error (x ∷ y ∷ z ∷ []) d least below fails = fails_first error (optional_mode_at x.now) _ fails
mode_fails error (x ∷ y ∷ z ∷ w ∷ texts) d least below fails = absurd (omega (arith, below))

-- PROT says nothing of control behind a mode
pub prot_fails : (error : ReadError) (texts : List (Bor (List ℕ))) (d : Bor (List ℕ)) (mode : Option ReadMode) → 3 ≤ length texts → length texts < 4 → optional_mode_at (get_or texts 0 d).now ≡ Ok mode → Fails error (optional_prot_at (get_or texts 1 d).now) → Fails error (setopts_at (texts_of texts))
prot_fails error [] d mode least below is fails = absurd (omega (arith, least))
prot_fails error (x ∷ []) d mode least below is fails = absurd (omega (arith, least))
prot_fails error (x ∷ y ∷ []) d mode least below is fails = absurd (omega (arith, least))
prot_fails error (x ∷ y ∷ z ∷ []) d mode least below is fails =
    fails_second error (optional_mode_at x.now) mode (λ m. optional_prot_at y.now) (λ m p. optional_marks_at z.now >>= λ marks. Ok (bare (MSetopts m p marks))) is fails
prot_fails error (x ∷ y ∷ z ∷ w ∷ texts) d mode least below is fails = absurd (omega (arith, below))
