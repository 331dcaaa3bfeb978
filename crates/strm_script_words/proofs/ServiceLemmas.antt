-- What fails first in a message that a service call sends.
use Rattle.std.proofs.Common.{◌≡◌, ℕ, ◌<◌, ◌≤◌, List, [], ◌∷◌, length, get_or, Bor, Ok, arith}
use Rattle.strm_msg.specs.Message.{ioctl_msg, ack_msg}
use Rattle.strm_script_text.specs.Text.{texts_of}
use Rattle.strm_script_words.specs.Fault.{◌>>=◌, Fails}
use Rattle.strm_script_words.specs.Field.{number_at, optional_upto}
use Rattle.strm_script_words.specs.Service.{ioctl_at, iocack_at}
use Rattle.strm_script_words.specs.declared.fault.ReadError.{ReadError}
use Rattle.strm_script_words.specs.declared.field.TheConstants.{MOST_U32}
use Rattle.strm_script_words.specs.declared.service.TheConstants.{MOST_PART, MOST_ID}
use Rattle.strm_script_words.proofs.FaultLemmas.{fails_second}

-- CMD is no number behind an ID
pub cmd_fails : (error : ReadError) (texts : List (Bor (List ℕ))) (d : Bor (List ℕ)) (i : ℕ) → 3 ≤ length texts → length texts < 4 → number_at MOST_ID (get_or texts 0 d).now ≡ Ok i → Fails error (number_at MOST_U32 (get_or texts 1 d).now) → Fails error (ioctl_at (texts_of texts))
cmd_fails error [] d i least below is fails = absurd (omega (arith, least))
cmd_fails error (x ∷ []) d i least below is fails = absurd (omega (arith, least))
cmd_fails error (x ∷ y ∷ []) d i least below is fails = absurd (omega (arith, least))
cmd_fails error (x ∷ y ∷ z ∷ []) d i least below is fails =
    fails_second error (number_at MOST_ID x.now) i (λ n. number_at MOST_U32 y.now) (λ n c. optional_upto MOST_PART z.now >>= λ bytes. Ok (ioctl_msg n c bytes)) is fails
cmd_fails error (x ∷ y ∷ z ∷ w ∷ texts) d i least below is fails = absurd (omega (arith, below))

-- RVAL is none
pub rval_fails : (error : ReadError) (texts : List (Bor (List ℕ))) (d : Bor (List ℕ)) (i : ℕ) → 3 ≤ length texts → length texts < 4 → number_at MOST_ID (get_or texts 0 d).now ≡ Ok i → Fails error (number_at MOST_ID (get_or texts 1 d).now) → Fails error (iocack_at (texts_of texts))
rval_fails error [] d i least below is fails = absurd (omega (arith, least))
rval_fails error (x ∷ []) d i least below is fails = absurd (omega (arith, least))
rval_fails error (x ∷ y ∷ []) d i least below is fails = absurd (omega (arith, least))
rval_fails error (x ∷ y ∷ z ∷ []) d i least below is fails =
    fails_second error (number_at MOST_ID x.now) i (λ n. number_at MOST_ID y.now) (λ n r. optional_upto MOST_PART z.now >>= λ bytes. Ok (ack_msg n r bytes)) is fails
rval_fails error (x ∷ y ∷ z ∷ w ∷ texts) d i least below is fails = absurd (omega (arith, below))
