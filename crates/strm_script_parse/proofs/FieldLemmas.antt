-- What is read of fields: marks that are fit, rings that can be made, and messages that come from a line.
use Rattle.std.proofs.Common.{◌≡◌, ◌<◌, ℕ, ◌&&◌, ◌||◌, not, nat_lt, nat_le, true, cond, List, [], ◌∷◌, length, Some, None, Ok, Err, refl, arith}
use Rattle.std.specs.Option.{option_and_then}
use Rattle.std.proofs.lemmas.Bool.{and_from}
use Rattle.strm_msg.specs.Message.{Msg, bare, data_msg, proto_msg, pcproto_msg}
use Rattle.strm_msg.specs.Kind.{is_from_line}
use Rattle.strm_msg.specs.declared.kind.MsgKind.TheVariants.{MSetopts, MFlush, MHangup, MError}
use Rattle.strm_module.specs.declared.driver.Driver.{Driver}
use Rattle.strm_module.specs.declared.driver.Driver.TheVariants.{Echo, Loop, Line, Wire}
use Rattle.strm_module.specs.Driver.{is_line}
use Rattle.strm_script_text.specs.Text.{number_of, number_from, limited, halves_of}
use Rattle.strm_head_calls.specs.Setup.{is_fit, is_ring}
use Rattle.strm_head_calls.specs.declared.setup.Setup.{Setup}
use Rattle.strm_head_calls.specs.declared.setup.TheConstants.{MOST_RING}
use Rattle.strm_script_words.specs.Fault.{or_fault}
use Rattle.strm_script_words.specs.Field.{number_at, marks_at, optional_marks_at, part_upto, optional_upto, errno_at}
use Rattle.strm_script_words.specs.Arrival.{message_at, call_limits, data_at, proto_at, pcproto_at, optional_mode_at, optional_prot_at, setopts_at, flush_at, flush_msg_at, hangup_at, error_at, optional_errno_at, error2_at}
use Rattle.strm_script_words.specs.declared.arrival.Limits.{Limits}
use Rattle.strm_script_words.specs.declared.arrival.MessageWord.{MessageWord}
use Rattle.strm_script_words.specs.declared.fault.Cause.TheVariants as causes
use Rattle.strm_script_words.specs.declared.field.TheConstants.{MOST_BAND, MOST_U32}
use Rattle.strm_script_parse.specs.Reading.{ring_at, rings_at, setup_at}
use Rattle.strm_script_parse.proofs.StepLemmas.{through, on, passed, under, same, same_found, found_in}

-- ---- numbers, marks and rings

abbrev pair : ℕ → ℕ → ℕ × ℕ
pair high low = (high, low)

-- a number is within its limit
number_within : (most : ℕ) (text : List ℕ) (n : ℕ) → number_at most text ≡ Ok n → nat_le n most ≡ true
number_within most text n is =
    under (nat_le 1 (length text) && nat_le (length text) 20) (option_and_then (limited most) (number_from 0 text)) n (found_in (number_of most text) causes.Number n is) (λ long read.
    on (number_from 0 text) (limited most) n read (λ value from within.
    under (nat_le value most) (Some value) n within (λ least is. same_found (λ (m : ℕ). nat_le m most ≡ true) value n is least)))

-- the low mark is below the high one
marks_fit : (text : List ℕ) (marks : ℕ × ℕ) → marks_at text ≡ Ok marks → nat_lt marks.1 marks.0 ≡ true
marks_fit text marks is =
    through (or_fault causes.Number (halves_of 47 text)) _ marks is (λ halves cut is.
    through (number_at MOST_U32 halves.0) _ marks is (λ high one is.
    through (number_at MOST_U32 halves.1) _ marks is (λ low other is.
    passed (nat_lt low high) (Ok (pair high low)) marks causes.Marks is (λ below is.
    same (λ (m : ℕ × ℕ). nat_lt m.1 m.0 ≡ true) (pair high low) marks is below))))

-- a ring that is read can be made
ring_within : (text : List ℕ) (ring : ℕ) → ring_at text ≡ Ok ring → (nat_le 1 ring && nat_le ring MOST_RING) ≡ true
ring_within text ring is =
    through (number_at MOST_RING text) (λ n. cond (nat_le 1 n) (Ok n) (Err causes.Number)) ring is (λ n read next.
    passed (nat_le 1 n) (Ok n) ring causes.Number next (λ least is.
    same (λ (m : ℕ). (nat_le 1 m && nat_le m MOST_RING) ≡ true) n ring is (and_from (nat_le 1 n) (nat_le n MOST_RING) least (number_within MOST_RING text n read))))

rings_within : (driver : Driver) (texts : List (List ℕ)) (ring : ℕ) → rings_at driver texts ≡ Ok ring → (not (is_line driver) || (nat_le 1 ring && nat_le ring MOST_RING)) ≡ true
rings_within Echo texts ring is = refl
rings_within Loop texts ring is = refl
rings_within Line [] ring is = absurd cc
rings_within Line (text ∷ []) ring is = ring_within text ring is
rings_within Line (text ∷ other ∷ texts) ring is = absurd cc
rings_within Wire [] ring is = absurd cc
rings_within Wire (text ∷ []) ring is = ring_within text ring is
rings_within Wire (text ∷ other ∷ texts) ring is = absurd cc

-- ---- the setup of a stream

-- too few fields
pub too_few : (driver : Driver) (texts : List (List ℕ)) → length texts < 2 → setup_at driver texts ≡ Err causes.Fields
unfolding setup_at
too_few driver [] few = refl
too_few driver (head ∷ []) few = refl
too_few driver (head ∷ drv ∷ texts) few = absurd (omega (arith, few))

abbrev made : Driver → ℕ × ℕ → ℕ × ℕ → ℕ → Setup
made driver above below ring = record { driver = driver; head = above; drv = below; ring = ring }

abbrev CanBe : Setup → Type 0
CanBe setup = (is_fit setup ≡ true) × (is_ring setup ≡ true)

-- a stream can be made as its line says
pub setup_fits : (driver : Driver) (texts : List (List ℕ)) (setup : Setup) → setup_at driver texts ≡ Ok setup → CanBe setup
unfolding setup_at
setup_fits driver [] setup is = absurd cc
setup_fits driver (head ∷ []) setup is = absurd cc
setup_fits driver (head ∷ drv ∷ texts) setup is =
    through (marks_at head) _ setup is (λ above one is.
    through (marks_at drv) _ setup is (λ below other is.
    through (rings_at driver texts) _ setup is (λ ring last is.
    same CanBe (made driver above below ring) setup is
    (and_from (nat_lt above.1 above.0) (nat_lt below.1 below.0) (marks_fit head above one) (marks_fit drv below other), rings_within driver texts ring last))))

-- ---- messages of a feed

abbrev FromLine : Msg → Type 0
FromLine m = is_from_line m.kind ≡ true

data_from_line : (limits : Limits) (texts : List (List ℕ)) (m : Msg) → data_at limits texts ≡ Ok m → FromLine m
data_from_line limits [] m is = absurd cc
data_from_line limits (band ∷ []) m is = absurd cc
data_from_line limits (band ∷ dat ∷ []) m is =
    through (number_at MOST_BAND band) _ m is (λ b _ is.
    through (part_upto limits.dat dat) _ m is (λ bytes _ is.
    same FromLine (data_msg b bytes) m is refl))
data_from_line limits (band ∷ dat ∷ more ∷ texts) m is = absurd cc

proto_from_line : (limits : Limits) (texts : List (List ℕ)) (m : Msg) → proto_at limits texts ≡ Ok m → FromLine m
proto_from_line limits [] m is = absurd cc
proto_from_line limits (band ∷ []) m is = absurd cc
proto_from_line limits (band ∷ ctl ∷ []) m is = absurd cc
proto_from_line limits (band ∷ ctl ∷ dat ∷ []) m is =
    through (number_at MOST_BAND band) _ m is (λ b _ is.
    through (part_upto limits.ctl ctl) _ m is (λ control _ is.
    through (optional_upto limits.dat dat) _ m is (λ bytes _ is.
    same FromLine (proto_msg b control bytes) m is refl)))
proto_from_line limits (band ∷ ctl ∷ dat ∷ more ∷ texts) m is = absurd cc

pcproto_from_line : (limits : Limits) (texts : List (List ℕ)) (m : Msg) → pcproto_at limits texts ≡ Ok m → FromLine m
pcproto_from_line limits [] m is = absurd cc
pcproto_from_line limits (ctl ∷ []) m is = absurd cc
pcproto_from_line limits (ctl ∷ dat ∷ []) m is =
    through (part_upto limits.ctl ctl) _ m is (λ control _ is.
    through (optional_upto limits.dat dat) _ m is (λ bytes _ is.
    same FromLine (pcproto_msg control bytes) m is refl))
pcproto_from_line limits (ctl ∷ dat ∷ more ∷ texts) m is = absurd cc

setopts_from_line : (texts : List (List ℕ)) (m : Msg) → setopts_at texts ≡ Ok m → FromLine m
setopts_from_line [] m is = absurd cc
setopts_from_line (mode ∷ []) m is = absurd cc
setopts_from_line (mode ∷ prot ∷ []) m is = absurd cc
setopts_from_line (mode ∷ prot ∷ marks ∷ []) m is =
    through (optional_mode_at mode) _ m is (λ set _ is.
    through (optional_prot_at prot) _ m is (λ way _ is.
    through (optional_marks_at marks) _ m is (λ pair _ is.
    same FromLine (bare (MSetopts set way pair)) m is refl)))
setopts_from_line (mode ∷ prot ∷ marks ∷ more ∷ texts) m is = absurd cc

flush_from_line : (texts : List (List ℕ)) (m : Msg) → flush_msg_at texts ≡ Ok m → FromLine m
flush_from_line [] m is = absurd cc
flush_from_line (flags ∷ []) m is = through (flush_at flags) _ m is (λ sides _ is. same FromLine (bare (MFlush sides.0 sides.1 None)) m is refl)
flush_from_line (flags ∷ more ∷ texts) m is = absurd cc

hangup_from_line : (texts : List (List ℕ)) (m : Msg) → hangup_at texts ≡ Ok m → FromLine m
hangup_from_line [] m is = same FromLine (bare MHangup) m is refl
hangup_from_line (more ∷ texts) m is = absurd cc

error_from_line : (texts : List (List ℕ)) (m : Msg) → error_at texts ≡ Ok m → FromLine m
error_from_line [] m is = absurd cc
error_from_line (text ∷ []) m is = through (errno_at text) _ m is (λ errno _ is. same FromLine (bare (MError (Some errno) (Some errno))) m is refl)
error_from_line (text ∷ more ∷ texts) m is = absurd cc

error2_from_line : (texts : List (List ℕ)) (m : Msg) → error2_at texts ≡ Ok m → FromLine m
error2_from_line [] m is = absurd cc
error2_from_line (read ∷ []) m is = absurd cc
error2_from_line (read ∷ write ∷ []) m is =
    through (optional_errno_at read) _ m is (λ rd _ is.
    through (optional_errno_at write) _ m is (λ wr _ is.
    same FromLine (bare (MError rd wr)) m is refl))
error2_from_line (read ∷ write ∷ more ∷ texts) m is = absurd cc

-- a message of a feed is of a kind that comes from a line
pub message_from_line : (word : MessageWord) (texts : List (List ℕ)) (m : Msg) → message_at word texts ≡ Ok m → FromLine m
message_from_line MessageWord.Data texts m is = data_from_line call_limits texts m is
message_from_line MessageWord.Proto texts m is = proto_from_line call_limits texts m is
message_from_line MessageWord.Pcproto texts m is = pcproto_from_line call_limits texts m is
message_from_line MessageWord.Setopts texts m is = setopts_from_line texts m is
message_from_line MessageWord.Flush texts m is = flush_from_line texts m is
message_from_line MessageWord.Hangup texts m is = hangup_from_line texts m is
message_from_line MessageWord.Error texts m is = error_from_line texts m is
message_from_line MessageWord.Error2 texts m is = error2_from_line texts m is
