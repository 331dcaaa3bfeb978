-- What refuses a call looks at the lengths of its parts alone.
use Rattle.std.proofs.Common.{◌≡◌, ℕ, ◌==◌, not, Bool, true, false, Option, Some, None, List, [], ◌∷◌, ◌++◌, refl, sym, ap, ◌∙◌}
use Rattle.std.specs.Option.{option_or}
use Rattle.strm_msg.specs.declared.errno.Errno.{Errno}
use Rattle.strm_msg.specs.declared.words.End.{End}
use Rattle.strm_module.specs.declared.kind.Kind.{Kind}
use Rattle.strm_chain_ends.specs.Image.{Image, end_of}
use Rattle.strm_head_calls.specs.declared.request.Request.TheVariants as Requests
use Rattle.strm_head_calls.specs.declared.request.Priority.{Priority}
use Rattle.strm_head_calls.specs.declared.request.Priority.TheVariants as Priorities
use Rattle.strm_head_calls.specs.declared.request.PutFlag.{PutFlag}
use Rattle.strm_head_calls.specs.declared.request.PutFlag.TheVariants as PutFlags
use Rattle.strm_head_calls.specs.declared.refusal.Refusal.{Refusal}
use Rattle.strm_head_calls.specs.declared.refusal.Refusal.TheVariants.{Closed, Broken, Invalid, TooLong, HungUp, WouldWait}
use Rattle.strm_head_calls.specs.Refusal.{first_that_holds}
use Rattle.strm_module.specs.Builtin.{builtin}
use Rattle.strm_head.specs.Effects.{error_refusals, common_refusals, refusal_of}
use Rattle.strm_head.proofs.RefusalLemmas.{first_of_both}
use Rattle.strm_c_calls.specs.Arguments.{part_argument, parts_argument}
use Rattle.strm_c_calls.specs.Judged.{is_before_length, or_length}
use Rattle.strm_head_msg.specs.Send.{is_too_long, waiting_refusals, would_wait}

-- a refusal, if there is one, that is looked for before those of a length
abbrev pub is_early : Option Refusal → Bool
is_early None = true
is_early (Some refusal) = is_before_length refusal

-- the errors that came up, behind a closed end and a broken stream
errors_are_early : (looks : Bool × Bool) (rd wr : Option Errno) → is_early (first_that_holds (error_refusals looks rd wr)) ≡ true
errors_are_early looks None None = refl
errors_are_early (reads, true) None (Some errno) = refl
errors_are_early (reads, false) None (Some errno) = refl
errors_are_early (true, writes) (Some errno) wr = refl
errors_are_early (false, writes) (Some errno) None = refl
errors_are_early (false, true) (Some errno) (Some other) = refl
errors_are_early (false, false) (Some errno) (Some other) = refl

common_are_early : (closed broken : Bool) (looks : Bool × Bool) (rd wr : Option Errno) → is_early (first_that_holds ((closed, Closed) ∷ (broken, Broken) ∷ error_refusals looks rd wr)) ≡ true
common_are_early true broken looks rd wr = refl
common_are_early false true looks rd wr = refl
common_are_early false false looks rd wr = errors_are_early looks rd wr

-- a length's refusal goes before what is behind the early ones
or_length_behind : (long : Bool) (by : Refusal) (early own : Option Refusal) → is_early early ≡ true → option_or early (or_length long by own) ≡ or_length long by (option_or early own)
or_length_behind long by None own is = refl
or_length_behind false by (Some refusal) own is = refl
or_length_behind true by (Some refusal) own is = rw is refl

-- a length before a hangup and a wait
before_waits : (long : Bool) (by : Refusal) (hung waits : Bool) → first_that_holds ((long, by) ∷ (hung, HungUp) ∷ (waits, WouldWait) ∷ []) ≡ or_length long by (first_that_holds ((hung, HungUp) ∷ (waits, WouldWait) ∷ []))
before_waits false by hung waits = refl
before_waits true by true waits = refl
before_waits true by false true = refl
before_waits true by false false = refl

-- what may refuse a call that sends
sends : (invalid long hung waits : Bool) → first_that_holds ((invalid, Invalid) ∷ (long, TooLong) ∷ (hung, HungUp) ∷ (waits, WouldWait) ∷ []) ≡ or_length long TooLong (first_that_holds ((invalid, Invalid) ∷ (false, TooLong) ∷ (hung, HungUp) ∷ (waits, WouldWait) ∷ []))
sends true false hung waits = refl
sends true true hung waits = refl
sends false long hung waits = before_waits long TooLong hung waits

-- behind what refuses each call at an end
behind_common : (closed broken : Bool) (looks : Bool × Bool) (rd wr : Option Errno) (long : Bool) (by : Refusal) (rows bare : List (Bool × Refusal)) → first_that_holds rows ≡ or_length long by (first_that_holds bare) → first_that_holds (((closed, Closed) ∷ (broken, Broken) ∷ error_refusals looks rd wr) ++ rows) ≡ or_length long by (first_that_holds (((closed, Closed) ∷ (broken, Broken) ∷ error_refusals looks rd wr) ++ bare))
behind_common closed broken looks rd wr long by rows bare same =
    let common = (closed, Closed) ∷ (broken, Broken) ∷ error_refusals looks rd wr in
    first_of_both common rows ∙ ap (λ own. option_or (first_that_holds common) own) same ∙ or_length_behind long by (first_that_holds common) (first_that_holds bare) (common_are_early closed broken looks rd wr) ∙ ap (λ first. or_length long by first) (sym (first_of_both common bare))

-- the rows of each call at an end that looks at the error of the write side
abbrev sending : Image Kind → End → List (Bool × Refusal) → List (Bool × Refusal)
sending image e rows = common_refusals image e (Requests.Canput 0) ++ rows

-- the first of the rows of a call that sends, by whether its arguments are wrong, whether a part is too long,
-- and the band of an ordinary message
abbrev sending_first : Image Kind → End → Bool → Bool → Option ℕ → Option Refusal
sending_first image e invalid long band =
    first_that_holds (sending image e ((invalid, Invalid) ∷ (long, TooLong) ∷ waiting_refusals image e band))

send_looks : (image : Image Kind) (e : End) (invalid long : Bool) (band : Option ℕ) → or_length long TooLong (sending_first image e invalid false band) ≡ sending_first image e invalid long band
send_looks image e invalid long band =
    let state = (end_of image e).state in
    let hung = state.hung in
    let waits = would_wait image e band in
    sym (behind_common (not (end_of image e).is_open) image.broken (false, true) state.rd_errno state.wr_errno long TooLong ((invalid, Invalid) ∷ (long, TooLong) ∷ waiting_refusals image e band) ((invalid, Invalid) ∷ (false, TooLong) ∷ waiting_refusals image e band) (sends invalid long hung waits))

pub putmsg_looks : (image : Image Kind) (e : End) (flag : Priority) (has_ctl : Bool) (ctl : List ℕ) (has_dat : Bool) (dat : List ℕ) → or_length (is_too_long (part_argument has_ctl ctl) (part_argument has_dat dat)) TooLong (refusal_of builtin image e (Requests.Putmsg flag (parts_argument has_ctl [] has_dat []))) ≡ refusal_of builtin image e (Requests.Putmsg flag (parts_argument has_ctl ctl has_dat dat))
putmsg_looks image e Priorities.Norm true ctl true dat = send_looks image e false (is_too_long (Some ctl) (Some dat)) (Some 0)
putmsg_looks image e Priorities.Norm true ctl false dat = send_looks image e false (is_too_long (Some ctl) None) (Some 0)
putmsg_looks image e Priorities.Norm false ctl true dat = send_looks image e false (is_too_long None (Some dat)) (Some 0)
putmsg_looks image e Priorities.Norm false ctl false dat = send_looks image e false false None
putmsg_looks image e Priorities.Hipri true ctl true dat = send_looks image e false (is_too_long (Some ctl) (Some dat)) None
putmsg_looks image e Priorities.Hipri true ctl false dat = send_looks image e false (is_too_long (Some ctl) None) None
putmsg_looks image e Priorities.Hipri false ctl true dat = send_looks image e true (is_too_long None (Some dat)) None
putmsg_looks image e Priorities.Hipri false ctl false dat = send_looks image e true false None

pub putpmsg_looks : (image : Image Kind) (e : End) (band : ℕ) (flag : PutFlag) (has_ctl : Bool) (ctl : List ℕ) (has_dat : Bool) (dat : List ℕ) → or_length (is_too_long (part_argument has_ctl ctl) (part_argument has_dat dat)) TooLong (refusal_of builtin image e (Requests.Putpmsg band flag (parts_argument has_ctl [] has_dat []))) ≡ refusal_of builtin image e (Requests.Putpmsg band flag (parts_argument has_ctl ctl has_dat dat))
putpmsg_looks image e band PutFlags.Zero true ctl true dat = send_looks image e true (is_too_long (Some ctl) (Some dat)) None
putpmsg_looks image e band PutFlags.Zero true ctl false dat = send_looks image e true (is_too_long (Some ctl) None) None
putpmsg_looks image e band PutFlags.Zero false ctl true dat = send_looks image e true (is_too_long None (Some dat)) None
putpmsg_looks image e band PutFlags.Zero false ctl false dat = send_looks image e true false None
putpmsg_looks image e band PutFlags.Band true ctl true dat = send_looks image e false (is_too_long (Some ctl) (Some dat)) (Some band)
putpmsg_looks image e band PutFlags.Band true ctl false dat = send_looks image e false (is_too_long (Some ctl) None) (Some band)
putpmsg_looks image e band PutFlags.Band false ctl true dat = send_looks image e false (is_too_long None (Some dat)) (Some band)
putpmsg_looks image e band PutFlags.Band false ctl false dat = send_looks image e false false None
putpmsg_looks image e band PutFlags.Hipri true ctl true dat = send_looks image e (not (band == 0)) (is_too_long (Some ctl) (Some dat)) None
putpmsg_looks image e band PutFlags.Hipri true ctl false dat = send_looks image e (not (band == 0)) (is_too_long (Some ctl) None) None
putpmsg_looks image e band PutFlags.Hipri false ctl true dat = send_looks image e true (is_too_long None (Some dat)) None
putpmsg_looks image e band PutFlags.Hipri false ctl false dat = send_looks image e true false None
