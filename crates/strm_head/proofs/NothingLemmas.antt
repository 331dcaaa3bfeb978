-- Calls that have nothing to do, and peeks that show nothing: they take no memory, and leave a stream as it
-- was.
use Rattle.std.proofs.Common.{◌≡◌, ℕ, suc, zero, ◌&&◌, ◌||◌, Bool, true, false, Option, Some, None, is_some, is_none, IsNone, List, [], ◌∷◌, slice_get, Result, Ok, Err, IfOk, IsOk, refl, sym, ◌∙◌, ap, subst}
use Rattle.std.proofs.lemmas.Bool.{or_parts}
use Rattle.strm_msg.specs.Message.{Msg, Part}
use Rattle.strm_msg.specs.declared.words.End.{End}
use Rattle.strm_msg.specs.declared.words.End.TheVariants.{A, B}
use Rattle.strm_msg.specs.declared.words.ReadMode.{ReadMode}
use Rattle.strm_msg.specs.declared.words.Prot.{Prot}
use Rattle.strm_module.specs.Kinds.{Meaning}
use Rattle.strm_module.specs.declared.shape.Shape.{Shape}
use Rattle.strm_chain_ends.specs.Image.{Image, end_of, with_head}
use Rattle.strm_chain_ends.specs.Flow.{IsQuiet}
use Rattle.strm_head_calls.specs.declared.request.Request.{Request}
use Rattle.strm_head_calls.specs.declared.request.Request.TheVariants.{Putmsg, Putpmsg, Getmsg, Getpmsg, Read, Peek, Str, Strget, Take, Service}
use Rattle.strm_head_calls.specs.declared.request.Priority.{Priority}
use Rattle.strm_head_calls.specs.declared.request.Priority.TheVariants as Priorities
use Rattle.strm_head_calls.specs.declared.request.PutFlag.{PutFlag}
use Rattle.strm_head_calls.specs.declared.request.PutFlag.TheVariants as PutFlags
use Rattle.strm_head_calls.specs.declared.request.Wanted.{Wanted}
use Rattle.strm_head_calls.specs.declared.answer.Peeked.{Peeked}
use Rattle.strm_head_calls.specs.declared.answer.Reply.{Reply}
use Rattle.strm_head_calls.specs.declared.answer.Reply.TheVariants as Replies
use Rattle.strm_head_calls.specs.Reply.{has_bytes}
use Rattle.strm_head_calls.specs.ReplyForm.{said}
use Rattle.strm_head_calls.specs.Request.{changes_no_queue}
use Rattle.strm_head_msg.specs.Send.{sent_of, putmsg_message, putpmsg_message}
use Rattle.strm_head_msg.specs.Take.{taken_from, peeked_of, peek_effect, shows_nothing}
use Rattle.strm_head_read.specs.Read.{read_of}
use Rattle.strm_head_ioctl.specs.Ask.{is_empty}
use Rattle.strm_head_ioctl.specs.Outside.{taken_out}
use Rattle.strm_head_service.specs.Served.{served_at}
use Rattle.strm_head_service.proofs.ServeLemmas.{nothing_leaves}
use Rattle.strm_head.specs.Effects.{effect_of, has_nothing_to_do, takes_no_memory_at, sends_no_message, awaits_answer}
use Rattle.strm_head.specs.TakesEffect.{needs_no_service}
use Rattle.strm_head.proofs.KeptLemmas.{IsQuietly, left_quiet, quiet_effect}

-- ---- where nothing is to be done, no memory is taken

-- no message waits
empty_of : {X : Type 0} (q : List X) → is_empty q ≡ true → q ≡ []
empty_of [] none = refl
empty_of (x ∷ xs) none = absurd cc

-- parts that are both missing make no message
putmsg_none : (ctl dat : Part) (flag : Priority) → (is_none ctl && is_none dat) ≡ true → putmsg_message ctl dat flag ≡ None
putmsg_none None None Priorities.Norm none = refl
putmsg_none None None Priorities.Hipri none = refl
putmsg_none None (Some bytes) flag none = absurd cc
putmsg_none (Some bytes) dat flag none = absurd cc

putpmsg_none : (ctl dat : Part) (band : ℕ) (flag : PutFlag) → (is_none ctl && is_none dat) ≡ true → putpmsg_message ctl dat band flag ≡ None
putpmsg_none None None band PutFlags.Zero none = refl
putpmsg_none None None band PutFlags.Band none = refl
putpmsg_none None None band PutFlags.Hipri none = refl
putpmsg_none None (Some bytes) band flag none = absurd cc
putpmsg_none (Some bytes) dat band flag none = absurd cc

none_is : {X : Type 0} (found : Option X) → found ≡ None → IsNone found
none_is {X} found is = ap (λ (x : Option X). is_some x) is

pub putmsg_ok : {X : Type 0} (ctl dat : Part) (flag : Priority) (r : Result Reply X) → (IsNone (putmsg_message ctl dat flag) → IsOk r) → (is_none ctl && is_none dat) ≡ true → IsOk r
putmsg_ok ctl dat flag r nothing none = nothing (none_is (putmsg_message ctl dat flag) (putmsg_none ctl dat flag none))

pub putpmsg_ok : {X : Type 0} (ctl dat : Part) (band : ℕ) (flag : PutFlag) (r : Result Reply X) → (IsNone (putpmsg_message ctl dat band flag) → IsOk r) → (is_none ctl && is_none dat) ≡ true → IsOk r
putpmsg_ok ctl dat band flag r nothing none = nothing (none_is (putpmsg_message ctl dat band flag) (putpmsg_none ctl dat band flag none))

-- of no message nothing is taken
pub get_ok : {A X : Type 0} (head : List Msg) (r : Result A X) → (head ≡ [] → IsOk r) → is_empty head ≡ true → IsOk r
get_ok head r empty none = empty (empty_of head none)

-- a read of no bytes, and of no message
pub read_ok : {K A X : Type 0} (image : Image K) (e : End) (max : ℕ) (r : Result A X) → (max ≡ 0 → IsOk r) → ((end_of image e).head ≡ [] → IsOk r) → takes_no_memory_at image e (Read max) ≡ true → IsOk r
read_ok image e zero r nothing empty none = nothing refl
read_ok image e (suc n) r nothing empty none = empty (empty_of (end_of image e).head none)

said_ok : {A X : Type 0} (says : A → Reply) (r : Result A X) → IsOk r → IsOk (said says r)
said_ok says (Ok made) ok = refl
said_ok says (Err fault) ok = absurd (let no : false ≡ true = ok in cc)

-- a peek that shows nothing has no bytes to tell twice
bare_peek : (found : Option Peeked) → is_none found ≡ true → has_bytes (Replies.Peek found) ≡ false
bare_peek None none = refl
bare_peek (Some seen) none = absurd cc

unseen_ok : {A X : Type 0} (found : Option Peeked) (says : A → Reply) (shown : Result Reply X) (r : Result A X) → IsOk shown → IfOk shown (λ reply. reply ≡ Replies.Peek found) → ((s : Reply) → shown ≡ Ok s → has_bytes s ≡ false → IsOk r) → is_none found ≡ true → IsOk (said says r)
unseen_ok found says (Ok reply) r ok is plain none =
    said_ok says r (plain reply refl (ap (λ (s : Reply). has_bytes s) is ∙ bare_peek found none))
unseen_ok found says (Err fault) r ok is plain none = absurd (let no : false ≡ true = ok in cc)

pub peek_ok : {K A X : Type 0} (image : Image K) (e : End) (maxctl maxdat : Option ℕ) (flag : Wanted) (says : A → Reply) (shown : Result Reply X) (r : Result A X) → (shows_nothing image e maxctl maxdat flag ≡ true → IsOk shown) → IfOk shown (λ reply. reply ≡ (peek_effect image e maxctl maxdat flag).reply) → ((s : Reply) → shown ≡ Ok s → has_bytes s ≡ false → IsOk r) → shows_nothing image e maxctl maxdat flag ≡ true → IsOk (said says r)
peek_ok image e maxctl maxdat flag says shown r ok is plain none =
    unseen_ok (peeked_of (slice_get (end_of image e).head 0) maxctl maxdat flag) says shown r (ok none) is plain none

-- ---- the stream stays as it was

-- a list that is put back as it was
stayed : {K : Type 0} (image : Image K) (e : End) (stays : List Msg) → stays ≡ (end_of image e).head → with_head image e stays ≡ image
stayed image A stays same = ap (λ q. with_head image A q) same
stayed image B stays same = ap (λ q. with_head image B q) same

none_taken : (q : List Msg) (maxctl maxdat : Option ℕ) → is_empty q ≡ true → taken_from q maxctl maxdat ≡ q
none_taken [] maxctl maxdat none = refl
none_taken (m ∷ q) maxctl maxdat none = absurd cc

none_read : (mode : ReadMode) (prot : Prot) (n : ℕ) (q : List Msg) → is_empty q ≡ true → (read_of mode prot n q).stays ≡ q
none_read mode prot n [] none = refl
none_read mode prot n (m ∷ q) none = absurd cc

-- ---- calls that a service follows

-- what takes no memory is followed by no service
pub served_takes : {K : Type 0} (image : Image K) (e : End) (request : Request (Shape K)) → needs_no_service image e request ≡ false → takes_no_memory_at image e request ≡ false
served_takes image e (Peek maxctl maxdat flag) needs = absurd cc
served_takes image e (Strget drops) needs = absurd cc
served_takes image e request needs = needs

pub served_changes : {K : Type 0} (image : Image K) (e : End) (request : Request (Shape K)) → needs_no_service image e request ≡ false → changes_no_queue request ≡ false
served_changes image e request needs =
    (or_parts (changes_no_queue request) (has_nothing_to_do image e request) needs).0

-- an ioctl sends a message
pub ioctl_sends : {K : Type 0} (image : Image K) (e : End) (request : Request (Shape K)) → awaits_answer request ≡ true → sends_no_message image e request ≡ false
ioctl_sends image e (Str cmd dat) awaits = refl
ioctl_sends image e request awaits = absurd cc

-- ---- calls that none follows

-- for kinds of any meaning
module _ {K : Type 0} (means : Meaning K) where
  unsent : (image : Image K) (e : End) (m : Option Msg) → m ≡ None → sent_of means image e m ≡ image
  unsent image e m none = ap (λ found. sent_of means image e found) none

  untaken : (image : Image K) (e : End) (q : List Msg) → is_empty q ≡ true → IsQuiet means image → IsQuietly means image (taken_out image e q)
  untaken image e [] none quiet = left_quiet means image image Replies.Hangup refl quiet
  untaken image e (m ∷ q) none quiet = absurd cc

  -- a call that has nothing to do leaves a quiet stream as it was
  nothing_effect : (image : Image K) (e : End) (request : Request (Shape K)) → has_nothing_to_do image e request ≡ true → IsQuiet means image → IsQuietly means image (effect_of means image e request)
  nothing_effect image e (Putmsg flag parts) none quiet =
      left_quiet means image _ Replies.Putmsg (unsent image e (putmsg_message parts.ctl parts.dat flag) (putmsg_none parts.ctl parts.dat flag none)) quiet
  nothing_effect image e (Putpmsg band flag parts) none quiet =
      left_quiet means image _ Replies.Putpmsg (unsent image e (putpmsg_message parts.ctl parts.dat band flag) (putpmsg_none parts.ctl parts.dat band flag none)) quiet
  nothing_effect image e (Getmsg maxctl maxdat flag) none quiet =
      let q = (end_of image e).head in
      left_quiet means image _ _ (stayed image e (taken_from q maxctl maxdat) (none_taken q maxctl maxdat none)) quiet
  nothing_effect image e (Getpmsg maxctl maxdat band flag) none quiet =
      let q = (end_of image e).head in
      left_quiet means image _ _ (stayed image e (taken_from q maxctl maxdat) (none_taken q maxctl maxdat none)) quiet
  nothing_effect image e (Read zero) none quiet = left_quiet means image image (Replies.Read []) refl quiet
  nothing_effect image e (Read (suc n)) none quiet =
      let end = end_of image e in
      left_quiet means image _ _ (stayed image e (read_of end.state.mode end.state.prot (suc n) end.head).stays (none_read end.state.mode end.state.prot (suc n) end.head none)) quiet
  nothing_effect image e Take none quiet = untaken image e (end_of image e).drv none quiet
  nothing_effect image e (Service name side call) none quiet =
      left_quiet means image _ _ (nothing_leaves means image e (served_at image e name.items) side call none) quiet
  nothing_effect image e (Strget drops) none quiet = quiet_effect means image e (Strget drops) refl quiet
  nothing_effect image e request none quiet = absurd cc

  unserved_by : (image : Image K) (e : End) (request : Request (Shape K)) (quietly nothing : Bool) → changes_no_queue request ≡ quietly → has_nothing_to_do image e request ≡ nothing → (quietly || nothing) ≡ true → IsQuiet means image → IsQuietly means image (effect_of means image e request)
  unserved_by image e request true nothing changes has needs quiet = quiet_effect means image e request changes quiet
  unserved_by image e request false true changes has needs quiet = nothing_effect image e request has quiet
  unserved_by image e request false false changes has needs quiet = absurd cc

  -- a call that no service follows leaves a quiet stream quiet, awaits nothing and takes no module out
  pub unserved_effect : (image : Image K) (e : End) (request : Request (Shape K)) → needs_no_service image e request ≡ true → IsQuiet means image → IsQuietly means image (effect_of means image e request)
  unserved_effect image e request needs quiet =
      unserved_by image e request (changes_no_queue request) (has_nothing_to_do image e request) refl refl needs quiet
