-- Each module that stood on a stream, or was put in, was taken out or stands there.
use Rattle.std.proofs.Common.{◌≡◌, ℕ, ◌+◌, Bool, true, false, Option, Some, None, List, [], ◌∷◌, ◌++◌, map, take, drop, zero, suc, refl, sym, ◌∙◌, ap, arith}
use Rattle.strm_msg.specs.Message.{Msg, Part}
use Rattle.strm_msg.specs.declared.words.End.{End}
use Rattle.strm_msg.specs.declared.words.End.TheVariants.{A, B}
use Rattle.strm_module.specs.Kinds.{Meaning}
use Rattle.strm_module.specs.declared.shape.Shape.{Shape}
use Rattle.strm_chain_end.specs.Pair.{QueuePair}
use Rattle.strm_chain_end.specs.End.{EndState, in_drv, shapes_of}
use Rattle.strm_chain_end.specs.Modules.{SameEnd, Identity, identities_of}
use Rattle.strm_chain_end.specs.Change.{with_mode, inserted, removed, awaiting, awaiting_none, asking, asking_none}
use Rattle.strm_chain_ends.specs.declared.place.Place.{Place}
use Rattle.strm_chain.specs.declared.spot.Spot.TheVariants.{Down}
use Rattle.strm_chain_ends.specs.Image.{Image, end_of, with_end, with_state}
use Rattle.strm_chain_ends.specs.Same.{SameModules}
use Rattle.strm_chain.specs.Fault.{Breaks}
use Rattle.strm_chain_ends.proofs.TickLemmas.{ticked_keeps}
use Rattle.strm_chain.proofs.SameLemmas.{deliver_keeps, leads_keeps}
use Rattle.strm_head_calls.specs.declared.request.Request.{Request}
use Rattle.strm_head_calls.specs.declared.request.Request.TheVariants.{Putmsg, Putpmsg, Getmsg, Getpmsg, Read, Write, Push, Nread, Peek, SetRead, GetRead, Canput, Ckband, Getband, Pop, Look, Find, Str, Strput, Strget, Flush, FlushBand, Close, Take, Service, Tick, Poll}
use Rattle.strm_head_calls.specs.declared.request.Request.TheVariants as Requests
use Rattle.strm_head_calls.specs.declared.refusal.Refusal.{Refusal}
use Rattle.strm_head_calls.specs.declared.answer.Reply.{Reply}
use Rattle.strm_head_calls.specs.declared.answer.Answer.{Answer}
use Rattle.strm_head_calls.specs.declared.answer.Answer.TheVariants.{Done, Refused, Broke}
use Rattle.strm_head_calls.specs.Effect.{Effect}
use Rattle.strm_head_msg.specs.Send.{sent_of, putmsg_message, putpmsg_message, ordinary_message}
use Rattle.strm_head_ioctl.specs.Ioctl.{asked_of}
use Rattle.strm_head_ioctl.specs.Later.{put_of}
use Rattle.strm_head_ioctl.specs.Close.{closed_image}
use Rattle.strm_head_ioctl.specs.Outside.{taken_out}
use Rattle.strm_head_service.specs.Served.{served_at}
use Rattle.strm_head_service.proofs.ServeLemmas.{service_keeps}
use Rattle.strm_head_calls.specs.declared.event.Event.{Event}
use Rattle.strm_head_calls.specs.declared.event.Event.TheVariants.{Asked, Arrived}
use Rattle.strm_shared_entry.specs.Entry.{Entry}
use Rattle.strm_head_calls.specs.Calls.{changes_modules}
use Rattle.strm_head.specs.Effects.{effect_of, serials_of}
use Rattle.strm_head.specs.Step.{Answers, IsDone, SettlesUnless, Lands, Step, answered_if}
use Rattle.strm_shared_log.specs.History.{Legal}
use Rattle.strm_shared_log.specs.Serials.{standing, pushed_by, pushed_in, taken_in, times_in, AreAccounted}
use Rattle.strm_head.proofs.KeptLemmas.{after_keeps, arrived_keeps}
use Rattle.strm_head.proofs.CallLemmas.{plain_out}

-- ---- the modules that stand on a stream

times-append : (serial : ℕ) (xs ys : List ℕ) → times_in serial (xs ++ ys) ≡ times_in serial xs + times_in serial ys
times-append serial [] ys = omega arith
times-append serial (x ∷ xs) ys = let rest = times-append serial xs ys in omega arith

serials_by : {K : Type 0} (modules : List (QueuePair K)) → map (λ s. s.serial) (map (λ s. s.shape) modules) ≡ map (λ i. i.serial) (identities_of modules)
serials_by [] = refl
serials_by (s ∷ modules) = ap (λ l. s.shape.serial ∷ l) (serials_by modules)

-- what no message changes are the modules of an end
end_serials : {K : Type 0} (old new : EndState K) → SameEnd old new → serials_of (shapes_of new) ≡ serials_of (shapes_of old)
end_serials old new same =
    serials_by new.modules ∙ ap (λ l. map (λ (i : Identity). i.serial) l) same.modules ∙ sym (serials_by old.modules)

standing_same : {K : Type 0} (old new : Image K) → SameModules old new → standing new ≡ standing old
standing_same old new same =
    let on_a = end_serials old.a new.a same.on_a in
    let on_b = end_serials old.b new.b same.on_b in
    ap (λ l. l ++ serials_of (shapes_of new.b)) on_a ∙ ap (λ l. serials_of (shapes_of old.a) ++ l) on_b

broken_standing : {K : Type 0} (old new : Image K) → Breaks old new → standing new ≡ standing old
broken_standing old new breaks =
    let on_a = end_serials old.a new.a breaks.on_a in
    let on_b = end_serials old.b new.b breaks.on_b in
    ap (λ l. l ++ serials_of (shapes_of new.b)) on_a ∙ ap (λ l. serials_of (shapes_of old.a) ++ l) on_b

end_standing : {K : Type 0} (image : Image K) (e : End) (new : EndState K) → new.modules ≡ (end_of image e).modules → standing (with_end image e new) ≡ standing image
end_standing image A new same =
    ap (λ l. serials_of (map (λ s. s.shape) l) ++ serials_of (shapes_of image.b)) same
end_standing image B new same =
    ap (λ l. serials_of (shapes_of image.a) ++ serials_of (map (λ s. s.shape) l)) same

answered_standing : {K : Type 0} (awaits : Bool) (e : End) (image : Image K) → standing (answered_if awaits e image) ≡ standing image
answered_standing false e image = refl
answered_standing true e image =
    end_standing image e (record (end_of image e) { state = awaiting_none (end_of image e).state }) refl

-- ---- a module that is put in or taken out

-- a module that is put in stands there once more
inserted_times : {K : Type 0} (image : Image K) (e : End) (shape : Shape K) (serial : ℕ) → times_in serial (standing image) + times_in serial (shape.serial ∷ []) ≡ times_in serial (standing (with_end image e (inserted (end_of image e) shape)))
inserted_times image A shape serial = omega arith
inserted_times image B shape serial =
    let old = times-append serial (serials_of (shapes_of image.a)) (serials_of (shapes_of image.b)) in
    let new = times-append serial (serials_of (shapes_of image.a)) (shape.serial ∷ serials_of (shapes_of image.b)) in
    omega arith

without_first : {K : Type 0} (modules : List (QueuePair K)) (serial : ℕ) → times_in serial (serials_of (map (λ s. s.shape) modules)) ≡ times_in serial (serials_of (take 1 (map (λ s. s.shape) modules))) + times_in serial (serials_of (map (λ s. s.shape) (drop 1 modules)))
without_first [] serial = refl
without_first (s ∷ modules) serial = omega arith

-- a module that is taken out stands there once less
removed_times : {K : Type 0} (image : Image K) (e : End) (serial : ℕ) → times_in serial (standing image) + 0 ≡ times_in serial (serials_of (take 1 (shapes_of (end_of image e)))) + times_in serial (standing (with_end image e (removed (end_of image e))))
removed_times image A serial =
    let old = times-append serial (serials_of (shapes_of image.a)) (serials_of (shapes_of image.b)) in
    let new = times-append serial (serials_of (shapes_of (removed image.a))) (serials_of (shapes_of image.b)) in
    let one = without_first image.a.modules serial in
    omega arith
removed_times image B serial =
    let old = times-append serial (serials_of (shapes_of image.a)) (serials_of (shapes_of image.b)) in
    let new = times-append serial (serials_of (shapes_of image.a)) (serials_of (shapes_of (removed image.b))) in
    let one = without_first image.b.modules serial in
    omega arith

closed_times : {K : Type 0} (image : Image K) (e : End) (serial : ℕ) → times_in serial (standing image) + 0 ≡ times_in serial (serials_of (shapes_of (end_of image e))) + times_in serial (standing (closed_image image e))
closed_times image A serial =
    let old = times-append serial (serials_of (shapes_of image.a)) (serials_of (shapes_of image.b)) in
    omega arith
closed_times image B serial =
    let old = times-append serial (serials_of (shapes_of image.a)) (serials_of (shapes_of image.b)) in
    let new = times-append serial (serials_of (shapes_of image.a)) [] in
    omega arith

-- ---- a call that has begun

-- for kinds of any meaning
module _ {K : Type 0} (means : Meaning K) where
  sent_standing : (image : Image K) (e : End) (m : Option Msg) → standing (sent_of means image e m) ≡ standing image
  sent_standing image e None = refl
  sent_standing image e (Some m) = standing_same image _ (deliver_keeps means image (Down e 1) m)

  asked_standing : (image : Image K) (e : End) (cmd : ℕ) (dat : Part) (id : Option ℕ) → standing (asked_of means image e cmd dat id) ≡ standing image
  asked_standing image e cmd dat None = refl
  asked_standing image e cmd dat (Some id) =
      let r = awaiting (end_of image e).state (Some id) in
      let asked = with_state image e r in
      standing_same asked _ (deliver_keeps means asked (Down e 1) _) ∙ end_standing image e (record (end_of image e) { state = r }) refl

  put_standing : (image : Image K) (e : End) (cmd : ℕ) (dat : Part) (id : Option ℕ) → standing (put_of means image e cmd dat id) ≡ standing image
  put_standing image e cmd dat None = refl
  put_standing image e cmd dat (Some id) =
      let r = asking (end_of image e).state (Some id) in
      let asked = with_state image e r in
      standing_same asked _ (deliver_keeps means asked (Down e 1) _) ∙ end_standing image e (record (end_of image e) { state = r }) refl

  taken_standing : (image : Image K) (e : End) (q : List Msg) → standing (taken_out image e q).image ≡ standing image
  taken_standing image e [] = refl
  taken_standing image e (m ∷ q) = end_standing image e (in_drv (end_of image e) q) refl

  -- a call that changes no modules
  plain_standing : (image : Image K) (e : End) (request : Request (Shape K)) → changes_modules request ≡ false → standing (effect_of means image e request).image ≡ standing image
  plain_standing image e (Putmsg flag parts) plain = sent_standing image e (putmsg_message parts.ctl parts.dat flag)
  plain_standing image e (Putpmsg band flag parts) plain = sent_standing image e (putpmsg_message parts.ctl parts.dat band flag)
  plain_standing image e (Getmsg maxctl maxdat flag) plain = end_standing image e _ refl
  plain_standing image e (Getpmsg maxctl maxdat band flag) plain = end_standing image e _ refl
  plain_standing image e (Read zero) plain = refl
  plain_standing image e (Read (suc n)) plain = end_standing image e _ refl
  plain_standing image e (Write dat) plain = sent_standing image e (ordinary_message 0 None (Some dat))
  plain_standing image e (Push shape) plain = cc
  plain_standing image e Nread plain = refl
  plain_standing image e (Peek maxctl maxdat flag) plain = refl
  plain_standing image e (SetRead mode prot) plain = end_standing image e (record (end_of image e) { state = with_mode (end_of image e).state mode prot }) refl
  plain_standing image e GetRead plain = refl
  plain_standing image e (Canput band) plain = refl
  plain_standing image e (Ckband band) plain = refl
  plain_standing image e Getband plain = refl
  plain_standing image e Pop plain = cc
  plain_standing image e Look plain = refl
  plain_standing image e Requests.List plain = refl
  plain_standing image e (Find name) plain = refl
  plain_standing image e (Str cmd dat) plain = asked_standing image e cmd dat (end_of image e).state.next
  plain_standing image e (Strput cmd dat) plain = put_standing image e cmd dat (end_of image e).state.next
  plain_standing image e (Strget drops) plain = end_standing image e (record (end_of image e) { state = asking_none (end_of image e).state }) refl
  plain_standing image e (Flush r w) plain = standing_same image _ (deliver_keeps means image (Down e 1) _)
  plain_standing image e (FlushBand band r w) plain = standing_same image _ (deliver_keeps means image (Down e 1) _)
  plain_standing image e Close plain = cc
  plain_standing image e Take plain = taken_standing image e (end_of image e).drv
  plain_standing image e (Service name side call) plain =
      standing_same image _ (service_keeps means image e (served_at image e name.items) side call)
  plain_standing image e (Tick ticks) plain = standing_same image _ (ticked_keeps means image e ticks)
  plain_standing image e Poll plain = refl

  -- the module that a call has put in
  abbrev pushed : Request (Shape K) → List ℕ
  pushed (Push shape) = shape.serial ∷ []
  pushed request = []

  plain_times : (image : Image K) (e : End) (request : Request (Shape K)) (serial : ℕ) → changes_modules request ≡ false → times_in serial (standing image) + 0 ≡ times_in serial (serials_of (effect_of means image e request).out) + times_in serial (standing (effect_of means image e request).image)
  plain_times image e request serial plain =
      rw (plain_out means image e request plain, plain_standing image e request plain) (let n = times_in serial (standing image) in omega arith)

  -- what a call has begun
  effect_times : (image : Image K) (e : End) (request : Request (Shape K)) (serial : ℕ) → times_in serial (standing image) + times_in serial (pushed request) ≡ times_in serial (serials_of (effect_of means image e request).out) + times_in serial (standing (effect_of means image e request).image)
  effect_times image e (Push shape) serial =
      let more = inserted_times image e shape serial in omega arith
  effect_times image e Pop serial = removed_times image e serial
  effect_times image e Close serial =
      rw (standing_same (closed_image image e) _ (after_keeps means image.broken (closed_image image e) e)) (closed_times image e serial)
  effect_times image e request serial = plain_times image e request serial refl

  -- ---- a call that is answered

  settled_standing : (broken : Bool) (old : Image K) (moves : List Place) (new : Image K) → SettlesUnless means broken old moves new → standing new ≡ standing old
  settled_standing true old moves new still = ap (λ (i : Image K). standing i) still.unchanged
  settled_standing false old moves new settles = standing_same old new (leads_keeps means old moves new settles.leads)

  done_standing : (e : End) (effect : Effect (Image K) K) (reply : Reply) (moves : List Place) (out : List ℕ) (after : Image K) → IsDone means e effect reply moves out after → standing after ≡ standing effect.image
  done_standing e effect reply moves out after done =
      ap (λ (i : Image K). standing i) done.leaves
      ∙ answered_standing effect.awaits e done.settled
      ∙ settled_standing effect.image.broken effect.image moves done.settled done.settles

  pushed_done : (request : Request (Shape K)) (reply : Reply) → pushed_by (Asked request) (Done reply) ≡ pushed request
  pushed_done (Push shape) reply = refl
  pushed_done request reply = refl

  pushed_broke : (request : Request (Shape K)) → pushed_by (Asked request) Broke ≡ pushed request
  pushed_broke (Push shape) = refl
  pushed_broke request = refl

  pushed_none : (request : Request (Shape K)) (refusal : Refusal) → pushed_by (Asked request) (Refused refusal) ≡ []
  pushed_none (Push shape) refusal = refl
  pushed_none request refusal = refl

  -- ---- each step of a history

  -- a call
  answered_times : (image : Image K) (e : End) (request : Request (Shape K)) (answer : Answer) (moves : List Place) (out : List ℕ) (after : Image K) (serial : ℕ) → Answers means image e request answer moves out after → times_in serial (standing image) + times_in serial (pushed_by (Asked request) answer) ≡ times_in serial out + times_in serial (standing after)
  answered_times image e request (Refused refusal) moves out after serial answers =
      rw (answers.takes_none, answers.unchanged, pushed_none request refusal) (let n = times_in serial (standing image) in omega arith)
  answered_times image e request (Done reply) moves out after serial answers =
      rw (answers.2.takes, done_standing e _ reply moves out after answers.2, pushed_done request reply) (effect_times image e request serial)
  answered_times image e request Broke moves out after serial answers =
      rw (answers.3.takes, broken_standing _ after answers.3.breaks, pushed_broke request) (effect_times image e request serial)

  -- a message that came in
  landed_times : (image : Image K) (e : End) (m : Msg) (answer : Answer) (moves : List Place) (out : List ℕ) (after : Image K) (serial : ℕ) → Lands means image e m answer moves out after → times_in serial (standing image) + 0 ≡ times_in serial out + times_in serial (standing after)
  landed_times image e m (Refused refusal) moves out after serial lands = absurd lands
  landed_times image e m (Done reply) moves out after serial lands =
      rw (lands.1.takes, done_standing e _ reply moves out after lands.1, standing_same image _ (arrived_keeps means image e m)) (let n = times_in serial (standing image) in omega arith)
  landed_times image e m Broke moves out after serial lands =
      rw (lands.1.takes, broken_standing _ after lands.1.breaks, standing_same image _ (arrived_keeps means image e m)) (let n = times_in serial (standing image) in omega arith)

  event_times : (image : Image K) (e : End) (event : Event (Shape K)) (answer : Answer) (moves : List Place) (out : List ℕ) (after : Image K) (serial : ℕ) → Step means image e event answer moves out after → times_in serial (standing image) + times_in serial (pushed_by event answer) ≡ times_in serial out + times_in serial (standing after)
  event_times image e (Asked request) answer moves out after serial step =
      answered_times image e request answer moves out after serial step
  event_times image e (Arrived m) (Done reply) moves out after serial step =
      landed_times image e m (Done reply) moves out after serial step
  event_times image e (Arrived m) (Refused refusal) moves out after serial step = absurd step
  event_times image e (Arrived m) Broke moves out after serial step =
      landed_times image e m Broke moves out after serial step

  -- every legal history
  pub legal_accounts : (start : Image K) (entries : List (Entry K)) (after : Image K) → Legal means start entries after → AreAccounted start entries after
  legal_accounts start [] after same serial = rw same (let n = times_in serial (standing start) in omega arith)
  legal_accounts start (entry ∷ entries) after legal serial =
      let one = event_times start entry.end entry.event entry.answer entry.moves entry.out.items legal.0 serial legal.1.step in
      let rest = legal_accounts legal.0 entries after legal.2 serial in
      let pushes = times-append serial (pushed_by entry.event entry.answer) (pushed_in entries) in
      let takes = times-append serial entry.out.items (taken_in entries) in
      omega arith
