-- What a stream keeps from call to call: which ends are open, and that no place must move.
use Rattle.std.proofs.Common.{◌≡◌, ℕ, ◌+◌, ◌||◌, not, true, false, Bool, Option, Some, None, List, ◌∷◌, suc, zero, refl, sym, ◌∙◌, ap, subst, if◌then◌else◌, [], ◌&&◌}
use Rattle.std.specs.Option.{option_or}
use Rattle.strm_msg.specs.Message.{Msg, Part}
use Rattle.strm_msg.specs.Kind.{is_high}
use Rattle.strm_msg.specs.declared.words.End.{End}
use Rattle.strm_msg.specs.declared.words.End.TheVariants.{A, B}
use Rattle.strm_module.specs.Kinds.{Meaning, AnswersStay}
use Rattle.strm_module.specs.declared.shape.Shape.{Shape}
use Rattle.strm_queue.specs.Queue.{put_in}
use Rattle.strm_module.specs.Driver.{partner, has_end, input_end}
use Rattle.strm_head_ioctl.specs.Outside.{has_output, take_refusals, taken_out}
use Rattle.strm_head_ioctl.specs.Ask.{is_empty}
use Rattle.strm_chain_end.specs.End.{EndState, in_drv}
use Rattle.strm_chain_end.specs.Modules.{SameEnd}
use Rattle.strm_chain_end.specs.Canput.{above, slack_in}
use Rattle.strm_chain_end.specs.Change.{with_mode, has_room, inserted, removed, closed, awaiting, awaiting_none, asking, asking_none}
use Rattle.strm_chain_end.specs.declared.record.Record.{Record}
use Rattle.strm_chain_ends.specs.declared.place.Place.{Place}
use Rattle.strm_chain_ends.specs.declared.place.Place.TheVariants as Places
use Rattle.strm_chain_ends.specs.Image.{Image, end_of, with_end, with_head, with_state, count_of}
use Rattle.strm_chain.specs.declared.spot.Spot.TheVariants.{Down, Up}
use Rattle.strm_chain_ends.specs.Path.{ahead}
use Rattle.strm_chain_ends.specs.Flow.{offer_of, is_due, due_front, IsQuiet}
use Rattle.strm_chain_end.specs.declared.offer.Offer.{Offer}
use Rattle.strm_chain_ends.specs.Same.{SameModules}
use Rattle.strm_chain_ends.specs.Order.{goes_round, IsOrdered}
use Rattle.strm_chain_ends.proofs.OrderLemmas.{end_ordered, pushed_ordered, popped_ordered, closed_ordered, expired_ordered}
use Rattle.strm_chain_ends.proofs.TickLemmas.{ticked_keeps}
use Rattle.strm_chain.specs.Fault.{Breaks}
use Rattle.strm_chain.specs.Deliver.{deliver}
use Rattle.strm_chain.proofs.QuietLemmas.{same_end}
use Rattle.strm_chain.proofs.SameLemmas.{deliver_keeps, leads_keeps, with_end_keeps}
use Rattle.strm_chain.proofs.OrderLemmas.{delivered_ordered, led_ordered}
use Rattle.strm_head_calls.specs.declared.request.Request.{Request}
use Rattle.strm_head_calls.specs.declared.request.Request.TheVariants.{Putmsg, Putpmsg, Getmsg, Getpmsg, Read, Write, Push, Nread, Peek, SetRead, GetRead, Canput, Ckband, Getband, Pop, Look, Find, Str, Strput, Strget, Flush, FlushBand, Close, Take, Service, Tick, Poll}
use Rattle.strm_head_calls.specs.declared.request.Request.TheVariants as Requests
use Rattle.strm_head_calls.specs.declared.refusal.Refusal.{Refusal}
use Rattle.strm_head_calls.specs.declared.refusal.Refusal.TheVariants.{Closed, Broken, Invalid, HungUp, WouldWait}
use Rattle.strm_head_calls.specs.declared.answer.Reply.{Reply}
use Rattle.strm_head_calls.specs.declared.answer.Answer.{Answer}
use Rattle.strm_head_calls.specs.declared.answer.Answer.TheVariants.{Done, Refused, Broke}
use Rattle.strm_head_calls.specs.Refusal.{first_that_holds}
use Rattle.strm_head_calls.specs.Effect.{Effect, effect}
use Rattle.strm_head_msg.specs.Send.{sent_of, putmsg_message, putpmsg_message, ordinary_message}
use Rattle.strm_head_ioctl.specs.Ioctl.{asked_of}
use Rattle.strm_head_ioctl.specs.Later.{put_of}
use Rattle.strm_head_ioctl.specs.Close.{closed_image, hung_up_if, after_close, HasItsEnds}
use Rattle.strm_head_ioctl.proofs.CloseLemmas.{hung_up_keeps}
use Rattle.strm_head_calls.specs.Request.{changes_no_queue}
use Rattle.strm_head_service.specs.Served.{served_at}
use Rattle.strm_head_service.proofs.ServeLemmas.{unrefused, service_keeps, service_leaves, service_ordered}
use Rattle.strm_head.specs.Effects.{effect_of, refusal_of, errors_at, finds_whole, common_refusals, own_refusals}
use Rattle.strm_head.proofs.RefusalLemmas.{first_of_all, own_none}
use Rattle.strm_head.specs.Inside.{IsIdle, AreIdle, IsWholeStream, OpensNone}
use Rattle.strm_head.specs.Step.{Answers, IsDone, IsBroken, SettlesUnless, Lands, arrival, arrived_of, answered_if}

-- ---- ends that are open

-- what a message leaves opens no end
opened_in : {K : Type 0} (old new : Image K) → SameModules old new → (e : End) → (end_of new e).is_open ≡ true → (end_of old e).is_open ≡ true
opened_in old new same A h = sym same.on_a.is_open ∙ h
opened_in old new same B h = sym same.on_b.is_open ∙ h

same_opens : {K : Type 0} (old new : Image K) → SameModules old new → OpensNone old new
same_opens old new same = record { driver = same.driver; broken = same.broken; ends = opened_in old new same }

-- a change of one end that leaves it open or closed opens no end
opened_by : {K : Type 0} (image : Image K) (e : End) (new : EndState K) → new.is_open ≡ (end_of image e).is_open → (x : End) → (end_of (with_end image e new) x).is_open ≡ true → (end_of image x).is_open ≡ true
opened_by image A new same A h = sym same ∙ h
opened_by image A new same B h = h
opened_by image B new same A h = h
opened_by image B new same B h = sym same ∙ h

end_opens : {K : Type 0} (image : Image K) (e : End) (new : EndState K) → new.is_open ≡ (end_of image e).is_open → OpensNone image (with_end image e new)
end_opens image A new same = record { driver = refl; broken = refl; ends = opened_by image A new same }
end_opens image B new same = record { driver = refl; broken = refl; ends = opened_by image B new same }

head_opens : {K : Type 0} (image : Image K) (e : End) (q : List Msg) → OpensNone image (with_head image e q)
head_opens image e q = end_opens image e (record (end_of image e) { head = q }) refl

none_opens : {K : Type 0} (image : Image K) → OpensNone image image
none_opens image = record { driver = refl; broken = refl; ends = λ e h. h }

-- ends that are the driver's stay so
pub ends_stay : {K : Type 0} (old new : Image K) → OpensNone old new → HasItsEnds old → HasItsEnds new
ends_stay old new opens ends e h = ap (λ d. has_end d e) opens.driver ∙ ends e (opens.ends e h)

-- ---- a call that is not refused

-- a call that is not refused, and is no close, finds a stream that is not broken
whole_if : (opened broken : Bool) (errors : List (Bool × Refusal)) → first_that_holds ((not opened, Closed) ∷ (broken, Broken) ∷ errors) ≡ None → broken ≡ false
whole_if true false errors h = refl
whole_if true true errors h = cc
whole_if false broken errors h = cc

pub none_before : (first later : Option Refusal) → option_or first later ≡ None → first ≡ None
none_before None later h = refl
none_before (Some refusal) later h = cc

-- nor is what would be refused by a second row
pub second_false : (one two : Bool) (r s : Refusal) (rows : List (Bool × Refusal)) → first_that_holds ((one, r) ∷ (two, s) ∷ rows) ≡ None → two ≡ false
second_false false false r s rows h = refl
second_false false true r s rows h = cc
second_false true two r s rows h = cc

pub take_whole : {K : Type 0} (image : Image K) (e : End) → first_that_holds (take_refusals image e) ≡ None → image.broken ≡ false
take_whole image e h =
    second_false (not (has_output image e) && not (end_of image e).is_open) image.broken Closed Broken
    ((not (has_output image e), Invalid) ∷ ((is_empty (end_of image e).drv && (end_of image e).is_open, WouldWait) ∷ [])) h

pub whole_of : {K : Type 0} (means : Meaning K) (image : Image K) (e : End) (request : Request (Shape K)) → refusal_of means image e request ≡ None → finds_whole request ≡ true → image.broken ≡ false
whole_of means image e Close h finds = cc
whole_of means image e Poll h finds = cc
whole_of means image e Take h finds = take_whole image e h
whole_of means image e (Service name side call) h finds = (unrefused image e name.items side call h).whole
whole_of means image e request h finds =
    whole_if (end_of image e).is_open image.broken (errors_at image e request)
    (none_before (first_that_holds (common_refusals image e request)) (first_that_holds (own_refusals means image e request)) (sym (first_of_all means image e request refl) ∙ h))

-- ---- the record of a head

-- the record of a head is no part of what moves
same_above : {K : Type 0} (image : Image K) (e : End) (r : Record) (p : End) → above (end_of (with_state image e r) p) (count_of (with_state image e r) p + 1) ≡ above (end_of image p) (count_of image p + 1)
same_above image A r A = refl
same_above image A r B = refl
same_above image B r A = refl
same_above image B r B = refl

same_ahead : {K : Type 0} (image : Image K) (e : End) (r : Record) (place : Place) → ahead (with_state image e r) place ≡ ahead image place
same_ahead image A r (Places.Wr A i) = refl
same_ahead image A r (Places.Wr B i) = refl
same_ahead image B r (Places.Wr A i) = refl
same_ahead image B r (Places.Wr B i) = refl
same_ahead image A r (Places.Drv x) = same_above image A r (partner image.driver x)
same_ahead image B r (Places.Drv x) = same_above image B r (partner image.driver x)
same_ahead image A r (Places.Rd A i) = refl
same_ahead image A r (Places.Rd B i) = refl
same_ahead image B r (Places.Rd A i) = refl
same_ahead image B r (Places.Rd B i) = refl

due_by : {K : Type 0} (old new : Image K) (place : Place) (front : Option Offer) → ahead new place ≡ ahead old place → due_front new place front ≡ due_front old place front
due_by old new place None h = refl
due_by old new place (Some m) h = ap (λ fill. m.is_high || slack_in fill m.band) h

same_offer : {K : Type 0} (means : Meaning K) (image : Image K) (e : End) (r : Record) (place : Place) → offer_of means (with_state image e r) place ≡ offer_of means image place
same_offer means image A r (Places.Wr A i) = refl
same_offer means image A r (Places.Wr B i) = refl
same_offer means image B r (Places.Wr A i) = refl
same_offer means image B r (Places.Wr B i) = refl
same_offer means image A r (Places.Drv A) = refl
same_offer means image A r (Places.Drv B) = refl
same_offer means image B r (Places.Drv A) = refl
same_offer means image B r (Places.Drv B) = refl
same_offer means image A r (Places.Rd A i) = refl
same_offer means image A r (Places.Rd B i) = refl
same_offer means image B r (Places.Rd A i) = refl
same_offer means image B r (Places.Rd B i) = refl

same_due : {K : Type 0} (means : Meaning K) (image : Image K) (e : End) (r : Record) (place : Place) → is_due means (with_state image e r) place ≡ is_due means image place
same_due means image e r place =
    ap (due_front (with_state image e r) place) (same_offer means image e r place) ∙ due_by image (with_state image e r) place (offer_of means image place) (same_ahead image e r place)

state_quiet : {K : Type 0} (means : Meaning K) (image : Image K) (e : End) (r : Record) → IsQuiet means image → IsQuiet means (with_state image e r)
state_quiet means image e r quiet place = same_due means image e r place ∙ quiet place

-- ---- an end that is closed

opens_trans : {K : Type 0} (old mid new : Image K) → OpensNone old mid → OpensNone mid new → OpensNone old new
opens_trans old mid new p q =
    record { driver = q.driver ∙ p.driver; broken = q.broken ∙ p.broken; ends = λ e h. p.ends e (q.ends e h) }

-- to close an end opens none
shut : {K : Type 0} (image : Image K) (e x : End) → (end_of (closed_image image e) x).is_open ≡ true → (end_of image x).is_open ≡ true
shut image A A h = cc
shut image A B h = h
shut image B A h = h
shut image B B h = cc

closed_opens : {K : Type 0} (image : Image K) (e : End) → OpensNone image (closed_image image e)
closed_opens image A = record { driver = refl; broken = refl; ends = shut image A }
closed_opens image B = record { driver = refl; broken = refl; ends = shut image B }

state_opens : {K : Type 0} (image : Image K) (e : End) (r : Record) → OpensNone image (with_state image e r)
state_opens image e r = end_opens image e (record (end_of image e) { state = r }) refl

-- ---- heads that await no answer

-- what a message leaves awaits no answer where none was awaited
idle_end : {K : Type 0} (old new : EndState K) → SameEnd old new → IsIdle old.state → IsIdle new.state
idle_end old new same idle =
    record { pending = same.ids.pending ∙ idle.pending; kept = same.ids.kept idle.pending ∙ idle.kept }

idle_same : {K : Type 0} (old new : Image K) → SameModules old new → AreIdle old → AreIdle new
idle_same old new same idle A = idle_end old.a new.a same.on_a (idle A)
idle_same old new same idle B = idle_end old.b new.b same.on_b (idle B)

idle_with : {K : Type 0} (image : Image K) (e : End) (new : EndState K) → IsIdle new.state → AreIdle image → AreIdle (with_end image e new)
idle_with image A new is idle A = is
idle_with image A new is idle B = idle B
idle_with image B new is idle A = idle A
idle_with image B new is idle B = is

-- a head that awaits an answer no longer is idle, and the other is as before
idle_ended : {K : Type 0} (image : Image K) (e : End) (r : Record) (new : Image K) → SameModules (with_state image e r) new → AreIdle image → AreIdle (answered_if true e new)
idle_ended image A r new same idle A = record { pending = refl; kept = refl }
idle_ended image A r new same idle B = idle_end image.b new.b same.on_b (idle B)
idle_ended image B r new same idle A = idle_end image.a new.a same.on_a (idle A)
idle_ended image B r new same idle B = record { pending = refl; kept = refl }

same_image : {K : Type 0} (image : Image K) → SameModules image image
same_image image =
    record { driver = refl; broken = refl; on_a = same_end image.a; on_b = same_end image.b }

-- what moves keeps idle what is idle once the answer is taken
answered_idle : {K : Type 0} (awaits : Bool) (e : End) (old new : Image K) → SameModules old new → AreIdle (answered_if awaits e old) → AreIdle (answered_if awaits e new)
answered_idle false e old new same idle x = idle_same old new same idle x
answered_idle true A old new same idle A = record { pending = refl; kept = refl }
answered_idle true A old new same idle B = idle_end old.b new.b same.on_b (idle B)
answered_idle true B old new same idle A = idle_end old.a new.a same.on_a (idle A)
answered_idle true B old new same idle B = record { pending = refl; kept = refl }

answered_quiet : {K : Type 0} (means : Meaning K) (awaits : Bool) (e : End) (image : Image K) → IsQuiet means image → IsQuiet means (answered_if awaits e image)
answered_quiet means false e image quiet = quiet
answered_quiet means true e image quiet = state_quiet means image e (awaiting_none (end_of image e).state) quiet

answered_opens : {K : Type 0} (awaits : Bool) (e : End) (image : Image K) → OpensNone image (answered_if awaits e image)
answered_opens false e image = none_opens image
answered_opens true e image = state_opens image e (awaiting_none (end_of image e).state)

same_but_drv : {K : Type 0} (e : EndState K) (q : List Msg) → SameEnd e (in_drv e q)
same_but_drv e q =
    record {
      is_open = refl;
      drv_marks = refl;
      modules = refl;
      ids = record { next = refl; pending = refl; kept = λ none. refl; asked = refl; answer = λ none. refl };
    }

-- ---- calls, by kinds of any meaning

-- what a call that changes no queue has done
pub record IsQuietly {K : Type 0} (means : Meaning K) (image : Image K) (effect : Effect (Image K) K) : Type 0 where
  pub quiet : IsQuiet means effect.image
  pub broken : effect.image.broken ≡ image.broken
  pub awaits : effect.awaits ≡ false

-- a call that has left the image as it was
pub left_quiet : {K : Type 0} (means : Meaning K) (image after : Image K) (reply : Reply) → after ≡ image → IsQuiet means image → IsQuietly means image (effect after reply)
left_quiet {K} means image after reply same quiet =
    record {
      quiet = subst (λ (i : Image K). IsQuiet means i) (sym same) quiet;
      broken = ap (λ (i : Image K). i.broken) same;
      awaits = refl;
    }

-- for kinds of any meaning
module _ {K : Type 0} (means : Meaning K) where
  sent_opens : (image : Image K) (e : End) (m : Option Msg) → OpensNone image (sent_of means image e m)
  sent_opens image e None = none_opens image
  sent_opens image e (Some m) = same_opens image (sent_of means image e (Some m)) (deliver_keeps means image (Down e 1) m)

  asked_opens : (image : Image K) (e : End) (cmd : ℕ) (dat : Part) (id : Option ℕ) → OpensNone image (asked_of means image e cmd dat id)
  asked_opens image e cmd dat None = none_opens image
  asked_opens image e cmd dat (Some id) =
      let asked = with_state image e (awaiting (end_of image e).state (Some id)) in
      opens_trans image asked _ (state_opens image e _) (same_opens asked _ (deliver_keeps means asked (Down e 1) _))

  put_opens : (image : Image K) (e : End) (cmd : ℕ) (dat : Part) (id : Option ℕ) → OpensNone image (put_of means image e cmd dat id)
  put_opens image e cmd dat None = none_opens image
  put_opens image e cmd dat (Some id) =
      let asked = with_state image e (asking (end_of image e).state (Some id)) in
      opens_trans image asked _ (state_opens image e _) (same_opens asked _ (deliver_keeps means asked (Down e 1) _))

  pub after_keeps : (broken : Bool) (image : Image K) (e : End) → SameModules image (after_close means broken image e)
  after_keeps true image e = same_image image
  after_keeps false image e = hung_up_keeps means image (partner image.driver e)

  taken_opens : (image : Image K) (e : End) (q : List Msg) → OpensNone image (taken_out image e q).image
  taken_opens image e [] = none_opens image
  taken_opens image e (m ∷ q) = end_opens image e (in_drv (end_of image e) q) refl

  -- no call opens an end
  pub effect_opens : (image : Image K) (e : End) (request : Request (Shape K)) → OpensNone image (effect_of means image e request).image
  effect_opens image e (Putmsg flag parts) = sent_opens image e (putmsg_message parts.ctl parts.dat flag)
  effect_opens image e (Putpmsg band flag parts) = sent_opens image e (putpmsg_message parts.ctl parts.dat band flag)
  effect_opens image e (Getmsg maxctl maxdat flag) = head_opens image e _
  effect_opens image e (Getpmsg maxctl maxdat band flag) = head_opens image e _
  effect_opens image e (Read zero) = none_opens image
  effect_opens image e (Read (suc n)) = head_opens image e _
  effect_opens image e (Write dat) = sent_opens image e (ordinary_message 0 None (Some dat))
  effect_opens image e (Push shape) = end_opens image e (inserted (end_of image e) shape) refl
  effect_opens image e Nread = none_opens image
  effect_opens image e (Peek maxctl maxdat flag) = none_opens image
  effect_opens image e (SetRead mode prot) =
      end_opens image e (record (end_of image e) { state = with_mode (end_of image e).state mode prot }) refl
  effect_opens image e GetRead = none_opens image
  effect_opens image e (Canput band) = none_opens image
  effect_opens image e (Ckband band) = none_opens image
  effect_opens image e Getband = none_opens image
  effect_opens image e Pop = end_opens image e (removed (end_of image e)) refl
  effect_opens image e Look = none_opens image
  effect_opens image e Requests.List = none_opens image
  effect_opens image e (Find name) = none_opens image
  effect_opens image e (Str cmd dat) = asked_opens image e cmd dat (end_of image e).state.next
  effect_opens image e (Strput cmd dat) = put_opens image e cmd dat (end_of image e).state.next
  effect_opens image e (Strget drops) = state_opens image e (asking_none (end_of image e).state)
  effect_opens image e (Flush r w) = same_opens image _ (deliver_keeps means image (Down e 1) _)
  effect_opens image e (FlushBand band r w) = same_opens image _ (deliver_keeps means image (Down e 1) _)
  effect_opens image e Take = taken_opens image e (end_of image e).drv
  effect_opens image e (Service name side call) =
      same_opens image _ (service_keeps means image e (served_at image e name.items) side call)
  effect_opens image e (Tick ticks) = same_opens image _ (ticked_keeps means image e ticks)
  effect_opens image e Poll = none_opens image
  effect_opens image e Close =
      opens_trans image (closed_image image e) _ (closed_opens image e) (same_opens (closed_image image e) _ (after_keeps image.broken (closed_image image e) e))

  -- a call that changes no queue leaves a quiet stream quiet, awaits nothing and takes no module out
  pub quiet_effect : (image : Image K) (e : End) (request : Request (Shape K)) → changes_no_queue request ≡ true → IsQuiet means image → IsQuietly means image (effect_of means image e request)
  quiet_effect image e (Putmsg flag parts) is quiet = cc
  quiet_effect image e (Putpmsg band flag parts) is quiet = cc
  quiet_effect image e (Getmsg maxctl maxdat flag) is quiet = cc
  quiet_effect image e (Getpmsg maxctl maxdat band flag) is quiet = cc
  quiet_effect image e (Read max) is quiet = cc
  quiet_effect image e (Write dat) is quiet = cc
  quiet_effect image e (Push shape) is quiet = cc
  quiet_effect image e Nread is quiet = record { quiet = quiet; broken = refl; awaits = refl }
  quiet_effect image e (Peek maxctl maxdat flag) is quiet = record { quiet = quiet; broken = refl; awaits = refl }
  quiet_effect image e (SetRead mode prot) is quiet =
      let r = with_mode (end_of image e).state mode prot in
      record { quiet = state_quiet means image e r quiet; broken = (state_opens image e r).broken; awaits = refl }
  quiet_effect image e GetRead is quiet = record { quiet = quiet; broken = refl; awaits = refl }
  quiet_effect image e (Canput band) is quiet = record { quiet = quiet; broken = refl; awaits = refl }
  quiet_effect image e (Ckband band) is quiet = record { quiet = quiet; broken = refl; awaits = refl }
  quiet_effect image e Getband is quiet = record { quiet = quiet; broken = refl; awaits = refl }
  quiet_effect image e Pop is quiet = cc
  quiet_effect image e Look is quiet = record { quiet = quiet; broken = refl; awaits = refl }
  quiet_effect image e Requests.List is quiet = record { quiet = quiet; broken = refl; awaits = refl }
  quiet_effect image e (Find name) is quiet = record { quiet = quiet; broken = refl; awaits = refl }
  quiet_effect image e (Str cmd dat) is quiet = cc
  quiet_effect image e (Strput cmd dat) is quiet = cc
  quiet_effect image e (Strget drops) is quiet =
      let r = asking_none (end_of image e).state in
      record { quiet = state_quiet means image e r quiet; broken = (state_opens image e r).broken; awaits = refl }
  quiet_effect image e (Flush r w) is quiet = cc
  quiet_effect image e (FlushBand band r w) is quiet = cc
  quiet_effect image e Close is quiet = cc
  quiet_effect image e Take is quiet = cc
  quiet_effect image e (Service name side call) is quiet =
      left_quiet means image _ _ (service_leaves means image e (served_at image e name.items) side call is) quiet
  quiet_effect image e (Tick ticks) is quiet = cc
  quiet_effect image e Poll is quiet = record { quiet = quiet; broken = refl; awaits = refl }

  -- ---- calls leave heads that await no answer

  sent_idle : (image : Image K) (e : End) (m : Option Msg) → AreIdle image → AreIdle (sent_of means image e m)
  sent_idle image e None idle = idle
  sent_idle image e (Some m) idle = idle_same image _ (deliver_keeps means image (Down e 1) m) idle

  asked_idle : (image : Image K) (e : End) (cmd : ℕ) (dat : Part) (id : Option ℕ) → AreIdle image → AreIdle (answered_if true e (asked_of means image e cmd dat id))
  asked_idle image e cmd dat None idle =
      idle_with image e (record (end_of image e) { state = awaiting_none (end_of image e).state }) (record { pending = refl; kept = refl }) idle
  asked_idle image e cmd dat (Some id) idle =
      let r = awaiting (end_of image e).state (Some id) in
      idle_ended image e r _ (deliver_keeps means (with_state image e r) (Down e 1) _) idle

  put_idle : (image : Image K) (e : End) (cmd : ℕ) (dat : Part) (id : Option ℕ) → AreIdle image → AreIdle (put_of means image e cmd dat id)
  put_idle image e cmd dat None idle = idle
  put_idle image e cmd dat (Some id) idle =
      let r = asking (end_of image e).state (Some id) in
      idle_same (with_state image e r) _ (deliver_keeps means (with_state image e r) (Down e 1) _) (idle_with image e (record (end_of image e) { state = r }) (record { pending = (idle e).pending; kept = (idle e).kept }) idle)

  taken_idle : (image : Image K) (e : End) (q : List Msg) → AreIdle image → AreIdle (answered_if (taken_out image e q).awaits e (taken_out image e q).image)
  taken_idle image e [] idle = idle
  taken_idle image e (m ∷ q) idle = idle_with image e (in_drv (end_of image e) q) (idle e) idle

  -- a call awaits no answer once it has it
  effect_idle : (image : Image K) (e : End) (request : Request (Shape K)) → AreIdle image → AreIdle (answered_if (effect_of means image e request).awaits e (effect_of means image e request).image)
  effect_idle image e (Putmsg flag parts) idle = sent_idle image e (putmsg_message parts.ctl parts.dat flag) idle
  effect_idle image e (Putpmsg band flag parts) idle = sent_idle image e (putpmsg_message parts.ctl parts.dat band flag) idle
  effect_idle image e (Getmsg maxctl maxdat flag) idle = idle_with image e _ (idle e) idle
  effect_idle image e (Getpmsg maxctl maxdat band flag) idle = idle_with image e _ (idle e) idle
  effect_idle image e (Read zero) idle = idle
  effect_idle image e (Read (suc n)) idle = idle_with image e _ (idle e) idle
  effect_idle image e (Write dat) idle = sent_idle image e (ordinary_message 0 None (Some dat)) idle
  effect_idle image e (Push shape) idle = idle_with image e (inserted (end_of image e) shape) (idle e) idle
  effect_idle image e Nread idle = idle
  effect_idle image e (Peek maxctl maxdat flag) idle = idle
  effect_idle image e (SetRead mode prot) idle =
      idle_with image e (record (end_of image e) { state = with_mode (end_of image e).state mode prot }) (record { pending = (idle e).pending; kept = (idle e).kept }) idle
  effect_idle image e GetRead idle = idle
  effect_idle image e (Canput band) idle = idle
  effect_idle image e (Ckband band) idle = idle
  effect_idle image e Getband idle = idle
  effect_idle image e Pop idle = idle_with image e (removed (end_of image e)) (idle e) idle
  effect_idle image e Look idle = idle
  effect_idle image e Requests.List idle = idle
  effect_idle image e (Find name) idle = idle
  effect_idle image e (Str cmd dat) idle = asked_idle image e cmd dat (end_of image e).state.next idle
  effect_idle image e (Strput cmd dat) idle = put_idle image e cmd dat (end_of image e).state.next idle
  effect_idle image e (Strget drops) idle =
      idle_with image e (record (end_of image e) { state = asking_none (end_of image e).state }) (record { pending = (idle e).pending; kept = (idle e).kept }) idle
  effect_idle image e (Flush r w) idle = idle_same image _ (deliver_keeps means image (Down e 1) _) idle
  effect_idle image e (FlushBand band r w) idle = idle_same image _ (deliver_keeps means image (Down e 1) _) idle
  effect_idle image e Take idle = taken_idle image e (end_of image e).drv idle
  effect_idle image e (Service name side call) idle =
      idle_same image _ (service_keeps means image e (served_at image e name.items) side call) idle
  effect_idle image e (Tick ticks) idle = idle_same image _ (ticked_keeps means image e ticks) idle
  effect_idle image e Poll idle = idle
  effect_idle image e Close idle =
      idle_same (closed_image image e) _ (after_keeps image.broken (closed_image image e) e) (idle_with image e (closed (end_of image e)) (record { pending = (idle e).pending; kept = (idle e).kept }) idle)

  -- ---- calls keep messages from going round

  -- what changes no module keeps messages from going round
  head_ordered : (image : Image K) (e : End) (q : List Msg) → IsOrdered means image → IsOrdered means (with_head image e q)
  head_ordered image e q = end_ordered means image e (record (end_of image e) { head = q }) refl

  state_ordered : (image : Image K) (e : End) (r : Record) → IsOrdered means image → IsOrdered means (with_state image e r)
  state_ordered image e r = end_ordered means image e (record (end_of image e) { state = r }) refl

  answered_ordered : (awaits : Bool) (e : End) (image : Image K) → IsOrdered means image → IsOrdered means (answered_if awaits e image)
  answered_ordered false e image ordered = ordered
  answered_ordered true e image ordered = state_ordered image e (awaiting_none (end_of image e).state) ordered

  taken_ordered : (image : Image K) (e : End) (q : List Msg) → IsOrdered means image → IsOrdered means (taken_out image e q).image
  taken_ordered image e [] ordered = ordered
  taken_ordered image e (m ∷ q) ordered = end_ordered means image e (in_drv (end_of image e) q) refl ordered

  -- nor does what a message leaves, where kinds answer as they did
  module _ (stay : AnswersStay means) where
    sent_ordered : (image : Image K) (e : End) (m : Option Msg) → IsOrdered means image → IsOrdered means (sent_of means image e m)
    sent_ordered image e None ordered = ordered
    sent_ordered image e (Some m) ordered = delivered_ordered means stay image (Down e 1) m ordered

    asked_ordered : (image : Image K) (e : End) (cmd : ℕ) (dat : Part) (id : Option ℕ) → IsOrdered means image → IsOrdered means (asked_of means image e cmd dat id)
    asked_ordered image e cmd dat None ordered = ordered
    asked_ordered image e cmd dat (Some id) ordered =
        let r = awaiting (end_of image e).state (Some id) in
        delivered_ordered means stay (with_state image e r) (Down e 1) _ (state_ordered image e r ordered)

    put_ordered : (image : Image K) (e : End) (cmd : ℕ) (dat : Part) (id : Option ℕ) → IsOrdered means image → IsOrdered means (put_of means image e cmd dat id)
    put_ordered image e cmd dat None ordered = ordered
    put_ordered image e cmd dat (Some id) ordered =
        let r = asking (end_of image e).state (Some id) in
        delivered_ordered means stay (with_state image e r) (Down e 1) _ (state_ordered image e r ordered)

    hangup_ordered : (opened : Bool) (image : Image K) (e : End) → IsOrdered means image → IsOrdered means (hung_up_if means opened image e)
    hangup_ordered false image e ordered = ordered
    hangup_ordered true image e ordered = delivered_ordered means stay image (Up e (count_of image e)) _ ordered

    after_ordered : (broken : Bool) (image : Image K) (e : End) → IsOrdered means image → IsOrdered means (after_close means broken image e)
    after_ordered true image e ordered = ordered
    after_ordered false image e ordered =
        let p = partner image.driver e in hangup_ordered (end_of image p).is_open image p ordered

    -- a push that is not refused closes no circle
    push_ordered : (image : Image K) (e : End) (shape : Shape K) → refusal_of means image e (Push shape) ≡ None → IsOrdered means image → IsOrdered means (with_end image e (inserted (end_of image e) shape))
    push_ordered image e shape h ordered =
        let none = own_none means image e (Push shape) h in
        pushed_ordered means image e shape (second_false (not (has_room (end_of image e))) (goes_round means image e shape) Invalid Invalid (((end_of image e).state.hung, HungUp) ∷ []) none) ordered

    -- so a call that is not refused keeps messages from going round
    effect_ordered : (image : Image K) (e : End) (request : Request (Shape K)) → refusal_of means image e request ≡ None → IsOrdered means image → IsOrdered means (effect_of means image e request).image
    effect_ordered image e (Putmsg flag parts) h ordered = sent_ordered image e (putmsg_message parts.ctl parts.dat flag) ordered
    effect_ordered image e (Putpmsg band flag parts) h ordered = sent_ordered image e (putpmsg_message parts.ctl parts.dat band flag) ordered
    effect_ordered image e (Getmsg maxctl maxdat flag) h ordered = head_ordered image e _ ordered
    effect_ordered image e (Getpmsg maxctl maxdat band flag) h ordered = head_ordered image e _ ordered
    effect_ordered image e (Read zero) h ordered = ordered
    effect_ordered image e (Read (suc n)) h ordered = head_ordered image e _ ordered
    effect_ordered image e (Write dat) h ordered = sent_ordered image e (ordinary_message 0 None (Some dat)) ordered
    effect_ordered image e (Push shape) h ordered = push_ordered image e shape h ordered
    effect_ordered image e Nread h ordered = ordered
    effect_ordered image e (Peek maxctl maxdat flag) h ordered = ordered
    effect_ordered image e (SetRead mode prot) h ordered = state_ordered image e (with_mode (end_of image e).state mode prot) ordered
    effect_ordered image e GetRead h ordered = ordered
    effect_ordered image e (Canput band) h ordered = ordered
    effect_ordered image e (Ckband band) h ordered = ordered
    effect_ordered image e Getband h ordered = ordered
    effect_ordered image e Pop h ordered = popped_ordered means image e ordered
    effect_ordered image e Look h ordered = ordered
    effect_ordered image e Requests.List h ordered = ordered
    effect_ordered image e (Find name) h ordered = ordered
    effect_ordered image e (Str cmd dat) h ordered = asked_ordered image e cmd dat (end_of image e).state.next ordered
    effect_ordered image e (Strput cmd dat) h ordered = put_ordered image e cmd dat (end_of image e).state.next ordered
    effect_ordered image e (Strget drops) h ordered = state_ordered image e (asking_none (end_of image e).state) ordered
    effect_ordered image e (Flush r w) h ordered = delivered_ordered means stay image (Down e 1) _ ordered
    effect_ordered image e (FlushBand band r w) h ordered = delivered_ordered means stay image (Down e 1) _ ordered
    effect_ordered image e Take h ordered = taken_ordered image e (end_of image e).drv ordered
    effect_ordered image e (Service name side call) h ordered =
        service_ordered means stay image e (served_at image e name.items) side call ordered
    effect_ordered image e (Tick ticks) h ordered = expired_ordered means stay image e ticks ordered
    effect_ordered image e Poll h ordered = ordered
    effect_ordered image e Close h ordered =
        after_ordered image.broken (closed_image image e) e (closed_ordered means image e ordered)

    arrived_ordered_if : (high : Bool) (image : Image K) (e at : End) (m : Msg) → IsOrdered means image → IsOrdered means (if high then deliver means image (Up e (count_of image e)) m else with_end image at (in_drv (end_of image at) (put_in (end_of image at).drv m)))
    arrived_ordered_if true image e at m ordered = delivered_ordered means stay image (Up e (count_of image e)) m ordered
    arrived_ordered_if false image e at m ordered =
        end_ordered means image at (in_drv (end_of image at) (put_in (end_of image at).drv m)) refl ordered

    arrived_ordered : (image : Image K) (e : End) (m : Msg) → IsOrdered means image → IsOrdered means (arrived_of means image e m)
    arrived_ordered image e m = arrived_ordered_if (is_high m.kind) image e (input_end image.driver) m

  -- ---- what a stream keeps

  broken_opens : (old new : Image K) → Breaks old new → (e : End) → (end_of new e).is_open ≡ true → (end_of old e).is_open ≡ true
  broken_opens old new breaks A h = sym breaks.on_a.is_open ∙ h
  broken_opens old new breaks B h = sym breaks.on_b.is_open ∙ h

  -- a stream that broke keeps the ends
  broken_kept : (effect : Effect (Image K) K) (moves : List Place) (out : List ℕ) (after : Image K) → HasItsEnds effect.image → IsBroken effect moves out after → IsWholeStream means after
  broken_kept effect moves out after ends broke =
      record {
        quiet = λ whole. absurd (let no : true ≡ false = sym broke.breaks.is_broken ∙ whole in cc);
        idle = λ whole. absurd (let no : true ≡ false = sym broke.breaks.is_broken ∙ whole in cc);
        order = λ whole. absurd (let no : true ≡ false = sym broke.breaks.is_broken ∙ whole in cc);
        ends = λ e h. ap (λ d. has_end d e) broke.breaks.driver ∙ ends e (broken_opens effect.image after broke.breaks e h);
      }

  settled_kept : (broken : Bool) (e : End) (effect : Effect (Image K) K) (moves : List Place) (settled : Image K) → effect.image.broken ≡ broken → SettlesUnless means broken effect.image moves settled → HasItsEnds effect.image → (effect.image.broken ≡ false → AreIdle (answered_if effect.awaits e effect.image)) → (effect.image.broken ≡ false → AnswersStay means → IsOrdered means effect.image) → IsWholeStream means (answered_if effect.awaits e settled)
  settled_kept false e effect moves settled whole settles ends idle order =
      let same = leads_keeps means effect.image moves settled settles.leads in
      record {
        quiet = λ whole. answered_quiet means effect.awaits e settled settles.quiet;
        idle = λ still. answered_idle effect.awaits e effect.image settled same (idle whole);
        order = λ still stay. answered_ordered effect.awaits e settled (led_ordered means stay effect.image moves settled settles.leads (order whole stay));
        ends = ends_stay effect.image _ (opens_trans effect.image settled _ (same_opens effect.image settled same) (answered_opens effect.awaits e settled)) ends;
      }
  settled_kept true e effect moves settled broken still ends idle order =
      let opens = answered_opens effect.awaits e settled in
      let is : settled.broken ≡ true = subst (λ (i : Image K). i.broken ≡ true) (sym still.unchanged) broken in
      record {
        quiet = λ whole. absurd (let no : true ≡ false = sym is ∙ sym opens.broken ∙ whole in cc);
        idle = λ whole. absurd (let no : true ≡ false = sym is ∙ sym opens.broken ∙ whole in cc);
        order = λ whole. absurd (let no : true ≡ false = sym is ∙ sym opens.broken ∙ whole in cc);
        ends = ends_stay settled _ opens (subst (λ (i : Image K). HasItsEnds i) (sym still.unchanged) ends);
      }

  done_kept : (e : End) (effect : Effect (Image K) K) (reply : Reply) (moves : List Place) (out : List ℕ) (after : Image K) → HasItsEnds effect.image → (effect.image.broken ≡ false → AreIdle (answered_if effect.awaits e effect.image)) → (effect.image.broken ≡ false → AnswersStay means → IsOrdered means effect.image) → IsDone means e effect reply moves out after → IsWholeStream means after
  done_kept e effect reply moves out after ends idle order done =
      rw done.leaves (settled_kept effect.image.broken e effect moves done.settled refl done.settles ends idle order)

  effect_ends : (image : Image K) (e : End) (request : Request (Shape K)) → IsWholeStream means image → HasItsEnds (effect_of means image e request).image
  effect_ends image e request kept =
      ends_stay image (effect_of means image e request).image (effect_opens image e request) kept.ends

  idle_once : (image : Image K) (e : End) (request : Request (Shape K)) → IsWholeStream means image → (effect_of means image e request).image.broken ≡ false → AreIdle (answered_if (effect_of means image e request).awaits e (effect_of means image e request).image)
  idle_once image e request kept whole =
      effect_idle image e request (kept.idle (sym (effect_opens image e request).broken ∙ whole))

  order_once : (image : Image K) (e : End) (request : Request (Shape K)) → IsWholeStream means image → refusal_of means image e request ≡ None → (effect_of means image e request).image.broken ≡ false → AnswersStay means → IsOrdered means (effect_of means image e request).image
  order_once image e request kept h whole stay =
      effect_ordered stay image e request h (kept.order (sym (effect_opens image e request).broken ∙ whole) stay)

  -- a call keeps what a stream keeps
  pub answered_kept : (image : Image K) (e : End) (request : Request (Shape K)) (answer : Answer) (moves : List Place) (out : List ℕ) (after : Image K) → IsWholeStream means image → Answers means image e request answer moves out after → IsWholeStream means after
  answered_kept image e request (Refused refusal) moves out after kept answers = rw answers.unchanged kept
  answered_kept image e request (Done reply) moves out after kept answers =
      done_kept e (effect_of means image e request) reply moves out after (effect_ends image e request kept) (idle_once image e request kept) (order_once image e request kept answers.0) answers.2
  answered_kept image e request Broke moves out after kept answers =
      broken_kept (effect_of means image e request) moves out after (effect_ends image e request kept) answers.3

  arrived_if : (high : Bool) (image : Image K) (e at : End) (m : Msg) → SameModules image (if high then deliver means image (Up e (count_of image e)) m else with_end image at (in_drv (end_of image at) (put_in (end_of image at).drv m)))
  arrived_if true image e at m = deliver_keeps means image (Up e (count_of image e)) m
  arrived_if false image e at m =
      with_end_keeps image at (in_drv (end_of image at) (put_in (end_of image at).drv m)) (same_but_drv (end_of image at) (put_in (end_of image at).drv m))

  -- a message that comes in keeps what no message changes
  pub arrived_keeps : (image : Image K) (e : End) (m : Msg) → SameModules image (arrived_of means image e m)
  arrived_keeps image e m = arrived_if (is_high m.kind) image e (input_end image.driver) m

  -- and so what a stream keeps
  pub landed_kept : (image : Image K) (e : End) (m : Msg) (answer : Answer) (moves : List Place) (out : List ℕ) (after : Image K) → IsWholeStream means image → Lands means image e m answer moves out after → IsWholeStream means after
  landed_kept image e m (Refused refusal) moves out after kept lands = absurd lands
  landed_kept image e m (Done reply) moves out after kept lands =
      let same = arrived_keeps image e m in
      done_kept e (arrival (arrived_of means image e m)) reply moves out after (ends_stay image _ (same_opens image _ same) kept.ends) (λ whole. idle_same image _ same (kept.idle (sym same.broken ∙ whole))) (λ whole stay. arrived_ordered stay image e m (kept.order (sym same.broken ∙ whole) stay)) lands.1
  landed_kept image e m Broke moves out after kept lands =
      broken_kept (arrival (arrived_of means image e m)) moves out after (ends_stay image _ (same_opens image _ (arrived_keeps image e m)) kept.ends) lands.1
