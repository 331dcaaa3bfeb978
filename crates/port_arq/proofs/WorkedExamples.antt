-- An end of a link, computed on the definitions. Messages are of one byte.
use Rattle.std.proofs.Common.{◌≡◌, true, None, Some, [], ◌∷◌, refl}
use Rattle.port_arq.specs.declared.frame.Frame.{Frame}
use Rattle.port_arq.specs.declared.refusal.Refusal.TheVariants.{NumbersAreUsed, WindowIsFull}
use Rattle.port_arq.specs.Peer.{PeerValue, fresh, is_acknowledged, refusal, handed_down, next_frame, heard_up, after_hearing}
use Rattle.port_arq.specs.Link.{Link, opened, HandDown, Send, Hear, Tick, AtNear, AtFar, reached}

-- an end that has used all numbers but one: it takes one message more, under the greatest number
abbrev nearly_used : PeerValue
nearly_used = record (fresh 7 3) { acknowledged = 4294967294 }

last_is_taken : refusal nearly_used ≡ None
last_is_taken = refl

last_is_sent : next_frame (handed_down nearly_used (65 ∷ [])) ≡ Some (record { awaited = 0; message = Some (record { number = 4294967294; bytes = 65 ∷ [] }) })
last_is_sent = refl

none_is_left : refusal (handed_down nearly_used (65 ∷ [])) ≡ Some NumbersAreUsed
none_is_left = refl

-- the window is full too, and the numbers are looked at first
numbers_come_first : refusal (record (handed_down nearly_used (65 ∷ [])) { window = 1 }) ≡ Some NumbersAreUsed
numbers_come_first = refl

full : refusal (handed_down (fresh 1 3) (65 ∷ [])) ≡ Some WindowIsFull
full = refl

-- the message with the greatest number goes up, and there is none behind it
abbrev nearly_heard : PeerValue
nearly_heard = record (fresh 7 3) { awaited = 4294967294 }

abbrev last_frame : Frame
last_frame = record { awaited = 0; message = Some (record { number = 4294967294; bytes = 65 ∷ [] }) }

last_goes_up : heard_up nearly_heard last_frame ≡ Some (65 ∷ [])
last_goes_up = refl

and_not_again : heard_up (after_hearing nearly_heard last_frame) last_frame ≡ None
and_not_again = refl

-- two messages are handed down, and the first is lost: nothing goes up; after three ticks both are sent again
abbrev lost : Link
lost =
    reached (opened 2 3) (opened 2 3) (
    AtNear (HandDown (65 ∷ [])) ∷ AtNear (HandDown (66 ∷ [])) ∷ AtNear (HandDown (67 ∷ [])) ∷ AtNear Send ∷ AtNear Send
    ∷ AtFar (Hear 1) ∷ AtNear (Tick 3) ∷ AtNear Send ∷ AtNear Send ∷ AtFar (Hear 2) ∷ AtFar (Hear 3) ∷ AtFar (Hear 0)
    ∷ AtFar Send ∷ AtNear (Hear 0) ∷ []
    )

-- the third was refused, as the window was full; the other two went up once each, though the first came twice
both_went_up : lost.far.raised ≡ (65 ∷ []) ∷ (66 ∷ []) ∷ []
both_went_up = refl

two_were_taken : lost.near.handed ≡ (65 ∷ []) ∷ (66 ∷ []) ∷ []
two_were_taken = refl

all_is_acknowledged : is_acknowledged lost.near.peer ≡ true
all_is_acknowledged = refl
