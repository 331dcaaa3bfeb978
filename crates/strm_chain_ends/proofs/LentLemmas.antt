-- An end that was lent: what is known of it as it was left says what the ends are then.
use Rattle.std.proofs.Math.Nat.{le_refl}
use Rattle.std.proofs.Common.{◌≡◌, [], ◌∷◌, Option, Some, None, IfSome, IfNone, Result, Ok, Err, OnOk, OnErr, refl, ap, ◌∙◌, subst, sym}
use Rattle.strm_msg.specs.Message.{Msg}
use Rattle.strm_msg.specs.declared.words.End.{End}
use Rattle.strm_msg.specs.declared.words.End.TheVariants.{A, B}
use Rattle.strm_module.specs.declared.driver.Driver.{Driver}
use Rattle.strm_module.specs.declared.driver.Driver.TheVariants.{Echo, Loop, Line, Wire}
use Rattle.strm_module.specs.Driver.{input_end}
use Rattle.strm_queue.specs.Room.{room_for}
use Rattle.strm_chain_end.specs.End.{EndState, EndValue, KeepsRoom, SpendsOne, in_drv}
use Rattle.strm_chain_end.specs.Modules.{SameEnd}
use Rattle.strm_chain_ends.specs.Image.{Image, Rooms, KeepsHeadRoom, end_of, with_end, with_drv, room_of, other_end}
use Rattle.strm_chain_ends.specs.Lent.{with_room}
use Rattle.strm_chain_ends.specs.Same.{SameModules}
use Rattle.strm_chain_ends.proofs.FrameLemmas.{with_end_keeps}

-- an end in its own place
pub same_there : {K : Type 0} (image : Image K) (e : End) → with_end image e (end_of image e) ≡ image
same_there image A = refl
same_there image B = refl

-- an end that was lent, and left as some function of it
pub lent_as : {K : Type 0} (image : Image K) (e : End) (lent left : EndState K) (f : EndState K → EndState K) → lent ≡ end_of image e → left ≡ f lent → with_end image e left ≡ with_end image e (f (end_of image e))
lent_as image e lent left f is so = ap (λ s. with_end image e s) (so ∙ ap f is)

pub lent_ok : {T E : Type 0} {K : Type 0} (r : Result T E) (image : Image K) (e : End) (lent left : EndState K) (f : EndState K → EndState K) → lent ≡ end_of image e → OnOk r (left ≡ f lent) → OnOk r (with_end image e left ≡ with_end image e (f (end_of image e)))
lent_ok (Ok t) image e lent left f is so = lent_as image e lent left f is so
lent_ok (Err x) image e lent left f is so = so

-- and left as it was
pub lent_unchanged : {K : Type 0} (image : Image K) (e : End) (lent left : EndState K) → lent ≡ end_of image e → left ≡ lent → with_end image e left ≡ image
lent_unchanged image e lent left is so = ap (λ s. with_end image e s) (so ∙ is) ∙ same_there image e

pub lent_err : {T E : Type 0} {K : Type 0} (r : Result T E) (image : Image K) (e : End) (lent left : EndState K) → lent ≡ end_of image e → OnErr r (left ≡ lent) → OnErr r (with_end image e left ≡ image)
lent_err (Ok t) image e lent left is so = so
lent_err (Err x) image e lent left is so = lent_unchanged image e lent left is so

-- and left open or closed as it was, with the same modules and ids
pub lent_same : {K : Type 0} (image : Image K) (e : End) (lent left : EndState K) → lent ≡ end_of image e → SameEnd lent left → SameModules image (with_end image e left)
lent_same image e lent left is same = with_end_keeps image e left (subst (λ s. SameEnd s left) is same)

-- ---- room ----

-- the room of the end itself, and of the other
pub room_there : {K : Type 0} (d : Driver) (rooms : Rooms) (e : End) (left : EndValue K) → room_of (with_room d rooms e left) e ≡ left.head_room
room_there d rooms A left = refl
room_there d rooms B left = refl

pub room_elsewhere : {K : Type 0} (d : Driver) (rooms : Rooms) (e : End) (left : EndValue K) → room_of (with_room d rooms e left) (other_end e) ≡ room_of rooms (other_end e)
room_elsewhere d rooms A left = refl
room_elsewhere d rooms B left = refl

-- the list of the messages that came in, where it keeps its room
pub line_stays : {K : Type 0} (d : Driver) (rooms : Rooms) (e : End) (lent left : EndValue K) → (e ≡ input_end d → lent.drv_room ≡ rooms.line) → left.drv_room ≡ lent.drv_room → (with_room d rooms e left).line ≡ rooms.line
line_stays Echo rooms A lent left line stays = stays ∙ line refl
line_stays Loop rooms A lent left line stays = stays ∙ line refl
line_stays Line rooms A lent left line stays = stays ∙ line refl
line_stays Wire rooms A lent left line stays = refl
line_stays Echo rooms B lent left line stays = refl
line_stays Loop rooms B lent left line stays = refl
line_stays Line rooms B lent left line stays = refl
line_stays Wire rooms B lent left line stays = stays ∙ line refl

-- that list, where its own end was lent
pub line_there : {K : Type 0} (d : Driver) (rooms : Rooms) (left : EndValue K) → (with_room d rooms (input_end d) left).line ≡ left.drv_room
line_there Echo rooms left = refl
line_there Loop rooms left = refl
line_there Line rooms left = refl
line_there Wire rooms left = refl

rooms_are : (rooms new : Rooms) → new.a ≡ rooms.a → new.b ≡ rooms.b → new.line ≡ rooms.line → new ≡ rooms
rooms_are rooms new a b line = ap (λ x. record { a = x; b = new.b; line = new.line }) a ∙ ap (λ x. record { a = rooms.a; b = x; line = new.line }) b ∙ ap (λ x. record { a = rooms.a; b = rooms.b; line = x }) line

-- the room of all lists, where the end keeps that of its two
pub rooms_stay : {K : Type 0} (d : Driver) (rooms : Rooms) (e : End) (lent left : EndValue K) → lent.head_room ≡ room_of rooms e → (e ≡ input_end d → lent.drv_room ≡ rooms.line) → left.head_room ≡ lent.head_room → left.drv_room ≡ lent.drv_room → with_room d rooms e left ≡ rooms
rooms_stay d rooms A lent left head line a b = rooms_are rooms (with_room d rooms A left) (a ∙ head) refl (line_stays d rooms A lent left line b)
rooms_stay d rooms B lent left head line a b = rooms_are rooms (with_room d rooms B left) refl (a ∙ head) (line_stays d rooms B lent left line b)

-- no head's list loses room, where that of the end loses none
pub head_rooms_stay : {K : Type 0} (d : Driver) (rooms : Rooms) (e : End) (lent left : EndValue K) → lent.head_room ≡ room_of rooms e → KeepsRoom lent.head_room left.head_room → KeepsHeadRoom rooms (with_room d rooms e left)
head_rooms_stay d rooms A lent left head keeps = record { on_a = subst (λ room. KeepsRoom room left.head_room) head keeps; on_b = λ rank. le_refl (room_for rooms.b rank) }
head_rooms_stay d rooms B lent left head keeps = record { on_a = λ rank. le_refl (room_for rooms.a rank); on_b = subst (λ room. KeepsRoom room left.head_room) head keeps }

-- ---- the driver's list ----

-- its first message is taken
pub lent_taken : {K : Type 0} (r : Option Msg) (image : Image K) (e : End) (lent left : EndState K) → lent ≡ end_of image e → IfSome r (λ m. (lent.drv ≡ m ∷ left.drv) × (left ≡ in_drv lent left.drv)) → IfSome r (λ m. ((end_of image e).drv ≡ m ∷ (end_of (with_end image e left) e).drv) × (with_end image e left ≡ with_drv image e (end_of (with_end image e left) e).drv))
lent_taken None image e lent left is taken = taken
lent_taken (Some m) image A lent left is taken =
    (ap (λ s. s.drv) (sym is) ∙ taken.0, lent_as image A lent left (λ s. in_drv s left.drv) is taken.1)
lent_taken (Some m) image B lent left is taken =
    (ap (λ s. s.drv) (sym is) ∙ taken.0, lent_as image B lent left (λ s. in_drv s left.drv) is taken.1)

-- none was there
pub lent_empty : {K : Type 0} (r : Option Msg) (image : Image K) (e : End) (lent left : EndState K) → lent ≡ end_of image e → IfNone r ((lent.drv ≡ []) × (left ≡ lent)) → IfNone r (((end_of image e).drv ≡ []) × (with_end image e left ≡ image))
lent_empty None image e lent left is empty =
    (ap (λ s. s.drv) (sym is) ∙ empty.0, lent_unchanged image e lent left is empty.1)
lent_empty (Some m) image e lent left is empty = empty

-- ---- the head's list, into which a message was put back ----

pub spent_ok : {T E : Type 0} {K : Type 0} (r : Result T E) (d : Driver) (rooms : Rooms) (e : End) (lent left : EndValue K) → lent.head_room ≡ room_of rooms e → OnOk r (SpendsOne lent.head_room left.head_room) → OnOk r (SpendsOne (room_of rooms e) (room_of (with_room d rooms e left) e))
spent_ok (Ok t) d rooms e lent left head spent = rw (room_there d rooms e left, ← head) spent
spent_ok (Err x) d rooms e lent left head spent = spent

pub unspent_err : {T E : Type 0} {K : Type 0} (r : Result T E) (d : Driver) (rooms : Rooms) (e : End) (lent left : EndValue K) → lent.head_room ≡ room_of rooms e → OnErr r (KeepsRoom lent.head_room left.head_room) → OnErr r (KeepsRoom (room_of rooms e) (room_of (with_room d rooms e left) e))
unspent_err (Ok t) d rooms e lent left head keeps = keeps
unspent_err (Err x) d rooms e lent left head keeps = rw (room_there d rooms e left, ← head) keeps
