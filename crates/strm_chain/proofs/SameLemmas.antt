-- Delivery, moves and settling keep which modules stand where.
use Rattle.std.proofs.Common.{◌≡◌, ◌∙◌, ◌==◌, ◌&&◌, ℕ, Bool, true, false, cond, Option, Some, None, List, [], ◌∷◌, refl, sym, ap, is_none, suc, zero}
use Rattle.std.proofs.lemmas.Option.{get_or_from_slice_get}
use Rattle.strm_chain_ends.proofs.TurnLemmas.{after_shape}
use Rattle.strm_msg.specs.Message.{Msg}
use Rattle.strm_msg.specs.Options.{options_asked}
use Rattle.strm_msg.specs.declared.options.TheConstants.{SETOPTS}
use Rattle.strm_msg.specs.declared.kind.MsgKind.{MsgKind}
use Rattle.strm_msg.specs.declared.kind.MsgKind.TheVariants.{MData, MProto, MPcproto, MIoctl, MSetopts, MIocack, MIocnak, MFlush, MHangup, MError}
use Rattle.strm_msg.specs.declared.words.End.{End}
use Rattle.strm_msg.specs.declared.words.End.TheVariants.{A, B}
use Rattle.strm_msg.specs.declared.words.Side.{Side}
use Rattle.strm_msg.specs.declared.words.Side.TheVariants.{Rd, Wr}
use Rattle.strm_queue.specs.Queue.{put_in, has_pcproto}
use Rattle.strm_module.specs.declared.turn.Turn.{Turn}
use Rattle.strm_module.specs.declared.turn.Turn.TheVariants.{Serves, Shut, Sends}
use Rattle.strm_module.specs.Kinds.{Meaning}
use Rattle.strm_module.specs.Shape.{IsSameModule}
use Rattle.strm_module.specs.Module.{put_of}
use Rattle.strm_module.specs.declared.shape.Shape.{Shape}
use Rattle.strm_module.specs.declared.outs.Put.{Put}
use Rattle.strm_module.specs.declared.outs.Put.TheVariants.{Queue as Queued, Sent}
use Rattle.strm_module.proofs.ProcedureLemmas.{put_of_same}
use Rattle.strm_module.specs.declared.driver.Driver.{Driver}
use Rattle.strm_module.specs.declared.driver.Driver.TheVariants.{Echo, Loop, Line, Wire}
use Rattle.strm_module.specs.Driver.{has_end}
use Rattle.strm_chain_end.specs.Pair.{QueuePair, list_on, flushed, flushed_if, flushed_pair, after_put, pair_gets, pair_front, pair_turns, pair_serves, service_turn}
use Rattle.strm_chain_end.specs.End.{EndState, in_head, in_state, in_drv, pair_at, set_pair, found_gets, end_gets, found_serves, end_serves}
use Rattle.strm_chain_end.specs.Head.{is_id, kept_answer, with_errors, open_head, keeps, put_at_head}
use Rattle.strm_chain_end.specs.Driver.{DriverStep, consumes, refuses, put_at_line, put_at_loop, options_up, put_at_echo, put_at_wire, driver_at}
use Rattle.strm_chain_end.specs.Modules.{identity_of, identities_of, SameIds, SameEnd}
use Rattle.strm_chain_end.specs.declared.record.Record.{Record}
use Rattle.strm_chain_end.proofs.EndLemmas.{identities-set}
use Rattle.strm_chain_ends.specs.declared.place.Place.{Place}
use Rattle.strm_chain_ends.specs.Image.{Image, end_of, with_end, put_at_driver, input_flushed, driven}
use Rattle.strm_chain.specs.declared.spot.Spot.{Spot}
use Rattle.strm_chain.specs.Deliver.{put_at, deliver}
use Rattle.strm_chain.specs.Service.{Leads, serve_at}
use Rattle.strm_chain_ends.specs.Same.{SameModules}
use Rattle.strm_chain.proofs.QuietLemmas.{same_end, same_trans, same_image}
use Rattle.strm_chain.proofs.StepLemmas.{StepsKeep, delivery_keeps, moves_keep}

-- a module of which only what its kind keeps can differ
same_identity : {K : Type 0} (old new : Shape K) → IsSameModule old new → identity_of new ≡ identity_of old
same_identity old new same = cc

-- the module that was found is set to one with the same identity
identities-set_pair : {K : Type 0} (xs : List (QueuePair K)) (i : ℕ) (old new : QueuePair K) → pair_at xs i ≡ Some old → identity_of new.shape ≡ identity_of old.shape → identities_of (set_pair xs i new) ≡ identities_of xs
identities-set_pair xs zero old new at same = refl
identities-set_pair xs (suc i) old new at same =
    identities-set xs i new old (sym (get_or_from_slice_get xs i old old at)) same

modules_keep : {K : Type 0} (e : EndState K) (modules : List (QueuePair K)) → identities_of modules ≡ identities_of e.modules → SameEnd e (record e { modules = modules })
modules_keep e modules same =
    record { is_open = refl; drv_marks = refl; modules = same; ids = (same_end e).ids }

-- what changes only a list, or only the head's record
in_head_keeps : {K : Type 0} (e : EndState K) (q : List Msg) → SameEnd e (in_head e q)
in_head_keeps e q =
    record { is_open = refl; drv_marks = refl; modules = refl; ids = (same_end e).ids }

pub in_drv_keeps : {K : Type 0} (e : EndState K) (q : List Msg) → SameEnd e (in_drv e q)
in_drv_keeps e q =
    record { is_open = refl; drv_marks = refl; modules = refl; ids = (same_end e).ids }

in_state_keeps : {K : Type 0} (e : EndState K) (r : Record) → SameIds e.state r → SameEnd e (in_state e r)
in_state_keeps e r ids = record { is_open = refl; drv_marks = refl; modules = refl; ids = ids }

-- an answer is kept only where an id is awaited, or asked for
answer_ids : (r : Record) (id : ℕ) (m : Msg) (b c : Bool) → (is_id r.pending id && is_none r.kept) ≡ b → (is_id r.asked id && is_none r.answer) ≡ c → SameIds r (cond b (record r { kept = Some m }) (cond c (record r { answer = Some m }) r))
answer_ids r id m false false h g = record { next = refl; pending = refl; kept = λ _. refl; asked = refl; answer = λ _. refl }
answer_ids r id m false true h g =
    record {
      next = refl;
      pending = refl;
      kept = λ _. refl;
      asked = refl;
      answer = λ none. let never : false ≡ true = ap (λ p. is_id p id && is_none r.answer) (sym none) ∙ g in cc;
    }
answer_ids r id m true c h g =
    record {
      next = refl;
      pending = refl;
      kept = λ none. let never : false ≡ true = ap (λ p. is_id p id && is_none r.kept) (sym none) ∙ h in cc;
      asked = refl;
      answer = λ _. refl;
    }

answer_keeps : {K : Type 0} (e : EndState K) (id : ℕ) (m : Msg) → SameEnd e (in_state e (kept_answer e.state id m))
answer_keeps e id m =
    in_state_keeps e (kept_answer e.state id m) (answer_ids e.state id m (is_id e.state.pending id && is_none e.state.kept) (is_id e.state.asked id && is_none e.state.answer) refl refl)

either_keeps : {K : Type 0} (b : Bool) (e x y : EndState K) → SameEnd e x → SameEnd e y → SameEnd e (cond b x y)
either_keeps true e x y hx hy = hx
either_keeps false e x y hx hy = hy

open_head_keeps : {K : Type 0} (e : EndState K) (kind : MsgKind) (m : Msg) → SameEnd e (open_head e kind m).state
open_head_keeps e MData m = in_head_keeps e (put_in e.head m)
open_head_keeps e MProto m = in_head_keeps e (put_in e.head m)
open_head_keeps e MPcproto m =
    either_keeps (has_pcproto e.head) e e (in_head e (put_in e.head m)) (same_end e) (in_head_keeps e (put_in e.head m))
open_head_keeps e (MIoctl id cmd) m = same_end e
open_head_keeps e (MSetopts mode prot marks) m =
    record { is_open = refl; drv_marks = refl; modules = refl; ids = record { next = refl; pending = refl; kept = λ _. refl; asked = refl; answer = λ _. refl } }
open_head_keeps e (MIocack id rval) m = answer_keeps e id m
open_head_keeps e (MIocnak id errno) m = answer_keeps e id m
open_head_keeps e (MFlush r w band) m = in_head_keeps e (flushed_if r band e.head)
open_head_keeps e MHangup m =
    in_state_keeps e (record e.state { hung = true }) (record { next = refl; pending = refl; kept = λ _. refl; asked = refl; answer = λ _. refl })
open_head_keeps e (MError rd wr) m =
    in_state_keeps e (with_errors e.state rd wr) (record { next = refl; pending = refl; kept = λ _. refl; asked = refl; answer = λ _. refl })

head_step_keeps : {K : Type 0} (e : EndState K) (m : Msg) (is_open : Bool) → SameEnd e (cond is_open (open_head e m.kind m) (keeps e)).state
head_step_keeps e m true = open_head_keeps e m.kind m
head_step_keeps e m false = same_end e

pub put_at_head_keeps : {K : Type 0} (e : EndState K) (m : Msg) → SameEnd e (put_at_head e m).state
put_at_head_keeps e m = head_step_keeps e m e.is_open

line_keeps : {K : Type 0} (e : EndState K) (kind : MsgKind) → SameEnd e (put_at_line e kind).state
line_keeps e (MFlush r w band) = in_drv_keeps e (flushed_if r band e.drv)
line_keeps e kind = same_end e

loop_keeps : {K : Type 0} (e : EndState K) (kind : MsgKind) (m : Msg) → SameEnd e (put_at_loop e kind m).state
loop_keeps e (MFlush r w band) m = in_drv_keeps e (flushed_if w band e.drv)
loop_keeps e MData m = in_drv_keeps e (put_in e.drv m)
loop_keeps e MProto m = in_drv_keeps e (put_in e.drv m)
loop_keeps e kind m = same_end e

either_step_keeps : {K : Type 0} (b : Bool) (e : EndState K) (x y : DriverStep K) → SameEnd e x.state → SameEnd e y.state → SameEnd e (cond b x y).state
either_step_keeps true e x y hx hy = hx
either_step_keeps false e x y hx hy = hy

echo_keeps : {K : Type 0} (e : EndState K) (kind : MsgKind) (m : Msg) → SameEnd e (put_at_echo e kind m).state
echo_keeps e (MIoctl id cmd) m =
    either_step_keeps (cmd == SETOPTS) e (record { state = e; sends = options_up id (options_asked m.dat) }) (refuses e id) (same_end e) (same_end e)
echo_keeps e kind m = loop_keeps e kind m

wire_keeps : {K : Type 0} (e : EndState K) (kind : MsgKind) (m : Msg) → SameEnd e (put_at_wire e kind m).state
wire_keeps e MPcproto m = in_drv_keeps e (put_in e.drv m)
wire_keeps e kind m = loop_keeps e kind m

driver_at_keeps : {K : Type 0} (d : Driver) (e : EndState K) (m : Msg) → SameEnd e (driver_at d e m).state
driver_at_keeps Line e m = line_keeps e m.kind
driver_at_keeps Echo e m = echo_keeps e m.kind m
driver_at_keeps Loop e m = loop_keeps e m.kind m
driver_at_keeps Wire e m = wire_keeps e m.kind m

driver_step_keeps : {K : Type 0} (d : Driver) (e : EndState K) (m : Msg) (has : Bool) → SameEnd e (cond has (driver_at d e m) (consumes e)).state
driver_step_keeps d e m true = driver_at_keeps d e m
driver_step_keeps d e m false = same_end e

pub put_at_driver_keeps : {K : Type 0} (d : Driver) (e : End) (state : EndState K) (m : Msg) → SameEnd state (put_at_driver d e state m).state
put_at_driver_keeps d e state m = driver_step_keeps d state m (has_end d e)

input_keeps : {K : Type 0} (d : Driver) (far : EndState K) (kind : MsgKind) → SameEnd far (input_flushed d far kind)
input_keeps Echo far kind = same_end far
input_keeps Loop far kind = same_end far
input_keeps Line far kind = same_end far
input_keeps Wire far (MFlush true w band) = in_drv_keeps far (flushed band far.drv)
input_keeps Wire far (MFlush false w band) = same_end far
input_keeps Wire far kind = same_end far

-- a message that comes to a driver leaves the same modules
driven_keeps : {K : Type 0} (image : Image K) (e : End) (m : Msg) → SameModules image (driven image e m)
driven_keeps image A m =
    record { driver = refl; broken = refl; on_a = put_at_driver_keeps image.driver A image.a m; on_b = input_keeps image.driver image.b m.kind }
driven_keeps image B m = record { driver = refl; broken = refl; on_a = same_end image.a; on_b = put_at_driver_keeps image.driver B image.b m }

-- one end changes, and the other stays
pub with_end_keeps : {K : Type 0} (image : Image K) (e : End) (new : EndState K) → SameEnd (end_of image e) new → SameModules image (with_end image e new)
with_end_keeps image A new h = record { driver = refl; broken = refl; on_a = h; on_b = same_end image.b }
with_end_keeps image B new h = record { driver = refl; broken = refl; on_a = same_end image.a; on_b = h }

-- for kinds of any meaning
module _ {K : Type 0} (means : Meaning K) where
  pair_gets-identity : (s : QueuePair K) (side : Side) (m : Msg) → identity_of (pair_gets means s side m).pair.shape ≡ identity_of s.shape
  pair_gets-identity s side m =
      let put = put_of means s.shape side m in
      ap (λ (x : Shape K). identity_of x) (after_shape (record (flushed_pair s m.kind) { shape = put.shape }) side put.answer) ∙ same_identity s.shape put.shape (put_of_same means s.shape side m)

  pair_front-identity : (s : QueuePair K) (side : Side) (q : List Msg) → identity_of (pair_front means s side q).pair.shape ≡ identity_of s.shape
  pair_front-identity s side [] = refl
  pair_front-identity s side (m ∷ q) = refl

  found_gets_keeps : (e : EndState K) (i : ℕ) (o : Option (QueuePair K)) (side : Side) (m : Msg) → pair_at e.modules i ≡ o → SameEnd e (found_gets means e i o side m).state
  found_gets_keeps e i None side m at = same_end e
  found_gets_keeps e i (Some s) side m at =
      let new = (pair_gets means s side m).pair in
      modules_keep e (set_pair e.modules i new) (identities-set_pair e.modules i s new at (pair_gets-identity s side m))

  pair_turns-identity : (s : QueuePair K) (side : Side) (turn : Turn) → identity_of (pair_turns means s side turn).pair.shape ≡ identity_of s.shape
  pair_turns-identity s side Serves = pair_front-identity s side (list_on s side)
  pair_turns-identity s side Shut = refl
  pair_turns-identity s side (Sends band) = refl

  found_serves_keeps : (e : EndState K) (i : ℕ) (o : Option (QueuePair K)) (side : Side) → pair_at e.modules i ≡ o → SameEnd e (found_serves means e i o side).state
  found_serves_keeps e i None side at = same_end e
  found_serves_keeps e i (Some s) side at =
      let new = (pair_serves means s side).pair in
      modules_keep e (set_pair e.modules i new) (identities-set_pair e.modules i s new at (pair_turns-identity s side (service_turn means s.shape side)))

  -- a message comes to a module, or the module serves one
  pub end_gets_keeps : (e : EndState K) (i : ℕ) (side : Side) (m : Msg) → SameEnd e (end_gets means e i side m).state
  end_gets_keeps e i side m = found_gets_keeps e i (pair_at e.modules i) side m refl

  pub end_serves_keeps : (e : EndState K) (i : ℕ) (side : Side) → SameEnd e (end_serves means e i side).state
  end_serves_keeps e i side = found_serves_keeps e i (pair_at e.modules i) side refl

  pub put_at_keeps : (image : Image K) (e : End) (i : ℕ) (side : Side) (m : Msg) → SameModules image (put_at means image e i side m).image
  put_at_keeps image e i side m =
      with_end_keeps image e (end_gets means (end_of image e) i side m).state (end_gets_keeps (end_of image e) i side m)

  pub serve_at_keeps : (image : Image K) (e : End) (i : ℕ) (side : Side) → SameModules image (serve_at means image e i side).image
  serve_at_keeps image e i side =
      with_end_keeps image e (end_serves means (end_of image e) i side).state (end_serves_keeps (end_of image e) i side)

  -- so each step of a message does
  same_steps : StepsKeep means (λ (old new : Image K). SameModules old new)
  same_steps =
      record {
        same = λ image. same_image image;
        trans = λ old mid new x y. same_trans old mid new x y;
        heads = λ image e m. with_end_keeps image e (put_at_head (end_of image e) m).state (put_at_head_keeps (end_of image e) m);
        drives = λ image e m. driven_keeps image e m;
        puts = put_at_keeps;
        serves = serve_at_keeps;
        takes = λ image e q. with_end_keeps image e (in_drv (end_of image e) q) (in_drv_keeps (end_of image e) q);
      }

  -- a message that is handed in anywhere
  pub deliver_keeps : (image : Image K) (spot : Spot) (m : Msg) → SameModules image (deliver means image spot m)
  deliver_keeps image spot m = delivery_keeps means (λ (old new : Image K). SameModules old new) same_steps image spot m

  -- any moves, one after another
  pub leads_keeps : (old : Image K) (moves : List Place) (new : Image K) → Leads means old moves new → SameModules old new
  leads_keeps old moves new led = moves_keep means (λ (i j : Image K). SameModules i j) same_steps old moves new led
