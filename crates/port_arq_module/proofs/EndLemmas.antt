-- Each act of a module is the act of its end of the link.
use Rattle.std.proofs.Common.{◌≡◌, ℕ, ◌&&◌, not, Bool, true, false, cond, Option, Some, None, List, [], ◌∷◌, ◌++◌, map, option_map, unwrap_or, refl, ap, sym, ◌∙◌, append-nil, is_some}
use Rattle.std.specs.Prelude.{option_to_list}
use Rattle.std.specs.List.{slice_get}
use Rattle.std.proofs.lemmas.List.{map-append}
use Rattle.std.proofs.lemmas.Option.{slice_get-map}
use Rattle.strm_msg.specs.Message.{Msg}
use Rattle.strm_msg.specs.declared.kind.MsgKind.{MsgKind}
use Rattle.strm_msg.specs.declared.kind.MsgKind.TheVariants.{MData}
use Rattle.strm_msg.specs.declared.words.Side.{Side as Way}
use Rattle.strm_msg.specs.declared.words.Side.TheVariants.{Rd, Wr}
use Rattle.strm_module.specs.Kinds.{kept}
use Rattle.strm_module.specs.declared.turn.Turn.{Turn}
use Rattle.strm_module.specs.declared.turn.Turn.TheVariants.{Serves, Shut, Sends}
use Rattle.port_arq.specs.Frame.{frame_bytes, frame_in}
use Rattle.port_arq.specs.Link.{Side, HandDown, Hear, with_message, with_heard, acted as link_acted}
use Rattle.port_arq.specs.Peer.{PeerValue, refusal, next_frame, after_sending, heard_up, after_hearing}
use Rattle.port_arq.specs.declared.frame.Frame.{Frame}
use Rattle.port_arq.specs.declared.refusal.Refusal.{Refusal}
use Rattle.port_arq.proofs.FrameLemmas.{frames_come_back}
use Rattle.port_arq_module.specs.Arq.{unless_refused, raised_up, up_action, frame_down, arq_action, arq}
use Rattle.port_arq_module.specs.Between.{is_data, lowered_by, raised_by, Station, Serve, Own, Come, Pass, noted, served_at, sent_at, come_up, passed_by, acted}
use Rattle.port_arq_module.specs.BetweenLaws.{station_of, FramesFit, ModuleDoesAsItsEnd}
use Rattle.port_arq_module.specs.declared.kinds.ArqKind.{ArqKind}
use Rattle.port_arq_module.specs.declared.kinds.ArqKind.TheVariants.{Arq}

abbrev standing : ArqKind → List (List ℕ) → List (List ℕ) → List (List ℕ) → Station
standing kind handed lowered raised =
    record { kind = kind; handed = handed; lowered = lowered; raised = raised }

-- where nothing leaves, nothing is noted
quiet : (kind : ArqKind) (handed lowered raised : List (List ℕ)) → standing kind handed (lowered ++ []) (raised ++ []) ≡ standing kind handed lowered raised
quiet kind handed lowered raised =
    ap (λ l. standing kind handed l (raised ++ [])) (append-nil lowered)
    ∙ ap (λ r. standing kind handed lowered r) (append-nil raised)

-- ---- what comes from above

-- where the write side serves what waits, the end refuses nothing
serving : (owes : Bool) (why : Option Refusal) → cond owes (Sends (Some 0)) (cond (is_some why) Shut Serves) ≡ Serves → why ≡ None
serving true why h = cc
serving false None h = refl
serving false (Some why) h = cc

takes : (side : Side) (bytes : List ℕ) (why : Option Refusal) → why ≡ None → standing (Arq (unless_refused side.peer bytes why)) (side.handed ++ bytes ∷ []) (map frame_bytes side.frames ++ []) (side.raised ++ []) ≡ station_of (with_message side bytes why)
takes side bytes None h = quiet _ (side.handed ++ bytes ∷ []) (map frame_bytes side.frames) side.raised
takes side bytes (Some why) h = cc

hands_down : (side : Side) (frames : List Frame) (band : ℕ) (bytes : List ℕ) → arq.turn (Arq side.peer) Wr ≡ Serves → acted (station_of side) (map frame_bytes frames) (Serve band bytes) ≡ station_of (link_acted side frames (HandDown bytes))
hands_down side frames band bytes turn =
    ap (served_at (station_of side) band bytes) turn
    ∙ takes side bytes (refusal side.peer) (serving (is_some (next_frame side.peer)) (refusal side.peer) turn)

-- ---- what is sent

frame_leaves : (kind : ArqKind) (handed : List (List ℕ)) (frames : List Frame) (raised : List (List ℕ)) (frame : Option Frame) → standing kind handed (map frame_bytes frames ++ lowered_by (frame_down frame)) (raised ++ raised_by (frame_down frame)) ≡ standing kind handed (map frame_bytes (frames ++ option_to_list frame)) raised
frame_leaves kind handed frames raised None =
    quiet kind handed (map frame_bytes frames) raised
    ∙ ap (λ l. standing kind handed (map frame_bytes l) raised) (sym (append-nil frames))
frame_leaves kind handed frames raised (Some frame) =
    ap (λ r. standing kind handed (map frame_bytes frames ++ frame_bytes frame ∷ []) r) (append-nil raised)
    ∙ ap (λ l. standing kind handed l raised) (sym (map-append frame_bytes frames (frame ∷ [])))

sends : (side : Side) (room : Option ℕ) → arq.turn (Arq side.peer) Wr ≡ Sends room → sent_at (station_of side) (arq.turn (Arq side.peer) Wr) ≡ standing (Arq (after_sending side.peer)) side.handed (map frame_bytes (side.frames ++ option_to_list (next_frame side.peer))) side.raised
sends side room turn =
    ap (sent_at (station_of side)) turn
    ∙ frame_leaves (Arq (after_sending side.peer)) side.handed side.frames side.raised (next_frame side.peer)

-- ---- what comes up

raised_leaves : (kind : ArqKind) (handed lowered raised : List (List ℕ)) (up : Option (List ℕ)) → standing kind handed (lowered ++ lowered_by (raised_up up)) (raised ++ raised_by (raised_up up)) ≡ standing kind handed lowered (raised ++ option_to_list up)
raised_leaves kind handed lowered raised None =
    ap (λ l. standing kind handed l (raised ++ [])) (append-nil lowered)
raised_leaves kind handed lowered raised (Some bytes) =
    ap (λ l. standing kind handed l (raised ++ bytes ∷ [])) (append-nil lowered)

hears : (side : Side) (frames : List Frame) (index : ℕ) → FramesFit frames → acted (station_of side) (map frame_bytes frames) (Come index) ≡ station_of (link_acted side frames (Hear index))
hears side frames index fit =
    let step : (frame : Option Frame) → slice_get frames index ≡ frame → come_up (station_of side) (option_map frame_bytes frame) ≡ station_of (with_heard side frame) = elim [
      | None ↦ λ e. refl
      | Some frame ↦ λ e.
          ap (λ f. noted (station_of side) (up_action side.peer f)) (frames_come_back frame (fit index frame e))
          ∙ raised_leaves (Arq (after_hearing side.peer frame)) side.handed (map frame_bytes side.frames) side.raised (heard_up side.peer frame)
    ] in
    ap (come_up (station_of side)) (slice_get-map frame_bytes frames index) ∙ step (slice_get frames index) refl

-- ---- what passes

passing : (side : Side) (way : Way) (kind : MsgKind) (m : Msg) → is_data m.kind ≡ false → is_data kind ≡ false → noted (station_of side) (arq_action side.peer way kind m) ≡ station_of side
passing side Rd MData m is h = cc
passing side Wr MData m is h = cc
passing side Rd kind m is h =
    ap (λ b. standing (Arq side.peer) side.handed (map frame_bytes side.frames ++ []) (side.raised ++ (cond b (unwrap_or m.dat [] ∷ []) [] ++ []))) is
    ∙ quiet (Arq side.peer) side.handed (map frame_bytes side.frames) side.raised
passing side Wr kind m is h =
    ap (λ b. standing (Arq side.peer) side.handed (map frame_bytes side.frames ++ (cond b (unwrap_or m.dat [] ∷ []) [] ++ [])) (side.raised ++ [])) is
    ∙ quiet (Arq side.peer) side.handed (map frame_bytes side.frames) side.raised

passes : (side : Side) (way : Way) (m : Msg) → passed_by (station_of side) way m (is_data m.kind) ≡ station_of side
passes side way m =
    let step : (b : Bool) → is_data m.kind ≡ b → passed_by (station_of side) way m b ≡ station_of side = elim [ true ↦ λ e. refl | false ↦ λ e. passing side way m.kind m e e ] in
    step (is_data m.kind) refl

pub module_does_as_its_end : ModuleDoesAsItsEnd
module_does_as_its_end =
    record {
      hands_down = hands_down;
      sends = λ side frames room turn. sends side room turn;
      hears = hears;
      ticks = λ side frames ticks. refl;
      passes = λ side frames way m. passes side way m;
    }
