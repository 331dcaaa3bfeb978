-- What a message does at a head and at a driver, by w.
use Rattle.std.proofs.Common.{◌≡◌, ◌∙◌, ◌==◌, ◌<◌, ◌≤◌, ℕ, Bool, true, false, cond, Option, Some, None, length, refl, sym, ap, subst, arith, zero}
use Rattle.strm_chain_ends.proofs.CalmLemmas.{le_same}
use Rattle.strm_chain_ends.proofs.TurnLemmas.{input_modules}
use Rattle.strm_msg.specs.Kind.{is_high}
use Rattle.strm_msg.specs.Message.{Msg, bare, ack_msg}
use Rattle.strm_msg.specs.Options.{options_asked}
use Rattle.strm_msg.specs.declared.options.TheConstants.{SETOPTS}
use Rattle.strm_msg.specs.declared.errno.Errno.{Errno}
use Rattle.strm_msg.specs.declared.kind.MsgKind.{MsgKind}
use Rattle.strm_msg.specs.declared.kind.MsgKind.TheVariants.{MData, MProto, MPcproto, MIoctl, MSetopts, MFlush, MError}
use Rattle.strm_msg.specs.declared.words.End.{End}
use Rattle.strm_msg.specs.declared.words.End.TheVariants.{A, B}
use Rattle.strm_msg.specs.declared.words.Side.TheVariants.{Rd}
use Rattle.strm_queue.specs.Queue.{put_in, has_pcproto}
use Rattle.strm_module.specs.declared.driver.Driver.{Driver}
use Rattle.strm_module.specs.declared.driver.Driver.TheVariants.{Echo, Loop, Line, Wire}
use Rattle.strm_module.specs.Driver.{is_serviced, partner}
use Rattle.strm_chain_end.specs.End.{EndState, in_head}
use Rattle.strm_chain_end.specs.Head.{open_head, keeps, put_at_head, flush_down, error_flush}
use Rattle.strm_chain_end.specs.Driver.{DriverStep, consumes, refuses, flush_up, put_at_line, put_at_loop, options_up, put_at_echo, put_at_wire}
use Rattle.strm_chain_end.specs.declared.driver.DriverSends.{DriverSends}
use Rattle.strm_chain_end.specs.declared.driver.DriverSends.TheVariants.{Nothing, Reply, Across, Options}
use Rattle.strm_chain_ends.specs.Image.{Image, end_of, with_end, count_of, put_at_driver, input_flushed, driven}
use Rattle.strm_chain.specs.Deliver.{Sender, SenderPast, send_on, head_gets, driver_sends, driver_gets, sends_nothing}
use Rattle.strm_chain_settling.proofs.ListLemmas.{not_both, flush_short}
use Rattle.strm_chain_settling.proofs.Ranks.{Ranking, modules_of, waits_below, Sinks, IsRanked}
use Rattle.strm_chain_settling.proofs.Below.{SendsBelow, ComesBelow, RisesBelow, HasFrame, counted, EndBelow, Below, end_same, below_same, below_trans, frame_after, below_with}

-- ---- a head

-- a list of a head or its record changes, and nothing else
record IsBeside {K : Type 0} (old new : EndState K) : Type 0 where
  modules : new.modules ≡ old.modules
  drv : new.drv ≡ old.drv

either_beside : {K : Type 0} (b : Bool) (e x y : EndState K) → IsBeside e x → IsBeside e y → IsBeside e (cond b x y)
either_beside true e x y hx hy = hx
either_beside false e x y hx hy = hy

open_head_beside : {K : Type 0} (e : EndState K) (kind : MsgKind) (m : Msg) → IsBeside e (open_head e kind m).state
open_head_beside e MPcproto m =
    either_beside (has_pcproto e.head) e e (in_head e (put_in e.head m)) (record { modules = refl; drv = refl }) (record { modules = refl; drv = refl })
open_head_beside e kind m = record { modules = refl; drv = refl }

head_beside : {K : Type 0} (e : EndState K) (m : Msg) (is_open : Bool) → IsBeside e (cond is_open (open_head e m.kind m) (keeps e)).state
head_beside e m true = open_head_beside e m.kind m
head_beside e m false = record { modules = refl; drv = refl }

-- what a head sends down, if anything, is high
abbrev IsHighIfSent : Option Msg → Type 0
IsHighIfSent None = Unit {0}
IsHighIfSent (Some m) = is_high m.kind ≡ true

flush_high : (w : Bool) (band : Option ℕ) → IsHighIfSent (flush_down w band)
flush_high true band = refl
flush_high false band = tt

error_high : (rd wr : Option Errno) → IsHighIfSent (error_flush rd wr)
error_high None None = tt
error_high None (Some wr) = refl
error_high (Some rd) wr = refl

open_head_high : {K : Type 0} (e : EndState K) (kind : MsgKind) (m : Msg) → IsHighIfSent (open_head e kind m).sends
open_head_high e (MFlush r w band) m = flush_high w band
open_head_high e (MError rd wr) m = error_high rd wr
open_head_high e kind m = tt

head_high : {K : Type 0} (e : EndState K) (m : Msg) (is_open : Bool) → IsHighIfSent (cond is_open (open_head e m.kind m) (keeps e)).sends
head_high e m true = open_head_high e m.kind m
head_high e m false = tt

-- ---- a driver

-- what a driver sends is high, and options are sent only where this holds
abbrev SendsFit : Type 0 → DriverSends → Type 0
SendsFit may Nothing = Unit {0}
SendsFit may (Reply m) = is_high m.kind ≡ true
SendsFit may (Across m) = is_high m.kind ≡ true
SendsFit may (Options mode prot marks id) = may

-- the modules of an end stay, its driver's list is no longer where nothing comes to wait there, and the
-- driver sends what it may
record IsDriven {K : Type 0} (waits may : Type 0) (e : EndState K) (step : DriverStep K) : Type 0 where
  modules : step.state.modules ≡ e.modules
  drv : (waits → ⊥) → length step.state.drv ≤ length e.drv
  sends : SendsFit may step.sends

driven_less : {K : Type 0} (waits more may : Type 0) (e : EndState K) (step : DriverStep K) → (waits → more) → IsDriven waits may e step → IsDriven more may e step
driven_less waits more may e step so d = record { modules = d.modules; drv = λ none. d.drv (λ w. none (so w)); sends = d.sends }

flush_fits : (may : Type 0) (r : Bool) (band : Option ℕ) → SendsFit may (flush_up r band)
flush_fits may true band = refl
flush_fits may false band = tt

consumes_driven : {K : Type 0} (waits may : Type 0) (e : EndState K) → IsDriven waits may e (consumes e)
consumes_driven waits may e = record { modules = refl; drv = λ none. le_same (length e.drv); sends = tt }

refuses_driven : {K : Type 0} (waits may : Type 0) (e : EndState K) (id : ℕ) → IsDriven waits may e (refuses e id)
refuses_driven waits may e id = record { modules = refl; drv = λ none. le_same (length e.drv); sends = refl }

line_driven : {K : Type 0} (waits may : Type 0) (e : EndState K) (kind : MsgKind) → IsDriven waits may e (put_at_line e kind)
line_driven waits may e (MFlush r w band) =
    record { modules = refl; drv = λ none. flush_short r band e.drv; sends = flush_fits may r band }
line_driven waits may e (MIoctl id cmd) = refuses_driven waits may e id
line_driven waits may e kind = consumes_driven waits may e

loop_driven : {K : Type 0} (may : Type 0) (e : EndState K) (kind : MsgKind) (m : Msg) → m.kind ≡ kind → IsDriven (is_high kind ≡ false) may e (put_at_loop e kind m)
loop_driven may e (MFlush r w band) m at =
    record { modules = refl; drv = λ none. flush_short w band e.drv; sends = flush_fits may r band }
loop_driven may e (MIoctl id cmd) m at = refuses_driven (false ≡ false) may e id
loop_driven may e MData m at = record { modules = refl; drv = λ none. absurd (none refl); sends = tt }
loop_driven may e MProto m at = record { modules = refl; drv = λ none. absurd (none refl); sends = tt }
loop_driven may e MPcproto m at =
    record { modules = refl; drv = λ none. le_same (length e.drv); sends = ap is_high at }
loop_driven may e kind m at = consumes_driven (is_high kind ≡ false) may e

options_fit : (may : Type 0) (id : ℕ) (asked : Option MsgKind) → may → SendsFit may (options_up id asked)
options_fit may id (Some (MSetopts mode prot marks)) h = h
options_fit may id asked h = refl

either_driven : {K : Type 0} (b : Bool) (waits may : Type 0) (e : EndState K) (x y : DriverStep K) → IsDriven waits may e x → IsDriven waits may e y → IsDriven waits may e (cond b x y)
either_driven true waits may e x y hx hy = hx
either_driven false waits may e x y hx hy = hy

echo_driven : {K : Type 0} (may : Type 0) (e : EndState K) (kind : MsgKind) (m : Msg) → m.kind ≡ kind → (is_high kind ≡ false → may) → IsDriven (is_high kind ≡ false) may e (put_at_echo e kind m)
echo_driven may e (MIoctl id cmd) m at h =
    either_driven (cmd == SETOPTS) (false ≡ false) may e (record { state = e; sends = options_up id (options_asked m.dat) }) (refuses e id)
    (record { modules = refl; drv = λ none. le_same (length e.drv); sends = options_fit may id (options_asked m.dat) (h refl) })
    (refuses_driven (false ≡ false) may e id)
echo_driven may e kind m at h = loop_driven may e kind m at

wire_driven : {K : Type 0} (may : Type 0) (e : EndState K) (kind : MsgKind) (m : Msg) → m.kind ≡ kind → IsDriven (Unit {0}) may e (put_at_wire e kind m)
wire_driven may e MPcproto m at = record { modules = refl; drv = λ none. absurd (none tt); sends = tt }
wire_driven may e kind m at =
    driven_less (is_high kind ≡ false) (Unit {0}) may e (put_at_loop e kind m) (λ h. tt) (loop_driven may e kind m at)

-- an ordinary message where what comes down waits in a list that is serviced
abbrev Waits : Driver → End → Msg → Type 0
Waits d e m = (is_high m.kind ≡ false) × (waits_below d e ≡ true)

driver_driven : {K : Type 0} (may : Type 0) (d : Driver) (end : End) (e : EndState K) (m : Msg) → (d ≡ Echo → Waits d end m → may) → IsDriven (is_serviced d end ≡ true → Waits d end m) may e (put_at_driver d end e m)
driver_driven may Echo A e m h =
    driven_less (is_high m.kind ≡ false) (is_serviced Echo A ≡ true → Waits Echo A m) may e (put_at_echo e m.kind m) (λ w on. (w, refl)) (echo_driven may e m.kind m refl (λ w. h refl (w, refl)))
driver_driven may Echo B e m h = consumes_driven (is_serviced Echo B ≡ true → Waits Echo B m) may e
driver_driven may Loop end e m h =
    driven_less (is_high m.kind ≡ false) (is_serviced Loop end ≡ true → Waits Loop end m) may e (put_at_loop e m.kind m) (λ w on. (w, refl)) (loop_driven may e m.kind m refl)
driver_driven may Line A e m h = line_driven (is_serviced Line A ≡ true → Waits Line A m) may e m.kind
driver_driven may Line B e m h = consumes_driven (is_serviced Line B ≡ true → Waits Line B m) may e
driver_driven may Wire A e m h =
    driven_less (Unit {0}) (is_serviced Wire A ≡ true → Waits Wire A m) may e (put_at_wire e m.kind m) (λ w on. let no : false ≡ true = on in cc) (wire_driven may e m.kind m refl)
driver_driven may Wire B e m h = consumes_driven (is_serviced Wire B ≡ true → Waits Wire B m) may e

input_short : {K : Type 0} (d : Driver) (far : EndState K) (kind : MsgKind) → length (input_flushed d far kind).drv ≤ length far.drv
input_short Wire far (MFlush true w band) = flush_short true band far.drv
input_short Wire far (MFlush false w band) = le_same (length far.drv)
input_short Wire far kind = le_same (length far.drv)
input_short Echo far kind = le_same (length far.drv)
input_short Loop far kind = le_same (length far.drv)
input_short Line far kind = le_same (length far.drv)

-- ---- both, by ranks
module _ {K : Type 0} (w : Ranking K) (ranked : IsRanked w) where
  send_on_below : (send : Sender K) → SendsBelow w send → (r : ℕ) (e : End) (image : Image K) (o : Option Msg) → HasFrame w image → IsHighIfSent o → Below w r image (send_on send e image o)
  send_on_below send each r e image None frame high = below_same w r image
  send_on_below send each r e image (Some m) frame high = each r e image m frame high

  pub head_below : (send : Sender K) → SendsBelow w send → ComesBelow w (head_gets send)
  head_below send each r e image m frame =
      let s = end_of image e in
      let h = put_at_head s m in
      let there = with_end image e h.state in
      let beside = head_beside s m s.is_open in
      let first : Below w r image there = below_with w r image e h.state (end_same w r e s h.state beside.modules (λ on high. let n = ap (λ q. length q) beside.drv in omega (arith, n))) in
      below_trans w r image there (send_on send e there h.sends) first
      (send_on_below send each r e there h.sends (frame_after w r image there frame first) (head_high s m s.is_open))

  pub nothing_below : SendsBelow w sends_nothing
  nothing_below r e image m frame high = below_same w r image

  -- an end at its driver
  driven_end : (r : ℕ) (may : Type 0) (d : Driver) (e : End) (s : EndState K) (step : DriverStep K) (m : Msg) → d ≡ w.driver → (Waits d e m → w.drives e < r) → IsDriven (is_serviced d e ≡ true → Waits d e m) may s step → EndBelow w r e s step.state
  driven_end r may d e s step m is low h =
      end_same w r e s step.state h.modules
      (λ on high. h.drv (λ w. let less = low (w (subst (λ x. is_serviced x e ≡ true) (sym is) on)) in absurd (omega (arith, less))))

  ends_driven : (r : ℕ) (may : Type 0) (image : Image K) (e : End) (m : Msg) → HasFrame w image → (Waits image.driver e m → w.drives e < r) → IsDriven (is_serviced image.driver e ≡ true → Waits image.driver e m) may (end_of image e) (put_at_driver image.driver e (end_of image e) m) → (at : End) → EndBelow w r at (end_of image at) (end_of (driven image e m) at)
  ends_driven r may image A m frame low h A = driven_end r may image.driver A image.a (put_at_driver image.driver A image.a m) m frame.driver low h
  ends_driven r may image A m frame low h B =
      end_same w r B image.b (input_flushed image.driver image.b m.kind) (input_modules image.driver image.b m.kind) (λ on high. input_short image.driver image.b m.kind)
  ends_driven r may image B m frame low h A = (below_same w r image).ends A
  ends_driven r may image B m frame low h B = driven_end r may image.driver B image.b (put_at_driver image.driver B image.b m) m frame.driver low h

  driven_driver : (image : Image K) (e : End) (m : Msg) → (driven image e m).driver ≡ image.driver
  driven_driver image A m = refl
  driven_driver image B m = refl

  -- what a driver sends
  sends_below : (up : SenderPast K) → RisesBelow w up → (r : ℕ) (old : Image K) (e : End) (image : Image K) (sends : DriverSends) → HasFrame w image → SendsFit (w.waits Rd e (count_of old e) < r) sends → Below w r image (driver_sends up old e image sends)
  sends_below up each r old e image Nothing frame h = below_same w r image
  sends_below up each r old e image (Reply m) frame h =
      each r e (count_of old e) image m frame (λ low. not_both (is_high m.kind) h low)
  sends_below up each r old e image (Across m) frame h =
      let p = partner old.driver e in
      each r p (count_of old p) image m frame (λ low. not_both (is_high m.kind) h low)
  sends_below up each r old e image (Options mode prot marks id) frame h =
      let n = count_of old e in
      let there = up e n image (bare (MSetopts mode prot marks)) in
      let first = each r e n image (bare (MSetopts mode prot marks)) frame (λ low. h) in
      below_trans w r image there (up e n there (ack_msg id 0 None)) first
      (each r e n there (ack_msg id 0 None) (frame_after w r image there frame first) (λ low. h))

  -- what an echo sends up goes to a lesser rank than what waits in its list
  echo_reads : (d : Driver) (e : End) → d ≡ Echo → waits_below d e ≡ true → (is_serviced d e ≡ true → w.waits Rd (partner d e) (modules_of w (partner d e)) < w.drives e) → w.waits Rd e (modules_of w e) < w.drives e
  echo_reads Echo A is on h = h refl
  echo_reads Echo B is on h = cc
  echo_reads Loop e is on h = cc
  echo_reads Line e is on h = cc
  echo_reads Wire e is on h = cc

  -- a message comes to a driver, where an ordinary one waits at a rank below r, or nowhere
  pub driver_below : (up : SenderPast K) → RisesBelow w up → (r : ℕ) (e : End) (image : Image K) (m : Msg) → HasFrame w image → (is_high m.kind ≡ false → Sinks w r e zero) → Below w r image (driver_gets up e image m)
  driver_below up each r e image m frame low =
      let d = image.driver in
      let s = end_of image e in
      let there = driven image e m in
      let waits : Waits d e m → w.drives e < r = λ q. low q.0 (subst (λ x. waits_below x e ≡ true) frame.driver q.1) in
      let options : d ≡ Echo → Waits d e m → w.waits Rd e (count_of image e) < r = λ is q.
      let n = counted w image e frame in
      let reads = echo_reads w.driver e (sym frame.driver ∙ is) (subst (λ x. waits_below x e ≡ true) frame.driver q.1) (ranked.driven e) in
      let less = waits q in
      rw n (omega (arith, reads, less)) in
      let h = driver_driven (w.waits Rd e (count_of image e) < r) d e s m options in
      let first : Below w r image there = record { driver = driven_driver image e m; ends = ends_driven r (w.waits Rd e (count_of image e) < r) image e m frame waits h } in
      below_trans w r image there (driver_gets up e image m) first
      (sends_below up each r image e there (put_at_driver d e s m).sends (frame_after w r image there frame first) h.sends)
