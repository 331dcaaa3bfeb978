-- What asks a driver for options of the head changes nothing at its end.
use Rattle.std.proofs.Common.{◌≡◌, ◌==◌, ℕ, Bool, true, false, Option, if◌then◌else◌, ◌∙◌, ap, refl}
use Rattle.strm_msg.specs.Message.{Msg}
use Rattle.strm_msg.specs.Options.{options_asked}
use Rattle.strm_msg.specs.declared.words.End.{End}
use Rattle.strm_msg.specs.declared.words.End.TheVariants.{A, B}
use Rattle.strm_msg.specs.declared.words.ReadMode.{ReadMode}
use Rattle.strm_msg.specs.declared.words.Prot.{Prot}
use Rattle.strm_msg.specs.declared.options.TheConstants.{SETOPTS}
use Rattle.strm_msg.specs.declared.kind.MsgKind.{MsgKind}
use Rattle.strm_msg.specs.declared.kind.MsgKind.TheVariants.{MData, MProto, MPcproto, MIoctl, MIocack, MIocnak, MSetopts, MFlush, MHangup, MError}
use Rattle.strm_module.specs.declared.driver.Driver.{Driver}
use Rattle.strm_module.specs.declared.driver.Driver.TheVariants.{Echo, Loop, Line, Wire}
use Rattle.strm_module.specs.Driver.{has_end}
use Rattle.strm_chain_end.specs.End.{EndState}
use Rattle.strm_chain_end.specs.Driver.{put_at_line, put_at_loop, put_at_echo, put_at_wire, driver_at, options_up, refuses, consumes}
use Rattle.strm_chain_end.specs.declared.driver.DriverSends.TheVariants.{Options}
use Rattle.strm_chain_ends.specs.Image.{Image, end_of, put_at_driver, input_flushed, driven}

module _ {K : Type 0} (mode : Option ReadMode) (prot : Option Prot) (marks : Option (ℕ × ℕ)) (id : ℕ) where
  line_still : (e : EndState K) (kind : MsgKind) → Options mode prot marks id ≡ (put_at_line e kind).sends → (put_at_line e kind).state ≡ e
  line_still e (MFlush true w band) s = cc
  line_still e (MFlush false w band) s = cc
  line_still e (MIoctl n cmd) s = refl
  line_still e MData s = refl
  line_still e MProto s = refl
  line_still e MPcproto s = refl
  line_still e (MIocack n rval) s = refl
  line_still e (MIocnak n errno) s = refl
  line_still e (MSetopts a b d) s = refl
  line_still e MHangup s = refl
  line_still e (MError rd wr) s = refl

  loop_still : (e : EndState K) (kind : MsgKind) (m : Msg) → Options mode prot marks id ≡ (put_at_loop e kind m).sends → (put_at_loop e kind m).state ≡ e
  loop_still e (MFlush true w band) m s = cc
  loop_still e (MFlush false w band) m s = cc
  loop_still e (MIoctl n cmd) m s = refl
  loop_still e MData m s = cc
  loop_still e MProto m s = cc
  loop_still e MPcproto m s = refl
  loop_still e (MIocack n rval) m s = refl
  loop_still e (MIocnak n errno) m s = refl
  loop_still e (MSetopts a b d) m s = refl
  loop_still e MHangup m s = refl
  loop_still e (MError rd wr) m s = refl

  ioctl_still : (e : EndState K) (n : ℕ) (m : Msg) (asks : Bool) → (if asks then record { state = e; sends = options_up n (options_asked m.dat) } else refuses e n).state ≡ e
  ioctl_still e n m true = refl
  ioctl_still e n m false = refl

  echo_still : (e : EndState K) (kind : MsgKind) (m : Msg) → Options mode prot marks id ≡ (put_at_echo e kind m).sends → (put_at_echo e kind m).state ≡ e
  echo_still e (MIoctl n cmd) m s = ioctl_still e n m (cmd == SETOPTS)
  echo_still e (MFlush r w band) m s = loop_still e (MFlush r w band) m s
  echo_still e MData m s = loop_still e MData m s
  echo_still e MProto m s = loop_still e MProto m s
  echo_still e MPcproto m s = refl
  echo_still e (MIocack n rval) m s = refl
  echo_still e (MIocnak n errno) m s = refl
  echo_still e (MSetopts a b d) m s = refl
  echo_still e MHangup m s = refl
  echo_still e (MError rd wr) m s = refl

  wire_still : (e : EndState K) (kind : MsgKind) (m : Msg) → Options mode prot marks id ≡ (put_at_wire e kind m).sends → (put_at_wire e kind m).state ≡ e
  wire_still e (MFlush true w band) m s = cc
  wire_still e (MFlush false w band) m s = cc
  wire_still e (MIoctl n cmd) m s = refl
  wire_still e MData m s = cc
  wire_still e MProto m s = cc
  wire_still e MPcproto m s = cc
  wire_still e (MIocack n rval) m s = refl
  wire_still e (MIocnak n errno) m s = refl
  wire_still e (MSetopts a b d) m s = refl
  wire_still e MHangup m s = refl
  wire_still e (MError rd wr) m s = refl

  driver_still : (d : Driver) (e : EndState K) (m : Msg) → Options mode prot marks id ≡ (driver_at d e m).sends → (driver_at d e m).state ≡ e
  driver_still Line e m s = line_still e m.kind s
  driver_still Echo e m s = echo_still e m.kind m s
  driver_still Loop e m s = loop_still e m.kind m s
  driver_still Wire e m s = wire_still e m.kind m s

  had_still : (d : Driver) (e : EndState K) (m : Msg) (has : Bool) → Options mode prot marks id ≡ (if has then driver_at d e m else consumes e).sends → (if has then driver_at d e m else consumes e).state ≡ e
  had_still d e m true s = driver_still d e m s
  had_still d e m false s = refl

  -- the driver that sends options up has left its end as it was
  pub options_still : (d : Driver) (end : End) (e : EndState K) (m : Msg) → Options mode prot marks id ≡ (put_at_driver d end e m).sends → (put_at_driver d end e m).state ≡ e
  options_still d end e m s = had_still d e m (has_end d end) s

  wire_passes : (e far : EndState K) (kind : MsgKind) (m : Msg) → Options mode prot marks id ≡ (put_at_wire e kind m).sends → input_flushed Wire far kind ≡ far
  wire_passes e far (MFlush true w band) m s = cc
  wire_passes e far (MFlush false w band) m s = refl
  wire_passes e far (MIoctl n cmd) m s = refl
  wire_passes e far MData m s = refl
  wire_passes e far MProto m s = refl
  wire_passes e far MPcproto m s = refl
  wire_passes e far (MIocack n rval) m s = refl
  wire_passes e far (MIocnak n errno) m s = refl
  wire_passes e far (MSetopts a b d) m s = refl
  wire_passes e far MHangup m s = refl
  wire_passes e far (MError rd wr) m s = refl

  -- nor what came in to a wire
  input_still : (d : Driver) (e far : EndState K) (m : Msg) → Options mode prot marks id ≡ (put_at_driver d A e m).sends → input_flushed d far m.kind ≡ far
  input_still Echo e far m s = refl
  input_still Loop e far m s = refl
  input_still Line e far m s = refl
  input_still Wire e far m s = wire_passes e far m.kind m s

  -- nor has it changed anything else
  pub nothing_changed : (end : End) (old new : Image K) (m : Msg) → Options mode prot marks id ≡ (put_at_driver old.driver end (end_of old end) m).sends → new ≡ driven old end m → new ≡ old
  nothing_changed A old new m s is =
      is
      ∙ ap (λ (x : EndState K). record old { a = x; b = input_flushed old.driver old.b m.kind }) (options_still old.driver A old.a m s)
      ∙ ap (λ (x : EndState K). record old { b = x }) (input_still old.driver old.a old.b m s)
  nothing_changed B old new m s is = is ∙ ap (λ (x : EndState K). record old { b = x }) (options_still old.driver B old.b m s)
