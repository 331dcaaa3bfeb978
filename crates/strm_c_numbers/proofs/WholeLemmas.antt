-- A message is made of its numbers and parts, and the bytes of its parts pass through.
use Rattle.std.proofs.Common.{◌≡◌, ℕ, ◌-◌, ◌||◌, nat_eq, nat_le, Bool, true, false, Option, Some, None, [], ◌∷◌, option_map, ◌⊎◌, inl, inr, refl, sym, ◌∙◌, if◌then◌else◌}
use Rattle.std.proofs.lemmas.Bool.{eqb-true}
use Rattle.std.specs.Option.{option_and_then}
use Rattle.strm_msg.specs.Message.{Msg, Part, bare, data_msg, proto_msg, pcproto_msg}
use Rattle.strm_msg.specs.Options.{options_asked}
use Rattle.strm_msg.specs.declared.kind.MsgKind.{MsgKind}
use Rattle.strm_msg.specs.declared.kind.MsgKind.TheVariants.{MSetopts, MIocnak, MFlush, MError}
use Rattle.strm_msg.specs.declared.errno.Errno.{Errno}
use Rattle.strm_c_numbers.specs.declared.whole.Whole.{Whole}
use Rattle.strm_c_numbers.specs.Numbers.{sides_of, band_of}
use Rattle.strm_c_numbers.specs.Messages.{errno_of, side_errno_of, error_msg, flush_msg, options_msg, bare_of, message_of}
use Rattle.strm_c_numbers.specs.Whole.{whole_message, emptied, number_in, is_told_by_data}

-- what is made on each side of a choice passes through it
by_if : {X Y : Type 0} (f : X → Y) (b : Bool) (x y : X) (x' y' : Y) → (b ≡ true → f x ≡ x') → (b ≡ false → f y ≡ y') → f (if b then x else y) ≡ (if b then x' else y')
by_if f true x y x' y' one other = one refl
by_if f false x y x' y' one other = other refl

-- a part with no byte, if it is there
abbrev no_bytes : Part → Part
no_bytes part = option_map (λ bytes. []) part

abbrev emptied_if : Option Msg → Option Msg
emptied_if m = option_map (λ found. emptied found) m

-- ---- messages without parts

options_are_bare : (asked : Option MsgKind) → emptied_if (options_msg asked) ≡ options_msg asked
options_are_bare (Some (MSetopts mode prot marks)) = refl
options_are_bare asked = refl

sides_are_bare : (rd wr : Option (Option Errno)) → emptied_if (option_and_then (λ r. option_map (λ w. bare (MError r w)) wr) rd) ≡ option_and_then (λ r. option_map (λ w. bare (MError r w)) wr) rd
sides_are_bare None wr = refl
sides_are_bare (Some r) None = refl
sides_are_bare (Some r) (Some w) = refl

errno_is_bare : (errno : Option Errno) → emptied_if (option_map (λ e. bare (MError (Some e) (Some e))) errno) ≡ option_map (λ e. bare (MError (Some e) (Some e))) errno
errno_is_bare None = refl
errno_is_bare (Some errno) = refl

error_is_bare : (dat : Part) (number : ℕ) → emptied_if (error_msg dat number) ≡ error_msg dat number
error_is_bare None number = errno_is_bare (errno_of number)
error_is_bare (Some (both ∷ [])) number = sides_are_bare (side_errno_of both) (side_errno_of both)
error_is_bare (Some (read ∷ (write ∷ []))) number = sides_are_bare (side_errno_of read) (side_errno_of write)
error_is_bare (Some bytes) number = refl

flushed_sides : (sides : Option (Bool × Bool)) (flushed : Option ℕ) → emptied_if (option_map (λ s. bare (MFlush s.0 s.1 flushed)) sides) ≡ option_map (λ s. bare (MFlush s.0 s.1 flushed)) sides
flushed_sides None flushed = refl
flushed_sides (Some sides) flushed = refl

flush_is_bare : (band flags : ℕ) → emptied_if (flush_msg band flags) ≡ flush_msg band flags
flush_is_bare band flags =
    by_if emptied_if (nat_le flags 3) _ _ _ _ (λ is. flushed_sides (sides_of flags) None) (λ is. flushed_sides (sides_of (flags - 4)) (Some band))

is_bare : (kind band : ℕ) (dat : Part) (number : ℕ) → emptied_if (bare_of kind band dat number) ≡ bare_of kind band dat number
is_bare kind band dat number =
    by_if emptied_if (nat_eq kind 16) _ _ _ _ (λ is. options_are_bare (options_asked dat)) (λ is16.
    by_if emptied_if (nat_eq kind 134) _ _ _ _ (λ is. flush_is_bare band number) (λ is134.
    by_if emptied_if (nat_eq kind 137) _ _ _ _ (λ is. refl) (λ is137.
    by_if emptied_if (nat_eq kind 138) _ _ _ _ (λ is. error_is_bare dat number) (λ is. refl))))

-- ---- messages with parts

-- where data say neither options nor errors, their bytes are not looked at
bare_ignores : (kind band : ℕ) (dat : Part) (number : ℕ) → nat_eq kind 16 ≡ false → nat_eq kind 138 ≡ false → bare_of kind band dat number ≡ bare_of kind band (no_bytes dat) number
bare_ignores kind band dat number no16 no138 =
    by_if (λ m. m) (nat_eq kind 16) _ _ _ _ (λ is. absurd (let no : true ≡ false = sym is ∙ no16 in cc)) (λ is16.
    by_if (λ m. m) (nat_eq kind 134) _ _ _ _ (λ is. refl) (λ is134.
    by_if (λ m. m) (nat_eq kind 137) _ _ _ _ (λ is. refl) (λ is137.
    by_if (λ m. m) (nat_eq kind 138) _ _ _ _ (λ is. absurd (let no : true ≡ false = sym is ∙ no138 in cc)) (λ is. refl))))

data_empties : (band : ℕ) (dat : Part) → emptied_if (option_map (λ bytes. data_msg band bytes) dat) ≡ option_map (λ bytes. data_msg band bytes) (no_bytes dat)
data_empties band None = refl
data_empties band (Some bytes) = refl

proto_empties : (band : ℕ) (ctl dat : Part) → emptied_if (option_map (λ bytes. proto_msg band bytes dat) ctl) ≡ option_map (λ bytes. proto_msg band bytes (no_bytes dat)) (no_bytes ctl)
proto_empties band None dat = refl
proto_empties band (Some bytes) dat = refl

pcproto_empties : (ctl dat : Part) → emptied_if (option_map (λ bytes. pcproto_msg bytes dat) ctl) ≡ option_map (λ bytes. pcproto_msg bytes (no_bytes dat)) (no_bytes ctl)
pcproto_empties None dat = refl
pcproto_empties (Some bytes) dat = refl

message_empties : (kind band : ℕ) (ctl dat : Part) (number : ℕ) → nat_eq kind 16 ≡ false → nat_eq kind 138 ≡ false → emptied_if (message_of kind band ctl dat number) ≡ message_of kind band (no_bytes ctl) (no_bytes dat) number
message_empties kind band ctl dat number no16 no138 =
    by_if emptied_if (nat_eq kind 0) _ _ _ _ (λ is. data_empties band dat) (λ is0.
    by_if emptied_if (nat_eq kind 1) _ _ _ _ (λ is. proto_empties band ctl dat) (λ is1.
    by_if emptied_if (nat_eq kind 131) _ _ _ _ (λ is. pcproto_empties ctl dat) (λ is. is_bare kind band dat number ∙ bare_ignores kind band dat number no16 no138)))

nak_is_bare : (id : ℕ) (errno : Option Errno) → emptied_if (option_map (λ e. bare (MIocnak id e)) errno) ≡ option_map (λ e. bare (MIocnak id e)) errno
nak_is_bare id None = refl
nak_is_bare id (Some errno) = refl

in_band_empties : (kind : ℕ) (band : Option ℕ) (ctl dat : Part) (number : ℕ) → nat_eq kind 16 ≡ false → nat_eq kind 138 ≡ false → emptied_if (option_and_then (λ b. message_of kind b ctl dat number) band) ≡ option_and_then (λ b. message_of kind b (no_bytes ctl) (no_bytes dat) number) band
in_band_empties kind None ctl dat number no16 no138 = refl
in_band_empties kind (Some band) ctl dat number no16 no138 = message_empties kind band ctl dat number no16 no138

-- the message of parts without bytes is the message without bytes
whole_empties : (whole : Whole) (ctl dat : Part) → nat_eq whole.kind 16 ≡ false → nat_eq whole.kind 138 ≡ false → emptied_if (whole_message whole ctl dat) ≡ whole_message whole (no_bytes ctl) (no_bytes dat)
whole_empties whole ctl dat no16 no138 =
    by_if emptied_if (nat_eq whole.kind 14) _ _ _ _ (λ is. refl) (λ is14.
    by_if emptied_if (nat_eq whole.kind 129) _ _ _ _ (λ is. refl) (λ is129.
    by_if emptied_if (nat_eq whole.kind 130) _ _ _ _ (λ is. nak_is_bare whole.id (errno_of whole.error)) (λ is. in_band_empties whole.kind (band_of whole.band) ctl dat (number_in whole) no16 no138)))

-- and the message of a kind whose data say options or errors has no parts
in_band_is_bare : (kind : ℕ) (band : Option ℕ) (ctl dat : Part) (number : ℕ) → nat_eq kind 0 ≡ false → nat_eq kind 1 ≡ false → nat_eq kind 131 ≡ false → emptied_if (option_and_then (λ b. message_of kind b ctl dat number) band) ≡ option_and_then (λ b. bare_of kind b dat number) band
in_band_is_bare kind None ctl dat number no0 no1 no131 = refl
in_band_is_bare kind (Some band) ctl dat number no0 no1 no131 =
    rw no0 rw no1 rw no131 (is_bare kind band dat number)

told_at : (whole : Whole) (ctl dat : Part) → (whole.kind ≡ 16) ⊎ (whole.kind ≡ 138) → emptied_if (whole_message whole ctl dat) ≡ option_and_then (λ b. bare_of whole.kind b dat (number_in whole)) (band_of whole.band)
told_at whole ctl dat (inl is) = rw is (in_band_is_bare 16 (band_of whole.band) ctl dat whole.flags refl refl refl)
told_at whole ctl dat (inr is) = rw is (in_band_is_bare 138 (band_of whole.band) ctl dat whole.error refl refl refl)

either : (kind : ℕ) (is16 is138 : Bool) → nat_eq kind 16 ≡ is16 → nat_eq kind 138 ≡ is138 → (is16 || is138) ≡ true → (kind ≡ 16) ⊎ (kind ≡ 138)
either kind true is138 at16 at138 is = inl (eqb-true kind 16 at16)
either kind false true at16 at138 is = inr (eqb-true kind 138 at138)
either kind false false at16 at138 is = absurd cc

neither : (is16 is138 : Bool) → (is16 || is138) ≡ false → (is16 ≡ false) × (is138 ≡ false)
neither true is138 is = absurd cc
neither false true is = absurd cc
neither false false is = (refl, refl)

pub told_by_data : (whole : Whole) (ctl dat : Part) → is_told_by_data whole.kind ≡ true → emptied_if (whole_message whole ctl dat) ≡ option_and_then (λ b. bare_of whole.kind b dat (number_in whole)) (band_of whole.band)
told_by_data whole ctl dat told = told_at whole ctl dat (either whole.kind (nat_eq whole.kind 16) (nat_eq whole.kind 138) refl refl told)

pub not_told : (whole : Whole) (ctl dat : Part) → is_told_by_data whole.kind ≡ false → emptied_if (whole_message whole ctl dat) ≡ whole_message whole (no_bytes ctl) (no_bytes dat)
not_told whole ctl dat told =
    let no = neither (nat_eq whole.kind 16) (nat_eq whole.kind 138) told in whole_empties whole ctl dat no.0 no.1
