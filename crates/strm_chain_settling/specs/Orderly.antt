-- Vocabularies whose services end (Programmer's Guide: STREAMS, "Service Procedures").
use Rattle.std.specs.Prelude.{◌≡◌, ◌<◌, ◌≤◌, ◌||◌, not, ℕ, Bool, true, false, Option}
use Rattle.std.specs.List.{list_all}
use Rattle.strm_msg.specs.Kind.{is_high}
use Rattle.strm_msg.specs.Message.{Msg}
use Rattle.strm_msg.specs.declared.words.Side.{Side}
use Rattle.strm_msg.specs.declared.words.Side.TheVariants.{Rd, Wr}
use Rattle.strm_module.specs.declared.turn.Turn.TheVariants.{Sends}
use Rattle.strm_module.specs.Kinds.{OutList, Meaning, AnswersStay, is_up}

-- all messages that leave are high
abbrev pub are_high : OutList → Bool
are_high outs = list_all (λ out. is_high out.1.kind) outs

-- all messages that go up are high
abbrev pub ups_are_high : OutList → Bool
ups_are_high outs = list_all (λ out. not (is_up out.0) || is_high out.1.kind) outs

abbrev pub other_side : Side → Side
other_side Rd = Wr
other_side Wr = Rd

-- the laws of a vocabulary; `debt` bounds the number of times that a side may still send of its own
pub record IsOrderly {K : Type 0} (means : Meaning K) (debt : K → Side → ℕ) : Type 0 where
  -- the messages that are made of a high message are high, and neither side owes more for it
  pub tame : (kind : K) (side : Side) (m : Msg) → is_high m.kind ≡ true → are_high (means.acts kind side m).outs ≡ true
  pub tame_debt : (kind : K) (side owing : Side) (m : Msg) → is_high m.kind ≡ true → debt (means.acts kind side m).kind owing ≤ debt kind owing
  -- if messages of a side are not answered, the other side owes no more for them
  pub unanswered : (kind : K) (side : Side) (m : Msg) → means.answers kind side ≡ false → debt (means.acts kind side m).kind (other_side side) ≤ debt kind (other_side side)
  -- if messages that go down are not answered, the messages that go up for them, or of the write side's own,
  -- are high
  pub unanswered_ups : (kind : K) (m : Msg) → means.answers kind Wr ≡ false → ups_are_high (means.acts kind Wr m).outs ≡ true
  pub unanswered_own : (kind : K) (band : Option ℕ) → means.turn kind Wr ≡ Sends band → means.answers kind Wr ≡ false → ups_are_high (means.own kind Wr).outs ≡ true
  -- a side that sends of its own owes less, and the other side no more
  pub owns : (kind : K) (side : Side) (band : Option ℕ) → means.turn kind side ≡ Sends band → debt (means.own kind side).kind side < debt kind side
  pub owns_alone : (kind : K) (side : Side) (band : Option ℕ) → means.turn kind side ≡ Sends band → debt (means.own kind side).kind (other_side side) ≤ debt kind (other_side side)
  -- the sides on which a kind answers do not change
  pub stays : AnswersStay means
