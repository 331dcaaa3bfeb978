-- Feeds and feeders, one more at a time.
use Rattle.std.proofs.Common.{◌≡◌, ℕ, suc, ◌+◌, ◌<◌, ◌≤◌, ◌==◌, ◌&&◌, not, Bool, true, false, Option, Some, None, List, [], ◌∷◌, ◌++◌, length, get_or, set, Vec, Global, All, if◌then◌else◌, refl, sym, ◌∙◌, ap, subst, arith}
use Rattle.std.specs.Prelude.{AllPairs, is_some}
use Rattle.std.proofs.lemmas.Bool.{eqb-true, eqb-false, eq-eqb, ne_eqb}
use Rattle.std.proofs.lemmas.List.{length-set, get_or-set_same, get_or-set_other}
use Rattle.strm_msg.specs.Message.{Msg}
use Rattle.strm_module.specs.Driver.{is_line}
use Rattle.strm_head_calls.specs.declared.setup.Setup.{Setup}
use Rattle.strm_shared_ring.specs.Feed.{FeederValue}
use Rattle.strm_run_input.specs.declared.script.Feed.{Feed}
use Rattle.strm_run_input.specs.Scripts.{feed_of, link_to}
use Rattle.strm_run_callers.specs.RunName.{RunValue}
use Rattle.strm_run_callers.specs.Feeding.{IsUnfed}
use Rattle.strm_run_callers.specs.Dealing.{callers_of}
use Rattle.strm_run.specs.Inside.Opening.{feeder_left, fed_below, is_fed_line, AreFeeds, AreLeft}
use Rattle.strm_run_callers.proofs.ReachedLemmas.{fails_more, passes_more, reached_is, reached_there}
use Rattle.strm_run.proofs.TableLemmas.{first}
use Rattle.strm_run.proofs.LinkLemmas.{pairs_before}
use Rattle.strm_run.proofs.ThereLemmas.{line_at}

-- a feed for another stream
feed_other : (feeds : List Feed) (feed : Feed) (k : ℕ) → (feed.stream == k) ≡ false → feed_of (feeds ++ feed ∷ []) k ≡ feed_of feeds k
feed_other [] feed k other = ap (λ (b : Bool). if b then feed.messages.items else []) other
feed_other (first ∷ feeds) feed k other =
    ap (λ (l : List Msg). if first.stream == k then first.messages.items else l) (feed_other feeds feed k other)

-- and the first one for its own
feed_same : (feeds : List Feed) (feed : Feed) → All (λ one. one.stream ≡ feed.stream → ⊥) feeds → feed_of (feeds ++ feed ∷ []) feed.stream ≡ feed.messages.items
feed_same [] feed apart = ap (λ (b : Bool). if b then feed.messages.items else []) (eq-eqb feed.stream feed.stream refl)
feed_same (first ∷ feeds) feed apart =
    let differs : (first.stream == feed.stream) ≡ false = ne_eqb first.stream feed.stream (apart 0 first (omega arith)) in
    ap (λ (b : Bool). if b then first.messages.items else feed_of (feeds ++ feed ∷ []) feed.stream) differs
    ∙ feed_same feeds feed (λ k d below. apart (suc k) d (omega arith))

-- no feed before one is for its stream
pub none_before : (feeds before after : List Feed) (feed : Feed) → before ++ feed ∷ after ≡ feeds → AllPairs (λ one other. one.stream ≡ other.stream → ⊥) feeds → All (λ one. one.stream ≡ feed.stream → ⊥) before
none_before feeds before after feed is once = pairs_before (λ (one other : Feed). one.stream ≡ other.stream → ⊥) feeds before after feed is once

-- one more stream is fed
module _ (feeds : List Feed) (feed : Feed) (streams : ℕ) (all : List (Vec Msg Global)) (fed : AreFeeds feeds streams all) (there : feed.stream < streams) (apart : All (λ one. one.stream ≡ feed.stream → ⊥) feeds) where
  slot_there : feed.stream < length all
  slot_there = subst (λ n. feed.stream < n) (sym fed.many) there

  fed_at : (k : ℕ) (d : Vec Msg Global) (b : Bool) → (feed.stream == k) ≡ b → k < streams → (get_or (set all feed.stream feed.messages) k d).items ≡ feed_of (feeds ++ feed ∷ []) k
  fed_at k d true same below =
      let here : feed.stream ≡ k = eqb-true feed.stream k same in
      subst (λ (n : ℕ). (get_or (set all feed.stream feed.messages) n d).items ≡ feed_of (feeds ++ feed ∷ []) n) here
      (ap (λ (v : Vec Msg Global). v.items) (get_or-set_same all feed.stream feed.messages d slot_there) ∙ sym (feed_same feeds feed apart))
  fed_at k d false other below =
      ap (λ (v : Vec Msg Global). v.items) (get_or-set_other all feed.stream k feed.messages d (λ same. eqb-false feed.stream k other (sym same)))
      ∙ fed.each k d below
      ∙ sym (feed_other feeds feed k other)

  pub fed_more : AreFeeds (feeds ++ feed ∷ []) streams (set all feed.stream feed.messages)
  fed_more = record {
    many = length-set all feed.stream feed.messages ∙ fed.many;
    each = λ k d below. fed_at k d (feed.stream == k) refl below;
  }

-- a choice, by what was chosen
some_if : {X : Type 0} (linked line : Bool) (x found : X) → (if linked then None else (if line then Some x else None)) ≡ Some found → (line ≡ true) × (linked ≡ false) × (found ≡ x)
some_if true line x found is = absurd cc
some_if false true x found is = (refl, refl, cc)
some_if false false x found is = absurd cc

none_if : {X : Type 0} (linked line : Bool) (x : X) (found : Option X) → (if linked then None else (if line then Some x else None)) ≡ found → ((other : X) → found ≡ Some other → ⊥) → (line && not linked) ≡ false
none_if true true x found is none = refl
none_if true false x found is none = refl
none_if false true x found is none = absurd (none x (sym is))
none_if false false x found is none = refl

not_some : {X : Type 0} (o : Option X) → is_some o ≡ false → o ≡ None
not_some None is = refl
not_some (Some x) is = absurd cc

fed_line : (line linked : Bool) → line ≡ true → linked ≡ false → (line && not linked) ≡ true
fed_line true true is none = absurd cc
fed_line true false is none = refl
fed_line false linked is none = absurd cc

module _ {K : Type 0} (run : RunValue K) where
  -- the lines that are fed, as far as one stream more
  lines_more : (at : ℕ) → is_fed_line run at ≡ true → fed_below run (at + 1) ≡ fed_below run at ++ at ∷ []
  lines_more at is =
      let n : at + 1 ≡ suc at = omega arith in
      ap (λ (m : ℕ). fed_below run m) n ∙ passes_more (λ k. is_fed_line run k) (callers_of at) at is

  lines_same : (at : ℕ) → is_fed_line run at ≡ false → fed_below run (at + 1) ≡ fed_below run at
  lines_same at is =
      let n : at + 1 ≡ suc at = omega arith in
      ap (λ (m : ℕ). fed_below run m) n ∙ fails_more (λ k. is_fed_line run k) (callers_of at) at is

-- a feeder, or none, that a loop over them has reached
module _ {K : Type 0} (run : RunValue K) (feeders before after : List (Option FeederValue)) (feeder : Option FeederValue) (at : ℕ) (are : AreLeft run run.links feeders) (is : before ++ feeder ∷ after ≡ feeders) (place : at ≡ length before) where
  setup_there : at < length run.setups
  setup_there = subst (λ n. at < n) are.many (reached_there feeders before after feeder at is place)

  setup : Setup
  setup = first run.setups at setup_there

  left : feeder_left run.links at (get_or run.setups at setup) ≡ feeder
  left = sym (are.each at feeder setup setup_there) ∙ reached_is feeders before after feeder feeder at is place

  abbrev new : FeederValue
  new = record { feed = record { number = at; offers = 0; accepted = [] }; room = (get_or run.setups at setup).ring }

  -- one that is there is of a line that is fed
  module _ (found : FeederValue) (there : feeder ≡ Some found) where
    chosen : (is_line (get_or run.setups at setup).driver ≡ true) × (is_some (link_to run.links at) ≡ false) × (found ≡ new)
    chosen = some_if (is_some (link_to run.links at)) (is_line (get_or run.setups at setup).driver) new found (left ∙ there)

    is_fed : is_fed_line run at ≡ true
    is_fed = fed_line _ _ (line_at run.setups at setup setup_there ∙ chosen.0) chosen.1

    pub lines_found : (lines : List ℕ) → lines ≡ fed_below run at → lines ++ found.feed.number ∷ [] ≡ fed_below run (at + 1)
    lines_found lines was =
        ap (λ (f : FeederValue). lines ++ f.feed.number ∷ []) chosen.2 ∙ ap (λ (l : List ℕ). l ++ at ∷ []) was ∙ sym (lines_more run at is_fed)

    -- with what the line is fed
    pub feeding_found : (feeds now : List (Vec Msg Global)) (messages : Vec Msg Global) → AreFeeds run.feeds (length run.setups) feeds → ((k : ℕ) (d : Vec Msg Global) → at ≤ k → get_or now k d ≡ get_or feeds k d) → messages ≡ get_or now at messages → IsUnfed run found.feed messages.items
    feeding_found feeds now messages fed behind stood =
        let mine : messages.items ≡ feed_of run.feeds at =
        ap (λ (v : Vec Msg Global). v.items) (stood ∙ behind at messages (omega arith)) ∙ fed.each at messages setup_there in
        subst (λ (f : FeederValue). IsUnfed run f.feed messages.items) (sym chosen.2) (record { there = setup_there; apart = not_some (link_to run.links at) chosen.1; begins = refl; none = refl; feed = mine })

  -- the other streams have none
  pub lines_none : (lines : List ℕ) → ((found : FeederValue) → feeder ≡ Some found → ⊥) → lines ≡ fed_below run at → lines ≡ fed_below run (at + 1)
  lines_none lines none was =
      was ∙ sym (lines_same run at (ap (λ (b : Bool). b && not (is_some (link_to run.links at))) (line_at run.setups at setup setup_there) ∙ none_if (is_some (link_to run.links at)) (is_line (get_or run.setups at setup).driver) new feeder left none))
