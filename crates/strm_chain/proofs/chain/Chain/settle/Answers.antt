use Rattle.std.proofs.Common.{◌≡◌, ◌+◌, ◌∷◌, ◌++◌, [], true, false, length, length-append, ◌∙◌, ap, sym, refl, arith}
use Rattle.strm_chain_ends.specs.Flow.{may}
use Rattle.strm_chain_ends.specs.Count.{message_count, place_count, options_count}
use Rattle.strm_chain.specs.Enabled.{ChainValue}
use Rattle.strm_chain.proofs.QuietLemmas.{Leads-snoc, same_trans, leads_to, same_to}
use Rattle.strm_chain.proofs.chain.Chain.settle.Goals as goal

pub loop-place-preserved : goal.loop-place-preserved
loop-place-preserved g c =
    let l = c.loop-place.invariant in
    let before = c.take_hops-hops.new.self.image in
    let at = c.loop-place.self.image in
    let now = c.next_enabled.new.self.image in
    let counted = c.in-Some.ensures.given in
    record {
      empty = l.empty;
      leads = leads_to _ c.loop-place.moves before at now c.next_enabled.ensures.image l.leads;
      same = same_to before at now c.next_enabled.ensures.image l.same;
      whole = l.whole;
      still = λ none. c.next_enabled.ensures.image ∙ l.still none;
      least = omega (arith, l.least, l.counted, counted);
      most = λ kinds.
          let before = l.most kinds in
          let rested = c.in-Some.ensures.rests c.if-may.false in
          let same = ap message_count c.next_enabled.ensures.image in
          let options = ap options_count c.next_enabled.ensures.image in
          omega (arith, before, rested, same, options, counted);
      own = omega (arith, l.own, c.in-Some.ensures.rests c.if-may.false, counted);
      counted = l.counted;
    }

pub loop-place-preserved-in-Continue-1 : goal.loop-place-preserved-in-Continue-1
loop-place-preserved-in-Continue-1 g c =
    let l = c.loop-place.invariant in
    let before = c.take_hops-hops.new.self.image in
    let at = c.loop-place.self.image in
    let mid = c.next_enabled.new.self.image in
    let now = c.move_one.new.self.image in
    let place = c.in-Some.place in
    let counted = c.in-Some.ensures.given in
    let kept = c.in_ok-move_one.ensures.given in
    let few = c.in_ok-move_one.ensures.counted in
    let long : length (c.loop-place.moves ++ place ∷ []) ≡ length c.loop-place.moves + 1 = length-append c.loop-place.moves (place ∷ []) in
    let all = ap length c.in_ok-move_one.ensures.moves in
    let may_now : may g.M.Kind.Kinds.means mid place ≡ true = ap (λ i. may g.M.Kind.Kinds.means i place) c.next_enabled.ensures.image ∙ c.in-Some.ensures.may ∙ c.if-may.true in
    let to_mid = leads_to _ c.loop-place.moves before at mid c.next_enabled.ensures.image l.leads in
    record {
      empty = c.in_ok-move_one.ensures.done;
      leads = rw c.in_ok-move_one.ensures.moves
          (Leads-snoc _ c.loop-place.moves before mid now place to_mid may_now c.in_ok-move_one.ensures.ok);
      same = same_trans before mid now (same_to before at mid c.next_enabled.ensures.image l.same) c.in_ok-move_one.ensures.same;
      whole = l.whole;
      still = λ none.
          let moves : true ≡ false = sym may_now ∙ ap (λ i. may g.M.Kind.Kinds.means i place) (c.next_enabled.ensures.image ∙ l.still none) ∙ none place in
          cc;
      least = omega (arith, l.least, counted, kept, few, long, all);
      most = λ kinds.
          let before = l.most kinds in
          let looked = c.in-Some.ensures.moves c.if-may.true in
          let same = ap message_count c.next_enabled.ensures.image in
          let options = ap options_count c.next_enabled.ensures.image in
          let more = c.in_ok-move_one.ensures.more kinds (c.in-Some.ensures.enabled c.if-may.true) in
          omega (arith, before, looked, same, options, counted, kept, more, long, all);
      own = omega (arith, l.own, counted, kept, c.in_ok-move_one.ensures.few, long, all);
      counted = few;
    }

pub returns-clause-most : goal.returns-clause-most
returns-clause-most g c =
    let began = ap (λ (v : ChainValue _). v.image) c.take_hops-hops.ensures.same ∙ c.restart.ensures.image in
    λ kinds.
    let most = c.loop-place.invariant.most kinds in
    let kept = ap (λ (v : ChainValue _). v.image) c.put_back_hops.ensures ∙ c.next_enabled.ensures.image in
    let looked = ap message_count kept in
    let set = ap options_count kept in
    let places = ap place_count began in
    let messages = ap message_count began in
    let options = ap options_count began in
    let given : c.looks-looks.result ≡ c.loop-place.self.run.given = c.looks-looks.ensures ∙ ap (λ (v : ChainValue _). v.run.given) c.self-3.view_is ∙ ap (λ (v : ChainValue _). v.run.given) c.put_back_hops.ensures ∙ ap (λ (v : ChainValue _). v.run.given) c.in_default.ensures.still in
    omega (arith, most, looked, set, places, messages, options, given)

pub returns-then-is_broken-clause-moves : goal.returns-then-is_broken-clause-moves
returns-then-is_broken-clause-moves g c = tt

pub returns-then-is_broken-clause-quiet : goal.returns-then-is_broken-clause-quiet
returns-then-is_broken-clause-quiet g c = tt

pub returns-then-is_broken-clause-looks : goal.returns-then-is_broken-clause-looks
returns-then-is_broken-clause-looks g c = tt

pub returns-then-is_broken-clause-few : goal.returns-then-is_broken-clause-few
returns-then-is_broken-clause-few g c = tt

pub returns-then-is_broken-clause-most : goal.returns-then-is_broken-clause-most
returns-then-is_broken-clause-most g c = tt

pub returns-then-is_broken-clause-none : goal.returns-then-is_broken-clause-none
returns-then-is_broken-clause-none g c = tt

pub returns-then-is_broken-clause-whole : goal.returns-then-is_broken-clause-whole
returns-then-is_broken-clause-whole g c = tt

pub returns-then-is_broken-clause-same : goal.returns-then-is_broken-clause-same
returns-then-is_broken-clause-same g c = tt

pub returns-clause-moves : goal.returns-clause-moves
returns-clause-moves g c = rw (c.put_back_hops.ensures, c.next_enabled.ensures.image, ← c.restart.ensures.image, ← c.take_hops-hops.ensures.same) c.loop-place.invariant.leads

pub returns-clause-same : goal.returns-clause-same
returns-clause-same g c = rw (c.put_back_hops.ensures, c.next_enabled.ensures.image, ← c.restart.ensures.image, ← c.take_hops-hops.ensures.same) c.loop-place.invariant.same

pub returns-clause-quiet : goal.returns-clause-quiet
returns-clause-quiet g c = rw (c.put_back_hops.ensures, c.next_enabled.ensures.image) c.in_default.ensures.quiet

pub returns-clause-none : goal.returns-clause-none
returns-clause-none g c = rw c.put_back_hops.ensures c.in_default.ensures.none

pub returns-clause-whole : goal.returns-clause-whole
returns-clause-whole g c = rw (← c.restart.ensures.image, ← c.take_hops-hops.ensures.same) c.loop-place.invariant.whole

pub returns-clause-refused : goal.returns-clause-refused
returns-clause-refused g c = tt

pub returns-clause-still : goal.returns-clause-still
returns-clause-still g c = λ _ _. refl
