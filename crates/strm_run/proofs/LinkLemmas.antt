-- Links of a run, found by the stream that they lead to, or by the caller that carries on them.
use Rattle.std.proofs.Common.{◌≡◌, ℕ, suc, ◌<◌, ◌==◌, ◌&&◌, ◌||◌, not, Bool, true, false, Option, Some, None, List, [], ◌∷◌, ◌++◌, All, length, get_or, set, if◌then◌else◌, refl, sym, ◌∙◌, ap, subst, arith}
use Rattle.std.specs.Prelude.{is_some, nat_lt, AllPairs, slice_get}
use Rattle.std.proofs.Math.Seq.{get_or-append_seam}
use Rattle.std.proofs.lemmas.Bool.{and_parts, eqb-true, eqb-false, eq-eqb}
use Rattle.std.proofs.lemmas.List.{length-append, length-set, get_or-set_same, get_or-set_other, get_or_append_left}
use Rattle.strm_module.specs.declared.driver.Driver.{Driver}
use Rattle.strm_module.specs.declared.driver.Driver.TheVariants.{Echo, Loop, Line, Wire}
use Rattle.strm_module.specs.Driver.{is_line, is_wire}
use Rattle.strm_head_calls.specs.declared.setup.Setup.{Setup}
use Rattle.strm_shared_ring.specs.Feed.{fresh_feeder, FeederValue}
use Rattle.strm_run_input.specs.declared.run_link.RunLink.{RunLink}
use Rattle.strm_run_input.specs.declared.script.Feed.{Feed}
use Rattle.strm_run_input.specs.Scripts.{link_from, link_to}
use Rattle.strm_run_input.specs.Resolve.{are_apart, line_is_there, wire_is_there, LinksResolve}
use Rattle.strm_run_callers.specs.RunName.{RunValue}
use Rattle.strm_run_callers.specs.Carrying.{CanJoin}
use Rattle.strm_run.specs.Inside.Opening.{feeder_left, AreFeeders, AreLeft}
use Rattle.strm_run.specs.Inside.Ending.{AreLinesLinked, AreLinksThere}
use Rattle.strm_run.proofs.ThereLemmas.{line_at, line_within}

-- ---- a link that was found

to_case : (b : Bool) (P : RunLink → Type 0) (link found : RunLink) (rest : List RunLink) (k : ℕ) → (link.to == k) ≡ b → (if b then Some link else link_to rest k) ≡ Some found → P link → (link_to rest k ≡ Some found → P found × (found.to ≡ k)) → P found × (found.to ≡ k)
to_case true P link found rest k same is here later =
    let one : link ≡ found = cc in
    (subst P one here, ap (λ (l : RunLink). l.to) (sym one) ∙ eqb-true link.to k same)
to_case false P link found rest k same is here later = later is

-- it is one of the links, and leads there
pub link_to_is : (P : RunLink → Type 0) (links : List RunLink) (k : ℕ) (found : RunLink) → All P links → link_to links k ≡ Some found → P found × (found.to ≡ k)
link_to_is P [] k found all is = absurd cc
link_to_is P (link ∷ rest) k found all is =
    to_case (link.to == k) P link found rest k refl is (all 0 link (omega arith)) (link_to_is P rest k found (λ i d below. all (suc i) d (omega arith)))

from_case : (b : Bool) (link found : RunLink) (rest : List RunLink) (caller k : ℕ) → (link.by == caller && link.from == k) ≡ b → (if b then Some link else link_from rest caller k) ≡ Some found → (link_from rest caller k ≡ Some found → (found.by ≡ caller) × (found.from ≡ k)) → (found.by ≡ caller) × (found.from ≡ k)
from_case true link found rest caller k same is later =
    let one : link ≡ found = cc in
    let both = and_parts (link.by == caller) (link.from == k) same in
    (ap (λ (l : RunLink). l.by) (sym one) ∙ eqb-true link.by caller both.0, ap (λ (l : RunLink). l.from) (sym one) ∙ eqb-true link.from k both.1)
from_case false link found rest caller k same is later = later is

-- its caller carries on it from there
pub link_from_is : (links : List RunLink) (caller k : ℕ) (found : RunLink) → link_from links caller k ≡ Some found → (found.by ≡ caller) × (found.from ≡ k)
link_from_is [] caller k found is = absurd cc
link_from_is (link ∷ rest) caller k found is =
    from_case (link.by == caller && link.from == k) link found rest caller k refl is (link_from_is rest caller k found)

-- ---- a link that a loop has reached

-- what holds of each pair holds of each element in front of another
pub pairs_before : {X : Type 0} (R : X → X → Type 0) (xs before after : List X) (x : X) → before ++ x ∷ after ≡ xs → AllPairs R xs → All (λ one. R one x) before
pairs_before {X} R xs before after x is all k d below =
    let pairs = subst (λ l. AllPairs R l) (sym is) all in
    subst (λ y. R (get_or before k d) y) (get_or-append_seam before x after d)
    (subst (λ y. R y (get_or (before ++ x ∷ after) (length before) d)) (get_or_append_left before (x ∷ after) d k below) (pairs k (length before) d below (omega (arith, length-append before (x ∷ after)))))

differs : (b : Bool) → not b ≡ true → b ≡ false
differs true is = absurd cc
differs false is = refl

not_both : (a b : Bool) → (not a || not b) ≡ true → (a && b) ≡ false
not_both true true is = absurd cc
not_both true false is = refl
not_both false b is = refl

both : (a b : Bool) → a ≡ true → b ≡ true → (a && b) ≡ true
both true true one other = refl
both true false one other = absurd cc
both false b one other = absurd cc

to_seam : (before after : List RunLink) (link : RunLink) → All (λ one. are_apart one link ≡ true) before → link_to (before ++ link ∷ after) link.to ≡ Some link
to_seam [] after link apart = ap (λ (b : Bool). if b then Some link else link_to after link.to) (eq-eqb link.to link.to refl)
to_seam (first ∷ before) after link apart =
    let other = differs (first.to == link.to) (and_parts (not (first.to == link.to)) (not (first.by == link.by) || not (first.from == link.from)) (apart 0 first (omega arith))).0 in
    ap (λ (b : Bool). if b then Some first else link_to (before ++ link ∷ after) link.to) other
    ∙ to_seam before after link (λ k d below. apart (suc k) d (omega arith))

from_seam : (before after : List RunLink) (link : RunLink) → All (λ one. are_apart one link ≡ true) before → link_from (before ++ link ∷ after) link.by link.from ≡ Some link
from_seam [] after link apart =
    ap (λ (b : Bool). if b then Some link else link_from after link.by link.from) (both (link.by == link.by) (link.from == link.from) (eq-eqb link.by link.by refl) (eq-eqb link.from link.from refl))
from_seam (first ∷ before) after link apart =
    let other = not_both (first.by == link.by) (first.from == link.from) (and_parts (not (first.to == link.to)) (not (first.by == link.by) || not (first.from == link.from)) (apart 0 first (omega arith))).1 in
    ap (λ (b : Bool). if b then Some first else link_from (before ++ link ∷ after) link.by link.from) other
    ∙ from_seam before after link (λ k d below. apart (suc k) d (omega arith))

-- ---- the feeders that are left

pub all_left : {K : Type 0} (run : RunValue K) (feeders : List (Option FeederValue)) → AreFeeders run feeders → AreLeft run [] feeders
all_left run feeders are = record { many = are.many; each = are.each }

if_some : (b : Bool) (link : RunLink) (rest : Option RunLink) → is_some (if b then Some link else rest) ≡ (b || is_some rest)
if_some true link rest = refl
if_some false link rest = refl

or_true : (a b : Bool) → b ≡ true → (a || b) ≡ true
or_true true b is = refl
or_true false b is = is

or_false : (a b : Bool) → b ≡ false → (a || b) ≡ a
or_false true b is = refl
or_false false b is = is

or_assoc : (a b c : Bool) → (a || (b || c)) ≡ ((a || b) || c)
or_assoc true b c = refl
or_assoc false b c = refl

-- with one link more
linked_more : (links : List RunLink) (link : RunLink) (k : ℕ) → is_some (link_to (links ++ link ∷ []) k) ≡ (is_some (link_to links k) || (link.to == k))
linked_more [] link k = if_some (link.to == k) link None ∙ or_false (link.to == k) false refl
linked_more (first ∷ links) link k =
    if_some (first.to == k) first (link_to (links ++ link ∷ []) k)
    ∙ ap (λ (b : Bool). (first.to == k) || b) (linked_more links link k)
    ∙ or_assoc (first.to == k) (is_some (link_to links k)) (link.to == k)
    ∙ sym (ap (λ (b : Bool). b || (link.to == k)) (if_some (first.to == k) first (link_to links k)))

module _ {K : Type 0} (run : RunValue K) (links : List RunLink) (feeders : List (Option FeederValue)) (link : RunLink) (are : AreLeft run links feeders) (there : link.to < length run.setups) where
  inside : link.to < length feeders
  inside = subst (λ n. link.to < n) (sym are.many) there

  left_case : (k : ℕ) (d : Option FeederValue) (s : Setup) (b : Bool) → (link.to == k) ≡ b → k < length run.setups → get_or (set feeders link.to None) k d ≡ feeder_left (links ++ link ∷ []) k (get_or run.setups k s)
  left_case k d s true same below =
      let here : link.to ≡ k = eqb-true link.to k same in
      subst (λ n. get_or (set feeders link.to None) n d ≡ None) here (get_or-set_same feeders link.to None d inside)
      ∙ sym (ap (λ (b : Bool). if b then None else fresh_feeder k (get_or run.setups k s)) (linked_more links link k ∙ or_true (is_some (link_to links k)) (link.to == k) same))
  left_case k d s false other below =
      get_or-set_other feeders link.to k None d (λ same. eqb-false link.to k other (sym same))
      ∙ are.each k d s below
      ∙ sym (ap (λ (b : Bool). if b then None else fresh_feeder k (get_or run.setups k s)) (linked_more links link k ∙ or_false (is_some (link_to links k)) (link.to == k) other))

  pub left_more : AreLeft run (links ++ link ∷ []) (set feeders link.to None)
  left_more = record {
    many = length-set feeders link.to None ∙ are.many;
    each = λ k d s below. left_case k d s (link.to == k) refl below;
  }

some_left : (b : Bool) (feeder : Option FeederValue) (found : FeederValue) → (if b then None else feeder) ≡ Some found → feeder ≡ Some found
some_left true feeder found is = absurd cc
some_left false feeder found is = is

fresh_some : (b : Bool) (new found : FeederValue) → (if b then Some new else None) ≡ Some found → found ≡ new
fresh_some true new found is = cc
fresh_some false new found is = absurd cc

-- a link can be joined with the feeder that is left of its stream
pub can_join : {K : Type 0} (run : RunValue K) (links before after : List RunLink) (link : RunLink) (feeders : List (Option FeederValue)) (found : FeederValue) (s : Setup) → run.links ≡ links → before ++ link ∷ after ≡ links → AllPairs (λ one other. are_apart one other ≡ true) links → AreLeft run before feeders → link.to < length run.setups → get_or feeders link.to None ≡ Some found → CanJoin run link found.feed
can_join run links before after link feeders found s are is pairs left there taken =
    let apart = pairs_before (λ (one other : RunLink). are_apart one other ≡ true) links before after link is pairs in
    let all : before ++ link ∷ after ≡ run.links = is ∙ sym are in
    let setup = get_or run.setups link.to s in
    let fresh = some_left (is_some (link_to before link.to)) (fresh_feeder link.to setup) found (sym (left.each link.to None s there) ∙ taken) in
    let new = fresh_some (is_line setup.driver) _ found fresh in
    record {
      from = subst (λ l. link_from l link.by link.from ≡ Some link) all (from_seam before after link apart);
      leads = subst (λ (f : FeederValue). link_to run.links f.feed.number ≡ Some link) (sym new) (subst (λ l. link_to l link.to ≡ Some link) all (to_seam before after link apart));
      none = ap (λ (f : FeederValue). f.feed.accepted) new;
    }

-- ---- wires

line_of_wire : (driver : Driver) → is_wire driver ≡ true → is_line driver ≡ true
line_of_wire Echo is = absurd cc
line_of_wire Loop is = absurd cc
line_of_wire Line is = absurd cc
line_of_wire Wire is = refl

line_there : (setup : Option Setup) → wire_is_there setup ≡ true → line_is_there setup ≡ true
line_there None is = absurd cc
line_there (Some setup) is = line_of_wire setup.driver is

-- each link leads to a stream that is there, and is a line
pub leads_there : (setups : List Setup) (callers : ℕ) (feeds : List Feed) (links : List RunLink) → LinksResolve setups callers feeds links → All (λ link. line_is_there (slice_get setups link.to) ≡ true) links
leads_there setups callers feeds links there k d below =
    let link = get_or links k d in
    let from = wire_is_there (slice_get setups link.from) in
    let to = wire_is_there (slice_get setups link.to) in
    line_there (slice_get setups link.to) (and_parts from to (and_parts (from && to) (nat_lt link.by callers) (there.there k d below)).0).1

pub leads_within : (setups : List Setup) (callers : ℕ) (feeds : List Feed) (links : List RunLink) → LinksResolve setups callers feeds links → All (λ link. link.to < length setups) links
leads_within setups callers feeds links there k d below = line_within setups (get_or links k d).to (leads_there setups callers feeds links there k d below)

pub lines_linked : {K : Type 0} (run : RunValue K) (callers : ℕ) → LinksResolve run.setups callers run.feeds run.links → AreLinesLinked run
lines_linked run callers there k s link within is =
    let found = link_to_is (λ l. line_is_there (slice_get run.setups l.to) ≡ true) run.links k link (leads_there run.setups callers run.feeds run.links there) is in
    sym (line_at run.setups k s within) ∙ subst (λ n. line_is_there (slice_get run.setups n) ≡ true) found.1 found.0

pub links_there : {K : Type 0} (run : RunValue K) (callers : ℕ) → LinksResolve run.setups callers run.feeds run.links → AreLinksThere run
links_there run callers there k link is =
    let found = link_to_is (λ l. l.to < length run.setups) run.links k link (leads_within run.setups callers run.feeds run.links there) is in
    subst (λ n. n < length run.setups) found.1 found.0
