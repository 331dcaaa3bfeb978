-- Each line keeps that links can be made.
use Rattle.std.proofs.Common.{◌≡◌, ◌≤◌, ◌<◌, ℕ, zero, suc, ◌==◌, ◌&&◌, ◌||◌, not, Bool, true, false, cond, List, [], ◌∷◌, ◌++◌, length, replicate, slice_get, get_or, Option, Some, None, IfSome, Ok, Err, refl, sym, ap, subst, ◌∙◌, arith}
use Rattle.std.specs.List.{All, AllPairs}
use Rattle.std.proofs.lemmas.Bool.{eqb-true, eqb-false, eq-eqb, ne_eqb, or_parts}
use Rattle.std.proofs.lemmas.List.Elements.{All-nil, All-cons, All-head, All-tail, All-push, All-replicate}
use Rattle.std.proofs.lemmas.List.Kept.{AllPairs-cons}
use Rattle.std.proofs.lemmas.List.Quantifiers.{all_pairs_push}
use Rattle.strm_msg.specs.declared.words.End.TheVariants.{A}
use Rattle.strm_link.specs.Rule.{RuleValue}
use Rattle.strm_module.specs.declared.driver.Driver.{Driver}
use Rattle.strm_module.specs.declared.driver.Driver.TheVariants.{Echo, Loop, Line, Wire}
use Rattle.strm_module.specs.Driver.{has_end, is_wire}
use Rattle.strm_head_calls.specs.declared.setup.Setup.{Setup}
use Rattle.strm_script_words.specs.Fault.{or_fault}
use Rattle.strm_script_words.specs.declared.fault.Cause.TheVariants as causes
use Rattle.strm_script_parse.specs.Plan.{Call, Fed, Linked, Streams, Place, Nowhere, In_process, In_feed}
use Rattle.strm_script_parse.specs.Reading.{Carrying, any_carries, carried_at, carried_by, carries_from, carry_at, carrying, count_at, free_wire_at, has_feed, leads_to, link_at, link_name, link_of, linked_at, may_carry, rule_arity, rule_at, take_from, wire_at}
use Rattle.strm_script_parse.specs.Targets.{stream_at}
use Rattle.strm_script_parse.specs.Draft.{going}
use Rattle.strm_script_parse.specs.Sound.{end_is_there, wire_is_there, is_by_one, are_apart, AreCallsThere, AreLinked, IsUnfed}
use Rattle.strm_script_parse.proofs.StepLemmas.{through, passed, same, found_in}
use Rattle.strm_script_parse.proofs.ThereLemmas.{stream_found, unfed}

-- what holds of all holds of the one of a number
all_at : {X : Type 0} (P : X → Type 0) (xs : List X) (k : ℕ) (x : X) → All P xs → slice_get xs k ≡ Some x → P x
all_at P [] k x all is = absurd cc
all_at P (y ∷ xs) zero x all is = let one : y ≡ x = cc in subst P one (All-head P y xs all)
all_at P (y ∷ xs) (suc k) x all is = all_at P xs k x (All-tail P y xs all) is

-- ---- wires

abbrev IsWire : Streams → ℕ → Type 0
IsWire streams number = wire_is_there (slice_get streams number) ≡ true

wire_more : (streams : Streams) (stream : List ℕ × Setup) (number : ℕ) → IsWire streams number → IsWire (streams ++ stream ∷ []) number
wire_more [] stream number is = absurd cc
wire_more (first ∷ streams) stream zero is = is
wire_more (first ∷ streams) stream (suc number) is = wire_more streams stream number is

-- a wire has the end `a`
wire_has_a : (driver : Driver) → is_wire driver ≡ true → has_end driver A ≡ true
wire_has_a Echo is = refl
wire_has_a Loop is = refl
wire_has_a Line is = refl
wire_has_a Wire is = refl

wire_end : (found : Option (List ℕ × Setup)) → wire_is_there found ≡ true → end_is_there found A ≡ true
wire_end None is = absurd cc
wire_end (Some stream) is = wire_has_a stream.1.driver is

-- the wire of a field is there
wire_found : (streams : Streams) (text : List ℕ) (wire : ℕ) → wire_at streams text ≡ Ok wire → IsWire streams wire
wire_found streams text wire is =
    through (or_fault causes.NoSuch (stream_at streams text)) (λ found. cond (is_wire found.1) (Ok found.0) (Err causes.OutOfPlace)) wire is (λ found named is.
    passed (is_wire found.1) (Ok found.0) wire causes.OutOfPlace is (λ wires is.
    let there = stream_found streams text found (found_in (stream_at streams text) causes.NoSuch found named) in
    same (IsWire streams) found.0 wire is (ap (λ o. wire_is_there o) there.1 ∙ ap (λ driver. is_wire driver) there.2 ∙ wires)))

-- ---- nothing else comes to a wire that a link leads to

abbrev IsNotTo : ℕ → Linked → Type 0
IsNotTo number link = link.to ≡ number → ⊥

pub unled : (links : List Linked) (number : ℕ) → leads_to links number ≡ false → All (IsNotTo number) links
unled [] number is = All-nil (IsNotTo number)
unled (link ∷ links) number is =
    let both = or_parts (link.to == number) (leads_to links number) is in
    All-cons (IsNotTo number) link links (eqb-false link.to number both.0) (unled links number both.1)

abbrev IsNoFeed : ℕ → Fed → Type 0
IsNoFeed number feed = feed.stream ≡ number → ⊥

-- ---- links, and more or fewer of what is around them

module _ (streams : Streams) (feeds : List Fed) where
  pub none_linked : (processes : ℕ) → AreLinked streams feeds processes []
  none_linked processes = record {
    from = All-nil (λ (link : Linked). IsWire streams link.from);
    to = All-nil (λ (link : Linked). IsWire streams link.to);
    unfed = All-nil (λ (link : Linked). IsUnfed feeds link.to);
    apart = λ i j d before within. absurd (omega (arith, within));
    by = All-nil (λ (link : Linked). IfSome link.by (λ by. by < processes));
  }

  by_more : (few many : ℕ) (by : Option ℕ) → few ≤ many → IfSome by (λ by. by < few) → IfSome by (λ by. by < many)
  by_more few many None less is = tt
  by_more few many (Some by) less is = omega (arith, less, is)

  -- so many processes, or more
  pub linked_by : (few many : ℕ) (links : List Linked) → few ≤ many → AreLinked streams feeds few links → AreLinked streams feeds many links
  linked_by few many links less are = record {
    from = are.from;
    to = are.to;
    unfed = are.unfed;
    apart = are.apart;
    by = λ k d within. by_more few many (get_or links k d).by less (are.by k d within);
  }

  -- one stream more
  pub linked_more : (stream : List ℕ × Setup) (processes : ℕ) (links : List Linked) → AreLinked streams feeds processes links → AreLinked (streams ++ stream ∷ []) feeds processes links
  linked_more stream processes links are = record {
    from = λ k d within. wire_more streams stream (get_or links k d).from (are.from k d within);
    to = λ k d within. wire_more streams stream (get_or links k d).to (are.to k d within);
    unfed = are.unfed;
    apart = are.apart;
    by = are.by;
  }

  -- one feed more, of a stream to which none leads
  pub linked_fed : (feed : Fed) (processes : ℕ) (links : List Linked) → All (IsNotTo feed.stream) links → AreLinked streams feeds processes links → AreLinked streams (feeds ++ feed ∷ []) processes links
  linked_fed feed processes links none are = record {
    from = are.from;
    to = are.to;
    unfed = λ k d within. All-push (IsNoFeed (get_or links k d).to) feeds feed (are.unfed k d within) (λ is. none k d within (sym is));
    apart = are.apart;
    by = are.by;
  }

  -- ---- one link more

  -- what a link line says of its link
  pub record IsNew (links : List Linked) (link : Linked) : Type 0 where
    pub from : IsWire streams link.from
    pub to : IsWire streams link.to
    pub unfed : IsUnfed feeds link.to
    pub unled : All (IsNotTo link.to) links
    pub by : link.by ≡ None

  none_by_both : (by : Option ℕ) → is_by_one by None ≡ false
  none_by_both None = refl
  none_by_both (Some by) = refl

  apart_if : (a b c : Bool) → a ≡ false → b ≡ false → (not a && not (b && c)) ≡ true
  apart_if true b c one two = absurd cc
  apart_if false true c one two = absurd cc
  apart_if false false c one two = refl

  new_apart : (link new : Linked) → IsNotTo new.to link → new.by ≡ None → are_apart link new ≡ true
  new_apart link new other none =
      apart_if (link.to == new.to) (is_by_one link.by new.by) (link.from == new.from) (ne_eqb link.to new.to other) (ap (λ (by : Option ℕ). is_by_one link.by by) none ∙ none_by_both link.by)

  no_carrier : (processes : ℕ) (by : Option ℕ) → by ≡ None → IfSome by (λ by. by < processes)
  no_carrier processes None is = tt
  no_carrier processes (Some by) is = absurd cc

  pub linked_push : (processes : ℕ) (links : List Linked) (link : Linked) → IsNew links link → AreLinked streams feeds processes links → AreLinked streams feeds processes (links ++ link ∷ [])
  linked_push processes links link new are = record {
    from = All-push (λ (one : Linked). IsWire streams one.from) links link are.from new.from;
    to = All-push (λ (one : Linked). IsWire streams one.to) links link are.to new.to;
    unfed = All-push (λ (one : Linked). IsUnfed feeds one.to) links link are.unfed new.unfed;
    apart = all_pairs_push (λ (one other : Linked). are_apart one other ≡ true) links link are.apart (λ k d within. new_apart (get_or links k d) link (new.unled k d within) new.by);
    by = All-push (λ (one : Linked). IfSome one.by (λ by. by < processes)) links link are.by (no_carrier processes link.by new.by);
  }

  abbrev new_link : List ℕ → ℕ → ℕ → RuleValue → Linked
  new_link name from to rule = record { name = name; from = from; to = to; rule = rule; by = None }

  free_wire : (links : List Linked) (text : List ℕ) (wire : ℕ) → free_wire_at streams feeds links text ≡ Ok wire → IsWire streams wire × IsUnfed feeds wire × All (IsNotTo wire) links
  free_wire links text wire is =
      through (wire_at streams text) (λ found. cond (has_feed feeds found || leads_to links found) (Err causes.OutOfPlace) (Ok found)) wire is (λ found named is.
      free (has_feed feeds found || leads_to links found) found refl named is)
    where
      free : (b : Bool) (found : ℕ) → (has_feed feeds found || leads_to links found) ≡ b → wire_at streams text ≡ Ok found → cond b (Err causes.OutOfPlace) (Ok found) ≡ Ok wire → IsWire streams wire × IsUnfed feeds wire × All (IsNotTo wire) links
      free true found both named is = absurd cc
      free false found both named is =
          let none = or_parts (has_feed feeds found) (leads_to links found) both in
          same (λ w. IsWire streams w × IsUnfed feeds w × All (IsNotTo w) links) found wire is (wire_found streams text found named, unfed feeds found none.0, unled links found none.1)

  linked_new : (links : List Linked) (name from to : List ℕ) (texts : List (List ℕ)) (link : Linked) → linked_at streams feeds links name from to texts ≡ Ok link → IsNew links link
  unfolding linked_at
  linked_new links name from to texts link is =
      through (link_name links name) _ link is (λ chosen _ is.
      through (wire_at streams from) _ link is (λ taken one is.
      through (free_wire_at streams feeds links to) _ link is (λ reached other is.
      through (rule_at texts) _ link is (λ rule _ is.
      let free = free_wire links to reached other in
      same (IsNew links) (new_link chosen taken reached rule) link is (record {
        from = wire_found streams from taken one;
        to = free.0;
        unfed = free.1;
        unled = free.2;
        by = refl;
      })))))

  -- the link of a link line
  pub link_new : (links : List Linked) (texts : List (List ℕ)) (link : Linked) → link_at streams feeds links texts ≡ Ok link → IsNew links link
  unfolding link_at
  link_new links [] link is = absurd cc
  link_new links (name ∷ []) link is = absurd cc
  link_new links (name ∷ from ∷ []) link is = absurd cc
  link_new links (name ∷ from ∷ to ∷ texts) link is =
      through (rule_arity texts) _ link is (λ arity _ is.
      passed (length texts == arity) (linked_at streams feeds links name from to texts) link causes.Fields is (λ _ is.
      linked_new links name from to texts link is))

-- ---- carriers

-- a link with this carrier
abbrev with_by : ℕ → Linked → Linked
with_by process link = record link { by = Some process }

module _ (process : ℕ) where
  carried_all : (P : Linked → Type 0) → ((link : Linked) → P link → P (with_by process link)) → (links : List Linked) (number : ℕ) → All P links → All P (carried_by process links number)
  carried_all P goes [] number all = all
  carried_all P goes (link ∷ links) zero all = All-cons P (with_by process link) links (goes link (All-head P link links all)) (All-tail P link links all)
  carried_all P goes (link ∷ links) (suc number) all = All-cons P link (carried_by process links number) (All-head P link links all) (carried_all P goes links number (All-tail P link links all))

  -- where what is asked of the one link that changes holds
  carried_one : (P : Linked → Type 0) (links : List Linked) (number : ℕ) (link : Linked) → slice_get links number ≡ Some link → P (with_by process link) → All P links → All P (carried_by process links number)
  carried_one P [] number link is one all = all
  carried_one P (x ∷ links) zero link is one all =
      let first : x ≡ link = cc in
      All-cons P (with_by process x) links (subst (λ (l : Linked). P (with_by process l)) (sym first) one) (All-tail P x links all)
  carried_one P (x ∷ links) (suc number) link is one all =
      All-cons P x (carried_by process links number) (All-head P x links all) (carried_one P links number link is one (All-tail P x links all))

  -- a link that has this carrier already stays as it is
  carried_same : (links : List Linked) (number : ℕ) (link : Linked) → slice_get links number ≡ Some link → link.by ≡ Some process → carried_by process links number ≡ links
  carried_same [] number link is by = refl
  carried_same (x ∷ links) zero link is by =
      let first : x ≡ link = cc in
      let its : x.by ≡ Some process = ap (λ (l : Linked). l.by) first ∙ by in
      ap (λ (by : Option ℕ). record x { by = by } ∷ links) (sym its)
  carried_same (x ∷ links) (suc number) link is by = ap (λ (l : List Linked). x ∷ l) (carried_same links number link is by)

eq_swap : (a b : ℕ) → (a == b) ≡ (b == a)
eq_swap a b = swapped (a == b) refl
  where
    swapped : (c : Bool) → (a == b) ≡ c → c ≡ (b == a)
    swapped true is = sym (eq-eqb b a (sym (eqb-true a b is)))
    swapped false is = sym (ne_eqb b a (λ same. eqb-false a b is (sym same)))

by_swap : (one other : Option ℕ) → is_by_one one other ≡ is_by_one other one
by_swap None None = refl
by_swap None (Some b) = refl
by_swap (Some a) None = refl
by_swap (Some a) (Some b) = eq_swap a b

apart_still : (to was now : Bool) → (not to && not was) ≡ true → now ≡ false → (not to && not now) ≡ true
apart_still true was now is free = absurd cc
apart_still false was true is free = absurd cc
apart_still false was false is free = refl

module _ (process : ℕ) where
  -- a process that carries on no other link from the wire of this one
  apart_before : (link other : Linked) → are_apart link other ≡ true → carries_from process link.from other ≡ false → are_apart (with_by process link) other ≡ true
  apart_before link other is free = apart_still (link.to == other.to) _ _ is free

  apart_behind : (link other : Linked) → are_apart other link ≡ true → carries_from process link.from other ≡ false → are_apart other (with_by process link) ≡ true
  apart_behind link other is free =
      let swapped : (is_by_one other.by (Some process) && (other.from == link.from)) ≡ carries_from process link.from other =
      ap (λ (b : Bool). b && (other.from == link.from)) (by_swap other.by (Some process)) ∙ ap (λ (b : Bool). is_by_one (Some process) other.by && b) (eq_swap other.from link.from) in
      apart_still (other.to == link.to) _ _ is (swapped ∙ free)

  abbrev Free : ℕ → Linked → Type 0
  Free wire link = carries_from process wire link ≡ false

  free_all : (wire : ℕ) (links : List Linked) → any_carries links process wire ≡ false → All (Free wire) links
  free_all wire [] is = All-nil (Free wire)
  free_all wire (link ∷ links) is =
      let both = or_parts (carries_from process wire link) (any_carries links process wire) is in
      All-cons (Free wire) link links both.0 (free_all wire links both.1)

  abbrev Apart : Linked → Linked → Type 0
  Apart one other = are_apart one other ≡ true

  carried_apart : (links : List Linked) (number : ℕ) (link : Linked) → slice_get links number ≡ Some link → All (Free link.from) links → AllPairs Apart links → AllPairs Apart (carried_by process links number)
  carried_apart [] number link is free all = all
  carried_apart (x ∷ links) zero link is free all =
      let first : x ≡ link = cc in
      let rest : All (Free x.from) links = subst (λ (l : Linked). All (Free l.from) links) (sym first) (All-tail (Free link.from) x links free) in
      AllPairs-cons Apart (with_by process x) links (λ k d within. apart_before x (get_or links k d) (all 0 (suc k) d (omega arith) (omega arith)) (rest k d within)) (λ i j d before within. all (suc i) (suc j) d (omega arith) (omega arith))
  carried_apart (x ∷ links) (suc number) link is free all =
      let heads : All (Apart x) links = λ k d within. all 0 (suc k) d (omega arith) (omega arith) in
      AllPairs-cons Apart x (carried_by process links number) (carried_one process (Apart x) links number link is (apart_behind link x (all_at (Apart x) links number link heads is) (All-head (Free link.from) x links free)) heads) (carried_apart links number link is (All-tail (Free link.from) x links free) (λ i j d before within. all (suc i) (suc j) d (omega arith) (omega arith)))

  pub linked_carried : (streams : Streams) (feeds : List Fed) (processes : ℕ) (links : List Linked) (number : ℕ) (link : Linked) → slice_get links number ≡ Some link → may_carry links process link.from link.by ≡ true → process < processes → AreLinked streams feeds processes links → AreLinked streams feeds processes (carried_by process links number)
  linked_carried streams feeds processes links number link is may below are = by_cases link.by refl may
    where
      by_cases : (by : Option ℕ) → link.by ≡ by → may_carry links process link.from by ≡ true → AreLinked streams feeds processes (carried_by process links number)
      by_cases (Some by) its may =
          let this : link.by ≡ Some process = its ∙ ap (λ (n : ℕ). Some n) (eqb-true by process may) in
          subst (λ (l : List Linked). AreLinked streams feeds processes l) (sym (carried_same process links number link is this)) are
      by_cases None its may =
          let free : All (Free link.from) links = free_all link.from links (no_more (any_carries links process link.from) may) in
          record {
            from = carried_all process (λ (one : Linked). IsWire streams one.from) (λ link is. is) links number are.from;
            to = carried_all process (λ (one : Linked). IsWire streams one.to) (λ link is. is) links number are.to;
            unfed = carried_all process (λ (one : Linked). IsUnfed feeds one.to) (λ link is. is) links number are.unfed;
            apart = carried_apart links number link is free are.apart;
            by = carried_all process (λ (one : Linked). IfSome one.by (λ by. by < processes)) (λ link is. below) links number are.by;
          }
        where
          no_more : (b : Bool) → not b ≡ true → b ≡ false
          no_more true is = absurd cc
          no_more false is = refl

-- ---- a carry line

-- what a carry line says of its link
pub record IsCarry (links : List Linked) (process : ℕ) (carries : Carrying) : Type 0 where
  pub link : Linked
  pub there : slice_get links carries.link ≡ Some link
  pub from : carries.from ≡ link.from
  pub may : may_carry links process link.from link.by ≡ true

abbrev these : ℕ → ℕ → ℕ → Carrying
these number from many = record { link = number; from = from; many = many }

carrying_may : (links : List Linked) (process calls number : ℕ) (link : Linked) (many : ℕ) (carries : Carrying) → slice_get links number ≡ Some link → carrying links process calls number link many ≡ Ok carries → IsCarry links process carries
carrying_may links process calls number link many carries there is =
    passed (may_carry links process link.from link.by) _ carries causes.OutOfPlace is (λ may is.
    passed _ (Ok (these number link.from many)) carries causes.TooMany is (λ _ is.
    same (IsCarry links process) (these number link.from many) carries is (record { link = link; there = there; from = refl; may = may })))

pub carry_may : (links : List Linked) (process calls : ℕ) (texts : List (List ℕ)) (carries : Carrying) → carry_at links process calls texts ≡ Ok carries → IsCarry links process carries
unfolding carry_at
carry_may links process calls [] carries is = absurd cc
carry_may links process calls (name ∷ texts) carries is =
    passed _ (carried_at links process calls name texts) carries causes.Fields is (λ _ is.
    through (or_fault causes.NoSuch (link_of links name)) _ carries is (λ number _ is.
    through (count_at texts) _ carries is (λ many _ is.
    through (or_fault causes.NoSuch (slice_get links number)) _ carries is (λ link there is.
    carrying_may links process calls number link many carries (found_in (slice_get links number) causes.NoSuch link there) is))))

-- the calls that carries stand for are there
pub takes_there : {K : Type 0} (streams : Streams) (feeds : List Fed) (processes : ℕ) (links : List Linked) (process : ℕ) (carries : Carrying) → AreLinked streams feeds processes links → IsCarry links process carries → AreCallsThere {K = K} streams (replicate carries.many (take_from carries.from))
takes_there {K} streams feeds processes links process carries are carry =
    let wire : IsWire streams carry.link.from = all_at (λ (one : Linked). IsWire streams one.from) links carries.link carry.link are.from carry.there in
    let taken : IsWire streams carries.from = subst (λ (n : ℕ). IsWire streams n) (sym carry.from) wire in
    All-replicate (λ (call : Call K). end_is_there (slice_get streams call.stream) call.end ≡ true) carries.many (take_from carries.from) (wire_end (slice_get streams carries.from) taken)

-- ---- what goes on

pub going_small : {K : Type 0} (place : Place K) → going place ≤ 1
going_small Nowhere = omega arith
going_small (In_process process) = omega arith
going_small (In_feed feed) = omega arith
