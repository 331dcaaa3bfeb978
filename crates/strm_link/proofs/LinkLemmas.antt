-- What links do with many messages.
use Rattle.std.proofs.Common.{◌≡◌, inl, inr, ◌∙◌, false, Option, Some, None, List, [], ◌∷◌, ◌++◌, refl, ap, All, append_assoc}
use Rattle.std.specs.List.{Contains}
use Rattle.std.specs.List.Sorted.{IsPermutation}
use Rattle.std.specs.Option.{option_to_list}
use Rattle.std.proofs.lemmas.List.{append-nil}
use Rattle.std.proofs.lemmas.List.Elements.{All-nil, All-cons, All-head, All-tail, All-append, All-contains_itself}
use Rattle.std.proofs.lemmas.List.Sorted.{IsPermutation-refl, IsPermutation-trans, IsPermutation-cons, IsPermutation-append_comm, IsPermutation-append_left}
use Rattle.strm_msg.specs.Message.{Msg}
use Rattle.strm_link.specs.declared.act.Act.{Act}
use Rattle.strm_link.specs.declared.act.Act.TheVariants.{Keep, Lose, Double, Hold}
use Rattle.strm_link.specs.Rule.{RuleValue, act_of, after_act, can_come, is_act}
use Rattle.strm_link.specs.Link.{LinkValue, fresh, leaves, held_after, out_of, after_of}
use Rattle.strm_link.specs.Subsequence.{IsSubsequence}
use Rattle.strm_link.specs.Laws.{LinkKeeps, LinkOnlyLoses, LinkOnlyHolds, LinkMakesNone}
use Rattle.strm_link.proofs.RuleLemmas.{never, stays}

-- a link that holds this message
abbrev holding : RuleValue → Option Msg → LinkValue
holding rule held = record { rule = rule; held = held }

-- what is passed on, and behind it what is held at the end
abbrev all_of : LinkValue → List Msg → List Msg
all_of link taken = out_of link taken ++ option_to_list (after_of link taken).held

-- ---- nothing but Keep

keeps_one : (act : Act) → is_act Lose act ≡ false → is_act Double act ≡ false → is_act Hold act ≡ false → (m : Msg) (later : RuleValue) (rest : List Msg) →
    (out_of (fresh later) rest ≡ rest) × ((after_of (fresh later) rest).held ≡ None) →
    (leaves act m None ++ out_of (holding later (held_after act m None)) rest ≡ m ∷ rest) × ((after_of (holding later (held_after act m None)) rest).held ≡ None)
keeps_one Keep l d h m later rest others = (ap (λ (q : List Msg). m ∷ q) others.0, others.1)
keeps_one Lose l d h m later rest others = cc
keeps_one Double l d h m later rest others = cc
keeps_one Hold l d h m later rest others = cc

pub keeps : LinkKeeps
keeps rule [] l d h = (refl, refl)
keeps rule (m ∷ rest) l d h =
    keeps_one (act_of rule) (never Lose rule refl l) (never Double rule refl d) (never Hold rule refl h) m (after_act rule) rest
    (keeps (after_act rule) rest (stays Lose rule ∙ l) (stays Double rule ∙ d) (stays Hold rule ∙ h))

-- ---- Keep and Lose

loses_one : (act : Act) → is_act Double act ≡ false → is_act Hold act ≡ false → (m : Msg) (later : RuleValue) (rest : List Msg) →
    IsSubsequence (out_of (fresh later) rest) rest × ((after_of (fresh later) rest).held ≡ None) →
    IsSubsequence (leaves act m None ++ out_of (holding later (held_after act m None)) rest) (m ∷ rest) × ((after_of (holding later (held_after act m None)) rest).held ≡ None)
loses_one Keep d h m later rest others = (inr (out_of (fresh later) rest, refl, others.0), others.1)
loses_one Lose d h m later rest others = (inl others.0, others.1)
loses_one Double d h m later rest others = cc
loses_one Hold d h m later rest others = cc

pub only_loses : LinkOnlyLoses
only_loses rule [] d h = (refl, refl)
only_loses rule (m ∷ rest) d h =
    loses_one (act_of rule) (never Double rule refl d) (never Hold rule refl h) m (after_act rule) rest
    (only_loses (after_act rule) rest (stays Double rule ∙ d) (stays Hold rule ∙ h))

-- ---- Keep and Hold

exchanged : (x y : Msg) (rest others : List Msg) → IsPermutation rest others → IsPermutation (x ∷ y ∷ rest) (y ∷ x ∷ others)
exchanged x y rest others same =
    IsPermutation-trans (x ∷ y ∷ rest) (y ∷ x ∷ rest) (y ∷ x ∷ others)
    (IsPermutation-append_left rest (x ∷ y ∷ []) (y ∷ x ∷ []) (IsPermutation-append_comm (x ∷ []) (y ∷ [])))
    (IsPermutation-cons y (x ∷ rest) (x ∷ others) (IsPermutation-cons x rest others same))

-- what was held and what is taken is what is passed on and what is held then
abbrev HoldsOnly : LinkValue → List Msg → Type 0
HoldsOnly link taken = IsPermutation (option_to_list link.held ++ taken) (all_of link taken)

holds_one : (act : Act) → is_act Lose act ≡ false → is_act Double act ≡ false → (held : Option Msg) (m : Msg) (later : RuleValue) (rest : List Msg) →
    ((then : Option Msg) → HoldsOnly (holding later then) rest) →
    IsPermutation (option_to_list held ++ m ∷ rest) (leaves act m held ++ all_of (holding later (held_after act m held)) rest)
holds_one Keep l d None m later rest others = IsPermutation-cons m rest (all_of (fresh later) rest) (others None)
holds_one Keep l d (Some x) m later rest others = exchanged x m rest (all_of (fresh later) rest) (others None)
holds_one Lose l d held m later rest others = cc
holds_one Double l d held m later rest others = cc
holds_one Hold l d None m later rest others = others (Some m)
holds_one Hold l d (Some x) m later rest others = IsPermutation-cons x (m ∷ rest) (all_of (holding later (Some m)) rest) (others (Some m))

holds_only : (rule : RuleValue) (taken : List Msg) → can_come Lose rule ≡ false → can_come Double rule ≡ false → (held : Option Msg) →
    HoldsOnly (holding rule held) taken
holds_only rule [] l d held = rw append-nil (IsPermutation-refl (option_to_list held))
holds_only rule (m ∷ rest) l d held =
    rw append_assoc (holds_one (act_of rule) (never Lose rule refl l) (never Double rule refl d) held m (after_act rule) rest
    (holds_only (after_act rule) rest (stays Lose rule ∙ l) (stays Double rule ∙ d)))

pub only_holds : LinkOnlyHolds
only_holds rule taken l d = holds_only rule taken l d None

-- ---- any rule

module _ (P : Msg → Type 0) where
  leaves_all : (act : Act) (m : Msg) (held : Option Msg) → P m → All P (option_to_list held) → All P (leaves act m held)
  leaves_all Keep m held one all = All-cons P m (option_to_list held) one all
  leaves_all Lose m held one all = All-nil P
  leaves_all Double m held one all = All-cons P m (m ∷ option_to_list held) one (All-cons P m (option_to_list held) one all)
  leaves_all Hold m held one all = all

  holds_all : (act : Act) (m : Msg) (held : Option Msg) → P m → All P (option_to_list held) → All P (option_to_list (held_after act m held))
  holds_all Keep m held one all = All-nil P
  holds_all Lose m held one all = all
  holds_all Double m held one all = All-nil P
  holds_all Hold m held one all = All-cons P m [] one (All-nil P)

  -- what is true of each message that is held and that is taken is true of each that is passed on, and of the one that is held then
  pub passes_on : (rule : RuleValue) (held : Option Msg) (taken : List Msg) → All P (option_to_list held) → All P taken → All P (all_of (holding rule held) taken)
  passes_on rule held [] all each = all
  passes_on rule held (m ∷ rest) all each =
      let one = All-head P m rest each in
      let then = held_after (act_of rule) m held in
      rw append_assoc (All-append P (leaves (act_of rule) m held) (all_of (holding (after_act rule) then) rest) (leaves_all (act_of rule) m held one all)
      (passes_on (after_act rule) then rest (holds_all (act_of rule) m held one all) (All-tail P m rest each)))

pub makes_none : LinkMakesNone
makes_none rule taken = passes_on (Contains taken) rule None taken (All-nil (Contains taken)) (All-contains_itself taken)
