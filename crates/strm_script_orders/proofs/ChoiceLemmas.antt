-- The choices behind the last one that has a next.
use Rattle.std.proofs.Common.{◌≡◌, List, [], ◌∷◌, ◌++◌, Option, Some, None, ap}
use Rattle.std.specs.Option.{option_map, option_or}
use Rattle.strm_script_orders.specs.declared.listed.Choice.{Choice}
use Rattle.strm_script_orders.specs.Choices.{next_choice, successor}

-- the last choice has a next one
pub last_goes_on : (choices : List Choice) (last next : Choice) → Some next ≡ next_choice last → Some (choices ++ next ∷ []) ≡ successor (choices ++ last ∷ [])
last_goes_on [] last next is = ap (option_map (λ (c : Choice). c ∷ [])) is
last_goes_on (choice ∷ choices) last next is =
    ap (λ (later : Option (List Choice)). option_or (option_map (λ l. choice ∷ l) later) (option_map (λ c. c ∷ []) (next_choice choice))) (last_goes_on choices last next is)

-- it has none
pub last_is_dropped : (choices : List Choice) (last : Choice) → None ≡ next_choice last → successor choices ≡ successor (choices ++ last ∷ [])
last_is_dropped [] last is = ap (option_map (λ (c : Choice). c ∷ [])) is
last_is_dropped (choice ∷ choices) last is =
    ap (λ (later : Option (List Choice)). option_or (option_map (λ l. choice ∷ l) later) (option_map (λ c. c ∷ []) (next_choice choice))) (last_is_dropped choices last is)
