-- The replies that a script expects of a call: `: REPLY` behind the fields of the call, with `|` between
-- choices.
use Rattle.std.specs.Prelude.{ℕ, ◌+◌, ◌&&◌, Bool, true, false, Option, Some, None, List, [], ◌∷◌, ◌++◌, position, take, drop, codes, if◌then◌else◌}
use Rattle.std.specs.List.{position_or_len}
use Rattle.std.specs.Option.{option_map}
use Rattle.std.specs.Str.{bytes_eq}
use Rattle.strm_script_parse.specs.Plan.{Expect}

-- the field `:`, behind which the expected replies stand
abbrev pub is_colon : List ℕ → Bool
is_colon text = bytes_eq text (codes ":")

-- the field `|`, which stands between two choices
abbrev pub is_bar : List ℕ → Bool
is_bar text = bytes_eq text (codes "|")

-- the fields of a call: NAME:END, whatever that field is, and those behind it up to the first `:`
abbrev pub call_fields : List (List ℕ) → List (List ℕ)
call_fields texts = take (position_or_len is_colon (drop 1 texts) + 1) texts

-- the fields behind that `:`, if there is one
abbrev pub reply_fields : List (List ℕ) → Option (List (List ℕ))
reply_fields texts = option_map (λ at. drop (at + 1) (drop 1 texts)) (position is_colon (drop 1 texts))

-- whether each choice has a field; `has` is whether the first one has some already
abbrev pub each_has : Bool → List (List ℕ) → Bool
each_has has [] = has
each_has has (text ∷ texts) = if is_bar text then has && each_has false texts else each_has true texts

-- whether no replies are expected, or each choice has a field
abbrev pub are_choices : Option (List (List ℕ)) → Bool
are_choices None = true
are_choices (Some texts) = each_has false texts

-- the choices, each with a blank in front of each of its fields; the first one begins with `text`
abbrev pub choices_from : List ℕ → List (List ℕ) → List (List ℕ)
choices_from text [] = text ∷ []
choices_from text (field ∷ fields) = if is_bar field then text ∷ choices_from [] fields else choices_from (text ++ 32 ∷ field) fields

-- the replies that a line expects of a call, if it does
abbrev pub expected_of : ℕ → ℕ → Option (List (List ℕ)) → List Expect
expected_of line call None = []
expected_of line call (Some fields) = record { call = call; line = line; choices = choices_from [] fields } ∷ []
