use Rattle.std.proofs.Common.{◌≡◌, ℕ, List, [], ◌++◌, take, Option, None, Some, IfSome, option_map}
use Rattle.strm_script_parse.specs.declared.loading.TheConstants.{MOST_READ}
use Rattle.strm_script_parse.proofs.loading.load.Goals as goal

-- what is read of the first bytes is these bytes, where the reader tells what it has
first_bytes : (known : Option (List ℕ)) (n : ℕ) (bytes : List ℕ) → IfSome (option_map (take n) known) (λ xs. bytes ≡ [] ++ xs) → IfSome known (λ all. bytes ≡ take n all)
first_bytes None n bytes is = is
first_bytes (Some all) n bytes is = is

pub returns : goal.returns
returns g c = first_bytes _ MOST_READ _ (rw (c.take.ensures.limit, c.take.ensures.inner, c.new-script.ensures.items) at c.in_ok-read_to_end.ensures.bytes)
