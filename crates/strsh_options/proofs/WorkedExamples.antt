-- Command lines and their numbers, computed.
use Rattle.std.proofs.Common.{◌≡◌, pos, false, true, Some, None, [], ◌∷◌, codes, refl}
use Rattle.clap.specs.Words.{fault_of, matches_of}
use Rattle.clap.specs.declared.builder.value_parser.ValueParser.TheVariants as parsers
use Rattle.clap.proofs.OnLiterals.{clap_on_literals}
use Rattle.strsh_options.specs.CommandLine.{command_line, has_conflict, workers_rule}
use Rattle.strsh_options.specs.Options.{by_seed, by_steps, order_of, orders_of, paths_of, workers_of}
use Rattle.strsh_options.specs.declared.options.Orders.TheVariants.{All, First}

one_to_sixty_four_workers : workers_rule.parser ≡ Some (parsers.Signed (pos 1) (pos 64))
one_to_sixty_four_workers = refl

four_workers_where_none_are_asked_for : workers_of (matches_of command_line (codes "strsh" ∷ codes "a" ∷ [])) ≡ 4
unfolding clap_on_literals
four_workers_where_none_are_asked_for = refl

a_default_excludes_no_order : has_conflict (matches_of command_line (codes "strsh" ∷ codes "--order" ∷ codes "7" ∷ codes "a" ∷ [])) ≡ false
unfolding clap_on_literals
a_default_excludes_no_order = refl

workers_exclude_an_order : has_conflict (matches_of command_line (codes "strsh" ∷ codes "--order" ∷ codes "7" ∷ codes "--workers=4" ∷ codes "a" ∷ [])) ≡ true
unfolding clap_on_literals
workers_exclude_an_order = refl

files_in_their_order : paths_of (matches_of command_line (codes "strsh" ∷ codes "b" ∷ codes "--quiet" ∷ codes "a" ∷ codes "-" ∷ [])) ≡ codes "b" ∷ codes "a" ∷ codes "-" ∷ []
unfolding clap_on_literals
files_in_their_order = refl

several_files_are_taken : fault_of command_line (codes "strsh" ∷ codes "b" ∷ codes "--quiet" ∷ codes "a" ∷ []) ≡ []
unfolding clap_on_literals
several_files_are_taken = refl

all_orders : orders_of (codes "all") ≡ Some All
all_orders = refl

a_million_orders : orders_of (codes "1000000") ≡ Some (First 1000000)
a_million_orders = refl

no_orders : orders_of (codes "0") ≡ None
no_orders = refl

too_many_orders : orders_of (codes "1000001") ≡ None
too_many_orders = refl

orders_without_a_sign : orders_of (codes "+1") ≡ None
orders_without_a_sign = refl

the_greatest_seed : order_of (codes "18446744073709551615") ≡ Some (by_seed 18446744073709551615)
the_greatest_seed = refl

a_greater_number_is_no_order : order_of (codes "18446744073709551616") ≡ None
a_greater_number_is_no_order = refl

no_bytes_are_no_order : order_of [] ≡ None
no_bytes_are_no_order = refl

steps_by_their_names : order_of (codes "p,1,feed:n") ≡ Some (by_steps (codes "p,1,feed:n"))
steps_by_their_names = refl
