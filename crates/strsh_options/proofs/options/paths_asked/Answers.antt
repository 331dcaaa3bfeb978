use Rattle.std.proofs.Common.{◌∙◌, ap, sym, map, option_map}
use Rattle.clap.specs.Words.{found_of}
use Rattle.strsh_options.proofs.RowLemmas.{copied, none_found}
use Rattle.strsh_options.proofs.options.paths_asked.Goals as goal

pub returns-in-Some : goal.returns-in-Some
returns-in-Some c =
    copied (λ v. v.items) c.from_slice.result c.in-Some.paths.now (found_of c.args.matches.now) c.from_slice.ensures.items
    (sym c.get_strs.ensures ∙ ap (option_map (λ s. map (λ v. v.now) s.now)) c.in-Some.is)

pub returns-in-None : goal.returns-in-None
returns-in-None c =
    ap (map (λ x. x.now)) c.new.ensures.items ∙ none_found (found_of c.args.matches.now) (sym c.get_strs.ensures ∙ ap (option_map (λ s. map (λ v. v.now) s.now)) c.in-None.is)
