use Rattle.std.proofs.Common.{◌≡◌, drop}
use Rattle.std.specs.List.{find}
use Rattle.std.specs.Str.{bytes_eq}
use Rattle.strm_script_words.specs.Words.{named}
use Rattle.strm_script_words.proofs.keyword.first_named.Given as goal

-- none so far has the word
abbrev pub invariant-loop-one : goal.invariant-loop-one
invariant-loop-one g l = find (λ one. bytes_eq (g.W.Keyword.word one) l.text) (drop l.one-index l.all) ≡ named g.W.Keyword.word l.all l.text
