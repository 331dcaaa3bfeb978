-- What the reads of a stream gave.
use Rattle.std.specs.Prelude.{ℕ, List, []}
use Rattle.std.specs.List.{flat_map}
use Rattle.strm_head_calls.specs.declared.answer.Answer.{Answer}
use Rattle.strm_head_calls.specs.declared.answer.Answer.TheVariants.{Done}
use Rattle.strm_head_calls.specs.declared.answer.Reply.TheVariants.{Read}
use Rattle.strm_shared_entry.specs.Entry.{Entry}

-- the bytes that an answer has, if it is that of a read (read(2))
abbrev pub bytes_read : Answer → List ℕ
bytes_read (Done (Read dat)) = dat
bytes_read answer = []

-- all that the reads of a history gave, one after another
abbrev pub read_in : {K : Type 0} → List (Entry K) → List ℕ
read_in history = flat_map (λ entry. bytes_read entry.answer) history
