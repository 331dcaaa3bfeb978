use Rattle.std.proofs.Common.{◌≡◌, length, refl, ◌∙◌}
use Rattle.std.proofs.lemmas.List.{length-map}
use Rattle.std.proofs.lemmas.Option.{slice_get_read}
use Rattle.strm_script_expect.specs.Unmet.{seen, seen_all}
use Rattle.strm_script_expect.proofs.EntryLemmas.{entry_is}
use Rattle.strm_script_expect.proofs.owned.entry_at.Goals as goal

pub returns : goal.returns
returns g c =
    let streams = c.args.streams.now in
    let numbers = c.args.numbers.now in
    let stream = c.in_ok-stream.field-0.now in
    let number = c.in_ok-number.field-0.now in
    let looked = c.in_ok-stream.ensures.lookup.3 in
    let counted = c.in_ok-number.ensures.lookup.3 in
    let its = slice_get_read streams (length streams) c.args.call stream refl looked.0 (looked.1 stream) in
    let is = slice_get_read numbers (length numbers) c.args.call number refl counted.0 (counted.1 number) in
    let as_many : length (seen_all c.args.owned.now) ≡ length c.args.owned.now = length-map c.args.owned.now (λ list. seen list.items) in
    c.entry_in.ensures ∙ entry_is (seen_all c.args.owned.now) streams numbers c.args.call stream number (length c.args.owned.now) as_many c.requires its is
