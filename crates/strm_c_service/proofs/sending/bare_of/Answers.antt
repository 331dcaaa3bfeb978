use Rattle.std.proofs.Common.{◌≡◌, ℕ, List, Option, Some, None, option_map, option_copied, Bor, refl, ap₂, ◌∙◌}
use Rattle.strm_msg.specs.Message.{Part}
use Rattle.strm_c_numbers.specs.Whole.{emptied, whole_message}
use Rattle.strm_c_service.proofs.sending.bare_of.Goals as goal

same_part : (part : Option (Bor (List ℕ))) → option_map (λ bytes. bytes.now) part ≡ option_copied part
same_part None = refl
same_part (Some bytes) = refl

pub returns : goal.returns
returns c =
    c.emptied_message.ensures ∙ ap₂ (λ (ctl dat : Part). option_map (λ m. emptied m) (whole_message c.args.whole.now ctl dat)) (same_part c.slice_if.result ∙ c.slice_if.ensures) (same_part c.slice_if-2.result ∙ c.slice_if-2.ensures)
