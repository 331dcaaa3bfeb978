-- What a broken delivery leaves, against the image that the message would have left.
use Rattle.std.proofs.Common.{◌≡◌, false, true, Result, Ok, Err, sym, ◌∙◌}
use Rattle.std.specs.Prelude.{IfErr}
use Rattle.strm_msg.specs.Message.{Msg}
use Rattle.strm_module.specs.Kinds.{Meaning}
use Rattle.strm_chain_end.specs.End.{EndState}
use Rattle.strm_chain_end.specs.Modules.{SameEnd, SameIds}
use Rattle.strm_chain_end.specs.declared.record.Record.{Record}
use Rattle.strm_chain.specs.declared.spot.Spot.{Spot}
use Rattle.strm_chain.specs.declared.fault.ChainFault.{ChainFault}
use Rattle.strm_chain.specs.declared.fault.ChainFault.TheVariants.{NoMem, Broken}
use Rattle.strm_chain_ends.specs.Image.{Image}
use Rattle.strm_chain.specs.Deliver.{deliver}
use Rattle.strm_chain_ends.specs.Same.{SameModules}
use Rattle.strm_chain.specs.Fault.{Breaks, Fails, Refuses}
use Rattle.strm_chain.proofs.QuietLemmas.{end_trans}
use Rattle.strm_chain.proofs.SameLemmas.{deliver_keeps}

ids_back : (old new : Record) → SameIds old new → SameIds new old
ids_back old new s =
    record {
      next = sym s.next;
      pending = sym s.pending;
      kept = λ none. sym (s.kept (sym s.pending ∙ none));
      asked = sym s.asked;
      answer = λ none. sym (s.answer (sym s.asked ∙ none));
    }

end_back : {K : Type 0} (old new : EndState K) → SameEnd old new → SameEnd new old
end_back old new s =
    record {
      is_open = sym s.is_open;
      drv_marks = sym s.drv_marks;
      modules = sym s.modules;
      ids = ids_back old.state new.state s.ids;
    }

-- a stream that breaks keeps the ends and modules of an image that has those of the stream before
pub breaks_after : {K : Type 0} (old mid new : Image K) → old.broken ≡ false → SameModules old mid → Breaks old new → Breaks mid new
breaks_after old mid new whole same breaks =
    record {
      is_broken = breaks.is_broken;
      driver = breaks.driver ∙ sym same.driver;
      on_a = end_trans mid.a old.a new.a (end_back old.a mid.a same.on_a) breaks.on_a;
      on_b = end_trans mid.b old.b new.b (end_back old.b mid.b same.on_b) breaks.on_b;
      again = λ broken. let no : true ≡ false = sym broken ∙ same.broken ∙ whole in cc;
    }

-- for kinds of any meaning
module _ {K : Type 0} (means : Meaning K) where
  delivery_fails : (fault : ChainFault) (image new : Image K) (spot : Spot) (m : Msg) → image.broken ≡ false → Refuses fault image new → Fails fault image (deliver means image spot m) new
  delivery_fails NoMem image new spot m whole refuses = refuses.image
  delivery_fails Broken image new spot m whole refuses =
      breaks_after image (deliver means image spot m) new whole (deliver_keeps means image spot m) refuses

  -- the same of what a call has from its delivery
  pub delivered_or_fails : (r : Result (Unit {0}) ChainFault) (image new : Image K) (spot : Spot) (m : Msg) → image.broken ≡ false → IfErr r (λ fault. Refuses fault image new) → IfErr r (λ fault. Fails fault image (deliver means image spot m) new)
  delivered_or_fails (Ok done) image new spot m whole refuses = refuses
  delivered_or_fails (Err fault) image new spot m whole refuses =
      delivery_fails fault image new spot m whole refuses
