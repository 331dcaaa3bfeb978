-- Streams on which no ordinary message goes round a circle, answered again and again (streamio(7), I_PUSH;
-- Programmer's Guide: STREAMS, "Loop-Around Driver").
use Rattle.std.specs.Prelude.{◌≡◌, ◌&&◌, ◌||◌, Bool, true, false}
use Rattle.strm_msg.specs.declared.words.End.{End}
use Rattle.strm_msg.specs.declared.words.Side.TheVariants.{Rd, Wr}
use Rattle.strm_module.specs.Kinds.{Meaning}
use Rattle.strm_module.specs.declared.driver.Driver.{Driver}
use Rattle.strm_module.specs.declared.driver.Driver.TheVariants.{Echo, Loop, Line, Wire}
use Rattle.strm_module.specs.declared.shape.Shape.{Shape}
use Rattle.strm_chain_end.specs.Order.{some_answers, stands_over}
use Rattle.strm_chain_ends.specs.Image.{Image, end_of, other_end}

-- for kinds of any meaning
module _ {K : Type 0} (means : Meaning K) where
  -- whether a driver brings messages that go down an end up there again: an echo does, and a loop whose other
  -- end answers messages that come up
  abbrev pub comes_back : Driver → Image K → End → Bool
  comes_back Echo image e = true
  comes_back Loop image e = some_answers means Rd (end_of image (other_end e)).modules
  comes_back Line image e = false
  comes_back Wire image e = false

  -- whether a module just below the head would close a circle: it answers messages that come up, above
  -- something that answers those that go down
  abbrev pub goes_round : Image K → End → Shape K → Bool
  goes_round image e shape =
      means.answers shape.kind Rd && (comes_back image.driver image e || some_answers means Wr (end_of image e).modules)

  -- no module that answers messages that come up is above one that answers those that go down, over an echo,
  -- or at one end of a loop where one at the other end does too
  pub record IsOrdered (image : Image K) : Type 0 where
    pub on_a : stands_over (λ kind. means.answers kind Rd) (λ kind. means.answers kind Wr) image.a.modules ≡ false
    pub on_b : stands_over (λ kind. means.answers kind Rd) (λ kind. means.answers kind Wr) image.b.modules ≡ false
    pub echo : image.driver ≡ Echo → some_answers means Rd image.a.modules ≡ false
    pub loops : image.driver ≡ Loop → (some_answers means Rd image.a.modules && some_answers means Rd image.b.modules) ≡ false
