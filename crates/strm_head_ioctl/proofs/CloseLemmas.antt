-- A close that broke, against the image that it would have left.
use Rattle.std.proofs.Common.{◌≡◌, Bool, true, false, refl, sym, ◌∙◌, subst}
use Rattle.strm_msg.specs.Message.{bare}
use Rattle.strm_msg.specs.declared.kind.MsgKind.TheVariants.{MHangup}
use Rattle.strm_msg.specs.declared.words.End.{End}
use Rattle.strm_msg.specs.declared.words.End.TheVariants.{A, B}
use Rattle.strm_module.specs.Kinds.{Meaning}
use Rattle.strm_module.specs.Driver.{partner}
use Rattle.strm_chain_ends.specs.Image.{Image, end_of, count_of}
use Rattle.strm_chain.specs.declared.spot.Spot.TheVariants.{Up}
use Rattle.strm_chain_ends.specs.Same.{SameModules}
use Rattle.strm_chain.specs.Fault.{Breaks}
use Rattle.strm_chain.proofs.QuietLemmas.{same_end}
use Rattle.strm_chain.proofs.SameLemmas.{deliver_keeps}
use Rattle.strm_chain.proofs.BreakLemmas.{breaks_after}
use Rattle.strm_head_ioctl.specs.Close.{closed_image, hangs_up, hung_up, hung_up_if, after_close}

-- a chain that is broken off has what it had
breaks_off : {K : Type 0} (image : Image K) → image.broken ≡ false → Breaks image (record image { broken = true })
breaks_off image whole =
    record { is_broken = refl; driver = refl; on_a = same_end image.a; on_b = same_end image.b; again = λ broken. let no : true ≡ false = sym broken ∙ whole in cc }

-- to close an end breaks no chain and mends none
pub closed_broken : {K : Type 0} (image : Image K) (e : End) → (closed_image image e).broken ≡ image.broken
closed_broken image A = refl
closed_broken image B = refl

pub whole_before : {K : Type 0} (image mid : Image K) (e : End) → mid ≡ closed_image image e → mid.broken ≡ false → image.broken ≡ false
whole_before {K} image mid e is whole =
    sym (closed_broken image e) ∙ subst (λ (i : Image K). i.broken ≡ false) is whole

closed_driver : {K : Type 0} (image : Image K) (e : End) → (closed_image image e).driver ≡ image.driver
closed_driver image A = refl
closed_driver image B = refl

-- whether another end is hung up, as the image before the close tells it
pub hangs_up_before : {K : Type 0} (image mid : Image K) (e : End) → mid ≡ closed_image image e → hangs_up image e ≡ false → (end_of mid (partner mid.driver e)).is_open ≡ false
hangs_up_before {K} image mid e is none =
    subst (λ (i : Image K). (end_of i (partner i.driver e)).is_open ≡ false) (sym is)
    (subst (λ d. (end_of (closed_image image e) (partner d e)).is_open ≡ false) (sym (closed_driver image e)) none)

-- for kinds of any meaning
module _ {K : Type 0} (means : Meaning K) where
  hangup_keeps : (opened : Bool) (image : Image K) (e : End) → SameModules image (hung_up_if means opened image e)
  hangup_keeps false image e =
      record { driver = refl; broken = refl; on_a = same_end image.a; on_b = same_end image.b }
  hangup_keeps true image e = deliver_keeps means image (Up e (count_of image e)) (bare MHangup)

  -- a hangup keeps what no message changes
  pub hung_up_keeps : (image : Image K) (e : End) → SameModules image (hung_up means image e)
  hung_up_keeps image e = hangup_keeps (end_of image e).is_open image e

  -- a chain that was broken off in place of a hangup
  pub broken_close : (image after : Image K) (e : End) → image.broken ≡ false → after ≡ record image { broken = true } → Breaks (after_close means image.broken image e) after
  broken_close image after e whole is =
      subst (λ b. Breaks (after_close means b image e) after) (sym whole)
      (rw is (breaks_after image (hung_up means image (partner image.driver e)) (record image { broken = true }) whole (hung_up_keeps image (partner image.driver e)) (breaks_off image whole)))

  -- what follows a close, of the image before it
  pub closed_as_of : (image mid after : Image K) (e : End) → mid ≡ closed_image image e → after ≡ after_close means mid.broken mid e → after ≡ after_close means image.broken (closed_image image e) e
  closed_as_of image mid after e is same =
      subst (λ b. after ≡ after_close means b (closed_image image e) e) (closed_broken image e)
      (subst (λ (i : Image K). after ≡ after_close means i.broken i e) is same)

  pub broken_as_of : (image mid after : Image K) (e : End) → mid ≡ closed_image image e → Breaks (after_close means mid.broken mid e) after → Breaks (after_close means image.broken (closed_image image e) e) after
  broken_as_of image mid after e is breaks =
      subst (λ b. Breaks (after_close means b (closed_image image e) e) after) (closed_broken image e)
      (subst (λ (i : Image K). Breaks (after_close means i.broken i e) after) is breaks)
