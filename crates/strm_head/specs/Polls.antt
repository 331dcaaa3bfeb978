-- A poll of an end agrees with the refusals that calls there would have (Programmer's Guide: STREAMS, "Input
-- and Output Polling").
use Rattle.std.specs.Prelude.{ℕ, ◌≡◌, ◌||◌, true, false, Option, Some, None, is_some, is_none, List}
use Rattle.strm_msg.specs.declared.words.End.{End}
use Rattle.strm_module.specs.Kinds.{Meaning}
use Rattle.strm_chain_ends.specs.Image.{Image}
use Rattle.strm_head_calls.specs.declared.answer.Polled.{Polled}
use Rattle.strm_head_calls.specs.Polled.{is_pri}
use Rattle.strm_head_calls.specs.declared.request.Request.TheVariants.{Getmsg, Write}
use Rattle.strm_head_calls.specs.declared.request.Wanted.TheVariants as Wanted
use Rattle.strm_head_msg.specs.Send.{is_too_long}
use Rattle.strm_head_ioctl.specs.Poll.{polled}
use Rattle.strm_head.specs.Effects.{refusal_of}

-- the poll reports a first message or a hangup where a getmsg would not have to wait, a high first message
-- where a getmsg of those alone would not, and room where no write would
pub record AgreesWithCalls {K : Type 0} (means : Meaning K) (image : Image K) (e : End) (told : Polled) : Type 0 where
  pub reads : (maxctl maxdat : Option ℕ) → (is_some told.first || told.hup) ≡ is_none (refusal_of means image e (Getmsg maxctl maxdat Wanted.Any))
  pub pri : (maxctl maxdat : Option ℕ) → is_some told.first ≡ true → is_pri told.first ≡ is_none (refusal_of means image e (Getmsg maxctl maxdat Wanted.Hipri))
  pub writes : (dat : List ℕ) → is_too_long None (Some dat) ≡ false → told.out ≡ is_none (refusal_of means image e (Write dat))

-- a poll agrees with calls wherever it reports neither a closed end nor an error
abbrev pub PollTells : {K : Type 0} → Meaning K → Type 0
PollTells {K = K} means =
    (image : Image K) (e : End) → (polled image e).nval ≡ false → (polled image e).err ≡ false → AgreesWithCalls means image e (polled image e)
