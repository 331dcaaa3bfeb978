-- What a head sends down comes back to a head with FLUSHW cleared, so that it sends nothing.
use Rattle.std.proofs.Common.{◌≡◌, ◌∙◌, ◌-◌, ℕ, Bool, true, false, cond, Option, Some, None, refl, sym, ap, fold, suc, zero}
use Rattle.strm_msg.specs.Message.{Msg, bare}
use Rattle.strm_msg.specs.declared.kind.MsgKind.TheVariants.{MFlush}
use Rattle.strm_msg.specs.declared.words.End.{End}
use Rattle.strm_msg.specs.declared.words.Side.{Side}
use Rattle.strm_msg.specs.declared.words.Side.TheVariants.{Rd, Wr}
use Rattle.strm_module.specs.Module.{is_queued}
use Rattle.strm_module.proofs.ProcedureLemmas.{put_if}
use Rattle.strm_chain_end.specs.Pair.{QueuePair, flushed_pair, after_put}
use Rattle.strm_module.specs.Builtin.{builtin}
use Rattle.strm_module.specs.declared.kind.Kind.{Kind}
use Rattle.strm_module.specs.declared.driver.Driver.{Driver}
use Rattle.strm_module.specs.declared.driver.Driver.TheVariants.{Echo, Loop, Line, Wire}
use Rattle.strm_module.specs.Driver.{has_end}
use Rattle.strm_chain_end.specs.End.{EndState, EndStep, pair_at, set_pair, found_gets}
use Rattle.strm_chain_end.specs.Head.{put_at_head, open_head, keeps}
use Rattle.strm_chain_end.specs.Driver.{driver_at, consumes, flush_up}
use Rattle.strm_chain_end.specs.declared.driver.DriverSends.TheVariants.{Nothing}
use Rattle.strm_chain_ends.specs.Image.{Image, end_of, with_end, count_of, put_at_driver, driven}
use Rattle.strm_chain.specs.Deliver.{Sender, SenderPast, ModuleStep, module_step, head_gets, send_on, up_through, down_through, driver_sends, route}
use Rattle.strm_chain.specs.HeadFlush.{HeadSendsOnce}

abbrev flush : Bool → Bool → Option ℕ → Msg
flush r w band = bare (MFlush r w band)

-- a flush without FLUSHW makes a head send nothing
head_silent : (e : EndState Kind) (r : Bool) (band : Option ℕ) (is_open : Bool) → (cond is_open (open_head e (MFlush r false band) (flush r false band)) (keeps e)).sends ≡ None
head_silent e r band true = refl
head_silent e r band false = refl

none_sent : (send : Sender Kind) (e : End) (image : Image Kind) (o : Option Msg) → o ≡ None → send_on send e image o ≡ image
none_sent send e image o h = rw h refl

-- what an end does where a module gets a message, by whether the module queues it
abbrev got : EndState Kind → ℕ → QueuePair Kind → Side → Msg → Bool → EndStep Kind
got state i s side m queued =
    let put = put_if builtin s.shape side m queued in
    let g = after_put (record (flushed_pair s m.kind) { shape = put.shape }) side put.answer in
    record { state = record state { modules = set_pair state.modules i g.pair }; outs = g.outs }

-- up through n modules, which pass it on, or keep it for the program
abbrev risen : Sender Kind → End → ℕ → ModuleStep Kind → Image Kind
risen send e n p = fold (λ j out. up_through builtin (head_gets send) e n j out.1) p.image p.outs

up_same : (send other : Sender Kind) (e : End) (n : ℕ) (image : Image Kind) (r : Bool) (band : Option ℕ) → up_through builtin (head_gets send) e n image (flush r false band) ≡ up_through builtin (head_gets other) e n image (flush r false band)
unfolding up_through
up_same send other e zero image r band =
    let state = end_of image e in
    let silent = head_silent state r band state.is_open in
    let there = with_end image e (put_at_head state (flush r false band)).state in
    none_sent send e there (put_at_head state (flush r false band)).sends silent ∙ sym (none_sent other e there (put_at_head state (flush r false band)).sends silent)
up_same send other e (suc n) image r band =
    let state = end_of image e in
    elim (pair_at state.modules (suc n))
    as (λ o. risen send e n (module_step image e (found_gets builtin state (suc n) o Rd (flush r false band))) ≡ risen other e n (module_step image e (found_gets builtin state (suc n) o Rd (flush r false band)))) [
      | None ↦ refl
      | Some s ↦
          elim (is_queued s.shape Rd (flush r false band))
          as (λ b. risen send e n (module_step image e (got state (suc n) s Rd (flush r false band) b)) ≡ risen other e n (module_step image e (got state (suc n) s Rd (flush r false band) b))) [
            | true ↦ refl
            | false ↦ up_same send other e n (module_step image e (got state (suc n) s Rd (flush r false band) false)).image r band
          ]
    ]

-- a driver sends it back up, or ends it
driver_flush : (d : Driver) (e : EndState Kind) (r w : Bool) (band : Option ℕ) (has : Bool) → (cond has (driver_at d e (flush r w band)) (consumes e)).sends ≡ cond has (flush_up r band) Nothing
driver_flush d e r w band false = refl
driver_flush Echo e r w band true = refl
driver_flush Loop e r w band true = refl
driver_flush Line e r w band true = refl
driver_flush Wire e r w band true = refl

abbrev ups : Sender Kind → SenderPast Kind
ups send e n image m = up_through builtin (head_gets send) e n image m

back_same : (send other : Sender Kind) (old : Image Kind) (e : End) (image : Image Kind) (r : Bool) (band : Option ℕ) (has : Bool) → driver_sends (ups send) old e image (cond has (flush_up r band) Nothing) ≡ driver_sends (ups other) old e image (cond has (flush_up r band) Nothing)
back_same send other old e image r band false = refl
back_same send other old e image false band true = refl
back_same send other old e image true band true = up_same send other e (count_of old e) image true band

-- down through n modules, which pass it on, or keep it for the program
abbrev sunk : Sender Kind → End → ℕ → ℕ → ModuleStep Kind → Image Kind
sunk send e n i p = fold (λ j out. route (λ k o. down_through builtin (ups send) e n k o) (λ k o. ups send e (i - 1) k o) j out) p.image p.outs

down_same : (send other : Sender Kind) (e : End) (n : ℕ) (image : Image Kind) (r w : Bool) (band : Option ℕ) → down_through builtin (ups send) e n image (flush r w band) ≡ down_through builtin (ups other) e n image (flush r w band)
unfolding down_through
down_same send other e zero image r w band =
    let state = end_of image e in
    let step = put_at_driver image.driver e state (flush r w band) in
    let there = driven image e (flush r w band) in
    let sends : step.sends ≡ cond (has_end image.driver e) (flush_up r band) Nothing = driver_flush image.driver state r w band (has_end image.driver e) in
    ap (driver_sends (ups send) image e there) sends ∙ back_same send other image e there r band (has_end image.driver e) ∙ sym (ap (driver_sends (ups other) image e there) sends)
down_same send other e (suc n) image r w band =
    let state = end_of image e in
    let i = count_of image e - n in
    elim (pair_at state.modules i)
    as (λ o. sunk send e n i (module_step image e (found_gets builtin state i o Wr (flush r w band))) ≡ sunk other e n i (module_step image e (found_gets builtin state i o Wr (flush r w band)))) [
      | None ↦ refl
      | Some s ↦
          elim (is_queued s.shape Wr (flush r w band))
          as (λ b. sunk send e n i (module_step image e (got state i s Wr (flush r w band) b)) ≡ sunk other e n i (module_step image e (got state i s Wr (flush r w band) b))) [
            | true ↦ refl
            | false ↦ down_same send other e n (module_step image e (got state i s Wr (flush r w band) false)).image r w band
          ]
    ]

pub head_sends_once : HeadSendsOnce
head_sends_once send other e image r w band = down_same send other e (count_of image e) image r w band
