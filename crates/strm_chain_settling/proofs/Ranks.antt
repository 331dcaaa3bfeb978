-- Ranks of what may still move: messages that wait, and what a side may still send of its own.
use Rattle.std.proofs.Common.{◌≡◌, ◌-◌, ◌<◌, ℕ, Bool, true, false, Option, Some, None, List, length, slice_get, suc, zero}
use Rattle.strm_msg.specs.declared.words.End.{End}
use Rattle.strm_msg.specs.declared.words.End.TheVariants.{A, B}
use Rattle.strm_msg.specs.declared.words.Side.{Side}
use Rattle.strm_msg.specs.declared.words.Side.TheVariants.{Rd, Wr}
use Rattle.strm_module.specs.declared.driver.Driver.{Driver}
use Rattle.strm_module.specs.declared.driver.Driver.TheVariants.{Echo, Loop, Line, Wire}
use Rattle.strm_module.specs.Driver.{is_serviced, partner}
use Rattle.strm_module.specs.Kinds.{Meaning}

-- whether a module answers what comes up, and whether it turns what goes down, by something that it sends up
pub record Role : Type 0 where
  pub answers : Bool
  pub turns : Bool

-- modules are counted from 1, which is the topmost
abbrev pub role_at : List Role → ℕ → Option Role
role_at roles zero = None
role_at roles (suc i) = slice_get roles i

-- whether what comes down an end waits in a list that is serviced
abbrev pub waits_below : Driver → End → Bool
waits_below Echo A = true
waits_below Echo B = false
waits_below Loop e = true
waits_below Line e = false
waits_below Wire e = false

-- what the kinds of a vocabulary mean, the driver of a stream and the modules of each end; and the ranks of a
-- message in the queue of a side of module i, of what that side may still send of its own, and of a message
-- in the driver's list for an end. On the way up module 0 is the head
pub record Ranking (K : Type 0) : Type 0 where
  pub means : Meaning K
  pub debt : K → Side → ℕ
  pub driver : Driver
  pub roles : End → List Role
  pub waits : Side → End → ℕ → ℕ
  pub owes : Side → End → ℕ → ℕ
  pub drives : End → ℕ

module _ {K : Type 0} (w : Ranking K) where
  abbrev pub modules_of : End → ℕ
  modules_of e = length (w.roles e)

  -- what goes down past n modules gets to a place of a lesser rank than r, or to none
  abbrev pub Sinks : ℕ → End → ℕ → Type 0
  Sinks r e zero = waits_below w.driver e ≡ true → w.drives e < r
  Sinks r e (suc n) = w.waits Wr e (modules_of e - n) < r

  -- the ranks fall along each way that a message or a debt can take
  pub record IsRanked : Type 0 where
    pub owed : (side : Side) (e : End) (i : ℕ) → w.owes side e i < w.waits side e i
    pub up : (e : End) (i : ℕ) → w.waits Rd e i < w.owes Rd e (suc i)
    pub down : (e : End) (n : ℕ) → n < modules_of e → Sinks (w.owes Wr e (modules_of e - n)) e n
    pub answered : (e : End) (i : ℕ) (role : Role) → role_at (w.roles e) i ≡ Some role → role.answers ≡ true → w.owes Wr e i < w.waits Rd e i
    pub turned : (e : End) (i : ℕ) (role : Role) → role_at (w.roles e) i ≡ Some role → role.turns ≡ true → w.waits Rd e (i - 1) < w.owes Wr e i
    pub turned_owed : (e : End) (i : ℕ) (role : Role) → role_at (w.roles e) i ≡ Some role → role.turns ≡ true → w.owes Rd e i < w.waits Wr e i
    pub driven : (e : End) → is_serviced w.driver e ≡ true → w.waits Rd (partner w.driver e) (modules_of (partner w.driver e)) < w.drives e
