-- A line discipline that echoes what comes up: over a line it settles, and over an echo it need not.
use Rattle.std.proofs.Common.{◌⊎◌, inl, inr, ◌≡◌, ◌+◌, ◌-◌, ◌<◌, ◌≤◌, ℕ, Bool, true, false, cond, Option, Some, List, [], ◌∷◌, refl, arith, suc, zero}
use Rattle.strm_chain_ends.proofs.CalmLemmas.{le_same}
use Rattle.strm_msg.specs.Kind.{is_high}
use Rattle.strm_msg.specs.Message.{Msg, data_msg}
use Rattle.strm_msg.specs.declared.words.End.TheVariants.{A}
use Rattle.strm_msg.specs.declared.words.Side.{Side}
use Rattle.strm_msg.specs.declared.words.Side.TheVariants.{Rd, Wr}
use Rattle.strm_msg.specs.Marks.{WaterMarks}
use Rattle.strm_module.specs.declared.turn.Turn.{Turn}
use Rattle.strm_module.specs.declared.turn.Turn.TheVariants.{Serves, Sends}
use Rattle.strm_module.specs.Kinds.{Action, Meaning, AnswersStay, kept, passed_on}
use Rattle.strm_module.specs.declared.driver.Driver.{Driver}
use Rattle.strm_module.specs.declared.driver.Driver.TheVariants.{Echo, Line}
use Rattle.strm_chain_end.specs.End.{EndState}
use Rattle.strm_chain_end.specs.Pair.{QueuePair}
use Rattle.strm_chain_end.specs.Change.{fresh_record}
use Rattle.strm_chain_ends.specs.declared.place.Place.{Place}
use Rattle.strm_chain_ends.specs.declared.place.Place.TheVariants as Places
use Rattle.strm_chain_ends.specs.Flow.{may}
use Rattle.strm_chain_ends.specs.Image.{Image}
use Rattle.strm_chain.specs.Deliver.{up_through, down_through}
use Rattle.strm_chain.specs.Service.{move}
use Rattle.strm_chain_settling.specs.Ends.{Ends}
use Rattle.strm_chain_settling.specs.Ends.Ends.{rule}
use Rattle.strm_chain_settling.specs.Orderly.{are_high, other_side, IsOrderly}
use Rattle.strm_chain_settling.proofs.SettlingLemmas.{settling_ends}

-- the kind keeps how many echoes it owes; an ordinary message that comes up is taken, and makes it owe one
abbrev typed : ℕ → Side → Msg → Action ℕ
typed n Rd m = cond (is_high m.kind) (passed_on n Rd m) (kept (n + 1))
typed n Wr m = passed_on n Wr m

abbrev turns : ℕ → Side → Turn
turns n Rd = Serves
turns zero Wr = Serves
turns (suc n) Wr = Sends (Some 0)

abbrev echo : Msg
echo = data_msg 0 []

abbrev echoes : ℕ → Side → Action ℕ
echoes n Rd = kept n
echoes n Wr = record { kind = n - 1; outs = (Wr, echo) ∷ [] }

-- it answers what comes up
abbrev answers : Side → Bool
answers Rd = true
answers Wr = false

abbrev discipline : Meaning ℕ
discipline = record { acts = typed; turn = turns; own = echoes; answers = λ n side. answers side; expire = λ n ticks. n }

abbrev owed : ℕ → Side → ℕ
owed n Rd = 0
owed n Wr = n

tame : (n : ℕ) (side : Side) (m : Msg) → is_high m.kind ≡ true → are_high (typed n side m).outs ≡ true
tame n Rd m high = rw high (rw high refl)
tame n Wr m high = rw high refl

tame_owed : (n : ℕ) (side owing : Side) (m : Msg) → is_high m.kind ≡ true → owed (typed n side m).kind owing ≤ owed n owing
tame_owed n Rd owing m high = rw high (le_same (owed n owing))
tame_owed n Wr owing m high = le_same (owed n owing)

owes_less : (n : ℕ) (side : Side) (band : Option ℕ) → turns n side ≡ Sends band → owed (echoes n side).kind side < owed n side
owes_less n Rd band is = cc
owes_less zero Wr band is = cc
owes_less (suc n) Wr band is = omega arith

owes_alone : (n : ℕ) (side : Side) (band : Option ℕ) → turns n side ≡ Sends band → owed (echoes n side).kind (other_side side) ≤ owed n (other_side side)
owes_alone n Rd band is = cc
owes_alone n Wr band is = le_same 0

unanswered : (n : ℕ) (side : Side) (m : Msg) → answers side ≡ false → owed (typed n side m).kind (other_side side) ≤ owed n (other_side side)
unanswered n Rd m is = cc
unanswered n Wr m is = le_same 0

stays : AnswersStay discipline
stays = record { acts = λ n side other m. refl; own = λ n side other. refl; expire = λ n ticks other. refl }

orderly : IsOrderly discipline owed
orderly =
    record {
      tame = tame;
      tame_debt = tame_owed;
      unanswered = unanswered;
      unanswered_ups = λ n m is. refl;
      unanswered_own = λ n band turn is. refl;
      owns = owes_less;
      owns_alone = owes_alone;
      stays = stays;
    }

-- it stands alone on end A, with queues on both sides: what it owes, and what waits in its read queue and in
-- the driver's list
abbrev five : WaterMarks
five = record { hi = 5; lo = 4 }

abbrev module_with : ℕ → List Msg → QueuePair ℕ
module_with n rd =
    record { shape = record { serial = 1; name = record { items = 101 ∷ [] }; rd = Some five; wr = Some five; noenable = false; kind = n }; rd = rd; wr = [] }

abbrev end_with : List (QueuePair ℕ) → List Msg → EndState ℕ
end_with modules drv =
    record { is_open = true; head_marks = five; head = []; state = fresh_record; modules = modules; drv_marks = five; drv = drv }

abbrev over : Driver → ℕ → List Msg → List Msg → Image ℕ
over d n rd drv =
    record { driver = d; broken = false; a = end_with (module_with n rd ∷ []) drv; b = end_with [] [] }

-- over a line each run of moves ends, whatever waits and is owed
line_settles : (n : ℕ) (rd drv : List Msg) → Ends discipline (over Line n rd drv)
line_settles n rd drv =
    settling_ends discipline owed orderly (over Line n rd drv) (record { on_a = refl; on_b = refl; echo = λ is. cc; loops = λ is. cc })

-- over an echo an echo that is owed is sent, comes back, and is owed again
first_move : move discipline (over Echo 1 [] []) (Places.Wr A 1) ≡ over Echo 0 [] (echo ∷ [])
unfolding down_through up_through
first_move = refl

second_move : move discipline (over Echo 0 [] (echo ∷ [])) (Places.Drv A) ≡ over Echo 0 (echo ∷ []) []
unfolding down_through up_through
second_move = refl

third_move : move discipline (over Echo 0 (echo ∷ []) []) (Places.Rd A 1) ≡ over Echo 1 [] []
unfolding down_through up_through
third_move = refl

abbrev IsRound : Image ℕ → Type 0
IsRound x = (x ≡ over Echo 1 [] []) ⊎ ((x ≡ over Echo 0 [] (echo ∷ [])) ⊎ (x ≡ over Echo 0 (echo ∷ []) []))

goes_on : (x : Image ℕ) → IsRound x → (place : Place) × (may discipline x place ≡ true) × IsRound (move discipline x place)
goes_on x (inl h) = rw h (Places.Wr A 1, refl, inr (inl first_move))
goes_on x (inr (inl h)) = rw h (Places.Drv A, refl, inr (inr second_move))
goes_on x (inr (inr h)) = rw h (Places.Rd A 1, refl, inl third_move)

echo_goes_round : (x : Image ℕ) → IsRound x → Ends discipline x → ⊥
echo_goes_round x round (rule _ all) =
    let next = goes_on x round in
    echo_goes_round (move discipline x next.0) next.2 (all next.0 next.1)

-- so the order of a stream is asked for with reason
echo_never_settles : Ends discipline (over Echo 1 [] []) → ⊥
echo_never_settles ends = echo_goes_round (over Echo 1 [] []) (inl refl) ends
