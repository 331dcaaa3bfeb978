-- What follows where all that scripts and feeds name is there.
use Rattle.std.proofs.Common.{◌≡◌, ℕ, zero, suc, ◌<◌, ◌==◌, Bool, true, false, Option, List, [], ◌∷◌, length, get_or, Vec, Global, All, if◌then◌else◌, refl, sym, ◌∙◌, ap, subst, arith}
use Rattle.std.specs.Prelude.{slice_get}
use Rattle.std.proofs.lemmas.Bool.{eqb-true}
use Rattle.std.proofs.lemmas.Option.{slice_get-get_or}
use Rattle.strm_msg.specs.Message.{Msg}
use Rattle.strm_msg.specs.Kind.{is_from_line}
use Rattle.strm_msg.specs.declared.words.End.{End}
use Rattle.strm_module.specs.Driver.{is_line}
use Rattle.strm_head_calls.specs.declared.setup.Setup.{Setup}
use Rattle.strm_run_input.specs.declared.script.ScriptCall.{ScriptCall}
use Rattle.strm_run_input.specs.declared.script.Feed.{Feed}
use Rattle.strm_run_input.specs.declared.run_link.RunLink.{RunLink}
use Rattle.strm_run_input.specs.Scripts.{feed_of}
use Rattle.strm_run_input.specs.Resolve.{end_is_there, line_is_there, NamesResolve}
use Rattle.strm_run_callers.specs.RunName.{RunValue}
use Rattle.strm_run.specs.Inside.Opening.{AreFeeds}
use Rattle.strm_run.specs.Inside.Ending.{AreLinesFed}

-- a stream that has an end is there
end_within : (setups : List Setup) (number : ℕ) (at_end : End) → end_is_there (slice_get setups number) at_end ≡ true → number < length setups
end_within [] zero at_end is = absurd cc
end_within [] (suc number) at_end is = absurd cc
end_within (setup ∷ setups) zero at_end is = omega arith
end_within (setup ∷ setups) (suc number) at_end is = omega (arith, end_within setups number at_end is)

-- so is one that is a line
pub line_within : (setups : List Setup) (number : ℕ) → line_is_there (slice_get setups number) ≡ true → number < length setups
line_within [] zero is = absurd cc
line_within [] (suc number) is = absurd cc
line_within (setup ∷ setups) zero is = omega arith
line_within (setup ∷ setups) (suc number) is = omega (arith, line_within setups number is)

-- a stream that is there is a line where its driver is
pub line_at : (setups : List Setup) (at : ℕ) (d : Setup) → at < length setups → line_is_there (slice_get setups at) ≡ is_line (get_or setups at d).driver
line_at setups at d within = ap (λ (found : Option Setup). line_is_there found) (slice_get-get_or setups at d within)

-- the stream of each call is there
pub calls_there : {P : Type 0} (setups : List Setup) (scripts : List (List (ScriptCall P))) (feeds : List Feed) (links : List RunLink) → NamesResolve setups scripts feeds links → All (λ script. All (λ one. one.stream < length setups) script) scripts
calls_there setups scripts feeds links there k d below j e under = end_within setups _ _ (there.calls k d below j e under)

-- and that of each feed
pub feeds_there : {P : Type 0} (setups : List Setup) (scripts : List (List (ScriptCall P))) (feeds : List Feed) (links : List RunLink) → NamesResolve setups scripts feeds links → All (λ feed. feed.stream < length setups) feeds
feeds_there setups scripts feeds links there k d below = line_within setups _ (there.lines k d below)

-- feeds that are all for other streams
nothing_fed : (feeds : List Feed) (k : ℕ) → All (λ feed. (feed.stream == k) ≡ false) feeds → feed_of feeds k ≡ []
nothing_fed [] k others = refl
nothing_fed (feed ∷ feeds) k others =
    ap (λ (b : Bool). if b then feed.messages.items else feed_of feeds k) (others 0 feed (omega arith)) ∙ nothing_fed feeds k (λ j d below. others (suc j) d (omega arith))

-- a feed for a line is none for a stream that is no line
other_stream : (setups : List Setup) (stream k : ℕ) (b : Bool) → (stream == k) ≡ b → line_is_there (slice_get setups stream) ≡ true → line_is_there (slice_get setups k) ≡ false → b ≡ false
other_stream setups stream k true same line none =
    let found : line_is_there (slice_get setups k) ≡ true = subst (λ n. line_is_there (slice_get setups n) ≡ true) (eqb-true stream k same) line in
    absurd cc
other_stream setups stream k false same line none = refl

-- no stream but a line is fed
pub lines_fed : {P : Type 0} (setups : List Setup) (scripts : List (List (ScriptCall P))) (feeds : List Feed) (links : List RunLink) → NamesResolve setups scripts feeds links → (k : ℕ) (s : Setup) → k < length setups → is_line (get_or setups k s).driver ≡ false → feed_of feeds k ≡ []
lines_fed setups scripts feeds links there k s within none =
    nothing_fed feeds k (λ j d below. other_stream setups (get_or feeds j d).stream k ((get_or feeds j d).stream == k) refl (there.lines j d below) (line_at setups k s within ∙ none))

pub run_lines_fed : {K P : Type 0} (run : RunValue K) (scripts : List (List (ScriptCall P))) → NamesResolve run.setups scripts run.feeds run.links → AreLinesFed run
run_lines_fed run scripts there = lines_fed run.setups scripts run.feeds run.links there

-- one of two lists
all_if : (P : Msg → Type 0) (b : Bool) (xs ys : List Msg) → All P xs → All P ys → All P (if b then xs else ys)
all_if P true xs ys one other = one
all_if P false xs ys one other = other

-- what holds of each message of each feed, as of what a stream is fed
all_fed : (P : Msg → Type 0) (feeds : List Feed) (k : ℕ) → All (λ feed. All P feed.messages.items) feeds → All P (feed_of feeds k)
all_fed P [] k each = λ j d below. absurd (omega arith)
all_fed P (feed ∷ feeds) k each =
    all_if P (feed.stream == k) feed.messages.items (feed_of feeds k) (each 0 feed (omega arith)) (all_fed P feeds k (λ j d below. each (suc j) d (omega arith)))

-- what each stream is fed comes from a line
pub kinds_fed : (feeds : List Feed) (streams : ℕ) (all : List (Vec Msg Global)) → AreFeeds feeds streams all → All (λ feed. All (λ m. is_from_line m.kind ≡ true) feed.messages.items) feeds → All (λ messages. All (λ m. is_from_line m.kind ≡ true) messages.items) all
kinds_fed feeds streams all fed kinds k d below =
    subst (λ l. All (λ (m : Msg). is_from_line m.kind ≡ true) l) (sym (fed.each k d (subst (λ n. k < n) fed.many below))) (all_fed (λ m. is_from_line m.kind ≡ true) feeds k kinds)
