-- The transcripts that the runs of a script in many orders gave.
use Rattle.std.specs.Prelude.{◌≡◌, ℕ, ◌+◌, ◌&&◌, nat_lt, not, Bool, List, [], ◌∷◌, ◌++◌, length, map, take, find, count_by, Option, Some, None, if◌then◌else◌}
use Rattle.std.specs.Option.{option_map, option_or}
use Rattle.std.specs.List.{list_any}
use Rattle.std.specs.Str.{bytes_eq}
use Rattle.strm_script_orders.specs.declared.tally.TheConstants.{MOST_KEPT}

-- ---- what is counted

-- a run in one order: what spells the order, the text of the transcript, and whether an expected reply was
-- not met
pub record Run : Type 0 where
  pub label : List ℕ
  pub text : List ℕ
  pub is_unmet : Bool

-- a transcript: the label of the first order that gave it, and how many orders give it
pub record GivenValue : Type 0 where
  pub label : List ℕ
  pub text : List ℕ
  pub plays : ℕ

-- how many orders there are; the transcripts that are kept apart; how many orders gave others; how many had
-- an expected reply that was not met, and the label of the first of these
pub record TallyValue : Type 0 where
  pub orders : ℕ
  pub kept : List GivenValue
  pub others : ℕ
  pub unmet : ℕ
  pub first_unmet : Option (List ℕ)

-- whether a text is one of some others
abbrev pub is_among : List (List ℕ) → List ℕ → Bool
is_among texts text = list_any (bytes_eq text) texts

-- the runs whose transcript is none of the earlier ones, and that of no run before
abbrev pub first_runs : List (List ℕ) → List Run → List Run
first_runs earlier [] = []
first_runs earlier (run ∷ runs) =
    if is_among earlier run.text then first_runs earlier runs else run ∷ first_runs (run.text ∷ earlier) runs

-- the transcript of a run, as these runs gave it
abbrev pub given_by : List Run → Run → GivenValue
given_by runs first = record { label = first.label; text = first.text; plays = count_by (λ run. bytes_eq run.text first.text) runs }

-- the transcripts that are kept apart: the first `MOST_KEPT` of those that differ
abbrev pub kept_of : List Run → List GivenValue
kept_of runs = map (given_by runs) (take MOST_KEPT (first_runs [] runs))

-- the texts of transcripts
abbrev pub texts_of : List GivenValue → List (List ℕ)
texts_of kept = map (λ given. given.text) kept

-- the tally of runs
unfoldable pub tally_of : List Run → TallyValue
tally_of runs = record {
  orders = length runs;
  kept = kept_of runs;
  others = count_by (λ run. not (is_among (texts_of (kept_of runs)) run.text)) runs;
  unmet = count_by (λ run. run.is_unmet) runs;
  first_unmet = option_map (λ run. run.label) (find (λ run. run.is_unmet) runs);
}

-- the new tally is that of one run more
abbrev pub AddsRun : TallyValue → TallyValue → Run → Type 0
AddsRun old new run = (runs : List Run) → old ≡ tally_of runs → new ≡ tally_of (runs ++ run ∷ [])

-- ---- one run more (no public clause cites this)

-- a transcript, with one play more if it has this text
abbrev pub with_play : List ℕ → GivenValue → GivenValue
with_play text given = record given { plays = given.plays + (if bytes_eq text given.text then 1 else 0) }

-- a transcript that is new is kept apart, if fewer than `MOST_KEPT` are
abbrev pub with_text : List GivenValue → List ℕ → List ℕ → List GivenValue
with_text kept label text =
    map (with_play text) kept
    ++ (if not (is_among (texts_of kept) text) && nat_lt (length kept) MOST_KEPT then record { label = label; text = text; plays = 1 } ∷ [] else [])

-- else it is only counted
abbrev pub with_other : List GivenValue → ℕ → List ℕ → ℕ
with_other kept others text =
    others + (if not (is_among (texts_of kept) text) && not (nat_lt (length kept) MOST_KEPT) then 1 else 0)

-- the label of an order, if it is the first with an expected reply that was not met
abbrev pub missed_label : List ℕ → Bool → Option (List ℕ)
missed_label label is_unmet = if is_unmet then Some label else None

abbrev pub with_run : TallyValue → Run → TallyValue
with_run tally run = record {
  orders = tally.orders + 1;
  kept = with_text tally.kept run.label run.text;
  others = with_other tally.kept tally.others run.text;
  unmet = tally.unmet + (if run.is_unmet then 1 else 0);
  first_unmet = option_or tally.first_unmet (missed_label run.label run.is_unmet);
}
