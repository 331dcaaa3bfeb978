-- The number of places that service looks at (Programmer's Guide: STREAMS, "Service Procedures").
use Rattle.std.specs.Prelude.{ℕ, ◌+◌, ◌-◌, ◌*◌, ◌≤◌, Bool, List, length, sum_by}
use Rattle.std.specs.List.{list_all}
use Rattle.strm_msg.specs.Message.{Msg}
use Rattle.strm_module.specs.Kinds.{OutList}
use Rattle.strm_module.specs.Calm.{is_calm, options_of, options_sent}
use Rattle.strm_chain_ends.specs.declared.place.Place.{Place}
use Rattle.strm_chain_ends.specs.Image.{Image}
use Rattle.strm_chain_ends.specs.Count.{message_count, place_count, answers_options, options_count}
use Rattle.strm_chain.specs.declared.chain.hop.Hop.{Hop}
use Rattle.strm_chain.specs.declared.number.TheConstants.{QUEUES}
use Rattle.strm_chain.specs.Enabled.{ChainValue}

-- the number of messages that were put into queues: as many as there are more of them, in addition to those
-- that moves took out
abbrev pub puts : {K : Type 0} → Image K → List Place → Image K → ℕ
puts old moves new = message_count new + length moves - message_count old

-- the number of places that may be enabled from before an event: each place of the stream, once
abbrev pub carried_over : {K : Type 0} → Image K → ℕ
carried_over old = place_count old

-- the number of times that options were set at a head: as often as fewer messages wait that set them
abbrev pub options_set : {K : Type 0} → Image K → Image K → ℕ
options_set old new = options_count old - options_count new

-- the greatest number of looks. Each place that was enabled is looked at. Each move enables its place again
-- and one place behind it at most, and each put one. Options that a head sets enable one, as its marks may
-- have changed
abbrev pub most_looks : {K : Type 0} → Image K → List Place → Image K → ℕ
most_looks old moves new = carried_over old + 2 * length moves + puts old moves new + options_set old new

-- for kinds of any meaning: before each move and after the last each place is looked at once at most
abbrev pub looks_at_most : List Place → ℕ
looks_at_most moves = length moves + QUEUES * (length moves + 1)

-- this many places were looked at where these moved: each move is a look, and there are few others
abbrev pub AreLooks : List Place → ℕ → Type 0
AreLooks moves looks = (length moves ≤ looks) × (looks ≤ looks_at_most moves)

-- the number of times that options of a head are set by a message, by the messages that a module sends, and
-- by those on their way, over the driver of an image (no public clause cites them)
abbrev pub options_in : {K : Type 0} → Image K → Msg → ℕ
options_in image m = options_of (answers_options image.driver) m

abbrev pub options_out : {K : Type 0} → Image K → OutList → ℕ
options_out image outs = options_sent (answers_options image.driver) outs

abbrev pub options_carried : {K : Type 0} → Image K → List Hop → ℕ
options_carried image hops = sum_by (λ h. options_of (answers_options image.driver) h.m) hops

-- each message that was put enabled one place at most, and so did options that were set; `before` and `after`
-- are the numbers of messages on their way (no public clause cites it)
abbrev pub Grows : {K : Type 0} → ChainValue K → ℕ → ChainValue K → ℕ → Type 0
Grows old before new after =
    length new.run.items + message_count old.image + (options_count new.image + after) ≤ length old.run.items + message_count new.image + (options_count old.image + before)

-- the same of a place that has moved: the message that was taken enabled one place more
abbrev pub HasMoved : {K : Type 0} → ChainValue K → ChainValue K → ℕ → Type 0
HasMoved old new sent =
    length new.run.items + message_count old.image + (options_count new.image + sent) ≤ length old.run.items + message_count new.image + options_count old.image + 2

-- messages on their way that flush nothing (no public clause cites it)
abbrev pub are_calm_hops : List Hop → Bool
are_calm_hops hops = list_all (λ h. is_calm h.m.kind) hops
