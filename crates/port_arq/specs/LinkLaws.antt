-- The purpose of a data link that numbers and acknowledges its messages.
use Rattle.std.specs.Prelude.{◌≡◌, ℕ, true, List, ◌++◌, take}
use Rattle.port_arq.specs.Peer.{is_acknowledged}
use Rattle.port_arq.specs.Link.{Side, Link, Event, opened, reached}

-- a list is the beginning of another, or all of it
abbrev pub IsBeginning : List (List ℕ) → List (List ℕ) → Type 0
IsBeginning some all = (rest : List (List ℕ)) × (some ++ rest ≡ all)

-- what went up at one end of what was handed down at the other: a beginning of it, in order, once each; what
-- was acknowledged went up; and once all is acknowledged, all of it went up
pub record Carries (from to : Side) : Type 0 where
  pub order : IsBeginning to.raised from.handed
  pub acknowledged : IsBeginning (take from.peer.acknowledged from.handed) to.raised
  pub whole : is_acknowledged from.peer ≡ true → to.raised ≡ from.handed

-- a link carries messages both ways
pub record IsCarried (link : Link) : Type 0 where
  pub there : Carries link.near link.far
  pub back : Carries link.far link.near

-- whatever the windows and intervals of the two ends, whatever is handed down, sent, lost, doubled, delayed
-- and reordered, and however time passes
abbrev pub MessagesAreCarried : Type 0
MessagesAreCarried =
    (near_window near_interval far_window far_interval : ℕ) (events : List Event) →
    IsCarried (reached (opened near_window near_interval) (opened far_window far_interval) events)

-- and whatever has happened, all that was handed down by then can still go up: some events may follow after
-- which all of it has, at both ends
abbrev pub AllCanStillArrive : Type 0
AllCanStillArrive =
    (near_window near_interval far_window far_interval : ℕ) (events : List Event) →
    (more : List Event) ×
    let near = opened near_window near_interval in
    let far = opened far_window far_interval in
    let now = reached near far events in
    let later = reached near far (events ++ more) in
    (later.far.raised ≡ now.near.handed) × (later.near.raised ≡ now.far.handed)
