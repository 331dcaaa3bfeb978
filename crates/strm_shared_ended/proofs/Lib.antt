mod ArrivalLemmas
mod HoldingLemmas
mod PlaceLemmas
