pub mod AccountLemmas
pub mod DealLemmas
pub mod PlayLemmas
pub mod ReachedLemmas
pub mod FeedLemmas
pub mod PartLemmas
pub mod CarryLemmas
