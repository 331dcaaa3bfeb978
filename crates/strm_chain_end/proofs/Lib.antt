pub mod PairLemmas
pub mod EndLemmas
pub mod WaitLemmas
pub mod NextLemmas
pub mod HeadLemmas
