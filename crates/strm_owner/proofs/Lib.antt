pub mod RoundLemmas
pub mod ServesLemmas
