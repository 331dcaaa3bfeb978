pub mod EntryLemmas
pub mod SerialLemmas
pub mod LogLemmas
pub mod PieceLemmas
