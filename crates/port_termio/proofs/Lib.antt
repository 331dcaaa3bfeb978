pub mod WorkedExamples
pub mod EchoLemmas
pub mod KeyLemmas
pub mod TypingLemmas
pub mod RoomLemmas
pub mod RowLemmas
pub mod MessageLemmas
