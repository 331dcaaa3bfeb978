pub mod EchoingLemmas
