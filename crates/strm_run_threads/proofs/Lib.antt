mod PortionsLemmas
mod TurnsLemmas
