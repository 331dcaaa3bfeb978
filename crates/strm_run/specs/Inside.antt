-- Promises that the parts of a run make one another. Clauses of its private functions cite these definitions.
-- Readers of the contract of `run`, or of another public call, need none of them.
pub mod Table
pub mod Opening
pub mod Ending
