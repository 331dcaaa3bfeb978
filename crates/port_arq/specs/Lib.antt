pub mod Frame
pub mod FrameLaws
pub mod Peer
pub mod InsidePeer
pub mod Link
pub mod LinkLaws
