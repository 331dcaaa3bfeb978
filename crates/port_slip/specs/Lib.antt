pub mod Frame
pub mod FrameLaws
pub mod Slip
pub mod SlipLaws
pub mod Stack
