pub mod Shape
pub mod Kinds
pub mod Outs
pub mod Builtin
pub mod Bytes
pub mod Module
pub mod Driver
pub mod Calm
