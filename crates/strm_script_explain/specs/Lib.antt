pub mod Near
pub mod Field
pub mod Mark
pub mod Marked
pub mod Shown
pub mod Printing
