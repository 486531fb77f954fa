-- The dense line, bounds and ranges. Assumes nothing.
pub mod Line
pub mod Bounding
pub mod Comparing
pub mod Holding
pub mod Ending
