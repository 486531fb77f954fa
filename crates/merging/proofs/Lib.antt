-- The merge of two sides edge by edge, as a loop does it, is the merge of the mathematics; and the change at one variable by its steps.
-- Assumes nothing.
pub mod Gluing
pub mod Stepping
pub mod Conjoined
pub mod Fitting
pub mod Turning
pub mod Descent
pub mod Bottoms
