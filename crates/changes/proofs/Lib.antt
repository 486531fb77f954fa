-- The laws behind restriction, narrowing and widening, lowest first. Assumes nothing.
pub mod Gathering
pub mod Looking
pub mod Bottom
pub mod Down
pub mod Bounds
pub mod Restricting
