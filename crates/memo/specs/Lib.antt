-- The memo: what its words say, and what the functions on it answer and leave. Assumes nothing.
pub mod Recalling
