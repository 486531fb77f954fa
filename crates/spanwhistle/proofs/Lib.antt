-- What the proofs of several functions use, and that each yes-or-no call has one outcome. Assumes nothing.
mod Keys
pub mod Once
