-- Lent tables: their words, when they are sound, what they hold, and what each call on them answers. Assumes nothing.
pub mod Layout
pub mod Lending
pub mod Indexed
pub mod Lent
pub mod Held
pub mod Told
pub mod Checking
