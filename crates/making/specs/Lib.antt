-- Node making on lent tables: the node under construction, what making leaves, and taking nodes back. Assumes nothing.
pub mod Building
pub mod Seeking
pub mod Storing
pub mod Growing
pub mod Made
pub mod Outcome
pub mod Working
