-- What each public call answers and leaves. Assumes nothing.
pub mod Calls
pub mod Makes
pub mod Answering
pub mod Meaning
pub mod Admitting
