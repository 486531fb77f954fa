-- What the numbers of the calls for C mean. Assumes nothing.
pub mod Numbers
