-- Each call has one outcome, what its rows mean, and what the proofs of the calls hand their facts to. Assumes nothing.
pub mod Once
pub mod Asked
pub mod Promises
pub mod Results
pub mod Handing
pub mod Deciding
pub mod Admitted
pub mod ByIds
