-- Walking down a lent table: what a step asks and leaves, and what a whole operation leaves. Assumes nothing.
pub mod Walking
