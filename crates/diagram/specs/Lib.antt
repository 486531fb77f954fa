-- What a reader must believe of tables, readings and diagrams. Assumes nothing.
pub mod Pieces
pub mod Shape
pub mod Table
pub mod Cofactor
pub mod Sound
pub mod Reading
pub mod Ordered
pub mod Room
