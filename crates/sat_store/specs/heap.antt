pub mod Vsids
pub mod Heap
pub mod Rows
