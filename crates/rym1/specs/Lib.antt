pub mod Bytes
pub mod Causes
pub mod File
pub mod Cells
pub mod Open
pub mod Journal
pub mod Edits
