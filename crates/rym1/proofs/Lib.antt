-- Laws that other crates cite.
pub mod Bytes
pub mod Causes
pub mod Accepted
pub mod Points
pub mod Cells
pub mod Opened
pub mod Repeated
pub mod Journal
pub mod Models
pub mod Changes
pub mod Entries
pub mod Kept
