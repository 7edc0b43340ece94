pub mod Counts
pub mod Judging
pub mod Rooms
pub mod Putting
pub mod Removing
pub mod Undoing
