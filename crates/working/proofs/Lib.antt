pub mod Moving
pub mod Finding
