pub mod Cells
pub mod Acts
pub mod Rows
pub mod Text
pub mod Laws
