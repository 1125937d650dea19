pub mod Splitting
mod Rows
pub mod Again
pub mod Numbers
pub mod Lines
pub mod Sounding
pub mod Assembling
pub mod LineText
pub mod ReadBack
pub mod Forms
pub mod EveryForm
