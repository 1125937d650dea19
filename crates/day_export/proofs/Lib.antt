pub mod Appending
pub mod ReadBack
pub mod NoFloats
pub mod Telling
pub mod Contexts
pub mod Yielded
