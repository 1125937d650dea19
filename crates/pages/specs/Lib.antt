pub mod Health
pub mod Labels
pub mod Printing
pub mod Escaping
