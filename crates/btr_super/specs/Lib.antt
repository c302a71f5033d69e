pub mod Super
pub mod Choose
pub mod Format
pub mod Replace
pub mod Laws
pub mod Chosen
