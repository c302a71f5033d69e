pub mod Head
pub mod Extents
pub mod Log
pub mod Append
pub mod Found
pub mod Piece
pub mod Ahead
pub mod Reads
