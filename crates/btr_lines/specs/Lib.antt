-- The lines of an input, and what is so when a source is asked for more of it.
pub mod Lines
-- The part of a line that is held.
pub mod Held
-- Facts on each moment of a list.
pub mod Moments
