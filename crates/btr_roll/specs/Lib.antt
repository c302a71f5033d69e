-- Which streams with their versions a checkpoint can have, and the bytes of them.
pub mod Roll
-- What the private functions promise: the pieces that decoding takes one after another.
pub mod Items
