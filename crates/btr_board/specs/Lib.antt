-- One value of a partial function replaced.
pub mod Put
-- What a node of a trail has at each place, and the list of a trail.
pub mod Places
-- What a node of an index has for each id, and the partial function of an index.
pub mod Numbers
