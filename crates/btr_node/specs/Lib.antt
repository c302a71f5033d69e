-- Pages as values, their bytes, and the table that a page keeps.
pub mod Page
-- What the private functions promise: the values at places of a page's bytes.
pub mod Reading
-- What the definitions entail.
pub mod Laws
