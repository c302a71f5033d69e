-- What a desk does with one line.
pub mod Done
-- The rounds of a talk: a line, its reply, and the moments of both.
pub mod Rounds
-- How a talk ends, and what it promises.
pub mod Ends
-- One reply.
pub mod Reply
-- A talk that goes on.
pub mod Turn
