-- Lists that begin with another one.
pub mod Prefixes
-- The numbers of entries.
pub mod Numbers
-- Shares of passes, and which of them cover.
pub mod Shares
-- What a pass knows, and what is left of it by each call.
pub mod Views
-- What the calls promise.
pub mod Turns
pub mod Gates
-- The private promises: the rule between two steps, what each step promises, and what the private calls do.
pub mod Rule
pub mod Steps
pub mod Seats
