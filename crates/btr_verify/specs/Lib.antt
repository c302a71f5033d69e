-- When a stored node is right.
pub mod Judged
-- Which stored node is the first wrong one of a version.
pub mod FirstWrong
-- What holds of all stored nodes.
pub mod Laws
-- What is verified, and what is found.
pub mod Trees
-- What the private functions promise: the node of a span in a tree, when a stored node is that node, and how pages are judged.
pub mod Found
pub mod Same
pub mod Judging
