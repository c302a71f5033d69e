-- Lemmas on lists.
pub mod Firsts
-- Lemmas on trees.
pub mod Places
pub mod Runs
pub mod Parts
pub mod Outside
-- Lemmas on refusals.
pub mod Refusals
