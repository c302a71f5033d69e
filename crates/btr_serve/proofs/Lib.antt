-- the answers to pieces
mod AnswerLemmas
-- what desks did
mod DeskLemmas
mod QuestionLemmas
-- what a crash leaves of a store that was served
mod ServeLemmas
-- beside `live`
mod LawLemmas
