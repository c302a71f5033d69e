-- What is read: words, the forms of a line (those of outputs apart), the lines of an input.
pub mod Word
pub mod Distiller
pub mod Cell
pub mod Form
pub mod Input
-- What is written: the reason of a refusal, the text of a reply.
pub mod Reasons
pub mod Text
-- The bytes that mark the parts of a line.
pub mod Laws
