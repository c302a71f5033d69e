-- Private promises: the lines of one lane.
use Rattle.std.specs.Prelude.{List, Option}
use Rattle.btr_text.specs.declared.script.Line.{Line}
use Rattle.btr_text.specs.declared.reply.LineReply.{LineReply}

-- The lines of a lane that are to run, and the replies of those that ran.
pub record LinesValue : Type 0 where
  pub lines : List (Option Line)
  pub replies : List LineReply
