-- Private promises: what an entry that is committed, or a plan that is landed, makes of the history.
use Rattle.std.specs.Prelude.{◌≡◌, List}
use Rattle.btr_hist.specs.declared.entry.Entry.{Entry}
use Rattle.btr_hist.specs.Machine as model
use Rattle.btr_streams.specs.Board.{IsBoardOf}
use Rattle.btr_core.specs.declared.event.Reply.TheVariants.{Accepted}
use Rattle.btr_core.specs.declared.staging.StageOutcome.{StageOutcome}
use Rattle.btr_core.specs.declared.staging.StageOutcome.TheVariants.{Staged, Refused}
use Rattle.btr_core.specs.Events.{reply_of}

-- The reply after this history is r, and the history is then `next`: the staged board is of it, or it is as it was.
abbrev pub Makes : List Entry → model.Reply → List Entry → StageOutcome → Type 0
Makes h r next (Staged s) = (reply_of (Accepted s.receipt) ≡ r) × IsBoardOf next s.next
Makes h r next (Refused reply) = (reply_of reply ≡ r) × (next ≡ h)
