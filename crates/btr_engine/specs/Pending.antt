-- Why a step refuses an entry that was not staged.
use Rattle.btr_streams.specs.declared.board.PushFault.{PushFault}
use Rattle.btr_streams.specs.declared.board.PushFault.TheVariants.{Rejected, Want}
use Rattle.btr_engine.specs.declared.step.StepFault.{StepFault}
use Rattle.btr_engine.specs.declared.step.StepFault.TheVariants as step

-- Why a step refuses an entry that was not staged.
abbrev pub fault_of_push : PushFault → StepFault
fault_of_push (Rejected why) = step.Rejected why
fault_of_push Want = step.Want
