-- The outputs of a sample, which are defined one after another.
use Rattle.std.specs.Prelude.{◌≡◌, ℕ, ◌+◌, ◌^◌, List, [], ◌∷◌, ◌++◌, length, Option, Some, None, Result, Ok, Err, IfOk}
use Rattle.std.specs.declared.alloc.AllocError.{AllocError}
use Rattle.std.specs.declared.vec.Vec.{Vec}
use Rattle.std.specs.declared.alloc.Global.{Global}
use Rattle.btr_hist.specs.declared.entry.Entry.{Entry}
use Rattle.btr_hist.specs.declared.entry.Entry.TheVariants as entries
use Rattle.btr_hist.specs.declared.kernel.Kernel.TheVariants.{Mean}
use Rattle.btr_hist.specs.declared.kernel.Spec.{Spec}
use Rattle.btr_hist.specs.History.{stream_of}
use Rattle.btr_text.specs.declared.reply.Reason.{Reason}
use Rattle.btr_text.specs.declared.reply.Reason.TheVariants as reasons
use Rattle.btr_streams.specs.declared.board.Receipt.{Receipt}
use Rattle.btr_engine.specs.declared.step.StepFault.{StepFault}
use Rattle.btr_engine.specs.declared.step.StepFault.TheVariants as steps
use Rattle.btr_jobs.specs.States.{StoreState, LogState}
use Rattle.btr_jobs.specs.Turns.{IsIdle, SaysSealed, Committed}
use Rattle.btr_store.specs.declared.define.DefinedOutput.{DefinedOutput}
use Rattle.btr_live.specs.Reasons.{reason_of_step}

-- The id of the output of a stream of a sample. The streams count from 0, and the id of a stream is one more.
abbrev pub output_id : ℕ → ℕ
output_id stream = 2 ^ 64 + stream + 1

-- The spec of an output: the mean of the last 1,000 ns of the stream with this number.
abbrev pub mean_of : ℕ → Spec
mean_of input = record { kernel = Mean; lead = 1000; grain = 0; first = input; second = None }

-- Why an entry was refused, if it was. The entry is no retirement: its rejection names no output.
abbrev pub refusal_of : Result Receipt StepFault → Option Reason
refusal_of (Ok receipt) = None
refusal_of (Err fault) = Some (reason_of_step 0 fault)

-- The output with this id was defined over an input right after the history p, or refused. Without an input it is refused for that.
abbrev pub DefinesOver : StoreState → LogState → List Entry → ℕ → Option ℕ → Option Reason → List ℕ → List Entry → Type 0
DefinesOver start log p id None refused own next = (refused ≡ Some reasons.Stream) × IsIdle p own next
DefinesOver start log p id (Some input) refused own next =
    (result : Result Receipt StepFault) × Committed start log p (entries.Define id (mean_of input)) result own next
    × (refused ≡ refusal_of result) × SaysSealed start steps.Sealed result

-- The output of a stream of a sample was defined right after the history p, or refused.
abbrev pub Defines : StoreState → LogState → List Entry → ℕ → DefinedOutput → List ℕ → List Entry → Type 0
Defines start log p stream output own next =
    (output.id ≡ output_id stream)
    × DefinesOver start log p (output_id stream) (stream_of p (stream + 1)) output.refused own next

-- The outputs of the streams from this one on were defined one after another, the first right after the history p. `own` are the
-- numbers of what was added, in order, and `last` is the history after it.
abbrev pub DefinesEach : StoreState → LogState → List Entry → ℕ → List DefinedOutput → List ℕ → List Entry → Type 0
DefinesEach start log p stream [] own last = IsIdle p own last
DefinesEach start log p stream (output ∷ outputs) own last =
    (first rest : List ℕ) × (next : List Entry) × (own ≡ first ++ rest)
    × Defines start log p stream output first next
    × DefinesEach start log next (stream + 1) outputs rest last

-- Outputs were defined in the turns of a session that was alone, from the history that it had seen on: one for each of the streams,
-- or some, if memory ran out.
abbrev pub DefinesAll : ℕ → StoreState → LogState → List Entry → Result (Vec DefinedOutput Global) AllocError → List ℕ → Type 0
DefinesAll streams start log low result own =
    (outputs : List DefinedOutput) × DefinesEach start log low 0 outputs own log.history
    × IfOk result (λ v. (v.items ≡ outputs) × (length outputs ≡ streams))
