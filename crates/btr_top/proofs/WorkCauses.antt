-- Why a command ends so that did its work on the whole store.
use Rattle.std.specs.Prelude.{◌≡◌, Bool, true, false, Result, Ok, Err, IfOk}
use Rattle.std.specs.declared.alloc.AllocError.{AllocError}
use Rattle.std.proofs.Common.{sym, subst, inl, inr}
use Rattle.btr_disk.specs.declared.disk.Disk.{Ghosts}
use Rattle.btr_store.specs.declared.transcript.Transcript.{Transcript}
use Rattle.btr_store.specs.Work.{DoesRightly, IfHolds, IsPlainWork}
use Rattle.btr_top.specs.declared.ending.Ending.{Ending}
use Rattle.btr_top.specs.declared.ending.Ending.TheVariants.{Usage, NoSource, TooLong, OutOfMemory, NoDevice, NoStore, Damaged, Occupied, TooSmall, Formatted, Checkpointed, Sealed, Unsealed, Stands, Full, Shipped, CutShort, NoSink, Replied}
use Rattle.btr_top.specs.Command.{IsKept, OpeningCause}
use Rattle.btr_top.specs.Work.{IfReplied, WorkSays, WorkDid, WorkCause, ending_of}

cause_of : {D : Type 0} (disk : Ghosts D) (What : WorkSays) (said : Result Transcript AllocError) (failed : Bool) (old new : D) → WorkDid disk What old new said failed → WorkCause disk What old new (ending_of said failed)
cause_of disk What (Ok transcript) failed old new did = (failed, did)
cause_of disk What (Err error) true old new did = inr (error, did)
cause_of disk What (Err error) false old new did = inr (error, did)

pub work_cause : {D : Type 0} (disk : Ghosts D) (What : WorkSays) (said : Result Transcript AllocError) (failed : Bool) (old new end : D) (e : Ending) → e ≡ ending_of said failed → end ≡ new → IsPlainWork disk old said failed new → IfHolds disk old (DoesRightly disk (What said) failed old new) → WorkCause disk What old end e
work_cause disk What said failed old new end e is same plain rightly =
    subst (λ (x : Ending). WorkCause disk What old end x) (sym is)
    (subst (λ (d : _). WorkCause disk What old d (ending_of said failed)) (sym same) (cause_of disk What said failed old new (record { plain = plain; rightly = rightly })))

-- The store was not opened.
pub unopened_cause : {D : Type 0} (disk : Ghosts D) (What : WorkSays) (old new : D) (e : Ending) → OpeningCause disk old new e → IsKept disk old new → WorkCause disk What old new e
unopened_cause disk What old new Usage why kept = absurd why
unopened_cause disk What old new NoSource why kept = absurd why
unopened_cause disk What old new TooLong why kept = absurd why
unopened_cause disk What old new OutOfMemory why kept = inl kept
unopened_cause disk What old new NoDevice why kept = inl (why, kept)
unopened_cause disk What old new NoStore why kept = (why, kept)
unopened_cause disk What old new (Damaged block) why kept = (why, kept)
unopened_cause disk What old new Occupied why kept = absurd why
unopened_cause disk What old new (TooSmall asked has) why kept = absurd why
unopened_cause disk What old new (Formatted made) why kept = absurd why
unopened_cause disk What old new (Checkpointed kind entries) why kept = absurd why
unopened_cause disk What old new Sealed why kept = absurd why
unopened_cause disk What old new Unsealed why kept = absurd why
unopened_cause disk What old new NoSink why kept = absurd why
unopened_cause disk What old new (Stands entries) why kept = absurd why
unopened_cause disk What old new (Full need room) why kept = absurd why
unopened_cause disk What old new (Shipped frames) why kept = absurd why
unopened_cause disk What old new (CutShort cut) why kept = absurd why
unopened_cause disk What old new (Replied transcript) why kept = absurd why

-- ---- what is said

says_of : (Says : Transcript → Type 0) (said : Result Transcript AllocError) (failed : Bool) → IfOk said Says → IfReplied Says (ending_of said failed)
says_of Says (Ok transcript) failed says = says
says_of Says (Err error) true says = tt
says_of Says (Err error) false says = tt

pub says_if : (Says : Transcript → Type 0) (said : Result Transcript AllocError) (failed : Bool) (e : Ending) → e ≡ ending_of said failed → IfOk said Says → IfReplied Says e
says_if Says said failed e is says = subst (IfReplied Says) (sym is) (says_of Says said failed says)

-- A store that was not opened replies nothing.
pub unopened_says : {D : Type 0} (disk : Ghosts D) (Says : Transcript → Type 0) (old new : D) (e : Ending) → OpeningCause disk old new e → IfReplied Says e
unopened_says disk Says old new Usage why = tt
unopened_says disk Says old new NoSource why = tt
unopened_says disk Says old new TooLong why = tt
unopened_says disk Says old new OutOfMemory why = tt
unopened_says disk Says old new NoDevice why = tt
unopened_says disk Says old new NoStore why = tt
unopened_says disk Says old new (Damaged block) why = tt
unopened_says disk Says old new Occupied why = tt
unopened_says disk Says old new (TooSmall asked has) why = tt
unopened_says disk Says old new (Formatted made) why = tt
unopened_says disk Says old new (Checkpointed kind entries) why = tt
unopened_says disk Says old new Sealed why = tt
unopened_says disk Says old new Unsealed why = tt
unopened_says disk Says old new NoSink why = tt
unopened_says disk Says old new (Stands entries) why = tt
unopened_says disk Says old new (Full need room) why = tt
unopened_says disk Says old new (Shipped frames) why = tt
unopened_says disk Says old new (CutShort cut) why = tt
unopened_says disk Says old new (Replied transcript) why = absurd why
