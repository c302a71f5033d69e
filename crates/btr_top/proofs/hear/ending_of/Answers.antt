-- The line was made, or there was no memory for it.
use Rattle.std.specs.Prelude.{◌≡◌, ◌⊎◌, ℕ, Result, Ok, Err, IfOk, IfErr}
use Rattle.std.specs.declared.alloc.AllocError.{AllocError}
use Rattle.std.proofs.Common.{inl, inr, sym, ap, ◌∙◌, subst}
use Rattle.btr_engine.specs.declared.step.StepFault.{StepFault}
use Rattle.btr_engine.specs.declared.step.StepFault.TheVariants.{Sealed, DeviceFull}
use Rattle.btr_store.specs.declared.status.Status.TheVariants.{Refused, Full}
use Rattle.btr_store.specs.declared.transcript.Transcript.{Transcript}
use Rattle.btr_top.specs.declared.ending.Ending.{Ending}
use Rattle.btr_top.specs.declared.ending.Ending.TheVariants.{OutOfMemory, Replied}
use Rattle.btr_top.specs.declared.hear.FrameCounts.{FrameCounts}
use Rattle.btr_top.specs.Ending.{sealed_line}
use Rattle.btr_top.specs.Hear.{heard_line, heard_status, full_line, SaysCounts, SaysFull, SaysStoreSealed, EndsHearing}
use Rattle.btr_top.proofs.hear.ending_of.Goals as goal

ends : (Says : Transcript → Type 0) (said : Result Transcript AllocError) (e : Ending) → IfOk said Says → IfOk said (λ t. e ≡ Replied t) → IfErr said (λ error. e ≡ OutOfMemory) → (e ≡ OutOfMemory) ⊎ ((t : Transcript) × (e ≡ Replied t) × Says t)
ends Says (Ok t) e says replied unsaid = inr (t, replied, says)
ends Says (Err error) e says replied unsaid = inl unsaid

counts : (n : FrameCounts) (rest : ℕ) (said : Result Transcript AllocError) → IfOk said (λ t. t.text.items ≡ heard_line n rest) → IfOk said (λ t. t.status ≡ heard_status n rest) → IfOk said (SaysCounts n rest)
counts n rest (Ok t) text status = record { same_text = text; same_status = status }
counts n rest (Err error) text status = tt

full : (need left : ℕ) (said : Result Transcript AllocError) → IfOk said (λ t. t.text.items ≡ full_line need left) → IfOk said (λ t. t.status ≡ Full) → IfOk said (SaysFull need left)
full need left (Ok t) text status = record { same_text = text; same_status = status }
full need left (Err error) text status = tt

sealed : (said : Result Transcript AllocError) → IfOk said (λ t. t.text.items ≡ sealed_line) → IfOk said (λ t. t.status ≡ Refused) → IfOk said SaysStoreSealed
sealed (Ok t) text status = record { same_text = text; same_status = status }
sealed (Err error) text status = tt

of_fault : (heard : Result FrameCounts StepFault) (fault this : StepFault) → heard ≡ Err fault → fault ≡ this → heard ≡ Err this
of_fault heard fault this is same = is ∙ ap Err same

pub returns-in-Ok : goal.returns-in-Ok
returns-in-Ok c =
    let n = c.in-Ok.counts in
    let rest = c.args.rest in
    let said = c.heard_transcript.result in
    let e = c.ending_of_said.result in
    subst (λ (r : Result FrameCounts StepFault). EndsHearing r rest e) (sym c.in-Ok.is)
    (ends (SaysCounts n rest) said e (counts n rest said c.heard_transcript.ensures.text c.heard_transcript.ensures.status) c.ending_of_said.ensures.replied c.ending_of_said.ensures.unsaid)

pub returns-in-Err-DeviceFull : goal.returns-in-Err-DeviceFull
returns-in-Err-DeviceFull c =
    let arm = c.in-Err-DeviceFull in
    let same : arm.field-0 ≡ DeviceFull arm.need arm.left = rw (arm.is) at arm.field-0-is in
    let said = c.full_transcript.result in
    let e = c.ending_of_said-in-Err-DeviceFull.result in
    subst (λ (r : Result FrameCounts StepFault). EndsHearing r c.args.rest e) (sym (of_fault c.args.heard arm.field-0 (DeviceFull arm.need arm.left) arm.is same))
    (ends (SaysFull arm.need arm.left) said e (full arm.need arm.left said c.full_transcript.ensures.text c.full_transcript.ensures.status) c.ending_of_said-in-Err-DeviceFull.ensures.replied c.ending_of_said-in-Err-DeviceFull.ensures.unsaid)

pub returns-in-Err-Sealed : goal.returns-in-Err-Sealed
returns-in-Err-Sealed c =
    let arm = c.in-Err-Sealed in
    let same : arm.field-0 ≡ Sealed = rw (arm.is) at arm.field-0-is in
    let said = c.sealed_transcript.result in
    let e = c.ending_of_said-in-Err-Sealed.result in
    subst (λ (r : Result FrameCounts StepFault). EndsHearing r c.args.rest e) (sym (of_fault c.args.heard arm.field-0 Sealed arm.is same))
    (ends SaysStoreSealed said e (sealed said c.sealed_transcript.ensures.text c.sealed_transcript.ensures.status) c.ending_of_said-in-Err-Sealed.ensures.replied c.ending_of_said-in-Err-Sealed.ensures.unsaid)
