-- What is said of a script: a line for each output that the last round refused, and the status of the device.
use Rattle.std.specs.Prelude.{◌≡◌, ◌⊎◌, ℕ, Bool, true, false, ◌||◌, List, ◌++◌, if◌then◌else◌, Some, None, Result, Ok, Err, IfOk}
use Rattle.std.specs.declared.alloc.AllocError.{AllocError}
use Rattle.std.specs.Option.{is_some}
use Rattle.std.proofs.Common.{refl, sym, ap, ◌∙◌, subst}
use Rattle.btr_disk.specs.declared.disk.Disk.{Ghosts}
use Rattle.btr_hist.specs.declared.entry.Entry.{Entry}
use Rattle.btr_engine.specs.declared.engine.Engine.{Engine}
use Rattle.btr_engine.specs.Engine.{is_stopped}
use Rattle.btr_hall.specs.declared.item.Item.{Item}
use Rattle.btr_hall.specs.Trace.{has_halt, stopped_in}
use Rattle.btr_jobs.specs.States.{failed_in}
use Rattle.btr_jobs.proofs.StateLemmas.{log_at, failed_halt}
use Rattle.btr_work.specs.declared.report.RefreshLine.{RefreshLine}
use Rattle.btr_store.specs.declared.status.Status.TheVariants.{Done, DeviceFault}
use Rattle.btr_store.specs.declared.transcript.Transcript.{Transcript}
use Rattle.btr_live.specs.declared.live.LiveReport.{LiveReport}
use Rattle.btr_live.specs.Live.{HasReplyEach}
use Rattle.btr_text.specs.declared.script.ScriptLine.{ScriptLine}
use Rattle.btr_store.specs.declared.report_line.ReportLine.{ReportLine}
use Rattle.btr_store.specs.declared.status.Status.{Status}
use Rattle.btr_store.specs.Status.{greater}
use Rattle.btr_live.specs.Script.{text_of_replies}
use Rattle.btr_store.specs.Replies.{IsTranscript, status_of_replies}
use Rattle.btr_store.specs.Transcript.{AddsLines, SaysLines}
use Rattle.btr_store.specs.Live.{AreRoundLines, SaysSomeLive, SaysSomeScript, log_status, refused_by, round_line, round_status}

-- The line of an output, by its id.
pub refused_adds : (ids : ℕ → ℕ) (line : RefreshLine) (id : ℕ) (old new : Transcript) → id ≡ ids line.output → AddsLines (round_line id line.result) old new → AddsLines (refused_by ids line) old new
refused_adds ids line id old new named adds = subst (λ (i : ℕ). AddsLines (round_line i line.result) old new) named adds

-- What was said of a script, with the status of the device.
pub some_live : (report : LiveReport) (said : List ReportLine) (device : Status) (first second : Transcript) → AreRoundLines report.last said → (device ≡ Done) ⊎ (device ≡ DeviceFault) → IsTranscript report.replies.items first → SaysLines said second → (r : Result Transcript AllocError) → IfOk r (λ t. t.text.items ≡ first.text.items ++ second.text.items) → IfOk r (λ t. t.status ≡ greater (greater first.status second.status) (greater (round_status report.last) device)) → IfOk r (SaysSomeLive report)
some_live report said device first second of_round either replies lines (Ok t) text status = record {
  said = said;
  of_round = of_round;
  device = device;
  failed_or_not = either;
  same_text = text ∙ ap (λ x. x ++ second.text.items) replies.same_text ∙ ap (λ x. text_of_replies report.replies.items ++ x) lines.same_text;
  same_status = status ∙ ap (λ s. greater (greater s second.status) (greater (round_status report.last) device)) replies.same_status
      ∙ ap (λ s. greater (greater (status_of_replies report.replies.items) s) (greater (round_status report.last) device)) lines.same_status;
}
some_live report said device first second of_round either replies lines (Err error) text status = tt

-- Each line of the script has a reply.
pub some_script : (materialize : Bool) (script : List ScriptLine) (report : LiveReport) (said : Result Transcript AllocError) → HasReplyEach materialize script report → IfOk said (SaysSomeLive report) → IfOk said (SaysSomeScript materialize script)
some_script materialize script report (Ok t) each says = record { report = report; each = each; says = says }
some_script materialize script report (Err error) each says = tt

-- ---- whether the device failed

is_true : (b : Bool) (n k : ℕ) → Some k ≡ (if b then Some n else None) → b ≡ true
is_true true n k is = refl
is_true false n k is = absurd (cc)

is_false : (b : Bool) (n : ℕ) → None ≡ (if b then Some n else None) → b ≡ false
is_false true n is = absurd (cc)
is_false false n is = refl

module _ {D : Type 0} {disk : Ghosts D} where
  halt_is : (x : Engine D disk) (l : List (Item D disk)) (b : Bool) → is_stopped x ≡ false → stopped_in x l ≡ b → is_some (failed_in l) ≡ b
  halt_is x l b runs is = failed_halt l ∙ sym (ap (λ (a : Bool). a || has_halt l) runs) ∙ is

  -- The engine is stopped: the device failed.
  pub failure_is : (h : List Entry) (x : Engine D disk) (l : List (Item D disk)) (n k : ℕ) → is_stopped x ≡ false → Some k ≡ (if stopped_in x l then Some n else None) → DeviceFault ≡ log_status (log_at h l)
  failure_is h x l n k runs is =
      sym (ap (λ (b : Bool). if b then DeviceFault else Done) (halt_is x l true runs (is_true (stopped_in x l) n k is)))

  -- The engine is not stopped: the device did not fail.
  pub success_is : (h : List Entry) (x : Engine D disk) (l : List (Item D disk)) (n : ℕ) → is_stopped x ≡ false → None ≡ (if stopped_in x l then Some n else None) → Done ≡ log_status (log_at h l)
  success_is h x l n runs is =
      sym (ap (λ (b : Bool). if b then DeviceFault else Done) (halt_is x l false runs (is_false (stopped_in x l) n is)))
