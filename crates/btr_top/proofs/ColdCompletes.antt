-- If the device holds a sealed store with a checkpoint, and nothing fails, each line of `ask --cold` has its reply.
use Rattle.std.specs.Prelude.{◌≡◌, ◌⊎◌, ℕ, ◌≤◌, List, [], ◌∷◌, Option}
use Rattle.std.proofs.Common.{refl, sym, ap, subst, arith, inl, inr, ⊎_elim}
use Rattle.btr_io.specs.declared.source.Source.{Ghosts as SourceGhosts}
use Rattle.btr_io.specs.Faults.{Rose as StreamRose}
use Rattle.btr_disk.specs.declared.disk.Disk.{Ghosts}
use Rattle.btr_disk.specs.Causes.{Rose}
use Rattle.btr_hist.specs.declared.entry.Entry.{Entry}
use Rattle.btr_text.specs.Input.{questions_of}
use Rattle.btr_text.specs.declared.script.Line.{Line}
use Rattle.btr_text.specs.declared.script.ScriptLine.{ScriptLine}
use Rattle.btr_text.specs.declared.reply.LineReply.{LineReply}
use Rattle.btr_text.specs.declared.reply.LineReply.TheVariants.{No}
use Rattle.btr_text.specs.declared.reply.Reason.TheVariants as reasons
use Rattle.btr_open.specs.declared.sealed.SealedFault.{SealedFault}
use Rattle.btr_open.specs.declared.sealed.SealedFault.TheVariants as openings
use Rattle.btr_open.specs.Sealed.{IsHarmlessCause, SealedCause}
use Rattle.btr_store.specs.declared.status.Status.{Status}
use Rattle.btr_store.specs.declared.status.Status.TheVariants.{Done}
use Rattle.btr_store.specs.declared.transcript.Transcript.{Transcript}
use Rattle.btr_store.specs.Completes.{IsBenign}
use Rattle.btr_store.specs.Status.{code_of, greater}
use Rattle.btr_store.specs.Replies.{greatest_of_replies, status_of_reply, status_of_replies}
use Rattle.btr_live.specs.Meaning.{question}
use Rattle.btr_live.specs.Serving.{IsAnswerOrNoMemory}
use Rattle.btr_top.specs.declared.ending.Ending.{Ending}
use Rattle.btr_top.specs.declared.ending.Ending.TheVariants.{OutOfMemory, Replied}
use Rattle.btr_top.specs.Ending.{status_of}
use Rattle.btr_top.specs.Command.{HasRead, ExceedsInputLimit}
use Rattle.btr_top.specs.Cold.{EachReplies, IsAnswerOrFailure, WereAnsweredCold, IsUnopened, ColdCause, AskColdCause, CanAskCold, ending_of_fault}
use Rattle.btr_top.specs.Run.{IsPlainStatus}
use Rattle.btr_top.proofs.BenignStatuses.{benign_code, benign_answered, benign_question, benign_greater}
use Rattle.btr_top.proofs.PlainStatuses.{benign_input}

-- The counts never fall.
counts_rise : (P : Option Line → ℕ → ℕ → LineReply → Type 0) (before after : ℕ) (lines : List ScriptLine) (replies : List LineReply) → EachReplies P before after lines replies → before ≤ after
counts_rise P before after [] [] each = each
counts_rise P before after [] (r ∷ replies) each = absurd each
counts_rise P before after (l ∷ lines) [] each = absurd each
counts_rise P before after (l ∷ lines) (r ∷ replies) each =
    omega (arith, each.2, each.3, counts_rise P each.1 after lines replies each.5)

module _ (low high : ℕ) (works : Rose low high → ⊥) (h : List Entry) where
  benign_reply : (line : Option Line) (from next : ℕ) (reply : LineReply) → low ≤ from → next ≤ high → IsAnswerOrFailure h line from next reply → IsBenign (status_of_reply reply)
  benign_reply line from next reply lower higher is =
      ⊎_elim
      (λ answered. benign_answered h (question h line) reply (benign_question h line) answered)
      (λ (failed : (reply ≡ No reasons.Device) × Rose from next). absurd (works (omega (arith, failed.1, lower, higher))))
      is

  benign_replies : (status : Status) (before : ℕ) (lines : List ScriptLine) (replies : List LineReply) → low ≤ before → IsBenign status → EachReplies (IsAnswerOrFailure h) before high lines replies → IsBenign (greatest_of_replies status replies)
  benign_replies status before [] [] lower benign each = benign
  benign_replies status before [] (r ∷ replies) lower benign each = absurd each
  benign_replies status before (l ∷ lines) [] lower benign each = absurd each
  benign_replies status before (l ∷ lines) (r ∷ replies) lower benign each =
      let next = each.1 in
      let rest = counts_rise (IsAnswerOrFailure h) next high lines replies each.5 in
      let one : IsBenign (status_of_reply r) = benign_reply l.line each.0 next r (omega (arith, lower, each.2)) rest each.4 in
      benign_replies (greater status (status_of_reply r)) next lines replies (omega (arith, lower, each.2, each.3)) (benign_greater status (status_of_reply r) benign one) each.5

module _ {S D : Type 0} (source : SourceGhosts S) (disk : Ghosts D) (given rest : S) (old new : D) (can : CanAskCold source disk given old) (source_reported : source.is_observable) (reported : disk.is_observable) (source_works : StreamRose (source.faults given) (source.faults rest) → ⊥) (device_works : Rose (disk.faults old) (disk.faults new) → ⊥) where
  not_too_long : ExceedsInputLimit source given rest → ⊥
  not_too_long exceeds = omega (arith, exceeds source_reported, can.0)

  opening_benign : (fault : SealedFault) → SealedCause disk old new fault → IsHarmlessCause fault → IsPlainStatus (status_of (ending_of_fault fault))
  opening_benign openings.NotAStore cause harmless = absurd harmless
  opening_benign openings.Unsealed cause harmless = absurd harmless
  opening_benign (openings.Damaged block) cause harmless = absurd harmless
  opening_benign openings.Fault cause harmless = absurd (device_works cause)
  opening_benign openings.Want cause harmless = inr (inr refl)

  along : (e other : Ending) → e ≡ other → IsPlainStatus (status_of other) → IsPlainStatus (status_of e)
  along e other is plain = subst (λ (x : Ending). IsPlainStatus (status_of x)) (sym is) plain

  answered_benign : (lines : List ScriptLine) (transcript : Transcript) → WereAnsweredCold disk lines old new transcript → IsPlainStatus (code_of transcript.status)
  answered_benign lines transcript were =
      let held = can.1.1 in
      let stood = were.answers.stood reported can.1.0 (record { blocks = held.blocks; tail = held.tail; holds = held.holds }) in
      let benign = benign_replies (disk.faults old) (disk.faults new) device_works can.1.0 Done (disk.faults old) lines were.replies (omega arith) (inl refl) stood in
      subst (λ (s : Status). IsPlainStatus (code_of s)) (sym were.is_transcript.same_status) (benign_code (status_of_replies were.replies) benign)

  benign_cause : (lines : List ScriptLine) (e : Ending) → ColdCause disk lines old new e → IsPlainStatus (status_of e)
  benign_cause lines e cold =
      ⊎_elim
      (λ (replied : (transcript : Transcript) × (e ≡ Replied transcript) × WereAnsweredCold disk lines old new transcript).
      along e (Replied replied.0) replied.1 (answered_benign lines replied.0 replied.2))
      (λ other.
      ⊎_elim
      (λ lacks. along e OutOfMemory lacks (inr (inr refl)))
      (λ (un : IsUnopened disk old new e). along e (ending_of_fault un.fault) un.ends (opening_benign un.fault un.cause (un.stood reported can.1.0 can.1.1)))
      other)
      cold.why

  pub benign_ask_cold : (e : Ending) → AskColdCause source disk given rest old new e → IsPlainStatus (status_of e)
  benign_ask_cold e why =
      ⊎_elim
      (λ unread. benign_input source given rest source_works not_too_long e unread.0)
      (λ (read : (input : List ℕ) × HasRead source input given rest × ColdCause disk (questions_of input) old new e). benign_cause (questions_of read.0) e read.2)
      why
