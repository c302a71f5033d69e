-- If the device holds a store, and nothing fails, each line of `ask` has its reply.
use Rattle.std.specs.Prelude.{ℕ, List}
use Rattle.std.proofs.Common.{refl, sym, subst, arith, inr, ⊎_elim}
use Rattle.btr_io.specs.declared.source.Source.{Ghosts as SourceGhosts}
use Rattle.btr_io.specs.Faults.{Rose as StreamRose}
use Rattle.btr_disk.specs.declared.disk.Disk.{Ghosts}
use Rattle.btr_disk.specs.Causes.{Rose}
use Rattle.btr_text.specs.Input.{questions_of}
use Rattle.btr_text.specs.declared.script.ScriptLine.{ScriptLine}
use Rattle.btr_open.specs.Laws.{HeldIsSound}
use Rattle.btr_top.specs.declared.ending.Ending.{Ending}
use Rattle.btr_top.specs.declared.ending.Ending.TheVariants.{Usage, NoSource, TooLong, OutOfMemory, NoDevice, NoStore, Damaged, Occupied, TooSmall, Formatted, Checkpointed, Sealed, Unsealed, Stands, Full, Shipped, CutShort, NoSink, Replied}
use Rattle.btr_store.specs.declared.status.Status.{Status}
use Rattle.btr_top.specs.Ending.{status_of}
use Rattle.btr_store.specs.Status.{code_of}
use Rattle.btr_store.specs.Replies.{status_of_replies}
use Rattle.btr_top.specs.Command.{HasRead, ExceedsInputLimit}
use Rattle.btr_top.specs.Ask.{QuestionsCause, AskCause, CanAsk}
use Rattle.btr_top.specs.Run.{IsPlainStatus}
use Rattle.btr_top.proofs.BenignStatuses.{benign_code, benign_answers}
use Rattle.btr_top.proofs.PlainStatuses.{benign_input}

module _ {S D : Type 0} (source : SourceGhosts S) (disk : Ghosts D) (given rest : S) (old new : D) (sound : HeldIsSound) (can : CanAsk source disk given old) (source_reported : source.is_observable) (reported : disk.is_observable) (source_works : StreamRose (source.faults given) (source.faults rest) → ⊥) (device_works : Rose (disk.faults old) (disk.faults new) → ⊥) where
  not_too_long : ExceedsInputLimit source given rest → ⊥
  not_too_long exceeds = omega (arith, exceeds source_reported, can.0)

  benign_cause : (lines : List ScriptLine) → (e : Ending) → QuestionsCause disk lines old new e → IsPlainStatus (status_of e)
  benign_cause lines Usage why = absurd why.0
  benign_cause lines NoSource why = absurd why.0
  benign_cause lines TooLong why = absurd why.0
  benign_cause lines OutOfMemory why = inr (inr refl)
  benign_cause lines NoDevice why = absurd (device_works why.0)
  benign_cause lines NoStore why = absurd ((sound (disk.size old) 0 (disk.contents old) can.1.history (record { blocks = can.1.blocks; tail = can.1.tail; holds = can.1.holds })).0 (why.0 reported))
  benign_cause lines (Damaged block) why =
      absurd ((sound (disk.size old) block (disk.contents old) can.1.history (record { blocks = can.1.blocks; tail = can.1.tail; holds = can.1.holds })).1 (why.0 reported))
  benign_cause lines Occupied why = absurd why.0
  benign_cause lines (TooSmall asked has) why = absurd why.0
  benign_cause lines (Formatted blocks) why = absurd why.0
  benign_cause lines (Checkpointed kind entries) why = absurd why.0
  benign_cause lines Sealed why = absurd why.0
  benign_cause lines Unsealed why = absurd why.0
  benign_cause lines NoSink why = absurd why.0
  benign_cause lines (Stands entries) why = absurd why.0
  benign_cause lines (Full need room) why = absurd why.0
  benign_cause lines (Shipped frames) why = absurd why.0
  benign_cause lines (CutShort cut) why = absurd why.0
  benign_cause lines (Replied transcript) why =
      let all = why.answers reported can.1.history (record { blocks = can.1.blocks; tail = can.1.tail; holds = can.1.holds }) in
      subst (λ (s : Status). IsPlainStatus (code_of s)) (sym all.is_transcript.same_status) (benign_code (status_of_replies all.replies) (benign_answers all.history lines all.replies all.answers))

  pub benign_ask : (e : Ending) → AskCause source disk given rest old new e → IsPlainStatus (status_of e)
  benign_ask e why =
      ⊎_elim
      (λ unread. benign_input source given rest source_works not_too_long e unread.0)
      (λ (read : (input : List ℕ) × HasRead source input given rest × QuestionsCause disk (questions_of input) old new e). benign_cause (questions_of read.0) e read.2)
      why
