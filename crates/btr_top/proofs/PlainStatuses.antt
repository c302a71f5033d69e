-- What a run that reads its input and writes its text makes of a status, if the source and the sink do not fail.
use Rattle.std.specs.Prelude.{ℕ, List}
use Rattle.std.proofs.Common.{refl, sym, subst, inr, ⊎_elim}
use Rattle.btr_io.specs.declared.source.Source.{Ghosts as SourceGhosts}
use Rattle.btr_io.specs.declared.sink.Sink.{Ghosts as SinkGhosts}
use Rattle.btr_io.specs.Faults.{Rose as StreamRose}
use Rattle.btr_top.specs.declared.ending.Ending.{Ending}
use Rattle.btr_top.specs.declared.ending.Ending.TheVariants.{Usage, NoSource, TooLong, OutOfMemory, NoDevice, NoStore, Damaged, Occupied, TooSmall, Formatted, Checkpointed, Sealed, Unsealed, Stands, Full, Shipped, CutShort, NoSink, Replied}
use Rattle.btr_top.specs.Ending.{status_of, text_of, Writes, Shows}
use Rattle.btr_top.specs.Command.{InputCause, ExceedsInputLimit}
use Rattle.btr_top.specs.Run.{IsPlainStatus}

-- if the sink does not fail, what is written makes it no other status
module _ {K : Type 0} (sink : SinkGhosts K) (old new : K) (no_sink_fault : StreamRose (sink.faults old) (sink.faults new) → ⊥) where
  benign_written : (text : List ℕ) (wanted status : ℕ) → IsPlainStatus wanted → Writes sink text wanted old new status → IsPlainStatus status
  benign_written text wanted status benign writes =
      ⊎_elim (λ all. subst IsPlainStatus (sym all.same_status) benign) (λ failed. absurd (no_sink_fault failed.rose)) writes

  pub benign_shown : (e : Ending) (status : ℕ) → IsPlainStatus (status_of e) → Shows sink e old new status → IsPlainStatus status
  benign_shown e status benign shows =
      ⊎_elim
      (λ writes. benign_written (text_of e) (status_of e) status benign writes)
      (λ short. benign_written (text_of OutOfMemory) 9 status (inr (inr refl)) short.1)
      shows

-- if the source does not fail and gives no more than the limit, the lines are read or there is no memory
pub benign_input : {S : Type 0} (source : SourceGhosts S) (given rest : S) → (StreamRose (source.faults given) (source.faults rest) → ⊥) → (ExceedsInputLimit source given rest → ⊥) → (e : Ending) → InputCause source given rest e → IsPlainStatus (status_of e)
benign_input source given rest works within Usage why = absurd why
benign_input source given rest works within NoSource why = absurd (works why)
benign_input source given rest works within TooLong why = absurd (within why)
benign_input source given rest works within OutOfMemory why = inr (inr refl)
benign_input source given rest works within NoDevice why = absurd why
benign_input source given rest works within NoStore why = absurd why
benign_input source given rest works within (Damaged block) why = absurd why
benign_input source given rest works within Occupied why = absurd why
benign_input source given rest works within (TooSmall asked has) why = absurd why
benign_input source given rest works within (Formatted blocks) why = absurd why
benign_input source given rest works within (Checkpointed kind entries) why = absurd why
benign_input source given rest works within Sealed why = absurd why
benign_input source given rest works within Unsealed why = absurd why
benign_input source given rest works within NoSink why = absurd why
benign_input source given rest works within (Stands entries) why = absurd why
benign_input source given rest works within (Full need room) why = absurd why
benign_input source given rest works within (Shipped frames) why = absurd why
benign_input source given rest works within (CutShort cut) why = absurd why
benign_input source given rest works within (Replied transcript) why = absurd why
