-- Why `ask --cold` ends as it does: the lines were answered from a shelf of the device, or the device was not opened.
use Rattle.std.specs.Prelude.{◌≡◌, ◌⊎◌, ℕ, ◌≤◌, true, false, List, Option, Some, Result, Err}
use Rattle.std.proofs.Common.{refl, sym, ◌∙◌, ap, ap₂, subst, inl, inr, ⊎_elim}
use Rattle.std.proofs.Math.Logic.{∥∥₁_map}
use Rattle.std.proofs.Math.Path.{fun_ext}
use Rattle.std.proofs.lemmas.Bool.{false≢true}
use Rattle.btr_disk.specs.declared.disk.Disk.{Ghosts}
use Rattle.btr_disk.specs.Bytes.{Image}
use Rattle.btr_disk.specs.Causes.{KeepsCounts}
use Rattle.btr_disk.specs.Moments.{WroteNothing}
use Rattle.btr_log.specs.Reads.{OnlyReads}
use Rattle.btr_log.proofs.OnlyReading.{no-calls, OnlyReads-trans, same-bytes}
use Rattle.btr_super.specs.declared.superblock.Super.{Super}
use Rattle.btr_super.specs.Super.{has_seal}
use Rattle.btr_super.specs.Choose.{IsChosen}
use Rattle.btr_super.proofs.ChoiceLemmas.{one_chosen}
use Rattle.btr_shelf.specs.DeviceBlocks.{DeviceBlocks, IsBlockPage}
use Rattle.btr_hist.specs.declared.entry.Entry.{Entry}
use Rattle.btr_words.specs.declared.command.Command.{Command}
use Rattle.btr_words.specs.declared.command.Command.TheVariants.{Ask}
use Rattle.btr_text.specs.declared.script.ScriptLine.{ScriptLine}
use Rattle.btr_text.specs.declared.reply.LineReply.{LineReply}
use Rattle.btr_open.specs.declared.sealed.SealedFault.{SealedFault}
use Rattle.btr_open.specs.declared.sealed.SealedFault.TheVariants as openings
use Rattle.btr_open.specs.Shelf.{ShelfValue}
use Rattle.btr_open.specs.Sealed.{HoldsSealed, IsHarmlessCause, IsOpenedShelf, SealedCause, blocks_on}
use Rattle.btr_store.specs.declared.transcript.Transcript.{Transcript}
use Rattle.btr_top.specs.declared.ending.Ending.{Ending}
use Rattle.btr_top.specs.declared.ending.Ending.TheVariants.{OutOfMemory, NoDevice, Unsealed, Replied}
use Rattle.btr_top.specs.Command.{IsKept}
use Rattle.btr_top.specs.Cold.{PagesIn, RepliesCold, EachReplies, IsAnswerOrFailure, IsAnswerOrDamage, AnswersCold, IsKeptCold, ColdCause, HasRepliedCold, EndsShelf, ending_of_fault, pages_on}
use Rattle.btr_top.specs.Run.{KeepsDevice}
use Rattle.btr_top.proofs.ColdReplies.{EachReplies-along, EachReplies-earlier, reply_told, reply_found}

module _ {D : Type 0} (disk : Ghosts D) where
  -- A device that was only read is kept.
  read_kept : (old new : D) → OnlyReads disk old new → IsKept disk old new
  read_kept old new reads reported = record { same = (reads.nothing reported).same; moments = (reads.nothing reported).moments }

  -- A device that was not called is kept. `only_now` is its law.
  pub uncalled_kept : (d : D) → (disk.is_observable → (c : Image) → disk.images_since d (disk.calls d) c → disk.images_now d c) → IsKeptCold disk d d
  uncalled_kept d only_now = ∣ read_kept d d (no-calls d only_now) ∣₁

  pub uncalled_keeps : (command : Option Command) (d : D) → (disk.is_observable → (c : Image) → disk.images_since d (disk.calls d) c → disk.images_now d c) → KeepsDevice disk command d d
  uncalled_keeps (Some (Ask true)) d only_now = uncalled_kept d only_now
  uncalled_keeps command d only_now = read_kept d d (no-calls d only_now)

  abbrev blocks_of : Image → ℕ → DeviceBlocks
  blocks_of i n = record { image = i; size = n }

  -- It has the same pages.
  same_pages : (old new : D) → OnlyReads disk old new → pages_on disk new ≡ pages_on disk old
  same_pages old new reads =
      fun_ext (λ o. ap (λ (d : DeviceBlocks). IsBlockPage d) (ap₂ blocks_of (sym (same-bytes old new reads o)) reads.counts.same_size))

  -- What a source of nodes says of its device, which it was made of, is so of the device.
  pub nodes_read : (old start new : D) → start ≡ old → KeepsCounts disk.size disk.calls disk.faults start new → ∥ (disk.is_observable → WroteNothing disk.calls disk.contents disk.images_now disk.images_since start new) ∥₁ → ∥ OnlyReads disk old new ∥₁
  nodes_read old start new is counts nothing =
      subst (λ (d : D). ∥ OnlyReads disk d new ∥₁) is
      (∥∥₁_map nothing (λ (wrote : disk.is_observable → WroteNothing disk.calls disk.contents disk.images_now disk.images_since start new). record { counts = counts; nothing = wrote }))

  pub nodes_replied : (shelf : ShelfValue) (lines : List ScriptLine) (transcript : Transcript) (old start first last new : D) → start ≡ old → first ≡ old → new ≡ last → HasRepliedCold (RepliesCold disk.is_observable (pages_on disk start) shelf) (disk.faults first) (disk.faults last) lines transcript → HasRepliedCold (RepliesCold disk.is_observable (pages_on disk old) shelf) (disk.faults old) (disk.faults new) lines transcript
  nodes_replied shelf lines transcript old start first last new start_is first_is new_is has =
      let Has : D → D → D → Type 0 = λ s f l. HasRepliedCold (RepliesCold disk.is_observable (pages_on disk s) shelf) (disk.faults f) (disk.faults l) lines transcript in
      subst (λ (d : D). Has old old d) (sym new_is) (subst (λ (d : D). Has old d last) first_is (subst (λ (d : D). Has d first last) start_is has))

  -- Memory ran out before the device was called.
  pub unread_cause : (lines : List ScriptLine) (old new : D) (e : Ending) → IsKeptCold disk old new → e ≡ OutOfMemory → ColdCause disk lines old new e
  unread_cause lines old new e kept lacks =
      record { kept = kept; unsealed = λ reported s chosen open_. inr (inr lacks); why = inr (inl lacks) }

  module _ (lines : List ScriptLine) (old mid new : D) (opening : OnlyReads disk old mid) (asking : ∥ OnlyReads disk mid new ∥₁) (shelf : ShelfValue) (opened : IsOpenedShelf disk old shelf) where
    answers_cold : (replies : List LineReply) → EachReplies (RepliesCold disk.is_observable (pages_on disk mid) shelf) (disk.faults mid) (disk.faults new) lines replies → AnswersCold disk lines old new shelf replies
    answers_cold replies from_mid =
        let O = disk.is_observable in
        let low = disk.faults old in
        let high = disk.faults new in
        let each : EachReplies (RepliesCold O (pages_on disk old) shelf) low high lines replies =
        EachReplies-earlier (RepliesCold O (pages_on disk old) shelf) low (disk.faults mid) high opening.counts.more_faults lines replies
        (subst (λ (has : PagesIn O). EachReplies (RepliesCold O has shelf) (disk.faults mid) high lines replies) (same_pages old mid opening) from_mid) in
        record {
          opened = opened;
          each = each;
          stood = λ o h holds.
              EachReplies-along (RepliesCold O (pages_on disk old) shelf) (IsAnswerOrFailure h) (λ line from next reply replied. reply_told O (pages_on disk old) shelf o h line from next reply (opened.of o h holds) replied) low high lines replies each;
          lost = λ o was h holds gone.
              EachReplies-along (RepliesCold O (pages_on disk old) shelf) (IsAnswerOrDamage h) (λ line from next reply replied. reply_found O (pages_on disk old) shelf o h line from next reply (opened.may o was h holds gone) replied) low high lines replies each;
        }

    -- The lines were answered from the shelf.
    pub shelf_cause : (e : Ending) → EndsShelf disk lines mid new shelf e → ColdCause disk lines old new e
    shelf_cause e ends = record {
      kept = ∥∥₁_map asking (λ (reads : OnlyReads disk mid new). read_kept old new (OnlyReads-trans old mid new opening reads));
      unsealed = λ reported s chosen unsealed.
          let its = opened.sealed reported in
          let same = one_chosen (disk.size old) (disk.contents old) s its.0 chosen its.1 in
          absurd (false≢true (sym unsealed ∙ ap has_seal same ∙ its.2));
      why =
          ⊎_elim
          (λ (replied : (transcript : Transcript) × (e ≡ Replied transcript) × HasRepliedCold (RepliesCold disk.is_observable (pages_on disk mid) shelf) (disk.faults mid) (disk.faults new) lines transcript).
          let has = replied.2 in
          inl (replied.0, replied.1, record { shelf = shelf; replies = has.replies; answers = answers_cold has.replies has.each; is_transcript = has.is_transcript }))
          (λ lacks. inr (inl lacks))
          ends;
    }

  -- The device was not opened.
  same_fault : {A : Type 0} (a b : SealedFault) (result : Result A SealedFault) → result ≡ Err a → result ≡ Err b → a ≡ b
  same_fault a b result is other = cc

  pub unopened_cause : {A : Type 0} (lines : List ScriptLine) (old new : D) → OnlyReads disk old new → (result : Result A SealedFault) (fault : SealedFault) → result ≡ Err fault → SealedCause disk old new fault → (disk.is_observable → (h : List Entry) → HoldsSealed (disk.size old) (disk.contents old) h → IsHarmlessCause fault) → (disk.is_observable → (s : Super) → IsChosen (disk.size old) (disk.contents old) s → has_seal s ≡ false → (result ≡ Err openings.Unsealed) ⊎ (result ≡ Err openings.Fault)) → (e : Ending) → e ≡ ending_of_fault fault → ColdCause disk lines old new e
  unopened_cause lines old new reads result fault is cause stood unsealed e ends = record {
    kept = ∣ read_kept old new reads ∣₁;
    unsealed = λ reported s chosen none.
        ⊎_elim
        (λ un. inl (ends ∙ ap ending_of_fault (same_fault fault openings.Unsealed result is un)))
        (λ failed. inr (inl (ends ∙ ap ending_of_fault (same_fault fault openings.Fault result is failed))))
        (unsealed reported s chosen none);
    why = inr (inr (record { fault = fault; ends = ends; cause = cause; stood = stood }));
  }
