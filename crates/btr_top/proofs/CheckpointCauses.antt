-- Why `checkpoint` or `seal` ends so: from what the opening says of the engine, and what the checkpoint of the engine says of its answer.
use Rattle.std.specs.Prelude.{◌≡◌, ◌⊎◌, ℕ, ◌+◌, ◌≤◌, Bool, true, false, List, length, Result, Err}
use Rattle.std.proofs.Common.{refl, sym, ◌∙◌, ap, subst, inl, inr, arith}
use Rattle.btr_disk.specs.declared.disk.Disk.{Ghosts}
use Rattle.btr_disk.specs.Bytes.{Image}
use Rattle.btr_disk.specs.Causes.{Rose}
use Rattle.btr_disk.specs.Moments.{Leaves}
use Rattle.btr_disk.proofs.ByteLemmas.{Same-is}
use Rattle.btr_disk.proofs.MomentLemmas.{composes, weakens, left_now}
use Rattle.btr_log.specs.Extents.{left}
use Rattle.btr_log.specs.Head.{content_blocks}
use Rattle.btr_super.specs.Super.{has_seal}
use Rattle.btr_hist.specs.declared.entry.Entry.{Entry}
use Rattle.btr_roll.specs.Roll.{RollStreamValue, roll_bytes}
use Rattle.btr_engine.specs.declared.engine.Engine.{Engine}
use Rattle.btr_engine.specs.declared.step.StepFault.{StepFault}
use Rattle.btr_engine.specs.declared.step.StepFault.TheVariants as faults
use Rattle.btr_engine.specs.Holds.{HoldsHistory, HoldsHistoryTo}
use Rattle.btr_engine.specs.Engine.{device, super_of, board_of, is_sealed, is_stopped, tail_of, blocks_of, room_of, IsAtRest, EngineLeaves, KeepsOpening}
use Rattle.btr_engine.specs.Mark as mark
use Rattle.btr_engine.specs.Mark.{need_of_board, IsNamed, IsCheckpointed}
use Rattle.btr_streams.proofs.RollingLemmas.{rolled-is}
use Rattle.btr_streams.proofs.StreamsLemmas.{has-streams}
use Rattle.btr_open.specs.Opening.{IsOpenedEngine}
use Rattle.btr_top.specs.declared.checkpoint.CheckpointKind.{CheckpointKind}
use Rattle.btr_top.specs.declared.ending.Ending.{Ending}
use Rattle.btr_top.specs.declared.ending.Ending.TheVariants.{Usage, NoSource, TooLong, OutOfMemory, NoDevice, NoStore, Damaged, Occupied, TooSmall, Formatted, Checkpointed, Sealed, Unsealed, Stands, Full, Shipped, CutShort, NoSink, Replied}
use Rattle.btr_top.specs.Command.{IsKept, OpeningCause}
use Rattle.btr_top.specs.Checkpoint.{checkpoint_format, need_of_checkpoint, Lasts, AddsCheckpoint, CheckpointEnds}
use Rattle.btr_top.proofs.OneStore.{AreOne, one_store, one_super}

-- A fault after others is one since then.
rose_since : (old mid new : ℕ) → old ≤ mid → Rose mid new → Rose old new
rose_since old mid new later rose = omega (arith, later, rose)

module _ {D : Type 0} (disk : Ghosts D) where
  -- The law of the device: an image now is one since any call number up to now.
  abbrev pub CountsNow : Type 0
  CountsNow =
      disk.is_observable → (d : D) (t : ℕ) (c : Image) → t ≤ disk.calls d → disk.images_now d c → disk.images_since d t c

  -- What a crash leaves of a history that lasts from the device `old` on.
  abbrev pub LeftSince : List Entry → D → Image → Type 0
  LeftSince h old c = disk.images_now old c ⊎ HoldsHistory (disk.size old) c h

  module _ (kind : CheckpointKind) (old new : D) where
    -- The store was not opened.
    pub refused_cause : (e : Ending) → OpeningCause disk old new e → IsKept disk old new → CheckpointEnds disk kind old new e
    refused_cause Usage why kept = absurd why
    refused_cause NoSource why kept = absurd why
    refused_cause TooLong why kept = absurd why
    refused_cause OutOfMemory why kept = kept
    refused_cause NoDevice why kept = (why, inl kept)
    refused_cause NoStore why kept = (why, kept)
    refused_cause (Damaged block) why kept = (why, kept)
    refused_cause Occupied why kept = absurd why
    refused_cause (TooSmall asked has) why kept = absurd why
    refused_cause (Formatted made) why kept = absurd why
    refused_cause (Checkpointed done entries) why kept = absurd why
    refused_cause Sealed why kept = absurd why
    refused_cause Unsealed why kept = absurd why
    refused_cause NoSink why kept = absurd why
    refused_cause (Stands entries) why kept = absurd why
    refused_cause (Full need room) why kept = absurd why
    refused_cause (Shipped frames) why kept = absurd why
    refused_cause (CutShort cut) why kept = absurd why
    refused_cause (Replied transcript) why kept = absurd why

-- What is marked on an engine that runs is not sealed, unless the answer is that it is.
unsealed_unless : {D : Type 0} {disk : Ghosts D} (engine new : Engine D disk) (format : ℕ) (result : Result ℕ StepFault) → is_stopped engine ≡ false → mark.Marks format engine new result → (result ≡ Err faults.Sealed → ⊥) → is_sealed engine ≡ false
unsealed_unless engine new format result runs did other = go (is_sealed engine) refl
  where
    go : (b : Bool) → is_sealed engine ≡ b → is_sealed engine ≡ false
    go false is = is
    go true is = absurd (other (did.sealed runs is).returned)

module _ {D : Type 0} (disk : Ghosts D) (kind : CheckpointKind) (counts_now : CountsNow disk) (old : D) (engine : Engine D disk) (opened : IsOpenedEngine disk old engine) where
  -- A crash at any moment of the checkpoint leaves the history.
  abbrev pub LeavesHistory : Engine D disk → Type 0
  LeavesHistory new =
      disk.is_observable → (h : List Entry) → IsAtRest h engine → EngineLeaves engine new (λ c. HoldsHistory (disk.size (device engine)) c h)

  module _ (reported : disk.is_observable) (h : List Entry) (blocks tail : ℕ) (holds : HoldsHistoryTo (disk.size old) (disk.contents old) blocks tail h) where
    rests : IsAtRest h engine
    rests = (opened.stood reported h (record { blocks = blocks; tail = tail; holds = holds })).at_rest

    -- The device of the engine holds the same store.
    same_store : AreOne blocks tail h holds.leads.roots (blocks_of engine) (tail_of engine) h rests.holds.leads.roots
    same_store =
        one_store (disk.size old) (disk.contents old) blocks tail h holds (disk.size (device engine)) (disk.contents (device engine)) (sym opened.kept.counts.same_size)
        (sym (Same-is (disk.contents old) (disk.contents (device engine)) (opened.kept.unwritten reported).same)) (blocks_of engine) (tail_of engine) h rests.holds

    -- The engine has the superblock of the store.
    same_super : holds.super ≡ super_of engine
    same_super =
        one_super (disk.size old) (disk.contents old) blocks tail h holds (disk.size (device engine)) (disk.contents (device engine)) (sym opened.kept.counts.same_size)
        (sym (Same-is (disk.contents old) (disk.contents (device engine)) (opened.kept.unwritten reported).same)) (blocks_of engine) (tail_of engine) h rests.holds
        ∙ rests.under

    abbrev format : ℕ
    format = checkpoint_format kind (super_of engine)

    format_is : checkpoint_format kind holds.super ≡ format
    format_is = ap (checkpoint_format kind) same_super

    sealed_is : has_seal holds.super ≡ is_sealed engine
    sealed_is = ap has_seal same_super

    need_is : need_of_board format (board_of engine) ≡ need_of_checkpoint (checkpoint_format kind holds.super) h holds.leads.roots
    need_is =
        ap (λ (roll : List RollStreamValue). content_blocks (length (roll_bytes format roll)) + 1) (rolled-is h rests.holds.leads.roots (board_of engine) (has-streams h (board_of engine) rests.of) rests.roots)
        ∙ ap (λ (roots : List ℕ). need_of_checkpoint format h roots) (sym same_store.same_roots)
        ∙ ap (λ (f : ℕ). need_of_checkpoint f h holds.leads.roots) (sym format_is)

    room_is : room_of engine ≡ left blocks tail
    room_is =
        ap (λ (b : ℕ). left b (tail_of engine)) (sym same_store.same_blocks) ∙ ap (λ (t : ℕ). left blocks t) (sym same_store.same_tail)

    -- The history lasts through the opening and the checkpoint.
    lasts_through : (new : Engine D disk) → LeavesHistory new → Lasts disk h old (device new)
    lasts_through new leaves =
        let calls : D → ℕ = disk.calls in
        let images : D → ℕ → Image → Type 0 = disk.images_since in
        let start : D = device engine in
        let end : D = device new in
        let Held : Image → Type 0 = λ c. HoldsHistory (disk.size old) c h in
        let sized : disk.size start ≡ disk.size old = opened.kept.counts.same_size in
        let unwritten = opened.kept.unwritten reported in
        let each : Leaves calls images start end Held =
        weakens calls images start end (λ c. HoldsHistory (disk.size start) c h) Held (λ c held. subst (λ (n : ℕ). HoldsHistory n c h) sized held) (leaves reported h rests) in
        record {
          opened = start;
          opening = unwritten;
          since = each;
          moments = composes calls images old start end (LeftSince disk h old)
              (weakens calls images old start (disk.images_now old) (LeftSince disk h old) (λ c left. inl left) unwritten.moments)
              (weakens calls images start end Held (LeftSince disk h old) (λ c held. inr held) each);
          now = left_now calls images start end Held (disk.images_now end) (counts_now reported end) each;
        }

    abbrev needed : ℕ
    needed = need_of_checkpoint (checkpoint_format kind holds.super) h holds.leads.roots

    adds : (new : Engine D disk) (entries : ℕ) → IsCheckpointed format engine new entries → KeepsOpening engine new → IsAtRest h new → ((c : Image) → disk.images_now (device new) c → IsNamed (disk.size (device new)) c (blocks_of new) (tail_of new) h format) → LeavesHistory new → AddsCheckpoint disk kind entries old (device new) h holds.super needed blocks tail
    adds new entries is kept after named leaves =
        let tails : tail_of new ≡ tail + needed =
        is.tail ∙ ap (λ (t : ℕ). t + need_of_board format (board_of engine)) (sym same_store.same_tail) ∙ ap (λ (n : ℕ). tail + n) need_is in
        record {
          counted = is.entries ∙ rests.of.entries;
          unsealed = sealed_is ∙ is.unsealed;
          fits = subst (λ (n : ℕ). n ≤ left blocks tail) need_is (subst (λ (r : ℕ). need_of_board format (board_of engine) ≤ r) room_is is.fits);
          lasts = lasts_through new leaves;
          safely = record { holds = record { blocks = blocks_of new; tail = tail_of new; holds = after.holds }; only = after.only };
          named = λ c now.
              subst (λ (f : ℕ). IsNamed (disk.size (device new)) c blocks (tail + needed) h f) (sym format_is)
              (subst (λ (b : ℕ). IsNamed (disk.size (device new)) c b (tail + needed) h format) (kept.blocks ∙ sym same_store.same_blocks)
              (subst (λ (t : ℕ). IsNamed (disk.size (device new)) c (blocks_of new) t h format) tails (named c now)));
        }

  abbrev its_format : ℕ
  its_format = checkpoint_format kind (super_of engine)

  -- The checkpoint was added.
  pub added_cause : (new : Engine D disk) (end : D) (entries : ℕ) → end ≡ device new → IsCheckpointed its_format engine new entries → KeepsOpening engine new → (disk.is_observable → (h : List Entry) → IsAtRest h engine → IsAtRest h new) → (disk.is_observable → (h : List Entry) → IsAtRest h engine → (c : Image) → disk.images_now (device new) c → IsNamed (disk.size (device new)) c (blocks_of new) (tail_of new) h its_format) → LeavesHistory new → CheckpointEnds disk kind old end (Checkpointed kind entries)
  added_cause new end entries same is kept after named leaves =
      subst (λ (d : D). CheckpointEnds disk kind old d (Checkpointed kind entries)) (sym same) (
        refl,
        opened.sound,
        λ reported h blocks tail holds.
            let before = rests reported h blocks tail holds in
            adds reported h blocks tail holds new entries is kept (after reported h before) (named reported h before) leaves,
      )

  -- The engine is as the opening left it.
  unchanged : (new : Engine D disk) (end : D) → end ≡ device new → new ≡ engine → IsKept disk old end
  unchanged new end same as_before =
      subst (λ (d : D). IsKept disk old d) (sym (same ∙ ap (λ (e : Engine D disk). device e) as_before)) opened.kept.unwritten

  -- The store is sealed.
  pub sealed_cause : (new : Engine D disk) (end : D) → end ≡ device new → mark.CheckpointCause its_format engine new faults.Sealed → CheckpointEnds disk kind old end Sealed
  sealed_cause new end same why =
      (opened.sound, unchanged new end same why.2, λ reported h blocks tail holds. sealed_is reported h blocks tail holds ∙ why.1)

  -- There was no memory for it.
  pub want_cause : (new : Engine D disk) (end : D) → end ≡ device new → mark.CheckpointCause its_format engine new faults.Want → CheckpointEnds disk kind old end OutOfMemory
  want_cause new end same why = unchanged new end same why.1

  -- There was no room for it.
  pub full_cause : (new : Engine D disk) (end : D) (need room : ℕ) → end ≡ device new → mark.Marks its_format engine new (Err (faults.DeviceFull need room)) → CheckpointEnds disk kind old end (Full need room)
  full_cause new end need room same did =
      let why = did.cause in
      let unsealed = unsealed_unless engine new its_format (Err (faults.DeviceFull need room)) why.0 did (λ other. absurd (cc)) in (
        opened.sound,
        why.3,
        unchanged new end same why.4,
        λ reported h blocks tail holds. (
          sealed_is reported h blocks tail holds ∙ unsealed,
          why.1 ∙ need_is reported h blocks tail holds,
          why.2 ∙ room_is reported h blocks tail holds,
        ),
      )

  -- The device failed.
  pub fault_cause : (new : Engine D disk) (end : D) → end ≡ device new → mark.Marks its_format engine new (Err faults.DeviceFault) → CheckpointEnds disk kind old end NoDevice
  fault_cause new end same did =
      let why = did.cause in
      let unsealed = unsealed_unless engine new its_format (Err faults.DeviceFault) why.0 did (λ other. absurd (cc)) in
      subst (λ (d : D). CheckpointEnds disk kind old d NoDevice) (sym same) (
        rose_since (disk.faults old) (disk.faults (device engine)) (disk.faults (device new)) opened.kept.counts.more_faults why.2.rose,
        inr (record {
          sound = opened.sound;
          lasts = λ reported h blocks tail holds.
              (sealed_is reported h blocks tail holds ∙ unsealed, lasts_through reported h blocks tail holds new did.moments);
        }),
      )
