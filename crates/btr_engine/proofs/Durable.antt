-- What is durable after a step.
use Rattle.std.specs.Prelude.{◌≡◌, ◌⊎◌, ℕ, ◌≤◌, true, List, [], ◌∷◌, ◌++◌, length, take, IsFalse}
use Rattle.std.proofs.Common.{refl, sym, ◌∙◌, subst, inl, inr, ⊎_elim, arith, length-append}
use Rattle.std.proofs.lemmas.Bool.{cases_lt}
use Rattle.std.proofs.lemmas.List.{append-nil, take_all, take-append-le}
use Rattle.btr_disk.specs.declared.disk.Disk.{Ghosts}
use Rattle.btr_disk.specs.Bytes.{Image}
use Rattle.btr_disk.proofs.MomentLemmas.{left_now}
use Rattle.btr_log.specs.Log as log
use Rattle.btr_hist.specs.declared.entry.Entry.{Entry}
use Rattle.btr_engine.specs.declared.engine.Engine.{Engine}
use Rattle.btr_engine.specs.Holds.{HoldsHistory}
use Rattle.btr_streams.specs.Board.{IsBoardOf}
use Rattle.btr_engine.specs.Engine.{log_of, device, board_of, is_stopped, entries_at_open, synced_of, IsAtRest, IsDurable, EngineLeaves, KeepsOpening}
use Rattle.btr_engine.specs.Step.{IsBeforeOrAfter}
use Rattle.btr_engine.proofs.EngineLemmas.{holds_in}

-- ---- prefixes of a history

-- A prefix of a history, the history, and the history with one entry more are prefixes of the last of the three.
prefixes : (held : List Entry → Type 0) (h : List Entry) (e : Entry) (least : ℕ) → least ≤ length h → ((n : ℕ) × (least ≤ n) × held (take n h)) ⊎ (held h ⊎ held (h ++ e ∷ [])) → (n : ℕ) × (least ≤ n) × held (take n (h ++ e ∷ []))
prefixes held h e least low found =
    let whole : take (length h) (h ++ e ∷ []) ≡ h = take-append-le (length h) h (e ∷ []) (omega arith) ∙ take_all (length h) h (omega arith) in
    let more = h ++ e ∷ [] in
    let before : held h → (n : ℕ) × (least ≤ n) × held (take n more) = λ st. (length h, low, subst held (sym whole) st) in
    let after : held more → (n : ℕ) × (least ≤ n) × held (take n more) = λ st. (length more, omega (arith, low, length-append h (e ∷ [])), subst held (sym (take_all (length more) more (omega arith))) st) in
    ⊎_elim
    (λ prefix. ⊎_elim
    (λ past. before (subst held (take_all prefix.0 h (omega arith)) prefix.2))
    (λ inside. (prefix.0, prefix.1, subst held (sym (take-append-le prefix.0 h (e ∷ []) (omega arith))) prefix.2))
    (cases_lt (length h) prefix.0))
    (λ now. ⊎_elim before after now)
    found

module _ {D : Type 0} {disk : Ghosts D} where
  -- ---- after a step of an engine that was not stopped

  -- The log keeps its bounds, and the opening is the same.
  pub opening_kept : (old new : Engine D disk) → log.KeepsBounds (log_of old) (log_of new) → entries_at_open new ≡ entries_at_open old → synced_of new ≡ synced_of old → KeepsOpening old new
  opening_kept old new kept entries synced =
      record { blocks = kept.blocks; entries = entries; synced = synced; device_kept = kept.device_kept }

  module _ (h : List Entry) (old : Engine D disk) (e : Entry) where
    -- At each moment of the step the device holds the history, or the history with the entry.
    abbrev pub LeavesEither : Engine D disk → Type 0
    LeavesEither new = EngineLeaves old new (IsBeforeOrAfter (disk.size (device old)) h e)

    module _ (calls entries : ℕ) (new : Engine D disk) (kept : KeepsOpening old new) (leaves : LeavesEither new) (so_far : IsDurable h calls entries old []) where
      since_step : (c : Image) → disk.images_since (device new) calls c → (n : ℕ) × (entries ≤ n) × HoldsHistory (disk.size (device new)) c (take n (h ++ e ∷ []))
      since_step c left =
          let size = disk.size (device old) in
          let earlier = leaves.before calls c so_far.past left in
          let found = prefixes (HoldsHistory size c) h e entries so_far.longer (⊎_elim
          (λ past. let s = so_far.since c past in inl (s.0, s.1, subst (λ l. HoldsHistory size c (take s.0 l)) (append-nil h) s.2))
          (λ now. inr now)
          earlier) in
          (found.0, found.1, subst (λ n. HoldsHistory n c (take found.0 (h ++ e ∷ []))) (sym kept.device_kept.same_size) found.2)

      -- The entry was accepted.
      durable_with : IsAtRest (h ++ e ∷ []) new → IsDurable (h ++ e ∷ []) calls entries new []
      durable_with rest = record {
        of = rest.of;
        past = omega (arith, so_far.past, leaves.later);
        longer = omega (arith, so_far.longer, length-append h (e ∷ []));
        one = omega arith;
        runs = λ _. refl;
        since = λ c left. let s = since_step c left in (s.0, s.1, subst (λ l. HoldsHistory (disk.size (device new)) c (take s.0 l)) (sym (append-nil (h ++ e ∷ []))) s.2);
        now = λ c left. inl (holds_in (h ++ e ∷ []) new rest c (rest.only.each c left));
      }

      -- The device failed.
      durable_without : board_of new ≡ board_of old → is_stopped new ≡ true → ((t : ℕ) (c : Image) → t ≤ disk.calls (device new) → disk.images_now (device new) c → disk.images_since (device new) t c) → IsDurable h calls entries new (e ∷ [])
      durable_without same stopped counts_now =
          let size = disk.size (device new) in
          let either = IsBeforeOrAfter (disk.size (device old)) h e in
          record {
            of = subst (IsBoardOf h) (sym same) so_far.of;
            past = omega (arith, so_far.past, leaves.later);
            longer = so_far.longer;
            one = omega arith;
            runs = λ runs. absurd (cc);
            since = since_step;
            now = λ c left.
                let now = left_now disk.calls disk.images_since (device old) (device new) either (disk.images_now (device new)) counts_now leaves c left in
                subst (λ n. IsBeforeOrAfter n h e c) (sym kept.device_kept.same_size) now;
          }

    pub durable_taken : (calls entries : ℕ) (new : Engine D disk) (more : List Entry) → IsFalse (is_stopped old) → KeepsOpening old new → IsAtRest (h ++ e ∷ []) new → LeavesEither new → IsDurable h calls entries old more → IsDurable (h ++ e ∷ []) calls entries new more
    durable_taken calls entries new more runs kept rest leaves so_far =
        let none : more ≡ [] = so_far.runs runs in
        subst (IsDurable (h ++ e ∷ []) calls entries new) (sym none) (durable_with calls entries new kept leaves (subst (IsDurable h calls entries old) none so_far) rest)

    -- The device failed.
    pub durable_failed : (calls entries : ℕ) (new : Engine D disk) (more : List Entry) → IsFalse (is_stopped old) → KeepsOpening old new → board_of new ≡ board_of old → is_stopped new ≡ true → ((t : ℕ) (c : Image) → t ≤ disk.calls (device new) → disk.images_now (device new) c → disk.images_since (device new) t c) → LeavesEither new → IsDurable h calls entries old more → IsDurable h calls entries new (e ∷ [])
    durable_failed calls entries new more runs kept same stopped counts_now leaves so_far =
        durable_without calls entries new kept leaves (subst (IsDurable h calls entries old) (so_far.runs runs) so_far) same stopped counts_now
