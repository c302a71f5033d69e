-- Lemmas on the extent of the checkpoint that a superblock names, and why there is none.
use Rattle.std.specs.Prelude.{◌≡◌, ◌⊎◌, ℕ, ◌+◌, ◌*◌, ◌<◌, List, Option, None}
use Rattle.std.proofs.Common.{refl, sym, ◌∙◌, subst, arith, inl, inr}
use Rattle.btr_disk.specs.declared.disk.Disk.{Ghosts}
use Rattle.btr_disk.specs.Bytes.{Image, Has}
use Rattle.btr_disk.specs.Gate.{IsOpen, IsClosed}
use Rattle.btr_log.specs.declared.head.Head.{Head}
use Rattle.btr_log.specs.Extents.{need, IsExtent}
use Rattle.btr_log.specs.Found.{IsWholeExtent}
use Rattle.btr_log.specs.Piece.{PieceValue}
use Rattle.btr_log.specs.Ahead.{MatchesPiece}
use Rattle.btr_log.proofs.ExtentLemmas.{IsBody-blocks}
use Rattle.btr_super.specs.declared.superblock.Super.{Super}
use Rattle.btr_roll.specs.Roll.{RollStreamValue}
use Rattle.btr_engine.specs.Body.{MayStandUnder}
use Rattle.btr_open.specs.declared.opening.OpenCause.{OpenCause}
use Rattle.btr_open.specs.declared.opening.OpenCause.TheVariants.{NotAStore, Damaged, Fault, Want}
use Rattle.btr_open.specs.Start.{HasRoll, IsCheckpointExtent, IsNoCheckpoint, HasWrongVersionRoot, IsWrongStart}
use Rattle.btr_open.specs.Reading.{FirstCause}
use Rattle.btr_log.specs.Reads.{OnlyReads}
use Rattle.btr_open.specs.Checkpoint.{IsRollRead, StartCause}
use Rattle.btr_open.proofs.OpenCauses.{found-extent}
use Rattle.btr_log.proofs.OnlyReading.{same-bytes}

-- What is found is no extent, so the gate is closed.
pub closed-gate : (image : Image) (gate : ℕ) (p : PieceValue) (o : Option Head) → o ≡ None → MatchesPiece image gate p o → IsClosed image gate
closed-gate image gate p o is matches = subst (MatchesPiece image gate p) is matches

module _ (image : Image) (found : Super) (blocks : ℕ) (head : Head) (body : List ℕ) (next : ℕ) (whole : IsWholeExtent blocks found.checkpoint head body next) (matches : IsOpen image found.checkpoint × Has image (4096 * (found.checkpoint + 1)) body) where
  its-extent : IsExtent image found.checkpoint body head
  its-extent = (found-extent image blocks found.checkpoint head body next whole matches).0

  next-is : next ≡ found.checkpoint + need body
  next-is = omega (arith, whole.follows, IsBody-blocks body head whole.is_body)

  -- The extent is that of the checkpoint.
  pub named-extent : head.kind ≡ 2 → next ≡ found.tail → IsCheckpointExtent image found body
  named-extent kind tail = record { head = head; extent = its-extent; kind = kind; next = sym tail ∙ next-is }

  pub other-extent : (block : ℕ) → ((head.kind ≡ 2 → ⊥) ⊎ (next ≡ found.tail → ⊥)) → block ≡ 2 * found.side + 1 → IsNoCheckpoint image found block
  other-extent block why is = record {
    why = inr (body, head, its-extent, elim why [ inl kind ↦ inl kind | inr tail ↦ inr (λ same. tail (next-is ∙ sym same)) ]);
    of = is;
  }

module _ {D : Type 0} (disk : Ghosts D) (found : Super) (old new : D) (some : 0 < found.checkpoint) where
  -- The superblock names no checkpoint.
  pub no-checkpoint-cause : (cause : OpenCause) → cause ≡ Damaged (2 * found.side + 1) → (disk.is_observable → IsNoCheckpoint (disk.contents old) found (2 * found.side + 1)) → FirstCause disk found old new cause
  no-checkpoint-cause cause is none =
      subst (FirstCause disk found old new) (sym is) (λ reported. (some, inl (none reported)))

  -- The checkpoint has no streams.
  pub no-roll-damage : (body : List ℕ) → IsCheckpointExtent (disk.contents old) found body → (MayStandUnder found.format body → (entries : ℕ) (roll : List RollStreamValue) → HasRoll found.checkpoint entries roll body → ⊥) → IsWrongStart (disk.contents old) found (found.checkpoint + 1)
  no-roll-damage body extent none =
      (some, inr (inr (inl (record { body = body; extent = extent; none = none; first = refl }))))

module _ {D : Type 0} (disk : Ghosts D) (found : Super) (old mid new : D) (some : 0 < found.checkpoint) (reads : OnlyReads disk old mid) (entries format : ℕ) (roll : List RollStreamValue) (is : IsRollRead disk.is_observable (disk.contents old) found entries format roll) where
  -- The streams of the checkpoint were not loaded.
  pub load-cause : (cause : OpenCause) → StartCause disk found format roll mid new cause → FirstCause disk found old new cause
  load-cause NotAStore cause = absurd cause
  load-cause (Damaged block) cause =
      λ reported.
      let wrong = subst (λ n. HasWrongVersionRoot (disk.contents old) found n roll block) (sym is.same_format) (subst (λ i. HasWrongVersionRoot i found format roll block) (sym (same-bytes old mid reads reported)) (cause reported)) in
      (some, inr (inr (inr (record { body = is.body; extent = is.extent reported; entries = entries; roll = roll; under = is.under; has = is.has; wrong = wrong }))))
  load-cause Fault cause = let low = reads.counts.more_faults in omega (arith, cause, low)
  load-cause Want cause = tt
