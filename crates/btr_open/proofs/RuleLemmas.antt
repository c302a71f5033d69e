-- Lemmas on a rule that lets every entry follow: a log that breaks it breaks the format.
use Rattle.std.specs.Prelude.{ℕ, List}
use Rattle.std.proofs.Common.{arith, inl, inr}
use Rattle.btr_disk.specs.declared.disk.Disk.{Ghosts}
use Rattle.btr_disk.specs.Bytes.{Image}
use Rattle.btr_super.specs.declared.superblock.Super.{Super}
use Rattle.btr_hist.specs.declared.entry.Entry.{Entry}
use Rattle.btr_open.specs.declared.opening.OpenCause.{OpenCause}
use Rattle.btr_open.specs.Reached.{Reached}
use Rattle.btr_open.specs.Walk.{FitsRoll, BreaksBodyBy, BreaksBody, IsDamagedNextBy, IsDamagedNext}
use Rattle.btr_open.specs.Damage.{IsDamagedStore}
use Rattle.btr_open.specs.Seen.{EntryRule, Lets}
use Rattle.btr_open.specs.Reading.{IsDamagedStoreBy, StoreCause}
use Rattle.btr_open.specs.Reads.{PartCause}
use Rattle.btr_open.proofs.OpenCauses.{cause-along}
use Rattle.btr_open.proofs.WalkLemmas.{wrong-along}

module _ (May : EntryRule) (all : (before : List Entry) (e : Entry) (root : ℕ) → May before e root) where
  body-plain : (before : List Entry) (image : Image) (limit : ℕ) (log : Reached) (body : List ℕ) (block : ℕ) → BreaksBodyBy (Lets May log before) image limit log body block → BreaksBody image limit log body block
  body-plain before image limit log body block breaks = elim breaks [
    | inl none ↦ inl none
    | inr (inl w) ↦
        inr (inl (record {
          entry = w.entry;
          root = w.root;
          nodes = w.nodes;
          content = w.content;
          forbidden = λ fits. w.forbidden (fits, all before w.entry w.root);
          first = w.first;
        }))
    | inr (inr w) ↦
        inr (inr (wrong-along (Lets May log before) (λ e root. FitsRoll log.roll e) (λ e root lets. lets.0) image limit log body block w))
  ]

  next-plain : (before : List Entry) (image : Image) (s : Super) (log : Reached) (block : ℕ) → IsDamagedNextBy (Lets May log before) image s log block → IsDamagedNext image s log block
  next-plain before image s log block damage = elim damage [
    | inl gate ↦ inl gate
    | inr w ↦
        inr (record {
          unsealed = w.unsealed;
          head = w.head;
          body = w.body;
          extent = w.extent;
          inside = w.inside;
          breaks = elim w.breaks [
            | inl above ↦ inl above
            | inr breaks ↦ inr (breaks.0, body-plain before image s.checkpoint log w.body block breaks.1)
          ];
        })
  ]

  store-plain : (image : Image) (s : Super) (block : ℕ) → IsDamagedStoreBy May image s block → IsDamagedStore image s block
  store-plain image s block damage = elim damage [
    | inl wrong ↦ inl wrong
    | inr w ↦ inr (record { log = w.log; walk = w.walk; damage = next-plain w.seen.entries image s w.log block w.damage })
  ]

  -- Why a log was not read is why the store was not opened.
  pub cause-plain : {D : Type 0} (disk : Ghosts D) (found : Super) (old new : D) (cause : OpenCause) → PartCause disk (IsDamagedStoreBy May (disk.contents old) found) old new cause → StoreCause disk found old new cause
  cause-plain disk found old new cause is =
      cause-along disk (IsDamagedStoreBy May (disk.contents old) found) (IsDamagedStore (disk.contents old) found) old old new (omega arith) (λ reported block damage. store-plain (disk.contents old) found block damage) cause is
