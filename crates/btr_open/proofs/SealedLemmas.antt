-- Lemmas on the opening of a sealed store: what was read at the gate that its superblock names.
use Rattle.std.specs.Prelude.{ℕ, Result, IfOk, IfErr}
use Rattle.std.proofs.Common.{refl}
use Rattle.btr_disk.specs.declared.disk.Disk.{Ghosts}
use Rattle.btr_disk.specs.Bytes.{Image}
use Rattle.btr_log.specs.declared.found.Found.{Found}
use Rattle.btr_log.specs.declared.found.Found.TheVariants.{Closed, Extent}
use Rattle.btr_log.specs.Found.{MatchesDevice}
use Rattle.btr_super.specs.declared.superblock.Super.{Super}
use Rattle.btr_open.specs.declared.opening.OpenCause.{OpenCause}
use Rattle.btr_open.specs.declared.opening.OpenCause.TheVariants.{NotAStore, Damaged, Fault, Want}
use Rattle.btr_open.specs.Start.{IsWrongStart}
use Rattle.btr_open.specs.Reads.{PartCause}
use Rattle.btr_open.specs.Shelf.{ShelfValue}
use Rattle.btr_open.specs.Sealed.{IsShelfRead, IsShelfIn, IsWrongIn}
use Rattle.btr_open.proofs.ShelfLemmas.{ok-along, err-along}

module _ (O : Type 0) (image : Image) (found : Super) (there : Found) (matches : O → MatchesDevice image found.checkpoint there) where
  -- The shelf of what was found is that of the checkpoint.
  pub shelf-read : (r : Result ShelfValue OpenCause) → IfOk r (IsShelfIn found there) → IfOk r (IsShelfRead O image found)
  shelf-read r is = ok-along (IsShelfIn found there) (IsShelfRead O image found) (each there matches) r is
    where
      each : (t : Found) → (O → MatchesDevice image found.checkpoint t) → (shelf : ShelfValue) → IsShelfIn found t shelf → IsShelfRead O image found shelf
      each Closed has shelf is = absurd is
      each (Extent head body next) has shelf is = record {
        format = is.has.format;
        read = record { body = body.items; has = is.has; same_format = refl; after = is.after; under = is.under; extent = λ o. is.extent image (has o) };
      }

module _ {D : Type 0} (disk : Ghosts D) (found : Super) (old new : D) (there : Found) (matches : disk.is_observable → MatchesDevice (disk.contents old) found.checkpoint there) where
  -- Why what was found is no shelf is why the checkpoint was not read.
  pub shelf-wrong : (r : Result ShelfValue OpenCause) → IfErr r (IsWrongIn found there) → IfErr r (PartCause disk (IsWrongStart (disk.contents old) found) old new)
  shelf-wrong r is = err-along (IsWrongIn found there) (PartCause disk (IsWrongStart (disk.contents old) found) old new) (each there matches) r is
    where
      each : (t : Found) → (disk.is_observable → MatchesDevice (disk.contents old) found.checkpoint t) → (why : OpenCause) → IsWrongIn found t why → PartCause disk (IsWrongStart (disk.contents old) found) old new why
      each Closed has NotAStore is = absurd is
      each Closed has (Damaged block) is = λ reported. is (disk.contents old) (has reported)
      each Closed has Fault is = absurd is
      each Closed has Want is = tt
      each (Extent head body next) has NotAStore is = absurd is
      each (Extent head body next) has (Damaged block) is = λ reported. is (disk.contents old) (has reported)
      each (Extent head body next) has Fault is = absurd is
      each (Extent head body next) has Want is = tt

-- What breaks the format in one way breaks it in one way or another.
pub part-along : {D : Type 0} (disk : Ghosts D) (P Q : ℕ → Type 0) → ((block : ℕ) → P block → Q block) → (old new : D) (why : OpenCause) → PartCause disk P old new why → PartCause disk Q old new why
part-along disk P Q on old new NotAStore is = absurd is
part-along disk P Q on old new (Damaged block) is = λ reported. on block (is reported)
part-along disk P Q on old new Fault is = is
part-along disk P Q on old new Want is = tt
