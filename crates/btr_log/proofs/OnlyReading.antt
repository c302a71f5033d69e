-- Calls of a device that only read.
use Rattle.std.specs.Prelude.{◌≡◌}
use Rattle.std.proofs.Common.{refl, sym, ◌∙◌, arith}
use Rattle.btr_disk.specs.declared.disk.Disk.{Ghosts}
use Rattle.btr_disk.specs.Bytes.{Image}
use Rattle.btr_disk.proofs.ByteLemmas.{Same-is}
use Rattle.btr_disk.proofs.MomentLemmas.{none_written, nothing_composes}
use Rattle.btr_log.specs.Reads.{OnlyReads}

module _ {D : Type 0} {disk : Ghosts D} where
  -- No call. `only_now` is the device's law.
  pub no-calls : (d : D) → (disk.is_observable → (c : Image) → disk.images_since d (disk.calls d) c → disk.images_now d c) → OnlyReads disk d d
  no-calls d only_now = record {
    counts = record { same_size = refl; more_calls = omega arith; more_faults = omega arith };
    nothing = λ reported. none_written disk.calls disk.images_since disk.contents disk.images_now d (only_now reported);
  }

  -- Calls that only read, followed by others that only read.
  pub OnlyReads-trans : (old mid new : D) → OnlyReads disk old mid → OnlyReads disk mid new → OnlyReads disk old new
  OnlyReads-trans old mid new first second = record {
    counts = record {
      same_size = second.counts.same_size ∙ first.counts.same_size;
      more_calls = omega (arith, first.counts.more_calls, second.counts.more_calls);
      more_faults = omega (arith, first.counts.more_faults, second.counts.more_faults);
    };
    nothing = λ reported. nothing_composes disk.calls disk.images_since disk.contents disk.images_now old mid new (first.nothing reported) (second.nothing reported);
  }

  -- The device has the same bytes.
  pub same-bytes : (old new : D) → OnlyReads disk old new → disk.is_observable → disk.contents old ≡ disk.contents new
  same-bytes old new reads reported = sym (Same-is (disk.contents old) (disk.contents new) (reads.nothing reported).same)
