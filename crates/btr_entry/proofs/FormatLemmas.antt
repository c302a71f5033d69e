-- Lemmas on the formats of extents and specs: each is one that a superblock may have.
use Rattle.std.specs.Prelude.{◌≤◌, Bool, true, false, if◌then◌else◌}
use Rattle.std.specs.Option.{is_some}
use Rattle.std.proofs.Common.{arith}
use Rattle.btr_hist.specs.declared.entry.Entry.{Entry}
use Rattle.btr_hist.specs.declared.entry.Entry.TheVariants.{Create, Commit, Define, Distillate, Retire}
use Rattle.btr_hist.specs.declared.kernel.Spec.{Spec}
use Rattle.btr_hist.specs.Kernel.{window_kernel}
use Rattle.btr_entry.specs.Format.{spec_format, format_of}

-- One of these two formats is from 1 to 3.
either : (cells : Bool) → (1 ≤ (if cells then 3 else 1)) × ((if cells then 3 else 1) ≤ 3)
either true = (omega arith, omega arith)
either false = (omega arith, omega arith)

pub spec_format-bounds : (s : Spec) → (1 ≤ spec_format s) × (spec_format s ≤ 3)
unfolding spec_format
spec_format-bounds s = either (is_some (window_kernel s.kernel))

pub format-from : (e : Entry) → 1 ≤ format_of e
unfolding format_of
format-from (Create id) = omega arith
format-from (Commit stream cut added) = omega arith
format-from (Define id spec) = (spec_format-bounds spec).0
format-from (Distillate stream cut added reads) = omega arith
format-from (Retire stream first) = omega arith

pub format-to : (e : Entry) → format_of e ≤ 3
unfolding format_of
format-to (Create id) = omega arith
format-to (Commit stream cut added) = omega arith
format-to (Define id spec) = (spec_format-bounds spec).1
format-to (Distillate stream cut added reads) = omega arith
format-to (Retire stream first) = omega arith
