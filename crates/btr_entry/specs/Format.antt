-- The format of an entry's extent.
use Rattle.std.specs.Prelude.{ℕ, if◌then◌else◌}
use Rattle.std.specs.Option.{is_some}
use Rattle.btr_hist.specs.declared.entry.Entry.{Entry}
use Rattle.btr_hist.specs.declared.entry.Entry.TheVariants.{Create, Commit, Define, Distillate, Retire}
use Rattle.btr_hist.specs.declared.kernel.Spec.{Spec}
use Rattle.btr_hist.specs.Kernel.{window_kernel}

-- The format of the extent that defines an output with this spec: 3 if its kernel is one of aligned windows, else 1.
unfoldable pub spec_format : Spec → ℕ
spec_format spec = if is_some (window_kernel spec.kernel) then 3 else 1

-- The format of the extent of an entry. A store of a lower format has no such extent.
unfoldable pub format_of : Entry → ℕ
format_of (Create id) = 1
format_of (Commit stream cut added) = 1
format_of (Define id spec) = spec_format spec
format_of (Distillate stream cut added reads) = 1
format_of (Retire stream first) = 2
