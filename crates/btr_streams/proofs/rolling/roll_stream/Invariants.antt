use Rattle.std.proofs.Common.{◌≡◌, ◌≤◌, ◌-◌, take, drop}
use Rattle.btr_streams.specs.Rolling.{kept_versions}
use Rattle.btr_streams.proofs.rolling.roll_stream.Given as goal

-- The versions so far are those before this one.
abbrev pub invariant-loop-version : goal.invariant-loop-version
invariant-loop-version l = (1 ≤ l.version) × (l.versions.items ≡ take (l.version - 1) (kept_versions l.kept 1 (drop 1 l.kept.trees)))
