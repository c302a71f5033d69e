use Rattle.std.proofs.Common.{◌≡◌, ◌∷◌, map, take}
use Rattle.btr_streams.proofs.restoring.restored_numbers.Given as goal

-- The numbers so far are those of the earlier versions.
abbrev pub invariant-loop-version : goal.invariant-loop-version
invariant-loop-version l = l.numbers ≡ l.first ∷ map (λ v. v.entry) (take l.version-index l.versions)
