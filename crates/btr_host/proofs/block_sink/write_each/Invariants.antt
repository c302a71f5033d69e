use Rattle.std.specs.Prelude.{◌≡◌, ◌+◌, length, take}
use Rattle.std.specs.List.{flat_map}
use Rattle.btr_host.proofs.block_sink.write_each.Given as goal

-- The place after the parts so far.
abbrev pub invariant-loop-part : goal.invariant-loop-part
invariant-loop-part l = l.place ≡ l.offset + length (flat_map (λ p. p.items) (take l.part-index l.parts))
