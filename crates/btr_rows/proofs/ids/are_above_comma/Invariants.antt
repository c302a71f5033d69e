use Rattle.std.proofs.Common.{◌≡◌, nat_lt, take}
use Rattle.std.specs.List.{list_all}
use Rattle.btr_rows.proofs.ids.are_above_comma.Given as goal

abbrev pub invariant-loop-byte : goal.invariant-loop-byte
invariant-loop-byte l = l.all ≡ list_all (λ b. nat_lt 44 b) (take l.byte-index l.bytes)
