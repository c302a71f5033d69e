-- What a node keeps of a slot beside its child.
use Rattle.std.specs.Prelude.{ℕ, ℤ, Some, None, nat_eq, if◌then◌else◌}
use Rattle.btr_tree.specs.declared.node.Slot.{Slot}

-- The slot of these numbers. The least and the greatest value count only if there is a point.
abbrev pub unpacked : ℕ → ℤ → ℤ → ℤ → ℕ → Slot
unpacked count sum least greatest version =
    record {
      agg = record {
        count = count;
        total = sum;
        ends = if nat_eq count 0 then None else Some (least, greatest);
      };
      version = version;
      child = 0;
    }

-- The slot without its child's address.
abbrev pub without_address : Slot → Slot
without_address slot = record { agg = slot.agg; version = slot.version; child = 0 }
