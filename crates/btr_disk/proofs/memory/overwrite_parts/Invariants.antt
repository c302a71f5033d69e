use Rattle.std.specs.Prelude.{◌≡◌, ◌+◌, length, take}
use Rattle.std.specs.List.{flat_map}
use Rattle.btr_disk.specs.Bytes.{Has, SameBut, AreBytes}
use Rattle.btr_disk.specs.CallRecord.{contents_of}
use Rattle.btr_disk.proofs.memory.overwrite_parts.Given as goal

-- The parts so far are written, and nothing else is changed.
abbrev pub invariant-loop-part : goal.invariant-loop-part
invariant-loop-part l =
    let done = flat_map (λ p. p.items) (take l.part-index l.parts) in
    (l.place ≡ l.at + length done)
    × (length l.file.items ≡ length l.fn.file.items)
    × Has (contents_of l.file.items) l.at done
    × SameBut l.at (length done) (contents_of l.fn.file.items) (contents_of l.file.items)
    × AreBytes (contents_of l.file.items)
