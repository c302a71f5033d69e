use Rattle.std.specs.Prelude.{ℕ, List, ◌++◌}
use Rattle.std.proofs.Common.{◌∙◌, ap}
use Rattle.btr_disk.proofs.Filled.{taken_has}
use Rattle.btr_disk.proofs.memory.MemDisk.filled.Goals as goal

pub returns-clause-fill : goal.returns-clause-fill
returns-clause-fill c =
    let disk = c.args.self.now in
    taken_has c.args.fill disk.made disk.bytes.items c.deref_mut.result.now c.leave.new.bytes _ c.extend_from_slice.new.self.len
    (c.deref_mut.ensures.value ∙ c.in_ok-extend_from_slice.ensures.items
    ∙ ap (λ (l : List ℕ). l ++ c.deref.result.now) c.in_ok-bytes.ensures.items ∙ c.deref.ensures.value)
    (c.leave.ensures.length ∙ c.deref_mut.ensures.len) c.leave.ensures.fill
