use Rattle.std.proofs.Common.{◌∙◌, sym, ap, take, drop}
use Rattle.btr_io.proofs.GivenBytes.{prefix-and-rest}
use Rattle.btr_io.proofs.TakenBytes.{slice-from}
use Rattle.btr_io.proofs.mem_source.MemSourceSource.read.Goals as goal

pub returns-clause-given : goal.returns-clause-given
returns-clause-given c =
    ap (λ s. s.left) (sym c.self.view_is) ∙ prefix-and-rest c.self.inside.bytes.items _ c.self.inside.at c.min-n.result (c.copy_prefix.ensures ∙ ap (λ xs. take c.min-n.result xs) (slice-from c.deref.result.now c.self.inside.at) ∙ ap (λ xs. take c.min-n.result (drop c.self.inside.at xs)) c.deref.ensures.value)
