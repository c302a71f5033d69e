use Rattle.std.proofs.Common.{◌≡◌, ap, arith}
use Rattle.btr_gate.specs.Numbers.{one}
use Rattle.btr_hall.specs.StoreLaws.{store_length}
use Rattle.btr_hall.proofs.store.StoreChronicleItemEngine.entries.Goals as goal

pub returns-then-self : goal.returns-then-self
returns-then-self g c = λ l x of.
    let all = store_length c.args.self.now l x of in
    let halted : one c.args.self.now.halted ≡ 1 = ap one c.if-self.true in
    omega (arith, all, halted, c.entries.ensures.entries)

pub returns-else-self : goal.returns-else-self
returns-else-self g c = λ l x of.
    let all = store_length c.args.self.now l x of in
    let runs : one c.args.self.now.halted ≡ 0 = ap one c.if-self.false in
    omega (arith, all, runs, c.entries-else-self.ensures.entries)
