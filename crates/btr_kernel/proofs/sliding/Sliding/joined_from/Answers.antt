use Rattle.std.proofs.Common.{◌∙◌, sym, ap, arith}
use Rattle.btr_base.specs.Agg.{joined}
use Rattle.btr_kernel.proofs.PartLemmas.{agg-part_count, agg-part_split, last-read}
use Rattle.btr_kernel.proofs.sliding.Sliding.joined_from.Goals as goal

pub join-requires : goal.join-requires
join-requires c =
    let b = c.args.points.now in
    let s = c.args.self.now in
    let inv = c.requires.sliding in
    let read = last-read b s.lasts.items s.mid c.args.from c.index.result.now inv.lasts (omega arith) (omega arith) c.index.ensures in
    omega (arith, ap (λ a. a.count) read, ap (λ a. a.count) inv.back, agg-part_count b c.args.from s.mid (omega arith) (omega arith), agg-part_count b s.mid s.end inv.order inv.ends)

pub returns : goal.returns
returns c =
    let b = c.args.points.now in
    let s = c.args.self.now in
    let inv = c.requires.sliding in
    let read = last-read b s.lasts.items s.mid c.args.from c.index.result.now inv.lasts (omega arith) (omega arith) c.index.ensures in
    c.join.ensures.numbers
    ∙ (λ i. joined (read i) (inv.back i))
    ∙ sym (agg-part_split b c.args.from s.mid s.end (omega arith) inv.order inv.ends)
