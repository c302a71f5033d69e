use Rattle.std.proofs.Common.{sym, ap, subst, rules}
use Rattle.btr_pages.specs.Known.{KnownValue}
use Rattle.btr_pages.specs.Made.{IsTable}
use Rattle.btr_pages.proofs.NumberLemmas.{table-along, table-pushed}
use Rattle.btr_pages.proofs.trees.Trees.push.Goals as goal

pub invariant_of-self-in_err-push : goal.invariant_of-self-in_err-push
invariant_of-self-in_err-push c =
    let nodes = c.self.inside.list.items in
    subst (λ xs. IsTable xs c.lengthen.new.table.items) (sym c.in_err-push.ensures.items) (table-along nodes c.self.inside.table.items c.lengthen.new.table.items c.self.invariant c.lengthen.ensures.same)

pub invariant_of-self-2 : goal.invariant_of-self-2
invariant_of-self-2 c =
    let nodes = c.self.inside.list.items in
    table-pushed nodes c.args.self.now c.push.new.self.items c.known.inside.block c.in_ok-number.number c.self.inside.table.items c.lengthen.new.table.items c.args.known c.self.invariant c.self.view_is c.requires.fresh (ap (λ (k : KnownValue). k.block) c.known.view_is) c.lengthen.ensures.same (search rules) (search rules) c.in_ok-push.ensures.items
