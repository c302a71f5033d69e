use Rattle.std.proofs.Common.{◌∙◌, ap, refl, get_or}
use Rattle.btr_board.specs.declared.index_node.IndexEntry.{IndexEntry}
use Rattle.btr_board.proofs.EntryLemmas.{half-taken, half-left}
use Rattle.btr_board.proofs.index_node.half.Goals.{then-bit_of-one+in_ok-push, else-bit_of-one}
use Rattle.btr_board.proofs.index_node.half.Goals as goal

pub loop-entry-preserved : goal.loop-entry-preserved
loop-entry-preserved c =
    let d : IndexEntry = record { id = 0; number = 0 } in
    let e = get_or c.args.entries.now c.loop-entry.entry-index d in
    elim c.if-bit_of-one.branch [
      | then-bit_of-one+in_ok-push w ↦ half-taken c.args.place c.args.one c.loop-entry.part.items c.if-bit_of-one.part.items c.args.entries.now c.loop-entry.entry-index d e c.loop-entry-test.true refl (ap (λ v. v.items) w.part-is ∙ w.in_ok-push.ensures.items) c.loop-entry.invariant
      | else-bit_of-one w ↦ half-left c.args.place c.args.one c.loop-entry.part.items c.if-bit_of-one.part.items c.args.entries.now c.loop-entry.entry-index d e c.bit_of.result c.loop-entry-test.true refl (ap (λ v. v.items) w.part-is) w.if-bit_of-one.false c.bit_of.ensures c.loop-entry.invariant
    ]
