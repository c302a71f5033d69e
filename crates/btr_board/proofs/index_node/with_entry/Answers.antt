use Rattle.std.proofs.Common.{◌∙◌, ap, refl, subst, List, get_or}
use Rattle.std.proofs.lemmas.List.{take_all}
use Rattle.btr_board.specs.Numbers.{first}
use Rattle.btr_board.specs.declared.index_node.IndexEntry.{IndexEntry}
use Rattle.btr_board.proofs.EntryLemmas.{AreOthers, first-put, others-taken, others-left}
use Rattle.btr_board.proofs.index_node.with_entry.Goals.{then-entry-new+in_ok-push, else-entry-new}
use Rattle.btr_board.proofs.index_node.with_entry.Goals as goal

pub loop-entry-preserved : goal.loop-entry-preserved
loop-entry-preserved c =
    let d : IndexEntry = record { id = 0; number = 0 } in
    let e = get_or c.args.entries.now c.loop-entry.entry-index d in
    elim c.if-entry-new.branch [
      | then-entry-new+in_ok-push w ↦ others-taken c.args.new.id c.loop-entry.others.items c.if-entry-new.others.items c.args.entries.now c.loop-entry.entry-index d e c.loop-entry-test.true refl (ap (λ v. v.items) w.others-is ∙ w.in_ok-push.ensures.items) w.if-entry-new.true c.loop-entry.invariant
      | else-entry-new w ↦ others-left c.args.new.id c.loop-entry.others.items c.if-entry-new.others.items c.args.entries.now c.loop-entry.entry-index d e c.loop-entry-test.true refl (ap (λ v. v.items) w.others-is) w.if-entry-new.false c.loop-entry.invariant
    ]

pub returns : goal.returns
returns c j =
    ap (λ es. first es j) c.in_ok-push-2.ensures.items
    ∙ first-put c.loop-entry.others.items c.args.entries.now c.args.new j (subst (λ (es : List IndexEntry). AreOthers c.args.new.id c.loop-entry.others.items es) (take_all c.loop-entry.entry-index c.args.entries.now c.loop-entry-test.false) c.loop-entry.invariant)
