use Rattle.std.specs.Prelude.{◌≡◌}
use Rattle.std.proofs.Common.{refl, sym, subst}
use Rattle.btr_verify.specs.Judging.{AreMarked, WereJudged, IsFirstFailure, IsPageNotRight}
use Rattle.btr_log.proofs.OnlyReading.{same-bytes}
use Rattle.btr_verify.proofs.RootLemmas.{its-made, its-page, its-wrong, found-root, found-below}
use Rattle.btr_verify.proofs.verifying.first_wrong_node.Goals as goal

pub returns-in_default-clause-verified : goal.returns-in_default-clause-verified
returns-in_default-clause-verified g c reported pages h to =
    let value = c.deref.ensures.value in
    let same : c.deref.result.now ≡ c.in_ok-marks.marks.items = cc in
    let marked = subst (AreMarked pages h c.args.tail) (sym same) (c.in_ok-marks.ensures.marked reported pages h to.trees) in
    let found = c.first_that_fails.ensures pages h (record { image = g.D.Disk.contents c.args.disk.now; tail = c.args.tail; trees = to.trees; below = c.requires.below; marked = marked }) to.each in
    subst (IsFirstFailure pages h c.args.made.now) c.in_default.is found

pub returns-then-not-has_tree_version-clause-verified : goal.returns-then-not-has_tree_version-clause-verified
returns-then-not-has_tree_version-clause-verified g c reported pages h to =
    let marks = c.deref.result.now in
    let first = c.in-Some.commit in
    let value = c.deref.ensures.value in
    let same : marks ≡ c.in_ok-marks.marks.items = cc in
    let marked = subst (AreMarked pages h c.args.tail) (sym same) (c.in_ok-marks.ensures.marked reported pages h to.trees) in
    let judged : WereJudged pages h c.args.nodes.now c.args.snapshot.now marks = record { image = g.D.Disk.contents c.args.disk.now; tail = c.args.tail; trees = to.trees; below = c.requires.below; marked = marked } in
    let fails = c.in-Some.ensures pages h judged to.each in
    let made = its-made pages h c.args.nodes.now c.args.snapshot.now marks judged c.args.made.now to.each first fails in
    found-root pages h c.args.nodes.now c.args.snapshot.now marks judged c.args.made.now to.each first fails (λ has. let e = (c.if-not-has_tree_version.ensures.same pages h to.trees.known to.trees.of made).1 has in absurd (cc))

pub returns-clause-verified : goal.returns-clause-verified
returns-clause-verified g c reported pages h to =
    let disk = g.D.Disk in
    let tail = c.args.tail in
    let nodes = c.args.nodes.now in
    let snapshot = c.args.snapshot.now in
    let mades = c.args.made.now in
    let marks = c.deref.result.now in
    let first = c.in-Some.commit in
    let value = c.deref.ensures.value in
    let again = c.deref-2.ensures.value in
    let same : marks ≡ c.in_ok-marks.marks.items = cc in
    let one : marks ≡ c.deref-2.result.now = cc in
    let bytes = sym (same-bytes c.args.disk.now c.mark_blocks.new.disk c.mark_blocks.ensures.reads.reads reported) in
    let marked = subst (AreMarked pages h tail) (sym same) (c.in_ok-marks.ensures.marked reported pages h to.trees) in
    let judged : WereJudged pages h nodes snapshot marks = record { image = disk.contents c.args.disk.now; tail = tail; trees = to.trees; below = c.requires.below; marked = marked } in
    let fails = c.in-Some.ensures pages h judged to.each in
    let made = its-made pages h nodes snapshot marks judged mades to.each first fails in
    let has = (c.if-not-has_tree_version.ensures.same pages h to.trees.known to.trees.of made).0 refl in
    let page = its-page pages h nodes snapshot marks judged mades to.each first fails has in
    let wrong = its-wrong pages h nodes snapshot marks judged mades to.each first fails has in
    let here = subst (λ m. IsPageNotRight pages h (disk.contents c.mark_blocks.new.disk) tail m first.root page) one (subst (λ i. IsPageNotRight pages h i tail marks first.root page) (sym bytes) wrong) in
    found-below pages h nodes snapshot marks judged mades to.each first fails has c.in_ok-block.block (c.in_ok-block.ensures.named reported pages h page here)
