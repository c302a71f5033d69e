-- A fault of the tree is the cause for which its points are rejected.
use Rattle.std.proofs.Common.{◌≡◌, ℤ, ◌≤ℤ◌, ◌<ℤ◌, ◌∙◌, ap, sym, subst, arith, w64, to_z, of_z, Some}
use Rattle.std.proofs.lemmas.Int.{ints, to_z-of_z}
use Rattle.btr_base.specs.declared.limits.TheConstants.{FIRST, END}
use Rattle.btr_hist.specs.declared.rejection.Rejection.TheVariants.{Crowded}
use Rattle.btr_tree.specs.Root.{IsTreeFault}
use Rattle.btr_tree.specs.declared.fault.TreeFault.TheVariants as tree
use Rattle.btr_streams.proofs.next_tree.push_fault.Goals as goal
use Rattle.btr_streams.proofs.Crowded.{crowd-rejected, many-rejected}

pub returns-in-Crowded : goal.returns-in-Crowded
returns-in-Crowded c b fault order inside =
    let start : ℤ = c.in-Crowded.start in
    let is : IsTreeFault b (tree.Crowded start) = subst (IsTreeFault b) c.in-Crowded.is fault in
    let low : FIRST ≤ℤ start = is.1.begins in
    let high : start <ℤ END = is.1.ends in
    let same : to_z w64 (of_z w64 start) ≡ start = grind (arith, ints, to_z-of_z) in
    crowd-rejected b inside start order is ∙ ap (λ (s : ℤ). Some (Crowded s)) (sym same)

pub returns-in-TooManyPoints : goal.returns-in-TooManyPoints
returns-in-TooManyPoints c b fault order inside = many-rejected b inside c.in-TooManyPoints.count (subst (IsTreeFault b) c.in-TooManyPoints.is fault)
