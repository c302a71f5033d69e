use Rattle.std.specs.Prelude.{ℕ, ◌<◌, List, IfSome, slice_get}
use Rattle.btr_tree.specs.PageNodes.{Pages}
use Rattle.btr_hist.specs.declared.entry.Entry.{Entry}
use Rattle.btr_verify.specs.Trees.{AreCommitsOf, LeadsToTree}
use Rattle.btr_verify.specs.Judging.{WereJudged}
use Rattle.btr_verify.proofs.roots.first_that_fails.Given as goal

-- The roots so far lead to the trees of their versions.
abbrev pub invariant-loop-commit : goal.invariant-loop-commit
invariant-loop-commit l =
    (pages : Pages) (h : List Entry)
    → WereJudged pages h l.nodes l.snapshot l.marks
    → AreCommitsOf pages h l.made
    → (i : ℕ)
    → i < l.commit-index
    → IfSome (slice_get l.made i) (LeadsToTree pages h)
