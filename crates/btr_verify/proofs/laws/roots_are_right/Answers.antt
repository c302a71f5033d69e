use Rattle.std.specs.Prelude.{◌≡◌, true, length}
use Rattle.std.proofs.Common.{sym, ap, arith, subst, inl, inr}
use Rattle.btr_base.specs.declared.limits.TheConstants.{FIRST}
use Rattle.btr_base.specs.declared.point.Point.{Point}
use Rattle.btr_tree.specs.History.{bag}
use Rattle.btr_tree.specs.Nodes.{is_node, above_root, node_version, up_to}
use Rattle.btr_tree.specs.Root.{root_part}
use Rattle.btr_verify.specs.Judged.{HasRight}
use Rattle.btr_verify.proofs.AboveLemmas.{root-above}
use Rattle.btr_verify.proofs.OwnLemmas.{right-from, leads-from}
use Rattle.btr_verify.proofs.laws.roots_are_right.Goals as goal

pub returns : goal.returns
returns c store h version block rising = (
  λ node.
      let g = up_to version h in
      let here : is_node above_root 10 FIRST (bag g) ≡ true = subst (λ a. is_node a 10 FIRST (bag g) ≡ true) root-above node in (
        λ leads. subst (λ a. HasRight store h root_part (node_version a 10 FIRST g) block) (sym root-above) (right-from store h rising version 10 FIRST above_root root-above here block leads),
        λ has. leads-from store h rising version 10 FIRST above_root root-above here block (subst (λ a. HasRight store h root_part (node_version a 10 FIRST g) block) root-above has),
      ),
  λ none. (
    λ leads. elim leads [
      | inl nowhere ↦ nowhere.is
      | inr to ↦ let long = ap (length {A = Point}) none in let some = to.points in absurd (omega arith)
    ],
    λ zero. inl (record { none = none; is = zero }),
  ),
)
