use Rattle.std.proofs.Common.{refl, sym, ap, ◌∙◌, subst, arith}
use Rattle.btr_streams.specs.Board.{Kept, IsBoardOf}
use Rattle.btr_open.specs.Loading.{IsTreeOfRoot}
use Rattle.btr_open.proofs.loading.Loader.add_tree.Goals.{In_ok-tree}
use Rattle.btr_open.proofs.loading.Loader.add_tree.Goals as goal

-- The tree is that of the root.
tree-of : (c : In_ok-tree) → IsTreeOfRoot c.args.self.now.nodes c.args.root c.in_ok-tree.tree
tree-of c = record { empty = c.in_ok-tree.ensures.empty; read = c.in_ok-tree.ensures.part }

pub stage_read-requires-clause-past : goal.stage_read-requires-clause-past
stage_read-requires-clause-past c = c.requires.past c.in_ok-tree.tree (tree-of (goal.at.stage_read-requires-clause-past c).In_ok-tree)

pub returns : goal.returns
returns c =
    record {
      same = refl;
      least = omega (arith, c.format_of.ensures.format);
      counted = ap (λ (b : Kept). b.entries) c.accept.ensures.next ∙ c.in_ok-staged.ensures.numbered.entries;
      tree = c.in_ok-tree.tree;
      is = tree-of (goal.at.returns c).In_ok-tree;
      staged = c.in_ok-staged.staged;
      next = c.accept.ensures.next;
      reads = c.in_ok-staged.ensures.kept;
      of = λ h board none after. subst (IsBoardOf _) (sym c.accept.ensures.next) (c.in_ok-staged.ensures.of h board none after);
    }
