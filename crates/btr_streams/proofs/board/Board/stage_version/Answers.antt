use Rattle.std.specs.Prelude.{List}
use Rattle.std.proofs.Common.{sym, subst}
use Rattle.std.proofs.lemmas.Result.{err_from_is_err_and}
use Rattle.btr_hist.specs.declared.entry.Entry.{Entry}
use Rattle.btr_streams.specs.Board.{Versions, HasTrees, IsBoardOf}
use Rattle.btr_streams.specs.Stage.{MayLackMemory, change_in}
use Rattle.btr_streams.proofs.BoardNext.{kept-stream}
use Rattle.btr_streams.proofs.board.Board.stage_version.Given.{Over}
use Rattle.btr_streams.proofs.board.Board.stage_version.Goals.{After-next_tree}
use Rattle.btr_streams.proofs.board.Board.stage_version.Goals as goal

-- The stream's trees are those of a stream of the history.
trees : (g : Over) (c : After-next_tree g) (h : List Entry) → IsBoardOf h c.args.self.now → HasTrees h c.args.new.now.stream c.kept.inside.trees
trees g c h of =
    subst (λ (x : Versions). HasTrees h c.args.new.now.stream x.trees) (sym c.kept.view_is) (kept-stream h c.args.self.now c.args.new.now.stream c.args.new.now.kept.now of c.requires.new.there).1.kept

pub returns-in_err-next-clause-cause : goal.returns-in_err-next-clause-cause
returns-in_err-next-clause-cause g c h of =
    let p = err_from_is_err_and c.from_residual.result c.from_residual.ensures.1 in
    rw (p.1, p.2) (c.in_err-next.ensures.cause h c.args.new.now.stream (trees g (goal.at.returns-in_err-next-clause-cause g c).After-next_tree h of))

pub returns-in_err-board-clause-cause : goal.returns-in_err-board-clause-cause
returns-in_err-board-clause-cause g c h of =
    let p = err_from_is_err_and c.from_residual-in_err-board.result c.from_residual-in_err-board.ensures.1 in
    let allowed = (c.in_ok-next.ensures.next h c.args.new.now.stream (trees g (goal.at.returns-in_err-board-clause-cause g c).After-next_tree h of)).0 in
    rw (p.1, p.2) (subst MayLackMemory (sym allowed) tt)

pub returns-clause-next : goal.returns-clause-next
returns-clause-next g c h of =
    let next = c.in_ok-next.ensures.next h c.args.new.now.stream (trees g (goal.at.returns-clause-next g c).After-next_tree h of) in
    record {
      allowed = next.0;
      of = λ e makes allowed. c.in_ok-board.ensures.next h e of (record { change_made = change_in c.args.new.now.commit; makes = makes; tree = next.1; allowed = allowed });
    }
