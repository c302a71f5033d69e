use Rattle.std.specs.Prelude.{◌≡◌, List, [], ◌∷◌, ◌++◌, None}
use Rattle.std.proofs.Common.{sym, ◌∙◌, subst}
use Rattle.std.proofs.lemmas.Result.{err_from_is_err_and}
use Rattle.btr_hist.specs.declared.entry.Entry.{Entry}
use Rattle.btr_hist.specs.declared.entry.Entry.TheVariants.{Define}
use Rattle.btr_hist.specs.Legal.{rejection}
use Rattle.btr_streams.specs.Board.{IsBoardOf}
use Rattle.btr_streams.specs.Stage.{MayLackMemory}
use Rattle.btr_streams.proofs.BoardStreamLemmas.{define-makes}
use Rattle.btr_streams.proofs.StreamsLemmas.{has-streams, define-of}
use Rattle.btr_streams.proofs.board.Board.stage_output.Goals.{In_default}
use Rattle.btr_streams.proofs.board.Board.stage_output.Goals as goal

-- The entry passes its tests.
passes : (c : In_default) (h : List Entry) → IsBoardOf h c.args.self.now → rejection h (Define c.args.id c.args.spec.now) ≡ None
passes c h of = sym (define-of h c.args.self.now (has-streams h c.args.self.now of) c.args.id c.args.spec.now) ∙ sym c.define_rejection.ensures.rolled ∙ c.in_default.is

pub returns-in-Some-clause-cause : goal.returns-in-Some-clause-cause
returns-in-Some-clause-cause c h of = sym (define-of h c.args.self.now (has-streams h c.args.self.now of) c.args.id c.args.spec.now) ∙ sym c.define_rejection.ensures.rolled ∙ c.in-Some.is

pub returns-in_err-board-clause-cause : goal.returns-in_err-board-clause-cause
returns-in_err-board-clause-cause c h of =
    let p = err_from_is_err_and c.from_residual.result c.from_residual.ensures.1 in
    rw (p.1, p.2) (subst MayLackMemory (sym (passes (goal.at.returns-in_err-board-clause-cause c).In_default h of)) tt)

pub returns-clause-next : goal.returns-clause-next
returns-clause-next c h of =
    let e = Define c.args.id c.args.spec.now in
    let allowed = passes (goal.at.returns-clause-next c).In_default h of in
    record {
      allowed = allowed;
      of = subst (IsBoardOf (h ++ e ∷ [])) (sym c.without_nodes.ensures.board) (c.in_ok-board.ensures.next h e of (define-makes c.args.id c.args.spec.now) allowed);
    }
