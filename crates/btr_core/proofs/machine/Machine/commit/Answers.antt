-- The entry is no distillate, and its staging is what the model makes of it.
use Rattle.std.proofs.Common.{◌≡◌, ◌∙◌, sym, ap, subst, refl, Option}
use Rattle.btr_hist.specs.declared.rejection.Rejection.{Rejection}
use Rattle.btr_hist.specs.Legal.{rejection}
use Rattle.btr_hist.specs.Machine.{committed, commit_reply}
use Rattle.btr_streams.specs.Board.{IsBoardOf}
use Rattle.btr_core.proofs.MachineLemmas.{offered-rejection, after-commit}
use Rattle.btr_core.proofs.machine.Machine.commit.Goals as goal

pub returns : goal.returns
returns c =
    let e = c.args.entry.now in
    record {
      replied = λ m actor of.
          let h = m.history in
          let tested = offered-rejection h e c.in_default.not-Distillate in
          (c.finish.ensures h _ _ of.board (c.in_ok-outcome.ensures h of.board)).0 ∙ ap (λ (o : Option Rejection). commit_reply h e o) (sym tested);
      next = λ m actor of.
          let h = m.history in
          let tested = offered-rejection h e c.in_default.not-Distillate in
          after-commit m actor e c.args.self.now _ of
          (subst (λ (o : Option Rejection). IsBoardOf (committed h e o) c.finish.new.board) (sym tested)
          (c.finish.ensures h _ _ of.board (c.in_ok-outcome.ensures h of.board)).1) refl refl;
      as_before = tt;
    }
