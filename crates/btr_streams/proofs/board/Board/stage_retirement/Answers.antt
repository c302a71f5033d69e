use Rattle.std.specs.Prelude.{◌≡◌, List, [], ◌∷◌, ◌++◌, None, is_some}
use Rattle.std.proofs.Common.{sym, ap, ◌∙◌, subst, arith}
use Rattle.std.proofs.lemmas.Result.{err_from_is_err_and}
use Rattle.btr_hist.specs.declared.entry.Entry.{Entry}
use Rattle.btr_hist.specs.declared.entry.Entry.TheVariants.{Retire}
use Rattle.btr_hist.specs.declared.rejection.Rejection.{Rejection}
use Rattle.btr_hist.specs.Legal.{rejection}
use Rattle.btr_streams.specs.Board.{IsBoardOf}
use Rattle.btr_streams.specs.Stage.{MayLackMemory, SetsEarliest}
use Rattle.btr_streams.proofs.BoardRead.{retired-board}
use Rattle.btr_streams.proofs.StreamsLemmas.{has-streams, retire-of}
use Rattle.btr_streams.proofs.board.Board.stage_retirement.Goals.{In_default}
use Rattle.btr_streams.proofs.board.Board.stage_retirement.Goals as goal

-- The entry passes its tests.
passes : (c : In_default) (h : List Entry) → IsBoardOf h c.args.self.now → rejection h (Retire c.args.stream c.args.first) ≡ None
passes c h of = sym (retire-of h c.args.self.now (has-streams h c.args.self.now of) c.args.stream c.args.first) ∙ sym c.retire_refusal.ensures.rolled ∙ c.in_default.is

pub returns-in-Some-clause-cause : goal.returns-in-Some-clause-cause
returns-in-Some-clause-cause c h of = sym (retire-of h c.args.self.now (has-streams h c.args.self.now of) c.args.stream c.args.first) ∙ sym c.retire_refusal.ensures.rolled ∙ c.in-Some.is

pub returns-in_err-board-clause-cause : goal.returns-in_err-board-clause-cause
returns-in_err-board-clause-cause c h of =
    let p = err_from_is_err_and c.from_residual.result c.from_residual.ensures.1 in
    rw (p.1, p.2) (subst MayLackMemory (sym (passes (goal.at.returns-in_err-board-clause-cause c).In_default h of)) tt)

pub returns-clause-next : goal.returns-clause-next
returns-clause-next c h of =
    let e = Retire c.args.stream c.args.first in
    let allowed = passes (goal.at.returns-clause-next c).In_default h of in
    record {
      allowed = allowed;
      of = subst (IsBoardOf (h ++ e ∷ [])) (sym c.without_nodes.ensures.board) (retired-board h c.args.self.now c.in_ok-board.board c.in_ok-board.ensures.counted c.args.stream c.args.first of allowed c.in_ok-board.ensures.sets);
    }

pub returns-clause-bounds : goal.returns-clause-bounds
returns-clause-bounds c =
    let none = ap (is_some {T = Rejection}) c.in_default.is in
    let room = c.retire_refusal.ensures.room none in
    let made = room.made in
    let limited = room.grown.limited in
    record { some = c.retire_refusal.ensures.some none; few = omega arith }

pub returns-clause-writes : goal.returns-clause-writes
returns-clause-writes c = record {
  sets = subst (SetsEarliest c.args.self.now c.args.stream c.args.first) (sym c.without_nodes.ensures.board) c.in_ok-board.ensures.sets;
  none = c.without_nodes.ensures.nodes;
  no_root = c.without_nodes.ensures.root;
}
