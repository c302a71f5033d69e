use Rattle.std.specs.Prelude.{IfOk}
use Rattle.std.proofs.Common.{sym, subst}
use Rattle.btr_hist.specs.declared.entry.Entry.{Entry}
use Rattle.btr_streams.specs.Stage.{WritesOn}
use Rattle.btr_streams.proofs.board.Board.next_board.Goals as goal

pub returns-in-Create-clause-writes : goal.returns-in-Create-clause-writes
returns-in-Create-clause-writes g c =
    subst (λ (e : Entry). IfOk c.stage_stream.result (λ n. WritesOn c.args.self.now e c.args.first n.board n.nodes.items n.root)) (sym c.in-Create.is) c.stage_stream.ensures.writes

pub returns-in-Define-clause-writes : goal.returns-in-Define-clause-writes
returns-in-Define-clause-writes g c =
    subst (λ (e : Entry). IfOk c.stage_output.result (λ n. WritesOn c.args.self.now e c.args.first n.board n.nodes.items n.root)) (sym c.in-Define.is) c.stage_output.ensures.writes

pub returns-in-Commit-clause-writes : goal.returns-in-Commit-clause-writes
returns-in-Commit-clause-writes g c =
    subst (λ (e : Entry). IfOk c.stage_commit.result (λ n. WritesOn c.args.self.now e c.args.first n.board n.nodes.items n.root)) (sym c.in-Commit.is) c.stage_commit.ensures.writes

pub returns-in-Distillate-clause-writes : goal.returns-in-Distillate-clause-writes
returns-in-Distillate-clause-writes g c =
    subst (λ (e : Entry). IfOk c.stage_distillate.result (λ n. WritesOn c.args.self.now e c.args.first n.board n.nodes.items n.root)) (sym c.in-Distillate.is) c.stage_distillate.ensures.writes

pub returns-in-Retire-clause-writes : goal.returns-in-Retire-clause-writes
returns-in-Retire-clause-writes g c =
    subst (λ (e : Entry). IfOk c.stage_retirement.result (λ n. WritesOn c.args.self.now e c.args.first n.board n.nodes.items n.root)) (sym c.in-Retire.is) c.stage_retirement.ensures.writes
