-- A piece that has no reply does nothing, and any other one is one line more.
use Rattle.std.proofs.Common.{sym, ◌∙◌}
use Rattle.btr_serve.proofs.DeskLemmas.{does_piece, loses_piece, does_none}
use Rattle.btr_serve.proofs.store_desk.StoreDeskDesk.answer.Goals as goal

pub returns-in-None-clause-done : goal.returns-in-None-clause-done
returns-in-None-clause-done g c =
    does_none c.args.line.now c.args.text.now.items c.args.self.now (sym c.in_ok-read_question.ensures ∙ c.in-None.is) c.requires.empty

pub returns-in-Some-clause-done : goal.returns-in-Some-clause-done
returns-in-Some-clause-done g c =
    does_piece c.answer_line.result c.args.line.now c.in-Some.said c.answer_line.new.text.items c.args.self.now c.answer_line.new.self (sym c.in_ok-read_question.ensures ∙ c.in-Some.is) c.answer_line.ensures.done

pub returns-in-Some-clause-lost : goal.returns-in-Some-clause-lost
returns-in-Some-clause-lost g c =
    loses_piece c.answer_line.result c.args.line.now c.in-Some.said c.args.self.now c.answer_line.new.self (sym c.in_ok-read_question.ensures ∙ c.in-Some.is) c.answer_line.ensures.lost
