use Rattle.std.proofs.Common.{sym, ap, ◌∙◌, subst}
use Rattle.btr_streams.specs.Outline.{outline_in, refusal}
use Rattle.btr_streams.specs.Rolling.{rolled}
use Rattle.btr_streams.specs.Stage.{HasRoomFor}
use Rattle.btr_streams.proofs.StreamsLemmas.{refusal-of}
use Rattle.btr_streams.proofs.board.Board.refusal.Goals as goal

pub returns-in-Create-clause-rolled : goal.returns-in-Create-clause-rolled
returns-in-Create-clause-rolled c =
    c.create_rejection.ensures.rolled ∙ ap (refusal (outline_in (rolled c.args.self.now))) (sym c.in-Create.is)

pub returns-in-Create-clause-of : goal.returns-in-Create-clause-of
returns-in-Create-clause-of c h has =
    refusal-of h c.args.self.now has c.args.entry.now c.create_rejection.result (c.create_rejection.ensures.rolled ∙ ap (refusal (outline_in (rolled c.args.self.now))) (sym c.in-Create.is))

pub returns-in-Define-clause-rolled : goal.returns-in-Define-clause-rolled
returns-in-Define-clause-rolled c =
    c.define_rejection.ensures.rolled ∙ ap (refusal (outline_in (rolled c.args.self.now))) (sym c.in-Define.is)

pub returns-in-Define-clause-of : goal.returns-in-Define-clause-of
returns-in-Define-clause-of c h has =
    refusal-of h c.args.self.now has c.args.entry.now c.define_rejection.result (c.define_rejection.ensures.rolled ∙ ap (refusal (outline_in (rolled c.args.self.now))) (sym c.in-Define.is))

pub returns-in-Commit-clause-rolled : goal.returns-in-Commit-clause-rolled
returns-in-Commit-clause-rolled c =
    c.commit_refusal.ensures.rolled ∙ ap (refusal (outline_in (rolled c.args.self.now))) (sym c.in-Commit.is)

pub returns-in-Commit-clause-of : goal.returns-in-Commit-clause-of
returns-in-Commit-clause-of c h has =
    refusal-of h c.args.self.now has c.args.entry.now c.commit_refusal.result (c.commit_refusal.ensures.rolled ∙ ap (refusal (outline_in (rolled c.args.self.now))) (sym c.in-Commit.is))

pub returns-in-Distillate-clause-rolled : goal.returns-in-Distillate-clause-rolled
returns-in-Distillate-clause-rolled c =
    c.distillate_refusal.ensures.rolled ∙ ap (refusal (outline_in (rolled c.args.self.now))) (sym c.in-Distillate.is)

pub returns-in-Distillate-clause-of : goal.returns-in-Distillate-clause-of
returns-in-Distillate-clause-of c h has =
    refusal-of h c.args.self.now has c.args.entry.now c.distillate_refusal.result (c.distillate_refusal.ensures.rolled ∙ ap (refusal (outline_in (rolled c.args.self.now))) (sym c.in-Distillate.is))

pub returns-in-Create-clause-room : goal.returns-in-Create-clause-room
returns-in-Create-clause-room c none =
    subst (HasRoomFor c.args.self.now) (sym c.in-Create.is) (record { few = c.create_rejection.ensures.room none; fresh = c.create_rejection.ensures.fresh none; good = tt; inputs = tt })

pub returns-in-Define-clause-room : goal.returns-in-Define-clause-room
returns-in-Define-clause-room c none =
    subst (HasRoomFor c.args.self.now) (sym c.in-Define.is) (record { few = c.define_rejection.ensures.room none; fresh = c.define_rejection.ensures.fresh none; good = c.define_rejection.ensures.good none; inputs = c.define_rejection.ensures.inputs none })

pub returns-in-Commit-clause-room : goal.returns-in-Commit-clause-room
returns-in-Commit-clause-room c none =
    subst (HasRoomFor c.args.self.now) (sym c.in-Commit.is) (c.commit_refusal.ensures.room none)

pub returns-in-Distillate-clause-room : goal.returns-in-Distillate-clause-room
returns-in-Distillate-clause-room c none =
    subst (HasRoomFor c.args.self.now) (sym c.in-Distillate.is) (c.distillate_refusal.ensures.room none)

pub returns-in-Retire-clause-rolled : goal.returns-in-Retire-clause-rolled
returns-in-Retire-clause-rolled c =
    c.retire_refusal.ensures.rolled ∙ ap (refusal (outline_in (rolled c.args.self.now))) (sym c.in-Retire.is)

pub returns-in-Retire-clause-of : goal.returns-in-Retire-clause-of
returns-in-Retire-clause-of c h has =
    refusal-of h c.args.self.now has c.args.entry.now c.retire_refusal.result (c.retire_refusal.ensures.rolled ∙ ap (refusal (outline_in (rolled c.args.self.now))) (sym c.in-Retire.is))

pub returns-in-Retire-clause-room : goal.returns-in-Retire-clause-room
returns-in-Retire-clause-room c none =
    subst (HasRoomFor c.args.self.now) (sym c.in-Retire.is) (c.retire_refusal.ensures.room none)
