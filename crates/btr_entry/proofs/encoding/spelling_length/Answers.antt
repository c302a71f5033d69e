use Rattle.btr_entry.proofs.SpellingLemmas.{length-create, length-commit, length-define, length-distillate, length-retirement}
use Rattle.btr_entry.proofs.encoding.spelling_length.Goals as goal

pub returns-in-Create : goal.returns-in-Create
returns-in-Create c = rw c.in-Create.is (length-create c.in-Create.id)

pub returns-in-Commit : goal.returns-in-Commit
returns-in-Commit c =
    rw (c.in-Commit.is, c.as_slice-ranges.ensures.ranges, c.as_slice-points.ensures.points) (length-commit c.in-Commit.stream c.in-Commit.cut c.in-Commit.added)

pub returns-in-Define : goal.returns-in-Define
returns-in-Define c = rw (c.in-Define.is, c.spec_length.ensures.length) (length-define c.in-Define.id c.in-Define.spec)

pub returns-in-Distillate : goal.returns-in-Distillate
returns-in-Distillate c =
    rw (c.in-Distillate.is, c.as_slice-ranges-in-Distillate.ensures.ranges, c.as_slice-points-in-Distillate.ensures.points, c.reads_length.ensures.length) (length-distillate c.in-Distillate.stream c.in-Distillate.cut c.in-Distillate.added c.in-Distillate.reads)

pub returns-in-Retire : goal.returns-in-Retire
returns-in-Retire c = rw c.in-Retire.is (length-retirement c.in-Retire.stream c.in-Retire.first)
