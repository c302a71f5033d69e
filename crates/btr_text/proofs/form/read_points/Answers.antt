use Rattle.std.proofs.Common.{◌∙◌}
use Rattle.btr_text.specs.Word.{words_of}
use Rattle.btr_text.proofs.FormLemmas.{points_of-more}
use Rattle.btr_text.proofs.form.read_points.Goals as goal

pub loop-time-preserved : goal.loop-time-preserved
loop-time-preserved c =
    points_of-more c.loop-time.points.items c.push.new.self.items
    (words_of c.loop-time.rest.now) (words_of c.in-Some.after.now) (words_of c.in-Some-next_word.after.now)
    c.in-Some.time.now c.in-Some-next_word.value.now c.in-Some-read_point.point
    c.in-Some.ensures.words c.in-Some-next_word.ensures.words c.in-Some-read_point.ensures c.in_ok-push.ensures.items
    ∙ c.loop-time.invariant
