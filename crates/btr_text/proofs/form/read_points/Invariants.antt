use Rattle.std.proofs.Common.{◌≡◌, ◌++◌, length}
use Rattle.std.specs.Option.{option_map}
use Rattle.btr_text.specs.Word.{words_of}
use Rattle.btr_text.specs.Form.{points_of}
use Rattle.btr_text.proofs.form.read_points.Given as goal

abbrev pub invariant-loop-time : goal.invariant-loop-time
invariant-loop-time l =
    option_map (λ ps. l.points.items ++ ps) (points_of (words_of l.rest)) ≡ points_of (words_of l.words)

abbrev pub decreases-loop-time : goal.decreases-loop-time
decreases-loop-time l = length l.rest
