-- The outline of a history and the points decide whether an entry is rejected after it.
use Rattle.std.proofs.Common.{sym, ◌∙◌}
use Rattle.btr_streams.specs.Outline.{outline_of, refusal, points_refusal}
use Rattle.btr_streams.proofs.OutlineLemmas.{outline-is, both-none, from-none, rejection-by}
use Rattle.btr_open.specs.Laws.{OutlineAndPointsDecide}

pub decide : OutlineAndPointsDecide
decide h e follows =
    let same = rejection-by h (outline_of h) (outline-is h follows) e in (
      same,
      (
        (λ may. same ∙ both-none (refusal (outline_of h) e) (points_refusal h e) may.outline may.points),
        (λ none. let both = from-none (refusal (outline_of h) e) (points_refusal h e) (sym same ∙ none) in record { outline = both.0; points = both.1 }),
      ),
    )
