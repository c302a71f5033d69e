-- The removal is committed, or there was no memory for the ranges.
use Rattle.std.proofs.Common.{subst, ap, ◌∙◌}
use Rattle.std.specs.Prelude.{List}
use Rattle.btr_base.specs.declared.point.Point.{Point}
use Rattle.btr_base.specs.Bag.{sort}
use Rattle.btr_hist.specs.declared.entry.Entry.TheVariants.{Commit}
use Rattle.btr_live.specs.Meaning.{Commits}
use Rattle.btr_live.specs.Serving.{RepliesIn}
use Rattle.btr_live.proofs.line.delete_range.Goals as goal

pub returns-in-Ok-clause-replies : goal.returns-in-Ok-clause-replies
returns-in-Ok-clause-replies g c =
    let cut = c.in-Ok.ensures in
    let added = c.from_points-added.ensures ∙ ap (λ (ps : List Point). sort ps) c.new.ensures.items in
    subst (λ e. RepliesIn c.args.hall.now c.args.session.now c.commit.new.session (Commits e) c.commit.result)
    (λ i. Commit c.args.found.stream (cut i) (added i))
    c.commit.ensures.replies

pub returns-in-Err-clause-replies : goal.returns-in-Err-clause-replies
returns-in-Err-clause-replies g c = c.refuse_range.ensures.replies c.args.range
