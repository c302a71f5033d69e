use Rattle.btr_pages.proofs.NewPageLemmas.{first-part}
use Rattle.btr_pages.proofs.new_page.first_points.Goals as goal

pub returns : goal.returns
returns c = first-part c.args.points.now c.min.result c.min.ensures
