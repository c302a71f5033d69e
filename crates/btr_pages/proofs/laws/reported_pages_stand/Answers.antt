use Rattle.btr_pages.proofs.ReportedLemmas.{reported-pages}
use Rattle.btr_pages.proofs.laws.reported_pages_stand.Goals as goal

pub returns : goal.returns
returns c = reported-pages
