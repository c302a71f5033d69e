use Rattle.btr_open.proofs.SealedLemmas.{shelf-read, shelf-wrong}
use Rattle.btr_open.proofs.sealed.read_shelf.Goals as goal

pub returns-in-Ok-clause-read : goal.returns-in-Ok-clause-read
returns-in-Ok-clause-read g c =
    shelf-read g.D.Disk.is_observable (g.D.Disk.contents c.args.disk.now) c.args.found c.in-Ok.there c.in-Ok.ensures.matches c.shelf_at.result c.shelf_at.ensures.read

pub returns-in-Ok-clause-cause : goal.returns-in-Ok-clause-cause
returns-in-Ok-clause-cause g c =
    shelf-wrong g.D.Disk c.args.found c.args.disk.now c.find_at.new.disk c.in-Ok.there c.in-Ok.ensures.matches c.shelf_at.result c.shelf_at.ensures.wrong
