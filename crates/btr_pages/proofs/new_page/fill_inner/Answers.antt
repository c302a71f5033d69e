use Rattle.btr_pages.specs.Pages.{page_slots_of}
use Rattle.btr_pages.proofs.NewPageLemmas.{inner-filled}
use Rattle.btr_pages.proofs.new_page.fill_inner.Goals as goal

pub returns : goal.returns
returns c =
    inner-filled c.args.header.now (page_slots_of c.args.slots.now) c.put_inner_header.new.to c.put_slots.new.to c.put_inner_end.new.to c.put_inner_header.ensures c.put_slots.ensures c.put_inner_end.ensures
