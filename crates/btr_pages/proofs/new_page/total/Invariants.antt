use Rattle.std.proofs.Common.{◌≡◌, ◌%◌, ◌^◌, take}
use Rattle.std.specs.List.{sum_by}
use Rattle.btr_pages.specs.Pages.{page_slots_of}
use Rattle.btr_pages.proofs.new_page.total.Given as goal

abbrev pub invariant-loop-i : goal.invariant-loop-i
invariant-loop-i l = l.all ≡ sum_by (λ s. s.agg.count) (take l.i (page_slots_of l.slots)) % 2 ^ 64
