use Rattle.std.proofs.Common.{◌≡◌, ◌+◌, ◌*◌, ◌++◌, take}
use Rattle.std.specs.List.{flat_map}
use Rattle.btr_node.specs.Page.{slot_bytes}
use Rattle.btr_pages.specs.Pages.{page_slots_of}
use Rattle.btr_pages.proofs.new_page.put_slots.Given as goal

abbrev pub invariant-loop-i : goal.invariant-loop-i
invariant-loop-i l = take (64 + 56 * l.i) l.to ≡ take 64 l.fn.to ++ flat_map slot_bytes (take l.i (page_slots_of l.slots))
