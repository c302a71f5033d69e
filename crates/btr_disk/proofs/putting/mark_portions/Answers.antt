use Rattle.std.specs.Prelude.{◌≡◌, ◌<◌, false, true, length}
use Rattle.std.specs.List.{list_any}
use mathlib.Core.Bool.{beq}
use Rattle.std.proofs.Common.{arith, refl, sym, ◌∙◌}
use Rattle.btr_disk.proofs.PutLemmas.{none_is, all_marked, some_is, unmarked_at}
use Rattle.btr_disk.proofs.putting.mark_portions.Goals as goal

pub returns-clause-portions : goal.returns-clause-portions
returns-clause-portions g c done i few j low high inside =
    let at = (c.for_each_mut.ensures i false few).1 in
    let here : i < length c.for_each_mut.new.s = omega (arith, few, c.for_each_mut.auto.s) in
    let none : list_any (λ mark. beq mark false) c.for_each_mut.new.s ≡ false = sym c.contains.ensures.value ∙ none_is c.contains.result done in
    at.call.1.0 (all_marked (λ mark. beq mark false) refl c.for_each_mut.new.s i here none at.after_call.now at.left) j low high inside

pub returns-clause-failed : goal.returns-clause-failed
returns-clause-failed g c not_done =
    let some : list_any (λ mark. beq mark false) c.for_each_mut.new.s ≡ true = sym c.contains.ensures.value ∙ some_is c.contains.result not_done in
    let unmarked = unmarked_at (λ mark. beq mark false) refl c.for_each_mut.new.s some in
    let few : unmarked.0 < length c.args.marks.now = omega (arith, unmarked.1, c.for_each_mut.auto.s) in
    let at = (c.for_each_mut.ensures unmarked.0 false few).1 in
    at.call.1.1 (at.left ∙ unmarked.2)
