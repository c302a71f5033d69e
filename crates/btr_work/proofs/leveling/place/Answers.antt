use Rattle.std.proofs.Common.{Vec, Global, ℕ, ◌≡◌, ◌<◌, ◌≤◌, ◌-◌, ◌++◌, ◌∷◌, [], List, length, map, sym, ap, ◌∙◌, subst, arith}
use Rattle.std.proofs.lemmas.List.{map-set, get_or-map, length-map}
use Rattle.btr_work.specs.Leveling.{PlacesStream}
use Rattle.btr_work.proofs.LevelLemmas.{placed-there}
use Rattle.btr_work.proofs.leveling.place.Goals as goal

pub returns-then-level-len : goal.returns-then-level-len
returns-then-level-len c =
    let f : Vec ℕ Global → List ℕ = λ v. v.items in
    let items = c.args.groups.now.items in
    let level = c.args.level in
    let old = map f items in
    let counted : length old ≡ length items = length-map items f in
    let some : 0 < level = omega (arith, c.if-level-eq0.false) in
    let low : level ≤ length old = omega (arith, c.if-level-len.true, c.len.ensures, counted) in
    let at = ap f c.index_mut.ensures.value ∙ sym (get_or-map f items (level - 1) c.index_mut.result.now [] (omega (arith, some, low, counted))) in
    let group = c.in_ok-push.ensures.items ∙ ap (λ l. l ++ c.args.stream ∷ []) at in
    subst (PlacesStream level c.args.stream old) (sym (map-set f items (level - 1) c.push.new.self))
    (placed-there old level c.args.stream c.push.new.self.items some low group)
