use Rattle.std.proofs.Common.{◌∷◌, ◌++◌, [], sym, ap, arith, nat_cmp}
use Rattle.std.proofs.Common.{◌∙◌}
use Rattle.std.specs.BTreeMap.{get}
use Rattle.btr_rows.specs.Streams.{StreamValue}
use Rattle.btr_rows.proofs.StreamLemmas.{ids-set, stream-there, place-below, get_or-get, known-push, new-push, places-with}
use Rattle.btr_rows.proofs.streams.Streams.add.Goals as goal

pub index_mut-requires : goal.index_mut-requires
index_mut-requires c =
    let at = place-below c.self.inside.list.items c.in-Some.place.now c.args.row.id ((c.self.invariant c.args.row.id c.in-Some.place.now).0 (sym c.in-Some.ensures.value)) in
    let len = c.self.inside.list.ok.0 in
    omega arith

pub invariant_of-self : goal.invariant_of-self
invariant_of-self c =
    let there = stream-there c.self.inside.list.items c.in-Some.place.now c.args.row.id ((c.self.invariant c.args.row.id c.in-Some.place.now).0 (sym c.in-Some.ensures.value)) in
    let was = c.index_mut.ensures.value ∙ get_or-get c.self.inside.list.items c.in-Some.place.now there.0 c.index_mut.result.now there.1 in
    rw (ids-set c.self.inside.list.items c.in-Some.place.now there.0 c.push.new.self there.1 (c.push.ensures.id ∙ ap (λ s. s.id) was)) c.self.invariant

pub invariant_of-self-in-None : goal.invariant_of-self-in-None
invariant_of-self-in-None c =
    let u = c.in_ok-insert-in-None.ensures.updates in
    let len = c.self.inside.list.ok.0 in
    let begun = c.in_ok-stream-in-None.ensures in
    places-with (get nat_cmp c.self.inside.places) (get nat_cmp c.insert.new.self) c.self.inside.list.items c.push_reserved.new.self.items c.in_ok-stream-in-None.stream
    c.args.row.id c.len.result c.self.invariant (sym c.in-None.ensures.value) u.1 u.2 (c.len.ensures ∙ c.reserve.ensures.len ∙ len) (ap (λ (s : StreamValue). s.id) begun)
    (c.push_reserved.ensures.items ∙ ap (λ l. l ++ c.in_ok-stream-in-None.stream ∷ []) c.reserve.ensures.items)

pub returns-in-Some : goal.returns-in-Some
returns-in-Some c = λ rows same.
    let there = stream-there c.self.inside.list.items c.in-Some.place.now c.args.row.id ((c.self.invariant c.args.row.id c.in-Some.place.now).0 (sym c.in-Some.ensures.value)) in
    let was = c.index_mut.ensures.value ∙ get_or-get c.self.inside.list.items c.in-Some.place.now there.0 c.index_mut.result.now there.1 in
    known-push rows (c.args.number, c.args.row) (get nat_cmp c.self.inside.places) c.self.inside.list.items (c.self.view_is ∙ same) c.self.invariant c.in-Some.place.now there.0 (sym c.in-Some.ensures.value) there.1
    c.push.new.self c.index_mut.result.now was c.push.result c.push.ensures.ok

pub returns-in_ok-insert-in-None : goal.returns-in_ok-insert-in-None
returns-in_ok-insert-in-None c = λ rows same.
    new-push rows (c.args.number, c.args.row) (get nat_cmp c.self.inside.places) c.self.inside.list.items c.push_reserved.new.self.items c.in_ok-stream-in-None.stream
    (c.self.view_is ∙ same) c.self.invariant (sym c.in-None.ensures.value) c.in_ok-stream-in-None.ensures
    (c.push_reserved.ensures.items ∙ ap (λ l. l ++ c.in_ok-stream-in-None.stream ∷ []) c.reserve.ensures.items)
