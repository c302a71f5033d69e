use Rattle.std.specs.Prelude.{IfSome, ◌≡◌}
use Rattle.std.proofs.Common.{refl, arith, ◌+◌, ◌<◌, ◌^◌, length, sym, ◌∙◌, subst}
use Rattle.std.proofs.lemmas.Bool.{false≢true}
use Rattle.std.specs.List.{AllByRecursion}
use Rattle.btr_open.specs.Start.{IsMadeWithin}
use Rattle.btr_open.specs.Checkpoint.{IsContent, HasNoContentOf}
use Rattle.btr_open.proofs.StartContent.{has-number, roll-content, content-roll, made-too, if-none}
use Rattle.btr_open.proofs.roll_content.decode_checkpoint.Goals.{then-not-has_room-via-then-not-has_room, then-not-has_room-via-else-not-has_room+then-not-are_made_within}
use Rattle.btr_open.proofs.roll_content.decode_checkpoint.Goals as goal

pub returns-in_default-clause-none : goal.returns-in_default-clause-none
returns-in_default-clause-none c entries roll has =
    let few : entries < 2 ^ 64 = omega (arith, has.bound) in
    if-none c.in_ok-roll.field-0 (HasNoContentOf c.args.body.now) c.in_default.not-Some c.in_ok-roll.ensures.none entries roll few (roll-content c.args.gate entries roll c.args.body.now has)

pub returns-then-not-has_room-clause-none : goal.returns-then-not-has_room-clause-none
returns-then-not-has_room-clause-none c entries roll has =
    let short : length c.args.body.now < 2 ^ 64 = omega arith in
    let few : entries < 2 ^ 64 = omega (arith, has.bound) in
    let low : c.args.head.now.number < 2 ^ 64 = omega arith in
    let ends : 64 + c.args.head.now.length ≡ 64 + c.args.head.now.length = refl in
    let mine : IsContent c.args.head.now.number c.in-Some.roll c.args.body.now = subst (λ o. IfSome o (λ r. IsContent c.args.head.now.number r c.args.body.now)) c.in-Some.is c.in_ok-roll.ensures.some in
    let same = has-number c.args.body.now c.args.head.now c.requires.body (64 + c.args.head.now.length) ends short entries roll few (roll-content c.args.gate entries roll c.args.body.now has) in
    elim c.then-not-has_room.branch [
      | then-not-has_room-via-then-not-has_room w ↦
          false≢true (sym w.if-not-has_room.true ∙ c.has_room.ensures.1 (omega (arith, same, has.bound)))
      | then-not-has_room-via-else-not-has_room+then-not-are_made_within w ↦
          false≢true (sym w.if-not-are_made_within.true ∙ w.are_made_within.ensures.1 (subst (AllByRecursion (IsMadeWithin c.args.head.now.number)) (sym (w.deref.ensures.value ∙ c.roll.view_is)) (made-too c.args.body.now c.args.head.now c.requires.body (64 + c.args.head.now.length) ends short c.args.gate entries roll c.in-Some.roll low has few mine same)))
    ]

pub returns-clause-some : goal.returns-clause-some
returns-clause-some c =
    let mine : IsContent c.args.head.now.number c.in-Some.roll c.args.body.now = subst (λ o. IfSome o (λ r. IsContent c.args.head.now.number r c.args.body.now)) c.in-Some.is c.in_ok-roll.ensures.some in
    content-roll c.args.gate c.args.head.now.number c.in-Some.roll c.args.body.now mine (c.has_room.ensures.0 c.if-not-has_room.false) (subst (AllByRecursion (IsMadeWithin c.args.head.now.number)) (c.deref.ensures.value ∙ c.roll.view_is) (c.are_made_within.ensures.0 c.if-not-are_made_within.false))
