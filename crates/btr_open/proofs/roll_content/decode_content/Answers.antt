use Rattle.std.specs.Prelude.{IfSome, IfNone}
use Rattle.std.proofs.Common.{refl, arith, ◌+◌, ◌<◌, ◌^◌, length, sym, ◌∙◌}
use Rattle.std.proofs.lemmas.Bool.{false≢true}
use Rattle.std.proofs.lemmas.Result.{IfOk-weaker}
use Rattle.std.proofs.lemmas.Option.{IfSome_then}
use Rattle.btr_open.specs.Checkpoint.{IsContent, HasNoContentOf}
use Rattle.btr_open.proofs.BodyParts.{IfNone_then}
use Rattle.btr_open.proofs.StartContent.{content-is, has-zeros, has-bytes}
use Rattle.btr_open.proofs.roll_content.decode_content.Goals as goal

pub returns-then-not-are_zeros-clause-none : goal.returns-then-not-are_zeros-clause-none
returns-then-not-are_zeros-clause-none c entries roll few has =
    let short : length c.args.body.now < 2 ^ 64 = omega arith in
    false≢true (sym c.if-not-are_zeros.true ∙ c.are_zeros.ensures.1 (has-zeros c.args.body.now c.args.head.now c.requires.body (64 + c.args.head.now.length) refl short entries roll few has))

pub returns-clause-some : goal.returns-clause-some
returns-clause-some c =
    IfOk-weaker c.decode_roll.result _ (λ o. IfSome o (λ roll. IsContent c.args.head.now.number roll c.args.body.now))
    (λ o found. IfSome_then o found (content-is c.args.body.now c.args.head.now c.requires.body (64 + c.args.head.now.length) refl c.requires.kind (c.are_zeros.ensures.0 c.if-not-are_zeros.false)))
    c.decode_roll.ensures.found

pub returns-clause-none : goal.returns-clause-none
returns-clause-none c =
    let short : length c.args.body.now < 2 ^ 64 = omega arith in
    IfOk-weaker c.decode_roll.result _ (λ o. IfNone o (HasNoContentOf c.args.body.now))
    (λ o is. IfNone_then o _ (HasNoContentOf c.args.body.now) (λ none entries roll few has. none roll (has-bytes c.args.body.now c.args.head.now c.requires.body (64 + c.args.head.now.length) refl short entries roll few has)) is)
    c.decode_roll.ensures.none
