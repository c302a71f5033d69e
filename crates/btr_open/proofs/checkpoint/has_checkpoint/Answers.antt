use Rattle.std.proofs.Common.{◌≡◌, ◌+◌, ◌<◌, ◌^◌, length, sym, ◌∙◌, arith}
use Rattle.std.proofs.lemmas.Bool.{false≢true}
use Rattle.btr_open.proofs.BodyParts.{checkpoint-found, checkpoint-format, checkpoint-number, checkpoint-length, checkpoint-text, checkpoint-zeros}
use Rattle.btr_open.proofs.checkpoint.has_checkpoint.Goals.{then-head-least-via-then-head-least, then-head-least-via-else-head-least+then-head-number, then-head-least-via-else-head-least+else-head-number+then-head-content}
use Rattle.btr_open.proofs.checkpoint.has_checkpoint.Goals as goal

pub returns-then-head-least : goal.returns-then-head-least
returns-then-head-least c =
    let few : c.args.number < 2 ^ 64 = omega arith in
    let short : length c.args.content.now < 2 ^ 64 = omega arith in (
      (λ no. absurd (false≢true no)),
      (λ has. elim c.then-head-least.branch [
        | then-head-least-via-then-head-least w ↦
            let least = has.from.1 in
            absurd (omega (arith, w.if-head-least.true, least, checkpoint-format c.args.least c.args.number (λ format. c.args.content.now) c.args.body.now c.args.head.now c.requires.body few has short))
        | then-head-least-via-else-head-least+then-head-number w ↦
            absurd (w.if-head-number.true (checkpoint-number c.args.least c.args.number (λ format. c.args.content.now) c.args.body.now c.args.head.now c.requires.body few has short))
        | then-head-least-via-else-head-least+else-head-number+then-head-content w ↦
            absurd (w.if-head-content.true (checkpoint-length c.args.least c.args.number (λ format. c.args.content.now) c.args.body.now c.args.head.now c.requires.body few has short))
      ]),
    )

pub returns-then-is_same : goal.returns-then-is_same
returns-then-is_same c =
    let few : c.args.number < 2 ^ 64 = omega arith in
    let short : length c.args.content.now < 2 ^ 64 = omega arith in
    let end = 64 + length c.args.content.now in
    let ends : end ≡ 64 + length c.args.content.now = omega arith in (
      (λ yes. checkpoint-found c.args.least c.args.number (λ format. c.args.content.now) c.args.body.now c.args.head.now c.requires.body end ends c.requires.kind (omega (arith, c.if-head-least.false)) c.if-head-number.false c.if-head-content.false (c.is_same.ensures.0 c.if-is_same.true) (c.are_zeros.ensures.0 yes)),
      (λ has. c.are_zeros.ensures.1 (checkpoint-zeros c.args.least c.args.number (λ format. c.args.content.now) c.args.body.now c.args.head.now c.requires.body few has short end ends)),
    )

pub returns-else-is_same : goal.returns-else-is_same
returns-else-is_same c =
    let few : c.args.number < 2 ^ 64 = omega arith in
    let short : length c.args.content.now < 2 ^ 64 = omega arith in
    let end = 64 + length c.args.content.now in
    let ends : end ≡ 64 + length c.args.content.now = omega arith in (
      (λ yes. absurd (false≢true (sym c.if-is_same.false ∙ yes))),
      (λ has. c.is_same.ensures.1 (checkpoint-text c.args.least c.args.number (λ format. c.args.content.now) c.args.body.now c.args.head.now c.requires.body few has short end ends)),
    )
