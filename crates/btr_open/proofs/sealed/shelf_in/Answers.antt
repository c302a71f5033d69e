use Rattle.std.specs.Prelude.{IfSome}
use Rattle.std.proofs.Common.{refl, sym, ◌∙◌, subst, inl, inr, arith}
use Rattle.std.proofs.lemmas.Bool.{false≢true}
use Rattle.btr_open.specs.Start.{HasRoll}
use Rattle.btr_open.specs.Sealed.{IsShelfOfBody}
use Rattle.btr_open.proofs.Formats.{body-may, head-may}
use Rattle.btr_open.proofs.StartExtent.{named-extent}
use Rattle.btr_open.proofs.sealed.shelf_in.Goals as goal

-- The checkpoint may not stand under the superblock.
pub returns-then-not-may_stand-clause-wrong : goal.returns-then-not-may_stand-clause-wrong
returns-then-not-may_stand-clause-wrong c image at =
    let found = c.args.found in
    let whole = c.requires.whole in
    let extent = named-extent image found found.blocks c.args.head c.args.body.now c.args.next whole at c.if-head-ne2.false c.if-next-found.false in (
      c.requires.some,
      inr (inr (inl (record {
        body = c.args.body.now;
        extent = extent;
        none = λ under. absurd (false≢true (sym c.if-not-may_stand.true ∙ c.may_stand.ensures.1 (head-may found.format c.args.body.now c.args.head whole.is_body under)));
        first = refl;
      }))),
    )

-- The shelf of the checkpoint.
pub returns-in-Ok-clause-read : goal.returns-in-Ok-clause-read
returns-in-Ok-clause-read c =
    let found = c.args.found in
    let whole = c.requires.whole in
    let body = c.args.body.now in
    let here : HasRoll found.checkpoint c.args.head.number c.in-Ok-Some.roll body = subst (λ o. IfSome o (λ r. HasRoll found.checkpoint c.args.head.number r body)) c.in-Ok-Some.field-0-is c.in-Ok-Some.ensures.some in
    subst (IsShelfOfBody found body) (sym c.in-Ok.ensures) (record {
      has = here;
      after = omega (arith, c.if-next-found.false, whole.follows, whole.is_body.spells.is_head.blocks);
      under = body-may found.format body c.args.head whole.is_body (c.may_stand.ensures.0 c.if-not-may_stand.false);
      extent = λ image at. named-extent image found found.blocks c.args.head body c.args.next whole at c.if-head-ne2.false c.if-next-found.false;
    })
