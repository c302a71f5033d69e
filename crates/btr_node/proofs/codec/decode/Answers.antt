use Rattle.std.proofs.Common.{inl, inr, sym, ap, ◌∙◌, take, codes}
use Rattle.std.specs.Cmp.Lexicographic.{other_text}
use Rattle.btr_node.proofs.Tests.{mark-of}
use Rattle.btr_node.proofs.codec.decode.Goals as goal

pub returns-else-eq-2-clause-only : goal.returns-else-eq-2-clause-only
returns-else-eq-2-clause-only c p fits spelled =
    let is = ap (λ l. take 8 l) spelled.bytes_are in
    elim (mark-of p) [
      | inl leaf ↦ absurd (other_text (take 8 c.args.bytes.now) (codes "BTR-LEAF") (sym c.if-eq.false ∙ c.eq.ensures) (is ∙ leaf))
      | inr inner ↦ absurd (other_text (take 8 c.args.bytes.now) (codes "BTR-NODE") (sym c.if-eq-2.false ∙ c.eq-else-eq.ensures) (is ∙ inner))
    ]
