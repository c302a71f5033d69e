use Rattle.std.proofs.Common.{refl, arith, Some, sym, ap, ◌∙◌, subst, take, drop, rules, FitsSigned}
use Rattle.std.specs.Int.{w64}
use Rattle.std.proofs.lemmas.Bool.{false≢true}
use Rattle.std.proofs.lemmas.Int.{to_z-of_z}
use Rattle.std.proofs.lemmas.List.{take_all, length-drop}
use Rattle.btr_node.specs.declared.page.NodePage.TheVariants.{Inner}
use Rattle.btr_node.specs.Page.{Keeps, Fits, Spells, zeros}
use Rattle.btr_node.proofs.Tests.{inner-is, inner-fits, inner-found, tail-of, exact-of, gap-of, other-bytes, same-bytes}
use Rattle.btr_node.proofs.codec.inner_of.Goals as goal
use Rattle.btr_node.proofs.codec.inner_of.Goals.{then-ne-via-then-ne, then-ne-via-else-ne+then-ne-2, then-not-read_slots-via-then-not-read_slots, then-not-read_slots-via-else-not-read_slots+then-not-is_inner}

pub returns-then-ne-clause-only : goal.returns-then-ne-clause-only
unfolding zeros
returns-then-ne-clause-only c p fits spelled =
    let bytes = c.args.bytes.now in
    elim c.then-ne.branch [
      | then-ne-via-then-ne w ↦ absurd (other-bytes (take 24 (drop 40 bytes)) (zeros 24) (sym w.if-ne.true ∙ c.ne.ensures) (ap (λ l. take 24 (drop 40 l)) spelled.bytes_are ∙ gap-of p))
      | then-ne-via-else-ne+then-ne-2 w ↦ absurd (other-bytes (take 448 (drop 3648 bytes)) (zeros 448) (sym w.if-ne-2.true ∙ w.ne-else-ne.ensures) (take_all 448 (drop 3648 bytes) (omega (arith, c.told-bytes, length-drop 3648 bytes)) ∙ tail-of bytes c.requires p fits spelled.bytes_are))
    ]

pub returns-then-not-read_slots-clause-only : goal.returns-then-not-read_slots-clause-only
returns-then-not-read_slots-clause-only c p fits spelled =
    let bytes = c.args.bytes.now in
    let exact = exact-of bytes c.requires p fits spelled.bytes_are in
    elim c.then-not-read_slots.branch [
      | then-not-read_slots-via-then-not-read_slots w ↦ absurd (false≢true (w.if-not-read_slots.ensures.exact.1 exact))
      | then-not-read_slots-via-else-not-read_slots+then-not-is_inner w ↦
          let is = inner-is bytes c.requires c.read_header-header.result c.read_slots.new.slots c.read_header-header.ensures (w.if-not-read_slots.ensures.read refl) p fits spelled.bytes_are in
          absurd (false≢true (w.if-not-is_inner.ensures.1 (subst Keeps (sym is) spelled.keeps)))
    ]

pub returns-clause-found : goal.returns-clause-found
unfolding zeros
returns-clause-found c =
    let bytes = c.args.bytes.now in
    let f = c.read_header-header.result in
    let start_fits : FitsSigned w64 f.start = search rules in
    let gap = same-bytes (take 24 (drop 40 bytes)) (zeros 24) (sym c.if-ne.false ∙ c.ne.ensures) in
    let all = take_all 448 (drop 3648 bytes) (omega (arith, c.told-bytes, length-drop 3648 bytes)) in
    let tail = sym all ∙ same-bytes (take 448 (drop 3648 bytes)) (zeros 448) (sym c.if-ne-2.false ∙ c.ne-else-ne.ensures) in
    subst (λ t. Spells bytes (Inner t f.height f.stream f.version f.count c.read_slots.new.slots)) (sym (to_z-of_z w64 f.start start_fits))
    (inner-found bytes c.requires f c.read_slots.new.slots c.read_header-header.ensures (c.if-not-read_slots.ensures.read refl) c.fits-bytes c.told-bytes gap tail (c.if-not-read_slots.ensures.exact.0 refl) (c.if-not-is_inner.ensures.0 refl))

pub returns-clause-fits : goal.returns-clause-fits
returns-clause-fits c =
    let f = c.read_header-header.result in
    let start_fits : FitsSigned w64 f.start = search rules in
    subst (λ t. Fits (Inner t f.height f.stream f.version f.count c.read_slots.new.slots)) (sym (to_z-of_z w64 f.start start_fits))
    (inner-fits c.args.bytes.now c.requires f c.read_slots.new.slots c.read_header-header.ensures (c.if-not-read_slots.ensures.read refl) c.fits-bytes)

pub returns-clause-only : goal.returns-clause-only
returns-clause-only c p fits spelled =
    let f = c.read_header-header.result in
    let start_fits : FitsSigned w64 f.start = search rules in
    ap (λ x. Some x)
    (ap (λ t. Inner t f.height f.stream f.version f.count c.read_slots.new.slots) (to_z-of_z w64 f.start start_fits)
    ∙ inner-is c.args.bytes.now c.requires f c.read_slots.new.slots c.read_header-header.ensures (c.if-not-read_slots.ensures.read refl) p fits spelled.bytes_are)
