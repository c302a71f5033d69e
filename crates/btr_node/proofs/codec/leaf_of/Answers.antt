use Rattle.std.proofs.Common.{refl, Some, sym, ap, ◌∙◌, subst, take, drop, rules, FitsSigned}
use Rattle.std.specs.Int.{w64}
use Rattle.std.proofs.lemmas.Bool.{false≢true}
use Rattle.std.proofs.lemmas.Int.{to_z-of_z}
use Rattle.btr_node.specs.declared.page.NodePage.TheVariants.{Leaf}
use Rattle.btr_node.specs.Page.{Keeps, Fits, Spells, zeros}
use Rattle.btr_node.proofs.Tests.{leaf-is, leaf-fits, leaf-found, gap-of, other-bytes, same-bytes}
use Rattle.btr_node.proofs.codec.leaf_of.Goals as goal

pub returns-then-ne-clause-only : goal.returns-then-ne-clause-only
unfolding zeros
returns-then-ne-clause-only c p fits spelled =
    absurd (other-bytes (take 24 (drop 40 c.args.bytes.now)) (zeros 24) (sym c.if-ne.true ∙ c.ne.ensures) (ap (λ l. take 24 (drop 40 l)) spelled.bytes_are ∙ gap-of p))

pub returns-then-not-is_leaf-clause-only : goal.returns-then-not-is_leaf-clause-only
returns-then-not-is_leaf-clause-only c p fits spelled =
    let is = leaf-is c.args.bytes.now c.requires c.read_header-header.result c.read_points.new.points c.read_header-header.ensures c.read_points.ensures p fits spelled.bytes_are in
    absurd (false≢true (c.if-not-is_leaf.ensures.1 (subst Keeps (sym is) spelled.keeps)))

pub returns-clause-found : goal.returns-clause-found
unfolding zeros
returns-clause-found c =
    let f = c.read_header-header.result in
    let start_fits : FitsSigned w64 f.start = search rules in
    subst (λ t. Spells c.args.bytes.now (Leaf t f.height f.stream f.version f.count c.read_points.new.points)) (sym (to_z-of_z w64 f.start start_fits))
    (leaf-found c.args.bytes.now c.requires f c.read_points.new.points c.read_header-header.ensures c.read_points.ensures c.fits-bytes c.told-bytes (same-bytes (take 24 (drop 40 c.args.bytes.now)) (zeros 24) (sym c.if-ne.false ∙ c.ne.ensures)) (c.if-not-is_leaf.ensures.0 refl))

pub returns-clause-fits : goal.returns-clause-fits
returns-clause-fits c =
    let f = c.read_header-header.result in
    let start_fits : FitsSigned w64 f.start = search rules in
    subst (λ t. Fits (Leaf t f.height f.stream f.version f.count c.read_points.new.points)) (sym (to_z-of_z w64 f.start start_fits))
    (leaf-fits c.args.bytes.now c.requires f c.read_points.new.points c.read_header-header.ensures c.read_points.ensures c.fits-bytes)

pub returns-clause-only : goal.returns-clause-only
returns-clause-only c p fits spelled =
    let f = c.read_header-header.result in
    let start_fits : FitsSigned w64 f.start = search rules in
    ap (λ x. Some x)
    (ap (λ t. Leaf t f.height f.stream f.version f.count c.read_points.new.points) (to_z-of_z w64 f.start start_fits)
    ∙ leaf-is c.args.bytes.now c.requires f c.read_points.new.points c.read_header-header.ensures c.read_points.ensures p fits spelled.bytes_are)
