use Rattle.std.proofs.lemmas.Bool.{both_ways}
use Rattle.std.proofs.Common.{◌≡◌, false, refl, subst, rules, w64, to_z, of_z}
use Rattle.std.specs.Int.{int_max, int_min}
use Rattle.std.proofs.lemmas.Result.{on_ok_weaker}
use Rattle.btr_base.specs.Range.{IsRange}
use Rattle.btr_distil.proofs.PartLemmas.{range-between, none-between}
use Rattle.btr_distil.proofs.parts.add_between.Goals as goal

pub returns-in-Some : goal.returns-in-Some
returns-in-Some c =
    let r = c.args.range in
    let part : c.in-Some.part ≡ record { from = int_max r.from c.args.from; to = int_min r.to c.args.to } = search rules in
    on_ok_weaker c.add.result (λ h. range-between r c.in-Some.part c.args.from c.args.to c.args.kept.now c.add.new.self part h) c.add.ensures.times

pub returns-in-None : goal.returns-in-None
returns-in-None c =
    let r = c.args.range in
    let is : IsRange r = search rules in
    let same : record { from = int_max r.from c.args.from; to = int_min r.to c.args.to } ≡ record { from = to_z w64 (of_z w64 c.max.result); to = to_z w64 (of_z w64 c.min.result) } = search rules in
    let none : IsRange (record { from = int_max r.from c.args.from; to = int_min r.to c.args.to }) → ⊥ = λ h. both_ways false refl (c.in-None.ensures.some.1 (subst IsRange same h)) in
    none-between r c.args.from c.args.to c.args.kept.now is none
