use Rattle.std.proofs.Common.{◌≡◌, refl, ◌+◌, ◌++◌, [], ◌∷◌, take, get_or, ℤ, sym, ap, ◌∙◌, subst, w64, FitsSigned, rules}
use Rattle.std.specs.Prelude.{pos}
use Rattle.std.proofs.lemmas.List.{take_more}
use Rattle.std.proofs.lemmas.Int.{to_z-of_z}
use Rattle.btr_base.specs.declared.point.Point.{Point}
use Rattle.btr_base.proofs.ListLemmas.{each-append}
use Rattle.btr_entry.specs.Grammar.{signed, point, ValuesFit}
use Rattle.btr_entry.proofs.ItemLemmas.{Taken-wrote}
use Rattle.btr_entry.proofs.encoding.append_points.Goals as goal

pub loop-point-preserved : goal.loop-point-preserved
loop-point-preserved c =
    let ps = c.args.points.now in
    let i = c.loop-point.point-index in
    let zero_point : Point = record { time = pos 0; value = pos 0 } in
    let p : Point = get_or ps i zero_point in
    let t_fits : FitsSigned w64 p.time = search rules in
    let v_fits : FitsSigned w64 p.value = search rules in
    let more : take (i + 1) ps ≡ take i ps ++ p ∷ [] = take_more ps i zero_point c.loop-point-test.true in
    let first : c.put_signed.new.out.items ≡ c.loop-point.out.items ++ signed p.time = c.in_ok-put_signed.ensures ∙ ap (λ (z : ℤ). c.loop-point.out.items ++ signed z) (to_z-of_z w64 p.time t_fits) in
    let second : c.put_signed-in-loop-point.new.out.items ≡ c.put_signed.new.out.items ++ signed p.value = c.in_ok-put_signed-2.ensures ∙ ap (λ (z : ℤ). c.put_signed.new.out.items ++ signed z) (to_z-of_z w64 p.value v_fits) in
    record {
      bytes = Taken-wrote point c.args.out.now.items c.loop-point.out.items c.put_signed.new.out.items c.put_signed-in-loop-point.new.out.items (signed p.time) (signed p.value) ps i p more refl c.loop-point.invariant.bytes first second;
      values = subst ValuesFit (sym more) (each-append (λ q. FitsSigned w64 q.value) (take i ps) (p ∷ []) c.loop-point.invariant.values (v_fits, tt));
    }
