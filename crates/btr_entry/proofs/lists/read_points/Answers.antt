use Rattle.std.proofs.Common.{◌≡◌, ◌++◌, [], ◌∷◌, subst, sym, w64, to_z, of_z, FitsSigned, rules}
use Rattle.std.proofs.lemmas.Int.{to_z-of_z}
use Rattle.btr_base.specs.declared.point.Point.{Point}
use Rattle.btr_base.proofs.ListLemmas.{each-append}
use Rattle.btr_entry.specs.Grammar.{point}
use Rattle.btr_entry.specs.Fields.{PointFits}
use Rattle.btr_entry.proofs.ItemLemmas.{Taken-next, length-point, second_left, shorter, both_parts}
use Rattle.btr_entry.proofs.lists.read_points.Goals as goal

pub read_i64-value-requires : goal.read_i64-value-requires
read_i64-value-requires c =
    second_left c.loop-rest.rest.now c.read_i64-time.result.1.now c.read_i64-time.result.0 c.loop-rest-test.ensures c.loop-rest.invariant.taken.whole c.read_i64-time.ensures

pub loop-rest-smaller : goal.loop-rest-smaller
loop-rest-smaller c =
    shorter c.loop-rest.rest.now c.read_i64-time.result.1.now c.read_i64-value.result.1.now c.read_i64-time.result.0 c.read_i64-value.result.0 c.read_i64-time.ensures c.read_i64-value.ensures

pub loop-rest-preserved : goal.loop-rest-preserved
loop-rest-preserved c =
    let t = c.read_i64-time.result.0 in
    let v = c.read_i64-value.result.0 in
    let t_fits : FitsSigned w64 t = search rules in
    let v_fits : FitsSigned w64 v = search rules in
    let p : Point = record { time = to_z w64 (of_z w64 t); value = to_z w64 (of_z w64 v) } in
    let same_time : to_z w64 (of_z w64 t) ≡ t = to_z-of_z w64 t t_fits in
    let same_value : to_z w64 (of_z w64 v) ≡ v = to_z-of_z w64 v v_fits in
    let is = both_parts c.loop-rest.rest.now c.read_i64-time.result.1.now c.read_i64-value.result.1.now t v c.read_i64-time.ensures c.read_i64-value.ensures in
    let here : c.loop-rest.rest.now ≡ point p ++ c.read_i64-value.result.1.now = rw (same_time, same_value) is in
    rw c.in_ok-push.ensures.items (record {
      taken = Taken-next point c.args.bytes.now c.loop-rest.points.items c.loop-rest.rest.now p c.read_i64-value.result.1.now (length-point p) here c.loop-rest.invariant.taken;
      room = each-append PointFits c.loop-rest.points.items (p ∷ []) c.loop-rest.invariant.room (record { time = subst (FitsSigned w64) (sym same_time) t_fits; value = subst (FitsSigned w64) (sym same_value) v_fits }, tt);
    })
