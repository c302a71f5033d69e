use Rattle.std.specs.Prelude.{◌≡◌, ◌+◌, ◌++◌, ℕ, List, length, take}
use Rattle.std.specs.List.{flat_map}
use Rattle.std.proofs.Common.{arith, ap, subst, sym, ◌∙◌, length-append, Vec, Global}
use Rattle.btr_disk.specs.Bytes.{Image, Has, SameBut}
use Rattle.btr_disk.specs.CallRecord.{contents_of}
use Rattle.btr_disk.proofs.PartLemmas.{more_parts, parts_fit, written_more, changed_more}
use Rattle.btr_disk.proofs.memory.overwrite_parts.Goals as goal

abbrev items : Vec ℕ Global → List ℕ
items v = v.items

pub overwrite-requires : goal.overwrite-requires
overwrite-requires c =
    let fit = parts_fit items c.args.parts.now c.loop-part.part-index c.part-item.result c.loop-part-test.true c.part-item.is in
    omega (arith, c.requires, fit, c.loop-part.invariant.0, c.loop-part.invariant.1, ap length c.deref.ensures.value)

pub overflow_add-place : goal.overflow_add-place
overflow_add-place c =
    let fit = parts_fit items c.args.parts.now c.loop-part.part-index c.part-item.result c.loop-part-test.true c.part-item.is in
    omega (arith, c.requires, fit, c.loop-part.invariant.0, c.args.file.now.ok, c.args.file.now.small, c.len-place.ensures)

pub loop-part-preserved : goal.loop-part-preserved
loop-part-preserved c =
    let inv = c.loop-part.invariant in
    let done = flat_map items (take c.loop-part.part-index c.args.parts.now) in
    let more = c.deref.result.now in
    let old : Image = contents_of c.args.file.now.items in
    let mid : Image = contents_of c.loop-part.file.items in
    let new : Image = contents_of c.overwrite.new.file.items in
    let grown : done ++ more ≡ flat_map items (take (c.loop-part.part-index + 1) c.args.parts.now) =
    ap (λ (l : List ℕ). done ++ l) c.deref.ensures.value ∙ sym (more_parts items c.args.parts.now c.loop-part.part-index c.part-item.result c.loop-part-test.true c.part-item.is) in
    let has = subst (λ (a : ℕ). Has new a more) inv.0 c.overwrite.ensures.written in
    let then = subst (λ (a : ℕ). SameBut a (length more) mid new) inv.0 c.overwrite.ensures.elsewhere in
    let written = written_more c.args.at done more old mid new then inv.2 has in
    let changed = changed_more c.args.at done more old mid new then inv.3 in (
      omega (arith, inv.0, c.len-place.ensures, ap length c.deref.ensures.value, length-append done more, ap length grown),
      c.overwrite.ensures.length ∙ inv.1,
      subst (λ (l : List ℕ). Has new c.args.at l) grown written,
      subst (λ (l : List ℕ). SameBut c.args.at (length l) old new) grown changed,
      c.overwrite.ensures.are_bytes,
    )
