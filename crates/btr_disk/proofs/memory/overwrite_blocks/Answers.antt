use Rattle.std.specs.Prelude.{◌≡◌, ◌+◌, ◌-◌, ◌*◌, ◌≤◌, length, take, drop}
use Rattle.std.proofs.Common.{◌∙◌, arith, length-take, length-drop}
use Rattle.std.proofs.lemmas.List.{take_all}
use Rattle.btr_disk.proofs.Recording.{Has-placed}
use Rattle.btr_disk.proofs.memory.overwrite_blocks.Goals as goal

pub returns-clause-written : goal.returns-clause-written
returns-clause-written g c =
    let file = c.args.file.now in
    let bytes = g.B.Blocks.bytes c.args.rest.now in
    let size = length bytes in
    let at = c.args.at in
    let place = c.deref_mut.result.now in
    let n = (at + 4096 * c.blocks-2.result) - at in
    let long : length place ≡ file.len = omega (arith, c.deref_mut.ensures.len) in
    let room : length (take n (drop at place)) ≡ size =
    omega (arith, length-take n (drop at place), length-drop at place, long, file.ok.0, c.requires, c.blocks-2.ensures.whole) in
    let is : c.fill.new.to ≡ bytes = c.fill.ensures ∙ take_all (length (take n (drop at place))) bytes (omega (arith, room)) in
    let fits : at + size ≤ file.len = omega (arith, file.ok.0, c.requires) in
    rw is
    (Has-placed file.len at place bytes _ _ (omega (arith, long, fits)) fits)
