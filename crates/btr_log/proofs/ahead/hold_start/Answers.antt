use Rattle.std.specs.Prelude.{◌≡◌, ◌*◌, IfErr}
use Rattle.std.proofs.Common.{◌∙◌, ap, subst}
use Rattle.btr_disk.specs.Bytes.{Has}
use Rattle.btr_log.specs.Found.{IsDamagedStart}
use Rattle.btr_log.specs.Piece.{bytes_at}
use Rattle.btr_log.proofs.PieceLemmas.{start_bytes, Has-start, FindCause-result}
use Rattle.btr_log.proofs.ahead.hold_start.Goals as goal

pub returns-clause-cause : goal.returns-clause-cause
returns-clause-cause g c =
    let disk = g.D.Disk in
    let a = c.args in
    let image = disk.contents a.disk.now in
    let new = disk.contents c.hold.new.disk in
    let piece = c.hold.new.self in
    let bytes : c.blocks-2.result.now ≡ start_bytes piece a.blocks a.gate = c.blocks-2.ensures ∙ ap (bytes_at piece a.gate) c.start_blocks.ensures in
    let has : disk.is_observable → Has image (4096 * a.gate) (start_bytes piece a.blocks a.gate) = λ reported.
    Has-start piece a.blocks a.gate a.count c.requires.start.enough c.in_ok-hold.ensures.held image new (c.in_ok-hold.ensures.unwritten reported).same (c.in_ok-hold.ensures.piece reported (c.requires.piece reported)) in
    FindCause-result disk.is_observable image a.blocks a.gate _ _ (start_bytes piece a.blocks a.gate) c.start_of.result has
    (subst (λ b. IfErr c.start_of.result (IsDamagedStart a.blocks a.gate b)) bytes c.start_of.ensures.damaged)
