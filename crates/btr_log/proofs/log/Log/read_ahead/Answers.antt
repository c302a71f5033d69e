use Rattle.std.specs.Prelude.{◌≡◌, ◌+◌, ◌-◌, ◌≤◌, min, Some}
use Rattle.std.proofs.Common.{sym, ◌∙◌, ap, subst, arith}
use Rattle.std.proofs.lemmas.Option.{same_Some}
use Rattle.std.proofs.lemmas.Result.{err_from_is_err_and}
use Rattle.btr_disk.specs.Bytes.{Same}
use Rattle.btr_disk.proofs.ByteLemmas.{Same-trans}
use Rattle.btr_log.specs.declared.head.Head.{Head}
use Rattle.btr_log.specs.Found.{StartSays, IsOpenStart}
use Rattle.btr_log.specs.Piece.{HoldsBlocks}
use Rattle.btr_log.proofs.PieceLemmas.{start_bytes, length-start, min_few, Has-start, closed-start, fewer, holds-extent, matches-extent, FindCause-before, one-start}
use Rattle.btr_log.proofs.log.Log.read_ahead.Given.{Over}
use Rattle.btr_log.proofs.log.Log.read_ahead.Goals.{In-Some, in_default-2-via-in-Some-2+else-again-head, in_default-2-via-in_default-2}
use Rattle.btr_log.proofs.log.Log.read_ahead.Goals as goal

pub returns-in_default-clause-found : goal.returns-in_default-clause-found
returns-in_default-clause-found g c =
    let disk = g.D.Disk in
    let a = c.args in
    let blocks = a.self.now.blocks in
    let image = disk.contents a.self.now.disk in
    let ok = c.in_ok-head.ensures in
    let few : min 2 (blocks - a.gate) ≤ c.start_blocks-count.result = omega (arith, c.start_blocks-count.ensures) in
    let piece = c.hold_start.new.piece in
    record {
      whole = tt;
      matches = λ reported.
          let has = Has-start piece blocks a.gate c.start_blocks-count.result few ok.found.held image (disk.contents c.hold_start.new.disk) (ok.unwritten reported).same (ok.piece reported) in
          closed-start piece blocks a.gate c.start_blocks-count.result few ok.found.held image c.requires.gate has (subst (StartSays blocks a.gate (start_bytes piece blocks a.gate)) c.in_default.is ok.found.start);
    }

-- What the first reading of the start says.
start : (g : Over) (c : In-Some g) → IsOpenStart c.args.self.now.blocks c.args.gate (start_bytes c.hold_start.new.piece c.args.self.now.blocks c.args.gate) c.in-Some.head
start g c =
    subst (StartSays c.args.self.now.blocks c.args.gate (start_bytes c.hold_start.new.piece c.args.self.now.blocks c.args.gate)) c.in-Some.is c.in_ok-head.ensures.found.start

few : (g : Over) (c : In-Some g) → min 2 (c.args.self.now.blocks - c.args.gate) ≤ c.in-Some.head.n + 1
few g c = min_few (c.args.self.now.blocks - c.args.gate) c.in-Some.head.n (omega (arith, (start g c).spells.is_head.blocks))

pub returns-then-holds-clause-found : goal.returns-then-holds-clause-found
returns-then-holds-clause-found g c =
    let disk = g.D.Disk in
    let at = (goal.at.returns-then-holds-clause-found g c).In-Some in
    let blocks = c.args.self.now.blocks in
    let piece = c.hold_start.new.piece in
    let ok = c.in_ok-head.ensures in
    let held = c.holds.ensures.0 c.if-holds.true in
    record {
      whole = holds-extent piece blocks c.args.gate (c.in-Some.head.n + 1) (few g at) held c.in-Some.head (start g at) (omega arith);
      matches = λ reported.
          matches-extent piece blocks c.args.gate (c.in-Some.head.n + 1) (few g at) held c.in-Some.head (start g at)
          (disk.contents c.args.self.now.disk) (disk.contents c.hold_start.new.disk) (ok.unwritten reported).same (ok.piece reported) (omega arith);
    }

pub returns-in_default-clause-calls : goal.returns-in_default-clause-calls
returns-in_default-clause-calls g c =
    let a = c.args in
    let count = c.start_blocks-count.result in
    let first = c.in_ok-head.ensures.reads.call in
    record {
      most = omega (arith, first.most);
      none = λ holds.
          (first.none (fewer a.piece.now a.gate count (min 2 (a.self.now.blocks - a.gate)) (omega (arith, c.start_blocks-count.ensures)) holds)).1;
    }

pub returns-then-holds-clause-calls : goal.returns-then-holds-clause-calls
returns-then-holds-clause-calls g c =
    let a = c.args in
    let at = (goal.at.returns-then-holds-clause-calls g c).In-Some in
    let count = c.start_blocks-count.result in
    let first = c.in_ok-head.ensures.reads.call in
    record {
      most = omega (arith, first.most);
      none = λ holds.
          (first.none (fewer a.piece.now a.gate count (c.in-Some.head.n + 1) (omega (arith, c.start_blocks-count.ensures, few g at)) holds)).1;
    }

pub returns-in-Some-2-clause-calls : goal.returns-in-Some-2-clause-calls
returns-in-Some-2-clause-calls g c =
    let a = c.args in
    let at = (goal.at.returns-in-Some-2-clause-calls g c).In-Some in
    let count = c.start_blocks-count.result in
    let most = c.in-Some.head.n + 1 in
    let first = c.in_ok-head.ensures.reads.call in
    let second = c.in_ok-again.ensures.reads.call in
    record {
      most = omega (arith, first.most, second.most);
      none = λ holds.
          let held = fewer a.piece.now a.gate most (c.in-Some-2.again.n + 1) (omega (arith, c.if-again-head.true)) holds in
          let before = first.none (fewer a.piece.now a.gate count most (omega (arith, c.start_blocks-count.ensures, few g at)) held) in
          (second.none (subst (λ p. HoldsBlocks p a.gate most) (sym before.0) held)).1 ∙ before.1;
    }

pub returns-in_err-again-clause-cause : goal.returns-in_err-again-clause-cause
returns-in_err-again-clause-cause g c =
    let disk = g.D.Disk in
    let d0 = c.args.self.now.disk in
    let d1 = c.hold_start.new.disk in
    let d2 = c.hold_start-2.new.disk in
    let p = err_from_is_err_and c.from_residual-in_err-again.result c.from_residual-in_err-again.ensures.1 in
    rw (p.1, p.2) (FindCause-before disk.is_observable (disk.contents d0) (disk.contents d1) c.args.self.now.blocks c.args.gate (disk.faults d0) (disk.faults d1) (disk.faults d2) c.in_err-again.field-0.0
    (λ reported. (c.in_ok-head.ensures.unwritten reported).same) c.in_ok-head.ensures.reads.counts.more_faults c.in_err-again.ensures.cause)

pub returns-in-Some-2-clause-found : goal.returns-in-Some-2-clause-found
returns-in-Some-2-clause-found g c =
    let disk = g.D.Disk in
    let at = (goal.at.returns-in-Some-2-clause-found g c).In-Some in
    let blocks = c.args.self.now.blocks in
    let gate = c.args.gate in
    let piece = c.hold_start-2.new.piece in
    let again = c.in-Some-2.again in
    let image = disk.contents c.args.self.now.disk in
    let new = disk.contents c.hold_start-2.new.disk in
    let ok = c.in_ok-again.ensures in
    let start : IsOpenStart blocks gate (start_bytes piece blocks gate) again = subst (StartSays blocks gate (start_bytes piece blocks gate)) c.in-Some-2.is ok.found.start in
    record {
      whole = holds-extent piece blocks gate (c.in-Some.head.n + 1) (few g at) ok.found.held again start (omega (arith, c.if-again-head.true));
      matches = λ reported.
          let same = Same-trans image (disk.contents c.hold_start.new.disk) new (c.in_ok-head.ensures.unwritten reported).same (ok.unwritten reported).same in
          matches-extent piece blocks gate (c.in-Some.head.n + 1) (few g at) ok.found.held again start image new same (ok.piece reported) (omega (arith, c.if-again-head.true));
    }

pub returns-in_default-2-clause-cause : goal.returns-in_default-2-clause-cause
returns-in_default-2-clause-cause g c reported =
    let disk = g.D.Disk in
    let at = (goal.at.returns-in_default-2-clause-cause g c).In-Some in
    let a = c.args in
    let blocks = a.self.now.blocks in
    let head = c.in-Some.head in
    let count = c.start_blocks-count.result in
    let image = disk.contents a.self.now.disk in
    let mid = disk.contents c.hold_start.new.disk in
    let new = disk.contents c.hold_start-2.new.disk in
    let ok = c.in_ok-head.ensures in
    let ok2 = c.in_ok-again.ensures in
    let first = c.hold_start.new.piece in
    let second = c.hold_start-2.new.piece in
    let one : min 2 (blocks - a.gate) ≤ count = omega (arith, c.start_blocks-count.ensures) in
    let same : Same image new = Same-trans image mid new (ok.unwritten reported).same (ok2.unwritten reported).same in
    let sizes = length-start first blocks a.gate count one ok.found.held ∙ sym (length-start second blocks a.gate (head.n + 1) (few g at) ok2.found.held) in
    let has_first = Has-start first blocks a.gate count one ok.found.held image mid (ok.unwritten reported).same (ok.piece reported) in
    let has_second = Has-start second blocks a.gate (head.n + 1) (few g at) ok2.found.held image new same (ok2.piece reported) in
    let found : c.in_ok-again.field-0 ≡ Some head =
    one-start image blocks a.gate (start_bytes first blocks a.gate) (start_bytes second blocks a.gate) head c.in_ok-again.field-0 sizes has_first has_second (start g at) ok2.found.start
    in
    elim c.in_default-2.branch [
      | in_default-2-via-in-Some-2+else-again-head w ↦
          let is : c.in_ok-again.field-0 ≡ Some w.in-Some-2.again = w.in-Some-2.is in
          let same : w.in-Some-2.again.n ≡ head.n = ap (λ (h : Head). h.n) (same_Some w.in-Some-2.again head (sym is ∙ found)) in
          absurd (omega (arith, w.if-again-head.false, same))
      | in_default-2-via-in_default-2 w ↦ absurd (w.in_default-2.not-Some head found)
    ]
