use Rattle.std.specs.Prelude.{◌≡◌, ◌+◌, ◌*◌, false, Some, IfSome, IfNone}
use Rattle.std.proofs.Common.{refl, sym, ◌∙◌, ap, subst, inr, arith}
use Rattle.std.proofs.lemmas.Bool.{false≢true}
use Rattle.std.proofs.lemmas.Result.{err_from_is_err_and}
use Rattle.btr_disk.specs.Bytes.{Has}
use Rattle.btr_disk.specs.Gate.{IsOpen}
use Rattle.btr_log.specs.Log.{log_device as disk_of}
use Rattle.btr_log.specs.Ahead.{MatchesPiece}
use Rattle.btr_super.specs.Super.{has_seal}
use Rattle.btr_open.specs.declared.place.Place.{Place}
use Rattle.btr_open.specs.LogWalk.{IsAhead, IsWalked, HoldsNext, body_ahead, ReadsExtent, BreaksExtent}
use Rattle.btr_open.specs.Walk.{IsDamagedGate}
use Rattle.btr_open.specs.Place.{IsPlaceAfter}
use Rattle.btr_open.specs.Reading.{IsDamagedStoreBy}
use Rattle.btr_open.proofs.NextLemmas.{gate-damaged}
use Rattle.btr_open.proofs.OpenCauses.{cause-along}
use Rattle.btr_log.proofs.OnlyReading.{same-bytes}
use Rattle.btr_open.proofs.LogWalkLemmas.{walk-with, walks-trans, walks-moved, ahead-walked, extent-above, extent-breaks, extent-walked}
use Rattle.btr_open.proofs.log_walk.LogWalk.read_next.Given.{Over}
use Rattle.btr_open.proofs.log_walk.LogWalk.read_next.Goals.{In-Some}
use Rattle.btr_open.proofs.log_walk.LogWalk.read_next.Goals as goal

pub find_next-requires-clause-gate : goal.find_next-requires-clause-gate
find_next-requires-clause-gate g c = c.requires.walked.at.inside

pub returns-in_err-head-clause-cause : goal.returns-in_err-head-clause-cause
returns-in_err-head-clause-cause g c =
    let disk = g.D.Disk in
    let p = err_from_is_err_and c.from_residual.result c.from_residual.ensures.1 in
    let w = c.args.self.now in
    let d0 = disk_of w.log in
    let image = disk.contents d0 in
    rw (p.1, p.2) (cause-along disk (IsDamagedGate image w.found w.place.gate) (IsDamagedStoreBy g.J.Judge.may image w.found) d0 d0 (disk_of c.find_next.new.self.log) (omega arith)
    (λ reported block damage. inr (gate-damaged g.J.Judge (disk.size d0) image w.found w.place.gate w.loader c.args.judge.now (c.requires.walked.read reported) block damage))
    c.in_err-head.field-0.0 c.in_err-head.ensures.cause)

pub returns-in_default-clause-walked : goal.returns-in_default-clause-walked
returns-in_default-clause-walked g c =
    let found = c.in_ok-head.ensures.found in
    ahead-walked g.J.Judge c.args.self.now c.find_next.new.self c.args.judge.now c.find_next.ensures.walks found.loader found.place c.requires.walked

pub returns-in_default-clause-end : goal.returns-in_default-clause-end
returns-in_default-clause-end g c is =
    let found = c.in_ok-head.ensures.found in
    record {
      place = found.place;
      loader = found.loader;
      judge = refl;
      closed = λ reported. subst (MatchesPiece (g.D.Disk.contents (disk_of c.args.self.now.log)) c.args.self.now.place.gate c.find_next.new.self.piece) c.in_default.is (found.matches reported);
    }

-- ---- at an open gate

-- What was read is as before.
walked : (g : Over) (c : In-Some g) → IsWalked g.J.Judge c.find_next.new.self c.args.judge.now
walked g c =
    let found = c.in_ok-head.ensures.found in
    ahead-walked g.J.Judge c.args.self.now c.find_next.new.self c.args.judge.now c.find_next.ensures.walks found.loader found.place c.requires.walked

holds : (g : Over) (c : In-Some g) → HoldsNext c.find_next.new.self c.in-Some.head
holds g c = subst (λ o. IfSome o (HoldsNext c.find_next.new.self)) c.in-Some.is c.in_ok-head.ensures.found.holds

unsealed : (g : Over) (c : In-Some g) → has_seal c.find_next.new.self.found ≡ false
unsealed g c =
    ap has_seal c.find_next.ensures.walks.same_super ∙ subst (λ o. IfSome o (λ head. has_seal c.args.self.now.found ≡ false)) c.in-Some.is c.in_ok-head.ensures.found.unsealed

-- What the device has of the extent.
matches : (g : Over) (c : In-Some g) → g.D.Disk.is_observable → IsOpen (g.D.Disk.contents (disk_of c.find_next.new.self.log)) c.find_next.new.self.place.gate × Has (g.D.Disk.contents (disk_of c.find_next.new.self.log)) (4096 * (c.find_next.new.self.place.gate + 1)) (body_ahead c.find_next.new.self c.in-Some.head)
matches g c reported =
    let w = c.args.self.now in
    let mid = c.find_next.new.self in
    let found = c.in_ok-head.ensures.found in
    let image = g.D.Disk.contents (disk_of w.log) in
    subst (λ i. MatchesPiece i mid.place.gate mid.piece (Some c.in-Some.head)) (same-bytes (disk_of w.log) (disk_of mid.log) c.find_next.ensures.walks.reads.reads reported)
    (subst (λ (p : Place). MatchesPiece image p.gate mid.piece (Some c.in-Some.head)) (sym found.place) (subst (MatchesPiece image w.place.gate mid.piece) c.in-Some.is (found.matches reported)))

-- A block that breaks the store as it was read breaks it as it was.
damaged : (g : Over) (c : In-Some g) (block : _) → g.D.Disk.is_observable → IsDamagedStoreBy g.J.Judge.may (g.D.Disk.contents (disk_of c.find_next.new.self.log)) c.find_next.new.self.found block → IsDamagedStoreBy g.J.Judge.may (g.D.Disk.contents (disk_of c.args.self.now.log)) c.args.self.now.found block
damaged g c block reported is =
    let w = c.args.self.now in
    let walks = c.find_next.ensures.walks in
    subst (λ s. IsDamagedStoreBy g.J.Judge.may (g.D.Disk.contents (disk_of w.log)) s block) walks.same_super
    (subst (λ i. IsDamagedStoreBy g.J.Judge.may i c.find_next.new.self.found block) (sym (same-bytes (disk_of w.log) (disk_of c.find_next.new.self.log) walks.reads.reads reported)) is)

pub returns-then-not-may_stand-clause-cause : goal.returns-then-not-may_stand-clause-cause
returns-then-not-may_stand-clause-cause g c reported =
    let at = (goal.at.returns-then-not-may_stand-clause-cause g c).In-Some in
    let mid = c.find_next.new.self in
    damaged g at (mid.place.gate + 1) reported
    (extent-above g.J.Judge mid c.args.judge.now (walked g at) c.in-Some.head (holds g at) (matches g at) (unsealed g at) (λ may. false≢true (sym c.if-not-may_stand.true ∙ c.may_stand.ensures.1 may)) reported)

pub read_body-requires-clause-walked : goal.read_body-requires-clause-walked
read_body-requires-clause-walked g c = walked g (goal.at.read_body-requires-clause-walked g c).In-Some

pub read_body-requires-clause-holds : goal.read_body-requires-clause-holds
read_body-requires-clause-holds g c = holds g (goal.at.read_body-requires-clause-holds g c).In-Some

pub returns-in-Some-2-clause-cause : goal.returns-in-Some-2-clause-cause
returns-in-Some-2-clause-cause g c reported =
    let at = (goal.at.returns-in-Some-2-clause-cause g c).In-Some in
    let mid = c.find_next.new.self in
    let head = c.in-Some.head in
    let j = c.args.judge.now in
    let block = c.in-Some-2.block in
    let breaks = subst (λ o. IfSome o (BreaksExtent g.J.Judge mid head j)) c.in-Some-2.is c.in_ok-block.ensures.damaged in
    damaged g at block reported
    (extent-breaks g.J.Judge mid j (walked g at) head (holds g at) (matches g at) (unsealed g at) (c.may_stand.ensures.0 c.if-not-may_stand.false) block breaks reported)

pub returns-in-Some-2-clause-walks : goal.returns-in-Some-2-clause-walks
returns-in-Some-2-clause-walks g c =
    walks-trans c.args.self.now c.find_next.new.self c.read_body.new.self c.find_next.ensures.walks c.read_body.ensures.walks

pub returns-in-None-clause-walks : goal.returns-in-None-clause-walks
returns-in-None-clause-walks g c =
    let new = c.read_body.new.self in
    walks-moved c.args.self.now new c.after-self.result (walks-trans c.args.self.now c.find_next.new.self new c.find_next.ensures.walks c.read_body.ensures.walks)

pub returns-in-None-clause-walked : goal.returns-in-None-clause-walked
returns-in-None-clause-walked g c =
    let at = (goal.at.returns-in-None-clause-walked g c).In-Some in
    let mid = c.find_next.new.self in
    let new = c.read_body.new.self in
    let head = c.in-Some.head in
    let j = c.args.judge.now in
    let after = c.read_body.new.judge in
    let next = mid.place.gate + head.n + 1 in
    let reads = subst (λ o. IfNone o (ReadsExtent g.J.Judge mid new.loader head j after)) c.in-None.is c.in_ok-block.ensures.read in
    let goes = subst (λ p. IsPlaceAfter p next c.after-self.result) c.read_body.ensures.place c.after-self.ensures in
    extent-walked g.J.Judge mid j (walked g at) head (holds g at) (matches g at) (unsealed g at) (c.may_stand.ensures.0 c.if-not-may_stand.false) new.loader (walk-with new new.log new.reader new.piece new.loader c.after-self.result) after (walks-moved mid new c.after-self.result c.read_body.ensures.walks) refl goes reads
