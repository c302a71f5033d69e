use Rattle.std.specs.Prelude.{◌≡◌, ℕ, ◌+◌, ◌*◌, ◌<◌, ◌≤◌, IfSome, IfNone, List}
use Rattle.std.proofs.Common.{refl, sym, ◌∙◌, subst, inl, inr, arith}
use Rattle.std.proofs.lemmas.Bool.{false≢true}
use Rattle.btr_disk.specs.Bytes.{Has}
use Rattle.btr_disk.specs.Gate.{IsOpen}
use Rattle.btr_log.specs.Log.{log_device as disk_of, log_blocks}
use Rattle.btr_log.specs.Piece.{bytes_at}
use Rattle.btr_log.specs.Extents.{IsBody}
use Rattle.btr_log.specs.Found.{IsDamagedExtent}
use Rattle.btr_log.specs.Ahead.{HoldsExtent, HoldsWhole, MatchesPiece}
use Rattle.btr_roll.specs.Roll.{RollStreamValue}
use Rattle.btr_engine.specs.Body.{MayStandUnder}
use Rattle.btr_open.specs.Start.{HasRoll, IsWrongStart}
use Rattle.btr_open.proofs.Formats.{body-may, head-may}
use Rattle.btr_open.proofs.OpenCauses.{cause-found}
use Rattle.btr_open.proofs.LogWalkLemmas.{log-read, walks-ahead}
use Rattle.btr_open.proofs.StartExtent.{closed-gate, named-extent, other-extent, no-checkpoint-cause, no-roll-damage}
use Rattle.btr_open.proofs.StartContent.{roll-format}
use Rattle.btr_open.proofs.log_walk.LogWalk.read_checkpoint.Given.{Over}
use Rattle.btr_open.proofs.log_walk.LogWalk.read_checkpoint.Goals.{In-Some, then-head-ne2-via-then-head-ne2, then-head-ne2-via-else-head-ne2+then-next-found}
use Rattle.btr_open.proofs.log_walk.LogWalk.read_checkpoint.Goals as goal

pub returns-in-Err-clause-cause : goal.returns-in-Err-clause-cause
returns-in-Err-clause-cause g c =
    let disk = g.D.Disk in
    let d0 = disk_of c.args.self.now.log in
    let d1 = disk_of c.read_ahead.new.self in
    let found = c.args.self.now.found in
    cause-found disk (IsWrongStart (disk.contents d0) found) d0 d1 (log_blocks c.args.self.now.log) found.checkpoint
    (λ reported block damage. (c.requires.some, inr (inl (subst (λ n. IsDamagedExtent (disk.contents d0) n found.checkpoint block) c.requires.over.same_blocks damage))))
    c.in-Err.fault c.cause_of.result c.cause_of.ensures.damaged c.cause_of.ensures.fault c.cause_of.ensures.want c.in-Err.ensures.cause

pub returns-in_default-clause-cause : goal.returns-in_default-clause-cause
returns-in_default-clause-cause g c =
    let disk = g.D.Disk in
    let d0 = disk_of c.args.self.now.log in
    no-checkpoint-cause disk c.args.self.now.found d0 (disk_of c.read_ahead.new.self) c.requires.some c.no_checkpoint.result c.no_checkpoint.ensures (λ reported. record {
      why = inl (closed-gate (disk.contents d0) c.args.self.now.found.checkpoint c.read_ahead.new.piece c.in-Ok.found_there c.in_default.is (c.in-Ok.ensures.found.matches reported));
      of = refl;
    })

-- The body in the piece.
abbrev body : (g : Over) (c : In-Some g) → List ℕ
body g c = bytes_at c.read_ahead.new.piece (c.args.self.now.found.checkpoint + 1) c.in-Some.head.n

held : (g : Over) (c : In-Some g) → HoldsExtent (log_blocks c.args.self.now.log) c.args.self.now.found.checkpoint c.read_ahead.new.piece c.in-Some.head
held g c = subst (HoldsWhole (log_blocks c.args.self.now.log) c.args.self.now.found.checkpoint c.read_ahead.new.piece) c.in-Some.is c.in-Ok.ensures.found.whole

matches : (g : Over) (c : In-Some g) → g.D.Disk.is_observable → IsOpen (g.D.Disk.contents (disk_of c.args.self.now.log)) c.args.self.now.found.checkpoint × Has (g.D.Disk.contents (disk_of c.args.self.now.log)) (4096 * (c.args.self.now.found.checkpoint + 1)) (body g c)
matches g c reported =
    subst (MatchesPiece (g.D.Disk.contents (disk_of c.args.self.now.log)) c.args.self.now.found.checkpoint c.read_ahead.new.piece) c.in-Some.is (c.in-Ok.ensures.found.matches reported)

pub returns-then-head-ne2-clause-cause : goal.returns-then-head-ne2-clause-cause
returns-then-head-ne2-clause-cause g c =
    let disk = g.D.Disk in
    let at = (goal.at.returns-then-head-ne2-clause-cause g c).In-Some in
    let d0 = disk_of c.args.self.now.log in
    let found = c.args.self.now.found in
    let head = c.in-Some.head in
    no-checkpoint-cause disk found d0 (disk_of c.read_ahead.new.self) c.requires.some c.no_checkpoint-then-head-ne2.result c.no_checkpoint-then-head-ne2.ensures (λ reported.
    other-extent (disk.contents d0) found (log_blocks c.args.self.now.log) head (body g at) (found.checkpoint + head.n + 1) (held g at).whole (matches g at reported) (2 * found.side + 1)
    (elim c.then-head-ne2.branch [
      | then-head-ne2-via-then-head-ne2 w ↦ inl w.if-head-ne2.true
      | then-head-ne2-via-else-head-ne2+then-next-found w ↦ inr w.if-next-found.true
    ]) refl)

-- The checkpoint may not stand under the superblock.
pub returns-then-not-may_stand-clause-cause : goal.returns-then-not-may_stand-clause-cause
returns-then-not-may_stand-clause-cause g c reported =
    let disk = g.D.Disk in
    let at = (goal.at.returns-then-not-may_stand-clause-cause g c).In-Some in
    let d0 = disk_of c.args.self.now.log in
    let found = c.args.self.now.found in
    let head = c.in-Some.head in
    let extent = named-extent (disk.contents d0) found (log_blocks c.args.self.now.log) head (body g at) (found.checkpoint + head.n + 1) (held g at).whole (matches g at reported) c.if-head-ne2.false c.if-next-found.false in
    let above : MayStandUnder found.format (body g at) → ⊥ = λ under. false≢true (sym c.if-not-may_stand.true ∙ c.may_stand.ensures.1 (head-may found.format (body g at) head (held g at).whole.is_body under)) in
    no-roll-damage disk found d0 (disk_of c.read_ahead.new.self) c.requires.some (body g at) extent (λ under. absurd (above under))

pub blocks-body-requires : goal.blocks-body-requires
blocks-body-requires g c = (held g (goal.at.blocks-body-requires g c).In-Some).held

pub decode_checkpoint-requires-clause-body : goal.decode_checkpoint-requires-clause-body
decode_checkpoint-requires-clause-body g c =
    let at = (goal.at.decode_checkpoint-requires-clause-body g c).In-Some in
    subst (λ (b : List ℕ). IsBody b c.in-Some.head) (sym c.blocks-body.ensures) (held g at).whole.is_body

pub returns-in-None-clause-cause : goal.returns-in-None-clause-cause
returns-in-None-clause-cause g c reported =
    let disk = g.D.Disk in
    let at = (goal.at.returns-in-None-clause-cause g c).In-Some in
    let d0 = disk_of c.args.self.now.log in
    let found = c.args.self.now.found in
    let head = c.in-Some.head in
    let extent = named-extent (disk.contents d0) found (log_blocks c.args.self.now.log) head (body g at) (found.checkpoint + head.n + 1) (held g at).whole (matches g at reported) c.if-head-ne2.false c.if-next-found.false in
    let none = subst (λ l. (entries : ℕ) (roll : List RollStreamValue) → HasRoll found.checkpoint entries roll l → ⊥) c.blocks-body.ensures (subst (λ o. IfNone o ((entries : ℕ) (roll : List RollStreamValue) → HasRoll found.checkpoint entries roll c.blocks-body.result.now → ⊥)) c.in-None.is c.in_ok-roll.ensures.none) in
    no-roll-damage disk found d0 (disk_of c.read_ahead.new.self) c.requires.some (body g at) extent (λ under. none)

pub returns-in-None-clause-walks : goal.returns-in-None-clause-walks
returns-in-None-clause-walks g c =
    let w = c.args.self.now in
    let e = c.read_ahead.ensures in
    walks-ahead w c.requires.over c.read_ahead.new.self c.read_ahead.new.piece (log-read w.log c.read_ahead.new.self e.kept (record { counts = e.reads.counts; nothing = λ reported. e.reads.nothing reported })) e.piece

-- The checkpoint was read.
pub returns-in-Some-2-clause-read : goal.returns-in-Some-2-clause-read
returns-in-Some-2-clause-read g c =
    let at = (goal.at.returns-in-Some-2-clause-read g c).In-Some in
    let d0 = disk_of c.args.self.now.log in
    let found = c.args.self.now.found in
    let head = c.in-Some.head in
    let roll = c.in-Some-2.roll in
    let read = c.blocks-body.result.now in
    let is_body : IsBody read head = subst (λ (b : List ℕ). IsBody b head) (sym c.blocks-body.ensures) (held g at).whole.is_body in
    let here : HasRoll found.checkpoint head.number roll read = subst (λ o. IfSome o (λ r. HasRoll found.checkpoint head.number r read)) c.in-Some-2.is c.in_ok-roll.ensures.some in
    let format : head.format ≡ here.format = roll-format read head is_body (64 + head.length) refl (omega arith) found.checkpoint head.number roll (omega arith) here in
    let both = subst (λ (b : List ℕ). (h : HasRoll found.checkpoint head.number roll b) × (h.format ≡ head.format)) c.blocks-body.ensures (here, sym format) in
    record {
      body = body g at;
      has = both.0;
      same_format = both.1;
      after = omega (arith, c.if-next-found.false, (held g at).whole.is_body.spells.is_head.blocks);
      under = body-may found.format (body g at) head (held g at).whole.is_body (c.may_stand.ensures.0 c.if-not-may_stand.false);
      extent = λ reported. named-extent (g.D.Disk.contents d0) found (log_blocks c.args.self.now.log) head (body g at) (found.checkpoint + head.n + 1) (held g at).whole (matches g at reported) c.if-head-ne2.false c.if-next-found.false;
    }
