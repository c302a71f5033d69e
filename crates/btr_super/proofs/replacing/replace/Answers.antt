use Rattle.std.proofs.Common.{◌≡◌, ℕ, ◌+◌, ◌*◌, ◌≤◌, List, Result, subst, arith}
use Rattle.btr_disk.specs.declared.disk.Disk.{Ghosts}
use Rattle.btr_disk.specs.Bytes.{Image, Has, SameBut}
use Rattle.btr_disk.specs.Gate.{IsClosed, gate_block}
use Rattle.btr_disk.specs.Images.{Only}
use Rattle.btr_disk.specs.Moments.{Leaves}
use Rattle.btr_disk.proofs.ByteLemmas.{Has-above}
use Rattle.btr_disk.proofs.MomentLemmas.{composes, weakens, left_now}
use Rattle.btr_super.specs.declared.superblock.Super.{Super}
use Rattle.btr_super.specs.Super.{super_bytes, IsSuper}
use Rattle.btr_super.specs.Replace.{IsFollowed, HasOnePrefix, IsButBlock, IsClosing, IsReplacing, WritesBlock}
use Rattle.btr_super.proofs.Side.{IsShut, IsWritten, closing_from, body_written, while_closing, while_body, while_gate, next_chosen}
use Rattle.btr_super.proofs.replacing.replace.Goals as goal

-- An image now is one since each call number up to now.
abbrev CountsNow : {D : Type 0} → Ghosts D → Type 0
CountsNow {D} disk = (d : D) (t : ℕ) (c : Image) → t ≤ disk.calls d → disk.images_now d c → disk.images_since d t c

-- What stands between two of the steps.
abbrev IsShutAt : {D : Type 0} → Ghosts D → Super → D → D → Type 0
IsShutAt disk next d0 d1 = IsShut next.side (disk.contents d0) (disk.images_now d0) (disk.contents d1) (disk.images_now d1)

abbrev IsWrittenAt : {D : Type 0} → Ghosts D → Super → D → D → Type 0
IsWrittenAt disk next d0 d2 = IsWritten next (disk.contents d0) (disk.images_now d0) (disk.contents d2) (disk.images_now d2)

-- The calls of one step.
abbrev Steps : {D : Type 0} → Ghosts D → D → D → (Image → Type 0) → Type 0
Steps disk old new P = Leaves disk.calls disk.images_since old new P

module _ {D : Type 0} (disk : Ghosts D) (counts_now : CountsNow disk) (next : Super) (d0 d1 : D) where
  shut : Steps disk d0 d1 (IsClosing (2 * next.side) (disk.contents d0) (disk.images_now d0)) → IsClosed (disk.contents d1) (2 * next.side) → SameBut (4096 * (2 * next.side)) 4096 (disk.contents d0) (disk.contents d1) → HasOnePrefix (disk.contents d1) (disk.images_now d1) → IsShutAt disk next d0 d1
  shut closing closed but one = record {
    closed = closed;
    but = but;
    one = one;
    from = λ x left. closing_from next.side (disk.contents d0) (disk.images_now d0) x (left_now disk.calls disk.images_since d0 d1 _ (disk.images_now d1) (counts_now d1) closing x left);
  }

  written : (d2 : D) (bytes : List ℕ) → bytes ≡ super_bytes next → IsShutAt disk next d0 d1 → Steps disk d1 d2 (IsButBlock (2 * next.side + 1) (disk.images_now d1)) → SameBut (4096 * (2 * next.side + 1)) 4096 (disk.contents d1) (disk.contents d2) → Has (disk.contents d2) (4096 * (2 * next.side + 1)) bytes → Only (disk.contents d2) (disk.images_now d2) → IsWrittenAt disk next d0 d2
  written d2 bytes spelled at steps but has only =
      body_written next (disk.contents d0) (disk.images_now d0) (disk.contents d1) (disk.images_now d1) (disk.contents d2) (disk.images_now d2) at but
      (subst (Has (disk.contents d2) (4096 * (2 * next.side + 1))) spelled has) only (left_now disk.calls disk.images_since d1 d2 _ (disk.images_now d2) (counts_now d2) steps)

module _ {D : Type 0} (disk : Ghosts D) (s next : Super) (d0 d1 : D) (follows : IsFollowed (disk.size d0) (disk.contents d0) s next) where
  -- up to the closed gate
  to_shut : HasOnePrefix (disk.contents d0) (disk.images_now d0) → Steps disk d0 d1 (IsClosing (2 * next.side) (disk.contents d0) (disk.images_now d0)) → Steps disk d0 d1 (IsReplacing (disk.size d0) (disk.images_now d0) s next)
  to_shut one steps =
      weakens disk.calls disk.images_since d0 d1 (IsClosing (2 * next.side) (disk.contents d0) (disk.images_now d0)) (IsReplacing (disk.size d0) (disk.images_now d0) s next)
      (while_closing (disk.size d0) (disk.contents d0) (disk.images_now d0) s next follows one) steps

  module _ (so_far : Steps disk d0 d1 (IsReplacing (disk.size d0) (disk.images_now d0) s next)) where
    -- from there up to the body
    to_body : (d2 : D) → IsShutAt disk next d0 d1 → Steps disk d1 d2 (IsButBlock (2 * next.side + 1) (disk.images_now d1)) → Steps disk d0 d2 (IsReplacing (disk.size d0) (disk.images_now d0) s next)
    to_body d2 at steps =
        composes disk.calls disk.images_since d0 d1 d2 (IsReplacing (disk.size d0) (disk.images_now d0) s next) so_far
        (weakens disk.calls disk.images_since d1 d2 (IsButBlock (2 * next.side + 1) (disk.images_now d1)) (IsReplacing (disk.size d0) (disk.images_now d0) s next)
        (while_body (disk.size d0) (disk.contents d0) (disk.images_now d0) s next follows (disk.contents d1) (disk.images_now d1) at) steps)

    -- and from the body up to the open gate
    to_gate : (d2 : D) → IsSuper (disk.size d0) next → IsWrittenAt disk next d0 d1 → Steps disk d1 d2 (IsButBlock (2 * next.side) (disk.images_now d1)) → Steps disk d0 d2 (IsReplacing (disk.size d0) (disk.images_now d0) s next)
    to_gate d2 keeps at steps =
        composes disk.calls disk.images_since d0 d1 d2 (IsReplacing (disk.size d0) (disk.images_now d0) s next) so_far
        (weakens disk.calls disk.images_since d1 d2 (IsButBlock (2 * next.side) (disk.images_now d1)) (IsReplacing (disk.size d0) (disk.images_now d0) s next)
        (while_gate (disk.size d0) (disk.contents d0) (disk.images_now d0) s next follows keeps (disk.contents d1) (disk.images_now d1) at) steps)

-- the steps after the gate is closed
module _ {D : Type 0} (disk : Ghosts D) (counts_now : CountsNow disk) (s next : Super) (d0 d1 : D) (follows : IsFollowed (disk.size d0) (disk.contents d0) s next) (one : HasOnePrefix (disk.contents d0) (disk.images_now d0)) (closing : Steps disk d0 d1 (IsClosing (2 * next.side) (disk.contents d0) (disk.images_now d0))) (closed : IsClosed (disk.contents d1) (2 * next.side)) (but : SameBut (4096 * (2 * next.side)) 4096 (disk.contents d0) (disk.contents d1)) (still : HasOnePrefix (disk.contents d1) (disk.images_now d1)) where
  at : IsShutAt disk next d0 d1
  at = shut disk counts_now next d0 d1 closing closed but still

  module _ (d2 : D) {T E : Type 0} (bytes : List ℕ) (result : Result T E) (wrote : WritesBlock disk.calls disk.contents disk.images_now disk.images_since (2 * next.side + 1) bytes d1 d2 result) where
    up_to_body : Steps disk d0 d2 (IsReplacing (disk.size d0) (disk.images_now d0) s next)
    up_to_body = to_body disk s next d0 d1 follows (to_shut disk s next d0 d1 follows one closing) d2 at wrote.moments

    module _ (spelled : bytes ≡ super_bytes next) (has : Has (disk.contents d2) (4096 * (2 * next.side + 1)) bytes) (only : Only (disk.contents d2) (disk.images_now d2)) where
      there : IsWrittenAt disk next d0 d2
      there = written disk counts_now next d0 d1 d2 bytes spelled at wrote.moments wrote.elsewhere has only

      through_gate : (d3 : D) → IsSuper (disk.size d0) next → Steps disk d2 d3 (IsButBlock (2 * next.side) (disk.images_now d2)) → Steps disk d0 d3 (IsReplacing (disk.size d0) (disk.images_now d0) s next)
      through_gate d3 keeps steps = to_gate disk s next d0 d2 follows up_to_body d3 keeps there steps

pub returns-in_err-close_gate-clause-moments : goal.returns-in_err-close_gate-clause-moments
returns-in_err-close_gate-clause-moments g c is_observable s follows one =
    to_shut g.D.Disk s c.args.next.now c.args.device.now c.close_gate.new.device follows one (c.close_gate.ensures.moments is_observable)

pub returns-in_err-write_block-clause-moments : goal.returns-in_err-write_block-clause-moments
returns-in_err-write_block-clause-moments g c is_observable s follows one =
    let first = c.in_ok-close_gate.ensures in
    up_to_body g.D.Disk (g.met.D.Disk.counts_now is_observable) s c.args.next.now c.args.device.now c.close_gate.new.device follows one
    (first.moments is_observable) (first.closed is_observable) (first.elsewhere is_observable) (first.prefix is_observable one)
    c.write_block.new.device c.encode.result c.write_block.result (c.write_block.ensures.writes is_observable)

pub returns-in_err-write_block-2-clause-moments : goal.returns-in_err-write_block-2-clause-moments
returns-in_err-write_block-2-clause-moments g c is_observable s follows one =
    let first = c.in_ok-close_gate.ensures in
    let second = c.in_ok-write_block.ensures.writes is_observable in
    through_gate g.D.Disk (g.met.D.Disk.counts_now is_observable) s c.args.next.now c.args.device.now c.close_gate.new.device follows one
    (first.moments is_observable) (first.closed is_observable) (first.elsewhere is_observable) (first.prefix is_observable one)
    c.write_block.new.device c.encode.result _ second c.encode.ensures second.written second.synced
    c.write_block-2.new.device c.requires (c.write_block-2.ensures.writes is_observable).moments

pub returns-clause-stored : goal.returns-clause-stored
returns-clause-stored g c is_observable =
    let contents = g.D.Disk.contents in
    let next = c.args.next.now in
    let d2 = c.write_block.new.device in
    let d3 = c.write_block-2.new.device in
    let last = c.in_ok-write_block-2.ensures.writes is_observable in
    let body : Has (contents d2) (4096 * (2 * next.side + 1)) (super_bytes next) =
    subst (Has (contents d2) (4096 * (2 * next.side + 1))) c.encode.ensures (c.in_ok-write_block.ensures.writes is_observable).written in
    record {
      written = record {
        gate = subst (Has (contents d3) (4096 * (2 * next.side))) c.open_gate.ensures last.written;
        body = Has-above (4096 * (2 * next.side)) 4096 (contents d2) (contents d3) last.elsewhere
            (4096 * (2 * next.side + 1)) (super_bytes next) (omega arith) body;
      };
      synced = last.synced;
    }

pub returns-clause-replaced : goal.returns-clause-replaced
returns-clause-replaced g c is_observable s follows one =
    let disk = g.D.Disk in
    let next = c.args.next.now in
    let d0 = c.args.device.now in
    let d2 = c.write_block.new.device in
    let d3 = c.write_block-2.new.device in
    let first = c.in_ok-close_gate.ensures in
    let second = c.in_ok-write_block.ensures.writes is_observable in
    let last = c.in_ok-write_block-2.ensures.writes is_observable in
    let written = there disk (g.met.D.Disk.counts_now is_observable) s next d0 c.close_gate.new.device follows one
    (first.moments is_observable) (first.closed is_observable) (first.elsewhere is_observable) (first.prefix is_observable one)
    d2 c.encode.result _ second c.encode.ensures second.written second.synced in
    let gate : Has (disk.contents d3) (4096 * (2 * next.side)) gate_block =
    subst (Has (disk.contents d3) (4096 * (2 * next.side))) c.open_gate.ensures last.written in
    next_chosen (disk.size d0) (disk.contents d0) (disk.images_now d0) s next follows c.requires (disk.contents d2) (disk.images_now d2) written (disk.contents d3) last.elsewhere gate

pub returns-clause-moments : goal.returns-clause-moments
returns-clause-moments g c is_observable s follows one =
    let first = c.in_ok-close_gate.ensures in
    let second = c.in_ok-write_block.ensures.writes is_observable in
    through_gate g.D.Disk (g.met.D.Disk.counts_now is_observable) s c.args.next.now c.args.device.now c.close_gate.new.device follows one
    (first.moments is_observable) (first.closed is_observable) (first.elsewhere is_observable) (first.prefix is_observable one)
    c.write_block.new.device c.encode.result _ second c.encode.ensures second.written second.synced
    c.write_block-2.new.device c.requires (c.write_block-2.ensures.writes is_observable).moments
