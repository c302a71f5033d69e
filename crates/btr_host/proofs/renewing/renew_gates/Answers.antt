use Rattle.std.specs.Prelude.{[], ◌∷◌, false}
use Rattle.std.proofs.Common.{inr, subst}
use Rattle.btr_disk.specs.Bytes.{Image}
use Rattle.btr_disk.proofs.ByteLemmas.{Same-is, Same-trans}
use Rattle.btr_host.specs.LogEnd.{IsLastGateOf}
use Rattle.btr_host.specs.Renewed.{RenewsBlock, Renews, RenewsInPart}
use Rattle.btr_host.proofs.RenewLemmas.{on_ok, on_err, Tears-after, RenewsBlock-written, Renews-all, AtMost-none, AtMost-then}
use Rattle.btr_host.proofs.renewing.renew_gates.Goals as goal

pub returns-clause-renewed : goal.returns-clause-renewed
returns-clause-renewed g c seen =
    let disk = g.D.Disk in
    let old = c.args.disk.now in
    let found = c.last_gate.new.disk in
    let first = c.renew.new.disk in
    let second = c.renew-2.new.disk in
    let new = c.renew-3.new.disk in
    let gate = c.in-Some.gate in
    let image = disk.contents old in
    let nothing = c.last_gate.ensures.unwritten seen in
    let same = Same-trans image (disk.contents first) (disk.contents second)
    (Same-trans image (disk.contents found) (disk.contents first) nothing.same (c.in_ok-renew.ensures.same seen)) (c.in_ok-renew-2.ensures.same seen) in
    let last = subst (IsLastGateOf (disk.size old) image) c.in-Some.is (c.in_ok-gate.ensures.last seen) in
    let one = Tears-after 0 4096 (disk.images_now old) (disk.images_now found) (disk.images_now first) nothing.images
    (RenewsBlock-written 0 (disk.contents found) (disk.images_now found) (disk.images_now first) (c.in_ok-renew.ensures.images seen)) in
    let two = RenewsBlock-written 2 (disk.contents first) (disk.images_now first) (disk.images_now second) (c.in_ok-renew-2.ensures.images seen) in
    on_ok c.renew-3.result (RenewsBlock false gate (disk.contents second) (disk.images_now second) (disk.images_now new)) (Renews (disk.size old) image (disk.images_now old) (disk.images_now new))
    (λ renewed.
    Renews-all (disk.size old) image gate (disk.images_now old) (disk.images_now first) (disk.images_now second) (disk.images_now new)
    (g.met.D.Disk.image_bytes seen old) (g.met.D.Disk.image_bytes seen first) (g.met.D.Disk.image_bytes seen second) last one two
    (subst (λ (i : Image). RenewsBlock false gate i (disk.images_now second) (disk.images_now new)) (Same-is image (disk.contents second) same) renewed))
    (c.renew-3.ensures.images seen)

pub returns-clause-failed : goal.returns-clause-failed
returns-clause-failed g c seen =
    let disk = g.D.Disk in
    let old = c.args.disk.now in
    let found = c.last_gate.new.disk in
    let first = c.renew.new.disk in
    let second = c.renew-2.new.disk in
    let new = c.renew-3.new.disk in
    let gate = c.in-Some.gate in
    let was = disk.contents old in
    let nothing = c.last_gate.ensures.unwritten seen in
    let last = subst (IsLastGateOf (disk.size old) was) c.in-Some.is (c.in_ok-gate.ensures.last seen) in
    let none = AtMost-none [] was (disk.contents found) (disk.images_now old) (disk.images_now found) nothing.same nothing.images in
    let one = AtMost-then [] (0 ∷ []) was (disk.contents found) (disk.contents first) (disk.images_now old) (disk.images_now found) (disk.images_now first) none (c.in_ok-renew.ensures.at_most seen) in
    let two = AtMost-then (0 ∷ []) (2 ∷ []) was (disk.contents first) (disk.contents second) (disk.images_now old) (disk.images_now first) (disk.images_now second) one (c.in_ok-renew-2.ensures.at_most seen) in
    on_err c.renew-3.result (RenewsInPart (disk.size old) was (disk.contents new) (disk.images_now old) (disk.images_now new))
    (inr (gate, last, AtMost-then (0 ∷ 2 ∷ []) (gate ∷ []) was (disk.contents second) (disk.contents new) (disk.images_now old) (disk.images_now second) (disk.images_now new) two (c.renew-3.ensures.at_most seen)))
