-- One extent more, or why the log was not sent whole.
use Rattle.std.specs.Prelude.{◌≡◌, ℕ, ◌+◌, ◌*◌, ◌++◌, List, [], ◌∷◌, length}
use Rattle.std.proofs.Common.{refl, arith, subst}
use Rattle.std.proofs.lemmas.Result.{err_from_is_err_and}
use Rattle.btr_disk.specs.Bytes.{Has}
use Rattle.btr_disk.specs.Gate.{IsOpen}
use Rattle.btr_log.specs.Found.{IsWholeExtent, IsWhole, MatchesDevice}
use Rattle.btr_log.specs.Reads.{OnlyReads}
use Rattle.btr_follow.specs.Shipping.{frames_in, bytes_in, HasSentPart}
use Rattle.btr_follow.proofs.ShippingLemmas.{on-err, find-cause, sent-more, stops-in, counts-part}
use Rattle.btr_follow.proofs.sending.send_log.Given.{Over}
use Rattle.btr_follow.proofs.sending.send_log.Goals.{In-Extent, After-find_extent}
use Rattle.btr_follow.proofs.sending.send_log.Goals as goal

-- the extent was read, and nothing was written
its_reads : (g : Over) (c : After-find_extent g) → OnlyReads g.D.Disk c.loop-buffer.disk c.find_extent.new.disk
its_reads g c = record { counts = c.find_extent.ensures.counts; nothing = λ seen. c.find_extent.ensures.unwritten seen }

its_extent : (g : Over) (c : In-Extent g) → IsWholeExtent c.args.part.blocks c.loop-buffer.gate c.in-Extent.head c.in-Extent.body.items c.in-Extent.next
its_extent g c = subst (IsWhole c.args.part.blocks c.loop-buffer.gate) c.in-Extent.is c.in_ok-head.ensures.whole

its_place : (g : Over) (c : In-Extent g) → g.D.Disk.is_observable → IsOpen (g.D.Disk.contents c.loop-buffer.disk) c.loop-buffer.gate × Has (g.D.Disk.contents c.loop-buffer.disk) (4096 * (c.loop-buffer.gate + 1)) c.in-Extent.body.items
its_place g c seen = subst (MatchesDevice (g.D.Disk.contents c.loop-buffer.disk) c.loop-buffer.gate) c.in-Extent.is (c.in_ok-head.ensures.matches seen)

pub returns-in_err-head-clause-cause : goal.returns-in_err-head-clause-cause
returns-in_err-head-clause-cause g c =
    let p = err_from_is_err_and c.from_residual.result c.from_residual.ensures.1 in
    rw (p.1, p.2) (find-cause g.D.Disk g.K.Sink c.args.part.from c.args.part.blocks c.args.part.start c.args.disk.now c.loop-buffer.disk c.find_extent.new.disk c.args.sink.now c.loop-buffer.sink c.loop-buffer.sink c.loop-buffer.gate c.loop-buffer.count c.loop-buffer.invariant
    (its_reads g (goal.at.returns-in_err-head-clause-cause g c).After-find_extent) c.in_err-head.field-0.0 c.in_err-head.ensures.cause)

pub returns-in_err-count-clause-part : goal.returns-in_err-count-clause-part
returns-in_err-count-clause-part g c = λ seen.
    let at = (goal.at.returns-in_err-count-clause-part g c).In-Extent in
    on-err c.from_residual-in_err-count.result _
    (stops-in g.D.Disk g.K.Sink c.args.part.from c.args.part.blocks c.args.part.start c.args.disk.now c.loop-buffer.disk c.find_extent.new.disk c.args.sink.now c.loop-buffer.sink c.send_body.new.sink c.loop-buffer.gate c.loop-buffer.count c.loop-buffer.invariant
    (its_reads g (goal.at.returns-in_err-count-clause-part g c).After-find_extent) c.in-Extent.head c.in-Extent.body.items c.in-Extent.next (its_extent g at) (its_place g at)
    (λ told. subst (λ (b : List ℕ). HasSentPart (bytes_in c.args.part.from (b ∷ [])) (g.K.Sink.written c.loop-buffer.sink) (g.K.Sink.written c.send_body.new.sink)) c.deref.ensures.value (c.in_err-count.ensures.part told)) seen)

pub loop-buffer-preserved : goal.loop-buffer-preserved
loop-buffer-preserved g c =
    let at = (goal.at.loop-buffer-preserved g c).In-Extent in
    let ok = c.in_ok-count.ensures in
    sent-more g.D.Disk g.K.Sink c.args.part.from c.args.part.blocks c.args.part.start c.args.disk.now c.loop-buffer.disk c.find_extent.new.disk c.args.sink.now c.loop-buffer.sink c.send_body.new.sink c.loop-buffer.gate c.loop-buffer.count c.loop-buffer.invariant
    (its_reads g (goal.at.loop-buffer-preserved g c).After-find_extent) c.in-Extent.head c.in-Extent.body.items c.in-Extent.next (its_extent g at) (its_place g at)
    c.in_ok-count.field-0 (subst (λ (b : List ℕ). c.in_ok-count.field-0 ≡ length (frames_in c.args.part.from (b ∷ []))) c.deref.ensures.value ok.counted) ok.few
    (λ told. subst (λ (b : List ℕ). g.K.Sink.written c.send_body.new.sink ≡ g.K.Sink.written c.loop-buffer.sink ++ bytes_in c.args.part.from (b ∷ [])) c.deref.ensures.value (ok.sent told)) c.send_body.ensures.later ok.unsent.0

pub returns-in_err-head-clause-counts : goal.returns-in_err-head-clause-counts
returns-in_err-head-clause-counts g c =
    let p = err_from_is_err_and c.from_residual.result c.from_residual.ensures.1 in
    rw (p.1) (counts-part g.D.Disk g.K.Sink c.args.part.from c.args.part.blocks c.args.part.start c.args.disk.now c.loop-buffer.disk c.find_extent.new.disk c.args.sink.now c.loop-buffer.sink c.loop-buffer.sink c.loop-buffer.gate c.loop-buffer.count c.loop-buffer.invariant
    (its_reads g (goal.at.returns-in_err-head-clause-counts g c).After-find_extent)
    p.0 (λ works. refl) (omega arith))

pub returns-in_err-count-clause-counts : goal.returns-in_err-count-clause-counts
returns-in_err-count-clause-counts g c =
    let p = err_from_is_err_and c.from_residual-in_err-count.result c.from_residual-in_err-count.ensures.1 in
    rw (p.1, p.2) (counts-part g.D.Disk g.K.Sink c.args.part.from c.args.part.blocks c.args.part.start c.args.disk.now c.loop-buffer.disk c.find_extent.new.disk c.args.sink.now c.loop-buffer.sink c.send_body.new.sink c.loop-buffer.gate c.loop-buffer.count c.loop-buffer.invariant
    (its_reads g (goal.at.returns-in_err-count-clause-counts g c).After-find_extent)
    c.in_err-count.field-0.0 (λ works. c.in_err-count.ensures.unsent.1 works) c.send_body.ensures.later)
