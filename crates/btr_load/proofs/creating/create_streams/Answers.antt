use Rattle.std.proofs.Common.{◌≡◌, ◌<◌, ◌+◌, List, [], length, refl, take, set, get_or, subst, arith}
use Rattle.std.proofs.lemmas.List.{take_all, get_or_default}
use Rattle.btr_hist.specs.declared.entry.Entry.{Entry}
use Rattle.btr_streams.specs.Snapshot.{IsSnapshotOf}
use Rattle.btr_jobs.proofs.DoesLemmas.{does_none, does_then, does_implied}
use Rattle.btr_load.specs.Plan.{IsStreamSettled, AreStreamsSettled}
use Rattle.btr_jobs.proofs.RunLemmas.{length_after, rest_after}
use Rattle.btr_load.proofs.CreateLemmas.{opened_step}
use Rattle.btr_load.proofs.creating.create_streams.Goals as goal

pub loop-stream-init : goal.loop-stream-init
loop-stream-init g c = record {
  at = c.requires.at;
  alone = c.requires.alone;
  long = refl;
  rest = refl;
  does = does_none c.args.hall.now c.args.session.now
      (λ start log low own. (h : List Entry) → IsSnapshotOf h c.args.snapshot.now → AreStreamsSettled start log h low [] [] own log.history)
      (λ start log. λ h of. record { own = refl; next = refl });
}

pub loop-stream-preserved : goal.loop-stream-preserved
loop-stream-preserved g c =
    let inv = c.loop-stream.invariant in
    let done = c.create_stream.ensures in
    let before = c.args.streams.now in
    let after = c.loop-stream.streams in
    let i = c.loop-stream.stream-index in
    let was = get_or after i c.stream-item.result in
    let now = c.create_stream.new.stream in
    let inside : i < length after = omega (arith, c.loop-stream-test.true, inv.long) in
    let is : was ≡ get_or after i was = get_or_default after i c.stream-item.result was inside in
    record {
      at = done.at;
      alone = done.alone;
      long = length_after before after i was now inside inv.long inv.rest is;
      rest = rest_after before after i was now inside inv.long inv.rest is;
      does = does_then c.args.hall.now c.args.session.now c.loop-stream.session c.create_stream.new.session
          (λ start log low own. (h : List Entry) → IsSnapshotOf h c.args.snapshot.now → AreStreamsSettled start log h low (take i before) (take i after) own log.history)
          (λ start log low own. (h : List Entry) → IsSnapshotOf h c.args.snapshot.now → IsStreamSettled start log h low was now own log.history)
          (λ start log low own. (h : List Entry) → IsSnapshotOf h c.args.snapshot.now → AreStreamsSettled start log h low (take (i + 1) before) (take (i + 1) (set after i now)) own log.history)
          done.at
          (λ start late early low a b on starts all one. λ h of.
          opened_step start late early h low before after i was now a b inside inv.long inv.rest is on (all h of) (one h of))
          inv.does done.does;
    }

pub returns-clause-does : goal.returns-clause-does
returns-clause-does g c =
    let inv = c.loop-stream.invariant in
    let before = c.args.streams.now in
    let after = c.loop-stream.streams in
    let i = c.loop-stream.stream-index in
    let all : take i before ≡ before = take_all i before c.loop-stream-test.false in
    let both : take i after ≡ after = take_all i after (omega (arith, inv.long)) in
    does_implied c.args.hall.now c.args.session.now c.loop-stream.session
    (λ start log low own. (h : List Entry) → IsSnapshotOf h c.args.snapshot.now → AreStreamsSettled start log h low (take i before) (take i after) own log.history)
    (λ start log low own. (h : List Entry) → IsSnapshotOf h c.args.snapshot.now → AreStreamsSettled start log h low before after own log.history)
    (λ start log low own opened. λ h of.
    subst (λ l. AreStreamsSettled start log h low before l own log.history) both
    (subst (λ l. AreStreamsSettled start log h low l (take i after) own log.history) all (opened h of)))
    inv.does
