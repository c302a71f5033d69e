use Rattle.std.specs.Prelude.{take}
use Rattle.std.proofs.Common.{refl, arith, sym, subst, get_or}
use Rattle.std.proofs.lemmas.List.{take_more}
use Rattle.std.proofs.lemmas.Option.{slice_get-get_or}
use Rattle.std.proofs.lemmas.Result.{err_from_is_err_and}
use Rattle.btr_log.proofs.OnlyReading.{no-calls}
use Rattle.btr_open.proofs.StartRoots.{IsFetchedSo, grown-none, fetched-none, own-so, fetched-on, cause-so}
use Rattle.btr_open.proofs.roll_roots.fetch_roots.Goals as goal

pub loop-root-init : goal.loop-root-init
loop-root-init g c =
    let disk = g.D.Disk in
    let d = c.args.disk.now in
    record {
      limit_is = refl;
      reads = no-calls d (λ reported. g.met.D.Disk.only_now reported d);
      holds = c.requires.reader.holds;
      grown = grown-none c.args.reader.now.limit c.args.nodes.now c.requires.nodes;
      fetched = λ reported. fetched-none (disk.contents d) c.args.reader.now.limit c.args.nodes.now c.requires.nodes;
    }

pub fetch_root-requires-clause-some : goal.fetch_root-requires-clause-some
fetch_root-requires-clause-some g c =
    let i = c.loop-root.root-index in
    (c.requires.roots i (get_or c.args.roots.now i 0) (slice_get-get_or c.args.roots.now i 0 c.loop-root-test.true)).0

pub fetch_root-requires-clause-below : goal.fetch_root-requires-clause-below
fetch_root-requires-clause-below g c =
    let i = c.loop-root.root-index in
    let low = (c.requires.roots i (get_or c.args.roots.now i 0) (slice_get-get_or c.args.roots.now i 0 c.loop-root-test.true)).1 in
    omega (arith, low, c.loop-root.invariant.limit_is)

pub fetch_root-requires-clause-reader : goal.fetch_root-requires-clause-reader
fetch_root-requires-clause-reader g c =
    let so = c.loop-root.invariant in
    let can = c.requires.reader in
    record {
      inside = omega (arith, so.limit_is, so.reads.counts.same_size, can.inside);
      addressable = omega (arith, so.limit_is, can.addressable);
      holds = so.holds;
    }

pub fetch_root-requires-clause-own : goal.fetch_root-requires-clause-own
fetch_root-requires-clause-own g c =
    let l = c.loop-root in
    own-so g.D.Disk c.args.disk.now l.disk c.args.reader.now.limit l.reader (take l.root-index c.args.roots.now) l.nodes l.invariant

pub returns-in_err-fetch_root-clause-cause : goal.returns-in_err-fetch_root-clause-cause
returns-in_err-fetch_root-clause-cause g c =
    let l = c.loop-root in
    let i = l.root-index in
    let p = err_from_is_err_and c.from_residual.result c.from_residual.ensures.1 in
    rw (p.1, p.2) (cause-so g.D.Disk c.args.disk.now l.disk c.args.reader.now.limit l.reader (take i c.args.roots.now) l.nodes l.invariant c.args.roots.now i (get_or c.args.roots.now i 0) c.fetch_root.new.disk c.in_err-fetch_root.field-0.0 (slice_get-get_or c.args.roots.now i 0 c.loop-root-test.true) c.in_err-fetch_root.ensures.cause)

pub loop-root-preserved : goal.loop-root-preserved
loop-root-preserved g c =
    let l = c.loop-root in
    let i = l.root-index in
    let e = c.in_ok-fetch_root.ensures in
    let next = fetched-on g.D.Disk c.args.disk.now l.disk c.args.reader.now.limit l.reader (take i c.args.roots.now) l.nodes l.invariant c.fetch_root.new.disk (get_or c.args.roots.now i 0) c.fetch_root.new.reader c.fetch_root.new.nodes c.fetch_root.ensures.reads e.grows e.fetches in
    subst (λ xs. IsFetchedSo g.D.Disk c.args.disk.now c.fetch_root.new.disk c.args.reader.now.limit c.fetch_root.new.reader xs c.fetch_root.new.nodes) (sym (take_more c.args.roots.now i 0 c.loop-root-test.true)) next
