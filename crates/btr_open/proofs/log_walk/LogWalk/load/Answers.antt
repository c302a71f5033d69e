use Rattle.std.specs.Prelude.{map, slice_get}
use Rattle.std.proofs.Common.{ap, sym, ◌∙◌, subst, arith}
use Rattle.std.proofs.lemmas.Result.{err_from_is_err_and}
use Rattle.btr_log.specs.Log.{log_device as disk_of}
use Rattle.btr_open.specs.Checkpoint.{AreRootsFetched, AreAllTrees, TreesCause, RootsCause}
use Rattle.btr_open.proofs.LogWalkLemmas.{can-read}
use Rattle.btr_open.proofs.StartLoad.{all-fit, roots-load, trees-load}
use Rattle.btr_open.proofs.log_walk.LogWalk.load.Goals as goal

pub fetch_roots-requires-clause-roots : goal.fetch_roots-requires-clause-roots
fetch_roots-requires-clause-roots g c n root at =
    let is = c.in_ok-roots.ensures.only n root (ap (λ l. slice_get l n) (sym c.deref.ensures.value) ∙ at) in
    (is.0, omega (arith, is.1, c.requires.over.limit))

pub returns-in_err-fetch_roots-clause-cause : goal.returns-in_err-fetch_roots-clause-cause
returns-in_err-fetch_roots-clause-cause g c =
    let p = err_from_is_err_and c.from_residual-in_err-fetch_roots.result c.from_residual-in_err-fetch_roots.ensures.1 in
    let cause = subst (λ l. RootsCause g.D.Disk l (disk_of c.args.self.now.log) c.fetch_roots.new.disk c.in_err-fetch_roots.field-0.0) c.deref.ensures.value c.in_err-fetch_roots.ensures.cause in
    rw (p.1, p.2) (roots-load g.D.Disk c.args.self.now.found c.args.checkpoint.now.format c.args.checkpoint.now.roll c.in_ok-roots.roots.items c.in_ok-roots.ensures (disk_of c.args.self.now.log) c.fetch_roots.new.disk c.in_err-fetch_roots.field-0.0 cause)

pub returns-in_err-trees-clause-cause : goal.returns-in_err-trees-clause-cause
returns-in_err-trees-clause-cause g c =
    let disk = g.D.Disk in
    let p = err_from_is_err_and c.from_residual-in_err-trees.result c.from_residual-in_err-trees.ensures.1 in
    let roots = c.in_ok-roots.roots.items in
    let nodes = c.fetch_roots.new.nodes in
    let cause = subst (λ l. TreesCause nodes c.args.self.now.found.checkpoint c.args.checkpoint.now.format l c.in_err-trees.field-0.0) (c.deref-2.ensures.value ∙ c.roll.view_is) c.in_err-trees.ensures.cause in
    rw (p.1, p.2) (trees-load disk c.args.self.now.found c.args.checkpoint.now.format c.args.checkpoint.now.roll roots c.in_ok-roots.ensures (disk_of c.args.self.now.log) c.fetch_roots.new.disk nodes (λ reported. subst (λ n. AreRootsFetched (disk.contents (disk_of c.args.self.now.log)) n roots nodes) c.requires.over.limit (subst (λ l. AreRootsFetched (disk.contents (disk_of c.args.self.now.log)) c.args.self.now.reader.limit l nodes) c.deref.ensures.value (c.in_ok-fetch_roots.ensures.fetched reported))) c.in_err-trees.field-0.0 cause)

pub restored-requires-clause-trees : goal.restored-requires-clause-trees
restored-requires-clause-trees g c =
    let trees = map (λ v. v.items) c.in_ok-trees.trees.items in
    all-fit c.fetch_roots.new.nodes c.args.checkpoint.now.roll trees (subst (λ l. AreAllTrees c.fetch_roots.new.nodes l trees) (c.deref-2.ensures.value ∙ c.roll.view_is) c.in_ok-trees.ensures.trees)

pub fetch_roots-requires-clause-reader : goal.fetch_roots-requires-clause-reader
fetch_roots-requires-clause-reader g c = can-read c.args.self.now c.requires.over
