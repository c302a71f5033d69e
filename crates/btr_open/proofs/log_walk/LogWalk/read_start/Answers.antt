use Rattle.std.specs.Prelude.{◌<◌}
use Rattle.std.proofs.Common.{sym, subst, arith}
use Rattle.std.proofs.lemmas.Result.{err_from_is_err_and}
use Rattle.btr_log.specs.Log.{log_device as disk_of}
use Rattle.btr_open.specs.Checkpoint.{AreOfSome, IsLoaded, StartCause}
use Rattle.btr_log.proofs.OnlyReading.{same-bytes}
use Rattle.btr_open.proofs.LogWalkLemmas.{walks-trans, walks-moved}
use Rattle.btr_open.proofs.StartExtent.{load-cause}
use Rattle.btr_open.proofs.StartLemmas.{read-none, read-to-none, read-to-some, read-checkpoint}
use Rattle.btr_open.proofs.log_walk.LogWalk.read_start.Goals as goal

pub returns-then-found-eq0-clause-read : goal.returns-then-found-eq0-clause-read
returns-then-found-eq0-clause-read g c reported =
    let d = disk_of c.args.self.now.log in
    read-none (g.D.Disk.size d) (g.D.Disk.contents d) c.args.self.now.found c.args.self.now.loader c.requires.new.over.table c.if-found-eq0.true c.requires.new.board c.requires.new.nodes c.requires.new.least

pub returns-in_err-load-clause-cause : goal.returns-in_err-load-clause-cause
returns-in_err-load-clause-cause g c =
    let some : 0 < c.args.self.now.found.checkpoint = omega (arith, c.if-found-eq0.false) in
    let p = err_from_is_err_and c.from_residual-in_err-load.result c.from_residual-in_err-load.ensures.1 in
    rw (p.1, p.2) (load-cause g.D.Disk c.args.self.now.found (disk_of c.args.self.now.log) (disk_of c.read_checkpoint.new.self.log) (disk_of c.load.new.self.log) some c.read_checkpoint.ensures.walks.reads.reads c.in_ok-checkpoint.checkpoint.entries c.in_ok-checkpoint.checkpoint.format c.in_ok-checkpoint.checkpoint.roll c.in_ok-checkpoint.ensures.read c.in_err-load.field-0.0 (subst (λ s. StartCause g.D.Disk s c.in_ok-checkpoint.checkpoint.format c.in_ok-checkpoint.checkpoint.roll (disk_of c.read_checkpoint.new.self.log) (disk_of c.load.new.self.log) c.in_err-load.field-0.0) c.read_checkpoint.ensures.walks.same_super c.in_err-load.ensures.cause))

pub returns-clause-place : goal.returns-clause-place
returns-clause-place g c =
    let read = c.in_ok-checkpoint.ensures.read in
    let table = c.requires.new.over.table in
    record {
      inside = table.tail_to;
      counted = omega (arith, c.in_ok-load.ensures.entries);
      ends = omega (arith, read.has.bound, read.after);
      after_start = omega arith;
    }

pub returns-clause-read : goal.returns-clause-read
returns-clause-read g c reported =
    let disk = g.D.Disk in
    let d0 = disk_of c.args.self.now.log in
    let d1 = disk_of c.read_checkpoint.new.self.log in
    let found = c.args.self.now.found in
    let some : 0 < found.checkpoint = omega (arith, c.if-found-eq0.false) in
    let read = c.in_ok-checkpoint.ensures.read in
    let entries = c.in_ok-checkpoint.checkpoint.entries in
    let roll = c.in_ok-checkpoint.checkpoint.roll in
    let loaded = subst (λ i. IsLoaded i found.checkpoint roll entries c.load.new.self.loader) (sym (same-bytes d0 d1 c.read_checkpoint.ensures.walks.reads.reads reported)) (subst (λ s. IsLoaded (disk.contents d1) s.checkpoint roll entries c.load.new.self.loader) c.read_checkpoint.ensures.walks.same_super (c.in_ok-load.ensures.loaded reported)) in
    read-checkpoint (disk.size d0) (disk.contents d0) found c.load.new.self.loader c.requires.new.over.table some entries roll read.body read.has (read.extent reported) read.under loaded

pub returns-then-found-eq0-clause-into : goal.returns-then-found-eq0-clause-into
returns-then-found-eq0-clause-into g c = read-to-none c.args.self.now.loader c.requires.new.board c.requires.new.nodes c.requires.new.least

pub returns-clause-into : goal.returns-clause-into
returns-clause-into g c =
    let read = c.in_ok-checkpoint.ensures.read in
    read-to-some c.args.self.now.found.checkpoint c.args.self.now.found.tail c.load.new.self.loader (omega (arith, read.after)) (subst (λ s. AreOfSome s.checkpoint c.load.new.self.loader.nodes) c.read_checkpoint.ensures.walks.same_super c.in_ok-load.ensures.grown)

pub returns-clause-walks : goal.returns-clause-walks
returns-clause-walks g c =
    walks-moved c.args.self.now c.load.new.self _ (walks-trans c.args.self.now c.read_checkpoint.new.self c.load.new.self c.read_checkpoint.ensures.walks c.load.ensures.walks)
