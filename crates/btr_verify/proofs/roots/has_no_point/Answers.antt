use Rattle.btr_streams.specs.Past.{commits_to}
use Rattle.btr_verify.proofs.RootLemmas.{no-points}
use Rattle.btr_verify.proofs.roots.has_no_point.Goals as goal

pub returns-in-Some : goal.returns-in-Some
returns-in-Some c h of has =
    let made = c.args.made.now in
    no-points h made.stream made.version c.count.result c.in-Some.tree.now (c.in-Some.ensures h of) (c.count.ensures (commits_to h made.stream made.version))
