-- The tree of the next version is that of the commits of the last tree and this one, and its faults are why the version is refused.
use Rattle.std.specs.Prelude.{length, slice_get, Some}
use Rattle.std.proofs.Common.{◌≡◌, ℕ, ◌+◌, ◌-◌, ◌<◌, ap, sym, ◌∙◌, subst, arith}
use Rattle.btr_tree.specs.History.{bag}
use Rattle.btr_tree.proofs.VersionLemmas.{bag-in_order}
use Rattle.btr_base.specs.Commit.{Change}
use Rattle.btr_hist.specs.History.{latest}
use Rattle.btr_base.specs.declared.limits.TheConstants.{MAX_VERSIONS}
use Rattle.btr_streams.specs.Past.{commits_to}
use Rattle.btr_streams.specs.Board.{HasTrees}
use Rattle.btr_streams.specs.Stage.{change_in, WritesVersion}
use Rattle.btr_streams.proofs.BoardCommits.{latest-is, last-tree, next, next-tree, next-allowed, next-cause, next-times, after-many, past-at}
use Rattle.btr_streams.proofs.next_tree.next_tree.Given.{Over}
use Rattle.btr_streams.proofs.next_tree.next_tree.Goals.{After-get}
use Rattle.btr_streams.proofs.next_tree.next_tree.Goals as goal

-- The number of the last tree is the latest version.
last : (g : Over) (c : After-get g) (h : _) (stream : ℕ) → HasTrees h stream c.args.trees.now → c.len-latest.result - 1 ≡ latest h stream
last g c h stream kept = latest-is h stream c.args.trees.now kept c.len-latest.result c.len-latest.ensures

-- The commit makes the version after the last tree.
its_version : (g : Over) (c : After-get g) → c.len-latest.result - 1 + 1 ≡ c.args.commit.now.version
its_version g c = omega (arith, c.requires.trees.some, c.len-latest.ensures, c.requires.commit.version)

pub returns-in-Ok-clause-next : goal.returns-in-Ok-clause-next
returns-in-Ok-clause-next g c h stream kept =
    let trees = c.args.trees.now in
    let at = (goal.at.returns-in-Ok-clause-next g c).After-get in
    let its_change : Change = change_in c.args.commit.now in
    let version = c.args.commit.now.version in
    let before = commits_to h stream (latest h stream) in
    let tree = last-tree h stream trees kept (c.len-latest.result - 1) c.in-Some.last.now (last g at h stream kept) c.in-Some.ensures in
    let number : version ≡ latest h stream + 1 = sym (its_version g at) ∙ ap (λ n. n + 1) (last g at h stream kept) in (
      next-allowed h stream trees kept its_change (subst (λ n. n < MAX_VERSIONS) (last g at h stream kept) c.if-latest-ge-MAX_VERSIONS.false) c.in-Ok.applied.tree version (c.in-Ok.ensures.applied.tree before tree) (c.in-Ok.ensures.applied.room before tree),
      next-tree h stream trees kept its_change c.in-Ok.applied.tree version number (c.in-Ok.ensures.applied.tree before tree),
    )

pub returns-in-Err-clause-cause : goal.returns-in-Err-clause-cause
returns-in-Err-clause-cause g c h stream kept =
    let trees = c.args.trees.now in
    let its_change : Change = change_in c.args.commit.now in
    let at = (goal.at.returns-in-Err-clause-cause g c).After-get in
    let before = commits_to h stream (latest h stream) in
    let version = c.args.commit.now.version in
    let root = c.in-Some.last.now in
    let tree = last-tree h stream trees kept (c.len-latest.result - 1) root (last g at h stream kept) c.in-Some.ensures in
    let commits = next h stream trees kept its_change version in
    let inside = next-times h stream trees kept its_change root version tree c.requires.commit.times in
    next-cause h stream trees kept its_change (subst (λ n. n < MAX_VERSIONS) (last g at h stream kept) c.if-latest-ge-MAX_VERSIONS.false) version c.push_fault.result (c.push_fault.ensures (bag commits) (c.in-Err.ensures.fault before tree) (bag-in_order commits) inside)

pub returns-in-Ok-clause-grown : goal.returns-in-Ok-clause-grown
returns-in-Ok-clause-grown g c =
    let was = past-at c.args.trees.now (c.len-latest.result - 1) c.in-Some.last.now c.requires.trees.pasts c.in-Some.ensures in
    (_, c.in-Ok.ensures.applied.tree was.0 was.1)

pub returns-in-Ok-clause-few : goal.returns-in-Ok-clause-few
returns-in-Ok-clause-few g c =
    let was = past-at c.args.trees.now (c.len-latest.result - 1) c.in-Some.last.now c.requires.trees.pasts c.in-Some.ensures in
    let few = (c.in-Ok.ensures.applied.tree was.0 was.1).few in (
      omega (arith, c.len-latest.ensures, c.if-latest-ge-MAX_VERSIONS.false),
      omega (arith, few, after-many (bag was.0) (change_in c.args.commit.now)),
    )

pub returns-in-Ok-clause-writes : goal.returns-in-Ok-clause-writes
returns-in-Ok-clause-writes g c =
    let trees = c.args.trees.now in
    let latest = c.len-latest.result - 1 in
    let commit = c.args.commit.now in
    let its_change : Change = change_in commit in
    let applied = c.in-Ok.applied in
    let before : latest ≡ length trees - 1 = ap (λ n. n - 1) c.len-latest.ensures in
    let writes : WritesVersion commit.first commit.version its_change c.in-Some.last.now applied.tree applied.nodes.items c.root-root.result = record {
      tree = c.in-Ok.ensures.applied.tree;
      new_ones = c.in-Ok.ensures.applied.nodes;
      few = c.in-Ok.ensures.applied.few;
      laid = c.in-Ok.ensures.applied.stored;
      root_is = c.root-root.ensures;
    } in (
      c.in-Some.last.now,
      subst (λ n. slice_get trees n ≡ Some c.in-Some.last.now) before c.in-Some.ensures,
      subst (λ n. WritesVersion commit.first n its_change c.in-Some.last.now applied.tree applied.nodes.items c.root-root.result) c.requires.commit.version writes,
    )
