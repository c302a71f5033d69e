-- Lemmas on the past of a stream: its versions rise, and up to a version it is the past of the version.
use Rattle.std.specs.Prelude.{◌≡◌, ℕ, ◌+◌, ◌<◌, ◌≤◌, List, [], ◌∷◌, take}
use Rattle.std.proofs.Common.{arith, sym, subst}
use Rattle.btr_base.specs.Commit.{Change}
use Rattle.btr_tree.specs.History.{Past, Opened, nothing, ◌▷◌, IsBefore}
use Rattle.btr_tree.specs.Nodes.{up_to}
use Rattle.btr_tree.specs.Root.{TreeValue, IsTree}
use Rattle.btr_hist.specs.declared.entry.Entry.{Entry}
use Rattle.btr_hist.specs.History.{commits, latest}
use Rattle.btr_streams.specs.Past.{with_commits, commits_to}
use Rattle.btr_streams.specs.Board.{IsTreeOf}
use Rattle.btr_streams.proofs.BoardTrees.{made_by, before-nothing, up_to-commits_to}
use Rattle.btr_verify.specs.Judged.{IsRising}
use Rattle.btr_verify.specs.Trees.{past_of}

before-later : (v w : ℕ) (h : Past) → v ≤ w → IsBefore v h → IsBefore w h
before-later v w (Opened b dates) le k = λ height start. let low = k height start in omega (arith, le)
before-later v w (c ▷ h) le k = (let first : c.version < v = k.0 in omega arith, before-later v w h le k.1)

rising-with : (made : ℕ) (before : Past) (cs : List Change) → IsBefore (made + 1) before → IsRising before → IsRising (with_commits made before cs)
rising-with made before [] below rising = rising
rising-with made before (c ∷ cs) below rising =
    let next : IsBefore (made + 1 + 1) (made_by (made + 1) c ▷ before) = (omega arith, before-later (made + 1) (made + 1 + 1) before (omega arith) below) in
    rising-with (made + 1) (made_by (made + 1) c ▷ before) cs next (below, rising)

-- Each commit of a stream is newer than those before it.
pub past-rising : (h : List Entry) (stream : ℕ) → IsRising (past_of h stream)
past-rising h stream = rising-with 0 nothing (take (latest h stream) (commits h stream)) before-nothing tt

-- The commits of a stream up to a version.
pub past-to : (h : List Entry) (stream version : ℕ) → version ≤ latest h stream → up_to version (past_of h stream) ≡ commits_to h stream version
past-to h stream version le = up_to-commits_to h stream version (latest h stream) le (omega arith)

-- The tree of a version is that of the stream's past up to the version.
pub tree-to : (h : List Entry) (stream version : ℕ) (t : TreeValue) → IsTreeOf h stream version t → IsTree (up_to version (past_of h stream)) t
tree-to h stream version t of =
    subst (λ p. IsTree p t) (sym (past-to h stream version of.has.1)) of.tree
