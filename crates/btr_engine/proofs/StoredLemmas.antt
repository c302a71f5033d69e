-- What an opening needs of the pages that it reads: they keep the table, and the trees of the board with an entry more are stored in them.
use Rattle.std.specs.Prelude.{ℕ, ◌+◌, ◌≤◌, List, length, Some, None}
use Rattle.std.specs.List.{AllByRecursion}
use Rattle.btr_base.specs.declared.limits.TheConstants.{FIRST}
use Rattle.btr_tree.specs.Root.{TreeValue}
use Rattle.btr_tree.specs.Stored.{IsBelow}
use Rattle.btr_node.specs.Page.{Fits}
use Rattle.btr_node.specs.declared.page.NodePage.{NodePage}
use Rattle.btr_tree.specs.PageNodes.{Pages, nodes_in}
use Rattle.btr_pages.specs.Pages.{with_pages, ArePages}
use Rattle.btr_pages.specs.Reported.{AreKept}
use Rattle.btr_pages.proofs.ReportedLemmas.{kept-more}
use Rattle.btr_hist.specs.declared.entry.Entry.{Entry}
use Rattle.btr_hist.specs.declared.entry.Entry.TheVariants.{Create, Define, Commit, Distillate, Retire}
use Rattle.btr_streams.specs.declared.board.Staged.{Staged}
use Rattle.btr_streams.specs.Board.{Kept}
use Rattle.btr_engine.specs.Stored.{AreStored}
use Rattle.btr_streams.specs.Stage.{ReadsEntry}
use Rattle.btr_engine.proofs.Written.{stored-stream, stored-version, stored-retired}

-- The tree of the version that an entry makes is stored below a block. An entry that makes no version has none.
abbrev pub IsTreeStored : Pages → ℕ → Entry → TreeValue → Type 0
IsTreeStored pages later (Create id) t = Unit {0}
IsTreeStored pages later (Define id spec) t = Unit {0}
IsTreeStored pages later (Retire stream first) t = Unit {0}
IsTreeStored pages later (Commit stream cut added) t = IsBelow (nodes_in pages stream) later 10 FIRST t.node
IsTreeStored pages later (Distillate stream cut added reads) t = IsBelow (nodes_in pages stream) later 10 FIRST t.node

-- The trees of a board with an entry more, whose tree was read, are stored in the pages with some more.
pub stored-read : (pages : Pages) (gate first later : ℕ) (new : List NodePage) (b : Kept) (e : Entry) (t : TreeValue) (s : Staged) → AreStored pages gate b.streams → ReadsEntry b e t s → AreKept (with_pages pages first new) → gate ≤ first → first + length new ≤ later → 1 ≤ later → IsTreeStored (with_pages pages first new) later e t → AreStored (with_pages pages first new) later s.next.streams
stored-read pages gate first later new b (Create id) t s stored reads kept behind all some is =
    stored-stream pages gate first later new b s.next id None stored reads.adds kept behind all some
stored-read pages gate first later new b (Define id spec) t s stored reads kept behind all some is =
    stored-stream pages gate first later new b s.next id (Some spec) stored reads.adds kept behind all some
stored-read pages gate first later new b (Retire stream least) t s stored reads kept behind all some is =
    stored-retired pages gate first later new b s.next stream least stored reads.sets kept behind all
stored-read pages gate first later new b (Commit stream cut added) t s stored reads kept behind all some is =
    stored-version pages gate first later new b s.next stream reads.kept t None stored reads.there reads.streams kept behind all is
stored-read pages gate first later new b (Distillate stream cut added r) t s stored reads kept behind all some is =
    stored-version pages gate first later new b s.next stream reads.kept t (Some r) stored reads.there reads.streams kept behind all is

-- Pages that keep the table, and some more that stand rightly and fit, keep it.
pub kept-with : (pages : Pages) (first : ℕ) (new : List NodePage) → AreKept pages → ArePages pages first new → AllByRecursion Fits new → AreKept (with_pages pages first new)
kept-with pages first new kept stand fit = kept-more pages first new kept stand fit
