-- What a staged entry writes, if its first node is for the block of its first page.
use Rattle.std.specs.Prelude.{ℕ, None, Some}
use Rattle.std.proofs.Common.{subst}
use Rattle.btr_hist.specs.declared.entry.Entry.{Entry}
use Rattle.btr_hist.specs.declared.entry.Entry.TheVariants.{Create, Define, Commit, Distillate, Retire}
use Rattle.btr_entry.specs.Grammar.{IsWithinBounds}
use Rattle.btr_streams.specs.declared.board.Staged.{Staged}
use Rattle.btr_streams.specs.Board.{Kept}
use Rattle.btr_streams.specs.Stage.{WritesEntry, WritesCommit, change}
use Rattle.btr_engine.specs.Travel.{IsFirstNode, WritesAfter}

pub writes_after : (b : Kept) (e : Entry) (tail first : ℕ) (s : Staged) → IsFirstNode tail e first → IsWithinBounds e → WritesEntry b e first s → WritesAfter b e tail s
writes_after b (Create id) tail first s is bounds writes = writes
writes_after b (Define id spec) tail first s is bounds writes = writes
writes_after b (Retire stream least) tail first s is bounds writes = writes
writes_after b (Commit stream cut added) tail first s is bounds writes =
    subst (λ n. WritesCommit b n stream (change cut added) None s.next s.nodes.items s.root) (is bounds) writes
writes_after b (Distillate stream cut added reads) tail first s is bounds writes =
    subst (λ n. WritesCommit b n stream (change cut added) (Some reads) s.next s.nodes.items s.root) (is bounds) writes
