-- Lemmas on the marks of blocks: the page in a block, and one block more at a time.
use Rattle.std.specs.Prelude.{◌≡◌, ℕ, ◌+◌, List, [], ◌∷◌, ◌++◌, Option, Some, None, IfSome, is_some, true}
use Rattle.std.specs.Option.{option_map}
use Rattle.std.proofs.Common.{sym, ap, ◌∙◌, subst, arith, inl, inr}
use Rattle.std.proofs.Math.Nat.{eq-or-lt_of_le}
use Rattle.std.proofs.lemmas.Bool.{false≢true, cases_lt}
use Rattle.std.proofs.lemmas.List.{length_push}
use Rattle.std.proofs.lemmas.Option.{slice_get_past}
use Rattle.btr_disk.specs.declared.disk.Disk.{Ghosts}
use Rattle.btr_disk.specs.Bytes.{Image}
use Rattle.btr_log.specs.Piece.{PieceValue}
use Rattle.btr_tree.proofs.KeptSlotLemmas.{get-front, get-last}
use Rattle.btr_node.specs.declared.page.NodePage.{NodePage}
use Rattle.btr_tree.specs.PageNodes.{Pages}
use Rattle.btr_pages.specs.Known.{KnownValue, TreesValue, AreKnown, node_at}
use Rattle.btr_pages.proofs.KnownLemmas.{known-at, block-at}
use Rattle.btr_hist.specs.declared.entry.Entry.{Entry}
use Rattle.btr_streams.specs.declared.snapshot.Snapshot.{Snapshot}
use Rattle.btr_verify.specs.declared.judging.Mark.{Mark}
use Rattle.btr_verify.specs.Trees.{AreStoredAt}
use Rattle.btr_verify.specs.Judging.{ReadsBelow, IsPageRead, IsKnownPage, AreMarked, AreMarksOf, CanJudge, IsMarkOf}
use Rattle.btr_verify.proofs.JudgeLemmas.{stored-page}
use Rattle.btr_verify.proofs.ReadLemmas.{reads-more}
use Rattle.btr_log.proofs.OnlyReading.{same-bytes}

-- ---- the page in a block

-- A block with a tree has the page that was read.
pub has-page : {A : Type 0} (f : A → KnownValue) (got : Option A) (image : Image) (pages : Pages) (nodes : TreesValue) (block : ℕ) (read : Option NodePage) → option_map f got ≡ node_at nodes block → is_some got ≡ true → AreKnown pages nodes → AreStoredAt image pages → IsPageRead image block read → pages block ≡ read
has-page f None image pages nodes block read at some known stored is = absurd (false≢true some)
has-page f (Some k) image pages nodes block read at some known stored is =
    let its = known-at pages nodes block (f k) known.each (sym at) in
    let there : pages block ≡ Some its.page = ap pages (sym (block-at nodes block (f k) (sym at))) ∙ its.is in
    there ∙ sym (is pages its.page (stored-page image pages block its.page stored there))

-- ---- one block more

pub marked-more : (pages : Pages) (h : List Entry) (n : ℕ) (marks : List Mark) (mark : Mark) → AreMarked pages h n marks → IfSome (pages n) (IsMarkOf pages h n mark) → AreMarked pages h (n + 1) (marks ++ mark ∷ [])
marked-more pages h n marks mark marked last =
    let long = length_push marks mark in
    let Says = λ (block : ℕ) (m : Mark). IfSome (pages block) (IsMarkOf pages h block m) in
    record {
      counted = omega (arith, long, marked.counted);
      each = λ block. elim (cases_lt block n) [
        | inl lt ↦ subst (λ o. IfSome o (Says block)) (sym (get-front marks mark block (omega (arith, marked.counted)))) (marked.each block)
        | inr le ↦ elim (eq-or-lt_of_le le) [
          | inl e ↦ subst (λ o. IfSome o (Says block)) (sym (get-last marks mark block (omega (arith, marked.counted)))) (subst (λ b. Says b mark) e last)
          | inr gt ↦ subst (λ o. IfSome o (Says block)) (sym (slice_get_past (marks ++ mark ∷ []) block (omega (arith, long, marked.counted)))) tt
        ]
      ];
    }

-- ---- the blocks so far

module _ {D : Type 0} (disk : Ghosts D) where
  -- The pages of the blocks so far were judged. The calls only read.
  pub record HasMarked (tail : ℕ) (nodes : TreesValue) (snapshot : Snapshot) (old new : D) (piece : PieceValue) (n : ℕ) (marks : List Mark) : Type 0 where
    pub reads : ReadsBelow disk tail old new piece
    pub marked : disk.is_observable → AreMarksOf (disk.contents old) nodes snapshot n marks

  -- One block more was judged, by its page.
  pub has-more : (tail : ℕ) (nodes : TreesValue) (snapshot : Snapshot) (old mid new : D) (piece after : PieceValue) (n : ℕ) (marks : List Mark) (page : Option NodePage) (mark : Mark) → HasMarked tail nodes snapshot old mid piece n marks → ReadsBelow disk tail mid new after → (disk.is_observable → IsKnownPage (disk.contents mid) nodes n page) → ((pages : Pages) (h : List Entry) (image : Image) (block : ℕ) → CanJudge pages h image block marks snapshot page → IfSome page (IsMarkOf pages h block mark)) → HasMarked tail nodes snapshot old new after (n + 1) (marks ++ mark ∷ [])
  has-more tail nodes snapshot old mid new piece after n marks page mark so_far reads known says = record {
    reads = reads-more tail old mid new piece after so_far.reads reads;
    marked = λ reported pages h trees.
        let before = so_far.marked reported pages h trees in
        let stored = subst (λ image. AreStoredAt image pages) (same-bytes old mid so_far.reads.reads reported) trees.stored in
        let is = known reported pages trees.known stored in
        marked-more pages h n marks mark before (subst (λ o. IfSome o (IsMarkOf pages h n mark)) (sym is) (says pages h (disk.contents mid) n (record { of = trees.of; is = is; stored = stored; marked = before })));
  }
