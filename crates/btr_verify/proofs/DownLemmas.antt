-- Lemmas on the way from a page that is not right to the first wrong node.
use Rattle.std.specs.Prelude.{◌≡◌, ℕ, ◌<◌, ◌≤◌, List, [], ◌∷◌, slice_get, Some, None}
use Rattle.std.proofs.Common.{refl, sym, ap, ◌∙◌, subst, arith}
use Rattle.std.proofs.lemmas.Option.{same_Some}
use Rattle.btr_base.specs.Span.{SpanValue, slot_of}
use Rattle.btr_disk.specs.declared.disk.Disk.{Ghosts}
use Rattle.btr_disk.specs.Bytes.{Image}
use Rattle.btr_log.specs.Piece.{PieceValue}
use Rattle.btr_tree.specs.History.{Past}
use Rattle.btr_tree.specs.NewNodes.{NewNodeValue}
use Rattle.btr_tree.specs.Stored.{Store}
use Rattle.btr_node.specs.Page.{header, span_of_page, slots_of_page}
use Rattle.btr_node.specs.declared.page.NodePage.{NodePage}
use Rattle.btr_tree.specs.PageNodes.{Pages, nodes_in, node_of_page, slot_of_page}
use Rattle.btr_hist.specs.declared.entry.Entry.{Entry}
use Rattle.btr_verify.specs.Judged.{IsOwn, IsRight}
use Rattle.btr_verify.specs.FirstWrong.{IsFirstWrongOn}
use Rattle.btr_verify.specs.declared.judging.Mark.{Mark}
use Rattle.btr_verify.specs.declared.judging.Mark.TheVariants.{Right, WrongBelow, Wrong}
use Rattle.btr_verify.specs.Trees.{past_of}
use Rattle.btr_verify.specs.Judging.{ReadsBelow, IsJudged, IsFirstWrongFrom, IsPageNotRight, GoesDown, IsNamedFrom, IsNextFrom, AreMarkedRight, IsFirstNotRight}
use Rattle.btr_verify.proofs.JudgeLemmas.{HasMark, node-span, node-version, slot-there, stored-page, child-page, has-mark, one-in, page-in, child-has, slot-marked, right-here}
use Rattle.btr_verify.proofs.ReadLemmas.{reads-more}
use Rattle.btr_log.proofs.OnlyReading.{same-bytes}

-- A page itself.
pub goes-nowhere : (pages : Pages) (h : List Entry) (image : Image) (tail : ℕ) (marks : List Mark) (block : ℕ) (page : NodePage) → IsPageNotRight pages h image tail marks block page → GoesDown pages h image tail marks block page block
goes-nowhere pages h image tail marks block page wrong = record { below = page; wrong = wrong; on = λ named way. way }

-- One page further.
pub goes-on : (pages : Pages) (h : List Entry) (image : Image) (tail : ℕ) (marks : List Mark) (block at next : ℕ) (page : NodePage) (down : GoesDown pages h image tail marks block page at) → GoesDown pages h image tail marks at down.below next → GoesDown pages h image tail marks block page next
goes-on pages h image tail marks block at next page down further =
    record { below = further.below; wrong = further.wrong; on = λ named way. down.on named (further.on named way) }

module _ (pages : Pages) (h : List Entry) (image : Image) (tail : ℕ) (marks : List Mark) (block : ℕ) (page : NodePage) (wrong : IsPageNotRight pages h image tail marks block page) (lt : block < tail) where
  abbrev S : Store
  S = nodes_in pages (header page).stream

  abbrev P : Past
  P = past_of h (header page).stream

  abbrev node : NewNodeValue
  node = node_of_page page

  its-mark : HasMark pages h marks block page
  its-mark = has-mark pages h tail marks block page wrong.marked lt wrong.is wrong.has

  here : S block ≡ Some node
  here = page-in image pages h tail marks wrong.stored wrong.marked block page wrong.is (omega arith) wrong.has

  named-here : (IsOwn P node → ⊥) → IsFirstWrongFrom pages h page block block
  named-here none = ([], (refl, λ n own. none (subst (IsOwn P) (one-in S block n node own.stored here) own.own)))

  by-mark : (mark : Mark) → slice_get marks block ≡ Some mark → IsJudged S P block node mark → (slice_get marks block ≡ Some WrongBelow → ⊥) → IsFirstWrongFrom pages h page block block
  by-mark Right is judged not_below = absurd (wrong.not_right is)
  by-mark WrongBelow is judged not_below = absurd (not_below is)
  by-mark Wrong is judged not_below = named-here judged

  -- If its own fields are not right, it is the first wrong one.
  pub wrong-here : (slice_get marks block ≡ Some WrongBelow → ⊥) → IsFirstWrongFrom pages h page block block
  wrong-here not_below = by-mark its-mark.mark its-mark.is its-mark.judged not_below

  -- Its own fields are right, but a page below it is not.
  below : slice_get marks block ≡ Some WrongBelow → IsOwn P node × (IsRight S P block node → ⊥)
  below is = subst (IsJudged S P block node) (same_Some its-mark.mark WrongBelow (sym its-mark.is ∙ is)) its-mark.judged

  -- Then not all its children are right.
  pub some-wrong : slice_get marks block ≡ Some WrongBelow → AreMarkedRight marks (slots_of_page page) → ⊥
  some-wrong is all =
      let both = below is in
      both.1 (right-here image pages h tail marks wrong.stored wrong.marked block page wrong.is (omega arith) wrong.has both.0 all)

  -- The first child that is not right is in a lower block.
  pub child-lower : (child : ℕ) → IsFirstNotRight marks (slots_of_page page) child → child < block
  child-lower child first =
      let own = stored-page image pages block page wrong.stored wrong.is in
      let has = child-page pages block page first.at first.slot own.stands first.is first.some in
      omega (arith, has.lower, first.its_child)

  -- The way goes on from there.
  pub goes-down : slice_get marks block ≡ Some WrongBelow → (child : ℕ) → IsFirstNotRight marks (slots_of_page page) child → GoesDown pages h image tail marks block page child
  goes-down is child first =
      let own = stored-page image pages block page wrong.stored wrong.is in
      let has = child-page pages block page first.at first.slot own.stands first.is first.some in
      let low : block ≤ tail = omega arith in
      record {
        below = has.child;
        wrong = record {
          stored = wrong.stored;
          marked = wrong.marked;
          is = ap pages (sym first.its_child) ∙ has.is;
          has = child-has image pages h tail marks wrong.stored wrong.marked block page wrong.is low wrong.has first.at first.slot first.is has;
          not_right = first.not_right;
        };
        on = λ named way. (
          first.at ∷ way.0,
          record {
            node = node;
            here = record { stored = here; its_span = node-span page; its_version = node-version page; own = (below is).0 };
            before = λ j lower. slot-marked image pages h tail marks wrong.stored wrong.marked block page wrong.is low wrong.has j (first.before j lower);
            slot = slot_of_page first.slot;
            is = slot-there page first.at first.slot first.is;
            some = first.some;
            next =
                let c = has.child in
                let to = subst (λ b. IsFirstWrongOn (nodes_in pages (header c).stream) (past_of h (header c).stream) (span_of_page c) (header c).version b way.0 named) (sym first.its_child) way.1 in
                let stream = subst (λ s. IsFirstWrongOn (nodes_in pages s) (past_of h s) (span_of_page c) (header c).version first.slot.child way.0 named) has.fits.stream to in
                let span = subst (λ (x : SpanValue). IsFirstWrongOn S P x (header c).version first.slot.child way.0 named) has.fits.span stream in
                subst (λ v. IsFirstWrongOn S P (slot_of (span_of_page page) first.at) v first.slot.child way.0 named) has.fits.version span;
          },
        );
      }

-- ---- the way so far

module _ {D : Type 0} (disk : Ghosts D) where
  -- The way from the page in a block led to another block. The calls only read.
  pub record HasGone (tail : ℕ) (marks : List Mark) (block at : ℕ) (old new : D) (piece : PieceValue) : Type 0 where
    pub below : at < tail
    pub reads : ReadsBelow disk tail old new piece
    pub down : disk.is_observable → (pages : Pages) (h : List Entry) (page : NodePage) → IsPageNotRight pages h (disk.contents old) tail marks block page → GoesDown pages h (disk.contents old) tail marks block page at

  -- The first wrong node is that at the end of the way.
  pub gone-end : (tail : ℕ) (marks : List Mark) (block at : ℕ) (old mid : D) (piece : PieceValue) → HasGone tail marks block at old mid piece → disk.is_observable → IsNextFrom (disk.contents mid) tail marks at None → IsNamedFrom (disk.contents old) tail marks block at
  gone-end tail marks block at old mid piece gone reported found pages h page wrong =
      let down = gone.down reported pages h page wrong in
      let same = sym (same-bytes old mid gone.reads.reads reported) in
      down.on at (found pages h down.below (subst (λ image. IsPageNotRight pages h image tail marks at down.below) (sym same) down.wrong))

  -- The way goes on to the next block.
  pub gone-more : (tail : ℕ) (marks : List Mark) (block at next : ℕ) (old mid new : D) (piece after : PieceValue) → HasGone tail marks block at old mid piece → next < at → ReadsBelow disk tail mid new after → (disk.is_observable → IsNextFrom (disk.contents mid) tail marks at (Some next)) → HasGone tail marks block next old new after
  gone-more tail marks block at next old mid new piece after gone lower reads found = record {
    below = let low = gone.below in omega arith;
    reads = reads-more tail old mid new piece after gone.reads reads;
    down = λ reported pages h page wrong.
        let down = gone.down reported pages h page wrong in
        let same = sym (same-bytes old mid gone.reads.reads reported) in
        let further = found reported pages h down.below (subst (λ image. IsPageNotRight pages h image tail marks at down.below) (sym same) down.wrong) in
        goes-on pages h (disk.contents old) tail marks block at next page down (subst (λ image. GoesDown pages h image tail marks at down.below next) same further);
  }
