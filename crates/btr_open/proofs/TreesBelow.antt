-- Lemmas on the trees of pages below a block: a tree is added to those of pages that stand rightly, and a page whose tree is refused breaks
-- the format.
use Rattle.std.specs.Prelude.{◌≡◌, ◌⊎◌, ℕ, ◌<◌, ◌≤◌, nat_eq, pos, negsuc, ℤ, [], length, slice_get, Option, Some, None, IfSome, IsSome, IsNone, cond, true, false}
use Rattle.std.proofs.Common.{zero, suc, refl, sym, ap, ◌∙◌, subst, arith, inl, inr, ⊎_elim}
use Rattle.std.proofs.lemmas.Bool.{cases_lt, cases_eq}
use Rattle.std.proofs.lemmas.Bool.Decides.{nat_tests}
use Rattle.std.proofs.lemmas.Option.{slice_get_past}
use Rattle.btr_disk.specs.Bytes.{Image}
use Rattle.btr_base.specs.Span.{SpanValue, slot_of}
use Rattle.btr_node.specs.Page.{header, slots_of_page, span_of_page}
use Rattle.btr_node.specs.declared.page.NodePage.{NodePage}
use Rattle.btr_node.specs.declared.page.PageSlot.{PageSlot}
use Rattle.btr_tree.specs.PageNodes.{Pages, IsChildPage}
use Rattle.btr_pages.specs.Pages.{IsPageAt, HasChildPage}
use Rattle.btr_pages.specs.Known.{TreesValue, node_at, AreKnown, ArePartOf, KnowsChildren, TakesPage}
use Rattle.btr_pages.proofs.KnownLemmas.{block-at, known-at, knows-all, HasOnly}
use Rattle.btr_open.specs.Below.{IsStoredPage, StandBelow, IsWrongChild, BreaksBelow}
use Rattle.btr_open.specs.Loading.{GrowsBelow, AddsBelow, StaysPart, AreOfDevice, KnowsChild}
use Rattle.btr_open.proofs.BelowLemmas.{stored-one, stand-page}
use Rattle.btr_open.proofs.TreeLemmas.{part-wider}
use Rattle.btr_open.proofs.WalkLemmas.{page-more}

-- ---- a value that is there

-- The value of what is there.
pub some-of : {A : Type 0} (o : Option A) → IsSome o → (x : A) × (o ≡ Some x)
some-of None some = absurd (cc)
some-of (Some x) some = (x, refl)

pub is-some : {A : Type 0} (o : Option A) (x : A) → o ≡ Some x → IsSome o
is-some o x at = subst IsSome (sym at) refl

pub some-none : {A : Type 0} (o : Option A) → IsSome o → IsNone o → ⊥
some-none None some none = absurd (cc)
some-none (Some x) some none = absurd (cc)

-- ---- one page more, in a block that had none

abbrev pub with-page : Pages → ℕ → NodePage → Pages
with-page pages block page k = cond (nat_eq k block) (Some page) (pages k)

pub with-here : (pages : Pages) (block : ℕ) (page : NodePage) → with-page pages block page block ≡ Some page
with-here pages block page =
    let yes : nat_eq block block ≡ true = grind (arith, nat_tests) in
    ap (λ t. cond t (Some page) (pages block)) yes

pub with-other : (pages : Pages) (block : ℕ) (page : NodePage) (k : ℕ) → (k ≡ block → ⊥) → with-page pages block page k ≡ pages k
with-other pages block page k ne =
    let no : nat_eq k block ≡ false = grind (arith, nat_tests) in
    ap (λ t. cond t (Some page) (pages k)) no

module _ (pages : Pages) (nodes : TreesValue) (block : ℕ) (page : NodePage) (are : AreKnown pages nodes) (fresh : IsNone (node_at nodes block)) where
  -- The block had no page.
  no-page : (q : NodePage) → pages block ≡ Some q → ⊥
  no-page q at = some-none (node_at nodes block) (are.all block (is-some (pages block) q at)) fresh

  -- Each page stays.
  pub page-stays : (k : ℕ) (q : NodePage) → pages k ≡ Some q → with-page pages block page k ≡ Some q
  page-stays k q at = with-other pages block page k (λ same. no-page q (ap pages (sym same) ∙ at)) ∙ at

  -- The trees are those of some of the pages, and each page that stands rightly does so still.
  pub part-stays : ArePartOf (with-page pages block page) nodes
  part-stays = part-wider pages (with-page pages block page) nodes page-stays are.each

  pub right-stays : (b : ℕ) (p : NodePage) → IsPageAt pages b p → IsPageAt (with-page pages block page) b p
  right-stays = page-more pages (with-page pages block page) page-stays

-- ---- one tree more

module _ (limit block : ℕ) (page : NodePage) (old new : TreesValue) (low : block < limit) (fresh : IsNone (node_at old block)) (takes : TakesPage old new block page) (only : HasOnly old new block) where
  all-more : (pages : Pages) → AreKnown pages old → (b : ℕ) → IsSome (with-page pages block page b) → IsSome (node_at new b)
  all-more pages are b has =
      ⊎_elim
      (λ same. subst (λ c. IsSome (node_at new c)) (sym same) takes.stands)
      (λ ne.
      let before = are.all b (subst IsSome (with-other pages block page b ne) has) in
      subst IsSome (sym (takes.kept b before)) before)
      (cases_eq b block)

  -- The wider pages have this page in its block more.
  pub grows-one : GrowsBelow limit old new
  grows-one = record {
    kept = λ b.
        elim (node_at old b) as (λ o. node_at old b ≡ o → IfSome o (λ known. node_at new b ≡ Some known)) [
          | None ↦ λ e. tt
          | Some k ↦ λ e. takes.kept b (is-some (node_at old b) k e) ∙ e
        ] refl;
    only = λ b has. ⊎_elim (λ same. inr (omega arith)) (λ was. inl was) (only b has);
    known = λ pages are. (
      with-page pages block page,
      record {
        kept = λ b.
            elim (pages b) as (λ o. pages b ≡ o → IfSome o (λ p. with-page pages block page b ≡ Some p)) [
              | None ↦ λ e. tt
              | Some p ↦ λ e. page-stays pages old block page are fresh b p e
            ] refl;
        same = λ b le. with-other pages block page b (λ same. absurd (omega arith));
      },
      record {
        each = takes.part (with-page pages block page) (part-stays pages old block page are fresh) (with-here pages block page);
        all = all-more pages are;
      },
    );
  }

module _ (image : Image) (limit block : ℕ) (page : NodePage) (old new : TreesValue) (some : 1 ≤ block) (low : block < limit) (stored : IsStoredPage image block page) (fresh : IsNone (node_at old block)) (takes : TakesPage old new block page) (only : HasOnly old new block) where
  stand-more_at : (pages : Pages) → AreKnown pages old → (b : ℕ) → (b ≡ block → ⊥) → (o : Option NodePage) → IfSome o (λ p. (1 ≤ b) × IsStoredPage image b p × IsPageAt pages b p) → IfSome o (λ p. (1 ≤ b) × IsStoredPage image b p × IsPageAt (with-page pages block page) b p)
  stand-more_at pages are b ne None has = has
  stand-more_at pages are b ne (Some p) has = (has.0, has.1, right-stays pages old block page are fresh b p has.2)

  stand-more : (pages : Pages) → StandBelow image limit pages → AreKnown pages old → StandBelow image limit (with-page pages block page)
  stand-more pages stand are b lt =
      let P = λ (p : NodePage). (1 ≤ b) × IsStoredPage image b p × IsPageAt (with-page pages block page) b p in
      ⊎_elim
      (λ same.
      subst (λ c. IfSome (with-page pages block page c) (λ p. (1 ≤ c) × IsStoredPage image c p × IsPageAt (with-page pages block page) c p)) (sym same)
      (subst (λ o. IfSome o (λ p. (1 ≤ block) × IsStoredPage image block p × IsPageAt (with-page pages block page) block p)) (sym (with-here pages block page))
      (some, stored, takes.rightly (with-page pages block page) (part-stays pages old block page are fresh))))
      (λ ne. subst (λ o. IfSome o P) (sym (with-other pages block page b ne)) (stand-more_at pages are b ne (pages b) (stand b lt)))
      (cases_eq b block)

  pub adds-one : AddsBelow image limit old new
  unfolding grows-one
  adds-one = record {
    grows = grows-one limit block page old new low fresh takes only;
    stands = λ pages are stand. stand-more pages stand are;
  }

  pub part-one : StaysPart image limit block old new
  part-one pages stand has are =
      let its = some-of (pages block) has in
      let there = (stand-page image limit block pages stand low its.0 its.1).1 in
      takes.part pages are (its.1 ∙ ap Some (stored-one image block its.0 page there stored))

-- ---- no tree more, and one run of trees after another

pub grows-none : (limit : ℕ) (nodes : TreesValue) → GrowsBelow limit nodes nodes
grows-none limit nodes = record {
  kept = λ b. elim (node_at nodes b) as (λ o. IfSome o (λ known. o ≡ Some known)) [ None ↦ tt | Some k ↦ refl ];
  only = λ b has. inl has;
  known = λ pages are. (
    pages,
    record {
      kept = λ b. elim (pages b) as (λ o. IfSome o (λ p. o ≡ Some p)) [ None ↦ tt | Some p ↦ refl ];
      same = λ b le. refl;
    },
    are,
  );
}

pub adds-none : (image : Image) (limit : ℕ) (nodes : TreesValue) → AddsBelow image limit nodes nodes
unfolding grows-none
adds-none image limit nodes = record { grows = grows-none limit nodes; stands = λ pages are stand. stand }

-- What was found is found with more.
pub still-found : (limit : ℕ) (old new : TreesValue) → GrowsBelow limit old new → (b : ℕ) → IsSome (node_at old b) → IsSome (node_at new b)
still-found limit old new grows b has =
    let its = some-of (node_at old b) has in
    is-some (node_at new b) its.0 (subst (λ o. IfSome o (λ known. node_at new b ≡ Some known)) its.1 (grows.kept b))

kept-on : {A : Type 0} (old mid new : Option A) → IfSome old (λ x. mid ≡ Some x) → IfSome mid (λ x. new ≡ Some x) → IfSome old (λ x. new ≡ Some x)
kept-on None mid new first second = first
kept-on (Some x) mid new first second = subst (λ o. IfSome o (λ y. new ≡ Some y)) first second

pub grows-on : (limit : ℕ) (old mid new : TreesValue) → GrowsBelow limit old mid → GrowsBelow limit mid new → GrowsBelow limit old new
grows-on limit old mid new first second = record {
  kept = λ b. kept-on (node_at old b) (node_at mid b) (node_at new b) (first.kept b) (second.kept b);
  only = λ b has. ⊎_elim (λ was. first.only b was) (λ low. inr low) (second.only b has);
  known = λ pages are.
      let wide = first.known pages are in
      let wider = second.known wide.0 wide.2 in (
        wider.0,
        record {
          kept = λ b. kept-on (pages b) (wide.0 b) (wider.0 b) (wide.1.kept b) (wider.1.kept b);
          same = λ b le. wider.1.same b le ∙ wide.1.same b le;
        },
        wider.2,
      );
}

pub adds-on : (image : Image) (limit : ℕ) (old mid new : TreesValue) → AddsBelow image limit old mid → AddsBelow image limit mid new → AddsBelow image limit old new
unfolding grows-on
adds-on image limit old mid new first second = record {
  grows = grows-on limit old mid new first.grows second.grows;
  stands = λ pages are stand.
      let wide = first.grows.known pages are in
      second.stands wide.0 wide.2 (first.stands pages are stand);
}

pub device-on : (image : Image) (limit : ℕ) (old new : TreesValue) → AddsBelow image limit old new → AreOfDevice image limit old → AreOfDevice image limit new
device-on image limit old new adds own =
    let wider = adds.grows.known own.0 own.2 in
    (wider.0, adds.stands own.0 own.2 own.1, wider.2)

-- ---- a page whose tree is refused

-- Two whole numbers are the same, or not.
same-or : (x y : ℤ) → (x ≡ y) ⊎ (x ≡ y → ⊥)
same-or (pos m) (pos n) =
    ⊎_elim (λ same. inl (ap pos same)) (λ ne. inr (λ same. ne (let e : m ≡ n = cc in e))) (cases_eq m n)
same-or (pos m) (negsuc n) = inr (λ same. absurd (cc))
same-or (negsuc m) (pos n) = inr (λ same. absurd (cc))
same-or (negsuc m) (negsuc n) =
    ⊎_elim (λ same. inl (ap negsuc same)) (λ ne. inr (λ same. ne (let e : m ≡ n = cc in e))) (cases_eq m n)

span-or : (a b : SpanValue) → (a ≡ b) ⊎ (a ≡ b → ⊥)
span-or a b =
    ⊎_elim
    (λ start.
    ⊎_elim
    (λ height. inl (λ i. record { start = start i; height = height i }))
    (λ ne. inr (λ same. ne (ap (λ (s : SpanValue). s.height) same)))
    (cases_eq a.height b.height))
    (λ ne. inr (λ same. ne (ap (λ (s : SpanValue). s.start) same)))
    (same-or a.start b.start)

-- A page is that of the child of a slot, or not.
child-or : (page : NodePage) (i : ℕ) (slot : PageSlot) (child : NodePage) → IsChildPage page i slot child ⊎ (IsChildPage page i slot child → ⊥)
child-or page i slot child =
    ⊎_elim
    (λ stream.
    ⊎_elim
    (λ span.
    ⊎_elim
    (λ version.
    ⊎_elim
    (λ count. inl (record { stream = stream; span = span; version = version; count = count }))
    (λ ne. inr (λ is. ne is.count))
    (cases_eq (header child).count slot.agg.count))
    (λ ne. inr (λ is. ne is.version))
    (cases_eq (header child).version slot.version))
    (λ ne. inr (λ is. ne is.span))
    (span-or (span_of_page child) (slot_of (span_of_page page) i)))
    (λ ne. inr (λ is. ne is.stream))
    (cases_eq (header child).stream (header page).stream)

-- The slot of a page with a point, if there is one, has a child that is among the pages.
abbrev IsRight : Pages → ℕ → NodePage → ℕ → Option PageSlot → Type 0
IsRight pages block page i o = IfSome o (λ slot. 0 < slot.agg.count → HasChildPage pages block page i slot)

-- A slot has a child that is not the page of the slot.
abbrev HasWrong : Image → ℕ → NodePage → Type 0
HasWrong image block page =
    (i : ℕ) × (slot : PageSlot) × (slice_get (slots_of_page page) i ≡ Some slot) × (0 < slot.agg.count) × IsWrongChild image block page i slot block

module _ (image : Image) (limit block : ℕ) (page : NodePage) (nodes : TreesValue) (low : block < limit) (own : Pages) (stand : StandBelow image limit own) (are : AreKnown own nodes) where
  slot-or : (i : ℕ) (slot : PageSlot) → slice_get (slots_of_page page) i ≡ Some slot → KnowsChild block nodes slot → HasWrong image block page ⊎ (0 < slot.agg.count → HasChildPage own block page i slot)
  slot-or i slot there knows =
      ⊎_elim
      (λ some.
      let its = knows some in
      let lower = its.0 in
      let found = some-of (node_at nodes slot.child) its.1 in
      let known = known-at own nodes slot.child found.0 are.each found.1 in
      let here : own slot.child ≡ Some known.page = ap own (sym (block-at nodes slot.child found.0 found.1)) ∙ known.is in
      let stored = (stand-page image limit slot.child own stand (omega arith) known.page here).1 in
      ⊎_elim
      (λ fits. inr (λ _. record { lower = lower; child = known.page; is = here; fits = fits }))
      (λ ne. inl (i, slot, there, some, inr (inr (lower, known.page, stored, ne, refl))))
      (child-or page i slot known.page))
      (λ none. inr (λ some. absurd (omega arith)))
      (cases_lt 0 slot.agg.count)

  right-or : (i : ℕ) (o : Option PageSlot) → slice_get (slots_of_page page) i ≡ o → IfSome o (KnowsChild block nodes) → HasWrong image block page ⊎ IsRight own block page i o
  right-or i None there knows = inr tt
  right-or i (Some slot) there knows = slot-or i slot there knows

  first-or : (n : ℕ) → ((i : ℕ) → IfSome (slice_get (slots_of_page page) i) (KnowsChild block nodes)) → HasWrong image block page ⊎ ((i : ℕ) → i < n → IsRight own block page i (slice_get (slots_of_page page) i))
  first-or zero knows = inr (λ i lt. absurd (omega arith))
  first-or (suc n) knows =
      ⊎_elim
      (λ wrong. inl wrong)
      (λ before.
      ⊎_elim
      (λ wrong. inl wrong)
      (λ here. inr (λ i lt.
      ⊎_elim
      (λ less. before i less)
      (λ from. let same : n ≡ i = omega arith in subst (λ k. IsRight own block page k (slice_get (slots_of_page page) k)) same here)
      (cases_lt i n)))
      (right-or n (slice_get (slots_of_page page) n) refl (knows n)))
      (first-or n knows)

  all-right : ((i : ℕ) → i < length (slots_of_page page) → IsRight own block page i (slice_get (slots_of_page page) i)) → (i : ℕ) → IsRight own block page i (slice_get (slots_of_page page) i)
  all-right each i =
      ⊎_elim
      (λ less. each i less)
      (λ from. subst (λ o. IsRight own block page i o) (sym (slice_get_past (slots_of_page page) i from)) tt)
      (cases_lt i (length (slots_of_page page)))

  -- The trees of all children are known, but the page does not stand rightly: a child is not the page of its slot.
  pub refused-breaks : IsStoredPage image block page → ((i : ℕ) → IfSome (slice_get (slots_of_page page) i) (KnowsChild block nodes)) → ((pages : Pages) → ArePartOf pages nodes → KnowsChildren pages nodes page → IsPageAt pages block page → ⊥) → BreaksBelow image block page block
  refused-breaks stored knows refused =
      ⊎_elim
      (λ wrong. ([], wrong))
      (λ each. absurd (refused own are.each (knows-all own nodes page are) (record { keeps = stored.keeps; children = all-right each })))
      (first-or (length (slots_of_page page)) knows)
