-- Lemmas on the trees of a page's children: they are the parts of which an inner node is made.
use Rattle.std.specs.Prelude.{◌≡◌, ℕ, ◌+◌, ◌<◌, ◌≤◌, nat_eq, List, [], ◌∷◌, ◌++◌, length, take, get_or, slice_get, Some, None, IfSome, option_map, cond, true, false}
use Rattle.std.specs.List.{AllByRecursion, sum_by}
use Rattle.std.proofs.Common.{zero, suc, refl, sym, ap, ◌∙◌, subst, arith, inl, inr}
use Rattle.std.proofs.lemmas.Bool.{cases_lt}
use Rattle.std.proofs.lemmas.Bool.Decides.{nat_tests}
use Rattle.std.proofs.lemmas.List.{take_all}
use Rattle.std.proofs.lemmas.List.Sums.{sum_by_more}
use Rattle.std.proofs.lemmas.Option.{slice_get-get_or, slice_get-map, slice_get_past, get_or_from_slice_get}
use Rattle.btr_base.specs.Span.{SpanValue, slot_of}
use Rattle.btr_base.specs.Agg.{no_points}
use Rattle.btr_base.specs.declared.limits.TheConstants.{LEAF_POINTS, MAX_POINTS}
use Rattle.btr_tree.specs.Opened.{part_at, part_total, joined_parts, IsPart, AreParts}
use Rattle.btr_tree.specs.Root.{TreeValue}
use Rattle.btr_tree.proofs.OpenedLemmas.{parts-next, parts-first}
use Rattle.btr_node.specs.Page.{IsSlot, IsInnerPage}
use Rattle.btr_node.specs.declared.page.PageHeader.{PageHeader}
use Rattle.btr_node.specs.declared.page.PageSlot.{PageSlot}
use Rattle.btr_pages.specs.Known.{TreesValue, node_at}
use Rattle.btr_pages.specs.Made.{HasKnownChild, MayHaveChild, HaveKnownChildren, part_of, ArePartsTo, versions_of}

-- ---- one part more

pub push-other : (parts : List (ℕ × TreeValue)) (i j : ℕ) (t : TreeValue) → (i ≡ j → ⊥) → part_at (parts ++ (i, t) ∷ []) j ≡ part_at parts j
push-other [] i j t ne =
    let no : nat_eq i j ≡ false = grind (arith, nat_tests) in ap (λ b. cond b (Some t) None) no
push-other (p ∷ ps) i j t ne = ap (λ o. cond (nat_eq p.0 j) (Some p.1) o) (push-other ps i j t ne)

pub push-same : (parts : List (ℕ × TreeValue)) (i : ℕ) (t : TreeValue) → part_at parts i ≡ None → part_at (parts ++ (i, t) ∷ []) i ≡ Some t
push-same [] i t none =
    let yes : nat_eq i i ≡ true = grind (arith, nat_tests) in ap (λ b. cond b (Some t) None) yes
push-same (p ∷ ps) i t none =
    elim (nat_eq p.0 i) as (λ b. cond b (Some p.1) (part_at ps i) ≡ None → cond b (Some p.1) (part_at (ps ++ (i, t) ∷ []) i) ≡ Some t) [
      | true ↦ λ e. absurd (cc)
      | false ↦ λ e. push-same ps i t e
    ] none

-- ---- the parts of the slots so far

pub none-yet : (nodes : TreesValue) (block : ℕ) (span : SpanValue) (number : ℕ) (slots : List PageSlot) → ArePartsTo 0 nodes block span number slots []
none-yet nodes block span number slots =
    record { have = λ i lt. absurd (omega arith); are = λ i lt. absurd (omega arith); no_more = λ i le. refl }

below : (P : ℕ → Type 0) (n i : ℕ) → i < n + 1 → ((j : ℕ) → j < n → P j) → P n → P i
below P n i lt before here =
    elim (cases_lt i n) [ inl less ↦ before i less | inr le ↦ subst P (let e : n ≡ i = omega arith in e) here ]

-- A slot without a point has no part.
pub one-skipped : (n : ℕ) (nodes : TreesValue) (block : ℕ) (span : SpanValue) (number : ℕ) (slots : List PageSlot) (parts : List (ℕ × TreeValue)) (slot : PageSlot) → ArePartsTo n nodes block span number slots parts → slice_get slots n ≡ Some slot → slot.agg.count ≡ 0 → ArePartsTo (n + 1) nodes block span number slots parts
one-skipped n nodes block span number slots parts slot a at empty =
    record {
      have = λ i lt.
          below (λ j. IfSome (slice_get slots j) (MayHaveChild nodes block (slot_of span j) number)) n i lt a.have (subst (λ o. IfSome o (MayHaveChild nodes block (slot_of span n) number)) (sym at) (λ some. absurd (omega arith)));
      are = λ i lt.
          below (λ j. part_at parts j ≡ part_of nodes (slice_get slots j)) n i lt a.are (a.no_more n (omega arith) ∙ sym (ap (part_of nodes) at ∙ (let yes : nat_eq slot.agg.count 0 ≡ true = grind (arith, nat_tests) in ap (λ b. cond b None (option_map (λ k. k.tree) (node_at nodes slot.child))) yes)));
      no_more = λ i le. a.no_more i (omega arith);
    }

-- A slot with a point has the tree of its child as a part.
pub one-more : (n : ℕ) (nodes : TreesValue) (block : ℕ) (span : SpanValue) (number : ℕ) (slots : List PageSlot) (parts : List (ℕ × TreeValue)) (slot : PageSlot) (t : TreeValue) → ArePartsTo n nodes block span number slots parts → slice_get slots n ≡ Some slot → HasKnownChild nodes block (slot_of span n) number slot → part_of nodes (Some slot) ≡ Some t → ArePartsTo (n + 1) nodes block span number slots (parts ++ (n, t) ∷ [])
one-more n nodes block span number slots parts slot t a at has is =
    record {
      have = λ i lt.
          below (λ j. IfSome (slice_get slots j) (MayHaveChild nodes block (slot_of span j) number)) n i lt a.have (subst (λ o. IfSome o (MayHaveChild nodes block (slot_of span n) number)) (sym at) (λ some. has));
      are = λ i lt.
          below (λ j. part_at (parts ++ (n, t) ∷ []) j ≡ part_of nodes (slice_get slots j)) n i lt (λ j less. push-other parts n j t (λ same. absurd (omega arith)) ∙ a.are j less) (push-same parts n t (a.no_more n (omega arith)) ∙ sym (ap (part_of nodes) at ∙ is));
      no_more = λ i le. push-other parts n i t (λ same. absurd (omega arith)) ∙ a.no_more i (omega arith);
    }

-- A slot whose child is not there.
pub not-all : (nodes : TreesValue) (block : ℕ) (span : SpanValue) (number i : ℕ) (slots : List PageSlot) (slot : PageSlot) → slice_get slots i ≡ Some slot → 0 < slot.agg.count → (HasKnownChild nodes block (slot_of span i) number slot → ⊥) → HaveKnownChildren nodes block span number slots → ⊥
not-all nodes block span number i slots slot at some none all =
    none (subst (λ o. IfSome o (MayHaveChild nodes block (slot_of span i) number)) at (all i) some)

-- The children of all slots are there.
pub all-have : (nodes : TreesValue) (block : ℕ) (span : SpanValue) (number : ℕ) (slots : List PageSlot) (parts : List (ℕ × TreeValue)) → length slots ≡ 64 → ArePartsTo 64 nodes block span number slots parts → HaveKnownChildren nodes block span number slots
all-have nodes block span number slots parts full a i =
    elim (cases_lt i 64) [
      | inl less ↦ a.have i less
      | inr le ↦ subst (λ o. IfSome o (MayHaveChild nodes block (slot_of span i) number)) (sym (slice_get_past slots i (omega arith))) tt
    ]

-- ---- the parts are those of an inner node

-- A slot's part has the slot's count, version and span.
part-is : (nodes : TreesValue) (block : ℕ) (span : SpanValue) (number i : ℕ) (slot : PageSlot) → MayHaveChild nodes block (slot_of span i) number slot → IfSome (part_of nodes (Some slot)) (IsPart span slot.version i)
part-is nodes block span number i slot may =
    elim (nat_eq slot.agg.count 0) as (λ b. nat_eq slot.agg.count 0 ≡ b → IfSome (cond b None (option_map (λ k. k.tree) (node_at nodes slot.child))) (IsPart span slot.version i)) [
      | true ↦ λ e. tt
      | false ↦ λ e.
          let some : 0 < slot.agg.count = grind (arith, nat_tests) in
          let has = may some in
          let count = has.fits.count in
          subst (λ o. IfSome (option_map (λ k. k.tree) o) (IsPart span slot.version i)) (sym has.is) (record {
            its_span = has.fits.span;
            its_version = has.fits.version;
            some = omega arith;
            opened = has.fits.opened;
          })
    ] refl

part-count : (nodes : TreesValue) (block : ℕ) (place : SpanValue) (number : ℕ) (slot : PageSlot) → MayHaveChild nodes block place number slot → (part_total (part_of nodes (Some slot))).count ≡ slot.agg.count
part-count nodes block place number slot may =
    elim (nat_eq slot.agg.count 0) as (λ b. nat_eq slot.agg.count 0 ≡ b → (part_total (cond b None (option_map (λ k. k.tree) (node_at nodes slot.child)))).count ≡ slot.agg.count) [
      | true ↦ λ e. grind (arith, nat_tests)
      | false ↦ λ e.
          let some : 0 < slot.agg.count = grind (arith, nat_tests) in
          let has = may some in
          ap (λ o. (part_total (option_map (λ k. k.tree) o)).count) has.is ∙ has.fits.count
    ] refl

pub no-slot : PageSlot
no-slot = record { agg = no_points; version = 0; child = 0 }

pub at-slot : (slots : List PageSlot) (i : ℕ) → i < length slots → slice_get slots i ≡ Some (get_or slots i no-slot)
at-slot slots i lt = slice_get-get_or slots i no-slot lt

pub version-at : (slots : List PageSlot) (i : ℕ) (slot : PageSlot) → slice_get slots i ≡ Some slot → get_or (versions_of slots) i 0 ≡ slot.version
version-at slots i slot at =
    get_or_from_slice_get (versions_of slots) i slot.version 0 (slice_get-map (λ s. s.version) slots i ∙ ap (option_map (λ s. s.version)) at)

older-all : (slots : List PageSlot) (version i : ℕ) → AllByRecursion (IsSlot version) slots → get_or (versions_of slots) i 0 ≤ version
older-all [] version i all = omega arith
older-all (s ∷ ss) version zero all = all.0.version_to
older-all (s ∷ ss) version (suc i) all = older-all ss version i all.1

counts-to : (n : ℕ) (nodes : TreesValue) (block : ℕ) (span : SpanValue) (number : ℕ) (slots : List PageSlot) (parts : List (ℕ × TreeValue)) → length slots ≡ 64 → n ≤ 64 → ArePartsTo 64 nodes block span number slots parts → (joined_parts n parts).count ≡ sum_by (λ s. s.agg.count) (take n slots)
counts-to zero nodes block span number slots parts full le a = sym (ap (λ x. x.count) (parts-first no_points parts refl))
counts-to (suc n) nodes block span number slots parts full le a =
    let e : n + 1 ≡ suc n = omega arith in
    let less : n < length slots = omega arith in
    let slot = get_or slots n no-slot in
    let at = at-slot slots n less in
    let before = counts-to n nodes block span number slots parts full (omega arith) a in
    let here : (part_total (part_at parts n)).count ≡ slot.agg.count = ap (λ o. (part_total o).count) (a.are n (omega arith) ∙ ap (part_of nodes) at) ∙ part-count nodes block (slot_of span n) number slot (subst (λ o. IfSome o (MayHaveChild nodes block (slot_of span n) number)) at (a.have n (omega arith))) in
    let next : (joined_parts (n + 1) parts).count ≡ (joined_parts n parts).count + (part_total (part_at parts n)).count = ap (λ x. x.count) (parts-next n parts) in
    let more : sum_by (λ s. s.agg.count) (take (n + 1) slots) ≡ sum_by (λ s. s.agg.count) (take n slots) + slot.agg.count = sum_by_more (λ s. s.agg.count) slots n no-slot less in
    subst (λ m. (joined_parts m parts).count ≡ sum_by (λ s. s.agg.count) (take m slots)) e (omega arith)

pub parts-count : (nodes : TreesValue) (block : ℕ) (span : SpanValue) (number : ℕ) (slots : List PageSlot) (parts : List (ℕ × TreeValue)) → length slots ≡ 64 → ArePartsTo 64 nodes block span number slots parts → (joined_parts 64 parts).count ≡ sum_by (λ s. s.agg.count) slots
parts-count nodes block span number slots parts full a =
    counts-to 64 nodes block span number slots parts full (omega arith) a ∙ ap (sum_by (λ s. s.agg.count)) (take_all 64 slots (omega arith))

pub parts-fit_page : (nodes : TreesValue) (block : ℕ) (span : SpanValue) (number version : ℕ) (slots : List PageSlot) (parts : List (ℕ × TreeValue)) → length slots ≡ 64 → LEAF_POINTS < sum_by (λ s. s.agg.count) slots → sum_by (λ s. s.agg.count) slots ≤ MAX_POINTS → AllByRecursion (IsSlot version) slots → ArePartsTo 64 nodes block span number slots parts → AreParts span version parts (versions_of slots)
parts-fit_page nodes block span number version slots parts full many few all a =
    let count = parts-count nodes block span number slots parts full a in
    record {
      each = λ i.
          elim (cases_lt i 64) [
            | inl less ↦
                let at = at-slot slots i (omega arith) in
                let slot = get_or slots i no-slot in
                subst (λ o. IfSome o (IsPart span (get_or (versions_of slots) i 0) i)) (sym (a.are i less ∙ ap (part_of nodes) at)) (subst (λ v. IfSome (part_of nodes (Some slot)) (IsPart span v i)) (sym (version-at slots i slot at)) (part-is nodes block span number i slot (subst (λ o. IfSome o (MayHaveChild nodes block (slot_of span i) number)) at (a.have i less))))
            | inr le ↦ subst (λ o. IfSome o (IsPart span (get_or (versions_of slots) i 0) i)) (sym (a.no_more i le)) tt
          ];
      older = λ i. older-all slots version i all;
      many = subst (λ n. LEAF_POINTS < n) (sym count) many;
      few = subst (λ n. n ≤ MAX_POINTS) (sym count) few;
    }

-- The trees of the children of an inner node's page are the parts of its node.
pub parts-inner_page : (nodes : TreesValue) (block : ℕ) (span : SpanValue) (f : PageHeader) (slots : List PageSlot) (parts : List (ℕ × TreeValue)) → length slots ≡ 64 → IsInnerPage f slots → ArePartsTo 64 nodes block span f.stream slots parts → AreParts span f.version parts (versions_of slots)
parts-inner_page nodes block span f slots parts full keeps a =
    let total = keeps.total in
    let from = keeps.count_from in
    let to = keeps.count_to in
    parts-fit_page nodes block span f.stream f.version slots parts full (omega arith) (omega arith) keeps.each a
