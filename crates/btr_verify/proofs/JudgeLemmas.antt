-- Lemmas on how a page is judged: by its own fields, and by the marks of its children.
use Rattle.std.specs.Prelude.{◌≡◌, ◌↔◌, ℕ, ◌<◌, ◌≤◌, nat_eq, cond, true, List, [], ◌∷◌, length, map, slice_get, Option, Some, None, IfSome}
use Rattle.std.specs.List.{AllByRecursion}
use Rattle.std.specs.Option.{option_map, option_and_then}
use Rattle.std.proofs.Common.{zero, suc, refl, sym, ap, ◌∙◌, subst, arith}
use Rattle.std.proofs.lemmas.Bool.Decides.{nat_tests}
use Rattle.std.proofs.lemmas.Option.{slice_get-map, slice_get-get_or, same_Some}
use Rattle.btr_base.specs.Span.{SpanValue, IsSpan, slot_of}
use Rattle.btr_disk.specs.Bytes.{Image}
use Rattle.btr_tree.specs.declared.node.Slot.{Slot}
use Rattle.btr_tree.specs.History.{Past}
use Rattle.btr_tree.specs.NewNodes.{NewNodeValue}
use Rattle.btr_tree.specs.Stored.{Store}
use Rattle.btr_node.specs.Page.{header, Keeps, IsSlot, span_of_page, slots_of_page}
use Rattle.btr_node.specs.declared.page.NodePage.{NodePage}
use Rattle.btr_node.specs.declared.page.NodePage.TheVariants.{Leaf, Inner}
use Rattle.btr_node.specs.declared.page.PageSlot.{PageSlot}
use Rattle.btr_tree.specs.PageNodes.{Pages, slot_of_page, node_of_page, node_of_stream, nodes_in}
use Rattle.btr_pages.specs.Pages.{HasChildPage, IsPageAt}
use Rattle.btr_hist.specs.declared.entry.Entry.{Entry}
use Rattle.btr_streams.specs.Board.{HasVersion}
use Rattle.btr_verify.specs.Judged.{IsRising, IsIn, IsOwn, IsRight, HasRight, IsRightSlot, AreRightBelow, IsPlacedNode}
use Rattle.btr_verify.proofs.OwnLemmas.{right-own, own-right}
use Rattle.btr_verify.specs.declared.judging.Mark.{Mark}
use Rattle.btr_verify.specs.declared.judging.Mark.TheVariants.{Right, WrongBelow, Wrong}
use Rattle.btr_verify.specs.Trees.{IsStoredAt, AreStoredAt, past_of}
use Rattle.btr_verify.specs.Judging.{IsJudged, HasPageVersion, IsMarkOf, AreMarked, IsMarkedRight, AreMarkedRight, IsFirstNotRight}
use Rattle.btr_verify.proofs.StreamPastLemmas.{past-rising}

-- ---- a page and its node

pub page-aligned : (page : NodePage) → Keeps page → IsSpan (span_of_page page)
page-aligned (Leaf start height stream version count points) keeps = keeps.fields.span
page-aligned (Inner start height stream version count slots) keeps = keeps.fields.span

pub node-span : (page : NodePage) → (node_of_page page).span ≡ span_of_page page
node-span (Leaf start height stream version count points) = refl
node-span (Inner start height stream version count slots) = refl

pub node-version : (page : NodePage) → (node_of_page page).version ≡ (header page).version
node-version (Leaf start height stream version count points) = refl
node-version (Inner start height stream version count slots) = refl

node-slots : (page : NodePage) → (node_of_page page).slots ≡ map slot_of_page (slots_of_page page)
node-slots (Leaf start height stream version count points) = refl
node-slots (Inner start height stream version count slots) = refl

pub slot-as : (page : NodePage) (i : ℕ) → slice_get (node_of_page page).slots i ≡ option_map slot_of_page (slice_get (slots_of_page page) i)
slot-as page i = ap (λ (xs : List Slot). slice_get xs i) (node-slots page) ∙ slice_get-map slot_of_page (slots_of_page page) i

pub slot-there : (page : NodePage) (i : ℕ) (slot : PageSlot) → slice_get (slots_of_page page) i ≡ Some slot → slice_get (node_of_page page).slots i ≡ Some (slot_of_page slot)
slot-there page i slot at = slot-as page i ∙ ap (option_map slot_of_page) at

each-at : {X : Type 0} (P : X → Type 0) (xs : List X) (i : ℕ) → AllByRecursion P xs → IfSome (slice_get xs i) P
each-at P [] i all = tt
each-at P (x ∷ xs) zero all = all.0
each-at P (x ∷ xs) (suc i) all = each-at P xs i all.1

-- The slots of a page keep the table.
slot-keeps : (page : NodePage) → Keeps page → (i : ℕ) → IfSome (slice_get (slots_of_page page) i) (IsSlot (header page).version)
slot-keeps (Leaf start height stream version count points) keeps i = tt
slot-keeps (Inner start height stream version count slots) keeps i = each-at (IsSlot version) slots i keeps.each

-- ---- pages that are stored

pub stored-page : (image : Image) (pages : Pages) (block : ℕ) (page : NodePage) → AreStoredAt image pages → pages block ≡ Some page → IsStoredAt image pages block page
stored-page image pages block page stored at = subst (λ o. IfSome o (IsStoredAt image pages block)) at (stored block)

pub child-page : (pages : Pages) (block : ℕ) (page : NodePage) (i : ℕ) (slot : PageSlot) → IsPageAt pages block page → slice_get (slots_of_page page) i ≡ Some slot → 0 < slot.agg.count → HasChildPage pages block page i slot
child-page pages block page i slot stands there some =
    subst (λ o. IfSome o (λ s. 0 < s.agg.count → HasChildPage pages block page i s)) there (stands.children i) some

if-map : {X Y : Type 0} (f : X → Y) (P : X → Type 0) (Q : Y → Type 0) (o : Option X) → ((x : X) → P x → Q (f x)) → IfSome o P → IfSome (option_map f o) Q
if-map f P Q None along has = tt
if-map f P Q (Some x) along has = along x has

-- A page that stands rightly is placed as the laws of stored nodes want it.
pub page-placed : (image : Image) (pages : Pages) (block : ℕ) (page : NodePage) → IsStoredAt image pages block page → IsPlacedNode block (node_of_page page)
page-placed image pages block page stored =
    let keeps = stored.stands.keeps in
    let Low = λ (slot : Slot). 0 < slot.agg.count → slot.child < block in
    let Zero = λ (slot : Slot). slot.agg.count ≡ 0 → slot.child ≡ 0 in
    record {
      some = stored.some;
      aligned = subst IsSpan (sym (node-span page)) (page-aligned page keeps);
      lower = λ i. subst (λ o. IfSome o Low) (sym (slot-as page i)) (if-map slot_of_page (λ slot. 0 < slot.agg.count → HasChildPage pages block page i slot) Low (slice_get (slots_of_page page) i) (λ slot has some. (has some).lower) (stored.stands.children i));
      none = λ i. subst (λ o. IfSome o Zero) (sym (slot-as page i)) (if-map slot_of_page (IsSlot (header page).version) Zero (slice_get (slots_of_page page) i) (λ slot keeps_it. keeps_it.no_child) (slot-keeps page keeps i));
    }

-- The node of a stream in the block of a page.
pub node-here : (pages : Pages) (block : ℕ) (page : NodePage) (s : ℕ) → pages block ≡ Some page → s ≡ (header page).stream → nodes_in pages s block ≡ Some (node_of_page page)
node-here pages block page s here e =
    let yes : nat_eq (header page).stream s ≡ true = grind (arith, nat_tests) in
    ap (option_and_then (node_of_stream s)) here ∙ ap (λ t. cond t (Some (node_of_page page)) None) yes

-- ---- the mark of a page

judged-right : (store : Store) (h : Past) (block : ℕ) (node : NewNodeValue) (mark : Mark) → IsRising h → IsSpan node.span → IsJudged store h block node mark → IsRight store h block node ↔ (mark ≡ Right)
judged-right store h block node Right rising aligned judged = (λ right. refl, λ e. judged)
judged-right store h block node WrongBelow rising aligned judged = (λ right. absurd (judged.1 right), λ e. absurd (cc))
judged-right store h block node Wrong rising aligned judged = (λ right. absurd (judged (right-own store h rising block node aligned right).0), λ e. absurd (cc))

-- The mark of a page.
pub record HasMark (pages : Pages) (h : List Entry) (marks : List Mark) (block : ℕ) (page : NodePage) : Type 0 where
  pub mark : Mark
  pub is : slice_get marks block ≡ Some mark
  pub judged : IsJudged (nodes_in pages (header page).stream) (past_of h (header page).stream) block (node_of_page page) mark

pub has-mark : (pages : Pages) (h : List Entry) (n : ℕ) (marks : List Mark) (block : ℕ) (page : NodePage) → AreMarked pages h n marks → block < n → pages block ≡ Some page → HasPageVersion h page → HasMark pages h marks block page
has-mark pages h n marks block page marked lt at has =
    let within : block < length marks = omega (arith, marked.counted) in
    elim (slice_get marks block) as (λ o. slice_get marks block ≡ o → HasMark pages h marks block page) [
      | None ↦ λ e. let some = slice_get-get_or marks block Right within in absurd (cc)
      | Some mark ↦ λ e.
          let here = subst (λ o. IfSome o (λ m. IfSome (pages block) (IsMarkOf pages h block m))) e (marked.each block) in
          record { mark = mark; is = e; judged = subst (λ o. IfSome o (IsMarkOf pages h block mark)) at here has }
    ] refl

-- A page is right exactly if its mark says so.
pub right-marked : (image : Image) (pages : Pages) (h : List Entry) (n : ℕ) (marks : List Mark) (block : ℕ) (page : NodePage) → AreMarked pages h n marks → block < n → IsStoredAt image pages block page → pages block ≡ Some page → HasPageVersion h page → IsRight (nodes_in pages (header page).stream) (past_of h (header page).stream) block (node_of_page page) ↔ (slice_get marks block ≡ Some Right)
right-marked image pages h n marks block page marked lt stored at has =
    let m = has-mark pages h n marks block page marked lt at has in
    let placed = page-placed image pages block page stored in
    let r = judged-right (nodes_in pages (header page).stream) (past_of h (header page).stream) block (node_of_page page) m.mark (past-rising h (header page).stream) placed.aligned m.judged in
    (λ right. m.is ∙ ap Some (r.0 right), λ e. r.1 (same_Some m.mark Right (sym m.is ∙ e)))

pub one-in : (store : Store) (block : ℕ) (m n : NewNodeValue) → IsIn store block m → IsIn store block n → m ≡ n
one-in store block m n p q = cc

-- A block with the page of this span and version has a right node of them exactly if the page is right.
pub page-right : (store : Store) (h : Past) (block : ℕ) (page : NodePage) (span : SpanValue) (version : ℕ) → IsIn store block (node_of_page page) → span_of_page page ≡ span → (header page).version ≡ version → HasRight store h span version block ↔ IsRight store h block (node_of_page page)
page-right store h block page span version is its_span its_version = (
  λ has. subst (IsRight store h block) (one-in store block has.node (node_of_page page) has.right.stored is) has.right,
  λ right. record { node = node_of_page page; its_span = node-span page ∙ its_span; its_version = node-version page ∙ its_version; right = right },
)

-- ---- a page whose children have marks

module _ (image : Image) (pages : Pages) (h : List Entry) (n : ℕ) (marks : List Mark) (stored : AreStoredAt image pages) (marked : AreMarked pages h n marks) (block : ℕ) (page : NodePage) (at : pages block ≡ Some page) (low : block ≤ n) (has : HasPageVersion h page) where
  abbrev S : Store
  S = nodes_in pages (header page).stream

  abbrev P : Past
  P = past_of h (header page).stream

  own : IsStoredAt image pages block page
  own = stored-page image pages block page stored at

  pub page-in : IsIn S block (node_of_page page)
  page-in = node-here pages block page (header page).stream at refl

  -- The child of a slot with a point is of a version of the history too.
  pub child-has : (i : ℕ) (slot : PageSlot) → slice_get (slots_of_page page) i ≡ Some slot → (child : HasChildPage pages block page i slot) → HasPageVersion h child.child
  child-has i slot there child =
      let keeps = subst (λ o. IfSome o (IsSlot (header page).version)) there (slot-keeps page own.stands.keeps i) in
      let version : (header child.child).version ≤ (header page).version = omega (arith, child.fits.version, keeps.version_to) in
      subst (λ s. HasVersion h s (header child.child).version) (sym child.fits.stream) (has.0, omega (arith, version, has.1))

  -- The child of a slot with a point is right exactly if its mark says so.
  pub child-marked : (i : ℕ) (slot : PageSlot) → slice_get (slots_of_page page) i ≡ Some slot → 0 < slot.agg.count → HasRight S P (slot_of (span_of_page page) i) slot.version slot.child ↔ (slice_get marks slot.child ≡ Some Right)
  child-marked i slot there some =
      let child = child-page pages block page i slot own.stands there some in
      let its = stored-page image pages slot.child child.child stored child.is in
      let lower = child.lower in
      let r = right-marked image pages h n marks slot.child child.child marked (omega arith) its child.is (child-has i slot there child) in
      let q = subst (λ s. IsRight (nodes_in pages s) (past_of h s) slot.child (node_of_page child.child) ↔ (slice_get marks slot.child ≡ Some Right)) child.fits.stream r in
      let is = node-here pages slot.child child.child (header page).stream child.is (sym child.fits.stream) in
      let p = page-right S P slot.child child.child (slot_of (span_of_page page) i) slot.version is child.fits.span child.fits.version in
      (λ x. q.0 (p.0 x), λ e. p.1 (q.1 e))

  slot-right : (i : ℕ) (o : Option PageSlot) → slice_get (slots_of_page page) i ≡ o → IfSome o (IsMarkedRight marks) → IfSome (option_map slot_of_page o) (IsRightSlot S P (span_of_page page) i)
  slot-right i None there right = tt
  slot-right i (Some slot) there right = λ some. (child-marked i slot there some).1 (right some)

  pub slot-marked : (i : ℕ) → IfSome (slice_get (slots_of_page page) i) (IsMarkedRight marks) → IfSome (slice_get (node_of_page page).slots i) (IsRightSlot S P (span_of_page page) i)
  slot-marked i right =
      subst (λ o. IfSome o (IsRightSlot S P (span_of_page page) i)) (sym (slot-as page i)) (slot-right i (slice_get (slots_of_page page) i) refl right)

  all-marked : AreMarkedRight marks (slots_of_page page) → AreRightBelow S P (node_of_page page)
  all-marked all i = subst (λ s. IfSome (slice_get (node_of_page page).slots i) (IsRightSlot S P s i)) (sym (node-span page)) (slot-marked i (all i))

  -- If its own fields and all its children are right, it is right.
  pub right-here : IsOwn P (node_of_page page) → AreMarkedRight marks (slots_of_page page) → IsRight S P block (node_of_page page)
  right-here own_right all =
      own-right S P (past-rising h (header page).stream) block (node_of_page page) page-in (page-placed image pages block page own) own_right (all-marked all)

  -- If a child is not right, it is not.
  pub not-right : (child : ℕ) → IsFirstNotRight marks (slots_of_page page) child → IsRight S P block (node_of_page page) → ⊥
  not-right child first right =
      let below = (right-own S P (past-rising h (header page).stream) block (node_of_page page) (page-placed image pages block page own).aligned right).1 in
      let slot = subst (λ o. IfSome o (IsRightSlot S P (node_of_page page).span first.at)) (slot-there page first.at first.slot first.is) (below first.at) first.some in
      let here = subst (λ s. HasRight S P (slot_of s first.at) first.slot.version first.slot.child) (node-span page) slot in
      first.not_right (subst (λ b. slice_get marks b ≡ Some Right) first.its_child ((child-marked first.at first.slot first.is first.some).0 here))
