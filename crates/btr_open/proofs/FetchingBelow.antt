-- Lemmas on pages below a block that are fetched, one after another.
use Rattle.std.specs.Prelude.{◌≡◌, ◌⊎◌, ℕ, ◌+◌, ◌*◌, ◌<◌, ◌≤◌, List, length, slice_get, Some, IsSome}
use Rattle.std.proofs.Common.{refl, sym, ap, ◌∙◌, subst, arith, inl, inr, ⊎_elim}
use Rattle.std.proofs.lemmas.Bool.{cases_lt}
use Rattle.std.proofs.lemmas.Option.{slice_get_past}
use Rattle.btr_disk.specs.declared.disk.Disk.{Ghosts}
use Rattle.btr_disk.specs.Bytes.{Image}
use Rattle.btr_node.specs.Page.{Fits, Spells, slots_of_page}
use Rattle.btr_node.specs.declared.page.NodePage.{NodePage}
use Rattle.btr_node.specs.declared.page.PageSlot.{PageSlot}
use Rattle.btr_tree.specs.PageNodes.{Pages}
use Rattle.btr_pages.specs.Blocks.{block_of_bytes}
use Rattle.btr_pages.specs.Known.{TreesValue, node_at}
use Rattle.btr_open.specs.declared.below.BlockReader.{BlockReader}
use Rattle.btr_open.specs.declared.below.Fetched.{Fetched}
use Rattle.btr_open.specs.declared.below.Fetched.TheVariants.{Known, NoPage, Broken}
use Rattle.btr_open.specs.Below.{StandBelow}
use Rattle.btr_open.specs.Loading.{GrowsBelow, AddsBelow, StaysPart, IsFetched, CanRead, HasReadBelow, AreOfDevice, FetchesAll, IsBlock, IsSlotChild, IsNeeded}
use Rattle.btr_open.proofs.BelowLemmas.{stored-one, stand-page, stand-broken}
use Rattle.btr_open.proofs.TreesBelow.{some-of, grows-none, grows-on, adds-none, adds-on, still-found, device-on}
use Rattle.btr_open.proofs.MakingBelow.{same-image, read-none, read-on, can-on, grows-in}

-- ---- what was fetched

-- A page that stands rightly has a tree, once it was fetched.
pub fetched-stands : (image : Image) (limit block : ℕ) (nodes : TreesValue) (fetched : Fetched) → IsFetched image block nodes fetched → (pages : Pages) → StandBelow image limit pages → block < limit → IsSome (pages block) → IsSome (node_at nodes block)
fetched-stands image limit block nodes Known is pages stand lt has = is
fetched-stands image limit block nodes NoPage is pages stand lt has =
    let its = some-of (pages block) has in
    absurd (is its.0 (stand-page image limit block pages stand lt its.0 its.1).1)
fetched-stands image limit block nodes (Broken named) is pages stand lt has =
    let its = some-of (pages block) has in
    let same = stored-one image block its.0 is.0 (stand-page image limit block pages stand lt its.0 its.1).1 is.1 in
    absurd (stand-broken image limit block named pages is.0 stand lt (its.1 ∙ ap Some same) is.2)

-- ---- all of some blocks

-- One block.
pub fetches-block : (image : Image) (limit block : ℕ) (old new : TreesValue) (fetched : Fetched) → 1 ≤ block → block < limit → AddsBelow image limit old new → StaysPart image limit block old new → IsFetched image block new fetched → FetchesAll image limit (IsBlock block) old new
fetches-block image limit block old new fetched some low adds part is = record {
  adds = adds;
  part = λ pages stand have are. part pages stand (have block refl some low) are;
  fetched = λ pages stand k same lt has.
      subst (λ b. IsSome (node_at new b)) (sym same) (fetched-stands image limit block new fetched is pages stand low (subst (λ b. IsSome (pages b)) same has));
}

-- A block that is not one of those below the limit.
pub fetches-none : (image : Image) (limit : ℕ) (blocks : ℕ → Type 0) (nodes : TreesValue) → ((block : ℕ) → blocks block → 1 ≤ block → block < limit → ⊥) → FetchesAll image limit blocks nodes nodes
fetches-none image limit blocks nodes none = record {
  adds = adds-none image limit nodes;
  part = λ pages stand have are. are;
  fetched = λ pages stand k is lt has.
      let its = some-of (pages k) has in
      absurd (none k is (stand-page image limit k pages stand lt its.0 its.1).0 lt);
}

-- Those of both.
pub fetches-on : (image : Image) (limit : ℕ) (first second all : ℕ → Type 0) (old mid new : TreesValue) → FetchesAll image limit first old mid → FetchesAll image limit second mid new → ((k : ℕ) → first k → all k) → ((k : ℕ) → second k → all k) → ((k : ℕ) → all k → first k ⊎ second k) → FetchesAll image limit all old new
fetches-on image limit first second all old mid new one two from_first from_second from_all = record {
  adds = adds-on image limit old mid new one.adds two.adds;
  part = λ pages stand have are.
      two.part pages stand (λ k is. have k (from_second k is)) (one.part pages stand (λ k is. have k (from_first k is)) are);
  fetched = λ pages stand k is lt has.
      ⊎_elim
      (λ in_first. still-found limit mid new two.adds.grows k (one.fetched pages stand k in_first lt has))
      (λ in_second. two.fetched pages stand k in_second lt has)
      (from_all k is);
}

-- The same blocks, said otherwise.
pub fetches-same : (image : Image) (limit : ℕ) (blocks other : ℕ → Type 0) (old new : TreesValue) → FetchesAll image limit blocks old new → ((k : ℕ) → blocks k → other k) → ((k : ℕ) → other k → blocks k) → FetchesAll image limit other old new
fetches-same image limit blocks other old new all to back = record {
  adds = all.adds;
  part = λ pages stand have are. all.part pages stand (λ k is. have k (to k is)) are;
  fetched = λ pages stand k is lt has. all.fetched pages stand k (back k is) lt has;
}

-- ---- the slots of a page so far

-- The block is the child of one of the first n slots, which has a point.
abbrev pub IsChildTo : ℕ → List PageSlot → ℕ → Type 0
IsChildTo n slots k = (i : ℕ) × (slot : PageSlot) × (i < n) × (slice_get slots i ≡ Some slot) × (0 < slot.agg.count) × (k ≡ slot.child)

some-one : (x y : PageSlot) → Some x ≡ Some y → x ≡ y
some-one x y same = cc

-- One slot more, with a point or without.
module _ (n : ℕ) (slots : List PageSlot) (slot : PageSlot) (there : slice_get slots n ≡ Some slot) where
  pub child-before : (k : ℕ) → IsChildTo n slots k → IsChildTo (n + 1) slots k
  child-before k is = let lt = is.2 in (is.0, is.1, omega arith, is.3, is.4, is.5)

  pub child-here : 0 < slot.agg.count → (k : ℕ) → IsBlock slot.child k → IsChildTo (n + 1) slots k
  child-here some k same = (n, slot, omega arith, there, some, same)

  -- The slot at the last place is this one.
  last-one : (i : ℕ) (s : PageSlot) → slice_get slots i ≡ Some s → i < n + 1 → n ≤ i → s ≡ slot
  last-one i s at lt from =
      let same : i ≡ n = omega arith in
      some-one s slot (sym at ∙ ap (slice_get slots) same ∙ there)

  pub child-or : (k : ℕ) → IsChildTo (n + 1) slots k → IsChildTo n slots k ⊎ IsBlock slot.child k
  child-or k is =
      ⊎_elim
      (λ less. inl (is.0, is.1, less, is.3, is.4, is.5))
      (λ from. inr (is.5 ∙ ap (λ (s : PageSlot). s.child) (last-one is.0 is.1 is.3 is.2 from)))
      (cases_lt is.0 n)

  pub child-only : slot.agg.count ≡ 0 → (k : ℕ) → IsChildTo (n + 1) slots k → IsChildTo n slots k
  child-only none k is =
      ⊎_elim
      (λ less. (is.0, is.1, less, is.3, is.4, is.5))
      (λ from.
      let same = ap (λ (s : PageSlot). s.agg.count) (last-one is.0 is.1 is.3 is.2 from) in
      let some = is.4 in
      absurd (omega arith))
      (cases_lt is.0 n)

pub child-all : (n : ℕ) (slots : List PageSlot) → length slots ≤ n → (k : ℕ) → IsSlotChild slots k → IsChildTo n slots k
child-all n slots all k is =
    ⊎_elim
    (λ less. (is.0, is.1, less, is.2, is.3, is.4))
    (λ from. absurd (let none = slice_get_past slots is.0 (omega arith) in let some = is.2 in cc))
    (cases_lt is.0 n)

pub child-of : (n : ℕ) (slots : List PageSlot) (k : ℕ) → IsChildTo n slots k → IsSlotChild slots k
child-of n slots k is = (is.0, is.1, is.3, is.4, is.5)

-- ---- the node blocks of an extent so far

-- The block is the root, or the child of a slot with a point, of a page that one of the first n node blocks is.
abbrev pub IsNeededTo : ℕ → List ℕ → ℕ → ℕ → Type 0
IsNeededTo n bytes root block =
    (block ≡ root)
    ⊎ ((m : ℕ) × (page : NodePage) × (i : ℕ) × (slot : PageSlot) × (m < n) × Fits page × Spells (block_of_bytes bytes m) page
    × (slice_get (slots_of_page page) i ≡ Some slot) × (0 < slot.agg.count) × (block ≡ slot.child))

pub needed-first : (bytes : List ℕ) (root k : ℕ) → IsNeededTo 0 bytes root k → ⊥ ⊎ IsBlock root k
needed-first bytes root k (inl same) = inr same
needed-first bytes root k (inr is) = let lt = is.4 in absurd (omega arith)

pub needed-all : (n : ℕ) (bytes : List ℕ) (root : ℕ) → length bytes ≤ 4096 * n → (k : ℕ) → IsNeeded bytes root k → IsNeededTo n bytes root k
needed-all n bytes root all k (inl same) = inl same
needed-all n bytes root all k (inr is) =
    let lt = is.4 in
    inr (is.0, is.1, is.2, is.3, omega arith, is.5, is.6, is.7, is.8, is.9)

pub needed-of : (n : ℕ) (bytes : List ℕ) (root : ℕ) → 4096 * n ≤ length bytes → (k : ℕ) → IsNeededTo n bytes root k → IsNeeded bytes root k
needed-of n bytes root all k (inl same) = inl same
needed-of n bytes root all k (inr is) =
    let lt = is.4 in
    inr (is.0, is.1, is.2, is.3, omega arith, is.5, is.6, is.7, is.8, is.9)

pub page-one : (x y : NodePage) → Some x ≡ Some y → x ≡ y
page-one x y same = cc

module _ (n : ℕ) (bytes : List ℕ) (root : ℕ) where
  pub needed-before : (k : ℕ) → IsNeededTo n bytes root k → IsNeededTo (n + 1) bytes root k
  needed-before k (inl same) = inl same
  needed-before k (inr is) =
      let lt = is.4 in
      inr (is.0, is.1, is.2, is.3, omega arith, is.5, is.6, is.7, is.8, is.9)

  -- The next node block is a page.
  pub needed-here : (page : NodePage) → Fits page → Spells (block_of_bytes bytes n) page → (k : ℕ) → IsSlotChild (slots_of_page page) k → IsNeededTo (n + 1) bytes root k
  needed-here page fits spells k is = inr (n, page, is.0, is.1, omega arith, fits, spells, is.2, is.3, is.4)

  pub needed-or : (page : NodePage) → ((other : NodePage) → Fits other → Spells (block_of_bytes bytes n) other → page ≡ other) → (k : ℕ) → IsNeededTo (n + 1) bytes root k → IsNeededTo n bytes root k ⊎ IsSlotChild (slots_of_page page) k
  needed-or page one k (inl same) = inl (inl same)
  needed-or page one k (inr is) =
      ⊎_elim
      (λ less. inl (inr (is.0, is.1, is.2, is.3, less, is.5, is.6, is.7, is.8, is.9)))
      (λ from.
      let lt = is.4 in
      let same : is.0 ≡ n = omega arith in
      let it = one is.1 is.5 (subst (λ m. Spells (block_of_bytes bytes m) is.1) same is.6) in
      inr (is.2, is.3, ap (λ (p : NodePage). slice_get (slots_of_page p) is.2) it ∙ is.7, is.8, is.9))
      (cases_lt is.0 n)

  -- The next node block is no page.
  pub needed-only : ((other : NodePage) → Fits other → Spells (block_of_bytes bytes n) other → ⊥) → (k : ℕ) → IsNeededTo (n + 1) bytes root k → IsNeededTo n bytes root k
  needed-only none k (inl same) = inl same
  needed-only none k (inr is) =
      ⊎_elim
      (λ less. inr (is.0, is.1, is.2, is.3, less, is.5, is.6, is.7, is.8, is.9))
      (λ from.
      let lt = is.4 in
      let same : is.0 ≡ n = omega arith in
      absurd (none is.1 is.5 (subst (λ m. Spells (block_of_bytes bytes m) is.1) same is.6)))
      (cases_lt is.0 n)

module _ {D : Type 0} (disk : Ghosts D) where
  -- The pages in some blocks were fetched.
  pub record HasFetched (before now : D) (old new : BlockReader) (blocks : ℕ → Type 0) (was nodes : TreesValue) : Type 0 where
    pub read : HasReadBelow disk old new before now
    pub can : CanRead disk new now
    pub grows : GrowsBelow old.limit was nodes
    pub own : disk.is_observable → AreOfDevice (disk.contents now) new.limit nodes
    pub all : disk.is_observable → FetchesAll (disk.contents before) old.limit blocks was nodes

  pub fetched-none : (d : D) (r : BlockReader) (blocks : ℕ → Type 0) (nodes : TreesValue) → (disk.is_observable → (c : Image) → disk.images_since d (disk.calls d) c → disk.images_now d c) → CanRead disk r d → (disk.is_observable → AreOfDevice (disk.contents d) r.limit nodes) → ((block : ℕ) → blocks block → 1 ≤ block → block < r.limit → ⊥) → HasFetched d d r r blocks nodes nodes
  fetched-none d r blocks nodes only_now can own none = record {
    read = read-none disk r d only_now can;
    can = can;
    grows = grows-none r.limit nodes;
    own = own;
    all = λ reported. fetches-none (disk.contents d) r.limit blocks nodes none;
  }

  pub fetched-more : (before mid now : D) (r m s : BlockReader) (first second all : ℕ → Type 0) (was nodes new : TreesValue) → HasFetched before mid r m first was nodes → HasReadBelow disk m s mid now → GrowsBelow m.limit nodes new → (disk.is_observable → FetchesAll (disk.contents mid) m.limit second nodes new) → ((k : ℕ) → first k → all k) → ((k : ℕ) → second k → all k) → ((k : ℕ) → all k → first k ⊎ second k) → HasFetched before now r s all was new
  fetched-more before mid now r m s first second all was nodes new so_far read grows more from_first from_second from_all = record {
    read = read-on disk r m s before mid now so_far.read read;
    can = can-on disk m s mid now so_far.can read;
    grows = grows-on r.limit was nodes new so_far.grows (grows-in disk before mid r m nodes new so_far.read grows);
    own = λ reported.
        subst (λ l. AreOfDevice (disk.contents now) l new) (sym read.limit) (subst (λ i. AreOfDevice i m.limit new) (sym (same-image disk mid now read.reads reported))
        (device-on (disk.contents mid) m.limit nodes new (more reported).adds (so_far.own reported)));
    all = λ reported.
        fetches-on (disk.contents before) r.limit first second all was nodes new (so_far.all reported)
        (subst (λ l. FetchesAll (disk.contents before) l second nodes new) so_far.read.limit (subst (λ i. FetchesAll i m.limit second nodes new) (same-image disk before mid so_far.read.reads reported) (more reported)))
        from_first from_second from_all;
  }

  pub fetched-same : (before now : D) (r s : BlockReader) (blocks other : ℕ → Type 0) (was nodes : TreesValue) → HasFetched before now r s blocks was nodes → ((k : ℕ) → blocks k → other k) → ((k : ℕ) → other k → blocks k) → HasFetched before now r s other was nodes
  fetched-same before now r s blocks other was nodes so_far to back = record {
    read = so_far.read;
    can = so_far.can;
    grows = so_far.grows;
    own = so_far.own;
    all = λ reported. fetches-same (disk.contents before) r.limit blocks other was nodes (so_far.all reported) to back;
  }

  -- The same states under other names.
  pub fetched-as : (before now then : D) (r s t : BlockReader) (blocks : ℕ → Type 0) (was nodes new : TreesValue) → s ≡ t → now ≡ then → nodes ≡ new → HasFetched before then r t blocks was new → HasFetched before now r s blocks was nodes
  fetched-as before now then r s t blocks was nodes new same_reader same_disk same_nodes so_far =
      subst (λ x. HasFetched before now r x blocks was nodes) (sym same_reader) (subst (λ d. HasFetched before d r t blocks was nodes) (sym same_disk) (subst (λ xs. HasFetched before then r t blocks was xs) (sym same_nodes) so_far))
