-- Lemmas on how trees of pages below a block are made, one after another, while blocks are read.
use Rattle.std.specs.Prelude.{◌≡◌, ℕ, ◌+◌, ◌<◌, ◌≤◌, [], ◌∷◌, length, slice_get, Option, Some, None, IfSome, IfOk, IsSome, IsNone, MatchOption, List, get_or, option_map, ◌-◌, Result, Ok, Err}
use Rattle.std.proofs.Common.{zero, suc, refl, sym, ap, ◌∙◌, subst, arith, inl, inr, ⊎_elim}
use Rattle.std.proofs.lemmas.Bool.{cases_lt}
use Rattle.std.proofs.lemmas.Option.{slice_get_past}
use Rattle.btr_disk.specs.declared.disk.Disk.{Ghosts}
use Rattle.btr_disk.specs.Bytes.{Image}
use Rattle.btr_base.specs.Span.{SpanValue}
use Rattle.btr_node.specs.Page.{header, Keeps, slots_of_page}
use Rattle.btr_node.specs.declared.page.NodePage.{NodePage}
use Rattle.btr_node.specs.declared.page.NodePage.TheVariants.{Leaf, Inner}
use Rattle.btr_node.specs.declared.page.PageSlot.{PageSlot}
use Rattle.btr_tree.specs.PageNodes.{Pages, IsChildPage}
use Rattle.btr_pages.specs.Pages.{IsPageAt}
use Rattle.btr_pages.specs.Known.{TreesValue, node_at, ArePartOf, KnowsChildren, TakesPage}
use Rattle.btr_pages.proofs.KnownLemmas.{HasOnly}
use Rattle.btr_open.specs.declared.below.BlockReader.{BlockReader}
use Rattle.btr_open.specs.Below.{IsStoredPage, IsWrongChild, BreaksBelow}
use Rattle.btr_log.specs.Reads.{OnlyReads}
use Rattle.btr_open.specs.Loading.{GrowsBelow, AddsBelow, StaysPart, CanRead, HasReadBelow, IsReadPage, IsStoredWith, HasNoneFrom, KnowsChild, MakesBelow}
use Rattle.btr_log.proofs.OnlyReading.{no-calls, OnlyReads-trans, same-bytes}
use Rattle.btr_open.proofs.BelowLemmas.{stored-one, stand-page, child-at}
use Rattle.btr_open.proofs.TreesBelow.{some-of, is-some, some-none, grows-none, grows-on, grows-one, adds-none, adds-on, adds-one, part-one, still-found, device-on, refused-breaks}

-- ---- what is known stays so

-- A child that is known stays so.
knows-still : (limit block : ℕ) (old new : TreesValue) → GrowsBelow limit old new → (o : Option PageSlot) → IfSome o (KnowsChild block old) → IfSome o (KnowsChild block new)
knows-still limit block old new grows None knows = knows
knows-still limit block old new grows (Some slot) knows = λ some.
    let its = knows some in (its.0, still-found limit old new grows slot.child its.1)

-- What breaks the format does so, whatever was to be done.
broken-still : (image : Image) (block : ℕ) (page : NodePage) (done other : Type 0) (o : Option ℕ) → IsSome o → MatchOption o done (BreaksBelow image block page) → MatchOption o other (BreaksBelow image block page)
broken-still image block page done other None some found = absurd (cc)
broken-still image block page done other (Some named) some found = found

-- A block that has no tree gets none, if only lower ones do.
none-still : (block : ℕ) (was nodes : TreesValue) → HasNoneFrom block was nodes → IsNone (node_at was block) → IsNone (node_at nodes block)
none-still block was nodes only fresh =
    elim (node_at nodes block) as (λ o. node_at nodes block ≡ o → IsNone o) [
      | None ↦ λ e. refl
      | Some k ↦ λ e. absurd (⊎_elim (λ before. some-none (node_at was block) before fresh) (λ low. absurd (omega arith)) (only block (is-some (node_at nodes block) k e)))
    ] refl

-- All slots are among the first ones.
knows-all_slots : (block : ℕ) (page : NodePage) (nodes : TreesValue) (n : ℕ) → length (slots_of_page page) ≤ n → ((i : ℕ) → i < n → IfSome (slice_get (slots_of_page page) i) (KnowsChild block nodes)) → (i : ℕ) → IfSome (slice_get (slots_of_page page) i) (KnowsChild block nodes)
knows-all_slots block page nodes n all known i =
    ⊎_elim
    (λ less. known i less)
    (λ from. subst (λ o. IfSome o (KnowsChild block nodes)) (sym (slice_get_past (slots_of_page page) i (omega arith))) tt)
    (cases_lt i n)

slot-in : (slots : List PageSlot) (i : ℕ) (slot : PageSlot) → i < length slots → slice_get slots i ≡ Some (get_or slots i slot)
slot-in [] i slot lt = absurd (omega arith)
slot-in (s ∷ slots) zero slot lt = refl
slot-in (s ∷ slots) (suc i) slot lt = slot-in slots i slot (omega arith)

-- The slot at a place of the slots of a page.
pub slot-there : (page : NodePage) (slots : List PageSlot) (i : ℕ) (slot : PageSlot) → slots ≡ slots_of_page page → i < length slots → slot ≡ get_or slots i slot → slice_get (slots_of_page page) i ≡ Some slot
slot-there page slots i slot same lt is =
    subst (λ xs. slice_get xs i ≡ Some slot) same (slot-in slots i slot lt ∙ ap Some (sym is))

-- The height of a child is less than that of its page.
pub height-falls : (page : NodePage) (i : ℕ) (slot : PageSlot) (child : NodePage) → Keeps page → slice_get (slots_of_page page) i ≡ Some slot → IsChildPage page i slot child → (header child).height < (header page).height
height-falls (Leaf start height stream version count points) i slot child keeps there fits = absurd (cc)
height-falls (Inner start height stream version count slots) i slot child keeps there fits =
    let down : (header child).height ≡ height - 1 = ap (λ (s : SpanValue). s.height) fits.span in
    let some = keeps.height_from in
    omega arith

-- A page of a block below a limit, which is the same.
pub read-still : (block limit other : ℕ) (page : NodePage) → other ≡ limit → IsReadPage block limit page → IsReadPage block other page
read-still block limit other page same read = subst (λ l. IsReadPage block l page) (sym same) read

pub none-of : {A : Type 0} (o : Option A) → IsNone o → o ≡ None
none-of None none = refl
none-of (Some x) none = absurd (cc)

pub none-got : {A B : Type 0} (f : A → B) (o : Option A) (p : Option B) → option_map f o ≡ p → IsNone o → IsNone p
none-got f None p same none = subst IsNone same refl
none-got f (Some x) p same none = absurd (cc)

pub some-got : {A B : Type 0} (f : A → B) (o : Option A) (p : Option B) → option_map f o ≡ p → IsSome o → IsSome p
some-got f None p same some = absurd (cc)
some-got f (Some x) p same some = subst IsSome same refl

pub ok-weaker : {T E : Type 0} {P Q : T → Type 0} (r : Result T E) → ((x : T) → P x → Q x) → IfOk r P → IfOk r Q
ok-weaker (Ok x) along is = along x is
ok-weaker (Err e) along is = tt

-- ---- a child that was made

-- No tree was made.
pub made-nothing : (image : Image) (limit block : ℕ) (page : NodePage) (nodes : TreesValue) (done : Type 0) (o : Option ℕ) → MatchOption o done (BreaksBelow image block page) → MakesBelow image limit block page nodes nodes done o
made-nothing image limit block page nodes done o found = record {
  adds = adds-none image limit nodes;
  part = λ pages stand has are. are;
  found = found;
}

module _ (image : Image) (limit block i : ℕ) (page : NodePage) (slot : PageSlot) (stored : IsStoredPage image block page) (there : slice_get (slots_of_page page) i ≡ Some slot) (some : 0 < slot.agg.count) where
  -- The child is wrong, and this block is named.
  pub child-wrong : (named : ℕ) → IsWrongChild image block page i slot named → BreaksBelow image block page named
  child-wrong named wrong = ([], (i, slot, there, some, wrong))

  pub made-wrong : (nodes : TreesValue) (done : Type 0) (named : ℕ) → IsWrongChild image block page i slot named → MakesBelow image limit block page nodes nodes done (Some named)
  made-wrong nodes done named wrong = made-nothing image limit block page nodes done (Some named) (child-wrong named wrong)

  -- If all pages of a set are stored rightly, and the page is among them, its child is too.
  part-down : (old new : TreesValue) → block < limit → StaysPart image limit slot.child old new → StaysPart image limit block old new
  part-down old new low down pages stand has are =
      let its = some-of (pages block) has in
      let here = stand-page image limit block pages stand low its.0 its.1 in
      let right = subst (λ p. IsPageAt pages block p) (stored-one image block its.0 page here.1 stored) here.2 in
      let child = child-at pages block page i slot right there some in
      down pages stand (is-some (pages slot.child) child.child child.is) are

  found-down : (child : NodePage) (nodes : TreesValue) (o : Option ℕ) → slot.child < block → IsStoredPage image slot.child child → IsChildPage page i slot child → MatchOption o (IsSome (node_at nodes slot.child)) (BreaksBelow image slot.child child) → MatchOption o (KnowsChild block nodes slot) (BreaksBelow image block page)
  found-down child nodes None lower its fits found = λ _. (lower, found)
  found-down child nodes (Some named) lower its fits found = (
    i ∷ found.0,
    (
      slot.child,
      child,
      record {
        slot = slot;
        there = there;
        some = some;
        is = refl;
        lower = lower;
        stored = its;
        fits = fits;
      },
      found.1,
    ),
  )

  pub made-down : (child : NodePage) (old new : TreesValue) (o : Option ℕ) → block < limit → slot.child < block → IsStoredPage image slot.child child → IsChildPage page i slot child → MakesBelow image limit slot.child child old new (IsSome (node_at new slot.child)) o → MakesBelow image limit block page old new (KnowsChild block new slot) o
  made-down child old new o low lower its fits made = record {
    adds = made.adds;
    part = part-down old new low made.part;
    found = found-down child new o lower its fits made.found;
  }

module _ {D : Type 0} (disk : Ghosts D) where
  -- ---- reads, one after another

  pub same-image : (old new : D) → OnlyReads disk old new → disk.is_observable → disk.contents new ≡ disk.contents old
  same-image old new reads reported = sym (same-bytes old new reads reported)

  -- Nothing was read. `only_now` is the device's law.
  pub read-none : (r : BlockReader) (d : D) → (disk.is_observable → (c : Image) → disk.images_since d (disk.calls d) c → disk.images_now d c) → CanRead disk r d → HasReadBelow disk r r d d
  read-none r d only_now can = record {
    limit = refl;
    reads = no-calls d only_now;
    holds = can.holds;
  }

  pub read-on : (r s t : BlockReader) (old mid new : D) → HasReadBelow disk r s old mid → HasReadBelow disk s t mid new → HasReadBelow disk r t old new
  read-on r s t old mid new first second = record {
    limit = second.limit ∙ first.limit;
    reads = OnlyReads-trans old mid new first.reads second.reads;
    holds = second.holds;
  }

  pub can-on : (r s : BlockReader) (old new : D) → CanRead disk r old → HasReadBelow disk r s old new → CanRead disk s new
  can-on r s old new can read =
      let size = read.reads.counts.same_size in
      let limit = read.limit in
      let inside = can.inside in
      let few = can.addressable in
      record { inside = omega arith; addressable = omega arith; holds = read.holds }

  -- ---- the trees of the children of a page

  -- The children of the first n slots of a page are known.
  pub record IsMadeTo (before now : D) (old new : BlockReader) (block : ℕ) (page : NodePage) (was nodes : TreesValue) (n : ℕ) : Type 0 where
    pub read : HasReadBelow disk old new before now
    pub can : CanRead disk new now
    pub only : HasNoneFrom block was nodes
    pub grows : GrowsBelow old.limit was nodes
    pub device : disk.is_observable → IsStoredWith (disk.contents before) old.limit block page nodes
    pub adds : disk.is_observable → AddsBelow (disk.contents before) old.limit was nodes
    pub part : disk.is_observable → StaysPart (disk.contents before) old.limit block was nodes
    pub known : disk.is_observable → (i : ℕ) → i < n → IfSome (slice_get (slots_of_page page) i) (KnowsChild block nodes)

  pub made-none : (d : D) (r : BlockReader) (block : ℕ) (page : NodePage) (nodes : TreesValue) → (disk.is_observable → (c : Image) → disk.images_since d (disk.calls d) c → disk.images_now d c) → CanRead disk r d → (disk.is_observable → IsStoredWith (disk.contents d) r.limit block page nodes) → IsMadeTo d d r r block page nodes nodes 0
  made-none d r block page nodes only_now can device = record {
    read = read-none r d only_now can;
    can = can;
    only = λ k has. inl has;
    grows = grows-none r.limit nodes;
    device = device;
    adds = λ reported. adds-none (disk.contents d) r.limit nodes;
    part = λ reported pages stand some are. are;
    known = λ reported i lt. absurd (omega arith);
  }

  -- Trees that were made, in terms of the first state.
  pub grows-in : (d e : D) (r s : BlockReader) (mid new : TreesValue) → HasReadBelow disk r s d e → GrowsBelow s.limit mid new → GrowsBelow r.limit mid new
  grows-in d e r s mid new read grows = subst (λ l. GrowsBelow l mid new) read.limit grows

  -- What a slot's child made, in terms of the first state.
  pub made-in : (d e : D) (r s : BlockReader) (block : ℕ) (page : NodePage) (mid new : TreesValue) (done : Type 0) (o : Option ℕ) → HasReadBelow disk r s d e → disk.is_observable → MakesBelow (disk.contents e) s.limit block page mid new done o → MakesBelow (disk.contents d) r.limit block page mid new done o
  made-in d e r s block page mid new done o read reported made =
      subst (λ l. MakesBelow (disk.contents d) l block page mid new done o) read.limit (subst (λ i. MakesBelow i s.limit block page mid new done o) (same-image d e read.reads reported) made)

  pub device-still : (old new : D) (r s : BlockReader) (block : ℕ) (page : NodePage) (nodes : TreesValue) → HasReadBelow disk r s old new → disk.is_observable → IsStoredWith (disk.contents old) r.limit block page nodes → IsStoredWith (disk.contents new) s.limit block page nodes
  device-still old new r s block page nodes read reported is =
      subst (λ l. IsStoredWith (disk.contents new) l block page nodes) (sym read.limit) (subst (λ i. IsStoredWith i r.limit block page nodes) (sym (same-image old new read.reads reported)) is)

  -- Trees that were made after those of the first slots.
  pub made-and : (before mid : D) (r m : BlockReader) (block : ℕ) (page : NodePage) (was nodes new : TreesValue) (n : ℕ) → IsMadeTo before mid r m block page was nodes n → GrowsBelow m.limit nodes new → GrowsBelow r.limit was new
  made-and before mid r m block page was nodes new n so_far grows =
      grows-on r.limit was nodes new so_far.grows (grows-in before mid r m nodes new so_far.read grows)

  -- One child more.
  pub made-more : (before mid now : D) (r m s : BlockReader) (block : ℕ) (page : NodePage) (slot : PageSlot) (was nodes new : TreesValue) (n : ℕ) → IsMadeTo before mid r m block page was nodes n → HasReadBelow disk m s mid now → HasNoneFrom block nodes new → GrowsBelow m.limit nodes new → (disk.is_observable → MakesBelow (disk.contents mid) m.limit block page nodes new (KnowsChild block new slot) None) → slice_get (slots_of_page page) n ≡ Some slot → IsMadeTo before now r s block page was new (n + 1)
  made-more before mid now r m s block page slot was nodes new n so_far read only grows made there =
      let here = λ (reported : disk.is_observable). made-in before mid r m block page nodes new (KnowsChild block new slot) None so_far.read reported (made reported) in
      record {
        read = read-on r m s before mid now so_far.read read;
        can = can-on m s mid now so_far.can read;
        only = λ k has. ⊎_elim (λ was_there. so_far.only k was_there) (λ low. inr low) (only k has);
        grows = made-and before mid r m block page was nodes new n so_far grows;
        device = λ reported. record {
          stored = (so_far.device reported).stored;
          own = device-on (disk.contents before) r.limit nodes new (here reported).adds (so_far.device reported).own;
        };
        adds = λ reported. adds-on (disk.contents before) r.limit was nodes new (so_far.adds reported) (here reported).adds;
        part = λ reported pages stand some are. (here reported).part pages stand some (so_far.part reported pages stand some are);
        known = λ reported i lt.
            ⊎_elim
            (λ less. knows-still r.limit block nodes new (here reported).adds.grows (slice_get (slots_of_page page) i) (so_far.known reported i less))
            (λ from.
            let same : n ≡ i = omega arith in
            subst (λ k. IfSome (slice_get (slots_of_page page) k) (KnowsChild block new)) same (subst (λ o. IfSome o (KnowsChild block new)) (sym there) (here reported).found))
            (cases_lt i n);
      }

  -- A child breaks the format.
  pub made-broken : (before mid : D) (r m : BlockReader) (block : ℕ) (page : NodePage) (was nodes new : TreesValue) (n : ℕ) (child own : Type 0) (o : Option ℕ) → IsMadeTo before mid r m block page was nodes n → (reported : disk.is_observable) → MakesBelow (disk.contents mid) m.limit block page nodes new child o → IsSome o → MakesBelow (disk.contents before) r.limit block page was new own o
  made-broken before mid r m block page was nodes new n child own o so_far reported made some =
      let here = made-in before mid r m block page nodes new child o so_far.read reported made in
      record {
        adds = adds-on (disk.contents before) r.limit was nodes new (so_far.adds reported) here.adds;
        part = λ pages stand has are. here.part pages stand has (so_far.part reported pages stand has are);
        found = broken-still (disk.contents before) block page child own o some here.found;
      }

  -- The tree of the page was added.
  pub made-own : (before mid : D) (r m : BlockReader) (block : ℕ) (page : NodePage) (was nodes new : TreesValue) (n : ℕ) → IsMadeTo before mid r m block page was nodes n → IsReadPage block r.limit page → IsNone (node_at was block) → TakesPage nodes new block page → HasOnly nodes new block → GrowsBelow r.limit was new
  made-own before mid r m block page was nodes new n so_far read fresh takes only =
      grows-on r.limit was nodes new so_far.grows (grows-one r.limit block page nodes new read.below (none-still block was nodes so_far.only fresh) takes only)

  pub made-all : (before mid : D) (r m : BlockReader) (block : ℕ) (page : NodePage) (was nodes new : TreesValue) (n : ℕ) → IsMadeTo before mid r m block page was nodes n → IsReadPage block r.limit page → IsNone (node_at was block) → TakesPage nodes new block page → HasOnly nodes new block → disk.is_observable → MakesBelow (disk.contents before) r.limit block page was new (IsSome (node_at new block)) None
  made-all before mid r m block page was nodes new n so_far read fresh takes only reported =
      let image = disk.contents before in
      let none = none-still block was nodes so_far.only fresh in
      let stored = (so_far.device reported).stored in
      record {
        adds = adds-on image r.limit was nodes new (so_far.adds reported) (adds-one image r.limit block page nodes new read.some read.below stored none takes only);
        part = λ pages stand has are.
            part-one image r.limit block page nodes new read.some read.below stored none takes only pages stand has (so_far.part reported pages stand has are);
        found = takes.stands;
      }

  -- The page was refused: a child that was known before is not the page of its slot.
  pub made-refused : (before mid : D) (r m : BlockReader) (block : ℕ) (page : NodePage) (was nodes : TreesValue) (n : ℕ) (own : Type 0) → IsMadeTo before mid r m block page was nodes n → IsReadPage block r.limit page → length (slots_of_page page) ≤ n → ((pages : Pages) → ArePartOf pages nodes → KnowsChildren pages nodes page → IsPageAt pages block page → ⊥) → disk.is_observable → MakesBelow (disk.contents before) r.limit block page was nodes own (Some block)
  made-refused before mid r m block page was nodes n own so_far read all refused reported =
      let image = disk.contents before in
      let device = so_far.device reported in
      record {
        adds = so_far.adds reported;
        part = so_far.part reported;
        found = refused-breaks image r.limit block page nodes read.below device.own.0 device.own.1 device.own.2 device.stored (knows-all_slots block page nodes n all (so_far.known reported)) refused;
      }
