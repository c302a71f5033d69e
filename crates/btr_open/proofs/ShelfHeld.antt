-- The shelf of a device that holds a history: it has the streams of the history, and in the pages of the device the root of each version
-- leads to the tree of the version.
use Rattle.std.specs.Prelude.{◌≡◌, ℕ, ◌+◌, ◌<◌, ◌≤◌, true, List, [], length, drop, slice_get, get_or, Option, Some, None, option_map, ◌↔◌, Result, Ok, Err}
use Rattle.std.specs.Option.{unwrap_or}
use Rattle.std.proofs.Common.{zero, suc, refl, sym, ap, ◌∙◌, arith, subst, inl, inr}
use Rattle.std.proofs.lemmas.Bool.{false≢true}
use Rattle.std.proofs.lemmas.Option.{slice_get-get_or}
use Rattle.btr_disk.specs.declared.disk.Disk.{Ghosts}
use Rattle.btr_disk.specs.Bytes.{Image}
use Rattle.btr_disk.specs.Gate.{IsOpen}
use Rattle.btr_log.specs.Extents.{Extents}
use Rattle.btr_super.specs.declared.superblock.Super.{Super}
use Rattle.btr_super.specs.Super.{IsSuper, has_seal}
use Rattle.btr_disk.specs.Causes.{CausesFault}
use Rattle.btr_super.specs.declared.choosing.ChooseFault.{ChooseFault}
use Rattle.btr_super.specs.declared.choosing.ChooseFault.TheVariants as chosen
use Rattle.btr_super.specs.Choose.{HasNoSuper, IsChosen, IsDamagedSuper}
use Rattle.btr_super.proofs.ChoiceLemmas.{one_chosen}
use Rattle.btr_base.specs.Point.{AreInDomain}
use Rattle.btr_base.specs.declared.limits.TheConstants.{FIRST, MAX_POINTS}
use Rattle.btr_node.specs.Page.{page_bytes}
use Rattle.btr_node.specs.declared.page.NodePage.{NodePage}
use Rattle.btr_tree.specs.History as tree
use Rattle.btr_tree.specs.NewNodes.{NewNodeValue}
use Rattle.btr_tree.specs.Nodes.{above_root, is_node, points_of}
use Rattle.btr_tree.specs.PageNodes.{Pages, Stand, node_of_page}
use Rattle.btr_tree.specs.declared.spot.Root.{Root}
use Rattle.btr_tree.specs.Spots.{StandsIn, MayStandIn, IsRootAt, IsPossibleRoot}
use Rattle.btr_tree.proofs.LeadsLemmas.{leads-along}
use Rattle.btr_tree.proofs.SpotLemmas.{stands-page, led-page, says-version}
use Rattle.btr_tree.proofs.NewNodeLemmas.{last_change-before}
use Rattle.btr_pages.specs.Pages.{IsPageAt}
use Rattle.btr_pages.proofs.ReportedLemmas.{page-in}
use Rattle.btr_shelf.specs.DeviceBlocks.{IsBlockPage}
use Rattle.btr_shelf.specs.PageLaws.{one_block_page}
use Rattle.btr_hist.specs.declared.entry.Entry.{Entry}
use Rattle.btr_hist.specs.History.{ids, latest}
use Rattle.btr_hist.proofs.OutputLemmas.{follows-sound}
use Rattle.btr_roll.specs.declared.roll.RollVersion.{RollVersion}
use Rattle.btr_roll.specs.Roll.{RollStreamValue}
use Rattle.btr_streams.specs.Board.{HasVersion}
use Rattle.btr_streams.specs.Past.{commits_to, stream_numbers}
use Rattle.btr_streams.specs.Rolling.{roll_of, rolled_stream}
use Rattle.btr_streams.proofs.BoardTrees.{bag-commits_to, before-commits_to}
use Rattle.btr_streams.proofs.RollFits.{roll-at, versions-length, versions-counted}
use Rattle.btr_engine.specs.Body.{Prefix, prefix_to, no_extents, LeadTo}
use Rattle.btr_engine.specs.Roots.{IsRootOf}
use Rattle.btr_engine.specs.Holds.{HoldsHistoryTo, HoldsHistory}
use Rattle.btr_engine.proofs.BodyLemmas.{LeadTo-gate}
use Rattle.btr_open.specs.declared.opening.OpenCause.{OpenCause}
use Rattle.btr_open.specs.declared.opening.OpenCause.TheVariants as cause
use Rattle.btr_open.specs.declared.sealed.SealedFault.{SealedFault}
use Rattle.btr_open.specs.declared.sealed.SealedFault.TheVariants.{NotAStore, Unsealed, Damaged, Fault, Want}
use Rattle.btr_open.specs.Below.{IsStoredPage, StandBelow}
use Rattle.btr_open.specs.Start.{IsCheckpointStart}
use Rattle.btr_open.specs.Shelf.{ShelfValue, rolled_root, root_on, HasRollOf, IsPossibleShelfOf, IsShelfOf}
use Rattle.btr_open.specs.Reads.{PartCause}
use Rattle.btr_open.specs.Sealed.{IsDamagedSealed, IsShelfRead, MayHaveLost, HoldsSealed, IsHarmlessCause, IsOpenedShelf, SealedCause}
use Rattle.btr_open.proofs.HeldPages.{if-at}
use Rattle.btr_open.proofs.HeldRoots.{LeadsToVersion, leads-low, pages-held, roots-lead}
use Rattle.btr_open.proofs.HeldTrees.{past-none}
use Rattle.btr_open.proofs.HeldLemmas.{reached_with, stand-held, start-held}
use Rattle.btr_open.proofs.StartLemmas.{one-roll, one-number}
use Rattle.btr_open.proofs.UnbrokenLemmas.{page-length}
use Rattle.btr_open.proofs.Sound.{no-extents, sound}

-- ---- pages on the device

module _ (image : Image) (size tail : ℕ) (inside : tail ≤ size) (pages : Pages) (stand : StandBelow image tail pages) where
  -- A node below the tail is that of a page of the device.
  on-device : (stream b : ℕ) (n : NewNodeValue) → b < tail → Stand pages stream b n → StandsIn (IsBlockPage (record { image = image; size = size })) stream b n
  on-device stream b n low at =
      let of = page-in pages stream b n at in
      let there = if-at (pages b) (λ q. (1 ≤ b) × IsStoredPage image b q × IsPageAt pages b q) of.page of.is (stand b low) in
      let stored = there.1 in
      record {
        page = of.page;
        is = record {
          inside = omega (arith, low, inside);
          bytes = page_bytes of.page;
          long = page-length of.page stored.fits;
          stored = stored.stored;
          spells = record { keeps = stored.keeps; bytes_are = refl };
          fits = stored.fits;
        };
        its_stream = of.its_stream;
        says = of.says;
      }

-- ---- the root of a past in fewer pages

module _ (has left : ℕ → NodePage → Type 0) (once : (b : ℕ) (p q : NodePage) → has b p → has b q → p ≡ q) (of_has : (b : ℕ) (q : NodePage) → left b q → has b q) where
  -- A node that stands in the pages may stand in those of them that are left.
  may-stand : (stream b : ℕ) (n : NewNodeValue) → StandsIn has stream b n → MayStandIn left stream b n
  may-stand stream b n at q is its_stream its_span its_version =
      ap node_of_page (once b q at.page (of_has b q is) at.is) ∙ at.says

  -- A root with all its pages is a possible root in those of them that are left.
  possible : (root : Root) (past : tree.Past) → IsRootAt (StandsIn has) root past → IsPossibleRoot left root past
  possible root past is = record {
    is = record {
      leads = leads-along (StandsIn has root.stream) (MayStandIn left root.stream) (root.block + 1) (λ b n less at. may-stand root.stream b n at) 10 FIRST above_root past root.block (omega arith) is.leads;
      not_newer = is.not_newer;
      times = is.times;
      few = is.few;
    };
    newest = λ some page at of_root.
        let its = stands-page has root.stream root.block page 10 FIRST above_root past once (of_has root.block page at) in
        let led = led-page (StandsIn has) root.stream root.block page 10 FIRST above_root past its (λ nowhere. let none = nowhere.is in omega arith) is.leads in
        says-version page led.links 10 FIRST above_root past led.says;
  }

no-root : (o : Option RollStreamValue) → 0 ≡ rolled_root o 0
no-root None = refl
no-root (Some s) = refl

-- ---- the roots of a history

module _ (size : ℕ) (image : Image) (blocks tail : ℕ) (h : List Entry) (holds : HoldsHistoryTo size image blocks tail h) where
  abbrev has : ℕ → NodePage → Type 0
  has = IsBlockPage (record { image = image; size = size })

  abbrev pages : Pages
  pages = holds.leads.pages

  abbrev final : Prefix
  final = prefix_to tail h holds.leads.roots holds.leads.pages

  abbrev roll : List RollStreamValue
  roll = roll_of h holds.leads.roots

  stand : StandBelow image tail pages
  stand = (stand-held image holds.bodies final holds.leads.lead holds.extents).0

  tail-inside : tail ≤ size
  tail-inside = omega (arith, holds.inside, holds.same_blocks, holds.chosen.stored.spelled.keeps.inside)

  tail-some : 1 ≤ tail
  tail-some = omega (arith, LeadTo-gate IsRootOf no_extents holds.bodies final holds.leads.lead)

  -- A root that leads to the nodes of a version is that of the version's past.
  root-at : (stream version root : ℕ) → LeadsToVersion pages h stream version root → root < tail → IsRootAt (StandsIn has) (record { block = root; stream = stream; version = version }) (commits_to h stream version)
  root-at stream version root leads low =
      let past = commits_to h stream version in
      let points = bag-commits_to h stream version in
      let all = follows-sound h holds.follows in
      let old = last_change-before (is_node above_root 10 FIRST) 10 FIRST past (version + 1) (omega arith) (before-commits_to h stream version) in
      record {
        leads = leads-along (Stand pages stream) (StandsIn has stream) tail (λ b n less at. on-device image size tail tail-inside pages stand stream b n less at) 10 FIRST above_root past root low leads;
        not_newer = omega (arith, old);
        times = subst AreInDomain (sym points) (all.in_domain stream version);
        few = subst (λ b. length b ≤ MAX_POINTS) (sym points) (all.bounded stream version);
      }

  -- The root of each version is that of the version's past.
  each-root : (stream version : ℕ) → HasVersion h stream version → IsRootAt (StandsIn has) (root_on roll stream version) (commits_to h stream version)
  each-root stream zero there =
      let none : points_of 10 FIRST (tree.bag (commits_to h stream 0)) ≡ [] = ap (λ p. points_of 10 FIRST (tree.bag p)) (past-none h stream) in
      subst (λ b. IsRootAt (StandsIn has) (record { block = b; stream = stream; version = 0 }) (commits_to h stream 0)) (no-root (slice_get roll stream)) (root-at stream 0 0 (inl (record { none = none; is = refl })) tail-some)
  each-root stream (suc k) there =
      let known = there.0 in
      let id = get_or (ids h) stream 0 in
      let s = rolled_stream h holds.leads.roots stream id in
      let place : 0 + stream ≡ stream = omega arith in
      let at : slice_get roll stream ≡ Some s = roll-at h holds.leads.roots 0 (ids h) stream id (slice_get-get_or (ids h) stream 0 known) ∙ ap (λ (n : ℕ). Some (rolled_stream h holds.leads.roots n id)) place in
      let many : length s.versions ≡ latest h stream = versions-length h holds.leads.roots stream 1 (drop 1 (stream_numbers h stream)) ∙ versions-counted h holds.leads.roots stream known in
      let v : RollVersion = get_or s.versions k (record { entry = 0; root = 0; reads = None }) in
      let is : slice_get s.versions k ≡ Some v = slice_get-get_or s.versions k (record { entry = 0; root = 0; reads = None }) (omega (arith, there.1, many)) in
      let next : k + 1 ≡ suc k = omega arith in
      let leads = subst (λ n. LeadsToVersion pages h stream n v.root) next (roots-lead holds.bodies final holds.leads.lead holds.follows stream k v (record { its = s; there = at; is = is })) in
      let low = leads-low pages h stream (suc k) v.root leads tail tail-some (pages-held holds.bodies final holds.leads.lead holds.follows) in
      let block : v.root ≡ rolled_root (slice_get roll stream) (suc k) = sym (ap (λ o. rolled_root o (suc k)) at ∙ ap (λ (o : Option RollVersion). unwrap_or (option_map (λ (x : RollVersion). x.root) o) 0) is) in
      subst (λ b. IsRootAt (StandsIn has) (record { block = b; stream = stream; version = suc k }) (commits_to h stream (suc k))) block (root-at stream (suc k) v.root leads low)

  -- ---- the shelf of a sealed store

  module _ (seal : has_seal holds.super ≡ true) (O : Type 0) (o : O) (shelf : ShelfValue) (read : IsShelfRead O image holds.super shelf) where
    -- The checkpoint is at the end of the log, so it has all entries.
    abbrev start : Prefix
    start = (start-held size image blocks tail h holds).0

    start-is : start ≡ final
    start-is =
        let of = (start-held size image blocks tail h holds).1 in
        let none = no-extents image holds.super.tail of.after tail (subst (λ g. Extents image g of.after tail) of.gate of.extents) (holds.sealed seal) in
        subst (λ l. LeadTo IsRootOf start l final) none of.more

    named : IsCheckpointStart image holds.super (reached_with 1 start)
    named =
        let is = read.read in
        elim (start-held size image blocks tail h holds).1.starts [
          | inl first ↦ absurd (omega (arith, first.0, is.has.bound))
          | inr there ↦ there.1
        ]

    table : IsSuper size holds.super
    table = holds.chosen.stored.spelled.keeps

    rolled : HasRollOf h shelf
    rolled =
        let is = read.read in
        let a = roll_of start.entries start.roots in
        record {
          roots = holds.leads.roots;
          roll = sym (one-roll size image holds.super table named.body is.body named.extent (is.extent o) (length start.entries) shelf.entries a shelf.roll named.has is.has) ∙ ap (λ (p : Prefix). roll_of p.entries p.roots) start-is;
          entries = sym (one-number size image holds.super table named.body is.body named.extent (is.extent o) (length start.entries) shelf.entries a shelf.roll named.has is.has) ∙ ap (λ (p : Prefix). length p.entries) start-is;
        }

    lead : (stream version : ℕ) → HasVersion h stream version → IsRootAt (StandsIn has) (root_on shelf.roll stream version) (commits_to h stream version)
    unfolding rolled
    lead stream version there = subst (λ r. IsRootAt (StandsIn has) (root_on r stream version) (commits_to h stream version)) (sym rolled.roll) (each-root stream version there)

    -- In the pages that are left of those of the device, the shelf may be that of the history.
    pub shelf-possible : (left : ℕ → NodePage → Type 0) → ((b : ℕ) (q : NodePage) → left b q → has b q) → IsPossibleShelfOf left h shelf
    shelf-possible left of_has = record {
      rolled = rolled;
      may_lead = λ stream version there.
          let root = root_on shelf.roll stream version in
          possible has left (one_block_page (record { image = image; size = size })) of_has root (commits_to h stream version) (lead stream version there);
    }

    pub shelf-held : IsShelfOf has h shelf
    shelf-held = record { may = shelf-possible has (λ b q at. at); lead = lead }

-- The shelf that is read of the chosen superblock is that of each history that the device holds.
pub shelf-of : (size : ℕ) (image : Image) (found : Super) (O : Type 0) (o : O) (shelf : ShelfValue) → IsChosen size image found → has_seal found ≡ true → IsShelfRead O image found shelf → (h : List Entry) → HoldsHistory size image h → IsShelfOf (IsBlockPage (record { image = image; size = size })) h shelf
shelf-of size image found O o shelf chosen seal read h first =
    let st = first.holds in
    let same = one_chosen size image found st.super chosen st.chosen in
    shelf-held size image first.blocks first.tail h st (subst (λ s. has_seal s ≡ true) same seal) O o shelf (subst (λ s. IsShelfRead O image s shelf) same read)

-- It may be that of each history that the device held before it lost pages.
pub shelf-left : (size : ℕ) (image : Image) (found : Super) (O : Type 0) (o : O) (shelf : ShelfValue) → IsChosen size image found → has_seal found ≡ true → IsShelfRead O image found shelf → (was : Image) (h : List Entry) → HoldsHistory size was h → MayHaveLost size was image → IsPossibleShelfOf (IsBlockPage (record { image = image; size = size })) h shelf
shelf-left size image found O o shelf chosen seal read was h first lost =
    let st = first.holds in
    let same = one_chosen size was found st.super (lost.chosen found chosen) st.chosen in
    let is = read.read in
    let before : IsShelfRead O was found shelf = record {
      format = read.format;
      read = record {
        body = is.body;
        has = is.has;
        same_format = is.same_format;
        after = is.after;
        under = is.under;
        extent = λ o. lost.checkpoint found is.body chosen (is.extent o);
      };
    } in
    shelf-possible size was first.blocks first.tail h st (subst (λ s. has_seal s ≡ true) same seal) O o shelf (subst (λ s. IsShelfRead O was s shelf) same before) (IsBlockPage (record { image = image; size = size })) lost.pages

-- What was read after the choice of the superblock is the shelf of the device as it was.
pub opened-shelf : {D : Type 0} (disk : Ghosts D) (old mid : D) (found : Super) (shelf : ShelfValue) → (disk.is_observable → IsChosen (disk.size old) (disk.contents old) found) → has_seal found ≡ true → (disk.is_observable → disk.contents mid ≡ disk.contents old) → IsShelfRead disk.is_observable (disk.contents mid) found shelf → IsOpenedShelf disk old shelf
opened-shelf disk old mid found shelf chosen seal same read = record {
  sealed = λ reported. (found, chosen reported, seal);
  of = λ reported h holds.
      shelf-of (disk.size old) (disk.contents old) found disk.is_observable reported shelf (chosen reported) seal (subst (λ i. IsShelfRead disk.is_observable i found shelf) (same reported) read) h holds;
  may = λ reported was h holds lost.
      shelf-left (disk.size old) (disk.contents old) found disk.is_observable reported shelf (chosen reported) seal (subst (λ i. IsShelfRead disk.is_observable i found shelf) (same reported) read) was h holds lost;
}

-- Why there is no shelf, from why the checkpoint or the tail was not read.
pub sealed-cause : {D : Type 0} (disk : Ghosts D) (old mid new : D) (found : Super) → (disk.is_observable → IsChosen (disk.size old) (disk.contents old) found) → has_seal found ≡ true → disk.faults old ≤ disk.faults mid → (disk.is_observable → disk.contents mid ≡ disk.contents old) → (why : OpenCause) (fault : SealedFault) → ((block : ℕ) → why ≡ cause.Damaged block → fault ≡ Damaged block) → (why ≡ cause.Fault → fault ≡ Fault) → (why ≡ cause.Want → fault ≡ Want) → PartCause disk (IsDamagedSealed (disk.contents mid) found) mid new why → SealedCause disk old new fault
sealed-cause disk old mid new found chosen seal low same cause.NotAStore fault damaged failed wanting is = absurd is
sealed-cause disk old mid new found chosen seal low same (cause.Damaged block) fault damaged failed wanting is =
    subst (SealedCause disk old new) (sym (damaged block refl)) (λ reported. inr (found, chosen reported, seal, subst (λ i. IsDamagedSealed i found block) (same reported) (is reported)))
sealed-cause disk old mid new found chosen seal low same cause.Fault fault damaged failed wanting is =
    subst (SealedCause disk old new) (sym (failed refl)) (omega (arith, is, low))
sealed-cause disk old mid new found chosen seal low same cause.Want fault damaged failed wanting is =
    subst (SealedCause disk old new) (sym (wanting refl)) tt

-- ---- no damage

-- A sealed store of which the device holds a history, and whose superblock names a checkpoint, is refused for the device or memory alone.
pub sealed-stood : {D : Type 0} (disk : Ghosts D) (old new : D) → disk.is_observable → (h : List Entry) → HoldsSealed (disk.size old) (disk.contents old) h → (fault : SealedFault) → SealedCause disk old new fault → IsHarmlessCause fault
sealed-stood disk old new reported h held NotAStore cause =
    absurd ((sound (disk.size old) 0 (disk.contents old) h (record { blocks = held.blocks; tail = held.tail; holds = held.holds })).0 (cause reported))
sealed-stood disk old new reported h held Unsealed cause =
    let is = cause reported in
    let same = one_chosen (disk.size old) (disk.contents old) is.0 held.holds.super is.1 held.holds.chosen in
    absurd (false≢true (sym is.2 ∙ ap has_seal same ∙ held.seal))
sealed-stood disk old new reported h held (Damaged block) cause =
    let none = (sound (disk.size old) block (disk.contents old) h (record { blocks = held.blocks; tail = held.tail; holds = held.holds })).1 in
    elim (cause reported) [
      | inl broken ↦ absurd (none (inl broken))
      | inr of ↦
          let same = one_chosen (disk.size old) (disk.contents old) of.0 held.holds.super of.1 held.holds.chosen in
          let checkpoint : of.0.checkpoint ≡ held.holds.super.checkpoint = ap (λ (s : Super). s.checkpoint) same in
          elim of.3 [
            | inl unnamed ↦ absurd (omega (arith, unnamed.none, checkpoint, held.named))
            | inr more ↦ elim more [
              | inl wrong ↦ absurd (none (inr (of.0, of.1, inl wrong)))
              | inr tail ↦
                  let end : of.0.tail ≡ held.tail = ap (λ (s : Super). s.tail) same ∙ held.holds.sealed held.seal in
                  absurd (held.holds.closed (subst (IsOpen (disk.contents old)) end tail.is_open))
            ]
          ]
    ]
sealed-stood disk old new reported h held Fault cause = tt
sealed-stood disk old new reported h held Want cause = tt

-- ---- an unsealed store

-- The choice is refused, though a superblock is chosen: the device failed.
pub choice-failed : (size : ℕ) (image : Image) (s : Super) (result : Result Super ChooseFault) (fault : ChooseFault) → ((result ≡ Err chosen.Fault → ⊥) → (t : Super) → (result ≡ Ok t) ↔ IsChosen size image t) → IsChosen size image s → result ≡ Err fault → fault ≡ chosen.Fault
choice-failed size image s result chosen.NotAStore only is refused =
    let other : Ok s ≡ Err chosen.NotAStore = sym ((only (λ failed. cc) s).1 is) ∙ refused in absurd (cc)
choice-failed size image s result (chosen.Damaged block) only is refused =
    let other : Ok s ≡ Err (chosen.Damaged block) = sym ((only (λ failed. cc) s).1 is) ∙ refused in absurd (cc)
choice-failed size image s result chosen.Fault only is refused = refl

-- Why the superblock was not chosen is why there is no shelf.
pub choice-cause : {D : Type 0} (disk : Ghosts D) (old new : D) (result : Result Super ChooseFault) → CausesFault (disk.faults old) (disk.faults new) (result ≡ Err chosen.Fault) → (disk.is_observable → (result ≡ Err chosen.Fault → ⊥) → (result ≡ Err chosen.NotAStore) ↔ HasNoSuper (disk.size old) (disk.contents old)) → (disk.is_observable → (result ≡ Err chosen.Fault → ⊥) → (block : ℕ) → (result ≡ Err (chosen.Damaged block)) ↔ IsDamagedSuper (disk.size old) (disk.contents old) block) → (fault : ChooseFault) (why : SealedFault) → result ≡ Err fault → (fault ≡ chosen.NotAStore → why ≡ NotAStore) → ((block : ℕ) → fault ≡ chosen.Damaged block → why ≡ Damaged block) → (fault ≡ chosen.Fault → why ≡ Fault) → SealedCause disk old new why
choice-cause disk old new result causes none damaged chosen.NotAStore why is none_is damaged_is fault_is =
    subst (SealedCause disk old new) (sym (none_is refl)) (λ reported. (none reported (λ other. cc)).0 is)
choice-cause disk old new result causes none damaged (chosen.Damaged block) why is none_is damaged_is fault_is =
    subst (SealedCause disk old new) (sym (damaged_is block refl)) (λ reported. inl ((damaged reported (λ other. cc) block).0 is))
choice-cause disk old new result causes none damaged chosen.Fault why is none_is damaged_is fault_is =
    subst (SealedCause disk old new) (sym (fault_is refl)) (causes.rose is)
