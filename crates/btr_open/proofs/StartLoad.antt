-- Lemmas on what a checkpoint has: its trees fit its streams, and why it was not loaded.
use Rattle.std.specs.Prelude.{◌≡◌, ◌⊎◌, ℕ, zero, suc, ◌+◌, ◌<◌, ◌≤◌, List, slice_get, Option, Some, None, IfSome, IsSome}
use Rattle.std.proofs.Common.{refl, sym, ◌∙◌, ap, subst, arith, inl, inr}
use Rattle.std.proofs.lemmas.Bool.{cases_lt}
use Rattle.std.proofs.lemmas.Option.{slice_get_within}
use Rattle.btr_disk.specs.declared.disk.Disk.{Ghosts}
use Rattle.btr_disk.specs.Bytes.{Image}
use Rattle.btr_super.specs.declared.superblock.Super.{Super}
use Rattle.btr_node.specs.declared.page.NodePage.{NodePage}
use Rattle.btr_tree.specs.Root.{TreeValue}
use Rattle.btr_tree.specs.PageNodes.{Pages, IsRootPage}
use Rattle.btr_pages.specs.Pages.{IsPageAt, HasRootPage}
use Rattle.btr_pages.specs.Known.{KnownValue, TreesValue, AreKnown, ArePartOf, IsKnown, node_at}
use Rattle.btr_pages.proofs.KnownLemmas.{block-at}
use Rattle.btr_roll.specs.Roll.{RollStreamValue}
use Rattle.btr_streams.specs.Board.{HasPast}
use Rattle.btr_streams.specs.Restoring.{FitTrees, AllFitTrees}
use Rattle.btr_open.specs.declared.opening.OpenCause.{OpenCause}
use Rattle.btr_open.specs.declared.opening.OpenCause.TheVariants.{NotAStore, Damaged, Fault, Want}
use Rattle.btr_open.specs.Below.{StandBelow, IsStoredPage}
use Rattle.btr_open.specs.Start.{HasWrongVersionRoot}
use Rattle.btr_open.specs.Checkpoint.{AreRootsBelow, AreRootsFetched, IsWrongBelow, AreFirstTrees, AreAllTrees, NamesWrongRoot, TreesCause, RootsCause, StartCause}
use Rattle.btr_open.proofs.ListLemmas.{each-from, is-there}

-- ---- trees

-- The trees of a stream are as many as its versions and version 0, and each is that of some past.
fit-stream : (nodes : TreesValue) (stream : ℕ) (s : RollStreamValue) (ts : List TreeValue) → AreFirstTrees nodes stream s.versions ts → FitTrees s ts
fit-stream nodes stream s ts are = record {
  counted = are.counted;
  pasts = each-from HasPast ts go;
}
  where
    go : (n : ℕ) (t : TreeValue) → slice_get ts n ≡ Some t → HasPast t
    go zero t at = (are.first t at).past
    go (suc k) t at =
        let v = is-there s.versions k (omega (arith, are.counted, slice_get_within ts (suc k) t at)) in
        let one : suc k ≡ k + 1 = omega arith in
        (are.others k v.0 t v.1 (ap (slice_get ts) (sym one) ∙ at)).past

pub all-fit : (nodes : TreesValue) (roll : List RollStreamValue) (trees : List (List TreeValue)) → AreAllTrees nodes roll trees → AllFitTrees roll trees
all-fit nodes roll trees are = record {
  counted = are.counted;
  each = λ stream s ts at there. fit-stream nodes stream s ts (are.each stream s ts at there);
}

-- ---- pages of known trees

-- The tree of a block was made of the page there.
pub page-of-known : (pages : Pages) (nodes : TreesValue) (block : ℕ) → ArePartOf pages nodes → IsSome (node_at nodes block) → (page : NodePage) × (pages block ≡ Some page)
page-of-known pages nodes block are some = go (node_at nodes block) refl some (are block)
  where
    go : (o : Option KnownValue) → node_at nodes block ≡ o → IsSome o → IfSome o (IsKnown pages) → (page : NodePage) × (pages block ≡ Some page)
    go None at some is = absurd (cc)
    go (Some k) at some is = (is.page, ap pages (sym (block-at nodes block k at)) ∙ is.is)

pub stored-page : (image : Image) (limit block : ℕ) (pages : Pages) (page : NodePage) → StandBelow image limit pages → block < limit → pages block ≡ Some page → IsStoredPage image block page
stored-page image limit block pages page stand low at =
    (subst (λ o. IfSome o (λ p. (1 ≤ block) × IsStoredPage image block p × IsPageAt pages block p)) at (stand block low)).1

-- ---- why a checkpoint was not loaded

module _ (image : Image) (found : Super) (format : ℕ) (roll : List RollStreamValue) (roots : List ℕ) (below : AreRootsBelow found.checkpoint roll roots) where
  wrong-below : (n root block : ℕ) → slice_get roots n ≡ Some root → IsWrongBelow image root block → HasWrongVersionRoot image found format roll block
  wrong-below n root block at wrong =
      let is = below.only n root at in
      let its = is.2 in
      let low : its.v.root < found.checkpoint = omega (arith, is.1, its.is) in
      record {
        stream = its.stream;
        k = its.k;
        v = its.v;
        at = its.at;
        some = omega (arith, is.0, its.is);
        wrong = elim (subst (λ (r : ℕ). IsWrongBelow image r block) (sym its.is) wrong) [
          | inl none ↦ inr (inl (low, none.0, none.1))
          | inr breaks ↦ inr (inr (low, breaks.0, breaks.1, breaks.2))
        ];
      }

  wrong-root : (nodes : TreesValue) (block : ℕ) → AreRootsFetched image found.checkpoint roots nodes → NamesWrongRoot nodes found.checkpoint format roll block → HasWrongVersionRoot image found format roll block
  wrong-root nodes block fetched names =
      let v = names.v in
      record {
        stream = names.stream;
        k = names.k;
        v = v;
        at = names.at;
        some = names.wrong.some;
        wrong = inl (go names.wrong.wrong, names.named);
      }
    where
      no-page : names.v.root < found.checkpoint → ((pages : Pages) → AreKnown pages nodes → HasRootPage pages names.stream (names.k + 1) names.v.root → ⊥) → (page : NodePage) × IsStoredPage image names.v.root page × (IsRootPage names.stream (names.k + 1) page → ⊥)
      no-page low none =
          let root = names.v.root in
          let at = below.all root (record { stream = names.stream; k = names.k; v = names.v; at = names.at; is = refl }) (omega (arith, names.wrong.some)) low in
          let page = page-of-known fetched.own nodes root fetched.known.each (fetched.there at.0 root at.1) in
          (page.0, stored-page image found.checkpoint root fetched.own page.0 fetched.stand low page.1, λ is. none fetched.own fetched.known (record { page = page.0; is = page.1; fits = is }))

      go : (found.checkpoint ≤ names.v.root) ⊎ ((pages : Pages) → AreKnown pages nodes → HasRootPage pages names.stream (names.k + 1) names.v.root → ⊥) → (found.checkpoint ≤ names.v.root) ⊎ ((page : NodePage) × IsStoredPage image names.v.root page × (IsRootPage names.stream (names.k + 1) page → ⊥))
      go (inl high) = inl high
      go (inr none) =
          elim (cases_lt names.v.root found.checkpoint) [ inl low ↦ inr (no-page low none) | inr high ↦ inl high ]

module _ {D : Type 0} (disk : Ghosts D) (found : Super) (format : ℕ) (roll : List RollStreamValue) (roots : List ℕ) (below : AreRootsBelow found.checkpoint roll roots) (old new : D) where
  -- The trees of the roots were not made.
  pub roots-load : (cause : OpenCause) → RootsCause disk roots old new cause → StartCause disk found format roll old new cause
  roots-load NotAStore is = is
  roots-load (Damaged block) is =
      λ reported. let w = is reported in wrong-below (disk.contents old) found format roll roots below w.0 w.1 block w.2 w.3
  roots-load Fault is = is
  roots-load Want is = tt

  -- The trees of the versions were not made.
  pub trees-load : (nodes : TreesValue) → (disk.is_observable → AreRootsFetched (disk.contents old) found.checkpoint roots nodes) → (cause : OpenCause) → TreesCause nodes found.checkpoint format roll cause → StartCause disk found format roll old new cause
  trees-load nodes fetched NotAStore is = is
  trees-load nodes fetched (Damaged block) is =
      λ reported. wrong-root (disk.contents old) found format roll roots below nodes block (fetched reported) is
  trees-load nodes fetched Fault is = absurd is
  trees-load nodes fetched Want is = tt
