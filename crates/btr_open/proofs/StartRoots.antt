-- Lemmas on the roots of a checkpoint: the list of them, and the trees of their pages.
use Rattle.std.specs.Prelude.{◌≡◌, ◌⊎◌, ℕ, zero, suc, ◌<◌, ◌≤◌, ◌&&◌, nat_lt, Bool, false, true, List, [], ◌∷◌, ◌++◌, length, slice_get, Option, Some, None, IfSome, IsSome, IsNone, if◌then◌else◌}
use Rattle.std.specs.List.{Contains}
use Rattle.std.specs.List.Sorted.{IsPermutation}
use Rattle.std.proofs.Common.{refl, sym, ◌∙◌, ap, subst, arith, inl, inr, length-append}
use Rattle.std.proofs.lemmas.Bool.{cases_lt, lt-ltb, ltb-true, and_parts}
use Rattle.std.proofs.lemmas.List.Sorted.{Contains-permutation, IsPermutation-sym}
use Rattle.std.proofs.lemmas.Option.{slice_get-get_or, slice_get_within, get_or_from_slice_get}
use Rattle.btr_base.proofs.ListLemmas.{get-append, get_back, get_last}
use Rattle.btr_disk.specs.declared.disk.Disk.{Ghosts}
use Rattle.btr_disk.specs.Bytes.{Image}
use Rattle.btr_tree.specs.PageNodes.{Pages}
use Rattle.btr_pages.specs.Pages.{no_pages}
use Rattle.btr_pages.specs.Known.{KnownValue, TreesValue, AreKnown, node_at}
use Rattle.btr_roll.specs.declared.roll.RollVersion.{RollVersion}
use Rattle.btr_roll.specs.Roll.{RollStreamValue}
use Rattle.btr_open.specs.declared.below.BlockReader.{BlockReader}
use Rattle.btr_open.specs.declared.below.Fetched.TheVariants.{Known}
use Rattle.btr_open.specs.declared.opening.OpenCause.{OpenCause}
use Rattle.btr_open.specs.declared.opening.OpenCause.TheVariants.{NotAStore, Damaged, Fault, Want}
use Rattle.btr_open.specs.Below.{StandBelow}
use Rattle.btr_log.specs.Reads.{OnlyReads}
use Rattle.btr_open.specs.Loading.{IsReaderOf, AddsBelow, GrowsBelow, StaysPart, HasReadBelow, FetchesPage}
use Rattle.btr_open.specs.Checkpoint.{AreOfSome, root_in, roots_in, roots_among, IsRootIn, AreRootsBelow, AreRootsFetched, IsWrongBelow, RootCause, RootsCause}
use Rattle.btr_log.proofs.OnlyReading.{OnlyReads-trans, same-bytes}

-- ---- elements of lists

-- The number is among the others.
abbrev In : List ℕ → ℕ → Type 0
In [] x = ⊥
In (y ∷ ys) x = (y ≡ x) ⊎ In ys x

in-before : (xs ys : List ℕ) (x : ℕ) → In xs x → In (xs ++ ys) x
in-before [] ys x is = absurd is
in-before (y ∷ xs) ys x is = elim is [ inl here ↦ inl here | inr there ↦ inr (in-before xs ys x there) ]

in-after : (xs ys : List ℕ) (x : ℕ) → In ys x → In (xs ++ ys) x
in-after [] ys x is = is
in-after (y ∷ xs) ys x is = inr (in-after xs ys x is)

in-either : (xs ys : List ℕ) (x : ℕ) → In (xs ++ ys) x → In xs x ⊎ In ys x
in-either [] ys x is = inr is
in-either (y ∷ xs) ys x is =
    elim is [
      | inl here ↦ inl (inl here)
      | inr there ↦ elim (in-either xs ys x there) [ inl a ↦ inl (inr a) | inr b ↦ inr b ]
    ]

in-at : (xs : List ℕ) (x : ℕ) → In xs x → (n : ℕ) × (slice_get xs n ≡ Some x)
in-at [] x is = absurd is
in-at (y ∷ xs) x is =
    elim is [
      | inl here ↦ (zero, ap Some here)
      | inr there ↦ let at = in-at xs x there in (suc at.0, at.1)
    ]

at-in : (xs : List ℕ) (n x : ℕ) → slice_get xs n ≡ Some x → In xs x
at-in [] n x at = absurd (cc)
at-in (y ∷ xs) zero x at = let same : y ≡ x = cc in inl same
at-in (y ∷ xs) (suc n) x at = inr (at-in xs n x at)

contains-at : (xs : List ℕ) (x : ℕ) → Contains xs x → (n : ℕ) × (slice_get xs n ≡ Some x)
contains-at xs x has = (has.0, slice_get-get_or xs has.0 x has.1 ∙ ap Some has.2)

at-contains : (xs : List ℕ) (n x : ℕ) → slice_get xs n ≡ Some x → Contains xs x
at-contains xs n x at = (n, slice_get_within xs n x at, get_or_from_slice_get xs n x x at)

-- ---- the roots of streams

root-in : (limit : ℕ) (v : RollVersion) → 1 ≤ v.root → v.root < limit → In (root_in limit v) v.root
root-in limit v some low =
    let test : (nat_lt 0 v.root && nat_lt v.root limit) ≡ true = λ i. lt-ltb 0 v.root some i && lt-ltb v.root limit low i in
    subst (λ (b : Bool). In (if b then v.root ∷ [] else []) v.root) (sym test) (inl refl)

in-root : (limit : ℕ) (v : RollVersion) (root : ℕ) → In (root_in limit v) root → (1 ≤ root) × (root < limit) × (v.root ≡ root)
in-root limit v root is = go (nat_lt 0 v.root && nat_lt v.root limit) refl is
  where
    go : (b : Bool) → (nat_lt 0 v.root && nat_lt v.root limit) ≡ b → In (if b then v.root ∷ [] else []) root → (1 ≤ root) × (root < limit) × (v.root ≡ root)
    go false test is = absurd is
    go true test is =
        elim is [
          | inl same ↦
              let parts = and_parts (nat_lt 0 v.root) (nat_lt v.root limit) test in
              let some = ltb-true 0 v.root parts.0 in
              let low = ltb-true v.root limit parts.1 in
              (omega (arith, some, same), omega (arith, low, same), same)
          | inr none ↦ absurd none
        ]

roots-have : (limit : ℕ) (vs : List RollVersion) (k : ℕ) (v : RollVersion) → slice_get vs k ≡ Some v → 1 ≤ v.root → v.root < limit → In (roots_in limit vs) v.root
roots-have limit [] k v at some low = absurd (cc)
roots-have limit (w ∷ vs) zero v at some low =
    let same : w ≡ v = cc in
    in-before (root_in limit w) (roots_in limit vs) v.root (subst (λ x. In (root_in limit x) v.root) (sym same) (root-in limit v some low))
roots-have limit (w ∷ vs) (suc k) v at some low =
    in-after (root_in limit w) (roots_in limit vs) v.root (roots-have limit vs k v at some low)

-- A version of the list has this root, which is below the limit.
pub record IsOfVersion (limit : ℕ) (vs : List RollVersion) (root : ℕ) : Type 0 where
  pub some : 1 ≤ root
  pub low : root < limit
  pub k : ℕ
  pub v : RollVersion
  pub at : slice_get vs k ≡ Some v
  pub is : v.root ≡ root

have-roots : (limit : ℕ) (vs : List RollVersion) (root : ℕ) → In (roots_in limit vs) root → IsOfVersion limit vs root
have-roots limit [] root is = absurd is
have-roots limit (v ∷ vs) root is =
    elim (in-either (root_in limit v) (roots_in limit vs) root is) [
      | inl here ↦ let a = in-root limit v root here in record { some = a.0; low = a.1; k = zero; v = v; at = refl; is = a.2 }
      | inr there ↦
          let a = have-roots limit vs root there in
          record { some = a.some; low = a.low; k = suc a.k; v = a.v; at = a.at; is = a.is }
    ]

among-have : (limit : ℕ) (roll : List RollStreamValue) (stream k : ℕ) (s : RollStreamValue) (v : RollVersion) → slice_get roll stream ≡ Some s → slice_get s.versions k ≡ Some v → 1 ≤ v.root → v.root < limit → In (roots_among limit roll) v.root
among-have limit [] stream k s v there at some low = absurd (cc)
among-have limit (r ∷ roll) zero k s v there at some low =
    let same : r ≡ s = cc in
    in-before (roots_in limit r.versions) (roots_among limit roll) v.root (subst (λ (x : RollStreamValue). In (roots_in limit x.versions) v.root) (sym same) (roots-have limit s.versions k v at some low))
among-have limit (r ∷ roll) (suc stream) k s v there at some low =
    in-after (roots_in limit r.versions) (roots_among limit roll) v.root (among-have limit roll stream k s v there at some low)

have-among : (limit : ℕ) (roll : List RollStreamValue) (root : ℕ) → In (roots_among limit roll) root → (1 ≤ root) × (root < limit) × IsRootIn roll root
have-among limit [] root is = absurd is
have-among limit (r ∷ roll) root is =
    elim (in-either (roots_in limit r.versions) (roots_among limit roll) root is) [
      | inl here ↦
          let a = have-roots limit r.versions root here in
          (a.some, a.low, record { stream = zero; k = a.k; v = a.v; at = record { its = r; there = refl; is = a.at }; is = a.is })
      | inr there ↦
          let a = have-among limit roll root there in
          let b = a.2 in
          (a.0, a.1, record { stream = suc b.stream; k = b.k; v = b.v; at = record { its = b.at.its; there = b.at.there; is = b.at.is }; is = b.is })
    ]

-- The roots of the streams, in any order.
pub roots-ordered : (limit : ℕ) (roll : List RollStreamValue) (roots : List ℕ) → IsPermutation (roots_among limit roll) roots → AreRootsBelow limit roll roots
roots-ordered limit roll roots same = record {
  only = λ n root at.
      let back = contains-at (roots_among limit roll) root (Contains-permutation roots (roots_among limit roll) root (IsPermutation-sym (roots_among limit roll) roots same) (at-contains roots n root at)) in
      have-among limit roll root (at-in (roots_among limit roll) back.0 root back.1);
  all = λ root is some low.
      let there = among-have limit roll is.stream is.k is.at.its is.v is.at.there is.at.is (omega (arith, some, is.is)) (omega (arith, low, is.is)) in
      let at = in-at (roots_among limit roll) root (subst (In (roots_among limit roll)) is.is there) in
      contains-at roots root (Contains-permutation (roots_among limit roll) roots root same (at-contains (roots_among limit roll) at.0 root at.1));
}

-- ---- the trees of the roots

pub known-none : AreKnown no_pages []
known-none = record { each = λ block. tt; all = λ block some. absurd (cc) }

-- At first no tree was made.
pub fetched-none : (image : Image) (limit : ℕ) (nodes : TreesValue) → nodes ≡ [] → AreRootsFetched image limit [] nodes
fetched-none image limit nodes none =
    subst (AreRootsFetched image limit []) (sym none) (record {
      own = no_pages;
      stand = λ block low. tt;
      beyond = λ block high. refl;
      known = known-none;
      there = λ n root at. absurd (cc);
      part = λ pages stand all block. tt;
    })

pub grown-none : (limit : ℕ) (nodes : TreesValue) → nodes ≡ [] → AreOfSome limit nodes
grown-none limit nodes none = subst (AreOfSome limit) (sym none) (no_pages, known-none, λ block high. refl)

pub grown-more : (limit : ℕ) (old new : TreesValue) → AreOfSome limit old → GrowsBelow limit old new → AreOfSome limit new
grown-more limit old new so_far grows =
    let more = grows.known so_far.0 so_far.1 in
    (more.0, more.2, λ block high. subst IsNone (sym (more.1.same block high)) (so_far.2 block high))

-- A tree that is kept is there.
some-kept : (old new : TreesValue) (block : ℕ) → IfSome (node_at old block) (λ known. node_at new block ≡ Some known) → IsSome (node_at old block) → IsSome (node_at new block)
some-kept old new block kept some = go (node_at old block) kept some
  where
    go : (o : Option KnownValue) → IfSome o (λ known. node_at new block ≡ Some known) → IsSome o → IsSome (node_at new block)
    go None kept some = absurd (cc)
    go (Some k) kept some = subst IsSome (sym kept) refl

-- One root more.
pub fetched-more : (image : Image) (limit : ℕ) (roots : List ℕ) (root : ℕ) (old new : TreesValue) → AreRootsFetched image limit roots old → AddsBelow image limit old new → StaysPart image limit root old new → IsSome (node_at new root) → AreRootsFetched image limit (roots ++ root ∷ []) new
fetched-more image limit roots root old new so_far adds part there =
    let more = adds.grows.known so_far.own so_far.known in
    record {
      own = more.0;
      stand = adds.stands so_far.own so_far.known so_far.stand;
      beyond = λ block high. subst IsNone (sym (more.1.same block high)) (so_far.beyond block high);
      known = more.2;
      there = λ n r at.
          elim (cases_lt n (length roots)) [
            | inl low ↦ some-kept old new r (adds.grows.kept r) (so_far.there n r (get_back roots (root ∷ []) n r low at))
            | inr high ↦
                let long = length-append roots (root ∷ []) in
                let end : n ≡ length roots = omega (arith, slice_get_within (roots ++ root ∷ []) n r at) in
                let last : slice_get (roots ++ root ∷ []) n ≡ Some root = ap (slice_get (roots ++ root ∷ [])) end ∙ get_last roots root in
                let same : root ≡ r = cc in
                subst (λ x. IsSome (node_at new x)) same there
          ];
      part = λ pages stand all.
          part pages stand (all (length roots) root (get_last roots root))
          (so_far.part pages stand (λ n r at. all n r (get-append roots (root ∷ []) n r at)));
    }

-- ---- a device

module _ {D : Type 0} (disk : Ghosts D) where
  -- The trees of these roots were made so far.
  pub record IsFetchedSo (old now : D) (limit : ℕ) (reader : BlockReader) (roots : List ℕ) (nodes : TreesValue) : Type 0 where
    pub limit_is : reader.limit ≡ limit
    pub reads : OnlyReads disk old now
    pub holds : disk.is_observable → IsReaderOf (disk.contents now) reader
    pub grown : AreOfSome limit nodes
    pub fetched : disk.is_observable → AreRootsFetched (disk.contents old) limit roots nodes

  module _ (old mid : D) (limit : ℕ) (reader : BlockReader) (roots : List ℕ) (nodes : TreesValue) (so_far : IsFetchedSo old mid limit reader roots nodes) where
    -- The trees so far are those of pages that stand rightly.
    pub own-so : disk.is_observable → (own : Pages) × StandBelow (disk.contents mid) reader.limit own × AreKnown own nodes
    own-so reported =
        let f = so_far.fetched reported in
        let stand : StandBelow (disk.contents mid) limit f.own = subst (λ i. StandBelow i limit f.own) (same-bytes old mid so_far.reads reported) f.stand in
        (f.own, subst (λ n. StandBelow (disk.contents mid) n f.own) (sym so_far.limit_is) stand, f.known)

    -- One more was made.
    pub fetched-on : (new : D) (root : ℕ) (after : BlockReader) (more : TreesValue) → HasReadBelow disk reader after mid new → GrowsBelow reader.limit nodes more → (disk.is_observable → FetchesPage (disk.contents mid) reader.limit root nodes more Known) → IsFetchedSo old new limit after (roots ++ root ∷ []) more
    fetched-on new root after more read grows fetches = record {
      limit_is = read.limit ∙ so_far.limit_is;
      reads = OnlyReads-trans old mid new so_far.reads read.reads;
      holds = read.holds;
      grown = grown-more limit nodes more so_far.grown (subst (λ n. GrowsBelow n nodes more) so_far.limit_is grows);
      fetched = λ reported.
          let made = subst (λ i. FetchesPage i limit root nodes more Known) (sym (same-bytes old mid so_far.reads reported)) (subst (λ n. FetchesPage (disk.contents mid) n root nodes more Known) so_far.limit_is (fetches reported)) in
          fetched-more (disk.contents old) limit roots root nodes more (so_far.fetched reported) made.adds made.part made.found;
    }

    -- Why one more was not made.
    pub cause-so : (all : List ℕ) (n root : ℕ) (new : D) (cause : OpenCause) → slice_get all n ≡ Some root → RootCause disk root mid new cause → RootsCause disk all old new cause
    cause-so all n root new NotAStore at is = is
    cause-so all n root new (Damaged block) at is =
        λ reported. (n, root, at, subst (λ i. IsWrongBelow i root block) (sym (same-bytes old mid so_far.reads reported)) (is reported))
    cause-so all n root new Fault at is = let low = so_far.reads.counts.more_faults in omega (arith, is, low)
    cause-so all n root new Want at is = tt
