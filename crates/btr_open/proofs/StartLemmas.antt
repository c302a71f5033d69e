-- What was read of a log after its start was read: nothing at the first gate, or what the checkpoint of the superblock has.
use Rattle.std.specs.Prelude.{◌≡◌, ℕ, ◌+◌, ◌*◌, ◌<◌, ◌≤◌, ◌^◌, List, [], ◌∷◌, length, slice_get, Some, IsSome, IsNone}
use Rattle.std.proofs.Common.{refl, sym, ◌∙◌, ap, subst, arith, inl, inr}
use Rattle.std.proofs.lemmas.Bool.{cases_lt}
use Rattle.std.proofs.lemmas.Option.{slice_get_within}
use Rattle.btr_disk.specs.Bytes.{Image}
use Rattle.btr_log.specs.Extents.{Extents, first_gate}
use Rattle.btr_log.proofs.ExtentLemmas.{IsBody-one}
use Rattle.btr_super.specs.declared.superblock.Super.{Super}
use Rattle.btr_super.specs.Super.{IsSuper}
use Rattle.btr_tree.specs.Root.{TreeValue}
use Rattle.btr_tree.specs.Slots.{block_of}
use Rattle.btr_tree.specs.PageNodes.{Pages}
use Rattle.btr_pages.specs.Pages.{no_pages}
use Rattle.btr_pages.specs.Known.{TreesValue, AreKnown, ArePartOf, node_at}
use Rattle.btr_roll.specs.declared.roll.RollVersion.{RollVersion}
use Rattle.btr_roll.specs.Roll.{RollStreamValue}
use Rattle.btr_hist.specs.declared.entry.Entry.{Entry}
use Rattle.btr_streams.specs.Board.{Versions, Kept, IsBoardOf}
use Rattle.btr_engine.specs.Body.{MayStandUnder, Prefix, no_extents}
use Rattle.btr_engine.specs.Holds.{HoldsHistoryTo}
use Rattle.btr_streams.specs.Rolling.{rolled, roll_of}
use Rattle.btr_streams.specs.Restoring.{restored_streams, HaveRolledRoots}
use Rattle.btr_engine.specs.Stored.{AreStored}
use Rattle.btr_streams.specs.Rolling.{HaveRoots}
use Rattle.btr_streams.proofs.RestoringLemmas.{rolled-restored}
use Rattle.btr_open.specs.declared.loading.Loader.{Loader}
use Rattle.btr_open.specs.Reached.{Reached, beginning}
use Rattle.btr_open.specs.Below.{StandBelow}
use Rattle.btr_open.specs.Start.{HasRoll, IsCheckpointExtent, IsCheckpointStart, HaveRootPages, HasVersionAt, IsReadingStart}
use Rattle.btr_open.specs.Reading.{IsReadInto, WasReadTo, IsStoredIn, IsPartRead, IsReadLog, IsReadStart}
use Rattle.btr_open.specs.Loading.{AreTreesOf}
use Rattle.btr_open.specs.Checkpoint.{AreOfSome, AreFirstTrees, AreAllTrees, IsLoaded}
use Rattle.btr_open.proofs.TreeLemmas.{bare-node}
use Rattle.btr_open.proofs.HeldLemmas.{reached_with, IsStartOf, start-held}
use Rattle.btr_open.proofs.HeldTrees.{restored-held}
use Rattle.btr_open.proofs.StartContent.{has-number, one-content, roll-content}
use Rattle.btr_open.proofs.ListLemmas.{is-there}
use Rattle.btr_open.proofs.StartLoad.{all-fit, page-of-known}
use Rattle.btr_open.proofs.StartRoots.{known-none}

-- ---- the first gate

no-streams : (streams : List Versions) → length streams ≡ 0 → streams ≡ []
no-streams [] none = refl
no-streams (s ∷ streams) none = absurd (omega arith)

stored-none : AreStored no_pages first_gate []
stored-none = record { kept = λ block. tt; below = λ block some. absurd (cc); each = λ stream version. tt }

-- Nothing was read into a loader that has nothing.
into-none : (l : Loader) → IsBoardOf [] l.board → l.nodes ≡ [] → l.least ≡ 1 → IsReadInto beginning l
into-none l of none least = record {
  rolled_is = ap (λ (s : List Versions). rolled (record { streams = s; entries = 0 })) (no-streams l.board.streams of.counted);
  counted = of.entries;
  least_is = least;
  known = subst (AreKnown no_pages) (sym none) known-none;
  below = λ block some. let there = subst (λ n. IsSome (node_at n block)) none some in absurd (cc);
}

-- What was read up to the first gate.
pub read-to-none : (l : Loader) → IsBoardOf [] l.board → l.nodes ≡ [] → l.least ≡ 1 → WasReadTo 4 l
read-to-none l of none least = (beginning, refl, into-none l of none least)

-- What was read up to a gate above the limit, if the trees are those of some pages below it.
pub read-to-some : (limit gate : ℕ) (l : Loader) → limit ≤ gate → AreOfSome limit l.nodes → WasReadTo gate l
read-to-some limit gate l behind are = (
  record { gate = gate; entries = l.board.entries; roll = rolled l.board; pages = are.0; least = l.least },
  refl,
  record { rolled_is = refl; counted = refl; least_is = refl; known = are.1; below = below },
)
  where
    below : (block : ℕ) → IsSome (node_at l.nodes block) → block < gate
    below block there =
        elim (cases_lt block limit) [
          | inl low ↦ omega (arith, low, behind)
          | inr high ↦
              let page = page-of-known are.0 l.nodes block are.1.each there in
              let none = subst IsNone page.1 (are.2 block high) in
              absurd (cc)
        ]

stored-in-none : (l : Loader) → IsBoardOf [] l.board → l.nodes ≡ [] → l.least ≡ 1 → IsStoredIn no_extents l
stored-in-none l of none least =
    let streams = no-streams l.board.streams of.counted in
    record {
      of = of;
      least = omega (arith, least);
      counted = refl;
      stored = subst (AreStored no_pages first_gate) (sym streams) stored-none;
      roots = subst (HaveRoots []) (sym streams) (λ stream version some. tt);
      part = subst (ArePartOf no_pages) (sym none) (λ block. tt);
    }

-- The superblock names no checkpoint, so the log is read from its first gate.
read-first : (size : ℕ) (image : Image) (found : Super) (l : Loader) → IsSuper size found → found.checkpoint ≡ 0 → IsBoardOf [] l.board → l.nodes ≡ [] → l.least ≡ 1 → IsReadLog size image found 4 l
read-first size image found l table none of empty least = record {
  log = beginning;
  at = refl;
  walk = record {
    start = beginning;
    starts = inl (none, first, refl);
    bodies = [];
    extents = refl;
    leads = refl;
    formats = tt;
    sealed = λ sealed. refl;
  };
  into = into-none l of empty least;
  stand = λ block low. tt;
  held = λ blocks tail h holds same. record {
    before = [];
    rest = holds.bodies;
    parts = refl;
    log = no_extents;
    at = refl;
    leads = refl;
    more = holds.leads.lead;
    extents = holds.extents;
    stand = λ block low. tt;
    stored = stored-in-none l of empty least;
  };
}
  where
    first : found.tail ≡ first_gate
    first =
        elim table.start [ inl start ↦ start.1 | inr after ↦ let low = after.0 in absurd (omega (arith, low, none)) ]

pub read-none : (size : ℕ) (image : Image) (found : Super) (l : Loader) → IsSuper size found → found.checkpoint ≡ 0 → IsBoardOf [] l.board → l.nodes ≡ [] → l.least ≡ 1 → IsReadStart size image found 4 l
unfolding read-first
read-none size image found l table none of empty least =
    record { read = read-first size image found l table none of empty least; none = refl }

-- ---- the streams and the trees

module _ (nodes : TreesValue) (roll : List RollStreamValue) (trees : List (List TreeValue)) (are : AreAllTrees nodes roll trees) where
  -- The trees of a stream.
  of-stream : (stream k : ℕ) (v : RollVersion) (at : HasVersionAt roll stream k v) → (ts : List TreeValue) × AreFirstTrees nodes stream at.its.versions ts
  of-stream stream k v at =
      let ts = is-there trees stream (omega (arith, are.counted, slice_get_within roll stream at.its at.there)) in
      (ts.0, are.each stream at.its ts.0 at.there ts.1)

  pub trees-are : AreTreesOf nodes roll trees
  trees-are = record {
    counted = are.counted;
    long = λ stream s ts at there. (are.each stream s ts at there).counted;
    first = λ stream ts t there zero.
        let s = is-there roll stream (omega (arith, are.counted, slice_get_within trees stream ts there)) in
        ((are.each stream s.0 ts s.1 there).first t zero).is.empty refl;
    others = λ stream k v ts t at there tree.
        let its = (are.each stream at.its ts at.there there).others k v t at.is tree in
        (its.is, its.there);
  }

  -- Each root is 0, or that of a page.
  pub roots-are : (pages : Pages) → AreKnown pages nodes → HaveRootPages pages roll
  roots-are pages known stream k v at = (of-stream stream k v at).1.may k v at.is pages known

  -- The root of each tree is that of its version.
  pub roots-rolled : (pages : Pages) → AreKnown pages nodes → HaveRolledRoots roll trees
  roots-rolled pages known stream place s v ts t at its there tree =
      let first = are.each stream s ts at there in
      let one = first.others place v t its tree in
      elim (first.may place v its pages known) [
        | inl none ↦ ap block_of (bare-node t.node (one.is.empty none).node) ∙ sym none
        | inr has ↦ elim (cases_lt 0 v.root) [
          | inl some ↦ (one.is.read some pages stream (place + 1) known.each (one.there some) has).its_block
          | inr low ↦
              let none : v.root ≡ 0 = omega (arith, low) in
              ap block_of (bare-node t.node (one.is.empty none).node) ∙ sym none
        ]
      ]

-- ---- one checkpoint

-- A body before the tail of a superblock is not too long.
short-body : (size : ℕ) (image : Image) (found : Super) (body : List ℕ) → IsSuper size found → IsCheckpointExtent image found body → length body < 2 ^ 64
short-body size image found body table is = omega (arith, is.next, table.tail_to, table.blocks_to)

-- A superblock names one checkpoint, and its body has one number of entries and one list of streams.
module _ (size : ℕ) (image : Image) (found : Super) (table : IsSuper size found) (body other : List ℕ) (is : IsCheckpointExtent image found body) (too : IsCheckpointExtent image found other) where
  one-body : other ≡ body
  one-body = IsBody-one image (4096 * (found.checkpoint + 1)) other body too.head is.head too.extent.is_body is.extent.is_body too.extent.stored is.extent.stored

  module _ (m n : ℕ) (a b : List RollStreamValue) (has : HasRoll found.checkpoint m a body) (its : HasRoll found.checkpoint n b other) where
    low : m < 2 ^ 64
    low = omega (arith, has.bound, table.tail_to, table.blocks_to, is.next)

    low-too : n < 2 ^ 64
    low-too = omega (arith, its.bound, table.tail_to, table.blocks_to, is.next)

    its-body : HasRoll found.checkpoint n b body
    its-body = subst (HasRoll found.checkpoint n b) one-body its

    pub one-roll : a ≡ b
    one-roll =
        one-content body is.head is.extent.is_body (64 + is.head.length) refl (short-body size image found body table is) m n a b low low-too (roll-content found.checkpoint m a body has) (roll-content found.checkpoint n b body its-body)

    pub one-number : m ≡ n
    one-number =
        let short = short-body size image found body table is in
        sym (has-number body is.head is.extent.is_body (64 + is.head.length) refl short m a low (roll-content found.checkpoint m a body has)) ∙ has-number body is.head is.extent.is_body (64 + is.head.length) refl short n b low-too (roll-content found.checkpoint n b body its-body)

-- ---- the checkpoint

module _ (size : ℕ) (image : Image) (found : Super) (l : Loader) (table : IsSuper size found) (some : 0 < found.checkpoint) (entries : ℕ) (roll : List RollStreamValue) (body : List ℕ) (has : HasRoll found.checkpoint entries roll body) (extent : IsCheckpointExtent image found body) (under : MayStandUnder found.format body) (loaded : IsLoaded image found.checkpoint roll entries l) where
  abbrev own : Pages
  own = loaded.fetched.own

  -- What is before the gate after the checkpoint.
  abbrev start : Reached
  start = record { gate = found.tail; entries = entries; roll = roll; pages = own; least = 1 }

  start-is : IsCheckpointStart image found start
  start-is = record {
    body = body;
    extent = extent;
    has = has;
    under = under;
    gate = refl;
    least = refl;
    stand = loaded.fetched.stand;
    beyond = loaded.fetched.beyond;
    roots = roots-are l.nodes roll loaded.trees loaded.are own loaded.fetched.known;
  }

  -- A block that has a tree is below the checkpoint.
  known-below : (block : ℕ) → IsSome (node_at l.nodes block) → block < found.checkpoint
  known-below block there =
      elim (cases_lt block found.checkpoint) [
        | inl low ↦ low
        | inr high ↦
            let page = page-of-known own l.nodes block loaded.fetched.known.each there in
            let none = subst IsNone page.1 (loaded.fetched.beyond block high) in
            absurd (cc)
      ]

  start-into : IsReadInto start l
  start-into = record {
    rolled_is = ap rolled loaded.board ∙ rolled-restored has.format roll loaded.trees entries has.is_roll (all-fit l.nodes roll loaded.trees loaded.are) (roots-rolled l.nodes roll loaded.trees loaded.are own loaded.fetched.known);
    counted = ap (λ (b : Kept). b.entries) loaded.board;
    least_is = loaded.least;
    known = loaded.fetched.known;
    below = λ block there. omega (arith, known-below block there, extent.next);
  }

  -- All trees are those of each set of pages that a checkpoint of these streams has.
  part-of : (pages : Pages) → StandBelow image found.checkpoint pages → HaveRootPages pages roll → ArePartOf pages l.nodes
  part-of pages stand roots = loaded.fetched.part pages stand go
    where
      go : (n root : ℕ) → slice_get loaded.roots n ≡ Some root → IsSome (pages root)
      go n root at =
          let is = loaded.below.only n root at in
          let its = is.2 in
          elim (roots its.stream its.k its.v its.at) [
            | inl none ↦ absurd (omega (arith, is.0, its.is, none))
            | inr page ↦ subst (λ b. IsSome (pages b)) its.is (subst IsSome (sym page.is) refl)
          ]

  -- The device holds a history, whose start is that of a prefix: the board is that of the prefix.
  module _ (blocks tail : ℕ) (h : List Entry) (holds : HoldsHistoryTo size image blocks tail h) (same : holds.super ≡ found) (at : Prefix) (s : IsStartOf holds at) (its : IsCheckpointStart image found (reached_with 1 at)) where
    same-roll : roll ≡ roll_of at.entries at.roots
    same-roll = one-roll size image found table body its.body extent its.extent entries (length at.entries) roll (roll_of at.entries at.roots) has its.has

    same-number : entries ≡ length at.entries
    same-number = one-number size image found table body its.body extent its.extent entries (length at.entries) roll (roll_of at.entries at.roots) has its.has

    gate-is : at.gate ≡ found.tail
    gate-is = s.gate ∙ ap (λ (x : Super). x.tail) same

    stored-at : IsStoredIn at l
    stored-at =
        restored-held at s.before s.leads s.follows l loaded.trees (loaded.are.counted ∙ ap (length {A = RollStreamValue}) same-roll)
        (loaded.board ∙ (λ i. record { streams = restored_streams (same-roll i) loaded.trees; entries = same-number i })) loaded.least
        (subst (λ r. AreTreesOf l.nodes r loaded.trees) same-roll (trees-are l.nodes roll loaded.trees loaded.are))
        (part-of at.pages its.stand (subst (HaveRootPages at.pages) (sym same-roll) its.roots))

    part-read : IsPartRead holds found.tail l
    part-read = record {
      before = s.before;
      rest = s.after;
      parts = s.parts;
      log = at;
      at = gate-is;
      leads = s.leads;
      more = s.more;
      extents = subst (λ g. Extents image g s.after tail) gate-is s.extents;
      stand = subst (λ g. StandBelow image g at.pages) gate-is s.stand;
      stored = stored-at;
    }

  -- The log was read up to the gate after the checkpoint.
  read-after : IsReadLog size image found found.tail l
  read-after = record {
    log = start;
    at = refl;
    walk = record { start = start; starts = inr (some, start-is); bodies = []; extents = refl; leads = refl; formats = tt; sealed = λ sealed. refl };
    into = start-into;
    stand = loaded.fetched.stand;
    held = λ blocks tail h holds same.
        let at = start-held size image blocks tail h holds in
        elim (subst (λ (x : Super). IsReadingStart image x (reached_with 1 at.0)) same at.1.starts) [
          | inl none ↦ let zero = none.0 in absurd (omega (arith, zero, some))
          | inr its ↦ part-read blocks tail h holds same at.0 at.1 its.1
        ];
  }

  pub read-checkpoint : IsReadStart size image found found.tail l
  unfolding read-after
  read-checkpoint = record { read = read-after; none = refl }
