-- The roots of entries, and the trees of boards: with the root of one entry more they are those of the board with that entry.
use Rattle.std.specs.Prelude.{◌≡◌, ℕ, ◌+◌, ◌-◌, ◌≤◌, List, [], ◌∷◌, ◌++◌, length, slice_get, slice_set, get_or, Option, Some, None, IfSome}
use Rattle.std.proofs.Common.{refl, sym, ap, ◌∙◌, subst, inl, inr, arith}
use Rattle.std.proofs.lemmas.List.{get_or_append_left, get_or_push}
use Rattle.std.proofs.lemmas.Option.{slice_get_within}
use Rattle.std.proofs.lemmas.Bool.{cases_eq}
use Rattle.btr_board.proofs.ListLemmas.{set-same, set-other}
use Rattle.btr_tree.specs.Root.{TreeValue}
use Rattle.btr_tree.specs.Slots.{block_of}
use Rattle.btr_hist.specs.declared.entry.Entry.{Entry}
use Rattle.btr_hist.specs.declared.entry.Entry.TheVariants.{Create, Define, Commit, Distillate, Retire}
use Rattle.btr_hist.specs.declared.kernel.Reads.{Reads}
use Rattle.btr_hist.specs.declared.kernel.Spec.{Spec}
use Rattle.btr_streams.specs.declared.board.Staged.{Staged}
use Rattle.btr_streams.specs.Past.{stream_numbers}
use Rattle.btr_streams.specs.Rolling.{root_at}
use Rattle.btr_streams.specs.Board.{Versions, Kept, HasStreamsOf}
use Rattle.btr_streams.specs.Rolling.{HaveRoots}
use Rattle.btr_streams.specs.Stage.{ReadsEntry, AddsStream, SetsEarliest, with_version, with_earliest, new_stream}
use Rattle.btr_engine.specs.Travel.{WritesAfter}
use Rattle.btr_streams.proofs.NumberingLemmas.{numbers-counted, number-between}
use Rattle.btr_streams.proofs.StreamsLemmas.{stream-of}
use Rattle.btr_engine.proofs.Written.{or-last}

if-some : {X : Type 0} (o : Option X) (P : X → Type 0) → ((x : X) → o ≡ Some x → P x) → IfSome o P
if-some None P each = tt
if-some (Some x) P each = each x refl

-- The root of each version from 1 on is that of its entry.
abbrev EachHasRoot : List ℕ → List Versions → Type 0
EachHasRoot roots streams =
    (stream version : ℕ) (s : Versions) (t : TreeValue) → 1 ≤ version → slice_get streams stream ≡ Some s → slice_get s.trees version ≡ Some t → root_at roots (get_or s.numbers version 0) ≡ block_of t.node

have-roots : (roots : List ℕ) (streams : List Versions) → EachHasRoot roots streams → HaveRoots roots streams
have-roots roots streams each stream version some =
    if-some (slice_get streams stream) _ (λ s at. if-some (slice_get s.trees version) _ (λ t there. each stream version s t some at there))

each-has : (roots : List ℕ) (streams : List Versions) → HaveRoots roots streams → EachHasRoot roots streams
each-has roots streams have stream version s t some at there =
    let of : IfSome (slice_get s.trees version) (λ (u : TreeValue). root_at roots (get_or s.numbers version 0) ≡ block_of u.node) =
    subst (λ (o : Option Versions). IfSome o (λ (v : Versions). IfSome (slice_get v.trees version) (λ (u : TreeValue). root_at roots (get_or v.numbers version 0) ≡ block_of u.node))) at (have stream version some) in
    subst (λ (o : Option TreeValue). IfSome o (λ (u : TreeValue). root_at roots (get_or s.numbers version 0) ≡ block_of u.node)) there of

module _ (h : List Entry) (b : Kept) (has : HasStreamsOf h b) (roots : List ℕ) (counted : length roots ≡ length h) (have : HaveRoots roots b.streams) (root : ℕ) where
  -- There is one number for each tree.
  numbered : (stream : ℕ) (s : Versions) → slice_get b.streams stream ≡ Some s → length s.numbers ≡ length s.trees
  numbered stream s at =
      let is = stream-of h b has stream s at in
      ap (length {A = ℕ}) is.1.numbered ∙ numbers-counted h stream is.0 ∙ sym is.1.counted

  -- The versions that the board has keep their roots.
  old-root : (stream version : ℕ) (s : Versions) (t : TreeValue) → 1 ≤ version → slice_get b.streams stream ≡ Some s → slice_get s.trees version ≡ Some t → root_at (roots ++ root ∷ []) (get_or s.numbers version 0) ≡ block_of t.node
  old-root stream version s t some at there =
      let is = stream-of h b has stream s at in
      let trees = is.1.counted in
      let few = slice_get_within s.trees version t there in
      let number = number-between h stream version is.0 some (omega (arith, trees, few)) in
      let same : get_or s.numbers version 0 ≡ get_or (stream_numbers h stream) version 0 = ap (λ (l : List ℕ). get_or l version 0) is.1.numbered in
      get_or_append_left roots (root ∷ []) 0 (get_or s.numbers version 0 - 1) (omega (arith, same, number.0, number.1, counted))
      ∙ each-has roots b.streams have stream version s t some at there

  -- A new stream has no version but version 0.
  pub roots-stream : (next : Kept) (id : ℕ) (spec : Option Spec) → AddsStream b id spec next → HaveRoots (roots ++ root ∷ []) next.streams
  roots-stream next id spec adds =
      let one : Versions = new_stream id spec adds.tree (b.entries + 1) in
      have-roots (roots ++ root ∷ []) next.streams (λ stream version s t some at there.
      elim (or-last b.streams one stream s (ap (λ (l : List Versions). slice_get l stream) (sym adds.streams) ∙ at)) [
        | inl old ↦ old-root stream version s t some old there
        | inr last ↦
            let only : slice_get (adds.tree ∷ []) version ≡ Some t = subst (λ (v : Versions). slice_get v.trees version ≡ Some t) last.0 there in
            let few = slice_get_within (adds.tree ∷ []) version t only in
            absurd (omega (arith, some, few))
      ])

  -- All versions keep their roots, also those that are retired.
  pub roots-retired : (next : Kept) (s least : ℕ) → SetsEarliest b s least next → HaveRoots (roots ++ root ∷ []) next.streams
  roots-retired next s least sets =
      let was = sets.kept in
      let now : Versions = with_earliest was least in
      have-roots (roots ++ root ∷ []) next.streams (λ stream version v t some at is.
      elim (cases_eq stream s) [
        | inl same ↦
            let place : slice_get (slice_set b.streams s now) stream ≡ Some now = ap (slice_get (slice_set b.streams s now)) same ∙ set-same b.streams s now (slice_get_within b.streams s was sets.there) in
            let it : v ≡ now =
            let both : Some v ≡ Some now = sym at ∙ ap (λ (l : List Versions). slice_get l stream) sets.streams ∙ place in
            cc in
            let tree : slice_get was.trees version ≡ Some t = subst (λ (w : Versions). slice_get w.trees version ≡ Some t) it is in
            ap (λ (w : Versions). root_at (roots ++ root ∷ []) (get_or w.numbers version 0)) it ∙ old-root s version was t some sets.there tree
        | inr other ↦
            old-root stream version v t some (sym (set-other b.streams s now stream other) ∙ ap (λ (l : List Versions). slice_get l stream) (sym sets.streams) ∙ at) is
      ])

  module _ (next : Kept) (s : ℕ) (was : Versions) (new : TreeValue) (read : Option Reads) (there : slice_get b.streams s ≡ Some was) (grown : next.streams ≡ slice_set b.streams s (with_version was new read (b.entries + 1))) (its : root ≡ block_of new.node) where
    abbrev longer : Versions
    longer = with_version was new read (b.entries + 1)

    -- The versions of the stream keep their roots, and the new one has that of the entry.
    longer-root : (version : ℕ) (t : TreeValue) → 1 ≤ version → slice_get (was.trees ++ new ∷ []) version ≡ Some t → root_at (roots ++ root ∷ []) (get_or (was.numbers ++ (b.entries + 1) ∷ []) version 0) ≡ block_of t.node
    longer-root version t some at =
        let size = numbered s was there in
        let entries = has.entries in
        elim (or-last was.trees new version t at) [
          | inl old ↦
              let few = slice_get_within was.trees version t old in
              ap (root_at (roots ++ root ∷ [])) (get_or_append_left was.numbers ((b.entries + 1) ∷ []) 0 version (omega (arith, size, few)))
              ∙ old-root s version was t some there old
          | inr last ↦
              ap (root_at (roots ++ root ∷ [])) (get_or_push was.numbers (b.entries + 1) 0 version (size ∙ sym last.1))
              ∙ get_or_push roots root 0 (b.entries + 1 - 1) (omega (arith, counted, entries))
              ∙ its
              ∙ ap (λ (u : TreeValue). block_of u.node) (sym last.0)
        ]

    -- The versions of the other streams keep their roots too.
    pub roots-version : HaveRoots (roots ++ root ∷ []) next.streams
    roots-version =
        have-roots (roots ++ root ∷ []) next.streams (λ stream version v t some at is.
        elim (cases_eq stream s) [
          | inl same ↦
              let place : slice_get (slice_set b.streams s longer) stream ≡ Some longer = ap (slice_get (slice_set b.streams s longer)) same ∙ set-same b.streams s longer (slice_get_within b.streams s was there) in
              let it : v ≡ longer =
              let both : Some v ≡ Some longer = sym at ∙ ap (λ (l : List Versions). slice_get l stream) grown ∙ place in
              cc in
              let tree : slice_get (was.trees ++ new ∷ []) version ≡ Some t = subst (λ (w : Versions). slice_get w.trees version ≡ Some t) it is in
              ap (λ (w : Versions). root_at (roots ++ root ∷ []) (get_or w.numbers version 0)) it ∙ longer-root version t some tree
          | inr other ↦
              old-root stream version v t some (sym (set-other b.streams s longer stream other) ∙ ap (λ (l : List Versions). slice_get l stream) (sym grown) ∙ at) is
        ])

-- The trees of the board with an entry more have the roots of the entries, if the new root is the one that the entry writes.
pub roots-written : (h : List Entry) (b : Kept) (has : HasStreamsOf h b) (roots : List ℕ) (counted : length roots ≡ length h) (have : HaveRoots roots b.streams) (e : Entry) (tail : ℕ) (s : Staged) → WritesAfter b e tail s → HaveRoots (roots ++ s.root ∷ []) s.next.streams
roots-written h b has roots counted have (Create id) tail s w = roots-stream h b has roots counted have s.root s.next id None w.adds
roots-written h b has roots counted have (Define id spec) tail s w = roots-stream h b has roots counted have s.root s.next id (Some spec) w.adds
roots-written h b has roots counted have (Retire stream first) tail s w = roots-retired h b has roots counted have s.root s.next stream first w.sets
roots-written h b has roots counted have (Commit stream cut added) tail s w =
    roots-version h b has roots counted have s.root s.next stream w.kept w.new None w.there w.streams w.writes.root_is
roots-written h b has roots counted have (Distillate stream cut added reads) tail s w =
    roots-version h b has roots counted have s.root s.next stream w.kept w.new (Some reads) w.there w.streams w.writes.root_is

-- The trees of the board with an entry more, whose tree was read, have the roots of the entries, if the new root is that of the tree.
pub roots-read : (h : List Entry) (b : Kept) (has : HasStreamsOf h b) (roots : List ℕ) (counted : length roots ≡ length h) (have : HaveRoots roots b.streams) (e : Entry) (t : TreeValue) (s : Staged) → ReadsEntry b e t s → HaveRoots (roots ++ s.root ∷ []) s.next.streams
roots-read h b has roots counted have (Create id) t s r = roots-stream h b has roots counted have s.root s.next id None r.adds
roots-read h b has roots counted have (Define id spec) t s r = roots-stream h b has roots counted have s.root s.next id (Some spec) r.adds
roots-read h b has roots counted have (Retire stream first) t s r = roots-retired h b has roots counted have s.root s.next stream first r.sets
roots-read h b has roots counted have (Commit stream cut added) t s r =
    roots-version h b has roots counted have s.root s.next stream r.kept t None r.there r.streams r.root_is
roots-read h b has roots counted have (Distillate stream cut added reads) t s r =
    roots-version h b has roots counted have s.root s.next stream r.kept t (Some reads) r.there r.streams r.root_is
