-- The next board of an entry whose tree was read: it has the streams of the history with the entry more, and is its board if the tree
-- is that of the version that the entry makes.
use Rattle.std.specs.Prelude.{◌≡◌, ℕ, ◌+◌, ◌<◌, ◌≤◌, Bool, List, [], ◌∷◌, ◌++◌, length, slice_get, slice_set, slice_index_or, Option, Some, None, is_some}
use Rattle.std.proofs.Common.{refl, sym, ap, ◌∙◌, arith, subst, inl, inr, length-append}
use Rattle.std.proofs.lemmas.List.{get_or_append_left, get_or_push, get_or-set_same, get_or-set_other, length-set}
use Rattle.std.proofs.lemmas.Bool.{cases_lt, cases_eq}
use Rattle.std.proofs.lemmas.Option.{slice_get_within}
use Rattle.btr_base.specs.Commit.{Change}
use Rattle.btr_base.specs.declared.limits.TheConstants.{MAX_VERSIONS}
use Rattle.btr_base.proofs.ListLemmas.{get-append, get_last}
use Rattle.btr_tree.specs.NewNodes.{NewNodeValue}
use Rattle.btr_tree.specs.Root.{TreeValue}
use Rattle.btr_hist.specs.declared.entry.Entry.{Entry}
use Rattle.btr_hist.specs.declared.entry.Entry.TheVariants.{Create, Define, Commit, Distillate, Retire}
use Rattle.btr_hist.specs.declared.kernel.Spec.{Spec}
use Rattle.btr_hist.specs.declared.kernel.Reads.{Reads}
use Rattle.btr_hist.specs.History.{ids, kinds, spec_of, commits, latest, recorded, earliest}
use Rattle.btr_hist.specs.Legal.{rejection}
use Rattle.btr_hist.proofs.HistoryLemmas.{length-kinds, length-recorded, follows-push}
use Rattle.btr_hist.proofs.RetireLemmas.{earliest-push, earliest-silent}
use Rattle.btr_streams.specs.Board.{Versions, Kept, IsBoardOf, HasTrees, HasStreamOf, HasStreamsOf, reads_count}
use Rattle.btr_streams.specs.Past.{stream_numbers}
use Rattle.btr_streams.specs.Stage.{MakesStream, MakesVersion, RetiresVersions, IsNextTree, AddsStream, SetsEarliest, ReadsVersion, ReadsOn}
use Rattle.btr_streams.specs.Stage.{HasRoomForVersion, HasRoomForFirst, HasRoomFor, IsTreeAfter, with_version, with_earliest, new_stream, change}
use Rattle.btr_streams.proofs.BoardStreamLemmas.{ids-more, kinds-more, commits-still, recorded-still, ids-still, kinds-still, commits-more, recorded-more, commits-other, recorded-other, none-in, read-none}
use Rattle.btr_streams.proofs.BoardStreamLemmas.{ids-kept, kinds-kept, commits-kept, recorded-kept}
use Rattle.btr_streams.proofs.BoardStreamLemmas.{create-makes, define-makes, commit-makes, distillate-makes, retire-retires}
use Rattle.btr_streams.proofs.NumberingLemmas.{numbers-still, numbers-new, numbers-more, numbers-other, numbers-kept}
use Rattle.btr_streams.proofs.StreamsLemmas.{stream-of, has-streams, is-board}
use Rattle.btr_streams.proofs.BoardNext.{trees-same, reads-same, reads-push, read_at-none, push-stream, push-version, kept-stream}

-- A stream of which an entry says nothing stays as it is.
still : (g h : List Entry) (s : ℕ) (v : Versions) → slice_get (ids g) s ≡ slice_get (ids h) s → spec_of g s ≡ spec_of h s → commits g s ≡ commits h s → recorded g s ≡ recorded h s → stream_numbers g s ≡ stream_numbers h s → earliest g s ≡ earliest h s → HasStreamOf h s v → HasStreamOf g s v
still g h s v same_id same_kind same_commits same_records same_numbers same_earliest is = record {
  named = same_id ∙ is.named;
  defined = same_kind ∙ is.defined;
  counted = is.counted ∙ sym (ap (λ (cs : List Change). length cs + 1) same_commits);
  read = reads-same g h s v same_records is.read;
  numbered = is.numbered ∙ sym same_numbers;
  retired = is.retired ∙ sym same_earliest;
}

-- A new stream has version 0 alone.
new : (g : List Entry) (s id : ℕ) (spec : Option Spec) (t : TreeValue) (number : ℕ) → slice_get (ids g) s ≡ Some id → spec_of g s ≡ spec → latest g s ≡ 0 → recorded g s ≡ [] → stream_numbers g s ≡ number ∷ [] → earliest g s ≡ 0 → HasStreamOf g s (new_stream id spec t number)
new g s id spec t number named defined none unread numbers unretired = record {
  named = named;
  defined = defined;
  counted = sym (ap (λ n. n + 1) none);
  read = record {
    counted = elim spec as (λ (o : Option Spec). 0 ≡ reads_count o 1) [ None ↦ refl | Some x ↦ refl ];
    each = λ version. read-none (recorded g s) unread version ∙ sym (read_at-none version);
  };
  numbered = sym numbers;
  retired = sym unretired;
}

module _ (h : List Entry) (b : Kept) (has : HasStreamsOf h b) (e : Entry) (next : Kept) (one : next.entries ≡ b.entries + 1) where
  entries_are : next.entries ≡ length (h ++ e ∷ [])
  entries_are = one ∙ ap (λ (n : ℕ). n + 1) has.entries ∙ sym (length-append h (e ∷ []))

  -- One stream more, at version 0.
  pub streams-more : (id : ℕ) (spec : Option Spec) → MakesStream e id spec → AddsStream b id spec next → HasStreamsOf (h ++ e ∷ []) next
  streams-more id spec makes adds =
      let g = h ++ e ∷ [] in
      let number : ℕ = b.entries + 1 in
      let first : Versions = new_stream id spec adds.tree number in
      let ids_are = ids-more h e id spec makes in
      let kinds_are = kinds-more h e id spec makes in
      let size : length (ids g) ≡ length (ids h) + 1 = ap (length {A = ℕ}) ids_are ∙ length-append (ids h) (id ∷ []) in
      let counted : length next.streams ≡ length b.streams + 1 = ap (length {A = Versions}) adds.streams ∙ length-append b.streams (first ∷ []) in
      let before : (s : ℕ) (d : Versions) → s < length b.streams → slice_index_or next.streams s d ≡ slice_index_or b.streams s d =
      λ s d low. ap (λ l. slice_index_or l s d) adds.streams ∙ get_or_append_left b.streams (first ∷ []) d s low in
      let last : (s : ℕ) (d : Versions) → s ≡ length b.streams → slice_index_or next.streams s d ≡ first =
      λ s d place. ap (λ l. slice_index_or l s d) adds.streams ∙ get_or_push b.streams first d s (sym place) in
      let no_version : (s : ℕ) → length (ids h) ≤ s → latest g s ≡ 0 =
      λ s past. ap (length {A = Change}) (commits-still h e id spec makes s) ∙ has.beyond s past in
      record {
        counted = omega (arith, counted, size, has.counted);
        each = λ s d low. elim (cases_lt s (length b.streams)) [
          | inl earlier ↦
              let is = has.each s d (omega (arith, has.counted)) in
              let named : slice_get (ids g) s ≡ slice_get (ids h) s = ap (λ l. slice_get l s) ids_are ∙ get-append (ids h) (id ∷ []) s _ is.named ∙ sym is.named in
              let defined : spec_of g s ≡ spec_of h s = ap (λ l. slice_index_or l s None) kinds_are ∙ get_or_append_left (kinds h) (spec ∷ []) None s (omega (arith, has.counted, length-kinds h)) in
              subst (HasStreamOf g s) (sym (before s d earlier)) (still g h s _ named defined (commits-still h e id spec makes s) (recorded-still h e id spec makes s) (numbers-still h e id spec makes s (omega (arith, has.counted))) (earliest-silent h e s (makes.no_first s)) is)
          | inr end ↦
              let place : s ≡ length b.streams = omega (arith, has.counted, size) in
              let past : length (ids h) ≤ s = omega (arith, has.counted) in
              let named : slice_get (ids g) s ≡ Some id = ap (λ l. slice_get l s) ids_are ∙ ap (slice_get (ids h ++ id ∷ [])) (place ∙ has.counted) ∙ get_last (ids h) id in
              let defined : spec_of g s ≡ spec = ap (λ l. slice_index_or l s None) kinds_are ∙ get_or_push (kinds h) spec None s (omega (arith, place, has.counted, length-kinds h)) in
              let unread = recorded-still h e id spec makes s ∙ none-in (recorded h s) (length-recorded h s ∙ has.beyond s past) in
              let numbers : stream_numbers g s ≡ number ∷ [] = numbers-new h e id spec makes s (place ∙ has.counted) (has.beyond s past) ∙ ap (λ (n : ℕ). (n + 1) ∷ []) (sym has.entries) in
              subst (HasStreamOf g s) (sym (last s d place)) (new g s id spec adds.tree number named defined (no_version s past) unread numbers (earliest-silent h e s (makes.no_first s) ∙ has.unretired s past))
        ];
        entries = entries_are;
        beyond = λ s past. no_version s (omega (arith, size, past));
        unretired = λ s past. earliest-silent h e s (makes.no_first s) ∙ has.unretired s (omega (arith, size, past));
      }

  -- One version more of one stream.
  pub streams-grown : (s : ℕ) (c : Change) (read : Option Reads) (kept : Versions) (t : TreeValue) → MakesVersion e s c read → is_some read ≡ is_some kept.spec → slice_get b.streams s ≡ Some kept → next.streams ≡ slice_set b.streams s (with_version kept t read (b.entries + 1)) → HasStreamsOf (h ++ e ∷ []) next
  streams-grown s c read kept t makes kind at set =
      let g = h ++ e ∷ [] in
      let number : ℕ = b.entries + 1 in
      let grown : Versions = with_version kept t read number in
      let ids_are = ids-still h e s c read makes in
      let kinds_are = kinds-still h e s c read makes in
      let same = ap (length {A = ℕ}) ids_are in
      let was = stream-of h b has s kept at in
      let there : s < length (ids h) = was.0 in
      let was_kept = was.1 in
      let size : length next.streams ≡ length b.streams = ap (length {A = Versions}) set ∙ length-set b.streams s grown in
      let here : (d : Versions) → slice_index_or next.streams s d ≡ grown =
      λ d. ap (λ l. slice_index_or l s d) set ∙ get_or-set_same b.streams s grown d (omega (arith, has.counted)) in
      let others : (i : ℕ) (d : Versions) → (i ≡ s → ⊥) → slice_index_or next.streams i d ≡ slice_index_or b.streams i d =
      λ i d other. ap (λ l. slice_index_or l i d) set ∙ get_or-set_other b.streams s i grown d other in
      let named : (i : ℕ) → slice_get (ids g) i ≡ slice_get (ids h) i = λ i. ap (λ l. slice_get l i) ids_are in
      let defined : (i : ℕ) → spec_of g i ≡ spec_of h i = λ i. ap (λ l. slice_index_or l i None) kinds_are in
      let one_more : latest g s ≡ latest h s + 1 = ap (length {A = Change}) (commits-more h e s c read makes) ∙ length-append (commits h s) (c ∷ []) in
      let is_grown : HasStreamOf g s grown = record {
        named = named s ∙ was_kept.named;
        defined = defined s ∙ was_kept.defined;
        counted = let counted = was_kept.counted in omega (arith, length-append kept.trees (t ∷ []));
        read = reads-push g h s kept t number kept.spec read refl kind was_kept.counted was_kept.read (recorded-more h e s c read makes);
        numbered = ap (λ (l : List ℕ). l ++ number ∷ []) was_kept.numbered ∙ ap (λ (n : ℕ). stream_numbers h s ++ (n + 1) ∷ []) has.entries ∙ sym (numbers-more h e s c read makes);
        retired = was_kept.retired ∙ sym (earliest-silent h e s (makes.no_first s));
      } in
      record {
        counted = size ∙ has.counted ∙ sym same;
        each = λ i d low. elim (cases_eq i s) [
          | inl is ↦
              subst (λ (n : ℕ). HasStreamOf g n (slice_index_or next.streams n d)) (sym is) (subst (HasStreamOf g s) (sym (here d)) is_grown)
          | inr other ↦
              let otherwise : s ≡ i → ⊥ = λ e. other (sym e) in
              subst (HasStreamOf g i) (sym (others i d other)) (still g h i _ (named i) (defined i) (commits-other h e s c read makes i otherwise) (recorded-other h e s c read makes i otherwise) (numbers-other h e s c read makes i otherwise) (earliest-silent h e i (makes.no_first i)) (has.each i d (omega (arith, same))))
        ];
        entries = entries_are;
        beyond = λ i past.
            let otherwise : s ≡ i → ⊥ = λ e. omega (arith, same, past) in
            ap (length {A = Change}) (commits-other h e s c read makes i otherwise) ∙ has.beyond i (omega (arith, same, past));
        unretired = λ i past. earliest-silent h e i (makes.no_first i) ∙ has.unretired i (omega (arith, same, past));
      }

  -- Another first version of one stream.
  module _ (s first : ℕ) (retires : RetiresVersions e s first) (sets : SetsEarliest b s first next) where
    set_here : (d : Versions) → slice_index_or next.streams s d ≡ with_earliest sets.kept first
    set_here d =
        ap (λ l. slice_index_or l s d) sets.streams ∙ get_or-set_same b.streams s (with_earliest sets.kept first) d (slice_get_within b.streams s sets.kept sets.there)

    set_others : (i : ℕ) (d : Versions) → (i ≡ s → ⊥) → slice_index_or next.streams i d ≡ slice_index_or b.streams i d
    set_others i d other =
        ap (λ l. slice_index_or l i d) sets.streams ∙ get_or-set_other b.streams s i (with_earliest sets.kept first) d other

    pub streams-retired : HasStreamsOf (h ++ e ∷ []) next
    streams-retired =
        let g = h ++ e ∷ [] in
        let same = ap (length {A = ℕ}) (ids-kept h e s first retires) in
        let was = stream-of h b has s sets.kept sets.there in
        let there : s < length (ids h) = was.0 in
        let size : length next.streams ≡ length b.streams = ap (length {A = Versions}) sets.streams ∙ length-set b.streams s (with_earliest sets.kept first) in
        let named : (i : ℕ) → slice_get (ids g) i ≡ slice_get (ids h) i = λ i. ap (λ l. slice_get l i) (ids-kept h e s first retires) in
        let defined : (i : ℕ) → spec_of g i ≡ spec_of h i = λ i. ap (λ l. slice_index_or l i None) (kinds-kept h e s first retires) in
        let commits_are = commits-kept h e s first retires in
        let recorded_are = recorded-kept h e s first retires in
        let numbers_are = numbers-kept h e s first retires in
        let left : HasStreamOf g s (with_earliest sets.kept first) = record {
          named = named s ∙ was.1.named;
          defined = defined s ∙ was.1.defined;
          counted = was.1.counted ∙ sym (ap (λ (cs : List Change). length cs + 1) (commits_are s));
          read = reads-same g h s (with_earliest sets.kept first) (recorded_are s) (record { counted = was.1.read.counted; each = was.1.read.each });
          numbered = was.1.numbered ∙ sym (numbers_are s);
          retired = sym (earliest-push h e s first retires.leaves);
        } in
        record {
          counted = size ∙ has.counted ∙ sym same;
          each = λ i d low. elim (cases_eq i s) [
            | inl is ↦
                subst (λ (n : ℕ). HasStreamOf g n (slice_index_or next.streams n d)) (sym is) (subst (HasStreamOf g s) (sym (set_here d)) left)
            | inr other ↦
                let still_first = earliest-silent h e i (retires.no_other_first i (λ is. other (sym is))) in
                subst (HasStreamOf g i) (sym (set_others i d other)) (still g h i _ (named i) (defined i) (commits_are i) (recorded_are i) (numbers_are i) still_first (has.each i d (omega (arith, same))))
          ];
          entries = entries_are;
          beyond = λ i past. ap (length {A = Change}) (commits_are i) ∙ has.beyond i (omega (arith, same, past));
          unretired = λ i past.
              earliest-silent h e i (retires.no_other_first i (λ is. omega (arith, same, past))) ∙ has.unretired i (omega (arith, same, past));
        }

    -- The trees of the streams stay.
    trees-kept : IsBoardOf h b → (i : ℕ) (d : Versions) → i < length (ids (h ++ e ∷ [])) → HasTrees (h ++ e ∷ []) i (slice_index_or next.streams i d).trees
    trees-kept of i d low =
        let g = h ++ e ∷ [] in
        let same = ap (length {A = ℕ}) (ids-kept h e s first retires) in
        trees-same g h i _ (commits-kept h e s first retires i) (elim (cases_eq i s) [
          | inl is ↦
              let here : HasTrees h s (slice_index_or next.streams s d).trees = subst (λ (v : Versions). HasTrees h s v.trees) (sym (set_here d)) (kept-stream h b s sets.kept of sets.there).1.kept in
              subst (λ (n : ℕ). HasTrees h n (slice_index_or next.streams n d).trees) (sym is) here
          | inr other ↦
              subst (λ (v : Versions). HasTrees h i v.trees) (sym (set_others i d other)) (of.each i d (omega (arith, same))).kept
        ])

-- The board of a history with a retirement more.
pub retired-board : (h : List Entry) (b next : Kept) → next.entries ≡ b.entries + 1 → (s first : ℕ) → IsBoardOf h b → rejection h (Retire s first) ≡ None → SetsEarliest b s first next → IsBoardOf (h ++ Retire s first ∷ []) next
retired-board h b next one s first of allowed sets =
    let e = Retire s first in
    let has = has-streams h b of in
    is-board (h ++ e ∷ []) next (streams-retired h b has e next one s first (retire-retires s first) sets) (trees-kept h b has e next one s first (retire-retires s first) sets of) (follows-push h e of.follows allowed)

-- The stream at the place is the one that has room.
same-kept : (b : Kept) (s : ℕ) (output : Bool) (kept : Versions) → slice_get b.streams s ≡ Some kept → (room : HasRoomForVersion b s output) → room.kept ≡ kept
same-kept b s output kept at room =
    let both : Some room.kept ≡ Some kept = sym room.there ∙ at in
    cc

-- A stream that is there is not past the end of the streams.
pub not-past : (inside b : Kept) (s : ℕ) (kept : Versions) → inside ≡ b → length inside.streams ≤ s → slice_get b.streams s ≡ Some kept → ⊥
not-past inside b s kept same past there =
    let long : length b.streams ≤ s = subst (λ (k : Kept). length k.streams ≤ s) same past in
    omega (arith, long, slice_get_within b.streams s kept there)

pub kind-of : (b : Kept) (s : ℕ) (output : Bool) (kept : Versions) → slice_get b.streams s ≡ Some kept → HasRoomForVersion b s output → output ≡ is_some kept.spec
kind-of b s output kept at room =
    sym room.kind ∙ ap (λ (v : Versions). is_some v.spec) (same-kept b s output kept at room)

pub few-of : (b : Kept) (s : ℕ) (output : Bool) (kept : Versions) → slice_get b.streams s ≡ Some kept → HasRoomForVersion b s output → length kept.trees ≤ MAX_VERSIONS
few-of b s output kept at room =
    subst (λ (v : Versions). length v.trees ≤ MAX_VERSIONS) (same-kept b s output kept at room) room.few

-- The stream at the place has the version that is to be its first.
pub made-of : (b : Kept) (s first : ℕ) (kept : Versions) → slice_get b.streams s ≡ Some kept → HasRoomForFirst b s first → first < length kept.trees
made-of b s first kept at room =
    let both : Some room.kept ≡ Some kept = sym room.there ∙ at in
    let same : room.kept ≡ kept = cc in
    subst (λ (v : Versions). first < length v.trees) same room.made

module _ (h : List Entry) (b : Kept) (t : TreeValue) (next : Kept) (nodes : List NewNodeValue) (root : ℕ) (one : next.entries ≡ b.entries + 1) where
  version-streams : (e : Entry) (s : ℕ) (c : Change) (read : Option Reads) → MakesVersion e s c read → HasRoomForVersion b s (is_some read) → ReadsVersion b s read t next nodes root → HasStreamsOf h b → HasStreamsOf (h ++ e ∷ []) next
  version-streams e s c read makes room reads has =
      streams-grown h b has e next one s c read reads.kept t makes (kind-of b s (is_some read) reads.kept reads.there room) reads.there reads.streams

  -- The next board has the streams of the history with the entry more.
  pub read-streams : (e : Entry) → HasRoomFor b e → ReadsOn b e t next nodes root → HasStreamsOf h b → HasStreamsOf (h ++ e ∷ []) next
  read-streams (Create id) room reads has =
      streams-more h b has (Create id) next one id None (create-makes id) reads.adds
  read-streams (Define id spec) room reads has =
      streams-more h b has (Define id spec) next one id (Some spec) (define-makes id spec) reads.adds
  read-streams (Commit s cut added) room reads has =
      version-streams (Commit s cut added) s (change cut added) None (commit-makes s cut added) room reads has
  read-streams (Distillate s cut added r) room reads has =
      version-streams (Distillate s cut added r) s (change cut added) (Some r) (distillate-makes s cut added r) room reads has
  read-streams (Retire s first) room reads has =
      streams-retired h b has (Retire s first) next one s first (retire-retires s first) reads.sets

  stream-board : (e : Entry) (id : ℕ) (spec : Option Spec) → MakesStream e id spec → AddsStream b id spec next → IsBoardOf h b → rejection h e ≡ None → IsBoardOf (h ++ e ∷ []) next
  stream-board e id spec makes adds of allowed =
      push-stream h b of e allowed id spec adds.tree next.streams next.entries makes adds.empty adds.streams one

  version-board : (e : Entry) (s : ℕ) (c : Change) (read : Option Reads) → MakesVersion e s c read → HasRoomForVersion b s (is_some read) → ReadsVersion b s read t next nodes root → IsNextTree h s c t → IsBoardOf h b → rejection h e ≡ None → IsBoardOf (h ++ e ∷ []) next
  version-board e s c read makes room reads tree of allowed =
      push-version h b of e allowed s c read reads.kept t next.streams next.entries makes (kind-of b s (is_some read) reads.kept reads.there room) tree reads.there reads.streams one

  -- It is the board of that history, if the tree is that of the version that the entry makes.
  pub read-board : (e : Entry) → HasRoomFor b e → ReadsOn b e t next nodes root → IsBoardOf h b → rejection h e ≡ None → IsTreeAfter h e t → IsBoardOf (h ++ e ∷ []) next
  read-board (Create id) room reads of allowed tree =
      stream-board (Create id) id None (create-makes id) reads.adds of allowed
  read-board (Define id spec) room reads of allowed tree =
      stream-board (Define id spec) id (Some spec) (define-makes id spec) reads.adds of allowed
  read-board (Commit s cut added) room reads of allowed tree =
      version-board (Commit s cut added) s (change cut added) None (commit-makes s cut added) room reads tree of allowed
  read-board (Distillate s cut added r) room reads of allowed tree =
      version-board (Distillate s cut added r) s (change cut added) (Some r) (distillate-makes s cut added r) room reads tree of allowed
  read-board (Retire s first) room reads of allowed tree = retired-board h b next one s first of allowed reads.sets
