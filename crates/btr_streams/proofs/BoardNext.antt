-- The next board is that of the history with an entry more, and stays well formed.
use Rattle.std.specs.Prelude.{◌≡◌, ℕ, ◌+◌, ◌-◌, ◌<◌, ◌≤◌, List, [], ◌∷◌, ◌++◌, length, take, slice_get, slice_set, slice_index_or, Option, Some, None, IfSome, is_some}
use Rattle.std.specs.Option.{option_to_list}
use Rattle.std.proofs.Common.{zero, suc, refl, sym, ap, ◌∙◌, arith, subst, inl, inr, length-append}
use Rattle.std.proofs.lemmas.List.{append-nil, take-append-le, take_all, get_or_append_left, get_or_push, get_or-set_same, get_or-set_other, length-set, length-map, map-append}
use Rattle.std.proofs.lemmas.Option.{slice_get_within, get_or_from_slice_get}
use Rattle.std.proofs.lemmas.Bool.{cases_lt, cases_eq}
use Rattle.std.proofs.Math.Seq.{get_or-append_seam, map-set_same}
use Rattle.btr_base.specs.Commit.{Change}
use Rattle.btr_base.specs.declared.limits.TheConstants.{MAX_STREAMS, MAX_VERSIONS}
use Rattle.btr_board.specs.Put.{put_at}
use Rattle.btr_base.proofs.ListLemmas.{each-append, get-append, get_last}
use Rattle.btr_tree.specs.History.{nothing, ◌▷◌}
use Rattle.btr_tree.specs.Root.{TreeValue, IsTree}
use Rattle.btr_hist.specs.declared.entry.Entry.{Entry}
use Rattle.btr_hist.specs.declared.kernel.Spec.{Spec}
use Rattle.btr_hist.specs.declared.kernel.Reads.{Reads}
use Rattle.btr_hist.specs.History.{ids, kinds, spec_of, commits, latest, recorded, earliest}
use Rattle.btr_hist.specs.Legal.{rejection}
use Rattle.btr_hist.proofs.HistoryLemmas.{length-kinds, length-recorded, follows-push, unknown}
use Rattle.btr_hist.proofs.RetireLemmas.{earliest-silent}
use Rattle.btr_streams.specs.Past.{with_commits, commits_to, stream_numbers}
use Rattle.btr_streams.specs.Board.{Versions, Kept, HasPast, HasTrees, reads_count, read_at, HasReads, IsStreamOf, IsBoardOf, IsGrown, IsWellFormed, HasGoodSpec, place_of, ids_of, specs_of}
use Rattle.btr_streams.specs.Readers.{AreReaders}
use Rattle.btr_streams.specs.Stage.{MakesStream, MakesVersion, IsNextTree, with_version, with_earliest, new_stream}
use Rattle.btr_streams.proofs.BoardStreamLemmas.{place-low, places-push, ids-more, kinds-more, commits-still, recorded-still, ids-still, kinds-still, commits-more, recorded-more, commits-other, recorded-other, unknown-recorded, unknown-earliest, read-none}
use Rattle.btr_streams.proofs.NumberingLemmas.{numbers-still, numbers-new, numbers-more, numbers-other}
use Rattle.btr_streams.proofs.BoardTrees.{made_by, with_commits-push}

-- ---- the trees of a stream

module _ (g h : List Entry) (s : ℕ) where
  pub trees-same : (ts : List TreeValue) → commits g s ≡ commits h s → HasTrees h s ts → HasTrees g s ts
  trees-same ts same has = record {
    counted = has.counted ∙ sym (ap (λ (cs : List Change). length cs + 1) same);
    each = λ v d le. subst (λ (cs : List Change). IsTree (with_commits 0 nothing (take v cs)) (slice_index_or ts v d)) (sym same) (has.each v d (omega (arith, le, ap (length {A = Change}) same)));
  }

  module _ (c : Change) (one_more : commits g s ≡ commits h s ++ c ∷ []) where
    long : latest g s ≡ latest h s + 1
    long = ap (length {A = Change}) one_more ∙ length-append (commits h s) (c ∷ [])

    -- The earlier versions are the same.
    old : (v : ℕ) → v ≤ latest h s → commits_to g s v ≡ commits_to h s v
    old v le = ap (λ cs. with_commits 0 nothing (take v cs)) one_more ∙ ap (with_commits 0 nothing) (take-append-le v (commits h s) (c ∷ []) le)

    new : commits_to g s (latest h s + 1) ≡ record { version = latest h s + 1; cut = c.cut; added = c.added } ▷ commits_to h s (latest h s)
    new =
        ap (λ cs. with_commits 0 nothing (take (latest h s + 1) cs)) one_more
        ∙ ap (with_commits 0 nothing) (take_all (latest h s + 1) (commits h s ++ c ∷ []) (omega (arith, length-append (commits h s) (c ∷ []))))
        ∙ with_commits-push 0 nothing (commits h s) c
        ∙ (let e : 0 + length (commits h s) + 1 ≡ latest h s + 1 = omega arith in ap (λ (v : ℕ). made_by v c ▷ with_commits 0 nothing (commits h s)) e)
        ∙ ap (λ cs. record { version = latest h s + 1; cut = c.cut; added = c.added } ▷ with_commits 0 nothing cs) (sym (take_all (latest h s) (commits h s) (omega arith)))

    trees-push : (ts : List TreeValue) (t : TreeValue) → IsNextTree h s c t → HasTrees h s ts → HasTrees g s (ts ++ t ∷ [])
    trees-push ts t next has =
        let size : length (ts ++ t ∷ []) ≡ length ts + 1 = length-append ts (t ∷ []) in
        record {
          counted = omega (arith, size, has.counted, long);
          each = λ v d le. elim (cases_lt (latest h s) v) [
            | inl high ↦
                let at : v ≡ latest h s + 1 = omega (arith, long) in
                let place : v ≡ length ts = omega (arith, has.counted) in
                let here : slice_index_or (ts ++ t ∷ []) v d ≡ t = ap (λ i. slice_index_or (ts ++ t ∷ []) i d) place ∙ get_or-append_seam ts t [] d in
                subst (IsTree (commits_to g s v)) (sym here) (subst (λ n. IsTree (commits_to g s n) t) (sym at) (subst (λ cs. IsTree cs t) (sym new) next))
            | inr low ↦
                let here : slice_index_or (ts ++ t ∷ []) v d ≡ slice_index_or ts v d = get_or_append_left ts (t ∷ []) d v (omega (arith, has.counted)) in
                subst (IsTree (commits_to g s v)) (sym here) (subst (λ cs. IsTree cs (slice_index_or ts v d)) (sym (old v low)) (has.each v d low))
          ];
        }

-- ---- what the versions of a stream have read

-- One record more that nothing was read changes no answer.
nothing_more : (rs : List (Option Reads)) (n : ℕ) → slice_index_or (rs ++ None ∷ []) n None ≡ slice_index_or rs n None
nothing_more [] zero = refl
nothing_more [] (suc n) = refl
nothing_more (r ∷ rs) zero = refl
nothing_more (r ∷ rs) (suc n) = nothing_more rs n

-- One read more at the end of both lists.
one_more : (rs : List (Option Reads)) (xs : List Reads) (x : Reads) → length rs ≡ length xs → ((n : ℕ) → slice_index_or rs n None ≡ slice_get xs n) → (n : ℕ) → slice_index_or (rs ++ Some x ∷ []) n None ≡ slice_get (xs ++ x ∷ []) n
one_more [] [] x long same zero = refl
one_more [] [] x long same (suc n) = refl
one_more [] (y ∷ ys) x long same n = absurd (omega arith)
one_more (r ∷ rs) [] x long same n = absurd (omega arith)
one_more (r ∷ rs) (y ∷ ys) x long same zero = same 0
one_more (r ∷ rs) (y ∷ ys) x long same (suc n) =
    let shorter : length rs ≡ length ys = omega arith in
    one_more rs ys x shorter (λ m. same (suc m)) n

-- The same with version 0 before both, which has read nothing.
one_version_more : (rs : List (Option Reads)) (xs : List Reads) (x : Reads) → length rs ≡ length xs → ((version : ℕ) → slice_index_or (None ∷ rs) version None ≡ read_at xs version) → (version : ℕ) → slice_index_or (None ∷ (rs ++ Some x ∷ [])) version None ≡ read_at (xs ++ x ∷ []) version
one_version_more rs xs x _ same zero = refl
one_version_more rs xs x long same (suc n) = one_more rs xs x long (λ m. same (suc m)) n

-- Of no reads each version has read none.
pub read_at-none : (version : ℕ) → read_at [] version ≡ None
read_at-none zero = refl
read_at-none (suc n) = refl

module _ (g h : List Entry) (s : ℕ) where
  pub reads-same : (v : Versions) → recorded g s ≡ recorded h s → HasReads h s v → HasReads g s v
  reads-same v same has = record {
    counted = has.counted;
    each = λ version. ap (λ (l : List (Option Reads)). slice_index_or (None ∷ l) version None) same ∙ has.each version;
  }

  -- A version more of a plain stream, or of an output.
  pub reads-push : (v : Versions) (t : TreeValue) (number : ℕ) (spec : Option Spec) (read : Option Reads) → v.spec ≡ spec → is_some read ≡ is_some spec → length v.trees ≡ latest h s + 1 → HasReads h s v → recorded g s ≡ recorded h s ++ read ∷ [] → HasReads g s (with_version v t read number)
  reads-push v t number None None plain kind trees has more =
      let nothing_new : v.reads ++ [] ≡ v.reads = append-nil v.reads in
      let count : (n : ℕ) → reads_count v.spec n ≡ 0 = λ n. ap (λ o. reads_count o n) plain in
      record {
        counted = ap (length {A = Reads}) nothing_new ∙ has.counted ∙ count (length v.trees) ∙ sym (count (length (v.trees ++ t ∷ [])));
        each = λ version.
            ap (λ (l : List (Option Reads)). slice_index_or (None ∷ l) version None) more
            ∙ nothing_more (None ∷ recorded h s) version
            ∙ has.each version
            ∙ ap (λ l. read_at l version) (sym nothing_new);
      }
  reads-push v t number (Some spec) (Some r) output kind trees has more =
      let count : (n : ℕ) → reads_count v.spec n ≡ n - 1 = λ n. ap (λ o. reads_count o n) output in
      let long : length (recorded h s) ≡ length v.reads = omega (arith, length-recorded h s, has.counted, count (length v.trees), trees) in
      record {
        counted = omega (arith, has.counted, count (length v.trees), count (length (v.trees ++ t ∷ [])), trees, length-append v.trees (t ∷ []), length-append v.reads (r ∷ []));
        each = λ version.
            ap (λ (l : List (Option Reads)). slice_index_or (None ∷ l) version None) more
            ∙ one_version_more (recorded h s) v.reads r long has.each version;
      }
  reads-push v t number None (Some r) plain kind trees has more = absurd (cc)
  reads-push v t number (Some spec) None output kind trees has more = absurd (cc)

-- ---- the next board

-- A stream of which an entry says nothing stays as it is.
stream-still : (g h : List Entry) (s : ℕ) (v : Versions) → slice_get (ids g) s ≡ slice_get (ids h) s → spec_of g s ≡ spec_of h s → commits g s ≡ commits h s → recorded g s ≡ recorded h s → stream_numbers g s ≡ stream_numbers h s → earliest g s ≡ earliest h s → IsStreamOf h s v → IsStreamOf g s v
stream-still g h s v same_id same_kind same_commits same_records same_numbers same_earliest is = record {
  named = same_id ∙ is.named;
  defined = same_kind ∙ is.defined;
  kept = trees-same g h s v.trees same_commits is.kept;
  read = reads-same g h s v same_records is.read;
  numbered = is.numbered ∙ sym same_numbers;
  retired = is.retired ∙ sym same_earliest;
}

-- A new stream has version 0 alone.
stream-new : (g : List Entry) (s id : ℕ) (spec : Option Spec) (t : TreeValue) (number : ℕ) → slice_get (ids g) s ≡ Some id → spec_of g s ≡ spec → latest g s ≡ 0 → recorded g s ≡ [] → stream_numbers g s ≡ number ∷ [] → earliest g s ≡ 0 → IsTree nothing t → IsStreamOf g s (new_stream id spec t number)
stream-new g s id spec t number named defined none unread numbers unretired empty = record {
  named = named;
  defined = defined;
  kept = record {
    counted = sym (ap (λ n. n + 1) none);
    each = λ v u le.
        let zero_only : v ≡ 0 = omega arith in
        subst (λ n. IsTree (commits_to g s n) (slice_index_or (t ∷ []) n u)) (sym zero_only) empty;
  };
  read = record {
    counted = elim spec as (λ (o : Option Spec). 0 ≡ reads_count o 1) [ None ↦ refl | Some x ↦ refl ];
    each = λ version. read-none (recorded g s) unread version ∙ sym (read_at-none version);
  };
  numbered = sym numbers;
  retired = sym unretired;
}

module _ (h : List Entry) (b : Kept) (was : IsBoardOf h b) (e : Entry) (allowed : rejection h e ≡ None) where
  -- The board with a new stream at version 0.
  pub push-stream : (id : ℕ) (spec : Option Spec) (t : TreeValue) (streams : List Versions) (entries : ℕ) → MakesStream e id spec → IsTree nothing t → streams ≡ b.streams ++ new_stream id spec t (b.entries + 1) ∷ [] → entries ≡ b.entries + 1 → IsBoardOf (h ++ e ∷ []) (record { streams = streams; entries = entries })
  push-stream id spec t streams entries makes empty more one =
      let g = h ++ e ∷ [] in
      let number : ℕ = b.entries + 1 in
      let first : Versions = new_stream id spec t number in
      let ids_are = ids-more h e id spec makes in
      let kinds_are = kinds-more h e id spec makes in
      let size : length (ids g) ≡ length (ids h) + 1 = ap (length {A = ℕ}) ids_are ∙ length-append (ids h) (id ∷ []) in
      let counted : length streams ≡ length b.streams + 1 = ap (length {A = Versions}) more ∙ length-append b.streams (first ∷ []) in
      let old : (s : ℕ) (d : Versions) → s < length b.streams → slice_index_or streams s d ≡ slice_index_or b.streams s d =
      λ s d low. ap (λ l. slice_index_or l s d) more ∙ get_or_append_left b.streams (first ∷ []) d s low in
      let new : (s : ℕ) (d : Versions) → s ≡ length b.streams → slice_index_or streams s d ≡ first =
      λ s d place. ap (λ l. slice_index_or l s d) more ∙ get_or_push b.streams first d s (sym place) in
      record {
        counted = omega (arith, counted, size, was.counted);
        each = λ s d low. elim (cases_lt s (length b.streams)) [
          | inl before ↦
              let is = was.each s d (omega (arith, was.counted)) in
              let named : slice_get (ids g) s ≡ slice_get (ids h) s = ap (λ l. slice_get l s) ids_are ∙ get-append (ids h) (id ∷ []) s _ is.named ∙ sym is.named in
              let defined : spec_of g s ≡ spec_of h s = ap (λ l. slice_index_or l s None) kinds_are ∙ get_or_append_left (kinds h) (spec ∷ []) None s (omega (arith, was.counted, length-kinds h)) in
              subst (IsStreamOf g s) (sym (old s d before)) (stream-still g h s _ named defined (commits-still h e id spec makes s) (recorded-still h e id spec makes s) (numbers-still h e id spec makes s (omega (arith, was.counted))) (earliest-silent h e s (makes.no_first s)) is)
          | inr end ↦
              let place : s ≡ length b.streams = omega (arith, was.counted, size) in
              let past : length (ids h) ≤ s = omega (arith, was.counted) in
              let named : slice_get (ids g) s ≡ Some id = ap (λ l. slice_get l s) ids_are ∙ ap (slice_get (ids h ++ id ∷ [])) (place ∙ was.counted) ∙ get_last (ids h) id in
              let defined : spec_of g s ≡ spec = ap (λ l. slice_index_or l s None) kinds_are ∙ get_or_push (kinds h) spec None s (omega (arith, place, was.counted, length-kinds h)) in
              let none : latest g s ≡ 0 = ap (length {A = Change}) (commits-still h e id spec makes s) ∙ unknown h s was.follows past in
              let unread = recorded-still h e id spec makes s ∙ unknown-recorded h s was.follows past in
              let numbers : stream_numbers g s ≡ number ∷ [] = numbers-new h e id spec makes s (place ∙ was.counted) (unknown h s was.follows past) ∙ ap (λ (n : ℕ). (n + 1) ∷ []) (sym was.entries) in
              subst (IsStreamOf g s) (sym (new s d place)) (stream-new g s id spec t number named defined none unread numbers (earliest-silent h e s (makes.no_first s) ∙ unknown-earliest h s was.follows past) empty)
        ];
        entries = one ∙ ap (λ (n : ℕ). n + 1) was.entries ∙ sym (length-append h (e ∷ []));
        follows = follows-push h e was.follows allowed;
      }

  -- The board with one version more of one stream.
  pub push-version : (s : ℕ) (c : Change) (read : Option Reads) (kept : Versions) (t : TreeValue) (streams : List Versions) (entries : ℕ) → MakesVersion e s c read → is_some read ≡ is_some kept.spec → IsNextTree h s c t → slice_get b.streams s ≡ Some kept → streams ≡ slice_set b.streams s (with_version kept t read (b.entries + 1)) → entries ≡ b.entries + 1 → IsBoardOf (h ++ e ∷ []) (record { streams = streams; entries = entries })
  push-version s c read kept t streams entries makes kind next at set one =
      let g = h ++ e ∷ [] in
      let number : ℕ = b.entries + 1 in
      let grown : Versions = with_version kept t read number in
      let ids_are = ids-still h e s c read makes in
      let kinds_are = kinds-still h e s c read makes in
      let same = ap (length {A = ℕ}) ids_are in
      let there : s < length (ids h) = omega (arith, slice_get_within b.streams s kept at, was.counted) in
      let size : length streams ≡ length b.streams = ap (length {A = Versions}) set ∙ length-set b.streams s grown in
      let was_kept : IsStreamOf h s kept = subst (IsStreamOf h s) (get_or_from_slice_get b.streams s kept kept at) (was.each s kept there) in
      let here : (d : Versions) → slice_index_or streams s d ≡ grown =
      λ d. ap (λ l. slice_index_or l s d) set ∙ get_or-set_same b.streams s grown d (omega (arith, was.counted)) in
      let others : (i : ℕ) (d : Versions) → (i ≡ s → ⊥) → slice_index_or streams i d ≡ slice_index_or b.streams i d =
      λ i d other. ap (λ l. slice_index_or l i d) set ∙ get_or-set_other b.streams s i grown d other in
      let named : (i : ℕ) → slice_get (ids g) i ≡ slice_get (ids h) i = λ i. ap (λ l. slice_get l i) ids_are in
      let defined : (i : ℕ) → spec_of g i ≡ spec_of h i = λ i. ap (λ l. slice_index_or l i None) kinds_are in
      let is_grown : IsStreamOf g s grown = record {
        named = named s ∙ was_kept.named;
        defined = defined s ∙ was_kept.defined;
        kept = trees-push g h s c (commits-more h e s c read makes) kept.trees t next was_kept.kept;
        read = reads-push g h s kept t number kept.spec read refl kind was_kept.kept.counted was_kept.read (recorded-more h e s c read makes);
        numbered = ap (λ (l : List ℕ). l ++ number ∷ []) was_kept.numbered ∙ ap (λ (n : ℕ). stream_numbers h s ++ (n + 1) ∷ []) was.entries ∙ sym (numbers-more h e s c read makes);
        retired = was_kept.retired ∙ sym (earliest-silent h e s (makes.no_first s));
      } in
      record {
        counted = size ∙ was.counted ∙ sym same;
        each = λ i d low. elim (cases_eq i s) [
          | inl is ↦
              subst (λ (n : ℕ). IsStreamOf g n (slice_index_or streams n d)) (sym is) (subst (IsStreamOf g s) (sym (here d)) is_grown)
          | inr other ↦
              let otherwise : s ≡ i → ⊥ = λ e. other (sym e) in
              subst (IsStreamOf g i) (sym (others i d other)) (stream-still g h i _ (named i) (defined i) (commits-other h e s c read makes i otherwise) (recorded-other h e s c read makes i otherwise) (numbers-other h e s c read makes i otherwise) (earliest-silent h e i (makes.no_first i)) (was.each i d (omega (arith, same))))
        ];
        entries = one ∙ ap (λ (n : ℕ). n + 1) was.entries ∙ sym (length-append h (e ∷ []));
        follows = follows-push h e was.follows allowed;
      }

-- The stream at a place is one of the history, and is kept as the history has it.
pub kept-stream : (h : List Entry) (b : Kept) (s : ℕ) (kept : Versions) → IsBoardOf h b → slice_get b.streams s ≡ Some kept → (s < length (ids h)) × IsStreamOf h s kept
kept-stream h b s kept of at =
    let there : s < length (ids h) = omega (arith, slice_get_within b.streams s kept at, of.counted) in
    (there, subst (IsStreamOf h s) (get_or_from_slice_get b.streams s kept kept at) (of.each s kept there))

-- ---- the index of a board

-- The place of an id is that of a stream.
pub place-below : (streams : List Versions) (id : ℕ) (o : Option ℕ) → o ≡ place_of (ids_of streams) id → IfSome o (λ number. number < length streams)
place-below streams id None is = tt
place-below streams id (Some n) is =
    omega (arith, place-low (ids_of streams) id n (sym is), length-map streams (λ (s : Versions). s.id))

-- One read more of an output, and none of a plain stream, for one tree more.
reads-counted : (spec : Option Spec) (read : Option Reads) (was now : ℕ) (rs : List Reads) → is_some read ≡ is_some spec → 1 ≤ was → now ≡ was + 1 → length rs ≡ reads_count spec was → length (rs ++ option_to_list read) ≡ reads_count spec now
reads-counted None None was now rs kind some one counted = ap (length {A = Reads}) (append-nil rs) ∙ counted
reads-counted (Some spec) (Some r) was now rs kind some one counted =
    let counted_here : length rs ≡ was - 1 = counted in
    omega (arith, length-append rs (r ∷ []))
reads-counted None (Some r) was now rs kind some one counted = absurd (cc)
reads-counted (Some spec) None was now rs kind some one counted = absurd (cc)

module _ (streams : List Versions) (number : ℕ → Option ℕ) {readers : List (List ℕ)} (was : IsWellFormed streams number readers) where
  -- A board stays well formed with a new stream at version 0.
  pub formed-stream : (id : ℕ) (spec : Option Spec) (t : TreeValue) (entry : ℕ) (next : ℕ → Option ℕ) (last : ℕ) (after : List Versions) (read : List (List ℕ)) → IsTree nothing t → length streams < MAX_STREAMS → place_of (ids_of streams) id ≡ None → HasGoodSpec spec → after ≡ streams ++ new_stream id spec t entry ∷ [] → last ≡ length streams → ((q : ℕ) → next q ≡ put_at id last number q) → AreReaders (specs_of streams ++ spec ∷ []) read → IsWellFormed after next read
  formed-stream id spec t entry next last after read empty room fresh good more is put are =
      let name : Versions → ℕ = λ s. s.id in
      let first : Versions = new_stream id spec t entry in
      let size : length after ≡ length streams + 1 = ap (length {A = Versions}) more ∙ length-append streams (first ∷ []) in
      let old : (s : ℕ) (d : Versions) → s < length streams → slice_index_or after s d ≡ slice_index_or streams s d =
      λ s d low. ap (λ l. slice_index_or l s d) more ∙ get_or_append_left streams (first ∷ []) d s low in
      let new : (s : ℕ) (d : Versions) → s ≡ length streams → slice_index_or after s d ≡ first =
      λ s d place. ap (λ l. slice_index_or l s d) more ∙ get_or_push streams first d s (sym place) in
      let named : ids_of after ≡ ids_of streams ++ id ∷ [] = ap ids_of more ∙ map-append name streams (first ∷ []) in
      record {
        few = omega (arith, size, room);
        each = λ s d low. elim (cases_lt s (length streams)) [
          | inl before ↦ subst IsGrown (sym (old s d before)) (was.each s d before)
          | inr end ↦
              subst IsGrown (sym (new s d (omega (arith, size)))) (record {
                some = omega arith;
                limited = omega arith;
                pasts = ((nothing, empty), tt);
                numbered = refl;
                read = elim spec as (λ (o : Option Spec). 0 ≡ reads_count o 1) [ None ↦ refl | Some x ↦ refl ];
                good = good;
                present = omega arith;
              })
        ];
        numbered = λ q. places-push (ids_of streams) id number next last (is ∙ sym (length-map streams name)) fresh was.numbered put q ∙ ap (λ l. place_of l q) (sym named);
        read = subst (λ l. AreReaders l read) (sym (ap specs_of more ∙ map-append (λ (v : Versions). v.spec) streams (first ∷ []))) are;
      }

  -- Each stream has a tree, and not too many, and each tree is that of some past.
  pub stream-grown : (s : ℕ) (kept : Versions) → slice_get streams s ≡ Some kept → IsGrown kept
  stream-grown s kept at =
      subst IsGrown (get_or_from_slice_get streams s kept kept at) (was.each s kept (slice_get_within streams s kept at))

  -- What is kept of a stream at a place of the board's fields is kept at that place of the board, and is grown.
  pub kept-at : (entries : ℕ) (b : Kept) → record { streams = streams; entries = entries } ≡ b → (s : ℕ) (kept : Versions) → slice_get streams s ≡ Some kept → (slice_get b.streams s ≡ Some kept) × IsGrown kept
  kept-at entries b view s kept at = (ap (λ (x : Kept). slice_get x.streams s) (sym view) ∙ at, stream-grown s kept at)

  -- A board stays well formed with a stream that is grown in place of one of the same id and spec.
  formed-set : (s : ℕ) (kept grown : Versions) (next : ℕ → Option ℕ) (after : List Versions) (read : List (List ℕ)) → slice_get streams s ≡ Some kept → grown.id ≡ kept.id → grown.spec ≡ kept.spec → IsGrown grown → after ≡ slice_set streams s grown → ((q : ℕ) → next q ≡ number q) → read ≡ readers → IsWellFormed after next read
  formed-set s kept grown next after read at named_same spec_same is_grown set same read_same =
      let name : Versions → ℕ = λ x. x.id in
      let there : s < length streams = slice_get_within streams s kept at in
      let size : length after ≡ length streams = ap (length {A = Versions}) set ∙ length-set streams s grown in
      let here : (i : ℕ) (d : Versions) → i ≡ s → slice_index_or after i d ≡ grown =
      λ i d is. ap (λ n. slice_index_or after n d) is ∙ ap (λ l. slice_index_or l s d) set ∙ get_or-set_same streams s grown d there in
      let others : (i : ℕ) (d : Versions) → (i ≡ s → ⊥) → slice_index_or after i d ≡ slice_index_or streams i d =
      λ i d other. ap (λ l. slice_index_or l i d) set ∙ get_or-set_other streams s i grown d other in
      let named : ids_of after ≡ ids_of streams =
      ap ids_of set ∙ map-set_same name streams s grown kept (named_same ∙ ap name (sym (get_or_from_slice_get streams s kept kept at))) in
      let kind : Versions → Option Spec = λ x. x.spec in
      let defined : specs_of after ≡ specs_of streams =
      ap specs_of set ∙ map-set_same kind streams s grown kept (spec_same ∙ ap kind (sym (get_or_from_slice_get streams s kept kept at))) in
      record {
        few = omega (arith, size, was.few);
        each = λ i d low. elim (cases_eq i s) [
          | inl is ↦ subst IsGrown (sym (here i d is)) is_grown
          | inr other ↦ subst IsGrown (sym (others i d other)) (was.each i d (omega (arith, size)))
        ];
        numbered = λ q. same q ∙ was.numbered q ∙ ap (λ l. place_of l q) (sym named);
        read = subst (λ l. AreReaders l read) (sym defined) (subst (AreReaders (specs_of streams)) (sym read_same) was.read);
      }

  -- A board stays well formed with another first version of a stream, if the stream has it.
  pub formed-earliest : (s first : ℕ) (kept : Versions) (next : ℕ → Option ℕ) (after : List Versions) (read : List (List ℕ)) → slice_get streams s ≡ Some kept → first < length kept.trees → after ≡ slice_set streams s (with_earliest kept first) → ((q : ℕ) → next q ≡ number q) → read ≡ readers → IsWellFormed after next read
  formed-earliest s first kept next after read at made set same read_same =
      let grown : IsGrown kept = stream-grown s kept at in
      let still : IsGrown (with_earliest kept first) = record {
        some = grown.some;
        limited = grown.limited;
        pasts = grown.pasts;
        numbered = grown.numbered;
        read = grown.read;
        good = grown.good;
        present = made;
      } in
      formed-set s kept (with_earliest kept first) next after read at refl refl still set same read_same

  -- A board stays well formed with one version more of one stream.
  pub formed-version : (s : ℕ) (kept : Versions) (t : TreeValue) (read : Option Reads) (entry : ℕ) (next : ℕ → Option ℕ) (after : List Versions) (with_read : List (List ℕ)) → slice_get streams s ≡ Some kept → length kept.trees ≤ MAX_VERSIONS → HasPast t → is_some read ≡ is_some kept.spec → after ≡ slice_set streams s (with_version kept t read entry) → ((q : ℕ) → next q ≡ number q) → with_read ≡ readers → IsWellFormed after next with_read
  formed-version s kept t read entry next after with_read at room past kind set same read_same =
      let grown : Versions = with_version kept t read entry in
      let long : length grown.trees ≡ length kept.trees + 1 = length-append kept.trees (t ∷ []) in
      let was_grown : IsGrown kept = stream-grown s kept at in
      let is_grown : IsGrown grown = record {
        some = omega (arith, long);
        limited = omega (arith, long, room);
        pasts = each-append HasPast kept.trees (t ∷ []) was_grown.pasts (past, tt);
        numbered = omega (arith, long, was_grown.numbered, length-append kept.numbers (entry ∷ []));
        read = reads-counted kept.spec read (length kept.trees) (length grown.trees) kept.reads kind was_grown.some long was_grown.read;
        good = was_grown.good;
        present = let low = was_grown.present in omega (arith, long);
      } in
      formed-set s kept grown next after with_read at refl refl is_grown set same read_same
