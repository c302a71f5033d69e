-- What the calls of a board read of a stream, as the history has it.
use Rattle.std.specs.Prelude.{◌≡◌, ℕ, ◌-◌, ◌<◌, ◌≤◌, cond, List, length, slice_get, Some, None}
use Rattle.std.proofs.Common.{sym, ap, ◌∙◌, arith, subst}
use Rattle.std.proofs.lemmas.Bool.{le-leb, lt-leb}
use Rattle.std.proofs.lemmas.Option.{slice_get_within, get_or_from_slice_get}
use Rattle.btr_tree.specs.Root.{TreeValue, IsTree}
use Rattle.btr_hist.specs.declared.entry.Entry.{Entry}
use Rattle.btr_hist.specs.History.{ids, spec_of, latest, read_by, earliest}
use Rattle.btr_hist.proofs.HistoryLemmas.{unknown}
use Rattle.btr_streams.specs.Past.{commits_to, stream_numbers}
use Rattle.btr_streams.specs.Board.{Versions, Kept, HasVersion, IsTreeOf, IsStreamOf, IsBoardOf, latest_of, read_at}
use Rattle.btr_streams.proofs.BoardStreamLemmas.{unknown-spec, unknown-read, unknown-earliest}
use Rattle.btr_streams.proofs.NumberingLemmas.{numbers-past}
use Rattle.btr_streams.proofs.BoardNext.{kept-stream}

module _ (h : List Entry) (b : Kept) (s : ℕ) (of : IsBoardOf h b) where
  -- ---- a number beyond the streams

  module _ (past : length b.streams ≤ s) where
    pub past-ids : length (ids h) ≤ s
    past-ids = omega (arith, of.counted, past)

    pub latest-past : latest_of h s ≡ None
    latest-past = ap (λ t. cond t None (Some (latest h s))) (le-leb (length (ids h)) s past-ids)

    pub version-past : (version : ℕ) → HasVersion h s version → ⊥
    version-past version has = let there = has.0 in omega (arith, past-ids, there)

    pub spec-past : spec_of h s ≡ None
    spec-past = unknown-spec h s past-ids

    pub read-past : (version : ℕ) → read_by h s version ≡ None
    read-past version = unknown-read h s version of.follows past-ids

    pub earliest-past : earliest h s ≡ 0
    earliest-past = unknown-earliest h s of.follows past-ids

    pub number-past : (version : ℕ) → slice_get (stream_numbers h s) version ≡ None
    number-past version = ap (λ (l : List ℕ). slice_get l version) (numbers-past h s past-ids (unknown h s of.follows past-ids))

  -- ---- a stream

  module _ (kept : Versions) (at : slice_get b.streams s ≡ Some kept) where
    abbrev is : (s < length (ids h)) × IsStreamOf h s kept
    is = kept-stream h b s kept of at

    pub latest-kept : latest_of h s ≡ Some (length kept.trees - 1)
    latest-kept =
        let counted = is.1.kept.counted in
        let last : latest h s ≡ length kept.trees - 1 = omega arith in
        ap (λ t. cond t None (Some (latest h s))) (lt-leb (length (ids h)) s is.0) ∙ ap (λ (n : ℕ). Some n) last

    pub version-kept : (version : ℕ) (t : TreeValue) → slice_get kept.trees version ≡ Some t → IsTreeOf h s version t
    version-kept version t there =
        let counted = is.1.kept.counted in
        let low : version ≤ latest h s = omega (arith, slice_get_within kept.trees version t there) in
        record {
          has = (is.0, low);
          tree = subst (IsTree (commits_to h s version)) (get_or_from_slice_get kept.trees version t t there) (is.1.kept.each version t low);
        }

    pub version-none : (version : ℕ) → length kept.trees ≤ version → HasVersion h s version → ⊥
    version-none version high has =
        let counted = is.1.kept.counted in
        let low = has.1 in
        omega arith

    pub spec-kept : spec_of h s ≡ kept.spec
    spec-kept = is.1.defined

    pub read-kept : (version : ℕ) → read_by h s version ≡ read_at kept.reads version
    read-kept version = is.1.read.each version

    pub earliest-kept : earliest h s ≡ kept.earliest
    earliest-kept = sym is.1.retired
