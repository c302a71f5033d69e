-- The roll of a board is that of each history whose streams it has, whatever its trees are, and can be encoded.
use Rattle.std.specs.Prelude.{◌≡◌, ℕ, ◌+◌, ◌-◌, ◌<◌, ◌≤◌, List, [], ◌∷◌, ◌++◌, length, take, drop, map, option_map, get_or, slice_get, Option, Some, IfSome, IsTrue}
use Rattle.std.specs.List.{AllByRecursion}
use Rattle.std.proofs.Common.{suc, zero, refl, sym, ap, ◌∙◌, arith, subst}
use Rattle.std.proofs.lemmas.List.{take_all, take_more, length-map}
use Rattle.std.proofs.lemmas.Option.{get_or_from_slice_get, slice_get_within, slice_get-map}
use Rattle.btr_tree.specs.Root.{TreeValue}
use Rattle.btr_tree.specs.Slots.{block_of}
use Rattle.btr_hist.specs.declared.entry.Entry.{Entry}
use Rattle.btr_hist.specs.Kernel.{is_good}
use Rattle.btr_hist.specs.History.{ids, read_by}
use Rattle.btr_roll.specs.declared.roll.RollVersion.{RollVersion}
use Rattle.btr_roll.specs.Roll.{RollStreamValue, IsRollWithinBounds}
use Rattle.btr_streams.specs.Board.{Versions, Kept, HasStreamOf, HasStreamsOf, IsGrown, IsWellFormed, read_at}
use Rattle.btr_streams.specs.Rolling.{HaveRoots}
use Rattle.btr_streams.specs.Rolling.{root_at, rolled_versions, rolled_stream, rolled_from, roll_of, kept_version, kept_versions, kept_stream, rolled}
use Rattle.btr_streams.proofs.NumberingLemmas.{numbers-counted}
use Rattle.btr_streams.proofs.BoardNext.{stream-grown}
use Rattle.btr_streams.proofs.StreamsLemmas.{stream-of}

-- ---- the roll of a board is that of a history whose streams it has

-- The roots of a stream's versions from version 1 on are the blocks of their trees' roots.
abbrev HasRoots : List ℕ → Versions → Type 0
HasRoots roots s =
    (version : ℕ) → 1 ≤ version → IfSome (slice_get s.trees version) (λ t. root_at roots (get_or s.numbers version 0) ≡ block_of t.node)

has-root : (roots : List ℕ) (s : Versions) (version n : ℕ) (t : TreeValue) → HasRoots roots s → 1 ≤ version → get_or s.numbers version 0 ≡ n → slice_get s.trees version ≡ Some t → root_at roots n ≡ block_of t.node
has-root roots s version n t have low number tree =
    ap (root_at roots) (sym number)
    ∙ subst (λ (o : Option TreeValue). IfSome o (λ x. root_at roots (get_or s.numbers version 0) ≡ block_of x.node)) tree (have version low)

after-one : {X : Type 0} (xs : List X) (i : ℕ) → slice_get xs (suc i) ≡ slice_get (drop 1 xs) i
after-one [] i = refl
after-one (x ∷ xs) i = refl

shorter : {X Y : Type 0} (xs : List X) (ys : List Y) → length xs ≡ length ys → length (drop 1 xs) ≡ length (drop 1 ys)
shorter [] [] long = refl
shorter [] (y ∷ ys) long = absurd (omega arith)
shorter (x ∷ xs) [] long = absurd (omega arith)
shorter (x ∷ xs) (y ∷ ys) long = omega arith

module _ (h : List Entry) (roots : List ℕ) where
  -- The versions of a stream from one on, whose numbers and trees are these.
  versions-are : (stream : ℕ) (s : Versions) → ((version : ℕ) → read_by h stream version ≡ read_at s.reads version) → HasRoots roots s → (version : ℕ) (ns : List ℕ) (ts : List TreeValue) → 1 ≤ version → length ts ≡ length ns → ((i : ℕ) → slice_get s.numbers (version + i) ≡ slice_get ns i) → ((i : ℕ) → slice_get s.trees (version + i) ≡ slice_get ts i) → kept_versions s version ts ≡ rolled_versions h roots stream version ns
  versions-are stream s reads have version [] [] low long numbers trees = refl
  versions-are stream s reads have version [] (t ∷ ts) low long numbers trees = absurd (omega arith)
  versions-are stream s reads have version (n ∷ ns) [] low long numbers trees = absurd (omega arith)
  versions-are stream s reads have version (n ∷ ns) (t ∷ ts) low long numbers trees =
      let here : version ≡ version + 0 = omega arith in
      let step : (i : ℕ) → (version + 1) + i ≡ version + suc i = λ i. omega arith in
      let number : get_or s.numbers version 0 ≡ n = get_or_from_slice_get s.numbers version n 0 (ap (slice_get s.numbers) here ∙ numbers 0) in
      let tree : slice_get s.trees version ≡ Some t = ap (slice_get s.trees) here ∙ trees 0 in
      let root = has-root roots s version n t have low number tree in
      let read = reads version in
      let rest = versions-are stream s reads have (version + 1) ns ts (omega arith) (omega arith) (λ i. ap (slice_get s.numbers) (step i) ∙ numbers (suc i)) (λ i. ap (slice_get s.trees) (step i) ∙ trees (suc i)) in
      λ i. record { entry = number i; root = sym root i; reads = sym read i } ∷ rest i

  stream-is : (stream : ℕ) (s : Versions) → stream < length (ids h) → HasStreamOf h stream s → HasRoots roots s → kept_stream s ≡ rolled_stream h roots stream s.id
  stream-is stream s low is have =
      let counted = is.counted in
      let long : length s.trees ≡ length s.numbers = omega (arith, ap (length {A = ℕ}) is.numbered, numbers-counted h stream low) in
      let one : (i : ℕ) → 1 + i ≡ suc i = λ i. omega arith in
      let same = versions-are stream s is.read.each have 1 (drop 1 s.numbers) (drop 1 s.trees) (omega arith) (shorter s.trees s.numbers long) (λ i. ap (slice_get s.numbers) (one i) ∙ after-one s.numbers i) (λ i. ap (slice_get s.trees) (one i) ∙ after-one s.trees i) in
      let all = same ∙ ap (λ (ns : List ℕ). rolled_versions h roots stream 1 (drop 1 ns)) is.numbered in
      let first = ap (λ (ns : List ℕ). get_or ns 0 0) is.numbered in
      let defined = is.defined in
      let retired = is.retired in
      λ i. record { id = s.id; entry = first i; spec = sym defined i; first = retired i; versions = all i }

  streams-are : (n : ℕ) (xs : List ℕ) (ss : List Versions) → length ss ≡ length xs → ((i : ℕ) (s : Versions) → slice_get ss i ≡ Some s → (kept_stream s ≡ rolled_stream h roots (n + i) s.id) × (slice_get xs i ≡ Some s.id)) → map kept_stream ss ≡ rolled_from h roots n xs
  streams-are n [] [] long each = refl
  streams-are n [] (s ∷ ss) long each = absurd (omega arith)
  streams-are n (x ∷ xs) [] long each = absurd (omega arith)
  streams-are n (x ∷ xs) (s ∷ ss) long each =
      let here : n + 0 ≡ n = omega arith in
      let first = each 0 s refl in
      let named : s.id ≡ x = let same : Some x ≡ Some s.id = first.1 in cc in
      let head : kept_stream s ≡ rolled_stream h roots n x = first.0 ∙ ap (λ k. rolled_stream h roots k s.id) here ∙ ap (rolled_stream h roots n) named in
      let step : (i : ℕ) → n + suc i ≡ (n + 1) + i = λ i. omega arith in
      let rest = streams-are (n + 1) xs ss (omega arith) (λ i v at. let is = each (suc i) v at in (is.0 ∙ ap (λ k. rolled_stream h roots k v.id) (step i), is.1)) in
      λ i. head i ∷ rest i

-- The roll of a board is that of a history whose streams it has, if the entries have the roots of the board's trees.
pub rolled-is : (h : List Entry) (roots : List ℕ) (b : Kept) → HasStreamsOf h b → HaveRoots roots b.streams → rolled b ≡ roll_of h roots
rolled-is h roots b has have =
    streams-are h roots 0 (ids h) b.streams has.counted (λ i s at.
    let is = stream-of h b has i s at in
    let here : HasRoots roots s = λ version low.
    subst (λ (o : Option Versions). IfSome o (λ v. IfSome (slice_get v.trees version) (λ t. root_at roots (get_or v.numbers version 0) ≡ block_of t.node))) at (have i version low) in
    let place : i ≡ 0 + i = omega arith in
    (stream-is h roots i s is.0 is.1 here ∙ ap (λ (k : ℕ). rolled_stream h roots k s.id) place, is.1.named))

-- ---- what the loops of the code need

length-versions : (s : Versions) (version : ℕ) (ts : List TreeValue) → length (kept_versions s version ts) ≡ length ts
length-versions s version [] = refl
length-versions s version (t ∷ ts) = ap (λ (n : ℕ). suc n) (length-versions s (version + 1) ts)

version-at : (s : Versions) (from : ℕ) (ts : List TreeValue) (i : ℕ) (t : TreeValue) → slice_get ts i ≡ Some t → slice_get (kept_versions s from ts) i ≡ Some (kept_version s (from + i) t)
version-at s from [] i t at = absurd (cc)
version-at s from (x ∷ ts) zero t at =
    let here : from ≡ from + 0 = omega arith in
    let same : x ≡ t = cc in
    ap (λ (y : TreeValue). Some (kept_version s from y)) same ∙ ap (λ (k : ℕ). Some (kept_version s k t)) here
version-at s from (x ∷ ts) (suc i) t at =
    let step : (from + 1) + i ≡ from + suc i = omega arith in
    version-at s (from + 1) ts i t at ∙ ap (λ (k : ℕ). Some (kept_version s k t)) step

take-next : {X : Type 0} (xs : List X) (i : ℕ) (x : X) → slice_get xs i ≡ Some x → take (i + 1) xs ≡ take i xs ++ x ∷ []
take-next xs i x at =
    take_more xs i x (slice_get_within xs i x at) ∙ ap (λ y. take i xs ++ y ∷ []) (get_or_from_slice_get xs i x x at)

there : {X : Type 0} (xs : List X) (i : ℕ) → i < length xs → (x : X) × (slice_get xs i ≡ Some x)
there [] i low = absurd (omega arith)
there (x ∷ xs) zero low = (x, refl)
there (x ∷ xs) (suc i) low = there xs i (omega arith)

-- The versions up to one, and this one.
pub versions-push : (s : Versions) (version : ℕ) (so_far after : List RollVersion) (v : RollVersion) → 1 ≤ version → version < length s.trees → ((t : TreeValue) → slice_get s.trees version ≡ Some t → Some v ≡ Some (kept_version s version t)) → so_far ≡ take (version - 1) (kept_versions s 1 (drop 1 s.trees)) → after ≡ so_far ++ v ∷ [] → after ≡ take (version + 1 - 1) (kept_versions s 1 (drop 1 s.trees))
versions-push s zero so_far after v some low is were more = absurd (omega arith)
versions-push s (suc i) so_far after v some low is were more =
    let all : List RollVersion = kept_versions s 1 (drop 1 s.trees) in
    let tree = there s.trees (suc i) low in
    let place : 1 + i ≡ suc i = omega arith in
    let here : slice_get all i ≡ Some v =
    version-at s 1 (drop 1 s.trees) i tree.0 (sym (after-one s.trees i) ∙ tree.1) ∙ ap (λ (k : ℕ). Some (kept_version s k tree.0)) place ∙ sym (is tree.0 tree.1) in
    let end : i + 1 ≡ suc i + 1 - 1 = omega arith in
    let begin : suc i - 1 ≡ i = omega arith in
    more ∙ ap (λ (l : List RollVersion). l ++ v ∷ []) (were ∙ ap (λ (k : ℕ). take k all) begin) ∙ sym (take-next all i v here) ∙ ap (λ (k : ℕ). take k all) end

one-less : {X : Type 0} (xs : List X) → length (drop 1 xs) ≡ length xs - 1
one-less [] = refl
one-less (x ∷ xs) = omega arith

-- The versions up to one are all, if the stream has no more.
pub versions-all : (s : Versions) (version : ℕ) (so_far : List RollVersion) → 1 ≤ version → length s.trees ≤ version → so_far ≡ take (version - 1) (kept_versions s 1 (drop 1 s.trees)) → so_far ≡ kept_versions s 1 (drop 1 s.trees)
versions-all s version so_far some past are =
    are ∙ take_all (version - 1) (kept_versions s 1 (drop 1 s.trees)) (omega (arith, length-versions s 1 (drop 1 s.trees), one-less s.trees))

-- The streams before a place, and the one at the place.
pub streams-push : (b : Kept) (place : ℕ) (kept : Versions) (so_far after : List RollStreamValue) (s : RollStreamValue) → slice_get b.streams place ≡ Some kept → s ≡ kept_stream kept → so_far ≡ take place (rolled b) → after ≡ so_far ++ s ∷ [] → after ≡ take (place + 1) (rolled b)
streams-push b place kept so_far after s at is were more =
    let here : slice_get (rolled b) place ≡ Some s = slice_get-map kept_stream b.streams place ∙ ap (option_map kept_stream) at ∙ ap Some (sym is) in
    more ∙ ap (λ (l : List RollStreamValue). l ++ s ∷ []) were ∙ sym (take-next (rolled b) place s here)

-- ---- bounds

good-streams : (streams : List Versions) → ((i : ℕ) (s : Versions) → slice_get streams i ≡ Some s → IsGrown s) → AllByRecursion (λ s. IfSome s.spec (λ spec. IsTrue (is_good spec))) (map kept_stream streams)
good-streams [] each = tt
good-streams (s ∷ streams) each = ((each 0 s refl).good, good-streams streams (λ i v at. each (suc i) v at))

-- The roll of a board can be encoded, whatever the history of the board is.
pub rolled-bounds : (b : Kept) (number : ℕ → Option ℕ) {readers : List (List ℕ)} → IsWellFormed b.streams number readers → IsRollWithinBounds (rolled b)
rolled-bounds b number formed = record {
  few_streams = omega (arith, formed.few, length-map b.streams kept_stream);
  good_specs = good-streams b.streams (λ i s at. stream-grown b.streams number formed i s at);
}
