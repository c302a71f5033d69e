-- The roll of a board with an entry more is the roll of the board with what the entry adds.
use Rattle.std.specs.Prelude.{◌≡◌, ℕ, ◌+◌, ◌<◌, ◌≤◌, List, [], ◌∷◌, ◌++◌, length, drop, map, slice_get, slice_set, get_or, Option, Some, None, is_some}
use Rattle.std.specs.Option.{option_to_list}
use Rattle.std.proofs.Common.{zero, suc, refl, sym, ap, ◌∙◌, arith, subst}
use Rattle.std.proofs.lemmas.List.{append-nil, map-append, get_or_append_left, get_or_push}
use Rattle.btr_base.proofs.ListLemmas.{get_last}
use Rattle.btr_tree.specs.Root.{TreeValue}
use Rattle.btr_tree.specs.Slots.{block_of}
use Rattle.btr_hist.specs.declared.entry.Entry.{Entry}
use Rattle.btr_hist.specs.declared.entry.Entry.TheVariants.{Create, Define, Commit, Distillate, Retire}
use Rattle.btr_hist.specs.declared.kernel.Spec.{Spec}
use Rattle.btr_hist.specs.declared.kernel.Reads.{Reads}
use Rattle.btr_roll.specs.declared.roll.RollVersion.{RollVersion}
use Rattle.btr_roll.specs.Roll.{RollStreamValue}
use Rattle.btr_streams.specs.declared.board.Staged.{Staged}
use Rattle.btr_streams.specs.Board.{Versions, Kept, IsGrown, reads_count, read_at}
use Rattle.btr_streams.specs.Rolling.{kept_version, kept_versions, kept_stream, rolled}
use Rattle.btr_streams.specs.Stage.{with_version, with_earliest, new_stream, AddsStream, HasRoomFor, HasRoomForVersion, ReadsVersion, ReadsEntry}
use Rattle.btr_open.specs.Reached.{new_in_roll, with_version_more, with_version_at, with_first, with_first_at, next_roll}
use Rattle.btr_open.proofs.ListLemmas.{one-less, drop-push}

-- ---- one version more of a stream

get-left : {X : Type 0} (xs ys : List X) (k : ℕ) → k < length xs → slice_get (xs ++ ys) k ≡ slice_get xs k
get-left [] ys k low = absurd (omega arith)
get-left (x ∷ xs) ys zero low = refl
get-left (x ∷ xs) ys (suc k) low = get-left xs ys k (omega arith)

-- What the versions before have read stays.
reads-left : (reads : List Reads) (r : Option Reads) (spec : Option Spec) (count : ℕ) → is_some spec ≡ is_some r → length reads ≡ reads_count spec count → (k : ℕ) → 1 ≤ k → k < count → read_at (reads ++ option_to_list r) k ≡ read_at reads k
reads-left reads None spec count kind long k some low = ap (λ (l : List Reads). read_at l k) (append-nil reads)
reads-left reads (Some r) None count kind long k some low = absurd (cc)
reads-left reads (Some r) (Some spec) count kind long zero some low = absurd (omega arith)
reads-left reads (Some r) (Some spec) count kind long (suc k) some low = get-left reads (r ∷ []) k (omega arith)

-- The new version has read these.
reads-last : (reads : List Reads) (r : Option Reads) (spec : Option Spec) (count : ℕ) → is_some spec ≡ is_some r → length reads ≡ reads_count spec count → 1 ≤ count → read_at (reads ++ option_to_list r) count ≡ r
reads-last reads r spec zero kind long some = absurd (omega arith)
reads-last [] None spec (suc n) kind long some = refl
reads-last (x ∷ reads) None None (suc n) kind long some = absurd (omega arith)
reads-last (x ∷ reads) None (Some spec) (suc n) kind long some = absurd (cc)
reads-last reads (Some r) None (suc n) kind long some = absurd (cc)
reads-last reads (Some r) (Some spec) (suc n) kind long some =
    let place : n ≡ length reads = omega arith in
    ap (slice_get (reads ++ r ∷ [])) place ∙ get_last reads r

-- The versions of a stream, of which one more was kept.
versions-more : (s w : Versions) (t : TreeValue) (v : RollVersion) (version : ℕ) (ts : List TreeValue) → ((k : ℕ) → version ≤ k → k < version + length ts → (get_or w.numbers k 0 ≡ get_or s.numbers k 0) × (read_at w.reads k ≡ read_at s.reads k)) → kept_version w (version + length ts) t ≡ v → kept_versions w version (ts ++ t ∷ []) ≡ kept_versions s version ts ++ v ∷ []
versions-more s w t v version [] same last =
    let here : version ≡ version + 0 = omega arith in
    ap (λ (k : ℕ). kept_version w k t ∷ []) here ∙ ap (λ (x : RollVersion). x ∷ []) last
versions-more s w t v version (x ∷ ts) same last =
    let step : (version + 1) + length ts ≡ version + length (x ∷ ts) = omega arith in
    let here = same version (omega arith) (omega arith) in
    let number = here.0 in
    let read = here.1 in
    let rest = versions-more s w t v (version + 1) ts (λ k from to. same k (omega arith) (omega arith)) (ap (λ (k : ℕ). kept_version w k t) step ∙ last) in
    λ i. record { entry = number i; root = block_of x.node; reads = read i } ∷ rest i

-- A version that has this tree, was made by the entry of this number, and has read these versions or none.
abbrev version_by : TreeValue → Option Reads → ℕ → RollVersion
version_by t read number = record { entry = number; root = block_of t.node; reads = read }

stream-more : (s : Versions) (t : TreeValue) (read : Option Reads) (number : ℕ) → IsGrown s → is_some s.spec ≡ is_some read → kept_stream (with_version s t read number) ≡ with_version_more (version_by t read number) (kept_stream s)
stream-more s t read number grown kind =
    let w = with_version s t read number in
    let some = grown.some in
    let numbered = grown.numbered in
    let first : get_or w.numbers 0 0 ≡ get_or s.numbers 0 0 = get_or_append_left s.numbers (number ∷ []) 0 0 (omega arith) in
    let end : 1 + length (drop 1 s.trees) ≡ length s.trees = omega (arith, one-less s.trees) in
    let number_is : get_or w.numbers (length s.trees) 0 ≡ number = get_or_push s.numbers number 0 (length s.trees) numbered in
    let read_is : read_at w.reads (length s.trees) ≡ read = reads-last s.reads read s.spec (length s.trees) kind grown.read some in
    let last : kept_version w (1 + length (drop 1 s.trees)) t ≡ version_by t read number =
    ap (λ (k : ℕ). kept_version w k t) end ∙ (λ i. record { entry = number_is i; root = block_of t.node; reads = read_is i }) in
    let versions : kept_versions w 1 (drop 1 w.trees) ≡ kept_versions s 1 (drop 1 s.trees) ++ version_by t read number ∷ [] =
    ap (kept_versions w 1) (drop-push s.trees t some)
    ∙ versions-more s w t (version_by t read number) 1 (drop 1 s.trees) (λ k from to.
    (get_or_append_left s.numbers (number ∷ []) 0 k (omega (arith, end, numbered, to)), reads-left s.reads read s.spec (length s.trees) kind grown.read k from (omega (arith, end, to)))) last
    in
    λ i. record { id = s.id; entry = first i; spec = s.spec; first = s.earliest; versions = versions i }

stream-at : (xs : List Versions) (stream : ℕ) (kept w : Versions) (v : RollVersion) → slice_get xs stream ≡ Some kept → kept_stream w ≡ with_version_more v (kept_stream kept) → map kept_stream (slice_set xs stream w) ≡ with_version_at (map kept_stream xs) stream v
stream-at [] stream kept w v at is = absurd (cc)
stream-at (x ∷ xs) zero kept w v at is =
    let same : kept ≡ x = cc in
    ap (λ (s : RollStreamValue). s ∷ map kept_stream xs) (is ∙ ap (λ (k : Versions). with_version_more v (kept_stream k)) same)
stream-at (x ∷ xs) (suc n) kept w v at is = ap (λ (l : List RollStreamValue). kept_stream x ∷ l) (stream-at xs n kept w v at is)

-- The versions of a stream do not tell which of them are retired.
versions-kept : (s : Versions) (least version : ℕ) (trees : List TreeValue) → kept_versions (with_earliest s least) version trees ≡ kept_versions s version trees
versions-kept s least version [] = refl
versions-kept s least version (t ∷ trees) = ap (λ (l : List RollVersion). kept_version s version t ∷ l) (versions-kept s least (version + 1) trees)

stream-kept : (s : Versions) (least : ℕ) → kept_stream (with_earliest s least) ≡ with_first least (kept_stream s)
stream-kept s least = λ i. record { id = s.id; entry = get_or s.numbers 0 0; spec = s.spec; first = least; versions = versions-kept s least 1 (drop 1 s.trees) i }

first-at : (xs : List Versions) (stream : ℕ) (kept : Versions) (least : ℕ) → slice_get xs stream ≡ Some kept → map kept_stream (slice_set xs stream (with_earliest kept least)) ≡ with_first_at (map kept_stream xs) stream least
first-at [] stream kept least at = absurd (cc)
first-at (x ∷ xs) zero kept least at =
    let same : kept ≡ x = cc in
    ap (λ (s : RollStreamValue). s ∷ map kept_stream xs) (stream-kept kept least ∙ ap (λ (k : Versions). with_first least (kept_stream k)) same)
first-at (x ∷ xs) (suc n) kept least at = ap (λ (l : List RollStreamValue). kept_stream x ∷ l) (first-at xs n kept least at)

-- ---- one entry more

module _ (b : Kept) where
  created : (id : ℕ) (spec : Option Spec) (next : Kept) → AddsStream b id spec next → rolled next ≡ rolled b ++ new_in_roll id spec (b.entries + 1) ∷ []
  created id spec next adds =
      ap (map kept_stream) adds.streams ∙ map-append kept_stream b.streams (new_stream id spec adds.tree (b.entries + 1) ∷ [])

  grown-by : (stream : ℕ) (read : Option Reads) (t : TreeValue) (s : Staged) → HasRoomForVersion b stream (is_some read) → ReadsVersion b stream read t s.next s.nodes.items s.root → rolled s.next ≡ with_version_at (rolled b) stream (record { entry = b.entries + 1; root = s.root; reads = read })
  grown-by stream read t s room reads =
      let same : reads.kept ≡ room.kept =
      let both : Some reads.kept ≡ Some room.kept = sym reads.there ∙ room.there in
      cc in
      let grown : IsGrown reads.kept = subst IsGrown (sym same) room.grown in
      let kind : is_some reads.kept.spec ≡ is_some read = ap (λ (k : Versions). is_some k.spec) same ∙ room.kind in
      let root = reads.root_is in
      ap (map kept_stream) reads.streams
      ∙ stream-at b.streams stream reads.kept (with_version reads.kept t read (b.entries + 1)) (version_by t read (b.entries + 1)) reads.there (stream-more reads.kept t read (b.entries + 1) grown kind)
      ∙ ap (λ (n : ℕ). with_version_at (rolled b) stream (record { entry = b.entries + 1; root = n; reads = read })) (sym root)

  -- The roll of the board with an entry more, whose root is the staged one.
  pub rolled-next : (e : Entry) (t : TreeValue) (s : Staged) → HasRoomFor b e → ReadsEntry b e t s → rolled s.next ≡ next_roll (rolled b) e (b.entries + 1) s.root
  rolled-next (Create id) t s room reads = created id None s.next reads.adds
  rolled-next (Define id spec) t s room reads = created id (Some spec) s.next reads.adds
  rolled-next (Retire stream least) t s room reads =
      ap (map kept_stream) reads.sets.streams ∙ first-at b.streams stream reads.sets.kept least reads.sets.there
  rolled-next (Commit stream cut added) t s room reads = grown-by stream None t s room reads
  rolled-next (Distillate stream cut added read) t s room reads = grown-by stream (Some read) t s room reads
