-- The board of a roll: its invariant, of which history it is, and that its roll is the one that it was made of.
use Rattle.std.specs.Prelude.{◌≡◌, ◌≢◌, ℕ, ◌+◌, ◌-◌, ◌<◌, ◌≤◌, Bool, true, false, cond, not, nat_eq, List, [], ◌∷◌, ◌++◌, length, take, drop, map, get_or, slice_get, slice_index_or, Option, Some, None, IfSome, is_some}
use Rattle.std.specs.List.{AllByRecursion, filter_map, cons_option, position_from}
use Rattle.std.specs.Option.{option_map, option_to_list}
use Rattle.std.proofs.Common.{zero, suc, refl, sym, ap, ◌∙◌, arith, subst, inl, inr, length-append}
use Rattle.std.proofs.lemmas.List.{take_all, take_more, length-map, length-take-le, map-append, get_or_append_left, get_or_push}
use Rattle.std.proofs.lemmas.List.Elements.{filter_map-append}
use Rattle.std.proofs.lemmas.Bool.{cases_lt, cases_eq, ne_eqb, not-false}
use Rattle.std.proofs.lemmas.Option.{slice_get-get_or, slice_get-map, get_or_from_slice_get, slice_get_within}
use Rattle.btr_base.specs.declared.limits.TheConstants.{MAX_STREAMS}
use Rattle.btr_base.specs.Commit.{Change}
use Rattle.btr_base.proofs.ListLemmas.{each-append}
use Rattle.btr_board.specs.Put.{put_at}
use Rattle.btr_tree.specs.Root.{TreeValue}
use Rattle.btr_tree.specs.Slots.{block_of}
use Rattle.btr_hist.specs.declared.entry.Entry.{Entry}
use Rattle.btr_hist.specs.declared.entry.Entry.TheVariants.{Create, Commit, Define, Distillate, Retire}
use Rattle.btr_hist.specs.declared.kernel.Spec.{Spec}
use Rattle.btr_hist.specs.declared.kernel.Reads.{Reads}
use Rattle.btr_hist.specs.declared.rejection.Rejection.TheVariants.{NotWritable}
use Rattle.btr_hist.specs.declared.rejection.Rejection.{Rejection}
use Rattle.btr_hist.specs.History.{ids, kinds, spec_of, is_output, latest, recorded}
use Rattle.btr_hist.specs.Legal.{first_some, rejection, takes_reads, Follows}
use Rattle.btr_hist.proofs.HistoryLemmas.{length-kinds, length-recorded, follows-none, follows-push, unknown}
use Rattle.btr_hist.proofs.RejectionLemmas.{first_none, rest_none, when_none}
use Rattle.btr_hist.proofs.AcceptedLemmas.{distillate_causes}
use Rattle.btr_hist.proofs.VersionLemmas.{from_end}
use Rattle.btr_entry.specs.Grammar.{IsSpec}
use Rattle.btr_roll.specs.declared.roll.RollVersion.{RollVersion}
use Rattle.btr_roll.specs.Roll.{RollStreamValue, ReadsFit, VersionFits, StreamFits, IsRoll, IsOutputAt, KeepsTableAt, reads_of_versions}
use Rattle.btr_streams.specs.Past.{stream_numbers}
use Rattle.btr_streams.specs.Rolling.{root_at, rolled_versions, rolled_stream, rolled_from, roll_of, kept_versions, kept_stream, rolled}
use Rattle.btr_streams.specs.Board.{Versions, Kept, HasTrees, HasGoodSpec, reads_count, read_at, IsBoardOf, HasStreamOf, HasStreamsOf, IsGrown, IsWellFormed, place_of, ids_of, specs_of}
use Rattle.btr_streams.specs.Readers.{AreInputsBelow, AreReaders}
use Rattle.btr_streams.specs.Rolling.{HaveRoots}
use Rattle.btr_streams.specs.Stage.{MakesStream, MakesVersion, RetiresVersions, change}
use Rattle.btr_streams.specs.Restoring.{restored_stream, restored_streams, FitTrees, AllFitTrees, HaveRolledRoots}
use Rattle.btr_streams.proofs.BoardStreamLemmas.{places-push, kinds-more, recorded-still, kinds-still, recorded-more, recorded-other, unknown-recorded}
use Rattle.btr_streams.proofs.BoardStreamLemmas.{kinds-kept, recorded-kept, unknown-earliest}
use Rattle.btr_streams.proofs.BoardStreamLemmas.{create-makes, define-makes, commit-makes, distillate-makes, retire-retires}
use Rattle.btr_streams.proofs.NumberingLemmas.{numbers-counted}
use Rattle.btr_streams.proofs.RollFits as fits
use Rattle.btr_streams.proofs.StreamsLemmas.{is-board}

-- ---- lists

-- What holds of each holds of the one at a place.
each-at : {X : Type 0} (P : X → Type 0) (xs : List X) (n : ℕ) (x : X) → AllByRecursion P xs → slice_get xs n ≡ Some x → P x
each-at P [] n x all at = absurd (cc)
each-at P (y ∷ ys) zero x all at = let same : y ≡ x = cc in subst P same all.0
each-at P (y ∷ ys) (suc n) x all at = each-at P ys n x all.1 at

there : {X : Type 0} (xs : List X) (i : ℕ) → i < length xs → (x : X) × (slice_get xs i ≡ Some x)
there [] i low = absurd (omega arith)
there (x ∷ xs) zero low = (x, refl)
there (x ∷ xs) (suc i) low = there xs i (omega arith)

-- The element that was found at a place.
pub found-at : {X : Type 0} (xs ys : List X) (i n : ℕ) (x : X) → i < length xs → x ≡ get_or xs i x → xs ≡ ys → i ≡ n → slice_get ys n ≡ Some x
found-at xs ys i n x low here same place =
    ap (λ l. slice_get l n) (sym same) ∙ ap (slice_get xs) (sym place) ∙ slice_get-get_or xs i x low ∙ ap Some (sym here)

take-next : {X : Type 0} (xs : List X) (i : ℕ) (x : X) → slice_get xs i ≡ Some x → take (i + 1) xs ≡ take i xs ++ x ∷ []
take-next xs i x at =
    take_more xs i x (slice_get_within xs i x at) ∙ ap (λ y. take i xs ++ y ∷ []) (get_or_from_slice_get xs i x x at)

-- What is left from a place on, with its first element.
drop-next : {X : Type 0} (xs : List X) (n : ℕ) (x : X) (more : List X) → x ∷ more ≡ drop n xs → (slice_get xs n ≡ Some x) × (more ≡ drop (n + 1) xs)
drop-next {X} xs n x more left =
    let parts = go xs n left in
    let one : suc n ≡ n + 1 = omega arith in
    (parts.0, parts.1 ∙ ap (λ (k : ℕ). drop k xs) one)
  where
    go : (xs : List X) (n : ℕ) → x ∷ more ≡ drop n xs → (slice_get xs n ≡ Some x) × (more ≡ drop (suc n) xs)
    go [] zero left = absurd (cc)
    go [] (suc n) left = absurd (cc)
    go (y ∷ ys) zero left =
        let same : x ≡ y = cc in
        let rest : more ≡ ys = cc in
        (ap Some (sym same), rest)
    go (y ∷ ys) (suc n) left = go ys n left

drop-none : {X : Type 0} (xs : List X) (n : ℕ) → [] ≡ drop n xs → length xs ≤ n
drop-none [] n left = omega arith
drop-none (x ∷ xs) zero left = absurd (cc)
drop-none (x ∷ xs) (suc n) left = let rest = drop-none xs n left in omega arith

map-take : {X Y : Type 0} (f : X → Y) (xs : List X) (n : ℕ) → map f (take n xs) ≡ take n (map f xs)
map-take f [] zero = refl
map-take f [] (suc n) = refl
map-take f (x ∷ xs) zero = refl
map-take f (x ∷ xs) (suc n) = ap (λ l. f x ∷ l) (map-take f xs n)

-- ---- what versions have read

no-reads : (o : Option Reads) → ReadsFit false o → o ≡ None
no-reads None fit = refl
no-reads (Some r) fit = absurd fit

some-reads : (o : Option Reads) → ReadsFit true o → (r : Reads) × (o ≡ Some r)
some-reads None fit = absurd fit
some-reads (Some r) fit = (r, refl)

-- The versions of a plain stream have read nothing.
plain-reads : (vs : List RollVersion) → AllByRecursion (VersionFits false) vs → reads_of_versions vs ≡ []
plain-reads [] fit = refl
plain-reads (v ∷ vs) fit =
    ap (λ (o : Option Reads). cons_option o (reads_of_versions vs)) (no-reads v.reads fit.0.reads_fit) ∙ plain-reads vs fit.1

-- Each version of an output has read something.
output-reads : (v : RollVersion) (vs : List RollVersion) (fit : VersionFits true v) → reads_of_versions (v ∷ vs) ≡ (some-reads v.reads fit.reads_fit).0 ∷ reads_of_versions vs
output-reads v vs fit = ap (λ (o : Option Reads). cons_option o (reads_of_versions vs)) (some-reads v.reads fit.reads_fit).1

reads-length : (o : Option Spec) (vs : List RollVersion) (count : ℕ) → count ≡ length vs + 1 → AllByRecursion (VersionFits (is_some o)) vs → length (reads_of_versions vs) ≡ reads_count o count
reads-length None vs count are fit = ap (length {A = Reads}) (plain-reads vs fit)
reads-length (Some spec) vs count are fit = let long = go vs fit in omega arith
  where
    go : (vs : List RollVersion) → AllByRecursion (VersionFits true) vs → length (reads_of_versions vs) ≡ length vs
    go [] fit = refl
    go (v ∷ vs) fit = let rest = go vs fit.1 in omega (arith, ap (length {A = Reads}) (output-reads v vs fit.0))

-- The reads at a place are those of the version at the place.
reads-at : (output : Bool) (vs : List RollVersion) (i : ℕ) (v : RollVersion) → AllByRecursion (VersionFits output) vs → slice_get vs i ≡ Some v → slice_get (reads_of_versions vs) i ≡ v.reads
reads-at false vs i v fit at =
    ap (λ (l : List Reads). slice_get l i) (plain-reads vs fit) ∙ sym (no-reads v.reads (each-at (VersionFits false) vs i v fit at).reads_fit)
reads-at true [] i v fit at = absurd (cc)
reads-at true (w ∷ vs) zero v fit at =
    let same : w ≡ v = cc in
    ap (λ (l : List Reads). slice_get l 0) (output-reads w vs fit.0) ∙ sym (some-reads w.reads fit.0.reads_fit).1 ∙ ap (λ (x : RollVersion). x.reads) same
reads-at true (w ∷ vs) (suc i) v fit at =
    ap (λ (l : List Reads). slice_get l (suc i)) (output-reads w vs fit.0) ∙ reads-at true vs i v fit.1 at

-- The reads of the versions up to one, and of this one.
pub reads-push : (vs : List RollVersion) (i : ℕ) (v : RollVersion) (so_far after : List Reads) → slice_get vs i ≡ Some v → so_far ≡ reads_of_versions (take i vs) → after ≡ so_far ++ option_to_list v.reads → after ≡ reads_of_versions (take (i + 1) vs)
reads-push vs i v so_far after at were more =
    more
    ∙ ap (λ (l : List Reads). l ++ option_to_list v.reads) were
    ∙ ap (λ (l : List Reads). reads_of_versions (take i vs) ++ l) (one v.reads)
    ∙ sym (filter_map-append (λ (x : RollVersion). x.reads) (take i vs) (v ∷ []))
    ∙ ap reads_of_versions (sym (take-next vs i v at))
  where
    one : (o : Option Reads) → option_to_list o ≡ cons_option o []
    one None = refl
    one (Some r) = refl

-- ---- the invariant of a board

good-spec : (o : Option Spec) → IfSome o IsSpec → HasGoodSpec o
good-spec None is = tt
good-spec (Some spec) is = is.good

-- A stream of a roll is kept as boards keep streams.
pub restored-grown : (format : ℕ) (s : RollStreamValue) (ts : List TreeValue) → StreamFits format s → FitTrees s ts → IsGrown (restored_stream s ts)
restored-grown format s ts fits fit =
    let counted = fit.counted in
    let few = fits.few_versions in
    record {
      some = omega arith;
      limited = omega arith;
      pasts = fit.pasts;
      numbered = omega (arith, length-map s.versions (λ (v : RollVersion). v.entry));
      read = reads-length s.spec s.versions (length ts) counted fits.versions_fit;
      good = good-spec s.spec fits.spec_fits;
      present = let low = fits.first_fits.there in omega arith;
    }

-- A board stays well formed with one stream more.
pub formed-restored : (streams : List Versions) (number : ℕ → Option ℕ) {readers : List (List ℕ)} → IsWellFormed streams number readers → (one : Versions) (next : ℕ → Option ℕ) (last : ℕ) (after : List Versions) (read : List (List ℕ)) → IsGrown one → length streams < MAX_STREAMS → place_of (ids_of streams) one.id ≡ None → after ≡ streams ++ one ∷ [] → last ≡ length streams → ((q : ℕ) → next q ≡ put_at one.id last number q) → AreReaders (specs_of streams ++ one.spec ∷ []) read → IsWellFormed after next read
formed-restored streams number was one next last after read grown room fresh more is put are =
    let name : Versions → ℕ = λ s. s.id in
    let size : length after ≡ length streams + 1 = ap (length {A = Versions}) more ∙ length-append streams (one ∷ []) in
    let old : (s : ℕ) (d : Versions) → s < length streams → slice_index_or after s d ≡ slice_index_or streams s d =
    λ s d low. ap (λ l. slice_index_or l s d) more ∙ get_or_append_left streams (one ∷ []) d s low in
    let new : (s : ℕ) (d : Versions) → s ≡ length streams → slice_index_or after s d ≡ one =
    λ s d place. ap (λ l. slice_index_or l s d) more ∙ get_or_push streams one d s (sym place) in
    let named : ids_of after ≡ ids_of streams ++ one.id ∷ [] = ap ids_of more ∙ map-append name streams (one ∷ []) in
    record {
      few = omega (arith, size, room);
      each = λ s d low. elim (cases_lt s (length streams)) [
        | inl before ↦ subst IsGrown (sym (old s d before)) (was.each s d before)
        | inr end ↦ subst IsGrown (sym (new s d (omega (arith, size)))) grown
      ];
      numbered = λ q. places-push (ids_of streams) one.id number next last (is ∙ sym (length-map streams name)) fresh was.numbered put q ∙ ap (λ l. place_of l q) (sym named);
      read = subst (λ l. AreReaders l read) (sym (ap specs_of more ∙ map-append (λ (v : Versions). v.spec) streams (one ∷ []))) are;
    }

-- ---- the streams one by one

restored-length : (roll : List RollStreamValue) (trees : List (List TreeValue)) → length trees ≡ length roll → length (restored_streams roll trees) ≡ length roll
restored-length [] trees long = refl
restored-length (s ∷ roll) [] long = absurd (omega arith)
restored-length (s ∷ roll) (ts ∷ trees) long = let rest = restored-length roll trees (omega arith) in omega arith

restored-ids : (roll : List RollStreamValue) (trees : List (List TreeValue)) → length trees ≡ length roll → ids_of (restored_streams roll trees) ≡ map (λ s. s.id) roll
restored-ids [] trees long = refl
restored-ids (s ∷ roll) [] long = absurd (omega arith)
restored-ids (s ∷ roll) (ts ∷ trees) long = ap (λ (l : List ℕ). s.id ∷ l) (restored-ids roll trees (omega arith))

restored-at : (roll : List RollStreamValue) (trees : List (List TreeValue)) (i : ℕ) (s : RollStreamValue) (ts : List TreeValue) → slice_get roll i ≡ Some s → slice_get trees i ≡ Some ts → slice_get (restored_streams roll trees) i ≡ Some (restored_stream s ts)
restored-at [] trees i s ts at its = absurd (cc)
restored-at (x ∷ roll) [] i s ts at its = absurd (cc)
restored-at (x ∷ roll) (y ∷ trees) zero s ts at its =
    let same : x ≡ s = cc in
    let trees_are : y ≡ ts = cc in
    λ i. Some (restored_stream (same i) (trees_are i))
restored-at (x ∷ roll) (y ∷ trees) (suc i) s ts at its = restored-at roll trees i s ts at its

-- A stream that was restored is that of a stream of the roll with its trees.
record IsPart (roll : List RollStreamValue) (trees : List (List TreeValue)) (i : ℕ) (one : Versions) : Type 0 where
  pub stream : RollStreamValue
  pub its : List TreeValue
  pub at : slice_get roll i ≡ Some stream
  pub its_at : slice_get trees i ≡ Some its
  pub is : one ≡ restored_stream stream its

restored-part : (roll : List RollStreamValue) (trees : List (List TreeValue)) (i : ℕ) (one : Versions) → slice_get (restored_streams roll trees) i ≡ Some one → IsPart roll trees i one
restored-part [] trees i one at = absurd (cc)
restored-part (x ∷ roll) [] i one at = absurd (cc)
restored-part (x ∷ roll) (y ∷ trees) zero one at =
    let same : restored_stream x y ≡ one = cc in
    record { stream = x; its = y; at = refl; its_at = refl; is = sym same }
restored-part (x ∷ roll) (y ∷ trees) (suc i) one at =
    let p = restored-part roll trees i one at in
    record { stream = p.stream; its = p.its; at = p.at; its_at = p.its_at; is = p.is }

-- ---- the loop over the streams

-- An id that differs from all has no place.
place-none : (id n : ℕ) (xs : List ℕ) → ((k d : ℕ) → k < length xs → get_or xs k d ≢ id) → position_from (nat_eq id) n xs ≡ None
place-none id n [] differ = refl
place-none id n (x ∷ xs) differ =
    let first : id ≢ x = λ same. differ 0 0 (omega arith) (sym same) in
    ap (λ t. cond t (Some n) (position_from (nat_eq id) (n + 1) xs)) (ne_eqb id x first) ∙ place-none id (n + 1) xs (λ k d low. differ (suc k) d (omega arith))

-- So many streams of a roll are restored, and these trees are left.
pub record IsRestoring (roll : List RollStreamValue) (trees left : List (List TreeValue)) (count : ℕ) (b : Kept) : Type 0 where
  pub streams : b.streams ≡ take (length b.streams) (restored_streams roll trees)
  pub rest : left ≡ drop (length b.streams) trees
  pub entries : b.entries ≡ count

-- What the next stream needs.
pub record IsNextStream (b : Kept) (s : RollStreamValue) (ts : List TreeValue) : Type 0 where
  pub room : length b.streams < MAX_STREAMS
  pub fresh : place_of (ids_of b.streams) s.id ≡ None
  pub inputs : IfSome s.spec (AreInputsBelow (length b.streams))
  pub fits : (format : ℕ) × StreamFits format s
  pub trees : FitTrees s ts

module _ (roll : List RollStreamValue) (trees : List (List TreeValue)) (format : ℕ) (is : IsRoll format roll) (fit : AllFitTrees roll trees) where
  module _ (left : List (List TreeValue)) (entries : ℕ) (b : Kept) (was : IsRestoring roll trees left entries b) where
    module _ (s : RollStreamValue) (ts : List TreeValue) (more : List (List TreeValue)) (at : slice_get roll (length b.streams) ≡ Some s) (next : left ≡ ts ∷ more) where
      its : slice_get trees (length b.streams) ≡ Some ts
      its = (drop-next trees (length b.streams) ts more (sym next ∙ was.rest)).0

      ids-so-far : ids_of b.streams ≡ take (length b.streams) (map (λ s. s.id) roll)
      ids-so-far =
          ap ids_of was.streams
          ∙ map-take (λ (v : Versions). v.id) (restored_streams roll trees) (length b.streams)
          ∙ ap (take (length b.streams)) (restored-ids roll trees fit.counted)

      fresh : place_of (ids_of b.streams) s.id ≡ None
      fresh =
          let all : List ℕ = map (λ s. s.id) roll in
          let n = length b.streams in
          let low : n < length roll = slice_get_within roll n s at in
          let size = length-map roll (λ (x : RollStreamValue). x.id) in
          let id_at : slice_get all n ≡ Some s.id = slice_get-map (λ (x : RollStreamValue). x.id) roll n ∙ ap (option_map (λ (x : RollStreamValue). x.id)) at in
          ap (λ (l : List ℕ). place_of l s.id) ids-so-far
          ∙ place-none s.id 0 (take n all) (λ k d few same.
          let long = length-take-le n all (omega (arith, size)) in
          let here : get_or (take n all) k d ≡ get_or all k d = earlier all n k d (omega arith) in
          let last : get_or all n d ≡ s.id = get_or_from_slice_get all n s.id d id_at in
          is.table.ids_differ k n d (omega arith) (omega (arith, size)) (sym here ∙ same ∙ sym last))
        where
          earlier : (xs : List ℕ) (n k d : ℕ) → k < n → get_or (take n xs) k d ≡ get_or xs k d
          earlier [] zero k d low = refl
          earlier [] (suc n) k d low = refl
          earlier (x ∷ xs) zero k d low = absurd (omega arith)
          earlier (x ∷ xs) (suc n) zero d low = refl
          earlier (x ∷ xs) (suc n) (suc k) d low = earlier xs n k d (omega arith)

      inputs : IfSome s.spec (AreInputsBelow (length b.streams))
      inputs =
          let n = length b.streams in
          go s.spec (subst (λ (o : Option RollStreamValue). IfSome o (KeepsTableAt roll n)) at (is.table.each_keeps n))
        where
          go : (o : Option Spec) → IfSome o (λ spec. IsOutputAt roll (length b.streams) spec s.versions) → IfSome o (AreInputsBelow (length b.streams))
          go None keeps = tt
          go (Some spec) keeps = record { first = keeps.first_before; second = keeps.second_before }

      pub restoring-next : IsNextStream b s ts
      restoring-next = record {
        room = let low = slice_get_within roll (length b.streams) s at in omega (arith, is.fits.few_streams);
        fresh = fresh;
        inputs = inputs;
        fits = (format, each-at (StreamFits format) roll (length b.streams) s is.fits.each_fits at);
        trees = fit.each (length b.streams) s ts at its;
      }

      pub restoring-push : (after : Kept) → after ≡ record { streams = b.streams ++ restored_stream s ts ∷ []; entries = b.entries } → IsRestoring roll trees more entries after
      restoring-push after grown =
          let one : Versions = restored_stream s ts in
          let n = length b.streams in
          let size : length (b.streams ++ one ∷ []) ≡ n + 1 = length-append b.streams (one ∷ []) in
          let here = restored-at roll trees n s ts at its in
          let all = restored_streams roll trees in
          subst (IsRestoring roll trees more entries) (sym grown) (record {
            streams = ap (λ (l : List Versions). l ++ one ∷ []) was.streams ∙ sym (take-next all n one here) ∙ ap (λ (k : ℕ). take k all) (sym size);
            rest = (drop-next trees n ts more (sym next ∙ was.rest)).1 ∙ ap (λ (k : ℕ). drop k trees) (sym size);
            entries = was.entries;
          })

    pub restoring-all : left ≡ [] → b ≡ record { streams = restored_streams roll trees; entries = entries }
    restoring-all none =
        let n = length b.streams in
        let past = drop-none trees n (sym none ∙ was.rest) in
        let streams = was.streams ∙ take_all n (restored_streams roll trees) (omega (arith, restored-length roll trees fit.counted, fit.counted)) in
        let entries_are = was.entries in
        λ i. record { streams = streams i; entries = entries_are i }

-- ---- the roll of a board that was restored

-- The versions of a stream from one on, whose numbers, reads and roots are those of these versions.
versions-again : (one : Versions) (version : ℕ) (vs : List RollVersion) (ts : List TreeValue) → length ts ≡ length vs → ((i : ℕ) (v : RollVersion) → slice_get vs i ≡ Some v → (get_or one.numbers (version + i) 0 ≡ v.entry) × (read_at one.reads (version + i) ≡ v.reads)) → ((i : ℕ) (v : RollVersion) (t : TreeValue) → slice_get vs i ≡ Some v → slice_get ts i ≡ Some t → block_of t.node ≡ v.root) → kept_versions one version ts ≡ vs
versions-again one version [] [] long each roots = refl
versions-again one version [] (t ∷ ts) long each roots = absurd (omega arith)
versions-again one version (v ∷ vs) [] long each roots = absurd (omega arith)
versions-again one version (v ∷ vs) (t ∷ ts) long each roots =
    let here : version ≡ version + 0 = omega arith in
    let step : (i : ℕ) → (version + 1) + i ≡ version + suc i = λ i. omega arith in
    let number : get_or one.numbers version 0 ≡ v.entry = ap (λ (k : ℕ). get_or one.numbers k 0) here ∙ (each 0 v refl).0 in
    let read : read_at one.reads version ≡ v.reads = ap (read_at one.reads) here ∙ (each 0 v refl).1 in
    let root = roots 0 v t refl refl in
    let rest = versions-again one (version + 1) vs ts (omega arith) (λ i w at.
    let is = each (suc i) w at in
    (ap (λ (k : ℕ). get_or one.numbers k 0) (step i) ∙ is.0, ap (read_at one.reads) (step i) ∙ is.1)) (λ i w u at its. roots (suc i) w u at its) in
    λ i. record { entry = number i; root = root i; reads = read i } ∷ rest i

after-first : {X : Type 0} (xs : List X) (i : ℕ) → slice_get (drop 1 xs) i ≡ slice_get xs (i + 1)
after-first xs i = go xs ∙ ap (slice_get xs) one
  where
    one : suc i ≡ i + 1
    one = omega arith

    go : {X : Type 0} (xs : List X) → slice_get (drop 1 xs) i ≡ slice_get xs (suc i)
    go [] = refl
    go (x ∷ xs) = refl

one-less : {X : Type 0} (xs : List X) → length (drop 1 xs) ≡ length xs - 1
one-less [] = refl
one-less (x ∷ xs) = omega arith

stream-again : (format : ℕ) (s : RollStreamValue) (ts : List TreeValue) → StreamFits format s → FitTrees s ts → ((i : ℕ) (v : RollVersion) (t : TreeValue) → slice_get s.versions i ≡ Some v → slice_get ts (i + 1) ≡ Some t → block_of t.node ≡ v.root) → kept_stream (restored_stream s ts) ≡ s
stream-again format s ts fits fit roots =
    let one : Versions = restored_stream s ts in
    let entry_of : RollVersion → ℕ = λ v. v.entry in
    let step : (i : ℕ) → 1 + i ≡ suc i = λ i. omega arith in
    let all = versions-again one 1 s.versions (drop 1 ts) (omega (arith, one-less ts, fit.counted)) (λ i v at. (
      ap (λ (k : ℕ). get_or one.numbers k 0) (step i) ∙ get_or_from_slice_get (map entry_of s.versions) i v.entry 0 (slice_get-map entry_of s.versions i ∙ ap (option_map entry_of) at),
      ap (read_at one.reads) (step i) ∙ reads-at (is_some s.spec) s.versions i v fits.versions_fit at,
    )) (λ i v t at its. roots i v t at (sym (after-first ts i) ∙ its)) in
    λ i. record { id = s.id; entry = s.entry; spec = s.spec; first = s.first; versions = all i }

streams-again : (roll : List RollStreamValue) (trees : List (List TreeValue)) → length trees ≡ length roll → ((i : ℕ) (s : RollStreamValue) (ts : List TreeValue) → slice_get roll i ≡ Some s → slice_get trees i ≡ Some ts → kept_stream (restored_stream s ts) ≡ s) → map kept_stream (restored_streams roll trees) ≡ roll
streams-again [] trees long each = refl
streams-again (s ∷ roll) [] long each = absurd (omega arith)
streams-again (s ∷ roll) (ts ∷ trees) long each =
    let first = each 0 s ts refl refl in
    let rest = streams-again roll trees (omega arith) (λ i x y at its. each (suc i) x y at its) in
    λ i. first i ∷ rest i

-- The roll of a board that was restored is the one that it was made of, if the trees have the roots that the roll says.
pub rolled-restored : (format : ℕ) (roll : List RollStreamValue) (trees : List (List TreeValue)) (entries : ℕ) → IsRoll format roll → AllFitTrees roll trees → HaveRolledRoots roll trees → rolled (record { streams = restored_streams roll trees; entries = entries }) ≡ roll
rolled-restored format roll trees entries is fit roots =
    streams-again roll trees fit.counted (λ i s ts at its.
    stream-again format s ts (each-at (StreamFits format) roll i s is.fits.each_fits at) (fit.each i s ts at its) (λ place v t there tree. roots i place s v ts t at there its tree))

-- ---- what each history keeps of reads

-- Each version of an output has read something, and no version of a plain stream has.
record KeepsReads (h : List Entry) : Type 0 where
  pub follows : Follows h
  pub kinds : (s : ℕ) → AllByRecursion (λ (o : Option Reads). is_some o ≡ is_some (spec_of h s)) (recorded h s)

module _ (h : List Entry) (was : KeepsReads h) (e : Entry) (accepted : rejection h e ≡ None) where
  keeps-stream : (id : ℕ) (spec : Option Spec) → MakesStream e id spec → KeepsReads (h ++ e ∷ [])
  keeps-stream id spec makes =
      let g = h ++ e ∷ [] in
      record {
        follows = follows-push h e was.follows accepted;
        kinds = λ s. elim (cases_lt s (length (ids h))) [
          | inl low ↦
              let old : spec_of g s ≡ spec_of h s = ap (λ l. slice_index_or l s None) (kinds-more h e id spec makes) ∙ get_or_append_left (kinds h) (spec ∷ []) None s (omega (arith, length-kinds h)) in
              subst (λ (rs : List (Option Reads)). AllByRecursion (λ (o : Option Reads). is_some o ≡ is_some (spec_of g s)) rs) (sym (recorded-still h e id spec makes s)) (subst (λ (k : Option Spec). AllByRecursion (λ (o : Option Reads). is_some o ≡ is_some k) (recorded h s)) (sym old) (was.kinds s))
          | inr high ↦
              subst (λ (rs : List (Option Reads)). AllByRecursion (λ (o : Option Reads). is_some o ≡ is_some (spec_of g s)) rs) (sym (recorded-still h e id spec makes s ∙ unknown-recorded h s was.follows high)) tt
        ];
      }

  keeps-version : (s : ℕ) (c : Change) (read : Option Reads) → MakesVersion e s c read → is_some read ≡ is_some (spec_of h s) → KeepsReads (h ++ e ∷ [])
  keeps-version s c read makes kind =
      let g = h ++ e ∷ [] in
      let same : (i : ℕ) → spec_of h i ≡ spec_of g i = λ i. ap (λ (l : List (Option Spec)). slice_index_or l i None) (sym (kinds-still h e s c read makes)) in
      let now : (i : ℕ) → AllByRecursion (λ (o : Option Reads). is_some o ≡ is_some (spec_of h i)) (recorded g i) = λ i. elim (cases_eq s i) [
        | inl is ↦
            let here : AllByRecursion (λ (o : Option Reads). is_some o ≡ is_some (spec_of h s)) (recorded g s) =
            subst (AllByRecursion (λ (o : Option Reads). is_some o ≡ is_some (spec_of h s))) (sym (recorded-more h e s c read makes)) (each-append (λ (o : Option Reads). is_some o ≡ is_some (spec_of h s)) (recorded h s) (read ∷ []) (was.kinds s) (kind, tt)) in
            subst (λ (k : ℕ). AllByRecursion (λ (o : Option Reads). is_some o ≡ is_some (spec_of h k)) (recorded g k)) is here
        | inr ne ↦
            subst (AllByRecursion (λ (o : Option Reads). is_some o ≡ is_some (spec_of h i))) (sym (recorded-other h e s c read makes i ne)) (was.kinds i)
      ] in
      record {
        follows = follows-push h e was.follows accepted;
        kinds = λ i. subst (λ (k : Option Spec). AllByRecursion (λ (o : Option Reads). is_some o ≡ is_some k) (recorded g i)) (same i) (now i);
      }

  keeps-retired : (s first : ℕ) → RetiresVersions e s first → KeepsReads (h ++ e ∷ [])
  keeps-retired s first retires =
      let g = h ++ e ∷ [] in
      let same : (i : ℕ) → spec_of h i ≡ spec_of g i = λ i. ap (λ (l : List (Option Spec)). slice_index_or l i None) (sym (kinds-kept h e s first retires)) in
      record {
        follows = follows-push h e was.follows accepted;
        kinds = λ i. subst (λ (k : Option Spec). AllByRecursion (λ (o : Option Reads). is_some o ≡ is_some k) (recorded g i)) (same i) (subst (AllByRecursion (λ (o : Option Reads). is_some o ≡ is_some (spec_of h i))) (sym (recorded-kept h e s first retires i)) (was.kinds i));
      }

takes-some : (h : List Entry) (s : ℕ) (o : Option Spec) (new : Reads) → takes_reads h s o new ≡ true → true ≡ is_some o
takes-some h s None new takes = absurd (cc)
takes-some h s (Some spec) new takes = refl

second-cause : (a b : Option Rejection) (os : List (Option Rejection)) → first_some (a ∷ b ∷ os) ≡ None → b ≡ None
second-cause a b os accepted = first_none b os (rest_none a (b ∷ os) accepted)

keeps-push : (h : List Entry) → KeepsReads h → (e : Entry) → rejection h e ≡ None → KeepsReads (h ++ e ∷ [])
keeps-push h was (Create id) accepted = keeps-stream h was (Create id) accepted id None (create-makes id)
keeps-push h was (Define id spec) accepted = keeps-stream h was (Define id spec) accepted id (Some spec) (define-makes id spec)
keeps-push h was (Commit s cut added) accepted =
    let plain = when_none (is_output h s) NotWritable (second-cause _ _ (drop 2 (fits.commit_causes h s (change cut added))) accepted) in
    keeps-version h was (Commit s cut added) accepted s (change cut added) None (commit-makes s cut added) (sym plain)
keeps-push h was (Distillate s cut added new) accepted =
    let takes = not-false (takes_reads h s (spec_of h s) new) (when_none (not (takes_reads h s (spec_of h s) new)) NotWritable (second-cause _ _ (drop 2 (distillate_causes h s (change cut added) new)) accepted)) in
    keeps-version h was (Distillate s cut added new) accepted s (change cut added) (Some new) (distillate-makes s cut added new) (takes-some h s (spec_of h s) new takes)
keeps-push h was (Retire s first) accepted =
    keeps-retired h was (Retire s first) accepted s first (retire-retires s first)

keeps-reads : (h : List Entry) → Follows h → KeepsReads h
keeps-reads h follows =
    from_end KeepsReads h (record { follows = follows-none; kinds = λ s. tt }) (λ n e at was. keeps-push (take n h) was e (follows n e at))

-- ---- what the versions of a history have read

abbrev the_reads : List (Option Reads) → List Reads
the_reads rs = filter_map (λ o. o) rs

no-records : (rs : List (Option Reads)) → AllByRecursion (λ (o : Option Reads). is_some o ≡ false) rs → the_reads rs ≡ []
no-records [] none = refl
no-records (Some r ∷ rs) none = absurd (cc)
no-records (None ∷ rs) none = no-records rs none.1

no-record-at : (rs : List (Option Reads)) → AllByRecursion (λ (o : Option Reads). is_some o ≡ false) rs → (n : ℕ) → slice_index_or rs n None ≡ None
no-record-at [] none n = refl
no-record-at (Some r ∷ rs) none n = absurd (cc)
no-record-at (None ∷ rs) none zero = refl
no-record-at (None ∷ rs) none (suc n) = no-record-at rs none.1 n

all-records : (rs : List (Option Reads)) → AllByRecursion (λ (o : Option Reads). is_some o ≡ true) rs → length (the_reads rs) ≡ length rs
all-records [] some = refl
all-records (None ∷ rs) some = absurd (cc)
all-records (Some r ∷ rs) some = ap (λ (n : ℕ). suc n) (all-records rs some.1)

record-at : (rs : List (Option Reads)) → AllByRecursion (λ (o : Option Reads). is_some o ≡ true) rs → (n : ℕ) → slice_index_or rs n None ≡ slice_get (the_reads rs) n
record-at [] some n = refl
record-at (None ∷ rs) some n = absurd (cc)
record-at (Some r ∷ rs) some zero = refl
record-at (Some r ∷ rs) some (suc n) = record-at rs some.1 n

-- The reads of a stream with these records.
reads-kept : (o : Option Spec) (rs : List (Option Reads)) (count : ℕ) → count ≡ length rs + 1 → AllByRecursion (λ (r : Option Reads). is_some r ≡ is_some o) rs → (length (the_reads rs) ≡ reads_count o count) × ((version : ℕ) → slice_index_or (None ∷ rs) version None ≡ read_at (the_reads rs) version)
reads-kept None rs count are kinds = (ap (length {A = Reads}) (no-records rs kinds), at)
  where
    at : (version : ℕ) → slice_index_or (None ∷ rs) version None ≡ read_at (the_reads rs) version
    at zero = refl
    at (suc n) = no-record-at rs kinds n ∙ ap (λ (l : List Reads). slice_get l n) (sym (no-records rs kinds))
reads-kept (Some spec) rs count are kinds = let long = all-records rs kinds in (omega arith, at)
  where
    at : (version : ℕ) → slice_index_or (None ∷ rs) version None ≡ read_at (the_reads rs) version
    at zero = refl
    at (suc n) = record-at rs kinds n

-- ---- the board of a history

module _ (h : List Entry) (roots : List ℕ) where
  -- The numbers of the entries of the versions.
  entries-are : (s v : ℕ) (ns : List ℕ) → map (λ v. v.entry) (rolled_versions h roots s v ns) ≡ ns
  entries-are s v [] = refl
  entries-are s v (n ∷ ns) = ap (λ (l : List ℕ). n ∷ l) (entries-are s (v + 1) ns)

  module _ (follows : Follows h) where
    stream-reads : (s : ℕ) → s < length (ids h) → reads_of_versions (rolled_versions h roots s 1 (drop 1 (stream_numbers h s))) ≡ the_reads (recorded h s)
    stream-reads s low =
        fits.versions-reads (rolled_versions h roots s 1 (drop 1 (stream_numbers h s))) ∙ ap the_reads (fits.stream-reads h roots s low)

    numbers-again : (s : ℕ) → s < length (ids h) → get_or (stream_numbers h s) 0 0 ∷ map (λ v. v.entry) (rolled_versions h roots s 1 (drop 1 (stream_numbers h s))) ≡ stream_numbers h s
    numbers-again s low =
        ap (λ (l : List ℕ). get_or (stream_numbers h s) 0 0 ∷ l) (entries-are s 1 (drop 1 (stream_numbers h s)))
        ∙ whole (stream_numbers h s) (omega (arith, numbers-counted h s low))
      where
        whole : (ns : List ℕ) → 0 < length ns → get_or ns 0 0 ∷ drop 1 ns ≡ ns
        whole [] some = absurd (omega arith)
        whole (n ∷ ns) some = refl

    restored-has : (s id : ℕ) (ts : List TreeValue) → slice_get (ids h) s ≡ Some id → length ts ≡ latest h s + 1 → HasStreamOf h s (restored_stream (rolled_stream h roots s id) ts)
    restored-has s id ts at long =
        let low : s < length (ids h) = slice_get_within (ids h) s id at in
        let kept = reads-kept (spec_of h s) (recorded h s) (length ts) (omega (arith, length-recorded h s)) ((keeps-reads h follows).kinds s) in
        record {
          named = at;
          defined = refl;
          counted = long;
          read = record {
            counted = ap (length {A = Reads}) (stream-reads s low) ∙ kept.0;
            each = λ version. kept.1 version ∙ ap (λ (l : List Reads). read_at l version) (sym (stream-reads s low));
          };
          numbered = numbers-again s low;
          retired = refl;
        }

    module _ (trees : List (List TreeValue)) (counted : length trees ≡ length (ids h)) where
      restored-there : (s : ℕ) → s < length (ids h) → slice_get (restored_streams (roll_of h roots) trees) s ≡ Some (restored_stream (rolled_stream h roots s (get_or (ids h) s 0)) (slice_index_or trees s []))
      restored-there s low =
          let id = get_or (ids h) s 0 in
          let place : 0 + s ≡ s = omega arith in
          let at = fits.roll-at h roots 0 (ids h) s id (slice_get-get_or (ids h) s 0 low) ∙ ap (λ (k : ℕ). Some (rolled_stream h roots k id)) place in
          restored-at (roll_of h roots) trees s (rolled_stream h roots s id) (slice_index_or trees s []) at (slice_get-get_or trees s [] (omega (arith, counted)))

      -- The board of the roll of a history has its streams, if there is one tree more than versions of each stream.
      pub restored-streams-of : ((stream : ℕ) (d : List TreeValue) → stream < length (ids h) → length (slice_index_or trees stream d) ≡ latest h stream + 1) → HasStreamsOf h (record { streams = restored_streams (roll_of h roots) trees; entries = length h })
      restored-streams-of long = record {
        counted = restored-length (roll_of h roots) trees (counted ∙ sym (fits.roll-length h roots 0 (ids h))) ∙ fits.roll-length h roots 0 (ids h);
        each = λ s d low.
            let id = get_or (ids h) s 0 in
            let one : Versions = restored_stream (rolled_stream h roots s id) (slice_index_or trees s []) in
            subst (HasStreamOf h s) (sym (get_or_from_slice_get (restored_streams (roll_of h roots) trees) s one d (restored-there s low))) (restored-has s id (slice_index_or trees s []) (slice_get-get_or (ids h) s 0 low) (long s [] low));
        entries = refl;
        beyond = λ s past. unknown h s follows past;
        unretired = λ s past. unknown-earliest h s follows past;
      }

      -- The board of the roll of a history is that of the history, if each stream has its trees.
      pub restored-of : ((stream : ℕ) (d : List TreeValue) → stream < length (ids h) → HasTrees h stream (slice_index_or trees stream d)) → IsBoardOf h (record { streams = restored_streams (roll_of h roots) trees; entries = length h })
      restored-of has =
          is-board h (record { streams = restored_streams (roll_of h roots) trees; entries = length h }) (restored-streams-of (λ s d low. (has s d low).counted)) (λ s d low.
          let one : Versions = restored_stream (rolled_stream h roots s (get_or (ids h) s 0)) (slice_index_or trees s []) in
          subst (λ (v : Versions). HasTrees h s v.trees) (sym (get_or_from_slice_get (restored_streams (roll_of h roots) trees) s one d (restored-there s low))) (has s [] low)) follows

-- ---- the roots of the trees

-- What holds of each value holds of the one that there is.
if-some : {X : Type 0} (o : Option X) (P : X → Type 0) → ((x : X) → o ≡ Some x → P x) → IfSome o P
if-some None P each = tt
if-some (Some x) P each = each x refl

-- A version of a roll has the root of its entry.
abbrev HasItsRoot : List ℕ → RollVersion → Type 0
HasItsRoot roots v = root_at roots v.entry ≡ v.root

module _ (h : List Entry) (roots : List ℕ) where
  versions-roots : (s v : ℕ) (ns : List ℕ) → AllByRecursion (HasItsRoot roots) (rolled_versions h roots s v ns)
  versions-roots s v [] = tt
  versions-roots s v (n ∷ ns) = (refl, versions-roots s (v + 1) ns)

  streams-roots : (n : ℕ) (xs : List ℕ) → AllByRecursion (λ s. AllByRecursion (HasItsRoot roots) s.versions) (rolled_from h roots n xs)
  streams-roots n [] = tt
  streams-roots n (x ∷ xs) = (versions-roots n 1 (drop 1 (stream_numbers h n)), streams-roots (n + 1) xs)

  -- The board of the roll of a history has the roots of the entries, if the trees have the roots that the roll says.
  pub restored-roots : (trees : List (List TreeValue)) → AllFitTrees (roll_of h roots) trees → HaveRolledRoots (roll_of h roots) trees → HaveRoots roots (restored_streams (roll_of h roots) trees)
  restored-roots trees fit have stream version some =
      if-some (slice_get (restored_streams (roll_of h roots) trees) stream) _ (λ one at.
      let p = restored-part (roll_of h roots) trees stream one at in
      subst (λ (x : Versions). IfSome (slice_get x.trees version) (λ t. root_at roots (get_or x.numbers version 0) ≡ block_of t.node)) (sym p.is) (if-some (slice_get p.its version) _ (λ t its. tree-root stream p.stream p.its p.at p.its_at version t some its)))
    where
      tree-root : (stream : ℕ) (s : RollStreamValue) (ts : List TreeValue) → slice_get (roll_of h roots) stream ≡ Some s → slice_get trees stream ≡ Some ts → (version : ℕ) (t : TreeValue) → 1 ≤ version → slice_get ts version ≡ Some t → root_at roots (get_or (restored_stream s ts).numbers version 0) ≡ block_of t.node
      tree-root stream s ts at its zero t some tree = absurd (omega arith)
      tree-root stream s ts at its (suc k) t some tree =
          let entry_of : RollVersion → ℕ = λ v. v.entry in
          let one : suc k ≡ k + 1 = omega arith in
          let counted = (fit.each stream s ts at its).counted in
          let v = there s.versions k (omega (arith, slice_get_within ts (suc k) t tree)) in
          let number : get_or (map entry_of s.versions) k 0 ≡ v.0.entry = get_or_from_slice_get (map entry_of s.versions) k v.0.entry 0 (slice_get-map entry_of s.versions k ∙ ap (option_map entry_of) v.1) in
          let root = each-at (HasItsRoot roots) s.versions k v.0 (each-at (λ x. AllByRecursion (HasItsRoot roots) x.versions) (roll_of h roots) stream s (streams-roots 0 (ids h)) at) v.1 in
          ap (root_at roots) number ∙ root ∙ sym (have stream k s v.0 ts t at v.1 its (ap (slice_get ts) (sym one) ∙ tree))
