-- The streams of a history with their versions, as a checkpoint has them: how many versions there are, by which entries they were made, what
-- their outline is, and what one entry more adds.
use Rattle.std.specs.Prelude.{◌≡◌, ℕ, ◌+◌, ◌-◌, ◌<◌, ◌≤◌, Bool, true, false, cond, List, [], ◌∷◌, ◌++◌, length, drop, get_or, slice_get, slice_index_or, Option, Some, None}
use Rattle.std.specs.List.{AllByRecursion, cons_option}
use Rattle.std.specs.Option.{option_map}
use Rattle.std.proofs.Common.{zero, suc, refl, sym, ap, ◌∙◌, arith, inl, inr}
use Rattle.std.proofs.lemmas.List.{get_or_append_left, get_or_push}
use Rattle.std.proofs.lemmas.Option.{slice_get-get_or, slice_get_past}
use Rattle.std.proofs.lemmas.Bool.{cases_lt}
use Rattle.btr_base.specs.Commit.{Change}
use Rattle.btr_hist.specs.declared.entry.Entry.{Entry}
use Rattle.btr_hist.specs.declared.entry.Entry.TheVariants.{Create, Commit, Define, Distillate, Retire}
use Rattle.btr_hist.specs.declared.kernel.Spec.{Spec}
use Rattle.btr_hist.specs.declared.kernel.Reads.{Reads}
use Rattle.btr_hist.specs.History.{ids, kinds, spec_of, latest, recorded, read_by, earliest}
use Rattle.btr_hist.specs.Legal.{Follows}
use Rattle.btr_hist.proofs.HistoryLemmas.{length-kinds, read_by-append, follows-prefix, unknown}
use Rattle.btr_hist.proofs.RetireLemmas.{earliest-push, earliest-silent}
use Rattle.btr_hist.proofs.VersionLemmas.{read_by-push}
use Rattle.btr_roll.specs.declared.roll.RollVersion.{RollVersion}
use Rattle.btr_roll.specs.Roll.{versions_count}
use Rattle.btr_streams.specs.Outline.{outlined, outline_from, outline_of, last_read, outlined_in_roll, outline_in}
use Rattle.btr_streams.specs.Past.{entry_numbers, creation_numbers, commit_numbers, stream_numbers}
use Rattle.btr_streams.specs.Rolling.{root_at, rolled_versions, rolled_stream, rolled_from, roll_of}
use Rattle.btr_streams.specs.Stage.{MakesStream, MakesVersion, RetiresVersions, change}
use Rattle.btr_streams.proofs.BoardStreamLemmas.{ids-more, kinds-more, recorded-still, ids-still, kinds-still, recorded-other, ids-kept, kinds-kept, recorded-kept, unknown-earliest, create-makes, define-makes, commit-makes, distillate-makes, retire-retires}
use Rattle.btr_streams.proofs.NumberingLemmas.{numbers-counted, numbers-still, numbers-new, numbers-more, numbers-other, numbers-kept}
use Rattle.btr_open.specs.Reached.{new_in_roll, with_version_more, with_version_at, with_first, with_first_at, next_roll, next_version}
use Rattle.btr_open.specs.Start.{IsMadeWithin}
use Rattle.btr_open.proofs.ListLemmas.{one-less, drop-push}

-- ---- the numbers of entries

-- The number of an entry of a history with this many entries.
abbrev IsNumber : ℕ → ℕ → Type 0
IsNumber entries n = (1 ≤ n) × (n ≤ entries)

numbers-of : (test : Entry → Bool) (n : ℕ) (h : List Entry) (entries : ℕ) → 1 ≤ n → n + length h ≤ entries + 1 → AllByRecursion (IsNumber entries) (entry_numbers test n h)
numbers-of test n [] entries some all = tt
numbers-of test n (e ∷ h) entries some all =
    let here : IsNumber entries n = (some, omega arith) in
    let more : List ℕ = entry_numbers test (n + 1) h in
    let rest : AllByRecursion (IsNumber entries) more = numbers-of test (n + 1) h entries (omega arith) (omega arith) in
    elim (test e) as (λ t. AllByRecursion (IsNumber entries) (cond t (n ∷ more) more)) [
      | true ↦ (here, rest)
      | false ↦ rest
    ]

with-option : (P : ℕ → Type 0) (xs ys : List ℕ) (i : ℕ) → AllByRecursion P xs → AllByRecursion P ys → AllByRecursion P (cons_option (slice_get xs i) ys)
with-option P [] ys i all each = each
with-option P (x ∷ xs) ys zero all each = (all.0, each)
with-option P (x ∷ xs) ys (suc i) all each = with-option P xs ys i all.1 each

-- The numbers of the entries that made the versions of a stream are those of entries.
made-numbers : (h : List Entry) (s : ℕ) → AllByRecursion (IsNumber (length h)) (stream_numbers h s)
made-numbers h s =
    with-option (IsNumber (length h)) (creation_numbers h) (commit_numbers h s) s (numbers-of _ 1 h (length h) (omega arith) (omega arith)) (numbers-of _ 1 h (length h) (omega arith) (omega arith))

first-of : (P : ℕ → Type 0) (ns : List ℕ) → 0 < length ns → AllByRecursion P ns → P (get_or ns 0 0)
first-of P [] some all = absurd (omega arith)
first-of P (n ∷ ns) some all = all.0

rest-of : (P : ℕ → Type 0) (ns : List ℕ) → AllByRecursion P ns → AllByRecursion P (drop 1 ns)
rest-of P [] all = tt
rest-of P (n ∷ ns) all = all.1

-- ---- the streams

module _ (h : List Entry) (roots : List ℕ) where
  versions-length : (s v : ℕ) (ns : List ℕ) → length (rolled_versions h roots s v ns) ≡ length ns
  versions-length s v [] = refl
  versions-length s v (n ∷ ns) = ap (λ (k : ℕ). suc k) (versions-length s (v + 1) ns)

  roll-length : (n : ℕ) (xs : List ℕ) → length (rolled_from h roots n xs) ≡ length xs
  roll-length n [] = refl
  roll-length n (x ∷ xs) = ap (λ (k : ℕ). suc k) (roll-length (n + 1) xs)

  -- There are as many streams as ids.
  pub roll-counted : length (roll_of h roots) ≡ length (ids h)
  roll-counted = roll-length 0 (ids h)

  roll-get : (n : ℕ) (xs : List ℕ) (i : ℕ) → slice_get (rolled_from h roots n xs) i ≡ option_map (rolled_stream h roots (n + i)) (slice_get xs i)
  roll-get n [] i = refl
  roll-get n (x ∷ xs) zero =
      let here : n ≡ n + 0 = omega arith in
      ap (λ (k : ℕ). Some (rolled_stream h roots k x)) here
  roll-get n (x ∷ xs) (suc i) =
      let step : (n + 1) + i ≡ n + suc i = omega arith in
      roll-get (n + 1) xs i ∙ ap (λ (k : ℕ). option_map (rolled_stream h roots k) (slice_get xs i)) step

  -- The stream at a place.
  pub roll-at : (s : ℕ) → slice_get (roll_of h roots) s ≡ option_map (rolled_stream h roots s) (slice_get (ids h) s)
  roll-at s =
      let place : 0 + s ≡ s = omega arith in
      roll-get 0 (ids h) s ∙ ap (λ (k : ℕ). option_map (rolled_stream h roots k) (slice_get (ids h) s)) place

  -- A stream has a number for each version without the first.
  versions-counted : (s : ℕ) → s < length (ids h) → length (drop 1 (stream_numbers h s)) ≡ latest h s
  versions-counted s low = omega (arith, one-less (stream_numbers h s), numbers-counted h s low)

  -- A stream has its versions.
  pub stream-versions : (s id : ℕ) → s < length (ids h) → length (rolled_stream h roots s id).versions ≡ latest h s
  stream-versions s id low = versions-length s 1 (drop 1 (stream_numbers h s)) ∙ versions-counted s low

  -- There are as many versions of a stream as the history has.
  pub roll-versions : Follows h → (s : ℕ) → versions_count (slice_get (roll_of h roots) s) ≡ latest h s
  roll-versions follows s = elim (cases_lt s (length (ids h))) [
    | inl low ↦
        let at = roll-at s ∙ ap (option_map (rolled_stream h roots s)) (slice_get-get_or (ids h) s 0 low) in
        ap versions_count at ∙ stream-versions s (get_or (ids h) s 0) low
    | inr high ↦
        let none = roll-at s ∙ ap (option_map (rolled_stream h roots s)) (slice_get_past (ids h) s high) in
        ap versions_count none ∙ sym (unknown h s follows high)
  ]

  -- The next version of a stream is the one after its latest.
  pub next-version : Follows h → (s : ℕ) → next_version (roll_of h roots) s ≡ latest h s + 1
  next-version follows s = ap (λ n. n + 1) (roll-versions follows s)

  -- ---- by which entries they were made

  versions-made : (s v : ℕ) (ns : List ℕ) → AllByRecursion (IsNumber (length h)) ns → AllByRecursion (λ x. (1 ≤ x.entry) × (x.entry ≤ length h)) (rolled_versions h roots s v ns)
  versions-made s v [] all = tt
  versions-made s v (n ∷ ns) all = (all.0, versions-made s (v + 1) ns all.1)

  streams-made : (n : ℕ) (xs : List ℕ) → n + length xs ≤ length (ids h) → AllByRecursion (IsMadeWithin (length h)) (rolled_from h roots n xs)
  streams-made n [] low = tt
  streams-made n (x ∷ xs) low =
      let numbers = made-numbers h n in (
        record {
          stream = first-of (IsNumber (length h)) (stream_numbers h n) (omega (arith, low, numbers-counted h n (omega (arith, low)))) numbers;
          versions = versions-made n 1 (drop 1 (stream_numbers h n)) (rest-of (IsNumber (length h)) (stream_numbers h n) numbers);
        },
        streams-made (n + 1) xs (omega (arith, low)),
      )

  -- The streams and their versions were made by entries of the history.
  pub roll-made : AllByRecursion (IsMadeWithin (length h)) (roll_of h roots)
  roll-made = streams-made 0 (ids h) (omega arith)

  -- ---- their outline

  last-of : (s v n : ℕ) (ns : List ℕ) → last_read (rolled_versions h roots s v (n ∷ ns)) ≡ read_by h s (v + length ns)
  last-of s v n [] =
      let here : v ≡ v + 0 = omega arith in
      ap (read_by h s) here
  last-of s v n (m ∷ ns) =
      let step : (v + 1) + length ns ≡ v + suc (length ns) = omega arith in
      last-of s (v + 1) m ns ∙ ap (read_by h s) step

  reads-of : (s : ℕ) (ns : List ℕ) (count : ℕ) → length ns ≡ count → last_read (rolled_versions h roots s 1 ns) ≡ read_by h s count
  reads-of s [] count are = ap (read_by h s) are
  reads-of s (n ∷ ns) count are =
      let last : 1 + length ns ≡ count = omega arith in
      last-of s 1 n ns ∙ ap (read_by h s) last

  stream-outlined : (s id : ℕ) → s < length (ids h) → outlined_in_roll (rolled_stream h roots s id) ≡ outlined h s id
  stream-outlined s id low =
      let version = stream-versions s id low in
      let read = reads-of s (drop 1 (stream_numbers h s)) (latest h s) (versions-counted s low) in
      λ i. record { id = id; spec = spec_of h s; latest = version i; reads = read i; earliest = earliest h s }

  streams-outlined : (n : ℕ) (xs : List ℕ) → n + length xs ≤ length (ids h) → outline_in (rolled_from h roots n xs) ≡ outline_from h n xs
  streams-outlined n [] low = refl
  streams-outlined n (x ∷ xs) low =
      let first = stream-outlined n x (omega (arith, low)) in
      let rest = streams-outlined (n + 1) xs (omega (arith, low)) in
      λ i. first i ∷ rest i

  -- The outline of the streams is that of the history.
  pub roll-outline : outline_in (roll_of h roots) ≡ outline_of h
  roll-outline = streams-outlined 0 (ids h) (omega arith)

-- ---- one entry more

module _ (h : List Entry) (roots : List ℕ) (e : Entry) (root : ℕ) (counted : length roots ≡ length h) where
  abbrev longer : List Entry
  longer = h ++ e ∷ []

  abbrev with_root : List ℕ
  with_root = roots ++ root ∷ []

  -- The versions of a stream stay, if they have read the same.
  versions-same : (s v : ℕ) (ns : List ℕ) → AllByRecursion (IsNumber (length h)) ns → ((i : ℕ) → i < length ns → read_by longer s (v + i) ≡ read_by h s (v + i)) → rolled_versions longer with_root s v ns ≡ rolled_versions h roots s v ns
  versions-same s v [] all reads = refl
  versions-same s v (n ∷ ns) all reads =
      let here : v + 0 ≡ v = omega arith in
      let number = all.0 in
      let its_root : root_at with_root n ≡ root_at roots n = get_or_append_left roots (root ∷ []) 0 (n - 1) (omega (arith, counted, number.0, number.1)) in
      let read : read_by longer s v ≡ read_by h s v = ap (read_by longer s) (sym here) ∙ reads 0 (omega arith) ∙ ap (read_by h s) here in
      let step : (i : ℕ) → v + suc i ≡ (v + 1) + i = λ i. omega arith in
      let rest = versions-same s (v + 1) ns all.1 (λ i low. ap (read_by longer s) (sym (step i)) ∙ reads (suc i) (omega arith) ∙ ap (read_by h s) (step i)) in
      λ i. record { entry = n; root = its_root i; reads = read i } ∷ rest i

  -- A stream stays as it is.
  abbrev StreamStays : ℕ → Type 0
  StreamStays s = (id : ℕ) → rolled_stream longer with_root s id ≡ rolled_stream h roots s id

  -- All of a stream but its first version that is not retired stays as it is.
  rest-stays : (s : ℕ) → stream_numbers longer s ≡ stream_numbers h s → spec_of longer s ≡ spec_of h s → recorded longer s ≡ recorded h s → (id least : ℕ) → with_first least (rolled_stream longer with_root s id) ≡ with_first least (rolled_stream h roots s id)
  rest-stays s numbers defined records id least =
      let vs = ap (λ (ns : List ℕ). rolled_versions longer with_root s 1 (drop 1 ns)) numbers
      ∙ versions-same s 1 (drop 1 (stream_numbers h s)) (rest-of (IsNumber (length h)) (stream_numbers h s) (made-numbers h s)) (λ i low. ap (λ (rs : List (Option Reads)). slice_index_or (None ∷ rs) (1 + i) None) records) in
      let first = ap (λ (ns : List ℕ). get_or ns 0 0) numbers in
      λ i. record { id = id; entry = first i; spec = defined i; first = least; versions = vs i }

  stream-stays : (s : ℕ) → stream_numbers longer s ≡ stream_numbers h s → spec_of longer s ≡ spec_of h s → recorded longer s ≡ recorded h s → earliest longer s ≡ earliest h s → StreamStays s
  stream-stays s numbers defined records firsts id =
      rest-stays s numbers defined records id (earliest longer s) ∙ (λ i. with_first (firsts i) (rolled_stream h roots s id))

  streams-stay : (n : ℕ) (xs : List ℕ) → ((s : ℕ) → n ≤ s → s < n + length xs → StreamStays s) → rolled_from longer with_root n xs ≡ rolled_from h roots n xs
  streams-stay n [] stays = refl
  streams-stay n (x ∷ xs) stays =
      let first = stays n (omega arith) (omega arith) x in
      let rest = streams-stay (n + 1) xs (λ s from to. stays s (omega arith) (omega arith)) in
      λ i. first i ∷ rest i

  streams-push : (n : ℕ) (xs : List ℕ) (y : ℕ) → rolled_from longer with_root n (xs ++ y ∷ []) ≡ rolled_from longer with_root n xs ++ rolled_stream longer with_root (n + length xs) y ∷ []
  streams-push n [] y =
      let here : n ≡ n + 0 = omega arith in
      ap (λ (k : ℕ). rolled_stream longer with_root k y ∷ []) here
  streams-push n (x ∷ xs) y =
      let step : (n + 1) + length xs ≡ n + suc (length xs) = omega arith in
      ap (λ l. rolled_stream longer with_root n x ∷ l) (streams-push (n + 1) xs y ∙ ap (λ (k : ℕ). rolled_from longer with_root (n + 1) xs ++ rolled_stream longer with_root k y ∷ []) step)

  -- An entry that makes a stream adds it at the end.
  roll-stream : (id : ℕ) (spec : Option Spec) → MakesStream e id spec → Follows h → roll_of h roots ++ new_in_roll id spec (length h + 1) ∷ [] ≡ roll_of longer with_root
  roll-stream id spec makes follows =
      let count = length (ids h) in
      let kinds_are = kinds-more h e id spec makes in
      let old : rolled_from longer with_root 0 (ids h) ≡ roll_of h roots = streams-stay 0 (ids h) (λ s from to.
      let low : s < count = omega (arith, to) in
      let defined = ap (λ l. slice_index_or l s None) kinds_are ∙ get_or_append_left (kinds h) (spec ∷ []) None s (omega (arith, low, length-kinds h)) in
      stream-stays s (numbers-still h e id spec makes s low) defined (recorded-still h e id spec makes s) (earliest-silent h e s (makes.no_first s))) in
      let place : 0 + count ≡ count = omega arith in
      let numbers : stream_numbers longer (0 + count) ≡ (length h + 1) ∷ [] = numbers-new h e id spec makes (0 + count) place (unknown h (0 + count) follows (omega arith)) in
      let defined : spec_of longer (0 + count) ≡ spec = ap (λ l. slice_index_or l (0 + count) None) kinds_are ∙ get_or_push (kinds h) spec None (0 + count) (omega (arith, length-kinds h)) in
      let first = ap (λ (ns : List ℕ). get_or ns 0 0) numbers in
      let none = ap (λ (ns : List ℕ). rolled_versions longer with_root (0 + count) 1 (drop 1 ns)) numbers in
      let earliest_is : earliest longer (0 + count) ≡ 0 = earliest-silent h e (0 + count) (makes.no_first (0 + count)) ∙ unknown-earliest h (0 + count) follows (omega arith) in
      let new : rolled_stream longer with_root (0 + count) id ≡ new_in_roll id spec (length h + 1) = λ i. record { id = id; entry = first i; spec = defined i; first = earliest_is i; versions = none i } in
      sym (ap (rolled_from longer with_root 0) (ids-more h e id spec makes) ∙ streams-push 0 (ids h) id ∙ (λ i. old i ++ new i ∷ []))

  versions-push : (s v : ℕ) (ns : List ℕ) (m : ℕ) → rolled_versions longer with_root s v (ns ++ m ∷ []) ≡ rolled_versions longer with_root s v ns ++ record { entry = m; root = root_at with_root m; reads = read_by longer s (v + length ns) } ∷ []
  versions-push s v [] m =
      let here : v ≡ v + 0 = omega arith in
      ap (λ (k : ℕ). record { entry = m; root = root_at with_root m; reads = read_by longer s k } ∷ []) here
  versions-push s v (n ∷ ns) m =
      let step : (v + 1) + length ns ≡ v + suc (length ns) = omega arith in
      let first : RollVersion = record { entry = n; root = root_at with_root n; reads = read_by longer s v } in
      ap (λ (l : List RollVersion). first ∷ l) (versions-push s (v + 1) ns m ∙ ap (λ (k : ℕ). rolled_versions longer with_root s (v + 1) ns ++ record { entry = m; root = root_at with_root m; reads = read_by longer s k } ∷ []) step)

  module _ (s : ℕ) (c : Change) (read : Option Reads) (makes : MakesVersion e s c read) where
    -- The version that the entry makes.
    abbrev new_version : RollVersion
    new_version = record { entry = length h + 1; root = root; reads = read }

    same-spec : (i : ℕ) → spec_of longer i ≡ spec_of h i
    same-spec i = ap (λ (l : List (Option Spec)). slice_index_or l i None) (kinds-still h e s c read makes)

    others-stay : (i : ℕ) → (s ≡ i → ⊥) → StreamStays i
    others-stay i other =
        stream-stays i (numbers-other h e s c read makes i other) (same-spec i) (recorded-other h e s c read makes i other) (earliest-silent h e i (makes.no_first i))

    -- The stream has the version at the end.
    stream-longer : s < length (ids h) → (id : ℕ) → with_version_more new_version (rolled_stream h roots s id) ≡ rolled_stream longer with_root s id
    stream-longer low id =
        let ns : List ℕ = stream_numbers h s in
        let many = numbers-counted h s low in
        let numbers : stream_numbers longer s ≡ ns ++ (length h + 1) ∷ [] = numbers-more h e s c read makes in
        let first : get_or (stream_numbers longer s) 0 0 ≡ get_or ns 0 0 = ap (λ (l : List ℕ). get_or l 0 0) numbers ∙ get_or_append_left ns ((length h + 1) ∷ []) 0 0 (omega (arith, many)) in
        let defined = same-spec s in
        let size = versions-counted h roots s low in
        let old : rolled_versions longer with_root s 1 (drop 1 ns) ≡ rolled_versions h roots s 1 (drop 1 ns) =
        versions-same s 1 (drop 1 ns) (rest-of (IsNumber (length h)) ns (made-numbers h s)) (λ i few. read_by-append h (e ∷ []) s (1 + i) (omega (arith, few, size))) in
        let last : 1 + length (drop 1 ns) ≡ suc (latest h s) = omega (arith, size) in
        let its_root : root_at with_root (length h + 1) ≡ root = get_or_push roots root 0 (length h + 1 - 1) (omega (arith, counted)) in
        let its_read : read_by longer s (1 + length (drop 1 ns)) ≡ read = ap (read_by longer s) last ∙ read_by-push h e s read makes.reads in
        let all = ap (λ (l : List ℕ). rolled_versions longer with_root s 1 (drop 1 l)) numbers
        ∙ ap (rolled_versions longer with_root s 1) (drop-push ns (length h + 1) (omega (arith, many)))
        ∙ versions-push s 1 (drop 1 ns) (length h + 1)
        ∙ (λ i. old i ++ record { entry = length h + 1; root = its_root i; reads = its_read i } ∷ []) in
        let firsts = earliest-silent h e s (makes.no_first s) in
        sym (λ i. record { id = id; entry = first i; spec = defined i; first = firsts i; versions = all i })

    streams-longer : (n k : ℕ) (xs : List ℕ) → s ≡ n + k → n + length xs ≤ length (ids h) → with_version_at (rolled_from h roots n xs) k new_version ≡ rolled_from longer with_root n xs
    streams-longer n k [] place low = refl
    streams-longer n zero (x ∷ xs) place low =
        let here : s ≡ n = omega arith in
        let first = ap (λ (j : ℕ). with_version_more new_version (rolled_stream h roots j x)) (sym here) ∙ stream-longer (omega (arith, low)) x ∙ ap (λ (j : ℕ). rolled_stream longer with_root j x) here in
        let rest = streams-stay (n + 1) xs (λ i from to. others-stay i (λ same. omega (arith, same, from, here))) in
        λ i. first i ∷ sym rest i
    streams-longer n (suc k) (x ∷ xs) place low =
        let first = others-stay n (λ same. omega (arith, same, place)) x in
        let rest = streams-longer (n + 1) k xs (omega arith) (omega (arith, low)) in
        λ i. sym first i ∷ rest i

    -- An entry that makes a version adds it to its stream.
    roll-version : with_version_at (roll_of h roots) s new_version ≡ roll_of longer with_root
    roll-version =
        let place : s ≡ 0 + s = omega arith in
        streams-longer 0 s (ids h) place (omega arith) ∙ ap (rolled_from longer with_root 0) (sym (ids-still h e s c read makes))

  module _ (s least : ℕ) (retires : RetiresVersions e s least) where
    same-spec-of : (i : ℕ) → spec_of longer i ≡ spec_of h i
    same-spec-of i = ap (λ (l : List (Option Spec)). slice_index_or l i None) (kinds-kept h e s least retires)

    left-alone : (i : ℕ) → (s ≡ i → ⊥) → StreamStays i
    left-alone i other =
        stream-stays i (numbers-kept h e s least retires i) (same-spec-of i) (recorded-kept h e s least retires i) (earliest-silent h e i (retires.no_other_first i other))

    -- The stream has its versions before the first retired.
    stream-retired : (id : ℕ) → with_first least (rolled_stream h roots s id) ≡ rolled_stream longer with_root s id
    stream-retired id =
        let firsts : least ≡ earliest longer s = sym (earliest-push h e s least retires.leaves) in
        sym (rest-stays s (numbers-kept h e s least retires s) (same-spec-of s) (recorded-kept h e s least retires s) id least)
        ∙ (λ i. with_first (firsts i) (rolled_stream longer with_root s id))

    streams-retired : (n k : ℕ) (xs : List ℕ) → s ≡ n + k → with_first_at (rolled_from h roots n xs) k least ≡ rolled_from longer with_root n xs
    streams-retired n k [] place = refl
    streams-retired n zero (x ∷ xs) place =
        let here : s ≡ n = omega arith in
        let first = ap (λ (j : ℕ). with_first least (rolled_stream h roots j x)) (sym here) ∙ stream-retired x ∙ ap (λ (j : ℕ). rolled_stream longer with_root j x) here in
        let rest = streams-stay (n + 1) xs (λ i from to. left-alone i (λ same. omega (arith, same, from, here))) in
        λ i. first i ∷ sym rest i
    streams-retired n (suc k) (x ∷ xs) place =
        let first = left-alone n (λ same. omega (arith, same, place)) x in
        let rest = streams-retired (n + 1) k xs (omega arith) in
        λ i. sym first i ∷ rest i

    -- A retirement changes the first version of its stream that is not retired.
    roll-retired : with_first_at (roll_of h roots) s least ≡ roll_of longer with_root
    roll-retired =
        let place : s ≡ 0 + s = omega arith in
        streams-retired 0 s (ids h) place ∙ ap (rolled_from longer with_root 0) (sym (ids-kept h e s least retires))

-- The streams of a history with one entry more are those that the entry leaves.
pub roll-next : (h : List Entry) (roots : List ℕ) (e : Entry) (root : ℕ) → Follows (h ++ e ∷ []) → length roots ≡ length h → roll_of (h ++ e ∷ []) (roots ++ root ∷ []) ≡ next_roll (roll_of h roots) e (length h + 1) root
roll-next h roots (Create id) root follows counted =
    sym (roll-stream h roots (Create id) root counted id None (create-makes id) (follows-prefix h (Create id ∷ []) follows))
roll-next h roots (Define id spec) root follows counted =
    sym (roll-stream h roots (Define id spec) root counted id (Some spec) (define-makes id spec) (follows-prefix h (Define id spec ∷ []) follows))
roll-next h roots (Retire s least) root follows counted =
    sym (roll-retired h roots (Retire s least) root counted s least (retire-retires s least))
roll-next h roots (Commit s cut added) root follows counted =
    sym (roll-version h roots (Commit s cut added) root counted s (change cut added) None (commit-makes s cut added))
roll-next h roots (Distillate s cut added read) root follows counted =
    sym (roll-version h roots (Distillate s cut added read) root counted s (change cut added) (Some read) (distillate-makes s cut added read))
