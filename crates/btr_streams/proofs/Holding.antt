-- The walk over the readers of a stream that finds which of them holds versions of it.
use Rattle.std.specs.Prelude.{◌≡◌, ℕ, ◌+◌, ◌<◌, ◌≤◌, ◌==◌, Bool, true, false, cond, List, [], ◌∷◌, length, map, take, slice_get, Option, Some, None, is_some}
use Rattle.std.specs.Option.{option_map, unwrap_or}
use Rattle.std.proofs.Common.{zero, suc, refl, sym, ap, ◌∙◌, arith}
use Rattle.std.proofs.lemmas.List.{length-map, take_all}
use Rattle.std.proofs.lemmas.Bool.{or_parts}
use Rattle.std.proofs.lemmas.Option.{slice_get-map, get_or_from_slice_get}
use Rattle.btr_hist.specs.declared.kernel.Spec.{Spec}
use Rattle.btr_hist.specs.declared.kernel.Reads.{Reads}
use Rattle.btr_hist.specs.declared.rejection.Rejection.{Rejection}
use Rattle.btr_hist.specs.History.{nothing_read}
use Rattle.btr_hist.specs.Legal.{first_some, read_from, lesser, held_at}
use Rattle.btr_streams.specs.Readers.{second_is, is_input, readers_from, AreReaders}
use Rattle.btr_streams.specs.Board.{Versions, Kept, specs_of}
use Rattle.btr_streams.specs.Rolling.{kept_stream, rolled}
use Rattle.btr_streams.specs.Outline.{Outlined, outline_in, stream_at, held_in, held_by_in, held_in_all}

-- ---- the first of some reasons

-- If none of the first reasons is there, and the next one is not, none of one more is.
first-next : {A : Type 0} (os : List (Option A)) (i : ℕ) → first_some (take i os) ≡ None → slice_get os i ≡ Some None → first_some (take (suc i) os) ≡ None
first-next [] zero none at = refl
first-next [] (suc i) none at = refl
first-next (None ∷ os) zero none at = refl
first-next (Some a ∷ os) zero none at = absurd (cc)
first-next (None ∷ os) (suc i) none at = first-next os i none at
first-next (Some a ∷ os) (suc i) none at = absurd (cc)

-- If none of the first reasons is there, but the next one is, this is the first.
first-found : {A : Type 0} (os : List (Option A)) (i : ℕ) (a : A) → first_some (take i os) ≡ None → slice_get os i ≡ Some (Some a) → first_some os ≡ Some a
first-found [] i a none at = absurd (cc)
first-found (None ∷ os) zero a none at = absurd (cc)
first-found (Some b ∷ os) zero a none at = let same : b ≡ a = cc in ap Some same
first-found (None ∷ os) (suc i) a none at = first-found os i a none at
first-found (Some b ∷ os) (suc i) a none at = absurd (cc)

no-reason : (o : Option Rejection) → is_some o ≡ false → o ≡ None
no-reason None none = refl
no-reason (Some why) none = absurd (cc)

some-reason : (o : Option Rejection) → is_some o ≡ true → (why : Rejection) × (o ≡ Some why)
some-reason None some = absurd (cc)
some-reason (Some why) some = (why, refl)

first_some-tail : {A : Type 0} (a : Option A) (xs ys : List (Option A)) → first_some xs ≡ first_some ys → first_some (a ∷ xs) ≡ first_some (a ∷ ys)
first_some-tail None xs ys same = same
first_some-tail (Some a) xs ys same = refl

-- ---- the readers of a stream tell all that hold its versions

not-read : (s : ℕ) (input version : Option ℕ) → second_is s input ≡ false → read_from s input version ≡ None
not-read s None version none = refl
not-read s (Some i) None none = refl
not-read s (Some i) (Some v) none = ap {A = Bool} {B = Option ℕ} (λ t. cond t (Some v) None) none

-- An output holds no versions of a stream that is no input.
not-held : (s first n : ℕ) (spec : Spec) (last : Option Reads) → is_input s spec ≡ false → held_in s first n (Some spec) last ≡ None
not-held s first n spec last none =
    let r : Reads = unwrap_or last (nothing_read spec) in
    let parts = or_parts (spec.first == s) (second_is s spec.second) none in
    let one = not-read s (Some spec.first) (Some r.first) parts.0 in
    let two = not-read s spec.second r.second parts.1 in
    λ i. held_at first n (lesser (one i) (two i))

readers-hold : (o : List Outlined) (s first n : ℕ) (os : List Outlined) → ((i : ℕ) → i < length os → stream_at o (n + i) ≡ stream_at os i) → first_some (map (held_by_in o s first) (readers_from s n (map (λ x. x.spec) os))) ≡ first_some (held_in_all s first n os)
readers-hold o s first n [] same = refl
readers-hold o s first n (x ∷ os) same =
    let here : n + 0 ≡ n = omega arith in
    let step : (i : ℕ) → (n + 1) + i ≡ n + suc i = λ i. omega arith in
    let at : stream_at o n ≡ x = ap (stream_at o) (sym here) ∙ same 0 (omega arith) in
    let rest = readers-hold o s first (n + 1) os (λ i low. ap (stream_at o) (step i) ∙ same (suc i) (omega (arith, low))) in
    go x.spec refl at rest
  where
    go : (k : Option Spec) → x.spec ≡ k → stream_at o n ≡ x → first_some (map (held_by_in o s first) (readers_from s (n + 1) (map (λ y. y.spec) os))) ≡ first_some (held_in_all s first (n + 1) os) → first_some (map (held_by_in o s first) (readers_from s n (x.spec ∷ map (λ y. y.spec) os))) ≡ first_some (held_in s first n x.spec x.reads ∷ held_in_all s first (n + 1) os)
    go None is at rest =
        let others : List (Option Spec) = map (λ y. y.spec) os in
        ap (λ (k : Option Spec). first_some (map (held_by_in o s first) (readers_from s n (k ∷ others)))) is
        ∙ rest
        ∙ ap (λ (k : Option Spec). first_some (held_in s first n k x.reads ∷ held_in_all s first (n + 1) os)) (sym is)
    go (Some spec) is at rest =
        let others : List (Option Spec) = map (λ y. y.spec) os in
        let more : List ℕ = readers_from s (n + 1) others in
        let all : List (Option Rejection) = held_in_all s first (n + 1) os in
        let found : held_by_in o s first n ≡ held_in s first n (Some spec) x.reads =
        ap (λ (y : Outlined). held_in s first n y.spec y.reads) at ∙ ap (λ (k : Option Spec). held_in s first n k x.reads) is in
        let step : (t : Bool) → is_input s spec ≡ t → first_some (map (held_by_in o s first) (cond t (n ∷ more) more)) ≡ first_some (held_in s first n (Some spec) x.reads ∷ all) =
        λ t. elim t as (λ u. is_input s spec ≡ u → first_some (map (held_by_in o s first) (cond u (n ∷ more) more)) ≡ first_some (held_in s first n (Some spec) x.reads ∷ all)) [
          | true ↦ λ input.
              ap (λ (w : Option Rejection). first_some (w ∷ map (held_by_in o s first) more)) found
              ∙ first_some-tail (held_in s first n (Some spec) x.reads) (map (held_by_in o s first) more) all rest
          | false ↦ λ input. rest ∙ ap (λ (w : Option Rejection). first_some (w ∷ all)) (sym (not-held s first n spec x.reads input))
        ] in
        ap (λ (k : Option Spec). first_some (map (held_by_in o s first) (readers_from s n (k ∷ others)))) is
        ∙ step (is_input s spec) refl
        ∙ ap (λ (k : Option Spec). first_some (held_in s first n k x.reads ∷ all)) (sym is)

specs-rolled : (streams : List Versions) → map (λ x. x.spec) (outline_in (map kept_stream streams)) ≡ specs_of streams
specs-rolled [] = refl
specs-rolled (s ∷ streams) = ap (λ (l : List (Option Spec)). s.spec ∷ l) (specs-rolled streams)

-- What the readers of a stream tell is what all streams tell.
pub asked-all : (b : Kept) (readers : List (List ℕ)) → AreReaders (specs_of b.streams) readers → (s first : ℕ) (its : List ℕ) → s < length b.streams → slice_get readers s ≡ Some its → first_some (map (held_by_in (outline_in (rolled b)) s first) its) ≡ first_some (held_in_all s first 0 (outline_in (rolled b)))
asked-all b readers are s first its low at =
    let o = outline_in (rolled b) in
    let name : Versions → Option Spec = λ v. v.spec in
    let place : (i : ℕ) → 0 + i ≡ i = λ i. omega arith in
    let is : its ≡ readers_from s 0 (specs_of b.streams) = sym (get_or_from_slice_get readers s its [] at) ∙ are.each s [] (omega (arith, low, length-map b.streams name)) in
    ap (λ (l : List ℕ). first_some (map (held_by_in o s first) l)) (is ∙ ap (readers_from s 0) (sym (specs-rolled b.streams)))
    ∙ readers-hold o s first 0 o (λ i _. ap (stream_at o) (place i))

-- ---- the walk

module _ (o : List Outlined) (stream first : ℕ) (readers : List ℕ) where
  abbrev asked : List (Option Rejection)
  asked = map (held_by_in o stream first) readers

  -- No reader before this place holds one of the versions.
  abbrev pub AreFree : ℕ → Type 0
  AreFree place = first_some (take place asked) ≡ None

  module _ (place output : ℕ) (at : slice_get readers place ≡ Some output) (found : Option Rejection) (is : found ≡ held_by_in o stream first output) where
    found-here : slice_get asked place ≡ Some found
    found-here =
        slice_get-map (held_by_in o stream first) readers place
        ∙ ap (option_map (held_by_in o stream first)) at
        ∙ ap {A = Option Rejection} {B = Option (Option Rejection)} Some (sym is)

    -- It does not hold one either.
    pub free-next : AreFree place → is_some found ≡ false → AreFree (place + 1)
    free-next free none =
        let one : suc place ≡ place + 1 = omega arith in
        ap (λ (n : ℕ). first_some (take n asked)) (sym one) ∙ first-next asked place free (found-here ∙ ap {A = Option Rejection} {B = Option (Option Rejection)} Some (no-reason found none))

    -- It is the first that holds one.
    pub held-here : AreFree place → is_some found ≡ true → found ≡ first_some asked
    held-here free some =
        let why = some-reason found some in
        why.1 ∙ sym (first-found asked place why.0 free (found-here ∙ ap {A = Option Rejection} {B = Option (Option Rejection)} Some why.1))

  -- None does, if there are no more readers.
  pub free-all : (place : ℕ) → length readers ≤ place → AreFree place → None ≡ first_some asked
  free-all place past free =
      sym (ap first_some (sym (take_all place asked (omega (arith, past, length-map readers (held_by_in o stream first))))) ∙ free)
