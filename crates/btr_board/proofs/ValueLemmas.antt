-- Lemmas on the values of a list of shared values: copies, one value set, and one more.
use Rattle.std.specs.Prelude.{◌≡◌, ℕ, ◌<◌, ◌≤◌, List, [], ◌∷◌, ◌++◌, length, map, set, slice_get, Option, None, Some}
use Rattle.std.proofs.Common.{refl, sym, ap, ◌∙◌, Bor}
use Rattle.std.specs.Option.{option_map, option_copied}
use Rattle.std.specs.Slice.{IsItemAt}
use Rattle.std.specs.declared.alloc.Global.{Global}
use Rattle.std.specs.declared.sync.Arc.{Arc}
use Rattle.std.proofs.lemmas.Option.{slice_get_past, slice_get_read, slice_get-map}
use Rattle.btr_board.specs.Put.{put_at}
use Rattle.btr_board.specs.Places.{value_at, link_of, node_of}
use Rattle.btr_board.proofs.PutLemmas.{put-is}
use Rattle.btr_board.proofs.ListLemmas.{set-same, set-other, push-same, push-other}

-- What `get` returns at a place of a list.
pub item-at : {X : Type 0} (xs : List X) (i : ℕ) (r : Option (Bor X)) → IsItemAt xs i r → option_copied r ≡ slice_get xs i
item-at xs i None h = sym (slice_get_past xs i h.3)
item-at xs i (Some x) h = sym (slice_get_read xs (length xs) i x.now refl h.3.0 h.1)

-- The node behind the link at a place of a list.
pub link-at : {X : Type 0} (xs : List (Arc X Global)) (i : ℕ) (r : Option (Bor (Arc X Global))) → option_copied r ≡ slice_get xs i → link_of r ≡ value_at xs i
link-at xs i None e = ap (option_map (λ a. a.value)) e
link-at xs i (Some x) e = ap (option_map (λ a. a.value)) e

-- The node behind a reference to a link.
pub link-same : {X : Type 0} (o : Option (Arc X Global)) (r : Option (Bor (Arc X Global))) → option_copied r ≡ o → link_of r ≡ node_of o
link-same o None e = ap node_of e
link-same o (Some x) e = ap node_of e

pub value-past : {X : Type 0} (xs : List (Arc X Global)) (i : ℕ) → length xs ≤ i → value_at xs i ≡ None
value-past xs i le = ap (option_map (λ a. a.value)) (slice_get_past xs i le)

-- Lists with the same values have the same value at each place.
pub same-values : {X : Type 0} (xs ys : List (Arc X Global)) (j : ℕ) → map (λ a. a.value) xs ≡ map (λ a. a.value) ys → value_at xs j ≡ value_at ys j
same-values xs ys j e =
    sym (slice_get-map (λ a. a.value) xs j)
    ∙ ap (λ vs. slice_get vs j) e
    ∙ slice_get-map (λ a. a.value) ys j

pub value-set : {X : Type 0} (xs old : List (Arc X Global)) (i : ℕ) (a : Arc X Global) (j : ℕ) → i < length xs → ((j : ℕ) → value_at xs j ≡ value_at old j) → value_at (set xs i a) j ≡ put_at i a.value (value_at old) j
value-set xs old i a j lt same =
    put-is i a.value (value_at old) j (value_at (set xs i a) j) (λ e. ap (option_map (λ a. a.value)) (ap (slice_get (set xs i a)) e ∙ set-same xs i a lt)) (λ ne. ap (option_map (λ a. a.value)) (set-other xs i a j ne) ∙ same j)

pub value-push : {X : Type 0} (xs old : List (Arc X Global)) (i : ℕ) (a : Arc X Global) (j : ℕ) → i ≡ length xs → ((j : ℕ) → value_at xs j ≡ value_at old j) → value_at (xs ++ a ∷ []) j ≡ put_at i a.value (value_at old) j
value-push xs old i a j last same =
    put-is i a.value (value_at old) j (value_at (xs ++ a ∷ []) j) (λ e. ap (option_map (λ a. a.value)) (ap (slice_get (xs ++ a ∷ [])) (e ∙ last) ∙ push-same xs a)) (λ ne. ap (option_map (λ a. a.value)) (push-other xs a j (λ e. ne (e ∙ sym last))) ∙ same j)
