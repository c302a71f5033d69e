-- The places of the streams of a list, by their ids.
use Rattle.std.specs.Prelude.{ℕ, ◌≡◌, ◌↔◌, List, map, slice_get, Option, Some}
use Rattle.btr_rows.specs.Streams.{StreamValue}

-- The ids of streams.
abbrev pub stream_ids : List StreamValue → List ℕ
stream_ids streams = map (λ s. s.id) streams

-- An id has the place at which it is in the list, and an id that is not in it has none.
abbrev pub ArePlaces : (ℕ → Option ℕ) → List ℕ → Type 0
ArePlaces find ids = (id place : ℕ) → (find id ≡ Some place) ↔ (slice_get ids place ≡ Some id)
