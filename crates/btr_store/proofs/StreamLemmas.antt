-- Lemmas on the rows of all streams.
use Rattle.std.specs.Prelude.{◌≡◌, ℕ, zero, suc, ◌+◌, ◌<◌, ◌≤◌, List, [], ◌∷◌, length, slice_get, slice_index_or}
use mathlib.Core.Path.{fun_ext}
use Rattle.std.proofs.Common.{refl, ap, ◌∙◌, arith}
use Rattle.btr_hist.specs.declared.entry.Entry.{Entry}
use Rattle.btr_hist.specs.declared.answer.StreamRow.{StreamRow}
use Rattle.btr_hist.specs.History.{ids}
use Rattle.btr_hist.specs.Answer.{rows_from}
use Rattle.btr_store.specs.Streams.{AreStreams, id_of_row, id_in, id_of_stream}

pub rows_length : (h : List Entry) (number : ℕ) (l : List ℕ) → length (rows_from h number l) ≡ length l
rows_length h number [] = refl
rows_length h number (id ∷ l) = omega (arith, rows_length h (number + 1) l)

-- The row at an index has the id at that index.
pub row_at : (h : List Entry) (number : ℕ) (l : List ℕ) (k : ℕ) (d : StreamRow) → k < length l → (slice_index_or (rows_from h number l) k d).id ≡ slice_index_or l k 0
row_at h number [] k d lt = absurd (omega (arith, lt))
row_at h number (id ∷ l) zero d lt = refl
row_at h number (id ∷ l) (suc k) d lt = row_at h (number + 1) l k d (omega (arith, lt))

-- Past the last row there is no id.
pub no_row : (l : List ℕ) (k : ℕ) → length l ≤ k → 0 ≡ slice_index_or l k 0
no_row [] k le = refl
no_row (id ∷ l) zero le = absurd (omega (arith, le))
no_row (id ∷ l) (suc k) le = no_row l k (omega (arith, le))

row_by : (h : List Entry) (number : ℕ) (l : List ℕ) (k : ℕ) → id_of_row (slice_get (rows_from h number l) k) ≡ slice_index_or l k 0
row_by h number [] k = refl
row_by h number (id ∷ l) zero = refl
row_by h number (id ∷ l) (suc k) = row_by h (number + 1) l k

-- By the rows of all streams each stream has its id.
pub ids_in : (h : List Entry) (rows : List StreamRow) → AreStreams h rows → id_in rows ≡ id_of_stream h
ids_in h rows are = fun_ext (λ k. ap (λ (l : List StreamRow). id_of_row (slice_get l k)) are ∙ row_by h 0 (ids h) k)
