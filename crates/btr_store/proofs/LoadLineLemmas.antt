-- Lemmas on the lines of a load: one batch after another.
use Rattle.std.specs.Prelude.{◌≡◌, ℕ, zero, suc, ◌+◌, ◌-◌, ◌<◌, ◌≤◌, min, List, [], ◌∷◌, ◌++◌, length, take, drop, slice_index_or, Result}
use Rattle.std.proofs.Common.{refl, sym, ap, ◌∙◌, subst, arith, append_assoc, drop-cons}
use Rattle.btr_rows.specs.declared.row.NumberedPoint.{NumberedPoint}
use Rattle.btr_streams.specs.declared.board.Receipt.{Receipt}
use Rattle.btr_engine.specs.declared.step.StepFault.{StepFault}
use Rattle.btr_store.specs.declared.report_line.ReportLine.{ReportLine}
use Rattle.btr_store.specs.declared.transcript.Transcript.{Transcript}
use Rattle.btr_store.specs.Transcript.{AddsLines}
use Rattle.btr_store.proofs.TranscriptLemmas.{adds_then}
use Rattle.btr_store.specs.LoadLines.{last_row, batch_span, batch_spans, points_by_result, points_committed}

module _ {A : Type 0} where
  take_none : (k : ℕ) → take {A = A} k [] ≡ []
  take_none zero = refl
  take_none (suc k) = refl

  drop_none : (k : ℕ) → drop {A = A} k [] ≡ []
  drop_none zero = refl
  drop_none (suc k) = refl

  pub take_min : (n : ℕ) (l : List A) → take (min (length l) n) l ≡ take n l
  take_min zero [] = refl
  take_min zero (x ∷ l) = let k : min (length (x ∷ l)) 0 ≡ 0 = omega arith in ap (λ (m : ℕ). take m (x ∷ l)) k
  take_min (suc n) [] = take_none (min 0 (suc n))
  take_min (suc n) (x ∷ l) =
      let k : min (length (x ∷ l)) (suc n) ≡ suc (min (length l) n) = omega arith in
      ap (λ (m : ℕ). take m (x ∷ l)) k ∙ ap (λ (m : List A). x ∷ m) (take_min n l)

  pub drop_min : (n : ℕ) (l : List A) → drop (min (length l) n) l ≡ drop n l
  drop_min zero [] = refl
  drop_min zero (x ∷ l) = let k : min (length (x ∷ l)) 0 ≡ 0 = omega arith in ap (λ (m : ℕ). drop m (x ∷ l)) k
  drop_min (suc n) [] = drop_none (min 0 (suc n))
  drop_min (suc n) (x ∷ l) =
      let k : min (length (x ∷ l)) (suc n) ≡ suc (min (length l) n) = omega arith in
      ap (λ (m : ℕ). drop m (x ∷ l)) k ∙ drop_min n l

  pub drop_at : (l : List A) (i : ℕ) (d : A) → i < length l → drop i l ≡ slice_index_or l i d ∷ drop (i + 1) l
  drop_at l i d lt =
      let next : suc i ≡ i + 1 = omega arith in
      drop-cons l i d lt ∙ ap (λ (k : ℕ). slice_index_or l i d ∷ drop k l) next

-- One batch more of the lines.
pub spans_at : (id size : ℕ) (rest : List NumberedPoint) (results : List (Result Receipt StepFault)) (i : ℕ) (d : Result Receipt StepFault) → i < length results
    → batch_spans id size rest (drop i results) ≡ batch_span id (take size rest) (slice_index_or results i d) ++ batch_spans id size (drop size rest) (drop (i + 1) results)
spans_at id size rest results i d lt = ap (batch_spans id size rest) (drop_at results i d lt)

pub spans_more : (id size : ℕ) (done all : List ReportLine) (rest : List NumberedPoint) (results : List (Result Receipt StepFault)) (i : ℕ) (d : Result Receipt StepFault) → i < length results
    → done ++ batch_spans id size rest (drop i results) ≡ all
    → (done ++ batch_span id (take size rest) (slice_index_or results i d)) ++ batch_spans id size (drop size rest) (drop (i + 1) results) ≡ all
spans_more id size done all rest results i d lt before =
    append_assoc done (batch_span id (take size rest) (slice_index_or results i d)) (batch_spans id size (drop size rest) (drop (i + 1) results))
    ∙ ap (λ x. done ++ x) (sym (spans_at id size rest results i d lt)) ∙ before

pub record Pushed (id size : ℕ) (points : List NumberedPoint) (results : List (Result Receipt StepFault)) (i : ℕ) (rest : List NumberedPoint) (old new : Transcript) : Type 0 where
  pub done : List ReportLine
  pub split : done ++ batch_spans id size rest (drop i results) ≡ batch_spans id size points results
  pub adds : AddsLines done old new

pub spans_pushed : (id size : ℕ) (points : List NumberedPoint) (results : List (Result Receipt StepFault)) (i : ℕ) (d : Result Receipt StepFault) (rest here after : List NumberedPoint) (old mid new : Transcript) → i < length results → here ≡ take size rest → after ≡ drop size rest → Pushed id size points results i rest old mid → AddsLines (batch_span id here (slice_index_or results i d)) mid new → Pushed id size points results (i + 1) after old new
spans_pushed id size points results i d rest here after old mid new lt is_here is_after before adds =
    let span : List ReportLine = batch_span id (take size rest) (slice_index_or results i d) in
    record {
      done = before.done ++ span;
      split =
          ap (λ (l : List NumberedPoint). (before.done ++ span) ++ batch_spans id size l (drop (i + 1) results)) is_after
          ∙ spans_more id size before.done (batch_spans id size points results) rest results i d lt before.split;
      adds = adds_then before.done span old mid new before.adds
          (subst (λ (l : List NumberedPoint). AddsLines (batch_span id l (slice_index_or results i d)) mid new) is_here adds);
    }

-- One batch more of the points.
pub points_at : (size : ℕ) (rest : List NumberedPoint) (results : List (Result Receipt StepFault)) (i : ℕ) (d : Result Receipt StepFault) → i < length results
    → points_committed size rest (drop i results) ≡ points_by_result (take size rest) (slice_index_or results i d) + points_committed size (drop size rest) (drop (i + 1) results)
points_at size rest results i d lt = ap (points_committed size rest) (drop_at results i d lt)

pub points_fit : (points : List NumberedPoint) (size : ℕ) → length (take size points) + length (drop size points) ≡ length points
points_fit [] zero = refl
points_fit [] (suc size) = refl
points_fit (p ∷ points) zero = omega arith
points_fit (p ∷ points) (suc size) = omega (arith, points_fit points size)

-- The last of some rows.
pub last_at : (points : List NumberedPoint) (d : NumberedPoint) → 1 ≤ length points → last_row points ≡ (slice_index_or points (length points - 1) d).number
last_at [] d some = absurd (omega (arith, some))
last_at (p ∷ []) d some = refl
last_at (p ∷ q ∷ points) d some =
    let k : length (p ∷ q ∷ points) - 1 ≡ suc (length (q ∷ points) - 1) = omega arith in
    last_at (q ∷ points) d (omega arith) ∙ ap (λ i. (slice_index_or (p ∷ q ∷ points) i d).number) (sym k)

pub points_pushed : (size : ℕ) (rest here after all : List NumberedPoint) (results : List (Result Receipt StepFault)) (i : ℕ) (d : Result Receipt StepFault) (count more whole : ℕ) → i < length results → here ≡ take size rest → after ≡ drop size rest → more ≡ points_by_result here (slice_index_or results i d) → count + points_committed size rest (drop i results) ≡ whole → (count + more) + points_committed size after (drop (i + 1) results) ≡ whole
points_pushed size rest here after all results i d count more whole lt is_here is_after is before =
    let step = points_at size rest results i d lt in
    let now : more ≡ points_by_result (take size rest) (slice_index_or results i d) = is ∙ ap (λ l. points_by_result l (slice_index_or results i d)) is_here in
    let left : points_committed size after (drop (i + 1) results) ≡ points_committed size (drop size rest) (drop (i + 1) results) = ap (λ l. points_committed size l (drop (i + 1) results)) is_after in
    omega (arith, step, now, left, before)

pub points_bound : (size : ℕ) (rest here after : List NumberedPoint) (count more whole : ℕ) → here ≡ take size rest → after ≡ drop size rest → more ≤ length here → count + length rest ≤ whole → (count + more) + length after ≤ whole
points_bound size rest here after count more whole is_here is_after most before =
    let a : length here ≡ length (take size rest) = ap (length {A = NumberedPoint}) is_here in
    let b : length after ≡ length (drop size rest) = ap (length {A = NumberedPoint}) is_after in
    omega (arith, a, b, points_fit rest size, most, before)
