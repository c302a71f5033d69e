-- What a filled list is, and one in which calls were undone: an image of a crash, and the one of the fill.
use Rattle.std.specs.Prelude.{◌≡◌, ℕ, List, [], ◌∷◌, ◌++◌, length, take, Result, Ok, Err, IfOk}
use Rattle.std.proofs.Common.{◌∙◌, sym, subst, ⊎_elim, inl, inr}
use Rattle.std.proofs.lemmas.List.{take_at}
use Rattle.btr_disk.specs.Bytes.{Image, Same, AreBytes}
use Rattle.btr_disk.specs.CallRecord.{contents_of, newest_first, replaced_before, IsUnsyncedAt, MayLeave}
use Rattle.btr_disk.specs.Replay.{WasAtLastSync}
use Rattle.btr_disk.proofs.ByteLemmas.{Same-is, SameBut-at, cases_range}
use Rattle.btr_disk.specs.declared.call_record.Call.{Call}
use Rattle.btr_disk.specs.declared.call_record.Call.TheVariants.{Nothing, Wrote, Synced}
use Rattle.btr_disk.specs.Fill.{FillsWhere, IsLooseAt, HasFill}
use Rattle.btr_disk.specs.declared.call_record.CallRecord.{CallRecord}
use Rattle.btr_disk.specs.declared.image.Fill.{Fill}
use Rattle.btr_disk.specs.declared.image.Fill.TheVariants.{Written, Kept, Zeros, Ones, Gates}

module _ (fill : Fill) (made : CallRecord) (old new : List ℕ) (it : FillsWhere fill (IsLooseAt made) old new) where
  pub filled_left : AreBytes (contents_of new) → MayLeave (contents_of old) (newest_first made) made.torn.flags.items (contents_of new)
  filled_left are = record { bytes = are; synced = λ k no whole. it.rest k (⊎_elim no whole) }

pub filled_has : (fill : Fill) (made : CallRecord) (old new : List ℕ) → (fill ≡ Written → ⊥) → (fill ≡ Kept → ⊥) → FillsWhere fill (IsLooseAt made) old new → HasFill fill (contents_of old) made (length old) (contents_of new)
filled_has Written made old new not nor it = absurd (not cc)
filled_has Kept made old new not nor it = absurd (nor cc)
filled_has Zeros made old new not nor it = it.filled
filled_has Ones made old new not nor it = it.filled
filled_has Gates made old new not nor it = it.filled

-- undoing the calls since the last sync changes no address that they did not write
undone_rest : (now image : Image) (calls : List Call) (replaced : List ℕ) → WasAtLastSync now calls replaced image → (k : ℕ) → (IsUnsyncedAt calls k → ⊥) → image k ≡ now k
undone_rest now image [] replaced was k out = was k
undone_rest now image (Nothing ∷ earlier) replaced was k out = undone_rest now image earlier replaced was k out
undone_rest now image (Wrote address n ∷ earlier) replaced was k out =
    undone_rest was.0 image earlier (replaced_before (Wrote address n) replaced) was.2 k (λ un. out (inr un))
    ∙ ⊎_elim (λ inside. absurd (out (inl inside))) (λ outside. SameBut-at address n now was.0 was.1.0 k outside) (cases_range address n k)
undone_rest now image (Synced ∷ earlier) replaced was k out = was k

pub undone_left : (made : CallRecord) (old new : List ℕ) → WasAtLastSync (contents_of old) (newest_first made) made.replaced.items (contents_of new) → AreBytes (contents_of new) → MayLeave (contents_of old) (newest_first made) made.torn.flags.items (contents_of new)
undone_left made old new was are =
    record { bytes = are; synced = λ k no whole. undone_rest (contents_of old) (contents_of new) (newest_first made) made.replaced.items was k no }

-- a device that was made of these bytes has the fill that they have
pub made_has : {D E : Type 0} (contents : D → Image) (r : Result D E) (fill : Fill) (now : Image) (made : CallRecord) (size : ℕ) (bytes : List ℕ) → HasFill fill now made size (contents_of bytes) → IfOk r (λ d. Same (contents_of bytes) (contents d)) → IfOk r (λ d. HasFill fill now made size (contents d))
made_has contents (Ok d) fill now made size bytes has same =
    subst (λ (x : Image). HasFill fill now made size x) (sym (Same-is (contents_of bytes) (contents d) same)) has
made_has contents (Err e) fill now made size bytes has same = cc

-- a copy of a list, with what a part of its memory then holds
pub taken_has : (fill : Fill) (made : CallRecord) (old now new rest : List ℕ) (n : ℕ) → now ≡ old → length new ≡ n → HasFill fill (contents_of now) made (length now) (contents_of new) → HasFill fill (contents_of old) made (length old) (contents_of (take n (new ++ rest)))
taken_has fill made old now new rest n copied size has =
    subst (λ (l : List ℕ). HasFill fill (contents_of l) made (length l) (contents_of (take n (new ++ rest)))) copied
    (subst (λ (l : List ℕ). HasFill fill (contents_of now) made (length now) (contents_of l)) (sym (take_at new rest n size)) has)
