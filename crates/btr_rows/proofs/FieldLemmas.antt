-- Lemmas on the fields of a record, which are read one at a time.
use Rattle.std.proofs.Common.{◌≡◌, ℕ, zero, suc, ℤ, ◌<◌, List, [], ◌∷◌, length, Option, Some, None, refl, arith}
use Rattle.csv.specs.Records.{field_at}
use Rattle.btr_rows.specs.Row.{first_reason}
use Rattle.btr_rows.proofs.SmallLemmas.{some_equal}

-- Three fields that were looked up are all of a record of three fields.
pub three_fields : (fields : List (List ℕ)) (a b c : List ℕ) → length fields ≡ 3
    → Some a ≡ field_at fields 0 → Some b ≡ field_at fields 1 → Some c ≡ field_at fields 2 → fields ≡ a ∷ b ∷ c ∷ []
unfolding field_at
three_fields [] a b c h p q r = absurd (omega arith)
three_fields (x ∷ []) a b c h p q r = absurd (omega arith)
three_fields (x ∷ y ∷ []) a b c h p q r = absurd (omega arith)
three_fields (x ∷ y ∷ z ∷ []) a b c h p q r = rw (some_equal p, some_equal q, some_equal r) refl
three_fields (x ∷ y ∷ z ∷ w ∷ rest) a b c h p q r = absurd (omega arith)

-- A field below the number of fields is there.
pub field_there : (fields : List (List ℕ)) (i : ℕ) → i < length fields → field_at fields i ≡ None → ⊥
unfolding field_at
field_there [] i h e = absurd (omega arith)
field_there (x ∷ fields) zero h e = cc e
field_there (x ∷ fields) (suc i) h e = field_there fields i (omega arith) e

-- Equal values give equal answers.
pub same-reason : (id id' : Option ℕ) (time time' value value' : Option ℤ) → id ≡ id' → time ≡ time' → value ≡ value' → first_reason id time value ≡ first_reason id' time' value'
same-reason id id' time time' value value' e f g = rw (e, f, g) refl
