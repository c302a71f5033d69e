-- Lemmas on the answer at a version, if it is refused and if it is found.
use Rattle.std.specs.Prelude.{◌≡◌, ℕ, ℤ, Bool, ◌&&◌, List, Ok, Err}
use Rattle.std.proofs.Common.{sym, ap, ◌∙◌, SFits, w64, to_z, of_z}
use Rattle.std.proofs.lemmas.Int.{to_z-of_z}
use Rattle.btr_base.specs.declared.point.Point.{Point}
use Rattle.btr_hist.specs.declared.entry.Entry.{Entry}
use Rattle.btr_hist.specs.declared.answer.Answer.TheVariants.{Found, Refused}
use Rattle.btr_hist.specs.declared.answer.Refusal.{Refusal}
use Rattle.btr_hist.specs.declared.answer.Rows.{Rows}
use Rattle.btr_hist.specs.History.{bag}
use Rattle.btr_hist.specs.Answer.{answer_at, answer_from, is_range}
use Rattle.btr_hist.specs.Asked.{IsAsked}

-- The refusal of a question whose other numbers are tested in another way.
pub refused_from : (h : List Entry) (stream least version : ℕ) (good want : Bool) (rows : List Point → Rows) (r : Refusal) → good ≡ want → IsAsked h stream least version good (Err r) → Refused r ≡ answer_from h stream least version want rows
refused_from h stream least version good want rows r same asked =
    sym (asked rows) ∙ ap (λ t. answer_from h stream least version t rows) same

-- The rows of a version that is found.
pub found_from : (h : List Entry) (stream least version : ℕ) (good want : Bool) (rows : List Point → Rows) (v : ℕ) (all : Rows) → good ≡ want → IsAsked h stream least version good (Ok v) → all ≡ rows (bag h stream v) → Found v all ≡ answer_from h stream least version want rows
found_from h stream least version good want rows v all same asked is =
    ap (Found v) is ∙ sym (asked.2 rows) ∙ ap (λ t. answer_from h stream least version t rows) same

-- The refusal of a question that is about one version.
pub refused : (h : List Entry) (stream version : ℕ) (good want : Bool) (rows : List Point → Rows) (r : Refusal) → good ≡ want → IsAsked h stream version version good (Err r) → Refused r ≡ answer_at h stream version want rows
refused h stream version good want rows r same asked =
    refused_from h stream version version good want rows r same asked

-- The rows of the one version that a question is about.
pub found : (h : List Entry) (stream version : ℕ) (good want : Bool) (rows : List Point → Rows) (v : ℕ) (all : Rows) → good ≡ want → IsAsked h stream version version good (Ok v) → all ≡ rows (bag h stream v) → Found v all ≡ answer_at h stream version want rows
found h stream version good want rows v all same asked is =
    found_from h stream version version good want rows v all same asked is

-- The test of a range, with its bounds as machine words.
pub range_as_words : (from to : ℤ) (t : Bool) → SFits w64 from → SFits w64 to → t ≡ is_range (to_z w64 (of_z w64 from)) (to_z w64 (of_z w64 to)) → t ≡ is_range from to
range_as_words from to t h k e =
    e ∙ ap (λ z. is_range z (to_z w64 (of_z w64 to))) (to_z-of_z w64 from h) ∙ ap (is_range from) (to_z-of_z w64 to k)

-- The test of a range and another test, with the bounds as machine words.
pub tested_as_words : (from to : ℤ) (t other : Bool) → SFits w64 from → SFits w64 to → t ≡ (is_range (to_z w64 (of_z w64 from)) (to_z w64 (of_z w64 to)) && other) → t ≡ (is_range from to && other)
tested_as_words from to t other h k e =
    e ∙ ap (λ z. is_range z (to_z w64 (of_z w64 to)) && other) (to_z-of_z w64 from h) ∙ ap (λ z. is_range from z && other) (to_z-of_z w64 to k)
