-- What the plain program has found out of a question before it looks at the points.
use Rattle.std.specs.Prelude.{◌≡◌, ℕ, Bool, true, List, Result, Ok, Err}
use Rattle.btr_base.specs.declared.point.Point.{Point}
use Rattle.btr_hist.specs.declared.entry.Entry.{Entry}
use Rattle.btr_hist.specs.declared.answer.Answer.TheVariants.{Found, Refused}
use Rattle.btr_hist.specs.declared.answer.Refusal.{Refusal}
use Rattle.btr_hist.specs.declared.answer.Rows.{Rows}
use Rattle.btr_hist.specs.History.{bag}
use Rattle.btr_hist.specs.Answer.{answer_from}

-- An `Ok` is the version that was asked for, and its rows are the answer. An `Err` is the answer, whatever rows were asked for.
abbrev pub IsAsked : List Entry → ℕ → ℕ → ℕ → Bool → Result ℕ Refusal → Type 0
IsAsked h stream least version good (Ok v) =
    (v ≡ version) × (good ≡ true)
    × ((rows : List Point → Rows) → answer_from h stream least version good rows ≡ Found v (rows (bag h stream v)))
IsAsked h stream least version good (Err r) =
    (rows : List Point → Rows) → answer_from h stream least version good rows ≡ Refused r
