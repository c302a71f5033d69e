-- What the functions promise that test questions: which version and which range is asked, whether the version is retired, and when there
-- is no answer.
use Rattle.std.specs.Prelude.{◌≡◌, ℕ, ℤ, ◌<◌, ◌≤◌, Bool, true, false, List, length}
use Rattle.btr_base.specs.declared.point.Point.{Point}
use Rattle.btr_base.specs.Range.{RangeValue}
use Rattle.btr_hist.specs.declared.entry.Entry.{Entry}
use Rattle.btr_hist.specs.declared.answer.Answer.TheVariants.{Refused}
use Rattle.btr_hist.specs.declared.answer.Refusal.{Refusal}
use Rattle.btr_hist.specs.declared.answer.Refusal.TheVariants.{Retired}
use Rattle.btr_hist.specs.declared.answer.Rows.{Rows}
use Rattle.btr_hist.specs.declared.query.At.{At}
use Rattle.btr_hist.specs.declared.query.At.TheVariants.{Number, Latest}
use Rattle.btr_hist.specs.History.{ids, latest, earliest}
use Rattle.btr_hist.specs.Answer.{answer_from, answer_at, version_of, is_range}

-- The version that is asked, which the stream has.
pub record IsVersion (h : List Entry) (stream asked version : ℕ) : Type 0 where
  pub known : stream < length (ids h)
  pub made : version ≤ latest h stream
  pub same : version ≡ asked

-- The version that is asked, which the stream has and which is not retired.
pub record IsPresentVersion (h : List Entry) (stream asked version : ℕ) : Type 0 where
  pub has : IsVersion h stream asked version
  pub present : earliest h stream ≤ version

-- The version is the one of this number, if a number is asked.
abbrev pub IsNumbered : At → ℕ → Type 0
IsNumbered (Number number) version = version ≡ number
IsNumbered Latest version = Unit {0}

-- The range has the bounds that are asked, and they are good.
pub record IsAskedRange (from to : ℤ) (range : RangeValue) : Type 0 where
  pub good : is_range from to ≡ true
  pub is : range ≡ record { from = from; to = to }

-- The version with this number is retired, and the refusal says so.
abbrev pub RefusesRetired : List Entry → ℕ → ℕ → Refusal → Type 0
RefusesRetired h stream asked refusal = (asked < earliest h stream) × (refusal ≡ Retired asked (earliest h stream))

-- The refusal is the answer to each question about this version and about another one, which may be retired, whatever its rest is.
abbrev pub RefusesEach : List Entry → ℕ → At → Refusal → Type 0
RefusesEach h stream at refusal =
    (least : ℕ) (good : Bool) (rows : List Point → Rows) → Refused refusal ≡ answer_from h stream least (version_of h stream at) good rows

-- The refusal is the answer about this version, whatever the rest of the question is.
abbrev pub RefusesVersion : List Entry → ℕ → At → Refusal → Type 0
RefusesVersion h stream at refusal =
    (good : Bool) (rows : List Point → Rows) → Refused refusal ≡ answer_at h stream (version_of h stream at) good rows

-- The refusal is the answer about this version to each question that is bad if the range is.
abbrev pub RefusesRange : List Entry → ℕ → ℤ → ℤ → At → Refusal → Type 0
RefusesRange h stream from to at refusal =
    (good : Bool) (rows : List Point → Rows) → (is_range from to ≡ false → good ≡ false)
    → Refused refusal ≡ answer_at h stream (version_of h stream at) good rows
