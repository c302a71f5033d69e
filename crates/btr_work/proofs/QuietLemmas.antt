-- Lemmas on streams that entries leave alone: what holds of an output stays, if nothing is added to it and to its inputs.
use Rattle.std.specs.Prelude.{◌≡◌, ℕ, ◌+◌, ◌-◌, ◌<◌, List, [], ◌∷◌, ◌++◌, length, slice_get, slice_index_or, if◌then◌else◌, Option, Some, None}
use Rattle.std.specs.List.{filter_map, cons_option}
use Rattle.std.specs.Option.{option_map, unwrap_or}
use Rattle.std.proofs.Common.{zero, suc, refl, sym, ap, ◌∙◌, arith, append-nil}
use Rattle.btr_base.specs.Commit.{Change}
use Rattle.btr_hist.specs.declared.entry.Entry.{Entry}
use Rattle.btr_hist.specs.declared.kernel.Spec.{Spec}
use Rattle.btr_hist.specs.declared.kernel.Reads.{Reads}
use Rattle.btr_hist.specs.History.{change_of, read_of, commits, recorded, latest, reads, nothing_read, latest_reads, spec_of}
use Rattle.btr_hist.specs.Machine.{planned, same_reads}
use Rattle.btr_hist.proofs.HistoryLemmas.{commits-append, recorded-append}
use Rattle.btr_gate.specs.Prefixes.{StartsWith}
use Rattle.btr_gate.proofs.PrefixLemmas.{starts_length}
use Rattle.btr_plan.specs.Next.{IsUpToDate}

-- ---- entries

-- The entry is no commit of the stream.
pub record IsOther (stream : ℕ) (e : Entry) : Type 0 where
  pub change : change_of stream e ≡ None
  pub read : read_of stream e ≡ None

-- No entry of the history after the first ones is a commit of the stream.
abbrev pub Quiet : ℕ → List Entry → List Entry → Type 0
Quiet stream low h = (n : ℕ) → length low < n → (e : Entry) → slice_get h (n - 1) ≡ Some e → IsOther stream e

-- The stream has the same commits in both.
pub record Same (stream : ℕ) (a b : List Entry) : Type 0 where
  pub commits : commits b stream ≡ commits a stream
  pub recorded : recorded b stream ≡ recorded a stream

pub same_refl : (stream : ℕ) (a : List Entry) → Same stream a a
same_refl stream a = record { commits = refl; recorded = refl }

pub same_sym : (stream : ℕ) (a b : List Entry) → Same stream a b → Same stream b a
same_sym stream a b same = record { commits = sym same.commits; recorded = sym same.recorded }

pub same_trans : (stream : ℕ) (a b c : List Entry) → Same stream a b → Same stream b c → Same stream a c
same_trans stream a b c first second =
    record { commits = second.commits ∙ first.commits; recorded = second.recorded ∙ first.recorded }

none-of : {A : Type 0} (f : Entry → Option A) (rest : List Entry) → ((k : ℕ) (e : Entry) → slice_get rest k ≡ Some e → f e ≡ None) → filter_map f rest ≡ []
none-of f [] each = refl
none-of f (e ∷ rest) each =
    ap (λ o. cons_option o (filter_map f rest)) (each 0 e refl) ∙ none-of f rest (λ k x at. each (suc k) x at)

-- The entry at a place after the first ones.
pub get-after : (a rest : List Entry) (k : ℕ) → slice_get (a ++ rest) (length a + k) ≡ slice_get rest k
get-after [] rest k = ap (slice_get rest) (let e : 0 + k ≡ k = omega arith in e)
get-after (x ∷ a) rest k =
    ap (slice_get (x ∷ a ++ rest)) (let e : suc (length a) + k ≡ suc (length a + k) = omega arith in e) ∙ get-after a rest k

-- An entry of what begins a history.
pub get-before : (a rest : List Entry) (k : ℕ) → k < length a → slice_get (a ++ rest) k ≡ slice_get a k
get-before [] rest k low = absurd (omega arith)
get-before (x ∷ a) rest zero low = refl
get-before (x ∷ a) rest (suc k) low = get-before a rest k (omega arith)

-- There is no entry after the end.
pub get-past : (h : List Entry) (k : ℕ) (e : Entry) → slice_get h k ≡ Some e → k < length h
get-past [] k e at = absurd (cc)
get-past (x ∷ h) zero e at = omega arith
get-past (x ∷ h) (suc k) e at = omega (arith, get-past h k e at)

-- A stream that is left alone has the same commits.
pub quiet-same : (stream : ℕ) (low h : List Entry) → StartsWith h low → Quiet stream low h → Same stream low h
quiet-same stream low h starts quiet =
    let rest = starts.0 in
    let other : (k : ℕ) (e : Entry) → slice_get rest k ≡ Some e → IsOther stream e = λ k e at.
    let n : length low + k + 1 - 1 ≡ length low + k = omega arith in
    quiet (length low + k + 1) (omega arith) e (ap (slice_get h) n ∙ ap (λ l. slice_get l (length low + k)) starts.1 ∙ get-after low rest k ∙ at) in
    record {
      commits =
          ap (λ l. commits l stream) starts.1 ∙ commits-append low rest stream
          ∙ ap (λ l. commits low stream ++ l) (none-of (change_of stream) rest (λ k e at. (other k e at).change)) ∙ append-nil (commits low stream);
      recorded =
          ap (λ l. recorded l stream) starts.1 ∙ recorded-append low rest stream
          ∙ ap (λ l. recorded low stream ++ l) (none-of (read_of stream) rest (λ k e at. (other k e at).read)) ∙ append-nil (recorded low stream);
    }

-- It is left alone after more.
pub quiet-more : (stream : ℕ) (low more h : List Entry) → StartsWith more low → Quiet stream low h → Quiet stream more h
quiet-more stream low more h starts quiet n after = quiet n (omega (arith, after, starts_length more low starts))

-- It is left alone in less.
pub quiet-less : (stream : ℕ) (low less h : List Entry) → StartsWith h less → Quiet stream low h → Quiet stream low less
quiet-less stream low less h starts quiet n after e at =
    quiet n after e (ap (λ l. slice_get l (n - 1)) starts.1 ∙ get-before less starts.0 (n - 1) (get-past less (n - 1) e at) ∙ at)

-- ---- what stays

module _ (a b : List Entry) where
  pub latest-same : (stream : ℕ) → Same stream a b → latest b stream ≡ latest a stream
  latest-same stream same = ap (λ (l : List Change). length l) same.commits

  second-same : (second : Option ℕ) → ((s : ℕ) → second ≡ Some s → Same s a b) → option_map (λ s. latest b s) second ≡ option_map (λ s. latest a s) second
  second-same None each = refl
  second-same (Some s) each = ap (λ (n : ℕ). Some n) (latest-same s (each s refl))

  -- The inputs have the same commits.
  pub record SameInputs (spec : Spec) : Type 0 where
    pub first : Same spec.first a b
    pub second : (s : ℕ) → spec.second ≡ Some s → Same s a b

  pub latest_reads-same : (spec : Spec) → SameInputs spec → latest_reads b spec ≡ latest_reads a spec
  latest_reads-same spec same =
      let first = latest-same spec.first same.first in
      let second = second-same spec.second same.second in
      λ i. record { first = first i; second = second i }

  pub reads-same : (stream : ℕ) (spec : Spec) (version : ℕ) → Same stream a b → reads b stream spec version ≡ reads a stream spec version
  reads-same stream spec version same =
      ap (λ (l : List (Option Reads)). unwrap_or (slice_index_or (None ∷ l) version None) (nothing_read spec)) same.recorded

  -- The model plans the same.
  pub planned-same : (stream : ℕ) (spec : Spec) → Same stream a b → SameInputs spec → planned b stream spec ≡ planned a stream spec
  planned-same stream spec same inputs =
      let last = latest-same stream same in
      let has_read : reads b stream spec (latest b stream) ≡ reads a stream spec (latest a stream) =
      ap (reads b stream spec) last ∙ reads-same stream spec (latest a stream) same in
      let to_read = latest_reads-same spec inputs in
      λ i. if same_reads (has_read i) (to_read i) then None else Some (record { stream = stream; base = last i; reads = to_read i })

  -- An output that is up to date stays so.
  pub up_to_date-same : (stream version : ℕ) (is : IsUpToDate a stream version) → spec_of b stream ≡ Some is.spec → Same stream a b → SameInputs is.spec → IsUpToDate b stream version
  up_to_date-same stream version is output same inputs = record {
    spec = is.spec;
    output = output;
    nothing = planned-same stream is.spec same inputs ∙ is.nothing;
    latest = is.latest ∙ sym (latest-same stream same);
  }
