-- The answer to a question: by the version that is asked, by whether the question is good, and by the tree of the version.
use Rattle.std.specs.Prelude.{◌≡◌, ℕ, ◌+◌, ◌-◌, ◌^◌, ◌<◌, ◌≤◌, ℤ, nat_le, nat_lt, Bool, true, false, List, [], ◌∷◌, ◌++◌, length, take, cond, slice_get, Option, Some, is_some}
use Rattle.std.proofs.Common.{zero, suc, refl, sym, ap, ◌∙◌, arith, subst}
use Rattle.std.proofs.lemmas.List.{take_more}
use Rattle.std.proofs.lemmas.Option.{slice_get_within, get_or_from_slice_get}
use Rattle.std.proofs.lemmas.Bool.{lt-leb, le-ltb, lt-ltb, le-leb, and_from}
use Rattle.btr_base.specs.declared.limits.TheConstants.{FIRST, END}
use Rattle.btr_base.specs.declared.point.Point.{Point}
use Rattle.btr_base.specs.Range.{RangeValue}
use Rattle.btr_base.specs.Agg.{agg, agg_within}
use Rattle.btr_base.proofs.WithinLemmas.{within-all}
use Rattle.btr_base.specs.Point.{AreInDomain}
use Rattle.btr_hist.specs.declared.entry.Entry.{Entry}
use Rattle.btr_hist.specs.declared.answer.Answer.TheVariants.{Found, Refused}
use Rattle.btr_hist.specs.declared.answer.Refusal.TheVariants.{NoStream, NoVersion, Retired, BadRange}
use Rattle.btr_hist.specs.declared.answer.Rows.{Rows}
use Rattle.btr_hist.specs.declared.answer.StreamRow.{StreamRow}
use Rattle.btr_hist.specs.declared.kernel.Spec.{Spec}
use Rattle.btr_hist.specs.History.{ids, is_output, latest, bag, earliest}
use Rattle.btr_hist.specs.Answer.{answer_from, answer_at, is_range, is_power, is_width, rows_from}
use Rattle.btr_streams.specs.Board.{Versions, Kept, IsBoardOf}
use Rattle.btr_streams.specs.Answering.{IsVersion, IsPresentVersion, IsAskedRange}
use Rattle.btr_streams.proofs.BoardNext.{kept-stream}

-- ---- a version that a stream has

module _ (h : List Entry) (stream asked least : ℕ) (is_there : stream < length (ids h)) (made : asked ≤ latest h stream) where
  -- The answer depends on whether the least version is retired.
  answer-made : (retired : Bool) → nat_lt least (earliest h stream) ≡ retired → (good : Bool) (rows : List Point → Rows) → answer_from h stream least asked good rows ≡ cond retired (Refused (Retired least (earliest h stream))) (cond good (Found asked (rows (bag h stream asked))) (Refused BadRange))
  answer-made retired found good rows =
      let reported = cond good (Found asked (rows (bag h stream asked))) (Refused BadRange) in
      let kept_or = λ (t : Bool). cond t (Refused (Retired least (earliest h stream))) reported in
      let late = nat_lt least (earliest h stream) in
      ap (λ t. cond t (Refused NoStream) (cond (nat_lt (latest h stream) asked) (Refused (NoVersion asked (latest h stream))) (kept_or late))) (lt-leb (length (ids h)) stream is_there)
      ∙ ap (λ t. cond t (Refused (NoVersion asked (latest h stream))) (kept_or late)) (le-ltb (latest h stream) asked made)
      ∙ ap kept_or found

  -- The answer for a good question, and for a bad one.
  pub answer-there : earliest h stream ≤ least → (good : Bool) (rows : List Point → Rows) → answer_from h stream least asked good rows ≡ cond good (Found asked (rows (bag h stream asked))) (Refused BadRange)
  answer-there present good rows = answer-made false (le-ltb least (earliest h stream) present) good rows

  -- A question about a retired version is refused.
  pub answer-retired : least < earliest h stream → (good : Bool) (rows : List Point → Rows) → answer_from h stream least asked good rows ≡ Refused (Retired least (earliest h stream))
  answer-retired late good rows = answer-made true (lt-ltb least (earliest h stream) late) good rows

module _ (h : List Entry) (stream version asked : ℕ) (there : IsVersion h stream asked version) (least : ℕ) (present : earliest h stream ≤ least) where
  good_or_bad : (good : Bool) (rows : List Point → Rows) → answer_from h stream least asked good rows ≡ cond good (Found asked (rows (bag h stream asked))) (Refused BadRange)
  good_or_bad good rows =
      answer-there h stream asked least there.known (omega (arith, there.made, there.same)) present good rows

  -- A bad question is refused.
  pub refused-from : (good : Bool) (rows : List Point → Rows) → good ≡ false → Refused BadRange ≡ answer_from h stream least asked good rows
  refused-from good rows bad =
      sym (good_or_bad good rows ∙ ap (λ t. cond t (Found asked (rows (bag h stream asked))) (Refused BadRange)) bad)

  -- The rows of a good question are those of the version's points.
  pub found-from : (good : Bool) (rows : List Point → Rows) (x : Rows) → good ≡ true → x ≡ rows (bag h stream version) → Found version x ≡ answer_from h stream least asked good rows
  found-from good rows x is_good is =
      ap (Found version) is
      ∙ ap (λ v. Found v (rows (bag h stream v))) there.same
      ∙ sym (good_or_bad good rows ∙ ap (λ t. cond t (Found asked (rows (bag h stream asked))) (Refused BadRange)) is_good)

-- The same of a question about one version.
module _ (h : List Entry) (stream version asked : ℕ) (there : IsPresentVersion h stream asked version) where
  present_asked : earliest h stream ≤ asked
  present_asked = omega (arith, there.present, there.has.same)

  pub refused : (good : Bool) (rows : List Point → Rows) → good ≡ false → Refused BadRange ≡ answer_at h stream asked good rows
  refused good rows bad = refused-from h stream version asked there.has asked present_asked good rows bad

  pub found : (good : Bool) (rows : List Point → Rows) (x : Rows) → good ≡ true → x ≡ rows (bag h stream version) → Found version x ≡ answer_at h stream asked good rows
  found good rows x is_good is = found-from h stream version asked there.has asked present_asked good rows x is_good is

-- ---- ranges

-- What holds of the bounds holds of equal ones.
module _ {a b : ℤ} (from to : ℤ) (begins : a ≡ from) (ends : b ≡ to) where
  pub asked_range : (r : RangeValue) → IsAskedRange a b r → IsAskedRange from to r
  asked_range r is = subst (λ x. IsAskedRange x to r) begins (subst (λ y. IsAskedRange a y r) ends is)

  pub bad_range : is_range a b ≡ false → is_range from to ≡ false
  bad_range bad = subst (λ x. is_range x to ≡ false) begins (subst (λ y. is_range a y ≡ false) ends bad)

-- ---- powers and widths

pub power_good : (p : ℕ) → p ≤ 62 → is_power p ≡ true
power_good p few = le-leb p 62 few

pub width_good : (width : ℕ) → 1 ≤ width → width ≤ 2 ^ 62 → is_width width ≡ true
width_good width some few = and_from (nat_le 1 width) (nat_le width (2 ^ 62)) (le-leb 1 width some) (le-leb width (2 ^ 62) few)

-- ---- all points of a version

pub within_domain : (b : List Point) → AreInDomain b → agg b ≡ agg_within FIRST END b
within_domain b times = ap agg (sym (within-all FIRST END b times))

-- ---- the rows of all streams

pub length-rows : (h : List Entry) (n : ℕ) (l : List ℕ) → length (rows_from h n l) ≡ length l
length-rows h n [] = refl
length-rows h n (id ∷ l) = ap (λ (k : ℕ). suc k) (length-rows h (n + 1) l)

-- The row at an index.
pub row-at : (h : List Entry) (n i id : ℕ) (l : List ℕ) → slice_get l i ≡ Some id → slice_get (rows_from h n l) i ≡ Some (record { id = id; latest = latest h (n + i); output = is_output h (n + i) })
row-at h n i id [] at = absurd (cc)
row-at h n zero id (x ∷ l) at =
    let same : x ≡ id = cc in
    let place : n ≡ n + 0 = omega arith in
    ap (λ (y : ℕ). Some (record { id = y; latest = latest h n; output = is_output h n })) same ∙ ap (λ (k : ℕ). Some (record { id = id; latest = latest h k; output = is_output h k })) place
row-at h n (suc i) id (x ∷ l) at =
    let place : (n + 1) + i ≡ n + suc i = omega arith in
    row-at h (n + 1) i id l at ∙ ap (λ k. Some (record { id = id; latest = latest h k; output = is_output h k })) place

-- The rows up to an index, and one more.
pub rows-next : (rows : List StreamRow) (i : ℕ) (r : StreamRow) → slice_get rows i ≡ Some r → take (i + 1) rows ≡ take i rows ++ r ∷ []
rows-next rows i r at =
    take_more rows i r (slice_get_within rows i r at) ∙ ap (λ x. take i rows ++ x ∷ []) (get_or_from_slice_get rows i r r at)

-- The row of a stream of the board.
pub row-kept : (h : List Entry) (b : Kept) (i : ℕ) (kept : Versions) → IsBoardOf h b → slice_get b.streams i ≡ Some kept → slice_get (rows_from h 0 (ids h)) i ≡ Some (record { id = kept.id; latest = length kept.trees - 1; output = is_some kept.spec })
row-kept h b i kept of at =
    let is = (kept-stream h b i kept of at).1 in
    let here : 0 + i ≡ i = omega arith in
    let last : latest h i ≡ length kept.trees - 1 = let counted = is.kept.counted in omega arith in
    row-at h 0 i kept.id (ids h) is.named
    ∙ ap (λ (n : ℕ). Some (record { id = kept.id; latest = latest h n; output = is_output h n })) here
    ∙ ap (λ (n : ℕ). Some (record { id = kept.id; latest = n; output = is_output h i })) last
    ∙ ap (λ (o : Option Spec). Some (record { id = kept.id; latest = length kept.trees - 1; output = is_some o })) is.defined
