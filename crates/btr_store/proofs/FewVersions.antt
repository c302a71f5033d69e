-- How many versions a stream has more, if few entries were added for it; and one call adds one entry at most for each output.
use Rattle.std.specs.Prelude.{◌≡◌, ◌≢◌, ◌⊎◌, ℕ, ◌+◌, ◌-◌, ◌<◌, ◌≤◌, ◌==◌, nat_lt, Bool, true, false, List, [], ◌∷◌, ◌++◌, length, slice_get, slice_index_or, Option, Some, None, Result, Ok, Err}
use Rattle.std.specs.List.{cons_option}
use Rattle.std.proofs.Common.{suc, sym, ap, ◌∙◌, subst, arith, inl, inr, length-append, append_assoc, append-nil}
use Rattle.std.proofs.lemmas.Bool.{cases_lt, cases_eq, lt-ltb, le-ltb}
use Rattle.btr_base.specs.Commit.{Change}
use Rattle.btr_hist.specs.declared.entry.Entry.{Entry}
use Rattle.btr_hist.specs.History.{change_of, latest}
use Rattle.btr_hist.proofs.HistoryLemmas.{latest-append}
use Rattle.btr_hist.proofs.VersionLemmas.{latest-silent}
use Rattle.btr_distil.specs.Plan.{PlanValue}
use Rattle.btr_streams.specs.declared.board.Receipt.{Receipt}
use Rattle.btr_gate.specs.Numbers.{one, total, times, given}
use Rattle.btr_gate.specs.Prefixes.{StartsWith}
use Rattle.btr_gate.proofs.NumberLemmas.{one_same, one_other, given_inside}
use Rattle.btr_gate.proofs.PrefixLemmas.{starts_refl, starts_trans, starts_length}
use Rattle.btr_hall.specs.declared.land.LandFault.{LandFault}
use Rattle.btr_hall.specs.declared.land.LandFault.TheVariants as faults
use Rattle.btr_jobs.specs.States.{StoreState, LogState}
use Rattle.btr_jobs.specs.Turns.{Landed}
use Rattle.btr_jobs.proofs.DoesLemmas.{in_sum}
use Rattle.btr_work.specs.declared.report.Refreshed.{Refreshed}
use Rattle.btr_work.specs.declared.report.Refreshed.TheVariants as results
use Rattle.btr_work.specs.Levels.{levels_of}
use Rattle.btr_work.specs.Laws.{AreAllSince}
use Rattle.btr_work.specs.Report.{IsPlanLanded, IsRefreshed, RefreshesLevels}
use Rattle.btr_work.specs.ReportLaws.{refreshed_lasts}
use Rattle.btr_work.proofs.MemberLemmas.{IsIn, IsInAny, Graded, graded-above}
use Rattle.btr_work.proofs.QuietLemmas.{IsOther, get-after, get-before, get-past}
use Rattle.btr_work.proofs.OwnLemmas.{Owns, each-owned, each-split, owns-lasts, owns-lowers, levels-owned}
use Rattle.btr_store.specs.Work.{last_number}

-- ---- the numbers of a list above another

abbrev above : ℕ → List ℕ → ℕ
above k ms = total (λ m. one (nat_lt k m)) ms

one_small : (b : Bool) → one b ≤ 1
one_small true = omega arith
one_small false = omega arith

above_few : (k : ℕ) (ms : List ℕ) → above k ms ≤ length ms
above_few k [] = omega arith
above_few k (m ∷ ms) = omega (arith, one_small (nat_lt k m), above_few k ms)

next_number : (k m : ℕ) → one (nat_lt k m) ≡ one (nat_lt (k + 1) m) + one (m == k + 1)
next_number k m =
    elim (cases_lt k m) [
      | inl more ↦
          let first : one (nat_lt k m) ≡ 1 = ap one (lt-ltb k m more) in
          elim (cases_eq m (k + 1)) [
            | inl same ↦
                let second : one (nat_lt (k + 1) m) ≡ 0 = ap one (le-ltb (k + 1) m (omega (arith, same))) in
                omega (arith, first, second, one_same m (k + 1) same)
            | inr differs ↦
                let far : k + 1 < m =
                elim (cases_lt (k + 1) m) [
                  | inl is ↦ is
                  | inr not ↦ absurd (differs (let e : m ≡ k + 1 = omega (arith, more, not) in e))
                ] in
                let second : one (nat_lt (k + 1) m) ≡ 1 = ap one (lt-ltb (k + 1) m far) in
                omega (arith, first, second, one_other m (k + 1) differs)
          ]
      | inr less ↦
          let first : one (nat_lt k m) ≡ 0 = ap one (le-ltb k m less) in
          let second : one (nat_lt (k + 1) m) ≡ 0 = ap one (le-ltb (k + 1) m (omega (arith, less))) in
          let third : one (m == k + 1) ≡ 0 = one_other m (k + 1) (λ same. absurd (omega (arith, less, same))) in
          omega (arith, first, second, third)
    ]

above_next : (k : ℕ) (ms : List ℕ) → above k ms ≡ above (k + 1) ms + times (k + 1) ms
above_next k [] = omega arith
above_next k (m ∷ ms) = omega (arith, next_number k m, above_next k ms)

-- ---- versions

one_at_most : (o : Option Change) → length (cons_option o []) ≤ 1
one_at_most None = omega arith
one_at_most (Some c) = omega arith

-- An entry adds one version at most.
pub latest_push-few : (h : List Entry) (e : Entry) (stream : ℕ) → latest (h ++ e ∷ []) stream ≤ latest h stream + 1
latest_push-few h e stream = omega (arith, latest-append h (e ∷ []) stream, one_at_most (change_of stream e))

-- Each entry of the history after the first ones is no commit of the stream, except those of these numbers.
abbrev pub IsQuietBut : ℕ → List ℕ → List Entry → List Entry → Type 0
IsQuietBut stream mine low h =
    (n : ℕ) → length low < n → times n mine ≡ 0 → (e : Entry) → slice_get h (n - 1) ≡ Some e → IsOther stream e

few_from : (stream : ℕ) (mine : List ℕ) (low rest : List Entry) → IsQuietBut stream mine low (low ++ rest) → latest (low ++ rest) stream ≤ latest low stream + above (length low) mine
few_from stream mine low [] quiet = omega (arith, ap (λ (l : List Entry). latest l stream) (append-nil low))
few_from stream mine low (e ∷ rest) quiet =
    let next : List Entry = low ++ e ∷ [] in
    let n : ℕ = length low + 1 in
    let is : low ++ e ∷ rest ≡ next ++ rest = sym (append_assoc low (e ∷ []) rest) in
    let long : length next ≡ n = length-append low (e ∷ []) in
    let more : latest (next ++ rest) stream ≤ latest next stream + above (length next) mine = few_from stream mine next rest
    (λ m after none f at. quiet m (omega (arith, after, long)) none f (ap (λ (l : List Entry). slice_get l (m - 1)) is ∙ at)) in
    let last : above (length next) mine ≡ above n mine = ap (λ (k : ℕ). above k mine) long in
    let whole : latest (low ++ e ∷ rest) stream ≡ latest (next ++ rest) stream = ap (λ (l : List Entry). latest l stream) is in
    let here : latest next stream ≤ latest low stream + times n mine =
    elim (cases_lt 0 (times n mine)) [
      | inl some ↦ omega (arith, some, latest_push-few low e stream)
      | inr none ↦
          let place : n - 1 ≡ length low + 0 = omega arith in
          let at : slice_get (low ++ e ∷ rest) (n - 1) ≡ Some e = ap (slice_get (low ++ e ∷ rest)) place ∙ get-after low (e ∷ rest) 0 in
          omega (arith, latest-silent low e stream (quiet n (omega arith) (omega (arith, none)) e at).change)
    ] in
    omega (arith, more, last, whole, here, above_next (length low) mine)

-- It has at most as many versions more as there are such numbers.
pub few-versions : (stream : ℕ) (mine : List ℕ) (low h : List Entry) → StartsWith h low → IsQuietBut stream mine low h → latest h stream ≤ latest low stream + length mine
few-versions stream mine low h starts quiet =
    let few : latest (low ++ starts.0) stream ≤ latest low stream + above (length low) mine =
    few_from stream mine low starts.0 (subst (λ (l : List Entry). IsQuietBut stream mine low l) starts.1 quiet) in
    omega (arith, few, ap (λ (l : List Entry). latest l stream) starts.1, above_few (length low) mine)

-- ---- what one call adds for an output

-- The numbers that are not among these are those of entries for other outputs.
abbrev pub AreOfOthers : ℕ → LogState → List Entry → List ℕ → List ℕ → Type 0
AreOfOthers output log low own mine =
    (n : ℕ) → 0 < times n own → times n mine ≡ 0 → (other : ℕ) × (other ≢ output) × Owns other log low n

module _ (start : StoreState) (result : ℕ → Refreshed) where
  -- What became of an output, with the numbers of what was added for it. All others are those of entries for other outputs.
  pub record IsOwnOf (log : LogState) (low : List Entry) (output : ℕ) (own : List ℕ) : Type 0 where
    pub here : List Entry
    pub begins : StartsWith here low
    pub mine : List ℕ
    pub refreshed : IsRefreshed start log here output (result output) mine
    pub others : AreOfOthers output log low own mine

  module _ (seen : List Entry) where
    abbrev of : ℕ → ℕ
    of stream = slice_index_or (levels_of seen) stream 0

    -- Each output of the levels is in one of them, once.
    pub own-in : (base : ℕ) (low : List Entry) (levels : List (List ℕ)) (late : LogState) (own : List ℕ) → Graded (levels_of seen) base levels → RefreshesLevels start low result levels late own → (output : ℕ) → IsInAny output levels → IsOwnOf late low output own
    own-in base low [] late own graded refreshes output any = absurd any
    own-in base low (level ∷ levels) late own graded refreshes output (inl here) =
        let middle = refreshes.0 in
        let split = each-split start middle low result level refreshes.3 output refreshes.5 graded.1 here in
        record {
          here = low;
          begins = starts_refl low;
          mine = split.mine;
          refreshed = refreshed_lasts start late middle low output (result output) split.mine refreshes.1 split.refreshed;
          others = λ n some none.
              elim (in_sum n own refreshes.3 refreshes.4 (refreshes.7 n) some) [
                | inl first ↦
                    let r = split.owned n (omega (arith, first, none, split.sum n)) in
                    (r.0, r.2, owns-lasts start late middle low r.0 n refreshes.1 r.3)
                | inr rest ↦
                    let r = levels-owned start result middle.history levels late refreshes.4 refreshes.6 n rest in (
                      r.0,
                      (λ same.
                          let after = graded-above (levels_of seen) (suc base) levels r.0 graded.2 r.1 in
                          absurd (omega (arith, after, graded.0 output here, ap of same))),
                      owns-lowers late middle.history low r.0 n refreshes.2 r.2,
                    )
              ];
        }
    own-in base low (level ∷ levels) late own graded refreshes output (inr later) =
        let middle = refreshes.0 in
        let is = own-in (suc base) middle.history levels late refreshes.4 graded.2 refreshes.6 output later in
        record {
          here = is.here;
          begins = starts_trans is.here middle.history low is.begins refreshes.2;
          mine = is.mine;
          refreshed = is.refreshed;
          others = λ n some none.
              elim (in_sum n own refreshes.3 refreshes.4 (refreshes.7 n) some) [
                | inl first ↦
                    let r = each-owned start middle low result level refreshes.3 refreshes.5 n first in (
                      r.0,
                      (λ same.
                          let after = graded-above (levels_of seen) (suc base) levels output graded.2 later in
                          absurd (omega (arith, after, graded.0 r.0 r.1, ap of same))),
                      owns-lasts start late middle low r.0 n refreshes.1 r.2,
                    )
                | inr rest ↦
                    let r = is.others n rest none in
                    (r.0, r.1, owns-lowers late middle.history low r.0 n refreshes.2 r.2)
              ];
        }

-- Of each output one number at most was added.
landed-few : (start : StoreState) (log : LogState) (p : List Entry) (plan : PlanValue) (result : Result Receipt LandFault) (own : List ℕ) (next : List Entry) → Landed start log p plan result own next → length own ≤ 1
landed-few start log p plan (Ok receipt) own next is = omega (arith, ap (length {A = ℕ}) is.2.own)
landed-few start log p plan (Err (faults.Stopped entries)) own next is = omega (arith, ap (length {A = ℕ}) is.1.own)
landed-few start log p plan (Err faults.Sealed) own next is = omega (arith, ap (length {A = ℕ}) is.1.own)
landed-few start log p plan (Err (faults.Superseded version)) own next is = omega (arith, ap (length {A = ℕ}) is.3.own)
landed-few start log p plan (Err faults.VersionLimit) own next is = omega (arith, ap (length {A = ℕ}) is.2.own)
landed-few start log p plan (Err (faults.Crowded at)) own next is = omega (arith, ap (length {A = ℕ}) is.3.own)
landed-few start log p plan (Err (faults.TooManyPoints count)) own next is = omega (arith, ap (length {A = ℕ}) is.3.own)
landed-few start log p plan (Err faults.Want) own next is = omega (arith, ap (length {A = ℕ}) is.2.own)
landed-few start log p plan (Err (faults.DeviceFull need left)) own next is = omega (arith, ap (length {A = ℕ}) is.3.own)
landed-few start log p plan (Err faults.DeviceFault) own next is = omega (arith, ap (length {A = ℕ}) is.2.own)

module _ (start : StoreState) (log : LogState) (low : List Entry) (output : ℕ) (own : List ℕ) where
  plan-few : (result : Result Receipt LandFault) → IsPlanLanded start log low output result own → length own ≤ 1
  plan-few result is = landed-few start log is.landed.0 is.plan result own is.next is.landed.3

  refreshed-few : (result : Refreshed) → IsRefreshed start log low output result own → length own ≤ 1
  refreshed-few (results.Landed version) is = plan-few (Ok is.0) is.2
  refreshed-few (results.Current version) is = omega (arith, ap (length {A = ℕ}) is.none)
  refreshed-few (results.Refused (faults.Stopped entries)) is = plan-few (Err (faults.Stopped entries)) is
  refreshed-few (results.Refused faults.Sealed) is = plan-few (Err faults.Sealed) is
  refreshed-few (results.Refused (faults.Superseded version)) is = plan-few (Err (faults.Superseded version)) is
  refreshed-few (results.Refused faults.VersionLimit) is = plan-few (Err faults.VersionLimit) is
  refreshed-few (results.Refused (faults.Crowded at)) is = plan-few (Err (faults.Crowded at)) is
  refreshed-few (results.Refused (faults.TooManyPoints count)) is = plan-few (Err (faults.TooManyPoints count)) is
  refreshed-few (results.Refused faults.Want) is = omega (arith, ap (length {A = ℕ}) is)
  refreshed-few (results.Refused (faults.DeviceFull need left)) is = plan-few (Err (faults.DeviceFull need left)) is
  refreshed-few (results.Refused faults.DeviceFault) is = plan-few (Err faults.DeviceFault) is

in-or-not : (x : ℕ) (xs : List ℕ) → IsIn x xs ⊎ (IsIn x xs → ⊥)
in-or-not x [] = inr (λ is. is)
in-or-not x (y ∷ xs) =
    elim (cases_eq x y) [
      | inl same ↦ inl (inl same)
      | inr differs ↦
          elim (in-or-not x xs) [
            | inl later ↦ inl (inr later)
            | inr not ↦ inr (neither x y xs differs not)
          ]
    ]
  where
    neither : (x y : ℕ) (xs : List ℕ) → x ≢ y → (IsIn x xs → ⊥) → IsIn x (y ∷ xs) → ⊥
    neither x y xs differs not (inl same) = differs same
    neither x y xs differs not (inr later) = not later

any-or-not : (x : ℕ) (ls : List (List ℕ)) → IsInAny x ls ⊎ (IsInAny x ls → ⊥)
any-or-not x [] = inr (λ is. is)
any-or-not x (l ∷ ls) =
    elim (in-or-not x l) [
      | inl here ↦ inl (inl here)
      | inr none ↦
          elim (any-or-not x ls) [
            | inl later ↦ inl (inr later)
            | inr not ↦ inr (neither x l ls none not)
          ]
    ]
  where
    neither : (x : ℕ) (l : List ℕ) (ls : List (List ℕ)) → (IsIn x l → ⊥) → (IsInAny x ls → ⊥) → IsInAny x (l ∷ ls) → ⊥
    neither x l ls none not (inl here) = none here
    neither x l ls none not (inr later) = not later

-- For each stream one number at most was added.
pub one-each : (start : StoreState) (result : ℕ → Refreshed) (seen : List Entry) (levels : List (List ℕ)) (log : LogState) (own : List ℕ) → Graded (levels_of seen) 1 levels → RefreshesLevels start seen result levels log own → (stream : ℕ) → (mine : List ℕ) × (length mine ≤ 1) × AreOfOthers stream log seen own mine
one-each start result seen levels log own graded refreshes stream =
    elim (any-or-not stream levels) [
      | inl any ↦
          let is = own-in start result seen 1 seen levels log own graded refreshes stream any in
          (is.mine, refreshed-few start log is.here stream is.mine (result stream) is.refreshed, is.others)
      | inr not ↦ (
        [],
        omega arith,
        λ n some none.
            let r = levels-owned start result seen levels log own refreshes n some in
            (r.0, (λ same. not (subst (λ s. IsInAny s levels) same r.1)), r.2),
      )
    ]

-- If all numbers since a history are those of a call, a stream has at most as many versions more as its own numbers.
pub versions-since : (low seen : List Entry) (log : LogState) (own : List ℕ) → AreAllSince low log own → (stream : ℕ) (mine : List ℕ) → AreOfOthers stream log seen own mine → (p : List Entry) → StartsWith log.history p → StartsWith p low → latest p stream ≤ latest low stream + length mine
versions-since low seen log own each stream mine others p starts begins =
    few-versions stream mine low p begins
    (λ n after none e at.
    let inside = get-past p (n - 1) e at in
    let within = starts_length log.history p starts in
    let whole : slice_get log.history (n - 1) ≡ Some e = ap (λ (l : List Entry). slice_get l (n - 1)) starts.1 ∙ get-before p starts.0 (n - 1) inside ∙ at in
    let listed : given (length low) (last_number log) n ≡ 1 = given_inside (length low) (last_number log) n after (omega (arith, inside, within)) in
    let r = others n (omega (arith, each n, listed)) none in
    r.2.other e whole stream r.1)
