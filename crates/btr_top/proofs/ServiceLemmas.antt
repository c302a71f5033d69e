-- Histories that serve a script: what is said of a history is said of those that it begins with, and of one with an entry more.
use Rattle.std.specs.Prelude.{◌≡◌, ℕ, ◌+◌, ◌<◌, ◌≤◌, ◌==◌, nat_le, true, false, List, [], ◌∷◌, ◌++◌, length, cond, None}
use Rattle.std.specs.List.{AllByRecursion}
use Rattle.std.proofs.Common.{refl, sym, ap, ◌∙◌, subst, arith, inl, inr, length-append}
use Rattle.std.proofs.lemmas.Bool.{cases_lt, le-leb, lt-leb}
use Rattle.btr_hist.specs.declared.entry.Entry.{Entry}
use Rattle.btr_hist.specs.Legal.{rejection, Follows}
use Rattle.btr_hist.proofs.HistoryLemmas.{follows-prefix, follows-push}
use Rattle.btr_engine.specs.Body.{needs_of}
use Rattle.btr_engine.proofs.NeedLemmas.{needs-push}
use Rattle.btr_gate.specs.Numbers.{one, total, times, given}
use Rattle.btr_gate.specs.Prefixes.{StartsWith}
use Rattle.btr_gate.proofs.NumberLemmas.{given_inside, given_below, given_above, given_more, one_other, times_append}
use Rattle.btr_gate.proofs.PrefixLemmas.{starts_refl, starts_trans, starts_length, starts_between, starts_more}
use Rattle.btr_jobs.specs.States.{StoreState}
use Rattle.btr_jobs.specs.Turns.{IsFull}
use Rattle.btr_load.proofs.TotalLemmas.{total_append}
use Rattle.btr_text.specs.declared.script.ScriptLine.{ScriptLine}
use Rattle.btr_top.specs.declared.live.FeedKind.{FeedKind}
use Rattle.btr_top.specs.Room.{Purpose, has_line, has_landing, IsFor, Service, IsServed, ServesScript, HasRoomForHistories}

-- ---- sums over services

-- How often services have a number, a line, and a landing.
abbrev pub counted : ℕ → List Service → ℕ
counted n services = total (λ (s : Service). one (s.number == n)) services

abbrev pub lines_had : ℕ → List Service → ℕ
lines_had place services = total (λ (s : Service). has_line place s.purpose) services

abbrev pub landings_had : ℕ → ℕ → List Service → ℕ
landings_had round output services = total (λ (s : Service). has_landing round output s.purpose) services

-- Services of two parts have the numbers of both, each line as often as both together, and no landing if neither has one.
pub counted_append : (a b : List Service) (own first rest : List ℕ) → own ≡ first ++ rest → ((n : ℕ) → counted n a ≡ times n first) → ((n : ℕ) → counted n b ≡ times n rest) → (n : ℕ) → counted n (a ++ b) ≡ times n own
counted_append a b own first rest is here later n =
    let sum = total_append (λ (s : Service). one (s.number == n)) a b in
    let same : times n own ≡ times n (first ++ rest) = ap (times n) is in
    omega (arith, sum, here n, later n, same, times_append n first rest)

pub lines_append : (place : ℕ) (a b : List Service) → lines_had place (a ++ b) ≡ lines_had place a + lines_had place b
lines_append place a b = total_append (λ (s : Service). has_line place s.purpose) a b

pub landings_none : (a b : List Service) → ((round output : ℕ) → landings_had round output a ≡ 0) → ((round output : ℕ) → landings_had round output b ≡ 0) → (round output : ℕ) → landings_had round output (a ++ b) ≡ 0
landings_none a b here later round output =
    let sum = total_append (λ (s : Service). has_landing round output s.purpose) a b in
    omega (arith, sum, here round output, later round output)

-- The services with numbers up to this one.
abbrev pub up_to : ℕ → List Service → List Service
up_to top [] = []
up_to top (s ∷ services) = cond (nat_le s.number top) (s ∷ up_to top services) (up_to top services)

pub up_to_least : (f : Service → ℕ) (top : ℕ) (services : List Service) → total f (up_to top services) ≤ total f services
up_to_least f top [] = omega arith
up_to_least f top (s ∷ services) =
    let rest = up_to_least f top services in
    elim (nat_le s.number top) as (λ b. total f (cond b (s ∷ up_to top services) (up_to top services)) ≤ f s + total f services) [
      | true ↦ omega (arith, rest)
      | false ↦ omega (arith, rest)
    ]

pub up_to_sum : (f : Service → ℕ) (top : ℕ) (a b : List Service) → total f (up_to top (a ++ b)) ≡ total f (up_to top a) + total f (up_to top b)
up_to_sum f top [] b = omega arith
up_to_sum f top (s ∷ a) b =
    let rest = up_to_sum f top a b in
    elim (nat_le s.number top) as (λ t. total f (cond t (s ∷ up_to top (a ++ b)) (up_to top (a ++ b))) ≡ total f (cond t (s ∷ up_to top a) (up_to top a)) + total f (up_to top b)) [
      | true ↦ omega (arith, rest)
      | false ↦ rest
    ]

-- All numbers are above this one.
abbrev pub Above : ℕ → List Service → Type 0
Above top services = AllByRecursion (λ (s : Service). top < s.number) services

pub up_to_above : (f : Service → ℕ) (top : ℕ) (services : List Service) → Above top services → total f (up_to top services) ≡ 0
up_to_above f top [] above = refl
up_to_above f top (s ∷ services) above =
    let rest = up_to_above f top services above.1 in
    ap (λ b. total f (cond b (s ∷ up_to top services) (up_to top services))) (lt-leb s.number top above.0) ∙ rest

pub above_lower : (low high : ℕ) (services : List Service) → low ≤ high → Above high services → Above low services
above_lower low high [] le above = tt
above_lower low high (s ∷ services) le above = let first = above.0 in (omega (arith, le, first), above_lower low high services le above.1)

pub above_append : (top : ℕ) (a b : List Service) → Above top a → Above top b → Above top (a ++ b)
above_append top [] b first second = second
above_append top (s ∷ a) b first second = (first.0, above_append top a b first.1 second)

counted_within : (n top : ℕ) (services : List Service) → n ≤ top → counted n (up_to top services) ≡ counted n services
counted_within n top [] within = refl
counted_within n top (s ∷ services) within =
    let rest = counted_within n top services within in
    elim (cases_lt top s.number) [
      | inl above ↦
          let other = one_other s.number n (λ same. absurd (omega (arith, same, above, within))) in
          ap (λ b. counted n (cond b (s ∷ up_to top services) (up_to top services))) (lt-leb s.number top above) ∙ (let e : counted n (up_to top services) ≡ one (s.number == n) + counted n services = omega (arith, rest, other) in e)
      | inr below ↦
          ap (λ b. counted n (cond b (s ∷ up_to top services) (up_to top services))) (le-leb s.number top below) ∙ ap (λ m. one (s.number == n) + m) rest
    ]

counted_beyond : (n top : ℕ) (services : List Service) → top < n → counted n (up_to top services) ≡ 0
counted_beyond n top [] beyond = refl
counted_beyond n top (s ∷ services) beyond =
    let rest = counted_beyond n top services beyond in
    elim (cases_lt top s.number) [
      | inl above ↦ ap (λ b. counted n (cond b (s ∷ up_to top services) (up_to top services))) (lt-leb s.number top above) ∙ rest
      | inr below ↦
          let other = one_other s.number n (λ same. absurd (omega (arith, same, below, beyond))) in
          ap (λ b. counted n (cond b (s ∷ up_to top services) (up_to top services))) (le-leb s.number top below) ∙ (let e : one (s.number == n) + counted n (up_to top services) ≡ 0 = omega (arith, rest, other) in e)
    ]

-- The services of a history with those numbers that a shorter one has.
counted_part : (n low top high : ℕ) (services : List Service) → top ≤ high → counted n services ≡ given low high n → counted n (up_to top services) ≡ given low top n
counted_part n low top high services part each =
    elim (cases_lt top n) [
      | inl beyond ↦ counted_beyond n top services beyond ∙ sym (given_above low top n beyond)
      | inr within ↦ counted_within n top services within ∙ each ∙ elim (cases_lt low n) [
        | inl inside ↦ given_inside low high n inside (omega (arith, within, part)) ∙ sym (given_inside low top n inside within)
        | inr outside ↦ given_below low high n outside ∙ sym (given_below low top n outside)
      ]
    ]

-- ---- what services are

module _ (feeds : FeedKind) (rounds : ℕ) (script : List ScriptLine) (low : List Entry) where
  abbrev pub Served : List Entry → Service → Type 0
  Served h s = IsServed feeds rounds script low h s

  served_shorter : (h p : List Entry) (s : Service) → StartsWith h p → s.number ≤ length p → Served h s → Served p s
  served_shorter h p s starts within is =
      let number = is.same_number in
      let long = length-append is.before (is.entry ∷ []) in
      record {
        before = is.before;
        entry = is.entry;
        there = starts_between h (is.before ++ is.entry ∷ []) p is.there starts (omega (arith, within, number, long));
        since = is.since;
        same_number = is.same_number;
        is_for = is.is_for;
      }

  pub served_longer : (h p : List Entry) (s : Service) → StartsWith h p → Served p s → Served h s
  served_longer h p s starts is = record {
    before = is.before;
    entry = is.entry;
    there = starts_trans h p (is.before ++ is.entry ∷ []) starts is.there;
    since = is.since;
    same_number = is.same_number;
    is_for = is.is_for;
  }

  pub served_append : (h : List Entry) (a b : List Service) → AllByRecursion (Served h) a → AllByRecursion (Served h) b → AllByRecursion (Served h) (a ++ b)
  served_append h [] b first second = second
  served_append h (s ∷ a) b first second = (first.0, served_append h a b first.1 second)

  served_part : (h p : List Entry) (e : Entry) (services : List Service) → StartsWith h p → AllByRecursion (Served h) services → AllByRecursion (Served (p ++ e ∷ [])) (up_to (length p) services)
  served_part h p e [] starts are = tt
  served_part h p e (s ∷ services) starts are =
      let rest = served_part h p e services starts are.1 in
      elim (cases_lt (length p) s.number) [
        | inl above ↦ subst (λ b. AllByRecursion (Served (p ++ e ∷ [])) (cond b (s ∷ up_to (length p) services) (up_to (length p) services))) (sym (lt-leb s.number (length p) above)) rest
        | inr below ↦ subst (λ b. AllByRecursion (Served (p ++ e ∷ [])) (cond b (s ∷ up_to (length p) services) (up_to (length p) services))) (sym (le-leb s.number (length p) below))
            (served_longer (p ++ e ∷ []) p s (e ∷ [], refl) (served_shorter h p s starts below are.0), rest)
      ]

  -- ---- one entry more

  module _ (h : List Entry) (follows : Follows h) (services : List Service) (each : (n : ℕ) → counted n services ≡ given (length low) (length h) n) (are : AllByRecursion (Served h) services) where
    -- The entry may follow `p` for this, for which nothing up to `p` is there.
    pub record IsNext (p : List Entry) (e : Entry) (purpose : Purpose) : Type 0 where
      pub starts : StartsWith h p
      pub since : StartsWith p low
      pub accepted : rejection p e ≡ None
      pub is_for : IsFor feeds rounds script low p e purpose
      pub new_line : (place : ℕ) → lines_had place (up_to (length p) services) + has_line place purpose ≤ 1
      pub new_landing : (round output : ℕ) → landings_had round output (up_to (length p) services) + has_landing round output purpose ≤ 1

    serves_next : (p : List Entry) (e : Entry) (purpose : Purpose) → IsNext p e purpose → ServesScript feeds rounds script low (p ++ e ∷ [])
    serves_next p e purpose is =
        let s : Service = record { number = length p + 1; purpose = purpose } in
        let some : List Service = up_to (length p) services in
        let long = length-append p (e ∷ []) in
        let here : Served (p ++ e ∷ []) s = record { before = p; entry = e; there = starts_refl (p ++ e ∷ []); since = is.since; same_number = refl; is_for = is.is_for } in
        record {
          begins = starts_more p low (e ∷ []) is.since;
          follows = follows-push p e (follows-prefix p is.starts.0 (subst Follows is.starts.1 follows)) is.accepted;
          services = some ++ s ∷ [];
          each = λ n.
              let sum = total_append (λ (x : Service). one (x.number == n)) some (s ∷ []) in
              let part = counted_part n (length low) (length p) (length h) services (starts_length h p is.starts) (each n) in
              let more = given_more (length low) (length p) n (starts_length p low is.since) in
              let whole : given (length low) (length (p ++ e ∷ [])) n ≡ given (length low) (length p + 1) n = ap (λ m. given (length low) m n) long in
              omega (arith, sum, part, more, whole);
          are = served_append (p ++ e ∷ []) some (s ∷ []) (served_part h p e services is.starts are) (here, tt);
          lines_once = λ place.
              let sum = total_append (λ (x : Service). has_line place x.purpose) some (s ∷ []) in
              let new = is.new_line place in
              omega (arith, sum, new);
          landings_once = λ round output.
              let sum = total_append (λ (x : Service). has_landing round output x.purpose) some (s ∷ []) in
              let new = is.new_landing round output in
              omega (arith, sum, new);
        }

    -- So it does not find the device full.
    pub never_full : (start : StoreState) (p : List Entry) (e : Entry) (purpose : Purpose) (need left : ℕ) → low ≡ start.history → HasRoomForHistories feeds rounds start script → IsNext p e purpose → IsFull start p e need left → ⊥
    never_full start p e purpose need left begins room is full =
        let serves : ServesScript feeds rounds script start.history (p ++ e ∷ []) = subst (λ (l : List Entry). ServesScript feeds rounds script l (p ++ e ∷ [])) begins (serves_next p e purpose is) in
        let fits : needs_of (p ++ e ∷ []) ≤ start.left + needs_of start.history = room (p ++ e ∷ []) serves in
        let whole = needs-push p e in
        let needed = full.need in
        let was = full.left in
        let short = full.short in
        omega (arith, fits, whole, needed, was, short)
