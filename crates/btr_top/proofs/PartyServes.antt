-- What the rounds beside the lanes add serves the script: each round lands each output once at most.
use Rattle.std.specs.Prelude.{◌≡◌, ℕ, ◌<◌, ◌≤◌, ◌==◌, false, List, [], ◌∷◌, ◌++◌, length, slice_index_or, None}
use Rattle.std.specs.List.{AllByRecursion}
use Rattle.std.proofs.Common.{zero, suc, refl, sym, ap, arith, inl, inr}
use Rattle.std.proofs.lemmas.Bool.{cases_eq}
use Rattle.btr_hist.specs.declared.entry.Entry.{Entry}
use Rattle.btr_hist.specs.Legal.{Follows}
use Rattle.btr_gate.specs.Numbers.{one, times, total}
use Rattle.btr_gate.specs.Prefixes.{StartsWith}
use Rattle.btr_gate.proofs.PrefixLemmas.{starts_refl, starts_trans}
use Rattle.btr_jobs.specs.States.{StoreState, LogState, GoesOn}
use Rattle.btr_jobs.specs.TurnLaws.{goes_trans}
use Rattle.btr_load.proofs.TotalLemmas.{total_append}
use Rattle.btr_text.specs.declared.script.ScriptLine.{ScriptLine}
use Rattle.btr_live.specs.Rounds.{MakesRound, MakesRounds}
use Rattle.btr_top.specs.declared.live.FeedKind.{FeedKind}
use Rattle.btr_top.specs.Room.{has_line, has_landing, Service}
use Rattle.btr_top.proofs.ServiceLemmas.{counted, lines_had, landings_had, Served, served_append}
use Rattle.btr_top.proofs.RoundServes.{RoundServes, no_round, any_round}
use Rattle.btr_top.proofs.HistoriesFit.{PartiesServe, no_party}

module _ (feeds : FeedKind) (rounds : ℕ) (script : List ScriptLine) (start : StoreState) (log : LogState) (running : start.stopped ≡ false) (sound : log.failed ≡ None) (follows : Follows log.history) (begins : StartsWith log.history start.history) where
  abbrev low : List Entry
  low = start.history

  -- Rounds with the numbers from 1 up to this one.
  record RoundsServe (count : ℕ) (own : List ℕ) : Type 0 where
    services : List Service
    numbers : (n : ℕ) → counted n services ≡ times n own
    are : AllByRecursion (Served feeds rounds script low log.history) services
    no_line : (k : ℕ) → lines_had k services ≡ 0
    landings : (r output : ℕ) → landings_had r output services ≤ 1
    not_last : (output : ℕ) → landings_had 0 output services ≡ 0
    not_later : (r output : ℕ) → count < r → landings_had r output services ≡ 0

  abbrev OneRound : ℕ → List ℕ → Type 0
  OneRound round own = RoundServes feeds rounds script start log running sound follows low round (λ o. 1) (Unit {0}) own

  round_made : (round : ℕ) → round < rounds → (late : LogState) (known : List Entry) (own : List ℕ) → GoesOn start log late → StartsWith known low → MakesRound start late known own → OneRound round own
  round_made round is_round late known own on after (inl made) = any_round feeds rounds script start log running sound follows low round is_round late known made.0 own on after made.1
  round_made round is_round late known own on after (inr none) = no_round feeds rounds script start log running sound follows low round own none

  rounds_serve : (count : ℕ) → count < rounds → (late : LogState) (known : List Entry) (own : List ℕ) → GoesOn start log late → StartsWith known low → MakesRounds start count known late own → RoundsServe count own
  rounds_serve zero are_rounds late known own on after made = record {
    services = [];
    numbers = λ n. sym (made.1 n);
    are = tt;
    no_line = λ k. refl;
    landings = λ r o. omega arith;
    not_last = λ o. refl;
    not_later = λ r o later. refl;
  }
  rounds_serve (suc count) are_rounds late known own on after made =
      let middle : LogState = made.0 in
      let first = round_made (suc count) are_rounds middle known made.3 (goes_trans start log late middle on made.1) after made.5 in
      let rest = rounds_serve count (omega (arith, are_rounds)) late middle.history made.4 on (starts_trans middle.history known low made.2 after) made.6 in
      record {
        services = first.services ++ rest.services;
        numbers = λ n.
            let s = total_append (λ (x : Service). one (x.number == n)) first.services rest.services in
            let f = first.numbers n in
            let g = rest.numbers n in
            let t = made.7 n in
            omega (arith, s, f, g, t);
        are = served_append feeds rounds script low log.history first.services rest.services first.are rest.are;
        no_line = λ k.
            let s = total_append (λ (x : Service). has_line k x.purpose) first.services rest.services in
            let f = first.no_line k in
            let g = rest.no_line k in
            omega (arith, s, f, g);
        landings = λ r o.
            let s = total_append (λ (x : Service). has_landing r o x.purpose) first.services rest.services in
            elim (cases_eq r (suc count)) [
              | inl same ↦
                  let f : landings_had r o first.services ≡ landings_had (suc count) o first.services = ap (λ x. landings_had x o first.services) same in
                  let most = first.landings o in
                  let g = rest.not_later r o (omega (arith, same)) in
                  omega (arith, s, f, most, g)
              | inr differs ↦
                  let f = first.no_other r o differs in
                  let g = rest.landings r o in
                  omega (arith, s, f, g)
            ];
        not_last = λ o.
            let s = total_append (λ (x : Service). has_landing 0 o x.purpose) first.services rest.services in
            let f = first.no_other 0 o (λ same. absurd (omega (arith, same))) in
            let g = rest.not_last o in
            omega (arith, s, f, g);
        not_later = λ r o later.
            let s = total_append (λ (x : Service). has_landing r o x.purpose) first.services rest.services in
            let f = first.no_other r o (λ same. absurd (omega (arith, same, later))) in
            let g = rest.not_later r o (omega (arith, later)) in
            omega (arith, s, f, g);
      }

  -- At most one party was beside the lanes.
  pub party_serves : (count : ℕ) → count < rounds → (late : LogState) (beside : List (List ℕ)) → GoesOn start log late → length beside ≤ 1 → ((k : ℕ) → MakesRounds start count low late (slice_index_or beside k [])) → (own : List ℕ) × PartiesServe feeds rounds script start log running sound follows begins own × ((n : ℕ) → times n own ≡ total (times n) beside)
  party_serves count are_rounds late [] on one_party made =
      ([], no_party feeds rounds script start log running sound follows begins, λ n. refl)
  party_serves count are_rounds late (own ∷ []) on one_party made =
      let is = rounds_serve count are_rounds late low own on (starts_refl low) (made 0) in
      (own, record { services = is.services; numbers = is.numbers; are = is.are; no_line = is.no_line; landings = is.landings; not_last = is.not_last }, λ n. omega arith)
  party_serves count are_rounds late (own ∷ other ∷ beside) on one_party made = absurd (omega (arith, one_party))
