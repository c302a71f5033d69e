-- Lemmas on what has happened in a hall: what one session has seen later goes on from what it had seen earlier.
use Rattle.std.specs.Prelude.{◌≡◌, ℕ, ◌+◌, ◌≤◌, Bool, true, false, ◌||◌, List, [], ◌∷◌, ◌++◌, length, None, replicate}
use Rattle.std.specs.Option.{is_some}
use Rattle.std.proofs.Common.{zero, suc, refl, sym, ap, ◌∙◌, subst, arith}
use Rattle.std.proofs.lemmas.Bool.{false_from_ne_true}
use Rattle.std.proofs.lemmas.List.{append-nil}
use mathlib.Core.List.{head-eq_of_cons-eq, tail-eq_of_cons-eq}
use Rattle.btr_disk.specs.declared.disk.Disk.{Ghosts}
use Rattle.btr_hist.specs.declared.entry.Entry.{Entry}
use Rattle.btr_engine.specs.declared.engine.Engine.{Engine}
use Rattle.btr_engine.specs.Engine.{entries_of, is_stopped, is_sealed, IsEngineOf}
use Rattle.btr_engine.specs.Step.{CanStep, IsStepped, StopsByFault}
use Rattle.btr_gate.specs.Numbers.{one, times}
use Rattle.btr_gate.specs.Prefixes.{StartsWith}
use Rattle.btr_hall.specs.declared.item.Item.{Item}
use Rattle.btr_hall.specs.declared.item.Item.TheVariants.{Earlier, Added, Halted}
use Rattle.btr_hall.specs.declared.session.Hall.{Hall}
use Rattle.btr_hall.specs.declared.session.Session.{Session}
use Rattle.btr_hall.specs.Trace.{IsTrace, IsTraceOf, has_halt, history_of}
use Rattle.btr_hall.specs.Session.{opening_of, seen_of}
use Rattle.btr_hall.specs.StoreLaws.{ends_stopped}
use Rattle.btr_hall.proofs.LandLemmas.{history_starts}
use Rattle.btr_hall.proofs.TraceLemmas.{engine_of_list, length_of_list, ends_sealed}
use Rattle.btr_jobs.specs.States.{LogState, GoesOn, failed_in, start_with, log_seen, start_of}
use Rattle.btr_jobs.specs.Jobs.{IsAt, Goes}

either : (a b : Bool) (P : Type 0) → (a ≡ true → P) → (b ≡ true → P) → (a || b) ≡ true → P
either true b P first second is = first refl
either false b P first second is = second is

some_none : (P : Type 0) → false ≡ true → P
some_none P is = absurd (cc)

no_rest : {A : Type 0} (l rest : List A) → l ++ rest ≡ [] → rest ≡ []
no_rest [] rest is = is
no_rest (x ∷ l) rest is = absurd (cc)

module _ {D : Type 0} {disk : Ghosts D} where
  -- ---- failures

  -- The log of a list of the hall, if the hall began with this history.
  abbrev pub log_at : List Entry → List (Item D disk) → LogState
  log_at h l = record { history = history_of h l; failed = failed_in l }

  -- There is an entry in whose step the device failed exactly if there is a halt.
  pub failed_halt : (l : List (Item D disk)) → is_some (failed_in l) ≡ has_halt l
  failed_halt [] = refl
  failed_halt (Earlier ∷ l) = failed_halt l
  failed_halt (Added entry engine ∷ l) = failed_halt l
  failed_halt (Halted entry engine ∷ l) = refl

  -- What follows a list without a halt.
  pub failed_append : (l more : List (Item D disk)) → has_halt l ≡ false → failed_in (l ++ more) ≡ failed_in more
  failed_append [] more none = refl
  failed_append (Earlier ∷ l) more none = failed_append l more none
  failed_append (Added entry engine ∷ l) more none = failed_append l more none
  failed_append (Halted entry engine ∷ l) more none = absurd (cc)

  -- Nothing follows a halt.
  trace_ends : (h : List Entry) (x : Engine D disk) (l rest : List (Item D disk)) → IsEngineOf h x → IsTrace x (l ++ rest) → is_some (failed_in l) ≡ true → rest ≡ []
  trace_ends h x [] rest of trace failed = some_none (rest ≡ []) failed
  trace_ends h x (Earlier ∷ l) rest of trace failed = absurd trace
  trace_ends h x (Added entry engine ∷ l) rest of trace failed =
      let stepped : IsStepped h x engine.value entry.value trace.0.0 = trace.0.1.stepped h of in
      trace_ends (h ++ entry.value ∷ []) engine.value l rest stepped.of trace.1 failed
  trace_ends h x (Halted entry engine ∷ l) rest of trace failed =
      let fault : CanStep h x entry.value × StopsByFault x engine.value entry.value = trace.0.cause h of in
      no_rest l rest (ends_stopped engine.value (l ++ rest) fault.1.stopped trace.1)

  list_ends : (n : ℕ) (h : List Entry) (x : Engine D disk) (steps l rest : List (Item D disk)) → IsEngineOf h x → replicate n Earlier ++ steps ≡ l ++ rest → IsTrace x steps → is_some (failed_in l) ≡ true → rest ≡ []
  list_ends zero h x steps l rest of is trace failed = trace_ends h x l rest of (subst (IsTrace x) is trace) failed
  list_ends (suc n) h x steps [] rest of is trace failed = some_none (rest ≡ []) failed
  list_ends (suc n) h x steps (item ∷ l) rest of is trace failed =
      let head : Earlier ≡ item = head-eq_of_cons-eq is in
      list_ends n h x steps l rest of (tail-eq_of_cons-eq is) trace (subst (λ i. is_some (failed_in (i ∷ l)) ≡ true) (sym head) failed)

  -- ---- stopped or sealed from the beginning

  -- What begins a list of entries of before is such a list.
  all_earlier : (n : ℕ) (l rest : List (Item D disk)) → replicate n Earlier ≡ l ++ rest → l ≡ replicate (length l) Earlier
  all_earlier n [] rest is = refl
  all_earlier zero (item ∷ l) rest is = absurd (cc)
  all_earlier (suc n) (item ∷ l) rest is =
      λ i. sym (head-eq_of_cons-eq is) i ∷ all_earlier n l rest (tail-eq_of_cons-eq is) i

  log_earlier : (h : List Entry) (n : ℕ) (l : List (Item D disk)) → l ≡ replicate n Earlier → log_at h l ≡ record { history = h ++ []; failed = None }
  log_earlier h n [] is = refl
  log_earlier h zero (item ∷ l) is = absurd (cc)
  log_earlier h (suc n) (item ∷ l) is =
      let head : item ≡ Earlier = head-eq_of_cons-eq is in
      ap (λ i. log_at h (i ∷ l)) head ∙ log_earlier h n l (tail-eq_of_cons-eq is)

  -- ---- states of the log

  -- A later list of a hall goes on from each list that begins it.
  pub list_goes_on : (h : List Entry) (x : Engine D disk) (later earlier : List (Item D disk)) → IsEngineOf h x → IsTraceOf x later → StartsWith later earlier → GoesOn (start_with h x) (log_at h later) (log_at h earlier)
  list_goes_on h x later earlier of trace starts = record {
    begins = history_starts h later earlier starts;
    ends = either (is_stopped x) (is_some (failed_in earlier)) (log_at h later ≡ log_at h earlier) from_stopped from_failed;
    sealed = λ sealed. from_none (ends_sealed x trace.steps sealed trace.trace);
  }
    where
      is : replicate (entries_of x) Earlier ++ trace.steps ≡ earlier ++ starts.0
      is = sym trace.is ∙ starts.1

      from_failed : is_some (failed_in earlier) ≡ true → log_at h later ≡ log_at h earlier
      from_failed failed =
          let none = list_ends (entries_of x) h x trace.steps earlier starts.0 of is trace.trace failed in
          ap (log_at h) (starts.1 ∙ ap (λ m. earlier ++ m) none ∙ append-nil earlier)

      from_none : trace.steps ≡ [] → log_at h later ≡ log_at h earlier
      from_none none =
          let old : replicate (entries_of x) Earlier ≡ later =
          sym (append-nil (replicate (entries_of x) Earlier)) ∙ sym (ap (λ m. replicate (entries_of x) Earlier ++ m) none) ∙ sym trace.is in
          let whole = all_earlier (entries_of x) later [] (old ∙ sym (append-nil later)) in
          let front = all_earlier (entries_of x) earlier starts.0 (old ∙ starts.1) in
          log_earlier h (length later) later whole ∙ sym (log_earlier h (length earlier) earlier front)

      from_stopped : is_stopped x ≡ true → log_at h later ≡ log_at h earlier
      from_stopped stopped = from_none (ends_stopped x trace.steps stopped trace.trace)

  -- What a session has seen goes on from what it, or another one of the hall, had seen, if that begins it.
  pub goes_on : (h : List Entry) (hall : Hall D disk) (new old : Session D disk) → IsEngineOf h (opening_of hall) → IsAt hall new → StartsWith (seen_of new) (seen_of old) → GoesOn (start_of h hall) (log_seen h new) (log_seen h old)
  goes_on h hall new old of at starts = list_goes_on h (opening_of hall) (seen_of new) (seen_of old) of at.trace starts

  -- The history that a session has seen begins with the one that it had seen.
  pub history_goes_on : (h : List Entry) (new old : Session D disk) → StartsWith (seen_of new) (seen_of old) → StartsWith (log_seen h new).history (log_seen h old).history
  history_goes_on h new old starts = history_starts h (seen_of new) (seen_of old) starts

  -- A session has seen an item for each entry, and one more if the device failed.
  pub log_length : (h : List Entry) (hall : Hall D disk) (s : Session D disk) → IsEngineOf h (opening_of hall) → IsAt hall s → length (seen_of s) ≡ length (log_seen h s).history + one (is_some (log_seen h s).failed)
  log_length h hall s of at =
      let all = length_of_list (opening_of hall) (seen_of s) at.trace in
      let entries = (engine_of_list h (opening_of hall) (seen_of s) of at.trace).entries in
      let failed : one (is_some (failed_in (seen_of s))) ≡ one (has_halt (seen_of s)) = ap one (failed_halt (seen_of s)) in
      omega (arith, all, entries, failed)

  -- If a session added anything, the store was not stopped when the hall began, and the session had not seen the device fail.
  pub not_ended : (h : List Entry) (hall : Hall D disk) (old new : Session D disk) (own : List ℕ) → IsEngineOf h (opening_of hall) → IsAt hall old → IsAt hall new → Goes old new own → (n : ℕ) → 1 ≤ times n own → ((start_of h hall).stopped || is_some (log_seen h old).failed) ≡ false
  not_ended h hall old new own of before after goes n some =
      false_from_ne_true ((start_of h hall).stopped || is_some (log_seen h old).failed) (λ ended.
      let same = (goes_on h hall new old of after goes.seen).ends ended in
      let entries : length (log_seen h new).history ≡ length (log_seen h old).history = ap (λ (c : LogState). length c.history) same in
      let failed : one (is_some (log_seen h new).failed) ≡ one (is_some (log_seen h old).failed) = ap (λ (c : LogState). one (is_some c.failed)) same in
      let fresh = goes.fresh n some in
      omega (arith, entries, failed, fresh.0, fresh.1, log_length h hall old of before, log_length h hall new of after))
