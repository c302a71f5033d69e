-- What work at a hall leaves on the device that the engine was opened on, once the hall is closed.
use Rattle.std.specs.Prelude.{◌≡◌, ◌⊎◌, ℕ, ◌+◌, ◌<◌, ◌≤◌, Bool, true, false, ◌&&◌, nat_lt, nat_le, ◌||◌, List, [], ◌∷◌, ◌++◌, length, Option, Some, None, option_to_list}
use Rattle.std.specs.Option.{is_some}
use Rattle.std.proofs.Common.{refl, sym, ap, ◌∙◌, subst, append_assoc, inl, inr, arith}
use Rattle.std.proofs.lemmas.List.{append-nil, length-append}
use Rattle.std.proofs.lemmas.Bool.{lt-ltb, le-leb}
use Rattle.btr_disk.specs.declared.disk.Disk.{Ghosts}
use Rattle.btr_disk.specs.Bytes.{Image}
use Rattle.btr_disk.specs.Causes.{Rose}
use Rattle.btr_disk.specs.Moments.{Leaves, IsUnwritten}
use Rattle.btr_disk.proofs.MomentLemmas.{composes, weakens}
use Rattle.btr_hist.specs.declared.entry.Entry.{Entry}
use Rattle.btr_hist.specs.Legal.{Legal}
use Rattle.btr_hist.proofs.HistoryLemmas.{legal-push}
use Rattle.btr_hist.proofs.RightLemmas.{legal-right}
use Rattle.btr_engine.specs.declared.engine.Engine.{Engine}
use Rattle.btr_engine.specs.Engine.{device, blocks_of, tail_of, room_of, entries_of, is_stopped, faults_at_open, IsEngineOf, IsAtRest, KeepsOpening}
use Rattle.btr_engine.specs.Body.{needs_of, needs_after}
use Rattle.btr_engine.proofs.EngineLemmas.{stopped_by_fault}
use Rattle.btr_engine.proofs.NeedLemmas.{needs-append}
use Rattle.btr_open.specs.Opening.{IsOpenedEngine, IsOpenedOn}
use Rattle.btr_gate.specs.Numbers.{one, times, given}
use Rattle.btr_gate.specs.Prefixes.{StartsWith}
use Rattle.btr_gate.proofs.PrefixLemmas.{starts_length, starts_more}
use Rattle.btr_hall.specs.declared.item.Item.{Item}
use Rattle.btr_hall.specs.declared.session.Hall.{Hall}
use Rattle.btr_hall.specs.declared.session.Session.{Session}
use Rattle.btr_hall.specs.Session as session
use Rattle.btr_hall.specs.Session.{Begins, HasEachOnce, seen_of, mine_of}
use Rattle.btr_jobs.specs.Jobs.{Goes}
use Rattle.btr_hall.specs.Trace.{IsTraceOf, engine_after, entries_in, has_halt}
use Rattle.btr_hall.specs.StoreLaws.{engine_earlier}
use Rattle.btr_hall.proofs.TraceLemmas.{engine_of_list, stopped_of_list, length_of_list, keeps_of_list, at_rest_of_list}
use Rattle.btr_jobs.specs.States.{StoreState, LogState, start_with, failed_in}
use Rattle.btr_jobs.proofs.StateLemmas.{log_at, failed_halt}
use Rattle.btr_store.specs.Work.{OwnsEachOnce, HoldsPrefix, HoldsLog, AddsAllowed, IsRightInFlight, all_entries, HoldsSafely, KeepsEach, CrashLeavesLog, Works}
use Rattle.btr_store.proofs.Moments.{steps_leave, steps_end, keeps_each}
use Rattle.btr_store.proofs.Rooms.{steps_fit}
use Rattle.btr_super.specs.Super.{has_seal}
use Rattle.btr_store.proofs.WorkLemmas.{log_is, held_before, super_before, rose_from}

-- ---- legal histories

-- A number in between was given.
given_between : (low high n : ℕ) → low < n → n ≤ high → 1 ≤ given low high n
given_between low high n above below =
    let first : nat_lt low n ≡ true = lt-ltb low n above in
    let second : nat_le n high ≡ true = le-leb n high below in
    let both : given low high n ≡ 1 = ap (λ (b : Bool). one (b && nat_le n high)) first ∙ ap one second in
    omega (arith, both)

-- Entries that are allowed one after the other make a legal history of a legal one.
legal_after : (all h more : List Entry) → all ≡ h ++ more → ((p : List Entry) (e : Entry) → StartsWith all (p ++ e ∷ []) → length h ≤ length p → Legal p → Legal (p ++ e ∷ [])) → Legal h → Legal all
legal_after all h [] is each legal = subst (λ (k : List Entry). Legal k) (sym (is ∙ append-nil h)) legal
legal_after all h (e ∷ more) is each legal =
    let next : all ≡ (h ++ e ∷ []) ++ more = is ∙ sym (append_assoc h (e ∷ []) more) in
    legal_after all (h ++ e ∷ []) more next
    (λ p x starts long. each p x starts (omega (arith, long, length-append h (e ∷ []))))
    (each h e (more, next) (omega arith) legal)

-- Work whose entries are allowed keeps a history legal.
work_legal : (first : StoreState) (log : LogState) (own : List ℕ) → StartsWith log.history first.history → OwnsEachOnce first log own → AddsAllowed log own → Legal first.history → Legal log.history
work_legal first log own begins each adds legal =
    legal_after log.history first.history begins.0 begins.1
    (λ p e starts long before.
    let number : ℕ = length p + 1 in
    let whole : length log.history ≡ length (p ++ e ∷ []) + length starts.0 = ap (length {A = Entry}) starts.1 ∙ length-append (p ++ e ∷ []) starts.0 in
    let part : length (p ++ e ∷ []) ≡ length p + 1 = length-append p (e ∷ []) in
    let was : 1 ≤ given (length first.history) (length log.history + one (is_some log.failed)) number =
    given_between (length first.history) (length log.history + one (is_some log.failed)) number (omega (arith, long)) (omega (arith, whole, part)) in
    legal-push p e before (adds p e (starts_more log.history (p ++ e ∷ []) (option_to_list log.failed) starts) (omega (arith, was, each number)) before))
    legal

-- So it is with the entry in whose step the device failed: its number is the last one.
work_in_flight : (first : StoreState) (log : LogState) (own : List ℕ) → StartsWith log.history first.history → OwnsEachOnce first log own → AddsAllowed log own → Legal first.history → IsRightInFlight log
work_in_flight first log own begins each adds legal e failed =
    let h : List Entry = log.history in
    let number : ℕ = length h + 1 in
    let one_more : one (is_some log.failed) ≡ 1 = ap (λ (o : Option Entry). one (is_some o)) failed in
    let was : 1 ≤ given (length first.history) (length h + one (is_some log.failed)) number =
    given_between (length first.history) (length h + one (is_some log.failed)) number (omega (arith, starts_length h first.history begins)) (omega (arith, one_more)) in
    let whole : all_entries log ≡ (h ++ e ∷ []) ++ [] = ap (λ (o : Option Entry). h ++ option_to_list o) failed ∙ sym (append-nil (h ++ e ∷ [])) in
    let before : Legal h = work_legal first log own begins each adds legal in
    let then : Legal (h ++ e ∷ []) = legal-push h e before (adds h e ([], whole) (omega (arith, was, each number)) before) in
    (then, legal-right (h ++ e ∷ []) then)

-- ---- the list of a hall

module _ {D : Type 0} {disk : Ghosts D} where
  engine_is : (x : Engine D disk) (l : List (Item D disk)) (trace : IsTraceOf x l) → engine_after x l ≡ engine_after x trace.steps
  engine_is x l trace = ap (engine_after x) trace.is ∙ engine_earlier (entries_of x) x trace.steps

-- ---- the device

stopped_if : (x halt : Bool) → halt ≡ true → (x || halt) ≡ true
stopped_if true halt is = refl
stopped_if false halt is = is

runs_if : (x halt : Bool) → x ≡ false → halt ≡ false → (x || halt) ≡ false
runs_if x halt runs none = ap (λ (b : Bool). b || halt) runs ∙ none

none_failed : {A : Type 0} (o : Option A) → o ≡ None → is_some o ≡ false
none_failed None is = refl
none_failed (Some x) is = absurd (cc)

-- The last engine of a hall whose first one ran is stopped exactly if the device failed in a step.
pub failed_in_step : {D : Type 0} {disk : Ghosts D} (x y : Engine D disk) (l : List (Item D disk)) → is_stopped x ≡ false → IsTraceOf x l → y ≡ engine_after x l → (h : List Entry) (failed : Bool) → failed ≡ is_stopped y → failed ≡ is_some (log_at h l).failed
failed_in_step {D} {disk} x y l runs trace ends h failed is =
    is
    ∙ ap (λ (e : Engine D disk). is_stopped e) ends
    ∙ stopped_of_list x l trace
    ∙ ap (λ (b : Bool). b || has_halt l) runs
    ∙ sym (failed_halt l)

module _ {D : Type 0} (disk : Ghosts D) (only_now : disk.is_observable → (d : D) (c : Image) → disk.images_since d (disk.calls d) c → disk.images_now d c) (counts_now : disk.is_observable → (d : D) (t : ℕ) (c : Image) → t ≤ disk.calls d → disk.images_now d c → disk.images_since d t c) (old : D) (x : Engine D disk) (opened : IsOpenedEngine disk old x) (h : List Entry) (on : IsOpenedOn disk h x) where
  rest : IsAtRest h x
  rest = on.at_rest

  module _ (l : List (Item D disk)) (trace : IsTraceOf x l) where
    abbrev y : Engine D disk
    y = engine_after x l

    abbrev log : LogState
    log = log_at h l

    abbrev kept : KeepsOpening x y
    kept = keeps_of_list x l trace

    -- What a crash leaves after each entry.
    keeps : disk.is_observable → disk.size (device x) ≡ disk.size (device y) → (more : List Entry) × (log.history ≡ h ++ more) × KeepsEach disk log (device y) (device x) h more
    keeps reported same_size =
        let is : log ≡ log_at h trace.steps = log_is h x l trace in (
          entries_in trace.steps,
          ap (λ (k : LogState). k.history) is,
          keeps_each disk reported (only_now reported) (counts_now reported) (device y) log h x trace.steps rest same_size trace.trace (ap (λ (e : Engine D disk). device e) (engine_is x l trace)) is,
        )

    -- The entries need no more blocks than there were.
    fits : needs_of (log.history ++ option_to_list log.failed) ≤ room_of x + needs_of h
    fits =
        let is : log ≡ log_at h trace.steps = log_is h x l trace in
        let last : List Entry = option_to_list (failed_in trace.steps) in
        let all : needs_of (log.history ++ option_to_list log.failed) ≡ needs_of ((h ++ entries_in trace.steps) ++ last) = ap (λ (k : LogState). needs_of (k.history ++ option_to_list k.failed)) is in
        let parts : needs_of ((h ++ entries_in trace.steps) ++ last) ≡ needs_of h + needs_after h (entries_in trace.steps ++ last) = ap needs_of (append_assoc h (entries_in trace.steps) last) ∙ needs-append h (entries_in trace.steps ++ last) in
        omega (arith, all, parts, steps_fit h x trace.steps rest.of trace.trace)

    crash : disk.is_observable → CrashLeavesLog disk (start_with h x) log old (device y)
    crash reported =
        let a : D = device x in
        let z : D = device y in
        let size : ℕ = disk.size z in
        let R : Image → Type 0 = HoldsPrefix size (length h) log in
        let Q : Image → Type 0 = λ c. disk.images_now old c ⊎ R c in
        let same_size : disk.size a ≡ size = sym kept.device_kept.same_size in
        let unwritten : IsUnwritten disk.calls disk.contents disk.images_now disk.images_since old a = opened.kept.unwritten reported in
        let steps : Leaves disk.calls disk.images_since a (device (engine_after x trace.steps)) (HoldsPrefix size (length h) (log_at h trace.steps)) =
        steps_leave reported (only_now reported) (counts_now reported) size h x trace.steps rest same_size trace.trace in
        let leaves : Leaves disk.calls disk.images_since a z R =
        subst (λ (e : Engine D disk). Leaves disk.calls disk.images_since a (device e) R) (sym (engine_is x l trace))
        (subst (λ (k : LogState). Leaves disk.calls disk.images_since a (device (engine_after x trace.steps)) (HoldsPrefix size (length h) k)) (sym (log_is h x l trace)) steps) in
        record {
          opened = a;
          opening = unwritten;
          moments = composes disk.calls disk.images_since old a z Q
              (weakens disk.calls disk.images_since old a (disk.images_now old) Q (λ c left. inl left) unwritten.moments)
              (weakens disk.calls disk.images_since a z R Q (λ c holds. inr holds) leaves);
          each_entry = keeps reported same_size;
          now = λ c left.
              let here : disk.images_now (device (engine_after x trace.steps)) c = subst (λ (e : Engine D disk). disk.images_now (device e) c) (engine_is x l trace) left in
              subst (λ (k : LogState). HoldsLog size k c) (sym (log_is h x l trace))
              (steps_end reported (only_now reported) (counts_now reported) size h x trace.steps rest same_size trace.trace c here);
        }

    safe : disk.is_observable → log.failed ≡ None → HoldsSafely disk (device y) log.history
    safe reported none =
        let halt : has_halt l ≡ false = sym (failed_halt l) ∙ none_failed (failed_in l) none in
        let runs : is_stopped y ≡ false = stopped_of_list x l trace ∙ runs_if (is_stopped x) (has_halt l) opened.runs halt in
        let last : IsAtRest log.history y = at_rest_of_list reported h x l rest trace runs in record {
          holds = record { blocks = blocks_of y; tail = tail_of y; holds = last.holds };
          only = last.only;
        }

    faulted : is_some log.failed ≡ true → Rose (disk.faults old) (disk.faults (device y))
    faulted some =
        let halt : has_halt l ≡ true = sym (failed_halt l) ∙ some in
        let stopped : is_stopped y ≡ true = stopped_of_list x l trace ∙ stopped_if (is_stopped x) (has_halt l) halt in
        rose_from (disk.faults old) (faults_at_open y) (disk.faults (device y))
        (omega (arith, opened.synced.before.more_faults, ap disk.faults kept.synced))
        (stopped_by_fault y stopped)

    pub works : (own : List ℕ) → ((n : ℕ) → times n own ≡ given (entries_of x) (length l) n) → Works disk (start_with h x) log own old (device y)
    works own each =
        let of : IsEngineOf log.history y = engine_of_list h x l rest.of trace in
        let first : entries_of x ≡ length h = rest.of.entries in
        let last : entries_of y ≡ length log.history = of.entries in
        let halt : one (is_some log.failed) ≡ one (has_halt l) = ap one (failed_halt l) in
        let long : length l ≡ length log.history + one (is_some log.failed) = omega (arith, length_of_list x l trace, last, halt) in
        let once : OwnsEachOnce (start_with h x) log own = λ n.
        each n ∙ ap (λ (k : ℕ). given k (length l) n) first ∙ ap (λ (k : ℕ). given (length h) k n) long in
        let begins : StartsWith log.history h = (entries_in l, refl) in
        record {
          same_size = kept.device_kept.same_size ∙ opened.kept.counts.same_size;
          begins = begins;
          follows = of.follows;
          not_stopped = opened.runs;
          each_once = once;
          fits = fits;
          legal = λ adds legal. work_legal (start_with h x) log own begins once adds legal;
          right = λ adds legal. legal-right log.history (work_legal (start_with h x) log own begins once adds legal);
          in_flight = λ adds legal. work_in_flight (start_with h x) log own begins once adds legal;
          before = λ reported. record {
            blocks = blocks_of x;
            tail = tail_of x;
            holds = held_before disk old x opened h rest reported;
            same_left = refl;
            same_seal = sym (ap has_seal (super_before disk old x opened h rest reported));
          };
          after = safe;
          failed = faulted;
          crash = crash;
        }

  -- What was done at the hall of the engine was done on the device that it was opened on.
  pub works_on : (hall : Hall D disk) (begun last : Session D disk) (own : List ℕ) (end : Engine D disk) (new : D) → Begins x hall begun → IsTraceOf x (seen_of last) → HasEachOnce last → end ≡ engine_after x (seen_of last) → new ≡ device end → Goes begun last own → Works disk (start_with h x) (log_at h (seen_of last)) own old new
  works_on hall begun last own end new begins trace all ends out goes =
      let l : List (Item D disk) = seen_of last in
      subst (λ (d : D). Works disk (start_with h x) (log_at h l) own old d) (sym (out ∙ ap (λ (e : Engine D disk). device e) ends))
      (works l trace own (λ n.
      let none : times n (mine_of begun) ≡ 0 = ap (times n) begins.mine in
      let mine : times n (mine_of last) ≡ times n own = omega (arith, goes.mine n, none) in
      let from : session.entries_at_start last ≡ entries_of x = goes.start ∙ begins.start in
      sym mine ∙ all.once n ∙ ap (λ (k : ℕ). given k (length l) n) from))
