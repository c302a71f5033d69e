-- Lemmas on a store that one user has: what was done in a turn at its history is what the model does, or its reason why it was not done.
use Rattle.std.specs.Prelude.{◌≡◌, ◌⊎◌, ℕ, ◌+◌, ◌-◌, ◌≤◌, Bool, true, false, ◌||◌, List, [], ◌∷◌, ◌++◌, length, option_to_list}
use Rattle.std.specs.Prelude.{Option, Some, Result, Ok, Err}
use Rattle.std.specs.Option.{is_some}
use Rattle.std.proofs.Common.{refl, sym, ap, ap₂, ◌∙◌, subst, arith, inl, inr, length-append}
use Rattle.std.proofs.lemmas.Bool.{or_right}
use Rattle.btr_hist.specs.declared.entry.Entry.{Entry}
use Rattle.btr_hist.specs.Legal.{rejection}
use Rattle.btr_hist.specs.Answer.{answer}
use Rattle.btr_text.specs.declared.reply.LineReply.{LineReply}
use Rattle.btr_text.specs.declared.reply.LineReply.TheVariants as replies
use Rattle.btr_text.specs.declared.reply.LineReply.TheVariants.{Done, No}
use Rattle.btr_text.specs.declared.reply.Reason.TheVariants as reasons
use Rattle.btr_streams.specs.declared.board.Receipt.{Receipt}
use Rattle.btr_engine.specs.declared.step.StepFault.{StepFault}
use Rattle.btr_engine.specs.declared.step.StepFault.TheVariants as steps
use Rattle.btr_engine.specs.Body.{need_of, needs_of}
use Rattle.btr_engine.proofs.NeedLemmas.{needs-append, needs-push}
use Rattle.btr_gate.specs.Numbers.{one}
use Rattle.btr_gate.specs.Prefixes.{StartsWith}
use Rattle.btr_gate.proofs.PrefixLemmas.{starts_length}
use Rattle.btr_jobs.specs.States.{StoreState, LogState}
use Rattle.btr_jobs.specs.Turns.{IsAdded, IsFailed, IsIdle, IsFull, SaysSealed, Committed}
use Rattle.btr_live.specs.Meaning.{Meaning, Commits, Asks, Holds, Current, Refuses}
use Rattle.btr_live.specs.Reasons.{holder}
use Rattle.btr_live.specs.Replies.{reply_of_answer, reply_of_commit}
use Rattle.btr_live.specs.Lanes.{reply_of_step, is_failure, tells_failure}
use Rattle.btr_live.specs.Script.{store_with_entry, after_commit, IsModel, IsDeviceFault, RepliesTo}
use Rattle.btr_live.specs.OneLane.{FitsLeft}
use Rattle.btr_live.proofs.ReportedLemmas.{rejection_tells}
use Rattle.btr_live.proofs.TurnEntries.{device_apart}

-- Nothing is true and false.
not_both : {P : Type 0} (b : Bool) → b ≡ false → b ≡ true → P
not_both b is_not is = absurd (cc)

-- If one of two is true, and the first is not, the second is.
right_if : (a b : Bool) → a ≡ false → (a || b) ≡ true → b ≡ true
right_if true b is_not is = absurd (cc)
right_if false b is_not is = is

-- Who saw the device fail before a line has seen it after that line.
reported_still : (a b : Bool) → a ≡ true → (a || b) ≡ true
reported_still true b is = refl
reported_still false b is = absurd (cc)

-- What was done in a turn at the history to which the line was admitted. Who saw the device fail gets a reply that says so again.
abbrev pub IsDone : StoreState → LogState → Bool → List Entry → Meaning → LineReply → List ℕ → List Entry → Type 0
IsDone start log saw_failure h (Commits e) reply own next =
    (result : Result Receipt StepFault) × Committed start log h e result own next × SaysSealed start steps.Sealed result
    × (reply ≡ reply_of_step h result)
    × (saw_failure ≡ true → (count : ℕ) × (reply ≡ No (reasons.Stopped count)))
IsDone start log saw_failure h (Asks query) reply own next =
    ((reply ≡ reply_of_answer (answer h query)) ⊎ (reply ≡ No reasons.Memory)) × IsIdle h own next
IsDone start log saw_failure h (Holds count) reply own next = (reply ≡ replies.Held count) × IsIdle h own next
IsDone start log saw_failure h (Current version) reply own next = (reply ≡ Done version) × IsIdle h own next
IsDone start log saw_failure h (Refuses reason) reply own next = (reply ≡ No reason) × IsIdle h own next

-- The device failed in the step of the entry after this history, and a reply said so.
pub record IsLast (log : LogState) (h : List Entry) (heard : Bool) : Type 0 where
  pub last : log.history ≡ h
  pub failed : is_some log.failed ≡ true
  pub saw_failure : heard ≡ true

-- The number of all entries, with that in whose step the device failed.
abbrev pub all_numbers : LogState → ℕ
all_numbers log = length log.history + one (is_some log.failed)

-- Nothing was added, or what has the next number.
abbrev pub Moves : ℕ → List ℕ → ℕ → Type 0
Moves low own next = ((own ≡ []) × (next ≡ low)) ⊎ ((own ≡ (low + 1) ∷ []) × (next ≡ low + 1))

-- The blocks that are left after a history.
abbrev pub room : StoreState → List Entry → ℕ
room start h = (start.left + needs_of start.history) - needs_of h

-- A store with these entries.
abbrev store_with : List Entry → ℕ → Bool → Bool → StoreState
store_with h left stopped sealed = record { history = h; left = left; stopped = stopped; sealed = sealed }

-- The store of a history.
abbrev pub store_of : StoreState → List Entry → Bool → StoreState
store_of start h stopped = store_with h (room start h) stopped start.sealed

module _ (start : StoreState) (log : LogState) (fits : FitsLeft start log) (runs : start.stopped ≡ false) where
  -- A history that begins that of the log fits.
  begins_fits : (h : List Entry) → StartsWith log.history h → needs_of h ≤ start.left + needs_of start.history
  begins_fits h begins =
      let all = needs-append log.history (option_to_list log.failed) in
      let split = ap needs_of begins.1 in
      let both = needs-append h begins.0 in
      omega (arith, fits, all, split, both)

  -- An entry that fits after a history fits into the blocks that are left.
  entry_fits : (h : List Entry) (e : Entry) → needs_of (h ++ e ∷ []) ≤ start.left + needs_of start.history → need_of h e ≤ room start h
  entry_fits h e enough = let sum = needs-push h e in omega (arith, enough, sum)

  -- The entry in whose step the device failed fits.
  failed_fits : (h : List Entry) (e : Entry) → log.history ≡ h → log.failed ≡ Some e → needs_of (h ++ e ∷ []) ≤ start.left + needs_of start.history
  failed_fits h e last failed =
      let same : needs_of (log.history ++ option_to_list log.failed) ≡ needs_of (h ++ e ∷ []) =
      ap₂ (λ (x : List Entry) (o : Option Entry). needs_of (x ++ option_to_list o)) last failed in
      omega (arith, fits, same)

  -- The store of a history with one entry more.
  next_store : (h : List Entry) (e : Entry) → store_of start (h ++ e ∷ []) false ≡ store_with_entry (store_of start h false) e
  next_store h e =
      let sum = needs-push h e in
      let same : room start (h ++ e ∷ []) ≡ room start h - need_of h e = omega (arith, sum) in
      ap (λ left. store_with (h ++ e ∷ []) left false start.sealed) same

  -- What was done is what the model does or its reason, and the store goes on to the next history.
  pub record Stepped (h : List Entry) (stopped saw_failure : Bool) (m : Meaning) (reply : LineReply) (own : List ℕ) (next : List Entry) : Type 0 where
    pub stops : Bool
    pub replied : RepliesTo (store_of start h stopped) m reply (store_of start next stops)
    pub ends : StartsWith log.history next
    pub known : stops ≡ true → IsLast log next (saw_failure || tells_failure m reply)
    pub moves : Moves (length h + one stopped) own (length next + one stops)

  -- If nothing was added, the store is the same.
  still : (h : List Entry) (stopped saw_failure : Bool) (m : Meaning) (reply : LineReply) (own : List ℕ) (next : List Entry) → StartsWith log.history h → (stopped ≡ true → IsLast log h saw_failure) → IsIdle h own next → RepliesTo (store_of start h stopped) m reply (store_of start h stopped) → Stepped h stopped saw_failure m reply own next
  still h stopped saw_failure m reply own next begins known idle replied = record {
    stops = stopped;
    replied = subst (λ x. RepliesTo (store_of start h stopped) m reply (store_of start x stopped)) (sym idle.next) replied;
    ends = subst (λ x. StartsWith log.history x) (sym idle.next) begins;
    known = λ is.
        let l = known is in record {
          last = l.last ∙ sym idle.next;
          failed = l.failed;
          saw_failure = reported_still saw_failure (tells_failure m reply) l.saw_failure;
        };
    moves = inl (idle.own, ap (λ x. length x + one stopped) idle.next);
  }

  module _ (h : List Entry) (saw_failure : Bool) (e : Entry) (reply : LineReply) (own : List ℕ) (next : List Entry) (begins : StartsWith log.history h) where
    -- The next number of a store that is not stopped.
    one_more : own ≡ (length h + 1) ∷ [] → own ≡ (length h + one false + 1) ∷ []
    one_more is =
        let same : length h + 1 ≡ length h + one false + 1 = omega arith in
        is ∙ ap (λ k. k ∷ []) same

    -- If the entry was added, the store has it.
    added : (version : ℕ) → IsAdded log h e own next → IsModel (store_of start h false) (Commits e) reply (store_of start (h ++ e ∷ []) false) → Stepped h false saw_failure (Commits e) reply own next
    added version is model =
        let long = length-append h (e ∷ []) in
        let its : length next ≡ length (h ++ e ∷ []) = ap (λ (x : List Entry). length x) is.next in record {
          stops = false;
          replied = subst (λ x. RepliesTo (store_of start h false) (Commits e) reply (store_of start x false)) (sym is.next) (inl model);
          ends = subst (λ x. StartsWith log.history x) (sym is.next) is.follows;
          known = λ stops. absurd (cc);
          moves = inr (one_more is.own, omega (arith, long, its));
        }

    -- If the device failed in the step of the entry, the store is stopped.
    failed : IsFailed log h e own next → reply ≡ No reasons.Device → IsDeviceFault (store_of start h false) e reply (store_of start h true) → Stepped h false saw_failure (Commits e) reply own next
    failed is replied fault =
        let its : length next ≡ length h = ap (λ (x : List Entry). length x) is.next in record {
          stops = true;
          replied = subst (λ x. RepliesTo (store_of start h false) (Commits e) reply (store_of start x true)) (sym is.next) (inr (inl (inr (inl fault))));
          ends = subst (λ x. StartsWith log.history x) (sym is.next) begins;
          known = λ stops. record {
            last = is.last ∙ sym is.next;
            failed = ap is_some is.failed;
            saw_failure = or_right saw_failure (is_failure reply) (ap is_failure replied);
          };
          moves = inr (one_more is.own, omega (arith, its));
        }

    -- The store is not sealed, since the result does not say so.
    unsealed : (result : Result Receipt StepFault) → SaysSealed start steps.Sealed result → (result ≡ Err steps.Sealed → ⊥) → start.sealed ≡ false
    unsealed result says other = go start.sealed refl
      where
        go : (b : Bool) → start.sealed ≡ b → start.sealed ≡ false
        go false is = is
        go true is = absurd (other (says is runs))

    -- A commit while the store runs.
    running : (is_failure reply ≡ true → own ≡ [] → log.history ≡ h → is_some log.failed ≡ true → ⊥) → (result : Result Receipt StepFault) → Committed start log h e result own next → SaysSealed start steps.Sealed result → reply ≡ reply_of_step h result → Stepped h false saw_failure (Commits e) reply own next
    running no_stop (Ok receipt) is says replied =
        added receipt.version is.2 (record {
          allowed = (refl, unsealed (Ok receipt) says (λ other. absurd (cc)), λ none. entry_fits h e (begins_fits (h ++ e ∷ []) is.2.follows));
          replied = replied ∙ ap (λ v. Done v) is.1.version ∙ sym (ap (λ o. reply_of_commit h e o) is.0);
          store = next_store h e ∙ sym (ap (λ o. after_commit (store_of start h false) e o) is.0);
        })
    running no_stop (Err (steps.Stopped count)) is says replied =
        absurd (no_stop (ap is_failure replied) is.1.own is.0.last (right_if start.stopped (is_some log.failed) runs is.0.stopped))
    running no_stop (Err steps.Sealed) is says replied =
        still h false saw_failure (Commits e) reply own next begins (λ stops. absurd (cc)) is.1 (inr (inl (inr (inr (inr (record {
          not_stopped = refl;
          sealed = is.0.sealed;
          replied = replied;
          store = refl;
        }))))))
    running no_stop (Err (steps.Rejected why)) is says replied =
        let rejected : rejection h e ≡ Some why = is.0 in
        still h false saw_failure (Commits e) reply own next begins (λ stops. absurd (cc)) is.1 (inl (record {
          allowed = (refl, unsealed (Err (steps.Rejected why)) says (λ other. absurd (cc)), λ none. absurd (cc));
          replied = replied ∙ sym (ap (λ o. reply_of_commit h e o) rejected);
          store = sym (ap (λ o. after_commit (store_of start h false) e o) rejected);
        }))
    running no_stop (Err steps.Want) is says replied =
        still h false saw_failure (Commits e) reply own next begins (λ stops. absurd (cc)) is.1 (inr (inr (record {
          needs = (refl, unsealed (Err steps.Want) says (λ other. absurd (cc)), is.0);
          replied = replied;
          store = refl;
        })))
    running no_stop (Err (steps.DeviceFull need left)) is says replied =
        let full : IsFull start h e need left = is.1 in
        let need_is = full.need in
        let left_is = full.left in
        let short = full.short in
        let same : left ≡ room start h = omega (arith, left_is) in
        still h false saw_failure (Commits e) reply own next begins (λ stops. absurd (cc)) is.2 (inr (inl (inl (record {
          not_stopped = refl;
          not_sealed = unsealed (Err (steps.DeviceFull need left)) says (λ other. absurd (cc));
          allowed = is.0;
          short = omega (arith, need_is, same, short);
          replied = replied ∙ ap₂ (λ n l. No (reasons.Full n l)) need_is same;
          store = refl;
        }))))
    running no_stop (Err steps.DeviceFault) is says replied =
        failed is.1 replied (record {
          not_stopped = refl;
          not_sealed = unsealed (Err steps.DeviceFault) says (λ other. absurd (cc));
          allowed = is.0;
          fits = entry_fits h e (failed_fits h e is.1.last is.1.failed);
          replied = replied;
          store = refl;
        })

    -- A commit after the store was stopped.
    stopped_so : IsLast log h saw_failure → (count : ℕ) → reply ≡ No (reasons.Stopped count) → (result : Result Receipt StepFault) → Committed start log h e result own next → reply ≡ reply_of_step h result → Stepped h true saw_failure (Commits e) reply own next
    stopped_so last count refused (Ok receipt) is replied =
        not_both (is_failure reply) (ap is_failure replied) (ap is_failure refused)
    stopped_so last count refused (Err (steps.Stopped entries)) is replied =
        still h true saw_failure (Commits e) reply own next begins (λ stops. last) is.1 (inr (inl (inr (inr (inl (record {
          stopped = refl;
          replied = replied ∙ ap (λ n. No (reasons.Stopped n)) is.0.entries;
          store = refl;
        }))))))
    stopped_so last count refused (Err steps.Sealed) is replied =
        not_both (is_failure reply) (ap is_failure replied) (ap is_failure refused)
    stopped_so last count refused (Err (steps.Rejected why)) is replied =
        not_both (is_failure reply) (ap is_failure replied ∙ rejection_tells (holder h why) why) (ap is_failure refused)
    stopped_so last count refused (Err steps.Want) is replied =
        not_both (is_failure reply) (ap is_failure replied) (ap is_failure refused)
    stopped_so last count refused (Err (steps.DeviceFull need left)) is replied =
        not_both (is_failure reply) (ap is_failure replied) (ap is_failure refused)
    stopped_so last count refused (Err steps.DeviceFault) is replied = device_apart count (sym replied ∙ refused)

    -- A commit, while the store runs or after it was stopped.
    committed : (stopped : Bool) → (stopped ≡ true → IsLast log h saw_failure) → (stopped ≡ false → is_failure reply ≡ true → own ≡ [] → log.history ≡ h → is_some log.failed ≡ true → ⊥) → IsDone start log saw_failure h (Commits e) reply own next → Stepped h stopped saw_failure (Commits e) reply own next
    committed true known no_stop is =
        let last = known refl in
        let refused = is.4 last.saw_failure in
        stopped_so last refused.0 refused.1 is.0 is.1 is.3
    committed false known no_stop is = running (no_stop refl) is.0 is.1 is.2 is.3

  -- What was done in a turn at the history of the store, if the store was stopped only by a failure of the device in a step of before.
  pub stepped : (h : List Entry) (stopped saw_failure : Bool) (m : Meaning) (reply : LineReply) (own : List ℕ) (next : List Entry) → StartsWith log.history h → (stopped ≡ true → IsLast log h saw_failure) → (stopped ≡ false → tells_failure m reply ≡ true → own ≡ [] → log.history ≡ h → is_some log.failed ≡ true → ⊥) → IsDone start log saw_failure h m reply own next → Stepped h stopped saw_failure m reply own next
  stepped h stopped saw_failure (Commits e) reply own next begins known no_stop is = committed h saw_failure e reply own next begins stopped known no_stop is
  stepped h stopped saw_failure (Asks query) reply own next begins known no_stop is =
      elim (is.0) [
        | inl answered ↦ still h stopped saw_failure (Asks query) reply own next begins known is.1 (inl (record { allowed = tt; replied = answered; store = refl }))
        | inr lacks ↦ still h stopped saw_failure (Asks query) reply own next begins known is.1 (inr (inr (record { needs = tt; replied = lacks; store = refl })))
      ]
  stepped h stopped saw_failure (Holds count) reply own next begins known no_stop is =
      still h stopped saw_failure (Holds count) reply own next begins known is.1 (inl (record { allowed = tt; replied = is.0; store = refl }))
  stepped h stopped saw_failure (Current version) reply own next begins known no_stop is =
      still h stopped saw_failure (Current version) reply own next begins known is.1 (inl (record { allowed = tt; replied = is.0; store = refl }))
  stepped h stopped saw_failure (Refuses reason) reply own next begins known no_stop is =
      still h stopped saw_failure (Refuses reason) reply own next begins known is.1 (inl (record { allowed = tt; replied = is.0; store = refl }))

-- No more entries are known than there are.
pub at_most : (log : LogState) (h : List Entry) (stopped saw_failure : Bool) → StartsWith log.history h → (stopped ≡ true → IsLast log h saw_failure) → length h + one stopped ≤ all_numbers log
at_most log h true saw_failure begins known =
    let last = known refl in
    let same : length log.history ≡ length h = ap (λ (x : List Entry). length x) last.last in
    let one_failed : one (is_some log.failed) ≡ 1 = ap one last.failed in
    omega (arith, same, one_failed)
at_most log h false saw_failure begins known = let long = starts_length log.history h begins in omega (arith, long)
