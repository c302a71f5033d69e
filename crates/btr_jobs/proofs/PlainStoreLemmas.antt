-- Lemmas on the plain store on a device: the result of a turn right after its history is what becomes of the entry there.
use Rattle.std.specs.Prelude.{◌≡◌, ℕ, ◌+◌, ◌<◌, ◌≤◌, false, true, ◌||◌, List, [], ◌∷◌, ◌++◌, if◌then◌else◌, Option, Some, None, Result, Ok, Err}
use Rattle.std.specs.Option.{is_some}
use Rattle.std.proofs.Common.{refl, sym, ap, ◌∙◌, subst, arith}
use Rattle.std.proofs.lemmas.Bool.{or_right, lt-ltb, le-ltb}
use Rattle.btr_hist.specs.declared.entry.Entry.{Entry}
use Rattle.btr_hist.specs.declared.rejection.Rejection.{Rejection}
use Rattle.btr_hist.specs.Legal.{rejection}
use Rattle.btr_streams.specs.declared.board.Receipt.{Receipt}
use Rattle.btr_engine.specs.declared.step.StepFault.{StepFault}
use Rattle.btr_engine.specs.declared.step.StepFault.TheVariants as steps
use Rattle.btr_engine.specs.Body.{need_of, needs_of}
use Rattle.btr_engine.proofs.NeedLemmas.{needs-append, needs-push}
use Rattle.btr_gate.specs.Prefixes.{StartsWith}
use Rattle.btr_jobs.specs.States.{StoreState, LogState, GoesOn}
use Rattle.btr_jobs.specs.Turns.{IsStopped, IsSealed, IsFull, Committed}
use Rattle.btr_jobs.specs.PlainStore.{PlainStore, receipt_of, take_result_by, store_by, take_result, store_after, result_of, first_store, RunsThrough}
use Rattle.btr_jobs.specs.PlainStore.TakeResult.{Taken, Rejected, Full}

-- A history that another one begins with needs no more.
pub needs_prefix : (h p : List Entry) → StartsWith h p → needs_of p ≤ needs_of h
needs_prefix h p starts =
    let all : needs_of h ≡ needs_of (p ++ starts.0) = ap needs_of starts.1 in
    let both = needs-append p starts.0 in
    omega (arith, all, both)

-- What ran through to the end of a state of the log did so up to its middle.
pub middle_runs : (start : StoreState) (late middle : LogState) → GoesOn start late middle → RunsThrough start late → RunsThrough start middle
middle_runs start late middle on ran = record {
  runs = ran.runs;
  unsealed = ran.unsealed;
  whole = none_left middle.failed refl;
  fits = let least = needs_prefix late.history middle.history on.begins in let fits = ran.fits in omega (arith, least, fits);
}
  where
    none_left : (o : Option Entry) → middle.failed ≡ o → middle.failed ≡ None
    none_left None is = is
    none_left (Some e) is =
        let same = on.ends (or_right start.stopped (is_some middle.failed) (ap is_some is)) in
        let both : None ≡ Some e = sym ran.whole ∙ ap (λ (c : LogState). c.failed) same ∙ is in
        absurd (cc)

-- ---- what becomes of an entry

module _ (c : PlainStore) (e : Entry) where
  pub outcome_taken : rejection c.history e ≡ None → need_of c.history e ≤ c.left → take_result c e ≡ Taken (receipt_of c.history e)
  outcome_taken allowed fits =
      ap (take_result_by c e) allowed
      ∙ ap (λ t. if t then Full (need_of c.history e) c.left else Taken (receipt_of c.history e)) (le-ltb c.left (need_of c.history e) fits)

  pub outcome_full : rejection c.history e ≡ None → c.left < need_of c.history e → take_result c e ≡ Full (need_of c.history e) c.left
  outcome_full allowed short =
      ap (take_result_by c e) allowed
      ∙ ap (λ t. if t then Full (need_of c.history e) c.left else Taken (receipt_of c.history e)) (lt-ltb c.left (need_of c.history e) short)

  pub outcome_rejected : (why : Rejection) → rejection c.history e ≡ Some why → take_result c e ≡ Rejected why
  outcome_rejected why is = ap (take_result_by c e) is

-- ---- what the store has

module _ (start : StoreState) where
  -- The plain store has this history, and what is left of the blocks that were left at the start.
  pub record Holds (c : PlainStore) (h : List Entry) : Type 0 where
    pub same : c.history ≡ h
    pub left : c.left + needs_of h ≡ start.left + needs_of start.history

  pub first_holds : Holds (first_store start) start.history
  first_holds = record { same = refl; left = refl }

  module _ (c : PlainStore) (p : List Entry) (e : Entry) (holds : Holds c p) where
    -- The entry needs the same after both.
    same_need : need_of c.history e ≡ need_of p e
    same_need = ap (λ h. need_of h e) holds.same

    -- There was room for an entry that was added.
    pub added_fits : needs_of (p ++ e ∷ []) ≤ start.left + needs_of start.history → need_of c.history e ≤ c.left
    added_fits fits =
        let both = needs-push p e in
        let left = holds.left in
        omega (arith, both, left, fits, same_need)

    pub holds_added : (next : List Entry) → take_result c e ≡ Taken (receipt_of c.history e) → need_of c.history e ≤ c.left → next ≡ p ++ e ∷ [] → Holds (store_after c e) next
    holds_added next is fits grown =
        let both = needs-push p e in
        let left = holds.left in
        let all : needs_of next ≡ needs_of (p ++ e ∷ []) = ap needs_of grown in
        subst (λ d. Holds d next) (sym (ap (store_by c e) is))
        (record { same = ap (λ h. h ++ e ∷ []) holds.same ∙ sym grown; left = omega (arith, both, left, all, fits, same_need) })

    pub holds_full : (next : List Entry) → take_result c e ≡ Full (need_of c.history e) c.left → next ≡ p → Holds (store_after c e) next
    holds_full next is same = subst (λ d. Holds d next) (sym (ap (store_by c e) is)) (subst (Holds c) (sym same) holds)

    pub holds_rejected : (next : List Entry) (why : Rejection) → take_result c e ≡ Rejected why → next ≡ p → Holds (store_after c e) next
    holds_rejected next why is same = subst (λ d. Holds d next) (sym (ap (store_by c e) is)) (subst (Holds c) (sym same) holds)

    -- What a turn says is left.
    pub full_left : (need left : ℕ) → IsFull start p e need left → (need ≡ need_of c.history e) × (left ≡ c.left) × (c.left < need_of c.history e)
    full_left need left full =
        let here = holds.left in
        let room = full.left in
        let needed = full.need in
        let short = full.short in
        (needed ∙ sym same_need, omega (arith, here, room), omega (arith, here, room, needed, short, same_need))

module _ (start : StoreState) (log : LogState) (ran : RunsThrough start log) where
  pub never_stopped : (p : List Entry) (count : ℕ) → IsStopped start log p count → ⊥
  never_stopped p count is =
      let both : (start.stopped || is_some log.failed) ≡ false = λ i. ran.runs i || is_some (ran.whole i) in
      let wrong : true ≡ false = sym is.stopped ∙ both in
      absurd (cc)

  pub never_sealed : (p : List Entry) → IsSealed start log p → ⊥
  never_sealed p is =
      let wrong : true ≡ false = sym is.sealed ∙ ran.unsealed in
      absurd (cc)

  -- The turn of an entry, right after the history of the plain store.
  pub committed_plain : (c : PlainStore) (p : List Entry) (e : Entry) (result : Result Receipt StepFault) (own : List ℕ) (next : List Entry) → Holds start c p → (result ≡ Err steps.Want → ⊥) → Committed start log p e result own next → (result ≡ result_of (take_result c e)) × Holds start (store_after c e) next
  committed_plain c p e (Ok receipt) own next holds memory is =
      let added = is.2 in
      let allowed : rejection c.history e ≡ None = ap (λ h. rejection h e) holds.same ∙ is.0 in
      let room = added_fits start c p e holds (let least = needs_prefix log.history (p ++ e ∷ []) added.follows in let fits = ran.fits in omega (arith, least, fits)) in
      let taken = outcome_taken c e allowed room in
      let model : receipt ≡ receipt_of p e = λ i. record { number = is.1.number i; stream = is.1.stream i; version = is.1.version i } in
      let same : receipt ≡ receipt_of c.history e = model ∙ ap (λ h. receipt_of h e) (sym holds.same) in
      (ap (λ (r : Receipt). Ok r) same ∙ sym (ap result_of taken), holds_added start c p e holds next taken room added.next)
  committed_plain c p e (Err (steps.Stopped entries)) own next holds memory is = absurd (never_stopped p entries is.0)
  committed_plain c p e (Err steps.Sealed) own next holds memory is = absurd (never_sealed p is.0)
  committed_plain c p e (Err (steps.Rejected why)) own next holds memory is =
      let refused = outcome_rejected c e why (ap (λ h. rejection h e) holds.same ∙ is.0) in
      (sym (ap result_of refused), holds_rejected start c p e holds next why refused is.1.next)
  committed_plain c p e (Err steps.Want) own next holds memory is = absurd (memory refl)
  committed_plain c p e (Err (steps.DeviceFull need left)) own next holds memory is =
      let room = full_left start c p e holds need left is.1 in
      let full = outcome_full c e (ap (λ h. rejection h e) holds.same ∙ is.0) room.2 in
      ((λ i. Err (steps.DeviceFull (room.0 i) (room.1 i))) ∙ sym (ap result_of full), holds_full start c p e holds next full is.2.next)
  committed_plain c p e (Err steps.DeviceFault) own next holds memory is =
      let failed : None ≡ Some e = sym ran.whole ∙ is.1.failed in
      absurd (cc)
