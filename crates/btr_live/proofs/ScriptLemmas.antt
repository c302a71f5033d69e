-- Lemmas on a script by the model: a store that is stopped or sealed stays so, and a line that has room is done, until memory runs out.
use Rattle.std.specs.Prelude.{◌≡◌, ◌⊎◌, ℕ, ◌+◌, ◌≤◌, true, false, List, [], ◌∷◌, Option, Some, None}
use Rattle.std.proofs.Common.{sym, ◌∙◌, ap, subst, arith, inl, inr, ⊎_elim}
use Rattle.btr_base.specs.declared.point.Point.{Point}
use Rattle.btr_hist.specs.declared.entry.Entry.{Entry}
use Rattle.btr_hist.specs.declared.rejection.Rejection.{Rejection}
use Rattle.btr_hist.specs.Legal.{rejection}
use Rattle.btr_text.specs.declared.script.Line.{Line}
use Rattle.btr_text.specs.declared.script.ScriptLine.{ScriptLine}
use Rattle.btr_text.specs.declared.reply.LineReply.{LineReply}
use Rattle.btr_text.specs.declared.reply.LineReply.TheVariants.{No}
use Rattle.btr_text.specs.declared.reply.Reason.TheVariants as reasons
use Rattle.btr_engine.specs.Body.{need_of}
use Rattle.btr_live.specs.Feeds.{Waiting, fed}
use Rattle.btr_live.specs.Meaning.{Meaning, Commits, Asks, Holds, Current, Refuses, meaning}
use Rattle.btr_live.specs.Replies.{model_reply, waiting_after, Means}
use Rattle.btr_live.specs.Script.{State, stopped_store, after_asked, after_commit, IsModel, WasSealed, IsNotDone, RepliesTo, RepliesToLine, RunsScript}
use Rattle.btr_live.specs.Script.{need_of_meaning, after_model, after_line}
use Rattle.btr_jobs.specs.States.{StoreState}

-- ---- stopped stores

-- A commit does not stop a store.
same_after_commit : (s : StoreState) (e : Entry) (why : Option Rejection) → (after_commit s e why).stopped ≡ s.stopped
same_after_commit s e None = λ i. s.stopped
same_after_commit s e (Some why) = λ i. s.stopped

-- Nothing that the model does stops a store.
same_after : (s : StoreState) (m : Meaning) → (after_asked s m).stopped ≡ s.stopped
same_after s (Commits e) = same_after_commit s e (rejection s.history e)
same_after s (Asks query) = λ i. s.stopped
same_after s (Holds count) = λ i. s.stopped
same_after s (Current version) = λ i. s.stopped
same_after s (Refuses reason) = λ i. s.stopped

-- A store that is the same runs too.
along : (s t : StoreState) → t ≡ s → t.stopped ≡ false → s.stopped ≡ false
along s t e runs = ap (λ (x : StoreState). x.stopped) (sym e) ∙ runs

-- A store that runs after a commit that was not done ran before it.
not_done_before : (s t : StoreState) (m : Meaning) (reply : LineReply) → IsNotDone s m reply t → t.stopped ≡ false → s.stopped ≡ false
not_done_before s t (Commits e) reply h runs =
    ⊎_elim
    (λ full. full.not_stopped)
    (λ h. ⊎_elim
    (λ fault. fault.not_stopped)
    (λ h. ⊎_elim (λ stopped. along s t stopped.store runs) (λ sealed. sealed.not_stopped) h)
    h)
    h
not_done_before s t (Asks query) reply h runs = absurd h
not_done_before s t (Holds count) reply h runs = absurd h
not_done_before s t (Current version) reply h runs = absurd h
not_done_before s t (Refuses reason) reply h runs = absurd h

-- A store that runs after a reply ran before it.
pub ran_before : (s t : StoreState) (m : Meaning) (reply : LineReply) → RepliesTo s m reply t → t.stopped ≡ false → s.stopped ≡ false
ran_before s t m reply replied runs =
    ⊎_elim
    (λ model. sym (ap (λ (x : StoreState). x.stopped) model.store ∙ same_after s m) ∙ runs)
    (λ h. ⊎_elim (λ h. not_done_before s t m reply h runs) (λ lacks. along s t lacks.store runs) h)
    replied

-- A store that runs after a script ran before it.
pub ran_all : (batch : ℕ) (s t : State) (lines : List ScriptLine) (replies : List LineReply) → RunsScript batch s lines replies t → t.store.stopped ≡ false → s.store.stopped ≡ false
ran_all batch s t [] [] script runs = ap (λ (x : State). x.store.stopped) script ∙ runs
ran_all batch s t [] (reply ∷ replies) script runs = absurd script
ran_all batch s t (line ∷ lines) [] script runs = absurd script
ran_all batch s t (line ∷ lines) (reply ∷ replies) script runs =
    ran_before s.store script.0.store script.1 reply script.2.replied (ran_all batch script.0 t lines replies script.3 runs)

-- ---- sealed stores

-- A commit does not seal a store.
seal_after_commit : (s : StoreState) (e : Entry) (why : Option Rejection) → (after_commit s e why).sealed ≡ s.sealed
seal_after_commit s e None = λ i. s.sealed
seal_after_commit s e (Some why) = λ i. s.sealed

-- Nothing that the model does seals a store.
seal_after : (s : StoreState) (m : Meaning) → (after_asked s m).sealed ≡ s.sealed
seal_after s (Commits e) = seal_after_commit s e (rejection s.history e)
seal_after s (Asks query) = λ i. s.sealed
seal_after s (Holds count) = λ i. s.sealed
seal_after s (Current version) = λ i. s.sealed
seal_after s (Refuses reason) = λ i. s.sealed

same_seal : (s t : StoreState) → t ≡ s → t.sealed ≡ s.sealed
same_seal s t e = ap (λ (x : StoreState). x.sealed) e

seal_not_done : (s t : StoreState) (m : Meaning) (reply : LineReply) → IsNotDone s m reply t → t.sealed ≡ s.sealed
seal_not_done s t (Commits e) reply h =
    ⊎_elim
    (λ full. same_seal s t full.store)
    (λ h. ⊎_elim
    (λ fault. same_seal (stopped_store s) t fault.store)
    (λ h. ⊎_elim (λ stopped. same_seal s t stopped.store) (λ sealed. same_seal s t sealed.store) h)
    h)
    h
seal_not_done s t (Asks query) reply h = absurd h
seal_not_done s t (Holds count) reply h = absurd h
seal_not_done s t (Current version) reply h = absurd h
seal_not_done s t (Refuses reason) reply h = absurd h

-- A line neither seals a store nor opens a sealed one.
pub seal_stays : (s t : StoreState) (m : Meaning) (reply : LineReply) → RepliesTo s m reply t → t.sealed ≡ s.sealed
seal_stays s t m reply replied =
    ⊎_elim
    (λ model. same_seal (after_asked s m) t model.store ∙ seal_after s m)
    (λ h. ⊎_elim (λ h. seal_not_done s t m reply h) (λ lacks. same_seal s t lacks.store) h)
    replied

-- ---- what a line needs

-- No more blocks are gone after a commit than its entry needs.
left_after_commit : (s : StoreState) (e : Entry) (why : Option Rejection) → s.left ≤ (after_commit s e why).left + need_of s.history e
left_after_commit s e None = omega arith
left_after_commit s e (Some why) = omega arith

-- No more blocks are gone after what is asked for than it needs.
pub left_after : (s : StoreState) (m : Meaning) → s.left ≤ (after_asked s m).left + need_of_meaning s.history m
left_after s (Commits e) = left_after_commit s e (rejection s.history e)
left_after s (Asks query) = omega arith
left_after s (Holds count) = omega arith
left_after s (Current version) = omega arith
left_after s (Refuses reason) = omega arith

-- What is done of a line needs no more blocks than what the line asks for.
pub need_of_done : (batch : ℕ) (s : State) (line : Option Line) (m : Meaning) → Means batch s.store.history s.waiting line m → need_of_meaning s.store.history m ≤ need_of_meaning s.store.history (meaning batch s.store.history s.waiting line)
need_of_done batch s line m means =
    ⊎_elim
    (λ e. omega (arith, ap (λ x. need_of_meaning s.store.history x) e))
    (λ lacks. omega (arith, ap (λ x. need_of_meaning s.store.history x) lacks.1))
    means

-- A store that is stopped does not run.
apart : {P : Type 0} (s t : StoreState) → t ≡ s → s.stopped ≡ true → t.stopped ≡ false → P
apart s t same stopped runs = let is = ap (λ (x : StoreState). x.stopped) same in absurd (cc)

-- If there is room and the store runs after it, what is asked for is done, unless the store is sealed.
pub sealed_if_not_done : (s t : StoreState) (m : Meaning) (reply : LineReply) → need_of_meaning s.history m ≤ s.left → t.stopped ≡ false → IsNotDone s m reply t → WasSealed s reply t
sealed_if_not_done s t (Commits e) reply room runs h =
    ⊎_elim
    (λ full. absurd (omega (arith, full.short)))
    (λ h. ⊎_elim
    (λ fault. apart (stopped_store s) t fault.store (λ i. true) runs)
    (λ h. ⊎_elim (λ stopped. apart s t stopped.store stopped.stopped runs) (λ sealed. sealed) h)
    h)
    h
sealed_if_not_done s t (Asks query) reply room runs h = absurd h
sealed_if_not_done s t (Holds count) reply room runs h = absurd h
sealed_if_not_done s t (Current version) reply room runs h = absurd h
sealed_if_not_done s t (Refuses reason) reply room runs h = absurd h

-- ---- lines that are done

-- A store with these points.
abbrev with_waiting : StoreState → Waiting → State
with_waiting s w = record { store = s; waiting = w }

-- States of the same stores and points are the same.
same_state : (a b : StoreState) (v w : Waiting) → a ≡ b → v ≡ w → with_waiting a v ≡ with_waiting b w
same_state a b v w stores waits =
    ap (λ (x : StoreState). with_waiting x v) stores ∙ ap (λ (x : Waiting). with_waiting b x) waits

-- A line that is done as the model does it leaves the model's state.
after_meaning : (batch : ℕ) (s t : State) (line : Option Line) (m : Meaning) (reply : LineReply) → m ≡ meaning batch s.store.history s.waiting line → IsModel s.store m reply t.store → t.waiting ≡ waiting_after s.waiting (fed s.store.history s.waiting line) m reply → t ≡ after_line batch s line
after_meaning batch s t line m reply means model waiting =
    let f : Option (ℕ × List Point) = fed s.store.history s.waiting line in
    same_state t.store (after_asked s.store m) t.waiting (waiting_after s.waiting f m (model_reply s.store.history m)) model.store
    (waiting ∙ ap (λ r. waiting_after s.waiting f m r) model.replied)
    ∙ ap (λ x. after_model s f x) means

-- The reply to what had no memory to begin says so.
memory : (s t : StoreState) (reply : LineReply) → RepliesTo s (Refuses reasons.Memory) reply t → reply ≡ No reasons.Memory
memory s t reply replied =
    ⊎_elim (λ model. model.replied) (λ h. ⊎_elim (λ not. absurd not) (λ lacks. lacks.replied) h) replied

-- A line is done as the model does it, or memory ran out, or it was not done.
pub line_is : (batch : ℕ) (s t : State) (line : Option Line) (m : Meaning) (reply : LineReply) → RepliesToLine batch s line m reply t → (t ≡ after_line batch s line) ⊎ (reply ≡ No reasons.Memory) ⊎ ((m ≡ meaning batch s.store.history s.waiting line) × IsNotDone s.store m reply t.store)
line_is batch s t line m reply is =
    ⊎_elim
    (λ means. ⊎_elim
    (λ model. inl (after_meaning batch s t line m reply means model is.waiting))
    (λ h. ⊎_elim (λ not. inr (inr (means, not))) (λ lacks. inr (inl lacks.replied)) h)
    is.replied)
    (λ lacks. inr (inl (memory s.store t.store reply (subst (λ (x : Meaning). RepliesTo s.store x reply t.store) lacks.1 is.replied))))
    is.means
