-- What a run says when its hall is closed: all that was added since the hall began is one history.
use Rattle.std.specs.Prelude.{◌≡◌, ℕ, ◌+◌, Bool, List, [], ◌∷◌, ◌++◌, length, replicate, Result, Ok, Err, IfOk, OnErr}
use Rattle.std.specs.Option.{is_some}
use Rattle.std.specs.declared.alloc.AllocError.{AllocError}
use Rattle.std.proofs.Common.{zero, suc, refl, sym, ap, ◌∙◌, subst, arith, length-append}
use Rattle.std.proofs.lemmas.List.{append-nil, length-replicate}
use Rattle.btr_disk.specs.declared.disk.Disk.{Ghosts}
use Rattle.btr_hist.specs.declared.entry.Entry.{Entry}
use Rattle.btr_text.specs.declared.script.ScriptLine.{ScriptLine}
use Rattle.btr_engine.specs.declared.engine.Engine.{Engine}
use Rattle.btr_engine.specs.Engine.{entries_of, IsEngineOf}
use Rattle.btr_gate.specs.Numbers.{one, times, given}
use Rattle.btr_hall.specs.declared.item.Item.{Item}
use Rattle.btr_hall.specs.declared.item.Item.TheVariants.{Earlier}
use Rattle.btr_hall.specs.declared.session.Hall.{Hall}
use Rattle.btr_hall.specs.declared.session.Session.{Session}
use Rattle.btr_hall.specs.Trace.{entries_in, has_halt}
use Rattle.btr_hall.specs.Session as session
use Rattle.btr_hall.specs.Session.{Begins, HasEachOnce, IsAlone, opening_of, seen_of, mine_of}
use Rattle.btr_hall.proofs.TraceLemmas.{length_of_list, engine_of_list}
use Rattle.btr_jobs.specs.States.{StoreState, LogState, failed_in, log_seen, start_of}
use Rattle.btr_jobs.specs.Jobs.{IsAt, Goes, Does}
use Rattle.btr_jobs.proofs.StateLemmas.{failed_halt}
use Rattle.btr_jobs.proofs.DoesLemmas.{stays_alone}
use Rattle.btr_work.specs.Laws.{AreAllSince}
use Rattle.btr_live.specs.declared.live.LiveReport.{LiveReport}
use Rattle.btr_live.specs.Lanes.{in_own_feeds}
use Rattle.btr_live.specs.OneHistory.{OneHistory}
use Rattle.btr_live.specs.Live.{RunsLive}
use Rattle.btr_live.proofs.HistoryLemmas.{one_history}

earlier_entries : {D : Type 0} (disk : Ghosts D) (n : ℕ) → entries_in {disk = disk} (replicate n Earlier) ≡ []
earlier_entries disk zero = refl
earlier_entries disk (suc n) = earlier_entries disk n

module _ {D : Type 0} {disk : Ghosts D} where
  no_steps : (steps : List (Item D disk)) → length steps ≡ 0 → steps ≡ []
  no_steps [] is = refl
  no_steps (step ∷ steps) is = absurd (omega (arith, is))

  -- The first session of a hall has seen the history with which the hall began.
  pub begins_history : (x : Engine D disk) (hall : Hall D disk) (s : Session D disk) (h : List Entry) → Begins x hall s → (log_seen h s).history ≡ h
  begins_history x hall s h begins =
      let n = entries_of x in
      let steps = begins.trace.steps in
      let long : length steps ≡ 0 = omega (arith, ap length begins.trace.is, length-append (replicate n Earlier) steps, length-replicate n (let item : Item D disk = Earlier in item), begins.seen) in
      let seen : seen_of s ≡ replicate n Earlier = begins.trace.is ∙ ap (λ l. replicate n Earlier ++ l) (no_steps steps long) ∙ append-nil (replicate n Earlier) in
      ap (λ l. h ++ entries_in l) seen ∙ ap (λ l. h ++ l) (earlier_entries disk n) ∙ append-nil h

  -- How long the list is that a session has seen.
  pub seen_long : (hall : Hall D disk) (s : Session D disk) (h : List Entry) → IsEngineOf h (opening_of hall) → IsAt hall s → length (seen_of s) ≡ length (log_seen h s).history + one (is_some (log_seen h s).failed)
  seen_long hall s h of at =
      let long = length_of_list (opening_of hall) (seen_of s) at.trace in
      let entries = (engine_of_list h (opening_of hall) (seen_of s) of at.trace).entries in
      let failed : one (is_some (failed_in (seen_of s))) ≡ one (has_halt (seen_of s)) = ap one (failed_halt (seen_of s)) in
      omega (arith, long, entries, failed)

  -- The numbers of the last session are those of all that was added since its hall began.
  pub all_since : (x : Engine D disk) (hall : Hall D disk) (old new : Session D disk) (h : List Entry) (own : List ℕ) → Begins x hall old → IsEngineOf h (opening_of hall) → IsAt hall new → Goes old new own → HasEachOnce new → AreAllSince h (log_seen h new) own
  all_since x hall old new h own begins of at goes once = λ n.
      let mine = goes.mine n in
      let none : times n (mine_of old) ≡ times n [] = ap (times n) begins.mine in
      let first : session.entries_at_start new ≡ length h = goes.start ∙ begins.start ∙ ap entries_of (sym begins.opening) ∙ of.entries in
      let last = seen_long hall new h of at in
      let all : times n own ≡ times n (mine_of new) = omega (arith, mine, none) in
      all ∙ once.once n
      ∙ ap (λ low. given low (length (seen_of new)) n) first
      ∙ ap (λ high. given (length h) high n) last

  -- A script that ran in the first session of a hall, which then has the number of each entry, made one history.
  pub closed_history : (batch : ℕ) (materialize : Bool) (script : List ScriptLine) (report : LiveReport) (x : Engine D disk) (hall : Hall D disk) (old new : Session D disk) (h : List Entry) → Begins x hall old → IsEngineOf h (opening_of hall) → IsAt hall new → HasEachOnce new → Does hall old new (λ start log low own. RunsLive (in_own_feeds batch) materialize start log low script report own) → OneHistory (in_own_feeds batch) (start_of h hall) (log_seen h new) script report.replies.items
  closed_history batch materialize script report x hall old new h begins of at once does =
      one_history batch materialize (start_of h hall) (log_seen h new) script report does.0
      (subst (λ low. RunsLive (in_own_feeds batch) materialize (start_of h hall) (log_seen h new) low script report does.0) (begins_history x hall old h begins) (does.2 h of))
      (all_since x hall old new h does.0 begins of at does.1 once)

  -- A session that was alone is alone after a run, and after a run that did not begin.
  pub alone_after : {A E : Type 0} (hall : Hall D disk) (old new : Session D disk) (What : A → StoreState → LogState → List Entry → List ℕ → Type 0) (result : Result A E) → OnErr result (new ≡ old) → IfOk result (λ r. Does hall old new (What r)) → IsAlone old → IsAlone new
  alone_after hall old new What (Ok r) refused runs alone = stays_alone old new runs.0 runs.1 alone
  alone_after hall old new What (Err e) refused runs alone = subst (λ s. IsAlone s) (sym refused) alone

  -- The session of a script that was alone is alone after it.
  pub lanes_alone : (hall : Hall D disk) (old new : Session D disk) (batch : ℕ) (materialize : Bool) (script : List ScriptLine) (result : Result LiveReport AllocError) → OnErr result (new ≡ old) → IfOk result (λ report. Does hall old new (λ start log low own. RunsLive (in_own_feeds batch) materialize start log low script report own)) → IsAlone old → IsAlone new
  lanes_alone hall old new batch materialize script result refused runs alone =
      alone_after hall old new (λ (report : LiveReport) start log low own. RunsLive (in_own_feeds batch) materialize start log low script report own) result refused runs alone
