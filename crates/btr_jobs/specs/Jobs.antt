-- Jobs: what one does to a session, and what many do that share the shares of one.
use Rattle.std.specs.Prelude.{◌≡◌, ℕ, ◌+◌, ◌<◌, ◌≤◌, Bool, List, [], ◌∷◌, length}
use Rattle.btr_disk.specs.declared.disk.Disk.{Ghosts}
use Rattle.btr_hist.specs.declared.entry.Entry.{Entry}
use Rattle.btr_engine.specs.Engine.{IsEngineOf}
use Rattle.btr_gate.specs.Prefixes.{StartsWith}
use Rattle.btr_gate.specs.Numbers.{times}
use Rattle.btr_gate.specs.Shares.{on_path}
use Rattle.btr_hall.specs.declared.session.Hall.{Hall}
use Rattle.btr_hall.specs.declared.session.Session.{Session}
use Rattle.btr_hall.specs.Trace.{IsTraceOf}
use Rattle.btr_hall.specs.Session as session
use Rattle.btr_hall.specs.Session.{IsSessionOf, opening_of, seen_of, mine_of, share_of}
use Rattle.btr_jobs.specs.States.{StoreState, LogState, GoesOn, log_seen, start_of}

-- What a kind of job does: after this state of the log of a hall that began so, a job that had seen this history went from its first state
-- to its second, and these are the numbers of what it added.
abbrev pub Doing : Type 0 → Type 1
Doing J = StoreState → LogState → List Entry → J → J → List ℕ → Type 0

-- The state of each job after the work goes with the one before it.
abbrev pub AllKeep : {J : Type 0} → (J → J → Type 0) → List J → List J → Type 0
AllKeep keeps [] [] = Unit {0}
AllKeep keeps [] (now ∷ after) = ⊥
AllKeep keeps (was ∷ before) [] = ⊥
AllKeep keeps (was ∷ before) (now ∷ after) = keeps was now × AllKeep keeps before after

-- Each job did its part, after all of `low` had been seen. `own` are the numbers of what they added, in some order.
abbrev pub AllDid : {J : Type 0} → Doing J → StoreState → LogState → List Entry → List J → List J → List ℕ → Type 0
AllDid did start log low [] [] own = (n : ℕ) → times n own ≡ 0
AllDid did start log low [] (now ∷ after) own = ⊥
AllDid did start log low (was ∷ before) [] own = ⊥
AllDid did start log low (was ∷ before) (now ∷ after) own =
    (first rest : List ℕ) × did start log low was now first × AllDid did start log low before after rest
    × ((n : ℕ) → times n own ≡ times n first + times n rest)

-- The jobs were done one after another. `middle` is the log after the first one. Of it is said what this job did, after all of
-- `low` had been seen. The others followed after all of its history. `own` are the numbers of what they added, in some order.
abbrev pub DidInTurn : {J : Type 0} → Doing J → StoreState → LogState → List Entry → List J → List J → List ℕ → Type 0
DidInTurn did start late low [] [] own = StartsWith late.history low × ((n : ℕ) → times n own ≡ 0)
DidInTurn did start late low [] (now ∷ after) own = ⊥
DidInTurn did start late low (was ∷ before) [] own = ⊥
DidInTurn did start late low (was ∷ before) (now ∷ after) own =
    (middle : LogState) × GoesOn start late middle × StartsWith middle.history low × (first rest : List ℕ)
    × did start middle low was now first × DidInTurn did start late middle.history before after rest
    × ((n : ℕ) → times n own ≡ times n first + times n rest)

module _ {D : Type 0} {disk : Ghosts D} where
  -- The session is one of the hall, and what it has seen is a list of steps from the engine with which the hall began.
  pub record IsAt (hall : Hall D disk) (s : Session D disk) : Type 0 where
    pub own : IsSessionOf hall s
    pub trace : IsTraceOf (opening_of hall) (seen_of s)

  -- A session went on, and these are the numbers of what it added. What it added comes after all that it had seen: nothing, if it had
  -- seen the device fail. It meets the paths that it met: if it was the only session of its hall, it is so again.
  pub record Goes (old new : Session D disk) (own : List ℕ) : Type 0 where
    pub seen : StartsWith (seen_of new) (seen_of old)
    pub mine : (n : ℕ) → times n (mine_of new) ≡ times n (mine_of old) + times n own
    pub fresh : (n : ℕ) → 1 ≤ times n own → (length (seen_of old) < n) × (n ≤ length (seen_of new))
    pub start : session.entries_at_start new ≡ session.entries_at_start old
    pub paths : (path : ℕ → Bool) → on_path path (share_of new) ≡ on_path path (share_of old)

  -- A session went on, and with the numbers that it added this is true of each history with which the hall may have begun.
  abbrev pub Does : Hall D disk → Session D disk → Session D disk → (StoreState → LogState → List Entry → List ℕ → Type 0) → Type 0
  Does hall old new What = (own : List ℕ) × Goes old new own
      × ((h : List Entry) → IsEngineOf h (opening_of hall) → What (start_of h hall) (log_seen h new) (log_seen h old).history own)
