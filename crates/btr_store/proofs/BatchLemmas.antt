-- Lemmas on the buffers of a hall: what their sessions added, and how all sessions meet again.
use Rattle.std.specs.Prelude.{◌≡◌, ℕ, zero, suc, ◌+◌, ◌<◌, ◌≤◌, List, [], ◌∷◌, ◌++◌, length, map, slice_index_or, Option, None, Some}
use Rattle.std.specs.List.{AllByRecursion}
use Rattle.std.proofs.Common.{refl, sym, ap, ◌∙◌, subst, arith, append-nil}
use Rattle.btr_disk.specs.declared.disk.Disk.{Ghosts}
use Rattle.btr_hist.specs.declared.entry.Entry.{Entry}
use Rattle.btr_gate.specs.Prefixes.{StartsWith}
use Rattle.btr_gate.specs.Numbers.{total, times}
use Rattle.btr_gate.proofs.NumberLemmas.{times_append}
use Rattle.btr_gate.proofs.PrefixLemmas.{starts_trans}
use Rattle.btr_hall.specs.declared.session.Hall.{Hall}
use Rattle.btr_hall.specs.declared.session.Session.{Session}
use Rattle.btr_hall.specs.GroupBook.{SettledValue, book}
use Rattle.btr_hall.specs.Session.{IsSessionOf}
use Rattle.btr_group.specs.declared.group.Group.{Group}
use Rattle.btr_group.specs.declared.group.Seat.{Seat}
use Rattle.btr_group.specs.Seats.{first_session, seen_by}
use Rattle.btr_group.specs.Serves.{entry_of_batch, commit_result, CommitsEach, CommitsEachIn}
use Rattle.btr_group.specs.Sets.{SplitsForEach}
use Rattle.btr_group.specs.Closing.{EndsGroup, MeetsEach}
use Rattle.btr_group.proofs.ServeLemmas.{chain_in}
use Rattle.btr_jobs.specs.States.{StoreState, LogState, GoesOn}
use Rattle.btr_jobs.specs.TurnLaws.{goes_refl, goes_trans, committed_lasts, committed_lowers}
use Rattle.btr_jobs.specs.Turns.{CommittedAfter}
use Rattle.btr_jobs.specs.Jobs.{IsAt, Does}
use Rattle.btr_jobs.proofs.DoesLemmas.{does_none, does_then, does_both, does_implied, split_at, meet_at}
use Rattle.btr_jobs.proofs.TurnLemmas.{commit_at, commit_turn}
use Rattle.btr_store.specs.Shared.{RunsBatches}

-- ---- the batches of one buffer

module _ (start : StoreState) (stream : ℕ) where
  -- What batches added is true for ever.
  pub batches_last : (late early : LogState) (low : List Entry) (bs : List SettledValue) (own : List ℕ) → GoesOn start late early → RunsBatches start early stream low bs own → RunsBatches start late stream low bs own
  batches_last late early low [] own on runs = runs
  batches_last late early low (b ∷ bs) own on runs =
      (runs.0, runs.1, runs.2, runs.3, committed_lasts start late early low (entry_of_batch stream b.batch) (commit_result b.outcome) runs.0 runs.2 on runs.4, batches_last late early runs.2 bs runs.1 on runs.5)

  -- It is true after less had been seen.
  pub batches_lower : (log : LogState) (low less : List Entry) (bs : List SettledValue) (own : List ℕ) → StartsWith low less → RunsBatches start log stream low bs own → RunsBatches start log stream less bs own
  batches_lower log low less [] own starts runs = runs
  batches_lower log low less (b ∷ bs) own starts runs =
      (runs.0, runs.1, runs.2, runs.3, committed_lowers start log low less (entry_of_batch stream b.batch) (commit_result b.outcome) runs.0 runs.2 starts runs.4, runs.5)

module _ {D : Type 0} {disk : Ghosts D} (hall : Hall D disk) where
  -- The commits of a session, in order, are those of batches.
  batches_in : (stream : ℕ) (s : Session D disk) (bs : List SettledValue) (t : Session D disk) → IsAt hall s → CommitsEachIn hall stream s bs t → IsAt hall t × Does hall s t (λ start log low own. RunsBatches start log stream low bs own)
  batches_in stream s [] t at commits =
      subst (λ t. IsAt hall t × Does hall s t (λ start log low own. RunsBatches start log stream low [] own)) commits
      (at, does_none hall s (λ start log low own. RunsBatches start log stream low [] own) (λ start log. refl))
  batches_in stream s (b ∷ bs) t at commits =
      let u : Session D disk = commits.0 in
      let e = entry_of_batch stream b.batch in
      let result = commit_result b.outcome in
      let at_u : IsAt hall u = commit_at hall s u e result commits.2 commits.3 commits.1 in
      let rest = batches_in stream u bs t at_u commits.4 in (
        rest.0,
        does_then hall s u t
            (λ start log low own. (next : List Entry) × CommittedAfter start log low e result own next × StartsWith log.history next)
            (λ start log low own. RunsBatches start log stream low bs own)
            (λ start log low own. RunsBatches start log stream low (b ∷ bs) own)
            rest.0
            (λ start late early low a c on starts first second.
            (a, c, first.0, refl, committed_lasts start late early low e result a first.0 on first.1, batches_lower start stream late early.history first.0 bs c first.2 second))
            (commit_turn hall s u e result commits.2 commits.3)
            rest.1,
      )

  pub batches_does : (stream : ℕ) (s : Session D disk) (bs : List SettledValue) (t : Session D disk) → IsAt hall s → CommitsEach stream s bs t → IsAt hall t × Does hall s t (λ start log low own. RunsBatches start log stream low bs own)
  batches_does stream s bs t at commits = batches_in stream s bs t at (chain_in hall stream s bs t at.own commits)

-- ---- all buffers

-- What the sessions of groups added, by their streams from `first` on: the numbers of each.
abbrev pub EachBatches : {D : Type 0} {disk : Ghosts D} → StoreState → LogState → List Entry → List (Group D disk) → List (Seat D disk) → List (List ℕ) → Type 0
EachBatches start log low [] [] own = own ≡ []
EachBatches start log low [] (s ∷ seats) own = ⊥
EachBatches start log low (g ∷ groups) [] own = ⊥
EachBatches start log low (g ∷ groups) (s ∷ seats) [] = ⊥
EachBatches start log low (g ∷ groups) (s ∷ seats) (o ∷ own) =
    RunsBatches start log g.stream low (book (seen_by s)).settled o × EachBatches start log low groups seats own

module _ {D : Type 0} {disk : Ghosts D} where
  pub each_last : (start : StoreState) (late early : LogState) (low : List Entry) (groups : List (Group D disk)) (seats : List (Seat D disk)) (own : List (List ℕ)) → GoesOn start late early → EachBatches start early low groups seats own → EachBatches start late low groups seats own
  each_last start late early low [] [] own on each = each
  each_last start late early low [] (s ∷ seats) own on each = absurd each
  each_last start late early low (g ∷ groups) [] own on each = absurd each
  each_last start late early low (g ∷ groups) (s ∷ seats) [] on each = absurd each
  each_last start late early low (g ∷ groups) (s ∷ seats) (o ∷ own) on each =
      (batches_last start g.stream late early low (book (seen_by s)).settled o on each.0, each_last start late early low groups seats own on each.1)

  -- What was done while groups were there, and what their sessions added: `early` is the log when it had been done.
  abbrev pub WithGroups : (StoreState → LogState → List Entry → List ℕ → Type 0) → List (Group D disk) → List (Seat D disk) → StoreState → LogState → List Entry → List ℕ → Type 0
  WithGroups What groups seats start log low own =
      (early : LogState) × GoesOn start log early × (done : List ℕ) × What start early low done
      × (batches : List (List ℕ)) × EachBatches start log low groups seats batches
      × ((n : ℕ) → times n own ≡ times n done + total (times n) batches)

  module _ (hall : Hall D disk) (What : StoreState → LogState → List Entry → List ℕ → Type 0) where
    -- A session was split for each group, something was done with what was left of it, and it took in the sessions of the groups.
    pub groups_meet : (groups : List (Group D disk)) (seats : List (Seat D disk)) (s mid done t : Session D disk) → IsAt hall s → SplitsForEach hall s groups mid → ((at : IsAt hall mid) → IsAt hall done × Does hall mid done What) → MeetsEach hall done groups seats t → IsAt hall t × Does hall s t (WithGroups What groups seats)
    groups_meet [] [] s mid done t at splits does meets =
        let did = does (subst (IsAt hall) splits at) in
        let here : Does hall s done What = subst (λ x. Does hall x done What) (sym splits) did.1 in
        subst (λ t. IsAt hall t × Does hall s t (WithGroups What [] [])) meets (
          did.0,
          does_implied hall s done What (WithGroups What [] [])
              (λ start log low own what. (log, goes_refl start log, own, what, [], refl, λ n. omega arith)) here,
        )
    groups_meet [] (seat ∷ seats) s mid done t at splits does meets = absurd meets
    groups_meet (g ∷ groups) [] s mid done t at splits does meets = absurd meets
    groups_meet (g ∷ groups) (seat ∷ seats) s mid done t at splits does meets =
        let u : Session D disk = splits.0 in
        let split = splits.1 in
        let apart = split_at hall s u (first_session g) at split.session split.other split.splits in
        let rest : Session D disk = meets.0 in
        let other : Session D disk = meets.1 in
        let inner = groups_meet groups seats u mid done rest apart.0 splits.2 does meets.2 in
        let served = batches_does hall g.stream (first_session g) (book (seen_by seat)).settled other apart.1 meets.3.commits in
        let at_t : IsAt hall t = meet_at hall rest other t inner.0 served.0 meets.6 meets.5 in (
          at_t,
          does_both s u (first_session g) rest other t split.splits meets.5 hall
              (WithGroups What groups seats)
              (λ start log low own. RunsBatches start log g.stream low (book (seen_by seat)).settled own)
              (WithGroups What (g ∷ groups) (seat ∷ seats))
              at_t
              (λ start late first second low a b on_first on_second is runs. (
                is.0,
                goes_trans start late first is.0 on_first is.1,
                is.2,
                is.3,
                b ∷ is.4,
                (batches_last start g.stream late second low (book (seen_by seat)).settled b on_second runs, each_last start late first low groups seats is.4 on_first is.5),
                λ n.
                    let sum = times_append n a b in
                    let all = is.6 n in
                    omega (arith, sum, all),
              ))
              inner.1
              served.1,
        )
