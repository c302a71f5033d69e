-- Lemmas on the session of a group: one more commit, its hall, and the entries that its commits made.
use Rattle.std.specs.Prelude.{◌≡◌, ℕ, ◌+◌, ◌≤◌, true, false, List, [], ◌∷◌, ◌++◌, length, Some, option_to_list, Result, Err}
use Rattle.std.proofs.Common.{refl, sym, ap, ◌∙◌, subst, arith, length-append, append_assoc}
use Rattle.std.proofs.lemmas.List.{append-nil}
use Rattle.btr_disk.specs.declared.disk.Disk.{Ghosts}
use Rattle.btr_base.specs.declared.point.Point.{Point}
use Rattle.btr_base.specs.Bag.{sort}
use Rattle.btr_base.specs.Range.{RangeValue}
use Rattle.btr_hist.specs.declared.entry.Entry.{Entry}
use Rattle.btr_hist.specs.declared.entry.Entry.TheVariants.{Commit}
use Rattle.btr_streams.specs.declared.board.Receipt.{Receipt}
use Rattle.btr_engine.specs.declared.step.StepFault.{StepFault}
use Rattle.btr_engine.specs.declared.step.StepFault.TheVariants.{Stopped, Sealed, Rejected, Want, DeviceFull, DeviceFault}
use Rattle.btr_engine.specs.declared.engine.Engine.{Engine}
use Rattle.btr_engine.specs.Engine.{is_sealed, IsEngineOf}
use Rattle.btr_engine.specs.Step.{IsStep}
use Rattle.btr_gate.specs.Prefixes.{StartsWith}
use Rattle.btr_gate.specs.Numbers.{Climbs}
use Rattle.btr_gate.proofs.PrefixLemmas.{starts_refl, starts_trans, starts_length}
use Rattle.btr_hall.specs.declared.item.Item.{Item}
use Rattle.btr_hall.specs.declared.item.Item.TheVariants.{Added, Halted}
use Rattle.btr_hall.specs.declared.session.Hall.{Hall}
use Rattle.btr_hall.specs.declared.session.Session.{Session}
use Rattle.btr_hall.specs.Session.{IsSessionOf, IsSame, opening_of, seen_of, mine_of, share_of, entries_at_start, engine_of}
use Rattle.btr_hall.specs.Trace.{IsTraceOf, engine_after, stopped_in, history_of}
use Rattle.btr_hall.specs.Commit.{shown, item_by, CommitReplies, Commits}
use Rattle.btr_hall.specs.declared.group_answers.Outcome.{Outcome}
use Rattle.btr_hall.specs.declared.group_answers.Outcome.TheVariants.{Stored, Refused}
use Rattle.btr_hall.specs.GroupBook.{BatchValue, SettledValue}
use Rattle.btr_group.specs.Serves.{entry_of_batch, commit_result, MakesCommit, CommitsEach, CommitsEachIn, IsCommitIn}
use Rattle.btr_group.specs.Close.{StandsAt, MakesOne, MakesEach, HasCommittedEach}

some_is : {A : Type 0} {a b : A} → Some a ≡ Some b → a ≡ b
some_is is = cc

-- The numbers climb from any lower number too.
climbs_lower : (low from : ℕ) (ns : List ℕ) (high : ℕ) → low ≤ from → Climbs from ns high → Climbs low ns high
climbs_lower low from [] high le climbs = tt
climbs_lower low from (n ∷ ns) high le climbs = (omega (arith, climbs.0), climbs.1, climbs.2)

module _ {D : Type 0} {disk : Ghosts D} where
  -- ---- one more commit

  pub serves_push : (stream : ℕ) (s : Session D disk) (bs : List SettledValue) (t : Session D disk) (b : SettledValue) (u : Session D disk) → CommitsEach stream s bs t → MakesCommit t (entry_of_batch stream b.batch) (commit_result b.outcome) u → CommitsEach stream s (bs ++ b ∷ []) u
  serves_push stream s [] t b u serves writes =
      (u, subst (λ (z : Session D disk). MakesCommit z (entry_of_batch stream b.batch) (commit_result b.outcome) u) (sym serves) writes, refl)
  serves_push stream s (c ∷ bs) t b u serves writes = (serves.0, serves.1, serves_push stream serves.0 bs t b u serves.2 writes)

  -- The entry of a commit is that of a batch.
  as_batch : (hall : Hall D disk) (s u : Session D disk) (stream : ℕ) (cut : List RangeValue) (added points : List Point) (result : Result Receipt StepFault) (outcome : Outcome) → Commits hall s u (Commit stream cut added) result → cut ≡ [] → added ≡ sort points → commit_result outcome ≡ result → Commits hall s u (Commit stream [] (sort points)) (commit_result outcome)
  as_batch hall s u stream cut added points result outcome commits none all is =
      subst (λ r. Commits hall s u (Commit stream [] (sort points)) r) (sym is) (subst (λ c. Commits hall s u (Commit stream c (sort points)) result) none (subst (λ a. Commits hall s u (Commit stream cut a) result) all commits))

  -- The commit of a batch, as its entry was made.
  pub writes_of : (hall : Hall D disk) (s u : Session D disk) (stream : ℕ) (cut : List RangeValue) (added points : List Point) (result : Result Receipt StepFault) (outcome : Outcome) → IsSessionOf hall s → IsSessionOf hall u → IsSame s u → Commits hall s u (Commit stream cut added) result → cut ≡ [] → added ≡ sort points → commit_result outcome ≡ result → MakesCommit s (Commit stream [] (sort points)) (commit_result outcome) u
  writes_of hall s u stream cut added points result outcome before after same commits none all is = record {
    hall = hall;
    before = before;
    after = after;
    same = same;
    commits = as_batch hall s u stream cut added points result outcome commits none all is;
  }

  -- It is a commit of the hall.
  pub commit_in : (hall : Hall D disk) (s u : Session D disk) (stream : ℕ) (cut : List RangeValue) (added points : List Point) (result : Result Receipt StepFault) (outcome : Outcome) → IsSessionOf hall s → Commits hall s u (Commit stream cut added) result → cut ≡ [] → added ≡ sort points → commit_result outcome ≡ result → IsCommitIn hall (Commit stream [] (sort points)) (commit_result outcome)
  commit_in hall s u stream cut added points result outcome before commits none all is = record {
    old = s;
    new = u;
    session = before;
    commits = as_batch hall s u stream cut added points result outcome commits none all is;
  }

  -- ---- its hall

  -- A session after a commit is one of each hall of which it was one before.
  writes_session : (hall : Hall D disk) (s : Session D disk) (e : Entry) (result : Result Receipt StepFault) (t : Session D disk) → IsSessionOf hall s → MakesCommit s e result t → IsSessionOf hall t
  writes_session hall s e result t of writes = record {
    own = writes.after.own ∙ sym writes.before.own ∙ of.own;
    set = writes.after.set ∙ sym writes.before.set ∙ of.set;
  }

  -- What a commit says of the engine with which its hall began, it says in each hall that began with this engine.
  commits_there : (hall there : Hall D disk) (s u : Session D disk) (e : Entry) (result : Result Receipt StepFault) → opening_of hall ≡ opening_of there → Commits hall s u e result → Commits there s u e result
  commits_there hall there s u e result is commits = record {
    turn = commits.turn;
    before = commits.before;
    grows = commits.grows;
    alone = commits.alone;
    trace = subst (λ (x : Engine D disk). IsTraceOf x commits.before) is commits.trace;
    step = subst (λ (x : Engine D disk). IsStep (engine_after x commits.before) (engine_after x (seen_of u)) e result) is commits.step;
    seen = subst (λ (x : Engine D disk). seen_of u ≡ commits.before ++ option_to_list (item_by result e (engine_after x (seen_of u)))) is commits.seen;
    mine = commits.mine;
    stopped = subst (λ (x : Engine D disk). stopped_in x commits.before ≡ true → (h : List Entry) → IsEngineOf h x → result ≡ Err (Stopped (length (history_of h commits.before)))) is commits.stopped;
    sealed = subst (λ (x : Engine D disk). stopped_in x commits.before ≡ false → is_sealed x ≡ true → result ≡ Err Sealed) is commits.sealed;
    replies = subst (λ (x : Engine D disk). (h : List Entry) → IsEngineOf h x → CommitReplies x h commits.before (history_of h commits.before) e result) is commits.replies;
  }

  -- A commit of a session was made in each hall of which it is one.
  pub commit_there : (hall : Hall D disk) (s : Session D disk) (e : Entry) (result : Result Receipt StepFault) (u : Session D disk) → IsSessionOf hall s → MakesCommit s e result u → IsSessionOf hall u × IsSame s u × Commits hall s u e result
  commit_there hall s e result u of writes = (
    writes_session hall s e result u of writes,
    writes.same,
    commits_there writes.hall hall s u e result (some_is (sym writes.before.set ∙ of.set)) writes.commits,
  )

  -- The commits of a session were made in each hall of which it is one.
  pub chain_in : (hall : Hall D disk) (stream : ℕ) (s : Session D disk) (bs : List SettledValue) (t : Session D disk) → IsSessionOf hall s → CommitsEach stream s bs t → CommitsEachIn hall stream s bs t
  chain_in hall stream s [] t of serves = serves
  chain_in hall stream s (b ∷ bs) t of serves =
      let one = commit_there hall s (entry_of_batch stream b.batch) (commit_result b.outcome) serves.0 of serves.1 in
      (serves.0, one.0, one.1, one.2, chain_in hall stream serves.0 bs t one.0 serves.2)

  pub serves_session : (hall : Hall D disk) (stream : ℕ) (s : Session D disk) (bs : List SettledValue) (t : Session D disk) → IsSessionOf hall s → CommitsEach stream s bs t → IsSessionOf hall t
  serves_session hall stream s [] t of serves = subst (IsSessionOf hall) serves of
  serves_session hall stream s (b ∷ bs) t of serves =
      serves_session hall stream serves.0 bs t (writes_session hall s (entry_of_batch stream b.batch) (commit_result b.outcome) serves.0 of serves.1) serves.2

  pub serves_same : (stream : ℕ) (s : Session D disk) (bs : List SettledValue) (t : Session D disk) → CommitsEach stream s bs t → IsSame s t
  serves_same stream s [] t serves = record { share = ap share_of (sym serves); start = ap entries_at_start (sym serves) }
  serves_same stream s (b ∷ bs) t serves =
      let later = serves_same stream serves.0 bs t serves.2 in
      record { share = later.share ∙ serves.1.same.share; start = later.start ∙ serves.1.same.start }

  -- ---- the entries

  -- What stands in a list stands in each longer one.
  stands_later : (before rest l : List (Item D disk)) (item : Item D disk) (n : ℕ) → StartsWith l (before ++ item ∷ []) → n ≡ length before + 1 → StandsAt n item l
  stands_later before rest l item n longer number = (before, longer.0, longer.1 ∙ append_assoc before (item ∷ []) longer.0, number)

  -- One commit before others.
  module _ (hall : Hall D disk) (h : List Entry) (of : IsEngineOf h (opening_of hall)) (stream : ℕ) (s u t : Session D disk) (batch : BatchValue) (bs : List SettledValue) (is : IsSessionOf hall s) (rest : HasCommittedEach stream u bs t) where
    grows_on : (before more : List (Item D disk)) → StartsWith before (seen_of s) → seen_of u ≡ before ++ more → StartsWith (seen_of t) (seen_of s)
    grows_on before more grows seen =
        starts_trans (seen_of t) (seen_of u) (seen_of s) rest.grows (starts_trans (seen_of u) before (seen_of s) (more, seen) grows)

    added_one : (outcome : Outcome) (before : List (Item D disk)) (item : Item D disk) → StartsWith before (seen_of s) → seen_of u ≡ before ++ item ∷ [] → mine_of u ≡ mine_of s ++ length (seen_of u) ∷ []
        → (StandsAt (length (seen_of u)) item (seen_of t) → MakesOne stream (seen_of t) batch outcome (length (seen_of u) ∷ rest.own) (MakesEach stream (seen_of t) bs))
        → HasCommittedEach stream s (record { batch = batch; outcome = outcome } ∷ bs) t
    added_one outcome before item grows seen mine made =
        let n = length (seen_of u) in
        let long : n ≡ length before + 1 = ap (length {A = Item D disk}) seen ∙ length-append before (item ∷ []) in
        let below = starts_length before (seen_of s) grows in
        let above = starts_length (seen_of t) (seen_of u) rest.grows in
        let here : StartsWith (seen_of t) (before ++ item ∷ []) = subst (λ (l : List (Item D disk)). StartsWith (seen_of t) l) seen rest.grows in
        record {
          grows = grows_on before (item ∷ []) grows seen;
          own = n ∷ rest.own;
          mine = rest.mine ∙ ap (λ l. l ++ rest.own) mine ∙ append_assoc (mine_of s) (n ∷ []) rest.own;
          climbs = (omega (arith, long, below), above, rest.climbs);
          made = made (stands_later before [] (seen_of t) item n here long);
        }

    added_none : (outcome : Outcome) (before : List (Item D disk)) → StartsWith before (seen_of s) → seen_of u ≡ before ++ [] → mine_of u ≡ mine_of s ++ []
        → MakesOne stream (seen_of t) batch outcome rest.own (MakesEach stream (seen_of t) bs)
        → HasCommittedEach stream s (record { batch = batch; outcome = outcome } ∷ bs) t
    added_none outcome before grows seen mine made =
        let below = starts_length before (seen_of s) grows in
        let long : length (seen_of u) ≡ length before = ap (length {A = Item D disk}) (seen ∙ append-nil before) in
        record {
          grows = grows_on before [] grows seen;
          own = rest.own;
          mine = rest.mine ∙ ap (λ l. l ++ rest.own) (mine ∙ append-nil (mine_of s));
          climbs = climbs_lower (length (seen_of s)) (length (seen_of u)) rest.own (length (seen_of t)) (omega (arith, long, below)) rest.climbs;
          made = made;
        }

    one_more : (outcome : Outcome) → MakesCommit s (entry_of_batch stream batch) (commit_result outcome) u → HasCommittedEach stream s (record { batch = batch; outcome = outcome } ∷ bs) t
    one_more (Stored receipt) writes =
        let commits = writes.commits in
        let e = entry_of_batch stream batch in
        let y = engine_of writes.hall u in
        let open_is : opening_of hall ≡ opening_of writes.hall = some_is (sym is.set ∙ writes.before.set) in
        let replies = commits.replies h (subst (IsEngineOf h) open_is of) in
        let number : receipt.number ≡ length (seen_of u) = replies.2 ∙ sym (ap (length {A = Item D disk}) commits.seen ∙ length-append commits.before (Added (shown e) (shown y) ∷ [])) in
        added_one (Stored receipt) commits.before (Added (shown e) (shown y)) commits.grows commits.seen commits.mine
        (λ stands. (rest.own, y, ap (λ n. n ∷ rest.own) (sym number), subst (λ n. StandsAt n (Added (shown e) (shown y)) (seen_of t)) (sym number) stands, rest.made))
    one_more (Refused DeviceFault) writes =
        let commits = writes.commits in
        let e = entry_of_batch stream batch in
        let y = engine_of writes.hall u in
        added_one (Refused DeviceFault) commits.before (Halted (shown e) (shown y)) commits.grows commits.seen commits.mine
        (λ stands. (length (seen_of u), rest.own, y, refl, stands, rest.made))
    one_more (Refused (Stopped n)) writes = added_none (Refused (Stopped n)) writes.commits.before writes.commits.grows writes.commits.seen writes.commits.mine rest.made
    one_more (Refused Sealed) writes = added_none (Refused Sealed) writes.commits.before writes.commits.grows writes.commits.seen writes.commits.mine rest.made
    one_more (Refused (Rejected why)) writes = added_none (Refused (Rejected why)) writes.commits.before writes.commits.grows writes.commits.seen writes.commits.mine rest.made
    one_more (Refused Want) writes = added_none (Refused Want) writes.commits.before writes.commits.grows writes.commits.seen writes.commits.mine rest.made
    one_more (Refused (DeviceFull need left)) writes = added_none (Refused (DeviceFull need left)) writes.commits.before writes.commits.grows writes.commits.seen writes.commits.mine rest.made

  pub served_is_made : (hall : Hall D disk) (h : List Entry) → IsEngineOf h (opening_of hall) → (stream : ℕ) (s : Session D disk) (bs : List SettledValue) (t : Session D disk) → IsSessionOf hall s → CommitsEach stream s bs t → HasCommittedEach stream s bs t
  served_is_made hall h of stream s [] t is serves =
      subst (λ (z : Session D disk). HasCommittedEach stream s [] z) serves (record {
        grows = starts_refl (seen_of s);
        own = [];
        mine = sym (append-nil (mine_of s));
        climbs = tt;
        made = refl;
      })
  served_is_made hall h of stream s (b ∷ bs) t is serves =
      let u = serves.0 in
      let there = writes_session hall s (entry_of_batch stream b.batch) (commit_result b.outcome) u is serves.1 in
      one_more hall h of stream s u t b.batch bs is (served_is_made hall h of stream u bs t there serves.2) b.outcome serves.1
