-- What the session of a group commits: one entry for each batch that is settled.
use Rattle.std.specs.Prelude.{◌≡◌, ℕ, List, [], ◌∷◌, Option, Some, None, Result, Ok, Err}
use Rattle.btr_base.specs.Bag.{sort}
use Rattle.btr_disk.specs.declared.disk.Disk.{Ghosts}
use Rattle.btr_hist.specs.declared.entry.Entry.{Entry}
use Rattle.btr_hist.specs.declared.entry.Entry.TheVariants.{Commit}
use Rattle.btr_streams.specs.declared.board.Receipt.{Receipt}
use Rattle.btr_engine.specs.declared.step.StepFault.{StepFault}
use Rattle.btr_hall.specs.declared.session.Hall.{Hall}
use Rattle.btr_hall.specs.declared.session.Session.{Session}
use Rattle.btr_hall.specs.Session.{IsSessionOf, IsSame}
use Rattle.btr_hall.specs.Commit.{Commits}
use Rattle.btr_hall.specs.declared.group_answers.Outcome.{Outcome}
use Rattle.btr_hall.specs.declared.group_answers.Outcome.TheVariants.{Stored, Refused}
use Rattle.btr_hall.specs.GroupBook.{BatchValue, SettledValue, all_points}

-- The entry of a batch: it adds the points of its offers to the stream.
abbrev pub entry_of_batch : ℕ → BatchValue → Entry
entry_of_batch stream b = Commit stream [] (sort (all_points b.offers))

-- The result of a commit with this outcome.
abbrev pub commit_result : Outcome → Result Receipt StepFault
commit_result (Stored receipt) = Ok receipt
commit_result (Refused fault) = Err fault

module _ {D : Type 0} {disk : Ghosts D} where
  -- A session of a hall made a commit, which had this entry and returned this.
  pub record MakesCommit (s : Session D disk) (e : Entry) (result : Result Receipt StepFault) (t : Session D disk) : Type 0 where
    pub hall : Hall D disk
    pub before : IsSessionOf hall s
    pub after : IsSessionOf hall t
    pub same : IsSame s t
    pub commits : Commits hall s t e result

  -- A session of this hall made a commit, which had this entry and returned this.
  pub record IsCommitIn (hall : Hall D disk) (e : Entry) (result : Result Receipt StepFault) : Type 0 where
    pub old : Session D disk
    pub new : Session D disk
    pub session : IsSessionOf hall old
    pub commits : Commits hall old new e result

  -- From the first session to the last a commit was made of each batch, in order, with its outcome.
  abbrev pub CommitsEach : ℕ → Session D disk → List SettledValue → Session D disk → Type 0
  CommitsEach stream s [] t = s ≡ t
  CommitsEach stream s (b ∷ bs) t =
      (u : Session D disk) × MakesCommit s (entry_of_batch stream b.batch) (commit_result b.outcome) u × CommitsEach stream u bs t

  -- The same of one hall: each session is of it, and each commit was made in it.
  abbrev pub CommitsEachIn : Hall D disk → ℕ → Session D disk → List SettledValue → Session D disk → Type 0
  CommitsEachIn hall stream s [] t = s ≡ t
  CommitsEachIn hall stream s (b ∷ bs) t =
      (u : Session D disk) × IsSessionOf hall u × IsSame s u × Commits hall s u (entry_of_batch stream b.batch) (commit_result b.outcome)
      × CommitsEachIn hall stream u bs t

  -- The session that is at home has made the commits of the settled batches.
  abbrev pub HasCommitted : ℕ → Session D disk → List SettledValue → Option (Session D disk) → Type 0
  HasCommitted stream s settled None = Unit {0}
  HasCommitted stream s settled (Some t) = CommitsEach stream s settled t
