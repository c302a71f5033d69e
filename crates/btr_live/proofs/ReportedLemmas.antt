-- Lemmas on failures of the device: a reply tells of one only if there was one, and who saw it gets a reply that says so again.
use Rattle.std.specs.Prelude.{◌≡◌, ℕ, Bool, true, false, ◌||◌, if◌then◌else◌, List, Some, None, Result, Ok, Err}
use Rattle.std.specs.Option.{is_some}
use Rattle.std.proofs.Common.{refl, sym, ap, ◌∙◌}
use Rattle.std.proofs.lemmas.Bool.{or_right}
use Rattle.btr_disk.specs.declared.disk.Disk.{Ghosts}
use Rattle.btr_hist.specs.declared.entry.Entry.{Entry}
use Rattle.btr_hist.specs.declared.entry.Entry.TheVariants as entries
use Rattle.btr_hist.specs.declared.rejection.Rejection.{Rejection}
use Rattle.btr_hist.specs.declared.rejection.Rejection.TheVariants as rejections
use Rattle.btr_distil.specs.Plan.{PlanValue, entry_of}
use Rattle.btr_text.specs.declared.reply.LineReply.{LineReply}
use Rattle.btr_text.specs.declared.reply.LineReply.TheVariants.{No}
use Rattle.btr_text.specs.Reasons.{reason_of_rejection}
use Rattle.btr_streams.specs.declared.board.Receipt.{Receipt}
use Rattle.btr_engine.specs.declared.engine.Engine.{Engine}
use Rattle.btr_engine.specs.declared.step.StepFault.{StepFault}
use Rattle.btr_engine.specs.declared.step.StepFault.TheVariants as steps
use Rattle.btr_engine.specs.Engine.{is_stopped}
use Rattle.btr_gate.specs.Prefixes.{StartsWith}
use Rattle.btr_hall.specs.declared.item.Item.{Item}
use Rattle.btr_hall.specs.declared.land.LandFault.{LandFault}
use Rattle.btr_hall.specs.declared.land.LandFault.TheVariants as faults
use Rattle.btr_hall.specs.declared.session.Hall.{Hall}
use Rattle.btr_hall.specs.declared.session.Session.{Session}
use Rattle.btr_hall.specs.Trace.{has_halt, stopped_in}
use Rattle.btr_hall.specs.Session.{opening_of, seen_of}
use Rattle.btr_hall.proofs.TraceLemmas.{halt_append}
use Rattle.btr_jobs.specs.States.{StoreState, LogState, log_seen, start_of}
use Rattle.btr_jobs.specs.Turns.{Committed, CommittedAfter, Landed, LandedAfter}
use Rattle.btr_jobs.proofs.StateLemmas.{failed_halt}
use Rattle.btr_live.specs.Meaning.{Meaning, Commits, Asks, Holds, Current, Refuses}
use Rattle.btr_live.specs.Reasons.{holder}
use Rattle.btr_live.specs.Lanes.{reply_of_step, reply_of_landing, Offers, Answers, is_failure, tells_failure}
use Rattle.btr_live.specs.Serving.{was_reported}

-- Whether the store was stopped from the beginning, or its device has failed.
abbrev pub has_failed : StoreState → LogState → Bool
has_failed start log = start.stopped || is_some log.failed

never : (P : Type 0) → false ≡ true → P
never P is = absurd (cc)

-- ---- replies

-- The reason of a rejection tells nothing of a failure.
pub rejection_tells : (id : ℕ) (why : Rejection) → is_failure (No (reason_of_rejection id why)) ≡ false
rejection_tells id rejections.NoStream = refl
rejection_tells id rejections.StreamExists = refl
rejection_tells id rejections.NotWritable = refl
rejection_tells id (rejections.OutOfDomain time) = refl
rejection_tells id rejections.Empty = refl
rejection_tells id (rejections.TooMany count) = refl
rejection_tells id rejections.StreamLimit = refl
rejection_tells id rejections.VersionLimit = refl
rejection_tells id rejections.BadSpec = refl
rejection_tells id (rejections.BadFirst first present last) = refl
rejection_tells id (rejections.Held output version) = refl
rejection_tells id (rejections.Crowded at) = refl
rejection_tells id (rejections.TooManyPoints count) = refl

module _ (start : StoreState) (log : LogState) where
  stopped_by : (e : Entry) → log.failed ≡ Some e → has_failed start log ≡ true
  stopped_by e is = or_right start.stopped (is_some log.failed) (ap is_some is)

  step_tells : (p : List Entry) (e : Entry) (result : Result Receipt StepFault) (own : List ℕ) (next : List Entry) → Committed start log p e result own next → is_failure (reply_of_step p result) ≡ true → has_failed start log ≡ true
  step_tells p e (Ok receipt) own next is tells = never _ tells
  step_tells p e (Err (steps.Stopped entries)) own next is tells = is.0.stopped
  step_tells p e (Err steps.Sealed) own next is tells = never _ tells
  step_tells p e (Err (steps.Rejected why)) own next is tells = never _ (sym (rejection_tells (holder p why) why) ∙ tells)
  step_tells p e (Err steps.Want) own next is tells = never _ tells
  step_tells p e (Err (steps.DeviceFull need left)) own next is tells = never _ tells
  step_tells p e (Err steps.DeviceFault) own next is tells = stopped_by e is.1.failed

  landing_tells : (p : List Entry) (plan : PlanValue) (result : Result Receipt LandFault) (own : List ℕ) (next : List Entry) → Landed start log p plan result own next → is_failure (reply_of_landing result) ≡ true → has_failed start log ≡ true
  landing_tells p plan (Ok receipt) own next is tells = never _ tells
  landing_tells p plan (Err (faults.Stopped entries)) own next is tells = is.0.stopped
  landing_tells p plan (Err faults.Sealed) own next is tells = never _ tells
  landing_tells p plan (Err (faults.Superseded version)) own next is tells = never _ tells
  landing_tells p plan (Err faults.VersionLimit) own next is tells = never _ tells
  landing_tells p plan (Err (faults.Crowded at)) own next is tells = never _ tells
  landing_tells p plan (Err (faults.TooManyPoints count)) own next is tells = never _ tells
  landing_tells p plan (Err faults.Want) own next is tells = never _ tells
  landing_tells p plan (Err (faults.DeviceFull need left)) own next is tells = never _ tells
  landing_tells p plan (Err faults.DeviceFault) own next is tells = stopped_by (entry_of plan) is.2.failed

  step_after : (a : List Entry) (e : Entry) (result : Result Receipt StepFault) (reply : LineReply) (own : List ℕ) (next : List Entry) → (turn : CommittedAfter start log a e result own next) → reply ≡ reply_of_step turn.0 result → is_failure reply ≡ true → has_failed start log ≡ true
  step_after a e result reply own next is same tells = step_tells is.0 e result own next is.3 (ap is_failure (sym same) ∙ tells)

  landing_after : (a : List Entry) (plan : PlanValue) (result : Result Receipt LandFault) (reply : LineReply) (own : List ℕ) (next : List Entry) → LandedAfter start log a plan result own next → reply ≡ reply_of_landing result → is_failure reply ≡ true → has_failed start log ≡ true
  landing_after a plan result reply own next is same tells = landing_tells is.0 plan result own next is.3 (ap is_failure (sym same) ∙ tells)

  offers_tells : (saw_failure : Bool) (a : List Entry) (e : Entry) (reply : LineReply) (own : List ℕ) (next : List Entry) → Offers start log saw_failure a e reply own next → is_failure reply ≡ true → has_failed start log ≡ true
  offers_tells saw_failure a (entries.Create id) reply own next is tells = step_after a (entries.Create id) is.0 reply own next is.1 is.2 tells
  offers_tells saw_failure a (entries.Define id spec) reply own next is tells = step_after a (entries.Define id spec) is.0 reply own next is.1 is.2 tells
  offers_tells saw_failure a (entries.Commit stream cut added) reply own next is tells =
      step_after a (entries.Commit stream cut added) is.0 reply own next is.1 is.2 tells
  offers_tells saw_failure a (entries.Distillate stream cut added reads) reply own next is tells =
      landing_after a is.0 is.3 reply own next is.4 is.5 tells
  offers_tells saw_failure a (entries.Retire stream first) reply own next is tells =
      step_after a (entries.Retire stream first) is.0 reply own next is.1 is.2 tells

  -- A reply to what a line asks for tells of a failure only if there was one.
  pub answers_tell : (saw_failure : Bool) (a : List Entry) (m : Meaning) (reply : LineReply) (own : List ℕ) (next : List Entry) → Answers start log saw_failure a m reply own next → tells_failure m reply ≡ true → has_failed start log ≡ true
  answers_tell saw_failure a (Commits e) reply own next is tells = offers_tells saw_failure a e reply own next is tells
  answers_tell saw_failure a (Asks query) reply own next is tells = never _ tells
  answers_tell saw_failure a (Holds count) reply own next is tells = never _ tells
  answers_tell saw_failure a (Current version) reply own next is tells = never _ tells
  answers_tell saw_failure a (Refuses reason) reply own next is tells = never _ tells

  -- ---- who saw the device fail

  offers_reported : (more saw_failure : Bool) → (saw_failure ≡ true → more ≡ true) → (a : List Entry) (e : Entry) (reply : LineReply) (own : List ℕ) (next : List Entry) → Offers start log more a e reply own next → Offers start log saw_failure a e reply own next
  offers_reported more saw_failure implies a (entries.Create id) reply own next is = (is.0, is.1, is.2, λ t. is.3 (implies t))
  offers_reported more saw_failure implies a (entries.Define id spec) reply own next is = (is.0, is.1, is.2, λ t. is.3 (implies t))
  offers_reported more saw_failure implies a (entries.Commit stream cut added) reply own next is = (is.0, is.1, is.2, λ t. is.3 (implies t))
  offers_reported more saw_failure implies a (entries.Distillate stream cut added reads) reply own next is =
      (is.0, is.1, is.2, is.3, is.4, is.5, λ t. is.6 (implies t))
  offers_reported more saw_failure implies a (entries.Retire stream first) reply own next is = (is.0, is.1, is.2, λ t. is.3 (implies t))

  -- What is replied to who saw it is also replied to who did not.
  pub answers_reported : (more saw_failure : Bool) → (saw_failure ≡ true → more ≡ true) → (a : List Entry) (m : Meaning) (reply : LineReply) (own : List ℕ) (next : List Entry) → Answers start log more a m reply own next → Answers start log saw_failure a m reply own next
  answers_reported more saw_failure implies a (Commits e) reply own next is = offers_reported more saw_failure implies a e reply own next is
  answers_reported more saw_failure implies a (Asks query) reply own next is = is
  answers_reported more saw_failure implies a (Holds count) reply own next is = is
  answers_reported more saw_failure implies a (Current version) reply own next is = is
  answers_reported more saw_failure implies a (Refuses reason) reply own next is = is

-- ---- sessions

or_more : (a b c : Bool) → (a || b) ≡ true → (a || (b || c)) ≡ true
or_more true b c is = refl
or_more false true c is = refl
or_more false false c is = never _ is

-- Whether a session sees that the store is stopped, and the number of entries if so.
pub reported_some : (saw_failure : Bool) (count entries : ℕ) → (if saw_failure then Some count else None) ≡ Some entries → (saw_failure ≡ true) × (entries ≡ count)
reported_some true count entries is = (refl, cc)
reported_some false count entries is = absurd (cc)

pub reported_none : (saw_failure : Bool) (count : ℕ) → (if saw_failure then Some count else None) ≡ None → saw_failure ≡ false
reported_none true count is = absurd (cc)
reported_none false count is = refl

pub reported_not : (P : Type 0) (saw_failure : Bool) → saw_failure ≡ false → saw_failure ≡ true → P
reported_not P saw_failure not is = never P (sym not ∙ is)

module _ {D : Type 0} {disk : Ghosts D} where
  -- A list that begins with one that has a halt has it too.
  pub stopped_longer : (x : Engine D disk) (l k : List (Item D disk)) → StartsWith l k → stopped_in x k ≡ true → stopped_in x l ≡ true
  stopped_longer x l k starts is =
      ap (λ b. is_stopped x || b) (ap (has_halt {disk = disk}) starts.1 ∙ halt_append k starts.0)
      ∙ or_more (is_stopped x) (has_halt k) (has_halt starts.0) is

  -- A session has seen that the store is stopped exactly if its log says so.
  pub reported_failed : (h : List Entry) (hall : Hall D disk) (s : Session D disk) → was_reported hall s ≡ has_failed (start_of h hall) (log_seen h s)
  reported_failed h hall s = ap (λ b. is_stopped (opening_of hall) || b) (sym (failed_halt (seen_of s)))
