-- Lemmas on a line that brings an output up to date: from what became of the output to the reply.
use Rattle.std.specs.Prelude.{◌≡◌, ℕ, Bool, true, List, Result, Ok, Err}
use Rattle.std.proofs.Common.{refl, sym, subst, inl, inr}
use Rattle.btr_disk.specs.declared.disk.Disk.{Ghosts}
use Rattle.btr_hist.specs.declared.entry.Entry.{Entry}
use Rattle.btr_distil.specs.Plan.{PlanValue, entry_of}
use Rattle.btr_plan.specs.Next.{IsNextPlan}
use Rattle.btr_streams.specs.declared.board.Receipt.{Receipt}
use Rattle.btr_text.specs.declared.reply.LineReply.{LineReply}
use Rattle.btr_text.specs.declared.reply.LineReply.TheVariants as replies
use Rattle.btr_text.specs.declared.reply.Reason.TheVariants as reasons
use Rattle.btr_gate.specs.Prefixes.{StartsWith}
use Rattle.btr_gate.proofs.PrefixLemmas.{starts_refl}
use Rattle.btr_hall.specs.declared.land.LandFault.{LandFault}
use Rattle.btr_hall.specs.declared.land.LandFault.TheVariants as faults
use Rattle.btr_hall.specs.declared.session.Hall.{Hall}
use Rattle.btr_hall.specs.declared.session.Session.{Session}
use Rattle.btr_jobs.specs.States.{StoreState, LogState, start_of, log_seen}
use Rattle.btr_jobs.specs.Turns.{Landed}
use Rattle.btr_jobs.specs.Jobs.{Does}
use Rattle.btr_jobs.proofs.StateLemmas.{history_goes_on}
use Rattle.btr_work.specs.declared.report.Refreshed.{Refreshed}
use Rattle.btr_work.specs.declared.report.Refreshed.TheVariants as refreshed
use Rattle.btr_work.specs.Report.{IsPlanLanded, IsRefreshed, IsOfStopped, KnowsStopped}
use Rattle.btr_live.specs.Meaning.{Commits, Current, Refuses}
use Rattle.btr_live.specs.Lanes.{reply_of_landing, Offers}
use Rattle.btr_live.specs.Serving.{Serves, RefreshAsks, reply_of_refreshed, was_reported, ServesIn}
use Rattle.btr_live.proofs.OutputLines.{refresh-plan, refresh-up_to_date}

module _ (start : StoreState) (log : LogState) where
  -- The history that is known after a landing begins that of the log.
  landed_ends : (p : List Entry) (plan : PlanValue) (result : Result Receipt LandFault) (own : List ℕ) (next : List Entry) → StartsWith log.history p → Landed start log p plan result own next → StartsWith log.history next
  landed_ends p plan (Ok receipt) own next begins is = subst (StartsWith log.history) (sym is.2.next) is.2.follows
  landed_ends p plan (Err (faults.Stopped entries)) own next begins is = subst (StartsWith log.history) (sym is.1.next) begins
  landed_ends p plan (Err faults.Sealed) own next begins is = subst (StartsWith log.history) (sym is.1.next) begins
  landed_ends p plan (Err (faults.Superseded version)) own next begins is = subst (StartsWith log.history) (sym is.3.next) begins
  landed_ends p plan (Err faults.VersionLimit) own next begins is = subst (StartsWith log.history) (sym is.2.next) begins
  landed_ends p plan (Err (faults.Crowded at)) own next begins is = subst (StartsWith log.history) (sym is.3.next) begins
  landed_ends p plan (Err (faults.TooManyPoints count)) own next begins is = subst (StartsWith log.history) (sym is.3.next) begins
  landed_ends p plan (Err faults.Want) own next begins is = subst (StartsWith log.history) (sym is.2.next) begins
  landed_ends p plan (Err (faults.DeviceFull need left)) own next begins is = subst (StartsWith log.history) (sym is.3.next) begins
  landed_ends p plan (Err faults.DeviceFault) own next begins is = subst (StartsWith log.history) (sym is.2.next) begins

  module _ (saw_failure : Bool) (low : List Entry) (stream : ℕ) (own : List ℕ) where
    -- Who saw the device fail has a reply that says so.
    abbrev SaysAgain : LineReply → Type 0
    SaysAgain reply = saw_failure ≡ true → (count : ℕ) × (reply ≡ replies.No (reasons.Stopped count))

    -- A plan was landed.
    plan_serves : (result : Result Receipt LandFault) → SaysAgain (reply_of_landing result) → IsPlanLanded start log low stream result own → Serves start log saw_failure low (RefreshAsks stream) (reply_of_landing result) own
    plan_serves result again is =
        let planned : IsNextPlan is.at is.plan.stream is.plan = subst (λ s. IsNextPlan is.at s is.plan) (sym is.planned.same_stream) is.planned in
        let offers : Offers start log saw_failure is.at (entry_of is.plan) (reply_of_landing result) own is.next = (is.plan, planned, refl, result, is.landed, refl, again) in record {
          admitted = is.at;
          after = is.after;
          begins = is.seen;
          asked = Commits (entry_of is.plan);
          asks = inl (refresh-plan is.at stream is.plan is.planned);
          replies = record {
            next = is.next;
            answers = offers;
            ends = landed_ends is.landed.0 is.plan result own is.next is.landed.2 is.landed.3;
          };
        }

    never_so : (fault : LandFault) → (saw_failure ≡ true → ⊥) → SaysAgain (reply_of_landing (Err fault))
    never_so fault none = λ reported. absurd (none reported)

    -- What became of the output is replied.
    by_refreshed : (result : Refreshed) → StartsWith log.history low → (saw_failure ≡ true → IsOfStopped result) → IsRefreshed start log low stream result own → Serves start log saw_failure low (RefreshAsks stream) (reply_of_refreshed result) own
    by_refreshed (refreshed.Landed version) begins stopped is =
        subst (λ v. Serves start log saw_failure low (RefreshAsks stream) (replies.Done v) own) (sym is.1)
        (plan_serves (Ok is.0) (λ reported. absurd (stopped reported)) is.2)
    by_refreshed (refreshed.Current version) begins stopped is = record {
      admitted = is.at;
      after = is.after;
      begins = is.seen;
      asked = Current version;
      asks = inl (refresh-up_to_date is.at stream version is.current);
      replies = record {
        next = is.at;
        answers = (refl, record { own = is.none; next = refl });
        ends = is.seen;
      };
    }
    by_refreshed (refreshed.Refused faults.Want) begins stopped is = record {
      admitted = low;
      after = starts_refl low;
      begins = begins;
      asked = Refuses reasons.Memory;
      asks = inr refl;
      replies = record { next = low; answers = (refl, record { own = is; next = refl }); ends = begins };
    }
    by_refreshed (refreshed.Refused (faults.Stopped entries)) begins stopped is = plan_serves (Err (faults.Stopped entries)) (λ reported. (entries, refl)) is
    by_refreshed (refreshed.Refused faults.Sealed) begins stopped is = plan_serves (Err faults.Sealed) (never_so faults.Sealed stopped) is
    by_refreshed (refreshed.Refused (faults.Superseded version)) begins stopped is =
        plan_serves (Err (faults.Superseded version)) (never_so (faults.Superseded version) stopped) is
    by_refreshed (refreshed.Refused faults.VersionLimit) begins stopped is = plan_serves (Err faults.VersionLimit) (never_so faults.VersionLimit stopped) is
    by_refreshed (refreshed.Refused (faults.Crowded at)) begins stopped is = plan_serves (Err (faults.Crowded at)) (never_so (faults.Crowded at) stopped) is
    by_refreshed (refreshed.Refused (faults.TooManyPoints count)) begins stopped is =
        plan_serves (Err (faults.TooManyPoints count)) (never_so (faults.TooManyPoints count) stopped) is
    by_refreshed (refreshed.Refused (faults.DeviceFull need left)) begins stopped is =
        plan_serves (Err (faults.DeviceFull need left)) (never_so (faults.DeviceFull need left) stopped) is
    by_refreshed (refreshed.Refused faults.DeviceFault) begins stopped is = plan_serves (Err faults.DeviceFault) (never_so faults.DeviceFault stopped) is

-- An output that was brought up to date in a session is what a line asks for, and has its reply.
pub refreshed_serves : {D : Type 0} {disk : Ghosts D} (hall : Hall D disk) (old new : Session D disk) (stream : ℕ) (result : Refreshed) → Does hall old new (λ start log low own. IsRefreshed start log low stream result own) → (KnowsStopped hall old → IsOfStopped result) → ServesIn hall old new (RefreshAsks stream) (reply_of_refreshed result)
refreshed_serves hall old new stream result does stopped = (
  does.0,
  does.1,
  λ h of.
      by_refreshed (start_of h hall) (log_seen h new) (was_reported hall old) (log_seen h old).history stream does.0 result
      (history_goes_on h new old does.1.seen) (λ reported. stopped (h, of, reported)) (does.2 h of),
)
