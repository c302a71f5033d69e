-- What the batches of a buffer added serves the script: each entry has the points of some `feed` lines, of any lanes. If no batch found the
-- device full, each has an outcome with a benign status.
use Rattle.std.specs.Prelude.{◌≡◌, ℕ, ◌+◌, ◌≤◌, false, List, [], ◌∷◌, ◌++◌, length, None}
use Rattle.std.specs.List.{AllByRecursion}
use Rattle.std.proofs.Common.{refl, sym, ap, subst, arith, inl, inr}
use Rattle.btr_base.specs.declared.point.Point.{Point}
use Rattle.btr_base.specs.Bag.{sort}
use Rattle.btr_hist.specs.declared.entry.Entry.{Entry}
use Rattle.btr_hist.specs.declared.entry.Entry.TheVariants as entries
use Rattle.btr_hist.specs.declared.rejection.Rejection.{Rejection}
use Rattle.btr_hist.specs.declared.rejection.Rejection.TheVariants as rejections
use Rattle.btr_hist.specs.Legal.{Follows}
use Rattle.btr_gate.specs.Numbers.{total, times}
use Rattle.btr_gate.specs.Prefixes.{StartsWith}
use Rattle.btr_gate.proofs.PrefixLemmas.{starts_trans}
use Rattle.btr_engine.specs.declared.step.StepFault.TheVariants as steps
use Rattle.btr_jobs.specs.States.{StoreState, LogState}
use Rattle.btr_jobs.specs.Turns.{IsIdle, CommittedAfter}
use Rattle.btr_text.specs.declared.script.ScriptLine.{ScriptLine}
use Rattle.btr_hall.specs.declared.group_answers.Outcome.{Outcome}
use Rattle.btr_hall.specs.declared.group_answers.Outcome.TheVariants.{Stored, Refused}
use Rattle.btr_hall.specs.GroupBook.{BatchValue, SettledValue}
use Rattle.btr_group.specs.Serves.{entry_of_batch, commit_result}
use Rattle.btr_live.specs.SharedLines.{reply_of_outcome}
use Rattle.btr_store.specs.Completes.{IsBenign}
use Rattle.btr_store.specs.Replies.{status_of_reply}
use Rattle.btr_store.specs.Shared.{RunsBatches}
use Rattle.btr_top.specs.declared.live.FeedKind.TheVariants.{Shared}
use Rattle.btr_top.specs.Room.{Purpose, OfFeeds, has_line, has_landing, IsFeedOf, CommitsShared, Service}
use Rattle.btr_top.proofs.ServiceLemmas.{counted, lines_had, landings_had, counted_append, lines_append, landings_none, Served, served_append}
use Rattle.btr_top.proofs.LineTurns.{not_stopped, not_failed}
use Rattle.btr_top.proofs.LaneServes.{Refusal}
use Rattle.btr_top.proofs.WaitingPlaces.{feed_longer}
use Rattle.btr_top.proofs.BookPlaces.{AreGifts, gifts_points, AreSettled}

-- The outcome asks for a benign status.
abbrev pub IsCalmOutcome : Outcome → Type 0
IsCalmOutcome outcome = IsBenign (status_of_reply (reply_of_outcome outcome))

abbrev pub AreCalmBatches : List SettledValue → Type 0
AreCalmBatches bs = AllByRecursion (λ (b : SettledValue). IsCalmOutcome b.outcome) bs

calm_rejection : (why : Rejection) → IsCalmOutcome (Refused (steps.Rejected why))
calm_rejection rejections.NoStream = inr (inl refl)
calm_rejection rejections.StreamExists = inr (inl refl)
calm_rejection rejections.NotWritable = inr (inl refl)
calm_rejection (rejections.OutOfDomain time) = inr (inl refl)
calm_rejection rejections.Empty = inr (inl refl)
calm_rejection (rejections.TooMany count) = inr (inl refl)
calm_rejection rejections.StreamLimit = inr (inl refl)
calm_rejection rejections.VersionLimit = inr (inl refl)
calm_rejection rejections.BadSpec = inr (inl refl)
calm_rejection (rejections.BadFirst first present last) = inr (inl refl)
calm_rejection (rejections.Held output version) = inr (inl refl)
calm_rejection (rejections.Crowded start) = inr (inl refl)
calm_rejection (rejections.TooManyPoints count) = inr (inl refl)

module _ (threshold rounds : ℕ) (script : List ScriptLine) (start : StoreState) (log : LogState) (running : start.stopped ≡ false) (sound : log.failed ≡ None) (follows : Follows log.history) (low : List Entry) where
  abbrev Here : Service → Type 0
  Here s = Served (Shared threshold) rounds script low log.history s

  -- A batch or a line found the device full, of this entry.
  abbrev pub FindsFull : List Entry → Entry → Purpose → Type 0
  FindsFull p e purpose = Refusal (Shared threshold) rounds script start log running sound follows low p e purpose

  abbrev pub NoLanding : Purpose → Type 0
  NoLanding purpose = (round output : ℕ) → has_landing round output purpose ≡ 0

  module _ (stream : ℕ) where
    -- ---- one batch

    each_feeds : (p : List Entry) (places : List ℕ) (offers : List (List Point)) → StartsWith p low → AreGifts script low stream places offers → AllByRecursion (λ place. (lane : ℕ) × IsFeedOf script p lane stream place) places
    each_feeds p [] [] since are = tt
    each_feeds p [] (points ∷ offers) since are = absurd are
    each_feeds p (place ∷ places) [] since are = absurd are
    each_feeds p (place ∷ places) (points ∷ offers) since are =
        ((are.0.lane, feed_longer script p low are.0.lane stream place since are.0.feeds), each_feeds p places offers since are.1)

    -- The entry of a batch after p has the points of its lines.
    batch_for : (p : List Entry) (b : BatchValue) (places : List ℕ) → StartsWith p low → AreGifts script low stream places b.offers → CommitsShared script p (entry_of_batch stream b) places
    batch_for p b places since are = record {
      stream = stream;
      are = each_feeds p places b.offers since are;
      commits = ap (λ points. entries.Commit stream [] (sort points)) (gifts_points script low stream places b.offers are);
    }

    -- What a batch of the lines with these places did.
    record BatchServes (places : List ℕ) (outcome : Outcome) (own : List ℕ) (next : List Entry) : Type 0 where
      services : List Service
      numbers : (n : ℕ) → counted n services ≡ times n own
      are : AllByRecursion Here services
      lines : (k : ℕ) → lines_had k services ≤ times k places
      landings : (round output : ℕ) → landings_had round output services ≡ 0
      since : StartsWith next low
      calm : ((p : List Entry) (e : Entry) (purpose : Purpose) → FindsFull p e purpose → NoLanding purpose → ((k : ℕ) → has_line k purpose + lines_had k services ≤ times k places) → ⊥) → IsCalmOutcome outcome

    module _ (b : BatchValue) (places : List ℕ) (are : AreGifts script low stream places b.offers) (at : List Entry) (after : StartsWith at low) (own : List ℕ) (next : List Entry) where
      idle : (outcome : Outcome) (p : List Entry) → StartsWith p at → IsIdle p own next → IsCalmOutcome outcome → BatchServes places outcome own next
      idle outcome p starts is calm = record {
        services = [];
        numbers = λ n. sym (ap (times n) is.own);
        are = tt;
        lines = λ k. omega arith;
        landings = λ round output. refl;
        since = subst (λ (h : List Entry). StartsWith h low) (sym is.next) (starts_trans p at low starts after);
        calm = λ never. calm;
      }

      batch_serves : (outcome : Outcome) → CommittedAfter start log at (entry_of_batch stream b) (commit_result outcome) own next → BatchServes places outcome own next
      batch_serves (Stored receipt) is =
          let p : List Entry = is.0 in
          let e : Entry = entry_of_batch stream b in
          let added = is.3.2 in
          let since = starts_trans p at low is.1 after in
          let s : Service = record { number = length p + 1; purpose = OfFeeds places } in
          let here : Here s = record { before = p; entry = e; there = added.follows; since = since; same_number = refl; is_for = batch_for p b places since are } in
          record {
            services = s ∷ [];
            numbers = λ n. sym (ap (times n) added.own);
            are = (here, tt);
            lines = λ k. omega arith;
            landings = λ round output. refl;
            since = subst (λ (h : List Entry). StartsWith h low) (sym added.next) (starts_trans (p ++ e ∷ []) p low (e ∷ [], refl) since);
            calm = λ never. inl refl;
          }
      batch_serves (Refused (steps.Stopped entries)) is = absurd (not_stopped start log running sound follows low is.3.0.stopped)
      batch_serves (Refused steps.Sealed) is = idle (Refused steps.Sealed) is.0 is.1 is.3.1 (inr (inl refl))
      batch_serves (Refused (steps.Rejected why)) is = idle (Refused (steps.Rejected why)) is.0 is.1 is.3.1 (calm_rejection why)
      batch_serves (Refused steps.Want) is = idle (Refused steps.Want) is.0 is.1 is.3.1 (inr (inr refl))
      batch_serves (Refused (steps.DeviceFull need left)) is =
          let p : List Entry = is.0 in
          let since = starts_trans p at low is.1 after in
          let turn = is.3 in
          record {
            services = [];
            numbers = λ n. sym (ap (times n) turn.2.own);
            are = tt;
            lines = λ k. omega arith;
            landings = λ round output. refl;
            since = subst (λ (h : List Entry). StartsWith h low) (sym turn.2.next) since;
            calm = λ never.
                absurd (never p (entry_of_batch stream b) (OfFeeds places)
                record { starts = is.2; since = since; accepted = turn.0; is_for = batch_for p b places since are; need = need; left = left; full = turn.1 }
                (λ round output. refl) (λ k. omega arith));
          }
      batch_serves (Refused steps.DeviceFault) is = absurd (not_failed start log running sound follows low (entry_of_batch stream b) is.3.1.failed)

    -- ---- all batches

    pub record BatchesServe (places : List (List ℕ)) (bs : List SettledValue) (own : List ℕ) : Type 0 where
      pub services : List Service
      pub numbers : (n : ℕ) → counted n services ≡ times n own
      pub are : AllByRecursion Here services
      pub lines : (k : ℕ) → lines_had k services ≤ total (times k) places
      pub landings : (round output : ℕ) → landings_had round output services ≡ 0
      pub calm : ((p : List Entry) (e : Entry) (purpose : Purpose) → FindsFull p e purpose → NoLanding purpose → ((k : ℕ) → has_line k purpose + lines_had k services ≤ total (times k) places) → ⊥) → AreCalmBatches bs

    pub batches_serve : (at : List Entry) (places : List (List ℕ)) (bs : List SettledValue) (own : List ℕ) → StartsWith at low → AreSettled script low stream places bs → RunsBatches start log stream at bs own → BatchesServe places bs own
    batches_serve at [] [] own after are is = record {
      services = [];
      numbers = λ n. sym (ap (times n) is);
      are = tt;
      lines = λ k. omega arith;
      landings = λ round output. refl;
      calm = λ never. tt;
    }
    batches_serve at [] (b ∷ bs) own after are is = absurd are
    batches_serve at (p ∷ places) [] own after are is = absurd are
    batches_serve at (mine ∷ places) (b ∷ bs) own after are is =
        let first = batch_serves b.batch mine are.0 at after is.0 is.2 b.outcome is.4 in
        let rest = batches_serve is.2 places bs is.1 first.since are.1 is.5 in
        record {
          services = first.services ++ rest.services;
          numbers = counted_append first.services rest.services own is.0 is.1 is.3 first.numbers rest.numbers;
          are = served_append (Shared threshold) rounds script low log.history first.services rest.services first.are rest.are;
          lines = λ k. omega (arith, lines_append k first.services rest.services, first.lines k, rest.lines k);
          landings = landings_none first.services rest.services first.landings rest.landings;
          calm = λ never. (
            first.calm (λ p e purpose refusal none few.
                never p e purpose refusal none (λ k.
                let budget = few k in
                let sum = lines_append k first.services rest.services in
                let later = rest.lines k in
                omega (arith, budget, sum, later))),
            rest.calm (λ p e purpose refusal none few.
                never p e purpose refusal none (λ k.
                let budget = few k in
                let sum = lines_append k first.services rest.services in
                let here = first.lines k in
                omega (arith, budget, sum, here))),
          );
        }
