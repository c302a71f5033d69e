-- Lemmas on the turns of a line: a look, what is asked for after it, and replies that take no turn.
use Rattle.std.specs.Prelude.{◌≡◌, ℕ, Bool, List, [], ◌++◌, length, slice_get, true, false, Some, unwrap_or, Result}
use Rattle.std.proofs.Common.{refl, sym, ap, ◌∙◌, subst, append-nil}
use Rattle.btr_disk.specs.declared.disk.Disk.{Ghosts}
use Rattle.btr_hist.specs.declared.entry.Entry.{Entry}
use Rattle.btr_hist.specs.declared.entry.Entry.TheVariants as entries
use Rattle.btr_hist.specs.History.{ids}
use Rattle.btr_streams.specs.declared.board.Receipt.{Receipt}
use Rattle.btr_engine.specs.declared.step.StepFault.{StepFault}
use Rattle.btr_engine.specs.Engine.{IsEngineOf}
use Rattle.btr_text.specs.declared.reply.LineReply.{LineReply}
use Rattle.btr_text.specs.declared.reply.LineReply.TheVariants as replies
use Rattle.btr_text.specs.declared.reply.LineReply.TheVariants.{No}
use Rattle.btr_text.specs.declared.reply.Reason.TheVariants as reasons
use Rattle.btr_text.specs.declared.reply.Reason.{Reason}
use Rattle.btr_gate.specs.Prefixes.{StartsWith}
use Rattle.btr_gate.proofs.PrefixLemmas.{starts_refl, starts_trans}
use Rattle.btr_hall.specs.declared.session.Hall.{Hall}
use Rattle.btr_hall.specs.declared.session.Session.{Session}
use Rattle.btr_hall.specs.Trace.{history_of}
use Rattle.btr_hall.specs.Session.{IsSame, Looks, opening_of, seen_of}
use Rattle.btr_hall.specs.Commit.{Commits, is_distillate}
use Rattle.btr_jobs.specs.States.{StoreState, LogState, log_seen, start_of}
use Rattle.btr_engine.specs.declared.step.StepFault.TheVariants as steps
use Rattle.btr_jobs.specs.Turns.{SaysSealed, Committed, CommittedAfter}
use Rattle.btr_jobs.specs.TurnLaws.{history_later}
use Rattle.btr_jobs.specs.Jobs.{IsAt}
use Rattle.btr_jobs.proofs.DoesLemmas.{goes_none, does_then}
use Rattle.btr_jobs.proofs.StateLemmas.{history_goes_on}
use Rattle.btr_jobs.proofs.TurnLemmas.{commit_turn, look_turn}
use Rattle.btr_live.specs.Meaning.{Meaning, Commits as CommitsEntry, Holds, Current, Refuses}
use Rattle.btr_live.specs.Lanes.{reply_of_step, Offers, Answers}
use Rattle.btr_live.specs.LaneLaws.{answers_lasts}
use Rattle.btr_live.specs.Serving.{Asking, HasReply, Serves, Knows, was_reported, RepliesIn, ServesIn, holding_output, reply_with}
use Rattle.btr_live.proofs.HolderLemmas.{same_reply}
use Rattle.btr_live.proofs.ReportedLemmas.{answers_reported, stopped_longer}

-- ---- entries

-- A user's entry is offered in a turn.
pub offers : (start : StoreState) (log : LogState) (saw_failure : Bool) (a : List Entry) (e : Entry) (result : Result Receipt StepFault) (own : List ℕ) (next : List Entry) → is_distillate e ≡ false → (turn : CommittedAfter start log a e result own next) → (saw_failure ≡ true → (count : ℕ) × (reply_of_step turn.0 result ≡ No (reasons.Stopped count))) → Offers start log saw_failure a e (reply_of_step turn.0 result) own next
offers start log saw_failure a (entries.Create id) result own next user is again = (result, is, refl, again)
offers start log saw_failure a (entries.Define id spec) result own next user is again = (result, is, refl, again)
offers start log saw_failure a (entries.Commit stream cut added) result own next user is again = (result, is, refl, again)
offers start log saw_failure a (entries.Distillate stream cut added reads) result own next user is again = absurd (cc)
offers start log saw_failure a (entries.Retire stream first) result own next user is again = (result, is, refl, again)

-- It is so offered after less had been seen.
offers_lower : (start : StoreState) (log : LogState) (saw_failure : Bool) (a less : List Entry) (e : Entry) (reply : LineReply) (own : List ℕ) (next : List Entry) → is_distillate e ≡ false → StartsWith a less → Offers start log saw_failure a e reply own next → Offers start log saw_failure less e reply own next
offers_lower start log saw_failure a less (entries.Create id) reply own next user starts is =
    (is.0, (is.1.0, starts_trans is.1.0 a less is.1.1 starts, is.1.2, is.1.3, is.1.4), is.2, is.3)
offers_lower start log saw_failure a less (entries.Define id spec) reply own next user starts is =
    (is.0, (is.1.0, starts_trans is.1.0 a less is.1.1 starts, is.1.2, is.1.3, is.1.4), is.2, is.3)
offers_lower start log saw_failure a less (entries.Commit stream cut added) reply own next user starts is =
    (is.0, (is.1.0, starts_trans is.1.0 a less is.1.1 starts, is.1.2, is.1.3, is.1.4), is.2, is.3)
offers_lower start log saw_failure a less (entries.Distillate stream cut added reads) reply own next user starts is = absurd (cc)
offers_lower start log saw_failure a less (entries.Retire stream first) reply own next user starts is =
    (is.0, (is.1.0, starts_trans is.1.0 a less is.1.1 starts, is.1.2, is.1.3, is.1.4), is.2, is.3)

module _ {D : Type 0} {disk : Ghosts D} (hall : Hall D disk) where
  -- ---- replies

  -- A reply that takes no turn.
  pub here_replies : (s : Session D disk) (m : Meaning) (reply : LineReply) → ((h : List Entry) → IsEngineOf h (opening_of hall) → Answers (start_of h hall) (log_seen h s) (was_reported hall s) (log_seen h s).history m reply [] (log_seen h s).history) → RepliesIn hall s s m reply
  here_replies s m reply answers = (
    [],
    goes_none s,
    λ h of. record {
      next = (log_seen h s).history;
      answers = answers h of;
      ends = starts_refl (log_seen h s).history;
    },
  )

  -- A line is refused for a reason that the model has.
  pub refuses : (s : Session D disk) (reason : Reason) → RepliesIn hall s s (Refuses reason) (replies.No reason)
  refuses s reason = here_replies s (Refuses reason) (replies.No reason) (λ h of. (refl, record { own = refl; next = refl }))

  pub holds : (s : Session D disk) (count : ℕ) → RepliesIn hall s s (Holds count) (replies.Held count)
  holds s count = here_replies s (Holds count) (replies.Held count) (λ h of. (refl, record { own = refl; next = refl }))

  pub is_current : (s : Session D disk) (version : ℕ) → RepliesIn hall s s (Current version) (replies.Done version)
  is_current s version = here_replies s (Current version) (replies.Done version) (λ h of. (refl, record { own = refl; next = refl }))

  -- The turn of an entry. If an output holds a version that the entry would retire, `id` is the id of that in a later history.
  pub commit_replies : (old new : Session D disk) (e : Entry) (result : Result Receipt StepFault) (id : ℕ) → is_distillate e ≡ false → IsSame old new → Commits hall old new e result → ((h : List Entry) → IsEngineOf h (opening_of hall) → (late : List Entry) × StartsWith late (log_seen h new).history × ((output : ℕ) → holding_output result ≡ Some output → id ≡ unwrap_or (slice_get (ids late) output) 0)) → RepliesIn hall old new (CommitsEntry e) (reply_with id result)
  commit_replies old new e result id user same commits names =
      let does = commit_turn hall old new e result same commits in (
        does.0,
        does.1,
        λ h of.
            let said = does.2 h of in
            let turn : CommittedAfter (start_of h hall) (log_seen h new) (log_seen h old).history e result does.0 said.0 = said.1 in
            let named = names h of in
            let reply : reply_with id result ≡ reply_of_step turn.0 result = same_reply (start_of h hall) (log_seen h new) turn.0 named.0 e result does.0 said.0 id (starts_trans named.0 (log_seen h new).history turn.0 named.1 turn.2) turn.3 named.2 in
            let offered = offers (start_of h hall) (log_seen h new) (was_reported hall old) (log_seen h old).history e result does.0 said.0 user turn (λ saw_failure. (length (history_of h commits.before), ap (reply_of_step turn.0) (commits.stopped (stopped_longer (opening_of hall) commits.before (seen_of old) commits.grows saw_failure) h of))) in
            record {
              next = said.0;
              answers = subst (λ r. Offers (start_of h hall) (log_seen h new) (was_reported hall old) (log_seen h old).history e r does.0 said.0) (sym reply) offered;
              ends = said.2;
            },
      )

  -- After a look a reply is as before.
  pub replies_look : (old mid new : Session D disk) (m : Meaning) (reply : LineReply) → IsAt hall new → Looks hall mid new → RepliesIn hall old mid m reply → RepliesIn hall old new m reply
  replies_look old mid new m reply at looks replies =
      does_then hall old mid new
      (λ start log low own. HasReply start log (was_reported hall old) low m reply own)
      (λ start log low own. (own ≡ []) × StartsWith log.history low × Unit {0})
      (λ start log low own. HasReply start log (was_reported hall old) low m reply own)
      at
      (λ start late early low a b on starts first second. record {
        next = first.next;
        answers = subst (λ l. Answers start late (was_reported hall old) low m reply l first.next) (sym (ap (λ l. a ++ l) second.0 ∙ append-nil a))
            (answers_lasts start late early on (was_reported hall old) low m reply a first.next first.answers);
        ends = history_later start late early first.next on first.ends;
      })
      replies
      (look_turn hall mid new looks (λ _. Unit {0}) (λ h of. tt))

  -- An entry of a user was refused after a look.
  pub look_commits : (old new : Session D disk) (e : Entry) (result : Result Receipt StepFault) (reply : LineReply) → is_distillate e ≡ false → ((p : List Entry) → reply_of_step p result ≡ reply) → Looks hall old new → ((h : List Entry) → IsEngineOf h (opening_of hall) → Committed (start_of h hall) (log_seen h new) (log_seen h new).history e result [] (log_seen h new).history) → ((h : List Entry) → IsEngineOf h (opening_of hall) → SaysSealed (start_of h hall) steps.Sealed result) → ((h : List Entry) → IsEngineOf h (opening_of hall) → was_reported hall new ≡ true → (count : ℕ) × (reply ≡ No (reasons.Stopped count))) → RepliesIn hall old new (CommitsEntry e) reply
  look_commits old new e result reply user same looks says sealed again =
      let does = look_turn hall old new looks (λ _. Unit {0}) (λ h of. tt) in (
        does.0,
        does.1,
        λ h of.
            let seen = (log_seen h new).history in
            let none : [] ≡ does.0 = sym (does.2 h of).0 in
            let turn : CommittedAfter (start_of h hall) (log_seen h new) (log_seen h old).history e result does.0 seen =
            (seen, history_goes_on h new old looks.grows, starts_refl seen, subst (λ own. Committed (start_of h hall) (log_seen h new) seen e result own seen) none (says h of), sealed h of) in
            let offered = offers (start_of h hall) (log_seen h new) (was_reported hall old) (log_seen h old).history e result does.0 seen user turn
            (λ saw_failure. let heard = again h of (stopped_longer (opening_of hall) (seen_of new) (seen_of old) looks.grows saw_failure) in (heard.0, same turn.0 ∙ heard.1)) in
            record {
              next = seen;
              answers = subst (λ r. Offers (start_of h hall) (log_seen h new) (was_reported hall old) (log_seen h old).history e r does.0 seen) (same turn.0) offered;
              ends = starts_refl seen;
            },
      )

  -- An entry of a user that was offered after a look.
  pub look_then_commits : (old mid new : Session D disk) (e : Entry) (reply : LineReply) → is_distillate e ≡ false → IsAt hall new → Looks hall old mid → RepliesIn hall mid new (CommitsEntry e) reply → RepliesIn hall old new (CommitsEntry e) reply
  look_then_commits old mid new e reply user at looks replies =
      does_then hall old mid new
      (λ start log low own. (own ≡ []) × StartsWith log.history low × Unit {0})
      (λ start log low own. HasReply start log (was_reported hall mid) low (CommitsEntry e) reply own)
      (λ start log low own. HasReply start log (was_reported hall old) low (CommitsEntry e) reply own)
      at
      (λ start late early low a b on starts first second. record {
        next = second.next;
        answers = subst (λ l. Answers start late (was_reported hall old) low (CommitsEntry e) reply l second.next) (sym (ap (λ l. l ++ b) first.0))
            (answers_reported start late (was_reported hall mid) (was_reported hall old) (stopped_longer (opening_of hall) (seen_of mid) (seen_of old) looks.grows) low (CommitsEntry e) reply b second.next
            (offers_lower start late (was_reported hall mid) early.history low e reply b second.next user starts second.answers));
        ends = second.ends;
      })
      (look_turn hall old mid looks (λ _. Unit {0}) (λ h of. tt))
      replies

  -- ---- what is asked for

  -- What is asked for at what the session has seen.
  pub replies_serve : (old new : Session D disk) (asking : Asking) (m : Meaning) (reply : LineReply) → Knows hall old (λ a. asking a m) → RepliesIn hall old new m reply → ServesIn hall old new asking reply
  replies_serve old new asking m reply asks does = (
    does.0,
    does.1,
    λ h of. record {
      admitted = (log_seen h old).history;
      after = starts_refl (log_seen h old).history;
      begins = history_goes_on h new old does.1.seen;
      asked = m;
      asks = asks h of;
      replies = does.2 h of;
    },
  )

  -- What is asked for after a look.
  pub after_look : (old mid new : Session D disk) (asking : Asking) (reply : LineReply) → IsAt hall new → Looks hall old mid → ServesIn hall mid new asking reply → ServesIn hall old new asking reply
  after_look old mid new asking reply at looks serves =
      does_then hall old mid new
      (λ start log low own. (own ≡ []) × StartsWith log.history low × Unit {0})
      (λ start log low own. Serves start log (was_reported hall mid) low asking reply own)
      (λ start log low own. Serves start log (was_reported hall old) low asking reply own)
      at
      (λ start late early low a b on starts first second. record {
        admitted = second.admitted;
        after = starts_trans second.admitted early.history low second.after starts;
        begins = second.begins;
        asked = second.asked;
        asks = second.asks;
        replies = record {
          next = second.replies.next;
          answers = subst (λ l. Answers start late (was_reported hall old) second.admitted second.asked reply l second.replies.next) (sym (ap (λ l. l ++ b) first.0))
              (answers_reported start late (was_reported hall mid) (was_reported hall old) (stopped_longer (opening_of hall) (seen_of mid) (seen_of old) looks.grows) second.admitted second.asked reply b second.replies.next second.replies.answers);
          ends = second.replies.ends;
        };
      })
      (look_turn hall old mid looks (λ _. Unit {0}) (λ h of. tt))
      serves

  -- What is asked for implies another thing, at each history that begins with what the session had seen.
  pub serves_implied : (old new : Session D disk) (asking more : Asking) (reply : LineReply) → ((h : List Entry) → IsEngineOf h (opening_of hall) → (a : List Entry) (m : Meaning) → StartsWith a (history_of h (seen_of old)) → asking a m → more a m) → ServesIn hall old new asking reply → ServesIn hall old new more reply
  serves_implied old new asking more reply implies serves = (
    serves.0,
    serves.1,
    λ h of.
        let said = serves.2 h of in record {
          admitted = said.admitted;
          after = said.after;
          begins = said.begins;
          asked = said.asked;
          asks = implies h of said.admitted said.asked said.after said.asks;
          replies = said.replies;
        },
  )

  -- A line is refused after a look.
  pub look_refuses : (old new : Session D disk) (asking : Asking) (reason : Reason) → IsAt hall new → Looks hall old new → Knows hall new (λ a. asking a (Refuses reason)) → ServesIn hall old new asking (replies.No reason)
  look_refuses old new asking reason at looks asks =
      after_look old new new asking (replies.No reason) at looks
      (replies_serve new new asking (Refuses reason) (replies.No reason) asks (refuses new reason))
