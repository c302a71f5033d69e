-- Lemmas on lanes: one line more, and lanes and rounds that ran beside each other.
use Rattle.std.specs.Prelude.{◌≡◌, ℕ, Bool, true, false, ◌||◌, List, [], ◌∷◌, ◌++◌, length, Option}
use Rattle.std.proofs.Common.{refl, sym, ap, ◌∙◌, subst, arith}
use Rattle.std.proofs.lemmas.List.{append-nil, append_assoc}
use Rattle.btr_hist.specs.declared.entry.Entry.{Entry}
use Rattle.btr_text.specs.declared.script.Line.{Line}
use Rattle.btr_text.specs.declared.reply.LineReply.{LineReply}
use Rattle.btr_gate.proofs.PrefixLemmas.{starts_refl, starts_trans}
use Rattle.btr_jobs.specs.States.{StoreState, LogState, GoesOn}
use Rattle.btr_live.specs.Feeds.{Waiting, none_waiting, fed}
use Rattle.btr_live.specs.Replies.{waiting_after, Means}
use Rattle.btr_live.specs.Lanes.{LaneState, begun, tells_failure, RunsLine, RunsEach}
use Rattle.btr_live.specs.LaneLaws.{lines_last}
use Rattle.btr_live.specs.Serving.{LineAsks, Serves}
use Rattle.btr_live.specs.Running.{RunsTo}
use Rattle.btr_live.proofs.ReportedLemmas.{has_failed, answers_tell, answers_reported}

pub either : (a b : Bool) (P : Type 0) → (a ≡ true → P) → (b ≡ true → P) → (a || b) ≡ true → P
either true b P first second is = first refl
either false b P first second is = second is

-- ---- one line more

pub each_push : {S : Type 0} (Step : S → Option Line → LineReply → List ℕ → S → Type 0) (old : S) (lines : List (Option Line)) (replies : List LineReply) (own : List ℕ) (mid : S) (line : Option Line) (reply : LineReply) (more : List ℕ) (new : S) → RunsEach Step old lines replies own mid → Step mid line reply more new → RunsEach Step old (lines ++ line ∷ []) (replies ++ reply ∷ []) (own ++ more) new
each_push Step old [] [] own mid line reply more new is ran =
    (more, [], new, ap (λ l. l ++ more) is.0 ∙ sym (append-nil more), subst (λ s. Step s line reply more new) is.1 ran, (refl, refl))
each_push Step old [] (r ∷ rs) own mid line reply more new is ran = absurd is
each_push Step old (l ∷ ls) [] own mid line reply more new is ran = absurd is
each_push Step old (l ∷ ls) (r ∷ rs) own mid line reply more new is ran =
    (is.0, is.1 ++ more, is.2, ap (λ k. k ++ more) is.3 ∙ append_assoc is.0 is.1 more, is.4, each_push Step is.2 ls rs is.1 mid line reply more new is.5 ran)

module _ (batch : ℕ) (start : StoreState) (late early : LogState) (low : List Entry) (lines : List (Option Line)) (replies : List LineReply) (line : Option Line) (reply : LineReply) (w after : Waiting) (a b : List ℕ) (saw_failure : Bool) (on : GoesOn start late early) (same : saw_failure ≡ has_failed start early) (first : RunsTo batch start early low lines replies a w) (second : Serves start late saw_failure early.history (LineAsks batch w line reply after) reply b) where
  -- The lane after one line more.
  abbrev state_after : LaneState
  state_after = record { history = second.replies.next; saw_failure = first.last.saw_failure || tells_failure second.asked reply; waiting = after }

  one_more : RunsLine batch start late first.last line reply b state_after
  one_more = record {
    admitted = second.admitted;
    after = starts_trans second.admitted early.history first.last.history second.after first.ends;
    begins = second.begins;
    asked = second.asked;
    means = subst (λ v. Means batch second.admitted v line second.asked) (sym first.waits) second.asks.0;
    answers = answers_reported start late saw_failure first.last.saw_failure (λ t. same ∙ first.failed t) second.admitted second.asked reply b second.replies.next second.replies.answers;
    waiting = second.asks.1 ∙ ap (λ v. waiting_after v (fed second.admitted v line) second.asked reply) (sym first.waits);
    saw_failure = refl;
  }

  reported_before : has_failed start early ≡ true → has_failed start late ≡ true
  reported_before is = ap (λ c. has_failed start c) (on.ends is) ∙ is

  reported_now : tells_failure second.asked reply ≡ true → has_failed start late ≡ true
  reported_now tells =
      answers_tell start late saw_failure second.admitted second.asked reply b second.replies.next second.replies.answers tells

  -- The lines up to one, and this one.
  pub runs_push : RunsTo batch start late low (lines ++ line ∷ []) (replies ++ reply ∷ []) (a ++ b) after
  runs_push = record {
    last = state_after;
    runs = each_push (RunsLine batch start late) (begun low) lines replies a first.last line reply b state_after (lines_last start late early on batch (begun low) lines replies a first.last first.runs) one_more;
    waits = refl;
    ends = second.replies.ends;
    failed = either first.last.saw_failure (tells_failure second.asked reply) (has_failed start late ≡ true) (λ t. reported_before (first.failed t)) reported_now;
  }

-- No line ran yet.
pub runs_none : (batch : ℕ) (start : StoreState) (log : LogState) → RunsTo batch start log log.history [] [] [] none_waiting
runs_none batch start log = record {
  last = begun log.history;
  runs = (refl, refl);
  waits = refl;
  ends = starts_refl log.history;
  failed = λ is. absurd (cc);
}

pub split-push : {A : Type 0} (done old new all : List A) (x : A) → done ++ old ≡ all → old ≡ x ∷ new → (done ++ x ∷ []) ++ new ≡ all
split-push done old new all x split taken = append_assoc done (x ∷ []) new ∙ ap (λ l. done ++ l) (sym taken) ∙ split

-- Nothing is left.
pub none_left : {A : Type 0} (done rest all : List A) → done ++ rest ≡ all → length rest ≡ 0 → done ≡ all
none_left done [] all split none = sym (append-nil done) ∙ split
none_left done (x ∷ rest) all split none = absurd (omega (arith, none))
