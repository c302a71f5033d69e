-- The store is stopped or sealed, or the stream is an output, or there is no memory.
use Rattle.std.specs.Prelude.{◌≡◌, ◌∷◌, [], List, Err, true, false, Bool}
use Rattle.std.proofs.Common.{◌∙◌, ◌++◌, sym, refl, ap, append-nil}
use Rattle.btr_hist.specs.declared.entry.Entry.{Entry}
use Rattle.btr_hist.specs.declared.entry.Entry.TheVariants.{Commit}
use Rattle.btr_hist.specs.declared.rejection.Rejection.TheVariants.{NotWritable}
use Rattle.btr_engine.specs.Engine.{is_sealed}
use Rattle.btr_engine.specs.declared.step.StepFault.TheVariants.{Stopped, Sealed, Rejected, Want}
use Rattle.btr_text.specs.declared.reply.LineReply.TheVariants.{No}
use Rattle.btr_text.specs.declared.reply.Reason.TheVariants as reasons
use Rattle.btr_gate.proofs.PrefixLemmas.{starts_trans}
use Rattle.btr_hall.proofs.TraceLemmas.{engine_of_list, sealed_entries, sealed_runs}
use Rattle.btr_hall.specs.Session.{opening_of, seen_of, engine_of}
use Rattle.btr_jobs.specs.States.{log_seen}
use Rattle.btr_jobs.proofs.StateLemmas.{history_goes_on}
use Rattle.btr_jobs.proofs.TurnLemmas.{look_at}
use Rattle.btr_live.specs.Serving.{was_reported}
use Rattle.btr_live.proofs.FeedLines.{output_is, plain_is}
use Rattle.btr_live.proofs.DeleteLines.{delete-output, delete-lacks}
use Rattle.btr_live.proofs.StreamLemmas.{stream_of-longer, is_output-longer}
use Rattle.btr_live.proofs.ReportedLemmas.{reported_failed, reported_some, reported_none, reported_not}
use Rattle.btr_live.proofs.ServeLemmas.{look_commits, look_then_commits}
use Rattle.btr_live.proofs.line.refuse_range.Goals as goal

not_both : {P : Type 0} (b : Bool) → b ≡ true → b ≡ false → P
not_both b is other = absurd (cc)

pub returns-in-Some-clause-at : goal.returns-in-Some-clause-at
returns-in-Some-clause-at g c =
    look_at c.args.hall.now c.sealed-sealed.new.self c.stopped.new.self c.stopped.ensures.looks c.stopped.ensures.session

pub returns-then-sealed-clause-at : goal.returns-then-sealed-clause-at
returns-then-sealed-clause-at g c =
    look_at c.args.hall.now c.sealed-sealed.new.self c.stopped.new.self c.stopped.ensures.looks c.stopped.ensures.session

pub returns-in-Some-spec-clause-at : goal.returns-in-Some-spec-clause-at
returns-in-Some-spec-clause-at g c =
    look_at c.args.hall.now c.sealed-sealed.new.self c.stopped.new.self c.stopped.ensures.looks c.stopped.ensures.session

pub returns-in-None-clause-at : goal.returns-in-None-clause-at
returns-in-None-clause-at g c =
    look_at c.args.hall.now c.sealed-sealed.new.self c.stopped.new.self c.stopped.ensures.looks c.stopped.ensures.session

pub returns-in-Some-clause-replies : goal.returns-in-Some-clause-replies
returns-in-Some-clause-replies g c = λ range.
    let hall = c.args.hall.now in
    let mid = c.sealed-sealed.new.self in
    let new = c.stopped.new.self in
    let entry : Entry = Commit c.args.found.stream (range ∷ []) [] in
    look_then_commits hall c.args.session.now mid new entry (No (reasons.Stopped c.in-Some.entries)) refl
    (look_at hall mid new c.stopped.ensures.looks c.stopped.ensures.session) c.sealed-sealed.ensures.looks
    (look_commits hall mid new entry (Err (Stopped c.in-Some.entries)) (No (reasons.Stopped c.in-Some.entries)) refl (λ p. refl) c.stopped.ensures.looks
    (λ h of.
    let reported = reported_some (was_reported hall new) _ c.in-Some.entries (sym (c.stopped.ensures.entries h of) ∙ c.in-Some.is) in (
      record { stopped = sym (reported_failed h hall new) ∙ reported.0; last = refl; entries = reported.1 },
      record { own = refl; next = refl },
    ))
    (λ h of sealed runs.
    let reported = reported_some (was_reported hall new) _ c.in-Some.entries (sym (c.stopped.ensures.entries h of) ∙ c.in-Some.is) in
    not_both (was_reported hall new) reported.0 (sealed_runs (opening_of hall) (seen_of new) c.stopped.ensures.looks.trace sealed runs))
    (λ h of reported. (c.in-Some.entries, refl)))

pub returns-then-sealed-clause-replies : goal.returns-then-sealed-clause-replies
returns-then-sealed-clause-replies g c = λ range.
    let hall = c.args.hall.now in
    let mid = c.sealed-sealed.new.self in
    let new = c.stopped.new.self in
    let entry : Entry = Commit c.args.found.stream (range ∷ []) [] in
    let sealed : is_sealed (opening_of hall) ≡ true = sym c.sealed-sealed.ensures.sealed ∙ c.if-sealed.true in
    look_then_commits hall c.args.session.now mid new entry (No reasons.Sealed) refl
    (look_at hall mid new c.stopped.ensures.looks c.stopped.ensures.session) c.sealed-sealed.ensures.looks
    (look_commits hall mid new entry (Err Sealed) (No reasons.Sealed) refl (λ p. refl) c.stopped.ensures.looks
    (λ h of.
    let none = reported_none (was_reported hall new) _ (sym (c.stopped.ensures.entries h of) ∙ c.in_default.is) in (
      record {
        sealed = sealed;
        runs = sym (reported_failed h hall new) ∙ none;
        last = refl;
        kept = ap (λ (l : List Entry). h ++ l) (sealed_entries (opening_of hall) (seen_of new) c.stopped.ensures.looks.trace sealed) ∙ append-nil h;
      },
      record { own = refl; next = refl },
    ))
    (λ h of is runs. refl)
    (λ h of reported. reported_not _ (was_reported hall new) (reported_none (was_reported hall new) _ (sym (c.stopped.ensures.entries h of) ∙ c.in_default.is)) reported))

pub returns-in-Some-spec-clause-replies : goal.returns-in-Some-spec-clause-replies
returns-in-Some-spec-clause-replies g c = λ range.
    let hall = c.args.hall.now in
    let old = c.args.session.now in
    let mid = c.sealed-sealed.new.self in
    let new = c.stopped.new.self in
    let stream = c.args.found.stream in
    let entry : Entry = Commit stream (range ∷ []) [] in
    look_then_commits hall old mid new entry (No reasons.Output) refl
    (look_at hall mid new c.stopped.ensures.looks c.stopped.ensures.session) c.sealed-sealed.ensures.looks
    (look_commits hall mid new entry (Err (Rejected NotWritable)) (No reasons.Output) refl (λ p. refl) c.stopped.ensures.looks
    (λ h of.
    let found = c.requires.found h of in
    let starts = starts_trans (log_seen h new).history (log_seen h mid).history (log_seen h old).history (history_goes_on h new mid c.stopped.ensures.looks.grows) (history_goes_on h mid old c.sealed-sealed.ensures.looks.grows) in
    let there = (found.1).0 in
    let output = output_is (log_seen h old).history stream _ ((found.1).1 ∙ c.in-Some-spec.is) in (
      delete-output (log_seen h new).history found.0 stream range
          (stream_of-longer (log_seen h new).history (log_seen h old).history found.0 stream starts there)
          (is_output-longer (log_seen h new).history (log_seen h old).history found.0 stream starts there ∙ output),
      record { own = refl; next = refl },
    ))
    (λ h of is runs. not_both (is_sealed (opening_of hall)) is (sym c.sealed-sealed.ensures.sealed ∙ c.if-sealed.false))
    (λ h of reported. reported_not _ (was_reported hall new) (reported_none (was_reported hall new) _ (sym (c.stopped.ensures.entries h of) ∙ c.in_default.is)) reported))

pub returns-in-None-clause-replies : goal.returns-in-None-clause-replies
returns-in-None-clause-replies g c = λ range.
    let hall = c.args.hall.now in
    let old = c.args.session.now in
    let mid = c.sealed-sealed.new.self in
    let new = c.stopped.new.self in
    let stream = c.args.found.stream in
    let entry : Entry = Commit stream (range ∷ []) [] in
    look_then_commits hall old mid new entry (No reasons.Memory) refl
    (look_at hall mid new c.stopped.ensures.looks c.stopped.ensures.session) c.sealed-sealed.ensures.looks
    (look_commits hall mid new entry (Err Want) (No reasons.Memory) refl (λ p. refl) c.stopped.ensures.looks
    (λ h of.
    let found = c.requires.found h of in
    let starts = starts_trans (log_seen h new).history (log_seen h mid).history (log_seen h old).history (history_goes_on h new mid c.stopped.ensures.looks.grows) (history_goes_on h mid old c.sealed-sealed.ensures.looks.grows) in
    let there = (found.1).0 in
    let plain = plain_is (log_seen h old).history stream ((found.1).1 ∙ c.in-None.is) in (
      delete-lacks {D = g.row.D.Denot} {disk = g.D.Disk} (log_seen h new).history (engine_of hall new) found.0 stream range
          (engine_of_list h (opening_of hall) (seen_of new) of c.stopped.ensures.looks.trace)
          (stream_of-longer (log_seen h new).history (log_seen h old).history found.0 stream starts there)
          (is_output-longer (log_seen h new).history (log_seen h old).history found.0 stream starts there ∙ plain),
      record { own = refl; next = refl },
    ))
    (λ h of is runs. not_both (is_sealed (opening_of hall)) is (sym c.sealed-sealed.ensures.sealed ∙ c.if-sealed.false))
    (λ h of reported. reported_not _ (was_reported hall new) (reported_none (was_reported hall new) _ (sym (c.stopped.ensures.entries h of) ∙ c.in_default.is)) reported))
