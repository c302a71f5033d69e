-- If the device holds a store with room, no line is too long, and nothing fails, `serve` comes to its end.
use Rattle.std.specs.Prelude.{◌≡◌, ◌++◌, ℕ, ◌≤◌, ◌<◌, Bool, true, false, List, [], ◌∷◌, length, map, Option, None, Ok, Err, IfOk}
use Rattle.std.specs.List.{AllByRecursion}
use Rattle.std.specs.Option.{is_some}
use Rattle.std.proofs.Common.{refl, sym, ◌∙◌, ap, subst, arith, inl, inr, ⊎_elim}
use Rattle.btr_io.specs.declared.source.Source.{Ghosts as SourceGhosts}
use Rattle.btr_io.specs.declared.sink.Sink.{Ghosts as SinkGhosts}
use Rattle.btr_io.specs.Faults.{Rose as StreamRose}
use Rattle.btr_lines.specs.Lines.{pieces}
use Rattle.btr_disk.specs.declared.disk.Disk.{Ghosts}
use Rattle.btr_disk.specs.Causes.{Rose}
use Rattle.btr_hist.specs.declared.entry.Entry.{Entry}
use Rattle.btr_text.specs.declared.script.ScriptLine.{ScriptLine}
use Rattle.btr_open.specs.Laws.{HeldIsSound, OneHistoryIsHeld}
use Rattle.btr_jobs.specs.States.{StoreState}
use Rattle.btr_live.specs.Script.{begun_state, script_needs}
use Rattle.btr_store.specs.declared.status.Status.{Status}
use Rattle.btr_store.specs.Completes.{IsBenign}
use Rattle.btr_store.specs.Replies.{status_of_replies}
use Rattle.btr_store.specs.Work.{DoesRightly}
use Rattle.btr_talk.specs.declared.desk.Desk.{Ghosts as DeskGhosts}
use Rattle.btr_talk.specs.declared.turns.TalkEnd.{TalkEnd}
use Rattle.btr_talk.specs.declared.turns.TalkEnd.TheVariants as ends
use Rattle.btr_talk.specs.Rounds.{Round, pieces_of, texts_of}
use Rattle.btr_talk.specs.Ends.{AnswersAll, EndsBy, EndsInput, MeetsLongLine}
use Rattle.btr_serve.specs.declared.course.Course.{Course}
use Rattle.btr_serve.specs.declared.store_desk.StoreDesk.{StoreDesk}
use Rattle.btr_serve.specs.declared.question_desk.QuestionDesk.{QuestionDesk}
use Rattle.btr_serve.specs.Answers.{script_in, replies_in}
use Rattle.btr_serve.specs.Desk.{Did, store_desk}
use Rattle.btr_serve.specs.Questions.{question_desk}
use Rattle.btr_serve.specs.Serves.{HasStatus, DidServe}
use Rattle.btr_top.specs.declared.command.TheConstants.{MAX_INPUT}
use Rattle.btr_top.specs.declared.ending.Ending.{Ending}
use Rattle.btr_top.specs.Ending.{status_of}
use Rattle.btr_top.specs.Work.{ending_of}
use Rattle.btr_top.specs.Serve.{Said, ServeEnds, ServeCause, ServeReadEnds, ServeReadCause, CanServe, CanServeRead, HasShortLines, ending_of_talk}
use Rattle.btr_top.specs.Run.{IsPlainStatus}
use Rattle.btr_top.proofs.BenignStatuses.{benign_code, benign_script, benign_answers}
use Rattle.btr_top.proofs.ServeCauses.{Nothing, never_cause}
use Rattle.btr_top.proofs.StoreCompletes.{opened, began, no_failure, plain_work}

-- A line in the middle of a list is one of all.
all_middle : {A : Type 0} (P : A → Type 0) (first : List A) (x : A) (rest all : List A) → all ≡ first ++ x ∷ rest → AllByRecursion P all → P x
all_middle P [] x rest all is each = (subst (AllByRecursion P) is each).0
all_middle P (y ∷ first) x rest all is each = all_middle P first x rest (first ++ x ∷ rest) refl (subst (AllByRecursion P) is each).1

-- What is said of work that ended: its status, or that there was no memory.
said_plain : (said : Said) (failed : Bool) → IfOk said (λ t. IsBenign t.status) → (failed ≡ true → ⊥) → IsPlainStatus (status_of (ending_of said failed))
said_plain (Ok t) failed benign works = benign_code t.status benign
said_plain (Err error) true benign works = absurd (works refl)
said_plain (Err error) false benign works = inr (inr refl)

module _ {S K X : Type 0} (source : SourceGhosts S) (sink : SinkGhosts K) (desk : DeskGhosts X) (given rest : S) (before sent : K) (begun now : X) (rounds : List (Round K X)) (moments : List (K × X)) (source_reported : source.is_observable) (source_works : StreamRose (source.faults given) (source.faults rest) → ⊥) (sink_works : StreamRose (sink.faults before) (sink.faults sent) → ⊥) (short : AllByRecursion (λ line. length line ≤ MAX_INPUT) (pieces (source.left given))) (said : Said) (failed : Bool) (stopped : failed ≡ true → ⊥) where
  -- A talk that ended with nothing failing: each line is answered, or memory ran out.
  talk_plain : (end : TalkEnd) → EndsBy source sink desk end MAX_INPUT given rest before sent begun now rounds moments → (AnswersAll source sink desk before sent begun now rounds moments → EndsInput source sink desk given rest rounds → IfOk said (λ t. IsBenign t.status)) → IsPlainStatus (status_of (ending_of_talk end said failed))
  talk_plain ends.Ended by benign = said_plain said failed (benign by.0 by.1) stopped
  talk_plain ends.NoSource by benign = absurd (source_works by.1.rose)
  talk_plain ends.TooLong by benign =
      let long = by.1 source_reported in
      let within : length long.0 ≤ MAX_INPUT = all_middle (λ (line : List ℕ). length line ≤ MAX_INPUT) (pieces_of rounds) long.0 long.1 (pieces (source.left given)) long.2 short in
      absurd (omega (arith, within, long.3))
  talk_plain ends.NoSink by benign = absurd (sink_works by.rose)
  talk_plain ends.OutOfMemory by benign = no_memory failed stopped
    where
      no_memory : (b : Bool) → (b ≡ true → ⊥) → IsPlainStatus (status_of (ending_of_talk ends.OutOfMemory said b))
      no_memory true works = absurd (works refl)
      no_memory false works = inr (inr refl)

-- The status of a transcript is that of its desk.
benign_if : (said : Said) (status : Status) → IfOk said (HasStatus status) → IsBenign status → IfOk said (λ t. IsBenign t.status)
benign_if (Ok t) status says benign = subst IsBenign (sym says.same_status) benign
benign_if (Err error) status says benign = tt

module _ {S K D : Type 0} (source : SourceGhosts S) (sink : SinkGhosts K) (disk : Ghosts D) (given rest : S) (before sent : K) (old new : D) (course : Course S K D disk) (sound : HeldIsSound) (one : OneHistoryIsHeld) (source_reported : source.is_observable) (reported : disk.is_observable) (source_works : StreamRose (source.faults given) (source.faults rest) → ⊥) (sink_works : StreamRose (sink.faults before) (sink.faults sent) → ⊥) (device_works : Rose (disk.faults old) (disk.faults new) → ⊥) where
  module _ (batch : ℕ) (can : CanServe source disk batch given old) where
    abbrev store : StoreState
    store = opened disk old new can.1.history can.1.blocks can.1.tail can.1.holds sound one reported device_works

    benign_desk : (e : Ending) (s : ServeEnds disk source sink batch given rest before sent old new course e) → AnswersAll source sink (store_desk disk) before sent s.serves.begun s.serves.now s.serves.talks.rounds course.moments.items → EndsInput source sink (store_desk disk) given rest s.serves.talks.rounds → IsBenign s.serves.now.status
    benign_desk e s all input =
        let serves = s.serves in
        let lines : List (List ℕ) = pieces_of serves.talks.rounds in
        let did : Did serves.begun serves.now lines (texts_of serves.talks.rounds) = all.did in
        let does : DoesRightly disk (λ start log own. DidServe disk serves.begun serves.now course.moments.items new start log) s.failed old new =
        serves.served reported can.1.history (record { blocks = can.1.blocks; tail = can.1.tail; holds = can.1.holds }) in
        let What = λ (start : StoreState) (log : _) (own : List ℕ). DidServe disk serves.begun serves.now course.moments.items new start log in
        let same : does.first ≡ store = began disk old new can.1.history can.1.blocks can.1.tail can.1.holds sound one reported device_works What s.failed does in
        let whole : does.log.failed ≡ None = no_failure disk old new can.1.history can.1.blocks can.1.tail can.1.holds sound one reported device_works What s.failed does in
        let alone = does.what.alone lines (texts_of serves.talks.rounds) did in
        let still : alone.last.store.stopped ≡ false = alone.stopped ∙ ap (λ (o : Option Entry). is_some o) whole in
        let script : List ScriptLine = script_in lines in
        let room : script_needs serves.begun.feeds.batch (begun_state does.first) script ≤ does.first.left =
        subst (λ (s : StoreState). script_needs serves.begun.feeds.batch (begun_state s) script ≤ s.left) (sym same)
        (subst (λ (b : ℕ). script_needs b (begun_state store) script ≤ store.left) (sym serves.begins.same_batch)
        (subst (λ (ls : List (List ℕ)). script_needs batch (begun_state store) (script_in ls) ≤ store.left) (input.lines source_reported) can.1.room)) in
        subst IsBenign (sym did.ran.status)
        (benign_script serves.begun.feeds.batch (begun_state does.first) alone.last script (replies_in did.answers) alone.runs room still)

    pub benign_serve : (e : Ending) → ServeCause disk source sink batch given rest before sent old new course e → IsPlainStatus (status_of e)
    benign_serve e why =
        ⊎_elim
        (λ never.
        plain_work disk old new can.1.history can.1.blocks can.1.tail can.1.holds sound one reported device_works Nothing (λ transcript failed does. absurd does.what) e
        (never_cause disk source sink given rest before sent old new e never))
        (λ (s : ServeEnds disk source sink batch given rest before sent old new course e).
        subst (λ (x : Ending). IsPlainStatus (status_of x)) (sym s.ends)
        (talk_plain source sink (store_desk disk) given rest before sent s.serves.begun s.serves.now s.serves.talks.rounds course.moments.items source_reported source_works sink_works can.0 s.said s.failed
        (λ is. device_works (s.serves.plain.stopped is)) s.end s.serves.talks.ended
        (λ all input. benign_if s.said s.serves.now.status s.serves.says (benign_desk e s all input))))
        why

  module _ (can : CanServeRead source disk given old) where
    benign_questions : (e : Ending) (s : ServeReadEnds disk source sink given rest before sent old new course e) → AnswersAll source sink question_desk before sent s.serves.begun s.serves.now s.serves.talks.rounds s.serves.moments → IsBenign s.status
    benign_questions e s all =
        let held = s.serves.held reported can.1.history (record { blocks = can.1.blocks; tail = can.1.tail; holds = can.1.holds }) in
        subst IsBenign (sym (s.serves.same_status ∙ all.did.answered.status))
        (benign_answers held.history (script_in (pieces_of s.serves.talks.rounds)) (replies_in all.did.answers) (all.did.answered.answers held.history held.snapshot))

    pub benign_serve_read : (e : Ending) → ServeReadCause disk source sink given rest before sent old new course e → IsPlainStatus (status_of e)
    benign_serve_read e why =
        ⊎_elim
        (λ never.
        plain_work disk old new can.1.history can.1.blocks can.1.tail can.1.holds sound one reported device_works Nothing (λ transcript failed does. absurd does.what) e
        (never_cause disk source sink given rest before sent old new e never))
        (λ (s : ServeReadEnds disk source sink given rest before sent old new course e).
        subst (λ (x : Ending). IsPlainStatus (status_of x)) (sym s.ends)
        (talk_plain source sink question_desk given rest before sent s.serves.begun s.serves.now s.serves.talks.rounds s.serves.moments source_reported source_works sink_works can.0 s.said false
        (λ is. absurd (cc)) s.end s.serves.talks.ended
        (λ all input. benign_if s.said s.status s.says (benign_questions e s all))))
        why
