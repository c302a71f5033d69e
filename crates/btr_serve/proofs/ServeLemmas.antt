-- Lemmas on a store that was served: what its lines did is the model's, and a crash keeps what was there at each moment of the talk.
use Rattle.std.specs.Prelude.{◌≡◌, ℕ, ◌≤◌, Bool, true, false, ◌||◌, List, [], ◌∷◌, ◌++◌, replicate, Option, Some, None, Result, IfOk}
use Rattle.std.specs.declared.alloc.AllocError.{AllocError}
use Rattle.std.specs.Option.{is_some}
use Rattle.std.proofs.Common.{refl, sym, ap, ◌∙◌, subst, append_assoc, ⊎_elim}
use Rattle.std.proofs.lemmas.List.{append-nil, append_cancel_left}
use Rattle.btr_disk.specs.declared.disk.Disk.{Ghosts}
use Rattle.btr_disk.specs.Bytes.{Image}
use Rattle.btr_io.specs.declared.source.Source.{Ghosts as SourceGhosts}
use Rattle.btr_io.specs.declared.sink.Sink.{Ghosts as SinkGhosts}
use Rattle.btr_hist.specs.declared.entry.Entry.{Entry}
use Rattle.btr_engine.specs.declared.engine.Engine.{Engine}
use Rattle.btr_engine.specs.Engine.{device, entries_of, is_stopped, IsAtRest}
use Rattle.btr_open.specs.Opening.{IsOpenedEngine, IsOpenedOn}
use Rattle.btr_gate.specs.Prefixes.{StartsWith}
use Rattle.btr_gate.proofs.PrefixLemmas.{starts_refl}
use Rattle.btr_hall.specs.declared.item.Item.{Item}
use Rattle.btr_hall.specs.declared.item.Item.TheVariants.{Earlier, Added, Halted}
use Rattle.btr_hall.specs.declared.session.Hall.{Hall}
use Rattle.btr_hall.specs.Trace.{IsTrace, IsTraceOf, engine_after, entries_in, has_halt, history_of}
use Rattle.btr_hall.specs.Session.{IsAlone, opening_of, seen_of, engine_of}
use Rattle.btr_hall.specs.StoreLaws.{ends_stopped, engine_earlier}
use Rattle.btr_hall.proofs.TraceLemmas.{engine_append, entries_append, stopped_of_list, keeps_of_list, at_rest_of_list}
use Rattle.btr_jobs.specs.States.{StoreState, LogState, failed_in, log_seen, start_of}
use Rattle.btr_jobs.specs.Jobs.{IsAt}
use Rattle.btr_jobs.proofs.StateLemmas.{log_at, failed_halt, failed_append}
use Rattle.btr_jobs.proofs.DoesLemmas.{does_none, stays_alone}
use Rattle.btr_live.specs.Feeds.{Waiting, FeedsValue, none_waiting, waiting_of}
use Rattle.btr_live.specs.Lanes.{begun as begun_lane}
use Rattle.btr_live.specs.Running.{RunsTo}
use Rattle.btr_live.specs.OneLane.{RunsAlone, OneSessionIsTheModel}
use Rattle.btr_store.specs.declared.status.Status.TheVariants.{Done}
use Rattle.btr_store.specs.declared.transcript.Transcript.{Transcript}
use Rattle.btr_store.specs.Work.{IsPlainWork, AddsAllowed, Works, DoesRightly, IfHolds}
use Rattle.btr_store.specs.Closing.{BeginsOn, WorkedAt}
use Rattle.btr_store.proofs.Moments.{keeps_here}
use Rattle.btr_store.proofs.WorkLemmas.{begun_history}
use Rattle.btr_store.proofs.LiveAllowing.{lines_allowed}
use Rattle.btr_talk.specs.declared.turns.TalkEnd.{TalkEnd}
use Rattle.btr_talk.specs.declared.turns.TalkEnd.TheVariants.{Ended, NoSource, TooLong, NoSink, OutOfMemory}
use Rattle.btr_talk.specs.Rounds.{Round, pieces_of, texts_of, GoesThrough}
use Rattle.btr_talk.specs.Ends.{LosesReply, EndsBy, Talks}
use Rattle.btr_serve.specs.declared.store_desk.StoreDesk.{StoreDesk}
use Rattle.btr_serve.specs.Answers.{script_in, lines_in, replies_in}
use Rattle.btr_serve.specs.Desk.{GoesOn, Did, store_desk}
use Rattle.btr_serve.specs.DeskLaws.{goes_then}
use Rattle.btr_serve.specs.Serves.{device_at, log_at_desk, BeginsServing, Lasts, DidServe, HasStatus, Serves}

none_failed : {A : Type 0} (o : Option A) → o ≡ None → is_some o ≡ false
none_failed None is = refl
none_failed (Some x) is = absurd (cc)

stopped_if : (x halt : Bool) → halt ≡ true → (x || halt) ≡ true
stopped_if true halt is = refl
stopped_if false halt is = is

-- No line ran yet.
runs_none : (batch : ℕ) (waiting : Waiting) → waiting ≡ none_waiting → (start : StoreState) (log : LogState) → RunsTo batch start log log.history [] [] [] waiting
runs_none batch waiting none start log = record {
  last = begun_lane log.history;
  runs = (refl, refl);
  waits = sym none;
  ends = starts_refl log.history;
  failed = λ is. absurd (cc);
}

module _ {D : Type 0} {disk : Ghosts D} where
  -- ---- the beginning

  -- A desk to which nothing was done.
  pub did_nothing : (desk : StoreDesk D disk) → waiting_of desk.feeds ≡ none_waiting → desk.status ≡ Done → Did desk desk [] []
  did_nothing desk none nothing = record {
    answers = [];
    each = refl;
    said = refl;
    ran = record {
      same_hall = refl;
      same_batch = refl;
      ran = does_none desk.hall desk.session (λ start log low own. RunsTo desk.feeds.batch start log low [] [] own (waiting_of desk.feeds))
          (runs_none desk.feeds.batch (waiting_of desk.feeds) none);
      status = nothing;
    };
  }

  -- A desk with empty feeds, at a store that was opened.
  pub begins_serving : (batch : ℕ) (old : D) (desk : StoreDesk D disk) → BeginsOn disk old desk.hall desk.session → desk.feeds ≡ record { batch = batch; feeds = [] } → desk.status ≡ Done → BeginsServing disk batch old desk
  begins_serving batch old desk on empty nothing = record {
    opened = on;
    same_batch = ap (λ (f : FeedsValue). f.batch) empty;
    none = ap waiting_of empty;
    nothing = nothing;
  }

  -- ---- from moment to moment

  -- The last desk is the first one, later.
  pub through_all : {K : Type 0} (moments : List (K × StoreDesk D disk)) (begun now : StoreDesk D disk) → GoesThrough (GoesOn {D = D} {disk = disk}) begun moments now → GoesOn begun now
  through_all [] begun now goes = goes
  through_all (m ∷ moments) begun now goes = goes_then begun m.1 now goes.0 (through_all moments m.1 now goes.1)

  -- The desk of a moment is the first one, later, and the last desk is that of the moment, later.
  at_moment : {K : Type 0} (before after : List (K × StoreDesk D disk)) (m : K × StoreDesk D disk) (begun now : StoreDesk D disk) → GoesThrough (GoesOn {D = D} {disk = disk}) begun (before ++ m ∷ after) now → GoesOn begun m.1 × GoesOn m.1 now
  at_moment [] after m begun now goes = (goes.0, through_all after m.1 now goes.1)
  at_moment (b ∷ before) after m begun now goes =
      let next = at_moment before after m b.1 now goes.1 in
      (goes_then begun b.1 m.1 goes.0 next.0, next.1)

  -- The session at the end is the only one of its hall, as it was.
  pub still_alone : (begun now : StoreDesk D disk) → GoesOn begun now → IsAlone begun.session → IsAlone now.session
  still_alone begun now on alone = stays_alone begun.session now.session on.own on.goes alone

  -- ---- the list of a hall, up to a moment and from it on

  trace_front : (x : Engine D disk) (l m : List (Item D disk)) → IsTrace x (l ++ m) → IsTrace x l
  trace_front x [] m a = tt
  trace_front x (Earlier ∷ l) m a = absurd a
  trace_front x (Added entry engine ∷ l) m a = (a.0, trace_front engine.value l m a.1)
  trace_front x (Halted entry engine ∷ l) m a = (a.0, trace_front engine.value l m a.1)

  trace_back : (x : Engine D disk) (l m : List (Item D disk)) → IsTrace x (l ++ m) → IsTrace (engine_after x l) m
  trace_back x [] m a = a
  trace_back x (Earlier ∷ l) m a = absurd a
  trace_back x (Added entry engine ∷ l) m a = trace_back engine.value l m a.1
  trace_back x (Halted entry engine ∷ l) m a = trace_back engine.value l m a.1

  -- A list that goes on from the first one, and what follows it in a list of the hall.
  split_trace : (x : Engine D disk) (first early late rest : List (Item D disk)) → IsTraceOf x first → StartsWith early first → late ≡ early ++ rest → IsTraceOf x late → IsTraceOf x early × IsTrace (engine_after x early) rest
  split_trace x first early late rest begins starts split trace =
      let old : List (Item D disk) = replicate (entries_of x) Earlier in
      let mid : List (Item D disk) = begins.steps ++ starts.0 in
      let front : early ≡ old ++ mid = starts.1 ∙ ap (λ (l : List (Item D disk)). l ++ starts.0) begins.is ∙ append_assoc old begins.steps starts.0 in
      let whole : old ++ trace.steps ≡ old ++ (mid ++ rest) = sym trace.is ∙ split ∙ ap (λ (l : List (Item D disk)). l ++ rest) front ∙ append_assoc old mid rest in
      let steps : IsTrace x (mid ++ rest) = subst (IsTrace x) (append_cancel_left old trace.steps (mid ++ rest) whole) trace.trace in
      let same : engine_after x early ≡ engine_after x mid = ap (engine_after x) front ∙ engine_earlier (entries_of x) x mid in (
        record { steps = mid; is = front; trace = trace_front x mid rest steps },
        subst (λ (e : Engine D disk). IsTrace e rest) (sym same) (trace_back x mid rest steps),
      )

-- ---- what a crash keeps

module _ {D : Type 0} (disk : Ghosts D) (only_now : disk.is_observable → (d : D) (c : Image) → disk.images_since d (disk.calls d) c → disk.images_now d c) (counts_now : disk.is_observable → (d : D) (t : ℕ) (c : Image) → t ≤ disk.calls d → disk.images_now d c → disk.images_since d t c) where
  -- Since the end of a list of a hall, of whose longer list it is the beginning.
  lasts_from : disk.is_observable → (h : List Entry) (x : Engine D disk) → IsAtRest h x → is_stopped x ≡ false → (early late rest : List (Item D disk)) (new : D) → IsTraceOf x early → IsTrace (engine_after x early) rest → late ≡ early ++ rest → IsTraceOf x late → new ≡ device (engine_after x late) → Lasts disk (log_at h late) new (device (engine_after x early)) (log_at h early)
  lasts_from reported h x rest_at runs early late rest new front back split trace out = record {
    kept = λ none.
        let halt : has_halt early ≡ false = sym (failed_halt early) ∙ none_failed (failed_in early) none in
        let still : is_stopped (engine_after x early) ≡ false = stopped_of_list x early front ∙ ap (λ (b : Bool). b || has_halt early) runs ∙ halt in
        let at : IsAtRest (history_of h early) (engine_after x early) = at_rest_of_list reported h x early rest_at front still in
        keeps_here disk reported (only_now reported) (counts_now reported) new (log_at h late) (history_of h early) (engine_after x early) rest at same_size back ends (same_log halt);
    ended = λ some.
        let halt : has_halt early ≡ true = sym (failed_halt early) ∙ some in
        let stopped : is_stopped (engine_after x early) ≡ true = stopped_of_list x early front ∙ stopped_if (is_stopped x) (has_halt early) halt in
        let none : rest ≡ [] = ends_stopped (engine_after x early) rest stopped back in
        let whole : late ≡ early = split ∙ ap (λ (l : List (Item D disk)). early ++ l) none ∙ append-nil early in
        (out ∙ ap (λ (l : List (Item D disk)). device (engine_after x l)) whole, ap (log_at h) whole);
  }
    where
      same_size : disk.size (device (engine_after x early)) ≡ disk.size new
      same_size =
          (keeps_of_list x early front).device_kept.same_size
          ∙ sym (keeps_of_list x late trace).device_kept.same_size
          ∙ sym (ap disk.size out)

      ends : new ≡ device (engine_after (engine_after x early) rest)
      ends =
          out ∙ ap (λ (l : List (Item D disk)). device (engine_after x l)) split
          ∙ ap (λ (e : Engine D disk). device e) (engine_append x early rest)

      same_log : has_halt early ≡ false → log_at h late ≡ log_at (history_of h early) rest
      same_log halt =
          ap (log_at h) split
          ∙ ap (λ (k : List Entry). record { history = h ++ k; failed = failed_in (early ++ rest) }) (entries_append early rest)
          ∙ ap (λ (k : List Entry). record { history = k; failed = failed_in (early ++ rest) }) (sym (append_assoc h (entries_in early) (entries_in rest)))
          ∙ ap (λ (o : Option Entry). record { history = history_of h early ++ entries_in rest; failed = o }) (failed_append early rest halt)

  module _ (old new : D) (begun now : StoreDesk D disk) (on : BeginsOn disk old begun.hall begun.session) where
    -- Since a moment of the talk.
    lasts_since : disk.is_observable → (h : List Entry) → IsOpenedOn disk h (opening_of begun.hall) → IsAt begun.hall now.session → new ≡ device (engine_of begun.hall now.session) → (d : StoreDesk D disk) → GoesOn begun d → GoesOn d now → Lasts disk (log_seen h now.session) new (device_at disk d) (log_at_desk disk h d)
    lasts_since reported h stood at out d first second =
        let x : Engine D disk = opening_of begun.hall in
        let early : List (Item D disk) = seen_of d.session in
        let late : List (Item D disk) = seen_of now.session in
        let rest : List (Item D disk) = second.goes.seen.0 in
        let split : late ≡ early ++ rest = second.goes.seen.1 in
        let parts = split_trace x (seen_of begun.session) early late rest on.begins.trace first.goes.seen split at.trace in
        let here : Lasts disk (log_at h late) new (device (engine_after x early)) (log_at h early) =
        lasts_from reported h x stood.at_rest on.opened.runs early late rest new parts.0 parts.1 split at.trace out in
        subst (λ (hall : Hall D disk). Lasts disk (log_at h late) new (device (engine_after (opening_of hall) early)) (log_at h early)) (sym first.same_hall) here

    -- ---- what the lines did

    -- What lines did at the hall, with the numbers of what they added.
    ran_lines : (h : List Entry) → IsOpenedOn disk h (opening_of begun.hall) → (pieces texts : List (List ℕ)) (did : Did begun now pieces texts) → RunsTo begun.feeds.batch (start_of h begun.hall) (log_seen h now.session) h (lines_in pieces) (replies_in did.answers) did.ran.ran.0 (waiting_of now.feeds)
    ran_lines h stood pieces texts did =
        subst (λ (low : List Entry). RunsTo begun.feeds.batch (start_of h begun.hall) (log_seen h now.session) low (lines_in pieces) (replies_in did.answers) did.ran.ran.0 (waiting_of now.feeds))
        (begun_history h (opening_of begun.hall) (seen_of begun.session) on.begins.trace on.begins.seen)
        (did.ran.ran.2 h stood.at_rest.of)

    module _ (closes : WorkedAt disk old begun.hall now.session new) where
      -- The replies are the model's.
      alone_at : OneSessionIsTheModel → (h : List Entry) → IsOpenedOn disk h (opening_of begun.hall) → (pieces texts : List (List ℕ)) (did : Did begun now pieces texts) → RunsAlone begun.feeds.batch (start_of h begun.hall) (log_seen h now.session) (script_in pieces) (replies_in did.answers)
      alone_at law h stood pieces texts did =
          let start : StoreState = start_of h begun.hall in
          let log : LogState = log_seen h now.session in
          let own : List ℕ = did.ran.ran.0 in
          let works : Works disk start log own old new = closes begun.session own on.begins did.ran.ran.1 h stood in
          let runs = ran_lines h stood pieces texts did in
          law begun.feeds.batch start log (script_in pieces) (replies_in did.answers) own (runs.last, runs.runs) works.each_once works.begins works.not_stopped works.follows works.fits

      -- All that was done.
      pub serves_rightly : {K : Type 0} (moments : List (K × StoreDesk D disk)) (failed : Bool) → OneSessionIsTheModel → GoesThrough (GoesOn {D = D} {disk = disk}) begun moments now → IsAt begun.hall now.session → (pieces texts : List (List ℕ)) → Did begun now pieces texts → new ≡ device (engine_of begun.hall now.session) → ((h : List Entry) → failed ≡ is_some (log_seen h now.session).failed) → IfHolds disk old (DoesRightly disk (λ start log own. DidServe disk begun now moments new start log) failed old new)
      serves_rightly {K} moments failed law through at pieces texts did out same_failed reported h held =
          let stood : IsOpenedOn disk h (opening_of begun.hall) = on.opened.stood reported h held in
          let start : StoreState = start_of h begun.hall in
          let log : LogState = log_seen h now.session in
          let own : List ℕ = did.ran.ran.0 in
          let works : Works disk start log own old new = closes begun.session own on.begins did.ran.ran.1 h stood in
          let runs = ran_lines h stood pieces texts did in
          let allowed : AddsAllowed log own = lines_allowed start log begun.feeds.batch (begun_lane h) (lines_in pieces) (replies_in did.answers) own runs.last runs.runs in
          record {
            first = start;
            log = log;
            own = own;
            works = works;
            what = record {
              same_log = refl;
              alone = alone_at law h stood;
              lasts = λ seen before m after is.
                  let parts = at_moment before after m begun now (subst (λ (l : List (K × StoreDesk D disk)). GoesThrough (GoesOn {D = D} {disk = disk}) begun l now) is through) in
                  lasts_since seen h stood at out m.1 parts.0 parts.1;
            };
            same_failed = same_failed h;
            legal = works.legal allowed;
            right = works.right allowed;
            in_flight = works.in_flight allowed;
          }

-- ---- the end of a talk

-- At each end of a talk the last desk did some pieces.
pub done_by : {D S K : Type 0} (disk : Ghosts D) (source : SourceGhosts S) (sink : SinkGhosts K) (end : TalkEnd) (limit : ℕ) (given rest : S) (before after : K) (begun now : StoreDesk D disk) (rounds : List (Round K (StoreDesk D disk))) (moments : List (K × StoreDesk D disk)) → EndsBy source sink (store_desk disk) end limit given rest before after begun now rounds moments → (pieces texts : List (List ℕ)) × Did begun now pieces texts
done_by disk source sink Ended limit given rest before after begun now rounds moments ends = (pieces_of rounds, texts_of rounds, ends.0.did)
done_by disk source sink NoSource limit given rest before after begun now rounds moments ends = (pieces_of rounds, texts_of rounds, ends.0.did)
done_by disk source sink TooLong limit given rest before after begun now rounds moments ends = (pieces_of rounds, texts_of rounds, ends.0.did)
done_by {D} disk source sink NoSink limit given rest before after begun now rounds moments ends =
    let pieces = pieces_of rounds ++ ends.piece ∷ [] in
    let texts = texts_of rounds ++ ends.text ∷ [] in
    (pieces, texts, subst (λ (d : StoreDesk D disk). Did begun d pieces texts) (sym ends.nothing_else) ends.done.did)
done_by disk source sink OutOfMemory limit given rest before after begun now rounds moments ends =
    ⊎_elim
    (λ did. (pieces_of rounds, texts_of rounds, did))
    (λ (lost : LosesReply source sink (store_desk disk) given begun now rounds). (pieces_of rounds ++ lost.piece ∷ [], texts_of rounds ++ lost.text ∷ [], lost.did))
    ends.did

-- ---- all of it

-- A talk at a store that was opened, and the close of its hall.
pub serves : {D S K : Type 0} (disk : Ghosts D) (source : SourceGhosts S) (sink : SinkGhosts K) (only_now : disk.is_observable → (d : D) (c : Image) → disk.images_since d (disk.calls d) c → disk.images_now d c) (counts_now : disk.is_observable → (d : D) (t : ℕ) (c : Image) → t ≤ disk.calls d → disk.images_now d c → disk.images_since d t c) (batch limit : ℕ) (given rest : S) (before after : K) (old new : D) (end : TalkEnd) (said : Result Transcript AllocError) (failed : Bool) (moments : List (K × StoreDesk D disk)) (asked : List (S × K)) (begun now : StoreDesk D disk) → OneSessionIsTheModel → BeginsServing disk batch old begun → Talks source sink (store_desk disk) limit given rest before after begun now end moments asked → IfOk said (HasStatus now.status) → (IsOpenedEngine disk old (opening_of now.hall) → IsPlainWork disk old said failed new) → IsAt now.hall now.session → new ≡ device (engine_of now.hall now.session) → (IsOpenedEngine disk old (opening_of now.hall) → (h : List Entry) → failed ≡ is_some (log_seen h now.session).failed) → (IsOpenedEngine disk old (opening_of now.hall) → WorkedAt disk old now.hall now.session new) → Serves disk source sink batch limit given rest before after old new end said failed moments asked
serves {D} {S} {K} disk source sink only_now counts_now batch limit given rest before after old new end said failed moments asked begun now law begins talks says plain at out same_failed works =
    let on : BeginsOn disk old begun.hall begun.session = begins.opened in
    let goes : GoesOn begun now = through_all moments begun now talks.through in
    let same : now.hall ≡ begun.hall = goes.same_hall in
    let opened : IsOpenedEngine disk old (opening_of now.hall) = subst (λ (hall : Hall D disk). IsOpenedEngine disk old (opening_of hall)) (sym same) on.opened in
    let did = done_by disk source sink end limit given rest before after begun now talks.rounds moments talks.ended in
    record {
      begun = begun;
      now = now;
      begins = begins;
      talks = talks;
      says = says;
      plain = plain opened;
      served = serves_rightly disk only_now counts_now old new begun now on
          (subst (λ (hall : Hall D disk). WorkedAt disk old hall now.session new) same (works opened))
          moments failed law talks.through
          (subst (λ (hall : Hall D disk). IsAt hall now.session) same at)
          did.0 did.1 did.2
          (subst (λ (hall : Hall D disk). new ≡ device (engine_of hall now.session)) same out)
          (same_failed opened);
    }
