-- If the device holds a store with room, and nothing fails, `live` runs the whole script.
use Rattle.std.specs.Prelude.{◌≡◌, ℕ, ◌++◌, Bool, false, List, [], ◌∷◌, Option, Some, None, Ok, Err, IfSome}
use Rattle.std.specs.List.{AllByRecursion}
use Rattle.std.specs.Option.{is_some}
use Rattle.std.proofs.Common.{refl, sym, ◌∙◌, ap, subst, arith, inl, inr, ⊎_elim}
use Rattle.btr_io.specs.declared.source.Source.{Ghosts as SourceGhosts}
use Rattle.btr_io.specs.Faults.{Rose as StreamRose}
use Rattle.btr_disk.specs.declared.disk.Disk.{Ghosts}
use Rattle.btr_disk.specs.Causes.{Rose}
use Rattle.btr_hist.specs.declared.entry.Entry.{Entry}
use Rattle.btr_text.specs.Input.{script_of}
use Rattle.btr_text.specs.declared.script.ScriptLine.{ScriptLine}
use Rattle.btr_open.specs.Laws.{HeldIsSound, OneHistoryIsHeld}
use Rattle.btr_hist.specs.Legal.{Follows}
use Rattle.btr_gate.specs.Prefixes.{StartsWith}
use Rattle.btr_jobs.specs.States.{StoreState, LogState}
use Rattle.btr_work.specs.Laws.{AreAllSince}
use Rattle.btr_store.specs.declared.report_line.ReportLine.{ReportLine}
use Rattle.btr_work.specs.declared.report.Refreshed.{Refreshed}
use Rattle.btr_work.specs.declared.report.Refreshed.TheVariants as results
use Rattle.btr_work.specs.declared.report.RefreshLine.{RefreshLine}
use Rattle.btr_live.specs.declared.live.LiveReport.{LiveReport}
use Rattle.btr_live.specs.Lanes.{in_own_feeds}
use Rattle.btr_live.specs.Live as runs
use Rattle.btr_live.specs.Script.{begun_state}
use Rattle.btr_live.specs.OneLane.{AreInLane, RunsAlone}
use Rattle.btr_store.specs.declared.status.Status.{Status}
use Rattle.btr_store.specs.declared.status.Status.TheVariants.{Done}
use Rattle.btr_store.specs.declared.transcript.Transcript.{Transcript}
use Rattle.btr_store.specs.Completes.{IsBenign}
use Rattle.btr_store.specs.Status.{greater, greatest_of_lines, status_of_line, status_of_lines}
use Rattle.btr_store.specs.Streams.{id_of_stream}
use Rattle.btr_store.specs.Work.{DoesRightly}
use Rattle.btr_top.specs.declared.ending.Ending.{Ending}
use Rattle.btr_top.specs.Ending.{status_of}
use Rattle.btr_store.specs.Replies.{status_of_replies}
use Rattle.btr_top.specs.Command.{HasRead, ExceedsInputLimit}
use Rattle.btr_top.specs.declared.live.FeedKind.{FeedKind}
use Rattle.btr_top.specs.declared.live.FeedKind.TheVariants.{Own, Shared}
use Rattle.btr_top.specs.Live.{RunsScriptOn, ScriptCause, LiveCause, CanLive}
use Rattle.btr_store.specs.Live.{LastResult, round_line, round_lines, round_status, log_status, SaysScript, RunsIf}
use Rattle.btr_store.specs.Shared.{RunsInBuffersIf}
use Rattle.btr_top.specs.Room.{HasRoomInLane, HasRoomForScript}
use Rattle.btr_top.specs.Run.{IsPlainStatus}
use Rattle.btr_top.proofs.BenignStatuses.{benign_greater, benign_script}
use Rattle.btr_top.proofs.PlainStatuses.{benign_input}
use Rattle.btr_top.proofs.RoundServes.{IsCalm}
use Rattle.btr_top.proofs.RunFits.{LastCalm, run_fits}
use Rattle.btr_top.proofs.SharedFits.{shared_fits}
use Rattle.btr_top.proofs.StoreCompletes.{opened, began, no_failure, plain_work}

-- ---- the status of a transcript

abbrev AreBenign : List ReportLine → Type 0
AreBenign all = AllByRecursion (λ (line : ReportLine). IsBenign (status_of_line line)) all

greatest_benign : (s : Status) (all : List ReportLine) → IsBenign s → AreBenign all → IsBenign (greatest_of_lines s all)
greatest_benign s [] benign each = benign
greatest_benign s (line ∷ more) benign each =
    greatest_benign (greater s (status_of_line line)) more (benign_greater s (status_of_line line) benign each.0) each.1

append_benign : (a b : List ReportLine) → AreBenign a → AreBenign b → AreBenign (a ++ b)
append_benign [] b first second = second
append_benign (line ∷ a) b first second = (first.0, append_benign a b first.1 second)

line_benign : (id : ℕ) (result : Refreshed) → IsCalm result → AreBenign (round_line id result)
line_benign id (results.Landed version) calm = tt
line_benign id (results.Current version) calm = tt
line_benign id (results.Refused fault) calm = (calm, tt)

lines_benign : (h : List Entry) (report : List RefreshLine) → AllByRecursion (λ (line : RefreshLine). IsCalm line.result) report → AreBenign (round_lines h (Some (Ok report)))
lines_benign h [] calm = tt
lines_benign h (line ∷ report) calm =
    append_benign (round_line (id_of_stream h line.output) line.result) (round_lines h (Some (Ok report)))
    (line_benign (id_of_stream h line.output) line.result calm.0) (lines_benign h report calm.1)

last_benign : (h : List Entry) (last : LastResult) → LastCalm last → IsBenign (status_of_lines (round_lines h last)) × IsBenign (round_status last)
last_benign h None calm = (inl refl, inl refl)
last_benign h (Some (Err error)) calm = (inl refl, inr (inr refl))
last_benign h (Some (Ok report)) calm = (greatest_benign Done (round_lines h (Some (Ok report))) (inl refl) (lines_benign h report calm), inl refl)

benign_live_status : (replies : Status) (log : LogState) (last : LastResult) → IsBenign replies → LastCalm last → log.failed ≡ None → IsBenign (greater (greater replies (status_of_lines (round_lines log.history last))) (greater (round_status last) (log_status log)))
benign_live_status replies log last benign calm sound =
    let device : log_status log ≡ Done = ap (λ (o : Option Entry). if_failed o) sound in
    let lines : Status = status_of_lines (round_lines log.history last) in
    let of_last = last_benign log.history last calm in
    benign_greater (greater replies lines) (greater (round_status last) (log_status log))
    (benign_greater replies lines benign of_last.0)
    (benign_greater (round_status last) (log_status log) of_last.1 (inl device))
  where
    if_failed : Option Entry → Status
    if_failed failed = log_status (record { history = log.history; failed = failed })

-- A script without rounds has no last round.
no_last : (batch : ℕ) (start : StoreState) (log : LogState) (script : List ScriptLine) (report : LiveReport) (own : List ℕ) → runs.RunsLive (in_own_feeds batch) false start log start.history script report own → report.last ≡ None
no_last batch start log script report own is = by report.last refl
  where
    by : (last : LastResult) → report.last ≡ last → report.last ≡ None
    by None none = none
    by (Some result) some =
        absurd (subst (λ (l : LastResult). runs.LastRound start log is.middle.history false l is.lastly) some is.last)

-- ---- what a script did on a store

module _ (materialize : Bool) (lines : List ScriptLine) (first : StoreState) (log : LogState) (own : List ℕ) (transcript : Transcript) (running : first.stopped ≡ false) (sound : log.failed ≡ None) (follows : Follows log.history) (begins : StartsWith log.history first.history) (each_once : AreAllSince first.history log own) where
  abbrev AreCalm : LiveReport → Type 0
  AreCalm report = IsBenign (status_of_replies report.replies.items) × LastCalm report.last

  says_benign : (report : LiveReport) → AreCalm report → SaysScript log (Some report) (Ok transcript) → IsBenign transcript.status
  says_benign report calm says =
      subst (λ (s : Status). IsBenign s) (sym says.same_status)
      (benign_live_status (status_of_replies report.replies.items) log report.last calm.0 calm.1 sound)

  module _ (batch : ℕ) where
    abbrev Ran : Bool → LiveReport → Type 0
    Ran rounds report = runs.RunsLive (in_own_feeds batch) rounds first log first.history lines report own

    benign_alone : (report : LiveReport) → materialize ≡ false → HasRoomInLane batch first lines → Ran materialize report → ((lane : ℕ) → AreInLane lane lines → RunsAlone batch first log lines report.replies.items) → AreCalm report
    benign_alone report none room ran in_lane =
        let alone = in_lane room.lane room.one in
        let still : alone.last.store.stopped ≡ false = alone.stopped ∙ ap (λ (o : Option Entry). is_some o) sound in
        let plain : Ran false report = subst (λ (m : Bool). Ran m report) none ran in
        let no_rounds : report.last ≡ None = no_last batch first log lines report own plain in (
          benign_script batch (begun_state first) alone.last lines report.replies.items alone.runs room.room still,
          subst (λ (l : LastResult). LastCalm l) (sym no_rounds) tt,
        )

    benign_run : (report : LiveReport) → Ran materialize report → (materialize ≡ false → (lane : ℕ) → AreInLane lane lines → RunsAlone batch first log lines report.replies.items) → HasRoomForScript (Own batch) materialize first lines → AreCalm report
    benign_run report ran in_lane room_here =
        ⊎_elim
        (λ room. benign_alone report room.0 room.1 ran (in_lane room.0))
        (λ room. run_fits batch lines first log running sound follows begins materialize report own ran each_once room)
        room_here

    benign_report : (report : Option LiveReport) → RunsIf batch materialize first log lines report own → (materialize ≡ false → (lane : ℕ) → AreInLane lane lines → IfSome report (λ r. RunsAlone batch first log lines r.replies.items)) → SaysScript log report (Ok transcript) → HasRoomForScript (Own batch) materialize first lines → IsBenign transcript.status
    benign_report None ran in_lane says room = absurd says
    benign_report (Some report) ran in_lane says room = says_benign report (benign_run report ran in_lane room) says

  module _ (threshold : ℕ) where
    benign_shared : (report : Option LiveReport) → RunsInBuffersIf threshold materialize first log first.history lines report own → SaysScript log report (Ok transcript) → HasRoomForScript (Shared threshold) materialize first lines → IsBenign transcript.status
    benign_shared None ran says room = absurd says
    benign_shared (Some report) ran says room =
        says_benign report (shared_fits threshold lines first log running sound follows begins materialize report own ran each_once room) says

  ran_benign : (feeds : FeedKind) → RunsScriptOn feeds materialize lines (Ok transcript) first log own → HasRoomForScript feeds materialize first lines → IsBenign transcript.status
  ran_benign (Own batch) lives room = benign_report batch lives.report lives.runs lives.one_lane lives.says room
  ran_benign (Shared threshold) shares room = benign_shared threshold shares.report shares.runs shares.says room

-- ---- the command

module _ {S D : Type 0} (source : SourceGhosts S) (disk : Ghosts D) (feeds : FeedKind) (materialize : Bool) (given rest : S) (old new : D) (sound : HeldIsSound) (one : OneHistoryIsHeld) (can : CanLive source disk feeds materialize given old) (source_reported : source.is_observable) (reported : disk.is_observable) (source_works : StreamRose (source.faults given) (source.faults rest) → ⊥) (device_works : Rose (disk.faults old) (disk.faults new) → ⊥) where
  not_too_long : ExceedsInputLimit source given rest → ⊥
  not_too_long exceeds = omega (arith, exceeds source_reported, can.0)

  abbrev store : StoreState
  store = opened disk old new can.1.history can.1.blocks can.1.tail can.1.holds sound one reported device_works

  benign_transcript : (lines : List ScriptLine) → lines ≡ script_of (source.left given) → (transcript : Transcript) (failed : Bool) → DoesRightly disk (λ start log own. RunsScriptOn feeds materialize lines (Ok transcript) start log own) failed old new → IsBenign transcript.status
  benign_transcript lines all transcript failed does =
      let same : does.first ≡ store = began disk old new can.1.history can.1.blocks can.1.tail can.1.holds sound one reported device_works (λ start log own. RunsScriptOn feeds materialize lines (Ok transcript) start log own) failed does in
      let sound_end : does.log.failed ≡ None = no_failure disk old new can.1.history can.1.blocks can.1.tail can.1.holds sound one reported device_works (λ start log own. RunsScriptOn feeds materialize lines (Ok transcript) start log own) failed does in
      -- the room of the store, as the run found it
      let room : HasRoomForScript feeds materialize does.first lines =
      subst (λ (s : StoreState). HasRoomForScript feeds materialize s lines) (sym same)
      (subst (λ (ls : List ScriptLine). HasRoomForScript feeds materialize store ls) (sym all) can.1.room) in
      ran_benign materialize lines does.first does.log does.own transcript does.works.not_stopped sound_end does.works.follows does.works.begins does.works.each_once feeds does.what room

  benign_cause : (input : List ℕ) → HasRead source input given rest → (e : Ending) → ScriptCause disk feeds materialize (script_of input) old new e → IsPlainStatus (status_of e)
  benign_cause input read e why =
      let lines : List ScriptLine = script_of input in
      let all : lines ≡ script_of (source.left given) = ap (λ (i : List ℕ). script_of i) (read.all source_reported) in
      plain_work disk old new can.1.history can.1.blocks can.1.tail can.1.holds sound one reported device_works
      (λ said start log own. RunsScriptOn feeds materialize lines said start log own)
      (λ transcript failed does. benign_transcript lines all transcript failed does)
      e why.0

  pub benign_live : (e : Ending) → LiveCause source disk feeds materialize given rest old new e → IsPlainStatus (status_of e)
  benign_live e why =
      ⊎_elim
      (λ unread. benign_input source given rest source_works (λ exceeds. not_too_long exceeds) e unread.0)
      (λ (read : (input : List ℕ) × HasRead source input given rest × ScriptCause disk feeds materialize (script_of input) old new e). benign_cause read.0 read.1 e read.2)
      why
