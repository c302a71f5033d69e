-- Which lines ask for no status of a full device or of a failed one.
use Rattle.std.specs.Prelude.{ℕ, Bool, true, false, nat_lt, List, [], ◌∷◌, ◌++◌, length, map, flat_map, cond, drop, Option, Some, None, IfSome, Result, Ok, Err}
use Rattle.std.specs.List.{AllByRecursion, range_with_len}
use Rattle.std.proofs.Common.{refl, sym, subst, inl, inr}
use Rattle.btr_hist.specs.declared.entry.Entry.{Entry}
use Rattle.btr_hist.specs.declared.rejection.Rejection.{Rejection}
use Rattle.btr_hist.specs.declared.rejection.Rejection.TheVariants as rejections
use Rattle.btr_rows.specs.declared.row.NumberedPoint.{NumberedPoint}
use Rattle.btr_hist.specs.History.{ids}
use Rattle.btr_text.specs.declared.reply.Reason.{Reason}
use Rattle.btr_text.specs.Reasons.{reason_of_rejection}
use Rattle.btr_streams.specs.declared.board.Receipt.{Receipt}
use Rattle.btr_engine.specs.declared.step.StepFault.{StepFault}
use Rattle.btr_engine.specs.declared.step.StepFault.TheVariants as steps
use Rattle.btr_hall.specs.declared.land.LandFault.{LandFault}
use Rattle.btr_hall.specs.declared.land.LandFault.TheVariants as faults
use Rattle.btr_load.specs.declared.outcome.RowsOutcome.{RowsOutcome}
use Rattle.btr_load.specs.declared.outcome.RowsOutcome.TheVariants.{Output, NotCreated, Committed}
use Rattle.btr_load.specs.declared.stream.LoadedStream.{LoadedStream}
use Rattle.btr_load.specs.Loads.{LoadedValue}
use Rattle.btr_load.specs.Fits.{HadRoom, OutcomeHadRoom}
use Rattle.btr_work.specs.declared.report.Refreshed.{Refreshed}
use Rattle.btr_work.specs.declared.report.Refreshed.TheVariants as results
use Rattle.btr_work.specs.declared.report.RefreshLine.{RefreshLine}
use Rattle.btr_store.specs.declared.report_line.ReportLine.{ReportLine}
use Rattle.btr_store.specs.declared.report_line.ReportLine.TheVariants as lines
use Rattle.btr_store.specs.declared.define.DefinedOutput.{DefinedOutput}
use Rattle.btr_store.specs.declared.load_lines.RefusedNumber.{RefusedNumber}
use Rattle.btr_store.specs.declared.status.Status.{Status}
use Rattle.btr_store.specs.declared.status.Status.TheVariants.{Done}
use Rattle.btr_store.specs.declared.transcript.Transcript.{Transcript}
use Rattle.btr_live.specs.Reasons.{reason_of_step, reason_of_landing}
use Rattle.btr_store.specs.Status.{status_rank, greater, greatest_of_lines, status_of_reason, status_of_line}
use Rattle.btr_store.specs.Transcript.{SaysLines}
use Rattle.btr_store.specs.Completes.{IsBenign, HasBenignLines}
use Rattle.btr_store.specs.Distil.{line_of_output, output_line}
use Rattle.btr_store.specs.Streams.{id_of_stream}
use Rattle.btr_store.specs.LoadLines.{row_line, batch_spans, outcome_spans, outcome_line, stream_spans, stream_lines, total_line, SaysLoad}
use Rattle.btr_store.specs.SampleLines.{refusal_line, define_line, landing_refusal, landing_line, summary_line, summary_lines, SaysAll}

-- ---- statuses

one_of_two : (b : Bool) (x y : Status) → IsBenign x → IsBenign y → IsBenign (cond b y x)
one_of_two true x y first second = second
one_of_two false x y first second = first

greater_benign : (a b : Status) → IsBenign a → IsBenign b → IsBenign (greater a b)
greater_benign a b first second = one_of_two (nat_lt (status_rank a) (status_rank b)) a b first second

-- ---- lines

abbrev pub AreBenign : List ReportLine → Type 0
AreBenign all = AllByRecursion (λ line. IsBenign (status_of_line line)) all

greatest_benign : (s : Status) (all : List ReportLine) → IsBenign s → AreBenign all → IsBenign (greatest_of_lines s all)
greatest_benign s [] first each = first
greatest_benign s (line ∷ more) first each =
    greatest_benign (greater s (status_of_line line)) more (greater_benign s (status_of_line line) first each.0) each.1

append_benign : (a b : List ReportLine) → AreBenign a → AreBenign b → AreBenign (a ++ b)
append_benign [] b first second = second
append_benign (line ∷ a) b first second = (first.0, append_benign a b first.1 second)

-- What says such lines asks for such a status.
pub says_benign : (all : List ReportLine) (t : Transcript) → SaysLines all t → AreBenign all → HasBenignLines t
says_benign all t says each = record {
  lines = all;
  says = says;
  each = each;
  status = subst (λ (s : Status). IsBenign s) (sym says.same_status) (greatest_benign Done all (inl refl) each);
}

-- ---- entries

-- The device did not fail in the step of the entry.
abbrev pub Ran : Result Receipt StepFault → Type 0
Ran (Ok receipt) = Unit {0}
Ran (Err (steps.Stopped entries)) = Unit {0}
Ran (Err steps.Sealed) = Unit {0}
Ran (Err (steps.Rejected why)) = Unit {0}
Ran (Err steps.Want) = Unit {0}
Ran (Err (steps.DeviceFull need left)) = Unit {0}
Ran (Err steps.DeviceFault) = ⊥

abbrev pub OutcomeRan : RowsOutcome → Type 0
OutcomeRan Output = Unit {0}
OutcomeRan (NotCreated fault) = Ran (Err fault)
OutcomeRan (Committed stream results latest) = AllByRecursion Ran results

rejection_benign : (id : ℕ) (why : Rejection) → IsBenign (status_of_reason (reason_of_rejection id why))
rejection_benign id rejections.NoStream = inr (inl refl)
rejection_benign id rejections.StreamExists = inr (inl refl)
rejection_benign id rejections.NotWritable = inr (inl refl)
rejection_benign id (rejections.OutOfDomain time) = inr (inl refl)
rejection_benign id rejections.Empty = inr (inl refl)
rejection_benign id (rejections.TooMany count) = inr (inl refl)
rejection_benign id rejections.StreamLimit = inr (inl refl)
rejection_benign id rejections.VersionLimit = inr (inl refl)
rejection_benign id rejections.BadSpec = inr (inl refl)
rejection_benign id (rejections.BadFirst first present last) = inr (inl refl)
rejection_benign id (rejections.Held output version) = inr (inl refl)
rejection_benign id (rejections.Crowded start) = inr (inl refl)
rejection_benign id (rejections.TooManyPoints count) = inr (inl refl)

pub step_benign : (fault : StepFault) → HadRoom (Err fault) → Ran (Err fault) → IsBenign (status_of_reason (reason_of_step 0 fault))
step_benign (steps.Stopped entries) room ran = inr (inl refl)
step_benign steps.Sealed room ran = inr (inl refl)
step_benign (steps.Rejected why) room ran = rejection_benign 0 why
step_benign steps.Want room ran = inr (inr refl)
step_benign (steps.DeviceFull need left) room ran = absurd room
step_benign steps.DeviceFault room ran = absurd ran

-- ---- loads

rows_benign : (rows : List RefusedNumber) → AreBenign (map row_line rows)
rows_benign [] = tt
rows_benign (row ∷ rows) = (inr (inl refl), rows_benign rows)

spans_benign : (id size : ℕ) (points : List NumberedPoint) (all : List (Result Receipt StepFault)) → AllByRecursion HadRoom all → AllByRecursion Ran all → AreBenign (batch_spans id size points all)
spans_benign id size points [] room ran = tt
spans_benign id size points (Ok receipt ∷ all) room ran = spans_benign id size (drop size points) all room.1 ran.1
spans_benign id size points (Err fault ∷ all) room ran =
    (step_benign fault room.0 ran.0, spans_benign id size (drop size points) all room.1 ran.1)

outcome_benign : (id size : ℕ) (points : List NumberedPoint) (outcome : RowsOutcome) → OutcomeHadRoom outcome → OutcomeRan outcome → AreBenign (outcome_spans id size points outcome ++ outcome_line id size points outcome)
outcome_benign id size points Output room ran = tt
outcome_benign id size points (NotCreated fault) room ran = (step_benign fault room ran, tt)
outcome_benign id size points (Committed stream all latest) room ran =
    append_benign (batch_spans id size points all) (outcome_line id size points (Committed stream all latest)) (spans_benign id size points all room ran) (inl refl, tt)

streams_benign : (streams : List LoadedStream) → AllByRecursion (λ s. OutcomeHadRoom s.outcome) streams → AllByRecursion (λ s. OutcomeRan s.outcome) streams → AreBenign (flat_map stream_lines streams)
streams_benign [] room ran = tt
streams_benign (s ∷ streams) room ran =
    append_benign (stream_lines s) (flat_map stream_lines streams) (outcome_benign s.rows.id s.batch s.rows.points s.outcome room.0 ran.0) (streams_benign streams room.1 ran.1)

pub load_benign : (l : LoadedValue) (t : Transcript) → SaysLoad l t → AllByRecursion (λ s. OutcomeHadRoom s.outcome) l.streams → AllByRecursion (λ s. OutcomeRan s.outcome) l.streams → HasBenignLines t
load_benign l t says room ran =
    let rows : List ReportLine = map row_line says.0 in
    let streams : List ReportLine = flat_map stream_lines l.streams in
    let last : List ReportLine = total_line l ∷ [] in
    says_benign (rows ++ streams ++ last) t says.2
    (append_benign (rows ++ streams) last (append_benign rows streams (rows_benign says.0) (streams_benign l.streams room ran)) (inl refl, tt))

-- ---- outputs

-- The result came neither from a full device nor from a failed one.
abbrev pub IsCalm : Refreshed → Type 0
IsCalm (results.Landed version) = Unit {0}
IsCalm (results.Current version) = Unit {0}
IsCalm (results.Refused (faults.Stopped entries)) = Unit {0}
IsCalm (results.Refused faults.Sealed) = Unit {0}
IsCalm (results.Refused (faults.Superseded version)) = Unit {0}
IsCalm (results.Refused faults.VersionLimit) = Unit {0}
IsCalm (results.Refused (faults.Crowded start)) = Unit {0}
IsCalm (results.Refused (faults.TooManyPoints count)) = Unit {0}
IsCalm (results.Refused faults.Want) = Unit {0}
IsCalm (results.Refused (faults.DeviceFull need left)) = ⊥
IsCalm (results.Refused faults.DeviceFault) = ⊥

pub landing_benign : (fault : LandFault) → IsCalm (results.Refused fault) → IsBenign (status_of_reason (reason_of_landing fault))
landing_benign (faults.Stopped entries) calm = inr (inl refl)
landing_benign faults.Sealed calm = inr (inl refl)
landing_benign (faults.Superseded version) calm = inr (inl refl)
landing_benign faults.VersionLimit calm = inr (inl refl)
landing_benign (faults.Crowded start) calm = inr (inl refl)
landing_benign (faults.TooManyPoints count) calm = inr (inl refl)
landing_benign faults.Want calm = inr (inr refl)
landing_benign (faults.DeviceFull need left) calm = absurd calm
landing_benign faults.DeviceFault calm = absurd calm

line_benign : (h : List Entry) (id output : ℕ) (result : Refreshed) → IsCalm result → IsBenign (status_of_line (line_of_output h id output result))
line_benign h id output (results.Landed version) calm = inl refl
line_benign h id output (results.Current version) calm = inl refl
line_benign h id output (results.Refused fault) calm = landing_benign fault calm

pub report_benign : (h : List Entry) (report : List RefreshLine) → AllByRecursion (λ line. IsCalm line.result) report → AreBenign (map (output_line h) report)
report_benign h [] calm = tt
report_benign h (line ∷ report) calm =
    (line_benign h (id_of_stream h line.output) line.output line.result calm.0, report_benign h report calm.1)

-- ---- samples

outcome_spans_benign : (id size : ℕ) (points : List NumberedPoint) (outcome : RowsOutcome) → OutcomeHadRoom outcome → OutcomeRan outcome → AreBenign (outcome_spans id size points outcome)
outcome_spans_benign id size points Output room ran = tt
outcome_spans_benign id size points (NotCreated fault) room ran = (step_benign fault room ran, tt)
outcome_spans_benign id size points (Committed stream all latest) room ran = spans_benign id size points all room ran

all_spans_benign : (streams : List LoadedStream) → AllByRecursion (λ s. OutcomeHadRoom s.outcome) streams → AllByRecursion (λ s. OutcomeRan s.outcome) streams → AreBenign (flat_map stream_spans streams)
all_spans_benign [] room ran = tt
all_spans_benign (s ∷ streams) room ran =
    append_benign (stream_spans s) (flat_map stream_spans streams) (outcome_spans_benign s.rows.id s.batch s.rows.points s.outcome room.0 ran.0) (all_spans_benign streams room.1 ran.1)

-- The output was not refused, or for another reason.
abbrev pub IsCalmOutput : DefinedOutput → Type 0
IsCalmOutput output = IfSome output.refused (λ reason. IsBenign (status_of_reason reason))

refusal_benign : (id : ℕ) (refused : Option Reason) → IfSome refused (λ reason. IsBenign (status_of_reason reason)) → AreBenign (refusal_line id refused)
refusal_benign id None calm = tt
refusal_benign id (Some reason) calm = (calm, tt)

defines_benign : (outputs : List DefinedOutput) → AllByRecursion IsCalmOutput outputs → AreBenign (flat_map define_line outputs)
defines_benign [] calm = tt
defines_benign (output ∷ outputs) calm =
    append_benign (define_line output) (flat_map define_line outputs) (refusal_benign output.id output.refused calm.0) (defines_benign outputs calm.1)

landing_if_refused : (result : Refreshed) → IsCalm result → IfSome (landing_refusal result) (λ reason. IsBenign (status_of_reason reason))
landing_if_refused (results.Landed version) calm = tt
landing_if_refused (results.Current version) calm = tt
landing_if_refused (results.Refused fault) calm = landing_benign fault calm

landings_benign : (h : List Entry) (report : List RefreshLine) → AllByRecursion (λ line. IsCalm line.result) report → AreBenign (flat_map (landing_line h) report)
landings_benign h [] calm = tt
landings_benign h (line ∷ report) calm =
    append_benign (landing_line h line) (flat_map (landing_line h) report) (refusal_benign (id_of_stream h line.output) (landing_refusal line.result) (landing_if_refused line.result calm.0)) (landings_benign h report calm.1)

summaries_benign : (h : List Entry) (streams : List ℕ) → AreBenign (map (λ stream. summary_line h (id_of_stream h stream) stream) streams)
summaries_benign h [] = tt
summaries_benign h (stream ∷ streams) = (inl refl, summaries_benign h streams)

pub sample_benign : (h : List Entry) (l : LoadedValue) (outputs : List DefinedOutput) (report : List RefreshLine) (t : Transcript) → SaysAll h l outputs report t → AllByRecursion (λ s. OutcomeHadRoom s.outcome) l.streams → AllByRecursion (λ s. OutcomeRan s.outcome) l.streams → AllByRecursion IsCalmOutput outputs → AllByRecursion (λ line. IsCalm line.result) report → HasBenignLines t
sample_benign h l outputs report t says room ran defined calm =
    let rows : List ReportLine = map row_line says.0 in
    let spans : List ReportLine = flat_map stream_spans l.streams in
    let defines : List ReportLine = flat_map define_line outputs in
    let landings : List ReportLine = flat_map (landing_line h) report in
    let last : List ReportLine = summary_lines h in
    says_benign (rows ++ spans ++ defines ++ landings ++ last) t says.2
    (append_benign (rows ++ spans ++ defines ++ landings) last
    (append_benign (rows ++ spans ++ defines) landings
    (append_benign (rows ++ spans) defines
    (append_benign rows spans (rows_benign says.0) (all_spans_benign l.streams room ran))
    (defines_benign outputs defined))
    (landings_benign h report calm))
    (summaries_benign h (range_with_len 0 (length (ids h)))))

pub used_benign : (entries : ℕ) (t : Transcript) → SaysLines (lines.Used entries ∷ []) t → HasBenignLines t
used_benign entries t says = says_benign (lines.Used entries ∷ []) t says (inr (inl refl), tt)
