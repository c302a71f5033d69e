-- Lemmas on the streams of a load before any commit, and on their creates.
use Rattle.std.specs.Prelude.{◌≡◌, ℕ, ◌<◌, Bool, true, false, nat_le, List, [], ◌∷◌, ◌++◌, length, if◌then◌else◌}
use Rattle.std.specs.Prelude.{Option, Some, None, Result, Ok, Err, IfOk}
use Rattle.std.specs.Option.{is_some, unwrap_or}
use Rattle.std.proofs.Common.{refl, ap, ◌∙◌, subst}
use Rattle.std.proofs.lemmas.Bool.{lt-leb}
use Rattle.btr_hist.specs.declared.entry.Entry.{Entry}
use Rattle.btr_hist.specs.declared.kernel.Spec.{Spec}
use Rattle.btr_hist.specs.History.{ids, stream_of, latest}
use Rattle.btr_rows.specs.Streams.{StreamValue}
use Rattle.btr_streams.specs.Board.{latest_of}
use Rattle.btr_load.specs.declared.outcome.RowsOutcome.{RowsOutcome}
use Rattle.btr_load.specs.declared.outcome.RowsOutcome.TheVariants.{Output}
use Rattle.btr_load.specs.Loads.{IsCommittedTo, OutcomeOfFound}
use Rattle.btr_load.specs.declared.stream.LoadedStream.{LoadedStream}
use Rattle.btr_load.specs.Work.{IsReady}
use Rattle.btr_load.specs.Plan.{IsPlanned, ArePlanned, AreReady}

-- ---- what is planned

-- What is implied of the value of a result.
pub if_ok : {T E : Type 0} (r : Result T E) (P Q : T → Type 0) → ((x : T) → P x → Q x) → IfOk r P → IfOk r Q
if_ok (Ok x) P Q implies is = implies x is
if_ok (Err e) P Q implies is = is

-- An output is found as one.
pub output_found : (h : List Entry) (stream : ℕ) (o : Option Spec) → is_some o ≡ true → OutcomeOfFound h stream o Output
output_found h stream None is = absurd (cc)
output_found h stream (Some spec) is = refl

-- A plain stream is found with its latest version.
pub plain_found : (h : List Entry) (stream version : ℕ) (o : Option Spec) (outcome : RowsOutcome) → stream < length (ids h) → is_some o ≡ false → version ≡ unwrap_or (latest_of h stream) 0 → IsCommittedTo stream version outcome → OutcomeOfFound h stream o outcome
plain_found h stream version (Some spec) outcome known is latest to = absurd (cc)
plain_found h stream version None outcome known is last to =
    let low : nat_le (length (ids h)) stream ≡ false = lt-leb (length (ids h)) stream known in
    subst (λ v. IsCommittedTo stream v outcome) (last ∙ ap (λ (b : Bool). unwrap_or (if b then None else Some (latest h stream)) 0) low) to

-- One stream more.
pub planned_push : (h : List Entry) (batch : ℕ) (rows : List StreamValue) (streams : List LoadedStream) (r : StreamValue) (outcome : RowsOutcome) → IsPlanned h (stream_of h r.id) outcome → ArePlanned h batch rows streams → ArePlanned h batch (rows ++ r ∷ []) (streams ++ record { rows = r; batch = batch; outcome = outcome } ∷ [])
planned_push h batch [] [] r outcome one all = (refl, refl, one, tt)
planned_push h batch [] (s ∷ streams) r outcome one all = absurd all
planned_push h batch (first ∷ rows) [] r outcome one all = absurd all
planned_push h batch (first ∷ rows) (s ∷ streams) r outcome one all = (all.0, all.1, all.2, planned_push h batch rows streams r outcome one all.3)

pub ready_push : (streams : List LoadedStream) (s : LoadedStream) → IsReady s → AreReady streams → AreReady (streams ++ s ∷ [])
ready_push [] s one all = (one, tt)
ready_push (first ∷ streams) s one all = (all.0, ready_push streams s one all.1)
