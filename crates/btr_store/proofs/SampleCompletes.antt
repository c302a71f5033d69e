-- If there is room for a sample, and the device does not fail, it asks for no status of a full device or of a failed one.
use Rattle.std.specs.Prelude.{◌≡◌, ℕ, ◌+◌, ◌<◌, ◌≤◌, List, [], ◌∷◌, ◌++◌, length, Option, Some, None, Result, Ok, Err, IfSome}
use Rattle.std.specs.List.{AllByRecursion}
use Rattle.std.proofs.Common.{refl, sym, subst, arith, inl, inr, length-append, ⊎_elim}
use Rattle.std.proofs.lemmas.Bool.{cases_lt}
use Rattle.btr_hist.specs.declared.entry.Entry.{Entry}
use Rattle.btr_hist.specs.declared.entry.Entry.TheVariants as entries
use Rattle.btr_hist.specs.History.{stream_of}
use Rattle.btr_hist.specs.Legal.{rejection, Follows}
use Rattle.btr_hist.proofs.HistoryLemmas.{follows-push}
use Rattle.btr_rows.specs.Streams.{StreamValue}
use Rattle.btr_text.specs.declared.reply.Reason.{Reason}
use Rattle.btr_streams.specs.declared.board.Receipt.{Receipt}
use Rattle.btr_engine.specs.declared.step.StepFault.{StepFault}
use Rattle.btr_engine.specs.declared.step.StepFault.TheVariants as steps
use Rattle.btr_engine.specs.Body.{need_of, needs_of}
use Rattle.btr_engine.proofs.NeedLemmas.{needs-push}
use Rattle.btr_gate.proofs.PrefixLemmas.{starts_refl, starts_trans, starts_length, starts_same, starts_between, starts_more}
use Rattle.btr_jobs.specs.States.{StoreState, LogState}
use Rattle.btr_jobs.specs.Turns.{IsFull, Committed}
use Rattle.btr_load.specs.declared.stream.LoadedStream.{LoadedStream}
use Rattle.btr_load.specs.Loads.{CreatesEach}
use Rattle.btr_load.specs.Fits.{HadRoom}
use Rattle.btr_store.specs.declared.define.DefinedOutput.{DefinedOutput}
use Rattle.btr_store.specs.Completes.{IsBenign, LandsSince}
use Rattle.btr_store.specs.Define.{output_id, mean_of, refusal_of, DefinesOver, DefinesEach}
use Rattle.btr_store.specs.SampleRoom.{AreOfRows, DefinesSince}
use Rattle.btr_store.specs.Status.{status_of_reason}
use Rattle.btr_store.proofs.Allowing.{last_same}
use Rattle.btr_store.proofs.Benign.{IsCalmOutput, Ran, step_benign}
use Rattle.btr_store.proofs.LoadCompletes.{committed_ran}

-- The streams of a load are those of its rows.
pub of_rows : (start : StoreState) (log : LogState) (low p : List Entry) (batch : ℕ) (rows : List StreamValue) (streams : List LoadedStream) (own : List ℕ) (last : List Entry) → CreatesEach start log low p batch rows streams own last → AreOfRows batch rows streams
of_rows start log low p batch [] [] own last opens = (refl, tt)
of_rows start log low p batch [] (s ∷ streams) own last opens = absurd opens
of_rows start log low p batch (r ∷ rows) [] own last opens = absurd opens
of_rows start log low p batch (r ∷ rows) (s ∷ streams) own last opens =
    let rest : AreOfRows batch rows streams = of_rows start log low opens.4 batch rows streams opens.3 last opens.7 in
    ((λ i. opens.0 i ∷ rest.0 i), (opens.1, rest.1))

-- Nothing was landed yet.
pub lands_none : (most : ℕ) (h : List Entry) → Follows h → LandsSince most h h
lands_none most h follows = record {
  begins = starts_refl h;
  follows = follows;
  planned = λ p e starts long.
      let part : length (p ++ e ∷ []) ≡ length p + 1 = length-append p (e ∷ []) in
      absurd (omega (arith, long, part, starts_length h (p ++ e ∷ []) starts));
  few = λ stream. omega arith;
}

module _ (streams : ℕ) (low : List Entry) where
  pub defines_none : Follows low → DefinesSince streams low low
  defines_none follows = record {
    begins = starts_refl low;
    follows = follows;
    defines = λ p e starts long.
        let part : length (p ++ e ∷ []) ≡ length p + 1 = length-append p (e ∷ []) in
        absurd (omega (arith, long, part, starts_length low (p ++ e ∷ []) starts));
  }

  -- One definition more.
  defines_next : (p : List Entry) (stream input : ℕ) → stream < streams → rejection p (entries.Define (output_id stream) (mean_of input)) ≡ None → DefinesSince streams low p → DefinesSince streams low (p ++ entries.Define (output_id stream) (mean_of input) ∷ [])
  defines_next p stream input inside accepted so_far =
      let e : Entry = entries.Define (output_id stream) (mean_of input) in
      record {
        begins = starts_more p low (e ∷ []) so_far.begins;
        follows = follows-push p e so_far.follows accepted;
        defines = λ q f within long.
            let part_q : length (q ++ f ∷ []) ≡ length q + 1 = length-append q (f ∷ []) in
            let part_p : length (p ++ e ∷ []) ≡ length p + 1 = length-append p (e ∷ []) in
            let below : length (q ++ f ∷ []) ≤ length (p ++ e ∷ []) = starts_length (p ++ e ∷ []) (q ++ f ∷ []) within in
            ⊎_elim
            (λ (short : length q < length p). so_far.defines q f (starts_between (p ++ e ∷ []) (q ++ f ∷ []) p within (e ∷ [], refl) (omega (arith, short, part_q))) long)
            (λ (whole : length p ≤ length q).
            let all : p ++ e ∷ [] ≡ q ++ f ∷ [] = starts_same (p ++ e ∷ []) (p ++ e ∷ []) (q ++ f ∷ []) (starts_refl (p ++ e ∷ [])) within (omega (arith, whole, part_q, part_p, below)) in
            let same : p ≡ q = starts_same (p ++ e ∷ []) p q (e ∷ [], refl) (starts_trans (p ++ e ∷ []) (q ++ f ∷ []) q within (f ∷ [], refl)) (omega (arith, whole, part_q, part_p, below)) in
            (stream, input, inside, sym (last_same p q e f same all)))
            (cases_lt (length q) (length p));
      }

  module _ (start : StoreState) (log : LogState) (runs : log.failed ≡ None) (room : (m h : List Entry) → DefinesSince streams low m → LandsSince 1 m h → needs_of h ≤ start.left + needs_of start.history) where
    never_full : (p : List Entry) (stream input need left : ℕ) → stream < streams → DefinesSince streams low p → rejection p (entries.Define (output_id stream) (mean_of input)) ≡ None → IsFull start p (entries.Define (output_id stream) (mean_of input)) need left → ⊥
    never_full p stream input need left inside so_far accepted full =
        let e : Entry = entries.Define (output_id stream) (mean_of input) in
        let next : DefinesSince streams low (p ++ e ∷ []) = defines_next p stream input inside accepted so_far in
        let fits : needs_of (p ++ e ∷ []) ≤ start.left + needs_of start.history = room (p ++ e ∷ []) (p ++ e ∷ []) next (lands_none 1 (p ++ e ∷ []) next.follows) in
        let sum : needs_of (p ++ e ∷ []) ≡ needs_of p + need_of p e = needs-push p e in
        let needed = full.need in
        let was = full.left in
        let short = full.short in
        omega (arith, fits, sum, needed, was, short)

    -- There was room for a definition.
    define_room : (p : List Entry) (stream input : ℕ) (result : Result Receipt StepFault) (own : List ℕ) (next : List Entry) → stream < streams → DefinesSince streams low p → Committed start log p (entries.Define (output_id stream) (mean_of input)) result own next → HadRoom result
    define_room p stream input (Ok receipt) own next inside so_far is = tt
    define_room p stream input (Err (steps.Stopped count)) own next inside so_far is = tt
    define_room p stream input (Err steps.Sealed) own next inside so_far is = tt
    define_room p stream input (Err (steps.Rejected why)) own next inside so_far is = tt
    define_room p stream input (Err steps.Want) own next inside so_far is = tt
    define_room p stream input (Err (steps.DeviceFull need left)) own next inside so_far is = never_full p stream input need left inside so_far is.0 is.1
    define_room p stream input (Err steps.DeviceFault) own next inside so_far is = tt

    -- The history after a definition.
    define_after : (p : List Entry) (stream input : ℕ) (result : Result Receipt StepFault) (own : List ℕ) (next : List Entry) → stream < streams → DefinesSince streams low p → Committed start log p (entries.Define (output_id stream) (mean_of input)) result own next → DefinesSince streams low next
    define_after p stream input (Ok receipt) own next inside so_far is = subst (DefinesSince streams low) (sym is.2.next) (defines_next p stream input inside is.0 so_far)
    define_after p stream input (Err (steps.Stopped count)) own next inside so_far is = subst (DefinesSince streams low) (sym is.1.next) so_far
    define_after p stream input (Err steps.Sealed) own next inside so_far is = subst (DefinesSince streams low) (sym is.1.next) so_far
    define_after p stream input (Err (steps.Rejected why)) own next inside so_far is = subst (DefinesSince streams low) (sym is.1.next) so_far
    define_after p stream input (Err steps.Want) own next inside so_far is = subst (DefinesSince streams low) (sym is.1.next) so_far
    define_after p stream input (Err (steps.DeviceFull need left)) own next inside so_far is = subst (DefinesSince streams low) (sym is.2.next) so_far
    define_after p stream input (Err steps.DeviceFault) own next inside so_far is = subst (DefinesSince streams low) (sym is.1.next) so_far

    calm_refusal : (result : Result Receipt StepFault) → HadRoom result → Ran result → IfSome (refusal_of result) (λ reason. IsBenign (status_of_reason reason))
    calm_refusal (Ok receipt) had ran = tt
    calm_refusal (Err fault) had ran = step_benign fault had ran

    calm_over : (p : List Entry) (stream : ℕ) (input : Option ℕ) (refused : Option Reason) (own : List ℕ) (next : List Entry) → stream < streams → DefinesSince streams low p → DefinesOver start log p (output_id stream) input refused own next → IfSome refused (λ reason. IsBenign (status_of_reason reason)) × DefinesSince streams low next
    calm_over p stream None refused own next inside so_far is = (
      subst (λ (r : Option Reason). IfSome r (λ reason. IsBenign (status_of_reason reason))) (sym is.0) (inr (inl refl)),
      subst (DefinesSince streams low) (sym is.1.next) so_far,
    )
    calm_over p stream (Some input) refused own next inside so_far is = (
      subst (λ (r : Option Reason). IfSome r (λ reason. IsBenign (status_of_reason reason))) (sym is.2)
          (calm_refusal is.0 (define_room p stream input is.0 own next inside so_far is.1)
          (committed_ran start log runs p (entries.Define (output_id stream) (mean_of input)) is.0 own next is.1)),
      define_after p stream input is.0 own next inside so_far is.1,
    )

    -- All definitions of a sample.
    pub calm_defines : (p : List Entry) (stream : ℕ) (outputs : List DefinedOutput) (own : List ℕ) (last : List Entry) → stream + length outputs ≤ streams → DefinesSince streams low p → DefinesEach start log p stream outputs own last → AllByRecursion IsCalmOutput outputs × DefinesSince streams low last
    calm_defines p stream [] own last inside so_far is = (tt, subst (DefinesSince streams low) (sym is.next) so_far)
    calm_defines p stream (output ∷ outputs) own last inside so_far is =
        let one = calm_over p stream (stream_of p (stream + 1)) output.refused is.0 is.2 (omega (arith, inside)) so_far is.4.1 in
        let more = calm_defines is.2 (stream + 1) outputs is.1 last (omega (arith, inside)) one.1 is.5 in
        ((one.0, more.0), more.1)
