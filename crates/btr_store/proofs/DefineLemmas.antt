-- Lemmas on the outputs of a sample: one after another, each right after the history that the session, which is alone, had seen.
use Rattle.std.specs.Prelude.{◌≡◌, ℕ, ◌+◌, List, [], ◌∷◌, ◌++◌, length, Option, Some, None, Result, Ok, Err, Vec, IsErr}
use Rattle.std.specs.declared.alloc.AllocError.{AllocError}
use Rattle.std.specs.declared.alloc.Global.{Global}
use Rattle.std.proofs.Common.{refl, sym, ap, ◌∙◌, subst, arith, append_assoc}
use Rattle.std.proofs.lemmas.List.{append-nil}
use Rattle.btr_disk.specs.declared.disk.Disk.{Ghosts}
use Rattle.btr_hist.specs.declared.entry.Entry.{Entry}
use Rattle.btr_hist.specs.declared.entry.Entry.TheVariants as entries
use Rattle.btr_hist.specs.History.{stream_of}
use Rattle.btr_text.specs.declared.reply.Reason.{Reason}
use Rattle.btr_text.specs.declared.reply.Reason.TheVariants as reasons
use Rattle.btr_streams.specs.declared.board.Receipt.{Receipt}
use Rattle.btr_engine.specs.declared.step.StepFault.{StepFault}
use Rattle.btr_engine.specs.declared.step.StepFault.TheVariants as steps
use Rattle.btr_gate.specs.Numbers.{times}
use Rattle.btr_gate.proofs.NumberLemmas.{times_append}
use Rattle.btr_hall.specs.declared.look.FoundStream.{FoundStream}
use Rattle.btr_hall.specs.declared.session.Hall.{Hall}
use Rattle.btr_hall.specs.declared.session.Session.{Session}
use Rattle.btr_hall.specs.Found.{IsFound}
use Rattle.btr_jobs.specs.States.{StoreState, LogState, GoesOn}
use Rattle.btr_jobs.specs.Turns.{SaysSealed, Committed}
use Rattle.btr_jobs.specs.TurnLaws.{committed_still}
use Rattle.btr_jobs.specs.Jobs.{IsAt, Does}
use Rattle.btr_jobs.proofs.DoesLemmas.{does_implied, does_then}
use Rattle.btr_store.specs.declared.define.DefinedOutput.{DefinedOutput}
use Rattle.btr_store.specs.Define.{output_id, mean_of, refusal_of, DefinesOver, Defines, DefinesEach, DefinesAll}
use Rattle.btr_store.specs.Work.{AddsAllowed}
use Rattle.btr_store.proofs.Allowing.{allows_nothing, allows_both, allows_committed_later}

-- ---- what is true of one output

over_lasts : (start : StoreState) (late early : LogState) (p : List Entry) (id : ℕ) (input : Option ℕ) (refused : Option Reason) (own : List ℕ) (next : List Entry) → GoesOn start late early → DefinesOver start early p id input refused own next → DefinesOver start late p id input refused own next
over_lasts start late early p id None refused own next on is = is
over_lasts start late early p id (Some input) refused own next on is =
    (is.0, committed_still start late early p (entries.Define id (mean_of input)) is.0 own next on is.1, is.2, is.3)

over_allowed : (start : StoreState) (late early : LogState) (p : List Entry) (id : ℕ) (input : Option ℕ) (refused : Option Reason) (own : List ℕ) (next : List Entry) → GoesOn start late early → DefinesOver start early p id input refused own next → AddsAllowed late own
over_allowed start late early p id None refused own next on is = allows_nothing late own is.1.own
over_allowed start late early p id (Some input) refused own next on is =
    allows_committed_later start late early p (entries.Define id (mean_of input)) is.0 own next on tt is.1

-- ---- many outputs

-- What was done is true for ever.
pub each_lasts : (start : StoreState) (late early : LogState) (p : List Entry) (stream : ℕ) (outputs : List DefinedOutput) (own : List ℕ) (last : List Entry) → GoesOn start late early → DefinesEach start early p stream outputs own last → DefinesEach start late p stream outputs own last
each_lasts start late early p stream [] own last on is = is
each_lasts start late early p stream (output ∷ outputs) own last on is = (
  is.0,
  is.1,
  is.2,
  is.3,
  (is.4.0, over_lasts start late early p (output_id stream) (stream_of p (stream + 1)) output.refused is.0 is.2 on is.4.1),
  each_lasts start late early is.2 (stream + 1) outputs is.1 last on is.5,
)

-- What was added is allowed.
pub each_allowed : (start : StoreState) (late early : LogState) (p : List Entry) (stream : ℕ) (outputs : List DefinedOutput) (own : List ℕ) (last : List Entry) → GoesOn start late early → DefinesEach start early p stream outputs own last → AddsAllowed late own
each_allowed start late early p stream [] own last on is = allows_nothing late own is.own
each_allowed start late early p stream (output ∷ outputs) own last on is =
    allows_both late own is.0 is.1 (λ n. ap (times n) is.3 ∙ times_append n is.0 is.1)
    (over_allowed start late early p (output_id stream) (stream_of p (stream + 1)) output.refused is.0 is.2 on is.4.1)
    (each_allowed start late early is.2 (stream + 1) outputs is.1 last on is.5)

-- One output more.
each_push : (start : StoreState) (log : LogState) (p : List Entry) (stream : ℕ) (outputs : List DefinedOutput) (own : List ℕ) (mid : List Entry) (n : ℕ) (output : DefinedOutput) (more : List ℕ) (last : List Entry) → n ≡ stream + length outputs → DefinesEach start log p stream outputs own mid → Defines start log mid n output more last → DefinesEach start log p stream (outputs ++ output ∷ []) (own ++ more) last
each_push start log p stream [] own mid n output more last at all one =
    let here : n ≡ stream = omega (arith, at) in (
      more,
      [],
      last,
      ap (λ (l : List ℕ). l ++ more) all.own ∙ sym (append-nil more),
      subst (λ (s : ℕ). Defines start log p s output more last) here (subst (λ (h : List Entry). Defines start log h n output more last) all.next one),
      record { own = refl; next = refl },
    )
each_push start log p stream (first ∷ outputs) own mid n output more last at all one =
    let next : n ≡ (stream + 1) + length outputs = omega (arith, at) in (
      all.0,
      all.1 ++ more,
      all.2,
      ap (λ (l : List ℕ). l ++ more) all.3 ∙ append_assoc all.0 all.1 more,
      all.4,
      each_push start log all.2 (stream + 1) outputs all.1 mid n output more last next all.5 one,
    )

module _ {D : Type 0} {disk : Ghosts D} where
  -- One output more, in the turns of a session.
  pub each_then : (hall : Hall D disk) (old mid new : Session D disk) (outputs : List DefinedOutput) (stream : ℕ) (output : DefinedOutput) → length outputs ≡ stream → IsAt hall new → Does hall old mid (λ start log low own. DefinesEach start log low 0 outputs own log.history) → Does hall mid new (λ start log low own. Defines start log low stream output own log.history) → Does hall old new (λ start log low own. DefinesEach start log low 0 (outputs ++ output ∷ []) own log.history)
  each_then hall old mid new outputs stream output long at all one =
      does_then hall old mid new
      (λ start log low own. DefinesEach start log low 0 outputs own log.history)
      (λ start log low own. Defines start log low stream output own log.history)
      (λ start log low own. DefinesEach start log low 0 (outputs ++ output ∷ []) own log.history)
      at
      (λ start late early low a b on starts first then.
      each_push start late low 0 outputs a early.history stream output b late.history (omega (arith, long)) (each_lasts start late early low 0 outputs a early.history on first) then)
      all one

  -- All outputs, or some.
  pub all_defined : (hall : Hall D disk) (old new : Session D disk) (streams : ℕ) (outputs : Vec DefinedOutput Global) → length outputs.items ≡ streams → Does hall old new (λ start log low own. DefinesEach start log low 0 outputs.items own log.history) → Does hall old new (λ start log low own. DefinesAll streams start log low (Ok outputs) own)
  all_defined hall old new streams outputs long does =
      does_implied hall old new
      (λ start log low own. DefinesEach start log low 0 outputs.items own log.history)
      (λ start log low own. DefinesAll streams start log low (Ok outputs) own)
      (λ start log low own is. (outputs.items, is, (refl, long))) does

  pub some_defined : (hall : Hall D disk) (old new : Session D disk) (streams : ℕ) (outputs : List DefinedOutput) (result : Result (Vec DefinedOutput Global) AllocError) → IsErr result → Does hall old new (λ start log low own. DefinesEach start log low 0 outputs own log.history) → Does hall old new (λ start log low own. DefinesAll streams start log low result own)
  some_defined hall old new streams outputs (Ok v) failed does = absurd (cc)
  some_defined hall old new streams outputs (Err error) failed does =
      does_implied hall old new
      (λ start log low own. DefinesEach start log low 0 outputs own log.history)
      (λ start log low own. DefinesAll streams start log low (Err error) own)
      (λ start log low own is. (outputs, is, tt)) does

  -- The input was not found.
  pub defines_none : (hall : Hall D disk) (old new : Session D disk) (stream id number : ℕ) → id ≡ output_id stream → number ≡ stream + 1 → Does hall old new (λ start log low own. (own ≡ []) × (log.history ≡ low) × IsFound low number None) → Does hall old new (λ start log low own. Defines start log low stream (record { id = id; refused = Some reasons.Stream }) own log.history)
  defines_none hall old new stream id number named at does =
      does_implied hall old new
      (λ start log low own. (own ≡ []) × (log.history ≡ low) × IsFound low number None)
      (λ start log low own. Defines start log low stream (record { id = id; refused = Some reasons.Stream }) own log.history)
      (λ start log low own is. (
        named,
        subst (λ (input : Option ℕ). DefinesOver start log low (output_id stream) input (Some reasons.Stream) own log.history)
            (sym is.2 ∙ ap (stream_of low) at)
            (refl, record { own = is.0; next = is.1 }),
      ))
      does

  -- The input was found, and the output defined over it.
  pub defines_some : (hall : Hall D disk) (old mid new : Session D disk) (stream id number : ℕ) (found : FoundStream) (result : Result Receipt StepFault) (refused : Option Reason) → id ≡ output_id stream → number ≡ stream + 1 → refused ≡ refusal_of result → IsAt hall new → Does hall old mid (λ start log low own. (own ≡ []) × (log.history ≡ low) × IsFound low number (Some found)) → Does hall mid new (λ start log low own. Committed start log low (entries.Define id (mean_of found.stream)) result own log.history × SaysSealed start steps.Sealed result) → Does hall old new (λ start log low own. Defines start log low stream (record { id = id; refused = refused }) own log.history)
  defines_some hall old mid new stream id number found result refused named at why is_at look turn =
      does_then hall old mid new
      (λ start log low own. (own ≡ []) × (log.history ≡ low) × IsFound low number (Some found))
      (λ start log low own. Committed start log low (entries.Define id (mean_of found.stream)) result own log.history × SaysSealed start steps.Sealed result)
      (λ start log low own. Defines start log low stream (record { id = id; refused = refused }) own log.history)
      is_at
      (λ start late early low a b on starts first then.
      let here : Committed start late low (entries.Define id (mean_of found.stream)) result b late.history =
      subst (λ (h : List Entry). Committed start late h (entries.Define id (mean_of found.stream)) result b late.history) first.1 then.0 in
      let own : b ≡ a ++ b = ap (λ (l : List ℕ). l ++ b) (sym first.0) in (
        named,
        subst (λ (l : List ℕ). DefinesOver start late low (output_id stream) (stream_of low (stream + 1)) refused l late.history) own
            (subst (λ (input : Option ℕ). DefinesOver start late low (output_id stream) input refused b late.history)
            (sym first.2.0 ∙ ap (stream_of low) at)
            (result, subst (λ (i : ℕ). Committed start late low (entries.Define i (mean_of found.stream)) result b late.history) named here, why, then.1)),
      ))
      look turn
