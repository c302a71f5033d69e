-- The laws of the engine that a gate carries, which its ghost members cite: its list is short, and it is frozen while the log is out.
use Rattle.std.specs.Prelude.{◌≡◌, ℕ, ◌+◌, ◌<◌, ◌^◌, true, false, List, [], ◌∷◌, ◌++◌, length, replicate, Ok, Err}
use Rattle.std.proofs.Common.{zero, suc, refl, ap, ◌∙◌, arith, length-append}
use Rattle.std.proofs.lemmas.List.{length-replicate}
use Rattle.btr_disk.specs.declared.disk.Disk.{Ghosts}
use Rattle.btr_hist.specs.declared.entry.Entry.{Entry}
use Rattle.btr_engine.specs.declared.engine.Engine.{Engine}
use Rattle.btr_streams.specs.declared.board.Receipt.{Receipt}
use Rattle.btr_engine.specs.declared.step.StepFault.TheVariants.{DeviceFault}
use Rattle.btr_engine.specs.Engine.{log_of, entries_of, is_stopped}
use Rattle.btr_engine.specs.Step.{IsStep, AddsOne, StopsByFault}
use Rattle.btr_gate.specs.Numbers.{one}
use Rattle.btr_hall.specs.declared.item.Item.{Item}
use Rattle.btr_hall.specs.declared.item.Item.TheVariants.{Earlier, Added, Halted}
use Rattle.btr_hall.specs.declared.store.Store.{Store}
use Rattle.btr_hall.specs.Trace.{IsTrace, engine_after, has_halt}
use Rattle.btr_hall.specs.Store.{IsStoreOf}

-- The list is frozen while the log is out.
pub is_frozen : {A : Type 0} → true ≡ false → A
is_frozen is = absurd (cc)

module _ {D : Type 0} {disk : Ghosts D} where
  -- A stopped engine accepts nothing, and its device does not fail.
  pub stopped_accepts : (x y : Engine D disk) (e : Entry) (receipt : Receipt) → is_stopped x ≡ true → IsStep x y e (Ok receipt) → ⊥
  stopped_accepts x y e receipt stopped step =
      let is = (step.effect.stopped stopped).returned in
      cc

  pub stopped_fails : (x y : Engine D disk) (e : Entry) → is_stopped x ≡ true → IsStep x y e (Err DeviceFault) → ⊥
  stopped_fails x y e stopped step =
      let is = (step.effect.stopped stopped).returned in
      cc

  -- After a halt there is no item.
  pub ends_stopped : (x : Engine D disk) (l : List (Item D disk)) → is_stopped x ≡ true → IsTrace x l → l ≡ []
  ends_stopped x [] stopped trace = refl
  ends_stopped x (Earlier ∷ l) stopped trace = absurd trace
  ends_stopped x (Added entry engine ∷ l) stopped trace = absurd (stopped_accepts x engine.value entry.value trace.0.0 stopped trace.0.1)
  ends_stopped x (Halted entry engine ∷ l) stopped trace = absurd (stopped_fails x engine.value entry.value stopped trace.0)

  -- Each item is an entry that was added, or the halt.
  pub trace_length : (x : Engine D disk) (l : List (Item D disk)) → IsTrace x l
      → entries_of (engine_after x l) + one (has_halt l) ≡ entries_of x + length l
  trace_length x [] trace = omega arith
  trace_length x (Earlier ∷ l) trace = absurd trace
  trace_length x (Added entry engine ∷ l) trace =
      let adds : AddsOne x engine.value entry.value trace.0.0 = trace.0.1.effect.has_result in
      let next = trace_length engine.value l trace.1 in
      omega (arith, next, adds.entries)
  trace_length x (Halted entry engine ∷ l) trace =
      let fault : (is_stopped x ≡ false) × StopsByFault x engine.value entry.value = trace.0.effect.has_result in
      let none = ends_stopped engine.value l fault.1.stopped trace.1 in
      let same : entries_of engine.value ≡ entries_of x = ap (λ b. b.entries) fault.1.board in
      let after : entries_of (engine_after engine.value l) ≡ entries_of engine.value =
      ap (λ m. entries_of (engine_after engine.value m)) none in
      omega (arith, same, after, ap (length {A = Item D disk}) none)

  -- Entries of before the hall began say nothing.
  pub engine_earlier : (n : ℕ) (x : Engine D disk) (l : List (Item D disk)) → engine_after x (replicate n Earlier ++ l) ≡ engine_after x l
  engine_earlier zero x l = refl
  engine_earlier (suc n) x l = engine_earlier n x l

  pub halt_earlier : (n : ℕ) (l : List (Item D disk)) → has_halt (replicate n Earlier ++ l) ≡ has_halt l
  halt_earlier zero l = refl
  halt_earlier (suc n) l = halt_earlier n l

  -- The number of entries of the store, and one if it is halted, is the length of its list.
  pub store_length : (s : Store D disk) (l : List (Item D disk)) (x : Engine D disk) → IsStoreOf s l x
      → length l ≡ entries_of s.engine + one s.halted
  store_length s l x of =
      let trace = of.trace in
      let n = entries_of x in
      let engine : engine_after x l ≡ engine_after x trace.steps = ap (engine_after x) trace.is ∙ engine_earlier n x trace.steps in
      let halt : has_halt l ≡ has_halt trace.steps = ap (has_halt {disk = disk}) trace.is ∙ halt_earlier n trace.steps in
      let all : length l ≡ n + length trace.steps =
      ap (length {A = Item D disk}) trace.is ∙ length-append (replicate n Earlier) trace.steps
      ∙ ap (λ k. k + length trace.steps) (length-replicate n Earlier) in
      let same : entries_of s.engine ≡ entries_of (engine_after x trace.steps) =
      ap (λ b. b.entries) of.engine.board ∙ ap (λ e. entries_of e) engine in
      let halted : one s.halted ≡ one (has_halt trace.steps) = ap one (of.halted ∙ halt) in
      omega (arith, trace_length x trace.steps trace.trace, all, same, halted)

  -- An engine has fewer entries than its device can have blocks.
  few_entries : (e : Engine D disk) → entries_of e < 2 ^ 32
  few_entries e = omega (arith, e.counted, (log_of e).counted, (log_of e).tail_inside, (log_of e).addressable)

  pub store_bounded : (s : Store D disk) (l : List (Item D disk)) (x : Engine D disk) → IsStoreOf s l x → length l < 2 ^ 63
  store_bounded s l x of =
      let all = store_length s l x of in
      elim s.halted as (λ b. length l ≡ entries_of s.engine + one b → length l < 2 ^ 63) [
        | true ↦ λ is. omega (arith, few_entries s.engine, is)
        | false ↦ λ is. omega (arith, few_entries s.engine, is)
      ] all
