-- Lemmas on the lists of halls: what holds of an engine at the beginning of a list, and of the one at its end.
use Rattle.std.specs.Prelude.{◌≡◌, ℕ, ◌+◌, ◌≤◌, Bool, true, false, ◌||◌, List, [], ◌∷◌, ◌++◌, length, replicate}
use Rattle.std.specs.Prelude.{option_to_list, Result, Ok, Err}
use Rattle.std.proofs.Common.{zero, suc, refl, sym, ap, ◌∙◌, subst, arith, length-append, append_assoc}
use Rattle.std.proofs.lemmas.List.{append-nil, length-replicate}
use Rattle.btr_disk.specs.declared.disk.Disk.{Ghosts}
use Rattle.btr_hist.specs.declared.entry.Entry.{Entry}
use Rattle.btr_log.specs.Extents.{left}
use Rattle.btr_super.specs.Super.{has_seal}
use Rattle.btr_engine.specs.declared.engine.Engine.{Engine}
use Rattle.btr_streams.specs.declared.board.Receipt.{Receipt}
use Rattle.btr_engine.specs.declared.step.StepFault.{StepFault}
use Rattle.btr_engine.specs.declared.step.StepFault.TheVariants.{Stopped, Sealed, Rejected, Want, DeviceFull, DeviceFault}
use Rattle.btr_streams.specs.Board.{IsBoardOf}
use Rattle.btr_engine.specs.Body.{need_of, needs_after}
use Rattle.btr_engine.specs.Engine.{log_of, board_of, super_of, entries_at_open, is_home, entries_of, blocks_of, tail_of, room_of, is_stopped, is_sealed, IsEngineOf, IsAtRest, IsDurable, KeepsOpening}
use Rattle.btr_engine.specs.Step.{CanStep, IsStep, IsStepped, AddsOne, StopsByFault}
use Rattle.btr_engine.specs.Travel.{IsLike}
use Rattle.btr_engine.proofs.RaiseLemmas.{raise_unsealed}
use Rattle.btr_engine.proofs.Stepping.{same_at_home}
use Rattle.btr_gate.specs.Numbers.{one}
use Rattle.btr_hall.specs.declared.item.Item.{Item}
use Rattle.btr_hall.specs.declared.item.Item.TheVariants.{Earlier, Added, Halted}
use Rattle.btr_hall.specs.declared.store.Store.{Store}
use Rattle.btr_hall.specs.Store.{IsStoreOf}
use Rattle.btr_hall.specs.Trace.{IsTrace, IsTraceOf, engine_after, entries_in, has_halt, in_flight_in, stopped_in, history_of}
use Rattle.btr_hall.specs.StoreLaws.{ends_stopped, trace_length, engine_earlier, halt_earlier}
use Rattle.btr_hall.specs.Commit.{has_failed, item_by}

room_less : (blocks tail need : ℕ) → need ≤ left blocks tail → left blocks (tail + need) + need ≡ left blocks tail
room_less blocks tail need low = omega arith

both_false : (a b c : Bool) → (a || (b || c)) ≡ false → (a || b) ≡ false
both_false true b c is = absurd (cc)
both_false false true c is = absurd (cc)
both_false false false c is = refl

not_both : (b : Bool) → b ≡ true → b ≡ false → ⊥
not_both b a c = cc

module _ {D : Type 0} {disk : Ghosts D} where
  -- ---- one list after another

  pub engine_append : (x : Engine D disk) (l m : List (Item D disk)) → engine_after x (l ++ m) ≡ engine_after (engine_after x l) m
  engine_append x [] m = refl
  engine_append x (Earlier ∷ l) m = engine_append x l m
  engine_append x (Added entry engine ∷ l) m = engine_append engine.value l m
  engine_append x (Halted entry engine ∷ l) m = engine_append engine.value l m

  pub entries_append : (l m : List (Item D disk)) → entries_in (l ++ m) ≡ entries_in l ++ entries_in m
  entries_append [] m = refl
  entries_append (Earlier ∷ l) m = entries_append l m
  entries_append (Added entry engine ∷ l) m = ap (λ h. entry.value ∷ h) (entries_append l m)
  entries_append (Halted entry engine ∷ l) m = entries_append l m

  pub halt_append : (l m : List (Item D disk)) → has_halt (l ++ m) ≡ (has_halt l || has_halt m)
  halt_append [] m = refl
  halt_append (Earlier ∷ l) m = halt_append l m
  halt_append (Added entry engine ∷ l) m = halt_append l m
  halt_append (Halted entry engine ∷ l) m = refl

  trace_append : (x : Engine D disk) (l m : List (Item D disk)) → IsTrace x l → IsTrace (engine_after x l) m → IsTrace x (l ++ m)
  trace_append x [] m a b = b
  trace_append x (Earlier ∷ l) m a b = absurd a
  trace_append x (Added entry engine ∷ l) m a b = (a.0, trace_append engine.value l m a.1 b)
  trace_append x (Halted entry engine ∷ l) m a b = (a.0, trace_append engine.value l m a.1 b)

  trace_front : (x : Engine D disk) (l m : List (Item D disk)) → IsTrace x (l ++ m) → IsTrace x l
  trace_front x [] m a = tt
  trace_front x (Earlier ∷ l) m a = absurd a
  trace_front x (Added entry engine ∷ l) m a = (a.0, trace_front engine.value l m a.1)
  trace_front x (Halted entry engine ∷ l) m a = (a.0, trace_front engine.value l m a.1)

  -- ---- entries of before the hall began

  entries_earlier : (n : ℕ) (l : List (Item D disk)) → entries_in (replicate n Earlier ++ l) ≡ entries_in l
  entries_earlier zero l = refl
  entries_earlier (suc n) l = entries_earlier n l

  flight_earlier : (n : ℕ) (more : List Entry) (l : List (Item D disk)) → in_flight_in more (replicate n Earlier ++ l) ≡ in_flight_in more l
  flight_earlier zero more l = refl
  flight_earlier (suc n) more l = flight_earlier n more l

  module _ (x : Engine D disk) (l : List (Item D disk)) (of : IsTraceOf x l) where
    engine_is : engine_after x l ≡ engine_after x of.steps
    engine_is = ap (engine_after x) of.is ∙ engine_earlier (entries_of x) x of.steps

    entries_is : entries_in l ≡ entries_in of.steps
    entries_is = ap (entries_in {disk = disk}) of.is ∙ entries_earlier (entries_of x) of.steps

    halt_is : has_halt l ≡ has_halt of.steps
    halt_is = ap (has_halt {disk = disk}) of.is ∙ halt_earlier (entries_of x) of.steps

    flight_is : (more : List Entry) → in_flight_in more l ≡ in_flight_in more of.steps
    flight_is more = ap (in_flight_in {disk = disk} more) of.is ∙ flight_earlier (entries_of x) more of.steps

    length_is : length l ≡ entries_of x + length of.steps
    length_is = ap (length {A = Item D disk}) of.is ∙ length-append (replicate (entries_of x) Earlier) of.steps ∙ ap (λ k. k + length of.steps) (length-replicate (entries_of x) Earlier)

  -- ---- of which history the engine is

  trace_engine : (h : List Entry) (x : Engine D disk) (l : List (Item D disk)) → IsEngineOf h x → IsTrace x l → IsEngineOf (h ++ entries_in l) (engine_after x l)
  trace_engine h x [] of trace = subst (λ k. IsEngineOf k x) (sym (append-nil h)) of
  trace_engine h x (Earlier ∷ l) of trace = absurd trace
  trace_engine h x (Added entry engine ∷ l) of trace =
      let stepped : IsStepped h x engine.value entry.value trace.0.0 = trace.0.1.stepped h of in
      subst (λ k. IsEngineOf k (engine_after engine.value l)) (append_assoc h (entry.value ∷ []) (entries_in l)) (trace_engine (h ++ entry.value ∷ []) engine.value l stepped.of trace.1)
  trace_engine h x (Halted entry engine ∷ l) of trace =
      let fault : CanStep h x entry.value × StopsByFault x engine.value entry.value = trace.0.cause h of in
      trace_engine h engine.value l (subst (IsBoardOf h) (sym fault.1.board) of) trace.1

  -- The engine at the end of a list is of its history.
  pub engine_of_list : (h : List Entry) (x : Engine D disk) (l : List (Item D disk)) → IsEngineOf h x → IsTraceOf x l → IsEngineOf (history_of h l) (engine_after x l)
  engine_of_list h x l of trace =
      let end = trace_engine h x trace.steps of trace.trace in
      subst (λ y. IsEngineOf (history_of h l) y) (sym (engine_is x l trace)) (subst (λ k. IsEngineOf (h ++ k) (engine_after x trace.steps)) (sym (entries_is x l trace)) end)

  -- ---- whether it is stopped

  trace_stopped : (x : Engine D disk) (l : List (Item D disk)) → IsTrace x l → is_stopped (engine_after x l) ≡ (is_stopped x || has_halt l)
  trace_stopped x [] trace =
      elim (is_stopped x) as (λ b. b ≡ (b || false)) [ true ↦ refl | false ↦ refl ]
  trace_stopped x (Earlier ∷ l) trace = absurd trace
  trace_stopped x (Added entry engine ∷ l) trace =
      let adds : AddsOne x engine.value entry.value trace.0.0 = trace.0.1.effect.has_result in
      trace_stopped engine.value l trace.1 ∙ ap (λ b. b || has_halt l) (adds.runs ∙ sym adds.ran)
  trace_stopped x (Halted entry engine ∷ l) trace =
      let fault : (is_stopped x ≡ false) × StopsByFault x engine.value entry.value = trace.0.effect.has_result in
      trace_stopped engine.value l trace.1 ∙ ap (λ b. b || has_halt l) fault.1.stopped ∙ sym (ap (λ b. b || true) fault.0)

  -- The engine at the end is stopped exactly if the first one was, or the device has failed since.
  pub stopped_of_list : (x : Engine D disk) (l : List (Item D disk)) → IsTraceOf x l → is_stopped (engine_after x l) ≡ stopped_in x l
  stopped_of_list x l trace =
      ap (λ (e : Engine D disk). is_stopped e) (engine_is x l trace) ∙ trace_stopped x trace.steps trace.trace ∙ ap (λ b. is_stopped x || b) (sym (halt_is x l trace))

  -- ---- whether it is sealed

  trace_sealed : (x : Engine D disk) (l : List (Item D disk)) → IsTrace x l → is_sealed (engine_after x l) ≡ is_sealed x
  trace_sealed x [] trace = refl
  trace_sealed x (Earlier ∷ l) trace = absurd trace
  trace_sealed x (Added entry engine ∷ l) trace =
      let adds : AddsOne x engine.value entry.value trace.0.0 = trace.0.1.effect.has_result in
      trace_sealed engine.value l trace.1 ∙ ap has_seal adds.chosen ∙ raise_unsealed (super_of x) entry.value adds.unsealed ∙ sym adds.unsealed
  trace_sealed x (Halted entry engine ∷ l) trace =
      let fault : (is_stopped x ≡ false) × StopsByFault x engine.value entry.value = trace.0.effect.has_result in
      trace_sealed engine.value l trace.1 ∙ ap has_seal fault.1.chosen

  -- The engine at the end is sealed exactly if the first one was.
  pub sealed_of_list : (x : Engine D disk) (l : List (Item D disk)) → IsTraceOf x l → is_sealed (engine_after x l) ≡ is_sealed x
  sealed_of_list x l trace = ap (λ (e : Engine D disk). is_sealed e) (engine_is x l trace) ∙ trace_sealed x trace.steps trace.trace

  -- A sealed engine has no steps.
  pub ends_sealed : (x : Engine D disk) (l : List (Item D disk)) → is_sealed x ≡ true → IsTrace x l → l ≡ []
  ends_sealed x [] sealed trace = refl
  ends_sealed x (Earlier ∷ l) sealed trace = absurd trace
  ends_sealed x (Added entry engine ∷ l) sealed trace =
      let adds : AddsOne x engine.value entry.value trace.0.0 = trace.0.1.effect.has_result in
      absurd (not_both (is_sealed x) sealed adds.unsealed)
  ends_sealed x (Halted entry engine ∷ l) sealed trace =
      let fault : (is_stopped x ≡ false) × StopsByFault x engine.value entry.value = trace.0.effect.has_result in
      let says = (trace.0.effect.sealed fault.0 sealed).returned in
      absurd (cc)

  -- A sealed store that is not stopped when the hall begins is never stopped, and gets no entries.
  pub sealed_runs : (x : Engine D disk) (l : List (Item D disk)) → IsTraceOf x l → is_sealed x ≡ true → is_stopped x ≡ false → stopped_in x l ≡ false
  sealed_runs x l trace sealed runs =
      let none = ends_sealed x trace.steps sealed trace.trace in
      sym (stopped_of_list x l trace) ∙ ap (λ (e : Engine D disk). is_stopped e) (engine_is x l trace ∙ ap (engine_after x) none) ∙ runs

  pub sealed_entries : (x : Engine D disk) (l : List (Item D disk)) → IsTraceOf x l → is_sealed x ≡ true → entries_in l ≡ []
  sealed_entries x l trace sealed =
      entries_is x l trace ∙ ap (entries_in {disk = disk}) (ends_sealed x trace.steps sealed trace.trace)

  -- What is not stopped at the end of a list was not stopped before.
  pub runs_front : (x : Engine D disk) (l m : List (Item D disk)) → stopped_in x (l ++ m) ≡ false → stopped_in x l ≡ false
  runs_front x l m runs = both_false (is_stopped x) (has_halt l) (has_halt m) (sym (ap (λ b. is_stopped x || b) (halt_append l m)) ∙ runs)

  -- ---- how long the list is

  -- The list has an item for each entry, and one for a halt.
  pub length_of_list : (x : Engine D disk) (l : List (Item D disk)) → IsTraceOf x l → length l ≡ entries_of (engine_after x l) + one (has_halt l)
  length_of_list x l trace =
      let all = trace_length x trace.steps trace.trace in
      let same : entries_of (engine_after x l) ≡ entries_of (engine_after x trace.steps) = ap (λ (e : Engine D disk). entries_of e) (engine_is x l trace) in
      let halt : one (has_halt l) ≡ one (has_halt trace.steps) = ap one (halt_is x l trace) in
      omega (arith, all, same, halt, length_is x l trace)

  -- ---- what the steps keep

  keeps_none : (x : Engine D disk) → KeepsOpening x x
  keeps_none x = record {
    blocks = refl;
    entries = refl;
    synced = refl;
    device_kept = record { same_size = refl; more_calls = omega arith; more_faults = omega arith };
  }

  keeps_two : (x y z : Engine D disk) → KeepsOpening x y → KeepsOpening y z → KeepsOpening x z
  keeps_two x y z a b = record {
    blocks = b.blocks ∙ a.blocks;
    entries = b.entries ∙ a.entries;
    synced = b.synced ∙ a.synced;
    device_kept = record {
      same_size = b.device_kept.same_size ∙ a.device_kept.same_size;
      more_calls = omega (arith, a.device_kept.more_calls, b.device_kept.more_calls);
      more_faults = omega (arith, a.device_kept.more_faults, b.device_kept.more_faults);
    };
  }

  trace_keeps : (x : Engine D disk) (l : List (Item D disk)) → IsTrace x l → KeepsOpening x (engine_after x l)
  trace_keeps x [] trace = keeps_none x
  trace_keeps x (Earlier ∷ l) trace = absurd trace
  trace_keeps x (Added entry engine ∷ l) trace =
      keeps_two x engine.value (engine_after engine.value l) trace.0.1.kept (trace_keeps engine.value l trace.1)
  trace_keeps x (Halted entry engine ∷ l) trace =
      keeps_two x engine.value (engine_after engine.value l) trace.0.kept (trace_keeps engine.value l trace.1)

  -- The opening of the engine at the end is that of the first.
  pub keeps_of_list : (x : Engine D disk) (l : List (Item D disk)) → IsTraceOf x l → KeepsOpening x (engine_after x l)
  keeps_of_list x l trace = subst (KeepsOpening x) (sym (engine_is x l trace)) (trace_keeps x trace.steps trace.trace)

  -- ---- how much room is left

  trace_room : (h : List Entry) (x : Engine D disk) (l : List (Item D disk)) → IsEngineOf h x → IsTrace x l → room_of (engine_after x l) + needs_after h (entries_in l) ≡ room_of x
  trace_room h x [] of trace = omega arith
  trace_room h x (Earlier ∷ l) of trace = absurd trace
  trace_room h x (Added entry engine ∷ l) of trace =
      let stepped : IsStepped h x engine.value entry.value trace.0.0 = trace.0.1.stepped h of in
      let next = trace_room (h ++ entry.value ∷ []) engine.value l stepped.of trace.1 in
      let blocks = trace.0.1.kept.blocks in
      let room : room_of engine.value ≡ left (blocks_of x) (tail_of x + need_of h entry.value) = ap (λ b. left b (tail_of engine.value)) blocks ∙ ap (left (blocks_of x)) stepped.tail in
      let less = room_less (blocks_of x) (tail_of x) (need_of h entry.value) stepped.could.fits in
      omega (arith, next, room, less)
  trace_room h x (Halted entry engine ∷ l) of trace =
      let fault : CanStep h x entry.value × StopsByFault x engine.value entry.value = trace.0.cause h of in
      let next = trace_room h engine.value l (subst (IsBoardOf h) (sym fault.1.board) of) trace.1 in
      let room : room_of engine.value ≡ room_of x = ap (λ b. left b (tail_of engine.value)) trace.0.kept.blocks ∙ ap (left (blocks_of x)) fault.1.tail in
      next ∙ room

  -- The room at the end is that at the beginning, less what the entries need.
  pub room_of_list : (h : List Entry) (x : Engine D disk) (l : List (Item D disk)) → IsEngineOf h x → IsTraceOf x l → room_of (engine_after x l) + needs_after h (entries_in l) ≡ room_of x
  room_of_list h x l of trace =
      let room : room_of (engine_after x l) ≡ room_of (engine_after x trace.steps) = ap (λ (e : Engine D disk). room_of e) (engine_is x l trace) in
      let needs : needs_after h (entries_in l) ≡ needs_after h (entries_in trace.steps) = ap (needs_after h) (entries_is x l trace) in
      omega (arith, trace_room h x trace.steps of trace.trace, room, needs)

  -- ---- what a crash may leave

  trace_at_rest : disk.is_observable → (h : List Entry) (x : Engine D disk) (l : List (Item D disk)) → IsAtRest h x → IsTrace x l → is_stopped (engine_after x l) ≡ false → IsAtRest (h ++ entries_in l) (engine_after x l)
  trace_at_rest seen h x [] rest trace runs = subst (λ k. IsAtRest k x) (sym (append-nil h)) rest
  trace_at_rest seen h x (Earlier ∷ l) rest trace runs = absurd trace
  trace_at_rest seen h x (Added entry engine ∷ l) rest trace runs =
      let next : IsAtRest (h ++ entry.value ∷ []) engine.value = trace.0.1.at_rest seen h rest in
      subst (λ k. IsAtRest k (engine_after engine.value l)) (append_assoc h (entry.value ∷ []) (entries_in l)) (trace_at_rest seen (h ++ entry.value ∷ []) engine.value l next trace.1 runs)
  trace_at_rest seen h x (Halted entry engine ∷ l) rest trace runs =
      let fault : CanStep h x entry.value × StopsByFault x engine.value entry.value = trace.0.cause h rest.of in
      let none = ends_stopped engine.value l fault.1.stopped trace.1 in
      let still : is_stopped engine.value ≡ false = sym (ap (λ m. is_stopped (engine_after engine.value m)) none) ∙ runs in
      absurd (not_both (is_stopped engine.value) fault.1.stopped still)

  -- If the engine at the end runs, it is at rest.
  pub at_rest_of_list : disk.is_observable → (h : List Entry) (x : Engine D disk) (l : List (Item D disk)) → IsAtRest h x → IsTraceOf x l → is_stopped (engine_after x l) ≡ false → IsAtRest (history_of h l) (engine_after x l)
  at_rest_of_list seen h x l rest trace runs =
      let still = sym (ap (λ (e : Engine D disk). is_stopped e) (engine_is x l trace)) ∙ runs in
      let end = trace_at_rest seen h x trace.steps rest trace.trace still in
      subst (λ y. IsAtRest (history_of h l) y) (sym (engine_is x l trace)) (subst (λ k. IsAtRest (h ++ k) (engine_after x trace.steps)) (sym (entries_is x l trace)) end)

  trace_durable : disk.is_observable → (h more : List Entry) (calls entries : ℕ) (x : Engine D disk) (l : List (Item D disk)) → (is_stopped x ≡ false → IsAtRest h x) → IsDurable h calls entries x more → IsTrace x l → IsDurable (h ++ entries_in l) calls entries (engine_after x l) (in_flight_in more l)
  trace_durable seen h more calls entries x [] rest durable trace =
      subst (λ k. IsDurable k calls entries x more) (sym (append-nil h)) durable
  trace_durable seen h more calls entries x (Earlier ∷ l) rest durable trace = absurd trace
  trace_durable seen h more calls entries x (Added entry engine ∷ l) rest durable trace =
      let stepped : IsStepped h x engine.value entry.value trace.0.0 = trace.0.1.stepped h durable.of in
      let next : IsAtRest (h ++ entry.value ∷ []) engine.value = trace.0.1.at_rest seen h (rest stepped.could.runs) in
      let held : IsDurable (h ++ entry.value ∷ []) calls entries engine.value more = trace.0.1.durable seen h more calls entries rest durable in
      subst (λ k. IsDurable k calls entries (engine_after engine.value l) (in_flight_in more l)) (append_assoc h (entry.value ∷ []) (entries_in l)) (trace_durable seen (h ++ entry.value ∷ []) more calls entries engine.value l (λ _. next) held trace.1)
  trace_durable seen h more calls entries x (Halted entry engine ∷ l) rest durable trace =
      let fault : CanStep h x entry.value × StopsByFault x engine.value entry.value = trace.0.cause h durable.of in
      let held : IsDurable h calls entries engine.value (entry.value ∷ []) = trace.0.durable seen h more calls entries rest durable in
      trace_durable seen h (entry.value ∷ []) calls entries engine.value l (λ still. absurd (not_both (is_stopped engine.value) fault.1.stopped still)) held trace.1

  -- What was durable at the beginning is so at the end, with the entries in between.
  pub durable_of_list : disk.is_observable → (h more : List Entry) (calls entries : ℕ) (x : Engine D disk) (l : List (Item D disk)) → (is_stopped x ≡ false → IsAtRest h x) → IsDurable h calls entries x more → IsTraceOf x l → IsDurable (history_of h l) calls entries (engine_after x l) (in_flight_in more l)
  durable_of_list seen h more calls entries x l rest durable trace =
      let end = trace_durable seen h more calls entries x trace.steps rest durable trace.trace in
      let a = subst (λ k. IsDurable (h ++ k) calls entries (engine_after x trace.steps) (in_flight_in more trace.steps)) (sym (entries_is x l trace)) end in
      let b = subst (λ k. IsDurable (history_of h l) calls entries (engine_after x trace.steps) k) (sym (flight_is x l trace more)) a in
      subst (λ y. IsDurable (history_of h l) calls entries y (in_flight_in more l)) (sym (engine_is x l trace)) b

  -- ---- one step more

  -- The item of a step is a trace from the engine before it.
  item_trace : (x y : Engine D disk) (e : Entry) (result : Result Receipt StepFault) → IsStep x y e result → IsTrace x (option_to_list (item_by result e y))
  item_trace x y e (Ok receipt) step = ((receipt, step), tt)
  item_trace x y e (Err DeviceFault) step = (step, tt)
  item_trace x y e (Err (Stopped entries)) step = tt
  item_trace x y e (Err Sealed) step = tt
  item_trace x y e (Err (Rejected why)) step = tt
  item_trace x y e (Err Want) step = tt
  item_trace x y e (Err (DeviceFull need room)) step = tt

  -- The item leads to the engine after the step. A step that adds none changes nothing.
  pub item_engine : (x y : Engine D disk) (e : Entry) (result : Result Receipt StepFault) → IsStep x y e result → engine_after x (option_to_list (item_by result e y)) ≡ y
  item_engine x y e (Ok receipt) step = refl
  item_engine x y e (Err DeviceFault) step = refl
  item_engine x y e (Err (Stopped entries)) step = sym step.effect.has_result.2
  item_engine x y e (Err Sealed) step = sym step.effect.has_result.2
  item_engine x y e (Err (Rejected why)) step = sym step.effect.has_result.1
  item_engine x y e (Err Want) step = sym step.effect.has_result.1
  item_engine x y e (Err (DeviceFull need room)) step = sym step.effect.has_result.3

  pub item_halt : (y : Engine D disk) (e : Entry) (result : Result Receipt StepFault) → has_halt (option_to_list (item_by {disk = disk} result e y)) ≡ has_failed result
  item_halt y e (Ok receipt) = refl
  item_halt y e (Err DeviceFault) = refl
  item_halt y e (Err (Stopped entries)) = refl
  item_halt y e (Err Sealed) = refl
  item_halt y e (Err (Rejected why)) = refl
  item_halt y e (Err Want) = refl
  item_halt y e (Err (DeviceFull need room)) = refl

  -- A list with the item of a step of the engine at its end is a list of the hall.
  pub list_push : (x y : Engine D disk) (l : List (Item D disk)) (e : Entry) (result : Result Receipt StepFault) → IsTraceOf x l → IsStep (engine_after x l) y e result → IsTraceOf x (l ++ option_to_list (item_by result e y))
  list_push x y l e result trace step =
      let more = option_to_list (item_by result e y) in
      let here : IsStep (engine_after x trace.steps) y e result = subst (λ z. IsStep z y e result) (engine_is x l trace) step in
      record {
        steps = trace.steps ++ more;
        is = ap (λ k. k ++ more) trace.is ∙ append_assoc (replicate (entries_of x) Earlier) trace.steps more;
        trace = trace_append x trace.steps more trace.trace (item_trace (engine_after x trace.steps) y e result here);
      }

  -- ---- the store of a turn

  pub like_same : (a b : Engine D disk) → a ≡ b → IsLike a b
  like_same a b is = record {
    log = ap (λ e. log_of e) is;
    board = ap (λ e. board_of e) is;
    entries = ap (λ e. entries_at_open e) is;
    chosen = ap (λ e. super_of e) is;
    synced = ap (λ e. e.synced) is;
  }

  -- With its log at home the engine of a store is the one at the end of the list.
  pub engine_at : (s : Store D disk) (l : List (Item D disk)) (x : Engine D disk) → IsStoreOf s l x → is_home s.engine ≡ true → s.engine ≡ engine_after x l
  engine_at s l x of home = same_at_home s.engine (engine_after x l) home of.home of.engine
