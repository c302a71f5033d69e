-- Lemmas on the turn of an entry: of which list the store is after it, and what its result says of the history.
use Rattle.std.specs.Prelude.{◌≡◌, ℕ, ◌+◌, Bool, true, false, ◌||◌, List, [], ◌∷◌, ◌++◌, length}
use Rattle.std.specs.Prelude.{Option, Some, None, option_to_list, Result, Ok, Err}
use Rattle.std.specs.declared.snapshot.Snapshot.{Snapshot}
use Rattle.std.proofs.Common.{refl, sym, ap, ◌∙◌, subst, arith, length-append}
use Rattle.std.proofs.lemmas.List.{append-nil}
use Rattle.btr_disk.specs.declared.disk.Disk.{Ghosts}
use Rattle.btr_hist.specs.declared.entry.Entry.{Entry}
use Rattle.btr_hist.specs.declared.entry.Entry.TheVariants as entries
use Rattle.btr_hist.specs.Machine as machine
use Rattle.btr_engine.specs.declared.engine.Engine.{Engine}
use Rattle.btr_streams.specs.declared.board.Receipt.{Receipt}
use Rattle.btr_engine.specs.declared.step.StepFault.{StepFault}
use Rattle.btr_engine.specs.declared.step.StepFault.TheVariants.{Stopped, Sealed, Rejected, Want, DeviceFull, DeviceFault}
use Rattle.btr_engine.specs.Body.{needs_after}
use Rattle.btr_engine.specs.Engine.{is_stopped, is_sealed, is_home, room_of, IsEngineOf}
use Rattle.btr_engine.specs.Step.{IsStep, IsStepped}
use Rattle.btr_gate.specs.Numbers.{one}
use Rattle.btr_gate.specs.Prefixes.{StartsWith}
use Rattle.btr_gate.specs.Views.{with_entry, with_number}
use Rattle.btr_hall.specs.declared.item.Item.{Item}
use Rattle.btr_hall.specs.declared.item.Item.TheVariants.{Added, Halted}
use Rattle.btr_hall.specs.declared.store.Store.{Store}
use Rattle.btr_hall.specs.declared.session.Hall.{Hall}
use Rattle.btr_hall.specs.declared.session.Session.{Session}
use Rattle.btr_hall.specs.Trace.{IsTraceOf, engine_after, entries_in, has_halt, stopped_in, history_of}
use Rattle.btr_hall.specs.Store.{IsStoreOf}
use Rattle.btr_hall.specs.Session.{IsAlone, HasTurns, opening_of, seen_of, mine_of, engine_of}
use Rattle.btr_hall.specs.Commit.{shown, has_failed, number_by, item_by, Adds, CommitReplies, Commits}
use Rattle.btr_hall.proofs.TraceLemmas.{like_same, engine_at, engine_append, halt_append, engine_of_list, stopped_of_list, sealed_of_list, length_of_list, room_of_list, item_engine, item_halt, list_push}

-- A snapshot that shows a value.
pub shown_is : {A : Type 0} (s : Snapshot A) (x : A) → s.value ≡ x → s ≡ shown x
shown_is s x is = λ i. record { marker = s.marker; value = is i }

-- A list with one more item, if there is one.
pub with_entry_is : {A : Type 0} (l : List A) (o : Option A) → with_entry l o ≡ l ++ option_to_list o
with_entry_is l None = sym (append-nil l)
with_entry_is l (Some a) = refl

-- The number of one more item is the length of the list with it.
number_push : {A : Type 0} (mine : List ℕ) (l : List A) (a : A) → mine ++ (length l + 1) ∷ [] ≡ mine ++ length (l ++ a ∷ []) ∷ []
number_push mine l a =
    let long : length l + 1 ≡ length (l ++ a ∷ []) = omega (arith, length-append l (a ∷ [])) in
    ap (λ n. mine ++ n ∷ []) long

-- The number of a receipt is that of the entry.
receipt_number : (h : List Entry) (e : Entry) → (machine.receipt h e).number ≡ length h + 1
receipt_number h (entries.Create id) = refl
receipt_number h (entries.Define id spec) = refl
receipt_number h (entries.Commit stream cut added) = refl
receipt_number h (entries.Distillate stream cut added reads) = refl
receipt_number h (entries.Retire stream first) = refl

module _ {D : Type 0} {disk : Ghosts D} where
  -- ---- the store after a step

  -- The step is one of the engine at the end of the list.
  pub step_here : (s t : Store D disk) (l : List (Item D disk)) (x : Engine D disk) (e : Entry) (result : Result Receipt StepFault) (added : Option (Item D disk)) → IsStoreOf s l x → is_home s.engine ≡ true → Adds s t e result added → IsStep (engine_after x l) t.engine e result
  step_here s t l x e result added of home adds = subst (λ z. IsStep z t.engine e result) (engine_at s l x of home) adds.step

  -- The list after it, with the item that it added.
  pub list_is : (s t : Store D disk) (l : List (Item D disk)) (e : Entry) (result : Result Receipt StepFault) (added : Option (Item D disk)) → Adds s t e result added → with_entry l added ≡ l ++ option_to_list (item_by result e t.engine)
  list_is s t l e result added adds = with_entry_is l added ∙ ap (λ o. l ++ option_to_list o) adds.item

  pub store_after : (s t : Store D disk) (l : List (Item D disk)) (x : Engine D disk) (e : Entry) (result : Result Receipt StepFault) (added : Option (Item D disk)) → IsStoreOf s l x → is_home s.engine ≡ true → Adds s t e result added → IsStoreOf t (with_entry l added) x
  store_after s t l x e result added of home adds =
      let more = option_to_list (item_by result e t.engine) in
      let is = list_is s t l e result added adds in
      let step = step_here s t l x e result added of home adds in
      let at : t.engine ≡ engine_after x (with_entry l added) =
      sym (item_engine (engine_after x l) t.engine e result step) ∙ sym (engine_append x l more) ∙ sym (ap (engine_after x) is) in
      record {
        opening = of.opening ∙ sym adds.opening;
        trace = subst (IsTraceOf x) (sym is) (list_push x t.engine l e result of.trace step);
        engine = like_same t.engine (engine_after x (with_entry l added)) at;
        home = ap (λ (z : Engine D disk). is_home z) (sym at) ∙ step.home;
        halted =
            adds.halted
            ∙ ap (λ b. b || has_failed result) of.halted
            ∙ sym (ap (λ b. has_halt l || b) (item_halt t.engine e result))
            ∙ sym (halt_append l more)
            ∙ sym (ap (has_halt {disk = disk}) is);
      }

  -- ---- what the result says

  -- A list without a halt has an item for each entry.
  pub runs_length : (h : List Entry) (x : Engine D disk) (l : List (Item D disk)) → IsEngineOf h x → IsTraceOf x l → is_stopped (engine_after x l) ≡ false → length l ≡ length (history_of h l)
  runs_length h x l of trace runs =
      let all = length_of_list x l trace in
      let entries = (engine_of_list h x l of trace).entries in
      let none = no_halt (is_stopped x) (has_halt l) (sym (stopped_of_list x l trace) ∙ runs) in
      omega (arith, all, entries, none)
    where
      no_halt : (a b : Bool) → (a || b) ≡ false → one b ≡ 0
      no_halt true b is = absurd (cc)
      no_halt false b is = ap one is

  pub replies_of : (h : List Entry) (x y : Engine D disk) (l : List (Item D disk)) (e : Entry) (result : Result Receipt StepFault) → IsEngineOf h x → IsTraceOf x l → IsStep (engine_after x l) y e result → CommitReplies x h l (history_of h l) e result
  replies_of h x y l e (Ok receipt) of trace step =
      let at = engine_of_list h x l of trace in
      let stepped : IsStepped (history_of h l) (engine_after x l) y e receipt = step.stepped (history_of h l) at in
      let number = stepped.is_receipt.number in
      let long = runs_length h x l of trace stepped.could.runs in
      (stepped.could.allowed, stepped.is_receipt, number ∙ receipt_number (history_of h l) e ∙ sym (ap (λ n. n + 1) long))
  replies_of h x y l e (Err (Stopped n)) of trace step =
      let cause = step.cause (history_of h l) (engine_of_list h x l of trace) in
      (sym (stopped_of_list x l trace) ∙ cause.0, cause.1)
  replies_of h x y l e (Err Sealed) of trace step =
      let has = step.effect.has_result in
      (sym (stopped_of_list x l trace) ∙ has.0, sym (sealed_of_list x l trace) ∙ has.1)
  replies_of h x y l e (Err (Rejected why)) of trace step = (step.cause (history_of h l) (engine_of_list h x l of trace)).1
  replies_of h x y l e (Err Want) of trace step = (step.cause (history_of h l) (engine_of_list h x l of trace)).1
  replies_of h x y l e (Err (DeviceFull need room)) of trace step =
      let cause = step.cause (history_of h l) (engine_of_list h x l of trace) in
      let all = room_of_list h x l of trace in
      let left : room ≡ room_of (engine_after x l) = cause.3 in
      (cause.1, cause.2, ap (λ n. n + needs_after h (entries_in l)) left ∙ all, cause.4)
  replies_of h x y l e (Err DeviceFault) of trace step =
      (step.cause (history_of h l) (engine_of_list h x l of trace)).0.allowed

  -- A stopped engine says so, with the number of its entries.
  pub says_stopped : (h : List Entry) (x y : Engine D disk) (l : List (Item D disk)) (e : Entry) (result : Result Receipt StepFault) → IsEngineOf h x → IsTraceOf x l → IsStep (engine_after x l) y e result → stopped_in x l ≡ true → result ≡ Err (Stopped (length (history_of h l)))
  says_stopped h x y l e result of trace step stopped =
      let here = stopped_of_list x l trace ∙ stopped in
      let entries = (engine_of_list h x l of trace).entries in
      (step.effect.stopped here).returned ∙ ap (λ n. Err (Stopped n)) entries

  -- A sealed engine that runs says so.
  pub says_sealed : (x y : Engine D disk) (l : List (Item D disk)) (e : Entry) (result : Result Receipt StepFault) → IsTraceOf x l → IsStep (engine_after x l) y e result → stopped_in x l ≡ false → is_sealed x ≡ true → result ≡ Err Sealed
  says_sealed x y l e result trace step runs sealed =
      (step.effect.sealed (stopped_of_list x l trace ∙ runs) (sealed_of_list x l trace ∙ sealed)).returned

  -- ---- the turn

  number_is : (l : List (Item D disk)) (mine : List ℕ) (e : Entry) (y : Engine D disk) (result : Result Receipt StepFault) → with_number mine l (item_by result e y) ≡ mine ++ option_to_list (number_by result (length (l ++ option_to_list (item_by result e y))))
  number_is l mine e y (Ok receipt) = number_push mine l (Added (shown e) (shown y))
  number_is l mine e y (Err DeviceFault) = number_push mine l (Halted (shown e) (shown y))
  number_is l mine e y (Err (Stopped n)) = sym (append-nil mine)
  number_is l mine e y (Err Sealed) = sym (append-nil mine)
  number_is l mine e y (Err (Rejected why)) = sym (append-nil mine)
  number_is l mine e y (Err Want) = sym (append-nil mine)
  number_is l mine e y (Err (DeviceFull need room)) = sym (append-nil mine)

  -- The turn of an entry, from the store that it had and the one that it left.
  module _ (hall : Hall D disk) (old new : Session D disk) (s t : Store D disk) (before : List (Item D disk)) (e : Entry) (result : Result Receipt StepFault) (added : Option (Item D disk)) (of : IsStoreOf s before (opening_of hall)) (home : is_home s.engine ≡ true) (adds : Adds s t e result added) (seen : seen_of new ≡ with_entry before added) where
    seen_here : seen_of new ≡ before ++ option_to_list (item_by result e t.engine)
    seen_here = seen ∙ list_is s t before e result added adds

    engine_here : engine_of hall new ≡ t.engine
    engine_here =
        ap (engine_after (opening_of hall)) seen_here
        ∙ engine_append (opening_of hall) before (option_to_list (item_by result e t.engine))
        ∙ item_engine (engine_after (opening_of hall) before) t.engine e result (step_here s t before (opening_of hall) e result added of home adds)

    pub new_step : IsStep (engine_after (opening_of hall) before) (engine_of hall new) e result
    new_step =
        subst (λ z. IsStep (engine_after (opening_of hall) before) z e result) (sym engine_here) (step_here s t before (opening_of hall) e result added of home adds)

    pub new_seen : seen_of new ≡ before ++ option_to_list (item_by result e (engine_of hall new))
    new_seen = seen_here ∙ sym (ap (λ z. before ++ option_to_list (item_by result e z)) engine_here)

    pub new_mine : mine_of new ≡ with_number (mine_of old) before added → mine_of new ≡ mine_of old ++ option_to_list (number_by result (length (seen_of new)))
    new_mine mine =
        mine
        ∙ ap (with_number (mine_of old) before) adds.item
        ∙ number_is before (mine_of old) e t.engine result
        ∙ sym (ap (λ l. mine_of old ++ option_to_list (number_by result (length {A = Item D disk} l))) seen_here)

    pub commits_of : HasTurns old new → StartsWith before (seen_of old) → (IsAlone old → before ≡ seen_of old) → mine_of new ≡ with_number (mine_of old) before added → Commits hall old new e result
    commits_of turn grows alone mine = record {
      turn = turn;
      before = before;
      grows = grows;
      alone = alone;
      trace = of.trace;
      step = new_step;
      seen = new_seen;
      mine = new_mine mine;
      stopped = λ stopped h with_h. says_stopped h (opening_of hall) (engine_of hall new) before e result with_h of.trace new_step stopped;
      sealed = says_sealed (opening_of hall) (engine_of hall new) before e result of.trace new_step;
      replies = λ h with_h. replies_of h (opening_of hall) (engine_of hall new) before e result with_h of.trace new_step;
    }

  -- The step of a session that is alone is one of its engine.
  pub alone_step : (hall : Hall D disk) (old new : Session D disk) (e : Entry) (result : Result Receipt StepFault) → Commits hall old new e result → IsAlone old → IsStep (engine_of hall old) (engine_of hall new) e result
  alone_step hall old new e result commits alone =
      subst (λ l. IsStep (engine_after (opening_of hall) l) (engine_of hall new) e result) (commits.alone alone) commits.step
