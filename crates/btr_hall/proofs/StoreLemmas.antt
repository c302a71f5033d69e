-- Lemmas on the engine that a gate carries: at the beginning of a hall and at its close.
use Rattle.std.specs.Prelude.{◌≡◌, true, false, List, [], ◌++◌, length, replicate, Some}
use Rattle.std.specs.declared.snapshot.Snapshot.{Snapshot}
use Rattle.std.proofs.Common.{sym, ap, ◌∙◌, subst, arith}
use Rattle.std.proofs.lemmas.List.{append-nil}
use Rattle.btr_disk.specs.declared.disk.Disk.{Ghosts}
use Rattle.btr_hist.specs.declared.entry.Entry.{Entry}
use Rattle.btr_engine.specs.declared.engine.Engine.{Engine}
use Rattle.btr_engine.specs.Engine.{entries_of, is_stopped, is_home, IsAtRest}
use Rattle.btr_gate.specs.Gates.{IsPassOf, view}
use Rattle.btr_gate.specs.Numbers.{one}
use Rattle.btr_gate.specs.Shares.{covers}
use Rattle.btr_gate.specs.Views.{opened}
use Rattle.btr_hall.specs.declared.item.Item.{Item}
use Rattle.btr_hall.specs.declared.item.Item.TheVariants.{Earlier}
use Rattle.btr_hall.specs.declared.store.Store.{Store}
use Rattle.btr_hall.specs.declared.session.Hall.{Hall}
use Rattle.btr_hall.specs.declared.session.Session.{Session}
use Rattle.btr_hall.specs.Trace.{engine_after, has_halt, IsTraceOf, history_of}
use Rattle.btr_hall.specs.Store.{IsStoreOf}
use Rattle.btr_hall.specs.Session.{Begins, opening_of, seen_of}
use Rattle.btr_hall.specs.StoreLaws.{engine_earlier, halt_earlier, store_length}
use Rattle.btr_hall.proofs.TraceLemmas.{like_same, engine_at, at_rest_of_list}

module _ {D : Type 0} {disk : Ghosts D} where
  -- ---- the beginning

  -- The list of a hall that begins: the entries of the engine.
  abbrev pub first_list : Engine D disk → List (Item D disk)
  first_list x = replicate (entries_of x) Earlier

  pub store_first : (x : Engine D disk) (opening : Snapshot (Engine D disk)) → opening.value ≡ x → is_home x ≡ true → IsStoreOf (record { engine = x; opening = opening; halted = false }) (first_list x) x
  store_first x opening is home =
      let n = entries_of x in
      let list : first_list x ≡ first_list x ++ [] = sym (append-nil (first_list x)) in
      let at : engine_after x (first_list x) ≡ x = ap (engine_after x) list ∙ engine_earlier n x [] in
      record {
        opening = sym is;
        trace = record { steps = []; is = list; trace = tt };
        engine = like_same x (engine_after x (first_list x)) (sym at);
        home = ap (λ (e : Engine D disk). is_home e) at ∙ home;
        halted = sym (ap (has_halt {disk = disk}) list ∙ halt_earlier n []);
      }

  -- The hall and its first session.
  pub begins_of : (x y : Engine D disk) (hall : Hall D disk) (new : Session D disk) (s : Store D disk) → IsPassOf hall.gate new.pass → is_home x ≡ true → opening_of hall ≡ x → s.engine ≡ x → s.opening.value ≡ x → s.halted ≡ false → IsStoreOf s (seen_of new) y → view new.pass ≡ opened (seen_of new) y → Begins x hall new
  begins_of x y hall new s own home opening engine shown runs of is =
      let same : y ≡ x = of.opening ∙ shown in
      let begun = opening ∙ sym same in
      let at : engine_after y (seen_of new) ≡ x = sym (engine_at s (seen_of new) y of (ap (λ e. is_home e) engine ∙ home)) ∙ engine in
      let long : length (seen_of new) ≡ entries_of x =
      let all = store_length s (seen_of new) y of in
      let entries : entries_of s.engine ≡ entries_of x = ap (λ e. entries_of e) engine in
      let none : one s.halted ≡ 0 = ap one runs in
      omega (arith, all, entries, none) in
      record {
        session = record { own = own; set = ap (λ v. v.setting) is ∙ ap Some (sym begun) };
        opening = opening;
        engine = ap (λ e. engine_after e (seen_of new)) begun ∙ at;
        trace = subst (λ e. IsTraceOf e (seen_of new)) same of.trace;
        seen = long;
        start = ap (λ v. v.start) is ∙ long;
        mine = ap (λ v. v.mine) is;
        turns = ap (λ v. v.turns) is;
        alone = ap (λ v. covers v.share) is;
      }

  -- ---- the close

  pub at_rest_at : disk.is_observable → (h : List Entry) (x : Engine D disk) (l : List (Item D disk)) (s : Store D disk) → IsStoreOf s l x → is_home s.engine ≡ true → IsAtRest h x → is_stopped s.engine ≡ false → IsAtRest (history_of h l) s.engine
  at_rest_at observable h x l s of home rest runs =
      let end = at_rest_of_list observable h x l rest of.trace (sym (ap (λ e. is_stopped e) (engine_at s l x of home)) ∙ runs) in
      subst (IsAtRest (history_of h l)) (sym (engine_at s l x of home)) end
