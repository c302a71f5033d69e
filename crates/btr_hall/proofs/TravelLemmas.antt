-- Lemmas on the turns of a call that adds an entry: those in which the log is out, and the one in which it is at home.
use Rattle.std.specs.Prelude.{◌≡◌, ℕ, ◌≤◌, ◌+◌, length, Bool, true, false, not, ◌&&◌, ◌||◌, List, [], ◌∷◌, ◌++◌, Option, None, Some, Result, Ok, Err, OnOk, IfErr}
use Rattle.std.proofs.Common.{refl, sym, ap, ◌∙◌, subst, arith, length-append}
use Rattle.btr_disk.specs.declared.disk.Disk.{Ghosts}
use Rattle.btr_log.specs.declared.log.Log.{Log}
use Rattle.btr_log.specs.Log.{log_tail}
use Rattle.btr_super.specs.declared.superblock.Super.{Super}
use Rattle.btr_super.specs.Super.{has_seal}
use Rattle.btr_hist.specs.declared.entry.Entry.{Entry}
use Rattle.btr_engine.specs.declared.engine.Engine.{Engine}
use Rattle.btr_streams.specs.declared.board.Receipt.{Receipt}
use Rattle.btr_engine.specs.declared.step.StepFault.{StepFault}
use Rattle.btr_engine.specs.declared.step.StepFault.TheVariants.{Stopped, Sealed, Rejected, Want, DeviceFull, DeviceFault}
use Rattle.btr_engine.specs.declared.travel.Ready.{Ready}
use Rattle.btr_streams.specs.Board.{Kept}
use Rattle.btr_engine.specs.Engine.{log_of, is_home}
use Rattle.btr_engine.specs.Step.{IsStep, HasResult}
use Rattle.btr_engine.specs.Raise.{raise_for, super_after}
use Rattle.btr_engine.specs.Travel.{IsLike, IsReadyOn, IsStaged, IsWritten, HasFailed, HoldsNow, LeavesEntry}
use Rattle.btr_engine.proofs.TravelLemmas.{HasMoments, StagesOn, written_step, failed_step}
use Rattle.btr_gate.specs.declared.view.View.{View}
use Rattle.btr_gate.specs.declared.view.Stage.TheVariants.{Idle}
use Rattle.btr_gate.specs.declared.turn.Turn.{Turn}
use Rattle.btr_gate.specs.Prefixes.{StartsWith}
use Rattle.btr_gate.proofs.PrefixLemmas.{starts_refl, starts_trans}
use Rattle.btr_gate.specs.Shares.{covers}
use Rattle.btr_gate.specs.Turns.{Enters, Leaves}
use Rattle.btr_gate.specs.Views.{turn_list, turn_lent, with_entry, with_number}
use Rattle.btr_hall.specs.declared.item.Item.{Item}
use Rattle.btr_hall.specs.declared.store.Store.{Store}
use Rattle.btr_hall.specs.Store.{IsStoreOf}
use Rattle.btr_hall.specs.Travel.{HasWaited, Gets, TakesOut, Brings, AddsIn}
use Rattle.btr_hall.specs.Trace.{engine_after, has_halt}
use Rattle.btr_hall.specs.Commit.{has_failed, item_by, Adds}

-- A pass that did not carry the part carries none after a turn that found it lent.
carries_none : (lent carries turned : Bool) → carries ≡ false → turned ≡ true → (lent && (carries || not turned)) ≡ false
carries_none false carries turned c t = refl
carries_none true true turned c t = absurd (cc)
carries_none true false true c t = refl
carries_none true false false c t = absurd (cc)

-- A pass that lends the part carries it.
pub carries_it : (home carries turned : Bool) → home ≡ false → carries ≡ false → turned ≡ false → (not home && (carries || not turned)) ≡ true
carries_it false false false a b c = refl
carries_it true carries turned a b c = absurd (cc)
carries_it false true turned a b c = absurd (cc)
carries_it false false true a b c = absurd (cc)

or_false : (b : Bool) → b ≡ (b || false)
or_false true = refl
or_false false = refl

-- One number more at most.
item_numbers : {A : Type 0} (mine : List ℕ) (l : List A) (item : Option A) → length (with_number mine l item) ≤ length mine + 1
item_numbers mine l None = omega arith
item_numbers mine l (Some a) = omega (arith, length-append mine ((length l + 1) ∷ []))

or_true : (b : Bool) → true ≡ (b || true)
or_true true = refl
or_true false = refl

module _ {D : Type 0} {disk : Ghosts D} where
  pub waits_none : (v : View (Item D disk) (Engine D disk)) → v.stage ≡ Idle → v.carries ≡ false → HasWaited v v
  waits_none v idle carries = record {
    begins = starts_refl v.seen;
    alone = λ _. refl;
    mine = refl;
    share = refl;
    setting = refl;
    start = refl;
    turns = omega arith;
    carries = carries;
    idle = idle;
  }

  module _ (v u w : View (Item D disk) (Engine D disk)) (waits : HasWaited v u) (enters : Enters u w) (begins : StartsWith (turn_list w) u.seen) (alone : covers u.share ≡ true → turn_list w ≡ u.seen) where
    its_begins : StartsWith (turn_list w) v.seen
    its_begins = starts_trans (turn_list w) u.seen v.seen begins waits.begins

    its_alone : covers v.share ≡ true → turn_list w ≡ v.seen
    its_alone whole = alone (ap covers waits.share ∙ whole) ∙ waits.alone whole

    its_carries : w.carries ≡ false
    its_carries = enters.carries ∙ waits.carries

    pub gets_of : (x : Engine D disk) (turn : Turn (Store D disk) (Item D disk)) → turn.added ≡ None → not (is_home turn.state.engine) ≡ turn_lent w → IsStoreOf turn.state (turn_list w) x → is_home turn.state.engine ≡ true → Gets x v w turn
    gets_of x turn none lent of home = record {
      turn = enters.turn;
      turns = omega (arith, enters.turns, waits.turns);
      begins = its_begins;
      alone = its_alone;
      mine = enters.mine ∙ waits.mine;
      share = enters.share ∙ waits.share;
      setting = enters.setting ∙ waits.setting;
      start = enters.start ∙ waits.start;
      carries = its_carries;
      lent = sym lent ∙ ap not home;
      none = none;
      state = of;
      home = home;
    }

    pub waits_of : (z : View (Item D disk) (Engine D disk)) (added : Option (Item D disk)) (lent : Bool) → Leaves w added lent z → added ≡ None → turn_lent w ≡ true → HasWaited v z
    waits_of z added lent leaves none out =
        let seen : z.seen ≡ turn_list w = leaves.seen ∙ ap (with_entry (turn_list w)) none in
        record {
          begins = subst (λ l. StartsWith l v.seen) (sym seen) its_begins;
          alone = λ whole. seen ∙ its_alone whole;
          mine = leaves.mine ∙ ap (with_number w.mine (turn_list w)) none ∙ enters.mine ∙ waits.mine;
          share = leaves.share ∙ enters.share ∙ waits.share;
          setting = leaves.setting ∙ enters.setting ∙ waits.setting;
          start = leaves.start ∙ enters.start ∙ waits.start;
          turns = omega (arith, leaves.turns, enters.turns, waits.turns);
          carries = leaves.carries ∙ carries_none lent w.carries (turn_lent w) its_carries out;
          idle = leaves.idle;
        }

  -- ---- the store while the log is out, and after it

  like_two : (a b c : Engine D disk) → IsLike a b → IsLike b c → IsLike a c
  like_two a b c p q = record {
    log = p.log ∙ q.log;
    board = p.board ∙ q.board;
    entries = p.entries ∙ q.entries;
    chosen = p.chosen ∙ q.chosen;
    synced = p.synced ∙ q.synced;
  }

  pub like_back : (a b : Engine D disk) → IsLike a b → IsLike b a
  like_back a b p = record {
    log = sym p.log;
    board = sym p.board;
    entries = sym p.entries;
    chosen = sym p.chosen;
    synced = sym p.synced;
  }

  -- The store is of the same list while its log is out.
  pub store_out : (s t : Store D disk) (l : List (Item D disk)) (x : Engine D disk) (e : Entry) (m : Log D disk) (r : Ready) → IsStoreOf s l x → TakesOut s t e m r → IsStoreOf t l x
  store_out s t l x e m r of takes = record {
    opening = of.opening ∙ ap (λ o. o.value) (sym takes.opening);
    trace = of.trace;
    engine = like_two t.engine s.engine (engine_after x l) takes.like of.engine;
    home = of.home;
    halted = takes.halted ∙ of.halted;
  }

  -- Two stores of one list have engines that differ at most in where the log is.
  pub like_of_list : (s t : Store D disk) (l m : List (Item D disk)) (x : Engine D disk) → IsStoreOf s l x → IsStoreOf t m x → m ≡ l → IsLike t.engine s.engine
  like_of_list s t l m x of next same =
      like_two t.engine (engine_after x l) s.engine (subst (λ k. IsLike t.engine (engine_after x k)) same next.engine) (like_back s.engine (engine_after x l) of.engine)

  -- An entry that was refused adds nothing.
  pub refused_adds : (s t : Store D disk) (e : Entry) (fault : StepFault) → IsStep s.engine t.engine e (Err fault) → HasResult s.engine s.engine e (Err fault) → t.opening ≡ s.opening → t.halted ≡ s.halted → Adds s t e (Err fault) None
  refused_adds s t e (Stopped n) step has opening halted = record { step = step; opening = ap (λ o. o.value) opening; halted = halted ∙ or_false s.halted; item = refl }
  refused_adds s t e Sealed step has opening halted = record { step = step; opening = ap (λ o. o.value) opening; halted = halted ∙ or_false s.halted; item = refl }
  refused_adds s t e (Rejected why) step has opening halted = record { step = step; opening = ap (λ o. o.value) opening; halted = halted ∙ or_false s.halted; item = refl }
  refused_adds s t e Want step has opening halted = record { step = step; opening = ap (λ o. o.value) opening; halted = halted ∙ or_false s.halted; item = refl }
  refused_adds s t e (DeviceFull n left) step has opening halted = record { step = step; opening = ap (λ o. o.value) opening; halted = halted ∙ or_false s.halted; item = refl }
  refused_adds s t e DeviceFault step has opening halted = let stopped = has.1.stopped in let runs = has.0 in absurd (cc)

  -- What `write` says of the device, if this is its result.
  abbrev pub HoldsIf : {A B : Type 0} → Log D disk → Log D disk → Entry → Ready → Result A B → Type 0
  HoldsIf l after e r written =
      disk.is_observable → (h : List Entry) (b : Kept) (s : Super) → IsStaged h b (log_tail l) e r → r.raise ≡ raise_for s e
      → has_seal s ≡ false → HoldsNow h b s l → OnOk written (HoldsNow (h ++ e ∷ []) r.staged.next (super_after s r.raise) after)

  -- The log is back: the store did the step that began in the turn in which it was at home.
  pub brought_in : {A B : Type 0} → HasMoments disk → (s u t : Store D disk) (l : Log D disk) (e : Entry) (r : Ready) → IsLike u.engine s.engine → u.opening.value ≡ s.opening.value → u.halted ≡ s.halted → IsReadyOn s.engine e r → StagesOn s.engine e r → LeavesEntry (log_of s.engine) l e r → (written : Result A B) (result : Result Receipt StepFault) (added : Option (Item D disk)) → OnOk written (IsWritten (log_of s.engine) l r) → IfErr written (λ _. HasFailed r.raise (log_of s.engine) l) → HoldsIf (log_of s.engine) l e r written → Brings u t l r e written result added → Adds s t e result added
  brought_in laws s u t l e r like opening halted on staged moments (Ok w) result added written failed holds b =
      let step = written_step laws s.engine u.engine t.engine l e r like on staged moments (Some b.0) b.0 refl written holds b.2 in
      record {
        step = subst (λ z. IsStep s.engine t.engine e z) (sym b.1) step;
        opening = ap (λ o. o.value) b.3 ∙ opening;
        halted = b.4 ∙ halted ∙ or_false s.halted ∙ sym (ap (λ z. s.halted || has_failed z) b.1);
        item = b.5 ∙ sym (ap (λ z. item_by z e t.engine) b.1);
      }
  brought_in laws s u t l e r like opening halted on staged moments (Err w) result added written failed holds b =
      let step = failed_step laws s.engine u.engine t.engine l e r like on staged moments b.0 failed b.2 in
      record {
        step = subst (λ z. IsStep s.engine t.engine e z) (sym b.1) step;
        opening = ap (λ o. o.value) b.3 ∙ opening;
        halted = b.4 ∙ or_true s.halted ∙ sym (ap (λ z. s.halted || has_failed z) b.1);
        item = b.5 ∙ sym (ap (λ z. item_by z e t.engine) b.1);
      }

  pub halted_of_list : (s t : Store D disk) (l m : List (Item D disk)) (x : Engine D disk) → IsStoreOf s l x → IsStoreOf t m x → m ≡ l → t.halted ≡ s.halted
  halted_of_list s t l m x of next same = next.halted ∙ ap (has_halt {disk = disk}) same ∙ sym of.halted

  pub store_at : (s : Store D disk) (l m : List (Item D disk)) (added : Option (Item D disk)) (x : Engine D disk) → m ≡ l → IsStoreOf s (with_entry l added) x → IsStoreOf s (with_entry m added) x
  store_at s l m added x same of = subst (λ k. IsStoreOf s (with_entry k added) x) (sym same) of

  -- ---- the views after the turns

  module _ (v u : View (Item D disk) (Engine D disk)) (added : Option (Item D disk)) (lent : Bool) (first : Leaves v added lent u) (none : added ≡ None) (s t : Store D disk) (e : Entry) (result : Result Receipt StepFault) where
    pub seen_first : u.seen ≡ turn_list v
    seen_first = first.seen ∙ ap (with_entry (turn_list v)) none

    mine_first : u.mine ≡ v.mine
    mine_first = first.mine ∙ ap (with_number v.mine (turn_list v)) none

    pub added_none : Adds s t e result None → lent ≡ false → AddsIn v u s e result
    added_none adds free = record {
      new = t;
      added = None;
      adds = adds;
      seen = seen_first;
      mine = mine_first;
      share = first.share;
      setting = first.setting;
      start = first.start;
      turns = omega (arith, first.turns, ap length mine_first);
      carries = first.carries ∙ ap (λ b. b && (v.carries || not (turn_lent v))) free;
      idle = first.idle;
    }

    pub added_last : (w z : View (Item D disk) (Engine D disk)) (item : Option (Item D disk)) (lends : Bool) → Enters u w → Leaves w item lends z → turn_list w ≡ turn_list v → Adds s t e result item → lends ≡ false → AddsIn v z s e result
    added_last w z item lends enters last same adds free = record {
      new = t;
      added = item;
      adds = adds;
      seen = last.seen ∙ ap (λ l. with_entry l item) same;
      mine = last.mine ∙ ap (λ l. with_number w.mine l item) same ∙ ap (λ m. with_number m (turn_list v) item) (enters.mine ∙ mine_first);
      share = last.share ∙ enters.share ∙ first.share;
      setting = last.setting ∙ enters.setting ∙ first.setting;
      start = last.start ∙ enters.start ∙ first.start;
      turns = omega (arith, first.turns, enters.turns, last.turns, item_numbers w.mine (turn_list w) item, ap length (enters.mine ∙ mine_first), ap length last.mine);
      carries = last.carries ∙ ap (λ b. b && (w.carries || not (turn_lent w))) free;
      idle = last.idle;
    }
