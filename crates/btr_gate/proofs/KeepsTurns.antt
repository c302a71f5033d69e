-- The end of a turn keeps the rule: an entry that is counted, and a turn that is passed on.
use Rattle.std.proofs.Common.{◌≡◌, ◌≢◌, ℕ, ◌+◌, ◌%◌, ◌^◌, ◌<◌, ◌≤◌, Bool, true, false, not, ◌||◌, List, [], ◌∷◌, ◌++◌, length, set, get_or, Option, None, Some, inl, inr, ⊎_elim, refl, sym, ap, ◌∙◌, subst, arith}
use Rattle.std.proofs.lemmas.Bool.{true≢false}
use Rattle.std.specs.Option.{is_some}
use mathlib.Core.Option as maybe
use mathlib.Core.Option.{some, none}
use lib.ListN.{get_elem?}
use Rattle.atomic_table.specs.Table.{State, Me, step, keeps, gives, rest, put_back, Allows}
use Rattle.btr_gate.specs.declared.chronicle.Chronicle.{Ghosts}
use Rattle.btr_gate.specs.declared.view.View.{View}
use Rattle.btr_gate.specs.declared.view.Stage.{Stage}
use Rattle.btr_gate.specs.declared.view.Stage.TheVariants.{Unopened, Placing, Idle, Waiting, InTurn, Met}
use Rattle.btr_gate.specs.declared.turn.Turn.{Turn}
use Rattle.btr_gate.specs.Prefixes.{StartsWith}
use Rattle.btr_gate.specs.Numbers.{one, total, times, given, Climbs}
use Rattle.btr_gate.specs.Shares.{on_path}
use Rattle.btr_gate.specs.Views.{is_turn, list_of, lent_of, turn_lent, with_entry, with_number, list_after, mine_after, carries_after}
use Rattle.btr_gate.specs.Turns.{IsStateOf, LentSince}
use Rattle.btr_gate.specs.Rule.{Now, HasTicket, FitsStage, IsLive, Fits, FitsSlot, IsInUse, Rule}
use Rattle.btr_gate.specs.Steps.{Counts, Passes, settled, holding}
use Rattle.btr_gate.specs.Seats.{MayLeave}
use Rattle.btr_gate.proofs.Totals.{set_same, total_set, total_part, total_parts}
use Rattle.btr_gate.proofs.NumberLemmas.{times_snoc, climbs_higher, climbs_snoc, given_more}
use Rattle.btr_gate.proofs.PrefixLemmas.{starts_refl, starts_more, starts_length, starts_whole}
use Rattle.btr_gate.proofs.RuleFacts.{in_use, live_at}
use Rattle.btr_gate.proofs.Places.{place_set, set_there, ticket_of, wait_stays}
use Rattle.btr_gate.proofs.Alone.{carries_one, carrier_lent}
use Rattle.btr_gate.proofs.TurnFacts.{turn_of, length_snoc, starts_snoc, carriers_after, carries_lent, one_at_most, not_true}

module _ {T E : Type 0} where
  abbrev turn_in : Turn T E → List (ℕ × Option (Turn T E)) → Turn T E
  turn_in d [] = d
  turn_in d ((k, None) ∷ out) = d
  turn_in d ((k, Some turn) ∷ out) = turn

  -- One turn is out with a pass.
  pub same_turn : (out : List (ℕ × Option (Turn T E))) (a b : Turn T E) → out ≡ holding (Some a) → out ≡ holding (Some b) → a ≡ b
  same_turn out a b p q = ap (turn_in a) (sym p ∙ q)

module _ {T E X : Type 0} (C : Ghosts T E X) (bounded : (t : T) (l : List E) (x : X) → C.is_state_of t l x → length l < 2 ^ 63)
    (lent_is : C.frozen ≡ false → (t : T) (l : List E) (x : X) → C.is_state_of t l x → C.lent t ≡ C.lent_after l) where
  abbrev St : Type 0
  St = State (Option (Turn T E)) (View E X)

  abbrev V : Type 0
  V = View E X

  -- What is known of the pass that has the turn, and of what it hands back.
  module _ (s : St) (k : IsInUse C s) (id : ℕ) (v : V) (at : get_elem? s.views id ≡ some v) (live : is_some v.setting ≡ true) (t : ℕ) (list : List E) (lent : Bool) (stage : v.stage ≡ InTurn t list lent)
      (turn : Turn T E) (may : MayLeave C v turn) where
    abbrev now : Now E X
    now = k.now

    l : IsLive C k.now id v
    l = live_at C s k id v at live

    fits : FitsStage C k.now id (InTurn t list lent)
    fits = subst (FitsStage C k.now id) stage l.stage

    abbrev next_list : List E
    next_list = list_after v turn.added

    abbrev lends : Bool
    lends = C.lent turn.state

    is_history : list_of v.stage ≡ k.now.history
    is_history = ap list_of stage ∙ fits.3

    was_lent : lent_of v.stage ≡ k.now.lending
    was_lent = ap lent_of stage ∙ fits.4

    -- The state is of the list after the turn.
    is_next : C.is_state_of turn.state next_list k.now.setting
    is_next = subst (IsStateOf C turn.state next_list) l.setting may.of

    small : length next_list < 2 ^ 63
    small = bounded turn.state next_list k.now.setting is_next

    -- The part is lent as the list shows, where that is asked.
    lent_next : C.frozen ≡ false → lends ≡ true → C.lent_after next_list ≡ true
    lent_next f e = sym (lent_is f turn.state next_list k.now.setting is_next) ∙ e

    -- Another pass has not the turn's ticket.
    not_serving : (j : ℕ) → j ≢ id → (n : ℕ) → k.now.owner n ≡ j → n ≢ k.now.serve
    not_serving j ne n own e = ne (sym own ∙ (ap k.now.owner (e ∙ sym fits.0) ∙ fits.2))

    no_other : (j : ℕ) (u : V) → j ≢ id → Fits C k.now j u → is_turn u.stage ≡ true → ⊥
    no_other j u ne (inl spent) e = true≢false (sym e ∙ ap (λ (x : V). is_turn x.stage) spent)
    no_other j u ne (inr r) e =
        let o = turn_of u.stage e in
        let f = subst (FitsStage C k.now j) o.3 r.stage in
        not_serving j ne o.0 f.2 f.0

    not_mine : (n : ℕ) → k.now.serve + 1 ≤ n → HasTicket v.stage n → ⊥
    not_mine n from h =
        let is : t ≡ n = subst (λ st. HasTicket st n) stage h in
        let at_turn = fits.0 in
        absurd (omega arith)

    -- If another pass carries the part, it was lent, and this one does not carry it.
    other_carries : (j : ℕ) (u : V) → j ≢ id → get_elem? s.views j ≡ some u → u.carries ≡ true → (turn_lent v ≡ true) × (v.carries ≡ false)
    other_carries j u ne there c = (
      was_lent ∙ carrier_lent C s k j u there c,
      not_true v.carries (λ d.
          let both = total_parts (λ (x : V). one x.carries) s.views id j v u ne at there in
          let here = carries_one v.carries d in
          let other = carries_one u.carries c in
          let all = k.carriers in
          let most = one_at_most k.now.lending in
          absurd (omega arith)),
    )

    carriers_next : (st : Stage E) → total (λ (x : V). one x.carries) (set s.views id (settled C v turn st)) ≡ one lends
    carriers_next st =
        carriers_after (total (λ (x : V). one x.carries) s.views) _ (lent_of v.stage) v.carries lends
        (total_set (λ (x : V). one x.carries) s.views id v (settled C v turn st) at)
        (k.carriers ∙ sym (ap one was_lent))
        (total_part (λ (x : V). one x.carries) s.views id v at)
        may.lent

    -- A carrier's list goes on to show that the part is lent.
    since_here : C.frozen ≡ false → carries_after v lends ≡ true → LentSince C next_list next_list
    since_here f c m p q =
        subst (λ z. C.lent_after z ≡ true) (starts_whole next_list m q (starts_length m next_list p)) (lent_next f (carries_lent lends (v.carries || not (lent_of v.stage)) c))

    -- The entry is counted.
    module _ (e : E) (adds : turn.added ≡ Some e) where
      grows : next_list ≡ k.now.history ++ e ∷ []
      grows = λ i. with_entry (is_history i) (adds i)

      one_more : length next_list ≡ length k.now.history + 1
      one_more = ap (λ z. length z) grows ∙ length_snoc k.now.history e

      abbrev counted_now : Now E X
      counted_now = record now { history = next_list; lending = lends }

      abbrev counted_view : V
      counted_view = settled C v turn (InTurn t next_list lends)

      starts_next : (a : List E) → StartsWith k.now.history a → StartsWith next_list a
      starts_next a p = subst (λ z. StartsWith z a) (sym grows) (starts_more k.now.history a (e ∷ []) p)

      stage_counted : (j : ℕ) → j ≢ id → (st : Stage E) → FitsStage C k.now j st → FitsStage C counted_now j st
      stage_counted j ne Unopened f = absurd f
      stage_counted j ne Placing f = absurd f
      stage_counted j ne Idle f = tt
      stage_counted j ne (Waiting n) f = f
      stage_counted j ne (InTurn n a b) f = absurd (not_serving j ne n f.2 f.0)
      stage_counted j ne (Met a b) f = (starts_next a f.0, starts_next b f.1)

      fits_counted : (j : ℕ) (u : V) → j ≢ id → get_elem? s.views j ≡ some u → Fits C k.now j u → Fits C counted_now j u
      fits_counted j u ne there (inl spent) = inl spent
      fits_counted j u ne there (inr r) = inr record {
        setting = r.setting;
        start = r.start;
        seen = starts_next u.seen r.seen;
        stage = stage_counted j ne u.stage r.stage;
        climbs = r.climbs;
        word = r.word;
        still = λ f c.
            let o = other_carries j u ne there c in
            absurd (true≢false (ap is_some (sym adds ∙ may.still f o.0 o.1)));
        since = λ f c m p q.
            let o = other_carries j u ne there c in
            ⊎_elim (λ old. r.since f c m p old) (λ whole. subst (λ z. C.lent_after z ≡ true) (grows ∙ whole) (lent_next f (may.lent o.0 o.1)))
            (starts_snoc k.now.history e m (subst (λ z. StartsWith z m) grows q));
      }

      mine_next : mine_after v turn.added ≡ v.mine ++ (length k.now.history + 1) ∷ []
      mine_next = λ i. with_number v.mine (is_history i) (adds i)

      live_counted : IsLive C counted_now id counted_view
      live_counted = let shorter = starts_length k.now.history v.seen l.seen in let began = k.began in record {
        setting = l.setting;
        start = l.start;
        seen = starts_refl next_list;
        stage = (fits.0, fits.1, fits.2, refl, refl);
        climbs = subst (λ (x : List ℕ × ℕ). Climbs k.now.start x.0 x.1) (λ i. (sym mine_next i, sym one_more i))
            (climbs_snoc k.now.start (length k.now.history) (length k.now.history + 1) v.mine began (omega arith) (climbs_higher k.now.start (length v.seen) (length k.now.history) v.mine shorter l.climbs));
        word = l.word;
        still = λ f c. refl;
        since = since_here;
      }

      numbers_next : (n : ℕ) → total (λ (x : V). times n x.mine) (set s.views id counted_view) ≡ given k.now.start (length next_list) n
      numbers_next n =
          let sum = total_set (λ (x : V). times n x.mine) s.views id v counted_view at in
          let had = k.numbers n in
          let mine = ap (times n) mine_next ∙ times_snoc n v.mine (length k.now.history + 1) in
          let more = ap (λ z. given k.now.start z n) one_more ∙ given_more k.now.start (length k.now.history) n k.began in
          omega arith

      count_kept : (found : ℕ) → found ≡ length k.now.history → IsInUse C record { words = set s.words 2 ((found + 1) % 18446744073709551616); homes = s.homes; views = set s.views id counted_view }
      count_kept found is = let below = small in let more = one_more in record {
        now = counted_now;
        slot = k.slot;
        words = ap (λ ws. set ws 2 ((found + 1) % 18446744073709551616)) k.words ∙ ap (λ n. k.now.tick ∷ k.now.serve ∷ n ∷ []) (omega arith);
        homes = k.homes;
        order = k.order;
        small = k.small;
        began = let began = k.began in omega arith;
        state = subst (FitsSlot C counted_now (set s.views id counted_view)) (sym (k.away id v at (ap is_turn stage)))
            (counted_view, subst (λ j. get_elem? (set s.views id counted_view) j ≡ some counted_view) (sym (ap k.now.owner (sym fits.0) ∙ fits.2)) (set_there s.views id v counted_view at), t, next_list, lends, refl);
        away = place_set (λ j (u : V). is_turn u.stage ≡ true → k.slot ≡ maybe.none) s.views id counted_view (λ _. k.away id v at (ap is_turn stage)) (λ j u ne there. k.away j u there);
        seats = place_set (Fits C counted_now) s.views id counted_view (inr live_counted) (λ j u ne there. fits_counted j u ne there (k.seats j u there));
        whole = (id, counted_view, set_there s.views id v counted_view at, l.setting, refl);
        waits = λ n from to. wait_stays C s.views id (k.now.owner n) n v counted_view at (λ h. subst (λ st. HasTicket st n) stage h) (k.waits n from to);
        numbers = numbers_next;
        paths = λ path. set_same (λ (u : V). on_path path u.share) s.views id v counted_view at refl ∙ k.paths path;
        carriers = carriers_next (InTurn t next_list lends);
      }

    -- The turn is passed on.
    module _ (none_added : turn.added ≡ None) where
      stays_list : next_list ≡ k.now.history
      stays_list = λ i. with_entry (is_history i) (none_added i)

      stays_mine : mine_after v turn.added ≡ v.mine
      stays_mine = λ i. with_number v.mine (is_history i) (none_added i)

      abbrev passed_now : Now E X
      passed_now = record now { serve = now.serve + 1; lending = lends }

      abbrev passed_view : V
      passed_view = settled C v turn Idle

      stage_passed : (j : ℕ) → j ≢ id → (st : Stage E) → FitsStage C k.now j st → FitsStage C passed_now j st
      stage_passed j ne Unopened f = absurd f
      stage_passed j ne Placing f = absurd f
      stage_passed j ne Idle f = tt
      stage_passed j ne (Waiting n) f = let other = not_serving j ne n f.2 in let from = f.0 in (omega arith, f.1, f.2)
      stage_passed j ne (InTurn n a b) f = absurd (not_serving j ne n f.2 f.0)
      stage_passed j ne (Met a b) f = f

      fits_passed : (j : ℕ) (u : V) → j ≢ id → Fits C k.now j u → Fits C passed_now j u
      fits_passed j u ne (inl spent) = inl spent
      fits_passed j u ne (inr r) = inr record {
        setting = r.setting;
        start = r.start;
        seen = r.seen;
        stage = stage_passed j ne u.stage r.stage;
        climbs = r.climbs;
        word = r.word;
        still = r.still;
        since = r.since;
      }

      live_passed : IsLive C passed_now id passed_view
      live_passed = let shorter = starts_length k.now.history v.seen l.seen in record {
        setting = l.setting;
        start = l.start;
        seen = subst (λ z. StartsWith z next_list) stays_list (starts_refl next_list);
        stage = tt;
        climbs = subst (λ (x : List ℕ × List E). Climbs k.now.start x.0 (length x.1)) (λ i. (sym stays_mine i, sym stays_list i))
            (climbs_higher k.now.start (length v.seen) (length k.now.history) v.mine shorter l.climbs);
        word = l.word;
        still = λ f c. sym stays_list;
        since = λ f c. subst (LentSince C next_list) stays_list (since_here f c);
      }

      pass_kept : (found : ℕ) → found ≡ k.now.serve → (out : List (ℕ × Option (Turn T E))) → out ≡ holding (Some turn)
          → IsInUse C record { words = set s.words 1 ((found + 1) % 18446744073709551616); homes = put_back s.homes out; views = set s.views id passed_view }
      pass_kept found is out has = let at_turn = fits.0 in let drawn = fits.1 in let tick = k.small in record {
        now = passed_now;
        slot = some (Some turn);
        words = ap (λ ws. set ws 1 ((found + 1) % 18446744073709551616)) k.words ∙ ap (λ n. k.now.tick ∷ n ∷ length k.now.history ∷ []) (omega arith);
        homes = (λ i. put_back (k.homes i) (has i));
        order = omega arith;
        small = k.small;
        began = k.began;
        state = (subst (λ z. C.is_state_of turn.state z k.now.setting) stays_list is_next, refl, none_added);
        away = place_set (λ j (u : V). is_turn u.stage ≡ true → some (Some turn) ≡ maybe.none) s.views id passed_view (λ e. absurd (true≢false (sym e))) (λ j u ne there e. absurd (no_other j u ne (k.seats j u there) e));
        seats = place_set (Fits C passed_now) s.views id passed_view (inr live_passed) (λ j u ne there. fits_passed j u ne (k.seats j u there));
        whole = (id, passed_view, set_there s.views id v passed_view at, l.setting, stays_list);
        waits = λ n from to. wait_stays C s.views id (k.now.owner n) n v passed_view at (λ h. absurd (not_mine n from h)) (k.waits n (omega arith) to);
        numbers = λ n. set_same (λ (u : V). times n u.mine) s.views id v passed_view at (ap (times n) stays_mine) ∙ k.numbers n;
        paths = λ path. set_same (λ (u : V). on_path path u.share) s.views id v passed_view at refl ∙ k.paths path;
        carriers = carriers_next Idle;
      }

  pub counts : (slots id : ℕ) (me : Me (Option (Turn T E)) V) (turn : Turn T E) (e : E) → is_some me.0.setting ≡ true → is_turn me.0.stage ≡ true → me.1 ≡ holding (Some turn) → turn.added ≡ Some e → MayLeave C me.0 turn
      → Allows (Rule C) slots id me 2 (λ n. (n + 1) % 2 ^ 64) (Counts C (step slots 2 1 0 none) me)
  counts slots id me turn e live in_turn has adds may s r len at fits_word =
      let k = in_use C s r id me.0 at live in
      let o = turn_of me.0.stage in_turn in
      let found : ℕ = get_or s.words 2 0 in
      let is : found ≡ length k.now.history = ap (λ ws. get_or ws 2 0) k.words in (
        settled C me.0 turn (InTurn o.0 (list_after me.0 turn.added) (C.lent turn.state)),
        keeps,
        tt,
        inr (count_kept s k id me.0 at live o.0 o.1 o.2 o.3 turn may e adds found is),
        λ t list lent other st has' i.
            let turns = same_turn me.1 turn other has has' in
            let tickets = ap ticket_of (sym o.3 ∙ st) in
            (settled C me.0 (turns i) (InTurn (tickets i) (list_after me.0 (turns i).added) (C.lent (turns i).state)), me.1),
      )

  pub passes : (slots id : ℕ) (me : Me (Option (Turn T E)) V) (turn : Turn T E) → is_some me.0.setting ≡ true → is_turn me.0.stage ≡ true → me.1 ≡ holding (Some turn) → turn.added ≡ None → MayLeave C me.0 turn
      → Allows (Rule C) slots id me 1 (λ n. (n + 1) % 2 ^ 64) (Passes C (step slots 1 1 0 none) me)
  passes slots id me turn live in_turn has none_added may s r len at fits_word =
      let k = in_use C s r id me.0 at live in
      let o = turn_of me.0.stage in_turn in
      let found : ℕ = get_or s.words 1 0 in
      let is : found ≡ k.now.serve = ap (λ ws. get_or ws 1 0) k.words in (
        settled C me.0 turn Idle,
        gives,
        tt,
        inr (pass_kept s k id me.0 at live o.0 o.1 o.2 o.3 turn may none_added found is me.1 has),
        λ other has' i.
            let turns = same_turn me.1 turn other has has' in
            (settled C me.0 (turns i) Idle, rest (has i)),
      )
