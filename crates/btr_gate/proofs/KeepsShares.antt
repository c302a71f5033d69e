-- A split, a meeting and the look after it keep the rule of a gate.
use Rattle.std.proofs.Common.{◌≡◌, ◌≢◌, ℕ, zero, suc, ◌+◌, ◌<◌, ◌≤◌, Bool, true, false, Option, is_some, List, [], ◌∷◌, ◌++◌, length, set, inl, inr, ⊎_elim, refl, sym, ap, ◌∙◌, subst, true≢false, arith, length-append}
use mathlib.Core.Logic.{dite}
use mathlib.Core.Option as maybe
use mathlib.Core.Option.{some, some-injective, some-ne-none}
use native.Mathlib.Decide.{ℕ_discrete}
use lib.ListN.{get_elem?}
use lib.Seq.{set-get_or}
use Rattle.atomic_table.specs.Table.{State, Me, step, keeps, Allows, Splits, Joins}
use Rattle.atomic_table.proofs.Lists.{at_set, at_snoc, set_else, set_here, at_longer}
use Rattle.btr_gate.specs.declared.chronicle.Chronicle.{Ghosts}
use Rattle.btr_gate.specs.declared.view.View.{View}
use Rattle.btr_gate.specs.declared.view.Stage.{Stage}
use Rattle.btr_gate.specs.declared.view.Stage.TheVariants.{Idle, Met}
use Rattle.btr_gate.specs.declared.turn.Turn.{Turn}
use Rattle.btr_gate.specs.Prefixes.{StartsWith}
use Rattle.btr_gate.specs.Turns.{HaveOneHistory}
use Rattle.btr_gate.specs.Numbers.{one, total, times}
use Rattle.btr_gate.specs.Shares.{on_path}
use Rattle.btr_gate.specs.Views.{is_turn, spent_view, kept_view, other_view, just_met, at_stage}
use Rattle.btr_gate.specs.Rule.{Now, HasTicket, Fits, FitsStage, IsLive, IsWhole, IsInUse, Rule}
use Rattle.btr_gate.specs.Steps.{Seated, Settles}
use Rattle.btr_gate.proofs.Totals.{cut_same, two_same, set_same, total_parts}
use Rattle.btr_gate.proofs.ShareLemmas.{on_path_halves, on_path_append, length_halves}
use Rattle.btr_gate.proofs.NumberLemmas.{times_merged, climbs_merged, climbs_higher, given_once}
use Rattle.btr_gate.proofs.PrefixLemmas.{longer_starts, longer_first, longer_second, longer_whole, starts_length}
use Rattle.btr_gate.proofs.Places.{place_set, whole_stays}
use Rattle.btr_gate.proofs.RuleFacts.{same_view, Stays, Away, stays_set, stays_snoc, idle_free, in_use, live_at, live_stage, slot_stays, waits_stay, away_set, away_snoc}

-- A place where a view was read is one of the list.
at_below : {V : Type 0} (views : List V) (i : ℕ) (v : V) → get_elem? views i ≡ some v → i < length views
at_below [] i v e = absurd (some-ne-none v (sym e))
at_below (x ∷ xs) zero v e = omega arith
at_below (x ∷ xs) (suc i) v e = let h = at_below xs i v e in omega arith

module _ {T E X : Type 0} where
  -- What the join leaves says which lists met.
  pub met_stage : (v u : View E X) (out : List (ℕ × Option (Turn T E))) (met : Seated T E X) → met ≡ (just_met v u, out) → met.0.stage ≡ Met v.seen u.seen
  met_stage v u out met is = ap (λ (m : Seated T E X). m.0.stage) is

  -- After the look, the pass is in one history with what it and the other had seen.
  pub one_history : (v u : View E X) (out : List (ℕ × Option (Turn T E))) (found slots : ℕ) (met after : Seated T E X) → met ≡ (just_met v u, out) → Settles (step slots 0 0 0 maybe.none) met found after → HaveOneHistory v u after.0
  one_history v u out found slots met after is reported =
      let t = reported v.seen u.seen (met_stage v u out met is) in
      let h = t.1 in
      let e = ap (λ (m : Seated T E X). m.0.seen) t.0 ∙ ap (λ (m : Seated T E X). m.0.seen) is in record {
        this = subst (λ (l : List E). StartsWith l v.seen) (sym e) (longer_first h.0 v.seen u.seen h.1 h.2);
        that = subst (λ (l : List E). StartsWith l u.seen) (sym e) (longer_second h.0 v.seen u.seen h.1 h.2);
      }

module _ {T E X : Type 0} (C : Ghosts T E X) where
  abbrev V : Type 0
  V = View E X

  abbrev St : Type 0
  St = State (Option (Turn T E)) V

  module _ (now : Now E X) where
    -- What is left of a pass after a split is live.
    kept_live : (j : ℕ) (v : V) → IsLive C now j v → IsLive C now j (kept_view v)
    kept_live j v l = let w = l.word in record {
      setting = l.setting;
      start = l.start;
      seen = l.seen;
      stage = l.stage;
      climbs = l.climbs;
      word = omega (arith, length_halves false v.share);
      still = l.still;
      since = l.since;
    }

    -- The new pass of a split is live.
    other_live : (i j : ℕ) (v : V) → v.stage ≡ Idle → IsLive C now i v → IsLive C now j (other_view v)
    other_live i j v idle l = let w = l.word in record {
      setting = l.setting;
      start = l.start;
      seen = l.seen;
      stage = subst (FitsStage C now j) (sym idle) tt;
      climbs = tt;
      word = omega (arith, length_halves true v.share);
      still = l.still;
      since = l.since;
    }

    -- A pass that met another is live.
    met_live : (i j : ℕ) (v u : V) → v.carries ≡ false → ((n : ℕ) → times n v.mine + times n u.mine ≤ 1) → IsLive C now i v → IsLive C now j u → IsLive C now i (just_met v u)
    met_live i j v u home once l m =
        let w = l.word in
        let both = longer_starts now.history v.seen u.seen l.seen m.seen in
        let low = starts_length (just_met v u).seen v.seen (longer_first now.history v.seen u.seen l.seen m.seen) in
        let up = starts_length (just_met v u).seen u.seen (longer_second now.history v.seen u.seen l.seen m.seen) in record {
          setting = l.setting;
          start = l.start;
          seen = both;
          stage = (l.seen, m.seen);
          climbs = climbs_merged now.start (length (just_met v u).seen) v.mine u.mine
              (climbs_higher now.start (length v.seen) (length (just_met v u).seen) v.mine low l.climbs)
              (climbs_higher now.start (length u.seen) (length (just_met v u).seen) u.mine up m.climbs) once;
          word = omega (arith, length-append v.share u.share);
          still = λ _ carries. absurd (true≢false (sym carries ∙ home));
          since = λ _ carries. absurd (true≢false (sym carries ∙ home));
        }

  -- The views after a step that changes views alone: each view with a ticket stays where it was, each view fits, some view
  -- has seen all, and all views together hold the same numbers, paths and part.
  record ViewsFit (s : St) (r : IsInUse C s) (later : List V) : Type 0 where
    stays : Stays s.views later
    away : Away r.slot later
    seats : (j : ℕ) (v : V) → get_elem? later j ≡ some v → Fits C r.now j v
    whole : IsWhole r.now later
    numbers : (n : ℕ) → total (λ (x : V). times n x.mine) later ≡ total (λ (x : V). times n x.mine) s.views
    paths : (path : ℕ → Bool) → total (λ (x : V). on_path path x.share) later ≡ total (λ (x : V). on_path path x.share) s.views
    carriers : total (λ (x : V). one x.carries) later ≡ total (λ (x : V). one x.carries) s.views

  -- A gate stays in use after a step that changes views alone.
  views_change : (s : St) (r : IsInUse C s) (later : List V) → ViewsFit s r later → IsInUse C record { words = s.words; homes = s.homes; views = later }
  views_change s r later f = record {
    now = r.now;
    slot = r.slot;
    words = r.words;
    homes = r.homes;
    order = r.order;
    small = r.small;
    began = r.began;
    state = slot_stays C r.now s.views later f.stays r.slot r.state;
    away = f.away;
    seats = f.seats;
    whole = f.whole;
    waits = waits_stay C r.now s.views later f.stays r.waits;
    numbers = λ n. f.numbers n ∙ r.numbers n;
    paths = λ path. f.paths path ∙ r.paths path;
    carriers = f.carriers ∙ r.carriers;
  }

  -- A split keeps the rule.
  pub splits : (id : ℕ) (v : V) → is_some v.setting ≡ true → v.stage ≡ Idle → v.carries ≡ false → Splits (Rule C) id v (kept_view v) (other_view v)
  splits id v live idle home s rule at =
      let r = in_use C s rule id v at live in
      let l = live_at C s r id v at live in
      let now = r.now in
      let later : List V = set s.views id (kept_view v) ++ other_view v ∷ [] in
      let stays : Stays s.views later = stays_snoc s.views (set s.views id (kept_view v)) (other_view v) (stays_set s.views id v (kept_view v) at (idle_free v.stage idle)) in
      let whole = r.whole in inr (views_change s r later record {
        stays = stays;
        away = away_snoc r.slot (set s.views id (kept_view v)) (other_view v) (ap is_turn idle) (away_set r.slot s.views id (kept_view v) (ap is_turn idle) r.away);
        seats = λ j e here. ⊎_elim
            (λ old. ⊎_elim
            (λ (t : (j ≡ id) × (kept_view v ≡ e)). subst (Fits C now j) t.1 (inr (subst (λ (k : ℕ). IsLive C now k (kept_view v)) (sym t.0) (kept_live now id v l))))
            (λ (t : (j ≢ id) × (get_elem? s.views j ≡ some e)). r.seats j e t.1)
            (at_set s.views id j (kept_view v) e old))
            (λ (new : other_view v ≡ e). subst (Fits C now j) new (inr (other_live now id j v idle l)))
            (at_snoc (set s.views id (kept_view v)) (other_view v) e j here);
        whole = dite (ℕ_discrete whole.0 id)
            (λ same. let is = same_view s.views id whole.0 whole.1 v same at whole.2 in (
              id,
              kept_view v,
              at_longer (set s.views id (kept_view v)) (other_view v ∷ []) id (kept_view v) (set_here s.views id (kept_view v) (at_below s.views id v at)),
              l.setting,
              sym (ap (λ (x : V). x.seen) is) ∙ whole.4,
            ))
            (λ other. (whole.0, whole.1, at_longer (set s.views id (kept_view v)) (other_view v ∷ []) whole.0 whole.1 (set_else s.views id whole.0 (kept_view v) other ∙ whole.2), whole.3, whole.4));
        numbers = λ n. cut_same (λ (x : V). times n x.mine) s.views id v (kept_view v) (other_view v) at (omega arith);
        paths = λ path. cut_same (λ (x : V). on_path path x.share) s.views id v (kept_view v) (other_view v) at (on_path_halves path v.share);
        carriers = cut_same (λ (x : V). one x.carries) s.views id v (kept_view v) (other_view v) at (let none : one v.carries ≡ 0 = ap one home in omega arith);
      })

  -- A meeting keeps the rule.
  pub joins : (id : ℕ) (v : V) (other : ℕ) (u : V) → is_some v.setting ≡ true → is_some u.setting ≡ true → v.stage ≡ Idle → u.stage ≡ Idle → v.carries ≡ false → u.carries ≡ false
      → Joins (Rule C) id v other u (just_met v u) spent_view
  joins id v other u live live' idle idle' home home' s rule at apart there =
      let r = in_use C s rule id v at live in
      let l = live_at C s r id v at live in
      let now = r.now in
      let both : V = just_met v u in
      let middle : List V = set s.views id both in
      let later : List V = set middle other spent_view in
      let at' : get_elem? s.views other ≡ some u = sym (set_else s.views id other both apart) ∙ there in
      let m = live_at C s r other u at' live' in
      let first : Stays s.views middle = stays_set s.views id v both at (idle_free v.stage idle) in
      let second : Stays middle later = stays_set middle other u spent_view there (idle_free u.stage idle') in
      let stays : Stays s.views later = λ j x n here has. second j x n (first j x n here has) has in
      let once : (n : ℕ) → times n v.mine + times n u.mine ≤ 1 = λ n.
      let p = total_parts (λ (x : V). times n x.mine) s.views id other v u apart at at' in
      let q = r.numbers n in
      let g = given_once now.start (length now.history) n in omega arith in
      let here : get_elem? later id ≡ some both = set_else middle other id spent_view (λ e. apart (sym e)) ∙ set_here s.views id both (at_below s.views id v at) in
      let whole = r.whole in inr (views_change s r later record {
        stays = stays;
        away = away_set r.slot middle other spent_view refl (away_set r.slot s.views id both refl r.away);
        seats = λ j e there'. ⊎_elim
            (λ (t : (j ≡ other) × (spent_view ≡ e)). inl (sym t.1))
            (λ (t : (j ≢ other) × (get_elem? middle j ≡ some e)). ⊎_elim
            (λ (t : (j ≡ id) × (both ≡ e)). subst (Fits C now j) t.1 (inr (subst (λ (k : ℕ). IsLive C now k both) (sym t.0) (met_live now id other v u home once l m))))
            (λ (t : (j ≢ id) × (get_elem? s.views j ≡ some e)). r.seats j e t.1)
            (at_set s.views id j both e t.1))
            (at_set middle other j spent_view e there');
        whole = dite (ℕ_discrete whole.0 id)
            (λ same. let is = same_view s.views id whole.0 whole.1 v same at whole.2 in
            (id, both, here, l.setting, longer_whole now.history v.seen u.seen l.seen m.seen (inl (sym (ap (λ (x : V). x.seen) is) ∙ whole.4))))
            (λ not_id. dite (ℕ_discrete whole.0 other)
            (λ same. let is = same_view s.views other whole.0 whole.1 u same at' whole.2 in
            (id, both, here, l.setting, longer_whole now.history v.seen u.seen l.seen m.seen (inr (sym (ap (λ (x : V). x.seen) is) ∙ whole.4))))
            (λ not_other. (whole.0, whole.1, set_else middle other whole.0 spent_view not_other ∙ (set_else s.views id whole.0 both not_id ∙ whole.2), whole.3, whole.4)));
        numbers = λ n. two_same (λ (x : V). times n x.mine) s.views id other v both u spent_view at there (omega (arith, times_merged n v.mine u.mine));
        paths = λ path. two_same (λ (x : V). on_path path x.share) s.views id other v both u spent_view at there (omega (arith, on_path_append path v.share u.share));
        carriers = two_same (λ (x : V). one x.carries) s.views id other v both u spent_view at there (let none : one u.carries ≡ 0 = ap one home' in omega arith);
      })

  -- The look after a meeting keeps the rule, and both lists begin the history.
  pub settles : (slots id : ℕ) (me : Me (Option (Turn T E)) V) (a b : List E) → is_some me.0.setting ≡ true → me.0.stage ≡ Met a b
      → Allows (Rule C) slots id me 0 (λ x. x) (Settles (step slots 0 0 0 maybe.none) me)
  settles slots id me a b live met s rule _ at _ =
      let v : V = me.0 in
      let w : V = at_stage v Idle in
      let r = in_use C s rule id v at live in
      let l = live_at C s r id v at live in
      let now = r.now in
      let later : List V = set s.views id w in
      let free : (n : ℕ) → HasTicket v.stage n → ⊥ = λ n has. subst (λ (x : Stage E). HasTicket x n) met has in
      let stays : Stays s.views later = stays_set s.views id v w at free in (
        w,
        keeps,
        tt,
        subst (λ (ws : List ℕ). Rule C record { words = ws; homes = s.homes; views = later }) (sym (set-get_or s.words 0 0)) (inr (views_change s r later record {
          stays = stays;
          away = away_set r.slot s.views id w refl r.away;
          seats = place_set (Fits C now) s.views id w (inr (live_stage C now id v v.turns Idle l tt)) (λ j u other here. r.seats j u here);
          whole = whole_stays C now s.views id v w at refl refl r.whole;
          numbers = λ n. set_same (λ (x : V). times n x.mine) s.views id v w at refl;
          paths = λ path. set_same (λ (x : V). on_path path x.share) s.views id v w at refl;
          carriers = set_same (λ (x : V). one x.carries) s.views id v w at refl;
        })),
        λ c d is. let begin = subst (FitsStage C now id) is l.stage in (refl, (now.history, begin.0, begin.1)),
      )
