-- Lemmas on the parts of a run: all lanes and rounds together.
use Rattle.std.specs.Prelude.{◌≡◌, ℕ, zero, suc, ◌+◌, ◌≤◌, ◌<◌, ◌==◌, true, false, cond, List, [], ◌∷◌, ◌++◌, length, map, slice_get, slice_index_or, Bool, Option, None, Some, option_map}
use Rattle.std.specs.Option.{is_some}
use Rattle.std.specs.declared.vec.Vec.{Vec}
use Rattle.std.specs.declared.alloc.Global.{Global}
use Rattle.std.proofs.Common.{refl, sym, ap, ap₂, ◌∙◌, subst, arith, get_or, set, take, drop}
use Rattle.std.proofs.lemmas.Bool.{eqb-true, eqb-false}
use Rattle.std.proofs.lemmas.List.{append-nil}
use Rattle.std.proofs.Math.Seq.{take-append_seam}
use Rattle.btr_board.proofs.ListLemmas.{set-same, set-other}
use Rattle.btr_text.specs.declared.script.Line.{Line}
use Rattle.btr_text.specs.declared.reply.LineReply.{LineReply}
use Rattle.btr_hist.specs.declared.entry.Entry.{Entry}
use Rattle.btr_gate.specs.Numbers.{one, total, times}
use Rattle.btr_gate.specs.Prefixes.{StartsWith}
use Rattle.btr_jobs.specs.States.{StoreState, LogState}
use Rattle.btr_jobs.specs.Jobs.{AllKeep, AllDid}
use Rattle.btr_live.specs.Lanes.{LinesRan, FedRan}
use Rattle.btr_live.specs.Rounds.{MakesRounds}
use Rattle.btr_live.specs.LinesOf.{LinesValue}
use Rattle.btr_live.specs.Running.{LaneDid}
use Rattle.btr_live.specs.declared.lane.Lane.{Lane}
use Rattle.btr_live.specs.declared.part.ScriptPart.{ScriptPart}
use Rattle.btr_live.specs.declared.part.ScriptPart.TheVariants as parts
use Rattle.btr_live.specs.declared.rounds.Rounds.{Rounds}
use Rattle.btr_text.specs.declared.script.ScriptLine.{ScriptLine}
use Rattle.btr_live.specs.OneHistory.{of_lane, lane_lines, IsParty}
use Rattle.btr_live.proofs.RoundLemmas.{no_rounds}
use Rattle.btr_live.specs.Parts.{PartDid, PartKeeps, HaveLimit, HasRounds, LaneDidAt, IsRunPrepared, AreLanesOf, parties_of, lane_in, lane_at, lines_in, lines_at, feeding_of, feeds_of, replies_of, replies_in, replies_at, rounds_part, work_lines, work_with, list_in, list_at}

-- All parts together: each lane ran, and the other numbers are those of parties, which made at most this many rounds.
pub record RanParts {F : Type 0} (ran : LinesRan F) (rounds : ℕ) (start : StoreState) (log : LogState) (low : List Entry) (before after : List (ScriptPart F)) (own : List ℕ) : Type 0 where
  pub mine : List (List ℕ)
  pub beside : List (List ℕ)
  pub lanes : (k : ℕ) → LaneDidAt ran start log low (lane_at before k) (lane_at after k) (slice_index_or mine k [])
  pub parties : (k : ℕ) → IsParty start log low rounds (slice_index_or beside k [])
  pub count : length beside ≡ parties_of before
  pub numbers : (n : ℕ) → times n own ≡ total (times n) mine + total (times n) beside

module _ {F : Type 0} (ran : LinesRan F) (rounds : ℕ) (start : StoreState) (log : LogState) (low : List Entry) (starts : StartsWith log.history low) where
  pub ran_parts : (before after : List (ScriptPart F)) (own : List ℕ) → HaveLimit rounds before → AllDid (PartDid ran) start log low before after own → RanParts ran rounds start log low before after own
  ran_parts [] [] own have did = record {
    mine = [];
    beside = [];
    lanes = λ k. refl;
    parties = λ k. no_rounds start rounds log low [] starts (λ n. refl);
    count = refl;
    numbers = λ n. did n;
  }
  ran_parts [] (p ∷ after) own have did = absurd did
  ran_parts (p ∷ before) [] own have did = absurd did
  ran_parts (parts.Lane was ∷ before) (parts.Lane now ∷ after) own have did =
      let rest : RanParts ran rounds start log low before after did.1 = ran_parts before after did.1 have.1 did.3 in
      let first : LaneDid ran start log low was now did.0 = did.2 in record {
        mine = did.0 ∷ rest.mine;
        beside = rest.beside;
        lanes = λ k. elim k as (λ k. LaneDidAt ran start log low (lane_at (parts.Lane was ∷ before) k) (lane_at (parts.Lane now ∷ after) k) (slice_index_or (did.0 ∷ rest.mine) k [])) [
          | zero ↦ first
          | suc k ↦ rest.lanes k
        ];
        parties = rest.parties;
        count = let more = rest.count in omega (arith, more);
        numbers = λ n.
            let sum = did.4 n in
            let more = rest.numbers n in
            omega (arith, sum, more);
      }
  ran_parts (parts.Lane was ∷ before) (parts.Rounds now ∷ after) own have did = absurd did.2
  ran_parts (parts.Rounds was ∷ before) (parts.Lane now ∷ after) own have did = absurd did.2
  ran_parts (parts.Rounds was ∷ before) (parts.Rounds now ∷ after) own have did =
      let rest : RanParts ran rounds start log low before after did.1 = ran_parts before after did.1 have.1 did.3 in
      let party : IsParty start log low rounds did.0 = subst (λ r. MakesRounds start r low log did.0) have.0 did.2 in record {
        mine = [] ∷ rest.mine;
        beside = did.0 ∷ rest.beside;
        lanes = λ k. elim k as (λ k. LaneDidAt ran start log low (lane_at (parts.Rounds was ∷ before) k) (lane_at (parts.Rounds now ∷ after) k) (slice_index_or ([] ∷ rest.mine) k [])) [
          | zero ↦ refl
          | suc k ↦ rest.lanes k
        ];
        parties = λ k. elim k as (λ k. IsParty start log low rounds (slice_index_or (did.0 ∷ rest.beside) k [])) [
          | zero ↦ party
          | suc k ↦ rest.parties k
        ];
        count = let more = rest.count in omega (arith, more);
        numbers = λ n.
            let sum = did.4 n in
            let more = rest.numbers n in
            omega (arith, sum, more);
      }

  -- What a lane did in its place, by what feeds it.
  pub did_fed : (was now : Option (Lane F)) (own : List ℕ) → LaneDidAt ran start log low was now own → FedRan ran start log low (option_map (λ (l : Lane F). l.feeding) was) (option_map (λ (l : Lane F). l.feeding) now) (lines_in was) (replies_in now) own
  did_fed None None own did = (refl, refl, did)
  did_fed None (Some now) own did = absurd did
  did_fed (Some was) None own did = absurd did
  did_fed (Some was) (Some now) own did = did

-- ---- before a run

-- The rounds alone.
limit_alone : (F : Type 0) (count : ℕ) (materialize : Bool) (rounds : Option Rounds) → HasRounds count materialize rounds → HaveLimit count (rounds_part {F = F} rounds)
limit_alone F count materialize None has = tt
limit_alone F count materialize (Some r) has = (has.limit, tt)

party_alone : (F : Type 0) (rounds : Option Rounds) → parties_of (rounds_part {F = F} rounds) ≡ one (is_some rounds)
party_alone F None = refl
party_alone F (Some r) = refl

module _ {F : Type 0} where
  -- Each lane has the feeds and the lines in its place, and the rounds are no lane.
  pub lanes_feeds : (fs : List F) (ws : List LinesValue) (rounds : Option Rounds) (all : List (ScriptPart F)) → AreLanesOf fs ws rounds all → (k : ℕ) → option_map (λ (l : Lane F). l.feeding) (lane_at all k) ≡ slice_get fs k
  lanes_feeds [] [] None all are k = ap (λ ps. option_map (λ (l : Lane F). l.feeding) (lane_at ps k)) are
  lanes_feeds [] [] (Some rounds) all are zero = ap (λ ps. option_map (λ (l : Lane F). l.feeding) (lane_at ps zero)) are
  lanes_feeds [] [] (Some rounds) all are (suc k) = ap (λ ps. option_map (λ (l : Lane F). l.feeding) (lane_at ps (suc k))) are
  lanes_feeds [] (w ∷ ws) rounds all are k = absurd are
  lanes_feeds (f ∷ fs) [] rounds all are k = absurd are
  lanes_feeds (f ∷ fs) (w ∷ ws) rounds [] are k = absurd are
  lanes_feeds (f ∷ fs) (w ∷ ws) rounds (parts.Rounds r ∷ all) are k = absurd are
  lanes_feeds (f ∷ fs) (w ∷ ws) rounds (parts.Lane lane ∷ all) are zero = ap Some are.0
  lanes_feeds (f ∷ fs) (w ∷ ws) rounds (parts.Lane lane ∷ all) are (suc k) = lanes_feeds fs ws rounds all are.2 k

  pub lanes_lines : (fs : List F) (ws : List LinesValue) (rounds : Option Rounds) (all : List (ScriptPart F)) → AreLanesOf fs ws rounds all → (k : ℕ) → lines_at all k ≡ work_lines (slice_get ws k)
  lanes_lines [] [] None all are k = ap (λ ps. lines_at ps k) are
  lanes_lines [] [] (Some rounds) all are zero = ap (λ ps. lines_at ps zero) are
  lanes_lines [] [] (Some rounds) all are (suc k) = ap (λ ps. lines_at ps (suc k)) are
  lanes_lines [] (w ∷ ws) rounds all are k = absurd are
  lanes_lines (f ∷ fs) [] rounds all are k = absurd are
  lanes_lines (f ∷ fs) (w ∷ ws) rounds [] are k = absurd are
  lanes_lines (f ∷ fs) (w ∷ ws) rounds (parts.Rounds r ∷ all) are k = absurd are
  lanes_lines (f ∷ fs) (w ∷ ws) rounds (parts.Lane lane ∷ all) are zero = ap (λ (w : LinesValue). w.lines) are.1
  lanes_lines (f ∷ fs) (w ∷ ws) rounds (parts.Lane lane ∷ all) are (suc k) = lanes_lines fs ws rounds all are.2 k

  pub lanes_limit : (count : ℕ) (materialize : Bool) (fs : List F) (ws : List LinesValue) (rounds : Option Rounds) (all : List (ScriptPart F)) → HasRounds count materialize rounds → AreLanesOf fs ws rounds all → HaveLimit count all
  lanes_limit count materialize [] [] rounds all has are = subst (HaveLimit count) (sym are) (limit_alone F count materialize rounds has)
  lanes_limit count materialize [] (w ∷ ws) rounds all has are = absurd are
  lanes_limit count materialize (f ∷ fs) [] rounds all has are = absurd are
  lanes_limit count materialize (f ∷ fs) (w ∷ ws) rounds [] has are = absurd are
  lanes_limit count materialize (f ∷ fs) (w ∷ ws) rounds (parts.Rounds r ∷ all) has are = absurd are
  lanes_limit count materialize (f ∷ fs) (w ∷ ws) rounds (parts.Lane lane ∷ all) has are = (tt, lanes_limit count materialize fs ws rounds all has are.2)

  -- Lanes are no parties.
  pub lanes_parties : (fs : List F) (ws : List LinesValue) (rounds : Option Rounds) (all : List (ScriptPart F)) → AreLanesOf fs ws rounds all → parties_of all ≡ one (is_some rounds)
  lanes_parties [] [] rounds all are = ap (λ ps. parties_of ps) are ∙ party_alone F rounds
  lanes_parties [] (w ∷ ws) rounds all are = absurd are
  lanes_parties (f ∷ fs) [] rounds all are = absurd are
  lanes_parties (f ∷ fs) (w ∷ ws) rounds [] are = absurd are
  lanes_parties (f ∷ fs) (w ∷ ws) rounds (parts.Rounds r ∷ all) are = absurd are
  lanes_parties (f ∷ fs) (w ∷ ws) rounds (parts.Lane lane ∷ all) are = let more = lanes_parties fs ws rounds all are.2 in omega (arith, more)

  -- One lane more.
  pub lanes_push : (fs : List F) (ws : List LinesValue) (all : List (ScriptPart F)) (lane : Lane F) (f : F) (w : LinesValue) → AreLanesOf fs ws None all → lane.feeding ≡ f → lane.work ≡ w → AreLanesOf (fs ++ f ∷ []) (ws ++ w ∷ []) None (all ++ parts.Lane lane ∷ [])
  lanes_push [] [] all lane f w are feeding work = subst (λ ps. AreLanesOf (f ∷ []) (w ∷ []) None (ps ++ parts.Lane lane ∷ [])) (sym are) (feeding, work, refl)
  lanes_push [] (v ∷ ws) all lane f w are feeding work = absurd are
  lanes_push (g ∷ fs) [] all lane f w are feeding work = absurd are
  lanes_push (g ∷ fs) (v ∷ ws) [] lane f w are feeding work = absurd are
  lanes_push (g ∷ fs) (v ∷ ws) (parts.Rounds r ∷ all) lane f w are feeding work = absurd are
  lanes_push (g ∷ fs) (v ∷ ws) (parts.Lane l ∷ all) lane f w are feeding work = (are.0, are.1, lanes_push fs ws all lane f w are.2 feeding work)

  -- The rounds come last.
  pub lanes_rounds : (fs : List F) (ws : List LinesValue) (all : List (ScriptPart F)) (rounds : Rounds) → AreLanesOf fs ws None all → AreLanesOf fs ws (Some rounds) (all ++ parts.Rounds rounds ∷ [])
  lanes_rounds [] [] all rounds are = ap (λ ps. ps ++ parts.Rounds rounds ∷ []) are
  lanes_rounds [] (v ∷ ws) all rounds are = absurd are
  lanes_rounds (g ∷ fs) [] all rounds are = absurd are
  lanes_rounds (g ∷ fs) (v ∷ ws) [] rounds are = absurd are
  lanes_rounds (g ∷ fs) (v ∷ ws) (parts.Rounds r ∷ all) rounds are = absurd are
  lanes_rounds (g ∷ fs) (v ∷ ws) (parts.Lane l ∷ all) rounds are = (are.0, are.1, lanes_rounds fs ws all rounds are.2)

  -- The numbers of parts of a run that was prepared.
  pub lanes_long : (fs : List F) (ws : List LinesValue) (all : List (ScriptPart F)) → AreLanesOf fs ws None all → length all ≡ length fs
  lanes_long [] [] all are = ap (λ ps. length ps) are
  lanes_long [] (w ∷ ws) all are = absurd are
  lanes_long (f ∷ fs) [] all are = absurd are
  lanes_long (f ∷ fs) (w ∷ ws) [] are = absurd are
  lanes_long (f ∷ fs) (w ∷ ws) (parts.Rounds r ∷ all) are = absurd are
  lanes_long (f ∷ fs) (w ∷ ws) (parts.Lane l ∷ all) are = ap suc (lanes_long fs ws all are.2)

  -- The run is prepared.
  pub prepared_run : (materialize : Bool) (script : List ScriptLine) (fs : List F) (ws : List LinesValue) (rounds : Option Rounds) (all : List (ScriptPart F)) → ((k : ℕ) → work_lines (slice_get ws k) ≡ lane_lines k script) → HasRounds (length script) materialize rounds → AreLanesOf fs ws rounds all → IsRunPrepared fs materialize script all
  prepared_run materialize script fs ws rounds all lines has are = record {
    feeds_are = lanes_feeds fs ws rounds all are;
    lines = λ k. lanes_lines fs ws rounds all are k ∙ lines k;
    limit = lanes_limit (length script) materialize fs ws rounds all has are;
    parties = lanes_parties fs ws rounds all are ∙ ap one has.wanted;
  }

  -- ---- after a run

  -- What feeds the lanes, in order.
  pub lanes_fed : (fs : List F) (ws : List LinesValue) (rounds : Option Rounds) (all : List (ScriptPart F)) → AreLanesOf fs ws rounds all → feeds_of all ≡ fs
  lanes_fed [] [] None all are = ap (λ ps. feeds_of ps) are
  lanes_fed [] [] (Some r) all are = ap (λ ps. feeds_of ps) are
  lanes_fed [] (w ∷ ws) rounds all are = absurd are
  lanes_fed (f ∷ fs) [] rounds all are = absurd are
  lanes_fed (f ∷ fs) (w ∷ ws) rounds [] are = absurd are
  lanes_fed (f ∷ fs) (w ∷ ws) rounds (parts.Rounds r ∷ all) are = absurd are
  lanes_fed (f ∷ fs) (w ∷ ws) rounds (parts.Lane lane ∷ all) are = ap₂ (λ (x : F) (l : List F). x ∷ l) are.0 (lanes_fed fs ws rounds all are.2)

  -- What feeds the lanes goes with what fed them before.
  pub feeds_keep : (keeps : F → F → Type 0) (before after : List (ScriptPart F)) → AllKeep (PartKeeps keeps) before after → AllKeep keeps (feeds_of before) (feeds_of after)
  feeds_keep keeps [] [] keep = tt
  feeds_keep keeps [] (now ∷ after) keep = absurd keep
  feeds_keep keeps (was ∷ before) [] keep = absurd keep
  feeds_keep keeps (parts.Lane was ∷ before) (parts.Lane now ∷ after) keep = (keep.0, feeds_keep keeps before after keep.1)
  feeds_keep keeps (parts.Lane was ∷ before) (parts.Rounds now ∷ after) keep = absurd keep.0
  feeds_keep keeps (parts.Rounds was ∷ before) (parts.Lane now ∷ after) keep = absurd keep.0
  feeds_keep keeps (parts.Rounds was ∷ before) (parts.Rounds now ∷ after) keep = feeds_keep keeps before after keep.1

  -- The rounds, if there are any, are the last part.
  abbrev RoundsLast : List (ScriptPart F) → Type 0
  RoundsLast [] = Unit {0}
  RoundsLast (parts.Lane lane ∷ all) = RoundsLast all
  RoundsLast (parts.Rounds r ∷ all) = all ≡ []

  lanes_last : (fs : List F) (ws : List LinesValue) (rounds : Option Rounds) (all : List (ScriptPart F)) → AreLanesOf fs ws rounds all → RoundsLast all
  lanes_last [] [] None all are = subst (λ ps. RoundsLast ps) (sym are) tt
  lanes_last [] [] (Some r) all are = subst (λ ps. RoundsLast ps) (sym are) refl
  lanes_last [] (w ∷ ws) rounds all are = absurd are
  lanes_last (f ∷ fs) [] rounds all are = absurd are
  lanes_last (f ∷ fs) (w ∷ ws) rounds [] are = absurd are
  lanes_last (f ∷ fs) (w ∷ ws) rounds (parts.Rounds r ∷ all) are = absurd are
  lanes_last (f ∷ fs) (w ∷ ws) rounds (parts.Lane lane ∷ all) are = lanes_last fs ws rounds all are.2

  last_after : (keeps : F → F → Type 0) (before after : List (ScriptPart F)) → AllKeep (PartKeeps keeps) before after → RoundsLast before → RoundsLast after
  last_after keeps [] [] keep last = tt
  last_after keeps [] (now ∷ after) keep last = absurd keep
  last_after keeps (was ∷ before) [] keep last = absurd keep
  last_after keeps (parts.Lane was ∷ before) (parts.Lane now ∷ after) keep last = last_after keeps before after keep.1 last
  last_after keeps (parts.Lane was ∷ before) (parts.Rounds now ∷ after) keep last = absurd keep.0
  last_after keeps (parts.Rounds was ∷ before) (parts.Lane now ∷ after) keep last = absurd keep.0
  last_after keeps (parts.Rounds was ∷ before) (parts.Rounds now ∷ []) keep last = refl
  last_after keeps (parts.Rounds was ∷ before) (parts.Rounds now ∷ p ∷ after) keep last =
      absurd (subst (λ ps. AllKeep (PartKeeps keeps) ps (p ∷ after)) last keep.1)

  -- What feeds the lanes is in their places, since the rounds are the last part.
  fed_at : (all : List (ScriptPart F)) → RoundsLast all → (k : ℕ) → option_map (λ (l : Lane F). l.feeding) (lane_at all k) ≡ slice_get (feeds_of all) k
  fed_at [] last k = refl
  fed_at (parts.Lane lane ∷ all) last zero = refl
  fed_at (parts.Lane lane ∷ all) last (suc k) = fed_at all last k
  fed_at (parts.Rounds r ∷ []) last zero = refl
  fed_at (parts.Rounds r ∷ []) last (suc k) = refl
  fed_at (parts.Rounds r ∷ p ∷ all) last k = absurd (cc)

  -- So it is after a run.
  pub fed_after : (keeps : F → F → Type 0) (fs : List F) (ws : List LinesValue) (rounds : Option Rounds) (before after : List (ScriptPart F)) → AreLanesOf fs ws rounds before → AllKeep (PartKeeps keeps) before after → (k : ℕ) → option_map (λ (l : Lane F). l.feeding) (lane_at after k) ≡ slice_get (feeds_of after) k
  fed_after keeps fs ws rounds before after are keep = fed_at after (last_after keeps before after keep (lanes_last fs ws rounds before are))

-- As many feeds as before.
pub keep_length : {A : Type 0} (keeps : A → A → Type 0) (before after : List A) → AllKeep keeps before after → length after ≡ length before
keep_length keeps [] [] keep = refl
keep_length keeps [] (now ∷ after) keep = absurd keep
keep_length keeps (was ∷ before) [] keep = absurd keep
keep_length keeps (was ∷ before) (now ∷ after) keep = ap suc (keep_length keeps before after keep.1)

-- A list that was lent whole comes back whole.
pub lent_whole : {A : Type 0} (xs ys : List A) (n : ℕ) → length xs ≡ length ys → n ≡ length ys → take n (xs ++ drop (length xs) ys) ≡ xs
lent_whole xs ys n same all =
    ap (λ k. take k (xs ++ drop (length xs) ys)) (all ∙ sym same) ∙ take-append_seam xs (drop (length xs) ys)

-- What is in a vector whose parts ran, and of which the replies were then taken.
module _ {F : Type 0} (keeps : F → F → Type 0) (fs : List F) (ws : List LinesValue) (rounds : Option Rounds) (before after left whole : List (ScriptPart F)) (n : ℕ) (are : AreLanesOf fs ws rounds before) (keep : AllKeep (PartKeeps keeps) before after) (as_many : length after ≡ length before) (same : feeds_of left ≡ feeds_of after) (long : length left ≡ length after) (lent : before ≡ whole) (all : n ≡ length whole) where
  pub back_feeds : feeds_of (take n (left ++ drop (length left) whole)) ≡ feeds_of after
  back_feeds = ap (λ ps. feeds_of ps) (lent_whole left whole n (long ∙ as_many ∙ ap length lent) all) ∙ same

  pub back_keeps : AllKeep keeps fs (feeds_of after)
  back_keeps = subst (λ l. AllKeep keeps l (feeds_of after)) (lanes_fed fs ws rounds before are) (feeds_keep keeps before after keep)

  pub back_length : length (feeds_of (take n (left ++ drop (length left) whole))) ≡ length fs
  back_length = ap length back_feeds ∙ keep_length keeps fs (feeds_of after) back_keeps

-- ---- one place of a list

module _ {F : Type 0} where
  -- A part that has replies is there.
  pub replies-there : (all : List (ScriptPart F)) (k : ℕ) → 1 ≤ length (replies_at all k) → k < length all
  replies-there [] k some = absurd (omega (arith, some))
  replies-there (part ∷ all) zero some = omega arith
  replies-there (part ∷ all) (suc k) some = let more = replies-there all k some in omega (arith, more)

  pub replies-place : (all : List (ScriptPart F)) (k : ℕ) (d : ScriptPart F) → k < length all → replies_at all k ≡ replies_of (get_or all k d)
  replies-place [] k d low = absurd (omega (arith, low))
  replies-place (part ∷ all) zero d low = refl
  replies-place (part ∷ all) (suc k) d low = replies-place all k d (omega (arith, low))

  -- One part has given a reply.
  pub replies-reported : (all : List (ScriptPart F)) (lane : ℕ) (now : ScriptPart F) (reply : LineReply) → lane < length all → replies_at all lane ≡ reply ∷ replies_of now → (k : ℕ) → replies_at all k ≡ of_lane k (lane ∷ []) (reply ∷ []) ++ replies_at (set all lane now) k
  replies-reported all lane now reply low is k =
      elim (lane == k) as (λ t. (lane == k) ≡ t → replies_at all k ≡ cond t (reply ∷ []) [] ++ replies_at (set all lane now) k) [
        | true ↦ λ e.
            let same : lane ≡ k = eqb-true lane k e in
            subst (λ j. replies_at all j ≡ (reply ∷ []) ++ replies_at (set all lane now) j) same
            (is ∙ ap (λ rs. reply ∷ rs) (sym (ap (λ o. replies_in (lane_in o)) (set-same all lane now low))))
        | false ↦ λ e. sym (ap (λ o. replies_in (lane_in o)) (set-other all lane now k (λ same. eqb-false lane k e (sym same))))
      ] refl

  -- What feeds the parts is as before if it is as before in one place, and the other parts are as before.
  pub feeds-set : (all : List (ScriptPart F)) (lane : ℕ) (d now : ScriptPart F) → lane < length all → feeding_of now ≡ feeding_of (get_or all lane d) → feeds_of (set all lane now) ≡ feeds_of all
  feeds-set [] lane d now low same = absurd (omega (arith, low))
  feeds-set (parts.Lane was ∷ all) zero d (parts.Lane now) low same = ap (λ f. f ∷ feeds_of all) (some_same now.feeding was.feeding same)
    where
      some_same : (f g : F) → Some f ≡ Some g → f ≡ g
      some_same f g is = cc
  feeds-set (parts.Lane was ∷ all) zero d (parts.Rounds now) low same = absurd (cc)
  feeds-set (parts.Rounds was ∷ all) zero d (parts.Lane now) low same = absurd (cc)
  feeds-set (parts.Rounds was ∷ all) zero d (parts.Rounds now) low same = refl
  feeds-set (parts.Lane was ∷ all) (suc k) d now low same = ap (λ fs. was.feeding ∷ fs) (feeds-set all k d now (omega (arith, low)) same)
  feeds-set (parts.Rounds was ∷ all) (suc k) d now low same = feeds-set all k d now (omega (arith, low)) same

-- One list has one line more.
pub list-put : (lists : List (Vec (Option Line) Global)) (lane : ℕ) (now : Vec (Option Line) Global) (line : Option Line) → lane < length lists → now.items ≡ list_at lists lane ++ line ∷ [] → (k : ℕ) → list_at (set lists lane now) k ≡ list_at lists k ++ of_lane k (lane ∷ []) (line ∷ [])
list-put lists lane now line low is k =
    elim (lane == k) as (λ t. (lane == k) ≡ t → list_at (set lists lane now) k ≡ list_at lists k ++ cond t (line ∷ []) []) [
      | true ↦ λ e.
          let same : lane ≡ k = eqb-true lane k e in
          subst (λ j. list_at (set lists lane now) j ≡ list_at lists j ++ line ∷ []) same
          (ap list_in (set-same lists lane now low) ∙ is)
      | false ↦ λ e. ap list_in (set-other lists lane now k (λ same. eqb-false lane k e (sym same))) ∙ sym (append-nil (list_at lists k))
    ] refl

pub list-place : (lists : List (Vec (Option Line) Global)) (k : ℕ) (d : Vec (Option Line) Global) → k < length lists → list_at lists k ≡ (get_or lists k d).items
list-place [] k d low = absurd (omega (arith, low))
list-place (list ∷ lists) zero d low = refl
list-place (list ∷ lists) (suc k) d low = list-place lists k d (omega (arith, low))

-- The lines of the lists are those of the lanes.
pub works-lines : (lists : List (Vec (Option Line) Global)) (k : ℕ) → work_lines (slice_get (map work_with lists) k) ≡ list_at lists k
works-lines [] k = refl
works-lines (list ∷ lists) zero = refl
works-lines (list ∷ lists) (suc k) = works-lines lists k
