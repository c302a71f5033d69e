-- The laws of lanes with shared buffers: what is said is true for ever, and also of who had seen less.
use Rattle.std.specs.Prelude.{◌≡◌, ℕ, Bool, List, [], ◌∷◌, Option}
use Rattle.std.proofs.Common.{refl, sym, ap, ◌∙◌, inl, inr}
use Rattle.btr_hist.specs.declared.entry.Entry.{Entry}
use Rattle.btr_text.specs.declared.script.Line.{Line}
use Rattle.btr_text.specs.declared.reply.LineReply.{LineReply}
use Rattle.btr_gate.specs.Prefixes.{StartsWith}
use Rattle.btr_gate.proofs.PrefixLemmas.{starts_trans}
use Rattle.btr_jobs.specs.States.{StoreState, LogState, GoesOn}
use Rattle.btr_jobs.specs.TurnLaws.{history_later}
use Rattle.btr_live.specs.LaneLaws.{each_implied, line_lasts, line_lowers, knowing}
use Rattle.btr_live.specs.SharedLines.{Views}
use Rattle.btr_live.specs.SharedLanes.{SharedState, begun_shared, RunsSharedLine, RunsSharedLines, RunsSharedLane}

module _ (has : ℕ → Bool) (threshold : ℕ) (start : StoreState) (late early : LogState) (on : GoesOn start late early) where
  -- What a line replied is true for ever.
  pub shared_line_lasts : (old : SharedState) (line : Option Line) (reply : LineReply) (own : List ℕ) (new : SharedState)
      → RunsSharedLine has threshold start early old line reply own new → RunsSharedLine has threshold start late old line reply own new
  shared_line_lasts old line reply own new (inl is) = inl (record {
    at = record {
      after = is.at.after;
      begins = history_later start late early new.lane.history on is.at.begins;
      asked = is.at.asked;
      means = is.at.means;
      shares = is.at.shares;
      none = is.at.none;
    };
    saw_failure = is.saw_failure;
    waiting = is.waiting;
  })
  shared_line_lasts old line reply own new (inr is) = inr (record {
    other = is.other;
    runs = line_lasts start late early on 1 old.lane line reply own new.lane is.runs;
    views = is.views;
  })

  -- So is what the lines of a lane replied.
  pub shared_lines_last : (old : SharedState) (lines : List (Option Line)) (replies : List LineReply) (own : List ℕ) (new : SharedState)
      → RunsSharedLines has threshold start early old lines replies own new
      → RunsSharedLines has threshold start late old lines replies own new
  shared_lines_last =
      each_implied (RunsSharedLine has threshold start early) (RunsSharedLine has threshold start late) shared_line_lasts

  -- So is what a lane did.
  pub shared_lane_lasts : (olds news : Views) (low : List Entry) (lines : List (Option Line)) (replies : List LineReply) (own : List ℕ)
      → RunsSharedLane has threshold olds news start early low lines replies own
      → RunsSharedLane has threshold olds news start late low lines replies own
  shared_lane_lasts olds news low lines replies own is =
      (is.0, shared_lines_last (begun_shared low olds) lines replies own is.0 is.1, is.2)

-- A lane between two lines that knows another history.
abbrev knowing_shared : SharedState → List Entry → SharedState
knowing_shared s h = record { lane = knowing s.lane h; views = s.views }

module _ (has : ℕ → Bool) (threshold : ℕ) (start : StoreState) (log : LogState) where
  -- What a line replied is true of a lane that had seen less.
  pub shared_line_lowers : (old : SharedState) (less : List Entry) (line : Option Line) (reply : LineReply) (own : List ℕ)
      (new : SharedState) → StartsWith old.lane.history less → RunsSharedLine has threshold start log old line reply own new
      → RunsSharedLine has threshold start log (knowing_shared old less) line reply own new
  shared_line_lowers old less line reply own new starts (inl is) = inl (record {
    at = record {
      after = starts_trans new.lane.history old.lane.history less is.at.after starts;
      begins = is.at.begins;
      asked = is.at.asked;
      means = is.at.means;
      shares = is.at.shares;
      none = is.at.none;
    };
    saw_failure = is.saw_failure;
    waiting = is.waiting;
  })
  shared_line_lowers old less line reply own new starts (inr is) = inr (record {
    other = is.other;
    runs = line_lowers 1 start log old.lane less line reply own new.lane starts is.runs;
    views = is.views;
  })

  -- So is what a lane did.
  pub shared_lane_lowers : (olds news : Views) (low less : List Entry) (lines : List (Option Line)) (replies : List LineReply)
      (own : List ℕ) → StartsWith low less → RunsSharedLane has threshold olds news start log low lines replies own
      → RunsSharedLane has threshold olds news start log less lines replies own
  shared_lane_lowers olds news low less [] [] own starts is = (begun_shared less olds, (is.1.0, refl), views_of is.0 is.1.1 is.2)
    where
      views_of : (last : SharedState) → last ≡ begun_shared low olds → last.views ≡ news → olds ≡ news
      views_of last same views = sym (ap (λ (s : SharedState). s.views) same) ∙ views
  shared_lane_lowers olds news low less [] (reply ∷ replies) own starts is = absurd is.1
  shared_lane_lowers olds news low less (line ∷ lines) [] own starts is = absurd is.1
  shared_lane_lowers olds news low less (line ∷ lines) (reply ∷ replies) own starts is = (
    is.0,
    (is.1.0, is.1.1, is.1.2, is.1.3, shared_line_lowers (begun_shared low olds) less line reply is.1.0 is.1.2 starts is.1.4, is.1.5),
    is.2,
  )
