-- The laws of the lines of lanes, which the ghost members of feeds cite: what is said is true for ever, and also of who had seen less.
use Rattle.std.specs.Prelude.{◌≡◌, ℕ, List, length, Option}
use Rattle.btr_hist.specs.declared.entry.Entry.{Entry}
use Rattle.btr_text.specs.declared.script.Line.{Line}
use Rattle.btr_text.specs.declared.reply.LineReply.{LineReply}
use Rattle.btr_gate.specs.Prefixes.{StartsWith}
use Rattle.btr_jobs.specs.States.{StoreState, LogState, GoesOn}
use Rattle.btr_hall.specs.declared.groups.Groups.{Ghosts}
use Rattle.btr_live.specs.declared.own_feeds.OwnFeeds.{OwnFeeds}
use Rattle.btr_live.specs.declared.shared_feeds.SharedFeeds.{SharedFeeds}
use Rattle.btr_live.specs.Lanes.{begun, RunsLine}
use Rattle.btr_live.specs.LaneLaws.{each_replied, lane_lasts, lane_lowers}
use Rattle.btr_live.specs.SharedLanes.{begun_shared, RunsSharedLine, RanInShared}
use Rattle.btr_live.specs.SharedLaws.{shared_lane_lasts, shared_lane_lowers}
use Rattle.btr_live.specs.Running.{RanInOwn}

-- ---- feeds of a lane alone

pub own_each : (start : StoreState) (log : LogState) (low : List Entry) (was now : OwnFeeds) (lines : List (Option Line))
    (replies : List LineReply) (own : List ℕ) → RanInOwn start log low was now lines replies own → length replies ≡ length lines
own_each start log low was now lines replies own is =
    each_replied (RunsLine was.batch start log) (begun low) lines replies own is.0 is.1

pub own_lasts : (start : StoreState) (late early : LogState) (low : List Entry) (was now : OwnFeeds) (lines : List (Option Line))
    (replies : List LineReply) (own : List ℕ)
    → GoesOn start late early → RanInOwn start early low was now lines replies own → RanInOwn start late low was now lines replies own
own_lasts start late early low was now lines replies own on is = lane_lasts start late early on was.batch low lines replies own is

pub own_lowers : (start : StoreState) (log : LogState) (low less : List Entry) (was now : OwnFeeds) (lines : List (Option Line))
    (replies : List LineReply) (own : List ℕ)
    → StartsWith low less → RanInOwn start log low was now lines replies own → RanInOwn start log less was now lines replies own
own_lowers start log low less was now lines replies own starts is = lane_lowers was.batch start log low less lines replies own starts is

-- ---- buffers that lanes share

module _ {G : Type 0} (ghosts : Ghosts G) where
  pub shared_each : (start : StoreState) (log : LogState) (low : List Entry) (was now : SharedFeeds G) (lines : List (Option Line))
      (replies : List LineReply) (own : List ℕ) → RanInShared ghosts start log low was now lines replies own → length replies ≡ length lines
  shared_each start log low was now lines replies own is =
      each_replied (RunsSharedLine (ghosts.has_group was.groups) (ghosts.threshold was.groups) start log)
      (begun_shared low (ghosts.view_at was.groups)) lines replies own is.0 is.1

  pub shared_lasts : (start : StoreState) (late early : LogState) (low : List Entry) (was now : SharedFeeds G) (lines : List (Option Line))
      (replies : List LineReply) (own : List ℕ) → GoesOn start late early
      → RanInShared ghosts start early low was now lines replies own → RanInShared ghosts start late low was now lines replies own
  shared_lasts start late early low was now lines replies own on is =
      shared_lane_lasts (ghosts.has_group was.groups) (ghosts.threshold was.groups) start late early on (ghosts.view_at was.groups)
      (ghosts.view_at now.groups) low lines replies own is

  pub shared_lowers : (start : StoreState) (log : LogState) (low less : List Entry) (was now : SharedFeeds G) (lines : List (Option Line))
      (replies : List LineReply) (own : List ℕ) → StartsWith low less
      → RanInShared ghosts start log low was now lines replies own → RanInShared ghosts start log less was now lines replies own
  shared_lowers start log low less was now lines replies own starts is =
      shared_lane_lowers (ghosts.has_group was.groups) (ghosts.threshold was.groups) start log (ghosts.view_at was.groups)
      (ghosts.view_at now.groups) low less lines replies own starts is
