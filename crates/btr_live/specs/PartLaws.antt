-- The laws of parts as jobs.
use Rattle.std.specs.Prelude.{ℕ, List, Option}
use Rattle.btr_text.specs.declared.script.Line.{Line}
use Rattle.btr_text.specs.declared.reply.LineReply.{LineReply}
use Rattle.btr_hist.specs.declared.entry.Entry.{Entry}
use Rattle.btr_gate.specs.Prefixes.{StartsWith}
use Rattle.btr_jobs.specs.States.{StoreState, LogState, GoesOn}
use Rattle.btr_live.specs.declared.part.ScriptPart.{ScriptPart}
use Rattle.btr_live.specs.declared.part.ScriptPart.TheVariants as parts
use Rattle.btr_live.specs.RoundsLaws.{rounds_did_lasts, rounds_did_lowers}
use Rattle.btr_live.specs.Lanes.{LinesRan}
use Rattle.btr_live.specs.Parts.{PartDid}

module _ {F : Type 0} (ran : LinesRan F) where
  -- What a part did is true for ever, if it is so of the lines of a lane.
  pub part_did_lasts : ((start : StoreState) (late early : LogState) (low : List Entry) (was now : F) (lines : List (Option Line))
      (replies : List LineReply) (own : List ℕ)
      → GoesOn start late early → ran start early low was now lines replies own → ran start late low was now lines replies own)
      → (start : StoreState) (late early : LogState) (low : List Entry) (was now : ScriptPart F) (own : List ℕ)
      → GoesOn start late early → PartDid ran start early low was now own → PartDid ran start late low was now own
  part_did_lasts lasts start late early low (parts.Lane was) (parts.Lane now) own on is =
      lasts start late early low was.feeding now.feeding was.work.lines now.work.replies own on is
  part_did_lasts lasts start late early low (parts.Lane was) (parts.Rounds now) own on is = absurd is
  part_did_lasts lasts start late early low (parts.Rounds was) (parts.Lane now) own on is = absurd is
  part_did_lasts lasts start late early low (parts.Rounds was) (parts.Rounds now) own on is =
      rounds_did_lasts start late early low was now own on is

  -- It is true of a part that had seen less, if it is so of the lines of a lane.
  pub part_did_lowers : ((start : StoreState) (log : LogState) (low less : List Entry) (was now : F) (lines : List (Option Line))
      (replies : List LineReply) (own : List ℕ)
      → StartsWith low less → ran start log low was now lines replies own → ran start log less was now lines replies own)
      → (start : StoreState) (log : LogState) (low less : List Entry) (was now : ScriptPart F) (own : List ℕ)
      → StartsWith low less → PartDid ran start log low was now own → PartDid ran start log less was now own
  part_did_lowers lowers start log low less (parts.Lane was) (parts.Lane now) own starts is =
      lowers start log low less was.feeding now.feeding was.work.lines now.work.replies own starts is
  part_did_lowers lowers start log low less (parts.Lane was) (parts.Rounds now) own starts is = absurd is
  part_did_lowers lowers start log low less (parts.Rounds was) (parts.Lane now) own starts is = absurd is
  part_did_lowers lowers start log low less (parts.Rounds was) (parts.Rounds now) own starts is =
      rounds_did_lowers start log low less was now own starts is
