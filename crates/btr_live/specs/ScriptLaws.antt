-- The laws of scripts: what holds of all lines that run one by one, if nobody else uses the store.
use Rattle.std.specs.Prelude.{◌≡◌, ℕ, List, Some}
use Rattle.btr_hist.specs.declared.kernel.Spec.{Spec}
use Rattle.btr_hist.specs.History.{stream_of, spec_of, latest, reads, latest_reads}
use Rattle.btr_hist.specs.Legal.{Legal}
use Rattle.btr_text.specs.declared.script.Line.TheVariants as lines
use Rattle.btr_text.specs.declared.script.ScriptLine.{ScriptLine}
use Rattle.btr_text.specs.declared.reply.LineReply.{LineReply}
use Rattle.btr_text.specs.declared.reply.LineReply.TheVariants.{Done}
use Rattle.btr_live.specs.Meaning.{Meaning}
use Rattle.btr_live.specs.Script.{State, RepliesToLine, RunsScript}

-- Lines keep a history legal, whatever is replied to them.
abbrev pub LinesKeepLegal : Type 0
LinesKeepLegal =
    (batch : ℕ) (s t : State) (lines : List ScriptLine) (replies : List LineReply) → RunsScript batch s lines replies t
    → Legal s.store.history → Legal t.store.history

-- A `refresh` that is done leaves its output at the latest versions of its inputs, as the store had them when the line ran, and its
-- reply is the output's version.
abbrev pub RefreshesAreCurrent : Type 0
RefreshesAreCurrent =
    (batch : ℕ) (s t : State) (id stream version : ℕ) (spec : Spec) (m : Meaning)
    → RepliesToLine batch s (Some (lines.Refresh id)) m (Done version) t
    → stream_of s.store.history id ≡ Some stream → spec_of s.store.history stream ≡ Some spec
    → (version ≡ latest t.store.history stream)
    × (reads t.store.history stream spec version ≡ latest_reads s.store.history spec)
