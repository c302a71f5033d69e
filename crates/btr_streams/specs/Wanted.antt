-- What the test of a question comes to: the answer for what is wanted or for a refusal, and which versions may be read.
use Rattle.std.specs.Prelude.{ℕ, ◌^◌, ◌<◌, ◌≤◌, List, length, Result, Ok, Err}
use Rattle.btr_base.specs.declared.limits.TheConstants.{FIRST, END}
use Rattle.btr_base.specs.Agg.{agg_within}
use Rattle.btr_base.specs.Bag.{within}
use Rattle.btr_base.specs.Nearest.{nearest}
use Rattle.btr_base.specs.Windows.{aligned, windows}
use Rattle.btr_base.specs.Changes.{changes}
use Rattle.btr_hist.specs.declared.entry.Entry.{Entry}
use Rattle.btr_hist.specs.declared.answer.Answer.{Answer}
use Rattle.btr_hist.specs.declared.answer.Answer.TheVariants.{Found, Refused}
use Rattle.btr_hist.specs.declared.answer.Refusal.{Refusal}
use Rattle.btr_hist.specs.declared.answer.Rows.TheVariants.{Points, Cells, Ranges, Info, Streams}
use Rattle.btr_hist.specs.History.{ids, bag}
use Rattle.btr_hist.specs.Answer.{list_of, rows_from}
use Rattle.btr_streams.specs.declared.asking.Wanted.{Wanted}
use Rattle.btr_streams.specs.declared.asking.Wanted.TheVariants as want

-- The answer that has what is wanted of a history.
abbrev pub answer_to : List Entry → Wanted → Answer
answer_to h (want.Points stream version range) = Found version (Points (within range.from range.to (bag h stream version)))
answer_to h (want.Nearest stream version time way) = Found version (Points (list_of (nearest way time (bag h stream version))))
answer_to h (want.Aligned stream version range p) = Found version (Cells (aligned p range.from range.to (bag h stream version)))
answer_to h (want.Windows stream version range width) = Found version (Cells (windows width range.from range.to (bag h stream version)))
answer_to h (want.Changes stream old new p) = Found new (Ranges (changes p (bag h stream old) (bag h stream new)))
answer_to h (want.Info stream version output reads) =
    Found version (Info output (agg_within FIRST END (bag h stream version)) reads)
answer_to h want.Streams = Found (length h) (Streams (rows_from h 0 (ids h)))

-- The answer after the test of a question: the one that has what is wanted, or the refusal.
abbrev pub answer_of_test : List Entry → Result Wanted Refusal → Answer
answer_of_test h (Ok wanted) = answer_to h wanted
answer_of_test h (Err refusal) = Refused refusal

-- The streams have the versions that are wanted, if they have these numbers of versions, with version 0. The other numbers are good, and
-- the first of two versions is not the later one.
abbrev pub MayBeRead : (ℕ → ℕ) → Wanted → Type 0
MayBeRead versions (want.Points stream version range) = version < versions stream
MayBeRead versions (want.Nearest stream version time way) = version < versions stream
MayBeRead versions (want.Aligned stream version range p) = (version < versions stream) × (p ≤ 62)
MayBeRead versions (want.Windows stream version range width) = (version < versions stream) × (1 ≤ width) × (width ≤ 2 ^ 62)
MayBeRead versions (want.Changes stream old new p) = (new < versions stream) × (old ≤ new) × (p ≤ 62)
MayBeRead versions (want.Info stream version output reads) = version < versions stream
MayBeRead versions want.Streams = Unit {0}
