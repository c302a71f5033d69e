use Rattle.std.specs.Prelude.{◌≡◌, ◌≤◌, length, map}
use Rattle.std.proofs.lemmas.List.{length-map}
use Rattle.std.proofs.Common.{sym, ap, ◌∙◌, subst, arith}
use Rattle.btr_hist.specs.Legal.{first_some}
use Rattle.btr_streams.specs.Board.{Versions, Kept, specs_of}
use Rattle.btr_streams.specs.Readers.{AreReaders}
use Rattle.btr_streams.specs.Rolling.{rolled}
use Rattle.btr_streams.specs.Outline.{outline_in, held_by_in, held_in_all}
use Rattle.btr_streams.proofs.Holding.{asked-all, free-next, held-here, free-all}
use Rattle.btr_streams.proofs.board.Board.held.Goals.{In-Some}
use Rattle.btr_streams.proofs.board.Board.held.Goals as goal

-- What the readers of the stream tell is what all streams tell.
all : (c : In-Some) → first_some (map (held_by_in (outline_in (rolled c.args.self.now)) c.args.stream c.args.first) c.in-Some.readers.now) ≡ first_some (held_in_all c.args.stream c.args.first 0 (outline_in (rolled c.args.self.now)))
all c =
    let are = subst (λ (b : Kept). AreReaders (specs_of b.streams) c.self.inside.readers) c.self.view_is c.self.invariant.read in
    asked-all c.args.self.now c.self.inside.readers are c.args.stream c.args.first c.in-Some.readers.now c.requires.there c.in-Some.ensures

pub unreachable-requires : goal.unreachable-requires
unreachable-requires c =
    let same = ap (λ (b : Kept). length b.streams) c.self.view_is in
    let counted = c.self.invariant.read.counted in
    omega (arith, c.in_default.ensures, counted, length-map c.self.inside.streams (λ (v : Versions). v.spec), same, c.requires.there)

pub loop-place-preserved : goal.loop-place-preserved
loop-place-preserved c =
    free-next (outline_in (rolled c.args.self.now)) c.args.stream c.args.first c.in-Some.readers.now c.loop-place.place c.in-Some-get.output.now c.in-Some-get.ensures c.held_by_output-found.result c.held_by_output-found.ensures c.loop-place.invariant (sym c.is_some.ensures ∙ c.if-is_some.false)

pub returns-then-is_some : goal.returns-then-is_some
returns-then-is_some c =
    held-here (outline_in (rolled c.args.self.now)) c.args.stream c.args.first c.in-Some.readers.now c.loop-place.place c.in-Some-get.output.now c.in-Some-get.ensures c.held_by_output-found.result c.held_by_output-found.ensures c.loop-place.invariant (sym c.is_some.ensures ∙ c.if-is_some.true)
    ∙ all (goal.at.returns-then-is_some c).In-Some

pub returns : goal.returns
returns c =
    let past : length c.in-Some.readers.now ≤ c.loop-place.place = omega (arith, c.loop-place-test.false, c.len-place-end.ensures) in
    free-all (outline_in (rolled c.args.self.now)) c.args.stream c.args.first c.in-Some.readers.now c.loop-place.place past c.loop-place.invariant
    ∙ all (goal.at.returns c).In-Some
