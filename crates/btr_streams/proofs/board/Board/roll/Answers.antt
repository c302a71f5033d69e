use Rattle.std.proofs.Common.{◌≡◌, ◌≤◌, length, take, ◌+◌, sym, ap, ◌∙◌, arith, subst}
use Rattle.std.proofs.lemmas.List.{take_all, length-map}
use Rattle.btr_board.specs.Numbers.{number_of}
use Rattle.btr_roll.specs.Roll.{IsRollWithinBounds}
use Rattle.btr_streams.specs.Board.{Kept}
use Rattle.btr_streams.specs.Rolling.{kept_stream, rolled}
use Rattle.btr_streams.proofs.RollingLemmas.{streams-push, rolled-bounds}
use Rattle.btr_streams.proofs.board.Board.roll.Goals as goal

pub loop-place-preserved : goal.loop-place-preserved
loop-place-preserved c =
    let b : Kept = record { streams = c.self.inside.streams; entries = c.self.inside.entries } in
    let same : c.args.self.now ≡ b = sym c.self.view_is in
    let were = c.loop-place.invariant ∙ ap (λ (x : Kept). take c.loop-place.place (rolled x)) same in
    streams-push b c.loop-place.place c.in-Some.kept.now c.loop-place.streams.items c.push.new.self.items c.in_ok-roll_stream.field-0 c.in-Some.ensures c.in_ok-roll_stream.ensures were c.in_ok-push.ensures.items
    ∙ ap (λ (x : Kept). take (c.loop-place.place + 1) (rolled x)) c.self.view_is

pub returns-clause-bounds : goal.returns-clause-bounds
returns-clause-bounds c =
    let b : Kept = record { streams = c.self.inside.streams; entries = c.self.inside.entries } in
    let past : length (rolled b) ≤ c.loop-place.place = omega (arith, c.loop-place-test.false, c.len-place-end.ensures, length-map c.self.inside.streams kept_stream) in
    let are : c.loop-place.streams.items ≡ rolled b =
    c.loop-place.invariant ∙ ap (λ (x : Kept). take c.loop-place.place (rolled x)) (sym c.self.view_is) ∙ take_all c.loop-place.place (rolled b) past in
    subst IsRollWithinBounds (sym are) (rolled-bounds b (number_of c.self.inside.numbers) c.self.invariant)
