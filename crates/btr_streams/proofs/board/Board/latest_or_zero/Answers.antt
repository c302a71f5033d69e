use Rattle.std.specs.Prelude.{◌≡◌, length, slice_get, Some}
use Rattle.std.proofs.Common.{sym, ap, ◌∙◌, arith}
use Rattle.btr_board.specs.Numbers.{number_of}
use Rattle.btr_streams.specs.Board.{Versions, Kept}
use Rattle.btr_streams.proofs.BoardNext.{stream-grown}
use Rattle.btr_streams.proofs.RolledOutline.{latest-at}
use Rattle.btr_streams.proofs.board.Board.latest_or_zero.Goals.{In-Some}
use Rattle.btr_streams.proofs.board.Board.latest_or_zero.Goals as goal

pub returns-in-Some-clause-latest : goal.returns-in-Some-clause-latest
returns-in-Some-clause-latest c =
    let kept = c.in-Some.kept.now in
    let there : slice_get c.args.self.now.streams c.args.stream ≡ Some kept = ap (λ (b : Kept). slice_get b.streams c.args.stream) (sym c.self.view_is) ∙ c.in-Some.ensures in
    let size : c.len.result ≡ length kept.trees = c.len.ensures ∙ ap (λ (s : Versions). length s.trees) c.kept.view_is in
    let last = latest-at c.args.self.now c.args.stream kept there in
    omega (arith, size, last)

pub returns-in-Some-clause-few : goal.returns-in-Some-clause-few
returns-in-Some-clause-few c =
    let kept = c.in-Some.kept.now in
    let size : c.len.result ≡ length kept.trees = c.len.ensures ∙ ap (λ (s : Versions). length s.trees) c.kept.view_is in
    let grown = stream-grown c.self.inside.streams (number_of c.self.inside.numbers) c.self.invariant c.args.stream kept c.in-Some.ensures in
    omega (arith, size, grown.limited)
