use Rattle.std.specs.Prelude.{◌≡◌, ◌≤◌, length}
use Rattle.std.proofs.Common.{sym, ap, ◌∙◌, subst, arith}
use Rattle.std.proofs.lemmas.List.{get_or_past}
use Rattle.btr_board.specs.Numbers.{number_of}
use Rattle.btr_streams.specs.Board.{Kept}
use Rattle.btr_streams.specs.Rolling.{rolled}
use Rattle.btr_streams.specs.Outline.{Outlined, no_stream, stream_at, outline_in, held_in}
use Rattle.btr_streams.proofs.BoardNext.{kept-at}
use Rattle.btr_streams.proofs.RolledOutline.{length-rolled, at-rolled}
use Rattle.btr_streams.proofs.board.Board.held_by_output.Goals as goal

pub returns-in-Some : goal.returns-in-Some
returns-in-Some c =
    let at = kept-at c.self.inside.streams (number_of c.self.inside.numbers) c.self.invariant c.self.inside.entries c.args.self.now c.self.view_is c.args.output c.in-Some.kept.now c.in-Some.ensures in
    c.held_by.ensures at.1 ∙ ap (λ (x : Outlined). held_in c.args.stream c.args.first c.args.output x.spec x.reads) (sym (at-rolled c.args.self.now c.args.output c.in-Some.kept.now at.0))

pub returns-in-None : goal.returns-in-None
returns-in-None c =
    let past : length c.args.self.now.streams ≤ c.args.output = subst (λ (b : Kept). length b.streams ≤ c.args.output) c.self.view_is c.in-None.ensures in
    let o = outline_in (rolled c.args.self.now) in
    let none : stream_at o c.args.output ≡ no_stream = get_or_past o c.args.output no_stream (omega (arith, past, length-rolled c.args.self.now)) in
    ap (λ (x : Outlined). held_in c.args.stream c.args.first c.args.output x.spec x.reads) (sym none)
