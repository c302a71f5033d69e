use Rattle.std.proofs.Common.{◌≡◌, ◌+◌, Some, refl, sym, ap, subst, ◌∙◌}
use Rattle.std.specs.Prelude.{slice_get, slice_set}
use Rattle.btr_board.specs.Numbers.{number_of}
use Rattle.btr_streams.specs.Board.{Kept, IsBoardOf}
use Rattle.btr_streams.proofs.BoardNext.{push-version, formed-version}
use Rattle.btr_streams.proofs.board.Board.with_version.Goals as goal

pub invariant_of-result : goal.invariant_of-result
invariant_of-result c =
    let there : slice_get c.self.inside.streams c.args.place ≡ Some c.args.kept.now = ap (λ (b : Kept). slice_get b.streams c.args.place) c.self.view_is ∙ c.requires.there in
    let set = c.in_ok-streams.ensures ∙ ap (slice_set c.self.inside.streams c.args.place) c.in_ok-next.ensures in
    formed-version c.self.inside.streams (number_of c.self.inside.numbers) c.self.invariant c.args.place c.args.kept.now c.args.tree c.args.read (c.self.inside.entries + 1) (number_of c.in_ok-numbers.numbers) c.in_ok-streams.streams c.in_ok-readers.readers there c.requires.room c.requires.grown c.requires.of_kind set
    (λ id. ap (λ m. number_of m id) c.in_ok-numbers.ensures) c.in_ok-readers.ensures

pub returns-clause-next : goal.returns-clause-next
returns-clause-next c h e of next =
    let fields : Kept = record { streams = c.self.inside.streams; entries = c.self.inside.entries } in
    let was : IsBoardOf h fields = subst (IsBoardOf h) (sym c.self.view_is) of in
    let there : slice_get c.self.inside.streams c.args.place ≡ Some c.args.kept.now = ap (λ (b : Kept). slice_get b.streams c.args.place) c.self.view_is ∙ c.requires.there in
    let set = c.in_ok-streams.ensures ∙ ap (slice_set c.self.inside.streams c.args.place) c.in_ok-next.ensures in
    push-version h fields was e next.allowed c.args.place next.change_made c.args.read c.args.kept.now c.args.tree c.in_ok-streams.streams (c.self.inside.entries + 1) next.makes c.requires.of_kind next.tree there set refl
