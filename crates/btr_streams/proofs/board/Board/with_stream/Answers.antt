use Rattle.std.proofs.Common.{◌≡◌, ◌<◌, None, refl, sym, ap, subst, ◌∙◌, ◌++◌, [], ◌∷◌, ◌+◌, length}
use Rattle.std.specs.Prelude.{ℕ, IfSome}
use Rattle.std.proofs.lemmas.List.{length-map}
use Rattle.btr_streams.specs.Readers.{AreInputsBelow}
use Rattle.btr_base.specs.declared.limits.TheConstants.{MAX_STREAMS}
use Rattle.btr_board.specs.Numbers.{number_of}
use Rattle.btr_streams.specs.Board.{Versions, Kept, IsBoardOf, place_of, ids_of, specs_of}
use Rattle.btr_streams.proofs.BoardNext.{push-stream, formed-stream}
use Rattle.btr_streams.proofs.board.Board.with_stream.Goals as goal

pub invariant_of-result : goal.invariant_of-result
invariant_of-result c =
    let streams = c.self.inside.streams in
    let first = c.in_ok-first.ensures in
    let room = subst (λ (b : Kept). length b.streams < MAX_STREAMS) (sym c.self.view_is) c.requires.room in
    let fresh = subst (λ (b : Kept). place_of (ids_of b.streams) c.args.id ≡ None) (sym c.self.view_is) c.requires.fresh in
    formed-stream streams (number_of c.self.inside.numbers) c.self.invariant c.args.id c.args.spec first.0 (c.self.inside.entries + 1) (number_of c.in_ok-numbers.numbers) c.len-number.result c.in_ok-streams.streams c.in_ok-readers.readers first.1 room fresh c.requires.good (c.in_ok-streams.ensures ∙ ap (λ x. streams ++ x ∷ []) first.2) c.len-number.ensures c.in_ok-numbers.ensures (c.in_ok-readers.ensures (specs_of streams) c.self.invariant.read)

pub returns-clause-next : goal.returns-clause-next
returns-clause-next c h e of makes allowed =
    let was : IsBoardOf h (record { streams = c.self.inside.streams; entries = c.self.inside.entries }) = subst (IsBoardOf h) (sym c.self.view_is) of in
    let first = c.in_ok-first.ensures in
    push-stream h (record { streams = c.self.inside.streams; entries = c.self.inside.entries }) was e allowed c.args.id c.args.spec first.0 c.in_ok-streams.streams (c.self.inside.entries + 1) makes first.1 (c.in_ok-streams.ensures ∙ ap (λ x. c.self.inside.streams ++ x ∷ []) first.2) refl

pub with_stream_read-requires-clause-number : goal.with_stream_read-requires-clause-number
with_stream_read-requires-clause-number c =
    c.len-number.ensures ∙ sym (c.self.invariant.read.counted ∙ length-map c.self.inside.streams (λ (v : Versions). v.spec))

pub with_stream_read-requires-clause-inputs : goal.with_stream_read-requires-clause-inputs
with_stream_read-requires-clause-inputs c =
    let size : length c.args.self.now.streams ≡ length c.self.inside.readers = ap (λ (b : Kept). length b.streams) (sym c.self.view_is) ∙ sym (c.self.invariant.read.counted ∙ length-map c.self.inside.streams (λ (v : Versions). v.spec)) in
    subst (λ (n : ℕ). IfSome c.args.spec (AreInputsBelow n)) size c.requires.inputs
