use Rattle.std.proofs.Common.{◌≡◌, true, false, length, refl, sym, ap, ◌∙◌, arith}
use Rattle.std.specs.Prelude.{nat_le, nat_eq, is_some}
use Rattle.std.specs.List.{list_any}
use Rattle.std.proofs.lemmas.Bool.{le-leb, lt-leb}
use Rattle.btr_base.specs.declared.limits.TheConstants.{MAX_STREAMS}
use Rattle.btr_streams.specs.Board.{Kept, place_of, ids_of}
use Rattle.btr_streams.specs.Rolling.{rolled}
use Rattle.btr_streams.specs.Outline.{ids_in, outline_in}
use Rattle.btr_streams.proofs.BoardStreamLemmas.{place-any, none_from}
use Rattle.btr_streams.proofs.RolledOutline.{ids-rolled, length-rolled, creation-refused}
use Rattle.btr_streams.proofs.board.Board.create_rejection.Goals.{After-is_some}
use Rattle.btr_streams.proofs.board.Board.create_rejection.Goals as goal

-- The place of the id, if it has a stream.
place : (c : After-is_some) → c.find.result ≡ place_of (ids_of c.args.self.now.streams) c.args.id
place c =
    c.find.ensures ∙ c.self.invariant.numbered c.args.id ∙ ap (λ (b : Kept). place_of (ids_of b.streams) c.args.id) c.self.view_is

-- The id is found exactly if the outline has it.
any : (c : After-is_some) → list_any (nat_eq c.args.id) (ids_in (outline_in (rolled c.args.self.now))) ≡ c.is_some.result
any c =
    let ids = ids_in (outline_in (rolled c.args.self.now)) in
    sym (place-any ids c.args.id) ∙ ap is_some (sym (place c ∙ ap (λ l. place_of l c.args.id) (sym (ids-rolled c.args.self.now.streams)))) ∙ sym c.is_some.ensures

pub returns-then-is_some-clause-rolled : goal.returns-then-is_some-clause-rolled
returns-then-is_some-clause-rolled c =
    let o = outline_in (rolled c.args.self.now) in
    creation-refused o c.args.id true (nat_le MAX_STREAMS (length o)) (any (goal.at.returns-then-is_some-clause-rolled c).After-is_some ∙ c.if-is_some.true) refl

pub returns-then-len-ge-MAX_STREAMS-clause-rolled : goal.returns-then-len-ge-MAX_STREAMS-clause-rolled
returns-then-len-ge-MAX_STREAMS-clause-rolled c =
    let o = outline_in (rolled c.args.self.now) in
    let size : length c.self.inside.streams ≡ length o = ap (λ (b : Kept). length b.streams) c.self.view_is ∙ sym (length-rolled c.args.self.now) in
    creation-refused o c.args.id false true (any (goal.at.returns-then-len-ge-MAX_STREAMS-clause-rolled c).After-is_some ∙ c.if-is_some.false)
    (le-leb MAX_STREAMS (length o) (omega (arith, c.if-len-ge-MAX_STREAMS.true, c.len.ensures, size)))

pub returns-clause-rolled : goal.returns-clause-rolled
returns-clause-rolled c =
    let o = outline_in (rolled c.args.self.now) in
    let size : length c.self.inside.streams ≡ length o = ap (λ (b : Kept). length b.streams) c.self.view_is ∙ sym (length-rolled c.args.self.now) in
    creation-refused o c.args.id false false (any (goal.at.returns-clause-rolled c).After-is_some ∙ c.if-is_some.false)
    (lt-leb MAX_STREAMS (length o) (omega (arith, c.if-len-ge-MAX_STREAMS.false, c.len.ensures, size)))

pub returns-clause-fresh : goal.returns-clause-fresh
returns-clause-fresh c is =
    let at = (goal.at.returns-clause-fresh c).After-is_some in
    sym (place at) ∙ none_from c.find.result (sym c.is_some.ensures ∙ c.if-is_some.false)
