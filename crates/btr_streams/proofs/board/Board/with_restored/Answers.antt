use Rattle.std.proofs.Common.{◌≡◌, ◌<◌, ℕ, None, length, sym, ap, subst, ◌∙◌, ◌++◌, [], ◌∷◌}
use Rattle.std.specs.Prelude.{IfSome, Option}
use Rattle.std.proofs.lemmas.List.{length-map}
use Rattle.btr_hist.specs.declared.kernel.Spec.{Spec}
use Rattle.btr_streams.specs.Readers.{AreInputsBelow, AreReaders}
use Rattle.btr_base.specs.declared.limits.TheConstants.{MAX_STREAMS}
use Rattle.btr_board.specs.Put.{put_at}
use Rattle.btr_board.specs.Numbers.{number_of}
use Rattle.btr_roll.specs.Roll.{RollStreamValue}
use Rattle.btr_streams.specs.Board.{Versions, Kept, place_of, ids_of, specs_of}
use Rattle.btr_streams.specs.Restoring.{restored_stream}
use Rattle.btr_streams.proofs.RestoringLemmas.{formed-restored, restored-grown}
use Rattle.btr_streams.proofs.board.Board.with_restored.Goals as goal

pub invariant_of-result : goal.invariant_of-result
invariant_of-result c =
    let streams = c.self.inside.streams in
    let s : RollStreamValue = c.args.stream.now in
    let one : Versions = restored_stream s c.args.trees.items in
    let room = subst (λ (b : Kept). length b.streams < MAX_STREAMS) (sym c.self.view_is) c.requires.room in
    let fresh = subst (λ (b : Kept). place_of (ids_of b.streams) s.id ≡ None) (sym c.self.view_is) c.requires.fresh in
    formed-restored streams (number_of c.self.inside.numbers) c.self.invariant one (number_of c.in_ok-numbers.numbers) c.len-number.result c.in_ok-streams.streams c.in_ok-readers.readers (restored-grown c.requires.fits.0 s c.args.trees.items c.requires.fits.1 c.requires.trees) room fresh (c.in_ok-streams.ensures ∙ ap (λ (x : Versions). streams ++ x ∷ []) c.in_ok-next.ensures) c.len-number.ensures (λ q. c.in_ok-numbers.ensures q ∙ ap (λ (id : ℕ). put_at id c.len-number.result (number_of c.self.inside.numbers) q) (ap (λ (x : RollStreamValue). x.id) c.stream.view_is)) (subst (λ (o : Option Spec). AreReaders (specs_of streams ++ o ∷ []) c.in_ok-readers.readers) (ap (λ (x : RollStreamValue). x.spec) c.stream.view_is) (c.in_ok-readers.ensures (specs_of streams) c.self.invariant.read))

pub with_stream_read-requires-clause-number : goal.with_stream_read-requires-clause-number
with_stream_read-requires-clause-number c =
    c.len-number.ensures ∙ sym (c.self.invariant.read.counted ∙ length-map c.self.inside.streams (λ (v : Versions). v.spec))

pub with_stream_read-requires-clause-inputs : goal.with_stream_read-requires-clause-inputs
with_stream_read-requires-clause-inputs c =
    let size : length c.args.self.now.streams ≡ length c.self.inside.readers = ap (λ (b : Kept). length b.streams) (sym c.self.view_is) ∙ sym (c.self.invariant.read.counted ∙ length-map c.self.inside.streams (λ (v : Versions). v.spec)) in
    let its : IfSome c.stream.inside.spec (AreInputsBelow (length c.args.self.now.streams)) = subst (λ (x : RollStreamValue). IfSome x.spec (AreInputsBelow (length c.args.self.now.streams))) (sym c.stream.view_is) c.requires.inputs in
    subst (λ (n : ℕ). IfSome c.stream.inside.spec (AreInputsBelow n)) size its
