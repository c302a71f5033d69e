use Rattle.std.proofs.Common.{◌≡◌, ◌≤◌, length, [], ◌∷◌, ◌++◌, sym, ap, ◌∙◌, arith}
use Rattle.std.proofs.lemmas.List.{take_all}
use Rattle.btr_hist.specs.declared.answer.Answer.TheVariants.{Found}
use Rattle.btr_hist.specs.declared.answer.Rows.TheVariants.{Streams}
use Rattle.btr_hist.specs.History.{ids}
use Rattle.btr_hist.specs.Answer.{rows_from}
use Rattle.btr_streams.specs.Board.{Kept}
use Rattle.btr_streams.proofs.Questions.{length-rows, rows-next}
use Rattle.btr_streams.proofs.board.Board.all_streams.Goals as goal

pub loop-place-preserved : goal.loop-place-preserved
loop-place-preserved c h of =
    c.in_ok-push.ensures.items
    ∙ ap (λ rows. rows ++ c.in-Some.row ∷ []) (c.loop-place.invariant h of)
    ∙ sym (rows-next (rows_from h 0 (ids h)) c.loop-place.place c.in-Some.row (c.in-Some.ensures.row h of))

pub returns : goal.returns
returns c h of =
    let rows = rows_from h 0 (ids h) in
    let size : length rows ≡ length c.self.inside.streams = length-rows h 0 (ids h) ∙ sym of.counted ∙ ap (λ (b : Kept). length b.streams) (sym c.self.view_is) in
    let low : length rows ≤ c.loop-place.place = omega (arith, c.loop-place-test.false, c.len-place-end.ensures, size) in
    let listed : c.from_rows.result ≡ rows = c.from_rows.ensures ∙ c.loop-place.invariant h of ∙ take_all c.loop-place.place rows low in
    ap (λ n. Found n (Streams c.from_rows.result)) (c.entries.ensures ∙ of.entries) ∙ ap (λ l. Found (length h) (Streams l)) listed
