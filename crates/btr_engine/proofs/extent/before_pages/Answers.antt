use Rattle.std.specs.Prelude.{◌≡◌, ◌++◌, length}
use Rattle.std.proofs.Common.{◌∙◌, ap, arith, append_assoc}
use Rattle.btr_disk.specs.Gate.{zeros}
use Rattle.btr_log.specs.Head.{head_bytes}
use Rattle.btr_entry.specs.Grammar.{spelling}
use Rattle.btr_entry.proofs.SpellingLemmas.{length-spelling}
use Rattle.btr_engine.specs.Body.{padding}
use Rattle.btr_engine.proofs.extent.before_pages.Goals as goal

pub zeros_after-requires : goal.zeros_after-requires
zeros_after-requires g c =
    omega (arith, c.spelling_length.ensures, length-spelling c.args.entry.now (c.in_ok-points.ensures.spelled c.in_ok-points-2.ensures.values))

pub returns-clause-bytes : goal.returns-clause-bytes
returns-clause-bytes g c =
    let head = head_bytes c.args.head.now in
    let content = spelling c.args.entry.now in
    let before = c.append_before_points.new.out.items in
    let written = c.append.new.self in
    let prefix_is : c.put_head.new.extent.items ≡ head = c.in_ok-put_head.ensures ∙ ap (λ l. l ++ head) c.new-prefix.ensures.items in
    let written_is : written ≡ head ++ content = c.in_ok-append.ensures.added ∙ ap (λ l. l ++ c.in_ok-points-2.field-0) c.in_ok-extent.ensures ∙ ap (λ l. before ++ l) c.in_ok-points-2.ensures.bytes ∙ c.in_ok-points.ensures.bytes ∙ ap (λ l. l ++ content) prefix_is in
    c.in_ok-push.ensures.added
    ∙ ap (λ l. written ++ l) (c.in_ok-zeros_after.ensures ∙ ap (λ n. zeros (padding n)) c.spelling_length.ensures)
    ∙ ap (λ l. l ++ zeros (padding (length content))) written_is
    ∙ append_assoc head content (zeros (padding (length content)))
