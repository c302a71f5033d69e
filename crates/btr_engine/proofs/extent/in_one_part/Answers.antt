use Rattle.std.specs.Prelude.{◌≡◌, ◌++◌, length}
use Rattle.std.proofs.Common.{◌∙◌, ap, arith, length-append}
use Rattle.std.proofs.lemmas.Result.{IfOk-weaker}
use Rattle.btr_disk.specs.Gate.{zeros}
use Rattle.btr_log.specs.Head.{head_bytes}
use Rattle.btr_log.proofs.HeadLemmas.{length-head_bytes}
use Rattle.btr_entry.specs.Grammar.{spelling}
use Rattle.btr_entry.proofs.SpellingLemmas.{length-spelling}
use Rattle.btr_engine.specs.Body.{padding}
use Rattle.btr_engine.proofs.ExtentBytes.{in_order, streamed_is}
use Rattle.btr_engine.proofs.extent.in_one_part.Goals as goal

pub fill_up-requires-clause-long : goal.fill_up-requires-clause-long
fill_up-requires-clause-long c =
    let head = head_bytes c.args.head.now in
    omega (arith, ap length c.in_ok-append_entry.ensures.bytes, length-append c.put_head.new.extent.items (spelling c.args.entry.now), ap length c.in_ok-put_head.ensures, length-append c.in_ok-extent.extent.items head, ap length c.in_ok-extent.ensures.items, length-head_bytes c.args.head.now, c.spelling_length.ensures)

pub fill_up-requires-clause-few : goal.fill_up-requires-clause-few
fill_up-requires-clause-few c = omega (arith, c.spelling_length.ensures, length-spelling c.args.entry.now c.in_ok-append_entry.ensures.spelled)

pub returns-clause-bytes : goal.returns-clause-bytes
returns-clause-bytes c =
    let head = head_bytes c.args.head.now in
    let content = spelling c.args.entry.now in
    let written = c.append_entry.new.out.items in
    let first : c.fill_up.new.extent.items ≡ written ++ zeros (padding (length content)) = c.in_ok-fill_up.ensures ∙ ap (λ n. written ++ zeros (padding n)) c.spelling_length.ensures in
    let start = in_order head c.put_head.new.extent.items written c.fill_up.new.extent.items content (zeros (padding (length content))) (c.in_ok-put_head.ensures ∙ ap (λ l. l ++ head) c.in_ok-extent.ensures.items) c.in_ok-append_entry.ensures.bytes first in
    IfOk-weaker c.of.result _ _ (λ p is.
    is ∙ c.in_ok-put_pages.ensures ∙ streamed_is c.args.head.now c.args.entry.now c.args.stream c.args.nodes.now c.fill_up.new.extent.items start) c.of.ensures
