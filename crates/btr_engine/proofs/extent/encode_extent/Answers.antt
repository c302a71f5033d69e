use Rattle.std.specs.Prelude.{◌≡◌, length}
use Rattle.std.proofs.Common.{◌∙◌, ap, arith, append-nil}
use Rattle.btr_log.specs.Head.{entry_head}
use Rattle.btr_entry.specs.Grammar.{spelling}
use Rattle.btr_entry.specs.Format.{format_of}
use Rattle.btr_pages.specs.Pages.{pages_of}
use Rattle.btr_engine.specs.Body.{extent_bytes}
use Rattle.btr_engine.proofs.ExtentBytes.{extent_is, streamed_is}
use Rattle.btr_engine.proofs.extent.encode_extent.Goals as goal

pub returns-then-len-least_nodes-clause-bytes : goal.returns-then-len-least_nodes-clause-bytes
returns-then-len-least_nodes-clause-bytes g c =
    let s = c.args.staged.now in
    let count : c.len.result ≡ length s.nodes.items = omega (arith, c.len.ensures) in
    let format = ap (λ n. entry_head n s.receipt.number c.spelling_length.result c.len.result s.root) c.format_of.ensures.format in
    let head = c.for_entry-head.ensures ∙ format ∙ ap (λ n. entry_head (format_of c.args.entry.now) s.receipt.number c.spelling_length.result n s.root) count in
    append-nil _
    ∙ c.in_ok-prefix.ensures.bytes
    ∙ ap (λ nodes. extent_bytes c.for_entry-head.result (spelling c.args.entry.now) (pages_of s.receipt.stream nodes)) c.deref.ensures.value
    ∙ extent_is s.receipt.number c.args.entry.now s.receipt.stream s.root c.spelling_length.result s.nodes.items c.for_entry-head.result c.spelling_length.ensures head

pub returns-clause-bytes : goal.returns-clause-bytes
returns-clause-bytes g c =
    let s = c.args.staged.now in
    let count : c.len.result ≡ length s.nodes.items = omega (arith, c.len.ensures) in
    let format = ap (λ n. entry_head n s.receipt.number c.spelling_length.result c.len.result s.root) c.format_of.ensures.format in
    let head = c.for_entry-head.ensures ∙ format ∙ ap (λ n. entry_head (format_of c.args.entry.now) s.receipt.number c.spelling_length.result n s.root) count in
    streamed_is c.for_entry-head.result c.args.entry.now s.receipt.stream s.nodes.items _ c.in_ok-prefix-2.ensures.bytes
    ∙ extent_is s.receipt.number c.args.entry.now s.receipt.stream s.root c.spelling_length.result s.nodes.items c.for_entry-head.result c.spelling_length.ensures head
