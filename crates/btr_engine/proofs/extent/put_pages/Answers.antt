use Rattle.std.specs.Prelude.{◌≡◌, ◌+◌, ◌≤◌, true, length}
use Rattle.std.proofs.Common.{◌∙◌, sym, arith}
use Rattle.btr_engine.specs.Streamed.{streamed_bytes}
use Rattle.btr_engine.proofs.StreamedLemmas.{length-streamed, part-at-end, begins-with, put-at-end}
use Rattle.btr_engine.proofs.extent.put_pages.Goals as goal

pub fill_blocks-requires-clause-inside : goal.fill_blocks-requires-clause-inside
fill_blocks-requires-clause-inside c =
    let items = c.deref_mut.result.now in
    let bytes = streamed_bytes true c.args.stream c.args.nodes.now in
    let longer : length items ≡ c.len-begin.result + length bytes = omega (arith, c.deref_mut.ensures.len, c.in_ok-resize.ensures.len, c.in-Some.ensures.1, c.in_ok-bytes_of.ensures, length-streamed c.args.stream c.args.nodes.now) in
    omega (arith, part-at-end items bytes c.len-begin.result longer)

pub returns : goal.returns
returns c =
    let old = c.args.extent.now.items in
    let items = c.deref_mut.result.now in
    let bytes = streamed_bytes true c.args.stream c.args.nodes.now in
    let longer : length items ≡ c.len-begin.result + length bytes = omega (arith, c.deref_mut.ensures.len, c.in_ok-resize.ensures.len, c.in-Some.ensures.1, c.in_ok-bytes_of.ensures, length-streamed c.args.stream c.args.nodes.now) in
    let begin : c.len-begin.result ≡ length old = c.len-begin.ensures ∙ c.args.extent.now.ok.0 in
    let some : length old ≤ c.in-Some.end = omega (arith, begin, c.in-Some.ensures.1) in
    let old_is = begins-with old items c.len-begin.result c.in-Some.end _ begin some (c.deref_mut.ensures.value ∙ c.in_ok-resize.ensures.items) in
    put-at-end old items c.fill_blocks.new.to bytes _ c.len-begin.result c.resize.new.self.len _ old_is begin (sym c.deref_mut.ensures.len) longer (part-at-end items bytes c.len-begin.result longer) c.fill_blocks.ensures
