use Rattle.std.specs.Prelude.{◌≡◌, ◌+◌, ◌*◌, ◌≤◌, true, length, take, drop, option_map}
use Rattle.std.proofs.Common.{refl, arith, sym, ap, ◌∙◌, length-drop}
use Rattle.std.proofs.lemmas.List.{length-take, take_all}
use Rattle.btr_engine.specs.Streamed.{streamed_bytes, node_block}
use Rattle.btr_engine.proofs.StreamedLemmas.{is-there, block-there, put-length, put-begins, one-block-more}
use Rattle.btr_engine.proofs.streamed.fill_blocks.Goals as goal

pub overflow_add-first : goal.overflow_add-first
overflow_add-first c =
    let there = is-there c.args.stream true c.args.nodes.now (c.args.first + c.loop-i.i) (omega (arith, c.requires.inside, c.loop-i-test.true)) in
    omega (arith, there.1, c.requires.few)

pub loop-i-preserved : goal.loop-i-preserved
loop-i-preserved c =
    let bytes = streamed_bytes true c.args.stream c.args.nodes.now in
    let at = c.args.first + c.loop-i.i in
    let block = node_block c.args.stream (option_map (λ n. n.now) c.get.result) in
    let inside : 4096 * at + 4096 ≤ length bytes = omega (arith, c.requires.inside, c.loop-i-test.true) in
    let is : block ≡ take 4096 (drop (4096 * at) bytes) = block-there (λ n. n.now) _ c.get.result c.args.stream c.args.nodes.now at c.get.ensures.lookup.3 c.get.ensures.lookup.1 inside in
    let size : length block ≡ 4096 = omega (arith, ap length is, length-take 4096 (drop (4096 * at) bytes), length-drop (4096 * at) bytes, inside) in
    let fits : c.loop-i.i * 4096 + 4096 ≤ length c.loop-i.to = omega (arith, c.loop-i.invariant.0, c.loop-i-test.true) in (
      put-length c.loop-i.to block c.fill_first.new.to (c.loop-i.i * 4096) fits size c.fill_first.ensures ∙ c.loop-i.invariant.0,
      one-block-more bytes c.loop-i.to _ block c.args.first c.loop-i.i (c.loop-i.i * 4096) 4096 refl refl c.loop-i.invariant.1 (put-begins c.loop-i.to block c.fill_first.new.to (c.loop-i.i * 4096) fits size c.fill_first.ensures) is,
    )

pub returns : goal.returns
returns c =
    let all : length c.args.to.now ≡ 4096 * c.loop-i.i = omega (arith, c.loop-i-test.false, c.loop-i.auto.i-end, c.requires.whole) in
    let bytes = streamed_bytes true c.args.stream c.args.nodes.now in
    sym (take_all (4096 * c.loop-i.i) c.loop-i.to (omega (arith, c.loop-i.invariant.0, all)))
    ∙ c.loop-i.invariant.1
    ∙ ap (λ n. take n (drop (4096 * c.args.first) bytes)) (sym all)
