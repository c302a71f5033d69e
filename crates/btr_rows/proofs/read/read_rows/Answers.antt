use Rattle.std.proofs.Common.{◌≡◌, ◌++◌, ◌∷◌, [], sym, ap, refl, ◌∙◌, map, arith}
use Rattle.std.specs.List.{enumerate_from}
use Rattle.std.proofs.lemmas.List.{map-append}
use Rattle.btr_rows.specs.Builder.{BuilderValue, built_of}
use Rattle.btr_rows.specs.Row.{row_of}
use Rattle.btr_rows.specs.Rows.{records_of}
use Rattle.btr_rows.specs.Streams.{list_of}
use Rattle.btr_rows.proofs.BuilderLemmas.{said-push, record-push}
use Rattle.btr_rows.proofs.read.read_rows.Goals as goal

pub loop-said-init : goal.loop-said-init
loop-said-init c =
    let none : c.new-rows.result.count ≡ 0 = ap (λ (b : BuilderValue). b.count) c.new-rows.ensures in
    (omega arith, [], c.new-rows.ensures, refl)

pub loop-said-preserved : goal.loop-said-preserved
loop-said-preserved c =
    let inv = c.loop-said.invariant in
    let row = c.in-Some.ensures.row in
    let count = c.in_ok-add.ensures.count in (
      omega (arith, count, c.in-Some.ensures.shorter, inv.0),
      inv.1 ++ row.0 ∷ [],
      c.in_ok-add.ensures.row (map row_of inv.1) inv.2 ∙ ap built_of (said-push [] inv.1 row.0 c.in-Some.said row.1),
      record-push (records_of c.args.bytes.now) inv.1 (records_of c.loop-said.rest.now) (records_of c.in-Some.after.now) row.0 inv.3 row.2,
    )

pub returns : goal.returns
returns c =
    let inv = c.loop-said.invariant in
    c.into_list.ensures ∙ ap (λ (b : BuilderValue). b.list) (c.in_ok-read_records.ensures (map row_of inv.1) inv.2)
    ∙ ap (λ l. list_of (enumerate_from 1 l)) (sym (map-append row_of inv.1 (records_of c.loop-said.rest.now)) ∙ ap (map row_of) (sym inv.3))
