-- The line of an output that is up to date.
use Rattle.std.proofs.Common.{◌∙◌, ap}
use Rattle.btr_store.specs.Distil.{line_of_output}
use Rattle.btr_store.proofs.OutputLineLemmas.{current_is, current_of}
use Rattle.btr_store.proofs.distil.output_line.Goals as goal

pub returns-in-Landed : goal.returns-in-Landed
returns-in-Landed c =
    let output = c.args.line.output in
    let result = c.args.line.result in
    let id = c.id_of-id.result in record {
      some = current_is result c.current_line.result c.in-Landed.is c.current_line.ensures.some;
      line = λ h of are.
          c.current_line.ensures.line h of ∙ current_of h id output result c.in-Landed.is
          ∙ ap (λ i. line_of_output h i output result) (c.id_of-id.ensures.stream h are);
    }
