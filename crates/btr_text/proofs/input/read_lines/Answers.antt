use Rattle.std.proofs.Common.{◌∙◌, ◌++◌, sym, ap, subst, map, eqb, rules, tests}
use Rattle.std.specs.List.{filter_map}
use Rattle.std.specs.Option.{option_to_list}
use Rattle.std.specs.Str.Lines.{strip_carriage_return}
use Rattle.std.proofs.lemmas.Iterator.Consumers.{YieldsList-end, YieldsList-at}
use Rattle.std.proofs.lemmas.Iterator.Splits.{YieldsList-from_slice_split}
use Rattle.btr_text.specs.Input.{HaveLanes, input_line, lines_of}
use Rattle.btr_text.proofs.FormLemmas.{filter_map-one_more, map-twice}
use Rattle.btr_text.proofs.LaneLemmas.{input_lanes}
use Rattle.btr_text.proofs.input.read_lines.Goals as goal

pub loop-line-preserved : goal.loop-line-preserved
loop-line-preserved c =
    filter_map-one_more (input_line c.args.names_lanes) (λ x. strip_carriage_return x.now) c.loop-line.lines.items c.add_line.new.lines.items c.loop-line.yielded c.in-Some.line
    c.loop-line.invariant
    (c.in_ok-add_line.ensures ∙ ap (λ line. c.loop-line.lines.items ++ option_to_list (input_line c.args.names_lanes line)) c.without_carriage_return-line.ensures)

pub returns-clause-script : goal.returns-clause-script
returns-clause-script c =
    let t = YieldsList-end (YieldsList-at c.into_iter-line-iterator.ensures.into_iter_gives (YieldsList-from_slice_split _ (λ b. eqb b 10) c.args.bytes.now c.split-line-items.ensures.rest c.split-line-items.ensures.done c.split-line-items.ensures.closure (λ x b q k. search (rules, tests)))) c.loop-line.yielded _ c.loop-line.yielded_by _ _ c.in-None.is c.next.ensures.steps in
    c.from_lines.ensures ∙ c.loop-line.invariant ∙ ap (filter_map (input_line c.args.names_lanes)) (sym (map-twice strip_carriage_return (λ x. x.now) c.loop-line.yielded) ∙ ap (map strip_carriage_return) t.0)

pub returns-clause-lanes : goal.returns-clause-lanes
returns-clause-lanes c = subst HaveLanes (sym (returns-clause-script c)) (input_lanes c.args.names_lanes (lines_of c.args.bytes.now))
