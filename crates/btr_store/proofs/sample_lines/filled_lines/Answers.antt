-- All lines, one part after another.
use Rattle.std.specs.Prelude.{◌≡◌, ℕ}
use Rattle.std.proofs.Common.{◌∙◌, subst, map, flat_map}
use Rattle.btr_store.specs.Transcript.{AddsLines}
use Rattle.btr_store.specs.Streams.{AreStreams, id_in}
use Rattle.btr_store.specs.LoadLines.{row_line, stream_spans}
use Rattle.btr_store.specs.SampleLines.{define_line, landing_by, landing_line, summary_lines}
use Rattle.btr_store.proofs.StreamLemmas.{ids_in}
use Rattle.btr_store.proofs.SampleLineLemmas.{says_five}
use Rattle.btr_store.proofs.sample_lines.filled_lines.Goals as goal

pub returns : goal.returns
returns c =
    let filled = c.args.filled.now in
    let reported = c.in_ok-transcript.ensures in
    let first = c.in_ok-transcript.transcript in
    let second = c.add_all_spans.new.transcript in
    let third = c.add_undefined.new.transcript in
    let fourth = c.add_landings.new.transcript in
    let last = c.add_summaries.new.transcript in
    let rows = c.as_slice-2.result.now in
    let batches = subst (λ l. AddsLines (flat_map stream_spans l) first second) c.streams-2.ensures c.in_ok-add_all_spans.ensures in
    let defined = subst (λ l. AddsLines (flat_map define_line l) second third) c.as_slice.ensures.value c.in_ok-add_undefined.ensures in
    let landed = subst (λ l. AddsLines (flat_map (landing_by (id_in rows)) l) third fourth) c.lines.ensures c.in_ok-add_landings.ensures in
    let summed = c.in_ok-add_summaries.ensures.some in record {
      some = record {
        rows = reported.0;
        refused = reported.1;
        ids = id_in rows;
        streams = summed.0;
        summaries = summed.1;
        says = says_five (map row_line reported.0) (flat_map stream_spans filled.loaded.streams) (flat_map define_line filled.outputs.items) (flat_map (landing_by (id_in rows)) filled.report) summed.0 first second third fourth last reported.2
            batches defined landed summed.2;
      };
      says = λ h of.
          let are : AreStreams h rows = c.as_slice-2.ensures ∙ c.in_ok-streams.ensures h of in
          let are_again : AreStreams h c.as_slice-3.result.now = c.as_slice-3.ensures ∙ c.in_ok-streams.ensures h of in (
            reported.0,
            reported.1,
            says_five (map row_line reported.0) (flat_map stream_spans filled.loaded.streams) (flat_map define_line filled.outputs.items) (flat_map (landing_line h) filled.report) (summary_lines h) first second third fourth last reported.2
                batches
                defined
                (subst (λ (ids : ℕ → ℕ). AddsLines (flat_map (landing_by ids) filled.report) third fourth) (ids_in h rows are) landed)
                (c.in_ok-add_summaries.ensures.says h of are_again),
          );
    }
