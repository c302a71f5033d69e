-- The lines of all refused outputs, added to none.
use Rattle.std.specs.Prelude.{◌≡◌, ℕ}
use Rattle.std.proofs.Common.{◌∙◌, subst, flat_map}
use Rattle.btr_store.specs.Transcript.{AddsLines, SaysLines}
use Rattle.btr_store.specs.Streams.{AreStreams, id_in}
use Rattle.btr_store.specs.Live.{refused_by}
use Rattle.btr_store.proofs.StreamLemmas.{ids_in}
use Rattle.btr_store.proofs.TranscriptLemmas.{says_none, adds_all}
use Rattle.btr_store.proofs.live_lines.refused_lines.Goals as goal

pub returns : goal.returns
returns c =
    let rows = c.as_slice.result.now in
    let first = c.new-transcript.result in
    let last = c.add_refused.new.transcript in
    let said : SaysLines (flat_map (refused_by (id_in rows)) c.args.report.now) last =
    adds_all (flat_map (refused_by (id_in rows)) c.args.report.now) first last
    (says_none first c.new-transcript.ensures.status c.new-transcript.ensures.text)
    (subst (λ l. AddsLines (flat_map (refused_by (id_in rows)) l) first last) c.lines.ensures c.in_ok-add_refused.ensures) in record {
      some = (id_in rows, said);
      says = λ h of.
          let are : AreStreams h rows = c.as_slice.ensures ∙ c.in_ok-streams.ensures h of in
          subst (λ (ids : ℕ → ℕ). SaysLines (flat_map (refused_by ids) c.args.report.now) last) (ids_in h rows are) said;
    }
