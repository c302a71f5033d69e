-- The lists are the lines of the lanes.
use Rattle.std.proofs.Common.{◌∙◌, ap, subst, length, arith}
use Rattle.std.proofs.lemmas.List.{length-map}
use Rattle.std.specs.Prelude.{slice_get}
use Rattle.btr_live.specs.Parts.{HasRounds, work_lines, work_with}
use Rattle.btr_live.proofs.PartLemmas.{works-lines}
use Rattle.btr_live.proofs.prepare.prepare.Goals as goal

pub returns : goal.returns
returns g c =
    let lists = c.in_ok-lanes.lists.items in
    record {
      lanes = c.in_ok-lanes.ensures.lanes_are;
      count = ap length c.in_ok-works.ensures ∙ length-map lists work_with ∙ c.in_ok-lanes.ensures.count;
      lines = λ k. ap (λ ws. work_lines (slice_get ws k)) c.in_ok-works.ensures ∙ works-lines lists k ∙ c.in_ok-lanes.ensures.lines k;
      rounds = subst (λ n. HasRounds n c.args.materialize c.in_ok-rounds.rounds) (c.len-count.ensures ∙ c.args.script.ok.0) c.in_ok-rounds.ensures;
      no_parts = c.in_ok-parts.ensures.items;
      parts_room = omega (arith, c.in_ok-parts.ensures.exact);
      no_feeds = c.in_ok-feeds.ensures.items;
      feeds_room = omega (arith, c.in_ok-feeds.ensures.exact);
      no_replies = c.in_ok-replies.ensures.items;
      replies_room = omega (arith, c.len-count.ensures, c.in_ok-replies.ensures.exact, c.args.script.ok.0);
    }
