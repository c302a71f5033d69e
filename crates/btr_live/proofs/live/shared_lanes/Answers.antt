-- The groups are what feeds the lanes.
use Rattle.std.specs.Prelude.{List, length, map}
use Rattle.std.proofs.Common.{ap, arith, sym, subst, ◌∙◌}
use Rattle.std.proofs.lemmas.List.{length-map}
use Rattle.btr_jobs.specs.Jobs.{AllKeep, Does}
use Rattle.btr_live.specs.declared.shared_feeds.SharedFeeds.{SharedFeeds}
use Rattle.btr_live.specs.Lanes.{in_feeds}
use Rattle.btr_live.specs.SharedLanes.{RanInShared, shared_feeds}
use Rattle.btr_live.specs.OneHistory.{RunsAll}
use Rattle.btr_live.proofs.PartLemmas.{keep_length}
use Rattle.btr_live.proofs.SharedLemmas.{groups_later, same_groups}
use Rattle.btr_live.proofs.live.shared_lanes.Goals as goal

pub returns-in-Err-run_parts-clause-back : goal.returns-in-Err-run_parts-clause-back
returns-in-Err-run_parts-clause-back g c =
    same_groups c.unwrap-in-Err-run_parts.result.items c.args.groups.items (c.unwrap-in-Err-run_parts.ensures ∙ c.in-Err-run_parts.ensures.back ∙ c.wrap-feeds.ensures)

pub returns-in-Ok-run_parts-clause-later : goal.returns-in-Ok-run_parts-clause-later
returns-in-Ok-run_parts-clause-later g c =
    groups_later g.G.Groups.later c.args.groups.items c.unwrap.result.items
    (subst (λ (l : List (SharedFeeds g.row.G.Denot)). AllKeep (λ was now. g.G.Groups.later was.groups now.groups) l (map shared_feeds c.unwrap.result.items)) c.wrap-feeds.ensures
    (subst (λ (l : List (SharedFeeds g.row.G.Denot)). AllKeep (λ was now. g.G.Groups.later was.groups now.groups) c.wrap-feeds.result.items l) (sym c.unwrap.ensures) c.in-Ok-run_parts.ensures.keeps))

pub unwrap-requires-clause-room : goal.unwrap-requires-clause-room
unwrap-requires-clause-room g c =
    let many = keep_length (λ (was now : SharedFeeds g.row.G.Denot). g.G.Groups.later was.groups now.groups) c.wrap-feeds.result.items c.in-Ok-run_parts.feeds.items c.in-Ok-run_parts.ensures.keeps in
    omega (arith, many, ap length c.wrap-feeds.ensures, length-map c.args.groups.items shared_feeds, c.requires.script.1, c.in-Ok.ensures.room.1)

pub returns-in-Ok-run_parts-clause-runs : goal.returns-in-Ok-run_parts-clause-runs
returns-in-Ok-run_parts-clause-runs g c =
    let script = c.args.script.items in
    let replies = c.in-Ok-run_parts.replies.items in
    let Ran = RanInShared g.G.Groups in
    let new = c.run_parts.new.session in
    subst (λ (l : List (SharedFeeds g.row.G.Denot)). Does c.args.hall.now c.args.session.now new (λ start log low own. RunsAll (in_feeds Ran l (map shared_feeds c.unwrap.result.items)) c.args.beside.materialize start log low script replies own)) c.wrap-feeds.ensures
    (subst (λ (l : List (SharedFeeds g.row.G.Denot)). Does c.args.hall.now c.args.session.now new (λ start log low own. RunsAll (in_feeds Ran c.wrap-feeds.result.items l) c.args.beside.materialize start log low script replies own)) (sym c.unwrap.ensures)
    c.in-Ok-run_parts.ensures.runs)
