use Rattle.std.specs.Prelude.{◌≡◌, IfOk}
use Rattle.std.proofs.Common.{rules, refl, sym, subst, w64, to_z, of_z}
use Rattle.btr_base.specs.declared.limits.TheConstants.{FIRST, END}
use Rattle.btr_base.specs.Agg.{agg_within}
use Rattle.btr_base.specs.Bag.{within}
use Rattle.btr_base.specs.Nearest.{nearest}
use Rattle.btr_base.specs.Windows.{aligned, windows}
use Rattle.btr_hist.specs.declared.answer.Answer.TheVariants.{Found}
use Rattle.btr_hist.specs.declared.answer.Rows.TheVariants.{Points, Cells, Info}
use Rattle.btr_hist.specs.Answer.{list_of}
use Rattle.btr_streams.specs.declared.asking.Wanted.TheVariants as want
use Rattle.btr_streams.specs.Wanted.{answer_to, MayBeRead}
use Rattle.btr_tree.specs.History as tree
use Rattle.btr_tree.specs.Spots.{AtEachPossibleRoot}
use Rattle.btr_open.specs.Shelf.{AtEachPossibleShelf, versions_on}
use Rattle.btr_open.proofs.ShelfLemmas.{answers-at, harmless-at, cause-at, changes-at, harmless-both, cause-both, streams-at, want-harmless, want-cause}
use Rattle.btr_open.proofs.shelf.Shelf.read.Goals as goal

pub returns-in-Points-clause-answer : goal.returns-in-Points-clause-answer
returns-in-Points-clause-answer g c o =
    let n = g.N.Nodes in
    let may = subst (MayBeRead (versions_on c.args.self.now.roll)) c.in-Points.is c.requires in
    let has = n.IsPage (n.contents c.args.nodes.now) in
    subst (λ w. IfOk c.points_at.result (λ a. AtEachPossibleShelf has c.args.self.now (λ h. a ≡ answer_to h w))) (sym c.in-Points.is)
    (answers-at has c.args.self.now c.in-Points.stream c.in-Points.version c.root.result c.root.ensures may (want.Points c.in-Points.stream c.in-Points.version c.in-Points.range) (λ root b. Found root.version (Points (within c.in-Points.range.from c.in-Points.range.to b))) (λ h. refl) c.points_at.result (c.points_at.ensures.answer o))

pub returns-in-Points-clause-sound : goal.returns-in-Points-clause-sound
returns-in-Points-clause-sound g c o =
    let n = g.N.Nodes in
    let may = subst (MayBeRead (versions_on c.args.self.now.roll)) c.in-Points.is c.requires in
    harmless-at (n.IsPage (n.contents c.args.nodes.now)) c.args.self.now c.in-Points.stream c.in-Points.version c.root.result c.root.ensures may c.points_at.result (c.points_at.ensures.sound o)

pub returns-in-Points-clause-cause : goal.returns-in-Points-clause-cause
returns-in-Points-clause-cause g c =
    let n = g.N.Nodes in
    let may = subst (MayBeRead (versions_on c.args.self.now.roll)) c.in-Points.is c.requires in
    cause-at n.is_observable (λ o. n.IsPage (n.contents c.args.nodes.now)) c.args.self.now c.in-Points.stream c.in-Points.version c.root.result (n.faults c.args.nodes.now) (n.faults c.points_at.new.nodes) c.root.ensures may c.points_at.result c.points_at.ensures.cause

pub returns-in-Nearest-clause-answer : goal.returns-in-Nearest-clause-answer
returns-in-Nearest-clause-answer g c o =
    let n = g.N.Nodes in
    let may = subst (MayBeRead (versions_on c.args.self.now.roll)) c.in-Nearest.is c.requires in
    let has = n.IsPage (n.contents c.args.nodes.now) in
    let same : to_z w64 (of_z w64 c.in-Nearest.time) ≡ c.in-Nearest.time = search rules in
    let read = subst (λ t. IfOk c.nearest_at.result (λ a. AtEachPossibleRoot has c.root-in-Nearest.result (λ past. a ≡ Found c.root-in-Nearest.result.version (Points (list_of (nearest c.in-Nearest.toward t (tree.bag past))))))) same (c.nearest_at.ensures.answer o) in
    subst (λ w. IfOk c.nearest_at.result (λ a. AtEachPossibleShelf has c.args.self.now (λ h. a ≡ answer_to h w))) (sym c.in-Nearest.is)
    (answers-at has c.args.self.now c.in-Nearest.stream c.in-Nearest.version c.root-in-Nearest.result c.root-in-Nearest.ensures may (want.Nearest c.in-Nearest.stream c.in-Nearest.version c.in-Nearest.time c.in-Nearest.toward) (λ root b. Found root.version (Points (list_of (nearest c.in-Nearest.toward c.in-Nearest.time b)))) (λ h. refl) c.nearest_at.result read)

pub returns-in-Nearest-clause-sound : goal.returns-in-Nearest-clause-sound
returns-in-Nearest-clause-sound g c o =
    let n = g.N.Nodes in
    let may = subst (MayBeRead (versions_on c.args.self.now.roll)) c.in-Nearest.is c.requires in
    harmless-at (n.IsPage (n.contents c.args.nodes.now)) c.args.self.now c.in-Nearest.stream c.in-Nearest.version c.root-in-Nearest.result c.root-in-Nearest.ensures may c.nearest_at.result (c.nearest_at.ensures.sound o)

pub returns-in-Nearest-clause-cause : goal.returns-in-Nearest-clause-cause
returns-in-Nearest-clause-cause g c =
    let n = g.N.Nodes in
    let may = subst (MayBeRead (versions_on c.args.self.now.roll)) c.in-Nearest.is c.requires in
    cause-at n.is_observable (λ o. n.IsPage (n.contents c.args.nodes.now)) c.args.self.now c.in-Nearest.stream c.in-Nearest.version c.root-in-Nearest.result (n.faults c.args.nodes.now) (n.faults c.nearest_at.new.nodes) c.root-in-Nearest.ensures may c.nearest_at.result c.nearest_at.ensures.cause

pub returns-in-Aligned-clause-answer : goal.returns-in-Aligned-clause-answer
returns-in-Aligned-clause-answer g c o =
    let n = g.N.Nodes in
    let may = subst (MayBeRead (versions_on c.args.self.now.roll)) c.in-Aligned.is c.requires in
    let has = n.IsPage (n.contents c.args.nodes.now) in
    subst (λ w. IfOk c.aligned_at.result (λ a. AtEachPossibleShelf has c.args.self.now (λ h. a ≡ answer_to h w))) (sym c.in-Aligned.is)
    (answers-at has c.args.self.now c.in-Aligned.stream c.in-Aligned.version c.root-in-Aligned.result c.root-in-Aligned.ensures may.0 (want.Aligned c.in-Aligned.stream c.in-Aligned.version c.in-Aligned.range c.in-Aligned.p) (λ root b. Found root.version (Cells (aligned c.in-Aligned.p c.in-Aligned.range.from c.in-Aligned.range.to b))) (λ h. refl) c.aligned_at.result (c.aligned_at.ensures.answer o))

pub returns-in-Aligned-clause-sound : goal.returns-in-Aligned-clause-sound
returns-in-Aligned-clause-sound g c o =
    let n = g.N.Nodes in
    let may = subst (MayBeRead (versions_on c.args.self.now.roll)) c.in-Aligned.is c.requires in
    harmless-at (n.IsPage (n.contents c.args.nodes.now)) c.args.self.now c.in-Aligned.stream c.in-Aligned.version c.root-in-Aligned.result c.root-in-Aligned.ensures may.0 c.aligned_at.result (c.aligned_at.ensures.sound o)

pub returns-in-Aligned-clause-cause : goal.returns-in-Aligned-clause-cause
returns-in-Aligned-clause-cause g c =
    let n = g.N.Nodes in
    let may = subst (MayBeRead (versions_on c.args.self.now.roll)) c.in-Aligned.is c.requires in
    cause-at n.is_observable (λ o. n.IsPage (n.contents c.args.nodes.now)) c.args.self.now c.in-Aligned.stream c.in-Aligned.version c.root-in-Aligned.result (n.faults c.args.nodes.now) (n.faults c.aligned_at.new.nodes) c.root-in-Aligned.ensures may.0 c.aligned_at.result c.aligned_at.ensures.cause

pub returns-in-Windows-clause-answer : goal.returns-in-Windows-clause-answer
returns-in-Windows-clause-answer g c o =
    let n = g.N.Nodes in
    let may = subst (MayBeRead (versions_on c.args.self.now.roll)) c.in-Windows.is c.requires in
    let has = n.IsPage (n.contents c.args.nodes.now) in
    subst (λ w. IfOk c.windows_at.result (λ a. AtEachPossibleShelf has c.args.self.now (λ h. a ≡ answer_to h w))) (sym c.in-Windows.is)
    (answers-at has c.args.self.now c.in-Windows.stream c.in-Windows.version c.root-in-Windows.result c.root-in-Windows.ensures may.0 (want.Windows c.in-Windows.stream c.in-Windows.version c.in-Windows.range c.in-Windows.width) (λ root b. Found root.version (Cells (windows c.in-Windows.width c.in-Windows.range.from c.in-Windows.range.to b))) (λ h. refl) c.windows_at.result (c.windows_at.ensures.answer o))

pub returns-in-Windows-clause-sound : goal.returns-in-Windows-clause-sound
returns-in-Windows-clause-sound g c o =
    let n = g.N.Nodes in
    let may = subst (MayBeRead (versions_on c.args.self.now.roll)) c.in-Windows.is c.requires in
    harmless-at (n.IsPage (n.contents c.args.nodes.now)) c.args.self.now c.in-Windows.stream c.in-Windows.version c.root-in-Windows.result c.root-in-Windows.ensures may.0 c.windows_at.result (c.windows_at.ensures.sound o)

pub returns-in-Windows-clause-cause : goal.returns-in-Windows-clause-cause
returns-in-Windows-clause-cause g c =
    let n = g.N.Nodes in
    let may = subst (MayBeRead (versions_on c.args.self.now.roll)) c.in-Windows.is c.requires in
    cause-at n.is_observable (λ o. n.IsPage (n.contents c.args.nodes.now)) c.args.self.now c.in-Windows.stream c.in-Windows.version c.root-in-Windows.result (n.faults c.args.nodes.now) (n.faults c.windows_at.new.nodes) c.root-in-Windows.ensures may.0 c.windows_at.result c.windows_at.ensures.cause

pub returns-in-Info-clause-answer : goal.returns-in-Info-clause-answer
returns-in-Info-clause-answer g c o =
    let n = g.N.Nodes in
    let may = subst (MayBeRead (versions_on c.args.self.now.roll)) c.in-Info.is c.requires in
    let has = n.IsPage (n.contents c.args.nodes.now) in
    subst (λ w. IfOk c.info_at.result (λ a. AtEachPossibleShelf has c.args.self.now (λ h. a ≡ answer_to h w))) (sym c.in-Info.is)
    (answers-at has c.args.self.now c.in-Info.stream c.in-Info.version c.root-in-Info.result c.root-in-Info.ensures may (want.Info c.in-Info.stream c.in-Info.version c.in-Info.output c.in-Info.reads) (λ root b. Found root.version (Info c.in-Info.output (agg_within FIRST END b) c.in-Info.reads)) (λ h. refl) c.info_at.result (c.info_at.ensures.answer o))

pub returns-in-Info-clause-sound : goal.returns-in-Info-clause-sound
returns-in-Info-clause-sound g c o =
    let n = g.N.Nodes in
    let may = subst (MayBeRead (versions_on c.args.self.now.roll)) c.in-Info.is c.requires in
    harmless-at (n.IsPage (n.contents c.args.nodes.now)) c.args.self.now c.in-Info.stream c.in-Info.version c.root-in-Info.result c.root-in-Info.ensures may c.info_at.result (c.info_at.ensures.sound o)

pub returns-in-Info-clause-cause : goal.returns-in-Info-clause-cause
returns-in-Info-clause-cause g c =
    let n = g.N.Nodes in
    let may = subst (MayBeRead (versions_on c.args.self.now.roll)) c.in-Info.is c.requires in
    cause-at n.is_observable (λ o. n.IsPage (n.contents c.args.nodes.now)) c.args.self.now c.in-Info.stream c.in-Info.version c.root-in-Info.result (n.faults c.args.nodes.now) (n.faults c.info_at.new.nodes) c.root-in-Info.ensures may c.info_at.result c.info_at.ensures.cause

pub returns-in-Changes-clause-answer : goal.returns-in-Changes-clause-answer
returns-in-Changes-clause-answer g c o =
    let n = g.N.Nodes in
    let may = subst (MayBeRead (versions_on c.args.self.now.roll)) c.in-Changes.is c.requires in
    let has = n.IsPage (n.contents c.args.nodes.now) in
    subst (λ w. IfOk c.changes_at.result (λ a. AtEachPossibleShelf has c.args.self.now (λ h. a ≡ answer_to h w))) (sym c.in-Changes.is)
    (changes-at has c.args.self.now c.in-Changes.stream c.in-Changes.old c.in-Changes.new may.0 may.1 c.root-older.result c.root-newer.result c.root-older.ensures c.root-newer.ensures c.in-Changes.p c.changes_at.result (c.changes_at.ensures.answer o))

pub returns-in-Changes-clause-sound : goal.returns-in-Changes-clause-sound
returns-in-Changes-clause-sound g c o =
    let n = g.N.Nodes in
    let may = subst (MayBeRead (versions_on c.args.self.now.roll)) c.in-Changes.is c.requires in
    harmless-both (n.IsPage (n.contents c.args.nodes.now)) c.args.self.now c.in-Changes.stream c.in-Changes.old c.in-Changes.new may.0 may.1 c.root-older.result c.root-newer.result c.root-older.ensures c.root-newer.ensures c.changes_at.result (c.changes_at.ensures.sound o)

pub returns-in-Changes-clause-cause : goal.returns-in-Changes-clause-cause
returns-in-Changes-clause-cause g c =
    let n = g.N.Nodes in
    let may = subst (MayBeRead (versions_on c.args.self.now.roll)) c.in-Changes.is c.requires in
    cause-both n.is_observable (λ o. n.IsPage (n.contents c.args.nodes.now)) c.args.self.now c.in-Changes.stream c.in-Changes.old c.in-Changes.new c.root-older.result c.root-newer.result (n.faults c.args.nodes.now) (n.faults c.changes_at.new.nodes) c.root-older.ensures c.root-newer.ensures may.0 may.1 c.changes_at.result c.changes_at.ensures.cause

pub returns-in-Streams-clause-answer : goal.returns-in-Streams-clause-answer
returns-in-Streams-clause-answer g c o =
    let n = g.N.Nodes in
    let has = n.IsPage (n.contents c.args.nodes.now) in
    subst (λ w. IfOk c.all_streams.result (λ a. AtEachPossibleShelf has c.args.self.now (λ h. a ≡ answer_to h w))) (sym c.in-Streams.is)
    (streams-at has c.args.self.now want.Streams c.all_streams.result c.all_streams.ensures.answer)

pub returns-in-Streams-clause-sound : goal.returns-in-Streams-clause-sound
returns-in-Streams-clause-sound g c o =
    let n = g.N.Nodes in
    want-harmless (n.IsPage (n.contents c.args.nodes.now)) c.args.self.now c.all_streams.result c.all_streams.ensures.want

pub returns-in-Streams-clause-cause : goal.returns-in-Streams-clause-cause
returns-in-Streams-clause-cause g c =
    let n = g.N.Nodes in
    want-cause n.is_observable (λ o. n.IsPage (n.contents c.args.nodes.now)) c.args.self.now (n.faults c.args.nodes.now) (n.faults c.args.nodes.now) c.all_streams.result c.all_streams.ensures.want
