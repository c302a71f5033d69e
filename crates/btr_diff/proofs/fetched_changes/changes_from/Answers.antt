use Rattle.std.proofs.Common.{refl, ◌∙◌, inl, arith}
use Rattle.std.proofs.lemmas.Result.{err_from_is_err_and}
use Rattle.btr_base.specs.Changes.{changes as changes_of}
use Rattle.btr_base.proofs.ChangesLemmas.{changes-cut}
use Rattle.btr_base.proofs.CutLemmas.{union-zero}
use Rattle.btr_tree.specs.History.{bag}
use Rattle.btr_tree.specs.Spots.{StandsIn, IsFetchCause, IsRootAt}
use Rattle.btr_diff.proofs.FetchedRoots.{safe-later, root-later, root-there, root-possible, refused-is, newer-lost, walk-refused}
use Rattle.btr_diff.proofs.fetched_changes.changes_from.Goals as goal

-- ---- A root is not found.

pub returns-in_err-older-clause-sound : goal.returns-in_err-older-clause-sound
returns-in_err-older-clause-sound g c =
    let p = err_from_is_err_and c.from_residual.result c.from_residual.ensures.1 in
    rw (p.1, p.2) (λ o h k was is. c.in_err-older.ensures.sound o h was)

pub returns-in_err-older-clause-same : goal.returns-in_err-older-clause-same
returns-in_err-older-clause-same g c = c.in_err-older.ensures.uses.same

pub returns-in_err-older-clause-cause : goal.returns-in_err-older-clause-cause
returns-in_err-older-clause-cause g c =
    let p = err_from_is_err_and c.from_residual.result c.from_residual.ensures.1 in
    rw (p.1, p.2) (inl (inl c.in_err-older.ensures.uses.cause))

pub returns-in_err-newer-clause-sound : goal.returns-in_err-newer-clause-sound
returns-in_err-newer-clause-sound g c =
    let nodes = g.N.Nodes in
    let p = err_from_is_err_and c.from_residual-in_err-newer.result c.from_residual-in_err-newer.ensures.1 in
    let first = c.in_ok-older.ensures.uses in
    rw (p.1, p.2) (λ o h k was is. c.in_err-newer.ensures.sound o k (root-later nodes.is_observable nodes.IsPage (λ has. IsRootAt (StandsIn has)) (nodes.contents c.args.nodes.now) (nodes.contents c.find_root.new.nodes) first.same c.args.new k o is))

pub returns-in_err-newer-clause-same : goal.returns-in_err-newer-clause-same
returns-in_err-newer-clause-same g c = c.in_err-newer.ensures.uses.same ∙ c.in_ok-older.ensures.uses.same

pub returns-in_err-newer-clause-cause : goal.returns-in_err-newer-clause-cause
returns-in_err-newer-clause-cause g c =
    let nodes = g.N.Nodes in
    let p = err_from_is_err_and c.from_residual-in_err-newer.result c.from_residual-in_err-newer.ensures.1 in
    let first = c.in_ok-older.ensures.uses in
    rw (p.1, p.2) (newer-lost nodes.is_observable nodes.IsPage c.args.old c.args.new (nodes.contents c.args.nodes.now) (nodes.contents c.find_root.new.nodes) (nodes.faults c.args.nodes.now) (nodes.faults c.find_root.new.nodes) (nodes.faults c.find_root-2.new.nodes) _ first.same first.rises c.in_err-newer.ensures.uses.cause)

-- ---- The walk.

pub compare-requires-clause-safe : goal.compare-requires-clause-safe
compare-requires-clause-safe g c =
    let nodes = g.N.Nodes in
    (safe-later nodes.is_observable nodes.IsPage (nodes.contents c.find_root.new.nodes) (nodes.contents c.find_root-2.new.nodes) c.in_ok-newer.ensures.uses.same c.in_ok-older.older c.in_ok-older.ensures.safe, c.in_ok-newer.ensures.safe)

pub returns-in-Ok-clause-runs : goal.returns-in-Ok-clause-runs
returns-in-Ok-clause-runs g c o h k was is version =
    let nodes = g.N.Nodes in
    let first = c.in_ok-older.ensures in
    let second = c.in_ok-newer.ensures in
    let before = nodes.contents c.args.nodes.now in
    let between = nodes.contents c.find_root.new.nodes in
    let after = nodes.contents c.find_root-2.new.nodes in
    let old = root-possible nodes.is_observable nodes.IsPage before before after refl (second.uses.same ∙ first.uses.same) c.args.old c.in_ok-older.older h o (first.at o) was in
    let new = root-possible nodes.is_observable nodes.IsPage before between after first.uses.same second.uses.same c.args.new c.in_ok-newer.newer k o (second.at o) is in
    c.in-Ok.ensures.finds h k old new version ∙ union-zero (changes_of c.args.p (bag h) (bag k)) (changes-cut c.args.p (bag h) (bag k) c.requires)

pub returns-in-Ok-clause-same : goal.returns-in-Ok-clause-same
returns-in-Ok-clause-same g c = c.in-Ok.ensures.uses.same ∙ c.in_ok-newer.ensures.uses.same ∙ c.in_ok-older.ensures.uses.same

pub returns-in-Ok-clause-bounded : goal.returns-in-Ok-clause-bounded
returns-in-Ok-clause-bounded g c o k is =
    let nodes = g.N.Nodes in
    let first = c.in_ok-older.ensures in
    let second = c.in_ok-newer.ensures in
    let before = nodes.contents c.args.nodes.now in
    let between = nodes.contents c.find_root.new.nodes in
    let after = nodes.contents c.find_root-2.new.nodes in
    let new = root-possible nodes.is_observable nodes.IsPage before between after first.uses.same second.uses.same c.args.new c.in_ok-newer.newer k o (second.at o) is in
    c.in-Ok.ensures.newer.bounded k new.holds

pub returns-in-Err-Want-clause-same : goal.returns-in-Err-Want-clause-same
returns-in-Err-Want-clause-same g c = c.in-Err-Want.ensures.uses.same ∙ c.in_ok-newer.ensures.uses.same ∙ c.in_ok-older.ensures.uses.same

pub returns-in-Err-Want-clause-bounded : goal.returns-in-Err-Want-clause-bounded
returns-in-Err-Want-clause-bounded g c o k is =
    let nodes = g.N.Nodes in
    let first = c.in_ok-older.ensures in
    let second = c.in_ok-newer.ensures in
    let before = nodes.contents c.args.nodes.now in
    let between = nodes.contents c.find_root.new.nodes in
    let after = nodes.contents c.find_root-2.new.nodes in
    let new = root-possible nodes.is_observable nodes.IsPage before between after first.uses.same second.uses.same c.args.new c.in_ok-newer.newer k o (second.at o) is in
    c.in-Err-Want.ensures.newer.bounded k new.holds

pub returns-clause-sound : goal.returns-clause-sound
returns-clause-sound g c o h k was is =
    let nodes = g.N.Nodes in
    let first = c.in_ok-older.ensures in
    let second = c.in_ok-newer.ensures in
    let before = nodes.contents c.args.nodes.now in
    let between = nodes.contents c.find_root.new.nodes in
    let after = nodes.contents c.find_root-2.new.nodes in
    let old = root-there nodes.is_observable nodes.IsPage before before after refl (second.uses.same ∙ first.uses.same) c.args.old c.in_ok-older.older h o (first.there o) was in
    let new = root-there nodes.is_observable nodes.IsPage before between after first.uses.same second.uses.same c.args.new c.in_ok-newer.newer k o (second.there o) is in
    refused-is _ c.in-Err-Refused.field-0 c.in-Err-Refused.fault c.in-Err-Refused.field-0-is c.in-Err-Refused.ensures.sound h k old new

pub returns-clause-same : goal.returns-clause-same
returns-clause-same g c = c.in-Err-Refused.ensures.uses.same ∙ c.in_ok-newer.ensures.uses.same ∙ c.in_ok-older.ensures.uses.same

pub returns-clause-bounded : goal.returns-clause-bounded
returns-clause-bounded g c o k is =
    let nodes = g.N.Nodes in
    let first = c.in_ok-older.ensures in
    let second = c.in_ok-newer.ensures in
    let before = nodes.contents c.args.nodes.now in
    let between = nodes.contents c.find_root.new.nodes in
    let after = nodes.contents c.find_root-2.new.nodes in
    let new = root-possible nodes.is_observable nodes.IsPage before between after first.uses.same second.uses.same c.args.new c.in_ok-newer.newer k o (second.at o) is in
    c.in-Err-Refused.ensures.newer.bounded k new.holds

pub returns-clause-cause : goal.returns-clause-cause
returns-clause-cause g c =
    let nodes = g.N.Nodes in
    let first = c.in_ok-older.ensures.uses in
    let second = c.in_ok-newer.ensures.uses in
    let before = nodes.contents c.args.nodes.now in
    let after = nodes.contents c.find_root-2.new.nodes in
    let low = first.rises in
    let high = second.rises in
    walk-refused nodes.is_observable nodes.IsPage c.args.old c.args.new before after (nodes.faults c.args.nodes.now) (nodes.faults c.find_root-2.new.nodes) (nodes.faults c.compare.new.state) c.in-Err-Refused.fault (second.same ∙ first.same) (omega arith)
    (refused-is (IsFetchCause nodes.is_observable (λ x. nodes.IsPage (nodes.contents c.find_root-2.new.nodes)) (nodes.faults c.find_root-2.new.nodes) (nodes.faults c.compare.new.state)) c.in-Err-Refused.field-0 c.in-Err-Refused.fault c.in-Err-Refused.field-0-is c.in-Err-Refused.ensures.uses.cause)
