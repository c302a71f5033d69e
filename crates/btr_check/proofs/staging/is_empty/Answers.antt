use Rattle.std.specs.Prelude.{◌≡◌, length, MatchOption}
use Rattle.std.proofs.Common.{◌∙◌, ap, subst}
use Rattle.btr_base.specs.declared.point.Point.{Point}
use Rattle.btr_streams.specs.Board.{HasVersion, IsTreeOf}
use Rattle.btr_streams.specs.Past.{commits_to}
use Rattle.btr_streams.proofs.BoardTrees.{bag-commits_to}
use Rattle.btr_hist.specs.History.{bag}
use Rattle.btr_check.proofs.StagingLemmas.{empty-counted}
use Rattle.btr_check.proofs.staging.is_empty.Goals as goal

pub returns-in-Some : goal.returns-in-Some
returns-in-Some c h board has =
    let stream = c.args.stream in
    let version = c.args.version in
    let its = subst (λ o. MatchOption o (HasVersion h stream version → ⊥) (λ t. IsTreeOf h stream version t.now)) c.in-Some.is (c.tree.ensures.of h board) in
    let counted : c.count.result ≡ length (bag h stream version) = c.count.ensures (commits_to h stream version) its.tree ∙ ap (length {A = Point}) (bag-commits_to h stream version) in
    empty-counted c.count.result (bag h stream version) counted
