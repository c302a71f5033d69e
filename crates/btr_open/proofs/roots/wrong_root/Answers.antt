use Rattle.std.proofs.Common.{◌==◌, List, length, not, refl, ap, ◌∙◌}
use Rattle.std.specs.Option.{unwrap_or}
use Rattle.btr_base.specs.declared.point.Point.{Point}
use Rattle.btr_streams.specs.Rolling.{rolled}
use Rattle.btr_open.proofs.RootLemmas.{tested-right, right-tested, latest-rolled-or, adds-not-empty}
use Rattle.btr_open.proofs.roots.wrong_root.Goals as goal

pub returns-in-Right-clause-right : goal.returns-in-Right-clause-right
returns-in-Right-clause-right c pages known none =
    let a = c.args in
    let some_is = ap not (c.is_empty.ensures ∙ ap (λ (l : List Point). length l == 0) c.as_slice.ensures.points) ∙ adds-not-empty c.in-Commit.added in
    let version_is = c.unwrap_or-version.ensures ∙ ap (λ o. unwrap_or o 0) c.latest.ensures.kept ∙ latest-rolled-or a.loader.now.board c.in-Commit.stream in
    tested-right pages (rolled a.loader.now.board) a.entry.now a.first a.root c.in-Commit.stream c.unwrap_or-version.result (not c.is_empty.result) a.bytes.now
    (record { added = c.in-Commit.added; makes = c.in-Commit.is; version_is = version_is; some_is = some_is })
    (c.in-Right.ensures.right pages known refl)

pub returns-in-Wrong-clause-wrong : goal.returns-in-Wrong-clause-wrong
returns-in-Wrong-clause-wrong c pages known may =
    let a = c.args in
    let some_is = ap not (c.is_empty.ensures ∙ ap (λ (l : List Point). length l == 0) c.as_slice.ensures.points) ∙ adds-not-empty c.in-Commit.added in
    let version_is = c.unwrap_or-version.ensures ∙ ap (λ o. unwrap_or o 0) c.latest.ensures.kept ∙ latest-rolled-or a.loader.now.board c.in-Commit.stream in
    c.in-Wrong.ensures.not_right pages known (λ same. absurd (cc))
    (right-tested pages (rolled a.loader.now.board) a.entry.now a.first a.root c.in-Commit.stream c.unwrap_or-version.result (not c.is_empty.result) a.bytes.now
    (record { added = c.in-Commit.added; makes = c.in-Commit.is; version_is = version_is; some_is = some_is }) may)
