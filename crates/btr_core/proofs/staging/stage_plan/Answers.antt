-- The output has another version since, or the entry is the one that the model lands.
use Rattle.std.specs.Option.{unwrap_or}
use Rattle.std.proofs.Common.{◌≡◌, ◌∙◌, ◌≤◌, ◌<◌, sym, ap, subst, arith, List, ℕ, Option, IfOk}
use Rattle.btr_hist.specs.declared.entry.Entry.{Entry}
use Rattle.btr_hist.specs.History.{latest}
use Rattle.btr_hist.specs.Legal.{rejection}
use Rattle.btr_hist.specs.Machine.{committed, commit_reply}
use Rattle.btr_hist.specs.Machine.{Reply as replies}
use Rattle.btr_hist.proofs.VersionLemmas.{spec_of-known}
use Rattle.btr_streams.specs.Board.{IsBoardOf, latest_of}
use Rattle.btr_distil.specs.Plan.{entry_of}
use Rattle.btr_plan.specs.Plan.{IsPlanOf, landed_after}
use Rattle.btr_plan.proofs.SightLemmas.{latest-there}
use Rattle.btr_plan.proofs.PlanLemmas.{plan-current, reply-superseded, reply-legal}
use Rattle.btr_core.specs.Staging.{Makes}
use Rattle.btr_core.proofs.staging.stage_plan.Goals.{After-unwrap_or-version}
use Rattle.btr_core.proofs.staging.stage_plan.Goals as goal

-- the latest version of the output
last : (c : After-unwrap_or-version) (h : List Entry) → IsBoardOf h c.args.board.now → IsPlanOf h c.args.plan.now → c.unwrap_or-version.result ≡ latest h c.args.plan.now.stream
last c h of is =
    let stream = c.args.plan.now.stream in
    let known = spec_of-known h stream is.spec is.output in
    c.unwrap_or-version.ensures
    ∙ ap (λ (o : Option ℕ). unwrap_or o 0) (c.latest.ensures.of h of ∙ ap (latest_of h) c.stream.ensures ∙ latest-there h stream known)

pub returns-then-base-version : goal.returns-then-base-version
returns-then-base-version c = λ h of legal is.
    let p = c.args.plan.now in
    let version = last (goal.at.returns-then-base-version c).After-unwrap_or-version h of is in
    let late : p.base < latest h p.stream = omega (arith, c.if-base-version.true, c.base.ensures) in
    let landed = reply-superseded h p is late in
    (ap (λ (v : ℕ). replies.Superseded v) version ∙ sym landed.0, landed.1)

pub returns : goal.returns
returns c = λ h of legal is.
    let p = c.args.plan.now in
    let version = last (goal.at.returns c).After-unwrap_or-version h of is in
    let low : latest h p.stream ≤ p.base = omega (arith, c.if-base-version.false, c.base.ensures) in
    let landed = reply-legal h p legal is (plan-current h p is low) in
    let e = entry_of p in
    subst (λ (r : replies). IfOk c.stage.result (Makes h r (landed_after h p))) (sym landed.0)
    (subst (λ (l : List Entry). IfOk c.stage.result (Makes h (commit_reply h e (rejection h e)) l)) (sym landed.1)
    (subst (λ (x : Entry). IfOk c.stage.result (Makes h (commit_reply h x (rejection h x)) (committed h x (rejection h x)))) c.entry.ensures (c.stage.ensures h of)))
