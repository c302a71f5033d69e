use Rattle.std.proofs.Common.{◌+◌, IfNone, IfSome, sym, ◌∙◌, ap, subst}
use Rattle.std.proofs.lemmas.Bool.{false≢true}
use Rattle.std.specs.Option.{is_some}
use Rattle.btr_open.specs.Content.{HasContent, HasNoContent, node_blocks_of}
use Rattle.btr_open.specs.Seen.{IsJudged}
use Rattle.btr_open.proofs.LoadingLemmas.{no-entry, nothing-next, forbidden, ruled-out, judged-added, judged-wrong, no-refusal}
use Rattle.btr_open.proofs.loading.Loader.add.Goals as goal

pub returns-in_default-clause-damaged : goal.returns-in_default-clause-damaged
returns-in_default-clause-damaged g c =
    let number = c.entries-number.result + 1 in
    let head = c.args.head.now in
    let body = c.args.body.now in
    let gate = c.args.gate in
    let none = subst (λ o. IfNone o (HasNoContent number body)) c.in_default.is c.in_ok-entry.ensures.none in
    nothing-next g.J.Judge gate head.root body (node_blocks_of head body) c.args.self.now c.args.judge.now (gate + 1)
    (no-entry gate number body head c.args.self.now c.requires.body c.requires.kind (ap (λ n. n + 1) c.entries-number.ensures) none)

pub returns-then-is_some-clause-damaged : goal.returns-then-is_some-clause-damaged
returns-then-is_some-clause-damaged g c =
    let number = c.entries-number.result + 1 in
    let head = c.args.head.now in
    let body = c.args.body.now in
    let content = subst (λ o. IfSome o (λ e. HasContent number e head.root (node_blocks_of head body) body)) c.in-Some.is c.in_ok-entry.ensures.found in
    forbidden g.J.Judge c.args.gate head.root body (node_blocks_of head body) c.args.self.now c.args.judge.now number c.in-Some.entry (ap (λ n. n + 1) c.entries-number.ensures) content (λ fits. false≢true (sym (c.if-is_some.ensures ∙ ap is_some (c.refusal.ensures.rolled ∙ fits))))

pub returns-then-branch-clause-added : goal.returns-then-branch-clause-added
returns-then-branch-clause-added g c =
    let by = g.J.Judge in
    let head = c.args.head.now in
    let body = c.args.body.now in
    let e = c.in-Some.entry in
    judged-added by c.args.gate head.root body (node_blocks_of head body) c.args.self.now c.args.judge.now e c.judge.new.self
    (λ seen was. subst (IsJudged by.may by.is_after seen e head.root c.judge.new.self) c.if-branch.true (c.in_ok-judge.ensures seen was))
    c.add_entry.new.self c.add_entry.result c.add_entry.ensures.added

pub returns-then-branch-clause-damaged : goal.returns-then-branch-clause-damaged
returns-then-branch-clause-damaged g c =
    let by = g.J.Judge in
    let head = c.args.head.now in
    let body = c.args.body.now in
    let e = c.in-Some.entry in
    judged-wrong by c.args.gate head.root body (node_blocks_of head body) c.args.self.now c.args.judge.now e c.judge.new.self
    (λ seen was. subst (IsJudged by.may by.is_after seen e head.root c.judge.new.self) c.if-branch.true (c.in_ok-judge.ensures seen was))
    (sym c.refusal.ensures.rolled ∙ no-refusal c.refusal.result (sym c.if-is_some.ensures)) c.add_entry.result c.add_entry.ensures.damaged

pub returns-clause-damaged : goal.returns-clause-damaged
returns-clause-damaged g c =
    let by = g.J.Judge in
    let number = c.entries-number.result + 1 in
    let head = c.args.head.now in
    let body = c.args.body.now in
    let e = c.in-Some.entry in
    let content = subst (λ o. IfSome o (λ x. HasContent number x head.root (node_blocks_of head body) body)) c.in-Some.is c.in_ok-entry.ensures.found in
    ruled-out by c.args.gate head.root body (node_blocks_of head body) c.args.self.now c.args.judge.now number e (ap (λ n. n + 1) c.entries-number.ensures) content
    (λ seen was may. subst (IsJudged by.may by.is_after seen e head.root c.judge.new.self) c.if-branch.false (c.in_ok-judge.ensures seen was) may)
