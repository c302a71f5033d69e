-- The turn of the entry, and that of the id of an output which holds a version.
use Rattle.std.specs.Prelude.{Some, None, slice_get, unwrap_or}
use Rattle.std.proofs.Common.{◌≡◌, ◌∙◌, ℕ, Option, sym, ap, subst}
use Rattle.btr_hist.specs.History.{ids}
use Rattle.btr_gate.proofs.PrefixLemmas.{starts_refl}
use Rattle.btr_jobs.specs.States.{log_seen}
use Rattle.btr_jobs.proofs.StateLemmas.{history_goes_on}
use Rattle.btr_jobs.proofs.TurnLemmas.{commit_at, look_at}
use Rattle.btr_live.specs.Meaning.{Commits}
use Rattle.btr_live.specs.Serving.{RepliesIn, holding_output}
use Rattle.btr_live.proofs.ServeLemmas.{commit_replies, replies_look}
use Rattle.btr_live.proofs.line.commit.Goals as goal

some_is : (a b : ℕ) → Some a ≡ Some b → a ≡ b
some_is a b is = cc

pub returns-in-None-clause-at : goal.returns-in-None-clause-at
returns-in-None-clause-at g c =
    commit_at c.args.hall.now c.args.session.now c.commit-result.new.self c.args.entry.now c.commit-result.result c.commit-result.ensures.same c.commit-result.ensures.commits c.commit-result.ensures.session

pub returns-in-Some-clause-at : goal.returns-in-Some-clause-at
returns-in-Some-clause-at g c =
    look_at c.args.hall.now c.commit-result.new.self c.id.new.self c.id.ensures.looks c.id.ensures.session

pub returns-in-None-clause-replies : goal.returns-in-None-clause-replies
returns-in-None-clause-replies g c =
    let hall = c.args.hall.now in
    let new = c.commit-result.new.self in
    let result = c.commit-result.result in
    let none : holding_output result ≡ None = sym c.holding_output.ensures ∙ c.in-None.is in
    subst (λ r. RepliesIn hall c.args.session.now new (Commits c.args.entry.now) r) (sym c.reply_with.ensures)
    (commit_replies hall c.args.session.now new c.args.entry.now result 0 c.requires.user c.commit-result.ensures.same c.commit-result.ensures.commits
    (λ h of. ((log_seen h new).history, starts_refl (log_seen h new).history, λ output is. absurd (cc))))

pub returns-in-Some-clause-replies : goal.returns-in-Some-clause-replies
returns-in-Some-clause-replies g c =
    let hall = c.args.hall.now in
    let mid = c.commit-result.new.self in
    let new = c.id.new.self in
    let result = c.commit-result.result in
    let holds : holding_output result ≡ Some c.in-Some.output = sym c.holding_output.ensures ∙ c.in-Some.is in
    subst (λ r. RepliesIn hall c.args.session.now new (Commits c.args.entry.now) r) (sym c.reply_with-in-Some.ensures)
    (replies_look hall c.args.session.now mid new (Commits c.args.entry.now) _
    (look_at hall mid new c.id.ensures.looks c.id.ensures.session) c.id.ensures.looks
    (commit_replies hall c.args.session.now mid c.args.entry.now result c.unwrap_or-id.result c.requires.user c.commit-result.ensures.same c.commit-result.ensures.commits
    (λ h of. (
      (log_seen h new).history,
      history_goes_on h new mid c.id.ensures.looks.grows,
      λ output is.
          let same : c.in-Some.output ≡ output = some_is c.in-Some.output output (sym holds ∙ is) in
          c.unwrap_or-id.ensures ∙ ap (λ (o : Option ℕ). unwrap_or o 0) (c.id.ensures.id h of ∙ ap (λ (k : ℕ). slice_get (ids (log_seen h new).history) k) same),
    ))))
