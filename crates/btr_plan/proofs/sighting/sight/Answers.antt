-- An output has its latest version, and its inputs have theirs, which it may read.
use Rattle.std.proofs.Common.{◌≡◌, ◌∙◌, sym, subst, true, None}
use Rattle.std.proofs.lemmas.Option.{none-some, same_Some}
use Rattle.btr_hist.specs.declared.kernel.Reads.{Reads}
use Rattle.btr_hist.specs.History.{spec_of, latest, reads, latest_reads}
use Rattle.btr_hist.specs.Legal.{may_read}
use Rattle.btr_hist.proofs.VersionLemmas.{spec_of-known}
use Rattle.btr_tree.proofs.UntouchedNodeLemmas.{match-weaker}
use Rattle.btr_plan.specs.Sight.{IsSightTo, IsSightAfter}
use Rattle.btr_plan.proofs.SightLemmas.{latest-there, inputs-known, latest-may, sight-latest}
use Rattle.btr_plan.proofs.sighting.sight.Goals as goal

pub returns-in_err-version : goal.returns-in_err-version
returns-in_err-version c = λ h of.
    let stream = c.args.stream in
    let known = spec_of-known h stream c.in_ok-spec.spec (sym (c.in_ok-spec.ensures h of)) in
    absurd (none-some (latest h stream) (c.in_err-version.ensures h of ∙ latest-there h stream known))

pub returns-in_err-new : goal.returns-in_err-new
returns-in_err-new c = λ h of.
    let stream = c.args.stream in
    let spec = c.in_ok-spec.spec in
    let known = inputs-known h stream spec of.follows (sym (c.in_ok-spec.ensures h of)) in
    absurd (none-some (latest_reads h spec) (c.in_err-new.ensures h of known))

pub returns : goal.returns
returns c = λ h of.
    let stream = c.args.stream in
    let spec = c.in_ok-spec.spec in
    let new = c.in_ok-new.new in
    let output = sym (c.in_ok-spec.ensures h of) in
    let last = same_Some c.in_ok-version.version (latest h stream) (c.in_ok-version.ensures h of ∙ latest-there h stream (spec_of-known h stream spec output)) in
    let new_is = same_Some new (latest_reads h spec) (c.in_ok-new.ensures h of (inputs-known h stream spec of.follows output)) in
    let may = subst (λ (r : Reads). may_read h spec (reads h stream spec (latest h stream)) r ≡ true) (sym new_is) (latest-may h stream spec of.follows output) in
    match-weaker c.sight_of.result ⊥ (spec_of h stream ≡ None) (IsSightTo h stream new) (IsSightAfter h stream) (λ no. absurd no)
    (λ s sight. sight-latest h stream spec s output (subst (λ (r : Reads). IsSightTo h stream r s) new_is sight))
    (c.sight_of.ensures h of output last may)
