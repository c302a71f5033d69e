use Rattle.std.specs.Prelude.{◌≡◌, ◌++◌, ℕ, List}
use Rattle.std.proofs.Common.{ap, sym, subst, ◌∙◌, rules}
use Rattle.btr_disk.specs.Gate.{zeros}
use Rattle.btr_log.specs.Append.{IsAppendRun}
use Rattle.btr_log.proofs.AppendLemmas.{IsAppendRun-from}
use Rattle.btr_engine_tests.proofs.log_tests.run_of.Goals as goal

pub returns : goal.returns
unfolding zeros
returns c =
    let body = c.in_ok-body_of.field-0.items in
    let last = c.in_ok-vec.field-0.items in
    let is : IsAppendRun (body ++ zeros 4096) = IsAppendRun-from body c.args.head.now c.in_ok-body_of.ensures in
    let run : c.in_ok-run.run' ≡ body = c.in_ok-run.ensures in
    let closed : last ≡ zeros 4096 = search rules in
    let e : c.push.new.self ≡ body ++ zeros 4096 = c.in_ok-push.ensures.added ∙ ap (λ (l : List ℕ). l ++ last) run ∙ ap (λ (l : List ℕ). body ++ l) closed in
    subst IsAppendRun (sym e) is
