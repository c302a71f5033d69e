use Rattle.std.specs.Prelude.{◌≡◌, ◌++◌, ℕ, List}
use Rattle.std.proofs.Common.{ap, sym, subst, ◌∙◌, rules}
use Rattle.btr_disk.specs.Gate.{zeros}
use Rattle.btr_log.specs.Append.{IsAppendRun}
use Rattle.btr_log.proofs.AppendLemmas.{IsAppendRun-from}
use Rattle.btr_engine_tests.proofs.log_tests.run_in_two.Goals as goal

pub returns-clause-run : goal.returns-clause-run
unfolding zeros
returns-clause-run c =
    let body = c.in_ok-body_of.field-0.items in
    let last = c.in_ok-zeros.zeros.items in
    let is : IsAppendRun (body ++ zeros 4096) = IsAppendRun-from body c.args.head.now c.in_ok-body_of.ensures in
    let prefix : c.in_ok-prefix.prefix ≡ body = c.in_ok-prefix.ensures in
    let closed : last ≡ zeros 4096 = search rules in
    let e : c.in_ok-prefix.prefix ++ last ≡ body ++ zeros 4096 = ap (λ (l : List ℕ). l ++ last) prefix ∙ ap (λ (l : List ℕ). body ++ l) closed in
    subst IsAppendRun (sym e) is
