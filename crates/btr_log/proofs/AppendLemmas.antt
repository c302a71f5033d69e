-- Lemmas on runs that are appended.
use Rattle.std.specs.Prelude.{◌≡◌, ℕ, ◌-◌, ◌*◌, List, ◌++◌, length}
use Rattle.std.proofs.Common.{sym, ap, subst, arith, length-append}
use Rattle.std.proofs.lemmas.List.{take_at}
use Rattle.btr_disk.specs.Gate.{zeros}
use Rattle.btr_disk.proofs.GateLemmas.{length-zeros}
use Rattle.btr_log.specs.declared.head.Head.{Head}
use Rattle.btr_log.specs.Extents.{IsBody, need}
use Rattle.btr_log.specs.Append.{body_in_run, IsAppendRun}

pub body_in_run-append : (body : List ℕ) → body_in_run (body ++ zeros 4096) ≡ body
body_in_run-append body =
    take_at body (zeros 4096) (length (body ++ zeros 4096) - 4096) (omega (arith, length-append body (zeros 4096), length-zeros 4096))

pub IsAppendRun-from : (body : List ℕ) (head : Head) → IsBody body head → IsAppendRun (body ++ zeros 4096)
IsAppendRun-from body head is =
    let e = sym (body_in_run-append body) in
    record { body = (head, subst (λ b. IsBody b head) e is); closed_after = ap (λ b. b ++ zeros 4096) e }

-- the bytes of a run are the blocks that it needs
pub length-run : (run : List ℕ) → IsAppendRun run → length run ≡ 4096 * need (body_in_run run)
length-run run is =
    omega (arith, ap length is.closed_after, length-append (body_in_run run) (zeros 4096), length-zeros 4096, is.body.1.whole)
