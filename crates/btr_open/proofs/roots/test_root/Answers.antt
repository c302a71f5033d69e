use Rattle.std.proofs.Common.{◌≤◌, ◌*◌, ◌-◌, length, arith, inl, inr}
use Rattle.btr_open.proofs.RootLemmas.{no-block}
use Rattle.btr_open.proofs.roots.test_root.Goals as goal

-- After the last node block there is no page.
pub returns-then-place-bytes-clause-not_right : goal.returns-then-place-bytes-clause-not_right
returns-then-place-bytes-clause-not_right c pages are wrong (inl none) =
    elim c.else-root-eq0.either [ inl some ↦ let no = some.1 in let yes = none.1 in absurd (cc) | inr more ↦ absurd (more none.0) ]
returns-then-place-bytes-clause-not_right c pages are wrong (inr has) =
    let from : c.args.first ≤ c.args.root = c.if-root-first.false in
    let past = c.if-place-bytes.true in
    let whole = c.requires.whole in
    let all : length c.args.bytes.now ≤ 4096 * (c.args.root - c.args.first) = omega arith in
    elim has.is [
      | inl below ↦ let less = below.0 in absurd (omega arith)
      | inr among ↦ no-block c.args.bytes.now (c.args.root - c.args.first) has.page all among.1 among.2
    ]
