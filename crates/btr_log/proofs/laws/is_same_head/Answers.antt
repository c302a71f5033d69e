use Rattle.std.specs.Prelude.{◌≡◌}
use Rattle.std.proofs.Common.{ap, arith}
use Rattle.std.proofs.lemmas.Bool.Decides.{nat_tests}
use Rattle.btr_log.specs.declared.head.Head.{Head}
use Rattle.btr_log.specs.Head.{head_bytes}
use Rattle.btr_log.proofs.HeadLemmas.{head_bytes-one}
use Rattle.btr_log.proofs.laws.is_same_head.Goals as goal

pub returns : goal.returns
returns c =
    let a = c.args.first.now in
    let b = c.args.second.now in
    let r = c.eq.ensures in (
      λ yes.
          let e1 : a.kind ≡ b.kind = grind (arith, nat_tests) in
          let e2 : a.format ≡ b.format = grind (arith, nat_tests) in
          let e3 : a.number ≡ b.number = grind (arith, nat_tests) in
          let e4 : a.n ≡ b.n = grind (arith, nat_tests) in
          let e5 : a.length ≡ b.length = grind (arith, nat_tests) in
          let e6 : a.nodes ≡ b.nodes = grind (arith, nat_tests) in
          let e7 : a.root ≡ b.root = grind (arith, nat_tests) in
          let same : a ≡ b = λ i. record { kind = e1 i; format = e2 i; number = e3 i; n = e4 i; length = e5 i; nodes = e6 i; root = e7 i } in
          ap head_bytes same,
      λ same.
          let one : a ≡ b = head_bytes-one a b c.requires.first c.requires.second same in
          let e1 : a.kind ≡ b.kind = ap (λ (h : Head). h.kind) one in
          let e2 : a.format ≡ b.format = ap (λ (h : Head). h.format) one in
          let e3 : a.number ≡ b.number = ap (λ (h : Head). h.number) one in
          let e4 : a.n ≡ b.n = ap (λ (h : Head). h.n) one in
          let e5 : a.length ≡ b.length = ap (λ (h : Head). h.length) one in
          let e6 : a.nodes ≡ b.nodes = ap (λ (h : Head). h.nodes) one in
          let e7 : a.root ≡ b.root = ap (λ (h : Head). h.root) one in
          grind (arith, nat_tests),
    )
