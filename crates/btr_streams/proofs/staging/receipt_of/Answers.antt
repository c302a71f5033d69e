use Rattle.std.specs.Prelude.{◌≡◌, ◌+◌, ℕ, length}
use Rattle.std.proofs.Common.{refl, sym, ap, ◌∙◌, subst, ⊎_elim}
use Rattle.std.specs.Option.{unwrap_or}
use Rattle.btr_hist.specs.declared.entry.Entry.{Entry}
use Rattle.btr_hist.specs.History.{latest}
use Rattle.btr_streams.specs.declared.board.Receipt.{Receipt}
use Rattle.btr_streams.specs.Stage.{IsReceipt}
use Rattle.btr_streams.proofs.StreamsLemmas.{has-streams, latest-or}
use Rattle.btr_streams.proofs.staging.receipt_of.Goals as goal

pub returns-in-Commit-clause-of : goal.returns-in-Commit-clause-of
returns-in-Commit-clause-of c h of allowed =
    let s : ℕ = c.in-Commit.stream in
    let receipt : Receipt = record { number = c.entries-number.result + 1; stream = s; version = c.unwrap_or.result + 1 } in
    let number : c.entries-number.result + 1 ≡ length h + 1 = ap (λ (n : ℕ). n + 1) (c.entries-number.ensures ∙ of.entries) in
    let version : c.unwrap_or.result + 1 ≡ latest h s + 1 = ap (λ (n : ℕ). n + 1) (c.unwrap_or.ensures ∙ ap (λ o. unwrap_or o 0) (c.latest.ensures.of h of) ∙ sym (latest-or h c.args.board.now (has-streams h c.args.board.now of) s)) in
    ⊎_elim
    (λ commit. subst (λ (e : Entry). IsReceipt h e receipt) (sym commit.2) (record { number = number; stream = refl; version = version }))
    (λ distillate. subst (λ (e : Entry). IsReceipt h e receipt) (sym distillate.3) (record { number = number; stream = refl; version = version }))
    c.in-Commit.is
