use Rattle.std.proofs.Common.{◌≡◌, ℕ, ◌++◌, true, length, sym, ap, ◌∙◌, true≢false, arith, length-append}
use Rattle.std.specs.Int.{w32, w64}
use Rattle.btr_hist.specs.declared.kernel.Spec.{Spec}
use Rattle.btr_hist.specs.Kernel.{is_good}
use Rattle.btr_entry.specs.Grammar.{number, one_or_two}
use Rattle.btr_entry.proofs.NumberLemmas.{wide64}
use Rattle.btr_entry.proofs.FrameLemmas.{tails}
use Rattle.btr_entry.proofs.SpecLemmas.{after_lead, kernel_read, lead_read, spec_read}
use Rattle.btr_entry.proofs.spec_bytes.read_spec.Goals as goal

pub returns-in_err-lead-clause-none : goal.returns-in_err-lead-clause-none
returns-in_err-lead-clause-none c =
    rw c.from_residual-in_err-lead.ensures (λ s rest h same.
    let after = kernel_read c.args.bytes.now c.in_ok-kernel.rest.now c.in_ok-kernel.kernel s rest c.in_ok-kernel.ensures.fits c.in_ok-kernel.ensures.some h same in
    omega (arith, c.in_err-lead.ensures.none, ap (length {A = ℕ}) after, length-append (number w64 s.lead) (after_lead s rest), wide64.len s.lead))

pub returns-in_err-grain-clause-none : goal.returns-in_err-grain-clause-none
returns-in_err-grain-clause-none c =
    rw c.from_residual-in_err-grain.ensures (λ s rest h same.
    let after = kernel_read c.args.bytes.now c.in_ok-kernel.rest.now c.in_ok-kernel.kernel s rest c.in_ok-kernel.ensures.fits c.in_ok-kernel.ensures.some h same in
    let last = lead_read c.in_ok-kernel.rest.now c.in_ok-lead.rest.now c.in_ok-lead.lead s rest c.in_ok-lead.ensures.fits c.in_ok-lead.ensures.some h after in
    omega (arith, c.in_err-grain.ensures.cases, ap (length {A = ℕ}) last))

pub returns-in_err-first-clause-none : goal.returns-in_err-first-clause-none
returns-in_err-first-clause-none c =
    rw c.from_residual-in_err-first.ensures (λ s rest h same.
    let after = kernel_read c.args.bytes.now c.in_ok-kernel.rest.now c.in_ok-kernel.kernel s rest c.in_ok-kernel.ensures.fits c.in_ok-kernel.ensures.some h same in
    let last = lead_read c.in_ok-kernel.rest.now c.in_ok-lead.rest.now c.in_ok-lead.lead s rest c.in_ok-lead.ensures.fits c.in_ok-lead.ensures.some h after in
    let inputs = tails c.in_ok-grain.grain.now s.grain c.in_ok-grain.rest.now (one_or_two w32 s.first s.second ++ rest) (sym c.in_ok-grain.ensures.cases.0 ∙ last) in
    c.in_err-first.ensures.none s.first s.second rest inputs)

pub returns-then-not-is_good-clause-none : goal.returns-then-not-is_good-clause-none
returns-then-not-is_good-clause-none c s rest h same =
    let made : Spec = record { kernel = c.in_ok-kernel.kernel; lead = c.in_ok-lead.lead; grain = c.in_ok-grain.grain.now; first = c.in_ok-first.first; second = c.in_ok-first.second } in
    let read = spec_read c.args.bytes.now c.in_ok-kernel.rest.now c.in_ok-lead.rest.now c.in_ok-grain.rest.now c.in_ok-first.rest.now rest made s c.in_ok-kernel.ensures.fits c.in_ok-lead.ensures.fits c.in_ok-first.ensures.first_fits c.in_ok-first.ensures.second_fits c.in_ok-kernel.ensures.some c.in_ok-lead.ensures.some c.in_ok-grain.ensures.cases.0 c.in_ok-first.ensures.some h same in
    let good : is_good made ≡ true = ap is_good read.0 ∙ h.good in
    absurd (true≢false (sym good ∙ sym c.if-not-is_good.ensures))
