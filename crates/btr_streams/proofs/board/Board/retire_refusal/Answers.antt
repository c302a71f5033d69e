use Rattle.std.specs.Prelude.{◌≡◌, ◌-◌, ◌<◌, ◌≤◌, ◌⊎◌, length, slice_get, Some}
use Rattle.std.proofs.Common.{sym, ap, ◌∙◌, subst, arith, inl, inr}
use Rattle.btr_board.specs.Numbers.{number_of}
use Rattle.btr_streams.specs.Board.{Versions, Kept, IsGrown}
use Rattle.btr_streams.proofs.BoardNext.{kept-at}
use Rattle.btr_streams.proofs.RolledOutline.{retire-unknown, retire-bad, retire-held}
use Rattle.btr_streams.proofs.board.Board.retire_refusal.Goals.{In-Some, then-first-kept-via-then-first-kept, then-first-kept-via-else-first-kept+then-latest-first}
use Rattle.btr_streams.proofs.board.Board.retire_refusal.Goals as goal

-- The stream is at its place, and keeps what each stream of a board keeps.
kept : (c : In-Some) → (slice_get c.args.self.now.streams c.args.stream ≡ Some c.in-Some.kept.now) × IsGrown c.in-Some.kept.now
kept c =
    kept-at c.self.inside.streams (number_of c.self.inside.numbers) c.self.invariant c.self.inside.entries c.args.self.now c.self.view_is c.args.stream c.in-Some.kept.now c.in-Some.ensures

pub returns-in_default-clause-rolled : goal.returns-in_default-clause-rolled
returns-in_default-clause-rolled c =
    let past : length c.args.self.now.streams ≤ c.args.stream = subst (λ (b : Kept). length b.streams ≤ c.args.stream) c.self.view_is c.in_default.ensures in
    sym (retire-unknown c.args.self.now c.args.stream past c.args.first)

pub returns-then-first-kept-clause-rolled : goal.returns-then-first-kept-clause-rolled
returns-then-first-kept-clause-rolled c =
    let one = c.in-Some.kept.now in
    let earlier = c.kept.inside.earliest in
    let latest = c.len.result - 1 in
    let earlier_is : earlier ≡ one.earliest = ap (λ (s : Versions). s.earliest) c.kept.view_is in
    let size : c.len.result ≡ length one.trees = c.len.ensures ∙ ap (λ (s : Versions). length s.trees) c.kept.view_is in
    let latest_is : latest ≡ length one.trees - 1 = omega (arith, size) in
    retire-bad c.args.self.now c.args.stream one (kept (goal.at.returns-then-first-kept-clause-rolled c).In-Some).0 c.args.first earlier latest earlier_is latest_is (elim c.then-first-kept.branch as (λ _. (c.args.first ≤ earlier) ⊎ (latest < c.args.first)) [
      | then-first-kept-via-then-first-kept w ↦ inl w.if-first-kept.true
      | then-first-kept-via-else-first-kept+then-latest-first w ↦ inr w.if-latest-first.true
    ])

pub returns-clause-rolled : goal.returns-clause-rolled
returns-clause-rolled c =
    let one = c.in-Some.kept.now in
    let latest = c.len.result - 1 in
    let earlier_is : c.kept.inside.earliest ≡ one.earliest = ap (λ (s : Versions). s.earliest) c.kept.view_is in
    let size : c.len.result ≡ length one.trees = c.len.ensures ∙ ap (λ (s : Versions). length s.trees) c.kept.view_is in
    let latest_is : latest ≡ length one.trees - 1 = omega (arith, size) in
    c.held.ensures ∙ retire-held c.args.self.now c.args.stream one (kept (goal.at.returns-clause-rolled c).In-Some).0 c.args.first c.kept.inside.earliest latest earlier_is latest_is c.if-first-kept.false c.if-latest-first.false

pub returns-clause-room : goal.returns-clause-room
returns-clause-room c none =
    let one = c.in-Some.kept.now in
    let is = kept (goal.at.returns-clause-room c).In-Some in
    let some = is.1.some in
    let size : c.len.result ≡ length one.trees = c.len.ensures ∙ ap (λ (s : Versions). length s.trees) c.kept.view_is in
    record { kept = one; there = is.0; grown = is.1; made = omega (arith, size, c.if-latest-first.false) }
