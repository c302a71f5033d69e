use Rattle.std.proofs.Common.{◌≡◌, ◌∙◌, sym, ap, subst, ◌++◌, ◌-◌, ◌+◌, ◌<◌, length, take, drop, Some, None}
use Rattle.std.proofs.lemmas.Result.{err_from_is_err_and}
use Rattle.memchr.specs.Find.{IsFirstByte, is_byte}
use Rattle.btr_lines.proofs.TakeLemmas.{takes_line, takes_all, exceeds_line, exceeds_all, err-same}
use Rattle.btr_lines.proofs.lines.Lines.take_held.Goals.{After-memchr}
use Rattle.btr_lines.proofs.lines.Lines.take_held.Goals as goal

-- the slice that is searched is what is held
held_is : (c : After-memchr) → take (c.self.inside.end - c.self.inside.start) (drop c.self.inside.start c.deref.result.now) ≡ c.args.self.now
held_is c = ap (λ b. take (c.self.inside.end - c.self.inside.start) (drop c.self.inside.start b)) c.deref.ensures.value ∙ c.self.view_is

pub returns-in_err-append-in-Some-clause-too_long :
    goal.returns-in_err-append-in-Some-clause-too_long
returns-in_err-append-in-Some-clause-too_long c =
    let p = err_from_is_err_and c.from_residual.result c.from_residual.ensures.1 in
    let is = held_is (goal.at.returns-in_err-append-in-Some-clause-too_long c).After-memchr in
    rw (p.1, p.2) (λ e. exceeds_line c.args.limit c.args.line.now.items c.args.self.now c.in-Some.n
    (subst (λ h. IsFirstByte (is_byte 10) h (Some c.in-Some.n)) is c.in-Some.ensures)
    (subst (λ h. c.args.limit < length c.args.line.now.items + length (take c.in-Some.n h)) is (c.in_err-append-in-Some.ensures.too_long (err-same _ _ e))))

pub returns-in_err-append-in-None-clause-too_long :
    goal.returns-in_err-append-in-None-clause-too_long
returns-in_err-append-in-None-clause-too_long c =
    let p = err_from_is_err_and c.from_residual-in_err-append-in-None.result c.from_residual-in_err-append-in-None.ensures.1 in
    let is = held_is (goal.at.returns-in_err-append-in-None-clause-too_long c).After-memchr in
    rw (p.1, p.2) (λ e. exceeds_all c.args.limit c.args.line.now.items c.args.self.now
    (subst (λ h. IsFirstByte (is_byte 10) h None) is c.in-None.ensures)
    (subst (λ h. c.args.limit < length c.args.line.now.items + length h) is (c.in_err-append-in-None.ensures.too_long (err-same _ _ e))))

pub returns-in_ok-append-in-Some-clause-takes : goal.returns-in_ok-append-in-Some-clause-takes
returns-in_ok-append-in-Some-clause-takes c =
    let is = held_is (goal.at.returns-in_ok-append-in-Some-clause-takes c).After-memchr in
    takes_line c.self.inside.buffer.items c.self.inside.start c.self.inside.end c.args.line.now.items _ c.args.self.now (sym c.self.view_is) c.in-Some.n
    (subst (λ h. IsFirstByte (is_byte 10) h (Some c.in-Some.n)) is c.in-Some.ensures)
    (c.in_ok-append-in-Some.ensures.line ∙ ap (λ h. c.args.line.now.items ++ take c.in-Some.n h) is)

pub returns-in_ok-append-in-None-clause-takes : goal.returns-in_ok-append-in-None-clause-takes
returns-in_ok-append-in-None-clause-takes c =
    let is = held_is (goal.at.returns-in_ok-append-in-None-clause-takes c).After-memchr in
    takes_all c.self.inside.buffer.items c.self.inside.start c.self.inside.end c.args.line.now.items _ c.args.self.now (sym c.self.view_is)
    (subst (λ h. IsFirstByte (is_byte 10) h None) is c.in-None.ensures)
    (c.in_ok-append-in-None.ensures.line ∙ ap (λ h. c.args.line.now.items ++ h) is)
