use Rattle.std.proofs.Common.{◌∙◌, arith}
use Rattle.std.proofs.lemmas.Result.{err_from_is_err_and}
use Rattle.btr_io.proofs.GivenBytes.{gave-after, gives-after, all-given, gave-got, gives-end, err-same}
use Rattle.btr_io.proofs.reading.read_all.Goals as goal

pub returns-in_err-read_piece-clause-given : goal.returns-in_err-read_piece-clause-given
returns-in_err-read_piece-clause-given g c =
    λ t. gives-after c.loop-bytes.bytes.items _ _ _ _ c.loop-bytes.invariant.within (c.loop-bytes.invariant.kept t) (c.in_err-read_piece.ensures.given t)

pub returns-in_err-read_piece-clause-too_long : goal.returns-in_err-read_piece-clause-too_long
returns-in_err-read_piece-clause-too_long g c =
    λ t.
    let more = gave-after c.loop-bytes.bytes.items _ _ _ _ (c.loop-bytes.invariant.kept t) (c.in_err-read_piece.ensures.given t) in
    let p = err_from_is_err_and c.from_residual-in_err-read_piece.result c.from_residual-in_err-read_piece.ensures.1 in
    let w = c.in_err-read_piece.ensures.too_long t in
    rw (p.1, p.2, more) (λ e. w.0 (err-same _ _ e), λ l. err-same _ _ (w.1 l))

pub loop-bytes-preserved : goal.loop-bytes-preserved
loop-bytes-preserved g c = record {
  kept = λ t. c.in_ok-read_piece.ensures.kept t ∙ c.loop-bytes.invariant.kept t;
  within = c.in_ok-read_piece.ensures.within;
  piece = c.loop-bytes.invariant.piece;
  faults = omega (arith, c.loop-bytes.invariant.faults, c.in_ok-read_piece.ensures.never_falls);
}

pub returns-clause-bytes : goal.returns-clause-bytes
returns-clause-bytes g c =
    λ t.
    all-given _ _ _ (c.in_ok-read_piece.ensures.kept t ∙ c.loop-bytes.invariant.kept t) (c.in_ok-read_piece.ensures.end t c.if-branch.false)

pub returns-clause-end : goal.returns-clause-end
returns-clause-end g c = λ t. c.in_ok-read_piece.ensures.end t c.if-branch.false

pub returns-clause-given : goal.returns-clause-given
returns-clause-given g c =
    λ t.
    gives-end c.read_piece.new.bytes.items _ _ _ c.in_ok-read_piece.ensures.within (c.in_ok-read_piece.ensures.kept t ∙ c.loop-bytes.invariant.kept t) (c.in_ok-read_piece.ensures.end t c.if-branch.false)

pub returns-clause-too_long : goal.returns-clause-too_long
returns-clause-too_long g c = λ t. (λ e. cc, λ more. absurd (omega (arith, more, c.in_ok-read_piece.ensures.within, gave-got c.read_piece.new.bytes.items (g.S.Source.left c.read_piece.new.source) (g.S.Source.left c.args.source.now) (c.in_ok-read_piece.ensures.kept t ∙ c.loop-bytes.invariant.kept t))))
