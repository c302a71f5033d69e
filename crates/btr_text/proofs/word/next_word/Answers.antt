use Rattle.std.proofs.Common.{drop, take, arith, ◌∙◌, sym, ap}
use Rattle.btr_text.proofs.WordLemmas.{no_word, first_word}
use Rattle.btr_text.proofs.word.next_word.Goals as goal

pub returns-then-end-eq0-clause-words : goal.returns-then-end-eq0-clause-words
returns-then-end-eq0-clause-words c =
    no_word c.args.line.now c.split_at.result.1.now (c.split_at.ensures.back ∙ ap (λ n. drop n c.args.line.now) c.leading_spaces.ensures.count) (sym c.word_length-end.ensures.count ∙ c.if-end-eq0.true)

pub returns-clause-words : goal.returns-clause-words
returns-clause-words c =
    first_word c.args.line.now c.split_at.result.1.now c.split_at-2.result.0.now c.split_at-2.result.1.now
    (c.split_at.ensures.back ∙ ap (λ n. drop n c.args.line.now) c.leading_spaces.ensures.count)
    (omega (arith, c.word_length-end.ensures.count))
    (c.split_at-2.ensures.front ∙ ap (λ n. take n c.split_at.result.1.now) c.word_length-end.ensures.count)
    (c.split_at-2.ensures.back ∙ ap (λ n. drop n c.split_at.result.1.now) c.word_length-end.ensures.count)
