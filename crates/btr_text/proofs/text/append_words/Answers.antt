use Rattle.std.proofs.Common.{◌∷◌, take}
use Rattle.std.specs.List.{flat_map}
use Rattle.btr_text.proofs.TextLemmas.{on_any_err, prefix_stays}
use Rattle.btr_text.proofs.text.append_words.Goals as goal

pub returns-in_err-append_word-clause-err : goal.returns-in_err-append_word-clause-err
returns-in_err-append_word-clause-err c =
    on_any_err _ (prefix_stays c.args.out.now.items (flat_map (λ w. 32 ∷ w.now) (take c.loop-word.word-index c.args.words.now)) c.loop-word.out.items c.append_word.new.out.items c.loop-word.invariant c.in_err-append_word.ensures.err)
