use Rattle.std.proofs.Common.{◌∙◌, ap, sym}
use Rattle.btr_board.specs.Numbers.{number_in}
use Rattle.btr_board.proofs.NumberLemmas.{none-number, some-number}
use Rattle.btr_board.proofs.index.Index.find.Goals as goal

pub returns-in-None : goal.returns-in-None
returns-in-None c =
    sym (none-number c.self.inside.root c.args.self.now c.args.id c.in-None.is c.self.view_is)

pub returns-in-Some : goal.returns-in-Some
returns-in-Some c =
    c.find_in.ensures
    ∙ ap (λ n. number_in 128 n c.args.id) c.deref.ensures
    ∙ sym (some-number c.self.inside.root c.args.self.now c.in-Some.root c.args.id c.in-Some.is c.self.view_is)
