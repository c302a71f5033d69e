use Rattle.std.proofs.Common.{◌≡◌, ◌∙◌, ap, sym, refl, Some, []}
use Rattle.btr_board.specs.Put.{put_at}
use Rattle.btr_board.specs.Numbers.{first, number_in, number_of}
use Rattle.btr_board.proofs.PutLemmas.{put-alike}
use Rattle.btr_board.proofs.NumberLemmas.{none-number, some-number}
use Rattle.btr_board.proofs.index.Index.insert.Goals.{in-None+in_ok-with_entry-in-None+in_ok-root-in-None, in-Some+in_ok-root-in-Some}
use Rattle.btr_board.proofs.index.Index.insert.Goals as goal

pub returns : goal.returns
returns c j =
    let put : number_in 128 c.match-self.root.value j ≡ put_at c.args.id c.args.number (number_of c.args.self.now) j =
    elim c.match-self.branch [
      | in-None+in_ok-with_entry-in-None+in_ok-root-in-None w ↦ ap (λ r. number_in 128 r.value j) w.root-is
          ∙ w.in_ok-root-in-None.ensures j
          ∙ w.in_ok-with_entry-in-None.ensures j
          ∙ put-alike c.args.id c.args.number (first []) (number_of c.args.self.now) j (sym (none-number c.self.inside.root c.args.self.now j w.in-None.is c.self.view_is))
      | in-Some+in_ok-root-in-Some w ↦ ap (λ r. number_in 128 r.value j) w.root-is
          ∙ w.in_ok-root-in-Some.ensures j
          ∙ put-alike c.args.id c.args.number (number_in 128 w.deref.result.now) (number_of c.args.self.now) j (ap (λ n. number_in 128 n j) w.deref.ensures
          ∙ sym (some-number c.self.inside.root c.args.self.now w.in-Some.root j w.in-Some.is c.self.view_is))
    ] in
    some-number (Some c.match-self.root) _ c.match-self.root j refl refl ∙ put
