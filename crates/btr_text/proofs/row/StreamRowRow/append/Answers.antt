use Rattle.std.proofs.Common.{◌≡◌, List, ℕ, ◌∷◌, [], ◌++◌, OnOk, decimal, subst, ◌∙◌}
use Rattle.btr_text.specs.Text.{line_text, id_text, kind_word}
use Rattle.btr_text.proofs.row.StreamRowRow.append.Goals as goal

pub returns-clause-ok : goal.returns-clause-ok
returns-clause-ok c =
    let s = c.args.self.now in
    let id : c.as_bytes.result.now ≡ id_text s.id = c.as_bytes.ensures.value ∙ c.id_text.ensures in
    let latest : c.as_bytes-2.result.now ≡ decimal s.latest = c.as_bytes-2.ensures.value ∙ c.format.ensures.text in
    let kind : c.kind_word.result.now ≡ kind_word s.output = c.kind_word.ensures in
    subst (λ (w : List ℕ). OnOk c.append_line.result (c.append_line.new.out.items ≡ c.args.out.now.items ++ line_text (w ∷ decimal s.latest ∷ kind_word s.output ∷ []))) id
    (subst (λ (w : List ℕ). OnOk c.append_line.result (c.append_line.new.out.items ≡ c.args.out.now.items ++ line_text (c.as_bytes.result.now ∷ w ∷ kind_word s.output ∷ []))) latest
    (subst (λ (w : List ℕ). OnOk c.append_line.result (c.append_line.new.out.items ≡ c.args.out.now.items ++ line_text (c.as_bytes.result.now ∷ c.as_bytes-2.result.now ∷ w ∷ []))) kind c.append_line.ensures.ok))
