-- The list of the lane has one line more.
use Rattle.std.proofs.Common.{◌≡◌, ◌<◌, ℕ, sym, ap, subst, ◌∙◌, ◌++◌, ◌∷◌, [], length, set, arith}
use Rattle.btr_live.specs.OneHistory.{of_lane}
use Rattle.btr_live.specs.Parts.{list_at}
use Rattle.btr_live.proofs.PartLemmas.{list-put, list-place}
use Rattle.btr_live.proofs.prepare.put.Goals as goal

pub returns-clause-put : goal.returns-clause-put
returns-clause-put c =
    let lists = c.args.lists.now.items in
    let at = c.from.result in
    let low : at < length lists = omega (arith, c.from.ensures, c.requires.there) in
    let had = ap (λ v. v.items) c.index_mut.ensures.value ∙ sym (list-place lists at c.index_mut.result.now low) in
    let now = c.in_ok-push.ensures.items ∙ ap (λ xs. xs ++ c.args.line ∷ []) had in
    subst (λ n. (k : ℕ) → list_at (set lists at c.push.new.self) k ≡ list_at lists k ++ of_lane k (n ∷ []) (c.args.line ∷ [])) c.from.ensures
    (list-put lists at c.push.new.self c.args.line low now)
