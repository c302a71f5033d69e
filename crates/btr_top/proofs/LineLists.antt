-- The lines of a list that is gone through.
use Rattle.std.specs.Prelude.{◌≡◌, List, [], ◌∷◌, ◌++◌}
use Rattle.std.proofs.Common.{sym, ◌∙◌, ap, append_assoc}
use Rattle.btr_text.specs.declared.script.ScriptLine.{ScriptLine}

-- One line is taken from those that are left.
pub split-push : (done old new lines : List ScriptLine) (line : ScriptLine) → done ++ old ≡ lines → old ≡ line ∷ new → (done ++ line ∷ []) ++ new ≡ lines
split-push done old new lines line split taken =
    append_assoc done (line ∷ []) new ∙ ap (λ (x : List ScriptLine). done ++ x) (sym taken) ∙ split
