-- The form of the line that defines an output by the aligned windows of one input.
use Rattle.std.specs.Prelude.{ℕ, List, [], ◌∷◌, if◌then◌else◌, codes, bytes_eq, Option, Some, None, option_map, option_and_then}
use Rattle.btr_hist.specs.declared.kernel.Kernel.TheVariants.{Cell}
use Rattle.btr_text.specs.declared.script.Line.{Line}
use Rattle.btr_text.specs.declared.script.Line.TheVariants.{Distiller}
use Rattle.btr_text.specs.Word.{power_of, id_of}

-- The number of the value of a window that one word names.
abbrev pub which_of : List ℕ → Option ℕ
which_of name =
    if bytes_eq name (codes "sum") then Some 1
    else if bytes_eq name (codes "mean") then Some 2
    else if bytes_eq name (codes "least") then Some 3
    else if bytes_eq name (codes "greatest") then Some 4
    else if bytes_eq name (codes "count") then Some 5
    else None

-- `cell ID WHICH P GRAIN ID`: an output of windows of `2^P` ns, which has one input and does not look back. A width or a grain that no
-- output can have is well-formed.
abbrev pub cell_form : List (List ℕ) → Option Line
cell_form (id ∷ name ∷ p ∷ grain ∷ first ∷ []) =
    option_and_then (λ output. option_and_then (λ which. option_and_then (λ power. option_and_then (λ g.
    option_map (λ f. Distiller output (Cell which power) 0 g f None)
    (id_of first)) (power_of grain)) (power_of p)) (which_of name)) (id_of id)
cell_form _ = None
