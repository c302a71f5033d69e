-- The forms of the lines on outputs: one that defines an output by a kernel, and one that brings it up to date.
use Rattle.std.specs.Prelude.{ℕ, List, [], ◌∷◌, if◌then◌else◌, codes, bytes_eq, Option, Some, None, option_map, option_and_then}
use Rattle.btr_base.specs.Decimal.{signed_of}
use Rattle.btr_hist.specs.declared.kernel.Kernel.{Kernel}
use Rattle.btr_hist.specs.declared.kernel.Kernel.TheVariants.{Affine, Sum, Mean, Least, Greatest, Count, Delta, Minus, Angle, Hold}
use Rattle.btr_text.specs.declared.script.Line.{Line}
use Rattle.btr_text.specs.declared.script.Line.TheVariants.{Distiller, Refresh}
use Rattle.btr_text.specs.Word.{unsigned_of, power_of, id_of}

-- The kernel that one word names. `affine` is not among them, since three numbers follow it.
abbrev pub kernel_of : List ℕ → Option Kernel
kernel_of name =
    if bytes_eq name (codes "sum") then Some Sum
    else if bytes_eq name (codes "mean") then Some Mean
    else if bytes_eq name (codes "least") then Some Least
    else if bytes_eq name (codes "greatest") then Some Greatest
    else if bytes_eq name (codes "count") then Some Count
    else if bytes_eq name (codes "delta") then Some Delta
    else if bytes_eq name (codes "minus") then Some Minus
    else if bytes_eq name (codes "angle") then Some Angle
    else if bytes_eq name (codes "hold") then Some Hold
    else None

-- The kernel of `affine A B D`, from its three numbers. A divisor below 1 is well-formed.
abbrev pub affine_of : List ℕ → List ℕ → List ℕ → Option Kernel
affine_of a b d =
    option_and_then (λ factor. option_and_then (λ offset.
    option_map (λ divisor. Affine factor offset divisor) (signed_of d)) (signed_of b)) (signed_of a)

-- The second input: none if there is no word, or one id.
abbrev pub second_of : List (List ℕ) → Option (Option ℕ)
second_of [] = Some None
second_of (id ∷ []) = option_map (λ i. Some i) (id_of id)
second_of _ = None

-- The line that defines this output by this kernel, from the words after the kernel: `LEAD GRAIN ID [ID]`.
abbrev pub inputs_form : ℕ → Kernel → List (List ℕ) → Option Line
inputs_form output kernel (lead ∷ grain ∷ first ∷ ws) =
    option_and_then (λ l. option_and_then (λ g. option_and_then (λ f.
    option_map (λ s. Distiller output kernel l g f s) (second_of ws)) (id_of first)) (power_of grain)) (unsigned_of lead)
inputs_form output kernel _ = None

-- The line that defines this output by `affine`, from the words after that name: `A B D LEAD GRAIN ID [ID]`.
abbrev pub affine_form : ℕ → List (List ℕ) → Option Line
affine_form output (a ∷ b ∷ d ∷ ws) = option_and_then (λ kernel. inputs_form output kernel ws) (affine_of a b d)
affine_form output _ = None

-- The line that defines this output by the kernel of this name, from the words after the name.
abbrev pub kernel_form : ℕ → List ℕ → List (List ℕ) → Option Line
kernel_form output name ws =
    if bytes_eq name (codes "affine") then affine_form output ws
    else option_and_then (λ kernel. inputs_form output kernel ws) (kernel_of name)

-- `distiller ID KERNEL LEAD GRAIN ID [ID]`.
abbrev pub distiller_form : List (List ℕ) → Option Line
distiller_form (id ∷ name ∷ ws) = option_and_then (λ output. kernel_form output name ws) (id_of id)
distiller_form _ = None

-- `refresh ID`.
abbrev pub refresh_form : List (List ℕ) → Option Line
refresh_form (id ∷ []) = option_map (λ i. Refresh i) (id_of id)
refresh_form _ = None
