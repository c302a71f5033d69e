-- The readers of a stream, which a board keeps to find what holds its versions: the outputs that have it as an input.
use Rattle.std.specs.Prelude.{◌≡◌, ℕ, ◌+◌, ◌<◌, Bool, false, ◌||◌, ◌==◌, List, [], ◌∷◌, length, slice_index_or, if◌then◌else◌}
use Rattle.std.specs.Prelude.{Option, Some, None, IfSome}
use Rattle.std.specs.List.{AllByRecursion}
use Rattle.btr_hist.specs.declared.kernel.Spec.{Spec}

-- The second input, if there is one, is the stream.
abbrev pub second_is : ℕ → Option ℕ → Bool
second_is stream None = false
second_is stream (Some input) = input == stream

-- The stream is an input of an output of this spec.
abbrev pub is_input : ℕ → Spec → Bool
is_input stream spec = spec.first == stream || second_is stream spec.second

-- The inputs of an output are below this number.
pub record AreInputsBelow (count : ℕ) (spec : Spec) : Type 0 where
  pub first : spec.first < count
  pub second : IfSome spec.second (λ input. input < count)

-- The numbers of the outputs that have the stream as an input, among streams of these kinds, of which the first has the number n.
abbrev pub readers_from : ℕ → ℕ → List (Option Spec) → List ℕ
readers_from stream n [] = []
readers_from stream n (None ∷ kinds) = readers_from stream (n + 1) kinds
readers_from stream n (Some spec ∷ kinds) =
    if is_input stream spec then n ∷ readers_from stream (n + 1) kinds else readers_from stream (n + 1) kinds

-- The lists are the readers of each of the streams of these kinds, whose inputs are streams.
pub record AreReaders (kinds : List (Option Spec)) (readers : List (List ℕ)) : Type 0 where
  pub counted : length readers ≡ length kinds
  pub below : AllByRecursion (λ o. IfSome o (AreInputsBelow (length kinds))) kinds
  pub each : (stream : ℕ) (d : List ℕ) → stream < length kinds → slice_index_or readers stream d ≡ readers_from stream 0 kinds
