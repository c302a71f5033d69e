-- What the private functions promise: the pieces of a roll's bytes that decoding takes one after another.
use Rattle.std.specs.Prelude.{◌≡◌, ℕ, ◌<◌, ◌≤◌, ◌^◌, List, ◌++◌, length, Option, IfSome}
use Rattle.std.specs.Int.{w64, w128}
use Rattle.std.specs.List.{flat_map, AllByRecursion}
use Rattle.btr_base.specs.declared.limits.TheConstants.{MAX_VERSIONS}
use Rattle.btr_hist.specs.declared.kernel.Spec.{Spec}
use Rattle.btr_entry.specs.Grammar.{number, IsSpec}
use Rattle.btr_roll.specs.Roll.{kind_bytes}

-- The bytes are those of this many items that fit, then `rest`.
pub record AreItems {X : Type 0} (item : X → List ℕ) (Fits : X → Type 0) (count : ℕ)
    (bytes : List ℕ) (xs : List X) (rest : List ℕ) : Type 0 where
  pub each : AllByRecursion Fits xs
  pub long : length xs ≡ count
  pub parts : bytes ≡ flat_map item xs ++ rest

-- The bytes are those of a stream in a checkpoint as far as the number of its versions, then `rest`.
pub record IsStreamStart (bytes : List ℕ) (id entry : ℕ) (spec : Option Spec) (count : ℕ) (rest : List ℕ) : Type 0 where
  pub id_fits : id < 2 ^ 128
  pub entry_fits : entry < 2 ^ 64
  pub spec_fits : IfSome spec IsSpec
  pub few : count ≤ MAX_VERSIONS
  pub parts : bytes ≡ number w128 id ++ (number w64 entry ++ (kind_bytes spec ++ (number w64 count ++ rest)))
