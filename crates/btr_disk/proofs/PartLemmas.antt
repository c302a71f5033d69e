-- Bytes in several parts: the parts so far and one more, in a list and at an address of a device.
use Rattle.std.specs.Prelude.{◌≡◌, ℕ, ◌+◌, ◌<◌, ◌≤◌, List, [], ◌∷◌, ◌++◌, length, take}
use Rattle.std.specs.List.{flat_map}
use Rattle.std.proofs.Common.{get_or, sym, ap, subst, ◌∙◌, arith, length-append}
use Rattle.std.proofs.lemmas.List.{take_more, flat_map_more}
use Rattle.std.proofs.lemmas.List.Folds.{length-flat_map-take}
use Rattle.btr_disk.specs.Bytes.{Image, Has, SameBut}
use Rattle.btr_disk.proofs.ByteLemmas.{Has-below, Has-joined, SameBut-trans, SameBut-wider}

module _ {X : Type 0} (f : X → List ℕ) (ps : List X) (i : ℕ) (p : X) (lt : i < length ps) (is : p ≡ get_or ps i p) where
  -- the bytes of the parts up to this one
  pub more_parts : flat_map f (take (i + 1) ps) ≡ flat_map f (take i ps) ++ f p
  more_parts = ap (flat_map f) (take_more ps i p lt ∙ ap (λ x. take i ps ++ x ∷ []) (sym is)) ∙ sym (flat_map_more f [] (take i ps) p)

  -- they are no more than those of all parts
  pub parts_fit : length (flat_map f (take i ps)) + length (f p) ≤ length (flat_map f ps)
  parts_fit = subst (λ x. length (flat_map f (take i ps)) + length (f x) ≤ length (flat_map f ps)) (sym is) (length-flat_map-take f ps i p lt)

-- bytes that are written after others
module _ (address : ℕ) (done more : List ℕ) (old mid new : Image) (then : SameBut (address + length done) (length more) mid new) where
  pub written_more : Has mid address done → Has new (address + length done) more → Has new address (done ++ more)
  written_more has last = Has-joined new address done more (Has-below (address + length done) (length more) mid new then address done (omega arith) has) last

  pub changed_more : SameBut address (length done) old mid → SameBut address (length (done ++ more)) old new
  changed_more but =
      let size = length-append done more in
      SameBut-trans address (length (done ++ more)) old mid new
      (SameBut-wider address (length done) address (length (done ++ more)) old mid (omega arith) (omega (arith, size)) but)
      (SameBut-wider (address + length done) (length more) address (length (done ++ more)) mid new (omega arith) (omega (arith, size)) then)
