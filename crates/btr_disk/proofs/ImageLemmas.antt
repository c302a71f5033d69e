-- Lemmas on sets of images, for each crash proof above: what a write or a sync makes of them.
use Rattle.std.specs.Prelude.{ℕ}
use Rattle.std.proofs.Common.{◌∙◌, sym}
use Rattle.btr_disk.specs.Bytes.{Image, Same, SameBut}
use Rattle.btr_disk.specs.Images.{Only, SameImages, Torn}
use Rattle.btr_disk.proofs.ByteLemmas.{Same-trans, SameBut-refl, SameBut-trans, SameBut-from_Same}

pub SameImages-refl : (images : Image → Type 0) → SameImages images images
SameImages-refl images = record { none_new = λ c left. left; none_gone = λ c left. left }

pub SameImages-trans : (old mid new : Image → Type 0) → SameImages old mid → SameImages mid new → SameImages old new
SameImages-trans old mid new first second =
    record { none_new = λ c left. first.none_new c (second.none_new c left); none_gone = λ c left. second.none_gone c (first.none_gone c left) }

-- calls that wrote nothing leave the one image that there was
pub Only-along : (old new : Image) (before after : Image → Type 0) → Same new old → SameImages before after → Only old before → Only new after
Only-along old new before after same images only = record {
  each = λ c left. Same-trans new old c same (only.each c (images.none_new c left));
  itself = λ c is. images.none_gone c (only.itself c (λ k. is k ∙ sym (same k)));
}

-- after one write the images are the contents but for its range
pub Torn-Only : (address n : ℕ) (contents : Image) (old new : Image → Type 0) → Only contents old → Torn address n old new → (c : Image) → new c → SameBut address n contents c
Torn-Only address n contents old new only torn c left =
    let from = torn c left in
    SameBut-trans address n contents from.0 c (SameBut-from_Same address n contents from.0 (only.each from.0 from.1)) from.2

pub Torn-from_SameImages : (address n : ℕ) (old new : Image → Type 0) → SameImages old new → Torn address n old new
Torn-from_SameImages address n old new same c left = (c, same.none_new c left, SameBut-refl address n c)
