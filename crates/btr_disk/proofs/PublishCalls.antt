-- What a crash leaves at each of the four calls that publish a body.
use Rattle.std.specs.Prelude.{ℕ, ◌+◌, ◌<◌, ◌≤◌, List, length, Result, Ok, Err, OnOk, OnErr}
use Rattle.std.proofs.Common.{◌∙◌, inl, inr, ⊎_elim, arith}
use Rattle.std.proofs.lemmas.Bool.{cases_lt}
use Rattle.btr_disk.specs.Bytes.{Image, Has, Same, SameBut, IsOutside}
use Rattle.btr_disk.specs.Images.{Only, SameImages, Torn}
use Rattle.btr_disk.specs.Publish.{HasBody, IsBeforeOrHasBody, Published}
use Rattle.btr_disk.proofs.ByteLemmas.{Has-along, Has-Same, SameBut-trans, SameBut-from_Same, SameBut-at, SameButTwo-from}

-- the images after a sync, whether it succeeded or failed
pub after_sync : {T E : Type 0} (result : Result T E) (contents : Image) (old new P : Image → Type 0) → OnOk result (Only contents new) → OnErr result (SameImages old new) → ((c : Image) → Same contents c → P c) → ((c : Image) → old c → P c) → (c : Image) → new c → P c
after_sync (Ok x) contents old new P ok err synced failed c left = synced c (ok.each c left)
after_sync (Err e) contents old new P ok err synced failed c left = failed c (err.none_new c left)

-- what holds either way holds on success
pub on_ok : {T E : Type 0} (result : Result T E) (P : Type 0) → P → OnOk result P
on_ok (Ok x) P p = p
on_ok (Err e) P p = tt

-- what a fact on success gives
pub both_ok : {T E : Type 0} (result : Result T E) (P Q : Type 0) → OnOk result P → (P → Q) → OnOk result Q
both_ok (Ok x) P Q p along = along p
both_ok (Err e) P Q p along = tt

module _ (old : Image) (address : ℕ) (body : List ℕ) (place : ℕ) where
  -- the first write
  pub body_torn : (images new : Image → Type 0) → Only old images → Torn address (length body) images new → (c : Image) → new c → IsBeforeOrHasBody old address body place c
  body_torn images new only torn c left =
      let from = torn c left in
      inl (SameBut-trans address (length body) old from.0 c (SameBut-from_Same address (length body) old from.0 (only.each from.0 from.1)) from.2)

  -- the first sync
  pub body_synced : (mid : Image) → SameBut address (length body) old mid → (c : Image) → Same mid c → IsBeforeOrHasBody old address body place c
  body_synced mid but c same =
      inl (SameBut-trans address (length body) old mid c but (SameBut-from_Same address (length body) mid c same))

  module _ (below : IsOutside address (length body) place) (above : place < address → place + 4096 ≤ address) where
    -- the gate's block is outside the body's blocks
    apart : (k : ℕ) → address ≤ k → k < address + length body → IsOutside place 4096 k
    apart k low high le =
        ⊎_elim (λ lt. omega (arith, above lt)) (λ ge. absurd (omega (arith, below ge))) (cases_lt place address)

    with_body : (mid c : Image) → Has mid address body → SameBut address (length body) old mid → SameBut place 4096 mid c → HasBody old address body place c
    with_body mid c has but then = record {
      stored = Has-along mid c address body has (λ k low high. SameBut-at place 4096 mid c then k (apart k low high));
      elsewhere = SameButTwo-from address (length body) place 4096 old mid c but then;
    }

    -- the second write
    pub gate_torn : (mid : Image) (images new : Image → Type 0) → Has mid address body → SameBut address (length body) old mid → Only mid images → Torn place 4096 images new → (c : Image) → new c → IsBeforeOrHasBody old address body place c
    gate_torn mid images new has but only torn c left =
        let from = torn c left in
        inr (with_body mid c has but (SameBut-trans place 4096 mid from.0 c (SameBut-from_Same place 4096 mid from.0 (only.each from.0 from.1)) from.2))

    -- what the device has after it, if it succeeded
    pub gate_written : (mid c : Image) (gate : List ℕ) → Has mid address body → SameBut address (length body) old mid → SameBut place 4096 mid c → Has c place gate → Published old address body place gate c
    gate_written mid c gate has but then stored =
        let it = with_body mid c has but then in
        record { body_stored = it.stored; gate_stored = stored; elsewhere = it.elsewhere }

    -- the second sync
    pub gate_synced : (mid c d : Image) → Has mid address body → SameBut address (length body) old mid → SameBut place 4096 mid c → Same c d → IsBeforeOrHasBody old address body place d
    gate_synced mid c d has but then same =
        inr (with_body mid d has but (SameBut-trans place 4096 mid c d then (SameBut-from_Same place 4096 c d same)))

pub Published-Same : (old : Image) (address : ℕ) (body : List ℕ) (place : ℕ) (gate : List ℕ) (c d : Image) → Published old address body place gate c → Same c d → Published old address body place gate d
Published-Same old address body place gate c d it same = record {
  body_stored = Has-Same c d address body same it.body_stored;
  gate_stored = Has-Same c d place gate same it.gate_stored;
  elsewhere = λ k out out_too. same k ∙ it.elsewhere k out out_too;
}
