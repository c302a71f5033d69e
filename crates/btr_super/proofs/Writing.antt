-- What a crash leaves while the first store is written.
use Rattle.std.specs.Prelude.{ℕ, ◌*◌, ◌^◌, ◌≤◌, ◌⊎◌, List, [], ◌∷◌, Result, Ok, Err, OnOk, OnErr}
use Rattle.std.proofs.Common.{suc, refl, sym, ◌∙◌, arith, inl, inr, ⊎_elim}
use Rattle.std.proofs.lemmas.Bool.{cases_eq}
use Rattle.btr_disk.specs.Bytes.{Image, Has, Same, SameBut, SameButTwo}
use Rattle.btr_disk.specs.Images.{Only, SameImages, Torn}
use Rattle.btr_disk.specs.Causes.{Counted}
use Rattle.btr_disk.specs.Moments.{Elapses, Leaves}
use Rattle.btr_disk.proofs.MomentLemmas.{begins, goes_on}
use Rattle.btr_disk.specs.Gate.{IsOpen, IsClosed, zeros, mark, gate_block}
use Rattle.btr_disk.proofs.GateLemmas.{open_gate_is_open, zeros_are_closed}
use Rattle.btr_disk.proofs.ByteLemmas.{Has-along, Has-above, SameBut-at, SameButTwo-from}
use Rattle.btr_disk.proofs.ImageLemmas.{Torn-Only}
use Rattle.btr_super.specs.Super.{super_bytes, IsSuper, first_super}
use Rattle.btr_super.specs.Format.{HasClosedGates, IsEmptyStore, Formatted, IsFormatting}

-- the images after a sync, whether it succeeded or failed
pub after_sync : {T E : Type 0} (result : Result T E) (contents : Image) (old new P : Image → Type 0) → OnOk result (Only contents new) → OnErr result (SameImages old new) → ((c : Image) → Same contents c → P c) → ((c : Image) → old c → P c) → (c : Image) → new c → P c
after_sync (Ok x) contents old new P ok err synced failed c left = synced c (ok.each c left)
after_sync (Err e) contents old new P ok err synced failed c left = failed c (err.none_new c left)

-- what holds either way holds on success
pub on_ok : {T E : Type 0} (result : Result T E) (P : Type 0) → P → OnOk result P
on_ok (Ok x) P p = p
on_ok (Err e) P p = tt

pub SameButTwo-first : (a n b m : ℕ) (old c : Image) → SameBut a n old c → SameButTwo a n b m old c
SameButTwo-first a n b m old c but k out out_too = SameBut-at a n old c but k out

pub SameButTwo-Same : (a n b m : ℕ) (old mid new : Image) → SameButTwo a n b m old mid → Same mid new → SameButTwo a n b m old new
SameButTwo-Same a n b m old mid new two same k out out_too = same k ∙ two k out out_too

-- the images of a second write
pub torn_again : (a n b m : ℕ) (old : Image) (images mid new : Image → Type 0) → Only old images → Torn a n images mid → Torn b m mid new → (c : Image) → new c → SameButTwo a n b m old c
torn_again a n b m old images mid new only first second c left =
    let from = second c left in
    SameButTwo-from a n b m old from.0 c (Torn-Only a n old images mid only first from.0 from.1) from.2

-- a block is open or closed
pub Has-decides : (image : Image) (address : ℕ) (bytes : List ℕ) → Has image address bytes ⊎ (Has image address bytes → ⊥)
Has-decides image address [] = inl tt
Has-decides image address (b ∷ bytes) =
    ⊎_elim
    (λ same. ⊎_elim (λ rest. inl (same, rest)) (λ none. inr (λ has. none has.1)) (Has-decides image (suc address) bytes))
    (λ apart. inr (λ has. apart has.0))
    (cases_eq (image address) b)

module _ (size blocks : ℕ) (least : 8 ≤ blocks) (greatest : blocks ≤ 2 ^ 32) (inside : blocks ≤ size) where
  first_in_table : IsSuper size (first_super blocks)
  first_in_table = record {
    known_format = (omega arith, omega arith);
    has_side = omega arith;
    seq_from = omega arith;
    seq_to = omega arith;
    blocks_from = least;
    blocks_to = greatest;
    inside = inside;
    tail_from = omega arith;
    tail_to = omega arith;
    start = inl (refl, refl);
  }

  pub empty_store : (c : Image) → IsOpen c 0 → IsClosed c 2 → Has c (4096 * 1) (super_bytes (first_super blocks)) → Has c (4096 * 4) (zeros 4096) → IsEmptyStore size blocks c
  empty_store c opened closed body log = record {
    chosen = record {
      stored = record { opened = (omega arith, opened); spelled = record { has_block = omega arith; stored = body; keeps = first_in_table } };
      newest = λ other. absurd (closed other.1);
    };
    no_entry = zeros_are_closed c 4 log;
  }

  -- the bodies are under way
  pub while_bodies : (old c : Image) → HasClosedGates old → SameButTwo (4096 * 1) 4096 (4096 * 4) 4096 old c → IsFormatting size blocks old c
  while_bodies old c closed two = record {
    none_or_empty = inl (record {
      first = λ opened. closed.first (Has-along c old (4096 * 0) mark opened (λ k low high. sym (two k (λ le. omega (arith, le, high)) (λ le. omega (arith, le, high)))));
      second = λ opened. closed.second (Has-along c old (4096 * 2) mark opened (λ k low high. sym (two k (λ le. omega (arith, low)) (λ le. omega (arith, le, high)))));
    });
    elsewhere = λ k out out_too. two k (λ le. omega (arith, out (omega arith))) out_too;
  }

  still_closed : (old mid c : Image) → HasClosedGates old → SameButTwo (4096 * 1) 4096 (4096 * 4) 4096 old mid → SameBut (4096 * 0) 4096 mid c → IsClosed c 2
  still_closed old mid c closed two but opened =
      closed.second (Has-along c old (4096 * 2) mark opened
      (λ k low high. sym (SameBut-at (4096 * 0) 4096 mid c but k (λ le. omega (arith, low)) ∙ two k (λ le. omega (arith, low)) (λ le. omega (arith, le, high)))))

  -- the gate is under way, with the bodies before it
  pub while_gate : (old mid c : Image) → HasClosedGates old → SameButTwo (4096 * 1) 4096 (4096 * 4) 4096 old mid → Has mid (4096 * 1) (super_bytes (first_super blocks)) → Has mid (4096 * 4) (zeros 4096) → SameBut (4096 * 0) 4096 mid c → IsFormatting size blocks old c
  while_gate old mid c closed two body log but =
      let here : IsClosed c 2 = still_closed old mid c closed two but in
      let body_here : Has c (4096 * 1) (super_bytes (first_super blocks)) = Has-above (4096 * 0) 4096 mid c but (4096 * 1) (super_bytes (first_super blocks)) (omega arith) body in
      let log_here : Has c (4096 * 4) (zeros 4096) = Has-above (4096 * 0) 4096 mid c but (4096 * 4) (zeros 4096) (omega arith) log in
      record {
        none_or_empty = ⊎_elim
            (λ opened. inr (empty_store c opened here body_here log_here))
            (λ none. inl (record { first = none; second = here }))
            (Has-decides c (4096 * 0) mark);
        elsewhere = λ k out out_too. SameBut-at (4096 * 0) 4096 mid c but k (λ le. omega (arith, out le)) ∙ two k (λ le. omega (arith, out (omega arith))) out_too;
      }

  -- all is written
  pub formatted : (old mid new : Image) → HasClosedGates old → SameButTwo (4096 * 1) 4096 (4096 * 4) 4096 old mid → Has mid (4096 * 1) (super_bytes (first_super blocks)) → Has mid (4096 * 4) (zeros 4096) → SameBut (4096 * 0) 4096 mid new → Has new (4096 * 0) gate_block → Formatted size blocks old new
  formatted old mid new closed two body log but gate =
      let body_here : Has new (4096 * 1) (super_bytes (first_super blocks)) = Has-above (4096 * 0) 4096 mid new but (4096 * 1) (super_bytes (first_super blocks)) (omega arith) body in
      let log_here : Has new (4096 * 4) (zeros 4096) = Has-above (4096 * 0) 4096 mid new but (4096 * 4) (zeros 4096) (omega arith) log in
      record {
        gate = gate;
        body = body_here;
        log = log_here;
        elsewhere = (while_gate old mid new closed two body log but).elsewhere;
        store = empty_store new (open_gate_is_open new 0 gate) (still_closed old mid new closed two but) body_here log_here;
      }

-- what a call leaves to the rest of a run
pub record Step {D : Type 0} (calls : D → ℕ) (since : D → ℕ → Image → Type 0) (image : D → Image → Type 0) (old new : D) : Type 0 where
  pub counted : Counted (calls old) (calls new)
  pub time : Elapses (calls old) (since old) (since new) (image new)

module _ {D : Type 0} (calls : D → ℕ) (since : D → ℕ → Image → Type 0) (image : D → Image → Type 0) (P : Image → Type 0) where
  -- the first call of a run
  pub first_step : (old new : D) → ((c : Image) → since old (calls old) c → image old c) → Step calls since image old new → ((c : Image) → image old c → P c) → ((c : Image) → image new c → P c) → Leaves calls since old new P
  first_step old new now step before after =
      goes_on calls since old old new P (image new) (begins calls since old P (λ c left. before c (now c left))) step.counted step.time after

  -- and another
  pub next_step : (old mid new : D) → Leaves calls since old mid P → Step calls since image mid new → ((c : Image) → image new c → P c) → Leaves calls since old new P
  next_step old mid new so_far step after = goes_on calls since old mid new P (image new) so_far step.counted step.time after

-- two writes on a device of which a crash leaves what a read returns
module _ {D : Type 0} (calls : D → ℕ) (since : D → ℕ → Image → Type 0) (image : D → Image → Type 0) (start : D) (now : (c : Image) → since start (calls start) c → image start c) (old : Image) (settled : Only old (image start)) (a n b m : ℕ) where
  pub one_written : (first : D) → Step calls since image start first → Torn a n (image start) (image first) → Leaves calls since start first (SameButTwo a n b m old)
  one_written first step torn =
      first_step calls since image (SameButTwo a n b m old) start first now step (λ c left k out out_too. settled.each c left k)
      (λ c left. SameButTwo-first a n b m old c (Torn-Only a n old (image start) (image first) settled torn c left))

  pub two_written : (first second : D) → Step calls since image start first → Torn a n (image start) (image first) → Step calls since image first second → Torn b m (image first) (image second) → Leaves calls since start second (SameButTwo a n b m old)
  two_written first second step torn step_too torn_too =
      next_step calls since image (SameButTwo a n b m old) start first second (one_written first step torn) step_too
      (torn_again a n b m old (image start) (image first) (image second) settled torn torn_too)
