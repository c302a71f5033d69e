-- What the images of an append are: the log of before, or the log with the body at its end.
use Rattle.std.specs.Prelude.{◌≡◌, ℕ, ◌+◌, ◌*◌, ◌/◌, ◌<◌, false, List, [], ◌∷◌, ◌++◌, length, Result, Ok, Err, OnOk, is_err}
use Rattle.std.proofs.Common.{subst, inl, inr, ⊎_elim, arith}
use Rattle.btr_disk.specs.Bytes.{Image, Has, Same, SameBut}
use Rattle.btr_disk.specs.Gate.{IsOpen, IsClosed, gate_block, zeros}
use Rattle.btr_disk.proofs.GateLemmas.{zeros_are_closed, open_gate_is_open}
use Rattle.btr_disk.specs.Images.{Only}
use Rattle.btr_disk.specs.Publish.{HasBody, IsBeforeOrHasBody, Published}
use Rattle.btr_disk.proofs.ByteLemmas.{Has-append, SameBut-from_Same}
use Rattle.btr_log.specs.Extents.{need, body_blocks, Extents, IsLog, AtRest, first_gate}
use Rattle.btr_log.proofs.ExtentLemmas.{open_or_closed, IsBody-whole, Extents-along, Extents-push, IsClosed-along}
use Rattle.btr_log.specs.Append.{body_in_run, IsAppendRun, IsLogOrMore, IsMoment}
use Rattle.btr_log.proofs.AppendLemmas.{length-run}

-- what is promised on success, of a call that succeeded
pub from_ok : {T E : Type 0} (result : Result T E) (P : Type 0) → is_err result ≡ false → OnOk result P → P
from_ok (Ok x) P ran fact = fact
from_ok (Err e) P ran fact = cc

module _ (old : Image) (tail : ℕ) (bodies : List (List ℕ)) (run : List ℕ) (is : IsAppendRun run) (extents : Extents old first_gate bodies tail) where
  -- the image has the run after an open gate, and all before the gate as it was
  pub grown : (new : Image) → Has new (4096 * (tail + 1)) run → IsOpen new tail → ((k : ℕ) → k < 4096 * tail → new k ≡ old k) → Extents new first_gate (bodies ++ body_in_run run ∷ []) (tail + need (body_in_run run)) × IsClosed new (tail + need (body_in_run run))
  grown new stored is_open below =
      let body = body_in_run run in
      let parts = Has-append new (4096 * (tail + 1)) body (zeros 4096) (subst (Has new (4096 * (tail + 1))) is.closed_after stored) in
      let whole : length body ≡ 4096 * body_blocks body = IsBody-whole body is.body.0 is.body.1 in
      let place : 4096 * (tail + 1) + length body ≡ 4096 * (tail + need body) = omega arith in
      let same = Extents-along old new first_gate bodies tail (λ k low high. below k high) extents in (
        Extents-push new first_gate bodies tail body is.body.0 same (record { is_open = is_open; is_body = is.body.1; stored = parts.0 }),
        zeros_are_closed new (tail + need body) (subst (λ a. Has new a (zeros 4096)) place parts.1),
      )

  module _ (closed : IsClosed old tail) where
    -- all but the blocks of the run is as it was
    pub before : (c : Image) → SameBut (4096 * (tail + 1)) (length run) old c → IsLog c first_gate bodies
    before c but = (
      tail,
      Extents-along old c first_gate bodies tail (λ k low high. but.below k (omega arith)) extents,
      IsClosed-along old c tail (λ k low high. but.below k (omega arith)) closed,
    )

    -- the image has the run, and any bytes in the gate's block
    pub half_way : (c : Image) → HasBody old (4096 * (tail + 1)) run (4096 * tail) c → IsMoment old tail bodies (body_in_run run) c
    half_way c has =
        let below : (k : ℕ) → k < 4096 * tail → c k ≡ old k = λ k lt. has.elsewhere k (λ le. absurd (omega arith)) (λ le. absurd (omega arith)) in
        let log : IsLogOrMore bodies (body_in_run run) c =
        ⊎_elim
        (λ is_open.
        let more = grown c has.stored is_open below in
        inr (tail + need (body_in_run run), more.0, more.1))
        (λ is_closed.
        inl (tail, Extents-along old c first_gate bodies tail (λ k low high. below k high) extents, is_closed))
        (open_or_closed c tail) in
        record { below = below; log = log }

    before_moment : (c : Image) → SameBut (4096 * (tail + 1)) (length run) old c → IsMoment old tail bodies (body_in_run run) c
    before_moment c but = record { below = λ k lt. but.below k (omega arith); log = inl (before c but) }

    -- at each moment of an append
    pub at_a_moment : (c : Image) → IsBeforeOrHasBody old (4096 * (tail + 1)) run (4096 * tail) c → IsMoment old tail bodies (body_in_run run) c
    at_a_moment c = ⊎_elim (before_moment c) (half_way c)

    pub at_the_start : (c : Image) → Same old c → IsMoment old tail bodies (body_in_run run) c
    at_the_start c same =
        before_moment c (SameBut-from_Same (4096 * (tail + 1)) (length run) old c same)

  -- after an append
  pub at_the_end : (new : Image) (images : Image → Type 0) (gate : List ℕ) → gate ≡ gate_block → Published old (4096 * (tail + 1)) run (4096 * tail) gate new → Only new images → AtRest new images (tail + length run / 4096) (bodies ++ body_in_run run ∷ [])
  at_the_end new images gate is_gate written only =
      let below : (k : ℕ) → k < 4096 * tail → new k ≡ old k = λ k lt. written.elsewhere k (λ le. absurd (omega arith)) (λ le. absurd (omega arith)) in
      let more = grown new written.body_stored (open_gate_is_open new tail (subst (Has new (4096 * tail)) is_gate written.gate_stored)) below in
      let place : tail + need (body_in_run run) ≡ tail + length run / 4096 = omega (arith, length-run run is) in
      record {
        extents = subst (Extents new first_gate (bodies ++ body_in_run run ∷ [])) place more.0;
        closed = subst (IsClosed new) place more.1;
        only = only;
      }
