-- Which bodies may stand under a superblock, by their heads.
use Rattle.std.specs.Prelude.{◌≡◌, ◌⊎◌, ℕ, ◌≤◌, List}
use Rattle.std.proofs.Common.{sym, subst}
use Rattle.btr_log.specs.declared.head.Head.{Head}
use Rattle.btr_log.specs.Extents.{IsBody}
use Rattle.btr_engine.specs.Body.{MayStandUnder}
use Rattle.btr_engine.proofs.BodyLemmas.{format-body}
use Rattle.btr_open.specs.Content.{MayHeadStand}

-- A body may stand if its head may.
pub body-may : (limit : ℕ) (body : List ℕ) (head : Head) → IsBody body head → MayHeadStand limit head → MayStandUnder limit body
body-may limit body head is may =
    subst (λ f. (f ≤ limit) ⊎ (f ≡ 4)) (sym (format-body body head is)) may

-- The head of a body that may stand may.
pub head-may : (limit : ℕ) (body : List ℕ) (head : Head) → IsBody body head → MayStandUnder limit body → MayHeadStand limit head
head-may limit body head is may =
    subst (λ f. (f ≤ limit) ⊎ (f ≡ 4)) (format-body body head is) may
