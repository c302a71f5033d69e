-- Lemmas on what is found at a gate: an extent that is found is one more of a log.
use Rattle.std.specs.Prelude.{◌≡◌, ℕ, ◌+◌, ◌*◌, List, [], ◌∷◌, ◌++◌}
use Rattle.std.proofs.Common.{sym, subst, arith}
use Rattle.btr_disk.specs.Bytes.{Image, Has}
use Rattle.btr_disk.specs.Gate.{IsOpen}
use Rattle.btr_log.specs.declared.head.Head.{Head}
use Rattle.btr_log.specs.Extents.{need, IsExtent, Extents}
use Rattle.btr_log.proofs.ExtentLemmas.{IsBody-blocks, Extents-push}
use Rattle.btr_log.specs.Found.{IsWholeExtent}

module _ (image : Image) (blocks gate : ℕ) (head : Head) (body : List ℕ) (next : ℕ) (whole : IsWholeExtent blocks gate head body next) where
  -- the gate after it
  pub next-IsWholeExtent : next ≡ gate + need body
  next-IsWholeExtent = omega (arith, whole.follows, IsBody-blocks body head whole.is_body)

  pub IsExtent-found : IsOpen image gate × Has image (4096 * (gate + 1)) body → IsExtent image gate body head
  IsExtent-found stored = record { is_open = stored.0; is_body = whole.is_body; stored = stored.1 }

  -- after the extents that were found before
  pub Extents-found : (start : ℕ) (bodies : List (List ℕ)) → Extents image start bodies gate → IsOpen image gate × Has image (4096 * (gate + 1)) body → Extents image start (bodies ++ body ∷ []) next
  Extents-found start bodies before stored =
      subst (Extents image start (bodies ++ body ∷ [])) (sym next-IsWholeExtent) (Extents-push image start bodies gate body head before (IsExtent-found stored))
