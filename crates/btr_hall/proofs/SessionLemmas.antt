-- Lemmas on the shares of sessions: what a split and a meeting keep, and when a session is alone again.
use Rattle.std.specs.Prelude.{◌≡◌, ℕ, ◌+◌, Bool}
use Rattle.std.proofs.Common.{ap, ◌∙◌, arith}
use Rattle.btr_disk.specs.declared.disk.Disk.{Ghosts}
use Rattle.btr_gate.specs.Shares.{on_path}
use Rattle.btr_gate.proofs.ShareLemmas.{on_path_append, on_path_halves, cover_same}
use Rattle.btr_hall.specs.declared.session.Session.{Session}
use Rattle.btr_hall.specs.Session.{IsAlone, Splits, Meets, share_of}

module _ {D : Type 0} {disk : Ghosts D} where
  -- Both sessions of a split meet the paths that the one met.
  pub split_paths : (path : ℕ → Bool) (old new other : Session D disk) → Splits old new other → on_path path (share_of new) + on_path path (share_of other) ≡ on_path path (share_of old)
  split_paths path old new other splits =
      let kept = ap (on_path path) splits.share in
      let given = ap (on_path path) splits.other_share in
      let all = on_path_halves path (share_of old) in
      omega (arith, kept, given, all)

  -- A session meets the paths that both met.
  pub meet_paths : (path : ℕ → Bool) (old other new : Session D disk) → Meets old other new → on_path path (share_of new) ≡ on_path path (share_of old) + on_path path (share_of other)
  meet_paths path old other new meets = ap (on_path path) meets.share ∙ on_path_append path (share_of old) (share_of other)

  -- A session that meets the same paths as one that was alone is alone.
  pub alone_alike : (old new : Session D disk) → ((path : ℕ → Bool) → on_path path (share_of new) ≡ on_path path (share_of old)) → IsAlone old → IsAlone new
  alone_alike old new alike alone = cover_same (share_of new) (share_of old) alike ∙ alone
