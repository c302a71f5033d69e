-- Lemmas on the shares of seats, for those who split seats: two that met have what the one before them had.
use Rattle.std.specs.Prelude.{◌≡◌, ℕ, Bool}
use Rattle.std.proofs.Common.{ap, ◌∙◌, arith}
use Rattle.btr_disk.specs.declared.disk.Disk.{Ghosts}
use Rattle.btr_gate.specs.Shares.{on_path}
use Rattle.btr_gate.proofs.ShareLemmas.{on_path_halves, on_path_append, cover_same}
use Rattle.btr_group.specs.declared.group.Seat.{Seat}
use Rattle.btr_group.specs.Seats.{SplitsSeat, MeetsSeat, HasWholeShare, share_by}

module _ {D : Type 0} {disk : Ghosts D} where
  -- A seat is split, both parts keep the paths that they meet, and they meet again: then they meet the paths of the first seat.
  pub shares_meet : (path : ℕ → Bool) (old kept other here there new : Seat D disk) → SplitsSeat old kept other → on_path path (share_by here) ≡ on_path path (share_by kept) → on_path path (share_by there) ≡ on_path path (share_by other) → MeetsSeat here there new → on_path path (share_by new) ≡ on_path path (share_by old)
  shares_meet path old kept other here there new splits first second meets =
      let half = ap (on_path path) splits.share in
      let rest = ap (on_path path) splits.other_share in
      let all = on_path_halves path (share_by old) in
      let both = ap (on_path path) meets.share ∙ on_path_append path (share_by here) (share_by there) in
      omega (arith, half, rest, all, both, first, second)

  -- A seat that meets the same paths as one that had the whole share has the whole share.
  pub whole_alike : (old new : Seat D disk) → ((path : ℕ → Bool) → on_path path (share_by new) ≡ on_path path (share_by old)) → HasWholeShare old → HasWholeShare new
  whole_alike old new alike whole = cover_same (share_by new) (share_by old) alike ∙ whole
