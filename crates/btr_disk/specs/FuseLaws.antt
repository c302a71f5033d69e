-- The laws of the images of a fuse, which its ghost members cite.
use Rattle.std.specs.Prelude.{◌≡◌, ℕ, ◌+◌, ◌≤◌, min}
use Rattle.std.proofs.Common.{subst, arith}
use Rattle.btr_disk.specs.declared.disk.Disk.{Ghosts}
use Rattle.btr_disk.specs.declared.fuse.FuseDisk.{FuseDisk}
use Rattle.btr_disk.specs.Bytes.{Image}
use Rattle.btr_disk.specs.Fuse.{fuse_since, fuse_calls}

module _ {D : Type 0} {disk : Ghosts D} (fuse : FuseDisk D disk) where
  pub fuse_counts_now : (t : ℕ) (c : Image)
      → ((a : ℕ) → a ≤ disk.calls fuse.disk → disk.images_now fuse.disk c → disk.images_since fuse.disk a c)
      → disk.images_now fuse.disk c → fuse_since fuse t c
  fuse_counts_now t c counts left = counts (min t (disk.calls fuse.disk)) (omega arith) left

  pub fuse_only_now : (c : Image)
      → (disk.images_since fuse.disk (disk.calls fuse.disk) c → disk.images_now fuse.disk c)
      → fuse_since fuse (fuse_calls fuse) c → disk.images_now fuse.disk c
  fuse_only_now c now left =
      let e : min (disk.calls fuse.disk + fuse.withheld) (disk.calls fuse.disk) ≡ disk.calls fuse.disk = omega arith in
      now (subst (λ x. disk.images_since fuse.disk x c) e left)

  pub fuse_fewer_later : (s t : ℕ) (c : Image) → s ≤ t
      → ((a b : ℕ) → a ≤ b → b ≤ disk.calls fuse.disk → disk.images_since fuse.disk b c → disk.images_since fuse.disk a c)
      → fuse_since fuse t c → fuse_since fuse s c
  fuse_fewer_later s t c le fewer left =
      fewer (min s (disk.calls fuse.disk)) (min t (disk.calls fuse.disk)) (omega arith) (omega arith) left
