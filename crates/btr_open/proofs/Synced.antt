-- A sync, and then calls that only read.
use Rattle.std.specs.Prelude.{ℕ, ◌≤◌}
use Rattle.std.proofs.Common.{refl, ◌∙◌, arith, ⊎_elim}
use Rattle.btr_disk.specs.declared.disk.Disk.{Ghosts}
use Rattle.btr_disk.specs.Bytes.{Image, Same}
use Rattle.btr_disk.specs.Causes.{Counted, KeepsCounts}
use Rattle.btr_disk.specs.Images.{Only}
use Rattle.btr_disk.specs.Moments.{WroteNothing, IsUnwritten}
use Rattle.btr_disk.proofs.ByteLemmas.{Same-trans, Same-sym}
use Rattle.btr_disk.proofs.MomentLemmas.{Only-kept, composes, weakens}
use Rattle.btr_open.specs.Opening.{SyncsFirst}
use Rattle.btr_log.specs.Reads.{OnlyReads}

module _ {D : Type 0} (calls : D → ℕ) (contents : D → Image) (image : D → Image → Type 0) (since : D → ℕ → Image → Type 0) where
  -- Nothing was written before, and nothing after.
  pub unwritten_on : (old mid new : D) → IsUnwritten calls contents image since old mid → ((c : Image) → image mid c → image old c) → WroteNothing calls contents image since mid new → IsUnwritten calls contents image since old new
  unwritten_on old mid new so_far back nothing = record {
    same = Same-trans (contents old) (contents mid) (contents new) so_far.same nothing.same;
    moments = composes calls since old mid new (image old) so_far.moments (weakens calls since mid new (image mid) (image old) back nothing.moments);
  }

-- The images are these contents too, if the bytes are the same.
Only-of : (contents other : Image) (images : Image → Type 0) → Same other contents → Only other images → Only contents images
Only-of contents other images same only = record {
  each = λ c left. Same-trans contents other c (Same-sym other contents same) (only.each c left);
  itself = λ c is. only.itself c (Same-trans other contents c same is);
}

module _ {D : Type 0} (disk : Ghosts D) where
  -- Calls keep the counts of a device, and so do later calls.
  pub counts-trans : (old mid new : D) → KeepsCounts disk.size disk.calls disk.faults old mid → KeepsCounts disk.size disk.calls disk.faults mid new → KeepsCounts disk.size disk.calls disk.faults old new
  counts-trans old mid new first second = record {
    same_size = second.same_size ∙ first.same_size;
    more_calls = omega (arith, first.more_calls, second.more_calls);
    more_faults = omega (arith, first.more_faults, second.more_faults);
  }

  -- A sync succeeded. `only_now` and `counts_now` are the device's laws.
  pub sync_done : (old mid : D) → Counted (disk.calls old) (disk.calls mid) → KeepsCounts disk.size disk.calls disk.faults old mid → (disk.is_observable → (c : Image) → disk.images_since mid (disk.calls mid) c → disk.images_now mid c) → (disk.is_observable → (t : ℕ) (c : Image) → t ≤ disk.calls mid → disk.images_now mid c → disk.images_since mid t c) → (disk.is_observable → Only (disk.contents mid) (disk.images_now mid)) → SyncsFirst disk old mid mid
  sync_done old mid counted kept only_now counts_now only = record {
    counted = counted;
    before = kept;
    after = record { same_size = refl; more_calls = omega arith; more_faults = omega arith };
    at_sync = only;
    since = λ reported. record {
      each = λ c left. (only reported).each c (only_now reported c left);
      itself = λ c same. counts_now reported (disk.calls mid) c (omega arith) ((only reported).itself c same);
    };
    now = only;
  }

  -- After the sync there were only reads.
  pub reads_on : (old synced mid new : D) → SyncsFirst disk old synced mid → OnlyReads disk mid new → (disk.is_observable → (t : ℕ) (c : Image) → t ≤ disk.calls new → disk.images_now new c → disk.images_since new t c) → SyncsFirst disk old synced new
  reads_on old synced mid new so_far reads counts_now =
      let on = counts-trans synced mid new so_far.after reads.counts in
      let still = λ (reported : disk.is_observable). Only-kept disk.calls disk.images_since disk.contents disk.images_now mid new (so_far.now reported) (reads.nothing reported) in
      record {
        counted = so_far.counted;
        before = so_far.before;
        after = on;
        at_sync = λ reported. Only-of (disk.contents new) (disk.contents mid) (disk.images_now synced) (reads.nothing reported).same (so_far.at_sync reported);
        since = λ reported. record {
          each = λ c left.
              let back : Same (disk.contents new) (disk.contents mid) = Same-sym (disk.contents mid) (disk.contents new) (reads.nothing reported).same in
              ⊎_elim
              (λ earlier. Same-trans (disk.contents new) (disk.contents mid) c back ((so_far.since reported).each c earlier))
              (λ now. Same-trans (disk.contents new) (disk.contents mid) c back ((so_far.now reported).each c now))
              ((reads.nothing reported).moments.before (disk.calls synced) c so_far.after.more_calls left);
          itself = λ c same. counts_now reported (disk.calls synced) c on.more_calls ((still reported).itself c same);
        };
        now = still;
      }
