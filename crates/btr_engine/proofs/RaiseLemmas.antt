-- Lemmas on the raise: when there is one, what its superblock keeps, and what it leaves of the images of a log.
use Rattle.std.specs.Prelude.{◌≡◌, ℕ, ◌+◌, ◌*◌, ◌^◌, ◌<◌, ◌≤◌, nat_lt, false, List, Option, Some, None, IfSome, if◌then◌else◌}
use Rattle.std.proofs.Common.{refl, sym, ◌∙◌, ap, subst, inl, inr, ⊎_elim, arith}
use Rattle.std.proofs.lemmas.Bool.{cases_Bool, ltb-true, ltb-false, lt-ltb, ne_eqb}
use Rattle.btr_disk.specs.declared.disk.Disk.{Ghosts}
use Rattle.btr_disk.specs.Bytes.{Image, SameBut}
use Rattle.btr_disk.specs.Causes.{CountedTimes}
use Rattle.btr_disk.specs.Images.{Only}
use Rattle.btr_disk.specs.Moments.{Leaves}
use Rattle.btr_disk.proofs.MomentLemmas.{begins, weakens, composes}
use Rattle.btr_log.specs.declared.log.Log.{Log}
use Rattle.btr_log.specs.Log as log
use Rattle.btr_super.specs.declared.superblock.Super.{Super}
use Rattle.btr_super.specs.Super.{IsSuper, has_seal}
use Rattle.btr_super.specs.Choose.{IsChosen}
use Rattle.btr_super.specs.Replace.{IsFollowed, HasOnePrefix, IsReplacing}
use Rattle.btr_super.proofs.SuperLemmas.{is_log_start-is, IsLogStart-from}
use Rattle.btr_hist.specs.declared.entry.Entry.{Entry}
use Rattle.btr_entry.specs.Format.{format_of}
use Rattle.btr_entry.proofs.FormatLemmas.{format-from, format-to}
use Rattle.btr_engine.specs.Roots.{IsRootOf}
use Rattle.btr_engine.specs.Holds.{StartsAt, HoldsHistoryTo, HoldsHistory}
use Rattle.btr_streams.specs.Board.{Kept}
use Rattle.btr_engine.specs.Raise.{IsFollowable, raised, raise_for, super_after, Raises, MayRaise, CountsRaise, CountsWrite, most_calls, CountsEntry, most_calls_of}
use Rattle.btr_engine.specs.Step.{IsBeforeOrAfter}
use Rattle.btr_engine.specs.Travel.{HoldsNow}
use Rattle.btr_engine.proofs.HoldsLemmas.{HoldsTrees, no-seal, holds_still, holds_under}

-- ---- superblocks

-- A superblock that keeps the table can be followed.
pub followable : (size : ℕ) (s : Super) → IsSuper size s → IsFollowable s
followable size s keeps = record {
  side = keeps.has_side;
  seq = omega (arith, keeps.seq_to, keeps.tail_from);
  format_from = keeps.known_format.0;
  format_to = keeps.known_format.1;
  tail = keeps.tail_from;
  start = is_log_start-is s.checkpoint s.tail keeps.start;
}

-- What is true without a raise, and of a raise, is true of the raise for an entry.
each_raise : (P : Option Super → Type 0) (s : Super) (e : Entry) → P None → (s.format < format_of e → P (Some (raised s (format_of e)))) → P (raise_for s e)
each_raise P s e none some =
    ⊎_elim
    (λ higher. subst (λ b. P (if b then Some (raised s (format_of e)) else None)) (sym higher) (some (ltb-true s.format (format_of e) higher)))
    (λ not. subst (λ b. P (if b then Some (raised s (format_of e)) else None)) (sym not) none)
    (cases_Bool (nat_lt s.format (format_of e)))

-- The superblock of a raise is not that of a sealed store: no entry has its format.
raised_unsealed : (s : Super) (e : Entry) → has_seal (raised s (format_of e)) ≡ false
raised_unsealed s e = ne_eqb (format_of e) 4 (λ is. absurd (omega (arith, is, format-to e)))

pub raise_unsealed : (s : Super) (e : Entry) → has_seal s ≡ false → has_seal (super_after s (raise_for s e)) ≡ false
raise_unsealed s e unsealed =
    each_raise (λ r. has_seal (super_after s r) ≡ false) s e unsealed (λ higher. raised_unsealed s e)

-- It may replace the superblock.
pub may_raise : (s : Super) (e : Entry) → MayRaise s (raise_for s e)
may_raise s e =
    each_raise (MayRaise s) s e tt
    (λ higher. record { other = refl; later = refl; same_blocks = refl; same_tail = refl; same_checkpoint = refl; higher = higher; unsealed = raised_unsealed s e })

-- It can be followed.
pub raise_followable : (s : Super) (e : Entry) → IsFollowable s → IsFollowable (super_after s (raise_for s e))
raise_followable s e is =
    each_raise (λ r. IsFollowable (super_after s r)) s e is
    (λ higher. record {
      side = omega arith;
      seq = omega (arith, is.seq, higher);
      format_from = format-from e;
      format_to = omega (arith, (format-to e));
      tail = is.tail;
      start = is.start;
    })

-- It has at least the format of the entry.
pub raise_reaches : (s : Super) (e : Entry) → format_of e ≤ (super_after s (raise_for s e)).format
raise_reaches s e =
    ⊎_elim
    (λ higher. subst (λ b. format_of e ≤ (super_after s (if b then Some (raised s (format_of e)) else None)).format) (sym higher) (omega arith))
    (λ not. subst (λ b. format_of e ≤ (super_after s (if b then Some (raised s (format_of e)) else None)).format) (sym not) (ltb-false s.format (format_of e) not))
    (cases_Bool (nat_lt s.format (format_of e)))

-- It has the tail and the blocks of the superblock.
pub raise_tail : (s : Super) (e : Entry) → (super_after s (raise_for s e)).tail ≡ s.tail
raise_tail s e = each_raise (λ r. (super_after s r).tail ≡ s.tail) s e refl (λ higher. refl)

pub raise_blocks : (s : Super) (e : Entry) → (super_after s (raise_for s e)).blocks ≡ s.blocks
raise_blocks s e = each_raise (λ r. (super_after s r).blocks ≡ s.blocks) s e refl (λ higher. refl)

-- It keeps the table, in a store whose blocks the device has.
pub raise_keeps : (size : ℕ) (s : Super) (e : Entry) → IsFollowable s → 8 ≤ s.blocks → s.blocks ≤ 2 ^ 32 → s.blocks ≤ size → s.tail < s.blocks → IfSome (raise_for s e) (IsSuper size)
raise_keeps size s e is large few inside tail =
    each_raise (λ r. IfSome r (IsSuper size)) s e tt
    (λ higher. record {
      known_format = (format-from e, omega (arith, (format-to e)));
      has_side = omega arith;
      seq_from = omega arith;
      seq_to = omega (arith, is.seq, is.tail, higher);
      blocks_from = large;
      blocks_to = few;
      inside = inside;
      tail_from = is.tail;
      tail_to = tail;
      start = IsLogStart-from s.checkpoint s.tail is.start;
    })

-- ---- calls

-- A raise, and then four calls.
pub counted_write : (raise : Option Super) (old mid new : ℕ) → CountsRaise raise old mid → CountedTimes 4 mid new → CountsWrite raise old new
counted_write None old mid new first second = subst (λ n. CountedTimes 4 n new) first second
counted_write (Some next) old mid new first second =
    ⊎_elim
    (λ five. inl (record { rose = omega (arith, five.rose, second.rose); exact = omega (arith, five.exact, second.exact) }))
    (λ seven. inr (record { rose = omega (arith, seven.rose, second.rose); exact = omega (arith, seven.exact, second.exact) }))
    first

pub most_written : (raise : Option Super) (old mid new : ℕ) → CountsRaise raise old mid → new ≤ mid + 4 → new ≤ old + most_calls raise
most_written None old mid new first second = omega (arith, first, second)
most_written (Some next) old mid new first second =
    ⊎_elim (λ five. omega (arith, five.exact, second)) (λ seven. omega (arith, seven.exact, second)) first

-- The calls of a write by the entry alone: a superblock has at least format 1.
pub counted_entry : (s : Super) (e : Entry) (old new : ℕ) → 1 ≤ s.format → CountsWrite (raise_for s e) old new → CountsEntry e old new
counted_entry s e old new least =
    each_raise (λ r. CountsWrite r old new → CountsEntry e old new) s e (λ four. inl four)
    (λ higher more. inr (omega (arith, least, higher), more))

pub most_entry : (s : Super) (e : Entry) (old new : ℕ) → 1 ≤ s.format → new ≤ old + most_calls (raise_for s e) → new ≤ old + most_calls_of e
most_entry s e old new least =
    each_raise (λ r. new ≤ old + most_calls r → new ≤ old + most_calls_of e) s e
    (λ four. ⊎_elim
    (λ high. subst (λ b. new ≤ old + (if b then 11 else 4)) (sym high) (omega (arith, four)))
    (λ low. subst (λ b. new ≤ old + (if b then 11 else 4)) (sym low) four)
    (cases_Bool (nat_lt 1 (format_of e))))
    (λ higher more. subst (λ b. new ≤ old + (if b then 11 else 4)) (sym (lt-ltb 1 (format_of e) (omega (arith, least, higher)))) more)

-- ---- images

-- Two images agree from the first gate on, if they differ on one side alone.
agree_behind : (side : ℕ) (old new : Image) → side ≤ 1 → SameBut (8192 * side) 8192 old new → (k : ℕ) → 16384 ≤ k → new k ≡ old k
agree_behind side old new low but k far = but.above k (omega (arith, far, low))

module _ {D : Type 0} {disk : Ghosts D} (h : List Entry) (b : Kept) (s next : Super) (l : Log D disk) (raises : Raises s next) (side : next.side ≤ 1) (now : HoldsNow h b s l) where
  abbrev size : ℕ
  size = disk.size (log.log_device l)

  abbrev contents : Image
  contents = disk.contents (log.log_device l)

  -- The superblock that is chosen before the replacement is on the other side, and has a lesser number.
  pub raise_followed : IsFollowed size contents s next
  raise_followed = record {
    chosen = subst (IsChosen size contents) now.under now.holds.chosen;
    other = raises.other;
    later = omega (arith, raises.later);
  }

  pub raise_prefix : HasOnePrefix contents (disk.images_now (log.log_device l))
  raise_prefix c left k low = now.only.each c left k

  -- The history under the superblock of the raise.
  abbrev raised_holds : (c : Image) → ((k : ℕ) → 16384 ≤ k → c k ≡ contents k) → IsChosen size c next → HoldsHistoryTo size c (log.log_blocks l) (log.log_tail l) h
  raised_holds c agree chosen =
      holds_under size contents (log.log_blocks l) (log.log_tail l) h now.holds c next agree chosen
      (raises.same_blocks ∙ ap (λ (x : Super). x.blocks) (sym now.under) ∙ now.holds.same_blocks)
      (omega (arith, raises.higher, ap (λ (x : Super). x.format) now.under))
      (subst (λ n. StartsAt IsRootOf now.holds.bodies n next.tail) (sym (raises.same_checkpoint ∙ ap (λ (x : Super). x.checkpoint) (sym now.under)))
      (subst (StartsAt IsRootOf now.holds.bodies now.holds.super.checkpoint) (sym (raises.same_tail ∙ ap (λ (x : Super). x.tail) (sym now.under))) now.holds.starts))
      (no-seal next raises.unsealed)

  -- An image at a moment of the replacement holds the history.
  while_raising : (c : Image) → IsReplacing size (disk.images_now (log.log_device l)) s next c → HoldsHistory size c h
  while_raising c moment =
      let base = moment.elsewhere in
      let agree : (k : ℕ) → 16384 ≤ k → c k ≡ contents k = λ k far. agree_behind next.side base.0 c side base.2 k far ∙ now.only.each base.0 base.1 k in
      ⊎_elim
      (λ chosen. record {
        blocks = log.log_blocks l;
        tail = log.log_tail l;
        holds = holds_under size contents (log.log_blocks l) (log.log_tail l) h now.holds c now.holds.super agree (subst (IsChosen size c) (sym now.under) chosen) now.holds.same_blocks (omega arith) now.holds.starts now.holds.sealed;
      })
      (λ chosen. record { blocks = log.log_blocks l; tail = log.log_tail l; holds = raised_holds c agree chosen })
      moment.either

  pub raising : (d : D) → Leaves disk.calls disk.images_since (log.log_device l) d (IsReplacing size (disk.images_now (log.log_device l)) s next) → Leaves disk.calls disk.images_since (log.log_device l) d (λ c. HoldsHistory size c h)
  raising d leaves =
      weakens disk.calls disk.images_since (log.log_device l) d (IsReplacing size (disk.images_now (log.log_device l)) s next) (λ c. HoldsHistory size c h) while_raising leaves

  -- After it the log holds the history under the superblock of the raise.
  pub raised_now : (after : Log D disk) (raise : Option Super) → raise ≡ Some next → log.log_tail after ≡ log.log_tail l → log.log_blocks after ≡ log.log_blocks l → disk.size (log.log_device after) ≡ size → SameBut (8192 * next.side) 8192 contents (disk.contents (log.log_device after)) → IsChosen size (disk.contents (log.log_device after)) next → Only (disk.contents (log.log_device after)) (disk.images_now (log.log_device after)) → HoldsNow h b (super_after s raise) after
  raised_now after raise is tail blocks sized but chosen only =
      let image = disk.contents (log.log_device after) in
      let holds : HoldsTrees size image (log.log_blocks l) (log.log_tail l) h next b.streams = (raised_holds image (agree_behind next.side contents image side but) chosen, refl, now.stored, now.roots) in
      let second = subst (λ n. HoldsTrees n image (log.log_blocks l) (log.log_tail l) h next b.streams) (sym sized) holds in
      let third = subst (λ n. HoldsTrees (disk.size (log.log_device after)) image n (log.log_tail l) h next b.streams) (sym blocks) second in
      let fourth = subst (λ n. HoldsTrees (disk.size (log.log_device after)) image (log.log_blocks after) n h next b.streams) (sym tail) third in
      record { holds = fourth.0; under = fourth.1 ∙ sym (ap (super_after s) is); stored = fourth.2; roots = fourth.3; only = only }

-- ---- without a raise

module _ {D : Type 0} {disk : Ghosts D} (h : List Entry) (b : Kept) (s : Super) (l : Log D disk) (now : HoldsNow h b s l) where
  -- An image that a crash leaves holds the history.
  still_holds : (c : Image) → disk.images_now (log.log_device l) c → HoldsHistory (disk.size (log.log_device l)) c h
  still_holds c left = record {
    blocks = log.log_blocks l;
    tail = log.log_tail l;
    holds = holds_still (disk.size (log.log_device l)) (disk.contents (log.log_device l)) (log.log_blocks l) (log.log_tail l) h now.holds c (now.only.each c left);
  }

  -- No call of the device was made. `only_now` is its law.
  pub nothing_raised : ((c : Image) → disk.images_since (log.log_device l) (disk.calls (log.log_device l)) c → disk.images_now (log.log_device l) c) → log.LogLeaves l l (λ c. HoldsHistory (disk.size (log.log_device l)) c h)
  nothing_raised only_now =
      begins disk.calls disk.images_since (log.log_device l) (λ c. HoldsHistory (disk.size (log.log_device l)) c h) (λ c left. still_holds c (only_now c left))

-- ---- the raise, and then the append

module _ {D : Type 0} {disk : Ghosts D} (h : List Entry) (e : Entry) (size : ℕ) (old mid : Log D disk) (first : log.LogLeaves old mid (λ c. HoldsHistory size c h)) where
  -- The raise alone leaves the history.
  pub raise_leaves : log.LogLeaves old mid (IsBeforeOrAfter size h e)
  raise_leaves =
      weakens disk.calls disk.images_since (log.log_device old) (log.log_device mid) (λ c. HoldsHistory size c h) (IsBeforeOrAfter size h e) (λ c holds. inl holds) first

  -- Both leave the history, or the history with the entry.
  pub both_leave : (new : Log D disk) → log.LogLeaves mid new (IsBeforeOrAfter size h e) → log.LogLeaves old new (IsBeforeOrAfter size h e)
  both_leave new second =
      composes disk.calls disk.images_since (log.log_device old) (log.log_device mid) (log.log_device new) (IsBeforeOrAfter size h e) raise_leaves second
