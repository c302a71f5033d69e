-- How the images of a device in memory change as a call enters its record, or is left out of it.
use Rattle.std.specs.Prelude.{◌≡◌, ℕ, ◌+◌, ◌-◌, ◌*◌, ◌/◌, ◌<◌, ◌≤◌, Bool, true, false, List, [], ◌∷◌, ◌++◌, length, take, drop, reverse, MatchBool}
use Rattle.std.proofs.Common.{get_or, refl, sym, ◌∙◌, ap, subst, inl, inr, ⊎_elim, arith, length-append, length-take, get_or-take, get_or-drop}
use Rattle.std.proofs.lemmas.List.{get_or_append_left, get_or-append_right, reverse-append, length-reverse, take_at, drop_at, append-nil}
use Rattle.btr_disk.specs.Bytes.{Image, Has, Same, SameBut, AreBytes}
use Rattle.btr_disk.specs.Images.{SameImages, Torn, MayTear, Tears}
use Rattle.btr_disk.specs.Moments.{Elapses}
use Rattle.btr_disk.proofs.ByteLemmas.{Has-at, Has-from_each, Same-is, Same-refl, SameBut-at, SameBut-sym, SameBut-patched, patched, patched-inside, AreBytes-patched, cases_range}
use Rattle.btr_disk.specs.CallRecord.{contents_of, MayLeave, MayHaveLeft, MayLeaveNow, MayLeaveSince, IsBefore, IsUnsyncedAt, replaced_before, newest_first, call_count, Records, IsLeftOut, TearsOnly}
use Rattle.btr_disk.specs.Torn.{IsTornAt, Tore}
use Rattle.btr_disk.proofs.TornBlocks.{is_torn, same_torn, more_torn}
use Rattle.btr_disk.specs.declared.call_record.Call.{Call}
use Rattle.btr_disk.specs.declared.call_record.Call.TheVariants.{Nothing, Wrote, Synced}
use Rattle.btr_disk.specs.declared.call_record.CallRecord.{CallRecord}
use Rattle.btr_disk.specs.RecordLaws.{MayLeave-torn}

-- a call enters: what a read returned before it is known, and so is what earlier writes replaced
enters : (call : Call) (calls : List Call) (was now : Image) (replaced after : List ℕ) → IsBefore call after now was → ((past : Image) → IsBefore call after now past → Same past was) → replaced_before call after ≡ replaced → Elapses (length calls) (MayHaveLeft was calls replaced) (MayHaveLeft now (call ∷ calls) after) (MayLeave now (call ∷ calls) [])
enters call calls was now replaced after before one rest = record {
  nothing_else = λ t c le left.
      ⊎_elim (λ here. inr here)
      (λ p.
      let e : was ≡ p.1.0 = Same-is p.1.0 was (one p.1.0 p.1.1) in
      inl (subst (λ (x : Image). MayHaveLeft x calls replaced t c) (sym e) (subst (λ (l : List ℕ). MayHaveLeft p.1.0 calls l t c) rest p.1.2)))
      left;
  keeps = λ t c le left. inr (le, (was, before, subst (λ (l : List ℕ). MayHaveLeft was calls l t c) (sym rest) left));
}

from_now : (now : Image) (calls : List Call) (replaced : List ℕ) (t : ℕ) (c : Image) → MayLeave now calls [] c → MayHaveLeft now calls replaced t c
from_now now [] replaced t c left = left
from_now now (call ∷ earlier) replaced t c left = inl left

-- no block of a record that is not full is torn
untorn : (made : CallRecord) → made.unrecorded ≡ 0 → (now : Image) (t : ℕ) (c : Image) → MayLeaveSince now made t c → MayHaveLeft now (newest_first made) made.replaced.items t c
untorn made none now t c =
    ⊎_elim
    (λ left. from_now now (newest_first made) made.replaced.items t c (record { bytes = left.bytes; synced = λ k no _. left.synced k no (made.untorn none (k / 4096)) }))
    (λ left. left)

-- a call enters the record of the device
recorded : (call : Call) (bytes : List ℕ) (was now : Image) (old new : CallRecord) → Records call bytes old new → Elapses (length (newest_first old)) (MayHaveLeft was (newest_first old) old.replaced.items) (MayHaveLeft now (call ∷ newest_first old) new.replaced.items) (MayLeave now (call ∷ newest_first old) []) → Elapses (call_count old) (MayLeaveSince was old) (MayLeaveSince now new) (MayLeaveNow now new)
recorded call bytes was now old new it time =
    let newest : newest_first new ≡ call ∷ newest_first old = ap reverse it.calls ∙ reverse-append old.calls.items (call ∷ []) in
    let size : length (newest_first old) ≡ call_count old = omega (arith, length-reverse old.calls.items, it.none_unrecorded) in
    record {
      nothing_else = λ t c le left.
          ⊎_elim (λ here. inr here)
          (λ past.
          ⊎_elim (λ before. inl (inr before))
          (λ here. inr (MayLeave-torn now (newest_first new) new.torn.flags.items c (subst (λ (l : List Call). MayLeave now l [] c) (sym newest) here)))
          (time.nothing_else t c (omega (arith, le, size)) (subst (λ (l : List Call). MayHaveLeft now l new.replaced.items t c) newest past)))
          left;
      keeps = λ t c le left.
          inr (subst (λ (l : List Call). MayHaveLeft now l new.replaced.items t c) (sym newest)
          (time.keeps t c (omega (arith, le, size)) (untorn old it.none_unrecorded was t c left)));
    }

-- a call that does nothing, as a read
pub nothing_recorded : (now : Image) (old new : CallRecord) → Records Nothing [] old new → Elapses (call_count old) (MayLeaveSince now old) (MayLeaveSince now new) (MayLeaveNow now new)
nothing_recorded now old new it =
    recorded Nothing [] now now old new it
    (enters Nothing (newest_first old) now now old.replaced.items new.replaced.items (Same-refl now) (λ past same k. sym (same k)) (it.replaced ∙ append-nil old.replaced.items))

pub nothing_changed : (now : Image) (old new : CallRecord) → Records Nothing [] old new → SameImages (MayLeaveNow now old) (MayLeaveNow now new)
nothing_changed now old new it =
    let newest : newest_first new ≡ Nothing ∷ newest_first old = ap reverse it.calls ∙ reverse-append old.calls.items (Nothing ∷ []) in
    record {
      none_new = λ c left.
          let one : MayLeave now (Nothing ∷ newest_first old) new.torn.flags.items c = subst (λ (l : List Call). MayLeave now l new.torn.flags.items c) newest left in
          let here : MayLeave now (Nothing ∷ newest_first old) old.torn.flags.items c = subst (λ l. MayLeave now (Nothing ∷ newest_first old) l c) it.torn one in
          record { bytes = here.bytes; synced = here.synced };
      none_gone = λ c left.
          let here : MayLeave now (Nothing ∷ newest_first old) old.torn.flags.items c = record { bytes = left.bytes; synced = left.synced } in
          subst (λ (l : List Call). MayLeave now l new.torn.flags.items c) (sym newest)
          (subst (λ l. MayLeave now (Nothing ∷ newest_first old) l c) (sym it.torn) here);
    }

pub sync_recorded : (now : Image) (old new : CallRecord) → Records Synced [] old new → Elapses (call_count old) (MayLeaveSince now old) (MayLeaveSince now new) (MayLeaveNow now new)
sync_recorded now old new it =
    recorded Synced [] now now old new it
    (enters Synced (newest_first old) now now old.replaced.items new.replaced.items (Same-refl now) (λ past same k. sym (same k)) (it.replaced ∙ append-nil old.replaced.items))

-- a call that was left out, after which blocks may be torn
left_out : (now : Image) (old new : CallRecord) → new.calls.items ≡ old.calls.items → new.replaced.items ≡ old.replaced.items → ((k : ℕ) → IsTornAt old.torn.flags.items k → IsTornAt new.torn.flags.items k) → Elapses (call_count old) (MayLeaveSince now old) (MayLeaveSince now new) (MayLeaveNow now new)
left_out now old new same_calls same_replaced more =
    let newest : newest_first new ≡ newest_first old = ap reverse same_calls in
    record {
      nothing_else = λ t c le left.
          ⊎_elim (λ here. inr here)
          (λ p. inl (inr (subst (λ (l : List Call). MayHaveLeft now l old.replaced.items t c) newest (subst (λ (l : List ℕ). MayHaveLeft now (newest_first new) l t c) same_replaced p)))) left;
      keeps = λ t c le left.
          ⊎_elim
          (λ here.
          let still : MayLeave now (newest_first old) new.torn.flags.items c = record { bytes = here.bytes; synced = λ k no whole. here.synced k no (λ is. whole (more k is)) } in
          inl (subst (λ (l : List Call). MayLeave now l new.torn.flags.items c) (sym newest) still))
          (λ p. inr (subst (λ (l : List ℕ). MayHaveLeft now (newest_first new) l t c) (sym same_replaced) (subst (λ (l : List Call). MayHaveLeft now l old.replaced.items t c) (sym newest) p))) left;
    }

pub counted_alone : (now : Image) (old new : CallRecord) → IsLeftOut old new → Elapses (call_count old) (MayLeaveSince now old) (MayLeaveSince now new) (MayLeaveNow now new)
counted_alone now old new it =
    left_out now old new it.calls it.replaced (λ k is. subst (λ l. IsTornAt l k) (sym it.torn) is)

pub nothing_either : (r : Bool) (now : Image) (old new : CallRecord) → MatchBool r (Records Nothing [] old new) (IsLeftOut old new) → Elapses (call_count old) (MayLeaveSince now old) (MayLeaveSince now new) (MayLeaveNow now new)
nothing_either true now old new it = nothing_recorded now old new it
nothing_either false now old new it = counted_alone now old new it

-- two images that are one but for a range, and have the same bytes there, are the same
same_by_parts : (address n : ℕ) (bytes : List ℕ) (now was past : Image) → length bytes ≡ n → SameBut address n now was → Has was address bytes → SameBut address n now past → Has past address bytes → Same past was
same_by_parts address n bytes now was past size but has other_but other_has k =
    ⊎_elim
    (λ inside.
    let i : ℕ = k - address in
    let e : address + i ≡ k = omega (arith, inside.0) in
    let at : was (address + i) ≡ past (address + i) = Has-at was address bytes has i (omega (arith, inside.0, inside.1)) ∙ sym (Has-at past address bytes other_has i (omega (arith, inside.0, inside.1))) in
    subst (λ (x : ℕ). was x ≡ past x) e at)
    (λ outside. SameBut-at address n now was but k outside ∙ sym (SameBut-at address n now past other_but k outside))
    (cases_range address n k)

-- a write
pub write_recorded : (address n : ℕ) (bytes : List ℕ) (was now : Image) (old new : CallRecord) → length bytes ≡ n → Records (Wrote address n) bytes old new → Has was address bytes → SameBut address n was now → Elapses (call_count old) (MayLeaveSince was old) (MayLeaveSince now new) (MayLeaveNow now new)
write_recorded address n bytes was now old new size it has but =
    let total : length new.replaced.items ≡ length old.replaced.items + n = ap length it.replaced ∙ length-append old.replaced.items bytes ∙ ap (λ (x : ℕ). length old.replaced.items + x) size in
    let start : length new.replaced.items - n ≡ length old.replaced.items = omega arith in
    let last : drop (length new.replaced.items - n) new.replaced.items ≡ bytes =
    ap (λ (x : ℕ). drop x new.replaced.items) start ∙ ap (λ (l : List ℕ). drop (length old.replaced.items) l) it.replaced ∙ drop_at old.replaced.items bytes (length old.replaced.items) refl in
    let rest : take (length new.replaced.items - n) new.replaced.items ≡ old.replaced.items =
    ap (λ (x : ℕ). take x new.replaced.items) start ∙ ap (λ (l : List ℕ). take (length old.replaced.items) l) it.replaced ∙ take_at old.replaced.items bytes (length old.replaced.items) refl in
    recorded (Wrote address n) bytes was now old new it
    (enters (Wrote address n) (newest_first old) was now old.replaced.items new.replaced.items
    (SameBut-sym address n was now but, subst (λ (l : List ℕ). Has was address l) (sym last) has)
    (λ past p. same_by_parts address n bytes now was past size (SameBut-sym address n was now but) has p.0 (subst (λ (l : List ℕ). Has past address l) last p.1))
    rest)

module _ (address n : ℕ) (bytes : List ℕ) (was now : Image) (old new : CallRecord) (it : Records (Wrote address n) bytes old new) (but : SameBut address n was now) where
  newest : newest_first new ≡ Wrote address n ∷ newest_first old
  newest = ap reverse it.calls ∙ reverse-append old.calls.items (Wrote address n ∷ [])

  write_torn : AreBytes was → Torn address n (MayLeaveNow was old) (MayLeaveNow now new)
  write_torn are c left =
      let here : MayLeave now (Wrote address n ∷ newest_first old) new.torn.flags.items c = subst (λ (l : List Call). MayLeave now l new.torn.flags.items c) newest left in
      let d : Image = patched address n was c in (
        d,
        record {
          bytes = AreBytes-patched address n was c are here.bytes;
          synced = λ k no whole.
              ⊎_elim
              (λ inside. patched-inside address n was c k inside.0 inside.1)
              (λ outside.
              SameBut-at address n c d (SameBut-patched address n was c) k outside
              ∙ here.synced k (⊎_elim (λ range. absurd (omega (arith, range.0, range.1, outside range.0))) no) (λ is. whole (subst (λ l. IsTornAt l k) it.torn is))
              ∙ SameBut-at address n was now but k outside)
              (cases_range address n k);
        },
        SameBut-sym address n c d (SameBut-patched address n was c),
      )

  write_tears : MayTear address n (MayLeaveNow was old) (MayLeaveNow now new)
  write_tears c d left same are =
      subst (λ (l : List Call). MayLeave now l new.torn.flags.items c) (sym newest)
      (record {
        bytes = are;
        synced = λ k no whole.
            ⊎_elim
            (λ inside. absurd (no (inl inside)))
            (λ outside.
            SameBut-at address n d c same k outside
            ∙ left.synced k (λ un. no (inr un)) (λ is. whole (subst (λ l. IsTornAt l k) (sym it.torn) is))
            ∙ sym (SameBut-at address n was now but k outside))
            (cases_range address n k);
      })

  pub write_images : AreBytes was → Tears address n (MayLeaveNow was old) (MayLeaveNow now new)
  write_images are = record { torn = write_torn are; unsynced = write_tears }

-- a write that was left out, and whose blocks were marked as torn
module _ (first count : ℕ) (now : Image) (old mid new : CallRecord) (out : IsLeftOut old mid) (it : TearsOnly first count mid new) where
  same_calls : newest_first new ≡ newest_first old
  same_calls = ap reverse (it.calls ∙ out.calls)

  tore : Tore first count old.torn.flags.items new.torn.flags.items
  tore = subst (λ l. Tore first count l new.torn.flags.items) out.torn it.torn

  pub tear_time : Elapses (call_count old) (MayLeaveSince now old) (MayLeaveSince now new) (MayLeaveNow now new)
  tear_time = left_out now old new (it.calls ∙ out.calls) (it.replaced ∙ out.replaced) (more_torn first count old.torn.flags.items new.torn.flags.items tore)

  tear_torn : AreBytes now → Torn (4096 * first) (4096 * count) (MayLeaveNow now old) (MayLeaveNow now new)
  tear_torn are c left =
      let a = 4096 * first in
      let n = 4096 * count in
      let d : Image = patched a n now c in (
        d,
        record {
          bytes = AreBytes-patched a n now c are left.bytes;
          synced = λ k no whole.
              ⊎_elim
              (λ inside. patched-inside a n now c k inside.0 inside.1)
              (λ outside.
              SameBut-at a n c d (SameBut-patched a n now c) k outside
              ∙ left.synced k (λ un. no (subst (λ (l : List Call). IsUnsyncedAt l k) same_calls un)) (λ is. whole (sym (same_torn first count old.torn.flags.items new.torn.flags.items tore k outside) ∙ is)))
              (cases_range a n k);
        },
        SameBut-sym a n c d (SameBut-patched a n now c),
      )

  tear_tears : MayTear (4096 * first) (4096 * count) (MayLeaveNow now old) (MayLeaveNow now new)
  tear_tears c d left same are =
      let a = 4096 * first in
      let n = 4096 * count in
      record {
        bytes = are;
        synced = λ k no whole.
            ⊎_elim
            (λ inside. absurd (whole (is_torn first count old.torn.flags.items new.torn.flags.items tore k inside.0 inside.1)))
            (λ outside.
            SameBut-at a n d c same k outside
            ∙ left.synced k (λ un. no (subst (λ (l : List Call). IsUnsyncedAt l k) (sym same_calls) un)) (λ is. whole (same_torn first count old.torn.flags.items new.torn.flags.items tore k outside ∙ is)))
            (cases_range a n k);
      }

  pub tear_images : AreBytes now → Tears (4096 * first) (4096 * count) (MayLeaveNow now old) (MayLeaveNow now new)
  tear_images are = record { torn = tear_torn are; unsynced = tear_tears }

-- a part of the contents, by the address where it begins
pub Has-part : (bytes : List ℕ) (address n : ℕ) → address + n ≤ length bytes → Has (contents_of bytes) address (take n (drop address bytes))
Has-part bytes address n fits =
    Has-from_each (contents_of bytes) address (take n (drop address bytes))
    (λ k lt.
    let few : k < n = omega (arith, length-take n (drop address bytes)) in
    sym (get_or-take n (drop address bytes) k 0 few ∙ get_or-drop address bytes k 0))

-- bytes that were put in the middle of a list
pub Has-middle : (address : ℕ) (prefix bytes after : List ℕ) → address ≤ length prefix → Has (contents_of (take address prefix ++ (bytes ++ after))) address bytes
Has-middle address prefix bytes after within =
    let start = take address prefix in
    let length_start : length start ≡ address = omega (arith, length-take address prefix) in
    Has-from_each _ address bytes
    (λ k lt.
    let at : (address + k) - address ≡ k = omega arith in
    get_or-append_right start (bytes ++ after) address (address + k) 0 length_start (omega arith)
    ∙ ap (λ (i : ℕ). get_or (bytes ++ after) i 0) at
    ∙ get_or_append_left bytes after 0 k lt)

-- bytes that were put in the middle of a list, of which no more than `size` is kept
pub Has-placed : (size address : ℕ) (prefix bytes after rest : List ℕ) → address ≤ length prefix → address + length bytes ≤ size → Has (contents_of (take size ((take address prefix ++ (bytes ++ after)) ++ rest))) address bytes
Has-placed size address prefix bytes after rest within fits =
    let start = take address prefix in
    let middle = bytes ++ after in
    let length_start : length start ≡ address = omega (arith, length-take address prefix) in
    Has-from_each _ address bytes
    (λ k lt.
    let inner : address + k < length (start ++ middle) = omega (arith, length-append start middle, length-append bytes after) in
    let at : (address + k) - address ≡ k = omega arith in
    get_or-take size ((start ++ middle) ++ rest) (address + k) 0 (omega arith)
    ∙ get_or_append_left (start ++ middle) rest 0 (address + k) inner
    ∙ get_or-append_right start middle address (address + k) 0 length_start (omega arith)
    ∙ ap (λ (i : ℕ). get_or middle i 0) at
    ∙ get_or_append_left bytes after 0 k lt)
