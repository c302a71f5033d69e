-- Lemmas on what is kept of the slots of an inner node: the mask and the rank, and one slot more.
use Rattle.std.specs.Prelude.{◌≡◌, ℕ, ◌+◌, ◌-◌, ◌*◌, ◌/◌, ◌%◌, ◌^◌, ◌<◌, ◌≤◌, nat_eq, count_ones, bit_and, if◌then◌else◌, List, [], ◌∷◌, ◌++◌, length, slice_get, Vec, false, Option, Some, None, option_map, is_some}
use Rattle.std.specs.Int.{bit_at}
use Rattle.std.specs.Int.Count.{ones-ones}
use Rattle.std.specs.Slice.{IsItemAt}
use Rattle.std.proofs.Common.{zero, suc, refl, sym, ap, ◌∙◌, arith, subst, Bor, inl, inr}
use Rattle.std.proofs.Math.Nat.{mul-add-mod_self_right, mod-eq_of_lt, mod-lt, pow-suc, eq-or-lt_of_le}
use Rattle.std.proofs.lemmas.Nat.{pow_pos, pow-add, shr_split, ones_cat, zero_from_ones}
use Rattle.std.proofs.lemmas.Nat.Bits.{bit_at_above, bit_at_cat_low, bit_at_cat_high, bit_at-lt, shr_and_one}
use Rattle.std.proofs.lemmas.Option.{slice_get_read, slice_get_past}
use Rattle.std.proofs.lemmas.List.{length_push}
use Rattle.btr_base.specs.Agg.{AggValue, no_points}
use Rattle.btr_tree.specs.declared.node.Link.{Link, out-Link}
use Rattle.btr_tree.specs.declared.node.NodeData.{NodeData}
use Rattle.btr_tree.specs.declared.node.Slot.{Slot}
use Rattle.btr_tree.specs.declared.slots.Kept.{Kept, out-Kept}
use Rattle.btr_tree.specs.declared.slots.Slots.{Slots, out-Slots}
use Rattle.btr_tree.specs.declared.node.NodeData.TheViews.{roll-Slots, out-roll-Slots, roll-Kept, out-roll-Kept}
use Rattle.std.specs.declared.alloc.Global.{Global}
use Rattle.btr_tree.specs.Packed.{without_address}
use Rattle.btr_tree.specs.Slots.{linked, rank, base_of, mask_of, all_kept, kept_in, slot_in, child_in, empty_slot, slot_or_empty, child_or_none, AreSameSlots, IsFilled, IsPut, block_of, addressed}

-- ---- a bit more in a mask

bit-below : (m i j : ℕ) → j < i → bit_at (m + 2 ^ i) j ≡ bit_at m j
bit-below m i j lt =
    let e : m + 2 ^ i ≡ 1 * 2 ^ i + m = omega arith in ap (λ n. bit_at n j) e ∙ bit_at_cat_low 1 i m j lt

bit-here : (m i : ℕ) → m < 2 ^ i → bit_at (m + 2 ^ i) i ≡ 1
bit-here m i lt =
    let e : m + 2 ^ i ≡ 1 * 2 ^ i + m = omega arith in
    let none : i - i ≡ 0 = omega arith in
    ap (λ n. bit_at n i) e ∙ bit_at_cat_high 1 i m i lt (omega arith) ∙ ap (bit_at 1) none

rank-below : (m i j : ℕ) → j ≤ i → rank (m + 2 ^ i) j ≡ rank m j
rank-below m i j le =
    let sum : i - j + j ≡ i = omega arith in
    let power : 2 ^ i ≡ 2 ^ (i - j) * 2 ^ j = sym (ap (λ n. 2 ^ n) sum) ∙ pow-add 2 (i - j) j in
    let e : m + 2 ^ i ≡ 2 ^ (i - j) * 2 ^ j + m = omega arith in
    ap (λ n. count_ones (n % 2 ^ j)) e ∙ ap count_ones (mul-add-mod_self_right (2 ^ (i - j)) (2 ^ j) m)

rank-all : (m i : ℕ) → m < 2 ^ i → rank m i ≡ count_ones m
rank-all m i lt = ap count_ones (mod-eq_of_lt lt)

one-bit : count_ones 1 ≡ 1
one-bit = ones-ones 1

ones-more : (m i : ℕ) → m < 2 ^ i → count_ones (m + 2 ^ i) ≡ count_ones m + 1
ones-more m i lt =
    let e : m + 2 ^ i ≡ 1 * 2 ^ i + m = omega arith in
    let sum = ones_cat i 1 m lt in
    ap count_ones e ∙ omega (arith, sum, one-bit)

ones-some : (n : ℕ) → n % 2 ≡ 1 → 0 < count_ones n
ones-some n odd =
    let least : 0 ≤ count_ones n = omega arith in
    elim (eq-or-lt_of_le least) [
      | inl none ↦ let e = zero_from_ones n (sym none) in let even = ap (λ k. k % 2) e in absurd (omega arith)
      | inr some ↦ some
    ]

-- A slot that is kept lies within what is kept.
rank-within : (m j : ℕ) → bit_at m j ≡ 1 → rank m j < count_ones m
rank-within m j here =
    let split = ones_cat j (m / 2 ^ j) (m % 2 ^ j) (mod-lt m (pow_pos j)) in
    let whole = ap count_ones (shr_split m j) in
    let some = ones-some (m / 2 ^ j) here in
    omega arith

-- ---- what is kept

pub get-front : {X : Type 0} (xs : List X) (y : X) (n : ℕ) → n < length xs → slice_get (xs ++ y ∷ []) n ≡ slice_get xs n
get-front [] y n lt = absurd (omega arith)
get-front (x ∷ xs) y zero lt = refl
get-front (x ∷ xs) y (suc n) lt = get-front xs y n (omega arith)

pub get-last : {X : Type 0} (xs : List X) (y : X) (n : ℕ) → n ≡ length xs → slice_get (xs ++ y ∷ []) n ≡ Some y
get-last [] y n e = ap (slice_get (y ∷ [])) e
get-last (x ∷ xs) y zero e = absurd (omega arith)
get-last (x ∷ xs) y (suc n) e = get-last xs y n (omega arith)

-- What is kept of slot i, by the mask and what is kept.
kept_of : ℕ → List Kept → ℕ → Option Kept
kept_of mask kept i = if nat_eq (bit_at mask i) 1 then slice_get kept (rank mask i) else None

kept_of-in : (x : Slots) (i : ℕ) → kept_in x i ≡ kept_of (mask_of x) (all_kept x) i
unfolding kept_in kept_of
kept_of-in x i = refl

kept_of-none : (mask : ℕ) (kept : List Kept) (i : ℕ) → bit_at mask i ≡ 0 → kept_of mask kept i ≡ None
unfolding kept_of
kept_of-none mask kept i e = ap (λ b. if nat_eq b 1 then slice_get kept (rank mask i) else None) e

kept_of-some : (mask : ℕ) (kept : List Kept) (i : ℕ) → bit_at mask i ≡ 1 → kept_of mask kept i ≡ slice_get kept (rank mask i)
unfolding kept_of
kept_of-some mask kept i e = ap (λ b. if nat_eq b 1 then slice_get kept (rank mask i) else None) e

by-bit : (mask i : ℕ) (P : Type 0) → (bit_at mask i ≡ 0 → P) → (bit_at mask i ≡ 1 → P) → P
by-bit mask i P f g =
    let low = bit_at-lt mask i in
    let le : bit_at mask i ≤ 1 = omega arith in
    elim (eq-or-lt_of_le le) [ inl e ↦ g e | inr less ↦ f (omega arith) ]

-- What is kept of the slots before the one that is put.
kept-below : (m i : ℕ) (kept : List Kept) (k : Kept) (j : ℕ) → length kept ≡ count_ones m → j < i → kept_of (m + 2 ^ i) (kept ++ k ∷ []) j ≡ kept_of m kept j
kept-below m i kept k j long lt =
    let same = bit-below m i j lt in
    by-bit m j (kept_of (m + 2 ^ i) (kept ++ k ∷ []) j ≡ kept_of m kept j) (λ no. kept_of-none (m + 2 ^ i) (kept ++ k ∷ []) j (same ∙ no) ∙ sym (kept_of-none m kept j no)) (λ yes.
    let within = rank-within m j yes in
    kept_of-some (m + 2 ^ i) (kept ++ k ∷ []) j (same ∙ yes)
    ∙ ap (slice_get (kept ++ k ∷ [])) (rank-below m i j (omega arith))
    ∙ get-front kept k (rank m j) (omega arith)
    ∙ sym (kept_of-some m kept j yes))

kept-here : (m i : ℕ) (kept : List Kept) (k : Kept) → m < 2 ^ i → length kept ≡ count_ones m → kept_of (m + 2 ^ i) (kept ++ k ∷ []) i ≡ Some k
kept-here m i kept k lt long =
    kept_of-some (m + 2 ^ i) (kept ++ k ∷ []) i (bit-here m i lt)
    ∙ get-last kept k (rank (m + 2 ^ i) i) (rank-below m i i (omega arith) ∙ rank-all m i lt ∙ sym long)

-- ---- the slots

slot-kept : (x y : Slots) (i : ℕ) → base_of x ≡ base_of y → kept_in x i ≡ kept_in y i → slot_in x i ≡ slot_in y i
unfolding slot_in
slot-kept x y i e f =
    ap (λ b. slot_or_empty b (kept_in x i)) e ∙ ap (slot_or_empty (base_of y)) f

child-kept : (x y : Slots) (i : ℕ) → kept_in x i ≡ kept_in y i → child_in x i ≡ child_in y i
unfolding child_in
child-kept x y i f = ap child_or_none f

pub slot-some : (x : Slots) (i : ℕ) (k : Kept) → kept_in x i ≡ Some k → slot_in x i ≡ (out-Kept k).slot
unfolding slot_in
slot-some x i k e = ap (slot_or_empty (base_of x)) e

pub slot-none : (x : Slots) (i : ℕ) → kept_in x i ≡ None → slot_in x i ≡ empty_slot (base_of x)
unfolding slot_in
slot-none x i e = ap (slot_or_empty (base_of x)) e

pub child-some : (x : Slots) (i : ℕ) (k : Kept) → kept_in x i ≡ Some k → child_in x i ≡ linked (out-Kept k).child
unfolding child_in
child-some x i k e = ap child_or_none e

pub child-none : (x : Slots) (i : ℕ) → kept_in x i ≡ None → child_in x i ≡ None
unfolding child_in
child-none x i e = ap child_or_none e

pub slot-empty : (x : Slots) (i : ℕ) (a : AggValue) → kept_in x i ≡ None → a ≡ no_points → (let s : Slot = record { agg = a; version = base_of x; child = 0 } in s) ≡ slot_in x i
slot-empty x i a e none =
    ap (λ b. let s : Slot = record { agg = b; version = base_of x; child = 0 } in s) none ∙ sym (slot-none x i e)

slot-by : (a b : AggValue) (v w m n : ℕ) → a ≡ b → v ≡ w → m ≡ n → (let s : Slot = record { agg = a; version = v; child = m } in s) ≡ record { agg = b; version = w; child = n }
slot-by a b v w m n p q r = cc

pub addressed-by : (x : Slots) (i : ℕ) (a : AggValue) (v m : ℕ) → a ≡ (slot_in x i).agg → v ≡ (slot_in x i).version → m ≡ block_of (child_in x i) → (let s : Slot = record { agg = a; version = v; child = m } in s) ≡ addressed x i
unfolding addressed
addressed-by x i a v m p q r =
    slot-by a (slot_in x i).agg v (slot_in x i).version m (block_of (child_in x i)) p q r

-- ---- what a look at a slot finds

pub kept-not : (x : Slots) (i : ℕ) → bit_and (mask_of x / 2 ^ i) 1 ≡ 0 → kept_in x i ≡ None
kept-not x i e =
    kept_of-in x i ∙ kept_of-none (mask_of x) (all_kept x) i (sym (shr_and_one (mask_of x) i) ∙ e)

got : (xs : List Kept) (i : ℕ) (r : Option (Bor Kept)) → IsItemAt xs i r → option_map (λ k. k.now) r ≡ slice_get xs i
got xs i None h = sym (slice_get_past xs i h.3)
got xs i (Some x) h = sym (slice_get_read xs (length xs) i x.now refl h.3.0 h.1)

pub kept-got : (x : Slots) (i n : ℕ) (kept : List Kept) (r : Option (Bor Kept)) → (bit_and (mask_of x / 2 ^ i) 1 ≡ 0 → ⊥) → kept ≡ all_kept x → n ≡ rank (mask_of x) i → IsItemAt kept n r → option_map (λ k. k.now) r ≡ kept_in x i
kept-got x i n kept r bit same place found =
    by-bit (mask_of x) i (option_map (λ k. k.now) r ≡ kept_in x i) (λ no. absurd (bit (shr_and_one (mask_of x) i ∙ no))) (λ yes.
    got kept n r found
    ∙ ap (slice_get kept) place
    ∙ ap (λ xs. slice_get xs (rank (mask_of x) i)) same
    ∙ sym (kept_of-some (mask_of x) (all_kept x) i yes)
    ∙ sym (kept_of-in x i))

pub kept-found : (x : Slots) (i : ℕ) (r : Option (Bor Kept)) (k : Bor Kept) → option_map (λ y. y.now) r ≡ kept_in x i → r ≡ Some k → kept_in x i ≡ Some k.now
kept-found x i r k e f = sym e ∙ ap (λ o. option_map (λ y. y.now) o) f

pub kept-missing : (x : Slots) (i : ℕ) (r : Option (Bor Kept)) → option_map (λ y. y.now) r ≡ kept_in x i → r ≡ None → kept_in x i ≡ None
kept-missing x i r e f = sym e ∙ ap (λ o. option_map (λ y. y.now) o) f

-- ---- a slot that is put

mapped-none : {X Y : Type 0} (o : Option X) (f : X → Y) → is_some o ≡ false → option_map f o ≡ None
mapped-none None f e = refl
mapped-none (Some x) f e = cc

power-next : (i : ℕ) → 2 ^ (i + 1) ≡ 2 ^ i + 2 ^ i
power-next i =
    let e : i + 1 ≡ suc i = omega arith in
    ap (λ n. 2 ^ n) e ∙ pow-suc 2 i ∙ (let twice : 2 ^ i * 2 ≡ 2 ^ i + 2 ^ i = omega arith in twice)

pub put-kept : (i : ℕ) (slot : Slot) (child : Option NodeData) (old new : Slots) (k : Kept) → IsFilled i old → base_of new ≡ base_of old → mask_of new ≡ mask_of old + 2 ^ i → all_kept new ≡ all_kept old ++ k ∷ [] → (out-Kept k).slot ≡ without_address slot → linked (out-Kept k).child ≡ child → IsPut i slot child old new
put-kept i slot child old new k filled base mask kept is has =
    let low = filled.mask in
    let long = filled.kept in
    let next = power-next i in
    let entry = λ (j : ℕ). kept_of-in new j ∙ ap (λ m. kept_of m (all_kept new) j) mask ∙ ap (λ xs. kept_of (mask_of old + 2 ^ i) xs j) kept in
    let here : kept_in new i ≡ Some k = entry i ∙ kept-here (mask_of old) i (all_kept old) k low long in
    let before = λ (j : ℕ) (lt : j < i). entry j ∙ kept-below (mask_of old) i (all_kept old) k j long lt ∙ sym (kept_of-in old j) in
    record {
      filled = record {
        mask = omega arith;
        kept = omega (arith, ap length kept, length_push (all_kept old) k, ap count_ones mask, ones-more (mask_of old) i low);
      };
      is = slot-some new i k here ∙ is;
      has = child-some new i k here ∙ has;
      slots = λ j lt. slot-kept new old j base (before j lt);
      children = λ j lt. child-kept new old j (before j lt);
      base = base;
    }

rolled : ℕ → ℕ → Vec Kept Global → Slots
rolled base mask kept = roll-Slots record { base = base; mask = mask; kept = kept }

rolled-base : (base mask : ℕ) (kept : Vec Kept Global) → base_of (rolled base mask kept) ≡ base
unfolding rolled
rolled-base base mask kept = ap (λ r. r.base) (out-roll-Slots record { base = base; mask = mask; kept = kept })

rolled-mask : (base mask : ℕ) (kept : Vec Kept Global) → mask_of (rolled base mask kept) ≡ mask
unfolding rolled
rolled-mask base mask kept = ap (λ r. r.mask) (out-roll-Slots record { base = base; mask = mask; kept = kept })

rolled-kept : (base mask : ℕ) (kept : Vec Kept Global) → (out-Slots (rolled base mask kept)).kept ≡ kept
unfolding rolled
rolled-kept base mask kept = ap (λ r. r.kept) (out-roll-Slots record { base = base; mask = mask; kept = kept })

put-rolled_in : (i : ℕ) (slot : Slot) (child : Link) (old mid : Slots) (kept : Vec Kept Global) (power : ℕ) (packed : Slot) → mid ≡ rolled (base_of old) (mask_of old) kept → IsFilled i old → kept.items ≡ all_kept old ++ roll-Kept record { slot = packed; child = child } ∷ [] → power ≡ 2 ^ i → packed ≡ without_address slot → IsPut i slot (linked child) old (rolled (base_of mid) (mask_of mid + power) (out-Slots mid).kept)
put-rolled_in i slot child old mid kept power packed is filled more e same =
    let base = ap base_of is ∙ rolled-base (base_of old) (mask_of old) kept in
    let mask = ap mask_of is ∙ rolled-mask (base_of old) (mask_of old) kept in
    let all = ap (λ x. (out-Slots x).kept.items) is ∙ ap (λ v. v.items) (rolled-kept (base_of old) (mask_of old) kept) in
    let entry = out-roll-Kept record { slot = packed; child = child } in
    put-kept i slot (linked child) old (rolled (base_of mid) (mask_of mid + power) (out-Slots mid).kept) (roll-Kept record { slot = packed; child = child }) filled (rolled-base (base_of mid) (mask_of mid + power) (out-Slots mid).kept ∙ base) (rolled-mask (base_of mid) (mask_of mid + power) (out-Slots mid).kept ∙ ap (λ m. m + power) mask ∙ ap (λ n. mask_of old + n) e) (ap (λ v. v.items) (rolled-kept (base_of mid) (mask_of mid + power) (out-Slots mid).kept) ∙ all ∙ more) (ap (λ r. r.slot) entry ∙ same) (ap (λ r. linked r.child) entry)

pub put-rolled : (i : ℕ) (slot : Slot) (child : Link) (old : Slots) (kept : Vec Kept Global) (power : ℕ) (packed : Slot) → IsFilled i old → kept.items ≡ all_kept old ++ roll-Kept record { slot = packed; child = child } ∷ [] → power ≡ 2 ^ i → packed ≡ without_address slot → (let mid : Slots = roll-Slots record { base = base_of old; mask = mask_of old; kept = kept } in IsPut i slot (linked child) old (roll-Slots record { base = base_of mid; mask = mask_of mid + power; kept = (out-Slots mid).kept }))
unfolding rolled
put-rolled i slot child old kept power packed filled more e same =
    put-rolled_in i slot child old (roll-Slots record { base = base_of old; mask = mask_of old; kept = kept }) kept power packed refl filled more e same

pub put-none : (i : ℕ) (slot : Slot) (child : Option NodeData) (old : Slots) → IsFilled i old → without_address slot ≡ empty_slot (base_of old) → child ≡ None → IsPut i slot child old old
put-none i slot child old filled is has =
    let low = filled.mask in
    let next = power-next i in
    let missing = kept_of-in old i ∙ kept_of-none (mask_of old) (all_kept old) i (bit_at_above (mask_of old) i i low (omega arith)) in
    record {
      filled = record { mask = omega arith; kept = filled.kept };
      is = slot-none old i missing ∙ sym is;
      has = child-none old i missing ∙ sym has;
      slots = λ j lt. refl;
      children = λ j lt. refl;
      base = refl;
    }

put-as : (i : ℕ) (s t : Slot) (p q : Option NodeData) (old new : Slots) → s ≡ t → p ≡ q → IsPut i s p old new → IsPut i t q old new
put-as i s t p q old new e f put =
    subst (λ x. IsPut i x q old new) e (subst (λ o. IsPut i s o old new) f put)

-- A slot that is put as another node has it.
pub put-found : (i : ℕ) (other old new : Slots) (k : Kept) (slot : Slot) (child : Option NodeData) → kept_in other i ≡ Some k → slot ≡ (out-Kept k).slot → child ≡ linked (out-Kept k).child → IsPut i slot child old new → IsPut i (slot_in other i) (child_in other i) old new
put-found i other old new k slot child found e f put =
    put-as i slot (slot_in other i) child (child_in other i) old new (e ∙ sym (slot-some other i k found)) (f ∙ sym (child-some other i k found)) put

pub put-missing : (i : ℕ) (other old : Slots) → kept_in other i ≡ None → base_of old ≡ base_of other → IsFilled i old → IsPut i (slot_in other i) (child_in other i) old old
put-missing i other old missing base filled =
    put-none i (slot_in other i) (child_in other i) old filled (ap without_address (slot-none other i missing) ∙ ap empty_slot (sym base)) (child-none other i missing)

pub none-linked : (link : Link) → is_some (out-Link link).node ≡ false → linked link ≡ None
none-linked link e = mapped-none (out-Link link).node (λ a. a.value) e

pub fit-same : (old new : Slots) → base_of new ≡ base_of old → mask_of new ≡ mask_of old → all_kept new ≡ all_kept old → AreSameSlots old new
fit-same old new base mask kept =
    let entry = λ (i : ℕ). kept_of-in new i ∙ ap (λ m. kept_of m (all_kept new) i) mask ∙ ap (λ xs. kept_of (mask_of old) xs i) kept ∙ sym (kept_of-in old i) in
    record { slots = λ i. slot-kept new old i base (entry i); children = λ i. child-kept new old i (entry i) }
