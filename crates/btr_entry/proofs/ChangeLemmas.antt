-- Lemmas on the ranges and the points of a commit: from them to the parts of their bytes, and back.
use Rattle.std.proofs.Common.{◌≡◌, ℕ, ◌+◌, ◌*◌, ◌≤◌, ◌^◌, List, [], ◌++◌, length, sym, ap, ◌∙◌, arith, append_assoc, length-append}
use Rattle.std.specs.List.{flat_map}
use Rattle.std.specs.Int.{w64}
use Rattle.std.proofs.lemmas.List.{append-nil}
use Rattle.btr_base.specs.declared.point.Point.{Point}
use Rattle.btr_base.specs.Range.{RangeValue, IsCut, IsRange}
use Rattle.btr_entry.specs.Grammar.{number, range, point, listed}
use Rattle.btr_entry.specs.Fields.{IsItems, AreLists, PointFits, AreAddable, IsChange}
use Rattle.btr_entry.proofs.FrameLemmas.{lists_once}
use Rattle.btr_entry.proofs.ItemLemmas.{length-items, length-listed, length-range, length-point, items_once, range_item, point_item, each_room}

pub length-change : (cut : List RangeValue) (added : List Point) → length (listed range cut ++ listed point added) ≡ 16 + 16 * (length cut + length added)
length-change cut added =
    omega (arith, length-append (listed range cut) (listed point added), length-listed range cut length-range, length-listed point added length-point)

counted_from_listed : {X : Type 0} (item : X → List ℕ) (limit : ℕ) (xs : List X) (rest bytes : List ℕ) → ((x : X) → length (item x) ≡ 16) → length xs ≤ limit → bytes ≡ listed item xs ++ rest → IsItems limit bytes (flat_map item xs) rest
counted_from_listed item limit xs rest bytes len few is = record {
  count = length xs;
  bounded = few;
  long = length-items item len xs;
  parts = is ∙ append_assoc (number w64 (length xs)) (flat_map item xs) rest;
}

listed_from_counted : {X : Type 0} (item : X → List ℕ) (limit : ℕ) (xs : List X) (bytes items rest : List ℕ) → ((x : X) → length (item x) ≡ 16) → flat_map item xs ≡ items → IsItems limit bytes items rest → (length xs ≤ limit) × (bytes ≡ listed item xs ++ rest)
listed_from_counted item limit xs bytes items rest len is h =
    let long = ap (length {A = ℕ}) is in
    let count : h.count ≡ length xs = omega (arith, h.long, long, length-items item len xs) in
    (omega (arith, h.bounded, count), h.parts ∙ ap (λ (n : ℕ). number w64 n ++ (items ++ rest)) count ∙ ap (λ (l : List ℕ). number w64 (length xs) ++ (l ++ rest)) (sym is) ∙ sym (append_assoc (number w64 (length xs)) (flat_map item xs) rest))

-- The parts of the bytes of a change.
pub lists_from_change : (m n : ℕ) (bytes : List ℕ) (cut : List RangeValue) (added : List Point) → IsChange m n bytes cut added → AreLists m n bytes (flat_map range cut) (flat_map point added)
lists_from_change m n bytes cut added h = record {
  after_ranges = listed point added;
  ranges_are = counted_from_listed range m cut (listed point added) bytes length-range h.few_ranges h.bytes_are;
  points_are = counted_from_listed point n added [] (listed point added) length-point h.few_points (sym (append-nil (listed point added)));
}

-- The change of which these are the parts.
pub change_from_lists : (m n : ℕ) (bytes ranges points : List ℕ) (cut : List RangeValue) (added : List Point) → AreLists m n bytes ranges points → IsCut cut → flat_map range cut ≡ ranges → AreAddable added → flat_map point added ≡ points → IsChange m n bytes cut added
change_from_lists m n bytes ranges points cut added h is_cut cut_is is_added added_is =
    let first = listed_from_counted range m cut bytes ranges h.after_ranges length-range cut_is h.ranges_are in
    let second = listed_from_counted point n added h.after_ranges points [] length-point added_is h.points_are in
    record {
      is_cut = is_cut;
      is_added = is_added;
      few_ranges = first.0;
      few_points = second.0;
      bytes_are = first.1 ∙ ap (λ (l : List ℕ). listed range cut ++ l) (second.1 ∙ append-nil (listed point added));
    }

-- The bytes determine the change.
pub change_once : (m n : ℕ) → m ≤ 2 ^ 34 → n ≤ 2 ^ 34 → (bytes : List ℕ) (cut other : List RangeValue) (a b : List Point) → IsChange m n bytes cut a → IsChange m n bytes other b → (cut ≡ other) × (a ≡ b)
change_once m n m_small n_small bytes cut other a b h k =
    let once = lists_once m n m_small n_small bytes (flat_map range cut) (flat_map range other) (flat_map point a) (flat_map point b) (lists_from_change m n bytes cut a h) (lists_from_change m n bytes other b k) in
    (items_once range IsRange range_item cut other h.is_cut.each k.is_cut.each once.0, items_once point PointFits point_item a b (each_room a h.is_added.in_domain h.is_added.values_fit) (each_room b k.is_added.in_domain k.is_added.values_fit) once.1)
