-- The pages that pieces written in place make.
use Rattle.std.specs.Prelude.{◌≡◌, ℕ, zero, suc, ◌+◌, ◌-◌, ◌*◌, ◌≤◌, List, [], ◌++◌, length, take, drop, replicate, codes}
use Rattle.std.proofs.Common.{refl, sym, ap, ◌∙◌, arith, append_assoc}
use Rattle.std.specs.List.{flat_map}
use borrow.Rule.Slice.PartMut.{put_mid}
use Rattle.std.proofs.lemmas.List.{append-nil, drop_all, drop-drop, replicate-append-replicate}
use Rattle.std.proofs.lemmas.List.Concat.{flat_map-cons}
use Rattle.std.proofs.lemmas.Grind.{flat_map-append}
use Rattle.btr_base.specs.declared.point.Point.{Point}
use Rattle.btr_node.specs.declared.page.PageHeader.{PageHeader}
use Rattle.btr_node.specs.declared.page.NodePage.TheVariants.{Leaf}
use Rattle.btr_node.specs.Page.{header_bytes, number, page_bytes, places_with, point_bytes, unused_place, zeros}

-- Zeros from an index on, up to the end.
pub zeros-put : (at : ℕ) (old new : List ℕ) (n : ℕ) → at ≤ 4096 → length old ≡ 4096 → new ≡ replicate n 0 → n ≡ 4096 - at → put_mid at (length old - at) old new ≡ take at old ++ zeros (4096 - at)
unfolding zeros
zeros-put at old new n inside long is n_is =
    let past : drop (length old - at) (drop at old) ≡ [] = drop-drop (length old - at) at old ∙ drop_all (at + (length old - at)) old (omega arith) in
    ap (λ l. take at old ++ (new ++ l)) past
    ∙ ap (λ l. take at old ++ l) (append-nil new ∙ is ∙ ap (λ k. replicate k 0) n_is)

-- The bytes of unused places are zeros.
unused-bytes : point_bytes unused_place ≡ zeros 16
unfolding point_bytes number zeros
unused-bytes = refl

places-bytes : (n : ℕ) → flat_map point_bytes (replicate n unused_place) ≡ zeros (16 * n)
unfolding zeros
places-bytes zero = refl
places-bytes (suc n) =
    let more : 16 + 16 * n ≡ 16 * suc n = omega arith in
    flat_map-cons point_bytes unused_place (replicate n unused_place)
    ∙ ap (λ l. l ++ flat_map point_bytes (replicate n unused_place)) unused-bytes
    ∙ ap (λ l. replicate 16 0 ++ l) (places-bytes n)
    ∙ replicate-append-replicate 16 (16 * n) 0
    ∙ ap (λ k. replicate k 0) more

-- The mark and the fields, the points, and zeros up to the end make the page of a leaf.
pub leaf-filled : (f : PageHeader) (points : List Point) (used : ℕ) (t1 t2 t3 t4 : List ℕ) → length points ≤ 252 → used ≡ 64 + 16 * length points → take 8 t1 ≡ codes "BTR-LEAF" → take 64 t2 ≡ take 8 t1 ++ header_bytes f → take (64 + 16 * length points) t3 ≡ take 64 t2 ++ flat_map point_bytes points → t4 ≡ take used t3 ++ zeros (4096 - used) → t4 ≡ page_bytes (Leaf f.start f.height f.stream f.version f.count (places_with points))
unfolding page_bytes
leaf-filled f points used t1 t2 t3 t4 few used_is e1 e2 e3 e4 =
    let head : List ℕ = codes "BTR-LEAF" ++ header_bytes f in
    let bytes : List ℕ = flat_map point_bytes points in
    let rest : ℕ = 252 - length points in
    let left : 4096 - used ≡ 16 * rest = omega arith in
    let places : flat_map point_bytes (places_with points) ≡ bytes ++ zeros (16 * rest) = flat_map-append point_bytes points (replicate rest unused_place) ∙ ap (λ l. bytes ++ l) (places-bytes rest) in
    let written : take used t3 ≡ head ++ bytes = ap (λ k. take k t3) used_is ∙ e3 ∙ ap (λ l. l ++ bytes) (e2 ∙ ap (λ l. l ++ header_bytes f) e1) in
    e4
    ∙ ap (λ n. take used t3 ++ zeros n) left
    ∙ ap (λ l. l ++ zeros (16 * rest)) written
    ∙ append_assoc head bytes (zeros (16 * rest))
    ∙ ap (λ l. head ++ l) (sym places)

-- A leaf whose places are all used.
pub all-places : (points : List Point) → length points ≡ 252 → places_with points ≡ points
all-places points all =
    let none : 252 - length points ≡ 0 = omega arith in
    ap (λ n. points ++ replicate n unused_place) none ∙ append-nil points
