-- Lemmas on the item at a place below a node: a step to a child, and a node with one child put.
use Rattle.std.specs.Prelude.{◌≡◌, ◌≢◌, ℕ, zero, suc, ◌+◌, ◌*◌, ◌/◌, ◌%◌, ◌^◌, ◌<◌, ◌≤◌, List, length, Vec, Option, None, Some, IsSome, is_some}
use Rattle.std.proofs.Common.{refl, sym, ap, ◌∙◌, arith, inl, inr}
use Rattle.std.proofs.lemmas.Bool.{cases_lt}
use Rattle.std.proofs.lemmas.Nat.{pow_pos, pow_below, div-add-mod', div-mul-add, mod-mul-add}
use Rattle.std.proofs.Math.Nat.{mod-lt, mod-eq_of_lt}
use Rattle.std.specs.declared.alloc.Global.{Global}
use Rattle.std.specs.declared.sync.Arc.{Arc}
use Rattle.btr_board.specs.declared.trail_node.TrailNode.{TrailNode, out-TrailNode}
use Rattle.btr_board.specs.declared.trail_node.TrailNode.TheVariants.{Leaf, Inner, rolls-Leaf, rolls-Inner}
use Rattle.btr_board.specs.declared.trail_node.TrailNode.TheOpen.{TrailNode-F}
use Rattle.btr_board.specs.declared.trail_node.TrailNode.TheViews.{out-roll-TrailNode}
use Rattle.btr_board.specs.Put.{put_at}
use Rattle.btr_board.specs.Places.{value_at, items_of, children_of, width, found, IsFilled, items_in, children_in}
use Rattle.btr_board.proofs.ValueLemmas.{value-past}
use Rattle.btr_board.proofs.PutLemmas.{same_or_other, put-same, put-other, put-is, put-alike}

pub width-positive : (h : ℕ) → 0 < width h
unfolding width
width-positive h = pow_pos (5 * h)

-- A one, shifted by less than a word.
pub shift-one : (k : ℕ) → k < 64 → 1 * 2 ^ k % 18446744073709551616 ≡ 2 ^ k
shift-one k lt =
    let less : 2 ^ k < 2 ^ 64 = pow_below k 64 lt in
    let fits : 1 * 2 ^ k < 18446744073709551616 = omega arith in
    let alone : 1 * 2 ^ k ≡ 2 ^ k = omega arith in
    mod-eq_of_lt fits ∙ alone

-- A node that is missing has no item.
pub none-found : {T : Type 0} (k i : ℕ) → found {T = T} k None i ≡ None
unfolding found
none-found zero i = refl
none-found (suc k) i = none-found k (i % width (suc k))

pub found-leaf : {T : Type 0} (h : ℕ) (root : Option (TrailNode T)) (i : ℕ) → h ≡ 0 → found h root i ≡ value_at (items_of root) i
unfolding found
found-leaf h root i e = ap (λ k. found k root i) e

-- The item below a node of height h is that below its child, which has height k.
pub found-inner : {T : Type 0} (k h : ℕ) (root : Option (TrailNode T)) (kids : List (Arc (TrailNode T) Global)) (i at rest : ℕ) → h ≡ suc k → kids ≡ children_of root → i / width h ≡ at → i % width h ≡ rest → found h root i ≡ found k (value_at kids at) rest
unfolding found
found-inner k h root kids i at rest e same child place =
    ap (λ n. found n root i) e
    ∙ ap (λ n. found k (value_at (children_of root) (i / width n)) (i % width n)) (sym e)
    ∙ ap (λ xs. found k (value_at xs (i / width h)) (i % width h)) (sym same)
    ∙ ap (λ n. found k (value_at kids n) (i % width h)) child
    ∙ ap (λ n. found k (value_at kids at) n) place

-- Each place of a child before the place is taken.
pub filled-child : {T : Type 0} (k h : ℕ) (root : Option (TrailNode T)) (kids : List (Arc (TrailNode T) Global)) (place at rest : ℕ) → h ≡ suc k → kids ≡ children_of root → at ≡ place / width h → rest ≡ place % width h → IsFilled (found h root) place → IsFilled (found k (value_at kids at)) rest
filled-child k h root kids place at rest e same child remainder filled j lt =
    let whole = div-add-mod' place (width h) in
    let short = mod-lt place (width-positive h) in
    let start : place ≡ at * width h + rest = rw (child, remainder) (sym whole) in
    let inside : j < width h = omega arith in
    let here = found-inner k h root kids (at * width h + j) at j e same (div-mul-add at (width h) j inside) (mod-mul-add at (width h) j inside) in
    ap is_some (sym here) ∙ filled (at * width h + j) (omega arith)

next-child : {T : Type 0} (k h : ℕ) (root : Option (TrailNode T)) (kids : List (Arc (TrailNode T) Global)) (at : ℕ) → h ≡ suc k → kids ≡ children_of root → IsSome (found h root (at * width h + 0)) → length kids ≤ at → ⊥
next-child k h root kids at e same some le =
    let wide = width-positive h in
    let here = found-inner k h root kids (at * width h + 0) at 0 e same (div-mul-add at (width h) 0 wide) (mod-mul-add at (width h) 0 wide) in
    let none = here ∙ ap (λ o. found k o 0) (value-past kids at le) ∙ none-found k 0 in
    let some' = ap is_some (sym none) ∙ some in
    cc

-- The child of the place is there, or it is the next one.
pub filled-children : {T : Type 0} (k h : ℕ) (root : Option (TrailNode T)) (kids : List (Arc (TrailNode T) Global)) (place at : ℕ) → h ≡ suc k → kids ≡ children_of root → at ≡ place / width h → IsFilled (found h root) place → at ≤ length kids
filled-children k h root kids place zero e same child filled = omega arith
filled-children k h root kids place (suc at) e same child filled =
    let whole = div-add-mod' place (width h) in
    let wide = width-positive h in
    let start : place ≡ suc at * width h + place % width h = rw child (sym whole) in
    let before : at * width h + 0 < place = omega arith in
    elim (cases_lt at (length kids)) [
      | inl lt ↦ lt
      | inr le ↦ absurd (next-child k h root kids at e same (filled (at * width h + 0) before) le)
    ]

-- Places with the same child and the same rest are the same.
same-place : (w i j : ℕ) → i / w ≡ j / w → i % w ≡ j % w → i ≡ j
same-place w i j q r = sym (div-add-mod' i w) ∙ ap (λ n. n * w + i % w) q ∙ ap (λ n. j / w * w + n) r ∙ div-add-mod' j w

-- A node with one child put, which is the old child with one item put.
pub found-put : {T : Type 0} (k h : ℕ) (root new : Option (TrailNode T)) (kids after : List (Arc (TrailNode T) Global)) (place at rest : ℕ) (child : TrailNode T) (x : T) → h ≡ suc k → kids ≡ children_of root → after ≡ children_of new → at ≡ place / width h → rest ≡ place % width h → ((i : ℕ) → value_at after i ≡ put_at at child (value_at kids) i) → ((i : ℕ) → found k (Some child) i ≡ put_at rest x (found k (value_at kids at)) i) → (j : ℕ) → found h new j ≡ put_at place x (found h root) j
found-put k h root new kids after place at rest child x e same same' is_child is_rest put below j =
    let w = width h in
    let here = found-inner k h new after j (j / w) (j % w) e same' refl refl in
    let old = found-inner k h root kids j (j / w) (j % w) e same refl refl in
    let moved = here ∙ ap (λ o. found k o (j % w)) (put (j / w)) in
    put-is place x (found h root) j (found h new j) (λ (s : j ≡ place).
    moved
    ∙ ap (λ o. found k o (j % w)) (put-same at child (value_at kids) (j / w) (ap (λ n. n / w) s ∙ sym is_child))
    ∙ below (j % w)
    ∙ put-same rest x (found k (value_at kids at)) (j % w) (ap (λ n. n % w) s ∙ sym is_rest)) (λ (ne : j ≢ place).
    elim (same_or_other (j / w) at) [
      | inl q ↦ moved
          ∙ ap (λ o. found k o (j % w)) (put-same at child (value_at kids) (j / w) q)
          ∙ below (j % w)
          ∙ put-other rest x (found k (value_at kids at)) (j % w) (λ r. ne (same-place w j place (q ∙ is_child) (r ∙ is_rest)))
          ∙ ap (λ n. found k (value_at kids n) (j % w)) (sym q)
          ∙ sym old
      | inr nq ↦ moved ∙ ap (λ o. found k o (j % w)) (put-other at child (value_at kids) (j / w) nq) ∙ sym old
    ])

-- ---- a node in memory

pub leaf-items : {T : Type 0} (n : TrailNode T) (items : Vec (Arc T Global) Global) → n ≡ Leaf items → items.items ≡ items_of (Some n)
leaf-items {T = T} n items e =
    sym (ap (λ m. items_in (out-TrailNode T m)) e
    ∙ ap (λ m. items_in (out-TrailNode T m)) (sym (rolls-Leaf items))
    ∙ ap items_in (out-roll-TrailNode T (TrailNode-F.Leaf items)))

pub inner-children : {T : Type 0} (n : TrailNode T) (children : Vec (Arc (TrailNode T) Global) Global) → n ≡ Inner children → children.items ≡ children_of (Some n)
inner-children {T = T} n children e =
    sym (ap (λ m. children_in (out-TrailNode T m)) e
    ∙ ap (λ m. children_in (out-TrailNode T m)) (sym (rolls-Inner children))
    ∙ ap children_in (out-roll-TrailNode T (TrailNode-F.Inner children)))

-- The place is that of an item of the leaf, or the next one.
pub filled-items : {T : Type 0} (h : ℕ) (root : Option (TrailNode T)) (items : List (Arc T Global)) (place : ℕ) → h ≡ 0 → items ≡ items_of root → IsFilled (found h root) place → place ≤ length items
filled-items h root items zero e same filled = omega arith
filled-items h root items (suc place) e same filled =
    elim (cases_lt place (length items)) [
      | inl lt ↦ lt
      | inr le ↦ absurd (
          let none = found-leaf h root place e ∙ ap (λ xs. value_at xs place) (sym same) ∙ value-past items place le in
          let some = ap is_some (sym none) ∙ filled place (omega arith) in
          cc)
    ]

-- A leaf with one item put.
pub leaf-put : {T : Type 0} (h : ℕ) (root : Option (TrailNode T)) (n : TrailNode T) (old : List (Arc T Global)) (items : Vec (Arc T Global) Global) (place : ℕ) (x y : T) (j : ℕ) → h ≡ 0 → old ≡ items_of root → n ≡ Leaf items → y ≡ x → ((j : ℕ) → value_at items.items j ≡ put_at place y (value_at old) j) → found h (Some n) j ≡ put_at place x (found h root) j
leaf-put h root n old items place x y j e same is_leaf is_item put =
    found-leaf h (Some n) j e
    ∙ ap (λ xs. value_at xs j) (sym (leaf-items n items is_leaf))
    ∙ put j
    ∙ ap (λ z. put_at place z (value_at old) j) is_item
    ∙ put-alike place x (value_at old) (found h root) j (ap (λ xs. value_at xs j) same ∙ sym (found-leaf h root j e))

-- A node above another, which is its only child, or above none.
pub raised-found : {T : Type 0} (k h : ℕ) (root : Option (TrailNode T)) (n : TrailNode T) (children : Vec (Arc (TrailNode T) Global) Global) (j : ℕ) → h ≡ suc k → n ≡ Inner children → value_at children.items 0 ≡ root → j < width h → found h (Some n) j ≡ found k root j
raised-found k h root n children j e is_inner child lt =
    let first : (0 * width h + j) / width h ≡ 0 = div-mul-add 0 (width h) j lt in
    let rest : (0 * width h + j) % width h ≡ j = mod-mul-add 0 (width h) j lt in
    let alone : 0 * width h + j ≡ j = omega arith in
    found-inner k h (Some n) children.items j 0 j e (inner-children n children is_inner) (rw alone at first) (rw alone at rest)
    ∙ ap (λ o. found k o j) child
