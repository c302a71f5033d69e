-- Lemmas on the way down to the node of a span.
use Rattle.std.specs.Prelude.{◌≡◌, ℕ, ◌+◌, ◌-◌, ◌*◌, ◌/◌, ◌<◌, ◌≤◌, nat_eq, ℤ, pos, ◌+ℤ◌, ◌≤ℤ◌, ◌<ℤ◌, Bool, true, false, ◌&&◌, cond, List, [], length, Option}
use Rattle.std.proofs.Common.{zero, suc, refl, sym, ap, ◌∙◌, arith, subst, Bor, mul-le-mul_right}
use Rattle.std.proofs.Math.Nat.{div-mul-le_self, lt-div-mul-add}
use Rattle.std.proofs.lemmas.Bool.Decides.{nat_tests}
use Rattle.std.proofs.lemmas.Int.{ints}
use Rattle.btr_base.specs.declared.limits.TheConstants.{FIRST, LEAF_POINTS}
use Rattle.btr_base.specs.declared.point.Point.{Point}
use Rattle.btr_base.specs.Bag.{within, is_within}
use Rattle.btr_base.specs.Span.{width, SpanValue, IsSpan, IsAligned, slot_of}
use Rattle.btr_base.specs.Windows.{begin_of}
use Rattle.btr_base.proofs.ListLemmas.{length-filter}
use Rattle.btr_base.proofs.SpanLemmas.{width-times, width-positive, less-times, times-up_to}
use Rattle.btr_base.proofs.WithinLemmas.{within-nested}
use Rattle.btr_tree.specs.declared.node.Node.{Node}
use Rattle.btr_tree.specs.declared.node.Node.TheVariants.{Leaf, Inner}
use Rattle.btr_tree.specs.declared.node.NodeData.{NodeData}
use Rattle.btr_tree.specs.declared.slots.Slots.{Slots}
use Rattle.btr_tree.specs.Change.{end_of}
use Rattle.btr_tree.specs.History.{Past, bag}
use Rattle.btr_tree.specs.Nodes.{points_of, has_points, is_inner, above_root}
use Rattle.btr_tree.specs.Root.{root_part}
use Rattle.btr_tree.specs.Shape.{slot_start, IsNode, IsChild}
use Rattle.btr_tree.specs.Slots.{child_in}
use Rattle.btr_tree.proofs.NewNodeLemmas.{few-inner}
use Rattle.btr_tree.proofs.NodeLemmas.{leaf-is, inner-is, slot-part}
use Rattle.btr_tree.proofs.RootLemmas.{end-root}
use Rattle.btr_tree.proofs.UntouchedNodeLemmas.{some-has, many-inner}
use Rattle.btr_verify.specs.Judged.{span_above, above_of, is_node_in}
use Rattle.btr_verify.specs.Found.{IsNodeIn, LiesIn, IsChildIn}
use Rattle.btr_verify.proofs.FieldLemmas.{span-by}
use Rattle.btr_verify.proofs.AboveLemmas.{root-above, from-first, begin-part, slot-above}

-- ---- spans that lie in others

-- The part of a width in which an offset lies, inside a whole of several such parts.
record IsPartIn (n m w o : ℕ) : Type 0 where
  pub begins : n * (m * w) ≤ (o / w) * w
  pub ends : (o / w) * w + w ≤ n * (m * w) + m * w

part-in : (n m w o : ℕ) → 0 < w → n * (m * w) ≤ o → o < n * (m * w) + m * w → IsPartIn n m w o
part-in n m w o some low high =
    let q = o / w in
    let below = lt-div-mul-add {a = o} some in
    let least = div-mul-le_self o w in
    let one : n * (m * w) ≡ (n * m) * w = omega arith in
    let two : n * (m * w) + m * w ≡ (n * m + m) * w = omega arith in
    let three : (q + 1) * w ≡ q * w + w = omega arith in
    let from = less-times (n * m) (q + 1) w (omega arith) in
    let to = less-times q (n * m + m) w (omega arith) in
    let begins : (n * m) * w ≤ q * w = mul-le-mul_right w (omega arith) in
    let ends = times-up_to q (n * m + m) w to in
    record { begins = omega arith; ends = omega arith }

-- The span of a height around a time that lies in a span at least as high lies in that span.
record IsAround (height : ℕ) (t : ℤ) (whole : SpanValue) : Type 0 where
  pub begins : whole.start ≤ℤ begin_of FIRST (width height) t
  pub ends : (begin_of FIRST (width height) t +ℤ pos (width height)) ≤ℤ end_of whole

around : (height : ℕ) (t : ℤ) (o : ℕ) (whole : SpanValue) → IsSpan whole → height ≤ whole.height → t ≡ FIRST +ℤ pos o → whole.start ≤ℤ t → t <ℤ end_of whole → IsAround height t whole
around height t o whole aligned low e begins ends =
    let w = width height in
    let n = aligned.0 in
    let times = width-times (whole.height - height) height in
    let up : whole.height - height + height ≡ whole.height = omega arith in
    let wide : width whole.height ≡ times.0 * w = sym (ap width up) ∙ times.1 in
    let start : whole.start ≡ FIRST +ℤ pos (n * (times.0 * w)) = aligned.1.start ∙ ap (λ x. FIRST +ℤ pos (n * x)) wide in
    let end : end_of whole ≡ FIRST +ℤ pos (n * (times.0 * w) + times.0 * w) = omega (arith, ints) in
    let part = part-in n times.0 w o (width-positive height) (omega (arith, ints)) (omega (arith, ints)) in
    let at : begin_of FIRST w t ≡ FIRST +ℤ pos ((o / w) * w) = ap (begin_of FIRST w) e ∙ ap (λ x. FIRST +ℤ pos ((x / w) * w)) (from-first o) in
    let one = part.begins in
    let two = part.ends in
    record { begins = omega (arith, ints); ends = omega (arith, ints) }

-- The offset of a span, and the span of its own height around its start.
offset-at : (span : SpanValue) (n : ℕ) → IsAligned span n → begin_of FIRST (width span.height) span.start ≡ span.start
offset-at span n aligned =
    let w = width span.height in
    let some = width-positive span.height in
    let e : n * w + 0 ≡ n * w = omega arith in
    let at : span.start ≡ FIRST +ℤ pos (n * w + 0) = aligned.start ∙ ap (λ m. FIRST +ℤ pos m) (sym e) in
    ap (begin_of FIRST w) at ∙ begin-part w n 0 some ∙ sym aligned.start

-- ---- points of spans that lie in others

within-both : (a b c d : ℤ) (h : Past) → a ≤ℤ c → d ≤ℤ b → within c d (bag h) ≡ within c d (within a b (bag h))
within-both a b c d h low high = sym (within-nested a b c d (bag h) low high)

within-fewer : (a b c d : ℤ) (h : Past) → a ≤ℤ c → d ≤ℤ b → length (within c d (bag h)) ≤ length (within a b (bag h))
within-fewer a b c d h low high =
    subst (λ ps. length ps ≤ length (within a b (bag h))) (sym (within-both a b c d h low high)) (length-filter (is_within c d) (within a b (bag h)))

never-both : (a : Bool) → (a && false) ≡ false
never-both true = refl
never-both false = refl

-- A span is no node if a span around it has no point.
pub none-found : (at span : SpanValue) (h : Past) → IsSpan at → IsSpan span → LiesIn span at → points_of at.height at.start (bag h) ≡ [] → is_node_in span h ≡ false
none-found at span h whole part lies none =
    let w = width span.height in
    let n = part.0 in
    let own = offset-at span n part.1 in
    let in_whole = around span.height span.start (n * w) at whole lies.low part.1.start lies.begins lies.ends in
    let low : at.start ≤ℤ span.start = subst (λ t. at.start ≤ℤ t) own in_whole.begins in
    let high : (span.start +ℤ pos w) ≤ℤ end_of at = subst (λ t. (t +ℤ pos w) ≤ℤ end_of at) own in_whole.ends in
    let empty : points_of span.height span.start (bag h) ≡ [] = within-both at.start (end_of at) span.start (span.start +ℤ pos w) h low high ∙ ap (within span.start (span.start +ℤ pos w)) none in
    ap (λ ps. above_of span (bag h) && has_points ps) empty ∙ never-both (above_of span (bag h))

less-ten : (n : ℕ) → n < 10 → nat_eq n 10 ≡ false
less-ten n lt = grind (arith, nat_tests)

few-above : (span : SpanValue) (b : List Point) → span.height < 10 → length (points_of (span.height + 1) (begin_of FIRST (width (span.height + 1)) span.start) b) ≤ LEAF_POINTS → above_of span b ≡ false
unfolding above_of span_above
few-above span b low few =
    let start = begin_of FIRST (width (span.height + 1)) span.start in
    ap (λ t. cond t above_root (is_inner (span.height + 1) start) b) (less-ten span.height low) ∙ few-inner (span.height + 1) start b few

-- A span is no node if a higher span around it is no inner node.
pub leaf-found : (at span : SpanValue) (h : Past) → IsSpan at → IsSpan span → LiesIn span at → span.height < at.height → length (points_of at.height at.start (bag h)) ≤ LEAF_POINTS → is_node_in span h ≡ false
leaf-found at span h whole part lies lower few =
    let up = span.height + 1 in
    let start = begin_of FIRST (width up) span.start in
    let in_whole = around up span.start (part.0 * width span.height) at whole (omega arith) part.1.start lies.begins lies.ends in
    let fewer = within-fewer at.start (end_of at) start (start +ℤ pos (width up)) h in_whole.begins in_whole.ends in
    let high = whole.1.height in
    ap (λ t. t && has_points (points_of span.height span.start (bag h))) (few-above span (bag h) (omega arith) (omega arith))

-- ---- the node that was visited

node-points : (k : ℕ) (s : ℤ) (above : List Point → Bool) (h : Past) (node : Node) → IsNode k s above h node → 0 < length (points_of k s (bag h))
node-points k s above h (Leaf v ps) is = subst (λ x. 0 < length x) is.same is.some
node-points zero s above h (Inner v x) is = absurd is
node-points (suc k) s above h (Inner v x) is = let many = is.0.many in omega arith

-- A span that lies in another of the same height is that one.
same-span : (at span : SpanValue) → IsSpan at → IsSpan span → LiesIn span at → at.height ≡ span.height → at ≡ span
same-span at span whole part lies e =
    let w = width span.height in
    let n = part.0 in
    let own = offset-at span n part.1 in
    let in_whole = around span.height span.start (n * w) at whole lies.low part.1.start lies.begins lies.ends in
    let high : (span.start +ℤ pos w) ≤ℤ end_of at = subst (λ t. (t +ℤ pos w) ≤ℤ end_of at) own in_whole.ends in
    let wide : width at.height ≡ w = ap width e in
    let begins = lies.begins in
    let start : at.start ≡ span.start = omega (arith, ints) in
    span-by at.start span.start at.height span.height start e

-- The node of the span itself.
pub here-found : (at span : SpanValue) (h : Past) (node : Node) (child : Option NodeData) → IsSpan at → IsSpan span → LiesIn span at → at.height ≡ span.height → IsChildIn at child h → ((height : ℕ) (start : ℤ) (above : List Point → Bool) (g : Past) → IsChild height start above g child → IsNode height start above g node) → IsNodeIn span h node
here-found at span h node child whole part lies e has seen =
    let is = seen at.height at.start (above_of at) h has.its_child in
    let some = some-has (points_of at.height at.start (bag h)) (node-points at.height at.start (above_of at) h node is) in
    subst (λ x. IsNodeIn x h node) (same-span at span whole part lies e) (record {
      is_node = ap (λ t. t && has_points (points_of at.height at.start (bag h))) has.above ∙ some;
      its_node = is;
    })

-- A leaf that was visited has few points.
pub leaf-few : (at : SpanValue) (h : Past) (node : Node) (child : Option NodeData) (v : ℕ) (ps : Bor (List Point)) → IsChildIn at child h → ((height : ℕ) (start : ℤ) (above : List Point → Bool) (g : Past) → IsChild height start above g child → IsNode height start above g node) → node ≡ Leaf v ps → length (points_of at.height at.start (bag h)) ≤ LEAF_POINTS
leaf-few at h node child v ps has seen e =
    let is = leaf-is at.height at.start (above_of at) h node v ps e (seen at.height at.start (above_of at) h has.its_child) in
    subst (λ x. length x ≤ LEAF_POINTS) is.same is.few

-- The child of the slot of an inner node that was visited.
pub slot-child : (at slot : SpanValue) (h : Past) (node : Node) (child next : Option NodeData) (v i : ℕ) (x : Bor Slots) → IsSpan at → IsChildIn at child h → ((height : ℕ) (start : ℤ) (above : List Point → Bool) (g : Past) → IsChild height start above g child → IsNode height start above g node) → node ≡ Inner v x → i < 64 → slot ≡ slot_of at i → next ≡ child_in x.now i → IsChildIn slot next h
slot-child at slot h node child next v i x whole has seen e lt is_slot is_child =
    let body = inner-is at.height at.start (above_of at) h node v x e (seen at.height at.start (above_of at) h has.its_child) in
    let k = body.below in
    let part : SpanValue = record { start = slot_start k at.start i; height = k } in
    let above : above_of part ≡ is_inner (suc k) at.start = slot-above at k i whole body.height lt in
    let same : slot ≡ part = is_slot ∙ slot-part at k i body.height in
    subst (λ s. IsChildIn s next h) (sym same) (record {
      above = ap (λ f. f (bag h)) above ∙ many-inner (suc k) at.start (bag h) body.inner.many;
      its_child = subst (λ f. IsChild k (slot_start k at.start i) f h next) (sym above) (subst (λ o. IsChild k (slot_start k at.start i) (is_inner (suc k) at.start) h o) (sym is_child) (body.each i lt));
    })

-- ---- the root

pub in-root : (span : SpanValue) → IsSpan span → LiesIn span root_part
in-root span part =
    let some = width-positive span.height in
    let start = part.1.start in
    let ends = part.1.ends in
    let end = end-root in
    record { low = part.1.height; begins = omega (arith, ints); ends = omega (arith, ints) }

pub root-child : (child : Option NodeData) (h : Past) → IsChild 10 FIRST above_root h child → IsChildIn root_part child h
root-child child h is =
    record {
      above = ap (λ f. f (bag h)) root-above;
      its_child = subst (λ f. IsChild 10 FIRST f h child) (sym root-above) is;
    }
