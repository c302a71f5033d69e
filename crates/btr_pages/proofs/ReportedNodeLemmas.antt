-- Where the nodes that a commit writes stand, and what each of them is: over stores alone, without pages.
use Rattle.std.specs.Prelude.{◌≡◌, ◌⊎◌, ℕ, ◌+◌, ◌-◌, ◌*◌, ◌<◌, ◌≤◌, ℤ, pos, ◌+ℤ◌, ◌*ℤ◌, ◌≤ℤ◌, ◌<ℤ◌, Bool, true, false, not, ◌&&◌, ◌||◌, cond, nat_lt, nat_eq, List, [], ◌∷◌, ◌++◌, length, slice_get, Option, Some, None, option_map, if◌then◌else◌}
use Rattle.std.specs.List.{AllByRecursion, sum_by}
use Rattle.std.proofs.Common.{zero, suc, refl, sym, ap, ◌∙◌, arith, subst, inl, inr, length-append}
use Rattle.std.proofs.Math.Nat.{eq-or-lt_of_le}
use Rattle.std.proofs.lemmas.Bool.{cases_lt}
use Rattle.std.proofs.lemmas.Bool.Decides.{nat_tests}
use Rattle.std.proofs.lemmas.Int.{ints}
use Rattle.std.proofs.lemmas.List.Sums.{sum_by-cons, sum_by-append}
use Rattle.std.proofs.lemmas.Option.{slice_get-map}
use Rattle.btr_base.specs.declared.limits.TheConstants.{FIRST, END, LEAF_POINTS}
use Rattle.btr_base.specs.declared.point.Point.{Point}
use Rattle.btr_base.specs.Bag.{within}
use Rattle.btr_base.specs.Span.{width, SpanValue, IsSpan}
use Rattle.btr_base.proofs.AggLemmas.{agg-count}
use Rattle.btr_base.proofs.ListLemmas.{each-append}
use Rattle.btr_base.proofs.SpanLemmas.{slot-aligned, width-positive}
use Rattle.btr_tree.specs.declared.node.Link.{Link}
use Rattle.btr_tree.specs.declared.node.NodeData.{NodeData, out-NodeData}
use Rattle.btr_tree.specs.declared.node.NodeData.TheOpen.{NodeData-F}
use Rattle.btr_tree.specs.declared.node.Slot.{Slot}
use Rattle.btr_tree.specs.declared.slots.Kept.{Kept}
use Rattle.btr_tree.specs.declared.slots.Slots.{Slots}
use Rattle.btr_tree.specs.Crowd.{HasNoCrowdedSpan}
use Rattle.btr_tree.specs.History.{Commit, Past, Opened, ◌▷◌, bag, IsBefore}
use Rattle.btr_tree.specs.Leads.{slot_to, slots_to, node_to, Leads}
use Rattle.btr_tree.specs.NewNodes.{NewNodeValue, bare, bare_all, concat_first, new_node, own_node, new_nodes}
use Rattle.btr_tree.specs.Nodes.{points_of, has_points, touches, is_inner, is_node, above_root, last_change, node_version}
use Rattle.btr_tree.specs.Shape.{ByKind, slot_start, slot_of_points, IsLeaf, IsInner, HasChildren, IsChild}
use Rattle.btr_tree.specs.Slots.{child_in}
use Rattle.btr_tree.specs.Stored.{Store, laid, leaf_node, ByBlock, IsStoredLeaf, IsStoredInner, IsStored}
use Rattle.btr_tree.proofs.LeadsLemmas.{items-get, items-length}
use Rattle.btr_tree.proofs.NewNodeLemmas.{last_change-before, first-next, few-inner}
use Rattle.btr_tree.proofs.NodeLemmas.{slot-next, slot-end, slot-first, slot-part, prefix-next, prefix-none, prefix-all}
use Rattle.btr_tree.proofs.RootLemmas.{root-aligned}
use Rattle.btr_tree.proofs.UntouchedNodeLemmas.{many-inner, some-has}
use Rattle.btr_tree.proofs.VersionLemmas.{points-untouched}

-- ---- lists

-- What holds of each element holds of the one at a place.
pub each-get : {X : Type 0} (P : X → Type 0) (xs : List X) (i : ℕ) (x : X) → AllByRecursion P xs → slice_get xs i ≡ Some x → P x
each-get P [] i x h at = absurd (cc)
each-get P (y ∷ xs) zero x h at = let e : y ≡ x = cc in subst P e h.0
each-get P (y ∷ xs) (suc i) x h at = each-get P xs i x h.1 at

pub each-first : {X : Type 0} (P : X → Type 0) (n : ℕ) (f : ℕ → List X) → ((i : ℕ) → i < n → AllByRecursion P (f i)) → AllByRecursion P (concat_first n f)
each-first P zero f h = tt
each-first P (suc n) f h =
    each-append P (concat_first n f) (f n) (each-first P n f (λ i lt. h i (omega arith))) (h n (omega arith))

-- ---- the order of the nodes that a commit writes: by the end of the span, and of spans with one end by height

abbrev key_of : ℤ → ℕ → ℤ
key_of end height = (pos 11 *ℤ end) +ℤ pos height

abbrev rank_of : NewNodeValue → ℤ
rank_of n = key_of (n.span.start +ℤ pos (width n.span.height)) n.span.height

-- The ranks rise, from above one number up to another.
abbrev Rises : ℤ → ℤ → List NewNodeValue → Type 0
Rises a b [] = a ≤ℤ b
Rises a b (n ∷ ns) = (a <ℤ rank_of n) × Rises (rank_of n) b ns

rises-more : (a b c : ℤ) (ns : List NewNodeValue) → b ≤ℤ c → Rises a b ns → Rises a c ns
rises-more a b c [] le h = omega (arith, ints)
rises-more a b c (n ∷ ns) le h = (h.0, rises-more (rank_of n) b c ns le h.1)

rises-from : (a b c : ℤ) (ns : List NewNodeValue) → a ≤ℤ b → Rises b c ns → Rises a c ns
rises-from a b c [] le h = omega (arith, ints)
rises-from a b c (n ∷ ns) le h = let low = h.0 in (omega (arith, ints), h.1)

rises-append : (a b c : ℤ) (ms ns : List NewNodeValue) → Rises a b ms → Rises b c ns → Rises a c (ms ++ ns)
rises-append a b c [] ns h k = rises-from a b c ns h k
rises-append a b c (m ∷ ms) ns h k = (h.0, rises-append (rank_of m) b c ms ns h.1 k)

rises-cond : (a b : ℤ) (t : Bool) (ns : List NewNodeValue) → a ≤ℤ b → Rises a b ns → Rises a b (cond t ns [])
rises-cond a b true ns le h = h
rises-cond a b false ns le h = le

rises-first : (n : ℕ) (g : ℕ → ℤ) (f : ℕ → List NewNodeValue) → ((i : ℕ) → i < n → Rises (g i) (g (i + 1)) (f i)) → Rises (g 0) (g n) (concat_first n f)
rises-first zero g f h = omega (arith, ints)
rises-first (suc n) g f h =
    let e : n + 1 ≡ suc n = omega arith in
    rises-append (g 0) (g n) (g (suc n)) (concat_first n f) (f n) (rises-first n g f (λ i lt. h i (omega arith))) (subst (λ m. Rises (g n) (g m) (f n)) e (h n (omega arith)))

own-rises : (k : ℕ) (s : ℤ) (above : List Point → Bool) (h : Past) (v : ℕ) (a : ℤ) → a <ℤ key_of (s +ℤ pos (width k)) k → Rises a (key_of (s +ℤ pos (width k)) k) (own_node k s above h v)
own-rises zero s above h v a lt =
    rises-cond a (key_of (s +ℤ pos (width zero)) zero) (is_node above zero s (bag h) && nat_eq (node_version above zero s h) v) (new_node zero s above h ∷ []) (omega (arith, ints)) (lt, omega (arith, ints))
own-rises (suc k) s above h v a lt =
    rises-cond a (key_of (s +ℤ pos (width (suc k))) (suc k)) (is_node above (suc k) s (bag h) && nat_eq (node_version above (suc k) s h) v) (new_node (suc k) s above h ∷ []) (omega (arith, ints)) (lt, omega (arith, ints))

new_nodes-rise : (k : ℕ) (s : ℤ) (above : List Point → Bool) (h : Past) (v : ℕ) → k ≤ 10 → Rises (key_of s 10) (key_of (s +ℤ pos (width k)) k) (new_nodes k s above h v)
new_nodes-rise zero s above h v low =
    let some = width-positive 0 in
    own-rises zero s above h v (key_of s 10) (omega (arith, ints))
new_nodes-rise (suc k) s above h v low =
    let some = width-positive k in
    let wide = width-positive (suc k) in
    let f = λ (i : ℕ). new_nodes k (slot_start k s i) (is_inner (suc k) s) h v in
    let g = λ (i : ℕ). key_of (slot_start k s i) 10 in
    let end = key_of (s +ℤ pos (width (suc k))) k in
    let each = λ (i : ℕ) (lt : i < 63). let next = slot-next k s i in rises-more (g i) (key_of (slot_start k s i +ℤ pos (width k)) k) (g (i + 1)) (f i) (omega (arith, ints)) (new_nodes-rise k (slot_start k s i) (is_inner (suc k) s) h v (omega arith)) in
    let most = rises-first 63 g f each in
    let next = slot-next k s 63 in
    let final = slot-end k s in
    let last : Rises (g 63) end (f 63) = rises-more (g 63) (key_of (slot_start k s 63 +ℤ pos (width k)) k) end (f 63) (omega (arith, ints)) (new_nodes-rise k (slot_start k s 63) (is_inner (suc k) s) h v (omega arith)) in
    let all : Rises (g 0) end (concat_first 64 f) = subst (Rises (g 0) end) (sym (first-next 63 f)) (rises-append (g 0) (g 63) end (concat_first 63 f) (f 63) most last) in
    let begins = slot-first k s in
    let start : key_of s 10 ≡ g 0 = ap (λ t. key_of t 10) (sym begins) in
    rises-append (key_of s 10) end (key_of (s +ℤ pos (width (suc k))) (suc k)) (cond (is_inner (suc k) s (bag h)) (concat_first 64 f) []) (own_node (suc k) s above h v) (rises-cond (key_of s 10) end (is_inner (suc k) s (bag h)) (concat_first 64 f) (omega (arith, ints)) (subst (λ t. Rises t end (concat_first 64 f)) (sym start) all)) (own-rises (suc k) s above h v end (omega (arith, ints)))

rises-get : (a b : ℤ) (ns : List NewNodeValue) (i : ℕ) (n : NewNodeValue) → Rises a b ns → slice_get ns i ≡ Some n → a <ℤ rank_of n
rises-get a b [] i n h at = absurd (cc)
rises-get a b (m ∷ ns) zero n h at = let e : m ≡ n = cc in subst (λ x. a <ℤ rank_of x) e h.0
rises-get a b (m ∷ ns) (suc i) n h at =
    let low = h.0 in
    let next = rises-get (rank_of m) b ns i n h.1 at in
    omega (arith, ints)

rises-less : (a b : ℤ) (ns : List NewNodeValue) (i j : ℕ) (m n : NewNodeValue) → Rises a b ns → i < j → slice_get ns i ≡ Some m → slice_get ns j ≡ Some n → rank_of m <ℤ rank_of n
rises-less a b [] i j m n h lt p q = absurd (cc)
rises-less a b (x ∷ ns) zero (suc j) m n h lt p q =
    let e : x ≡ m = cc in subst (λ y. rank_of y <ℤ rank_of n) e (rises-get (rank_of x) b ns j n h.1 q)
rises-less a b (x ∷ ns) (suc i) (suc j) m n h lt p q =
    rises-less (rank_of x) b ns i j m n h.1 (omega arith) p q
rises-less a b (x ∷ ns) i zero m n h lt p q = absurd (omega arith)

-- Nodes of the same span stand at the same place.
pub new_nodes-apart : (k : ℕ) (s : ℤ) (above : List Point → Bool) (h : Past) (v i j : ℕ) (m n : NewNodeValue) → k ≤ 10 → slice_get (new_nodes k s above h v) i ≡ Some m → slice_get (new_nodes k s above h v) j ≡ Some n → m.span ≡ n.span → i ≡ j
new_nodes-apart k s above h v i j m n low p q same =
    let ns = new_nodes k s above h v in
    let a = key_of s 10 in
    let b = key_of (s +ℤ pos (width k)) k in
    let rise = new_nodes-rise k s above h v low in
    let rank : rank_of m ≡ rank_of n = ap (λ (x : SpanValue). key_of (x.start +ℤ pos (width x.height)) x.height) same in
    elim (cases_lt i j) [
      | inl lt ↦ let less = rises-less a b ns i j m n rise lt p q in absurd (omega (arith, ints))
      | inr le ↦ elim (eq-or-lt_of_le le) [
        | inl e ↦ sym e
        | inr lt ↦ let less = rises-less a b ns j i n m rise lt q p in absurd (omega (arith, ints))
      ]
    ]

-- ---- versions

-- Where a span has a point, its version as a slot is its version as a node.
pub version-same : (was : List Point → Bool) (k : ℕ) (s : ℤ) (h : Past) → 0 < length (points_of k s (bag h)) → last_change was k s h ≡ last_change (is_node was k s) k s h
version-same was k s (Opened b dates) some = refl
version-same was k s (c ▷ h) some =
    elim (touches c k s (bag h)) as (λ t. touches c k s (bag h) ≡ t → cond (t || not (was (bag h))) c.version (last_change was k s h) ≡ cond (t || not (was (bag h) && has_points (points_of k s (bag h)))) c.version (last_change (is_node was k s) k s h)) [
      | true ↦ λ e. refl
      | false ↦ λ e.
          let same = points-untouched k s c h e in
          let before : 0 < length (points_of k s (bag h)) = subst (λ (x : List Point). 0 < length x) same some in
          let has = some-has (points_of k s (bag h)) before in
          let rest = version-same was k s h before in
          elim (was (bag h)) as (λ w. cond (not w) c.version (last_change was k s h) ≡ cond (not (w && has_points (points_of k s (bag h)))) c.version (last_change (is_node was k s) k s h)) [
            | true ↦ rest ∙ sym (ap (λ t. cond (not t) c.version (last_change (is_node was k s) k s h)) has)
            | false ↦ refl
          ]
    ] refl

-- No version is above that of the last commit.
pub version-at_most : (was : List Point → Bool) (k : ℕ) (s : ℤ) (h : Past) (c : Commit) → 0 < c.version → IsBefore c.version h → last_change was k s (c ▷ h) ≤ c.version
version-at_most was k s h c some before =
    let old = last_change-before was k s h c.version some before in
    elim (touches c k s (bag h) || not (was (bag h))) as (λ t. cond t c.version (last_change was k s h) ≤ c.version) [
      | true ↦ omega arith
      | false ↦ omega arith
    ]

-- ---- the nodes of a store that are older than a version

abbrev pub older_node : ℕ → Option NewNodeValue → Option NewNodeValue
older_node v None = None
older_node v (Some n) = if nat_lt n.version v then Some n else None

abbrev pub older : ℕ → Store → Store
older v store block = older_node v (store block)

less-test : (a b : ℕ) → a < b → nat_lt a b ≡ true
less-test a b lt = grind (arith, nat_tests)

test-less : (a b : ℕ) → nat_lt a b ≡ true → a < b
test-less a b e = grind (arith, nat_tests)

older-keeps : (v : ℕ) (o : Option NewNodeValue) (n : NewNodeValue) → o ≡ Some n → n.version < v → older_node v o ≡ Some n
older-keeps v o n e lt =
    ap (older_node v) e ∙ ap (λ t. cond t (Some n) None) (less-test n.version v lt)

pub older-is : (v : ℕ) (o : Option NewNodeValue) (n : NewNodeValue) → older_node v o ≡ Some n → (o ≡ Some n) × (n.version < v)
older-is v None n e = absurd (cc)
older-is v (Some m) n e =
    elim (nat_lt m.version v) as (λ t. nat_lt m.version v ≡ t → cond t (Some m) None ≡ Some n → (Some m ≡ Some n) × (n.version < v)) [
      | true ↦ λ test at. let same : m ≡ n = cc in (at, subst (λ (x : NewNodeValue). x.version < v) same (test-less m.version v test))
      | false ↦ λ test at. absurd (cc)
    ] refl e

zero-older : (f : Store) (v : ℕ) (s : ℤ) (above : List Point → Bool) (h : Past) (d : NodeData-F NodeData Link Kept Slots) → 0 < v → IsBefore v h → ByKind (λ w ps. IsLeaf zero s above h w ps) (λ w x. ⊥) d → ByBlock (IsStoredLeaf f (record { start = s; height = zero })) (λ b w x. ⊥) d → ByBlock (IsStoredLeaf (older v f) (record { start = s; height = zero })) (λ b w x. ⊥) d
zero-older f v s above h (NodeData-F.Leaf b w ps) some before l st =
    let old = last_change-before (is_node above zero s) zero s h v some before in
    record { some = st.some; is = older-keeps v (f b) (leaf_node (record { start = s; height = zero }) w ps.items) st.is (subst (λ y. y < v) (sym l.version) old) }
zero-older f v s above h (NodeData-F.Inner b w x) some before l st = absurd l

kind-older : (f : Store) (v k : ℕ) (s : ℤ) (above : List Point → Bool) (h : Past) (d : NodeData-F NodeData Link Kept Slots) → 0 < v → IsBefore v h → ByKind (λ w ps. IsLeaf (suc k) s above h w ps) (λ w x. IsInner k s above h w x × HasChildren k s h x) d → ByBlock (IsStoredLeaf f (record { start = s; height = suc k })) (λ b w x. IsStoredInner f (record { start = s; height = suc k }) b w x (λ i. IsStored f k (slot_start k s i) (child_in x i))) d → ((x : Slots) (i : ℕ) → IsChild k (slot_start k s i) (is_inner (suc k) s) h (child_in x i) → IsStored f k (slot_start k s i) (child_in x i) → IsStored (older v f) k (slot_start k s i) (child_in x i)) → ByBlock (IsStoredLeaf (older v f) (record { start = s; height = suc k })) (λ b w x. IsStoredInner (older v f) (record { start = s; height = suc k }) b w x (λ i. IsStored (older v f) k (slot_start k s i) (child_in x i))) d
kind-older f v k s above h (NodeData-F.Leaf b w ps) some before l st on =
    let old = last_change-before (is_node above (suc k) s) (suc k) s h v some before in
    record { some = st.some; is = older-keeps v (f b) (leaf_node (record { start = s; height = suc k }) w ps.items) st.is (subst (λ y. y < v) (sym l.version) old) }
kind-older f v k s above h (NodeData-F.Inner b w x) some before n st on =
    let old = last_change-before (is_node above (suc k) s) (suc k) s h v some before in
    record {
      some = st.some;
      is = older-keeps v (f b) _ st.is (subst (λ y. y < v) (sym n.0.version) old);
      lower = st.lower;
      each = λ i lt. on x i (n.1 i lt) (st.each i lt);
    }

-- A tree of a past is stored in the nodes that are older than a later commit.
pub stored-older : (f : Store) (v k : ℕ) (s : ℤ) (above : List Point → Bool) (h : Past) (child : Option NodeData) → 0 < v → IsBefore v h → IsChild k s above h child → IsStored f k s child → IsStored (older v f) k s child
stored-older f v zero s above h None some before holds st = tt
stored-older f v (suc k) s above h None some before holds st = tt
stored-older f v zero s above h (Some d) some before holds st =
    zero-older f v s above h (out-NodeData d) some before holds st
stored-older f v (suc k) s above h (Some d) some before holds st =
    kind-older f v k s above h (out-NodeData d) some before holds st (λ x i c t. stored-older f v k (slot_start k s i) (is_inner (suc k) s) h (child_in x i) some before c t)

-- ---- where a root leads

-- The pages of blocks, as a relation: those of a store.
abbrev pub In : Store → ℕ → NewNodeValue → Type 0
In store block n = store block ≡ Some n

-- The children of an inner node are in lower blocks, and each of them leads on.
abbrev pub LeadsOn : (ℕ → NewNodeValue → Type 0) → ℕ → ℤ → Past → ℕ → (ℕ → ℕ) → Type 0
LeadsOn G zero s h block links = Unit {0}
LeadsOn G (suc below) s h block links =
    LEAF_POINTS < length (points_of (suc below) s (bag h)) → (i : ℕ) → i < 64 → (links i < block) × Leads G below (slot_start below s i) (is_inner (suc below) s) h (links i)

-- The node of a span that has a point is in its block.
pub record LeadsTo (G : ℕ → NewNodeValue → Type 0) (k : ℕ) (s : ℤ) (above : List Point → Bool) (h : Past) (block : ℕ) : Type 0 where
  pub some : 1 ≤ block
  pub links : ℕ → ℕ
  pub is : G block (node_to links k s above h)
  pub on : LeadsOn G k s h block links

pub leads-to : (G : ℕ → NewNodeValue → Type 0) (k : ℕ) (s : ℤ) (above : List Point → Bool) (h : Past) (block : ℕ) → 0 < length (points_of k s (bag h)) → Leads G k s above h block → LeadsTo G k s above h block
leads-to G zero s above h block some leads =
    elim leads [
      | inl none ↦ let e = ap (length {A = Point}) none.none in absurd (omega arith)
      | inr to ↦ record { some = to.some; links = to.links; is = to.is; on = tt }
    ]
leads-to G (suc k) s above h block some leads =
    elim leads [
      | inl none ↦ let e = ap (length {A = Point}) none.none in absurd (omega arith)
      | inr to ↦ record { some = to.some; links = to.links; is = to.is; on = to.each }
    ]

-- Where a span has no point, its address is 0.
pub leads-nowhere : (G : ℕ → NewNodeValue → Type 0) (k : ℕ) (s : ℤ) (above : List Point → Bool) (h : Past) (block : ℕ) → length (points_of k s (bag h)) ≡ 0 → Leads G k s above h block → block ≡ 0
leads-nowhere G zero s above h block none leads =
    elim leads [ inl none_there ↦ none_there.is | inr to ↦ let some = to.points in absurd (omega arith) ]
leads-nowhere G (suc k) s above h block none leads =
    elim leads [ inl none_there ↦ none_there.is | inr to ↦ let some = to.points in absurd (omega arith) ]

pub node_to-span : (links : ℕ → ℕ) (k : ℕ) (s : ℤ) (above : List Point → Bool) (h : Past) → (node_to links k s above h).span ≡ record { start = s; height = k }
node_to-span links zero s above h = refl
node_to-span links (suc k) s above h = refl

pub node_to-version : (links : ℕ → ℕ) (k : ℕ) (s : ℤ) (above : List Point → Bool) (h : Past) → (node_to links k s above h).version ≡ node_version above k s h
node_to-version links zero s above h = refl
node_to-version links (suc k) s above h = refl

node_to-version_is : (links : ℕ → ℕ) (k : ℕ) (s : ℤ) (above : List Point → Bool) (h : Past) (v : ℕ) → node_version above k s h ≡ v → (node_to links k s above h).version ≡ v
node_to-version_is links k s above h v e = node_to-version links k s above h ∙ e

-- ---- the nodes that a commit writes stand where the root leads

-- A node of this version, to whose span a block leads.
pub record Stands (G : ℕ → NewNodeValue → Type 0) (h : Past) (v : ℕ) (n : NewNodeValue) : Type 0 where
  pub block : ℕ
  pub height : ℕ
  pub start : ℤ
  pub above : List Point → Bool
  pub span : n.span ≡ record { start = start; height = height }
  pub aligned : IsSpan (record { start = start; height = height })
  pub points : 0 < length (points_of height start (bag h))
  pub version : node_version above height start h ≡ v
  pub leads : Leads G height start above h block

has-length : (b : List Point) → has_points b ≡ true → 0 < length b
has-length [] e = absurd (cc)
has-length (p ∷ b) e = omega arith

both-true : (a b : Bool) → (a && b) ≡ true → (a ≡ true) × (b ≡ true)
both-true true true e = (refl, refl)
both-true true false e = absurd (cc)
both-true false b e = absurd (cc)

test-equal : (a b : ℕ) → nat_eq a b ≡ true → a ≡ b
test-equal a b e = grind (arith, nat_tests)

new_node-span : (k : ℕ) (s : ℤ) (above : List Point → Bool) (h : Past) → (new_node k s above h).span ≡ record { start = s; height = k }
new_node-span zero s above h = refl
new_node-span (suc k) s above h = refl

own-stands : (G : ℕ → NewNodeValue → Type 0) (k : ℕ) (s : ℤ) (above : List Point → Bool) (h : Past) (v block : ℕ) → IsSpan (record { start = s; height = k }) → Leads G k s above h block → AllByRecursion (Stands G h v) (own_node k s above h v)
own-stands G k s above h v block aligned leads =
    elim (is_node above k s (bag h) && nat_eq (node_version above k s h) v) as (λ t. (is_node above k s (bag h) && nat_eq (node_version above k s h) v) ≡ t → AllByRecursion (Stands G h v) (cond t (new_node k s above h ∷ []) [])) [
      | true ↦ λ e.
          let two = both-true (is_node above k s (bag h)) (nat_eq (node_version above k s h) v) e in
          let node = both-true (above (bag h)) (has_points (points_of k s (bag h))) two.0 in (
            record {
              block = block;
              height = k;
              start = s;
              above = above;
              span = new_node-span k s above h;
              aligned = aligned;
              points = has-length (points_of k s (bag h)) node.1;
              version = test-equal (node_version above k s h) v two.1;
              leads = leads;
            },
            tt,
          )
      | false ↦ λ e. tt
    ] refl

inner-many : (k : ℕ) (s : ℤ) (b : List Point) → is_inner k s b ≡ true → LEAF_POINTS < length (points_of k s b)
inner-many k s b e = grind (arith, nat_tests)

pub part-aligned : (k : ℕ) (s : ℤ) (i : ℕ) → i < 64 → IsSpan (record { start = s; height = suc k }) → IsSpan (record { start = slot_start k s i; height = k })
part-aligned k s i lt aligned =
    subst IsSpan (slot-part (record { start = s; height = suc k }) k i refl) (64 * aligned.0 + i, slot-aligned (record { start = s; height = suc k }) aligned.0 i aligned.1 (omega arith) lt)

new_nodes-stand : (G : ℕ → NewNodeValue → Type 0) (k : ℕ) (s : ℤ) (above : List Point → Bool) (h : Past) (v block : ℕ) → IsSpan (record { start = s; height = k }) → Leads G k s above h block → AllByRecursion (Stands G h v) (new_nodes k s above h v)
new_nodes-stand G zero s above h v block aligned leads = own-stands G zero s above h v block aligned leads
new_nodes-stand G (suc k) s above h v block aligned leads =
    let below = concat_first 64 (λ i. new_nodes k (slot_start k s i) (is_inner (suc k) s) h v) in
    each-append (Stands G h v) (cond (is_inner (suc k) s (bag h)) below []) (own_node (suc k) s above h v) (elim (is_inner (suc k) s (bag h)) as (λ t. is_inner (suc k) s (bag h) ≡ t → AllByRecursion (Stands G h v) (cond t below [])) [
      | true ↦ λ e.
          let many = inner-many (suc k) s (bag h) e in
          let to = leads-to G (suc k) s above h block (omega arith) leads in
          each-first (Stands G h v) 64 (λ i. new_nodes k (slot_start k s i) (is_inner (suc k) s) h v) (λ i lt.
          new_nodes-stand G k (slot_start k s i) (is_inner (suc k) s) h v (to.links i) (part-aligned k s i lt aligned) (to.on many i lt).1)
      | false ↦ λ e. tt
    ] refl) (own-stands G (suc k) s above h v block aligned leads)

-- ---- each node stands in its own block

-- A node that a commit wrote, in the block of its place: it is the node of a span, and its children are in lower blocks.
pub record IsReported (G : ℕ → NewNodeValue → Type 0) (h : Past) (v block : ℕ) (n : NewNodeValue) : Type 0 where
  pub height : ℕ
  pub start : ℤ
  pub above : List Point → Bool
  pub links : ℕ → ℕ
  pub aligned : IsSpan (record { start = start; height = height })
  pub points : 0 < length (points_of height start (bag h))
  pub version : node_version above height start h ≡ v
  pub is : n ≡ node_to links height start above h
  pub on : LeadsOn G height start h block links

pub laid-at : (f : Store) (first : ℕ) (reported : List NewNodeValue) (b : ℕ) (n : NewNodeValue) → laid f first reported b ≡ Some n → ((b < first) × (f b ≡ Some n)) ⊎ ((first ≤ b) × (slice_get reported (b - first) ≡ Some n))
laid-at f first reported b n at =
    elim (nat_lt b first) as (λ t. nat_lt b first ≡ t → cond t (f b) (slice_get reported (b - first)) ≡ Some n → ((b < first) × (f b ≡ Some n)) ⊎ ((first ≤ b) × (slice_get reported (b - first) ≡ Some n))) [
      | true ↦ λ e here. inl (test-less b first e, here)
      | false ↦ λ e here. inr (grind (arith, nat_tests), here)
    ] refl at

get-bare : (reported ns : List NewNodeValue) (i : ℕ) (n : NewNodeValue) → bare_all reported ≡ ns → slice_get reported i ≡ Some n → slice_get ns i ≡ Some (bare n)
get-bare reported ns i n same at =
    ap (λ (xs : List NewNodeValue). slice_get xs i) (sym same)
    ∙ (slice_get-map bare reported i ∙ ap (λ (o : Option NewNodeValue). option_map bare o) at)

same-spans : (m n : NewNodeValue) (u : SpanValue) → m.span ≡ u → n.span ≡ u → m.span ≡ n.span
same-spans m n u p q = p ∙ sym q

get-once : (reported : List NewNodeValue) (i j : ℕ) (n m : NewNodeValue) → j ≡ i → slice_get reported i ≡ Some n → slice_get reported j ≡ Some m → n ≡ m
get-once reported i j n m e p q =
    let is : Some n ≡ Some m = sym p ∙ (ap (λ k. slice_get reported k) (sym e) ∙ q) in cc

-- Each node that a commit wrote stands in the block of its place.
pub reported-node : (f : Store) (first : ℕ) (reported : List NewNodeValue) (h : Past) (v block : ℕ) → ((b : ℕ) (n : NewNodeValue) → f b ≡ Some n → n.version < v) → bare_all reported ≡ new_nodes 10 FIRST above_root h v → Leads (In (laid f first reported)) 10 FIRST above_root h block → (i : ℕ) (n : NewNodeValue) → slice_get reported i ≡ Some n → IsReported (In (laid f first reported)) h v (first + i) n
reported-node f first reported h v block old same leads i n at =
    let G = In (laid f first reported) in
    let ns = new_nodes 10 FIRST above_root h v in
    let here = get-bare reported ns i n same at in
    let st = each-get (Stands G h v) ns i (bare n) (new_nodes-stand G 10 FIRST above_root h v block root-aligned leads) here in
    let to = leads-to G st.height st.start st.above h st.block st.points st.leads in
    let m = node_to to.links st.height st.start st.above h in
    let version = node_to-version_is to.links st.height st.start st.above h v st.version in
    elim (laid-at f first reported st.block m to.is) [
      | inl low ↦ let less = old st.block m low.1 in absurd (omega arith)
      | inr high ↦
          let there = get-bare reported ns (st.block - first) m same high.1 in
          let spans = same-spans (bare m) (bare n) (record { start = st.start; height = st.height }) (node_to-span to.links st.height st.start st.above h) st.span in
          let place = new_nodes-apart 10 FIRST above_root h v (st.block - first) i (bare m) (bare n) (omega arith) there here spans in
          let le = high.0 in
          let is = get-once reported i (st.block - first) n m place at high.1 in
          let block_is : st.block ≡ first + i = omega arith in
          record {
            height = st.height;
            start = st.start;
            above = st.above;
            links = to.links;
            aligned = st.aligned;
            points = st.points;
            version = st.version;
            is = is;
            on = subst (λ b. LeadsOn G st.height st.start h b to.links) block_is to.on;
          }
    ]

-- ---- leaves and inner nodes

-- The node is a leaf of this version.
pub record IsLeafNode (h : Past) (k : ℕ) (s : ℤ) (v : ℕ) (n : NewNodeValue) : Type 0 where
  pub few : length (points_of k s (bag h)) ≤ LEAF_POINTS
  pub is : n ≡ leaf_node (record { start = s; height = k }) v (points_of k s (bag h))

-- The node is an inner node of this version, whose slots have these addresses.
pub record IsInnerNode (G : ℕ → NewNodeValue → Type 0) (h : Past) (k : ℕ) (s : ℤ) (v block : ℕ) (n : NewNodeValue) : Type 0 where
  pub below : ℕ
  pub height : k ≡ suc below
  pub links : ℕ → ℕ
  pub many : LEAF_POINTS < length (points_of (suc below) s (bag h))
  pub is : n ≡ record { span = record { start = s; height = suc below }; version = v; points = []; slots = slots_to links below s h }
  pub on : (i : ℕ) → i < 64 → (links i < block) × Leads G below (slot_start below s i) (is_inner (suc below) s) h (links i)

few-bottom : (h : Past) (s : ℤ) → HasNoCrowdedSpan FIRST END (bag h) → IsSpan (record { start = s; height = zero }) → length (points_of zero s (bag h)) ≤ LEAF_POINTS
few-bottom h s room aligned =
    let at = aligned.1 in
    let begins = at.start in
    let ends = at.ends in
    let some = width-positive 0 in
    subst (λ t. length (points_of zero t (bag h)) ≤ LEAF_POINTS) (sym begins) (room aligned.0 (omega (arith, ints)) (omega (arith, ints)))

node-by : (span : SpanValue) (v w : ℕ) (ps qs : List Point) (ss ts : List Slot) → v ≡ w → ps ≡ qs → ss ≡ ts → (let p : NewNodeValue = record { span = span; version = v; points = ps; slots = ss } in p) ≡ record { span = span; version = w; points = qs; slots = ts }
node-by span v w ps qs ss ts p q r = cc

-- A node of a past is a leaf or an inner node.
pub node-kind : (G : ℕ → NewNodeValue → Type 0) (h : Past) (k : ℕ) (s : ℤ) (above : List Point → Bool) (block : ℕ) (links : ℕ → ℕ) (v : ℕ) → HasNoCrowdedSpan FIRST END (bag h) → IsSpan (record { start = s; height = k }) → node_version above k s h ≡ v → LeadsOn G k s h block links → IsLeafNode h k s v (node_to links k s above h) ⊎ IsInnerNode G h k s v block (node_to links k s above h)
node-kind G h zero s above block links v room aligned version on =
    inl (record { few = few-bottom h s room aligned; is = node-by _ _ _ _ _ _ _ version refl refl })
node-kind G h (suc k) s above block links v room aligned version on =
    elim (cases_lt LEAF_POINTS (length (points_of (suc k) s (bag h)))) [
      | inl many ↦
          let yes = many-inner (suc k) s (bag h) many in
          inr (record {
            below = k;
            height = refl;
            links = links;
            many = many;
            is = node-by _ _ _ _ _ _ _ version (ap (λ t. cond t [] (points_of (suc k) s (bag h))) yes) (ap (λ t. cond t (slots_to links k s h) []) yes);
            on = on many;
          })
      | inr few ↦
          let no = few-inner (suc k) s (bag h) few in
          inl (record {
            few = few;
            is = node-by _ _ _ _ _ _ _ version (ap (λ t. cond t [] (points_of (suc k) s (bag h))) no) (ap (λ t. cond t (slots_to links k s h) []) no);
          })
    ]

-- ---- the slots of an inner node

-- Slot i.
pub slots-get : (links : ℕ → ℕ) (below : ℕ) (s : ℤ) (h : Past) (i : ℕ) → i < 64 → slice_get (slots_to links below s h) i ≡ Some (slot_to (links i) (slot_of_points (suc below) s below (slot_start below s i) h))
slots-get links below s h i lt =
    items-get 64 (λ j. slot_to (links j) (slot_of_points (suc below) s below (slot_start below s j) h)) i lt

pub slots-length : (links : ℕ → ℕ) (below : ℕ) (s : ℤ) (h : Past) → length (slots_to links below s h) ≡ 64
slots-length links below s h =
    items-length 64 (λ j. slot_to (links j) (slot_of_points (suc below) s below (slot_start below s j) h))

slots-first : (links : ℕ → ℕ) (below : ℕ) (s : ℤ) (h : Past) (n : ℕ) → sum_by (λ (x : Slot). x.agg.count) (concat_first n (λ i. slot_to (links i) (slot_of_points (suc below) s below (slot_start below s i) h) ∷ [])) ≡ length (within s (slot_start below s n) (bag h))
slots-first links below s h zero = sym (ap (length {A = Point}) (prefix-none below s h))
slots-first links below s h (suc n) =
    let c = λ (x : Slot). x.agg.count in
    let g = λ (i : ℕ). slot_to (links i) (slot_of_points (suc below) s below (slot_start below s i) h) in
    let e : n + 1 ≡ suc n = omega arith in
    let next = ap (length {A = Point}) (ap (λ j. within s (slot_start below s j) (bag h)) (sym e) ∙ prefix-next below s n h) in
    let here = points_of below (slot_start below s n) (bag h) in
    omega (arith, sum_by-append c (concat_first n (λ i. g i ∷ [])) (g n ∷ []), sum_by-cons c (g n) [], slots-first links below s h n, next, length-append (within s (slot_start below s n) (bag h)) here, agg-count here)

-- The counts of the slots add up to the number of points.
pub slots-count : (links : ℕ → ℕ) (below : ℕ) (s : ℤ) (h : Past) → sum_by (λ (x : Slot). x.agg.count) (slots_to links below s h) ≡ length (points_of (suc below) s (bag h))
slots-count links below s h =
    slots-first links below s h 64 ∙ ap (length {A = Point}) (prefix-all below s h)
