-- Lemmas on a past up to a version: what a commit does not touch leads on as before.
use Rattle.std.specs.Prelude.{◌≡◌, ◌↔◌, ℕ, ◌<◌, ℤ, pos, Bool, true, false, not, ◌&&◌, ◌||◌, cond, nat_lt, List, [], ◌∷◌, ◌++◌, length}
use Rattle.std.proofs.Common.{zero, suc, refl, sym, ap, ◌∙◌, arith, subst, inl, inr}
use Rattle.std.proofs.lemmas.Bool.Decides.{nat_tests}
use Rattle.btr_base.specs.Agg.{agg}
use Rattle.btr_base.specs.declared.limits.TheConstants.{LEAF_POINTS}
use Rattle.btr_base.specs.declared.point.Point.{Point}
use Rattle.btr_tree.specs.declared.node.Slot.{Slot}
use Rattle.btr_tree.specs.History.{Commit, Past, Opened, ◌▷◌, bag, IsBefore}
use Rattle.btr_tree.specs.Leads.{slot_to, slots_to, node_to, Leads}
use Rattle.btr_tree.specs.NewNodes.{NewNodeValue, concat_first}
use Rattle.btr_tree.specs.Nodes.{points_of, has_points, touches, is_inner, is_node, last_change, node_version, slot_version, up_to}
use Rattle.btr_tree.specs.Shape.{slot_start, slot_of_points}
use Rattle.btr_tree.proofs.NewNodeLemmas.{last_change-before, new_node-by}
use Rattle.btr_tree.proofs.UntouchedNodeLemmas.{touches-slot, last_change-kept, some-has, many-inner}
use Rattle.btr_tree.proofs.VersionLemmas.{points-untouched}
use Rattle.btr_verify.specs.Judged.{IsRising}
use Rattle.btr_verify.proofs.FieldLemmas.{slot-by}

-- ---- the commits up to a version

before-some : (v : ℕ) (h : Past) → IsBefore v h → 0 < v
before-some v (Opened b dates) before = let least = before 0 (pos 0) in omega arith
before-some v (c ▷ h) before = let least = before.0 in omega arith

before-up_to : (n v : ℕ) (h : Past) → IsBefore n h → IsBefore n (up_to v h)
before-up_to n v (Opened b dates) before = before
before-up_to n v (c ▷ h) before =
    elim (nat_lt v c.version) as (λ t. IsBefore n (cond t (up_to v h) (c ▷ h))) [
      | true ↦ before-up_to n v h before.1
      | false ↦ before
    ]

pub rising-up_to : (v : ℕ) (h : Past) → IsRising h → IsRising (up_to v h)
rising-up_to v (Opened b dates) rising = tt
rising-up_to v (c ▷ h) rising =
    elim (nat_lt v c.version) as (λ t. IsRising (cond t (up_to v h) (c ▷ h))) [
      | true ↦ rising-up_to v h rising.1
      | false ↦ rising
    ]

is-less : (a b : ℕ) → a < b → nat_lt a b ≡ true
is-less a b lt = grind (arith, nat_tests)

not-less : (a : ℕ) → nat_lt a a ≡ false
not-less a = grind (arith, nat_tests)

change-before : (was : List Point → Bool) (k : ℕ) (s : ℤ) (h : Past) (n : ℕ) → IsBefore n h → last_change was k s h < n
change-before was k s h n before = last_change-before was k s h n (before-some n h before) before

-- The past up to the version of a node of an earlier past is that of the earlier past up to it.
pub up_to-version : (was : List Point → Bool) (k : ℕ) (s : ℤ) (v : ℕ) (h : Past) → IsRising h → up_to (last_change was k s (up_to v h)) (up_to v h) ≡ up_to (last_change was k s (up_to v h)) h
up_to-version was k s v (Opened b dates) rising = refl
up_to-version was k s v (c ▷ h) rising =
    let Same = λ (g : Past). up_to (last_change was k s g) g ≡ up_to (last_change was k s g) (c ▷ h) in
    elim (nat_lt v c.version) as (λ t. Same (cond t (up_to v h) (c ▷ h))) [
      | true ↦
          let w = last_change was k s (up_to v h) in
          let less = is-less w c.version (change-before was k s (up_to v h) c.version (before-up_to c.version v h rising.0)) in
          up_to-version was k s v h rising.1 ∙ sym (ap (λ t. cond t (up_to w h) (c ▷ h)) less)
      | false ↦ refl
    ]

both-first : (a b : Bool) → (a && b) ≡ true → a ≡ true
both-first a b e = grind arith

either-first : (a b : Bool) → (a || b) ≡ false → a ≡ false
either-first a b e = grind arith

either-not : (a b : Bool) → (a || not b) ≡ false → b ≡ true
either-not a b e = grind arith

-- What each commit that does not touch a node keeps holds of a past and of it up to the node's version.
pub since-version : (k : ℕ) (s : ℤ) (above : List Point → Bool) (P : Past → Past → Type 0) → ((h : Past) → P h h) → ((c : Commit) (h g : Past) → above (bag h) ≡ true → touches c k s (bag h) ≡ false → P h g → P (c ▷ h) g) → (h : Past) → IsRising h → P h (up_to (node_version above k s h) h)
since-version k s above P same next (Opened b dates) rising = same (Opened b dates)
since-version k s above P same next (c ▷ h) rising =
    let was = is_node above k s (bag h) in
    let new = touches c k s (bag h) || not was in
    elim new as (λ t. new ≡ t → P (c ▷ h) (up_to (cond t c.version (node_version above k s h)) (c ▷ h))) [
      | true ↦ λ _.
          subst (λ t. P (c ▷ h) (cond t (up_to c.version h) (c ▷ h))) (sym (not-less c.version)) (same (c ▷ h))
      | false ↦ λ e.
          let w = node_version above k s h in
          let less = is-less w c.version (change-before (is_node above k s) k s h c.version rising.0) in
          let node = either-not (touches c k s (bag h)) was e in
          let there = both-first (above (bag h)) (has_points (points_of k s (bag h))) node in
          let kept = either-first (touches c k s (bag h)) (not was) e in
          subst (λ t. P (c ▷ h) (cond t (up_to w h) (c ▷ h))) (sym less) (next c h (up_to w h) there kept (since-version k s above P same next h rising.1))
    ] refl

-- A node is one in its own version.
pub node-then : (k : ℕ) (s : ℤ) (above : List Point → Bool) (h : Past) → IsRising h → is_node above k s (bag h) ≡ true → is_node above k s (bag (up_to (node_version above k s h) h)) ≡ true
node-then k s above h rising node =
    since-version k s above (λ h g. is_node above k s (bag h) ≡ true → is_node above k s (bag g) ≡ true) (λ h e. e) (λ c h g there kept on e.
    let some : has_points (points_of k s (bag h)) ≡ true = sym (ap has_points (points-untouched k s c h kept)) ∙ both-second (above (bag (c ▷ h))) (has_points (points_of k s (bag (c ▷ h)))) e in
    on (ap (λ t. t && has_points (points_of k s (bag h))) there ∙ some)) h rising node
  where
    both-second : (a b : Bool) → (a && b) ≡ true → b ≡ true
    both-second a b e = grind arith

-- ---- spans in which two pasts have the same nodes

-- The points are the same, and so is the version of the node, if there is one.
pub record HasSameNode (k : ℕ) (s : ℤ) (above : List Point → Bool) (h g : Past) : Type 0 where
  pub points : points_of k s (bag h) ≡ points_of k s (bag g)
  pub version : 0 < length (points_of k s (bag h)) → node_version above k s h ≡ node_version above k s g

-- The nodes of a span and of all spans below it are the same in two pasts.
abbrev pub HaveSameNodes : ℕ → ℤ → (List Point → Bool) → Past → Past → Type 0
HaveSameNodes zero s above h g = HasSameNode zero s above h g
HaveSameNodes (suc k) s above h g =
    HasSameNode (suc k) s above h g
    × (is_inner (suc k) s (bag h) ≡ true
    → (i : ℕ)
    → i < 64
    → (slot_version (suc k) s k (slot_start k s i) h ≡ slot_version (suc k) s k (slot_start k s i) g)
    × HaveSameNodes k (slot_start k s i) (is_inner (suc k) s) h g)

same-here : (k : ℕ) (s : ℤ) (above : List Point → Bool) (h g : Past) → HaveSameNodes k s above h g → HasSameNode k s above h g
same-here zero s above h g same = same
same-here (suc k) s above h g same = same.0

inner-same : (k : ℕ) (s : ℤ) (h g : Past) → points_of k s (bag h) ≡ points_of k s (bag g) → is_inner k s (bag h) ≡ is_inner k s (bag g)
inner-same k s h g e = ap (λ ps. nat_lt LEAF_POINTS (length ps)) e

here-back : (k : ℕ) (s : ℤ) (above : List Point → Bool) (h g : Past) → HasSameNode k s above h g → HasSameNode k s above g h
here-back k s above h g same =
    record {
      points = sym same.points;
      version = λ some. sym (same.version (subst (λ ps. 0 < length ps) (sym same.points) some));
    }

same-back : (k : ℕ) (s : ℤ) (above : List Point → Bool) (h g : Past) → HaveSameNodes k s above h g → HaveSameNodes k s above g h
same-back zero s above h g same = here-back zero s above h g same
same-back (suc k) s above h g same = (
  here-back (suc k) s above h g same.0,
  λ inner i lt.
      let next = same.1 (inner-same (suc k) s h g same.0.points ∙ inner) i lt in
      (sym next.0, same-back k (slot_start k s i) (is_inner (suc k) s) h g next.1),
)

untouched-here : (k : ℕ) (s : ℤ) (above : List Point → Bool) (h : Past) (c : Commit) → above (bag h) ≡ true → touches c k s (bag h) ≡ false → HasSameNode k s above h (c ▷ h)
untouched-here k s above h c there kept =
    record {
      points = sym (points-untouched k s c h kept);
      version = λ some.
          let node : is_node above k s (bag h) ≡ true = ap (λ t. t && has_points (points_of k s (bag h))) there ∙ some-has (points_of k s (bag h)) some in
          sym (last_change-kept (is_node above k s) k s h c kept node);
    }

-- What a commit does not touch is the same after it.
untouched-same : (k : ℕ) (s : ℤ) (above : List Point → Bool) (h : Past) (c : Commit) → above (bag h) ≡ true → touches c k s (bag h) ≡ false → HaveSameNodes k s above h (c ▷ h)
untouched-same zero s above h c there kept = untouched-here zero s above h c there kept
untouched-same (suc k) s above h c there kept = (
  untouched-here (suc k) s above h c there kept,
  λ inner i lt.
      let slot = touches-slot k s i c (bag h) lt kept in (
        sym (last_change-kept (is_inner (suc k) s) k (slot_start k s i) h c slot inner),
        untouched-same k (slot_start k s i) (is_inner (suc k) s) h c inner slot,
      ),
)

-- ---- where a block leads in two pasts with the same nodes

first-same : {X : Type 0} (n : ℕ) (f g : ℕ → List X) → ((i : ℕ) → i < n → f i ≡ g i) → concat_first n f ≡ concat_first n g
first-same zero f g same = refl
first-same (suc n) f g same =
    ap (λ xs. xs ++ f n) (first-same n f g (λ i lt. same i (omega arith))) ∙ ap (λ xs. concat_first n g ++ xs) (same n (omega arith))

slots-same : (links : ℕ → ℕ) (k : ℕ) (s : ℤ) (h g : Past) → ((i : ℕ) → i < 64 → (slot_version (suc k) s k (slot_start k s i) h ≡ slot_version (suc k) s k (slot_start k s i) g) × (points_of k (slot_start k s i) (bag h) ≡ points_of k (slot_start k s i) (bag g))) → slots_to links k s h ≡ slots_to links k s g
slots-same links k s h g same =
    first-same 64 (λ i. slot_to (links i) (slot_of_points (suc k) s k (slot_start k s i) h) ∷ []) (λ i. slot_to (links i) (slot_of_points (suc k) s k (slot_start k s i) g) ∷ []) (λ i lt. ap (λ x. x ∷ []) (slot-by _ _ _ _ _ _ (ap agg (same i lt).1) (same i lt).0 refl))

cond-same : (t : Bool) (xs ys : List Slot) → (t ≡ true → xs ≡ ys) → cond t xs [] ≡ cond t ys []
cond-same true xs ys same = same refl
cond-same false xs ys same = refl

node-same : (links : ℕ → ℕ) (k : ℕ) (s : ℤ) (above : List Point → Bool) (h g : Past) → 0 < length (points_of k s (bag h)) → HaveSameNodes k s above h g → node_to links k s above h ≡ node_to links k s above g
node-same links zero s above h g some same =
    new_node-by _ _ _ _ _ _ _ (same.version some) same.points refl
node-same links (suc k) s above h g some same =
    let inner = inner-same (suc k) s h g same.0.points in
    new_node-by _ _ _ _ _ _ _
    (same.0.version some)
    (ap (λ t. cond t [] (points_of (suc k) s (bag h))) inner ∙ ap (λ ps. cond (is_inner (suc k) s (bag g)) [] ps) same.0.points)
    (cond-same (is_inner (suc k) s (bag h)) (slots_to links k s h) (slots_to links k s g) (λ yes. slots-same links k s h g (λ i lt.
    let next = same.1 yes i lt in
    (next.0, (same-here k (slot_start k s i) (is_inner (suc k) s) h g next.1).points))) ∙ ap (λ t. cond t (slots_to links k s g) []) inner)

leads-same : (pages : ℕ → NewNodeValue → Type 0) (k : ℕ) (s : ℤ) (above : List Point → Bool) (h g : Past) (block : ℕ) → HaveSameNodes k s above h g → Leads pages k s above h block → Leads pages k s above g block
leads-same pages zero s above h g block same leads =
    elim leads [
      | inl none ↦ inl (record { none = sym same.points ∙ none.none; is = none.is })
      | inr to ↦ inr (record {
        points = subst (λ ps. 0 < length ps) same.points to.points;
        some = to.some;
        links = to.links;
        is = subst (pages block) (node-same to.links zero s above h g to.points same) to.is;
        each = λ many i lt. to.each (subst (λ ps. LEAF_POINTS < length ps) (sym same.points) many) i lt;
      })
    ]
leads-same pages (suc k) s above h g block same leads =
    elim leads [
      | inl none ↦ inl (record { none = sym same.0.points ∙ none.none; is = none.is })
      | inr to ↦ inr (record {
        points = subst (λ ps. 0 < length ps) same.0.points to.points;
        some = to.some;
        links = to.links;
        is = subst (pages block) (node-same to.links (suc k) s above h g to.points same) to.is;
        each = λ many i lt.
            let before = subst (λ ps. LEAF_POINTS < length ps) (sym same.0.points) many in
            let next = to.each before i lt in
            (next.0, leads-same pages k (slot_start k s i) (is_inner (suc k) s) h g (to.links i) (same.1 (many-inner (suc k) s (bag h) before) i lt).1 next.1);
      })
    ]

-- A block leads to a node exactly if it leads to it in the node's own version.
pub one-version : (pages : ℕ → NewNodeValue → Type 0) (k : ℕ) (s : ℤ) (above : List Point → Bool) (h : Past) (block : ℕ) → IsRising h → Leads pages k s above h block ↔ Leads pages k s above (up_to (node_version above k s h) h) block
one-version pages k s above h block rising =
    since-version k s above (λ h g. Leads pages k s above h block ↔ Leads pages k s above g block) (λ h. (λ x. x, λ x. x)) (λ c h g there kept on.
    let same = untouched-same k s above h c there kept in (
      λ x. on.0 (leads-same pages k s above (c ▷ h) h block (same-back k s above h (c ▷ h) same) x),
      λ y. leads-same pages k s above h (c ▷ h) block same (on.1 y),
    )) h rising
