-- Lemmas on the versions of spans: what a commit does not touch stays as it is.
use Rattle.std.specs.Prelude.{◌≡◌, ℕ, ◌<◌, ◌≤◌, ℤ, pos, ◌+ℤ◌, Bool, true, false, not, ◌&&◌, ◌||◌, nat_lt, List, [], ◌∷◌, ◌++◌, cond}
use Rattle.std.specs.List.{list_any}
use Rattle.std.proofs.Common.{refl, sym, ap, ◌∙◌, arith, append-nil}
use Rattle.std.proofs.lemmas.Bool.Decides.{nat_tests}
use Rattle.btr_base.specs.declared.point.Point.{Point}
use Rattle.btr_base.specs.Range.{RangeValue, covered}
use Rattle.btr_base.specs.Bag.{IsInOrder, sort, outside}
use Rattle.btr_base.proofs.PointLemmas.{sort-in_order, sort-of_order}
use Rattle.btr_base.specs.Span.{width}
use Rattle.btr_base.proofs.WithinLemmas.{within-after, within-in_order}
use Rattle.btr_tree.specs.History.{Commit, Past, Opened, ◌▷◌, with_commit, bag}
use Rattle.btr_tree.specs.Nodes.{points_of, has_points, touches, is_node, last_change, node_version, up_to}

pub bag-in_order : (h : Past) → IsInOrder (bag h)
bag-in_order (Opened b dates) = sort-in_order b
bag-in_order (c ▷ h) = sort-in_order (outside (bag h) c.cut ++ c.added)

pub points-in_order : (k : ℕ) (s : ℤ) (h : Past) → IsInOrder (points_of k s (bag h))
points-in_order k s h = within-in_order s (s +ℤ pos (width k)) (bag h) (bag-in_order h)

-- The points of a span after a commit.
pub points-after : (k : ℕ) (s : ℤ) (c : Commit) (b : List Point) → points_of k s (with_commit c b) ≡ sort (outside (points_of k s b) c.cut ++ points_of k s c.added)
points-after k s c b = within-after s (s +ℤ pos (width k)) b c.cut c.added

pub no_points : (b : List Point) → has_points b ≡ false → b ≡ []
no_points [] h = refl
no_points (p ∷ b) h = cc

pub outside-uncovered : (b : List Point) (rs : List RangeValue) → list_any (λ p. covered rs p.time) b ≡ false → outside b rs ≡ b
outside-uncovered [] rs h = refl
outside-uncovered (p ∷ b) rs h =
    let here : covered rs p.time ≡ false = grind arith in
    let rest : list_any (λ q. covered rs q.time) b ≡ false = grind arith in
    ap (λ t. cond (not t) (p ∷ outside b rs) (outside b rs)) here ∙ ap (λ c. p ∷ c) (outside-uncovered b rs rest)

-- What a commit does not touch stays.
pub points-untouched : (k : ℕ) (s : ℤ) (c : Commit) (h : Past) → touches c k s (bag h) ≡ false → points_of k s (bag (c ▷ h)) ≡ points_of k s (bag h)
points-untouched k s c h e =
    let added : has_points (points_of k s c.added) ≡ false = grind arith in
    let kept : list_any (λ p. covered c.cut p.time) (points_of k s (bag h)) ≡ false = grind arith in
    points-after k s c (bag h)
    ∙ ap (λ x. sort (x ++ points_of k s c.added)) (outside-uncovered (points_of k s (bag h)) c.cut kept)
    ∙ ap (λ x. sort (points_of k s (bag h) ++ x)) (no_points (points_of k s c.added) added)
    ∙ ap sort (append-nil (points_of k s (bag h)))
    ∙ sort-of_order (points_of k s (bag h)) (points-in_order k s h)

less-from_test : (a b : ℕ) → nat_lt a b ≡ true → a < b
less-from_test a b h = grind (arith, nat_tests)

first-false : (a b : Bool) → (a || b) ≡ false → a ≡ false
first-false a b h = grind arith

-- A span has the same points in each version from its own to the latest.
pub points-since : (was : List Point → Bool) (k : ℕ) (s : ℤ) (h : Past) (w : ℕ) → last_change was k s h ≤ w → points_of k s (bag (up_to w h)) ≡ points_of k s (bag h)
points-since was k s (Opened b dates) w le = refl
points-since was k s (c ▷ h) w le =
    elim (nat_lt w c.version) as (λ t. nat_lt w c.version ≡ t → points_of k s (bag (cond t (up_to w h) (c ▷ h))) ≡ points_of k s (bag (c ▷ h))) [
      | false ↦ λ e. refl
      | true ↦ λ e.
          let newer = less-from_test w c.version e in
          elim (touches c k s (bag h) || not (was (bag h))) as (λ u. (touches c k s (bag h) || not (was (bag h))) ≡ u → cond u c.version (last_change was k s h) ≤ w → points_of k s (bag (up_to w h)) ≡ points_of k s (bag (c ▷ h))) [
            | true ↦ λ _ low. absurd (omega arith)
            | false ↦ λ same low.
                points-since was k s h w low ∙ sym (points-untouched k s c h (first-false (touches c k s (bag h)) (not (was (bag h))) same))
          ] refl le
    ] refl

both-hold : (a b : Bool) → b ≡ true → (a && b) ≡ a
both-hold a b e = grind arith

-- A span with points has the same version as a node and as a slot.
pub node-slot : (above : List Point → Bool) (k : ℕ) (s : ℤ) (h : Past) → has_points (points_of k s (bag h)) ≡ true → node_version above k s h ≡ last_change above k s h
node-slot above k s (Opened b dates) some = refl
node-slot above k s (c ▷ h) some =
    elim (touches c k s (bag h)) as (λ t. touches c k s (bag h) ≡ t → cond (t || not (is_node above k s (bag h))) c.version (node_version above k s h) ≡ cond (t || not (above (bag h))) c.version (last_change above k s h)) [
      | true ↦ λ _. refl
      | false ↦ λ e.
          let here : has_points (points_of k s (bag h)) ≡ true = sym (ap has_points (points-untouched k s c h e)) ∙ some in
          ap (λ n. cond (not n) c.version (node_version above k s h)) (both-hold (above (bag h)) (has_points (points_of k s (bag h))) here)
          ∙ ap (λ v. cond (not (above (bag h))) c.version v) (node-slot above k s h here)
    ] refl
