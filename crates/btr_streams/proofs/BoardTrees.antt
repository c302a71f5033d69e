-- The past of the tree of a version of a stream, and the points that it leaves.
use Rattle.std.specs.Prelude.{◌≡◌, ℕ, ◌+◌, ◌-◌, ◌<◌, ◌≤◌, List, [], ◌∷◌, ◌++◌, length, take, cond}
use Rattle.std.proofs.Common.{zero, suc, refl, sym, ap, ◌∙◌, arith, get_or}
use Rattle.std.proofs.Math.Nat.{min-le_left}
use Rattle.std.proofs.lemmas.List.{length-take, length-take-le, take_more}
use Rattle.std.proofs.lemmas.Bool.{lt-ltb, le-ltb}
use Rattle.btr_tree.specs.History.{Past, Opened, nothing, ◌▷◌}
use Rattle.btr_tree.specs.History as tree
use Rattle.btr_tree.specs.Nodes.{up_to}
use Rattle.btr_hist.specs.declared.entry.Entry.{Entry}
use Rattle.btr_base.specs.Commit.{Change}
use Rattle.btr_hist.specs.History.{replay}
use Rattle.btr_hist.specs.History.{commits, latest, bag}
use Rattle.btr_streams.specs.Past.{with_commits, commits_to}

-- The commit that made a version.
abbrev pub made_by : ℕ → Change → tree.Commit
made_by version c = record { version = version; cut = c.cut; added = c.added }

-- ---- the points

pub bag-with_commits : (made : ℕ) (before : Past) (cs : List Change) → tree.bag (with_commits made before cs) ≡ replay (tree.bag before) cs
bag-with_commits made before [] = refl
bag-with_commits made before (c ∷ cs) = bag-with_commits (made + 1) (made_by (made + 1) c ▷ before) cs

pub bag-commits_to : (h : List Entry) (stream version : ℕ) → tree.bag (commits_to h stream version) ≡ bag h stream version
bag-commits_to h stream version = bag-with_commits 0 nothing (take version (commits h stream))

-- ---- one commit more

pub with_commits-push : (made : ℕ) (before : Past) (cs : List Change) (c : Change) → with_commits made before (cs ++ c ∷ []) ≡ record { version = made + length cs + 1; cut = c.cut; added = c.added } ▷ with_commits made before cs
with_commits-push made before [] c =
    let e : made + 1 ≡ made + 0 + 1 = omega arith in
    ap (λ (v : ℕ). made_by v c ▷ before) e
with_commits-push made before (d ∷ cs) c =
    let e : (made + 1) + length cs + 1 ≡ made + suc (length cs) + 1 = omega arith in
    with_commits-push (made + 1) (made_by (made + 1) d ▷ before) cs c ∙ ap (λ (v : ℕ). made_by v c ▷ with_commits (made + 1) (made_by (made + 1) d ▷ before) cs) e

-- ---- the versions

before-weaker : (v w : ℕ) (h : Past) → v ≤ w → tree.IsBefore v h → tree.IsBefore w h
before-weaker v w (Opened b dates) le k = λ height start. let low = k height start in omega (arith, le)
before-weaker v w (c ▷ h) le k = (let first : c.version < v = k.0 in omega arith, before-weaker v w h le k.1)

pub before-with_commits : (made : ℕ) (before : Past) (cs : List Change) → tree.IsBefore (made + 1) before → tree.IsBefore (made + length cs + 1) (with_commits made before cs)
before-with_commits made before [] k = before-weaker (made + 1) (made + 0 + 1) before (omega arith) k
before-with_commits made before (c ∷ cs) k =
    let here : tree.IsBefore (made + 1 + 1) (made_by (made + 1) c ▷ before) = (omega arith, before-weaker (made + 1) (made + 1 + 1) before (omega arith) k) in
    before-weaker ((made + 1) + length cs + 1) (made + suc (length cs) + 1) (with_commits (made + 1) (made_by (made + 1) c ▷ before) cs) (omega arith) (before-with_commits (made + 1) (made_by (made + 1) c ▷ before) cs here)

pub before-nothing : tree.IsBefore (0 + 1) nothing
before-nothing = λ height start. omega arith

pub before-commits_to : (h : List Entry) (stream version : ℕ) → tree.IsBefore (version + 1) (commits_to h stream version)
before-commits_to h stream version =
    let cs : List Change = take version (commits h stream) in
    let long = length-take version (commits h stream) in
    let least = min-le_left version (length (commits h stream)) in
    before-weaker (0 + length cs + 1) (version + 1) (with_commits 0 nothing cs) (omega arith) (before-with_commits 0 nothing cs before-nothing)

-- ---- the past up to a version

up_to-later : (v : ℕ) (c : tree.Commit) (h : Past) → v < c.version → up_to v (c ▷ h) ≡ up_to v h
up_to-later v c h late = ap (λ t. cond t (up_to v h) (c ▷ h)) (lt-ltb v c.version late)

up_to-all : (v : ℕ) (h : Past) → tree.IsBefore (v + 1) h → up_to v h ≡ h
up_to-all v (Opened b dates) k = refl
up_to-all v (c ▷ h) k =
    let first : c.version < v + 1 = k.0 in
    ap (λ t. cond t (up_to v h) (c ▷ h)) (le-ltb v c.version (omega arith))

-- The past up to a version leaves out the commits of later versions.
up_to-push : (v w : ℕ) (cs : List Change) → v ≤ w → w < length cs → up_to v (with_commits 0 nothing (take (w + 1) cs)) ≡ up_to v (with_commits 0 nothing (take w cs))
up_to-push v w cs le low =
    let none : Change = record { cut = []; added = [] } in
    let c = get_or cs w none in
    let made = 0 + length (take w cs) + 1 in
    let long = length-take-le w cs (omega arith) in
    ap (λ (l : List Change). up_to v (with_commits 0 nothing l)) (take_more cs w none low)
    ∙ ap (up_to v) (with_commits-push 0 nothing (take w cs) c)
    ∙ up_to-later v (made_by made c) (with_commits 0 nothing (take w cs)) (omega arith)

up_to-more : (h : List Entry) (stream v more : ℕ) → v + more ≤ latest h stream → up_to v (commits_to h stream (v + more)) ≡ commits_to h stream v
up_to-more h stream v zero low =
    let e : v + 0 ≡ v = omega arith in
    ap (λ w. up_to v (commits_to h stream w)) e ∙ up_to-all v (commits_to h stream v) (before-commits_to h stream v)
up_to-more h stream v (suc more) low =
    let e : v + suc more ≡ (v + more) + 1 = omega arith in
    ap (λ w. up_to v (commits_to h stream w)) e
    ∙ up_to-push v (v + more) (commits h stream) (omega arith) (omega arith)
    ∙ up_to-more h stream v more (omega arith)

-- The past of a later version, up to an earlier one, is the past of the earlier one.
pub up_to-commits_to : (h : List Entry) (stream v w : ℕ) → v ≤ w → w ≤ latest h stream → up_to v (commits_to h stream w) ≡ commits_to h stream v
up_to-commits_to h stream v w le low =
    let e : v + (w - v) ≡ w = omega arith in
    ap (λ n. up_to v (commits_to h stream n)) (sym e) ∙ up_to-more h stream v (w - v) (omega arith)
