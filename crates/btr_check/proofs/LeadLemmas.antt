-- The root of an entry in pages: in others that are the same below a block, by the points of its version, and beside the first wrong node of the
-- version's tree.
use Rattle.std.specs.Prelude.{◌≡◌, ℕ, ◌+◌, ◌<◌, ◌≤◌, Bool, List, [], ◌∷◌, ◌++◌, length, take, drop, get_or, slice_get, Option, Some}
use Rattle.std.specs.Option.{option_and_then}
use Rattle.std.proofs.Common.{sym, ◌∙◌, ap, subst, inl, inr, arith}
use Rattle.std.proofs.lemmas.Bool.{cases_lt}
use Rattle.std.proofs.lemmas.List.{take-append-drop}
use Rattle.btr_base.specs.declared.limits.TheConstants.{FIRST}
use Rattle.btr_base.specs.declared.point.Point.{Point}
use Rattle.btr_base.specs.Commit.{Change}
use Rattle.btr_tree.specs.History.{Past, nothing, ◌▷◌}
use Rattle.btr_tree.specs.History as tree
use Rattle.btr_tree.specs.Leads.{Leads}
use Rattle.btr_tree.specs.Nodes.{points_of, above_root, up_to}
use Rattle.btr_tree.proofs.LeadsLemmas.{leads-along}
use Rattle.btr_tree.proofs.RootLemmas.{root-points}
use Rattle.btr_node.specs.declared.page.NodePage.{NodePage}
use Rattle.btr_tree.specs.PageNodes.{Pages, node_of_stream, nodes_in, Stand}
use Rattle.btr_pages.specs.Pages.{MayBeRoot}
use Rattle.btr_hist.specs.declared.entry.Entry.{Entry}
use Rattle.btr_hist.specs.declared.entry.Entry.TheVariants.{Create, Define, Commit, Distillate, Retire}
use Rattle.btr_hist.specs.History.{change_of, commits, latest, bag}
use Rattle.btr_hist.specs.Legal.{Follows}
use Rattle.btr_hist.proofs.HistoryLemmas.{take_commits-append, latest-append}
use Rattle.btr_hist.proofs.OutputLemmas.{follows-sound}
use Rattle.btr_hist.proofs.VersionLemmas.{latest-push}
use Rattle.btr_roll.specs.Roll.{RollStreamValue}
use Rattle.btr_streams.specs.Past.{with_commits, commits_to}
use Rattle.btr_engine.specs.Roots.{LeadsToLatest, IsRootOf}
use Rattle.btr_streams.specs.Stage.{change}
use Rattle.btr_streams.proofs.BoardTrees.{made_by, bag-commits_to, before-with_commits, before-nothing, up_to-commits_to}
use Rattle.btr_verify.specs.Judged.{IsRising}
use Rattle.btr_verify.specs.FirstWrong.{IsFirstWrongIn}
use Rattle.btr_verify.proofs.FirstWrongLemmas.{wrong-leads_not, one-wrong_in}
use Rattle.btr_open.specs.Reached.{next_version}
use Rattle.btr_open.specs.RootTest.{adds, MayLead}
use Rattle.btr_open.proofs.ListLemmas.{take-on}
use Rattle.btr_open.proofs.HeldPages.{AreBelow, page-low, if-at}
use Rattle.btr_open.proofs.HeldRoots.{leads-low}
use Rattle.btr_open.proofs.RootLemmas.{its-change}
use Rattle.btr_check.specs.Rule.{IsZeroIfEmpty, FitsPoints}
use Rattle.btr_check.specs.Whole.{LeadsRightly, IsFirstWrongOf, IsFirstWrongAt}

-- ---- in other pages

-- The others are the same below a block.
abbrev pub AreSameBelow : ℕ → Pages → Pages → Type 0
AreSameBelow limit pages others = (block : ℕ) → block < limit → others block ≡ pages block

latest-along : (pages others : Pages) (limit : ℕ) (h : List Entry) (stream root : ℕ) → AreSameBelow limit pages others → root < limit → LeadsToLatest pages h stream root → LeadsToLatest others h stream root
latest-along pages others limit h stream root same low leads =
    leads-along (Stand pages stream) (Stand others stream) limit (λ b n less at. ap (option_and_then (node_of_stream stream)) (same b less) ∙ at) 10 FIRST above_root (commits_to h stream (latest h stream)) root low leads

-- A root below the block leads to the same tree in the others.
pub root-along : (pages others : Pages) (limit : ℕ) (before : List Entry) (e : Entry) (root : ℕ) (new more : List NodePage) → AreSameBelow limit pages others → root < limit → IsRootOf pages before e root new → IsRootOf others before e root more
root-along pages others limit before (Create id) root new more same low is = is
root-along pages others limit before (Define id spec) root new more same low is = is
root-along pages others limit before (Retire stream least) root new more same low is = is
root-along pages others limit before (Commit stream cut added) root new more same low is =
    latest-along pages others limit (before ++ Commit stream cut added ∷ []) stream root same low is
root-along pages others limit before (Distillate stream cut added reads) root new more same low is =
    latest-along pages others limit (before ++ Distillate stream cut added reads ∷ []) stream root same low is

-- ---- below a gate

-- A root that leads to a tree is below a gate from which on there is no page.
pub root-low : (gate : ℕ) (pages : Pages) (before : List Entry) (e : Entry) (root : ℕ) (new : List NodePage) → 1 ≤ gate → AreBelow gate pages → IsRootOf pages before e root new → root < gate
root-low gate pages before (Create id) root new some below is = omega (arith, is)
root-low gate pages before (Define id spec) root new some below is = omega (arith, is)
root-low gate pages before (Retire stream least) root new some below is = omega (arith, is)
root-low gate pages before (Commit stream cut added) root new some below is =
    let h = before ++ Commit stream cut added ∷ [] in leads-low pages h stream (latest h stream) root is gate some below
root-low gate pages before (Distillate stream cut added reads) root new some below is =
    let h = before ++ Distillate stream cut added reads ∷ [] in leads-low pages h stream (latest h stream) root is gate some below

page-root : (gate : ℕ) (pages : Pages) (stream version root : ℕ) (adds : Bool) → 1 ≤ gate → AreBelow gate pages → MayBeRoot pages stream version adds root → root < gate
page-root gate pages stream version root adds some below (inl none) = omega (arith, none.0)
page-root gate pages stream version root adds some below (inr has) = page-low gate pages root has.page below has.is

-- So is one that may be that of its entry.
pub may-low : (gate : ℕ) (pages : Pages) (roll : List RollStreamValue) (e : Entry) (root : ℕ) → 1 ≤ gate → AreBelow gate pages → MayLead pages roll e root → root < gate
may-low gate pages roll (Create id) root some below may = omega (arith, may)
may-low gate pages roll (Define id spec) root some below may = omega (arith, may)
may-low gate pages roll (Retire stream least) root some below may = omega (arith, may)
may-low gate pages roll (Commit stream cut added) root some below may =
    page-root gate pages stream (next_version roll stream) root (adds added) some below may
may-low gate pages roll (Distillate stream cut added reads) root some below may =
    page-root gate pages stream (next_version roll stream) root (adds added) some below may

-- ---- by the points of the version

zero-if-empty : (pages : Pages) (h : List Entry) (stream root : ℕ) → Follows h → LeadsToLatest pages h stream root → IsZeroIfEmpty h stream root
zero-if-empty pages h stream root follows leads =
    let version = latest h stream in
    let all : points_of 10 FIRST (tree.bag (commits_to h stream version)) ≡ bag h stream version =
    ap (points_of 10 FIRST) (bag-commits_to h stream version) ∙ root-points (bag h stream version) ((follows-sound h follows).in_domain stream version) in
    elim leads [
      | inl nowhere ↦ (λ none. sym all ∙ nowhere.none, λ empty. nowhere.is)
      | inr to ↦ (
        λ none. let some = to.some in absurd (omega (arith, none)),
        λ empty. let some = to.points in absurd (omega (arith, some, ap (length {A = Point}) (all ∙ empty))),
      )
    ]

-- A root that leads to the tree of its version is 0 exactly if the version has no point.
pub root-fits : (pages : Pages) (before : List Entry) (e : Entry) (root : ℕ) (new : List NodePage) → Follows (before ++ e ∷ []) → IsRootOf pages before e root new → FitsPoints before e root
root-fits pages before (Create id) root new follows is = tt
root-fits pages before (Define id spec) root new follows is = tt
root-fits pages before (Retire stream least) root new follows is = tt
root-fits pages before (Commit stream cut added) root new follows is =
    zero-if-empty pages (before ++ Commit stream cut added ∷ []) stream root follows is
root-fits pages before (Distillate stream cut added reads) root new follows is =
    zero-if-empty pages (before ++ Distillate stream cut added reads ∷ []) stream root follows is

-- ---- beside the first wrong node

-- The commits of a stream are made one after another.
rising-on : (made : ℕ) (before : Past) (cs : List Change) → IsRising before → tree.IsBefore (made + 1) before → IsRising (with_commits made before cs)
rising-on made before [] rising old = rising
rising-on made before (c ∷ cs) rising old =
    let next : tree.IsBefore (made + 1 + 1) (made_by (made + 1) c ▷ before) = before-with_commits made before (c ∷ []) old in
    rising-on (made + 1) (made_by (made + 1) c ▷ before) cs (old, rising) next

rising : (h : List Entry) (stream version : ℕ) → IsRising (commits_to h stream version)
rising h stream version = rising-on 0 nothing (take version (commits h stream)) tt before-nothing

-- The past of a version in a longer history, up to the version, is that in a shorter one that has the version as its latest.
past-of : (before : List Entry) (e : Entry) (more : List Entry) (stream : ℕ) (c : Change) → change_of stream e ≡ Some c → up_to (latest before stream + 1) (commits_to ((before ++ e ∷ []) ++ more) stream (latest ((before ++ e ∷ []) ++ more) stream)) ≡ commits_to (before ++ e ∷ []) stream (latest (before ++ e ∷ []) stream)
past-of before e more stream c makes =
    let h = before ++ e ∷ [] in
    let all = h ++ more in
    let version : latest h stream ≡ latest before stream + 1 = omega (arith, latest-push before e stream c makes) in
    let few : latest h stream ≤ latest all stream = omega (arith, latest-append h more stream) in
    ap (λ v. up_to v (commits_to all stream (latest all stream))) (sym version)
    ∙ up_to-commits_to all stream (latest h stream) (latest all stream) few (omega arith)
    ∙ ap (with_commits 0 nothing) (take_commits-append h more stream (latest h stream) (omega arith))

module _ (pages : Pages) (before : List Entry) (e : Entry) (more : List Entry) (stream : ℕ) (c : Change) (makes : change_of stream e ≡ Some c) (root : ℕ) where
  abbrev all : List Entry
  all = (before ++ e ∷ []) ++ more

  abbrev FirstWrong : ℕ → Type 0
  FirstWrong block = IsFirstWrongIn (nodes_in pages stream) (commits_to all stream (latest all stream)) (latest before stream + 1) root block

  commit-not-wrong : (block : ℕ) → LeadsToLatest pages (before ++ e ∷ []) stream root → FirstWrong block → ⊥
  commit-not-wrong block leads wrong =
      wrong-leads_not (nodes_in pages stream) (commits_to all stream (latest all stream)) (rising all stream (latest all stream)) (latest before stream + 1) root block wrong
      (subst (λ past. Leads (Stand pages stream) 10 FIRST above_root past root) (sym (past-of before e more stream c makes)) leads)

  commit-one-wrong : (a b : ℕ) → FirstWrong a → FirstWrong b → a ≡ b
  commit-one-wrong a b x y =
      one-wrong_in (nodes_in pages stream) (commits_to all stream (latest all stream)) (rising all stream (latest all stream)) (latest before stream + 1) root a b x y

-- The root of an entry that leads to the tree of its version has no first wrong node.
not-wrong : (pages : Pages) (before : List Entry) (e : Entry) (more : List Entry) (root block : ℕ) (new : List NodePage) → IsRootOf pages before e root new → IsFirstWrongOf pages ((before ++ e ∷ []) ++ more) before e root block → ⊥
not-wrong pages before (Create id) more root block new is wrong = wrong
not-wrong pages before (Define id spec) more root block new is wrong = wrong
not-wrong pages before (Retire stream least) more root block new is wrong = wrong
not-wrong pages before (Commit stream cut added) more root block new is wrong =
    commit-not-wrong pages before (Commit stream cut added) more stream (change cut added) (its-change stream (change cut added)) root block is wrong
not-wrong pages before (Distillate stream cut added reads) more root block new is wrong =
    commit-not-wrong pages before (Distillate stream cut added reads) more stream (change cut added) (its-change stream (change cut added)) root block is wrong

-- An entry has one first wrong node at most.
one-wrong : (pages : Pages) (before : List Entry) (e : Entry) (more : List Entry) (root a b : ℕ) → IsFirstWrongOf pages ((before ++ e ∷ []) ++ more) before e root a → IsFirstWrongOf pages ((before ++ e ∷ []) ++ more) before e root b → a ≡ b
one-wrong pages before (Create id) more root a b x y = absurd x
one-wrong pages before (Define id spec) more root a b x y = absurd x
one-wrong pages before (Retire stream least) more root a b x y = absurd x
one-wrong pages before (Commit stream cut added) more root a b x y =
    commit-one-wrong pages before (Commit stream cut added) more stream (change cut added) (its-change stream (change cut added)) root a b x y
one-wrong pages before (Distillate stream cut added reads) more root a b x y =
    commit-one-wrong pages before (Distillate stream cut added reads) more stream (change cut added) (its-change stream (change cut added)) root a b x y

-- ---- at a place of a history

module _ (pages : Pages) (h : List Entry) (roots : List ℕ) where
  -- The history is the entries before a place, the entry there, and more.
  pub parts-at : (n : ℕ) (e : Entry) → slice_get h n ≡ Some e → (take n h ++ e ∷ []) ++ drop (n + 1) h ≡ h
  parts-at n e at = ap (λ l. l ++ drop (n + 1) h) (sym (take-on h n e at)) ∙ take-append-drop (n + 1) h

  pub right-not-wrong : (n block : ℕ) → LeadsRightly pages h roots n → IsFirstWrongAt pages h roots n block → ⊥
  right-not-wrong n block right wrong =
      let e = wrong.entry in
      let is : IsRootOf pages (take n h) e (get_or roots n 0) [] = if-at (slice_get h n) (λ f. IsRootOf pages (take n h) f (get_or roots n 0) []) e wrong.is right in
      not-wrong pages (take n h) e (drop (n + 1) h) (get_or roots n 0) block [] is (subst (λ l. IsFirstWrongOf pages l (take n h) e (get_or roots n 0) block) (sym (parts-at n e wrong.is)) wrong.wrong)

  one-at : (n a b : ℕ) → IsFirstWrongAt pages h roots n a → IsFirstWrongAt pages h roots n b → a ≡ b
  one-at n a b x y =
      let e = x.entry in
      let same : y.entry ≡ e = same-some (slice_get h n) y.entry e y.is x.is in
      let there : IsFirstWrongOf pages h (take n h) e (get_or roots n 0) b = subst (λ f. IsFirstWrongOf pages h (take n h) f (get_or roots n 0) b) same y.wrong in
      let whole = sym (parts-at n e x.is) in
      one-wrong pages (take n h) e (drop (n + 1) h) (get_or roots n 0) a b
      (subst (λ l. IsFirstWrongOf pages l (take n h) e (get_or roots n 0) a) whole x.wrong)
      (subst (λ l. IsFirstWrongOf pages l (take n h) e (get_or roots n 0) b) whole there)
    where
      same-some : (o : Option Entry) (f g : Entry) → o ≡ Some f → o ≡ Some g → f ≡ g
      same-some o f g p q = cc

  -- One block is that of the first wrong node of all trees.
  pub one-first : (n m a b : ℕ) → IsFirstWrongAt pages h roots n a → IsFirstWrongAt pages h roots m b → a ≡ b
  one-first n m a b x y = elim (cases_lt n m) [
    | inl less ↦ absurd (right-not-wrong n a (y.before n less) x)
    | inr le ↦ elim (cases_lt m n) [
      | inl less ↦ absurd (right-not-wrong m b (x.before m less) y)
      | inr ge ↦
          let same : m ≡ n = omega arith in
          one-at n a b x (subst (λ k. IsFirstWrongAt pages h roots k b) same y)
    ]
  ]
