-- The root of each version of a history leads to the nodes of the version's tree, in the pages of the history. So it is 0, or its page is one
-- that an opening takes for the root of the version.
use Rattle.std.specs.Prelude.{◌≡◌, ◌⊎◌, ℕ, ◌+◌, ◌<◌, ◌≤◌, Bool, List, [], ◌∷◌, ◌++◌, length, slice_get, Option, Some, None}
use Rattle.std.specs.Option.{option_and_then}
use Rattle.std.proofs.Common.{zero, suc, refl, sym, ap, ◌∙◌, arith, subst, inl, inr, append_assoc, length-append}
use Rattle.std.proofs.lemmas.List.{append-nil}
use Rattle.std.proofs.lemmas.Option.{slice_get_within}
use Rattle.btr_base.specs.declared.limits.TheConstants.{FIRST}
use Rattle.btr_base.specs.Commit.{Change}
use Rattle.btr_tree.specs.History.{nothing}
use Rattle.btr_tree.specs.Leads.{node_to, Leads}
use Rattle.btr_tree.specs.Nodes.{above_root}
use Rattle.btr_tree.proofs.LeadsLemmas.{leads-along}
use Rattle.btr_node.specs.declared.page.NodePage.{NodePage}
use Rattle.btr_tree.specs.PageNodes.{Pages, node_of_stream, Stand}
use Rattle.btr_pages.specs.Pages.{HasRootPage, MayBeRoot}
use Rattle.btr_pages.proofs.KnownLemmas.{pages-below}
use Rattle.btr_pages.proofs.ReportedLemmas.{page-in}
use Rattle.btr_hist.specs.declared.entry.Entry.{Entry}
use Rattle.btr_hist.specs.declared.kernel.Spec.{Spec}
use Rattle.btr_hist.specs.declared.entry.Entry.TheVariants.{Create, Define, Commit, Distillate, Retire}
use Rattle.btr_hist.specs.History.{change_of, latest}
use Rattle.btr_hist.specs.Legal.{Follows}
use Rattle.btr_hist.proofs.HistoryLemmas.{follows-prefix, take_commits-append}
use Rattle.btr_hist.proofs.VersionLemmas.{latest-push}
use Rattle.btr_log.specs.Extents.{need}
use Rattle.btr_roll.specs.declared.roll.RollVersion.{RollVersion}
use Rattle.btr_roll.specs.Roll.{RollStreamValue, versions_count}
use Rattle.btr_engine.specs.Body.{Prefix, no_extents, first_page, pages_after, with_extent, with_checkpoint, LeadTo, RootRule}
use Rattle.btr_streams.specs.Past.{with_commits, commits_to}
use Rattle.btr_streams.specs.Rolling.{roll_of}
use Rattle.btr_engine.specs.Roots.{LeadsToLatest, IsRootOf}
use Rattle.btr_streams.specs.Stage.{change}
use Rattle.btr_streams.proofs.BoardTrees.{before-commits_to}
use Rattle.btr_engine.proofs.Written.{or-last}
use Rattle.btr_open.specs.Reached.{new_in_roll, with_version_more, with_version_at, next_roll, with_first, with_first_at}
use Rattle.btr_open.specs.RootTest.{adds, MayLead}
use Rattle.btr_open.specs.Start.{HasVersionAt, HaveRootPages}
use Rattle.btr_open.proofs.RootLemmas.{root-page, its-change, root-may}
use Rattle.btr_open.proofs.HeldPages.{AreBelow, below-extent, page-low}
use Rattle.btr_open.proofs.HeldRolls.{roll-versions, next-version, roll-next}

-- ---- bodies that lead from one prefix to another

-- The entries before are the first ones of those after.
pub LeadTo-on : (Rule : RootRule) (before : Prefix) (bodies : List (List ℕ)) (after : Prefix) → LeadTo Rule before bodies after → (more : List Entry) × (before.entries ++ more ≡ after.entries)
LeadTo-on Rule before [] after leads = ([], append-nil before.entries ∙ ap (λ (p : Prefix). p.entries) leads)
LeadTo-on Rule before (body ∷ bodies) after leads = elim leads [
  | inl x ↦
      let rest = LeadTo-on Rule (with_extent before x.0 x.1 x.2 body) bodies after x.5 in
      (x.0 ∷ rest.0, sym (append_assoc before.entries (x.0 ∷ []) rest.0) ∙ rest.1)
  | inr x ↦ LeadTo-on Rule (with_checkpoint before body) bodies after x.1
]

-- If each entry after is accepted, so is each before.
pub follows-before : (before : Prefix) (bodies : List (List ℕ)) (after : Prefix) → LeadTo IsRootOf before bodies after → Follows after.entries → Follows before.entries
follows-before before bodies after leads follows =
    let on = LeadTo-on IsRootOf before bodies after leads in
    follows-prefix before.entries on.0 (subst Follows (sym on.1) follows)

-- ---- the page of a root

-- The root leads to the nodes of the tree of a version.
abbrev pub LeadsToVersion : Pages → List Entry → ℕ → ℕ → ℕ → Type 0
LeadsToVersion pages h stream version root = Leads (Stand pages stream) 10 FIRST above_root (commits_to h stream version) root

module _ (pages : Pages) (h : List Entry) (stream version root : ℕ) (leads : LeadsToVersion pages h stream version root) where
  -- It is 0, or it has the page of the version's root.
  pub leads-page : (root ≡ 0) ⊎ HasRootPage pages stream version root
  leads-page = elim leads [
    | inl nowhere ↦ inl nowhere.is
    | inr to ↦
        let past = commits_to h stream version in
        let of = page-in pages stream root (node_to to.links 10 FIRST above_root past) to.is in
        inr (record { page = of.page; is = of.is; fits = root-page stream version of.page to.links past of.its_stream of.says (before-commits_to h stream version) })
  ]

  -- It is below the gate.
  pub leads-low : (gate : ℕ) → 1 ≤ gate → AreBelow gate pages → root < gate
  leads-low gate some below = elim leads-page [
    | inl none ↦ omega arith
    | inr has ↦ page-low gate pages root has.page below has.is
  ]

-- ---- the root of an entry may be its own

module _ (known : Pages) (before : List Entry) (roots : List ℕ) (e : Entry) (follows : Follows (before ++ e ∷ [])) where
  -- The version after that of a history is the one after that of its streams.
  root-in-roll : (s root : ℕ) (some : Bool) → MayBeRoot known s (latest before s + 1) some root → MayBeRoot known s (versions_count (slice_get (roll_of before roots) s) + 1) some root
  root-in-roll s root some may =
      subst (λ v. MayBeRoot known s v some root) (sym (next-version before roots (follows-prefix before (e ∷ []) follows) s)) may

-- The root of an entry that leads to the tree of its version may be the root after the streams of the entries before.
pub root-may-lead : (known : Pages) (before : List Entry) (roots : List ℕ) (e : Entry) (root : ℕ) (pages : List NodePage) → Follows (before ++ e ∷ []) → IsRootOf known before e root pages → MayLead known (roll_of before roots) e root
root-may-lead known before roots (Create id) root pages follows is = is
root-may-lead known before roots (Define id spec) root pages follows is = is
root-may-lead known before roots (Retire stream first) root pages follows is = is
root-may-lead known before roots (Commit stream cut added) root pages follows is =
    root-in-roll known before roots (Commit stream cut added) follows stream root (adds added) (root-may known before (Commit stream cut added) root pages follows is)
root-may-lead known before roots (Distillate stream cut added reads) root pages follows is =
    root-in-roll known before roots (Distillate stream cut added reads) follows stream root (adds added) (root-may known before (Distillate stream cut added reads) root pages follows is)

-- ---- versions of streams with one entry more

-- A version of the streams with one more is one of theirs.
version-old : (roll : List RollStreamValue) (id : ℕ) (spec : Option Spec) (number stream k : ℕ) (v : RollVersion) → HasVersionAt (roll ++ new_in_roll id spec number ∷ []) stream k v → HasVersionAt roll stream k v
version-old roll id spec number stream k v at = elim (or-last roll (new_in_roll id spec number) stream at.its at.there) [
  | inl old ↦ record { its = at.its; there = old; is = at.is }
  | inr last ↦
      let none : slice_get [] k ≡ Some v = subst (λ (x : RollStreamValue). slice_get x.versions k ≡ Some v) last.0 at.is in
      absurd (cc)
]

-- A version of the streams of which one has one version more is one of theirs, or the new one.
abbrev IsNewVersion : List RollStreamValue → ℕ → RollVersion → ℕ → ℕ → RollVersion → Type 0
IsNewVersion roll s new stream k v = (stream ≡ s) × (k ≡ versions_count (slice_get roll s)) × (v ≡ new)

version-grown : (roll : List RollStreamValue) (s : ℕ) (new : RollVersion) (stream k : ℕ) (v : RollVersion) → HasVersionAt (with_version_at roll s new) stream k v → HasVersionAt roll stream k v ⊎ IsNewVersion roll s new stream k v
version-grown [] s new stream k v at = inl at
version-grown (x ∷ roll) zero new zero k v at =
    let same : with_version_more new x ≡ at.its = let both : Some (with_version_more new x) ≡ Some at.its = at.there in cc in
    elim (or-last x.versions new k v (subst (λ (y : RollStreamValue). slice_get y.versions k ≡ Some v) (sym same) at.is)) [
      | inl old ↦ inl (record { its = x; there = refl; is = old })
      | inr last ↦ inr (refl, last.1, last.0)
    ]
version-grown (x ∷ roll) zero new (suc stream) k v at = inl (record { its = at.its; there = at.there; is = at.is })
version-grown (x ∷ roll) (suc s) new zero k v at = inl (record { its = at.its; there = at.there; is = at.is })
version-grown (x ∷ roll) (suc s) new (suc stream) k v at =
    elim (version-grown roll s new stream k v (record { its = at.its; there = at.there; is = at.is })) [
      | inl old ↦ inl (record { its = old.its; there = old.there; is = old.is })
      | inr last ↦ inr (ap (λ (n : ℕ). suc n) last.0, last.1, last.2)
    ]

-- A version of the streams of which one has versions retired is one of theirs.
version-kept : (roll : List RollStreamValue) (s least stream k : ℕ) (v : RollVersion) → HasVersionAt (with_first_at roll s least) stream k v → HasVersionAt roll stream k v
version-kept [] s least stream k v at = at
version-kept (x ∷ roll) zero least zero k v at =
    let same : with_first least x ≡ at.its = let both : Some (with_first least x) ≡ Some at.its = at.there in cc in
    record { its = x; there = refl; is = subst (λ (y : RollStreamValue). slice_get y.versions k ≡ Some v) (sym same) at.is }
version-kept (x ∷ roll) zero least (suc stream) k v at = record { its = at.its; there = at.there; is = at.is }
version-kept (x ∷ roll) (suc s) least zero k v at = record { its = at.its; there = at.there; is = at.is }
version-kept (x ∷ roll) (suc s) least (suc stream) k v at =
    let old = version-kept roll s least stream k v (record { its = at.its; there = at.there; is = at.is }) in
    record { its = old.its; there = old.there; is = old.is }

-- ---- each root leads to the tree of its version

-- The root of each version leads to its tree.
abbrev pub EachLeads : Pages → List Entry → List RollStreamValue → Type 0
EachLeads pages h roll = (stream k : ℕ) (v : RollVersion) → HasVersionAt roll stream k v → LeadsToVersion pages h stream (k + 1) v.root

module _ (before : Prefix) (e : Entry) (root : ℕ) (pages : List NodePage) (follows : Follows (before.entries ++ e ∷ [])) (some : 1 ≤ before.gate) (below : AreBelow before.gate before.pages) (was : EachLeads before.pages before.entries (roll_of before.entries before.roots)) where
  abbrev h : List Entry
  h = before.entries

  abbrev next : List Entry
  next = h ++ e ∷ []

  abbrev known : Pages
  known = pages_after before e pages

  -- The roots of the versions before lead on.
  old-leads : (stream k : ℕ) (v : RollVersion) → HasVersionAt (roll_of h before.roots) stream k v → LeadsToVersion known next stream (k + 1) v.root
  old-leads stream k v at =
      let leads = was stream k v at in
      let counted = ap versions_count (sym at.there) ∙ roll-versions h before.roots (follows-prefix h (e ∷ []) follows) stream in
      let few : k + 1 ≤ latest h stream = omega (arith, counted, slice_get_within at.its.versions k v at.is) in
      let past : commits_to next stream (k + 1) ≡ commits_to h stream (k + 1) = ap (with_commits 0 nothing) (take_commits-append h (e ∷ []) stream (k + 1) few) in
      let low = leads-low before.pages h stream (k + 1) v.root leads before.gate some below in
      subst (λ p. Leads (Stand known stream) 10 FIRST above_root p v.root) (sym past) (leads-along (Stand before.pages stream) (Stand known stream) before.gate (λ b n less is.
      ap (option_and_then (node_of_stream stream)) (pages-below before.pages (first_page before.gate e) b pages (omega arith)) ∙ is) 10 FIRST above_root (commits_to h stream (k + 1)) v.root low leads)

  -- So do those with the new version.
  new-leads : (s : ℕ) (c : Change) (new : RollVersion) → change_of s e ≡ Some c → new.root ≡ root → LeadsToLatest known next s root → EachLeads known next (with_version_at (roll_of h before.roots) s new)
  new-leads s c new makes its leads stream k v at = elim (version-grown (roll_of h before.roots) s new stream k v at) [
    | inl old ↦ old-leads stream k v old
    | inr last ↦
        let version : latest next s ≡ k + 1 = omega (arith, latest-push h e s c makes, last.1, roll-versions h before.roots (follows-prefix h (e ∷ []) follows) s) in
        let here : LeadsToVersion known next s (k + 1) root = subst (λ n. LeadsToVersion known next s n root) version leads in
        let block : root ≡ v.root = sym its ∙ ap (λ (x : RollVersion). x.root) (sym last.2) in
        subst (λ n. LeadsToVersion known next n (k + 1) v.root) (sym last.0) (subst (LeadsToVersion known next s (k + 1)) block here)
  ]

next-leads : (before : Prefix) (e : Entry) (root : ℕ) (pages : List NodePage) → Follows (before.entries ++ e ∷ []) → 1 ≤ before.gate → AreBelow before.gate before.pages → EachLeads before.pages before.entries (roll_of before.entries before.roots) → IsRootOf (pages_after before e pages) before.entries e root pages → EachLeads (pages_after before e pages) (before.entries ++ e ∷ []) (next_roll (roll_of before.entries before.roots) e (length before.entries + 1) root)
next-leads before (Create id) root pages follows some below was is = λ stream k v at.
    old-leads before (Create id) root pages follows some below was stream k v (version-old (roll_of before.entries before.roots) id None (length before.entries + 1) stream k v at)
next-leads before (Define id spec) root pages follows some below was is = λ stream k v at.
    old-leads before (Define id spec) root pages follows some below was stream k v (version-old (roll_of before.entries before.roots) id (Some spec) (length before.entries + 1) stream k v at)
next-leads before (Retire s least) root pages follows some below was is = λ stream k v at.
    old-leads before (Retire s least) root pages follows some below was stream k v (version-kept (roll_of before.entries before.roots) s least stream k v at)
next-leads before (Commit s cut added) root pages follows some below was is =
    new-leads before (Commit s cut added) root pages follows some below was s (change cut added) (record { entry = length before.entries + 1; root = root; reads = None }) (its-change s (change cut added)) refl is
next-leads before (Distillate s cut added reads) root pages follows some below was is =
    new-leads before (Distillate s cut added reads) root pages follows some below was s (change cut added) (record { entry = length before.entries + 1; root = root; reads = Some reads }) (its-change s (change cut added)) refl is

-- What is kept along bodies: the root of each version leads to its tree, and no block from the gate on has a page.
abbrev LeadsBelow : Prefix → Type 0
LeadsBelow p = (1 ≤ p.gate) × AreBelow p.gate p.pages × EachLeads p.pages p.entries (roll_of p.entries p.roots)

leads-on : (before : Prefix) (bodies : List (List ℕ)) (after : Prefix) → LeadTo IsRootOf before bodies after → Follows after.entries → length before.roots ≡ length before.entries → LeadsBelow before → LeadsBelow after
leads-on before [] after leads follows counted was = subst LeadsBelow leads was
leads-on before (body ∷ bodies) after leads follows counted was = elim leads [
  | inl x ↦
      let e = x.0 in
      let next = with_extent before e x.1 x.2 body in
      let here : Follows (before.entries ++ e ∷ []) = follows-before next bodies after x.5 follows in
      let now = next-leads before e x.1 x.2 here was.0 was.1 was.2 x.4 in
      let some : 1 ≤ before.gate + need body = let least = was.0 in omega arith in
      leads-on next bodies after x.5 follows (omega (arith, counted, length-append before.entries (e ∷ []), length-append before.roots (x.1 ∷ []))) (some, below-extent before e x.1 x.2 body x.3, subst (EachLeads (pages_after before e x.2) (before.entries ++ e ∷ [])) (sym (roll-next before.entries before.roots e x.1 here counted)) now)
  | inr x ↦
      let some : 1 ≤ before.gate + need body = let least = was.0 in omega arith in
      leads-on (with_checkpoint before body) bodies after x.1 follows counted (some, (λ block high. was.1 block (omega arith)), was.2)
]

module _ (bodies : List (List ℕ)) (p : Prefix) (leads : LeadTo IsRootOf no_extents bodies p) (follows : Follows p.entries) where
  kept : LeadsBelow p
  kept =
      leads-on no_extents bodies p leads follows refl (omega arith, (λ block high. refl), λ stream k v at. let none : slice_get [] stream ≡ Some at.its = at.there in absurd (cc))

  -- No block from the gate on has a page.
  pub pages-held : AreBelow p.gate p.pages
  pages-held = kept.1

  -- The root of each version leads to its tree.
  pub roots-lead : EachLeads p.pages p.entries (roll_of p.entries p.roots)
  roots-lead = kept.2

-- The root of each version is 0, or it has the page of such a root.
pub roots-held : (bodies : List (List ℕ)) (p : Prefix) → LeadTo IsRootOf no_extents bodies p → Follows p.entries → HaveRootPages p.pages (roll_of p.entries p.roots)
roots-held bodies p leads follows stream k v at =
    leads-page p.pages p.entries stream (k + 1) v.root (roots-lead bodies p leads follows stream k v at)
