-- What a whole log gives for the judging of its trees, and what the judging says of the log: each root leads to the tree of its version, or the
-- first wrong node is in a block.
use Rattle.std.specs.Prelude.{◌≡◌, ℕ, ◌+◌, ◌<◌, List, [], ◌∷◌, ◌++◌, take, drop, get_or, slice_get, Option, Some, None, IfSome}
use Rattle.std.specs.Option.{option_map}
use Rattle.std.proofs.Common.{refl, sym, ◌∙◌, ap, subst, inl, arith}
use Rattle.btr_disk.specs.Bytes.{Image}
use Rattle.btr_base.specs.Commit.{Change}
use Rattle.btr_base.specs.declared.limits.TheConstants.{FIRST}
use Rattle.btr_tree.specs.History.{Past, nothing}
use Rattle.btr_tree.specs.Leads.{Leads}
use Rattle.btr_tree.specs.Nodes.{above_root}
use Rattle.btr_tree.specs.PageNodes.{Pages, nodes_in, Stand}
use Rattle.btr_pages.specs.Pages.{HasRootPage}
use Rattle.btr_pages.specs.Known.{TreesValue, AreKnown}
use Rattle.btr_hist.specs.declared.entry.Entry.{Entry}
use Rattle.btr_hist.specs.declared.entry.Entry.TheVariants.{Create, Define, Commit, Distillate, Retire}
use Rattle.btr_hist.specs.History.{change_of, latest}
use Rattle.btr_hist.specs.Legal.{Follows}
use Rattle.btr_hist.specs.Machine.{receipt}
use Rattle.btr_hist.proofs.HistoryLemmas.{follows-prefix, take_commits-append}
use Rattle.btr_hist.proofs.VersionLemmas.{latest-push}
use Rattle.btr_streams.specs.declared.snapshot.Snapshot.{Snapshot}
use Rattle.btr_streams.specs.Board.{HasVersion}
use Rattle.btr_streams.specs.Past.{with_commits, commits_to}
use Rattle.btr_engine.specs.Roots.{IsRootOf}
use Rattle.btr_streams.specs.Snapshot.{IsSnapshotOf}
use Rattle.btr_verify.specs.FirstWrong.{IsFirstWrongIn}
use Rattle.btr_open.specs.Reached.{Reached}
use Rattle.btr_open.specs.Seen.{Seen}
use Rattle.btr_open.proofs.HeldPages.{if-each, if-at}
use Rattle.btr_open.proofs.HeldRoots.{LeadsToVersion}
use Rattle.btr_open.proofs.RootLemmas.{its-change}
use Rattle.btr_verify.specs.declared.verifying.Made.{Made}
use Rattle.btr_verify.specs.Trees.{past_of, IsCommitOf, LeadsToTree, AreToVerify, IsFirstWrongNode, IsVerified}
use Rattle.btr_check.specs.Whole.{LeadsRightly, IsFirstWrongOf, IsFirstWrongAt}
use Rattle.btr_check.specs.Checker.{made_by, AreMade}
use Rattle.btr_check.specs.Checking.{AreTreesFound}
use Rattle.btr_check.proofs.LeadLemmas.{parts-at}
use Rattle.btr_check.proofs.StagingLemmas.{made-has, has-more}
use Rattle.btr_check.proofs.PageLemmas.{HasOwnRoot, IsReadWhole}

-- The root leads to the tree after a past.
abbrev LeadsToPast : Pages → ℕ → Past → ℕ → Type 0
LeadsToPast pages stream past root = Leads (Stand pages stream) 10 FIRST above_root past root

-- The first wrong node of a version is in the block.
abbrev IsFirstWrongNodeOf : Pages → List Entry → Made → ℕ → Type 0
IsFirstWrongNodeOf pages h m block = IsFirstWrongIn (nodes_in pages m.stream) (past_of h m.stream) m.version m.root block

-- ---- one entry

-- The root of an entry has the page of a root of the version that the entry makes, if it is not 0.
own-page : (pages : Pages) (before : List Entry) (e : Entry) (root : ℕ) → HasOwnRoot pages before e root → 0 < root → HasRootPage pages (receipt before e).stream (receipt before e).version root
own-page pages before (Create id) root own some = absurd (omega (arith, own, some))
own-page pages before (Define id spec) root own some = absurd (omega (arith, own, some))
own-page pages before (Retire stream least) root own some = absurd (omega (arith, own, some))
own-page pages before (Commit stream cut added) root own some = own some
own-page pages before (Distillate stream cut added reads) root own some = own some

-- The past of the version that a commit makes is the same in a longer history.
past-then : (before : List Entry) (e : Entry) (more : List Entry) (stream : ℕ) (c : Change) → change_of stream e ≡ Some c → commits_to ((before ++ e ∷ []) ++ more) stream (latest before stream + 1) ≡ commits_to (before ++ e ∷ []) stream (latest (before ++ e ∷ []) stream)
past-then before e more stream c makes =
    let h = before ++ e ∷ [] in
    let version : latest before stream + 1 ≡ latest h stream = omega (arith, latest-push before e stream c makes) in
    ap (commits_to (h ++ more) stream) version
    ∙ ap (with_commits 0 nothing) (take_commits-append h more stream (latest h stream) (omega arith))

module _ (pages : Pages) (before : List Entry) (more : List Entry) where
  commit-leads : (e : Entry) (stream : ℕ) (c : Change) (root : ℕ) → change_of stream e ≡ Some c → LeadsToVersion pages ((before ++ e ∷ []) ++ more) stream (latest before stream + 1) root → LeadsToVersion pages (before ++ e ∷ []) stream (latest (before ++ e ∷ []) stream) root
  commit-leads e stream c root makes leads =
      let h = before ++ e ∷ [] in
      subst (λ past. LeadsToPast pages stream past root) (past-then before e more stream c makes) leads

  -- The root of an entry that leads to the tree of its version in the whole history is the root of the entry.
  root-rightly : (e : Entry) (root : ℕ) → HasOwnRoot pages before e root → LeadsToTree pages ((before ++ e ∷ []) ++ more) (made_by before e root) → IsRootOf pages before e root []
  root-rightly (Create id) root own leads = own
  root-rightly (Define id spec) root own leads = own
  root-rightly (Retire stream least) root own leads = own
  root-rightly (Commit stream cut added) root own leads =
      let c : Change = record { cut = cut; added = added } in
      commit-leads (Commit stream cut added) stream c root (its-change stream c) leads
  root-rightly (Distillate stream cut added reads) root own leads =
      let c : Change = record { cut = cut; added = added } in
      commit-leads (Distillate stream cut added reads) stream c root (its-change stream c) leads

-- A root of 0 leads to the tree of version 0, which has no point.
first-leads : (pages : Pages) (h : List Entry) (stream root : ℕ) → root ≡ 0 → LeadsToVersion pages h stream 0 root
first-leads pages h stream root zero = inl (record { none = refl; is = zero })

-- The first wrong node of an entry's version, if its root does not lead to the version's tree.
wrong-of : (pages : Pages) (h before : List Entry) (e : Entry) (root block : ℕ) → HasOwnRoot pages before e root → (LeadsToTree pages h (made_by before e root) → ⊥) → IsFirstWrongNodeOf pages h (made_by before e root) block → IsFirstWrongOf pages h before e root block
wrong-of pages h before (Create id) root block own fails wrong = fails (first-leads pages h (receipt before (Create id)).stream root own)
wrong-of pages h before (Define id spec) root block own fails wrong = fails (first-leads pages h (receipt before (Define id spec)).stream root own)
wrong-of pages h before (Retire stream least) root block own fails wrong = fails (first-leads pages h (receipt before (Retire stream least)).stream root own)
wrong-of pages h before (Commit stream cut added) root block own fails wrong = wrong
wrong-of pages h before (Distillate stream cut added reads) root block own fails wrong = wrong

-- ---- all entries

module _ (image : Image) (log : Reached) (seen : Seen) (made : List Made) (read : IsReadWhole image log seen) (are : AreMade seen.entries seen.roots made) where
  abbrev h : List Entry
  h = seen.entries

  abbrev roots : List ℕ
  roots = seen.roots

  -- The entry at a place, of which this version is.
  record IsMadeAt (n : ℕ) (m : Made) : Type 0 where
    entry : Entry
    there : slice_get h n ≡ Some entry
    its : made_by (take n h) entry (get_or roots n 0) ≡ m

  made-at : (n : ℕ) (m : Made) → slice_get made n ≡ Some m → IsMadeAt n m
  made-at n m at =
      elim (slice_get h n) as (λ o. slice_get h n ≡ o → option_map (λ e. made_by (take n h) e (get_or roots n 0)) o ≡ Some m → IsMadeAt n m) [
        | None ↦ λ is none. absurd (cc)
        | Some e ↦ λ is some. record { entry = e; there = is; its = let same : made_by (take n h) e (get_or roots n 0) ≡ m = cc in same }
      ] refl (sym (are n) ∙ at)

  -- The version of the entry at a place is one of those that were made.
  at-made : (n : ℕ) (e : Entry) → slice_get h n ≡ Some e → slice_get made n ≡ Some (made_by (take n h) e (get_or roots n 0))
  at-made n e at = are n ∙ ap (option_map (λ f. made_by (take n h) f (get_or roots n 0))) at

  is-made : (n : ℕ) (e : Entry) → slice_get h n ≡ Some e → IsCommitOf log.pages h (made_by (take n h) e (get_or roots n 0))
  is-made n e at =
      let before = take n h in
      let parts = parts-at log.pages h roots n e at in
      let follows = follows-prefix (before ++ e ∷ []) (drop (n + 1) h) (subst Follows (sym parts) read.follows) in
      let r = receipt before e in
      record {
        has = subst (λ l. HasVersion l r.stream r.version) parts (has-more (before ++ e ∷ []) (drop (n + 1) h) r.stream r.version (made-has before e follows));
        page = own-page log.pages before e (get_or roots n 0) (read.own n e at);
      }

  pub to-verify : (nodes : TreesValue) (snapshot : Snapshot) → AreKnown log.pages nodes → IsSnapshotOf h snapshot → AreToVerify image log.pages h nodes snapshot made
  to-verify nodes snapshot known of = record {
    trees = record { known = known; stored = read.stored; of = of };
    each = λ n. if-each (slice_get made n) (IsCommitOf log.pages h) (λ m at.
        let it = made-at n m at in
        subst (IsCommitOf log.pages h) it.its (is-made n it.entry it.there));
  }

  -- The root of the entry at a place leads rightly, if that of its version does.
  rightly-at : (n : ℕ) → IfSome (slice_get made n) (LeadsToTree log.pages h) → LeadsRightly log.pages h roots n
  rightly-at n leads = if-each (slice_get h n) (λ e. IsRootOf log.pages (take n h) e (get_or roots n 0) []) (λ e at.
      let its = if-at (slice_get made n) (LeadsToTree log.pages h) (made_by (take n h) e (get_or roots n 0)) (at-made n e at) leads in
      let whole = sym (parts-at log.pages h roots n e at) in
      root-rightly log.pages (take n h) (drop (n + 1) h) e (get_or roots n 0) (read.own n e at)
      (subst (λ l. LeadsToTree log.pages l (made_by (take n h) e (get_or roots n 0))) whole its))

  first-wrong : (block : ℕ) → IsFirstWrongNode log.pages h made block → (n : ℕ) × IsFirstWrongAt log.pages h roots n block
  first-wrong block found =
      let fails = found.fails in
      let n = fails.at in
      let it = made-at n found.first fails.is in
      let root = get_or roots n 0 in
      let not : LeadsToTree log.pages h (made_by (take n h) it.entry root) → ⊥ = subst (λ m. LeadsToTree log.pages h m → ⊥) (sym it.its) fails.fails in
      let wrong : IsFirstWrongNodeOf log.pages h (made_by (take n h) it.entry root) block = subst (λ m. IsFirstWrongNodeOf log.pages h m block) (sym it.its) found.wrong in (
        n,
        record {
          before = λ m low. rightly-at m (fails.before m low);
          entry = it.entry;
          is = it.there;
          wrong = wrong-of log.pages h (take n h) it.entry root block (read.own n it.entry it.there) not wrong;
        },
      )

  pub trees-found : (found : Option ℕ) → IsVerified log.pages h made found → AreTreesFound log.pages h roots found
  trees-found None all = λ n. rightly-at n (all n)
  trees-found (Some block) wrong = first-wrong block wrong
