-- Why a commit of a stream is rejected, as the tree of the stream's latest version finds it.
use Rattle.std.specs.Prelude.{◌≡◌, ℕ, ◌+◌, ◌-◌, ◌<◌, ◌≤◌, nat_le, not, Bool, List, [], ◌∷◌, ◌++◌, length, slice_get, slice_index_or, Option, Some, None}
use Rattle.std.specs.List.{AllByRecursion}
use Rattle.std.proofs.Common.{zero, suc, refl, sym, ap, ◌∙◌, arith, subst}
use Rattle.std.proofs.lemmas.List.{length-append}
use Rattle.std.proofs.lemmas.Bool.{lt-leb}
use Rattle.std.proofs.lemmas.Option.{get_or_from_slice_get}
use Rattle.btr_base.specs.declared.limits.TheConstants.{FIRST, END, MAX_VERSIONS}
use Rattle.btr_base.specs.declared.point.Point.{Point}
use Rattle.btr_base.specs.Point.{InDomain, AreInDomain}
use Rattle.btr_base.specs.Bag.{sort, outside}
use Rattle.btr_base.specs.Commit.{Change, after}
use Rattle.btr_base.proofs.PointLemmas.{length-sort}
use Rattle.btr_tree.specs.History.{Past, ◌▷◌}
use Rattle.btr_tree.specs.History as tree
use Rattle.btr_tree.specs.Crowd.{HasNoCrowdedSpan}
use Rattle.btr_tree.specs.Root.{TreeValue, IsTree}
use Rattle.btr_hist.specs.declared.entry.Entry.{Entry}
use Rattle.btr_hist.specs.declared.kernel.Reads.{Reads}
use Rattle.btr_hist.specs.declared.rejection.Rejection.{Rejection}
use Rattle.btr_hist.specs.declared.rejection.Rejection.TheVariants.{NoStream, NotWritable, VersionLimit, OutOfDomain}
use Rattle.btr_hist.specs.History.{ids, spec_of, is_output, latest}
use Rattle.btr_hist.specs.Legal.{version_rejection, first_some, when, first_out_of_domain, change_rejection, distillate_change_rejection, points_rejection, next_bag, takes_reads, commit_rejection, distillate_rejection}
use Rattle.btr_hist.proofs.HistoryLemmas.{each-after}
use Rattle.btr_hist.proofs.RejectionLemmas.{first_none, map_none, none_out_of_domain}
use Rattle.btr_streams.specs.declared.board.PushFault.{PushFault}
use Rattle.btr_streams.specs.Past.{commits_to}
use Rattle.btr_streams.specs.Board.{HasPast, HasTrees}
use Rattle.btr_streams.specs.Stage.{PushCause, IsNextTree}
use Rattle.btr_streams.proofs.BoardTrees.{made_by, bag-commits_to}
use Rattle.btr_streams.proofs.Crowded.{room-allowed}

-- ---- the tests of a commit

pub last_some : {A : Type 0} (o : Option A) → first_some (o ∷ []) ≡ o
last_some None = refl
last_some (Some a) = refl

module _ (h : List Entry) (stream : ℕ) (c : Change) where
  -- The tests of the next version.
  abbrev pub of_version : List (Option Rejection)
  of_version = when (nat_le MAX_VERSIONS (latest h stream)) VersionLimit ∷ points_rejection (next_bag h stream c) ∷ []

  -- The tests of a user's commit, by what they find. The stream is there.
  pub commit-tests : stream < length (ids h) → (output : Bool) → is_output h stream ≡ output → (found : Option Rejection) → change_rejection c ≡ found → commit_rejection h stream c ≡ first_some (when output NotWritable ∷ found ∷ of_version)
  commit-tests is_there output kind found of_change =
      ap (λ t. first_some (when t NoStream ∷ when (is_output h stream) NotWritable ∷ change_rejection c ∷ of_version)) (lt-leb (length (ids h)) stream is_there)
      ∙ ap (λ t. first_some (when t NotWritable ∷ change_rejection c ∷ of_version)) kind
      ∙ ap (λ o. first_some (when output NotWritable ∷ o ∷ of_version)) of_change

  -- The tests of a distillate.
  pub distillate-tests : (new : Reads) → stream < length (ids h) → (taken : Bool) → takes_reads h stream (spec_of h stream) new ≡ taken → (found : Option Rejection) → distillate_change_rejection c ≡ found → distillate_rejection h stream c new ≡ first_some (when (not taken) NotWritable ∷ found ∷ of_version)
  distillate-tests new is_there taken reads found of_change =
      ap (λ t. first_some (when t NoStream ∷ when (not (takes_reads h stream (spec_of h stream) new)) NotWritable ∷ distillate_change_rejection c ∷ of_version)) (lt-leb (length (ids h)) stream is_there)
      ∙ ap (λ t. first_some (when (not t) NotWritable ∷ distillate_change_rejection c ∷ of_version)) reads
      ∙ ap (λ o. first_some (when (not taken) NotWritable ∷ o ∷ of_version)) of_change

-- If a stream may have one version more, the next version is refused only for the points that it would have.
pub version-points : (h : List Entry) (stream : ℕ) (c : Change) → latest h stream < MAX_VERSIONS → version_rejection h stream c ≡ points_rejection (next_bag h stream c)
version-points h stream c few =
    ap (λ t. first_some (when t VersionLimit ∷ points_rejection (next_bag h stream c) ∷ [])) (lt-leb MAX_VERSIONS (latest h stream) few)
    ∙ last_some (points_rejection (next_bag h stream c))

-- The points of a commit, and of a distillate, that passes the tests of its change lie in the domain.
pub change-times : (c : Change) → change_rejection c ≡ None → AreInDomain c.added
change-times c h = none_out_of_domain c.added (map_none (λ (p : Point). OutOfDomain p.time) (first_out_of_domain c.added) (first_none _ _ h))

pub distillate-times : (c : Change) → distillate_change_rejection c ≡ None → AreInDomain c.added
distillate-times c h = none_out_of_domain c.added (map_none (λ (p : Point). OutOfDomain p.time) (first_out_of_domain c.added) (first_none _ _ h))

-- ---- the next version

-- A version that has the points of a change has at least as many.
pub after-many : (b : List Point) (c : Change) → length c.added ≤ length (after b c)
after-many b c =
    omega (arith, length-sort (outside b c.cut ++ c.added), length-append (outside b c.cut) c.added)

-- Each of these trees is that of some past.
pub past-at : (trees : List TreeValue) (place : ℕ) (t : TreeValue) → AllByRecursion HasPast trees → slice_get trees place ≡ Some t → HasPast t
past-at [] place t each at = absurd (cc)
past-at (u ∷ trees) zero t each at = let same : u ≡ t = cc in subst HasPast same each.0
past-at (u ∷ trees) (suc n) t each at = past-at trees n t each.1 at

module _ (h : List Entry) (stream : ℕ) (trees : List TreeValue) (kept : HasTrees h stream trees) where
  pub latest-is : (count : ℕ) → count ≡ length trees → count - 1 ≡ latest h stream
  latest-is count is = let counted = kept.counted in omega arith

  -- The last tree is that of the latest version.
  pub last-tree : (place : ℕ) (t : TreeValue) → place ≡ latest h stream → slice_get trees place ≡ Some t → IsTree (commits_to h stream (latest h stream)) t
  last-tree place t last at =
      let version = latest h stream in
      let here : slice_index_or trees version t ≡ t = ap (λ (v : ℕ). slice_index_or trees v t) (sym last) ∙ get_or_from_slice_get trees place t t at in
      subst (IsTree (commits_to h stream version)) here (kept.each version t (omega arith))

  module _ (c : Change) where
    abbrev pub next : ℕ → Past
    next version = made_by version c ▷ commits_to h stream (latest h stream)

    pub next-bag : (version : ℕ) → tree.bag (next version) ≡ next_bag h stream c
    next-bag version = ap (λ b. sort (outside b c.cut ++ c.added)) (bag-commits_to h stream (latest h stream))

    pub next-tree : (t : TreeValue) (version : ℕ) → version ≡ latest h stream + 1 → IsTree (next version) t → IsNextTree h stream c t
    next-tree t version same k = subst (λ v. IsTree (next v) t) same k

    module _ (few : latest h stream < MAX_VERSIONS) where
      by_points : version_rejection h stream c ≡ points_rejection (next_bag h stream c)
      by_points = version-points h stream c few

      pub next-allowed : (t : TreeValue) (version : ℕ) → IsTree (next version) t → HasNoCrowdedSpan FIRST END (tree.bag (next version)) → version_rejection h stream c ≡ None
      next-allowed t version k room =
          by_points ∙ ap points_rejection (sym (next-bag version)) ∙ room-allowed (tree.bag (next version)) k.times room k.few

      pub next-cause : (version : ℕ) (fault : PushFault) → PushCause (points_rejection (tree.bag (next version))) fault → PushCause (version_rejection h stream c) fault
      next-cause version fault k =
          subst (λ o. PushCause o fault) (ap points_rejection (next-bag version) ∙ sym by_points) k

    pub next-times : (t : TreeValue) (version : ℕ) → IsTree (commits_to h stream (latest h stream)) t → AreInDomain c.added → AreInDomain (tree.bag (next version))
    next-times t version k inside = each-after (λ p. InDomain p.time) (tree.bag (commits_to h stream (latest h stream))) c k.times inside

-- ---- results
