-- Lemmas on the trees of the versions of a checkpoint.
use Rattle.std.specs.Prelude.{◌≡◌, ℕ, ◌+◌, ◌/◌, ◌<◌, List, [], ◌∷◌, ◌++◌, length, take, slice_get, Some, IfSome, IsSome}
use Rattle.std.proofs.Common.{refl, sym, subst, arith, inl, inr, length-append}
use Rattle.std.proofs.lemmas.List.{length-take-le}
use Rattle.std.proofs.lemmas.Option.{slice_get_within}
use Rattle.btr_tree.specs.History.{Opened}
use Rattle.btr_tree.specs.Root.{TreeValue}
use Rattle.btr_tree.proofs.RootLemmas.{opened-whole}
use Rattle.btr_tree.specs.PageNodes.{Pages}
use Rattle.btr_pages.specs.Pages.{HasRootPage}
use Rattle.btr_pages.specs.Known.{KnownValue, TreesValue, ArePartOf, HasWholeTree, IsReadRoot, node_at}
use Rattle.btr_roll.specs.declared.roll.RollVersion.{RollVersion}
use Rattle.btr_roll.specs.Roll.{RollStreamValue}
use Rattle.btr_streams.specs.Board.{HasPast}
use Rattle.btr_open.specs.declared.opening.OpenCause.{OpenCause}
use Rattle.btr_open.specs.declared.opening.OpenCause.TheVariants.{Damaged}
use Rattle.btr_open.specs.Start.{place_of_root}
use Rattle.btr_open.specs.Checkpoint.{IsVersionTree, MayBeRootOf, IsWrongRootOf, AreFirstTrees, AreAllTrees, TreesCause}
use Rattle.btr_open.proofs.ListLemmas.{push-at, is-there, take-on}

-- ---- one tree

-- The tree that was made of the page of a root.
pub whole-root : (nodes : TreesValue) (root : ℕ) (t : TreeValue) → 0 < root → HasWholeTree nodes root → IfSome (node_at nodes root) (λ known. t ≡ known.tree) → ((pages : Pages) (stream version : ℕ) → ArePartOf pages nodes → IsSome (node_at nodes root) → HasRootPage pages stream version root → IsReadRoot pages stream version root t) → IsVersionTree nodes root t
whole-root nodes root t some whole same part =
    let is : t ≡ whole.known.tree = subst (λ o. IfSome o (λ (known : KnownValue). t ≡ known.tree)) whole.is same in
    let opened = whole.opened in
    record {
      past = subst HasPast (sym is) (Opened opened.0 opened.1, opened-whole opened.0 opened.1 whole.known.tree opened.2 (omega (arith, whole.height)));
      is = record {
        empty = λ none. absurd (omega (arith, none, some));
        read = λ above pages stream version are there has. part pages stream version are there has;
      };
      there = λ above. subst IsSome (sym whole.is) refl;
    }

-- ---- the trees of a stream

module _ (nodes : TreesValue) (stream : ℕ) (vs : List RollVersion) (trees : List TreeValue) (so_far : AreFirstTrees nodes stream vs trees) (v : RollVersion) (t : TreeValue) (is : IsVersionTree nodes v.root t) (may : MayBeRootOf nodes stream (length vs + 1) v.root) where
  pub first-trees-more : AreFirstTrees nodes stream (vs ++ v ∷ []) (trees ++ t ∷ [])
  first-trees-more = record {
    counted = omega (arith, so_far.counted, length-append vs (v ∷ []), length-append trees (t ∷ []));
    first = λ u at.
        elim (push-at trees t 0 u at) [
          | inl here ↦ so_far.first u here
          | inr last ↦ let none = last.0 in absurd (omega (arith, none, so_far.counted))
        ];
    others = λ k w u version at.
        elim (push-at vs v k w version) [
          | inl here ↦ elim (push-at trees t (k + 1) u at) [
            | inl there ↦ so_far.others k w u here there
            | inr last ↦
                let end = last.0 in
                absurd (omega (arith, end, so_far.counted, slice_get_within vs k w here))
          ]
          | inr last ↦ elim (push-at trees t (k + 1) u at) [
            | inl there ↦
                let end = last.0 in
                absurd (omega (arith, end, so_far.counted, slice_get_within trees (k + 1) u there))
            | inr top ↦ subst (IsVersionTree nodes w.root) top.1 (subst (λ (x : RollVersion). IsVersionTree nodes x.root t) last.1 is)
          ]
        ];
    may = λ k w version.
        elim (push-at vs v k w version) [
          | inl here ↦ so_far.may k w here
          | inr last ↦ subst (λ n. MayBeRootOf nodes stream (n + 1) w.root) (sym last.0) (subst (λ (x : RollVersion). MayBeRootOf nodes stream (length vs + 1) x.root) last.1 may)
        ];
  }

-- ---- the trees of all streams

pub all-trees-more : (nodes : TreesValue) (roll : List RollStreamValue) (trees : List (List TreeValue)) (s : RollStreamValue) (ts : List TreeValue) → AreAllTrees nodes roll trees → AreFirstTrees nodes (length roll) s.versions ts → AreAllTrees nodes (roll ++ s ∷ []) (trees ++ ts ∷ [])
all-trees-more nodes roll trees s ts so_far is = record {
  counted = omega (arith, so_far.counted, length-append roll (s ∷ []), length-append trees (ts ∷ []));
  each = λ stream r us at there.
      elim (push-at roll s stream r at) [
        | inl here ↦ elim (push-at trees ts stream us there) [
          | inl old ↦ so_far.each stream r us here old
          | inr last ↦
              let end = last.0 in
              absurd (omega (arith, end, so_far.counted, slice_get_within roll stream r here))
        ]
        | inr last ↦ elim (push-at trees ts stream us there) [
          | inl old ↦
              let end = last.0 in
              absurd (omega (arith, end, so_far.counted, slice_get_within trees stream us old))
          | inr top ↦
              subst (λ n. AreFirstTrees nodes n r.versions us) (sym last.0)
              (subst (AreFirstTrees nodes (length roll) r.versions) top.1 (subst (λ (x : RollStreamValue). AreFirstTrees nodes (length roll) x.versions ts) last.1 is))
        ]
      ];
}

-- ---- the damage

-- A version with a wrong root is named.
pub names-wrong : (nodes : TreesValue) (limit format : ℕ) (streams : List RollStreamValue) (number k : ℕ) (s : RollStreamValue) (v : RollVersion) (cause : OpenCause) → slice_get streams number ≡ Some s → slice_get s.versions k ≡ Some v → IsWrongRootOf nodes limit number (k + 1) v.root → cause ≡ Damaged (limit + 1 + (64 + place_of_root format streams number s k) / 4096) → TreesCause nodes limit format streams cause
names-wrong nodes limit format streams number k s v cause there at wrong is =
    subst (TreesCause nodes limit format streams) (sym is) (record {
      stream = number;
      k = k;
      v = v;
      at = record { its = s; there = there; is = at };
      wrong = wrong;
      named = refl;
    })

-- The trees of one stream more.
pub trees-on : (nodes : TreesValue) (streams : List RollStreamValue) (number : ℕ) (trees after : List (List TreeValue)) (ts : List TreeValue) → AreAllTrees nodes (take number streams) trees → number < length streams → ((s : RollStreamValue) → slice_get streams number ≡ Some s → AreFirstTrees nodes number s.versions ts) → after ≡ trees ++ ts ∷ [] → AreAllTrees nodes (take (number + 1) streams) after
trees-on nodes streams number trees after ts so_far low its is =
    let s = is-there streams number low in
    let size : number ≡ length (take number streams) = sym (length-take-le number streams (omega (arith, low))) in
    let more = all-trees-more nodes (take number streams) trees s.0 ts so_far (subst (λ n. AreFirstTrees nodes n s.0.versions ts) size (its s.0 s.1)) in
    subst (λ l. AreAllTrees nodes l after) (sym (take-on streams number s.0 s.1)) (subst (AreAllTrees nodes (take number streams ++ s.0 ∷ [])) (sym is) more)
