-- Lemmas on the blocks that entries need: those of lists, and the most that an entry needs.
use Rattle.std.specs.Prelude.{◌≡◌, ◌+◌, ◌≤◌, List, [], ◌∷◌, ◌++◌, length}
use Rattle.std.proofs.Common.{refl, sym, ap, subst, arith, append_assoc}
use Rattle.std.proofs.lemmas.List.{append-nil}
use Rattle.btr_base.specs.Commit.{Change}
use Rattle.btr_base.specs.declared.limits.TheConstants.{FIRST}
use Rattle.btr_tree.specs.History.{nothing, IsBefore}
use Rattle.btr_tree.specs.NewNodes.{new_nodes}
use Rattle.btr_tree.specs.Nodes.{above_root}
use Rattle.btr_tree.proofs.NewNodeCountLemmas.{new_nodes-bound}
use Rattle.btr_hist.specs.declared.entry.Entry.{Entry}
use Rattle.btr_hist.specs.declared.entry.Entry.TheVariants.{Create, Define, Commit, Distillate, Retire}
use Rattle.btr_hist.specs.History.{commits}
use Rattle.btr_streams.specs.Past.{with_commits}
use Rattle.btr_engine.specs.Body.{node_blocks, need_of, needs_after, needs_of, most_nodes, most_need_of}
use Rattle.btr_streams.proofs.BoardTrees.{made_by, with_commits-push, before-with_commits, before-nothing}

-- The blocks of some entries, and then of others.
pub needs_after-append : (before a b : List Entry) → needs_after before (a ++ b) ≡ needs_after before a + needs_after (before ++ a) b
needs_after-append before [] b =
    let same : needs_after before b ≡ needs_after (before ++ []) b = ap (λ k. needs_after k b) (sym (append-nil before)) in
    omega (arith, same)
needs_after-append before (e ∷ a) b =
    let rest = needs_after-append (before ++ e ∷ []) a b in
    let place : needs_after ((before ++ e ∷ []) ++ a) b ≡ needs_after (before ++ e ∷ a) b = ap (λ k. needs_after k b) (append_assoc before (e ∷ []) a) in
    omega (arith, rest, place)

pub needs-append : (h more : List Entry) → needs_of (h ++ more) ≡ needs_of h + needs_after h more
needs-append h more = needs_after-append [] h more

pub needs-push : (h : List Entry) (e : Entry) → needs_of (h ++ e ∷ []) ≡ needs_of h + need_of h e
needs-push h e = omega (arith, needs-append h (e ∷ []))

-- Entries need at least as many blocks as the first of them.
pub needs-part : (h more : List Entry) → needs_of h ≤ needs_of (h ++ more)
needs-part h more = omega (arith, needs-append h more)

-- A commit has no more node blocks than a tree may have new nodes.
pub few_nodes : (past : List Change) (c : Change) → node_blocks past c ≤ most_nodes (length c.added) (length c.cut)
unfolding node_blocks
few_nodes past c =
    let before = with_commits 0 nothing past in
    let next : 0 + length past + 1 ≡ length past + 1 = omega arith in
    let older : IsBefore (length past + 1) before = subst (λ v. IsBefore v before) next (before-with_commits 0 nothing past before-nothing) in
    let bound = new_nodes-bound FIRST above_root before (made_by (0 + length past + 1) c) (length past + 1) refl (omega arith) older in
    subst (λ h. length (new_nodes 10 FIRST above_root h (length past + 1)) ≤ most_nodes (length c.added) (length c.cut)) (sym (with_commits-push 0 nothing past c)) bound

-- No entry needs more than the most that it may need.
pub need-most : (h : List Entry) (e : Entry) → need_of h e ≤ most_need_of e
need-most h (Create id) = omega arith
need-most h (Define id spec) = omega arith
need-most h (Retire stream first) = omega arith
need-most h (Commit stream cut added) = omega (arith, few_nodes (commits h stream) (record { cut = cut; added = added }))
need-most h (Distillate stream cut added reads) = omega (arith, few_nodes (commits h stream) (record { cut = cut; added = added }))
