-- A device holds one store: two histories that it holds are one, with the same blocks, the same tail and the same roots of the entries.
use Rattle.std.specs.Prelude.{◌≡◌, ℕ, ◌+◌, ◌<◌, ◌≤◌, ◌^◌, List, length}
use Rattle.std.proofs.Common.{sym, ◌∙◌, ap, subst, arith}
use Rattle.btr_disk.specs.Bytes.{Image}
use Rattle.btr_disk.specs.Gate.{IsClosed}
use Rattle.btr_log.specs.Extents.{Extents, first_gate}
use Rattle.btr_log.proofs.ExtentLemmas.{Extents-one}
use Rattle.btr_super.specs.declared.superblock.Super.{Super}
use Rattle.btr_super.specs.Choose.{IsChosen}
use Rattle.btr_super.proofs.ChoiceLemmas.{one_chosen}
use Rattle.btr_hist.specs.declared.entry.Entry.{Entry}
use Rattle.btr_engine.specs.Body.{Prefix, prefix_to, no_extents, LeadTo}
use Rattle.btr_engine.specs.Roots.{IsRootOf}
use Rattle.btr_engine.specs.Holds.{HoldsHistoryTo}
use Rattle.btr_engine.proofs.BodyLemmas.{LeadTo-gate, LeadTo-one}

-- Two stores are one.
pub record AreOne (blocks tail : ℕ) (h : List Entry) (roots : List ℕ) (others end : ℕ) (k : List Entry) (more : List ℕ) : Type 0 where
  pub same_blocks : blocks ≡ others
  pub same_tail : tail ≡ end
  pub same_history : h ≡ k
  pub same_roots : roots ≡ more

module _ (size : ℕ) (image : Image) (blocks tail : ℕ) (h : List Entry) (x : HoldsHistoryTo size image blocks tail h) where
  -- The numbers of a history's entries fit eight bytes, and so does its tail.
  low : (length no_extents.entries + length x.bodies < 2 ^ 64) × (tail < 2 ^ 64)
  low =
      let long = LeadTo-gate IsRootOf no_extents x.bodies (prefix_to tail h x.leads.roots x.leads.pages) x.leads.lead in
      let limit : blocks ≤ 2 ^ 64 = omega (arith, x.same_blocks, x.chosen.stored.spelled.keeps.blocks_to) in
      (omega (arith, long, x.inside, limit), omega (arith, x.inside, limit))

  -- Another device with the same blocks and bytes has the same superblock.
  pub one_super : (other : ℕ) (read : Image) → size ≡ other → image ≡ read → (others end : ℕ) (k : List Entry) (y : HoldsHistoryTo other read others end k) → x.super ≡ y.super
  one_super other read sizes images others end k y =
      let chosen : IsChosen size image y.super =
      subst (λ (i : Image). IsChosen size i y.super) (sym images) (subst (λ (n : ℕ). IsChosen n read y.super) (sym sizes) y.chosen) in
      one_chosen size image x.super y.super x.chosen chosen

  -- It holds the same.
  pub one_store : (other : ℕ) (read : Image) → size ≡ other → image ≡ read → (others end : ℕ) (k : List Entry) (y : HoldsHistoryTo other read others end k) → AreOne blocks tail h x.leads.roots others end k y.leads.roots
  one_store other read sizes images others end k y =
      let extents : Extents image first_gate y.bodies end = subst (λ (i : Image). Extents i first_gate y.bodies end) (sym images) y.extents in
      let closed : IsClosed image end = subst (λ (i : Image). IsClosed i end) (sym images) y.closed in
      let supers : x.super ≡ y.super = one_super other read sizes images others end k y in
      let logs = Extents-one image first_gate x.bodies y.bodies tail end x.extents x.closed extents closed in
      let before : Prefix = prefix_to tail h x.leads.roots x.leads.pages in
      let after : Prefix = prefix_to end k y.leads.roots y.leads.pages in
      let leads : LeadTo IsRootOf no_extents x.bodies after = subst (λ l. LeadTo IsRootOf no_extents l after) (sym logs.0) y.leads.lead in
      let same : before ≡ after = LeadTo-one IsRootOf IsRootOf no_extents x.bodies before after low.0 low.1 x.leads.lead leads in
      record {
        same_blocks = sym x.same_blocks ∙ ap (λ (s : Super). s.blocks) supers ∙ y.same_blocks;
        same_tail = logs.1;
        same_history = ap (λ (p : Prefix). p.entries) same;
        same_roots = ap (λ (p : Prefix). p.roots) same;
      }
