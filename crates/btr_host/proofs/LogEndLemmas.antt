-- Lemmas on the last gate of a log.
use Rattle.std.specs.Prelude.{◌≡◌, ℕ, ◌+◌, ◌*◌, ◌<◌, ◌≤◌, ◌⊎◌, List, [], ◌∷◌, ◌++◌, length, take, drop}
use Rattle.std.proofs.Common.{refl, sym, ◌∙◌, ap, subst, inl, inr, arith, length-drop}
use Rattle.std.proofs.lemmas.List.{length-take-le, take-append-drop}
use Rattle.btr_disk.specs.Bytes.{Image, Has, Same}
use Rattle.btr_disk.specs.declared.disk.Disk.{Ghosts}
use Rattle.btr_disk.specs.Causes.{KeepsCounts}
use Rattle.btr_disk.specs.Moments.{WroteNothing}
use Rattle.btr_disk.specs.Gate.{mark}
use Rattle.btr_disk.proofs.ByteLemmas.{Has-append, Has-take, Has-one, Has-Same, Same-sym}
use Rattle.btr_log.specs.declared.head.Head.{Head}
use Rattle.btr_log.specs.Head.{head_bytes, Spells, IsNoHead}
use Rattle.btr_log.specs.Found.{SpellsAt}
use Rattle.btr_log.proofs.HeadLemmas.{length-head_bytes, head_bytes-one}
use Rattle.btr_disk.proofs.MomentLemmas.{nothing_composes}
use Rattle.btr_host.specs.LogEnd.{Leads, LeadsNowhere, LeadsAlong, IsLastGate}

-- So far the gates lead from `start` to `last`, and this leads to `gate`; or both are `start`.
pub record LeadsSoFar (image : Image) (start last gate : ℕ) : Type 0 where
  pub path : List ℕ
  pub along : LeadsAlong image start path last
  pub to_gate : ((path ≡ []) × (last ≡ gate)) ⊎ Leads image last gate

-- one gate more
pub LeadsAlong-push : (image : Image) (start : ℕ) (path : List ℕ) (last gate : ℕ) → LeadsAlong image start path last → Leads image last gate → LeadsAlong image start (path ++ gate ∷ []) gate
LeadsAlong-push image start [] last gate same leads =
    (subst (λ g. Leads image g gate) (sym same) leads, refl)
LeadsAlong-push image start (next ∷ rest) last gate along leads =
    (along.0, LeadsAlong-push image next rest last gate along.1 leads)

-- the next gate of a walk
pub LeadsSoFar-push : (image : Image) (start last gate next : ℕ) → LeadsSoFar image start last gate → Leads image gate next → LeadsSoFar image start gate next
LeadsSoFar-push image start last gate next so_far leads =
    elim so_far.to_gate [
      | inl none ↦ record {
        path = [];
        along = subst (λ p. LeadsAlong image start p gate) none.0 (subst (LeadsAlong image start so_far.path) none.1 so_far.along);
        to_gate = inr leads;
      }
      | inr led ↦ record {
        path = so_far.path ++ gate ∷ [];
        along = LeadsAlong-push image start so_far.path last gate so_far.along led;
        to_gate = inr leads;
      }
    ]

-- both images agree
pub Leads-Same : (old new : Image) (gate next : ℕ) → Same old new → Leads old gate next → Leads new gate next
Leads-Same old new gate next same leads = record {
  is_open = Has-Same old new (4096 * gate) mark same leads.is_open;
  head = leads.head;
  spells = record {
    is_head = leads.spells.is_head;
    stored = Has-Same old new (4096 * (gate + 1)) (head_bytes leads.head) same leads.spells.stored;
  };
  follows = leads.follows;
}

module _ (image : Image) (gate : ℕ) (bytes : List ℕ) (size : length bytes ≡ 8192) (has : Has image (4096 * gate) bytes) where
  -- the block after the gate begins with these bytes
  Has-head : Has image (4096 * (gate + 1)) (take 64 (drop 4096 bytes))
  Has-head =
      let parts = Has-append image (4096 * gate) (take 4096 bytes) (drop 4096 bytes) (subst (Has image (4096 * gate)) (sym (take-append-drop 4096 bytes)) has) in
      let le : 4096 ≤ length bytes = omega arith in
      let place : 4096 * gate + length (take 4096 bytes) ≡ 4096 * (gate + 1) = omega (arith, length-take-le 4096 bytes le) in
      Has-take image (4096 * (gate + 1)) 64 (drop 4096 bytes) (subst (λ a. Has image a (drop 4096 bytes)) place parts.1)

  length-head : length (take 64 (drop 4096 bytes)) ≡ 64
  length-head =
      let drops : length (drop 4096 bytes) ≡ 4096 = omega (arith, length-drop 4096 bytes) in
      length-take-le 64 (drop 4096 bytes) (omega arith)

  -- the head in the image is the one in the bytes
  spelled : (head : Head) → SpellsAt image (gate + 1) head → Spells (take 64 (drop 4096 bytes)) head
  spelled head at = record {
    is_head = at.is_head;
    spelling = Has-one image (4096 * (gate + 1)) (take 64 (drop 4096 bytes)) (head_bytes head) (length-head ∙ sym (length-head_bytes head)) Has-head at.stored;
  }

  pub leads_by_head : (head : Head) → take 8 bytes ≡ mark → Spells (take 64 (drop 4096 bytes)) head → Leads image gate (gate + head.n + 1)
  leads_by_head head begins spells = record {
    is_open = subst (Has image (4096 * gate)) begins (Has-take image (4096 * gate) 8 bytes has);
    head = head;
    spells = record {
      is_head = spells.is_head;
      stored = subst (Has image (4096 * (gate + 1))) spells.spelling Has-head;
    };
    follows = refl;
  }

  module _ (blocks : ℕ) where
    pub nowhere_closed : (take 8 bytes ≡ mark → ⊥) → LeadsNowhere image blocks gate
    nowhere_closed closed next inside leads =
        let size8 : length (take 8 bytes) ≡ 8 = length-take-le 8 bytes (omega arith) in
        closed (Has-one image (4096 * gate) (take 8 bytes) mark size8 (Has-take image (4096 * gate) 8 bytes has) leads.is_open)

    pub nowhere_headless : IsNoHead (take 64 (drop 4096 bytes)) → LeadsNowhere image blocks gate
    nowhere_headless none next inside leads = none leads.head (spelled leads.head leads.spells)

    pub nowhere_full : (head : Head) → Spells (take 64 (drop 4096 bytes)) head → blocks ≤ gate + head.n + 1 → LeadsNowhere image blocks gate
    nowhere_full head spells much next inside leads =
        let other = spelled leads.head leads.spells in
        let same : leads.head ≡ head = head_bytes-one leads.head head other.is_head spells.is_head (sym other.spelling ∙ spells.spelling) in
        let n : leads.head.n ≡ head.n = ap (λ h. h.n) same in
        absurd (omega (arith, leads.follows, n))

-- a gate in the last block
pub nowhere_last : (image : Image) (blocks gate : ℕ) → gate + 1 ≡ blocks → LeadsNowhere image blocks gate
nowhere_last image blocks gate last next inside leads = absurd (omega (arith, leads.follows))

-- The walk over a log from `start` on has come from the device `old` to this device, and to these gates.
pub record IsWalked {D : Type 0} (disk : Ghosts D) (start blocks : ℕ) (old now : D) (last gate : ℕ) : Type 0 where
  pub counts : KeepsCounts disk.size disk.calls disk.faults old now
  pub unwritten : disk.is_observable → WroteNothing disk.calls disk.contents disk.images_now disk.images_since old now
  pub last_inside : last < blocks
  pub gate_inside : gate < blocks
  pub blocks_inside : blocks ≤ disk.size now
  pub leads : disk.is_observable → LeadsSoFar (disk.contents old) start last gate

module _ {D : Type 0} (disk : Ghosts D) (start blocks : ℕ) (old mid new : D) (last gate : ℕ) (walked : IsWalked disk start blocks old mid last gate) where
  -- one step more
  pub walked-next : KeepsCounts disk.size disk.calls disk.faults mid new → (disk.is_observable → WroteNothing disk.calls disk.contents disk.images_now disk.images_since mid new) → (next : ℕ) → next < blocks → (disk.is_observable → Leads (disk.contents mid) gate next) → IsWalked disk start blocks old new gate next
  walked-next counts unwritten next inside leads = record {
    counts = record {
      same_size = counts.same_size ∙ walked.counts.same_size;
      more_calls = omega (arith, walked.counts.more_calls, counts.more_calls);
      more_faults = omega (arith, walked.counts.more_faults, counts.more_faults);
    };
    unwritten = λ seen. nothing_composes disk.calls disk.images_since disk.contents disk.images_now old mid new (walked.unwritten seen) (unwritten seen);
    last_inside = walked.gate_inside;
    gate_inside = inside;
    blocks_inside = omega (arith, walked.blocks_inside, counts.same_size);
    leads = λ seen. LeadsSoFar-push (disk.contents old) start last gate next (walked.leads seen)
        (Leads-Same (disk.contents mid) (disk.contents old) gate next (Same-sym (disk.contents old) (disk.contents mid) (walked.unwritten seen).same) (leads seen));
  }

  -- the end of the walk
  pub walked-last : disk.is_observable → LeadsNowhere (disk.contents mid) blocks gate → IsLastGate (disk.contents old) blocks start last
  walked-last seen nowhere = record {
    path = (walked.leads seen).path;
    along = (walked.leads seen).along;
    end = gate;
    to_end = (walked.leads seen).to_gate;
    inside = walked.gate_inside;
    ends = λ next inside leads. nowhere next inside (Leads-Same (disk.contents old) (disk.contents mid) gate next (walked.unwritten seen).same leads);
  }
