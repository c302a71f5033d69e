-- What a device that holds a history has, as an opening sees it: where the reading of its log starts, what is before that, and that the bodies
-- after it lead on.
use Rattle.std.specs.Prelude.{◌≡◌, ℕ, ◌+◌, ◌^◌, ◌<◌, ◌≤◌, max, List, [], ◌∷◌, ◌++◌, length}
use Rattle.std.specs.List.{AllByRecursion}
use Rattle.std.proofs.Common.{refl, sym, ◌∙◌, ap, subst, inl, inr, arith, append_assoc, length-append, ⊎_elim}
use Rattle.btr_base.proofs.ListLemmas.{each-append}
use Rattle.btr_disk.specs.Bytes.{Image}
use Rattle.btr_log.specs.declared.head.Head.{Head}
use Rattle.btr_log.specs.Extents.{need, IsExtent, Extents, first_gate}
use Rattle.btr_log.proofs.ExtentLemmas.{Extents-push}
use Rattle.btr_node.specs.declared.page.NodePage.{NodePage}
use Rattle.btr_hist.specs.declared.entry.Entry.{Entry}
use Rattle.btr_hist.specs.Legal.{Follows}
use Rattle.btr_hist.proofs.HistoryLemmas.{follows-none, follows-prefix, follows-last}
use Rattle.btr_entry.specs.Grammar.{IsSpelled}
use Rattle.btr_entry.specs.Format.{format_of}
use Rattle.btr_roll.specs.Roll.{roll_bytes}
use Rattle.btr_engine.specs.Body.{Prefix, prefix_to, no_extents, pages_after, with_extent, with_checkpoint, IsBodyOf, MayStandUnder, needed_format, IsCheckpointOf, checkpoint_body, LeadTo}
use Rattle.btr_engine.specs.Holds.{IsMarked, HoldsHistoryTo}
use Rattle.btr_engine.specs.Mark.{body_of_roll}
use Rattle.btr_streams.specs.Outline.{refusal}
use Rattle.btr_streams.specs.Rolling.{roll_of}
use Rattle.btr_engine.specs.Roots.{IsRootOf}
use Rattle.btr_engine.proofs.BodyLemmas.{some-needed, needed-push, formats-rest, LeadTo-mark, LeadTo-split, LeadTo-length, LeadTo-roots, LeadTo-gate, LeadTo-one, kinds-apart}
use Rattle.btr_streams.proofs.RollFits.{roll-fits}
use Rattle.btr_open.specs.Reached.{Reached, with_entry, pages_with}
use Rattle.btr_open.specs.Below.{StandBelow}
use Rattle.btr_open.specs.Start.{HasRoll, IsCheckpointStart, IsReadingStart}
use Rattle.btr_open.specs.Walk.{FitsRoll, IsNextBody, IsCheckpointBody, LeadOn}
use Rattle.btr_open.proofs.ContentLemmas.{checkpoint-kind, has-roll}
use Rattle.btr_open.proofs.OutlineLemmas.{decide}
use Rattle.btr_open.proofs.HeldRolls.{roll-outline, roll-made, roll-next}
use Rattle.btr_open.proofs.HeldRoots.{follows-before, root-may-lead}
pub use Rattle.btr_open.proofs.HeldPages.{stand-held}
pub use Rattle.btr_open.proofs.HeldRoots.{roots-held}
pub use Rattle.btr_open.proofs.HeldTrees.{restored-held}

-- What is before the gate after a prefix, if a checkpoint may have this format at least by the entries that were read.
abbrev pub reached_with : ℕ → Prefix → Reached
reached_with least p =
    record { gate = p.gate; entries = length p.entries; roll = roll_of p.entries p.roots; pages = p.pages; least = least }

-- The same, if all entries were read.
abbrev pub reached_of : Prefix → Reached
reached_of p = reached_with (needed_format p.entries) p

-- ---- the body of a checkpoint

-- The body of a checkpoint after a history is that of its streams.
pub roll-body : (format : ℕ) (h : List Entry) (roots : List ℕ) → checkpoint_body format h roots ≡ body_of_roll format (length h) (roll_of h roots)
unfolding body_of_roll checkpoint_body
roll-body format h roots = refl

-- Each entry has a spelling, and each root fits in eight bytes.
abbrev Fit : Prefix → Type 0
Fit p = AllByRecursion IsSpelled p.entries × AllByRecursion (λ root. root < 2 ^ 64) p.roots

fit-on : (before : Prefix) (bodies : List (List ℕ)) (after : Prefix) → LeadTo IsRootOf before bodies after → Fit before → Fit after
fit-on before [] after leads fit = subst Fit leads fit
fit-on before (body ∷ bodies) after leads fit = elim leads [
  | inl x ↦
      fit-on (with_extent before x.0 x.1 x.2 body) bodies after x.5 (each-append IsSpelled before.entries (x.0 ∷ []) fit.0 (x.3.spelled, tt), each-append (λ root. root < 2 ^ 64) before.roots (x.1 ∷ []) fit.1 (x.3.low, tt))
  | inr x ↦ fit-on (with_checkpoint before body) bodies after x.1 fit
]

-- Each entry may stand in a log of the format that the entries need.
each-needed : (h : List Entry) (format : ℕ) → needed_format h ≤ format → AllByRecursion (λ e. format_of e ≤ format) h
each-needed [] format least = tt
each-needed (e ∷ h) format least = (omega (arith, least), each-needed h format (omega (arith, least)))

-- The body of a checkpoint of a history has the streams of the history, which a checkpoint can have.
pub roll-held : (bodies : List (List ℕ)) (p : Prefix) (body : List ℕ) → LeadTo IsRootOf no_extents bodies p → Follows p.entries → p.gate < 2 ^ 64 → IsCheckpointOf p body → HasRoll p.gate (length p.entries) (roll_of p.entries p.roots) body
roll-held bodies p body leads follows short is =
    let fit = fit-on no_extents bodies p leads (tt, tt) in
    let many = LeadTo-length IsRootOf no_extents bodies p leads in
    let far = LeadTo-gate IsRootOf no_extents bodies p leads in
    record {
      format = is.format;
      known = (omega (arith, some-needed p.entries, is.least), is.most);
      is_roll = roll-fits p.entries p.roots is.format follows fit.0 fit.1 (omega (arith, many, far, short)) (each-needed p.entries is.format is.least);
      bound = omega (arith, many, far);
      made = roll-made p.entries p.roots;
      room = is.room;
      bytes = is.bytes ∙ roll-body is.format p.entries p.roots;
    }

-- ---- the bodies lead on

-- The outline of the streams shows no reason why an accepted entry may not follow.
pub fits-roll : (h : List Entry) (roots : List ℕ) (e : Entry) → Follows (h ++ e ∷ []) → FitsRoll (roll_of h roots) e
fits-roll h roots e follows =
    ap (λ o. refusal o e) (roll-outline h roots)
    ∙ ((decide h e (follows-prefix h (e ∷ []) follows)).1.1 (follows-last h e follows)).outline

-- One extent more, with its entry, after a prefix whose entries have roots.
module _ (p : Prefix) (e : Entry) (root : ℕ) (pages : List NodePage) (body : List ℕ) (follows : Follows (p.entries ++ e ∷ [])) where
  pub reached-next : (least : ℕ) → length p.roots ≡ length p.entries → reached_with (max least (format_of e)) (with_extent p e root pages body) ≡ with_entry (reached_with least p) e root pages body
  reached-next least counted =
      let next = with_extent p e root pages body in
      let number = length-append p.entries (e ∷ []) in
      let roll = roll-next p.entries p.roots e root follows counted in
      λ i. record { gate = next.gate; entries = number i; roll = roll i; pages = next.pages; least = max least (format_of e) }

  pub reached-all : length p.roots ≡ length p.entries → reached_of (with_extent p e root pages body) ≡ with_entry (reached_of p) e root pages body
  reached-all counted =
      ap (λ n. reached_with n (with_extent p e root pages body)) (needed-push p.entries e) ∙ reached-next (needed_format p.entries) counted

  pub body-next : (least : ℕ) → IsBodyOf p e root pages body → IsRootOf (pages_after p e pages) p.entries e root pages → IsNextBody (reached_with least p) e root pages body
  body-next least is leads = record {
    spelled = is.spelled;
    fits = is.fits;
    rightly = is.rightly;
    low = is.low;
    may_have = is.may_have;
    bytes = is.bytes;
    may_lead = root-may-lead (pages_with (reached_with least p) e pages) p.entries p.roots e root pages follows leads;
    allowed = fits-roll p.entries p.roots e follows;
  }

-- The body of a checkpoint of a prefix is one of what is before its gate.
pub mark-body : (p : Prefix) (body : List ℕ) (least : ℕ) → least ≤ needed_format p.entries → IsCheckpointOf p body → IsCheckpointBody (reached_with least p) body
mark-body p body least few is = record {
  format = is.format;
  from = (omega (arith, some-needed p.entries, is.least), omega (arith, few, is.least));
  most = is.most;
  room = is.room;
  bytes = is.bytes ∙ roll-body is.format p.entries p.roots;
}

-- What is before the gate after a prefix, of whose entries some were read or none.
abbrev pub LeadsFrom : ℕ → Prefix → List (List ℕ) → Prefix → Type 0
LeadsFrom least p bodies q = (other : ℕ) × LeadOn (reached_with least p) bodies (reached_with other q)

lead-from : (least : ℕ) (p : Prefix) (bodies : List (List ℕ)) (q : Prefix) → least ≤ needed_format p.entries → length p.roots ≡ length p.entries → LeadTo IsRootOf p bodies q → Follows q.entries → LeadsFrom least p bodies q
lead-from least p [] q few counted leads follows = (least, ap (reached_with least) leads)
lead-from least p (body ∷ bodies) q few counted leads follows = elim leads [
  | inl x ↦
      let next = with_extent p x.0 x.1 x.2 body in
      let here : Follows (p.entries ++ x.0 ∷ []) = follows-before next bodies q x.5 follows in
      let then = max least (format_of x.0) in
      let rest = lead-from then next bodies q (omega (arith, few, needed-push p.entries x.0)) (omega (arith, counted, length-append p.entries (x.0 ∷ []), length-append p.roots (x.1 ∷ []))) x.5 follows in (
        rest.0,
        inl (
          x.0,
          x.1,
          x.2,
          body-next p x.0 x.1 x.2 body here least x.3 x.4,
          subst (λ r. LeadOn r bodies (reached_with rest.0 q)) (reached-next p x.0 x.1 x.2 body here least counted) rest.1,
        ),
      )
  | inr x ↦
      let rest = lead-from least (with_checkpoint p body) bodies q few counted x.1 follows in
      (rest.0, inr (mark-body p body least few x.0, rest.1))
]

-- Bodies that lead from one part of a history to another lead on from what is before the first to what is before the other.
pub lead-on : (p q : Prefix) (bodies some : List (List ℕ)) → LeadTo IsRootOf no_extents some p → LeadTo IsRootOf p bodies q → Follows q.entries → q.gate < 2 ^ 64 → LeadsFrom 1 p bodies q
lead-on p q bodies some leads more follows short =
    lead-from 1 p bodies q (some-needed p.entries) (LeadTo-roots IsRootOf no_extents some p leads refl) more follows

-- ---- where the reading starts

-- The reading of the log of a history starts at the gate after a part of it: the part that is before the gate that the superblock names. The
-- bodies after it lead on to the history.
pub record IsStartOf {size : ℕ} {image : Image} {blocks tail : ℕ} {h : List Entry} (holds : HoldsHistoryTo size image blocks tail h) (at : Prefix) : Type 0 where
  pub before : List (List ℕ)
  pub after : List (List ℕ)
  pub parts : holds.bodies ≡ before ++ after
  pub leads : LeadTo IsRootOf no_extents before at
  pub more : LeadTo IsRootOf at after (prefix_to tail h holds.leads.roots holds.leads.pages)
  pub extents : Extents image at.gate after tail
  pub gate : at.gate ≡ holds.super.tail
  pub starts : IsReadingStart image holds.super (reached_with 1 at)
  pub stand : StandBelow image at.gate at.pages
  pub follows : Follows at.entries

-- The first extents, and the others.
Extents-split : (image : Image) (gate : ℕ) (first others : List (List ℕ)) (tail : ℕ) → Extents image gate (first ++ others) tail → (mid : ℕ) × Extents image gate first mid × Extents image mid others tail
Extents-split image gate [] others tail extents = (gate, refl, extents)
Extents-split image gate (body ∷ first) others tail extents =
    let rest = Extents-split image (gate + need body) first others tail extents.1 in
    (rest.0, (extents.0, rest.1), rest.2)

-- Extents with bodies that lead to a prefix end at its gate.
extents-end : (image : Image) (before : Prefix) (bodies : List (List ℕ)) (after : Prefix) (tail : ℕ) → LeadTo IsRootOf before bodies after → Extents image before.gate bodies tail → tail ≡ after.gate
extents-end image before [] after tail leads extents = sym extents ∙ ap (λ (p : Prefix). p.gate) leads
extents-end image before (body ∷ bodies) after tail leads extents = elim leads [
  | inl x ↦ extents-end image (with_extent before x.0 x.1 x.2 body) bodies after tail x.5 extents.1
  | inr x ↦ extents-end image (with_checkpoint before body) bodies after tail x.1 extents.1
]

module _ (size : ℕ) (image : Image) (blocks tail : ℕ) (h : List Entry) (holds : HoldsHistoryTo size image blocks tail h) where
  -- The prefix with all entries.
  abbrev final : Prefix
  final = prefix_to tail h holds.leads.roots holds.leads.pages

  pub short : tail < 2 ^ 64
  short = omega (arith, holds.inside, holds.same_blocks, holds.chosen.stored.spelled.keeps.blocks_to)

  from-beginning : holds.super.checkpoint ≡ 0 → holds.super.tail ≡ first_gate → IsStartOf holds no_extents
  from-beginning none first = record {
    before = [];
    after = holds.bodies;
    parts = refl;
    leads = refl;
    more = holds.leads.lead;
    extents = holds.extents;
    gate = sym first;
    starts = inl (none, first, refl);
    stand = λ block low. tt;
    follows = follows-none;
  }

  module _ (m : IsMarked IsRootOf holds.bodies holds.super.checkpoint holds.super.tail) where
    -- The prefix up to the gate after the checkpoint.
    abbrev at : Prefix
    at = with_checkpoint m.log m.body

    pub on-log : LeadTo IsRootOf m.log (m.body ∷ m.after) final
    on-log =
        let split = LeadTo-split IsRootOf no_extents m.before (m.body ∷ m.after) final (subst (λ l. LeadTo IsRootOf no_extents l final) m.parts holds.leads.lead) in
        let mid = split.0 in
        let long = LeadTo-gate IsRootOf mid (m.body ∷ m.after) final split.2 in
        let longer = LeadTo-gate IsRootOf no_extents m.before mid split.1 in
        let place : mid ≡ m.log = LeadTo-one IsRootOf IsRootOf no_extents m.before mid m.log (omega (arith, long, longer, short)) (omega (arith, long, short)) split.1 m.leads in
        subst (λ (p : Prefix). LeadTo IsRootOf p (m.body ∷ m.after) final) place split.2

    pub on : LeadTo IsRootOf at m.after final
    on = elim on-log [ inl x ↦ absurd (kinds-apart m.log x.0 x.1 x.2 m.log m.body x.3 m.is) | inr x ↦ x.1 ]

    follows-log : Follows m.log.entries
    follows-log = follows-before m.log (m.body ∷ m.after) final on-log holds.follows

    short-log : m.log.gate < 2 ^ 64
    short-log = omega (arith, short, LeadTo-gate IsRootOf m.log (m.body ∷ m.after) final on-log)

    -- The extents before the checkpoint, that of the checkpoint, and those after it.
    abbrev Parts : ℕ → Type 0
    Parts gate = Extents image first_gate m.before gate × Extents image gate (m.body ∷ m.after) tail

    parts-of : Parts m.log.gate
    parts-of =
        let split = Extents-split image first_gate m.before (m.body ∷ m.after) tail (subst (λ l. Extents image first_gate l tail) m.parts holds.extents) in
        subst Parts (extents-end image no_extents m.before m.log split.0 m.leads split.1) (split.1, split.2)

    abbrev its-head : Head
    its-head = parts-of.1.0.0

    its-extent : IsExtent image m.log.gate m.body its-head
    its-extent = parts-of.1.0.1

    its-kind : its-head.kind ≡ 2
    its-kind =
        let small : its-head.kind < 2 ^ 32 = ⊎_elim (λ e. let kind = e.0 in omega (arith, kind)) (λ c. let kind = c.0 in omega (arith, kind)) its-extent.is_body.spells.is_head.kind in
        checkpoint-kind (needed_format m.log.entries) (length m.log.entries) (λ format. roll_bytes format (roll_of m.log.entries m.log.roots)) m.body its-head (has-roll m.log m.body m.is) its-extent.is_body.spells.spelling small

    gate-is : at.gate ≡ holds.super.tail
    gate-is = ap (λ g. g + need m.body) (sym m.gate) ∙ sym m.next

    under-limit : MayStandUnder holds.super.format m.body
    under-limit =
        (formats-rest holds.super.format m.before (m.body ∷ m.after) (subst (AllByRecursion (MayStandUnder holds.super.format)) m.parts holds.formats)).0

    starts : IsCheckpointStart image holds.super (reached_with 1 at)
    starts =
        let stand = stand-held image m.before m.log m.leads parts-of.0 in
        record {
          body = m.body;
          extent = record { head = its-head; extent = subst (λ g. IsExtent image g m.body its-head) (sym m.gate) its-extent; kind = its-kind; next = m.next };
          has = subst (λ g. HasRoll g (length m.log.entries) (roll_of m.log.entries m.log.roots) m.body) (sym m.gate) (roll-held m.before m.log m.body m.leads follows-log short-log m.is);
          under = under-limit;
          gate = gate-is;
          least = refl;
          stand = subst (λ g. StandBelow image g m.log.pages) (sym m.gate) stand.0;
          beyond = λ block high. stand.1 block (omega (arith, high, m.gate));
          roots = roots-held m.before m.log m.leads follows-log;
        }

    from-checkpoint : IsStartOf holds at
    from-checkpoint =
        let leads = LeadTo-mark IsRootOf no_extents m.before m.log m.body m.leads m.is in
        let extents = Extents-push image first_gate m.before m.log.gate m.body its-head parts-of.0 its-extent in
        record {
          before = m.before ++ m.body ∷ [];
          after = m.after;
          parts = m.parts ∙ sym (append_assoc m.before (m.body ∷ []) m.after);
          leads = leads;
          more = on;
          extents = parts-of.1.1;
          gate = gate-is;
          starts = inr (omega (arith, m.gate, LeadTo-gate IsRootOf no_extents m.before m.log m.leads), starts);
          stand = (stand-held image (m.before ++ m.body ∷ []) at leads extents).0;
          follows = follows-log;
        }

-- The reading of the log of a history starts at the gate after a part of it.
pub start-held : (size : ℕ) (image : Image) (blocks tail : ℕ) (h : List Entry) (holds : HoldsHistoryTo size image blocks tail h) → (at : Prefix) × IsStartOf holds at
start-held size image blocks tail h holds = elim holds.starts [
  | inl first ↦ (no_extents, from-beginning size image blocks tail h holds first.0 first.1)
  | inr m ↦ (with_checkpoint m.log m.body, from-checkpoint size image blocks tail h holds m)
]
