-- Lemmas on one extent more of a log that is read: what was read up to the gate after it, and which block of it breaks the format.
use Rattle.std.specs.Prelude.{◌≡◌, ℕ, ◌+◌, ◌*◌, ◌<◌, ◌≤◌, false, List, [], ◌∷◌, ◌++◌}
use Rattle.std.proofs.Common.{refl, sym, ◌∙◌, ap, subst, arith, inl, inr, append_assoc}
use Rattle.std.proofs.lemmas.List.{append-nil}
use Rattle.btr_disk.specs.Bytes.{Image}
use Rattle.btr_disk.specs.Gate.{IsOpen}
use Rattle.btr_log.specs.declared.head.Head.{Head}
use Rattle.btr_log.specs.Extents.{need, IsExtent, Extents, first_gate}
use Rattle.btr_log.proofs.ExtentLemmas.{IsBody-one}
use Rattle.btr_super.specs.declared.superblock.Super.{Super}
use Rattle.btr_super.specs.Super.{has_seal, IsSuper}
use Rattle.btr_hist.specs.declared.entry.Entry.{Entry}
use Rattle.btr_hist.specs.Legal.{Follows}
use Rattle.btr_hist.proofs.HistoryLemmas.{follows-prefix}
use Rattle.btr_engine.specs.Body.{Prefix, prefix_to, no_extents, with_extent, with_checkpoint, LeadTo}
use Rattle.btr_engine.specs.Roots.{IsRootOf}
use Rattle.btr_engine.specs.Holds.{HoldsHistoryTo}
use Rattle.btr_engine.proofs.BodyLemmas.{LeadTo-append, LeadTo-split}
use Rattle.btr_open.specs.declared.loading.Loader.{Loader}
use Rattle.btr_open.specs.Content.{MayHeadStand}
use Rattle.btr_open.specs.Reached.{with_other_pages}
use Rattle.btr_open.specs.Below.{StandBelow}
use Rattle.btr_open.specs.declared.judge.Judge.{Ghosts as Judging}
use Rattle.btr_open.specs.Walk.{IsDamagedGate, IsDamagedNextBy}
use Rattle.btr_open.specs.Seen.{Lets, IsDamagedLogBy}
use Rattle.btr_open.specs.Reading.{IsPartRead, IsJudgedRead}
use Rattle.btr_open.specs.Loading.{ReadsBody, BreaksAfter}
use Rattle.btr_open.proofs.HeldLemmas.{stand-held}
use Rattle.btr_open.proofs.WalkLemmas.{KeepingWalk, lead-plain, lead-gate, lead-below, stand-same, walk-wider, walk-push}

-- ---- the extents of a history

-- The first extents of some.
extents-first : (image : Image) (gate : ℕ) (bodies more : List (List ℕ)) (tail : ℕ) → Extents image gate (bodies ++ more) tail → (mid : ℕ) × Extents image gate bodies mid
extents-first image gate [] more tail extents = (gate, refl)
extents-first image gate (body ∷ bodies) more tail extents =
    let rest = extents-first image (gate + need body) bodies more tail extents.1 in
    (rest.0, (extents.0, rest.1))

-- Extents lead to the gate to which their bodies lead.
gate-of : (image : Image) (gate : ℕ) (bodies : List (List ℕ)) (tail : ℕ) (before after : Prefix) → Extents image gate bodies tail → before.gate ≡ gate → LeadTo IsRootOf before bodies after → tail ≡ after.gate
gate-of image gate [] tail before after extents at leads = sym extents ∙ sym at ∙ ap (λ (p : Prefix). p.gate) leads
gate-of image gate (body ∷ bodies) tail before after extents at leads =
    let next : before.gate + need body ≡ gate + need body = ap (λ g. g + need body) at in
    elim leads [
      | inl x ↦ gate-of image (gate + need body) bodies tail (with_extent before x.0 x.1 x.2 body) after extents.1 next x.5
      | inr x ↦ gate-of image (gate + need body) bodies tail (with_checkpoint before body) after extents.1 next x.1
    ]

-- Bodies lead on from the entries before them.
lead-on-from : (before : Prefix) (bodies : List (List ℕ)) (after : Prefix) → LeadTo IsRootOf before bodies after → (more : List Entry) × (before.entries ++ more ≡ after.entries)
lead-on-from before [] after leads = ([], append-nil before.entries ∙ ap (λ (p : Prefix). p.entries) leads)
lead-on-from before (body ∷ bodies) after leads = elim leads [
  | inl x ↦
      let rest = lead-on-from (with_extent before x.0 x.1 x.2 body) bodies after x.5 in
      (x.0 ∷ rest.0, sym (append_assoc before.entries (x.0 ∷ []) rest.0) ∙ rest.1)
  | inr x ↦ lead-on-from (with_checkpoint before body) bodies after x.1
]

-- The gate after one body.
gate-after : (before : Prefix) (body : List ℕ) (after : Prefix) → LeadTo IsRootOf before (body ∷ []) after → after.gate ≡ before.gate + need body
gate-after before body after leads = elim leads [
  | inl x ↦ ap (λ (p : Prefix). p.gate) (sym x.5)
  | inr x ↦ ap (λ (p : Prefix). p.gate) (sym x.1)
]

-- What stands rightly below a block does so below a lower one.
pub stand-lower : (image : Image) (limit gate : ℕ) (before : Prefix) → limit ≤ gate → StandBelow image gate before.pages → StandBelow image limit before.pages
stand-lower image limit gate before high stand block low = stand block (omega (arith, low, high))

-- ---- one extent more of a history

module _ {J : Type 0} (by : Judging J) (size : ℕ) (image : Image) (limit gate : ℕ) (high : limit ≤ gate) (body : List ℕ) (head : Head) (extent : IsExtent image gate body head) (old new : Loader) (before after : J) (reads : ReadsBody by image limit gate body old new before after) where
  module _ (blocks tail : ℕ) (h : List Entry) (holds : HoldsHistoryTo size image blocks tail h) (part : IsPartRead holds gate old) where
    abbrev end : Prefix
    end = prefix_to tail h holds.leads.roots holds.leads.pages

    -- The extents to the gate after the body.
    all-extents : (rest : List (List ℕ)) (after : Prefix) → holds.bodies ≡ (part.before ++ body ∷ []) ++ rest → LeadTo IsRootOf no_extents (part.before ++ body ∷ []) after → Extents image first_gate (part.before ++ body ∷ []) after.gate
    all-extents rest after parts leads =
        let bodies = part.before ++ body ∷ [] in
        let first = extents-first image first_gate bodies rest tail (subst (λ bs. Extents image first_gate bs tail) parts holds.extents) in
        subst (Extents image first_gate bodies) (gate-of image first_gate bodies first.0 no_extents after first.1 refl leads) first.1

    one-more : (rest : List (List ℕ)) (after : Prefix) → holds.bodies ≡ (part.before ++ body ∷ []) ++ rest → LeadTo IsRootOf part.log (body ∷ []) after → LeadTo IsRootOf after rest end → Extents image (gate + need body) rest tail → IsPartRead holds (gate + need body) new
    one-more rest after parts leads more extents =
        let on = lead-on-from after rest end more in
        let follows : Follows after.entries = follows-prefix after.entries on.0 (subst Follows (sym on.1) holds.follows) in
        let all = LeadTo-append IsRootOf no_extents part.before part.log (body ∷ []) after part.leads leads in
        let at : after.gate ≡ gate + need body = gate-after part.log body after leads ∙ ap (λ g. g + need body) part.at in
        record {
          before = part.before ++ body ∷ [];
          rest = rest;
          parts = parts;
          log = after;
          at = at;
          leads = all;
          more = more;
          extents = extents;
          stand = subst (λ g. StandBelow image g after.pages) at (stand-held image (part.before ++ body ∷ []) after all (all-extents rest after parts all)).0;
          stored = reads.stored part.log after part.at part.stored (stand-lower image limit gate part.log high part.stand) leads follows;
        }

    next-of : (rest : List (List ℕ)) → holds.bodies ≡ part.before ++ rest → LeadTo IsRootOf part.log rest end → Extents image gate rest tail → IsPartRead holds (gate + need body) new
    next-of [] parts more extents = absurd (holds.closed (subst (IsOpen image) extents extent.is_open))
    next-of (b ∷ rest) parts more extents =
        let there = extents.0 in
        let same : b ≡ body = IsBody-one image (4096 * (gate + 1)) b body there.0 head there.1.is_body extent.is_body there.1.stored extent.stored in
        let split = LeadTo-split IsRootOf part.log (b ∷ []) rest end more in
        one-more rest split.0 (parts ∙ ap (λ (x : List ℕ). part.before ++ x ∷ rest) same ∙ sym (append_assoc part.before (body ∷ []) rest)) (subst (λ x. LeadTo IsRootOf part.log (x ∷ []) split.0) same split.1) split.2 (subst (λ x. Extents image (gate + need x) rest tail) same extents.1)

    part-next : IsPartRead holds (gate + need body) new
    part-next = next-of part.rest part.parts part.more part.extents

-- ---- one extent more of a log

-- The checkpoint of a superblock is before the gates after its tail.
pub start-low : (size : ℕ) (s : Super) (gate : ℕ) → IsSuper size s → s.tail ≤ gate → s.checkpoint ≤ gate
start-low size s gate table behind = elim table.start [
  | inl first ↦ let none = first.0 in omega (arith, none)
  | inr after ↦ let low = after.1 in omega (arith, low, behind)
]

module _ {J : Type 0} (by : Judging J) (size : ℕ) (image : Image) (found : Super) (gate : ℕ) (old : Loader) (before : J) (its : IsJudgedRead by size image found gate old before) where
  its-walk : KeepingWalk by.may image found its.read.log its.seen
  its-walk = record { walk = its.read.walk; keeps = its.keeps }

  -- A gate that is damaged breaks the format of the log.
  pub gate-damaged : (block : ℕ) → IsDamagedGate image found gate block → IsDamagedLogBy by.may image found block
  gate-damaged block damage = record {
    log = its.read.log;
    seen = its.seen;
    walk = its.read.walk;
    keeps = its.keeps;
    damage = inl (subst (λ g. IsDamagedGate image found g block) (sym its.read.at) damage);
  }

  module _ (high : found.checkpoint ≤ gate) (body : List ℕ) (head : Head) (extent : IsExtent image gate body head) (unsealed : has_seal found ≡ false) where
    its-extent : IsExtent image its.read.log.gate body head
    its-extent = subst (λ g. IsExtent image g body head) (sym its.read.at) extent

    -- All was read up to the gate after it.
    pub read-on : MayHeadStand found.format head → (new : Loader) (after : J) (next : ℕ) → next ≡ gate + need body → ReadsBody by image found.checkpoint gate body old new before after → IsJudgedRead by size image found next new after
    read-on under new after next next_is reads =
        let read = its.read in
        let limit = found.checkpoint in
        let is = reads.leads read.log its.seen read.at read.into read.stand its.judged in
        let log = with_other_pages read.log is.wider in
        let one = lead-plain by.may log its.seen (body ∷ []) is.next is.all is.leads in
        let at : is.next.gate ≡ next = lead-gate log body is.next one ∙ ap (λ g. g + need body) read.at ∙ sym next_is in
        let walk = walk-push by.may image found log is.next its.seen is.all body head (walk-wider by.may image found read.log its.seen is.wider its-walk is.wide is.stand) its-extent unsealed under is.leads in
        record {
          read = record {
            log = is.next;
            at = at;
            walk = walk.walk;
            into = is.into;
            stand = stand-same image limit is.wider is.next.pages (λ block low. lead-below log (body ∷ []) is.next one block (omega (arith, low, high, read.at))) is.stand;
            held = λ blocks tail h holds same.
                subst (λ g. IsPartRead holds g new) (sym next_is) (part-next by size image limit gate high body head extent old new before after reads blocks tail h holds (read.held blocks tail h holds same));
          };
          seen = is.all;
          keeps = walk.keeps;
          judged = is.judged;
        }

    -- A head that may not stand under the superblock breaks the format of the log.
    pub above-damaged : gate + need body < found.blocks → (MayHeadStand found.format head → ⊥) → IsDamagedLogBy by.may image found (gate + 1)
    above-damaged inside above =
        let log = its.read.log in
        let damage : IsDamagedNextBy (Lets by.may log its.seen.entries) image found log (gate + 1) = inr (record { unsealed = unsealed; head = head; body = body; extent = its-extent; inside = omega (arith, inside, its.read.at); breaks = inl (above, ap (λ g. g + 1) (sym its.read.at)) }) in
        record { log = log; seen = its.seen; walk = its.read.walk; keeps = its.keeps; damage = damage }

    -- The block breaks the format of the log, or the rule.
    pub body-damaged : MayHeadStand found.format head → (block : ℕ) → gate + need body < found.blocks → BreaksAfter by image found.checkpoint gate body old before block → IsDamagedLogBy by.may image found block
    body-damaged under block inside breaks =
        let read = its.read in
        let is = breaks read.log its.seen read.at read.into read.stand its.judged in
        let log = with_other_pages read.log is.0 in
        let walk = walk-wider by.may image found read.log its.seen is.0 its-walk is.1 is.2 in
        let damage : IsDamagedNextBy (Lets by.may log its.seen.entries) image found log block = inr (record { unsealed = unsealed; head = head; body = body; extent = its-extent; inside = omega (arith, inside, read.at); breaks = inr (under, is.3) }) in
        record { log = log; seen = its.seen; walk = walk.walk; keeps = walk.keeps; damage = damage }
