-- If a log is legal, the superblock names a start of it, and its end if the store is sealed, and the root of each entry leads to the tree of
-- its version, the device holds a legal history: that of the entries that were seen.
use Rattle.std.specs.Prelude.{◌≡◌, ℕ, ◌+◌, ◌<◌, ◌≤◌, ◌^◌, List, [], ◌∷◌, ◌++◌, length, take, get_or, slice_get, Some}
use Rattle.std.specs.List.{flat_map}
use Rattle.std.proofs.Common.{refl, sym, ◌∙◌, ap, subst, inl, inr, arith, length-append}
use Rattle.std.proofs.lemmas.List.{take_at, take-append-le, get_or_append_left, get_or_push}
use Rattle.btr_base.proofs.ListLemmas.{get-append, get_last}
use Rattle.btr_log.specs.Extents.{need, first_gate}
use Rattle.btr_log.specs.Head.{content_blocks}
use Rattle.btr_node.specs.Page.{page_bytes}
use Rattle.btr_node.specs.declared.page.NodePage.{NodePage}
use Rattle.btr_hist.specs.declared.entry.Entry.{Entry}
use Rattle.btr_hist.specs.Legal.{Legal}
use Rattle.btr_hist.proofs.HistoryLemmas.{legal-none, legal-push, legal-follows}
use Rattle.btr_roll.specs.Roll.{RollStreamValue, roll_bytes}
use Rattle.btr_engine.specs.Body.{Prefix, prefix_to, no_extents, with_extent, body_of, IsBodyOf, needed_format, IsCheckpointOf, LeadTo}
use Rattle.btr_engine.specs.Mark.{body_of_roll}
use Rattle.btr_streams.specs.Rolling.{roll_of}
use Rattle.btr_engine.specs.Roots.{IsRootOf}
use Rattle.btr_engine.specs.Holds.{IsMarked}
use Rattle.btr_engine.proofs.BodyLemmas.{needed-push, LeadTo-split, LeadTo-gate}
use Rattle.btr_open.specs.Reached.{Reached, beginning, next_roll, with_entry, pages_with, passed}
use Rattle.btr_open.specs.Walk.{IsNextBody, IsCheckpointBody}
use Rattle.btr_open.proofs.FirstReading.{formats-from-first}
use Rattle.btr_open.proofs.ContentLemmas.{body-content, contents-apart}
use Rattle.btr_open.proofs.HeldPages.{AreBelow, below-extent, if-at}
use Rattle.btr_open.proofs.HeldRolls.{roll-next}
use Rattle.btr_open.proofs.HeldLemmas.{roll-body}
use Rattle.btr_open.proofs.WalkLemmas.{lead-plain, lead-below}
use Rattle.btr_open.specs.Seen.{Mark, Seen, nothing_seen, with_seen, with_mark, LeadOnBy}
use Rattle.btr_check.specs.Rule.{MayStand}
use Rattle.btr_check.specs.Whole.{LeadAll}
use Rattle.btr_check.specs.Laws.{LegalLogStands}
use Rattle.btr_check.proofs.MeetLemmas.{whole-walk}
use Rattle.btr_check.proofs.LeadLemmas.{AreSameBelow, root-along, may-low}
use Rattle.btr_check.proofs.SeenLemmas.{sees-more, IsMarkIn, mark-in, leads-gate}

-- The prefix with what was seen.
abbrev pub prefix_of : Reached → Seen → Prefix
prefix_of log seen = prefix_to log.gate seen.entries seen.roots log.pages

-- What was seen is what is before the gate, and legal. No block from the gate on has a page.
pub record Agrees (log : Reached) (seen : Seen) : Type 0 where
  pub counted : log.entries ≡ length seen.entries
  pub rooted : length seen.roots ≡ length seen.entries
  pub roll : log.roll ≡ roll_of seen.entries seen.roots
  pub least : log.least ≡ needed_format seen.entries
  pub legal : Legal seen.entries
  pub some : 1 ≤ log.gate
  pub below : AreBelow log.gate log.pages

-- ---- one body more

module _ (log : Reached) (seen : Seen) (agrees : Agrees log seen) where
  pub next-body : (e : Entry) (root : ℕ) (pages : List NodePage) (body : List ℕ) → IsNextBody log e root pages body → IsBodyOf (prefix_of log seen) e root pages body
  next-body e root pages body is = record {
    spelled = is.spelled;
    fits = is.fits;
    rightly = is.rightly;
    low = is.low;
    may_have = is.may_have;
    bytes = is.bytes ∙ ap (λ n. body_of (n + 1) e root pages) agrees.counted;
  }

  mark-body : (body : List ℕ) → IsCheckpointBody log body → IsCheckpointOf (prefix_of log seen) body
  mark-body body is =
      let counted = agrees.counted in
      let roll = agrees.roll in
      record {
        format = is.format;
        least = omega (arith, is.from.1, agrees.least);
        most = is.most;
        room = subst (λ (r : List RollStreamValue). content_blocks (length (roll_bytes is.format r)) < 2 ^ 64) roll is.room;
        bytes = is.bytes ∙ (λ i. body_of_roll is.format (counted i) (roll i)) ∙ sym (roll-body is.format seen.entries seen.roots);
      }

  pub next-agrees : (e : Entry) (root : ℕ) (pages : List NodePage) (body : List ℕ) → IsNextBody log e root pages body → MayStand seen.entries e root → Agrees (with_entry log e root pages body) (with_seen seen e root)
  next-agrees e root pages body is may =
      let legal = legal-push seen.entries e agrees.legal may.allowed in
      let counted = agrees.counted in
      let roll = agrees.roll in
      record {
        counted = omega (arith, counted, length-append seen.entries (e ∷ []));
        rooted = omega (arith, agrees.rooted, length-append seen.entries (e ∷ []), length-append seen.roots (root ∷ []));
        roll = (λ i. next_roll (roll i) e (counted i + 1) root) ∙ sym (roll-next seen.entries seen.roots e root (legal-follows (seen.entries ++ e ∷ []) legal) agrees.rooted);
        least = omega (arith, agrees.least, needed-push seen.entries e);
        legal = legal;
        some = omega (arith, agrees.some);
        below = below-extent (prefix_of log seen) e root pages body (next-body e root pages body is);
      }

  pub mark-agrees : (body : List ℕ) → Agrees (passed log body) (with_mark seen log.gate (log.gate + need body))
  mark-agrees body = record {
    counted = agrees.counted;
    rooted = agrees.rooted;
    roll = agrees.roll;
    least = agrees.least;
    legal = agrees.legal;
    some = omega (arith, agrees.some);
    below = λ block high. agrees.below block (omega (arith, high));
  }

-- What was seen of a walk is legal.
agrees-on : (log : Reached) (seen : Seen) (bodies : List (List ℕ)) (after : Reached) (all : Seen) → Agrees log seen → LeadOnBy MayStand log seen bodies after all → Agrees after all
agrees-on log seen [] after all agrees leads =
    subst {A = Reached × Seen} (λ p. Agrees p.0 p.1) (λ i. (leads.0 i, leads.1 i)) agrees
agrees-on log seen (body ∷ bodies) after all agrees leads = elim leads [
  | inl x ↦
      agrees-on (with_entry log x.0 x.1 x.2 body) (with_seen seen x.0 x.1) bodies after all (next-agrees log seen agrees x.0 x.1 x.2 body x.3 x.4) x.5
  | inr x ↦
      agrees-on (passed log body) (with_mark seen log.gate (log.gate + need body)) bodies after all (mark-agrees log seen agrees body) x.1
]

-- ---- the roots

-- The root of an entry leads to its tree in the pages that stood then, if it does in the pages of the whole log.
root-then : (log : Reached) (seen : Seen) (e : Entry) (root : ℕ) (pages : List NodePage) (body : List ℕ) (bodies : List (List ℕ)) (after : Reached) (all : Seen) → Agrees log seen → IsNextBody log e root pages body → MayStand seen.entries e root → LeadOnBy MayStand (with_entry log e root pages body) (with_seen seen e root) bodies after all → LeadAll after.pages all.entries all.roots → IsRootOf (pages_with log e pages) seen.entries e root pages
root-then log seen e root pages body bodies after all agrees is may leads right =
    let next = with_entry log e root pages body in
    let now = next-agrees log seen agrees e root pages body is may in
    let more = sees-more MayStand next (with_seen seen e root) bodies after all leads in
    let n = length seen.entries in
    let longer = seen.entries ++ e ∷ [] in
    let roots = seen.roots ++ root ∷ [] in
    let at : slice_get all.entries n ≡ Some e = ap (λ (l : List Entry). slice_get l n) (sym more.are) ∙ get-append longer more.entries n e (get_last seen.entries e) in
    let here : IsRootOf after.pages (take n all.entries) e (get_or all.roots n 0) [] = if-at (slice_get all.entries n) (λ f. IsRootOf after.pages (take n all.entries) f (get_or all.roots n 0) []) e at (right n) in
    let firsts : take n all.entries ≡ seen.entries =
    ap (take n) (sym more.are) ∙ take-append-le n longer more.entries (omega (arith, length-append seen.entries (e ∷ []))) ∙ take_at seen.entries (e ∷ []) n refl in
    let its : get_or all.roots n 0 ≡ root =
    ap (λ (l : List ℕ). get_or l n 0) (sym more.root_are) ∙ get_or_append_left roots more.roots 0 n (omega (arith, agrees.rooted, length-append seen.roots (root ∷ []))) ∙ get_or_push seen.roots root 0 n agrees.rooted in
    let whole : IsRootOf after.pages seen.entries e root [] = subst {A = List Entry × ℕ} (λ c. IsRootOf after.pages c.0 e c.1 []) (λ i. (firsts i, its i)) here in
    let same : AreSameBelow next.gate after.pages next.pages = λ block low. sym (lead-below next bodies after (lead-plain MayStand next (with_seen seen e root) bodies after all leads) block low) in
    root-along after.pages next.pages next.gate seen.entries e root [] pages same (may-low next.gate next.pages log.roll e root now.some now.below is.may_lead) whole

-- Bodies that lead on by the rule of a check lead to the history, if all roots lead rightly.
lead-back : (log : Reached) (seen : Seen) (bodies : List (List ℕ)) (after : Reached) (all : Seen) → Agrees log seen → LeadOnBy MayStand log seen bodies after all → LeadAll after.pages all.entries all.roots → LeadTo IsRootOf (prefix_of log seen) bodies (prefix_of after all)
lead-back log seen [] after all agrees leads right = λ i. prefix_of (leads.0 i) (leads.1 i)
lead-back log seen (body ∷ bodies) after all agrees leads right = elim leads [
  | inl x ↦
      let e = x.0 in
      let root = x.1 in
      let pages = x.2 in
      inl (
        e,
        root,
        pages,
        next-body log seen agrees e root pages body x.3,
        root-then log seen e root pages body bodies after all agrees x.3 x.4 x.5 right,
        lead-back (with_entry log e root pages body) (with_seen seen e root) bodies after all (next-agrees log seen agrees e root pages body x.3 x.4) x.5 right,
      )
  | inr x ↦
      inr (mark-body log seen agrees body x.0, lead-back (passed log body) (with_mark seen log.gate (log.gate + need body)) bodies after all (mark-agrees log seen agrees body) x.1 right)
]

-- ---- the start

-- A checkpoint of a history is one of its bodies.
marked : (bodies : List (List ℕ)) (final : Prefix) (checkpoint tail : ℕ) → LeadTo IsRootOf no_extents bodies final → final.gate < 2 ^ 64 → IsMarkIn first_gate bodies (record { gate = checkpoint; next = tail }) → IsMarked IsRootOf bodies checkpoint tail
marked bodies final checkpoint tail leads short m =
    let split = LeadTo-split IsRootOf no_extents m.before (m.body ∷ m.after) final (subst (λ l. LeadTo IsRootOf no_extents l final) m.parts leads) in
    let mid = split.0 in
    let gate : checkpoint ≡ mid.gate = m.at ∙ sym (leads-gate IsRootOf no_extents m.before mid split.1) in
    elim split.2 [
      | inl x ↦
          let far : mid.gate + need m.body < 2 ^ 64 = omega (arith, short, LeadTo-gate IsRootOf (with_extent mid x.0 x.1 x.2 m.body) m.after final x.5) in
          absurd (contents-apart (length mid.entries + 1) m.least m.number x.0 x.1 (flat_map page_bytes x.2) m.contents m.body (body-content mid x.0 x.1 x.2 m.body far x.3) m.has)
      | inr x ↦ record {
        before = m.before;
        body = m.body;
        after = m.after;
        parts = m.parts;
        log = mid;
        leads = split.1;
        is = x.0;
        gate = gate;
        next = m.next;
      }
    ]

-- ---- the whole

pub begins : Agrees beginning nothing_seen
begins = record {
  counted = refl;
  rooted = refl;
  roll = refl;
  least = refl;
  legal = legal-none;
  some = omega arith;
  below = λ block high. refl;
}

pub legal-stands : LegalLogStands
legal-stands size image s chosen whole named ends right =
    let walk = whole-walk MayStand image s whole.log whole.seen whole.walk whole.keeps in
    let log = whole.log in
    let seen = whole.seen in
    let agrees = agrees-on beginning nothing_seen walk.bodies log seen begins walk.leads in
    let leads : LeadTo IsRootOf no_extents walk.bodies (prefix_of log seen) = lead-back beginning nothing_seen walk.bodies log seen begins walk.leads right in
    let short : log.gate < 2 ^ 64 = omega (arith, whole.inside, chosen.stored.spelled.keeps.blocks_to) in
    record {
      holds = record {
        blocks = s.blocks;
        tail = log.gate;
        holds = record {
          super = s;
          chosen = chosen;
          same_blocks = refl;
          bodies = walk.bodies;
          extents = walk.extents;
          leads = record { roots = seen.roots; pages = log.pages; lead = leads };
          formats = formats-from-first s walk.bodies walk.formats;
          starts = elim named [
            | inl first ↦ inl first
            | inr m ↦
                let mark : Mark = record { gate = s.checkpoint; next = s.tail } in
                elim (mark-in MayStand beginning nothing_seen walk.bodies log seen walk.leads m.0 mark m.1) [
                  | inl none ↦ absurd (cc)
                  | inr is ↦ inr (marked walk.bodies (prefix_of log seen) s.checkpoint s.tail leads short is)
                ]
          ];
          sealed = ends;
          closed = whole.closed;
          inside = whole.inside;
          follows = legal-follows seen.entries agrees.legal;
        };
      };
      legal = agrees.legal;
    }
