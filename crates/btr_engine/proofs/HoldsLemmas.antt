-- Which history is held: by images that agree, and after one entry more.
use Rattle.std.specs.Prelude.{◌≡◌, ℕ, ◌+◌, ◌-◌, ◌*◌, ◌<◌, ◌≤◌, true, false, List, [], ◌∷◌, ◌++◌, length, None}
use Rattle.std.proofs.Common.{refl, sym, ◌∙◌, ap, subst, inl, inr, ⊎_elim, arith, append_assoc}
use Rattle.btr_disk.specs.Bytes.{Image, Same}
use Rattle.btr_disk.specs.Gate.{IsClosed}
use Rattle.btr_disk.proofs.ByteLemmas.{Has-along}
use Rattle.btr_log.specs.Extents.{need, Extents, IsLog, first_gate}
use Rattle.btr_log.proofs.ExtentLemmas.{IsOpen-along, IsClosed-along, Extents-along, Extents-le, IsLog-Same}
use Rattle.btr_log.specs.Append.{IsMoment}
use Rattle.btr_super.specs.declared.superblock.Super.{Super}
use Rattle.btr_super.specs.Super.{super_bytes, has_seal}
use Rattle.btr_super.proofs.SuperLemmas.{length-super_bytes}
use Rattle.btr_super.specs.Choose.{HasSuper, IsChosen}
use Rattle.btr_hist.specs.declared.entry.Entry.{Entry}
use Rattle.btr_hist.specs.Legal.{rejection, Follows}
use Rattle.btr_hist.proofs.HistoryLemmas.{follows-push}
use Rattle.btr_entry.specs.Format.{format_of}
use Rattle.btr_node.specs.declared.page.NodePage.{NodePage}
use Rattle.btr_engine.specs.Body.{format_in, MayStandUnder, needed_format, Prefix, prefix_to, no_extents, pages_after, IsBodyOf, IsCheckpointOf, RootRule, LeadTo, LeadToHistory, need_of}
use Rattle.btr_engine.specs.Roots.{IsRootOf}
use Rattle.btr_streams.specs.Board.{Versions}
use Rattle.btr_engine.specs.Stored.{AreStored}
use Rattle.btr_streams.specs.Rolling.{HaveRoots}
use Rattle.btr_engine.proofs.BodyLemmas.{format-body_of, formats-push, formats-under, LeadTo-push, LeadTo-mark, LeadTo-roots, LeadTo-needed}
use Rattle.btr_engine.specs.Holds.{StartsAt, HoldsHistoryTo}
use Rattle.btr_engine.specs.Step.{IsBeforeOrAfter}

-- An image holds the history under this superblock. The trees of these streams are stored in its pages, and have the roots of its
-- entries.
abbrev pub HoldsTrees : ℕ → Image → ℕ → ℕ → List Entry → Super → List Versions → Type 0
HoldsTrees size image blocks tail h s streams =
    (holds : HoldsHistoryTo size image blocks tail h) × (holds.super ≡ s) × AreStored holds.leads.pages tail streams
    × HaveRoots holds.leads.roots streams

-- ---- the superblocks, in the first four blocks

-- A superblock without a seal has none.
pub no-seal : {P : Type 0} (s : Super) → has_seal s ≡ false → has_seal s ≡ true → P
no-seal s unsealed sealed = absurd (cc)

-- Two images agree on the first four blocks.
abbrev pub AgreeInPrefix : Image → Image → Type 0
AgreeInPrefix old new = (k : ℕ) → k < 16384 → new k ≡ old k

HasSuper-along : (size : ℕ) (old new : Image) (s : Super) → AgreeInPrefix old new → HasSuper size old s → HasSuper size new s
HasSuper-along size old new s agree has =
    let side : s.side ≤ 1 = has.spelled.keeps.has_side in
    record {
      opened = (has.opened.0, IsOpen-along old new (2 * s.side) (λ k low high. agree k (omega arith)) has.opened.1);
      spelled = record {
        has_block = has.spelled.has_block;
        stored = Has-along old new (4096 * (2 * s.side + 1)) (super_bytes s) has.spelled.stored (λ k low high. agree k (omega (arith, length-super_bytes s)));
        keeps = has.spelled.keeps;
      };
    }

pub IsChosen-along : (size : ℕ) (old new : Image) (s : Super) → AgreeInPrefix old new → IsChosen size old s → IsChosen size new s
IsChosen-along size old new s agree chosen = record {
  stored = HasSuper-along size old new s agree chosen.stored;
  newest = λ opened.
      let back = chosen.newest (opened.0, IsOpen-along new old (2 * (1 - s.side)) (λ k low high. sym (agree k (omega arith))) opened.1) in
      (back.0, HasSuper-along size old new back.0 agree back.1, back.2, back.3);
}

-- ---- the log

-- The same bodies from the same gate end at the same gate.
tails-one : (first second : Image) (gate : ℕ) (list : List (List ℕ)) (tail other : ℕ) → Extents first gate list tail → Extents second gate list other → tail ≡ other
tails-one first second gate [] tail other x y = sym x ∙ y
tails-one first second gate (body ∷ list) tail other x y =
    tails-one first second (gate + need body) list tail other x.1 y.1

-- With one body more they end after it.
pub tails-push : (first second : Image) (gate : ℕ) (list : List (List ℕ)) (body : List ℕ) (tail other : ℕ) → Extents first gate list tail → Extents second gate (list ++ body ∷ []) other → other ≡ tail + need body
tails-push first second gate [] body tail other x y = sym y.1 ∙ ap (λ g. g + need body) x
tails-push first second gate (f ∷ list) body tail other x y =
    tails-push first second (gate + need f) list body tail other x.1 y.1

-- ---- where the log is read from

-- A log with one extent more may be read from the same gate.
pub starts-push : (Rule : RootRule) (bodies : List (List ℕ)) (body : List ℕ) (checkpoint tail : ℕ) → StartsAt Rule bodies checkpoint tail → StartsAt Rule (bodies ++ body ∷ []) checkpoint tail
starts-push Rule bodies body checkpoint tail starts = elim starts [
  | inl first ↦ inl first
  | inr m ↦ inr (record {
    before = m.before;
    body = m.body;
    after = m.after ++ body ∷ [];
    parts = ap (λ l. l ++ body ∷ []) m.parts ∙ append_assoc m.before (m.body ∷ m.after) (body ∷ []);
    log = m.log;
    leads = m.leads;
    is = m.is;
    gate = m.gate;
    next = m.next;
  })
]

-- A log that ends with a checkpoint may be read from the gate after it.
pub starts-last : (Rule : RootRule) (bodies : List (List ℕ)) (at : Prefix) (body : List ℕ) (checkpoint tail : ℕ) → LeadTo Rule no_extents bodies at → IsCheckpointOf at body → checkpoint ≡ at.gate → tail ≡ at.gate + need body → StartsAt Rule (bodies ++ body ∷ []) checkpoint tail
starts-last Rule bodies at body checkpoint tail leads is gate next = inr (record {
  before = bodies;
  body = body;
  after = [];
  parts = refl;
  log = at;
  leads = leads;
  is = is;
  gate = gate;
  next = next ∙ ap (λ n. n + need body) (sym gate);
})

-- ---- the history

module _ (size : ℕ) (old : Image) (blocks tail : ℕ) (h : List Entry) (at : HoldsHistoryTo size old blocks tail h) where
  -- The prefix up to the tail.
  abbrev pub held : Prefix
  held = prefix_to tail h at.leads.roots at.leads.pages

  -- Each entry has one root.
  pub roots-held : length at.leads.roots ≡ length h
  roots-held = LeadTo-roots IsRootOf no_extents at.bodies held at.leads.lead refl

  -- A checkpoint of the history may have the format of the superblock.
  pub may_mark : needed_format h ≤ at.super.format
  may_mark =
      LeadTo-needed IsRootOf at.super.format no_extents at.bodies held at.leads.lead at.formats at.chosen.stored.spelled.keeps.known_format.0

  pub behind_prefix : 4 ≤ tail
  behind_prefix = Extents-le old first_gate at.bodies tail at.extents

  -- If all below the tail is the same and the log has the same entries, the image holds the same history.
  pub holds_as_before : (new : Image) → ((k : ℕ) → k < 4096 * tail → new k ≡ old k) → IsLog new first_gate at.bodies → HoldsHistoryTo size new blocks tail h
  holds_as_before new below log =
      let same : log.0 ≡ tail = tails-one new old first_gate at.bodies log.0 tail log.1 at.extents in
      let prefix : 4 ≤ tail = behind_prefix in
      record {
        super = at.super;
        chosen = IsChosen-along size old new at.super (λ k lt. below k (omega arith)) at.chosen;
        same_blocks = at.same_blocks;
        bodies = at.bodies;
        extents = subst (Extents new first_gate at.bodies) same log.1;
        leads = at.leads;
        formats = at.formats;
        starts = at.starts;
        sealed = at.sealed;
        closed = subst (IsClosed new) same log.2;
        inside = at.inside;
        follows = at.follows;
      }

  -- An image with the same bytes holds the same history.
  pub holds_still : (new : Image) → Same old new → HoldsHistoryTo size new blocks tail h
  holds_still new same =
      holds_as_before new (λ k lt. same k) (IsLog-Same old new first_gate at.bodies same (tail, at.extents, at.closed))

  -- If the store is not sealed, all below the tail is the same, and the log has one extent more, with which its bodies lead to a history,
  -- the image holds that one.
  abbrev pub holds_longer : (body : List ℕ) (end : ℕ) (longer : List Entry) → LeadToHistory IsRootOf (at.bodies ++ body ∷ []) end longer → MayStandUnder at.super.format body → has_seal at.super ≡ false → Follows longer → tail + need body ≡ end → end < blocks → (new : Image) → ((k : ℕ) → k < 4096 * tail → new k ≡ old k) → IsLog new first_gate (at.bodies ++ body ∷ []) → HoldsHistoryTo size new blocks end longer
  holds_longer body end longer leads may unsealed follows ends fits new below log =
      let same : log.0 ≡ end = tails-push old new first_gate at.bodies body tail log.0 at.extents log.1 ∙ ends in
      let prefix : 4 ≤ tail = behind_prefix in
      record {
        super = at.super;
        chosen = IsChosen-along size old new at.super (λ k lt. below k (omega arith)) at.chosen;
        same_blocks = at.same_blocks;
        bodies = at.bodies ++ body ∷ [];
        extents = subst (Extents new first_gate (at.bodies ++ body ∷ [])) same log.1;
        leads = leads;
        formats = formats-push at.super.format at.bodies body at.formats may;
        starts = starts-push IsRootOf at.bodies body at.super.checkpoint at.super.tail at.starts;
        sealed = no-seal at.super unsealed;
        closed = subst (IsClosed new) same log.2;
        inside = fits;
        follows = follows;
      }

  module _ (e : Entry) (root : ℕ) (pages : List NodePage) (body : List ℕ) (is : IsBodyOf held e root pages body) (keeps : IsRootOf (pages_after held e pages) h e root pages) (allowed : rejection h e ≡ None) (needed : need body ≡ need_of h e) (fits : tail + need_of h e < blocks) (may : format_of e ≤ at.super.format) (unsealed : has_seal at.super ≡ false) where
    end_of : tail + need body ≡ tail + need_of h e
    end_of = ap (λ n. tail + n) needed

    may_stand : MayStandUnder at.super.format body
    may_stand =
        let format : format_in body ≡ format_of e = ap format_in is.bytes ∙ format-body_of (length h + 1) e root pages in
        inl (omega (arith, format, may))

    -- If all below the tail is the same and the log has this entry too, the image holds the history with it.
    pub holds_with : (new : Image) → ((k : ℕ) → k < 4096 * tail → new k ≡ old k) → IsLog new first_gate (at.bodies ++ body ∷ []) → HoldsHistoryTo size new blocks (tail + need_of h e) (h ++ e ∷ [])
    holds_with =
        holds_longer body (tail + need_of h e) (h ++ e ∷ [])
        (record {
          roots = at.leads.roots ++ root ∷ [];
          pages = pages_after held e pages;
          lead = subst (λ g. LeadTo IsRootOf no_extents (at.bodies ++ body ∷ []) (prefix_to g (h ++ e ∷ []) (at.leads.roots ++ root ∷ []) (pages_after held e pages))) end_of
              (LeadTo-push IsRootOf no_extents at.bodies held e root pages body at.leads.lead is keeps);
        })
        may_stand unsealed (follows-push h e at.follows allowed) end_of fits

    -- So it is with trees that are stored in the pages of the history and those of the entry, and have the roots of both.
    pub holds_trees : (new : Image) → ((k : ℕ) → k < 4096 * tail → new k ≡ old k) → IsLog new first_gate (at.bodies ++ body ∷ []) → (s : Super) → at.super ≡ s → (streams : List Versions) → AreStored (pages_after held e pages) (tail + need_of h e) streams → HaveRoots (at.leads.roots ++ root ∷ []) streams → HoldsTrees size new blocks (tail + need_of h e) (h ++ e ∷ []) s streams
    unfolding holds_with
    holds_trees new below log s under streams stored have = (holds_with new below log, under, stored, have)

    -- An image at a moment of an append holds one of the two.
    pub before_or_after : (image : Image) → IsMoment old tail at.bodies body image → IsBeforeOrAfter size h e image
    before_or_after image moment =
        ⊎_elim
        (λ log. inl (record { blocks = blocks; tail = tail; holds = holds_as_before image moment.below log }))
        (λ log. inr (record {
          blocks = blocks;
          tail = tail + need_of h e;
          holds = holds_with image moment.below log;
        }))
        moment.log

  -- If all from the first gate on is the same, and another superblock of as many blocks and no lesser format is chosen, which says that the
  -- log is read from its beginning or from the gate after one of its checkpoints, the image holds the same history. If that superblock is of
  -- a sealed store, it says the tail.
  abbrev pub holds_under : (new : Image) (s : Super) → ((k : ℕ) → 16384 ≤ k → new k ≡ old k) → IsChosen size new s → s.blocks ≡ blocks → at.super.format ≤ s.format → StartsAt IsRootOf at.bodies s.checkpoint s.tail → (has_seal s ≡ true → s.tail ≡ tail) → HoldsHistoryTo size new blocks tail h
  holds_under new s agree chosen same more starts sealed =
      let prefix : 4 ≤ tail = behind_prefix in
      record {
        super = s;
        chosen = chosen;
        same_blocks = same;
        bodies = at.bodies;
        extents = Extents-along old new first_gate at.bodies tail (λ k low high. agree k (omega (arith, low))) at.extents;
        leads = at.leads;
        formats = formats-under at.super.format s.format at.bodies more at.formats;
        starts = starts;
        sealed = sealed;
        closed = IsClosed-along old new tail (λ k low high. agree k (omega (arith, low))) at.closed;
        inside = at.inside;
        follows = at.follows;
      }

  -- If the store is not sealed, all below the tail is the same and the log has a checkpoint too, whose format may stand under that of the
  -- superblock, the image holds the same history.
  abbrev pub holds_marked : (body : List ℕ) → IsCheckpointOf held body → MayStandUnder at.super.format body → has_seal at.super ≡ false → tail + need body < blocks → (new : Image) → ((k : ℕ) → k < 4096 * tail → new k ≡ old k) → IsLog new first_gate (at.bodies ++ body ∷ []) → HoldsHistoryTo size new blocks (tail + need body) h
  holds_marked body is may unsealed fits =
      holds_longer body (tail + need body) h
      (record {
        roots = at.leads.roots;
        pages = at.leads.pages;
        lead = LeadTo-mark IsRootOf no_extents at.bodies held body at.leads.lead is;
      })
      may unsealed at.follows refl fits
