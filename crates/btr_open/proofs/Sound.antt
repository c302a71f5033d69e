-- A device holds at most one history, and a device that holds one, or of which a walk ends at a closed gate, is damaged nowhere.
use Rattle.std.specs.Prelude.{◌≡◌, ℕ, ◌+◌, ◌*◌, ◌<◌, ◌≤◌, ◌^◌, true, false, List, [], ◌∷◌, length, Option, Some, None, IsNone}
use Rattle.std.specs.List.{flat_map, AllByRecursion}
use Rattle.std.proofs.Common.{refl, sym, ◌∙◌, ap, subst, inl, inr, arith, ⊎_elim}
use Rattle.std.proofs.lemmas.Bool.{cases_lt}
use Rattle.btr_disk.specs.Bytes.{Image}
use Rattle.btr_disk.specs.Gate.{IsOpen, IsClosed}
use Rattle.btr_log.specs.declared.head.Head.{Head}
use Rattle.btr_log.specs.Extents.{need, IsExtent, Extents, first_gate}
use Rattle.btr_log.proofs.ExtentLemmas.{IsBody-one, IsBody-some, Extents-le, Extents-one}
use Rattle.btr_super.specs.declared.superblock.Super.{Super}
use Rattle.btr_super.specs.Super.{has_seal}
use Rattle.btr_super.specs.Choose.{IsChosen}
use Rattle.btr_super.proofs.ChoiceLemmas.{one_chosen, chosen_not_none, chosen_not_damaged}
use Rattle.btr_node.specs.Page.{page_bytes}
use Rattle.btr_node.specs.declared.page.NodePage.{NodePage}
use Rattle.btr_tree.specs.PageNodes.{Pages, IsRootPage}
use Rattle.btr_pages.specs.Pages.{HasRootPage}
use Rattle.btr_hist.specs.declared.entry.Entry.{Entry}
use Rattle.btr_engine.specs.Body.{MayStandUnder, Prefix, prefix_to, no_extents, first_page, LeadTo}
use Rattle.btr_engine.specs.Roots.{IsRootOf}
use Rattle.btr_engine.proofs.BodyLemmas.{formats-rest, LeadTo-gate, LeadTo-one}
use Rattle.btr_engine.specs.Holds.{HoldsHistoryTo}
use Rattle.btr_open.specs.Reached.{Reached, with_entry, passed}
use Rattle.btr_open.specs.Below.{StandBelow, pages_joined, BreaksBelow}
use Rattle.btr_open.specs.Start.{HasRoll, IsReadingStart, IsCheckpointExtent, IsCheckpointStart, IsNoCheckpoint, HasNoRoll}
use Rattle.btr_open.specs.Start.{HasWrongVersionRoot, HasWrongRoots, IsWrongStart}
use Rattle.btr_open.specs.Walk.{IsNextBody, IsCheckpointBody, LeadOn, IsWalk, IsDamagedNext, IsDamagedLog}
use Rattle.btr_open.specs.Damage.{IsDamagedStore, IsUndamaged}
use Rattle.btr_open.specs.Laws.{OneHistoryIsHeld, HeldIsSound}
use Rattle.btr_open.proofs.BelowLemmas.{stored-one, stand-broken, stand-page, pages_joined-is, pages_joined-with}
use Rattle.btr_open.proofs.HeldLemmas.{reached_with, lead-on, start-held}
use Rattle.btr_open.proofs.UniqueLemmas.{has-roll-one, next-one, next-content, marks-apart}
use Rattle.btr_open.proofs.UnbrokenLemmas.{with_below, entry-undamaged, checkpoint-undamaged, one-body, head-of-body, extent-unbroken, next-open}

-- ---- one history

-- The numbers of a history's entries fit eight bytes, and so does its tail.
short : (size : ℕ) (image : Image) (blocks tail : ℕ) (h : List Entry) (st : HoldsHistoryTo size image blocks tail h) → (length no_extents.entries + length st.bodies < 2 ^ 64) × (tail < 2 ^ 64)
short size image blocks tail h st =
    let long = LeadTo-gate IsRootOf no_extents st.bodies (prefix_to tail h st.leads.roots st.leads.pages) st.leads.lead in
    let limit : blocks ≤ 2 ^ 64 = omega (arith, st.same_blocks, st.chosen.stored.spelled.keeps.blocks_to) in
    (omega (arith, long, st.inside, limit), omega (arith, st.inside, limit))

pub one_history : OneHistoryIsHeld
one_history size image h k first second =
    let s = first.holds in
    let t = second.holds in
    let few = short size image first.blocks first.tail h s in
    let same = (Extents-one image first_gate s.bodies t.bodies first.tail second.tail s.extents s.closed t.extents t.closed).0 in
    let other = prefix_to second.tail k t.leads.roots t.leads.pages in
    ap (λ (p : Prefix). p.entries)
    (LeadTo-one IsRootOf IsRootOf no_extents s.bodies (prefix_to first.tail h s.leads.roots s.leads.pages) other few.0 few.1 s.leads.lead (subst (λ l. LeadTo IsRootOf no_extents l other) (sym same) t.leads.lead))

-- ---- pages below a limit

-- What is before the gate after an entry's extent, with the pages below the limit.
entry-below : (limit : ℕ) (below : Pages) (log : Reached) (e : Entry) (root : ℕ) (pages : List NodePage) (body : List ℕ) → limit ≤ log.gate → with_entry (with_below limit below log) e root pages body ≡ with_below limit below (with_entry log e root pages body)
entry-below limit below log e root pages body behind =
    let same = pages_joined-with limit below log.pages (first_page log.gate e) pages (omega (arith, behind)) in
    λ i. record {
      gate = log.gate + need body;
      entries = log.entries + 1;
      roll = (with_entry log e root pages body).roll;
      pages = same i;
      least = (with_entry log e root pages body).least;
    }

-- ---- two walks

-- An extent has at least two blocks.
least-extent : (image : Image) (gate : ℕ) (body : List ℕ) (head : Head) → IsExtent image gate body head → 2 ≤ need body
least-extent image gate body head extent = omega (arith, IsBody-some body head extent.is_body)

-- Extents that lead to their own gate are none.
pub no-extents : (image : Image) (gate : ℕ) (bodies : List (List ℕ)) (tail : ℕ) → Extents image gate bodies tail → gate ≡ tail → bodies ≡ []
no-extents image gate [] tail extents same = refl
no-extents image gate (body ∷ bodies) tail extents same =
    let least = least-extent image gate body extents.0.0 extents.0.1 in
    absurd (omega (arith, least, same, Extents-le image (gate + need body) bodies tail extents.1))

some-bodies : (b : List ℕ) (bodies : List (List ℕ)) → b ∷ bodies ≡ [] → ⊥
some-bodies b bodies none = absurd (cc)

-- A store with an extent after its start is not sealed.
unsealed-with : (s : Super) (b : List ℕ) (bodies : List (List ℕ)) → (has_seal s ≡ true → b ∷ bodies ≡ []) → has_seal s ≡ false
unsealed-with s b bodies sealed = elim (has_seal s) as (λ t. has_seal s ≡ t → has_seal s ≡ false) [
  | true ↦ λ is. absurd (some-bodies b bodies (sealed is))
  | false ↦ λ is. is
] refl

-- A checkpoint says nothing of pages.
as-checkpoint : (limit : ℕ) (below : Pages) (log : Reached) (body : List ℕ) → IsCheckpointBody (with_below limit below log) body → IsCheckpointBody log body
as-checkpoint limit below log body is =
    record { format = is.format; from = is.from; most = is.most; room = is.room; bytes = is.bytes }

module _ (image : Image) (s : Super) (block : ℕ) (below : Pages) (stand : StandBelow image s.checkpoint below) (limit : s.blocks ≤ 2 ^ 32) where
  -- Two walks lead to the same gate, but one knows only those pages that are not below the checkpoint. The other one leads on to a closed
  -- gate. So the first one does not lead on to damage.
  walk-sound : (log : Reached) (bodies others : List (List ℕ)) (after other : Reached) → s.checkpoint ≤ log.gate → 2 * log.entries + 4 ≤ log.gate → LeadOn (with_below s.checkpoint below log) bodies after → AllByRecursion (MayStandUnder s.format) bodies → (has_seal s ≡ true → bodies ≡ []) → Extents image log.gate bodies after.gate → IsClosed image after.gate → after.gate < s.blocks → LeadOn log others other → Extents image log.gate others other.gate → IsDamagedNext image s other block → ⊥
  walk-sound log [] [] after other behind counted leads formats sealed x closed inside leads_too y damage =
      let here : IsDamagedNext image s log block = subst (λ p. IsDamagedNext image s p block) (sym leads_too) damage in
      closed (subst (IsOpen image) x (next-open image s log block here))
  walk-sound log [] (c ∷ others) after other behind counted leads formats sealed x closed inside leads_too y damage =
      closed (subst (IsOpen image) x y.0.1.is_open)
  walk-sound log (b ∷ bodies) [] after other behind counted leads formats sealed x closed inside leads_too y damage =
      let le = Extents-le image (log.gate + need b) bodies after.gate x.1 in
      let least = least-extent image log.gate b x.0.0 x.0.1 in
      let here : IsDamagedNext image s log block = subst (λ p. IsDamagedNext image s p block) (sym leads_too) damage in
      elim leads [
        | inl n ↦
            entry-undamaged image s block below stand log b x.0.0 x.0.1 formats.0 (omega (arith, le, inside)) (unsealed-with s b bodies sealed) n.0 n.1 n.2 (omega (arith, limit)) (omega (arith, counted, le, inside, limit)) n.3 here
        | inr n ↦
            checkpoint-undamaged image s block below stand log b x.0.0 x.0.1 formats.0 (omega (arith, le, inside)) (unsealed-with s b bodies sealed) (as-checkpoint s.checkpoint below log b n.0) here
      ]
  walk-sound log (b ∷ bodies) (c ∷ others) after other behind counted leads formats sealed x closed inside leads_too y damage =
      let le = Extents-le image (log.gate + need b) bodies after.gate x.1 in
      let least = least-extent image log.gate b x.0.0 x.0.1 in
      let same = IsBody-one image (4096 * (log.gate + 1)) b c x.0.0 y.0.0 x.0.1.is_body y.0.1.is_body x.0.1.stored y.0.1.stored in
      let rest = subst (λ d. Extents image (log.gate + need d) others other.gate) (sym same) y.1 in
      let known = with_below s.checkpoint below log in
      let size : need b ≤ 2 ^ 64 = omega (arith, le, inside, limit) in
      elim leads [
        | inl n ↦ elim leads_too [
          | inl m ↦
              let here : IsNextBody log m.0 m.1 m.2 b = subst (IsNextBody log m.0 m.1 m.2) (sym same) m.3 in
              let one = next-one known log n.0 m.0 n.1 m.1 n.2 m.2 b refl (omega (arith, counted, le, inside, limit)) size n.3 here in
              let next = with_entry log n.0 n.1 n.2 b in
              let place : with_entry log m.0 m.1 m.2 c ≡ next = λ i. with_entry log (sym one.0 i) (sym one.1 i) (sym one.2 i) (sym same i) in
              let ahead = subst (λ p. LeadOn p bodies after) (entry-below s.checkpoint below log n.0 n.1 n.2 b behind) n.4 in
              let ahead_too = subst (λ p. LeadOn p others other) place m.4 in
              walk-sound next bodies others after other (omega (arith, behind)) (omega (arith, counted, least)) ahead formats.1 (λ seal. absurd (some-bodies b bodies (sealed seal))) x.1 closed inside ahead_too rest damage
          | inr m ↦
              marks-apart log (log.entries + 1) n.0 n.1 (flat_map page_bytes n.2) b (next-content known n.0 n.1 n.2 b n.3 size) (subst (IsCheckpointBody log) (sym same) m.0)
        ]
        | inr n ↦ elim leads_too [
          | inl m ↦
              marks-apart known (log.entries + 1) m.0 m.1 (flat_map page_bytes m.2) c (next-content log m.0 m.1 m.2 c m.3 (subst (λ d. need d ≤ 2 ^ 64) same size)) (subst (IsCheckpointBody known) same n.0)
          | inr m ↦
              let ahead_too = subst (λ d. LeadOn (passed log d) others other) (sym same) m.1 in
              walk-sound (passed log b) bodies others after other (omega (arith, behind)) (omega (arith, counted, least)) n.1 formats.1 (λ seal. absurd (some-bodies b bodies (sealed seal))) x.1 closed inside ahead_too rest damage
        ]
      ]

-- ---- two starts

no-page : (o : Option NodePage) → IsNone o → o ≡ None
no-page None none = refl
no-page (Some page) none = absurd (cc)

module _ (image : Image) (s : Super) where
  -- The checkpoint of a superblock has one body.
  one-checkpoint : (b c : List ℕ) → IsCheckpointExtent image s b → IsCheckpointExtent image s c → c ≡ b
  one-checkpoint b c x y = one-body image s.checkpoint b x.head x.extent c y.head y.extent

  -- What is before the start of a walk is what is before that of another one, but for pages below the checkpoint; and those of the first
  -- stand rightly.
  record IsSameStart (first second : Reached) : Type 0 where
    same : first ≡ with_below s.checkpoint first.pages second
    stand : StandBelow image s.checkpoint first.pages
    behind : s.checkpoint ≤ second.gate
    counted : 2 * second.entries + 4 ≤ second.gate

  module _ (limit : s.blocks ≤ 2 ^ 32) (tail : s.tail < s.blocks) where
    same-checkpoint : (first second : Reached) → IsCheckpointStart image s first → IsCheckpointStart image s second → IsSameStart first second
    same-checkpoint first second x y =
        let body = one-checkpoint x.body y.body x.extent y.extent in
        let next = x.extent.next in
        let one = has-roll-one s.checkpoint first.entries second.entries first.roll second.roll x.body (omega (arith, next, tail, limit)) (omega (arith, next, tail, limit)) x.has (subst (HasRoll s.checkpoint second.entries second.roll) body y.has) in
        let gates : first.gate ≡ second.gate = x.gate ∙ sym y.gate in
        let counts = one.0 in
        let rolls = one.1 in
        let leasts : first.least ≡ second.least = x.least ∙ sym y.least in
        let pages : first.pages ≡ pages_joined s.checkpoint first.pages second.pages = sym (pages_joined-is s.checkpoint first.pages second.pages (λ block le. no-page (second.pages block) (y.beyond block le) ∙ sym (no-page (first.pages block) (x.beyond block le)))) in
        record {
          same = λ i. record { gate = gates i; entries = counts i; roll = rolls i; pages = pages i; least = leasts i };
          stand = x.stand;
          behind = omega (arith, next, y.gate);
          counted = omega (arith, y.has.bound, next, y.gate);
        }

    same-start : (first second : Reached) → IsReadingStart image s first → IsReadingStart image s second → IsSameStart first second
    same-start first second (inl x) (inl y) =
        let none = x.0 in
        let alike : first ≡ second = x.2 ∙ sym y.2 in
        let known = first.pages in
        let pages : pages_joined s.checkpoint known second.pages ≡ second.pages =
        ap (λ p. pages_joined s.checkpoint p second.pages) (ap (λ (p : Reached). p.pages) alike) ∙ pages_joined-is s.checkpoint second.pages second.pages (λ block le. refl) in
        record {
          same = alike ∙ (λ i. record { gate = second.gate; entries = second.entries; roll = second.roll; pages = sym pages i; least = second.least });
          stand = λ block less. absurd (omega (arith, none, less));
          behind = omega (arith, none);
          counted = subst (λ (p : Reached). 2 * p.entries + 4 ≤ p.gate) (sym y.2) (omega arith);
        }
    same-start first second (inl x) (inr y) = absurd (omega (arith, x.0, y.0))
    same-start first second (inr x) (inl y) = absurd (omega (arith, x.0, y.0))
    same-start first second (inr x) (inr y) = same-checkpoint first second x.1 y.1

    -- ---- a start of which a walk leads on

    module _ (start : Reached) (x : IsCheckpointStart image s start) (block : ℕ) where
      right-checkpoint : IsNoCheckpoint image s block → ⊥
      right-checkpoint n =
          ⊎_elim
          (λ closed. closed x.extent.extent.is_open)
          (λ w.
          let same = one-body image s.checkpoint x.body x.extent.head x.extent.extent w.0 w.1 w.2 in
          let head = head-of-body image s.checkpoint x.body x.extent.head x.extent.extent w.0 w.1 w.2 in
          ⊎_elim
          (λ kind. kind (ap (λ (h : Head). h.kind) head ∙ x.extent.kind))
          (λ next. next (x.extent.next ∙ ap (λ b. s.checkpoint + need b) (sym same)))
          w.3)
          n.why

      has-roll : HasNoRoll image s block → ⊥
      has-roll n =
          n.none (subst (MayStandUnder s.format) (sym (one-checkpoint x.body n.body x.extent n.extent)) x.under) start.entries start.roll (subst (HasRoll s.checkpoint start.entries start.roll) (sym (one-checkpoint x.body n.body x.extent n.extent)) x.has)

      -- A block with the page of a root, which stands rightly, is below the checkpoint.
      low-root : (stream version root : ℕ) → HasRootPage start.pages stream version root → root < s.checkpoint
      low-root stream version root has = elim (cases_lt root s.checkpoint) [
        | inl less ↦ less
        | inr le ↦
            let none = no-page (start.pages root) (x.beyond root le) in
            let some = has.is in
            absurd (cc)
      ]

      right-root : (format : ℕ) → HasWrongVersionRoot image s format start.roll block → ⊥
      right-root format w = elim (x.roots w.stream w.k w.v w.at) [
        | inl none ↦ omega (arith, none, w.some)
        | inr has ↦
            let root = w.v.root in
            let less = low-root w.stream (w.k + 1) root has in
            let stored = (stand-page image s.checkpoint root start.pages x.stand less has.page has.is).1 in
            elim w.wrong [
              | inl other ↦ elim other.0 [
                | inl le ↦ omega (arith, le, less)
                | inr page ↦
                    page.2 (subst (IsRootPage w.stream (w.k + 1)) (stored-one image root has.page page.0 stored page.1) has.fits)
              ]
              | inr wrong ↦ elim wrong [
                | inl none ↦ none.1 has.page stored
                | inr broken ↦
                    let same = stored-one image root broken.1 has.page broken.2 stored in
                    stand-broken image s.checkpoint root block start.pages has.page x.stand less has.is (subst (λ p. BreaksBelow image root p block) same broken.3)
              ]
            ]
      ]

      right-roots : HasWrongRoots image s block → ⊥
      right-roots w =
          let next = x.extent.next in
          let body = one-checkpoint x.body w.body x.extent w.extent in
          let one = has-roll-one s.checkpoint w.entries start.entries w.roll start.roll x.body (omega (arith, next, tail, limit)) (omega (arith, next, tail, limit)) (subst (HasRoll s.checkpoint w.entries w.roll) body w.has) x.has in
          right-root w.has.format (subst (λ r. HasWrongVersionRoot image s w.has.format r block) one.1 w.wrong)

    -- A start of which a walk leads on breaks the format nowhere.
    right-start : (start : Reached) (block : ℕ) → IsReadingStart image s start → IsWrongStart image s block → ⊥
    right-start start block (inl x) wrong = omega (arith, x.0, wrong.0)
    right-start start block (inr x) wrong =
        let extent = x.1.extent in
        ⊎_elim
        (right-checkpoint start x.1 block)
        (λ more. ⊎_elim
        (extent-unbroken image s.checkpoint x.1.body extent.head extent.extent s.blocks block (omega (arith, extent.next, tail)))
        (λ rest. ⊎_elim (has-roll start x.1 block) (right-roots start x.1 block) rest)
        more)
        wrong.1

-- ---- no damage

-- A walk of which the gate at the end is closed leaves no damage.
pub whole-sound : (size : ℕ) (image : Image) (s : Super) (log : Reached) → IsChosen size image s → IsWalk image s log → log.gate < s.blocks → IsClosed image log.gate → IsUndamaged size image
whole-sound size image s log chosen walk inside closed =
    let keeps = chosen.stored.spelled.keeps in
    let limit : s.blocks ≤ 2 ^ 32 = keeps.blocks_to in
    let tail : s.tail < s.blocks = keeps.tail_to in (
      chosen_not_none size image s chosen,
      λ block damaged.
          ⊎_elim
          (chosen_not_damaged size image s block chosen)
          (λ (other : (t : Super) × IsChosen size image t × IsDamagedStore image t block).
          let same : other.0 ≡ s = one_chosen size image other.0 s other.1 chosen in
          ⊎_elim
          (right-start image s limit tail walk.start block walk.starts)
          (λ (d : IsDamagedLog image s block).
          let start = same-start image s limit tail walk.start d.walk.start walk.starts d.walk.starts in
          let leads = subst (λ p. LeadOn p walk.bodies log) start.same walk.leads in
          let extents = subst (λ (p : Reached). Extents image p.gate walk.bodies log.gate) start.same walk.extents in
          walk-sound image s block walk.start.pages start.stand limit d.walk.start walk.bodies d.walk.bodies log d.log start.behind start.counted leads walk.formats walk.sealed extents closed inside d.walk.leads d.walk.extents d.damage)
          (subst (λ t. IsDamagedStore image t block) same other.2))
          damaged,
    )

-- A device that holds a history has a walk that leads to its tail.
walk-held : (size : ℕ) (image : Image) (blocks tail : ℕ) (h : List Entry) (st : HoldsHistoryTo size image blocks tail h) → (least : ℕ) × IsWalk image st.super (reached_with least (prefix_to tail h st.leads.roots st.leads.pages))
walk-held size image blocks tail h st =
    let start = start-held size image blocks tail h st in
    let of = start.1 in
    let on = lead-on start.0 (prefix_to tail h st.leads.roots st.leads.pages) of.after of.before of.leads of.more st.follows (short size image blocks tail h st).1 in (
      on.0,
      record {
        start = reached_with 1 start.0;
        starts = of.starts;
        bodies = of.after;
        extents = of.extents;
        leads = on.1;
        formats = formats-rest st.super.format of.before of.after (subst (AllByRecursion (MayStandUnder st.super.format)) of.parts st.formats);
        sealed = λ seal. no-extents image st.super.tail of.after tail (subst (λ g. Extents image g of.after tail) of.gate of.extents) (st.sealed seal);
      },
    )

pub sound : HeldIsSound
sound size block image h first =
    let st = first.holds in
    let walk = walk-held size image first.blocks first.tail h st in
    let log = reached_with walk.0 (prefix_to first.tail h st.leads.roots st.leads.pages) in
    let undamaged = whole-sound size image st.super log st.chosen walk.1 (omega (arith, st.same_blocks, st.inside)) st.closed in
    (undamaged.0, undamaged.1 block)
