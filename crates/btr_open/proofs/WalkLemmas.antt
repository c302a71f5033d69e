-- A walk over a log stays one with wider pages below the block from which its pages are read one by one, and with one extent more. What
-- breaks the format does so by each rule that lets the entry follow.
use Rattle.std.specs.Prelude.{◌≡◌, ◌⊎◌, ℕ, ◌+◌, ◌<◌, ◌≤◌, false, List, [], ◌∷◌, ◌++◌, slice_get, Some, None, IfSome, IsNone}
use Rattle.std.proofs.Common.{refl, sym, ◌∙◌, ap, subst, arith, inl, inr}
use Rattle.std.proofs.lemmas.Bool.{cases_lt, false≢true}
use Rattle.btr_disk.specs.Bytes.{Image}
use Rattle.btr_log.specs.declared.head.Head.{Head}
use Rattle.btr_log.specs.Extents.{need, IsExtent, Extents}
use Rattle.btr_log.proofs.ExtentLemmas.{Extents-push}
use Rattle.btr_super.specs.declared.superblock.Super.{Super}
use Rattle.btr_super.specs.Super.{has_seal}
use Rattle.btr_node.specs.declared.page.NodePage.{NodePage}
use Rattle.btr_node.specs.Page.{slots_of_page}
use Rattle.btr_tree.specs.PageNodes.{Pages}
use Rattle.btr_pages.specs.Pages.{with_pages, HasChildPage, IsPageAt, ArePages}
use Rattle.btr_pages.proofs.KnownLemmas.{pages-below, pages-from}
use Rattle.btr_pages.proofs.ReportedLemmas.{with-either}
use Rattle.btr_hist.specs.declared.entry.Entry.{Entry}
use Rattle.btr_hist.specs.declared.entry.Entry.TheVariants.{Create, Define, Commit, Distillate, Retire}
use Rattle.btr_roll.specs.Roll.{RollStreamValue}
use Rattle.btr_engine.specs.Body.{first_page}
use Rattle.btr_engine.proofs.BodyLemmas.{formats-push}
use Rattle.btr_open.specs.Content.{MayHeadStand}
use Rattle.btr_open.specs.Reached.{Reached, with_entry, passed, with_other_pages}
use Rattle.btr_open.specs.RootTest.{MayLead}
use Rattle.btr_open.specs.Below.{StandBelow, IsStoredPage, pages_joined, AreWider}
use Rattle.btr_open.specs.Start.{HaveRootPages, IsCheckpointStart}
use Rattle.btr_open.specs.Walk.{IsNextBody, LeadOn, IsWalk, HasWrongRoot, HasWrongNode}
use Rattle.btr_open.specs.Seen.{Seen, nothing_seen, EntryRule, with_seen, with_mark, LeadOnBy, KeepsRule}
use Rattle.btr_open.proofs.Formats.{body-may}
use Rattle.btr_open.proofs.BelowLemmas.{stand-pages_joined, pages_joined-below, pages_joined-from, pages_joined-is, pages_joined-with}

-- ---- another rule

-- The root or a node block of an entry is wrong, whatever lets the entry follow.
pub wrong-along : (May Other : Entry → ℕ → Type 0) → ((e : Entry) (root : ℕ) → May e root → Other e root) → (image : Image) (limit : ℕ) (log : Reached) (body : List ℕ) (block : ℕ) → HasWrongRoot May image limit log body block ⊎ HasWrongNode May image limit log body block → HasWrongRoot Other image limit log body block ⊎ HasWrongNode Other image limit log body block
wrong-along May Other along image limit log body block wrong = elim wrong [
  | inl w ↦
      inl (record {
        entry = w.entry;
        root = w.root;
        nodes = w.nodes;
        content = w.content;
        allowed = along w.entry w.root w.allowed;
        wrong = w.wrong;
        named = w.named;
      })
  | inr w ↦
      inr (record {
        entry = w.entry;
        root = w.root;
        nodes = w.nodes;
        content = w.content;
        allowed = along w.entry w.root w.allowed;
        right = w.right;
        before = w.before;
        within = w.within;
        bytes = w.bytes;
        fit = w.fit;
        stand = w.stand;
        next = w.next;
        damaged = w.damaged;
      })
]

-- ---- more pages

-- The others have each page that these have.
abbrev pub HaveMore : Pages → Pages → Type 0
HaveMore pages others = (block : ℕ) (page : NodePage) → pages block ≡ Some page → others block ≡ Some page

more-with : (pages others : Pages) (first : ℕ) (new : List NodePage) → HaveMore pages others → HaveMore (with_pages pages first new) (with_pages others first new)
more-with pages others first new more block page at = elim (with-either pages first new block page at) [
  | inl old ↦ pages-below others first block new old.0 ∙ more block page old.1
  | inr fresh ↦ pages-from others first block new fresh.0 ∙ fresh.1
]

-- A page that stands rightly among pages does so among more of them.
pub page-more : (pages others : Pages) → HaveMore pages others → (block : ℕ) (page : NodePage) → IsPageAt pages block page → IsPageAt others block page
page-more pages others more block page is = record {
  keeps = is.keeps;
  children = λ i. elim (slice_get (slots_of_page page) i) as (λ o. IfSome o (λ slot. 0 < slot.agg.count → HasChildPage pages block page i slot) → IfSome o (λ slot. 0 < slot.agg.count → HasChildPage others block page i slot)) [
    | None ↦ λ has. tt
    | Some slot ↦ λ has some.
        let child = has some in
        record { lower = child.lower; child = child.child; is = more slot.child child.child child.is; fits = child.fits }
  ] (is.children i);
}

pages-more : (pages others : Pages) (first : ℕ) (new : List NodePage) → HaveMore pages others → ArePages pages first new → ArePages others first new
pages-more pages others first new more are i =
    elim (slice_get new i) as (λ o. IfSome o (λ page. IsPageAt (with_pages pages first new) (first + i) page) → IfSome o (λ page. IsPageAt (with_pages others first new) (first + i) page)) [
      | None ↦ λ is. tt
      | Some page ↦ λ is.
          page-more (with_pages pages first new) (with_pages others first new) (more-with pages others first new more) (first + i) page is
    ] (are i)

lead-more : (pages others : Pages) (roll : List RollStreamValue) (e : Entry) (root : ℕ) → HaveMore pages others → MayLead pages roll e root → MayLead others roll e root
lead-more pages others roll (Create id) root more may = may
lead-more pages others roll (Define id spec) root more may = may
lead-more pages others roll (Retire stream first) root more may = may
lead-more pages others roll (Commit stream cut added) root more may = elim may [
  | inl none ↦ inl none
  | inr has ↦ inr (record { page = has.page; is = more root has.page has.is; fits = has.fits })
]
lead-more pages others roll (Distillate stream cut added reads) root more may = elim may [
  | inl none ↦ inl none
  | inr has ↦ inr (record { page = has.page; is = more root has.page has.is; fits = has.fits })
]

next-more : (log : Reached) (others : Pages) (e : Entry) (root : ℕ) (pages : List NodePage) (body : List ℕ) → HaveMore log.pages others → IsNextBody log e root pages body → IsNextBody (with_other_pages log others) e root pages body
next-more log others e root pages body more is =
    let first = first_page log.gate e in
    record {
      spelled = is.spelled;
      fits = is.fits;
      rightly = pages-more log.pages others first pages more is.rightly;
      low = is.low;
      may_have = is.may_have;
      bytes = is.bytes;
      may_lead = lead-more (with_pages log.pages first pages) (with_pages others first pages) log.roll e root (more-with log.pages others first pages more) is.may_lead;
      allowed = is.allowed;
    }

-- ---- pages that are as before below a block

-- Pages that stand rightly below a limit do so among others that are the same below it.
pub stand-same : (image : Image) (limit : ℕ) (pages others : Pages) → ((block : ℕ) → block < limit → others block ≡ pages block) → StandBelow image limit pages → StandBelow image limit others
stand-same image limit pages others same stand block low =
    elim (others block) as (λ o. others block ≡ o → IfSome o (λ page. (1 ≤ block) × IsStoredPage image block page × IsPageAt others block page)) [
      | None ↦ λ e. tt
      | Some page ↦ λ e.
          let at : pages block ≡ Some page = sym (same block low) ∙ e in
          let is : (1 ≤ block) × IsStoredPage image block page × IsPageAt pages block page = subst (λ o. IfSome o (λ p. (1 ≤ block) × IsStoredPage image block p × IsPageAt pages block p)) at (stand block low) in (
            is.0,
            is.1,
            record {
              keeps = is.2.keeps;
              children = λ i. elim (slice_get (slots_of_page page) i) as (λ o. IfSome o (λ slot. 0 < slot.agg.count → HasChildPage pages block page i slot) → IfSome o (λ slot. 0 < slot.agg.count → HasChildPage others block page i slot)) [
                | None ↦ λ has. tt
                | Some slot ↦ λ has some.
                    let child = has some in
                    let lower = child.lower in
                    record { lower = lower; child = child.child; is = same slot.child (omega (arith, lower, low)) ∙ child.is; fits = child.fits }
              ] (is.2.children i);
            },
          )
    ] refl

-- ---- bodies that lead on

-- Bodies whose entries keep a rule lead on.
pub lead-plain : (May : EntryRule) (log : Reached) (seen : Seen) (bodies : List (List ℕ)) (after : Reached) (all : Seen) → LeadOnBy May log seen bodies after all → LeadOn log bodies after
lead-plain May log seen [] after all leads = leads.0
lead-plain May log seen (body ∷ bodies) after all leads = elim leads [
  | inl x ↦ inl (x.0, x.1, x.2, x.3, lead-plain May (with_entry log x.0 x.1 x.2 body) (with_seen seen x.0 x.1) bodies after all x.5)
  | inr x ↦ inr (x.0, lead-plain May (passed log body) (with_mark seen log.gate (log.gate + need body)) bodies after all x.1)
]

pub lead-append : (May : EntryRule) (log : Reached) (seen : Seen) (bodies : List (List ℕ)) (mid : Reached) (some : Seen) (more : List (List ℕ)) (after : Reached) (all : Seen) → LeadOnBy May log seen bodies mid some → LeadOnBy May mid some more after all → LeadOnBy May log seen (bodies ++ more) after all
lead-append May log seen [] mid some more after all leads rest =
    subst (λ p. LeadOnBy May p seen more after all) (sym leads.0) (subst (λ x. LeadOnBy May mid x more after all) (sym leads.1) rest)
lead-append May log seen (body ∷ bodies) mid some more after all leads rest = elim leads [
  | inl x ↦ inl (x.0, x.1, x.2, x.3, x.4, lead-append May (with_entry log x.0 x.1 x.2 body) (with_seen seen x.0 x.1) bodies mid some more after all x.5 rest)
  | inr x ↦ inr (x.0, lead-append May (passed log body) (with_mark seen log.gate (log.gate + need body)) bodies mid some more after all x.1 rest)
]

-- The gate after one body.
pub lead-gate : (log : Reached) (body : List ℕ) (next : Reached) → LeadOn log (body ∷ []) next → next.gate ≡ log.gate + need body
lead-gate log body next leads = elim leads [
  | inl x ↦ ap (λ (p : Reached). p.gate) (sym x.4)
  | inr x ↦ ap (λ (p : Reached). p.gate) (sym x.1)
]

-- The pages before a gate stay as they are.
pub lead-below : (log : Reached) (bodies : List (List ℕ)) (after : Reached) → LeadOn log bodies after → (block : ℕ) → block < log.gate → after.pages block ≡ log.pages block
lead-below log [] after leads block low = ap (λ (p : Reached). p.pages block) (sym leads)
lead-below log (body ∷ bodies) after leads block low = elim leads [
  | inl x ↦
      lead-below (with_entry log x.0 x.1 x.2 body) bodies after x.4 block (omega (arith, low)) ∙ pages-below log.pages (first_page log.gate x.0) block x.2 (omega (arith, low))
  | inr x ↦ lead-below (passed log body) bodies after x.1 block (omega (arith, low))
]

module _ (limit : ℕ) (wider : Pages) where
  -- Bodies lead on with wider pages too.
  more-pages_joined : (log : Reached) (bodies : List (List ℕ)) (after : Reached) → limit ≤ log.gate → LeadOn log bodies after → AreWider limit after.pages wider → HaveMore log.pages (pages_joined limit wider log.pages)
  more-pages_joined log bodies after high leads wide block page at = elim (cases_lt block limit) [
    | inl low ↦
        let there : after.pages block ≡ Some page = lead-below log bodies after leads block (omega (arith, low, high)) ∙ at in
        pages_joined-below limit wider log.pages block low ∙ subst (λ o. IfSome o (λ p. wider block ≡ Some p)) there (wide.kept block)
    | inr above ↦ pages_joined-from limit wider log.pages block above ∙ at
  ]

  lead-wider : (May : EntryRule) (log : Reached) (seen : Seen) (bodies : List (List ℕ)) (after : Reached) (all : Seen) → limit ≤ log.gate → LeadOnBy May log seen bodies after all → AreWider limit after.pages wider → LeadOnBy May (with_other_pages log (pages_joined limit wider log.pages)) seen bodies (with_other_pages after wider) all
  lead-wider May log seen [] after all high leads wide =
      let same = pages_joined-is limit wider after.pages (λ block above. sym (wide.same block above)) in
      (ap (λ (p : Reached). with_other_pages p (pages_joined limit wider p.pages)) leads.0 ∙ ap (with_other_pages after) same, leads.1)
  lead-wider May log seen (body ∷ bodies) after all high leads wide =
      let more = more-pages_joined log (body ∷ bodies) after high (lead-plain May log seen (body ∷ bodies) after all leads) wide in
      elim leads [
        | inl x ↦
            let next = with_entry log x.0 x.1 x.2 body in
            let then = with_seen seen x.0 x.1 in
            let rest = lead-wider May next then bodies after all (omega (arith, high)) x.5 wide in
            let same = pages_joined-with limit wider log.pages (first_page log.gate x.0) x.2 (omega (arith, high)) in
            inl (
              x.0,
              x.1,
              x.2,
              next-more log (pages_joined limit wider log.pages) x.0 x.1 x.2 body more x.3,
              x.4,
              subst (λ (ps : Pages). LeadOnBy May (with_other_pages next ps) then bodies (with_other_pages after wider) all) (sym same) rest,
            )
        | inr x ↦
            inr (
              record { format = x.0.format; from = x.0.from; most = x.0.most; room = x.0.room; bytes = x.0.bytes },
              lead-wider May (passed log body) (with_mark seen log.gate (log.gate + need body)) bodies after all (omega (arith, high)) x.1 wide,
            )
      ]

-- ---- walks

-- The roots of versions lead to pages among more of them.
roots-more : (pages others : Pages) (roll : List RollStreamValue) → HaveMore pages others → HaveRootPages pages roll → HaveRootPages others roll
roots-more pages others roll more have stream k v at = elim (have stream k v at) [
  | inl none ↦ inl none
  | inr has ↦ inr (record { page = has.page; is = more v.root has.page has.is; fits = has.fits })
]

-- A walk whose entries keep a rule.
pub record KeepingWalk (May : EntryRule) (image : Image) (s : Super) (log : Reached) (seen : Seen) : Type 0 where
  pub walk : IsWalk image s log
  pub keeps : KeepsRule May walk seen

-- A walk is one with wider pages below the checkpoint, if they stand rightly there.
pub walk-wider : (May : EntryRule) (image : Image) (s : Super) (log : Reached) (seen : Seen) (wider : Pages) → KeepingWalk May image s log seen → AreWider s.checkpoint log.pages wider → StandBelow image s.checkpoint wider → KeepingWalk May image s (with_other_pages log wider) seen
walk-wider May image s log seen wider is wide stand =
    let walk = is.walk in
    let start = walk.start in
    let limit = s.checkpoint in
    elim walk.starts [
      | inl first ↦
          let none = first.0 in
          let same : (block : ℕ) → log.pages block ≡ wider block = λ block. sym (wide.same block (omega (arith, none))) in
          let all : log.pages ≡ wider = λ i block. same block i in
          subst (λ (ps : Pages). KeepingWalk May image s (with_other_pages log ps) seen) all is
      | inr after ↦
          let at = after.1 in
          let next = at.extent.next in
          let high : limit ≤ start.gate = omega (arith, at.gate, next) in
          let more = more-pages_joined limit wider start walk.bodies log high walk.leads wide in
          let others = pages_joined limit wider start.pages in
          let starts : IsCheckpointStart image s (with_other_pages start others) = record {
            body = at.body;
            extent = at.extent;
            has = at.has;
            under = at.under;
            gate = at.gate;
            least = at.least;
            stand = stand-pages_joined image limit wider start.pages stand;
            beyond = λ block above. subst IsNone (sym (pages_joined-from limit wider start.pages block above)) (at.beyond block above);
            roots = roots-more start.pages others start.roll more at.roots;
          } in
          let leads = lead-wider limit wider May start nothing_seen walk.bodies log seen high is.keeps wide in
          record {
            walk = record {
              start = with_other_pages start others;
              starts = inr (after.0, starts);
              bodies = walk.bodies;
              extents = walk.extents;
              leads = lead-plain May (with_other_pages start others) nothing_seen walk.bodies (with_other_pages log wider) seen leads;
              formats = walk.formats;
              sealed = walk.sealed;
            };
            keeps = leads;
          }
    ]

-- A walk in a store that is not sealed, with one extent more.
pub walk-push : (May : EntryRule) (image : Image) (s : Super) (log next : Reached) (seen all : Seen) (body : List ℕ) (head : Head) → KeepingWalk May image s log seen → IsExtent image log.gate body head → has_seal s ≡ false → MayHeadStand s.format head → LeadOnBy May log seen (body ∷ []) next all → KeepingWalk May image s next all
walk-push May image s log next seen all body head is extent unsealed under leads =
    let walk = is.walk in
    let on = lead-append May walk.start nothing_seen walk.bodies log seen (body ∷ []) next all is.keeps leads in
    let one = lead-plain May log seen (body ∷ []) next all leads in
    record {
      walk = record {
        start = walk.start;
        starts = walk.starts;
        bodies = walk.bodies ++ body ∷ [];
        extents = subst (Extents image walk.start.gate (walk.bodies ++ body ∷ [])) (sym (lead-gate log body next one)) (Extents-push image walk.start.gate walk.bodies log.gate body head walk.extents extent);
        leads = lead-plain May walk.start nothing_seen (walk.bodies ++ body ∷ []) next all on;
        formats = formats-push s.format walk.bodies body walk.formats (body-may s.format body head extent.is_body under);
        sealed = λ sealed. absurd (false≢true (sym unsealed ∙ sealed));
      };
      keeps = on;
    }
