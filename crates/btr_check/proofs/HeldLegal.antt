-- A device that holds a legal history, as a check sees it: its log is legal, the chosen superblock names a start of it, and its end if the
-- store is sealed, and the root of each entry leads to the tree of its version.
use Rattle.std.specs.Prelude.{◌≡◌, ℕ, ◌+◌, ◌<◌, ◌≤◌, List, [], ◌∷◌, ◌++◌, length, take, get_or, slice_get, Some}
use Rattle.std.proofs.Common.{refl, sym, ◌∙◌, ap, subst, inl, inr, arith, length-append}
use Rattle.std.proofs.lemmas.Bool.{false≢true}
use Rattle.std.proofs.lemmas.List.{take_at, take-append-le, get_or_append_left, get_or_push}
use Rattle.std.proofs.lemmas.Option.{slice_get_within}
use Rattle.btr_base.proofs.ListLemmas.{get-append, get_last}
use Rattle.btr_disk.specs.Bytes.{Image}
use Rattle.btr_log.specs.Extents.{need, first_gate}
use Rattle.btr_super.specs.declared.superblock.Super.{Super}
use Rattle.btr_node.specs.declared.page.NodePage.{NodePage}
use Rattle.btr_tree.specs.PageNodes.{Pages}
use Rattle.btr_pages.proofs.KnownLemmas.{pages-below}
use Rattle.btr_hist.specs.declared.entry.Entry.{Entry}
use Rattle.btr_hist.specs.declared.entry.Entry.TheVariants.{Create, Define, Commit, Distillate, Retire}
use Rattle.btr_hist.specs.Legal.{Legal}
use Rattle.btr_hist.proofs.HistoryLemmas.{legal-prefix, legal-last, legal-follows}
use Rattle.btr_engine.specs.Body.{Prefix, prefix_to, no_extents, first_page, pages_after, with_extent, with_checkpoint, needed_format, LeadTo}
use Rattle.btr_engine.specs.Roots.{IsRootOf}
use Rattle.btr_engine.specs.Holds.{IsMarked, HoldsHistoryTo}
use Rattle.btr_engine.proofs.BodyLemmas.{LeadTo-roots}
use Rattle.btr_open.specs.Reached.{beginning}
use Rattle.btr_open.proofs.FirstReading.{first-unsealed, formats-first}
use Rattle.btr_open.proofs.ListLemmas.{push-at}
use Rattle.btr_open.proofs.HeldPages.{AreBelow, below-extent, if-each, if-at}
use Rattle.btr_open.proofs.HeldRoots.{LeadTo-on}
use Rattle.btr_open.proofs.HeldLemmas.{reached_of, reached-all, body-next, mark-body, on-log, on}
use Rattle.btr_open.proofs.WalkLemmas.{lead-plain, lead-append}
use Rattle.btr_open.specs.Seen.{Mark, Seen, LeadOnBy}
use Rattle.btr_check.specs.Rule.{MayStand}
use Rattle.btr_check.specs.Whole.{IsLegalLog, IsNamedStart, EndsAtSeal, LeadAll}
use Rattle.btr_check.proofs.LeadLemmas.{AreSameBelow, root-along, root-low, root-fits}

-- ---- the entries keep the rule

-- What was seen of a prefix, with these checkpoints.
abbrev pub seen_of : Prefix → List Mark → Seen
seen_of p marks = record { entries = p.entries; roots = p.roots; marks = marks }

-- From one prefix to another the entries keep the rule of a check. The checkpoints that were seen stay seen.
record KeepsOn (p : Prefix) (marks : List Mark) (bodies : List (List ℕ)) (q : Prefix) : Type 0 where
  more : List Mark
  leads : LeadOnBy MayStand (reached_of p) (seen_of p marks) bodies (reached_of q) (seen_of q more)
  kept : (k : ℕ) (m : Mark) → slice_get marks k ≡ Some m → slice_get more k ≡ Some m

-- Of a legal history each part is legal.
legal-before : (p : Prefix) (bodies : List (List ℕ)) (q : Prefix) → LeadTo IsRootOf p bodies q → Legal q.entries → Legal p.entries
legal-before p bodies q leads legal =
    let on = LeadTo-on IsRootOf p bodies q leads in legal-prefix p.entries on.0 (subst Legal (sym on.1) legal)

keeps-on : (p : Prefix) (marks : List Mark) (bodies : List (List ℕ)) (q : Prefix) → length p.roots ≡ length p.entries → LeadTo IsRootOf p bodies q → Legal q.entries → KeepsOn p marks bodies q
keeps-on p marks [] q counted leads legal = record {
  more = marks;
  leads = (ap reached_of leads, ap (λ r. seen_of r marks) leads);
  kept = λ k m at. at;
}
keeps-on p marks (body ∷ bodies) q counted leads legal = elim leads [
  | inl x ↦
      let e = x.0 in
      let root = x.1 in
      let pages = x.2 in
      let next = with_extent p e root pages body in
      let here : Legal (p.entries ++ e ∷ []) = legal-before next bodies q x.5 legal in
      let follows = legal-follows (p.entries ++ e ∷ []) here in
      let rest = keeps-on next marks bodies q (omega (arith, counted, length-append p.entries (e ∷ []), length-append p.roots (root ∷ []))) x.5 legal in
      let same = reached-all p e root pages body follows counted in
      let is = body-next p e root pages body follows (needed_format p.entries) x.3 x.4 in
      let may : MayStand p.entries e root = record {
        allowed = legal-last p.entries e here;
        fits_points = root-fits (pages_after p e pages) p.entries e root pages follows x.4;
      } in
      record {
        more = rest.more;
        leads = inl (e, root, pages, is, may, subst (λ r. LeadOnBy MayStand r (seen_of next marks) bodies (reached_of q) (seen_of q rest.more)) same rest.leads);
        kept = rest.kept;
      }
  | inr x ↦
      let here : Mark = record { gate = p.gate; next = p.gate + need body } in
      let rest = keeps-on (with_checkpoint p body) (marks ++ here ∷ []) bodies q counted x.1 legal in
      record {
        more = rest.more;
        leads = inr (mark-body p body (needed_format p.entries) (omega arith) x.0, rest.leads);
        kept = λ k m at. rest.kept k m (get-append marks (here ∷ []) k m at);
      }
]

-- ---- the roots

any-pages : (known : Pages) (before : List Entry) (e : Entry) (root : ℕ) (new more : List NodePage) → IsRootOf known before e root new → IsRootOf known before e root more
any-pages known before (Create id) root new more is = is
any-pages known before (Define id spec) root new more is = is
any-pages known before (Retire stream least) root new more is = is
any-pages known before (Commit stream cut added) root new more is = is
any-pages known before (Distillate stream cut added reads) root new more is = is

lead-more : (p : Prefix) (e : Entry) (root : ℕ) (pages : List NodePage) (body : List ℕ) → length p.roots ≡ length p.entries → 1 ≤ p.gate → AreBelow p.gate p.pages → LeadAll p.pages p.entries p.roots → IsRootOf (pages_after p e pages) p.entries e root pages → LeadAll (pages_after p e pages) (p.entries ++ e ∷ []) (p.roots ++ root ∷ [])
lead-more p e root pages body counted some below was is n =
    let known = pages_after p e pages in
    let h = p.entries ++ e ∷ [] in
    let roots = p.roots ++ root ∷ [] in
    let same : AreSameBelow p.gate p.pages known = λ block low. pages-below p.pages (first_page p.gate e) block pages (omega (arith, low)) in
    if-each (slice_get h n) (λ f. IsRootOf known (take n h) f (get_or roots n 0) []) (λ f at. elim (push-at p.entries e n f at) [
      | inl old ↦
          let low : n < length p.entries = slice_get_within p.entries n f old in
          let then : IsRootOf p.pages (take n p.entries) f (get_or p.roots n 0) [] = if-at (slice_get p.entries n) (λ g. IsRootOf p.pages (take n p.entries) g (get_or p.roots n 0) []) f old (was n) in
          let now = root-along p.pages known p.gate (take n p.entries) f (get_or p.roots n 0) [] [] same (root-low p.gate p.pages (take n p.entries) f (get_or p.roots n 0) [] some below then) then in
          let firsts : take n p.entries ≡ take n h = sym (take-append-le n p.entries (e ∷ []) (omega (arith, low))) in
          let its : get_or p.roots n 0 ≡ get_or roots n 0 = sym (get_or_append_left p.roots (root ∷ []) 0 n (omega (arith, low, counted))) in
          subst {A = List Entry × ℕ} (λ c. IsRootOf known c.0 f c.1 []) (λ i. (firsts i, its i)) now
      | inr last ↦
          let firsts : p.entries ≡ take n h = sym (take_at p.entries (e ∷ []) n (sym last.0)) in
          let its : root ≡ get_or roots n 0 = sym (get_or_push p.roots root 0 n (omega (arith, counted, last.0))) in
          subst {A = List Entry × Entry × ℕ} (λ c. IsRootOf known c.0 c.1 c.2 []) (λ i. (firsts i, last.1 i, its i)) (any-pages known p.entries e root pages [] is)
    ])

lead-all : (p : Prefix) (bodies : List (List ℕ)) (q : Prefix) → LeadTo IsRootOf p bodies q → length p.roots ≡ length p.entries → 1 ≤ p.gate → AreBelow p.gate p.pages → LeadAll p.pages p.entries p.roots → LeadAll q.pages q.entries q.roots
lead-all p [] q leads counted some below was =
    subst (λ (r : Prefix). LeadAll r.pages r.entries r.roots) leads was
lead-all p (body ∷ bodies) q leads counted some below was = elim leads [
  | inl x ↦
      lead-all (with_extent p x.0 x.1 x.2 body) bodies q x.5 (omega (arith, counted, length-append p.entries (x.0 ∷ []), length-append p.roots (x.1 ∷ []))) (omega (arith, some)) (below-extent p x.0 x.1 x.2 body x.3) (lead-more p x.0 x.1 x.2 body counted some below was x.4)
  | inr x ↦
      lead-all (with_checkpoint p body) bodies q x.1 counted (omega (arith, some)) (λ block high. below block (omega (arith, high))) was
]

-- ---- the whole

-- The log is legal, the superblock names a start of it, and its end if the store is sealed, and the root of each entry leads to the tree of
-- its version.
pub record IsRightStore (image : Image) (s : Super) : Type 0 where
  pub whole : IsLegalLog image s
  pub named : IsNamedStart s whole.seen.marks
  pub ends : EndsAtSeal s whole.log.gate
  pub right : LeadAll whole.log.pages whole.seen.entries whole.seen.roots

module _ (size : ℕ) (image : Image) (blocks tail : ℕ) (h : List Entry) (holds : HoldsHistoryTo size image blocks tail h) (legal : Legal h) where
  abbrev final : Prefix
  final = prefix_to tail h holds.leads.roots holds.leads.pages

  -- The entries keep the rule, and the superblock names a start.
  record IsNamedWalk : Type 0 where
    marks : List Mark
    leads : LeadOnBy MayStand (reached_of no_extents) (seen_of no_extents []) holds.bodies (reached_of final) (seen_of final marks)
    named : IsNamedStart holds.super marks

  from-beginning : holds.super.checkpoint ≡ 0 → holds.super.tail ≡ first_gate → IsNamedWalk
  from-beginning none first =
      let on = keeps-on no_extents [] holds.bodies final refl holds.leads.lead legal in
      record { marks = on.more; leads = on.leads; named = inl (none, first) }

  module _ (m : IsMarked IsRootOf holds.bodies holds.super.checkpoint holds.super.tail) where
    abbrev here : Mark
    here = record { gate = m.log.gate; next = m.log.gate + need m.body }

    from-mark : IsNamedWalk
    from-mark =
        let first = keeps-on no_extents [] m.before m.log refl m.leads (legal-before m.log (m.body ∷ m.after) final (on-log size image blocks tail h holds m) legal) in
        let marks = first.more ++ here ∷ [] in
        let counted = LeadTo-roots IsRootOf no_extents m.before m.log m.leads refl in
        let rest = keeps-on (with_checkpoint m.log m.body) marks m.after final counted (on size image blocks tail h holds m) legal in
        let body : LeadOnBy MayStand (reached_of m.log) (seen_of m.log first.more) (m.body ∷ m.after) (reached_of final) (seen_of final rest.more) = inr (mark-body m.log m.body (needed_format m.log.entries) (omega arith) m.is, rest.leads) in
        let all = lead-append MayStand (reached_of no_extents) (seen_of no_extents []) m.before (reached_of m.log) (seen_of m.log first.more) (m.body ∷ m.after) (reached_of final) (seen_of final rest.more) first.leads body in
        let place = length first.more in
        let gate : m.log.gate ≡ holds.super.checkpoint = sym m.gate in
        let next : m.log.gate + need m.body ≡ holds.super.tail = ap (λ g. g + need m.body) gate ∙ sym m.next in
        let at : slice_get rest.more place ≡ Some here = rest.kept place here (get_last first.more here) in
        record {
          marks = rest.more;
          leads = subst (λ l. LeadOnBy MayStand (reached_of no_extents) (seen_of no_extents []) l (reached_of final) (seen_of final rest.more)) (sym m.parts) all;
          named = inr (place, at ∙ (λ i. Some (record { gate = gate i; next = next i })));
        }

  named-walk : IsNamedWalk
  named-walk = elim holds.starts [ inl first ↦ from-beginning first.0 first.1 | inr m ↦ from-mark m ]

  pub held-right : IsRightStore image holds.super
  held-right =
      let w = named-walk in
      let log = reached_of final in
      let all = seen_of final w.marks in
      record {
        whole = record {
          log = log;
          walk = record {
            start = beginning;
            starts = inl (refl, refl, refl);
            bodies = holds.bodies;
            extents = holds.extents;
            leads = lead-plain MayStand beginning (seen_of no_extents []) holds.bodies log all w.leads;
            formats = formats-first holds.super holds.bodies holds.chosen.stored.spelled.keeps.known_format.1 holds.formats;
            sealed = λ sealed. absurd (false≢true (sym (first-unsealed holds.super) ∙ sealed));
          };
          seen = all;
          keeps = w.leads;
          closed = holds.closed;
          inside = omega (arith, holds.inside, holds.same_blocks);
        };
        named = w.named;
        ends = holds.sealed;
        right = lead-all no_extents holds.bodies final holds.leads.lead refl (omega arith) (λ block high. refl) (λ n. tt);
      }
