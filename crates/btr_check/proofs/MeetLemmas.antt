-- Two walks over one log from its first gate, whose entries keep a rule and which both end, are one: they lead to the same gate, and the same
-- was seen. A walk ends at a closed gate, and at one whose extent breaks the format or the rule.
use Rattle.std.specs.Prelude.{◌≡◌, ◌⊎◌, ℕ, ◌+◌, ◌*◌, ◌<◌, ◌≤◌, ◌^◌, List, [], ◌∷◌}
use Rattle.std.specs.List.{flat_map, AllByRecursion}
use Rattle.std.proofs.Common.{refl, sym, ◌∙◌, ap, subst, inl, inr, arith}
use Rattle.btr_disk.specs.Bytes.{Image}
use Rattle.btr_disk.specs.Gate.{IsClosed}
use Rattle.btr_log.specs.declared.head.Head.{Head}
use Rattle.btr_log.specs.Extents.{need, IsExtent, Extents}
use Rattle.btr_log.proofs.ExtentLemmas.{IsBody-some, Extents-le}
use Rattle.btr_super.specs.declared.superblock.Super.{Super}
use Rattle.btr_node.specs.Page.{page_bytes}
use Rattle.btr_node.specs.declared.page.NodePage.{NodePage}
use Rattle.btr_hist.specs.declared.entry.Entry.{Entry}
use Rattle.btr_engine.specs.Body.{MayStandUnder}
use Rattle.btr_open.specs.Content.{MayHeadStand}
use Rattle.btr_open.specs.Reached.{Reached, with_entry, passed}
use Rattle.btr_open.specs.Start.{IsReadingStart}
use Rattle.btr_open.specs.Reached.{beginning}
use Rattle.btr_open.specs.Walk.{IsNextBody, IsCheckpointBody, IsWalk, BreaksBodyBy, IsDamagedNextBy}
use Rattle.btr_open.proofs.Formats.{head-may}
use Rattle.btr_open.proofs.UniqueLemmas.{next-one, next-content, marks-apart}
use Rattle.btr_open.proofs.UnbrokenLemmas.{one-body, head-of-body, extent-unbroken}
use Rattle.btr_open.specs.Seen.{Seen, nothing_seen, with_seen, with_mark, EntryRule, Lets, LeadOnBy, KeepsRule, first_reading}
use Rattle.btr_check.proofs.BreakLemmas.{entry-unbroken, mark-unbroken, gate-extent}

-- ---- where a walk ends

-- An extent has at least two blocks.
pub least-extent : (image : Image) (gate : ℕ) (body : List ℕ) (head : Head) → IsExtent image gate body head → 2 ≤ need body
least-extent image gate body head extent = omega (arith, IsBody-some body head extent.is_body)

module _ (May : EntryRule) (image : Image) (blocks format : ℕ) where
  -- The body is that of an entry that may follow and keeps the rule, or of a checkpoint.
  abbrev pub FollowsOn : Reached → Seen → List ℕ → Type 0
  FollowsOn log seen body =
      ((e : Entry) × (root : ℕ) × (pages : List NodePage) × IsNextBody log e root pages body × May seen.entries e root)
      ⊎ IsCheckpointBody log body

  -- No extent at the gate, inside the blocks, that may stand under this format has such a body.
  abbrev pub IsEnd : Reached → Seen → Type 0
  IsEnd log seen = (body : List ℕ) (head : Head) → IsExtent image log.gate body head → log.gate + need body < blocks → MayHeadStand format head → FollowsOn log seen body → ⊥

  -- A walk ends at a closed gate.
  pub closed-ends : (log : Reached) (seen : Seen) → IsClosed image log.gate → IsEnd log seen
  closed-ends log seen closed body head extent inside under follows = closed extent.is_open

-- It ends where the extent breaks the format or the rule.
pub damaged-ends : (May : EntryRule) (image : Image) (s : Super) (log : Reached) (seen : Seen) (block : ℕ) → s.blocks ≤ 2 ^ 32 → log.entries + 1 < 2 ^ 64 → IsDamagedNextBy (Lets May log seen.entries) image (first_reading s) log block → IsEnd May image s.blocks (first_reading s).format log seen
damaged-ends May image s log seen block limit few (inl x) body head extent inside under follows =
    extent-unbroken image log.gate body head extent s.blocks block inside (gate-extent image s log.gate block x)
damaged-ends May image s log seen block limit few (inr x) body head extent inside under follows =
    let same = one-body image log.gate body head extent x.body x.head x.extent in
    let heads : x.head ≡ head = head-of-body image log.gate body head extent x.body x.head x.extent in
    elim x.breaks [
      | inl above ↦ above.0 (subst (MayHeadStand (first_reading s).format) (sym heads) under)
      | inr breaks ↦
          let here : BreaksBodyBy (Lets May log seen.entries) image 0 log body block = subst (λ c. BreaksBodyBy (Lets May log seen.entries) image 0 log c block) same breaks.1 in
          elim follows [
            | inl n ↦ entry-unbroken (Lets May log seen.entries) image log body few n.0 n.1 n.2 block (omega (arith, inside, limit)) n.3 (n.3.allowed, n.4) here
            | inr n ↦ mark-unbroken (Lets May log seen.entries) image log body few block n here
          ]
    ]

-- ---- two walks

module _ (May : EntryRule) (image : Image) (blocks format : ℕ) (limit : blocks ≤ 2 ^ 32) where
  -- The entries seen of a body that leads on follow.
  first-follows : (log : Reached) (seen : Seen) (body : List ℕ) (bodies : List (List ℕ)) (after : Reached) (all : Seen) → LeadOnBy May log seen (body ∷ bodies) after all → FollowsOn May image blocks format log seen body
  first-follows log seen body bodies after all leads = elim leads [ inl x ↦ inl (x.0, x.1, x.2, x.3, x.4) | inr x ↦ inr x.0 ]

  not-ended : (log : Reached) (seen : Seen) (body : List ℕ) (bodies : List (List ℕ)) (after : Reached) (all : Seen) → LeadOnBy May log seen (body ∷ bodies) after all → MayStandUnder format body → Extents image log.gate (body ∷ bodies) after.gate → after.gate < blocks → IsEnd May image blocks format log seen → ⊥
  not-ended log seen body bodies after all leads under x inside ends =
      ends body x.0.0 x.0.1 (omega (arith, inside, Extents-le image (log.gate + need body) bodies after.gate x.1)) (head-may format body x.0.0 x.0.1.is_body under) (first-follows log seen body bodies after all leads)

  pub meet : (log : Reached) (seen : Seen) (bodies others : List (List ℕ)) (after : Reached) (all : Seen) (other : Reached) (all_too : Seen) → 2 * log.entries + 4 ≤ log.gate → LeadOnBy May log seen bodies after all → AllByRecursion (MayStandUnder format) bodies → Extents image log.gate bodies after.gate → after.gate < blocks → IsEnd May image blocks format after all → LeadOnBy May log seen others other all_too → AllByRecursion (MayStandUnder format) others → Extents image log.gate others other.gate → other.gate < blocks → IsEnd May image blocks format other all_too → (after ≡ other) × (all ≡ all_too)
  meet log seen [] [] after all other all_too counted leads formats x inside ends leads_too formats_too y inside_too ends_too =
      (sym leads.0 ∙ leads_too.0, sym leads.1 ∙ leads_too.1)
  meet log seen [] (c ∷ others) after all other all_too counted leads formats x inside ends leads_too formats_too y inside_too ends_too =
      let here : IsEnd May image blocks format log seen = subst {A = Reached × Seen} (λ p. IsEnd May image blocks format p.0 p.1) (λ i. (sym leads.0 i, sym leads.1 i)) ends in
      absurd (not-ended log seen c others other all_too leads_too formats_too.0 y inside_too here)
  meet log seen (b ∷ bodies) [] after all other all_too counted leads formats x inside ends leads_too formats_too y inside_too ends_too =
      let here : IsEnd May image blocks format log seen = subst {A = Reached × Seen} (λ p. IsEnd May image blocks format p.0 p.1) (λ i. (sym leads_too.0 i, sym leads_too.1 i)) ends_too in
      absurd (not-ended log seen b bodies after all leads formats.0 x inside here)
  meet log seen (b ∷ bodies) (c ∷ others) after all other all_too counted leads formats x inside ends leads_too formats_too y inside_too ends_too =
      let le = Extents-le image (log.gate + need b) bodies after.gate x.1 in
      let least = least-extent image log.gate b x.0.0 x.0.1 in
      let same : c ≡ b = one-body image log.gate b x.0.0 x.0.1 c y.0.0 y.0.1 in
      let rest = subst (λ d. Extents image (log.gate + need d) others other.gate) same y.1 in
      let size : need b ≤ 2 ^ 64 = omega (arith, le, inside, limit) in
      let few : log.entries + 1 < 2 ^ 64 = omega (arith, counted, le, inside, limit) in
      elim leads [
        | inl n ↦ elim leads_too [
          | inl m ↦
              let here : IsNextBody log m.0 m.1 m.2 b = subst (IsNextBody log m.0 m.1 m.2) same m.3 in
              let one = next-one log log n.0 m.0 n.1 m.1 n.2 m.2 b refl few size n.3 here in
              let next = with_entry log n.0 n.1 n.2 b in
              let more = with_seen seen n.0 n.1 in
              let ahead : LeadOnBy May next more others other all_too = subst {A = Reached × Seen} (λ p. LeadOnBy May p.0 p.1 others other all_too) (λ i. (with_entry log (sym one.0 i) (sym one.1 i) (sym one.2 i) (same i), with_seen seen (sym one.0 i) (sym one.1 i))) m.5 in
              meet next more bodies others after all other all_too (omega (arith, counted, least)) n.5 formats.1 x.1 inside ends ahead formats_too.1 rest inside_too ends_too
          | inr m ↦
              absurd (marks-apart log (log.entries + 1) n.0 n.1 (flat_map page_bytes n.2) b (next-content log n.0 n.1 n.2 b n.3 size) (subst (IsCheckpointBody log) same m.0))
        ]
        | inr n ↦ elim leads_too [
          | inl m ↦
              absurd (marks-apart log (log.entries + 1) m.0 m.1 (flat_map page_bytes m.2) c (next-content log m.0 m.1 m.2 c m.3 (subst (λ d. need d ≤ 2 ^ 64) (sym same) size)) (subst (IsCheckpointBody log) (sym same) n.0))
          | inr m ↦
              let ahead : LeadOnBy May (passed log b) (with_mark seen log.gate (log.gate + need b)) others other all_too = subst (λ d. LeadOnBy May (passed log d) (with_mark seen log.gate (log.gate + need d)) others other all_too) same m.1 in
              meet (passed log b) (with_mark seen log.gate (log.gate + need b)) bodies others after all other all_too (omega (arith, counted, least)) n.1 formats.1 x.1 inside ends ahead formats_too.1 rest inside_too ends_too
        ]
      ]

-- ---- from the first gate

-- A walk of a whole log starts at the beginning.
pub whole-start : (image : Image) (s : Super) (start : Reached) → IsReadingStart image (first_reading s) start → start ≡ beginning
whole-start image s start (inl x) = x.2
whole-start image s start (inr x) = absurd (omega (arith, x.0))

-- The bodies of a walk of a whole log lead on from the beginning. Each may stand under this format.
pub record IsWholeWalk (May : EntryRule) (image : Image) (format : ℕ) (log : Reached) (seen : Seen) : Type 0 where
  pub bodies : List (List ℕ)
  pub extents : Extents image beginning.gate bodies log.gate
  pub leads : LeadOnBy May beginning nothing_seen bodies log seen
  pub formats : AllByRecursion (MayStandUnder format) bodies

pub whole-walk : (May : EntryRule) (image : Image) (s : Super) (log : Reached) (seen : Seen) (walk : IsWalk image (first_reading s) log) → KeepsRule May walk seen → IsWholeWalk May image (first_reading s).format log seen
whole-walk May image s log seen walk keeps =
    let same = whole-start image s walk.start walk.starts in
    record {
      bodies = walk.bodies;
      extents = subst (λ (p : Reached). Extents image p.gate walk.bodies log.gate) same walk.extents;
      leads = subst (λ (p : Reached). LeadOnBy May p nothing_seen walk.bodies log seen) same keeps;
      formats = walk.formats;
    }

-- The entries of a whole walk are few enough for its gate.
pub counted-on : (May : EntryRule) (image : Image) (log : Reached) (seen : Seen) (bodies : List (List ℕ)) (after : Reached) (all : Seen) → 2 * log.entries + 4 ≤ log.gate → LeadOnBy May log seen bodies after all → Extents image log.gate bodies after.gate → 2 * after.entries + 4 ≤ after.gate
counted-on May image log seen [] after all counted leads x = subst (λ (p : Reached). 2 * p.entries + 4 ≤ p.gate) leads.0 counted
counted-on May image log seen (b ∷ bodies) after all counted leads x =
    let least = least-extent image log.gate b x.0.0 x.0.1 in
    elim leads [
      | inl n ↦ counted-on May image (with_entry log n.0 n.1 n.2 b) (with_seen seen n.0 n.1) bodies after all (omega (arith, counted, least)) n.5 x.1
      | inr n ↦ counted-on May image (passed log b) (with_mark seen log.gate (log.gate + need b)) bodies after all (omega (arith, counted, least)) n.1 x.1
    ]

-- The number of the next entry of a whole walk that ends inside the store fits eight bytes.
pub few-next : (May : EntryRule) (image : Image) (blocks format : ℕ) (log : Reached) (seen : Seen) → blocks ≤ 2 ^ 32 → IsWholeWalk May image format log seen → log.gate < blocks → log.entries + 1 < 2 ^ 64
few-next May image blocks format log seen limit walk inside =
    omega (arith, limit, inside, counted-on May image beginning nothing_seen walk.bodies log seen (omega arith) walk.leads walk.extents)

-- Two whole walks that end inside the store are one.
pub one-walk : (May : EntryRule) (image : Image) (blocks format : ℕ) (log other : Reached) (seen seen_too : Seen) → blocks ≤ 2 ^ 32 → IsWholeWalk May image format log seen → log.gate < blocks → IsEnd May image blocks format log seen → IsWholeWalk May image format other seen_too → other.gate < blocks → IsEnd May image blocks format other seen_too → (log ≡ other) × (seen ≡ seen_too)
one-walk May image blocks format log other seen seen_too limit x inside ends y inside_too ends_too =
    meet May image blocks format limit beginning nothing_seen x.bodies y.bodies log seen other seen_too (omega arith) x.leads x.formats x.extents inside ends y.leads y.formats y.extents inside_too ends_too
