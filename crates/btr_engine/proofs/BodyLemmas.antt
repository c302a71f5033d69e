-- Lemmas on bodies: their lengths, that they are bodies, which entry a body is of, that none is an entry's and a checkpoint's, one more
-- after others, and which history bodies lead to.
use Rattle.std.specs.Prelude.{◌≡◌, ℕ, ◌+◌, ◌*◌, ◌<◌, ◌≤◌, ◌^◌, max, List, [], ◌∷◌, ◌++◌, length, take}
use Rattle.btr_base.specs.Commit.{Change}
use Rattle.std.specs.List.{flat_map, AllByRecursion}
use Rattle.std.proofs.Common.{refl, sym, ◌∙◌, ap, subst, inl, inr, ⊎_elim, arith, length-append}
use Rattle.std.proofs.lemmas.List.{take_at}
use Rattle.std.proofs.lemmas.Nat.{from_be_bytes-to_be_bytes_4}
use Rattle.btr_disk.specs.Gate.{zeros}
use Rattle.btr_disk.specs.Numbers.{u32_at}
use Rattle.btr_disk.proofs.GateLemmas.{length-zeros}
use Rattle.btr_log.specs.declared.head.Head.{Head}
use Rattle.btr_log.specs.Head.{content_blocks, head_bytes, IsHead, entry_head, checkpoint_head}
use Rattle.btr_log.proofs.HeadLemmas.{length-head_bytes, head_bytes-one, IsHead-entry_head, format-spells}
use Rattle.btr_log.specs.Extents.{IsBody, need}
use Rattle.btr_node.specs.Page.{page_bytes, Fits}
use Rattle.btr_node.specs.declared.page.NodePage.{NodePage}
use Rattle.btr_pages.proofs.PageOfLemmas.{HasPlaces}
use Rattle.btr_pages.proofs.BlockLemmas.{parts-one, each-places, length-pages, pages-one}
use Rattle.btr_hist.specs.declared.entry.Entry.{Entry}
use Rattle.btr_hist.specs.declared.entry.Entry.TheVariants.{Create, Define, Commit, Distillate, Retire}
use Rattle.btr_entry.specs.Grammar.{spelling, IsSpelled}
use Rattle.btr_entry.specs.Format.{format_of}
use Rattle.btr_entry.proofs.FormatLemmas.{format-from, format-to}
use Rattle.btr_roll.specs.Roll.{roll_bytes}
use Rattle.btr_entry.proofs.SpellingLemmas.{length-spelling, same_entry}
use Rattle.btr_streams.specs.Rolling.{roll_of}
use Rattle.btr_engine.specs.Body.{padding, body_of, format_in, MayStandUnder, Prefix, pages_after, with_extent, MayHavePages, IsBodyOf, nodes_of}
use Rattle.btr_engine.specs.Body.{needed_format, checkpoint_body, IsCheckpointOf, with_checkpoint, RootRule, LeadTo}

-- ---- the length of a body, and that it is a body

-- The spelling of an entry, and zeros up to the end of the last block of the content.
abbrev pub filled : Entry → List ℕ
filled e = spelling e ++ zeros (padding (length (spelling e)))

-- The head of the body of an entry.
abbrev pub head_of : ℕ → Entry → ℕ → List NodePage → Head
head_of number e root pages = entry_head (format_of e) number (length (spelling e)) (length pages) root

pub length-body_of : (number : ℕ) (e : Entry) (root : ℕ) (pages : List NodePage) → AllByRecursion HasPlaces pages → length (body_of number e root pages) ≡ 4096 * (content_blocks (length (spelling e)) + length pages)
unfolding body_of
length-body_of number e root pages places =
    let head = head_of number e root pages in
    omega (arith, length-append (head_bytes head) (filled e ++ flat_map page_bytes pages), length-append (filled e) (flat_map page_bytes pages), length-append (spelling e) (zeros (padding (length (spelling e)))), length-head_bytes head, length-zeros (padding (length (spelling e))), length-pages pages places)

-- The numbers of a body fit their fields, its entry can be spelled, and its pages have all their places.
pub record FitsBody (number : ℕ) (e : Entry) (root : ℕ) (pages : List NodePage) : Type 0 where
  pub some : 1 ≤ number
  pub few : number < 2 ^ 64
  pub spelled : IsSpelled e
  pub low : root < 2 ^ 64
  pub places : AllByRecursion HasPlaces pages
  pub room : content_blocks (length (spelling e)) + length pages < 2 ^ 64

module _ (number : ℕ) (e : Entry) (root : ℕ) (pages : List NodePage) where
  -- The head of a body keeps the grammar.
  pub IsHead-head_of : FitsBody number e root pages → IsHead (head_of number e root pages)
  IsHead-head_of is =
      IsHead-entry_head (format_of e) number (length (spelling e)) (length pages) root (format-from e) (omega (arith, (format-to e))) is.some is.few (omega (arith, length-spelling e is.spelled)) is.room is.low

  take-head : take 64 (body_of number e root pages) ≡ head_bytes (head_of number e root pages)
  unfolding body_of
  take-head =
      let head = head_of number e root pages in
      take_at (head_bytes head) (filled e ++ flat_map page_bytes pages) 64 (length-head_bytes head)

  pub IsBody-body_of : FitsBody number e root pages → IsBody (body_of number e root pages) (head_of number e root pages)
  IsBody-body_of is = record {
    spells = record { is_head = IsHead-head_of is; spelling = take-head };
    whole = length-body_of number e root pages is.places;
  }

  -- The format in the body is the entry's.
  pub format-body_of : format_in (body_of number e root pages) ≡ format_of e
  unfolding body_of head_bytes
  format-body_of = from_be_bytes-to_be_bytes_4 (format_of e) (omega (arith, (format-to e)))

  -- The blocks of a body and of the gate after it.
  pub need-body_of : AllByRecursion HasPlaces pages → need (body_of number e root pages) ≡ content_blocks (length (spelling e)) + length pages + 1
  need-body_of places = omega (arith, length-body_of number e root pages places)

module _ (before : Prefix) (e : Entry) (root : ℕ) (pages : List NodePage) (body : List ℕ) (is : IsBodyOf before e root pages body) where
  needed : need body ≡ content_blocks (length (spelling e)) + length pages + 1
  needed = ap need is.bytes ∙ need-body_of (length before.entries + 1) e root pages (each-places pages is.fits)

  -- A body and the gate after it are at least two blocks.
  pub least-IsBodyOf : 2 ≤ need body
  least-IsBodyOf = omega (arith, needed)

  -- A body that is not too long fits.
  pub FitsBody-of : length before.entries + 1 < 2 ^ 64 → need body ≤ 2 ^ 64 → FitsBody (length before.entries + 1) e root pages
  FitsBody-of few short = record {
    some = omega arith;
    few = few;
    spelled = is.spelled;
    low = is.low;
    places = each-places pages is.fits;
    room = omega (arith, short, needed);
  }

-- An entry with as many pages as it has nodes may have them.
pub may-have : (past : List Change) (e : Entry) (pages : List NodePage) → length pages ≡ nodes_of past e → MayHavePages e pages
may-have past (Create id) pages of = tt
may-have past (Commit stream cut added) pages of = tt
may-have past (Define id spec) pages of = tt
may-have past (Distillate stream cut added reads) pages of = tt
may-have past (Retire stream first) [] of = refl
may-have past (Retire stream first) (page ∷ pages) of = absurd (omega (arith, of))

-- ---- the entry of a body

-- Two bodies with the same number are of the same entry, with the same root and the same pages.
abbrev pub SameBody : Entry → ℕ → List NodePage → Entry → ℕ → List NodePage → Type 0
SameBody e root pages f other others = (e ≡ f) × (root ≡ other) × (pages ≡ others)

pub body_of-one : (number : ℕ) (e f : Entry) (root other : ℕ) (pages others : List NodePage) → FitsBody number e root pages → FitsBody number f other others → AllByRecursion Fits pages → AllByRecursion Fits others → body_of number e root pages ≡ body_of number f other others → SameBody e root pages f other others
unfolding body_of
body_of-one number e f root other pages others is is_too fits fit same =
    let first = head_of number e root pages in
    let second = head_of number f other others in
    let pads = λ (x : Entry). length-append (spelling x) (zeros (padding (length (spelling x)))) in
    let parts = parts-one (head_bytes first) (head_bytes second) (filled e ++ flat_map page_bytes pages) (filled f ++ flat_map page_bytes others) (length-head_bytes first ∙ sym (length-head_bytes second)) same in
    let heads : first ≡ second = head_bytes-one first second (IsHead-head_of number e root pages is) (IsHead-head_of number f other others is_too) parts.0 in
    let size : length (spelling e) ≡ length (spelling f) = ap (λ (h : Head). h.length) heads in
    let long : length (filled e) ≡ length (filled f) =
    pads e ∙ ap (λ n. n + length (zeros (padding n))) size ∙ sym (pads f) in
    let contents = parts-one (filled e) (filled f) (flat_map page_bytes pages) (flat_map page_bytes others) long parts.1 in
    let spellings = parts-one (spelling e) (spelling f) (zeros (padding (length (spelling e)))) (zeros (padding (length (spelling f)))) size contents.0 in (
      same_entry e f is.spelled is_too.spelled spellings.0,
      ap (λ (h : Head). h.root) heads,
      pages-one pages others fits fit contents.1,
    )

-- A body that is not too long is that of one entry at most, with one root and one list of pages.
pub IsBodyOf-one : (before : Prefix) (e f : Entry) (root other : ℕ) (pages others : List NodePage) (body : List ℕ) → length before.entries + 1 < 2 ^ 64 → need body ≤ 2 ^ 64 → IsBodyOf before e root pages body → IsBodyOf before f other others body → SameBody e root pages f other others
IsBodyOf-one before e f root other pages others body few short is is_too =
    body_of-one (length before.entries + 1) e f root other pages others (FitsBody-of before e root pages body is few short) (FitsBody-of before f other others body is_too few short) is.fits is_too.fits (sym is.bytes ∙ is_too.bytes)

-- ---- the body of a checkpoint

-- The content of a checkpoint of this format: the streams with all their versions.
abbrev pub content_of : ℕ → List Entry → List ℕ → List ℕ
content_of format h roots = roll_bytes format (roll_of h roots)

-- The least format of a checkpoint is 1, and after one entry more it is the greater of what it was and the entry's.
pub some-needed : (h : List Entry) → 1 ≤ needed_format h
some-needed [] = omega arith
some-needed (e ∷ h) = omega (arith, some-needed h)

pub needed-push : (h : List Entry) (e : Entry) → needed_format (h ++ e ∷ []) ≡ max (needed_format h) (format_of e)
needed-push [] e = omega (arith, (format-from e))
needed-push (f ∷ h) e = omega (arith, needed-push h e)

module _ (format : ℕ) (h : List Entry) (roots : List ℕ) where
  -- The content, and zeros up to the end of its last block.
  abbrev filled_content : List ℕ
  filled_content = content_of format h roots ++ zeros (padding (length (content_of format h roots)))

  -- The head of the body.
  abbrev pub head_of_checkpoint : Head
  head_of_checkpoint = checkpoint_head format (length h) (length (content_of format h roots))

  pub length-checkpoint_body : length (checkpoint_body format h roots) ≡ 4096 * content_blocks (length (content_of format h roots))
  unfolding checkpoint_body
  length-checkpoint_body =
      let size = length (content_of format h roots) in
      omega (arith, length-append (head_bytes head_of_checkpoint) filled_content, length-append (content_of format h roots) (zeros (padding size)), length-head_bytes head_of_checkpoint, length-zeros (padding size))

  -- The head of a checkpoint keeps the grammar, if its numbers fit.
  pub IsHead-checkpoint : 1 ≤ format → format ≤ 4 → length h < 2 ^ 64 → length (content_of format h roots) < 2 ^ 64 → IsHead head_of_checkpoint
  IsHead-checkpoint some known few short = record {
    kind = inr (refl, refl, refl);
    format = (some, known);
    blocks = omega arith;
    fits = record { number = few; n = omega (arith, short); length = short; nodes = omega arith; root = omega arith };
  }

  pub IsBody-checkpoint_body : 1 ≤ format → format ≤ 4 → length h < 2 ^ 64 → length (content_of format h roots) < 2 ^ 64 → IsBody (checkpoint_body format h roots) head_of_checkpoint
  unfolding checkpoint_body
  IsBody-checkpoint_body some known few short = record {
    spells = record {
      is_head = IsHead-checkpoint some known few short;
      spelling = take_at (head_bytes head_of_checkpoint) filled_content 64 (length-head_bytes head_of_checkpoint);
    };
    whole = length-checkpoint_body;
  }

  -- The blocks of the body and of the gate after it.
  pub need-checkpoint_body : need (checkpoint_body format h roots) ≡ content_blocks (length (content_of format h roots)) + 1
  need-checkpoint_body = omega (arith, length-checkpoint_body)

-- The body of a checkpoint and the gate after it are at least two blocks.
pub least-IsCheckpointOf : (before : Prefix) (body : List ℕ) → IsCheckpointOf before body → 2 ≤ need body
least-IsCheckpointOf before body is =
    let same : need body ≡ need (checkpoint_body is.format before.entries before.roots) = ap need is.bytes in
    omega (arith, same, need-checkpoint_body is.format before.entries before.roots)

-- The format in the body of a checkpoint.
pub format-IsCheckpointOf : (before : Prefix) (body : List ℕ) (is : IsCheckpointOf before body) → format_in body ≡ is.format
unfolding checkpoint_body head_bytes
format-IsCheckpointOf before body is =
    ap format_in is.bytes ∙ from_be_bytes-to_be_bytes_4 is.format (omega (arith, is.most))

-- The kind in the head.
kind-head_bytes : (head : Head) → head.kind < 2 ^ 32 → u32_at 8 (head_bytes head) ≡ head.kind
unfolding head_bytes
kind-head_bytes head small = from_be_bytes-to_be_bytes_4 head.kind small

-- No body is an entry's and a checkpoint's: the kinds in their heads differ.
apart : (number : ℕ) (e : Entry) (root : ℕ) (pages : List NodePage) (format : ℕ) (h : List Entry) (roots : List ℕ) → body_of number e root pages ≡ checkpoint_body format h roots → ⊥
unfolding body_of checkpoint_body
apart number e root pages format h roots same =
    let first = head_of number e root pages in
    let second = head_of_checkpoint format h roots in
    let parts = parts-one (head_bytes first) (head_bytes second) (filled e ++ flat_map page_bytes pages) (filled_content format h roots) (length-head_bytes first ∙ sym (length-head_bytes second)) same in
    let kinds : 1 ≡ 2 = sym (kind-head_bytes first (omega arith)) ∙ ap (u32_at 8) parts.0 ∙ kind-head_bytes second (omega arith) in
    absurd (omega (arith, kinds))

pub kinds-apart : (before : Prefix) (e : Entry) (root : ℕ) (pages : List NodePage) (other : Prefix) (body : List ℕ) → IsBodyOf before e root pages body → IsCheckpointOf other body → ⊥
kinds-apart before e root pages other body is marks =
    apart (length before.entries + 1) e root pages marks.format other.entries other.roots (sym is.bytes ∙ marks.bytes)

-- ---- the format of a body

-- The format of a body is that of its head.
pub format-body : (body : List ℕ) (head : Head) → IsBody body head → format_in body ≡ head.format
format-body body head is = format-spells body head is.spells

pub stands-under : (limit : ℕ) (body : List ℕ) (head : Head) → IsBody body head → head.format ≤ limit → MayStandUnder limit body
stands-under limit body head is under = inl (omega (arith, format-body body head is, under))

-- One body more.
pub formats-push : (limit : ℕ) (bodies : List (List ℕ)) (body : List ℕ) → AllByRecursion (MayStandUnder limit) bodies → MayStandUnder limit body → AllByRecursion (MayStandUnder limit) (bodies ++ body ∷ [])
formats-push limit [] body all last = (last, tt)
formats-push limit (first ∷ bodies) body all last = (all.0, formats-push limit bodies body all.1 last)

-- The others of some bodies.
pub formats-rest : (limit : ℕ) (first others : List (List ℕ)) → AllByRecursion (MayStandUnder limit) (first ++ others) → AllByRecursion (MayStandUnder limit) others
formats-rest limit [] others all = all
formats-rest limit (body ∷ first) others all = formats-rest limit first others all.1

-- A greater limit.
stands-more : (limit other : ℕ) (body : List ℕ) → limit ≤ other → MayStandUnder limit body → MayStandUnder other body
stands-more limit other body more may =
    ⊎_elim (λ under. inl (omega (arith, under, more))) (λ sealed. inr sealed) may

pub formats-under : (limit other : ℕ) (bodies : List (List ℕ)) → limit ≤ other → AllByRecursion (MayStandUnder limit) bodies → AllByRecursion (MayStandUnder other) bodies
formats-under limit other [] more all = tt
formats-under limit other (body ∷ bodies) more all =
    (stands-more limit other body more all.0, formats-under limit other bodies more all.1)

-- ---- bodies that lead from one prefix to another

module _ (Rule : RootRule) where
  -- Bodies, and then others.
  pub LeadTo-append : (before : Prefix) (bodies : List (List ℕ)) (mid : Prefix) (more : List (List ℕ)) (after : Prefix) → LeadTo Rule before bodies mid → LeadTo Rule mid more after → LeadTo Rule before (bodies ++ more) after
  LeadTo-append before [] mid more after leads rest = subst (λ p. LeadTo Rule p more after) (sym leads) rest
  LeadTo-append before (body ∷ bodies) mid more after leads rest = elim leads [
    | inl x ↦ inl (
      x.0,
      x.1,
      x.2,
      x.3,
      x.4,
      LeadTo-append (with_extent before x.0 x.1 x.2 body) bodies mid more after x.5 rest,
    )
    | inr x ↦ inr (x.0, LeadTo-append (with_checkpoint before body) bodies mid more after x.1 rest)
  ]

  -- The body of an entry more after others.
  pub LeadTo-push : (before : Prefix) (bodies : List (List ℕ)) (at : Prefix) (e : Entry) (root : ℕ) (pages : List NodePage) (body : List ℕ) → LeadTo Rule before bodies at → IsBodyOf at e root pages body → Rule (pages_after at e pages) at.entries e root pages → LeadTo Rule before (bodies ++ body ∷ []) (with_extent at e root pages body)
  LeadTo-push before bodies at e root pages body leads is keeps =
      LeadTo-append before bodies at (body ∷ []) (with_extent at e root pages body) leads (inl (e, root, pages, is, keeps, refl))

  -- The body of a checkpoint more after others.
  pub LeadTo-mark : (before : Prefix) (bodies : List (List ℕ)) (at : Prefix) (body : List ℕ) → LeadTo Rule before bodies at → IsCheckpointOf at body → LeadTo Rule before (bodies ++ body ∷ []) (with_checkpoint at body)
  LeadTo-mark before bodies at body leads is =
      LeadTo-append before bodies at (body ∷ []) (with_checkpoint at body) leads (inr (is, refl))

  -- The prefix after the first bodies.
  pub LeadTo-split : (before : Prefix) (bodies more : List (List ℕ)) (after : Prefix) → LeadTo Rule before (bodies ++ more) after → (mid : Prefix) × LeadTo Rule before bodies mid × LeadTo Rule mid more after
  LeadTo-split before [] more after leads = (before, refl, leads)
  LeadTo-split before (body ∷ bodies) more after leads = elim leads [
    | inl x ↦
        let rest = LeadTo-split (with_extent before x.0 x.1 x.2 body) bodies more after x.5 in
        (rest.0, inl (x.0, x.1, x.2, x.3, x.4, rest.1), rest.2)
    | inr x ↦
        let rest = LeadTo-split (with_checkpoint before body) bodies more after x.1 in
        (rest.0, inr (x.0, rest.1), rest.2)
  ]

  -- Each body is that of one entry at most.
  pub LeadTo-length : (before : Prefix) (bodies : List (List ℕ)) (after : Prefix) → LeadTo Rule before bodies after → length after.entries ≤ length before.entries + length bodies
  LeadTo-length before [] after leads =
      let same : length before.entries ≡ length after.entries = ap (λ (p : Prefix). length p.entries) leads in
      omega (arith, same)
  LeadTo-length before (body ∷ bodies) after leads = elim leads [
    | inl x ↦ omega (arith, LeadTo-length (with_extent before x.0 x.1 x.2 body) bodies after x.5, length-append before.entries (x.0 ∷ []))
    | inr x ↦ omega (arith, LeadTo-length (with_checkpoint before body) bodies after x.1)
  ]

  -- Each entry has one root.
  pub LeadTo-roots : (before : Prefix) (bodies : List (List ℕ)) (after : Prefix) → LeadTo Rule before bodies after → length before.roots ≡ length before.entries → length after.roots ≡ length after.entries
  LeadTo-roots before [] after leads same = subst (λ (p : Prefix). length p.roots ≡ length p.entries) leads same
  LeadTo-roots before (body ∷ bodies) after leads same = elim leads [
    | inl x ↦
        LeadTo-roots (with_extent before x.0 x.1 x.2 body) bodies after x.5 (omega (arith, same, length-append before.entries (x.0 ∷ []), length-append before.roots (x.1 ∷ [])))
    | inr x ↦ LeadTo-roots (with_checkpoint before body) bodies after x.1 same
  ]

  -- Each body has at least two blocks, with the gate after it.
  pub LeadTo-gate : (before : Prefix) (bodies : List (List ℕ)) (after : Prefix) → LeadTo Rule before bodies after → before.gate + 2 * length bodies ≤ after.gate
  LeadTo-gate before [] after leads =
      let same : before.gate ≡ after.gate = ap (λ (p : Prefix). p.gate) leads in
      omega (arith, same)
  LeadTo-gate before (body ∷ bodies) after leads = elim leads [
    | inl x ↦
        omega (arith, LeadTo-gate (with_extent before x.0 x.1 x.2 body) bodies after x.5, least-IsBodyOf before x.0 x.1 x.2 body x.3)
    | inr x ↦
        omega (arith, LeadTo-gate (with_checkpoint before body) bodies after x.1, least-IsCheckpointOf before body x.0)
  ]

  -- If no body has a greater format than `limit` but that of a seal, no entry has: that is no entry's.
  pub LeadTo-needed : (limit : ℕ) (before : Prefix) (bodies : List (List ℕ)) (after : Prefix) → LeadTo Rule before bodies after → AllByRecursion (MayStandUnder limit) bodies → needed_format before.entries ≤ limit → needed_format after.entries ≤ limit
  LeadTo-needed limit before [] after leads formats least =
      subst (λ (p : Prefix). needed_format p.entries ≤ limit) leads least
  LeadTo-needed limit before (body ∷ bodies) after leads formats least = elim leads [
    | inl x ↦
        let format : format_in body ≡ format_of x.0 = ap format_in x.3.bytes ∙ format-body_of (length before.entries + 1) x.0 x.1 x.2 in
        let under : format_of x.0 ≤ limit = ⊎_elim (λ le. omega (arith, le, format)) (λ sealed. absurd (omega (arith, sealed, format, format-to x.0))) formats.0 in
        LeadTo-needed limit (with_extent before x.0 x.1 x.2 body) bodies after x.5 formats.1 (omega (arith, under, least, needed-push before.entries x.0))
    | inr x ↦ LeadTo-needed limit (with_checkpoint before body) bodies after x.1 formats.1 least
  ]

  -- Bodies that lead to one prefix by one rule and to another by another rule lead to the same, if its gate and its entries have numbers
  -- of 64 bits.
  pub LeadTo-one : (Other : RootRule) (before : Prefix) (bodies : List (List ℕ)) (after other : Prefix) → length before.entries + length bodies < 2 ^ 64 → after.gate < 2 ^ 64 → LeadTo Rule before bodies after → LeadTo Other before bodies other → after ≡ other
  LeadTo-one Other before [] after other few short first second = sym first ∙ second
  LeadTo-one Other before (body ∷ bodies) after other few short first second = elim first [
    | inl x ↦ elim second [
      | inl y ↦
          let next = with_extent before x.0 x.1 x.2 body in
          let size : need body ≤ 2 ^ 64 = omega (arith, short, LeadTo-gate next bodies after x.5) in
          let same = IsBodyOf-one before x.0 y.0 x.1 y.1 x.2 y.2 body (omega (arith, few)) size x.3 y.3 in
          let here : with_extent before y.0 y.1 y.2 body ≡ next = λ i. with_extent before (sym same.0 i) (sym same.1 i) (sym same.2 i) body in
          LeadTo-one Other next bodies after other (omega (arith, few, length-append before.entries (x.0 ∷ []))) short x.5 (subst (λ p. LeadTo Other p bodies other) here y.5)
      | inr y ↦ absurd (kinds-apart before x.0 x.1 x.2 before body x.3 y.0)
    ]
    | inr x ↦ elim second [
      | inl y ↦ absurd (kinds-apart before y.0 y.1 y.2 before body y.3 x.0)
      | inr y ↦ LeadTo-one Other (with_checkpoint before body) bodies after other (omega (arith, few)) short x.1 y.1
    ]
  ]
