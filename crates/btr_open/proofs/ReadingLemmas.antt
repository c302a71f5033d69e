-- Lemmas on the reading of one body: what is read then, up to the gate after it, and why it breaks the format.
use Rattle.std.specs.Prelude.{◌≡◌, ℕ, ◌+◌, ◌-◌, ◌^◌, ◌<◌, ◌≤◌, List, [], ◌∷◌, ◌++◌, length, slice_get, Some, None, IfSome, IsSome}
use Rattle.std.specs.List.{flat_map}
use Rattle.std.proofs.Common.{refl, sym, ◌∙◌, ap, subst, arith, inl, inr}
use Rattle.std.proofs.lemmas.Option.{IfSome_then}
use Rattle.btr_disk.specs.Bytes.{Image}
use Rattle.btr_log.specs.declared.head.Head.{Head}
use Rattle.btr_log.specs.Extents.{IsBody, need}
use Rattle.btr_node.specs.Page.{page_bytes}
use Rattle.btr_node.specs.declared.page.NodePage.{NodePage}
use Rattle.btr_tree.specs.PageNodes.{Pages}
use Rattle.btr_pages.specs.Pages.{with_pages, HasChildPage, IsPageAt}
use Rattle.btr_pages.specs.Known.{AreKnown, ArePartOf}
use Rattle.btr_pages.proofs.BlockLemmas.{each-places}
use Rattle.btr_pages.proofs.KnownLemmas.{pages-below}
use Rattle.btr_pages.proofs.ReportedLemmas.{page-in}
use Rattle.btr_tree.specs.Leads.{node_to}
use Rattle.btr_tree.specs.Nodes.{above_root}
use Rattle.btr_hist.specs.History.{latest}
use Rattle.btr_streams.specs.Past.{commits_to}
use Rattle.btr_base.specs.declared.limits.TheConstants.{FIRST}
use Rattle.btr_hist.specs.declared.entry.Entry.{Entry}
use Rattle.btr_hist.specs.declared.entry.Entry.TheVariants.{Create, Define, Commit, Distillate, Retire}
use Rattle.btr_hist.specs.Legal.{Follows}
use Rattle.btr_roll.specs.Roll.{roll_bytes}
use Rattle.btr_streams.specs.Board.{IsBoardOf}
use Rattle.btr_engine.specs.Stored.{AreStored}
use Rattle.btr_streams.specs.Board.{tree_at}
use Rattle.btr_streams.specs.Rolling.{HaveRoots}
use Rattle.btr_engine.specs.Roots.{LeadsToLatest, IsRootOf}
use Rattle.btr_engine.specs.Body.{body_of, Prefix, pages_after, with_extent, with_checkpoint, IsBodyOf, needed_format, IsCheckpointOf, LeadTo, first_page}
use Rattle.btr_streams.specs.Rolling.{roll_of, rolled}
use Rattle.btr_engine.proofs.BodyLemmas.{SameBody, body_of-one, need-body_of}
use Rattle.btr_open.specs.declared.judge.Judge.{Ghosts as Judging}
use Rattle.btr_open.specs.declared.loading.Loader.{Loader}
use Rattle.btr_open.specs.Content.{node_blocks_of}
use Rattle.btr_open.specs.Reached.{Reached, with_entry, passed, with_other_pages}
use Rattle.btr_open.specs.Below.{StandBelow, AreWider}
use Rattle.btr_open.specs.Walk.{IsCheckpointBody, IsNextBody}
use Rattle.btr_open.specs.Seen.{Seen, with_seen, with_mark}
use Rattle.btr_open.specs.Reading.{IsReadInto, WasReadTo, IsStoredIn}
use Rattle.btr_open.specs.Loading.{AddsBelow, GrowsBelow, HaveNeeded, AreFetched, HasAdded, HasNothingNext, HasJudged, HasMarked, BreaksNext, LeadsNext, ReadsBody, BreaksAfter, ReadsThrough}
use Rattle.btr_open.proofs.ContentLemmas.{content-of-bytes, contents-apart, has-roll}
use Rattle.btr_open.proofs.LoadingLemmas.{head-content, checkpoint-has}
use Rattle.btr_open.proofs.RootLemmas.{same-page}

-- Pages are as wide as they are.
pub as-wide : (limit : ℕ) (pages : Pages) → AreWider limit pages pages
as-wide limit pages = record {
  kept = λ block. elim (pages block) as (λ o. pages block ≡ o → IfSome o (λ page. pages block ≡ Some page)) [
    | None ↦ λ e. tt
    | Some page ↦ λ e. e
  ] refl;
  same = λ block high. refl;
}

-- ---- a checkpoint

-- What was read is read up to the gate after a checkpoint too.
into-passed : (log : Reached) (body : List ℕ) (l : Loader) → IsReadInto log l → IsReadInto (passed log body) l
into-passed log body l into = record {
  rolled_is = into.rolled_is;
  counted = into.counted;
  least_is = into.least_is;
  known = into.known;
  below = λ block some. let low = into.below block some in omega (arith, low);
}

stored-passed : (log : Prefix) (body : List ℕ) (l : Loader) → IsStoredIn log l → IsStoredIn (with_checkpoint log body) l
stored-passed log body l is = record {
  of = is.of;
  least = is.least;
  counted = is.counted;
  stored = record {
    kept = is.stored.kept;
    below = λ block some. let low = is.stored.below block some in omega (arith, low);
    each = λ stream version.
        IfSome_then (tree_at l.board.streams stream version) (is.stored.each stream version) (λ t below. record { stored = below.stored; below = omega (arith, below.below) });
  };
  roots = is.roots;
  part = is.part;
}

-- The body that follows what was read, by its bytes, is not one of a checkpoint.
next-apart : (log : Reached) (e : Entry) (root : ℕ) (pages : List NodePage) (body : List ℕ) (before : Prefix) → need body ≤ 2 ^ 64 → IsNextBody log e root pages body → IsCheckpointOf before body → ⊥
next-apart log e root pages body before short is marks =
    contents-apart (log.entries + 1) (needed_format before.entries) (length before.entries) e root (flat_map page_bytes pages) (λ format. roll_bytes format (roll_of before.entries before.roots)) body (content-of-bytes (log.entries + 1) e root pages body short is.spelled is.low is.fits is.may_have is.bytes) (has-roll before body marks)

marks-apart : (log : Reached) (body : List ℕ) (before : Prefix) (e : Entry) (root : ℕ) (pages : List NodePage) → need body ≤ 2 ^ 64 → IsCheckpointBody log body → IsBodyOf before e root pages body → ⊥
marks-apart log body before e root pages short marks is =
    contents-apart (length before.entries + 1) log.least log.entries e root (flat_map page_bytes pages) (λ format. roll_bytes format log.roll) body (content-of-bytes (length before.entries + 1) e root pages body short is.spelled is.low is.fits is.may_have is.bytes) (checkpoint-has log body marks)

module _ (gate : ℕ) (body : List ℕ) (l : Loader) where
  -- A checkpoint of what was read was passed.
  pub checkpoint-on : WasReadTo gate l → ReadsThrough gate body l l
  checkpoint-on (log, at, read) = record {
    into = (passed log body, ap (λ g. g + need body) at, into-passed log body l read);
    counted = omega arith;
  }

  module _ {J : Type 0} (by : Judging J) (before : J) where
    pub checkpoint-body : (after : J) (image : Image) (limit : ℕ) → need body ≤ 2 ^ 64 → WasReadTo gate l → HasMarked by gate body l before after → ReadsBody by image limit gate body l l before after
    checkpoint-body after image limit short was marked = record {
      leads = λ log seen at read stand judged. record {
        wider = log.pages;
        wide = as-wide limit log.pages;
        stand = stand;
        next = passed log body;
        all = with_mark seen log.gate (log.gate + need body);
        leads = inr (marked.is log read, (refl, refl));
        into = into-passed log body l read;
        judged =
            subst (λ g. by.is_after (with_mark seen g (g + need body)) after) (sym at) (marked.judged seen judged);
      };
      stored = λ log more at stored stand leads follows. elim leads [
        | inl x ↦ absurd (marks-apart was.0 body log x.0 x.1 x.2 short (marked.is was.0 was.2) x.3)
        | inr x ↦ subst (λ p. IsStoredIn p l) x.1 (stored-passed log body l stored)
      ];
    }

    pub checkpoint-breaks : (image : Image) (limit block : ℕ) → HasNothingNext gate body l block → BreaksAfter by image limit gate body l before block
    checkpoint-breaks image limit block none log seen at read stand judged =
        let nothing = none log at read in
        (log.pages, as-wide limit log.pages, stand, inl (record { no_entry = nothing.no_entry; no_checkpoint = λ is. nothing.no_checkpoint (record { format = is.format; from = is.from; most = is.most; room = is.room; bytes = is.bytes }); first = nothing.first }))

-- ---- the pages that an entry needs

leads-there : (known : Pages) (first : ℕ) (new : List NodePage) (h : List Entry) (stream root : ℕ) → LeadsToLatest (with_pages known first new) h stream root → 1 ≤ root → root < first → IsSome (known root)
leads-there known first new h stream root leads some low = elim leads [
  | inl nowhere ↦ let none = nowhere.is in absurd (omega (arith, none, some))
  | inr to ↦
      let of = page-in (with_pages known first new) stream root (node_to to.links 10 FIRST above_root (commits_to h stream (latest h stream))) to.is in
      subst IsSome (sym (sym (pages-below known first root new low) ∙ of.is)) refl
]

-- A root that leads to the tree of a version, if it is below the pages of its extent, is the block of one of the pages before.
root-there : (known : Pages) (first : ℕ) (new : List NodePage) (before : List Entry) (e : Entry) (root : ℕ) (pages : List NodePage) → IsRootOf (with_pages known first new) before e root pages → 1 ≤ root → root < first → IsSome (known root)
root-there known first new before (Create id) root pages is some low = let none : root ≡ 0 = is in absurd (omega (arith, none, some))
root-there known first new before (Define id spec) root pages is some low = let none : root ≡ 0 = is in absurd (omega (arith, none, some))
root-there known first new before (Retire stream least) root pages is some low = let none : root ≡ 0 = is in absurd (omega (arith, none, some))
root-there known first new before (Commit stream cut added) root pages is some low =
    leads-there known first new (before ++ Commit stream cut added ∷ []) stream root is some low
root-there known first new before (Distillate stream cut added reads) root pages is some low =
    leads-there known first new (before ++ Distillate stream cut added reads ∷ []) stream root is some low

module _ (before : Prefix) (e : Entry) (root : ℕ) (pages : List NodePage) (body : List ℕ) (is : IsBodyOf before e root pages body) (leads : IsRootOf (pages_after before e pages) before.entries e root pages) where
  -- The pages before have each page that the extent needs, below the gate.
  pub has-needed : (limit : ℕ) → limit ≤ before.gate → HaveNeeded limit (flat_map page_bytes pages) root before.pages
  has-needed limit high block (inl same) from low =
      let some : 1 ≤ root = omega (arith, from, same) in
      let short : root < first_page before.gate e = omega (arith, low, high, same) in
      subst (λ k. IsSome (before.pages k)) (sym same) (root-there before.pages (first_page before.gate e) pages before.entries e root pages leads some short)
  has-needed limit high block (inr child) from low =
      let n = child.0 in
      let page = child.1 in
      let i = child.2 in
      let slot = child.3 in
      let first = first_page before.gate e in
      let at : slice_get pages n ≡ Some page = same-page pages n page is.fits child.5 child.6 in
      let stands : IsPageAt (with_pages before.pages first pages) (first + n) page = subst (λ o. IfSome o (λ p. IsPageAt (with_pages before.pages first pages) (first + n) p)) at (is.rightly n) in
      let has : 0 < slot.agg.count → HasChildPage (with_pages before.pages first pages) (first + n) page i slot = subst (λ o. IfSome o (λ s. 0 < s.agg.count → HasChildPage (with_pages before.pages first pages) (first + n) page i s)) child.7 (stands.children i) in
      let there = has child.8 in
      let same = child.9 in
      let found : before.pages slot.child ≡ Some there.child = sym (pages-below before.pages first slot.child pages (omega (arith, low, high, same))) ∙ there.is in
      subst (λ k. IsSome (before.pages k)) (sym same) (subst IsSome (sym found) refl)

-- ---- an entry

-- The body has the bytes of one entry, with one root and one list of pages.
one-body : (log : Reached) (before : Prefix) (e f : Entry) (root other : ℕ) (pages others : List NodePage) (body : List ℕ) → log.entries ≡ length before.entries → log.entries + 1 < 2 ^ 64 → need body ≤ 2 ^ 64 → IsNextBody log e root pages body → IsBodyOf before f other others body → SameBody f other others e root pages
one-body log before e f root other pages others body same few short is is_too =
    let number : log.entries + 1 ≡ length before.entries + 1 = ap (λ n. n + 1) same in
    let places = each-places pages is.fits in
    let places_too = each-places others is_too.fits in
    let bytes : body ≡ body_of (length before.entries + 1) e root pages = is.bytes ∙ ap (λ n. body_of n e root pages) number in
    let needed = ap need bytes ∙ need-body_of (length before.entries + 1) e root pages places in
    let needed_too = ap need is_too.bytes ∙ need-body_of (length before.entries + 1) f other others places_too in
    body_of-one (length before.entries + 1) f e other root others pages
    (record { some = omega arith; few = omega (arith, few, number); spelled = is_too.spelled; low = is_too.low; places = places_too; room = omega (arith, short, needed_too) })
    (record { some = omega arith; few = omega (arith, few, number); spelled = is.spelled; low = is.low; places = places; room = omega (arith, short, needed) })
    is_too.fits is.fits (sym is_too.bytes ∙ bytes)

-- Trees of pages below the limit were made before an entry was added. The board stayed as it was.
module _ (limit gate : ℕ) (behind : limit ≤ gate) (body : List ℕ) (head : Head) (old mid : Loader) (same : mid.board ≡ old.board) (same_least : mid.least ≡ old.least) (grows : GrowsBelow limit old.nodes mid.nodes) where
  -- What was read is read now, with wider pages.
  fetched-into : (log : Reached) (wider : Pages) → log.gate ≡ gate → IsReadInto log old → AreKnown wider mid.nodes → IsReadInto (with_other_pages log wider) mid
  fetched-into log wider at read known = record {
    rolled_is = ap rolled same ∙ read.rolled_is;
    counted = ap (λ b. b.entries) same ∙ read.counted;
    least_is = same_least ∙ read.least_is;
    known = known;
    below = λ block some. elim (grows.only block some) [
      | inl before ↦ read.below block before
      | inr low ↦ omega (arith, low, behind, at)
    ];
  }

  pub fetched-read : WasReadTo gate old → WasReadTo gate mid
  fetched-read (log, at, read) =
      let more = grows.known log.pages read.known in
      (with_other_pages log more.0, at, fetched-into log more.0 at read more.2)

  module _ {J : Type 0} (by : Judging J) (before after : J) (new : Loader) (judged : HasJudged by gate body mid new before after) where
    abbrev added : HasAdded gate body judged.entry judged.root mid new
    added = judged.added

    pub entry-on : WasReadTo gate old → ReadsThrough gate body old new
    entry-on was =
        let mid_read = fetched-read was in
        let log = mid_read.0 in
        let into = added.into log mid_read.1 mid_read.2 in
        record {
          into = (with_entry log judged.entry judged.root added.pages body, ap (λ g. g + need body) mid_read.1, into);
          counted = omega (arith, into.counted, mid_read.2.counted, ap (λ b. b.entries) same);
        }

    module _ (image : Image) (adds : AddsBelow image limit old.nodes mid.nodes) where
      entry-leads : (log : Reached) (seen : Seen) → log.gate ≡ gate → IsReadInto log old → StandBelow image limit log.pages → by.is_after seen before → LeadsNext by image limit log seen body new after
      entry-leads log seen at read stand is_after =
          let more = adds.grows.known log.pages read.known in
          let wider = more.0 in
          let log_now = with_other_pages log wider in
          let read_now = fetched-into log wider at read more.2 in
          let then = judged.judged seen is_after in
          record {
            wider = wider;
            wide = more.1;
            stand = adds.stands log.pages read.known stand;
            next = with_entry log_now judged.entry judged.root added.pages body;
            all = with_seen seen judged.entry judged.root;
            leads = inl (judged.entry, judged.root, added.pages, added.is log_now at read_now, then.0, (refl, refl));
            into = added.into log_now at read_now;
            judged = then.1;
          }

      module _ (whole : IsBody body head) (few : old.board.entries < 2 ^ 64 - 1) (short : need body ≤ 2 ^ 64) (was : WasReadTo gate old) (part : (pages : Pages) → StandBelow image limit pages → HaveNeeded limit (node_blocks_of head body) head.root pages → ArePartOf pages old.nodes → ArePartOf pages mid.nodes) where
        its-read : WasReadTo gate mid
        its-read = fetched-read was

        its-body : IsNextBody its-read.0 judged.entry judged.root added.pages body
        its-body = added.is its-read.0 its-read.1 its-read.2

        module _ (log : Prefix) (at : log.gate ≡ gate) (stored : IsStoredIn log old) (stand : StandBelow image limit log.pages) where
          same-count : its-read.0.entries ≡ length log.entries
          same-count = sym its-read.2.counted ∙ ap (λ b. b.entries) same ∙ stored.of.entries

          few-entries : length log.entries + 1 < 2 ^ 64
          few-entries = omega (arith, few, stored.of.entries)

          its-stored : (e : Entry) (root : ℕ) (pages : List NodePage) → IsBodyOf log e root pages body → IsRootOf (pages_after log e pages) log.entries e root pages → IsStoredIn log mid
          its-stored e root pages is leads =
              let content = content-of-bytes (length log.entries + 1) e root pages body short is.spelled is.low is.fits is.may_have is.bytes in
              let parts = head-content (length log.entries + 1) e root (flat_map page_bytes pages) body head whole (omega arith) few-entries content in
              let needed : HaveNeeded limit (flat_map page_bytes pages) root log.pages = has-needed log e root pages body is leads limit (omega (arith, behind, at)) in
              let needed_here : HaveNeeded limit (node_blocks_of head body) head.root log.pages = subst (λ xs. HaveNeeded limit xs head.root log.pages) (sym parts.1) (subst (λ r. HaveNeeded limit (flat_map page_bytes pages) r log.pages) (sym parts.0) needed) in
              record {
                of = subst (IsBoardOf log.entries) (sym same) stored.of;
                least = omega (arith, same_least, stored.least);
                counted = stored.counted;
                stored = subst (λ b. AreStored log.pages log.gate b.streams) (sym same) stored.stored;
                roots = subst (λ b. HaveRoots log.roots b.streams) (sym same) stored.roots;
                part = part log.pages stand needed_here stored.part;
              }

          entry-stored : (more : Prefix) → LeadTo IsRootOf log (body ∷ []) more → Follows more.entries → IsStoredIn more new
          entry-stored more leads follows = elim leads [
            | inl x ↦
                let one = one-body its-read.0 log judged.entry x.0 judged.root x.1 added.pages x.2 body same-count (omega (arith, same-count, few-entries)) short its-body x.3 in
                let now = its-stored x.0 x.1 x.2 x.3 x.4 in
                let is : IsBodyOf log judged.entry judged.root added.pages body = subst (λ p. IsBodyOf log judged.entry judged.root p body) one.2 (subst (λ r. IsBodyOf log judged.entry r x.2 body) one.1 (subst (λ f. IsBodyOf log f x.1 x.2 body) one.0 x.3)) in
                let root : IsRootOf (pages_after log judged.entry added.pages) log.entries judged.entry judged.root added.pages =
                subst (λ p. IsRootOf (pages_after log judged.entry p) log.entries judged.entry judged.root p) one.2
                (subst (λ r. IsRootOf (pages_after log judged.entry x.2) log.entries judged.entry r x.2) one.1
                (subst (λ f. IsRootOf (pages_after log f x.2) log.entries f x.1 x.2) one.0 x.4))
                in
                let end : with_extent log judged.entry judged.root added.pages body ≡ more = (λ i. with_extent log (sym one.0 i) (sym one.1 i) (sym one.2 i) body) ∙ x.5 in
                let follows_here : Follows (log.entries ++ judged.entry ∷ []) = subst (λ (p : Prefix). Follows p.entries) (sym end) follows in
                subst (λ p. IsStoredIn p new) end (added.history log at now is follows_here root)
            | inr x ↦ absurd (next-apart its-read.0 judged.entry judged.root added.pages body log short its-body x.0)
          ]

        pub entry-body : ReadsBody by image limit gate body old new before after
        entry-body = record {
          leads = entry-leads;
          stored = λ log more at stored stand leads follows. entry-stored log at stored stand more leads follows;
        }

  -- The block breaks the format or the rule, for what was read with wider pages.
  pub entry-breaks : {J : Type 0} (by : Judging J) (before : J) (image : Image) (block : ℕ) → AddsBelow image limit old.nodes mid.nodes → AreFetched image limit (node_blocks_of head body) head.root mid.nodes → BreaksNext by gate body (node_blocks_of head body) head.root mid before block → BreaksAfter by image limit gate body old before block
  entry-breaks by before image block adds fetched breaks log seen at read stand judged =
      let more = adds.grows.known log.pages read.known in
      let stand_now = adds.stands log.pages read.known stand in
      let read_now = fetched-into log more.0 at read more.2 in
      (more.0, more.1, stand_now, breaks image limit (with_other_pages log more.0) seen at read_now stand_now fetched judged)
