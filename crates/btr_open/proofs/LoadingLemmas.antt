-- Lemmas on the reading of one extent: where its node blocks begin, which block of it is damaged, and what is read once it is added.
use Rattle.std.specs.Prelude.{◌≡◌, ◌≢◌, ℕ, ◌+◌, ◌-◌, ◌*◌, ◌/◌, ◌^◌, ◌<◌, ◌≤◌, max, List, [], ◌∷◌, ◌++◌, length, take, drop, slice_get, Option, Some, None, Result, Ok, Err, IfOk, IfNone, IfSome, IsSome, is_some, Bool, false}
use Rattle.std.proofs.Common.{refl, sym, ◌∙◌, ap, subst, arith, inl, inr, ⊎_elim, length-append}
use Rattle.std.proofs.lemmas.Bool.{cases_lt, false≢true}
use Rattle.std.proofs.lemmas.Option.{IfSome_then}
use Rattle.std.proofs.lemmas.List.{length-drop, take_all}
use Rattle.std.proofs.lemmas.List.{drop_at}
use Rattle.btr_disk.specs.Bytes.{Image}
use Rattle.btr_disk.specs.Gate.{zeros}
use Rattle.btr_disk.proofs.GateLemmas.{length-zeros}
use Rattle.btr_log.specs.declared.head.Head.{Head}
use Rattle.btr_log.specs.Head.{content_blocks, head_bytes, entry_head}
use Rattle.btr_log.specs.Extents.{IsBody, need}
use Rattle.btr_log.proofs.HeadLemmas.{length-head_bytes}
use Rattle.btr_node.specs.Page.{Spells, Fits, slots_of_page}
use Rattle.btr_node.specs.declared.page.NodePage.{NodePage}
use Rattle.btr_tree.specs.PageNodes.{Pages}
use Rattle.btr_pages.specs.Pages.{with_pages, HasChildPage, IsPageAt, ArePages}
use Rattle.btr_pages.specs.Blocks.{block_of_bytes, AreAmong, AllWereAdded, IsDamagedBlock}
use Rattle.btr_pages.specs.Known.{TreesValue, AreKnown, ArePartOf, node_at}
use Rattle.btr_pages.proofs.KnownLemmas.{block-at, known-at, pages-below, pages-from}
use Rattle.btr_pages.proofs.ReportedLemmas.{with-either}
use Rattle.btr_tree.specs.Root.{TreeValue}
use Rattle.btr_hist.specs.declared.entry.Entry.{Entry}
use Rattle.btr_hist.specs.declared.entry.Entry.TheVariants.{Create, Define, Commit, Distillate, Retire}
use Rattle.btr_hist.specs.Legal.{rejection, Follows}
use Rattle.btr_entry.specs.Grammar.{spelling}
use Rattle.btr_entry.specs.Format.{format_of}
use Rattle.btr_roll.specs.Roll.{RollStreamValue, roll_bytes}
use Rattle.btr_streams.specs.Rolling.{rolled}
use Rattle.btr_engine.specs.Mark.{body_of_roll}
use Rattle.btr_streams.specs.Board.{HasPast, IsBoardOf}
use Rattle.btr_engine.specs.Stored.{AreStored}
use Rattle.btr_streams.specs.Rolling.{HaveRoots}
use Rattle.btr_streams.specs.Stage.{HasRoomFor, ReadsEntry, IsTreeAfter}
use Rattle.btr_engine.specs.Roots.{IsRootOf}
use Rattle.btr_engine.specs.Body.{padding, Prefix, first_page, pages_after, with_extent, IsBodyOf, needed_format}
use Rattle.btr_engine.proofs.BodyLemmas.{filled, needed-push}
use Rattle.btr_engine.proofs.RootsLemmas.{roots-read}
use Rattle.btr_streams.proofs.StreamsLemmas.{has-streams}
use Rattle.btr_open.specs.declared.judge.Judge.{Ghosts as Judging}
use Rattle.btr_open.specs.declared.loading.Loader.{Loader}
use Rattle.btr_open.specs.Content.{content_of, HasContent, HasNoContent, HasCheckpoint, node_blocks_of}
use Rattle.btr_open.specs.Reached.{Reached, next_roll, next_version, pages_with, with_entry}
use Rattle.btr_open.specs.RootTest.{adds, MayLead, MayBeRootIn, MayLeadIn, IsNamedRoot}
use Rattle.btr_open.specs.Below.{StandBelow, pages_joined}
use Rattle.btr_open.specs.Walk.{FitsRoll, IsOutOfPlace, IsCheckpointBody, IsNextBody}
use Rattle.btr_open.specs.Reading.{IsReadInto, WasReadTo, IsStoredIn}
use Rattle.btr_open.specs.Seen.{Seen, with_seen, Lets}
use Rattle.btr_open.specs.Loading.{IsNeeded, AreFetched, IsTreeOfRoot, AddsTree, HasAdded, HasJudged, HasNothingNext, IsThisEntry, BreaksEntry, BreaksNext}
use Rattle.btr_open.proofs.BelowLemmas.{stored-one, stand-page, pages_joined-below, pages_joined-from}
use Rattle.btr_open.proofs.ContentLemmas.{bytes-content, pages-content, checkpoint-kind}
use Rattle.btr_open.proofs.BodyParts.{IfNone_then, heads, content-fields}
use Rattle.btr_open.proofs.NextRollLemmas.{rolled-next}
use Rattle.btr_open.proofs.RootLemmas.{may-lead}
use Rattle.btr_open.proofs.WalkLemmas.{wrong-along}
use Rattle.btr_open.proofs.TreeLemmas.{HasMade, root-made, has-past, staged-root, board-of, board-stored, part-wider}

-- ---- where the node blocks begin

length-content : (number : ℕ) (e : Entry) (root nodes : ℕ) → length (content_of number e root nodes) ≡ 4096 * content_blocks (length (spelling e))
unfolding content_of
length-content number e root nodes =
    let head = entry_head (format_of e) number (length (spelling e)) nodes root in
    omega (arith, length-append (head_bytes head) (filled e), length-append (spelling e) (zeros (padding (length (spelling e)))), length-head_bytes head, length-zeros (padding (length (spelling e))))

module _ (number : ℕ) (e : Entry) (head : Head) (nodes body : List ℕ) (whole : IsBody body head) (content : HasContent number e head.root nodes body) (nodes_are : nodes ≡ node_blocks_of head body) where
  length-nodes : length nodes ≡ length body - 4096 * content_blocks head.length
  length-nodes = ap (length {A = ℕ}) nodes_are ∙ length-drop (4096 * content_blocks head.length) body

  length-body : length body ≡ 4096 * content_blocks (length (spelling e)) + length nodes
  length-body =
      ap (length {A = ℕ}) content.bytes
      ∙ length-append (content_of number e head.root content.nodes) nodes
      ∙ ap (λ n. n + length nodes) (length-content number e head.root content.nodes)

  -- The content of the entry fills the blocks that the head says.
  same-content : content_blocks head.length ≡ content_blocks (length (spelling e))
  same-content = omega (arith, length-nodes, length-body, whole.whole, whole.spells.is_head.blocks)

  -- The node blocks end with the body.
  nodes-end : content_blocks head.length + length nodes / 4096 + 1 ≡ need body
  nodes-end = omega (arith, length-nodes, whole.whole, whole.spells.is_head.blocks)

-- The bytes from the end of the content on are those of the node blocks.
pub slice-nodes : (blocks : ℕ) (head : Head) (body : List ℕ) → blocks ≡ content_blocks head.length → take (length body - blocks * 4096) (drop (blocks * 4096) body) ≡ node_blocks_of head body
slice-nodes blocks head body is =
    let from : blocks * 4096 ≡ 4096 * content_blocks head.length = omega (arith, is) in
    let all : length (drop (blocks * 4096) body) ≤ length body - blocks * 4096 = omega (arith, length-drop (blocks * 4096) body) in
    take_all (length body - blocks * 4096) (drop (blocks * 4096) body) all ∙ ap (λ n. drop n body) from

-- The head of a body that has a content has the content's root, and the node blocks are the content's.
pub head-content : (number : ℕ) (e : Entry) (root : ℕ) (blocks body : List ℕ) (head : Head) → IsBody body head → 1 ≤ number → number < 2 ^ 64 → HasContent number e root blocks body → (head.root ≡ root) × (node_blocks_of head body ≡ blocks)
head-content number e root blocks body head whole some few has =
    let same = heads number body head whole some few e root blocks has in
    let size : 4096 * content_blocks head.length ≡ 4096 * content_blocks (length (spelling e)) = ap (λ (h : Head). 4096 * content_blocks h.length) same in (
      ap (λ (h : Head). h.root) same,
      (λ i. drop (size i) (has.bytes i))
          ∙ drop_at (content_of number e root has.nodes) blocks (4096 * content_blocks (length (spelling e))) (length-content number e root has.nodes),
    )

-- ---- a body without an entry that may follow

-- The body of a checkpoint has the bytes of the roll as content, and the other way round.
pub checkpoint-has : (log : Reached) (body : List ℕ) → IsCheckpointBody log body → HasCheckpoint log.least log.entries (λ format. roll_bytes format log.roll) body
unfolding body_of_roll
checkpoint-has log body is =
    record { format = is.format; from = is.from; most = is.most; room = is.room; bytes = is.bytes }

pub has-checkpoint : (log : Reached) (body : List ℕ) → HasCheckpoint log.least log.entries (λ format. roll_bytes format log.roll) body → IsCheckpointBody log body
unfolding body_of_roll
has-checkpoint log body has =
    record { format = has.format; from = has.from; most = has.most; room = has.room; bytes = has.bytes }

-- The body of a checkpoint of the board is that of a checkpoint of what was read, and the other way round.
pub checkpoint-read : (log : Reached) (l : Loader) (body : List ℕ) → IsReadInto log l → HasCheckpoint l.least l.board.entries (λ format. roll_bytes format (rolled l.board)) body → IsCheckpointBody log body
checkpoint-read log l body read has =
    has-checkpoint log body (subst (λ r. HasCheckpoint log.least log.entries (λ format. roll_bytes format r) body) read.rolled_is (subst (λ n. HasCheckpoint log.least n (λ format. roll_bytes format (rolled l.board)) body) read.counted (subst (λ n. HasCheckpoint n l.board.entries (λ format. roll_bytes format (rolled l.board)) body) read.least_is has)))

pub read-checkpoint : (log : Reached) (l : Loader) (body : List ℕ) → IsReadInto log l → IsCheckpointBody log body → HasCheckpoint l.least l.board.entries (λ format. roll_bytes format (rolled l.board)) body
read-checkpoint log l body read is =
    subst (λ n. HasCheckpoint n l.board.entries (λ format. roll_bytes format (rolled l.board)) body) (sym read.least_is) (subst (λ n. HasCheckpoint log.least n (λ format. roll_bytes format (rolled l.board)) body) (sym read.counted) (subst (λ r. HasCheckpoint log.least log.entries (λ format. roll_bytes format r) body) (sym read.rolled_is) (checkpoint-has log body is)))

-- A body whose head is not that of a checkpoint is not that of a checkpoint.
not-checkpoint : (log : Reached) (body : List ℕ) (head : Head) → IsBody body head → head.kind ≢ 2 → IsCheckpointBody log body → ⊥
not-checkpoint log body head whole other is =
    let small : head.kind < 2 ^ 32 = ⊎_elim (λ e. let kind = e.0 in omega (arith, kind)) (λ c. let kind = c.0 in omega (arith, kind)) whole.spells.is_head.kind in
    other (checkpoint-kind log.least log.entries (λ format. roll_bytes format log.roll) body head (checkpoint-has log body is) whole.spells.spelling small)

-- A body whose head is not that of a checkpoint, and which has no content of the next entry.
pub no-entry : (gate number : ℕ) (body : List ℕ) (head : Head) (l : Loader) → IsBody body head → head.kind ≢ 2 → number ≡ l.board.entries + 1 → HasNoContent number body → HasNothingNext gate body l (gate + 1)
no-entry gate number body head l whole other is none log at read = record {
  no_entry = subst (λ n. HasNoContent n body) (is ∙ ap (λ n. n + 1) read.counted) none;
  no_checkpoint = not-checkpoint log body head whole other;
  first = ap (λ g. g + 1) (sym at);
}

-- A body whose head is that of a checkpoint, and which is not that of a checkpoint of the board.
pub no-checkpoint : (gate : ℕ) (body : List ℕ) (head : Head) (l : Loader) → l.board.entries + 1 < 2 ^ 64 → IsBody body head → head.kind ≡ 2 → (HasCheckpoint l.least l.board.entries (λ format. roll_bytes format (rolled l.board)) body → ⊥) → HasNothingNext gate body l (gate + 1)
no-checkpoint gate body head l few whole kind none log at read = record {
  no_entry = λ e r blocks has.
      let small : log.entries + 1 < 2 ^ 64 = omega (arith, few, read.counted) in
      let one = content-fields (log.entries + 1) body head whole (omega arith) small e r blocks has in
      let kind_too = one.0 in
      absurd (omega (arith, kind, kind_too));
  no_checkpoint = λ is. none (read-checkpoint log l body read is);
  first = ap (λ g. g + 1) (sym at);
}

-- ---- a body that breaks the format or the rule of a judge

module _ {J : Type 0} (by : Judging J) (gate root : ℕ) (body nodes : List ℕ) (l : Loader) (before : J) where
  pub nothing-next : (block : ℕ) → HasNothingNext gate body l block → BreaksNext by gate body nodes root l before block
  nothing-next block none image limit log seen at read stand fetched judged = inl (none log at read)

  module _ (number : ℕ) (e : Entry) (is : number ≡ l.board.entries + 1) (content : HasContent number e root nodes body) where
    forbidden-by : ((log : Reached) (seen : Seen) → IsReadInto log l → by.is_after seen before → Lets by.may log seen.entries e root → ⊥) → BreaksNext by gate body nodes root l before (gate + 1)
    forbidden-by refused image limit log seen at read stand fetched judged =
        inr (inl (record {
          entry = e;
          root = root;
          nodes = nodes;
          content = subst (λ n. HasContent n e root nodes body) (is ∙ ap (λ n. n + 1) read.counted) content;
          forbidden = refused log seen read judged;
          first = ap (λ g. g + 1) (sym at);
        }))

    -- The entry may not follow the streams.
    pub forbidden : (FitsRoll (rolled l.board) e → ⊥) → BreaksNext by gate body nodes root l before (gate + 1)
    forbidden refused = forbidden-by (λ log seen read judged lets. refused (subst (λ r. FitsRoll r e) (sym read.rolled_is) lets.0))

    -- The judge does not let the entry follow.
    pub ruled-out : ((seen : Seen) → by.is_after seen before → by.may seen.entries e root → ⊥) → BreaksNext by gate body nodes root l before (gate + 1)
    ruled-out refused = forbidden-by (λ log seen read judged lets. refused seen judged lets.1)

  -- The judge let the entry follow, but its root or a node block is wrong.
  entry-wrong : (e : Entry) → FitsRoll (rolled l.board) e → ((seen : Seen) → by.is_after seen before → by.may seen.entries e root) → (block : ℕ) → BreaksEntry gate body nodes e root l block → BreaksNext by gate body nodes root l before block
  entry-wrong e fits let_it block breaks image limit log seen at read stand fetched judged =
      let lets : Lets by.may log seen.entries e root = (subst (λ r. FitsRoll r e) read.rolled_is fits, let_it seen judged) in
      let its : (f : Entry) (at_root : ℕ) → IsThisEntry e root f at_root → Lets by.may log seen.entries f at_root = λ f at_root same.
      subst (λ r. Lets by.may log seen.entries f r) (sym same.1) (subst (λ x. Lets by.may log seen.entries x root) (sym same.0) lets)
      in
      inr (inr (wrong-along (IsThisEntry e root) (Lets by.may log seen.entries) its image limit log body block (breaks image limit log at read stand fetched)))

  -- The judge let the entry follow.
  module _ (e : Entry) (after : J) (judged : (seen : Seen) → by.is_after seen before → by.may seen.entries e root × by.is_after (with_seen seen e root) after) {E : Type 0} where
    pub judged-added : (new : Loader) (result : Result (Option ℕ) E) → IfOk result (λ o. IfNone o (HasAdded gate body e root l new)) → IfOk result (λ o. IfNone o (HasJudged by gate body l new before after))
    judged-added new (Err x) added = tt
    judged-added new (Ok o) added =
        IfNone_then o (HasAdded gate body e root l new) (HasJudged by gate body l new before after) (λ is. record { entry = e; root = root; added = is; judged = judged }) added

    pub judged-wrong : FitsRoll (rolled l.board) e → (result : Result (Option ℕ) E) → IfOk result (λ o. IfSome o (BreaksEntry gate body nodes e root l)) → IfOk result (λ o. IfSome o (BreaksNext by gate body nodes root l before))
    judged-wrong fits (Err x) wrong = tt
    judged-wrong fits (Ok o) wrong =
        IfSome_then o wrong (λ block breaks. entry-wrong e fits (λ seen was. (judged seen was).0) block breaks)

-- Nothing refuses the entry.
pub no-refusal : {X : Type 0} (o : Option X) → is_some o ≡ false → o ≡ None
no-refusal None none = refl
no-refusal (Some x) none = absurd (false≢true (sym none))

-- ---- pages that were fetched

-- The trees are those of all pages that were read. Of each page that the extent needs the tree was made that can be. Other pages stand
-- rightly below the limit.
pub record AreRead (image : Image) (limit : ℕ) (bytes : List ℕ) (root : ℕ) (pages : Pages) (nodes : TreesValue) : Type 0 where
  pub known : AreKnown pages nodes
  pub stand : StandBelow image limit pages
  pub fetched : AreFetched image limit bytes root nodes

module _ (image : Image) (limit : ℕ) (bytes : List ℕ) (root : ℕ) (pages : Pages) (nodes : TreesValue) (are : AreRead image limit bytes root pages nodes) (below : Pages) (stand : StandBelow image limit below) where
  -- A page that the extent needs is one of those that were read, if it stands rightly below the limit.
  pub narrow : (block : ℕ) (page : NodePage) → IsNeeded bytes root block → pages_joined limit below pages block ≡ Some page → pages block ≡ Some page
  narrow block page needed at = elim (cases_lt block limit) [
    | inl low ↦
        let there : below block ≡ Some page = sym (pages_joined-below limit below pages block low) ∙ at in
        let some : IsSome (node_at nodes block) = are.fetched below stand block needed low (subst IsSome (sym there) refl) in
        elim (node_at nodes block) as (λ o. node_at nodes block ≡ o → IsSome o → pages block ≡ Some page) [
          | None ↦ λ e none. absurd (cc)
          | Some k ↦ λ e some.
              let is = known-at pages nodes block k are.known.each e in
              let found : pages block ≡ Some is.page = ap pages (sym (block-at nodes block k e)) ∙ is.is in
              let here = stand-page image limit block pages are.stand low is.page found in
              let other = stand-page image limit block below stand low page there in
              found ∙ ap Some (stored-one image block is.page page here.1 other.1)
        ] refl some
    | inr high ↦ sym (pages_joined-from limit below pages block high) ∙ at
  ]

  -- The root is one that may lead in the pages that were read.
  narrow-root : (first stream version : ℕ) (some : Bool) → MayBeRootIn (pages_joined limit below pages) first bytes stream version some root → MayBeRootIn pages first bytes stream version some root
  narrow-root first stream version some (inl none) = inl none
  narrow-root first stream version some (inr has) = elim has.is [
    | inl old ↦ inr (record { page = has.page; is = inl (old.0, narrow root has.page (inl refl) old.1); fits = has.fits })
    | inr new ↦ inr (record { page = has.page; is = inr new; fits = has.fits })
  ]

  pub narrow-lead : (roll : List RollStreamValue) (e : Entry) (first : ℕ) → MayLeadIn (pages_joined limit below pages) roll e first bytes root → MayLeadIn pages roll e first bytes root
  narrow-lead roll (Create id) first may = may
  narrow-lead roll (Define id spec) first may = may
  narrow-lead roll (Retire stream least) first may = may
  narrow-lead roll (Commit stream cut added) first may = narrow-root first stream (next_version roll stream) (adds added) may
  narrow-lead roll (Distillate stream cut added reads) first may = narrow-root first stream (next_version roll stream) (adds added) may

  -- A page of a node block stands rightly after the pages that were read.
  pub narrow-page : (first n block : ℕ) (new : List NodePage) (page : NodePage) → 4096 * n < length bytes → Fits page → Spells (block_of_bytes bytes n) page → IsPageAt (with_pages (pages_joined limit below pages) first new) block page → IsPageAt (with_pages pages first new) block page
  narrow-page first n block new page within fits spells is = record {
    keeps = is.keeps;
    children = λ i. elim (slice_get (slots_of_page page) i) as (λ o. slice_get (slots_of_page page) i ≡ o → IfSome o (λ slot. 0 < slot.agg.count → HasChildPage (with_pages (pages_joined limit below pages) first new) block page i slot) → IfSome o (λ slot. 0 < slot.agg.count → HasChildPage (with_pages pages first new) block page i slot)) [
      | None ↦ λ e has. tt
      | Some slot ↦ λ e has some.
          let child = has some in
          record {
            lower = child.lower;
            child = child.child;
            is = elim (with-either (pages_joined limit below pages) first new slot.child child.child child.is) [
              | inl old ↦ pages-below pages first slot.child new old.0 ∙ narrow slot.child child.child (inr (n, page, i, slot, within, fits, spells, e, some, refl)) old.1
              | inr fresh ↦ pages-from pages first slot.child new fresh.0 ∙ fresh.1
            ];
            fits = child.fits;
          }
    ] refl (is.children i);
  }

-- ---- an entry that may follow

-- The body after the gate has the content of an entry that may follow. Its node blocks begin at the block `first`.
pub record IsAllowed (gate first : ℕ) (nodes body : List ℕ) (l : Loader) (head : Head) (e : Entry) : Type 0 where
  pub whole : IsBody body head
  pub content : HasContent (l.board.entries + 1) e head.root nodes body
  pub first_is : first ≡ gate + 1 + content_blocks head.length
  pub nodes_are : nodes ≡ node_blocks_of head body
  pub allowed : FitsRoll (rolled l.board) e

-- The root of the entry may be its own, in each list of pages that were read.
abbrev pub MayLeadRead : ℕ → List ℕ → Loader → ℕ → Entry → Type 0
MayLeadRead first nodes l root e =
    (pages : Pages) → AreKnown pages l.nodes → MayLeadIn pages (rolled l.board) e first nodes root

module _ (gate first : ℕ) (nodes body : List ℕ) (l : Loader) (head : Head) (e : Entry) (is : IsAllowed gate first nodes body l head e) where
  -- The node blocks begin at the block of the first page.
  first-is : (other : ℕ) → other ≡ gate → first ≡ first_page other e
  first-is other at =
      omega (arith, is.first_is, at, same-content (l.board.entries + 1) e head nodes body is.whole is.content is.nodes_are)

  module _ (log : Reached) (at : log.gate ≡ gate) (read : IsReadInto log l) where
    its-content : HasContent (log.entries + 1) e head.root nodes body
    its-content = subst (λ n. HasContent (n + 1) e head.root nodes body) read.counted is.content

    its-first : first ≡ first_page log.gate e
    its-first = first-is log.gate at

    its-allowed : FitsRoll log.roll e
    its-allowed = subst (λ r. FitsRoll r e) read.rolled_is is.allowed

  pub wrong-root : (block : ℕ) → ((pages : Pages) → AreKnown pages l.nodes → MayLeadIn pages (rolled l.board) e first nodes head.root → ⊥) → IsNamedRoot gate e first nodes head.root block → BreaksEntry gate body nodes e head.root l block
  wrong-root block wrong named image limit log at read stand fetched =
      let same = its-first log at read in
      let are : AreRead image limit nodes head.root log.pages l.nodes = record { known = read.known; stand = stand; fetched = fetched } in
      inl (record {
        entry = e;
        root = head.root;
        nodes = nodes;
        content = its-content log at read;
        allowed = (refl, refl);
        wrong = λ below stands may.
            let narrowed : MayLeadIn log.pages log.roll e (first_page log.gate e) nodes head.root = narrow-lead image limit nodes head.root log.pages l.nodes are below stands log.roll e (first_page log.gate e) may in
            wrong log.pages read.known (subst (λ r. MayLeadIn log.pages r e first nodes head.root) (sym read.rolled_is) (subst (λ f. MayLeadIn log.pages log.roll e f nodes head.root) (sym same) narrowed));
        named = subst (λ f. IsNamedRoot log.gate e f nodes head.root block) same (subst (λ g. IsNamedRoot g e first nodes head.root block) (sym at) named);
      })

  module _ (right : MayLeadRead first nodes l head.root e) where
    its-right : (log : Reached) (at : log.gate ≡ gate) (read : IsReadInto log l) → MayLeadIn log.pages log.roll e (first_page log.gate e) nodes head.root
    its-right log at read =
        subst (λ f. MayLeadIn log.pages log.roll e f nodes head.root) (its-first log at read) (subst (λ r. MayLeadIn log.pages r e first nodes head.root) read.rolled_is (right log.pages read.known))

    pub wrong-node : (new : TreesValue) (block : ℕ) → IsDamagedBlock l.nodes new first nodes block → BreaksEntry gate body nodes e head.root l block
    wrong-node new block damaged image limit log at read stand fetched =
        let same = its-first log at read in
        let added = damaged.added in
        let are : AreRead image limit nodes head.root log.pages l.nodes = record { known = read.known; stand = stand; fetched = fetched } in
        inr (record {
          entry = e;
          root = head.root;
          nodes = nodes;
          content = its-content log at read;
          allowed = (refl, refl);
          right = its-right log at read;
          before = damaged.before;
          within = damaged.within;
          bytes = added.bytes_are;
          fit = added.fit;
          stand = subst (λ f. ArePages log.pages f damaged.before) same (added.stand log.pages read.known);
          next = damaged.is ∙ ap (λ f. f + length damaged.before) same;
          damaged = elim damaged.damaged [
            | inl none ↦ inl none
            | inr w ↦
                let out : IsOutOfPlace image limit log (first_page log.gate e) damaged.before block (block_of_bytes nodes (length damaged.before)) = record {
                  page = w.page;
                  fits = w.fits;
                  spells = w.spells;
                  wrong = λ below stands stood.
                      let narrowed : IsPageAt (with_pages log.pages (first_page log.gate e) damaged.before) block w.page = narrow-page image limit nodes head.root log.pages l.nodes are below stands (first_page log.gate e) (length damaged.before) block damaged.before w.page damaged.within w.fits w.spells stood in
                      w.wrong log.pages read.known (subst (λ f. IsPageAt (with_pages log.pages f damaged.before) block w.page) (sym same) narrowed);
                } in
                inr out
          ];
        })

    -- ---- an entry whose pages were added

    module _ (mid : TreesValue) (all : AllWereAdded l.nodes mid first nodes) where
      -- The pages of the extent.
      abbrev pages : List NodePage
      pages = all.0

      module _ (log : Reached) (at : log.gate ≡ gate) (read : IsReadInto log l) where
        known-after : AreKnown (pages_with log e pages) mid
        known-after =
            subst (λ f. AreKnown (with_pages log.pages f pages) mid) (its-first log at read) (all.1.known log.pages read.known)

        may-after : MayLead (pages_with log e pages) log.roll e head.root
        may-after =
            may-lead log.pages log.roll e (first_page log.gate e) head.root pages nodes all.1.bytes_are all.1.fit (its-right log at read)

        body-after : IsNextBody log e head.root pages body
        body-after =
            let content = its-content log at read in
            record {
              spelled = content.spelled;
              fits = all.1.fit;
              rightly = subst (λ f. ArePages log.pages f pages) (its-first log at read) (all.1.stand log.pages read.known);
              low = content.low;
              may_have = pages-content (log.entries + 1) e head.root nodes pages body content all.1.bytes_are all.1.fit;
              bytes = bytes-content (log.entries + 1) e head.root nodes pages body content all.1.bytes_are all.1.fit;
              may_lead = may-after;
              allowed = its-allowed log at read;
            }

      -- The tree of the root is that of some past.
      pub tree-past : WasReadTo gate l → (t : TreeValue) → IsTreeOfRoot mid head.root t → HasPast t
      tree-past (log, at, read) t tree =
          has-past (pages_with log e pages) mid log.roll e head.root t (known-after log at read) (may-after log at read) tree

      -- The old trees are those of some of the pages of a prefix with those of the extent, and so are the new ones.
      part-after : (log : Prefix) → log.gate ≡ gate → IsStoredIn log l → ArePartOf (pages_after log e pages) mid
      part-after log at stored =
          let later : gate ≤ first = let begins = is.first_is in omega arith in
          let wide : (block : ℕ) (page : NodePage) → log.pages block ≡ Some page → with_pages log.pages first pages block ≡ Some page =
          λ block page there.
          let low = stored.stored.below block (subst IsSome (sym there) refl) in
          pages-below log.pages first block pages (omega (arith, low, at, later)) ∙ there in
          let among : AreAmong (with_pages log.pages first pages) first pages = λ i. among-at log.pages first pages i in
          subst (λ f. ArePartOf (with_pages log.pages f pages) mid) (first-is log.gate at) (all.1.part (with_pages log.pages first pages) (part-wider log.pages (with_pages log.pages first pages) l.nodes wide stored.part) among)
        where
          among-at : (known : Pages) (f : ℕ) (new : List NodePage) (i : ℕ) → IfSome (slice_get new i) (λ page. with_pages known f new (f + i) ≡ Some page)
          among-at known f new i =
              let place : (f + i) - f ≡ i = omega arith in
              elim (slice_get new i) as (λ o. slice_get new i ≡ o → IfSome o (λ page. with_pages known f new (f + i) ≡ Some page)) [
                | None ↦ λ e. tt
                | Some page ↦ λ e. pages-from known f (f + i) new (omega arith) ∙ ap (slice_get new) place ∙ e
              ] refl

      module _ (old new : Loader) (board_is : old.board ≡ l.board) (least_is : old.least ≡ l.least) (nodes_is : old.nodes ≡ mid) (room : HasRoomFor l.board e) (adds : AddsTree old e head.root new) where
        its-tree : IsTreeOfRoot mid head.root adds.tree
        its-tree = subst (λ n. IsTreeOfRoot n head.root adds.tree) nodes_is adds.is

        its-nodes : new.nodes ≡ mid
        its-nodes = adds.same ∙ nodes_is

        its-reads : ReadsEntry l.board e adds.tree adds.staged
        its-reads = subst (λ b. ReadsEntry b e adds.tree adds.staged) board_is adds.reads

        its-root : (log : Reached) → log.gate ≡ gate → IsReadInto log l → head.root ≡ adds.staged.root
        its-root log at read =
            staged-root (pages_with log e pages) mid log.roll e head.root l.board adds.tree adds.staged (known-after log at read) (may-after log at read) its-tree its-reads

        entry-into : ((k : ℕ) → IsSome (node_at mid k) → k < first + length nodes / 4096) → (log : Reached) → log.gate ≡ gate → IsReadInto log l → IsReadInto (with_entry log e head.root pages body) new
        entry-into above log at read =
            let ends = nodes-end (l.board.entries + 1) e head nodes body is.whole is.content is.nodes_are in
            let number : l.board.entries + 1 ≡ log.entries + 1 = ap (λ n. n + 1) read.counted in
            record {
              rolled_is =
                  ap rolled adds.next
                  ∙ rolled-next l.board e adds.tree adds.staged room its-reads
                  ∙ ap (λ r. next_roll r e (l.board.entries + 1) adds.staged.root) read.rolled_is
                  ∙ ap (λ n. next_roll log.roll e n adds.staged.root) number
                  ∙ ap (next_roll log.roll e (log.entries + 1)) (sym (its-root log at read));
              counted = adds.counted ∙ ap (λ b. b.entries + 1) board_is ∙ number;
              least_is = adds.least ∙ ap (λ n. max n (format_of e)) (least_is ∙ read.least_is);
              known = subst (AreKnown (pages_with log e pages)) (sym its-nodes) (known-after log at read);
              below = λ block some.
                  let less = above block (subst (λ n. IsSome (node_at n block)) its-nodes some) in
                  omega (arith, less, at, is.first_is, ends);
            }

        entry-stored : WasReadTo gate l → (log : Prefix) → log.gate ≡ gate → IsStoredIn log l → IsBodyOf log e head.root pages body → Follows (log.entries ++ e ∷ []) → IsRootOf (pages_after log e pages) log.entries e head.root pages → IsStoredIn (with_extent log e head.root pages body) new
        entry-stored was log at stored its_body follows leads =
            let s = adds.staged in
            let part = part-after log at stored in
            let made : HasMade (pages_after log e pages) mid head.root = record {
              part = part;
              made = root-made (pages_with was.0 e pages) mid was.0.roll e head.root (known-after was.0 was.1 was.2) (may-after was.0 was.1 was.2);
            } in
            let streams = has-streams log.entries l.board stored.of in
            let same = its-root was.0 was.1 was.2 in
            let roots : HaveRoots (log.roots ++ s.root ∷ []) s.next.streams = roots-read log.entries l.board streams log.roots stored.counted stored.roots e adds.tree s its-reads in
            let of_old : IsBoardOf log.entries old.board = subst (IsBoardOf log.entries) (sym board_is) stored.of in
            let staged_of : rejection log.entries e ≡ None → IsTreeAfter log.entries e adds.tree → IsBoardOf (log.entries ++ e ∷ []) s.next =
            λ none after. subst (IsBoardOf (log.entries ++ e ∷ [])) adds.next (adds.of log.entries of_old none after) in
            record {
              of = subst (IsBoardOf (log.entries ++ e ∷ [])) (sym adds.next) (board-of log l.board mid e head.root pages body adds.tree s its_body made its-tree follows leads staged_of);
              least = omega (arith, adds.least, least_is, stored.least, needed-push log.entries e);
              counted = omega (arith, stored.counted, length-append log.entries (e ∷ []), length-append log.roots (head.root ∷ []));
              stored = subst (λ b. AreStored (pages_after log e pages) (log.gate + need body) b.streams) (sym adds.next) (board-stored log l.board mid e head.root pages body adds.tree s its_body made its-tree follows leads its-reads stored.stored);
              roots = subst (λ b. HaveRoots (log.roots ++ head.root ∷ []) b.streams) (sym adds.next) (subst (λ r. HaveRoots (log.roots ++ r ∷ []) s.next.streams) (sym same) roots);
              part = subst (ArePartOf (pages_after log e pages)) (sym its-nodes) part;
            }

        -- The body was added.
        pub body-added : WasReadTo gate l → ((k : ℕ) → IsSome (node_at mid k) → k < first + length nodes / 4096) → HasAdded gate body e head.root l new
        body-added was above = record {
          pages = pages;
          is = body-after;
          into = entry-into above;
          history = entry-stored was;
        }
