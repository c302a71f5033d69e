-- A walk over the log of a device: the extents from the start to a gate, each of which may follow those before it; and the block after
-- them that breaks the format.
use Rattle.std.specs.Prelude.{◌≡◌, ◌⊎◌, ℕ, ◌+◌, ◌*◌, ◌^◌, ◌<◌, ◌≤◌, true, false, List, [], ◌∷◌, take, length, None}
use Rattle.std.specs.List.{flat_map, AllByRecursion}
use Rattle.btr_disk.specs.Bytes.{Image}
use Rattle.btr_disk.specs.Gate.{IsOpen}
use Rattle.btr_log.specs.declared.head.Head.{Head}
use Rattle.btr_log.specs.Head.{content_blocks}
use Rattle.btr_log.specs.Extents.{need, IsExtent, Extents}
use Rattle.btr_log.specs.Found.{IsDamagedExtent}
use Rattle.btr_super.specs.declared.superblock.Super.{Super}
use Rattle.btr_super.specs.Super.{has_seal}
use Rattle.btr_node.specs.Page.{page_bytes, Spells, Fits}
use Rattle.btr_node.specs.declared.page.NodePage.{NodePage}
use Rattle.btr_tree.specs.PageNodes.{Pages}
use Rattle.btr_pages.specs.Pages.{with_pages, IsPageAt, ArePages}
use Rattle.btr_pages.specs.Blocks.{block_of_bytes, IsNoPage}
use Rattle.btr_hist.specs.declared.entry.Entry.{Entry}
use Rattle.btr_entry.specs.Grammar.{IsSpelled}
use Rattle.btr_roll.specs.Roll.{RollStreamValue, roll_bytes}
use Rattle.btr_engine.specs.Body.{first_page, body_of, MayStandUnder, MayHavePages}
use Rattle.btr_engine.specs.Mark.{body_of_roll}
use Rattle.btr_streams.specs.Outline.{outline_in, refusal}
use Rattle.btr_open.specs.Content.{HasContent, HasNoContent, MayHeadStand}
use Rattle.btr_open.specs.Reached.{Reached, pages_with, with_entry, passed}
use Rattle.btr_open.specs.RootTest.{MayLead, MayLeadIn, IsNamedRoot}
use Rattle.btr_open.specs.Below.{StandBelow, pages_joined}
use Rattle.btr_open.specs.Start.{IsReadingStart}

-- ---- bodies that may follow

-- The outline of these streams shows no reason why an entry may not follow. Points are not looked at.
abbrev pub FitsRoll : List RollStreamValue → Entry → Type 0
FitsRoll roll e = refusal (outline_in roll) e ≡ None

-- The body is that of this entry with the next number, which may follow, with this root, which may be its own, and these pages, which stand
-- rightly after those before.
pub record IsNextBody (before : Reached) (e : Entry) (root : ℕ) (pages : List NodePage) (body : List ℕ) : Type 0 where
  pub spelled : IsSpelled e
  pub fits : AllByRecursion Fits pages
  pub rightly : ArePages before.pages (first_page before.gate e) pages
  pub low : root < 2 ^ 64
  pub may_have : MayHavePages e pages
  pub bytes : body ≡ body_of (before.entries + 1) e root pages
  pub may_lead : MayLead (pages_with before e pages) before.roll e root
  pub allowed : FitsRoll before.roll e

-- The body is that of a checkpoint: it has the number of entries, and the streams with their versions. Its format is 1 to 4, and no less
-- than that of an entry that was read.
pub record IsCheckpointBody (before : Reached) (body : List ℕ) : Type 0 where
  pub format : ℕ
  pub from : (1 ≤ format) × (before.least ≤ format)
  pub most : format ≤ 4
  pub room : content_blocks (length (roll_bytes format before.roll)) < 2 ^ 64
  pub bytes : body ≡ body_of_roll format before.entries before.roll

-- The extents with these bodies lead from one gate to another: each body is that of an entry that may follow, or of a checkpoint.
abbrev pub LeadOn : Reached → List (List ℕ) → Reached → Type 0
LeadOn before [] after = before ≡ after
LeadOn before (body ∷ bodies) after =
    ((e : Entry) × (root : ℕ) × (pages : List NodePage) × IsNextBody before e root pages body
    × LeadOn (with_entry before e root pages body) bodies after)
    ⊎ (IsCheckpointBody before body × LeadOn (passed before body) bodies after)

-- From the start that the superblock names, extents follow one another and lead to this gate and what is before it. Each body may stand
-- under the superblock. In a sealed store no extent follows the start, so the gate is the superblock's tail.
pub record IsWalk (image : Image) (s : Super) (log : Reached) : Type 0 where
  pub start : Reached
  pub starts : IsReadingStart image s start
  pub bodies : List (List ℕ)
  pub extents : Extents image start.gate bodies log.gate
  pub leads : LeadOn start bodies log
  pub formats : AllByRecursion (MayStandUnder s.format) bodies
  pub sealed : has_seal s ≡ true → bodies ≡ []

-- ---- a body that breaks the format

-- The body has no content of the next entry, and is not that of a checkpoint of what is before it. Its first block breaks the format.
pub record IsNoNextBody (log : Reached) (body : List ℕ) (block : ℕ) : Type 0 where
  pub no_entry : HasNoContent (log.entries + 1) body
  pub no_checkpoint : IsCheckpointBody log body → ⊥
  pub first : block ≡ log.gate + 1

-- What is said of bodies that break the format is said for any rule that lets an entry with its root follow. An opening's rule is
-- `FitsRoll`.

-- The entry of the body may not follow with its root. The body's first block breaks the format.
pub record IsForbiddenBody (May : Entry → ℕ → Type 0) (log : Reached) (body : List ℕ) (block : ℕ) : Type 0 where
  pub entry : Entry
  pub root : ℕ
  pub nodes : List ℕ
  pub content : HasContent (log.entries + 1) entry root nodes body
  pub forbidden : May entry root → ⊥
  pub first : block ≡ log.gate + 1

-- The pages before a gate, if below the limit they are these.
abbrev pub pages_from : ℕ → Pages → Reached → Pages
pages_from limit below log = pages_joined limit below log.pages

-- The entry of the body may follow, but its root is wrong, whatever pages stand rightly below the limit.
pub record HasWrongRoot (May : Entry → ℕ → Type 0) (image : Image) (limit : ℕ) (log : Reached) (body : List ℕ) (block : ℕ) : Type 0 where
  pub entry : Entry
  pub root : ℕ
  pub nodes : List ℕ
  pub content : HasContent (log.entries + 1) entry root nodes body
  pub allowed : May entry root
  pub wrong : (below : Pages) → StandBelow image limit below
      → MayLeadIn (pages_from limit below log) log.roll entry (first_page log.gate entry) nodes root → ⊥
  pub named : IsNamedRoot log.gate entry (first_page log.gate entry) nodes root block

-- These bytes are those of a page that does not stand rightly in a block after `new`, which are from the block `first` on, whatever pages
-- stand rightly below the limit.
pub record IsOutOfPlace (image : Image) (limit : ℕ) (log : Reached) (first : ℕ) (new : List NodePage) (block : ℕ) (bytes : List ℕ)
    : Type 0 where
  pub page : NodePage
  pub fits : Fits page
  pub spells : Spells bytes page
  pub wrong : (below : Pages) → StandBelow image limit below
      → IsPageAt (with_pages (pages_from limit below log) first new) block page → ⊥

-- The entry of the body may follow, and its root is right. The first node blocks are pages that stand rightly, but the next one, which
-- is this block, is no page, or one that does not stand rightly after them.
pub record HasWrongNode (May : Entry → ℕ → Type 0) (image : Image) (limit : ℕ) (log : Reached) (body : List ℕ) (block : ℕ) : Type 0 where
  pub entry : Entry
  pub root : ℕ
  pub nodes : List ℕ
  pub content : HasContent (log.entries + 1) entry root nodes body
  pub allowed : May entry root
  pub right : MayLeadIn log.pages log.roll entry (first_page log.gate entry) nodes root
  pub before : List NodePage
  pub within : 4096 * length before < length nodes
  pub bytes : take (4096 * length before) nodes ≡ flat_map page_bytes before
  pub fit : AllByRecursion Fits before
  pub stand : ArePages log.pages (first_page log.gate entry) before
  pub next : block ≡ first_page log.gate entry + length before
  pub damaged :
      IsNoPage (block_of_bytes nodes (length before))
      ⊎ IsOutOfPlace image limit log (first_page log.gate entry) before block (block_of_bytes nodes (length before))

-- This block is the first one of a body that breaks the format, if this lets an entry follow. The tests are in this order: the content,
-- whether the entry may follow, its root, its node blocks. A checkpoint has no more than its content. Pages below the limit are read one
-- by one.
abbrev pub BreaksBodyBy : (Entry → ℕ → Type 0) → Image → ℕ → Reached → List ℕ → ℕ → Type 0
BreaksBodyBy May image limit log body block =
    IsNoNextBody log body block
    ⊎ (IsForbiddenBody May log body block
    ⊎ (HasWrongRoot May image limit log body block ⊎ HasWrongNode May image limit log body block))

-- This block is the first one of a body that breaks the format, as an opening tests it.
abbrev pub BreaksBody : Image → ℕ → Reached → List ℕ → ℕ → Type 0
BreaksBody image limit log body block = BreaksBodyBy (λ e root. FitsRoll log.roll e) image limit log body block

-- ---- a log that breaks the format

-- The store is sealed, but the gate at its tail is open. The gate's own block breaks the format.
pub record IsOpenTail (image : Image) (s : Super) (gate block : ℕ) : Type 0 where
  pub sealed : has_seal s ≡ true
  pub is_open : IsOpen image gate
  pub first : block ≡ gate

-- The gate is open. In a sealed store this block is the gate's own. In another store it breaks the format of an extent, whatever the
-- content is.
abbrev pub IsDamagedGate : Image → Super → ℕ → ℕ → Type 0
IsDamagedGate image s gate block =
    IsOpenTail image s gate block ⊎ ((has_seal s ≡ false) × IsDamagedExtent image s.blocks gate block)

-- Under a superblock of the format `limit` a body with this head, after the gate at this block, may not be in the log, since its format is
-- greater. The body's first block breaks the format.
abbrev pub IsAboveFormat : ℕ → ℕ → Head → ℕ → Type 0
IsAboveFormat limit gate head block = (MayHeadStand limit head → ⊥) × (block ≡ gate + 1)

-- The store is not sealed, the gate is open, and there is an extent inside the log's blocks whose body breaks the format: its format is
-- greater than may stand under the superblock; or it is not, and the body breaks the format.
pub record IsBrokenExtent (May : Entry → ℕ → Type 0) (image : Image) (s : Super) (log : Reached) (block : ℕ) : Type 0 where
  pub unsealed : has_seal s ≡ false
  pub head : Head
  pub body : List ℕ
  pub extent : IsExtent image log.gate body head
  pub inside : log.gate + need body < s.blocks
  pub breaks :
      IsAboveFormat s.format log.gate head block
      ⊎ (MayHeadStand s.format head × BreaksBodyBy May image s.checkpoint log body block)

-- The gate is open, but this block is the first one that breaks the format there, if this lets an entry follow: that of the gate itself in
-- a sealed store, or in another one that of an extent with the next entry or with a checkpoint.
abbrev pub IsDamagedNextBy : (Entry → ℕ → Type 0) → Image → Super → Reached → ℕ → Type 0
IsDamagedNextBy May image s log block = IsDamagedGate image s log.gate block ⊎ IsBrokenExtent May image s log block

-- The same, as an opening tests it.
abbrev pub IsDamagedNext : Image → Super → Reached → ℕ → Type 0
IsDamagedNext image s log block = IsDamagedNextBy (λ e root. FitsRoll log.roll e) image s log block

-- This block is the first one of the log that breaks the format, at the gate to which a walk leads.
pub record IsDamagedLog (image : Image) (s : Super) (block : ℕ) : Type 0 where
  pub log : Reached
  pub walk : IsWalk image s log
  pub damage : IsDamagedNext image s log block
