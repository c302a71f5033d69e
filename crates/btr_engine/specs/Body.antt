-- The bytes of an entry's extent: the body of the entry with its number; and the blocks that entries need.
use Rattle.std.specs.Prelude.{◌≡◌, ◌⊎◌, ℕ, ◌+◌, ◌-◌, ◌*◌, ◌^◌, ◌<◌, ◌≤◌, max, List, [], ◌∷◌, ◌++◌, length}
use Rattle.std.specs.List.{flat_map, AllByRecursion}
use Rattle.btr_base.specs.Commit.{Change}
use Rattle.btr_base.specs.declared.limits.TheConstants.{FIRST}
use Rattle.btr_disk.specs.Gate.{zeros}
use Rattle.btr_disk.specs.Numbers.{u32_at}
use Rattle.btr_log.specs.Extents.{need, first_gate}
use Rattle.btr_log.specs.declared.head.Head.{Head}
use Rattle.btr_log.specs.Head.{content_blocks, head_bytes, entry_head, checkpoint_head}
use Rattle.btr_node.specs.Page.{page_bytes, Fits}
use Rattle.btr_node.specs.declared.page.NodePage.{NodePage}
use Rattle.btr_tree.specs.History.{nothing}
use Rattle.btr_tree.specs.NewNodes.{new_nodes}
use Rattle.btr_tree.specs.Nodes.{above_root}
use Rattle.btr_tree.specs.PageNodes.{Pages}
use Rattle.btr_pages.specs.Pages.{no_pages, with_pages, ArePages}
use Rattle.btr_hist.specs.declared.entry.Entry.{Entry}
use Rattle.btr_hist.specs.declared.entry.Entry.TheVariants.{Create, Define, Commit, Distillate, Retire}
use Rattle.btr_hist.specs.History.{commits}
use Rattle.btr_entry.specs.Grammar.{spelling, IsSpelled}
use Rattle.btr_entry.specs.Format.{format_of}
use Rattle.btr_roll.specs.Roll.{roll_bytes}
use Rattle.btr_streams.specs.Rolling.{roll_of}
use Rattle.btr_streams.specs.Past.{with_commits}

-- ---- bodies

-- The number of zeros after a content of this length, up to the end of its last block.
abbrev pub padding : ℕ → ℕ
padding length = 4096 * content_blocks length - (64 + length)

-- The body of the entry with this number, with this root and these pages: its head, in the format of the entry, its spelling, zeros up to
-- the end of the last block of the content, and the pages, one in each block.
unfoldable pub body_of : ℕ → Entry → ℕ → List NodePage → List ℕ
body_of number e root pages =
    head_bytes (entry_head (format_of e) number (length (spelling e)) (length pages) root)
    ++ ((spelling e ++ zeros (padding (length (spelling e)))) ++ flat_map page_bytes pages)

-- A head, a content, zeros up to the end of its last block, pages, one in each block, and one block of zeros.
abbrev pub extent_bytes : Head → List ℕ → List NodePage → List ℕ
extent_bytes head content pages =
    (head_bytes head ++ ((content ++ zeros (padding (length content))) ++ flat_map page_bytes pages)) ++ zeros 4096

-- The format in the head of a body.
abbrev pub format_in : List ℕ → ℕ
format_in body = u32_at 12 body

-- Under a superblock of the format `limit` this body may be in the log: its format is no greater, or it is 4, which is that of the
-- checkpoint of a seal. A crash before the superblock of the seal leaves that checkpoint under a superblock of a lower format.
abbrev pub MayStandUnder : ℕ → List ℕ → Type 0
MayStandUnder limit body = (format_in body ≤ limit) ⊎ (format_in body ≡ 4)

-- ---- the part of a log before a gate

-- What is before a gate of a log: the entries of the extents, the root of each of them, and the pages in their blocks.
pub record Prefix : Type 0 where
  pub gate : ℕ
  pub entries : List Entry
  pub roots : List ℕ
  pub pages : Pages

-- The prefix up to this gate, with these entries, their roots and these pages.
abbrev pub prefix_to : ℕ → List Entry → List ℕ → Pages → Prefix
prefix_to gate h roots pages = record { gate = gate; entries = h; roots = roots; pages = pages }

-- Before the first gate there is no extent.
abbrev pub no_extents : Prefix
no_extents = prefix_to first_gate [] [] no_pages

-- The block of the first page of an entry's extent, whose gate is this one.
abbrev pub first_page : ℕ → Entry → ℕ
first_page gate e = gate + 1 + content_blocks (length (spelling e))

-- The pages that stand after the extent of an entry with these pages, if its gate is the one after the prefix.
abbrev pub pages_after : Prefix → Entry → List NodePage → Pages
pages_after before e pages = with_pages before.pages (first_page before.gate e) pages

-- The prefix with the extent of an entry more, with this root, these pages and this body.
abbrev pub with_extent : Prefix → Entry → ℕ → List NodePage → List ℕ → Prefix
with_extent before e root pages body =
    prefix_to (before.gate + need body) (before.entries ++ e ∷ []) (before.roots ++ root ∷ []) (pages_after before e pages)

-- The extent of an entry may have these pages. That of a retirement has none.
abbrev pub MayHavePages : Entry → List NodePage → Type 0
MayHavePages (Retire stream first) pages = pages ≡ []
MayHavePages e pages = Unit {0}

-- The body is that of this entry, which is the next one after the prefix, with this root and these pages. The pages stand rightly
-- after the gate, among those that stand before it.
pub record IsBodyOf (before : Prefix) (e : Entry) (root : ℕ) (pages : List NodePage) (body : List ℕ) : Type 0 where
  pub spelled : IsSpelled e
  pub fits : AllByRecursion Fits pages
  pub rightly : ArePages before.pages (first_page before.gate e) pages
  pub low : root < 2 ^ 64
  pub may_have : MayHavePages e pages
  pub bytes : body ≡ body_of (length before.entries + 1) e root pages

-- ---- checkpoints

-- The least format that a checkpoint after these entries may have: the greatest format of one of them, or 1 if there is none.
abbrev pub needed_format : List Entry → ℕ
needed_format [] = 1
needed_format (e ∷ h) = max (format_of e) (needed_format h)

-- The body, in this format, of a checkpoint after entries with these roots: its head, which has their number, its content, and zeros up to
-- the end of the last block.
unfoldable pub checkpoint_body : ℕ → List Entry → List ℕ → List ℕ
checkpoint_body format h roots =
    let content = roll_bytes format (roll_of h roots) in
    head_bytes (checkpoint_head format (length h) (length content)) ++ (content ++ zeros (padding (length content)))

-- The body is that of a checkpoint after the prefix: it has the streams of the prefix with all their versions. Its format is 1 to 4, and
-- no less than that of an entry of the prefix.
pub record IsCheckpointOf (before : Prefix) (body : List ℕ) : Type 0 where
  pub format : ℕ
  pub least : needed_format before.entries ≤ format
  pub most : format ≤ 4
  pub room : content_blocks (length (roll_bytes format (roll_of before.entries before.roots))) < 2 ^ 64
  pub bytes : body ≡ checkpoint_body format before.entries before.roots

-- The prefix with the extent of a checkpoint more, with this body. It has no entry and no page.
abbrev pub with_checkpoint : Prefix → List ℕ → Prefix
with_checkpoint before body = prefix_to (before.gate + need body) before.entries before.roots before.pages

-- ---- the history to which bodies lead

-- A rule on the root of the next entry after others, and on the pages that its extent adds to those that stand.
abbrev pub RootRule : Type 1
RootRule = Pages → List Entry → Entry → ℕ → List NodePage → Type 0

-- The extents with these bodies lead from one prefix to another: each body is that of the next entry, whose root and pages keep the
-- rule, or that of a checkpoint after those before it.
abbrev pub LeadTo : RootRule → Prefix → List (List ℕ) → Prefix → Type 0
LeadTo Rule before [] after = before ≡ after
LeadTo Rule before (body ∷ bodies) after =
    ((e : Entry) × (root : ℕ) × (pages : List NodePage) × IsBodyOf before e root pages body
    × Rule (pages_after before e pages) before.entries e root pages × LeadTo Rule (with_extent before e root pages body) bodies after)
    ⊎ (IsCheckpointOf before body × LeadTo Rule (with_checkpoint before body) bodies after)

-- From the first gate of a log to this one the extents with these bodies lead to this history, and to some roots and pages.
pub record LeadToHistory (Rule : RootRule) (bodies : List (List ℕ)) (gate : ℕ) (h : List Entry) : Type 0 where
  pub roots : List ℕ
  pub pages : Pages
  pub lead : LeadTo Rule no_extents bodies (prefix_to gate h roots pages)

-- ---- the blocks of an entry

-- The number of node blocks that a commit of this change writes, after these commits of its stream: one for each node of its tree that
-- is new.
unfoldable pub node_blocks : List Change → Change → ℕ
node_blocks past c = length (new_nodes 10 FIRST above_root (with_commits 0 nothing (past ++ c ∷ [])) (length past + 1))

-- The number of node blocks in the extent of an entry, if its stream has these commits. An entry that makes no version has none.
abbrev pub nodes_of : List Change → Entry → ℕ
nodes_of past (Create id) = 0
nodes_of past (Define id spec) = 0
nodes_of past (Retire stream first) = 0
nodes_of past (Commit stream cut added) = node_blocks past (record { cut = cut; added = added })
nodes_of past (Distillate stream cut added reads) = node_blocks past (record { cut = cut; added = added })

-- The blocks that an entry needs, if its stream has these commits: those of its content and of its nodes, and the gate after them.
abbrev pub need_after : List Change → Entry → ℕ
need_after past e = content_blocks (length (spelling e)) + nodes_of past e + 1

-- The commits of the stream that an entry commits to. An entry that makes no version has none.
abbrev pub commits_before : List Entry → Entry → List Change
commits_before h (Create id) = []
commits_before h (Define id spec) = []
commits_before h (Retire stream first) = []
commits_before h (Commit stream cut added) = commits h stream
commits_before h (Distillate stream cut added reads) = commits h stream

-- The blocks that an entry needs after this history. Only the earlier commits of its stream matter.
abbrev pub need_of : List Entry → Entry → ℕ
need_of h e = need_after (commits_before h e) e

-- The blocks that these entries need after the entries `before`, each after those before it.
abbrev pub needs_after : List Entry → List Entry → ℕ
needs_after before [] = 0
needs_after before (e ∷ more) = need_of before e + needs_after (before ++ e ∷ []) more

-- The blocks that the entries of a history need.
abbrev pub needs_of : List Entry → ℕ
needs_of h = needs_after [] h

-- The most node blocks of a commit of this many points that removes this many ranges, whatever the stream holds: 11 heights, and in each
-- at most 253 for a point and 2 for a range.
abbrev pub most_nodes : ℕ → ℕ → ℕ
most_nodes points ranges = 11 * (253 * points + 2 * ranges)

-- The most blocks that an entry needs, whatever it follows.
abbrev pub most_need_of : Entry → ℕ
most_need_of (Create id) = content_blocks (length (spelling (Create id))) + 1
most_need_of (Define id spec) = content_blocks (length (spelling (Define id spec))) + 1
most_need_of (Retire stream first) = content_blocks (length (spelling (Retire stream first))) + 1
most_need_of (Commit stream cut added) =
    content_blocks (length (spelling (Commit stream cut added))) + most_nodes (length added) (length cut) + 1
most_need_of (Distillate stream cut added reads) =
    content_blocks (length (spelling (Distillate stream cut added reads))) + most_nodes (length added) (length cut) + 1
