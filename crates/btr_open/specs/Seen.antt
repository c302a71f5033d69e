-- What was seen of a log as it was read from its start: the entries, the roots that their extents say, and the checkpoints. And a walk
-- whose entries keep a rule after those before them.
use Rattle.std.specs.Prelude.{◌≡◌, ◌⊎◌, ℕ, ◌+◌, ◌<◌, min, Bool, true, false, List, [], ◌∷◌, ◌++◌, IsSome}
use Rattle.btr_disk.specs.Bytes.{Image}
use Rattle.btr_disk.specs.Gate.{IsClosed}
use Rattle.btr_log.specs.Extents.{need, first_gate}
use Rattle.btr_super.specs.declared.superblock.Super.{Super}
use Rattle.btr_node.specs.declared.page.NodePage.{NodePage}
use Rattle.btr_pages.specs.Known.{AreKnown, node_at}
use Rattle.btr_hist.specs.declared.entry.Entry.{Entry}
use Rattle.btr_open.specs.declared.judged.WholeLog.{WholeLog}
use Rattle.btr_open.specs.Reached.{Reached, with_entry, passed}
use Rattle.btr_open.specs.Walk.{FitsRoll, IsNextBody, IsCheckpointBody, IsWalk, IsDamagedNextBy}

-- ---- what was seen

-- The extent of a checkpoint: its gate, and the gate after it.
pub record Mark : Type 0 where
  pub gate : ℕ
  pub next : ℕ

-- The entries that were read, the root of each of them, and the extents of the checkpoints, in order.
pub record Seen : Type 0 where
  pub entries : List Entry
  pub roots : List ℕ
  pub marks : List Mark

-- At the start nothing was seen.
abbrev pub nothing_seen : Seen
nothing_seen = record { entries = []; roots = []; marks = [] }

-- One entry more, with its root.
abbrev pub with_seen : Seen → Entry → ℕ → Seen
with_seen seen e root = record { entries = seen.entries ++ e ∷ []; roots = seen.roots ++ root ∷ []; marks = seen.marks }

-- One checkpoint more.
abbrev pub with_mark : Seen → ℕ → ℕ → Seen
with_mark seen gate next =
    record { entries = seen.entries; roots = seen.roots; marks = seen.marks ++ record { gate = gate; next = next } ∷ [] }

-- ---- entries that keep a rule

-- A rule on an entry and its root after other entries, beside what every reading of a log tests.
abbrev pub EntryRule : Type 1
EntryRule = List Entry → Entry → ℕ → Type 0

-- The answer on an entry with its root, by a judge that has seen what was seen: if the entry keeps the rule, the judge has seen it too.
abbrev pub IsJudged : {J : Type 0} → EntryRule → (Seen → J → Type 0) → Seen → Entry → ℕ → J → Bool → Type 0
IsJudged May IsAfter seen e root new true = May seen.entries e root × IsAfter (with_seen seen e root) new
IsJudged May IsAfter seen e root new false = May seen.entries e root → ⊥

-- The entry may follow what is before a gate, and keeps the rule after these entries.
abbrev pub Lets : EntryRule → Reached → List Entry → Entry → ℕ → Type 0
Lets May log h e root = FitsRoll log.roll e × May h e root

-- The extents with these bodies lead from one gate to another, as what was seen grows: each body is that of an entry that may follow and
-- keeps the rule after the entries before it, or of a checkpoint.
abbrev pub LeadOnBy : EntryRule → Reached → Seen → List (List ℕ) → Reached → Seen → Type 0
LeadOnBy May before seen [] after all = (before ≡ after) × (seen ≡ all)
LeadOnBy May before seen (body ∷ bodies) after all =
    ((e : Entry) × (root : ℕ) × (pages : List NodePage) × IsNextBody before e root pages body × May seen.entries e root
    × LeadOnBy May (with_entry before e root pages body) (with_seen seen e root) bodies after all)
    ⊎ (IsCheckpointBody before body
    × LeadOnBy May (passed before body) (with_mark seen before.gate (before.gate + need body)) bodies after all)

-- The entries of a walk keep the rule, each after those before it since the start of the walk, and this was seen of them.
abbrev pub KeepsRule : EntryRule → {image : Image} {s : Super} {log : Reached} → IsWalk image s log → Seen → Type 0
KeepsRule May {log = log} walk seen = LeadOnBy May walk.start nothing_seen walk.bodies log seen

-- ---- a log that breaks the format or the rule

-- This block is the first one of the log that breaks the format or the rule, at the gate to which a walk leads whose entries keep the
-- rule. An entry that breaks the rule is named by the first block of its body.
pub record IsDamagedLogBy (May : EntryRule) (image : Image) (s : Super) (block : ℕ) : Type 0 where
  pub log : Reached
  pub seen : Seen
  pub walk : IsWalk image s log
  pub keeps : KeepsRule May walk seen
  pub damage : IsDamagedNextBy (Lets May log seen.entries) image s log block

-- ---- a log that was read whole

-- The superblock as it would be if the log were read from its first gate. It has no seal, or no extent might follow that gate: for format 4
-- it has 3, under which the same bodies may stand.
abbrev pub first_reading : Super → Super
first_reading s = record { seq = 1; side = s.side; blocks = s.blocks; tail = first_gate; checkpoint = 0; format = min s.format 3 }

-- The log of a superblock was read whole: a walk leads to the closed gate at its end, and its entries keep the rule. The judge has seen
-- them, and the trees are those of all pages of the log.
pub record IsJudgedLog {J : Type 0} (May : EntryRule) (IsAfter : Seen → J → Type 0) (image : Image) (s : Super) (judge : J) (w : WholeLog)
    : Type 0 where
  pub log : Reached
  pub at : log.gate ≡ w.tail
  pub walk : IsWalk image s log
  pub seen : Seen
  pub keeps : KeepsRule May walk seen
  pub judged : IsAfter seen judge
  pub known : AreKnown log.pages w.nodes
  pub closed : IsClosed image w.tail
  pub inside : w.tail < s.blocks

-- The log ends inside the store, and the trees are of blocks before its end. It is said of each device, also of one that does not tell its
-- bytes.
pub record EndsInside (blocks : ℕ) (w : WholeLog) : Type 0 where
  pub inside : w.tail < blocks
  pub below : (block : ℕ) → IsSome (node_at w.nodes block) → block < w.tail
