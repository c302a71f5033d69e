-- How far a log was read: what is before a gate, as far as it matters for what may follow; and what an extent adds.
use Rattle.std.specs.Prelude.{ℕ, zero, suc, ◌+◌, max, List, [], ◌∷◌, ◌++◌, slice_get, Option, Some, None}
use Rattle.btr_log.specs.Extents.{need, first_gate}
use Rattle.btr_node.specs.declared.page.NodePage.{NodePage}
use Rattle.btr_tree.specs.PageNodes.{Pages}
use Rattle.btr_pages.specs.Pages.{no_pages, with_pages}
use Rattle.btr_hist.specs.declared.entry.Entry.{Entry}
use Rattle.btr_hist.specs.declared.entry.Entry.TheVariants.{Create, Commit, Define, Distillate, Retire}
use Rattle.btr_hist.specs.declared.kernel.Spec.{Spec}
use Rattle.btr_roll.specs.declared.roll.RollVersion.{RollVersion}
use Rattle.btr_roll.specs.Roll.{RollStreamValue, versions_count}
use Rattle.btr_entry.specs.Format.{format_of}
use Rattle.btr_engine.specs.Body.{first_page}

-- What is before a gate of a log: the number of entries, the streams with their versions, as a checkpoint has them, the pages, and the
-- least format that a checkpoint may have, by the entries that were read. The points and ranges of the entries are not there: they do not
-- matter for what may follow.
pub record Reached : Type 0 where
  pub gate : ℕ
  pub entries : ℕ
  pub roll : List RollStreamValue
  pub pages : Pages
  pub least : ℕ

-- Before the first gate there is no entry, no stream and no page.
abbrev pub beginning : Reached
beginning = record { gate = first_gate; entries = 0; roll = []; pages = no_pages; least = 1 }

-- ---- streams and their versions

-- A new stream, made by the entry of this number: an output of this spec, or a plain stream.
abbrev pub new_in_roll : ℕ → Option Spec → ℕ → RollStreamValue
new_in_roll id spec number = record { id = id; entry = number; spec = spec; first = 0; versions = [] }

-- The stream with one version more.
abbrev pub with_version_more : RollVersion → RollStreamValue → RollStreamValue
with_version_more v s = record { id = s.id; entry = s.entry; spec = s.spec; first = s.first; versions = s.versions ++ v ∷ [] }

-- The stream with its versions before the first retired.
abbrev pub with_first : ℕ → RollStreamValue → RollStreamValue
with_first first s = record { id = s.id; entry = s.entry; spec = s.spec; first = first; versions = s.versions }

-- The streams, of which that at a place has one version more.
abbrev pub with_version_at : List RollStreamValue → ℕ → RollVersion → List RollStreamValue
with_version_at [] stream v = []
with_version_at (s ∷ roll) zero v = with_version_more v s ∷ roll
with_version_at (s ∷ roll) (suc stream) v = s ∷ with_version_at roll stream v

-- The streams, of which that at a place has its versions before the first retired.
abbrev pub with_first_at : List RollStreamValue → ℕ → ℕ → List RollStreamValue
with_first_at [] stream first = []
with_first_at (s ∷ roll) zero first = with_first first s ∷ roll
with_first_at (s ∷ roll) (suc stream) first = s ∷ with_first_at roll stream first

-- The streams after an entry with this number and this root.
abbrev pub next_roll : List RollStreamValue → Entry → ℕ → ℕ → List RollStreamValue
next_roll roll (Create id) number root = roll ++ new_in_roll id None number ∷ []
next_roll roll (Define id spec) number root = roll ++ new_in_roll id (Some spec) number ∷ []
next_roll roll (Retire stream first) number root = with_first_at roll stream first
next_roll roll (Commit stream cut added) number root =
    with_version_at roll stream (record { entry = number; root = root; reads = None })
next_roll roll (Distillate stream cut added reads) number root =
    with_version_at roll stream (record { entry = number; root = root; reads = Some reads })

-- The version that the next commit of a stream makes.
abbrev pub next_version : List RollStreamValue → ℕ → ℕ
next_version roll stream = versions_count (slice_get roll stream) + 1

-- ---- one extent more

-- The pages with those of an entry's extent, whose gate is this one.
abbrev pub pages_with : Reached → Entry → List NodePage → Pages
pages_with before e pages = with_pages before.pages (first_page before.gate e) pages

-- What is before the gate after an entry's extent, with this root, these pages and this body.
abbrev pub with_entry : Reached → Entry → ℕ → List NodePage → List ℕ → Reached
with_entry before e root pages body =
    record {
      gate = before.gate + need body;
      entries = before.entries + 1;
      roll = next_roll before.roll e (before.entries + 1) root;
      pages = pages_with before e pages;
      least = max before.least (format_of e);
    }

-- What is before the gate after a checkpoint's extent, with this body.
abbrev pub passed : Reached → List ℕ → Reached
passed before body =
    record { gate = before.gate + need body; entries = before.entries; roll = before.roll; pages = before.pages; least = before.least }

-- The same, with other pages.
abbrev pub with_other_pages : Reached → Pages → Reached
with_other_pages before pages =
    record { gate = before.gate; entries = before.entries; roll = before.roll; pages = pages; least = before.least }
