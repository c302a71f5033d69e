-- A shelf: the streams of a sealed store with the roots of their versions, which lead to the trees of the versions in pages that are
-- fetched.
use Rattle.std.specs.Prelude.{◌≡◌, ◌⊎◌, ℕ, zero, suc, ◌+◌, ◌<◌, List, length, map, slice_get, Option, Some, None, is_some, option_map}
use Rattle.std.specs.BTreeMap.{is_at}
use Rattle.std.specs.Map.{lookup}
use Rattle.std.specs.Option.{unwrap_or, option_and_then}
use Rattle.std.specs.Ordering.{nat_cmp}
use Rattle.btr_node.specs.declared.page.NodePage.{NodePage}
use Rattle.btr_tree.specs.declared.fetch.NodeFault.{NodeFault}
use Rattle.btr_tree.specs.declared.fetch.NodeFault.TheVariants.{Want}
use Rattle.btr_tree.specs.declared.spot.Root.{Root}
use Rattle.btr_tree.specs.Spots.{StandsIn, IsRootAt, IsPossibleRoot, IsWalkCause}
use Rattle.btr_hist.specs.declared.entry.Entry.{Entry}
use Rattle.btr_hist.specs.declared.kernel.Reads.{Reads}
use Rattle.btr_hist.specs.declared.answer.StreamRow.{StreamRow}
use Rattle.btr_roll.specs.declared.roll.RollVersion.{RollVersion}
use Rattle.btr_roll.specs.Roll.{RollStreamValue}
use Rattle.btr_streams.specs.Board.{HasVersion, place_of}
use Rattle.btr_streams.specs.Past.{commits_to}
use Rattle.btr_streams.specs.Rolling.{roll_of}

-- What contracts see of a shelf: the streams with their versions, in order of creation, and the number of entries.
pub record ShelfValue : Type 0 where
  pub roll : List RollStreamValue
  pub entries : ℕ

-- ---- ids

-- The number of an id, if it has one.
abbrev pub number_at : List (ℕ × ℕ) → ℕ → Option ℕ
number_at numbers id = lookup (is_at (nat_cmp id)) numbers

-- Each id of the streams has the number of the first stream with it, and no other id has a number.
abbrev pub HasNumbers : List (ℕ × ℕ) → List RollStreamValue → Type 0
HasNumbers numbers roll = (id : ℕ) → number_at numbers id ≡ place_of (map (λ s. s.id) roll) id

-- ---- versions and their roots

-- The number of versions of a stream, with version 0; 0 if there is no stream.
abbrev pub rolled_count : Option RollStreamValue → ℕ
rolled_count None = 0
rolled_count (Some s) = length s.versions + 1

-- The number of versions of the stream with this number.
abbrev pub versions_on : List RollStreamValue → ℕ → ℕ
versions_on roll stream = rolled_count (slice_get roll stream)

-- A version of a stream, if it is not version 0 and the stream has it. The versions of a roll begin with version 1.
abbrev pub rolled_version : List RollVersion → ℕ → Option RollVersion
rolled_version versions zero = None
rolled_version versions (suc before) = slice_get versions before

-- The block of the root of a version of a stream: 0 for version 0, and for a version that there is not.
abbrev pub rolled_root : Option RollStreamValue → ℕ → ℕ
rolled_root None version = 0
rolled_root (Some s) version = unwrap_or (option_map (λ (v : RollVersion). v.root) (rolled_version s.versions version)) 0

-- What a version of a stream has read, if it has read something.
abbrev pub rolled_reads : RollStreamValue → ℕ → Option Reads
rolled_reads s version = option_and_then (λ (v : RollVersion). v.reads) (rolled_version s.versions version)

-- The row of a stream in the list of all streams.
abbrev pub row_on : RollStreamValue → StreamRow
row_on s = record { id = s.id; latest = length s.versions; output = is_some s.spec }

-- The root of a version of the stream with this number.
abbrev pub root_on : List RollStreamValue → ℕ → ℕ → Root
root_on roll stream version =
    record { block = rolled_root (slice_get roll stream) version; stream = stream; version = version }

-- ---- the shelf of a history

-- The shelf has the streams of a history, with some roots, and the number of its entries.
pub record HasRollOf (h : List Entry) (shelf : ShelfValue) : Type 0 where
  pub roots : List ℕ
  pub roll : shelf.roll ≡ roll_of h roots
  pub entries : shelf.entries ≡ length h

-- The shelf may be that of a history: it has the history's streams, and in the pages that blocks have, the root of each version may be
-- that of the version's tree, though any of its pages may be lost.
pub record IsPossibleShelfOf (has : ℕ → NodePage → Type 0) (h : List Entry) (shelf : ShelfValue) : Type 0 where
  pub rolled : HasRollOf h shelf
  pub may_lead : (stream version : ℕ) → HasVersion h stream version
      → IsPossibleRoot has (root_on shelf.roll stream version) (commits_to h stream version)

-- The shelf is that of a history: it may be, and no page is lost. In the pages that blocks have, the root of each version leads to the
-- whole tree of that version.
pub record IsShelfOf (has : ℕ → NodePage → Type 0) (h : List Entry) (shelf : ShelfValue) : Type 0 where
  pub may : IsPossibleShelfOf has h shelf
  pub lead : (stream version : ℕ) → HasVersion h stream version
      → IsRootAt (StandsIn has) (root_on shelf.roll stream version) (commits_to h stream version)

-- P holds for each history whose shelf this is, with all pages there.
abbrev pub AtEachShelf : (ℕ → NodePage → Type 0) → ShelfValue → (List Entry → Type 0) → Type 0
AtEachShelf has shelf P = (h : List Entry) → IsShelfOf has h shelf → P h

-- P holds for each history whose shelf this may be.
abbrev pub AtEachPossibleShelf : (ℕ → NodePage → Type 0) → ShelfValue → (List Entry → Type 0) → Type 0
AtEachPossibleShelf has shelf P = (h : List Entry) → IsPossibleShelfOf has h shelf → P h

-- Why there is no answer: out of memory, or a walk from the root of one of the shelf's versions is refused.
abbrev pub IsShelfCause : (observable : Type 0) → ShelfValue → (observable → ℕ → NodePage → Type 0) → ℕ → ℕ → NodeFault → Type 0
IsShelfCause observable shelf has before after e =
    (e ≡ Want)
    ⊎ ((stream : ℕ) × (version : ℕ) × (version < versions_on shelf.roll stream)
    × IsWalkCause observable (root_on shelf.roll stream version) has before after e)
