-- What a checkpoint after a history has: each stream with its first version that is not retired and all its versions, and for each version
-- the number of its entry and the block of its root; and what a checkpoint of a board has.
use Rattle.std.specs.Prelude.{◌≡◌, ℕ, ◌+◌, ◌-◌, ◌≤◌, List, [], ◌∷◌, drop, map, slice_get, get_or, IfSome}
use Rattle.btr_tree.specs.Root.{TreeValue}
use Rattle.btr_tree.specs.Slots.{block_of}
use Rattle.btr_hist.specs.declared.entry.Entry.{Entry}
use Rattle.btr_hist.specs.History.{ids, spec_of, read_by, earliest}
use Rattle.btr_roll.specs.Roll.{RollStreamValue}
use Rattle.btr_roll.specs.declared.roll.RollVersion.{RollVersion}
use Rattle.btr_streams.specs.Past.{stream_numbers}
use Rattle.btr_streams.specs.Board.{Versions, Kept, read_at}

-- ---- of a history

-- The root of the entry with this number, if the entries have these roots.
abbrev pub root_at : List ℕ → ℕ → ℕ
root_at roots number = get_or roots (number - 1) 0

-- The versions of a stream from this one on, which were made by the entries with these numbers.
abbrev pub rolled_versions : List Entry → List ℕ → ℕ → ℕ → List ℕ → List RollVersion
rolled_versions h roots stream version [] = []
rolled_versions h roots stream version (number ∷ numbers) =
    record { entry = number; root = root_at roots number; reads = read_by h stream version }
    ∷ rolled_versions h roots stream (version + 1) numbers

-- The stream of this number and this id, with its versions from version 1 on.
abbrev pub rolled_stream : List Entry → List ℕ → ℕ → ℕ → RollStreamValue
rolled_stream h roots stream id =
    record {
      id = id;
      entry = get_or (stream_numbers h stream) 0 0;
      spec = spec_of h stream;
      first = earliest h stream;
      versions = rolled_versions h roots stream 1 (drop 1 (stream_numbers h stream));
    }

-- The streams with these ids, of which the first has this number.
abbrev pub rolled_from : List Entry → List ℕ → ℕ → List ℕ → List RollStreamValue
rolled_from h roots stream [] = []
rolled_from h roots stream (id ∷ more) = rolled_stream h roots stream id ∷ rolled_from h roots (stream + 1) more

-- The streams of a history whose entries have these roots, in order of creation.
abbrev pub roll_of : List Entry → List ℕ → List RollStreamValue
roll_of h roots = rolled_from h roots 0 (ids h)

-- ---- of a board

-- The version of a stream with this number, which has this tree.
abbrev pub kept_version : Versions → ℕ → TreeValue → RollVersion
kept_version s version t =
    record { entry = get_or s.numbers version 0; root = block_of t.node; reads = read_at s.reads version }

-- The versions of a stream from this one on, which have these trees.
abbrev pub kept_versions : Versions → ℕ → List TreeValue → List RollVersion
kept_versions s version [] = []
kept_versions s version (t ∷ trees) = kept_version s version t ∷ kept_versions s (version + 1) trees

-- The stream, with its versions from version 1 on.
abbrev pub kept_stream : Versions → RollStreamValue
kept_stream s =
    record {
      id = s.id;
      entry = get_or s.numbers 0 0;
      spec = s.spec;
      first = s.earliest;
      versions = kept_versions s 1 (drop 1 s.trees);
    }

-- The streams of a board with their versions, in order of creation.
abbrev pub rolled : Kept → List RollStreamValue
rolled b = map kept_stream b.streams

-- The roots of the entries that made the versions of streams are the blocks of the versions' roots.
abbrev pub HaveRoots : List ℕ → List Versions → Type 0
HaveRoots roots streams =
    (stream version : ℕ) → 1 ≤ version → IfSome (slice_get streams stream) (λ s.
    IfSome (slice_get s.trees version) (λ t. root_at roots (get_or s.numbers version 0) ≡ block_of t.node))
