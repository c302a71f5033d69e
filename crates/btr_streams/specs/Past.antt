-- The past of the tree of a stream's version: the commits that the version has; and the numbers of the entries that made the versions
-- of a stream.
use Rattle.std.specs.Prelude.{ℕ, ◌+◌, Bool, if◌then◌else◌, List, [], ◌∷◌, take, slice_get}
use Rattle.std.specs.List.{cons_option}
use Rattle.std.specs.Option.{is_some}
use Rattle.btr_base.specs.Commit.{Change}
use Rattle.btr_tree.specs.History.{Past, nothing, ◌▷◌}
use Rattle.btr_hist.specs.declared.entry.Entry.{Entry}
use Rattle.btr_hist.specs.History.{new_id, change_of, commits}

-- The past of a tree with these commits after `before`, each with the version that it makes. `made` versions were made before.
abbrev pub with_commits : ℕ → Past → List Change → Past
with_commits made before [] = before
with_commits made before (c ∷ cs) =
    with_commits (made + 1) (record { version = made + 1; cut = c.cut; added = c.added } ▷ before) cs

-- The past of the tree of a version of a stream: the stream's commits up to the version.
abbrev pub commits_to : List Entry → ℕ → ℕ → Past
commits_to h stream version = with_commits 0 nothing (take version (commits h stream))

-- The numbers of the entries that pass a test, in order, if the first entry has the number n.
abbrev pub entry_numbers : (Entry → Bool) → ℕ → List Entry → List ℕ
entry_numbers test n [] = []
entry_numbers test n (e ∷ h) = if test e then n ∷ entry_numbers test (n + 1) h else entry_numbers test (n + 1) h

-- The numbers of the entries that made the streams, in order of creation. The first entry has the number 1.
abbrev pub creation_numbers : List Entry → List ℕ
creation_numbers h = entry_numbers (λ e. is_some (new_id e)) 1 h

-- The numbers of the commits of a stream, in order.
abbrev pub commit_numbers : List Entry → ℕ → List ℕ
commit_numbers h stream = entry_numbers (λ e. is_some (change_of stream e)) 1 h

-- The numbers of the entries that made the versions of a stream, from version 0 on, which is made with the stream. There are none if
-- the history does not have the stream.
abbrev pub stream_numbers : List Entry → ℕ → List ℕ
stream_numbers h stream = cons_option (slice_get (creation_numbers h) stream) (commit_numbers h stream)
