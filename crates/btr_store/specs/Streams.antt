-- The streams of a history, by their numbers.
use Rattle.std.specs.Prelude.{◌≡◌, ℕ, List, slice_get, slice_index_or, Option, Some, None}
use Rattle.std.specs.Option.{unwrap_or}
use Rattle.btr_disk.specs.declared.disk.Disk.{Ghosts}
use Rattle.btr_hist.specs.declared.entry.Entry.{Entry}
use Rattle.btr_hist.specs.declared.answer.StreamRow.{StreamRow}
use Rattle.btr_hist.specs.History.{ids}
use Rattle.btr_hist.specs.Answer.{rows_from}
use Rattle.btr_streams.specs.Board.{latest_of}
use Rattle.btr_hall.specs.declared.session.Session.{Session}
use Rattle.btr_hall.specs.Session.{IsSame, seen_of, mine_of}

-- These are the rows of all streams, in order.
abbrev pub AreStreams : List Entry → List StreamRow → Type 0
AreStreams h rows = rows ≡ rows_from h 0 (ids h)

-- The id of the stream with this number.
abbrev pub id_of_stream : List Entry → ℕ → ℕ
id_of_stream h stream = slice_index_or (ids h) stream 0

-- The id of a row that was looked up, or 0 if there is none.
abbrev pub id_of_row : Option StreamRow → ℕ
id_of_row None = 0
id_of_row (Some row) = row.id

-- The id of the stream with this number, by the rows of all streams.
abbrev pub id_in : List StreamRow → ℕ → ℕ
id_in rows stream = id_of_row (slice_get rows stream)

-- The latest version of the stream with this number.
abbrev pub version_of_stream : List Entry → ℕ → ℕ
version_of_stream h stream = unwrap_or (latest_of h stream) 0

module _ {D : Type 0} {disk : Ghosts D} where
  -- A session has seen nothing new, and added nothing.
  pub record Stays (old new : Session D disk) : Type 0 where
    pub same : IsSame old new
    pub seen : seen_of new ≡ seen_of old
    pub mine : mine_of new ≡ mine_of old
