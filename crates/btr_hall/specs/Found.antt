-- Which stream is found by an id.
use Rattle.std.specs.Prelude.{◌≡◌, ℕ, List, Option, Some, None}
use Rattle.btr_hist.specs.declared.entry.Entry.{Entry}
use Rattle.btr_hist.specs.History.{stream_of, spec_of}
use Rattle.btr_hall.specs.declared.look.FoundStream.{FoundStream}

-- The stream with this id and its spec, if the history has such a stream.
abbrev pub IsFound : List Entry → ℕ → Option FoundStream → Type 0
IsFound h id None = stream_of h id ≡ None
IsFound h id (Some found) = (stream_of h id ≡ Some found.stream) × (spec_of h found.stream ≡ found.spec)
