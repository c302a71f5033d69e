-- What is said of each question by its form: the question of one stream without the stream, and which versions it is about.
use Rattle.std.specs.Prelude.{ℕ, ◌<◌, ◌≤◌, List, length}
use Rattle.btr_hist.specs.declared.entry.Entry.{Entry}
use Rattle.btr_hist.specs.declared.query.At.{At}
use Rattle.btr_hist.specs.declared.query.At.TheVariants.{Number, Latest}
use Rattle.btr_hist.specs.declared.query.Query.{Query}
use Rattle.btr_hist.specs.declared.query.Query.TheVariants as ask
use Rattle.btr_hist.specs.declared.query.StreamQuery.{StreamQuery}
use Rattle.btr_hist.specs.declared.query.StreamQuery.TheVariants.{Points, Nearest, Aligned, Windows, Changes, Info}
use Rattle.btr_hist.specs.History.{ids, latest, earliest}

-- The question, asked of the stream of this number.
abbrev pub of_stream : StreamQuery → ℕ → Query
of_stream (Points from to at) stream = ask.Points stream from to at
of_stream (Nearest time toward at) stream = ask.Nearest stream time toward at
of_stream (Aligned from to p at) stream = ask.Aligned stream from to p at
of_stream (Windows from to width at) stream = ask.Windows stream from to width at
of_stream (Changes old new p) stream = ask.Changes stream old new p
of_stream (Info at) stream = ask.Info stream at

-- The stream exists, and the version is given by its number, exists and is not retired.
abbrev pub IsThere : List Entry → ℕ → At → Type 0
IsThere h stream (Number version) = (stream < length (ids h)) × (version ≤ latest h stream) × (earliest h stream ≤ version)
IsThere h stream Latest = ⊥

-- The question is about versions that exist and are not retired.
abbrev pub IsSettled : List Entry → Query → Type 0
IsSettled h (ask.Points stream from to at) = IsThere h stream at
IsSettled h (ask.Nearest stream time way at) = IsThere h stream at
IsSettled h (ask.Aligned stream from to p at) = IsThere h stream at
IsSettled h (ask.Windows stream from to width at) = IsThere h stream at
IsSettled h (ask.Changes stream old new p) = IsThere h stream (Number old) × IsThere h stream (Number new)
IsSettled h (ask.Info stream at) = IsThere h stream at
IsSettled h ask.Streams = ⊥
