-- The text of a reply: one line of words and numbers, then one line for each row.
use Rattle.std.specs.Prelude.{ℕ, ℤ, Bool, true, false, List, [], ◌∷◌, ◌++◌, length, flat_map, codes, decimal, Option, Some, None}
use Rattle.std.specs.Int.{to_be_bytes, w128}
use Rattle.std.specs.Fmt.{signed_decimal}
use Rattle.std.specs.List.{join_with_byte}
use Rattle.uuid.specs.Text.{hyphenated_text, lower}
use Rattle.btr_base.specs.declared.point.Point.{Point}
use Rattle.btr_base.specs.declared.cell.Cell.{Cell}
use Rattle.btr_base.specs.Range.{RangeValue}
use Rattle.btr_base.specs.Agg.{AggValue}
use Rattle.btr_hist.specs.declared.answer.Rows.{Rows}
use Rattle.btr_hist.specs.declared.answer.Rows.TheVariants as rows
use Rattle.btr_hist.specs.declared.answer.StreamRow.{StreamRow}
use Rattle.btr_hist.specs.declared.kernel.Reads.{Reads}
use Rattle.btr_base.specs.declared.limits.TheConstants.{MAX_STREAMS, MAX_VERSIONS}
use Rattle.btr_text.specs.declared.word.TheConstants.{SPACE, LINE_FEED}
use Rattle.btr_text.specs.declared.reply.LineReply.{LineReply}
use Rattle.btr_text.specs.declared.reply.LineReply.TheVariants.{Done, Held, Ticket, Found, No}
use Rattle.btr_text.specs.declared.reply.Reason.{Reason}
use Rattle.btr_text.specs.declared.reply.Reason.TheVariants as reasons

-- Words with one space between each two, then a line feed.
abbrev pub line_text : List (List ℕ) → List ℕ
line_text words = join_with_byte SPACE words ++ LINE_FEED ∷ []

-- The id of a stream, hyphenated and in lower case.
abbrev pub id_text : ℕ → List ℕ
id_text id = hyphenated_text lower (to_be_bytes w128 id)

-- The words of a refusal, after `no`.
abbrev pub reason_words : Reason → List (List ℕ)
reason_words reasons.Line = codes "line" ∷ []
reason_words reasons.Stream = codes "stream" ∷ []
reason_words reasons.Range = codes "range" ∷ []
reason_words (reasons.Version asked latest) = codes "version" ∷ decimal asked ∷ decimal latest ∷ []
reason_words (reasons.Retired asked first) = codes "retired" ∷ decimal asked ∷ decimal first ∷ []
reason_words reasons.Exists = codes "exists" ∷ []
reason_words reasons.Output = codes "output" ∷ []
reason_words reasons.Plain = codes "plain" ∷ []
reason_words (reasons.Domain time) = codes "domain" ∷ signed_decimal time ∷ []
reason_words reasons.Empty = codes "empty" ∷ []
reason_words (reasons.Many count) = codes "many" ∷ decimal count ∷ []
reason_words reasons.Streams = codes "streams" ∷ decimal MAX_STREAMS ∷ []
reason_words reasons.Versions = codes "versions" ∷ decimal MAX_VERSIONS ∷ []
reason_words reasons.Spec = codes "spec" ∷ []
reason_words (reasons.First first present latest) = codes "first" ∷ decimal first ∷ decimal present ∷ decimal latest ∷ []
reason_words (reasons.Held id version) = codes "held" ∷ id_text id ∷ decimal version ∷ []
reason_words (reasons.Crowded start) = codes "crowded" ∷ signed_decimal start ∷ []
reason_words (reasons.Points count) = codes "points" ∷ decimal count ∷ []
reason_words reasons.Memory = codes "memory" ∷ []
reason_words (reasons.Full need left) = codes "full" ∷ decimal need ∷ decimal left ∷ []
reason_words reasons.Device = codes "device" ∷ []
reason_words (reasons.Damaged block) = codes "damaged" ∷ decimal block ∷ []
reason_words (reasons.Stopped entries) = codes "stopped" ∷ decimal entries ∷ []
reason_words reasons.Sealed = codes "sealed" ∷ []
reason_words (reasons.Superseded version) = codes "superseded" ∷ decimal version ∷ []
reason_words reasons.Group = codes "group" ∷ []
reason_words reasons.Busy = codes "busy" ∷ []
reason_words reasons.Spent = codes "spent" ∷ []

-- The first line of a reply that is no refusal: the version and the number of rows.
abbrev pub ok_text : ℕ → ℕ → List ℕ
ok_text version rows = line_text (codes "ok" ∷ decimal version ∷ decimal rows ∷ [])

-- The least and the greatest value, if there is a point.
abbrev pub ends_words : Option (ℤ × ℤ) → List (List ℕ)
ends_words None = []
ends_words (Some e) = signed_decimal e.0 ∷ signed_decimal e.1 ∷ []

-- The words of an aggregate: the number of points, their sum, then the least and the greatest value.
abbrev pub agg_words : AggValue → List (List ℕ)
agg_words a = decimal a.count ∷ signed_decimal a.total ∷ ends_words a.ends

-- The row of a point.
abbrev pub point_row : Point → List ℕ
point_row p = line_text (signed_decimal p.time ∷ signed_decimal p.value ∷ [])

-- The row of a window.
abbrev pub cell_row : Cell → List ℕ
cell_row c = line_text (signed_decimal c.start ∷ agg_words c.agg)

-- The row of a changed range.
abbrev pub range_row : RangeValue → List ℕ
range_row r = line_text (signed_decimal r.from ∷ signed_decimal r.to ∷ [])

-- The kind of a stream.
abbrev pub kind_word : Bool → List ℕ
kind_word false = codes "plain"
kind_word true = codes "output"

-- The row of a stream.
abbrev pub stream_row : StreamRow → List ℕ
stream_row s = line_text (id_text s.id ∷ decimal s.latest ∷ kind_word s.output ∷ [])

-- The first row of `info`: the kind of the stream, and the aggregate of all points of a version.
abbrev pub info_row : Bool → AggValue → List ℕ
info_row output a = line_text (kind_word output ∷ agg_words a)

-- The version of a second input, if there is one.
abbrev pub second_words : Option ℕ → List (List ℕ)
second_words None = []
second_words (Some version) = decimal version ∷ []

-- The second row of `info`, if there is one: the versions of the inputs that the version was computed from.
abbrev pub reads_text : Option Reads → List ℕ
reads_text None = []
reads_text (Some r) = line_text (codes "reads" ∷ decimal r.first ∷ second_words r.second)

-- The number of rows of `info`.
abbrev pub info_count : Option Reads → ℕ
info_count None = 1
info_count (Some r) = 2

-- The number of rows.
abbrev pub row_count : Rows → ℕ
row_count (rows.Points ps) = length ps
row_count (rows.Cells cs) = length cs
row_count (rows.Ranges rs) = length rs
row_count (rows.Info output a r) = info_count r
row_count (rows.Streams ss) = length ss

-- The rows, one after another.
abbrev pub rows_text : Rows → List ℕ
rows_text (rows.Points ps) = flat_map point_row ps
rows_text (rows.Cells cs) = flat_map cell_row cs
rows_text (rows.Ranges rs) = flat_map range_row rs
rows_text (rows.Info output a r) = info_row output a ++ reads_text r
rows_text (rows.Streams ss) = flat_map stream_row ss

-- The line of points that wait: their number in a feed, or their ticket in a shared buffer.
abbrev pub held_text : ℕ → List ℕ
held_text number = line_text (codes "held" ∷ decimal number ∷ [])

-- The text of a reply.
abbrev pub text : LineReply → List ℕ
text (Done version) = ok_text version 0
text (Held count) = held_text count
text (Ticket ticket) = held_text ticket
text (Found version r) = ok_text version (row_count r) ++ rows_text r
text (No reason) = line_text (codes "no" ∷ reason_words reason)
