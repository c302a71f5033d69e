-- The text of a line that a report writes: words with one space between each two, then a line feed.
use Rattle.std.specs.Prelude.{ℕ, List, [], ◌∷◌, ◌++◌, codes, decimal}
use Rattle.std.specs.Fmt.{signed_decimal}
use Rattle.btr_hist.specs.declared.kernel.Reads.{Reads}
use Rattle.btr_rows.specs.declared.row.RowReason.TheVariants as reasons
use Rattle.btr_text.specs.Text.{agg_words, id_text, line_text, reason_words, second_words}
use Rattle.btr_store.specs.declared.report_line.RowRefusal.{RowRefusal}
use Rattle.btr_store.specs.declared.report_line.RowRefusal.TheVariants.{Row, Output}
use Rattle.btr_store.specs.declared.report_line.ReportLine.{ReportLine}
use Rattle.btr_store.specs.declared.report_line.ReportLine.TheVariants.{RowRefused, BatchRefused, StreamLoaded, Loaded}
use Rattle.btr_store.specs.declared.report_line.ReportLine.TheVariants.{OutputCurrent, OutputRefused, RoundRefused, Used, StreamSummary}

-- A number with a colon, after which the reason of a refusal comes.
abbrev pub marked : ℕ → List ℕ
marked number = decimal number ++ codes ":"

-- The words of the refusal of one row, after `no`.
abbrev pub row_words : RowRefusal → List (List ℕ)
row_words (Row reasons.Fields) = codes "fields" ∷ []
row_words (Row reasons.Id) = codes "id" ∷ []
row_words (Row reasons.Time) = codes "time" ∷ []
row_words (Row reasons.Value) = codes "value" ∷ []
row_words (Row (reasons.Domain time)) = codes "domain" ∷ signed_decimal time ∷ []
row_words Output = codes "output" ∷ []

-- The versions of the inputs that a version was computed from.
abbrev pub reads_words : Reads → List (List ℕ)
reads_words r = decimal r.first ∷ second_words r.second

-- The words of a line.
abbrev pub report_words : ReportLine → List (List ℕ)
report_words (RowRefused number reason) = codes "row" ∷ marked number ∷ codes "no" ∷ row_words reason
report_words (BatchRefused id first last reason) =
    id_text id ∷ codes "rows" ∷ decimal first ∷ marked last ∷ codes "no" ∷ reason_words reason
report_words (StreamLoaded id version points) = id_text id ∷ decimal version ∷ decimal points ∷ []
report_words (Loaded good refused) = codes "loaded" ∷ decimal good ∷ codes "refused" ∷ decimal refused ∷ []
report_words (OutputCurrent id version reads) = id_text id ∷ decimal version ∷ reads_words reads
report_words (OutputRefused id reason) = id_text id ∷ codes "no" ∷ reason_words reason
report_words (RoundRefused id reason) = codes "materialize" ∷ id_text id ∷ codes "no" ∷ reason_words reason
report_words (Used entries) = codes "no" ∷ codes "used" ∷ decimal entries ∷ []
report_words (StreamSummary id version agg) = id_text id ∷ decimal version ∷ agg_words agg

abbrev pub report_text : ReportLine → List ℕ
report_text line = line_text (report_words line)
