-- Lemmas on the lines of outputs, one for each of a report.
use Rattle.std.specs.Prelude.{◌≡◌, ◌⊎◌, ℕ, ◌+◌, ◌<◌, ◌≤◌, List, [], ◌∷◌, ◌++◌, length, map, take, get_or}
use Rattle.std.proofs.Common.{sym, ap, ◌∙◌, subst, inl, inr}
use Rattle.std.proofs.lemmas.List.{take_more, take_all, map_push}
use Rattle.btr_hist.specs.declared.entry.Entry.{Entry}
use Rattle.btr_work.specs.declared.report.RefreshLine.{RefreshLine}
use Rattle.btr_work.specs.declared.report.Refreshed.{Refreshed}
use Rattle.btr_work.specs.declared.report.Refreshed.TheVariants as results
use Rattle.btr_store.specs.declared.report_line.ReportLine.{ReportLine}
use Rattle.btr_store.specs.declared.transcript.Transcript.{Transcript}
use Rattle.btr_store.specs.Transcript.{SaysLines, AddsLine}
use Rattle.btr_store.specs.Distil.{IsCurrentLine, IsOutputLine, AreOutputLines, SaysOutputs, current_line, line_of_output}

-- ---- the line of an output that is up to date

pub current_is : (result : Refreshed) (line : ReportLine) → ((version : ℕ) × (result ≡ results.Landed version)) ⊎ ((version : ℕ) × (result ≡ results.Current version)) → IsCurrentLine line → IsOutputLine result line
current_is result line (inl landed) is = subst (λ r. IsOutputLine r line) (sym landed.1) is
current_is result line (inr current) is = subst (λ r. IsOutputLine r line) (sym current.1) is

pub current_of : (h : List Entry) (id output : ℕ) (result : Refreshed) → ((version : ℕ) × (result ≡ results.Landed version)) ⊎ ((version : ℕ) × (result ≡ results.Current version)) → current_line h id output ≡ line_of_output h id output result
current_of h id output result (inl landed) = ap (line_of_output h id output) (sym landed.1)
current_of h id output result (inr current) = ap (line_of_output h id output) (sym current.1)

-- ---- one line more

AreOutputLines-push : (report : List RefreshLine) (said : List ReportLine) (output : RefreshLine) (line : ReportLine) → AreOutputLines report said → IsOutputLine output.result line → AreOutputLines (report ++ output ∷ []) (said ++ line ∷ [])
AreOutputLines-push [] [] output line are is = (is, tt)
AreOutputLines-push [] (other ∷ said) output line are is = absurd are
AreOutputLines-push (first ∷ report) [] output line are is = absurd are
AreOutputLines-push (first ∷ report) (other ∷ said) output line are is = (are.0, AreOutputLines-push report said output line are.1 is)

-- The line of one output more.
pub outputs_more : (report : List RefreshLine) (i : ℕ) (d : RefreshLine) (line : ReportLine) (old new : Transcript) → i < length report → SaysOutputs (take i report) old → IsOutputLine (get_or report i d).result line → AddsLine line old new → SaysOutputs (take (i + 1) report) new
outputs_more report i d line old new lt before is adds =
    subst (λ r. SaysOutputs r new) (sym (take_more report i d lt))
    (before.0 ++ line ∷ [], AreOutputLines-push (take i report) before.0 (get_or report i d) line before.1 is, adds before.0 before.2)

-- The line of one output more, by what it is.
pub lines_more : (f : RefreshLine → ReportLine) (report : List RefreshLine) (i : ℕ) (d : RefreshLine) (line : ReportLine) (old new : Transcript) → i < length report → SaysLines (map f (take i report)) old → line ≡ f (get_or report i d) → AddsLine line old new → SaysLines (map f (take (i + 1) report)) new
lines_more f report i d line old new lt before is adds =
    let items : map f (take (i + 1) report) ≡ map f (take i report) ++ line ∷ [] =
    ap (map f) (take_more report i d lt) ∙ map_push f (take i report) (get_or report i d) ∙ ap (λ x. map f (take i report) ++ x ∷ []) (sym is) in
    subst (λ l. SaysLines l new) (sym items) (adds (map f (take i report)) before)

-- The lines of all outputs.
pub outputs_whole : (report : List RefreshLine) (i : ℕ) (t : Transcript) → length report ≤ i → SaysOutputs (take i report) t → SaysOutputs report t
outputs_whole report i t le says = subst (λ r. SaysOutputs r t) (take_all i report le) says
