-- Lemmas on transcripts: a line that is added is the last one.
use Rattle.std.specs.declared.alloc.AllocError.{AllocError}
use Rattle.std.specs.Prelude.{◌≡◌, ℕ, List, [], ◌∷◌, ◌++◌, Result, Ok, Err, OnOk, IfOk}
use Rattle.std.proofs.Common.{refl, sym, ◌∙◌, ap, append_assoc, subst}
use Rattle.std.proofs.lemmas.List.{append-nil}
use Rattle.btr_store.specs.declared.report_line.ReportLine.{ReportLine}
use Rattle.btr_store.specs.Report.{report_text}
use Rattle.btr_store.specs.declared.status.Status.{Status}
use Rattle.btr_store.specs.declared.status.Status.TheVariants.{Done}
use Rattle.btr_store.specs.declared.transcript.Transcript.{Transcript}
use Rattle.btr_store.specs.Status.{greater, greatest_of_lines, status_of_line}
use Rattle.btr_store.specs.Transcript.{text_of_lines, SaysLines, AddsLine, AddsLines}

text_append : (a b : List ReportLine) → text_of_lines (a ++ b) ≡ text_of_lines a ++ text_of_lines b
text_append [] b = refl
text_append (line ∷ a) b = ap (λ (x : List ℕ). report_text line ++ x) (text_append a b) ∙ sym (append_assoc (report_text line) (text_of_lines a) (text_of_lines b))

text_one : (line : ReportLine) → text_of_lines (line ∷ []) ≡ report_text line
text_one line = append-nil (report_text line)

greatest_push : (s : Status) (a : List ReportLine) (line : ReportLine) → greatest_of_lines s (a ++ line ∷ []) ≡ greater (greatest_of_lines s a) (status_of_line line)
greatest_push s [] line = refl
greatest_push s (x ∷ a) line = greatest_push (greater s (status_of_line x)) a line

-- A line was added.
pub adds_line : (line : ReportLine) (old new : Transcript) → new.text.items ≡ old.text.items ++ report_text line → new.status ≡ greater old.status (status_of_line line) → AddsLine line old new
adds_line line old new same_text same_status = λ lines is. record {
  same_text = same_text ∙ ap (λ (x : List ℕ). x ++ report_text line) is.same_text ∙ sym (text_append lines (line ∷ []) ∙ ap (λ (x : List ℕ). text_of_lines lines ++ x) (text_one line));
  same_status = same_status ∙ ap (λ (x : Status). greater x (status_of_line line)) is.same_status ∙ sym (greatest_push Done lines line);
}

-- No line.
pub says_none : (t : Transcript) → t.status ≡ Done → t.text.items ≡ [] → SaysLines [] t
says_none t status text = record { same_text = text; same_status = status }

-- No line was added.
pub adds_none : (t : Transcript) → AddsLines [] t t
adds_none t = λ lines is. subst (λ (l : List ReportLine). SaysLines l t) (sym (append-nil lines)) is

-- One line was added.
pub adds_one : (line : ReportLine) (old new : Transcript) → AddsLine line old new → AddsLines (line ∷ []) old new
adds_one line old new adds = adds

-- Lines were added, and then others.
pub adds_then : (a b : List ReportLine) (old mid new : Transcript) → AddsLines a old mid → AddsLines b mid new → AddsLines (a ++ b) old new
adds_then a b old mid new first second = λ lines is.
    subst (λ (l : List ReportLine). SaysLines l new) (append_assoc lines a b) (second (lines ++ a) (first lines is))

-- Lines were added to none.
pub adds_all : (a : List ReportLine) (old new : Transcript) → SaysLines [] old → AddsLines a old new → SaysLines a new
adds_all a old new none adds = adds [] none

pub on_ok : {T E : Type 0} (result : Result T E) (P Q : Type 0) → (P → Q) → OnOk result P → OnOk result Q
on_ok (Ok x) P Q along p = along p
on_ok (Err e) P Q along p = tt

pub if_ok : {T E : Type 0} (result : Result T E) (P Q : T → Type 0) → ((x : T) → P x → Q x) → IfOk result P → IfOk result Q
if_ok (Ok x) P Q along p = along x p
if_ok (Err e) P Q along p = tt

-- What is said in the end is what was said.
pub still_said : (P : Transcript → Type 0) (said reported : Result Transcript AllocError) → IfOk reported (λ t. said ≡ Ok t) → IfOk said P → IfOk reported P
still_said P said (Ok t) is says = subst (λ (r : Result Transcript AllocError). IfOk r P) is says
still_said P said (Err error) is says = tt
