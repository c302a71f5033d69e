-- Lemmas on the lines of a sample.
use Rattle.std.specs.Prelude.{◌≡◌, ℕ, zero, suc, ◌+◌, ◌<◌, ◌≤◌, Bool, false, nat_le, nat_lt, List, [], ◌∷◌, ◌++◌, take, length, map, flat_map, get_or, if◌then◌else◌, Option}
use Rattle.std.specs.List.{AllByRecursion, range_with_len}
use Rattle.std.proofs.Common.{sym, ap, ◌∙◌, subst, arith, append_assoc}
use Rattle.std.proofs.lemmas.List.{append-nil, take_more, take_all, map_push}
use Rattle.std.proofs.lemmas.Bool.{lt-leb, le-ltb}
use Rattle.btr_base.specs.declared.limits.TheConstants.{FIRST, END}
use Rattle.btr_base.specs.Agg.{AggValue, agg_within}
use Rattle.btr_hist.specs.declared.entry.Entry.{Entry}
use Rattle.btr_hist.specs.declared.kernel.Reads.{Reads}
use Rattle.btr_hist.specs.declared.query.At.TheVariants.{Latest}
use Rattle.btr_hist.specs.declared.query.Query.TheVariants as ask
use Rattle.btr_hist.specs.declared.answer.Answer.{Answer}
use Rattle.btr_hist.specs.declared.answer.Answer.TheVariants.{Found, Refused}
use Rattle.btr_hist.specs.declared.answer.Refusal.TheVariants.{NoStream, NoVersion, Retired}
use Rattle.btr_hist.specs.declared.answer.Rows.TheVariants.{Info}
use Rattle.btr_hist.specs.History.{ids, is_output, latest, bag, read_by, earliest}
use Rattle.btr_hist.specs.Legal.{Follows}
use Rattle.btr_hist.specs.Answer.{answer}
use Rattle.btr_hist.proofs.RetireLemmas.{follows-past}
use Rattle.btr_text.specs.declared.reply.Reason.{Reason}
use Rattle.btr_work.specs.declared.report.RefreshLine.{RefreshLine}
use Rattle.btr_store.specs.declared.report_line.ReportLine.{ReportLine}
use Rattle.btr_store.specs.declared.report_line.ReportLine.TheVariants as lines
use Rattle.btr_store.specs.declared.transcript.Transcript.{Transcript}
use Rattle.btr_store.specs.Transcript.{SaysLines, AddsLine, AddsLines}
use Rattle.btr_store.specs.SampleLines.{IsSummary, refusal_line, landing_refusal, landing_by, summary_line}
use Rattle.btr_store.proofs.TranscriptLemmas.{adds_then}

-- ---- the lines of a list

flat_push : {A B : Type 0} (f : A → List B) (l : List A) (x : A) → flat_map f (l ++ x ∷ []) ≡ flat_map f l ++ f x
flat_push f [] x = append-nil (f x)
flat_push f (y ∷ l) x = ap (λ m. f y ++ m) (flat_push f l x) ∙ sym (append_assoc (f y) (flat_map f l) (f x))

-- The lines of one item more.
pub adds_more : {A : Type 0} (f : A → List ReportLine) (l : List A) (i : ℕ) (d : A) (old mid new : Transcript) → i < length l → AddsLines (flat_map f (take i l)) old mid → AddsLines (f (get_or l i d)) mid new → AddsLines (flat_map f (take (i + 1) l)) old new
adds_more f l i d old mid new lt before one =
    let items : flat_map f (take (i + 1) l) ≡ flat_map f (take i l) ++ f (get_or l i d) =
    ap (flat_map f) (take_more l i d lt) ∙ flat_push f (take i l) (get_or l i d) in
    subst (λ (more : List ReportLine). AddsLines more old new) (sym items) (adds_then (flat_map f (take i l)) (f (get_or l i d)) old mid new before one)

-- The lines of all items.
pub adds_whole : {A : Type 0} (f : A → List ReportLine) (l : List A) (i : ℕ) (old new : Transcript) → length l ≤ i → AddsLines (flat_map f (take i l)) old new → AddsLines (flat_map f l) old new
adds_whole f l i old new le adds = subst (λ m. AddsLines (flat_map f m) old new) (take_all i l le) adds

-- The line of an output of a report.
pub landing_adds : (ids : ℕ → ℕ) (line : RefreshLine) (id : ℕ) (refused : Option Reason) (old new : Transcript) → id ≡ ids line.output → refused ≡ landing_refusal line.result → AddsLines (refusal_line id refused) old new → AddsLines (landing_by ids line) old new
landing_adds ids line id refused old new named why adds =
    subst (λ (i : ℕ). AddsLines (refusal_line i (landing_refusal line.result)) old new) named
    (subst (λ (r : Option Reason). AddsLines (refusal_line id r) old new) why adds)

-- ---- the lines of a range

range_more : (a n : ℕ) → range_with_len a (n + 1) ≡ range_with_len a n ++ (a + n) ∷ []
range_more a zero = ap (λ m. m ∷ []) (omega arith)
range_more a (suc n) =
    ap (range_with_len a) (one_later n) ∙ ap (λ l. a ∷ l) (range_more (a + 1) n ∙ ap (λ m. range_with_len (a + 1) n ++ m ∷ []) (omega arith))
  where
    one_later : (n : ℕ) → suc n + 1 ≡ suc (n + 1)
    one_later n = omega arith

-- The line of one number more.
pub adds_next : (f : ℕ → ReportLine) (n : ℕ) (line : ReportLine) (old mid new : Transcript) → line ≡ f n → AddsLines (map f (range_with_len 0 n)) old mid → AddsLine line mid new → AddsLines (map f (range_with_len 0 (n + 1))) old new
adds_next f n line old mid new is before one =
    let range : range_with_len 0 (n + 1) ≡ range_with_len 0 n ++ n ∷ [] = range_more 0 n ∙ ap (λ m. range_with_len 0 n ++ m ∷ []) (omega arith) in
    let items : map f (range_with_len 0 (n + 1)) ≡ map f (range_with_len 0 n) ++ line ∷ [] =
    ap (map f) range ∙ map_push f (range_with_len 0 n) n ∙ ap (λ x. map f (range_with_len 0 n) ++ x ∷ []) (sym is) in
    subst (λ (more : List ReportLine). AddsLines more old new) (sym items) (adds_then (map f (range_with_len 0 n)) (line ∷ []) old mid new before one)

-- The line of one stream more.
pub summaries_more : (line : ReportLine) (old mid new : Transcript) → (said : List ReportLine) × AllByRecursion IsSummary said × AddsLines said old mid → IsSummary line → AddsLine line mid new → (said : List ReportLine) × AllByRecursion IsSummary said × AddsLines said old new
summaries_more line old mid new before is one =
    (before.0 ++ line ∷ [], all_push before.0 before.1, adds_then before.0 (line ∷ []) old mid new before.2 one)
  where
    all_push : (said : List ReportLine) → AllByRecursion IsSummary said → AllByRecursion IsSummary (said ++ line ∷ [])
    all_push [] all = (is, tt)
    all_push (first ∷ said) all = (all.0, all_push said all.1)

-- ---- the line of a stream

info_found : (h : List Entry) (stream : ℕ) → Follows h → stream < length (ids h) → answer h (ask.Info stream Latest) ≡ Found (latest h stream) (Info (is_output h stream) (agg_within FIRST END (bag h stream (latest h stream))) (read_by h stream (latest h stream)))
info_found h stream follows known =
    let v : ℕ = latest h stream in
    let found : Answer = Found v (Info (is_output h stream) (agg_within FIRST END (bag h stream v)) (read_by h stream v)) in
    let there : nat_le (length (ids h)) stream ≡ false = lt-leb (length (ids h)) stream known in
    let has : nat_lt v v ≡ false = le-ltb v v (omega arith) in
    let least : ℕ = earliest h stream in
    let kept : nat_lt v least ≡ false = le-ltb v least (follows-past h stream follows) in
    let rest : Bool → Answer = λ b. if b then Refused (Retired v least) else found in
    ap (λ (b : Bool). if b then Refused NoStream else if nat_lt v v then Refused (NoVersion v v) else rest (nat_lt v least)) there
    ∙ ap (λ (b : Bool). if b then Refused (NoVersion v v) else rest (nat_lt v least)) has
    ∙ ap rest kept

-- The answer to a question about the latest version of a stream gives its line.
pub summary_is : (h : List Entry) (id stream version : ℕ) (output : Bool) (agg : AggValue) (reads : Option Reads) → Follows h → stream < length (ids h) → Found version (Info output agg reads) ≡ answer h (ask.Info stream Latest) → lines.StreamSummary id version agg ≡ summary_line h id stream
summary_is h id stream version output agg reads follows known is =
    let same : Found version (Info output agg reads) ≡ Found (latest h stream) (Info (is_output h stream) (agg_within FIRST END (bag h stream (latest h stream))) (read_by h stream (latest h stream))) = is ∙ info_found h stream follows known in
    let number : version ≡ latest h stream = cc in
    let all : agg ≡ agg_within FIRST END (bag h stream (latest h stream)) = cc in
    ap (λ (n : ℕ). lines.StreamSummary id n agg) number ∙ ap (lines.StreamSummary id (latest h stream)) all

-- ---- all lines

-- Five parts one after another.
pub says_five : (a b c d e : List ReportLine) (first second third fourth last : Transcript) → SaysLines a first → AddsLines b first second → AddsLines c second third → AddsLines d third fourth → AddsLines e fourth last → SaysLines (a ++ b ++ c ++ d ++ e) last
says_five a b c d e first second third fourth last says one two three four =
    four (((a ++ b) ++ c) ++ d) (three ((a ++ b) ++ c) (two (a ++ b) (one a says)))
