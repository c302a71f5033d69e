-- The answer about versions that exist stays what it is for as long as they are not retired.
use Rattle.std.specs.Prelude.{◌≡◌, ℕ, ◌+◌, ◌≤◌, ◌<◌, nat_lt, nat_le, min, max, true, ◌&&◌, Bool, List, ◌++◌, length, cond, Option}
use Rattle.std.proofs.Common.{sym, ap, ◌∙◌, arith}
use Rattle.std.proofs.lemmas.Bool.{lt-leb, le-ltb}
use Rattle.std.proofs.lemmas.List.{length-append}
use Rattle.btr_base.specs.declared.point.Point.{Point}
use Rattle.btr_base.specs.declared.limits.TheConstants.{FIRST, END}
use Rattle.btr_base.specs.Agg.{agg_within}
use Rattle.btr_base.specs.Bag.{within}
use Rattle.btr_base.specs.Changes.{changes}
use Rattle.btr_base.specs.Nearest.{nearest}
use Rattle.btr_base.specs.Windows.{aligned, windows}
use Rattle.btr_hist.specs.declared.entry.Entry.{Entry}
use Rattle.btr_hist.specs.declared.kernel.Reads.{Reads}
use Rattle.btr_hist.specs.declared.query.At.{At}
use Rattle.btr_hist.specs.declared.query.At.TheVariants.{Number, Latest}
use Rattle.btr_hist.specs.declared.query.Query.{Query}
use Rattle.btr_hist.specs.declared.query.Query.TheVariants as ask
use Rattle.btr_hist.specs.declared.answer.Answer.{Answer}
use Rattle.btr_hist.specs.declared.answer.Answer.TheVariants.{Found, Refused}
use Rattle.btr_hist.specs.declared.answer.Refusal.TheVariants.{NoStream, NoVersion, Retired, BadRange}
use Rattle.btr_hist.specs.declared.answer.Rows.{Rows}
use Rattle.btr_hist.specs.declared.answer.Rows.TheVariants.{Points, Cells, Ranges, Info}
use Rattle.btr_hist.specs.History.{ids, is_output, latest, bag, read_by, earliest}
use Rattle.btr_hist.specs.Answer.{answer, answer_at, answer_from, version_of, is_range, is_power, is_width, list_of}
use Rattle.btr_hist.specs.Query.{IsThere, IsSettled}
use Rattle.btr_hist.proofs.HistoryLemmas.{ids-append, is_output-append, latest-append, bag-append, read_by-append}

-- The answer about versions that exist and are not retired.
pub answer_from-there : (h : List Entry) (stream least version : ℕ) (good : Bool) (rows : List Point → Rows) → stream < length (ids h) → version ≤ latest h stream → earliest h stream ≤ least → answer_from h stream least version good rows ≡ cond good (Found version (rows (bag h stream version))) (Refused BadRange)
answer_from-there h stream least version good rows known old present =
    let found : Answer = cond good (Found version (rows (bag h stream version))) (Refused BadRange) in
    let kept = λ (t : Bool). cond t (Refused (Retired least (earliest h stream))) found in
    let first = lt-leb (length (ids h)) stream known in
    let second = le-ltb (latest h stream) version old in
    let third = le-ltb least (earliest h stream) present in
    ap {A = Bool} {B = Answer} (λ t. cond t (Refused NoStream) (cond (nat_lt (latest h stream) version) (Refused (NoVersion version (latest h stream))) (kept (nat_lt least (earliest h stream))))) first
    ∙ ap {A = Bool} {B = Answer} (λ t. cond t (Refused (NoVersion version (latest h stream))) (kept (nat_lt least (earliest h stream)))) second
    ∙ ap {A = Bool} {B = Answer} kept third

pub answer_from-stays : (h more : List Entry) (stream least version : ℕ) (good : Bool) (rows : List Point → Rows) → stream < length (ids h) → version ≤ latest h stream → earliest h stream ≤ least → earliest (h ++ more) stream ≤ least → answer_from (h ++ more) stream least version good rows ≡ answer_from h stream least version good rows
answer_from-stays h more stream least version good rows known old present still =
    let streams : length (ids (h ++ more)) ≡ length (ids h) + length (ids more) = ap (length {A = ℕ}) (ids-append h more) ∙ length-append (ids h) (ids more) in
    let versions = latest-append h more stream in
    let same = bag-append h more stream version old in
    answer_from-there (h ++ more) stream least version good rows (omega arith) (omega arith) still ∙ ap {A = List Point} {B = Answer} (λ b. cond good (Found version (rows b)) (Refused BadRange)) same ∙ sym (answer_from-there h stream least version good rows known old present)

at-stays : (h more : List Entry) (stream : ℕ) (at : At) (good : Bool) (rows : List Point → Rows) → IsThere h stream at → IsThere (h ++ more) stream at → answer_at (h ++ more) stream (version_of (h ++ more) stream at) good rows ≡ answer_at h stream (version_of h stream at) good rows
at-stays h more stream (Number version) good rows there still =
    answer_from-stays h more stream version version good rows there.0 there.1 there.2 still.2
at-stays h more stream Latest good rows there still = absurd there

pub answer-stays : (h more : List Entry) (q : Query) → IsSettled h q → IsSettled (h ++ more) q → answer (h ++ more) q ≡ answer h q
answer-stays h more (ask.Points stream from to at) there still =
    at-stays h more stream at (is_range from to) (λ b. Points (within from to b)) there still
answer-stays h more (ask.Nearest stream time way at) there still =
    at-stays h more stream at true (λ b. Points (list_of (nearest way time b))) there still
answer-stays h more (ask.Aligned stream from to p at) there still =
    at-stays h more stream at (is_range from to && is_power p) (λ b. Cells (aligned p from to b)) there still
answer-stays h more (ask.Windows stream from to width at) there still =
    at-stays h more stream at (is_range from to && is_width width) (λ b. Cells (windows width from to b)) there still
answer-stays h more (ask.Changes stream old new p) there still =
    let old_there = there.0.1 in
    let new_there = there.1.1 in
    let old_present = there.0.2 in
    let new_present = there.1.2 in
    let old_still = still.0.2 in
    let new_still = still.1.2 in
    let before = bag-append h more stream old there.0.1 in
    ap (λ (a : List Point). answer_from (h ++ more) stream (min old new) (max old new) (nat_le old new && is_power p) (λ b. Ranges (changes p a b))) before
    ∙ answer_from-stays h more stream (min old new) (max old new) (nat_le old new && is_power p) (λ b. Ranges (changes p (bag h stream old) b)) there.0.0 (omega arith) (omega arith) (omega arith)
answer-stays h more (ask.Info stream (Number version)) there still =
    let kind = is_output-append h more stream there.0 in
    let read = read_by-append h more stream version there.1 in
    ap (λ (o : Bool). answer_at (h ++ more) stream version true (λ b. Info o (agg_within FIRST END b) (read_by (h ++ more) stream version))) kind
    ∙ ap (λ (r : Option Reads). answer_at (h ++ more) stream version true (λ b. Info (is_output h stream) (agg_within FIRST END b) r)) read
    ∙ answer_from-stays h more stream version version true (λ b. Info (is_output h stream) (agg_within FIRST END b) (read_by h stream version)) there.0 there.1 there.2 still.2
answer-stays h more (ask.Info stream Latest) there still = absurd there
answer-stays h more ask.Streams there still = absurd there
