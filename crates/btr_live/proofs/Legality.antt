-- Lemmas for the law that lines keep a history legal: what a line commits is computed, and so each entry is allowed.
use Rattle.std.specs.Prelude.{◌≡◌, ℕ, ℤ, Bool, true, false, cond, List, [], ◌∷◌, ◌++◌, Option, Some, None}
use Rattle.std.proofs.Common.{refl, sym, subst, ⊎_elim}
use Rattle.btr_base.specs.declared.point.Point.{Point}
use Rattle.btr_feed.specs.Feed.{held, insert_fault}
use Rattle.btr_feed.specs.declared.feed.Held.{Held}
use Rattle.btr_feed.specs.declared.feed.Held.TheVariants.{Buffered, Due}
use Rattle.btr_feed.specs.declared.feed.FeedFault.{FeedFault}
use Rattle.btr_hist.specs.declared.entry.Entry.{Entry}
use Rattle.btr_hist.specs.declared.entry.Entry.TheVariants as entries
use Rattle.btr_hist.specs.declared.kernel.Spec.{Spec}
use Rattle.btr_hist.specs.declared.rejection.Rejection.{Rejection}
use Rattle.btr_hist.specs.History.{stream_of, spec_of, is_output, latest, reads, latest_reads}
use Rattle.btr_hist.specs.Legal.{rejection, IsComputed, Legal}
use Rattle.btr_hist.specs.Machine.{Landing, same_reads, planned}
use Rattle.btr_hist.specs.Answer.{is_range}
use Rattle.btr_hist.specs.Query.{of_stream}
use Rattle.btr_hist.specs.Laws.{Right}
use Rattle.btr_hist.proofs.HistoryLemmas.{legal-push}
use Rattle.btr_hist.proofs.RightLemmas.{legal-right}
use Rattle.btr_text.specs.declared.script.Line.{Line}
use Rattle.btr_text.specs.declared.script.Line.TheVariants as lines
use Rattle.btr_text.specs.declared.script.ScriptLine.{ScriptLine}
use Rattle.btr_text.specs.declared.reply.LineReply.{LineReply}
use Rattle.btr_text.specs.declared.reply.Reason.TheVariants as reasons
use Rattle.btr_live.specs.Feeds.{Waiting, feed_of}
use Rattle.btr_live.specs.Meaning.{Meaning, Commits, Asks, Holds, Current, Refuses, on_stream, delete, on_second, land, refresh, if_plain}
use Rattle.btr_live.specs.Meaning.{when_due, unless_fault, feed, flush, meaning}
use Rattle.btr_live.specs.Replies.{Means}
use Rattle.btr_live.specs.Script.{State, after_asked, after_commit, IsNotDone, RepliesTo, RunsScript}
use Rattle.btr_jobs.specs.States.{StoreState}

-- ---- what lines commit

-- The entry that is to be committed, if there is one, is what it must be.
abbrev IsComputedIn : List Entry → Meaning → Type 0
IsComputedIn h (Commits e) = IsComputed h e
IsComputedIn h (Asks query) = Unit {0}
IsComputedIn h (Holds count) = Unit {0}
IsComputedIn h (Current version) = Unit {0}
IsComputedIn h (Refuses reason) = Unit {0}

-- What is asked of a stream that was looked up.
computed_on_stream : (h : List Entry) (found : Option ℕ) (asked : ℕ → Meaning) → ((stream : ℕ) → IsComputedIn h (asked stream)) → IsComputedIn h (on_stream found asked)
computed_on_stream h None asked each = tt
computed_on_stream h (Some stream) asked each = each stream

-- What is asked of a second input.
computed_on_second : (h : List Entry) (second : Option ℕ) (asked : Option ℕ → Meaning) → ((s : Option ℕ) → IsComputedIn h (asked s)) → IsComputedIn h (on_second h second asked)
computed_on_second h None asked each = each None
computed_on_second h (Some id) asked each =
    computed_on_stream h (stream_of h id) (λ stream. asked (Some stream)) (λ stream. each (Some stream))

-- A delete is no distillate.
computed_delete : (h : List Entry) (stream : ℕ) (from to : ℤ) → IsComputedIn h (delete stream from to)
computed_delete h stream from to =
    elim (is_range from to) as (λ t. IsComputedIn h (cond t (Commits (entries.Commit stream (record { from = from; to = to } ∷ []) [])) (Refuses reasons.Range))) [
      | true ↦ tt
      | false ↦ tt
    ]

-- An insert of points that are due is no distillate.
computed_due : (h : List Entry) (stream : ℕ) (points : List Point) (due : Held) → IsComputedIn h (when_due stream points due)
computed_due h stream points (Buffered count) = tt
computed_due h stream points (Due count) = tt

-- A feed that does not accept points commits nothing.
computed_unless : (h : List Entry) (fault : Option FeedFault) (asked : Meaning) → IsComputedIn h asked → IsComputedIn h (unless_fault fault asked)
computed_unless h None asked computed = computed
computed_unless h (Some fault) asked computed = tt

-- What a feed commits is no distillate.
computed_feed : (h : List Entry) (batch stream : ℕ) (points added : List Point) → IsComputedIn h (feed batch stream points added)
computed_feed h batch stream points added =
    let due : Held = held (feed_of batch stream (points ++ added)) in
    computed_unless h (insert_fault (feed_of batch stream points) added) (when_due stream (points ++ added) due) (computed_due h stream (points ++ added) due)

-- A flush is no distillate.
computed_flush : (h : List Entry) (stream : ℕ) (points : List Point) → IsComputedIn h (flush stream points)
computed_flush h stream [] = tt
computed_flush h stream (p ∷ ps) = tt

-- What is asked of a plain stream.
computed_plain : (h : List Entry) (output : Bool) (asked : Meaning) → IsComputedIn h asked → IsComputedIn h (if_plain output asked)
computed_plain h true asked computed = tt
computed_plain h false asked computed = computed

-- The landing of a plan reads what was planned, from what the latest version has read.
computed_land : (h : List Entry) (stream : ℕ) (spec : Spec) → spec_of h stream ≡ Some spec → IsComputedIn h (land h stream spec (planned h stream spec))
computed_land h stream spec is =
    let p : Landing = record { stream = stream; base = latest h stream; reads = latest_reads h spec } in
    elim (same_reads (reads h stream spec (latest h stream)) (latest_reads h spec)) as (λ t. IsComputedIn h (land h stream spec (cond t None (Some p)))) [
      | true ↦ tt
      | false ↦ record { spec = spec; output = is; change = refl }
    ]

-- A refresh of an output lands its plan.
computed_refresh : (h : List Entry) (stream : ℕ) (spec : Option Spec) → spec_of h stream ≡ spec → IsComputedIn h (refresh h stream spec)
computed_refresh h stream None is = tt
computed_refresh h stream (Some spec) is = computed_land h stream spec is

-- What a line asks for.
computed_meaning : (batch : ℕ) (h : List Entry) (w : Waiting) (line : Option Line) → IsComputedIn h (meaning batch h w line)
computed_meaning batch h w None = tt
computed_meaning batch h w (Some (lines.Create id)) = tt
computed_meaning batch h w (Some (lines.Insert id added)) =
    computed_on_stream h (stream_of h id) (λ stream. Commits (entries.Commit stream [] added)) (λ stream. tt)
computed_meaning batch h w (Some (lines.Delete id from to)) =
    computed_on_stream h (stream_of h id) (λ stream. delete stream from to) (λ stream. computed_delete h stream from to)
computed_meaning batch h w (Some (lines.Feed id added)) =
    computed_on_stream h (stream_of h id) (λ stream. if_plain (is_output h stream) (feed batch stream (w stream) added)) (λ stream.
    computed_plain h (is_output h stream) (feed batch stream (w stream) added) (computed_feed h batch stream (w stream) added))
computed_meaning batch h w (Some (lines.Flush id)) =
    computed_on_stream h (stream_of h id) (λ stream. if_plain (is_output h stream) (flush stream (w stream))) (λ stream.
    computed_plain h (is_output h stream) (flush stream (w stream)) (computed_flush h stream (w stream)))
computed_meaning batch h w (Some (lines.Discard id)) = computed_on_stream h (stream_of h id) (λ stream. Holds 0) (λ stream. tt)
computed_meaning batch h w (Some (lines.Distiller id kernel lead grain first second)) =
    let defined : ℕ → Option ℕ → Meaning = λ f s. Commits (entries.Define id (record { kernel = kernel; lead = lead; grain = grain; first = f; second = s })) in
    computed_on_stream h (stream_of h first) (λ f. on_second h second (defined f)) (λ f. computed_on_second h second (defined f) (λ s. tt))
computed_meaning batch h w (Some (lines.Refresh id)) =
    computed_on_stream h (stream_of h id) (λ stream. refresh h stream (spec_of h stream)) (λ stream. computed_refresh h stream (spec_of h stream) refl)
computed_meaning batch h w (Some (lines.Retire id first)) =
    computed_on_stream h (stream_of h id) (λ stream. Commits (entries.Retire stream first)) (λ stream. tt)
computed_meaning batch h w (Some (lines.Ask id query)) =
    computed_on_stream h (stream_of h id) (λ stream. Asks (of_stream query stream)) (λ stream. tt)
computed_meaning batch h w (Some lines.Streams) = tt

-- What is done of a line.
computed_means : (batch : ℕ) (s : State) (line : Option Line) (m : Meaning) → Means batch s.store.history s.waiting line m → IsComputedIn s.store.history m
computed_means batch s line m means =
    let h : List Entry = s.store.history in
    ⊎_elim
    (λ is. subst (IsComputedIn h) (sym is) (computed_meaning batch h s.waiting line))
    (λ lacks. subst (IsComputedIn h) (sym lacks.1) tt)
    means

-- ---- the history after a line

-- A commit that the model accepts keeps the history legal.
legal_after_commit : (s : StoreState) (e : Entry) (why : Option Rejection) → rejection s.history e ≡ why → IsComputed s.history e → Legal s.history → Legal (after_commit s e why).history
legal_after_commit s e None same computed legal = legal-push s.history e legal (record { accepted = same; computed = computed })
legal_after_commit s e (Some why) same computed legal = legal

-- What the model does keeps the history legal.
legal_after : (s : StoreState) (m : Meaning) → IsComputedIn s.history m → Legal s.history → Legal (after_asked s m).history
legal_after s (Commits e) computed legal = legal_after_commit s e (rejection s.history e) refl computed legal
legal_after s (Asks query) computed legal = legal
legal_after s (Holds count) computed legal = legal
legal_after s (Current version) computed legal = legal
legal_after s (Refuses reason) computed legal = legal

-- A store with the same history.
along : (s t : StoreState) → t ≡ s → Legal s.history → Legal t.history
along s t e legal = subst (λ (x : StoreState). Legal x.history) (sym e) legal

-- A commit that was not done keeps the history.
legal_not_done : (s t : StoreState) (m : Meaning) (reply : LineReply) → IsNotDone s m reply t → Legal s.history → Legal t.history
legal_not_done s t (Commits e) reply h legal =
    ⊎_elim
    (λ full. along s t full.store legal)
    (λ h. ⊎_elim
    (λ fault. subst (λ (x : StoreState). Legal x.history) (sym fault.store) legal)
    (λ h. ⊎_elim (λ stopped. along s t stopped.store legal) (λ sealed. along s t sealed.store legal) h)
    h)
    h
legal_not_done s t (Asks query) reply h legal = absurd h
legal_not_done s t (Holds count) reply h legal = absurd h
legal_not_done s t (Current version) reply h legal = absurd h
legal_not_done s t (Refuses reason) reply h legal = absurd h

-- The history stays legal, whatever is replied.
legal_reply : (s t : StoreState) (m : Meaning) (reply : LineReply) → IsComputedIn s.history m → RepliesTo s m reply t → Legal s.history → Legal t.history
legal_reply s t m reply computed replied legal =
    ⊎_elim
    (λ model. subst (λ (x : StoreState). Legal x.history) (sym model.store) (legal_after s m computed legal))
    (λ h. ⊎_elim (λ h. legal_not_done s t m reply h legal) (λ lacks. along s t lacks.store legal) h)
    replied

-- Lines keep a history legal.
pub lines_legal : (batch : ℕ) (s t : State) (lines : List ScriptLine) (replies : List LineReply) → RunsScript batch s lines replies t → Legal s.store.history → Legal t.store.history
lines_legal batch s t [] [] script legal = subst (λ (x : State). Legal x.store.history) script legal
lines_legal batch s t [] (reply ∷ replies) script legal = absurd script
lines_legal batch s t (line ∷ lines) [] script legal = absurd script
lines_legal batch s t (line ∷ lines) (reply ∷ replies) script legal =
    let u : State = script.0 in
    let computed : IsComputedIn s.store.history script.1 = computed_means batch s line.line script.1 script.2.means in
    lines_legal batch u t lines replies script.3 (legal_reply s.store u.store script.1 reply computed script.2.replied legal)

-- Each version of each output is right after lines, if the history was legal before them.
pub lines_right : (batch : ℕ) (s t : State) (lines : List ScriptLine) (replies : List LineReply) → RunsScript batch s lines replies t → Legal s.store.history → Right t.store.history
lines_right batch s t lines replies script legal = legal-right t.store.history (lines_legal batch s t lines replies script legal)
