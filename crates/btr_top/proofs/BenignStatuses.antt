-- If there is room and no device fails, each reply is the model's or says that memory ran out, and so is the status.
use Rattle.std.specs.Prelude.{◌≡◌, ℕ, ◌≤◌, nat_lt, Bool, true, false, List, [], ◌∷◌, ◌++◌, cond, ℤ, Option, Some, None}
use Rattle.std.proofs.Common.{refl, sym, ◌∙◌, ap, subst, arith, inl, inr, ⊎_elim}
use Rattle.btr_hist.specs.declared.entry.Entry.{Entry}
use Rattle.btr_hist.specs.declared.entry.Entry.TheVariants as entries
use Rattle.btr_hist.specs.declared.answer.Answer.{Answer}
use Rattle.btr_hist.specs.declared.answer.Answer.TheVariants.{Found, Refused as IsRefused}
use Rattle.btr_hist.specs.declared.answer.Refusal.TheVariants as refusals
use Rattle.btr_hist.specs.declared.rejection.Rejection.{Rejection}
use Rattle.btr_hist.specs.declared.query.StreamQuery.{StreamQuery}
use Rattle.btr_hist.specs.declared.rejection.Rejection.TheVariants as rejections
use Rattle.btr_hist.specs.declared.kernel.Kernel.{Kernel}
use Rattle.btr_hist.specs.declared.kernel.Spec.{Spec}
use Rattle.btr_hist.specs.History.{stream_of, spec_of, is_output}
use Rattle.btr_hist.specs.Machine.{Landing, planned, landing}
use Rattle.btr_hist.specs.Legal.{rejection}
use Rattle.btr_hist.specs.Query.{of_stream}
use Rattle.btr_hist.specs.Answer.{is_range, answer}
use Rattle.btr_text.specs.declared.script.Line.{Line}
use Rattle.btr_text.specs.declared.script.Line.TheVariants as lines
use Rattle.btr_text.specs.declared.script.ScriptLine.{ScriptLine}
use Rattle.btr_text.specs.declared.reply.LineReply.{LineReply}
use Rattle.btr_text.specs.declared.reply.LineReply.TheVariants.{No}
use Rattle.btr_text.specs.declared.reply.Reason.TheVariants as reasons
use Rattle.btr_store.specs.declared.status.Status.{Status}
use Rattle.btr_store.specs.declared.status.Status.TheVariants.{Done, OutOfMemory}
use Rattle.btr_base.specs.declared.point.Point.{Point}
use Rattle.btr_base.specs.Bag.{sort}
use Rattle.btr_feed.specs.Feed.{held, insert_fault}
use Rattle.btr_feed.specs.declared.feed.Held.{Held}
use Rattle.btr_feed.specs.declared.feed.Held.TheVariants.{Buffered, Due}
use Rattle.btr_feed.specs.declared.feed.FeedFault.{FeedFault}
use Rattle.btr_feed.specs.declared.feed.FeedFault.TheVariants.{OutOfDomain, TooMany, Want}
use Rattle.btr_live.specs.Feeds.{Waiting, feed_of}
use Rattle.btr_live.specs.Meaning.{Meaning, Commits, Asks, Holds, Current, Refuses, on_stream, delete, on_second, define, land, refresh, if_plain}
use Rattle.btr_live.specs.Meaning.{insert_points, when_due, unless_fault, feed, flush, meaning, question}
use Rattle.btr_engine.specs.Body.{need_of}
use Rattle.btr_live.specs.Replies.{reply_of_answer, reply_of_commit, model_reply, Means}
use Rattle.btr_live.specs.Script.{State, IsNotDone, RepliesTo, RepliesToLine, RunsScript, need_of_meaning, after_line, script_needs}
use Rattle.btr_live.specs.Serving.{IsAnswerOrNoMemory}
use Rattle.btr_store.specs.Completes.{IsBenign}
use Rattle.btr_store.specs.Status.{status_rank, code_of, greater}
use Rattle.btr_store.specs.Replies.{greatest_of_replies, status_of_reply, status_of_replies}
use Rattle.btr_top.specs.Ask.{AnswersEach}
use Rattle.btr_top.specs.Run.{IsPlainStatus}
use Rattle.btr_live.proofs.ScriptLemmas.{ran_all, left_after, need_of_done, seal_stays, sealed_if_not_done, line_is}
use Rattle.btr_jobs.specs.States.{StoreState}

pub benign_code : (s : Status) → IsBenign s → IsPlainStatus (code_of s)
benign_code s benign =
    ⊎_elim
    (λ e. inl (ap (λ (x : Status). code_of x) e))
    (λ h. ⊎_elim (λ e. inr (inl (ap (λ (x : Status). code_of x) e))) (λ e. inr (inr (ap (λ (x : Status). code_of x) e))) h)
    benign

-- ---- the model's replies

pub benign_rejection : (h : List Entry) (e : Entry) (why : Rejection) → IsBenign (status_of_reply (reply_of_commit h e (Some why)))
benign_rejection h e rejections.NoStream = inr (inl refl)
benign_rejection h e rejections.StreamExists = inr (inl refl)
benign_rejection h e rejections.NotWritable = inr (inl refl)
benign_rejection h e (rejections.OutOfDomain time) = inr (inl refl)
benign_rejection h e rejections.Empty = inr (inl refl)
benign_rejection h e (rejections.TooMany count) = inr (inl refl)
benign_rejection h e rejections.StreamLimit = inr (inl refl)
benign_rejection h e rejections.VersionLimit = inr (inl refl)
benign_rejection h e rejections.BadSpec = inr (inl refl)
benign_rejection h e (rejections.BadFirst first present last) = inr (inl refl)
benign_rejection h e (rejections.Held output version) = inr (inl refl)
benign_rejection h e (rejections.Crowded start) = inr (inl refl)
benign_rejection h e (rejections.TooManyPoints count) = inr (inl refl)

benign_commit : (h : List Entry) (e : Entry) (why : Option Rejection) → IsBenign (status_of_reply (reply_of_commit h e why))
benign_commit h e None = inl refl
benign_commit h e (Some why) = benign_rejection h e why

benign_answer : (a : Answer) → IsBenign (status_of_reply (reply_of_answer a))
benign_answer (Found version rows) = inl refl
benign_answer (IsRefused refusals.NoStream) = inr (inl refl)
benign_answer (IsRefused (refusals.NoVersion asked latest)) = inr (inl refl)
benign_answer (IsRefused (refusals.Retired asked first)) = inr (inl refl)
benign_answer (IsRefused refusals.BadRange) = inr (inl refl)

benign_on_stream : (h : List Entry) (found : Option ℕ) (asked : ℕ → Meaning) → ((stream : ℕ) → IsBenign (status_of_reply (model_reply h (asked stream)))) → IsBenign (status_of_reply (model_reply h (on_stream found asked)))
benign_on_stream h None asked each = inr (inl refl)
benign_on_stream h (Some stream) asked each = each stream

benign_delete : (h : List Entry) (stream : ℕ) (from to : ℤ) → IsBenign (status_of_reply (model_reply h (delete stream from to)))
benign_delete h stream from to =
    let e = entries.Commit stream (record { from = from; to = to } ∷ []) [] in
    elim (is_range from to) as (λ t. IsBenign (status_of_reply (model_reply h (cond t (Commits e) (Refuses reasons.Range))))) [
      | true ↦ benign_commit h e (rejection h e)
      | false ↦ inr (inl refl)
    ]

benign_on_second : (h : List Entry) (second : Option ℕ) (asked : Option ℕ → Meaning) → ((s : Option ℕ) → IsBenign (status_of_reply (model_reply h (asked s)))) → IsBenign (status_of_reply (model_reply h (on_second h second asked)))
benign_on_second h None asked each = each None
benign_on_second h (Some id) asked each =
    benign_on_stream h (stream_of h id) (λ stream. asked (Some stream)) (λ stream. each (Some stream))

benign_define : (h : List Entry) (id : ℕ) (kernel : Kernel) (lead grain first : ℕ) (second : Option ℕ) → IsBenign (status_of_reply (model_reply h (define h id kernel lead grain first second)))
benign_define h id kernel lead grain first second =
    let defined : ℕ → Option ℕ → Entry = λ f s. entries.Define id (record { kernel = kernel; lead = lead; grain = grain; first = f; second = s }) in
    benign_on_stream h (stream_of h first) (λ f. on_second h second (λ s. Commits (defined f s))) (λ f.
    benign_on_second h second (λ s. Commits (defined f s)) (λ s.
    benign_commit h (defined f s) (rejection h (defined f s))))

benign_land : (h : List Entry) (stream : ℕ) (spec : Spec) (plan : Option Landing) → IsBenign (status_of_reply (model_reply h (land h stream spec plan)))
benign_land h stream spec None = inl refl
benign_land h stream spec (Some p) = benign_commit h (landing h p spec) (rejection h (landing h p spec))

benign_refresh : (h : List Entry) (stream : ℕ) (spec : Option Spec) → IsBenign (status_of_reply (model_reply h (refresh h stream spec)))
benign_refresh h stream None = inr (inl refl)
benign_refresh h stream (Some spec) = benign_land h stream spec (planned h stream spec)

benign_plain : (h : List Entry) (output : Bool) (asked : Meaning) → IsBenign (status_of_reply (model_reply h asked)) → IsBenign (status_of_reply (model_reply h (if_plain output asked)))
benign_plain h true asked benign = inr (inl refl)
benign_plain h false asked benign = benign

benign_insert : (h : List Entry) (stream : ℕ) (points : List Point) → IsBenign (status_of_reply (model_reply h (insert_points stream points)))
benign_insert h stream points = benign_commit h (entries.Commit stream [] (sort points)) (rejection h (entries.Commit stream [] (sort points)))

benign_due : (h : List Entry) (stream : ℕ) (points : List Point) (due : Held) → IsBenign (status_of_reply (model_reply h (when_due stream points due)))
benign_due h stream points (Buffered count) = inl refl
benign_due h stream points (Due count) = benign_insert h stream points

benign_unless : (h : List Entry) (fault : Option FeedFault) (asked : Meaning) → IsBenign (status_of_reply (model_reply h asked)) → IsBenign (status_of_reply (model_reply h (unless_fault fault asked)))
benign_unless h None asked benign = benign
benign_unless h (Some (OutOfDomain time)) asked benign = inr (inl refl)
benign_unless h (Some (TooMany count)) asked benign = inr (inl refl)
benign_unless h (Some Want) asked benign = inr (inr refl)

benign_feed : (h : List Entry) (batch stream : ℕ) (points added : List Point) → IsBenign (status_of_reply (model_reply h (feed batch stream points added)))
benign_feed h batch stream points added =
    let due : Held = held (feed_of batch stream (points ++ added)) in
    benign_unless h (insert_fault (feed_of batch stream points) added) (when_due stream (points ++ added) due) (benign_due h stream (points ++ added) due)

benign_flush : (h : List Entry) (stream : ℕ) (points : List Point) → IsBenign (status_of_reply (model_reply h (flush stream points)))
benign_flush h stream [] = inr (inl refl)
benign_flush h stream (p ∷ ps) = benign_insert h stream (p ∷ ps)

benign_ask : (h : List Entry) (id : ℕ) (query : StreamQuery) → IsBenign (status_of_reply (model_reply h (on_stream (stream_of h id) (λ stream. Asks (of_stream query stream)))))
benign_ask h id query =
    benign_on_stream h (stream_of h id) (λ stream. Asks (of_stream query stream)) (λ stream. benign_answer (answer h (of_stream query stream)))

benign_model : (batch : ℕ) (h : List Entry) (w : Waiting) (line : Option Line) → IsBenign (status_of_reply (model_reply h (meaning batch h w line)))
benign_model batch h w None = inr (inl refl)
benign_model batch h w (Some (lines.Create id)) = benign_commit h (entries.Create id) (rejection h (entries.Create id))
benign_model batch h w (Some (lines.Insert id added)) =
    benign_on_stream h (stream_of h id) (λ stream. Commits (entries.Commit stream [] added)) (λ stream. benign_commit h (entries.Commit stream [] added) (rejection h (entries.Commit stream [] added)))
benign_model batch h w (Some (lines.Delete id from to)) =
    benign_on_stream h (stream_of h id) (λ stream. delete stream from to) (λ stream. benign_delete h stream from to)
benign_model batch h w (Some (lines.Feed id added)) =
    benign_on_stream h (stream_of h id) (λ stream. if_plain (is_output h stream) (feed batch stream (w stream) added)) (λ stream.
    benign_plain h (is_output h stream) (feed batch stream (w stream) added) (benign_feed h batch stream (w stream) added))
benign_model batch h w (Some (lines.Flush id)) =
    benign_on_stream h (stream_of h id) (λ stream. if_plain (is_output h stream) (flush stream (w stream))) (λ stream.
    benign_plain h (is_output h stream) (flush stream (w stream)) (benign_flush h stream (w stream)))
benign_model batch h w (Some (lines.Discard id)) = benign_on_stream h (stream_of h id) (λ stream. Holds 0) (λ stream. inl refl)
benign_model batch h w (Some (lines.Distiller id kernel lead grain first second)) = benign_define h id kernel lead grain first second
benign_model batch h w (Some (lines.Refresh id)) =
    benign_on_stream h (stream_of h id) (λ stream. refresh h stream (spec_of h stream)) (λ stream. benign_refresh h stream (spec_of h stream))
benign_model batch h w (Some (lines.Retire id first)) =
    benign_on_stream h (stream_of h id) (λ stream. Commits (entries.Retire stream first)) (λ stream. benign_commit h (entries.Retire stream first) (rejection h (entries.Retire stream first)))
benign_model batch h w (Some (lines.Ask id query)) = benign_ask h id query
benign_model batch h w (Some lines.Streams) = inl refl

-- The reply to what a line asks for.
pub benign_meaning : (batch : ℕ) (h : List Entry) (w : Waiting) (line : Option Line) (m : Meaning) → Means batch h w line m → IsBenign (status_of_reply (model_reply h m))
benign_meaning batch h w line m means =
    ⊎_elim
    (λ e. subst (λ (x : Meaning). IsBenign (status_of_reply (model_reply h x))) (sym e) (benign_model batch h w line))
    (λ lacks. subst (λ (x : Meaning). IsBenign (status_of_reply (model_reply h x))) (sym lacks.1) (inr (inr refl)))
    means

benign_means : (batch : ℕ) (s : State) (line : Option Line) (m : Meaning) (reply : LineReply) (t : State) → RepliesToLine batch s line m reply t → IsBenign (status_of_reply (model_reply s.store.history m))
benign_means batch s line m reply t is = benign_meaning batch s.store.history s.waiting line m is.means

-- ---- nothing else keeps a store from it

apart : (b : Bool) → b ≡ true → b ≡ false → ⊥
apart b is is_not = absurd (cc)

pub along : (reply other : LineReply) → reply ≡ other → IsBenign (status_of_reply other) → IsBenign (status_of_reply reply)
along reply other e benign = subst (λ r. IsBenign (status_of_reply r)) (sym e) benign

benign_reply : (s t : StoreState) (m : Meaning) (reply : LineReply) → RepliesTo s m reply t → IsBenign (status_of_reply (model_reply s.history m)) → need_of_meaning s.history m ≤ s.left → t.stopped ≡ false → IsBenign (status_of_reply reply)
benign_reply s t m reply replied benign room runs =
    ⊎_elim
    (λ model. along reply (model_reply s.history m) model.replied benign)
    (λ h. ⊎_elim
    (λ h. along reply (No reasons.Sealed) (sealed_if_not_done s t m reply room runs h).replied (inr (inl refl)))
    (λ lacks. along reply (No reasons.Memory) lacks.replied (inr (inr refl)))
    h)
    replied

-- ---- all lines

one_of_two : (P : Status → Type 0) (t : Bool) (a b : Status) → P a → P b → P (cond t b a)
one_of_two P true a b p q = q
one_of_two P false a b p q = p

pub benign_greater : (a b : Status) → IsBenign a → IsBenign b → IsBenign (greater a b)
benign_greater a b first second = one_of_two (λ s. IsBenign s) (nat_lt (status_rank a) (status_rank b)) a b first second

-- once memory ran out, no later line changes the status
abbrev Within : Status → Type 0
Within s = greater OutOfMemory s ≡ OutOfMemory

within_benign : (s : Status) → IsBenign s → Within s
within_benign s benign =
    ⊎_elim
    (λ e. subst Within (sym e) refl)
    (λ h. ⊎_elim (λ e. subst Within (sym e) refl) (λ e. subst Within (sym e) refl) h)
    benign

within_reply : (reply other : LineReply) → reply ≡ other → Within (status_of_reply other) → Within (status_of_reply reply)
within_reply reply other e within = subst (λ r. Within (status_of_reply r)) (sym e) within

within_not_done : (s t : StoreState) (m : Meaning) (reply : LineReply) → t.stopped ≡ false → IsNotDone s m reply t → Within (status_of_reply reply)
within_not_done s t (Commits e) reply runs h =
    ⊎_elim
    (λ full. within_reply reply (No (reasons.Full (need_of s.history e) s.left)) full.replied refl)
    (λ h. ⊎_elim
    (λ fault. absurd (apart t.stopped (ap (λ (x : StoreState). x.stopped) fault.store) runs))
    (λ h. ⊎_elim
    (λ stopped. absurd (apart t.stopped (ap (λ (x : StoreState). x.stopped) stopped.store ∙ stopped.stopped) runs))
    (λ sealed. within_reply reply (No reasons.Sealed) sealed.replied refl)
    h)
    h)
    h
within_not_done s t (Asks query) reply runs h = absurd h
within_not_done s t (Holds count) reply runs h = absurd h
within_not_done s t (Current version) reply runs h = absurd h
within_not_done s t (Refuses reason) reply runs h = absurd h

within_one : (s t : StoreState) (m : Meaning) (reply : LineReply) → RepliesTo s m reply t → IsBenign (status_of_reply (model_reply s.history m)) → t.stopped ≡ false → Within (status_of_reply reply)
within_one s t m reply replied benign runs =
    ⊎_elim
    (λ model. within_reply reply (model_reply s.history m) model.replied (within_benign (status_of_reply (model_reply s.history m)) benign))
    (λ h. ⊎_elim (λ not. within_not_done s t m reply runs not) (λ lacks. within_reply reply (No reasons.Memory) lacks.replied refl) h)
    replied

ran_out_from : (batch : ℕ) (s t : State) (lines : List ScriptLine) (replies : List LineReply) → RunsScript batch s lines replies t → t.store.stopped ≡ false → greatest_of_replies OutOfMemory replies ≡ OutOfMemory
ran_out_from batch s t [] [] script runs = refl
ran_out_from batch s t [] (reply ∷ replies) script runs = absurd script
ran_out_from batch s t (line ∷ lines) [] script runs = absurd script
ran_out_from batch s t (line ∷ lines) (reply ∷ replies) script runs =
    let u : State = script.0 in
    let m : Meaning = script.1 in
    let is : RepliesToLine batch s line.line m reply u = script.2 in
    let one : Within (status_of_reply reply) = within_one s.store u.store m reply is.replied (benign_means batch s line.line m reply u is) (ran_all batch u t lines replies script.3 runs) in
    ap (λ x. greatest_of_replies x replies) one ∙ ran_out_from batch u t lines replies script.3 runs

memory_next : (status : Status) → IsBenign status → greater status OutOfMemory ≡ OutOfMemory
memory_next status benign =
    ⊎_elim
    (λ e. subst (λ s. greater s OutOfMemory ≡ OutOfMemory) (sym e) refl)
    (λ h. ⊎_elim (λ e. subst (λ s. greater s OutOfMemory ≡ OutOfMemory) (sym e) refl) (λ e. subst (λ s. greater s OutOfMemory ≡ OutOfMemory) (sym e) refl) h)
    benign

-- ---- sealed stores

-- A sealed store that runs refuses each commit for that.
sealed_not_done : (s t : StoreState) (m : Meaning) (reply : LineReply) → s.sealed ≡ true → t.stopped ≡ false → IsNotDone s m reply t → IsBenign (status_of_reply reply)
sealed_not_done s t (Commits e) reply sealed runs h =
    ⊎_elim
    (λ full. absurd (apart s.sealed sealed full.not_sealed))
    (λ h. ⊎_elim
    (λ fault. absurd (apart s.sealed sealed fault.not_sealed))
    (λ h. ⊎_elim
    (λ stopped. absurd (apart t.stopped (ap (λ (x : StoreState). x.stopped) stopped.store ∙ stopped.stopped) runs))
    (λ is. along reply (No reasons.Sealed) is.replied (inr (inl refl)))
    h)
    h)
    h
sealed_not_done s t (Asks query) reply sealed runs h = absurd h
sealed_not_done s t (Holds count) reply sealed runs h = absurd h
sealed_not_done s t (Current version) reply sealed runs h = absurd h
sealed_not_done s t (Refuses reason) reply sealed runs h = absurd h

sealed_reply : (s t : StoreState) (m : Meaning) (reply : LineReply) → RepliesTo s m reply t → IsBenign (status_of_reply (model_reply s.history m)) → s.sealed ≡ true → t.stopped ≡ false → IsBenign (status_of_reply reply)
sealed_reply s t m reply replied benign sealed runs =
    ⊎_elim
    (λ model. along reply (model_reply s.history m) model.replied benign)
    (λ h. ⊎_elim
    (λ h. sealed_not_done s t m reply sealed runs h)
    (λ lacks. along reply (No reasons.Memory) lacks.replied (inr (inr refl)))
    h)
    replied

-- The lines of a sealed store need no room.
sealed_from : (batch : ℕ) (status : Status) (s t : State) (lines : List ScriptLine) (replies : List LineReply) → IsBenign status → RunsScript batch s lines replies t → s.store.sealed ≡ true → t.store.stopped ≡ false → IsBenign (greatest_of_replies status replies)
sealed_from batch status s t [] [] benign script sealed runs = benign
sealed_from batch status s t [] (reply ∷ replies) benign script sealed runs = absurd script
sealed_from batch status s t (line ∷ lines) [] benign script sealed runs = absurd script
sealed_from batch status s t (line ∷ lines) (reply ∷ replies) benign script sealed runs =
    let u : State = script.0 in
    let m : Meaning = script.1 in
    let is : RepliesToLine batch s line.line m reply u = script.2 in
    let running : u.store.stopped ≡ false = ran_all batch u t lines replies script.3 runs in
    let one : IsBenign (status_of_reply reply) = sealed_reply s.store u.store m reply is.replied (benign_means batch s line.line m reply u is) sealed running in
    sealed_from batch (greater status (status_of_reply reply)) u t lines replies (benign_greater status (status_of_reply reply) benign one) script.3 (seal_stays s.store u.store m reply is.replied ∙ sealed) runs

-- ---- lines with room

benign_from : (batch : ℕ) (status : Status) (s t : State) (lines : List ScriptLine) (replies : List LineReply) → IsBenign status → RunsScript batch s lines replies t → script_needs batch s lines ≤ s.store.left → t.store.stopped ≡ false → IsBenign (greatest_of_replies status replies)
benign_from batch status s t [] [] benign script room runs = benign
benign_from batch status s t [] (reply ∷ replies) benign script room runs = absurd script
benign_from batch status s t (line ∷ lines) [] benign script room runs = absurd script
benign_from batch status s t (line ∷ lines) (reply ∷ replies) benign script room runs =
    let u : State = script.0 in
    let m : Meaning = script.1 in
    let is : RepliesToLine batch s line.line m reply u = script.2 in
    let asked : Meaning = meaning batch s.store.history s.waiting line.line in
    let v : State = after_line batch s line.line in
    let running : u.store.stopped ≡ false = ran_all batch u t lines replies script.3 runs in
    ⊎_elim
    (λ same.
    let left : script_needs batch u lines ≤ u.store.left = subst (λ (x : State). script_needs batch x lines ≤ x.store.left) (sym same) (omega (arith, room, left_after s.store asked)) in
    let one : IsBenign (status_of_reply reply) = benign_reply s.store u.store m reply is.replied (benign_means batch s line.line m reply u is) (omega (arith, room, need_of_done batch s line.line m is.means)) running in
    benign_from batch (greater status (status_of_reply reply)) u t lines replies (benign_greater status (status_of_reply reply) benign one) script.3 left runs)
    (λ h. ⊎_elim
    (λ memory. inr (inr (ap (λ r. greatest_of_replies (greater status (status_of_reply r)) replies) memory ∙ ap (λ x. greatest_of_replies x replies) (memory_next status benign) ∙ ran_out_from batch u t lines replies script.3 runs)))
    (λ not.
    let was = sealed_if_not_done s.store u.store m reply (subst (λ (x : Meaning). need_of_meaning s.store.history x ≤ s.store.left) (sym not.0) (omega (arith, room))) running not.1 in
    let one : IsBenign (status_of_reply reply) = along reply (No reasons.Sealed) was.replied (inr (inl refl)) in
    sealed_from batch (greater status (status_of_reply reply)) u t lines replies (benign_greater status (status_of_reply reply) benign one) script.3 (seal_stays s.store u.store m reply is.replied ∙ was.sealed) runs)
    h)
    (line_is batch s u line.line m reply is)

pub benign_script : (batch : ℕ) (s t : State) (lines : List ScriptLine) (replies : List LineReply) → RunsScript batch s lines replies t → script_needs batch s lines ≤ s.store.left → t.store.stopped ≡ false → IsBenign (status_of_replies replies)
benign_script batch s t lines replies script room runs = benign_from batch Done s t lines replies (inl refl) script room runs

-- ---- questions alone

pub benign_question : (h : List Entry) (line : Option Line) → IsBenign (status_of_reply (model_reply h (question h line)))
benign_question h None = inr (inl refl)
benign_question h (Some (lines.Create id)) = inr (inl refl)
benign_question h (Some (lines.Insert id added)) = inr (inl refl)
benign_question h (Some (lines.Delete id from to)) = inr (inl refl)
benign_question h (Some (lines.Feed id added)) = inr (inl refl)
benign_question h (Some (lines.Flush id)) = inr (inl refl)
benign_question h (Some (lines.Discard id)) = inr (inl refl)
benign_question h (Some (lines.Distiller id kernel lead grain first second)) = inr (inl refl)
benign_question h (Some (lines.Refresh id)) = inr (inl refl)
benign_question h (Some (lines.Retire id first)) = inr (inl refl)
benign_question h (Some (lines.Ask id query)) = benign_ask h id query
benign_question h (Some lines.Streams) = inl refl

pub benign_answered : (h : List Entry) (m : Meaning) (reply : LineReply) → IsBenign (status_of_reply (model_reply h m)) → IsAnswerOrNoMemory h m reply → IsBenign (status_of_reply reply)
benign_answered h (Commits e) reply benign is = along reply (model_reply h (Commits e)) is benign
benign_answered h (Asks query) reply benign is =
    ⊎_elim (λ answered. along reply (model_reply h (Asks query)) answered benign) (λ lacks. along reply (No reasons.Memory) lacks (inr (inr refl))) is
benign_answered h (Holds count) reply benign is = along reply (model_reply h (Holds count)) is benign
benign_answered h (Current version) reply benign is = along reply (model_reply h (Current version)) is benign
benign_answered h (Refuses reason) reply benign is = along reply (model_reply h (Refuses reason)) is benign

benign_answers_from : (status : Status) (h : List Entry) (lines : List ScriptLine) (replies : List LineReply) → IsBenign status → AnswersEach h lines replies → IsBenign (greatest_of_replies status replies)
benign_answers_from status h [] [] benign answers = benign
benign_answers_from status h [] (reply ∷ replies) benign answers = absurd answers
benign_answers_from status h (line ∷ lines) [] benign answers = absurd answers
benign_answers_from status h (line ∷ lines) (reply ∷ replies) benign answers =
    let one = benign_answered h (question h line.line) reply (benign_question h line.line) answers.0 in
    benign_answers_from (greater status (status_of_reply reply)) h lines replies (benign_greater status (status_of_reply reply) benign one) answers.1

pub benign_answers : (h : List Entry) (lines : List ScriptLine) (replies : List LineReply) → AnswersEach h lines replies → IsBenign (status_of_replies replies)
benign_answers h lines replies answers = benign_answers_from Done h lines replies (inl refl) answers
