-- Lemmas on the blocks that the entries of a load need: sums over its numbers, in a history with which the log begins.
use Rattle.std.specs.Prelude.{◌≡◌, ℕ, ◌+◌, ◌-◌, ◌<◌, ◌≤◌, Bool, List, [], ◌∷◌, ◌++◌, length, take, map, cond, Some, None, Result, Ok, Err}
use Rattle.std.specs.List.{cons_option}
use Rattle.std.proofs.Common.{zero, suc, refl, sym, ap, ◌∙◌, subst, arith, inl, inr, append_assoc, length-append}
use Rattle.std.proofs.lemmas.List.{append-nil, take_at}
use Rattle.std.proofs.lemmas.Bool.{cases_lt, eq-eqb}
use Rattle.std.specs.Int.{w32}
use Rattle.btr_base.specs.Bag.{sort}
use Rattle.btr_base.specs.Commit.{Change}
use Rattle.btr_hist.specs.declared.entry.Entry.{Entry}
use Rattle.btr_hist.specs.History.{commits, latest}
use Rattle.btr_hist.proofs.HistoryLemmas.{commits-append}
use Rattle.btr_entry.specs.Grammar.{number, range, point, listed}
use Rattle.btr_entry.proofs.NumberLemmas.{wide32}
use Rattle.btr_log.specs.Head.{content_blocks}
use Rattle.btr_rows.specs.declared.row.NumberedPoint.{NumberedPoint}
use Rattle.btr_streams.specs.declared.board.Receipt.{Receipt}
use Rattle.btr_engine.specs.declared.step.StepFault.{StepFault}
use Rattle.btr_engine.specs.declared.step.StepFault.TheVariants as steps
use Rattle.btr_engine.specs.Body.{node_blocks, need_after, need_of, needs_after, needs_of}
use Rattle.btr_engine.proofs.NeedLemmas.{needs-append}
use Rattle.btr_gate.specs.Numbers.{total, times, given}
use Rattle.btr_gate.specs.Prefixes.{StartsWith}
use Rattle.btr_gate.proofs.PrefixLemmas.{starts_refl, starts_trans, starts_length, starts_between}
use Rattle.btr_jobs.specs.States.{StoreState, LogState}
use Rattle.btr_jobs.specs.Turns as turns
use Rattle.btr_jobs.specs.Turns.{IsAdded}
use Rattle.btr_load.specs.Batches.{batch_entry, batch_change}
use Rattle.btr_load.specs.Work.{BatchDid, BatchesDid}
use Rattle.btr_load.specs.Fits.{batches_need}
use Rattle.btr_load.proofs.TotalLemmas.{total_append, totals_alike, numbers_after, times_after, at_number, at_there, at_past}
use Rattle.btr_load.proofs.OfferLemmas.{commits_same}
use Rattle.btr_load.proofs.CreateLemmas.{next_is}
use Rattle.btr_load.proofs.ThereLemmas.{accepted_count, latest_push, versions_least}

-- ---- the needs of numbers

-- What the entry of a number needs after the entries before it, and 0 if the history has no such entry.
abbrev pub need_at : List Entry → ℕ → ℕ
need_at p n = at_number (need_of (take (n - 1) p)) p n

abbrev pub needs_at : List Entry → List ℕ → ℕ
needs_at p own = total (need_at p) own

need_there : (low since : List Entry) (e : Entry) (n : ℕ) → n ≡ length low + 1 → need_at (low ++ e ∷ since) n ≡ need_of low e
need_there low since e n is =
    let before : take (n - 1) (low ++ e ∷ since) ≡ low = take_at low (e ∷ since) (n - 1) (omega arith) in
    at_there (need_of (take (n - 1) (low ++ e ∷ since))) low since e n is ∙ ap (λ l. need_of l e) before

need_past : (p : List Entry) (n : ℕ) → length p < n → need_at p n ≡ 0
need_past p n past = at_past (need_of (take (n - 1) p)) p n past

past_needs : (p : List Entry) (low count : ℕ) → length p ≤ low → needs_at p (numbers_after low count) ≡ 0
past_needs p low zero past = refl
past_needs p low (suc count) past =
    let here = need_past p (low + 1) (omega arith) in
    let rest = past_needs p (low + 1) count (omega arith) in
    omega (arith, here, rest)

since_needs : (p low since : List Entry) (start count : ℕ) → p ≡ low ++ since → start ≡ length low → length since ≤ count → needs_at p (numbers_after start count) ≡ needs_after low since
since_needs p low [] start count is at most =
    let long : length p ≡ length low = ap (length {A = Entry}) (is ∙ append-nil low) in
    past_needs p start count (omega (arith, long))
since_needs p low (e ∷ since) start zero is at most = absurd (omega arith)
since_needs p low (e ∷ since) start (suc count) is at most =
    let here : need_at p (start + 1) ≡ need_of low e = ap (λ k. need_at k (start + 1)) is ∙ need_there low since e (start + 1) (omega arith) in
    let long = length-append low (e ∷ []) in
    let rest = since_needs p (low ++ e ∷ []) since (start + 1) count (is ∙ sym (append_assoc low (e ∷ []) since)) (omega (arith, long)) (omega arith) in
    omega (arith, here, rest)

-- A history needs what it needed, and what the entries need whose numbers follow.
pub own_needs : (p low : List Entry) (high : ℕ) (numbers : List ℕ) → StartsWith p low → length p ≤ high → ((n : ℕ) → times n numbers ≡ given (length low) high n) → needs_of p ≡ needs_of low + needs_at p numbers
own_needs p low high numbers starts most just =
    let since = starts.0 in
    let long : length p ≡ length low + length since = ap (length {A = Entry}) starts.1 ∙ length-append low since in
    let count = high - length low in
    let alike = totals_alike (need_at p) numbers (numbers_after (length low) count) (λ n.
    just n ∙ sym (times_after n (length low) count high (omega (arith, long, most)))) in
    let sum = since_needs p low since (length low) count starts.1 refl (omega (arith, long, most)) in
    let whole : needs_of p ≡ needs_of low + needs_after low since = ap needs_of starts.1 ∙ needs-append low since in
    omega (arith, alike, sum, whole)

-- ---- the needs of turns

module _ (start : StoreState) (log : LogState) (p : List Entry) (begins : StartsWith log.history p) where
  pub none_at : (own : List ℕ) → own ≡ [] → needs_at p own ≡ 0
  none_at own none = ap (needs_at p) none

  past_at : (own : List ℕ) (n : ℕ) → own ≡ n ∷ [] → length p < n → needs_at p own ≡ 0
  past_at own n is past =
      let all = ap (needs_at p) is in
      let none = need_past p n past in
      omega (arith, all, none)

  -- An entry that was added needs what it needs after the history of its turn, or it follows all of p.
  pub added_at : (q : List Entry) (e : Entry) (own : List ℕ) (next : List Entry) → IsAdded log q e own next → needs_at p own ≤ need_of q e
  added_at q e own next added =
      let all = ap (needs_at p) added.own in
      elim (cases_lt (length p) (length q + 1)) [
        | inl past ↦ let none = past_at own (length q + 1) added.own past in omega (arith, none)
        | inr within ↦
            let starts : StartsWith p (q ++ e ∷ []) =
            starts_between log.history (q ++ e ∷ []) p added.follows begins (omega (arith, within, length-append q (e ∷ []))) in
            let split : p ≡ q ++ e ∷ starts.0 = starts.1 ∙ append_assoc q (e ∷ []) starts.0 in
            let here : need_at p (length q + 1) ≡ need_of q e =
            ap (λ k. need_at k (length q + 1)) split ∙ need_there q starts.0 e (length q + 1) refl in
            omega (arith, all, here)
      ]

  -- An entry that was not added needs nothing.
  pub refused_at : (q : List Entry) (e : Entry) (fault : StepFault) (own : List ℕ) (next : List Entry) → turns.Committed start log q e (Err fault) own next → needs_at p own ≡ 0
  refused_at q e (steps.Stopped count) own next is = none_at own is.1.own
  refused_at q e steps.Sealed own next is = none_at own is.1.own
  refused_at q e (steps.Rejected why) own next is = none_at own is.1.own
  refused_at q e steps.Want own next is = none_at own is.1.own
  refused_at q e (steps.DeviceFull need left) own next is = none_at own is.2.own
  refused_at q e steps.DeviceFault own next is =
      let failed = is.1 in
      let long = ap (length {A = Entry}) failed.last in
      let most = starts_length log.history p begins in
      past_at own (length q + 1) failed.own (omega (arith, long, most))

  -- Batches that began after all of p need nothing in it.
  batch_later : (low : List Entry) (e : Entry) (result : Result Receipt StepFault) (own : List ℕ) (next : List Entry) → length p ≤ length low → BatchDid start log low e result own next → (needs_at p own ≡ 0) × (length p ≤ length next)
  batch_later low e (Ok receipt) own next most (inr none) = absurd (cc (none.0))
  batch_later low e (Ok receipt) own next most (inl turn) =
      let q = turn.0 in
      let added = turn.3.2 in
      let grows = starts_length q low turn.1 in
      let long = ap (length {A = Entry}) added.next ∙ length-append q (e ∷ []) in
      (past_at own (length q + 1) added.own (omega (arith, grows, most)), omega (arith, grows, most, long))
  batch_later low e (Err fault) own next most (inr none) =
      let long = ap (length {A = Entry}) none.1.next in
      (none_at own none.1.own, omega (arith, most, long))
  batch_later low e (Err fault) own next most (inl turn) =
      let q = turn.0 in
      let grows = starts_length q low turn.1 in
      let long = ap (length {A = Entry}) (next_is start log q e (Err fault) own next turn.3) in
      (refused_at q e fault own next turn.3, omega (arith, grows, most, long))

  pub batches_later : (low : List Entry) (stream : ℕ) (batches : List (List NumberedPoint)) (results : List (Result Receipt StepFault)) (own : List ℕ) (last : List Entry) → length p ≤ length low → BatchesDid start log low stream batches results own last → needs_at p own ≡ 0
  batches_later low stream [] [] own last most did = none_at own did.own
  batches_later low stream [] (result ∷ results) own last most did = absurd did
  batches_later low stream (batch ∷ batches) [] own last most did = absurd did
  batches_later low stream (batch ∷ batches) (result ∷ results) own last most did =
      let all = ap (needs_at p) did.3 in
      let both = total_append (need_at p) did.0 did.1 in
      let one = batch_later low (batch_entry stream batch) result did.0 did.2 most did.4 in
      let rest = batches_later did.2 stream batches results did.1 last one.1 did.5 in
      omega (arith, all, both, one.0, rest)

-- ---- the needs of batches

-- The commit of a batch needs the same in each stream.
pub need_alike : (past : List Change) (stream other : ℕ) (batch : List NumberedPoint) → need_after past (batch_entry stream batch) ≡ need_after past (batch_entry other batch)
need_alike past stream other batch =
    let cut = listed range [] in
    let added = listed point (sort (map (λ b. b.point) batch)) in
    let first = number w32 stream in
    let second = number w32 other in
    let same : length (first ++ cut ++ added) ≡ length (second ++ cut ++ added) =
    omega (arith, length-append (first ++ cut) added, length-append first cut, length-append (second ++ cut) added, length-append second cut, wide32.len stream, wide32.len other) in
    ap (λ n. content_blocks (suc n) + node_blocks past (batch_change batch) + 1) same

batch_pushed : (q : List Entry) (stream : ℕ) (batch : List NumberedPoint) → commits (q ++ batch_entry stream batch ∷ []) stream ≡ commits q stream ++ batch_change batch ∷ []
batch_pushed q stream batch =
    let c = batch_change batch in
    let own = ap {A = Bool} {B = List Change} (λ t. cons_option (cond t (Some c) None) []) (eq-eqb stream stream refl) in
    commits-append q (batch_entry stream batch ∷ []) stream ∙ ap (λ l. commits q stream ++ l) own

-- The commits of the stream after a batch.
abbrev commits_after : Result Receipt StepFault → List Change → List NumberedPoint → List Change
commits_after (Ok receipt) past batch = past ++ batch_change batch ∷ []
commits_after (Err fault) past batch = past

module _ (start : StoreState) (log : LogState) (stream : ℕ) where
  -- What is known of a batch, if nobody else commits to its stream. `results` are those of the batches after it.
  pub record IsOwnBatch (low next : List Entry) (batch : List NumberedPoint) (result : Result Receipt StepFault) (results : List (Result Receipt StepFault)) (own : List ℕ) : Type 0 where
    pub seen : StartsWith log.history next
    pub grows : StartsWith next low
    pub most : latest log.history stream ≤ latest next stream + accepted_count results
    pub past : commits next stream ≡ commits_after result (commits low stream) batch
    pub need : (p : List Entry) (batches : List (List NumberedPoint)) → StartsWith log.history p → needs_at p own + batches_need (commits next stream) batches ≤ batches_need (commits low stream) (batch ∷ batches)

  -- Nobody else commits to the stream: the history has no more commits of it than these results say.
  batch_own : (low : List Entry) (batch : List NumberedPoint) (result : Result Receipt StepFault) (results : List (Result Receipt StepFault)) (own : List ℕ) (next : List Entry) → StartsWith log.history low → latest log.history stream ≤ latest low stream + accepted_count (result ∷ results) → (StartsWith log.history next → latest next stream + accepted_count results ≤ latest log.history stream) → BatchDid start log low (batch_entry stream batch) result own next → IsOwnBatch low next batch result results own
  batch_own low batch (Ok receipt) results own next starts most least (inr none) = absurd (cc (none.0))
  batch_own low batch (Ok receipt) results own next starts most least (inl turn) =
      let q = turn.0 in
      let e = batch_entry stream batch in
      let added = turn.3.2 in
      let seen : StartsWith log.history next = subst (StartsWith log.history) (sym added.next) added.follows in
      let rest = least seen in
      let pushed : latest next stream ≡ latest q stream + 1 = ap (λ l. latest l stream) added.next ∙ latest_push q stream batch in
      let here : commits q stream ≡ commits low stream = commits_same q low stream turn.1 (omega (arith, most, rest, pushed)) in
      let long = ap (length {A = Change}) here in
      let past : commits next stream ≡ commits low stream ++ batch_change batch ∷ [] =
      ap (λ l. commits l stream) added.next ∙ batch_pushed q stream batch ∙ ap (λ l. l ++ batch_change batch ∷ []) here in
      record {
        seen = seen;
        grows = starts_trans next q low (subst (λ l. StartsWith l q) (sym added.next) (e ∷ [], refl)) turn.1;
        most = omega (arith, most, pushed, long);
        past = past;
        need = λ p batches begins.
            let spent = added_at start log p begins q e own next added in
            let same : need_of q e ≡ need_after (commits low stream) (batch_entry 0 batch) =
            ap (λ l. need_after l e) here ∙ need_alike (commits low stream) stream 0 batch in
            let after = ap (λ l. batches_need l batches) past in
            omega (arith, spent, same, after);
      }
  batch_own low batch (Err fault) results own next starts most least (inr none) =
      let same : next ≡ low = none.1.next in
      let past : commits next stream ≡ commits low stream = ap (λ l. commits l stream) same in
      record {
        seen = subst (StartsWith log.history) (sym same) starts;
        grows = subst (λ l. StartsWith l low) (sym same) (starts_refl low);
        most = let long = ap (length {A = Change}) past in omega (arith, most, long);
        past = past;
        need = λ p batches begins.
            let spent = none_at start log p begins own none.1.own in
            let after = ap (λ l. batches_need l batches) past in
            omega (arith, spent, after);
      }
  batch_own low batch (Err fault) results own next starts most least (inl turn) =
      let q = turn.0 in
      let e = batch_entry stream batch in
      let same : next ≡ q = next_is start log q e (Err fault) own next turn.3 in
      let seen : StartsWith log.history next = subst (StartsWith log.history) (sym same) turn.2 in
      let grows : StartsWith next low = subst (λ l. StartsWith l low) (sym same) turn.1 in
      let rest = least seen in
      let past : commits next stream ≡ commits low stream = commits_same next low stream grows (omega (arith, most, rest)) in
      record {
        seen = seen;
        grows = grows;
        most = let long = ap (length {A = Change}) past in omega (arith, most, long);
        past = past;
        need = λ p batches begins.
            let spent = refused_at start log p begins q e fault own next turn.3 in
            let after = ap (λ l. batches_need l batches) past in
            omega (arith, spent, after);
      }

  -- The first of these batches.
  pub first_own : (low : List Entry) (batch : List NumberedPoint) (batches : List (List NumberedPoint)) (result : Result Receipt StepFault) (results : List (Result Receipt StepFault)) (own : List ℕ) (last : List Entry) → StartsWith log.history low → latest log.history stream ≤ latest low stream + accepted_count (result ∷ results) → (did : BatchesDid start log low stream (batch ∷ batches) (result ∷ results) own last) → IsOwnBatch low did.2 batch result results did.0
  first_own low batch batches result results own last starts most did =
      batch_own low batch result results did.0 did.2 starts most (λ seen. versions_least start log stream did.2 batches results did.1 last seen did.5) did.4

  -- Batches need no more than the most that some of them need.
  pub batches_least : (p low : List Entry) (batches : List (List NumberedPoint)) (results : List (Result Receipt StepFault)) (own : List ℕ) (last : List Entry) → StartsWith log.history p → StartsWith log.history low → latest log.history stream ≤ latest low stream + accepted_count results → BatchesDid start log low stream batches results own last → needs_at p own ≤ batches_need (commits low stream) batches
  batches_least p low [] [] own last begins starts most did =
      let none = none_at start log p begins own did.own in omega (arith, none)
  batches_least p low [] (result ∷ results) own last begins starts most did = absurd did
  batches_least p low (batch ∷ batches) [] own last begins starts most did = absurd did
  batches_least p low (batch ∷ batches) (result ∷ results) own last begins starts most did =
      let one = first_own low batch batches result results own last starts most did in
      let all = ap (needs_at p) did.3 in
      let both = total_append (need_at p) did.0 did.1 in
      let here = one.need p batches begins in
      let rest = batches_least p did.2 batches results did.1 last begins one.seen one.most did.5 in
      omega (arith, all, both, here, rest)
