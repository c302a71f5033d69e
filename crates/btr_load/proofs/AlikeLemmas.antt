-- Lemmas on loads and the plain load: the creates are the same, and each stream has the same commits.
use Rattle.std.specs.Prelude.{◌≡◌, ◌≢◌, ◌⊎◌, ℕ, ◌+◌, ◌<◌, ◌≤◌, List, [], ◌∷◌, ◌++◌, length, slice_get}
use Rattle.std.specs.Prelude.{Option, Some, None, Result, Ok, Err}
use Rattle.std.specs.List.{AllByRecursion, cons_option}
use Rattle.std.specs.Option.{is_some}
use Rattle.std.proofs.Common.{refl, sym, ap, ◌∙◌, subst, arith, inl, inr}
use Rattle.std.proofs.lemmas.List.{append-nil, nil_from_length}
use Rattle.std.proofs.lemmas.Bool.{cases_eq}
use Rattle.std.proofs.lemmas.Option.{slice_get_within}
use Rattle.btr_base.specs.Commit.{Change}
use Rattle.btr_hist.specs.declared.entry.Entry.{Entry}
use Rattle.btr_hist.specs.declared.entry.Entry.TheVariants as entries
use Rattle.btr_hist.specs.declared.kernel.Spec.{Spec}
use Rattle.btr_hist.specs.History.{ids, kinds, stream_of, spec_of, commits, new_id}
use Rattle.btr_hist.specs.History as history
use Rattle.btr_hist.specs.Legal.{rejection}
use Rattle.btr_hist.proofs.HistoryLemmas.{ids-append, kinds-append, commits-append, streams-append, length-kinds}
use Rattle.btr_rows.specs.declared.row.NumberedPoint.{NumberedPoint}
use Rattle.btr_rows.specs.Streams.{StreamValue}
use Rattle.btr_streams.specs.declared.board.Receipt.{Receipt}
use Rattle.btr_engine.specs.declared.step.StepFault.{StepFault}
use Rattle.btr_engine.specs.declared.step.StepFault.TheVariants as steps
use Rattle.btr_engine.specs.Step.{history_after}
use Rattle.btr_gate.specs.Numbers.{one, total, times}
use Rattle.btr_gate.specs.Prefixes.{StartsWith}
use Rattle.btr_gate.proofs.NumberLemmas.{one_same}
use Rattle.btr_gate.proofs.PrefixLemmas.{starts_refl, starts_trans}
use Rattle.btr_jobs.specs.States.{StoreState, LogState}
use Rattle.btr_jobs.specs.Turns as turns
use Rattle.btr_load.specs.declared.outcome.RowsOutcome.{RowsOutcome}
use Rattle.btr_load.specs.declared.outcome.RowsOutcome.TheVariants.{Output, NotCreated, Committed}
use Rattle.btr_load.specs.declared.stream.LoadedStream.{LoadedStream}
use Rattle.btr_load.specs.Batches.{batches_of, batch_entry}
use Rattle.btr_load.specs.Work.{BatchesDid, OutcomeDid, StreamsDid}
use Rattle.btr_load.specs.Loads.{IsCommittedTo, OutcomeOfFound, OutcomeOfCreated, CreatesIfNew, CreatesEach}
use Rattle.btr_load.specs.Alike.{after_entry, after_create, after_creates, Target, goes_to, created, target, targets, after_rows, after_batches}
use Rattle.btr_load.specs.Alike.Target.{AnOutput, Refused, To}
use Rattle.btr_load.specs.Alike.{SaysBatches, SaysOutcome, SaysOutcomes, IsPlain, IsPlainOutcome, LoadsAlike}
use Rattle.btr_load.specs.There.{accepted, outcome_entries, batch_entries, create_entry, create_entries}
use Rattle.btr_load.proofs.OfferLemmas.{offered_none, offered_some, offered_starts, offered, all_starts, all_commits, all_ids, all_kinds}
use Rattle.btr_load.proofs.OfferLemmas.{rejection_alike, commits_same}
use Rattle.btr_load.proofs.TotalLemmas.{total_append}
use Rattle.btr_load.proofs.BatchLemmas.{did_long}
use Rattle.btr_load.proofs.CreateLemmas.{next_is}
use Rattle.btr_load.proofs.ThereLemmas.{accepted_count, accepted_own, accepted_other, commit_of, latest_push, latest_grows, versions_least}
use Rattle.btr_load.proofs.ThereLemmas.{OutcomeIsNamed, IsNamed, IsOnly, ids_in, load_sound}

-- ---- the creates

-- A outcome has a target.
abbrev pub Agrees : Target → RowsOutcome → Type 0
Agrees AnOutput outcome = outcome ≡ Output
Agrees (Refused why) outcome = outcome ≡ NotCreated (steps.Rejected why)
Agrees (To stream) Output = ⊥
Agrees (To stream) (NotCreated fault) = ⊥
Agrees (To stream) (Committed of results latest) = of ≡ stream

abbrev pub AgreeAll : List Target → List LoadedStream → Type 0
AgreeAll [] [] = Unit {0}
AgreeAll [] (s ∷ streams) = ⊥
AgreeAll (t ∷ ts) [] = ⊥
AgreeAll (t ∷ ts) (s ∷ streams) = Agrees t s.outcome × AgreeAll ts streams

to_agrees : (stream version : ℕ) (outcome : RowsOutcome) → IsCommittedTo stream version outcome → Agrees (To stream) outcome
to_agrees stream version Output to = absurd to
to_agrees stream version (NotCreated fault) to = absurd to
to_agrees stream version (Committed of results latest) to = to.0

found_agrees : (low : List Entry) (stream : ℕ) (o : Option Spec) (outcome : RowsOutcome) → OutcomeOfFound low stream o outcome → Agrees (goes_to stream o) outcome
found_agrees low stream None outcome is = to_agrees stream (history.latest low stream) outcome is
found_agrees low stream (Some spec) outcome is = is

-- What a create leaves, and where its rows go, by its rejection.
record Creates (p next : List Entry) (id : ℕ) (outcome : RowsOutcome) : Type 0 where
  pub leaves : next ≡ after_create p id None
  pub goes : Agrees (created p (rejection p (entries.Create id))) outcome

lacks : (id : ℕ) (fault : StepFault) (outcome : RowsOutcome) → (IsPlain (Err fault) → ⊥) → outcome ≡ NotCreated fault → IsPlainOutcome outcome → ⊥
lacks id fault outcome never is fits = never (subst IsPlainOutcome is fits)

creates : (start : StoreState) (log : LogState) (p : List Entry) (id : ℕ) (result : Result Receipt StepFault) (outcome : RowsOutcome) (own : List ℕ) (next : List Entry) → turns.Committed start log p (entries.Create id) result own next → OutcomeOfCreated result outcome → IsPlainOutcome outcome → Creates p next id outcome
creates start log p id (Ok receipt) outcome own next turn is fits = record {
  leaves = turn.2.next ∙ sym (offered_none p (entries.Create id) turn.0);
  goes = subst (λ o. Agrees (created p o) outcome) (sym turn.0) (subst (λ n. Agrees (To n) outcome) turn.1.stream (to_agrees receipt.stream 0 outcome is));
}
creates start log p id (Err (steps.Rejected why)) outcome own next turn is fits = record {
  leaves = turn.1.next ∙ sym (offered_some p (entries.Create id) why turn.0);
  goes = subst (λ o. Agrees (created p o) outcome) (sym turn.0) is;
}
creates start log p id (Err (steps.Stopped count)) outcome own next turn is fits = absurd (lacks id (steps.Stopped count) outcome (λ b. b) is fits)
creates start log p id (Err steps.Sealed) outcome own next turn is fits = absurd (lacks id steps.Sealed outcome (λ b. b) is fits)
creates start log p id (Err steps.Want) outcome own next turn is fits = absurd (lacks id steps.Want outcome (λ b. b) is fits)
creates start log p id (Err (steps.DeviceFull need left)) outcome own next turn is fits = absurd (lacks id (steps.DeviceFull need left) outcome (λ b. b) is fits)
creates start log p id (Err steps.DeviceFault) outcome own next turn is fits = absurd (lacks id steps.DeviceFault outcome (λ b. b) is fits)

opens_plain : (start : StoreState) (log : LogState) (low p : List Entry) (id : ℕ) (o : Option ℕ) (outcome : RowsOutcome) (own : List ℕ) (next : List Entry) → CreatesIfNew start log low p id o outcome own next → IsPlainOutcome outcome → (next ≡ after_create p id o) × Agrees (target low p id o) outcome
opens_plain start log low p id (Some stream) outcome own next opens fits =
    (opens.1.next, found_agrees low stream (spec_of low stream) outcome opens.0)
opens_plain start log low p id None outcome own next opens fits =
    let all = creates start log p id opens.0 outcome own next opens.1 opens.2 fits in
    (all.leaves, all.goes)

all_open_plain : (start : StoreState) (log : LogState) (low p : List Entry) (batch : ℕ) (rows : List StreamValue) (streams : List LoadedStream) (own : List ℕ) (last : List Entry) → CreatesEach start log low p batch rows streams own last → AllByRecursion (λ s. IsPlainOutcome s.outcome) streams → (last ≡ after_creates low p rows) × AgreeAll (targets low p rows) streams
all_open_plain start log low p batch [] [] own last opens fits = (opens.next, tt)
all_open_plain start log low p batch [] (s ∷ streams) own last opens fits = absurd opens
all_open_plain start log low p batch (r ∷ rows) [] own last opens fits = absurd opens
all_open_plain start log low p batch (r ∷ rows) (s ∷ streams) own last opens fits =
    let one = opens_plain start log low p r.id (stream_of low r.id) s.outcome opens.2 opens.4 opens.6 fits.0 in
    let rest = all_open_plain start log low opens.4 batch rows streams opens.3 last opens.7 fits.1 in (
      rest.0 ∙ ap (λ l. after_creates low l rows) one.0,
      (one.1, subst (λ l. AgreeAll (targets low l rows) streams) one.0 rest.1),
    )

-- ---- the batches of one stream

module _ (start : StoreState) (log : LogState) (mid : List Entry) (stream : ℕ) (known : stream < length (ids mid)) where
  -- The results of batches are what they are after another history with the same commits of the stream, and so are these in the end.
  batches_alike : (low q : List Entry) (batches : List (List NumberedPoint)) (results : List (Result Receipt StepFault)) (own : List ℕ) (last : List Entry) → StartsWith low mid → StartsWith q mid → StartsWith log.history low → commits q stream ≡ commits low stream → history.latest log.history stream ≤ history.latest low stream + accepted_count results → AllByRecursion IsPlain results → BatchesDid start log low stream batches results own last → SaysBatches q stream batches results × (commits (offered q stream batches) stream ≡ commits log.history stream)
  batches_alike low q [] [] own last low_mid q_mid starts same most fits did =
      (tt, same ∙ sym (commits_same log.history low stream starts (omega (arith, most))))
  batches_alike low q [] (result ∷ results) own last low_mid q_mid starts same most fits did = absurd did
  batches_alike low q (batch ∷ batches) [] own last low_mid q_mid starts same most fits did = absurd did
  batches_alike low q (batch ∷ batches) (Ok receipt ∷ results) own last low_mid q_mid starts same most fits did =
      elim (did.4) [
        | inr none ↦ absurd (cc (none.0))
        | inl turn ↦
            let p = turn.0 in
            let e = batch_entry stream batch in
            let next = did.2 in
            let added = turn.3.2 in
            let seen : StartsWith log.history next = subst (StartsWith log.history) (sym added.next) added.follows in
            let rest = versions_least start log stream next batches results did.1 last seen did.5 in
            let pushed : history.latest next stream ≡ history.latest p stream + 1 = ap (λ l. history.latest l stream) added.next ∙ latest_push p stream batch in
            let here : commits p stream ≡ commits low stream = commits_same p low stream turn.1 (omega (arith, most, rest, pushed)) in
            let equal : commits q stream ≡ commits p stream = same ∙ sym here in
            let p_mid = starts_trans p low mid turn.1 low_mid in
            let allowed : rejection q e ≡ None = sym (rejection_alike mid p q stream batch p_mid q_mid known (sym equal)) ∙ turn.3.0 in
            let after : after_entry q e ≡ q ++ e ∷ [] = offered_none q e allowed in
            let then : commits (after_entry q e) stream ≡ commits next stream =
            ap (λ l. commits l stream) after ∙ commits-append q (e ∷ []) stream ∙ ap (λ l. l ++ commits (e ∷ []) stream) equal
            ∙ sym (commits-append p (e ∷ []) stream) ∙ ap (λ l. commits l stream) (sym added.next) in
            let versions : history.latest p stream ≡ history.latest q stream = ap (length {A = Change}) (sym equal) in
            let next_mid = starts_trans next p mid (subst (λ l. StartsWith l p) (sym added.next) (e ∷ [], refl)) p_mid in
            let more = batches_alike next (after_entry q e) batches results did.1 last next_mid (starts_trans (after_entry q e) q mid (offered_starts q e) q_mid) seen then
            (omega (arith, most, pushed, ap (length {A = Change}) here)) fits.1 did.5 in
            (((allowed, turn.3.1.stream, turn.3.1.version ∙ ap (λ n. n + 1) versions), more.0), more.1)
      ]
  batches_alike low q (batch ∷ batches) (Err (steps.Rejected why) ∷ results) own last low_mid q_mid starts same most fits did =
      elim (did.4) [
        | inr none ↦ absurd (cc (none.0))
        | inl turn ↦
            let p = turn.0 in
            let e = batch_entry stream batch in
            let next = did.2 in
            let idle = turn.3.1 in
            let seen : StartsWith log.history next = subst (StartsWith log.history) (sym idle.next) turn.2 in
            let rest = versions_least start log stream next batches results did.1 last seen did.5 in
            let kept : history.latest next stream ≡ history.latest p stream = ap (λ l. history.latest l stream) idle.next in
            let here : commits p stream ≡ commits low stream = commits_same p low stream turn.1 (omega (arith, most, rest, kept)) in
            let equal : commits q stream ≡ commits p stream = same ∙ sym here in
            let p_mid = starts_trans p low mid turn.1 low_mid in
            let refused : rejection q e ≡ Some why = sym (rejection_alike mid p q stream batch p_mid q_mid known (sym equal)) ∙ turn.3.0 in
            let then : commits (after_entry q e) stream ≡ commits next stream =
            ap (λ l. commits l stream) (offered_some q e why refused) ∙ equal ∙ ap (λ l. commits l stream) (sym idle.next) in
            let next_mid = subst (λ l. StartsWith l mid) (sym idle.next) p_mid in
            let more = batches_alike next (after_entry q e) batches results did.1 last next_mid (starts_trans (after_entry q e) q mid (offered_starts q e) q_mid) seen then
            (omega (arith, most, kept, ap (length {A = Change}) here)) fits.1 did.5 in
            ((refused, more.0), more.1)
      ]
  batches_alike low q (batch ∷ batches) (Err (steps.Stopped count) ∷ results) own last low_mid q_mid starts same most fits did = absurd fits.0
  batches_alike low q (batch ∷ batches) (Err steps.Sealed ∷ results) own last low_mid q_mid starts same most fits did = absurd fits.0
  batches_alike low q (batch ∷ batches) (Err steps.Want ∷ results) own last low_mid q_mid starts same most fits did = absurd fits.0
  batches_alike low q (batch ∷ batches) (Err (steps.DeviceFull need left) ∷ results) own last low_mid q_mid starts same most fits did = absurd fits.0
  batches_alike low q (batch ∷ batches) (Err steps.DeviceFault ∷ results) own last low_mid q_mid starts same most fits did = absurd fits.0

-- ---- all streams

-- The outcome is of another stream.
abbrev pub IsOther : ℕ → RowsOutcome → Type 0
IsOther stream Output = Unit {0}
IsOther stream (NotCreated fault) = Unit {0}
IsOther stream (Committed of results latest) = of ≢ stream

abbrev pub AreOther : ℕ → List LoadedStream → Type 0
AreOther stream streams = AllByRecursion (λ s. IsOther stream s.outcome) streams

-- What is known of the batches of a outcome: its stream is there after the creates, no other outcome is of it, and the history has no version
-- of it that is not of one of them.
abbrev pub OutcomeIsFit : LogState → List Entry → List LoadedStream → RowsOutcome → Type 0
OutcomeIsFit log mid others Output = Unit {0}
OutcomeIsFit log mid others (NotCreated fault) = Unit {0}
OutcomeIsFit log mid others (Committed stream results latest) =
    (stream < length (ids mid)) × AreOther stream others
    × (history.latest log.history stream ≤ history.latest mid stream + accepted_count results)

-- Of rows and their streams: the targets agree, the batches were committed, and they fit.
abbrev pub AreFit : StoreState → LogState → List Entry → ℕ → List StreamValue → List Target → List LoadedStream → List ℕ → Type 0
AreFit start log mid batch [] [] [] own = Unit {0}
AreFit start log mid batch [] [] (s ∷ streams) own = ⊥
AreFit start log mid batch [] (t ∷ ts) streams own = ⊥
AreFit start log mid batch (r ∷ rows) [] streams own = ⊥
AreFit start log mid batch (r ∷ rows) (t ∷ ts) [] own = ⊥
AreFit start log mid batch (r ∷ rows) (t ∷ ts) (s ∷ streams) own =
    (first rest : List ℕ) × Agrees t s.outcome × OutcomeDid start log mid (batches_of batch r.points) s.outcome first
    × OutcomeIsFit log mid streams s.outcome × IsPlainOutcome s.outcome × AreFit start log mid batch rows ts streams rest

-- The history has as many commits of the streams as after the creates.
abbrev OutcomeIsFresh : List Entry → List Entry → RowsOutcome → Type 0
OutcomeIsFresh mid q Output = Unit {0}
OutcomeIsFresh mid q (NotCreated fault) = Unit {0}
OutcomeIsFresh mid q (Committed stream results latest) = commits q stream ≡ commits mid stream

module _ (start : StoreState) (log : LogState) (mid : List Entry) (begins : StartsWith log.history mid) (batch : ℕ) where
  -- The batches of one stream leave the others fresh.
  stay_fresh : (q : List Entry) (stream : ℕ) (batches : List (List NumberedPoint)) (streams : List LoadedStream) → AreOther stream streams → AllByRecursion (λ s. OutcomeIsFresh mid q s.outcome) streams → AllByRecursion (λ s. OutcomeIsFresh mid (offered q stream batches) s.outcome) streams
  stay_fresh q stream batches [] other fresh = tt
  stay_fresh q stream batches (s ∷ streams) other fresh =
      (one_fresh s.outcome other.0 fresh.0, stay_fresh q stream batches streams other.1 fresh.1)
    where
      one_fresh : (outcome : RowsOutcome) → IsOther stream outcome → OutcomeIsFresh mid q outcome → OutcomeIsFresh mid (offered q stream batches) outcome
      one_fresh Output other fresh = tt
      one_fresh (NotCreated fault) other fresh = tt
      one_fresh (Committed of results latest) other fresh = all_commits q stream of batches (λ e. other (sym e)) ∙ fresh

  rows_start : (q : List Entry) (r : StreamValue) (t : Target) → StartsWith (after_rows q batch r t) q
  rows_start q r AnOutput = starts_refl q
  rows_start q r (Refused why) = starts_refl q
  rows_start q r (To stream) = all_starts q stream (batches_of batch r.points)

  -- The outcome of one stream, and the others after its batches.
  outcome_says : (q : List Entry) (r : StreamValue) (t : Target) (outcome : RowsOutcome) (others : List LoadedStream) (own : List ℕ) → StartsWith q mid → Agrees t outcome → OutcomeDid start log mid (batches_of batch r.points) outcome own → OutcomeIsFit log mid others outcome → IsPlainOutcome outcome → OutcomeIsFresh mid q outcome → AllByRecursion (λ s. OutcomeIsFresh mid q s.outcome) others → SaysOutcome q batch r t outcome × AllByRecursion (λ s. OutcomeIsFresh mid (after_rows q batch r t) s.outcome) others
  outcome_says q r AnOutput outcome others own q_mid agrees did fit fits fresh rest = (agrees, rest)
  outcome_says q r (Refused why) outcome others own q_mid agrees did fit fits fresh rest = (agrees, rest)
  outcome_says q r (To stream) Output others own q_mid agrees did fit fits fresh rest = absurd agrees
  outcome_says q r (To stream) (NotCreated fault) others own q_mid agrees did fit fits fresh rest = absurd agrees
  outcome_says q r (To stream) (Committed of results latest) others own q_mid agrees did fit fits fresh rest =
      let batches = batches_of batch r.points in
      let says = batches_alike start log mid of fit.0 mid q batches results own did.0 (starts_refl mid) q_mid begins fresh fit.2 fits did.1 in
      let other = subst (λ n. AreOther n others) agrees fit.1 in
      ((agrees, subst (λ n. SaysBatches q n batches results) agrees says.0), stay_fresh q stream batches others other rest)

  all_say : (q : List Entry) (rows : List StreamValue) (ts : List Target) (streams : List LoadedStream) (own : List ℕ) → StartsWith q mid → AreFit start log mid batch rows ts streams own → AllByRecursion (λ s. OutcomeIsFresh mid q s.outcome) streams → SaysOutcomes q batch rows ts streams
  all_say q [] [] [] own q_mid fit fresh = tt
  all_say q [] [] (s ∷ streams) own q_mid fit fresh = absurd fit
  all_say q [] (t ∷ ts) streams own q_mid fit fresh = absurd fit
  all_say q (r ∷ rows) [] streams own q_mid fit fresh = absurd fit
  all_say q (r ∷ rows) (t ∷ ts) [] own q_mid fit fresh = absurd fit
  all_say q (r ∷ rows) (t ∷ ts) (s ∷ streams) own q_mid fit fresh =
      let one = outcome_says q r t s.outcome streams fit.0 q_mid fit.2 fit.3 fit.4 fit.5 fresh.0 fresh.1 in
      let next = after_rows q batch r t in
      (one.0, all_say next rows ts streams fit.1 (starts_trans next q mid (rows_start q r t) q_mid) fit.6 one.1)

  -- ---- one stream in the end

  -- Batches of other streams.
  outcome_other : (q : List Entry) (x : ℕ) (r : StreamValue) (t : Target) (outcome : RowsOutcome) → Agrees t outcome → IsOther x outcome → commits (after_rows q batch r t) x ≡ commits q x
  outcome_other q x r AnOutput outcome agrees other = refl
  outcome_other q x r (Refused why) outcome agrees other = refl
  outcome_other q x r (To stream) Output agrees other = absurd agrees
  outcome_other q x r (To stream) (NotCreated fault) agrees other = absurd agrees
  outcome_other q x r (To stream) (Committed of results latest) agrees other =
      all_commits q stream x (batches_of batch r.points) (λ e. other (agrees ∙ e))

  all_other : (q : List Entry) (x : ℕ) (rows : List StreamValue) (ts : List Target) (streams : List LoadedStream) (own : List ℕ) → AreFit start log mid batch rows ts streams own → AreOther x streams → commits (after_batches q batch rows ts) x ≡ commits q x
  all_other q x [] [] [] own fit other = refl
  all_other q x [] [] (s ∷ streams) own fit other = absurd fit
  all_other q x [] (t ∷ ts) streams own fit other = absurd fit
  all_other q x (r ∷ rows) [] streams own fit other = absurd fit
  all_other q x (r ∷ rows) (t ∷ ts) [] own fit other = absurd fit
  all_other q x (r ∷ rows) (t ∷ ts) (s ∷ streams) own fit other =
      all_other (after_rows q batch r t) x rows ts streams fit.1 fit.6 other.1 ∙ outcome_other q x r t s.outcome fit.2 other.0

  -- Either the batches of the stream of this number come next, or those of another one.
  outcome_here : (q : List Entry) (x : ℕ) (r : StreamValue) (t : Target) (outcome : RowsOutcome) (others : List LoadedStream) (own : List ℕ) → StartsWith q mid → Agrees t outcome → OutcomeDid start log mid (batches_of batch r.points) outcome own → OutcomeIsFit log mid others outcome → IsPlainOutcome outcome → commits q x ≡ commits mid x → ((commits (after_rows q batch r t) x ≡ commits log.history x) × AreOther x others) ⊎ IsOther x outcome
  outcome_here q x r t Output others own q_mid agrees did fit fits same = inr tt
  outcome_here q x r t (NotCreated fault) others own q_mid agrees did fit fits same = inr tt
  outcome_here q x r AnOutput (Committed of results latest) others own q_mid agrees did fit fits same = absurd (cc)
  outcome_here q x r (Refused why) (Committed of results latest) others own q_mid agrees did fit fits same = absurd (cc)
  outcome_here q x r (To stream) (Committed of results latest) others own q_mid agrees did fit fits same =
      elim (cases_eq of x) [
        | inr ne ↦ inr ne
        | inl e ↦
            let batches = batches_of batch r.points in
            let fresh : commits q of ≡ commits mid of = ap (commits q) e ∙ same ∙ ap (commits mid) (sym e) in
            let says = batches_alike start log mid of fit.0 mid q batches results own did.0 (starts_refl mid) q_mid begins fresh fit.2 fits did.1 in
            let ended : commits (offered q stream batches) x ≡ commits log.history x =
            ap (λ n. commits (offered q n batches) x) (sym agrees) ∙ ap (commits (offered q of batches)) (sym e) ∙ says.1 ∙ ap (commits log.history) e in
            inl (ended, subst (λ n. AreOther n others) e fit.1)
      ]

  all_end : (q : List Entry) (x : ℕ) (rows : List StreamValue) (ts : List Target) (streams : List LoadedStream) (own : List ℕ) → StartsWith q mid → AreFit start log mid batch rows ts streams own → commits q x ≡ commits mid x → (commits (after_batches q batch rows ts) x ≡ commits log.history x) ⊎ AreOther x streams
  all_end q x [] [] [] own q_mid fit same = inr tt
  all_end q x [] [] (s ∷ streams) own q_mid fit same = absurd fit
  all_end q x [] (t ∷ ts) streams own q_mid fit same = absurd fit
  all_end q x (r ∷ rows) [] streams own q_mid fit same = absurd fit
  all_end q x (r ∷ rows) (t ∷ ts) [] own q_mid fit same = absurd fit
  all_end q x (r ∷ rows) (t ∷ ts) (s ∷ streams) own q_mid fit same =
      let next = after_rows q batch r t in
      elim (outcome_here q x r t s.outcome streams fit.0 q_mid fit.2 fit.3 fit.4 fit.5 same) [
        | inl here ↦ inl (all_other next x rows ts streams fit.1 fit.6 here.1 ∙ here.0)
        | inr other ↦ elim (all_end next x rows ts streams fit.1 (starts_trans next q mid (rows_start q r t) q_mid) fit.6 (outcome_other q x r t s.outcome fit.2 other ∙ same)) [
          | inl later ↦ inl later
          | inr others ↦ inr (other, others)
        ]
      ]

-- ---- the loads fit

module _ (low mid : List Entry) where
  other_number : (id other stream : ℕ) (outcome : RowsOutcome) → slice_get (ids mid) stream ≡ Some id → other ≢ id → OutcomeIsNamed low mid other outcome → IsOther stream outcome
  other_number id other stream Output is ne named = tt
  other_number id other stream (NotCreated fault) is ne named = tt
  other_number id other stream (Committed of results latest) is ne named = λ e.
      let same : Some other ≡ Some id = sym named.0 ∙ ap (slice_get (ids mid)) e ∙ is in
      ne (cc)

  other_numbers : (id stream : ℕ) (streams : List LoadedStream) → slice_get (ids mid) stream ≡ Some id → AllByRecursion (IsNamed low mid) streams → times id (ids_in streams) ≡ 0 → AreOther stream streams
  other_numbers id stream [] is named none = tt
  other_numbers id stream (s ∷ streams) is named none = (
    other_number id s.rows.id stream s.outcome is (λ e. let at = one_same s.rows.id id e in omega (arith, none, at)) named.0,
    other_numbers id stream streams is named.1 (omega (arith, none)),
  )

module _ (start : StoreState) (log : LogState) (low mid : List Entry) (mid_low : StartsWith mid low) where
  outcome_fits : (id : ℕ) (others : List LoadedStream) (batches : List (List NumberedPoint)) (outcome : RowsOutcome) (own : List ℕ) → OutcomeDid start log mid batches outcome own → OutcomeIsNamed low mid id outcome → AllByRecursion (IsNamed low mid) others → times id (ids_in others) ≡ 0 → IsOnly log low mid id batches outcome → OutcomeIsFit log mid others outcome
  outcome_fits id others batches Output own did named rest none only = tt
  outcome_fits id others batches (NotCreated fault) own did named rest none only = tt
  outcome_fits id others batches (Committed stream results latest) own did named rest none only =
      let all = only stream named.0 in
      let count = accepted_own stream batches results (did_long start log mid stream batches results own did.0 did.1) in
      let grows = latest_grows mid low stream mid_low in
      (slice_get_within (ids mid) stream id named.0, other_numbers low mid id stream others named.0 rest none, omega (arith, all, count, grows))

  -- A load fits: each stream has its own number, and all its commits since are those of its batches.
  all_fit : (h p : List Entry) (batch : ℕ) (rows : List StreamValue) (ts : List Target) (streams : List LoadedStream) (created own : List ℕ) (last : List Entry) → CreatesEach start log h p batch rows streams created last → AgreeAll ts streams → StreamsDid start log mid streams own → AllByRecursion (IsNamed low mid) streams → ((id : ℕ) → times id (ids_in streams) ≤ 1) → AllByRecursion (λ s. IsOnly log low mid s.rows.id (batches_of s.batch s.rows.points) s.outcome) streams → AllByRecursion (λ s. IsPlainOutcome s.outcome) streams → AreFit start log mid batch rows ts streams own
  all_fit h p batch [] [] [] created own last opens agree did named once only fits = tt
  all_fit h p batch [] [] (s ∷ streams) created own last opens agree did named once only fits = absurd opens
  all_fit h p batch [] (t ∷ ts) [] created own last opens agree did named once only fits = absurd agree
  all_fit h p batch [] (t ∷ ts) (s ∷ streams) created own last opens agree did named once only fits = absurd opens
  all_fit h p batch (r ∷ rows) [] [] created own last opens agree did named once only fits = absurd opens
  all_fit h p batch (r ∷ rows) [] (s ∷ streams) created own last opens agree did named once only fits = absurd agree
  all_fit h p batch (r ∷ rows) (t ∷ ts) [] created own last opens agree did named once only fits = absurd opens
  all_fit h p batch (r ∷ rows) (t ∷ ts) (s ∷ streams) created own last opens agree did named once only fits =
      let id = s.rows.id in
      let here = one_same id id refl in
      let most = once id in
      let fit = outcome_fits id streams (batches_of s.batch s.rows.points) s.outcome did.0 did.2 named.0 named.1 (omega (arith, here, most)) only.0 in
      let same : batches_of s.batch s.rows.points ≡ batches_of batch r.points = λ i. batches_of (opens.1 i) (opens.0 i).points in (
        did.0,
        did.1,
        agree.0,
        subst (λ b. OutcomeDid start log mid b s.outcome did.0) same did.2,
        fit,
        fits.0,
        all_fit h opens.4 batch rows ts streams opens.3 did.1 last opens.7 agree.1 did.3 named.1
            (λ n. let all = once n in omega (arith, all)) only.1 fits.1,
      )

-- ---- ids

-- 1 for an entry that makes a stream, 0 for another.
abbrev makes : Entry → ℕ
makes e = one (is_some (new_id e))

ids_total : (h : List Entry) → length (ids h) ≡ total makes h
ids_total [] = refl
ids_total (e ∷ h) =
    let rest = ids_total h in
    elim (new_id e) as (λ (o : Option ℕ). length (cons_option o (ids h)) ≡ one (is_some o) + total makes h) [
      | None ↦ omega (arith, rest)
      | Some id ↦ omega (arith, rest)
    ]

accepted_make : (stream : ℕ) (batches : List (List NumberedPoint)) (results : List (Result Receipt StepFault)) → total makes (accepted stream batches results) ≡ 0
accepted_make stream [] results = refl
accepted_make stream (batch ∷ batches) [] = refl
accepted_make stream (batch ∷ batches) (Ok receipt ∷ results) =
    let rest = accepted_make stream batches results in omega (arith, rest)
accepted_make stream (batch ∷ batches) (Err fault ∷ results) = accepted_make stream batches results

outcome_makes : (batches : List (List NumberedPoint)) (outcome : RowsOutcome) → total makes (outcome_entries batches outcome) ≡ 0
outcome_makes batches Output = refl
outcome_makes batches (NotCreated fault) = refl
outcome_makes batches (Committed stream results latest) = accepted_make stream batches results

batches_make : (streams : List LoadedStream) → total makes (batch_entries streams) ≡ 0
batches_make [] = refl
batches_make (s ∷ streams) =
    let here = outcome_entries (batches_of s.batch s.rows.points) s.outcome in
    let rest = batches_make streams in
    omega (arith, rest, outcome_makes (batches_of s.batch s.rows.points) s.outcome, total_append makes here (batch_entries streams))

created_makes : (p : List Entry) (id : ℕ) (result : Result Receipt StepFault) (outcome : RowsOutcome) → OutcomeOfCreated result outcome → length (ids (history_after result p (entries.Create id))) ≡ length (ids p) + total makes (create_entry None id outcome)
created_makes p id (Ok receipt) Output is = absurd is
created_makes p id (Ok receipt) (NotCreated fault) is = absurd is
created_makes p id (Ok receipt) (Committed stream results latest) is = streams-append p (entries.Create id ∷ [])
created_makes p id (Err fault) outcome is =
    let none : total makes (create_entry None id outcome) ≡ 0 = ap (λ f. total makes (create_entry None id f)) is in
    omega (arith, none)

opens_make : (start : StoreState) (log : LogState) (low p : List Entry) (id : ℕ) (o : Option ℕ) (outcome : RowsOutcome) (own : List ℕ) (next : List Entry) → CreatesIfNew start log low p id o outcome own next → length (ids next) ≡ length (ids p) + total makes (create_entry o id outcome)
opens_make start log low p id (Some stream) outcome own next opens =
    let same = ap (λ l. length (ids l)) opens.1.next in omega (arith, same)
opens_make start log low p id None outcome own next opens =
    ap (λ l. length (ids l)) (next_is start log p (entries.Create id) opens.0 own next opens.1) ∙ created_makes p id opens.0 outcome opens.2

all_make : (start : StoreState) (log : LogState) (low p : List Entry) (batch : ℕ) (rows : List StreamValue) (streams : List LoadedStream) (own : List ℕ) (last : List Entry) → CreatesEach start log low p batch rows streams own last → length (ids last) ≡ length (ids p) + total makes (create_entries low streams)
all_make start log low p batch [] [] own last opens =
    let same = ap (λ l. length (ids l)) opens.next in omega (arith, same)
all_make start log low p batch [] (s ∷ streams) own last opens = absurd opens
all_make start log low p batch (r ∷ rows) [] own last opens = absurd opens
all_make start log low p batch (r ∷ rows) (s ∷ streams) own last opens =
    let id : r.id ≡ s.rows.id = ap (λ (v : StreamValue). v.id) (sym opens.0) in
    let one = opens_make start log low p s.rows.id (stream_of low s.rows.id) s.outcome opens.2 opens.4
    (subst (λ n. CreatesIfNew start log low p n (stream_of low n) s.outcome opens.2 opens.4) id opens.6) in
    let rest = all_make start log low opens.4 batch rows streams opens.3 last opens.7 in
    let both = total_append makes (create_entry (stream_of low s.rows.id) s.rows.id s.outcome) (create_entries low streams) in
    omega (arith, one, rest, both)

-- The batches make no stream, in the plain load either.
rows_ids : (q : List Entry) (batch : ℕ) (r : StreamValue) (t : Target) → (ids (after_rows q batch r t) ≡ ids q) × (kinds (after_rows q batch r t) ≡ kinds q)
rows_ids q batch r AnOutput = (refl, refl)
rows_ids q batch r (Refused why) = (refl, refl)
rows_ids q batch r (To stream) = (all_ids q stream (batches_of batch r.points), all_kinds q stream (batches_of batch r.points))

all_rows_ids : (q : List Entry) (batch : ℕ) (rows : List StreamValue) (ts : List Target) → (ids (after_batches q batch rows ts) ≡ ids q) × (kinds (after_batches q batch rows ts) ≡ kinds q)
all_rows_ids q batch [] ts = (refl, refl)
all_rows_ids q batch (r ∷ rows) [] = (refl, refl)
all_rows_ids q batch (r ∷ rows) (t ∷ ts) =
    let one = rows_ids q batch r t in
    let rest = all_rows_ids (after_rows q batch r t) batch rows ts in
    (rest.0 ∙ one.0, rest.1 ∙ one.1)

-- ---- the law

fresh_first : (mid : List Entry) (streams : List LoadedStream) → AllByRecursion (λ s. OutcomeIsFresh mid mid s.outcome) streams
fresh_first mid [] = tt
fresh_first mid (s ∷ streams) = (one s.outcome, fresh_first mid streams)
  where
    one : (outcome : RowsOutcome) → OutcomeIsFresh mid mid outcome
    one Output = tt
    one (NotCreated fault) = tt
    one (Committed stream results latest) = refl

outcome_nothing : (x : ℕ) (batches : List (List NumberedPoint)) (outcome : RowsOutcome) → IsOther x outcome → total (commit_of x) (outcome_entries batches outcome) ≡ 0
outcome_nothing x batches Output other = refl
outcome_nothing x batches (NotCreated fault) other = refl
outcome_nothing x batches (Committed stream results latest) other = accepted_other x stream batches results other

others_nothing : (x : ℕ) (streams : List LoadedStream) → AreOther x streams → total (commit_of x) (batch_entries streams) ≡ 0
others_nothing x [] other = refl
others_nothing x (s ∷ streams) other =
    let here = outcome_entries (batches_of s.batch s.rows.points) s.outcome in
    let rest = others_nothing x streams other.1 in
    omega (arith, rest, outcome_nothing x (batches_of s.batch s.rows.points) s.outcome other.0, total_append (commit_of x) here (batch_entries streams))

pub loads_alike : LoadsAlike
loads_alike start log low rows batch reported numbers follows distinct mine loads fits =
    let streams = reported.streams in
    let mid = loads.middle in
    let h = log.history in
    let sound = load_sound start log low rows batch reported numbers follows distinct mine loads in
    let creates = all_open_plain start log low low batch rows.streams streams loads.created mid loads.opens fits in
    let ts = targets low low rows.streams in
    let fit = all_fit start log low mid sound.mid_low low low batch rows.streams ts streams loads.created loads.committed mid loads.opens creates.1 loads.commits sound.named sound.once sound.only fits in
    let plain_ids = all_rows_ids mid batch rows.streams ts in
    let rest = loads.begins.0 in
    let long : length (ids rest) ≡ 0 =
    let all : length (ids h) ≡ length (ids mid) + length (ids rest) = ap (λ l. length (ids l)) loads.begins.1 ∙ streams-append mid rest in
    let whole : length (ids h) ≡ length (ids low) + length (ids sound.since.0) = ap (λ l. length (ids l)) sound.since.1 ∙ streams-append low sound.since.0 in
    let sum = sound.same makes in
    let both = total_append makes (create_entries low streams) (batch_entries streams) in
    let made = all_make start log low low batch rows.streams streams loads.created mid loads.opens in
    omega (arith, all, whole, ids_total sound.since.0, sum, both, batches_make streams, made) in
    let h_ids : ids h ≡ ids mid =
    ap ids loads.begins.1 ∙ ids-append mid rest ∙ ap (λ l. ids mid ++ l) (nil_from_length (ids rest) long) ∙ append-nil (ids mid) in
    let h_kinds : kinds h ≡ kinds mid =
    ap kinds loads.begins.1 ∙ kinds-append mid rest ∙ ap (λ l. kinds mid ++ l) (nil_from_length (kinds rest) (length-kinds rest ∙ long)) ∙ append-nil (kinds mid) in
    let begins : mid ≡ after_creates low low rows.streams = creates.0 in
    let end_same : (x : ℕ) → commits h x ≡ commits (after_batches mid batch rows.streams ts) x = λ x.
    elim (all_end start log mid loads.begins batch mid x rows.streams ts streams loads.committed (starts_refl mid) fit refl) [
      | inl same ↦ sym same
      | inr other ↦
          let count = sound.count x in
          let none = others_nothing x streams other in
          let grows = latest_grows mid low x sound.mid_low in
          commits_same h mid x loads.begins (omega (arith, count, none, grows))
          ∙ sym (all_other start log mid loads.begins batch mid x rows.streams ts streams loads.committed fit other)
    ] in
    record {
      same_ids = h_ids ∙ sym plain_ids.0 ∙ ap (λ l. ids (after_batches l batch rows.streams ts)) begins;
      same_kinds = h_kinds ∙ sym plain_ids.1 ∙ ap (λ l. kinds (after_batches l batch rows.streams ts)) begins;
      same_commits = λ x. end_same x ∙ ap (λ l. commits (after_batches l batch rows.streams ts) x) begins;
      outcomes = subst (λ l. SaysOutcomes l batch rows.streams ts streams) begins
          (all_say start log mid loads.begins batch mid rows.streams ts streams loads.committed (starts_refl mid) fit (fresh_first mid streams));
    }
