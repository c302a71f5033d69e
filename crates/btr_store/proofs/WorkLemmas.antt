-- Lemmas on work at a hall that was opened and closed, which other crates cite: its begin, and what it did on the device.
use Rattle.std.specs.Prelude.{◌≡◌, ℕ, ◌≤◌, Bool, true, false, List, [], ◌∷◌, ◌++◌, length, replicate, None, option_to_list, Result, Ok, Err, IfOk}
use Rattle.std.specs.declared.alloc.AllocError.{AllocError}
use Rattle.std.specs.Option.{is_some}
use Rattle.std.proofs.Common.{zero, suc, refl, sym, ap, ◌∙◌, subst, arith}
use Rattle.std.proofs.lemmas.List.{append-nil, length-append, length-replicate}
use Rattle.btr_disk.specs.declared.disk.Disk.{Ghosts}
use Rattle.btr_disk.specs.Bytes.{Image}
use Rattle.btr_disk.specs.Causes.{Rose}
use Rattle.btr_disk.proofs.ByteLemmas.{Same-is}
use Rattle.btr_super.specs.declared.superblock.Super.{Super}
use Rattle.btr_super.specs.Choose.{IsChosen}
use Rattle.btr_super.proofs.ChoiceLemmas.{one_chosen}
use Rattle.btr_hist.specs.declared.entry.Entry.{Entry}
use Rattle.btr_hist.specs.Legal.{Legal}
use Rattle.btr_engine.specs.declared.engine.Engine.{Engine}
use Rattle.btr_engine.specs.Engine.{device, super_of, blocks_of, tail_of, entries_of, faults_at_open, IsEngineOf, IsAtRest, KeepsOpening}
use Rattle.btr_engine.specs.Holds.{HoldsHistoryTo}
use Rattle.btr_open.specs.Opening.{IsOpenedEngine}
use Rattle.btr_gate.proofs.PrefixLemmas.{starts_append}
use Rattle.btr_hall.specs.declared.item.Item.{Item}
use Rattle.btr_hall.specs.declared.item.Item.TheVariants.{Earlier}
use Rattle.btr_hall.specs.declared.session.Hall.{Hall}
use Rattle.btr_hall.specs.declared.session.Session.{Session}
use Rattle.btr_hall.specs.Trace.{IsTraceOf, entries_in, history_of}
use Rattle.btr_hall.specs.Session.{opening_of, seen_of}
use Rattle.btr_jobs.specs.Jobs.{Goes, Does}
use Rattle.btr_jobs.specs.States.{StoreState, LogState, start_of, log_seen}
use Rattle.btr_jobs.specs.PlainStore.{RunsThrough}
use Rattle.btr_jobs.proofs.StateLemmas.{log_at}
use Rattle.btr_jobs.proofs.PlainStoreLemmas.{needs_prefix}
use Rattle.btr_store.specs.declared.status.Status.TheVariants.{DeviceFault}
use Rattle.btr_store.specs.declared.transcript.Transcript.{Transcript}
use Rattle.btr_store.specs.Work.{AddsAllowed, Works, DoesRightly, IfHolds, IsPlainWork}
use Rattle.btr_store.specs.Closing.{BeginsOn, WorkedAt}

-- ---- the list of a hall

module _ {D : Type 0} {disk : Ghosts D} where
  log_earlier : (h : List Entry) (n : ℕ) (l : List (Item D disk)) → log_at h (replicate n Earlier ++ l) ≡ log_at h l
  log_earlier h zero l = refl
  log_earlier h (suc n) l = log_earlier h n l

  -- The log of a list is that of its steps.
  pub log_is : (h : List Entry) (x : Engine D disk) (l : List (Item D disk)) (trace : IsTraceOf x l) → log_at h l ≡ log_at h trace.steps
  log_is h x l trace = ap (log_at h) trace.is ∙ log_earlier h (entries_of x) trace.steps

  none_more : (h : List Entry) (l : List (Item D disk)) → length l ≡ 0 → h ++ entries_in l ≡ h
  none_more h [] none = append-nil h
  none_more h (item ∷ l) none = absurd (omega (arith, none))

  -- The history of a hall that has just begun is that of its engine.
  pub begun_history : (h : List Entry) (x : Engine D disk) (l : List (Item D disk)) → IsTraceOf x l → length l ≡ entries_of x → history_of h l ≡ h
  begun_history h x l trace long =
      let all : length l ≡ length (replicate {A = Item D disk} (entries_of x) Earlier ++ trace.steps) = ap (length {A = Item D disk}) trace.is in
      let sum = length-append (replicate {A = Item D disk} (entries_of x) Earlier) trace.steps in
      let old = length-replicate {A = Item D disk} (entries_of x) Earlier in
      ap (λ (k : LogState). k.history) (log_is h x l trace) ∙ none_more h trace.steps (omega (arith, all, sum, old, long))

-- ---- the device

-- The history that the device held before the opening.
pub held_before : {D : Type 0} (disk : Ghosts D) (old : D) (first : Engine D disk) → IsOpenedEngine disk old first → (h : List Entry) → IsAtRest h first → disk.is_observable → HoldsHistoryTo (disk.size old) (disk.contents old) (blocks_of first) (tail_of first) h
held_before {D} disk old first opened h rest reported =
    let bytes : disk.contents (device first) ≡ disk.contents old = Same-is (disk.contents old) (disk.contents (device first)) (opened.kept.unwritten reported).same in
    let sized = subst (λ (n : ℕ). HoldsHistoryTo n (disk.contents (device first)) (blocks_of first) (tail_of first) h) opened.kept.counts.same_size rest.holds in
    subst (λ (c : Image). HoldsHistoryTo (disk.size old) c (blocks_of first) (tail_of first) h) bytes sized

-- The superblock on the device is that of the engine that was opened on it.
pub super_before : {D : Type 0} (disk : Ghosts D) (old : D) (first : Engine D disk) (opened : IsOpenedEngine disk old first) (h : List Entry) (rest : IsAtRest h first) (reported : disk.is_observable) → (held_before disk old first opened h rest reported).super ≡ super_of first
super_before {D} disk old first opened h rest reported =
    let bytes : disk.contents (device first) ≡ disk.contents old = Same-is (disk.contents old) (disk.contents (device first)) (opened.kept.unwritten reported).same in
    let s : Super = rest.holds.super in
    let holds = held_before disk old first opened h rest reported in
    let chosen : IsChosen (disk.size old) (disk.contents old) s =
    subst (λ (c : Image). IsChosen (disk.size old) c s) bytes (subst (λ (n : ℕ). IsChosen n (disk.contents (device first)) s) opened.kept.counts.same_size rest.holds.chosen) in
    one_chosen (disk.size old) (disk.contents old) holds.super s holds.chosen chosen ∙ rest.under

-- A count that rose since later rose since before.
pub rose_from : (before old new : ℕ) → before ≤ old → Rose old new → Rose before new
rose_from before old new le rose = omega (arith, le, rose)

-- What holds of each device: the last engine goes on from the one that was opened, and the status is said of it.
pub plain_on : {D : Type 0} (disk : Ghosts D) (old new : D) (x y : Engine D disk) → IsOpenedEngine disk old x → KeepsOpening x y → new ≡ device y → (said : Result Transcript AllocError) (failed : Bool) → (failed ≡ true → Rose (faults_at_open y) (disk.faults (device y))) → IfOk said (λ t. t.status ≡ DeviceFault → failed ≡ true) → IsPlainWork disk old said failed new
plain_on {D} disk old new x y opened kept out said failed rose asks =
    subst (λ (d : D). IsPlainWork disk old said failed d) (sym out) (record {
      sound = opened.sound;
      same_size = kept.device_kept.same_size ∙ opened.kept.counts.same_size;
      faulted = by_said said asks;
      stopped = λ is. rose_from (disk.faults old) (faults_at_open y) (disk.faults (device y)) before (rose is);
    })
  where
    before : disk.faults old ≤ faults_at_open y
    before = omega (arith, opened.synced.before.more_faults, ap disk.faults kept.synced)

    by_said : (said : Result Transcript AllocError) → IfOk said (λ t. t.status ≡ DeviceFault → failed ≡ true) → IfOk said (λ t. t.status ≡ DeviceFault → Rose (disk.faults old) (disk.faults (device y)))
    by_said (Err error) asks = tt
    by_said (Ok transcript) asks = λ is. rose_from (disk.faults old) (faults_at_open y) (disk.faults (device y)) before (rose (asks is))

-- ---- the work

-- Work whose entries are allowed, in the only session of a hall of a store of this history that was opened.
pub does_rightly : {D : Type 0} (disk : Ghosts D) (What : StoreState → LogState → List Entry → List ℕ → Type 0) (old new : D) (hall : Hall D disk) (begun last : Session D disk) → ((start : StoreState) (log : LogState) (own : List ℕ) → What start log start.history own → AddsAllowed log own) → BeginsOn disk old hall begun → (h : List Entry) → IsEngineOf h (opening_of hall) → Does hall begun last What → ((own : List ℕ) → Goes begun last own → Works disk (start_of h hall) (log_seen h last) own old new) → (failed : Bool) → failed ≡ is_some (log_seen h last).failed → DoesRightly disk (λ start log own. What start log start.history own) failed old new
does_rightly disk What old new hall begun last allows on h of does closes failed same_failed =
    let own : List ℕ = does.0 in
    let start : StoreState = start_of h hall in
    let log : LogState = log_seen h last in
    let works : Works disk start log own old new = closes own does.1 in
    let what : What start log h own =
    subst (λ low. What start log low own) (begun_history h (opening_of hall) (seen_of begun) on.begins.trace on.begins.seen) (does.2 h of) in
    let allowed : AddsAllowed log own = allows start log own what in
    record {
      first = start;
      log = log;
      own = own;
      works = works;
      what = what;
      same_failed = same_failed;
      legal = works.legal allowed;
      right = works.right allowed;
      in_flight = works.in_flight allowed;
    }

-- If the store is not sealed, and the device did not fail, the work ran through.
pub works_run : {D : Type 0} (disk : Ghosts D) (start : StoreState) (log : LogState) (own : List ℕ) (old new : D) → Works disk start log own old new → start.sealed ≡ false → log.failed ≡ None → RunsThrough start log
works_run disk start log own old new works unsealed whole = record {
  runs = works.not_stopped;
  unsealed = unsealed;
  whole = whole;
  fits =
      let all = log.history ++ option_to_list log.failed in
      let least = needs_prefix all log.history (starts_append log.history (option_to_list log.failed)) in
      let fits = works.fits in
      omega (arith, least, fits);
}

-- What the work and the law say together of what was done.
pub does_more : {D : Type 0} (disk : Ghosts D) (What More : StoreState → LogState → List ℕ → Type 0) (old new : D) → ((first : StoreState) (log : LogState) (own : List ℕ) → Works disk first log own old new → (Legal first.history → Legal log.history) → What first log own → More first log own) → (failed : Bool) → DoesRightly disk What failed old new → DoesRightly disk More failed old new
does_more disk What More old new implies failed does = record {
  first = does.first;
  log = does.log;
  own = does.own;
  works = does.works;
  what = implies does.first does.log does.own does.works does.legal does.what;
  same_failed = does.same_failed;
  legal = does.legal;
  right = does.right;
  in_flight = does.in_flight;
}

-- Work in the only session of a hall, from the opening of the store on a device to the close of the hall: what the work and the law say
-- together was done rightly, if the device held a history.
pub does_store : {D : Type 0} (disk : Ghosts D) (What : StoreState → LogState → List Entry → List ℕ → Type 0) (More : StoreState → LogState → List ℕ → Type 0) (old new : D) (hall : Hall D disk) (begun last : Session D disk) → ((start : StoreState) (log : LogState) (own : List ℕ) → What start log start.history own → AddsAllowed log own) → ((start : StoreState) (log : LogState) (own : List ℕ) → Works disk start log own old new → (Legal start.history → Legal log.history) → What start log start.history own → More start log own) → BeginsOn disk old hall begun → Does hall begun last What → WorkedAt disk old hall last new → (failed : Bool) → ((h : List Entry) → failed ≡ is_some (log_seen h last).failed) → IfHolds disk old (DoesRightly disk More failed old new)
does_store disk What More old new hall begun last allows implies on does works failed same_failed seen h held =
    let stood = on.opened.stood seen h held in
    does_more disk (λ start log own. What start log start.history own) More old new implies failed
    (does_rightly disk What old new hall begun last allows on h stood.at_rest.of does (λ own goes. works begun own on.begins goes h stood) failed (same_failed h))
