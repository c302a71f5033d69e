-- Lemmas on samples: the parts of the work one after another, what is said of it, and that what it adds is allowed.
use Rattle.std.specs.Prelude.{◌≡◌, ℕ, ◌+◌, ◌≤◌, List, [], ◌∷◌, ◌++◌, length, Option, Some, None, Result, Ok, Err, IfOk, IsErr, Vec}
use Rattle.std.specs.declared.alloc.AllocError.{AllocError}
use Rattle.std.specs.declared.alloc.Global.{Global}
use Rattle.std.proofs.Common.{refl, sym, ap, ◌∙◌, subst, arith}
use Rattle.btr_disk.specs.declared.disk.Disk.{Ghosts}
use Rattle.btr_hist.specs.declared.entry.Entry.{Entry}
use Rattle.btr_engine.specs.Engine.{IsEngineOf}
use Rattle.btr_gate.specs.Numbers.{times}
use Rattle.btr_gate.proofs.NumberLemmas.{times_append}
use Rattle.btr_hall.specs.declared.session.Hall.{Hall}
use Rattle.btr_hall.specs.declared.session.Session.{Session}
use Rattle.btr_hall.specs.Trace.{history_of}
use Rattle.btr_hall.specs.Session.{opening_of, seen_of}
use Rattle.btr_jobs.specs.States.{StoreState, LogState, GoesOn, start_of, log_seen}
use Rattle.btr_jobs.specs.TurnLaws.{goes_refl, goes_trans}
use Rattle.btr_jobs.specs.Jobs.{IsAt, Does}
use Rattle.btr_jobs.proofs.StateLemmas.{log_at}
use Rattle.btr_jobs.proofs.DoesLemmas.{does_implied, does_then}
use Rattle.btr_rows.specs.Streams.{RowListValue}
use Rattle.btr_load.specs.Loads.{LoadedValue, Loads}
use Rattle.btr_work.specs.declared.report.RefreshLine.{RefreshLine}
use Rattle.btr_store.specs.declared.report_line.ReportLine.TheVariants as lines
use Rattle.btr_store.specs.declared.define.DefinedOutput.{DefinedOutput}
use Rattle.btr_store.specs.declared.sample.Filled.{Filled}
use Rattle.btr_store.specs.declared.sample.TheConstants.{BATCH}
use Rattle.btr_store.specs.declared.transcript.Transcript.{Transcript}
use Rattle.btr_store.specs.Streams.{Stays}
use Rattle.btr_store.specs.Transcript.{SaysLines}
use Rattle.btr_store.specs.Distil.{RefreshesIf}
use Rattle.btr_store.specs.Load.{LoadsIf}
use Rattle.btr_store.specs.Define.{DefinesEach, DefinesAll}
use Rattle.btr_store.specs.SampleLines.{SaysFilled}
use Rattle.btr_store.specs.Sample.{rows_of_sample, Work, SaysSample, Fills, Samples, IsFilledInPart}
use Rattle.btr_store.specs.Work.{AddsAllowed}
use Rattle.btr_store.proofs.Allowing.{allows_none, allows_nothing, allows_both}
use Rattle.btr_store.proofs.LoadLemmas.{loads_allowed}
use Rattle.btr_store.proofs.DistilLemmas.{goes_stays, refreshes_allowed}
use Rattle.btr_store.proofs.DefineLemmas.{each_allowed}

-- The numbers of three parts, of which the last adds these.
sum_three : (n : ℕ) (a b c own : List ℕ) → own ≡ a ++ b → times n (own ++ c) ≡ times n a + times n b + times n c
sum_three n a b c own is =
    let all : times n (own ++ c) ≡ times n own + times n c = times_append n own c in
    let two : times n own ≡ times n a + times n b = ap (times n) is ∙ times_append n a b in
    omega (arith, all, two)

sum_two : (n : ℕ) (a b own : List ℕ) → own ≡ a ++ b → times n own ≡ times n a + times n b + times n []
sum_two n a b own is =
    let two : times n own ≡ times n a + times n b = ap (times n) is ∙ times_append n a b in
    omega (arith, two)

module _ (number streams points : ℕ) where
  -- The first two parts of the work.
  pub record Begun (start : StoreState) (log : LogState) (low : List Entry) (loaded : LoadedValue) (outputs : List DefinedOutput) (numbers : List ℕ) : Type 0 where
    pub load_end : LogState
    pub on : GoesOn start log load_end
    pub load_own : List ℕ
    pub define_own : List ℕ
    pub loads : LoadsIf start load_end low (rows_of_sample number streams points) BATCH (Some loaded) load_own
    pub defines : DefinesEach start log load_end.history 0 outputs define_own log.history
    pub own : numbers ≡ load_own ++ define_own

  -- Nothing was done.
  pub work_none : (start : StoreState) (log : LogState) (low : List Entry) (own : List ℕ) → own ≡ [] → Work number streams points start log low None [] None own
  work_none start log low own is = record {
    load_end = log;
    define_end = log;
    load_first = goes_refl start log;
    define_first = goes_refl start log;
    load_own = [];
    define_own = [];
    refresh_own = [];
    loads = refl;
    defines = record { own = refl; next = refl };
    refreshes = λ n. refl;
    own = λ n. ap (times n) is;
  }

  -- The rows were loaded and outputs defined, and then memory ran out.
  work_two : (start : StoreState) (log : LogState) (low : List Entry) (loaded : LoadedValue) (outputs : List DefinedOutput) (own : List ℕ) → Begun start log low loaded outputs own → Work number streams points start log low (Some loaded) outputs None own
  work_two start log low loaded outputs own begun = record {
    load_end = begun.load_end;
    define_end = log;
    load_first = begun.on;
    define_first = goes_refl start log;
    load_own = begun.load_own;
    define_own = begun.define_own;
    refresh_own = [];
    loads = begun.loads;
    defines = begun.defines;
    refreshes = λ n. refl;
    own = λ n. sum_two n begun.load_own begun.define_own own begun.own;
  }

  -- All parts, or the last one was left out.
  work_three : (start : StoreState) (late early : LogState) (low : List Entry) (loaded : LoadedValue) (outputs : List DefinedOutput) (report : Option (List RefreshLine)) (a b : List ℕ) → GoesOn start late early → Begun start early low loaded outputs a → RefreshesIf start late early.history report b → Work number streams points start late low (Some loaded) outputs report (a ++ b)
  work_three start late early low loaded outputs report a b on begun refreshes = record {
    load_end = begun.load_end;
    define_end = early;
    load_first = begun.on;
    define_first = on;
    load_own = begun.load_own;
    define_own = begun.define_own;
    refresh_own = b;
    loads = begun.loads;
    defines = begun.defines;
    refreshes = refreshes;
    own = λ n. sum_three n begun.load_own begun.define_own b a begun.own;
  }

  -- What it adds is allowed.
  loads_if_later : (start : StoreState) (late early : LogState) (low : List Entry) (loaded : Option LoadedValue) (own : List ℕ) → GoesOn start late early → LoadsIf start early low (rows_of_sample number streams points) BATCH loaded own → AddsAllowed late own
  loads_if_later start late early low None own on is = allows_nothing late own is
  loads_if_later start late early low (Some loaded) own on is =
      loads_allowed start late early low (rows_of_sample number streams points) BATCH loaded own on is

  refreshes_if : (start : StoreState) (log : LogState) (low : List Entry) (report : Option (List RefreshLine)) (own : List ℕ) → RefreshesIf start log low report own → AddsAllowed log own
  refreshes_if start log low None own is = allows_none log own is
  refreshes_if start log low (Some report) own is = refreshes_allowed start log low report own is

  work_allowed : (start : StoreState) (log : LogState) (low : List Entry) (loaded : Option LoadedValue) (outputs : List DefinedOutput) (report : Option (List RefreshLine)) (own : List ℕ) → Work number streams points start log low loaded outputs report own → AddsAllowed log own
  work_allowed start log low loaded outputs report own work =
      let a = work.load_own in
      let b = work.define_own in
      let c = work.refresh_own in
      allows_both log own (a ++ b) c
      (λ n.
      let all = work.own n in
      let two = times_append n a b in
      omega (arith, all, two))
      (allows_both log (a ++ b) a b (λ n. times_append n a b)
      (loads_if_later start log work.load_end low loaded a (goes_trans start log work.define_end work.load_end work.define_first work.load_first) work.loads)
      (each_allowed start log work.define_end work.load_end.history 0 outputs b work.define_end.history work.define_first work.defines))
      (refreshes_if start log work.define_end.history report c work.refreshes)

  -- What a sample adds is allowed.
  pub samples_allowed : (start : StoreState) (log : LogState) (low : List Entry) (said : Result Transcript AllocError) (own : List ℕ) → Samples number streams points start log low said own → AddsAllowed log own
  samples_allowed start log [] said own is = work_allowed start log [] is.loaded is.outputs is.report own is.work
  samples_allowed start log (e ∷ low) said own is = allows_nothing log own is.none

  -- ---- what is said

  says_if : (h : List Entry) (filled : Filled) (said : Result Transcript AllocError) → length filled.outputs.items ≡ streams → IfOk said (SaysFilled h filled) → SaysSample streams h (Some filled.loaded) filled.outputs.items (Some filled.report) said
  says_if h filled (Ok transcript) all is = (all, is)
  says_if h filled (Err error) all is = tt

  -- Memory ran out before anything was done.
  samples_nothing : (start : StoreState) (log : LogState) (low : List Entry) (error : AllocError) (own : List ℕ) → own ≡ [] → log.history ≡ low → Samples number streams points start log low (Err error) own
  samples_nothing start log [] error own none same =
      record { loaded = None; outputs = []; report = None; work = work_none start log [] own none; says = tt }
  samples_nothing start log (e ∷ low) error own none same = record { none = none; same = same; says = tt }

  -- The store was used.
  samples_used : (start : StoreState) (log : LogState) (low : List Entry) (entries : ℕ) (said : Result Transcript AllocError) (own : List ℕ) → entries ≡ length low → 1 ≤ entries → own ≡ [] → log.history ≡ low → IfOk said (SaysLines (lines.Used entries ∷ [])) → Samples number streams points start log low said own
  samples_used start log [] entries said own is some none same says = absurd (omega (arith, some, is))
  samples_used start log (e ∷ low) entries said own is some none same says =
      record { none = none; same = same; says = subst (λ (n : ℕ). IfOk said (SaysLines (lines.Used n ∷ []))) is says }

  -- What was said holds of what is said in the end: the same, or that memory ran out.
  still_says : (h : List Entry) (loaded : Option LoadedValue) (outputs : List DefinedOutput) (report : Option (List RefreshLine)) (said reported : Result Transcript AllocError) → IfOk reported (λ t. said ≡ Ok t) → SaysSample streams h loaded outputs report said → SaysSample streams h loaded outputs report reported
  still_says h loaded outputs report said (Err error) is says = tt
  still_says h loaded outputs report said (Ok transcript) is says =
      subst (λ (s : Result Transcript AllocError). SaysSample streams h loaded outputs report s) is says

  still_used : (P : Transcript → Type 0) (said reported : Result Transcript AllocError) → IfOk reported (λ t. said ≡ Ok t) → IfOk said P → IfOk reported P
  still_used P said (Err error) is says = tt
  still_used P said (Ok transcript) is says = subst (λ (s : Result Transcript AllocError). IfOk s P) is says

  pub samples_reported : (start : StoreState) (log : LogState) (low : List Entry) (said reported : Result Transcript AllocError) (own : List ℕ) → IfOk reported (λ t. said ≡ Ok t) → Samples number streams points start log low said own → Samples number streams points start log low reported own
  samples_reported start log [] said reported own is did = record {
    loaded = did.loaded;
    outputs = did.outputs;
    report = did.report;
    work = did.work;
    says = still_says log.history did.loaded did.outputs did.report said reported is did.says;
  }
  samples_reported start log (e ∷ low) said reported own is did = record {
    none = did.none;
    same = did.same;
    says = still_used (SaysLines (lines.Used (length (e ∷ low)) ∷ [])) said reported is did.says;
  }

  -- The store was empty.
  samples_filled : (start : StoreState) (log : LogState) (low : List Entry) (said : Result Transcript AllocError) (own : List ℕ) → length low ≡ 0 → Fills number streams points start log low said own → Samples number streams points start log low said own
  samples_filled start log [] said own none is = is
  samples_filled start log (e ∷ low) said own none is = absurd (omega (arith, none))

  module _ {D : Type 0} {disk : Ghosts D} (hall : Hall D disk) where
    -- ---- the work

    -- Memory ran out before any entry.
    pub filled_none : (old new : Session D disk) (result : Result Filled AllocError) → IsErr result → Does hall old new (λ start log low own. own ≡ []) → Does hall old new (λ start log low own. IsFilledInPart number streams points start log low result own)
    filled_none old new (Ok filled) failed does = absurd (cc)
    filled_none old new (Err error) failed does =
        does_implied hall old new (λ start log low own. own ≡ []) (λ start log low own. IsFilledInPart number streams points start log low (Err error) own)
        (λ start log low own is. (None, [], None, work_none start log low own is)) does

    abbrev Two : LoadedValue → Result (Vec DefinedOutput Global) AllocError → StoreState → LogState → List Entry → List ℕ → Type 0
    Two loaded result start log low own =
        (outputs : List DefinedOutput) × Begun start log low loaded outputs own
        × IfOk result (λ v. (v.items ≡ outputs) × (length outputs ≡ streams))

    -- The rows were loaded, and then outputs defined.
    pub two_parts : (old mid new : Session D disk) (rows : RowListValue) (loaded : LoadedValue) (result : Result (Vec DefinedOutput Global) AllocError) → rows ≡ rows_of_sample number streams points → IsAt hall new → Does hall old mid (λ start log low own. Loads start log low rows BATCH loaded own) → Does hall mid new (λ start log low own. DefinesAll streams start log low result own) → Does hall old new (λ start log low own. Two loaded result start log low own)
    two_parts old mid new rows loaded result is at load define =
        does_then hall old mid new
        (λ start log low own. Loads start log low rows BATCH loaded own)
        (λ start log low own. DefinesAll streams start log low result own)
        (λ start log low own. Two loaded result start log low own)
        at
        (λ start late early low a b on starts first then. (
          then.0,
          record {
            load_end = early;
            on = on;
            load_own = a;
            define_own = b;
            loads = subst (λ (r : RowListValue). Loads start early low r BATCH loaded a) is first;
            defines = then.1;
            own = refl;
          },
          then.2,
        ))
        load define

    -- Memory ran out when outputs were defined.
    pub filled_two : (old new : Session D disk) (loaded : LoadedValue) (result : Result (Vec DefinedOutput Global) AllocError) (reported : Result Filled AllocError) → IsErr reported → Does hall old new (λ start log low own. Two loaded result start log low own) → Does hall old new (λ start log low own. IsFilledInPart number streams points start log low reported own)
    filled_two old new loaded result (Ok filled) failed does = absurd (cc)
    filled_two old new loaded result (Err error) failed does =
        does_implied hall old new
        (λ start log low own. Two loaded result start log low own)
        (λ start log low own. IsFilledInPart number streams points start log low (Err error) own)
        (λ start log low own is. (Some loaded, is.0, None, work_two start log low loaded is.0 own is.1)) does

    -- Memory ran out before any output was brought up to date.
    pub filled_three : (old mid new : Session D disk) (loaded : LoadedValue) (result : Result (Vec DefinedOutput Global) AllocError) (reported : Result Filled AllocError) → IsErr reported → IsAt hall new → Does hall old mid (λ start log low own. Two loaded result start log low own) → Does hall mid new (λ start log low own. (n : ℕ) → times n own ≡ 0) → Does hall old new (λ start log low own. IsFilledInPart number streams points start log low reported own)
    filled_three old mid new loaded result (Ok filled) failed at two none = absurd (cc)
    filled_three old mid new loaded result (Err error) failed at two none =
        does_then hall old mid new
        (λ start log low own. Two loaded result start log low own)
        (λ start log low own. RefreshesIf start log low None own)
        (λ start log low own. IsFilledInPart number streams points start log low (Err error) own)
        at
        (λ start late early low a b on starts first then.
        (Some loaded, first.0, None, work_three start late early low loaded first.0 None a b on first.1 then))
        two none

    -- All was done.
    pub filled_all : (old mid new : Session D disk) (filled : Filled) → IsAt hall new → Does hall old mid (λ start log low own. Two filled.loaded (Ok filled.outputs) start log low own) → Does hall mid new (λ start log low own. RefreshesIf start log low (Some filled.report) own) → Does hall old new (λ start log low own. IsFilledInPart number streams points start log low (Ok filled) own)
    filled_all old mid new filled at two refreshes =
        does_then hall old mid new
        (λ start log low own. Two filled.loaded (Ok filled.outputs) start log low own)
        (λ start log low own. RefreshesIf start log low (Some filled.report) own)
        (λ start log low own. IsFilledInPart number streams points start log low (Ok filled) own)
        at
        (λ start late early low a b on starts first then.
        let items : filled.outputs.items ≡ first.0 = first.2.0 in (
          ap (length {A = DefinedOutput}) items ∙ first.2.1,
          subst (λ (outputs : List DefinedOutput). Work number streams points start late low (Some filled.loaded) outputs (Some filled.report) (a ++ b)) (sym items)
              (work_three start late early low filled.loaded first.0 (Some filled.report) a b on first.1 then),
        ))
        two refreshes

    -- ---- what is said

    -- What was said was said of the history at the end.
    pub fills_said : (old mid new : Session D disk) (filled : Filled) (said : Result Transcript AllocError) → Does hall old mid (λ start log low own. IsFilledInPart number streams points start log low (Ok filled) own) → Stays mid new → ((h : List Entry) → IsEngineOf h (opening_of hall) → IfOk said (SaysFilled (history_of h (seen_of mid)) filled)) → Does hall old new (λ start log low own. Fills number streams points start log low said own)
    fills_said old mid new filled said does stays says = (
      does.0,
      goes_stays old mid new does.0 does.1 stays,
      λ h of.
          let is = does.2 h of in
          subst (λ l. Fills number streams points (start_of h hall) (log_at h l) (log_seen h old).history said does.0) (sym stays.seen)
          (record {
            loaded = Some filled.loaded;
            outputs = filled.outputs.items;
            report = Some filled.report;
            work = is.1;
            says = says_if (history_of h (seen_of mid)) filled said is.0 (says h of);
          }),
    )

    -- Memory ran out.
    pub fills_none : (old new : Session D disk) (error : AllocError) (reported : Result Transcript AllocError) → IsErr reported → Does hall old new (λ start log low own. IsFilledInPart number streams points start log low (Err error) own) → Does hall old new (λ start log low own. Fills number streams points start log low reported own)
    fills_none old new error (Ok transcript) failed does = absurd (cc)
    fills_none old new error (Err other) failed does =
        does_implied hall old new
        (λ start log low own. IsFilledInPart number streams points start log low (Err error) own)
        (λ start log low own. Fills number streams points start log low (Err other) own)
        (λ start log low own is. record { loaded = is.0; outputs = is.1; report = is.2; work = is.3; says = tt }) does

    -- ---- the store

    pub sampled_none : (old new : Session D disk) (reported : Result Transcript AllocError) → IsErr reported → Does hall old new (λ start log low own. (own ≡ []) × (log.history ≡ low) × Unit {0}) → Does hall old new (λ start log low own. Samples number streams points start log low reported own)
    sampled_none old new (Ok transcript) failed does = absurd (cc)
    sampled_none old new (Err error) failed does =
        does_implied hall old new
        (λ start log low own. (own ≡ []) × (log.history ≡ low) × Unit {0})
        (λ start log low own. Samples number streams points start log low (Err error) own)
        (λ start log low own is. samples_nothing start log low error own is.0 is.1) does

    pub sampled_used : (old new : Session D disk) (entries : ℕ) (said : Result Transcript AllocError) → 1 ≤ entries → IfOk said (SaysLines (lines.Used entries ∷ [])) → Does hall old new (λ start log low own. (own ≡ []) × (log.history ≡ low) × (entries ≡ length low)) → Does hall old new (λ start log low own. Samples number streams points start log low said own)
    sampled_used old new entries said some says does =
        does_implied hall old new
        (λ start log low own. (own ≡ []) × (log.history ≡ low) × (entries ≡ length low))
        (λ start log low own. Samples number streams points start log low said own)
        (λ start log low own is. samples_used start log low entries said own is.2 some is.0 is.1 says) does

    pub sampled_empty : (old mid new : Session D disk) (entries : ℕ) (said : Result Transcript AllocError) → entries ≡ 0 → IsAt hall new → Does hall old mid (λ start log low own. (own ≡ []) × (log.history ≡ low) × (entries ≡ length low)) → Does hall mid new (λ start log low own. Fills number streams points start log low said own) → Does hall old new (λ start log low own. Samples number streams points start log low said own)
    sampled_empty old mid new entries said none at look fills =
        does_then hall old mid new
        (λ start log low own. (own ≡ []) × (log.history ≡ low) × (entries ≡ length low))
        (λ start log low own. Fills number streams points start log low said own)
        (λ start log low own. Samples number streams points start log low said own)
        at
        (λ start late early low a b on starts first then.
        samples_filled start late low said (a ++ b) (sym first.2 ∙ none)
        (subst (λ (l : List ℕ). Fills number streams points start late low said l) (ap (λ (l : List ℕ). l ++ b) (sym first.0))
        (subst (λ (h : List Entry). Fills number streams points start late h said b) first.1 then)))
        look fills
