-- Why `hear` ends so, after its frames were heard on a store that was opened.
use Rattle.std.specs.Prelude.{◌≡◌, ◌⊎◌, ℕ, ◌+◌, ◌<◌, ◌≤◌, ◌==◌, ◌&&◌, Bool, true, false, ◌||◌, cond, List, [], ◌∷◌, ◌++◌, length, take, replicate}
use Rattle.std.specs.Prelude.{Option, Some, None, option_to_list, Result, Ok, Err, IfOk}
use Rattle.std.specs.Option.{is_some}
use Rattle.std.specs.declared.alloc.AllocError.{AllocError}
use Rattle.std.proofs.Common.{zero, suc, refl, sym, ap, subst, ◌∙◌, arith, append-nil, length-append, inl, inr, ⊎_elim}
use Rattle.std.proofs.lemmas.List.{length-replicate}
use Rattle.std.proofs.lemmas.Bool.{cases_lt}
use Rattle.btr_disk.specs.declared.disk.Disk.{Ghosts}
use Rattle.btr_disk.specs.Bytes.{Image}
use Rattle.btr_hist.specs.declared.entry.Entry.{Entry}
use Rattle.btr_hist.specs.Legal.{Allowed}
use Rattle.btr_engine.specs.declared.engine.Engine.{Engine}
use Rattle.btr_engine.specs.declared.step.StepFault.{StepFault}
use Rattle.btr_engine.specs.declared.step.StepFault.TheVariants as steps
use Rattle.btr_engine.specs.Engine.{device, entries_of, is_stopped, KeepsOpening}
use Rattle.btr_engine.proofs.EngineLemmas.{stopped_by_fault}
use Rattle.btr_open.specs.Opening.{IsOpenedEngine, IsOpenedOn}
use Rattle.btr_gate.specs.Numbers.{times, given}
use Rattle.btr_gate.specs.Prefixes.{StartsWith}
use Rattle.btr_gate.proofs.NumberLemmas.{given_none, given_below, given_more}
use Rattle.btr_gate.proofs.PrefixLemmas.{starts_trans, starts_length, starts_between, starts_same, starts_whole}
use Rattle.btr_hall.specs.declared.item.Item.{Item}
use Rattle.btr_hall.specs.declared.item.Item.TheVariants.{Earlier}
use Rattle.btr_hall.specs.Trace.{has_halt, history_of}
use Rattle.btr_hall.proofs.TraceLemmas.{stopped_of_list, keeps_of_list}
use Rattle.btr_jobs.specs.States.{start_with, failed_in}
use Rattle.btr_jobs.proofs.StateLemmas.{log_at, failed_halt}
use Rattle.btr_store.specs.declared.status.Status.TheVariants as status
use Rattle.btr_store.specs.declared.transcript.Transcript.{Transcript}
use Rattle.btr_store.specs.Work.{AddsAllowed, Works, DoesRightly, IsPlainWork}
use Rattle.btr_store.proofs.Allowing.{last_same}
use Rattle.btr_store.proofs.WorkLemmas.{plain_on}
use Rattle.btr_store.proofs.WorksOn as on
use Rattle.btr_follow.specs.declared.frame.Frame.{Frame}
use Rattle.btr_follow.specs.declared.frame.Frames.{Frames}
use Rattle.btr_follow.specs.declared.heard.Heard.{Heard}
use Rattle.btr_follow.specs.declared.heard.Heard.TheVariants as answered
use Rattle.btr_follow.specs.declared.follower.Follower.{Follower}
use Rattle.btr_follow.specs.Hears.{BringsAllowed, Hears}
use Rattle.btr_follow.specs.Follower.{engine_of}
use Rattle.btr_top.specs.declared.hear.FrameCounts.{FrameCounts}
use Rattle.btr_top.specs.declared.ending.Ending.{Ending}
use Rattle.btr_top.specs.declared.ending.Ending.TheVariants.{OutOfMemory, NoDevice, Replied}
use Rattle.btr_top.specs.Work.{ending_of}
use Rattle.btr_top.specs.Hear.{heard_line, heard_status, HearsAll, HearsFirst, FailsInNext, HearsFrames, SaysHearing, SaysHeard, SaysFull, SaysStoreSealed, SaysSomeHearing, SaysCounts, EndsHearing, FramesCause, is_device_fault, HeardAfter, HeardEach}
use Rattle.btr_top.proofs.WorkCauses.{work_cause, says_if}

-- ---- numbers

-- So many numbers above `low`, the greatest first.
abbrev numbers_above : ℕ → ℕ → List ℕ
numbers_above low zero = []
numbers_above low (suc k) = (low + k + 1) ∷ numbers_above low k

numbers_given : (low k n : ℕ) → times n (numbers_above low k) ≡ given low (low + k) n
numbers_given low zero n = sym (given_none low n) ∙ ap (λ (z : ℕ). given low z n) (omega arith)
numbers_given low (suc k) n =
    let next : times n (numbers_above low k) ≡ given low (low + k) n = numbers_given low k n in
    let more = given_more low (low + k) n (omega arith) in
    let same : given low (low + suc k) n ≡ given low (low + k + 1) n = ap (λ (z : ℕ). given low z n) (omega arith) in
    omega (arith, next, more, same)

-- ---- each entry that is taken is allowed

next_or_same : (h mid : List Entry) (f : Frame) (a : Heard) → Hears h f a mid → (mid ≡ h) ⊎ BringsAllowed h f mid
next_or_same h mid f (answered.Stale entries) hears = inl hears.2
next_or_same h mid f (answered.Early entries) hears = inl hears.2
next_or_same h mid f answered.Garbled hears = inl hears.2
next_or_same h mid f answered.Foreign hears = inl hears.1
next_or_same h mid f (answered.Taken number) hears = inr hears.1

mid_starts : (h mid : List Entry) (f : Frame) (a : Heard) → Hears h f a mid → StartsWith mid h
mid_starts h mid f a hears =
    ⊎_elim
    (λ (same : mid ≡ h). ([], same ∙ sym (append-nil h)))
    (λ (brings : BringsAllowed h f mid). (brings.entry ∷ [], brings.grown))
    (next_or_same h mid f a hears)

heard_starts : (h after : List Entry) (frames : List Frame) (answers : List Heard) → HearsAll h frames answers after → StartsWith after h
heard_starts h after [] [] all = ([], all ∙ sym (append-nil h))
heard_starts h after [] (a ∷ answers) all = absurd all
heard_starts h after (f ∷ frames) [] all = absurd all
heard_starts h after (f ∷ frames) (a ∷ answers) all =
    starts_trans after all.0 h (heard_starts all.0 after frames answers all.2) (mid_starts h all.0 f a all.1)

allowed_heard : (h after : List Entry) (frames : List Frame) (answers : List Heard) → HearsAll h frames answers after → (p : List Entry) (e : Entry) → StartsWith after (p ++ e ∷ []) → length h ≤ length p → Allowed p e
allowed_heard h after [] [] all p e starts long =
    let whole : length after ≡ length h = ap (length {A = Entry}) all in
    let part : length (p ++ e ∷ []) ≡ length p + 1 = length-append p (e ∷ []) in
    absurd (omega (arith, long, whole, part, starts_length after (p ++ e ∷ []) starts))
allowed_heard h after [] (a ∷ answers) all p e starts long = absurd all
allowed_heard h after (f ∷ frames) [] all p e starts long = absurd all
allowed_heard h after (f ∷ frames) (a ∷ answers) all p e starts long =
    let mid : List Entry = all.0 in
    let rest : HearsAll mid frames answers after = all.2 in
    ⊎_elim
    (λ (beyond : length p < length mid).
    ⊎_elim
    (λ (same : mid ≡ h). absurd (omega (arith, long, beyond, ap (length {A = Entry}) same)))
    (λ (brings : BringsAllowed h f mid).
    let grown : length mid ≡ length h + 1 = ap (length {A = Entry}) brings.grown ∙ length-append h (brings.entry ∷ []) in
    let part : length (p ++ e ∷ []) ≡ length p + 1 = length-append p (e ∷ []) in
    let here : StartsWith after mid = heard_starts mid after frames answers rest in
    let same : mid ≡ p ++ e ∷ [] = starts_same after mid (p ++ e ∷ []) here starts (omega (arith, long, beyond, grown, part)) in
    let before : h ≡ p = starts_same after h p (starts_trans after mid h here (brings.entry ∷ [], brings.grown)) (starts_trans after (p ++ e ∷ []) p starts (e ∷ [], refl)) (omega (arith, long, beyond, grown)) in
    let entry : brings.entry ≡ e = last_same h p brings.entry e before (sym brings.grown ∙ same) in
    subst (λ (y : Entry). Allowed p y) entry (subst (λ (k : List Entry). Allowed k brings.entry) before brings.allowed))
    (next_or_same h mid f a all.1))
    (λ (within : length mid ≤ length p). allowed_heard mid after frames answers rest p e starts within)
    (cases_lt (length p) (length mid))

-- So is the entry in whose step the device failed.
allowed_each : (h after : List Entry) (frames : List Frame) (answers : List Heard) (failed : Option Entry) → HearsFirst h frames answers after → FailsInNext frames answers after failed → (p : List Entry) (e : Entry) → StartsWith (after ++ option_to_list failed) (p ++ e ∷ []) → length h ≤ length p → Allowed p e
allowed_each h after frames answers None all next p e starts long =
    allowed_heard h after (take (length answers) frames) answers all p e (subst (λ (k : List Entry). StartsWith k (p ++ e ∷ [])) (append-nil after) starts) long
allowed_each h after frames answers (Some last) all next p e starts long =
    let whole : List Entry = after ++ last ∷ [] in
    let part : length (p ++ e ∷ []) ≡ length p + 1 = length-append p (e ∷ []) in
    let one : length whole ≡ length after + 1 = length-append after (last ∷ []) in
    let front : StartsWith whole after = (last ∷ [], refl) in
    ⊎_elim
    (λ (inside : length p < length after).
    allowed_heard h after (take (length answers) frames) answers all p e
    (starts_between whole (p ++ e ∷ []) after starts front (omega (arith, inside, part))) long)
    (λ (at_end : length after ≤ length p).
    let all_of_it : whole ≡ p ++ e ∷ [] = starts_whole whole (p ++ e ∷ []) starts (omega (arith, at_end, part, one)) in
    let lengths : length whole ≡ length (p ++ e ∷ []) = ap (length {A = Entry}) all_of_it in
    let before : after ≡ p = starts_same whole after p front (starts_trans whole (p ++ e ∷ []) p starts (e ∷ [], refl)) (omega (arith, lengths, part, one)) in
    let entry : last ≡ e = last_same after p last e before all_of_it in
    subst (λ (y : Entry). Allowed p y) entry (subst (λ (k : List Entry). Allowed k last) before next.allowed))
    (cases_lt (length p) (length after))

-- ---- statuses

calm_of : (b : Bool) → cond b status.Done status.Refused ≡ status.DeviceFault → ⊥
calm_of true is = absurd (cc)
calm_of false is = absurd (cc)

calm_counts : (n : FrameCounts) (rest : ℕ) → heard_status n rest ≡ status.DeviceFault → ⊥
calm_counts n rest is = calm_of (n.early == 0 && (n.bad == 0 && rest == 0)) is

calm_full : status.Full ≡ status.DeviceFault → ⊥
calm_full is = absurd (cc)

calm_refused : status.Refused ≡ status.DeviceFault → ⊥
calm_refused is = absurd (cc)

or_true : (a b : Bool) → b ≡ true → (a || b) ≡ true
or_true true b is = refl
or_true false b is = is

-- ---- what was done on the device

module _ {D : Type 0} (disk : Ghosts D) (only_now : disk.is_observable → (d : D) (c : Image) → disk.images_since d (disk.calls d) c → disk.images_now d c) (counts_now : disk.is_observable → (d : D) (t : ℕ) (c : Image) → t ≤ disk.calls d → disk.images_now d c → disk.images_since d t c) (old end : D) (frames : Frames) (first last : Follower D disk) (opened : IsOpenedEngine disk old (engine_of first)) (out : end ≡ device (engine_of last)) where
  abbrev x : Engine D disk
  x = engine_of first

  module _ (result : Result FrameCounts StepFault) (heard : HeardEach frames.frames first last result) (said : Result Transcript AllocError) (failed : Bool) (same_failed : failed ≡ is_device_fault result) (calm : IfOk said (λ t. t.status ≡ status.DeviceFault → failed ≡ true)) where
    abbrev l : List (Item D disk)
    l = heard.items

    halt : failed ≡ has_halt l
    halt = same_failed ∙ sym heard.halted

    plain : IsPlainWork disk old said failed end
    plain =
        let kept : KeepsOpening x (engine_of last) = subst (KeepsOpening x) (sym heard.engine) (keeps_of_list x l heard.trace) in
        plain_on disk old end x (engine_of last) opened kept out said failed
        (λ is. stopped_by_fault (engine_of last)
        (ap (λ (e : Engine D disk). is_stopped e) heard.engine ∙ stopped_of_list x l heard.trace ∙ or_true (is_stopped x) (has_halt l) (sym halt ∙ is)))
        calm

    abbrev own : List ℕ
    own = numbers_above (entries_of x) (length heard.trace.steps)

    length_is : length l ≡ entries_of x + length heard.trace.steps
    length_is = ap (length {A = Item D disk}) heard.trace.is ∙ length-append (replicate (entries_of x) Earlier) heard.trace.steps ∙ ap (λ (k : ℕ). k + length heard.trace.steps) (length-replicate (entries_of x) Earlier)

    each : (n : ℕ) → times n own ≡ given (entries_of x) (length l) n
    each n = numbers_given (entries_of x) (length heard.trace.steps) n ∙ ap (λ (k : ℕ). given (entries_of x) k n) (sym length_is)

    module _ (h : List Entry) (at : IsOpenedOn disk h x) (after : HeardAfter h frames.frames heard.answers l x result) where
      adds : AddsAllowed (log_at h l) own
      adds p e starts listed legal =
          let n : ℕ = length p + 1 in
          let long : entries_of x ≡ length h = at.at_rest.of.entries in
          ⊎_elim
          (λ (above : entries_of x < n).
          allowed_each h (history_of h l) frames.frames heard.answers (failed_in l) after.heard after.failed p e starts (omega (arith, above, long)))
          (λ (below : n ≤ entries_of x). absurd (omega (arith, listed, each n, given_below (entries_of x) (length l) n below)))
          (cases_lt (entries_of x) n)

      works : Works disk (start_with h x) (log_at h l) own old end
      works =
          subst (λ (d : D). Works disk (start_with h x) (log_at h l) own old d) (sym (out ∙ ap (λ (e : Engine D disk). device e) heard.engine))
          (on.works disk only_now counts_now old x opened h at l heard.trace own each)

      rightly : SaysHearing frames heard.answers (start_with h x) (log_at h l) said → DoesRightly disk (λ start log own. HearsFrames frames start log said) failed old end
      rightly says = record {
        first = start_with h x;
        log = log_at h l;
        own = own;
        works = works;
        what = record { answers = heard.answers; heard = after.heard; sealed = after.unstepped; failed = after.failed; says = says };
        same_failed = halt ∙ sym (failed_halt l);
        legal = works.legal adds;
        right = works.right adds;
        in_flight = works.in_flight adds;
      }

    pub caused : (e : Ending) → e ≡ ending_of said failed → ((h : List Entry) → HeardAfter h frames.frames heard.answers l x result → SaysHearing frames heard.answers (start_with h x) (log_at h l) said) → IfOk said (SaysSomeHearing frames) → FramesCause disk frames old end e
    caused e is says some = (
      work_cause disk (λ what start log own. HearsFrames frames start log what) said failed old end end e is refl plain
          (λ reported h holds.
          let at : IsOpenedOn disk h x = opened.stood reported h holds in
          let after : HeardAfter h frames.frames heard.answers l x result = heard.heard h at.at_rest.of in
          rightly h at after (says h after)),
      says_if (SaysSomeHearing frames) said failed e is some,
    )

    -- Nothing is said.
    pub unsaid : (error : AllocError) → said ≡ Err error → (e : Ending) → e ≡ ending_of said failed → FramesCause disk frames old end e
    unsaid error is e ends =
        caused e ends
        (λ h after. subst (λ (r : Result Transcript AllocError). SaysHearing frames heard.answers (start_with h x) (log_at h l) r) (sym is) tt)
        (subst (λ (r : Result Transcript AllocError). IfOk r (SaysSomeHearing frames)) (sym is) tt)

  no_error : AllocError
  no_error = record {}

  none_failed : (l : List (Item D disk)) → has_halt l ≡ false → failed_in l ≡ None
  none_failed l none = go (failed_in l) (failed_halt l ∙ none)
    where
      go : (o : Option Entry) → is_some o ≡ false → o ≡ None
      go None is = refl
      go (Some e) is = absurd (cc)

  -- The line of the numbers is said.
  said_counts : (n : FrameCounts) → (heard : HeardEach frames.frames first last (Ok n)) → (t : Transcript) → SaysCounts n frames.rest t → FramesCause disk frames old end (Replied t)
  said_counts n heard t says =
      let all : SaysHeard frames heard.answers t = record {
        all = heard.counted.0;
        same_text = says.same_text ∙ ap (λ (k : FrameCounts). heard_line k frames.rest) heard.counted.1;
        same_status = says.same_status ∙ ap (λ (k : FrameCounts). heard_status k frames.rest) heard.counted.1;
      } in
      caused (Ok n) heard (Ok t) false refl (λ fault. absurd (calm_counts n frames.rest (sym says.same_status ∙ fault))) (Replied t) refl
      (λ h after. (none_failed heard.items heard.halted, inl all))
      (inl (heard.answers, all))

  -- The line of a device without room is said.
  said_full : (need left : ℕ) → (heard : HeardEach frames.frames first last (Err (steps.DeviceFull need left))) → (t : Transcript) → SaysFull need left t → FramesCause disk frames old end (Replied t)
  said_full need left heard t says =
      caused (Err (steps.DeviceFull need left)) heard (Ok t) false refl (λ fault. absurd (calm_full (sym says.same_status ∙ fault))) (Replied t) refl
      (λ h after.
      let full = after.full need left refl in (
        none_failed heard.items heard.halted,
        inr (inl (record {
          unsealed = full.unsealed;
          entry = full.entry;
          next = full.next;
          room = left;
          same_room = full.same_room;
          less = subst (λ (k : ℕ). left < k) full.needs full.less;
          says = subst (λ (k : ℕ). SaysFull k left t) full.needs says;
        })),
      ))
      (inr (inl (need, left, says)))

  -- The line of a sealed store is said.
  said_sealed : (heard : HeardEach frames.frames first last (Err steps.Sealed)) → (t : Transcript) → SaysStoreSealed t → FramesCause disk frames old end (Replied t)
  said_sealed heard t says =
      caused (Err steps.Sealed) heard (Ok t) false refl (λ fault. absurd (calm_refused (sym says.same_status ∙ fault))) (Replied t) refl
      (λ h after. (none_failed heard.items heard.halted, inr (inr (after.sealed refl, says))))
      (inr (inr says))

  -- Nothing is said, since there was no memory for it.
  no_memory : (result : Result FrameCounts StepFault) → HeardEach frames.frames first last result → is_device_fault result ≡ false → FramesCause disk frames old end OutOfMemory
  no_memory result heard runs = unsaid result heard (Err no_error) false (sym runs) tt no_error refl OutOfMemory refl

  by_result : (result : Result FrameCounts StepFault) → HeardEach frames.frames first last result → (e : Ending) → EndsHearing result frames.rest e → FramesCause disk frames old end e
  by_result (Ok n) heard e ends =
      ⊎_elim
      (λ (none : e ≡ OutOfMemory). subst (FramesCause disk frames old end) (sym none) (no_memory (Ok n) heard refl))
      (λ (said : (t : Transcript) × (e ≡ Replied t) × SaysCounts n frames.rest t). subst (FramesCause disk frames old end) (sym said.1) (said_counts n heard said.0 said.2))
      ends
  by_result (Err (steps.DeviceFull need left)) heard e ends =
      ⊎_elim
      (λ (none : e ≡ OutOfMemory). subst (FramesCause disk frames old end) (sym none) (no_memory (Err (steps.DeviceFull need left)) heard refl))
      (λ (said : (t : Transcript) × (e ≡ Replied t) × SaysFull need left t). subst (FramesCause disk frames old end) (sym said.1) (said_full need left heard said.0 said.2))
      ends
  by_result (Err steps.Sealed) heard e ends =
      ⊎_elim
      (λ (none : e ≡ OutOfMemory). subst (FramesCause disk frames old end) (sym none) (no_memory (Err steps.Sealed) heard refl))
      (λ (said : (t : Transcript) × (e ≡ Replied t) × SaysStoreSealed t). subst (FramesCause disk frames old end) (sym said.1) (said_sealed heard said.0 said.2))
      ends
  by_result (Err steps.DeviceFault) heard e ends =
      subst (FramesCause disk frames old end) (sym ends) (unsaid (Err steps.DeviceFault) heard (Err no_error) true refl tt no_error refl NoDevice refl)
  by_result (Err (steps.Stopped entries)) heard e ends =
      subst (FramesCause disk frames old end) (sym ends) (no_memory (Err (steps.Stopped entries)) heard refl)
  by_result (Err (steps.Rejected why)) heard e ends =
      subst (FramesCause disk frames old end) (sym ends) (no_memory (Err (steps.Rejected why)) heard refl)
  by_result (Err steps.Want) heard e ends =
      subst (FramesCause disk frames old end) (sym ends) (no_memory (Err steps.Want) heard refl)

-- Why `hear` ends so, by the result of its frames.
pub heard_cause : {D : Type 0} (disk : Ghosts D) → (disk.is_observable → (d : D) (c : Image) → disk.images_since d (disk.calls d) c → disk.images_now d c) → (disk.is_observable → (d : D) (t : ℕ) (c : Image) → t ≤ disk.calls d → disk.images_now d c → disk.images_since d t c) → (old end : D) (frames : Frames) (x : Engine D disk) (first last : Follower D disk) → IsOpenedEngine disk old x → engine_of first ≡ x → end ≡ device (engine_of last) → (result : Result FrameCounts StepFault) → HeardEach frames.frames first last result → (e : Ending) → EndsHearing result frames.rest e → FramesCause disk frames old end e
heard_cause disk only_now counts_now old end frames x first last opened begins out result heard e ends =
    by_result disk only_now counts_now old end frames first last (subst (IsOpenedEngine disk old) (sym begins) opened) out result heard e ends

-- The device has as many blocks.
pub heard_size : {D : Type 0} (disk : Ghosts D) (old end : D) (frames : List Frame) (x : Engine D disk) (first last : Follower D disk) (result : Result FrameCounts StepFault) → IsOpenedEngine disk old x → engine_of first ≡ x → end ≡ device (engine_of last) → HeardEach frames first last result → disk.size end ≡ disk.size old
heard_size disk old end frames x first last result opened begins out heard =
    let kept : KeepsOpening (engine_of first) (engine_of last) = subst (KeepsOpening (engine_of first)) (sym heard.engine) (keeps_of_list (engine_of first) heard.items heard.trace) in
    ap disk.size out
    ∙ kept.device_kept.same_size
    ∙ ap (λ (y : Engine _ disk). disk.size (device y)) begins
    ∙ opened.kept.counts.same_size
