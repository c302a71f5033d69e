-- What a follower heard of frames, one after another: the steps that its engine made are the items of a list, as those of a hall.
use Rattle.std.specs.Prelude.{◌≡◌, ℕ, ◌+◌, ◌≤◌, ◌<◌, Bool, true, false, ◌||◌, List, [], ◌∷◌, ◌++◌, length, take, drop, get_or, slice_get, replicate}
use Rattle.std.specs.Prelude.{Option, Some, None, option_to_list, Result, Ok, Err}
use Rattle.std.specs.List.{AllByRecursion}
use Rattle.std.proofs.Common.{zero, suc, refl, sym, ap, subst, ◌∙◌, arith, append-nil, append_assoc, length-append}
use Rattle.std.proofs.Math.Seq.{take-append_seam, split_at}
use Rattle.std.proofs.lemmas.List.{take_more, take_all}
use Rattle.btr_disk.specs.declared.disk.Disk.{Ghosts}
use Rattle.btr_hist.specs.declared.entry.Entry.{Entry}
use Rattle.btr_hist.specs.Legal.{Allowed}
use Rattle.btr_engine.specs.declared.engine.Engine.{Engine}
use Rattle.btr_streams.specs.declared.board.Receipt.{Receipt}
use Rattle.btr_engine.specs.declared.step.StepFault.{StepFault}
use Rattle.btr_engine.specs.declared.step.StepFault.TheVariants.{Stopped, Sealed, Rejected, Want, DeviceFull, DeviceFault}
use Rattle.btr_engine.specs.Body.{needs_of, needs_after}
use Rattle.btr_engine.specs.Engine.{entries_of, room_of, is_sealed, IsEngineOf}
use Rattle.btr_engine.specs.Step.{IsStep}
use Rattle.btr_engine.proofs.NeedLemmas.{needs-append}
use Rattle.btr_hall.specs.declared.item.Item.{Item}
use Rattle.btr_hall.specs.declared.item.Item.TheVariants.{Earlier, Added, Halted}
use Rattle.btr_hall.specs.Trace.{IsTraceOf, engine_after, entries_in, has_halt, history_of}
use Rattle.btr_hall.specs.Commit.{item_by}
use Rattle.btr_hall.specs.StoreLaws.{engine_earlier, halt_earlier}
use Rattle.btr_hall.proofs.TraceLemmas.{engine_append, entries_append, halt_append, engine_of_list, room_of_list, sealed_of_list, item_engine, list_push}
use Rattle.btr_jobs.specs.States.{start_with, failed_in}
use Rattle.btr_jobs.proofs.StateLemmas.{failed_append}
use Rattle.btr_follow.specs.declared.frame.Frame.{Frame}
use Rattle.btr_follow.specs.declared.heard.Heard.{Heard}
use Rattle.btr_follow.specs.declared.heard.Heard.TheVariants as answered
use Rattle.btr_follow.specs.declared.follower.Follower.{Follower}
use Rattle.btr_follow.specs.Hears.{Brings, Hears}
use Rattle.btr_follow.specs.Follower.{engine_of, IsFollowerOf, IsFullFor, HasHeard, HearCause, IsHearing}
use Rattle.btr_follow.proofs.Delivering.{entry-once}
use Rattle.btr_top.specs.declared.hear.FrameCounts.{FrameCounts}
use Rattle.btr_top.specs.Hear.{no_frames, count_frame, counts_after, counts_of, HearsAll, HearsFirst, BringsNext, FailsInNext, IsFullForNext, IsSealedAnswer, MeetsSeal, is_device_fault, HeardEach}

-- ---- lists

at-seam : {A : Type 0} (front rest : List A) (x : A) → slice_get (front ++ x ∷ rest) (length front) ≡ Some x
at-seam [] rest x = refl
at-seam (y ∷ front) rest x = at-seam front rest x

take-seam : {A B : Type 0} (all front rest : List A) (answers : List B) → all ≡ front ++ rest → length answers ≡ length front → take (length answers) all ≡ front
take-seam {A = A} all front rest answers is long =
    ap (λ (l : List A). take (length answers) l) is ∙ ap (λ (n : ℕ). take n (front ++ rest)) long ∙ take-append_seam front rest

-- ---- faults

abbrev needs_in : StepFault → ℕ
needs_in (DeviceFull need left) = need
needs_in fault = 0

abbrev leaves_in : StepFault → ℕ
leaves_in (DeviceFull need left) = left
leaves_in fault = 0

abbrev fault_in : Result FrameCounts StepFault → StepFault
fault_in (Ok n) = Want
fault_in (Err fault) = fault

full_need : (a b x y : ℕ) → ◌≡◌ {A = Result FrameCounts StepFault} (Err (DeviceFull a x)) (Err (DeviceFull b y)) → a ≡ b
full_need a b x y same = ap (λ (r : Result FrameCounts StepFault). needs_in (fault_in r)) same

full_left : (a b x y : ℕ) → ◌≡◌ {A = Result FrameCounts StepFault} (Err (DeviceFull a x)) (Err (DeviceFull b y)) → x ≡ y
full_left a b x y same = ap (λ (r : Result FrameCounts StepFault). leaves_in (fault_in r)) same

-- ---- answers

-- How many frames are counted.
abbrev frames_counted : FrameCounts → ℕ
frames_counted n = n.taken + n.stale + n.early + n.bad

one-more : (n : FrameCounts) (a : Heard) → frames_counted (count_frame n a) ≡ frames_counted n + 1
one-more n (answered.Stale entries) = omega arith
one-more n (answered.Early entries) = omega arith
one-more n answered.Garbled = omega arith
one-more n answered.Foreign = omega arith
one-more n (answered.Taken number) = omega arith

counted-after : (n : FrameCounts) (answers : List Heard) → frames_counted (counts_after n answers) ≡ frames_counted n + length answers
counted-after n [] = omega arith
counted-after n (a ∷ answers) = omega (arith, counted-after (count_frame n a) answers, one-more n a)

counts-push : (n : FrameCounts) (answers : List Heard) (a : Heard) → counts_after n (answers ++ a ∷ []) ≡ count_frame (counts_after n answers) a
counts-push n [] a = refl
counts-push n (b ∷ answers) a = counts-push (count_frame n b) answers a

hears-push : (h mid after : List Entry) (frames : List Frame) (answers : List Heard) (f : Frame) (a : Heard) → HearsAll h frames answers mid → Hears mid f a after → HearsAll h (frames ++ f ∷ []) (answers ++ a ∷ []) after
hears-push h mid after [] [] f a all hears = (after, subst (λ (k : List Entry). Hears k f a after) all hears, refl)
hears-push h mid after [] (b ∷ answers) f a all hears = absurd all
hears-push h mid after (g ∷ frames) [] f a all hears = absurd all
hears-push h mid after (g ∷ frames) (b ∷ answers) f a all hears =
    (all.0, all.1, hears-push all.0 mid after frames answers f a all.2 hears)

hears-first : (h after : List Entry) (frames front rest : List Frame) (answers : List Heard) → frames ≡ front ++ rest → length answers ≡ length front → HearsAll h front answers after → HearsFirst h frames answers after
hears-first h after frames front rest answers is long all =
    subst (λ (l : List Frame). HearsAll h l answers after) (sym (take-seam frames front rest answers is long)) all

-- One answer more of a sealed store.
sealed-push : (answers : List Heard) (a : Heard) → AllByRecursion IsSealedAnswer answers → IsSealedAnswer a → AllByRecursion IsSealedAnswer (answers ++ a ∷ [])
sealed-push [] a all last = (last, tt)
sealed-push (b ∷ answers) a all last = (all.0, sealed-push answers a all.1 last)

not_both : (b : Bool) → b ≡ true → b ≡ false → ⊥
not_both b is other = absurd (cc)

-- ---- the steps of a follower

module _ {D : Type 0} {disk : Ghosts D} where
  -- All of these frames were heard: by these answers, and by the steps of these items.
  pub record HeardAll (frames : List Frame) (old new : Follower D disk) (n : FrameCounts) : Type 0 where
    pub answers : List Heard
    pub items : List (Item D disk)
    pub all : length answers ≡ length frames
    pub counted : n ≡ counts_of answers
    pub trace : IsTraceOf (engine_of old) items
    pub engine : engine_of new ≡ engine_after (engine_of old) items
    pub runs : has_halt items ≡ false
    pub heard : (h : List Entry) → IsFollowerOf h old → HearsAll h frames answers (history_of h items)
    pub unstepped : (h : List Entry) → IsFollowerOf h old → is_sealed (engine_of old) ≡ true → AllByRecursion IsSealedAnswer answers

  -- Without a halt no step failed.
  none_in : (l : List (Item D disk)) → has_halt l ≡ false → failed_in l ≡ None
  none_in [] runs = refl
  none_in (Earlier ∷ l) runs = none_in l runs
  none_in (Added entry engine ∷ l) runs = none_in l runs
  none_in (Halted entry engine ∷ l) runs = absurd (cc)

  no_entries : (n : ℕ) (l : List (Item D disk)) → l ≡ replicate n Earlier ++ [] → entries_in l ≡ []
  no_entries zero l is = ap (entries_in {disk = disk}) is
  no_entries (suc n) l is = ap (entries_in {disk = disk}) is ∙ no_entries n (replicate n Earlier ++ []) refl

  pub heard-none : (x : Follower D disk) → HeardAll [] x x no_frames
  heard-none x =
      let n : ℕ = entries_of (engine_of x) in record {
        answers = [];
        items = replicate n Earlier ++ [];
        all = refl;
        counted = refl;
        trace = record { steps = []; is = refl; trace = tt };
        engine = sym (engine_earlier n (engine_of x) []);
        runs = halt_earlier n [];
        heard = λ h of. ap (λ (m : List Entry). h ++ m) (no_entries n (replicate n Earlier ++ []) refl) ∙ append-nil h;
        unstepped = λ h of is. tt;
      }

  -- The engine after some frames is of the history of their items.
  mid_of : (frames : List Frame) (old mid : Follower D disk) (n : FrameCounts) (some : HeardAll frames old mid n) (h : List Entry) → IsFollowerOf h old → IsFollowerOf (history_of h some.items) mid
  mid_of frames old mid n some h of =
      subst (λ (e : Engine D disk). IsEngineOf (history_of h some.items) e) (sym some.engine) (engine_of_list h (engine_of old) some.items of some.trace)

  -- The store is sealed exactly if it was before the frames.
  same_seal : (frames : List Frame) (old mid : Follower D disk) (n : FrameCounts) (some : HeardAll frames old mid n) → is_sealed (engine_of mid) ≡ is_sealed (engine_of old)
  same_seal frames old mid n some =
      ap (λ (e : Engine D disk). is_sealed e) some.engine ∙ sealed_of_list (engine_of old) some.items some.trace

  -- One frame more that changed nothing.
  same_push : (frames : List Frame) (old mid new : Follower D disk) (n : FrameCounts) (f : Frame) (a : Heard) (some : HeardAll frames old mid n) → engine_of new ≡ engine_of mid → ((h : List Entry) → IsFollowerOf h mid → Hears h f a h) → ((h : List Entry) → IsFollowerOf h mid → is_sealed (engine_of mid) ≡ true → IsSealedAnswer a) → HeardAll (frames ++ f ∷ []) old new (count_frame n a)
  same_push frames old mid new n f a some same hears unstepped = record {
    answers = some.answers ++ a ∷ [];
    items = some.items;
    all = length-append some.answers (a ∷ []) ∙ ap (λ (k : ℕ). k + 1) some.all ∙ sym (length-append frames (f ∷ []));
    counted = ap (λ (k : FrameCounts). count_frame k a) some.counted ∙ sym (counts-push no_frames some.answers a);
    trace = some.trace;
    engine = same ∙ some.engine;
    runs = some.runs;
    heard = λ h of.
        let k : List Entry = history_of h some.items in
        hears-push h k k frames some.answers f a (some.heard h of) (hears k (mid_of frames old mid n some h of));
    unstepped = λ h of is.
        sealed-push some.answers a (some.unstepped h of is)
        (unstepped (history_of h some.items) (mid_of frames old mid n some h of) (same_seal frames old mid n some ∙ is));
  }

  -- The items with that of one step more.
  module _ (frames : List Frame) (old mid new : Follower D disk) (n : FrameCounts) (some : HeardAll frames old mid n) (e : Entry) (result : Result Receipt StepFault) (step : IsStep (engine_of mid) (engine_of new) e result) where
    abbrev items : List (Item D disk)
    items = some.items ++ option_to_list (item_by result e (engine_of new))

    here : IsStep (engine_after (engine_of old) some.items) (engine_of new) e result
    here = subst (λ (z : Engine D disk). IsStep z (engine_of new) e result) some.engine step

    its_trace : IsTraceOf (engine_of old) items
    its_trace = list_push (engine_of old) (engine_of new) some.items e result some.trace here

    its_engine : engine_of new ≡ engine_after (engine_of old) items
    its_engine =
        sym (item_engine (engine_after (engine_of old) some.items) (engine_of new) e result here)
        ∙ sym (engine_append (engine_of old) some.items (option_to_list (item_by result e (engine_of new))))

  pub heard-push : (frames : List Frame) (old mid new : Follower D disk) (n : FrameCounts) (f : Frame) (a : Heard) → HeardAll frames old mid n → IsHearing mid new f (Ok a) → ((h : List Entry) → IsFollowerOf h mid → HasHeard h mid new f a) → HeardAll (frames ++ f ∷ []) old new (count_frame n a)
  heard-push frames old mid new n f (answered.Stale entries) some did heard =
      same_push frames old mid new n f (answered.Stale entries) some did
      (λ h of. let has = heard h of in (has.hears.0, has.hears.1, refl)) (λ h of is. tt)
  heard-push frames old mid new n f (answered.Early entries) some did heard =
      same_push frames old mid new n f (answered.Early entries) some did
      (λ h of. let has = heard h of in (has.hears.0, has.hears.1, refl)) (λ h of is. tt)
  heard-push frames old mid new n f answered.Garbled some did heard =
      same_push frames old mid new n f answered.Garbled some did
      (λ h of. let has = heard h of in (has.hears.0, has.hears.1, refl)) (λ h of is. tt)
  heard-push frames old mid new n f answered.Foreign some did heard =
      same_push frames old mid new n f answered.Foreign some did
      (λ h of. let has = heard h of in (has.hears.0, refl))
      (λ h of is. absurd (not_both (is_sealed (engine_of mid)) is (heard h of).runs.1))
  heard-push frames old mid new n f (answered.Taken number) some did heard =
      let a : Heard = answered.Taken number in
      let e : Entry = did.0 in
      let receipt : Receipt = did.2.receipt in
      let step : IsStep (engine_of mid) (engine_of new) e (Ok receipt) = did.2.step in record {
        answers = some.answers ++ a ∷ [];
        items = items frames old mid new n some e (Ok receipt) step;
        all = length-append some.answers (a ∷ []) ∙ ap (λ (k : ℕ). k + 1) some.all ∙ sym (length-append frames (f ∷ []));
        counted = ap (λ (k : FrameCounts). count_frame k a) some.counted ∙ sym (counts-push no_frames some.answers a);
        trace = its_trace frames old mid new n some e (Ok receipt) step;
        engine = its_engine frames old mid new n some e (Ok receipt) step;
        runs = halt_append some.items (option_to_list (item_by (Ok receipt) e (engine_of new))) ∙ ap (λ (b : Bool). b || false) some.runs;
        heard = λ h of.
            let k : List Entry = history_of h some.items in
            let has = heard k (mid_of frames old mid n some h of) in
            let brings = has.hears.1 in
            let same : brings.entry ≡ e = entry-once f.bytes brings.entry e brings.brings.spelled did.1 in
            let after : has.after ≡ history_of h (some.items ++ option_to_list (item_by (Ok receipt) e (engine_of new))) =
            brings.grown
            ∙ ap (λ (x : Entry). k ++ x ∷ []) same
            ∙ append_assoc h (entries_in some.items) (e ∷ [])
            ∙ ap (λ (m : List Entry). h ++ m) (sym (entries_append some.items (option_to_list (item_by (Ok receipt) e (engine_of new))))) in
            hears-push h k (history_of h (some.items ++ option_to_list (item_by (Ok receipt) e (engine_of new)))) frames some.answers f a (some.heard h of)
            (subst (λ (m : List Entry). Hears k f a m) after has.hears);
        unstepped = λ h of is.
            let has = heard (history_of h some.items) (mid_of frames old mid n some h of) in
            absurd (not_both (is_sealed (engine_of mid)) (same_seal frames old mid n some ∙ is) has.runs.1);
      }

  -- Each frame is counted once.
  pub heard-count : (frames : List Frame) (old new : Follower D disk) (n : FrameCounts) → HeardAll frames old new n → n.taken + n.stale + n.early + n.bad ≡ length frames
  heard-count frames old new n some =
      let all : frames_counted (counts_of some.answers) ≡ frames_counted no_frames + length some.answers = counted-after no_frames some.answers in
      let same : frames_counted n ≡ frames_counted (counts_of some.answers) = ap frames_counted some.counted in
      omega (arith, all, same, some.all)

  -- So many frames of a list were heard, and one more.
  pub heard-next : (frames : List Frame) (i : ℕ) (f : Frame) (old mid new : Follower D disk) (n m : FrameCounts) (a : Heard) → i < length frames → f ≡ get_or frames i f → HeardAll (take i frames) old mid n → IsHearing mid new f (Ok a) → ((h : List Entry) → IsFollowerOf h mid → HasHeard h mid new f a) → m ≡ count_frame n a → HeardAll (take (i + 1) frames) old new m
  heard-next frames i f old mid new n m a low at some did heard counts =
      subst (λ (l : List Frame). HeardAll l old new m) (sym (take_more frames i f low ∙ ap (λ (x : Frame). take i frames ++ x ∷ []) (sym at)))
      (subst (λ (k : FrameCounts). HeardAll (take i frames ++ f ∷ []) old new k) (sym counts) (heard-push (take i frames) old mid new n f a some did heard))

  -- All frames were heard.
  pub heard-all : (frames : List Frame) (i : ℕ) (old new : Follower D disk) (n : FrameCounts) → length frames ≤ i → HeardAll (take i frames) old new n → HeardEach frames old new (Ok n)
  heard-all frames i old new n whole some = record {
    answers = some.answers;
    items = some.items;
    counted = (some.all ∙ ap (length {A = Frame}) (take_all i frames whole), some.counted);
    trace = some.trace;
    engine = some.engine;
    halted = some.runs;
    heard = λ h of. record {
      heard = hears-first h (history_of h some.items) frames (take i frames) [] some.answers (sym (take_all i frames whole) ∙ sym (append-nil (take i frames))) some.all (some.heard h of);
      unstepped = some.unstepped h of;
      failed = subst (λ (o : Option Entry). FailsInNext frames some.answers (history_of h some.items) o) (sym (none_in some.items some.runs)) tt;
      full = λ need room is_full. absurd (cc);
      sealed = λ is_sealed. absurd (cc);
    };
  }

  -- ---- frames that are not answered

  module _ (frames front rest : List Frame) (old mid new : Follower D disk) (n : FrameCounts) (f : Frame) (is : frames ≡ front ++ f ∷ rest) (some : HeardAll front old mid n) where
    at_place : slice_get frames (length some.answers) ≡ Some f
    at_place =
        ap (λ (l : List Frame). slice_get l (length some.answers)) is
        ∙ ap (λ (k : ℕ). slice_get (front ++ f ∷ rest) k) some.all
        ∙ at-seam front rest f

    first_of : (h : List Entry) → IsFollowerOf h old → HearsFirst h frames some.answers (history_of h some.items)
    first_of h of = hears-first h (history_of h some.items) frames front (f ∷ rest) some.answers is some.all (some.heard h of)

    next_of : (h : List Entry) (e : Entry) → Brings h f e → (allowed : Allowed h e) → BringsNext frames some.answers h e
    next_of h e brings allowed = record { frame = f; at = at_place; brings = brings; allowed = allowed }

    -- Nothing was done with the frame.
    unanswered : (fault : StepFault) → is_device_fault (Err fault) ≡ false → engine_of new ≡ engine_of mid → ((h : List Entry) → IsFollowerOf h old → (need room : ℕ) → ◌≡◌ {A = Result FrameCounts StepFault} (Err fault) (Err (DeviceFull need room)) → IsFullForNext frames some.answers (start_with h (engine_of old)) (history_of h some.items) need room) → ((h : List Entry) → IsFollowerOf h old → ◌≡◌ {A = Result FrameCounts StepFault} (Err fault) (Err Sealed) → MeetsSeal frames some.answers (start_with h (engine_of old)) (history_of h some.items)) → HeardEach frames old new (Err fault)
    unanswered fault calm same is_full meets = record {
      answers = some.answers;
      items = some.items;
      counted = tt;
      trace = some.trace;
      engine = same ∙ some.engine;
      halted = some.runs ∙ sym calm;
      heard = λ h of. record {
        heard = first_of h of;
        unstepped = some.unstepped h of;
        failed = subst (λ (o : Option Entry). FailsInNext frames some.answers (history_of h some.items) o) (sym (none_in some.items some.runs)) tt;
        full = is_full h of;
        sealed = meets h of;
      };
    }

    -- The entry of the frame needs more room than there is.
    full_for : (need left : ℕ) → ((h : List Entry) → IsFollowerOf h mid → HearCause h mid new f (DeviceFull need left)) → (h : List Entry) → IsFollowerOf h old → IsFullForNext frames some.answers (start_with h (engine_of old)) (history_of h some.items) need left
    full_for need left cause h of =
        let k : List Entry = history_of h some.items in
        let why = cause k (mid_of front old mid n some h of) in
        let taken : Allowed k why.0 × IsFullFor k (engine_of mid) why.0 need left = why.2 in
        let room : room_of (engine_after (engine_of old) some.items) + needs_after h (entries_in some.items) ≡ room_of (engine_of old) = room_of_list h (engine_of old) some.items of some.trace in
        let same : room_of (engine_of mid) ≡ room_of (engine_after (engine_of old) some.items) = ap (λ (e : Engine D disk). room_of e) some.engine in
        let needs : needs_of k ≡ needs_of h + needs_after h (entries_in some.items) = needs-append h (entries_in some.items) in
        record {
          unsealed = sym (same_seal front old mid n some) ∙ taken.1.unsealed;
          entry = why.0;
          next = next_of k why.0 why.1 taken.0;
          needs = taken.1.needs;
          same_room = omega (arith, taken.1.leaves, room, same, needs);
          less = taken.1.less;
        }

    -- The store is sealed.
    meets_seal : ((h : List Entry) → IsFollowerOf h mid → HearCause h mid new f Sealed) → (h : List Entry) → IsFollowerOf h old → MeetsSeal frames some.answers (start_with h (engine_of old)) (history_of h some.items)
    meets_seal cause h of =
        let why = cause (history_of h some.items) (mid_of front old mid n some h of) in
        record { sealed = sym (same_seal front old mid n some) ∙ why.2.1; frame = f; at = at_place; entry = why.0; brings = why.1 }

    heard-stop : (fault : StepFault) → IsHearing mid new f (Err fault) → ((h : List Entry) → IsFollowerOf h mid → HearCause h mid new f fault) → HeardEach frames old new (Err fault)
    heard-stop (Stopped entries) did cause = unanswered (Stopped entries) refl did (λ h of need room other. absurd (cc)) (λ h of other. absurd (cc))
    heard-stop Sealed did cause = unanswered Sealed refl did (λ h of need room other. absurd (cc)) (λ h of same. meets_seal cause h of)
    heard-stop (Rejected why) did cause = absurd did
    heard-stop Want did cause = unanswered Want refl did (λ h of need room other. absurd (cc)) (λ h of other. absurd (cc))
    heard-stop (DeviceFull need left) did cause =
        unanswered (DeviceFull need left) refl did (λ h of need' room same.
        let needs : need ≡ need' = full_need need need' left room same in
        let leaves : left ≡ room = full_left need need' left room same in
        subst (λ (x : ℕ). IsFullForNext frames some.answers (start_with h (engine_of old)) (history_of h some.items) x room) needs
        (subst (λ (x : ℕ). IsFullForNext frames some.answers (start_with h (engine_of old)) (history_of h some.items) need x) leaves (full_for need left cause h of)))
        (λ h of other. absurd (cc))
    heard-stop DeviceFault did cause =
        let e : Entry = did.0 in
        let step : IsStep (engine_of mid) (engine_of new) e (Err DeviceFault) = did.2 in
        let more : List (Item D disk) = option_to_list (item_by (Err DeviceFault) e (engine_of new)) in record {
          answers = some.answers;
          items = items front old mid new n some e (Err DeviceFault) step;
          counted = tt;
          trace = its_trace front old mid new n some e (Err DeviceFault) step;
          engine = its_engine front old mid new n some e (Err DeviceFault) step;
          halted = halt_append some.items more ∙ ap (λ (b : Bool). b || true) some.runs;
          heard = λ h of.
              let k : List Entry = history_of h some.items in
              let why = cause k (mid_of front old mid n some h of) in
              let same : why.0 ≡ e = entry-once f.bytes why.0 e why.1.spelled did.1 in
              let still : k ≡ history_of h (some.items ++ more) =
              ap (λ (m : List Entry). h ++ m) (sym (entries_append some.items more ∙ append-nil (entries_in some.items))) in
              let failed : failed_in (some.items ++ more) ≡ Some e = failed_append some.items more some.runs in
              let next : BringsNext frames some.answers k e = subst (λ (x : Entry). BringsNext frames some.answers k x) same (next_of k why.0 why.1 why.2.0) in record {
                heard = subst (λ (m : List Entry). HearsFirst h frames some.answers m) still (first_of h of);
                unstepped = some.unstepped h of;
                failed = subst (λ (o : Option Entry). FailsInNext frames some.answers (history_of h (some.items ++ more)) o) (sym failed)
                    (subst (λ (m : List Entry). BringsNext frames some.answers m e) still next);
                full = λ need room other. absurd (cc);
                sealed = λ other. absurd (cc);
              };
        }

  -- So many frames of a list were heard, and the next one is not answered.
  pub heard-fault : (frames : List Frame) (i : ℕ) (f : Frame) (old mid new : Follower D disk) (n : FrameCounts) (fault : StepFault) → i < length frames → f ≡ get_or frames i f → HeardAll (take i frames) old mid n → IsHearing mid new f (Err fault) → ((h : List Entry) → IsFollowerOf h mid → HearCause h mid new f fault) → HeardEach frames old new (Err fault)
  heard-fault frames i f old mid new n fault low at some did cause =
      let split : frames ≡ take i frames ++ f ∷ drop (suc i) frames = split_at frames i f low ∙ ap (λ (x : Frame). take i frames ++ x ∷ drop (suc i) frames) (sym at) in
      heard-stop frames (take i frames) (drop (suc i) frames) old mid new n f split some fault did cause
