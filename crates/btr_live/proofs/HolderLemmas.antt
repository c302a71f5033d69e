-- Lemmas on rejections that name an output: it is a stream of the history, with the same id for ever, and only retirements have such
-- rejections.
use Rattle.std.specs.Prelude.{◌≡◌, ◌⊎◌, ℕ, zero, suc, ◌+◌, ◌^◌, ◌<◌, max, ◌==◌, nat_eq, nat_lt, nat_le, Bool, true, false, not, ◌&&◌, ◌||◌}
use Rattle.std.specs.Prelude.{List, [], ◌∷◌, ◌++◌, length, slice_get, ℤ, Option, Some, None, unwrap_or, Result, Ok, Err}
use Rattle.std.specs.List.{AllByRecursion, list_any}
use Rattle.std.specs.Option.{option_map}
use Rattle.std.proofs.Common.{refl, ap, ◌∙◌, subst, inl, inr, arith}
use Rattle.btr_base.specs.declared.point.Point.{Point}
use Rattle.btr_base.specs.declared.limits.TheConstants.{MAX_STREAMS, MAX_VERSIONS, MAX_POINTS, MAX_COMMIT_POINTS, MAX_COMMIT_RANGES}
use Rattle.btr_base.specs.Commit.{Change}
use Rattle.btr_base.specs.Crowded.{crowded}
use Rattle.btr_hist.specs.declared.entry.Entry.{Entry}
use Rattle.btr_hist.specs.declared.entry.Entry.TheVariants as entries
use Rattle.btr_hist.specs.declared.kernel.Spec.{Spec}
use Rattle.btr_hist.specs.declared.kernel.Reads.{Reads}
use Rattle.btr_hist.specs.declared.rejection.Rejection.{Rejection}
use Rattle.btr_hist.specs.declared.rejection.Rejection.TheVariants as rejections
use Rattle.btr_hist.specs.declared.rejection.Rejection.TheVariants.{Held}
use Rattle.btr_hist.specs.Kernel.{is_good}
use Rattle.btr_hist.specs.History.{ids, kinds, spec_of, is_output, latest, reads, earliest}
use Rattle.btr_hist.specs.Legal.{first_some, when, first_out_of_domain, next_bag, create_rejection, has_inputs, define_rejection, commit_rejection}
use Rattle.btr_hist.specs.Legal.{takes_reads, distillate_rejection, change_rejection, distillate_change_rejection, points_rejection}
use Rattle.btr_hist.specs.Legal.{least_read, held_at, held_by, held_from, rejection}
use Rattle.btr_hist.proofs.HistoryLemmas.{ids-append, length-kinds}
use Rattle.btr_text.specs.declared.reply.LineReply.TheVariants.{No}
use Rattle.btr_text.specs.declared.reply.Reason.TheVariants as reasons
use Rattle.btr_streams.specs.declared.board.Receipt.{Receipt}
use Rattle.btr_engine.specs.declared.step.StepFault.{StepFault}
use Rattle.btr_engine.specs.declared.step.StepFault.TheVariants as steps
use Rattle.btr_gate.specs.Prefixes.{StartsWith}
use Rattle.btr_jobs.specs.States.{StoreState, LogState}
use Rattle.btr_jobs.specs.Turns.{Committed}
use Rattle.btr_live.specs.Lanes.{reply_of_step}
use Rattle.btr_live.specs.Serving.{holding_output, reply_with}

-- ---- the output is a stream

-- Of several causes the one that there is is the first or one of the others.
first_or_rest : (o : Option Rejection) (os : List (Option Rejection)) (why : Rejection) → first_some (o ∷ os) ≡ Some why → (o ≡ Some why) ⊎ (first_some os ≡ Some why)
first_or_rest None os why is = inr is
first_or_rest (Some r) os why is = inl is

when_held : (late : Bool) (number read output version : ℕ) → when late (Held number read) ≡ Some (Held output version) → output ≡ number
when_held true number read output version is = cc
when_held false number read output version is = absurd (cc)

held_at-names : (first number : ℕ) (o : Option ℕ) (output version : ℕ) → held_at first number o ≡ Some (Held output version) → output ≡ number
held_at-names first number None output version is = absurd (cc)
held_at-names first number (Some read) output version is = when_held _ number read output version is

held_by-names : (h : List Entry) (stream first number : ℕ) (kind : Option Spec) (output version : ℕ) → held_by h stream first number kind ≡ Some (Held output version) → output ≡ number
held_by-names h stream first number None output version is = absurd (cc)
held_by-names h stream first number (Some spec) output version is =
    held_at-names first number (least_read stream spec (reads h number spec (latest h number))) output version is

held_from-names : (h : List Entry) (stream first number : ℕ) (ks : List (Option Spec)) (output version : ℕ) → first_some (held_from h stream first number ks) ≡ Some (Held output version) → output < number + length ks
held_from-names h stream first number [] output version is = absurd (cc)
held_from-names h stream first number (kind ∷ more) output version is =
    elim (first_or_rest (held_by h stream first number kind) (held_from h stream first (number + 1) more) (Held output version) is) [
      | inl here ↦ let same = held_by-names h stream first number kind output version here in omega (arith, same)
      | inr later ↦ let low = held_from-names h stream first (number + 1) more output version later in omega (arith, low)
    ]

-- ---- only retirements have such a rejection

-- The rejection, if there is one, names no output.
abbrev NamesNone : Option Rejection → Type 0
NamesNone None = Unit {0}
NamesNone (Some (Held output version)) = ⊥
NamesNone (Some why) = Unit {0}

none_of : (os : List (Option Rejection)) → AllByRecursion NamesNone os → NamesNone (first_some os)
none_of [] all = tt
none_of (None ∷ os) all = none_of os all.1
none_of (Some r ∷ os) all = all.0

none_when : (b : Bool) (r : Rejection) → NamesNone (Some r) → NamesNone (when b r)
none_when true r none = none
none_when false r none = tt

none_out_of_domain : (o : Option Point) → NamesNone (option_map (λ p. rejections.OutOfDomain p.time) o)
none_out_of_domain None = tt
none_out_of_domain (Some p) = tt

none_crowded : (o : Option ℤ) → NamesNone (option_map (λ start. rejections.Crowded start) o)
none_crowded None = tt
none_crowded (Some start) = tt

none_points : (b : List Point) → NamesNone (points_rejection b)
none_points b =
    none_of (option_map (λ start. rejections.Crowded start) (crowded b) ∷ when (nat_lt MAX_POINTS (length b)) (rejections.TooManyPoints (length b)) ∷ [])
    (none_crowded (crowded b), (none_when (nat_lt MAX_POINTS (length b)) (rejections.TooManyPoints (length b)) tt, tt))

none_change : (c : Change) → NamesNone (change_rejection c)
none_change c =
    let outside = option_map (λ (p : Point). rejections.OutOfDomain p.time) (first_out_of_domain c.added) in
    let empty = length c.cut == 0 && length c.added == 0 in
    let many = nat_lt MAX_COMMIT_RANGES (length c.cut) || nat_lt MAX_COMMIT_POINTS (length c.added) in
    let count = max (length c.cut) (length c.added) in
    none_of (outside ∷ when empty rejections.Empty ∷ when many (rejections.TooMany count) ∷ [])
    (none_out_of_domain (first_out_of_domain c.added), (none_when empty rejections.Empty tt, (none_when many (rejections.TooMany count) tt, tt)))

none_distillate_change : (c : Change) → NamesNone (distillate_change_rejection c)
none_distillate_change c =
    let outside = option_map (λ (p : Point). rejections.OutOfDomain p.time) (first_out_of_domain c.added) in
    let many = nat_lt (2 ^ 34) (length c.cut) in
    none_of (outside ∷ when many (rejections.TooMany (length c.cut)) ∷ [])
    (none_out_of_domain (first_out_of_domain c.added), (none_when many (rejections.TooMany (length c.cut)) tt, tt))

none_create : (h : List Entry) (id : ℕ) → NamesNone (create_rejection h id)
none_create h id =
    let exists = list_any (nat_eq id) (ids h) in
    let full = nat_le MAX_STREAMS (length (ids h)) in
    none_of (when exists rejections.StreamExists ∷ when full rejections.StreamLimit ∷ [])
    (none_when exists rejections.StreamExists tt, (none_when full rejections.StreamLimit tt, tt))

none_define : (h : List Entry) (id : ℕ) (spec : Spec) → NamesNone (define_rejection h id spec)
none_define h id spec =
    let missing = not (has_inputs h spec) in
    let exists = list_any (nat_eq id) (ids h) in
    let full = nat_le MAX_STREAMS (length (ids h)) in
    let bad = not (is_good spec) in
    none_of (when missing rejections.NoStream ∷ when exists rejections.StreamExists ∷ when full rejections.StreamLimit ∷ when bad rejections.BadSpec ∷ [])
    (none_when missing rejections.NoStream tt, (none_when exists rejections.StreamExists tt, (none_when full rejections.StreamLimit tt, (none_when bad rejections.BadSpec tt, tt))))

-- The tests of a commit and of a distillate have the same form.
none_version : (h : List Entry) (stream : ℕ) (c : Change) (unwritable : Bool) (change : Option Rejection) → NamesNone change → NamesNone (first_some (when (nat_le (length (ids h)) stream) rejections.NoStream ∷ when unwritable rejections.NotWritable ∷ change ∷ when (nat_le MAX_VERSIONS (latest h stream)) rejections.VersionLimit ∷ points_rejection (next_bag h stream c) ∷ []))
none_version h stream c unwritable change none =
    let missing = nat_le (length (ids h)) stream in
    let late = nat_le MAX_VERSIONS (latest h stream) in
    let points = points_rejection (next_bag h stream c) in
    none_of (when missing rejections.NoStream ∷ when unwritable rejections.NotWritable ∷ change ∷ when late rejections.VersionLimit ∷ points ∷ [])
    (none_when missing rejections.NoStream tt, (none_when unwritable rejections.NotWritable tt, (none, (none_when late rejections.VersionLimit tt, (none_points (next_bag h stream c), tt)))))

none_commit : (h : List Entry) (stream : ℕ) (c : Change) → NamesNone (commit_rejection h stream c)
none_commit h stream c = none_version h stream c (is_output h stream) (change_rejection c) (none_change c)

none_distillate : (h : List Entry) (stream : ℕ) (c : Change) (new : Reads) → NamesNone (distillate_rejection h stream c new)
none_distillate h stream c new =
    none_version h stream c (not (takes_reads h stream (spec_of h stream) new)) (distillate_change_rejection c) (none_distillate_change c)

-- The entry is no retirement.
abbrev pub IsNoRetirement : Entry → Type 0
IsNoRetirement (entries.Retire stream first) = ⊥
IsNoRetirement e = Unit {0}

no_retirement : (h : List Entry) (e : Entry) → IsNoRetirement e → NamesNone (rejection h e)
no_retirement h (entries.Create id) is = none_create h id
no_retirement h (entries.Define id spec) is = none_define h id spec
no_retirement h (entries.Commit stream cut added) is = none_commit h stream (record { cut = cut; added = added })
no_retirement h (entries.Distillate stream cut added new) is = none_distillate h stream (record { cut = cut; added = added }) new
no_retirement h (entries.Retire stream first) is = absurd is

named : (o : Option Rejection) (output version : ℕ) → NamesNone o → o ≡ Some (Held output version) → ⊥
named o output version none is = subst NamesNone is none

-- Only the rejection of a retirement names an output: of each other entry the reason needs no id.
pub only_retirements : (h : List Entry) (e : Entry) (output version : ℕ) → IsNoRetirement e → rejection h e ≡ Some (Held output version) → ⊥
only_retirements h e output version other is = named (rejection h e) output version (no_retirement h e other) is

-- ---- the id of the output

retire-names : (h : List Entry) (stream first output version : ℕ) → rejection h (entries.Retire stream first) ≡ Some (Held output version) → output < length (ids h)
retire-names h stream first output version is =
    let missing = nat_le (length (ids h)) stream in
    let wrong = nat_le first (earliest h stream) || nat_lt (latest h stream) first in
    let why = rejections.BadFirst first (earliest h stream) (latest h stream) in
    let held = held_from h stream first 0 (kinds h) in
    elim (first_or_rest (when missing rejections.NoStream) (when wrong why ∷ held) (Held output version) is) [
      | inl unknown ↦ absurd (named (when missing rejections.NoStream) output version (none_when missing rejections.NoStream tt) unknown)
      | inr rest ↦ elim (first_or_rest (when wrong why) held (Held output version) rest) [
        | inl bad ↦ absurd (named (when wrong why) output version (none_when wrong why tt) bad)
        | inr names ↦
            let low = held_from-names h stream first 0 (kinds h) output version names in
            let long = length-kinds h in
            omega (arith, low, long)
      ]
    ]

-- The output that a rejection names is a stream.
pub holder-known : (h : List Entry) (e : Entry) (output version : ℕ) → rejection h e ≡ Some (Held output version) → output < length (ids h)
holder-known h (entries.Create id) output version is = absurd (only_retirements h (entries.Create id) output version tt is)
holder-known h (entries.Define id spec) output version is = absurd (only_retirements h (entries.Define id spec) output version tt is)
holder-known h (entries.Commit stream cut added) output version is =
    absurd (only_retirements h (entries.Commit stream cut added) output version tt is)
holder-known h (entries.Distillate stream cut added new) output version is =
    absurd (only_retirements h (entries.Distillate stream cut added new) output version tt is)
holder-known h (entries.Retire stream first) output version is = retire-names h stream first output version is

get-longer : (xs ys : List ℕ) (i : ℕ) → i < length xs → slice_get (xs ++ ys) i ≡ slice_get xs i
get-longer [] ys i low = absurd (omega (arith, low))
get-longer (x ∷ xs) ys zero low = refl
get-longer (x ∷ xs) ys (suc i) low = get-longer xs ys i (omega (arith, low))

-- The id of a stream stays.
pub id-stays : (h late : List Entry) (stream : ℕ) → StartsWith late h → stream < length (ids h) → slice_get (ids late) stream ≡ slice_get (ids h) stream
id-stays h late stream starts known =
    ap (λ (l : List Entry). slice_get (ids l) stream) starts.1
    ∙ ap (λ (l : List ℕ). slice_get l stream) (ids-append h starts.0)
    ∙ get-longer (ids h) (ids starts.0) stream known

-- ---- the reply

-- The reply names the output that holds a version by its id in the history of the turn, if that is its id in a later one.
pub same_reply : (start : StoreState) (log : LogState) (p late : List Entry) (e : Entry) (result : Result Receipt StepFault) (own : List ℕ) (next : List Entry) (id : ℕ) → StartsWith late p → Committed start log p e result own next → ((output : ℕ) → holding_output result ≡ Some output → id ≡ unwrap_or (slice_get (ids late) output) 0) → reply_with id result ≡ reply_of_step p result
same_reply start log p late e (Ok receipt) own next id starts is names = refl
same_reply start log p late e (Err (steps.Stopped count)) own next id starts is names = refl
same_reply start log p late e (Err steps.Sealed) own next id starts is names = refl
same_reply start log p late e (Err steps.Want) own next id starts is names = refl
same_reply start log p late e (Err (steps.DeviceFull need left)) own next id starts is names = refl
same_reply start log p late e (Err steps.DeviceFault) own next id starts is names = refl
same_reply start log p late e (Err (steps.Rejected rejections.NoStream)) own next id starts is names = refl
same_reply start log p late e (Err (steps.Rejected rejections.StreamExists)) own next id starts is names = refl
same_reply start log p late e (Err (steps.Rejected rejections.NotWritable)) own next id starts is names = refl
same_reply start log p late e (Err (steps.Rejected (rejections.OutOfDomain time))) own next id starts is names = refl
same_reply start log p late e (Err (steps.Rejected rejections.Empty)) own next id starts is names = refl
same_reply start log p late e (Err (steps.Rejected (rejections.TooMany count))) own next id starts is names = refl
same_reply start log p late e (Err (steps.Rejected rejections.StreamLimit)) own next id starts is names = refl
same_reply start log p late e (Err (steps.Rejected rejections.VersionLimit)) own next id starts is names = refl
same_reply start log p late e (Err (steps.Rejected rejections.BadSpec)) own next id starts is names = refl
same_reply start log p late e (Err (steps.Rejected (rejections.BadFirst first present last))) own next id starts is names = refl
same_reply start log p late e (Err (steps.Rejected (rejections.Crowded at))) own next id starts is names = refl
same_reply start log p late e (Err (steps.Rejected (rejections.TooManyPoints count))) own next id starts is names = refl
same_reply start log p late e (Err (steps.Rejected (rejections.Held output version))) own next id starts is names =
    let stays = id-stays p late output starts (holder-known p e output version is.0) in
    ap (λ (n : ℕ). No (reasons.Held n version)) (names output refl ∙ ap (λ (o : Option ℕ). unwrap_or o 0) stays)
