-- The roll of a history of which each entry is accepted keeps the table of rolls.
use Rattle.std.specs.Prelude.{◌≡◌, ◌≢◌, ℕ, ◌+◌, ◌-◌, ◌<◌, ◌≤◌, ◌^◌, Bool, true, false, not, ◌&&◌, nat_eq, nat_le, cond, List, [], ◌∷◌, ◌++◌, length, take, drop, map, get_or, slice_get, slice_index_or}
use Rattle.std.specs.Prelude.{Option, Some, None, IfSome, is_some, AllPairs}
use Rattle.std.specs.List.{AllByRecursion, filter_map, cons_option, list_any}
use Rattle.std.specs.Option.{unwrap_or}
use Rattle.std.proofs.Common.{zero, suc, refl, sym, ap, ◌∙◌, arith, subst, inl, inr, length-append}
use Rattle.std.proofs.lemmas.List.{get_or_append_left, get_or_push, get_or_past}
use Rattle.std.proofs.lemmas.List.Quantifiers.{all_pairs_push}
use Rattle.std.proofs.lemmas.List.Folds.{list_any_at}
use Rattle.std.proofs.lemmas.Bool.{cases_lt, cases_eq, eq-eqb, leb-true, leb-false, not-false, and_parts}
use Rattle.std.proofs.lemmas.Option.{slice_get-get_or, slice_get_within, slice_get_past}
use Rattle.btr_base.specs.Commit.{Change}
use Rattle.btr_base.specs.declared.limits.TheConstants.{MAX_STREAMS, MAX_VERSIONS}
use Rattle.btr_base.proofs.ListLemmas.{each-append}
use Rattle.btr_hist.specs.declared.entry.Entry.{Entry}
use Rattle.btr_hist.specs.declared.entry.Entry.TheVariants.{Create, Commit, Define, Distillate, Retire}
use Rattle.btr_hist.specs.declared.kernel.Spec.{Spec}
use Rattle.btr_hist.specs.declared.kernel.Reads.{Reads}
use Rattle.btr_hist.specs.declared.rejection.Rejection.{Rejection}
use Rattle.btr_hist.specs.declared.rejection.Rejection.TheVariants.{NoStream, StreamExists, StreamLimit, BadSpec, NotWritable, VersionLimit}
use Rattle.btr_hist.specs.Kernel.{is_good}
use Rattle.btr_hist.specs.History.{ids, kinds, spec_of, is_output, latest, recorded, read_by, reads, nothing_read, earliest}
use Rattle.btr_hist.specs.Legal.{first_some, when, rejection, change_rejection, points_rejection, next_bag, has_inputs, takes_reads, may_read, may_read_second, Follows}
use Rattle.btr_hist.proofs.HistoryLemmas.{length-kinds, length-recorded, follows-none, follows-push, unknown}
use Rattle.btr_hist.proofs.RejectionLemmas.{when_none}
use Rattle.btr_hist.proofs.RetireLemmas.{follows-past}
use Rattle.btr_hist.proofs.VersionLemmas.{from_end}
use Rattle.btr_hist.proofs.AcceptedLemmas.{distillate_causes, new-defined}
use Rattle.btr_entry.specs.Grammar.{IsSpec, KernelFits, IsSpelled}
use Rattle.btr_entry.specs.Format.{format_of}
use Rattle.btr_roll.specs.declared.roll.RollVersion.{RollVersion}
use Rattle.btr_roll.specs.Roll.{RollStreamValue, has_firsts, kind_format, ReadsFit, VersionFits, StreamFits, versions_count, ReadsSecond}
use Rattle.btr_roll.specs.Roll.{ReadInTurn, reads_of_versions, IsOutputAt, KeepsTableAt, IsRoll}
use Rattle.btr_streams.specs.Past.{entry_numbers, creation_numbers, commit_numbers, stream_numbers}
use Rattle.btr_streams.specs.Stage.{MakesStream, MakesVersion, RetiresVersions, change}
use Rattle.btr_streams.specs.Rolling.{rolled_versions, rolled_stream, rolled_from, roll_of}
use Rattle.btr_streams.proofs.BoardStreamLemmas.{ids-more, kinds-more, commits-still, recorded-still, ids-still, kinds-still, commits-more, recorded-more, commits-other, recorded-other, unknown-recorded}
use Rattle.btr_streams.proofs.BoardStreamLemmas.{ids-kept, kinds-kept, commits-kept, recorded-kept}
use Rattle.btr_streams.proofs.BoardStreamLemmas.{create-makes, define-makes, commit-makes, distillate-makes, retire-retires}
use Rattle.btr_streams.proofs.NumberingLemmas.{numbers-counted}

-- ---- reads in turn

-- A new version of an input may be read after an old one, if each stream has this many versions.
abbrev Next : (ℕ → ℕ) → ℕ → ℕ → ℕ → Type 0
Next count input old new = (old ≤ new) × (new ≤ count input)

-- The same of a second input, if there is one.
abbrev NextSecond : (ℕ → ℕ) → Option ℕ → Option ℕ → Option ℕ → Type 0
NextSecond count None None None = Unit {0}
NextSecond count (Some input) (Some old) (Some new) = Next count input old new
NextSecond count input old new = ⊥

-- A version of an output may have read the new versions, if the version before it has read the old ones.
record MayNext (count : ℕ → ℕ) (spec : Spec) (old new : Reads) : Type 0 where
  pub first : Next count spec.first old.first new.first
  pub second : NextSecond count spec.second old.second new.second

-- Each version of an output has read some versions, and each may be read after those before it, the first after the old ones.
abbrev InTurn : (ℕ → ℕ) → Spec → Reads → List (Option Reads) → Type 0
InTurn count spec old [] = Unit {0}
InTurn count spec old (None ∷ more) = ⊥
InTurn count spec old (Some new ∷ more) = MayNext count spec old new × InTurn count spec new more

-- What the versions of a stream have read: those of an output in turn, and those of a plain stream nothing.
abbrev Turn : (ℕ → ℕ) → Option Spec → List (Option Reads) → Type 0
Turn count None rs = AllByRecursion (λ (o : Option Reads). o ≡ None) rs
Turn count (Some spec) rs = InTurn count spec (nothing_read spec) rs

-- What may be read may be read if there are more versions.
module _ (count more : ℕ → ℕ) (grows : (s : ℕ) → count s ≤ more s) where
  next-second-more : (input old new : Option ℕ) → NextSecond count input old new → NextSecond more input old new
  next-second-more None None None next = tt
  next-second-more None None (Some n) next = absurd next
  next-second-more None (Some o) new next = absurd next
  next-second-more (Some s) None new next = absurd next
  next-second-more (Some s) (Some o) None next = absurd next
  next-second-more (Some s) (Some o) (Some n) next =
      let low = next.1 in
      (next.0, omega (arith, grows s))

  may-next-more : (spec : Spec) (old new : Reads) → MayNext count spec old new → MayNext more spec old new
  may-next-more spec old new next =
      let low = next.first.1 in
      record { first = (next.first.0, omega (arith, grows spec.first)); second = next-second-more spec.second old.second new.second next.second }

  in-turn-more : (spec : Spec) (old : Reads) (rs : List (Option Reads)) → InTurn count spec old rs → InTurn more spec old rs
  in-turn-more spec old [] turn = tt
  in-turn-more spec old (None ∷ rs) turn = absurd turn
  in-turn-more spec old (Some r ∷ rs) turn = (may-next-more spec old r turn.0, in-turn-more spec r rs turn.1)

  turn-more : (o : Option Spec) (rs : List (Option Reads)) → Turn count o rs → Turn more o rs
  turn-more None rs turn = turn
  turn-more (Some spec) rs turn = in-turn-more spec (nothing_read spec) rs turn

-- One read more may follow the last.
in-turn-push : (count : ℕ → ℕ) (spec : Spec) (d : Reads) (o : Option Reads) (rs : List (Option Reads)) (new : Reads) → InTurn count spec (unwrap_or o d) rs → MayNext count spec (unwrap_or (slice_index_or (o ∷ rs) (length rs) None) d) new → InTurn count spec (unwrap_or o d) (rs ++ Some new ∷ [])
in-turn-push count spec d o [] new turn next = (next, tt)
in-turn-push count spec d o (None ∷ rs) new turn next = absurd turn
in-turn-push count spec d o (Some r ∷ rs) new turn next = (turn.0, in-turn-push count spec d (Some r) rs new turn.1 next)

-- What an accepted distillate reads.
may-second : (h : List Entry) (input old new : Option ℕ) → may_read_second h input old new ≡ true → NextSecond (latest h) input old new
may-second h None None None may = tt
may-second h None None (Some n) may = absurd (cc)
may-second h None (Some o) None may = absurd (cc)
may-second h None (Some o) (Some n) may = absurd (cc)
may-second h (Some s) None None may = absurd (cc)
may-second h (Some s) None (Some n) may = absurd (cc)
may-second h (Some s) (Some o) None may = absurd (cc)
may-second h (Some s) (Some o) (Some n) may =
    let both = and_parts (nat_le o n) (nat_le n (latest h s)) may in
    (leb-true o n both.0, leb-true n (latest h s) both.1)

may-next : (h : List Entry) (spec : Spec) (old new : Reads) → may_read h spec old new ≡ true → MayNext (latest h) spec old new
may-next h spec old new may =
    let second = may_read_second h spec.second old.second new.second in
    let first = and_parts (nat_le old.first new.first) (nat_le new.first (latest h spec.first) && second) may in
    let rest = and_parts (nat_le new.first (latest h spec.first)) second first.1 in
    record {
      first = (leb-true old.first new.first first.0, leb-true new.first (latest h spec.first) rest.0);
      second = may-second h spec.second old.second new.second rest.1;
    }

-- ---- what a history keeps

-- The spec of an output at a place: its kernel has a spelling, it is good, and its inputs are streams before it.
record IsSpecAt (place : ℕ) (spec : Spec) : Type 0 where
  pub kernel : KernelFits spec.kernel
  pub good : is_good spec ≡ true
  pub first : spec.first < place
  pub second : IfSome spec.second (λ input. input < place)

-- What each history keeps of which each entry is accepted and has a spelling: it has not too many streams, with ids that differ and fit, and
-- each stream has not too many versions, a spec that an output at its place can have, and versions that have read in turn.
record Keeps (h : List Entry) : Type 0 where
  pub follows : Follows h
  pub few : length (ids h) ≤ MAX_STREAMS
  pub differ : AllPairs (λ a b. a ≢ b) (ids h)
  pub fit : AllByRecursion (λ id. id < 2 ^ 128) (ids h)
  pub short : (s : ℕ) → latest h s ≤ MAX_VERSIONS
  pub specs : (s : ℕ) → IfSome (spec_of h s) (IsSpecAt s)
  pub turn : (s : ℕ) → Turn (latest h) (spec_of h s) (recorded h s)

keeps-none : Keeps []
keeps-none = record {
  follows = follows-none;
  few = omega arith;
  differ = λ i j d lt within. absurd (omega arith);
  fit = tt;
  short = λ s. omega arith;
  specs = λ s. tt;
  turn = λ s. tt;
}

-- A new id differs from those before it.
fresh-differs : (xs : List ℕ) (id : ℕ) → list_any (nat_eq id) xs ≡ false → (k : ℕ) (d : ℕ) → k < length xs → get_or xs k d ≢ id
fresh-differs xs id fresh k d low same =
    let found : list_any (nat_eq id) xs ≡ true = list_any_at (nat_eq id) xs k d low (eq-eqb id (get_or xs k d) (sym same)) in
    absurd (cc)

module _ (h : List Entry) (was : Keeps h) (e : Entry) (accepted : rejection h e ≡ None) where
  -- One stream more.
  keeps-stream : (id : ℕ) (spec : Option Spec) → MakesStream e id spec → length (ids h) < MAX_STREAMS → list_any (nat_eq id) (ids h) ≡ false → id < 2 ^ 128 → IfSome spec (IsSpecAt (length (ids h))) → Keeps (h ++ e ∷ [])
  keeps-stream id spec makes room fresh fits at =
      let g = h ++ e ∷ [] in
      let ids_are = ids-more h e id spec makes in
      let kinds_are = kinds-more h e id spec makes in
      let same : (s : ℕ) → latest g s ≡ latest h s = λ s. ap (length {A = Change}) (commits-still h e id spec makes s) in
      let size : length (ids g) ≡ length (ids h) + 1 = ap (length {A = ℕ}) ids_are ∙ length-append (ids h) (id ∷ []) in
      let grows : (s : ℕ) → latest h s ≤ latest g s = λ s. omega (arith, same s) in
      let old : (s : ℕ) → s < length (ids h) → spec_of g s ≡ spec_of h s = λ s low. ap (λ l. slice_index_or l s None) kinds_are ∙ get_or_append_left (kinds h) (spec ∷ []) None s (omega (arith, length-kinds h)) in
      let new : (s : ℕ) → s ≡ length (ids h) → spec_of g s ≡ spec = λ s end. ap (λ l. slice_index_or l s None) kinds_are ∙ get_or_push (kinds h) spec None s (omega (arith, length-kinds h)) in
      let past : (s : ℕ) → length (ids g) ≤ s → spec_of g s ≡ None = λ s far. get_or_past (kinds g) s None (omega (arith, length-kinds g)) in
      let unread : (s : ℕ) → length (ids h) ≤ s → recorded g s ≡ [] = λ s far. recorded-still h e id spec makes s ∙ unknown-recorded h s was.follows far in
      record {
        follows = follows-push h e was.follows accepted;
        few = omega (arith, size);
        differ = subst (AllPairs (λ a b. a ≢ b)) (sym ids_are) (all_pairs_push (λ a b. a ≢ b) (ids h) id was.differ (fresh-differs (ids h) id fresh));
        fit = subst (AllByRecursion (λ n. n < 2 ^ 128)) (sym ids_are) (each-append (λ n. n < 2 ^ 128) (ids h) (id ∷ []) was.fit (fits, tt));
        short = λ s. let low = was.short s in omega (arith, same s);
        specs = λ s. elim (cases_lt s (length (ids h))) [
          | inl low ↦ subst (λ o. IfSome o (IsSpecAt s)) (sym (old s low)) (was.specs s)
          | inr high ↦ elim (cases_eq s (length (ids h))) [
            | inl end ↦ subst (λ o. IfSome o (IsSpecAt s)) (sym (new s end)) (subst (λ (n : ℕ). IfSome spec (IsSpecAt n)) (sym end) at)
            | inr beyond ↦ subst (λ o. IfSome o (IsSpecAt s)) (sym (past s (omega (arith, size)))) tt
          ]
        ];
        turn = λ s. elim (cases_lt s (length (ids h))) [
          | inl low ↦
              let now = turn-more (latest h) (latest g) grows (spec_of h s) (recorded h s) (was.turn s) in
              subst (λ o. Turn (latest g) o (recorded g s)) (sym (old s low)) (subst (Turn (latest g) (spec_of h s)) (sym (recorded-still h e id spec makes s)) now)
          | inr high ↦ subst (Turn (latest g) (spec_of g s)) (sym (unread s high)) (turn-none (latest g) (spec_of g s))
        ];
      }
    where
      turn-none : (count : ℕ → ℕ) (o : Option Spec) → Turn count o []
      turn-none count None = tt
      turn-none count (Some x) = tt

  -- One version more of one stream.
  keeps-version : (s : ℕ) (c : Change) (read : Option Reads) → MakesVersion e s c read → latest h s < MAX_VERSIONS → Turn (latest h) (spec_of h s) (recorded h s ++ read ∷ []) → Keeps (h ++ e ∷ [])
  keeps-version s c read makes room next =
      let g = h ++ e ∷ [] in
      let ids_are = ids-still h e s c read makes in
      let kinds_are = kinds-still h e s c read makes in
      let one : latest g s ≡ latest h s + 1 = ap (length {A = Change}) (commits-more h e s c read makes) ∙ length-append _ (c ∷ []) in
      let other : (i : ℕ) → (s ≡ i → ⊥) → latest g i ≡ latest h i = λ i ne. ap (length {A = Change}) (commits-other h e s c read makes i ne) in
      let grows : (i : ℕ) → latest h i ≤ latest g i = λ i. elim (cases_eq s i) [
        | inl is ↦ let here : latest g i ≡ latest h i + 1 = subst (λ n. latest g n ≡ latest h n + 1) is one in omega arith
        | inr ne ↦ omega (arith, other i ne)
      ] in
      let defined : (i : ℕ) → spec_of g i ≡ spec_of h i = λ i. ap (λ l. slice_index_or l i None) kinds_are in
      record {
        follows = follows-push h e was.follows accepted;
        few = let low = was.few in omega (arith, ap (length {A = ℕ}) ids_are);
        differ = subst (AllPairs (λ a b. a ≢ b)) (sym ids_are) was.differ;
        fit = subst (AllByRecursion (λ n. n < 2 ^ 128)) (sym ids_are) was.fit;
        short = λ i. elim (cases_eq s i) [
          | inl is ↦ subst (λ (n : ℕ). latest g n ≤ MAX_VERSIONS) is (omega (arith, one))
          | inr ne ↦ let low = was.short i in omega (arith, other i ne)
        ];
        specs = λ i. subst (λ o. IfSome o (IsSpecAt i)) (sym (defined i)) (was.specs i);
        turn = λ i. subst (λ o. Turn (latest g) o (recorded g i)) (sym (defined i)) (elim (cases_eq s i) [
          | inl is ↦
              let now = turn-more (latest h) (latest g) grows (spec_of h s) (recorded h s ++ read ∷ []) next in
              subst (λ (n : ℕ). Turn (latest g) (spec_of h n) (recorded g n)) is (subst (Turn (latest g) (spec_of h s)) (sym (recorded-more h e s c read makes)) now)
          | inr ne ↦
              let now = turn-more (latest h) (latest g) grows (spec_of h i) (recorded h i) (was.turn i) in
              subst (Turn (latest g) (spec_of h i)) (sym (recorded-other h e s c read makes i ne)) now
        ]);
      }

  -- Versions that are retired: all else as before.
  keeps-retired : (s first : ℕ) → RetiresVersions e s first → Keeps (h ++ e ∷ [])
  keeps-retired s first retires =
      let g = h ++ e ∷ [] in
      let ids_are = ids-kept h e s first retires in
      let same : (i : ℕ) → latest g i ≡ latest h i = λ i. ap (length {A = Change}) (commits-kept h e s first retires i) in
      let grows : (i : ℕ) → latest h i ≤ latest g i = λ i. omega (arith, same i) in
      let defined : (i : ℕ) → spec_of g i ≡ spec_of h i = λ i. ap (λ l. slice_index_or l i None) (kinds-kept h e s first retires) in
      record {
        follows = follows-push h e was.follows accepted;
        few = let low = was.few in omega (arith, ap (length {A = ℕ}) ids_are);
        differ = subst (AllPairs (λ a b. a ≢ b)) (sym ids_are) was.differ;
        fit = subst (AllByRecursion (λ n. n < 2 ^ 128)) (sym ids_are) was.fit;
        short = λ i. let low = was.short i in omega (arith, same i);
        specs = λ i. subst (λ o. IfSome o (IsSpecAt i)) (sym (defined i)) (was.specs i);
        turn = λ i.
            let now = turn-more (latest h) (latest g) grows (spec_of h i) (recorded h i) (was.turn i) in
            subst (λ o. Turn (latest g) o (recorded g i)) (sym (defined i)) (subst (Turn (latest g) (spec_of h i)) (sym (recorded-kept h e s first retires i)) now);
      }

-- ---- each entry

-- A plain stream has read nothing with one version more of a user's.
turn-plain : (count : ℕ → ℕ) (o : Option Spec) (rs : List (Option Reads)) → is_some o ≡ false → Turn count o rs → Turn count o (rs ++ None ∷ [])
turn-plain count None rs plain turn = each-append (λ (o : Option Reads). o ≡ None) rs (None ∷ []) turn (refl, tt)
turn-plain count (Some spec) rs plain turn = absurd (cc)

-- An output has read in turn with one distillate more.
turn-output : (h : List Entry) (s : ℕ) (o : Option Spec) (new : Reads) → takes_reads h s o new ≡ true → Turn (latest h) o (recorded h s) → Turn (latest h) o (recorded h s ++ Some new ∷ [])
turn-output h s None new takes turn = absurd (cc)
turn-output h s (Some spec) new takes turn =
    let last : latest h s ≡ length (recorded h s) = sym (length-recorded h s) in
    let next : MayNext (latest h) spec (unwrap_or (slice_index_or (None ∷ recorded h s) (length (recorded h s)) None) (nothing_read spec)) new =
    may-next h spec _ new (subst (λ (n : ℕ). may_read h spec (reads h s spec n) new ≡ true) last takes) in
    in-turn-push (latest h) spec (nothing_read spec) None (recorded h s) new turn next

-- What holds of each value holds of the one that there is.
if-some : (o : Option ℕ) (n : ℕ) → ((s : ℕ) → o ≡ Some s → s < n) → IfSome o (λ input. input < n)
if-some None n low = tt
if-some (Some s) n low = low s refl

-- If an entry is accepted, it is rejected for none of the causes.
no-cause : (os : List (Option Rejection)) → first_some os ≡ None → AllByRecursion (λ o. o ≡ None) os
no-cause [] accepted = tt
no-cause (None ∷ os) accepted = (refl, no-cause os accepted)
no-cause (Some why ∷ os) accepted = absurd (cc)

-- The causes for which an entry of a kind is rejected, in their order.
abbrev create_causes : List Entry → ℕ → List (Option Rejection)
create_causes h id =
    when (list_any (nat_eq id) (ids h)) StreamExists
    ∷ when (nat_le MAX_STREAMS (length (ids h))) StreamLimit
    ∷ []

abbrev define_causes : List Entry → ℕ → Spec → List (Option Rejection)
define_causes h id spec =
    when (not (has_inputs h spec)) NoStream
    ∷ when (list_any (nat_eq id) (ids h)) StreamExists
    ∷ when (nat_le MAX_STREAMS (length (ids h))) StreamLimit
    ∷ when (not (is_good spec)) BadSpec
    ∷ []

abbrev pub commit_causes : List Entry → ℕ → Change → List (Option Rejection)
commit_causes h s c =
    when (nat_le (length (ids h)) s) NoStream
    ∷ when (is_output h s) NotWritable
    ∷ change_rejection c
    ∷ when (nat_le MAX_VERSIONS (latest h s)) VersionLimit
    ∷ points_rejection (next_bag h s c)
    ∷ []

-- A history with an accepted entry more.
keeps-push : (h : List Entry) → Keeps h → (e : Entry) → IsSpelled e → rejection h e ≡ None → Keeps (h ++ e ∷ [])
keeps-push h was (Create id) spelled accepted =
    let none = no-cause (create_causes h id) accepted in
    let fresh = when_none (list_any (nat_eq id) (ids h)) StreamExists none.0 in
    let room = leb-false MAX_STREAMS (length (ids h)) (when_none (nat_le MAX_STREAMS (length (ids h))) StreamLimit none.1.0) in
    keeps-stream h was (Create id) accepted id None (create-makes id) room fresh spelled tt
keeps-push h was (Define id spec) spelled accepted =
    let none = no-cause (define_causes h id spec) accepted in
    let fresh = when_none (list_any (nat_eq id) (ids h)) StreamExists none.1.0 in
    let room = leb-false MAX_STREAMS (length (ids h)) (when_none (nat_le MAX_STREAMS (length (ids h))) StreamLimit none.1.1.0) in
    let defined = new-defined h (Define id spec) spec accepted refl in
    let at : IsSpecAt (length (ids h)) spec = record {
      kernel = spelled.is_spec.kernel_fits;
      good = defined.good;
      first = defined.first;
      second = if-some spec.second (length (ids h)) defined.second;
    } in
    keeps-stream h was (Define id spec) accepted id (Some spec) (define-makes id spec) room fresh spelled.id_fits at
keeps-push h was (Commit s cut added) spelled accepted =
    let none = no-cause (commit_causes h s (change cut added)) accepted in
    let plain = when_none (is_output h s) NotWritable none.1.0 in
    let room = leb-false MAX_VERSIONS (latest h s) (when_none (nat_le MAX_VERSIONS (latest h s)) VersionLimit none.1.1.1.0) in
    keeps-version h was (Commit s cut added) accepted s (change cut added) None (commit-makes s cut added) room (turn-plain (latest h) (spec_of h s) (recorded h s) plain (was.turn s))
keeps-push h was (Distillate s cut added new) spelled accepted =
    let none = no-cause (distillate_causes h s (change cut added) new) accepted in
    let takes = not-false (takes_reads h s (spec_of h s) new) (when_none (not (takes_reads h s (spec_of h s) new)) NotWritable none.1.0) in
    let room = leb-false MAX_VERSIONS (latest h s) (when_none (nat_le MAX_VERSIONS (latest h s)) VersionLimit none.1.1.1.0) in
    keeps-version h was (Distillate s cut added new) accepted s (change cut added) (Some new) (distillate-makes s cut added new) room (turn-output h s (spec_of h s) new takes (was.turn s))
keeps-push h was (Retire s first) spelled accepted =
    keeps-retired h was (Retire s first) accepted s first (retire-retires s first)

each-at : {X : Type 0} (P : X → Type 0) (xs : List X) (n : ℕ) (x : X) → AllByRecursion P xs → slice_get xs n ≡ Some x → P x
each-at P [] n x all at = absurd (cc)
each-at P (y ∷ ys) zero x all at = let same : y ≡ x = cc in subst P same all.0
each-at P (y ∷ ys) (suc n) x all at = each-at P ys n x all.1 at

-- Each history of which each entry is accepted and has a spelling.
keeps : (h : List Entry) → Follows h → AllByRecursion IsSpelled h → Keeps h
keeps h follows spelled =
    from_end Keeps h keeps-none (λ n e at was. keeps-push (take n h) was e (each-at IsSpelled h n e spelled at) (follows n e at))

-- ---- numbers and roots

-- The numbers of entries are at most the number of all.
numbers-low : (test : Entry → Bool) (n : ℕ) (h : List Entry) (top : ℕ) → n + length h ≤ top → AllByRecursion (λ k. k < top) (entry_numbers test n h)
numbers-low test n [] top low = tt
numbers-low test n (e ∷ h) top low =
    let here : n < top = omega arith in
    let more : List ℕ = entry_numbers test (n + 1) h in
    let rest : AllByRecursion (λ k. k < top) more = numbers-low test (n + 1) h top (omega arith) in
    elim (test e) as (λ t. AllByRecursion (λ k. k < top) (cond t (n ∷ more) more)) [
      | true ↦ (here, rest)
      | false ↦ rest
    ]

cons-each : (P : ℕ → Type 0) (xs ys : List ℕ) (i : ℕ) → AllByRecursion P xs → AllByRecursion P ys → AllByRecursion P (cons_option (slice_get xs i) ys)
cons-each P [] ys i all each = each
cons-each P (x ∷ xs) ys zero all each = (all.0, each)
cons-each P (x ∷ xs) ys (suc i) all each = cons-each P xs ys i all.1 each

get-each : (P : ℕ → Type 0) (xs : List ℕ) (i d : ℕ) → P d → AllByRecursion P xs → P (get_or xs i d)
get-each P [] i d none all = none
get-each P (x ∷ xs) zero d none all = all.0
get-each P (x ∷ xs) (suc i) d none all = get-each P xs i d none all.1

drop-each : (P : ℕ → Type 0) (xs : List ℕ) → AllByRecursion P xs → AllByRecursion P (drop 1 xs)
drop-each P [] all = tt
drop-each P (x ∷ xs) all = all.1

stream-numbers-low : (h : List Entry) (s top : ℕ) → length h < top → AllByRecursion (λ k. k < top) (stream_numbers h s)
stream-numbers-low h s top low =
    cons-each (λ k. k < top) (creation_numbers h) (commit_numbers h s) s (numbers-low _ 1 h top (omega arith)) (numbers-low _ 1 h top (omega arith))

-- ---- what the versions have read

spec-fits : (place : ℕ) (o : Option Spec) → place < 2 ^ 32 → IfSome o (IsSpecAt place) → IfSome o IsSpec
spec-fits place None low at = tt
spec-fits place (Some spec) low at =
    let first = at.first in
    record { kernel_fits = at.kernel; first_fits = omega arith; second_fits = second spec.second at.second; good = at.good }
  where
    second : (o : Option ℕ) → IfSome o (λ input. input < place) → IfSome o (λ stream. stream < 2 ^ 32)
    second None less = tt
    second (Some input) less = omega arith

module _ (count : ℕ → ℕ) (short : (s : ℕ) → count s ≤ MAX_VERSIONS) where
  second-version : (input old new : Option ℕ) → NextSecond count input old new → IfSome new (λ version. version ≤ MAX_VERSIONS)
  second-version None None None next = tt
  second-version None None (Some n) next = absurd next
  second-version None (Some o) new next = absurd next
  second-version (Some s) None new next = absurd next
  second-version (Some s) (Some o) None next = absurd next
  second-version (Some s) (Some o) (Some n) next = let low = next.1 in omega (arith, short s)

  turn-versions : (spec : Spec) (old : Reads) (rs : List (Option Reads)) → InTurn count spec old rs → AllByRecursion (ReadsFit true) rs
  turn-versions spec old [] turn = tt
  turn-versions spec old (None ∷ rs) turn = absurd turn
  turn-versions spec old (Some r ∷ rs) turn =
      let low = turn.0.first.1 in
      (record { first = omega (arith, short spec.first); second = second-version spec.second old.second r.second turn.0.second }, turn-versions spec r rs turn.1)

  plain-versions : (rs : List (Option Reads)) → AllByRecursion (λ (o : Option Reads). o ≡ None) rs → AllByRecursion (ReadsFit false) rs
  plain-versions [] none = tt
  plain-versions (o ∷ rs) none = (subst (ReadsFit false) (sym none.0) tt, plain-versions rs none.1)

  reads-fit : (o : Option Spec) (rs : List (Option Reads)) → Turn count o rs → AllByRecursion (ReadsFit (is_some o)) rs
  reads-fit None rs turn = plain-versions rs turn
  reads-fit (Some spec) rs turn = turn-versions spec (nothing_read spec) rs turn

module _ (streams : List RollStreamValue) where
  abbrev counts : ℕ → ℕ
  counts s = versions_count (slice_get streams s)

  second-reads : (input old new : Option ℕ) → NextSecond counts input old new → ReadsSecond streams input old new
  second-reads None None None next = tt
  second-reads None None (Some n) next = absurd next
  second-reads None (Some o) new next = absurd next
  second-reads (Some s) None new next = absurd next
  second-reads (Some s) (Some o) None next = absurd next
  second-reads (Some s) (Some o) (Some n) next = next

  read-in-turn : (spec : Spec) (old : Reads) (rs : List (Option Reads)) → InTurn counts spec old rs → ReadInTurn streams spec old (filter_map (λ o. o) rs)
  read-in-turn spec old [] turn = tt
  read-in-turn spec old (None ∷ rs) turn = absurd turn
  read-in-turn spec old (Some r ∷ rs) turn =
      (record { first = turn.0.first; second = second-reads spec.second old.second r.second turn.0.second }, read-in-turn spec r rs turn.1)

-- What a version has read.
abbrev reads_of : RollVersion → Option Reads
reads_of v = v.reads

pub versions-reads : (vs : List RollVersion) → reads_of_versions vs ≡ filter_map (λ o. o) (map reads_of vs)
versions-reads [] = refl
versions-reads (v ∷ vs) = ap (cons_option v.reads) (versions-reads vs)

versions-fit : (output : Bool) (vs : List RollVersion) → AllByRecursion (λ v. (v.entry < 2 ^ 64) × (v.root < 2 ^ 64)) vs → AllByRecursion (ReadsFit output) (map reads_of vs) → AllByRecursion (VersionFits output) vs
versions-fit output [] numbers reads = tt
versions-fit output (v ∷ vs) numbers reads =
    (record { entry_fits = numbers.0.0; root_fits = numbers.0.1; reads_fit = reads.0 }, versions-fit output vs numbers.1 reads.1)

-- ---- the formats of entries

-- Entries whose extents have the format 1 retire no version.
none-retired : (h : List Entry) (format : ℕ) → AllByRecursion (λ e. format_of e ≤ format) h → has_firsts format ≡ false → (stream : ℕ) → earliest h stream ≡ 0
unfolding format_of
none-retired [] format within without stream = refl
none-retired (Create id ∷ h) format within without stream = none-retired h format within.1 without stream
none-retired (Define id spec ∷ h) format within without stream = none-retired h format within.1 without stream
none-retired (Commit s cut added ∷ h) format within without stream = none-retired h format within.1 without stream
none-retired (Distillate s cut added reads ∷ h) format within without stream = none-retired h format within.1 without stream
none-retired (Retire s first ∷ h) format within without stream =
    let low : format < 2 = leb-false 2 format without in
    absurd (omega (arith, within.0, low))

-- The format of a stream is that of the entry that made it.
kinds-within : (h : List Entry) (format : ℕ) → AllByRecursion (λ e. format_of e ≤ format) h → AllByRecursion (λ o. kind_format o ≤ format) (kinds h)
unfolding format_of
kinds-within [] format within = tt
kinds-within (Create id ∷ h) format within = (within.0, kinds-within h format within.1)
kinds-within (Define id spec ∷ h) format within = (within.0, kinds-within h format within.1)
kinds-within (Commit s cut added ∷ h) format within = kinds-within h format within.1
kinds-within (Distillate s cut added reads ∷ h) format within = kinds-within h format within.1
kinds-within (Retire s first ∷ h) format within = kinds-within h format within.1

get-each-within : {X : Type 0} (P : X → Type 0) (xs : List X) (i : ℕ) (d : X) → i < length xs → AllByRecursion P xs → P (slice_index_or xs i d)
get-each-within P [] i d low all = absurd (omega (arith, low))
get-each-within P (x ∷ xs) zero d low all = all.0
get-each-within P (x ∷ xs) (suc i) d low all = get-each-within P xs i d (omega (arith, low)) all.1

-- ---- the roll of a history

module _ (h : List Entry) (roots : List ℕ) where
  pub roll-length : (n : ℕ) (xs : List ℕ) → length (rolled_from h roots n xs) ≡ length xs
  roll-length n [] = refl
  roll-length n (x ∷ xs) = ap (λ (k : ℕ). suc k) (roll-length (n + 1) xs)

  roll-ids : (n : ℕ) (xs : List ℕ) → map (λ s. s.id) (rolled_from h roots n xs) ≡ xs
  roll-ids n [] = refl
  roll-ids n (x ∷ xs) = ap (λ (l : List ℕ). x ∷ l) (roll-ids (n + 1) xs)

  pub roll-at : (n : ℕ) (xs : List ℕ) (i id : ℕ) → slice_get xs i ≡ Some id → slice_get (rolled_from h roots n xs) i ≡ Some (rolled_stream h roots (n + i) id)
  roll-at n [] i id at = absurd (cc)
  roll-at n (x ∷ xs) zero id at =
      let here : n ≡ n + 0 = omega arith in
      let same : x ≡ id = cc in
      ap (λ (y : ℕ). Some (rolled_stream h roots n y)) same ∙ ap (λ (k : ℕ). Some (rolled_stream h roots k id)) here
  roll-at n (x ∷ xs) (suc i) id at =
      let step : (n + 1) + i ≡ n + suc i = omega arith in
      roll-at (n + 1) xs i id at ∙ ap (λ (k : ℕ). Some (rolled_stream h roots k id)) step

  pub versions-length : (s v : ℕ) (ns : List ℕ) → length (rolled_versions h roots s v ns) ≡ length ns
  versions-length s v [] = refl
  versions-length s v (n ∷ ns) = ap (λ (k : ℕ). suc k) (versions-length s (v + 1) ns)

  -- The versions of a stream from v on, whose records of what they have read are these.
  reads-are : (s v : ℕ) (ns : List ℕ) (rs : List (Option Reads)) → length ns ≡ length rs → ((i : ℕ) → read_by h s (v + i) ≡ slice_index_or rs i None) → map reads_of (rolled_versions h roots s v ns) ≡ rs
  reads-are s v [] [] long each = refl
  reads-are s v [] (r ∷ rs) long each = absurd (omega arith)
  reads-are s v (n ∷ ns) [] long each = absurd (omega arith)
  reads-are s v (n ∷ ns) (r ∷ rs) long each =
      let here : v ≡ v + 0 = omega arith in
      let first : read_by h s v ≡ r = ap (read_by h s) here ∙ each 0 in
      let step : (i : ℕ) → (v + 1) + i ≡ v + suc i = λ i. omega arith in
      let rest = reads-are s (v + 1) ns rs (omega arith) (λ i. ap (read_by h s) (step i) ∙ each (suc i)) in
      λ i. first i ∷ rest i

  numbers-fit : (s v : ℕ) (ns : List ℕ) → AllByRecursion (λ n. n < 2 ^ 64) ns → AllByRecursion (λ r. r < 2 ^ 64) roots → AllByRecursion (λ x. (x.entry < 2 ^ 64) × (x.root < 2 ^ 64)) (rolled_versions h roots s v ns)
  numbers-fit s v [] low fit = tt
  numbers-fit s v (n ∷ ns) low fit =
      let none : 0 < 2 ^ 64 = omega arith in
      ((low.0, get-each (λ r. r < 2 ^ 64) roots (n - 1) 0 none fit), numbers-fit s (v + 1) ns low.1 fit)

  -- A stream has the versions of the history, which have read what the history says.
  pub versions-counted : (s : ℕ) → s < length (ids h) → length (drop 1 (stream_numbers h s)) ≡ latest h s
  versions-counted s low = go (stream_numbers h s) (numbers-counted h s low)
    where
      go : (ns : List ℕ) → length ns ≡ latest h s + 1 → length (drop 1 ns) ≡ latest h s
      go [] long = absurd (omega arith)
      go (n ∷ ns) long = omega arith

  pub stream-reads : (s : ℕ) → s < length (ids h) → map reads_of (rolled_versions h roots s 1 (drop 1 (stream_numbers h s))) ≡ recorded h s
  stream-reads s low =
      let one : (i : ℕ) → 1 + i ≡ suc i = λ i. omega arith in
      reads-are s 1 (drop 1 (stream_numbers h s)) (recorded h s) (versions-counted s low ∙ sym (length-recorded h s)) (λ i. ap (read_by h s) (one i))

  module _ (format : ℕ) (kept : Keeps h) (roots_fit : AllByRecursion (λ r. r < 2 ^ 64) roots) (few : length h < 2 ^ 64) (within : AllByRecursion (λ e. format_of e ≤ format) h) where
    stream-fits : (s id : ℕ) → slice_get (ids h) s ≡ Some id → StreamFits format (rolled_stream h roots s id)
    stream-fits s id at =
        let low : s < length (ids h) = slice_get_within (ids h) s id at in
        let numbers = stream-numbers-low h s (2 ^ 64) few in
        let none : 0 < 2 ^ 64 = omega arith in
        let short = kept.short s in
        let reads_ok = reads-fit (latest h) kept.short (spec_of h s) (recorded h s) (kept.turn s) in
        record {
          id_fits = each-at (λ n. n < 2 ^ 128) (ids h) s id kept.fit at;
          entry_fits = get-each (λ n. n < 2 ^ 64) (stream_numbers h s) 0 0 none numbers;
          spec_fits = let streams = kept.few in spec-fits s (spec_of h s) (omega arith) (kept.specs s);
          kind_fits = get-each-within (λ o. kind_format o ≤ format) (kinds h) s None (omega (arith, low, length-kinds h)) (kinds-within h format within);
          few_versions = omega (arith, versions-length s 1 (drop 1 (stream_numbers h s)), versions-counted s low);
          first_fits = record {
            there = omega (arith, versions-length s 1 (drop 1 (stream_numbers h s)), versions-counted s low, follows-past h s kept.follows);
            none = λ without. none-retired h format within without s;
          };
          versions_fit = versions-fit (is_some (spec_of h s)) _ (numbers-fit s 1 (drop 1 (stream_numbers h s)) (drop-each (λ n. n < 2 ^ 64) (stream_numbers h s) numbers) roots_fit) (subst (AllByRecursion (ReadsFit (is_some (spec_of h s)))) (sym (stream-reads s low)) reads_ok);
        }

    streams-fit : (n : ℕ) (xs : List ℕ) → ((i id : ℕ) → slice_get xs i ≡ Some id → StreamFits format (rolled_stream h roots (n + i) id)) → AllByRecursion (StreamFits format) (rolled_from h roots n xs)
    streams-fit n [] each = tt
    streams-fit n (x ∷ xs) each =
        let here : n + 0 ≡ n = omega arith in
        let step : (i : ℕ) → n + suc i ≡ (n + 1) + i = λ i. omega arith in
        (subst (λ (k : ℕ). StreamFits format (rolled_stream h roots k x)) here (each 0 x refl), streams-fit (n + 1) xs (λ i id at. subst (λ (k : ℕ). StreamFits format (rolled_stream h roots k id)) (step i) (each (suc i) id at)))

    there : (s : ℕ) → s < length (ids h) → slice_get (roll_of h roots) s ≡ Some (rolled_stream h roots s (get_or (ids h) s 0))
    there s low =
        let place : 0 + s ≡ s = omega arith in
        roll-at 0 (ids h) s (get_or (ids h) s 0) (slice_get-get_or (ids h) s 0 low) ∙ ap (λ (k : ℕ). Some (rolled_stream h roots k (get_or (ids h) s 0))) place

    past : (s : ℕ) → length (ids h) ≤ s → slice_get (roll_of h roots) s ≡ None
    past s high = slice_get_past (roll_of h roots) s (omega (arith, roll-length 0 (ids h)))

    -- The roll has as many versions of a stream as the history.
    counts-are : (s : ℕ) → versions_count (slice_get (roll_of h roots) s) ≡ latest h s
    counts-are s = elim (cases_lt s (length (ids h))) [
      | inl low ↦ ap versions_count (there s low) ∙ versions-length s 1 (drop 1 (stream_numbers h s)) ∙ versions-counted s low
      | inr high ↦ ap versions_count (past s high) ∙ sym (unknown h s kept.follows high)
    ]

    output-at : (s : ℕ) (o : Option Spec) → s < length (ids h) → IfSome o (IsSpecAt s) → Turn (latest h) o (recorded h s) → IfSome o (λ spec. IsOutputAt (roll_of h roots) s spec (rolled_versions h roots s 1 (drop 1 (stream_numbers h s))))
    output-at s None low at turn = tt
    output-at s (Some spec) low at turn =
        let streams : List RollStreamValue = roll_of h roots in
        let vs : List RollVersion = rolled_versions h roots s 1 (drop 1 (stream_numbers h s)) in
        let grows : (i : ℕ) → latest h i ≤ counts streams i = λ i. omega (arith, counts-are i) in
        let more = in-turn-more (latest h) (counts streams) grows spec (nothing_read spec) (recorded h s) turn in
        let same : filter_map (λ o. o) (recorded h s) ≡ reads_of_versions vs = ap (filter_map (λ o. o)) (sym (stream-reads s low)) ∙ sym (versions-reads vs) in
        record {
          first_before = at.first;
          second_before = at.second;
          in_turn = subst (ReadInTurn streams spec (nothing_read spec)) same (read-in-turn streams spec (nothing_read spec) (recorded h s) more);
        }

    is-roll : IsRoll format (roll_of h roots)
    is-roll = record {
      fits = record {
        few_streams = let streams = kept.few in omega (arith, roll-length 0 (ids h));
        each_fits = streams-fit 0 (ids h) (λ i id at. let place : i ≡ 0 + i = omega arith in subst (λ (k : ℕ). StreamFits format (rolled_stream h roots k id)) place (stream-fits i id at));
      };
      table = record {
        ids_differ = subst (AllPairs (λ a b. a ≢ b)) (sym (roll-ids 0 (ids h))) kept.differ;
        each_keeps = λ s. elim (cases_lt s (length (ids h))) [
          | inl low ↦ subst (λ (o : Option RollStreamValue). IfSome o (KeepsTableAt (roll_of h roots) s)) (sym (there s low)) (output-at s (spec_of h s) low (kept.specs s) (kept.turn s))
          | inr high ↦ subst (λ (o : Option RollStreamValue). IfSome o (KeepsTableAt (roll_of h roots) s)) (sym (past s high)) tt
        ];
      };
    }

-- The roll of a history of which each entry is accepted and has a spelling keeps the table, if the roots fit in eight bytes, and if the
-- format is at least that of each entry.
pub roll-fits : (h : List Entry) (roots : List ℕ) (format : ℕ) → Follows h → AllByRecursion IsSpelled h → AllByRecursion (λ root. root < 2 ^ 64) roots → length h < 2 ^ 64 → AllByRecursion (λ e. format_of e ≤ format) h → IsRoll format (roll_of h roots)
roll-fits h roots format follows spelled fit few within = is-roll h roots format (keeps h follows spelled) fit few within
