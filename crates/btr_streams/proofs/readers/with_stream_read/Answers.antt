use Rattle.std.proofs.Common.{◌≡◌, sym, ap, ◌∙◌, subst}
use Rattle.std.specs.Prelude.{ℕ, List, IfSome, IfOk, Result, Ok, Err, Option, Some, [], ◌∷◌, ◌++◌, slice_set, slice_index_or}
use Rattle.btr_hist.specs.declared.kernel.Spec.{Spec}
use Rattle.btr_streams.specs.Readers.{AreInputsBelow, AreReaders}
use Rattle.btr_streams.proofs.ReaderLists.{plain-read, one-read, same-read, two-read}
use Rattle.btr_streams.proofs.readers.with_stream_read.Goals as goal

-- A list that has the new stream's empty list at the end.
more : (readers after : List (List ℕ)) (none : List ℕ) → after ≡ readers ++ none ∷ [] → none ≡ [] → after ≡ readers ++ [] ∷ []
more readers after none pushed empty = pushed ∙ ap (λ (l : List ℕ). readers ++ l ∷ []) empty

-- The same with one reader more of the first input.
once : (readers pushed after : List (List ℕ)) (first n : ℕ) → after ≡ slice_set pushed first (slice_index_or pushed first [] ++ n ∷ []) → pushed ≡ readers ++ [] ∷ [] → after ≡ slice_set (readers ++ [] ∷ []) first (slice_index_or (readers ++ [] ∷ []) first [] ++ n ∷ [])
once readers pushed after first n set is =
    set ∙ ap (λ (l : List (List ℕ)). slice_set l first (slice_index_or l first [] ++ n ∷ [])) is

-- The inputs of the output are before it.
inputs : (n count : ℕ) (o : Option Spec) (spec : Spec) → n ≡ count → o ≡ Some spec → IfSome o (AreInputsBelow count) → AreInputsBelow n spec
inputs n count o spec last is below =
    subst (λ (k : ℕ). AreInputsBelow k spec) (sym last) (subst (λ (x : Option Spec). IfSome x (AreInputsBelow count)) is below)

pub returns-in_default : goal.returns-in_default
returns-in_default c kinds was =
    let pushed = more c.args.readers.now c.in_ok-more.more c.empty.result c.in_ok-more.ensures c.empty.ensures in
    subst (λ (o : Option Spec). AreReaders (kinds ++ o ∷ []) c.in_ok-more.more) (sym c.in_default.is) (plain-read c.args.readers.now c.args.number c.requires.number kinds was c.in_ok-more.more pushed)

pub returns-in_default-second : goal.returns-in_default-second
returns-in_default-second c kinds was =
    let spec = c.in-Some.spec in
    let pushed = more c.args.readers.now c.in_ok-more.more c.empty.result c.in_ok-more.ensures c.empty.ensures in
    let first = once c.args.readers.now c.in_ok-more.more c.in_ok-once.once spec.first c.args.number c.in_ok-once.ensures pushed in
    let below = inputs c.args.number _ c.args.spec spec c.requires.number c.in-Some.is c.requires.inputs in
    subst (λ (o : Option Spec). AreReaders (kinds ++ o ∷ []) c.in_ok-once.once) (sym c.in-Some.is) (one-read c.args.readers.now c.args.number c.requires.number kinds was spec below c.in_ok-once.once first c.in_default-second.is)

pub returns-then-second-spec : goal.returns-then-second-spec
returns-then-second-spec c kinds was =
    let spec = c.in-Some.spec in
    let pushed = more c.args.readers.now c.in_ok-more.more c.empty.result c.in_ok-more.ensures c.empty.ensures in
    let first = once c.args.readers.now c.in_ok-more.more c.in_ok-once.once spec.first c.args.number c.in_ok-once.ensures pushed in
    let below = inputs c.args.number _ c.args.spec spec c.requires.number c.in-Some.is c.requires.inputs in
    subst (λ (o : Option Spec). AreReaders (kinds ++ o ∷ []) c.in_ok-once.once) (sym c.in-Some.is) (same-read c.args.readers.now c.args.number c.requires.number kinds was spec below c.in_ok-once.once first c.in-Some-second.second c.in-Some-second.is c.if-second-spec.true)

-- What follows of a value follows of the one that there is.
if-ok : {A E : Type 0} (r : Result A E) (P Q : A → Type 0) → ((x : A) → P x → Q x) → IfOk r P → IfOk r Q
if-ok (Ok x) P Q step is = step x is
if-ok (Err e) P Q step is = tt

pub returns : goal.returns
returns c kinds was =
    let spec = c.in-Some.spec in
    let pushed = more c.args.readers.now c.in_ok-more.more c.empty.result c.in_ok-more.ensures c.empty.ensures in
    let first = once c.args.readers.now c.in_ok-more.more c.in_ok-once.once spec.first c.args.number c.in_ok-once.ensures pushed in
    let below = inputs c.args.number _ c.args.spec spec c.requires.number c.in-Some.is c.requires.inputs in
    if-ok c.with_reader-2.result _ _ (λ after set.
    subst (λ (o : Option Spec). AreReaders (kinds ++ o ∷ []) after) (sym c.in-Some.is) (two-read c.args.readers.now c.args.number c.requires.number kinds was spec below c.in_ok-once.once first c.in-Some-second.second c.in-Some-second.is c.if-second-spec.false after set)) c.with_reader-2.ensures
