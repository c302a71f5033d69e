-- What a shelf has of its history: its streams, and the root of each version.
use Rattle.std.specs.Prelude.{◌≡◌, ℕ, ◌+◌, ◌<◌, ◌≤◌, List, [], ◌∷◌, length, map, drop, cond, nat_eq, slice_get, get_or, Option, Some, None, option_map, Result, Ok, Err, IfOk, IfErr}
use Rattle.std.specs.List.{position_from}
use Rattle.std.specs.Option.{option_and_then}
use Rattle.std.proofs.Common.{zero, suc, refl, sym, ap, ◌∙◌, arith, subst, inl, inr}
use Rattle.std.proofs.lemmas.Option.{same_Some, slice_get_cases, slice_get_within, slice_get-get_or, slice_get-map, get_or_from_slice_get}
use Rattle.std.proofs.lemmas.Bool.{le-leb, lt-leb}
use Rattle.btr_base.specs.Changes.{changes}
use Rattle.btr_base.specs.declared.point.Point.{Point}
use Rattle.btr_node.specs.declared.page.NodePage.{NodePage}
use Rattle.btr_tree.specs.declared.fetch.NodeFault.{NodeFault}
use Rattle.btr_tree.specs.declared.fetch.NodeFault.TheVariants.{Want}
use Rattle.btr_tree.specs.declared.spot.Root.{Root}
use Rattle.btr_tree.specs.History as tree
use Rattle.btr_tree.specs.Nodes.{up_to}
use Rattle.btr_tree.specs.Spots.{StandsIn, AtEachRoot, AtEachPossibleRoot, IsRootAt, IsPossibleRoot, IsHarmlessFault, IsWalkCause}
use Rattle.btr_diff.specs.FetchedRoots.{AtBothRoots, AtBothPossibleRoots, IsCompareCause}
use Rattle.btr_hist.specs.declared.entry.Entry.{Entry}
use Rattle.btr_hist.specs.declared.answer.Answer.{Answer}
use Rattle.btr_hist.specs.declared.answer.Answer.TheVariants.{Found}
use Rattle.btr_hist.specs.declared.answer.Rows.TheVariants.{Ranges}
use Rattle.btr_hist.specs.declared.kernel.Reads.{Reads}
use Rattle.btr_hist.specs.History.{ids, is_output, bag, latest, earliest, spec_of, read_by, recorded}
use Rattle.btr_hist.specs.Answer.{rows_from}
use Rattle.btr_roll.specs.declared.roll.RollVersion.{RollVersion}
use Rattle.btr_roll.specs.Roll.{RollStreamValue}
use Rattle.btr_streams.specs.declared.asking.Wanted.{Wanted}
use Rattle.btr_streams.specs.declared.asking.Wanted.TheVariants as want
use Rattle.btr_streams.specs.Board.{HasVersion, latest_of}
use Rattle.btr_streams.specs.Past.{commits_to, stream_numbers}
use Rattle.btr_streams.specs.Rolling.{rolled_from, rolled_stream}
use Rattle.btr_streams.specs.Wanted.{answer_to}
use Rattle.btr_streams.proofs.BoardTrees.{bag-commits_to, up_to-commits_to}
use Rattle.btr_streams.proofs.RollFits.{roll-length, roll-at, versions-length, versions-counted, stream-reads}
use Rattle.btr_open.specs.Shelf.{ShelfValue, number_at, versions_on, rolled_count, rolled_reads, row_on, root_on, HasRollOf, IsPossibleShelfOf, IsShelfOf, AtEachShelf, AtEachPossibleShelf, IsShelfCause}

-- What holds of each value holds of the one that is returned.
pub ok-along : {T E : Type 0} (P Q : T → Type 0) → ((t : T) → P t → Q t) → (r : Result T E) → IfOk r P → IfOk r Q
ok-along P Q on (Ok t) is = on t is
ok-along P Q on (Err e) is = tt

-- What holds of each refusal holds of the one that is returned.
pub err-along : {T E : Type 0} (P Q : E → Type 0) → ((e : E) → P e → Q e) → (r : Result T E) → IfErr r P → IfErr r Q
err-along P Q on (Ok t) is = tt
err-along P Q on (Err e) is = on e is

-- ---- the streams

module _ (h : List Entry) (shelf : ShelfValue) (of : HasRollOf h shelf) where
  pub roll-size : length shelf.roll ≡ length (ids h)
  roll-size = ap (length {A = RollStreamValue}) of.roll ∙ roll-length h of.roots 0 (ids h)

  module _ (stream : ℕ) (s : RollStreamValue) (at : slice_get shelf.roll stream ≡ Some s) where
    pub known : stream < length (ids h)
    known = omega (arith, slice_get_within shelf.roll stream s at, roll-size)

    pub its : rolled_stream h of.roots stream (get_or (ids h) stream 0) ≡ s
    its =
        let id = get_or (ids h) stream 0 in
        let place : 0 + stream ≡ stream = omega arith in
        let there : slice_get shelf.roll stream ≡ Some (rolled_stream h of.roots stream id) =
        ap (λ (r : List RollStreamValue). slice_get r stream) of.roll ∙ roll-at h of.roots 0 (ids h) stream id (slice_get-get_or (ids h) stream 0 known) ∙ ap (λ (k : ℕ). Some (rolled_stream h of.roots k id)) place in
        same_Some (rolled_stream h of.roots stream id) s (sym there ∙ at)

    -- It has the versions of the history.
    pub versions-are : length s.versions ≡ latest h stream
    versions-are =
        ap (λ (x : RollStreamValue). length x.versions) (sym its) ∙ versions-length h of.roots stream 1 (drop 1 (stream_numbers h stream)) ∙ versions-counted h of.roots stream known

    pub first-is : s.first ≡ earliest h stream
    first-is = ap (λ (x : RollStreamValue). x.first) (sym its)

    pub spec-is : s.spec ≡ spec_of h stream
    spec-is = ap (λ (x : RollStreamValue). x.spec) (sym its)

  -- A version that the shelf has is one of the history.
  pub has-version : (stream version : ℕ) → version < versions_on shelf.roll stream → HasVersion h stream version
  has-version stream version low = go (slice_get shelf.roll stream) refl low
    where
      go : (o : Option RollStreamValue) → slice_get shelf.roll stream ≡ o → version < rolled_count o → HasVersion h stream version
      go None at few = absurd (omega (arith, few))
      go (Some s) at few = (known stream s at, omega (arith, few, versions-are stream s at))

-- A stream that the shelf does not have is none of the history.
pub no-stream : (h : List Entry) (shelf : ShelfValue) → HasRollOf h shelf → (stream : ℕ) → slice_get shelf.roll stream ≡ None → length (ids h) ≤ stream
no-stream h shelf of stream none = elim (slice_get_cases shelf.roll stream).1 [
  | inl there ↦ let both : Some there.0 ≡ None = sym there.2 ∙ none in absurd (cc)
  | inr past ↦ omega (arith, past.0, roll-size h shelf of)
]

pub latest-none : (h : List Entry) (shelf : ShelfValue) → HasRollOf h shelf → (stream : ℕ) → slice_get shelf.roll stream ≡ None → None ≡ latest_of h stream
latest-none h shelf of stream none =
    sym (ap (λ t. cond t None (Some (latest h stream))) (le-leb (length (ids h)) stream (no-stream h shelf of stream none)))

pub latest-some : (h : List Entry) (shelf : ShelfValue) → HasRollOf h shelf → (stream : ℕ) (s : RollStreamValue) → slice_get shelf.roll stream ≡ Some s → Some (length s.versions) ≡ latest_of h stream
latest-some h shelf of stream s at =
    ap (λ (n : ℕ). Some n) (versions-are h shelf of stream s at) ∙ sym (ap (λ t. cond t None (Some (latest h stream))) (lt-leb (length (ids h)) stream (known h shelf of stream s at)))

-- The ids of the streams are those of the history.
ids-from : (h : List Entry) (roots : List ℕ) (n : ℕ) (l : List ℕ) → map (λ (s : RollStreamValue). s.id) (rolled_from h roots n l) ≡ l
ids-from h roots n [] = refl
ids-from h roots n (id ∷ l) = ap (λ (t : List ℕ). id ∷ t) (ids-from h roots (n + 1) l)

pub ids-are : (h : List Entry) (shelf : ShelfValue) → HasRollOf h shelf → map (λ (s : RollStreamValue). s.id) shelf.roll ≡ ids h
ids-are h shelf of = ap (map (λ (s : RollStreamValue). s.id)) of.roll ∙ ids-from h of.roots 0 (ids h)

-- ---- the numbers of ids

-- The numbers of the last streams, from this place on.
abbrev pub HasNumbersFrom : List (ℕ × ℕ) → List RollStreamValue → ℕ → Type 0
HasNumbersFrom numbers roll place = (id : ℕ) → number_at numbers id ≡ position_from (nat_eq id) place (map (λ (s : RollStreamValue). s.id) (drop place roll))

-- The rows of the streams, of which the first has this number.
rows-are : (h : List Entry) (roots : List ℕ) (n : ℕ) (l : List ℕ) → n + length l ≤ length (ids h) → map row_on (rolled_from h roots n l) ≡ rows_from h n l
rows-are h roots n [] few = refl
rows-are h roots n (id ∷ l) few =
    let counted = versions-length h roots n 1 (drop 1 (stream_numbers h n)) ∙ versions-counted h roots n (omega (arith, few)) in
    let rest = rows-are h roots (n + 1) l (omega (arith, few)) in
    λ i. record { id = id; latest = counted i; output = is_output h n } ∷ rest i

pub all-rows : (h : List Entry) (shelf : ShelfValue) → HasRollOf h shelf → map row_on shelf.roll ≡ rows_from h 0 (ids h)
all-rows h shelf of = ap (map row_on) of.roll ∙ rows-are h of.roots 0 (ids h) (omega arith)

-- What a version has read.
pub reads-are : (h : List Entry) (shelf : ShelfValue) → HasRollOf h shelf → (stream version : ℕ) (s : RollStreamValue) → slice_get shelf.roll stream ≡ Some s → version ≤ latest h stream → rolled_reads s version ≡ read_by h stream version
reads-are h shelf of stream zero s at few = refl
reads-are h shelf of stream (suc k) s at few =
    let low = known h shelf of stream s at in
    let all : map (λ (v : RollVersion). v.reads) s.versions ≡ recorded h stream = ap (λ (x : RollStreamValue). map (λ (v : RollVersion). v.reads) x.versions) (sym (its h shelf of stream s at)) ∙ stream-reads h of.roots stream low in
    let d : RollVersion = record { entry = 0; root = 0; reads = None } in
    let v : RollVersion = get_or s.versions k d in
    let is : slice_get s.versions k ≡ Some v = slice_get-get_or s.versions k d (omega (arith, few, versions-are h shelf of stream s at)) in
    let there : slice_get (recorded h stream) k ≡ Some v.reads = ap (λ (l : List (Option Reads)). slice_get l k) (sym all) ∙ slice_get-map (λ (x : RollVersion). x.reads) s.versions k ∙ ap (option_map (λ (x : RollVersion). x.reads)) is in
    ap (option_and_then (λ (x : RollVersion). x.reads)) is ∙ sym (get_or_from_slice_get (recorded h stream) k v.reads None there)

-- ---- the root of a version

module _ (has : ℕ → NodePage → Type 0) (shelf : ShelfValue) (stream version : ℕ) (root : Root) (is_root : root ≡ root_on shelf.roll stream version) (low : version < versions_on shelf.roll stream) where
  -- What holds for each past that the root may have holds for the version of each history that the shelf may have.
  may-at : (P : tree.Past → Type 0) → AtEachPossibleRoot has root P → (h : List Entry) → IsPossibleShelfOf has h shelf → P (commits_to h stream version)
  may-at P each h is =
      subst (λ r. AtEachPossibleRoot has r P) is_root each (commits_to h stream version) (is.may_lead stream version (has-version h shelf is.rolled stream version low))

  -- The same if all pages are there.
  at-history : (P : tree.Past → Type 0) → AtEachRoot has root P → (h : List Entry) → IsShelfOf has h shelf → P (commits_to h stream version)
  at-history P each h is =
      subst (λ r. AtEachRoot has r P) is_root each (commits_to h stream version) (is.lead stream version (has-version h shelf is.may.rolled stream version low))

  -- The answer that is read from the root is that of the version.
  pub answers-at : (wanted : Wanted) (make : Root → List Point → Answer) → ((h : List Entry) → make (root_on shelf.roll stream version) (bag h stream version) ≡ answer_to h wanted) → (r : Result Answer NodeFault) → IfOk r (λ a. AtEachPossibleRoot has root (λ past. a ≡ make root (tree.bag past))) → IfOk r (λ a. AtEachPossibleShelf has shelf (λ h. a ≡ answer_to h wanted))
  answers-at wanted make same r is =
      ok-along (λ a. AtEachPossibleRoot has root (λ past. a ≡ make root (tree.bag past))) (λ a. AtEachPossibleShelf has shelf (λ h. a ≡ answer_to h wanted)) (λ a each h of.
      may-at (λ past. a ≡ make root (tree.bag past)) each h of ∙ ap (λ q. make q (tree.bag (commits_to h stream version))) is_root ∙ ap (make (root_on shelf.roll stream version)) (bag-commits_to h stream version) ∙ same h) r is

  -- A refusal that says nothing against the pages of the root says nothing against those of the shelf.
  pub harmless-at : (r : Result Answer NodeFault) → IfErr r (λ e. AtEachRoot has root (λ past. IsHarmlessFault e)) → IfErr r (λ e. AtEachShelf has shelf (λ h. IsHarmlessFault e))
  harmless-at r is =
      err-along (λ e. AtEachRoot has root (λ past. IsHarmlessFault e)) (λ e. AtEachShelf has shelf (λ h. IsHarmlessFault e)) (λ e each h of. at-history (λ past. IsHarmlessFault e) each h of) r is

-- Why a walk from a root is refused is why there is no answer.
pub cause-at : (observable : Type 0) (has : observable → ℕ → NodePage → Type 0) (shelf : ShelfValue) (stream version : ℕ) (root : Root) (before after : ℕ) → root ≡ root_on shelf.roll stream version → version < versions_on shelf.roll stream → (r : Result Answer NodeFault) → IfErr r (IsWalkCause observable root has before after) → IfErr r (IsShelfCause observable shelf has before after)
cause-at observable has shelf stream version root before after is_root low r is =
    err-along (IsWalkCause observable root has before after) (IsShelfCause observable shelf has before after) (λ e cause. inr (stream, version, low, subst (λ q. IsWalkCause observable q has before after e) is_root cause)) r is

-- ---- the roots of two versions

module _ (has : ℕ → NodePage → Type 0) (shelf : ShelfValue) (stream old new : ℕ) (low : new < versions_on shelf.roll stream) (order : old ≤ new) where
  old-low : old < versions_on shelf.roll stream
  old-low = omega (arith, low, order)

  module _ (older newer : Root) (is_older : older ≡ root_on shelf.roll stream old) (is_newer : newer ≡ root_on shelf.roll stream new) where
    -- What holds for each two pasts that the roots have holds for the two versions, if the roots have those.
    at-both : (Its : Root → tree.Past → Type 0) (P : Root → Root → tree.Past → tree.Past → Type 0) → ((a b : tree.Past) → Its older a → Its newer b → P older newer a b) → (a b : tree.Past) → Its (root_on shelf.roll stream old) a → Its (root_on shelf.roll stream new) b → P (root_on shelf.roll stream old) (root_on shelf.roll stream new) a b
    at-both Its P each =
        subst (λ q. (a b : tree.Past) → Its (root_on shelf.roll stream old) a → Its q b → P (root_on shelf.roll stream old) q a b) is_newer (subst (λ q. (a b : tree.Past) → Its q a → Its newer b → P q newer a b) is_older each)

    -- The answer that is read from the roots is that of the versions.
    pub changes-at : (p : ℕ) (r : Result Answer NodeFault) → IfOk r (λ a. AtBothPossibleRoots has older newer (λ past now. past ≡ up_to older.version now → a ≡ Found newer.version (Ranges (changes p (tree.bag past) (tree.bag now))))) → IfOk r (λ a. AtEachPossibleShelf has shelf (λ h. a ≡ answer_to h (want.Changes stream old new p)))
    changes-at p r is =
        ok-along (λ a. AtBothPossibleRoots has older newer (λ past now. past ≡ up_to older.version now → a ≡ Found newer.version (Ranges (changes p (tree.bag past) (tree.bag now))))) (λ a. AtEachPossibleShelf has shelf (λ h. a ≡ answer_to h (want.Changes stream old new p))) (λ a each h of.
        let there = has-version h shelf of.rolled stream new low in
        let before = has-version h shelf of.rolled stream old old-low in
        let both = sym (up_to-commits_to h stream old new order there.1) in
        at-both (IsPossibleRoot has) (λ q n past now. past ≡ up_to q.version now → a ≡ Found n.version (Ranges (changes p (tree.bag past) (tree.bag now)))) each (commits_to h stream old) (commits_to h stream new) (of.may_lead stream old before) (of.may_lead stream new there) both
        ∙ ap (λ b. Found new (Ranges (changes p b (tree.bag (commits_to h stream new))))) (bag-commits_to h stream old)
        ∙ ap (λ b. Found new (Ranges (changes p (bag h stream old) b))) (bag-commits_to h stream new)) r is

    pub harmless-both : (r : Result Answer NodeFault) → IfErr r (λ e. AtBothRoots has older newer (λ past now. IsHarmlessFault e)) → IfErr r (λ e. AtEachShelf has shelf (λ h. IsHarmlessFault e))
    harmless-both r is =
        err-along (λ e. AtBothRoots has older newer (λ past now. IsHarmlessFault e)) (λ e. AtEachShelf has shelf (λ h. IsHarmlessFault e)) (λ e each h of.
        at-both (IsRootAt (StandsIn has)) (λ q n past now. IsHarmlessFault e) each (commits_to h stream old) (commits_to h stream new) (of.lead stream old (has-version h shelf of.may.rolled stream old old-low)) (of.lead stream new (has-version h shelf of.may.rolled stream new low))) r is

pub cause-both : (observable : Type 0) (has : observable → ℕ → NodePage → Type 0) (shelf : ShelfValue) (stream old new : ℕ) (older newer : Root) (before after : ℕ) → older ≡ root_on shelf.roll stream old → newer ≡ root_on shelf.roll stream new → new < versions_on shelf.roll stream → old ≤ new → (r : Result Answer NodeFault) → IfErr r (IsCompareCause observable older newer has before after) → IfErr r (IsShelfCause observable shelf has before after)
cause-both observable has shelf stream old new older newer before after is_older is_newer low order r is =
    err-along (IsCompareCause observable older newer has before after) (IsShelfCause observable shelf has before after) (λ e cause. elim cause [
      | inl one ↦ inr (stream, old, omega (arith, low, order), subst (λ q. IsWalkCause observable q has before after e) is_older one)
      | inr one ↦ inr (stream, new, low, subst (λ q. IsWalkCause observable q has before after e) is_newer one)
    ]) r is

-- ---- the list of all streams

pub streams-at : (has : ℕ → NodePage → Type 0) (shelf : ShelfValue) (wanted : Wanted) (r : Result Answer NodeFault) → ((h : List Entry) → HasRollOf h shelf → IfOk r (λ a. a ≡ answer_to h wanted)) → IfOk r (λ a. AtEachPossibleShelf has shelf (λ h. a ≡ answer_to h wanted))
streams-at has shelf wanted (Ok a) each = λ h is. each h is.rolled
streams-at has shelf wanted (Err e) each = tt

pub want-harmless : (has : ℕ → NodePage → Type 0) (shelf : ShelfValue) (r : Result Answer NodeFault) → IfErr r (λ e. e ≡ Want) → IfErr r (λ e. AtEachShelf has shelf (λ h. IsHarmlessFault e))
want-harmless has shelf (Ok a) is = tt
want-harmless has shelf (Err e) is = λ h of. subst IsHarmlessFault (sym is) tt

pub want-cause : (observable : Type 0) (has : observable → ℕ → NodePage → Type 0) (shelf : ShelfValue) (before after : ℕ) (r : Result Answer NodeFault) → IfErr r (λ e. e ≡ Want) → IfErr r (IsShelfCause observable shelf has before after)
want-cause observable has shelf before after (Ok a) is = tt
want-cause observable has shelf before after (Err e) is = inl is
