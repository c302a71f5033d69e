-- Lemmas on the bytes of the streams of a roll and of their versions: their length, and that the bytes determine them.
use Rattle.std.proofs.Common.{◌≡◌, ℕ, ◌*◌, ◌<◌, ◌≤◌, ◌^◌, Bool, true, false, List, [], ◌∷◌, ◌++◌, length, Option, Some, None, refl, sym, ap, ◌∙◌, subst, arith, length-append, append_assoc}
use Rattle.std.specs.Prelude.{IfSome, is_some}
use Rattle.std.specs.Int.{w32, w64, w128}
use Rattle.std.specs.List.{flat_map, AllByRecursion}
use Rattle.std.proofs.lemmas.List.{append-nil}
use Rattle.std.proofs.lemmas.List.Concat.{flat_map-cons}
use Rattle.btr_base.specs.declared.limits.TheConstants.{MAX_VERSIONS}
use Rattle.btr_hist.specs.declared.kernel.Spec.{Spec}
use Rattle.btr_roll.specs.declared.roll.RollVersion.{RollVersion}
use Rattle.btr_entry.specs.Grammar.{number, spec_bytes, IsSpec}
use Rattle.btr_roll.specs.Roll.{RollStreamValue, kind_format, some_reads_bytes, version_bytes, kind_bytes, has_firsts, first_bytes, versions_bytes, stream_bytes, roll_bytes, ReadsFit, VersionFits, FirstFits, StreamFits, RollFits}
use Rattle.btr_roll.specs.Items.{AreItems, IsStreamStart}
use Rattle.btr_entry.proofs.NumberLemmas.{number_once, wide32, wide64, wide128}
use Rattle.btr_entry.proofs.FrameLemmas.{heads, tails}
use Rattle.btr_entry.proofs.SpecLemmas.{spec_once, reads_once}

-- The bytes determine an item that fits, and what follows it.
abbrev pub IsOnce : {X : Type 0} → (X → List ℕ) → (X → Type 0) → Type 0
IsOnce {X = X} item Fits = (x y : X) (r s : List ℕ) → Fits x → Fits y → item x ++ r ≡ item y ++ s → (x ≡ y) × (r ≡ s)

-- ---- items of any length, one after another

-- Items that were read are the first of the items that the bytes have. The others follow.
pub record IsPrefix {X : Type 0} (item : X → List ℕ) (Fits : X → Type 0) (xs ys : List X) (r s : List ℕ) : Type 0 where
  pub others : List X
  pub fit : AllByRecursion Fits others
  pub all : ys ≡ xs ++ others
  pub follow : r ≡ flat_map item others ++ s

first_item : {X : Type 0} (item : X → List ℕ) (x : X) (xs : List X) (r : List ℕ) → flat_map item (x ∷ xs) ++ r ≡ item x ++ (flat_map item xs ++ r)
first_item item x xs r = ap (λ (l : List ℕ). l ++ r) (flat_map-cons item x xs) ∙ append_assoc (item x) (flat_map item xs) r

pub prefix_once : {X : Type 0} (item : X → List ℕ) (Fits : X → Type 0) → IsOnce item Fits → (xs ys : List X) (r s : List ℕ) → AllByRecursion Fits xs → AllByRecursion Fits ys → length xs ≤ length ys → flat_map item xs ++ r ≡ flat_map item ys ++ s → IsPrefix item Fits xs ys r s
prefix_once item Fits once [] ys r s h k le same = record { others = ys; fit = k; all = refl; follow = same }
prefix_once item Fits once (x ∷ xs) [] r s h k le same = absurd (omega (arith, le))
prefix_once item Fits once (x ∷ xs) (y ∷ ys) r s h k le same =
    let parts = once x y (flat_map item xs ++ r) (flat_map item ys ++ s) h.0 k.0 (sym (first_item item x xs r) ∙ same ∙ first_item item y ys s) in
    let more = prefix_once item Fits once xs ys r s h.1 k.1 (omega (arith, le)) parts.1 in
    let all = more.all in
    let first : x ≡ y = parts.0 in
    record { others = more.others; fit = more.fit; all = cc; follow = more.follow }

-- As many items that were read are all of the items.
pub all_items_once : {X : Type 0} (item : X → List ℕ) (Fits : X → Type 0) → IsOnce item Fits → (xs ys : List X) (r s : List ℕ) → AllByRecursion Fits xs → AllByRecursion Fits ys → length xs ≡ length ys → flat_map item xs ++ r ≡ flat_map item ys ++ s → (xs ≡ ys) × (r ≡ s)
all_items_once item Fits once [] [] r s h k long same = (refl, same)
all_items_once item Fits once [] (y ∷ ys) r s h k long same = absurd (omega (arith, long))
all_items_once item Fits once (x ∷ xs) [] r s h k long same = absurd (omega (arith, long))
all_items_once item Fits once (x ∷ xs) (y ∷ ys) r s h k long same =
    let parts = once x y (flat_map item xs ++ r) (flat_map item ys ++ s) h.0 k.0 (sym (first_item item x xs r) ∙ same ∙ first_item item y ys s) in
    let more = all_items_once item Fits once xs ys r s h.1 k.1 (omega (arith, long)) parts.1 in
    let first : x ≡ y = parts.0 in
    let others : xs ≡ ys = more.0 in
    (cc, more.1)

next_of : {X : Type 0} (item : X → List ℕ) (Fits : X → Type 0) (xs others : List X) (r s : List ℕ) → length xs < length (xs ++ others) → AllByRecursion Fits others → r ≡ flat_map item others ++ s → (y : X) × (t : List ℕ) × Fits y × (r ≡ item y ++ t)
next_of item Fits xs [] r s less fit follow = absurd (omega (arith, less, length-append xs []))
next_of item Fits xs (y ∷ others) r s less fit follow = (y, flat_map item others ++ s, fit.0, follow ∙ first_item item y others s)

-- If the bytes have more items than were read, another one follows.
pub one_more : {X : Type 0} (item : X → List ℕ) (Fits : X → Type 0) → IsOnce item Fits → (bytes : List ℕ) (count : ℕ) (xs ys : List X) (r s : List ℕ) → AllByRecursion Fits xs → bytes ≡ flat_map item xs ++ r → length xs < count → AreItems item Fits count bytes ys s → ((y : X) (t : List ℕ) → Fits y → r ≡ item y ++ t → ⊥) → ⊥
one_more {X = X} item Fits once bytes count xs ys r s each parts less h none =
    let prefix = prefix_once item Fits once xs ys r s each h.each (omega (arith, h.long, less)) (sym parts ∙ h.parts) in
    let all : length ys ≡ length (xs ++ prefix.others) = ap (length {A = X}) prefix.all in
    let next = next_of item Fits xs prefix.others r s (omega (arith, all, h.long, less)) prefix.fit prefix.follow in
    none next.0 next.1 next.2 next.3

-- The bytes are at least as many as this many items take.
pub items_long : {X : Type 0} (item : X → List ℕ) (least : ℕ) → ((x : X) → least ≤ length (item x)) → (xs : List X) → least * length xs ≤ length (flat_map item xs)
items_long item least long [] = omega arith
items_long item least long (x ∷ xs) =
    omega (arith, ap (length {A = ℕ}) (flat_map-cons item x xs), length-append (item x) (flat_map item xs), long x, items_long item least long xs)

-- ---- versions

-- The bytes determine what a version has read.
pub some_reads_once : (output : Bool) → IsOnce some_reads_bytes (ReadsFit output)
some_reads_once false None None r s h k same = (refl, same)
some_reads_once false None (Some y) r s h k same = elim k [ ]
some_reads_once false (Some x) y r s h k same = elim h [ ]
some_reads_once true None y r s h k same = elim h [ ]
some_reads_once true (Some x) None r s h k same = elim k [ ]
some_reads_once true (Some x) (Some y) r s h k same =
    let once = reads_once x y r s h k same in
    (ap Some once.0, once.1)

pub version_parts : (v : RollVersion) (rest : List ℕ) → version_bytes v ++ rest ≡ number w64 v.entry ++ (number w64 v.root ++ (some_reads_bytes v.reads ++ rest))
version_parts v rest =
    append_assoc (number w64 v.entry) (number w64 v.root ++ some_reads_bytes v.reads) rest ∙ ap (λ (l : List ℕ). number w64 v.entry ++ l) (append_assoc (number w64 v.root) (some_reads_bytes v.reads) rest)

-- After the number of the entry that was read follow the root and the reads.
pub entry_read : (output : Bool) (bytes after : List ℕ) (n : ℕ) (v : RollVersion) (rest : List ℕ) → n < 2 ^ 64 → bytes ≡ number w64 n ++ after → VersionFits output v → bytes ≡ version_bytes v ++ rest → (n ≡ v.entry) × (after ≡ number w64 v.root ++ (some_reads_bytes v.reads ++ rest))
entry_read output bytes after n v rest fits is h same =
    number_once w64 (2 ^ 64) wide64 n v.entry after (number w64 v.root ++ (some_reads_bytes v.reads ++ rest)) fits h.entry_fits (sym is ∙ same ∙ version_parts v rest)

-- After the root that was read follow the reads.
pub root_read : (output : Bool) (bytes after : List ℕ) (n : ℕ) (v : RollVersion) (rest : List ℕ) → n < 2 ^ 64 → bytes ≡ number w64 n ++ after → VersionFits output v → bytes ≡ number w64 v.root ++ (some_reads_bytes v.reads ++ rest) → (n ≡ v.root) × (after ≡ some_reads_bytes v.reads ++ rest)
root_read output bytes after n v rest fits is h same =
    number_once w64 (2 ^ 64) wide64 n v.root after (some_reads_bytes v.reads ++ rest) fits h.root_fits (sym is ∙ same)

pub version_once : (output : Bool) → IsOnce version_bytes (VersionFits output)
version_once output v w r s h k same =
    let entries = entry_read output (version_bytes v ++ r) (number w64 v.root ++ (some_reads_bytes v.reads ++ r)) v.entry w s h.entry_fits (version_parts v r) k same in
    let roots = root_read output (number w64 v.root ++ (some_reads_bytes v.reads ++ r)) (some_reads_bytes v.reads ++ r) v.root w s h.root_fits refl k entries.1 in
    let reads = some_reads_once output v.reads w.reads r s h.reads_fit k.reads_fit roots.1 in
    (λ i. record { entry = entries.0 i; root = roots.0 i; reads = reads.0 i }, reads.1)

pub version_long : (v : RollVersion) → 16 ≤ length (version_bytes v)
version_long v =
    omega (arith, length-append (number w64 v.entry) (number w64 v.root ++ some_reads_bytes v.reads), length-append (number w64 v.root) (some_reads_bytes v.reads), wide64.len v.entry, wide64.len v.root)

-- ---- the start of a stream

pub kind_once : IsOnce kind_bytes (λ o. IfSome o IsSpec)
kind_once None None r s h k same = (refl, tails 0 0 r s same)
kind_once None (Some t) r s h k same = absurd (omega (arith, heads 0 1 r (spec_bytes t ++ s) same))
kind_once (Some t) None r s h k same = absurd (omega (arith, heads 1 0 (spec_bytes t ++ r) s same))
kind_once (Some t) (Some u) r s h k same =
    let once = spec_once t u r s h k (tails 1 1 (spec_bytes t ++ r) (spec_bytes u ++ s) same) in
    (ap Some once.0, once.1)

-- The bytes of a stream after its id, after its entry, and after its kind.
abbrev pub after_stream_kind : ℕ → List ℕ → List ℕ
after_stream_kind count rest = number w64 count ++ rest

abbrev pub after_stream_entry : Option Spec → ℕ → List ℕ → List ℕ
after_stream_entry spec count rest = kind_bytes spec ++ after_stream_kind count rest

abbrev pub after_stream_id : ℕ → Option Spec → ℕ → List ℕ → List ℕ
after_stream_id entry spec count rest = number w64 entry ++ after_stream_entry spec count rest

pub id_read : (bytes after : List ℕ) (n : ℕ) (id entry : ℕ) (spec : Option Spec) (count : ℕ) (rest : List ℕ) → n < 2 ^ 128 → bytes ≡ number w128 n ++ after → IsStreamStart bytes id entry spec count rest → (n ≡ id) × (after ≡ after_stream_id entry spec count rest)
id_read bytes after n id entry spec count rest fits is h =
    number_once w128 (2 ^ 128) wide128 n id after (after_stream_id entry spec count rest) fits h.id_fits (sym is ∙ h.parts)

pub stream_entry_read : (after last : List ℕ) (n : ℕ) (entry : ℕ) (spec : Option Spec) (count : ℕ) (rest : List ℕ) → n < 2 ^ 64 → after ≡ number w64 n ++ last → entry < 2 ^ 64 → after ≡ after_stream_id entry spec count rest → (n ≡ entry) × (last ≡ after_stream_entry spec count rest)
stream_entry_read after last n entry spec count rest fits is entry_fits same =
    number_once w64 (2 ^ 64) wide64 n entry last (after_stream_entry spec count rest) fits entry_fits (sym is ∙ same)

pub kind_read : (after last : List ℕ) (o spec : Option Spec) (count : ℕ) (rest : List ℕ) → IfSome o IsSpec → after ≡ kind_bytes o ++ last → IfSome spec IsSpec → after ≡ after_stream_entry spec count rest → (o ≡ spec) × (last ≡ after_stream_kind count rest)
kind_read after last o spec count rest fits is spec_fits same =
    kind_once o spec last (after_stream_kind count rest) fits spec_fits (sym is ∙ same)

pub count_read : (after last : List ℕ) (n count : ℕ) (rest : List ℕ) → n < 2 ^ 64 → after ≡ number w64 n ++ last → count ≤ MAX_VERSIONS → after ≡ after_stream_kind count rest → (n ≡ count) × (last ≡ rest)
count_read after last n count rest fits is few same =
    number_once w64 (2 ^ 64) wide64 n count last rest fits (omega (arith, few)) (sym is ∙ same)

-- The bytes determine the start of a stream.
pub record IsSameStart (id id' entry entry' : ℕ) (spec spec' : Option Spec) (count count' : ℕ) (rest rest' : List ℕ) : Type 0 where
  pub ids : id ≡ id'
  pub entries : entry ≡ entry'
  pub specs : spec ≡ spec'
  pub counts : count ≡ count'
  pub rests : rest ≡ rest'

pub start_once : (bytes : List ℕ) (id id' entry entry' : ℕ) (spec spec' : Option Spec) (count count' : ℕ) (rest rest' : List ℕ) → IsStreamStart bytes id entry spec count rest → IsStreamStart bytes id' entry' spec' count' rest' → IsSameStart id id' entry entry' spec spec' count count' rest rest'
start_once bytes id id' entry entry' spec spec' count count' rest rest' h k =
    let ids = id_read bytes (after_stream_id entry spec count rest) id id' entry' spec' count' rest' h.id_fits h.parts k in
    let entries = stream_entry_read (after_stream_id entry spec count rest) (after_stream_entry spec count rest) entry entry' spec' count' rest' h.entry_fits refl k.entry_fits ids.1 in
    let kinds = kind_read (after_stream_entry spec count rest) (after_stream_kind count rest) spec spec' count' rest' h.spec_fits refl k.spec_fits entries.1 in
    let counts = count_read (after_stream_kind count rest) rest count count' rest' (omega (arith, h.few)) refl k.few kinds.1 in
    record { ids = ids.0; entries = entries.0; specs = kinds.0; counts = counts.0; rests = counts.1 }

-- ---- the first version that is not retired

-- The bytes determine the first version, if the checkpoint has it. Else it is 0.
pub first_once : (has : Bool) (latest latest' first first' : ℕ) (r s : List ℕ) → latest ≤ MAX_VERSIONS → latest' ≤ MAX_VERSIONS → FirstFits has latest first → FirstFits has latest' first' → first_bytes has first ++ r ≡ first_bytes has first' ++ s → (first ≡ first') × (r ≡ s)
first_once false latest latest' first first' r s few few' h k same = (h.none refl ∙ sym (k.none refl), same)
first_once true latest latest' first first' r s few few' h k same =
    let there = h.there in
    let there' = k.there in
    number_once w64 (2 ^ 64) wide64 first first' r s (omega arith) (omega arith) same

-- The bytes of a first version that the checkpoint has are eight at least.
pub first_long : (has : Bool) (first : ℕ) (bytes rest : List ℕ) → has ≡ true → bytes ≡ first_bytes has first ++ rest → 8 ≤ length bytes
first_long false first bytes rest is same = absurd (cc)
first_long true first bytes rest is same =
    omega (arith, ap (length {A = ℕ}) same, length-append (number w64 first) rest, wide64.len first)

-- The number that was read is the first version that the checkpoint has.
pub first_read : (has : Bool) (n latest first : ℕ) (bytes after rest : List ℕ) → has ≡ true → n < 2 ^ 64 → bytes ≡ number w64 n ++ after → latest ≤ MAX_VERSIONS → FirstFits has latest first → bytes ≡ first_bytes has first ++ rest → n ≤ latest
first_read false n latest first bytes after rest is fits read few h same = absurd (cc)
first_read true n latest first bytes after rest is fits read few h same =
    let there = h.there in
    let once = number_once w64 (2 ^ 64) wide64 n first after rest fits (omega arith) (sym read ∙ same) in
    omega (arith, once.0)

-- ---- streams

abbrev versions_after : RollStreamValue → List ℕ → List ℕ
versions_after s rest = flat_map version_bytes s.versions ++ rest

abbrev first_after : ℕ → RollStreamValue → List ℕ → List ℕ
first_after format s rest = first_bytes (has_firsts format) s.first ++ versions_after s rest

stream_parts : (format : ℕ) (s : RollStreamValue) (rest : List ℕ) → stream_bytes format s ++ rest ≡ number w128 s.id ++ after_stream_id s.entry s.spec (length s.versions) (first_after format s rest)
stream_parts format s rest =
    let first = first_bytes (has_firsts format) s.first in
    let versions = flat_map version_bytes s.versions in
    let counted : versions_bytes format s ++ rest ≡ after_stream_kind (length s.versions) (first_after format s rest) =
    append_assoc (number w64 (length s.versions)) (first ++ versions) rest ∙ ap (λ (l : List ℕ). number w64 (length s.versions) ++ l) (append_assoc first versions rest) in
    let kinds = append_assoc (kind_bytes s.spec) (versions_bytes format s) rest ∙ ap (λ (l : List ℕ). kind_bytes s.spec ++ l) counted in
    let entries = append_assoc (number w64 s.entry) (kind_bytes s.spec ++ versions_bytes format s) rest ∙ ap (λ (l : List ℕ). number w64 s.entry ++ l) kinds in
    append_assoc (number w128 s.id) (number w64 s.entry ++ (kind_bytes s.spec ++ versions_bytes format s)) rest ∙ ap (λ (l : List ℕ). number w128 s.id ++ l) entries

-- The start of a stream.
pub start_from_stream : (format : ℕ) (bytes : List ℕ) (s : RollStreamValue) (rest : List ℕ) → StreamFits format s → bytes ≡ stream_bytes format s ++ rest → IsStreamStart bytes s.id s.entry s.spec (length s.versions) (first_after format s rest)
start_from_stream format bytes s rest h same = record {
  id_fits = h.id_fits;
  entry_fits = h.entry_fits;
  spec_fits = h.spec_fits;
  few = h.few_versions;
  parts = same ∙ stream_parts format s rest;
}

-- The format of the stream is that of the kind at its start.
pub format_from_stream : (format : ℕ) (bytes : List ℕ) (id entry : ℕ) (spec : Option Spec) (count : ℕ) (after : List ℕ) (s : RollStreamValue) (rest : List ℕ) → IsStreamStart bytes id entry spec count after → StreamFits format s → bytes ≡ stream_bytes format s ++ rest → kind_format spec ≤ format
format_from_stream format bytes id entry spec count after s rest start h same =
    let starts = start_once bytes id s.id entry s.entry spec s.spec count (length s.versions) after (first_after format s rest) start (start_from_stream format bytes s rest h same) in
    subst (λ (o : Option Spec). kind_format o ≤ format) (sym starts.specs) h.kind_fits

-- The first version of a stream that is not retired, after its start.
pub record IsFirstAfter (format count : ℕ) (after : List ℕ) (s : RollStreamValue) (rest : List ℕ) : Type 0 where
  pub fits : FirstFits (has_firsts format) count s.first
  pub follow : after ≡ first_bytes (has_firsts format) s.first ++ (flat_map version_bytes s.versions ++ rest)

pub first_from_stream : (format : ℕ) (bytes : List ℕ) (id entry : ℕ) (spec : Option Spec) (count : ℕ) (after : List ℕ) (s : RollStreamValue) (rest : List ℕ) → IsStreamStart bytes id entry spec count after → StreamFits format s → bytes ≡ stream_bytes format s ++ rest → IsFirstAfter format count after s rest
first_from_stream format bytes id entry spec count after s rest start h same =
    let starts = start_once bytes id s.id entry s.entry spec s.spec count (length s.versions) after (first_after format s rest) start (start_from_stream format bytes s rest h same) in
    record {
      fits = subst (λ (n : ℕ). FirstFits (has_firsts format) n s.first) (sym starts.counts) h.first_fits;
      follow = starts.rests;
    }

-- The versions of a stream after its start and the first version that is not retired.
pub versions_from_stream : (format : ℕ) (bytes : List ℕ) (id entry : ℕ) (spec : Option Spec) (count : ℕ) (after : List ℕ) (first : ℕ) (last : List ℕ) (s : RollStreamValue) (rest : List ℕ) → IsStreamStart bytes id entry spec count after → FirstFits (has_firsts format) count first → after ≡ first_bytes (has_firsts format) first ++ last → StreamFits format s → bytes ≡ stream_bytes format s ++ rest → AreItems version_bytes (VersionFits (is_some spec)) count last s.versions rest
versions_from_stream format bytes id entry spec count after first last s rest start fits is h same =
    let starts = start_once bytes id s.id entry s.entry spec s.spec count (length s.versions) after (first_after format s rest) start (start_from_stream format bytes s rest h same) in
    let once = first_once (has_firsts format) count (length s.versions) first s.first last (versions_after s rest) start.few h.few_versions fits h.first_fits (sym is ∙ starts.rests) in
    record {
      each = subst (λ o. AllByRecursion (VersionFits (is_some o)) s.versions) (sym starts.specs) h.versions_fit;
      long = sym starts.counts;
      parts = once.1;
    }

pub stream_once : (format : ℕ) → IsOnce (stream_bytes format) (StreamFits format)
stream_once format s t x y h k same =
    let all = stream_bytes format s ++ x in
    let starts = start_once all s.id t.id s.entry t.entry s.spec t.spec (length s.versions) (length t.versions) (first_after format s x) (first_after format t y) (start_from_stream format all s x h refl) (start_from_stream format all t y k same) in
    let firsts = first_once (has_firsts format) (length s.versions) (length t.versions) s.first t.first (versions_after s x) (versions_after t y) h.few_versions k.few_versions h.first_fits k.first_fits starts.rests in
    let other = subst (λ o. AllByRecursion (VersionFits (is_some o)) t.versions) (sym starts.specs) k.versions_fit in
    let versions = all_items_once version_bytes (VersionFits (is_some s.spec)) (version_once (is_some s.spec)) s.versions t.versions x y h.versions_fit other starts.counts firsts.1 in
    (λ i. record { id = starts.ids i; entry = starts.entries i; spec = starts.specs i; first = firsts.0 i; versions = versions.0 i }, versions.1)

kind_long : (o : Option Spec) → 1 ≤ length (kind_bytes o)
kind_long None = omega arith
kind_long (Some s) = omega arith

pub stream_long : (format : ℕ) (s : RollStreamValue) → 33 ≤ length (stream_bytes format s)
stream_long format s =
    omega (arith, length-append (number w128 s.id) (number w64 s.entry ++ (kind_bytes s.spec ++ versions_bytes format s)), length-append (number w64 s.entry) (kind_bytes s.spec ++ versions_bytes format s), length-append (kind_bytes s.spec) (versions_bytes format s), length-append (number w64 (length s.versions)) (first_bytes (has_firsts format) s.first ++ flat_map version_bytes s.versions), wide128.len s.id, wide64.len s.entry, kind_long s.spec, wide64.len (length s.versions))

-- ---- rolls

-- The number that was read is the number of streams, and the streams follow.
pub streams_read : (format : ℕ) (bytes after : List ℕ) (n : ℕ) (streams : List RollStreamValue) → n < 2 ^ 32 → bytes ≡ number w32 n ++ after → RollFits format streams → bytes ≡ roll_bytes format streams → AreItems (stream_bytes format) (StreamFits format) n after streams []
streams_read format bytes after n streams fits is h same =
    let all = flat_map (stream_bytes format) streams in
    let once = number_once w32 (2 ^ 32) wide32 n (length streams) after all fits (omega (arith, h.few_streams)) (sym is ∙ same) in
    record { each = h.each_fits; long = sym once.0; parts = once.1 ∙ sym (append-nil all) }

-- The bytes determine the items and what follows them.
pub are_items_once : {X : Type 0} (item : X → List ℕ) (Fits : X → Type 0) → IsOnce item Fits → (count : ℕ) (bytes : List ℕ) (xs ys : List X) (r s : List ℕ) → AreItems item Fits count bytes xs r → AreItems item Fits count bytes ys s → (xs ≡ ys) × (r ≡ s)
are_items_once item Fits once count bytes xs ys r s h k =
    all_items_once item Fits once xs ys r s h.each k.each (h.long ∙ sym k.long) (sym h.parts ∙ k.parts)

-- The bytes determine the streams of a roll.
pub roll_once : (format : ℕ) (a b : List RollStreamValue) → RollFits format a → RollFits format b → roll_bytes format a ≡ roll_bytes format b → a ≡ b
roll_once format a b h k same =
    let bytes = roll_bytes format a in
    let after = flat_map (stream_bytes format) a in
    let first = streams_read format bytes after (length a) a (omega (arith, h.few_streams)) refl h refl in
    let second = streams_read format bytes after (length a) b (omega (arith, h.few_streams)) refl k same in
    (are_items_once (stream_bytes format) (StreamFits format) (stream_once format) (length a) after a b [] [] first second).0
