-- Lemmas on the spellings of entries: their parts, their length, and that an entry has one spelling.
use Rattle.std.proofs.Common.{◌≡◌, ℕ, ◌+◌, ◌*◌, ◌<◌, ◌≤◌, ◌^◌, List, [], ◌∷◌, ◌++◌, length, refl, sym, ap, ◌∙◌, arith, append_assoc, length-append}
use Rattle.std.specs.Int.{w32, w64, w128}
use Rattle.std.proofs.lemmas.List.{append-nil}
use Rattle.btr_base.specs.declared.limits.TheConstants.{MAX_COMMIT_POINTS, MAX_COMMIT_RANGES, MAX_POINTS, MAX_VERSIONS}
use Rattle.btr_base.specs.declared.point.Point.{Point}
use Rattle.btr_base.specs.Range.{RangeValue}
use Rattle.btr_hist.specs.declared.entry.Entry.{Entry}
use Rattle.btr_hist.specs.declared.entry.Entry.TheVariants.{Create, Commit, Define, Distillate, Retire}
use Rattle.btr_hist.specs.declared.kernel.Spec.{Spec}
use Rattle.btr_hist.specs.declared.kernel.Reads.{Reads}
use Rattle.btr_entry.specs.Grammar.{number, range, point, listed, spec_bytes, reads_bytes, spelling}
use Rattle.btr_entry.specs.Grammar.{IsCommit, IsOutput, AreVersions, IsDistilled, IsRetirement, IsSpelled, IsEntry}
use Rattle.btr_entry.specs.Fields.{AreAddable, IsChange}
use Rattle.btr_entry.proofs.NumberLemmas.{number_once, wide32, wide64, wide128}
use Rattle.btr_entry.proofs.FrameLemmas.{heads, tails}
use Rattle.btr_entry.proofs.ItemLemmas.{length-listed, length-range, length-point}
use Rattle.btr_entry.proofs.ChangeLemmas.{length-change, change_once}
use Rattle.btr_entry.proofs.SpecLemmas.{length-kernel, length-numbers, length-spec, spec_once, reads_once}

-- ---- the length of a spelling

pub length-create : (id : ℕ) → 17 ≡ length (spelling (Create id))
length-create id = omega (arith, wide128.len id)

pub length-commit : (stream : ℕ) (cut : List RangeValue) (added : List Point) → 21 + 16 * (length cut + length added) ≡ length (spelling (Commit stream cut added))
length-commit stream cut added =
    omega (arith, length-append (number w32 stream ++ listed range cut) (listed point added), length-append (number w32 stream) (listed range cut), wide32.len stream, length-listed range cut length-range, length-listed point added length-point)

pub length-define : (id : ℕ) (s : Spec) → 17 + length (spec_bytes s) ≡ length (spelling (Define id s))
length-define id s = omega (arith, length-append (number w128 id) (spec_bytes s), wide128.len id)

pub length-distillate : (stream : ℕ) (cut : List RangeValue) (added : List Point) (r : Reads) → 21 + length (reads_bytes r) + 16 * (length cut + length added) ≡ length (spelling (Distillate stream cut added r))
length-distillate stream cut added r =
    omega (arith, length-append (number w32 stream) (reads_bytes r ++ (listed range cut ++ listed point added)), length-append (reads_bytes r) (listed range cut ++ listed point added), wide32.len stream, length-change cut added)

pub length-retirement : (stream first : ℕ) → 13 ≡ length (spelling (Retire stream first))
length-retirement stream first =
    omega (arith, length-append (number w32 stream) (number w64 first), wide32.len stream, wide64.len first)

-- The spelling of an entry is shorter than 2^39 bytes.
pub length-spelling : (e : Entry) → IsSpelled e → length (spelling e) < 2 ^ 39
length-spelling (Create id) is = omega (arith, length-create id)
length-spelling (Commit stream cut added) is =
    omega (arith, is.bounded.few_ranges, is.bounded.few_points, length-commit stream cut added)
length-spelling (Define id s) is =
    omega (arith, length-define id s, length-spec s, length-kernel s.kernel, length-numbers w32 (2 ^ 32) wide32 s.first s.second)
length-spelling (Distillate stream cut added r) is =
    omega (arith, is.bounded.few_ranges, is.bounded.few_points, length-distillate stream cut added r, length-numbers w64 (2 ^ 64) wide64 r.first r.second)
length-spelling (Retire stream first) is = omega (arith, length-retirement stream first)

-- ---- the first byte

-- The first byte of an entry's spelling.
abbrev pub first_byte : Entry → ℕ
first_byte (Create id) = 1
first_byte (Commit stream cut added) = 2
first_byte (Define id s) = 3
first_byte (Distillate stream cut added r) = 4
first_byte (Retire stream first) = 5

pub first_is : (n : ℕ) (bytes : List ℕ) (e : Entry) → n ∷ bytes ≡ spelling e → n ≡ first_byte e
first_is n bytes (Create id) same = heads n 1 bytes (number w128 id) same
first_is n bytes (Commit stream cut added) same = heads n 2 bytes (number w32 stream ++ listed range cut ++ listed point added) same
first_is n bytes (Define id s) same = heads n 3 bytes (number w128 id ++ spec_bytes s) same
first_is n bytes (Distillate stream cut added r) same =
    heads n 4 bytes (number w32 stream ++ (reads_bytes r ++ (listed range cut ++ listed point added))) same
first_is n bytes (Retire stream first) same = heads n 5 bytes (number w32 stream ++ number w64 first) same

first_same : (e f : Entry) → spelling e ≡ spelling f → first_byte e ≡ first_byte f
first_same (Create id) f same = first_is 1 (number w128 id) f same
first_same (Commit stream cut added) f same = first_is 2 (number w32 stream ++ listed range cut ++ listed point added) f same
first_same (Define id s) f same = first_is 3 (number w128 id ++ spec_bytes s) f same
first_same (Distillate stream cut added r) f same =
    first_is 4 (number w32 stream ++ (reads_bytes r ++ (listed range cut ++ listed point added))) f same
first_same (Retire stream first) f same = first_is 5 (number w32 stream ++ number w64 first) f same

-- ---- creates

pub id_from_entry : (bytes : List ℕ) (e : Entry) → IsEntry (1 ∷ bytes) e → (id : ℕ) × (id < 2 ^ 128) × (bytes ≡ number w128 id)
id_from_entry bytes (Create id) h = (id, h.is_spelled, tails 1 1 bytes (number w128 id) h.bytes_are)
id_from_entry bytes e h = absurd (omega (arith, first_is 1 bytes e h.bytes_are))

-- After the id that was read nothing follows.
pub after_id : (bytes : List ℕ) (e : Entry) → IsEntry (1 ∷ bytes) e → (n : ℕ) (rest : List ℕ) → n < 2 ^ 128 → bytes ≡ number w128 n ++ rest → rest ≡ []
after_id bytes e h n rest fits is =
    let id = id_from_entry bytes e h in
    (number_once w128 (2 ^ 128) wide128 n id.0 rest [] fits id.1 (sym is ∙ id.2 ∙ sym (append-nil (number w128 id.0)))).1

-- ---- commits

pub added_from_commit : (stream : ℕ) (cut : List RangeValue) (added : List Point) → IsCommit stream cut added → AreAddable added
added_from_commit stream cut added h = record { in_order = h.in_order; in_domain = h.bounded.in_domain; values_fit = h.values_fit }

-- What a commit removes and adds, from the bytes after its stream.
pub change_from_commit : (stream : ℕ) (cut : List RangeValue) (added : List Point) (rest : List ℕ) → IsCommit stream cut added → rest ≡ listed range cut ++ listed point added → IsChange MAX_COMMIT_RANGES MAX_COMMIT_POINTS rest cut added
change_from_commit stream cut added rest h is = record {
  is_cut = h.is_cut;
  is_added = added_from_commit stream cut added h;
  few_ranges = h.bounded.few_ranges;
  few_points = h.bounded.few_points;
  bytes_are = is;
}

-- The commit that bytes after the first byte 2 spell.
pub record CommitOf (bytes : List ℕ) : Type 0 where
  pub stream : ℕ
  pub cut : List RangeValue
  pub added : List Point
  pub is_commit : IsCommit stream cut added
  pub parts : bytes ≡ number w32 stream ++ (listed range cut ++ listed point added)

pub commit_from_entry : (bytes : List ℕ) (e : Entry) → IsEntry (2 ∷ bytes) e → CommitOf bytes
commit_from_entry bytes (Commit stream cut added) h = record {
  stream = stream;
  cut = cut;
  added = added;
  is_commit = h.is_spelled;
  parts = tails 2 2 bytes (number w32 stream ++ listed range cut ++ listed point added) h.bytes_are ∙ append_assoc (number w32 stream) (listed range cut) (listed point added);
}
commit_from_entry bytes e h = absurd (omega (arith, first_is 2 bytes e h.bytes_are))

-- The stream that was read is that of the commit, and after it follow the ranges and the points.
pub after_commit_stream : (bytes : List ℕ) (h : CommitOf bytes) (n : ℕ) (rest : List ℕ) → n < 2 ^ 32 → bytes ≡ number w32 n ++ rest → IsChange MAX_COMMIT_RANGES MAX_COMMIT_POINTS rest h.cut h.added
after_commit_stream bytes h n rest fits is =
    let once = number_once w32 (2 ^ 32) wide32 n h.stream rest (listed range h.cut ++ listed point h.added) fits h.is_commit.stream_fits (sym is ∙ h.parts) in
    change_from_commit h.stream h.cut h.added rest h.is_commit once.1

-- ---- definitions of outputs

-- The output that bytes after the first byte 3 define.
pub record OutputOf (bytes : List ℕ) : Type 0 where
  pub id : ℕ
  pub spec : Spec
  pub is_output : IsOutput id spec
  pub parts : bytes ≡ number w128 id ++ spec_bytes spec

pub output_from_entry : (bytes : List ℕ) (e : Entry) → IsEntry (3 ∷ bytes) e → OutputOf bytes
output_from_entry bytes (Define id s) h = record {
  id = id;
  spec = s;
  is_output = h.is_spelled;
  parts = tails 3 3 bytes (number w128 id ++ spec_bytes s) h.bytes_are;
}
output_from_entry bytes e h = absurd (omega (arith, first_is 3 bytes e h.bytes_are))

-- After the id that was read follows the spec of the output.
pub after_output_id : (bytes : List ℕ) (h : OutputOf bytes) (n : ℕ) (rest : List ℕ) → n < 2 ^ 128 → bytes ≡ number w128 n ++ rest → rest ≡ spec_bytes h.spec
after_output_id bytes h n rest fits is =
    (number_once w128 (2 ^ 128) wide128 n h.id rest (spec_bytes h.spec) fits h.is_output.id_fits (sym is ∙ h.parts)).1

-- ---- distillates

-- What a distillate removes and adds, from the bytes after its reads.
pub change_from_distillate : (stream : ℕ) (cut : List RangeValue) (added : List Point) (r : Reads) (rest : List ℕ) → IsDistilled stream cut added r → rest ≡ listed range cut ++ listed point added → IsChange (2 ^ 34) MAX_POINTS rest cut added
change_from_distillate stream cut added r rest h is = record {
  is_cut = h.is_cut;
  is_added = record { in_order = h.in_order; in_domain = h.bounded.in_domain; values_fit = h.values_fit };
  few_ranges = h.bounded.few_ranges;
  few_points = h.bounded.few_points;
  bytes_are = is;
}

-- The distillate that bytes after the first byte 4 spell.
pub record DistillateOf (bytes : List ℕ) : Type 0 where
  pub stream : ℕ
  pub cut : List RangeValue
  pub added : List Point
  pub reads : Reads
  pub is_distilled : IsDistilled stream cut added reads
  pub parts : bytes ≡ number w32 stream ++ (reads_bytes reads ++ (listed range cut ++ listed point added))

pub distillate_from_entry : (bytes : List ℕ) (e : Entry) → IsEntry (4 ∷ bytes) e → DistillateOf bytes
distillate_from_entry bytes (Distillate stream cut added r) h = record {
  stream = stream;
  cut = cut;
  added = added;
  reads = r;
  is_distilled = h.is_spelled;
  parts = tails 4 4 bytes (number w32 stream ++ (reads_bytes r ++ (listed range cut ++ listed point added))) h.bytes_are;
}
distillate_from_entry bytes e h = absurd (omega (arith, first_is 4 bytes e h.bytes_are))

-- After the stream that was read follow the reads of the distillate.
pub after_stream : (bytes : List ℕ) (h : DistillateOf bytes) (n : ℕ) (rest : List ℕ) → n < 2 ^ 32 → bytes ≡ number w32 n ++ rest → rest ≡ reads_bytes h.reads ++ (listed range h.cut ++ listed point h.added)
after_stream bytes h n rest fits is =
    (number_once w32 (2 ^ 32) wide32 n h.stream rest (reads_bytes h.reads ++ (listed range h.cut ++ listed point h.added)) fits h.is_distilled.stream_fits (sym is ∙ h.parts)).1

-- After the reads that were read follow the ranges and the points.
pub after_reads : (bytes : List ℕ) (h : DistillateOf bytes) (n : ℕ) (rest : List ℕ) (r : Reads) (after : List ℕ) → n < 2 ^ 32 → bytes ≡ number w32 n ++ rest → AreVersions r → rest ≡ reads_bytes r ++ after → IsChange (2 ^ 34) MAX_POINTS after h.cut h.added
after_reads bytes h n rest r after fits is versions reads_are =
    let once = reads_once r h.reads after (listed range h.cut ++ listed point h.added) versions h.is_distilled.bounded.versions (sym reads_are ∙ after_stream bytes h n rest fits is) in
    change_from_distillate h.stream h.cut h.added h.reads after h.is_distilled once.1

-- ---- retirements

-- The retirement that bytes after the first byte 5 spell.
pub record RetirementOf (bytes : List ℕ) : Type 0 where
  pub stream : ℕ
  pub first : ℕ
  pub is_retirement : IsRetirement stream first
  pub parts : bytes ≡ number w32 stream ++ number w64 first

pub retirement_from_entry : (bytes : List ℕ) (e : Entry) → IsEntry (5 ∷ bytes) e → RetirementOf bytes
retirement_from_entry bytes (Retire stream first) h = record {
  stream = stream;
  first = first;
  is_retirement = h.is_spelled;
  parts = tails 5 5 bytes (number w32 stream ++ number w64 first) h.bytes_are;
}
retirement_from_entry bytes e h = absurd (omega (arith, first_is 5 bytes e h.bytes_are))

-- After the stream that was read follows the first version.
pub after_retired_stream : (bytes : List ℕ) (h : RetirementOf bytes) (n : ℕ) (rest : List ℕ) → n < 2 ^ 32 → bytes ≡ number w32 n ++ rest → rest ≡ number w64 h.first
after_retired_stream bytes h n rest fits is =
    (number_once w32 (2 ^ 32) wide32 n h.stream rest (number w64 h.first) fits h.is_retirement.stream_fits (sym is ∙ h.parts)).1

-- The version that was read is that of the retirement, and after it nothing follows.
pub after_first : (bytes : List ℕ) (h : RetirementOf bytes) (n : ℕ) (rest : List ℕ) (version : ℕ) (after : List ℕ) → n < 2 ^ 32 → bytes ≡ number w32 n ++ rest → version ≤ MAX_VERSIONS → rest ≡ number w64 version ++ after → (version ≡ h.first) × (after ≡ [])
after_first bytes h n rest version after fits is low version_is =
    let few = h.is_retirement.bounded.few in
    number_once w64 (2 ^ 64) wide64 version h.first after [] (omega arith) (omega arith) (sym version_is ∙ after_retired_stream bytes h n rest fits is ∙ sym (append-nil (number w64 h.first)))

-- ---- one spelling

same_id : (a b : ℕ) → a < 2 ^ 128 → b < 2 ^ 128 → number w128 a ≡ number w128 b → a ≡ b
same_id a b a_fits b_fits same =
    (number_once w128 (2 ^ 128) wide128 a b [] [] a_fits b_fits (append-nil (number w128 a) ∙ same ∙ sym (append-nil (number w128 b)))).0

same_commit : (s t : ℕ) (cut other : List RangeValue) (a b : List Point) → IsCommit s cut a → IsCommit t other b → number w32 s ++ listed range cut ++ listed point a ≡ number w32 t ++ listed range other ++ listed point b → (s ≡ t) × (cut ≡ other) × (a ≡ b)
same_commit s t cut other a b h k same =
    let one = number_once w32 (2 ^ 32) wide32 s t (listed range cut ++ listed point a) (listed range other ++ listed point b) h.stream_fits k.stream_fits (sym (append_assoc (number w32 s) (listed range cut) (listed point a)) ∙ same ∙ append_assoc (number w32 t) (listed range other) (listed point b)) in
    let changes = change_once MAX_COMMIT_RANGES MAX_COMMIT_POINTS (omega arith) (omega arith) (listed range cut ++ listed point a) cut other a b (change_from_commit s cut a (listed range cut ++ listed point a) h refl) (change_from_commit t other b (listed range cut ++ listed point a) k one.1) in
    (one.0, changes.0, changes.1)

same_output : (a b : ℕ) (s t : Spec) → IsOutput a s → IsOutput b t → number w128 a ++ spec_bytes s ≡ number w128 b ++ spec_bytes t → (a ≡ b) × (s ≡ t)
same_output a b s t h k same =
    let one = number_once w128 (2 ^ 128) wide128 a b (spec_bytes s) (spec_bytes t) h.id_fits k.id_fits same in
    let specs = spec_once s t [] [] h.is_spec k.is_spec (append-nil (spec_bytes s) ∙ one.1 ∙ sym (append-nil (spec_bytes t))) in
    (one.0, specs.0)

same_distillate : (s t : ℕ) (cut other : List RangeValue) (a b : List Point) (r q : Reads) → IsDistilled s cut a r → IsDistilled t other b q → number w32 s ++ (reads_bytes r ++ (listed range cut ++ listed point a)) ≡ number w32 t ++ (reads_bytes q ++ (listed range other ++ listed point b)) → (s ≡ t) × (cut ≡ other) × (a ≡ b) × (r ≡ q)
same_distillate s t cut other a b r q h k same =
    let one = number_once w32 (2 ^ 32) wide32 s t (reads_bytes r ++ (listed range cut ++ listed point a)) (reads_bytes q ++ (listed range other ++ listed point b)) h.stream_fits k.stream_fits same in
    let two = reads_once r q (listed range cut ++ listed point a) (listed range other ++ listed point b) h.bounded.versions k.bounded.versions one.1 in
    let changes = change_once (2 ^ 34) MAX_POINTS (omega arith) (omega arith) (listed range cut ++ listed point a) cut other a b (change_from_distillate s cut a r (listed range cut ++ listed point a) h refl) (change_from_distillate t other b q (listed range cut ++ listed point a) k two.1) in
    (one.0, changes.0, changes.1, two.0)

same_retirement : (s t first other : ℕ) → IsRetirement s first → IsRetirement t other → number w32 s ++ number w64 first ≡ number w32 t ++ number w64 other → (s ≡ t) × (first ≡ other)
same_retirement s t first other h k same =
    let one = number_once w32 (2 ^ 32) wide32 s t (number w64 first) (number w64 other) h.stream_fits k.stream_fits same in
    let few = h.bounded.few in
    let few_other = k.bounded.few in
    let two = number_once w64 (2 ^ 64) wide64 first other [] [] (omega arith) (omega arith) (append-nil (number w64 first) ∙ one.1 ∙ sym (append-nil (number w64 other))) in
    (one.0, two.0)

pub same_entry : (e f : Entry) → IsSpelled e → IsSpelled f → spelling e ≡ spelling f → e ≡ f
same_entry (Create a) (Create b) h k same = ap Create (same_id a b h k (tails 1 1 (number w128 a) (number w128 b) same))
same_entry (Commit s cut a) (Commit t other b) h k same =
    let parts = same_commit s t cut other a b h k (tails 2 2 (number w32 s ++ listed range cut ++ listed point a) (number w32 t ++ listed range other ++ listed point b) same) in
    λ i. Commit (parts.0 i) (parts.1 i) (parts.2 i)
same_entry (Define a s) (Define b t) h k same =
    let parts = same_output a b s t h k (tails 3 3 (number w128 a ++ spec_bytes s) (number w128 b ++ spec_bytes t) same) in
    λ i. Define (parts.0 i) (parts.1 i)
same_entry (Distillate s cut a r) (Distillate t other b q) h k same =
    let parts = same_distillate s t cut other a b r q h k (tails 4 4 (number w32 s ++ (reads_bytes r ++ (listed range cut ++ listed point a))) (number w32 t ++ (reads_bytes q ++ (listed range other ++ listed point b))) same) in
    λ i. Distillate (parts.0 i) (parts.1 i) (parts.2 i) (parts.3 i)
same_entry (Retire s first) (Retire t other) h k same =
    let parts = same_retirement s t first other h k (tails 5 5 (number w32 s ++ number w64 first) (number w32 t ++ number w64 other) same) in
    λ i. Retire (parts.0 i) (parts.1 i)
same_entry e f h k same = absurd (omega (arith, first_same e f same))
