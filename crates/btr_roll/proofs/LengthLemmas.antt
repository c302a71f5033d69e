-- Lemmas on the number of bytes of the parts of a checkpoint's content.
use Rattle.std.specs.Prelude.{◌≡◌, ℕ, ◌+◌, ◌∷◌, ◌++◌, Bool, true, false, length, Option, Some, None}
use Rattle.std.specs.Int.{w64, w128}
use Rattle.std.specs.List.{flat_map}
use Rattle.std.proofs.Common.{refl, ap, arith, length-append}
use Rattle.btr_hist.specs.declared.kernel.Spec.{Spec}
use Rattle.btr_hist.specs.declared.kernel.Reads.{Reads}
use Rattle.btr_entry.specs.Grammar.{number, spec_bytes, reads_bytes}
use Rattle.btr_entry.proofs.NumberLemmas.{wide64, wide128}
use Rattle.btr_roll.specs.declared.roll.RollVersion.{RollVersion}
use Rattle.btr_roll.specs.Roll.{RollStreamValue, some_reads_bytes, version_bytes, kind_bytes, has_firsts, first_bytes, versions_bytes, stream_bytes}

version-parts : (v : RollVersion) → length (version_bytes v) ≡ 16 + length (some_reads_bytes v.reads)
version-parts v =
    omega (arith, length-append (number w64 v.entry) (number w64 v.root ++ some_reads_bytes v.reads), length-append (number w64 v.root) (some_reads_bytes v.reads), wide64.len v.entry, wide64.len v.root)

pub version-plain : (v : RollVersion) → v.reads ≡ None → 16 ≡ length (version_bytes v)
version-plain v none =
    let reads : length (some_reads_bytes v.reads) ≡ 0 = ap (λ (o : Option Reads). length (some_reads_bytes o)) none in
    omega (arith, version-parts v, reads)

pub version-some : (v : RollVersion) (r : Reads) → v.reads ≡ Some r → 16 + length (reads_bytes r) ≡ length (version_bytes v)
version-some v r some =
    let reads : length (some_reads_bytes v.reads) ≡ length (reads_bytes r) = ap (λ (o : Option Reads). length (some_reads_bytes o)) some in
    omega (arith, version-parts v, reads)

pub kind-output : (o : Option Spec) (s : Spec) → o ≡ Some s → 1 + length (spec_bytes s) ≡ length (kind_bytes o)
kind-output o s some =
    let kind : length (kind_bytes o) ≡ length (1 ∷ spec_bytes s) = ap (λ (x : Option Spec). length (kind_bytes x)) some in
    omega (arith, kind)

-- The first version that is not retired has eight bytes or none.
pub first-some : (has : Bool) (first : ℕ) → has ≡ true → 8 ≡ length (first_bytes has first)
first-some true first is = omega (arith, wide64.len first)
first-some false first is = absurd (cc)

pub first-none : (has : Bool) (first : ℕ) → has ≡ false → 0 ≡ length (first_bytes has first)
first-none true first is = absurd (cc)
first-none false first is = refl

pub stream-parts : (format : ℕ) (s : RollStreamValue) → length (stream_bytes format s) ≡ 32 + length (kind_bytes s.spec) + length (first_bytes (has_firsts format) s.first) + length (flat_map version_bytes s.versions)
stream-parts format s =
    let first = first_bytes (has_firsts format) s.first in
    let versions = flat_map version_bytes s.versions in
    omega (arith, length-append (number w128 s.id) (number w64 s.entry ++ (kind_bytes s.spec ++ versions_bytes format s)), length-append (number w64 s.entry) (kind_bytes s.spec ++ versions_bytes format s), length-append (kind_bytes s.spec) (versions_bytes format s), length-append (number w64 (length s.versions)) (first ++ versions), length-append first versions, wide128.len s.id, wide64.len s.entry, wide64.len (length s.versions))
