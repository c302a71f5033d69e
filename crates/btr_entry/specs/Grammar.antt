-- Entries as bytes: which entries have a spelling, and the one spelling of each.
use Rattle.std.specs.Prelude.{◌≡◌, ℕ, ◌+◌, ◌<◌, ◌≤◌, ◌^◌, ℤ, List, [], ◌∷◌, ◌++◌, length, Option, Some, None, IfSome, IsTrue}
use Rattle.std.specs.Int.{Width, w32, w64, w128, to_be_bytes, cast_unsigned}
use Rattle.std.specs.Int.RustNames.{FitsSigned}
use Rattle.std.specs.List.{flat_map, AllByRecursion}
use Rattle.btr_base.specs.declared.limits.TheConstants.{MAX_COMMIT_POINTS, MAX_COMMIT_RANGES, MAX_POINTS, MAX_VERSIONS}
use Rattle.btr_base.specs.declared.point.Point.{Point}
use Rattle.btr_base.specs.Point.{AreInDomain}
use Rattle.btr_base.specs.Range.{RangeValue, IsCut}
use Rattle.btr_base.specs.Bag.{IsInOrder}
use Rattle.btr_hist.specs.declared.entry.Entry.{Entry}
use Rattle.btr_hist.specs.declared.entry.Entry.TheVariants.{Create, Commit, Define, Distillate, Retire}
use Rattle.btr_hist.specs.declared.kernel.Kernel.{Kernel}
use Rattle.btr_hist.specs.declared.kernel.Kernel.TheVariants.{Affine, Sum, Mean, Least, Greatest, Count, Delta, Minus, Angle, Hold, Cell}
use Rattle.btr_hist.specs.declared.kernel.Spec.{Spec}
use Rattle.btr_hist.specs.declared.kernel.Reads.{Reads}
use Rattle.btr_hist.specs.Kernel.{is_good}

-- ---- the bytes

-- A number in all the bytes of its width, the highest byte first.
unfoldable pub number : Width → ℕ → List ℕ
number w n = to_be_bytes w n

-- A signed number: its two's complement in eight bytes.
unfoldable pub signed : ℤ → List ℕ
signed z = number w64 (cast_unsigned w64 z)

-- The two bounds of a range.
abbrev pub range : RangeValue → List ℕ
range r = signed r.from ++ signed r.to

-- The time and the value of a point.
abbrev pub point : Point → List ℕ
point p = signed p.time ++ signed p.value

-- The number of items in eight bytes, then each item.
abbrev pub listed : {X : Type 0} → (X → List ℕ) → List X → List ℕ
listed item xs = number w64 (length xs) ++ flat_map item xs

-- A kernel: its number in one byte, for `Affine` its three numbers, and for `Cell` its two numbers in one byte each.
abbrev pub kernel_bytes : Kernel → List ℕ
kernel_bytes (Affine a b d) = 1 ∷ (signed a ++ (signed b ++ signed d))
kernel_bytes Sum = 2 ∷ []
kernel_bytes Mean = 3 ∷ []
kernel_bytes Least = 4 ∷ []
kernel_bytes Greatest = 5 ∷ []
kernel_bytes Count = 6 ∷ []
kernel_bytes Delta = 7 ∷ []
kernel_bytes Minus = 8 ∷ []
kernel_bytes Angle = 9 ∷ []
kernel_bytes Hold = 10 ∷ []
kernel_bytes (Cell which p) = 11 ∷ which ∷ p ∷ []

-- One or two numbers: how many they are, in one byte, then each in all the bytes of its width.
abbrev pub one_or_two : Width → ℕ → Option ℕ → List ℕ
one_or_two w first None = 1 ∷ number w first
one_or_two w first (Some second) = 2 ∷ (number w first ++ number w second)

-- The spec of an output: the kernel, the lead, the grain in one byte, and the streams of the inputs.
abbrev pub spec_bytes : Spec → List ℕ
spec_bytes s = kernel_bytes s.kernel ++ (number w64 s.lead ++ (s.grain ∷ one_or_two w32 s.first s.second))

-- The versions of the inputs that a distillate was computed from.
abbrev pub reads_bytes : Reads → List ℕ
reads_bytes r = one_or_two w64 r.first r.second

-- The bytes of an entry. The first byte tells its kind.
abbrev pub spelling : Entry → List ℕ
spelling (Create id) = 1 ∷ number w128 id
spelling (Commit stream cut added) = 2 ∷ (number w32 stream ++ listed range cut ++ listed point added)
spelling (Define id s) = 3 ∷ (number w128 id ++ spec_bytes s)
spelling (Distillate stream cut added r) = 4 ∷ (number w32 stream ++ (reads_bytes r ++ (listed range cut ++ listed point added)))
spelling (Retire stream first) = 5 ∷ (number w32 stream ++ number w64 first)

-- ---- what has a spelling

-- Each of the values fits in eight bytes.
abbrev pub ValuesFit : List Point → Type 0
ValuesFit ps = AllByRecursion (λ p. FitsSigned w64 p.value) ps

-- The commit removes or adds something, not more than is allowed, and no point outside the domain.
pub record IsBounded (cut : List RangeValue) (added : List Point) : Type 0 where
  pub some : 0 < length cut + length added
  pub few_ranges : length cut ≤ MAX_COMMIT_RANGES
  pub few_points : length added ≤ MAX_COMMIT_POINTS
  pub in_domain : AreInDomain added

-- A commit that has a spelling: the above, and what every value of its type is.
pub record IsCommit (stream : ℕ) (cut : List RangeValue) (added : List Point) : Type 0 where
  pub stream_fits : stream < 2 ^ 32
  pub is_cut : IsCut cut
  pub in_order : IsInOrder added
  pub values_fit : ValuesFit added
  pub bounded : IsBounded cut added

-- Each of the numbers of `Affine` fits in eight bytes.
abbrev pub KernelFits : Kernel → Type 0
KernelFits (Affine a b d) = FitsSigned w64 a × FitsSigned w64 b × FitsSigned w64 d
KernelFits kernel = Unit {0}

-- A spec that has a spelling: it is good, and what every value of its type is.
pub record IsSpec (s : Spec) : Type 0 where
  pub kernel_fits : KernelFits s.kernel
  pub first_fits : s.first < 2 ^ 32
  pub second_fits : IfSome s.second (λ stream. stream < 2 ^ 32)
  pub good : IsTrue (is_good s)

-- An output that has a spelling.
pub record IsOutput (id : ℕ) (s : Spec) : Type 0 where
  pub id_fits : id < 2 ^ 128
  pub is_spec : IsSpec s

-- Each of the versions is one that a stream can have.
pub record AreVersions (r : Reads) : Type 0 where
  pub first : r.first ≤ MAX_VERSIONS
  pub second : IfSome r.second (λ version. version ≤ MAX_VERSIONS)

-- The distillate removes and adds not more than is allowed, no point outside the domain, and has read versions that can be.
pub record IsBoundedDistillate (cut : List RangeValue) (added : List Point) (r : Reads) : Type 0 where
  pub few_ranges : length cut ≤ 2 ^ 34
  pub few_points : length added ≤ MAX_POINTS
  pub in_domain : AreInDomain added
  pub versions : AreVersions r

-- A distillate that has a spelling: the above, and what every value of its type is.
pub record IsDistilled (stream : ℕ) (cut : List RangeValue) (added : List Point) (r : Reads) : Type 0 where
  pub stream_fits : stream < 2 ^ 32
  pub is_cut : IsCut cut
  pub in_order : IsInOrder added
  pub values_fit : ValuesFit added
  pub bounded : IsBoundedDistillate cut added r

-- The version is one that a stream can have, after version 0.
pub record IsFirstVersion (first : ℕ) : Type 0 where
  pub some : 0 < first
  pub few : first ≤ MAX_VERSIONS

-- A retirement that has a spelling: the above, and what every value of its type is.
pub record IsRetirement (stream first : ℕ) : Type 0 where
  pub stream_fits : stream < 2 ^ 32
  pub bounded : IsFirstVersion first

-- An entry within the bounds, which its type alone does not ensure.
abbrev pub IsWithinBounds : Entry → Type 0
IsWithinBounds (Create id) = Unit {0}
IsWithinBounds (Commit stream cut added) = IsBounded cut added
IsWithinBounds (Define id s) = IsTrue (is_good s)
IsWithinBounds (Distillate stream cut added r) = IsBoundedDistillate cut added r
IsWithinBounds (Retire stream first) = IsFirstVersion first

-- An entry that has a spelling.
abbrev pub IsSpelled : Entry → Type 0
IsSpelled (Create id) = id < 2 ^ 128
IsSpelled (Commit stream cut added) = IsCommit stream cut added
IsSpelled (Define id s) = IsOutput id s
IsSpelled (Distillate stream cut added r) = IsDistilled stream cut added r
IsSpelled (Retire stream first) = IsRetirement stream first

-- ---- the grammar

-- The bytes are the spelling of this entry, and nothing follows.
pub record IsEntry (bytes : List ℕ) (e : Entry) : Type 0 where
  pub is_spelled : IsSpelled e
  pub bytes_are : bytes ≡ spelling e
