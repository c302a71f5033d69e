-- Lemmas on the bytes of specs and reads: their length, and that the bytes determine the value.
use Rattle.std.proofs.Common.{◌≡◌, ◌⊎◌, ℕ, ◌+◌, ◌*◌, ◌<◌, ◌≤◌, ◌^◌, ◌&&◌, ℤ, List, [], ◌∷◌, ◌++◌, length, get_or, Option, Some, None, lit≤, inl, inr, refl, sym, ap, ◌∙◌, subst, arith, length-append, append_assoc, if◌then◌else◌, not}
use Rattle.std.specs.Prelude.{IfSome, nat_eq, nat_le, is_some}
use Rattle.std.specs.Int.{Width, w32, w64, byte_len}
use Rattle.std.proofs.lemmas.Bool.{and_parts}
use Rattle.std.proofs.lemmas.Bool.Decides.{nat_tests}
use Rattle.btr_base.specs.declared.limits.TheConstants.{MAX_VERSIONS}
use Rattle.btr_hist.specs.declared.kernel.Kernel.{Kernel}
use Rattle.btr_hist.specs.declared.kernel.Kernel.TheVariants.{Affine, Sum, Mean, Least, Greatest, Count, Delta, Minus, Angle, Hold, Cell}
use Rattle.btr_hist.specs.declared.kernel.Spec.{Spec}
use Rattle.btr_hist.specs.declared.kernel.Reads.{Reads}
use Rattle.btr_hist.specs.Kernel.{has_second, divides_well, window_kernel, windows_fit}
use Rattle.btr_entry.specs.Grammar.{number, signed, kernel_bytes, one_or_two, spec_bytes, reads_bytes, KernelFits, IsSpec, AreVersions}
use Rattle.btr_entry.proofs.NumberLemmas.{IsWide, same_parts, number_once, wide32, wide64, signed_once, length-signed}
use Rattle.btr_entry.proofs.FrameLemmas.{heads, tails}

-- ---- kernels

-- The kernel with a number, if the number is not that of `Affine`, and the bytes after the number.
abbrev plain : ℕ → List ℕ → Kernel
plain n bytes = get_or (Sum ∷ Sum ∷ Sum ∷ Mean ∷ Least ∷ Greatest ∷ Count ∷ Delta ∷ Minus ∷ Angle ∷ Hold ∷ Cell (get_or bytes 0 0) (get_or bytes 1 0) ∷ []) n Sum

-- How many bytes follow the number of such a kernel.
abbrev bytes_after : ℕ → ℕ
bytes_after n = if nat_eq n 11 then 2 else 0

-- The kernel is `Affine` with these numbers.
record IsAffine (k : Kernel) : Type 0 where
  a : ℤ
  b : ℤ
  d : ℤ
  is : k ≡ Affine a b d

-- The kernel is another: its bytes are its number, and no more than two after it.
record IsPlain (k : Kernel) : Type 0 where
  code : ℕ
  after : List ℕ
  least : 2 ≤ code
  long : length after ≡ bytes_after code
  few : length after ≤ 2
  bytes : kernel_bytes k ≡ code ∷ after
  is : plain code after ≡ k

kind : (k : Kernel) → IsAffine k ⊎ IsPlain k
kind (Affine a b d) = inl (record { a = a; b = b; d = d; is = refl })
kind Sum = inr (record { code = 2; after = []; least = lit≤ tt; long = refl; few = lit≤ tt; bytes = refl; is = refl })
kind Mean = inr (record { code = 3; after = []; least = lit≤ tt; long = refl; few = lit≤ tt; bytes = refl; is = refl })
kind Least = inr (record { code = 4; after = []; least = lit≤ tt; long = refl; few = lit≤ tt; bytes = refl; is = refl })
kind Greatest = inr (record { code = 5; after = []; least = lit≤ tt; long = refl; few = lit≤ tt; bytes = refl; is = refl })
kind Count = inr (record { code = 6; after = []; least = lit≤ tt; long = refl; few = lit≤ tt; bytes = refl; is = refl })
kind Delta = inr (record { code = 7; after = []; least = lit≤ tt; long = refl; few = lit≤ tt; bytes = refl; is = refl })
kind Minus = inr (record { code = 8; after = []; least = lit≤ tt; long = refl; few = lit≤ tt; bytes = refl; is = refl })
kind Angle = inr (record { code = 9; after = []; least = lit≤ tt; long = refl; few = lit≤ tt; bytes = refl; is = refl })
kind Hold = inr (record { code = 10; after = []; least = lit≤ tt; long = refl; few = lit≤ tt; bytes = refl; is = refl })
kind (Cell which p) = inr (record { code = 11; after = which ∷ p ∷ []; least = lit≤ tt; long = refl; few = lit≤ tt; bytes = refl; is = refl })

-- The bytes of `Affine`, with more bytes after them.
affine_bytes : (k : Kernel) (h : IsAffine k) (x : List ℕ) → kernel_bytes k ++ x ≡ 1 ∷ (signed h.a ++ (signed h.b ++ (signed h.d ++ x)))
affine_bytes k h x =
    ap (λ (l : Kernel). kernel_bytes l ++ x) h.is ∙ ap (λ (l : List ℕ). 1 ∷ l) (append_assoc (signed h.a) (signed h.b ++ signed h.d) x ∙ ap (λ (l : List ℕ). signed h.a ++ l) (append_assoc (signed h.b) (signed h.d) x))

-- The bytes of another kernel, with more bytes after them.
plain_bytes : (k : Kernel) (h : IsPlain k) (x : List ℕ) → kernel_bytes k ++ x ≡ h.code ∷ (h.after ++ x)
plain_bytes k h x = ap (λ (l : List ℕ). l ++ x) h.bytes

affine_once : (k l : Kernel) (x y : List ℕ) (h : IsAffine k) (j : IsAffine l) → KernelFits k → KernelFits l → kernel_bytes k ++ x ≡ kernel_bytes l ++ y → (k ≡ l) × (x ≡ y)
affine_once k l x y h j k_fits l_fits same =
    let f = subst KernelFits h.is k_fits in
    let g = subst KernelFits j.is l_fits in
    let after = tails 1 1 (signed h.a ++ (signed h.b ++ (signed h.d ++ x))) (signed j.a ++ (signed j.b ++ (signed j.d ++ y))) (sym (affine_bytes k h x) ∙ same ∙ affine_bytes l j y) in
    let one = signed_once h.a j.a (signed h.b ++ (signed h.d ++ x)) (signed j.b ++ (signed j.d ++ y)) f.0 g.0 after in
    let two = signed_once h.b j.b (signed h.d ++ x) (signed j.d ++ y) f.1 g.1 one.1 in
    let three = signed_once h.d j.d x y f.2 g.2 two.1 in
    (h.is ∙ (λ i. Affine (one.0 i) (two.0 i) (three.0 i)) ∙ sym j.is, three.1)

plain_once : (k l : Kernel) (x y : List ℕ) (h : IsPlain k) (j : IsPlain l) → kernel_bytes k ++ x ≡ kernel_bytes l ++ y → (k ≡ l) × (x ≡ y)
plain_once k l x y h j same =
    let both = sym (plain_bytes k h x) ∙ same ∙ plain_bytes l j y in
    let code = heads h.code j.code (h.after ++ x) (j.after ++ y) both in
    let parts = same_parts h.after j.after x y (h.long ∙ ap bytes_after code ∙ sym j.long) (tails h.code j.code (h.after ++ x) (j.after ++ y) both) in
    (sym h.is ∙ (λ i. plain (code i) (parts.0 i)) ∙ j.is, parts.1)

-- `Affine` and another kernel have other bytes.
apart : (k l : Kernel) (x y : List ℕ) (h : IsAffine k) (j : IsPlain l) → kernel_bytes k ++ x ≡ kernel_bytes l ++ y → ⊥
apart k l x y h j same =
    omega (arith, j.least, heads 1 j.code (signed h.a ++ (signed h.b ++ (signed h.d ++ x))) (j.after ++ y) (sym (affine_bytes k h x) ∙ same ∙ plain_bytes l j y))

-- The bytes determine the kernel.
pub kernel_once : (k l : Kernel) (x y : List ℕ) → KernelFits k → KernelFits l → kernel_bytes k ++ x ≡ kernel_bytes l ++ y → (k ≡ l) × (x ≡ y)
kernel_once k l x y k_fits l_fits same =
    elim (kind k) [
      | inl h ↦ elim (kind l) [
        | inl j ↦ affine_once k l x y h j k_fits l_fits same
        | inr j ↦ absurd (apart k l x y h j same)
      ]
      | inr h ↦ elim (kind l) [
        | inl j ↦ absurd (apart l k y x j h (sym same))
        | inr j ↦ plain_once k l x y h j same
      ]
    ]

-- The number 1 and fewer bytes than three numbers take are no kernel's.
pub short_affine : (after : List ℕ) → length after < 24 → (k : Kernel) (rest : List ℕ) → 1 ∷ after ≡ kernel_bytes k ++ rest → ⊥
short_affine after short k rest same =
    elim (kind k) [
      | inl h ↦
          let long = ap (length {A = ℕ}) (tails 1 1 after (signed h.a ++ (signed h.b ++ (signed h.d ++ rest))) (same ∙ affine_bytes k h rest)) in
          omega (arith, short, long, length-append (signed h.a) (signed h.b ++ (signed h.d ++ rest)), length-append (signed h.b) (signed h.d ++ rest), length-append (signed h.d) rest, length-signed h.a, length-signed h.b, length-signed h.d)
      | inr h ↦ omega (arith, h.least, heads 1 h.code after (h.after ++ rest) (same ∙ plain_bytes k h rest))
    ]

-- The number 11 and fewer bytes than two are no kernel's.
pub short_cell : (after : List ℕ) → length after < 2 → (k : Kernel) (rest : List ℕ) → 11 ∷ after ≡ kernel_bytes k ++ rest → ⊥
short_cell after short k rest same =
    elim (kind k) [
      | inl h ↦ omega (arith, heads 11 1 after (signed h.a ++ (signed h.b ++ (signed h.d ++ rest))) (same ∙ affine_bytes k h rest))
      | inr h ↦
          let both = same ∙ plain_bytes k h rest in
          let long = ap (length {A = ℕ}) (tails 11 h.code after (h.after ++ rest) both) in
          let two : length h.after ≡ 2 = h.long ∙ ap bytes_after (sym (heads 11 h.code after (h.after ++ rest) both)) in
          omega (arith, short, long, two, length-append h.after rest)
    ]

pub length-affine : (a b d : ℤ) → length (kernel_bytes (Affine a b d)) ≡ 25
length-affine a b d =
    omega (arith, length-append (signed a) (signed b ++ signed d), length-append (signed b) (signed d), length-signed a, length-signed b, length-signed d)

pub length-kernel : (k : Kernel) → length (kernel_bytes k) ≤ 25
length-kernel k =
    elim (kind k) [
      | inl h ↦ omega (arith, ap (λ (l : Kernel). length (kernel_bytes l)) h.is, length-affine h.a h.b h.d)
      | inr h ↦ omega (arith, h.few, ap (length {A = ℕ}) h.bytes)
    ]

-- ---- one number or two

pub length-one : (w : Width) (limit : ℕ) → IsWide w limit → (a : ℕ) → length (one_or_two w a None) ≡ 1 + byte_len w
length-one w limit wide a = omega (arith, wide.len a)

pub length-two : (w : Width) (limit : ℕ) → IsWide w limit → (a b : ℕ) → length (one_or_two w a (Some b)) ≡ 1 + 2 * byte_len w
length-two w limit wide a b = omega (arith, wide.len a, wide.len b, length-append (number w a) (number w b))

-- The bytes determine the numbers.
pub numbers_once : (w : Width) (limit : ℕ) → IsWide w limit → (a c : ℕ) (b d : Option ℕ) (x y : List ℕ) → a < limit → c < limit → IfSome b (λ n. n < limit) → IfSome d (λ n. n < limit) → one_or_two w a b ++ x ≡ one_or_two w c d ++ y → (a ≡ c) × (b ≡ d) × (x ≡ y)
numbers_once w limit wide a c None None x y a_fits c_fits b_fits d_fits same =
    let one = number_once w limit wide a c x y a_fits c_fits (tails 1 1 (number w a ++ x) (number w c ++ y) same) in
    (one.0, refl, one.1)
numbers_once w limit wide a c None (Some d) x y a_fits c_fits b_fits d_fits same =
    absurd (omega (arith, heads 1 2 (number w a ++ x) ((number w c ++ number w d) ++ y) same))
numbers_once w limit wide a c (Some b) None x y a_fits c_fits b_fits d_fits same =
    absurd (omega (arith, heads 2 1 ((number w a ++ number w b) ++ x) (number w c ++ y) same))
numbers_once w limit wide a c (Some b) (Some d) x y a_fits c_fits b_fits d_fits same =
    let after = tails 2 2 ((number w a ++ number w b) ++ x) ((number w c ++ number w d) ++ y) same in
    let one = number_once w limit wide a c (number w b ++ x) (number w d ++ y) a_fits c_fits (sym (append_assoc (number w a) (number w b) x) ∙ after ∙ append_assoc (number w c) (number w d) y) in
    let two = number_once w limit wide b d x y b_fits d_fits one.1 in
    (one.0, ap Some two.0, two.1)

pub length-numbers : (w : Width) (limit : ℕ) → IsWide w limit → (a : ℕ) (o : Option ℕ) → length (one_or_two w a o) ≤ 1 + 2 * byte_len w
length-numbers w limit wide a None = omega (arith, length-one w limit wide a)
length-numbers w limit wide a (Some b) = omega (arith, length-two w limit wide a b)

-- How many numbers there are.
abbrev pub count_of : Option ℕ → ℕ
count_of None = 1
count_of (Some b) = 2

-- The bytes of the second number, if there is one.
abbrev pub second_of : Width → Option ℕ → List ℕ
second_of w None = []
second_of w (Some b) = number w b

numbers_parts : (w : Width) (a : ℕ) (b : Option ℕ) (rest : List ℕ) → one_or_two w a b ++ rest ≡ count_of b ∷ (number w a ++ (second_of w b ++ rest))
numbers_parts w a None rest = refl
numbers_parts w a (Some b) rest = ap (λ (l : List ℕ). 2 ∷ l) (append_assoc (number w a) (number w b) rest)

-- The first byte is the count, and the first number follows.
pub after_count : (w : Width) (a : ℕ) (b : Option ℕ) (rest : List ℕ) (count : ℕ) (after : List ℕ) → count ∷ after ≡ one_or_two w a b ++ rest → (count ≡ count_of b) × (after ≡ number w a ++ (second_of w b ++ rest))
after_count w a b rest count after same =
    let both = same ∙ numbers_parts w a b rest in
    (heads count (count_of b) after (number w a ++ (second_of w b ++ rest)) both, tails count (count_of b) after (number w a ++ (second_of w b ++ rest)) both)

-- Fewer bytes than the first number takes are not those of one number or two.
pub short_first : (w : Width) (limit : ℕ) → IsWide w limit → (bytes : List ℕ) (count : ℕ) (after : List ℕ) → bytes ≡ count ∷ after → length after < byte_len w → (a : ℕ) (b : Option ℕ) (rest : List ℕ) → bytes ≡ one_or_two w a b ++ rest → ⊥
short_first w limit wide bytes count after is short a b rest same =
    let parts = after_count w a b rest count after (sym is ∙ same) in
    omega (arith, short, ap (length {A = ℕ}) parts.1, length-append (number w a) (second_of w b ++ rest), wide.len a)

length-second : (w : Width) (limit : ℕ) → IsWide w limit → (b : Option ℕ) → 2 ≡ count_of b → length (second_of w b) ≡ byte_len w
length-second w limit wide None two = absurd (omega arith)
length-second w limit wide (Some b) two = wide.len b

-- Fewer bytes after the first number than the second takes are not those of two numbers.
pub short_second : (w : Width) (limit : ℕ) → IsWide w limit → (bytes : List ℕ) (count : ℕ) (after : List ℕ) (n : ℕ) (last : List ℕ) → bytes ≡ count ∷ after → count ≡ 2 → after ≡ number w n ++ last → length last < byte_len w → (a : ℕ) (b : Option ℕ) (rest : List ℕ) → bytes ≡ one_or_two w a b ++ rest → ⊥
short_second w limit wide bytes count after n last is two first short a b rest same =
    let parts = after_count w a b rest count after (sym is ∙ same) in
    omega (arith, short, ap (length {A = ℕ}) first, ap (length {A = ℕ}) parts.1, length-append (number w n) last, length-append (number w a) (second_of w b ++ rest), length-append (second_of w b) rest, wide.len n, wide.len a, length-second w limit wide b (sym two ∙ parts.0))

-- ---- specs

pub length-spec : (s : Spec) → length (kernel_bytes s.kernel) + 9 + length (one_or_two w32 s.first s.second) ≡ length (spec_bytes s)
length-spec s =
    omega (arith, length-append (kernel_bytes s.kernel) (number w64 s.lead ++ (s.grain ∷ one_or_two w32 s.first s.second)), length-append (number w64 s.lead) (s.grain ∷ one_or_two w32 s.first s.second), wide64.len s.lead)

-- The numbers of a good spec fit in their bytes.
pub good_lead : (s : Spec) → IsSpec s → s.lead < 2 ^ 64
good_lead s h =
    let windows = nat_le s.grain 62 && windows_fit (window_kernel s.kernel) s.lead in
    let parts = and_parts (if has_second s.kernel then is_some s.second else not (is_some s.second)) (divides_well s.kernel && (nat_le s.lead (2 ^ 60) && windows)) h.good in
    let last = and_parts (divides_well s.kernel) (nat_le s.lead (2 ^ 60) && windows) parts.1 in
    let lead = (and_parts (nat_le s.lead (2 ^ 60)) windows last.1).0 in
    grind (arith, nat_tests)

-- The bytes after the lead of a spec, and those after its kernel, with more bytes after them.
abbrev pub after_lead : Spec → List ℕ → List ℕ
after_lead s rest = s.grain ∷ (one_or_two w32 s.first s.second ++ rest)

abbrev pub after_kernel : Spec → List ℕ → List ℕ
after_kernel s rest = number w64 s.lead ++ after_lead s rest

-- The bytes of a spec, with more bytes after them.
pub spec_parts : (s : Spec) (rest : List ℕ) → spec_bytes s ++ rest ≡ kernel_bytes s.kernel ++ after_kernel s rest
spec_parts s rest =
    append_assoc (kernel_bytes s.kernel) (number w64 s.lead ++ (s.grain ∷ one_or_two w32 s.first s.second)) rest ∙ ap (λ (l : List ℕ). kernel_bytes s.kernel ++ l) (append_assoc (number w64 s.lead) (s.grain ∷ one_or_two w32 s.first s.second) rest)

-- A spec that was read from the bytes of a good spec is that spec, and the same bytes follow.
pub spec_read : (bytes r0 r1 r2 r3 rest : List ℕ) (made s : Spec) → KernelFits made.kernel → made.lead < 2 ^ 64 → made.first < 2 ^ 32 → IfSome made.second (λ n. n < 2 ^ 32) → bytes ≡ kernel_bytes made.kernel ++ r0 → r0 ≡ number w64 made.lead ++ r1 → r1 ≡ made.grain ∷ r2 → r2 ≡ one_or_two w32 made.first made.second ++ r3 → IsSpec s → bytes ≡ spec_bytes s ++ rest → (made ≡ s) × (r3 ≡ rest)
spec_read bytes r0 r1 r2 r3 rest made s kernel_fits lead_fits first_fits second_fits kernel_is lead_is grain_is inputs_are h same =
    let kernels = kernel_once made.kernel s.kernel r0 (after_kernel s rest) kernel_fits h.kernel_fits (sym kernel_is ∙ same ∙ spec_parts s rest) in
    let leads = number_once w64 (2 ^ 64) wide64 made.lead s.lead r1 (after_lead s rest) lead_fits (good_lead s h) (sym lead_is ∙ kernels.1) in
    let grains = heads made.grain s.grain r2 (one_or_two w32 s.first s.second ++ rest) (sym grain_is ∙ leads.1) in
    let inputs = tails made.grain s.grain r2 (one_or_two w32 s.first s.second ++ rest) (sym grain_is ∙ leads.1) in
    let numbers = numbers_once w32 (2 ^ 32) wide32 made.first s.first made.second s.second r3 rest first_fits h.first_fits second_fits h.second_fits (sym inputs_are ∙ inputs) in
    (λ i. record { kernel = kernels.0 i; lead = leads.0 i; grain = grains i; first = numbers.0 i; second = numbers.1 i }, numbers.2)

-- After the kernel that was read follow the lead and the rest of the spec.
pub kernel_read : (bytes after : List ℕ) (k : Kernel) (s : Spec) (rest : List ℕ) → KernelFits k → bytes ≡ kernel_bytes k ++ after → IsSpec s → bytes ≡ spec_bytes s ++ rest → after ≡ after_kernel s rest
kernel_read bytes after k s rest fits is h same = (kernel_once k s.kernel after (after_kernel s rest) fits h.kernel_fits (sym is ∙ same ∙ spec_parts s rest)).1

-- After the lead that was read follow the grain and the inputs.
pub lead_read : (bytes after : List ℕ) (n : ℕ) (s : Spec) (rest : List ℕ) → n < 2 ^ 64 → bytes ≡ number w64 n ++ after → IsSpec s → bytes ≡ after_kernel s rest → after ≡ after_lead s rest
lead_read bytes after n s rest fits is h same =
    (number_once w64 (2 ^ 64) wide64 n s.lead after (after_lead s rest) fits (good_lead s h) (sym is ∙ same)).1

-- The bytes determine the spec.
pub spec_once : (s t : Spec) (x y : List ℕ) → IsSpec s → IsSpec t → spec_bytes s ++ x ≡ spec_bytes t ++ y → (s ≡ t) × (x ≡ y)
spec_once s t x y h j same =
    spec_read (spec_bytes s ++ x) (after_kernel s x) (after_lead s x) (one_or_two w32 s.first s.second ++ x) x y s t h.kernel_fits (good_lead s h) h.first_fits h.second_fits (spec_parts s x) refl refl refl j same

-- ---- reads

version_fits : (o : Option ℕ) → IfSome o (λ n. n ≤ MAX_VERSIONS) → IfSome o (λ n. n < 2 ^ 64)
version_fits None h = tt
version_fits (Some n) h = omega arith

-- The bytes determine the reads.
pub reads_once : (r s : Reads) (x y : List ℕ) → AreVersions r → AreVersions s → reads_bytes r ++ x ≡ reads_bytes s ++ y → (r ≡ s) × (x ≡ y)
reads_once r s x y h j same =
    let numbers = numbers_once w64 (2 ^ 64) wide64 r.first s.first r.second s.second x y (omega (arith, h.first)) (omega (arith, j.first)) (version_fits r.second h.second) (version_fits s.second j.second) same in
    (λ i. record { first = numbers.0 i; second = numbers.1 i }, numbers.2)

-- After the first version that was read follows the second, if there is one.
pub second_read : (bytes : List ℕ) (count : ℕ) (after : List ℕ) (n : ℕ) (last : List ℕ) → bytes ≡ count ∷ after → n ≤ MAX_VERSIONS → after ≡ number w64 n ++ last → (r : Reads) (rest : List ℕ) → AreVersions r → bytes ≡ reads_bytes r ++ rest → last ≡ second_of w64 r.second ++ rest
second_read bytes count after n last is fits first r rest h same =
    let parts = after_count w64 r.first r.second rest count after (sym is ∙ same) in
    (number_once w64 (2 ^ 64) wide64 n r.first last (second_of w64 r.second ++ rest) (omega arith) (omega (arith, h.first)) (sym first ∙ parts.1)).1

-- If no version follows, the bytes are not those of two versions.
pub no_second : (o : Option ℕ) (last rest : List ℕ) → 2 ≡ count_of o → IfSome o (λ n. n ≤ MAX_VERSIONS) → last ≡ second_of w64 o ++ rest → ((n : ℕ) (rest : List ℕ) → n ≤ MAX_VERSIONS → last ≡ number w64 n ++ rest → ⊥) → ⊥
no_second None last rest two fits is none = absurd (omega arith)
no_second (Some b) last rest two fits is none = none b rest fits is
