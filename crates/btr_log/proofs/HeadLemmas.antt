-- Lemmas on the bytes of a head: they give the head back, so no other head has them.
use Rattle.std.specs.Prelude.{◌≡◌, ℕ, ◌+◌, ◌^◌, ◌<◌, ◌≤◌, List, ◌++◌, length, take, drop}
use Rattle.std.proofs.Common.{refl, sym, ap, ◌∙◌, arith, inl, ⊎_elim}
use Rattle.std.proofs.lemmas.List.{take-append-drop}
use Rattle.std.proofs.lemmas.Nat.{from_be_bytes-to_be_bytes_4, from_be_bytes-to_be_bytes_8}
use Rattle.btr_disk.specs.Gate.{zeros}
use Rattle.btr_disk.specs.Numbers.{u32_at}
use Rattle.btr_log.specs.declared.head.Head.{Head}
use Rattle.btr_log.specs.Head.{content_blocks, head_bytes, head_at, entry_head, IsHead, Spells}

pub length-head_bytes : (head : Head) → length (head_bytes head) ≡ 64
unfolding head_bytes zeros
length-head_bytes head = refl

-- the fields are read at the places at which they are written
pub head_at-head_bytes : (head : Head) → IsHead head → head_at (head_bytes head) ≡ head
unfolding head_bytes head_at
head_at-head_bytes head is =
    let kind : head.kind < 2 ^ 32 = ⊎_elim (λ e. omega (arith, e.0)) (λ c. omega (arith, c.0)) is.kind in
    let format : head.format < 2 ^ 32 = omega (arith, is.format.1) in
    let fits = is.fits in
    let e1 = from_be_bytes-to_be_bytes_4 head.kind kind in
    let e2 = from_be_bytes-to_be_bytes_4 head.format format in
    let e3 = from_be_bytes-to_be_bytes_8 head.number fits.number in
    let e4 = from_be_bytes-to_be_bytes_8 head.n fits.n in
    let e5 = from_be_bytes-to_be_bytes_8 head.length fits.length in
    let e6 = from_be_bytes-to_be_bytes_8 head.nodes fits.nodes in
    let e7 = from_be_bytes-to_be_bytes_8 head.root fits.root in
    λ i. record { kind = e1 i; format = e2 i; number = e3 i; n = e4 i; length = e5 i; nodes = e6 i; root = e7 i }

-- a head's spelling is no other head's
pub head_bytes-one : (first second : Head) → IsHead first → IsHead second → head_bytes first ≡ head_bytes second → first ≡ second
head_bytes-one first second is is_too same =
    sym (head_at-head_bytes first is) ∙ ap head_at same ∙ head_at-head_bytes second is_too

pub Spells-one : (bytes : List ℕ) (first second : Head) → Spells bytes first → Spells bytes second → first ≡ second
Spells-one bytes first second one other =
    head_bytes-one first second one.is_head other.is_head (sym one.spelling ∙ other.spelling)

-- the format is read in the bytes of a body, which begin with the head's
pub format-head : (head : Head) (rest : List ℕ) → IsHead head → u32_at 12 (head_bytes head ++ rest) ≡ head.format
unfolding head_bytes
format-head head rest is = from_be_bytes-to_be_bytes_4 head.format (omega (arith, is.format.1))

pub format-spells : (body : List ℕ) (head : Head) → Spells (take 64 body) head → u32_at 12 body ≡ head.format
format-spells body head spells =
    ap (u32_at 12) (sym (take-append-drop 64 body) ∙ ap (λ l. l ++ drop 64 body) spells.spelling) ∙ format-head head (drop 64 body) spells.is_head

-- the head of an entry keeps the grammar
pub IsHead-entry_head : (format number length nodes root : ℕ) → 1 ≤ format → format ≤ 4 → 1 ≤ number → number < 2 ^ 64 → length < 2 ^ 64
    → content_blocks length + nodes < 2 ^ 64 → root < 2 ^ 64 → IsHead (entry_head format number length nodes root)
IsHead-entry_head format number length nodes root some known least most few fit low = record {
  kind = inl (refl, least);
  format = (some, known);
  blocks = refl;
  fits = record { number = most; n = fit; length = few; nodes = omega (arith, fit); root = low };
}
