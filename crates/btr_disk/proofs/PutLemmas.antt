-- Blocks that are put in pieces: a piece has the blocks of its source, and the pieces so far have all of them.
use Rattle.std.specs.Prelude.{◌≡◌, ℕ, ◌+◌, ◌-◌, ◌*◌, ◌/◌, ◌%◌, ◌<◌, ◌≤◌, List, [], ◌∷◌, Bool, true, false, not, ◌||◌, length, take, drop}
use Rattle.std.proofs.Common.{get_or, refl, zero, suc, sym, ◌∙◌, ap, subst, arith, ⊎_elim, length-take, length-drop, get_or-take, get_or-drop}
use Rattle.std.proofs.lemmas.Bool.{cases_lt}
use Rattle.std.specs.List.{list_any}
use Rattle.std.proofs.lemmas.List.{ext_get_or}
use Rattle.std.proofs.lemmas.List.Folds.{list_any_at}
use Rattle.std.specs.Int.{div_ceil}
use Rattle.std.proofs.lemmas.Grind.{div_ceil_times}
use Rattle.std.proofs.Math.Nat.{mul_comm, div-lt_iff_lt-mul, mul-div-le, lt-div-mul-add}
use Rattle.btr_disk.specs.Put.{block_at, HasBlocksFrom, HasBlocksBetween}

-- a block of a piece, by its number in the whole
block_in : (bytes : List ℕ) (first n k : ℕ) → 4096 * k + 4096 ≤ n → block_at (take n (drop (4096 * first) bytes)) k ≡ block_at bytes (first + k)
block_in bytes first n k fits =
    let a = 4096 * k in
    let b = 4096 * first in
    let rest = drop b bytes in
    let piece = take n rest in
    let place : b + a ≡ 4096 * (first + k) = omega arith in
    ext_get_or 0 (block_at piece k) (block_at bytes (first + k))
    (omega (arith, length-take 4096 (drop a piece), length-drop a piece, length-take n rest, length-drop b bytes, length-take 4096 (drop (4096 * (first + k)) bytes), length-drop (4096 * (first + k)) bytes))
    (λ j lt.
    let few : j < 4096 = omega (arith, length-take 4096 (drop a piece)) in
    let at : b + (a + j) ≡ 4096 * (first + k) + j = omega arith in
    get_or-take 4096 (drop a piece) j 0 few
    ∙ get_or-drop a piece j 0
    ∙ get_or-take n rest (a + j) 0 (omega arith)
    ∙ get_or-drop b bytes (a + j) 0
    ∙ ap (λ (i : ℕ). get_or bytes i 0) at
    ∙ sym (get_or-drop (4096 * (first + k)) bytes j 0)
    ∙ sym (get_or-take 4096 (drop (4096 * (first + k)) bytes) j 0 few))

module _ (has_block : ℕ → List ℕ → Type 0) (bytes : List ℕ) where
  -- a piece of the whole
  pub piece_put : (first n : ℕ) (piece : List ℕ) → n % 4096 ≡ 0 → piece ≡ take n (drop (4096 * first) bytes) → HasBlocksFrom has_block first piece → HasBlocksBetween has_block first (first + n / 4096) bytes
  piece_put first n piece whole is put i low high inside =
      let k = i - first in
      let number : first + k ≡ i = omega arith in
      let rest = drop (4096 * first) bytes in
      let long : length piece ≡ length (take n rest) = ap length is in
      let fits : 4096 * k + 4096 ≤ n = omega arith in
      let here : 4096 * k < length piece = omega (arith, long, length-take n rest, length-drop (4096 * first) bytes) in
      let same : block_at piece k ≡ block_at bytes i = ap (λ (p : List ℕ). block_at p k) is ∙ block_in bytes first n k fits ∙ ap (block_at bytes) number in
      subst (has_block i) same (subst (λ (m : ℕ). has_block m (block_at piece k)) number (put k here))

  -- one part, and then another
  pub parts_put : (from middle to : ℕ) → HasBlocksBetween has_block from middle bytes → HasBlocksBetween has_block middle to bytes → HasBlocksBetween has_block from to bytes
  parts_put from middle to low high i first last inside =
      ⊎_elim (λ below. low i first below inside) (λ above. high i above last inside) (cases_lt i middle)

-- the portion of a block, where portions of `each` blocks are no fewer than all blocks
portion_in : (each portions blocks i : ℕ) → blocks ≤ each * portions → i < blocks → (i / each < portions) × (each * (i / each) ≤ i) × (i < each * (i / each) + each)
portion_in zero portions blocks i enough inside = absurd (omega (arith, enough, inside))
portion_in (suc e) portions blocks i enough inside =
    let each = suc e in
    let some : 0 < each = omega arith in
    let below : i < portions * each = omega (arith, enough, inside, mul_comm each portions) in
    ((div-lt_iff_lt-mul some).1 below, mul-div-le i each, omega (arith, lt-div-mul-add {a = i} {b = each} some, mul_comm each (i / each)))

-- where the portions are cut as even as they go
pub portion_of : (each portions blocks i : ℕ) → 0 < portions → each ≡ div_ceil blocks portions → i < blocks → (i / each < portions) × (each * (i / each) ≤ i) × (i < each * (i / each) + each)
portion_of each portions blocks i some even inside =
    portion_in each portions blocks i (subst (λ (x : ℕ). blocks ≤ x * portions) (sym even) (div_ceil_times blocks portions some).0) inside

-- a number below n is below the length of the first n members of a longer list
pub below_taken : {A : Type 0} (n i : ℕ) (list : List A) → n ≤ length list → i < n → i < length (take n list)
below_taken n i list long below = omega (arith, length-take n list, long, below)

pub none_is : (is_any : Bool) → not is_any ≡ true → is_any ≡ false
none_is true is_not = sym is_not
none_is false is_not = refl

-- where no mark is false, each is true
module _ (is_false : Bool → Bool) (knows : is_false false ≡ true) (marks : List Bool) (i : ℕ) (inside : i < length marks) (none : list_any is_false marks ≡ false) where
  marked_is : (mark : Bool) → get_or marks i false ≡ mark → get_or marks i false ≡ true
  marked_is true is = is
  marked_is false is =
      let found : true ≡ false = sym (list_any_at is_false marks i false inside (ap is_false is ∙ knows)) ∙ none in
      cc

  pub all_marked : (mark : Bool) → mark ≡ get_or marks i false → mark ≡ true
  all_marked mark is = is ∙ marked_is (get_or marks i false) refl

pub some_is : (is_any : Bool) → not is_any ≡ false → is_any ≡ true
some_is true is_not = refl
some_is false is_not = sym is_not

-- where a mark is false, there is one of that kind
pub unmarked_at : (is_false : Bool → Bool) → is_false true ≡ false → (marks : List Bool) → list_any is_false marks ≡ true → (i : ℕ) × (i < length marks) × (get_or marks i false ≡ false)
unmarked_at is_false knows [] some = cc
unmarked_at is_false knows (true ∷ marks) some =
    let rest : list_any is_false marks ≡ true = sym (ap (λ (b : Bool). b || list_any is_false marks) knows) ∙ some in
    let found = unmarked_at is_false knows marks rest in
    (suc found.0, omega (arith, found.1), found.2)
unmarked_at is_false knows (false ∷ marks) some = (0, omega arith, refl)
