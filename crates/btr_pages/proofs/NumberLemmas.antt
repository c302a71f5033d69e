-- Lemmas on the table of numbers: it finds each tree, also after a tree was added.
use Rattle.std.specs.Prelude.{◌≡◌, ℕ, ◌+◌, ◌<◌, ◌≤◌, nat_eq, List, [], ◌∷◌, ◌++◌, length, get_or, slice_get, Some, None, IsNone, cond, true, false}
use Rattle.std.proofs.Common.{zero, suc, refl, sym, ap, ◌∙◌, subst, arith, set, get_or-set_same, get_or-set_other, length-append}
use Rattle.std.proofs.lemmas.Bool.Decides.{nat_tests}
use Rattle.btr_pages.specs.Known.{KnownValue, TreesValue, node_at}
use Rattle.btr_pages.specs.Made.{table_number, numbered, IsTable}

-- ---- the list with one tree more

pub added-other : (nodes : TreesValue) (k : KnownValue) (b : ℕ) → (k.block ≡ b → ⊥) → node_at (nodes ++ k ∷ []) b ≡ node_at nodes b
added-other [] k b ne =
    let no : nat_eq k.block b ≡ false = grind (arith, nat_tests) in ap (λ t. cond t (Some k) None) no
added-other (n ∷ ns) k b ne = ap (λ o. cond (nat_eq n.block b) (Some n) o) (added-other ns k b ne)

pub added-here : (nodes : TreesValue) (k : KnownValue) → node_at nodes k.block ≡ None → node_at (nodes ++ k ∷ []) k.block ≡ Some k
added-here [] k none =
    let yes : nat_eq k.block k.block ≡ true = grind (arith, nat_tests) in ap (λ t. cond t (Some k) None) yes
added-here (n ∷ ns) k none =
    elim (nat_eq n.block k.block) as (λ t. cond t (Some n) (node_at ns k.block) ≡ None → cond t (Some n) (node_at (ns ++ k ∷ []) k.block) ≡ Some k) [
      | true ↦ λ e. absurd (cc)
      | false ↦ λ e. added-here ns k e
    ] none

-- No tree is of a block that is fresh.
pub none-there : (nodes : TreesValue) (b : ℕ) → IsNone (node_at nodes b) → node_at nodes b ≡ None
none-there nodes b fresh =
    elim (node_at nodes b) as (λ o. IsNone o → o ≡ None) [ None ↦ λ e. refl | Some k ↦ λ e. absurd (cc) ] fresh

-- ---- numbers

numbered-more : (nodes : TreesValue) (k : KnownValue) (n : ℕ) → n ≤ length nodes → numbered (nodes ++ k ∷ []) n ≡ numbered nodes n
numbered-more nodes k zero le = refl
numbered-more [] k (suc n) le = absurd (omega arith)
numbered-more (m ∷ ms) k (suc zero) le = refl
numbered-more (m ∷ ms) k (suc (suc n)) le = numbered-more ms k (suc n) (omega arith)

last : (ns : TreesValue) (k : KnownValue) → slice_get (ns ++ k ∷ []) (length ns) ≡ Some k
last [] k = refl
last (m ∷ ms) k = last ms k

numbered-last : (nodes : TreesValue) (k : KnownValue) → numbered (nodes ++ k ∷ []) (length nodes + 1) ≡ Some k
numbered-last nodes k =
    ap (numbered (nodes ++ k ∷ [])) (let e : length nodes + 1 ≡ suc (length nodes) = omega arith in e) ∙ last nodes k

-- ---- the table

-- A table with the same numbers.
pub table-along : (nodes : TreesValue) (t u : List ℕ) → IsTable nodes t → ((j : ℕ) → get_or u j 0 ≡ get_or t j 0) → IsTable nodes u
table-along nodes t u is same =
    record {
      each = λ b. is.each b ∙ sym (ap (numbered nodes) (same b));
      within = λ b. subst (λ n. n ≤ length nodes) (sym (same b)) (is.within b);
    }

longer : (nodes : TreesValue) (k : KnownValue) → length (nodes ++ k ∷ []) ≡ length nodes + 1
longer nodes k = length-append nodes (k ∷ [])

table-more : (nodes : TreesValue) (t : List ℕ) (k : KnownValue) → IsTable nodes t → IsNone (node_at nodes k.block) → k.block < length t → IsTable (nodes ++ k ∷ []) (set t k.block (length nodes + 1))
table-more nodes t k is fresh long =
    let n = length nodes + 1 in
    record {
      each = λ c.
          elim (nat_eq k.block c) as (λ u. nat_eq k.block c ≡ u → node_at (nodes ++ k ∷ []) c ≡ numbered (nodes ++ k ∷ []) (table_number (set t k.block n) c)) [
            | true ↦ λ e.
                let same : k.block ≡ c = grind (arith, nat_tests) in
                subst (λ c. node_at (nodes ++ k ∷ []) c ≡ numbered (nodes ++ k ∷ []) (table_number (set t k.block n) c)) same (added-here nodes k (none-there nodes k.block fresh) ∙ sym (ap (numbered (nodes ++ k ∷ [])) (get_or-set_same t k.block n 0 long) ∙ numbered-last nodes k))
            | false ↦ λ e.
                let ne : k.block ≡ c → ⊥ = grind (arith, nat_tests) in
                added-other nodes k c ne
                ∙ is.each c
                ∙ sym (ap (numbered (nodes ++ k ∷ [])) (get_or-set_other t k.block c n 0 (λ same. ne (sym same))) ∙ numbered-more nodes k (table_number t c) (is.within c))
          ] refl;
      within = λ c.
          elim (nat_eq k.block c) as (λ u. nat_eq k.block c ≡ u → table_number (set t k.block n) c ≤ length (nodes ++ k ∷ [])) [
            | true ↦ λ e.
                let same : k.block ≡ c = grind (arith, nat_tests) in
                let is : table_number (set t k.block n) c ≡ n = subst (λ c. table_number (set t k.block n) c ≡ n) same (get_or-set_same t k.block n 0 long) in
                let more = longer nodes k in
                omega arith
            | false ↦ λ e.
                let ne : k.block ≡ c → ⊥ = grind (arith, nat_tests) in
                let other = get_or-set_other t k.block c n 0 (λ same. ne (sym same)) in
                let le = is.within c in
                let more = longer nodes k in
                omega arith
          ] refl;
    }

-- What a push of the code leaves.
pub table-pushed : (nodes old new : TreesValue) (block number : ℕ) (t u : List ℕ) (k : KnownValue) → IsTable nodes t → nodes ≡ old → IsNone (node_at old k.block) → block ≡ k.block → ((j : ℕ) → get_or u j 0 ≡ get_or t j 0) → block < length u → number ≡ length nodes + 1 → new ≡ nodes ++ k ∷ [] → IsTable new (set u block number)
table-pushed nodes old new block number t u k is from fresh at same long n to =
    subst (λ xs. IsTable xs (set u block number)) (sym to) (subst (λ m. IsTable (nodes ++ k ∷ []) (set u block m)) (sym n) (subst (λ b. IsTable (nodes ++ k ∷ []) (set u b (length nodes + 1))) (sym at) (table-more nodes u k (table-along nodes t u is same) (subst (λ xs. IsNone (node_at xs k.block)) (sym from) fresh) (subst (λ b. b < length u) at long))))

-- The table of no trees.
no-trees : IsTable [] []
no-trees = record { each = λ b. refl; within = λ b. omega arith }

pub table-new : (nodes : TreesValue) (t : List ℕ) → nodes ≡ [] → t ≡ [] → IsTable nodes t
table-new nodes t none empty = subst (λ xs. IsTable xs t) (sym none) (subst (IsTable []) (sym empty) no-trees)
