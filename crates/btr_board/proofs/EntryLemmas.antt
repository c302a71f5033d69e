-- Lemmas on the first entry with an id.
use Rattle.std.specs.Prelude.{◌≡◌, ◌≢◌, ℕ, ◌+◌, ◌<◌, Bool, true, false, eqb, if◌then◌else◌, List, [], ◌∷◌, ◌++◌, length, take, get_or, Option, None, Some}
use Rattle.std.proofs.Common.{refl, sym, ap, ◌∙◌, eq-eqb}
use Rattle.std.proofs.lemmas.List.{take_more}
use Rattle.std.proofs.Math.Bool.{beq}
use Rattle.std.specs.Cmp.{booleans_Decides}
use Rattle.std.specs.Option.{option_or}
use Rattle.btr_board.specs.declared.index_node.IndexEntry.{IndexEntry}
use Rattle.btr_board.specs.Put.{put_at}
use Rattle.btr_board.specs.Numbers.{first, bit}
use Rattle.btr_board.proofs.PutLemmas.{put-is, test-not}

-- The entry's number, if the id is its id.
abbrev pub number_if : IndexEntry → ℕ → Option ℕ
number_if e j = if eqb e.id j then Some e.number else None

pub number-same : (e : IndexEntry) (j : ℕ) → e.id ≡ j → number_if e j ≡ Some e.number
number-same e j same = ap (λ b. if b then Some e.number else None) (eq-eqb e.id j same)

pub number-other : (e : IndexEntry) (j : ℕ) → e.id ≢ j → number_if e j ≡ None
number-other e j ne = ap (λ b. if b then Some e.number else None) (test-not e.id j (eqb e.id j) refl ne)

or-none : (o : Option ℕ) → option_or o None ≡ o
or-none None = refl
or-none (Some x) = refl

or-step : (b : Bool) (n : ℕ) (o p q : Option ℕ) → q ≡ option_or o p → (if b then Some n else q) ≡ option_or (if b then Some n else o) p
or-step true n o p q e = refl
or-step false n o p q e = e

-- The first of entries and one more.
pub first-more : (es : List IndexEntry) (e : IndexEntry) (j : ℕ) → first (es ++ e ∷ []) j ≡ option_or (first es j) (number_if e j)
first-more [] e j = refl
first-more (x ∷ es) e j = or-step (eqb x.id j) x.number (first es j) (number_if e j) (first (es ++ e ∷ []) j) (first-more es e j)

pub first-over : (es : List IndexEntry) (e : IndexEntry) (j : ℕ) → e.id ≢ j → first (es ++ e ∷ []) j ≡ first es j
first-over es e j ne =
    first-more es e j ∙ ap (option_or (first es j)) (number-other e j ne) ∙ or-none (first es j)

-- One entry more of those that were passed.
pub first-next : (es : List IndexEntry) (i : ℕ) (d e : IndexEntry) (j : ℕ) → i < length es → e ≡ get_or es i d → first (take (i + 1) es) j ≡ first (take i es ++ e ∷ []) j
first-next es i d e j lt is =
    ap (λ xs. first xs j) (take_more es i d lt ∙ ap (λ x. take i es ++ x ∷ []) (sym is))

-- The entries before a place whose bit is `one`.
pub record IsHalf (place : ℕ) (one : Bool) (part before : List IndexEntry) : Type 0 where
  pub same : (j : ℕ) → bit place j ≡ one → first part j ≡ first before j

pub half-taken : (place : ℕ) (one : Bool) (part after es : List IndexEntry) (i : ℕ) (d e : IndexEntry) → i < length es → e ≡ get_or es i d → after ≡ part ++ e ∷ [] → IsHalf place one part (take i es) → IsHalf place one after (take (i + 1) es)
half-taken place one part after es i d e lt is pushed half =
    record {
      same = λ j b. ap (λ xs. first xs j) pushed
          ∙ first-more part e j
          ∙ ap (λ o. option_or o (number_if e j)) (half.same j b)
          ∙ sym (first-more (take i es) e j)
          ∙ sym (first-next es i d e j lt is);
    }

wrong-half : (r one other : Bool) → beq r one ≡ false → r ≡ other → other ≡ one → ⊥
wrong-half r one other differ is same = let t = (booleans_Decides r one).1 (is ∙ same) in cc

pub half-left : (place : ℕ) (one : Bool) (part after es : List IndexEntry) (i : ℕ) (d e : IndexEntry) (r : Bool) → i < length es → e ≡ get_or es i d → after ≡ part → beq r one ≡ false → r ≡ bit place e.id → IsHalf place one part (take i es) → IsHalf place one after (take (i + 1) es)
half-left place one part after es i d e r lt is kept differ other half =
    record {
      same = λ j b. ap (λ xs. first xs j) kept
          ∙ half.same j b
          ∙ sym (first-over (take i es) e j (λ id. wrong-half r one (bit place e.id) differ other (ap (bit place) id ∙ b)))
          ∙ sym (first-next es i d e j lt is);
    }

-- The entries before a place but those with an id.
pub record AreOthers (id : ℕ) (others before : List IndexEntry) : Type 0 where
  pub none : first others id ≡ None
  pub same : (j : ℕ) → j ≢ id → first others j ≡ first before j

pub others-taken : (id : ℕ) (others after es : List IndexEntry) (i : ℕ) (d e : IndexEntry) → i < length es → e ≡ get_or es i d → after ≡ others ++ e ∷ [] → e.id ≢ id → AreOthers id others (take i es) → AreOthers id after (take (i + 1) es)
others-taken id others after es i d e lt is pushed ne h =
    record {
      none = ap (λ xs. first xs id) pushed ∙ first-over others e id ne ∙ h.none;
      same = λ j other. ap (λ xs. first xs j) pushed
          ∙ first-more others e j
          ∙ ap (λ o. option_or o (number_if e j)) (h.same j other)
          ∙ sym (first-more (take i es) e j)
          ∙ sym (first-next es i d e j lt is);
    }

pub others-left : (id : ℕ) (others after es : List IndexEntry) (i : ℕ) (d e : IndexEntry) → i < length es → e ≡ get_or es i d → after ≡ others → e.id ≡ id → AreOthers id others (take i es) → AreOthers id after (take (i + 1) es)
others-left id others after es i d e lt is kept eq h =
    record {
      none = ap (λ xs. first xs id) kept ∙ h.none;
      same = λ j other. ap (λ xs. first xs j) kept
          ∙ h.same j other
          ∙ sym (first-over (take i es) e j (λ e_is. other (sym e_is ∙ eq)))
          ∙ sym (first-next es i d e j lt is);
    }

-- The others, and a new entry at the end.
pub first-put : (others es : List IndexEntry) (e : IndexEntry) (j : ℕ) → AreOthers e.id others es → first (others ++ e ∷ []) j ≡ put_at e.id e.number (first es) j
first-put others es e j h =
    put-is e.id e.number (first es) j (first (others ++ e ∷ []) j) (λ same.
    first-more others e j
    ∙ ap (λ o. option_or o (number_if e j)) (ap (first others) same ∙ h.none)
    ∙ number-same e j (sym same)) (λ ne. first-over others e j (λ same. ne (sym same)) ∙ h.same j ne)
