-- Rows that a parse finds, and the numbers and flags that they stand for.
use Rattle.std.proofs.Common.{◌≡◌, ◌≤◌, ◌&&◌, ◌||◌, ◌++◌, ℕ, Bool, true, false, not, cond, List, [], ◌∷◌, Option, Some, None, refl, sym, ap, ◌∙◌, subst, arith, codes, nat_lt, nat_le, ◌^◌}
use Rattle.std.specs.Prelude.{find}
use Rattle.std.specs.Prelude.{is_some}
use Rattle.std.specs.Option.{option_and_then, option_map_or}
use Rattle.std.specs.Str.{bytes_eq}
use Rattle.std.specs.Str.Parse.{digits_value, without_leading_plus}
use Rattle.std.proofs.lemmas.Slice.Eq.{bytes_eq-Decides}
use Rattle.std.proofs.lemmas.Bool.{leb-true, le-leb}
use Rattle.clap.specs.ValueTests.{is_numeral, is_unsigned_in}
use Rattle.clap.specs.Walk.{Row, Text, at_row, has_row, row_text}
use Rattle.clap.proofs.WalkLemmas.{both}
use Rattle.clap.specs.declared.builder.value_parser.Reading.TheVariants as reading
use Rattle.clap.specs.declared.parser.matches.ValueSource.TheVariants.{CommandLine}
use Rattle.btr_words.specs.Words.{Argument, Found, Takes, argument_named, is_found, number_for, number_of, others}
use Rattle.btr_words.specs.Words.{between, nothing}
use Rattle.btr_words.specs.Program.{flag_in, number_in}

-- What the words found of an argument.
abbrev pub row : Text → Text → Row
row name text = record { id = name; values = text ∷ []; count = None; source = Some CommandLine; reading = reading.AsWritten }

-- ---- numbers

wider : (low high big : ℕ) (text : Text) → high ≤ big → is_unsigned_in low high text ≡ true → is_unsigned_in 0 big text ≡ true
wider low high big text le h =
    let n = digits_value 10 (without_leading_plus text) in
    let a = both (is_numeral (without_leading_plus text)) (nat_lt n (2 ^ 64) && (nat_le low n && nat_le n high)) h in
    let b = both (nat_lt n (2 ^ 64)) (nat_le low n && nat_le n high) a.1 in
    let c = both (nat_le low n) (nat_le n high) b.1 in
    let most : digits_value 10 (without_leading_plus text) ≤ high = leb-true _ _ c.1 in
    rw (a.0, b.0, le-leb 0 (digits_value 10 (without_leading_plus text)) (omega arith), le-leb (digits_value 10 (without_leading_plus text)) big (omega arith)) refl

-- A text that is a number is one within wider bounds too.
reads_in : (low high big : ℕ) (text : Text) (n : ℕ) → high ≤ big → number_of low high text ≡ Some n → number_of 0 big text ≡ Some n
reads_in low high big text n le h = go (is_unsigned_in low high text) refl h
  where
    go : (b : Bool) → is_unsigned_in low high text ≡ b → cond b (Some (digits_value 10 (without_leading_plus text))) None ≡ Some n → number_of 0 big text ≡ Some n
    go true e is = ap (λ (b : Bool). cond b (Some (digits_value 10 (without_leading_plus text))) None) (wider low high big text le e) ∙ is
    go false e is = absurd (cc)

-- ---- arguments by name

pub named_is : (name : Text) (arguments : List Argument) (a : Argument) → argument_named name arguments ≡ Some a → a.name ≡ name
named_is name [] a e = absurd (cc)
named_is name (x ∷ rest) a e = go (named_is name rest a) (bytes_eq x.name name) refl e
  where
    go : (argument_named name rest ≡ Some a → a.name ≡ name) → (b : Bool) → bytes_eq x.name name ≡ b → cond b (Some x) (argument_named name rest) ≡ Some a → a.name ≡ name
    go below true same is =
        let it : x ≡ a = cc in
        subst (λ (y : Argument). y.name ≡ name) it ((bytes_eq-Decides x.name name).0 same)
    go below false same is = below is

pub same_text : (name : Text) → bytes_eq name name ≡ true
same_text name = (bytes_eq-Decides name name).1 refl

-- The arguments of other names have none of this name, and as before those of each other name.
pub named_in_others : (left name : Text) (arguments : List Argument)
    → argument_named name (others left arguments) ≡ cond (bytes_eq left name) None (argument_named name arguments)
named_in_others left name [] = go (bytes_eq left name)
  where
    go : (b : Bool) → None ≡ cond b None (argument_named name [])
    go true = refl
    go false = refl
named_in_others left name (x ∷ rest) = go (named_in_others left name rest) (bytes_eq x.name left) refl (bytes_eq left name) refl (bytes_eq x.name name) refl
  where
    go : argument_named name (others left rest) ≡ cond (bytes_eq left name) None (argument_named name rest) → (b1 : Bool) → bytes_eq x.name left ≡ b1 → (b2 : Bool) → bytes_eq left name ≡ b2 → (b3 : Bool) → bytes_eq x.name name ≡ b3
        → argument_named name (cond (not b1) (x ∷ others left rest) (others left rest)) ≡ cond b2 None (cond b3 (Some x) (argument_named name rest))
    go below true e1 true e2 b3 e3 = below ∙ ap (λ (b : Bool). cond b None (argument_named name rest)) e2
    go below true e1 false e2 true e3 =
        let same : left ≡ name = sym ((bytes_eq-Decides x.name left).0 e1) ∙ (bytes_eq-Decides x.name name).0 e3 in
        let bad : true ≡ false = sym ((bytes_eq-Decides left name).1 same) ∙ e2 in
        absurd (cc)
    go below true e1 false e2 false e3 = below ∙ ap (λ (b : Bool). cond b None (argument_named name rest)) e2
    go below false e1 true e2 true e3 =
        let same : x.name ≡ left = (bytes_eq-Decides x.name name).0 e3 ∙ sym ((bytes_eq-Decides left name).0 e2) in
        let bad : true ≡ false = sym ((bytes_eq-Decides x.name left).1 same) ∙ e1 in
        absurd (cc)
    go below false e1 true e2 false e3 =
        ap (λ (b : Bool). cond b (Some x) (argument_named name (others left rest))) e3
        ∙ below ∙ ap (λ (b : Bool). cond b None (argument_named name rest)) e2
    go below false e1 false e2 true e3 = ap (λ (b : Bool). cond b (Some x) (argument_named name (others left rest))) e3
    go below false e1 false e2 false e3 =
        ap (λ (b : Bool). cond b (Some x) (argument_named name (others left rest))) e3
        ∙ below ∙ ap (λ (b : Bool). cond b None (argument_named name rest)) e2

-- ---- rows

pub has_row_more : (name : Text) (rows : List Row) (r : Row) → has_row name (rows ++ r ∷ []) ≡ has_row name rows || bytes_eq r.id name
has_row_more name [] r = go (bytes_eq r.id name)
  where
    go : (b : Bool) → b || false ≡ b
    go true = refl
    go false = refl
has_row_more name (x ∷ rows) r = go (has_row_more name rows r) (bytes_eq x.id name)
  where
    go : has_row name (rows ++ r ∷ []) ≡ has_row name rows || bytes_eq r.id name → (b : Bool) → b || has_row name (rows ++ r ∷ []) ≡ (b || has_row name rows) || bytes_eq r.id name
    go below true = refl
    go below false = below

-- Where there is no row of the name, the missing one comes last.
pub no_such_row : (name : Text) (change : Row → List Row) (missing rows : List Row) → has_row name rows ≡ false → at_row name change missing rows ≡ rows ++ missing
no_such_row name change missing [] h = refl
no_such_row name change missing (x ∷ rows) h = go (no_such_row name change missing rows) (bytes_eq x.id name) h
  where
    go : (has_row name rows ≡ false → at_row name change missing rows ≡ rows ++ missing) → (b : Bool) → b || has_row name rows ≡ false → cond b (change x ++ rows) (x ∷ at_row name change missing rows) ≡ x ∷ rows ++ missing
    go below true bad = absurd (cc)
    go below false e = ap (λ (l : List Row). x ∷ l) (below e)

-- ---- rows and what they stand for

-- What is found for an argument that takes this, by the text of its row.
abbrev pub Stands : Takes → Text → Option ℕ → Type 0
Stands (between low high) text (Some n) = number_of low high text ≡ Some n
Stands (between low high) text None = ⊥
Stands nothing text n = (text ≡ codes "true") × (n ≡ None)

-- The row was found for one of the arguments, and stands for this number, or for a flag.
pub record Read (arguments : List Argument) (r : Row) (p : Text × Option ℕ) : Type 0 where
  pub text : Text
  pub argument : Argument
  pub is : r ≡ row p.0 text
  pub named : argument_named p.0 arguments ≡ Some argument
  pub stands : Stands argument.takes text p.1

abbrev pub Reads : List Argument → List Row → Found → Type 0
Reads arguments [] [] = Unit {0}
Reads arguments [] (p ∷ found) = ⊥
Reads arguments (r ∷ rows) [] = ⊥
Reads arguments (r ∷ rows) (p ∷ found) = Read arguments r p × Reads arguments rows found

pub read_more : (arguments : List Argument) (rows : List Row) (found : Found) (r : Row) (p : Text × Option ℕ)
    → Reads arguments rows found → Read arguments r p → Reads arguments (rows ++ r ∷ []) (found ++ p ∷ [])
read_more arguments [] [] r p h one = (one, tt)
read_more arguments [] (q ∷ found) r p h one = absurd h
read_more arguments (x ∷ rows) [] r p h one = absurd h
read_more arguments (x ∷ rows) (q ∷ found) r p h one = (h.0, read_more arguments rows found r p h.1 one)

pub some_is : (x y : Argument) → Some x ≡ Some y → x ≡ y
some_is x y e = cc

-- What is read of the row of an argument is what was found for it.
read_is : {X : Type 0} → (G : Option Row → X) (H : Option (Text × Option ℕ) → X) (arguments : List Argument) (name : Text) (a : Argument)
    → G None ≡ H None → ((text : Text) (p : Text × Option ℕ) → Stands a.takes text p.1 → G (Some (row p.0 text)) ≡ H (Some p))
    → argument_named name arguments ≡ Some a → (rows : List Row) (found : Found) → Reads arguments rows found
    → G (find (λ r. bytes_eq r.id name) rows) ≡ H (find (λ p. bytes_eq p.0 name) found)
read_is G H arguments name a none one named [] [] h = none
read_is G H arguments name a none one named [] (q ∷ found) h = absurd h
read_is G H arguments name a none one named (x ∷ rows) [] h = absurd h
read_is G H arguments name a none one named (x ∷ rows) (q ∷ found) h =
    subst (λ (r : Row). G (cond (bytes_eq r.id name) (Some r) (find (λ y. bytes_eq y.id name) rows)) ≡ H (find (λ p. bytes_eq p.0 name) (q ∷ found)))
    (sym h.0.is) (go (read_is G H arguments name a none one named rows found h.1) (bytes_eq q.0 name) refl)
  where
    go : G (find (λ r. bytes_eq r.id name) rows) ≡ H (find (λ p. bytes_eq p.0 name) found) → (b : Bool) → bytes_eq q.0 name ≡ b
        → G (cond b (Some (row q.0 h.0.text)) (find (λ y. bytes_eq y.id name) rows)) ≡ H (cond b (Some q) (find (λ p. bytes_eq p.0 name) found))
    go below true e =
        let same : q.0 ≡ name = (bytes_eq-Decides q.0 name).0 e in
        let it : h.0.argument ≡ a = some_is h.0.argument a (sym h.0.named ∙ ap (λ (n : Text). argument_named n arguments) same ∙ named) in
        one h.0.text q (subst (λ (y : Argument). Stands y.takes h.0.text q.1) it h.0.stands)
    go below false e = below

-- The number of an argument in the rows is the number that was found for it.
pub number_is : (arguments : List Argument) (name : Text) (low high big : ℕ) (rows : List Row) (found : Found)
    → argument_named name arguments ≡ Some (record { name = name; takes = between low high }) → high ≤ big → Reads arguments rows found
    → number_in name rows big ≡ number_for name found
number_is arguments name low high big rows found named le h =
    read_is (λ r. option_and_then (number_of 0 big) (option_and_then row_text r)) (λ p. option_and_then (λ x. x.1) p)
    arguments name (record { name = name; takes = between low high }) refl (λ text p stands. go text p.1 stands) named rows found h
  where
    go : (text : Text) (n : Option ℕ) → Stands (between low high) text n → number_of 0 big text ≡ n
    go text (Some n) stands = reads_in low high big text n le stands
    go text None stands = absurd stands

-- The rows say that a flag was given if it was found.
pub flag_is : (arguments : List Argument) (name : Text) (rows : List Row) (found : Found)
    → argument_named name arguments ≡ Some (record { name = name; takes = nothing }) → Reads arguments rows found → flag_in name rows ≡ is_found name found
flag_is arguments name rows found named h =
    read_is (λ r. option_map_or (λ t. bytes_eq t (codes "true")) (option_and_then row_text r) false) (λ p. is_some p)
    arguments name (record { name = name; takes = nothing }) refl (λ text p stands. ap (λ (t : Text). bytes_eq t (codes "true")) stands.0) named rows found h
