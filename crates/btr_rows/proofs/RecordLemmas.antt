-- Lemmas on the records of a CSV text: each is followed by those of the text after it.
use Rattle.std.proofs.Common.{◌≡◌, ◌≤◌, ◌<◌, ℕ, zero, suc, ◌+◌, Bool, true, false, cond, ◌||◌, ◌&&◌, inl, inr, eqb, List, [], ◌∷◌, ◌++◌, length, Option, Some, None, Bor, refl, sym, ap, subst, ◌∙◌, arith}
use Rattle.std.proofs.Math.Numerals.{add-one}
use Rattle.csv.specs.Machine.{Read, after_end, ends_at_end, field_after, fields_after, is_end, next_record, start_record, start_field, in_field, step}
use Rattle.csv.specs.Reading.{Reached, ReadRecord, default_config, records_from, records_next, strip_bom, took_first}
use Rattle.csv.specs.declared.reader.Reader.{Reader}
use Rattle.csv.specs.declared.parser.Config.{Config}
use Rattle.csv.specs.declared.parser.State.{State}
use Rattle.csv.specs.declared.parser.State.TheVariants as st
use Rattle.csv.specs.declared.parser.Action.{Action}
use Rattle.csv.specs.declared.parser.Terminator.TheVariants as term
use Rattle.csv.specs.declared.parser.Action.TheVariants as act
use Rattle.csv.proofs.ReadFacts.{rows-more, rows-end}
use Rattle.btr_rows.specs.Reading.{HasLeft, IsBetween, ReadsNext, records_in}
use Rattle.btr_rows.proofs.SmallLemmas.{some_equal}

-- A record takes none of the bytes after it.
no-longer : (cfg : Config) (s : State) (fields : List (List ℕ)) (field xs : List ℕ) (q : Read) → next_record cfg s fields field xs ≡ Some q → length q.2 ≤ length xs
unfolding next_record
no-longer cfg s fields field [] q h =
    elim (ends_at_end s) as (λ b. cond b (Some (fields ++ (field ∷ []), st.StartRecord, [])) None ≡ Some q → length q.2 ≤ 0) [
      | true ↦ λ e. rw (sym (ap (λ (r : Read). length r.2) (some_equal e))) (omega arith)
      | false ↦ λ e. cc e
    ] h
no-longer cfg s fields field (c ∷ rest) q h =
    elim (is_end (step cfg s c).1) as (λ b. cond b (Some (fields_after (step cfg s c).1 fields field, (step cfg s c).0, rest))
    (next_record cfg (step cfg s c).0 (fields_after (step cfg s c).1 fields field) (field_after (step cfg s c).1 c field) rest) ≡ Some q → length q.2 ≤ suc (length rest)) [
      | true ↦ λ e. rw (sym (ap (λ (r : Read). length r.2) (some_equal e))) (omega arith)
      | false ↦ λ e. let more = no-longer cfg (step cfg s c).0 (fields_after (step cfg s c).1 fields field) (field_after (step cfg s c).1 c field) rest q e in omega arith
    ] h

-- Between two records a byte at least is taken.
pub shorter : (cfg : Config) (s : State) (fields : List (List ℕ)) (field xs : List ℕ) (q : Read) → ends_at_end s ≡ false → next_record cfg s fields field xs ≡ Some q → length q.2 < length xs
unfolding next_record
shorter cfg s fields field [] q e h = let none = rw e at h in cc none
shorter cfg s fields field (c ∷ rest) q between h =
    elim (is_end (step cfg s c).1) as (λ b. cond b (Some (fields_after (step cfg s c).1 fields field, (step cfg s c).0, rest))
    (next_record cfg (step cfg s c).0 (fields_after (step cfg s c).1 fields field) (field_after (step cfg s c).1 c field) rest) ≡ Some q → length q.2 < suc (length rest)) [
      | true ↦ λ e. rw (sym (ap (λ (r : Read). length r.2) (some_equal e))) (omega arith)
      | false ↦ λ e. let more = no-longer cfg (step cfg s c).0 (fields_after (step cfg s c).1 fields field) (field_after (step cfg s c).1 c field) rest q e in omega arith
    ] h

-- A byte that ends a record leaves a state between two records.
end-cond : (b : Bool) (x y : State × Action) → (is_end x.1 ≡ true → IsBetween x.0) → (is_end y.1 ≡ true → IsBetween y.0)
    → is_end (cond b x y).1 ≡ true → IsBetween (cond b x y).0
end-cond true x y f g = f
end-cond false x y f g = g

end-line : (c : ℕ) → IsBetween (after_end term.CRLF c)
end-line c = elim (eqb c 13) as (λ b. IsBetween (cond b st.AfterCr st.StartRecord)) [ true ↦ inr refl | false ↦ inl refl ]

end-in_field : (c : ℕ) → is_end (in_field default_config c).1 ≡ true → IsBetween (in_field default_config c).0
end-in_field c =
    end-cond (eqb c 44) (st.StartField, act.EndField) _ (λ h. cc h)
    (end-cond (eqb c 13 || eqb c 10) (after_end term.CRLF c, act.EndRecord) (st.InField, act.Copy) (λ h. end-line c) (λ h. cc h))

end-start_field : (c : ℕ) → is_end (start_field default_config c).1 ≡ true → IsBetween (start_field default_config c).0
end-start_field c = end-cond (eqb c 34) (st.InQuoted, act.Skip) (in_field default_config c) (λ h. cc h) (end-in_field c)

end-start_record : (c : ℕ) → is_end (start_record default_config c).1 ≡ true → IsBetween (start_record default_config c).0
end-start_record c = end-cond (eqb c 13 || eqb c 10) (st.StartRecord, act.Skip) (start_field default_config c) (λ h. cc h) (end-start_field c)

end-step : (s : State) (c : ℕ) → is_end (step default_config s c).1 ≡ true → IsBetween (step default_config s c).0
end-step st.StartRecord c = end-start_record c
end-step st.StartField c = end-start_field c
end-step st.InField c = end-in_field c
end-step st.InQuoted c = end-cond (eqb c 34) (st.AfterQuote, act.Skip) (st.InQuoted, act.Copy) (λ h. cc h) (λ h. cc h)
end-step st.InEscape c = λ h. cc h
end-step st.AfterQuote c = end-cond (eqb c 34) (st.InQuoted, act.Copy) (in_field default_config c) (λ h. cc h) (end-in_field c)
end-step st.InComment c = end-cond (eqb c 10) (st.StartRecord, act.Skip) (st.InComment, act.Skip) (λ h. cc h) (λ h. cc h)
end-step st.AfterCr c = end-cond (eqb c 10) (st.StartRecord, act.Skip) (start_record default_config c) (λ h. cc h) (end-start_record c)

pub next-between : (s : State) (fields : List (List ℕ)) (field xs : List ℕ) (q : Read) → next_record default_config s fields field xs ≡ Some q → IsBetween q.1
unfolding next_record
next-between s fields field [] q h =
    elim (ends_at_end s) as (λ b. cond b (Some (fields ++ (field ∷ []), st.StartRecord, [])) None ≡ Some q → IsBetween q.1) [
      | true ↦ λ e. inl (sym (ap (λ (r : Read). r.1) (some_equal e)))
      | false ↦ λ e. cc e
    ] h
next-between s fields field (c ∷ rest) q h =
    elim (is_end (step default_config s c).1) as (λ b. is_end (step default_config s c).1 ≡ b → cond b (Some (fields_after (step default_config s c).1 fields field, (step default_config s c).0, rest))
    (next_record default_config (step default_config s c).0 (fields_after (step default_config s c).1 fields field) (field_after (step default_config s c).1 c field) rest) ≡ Some q → IsBetween q.1) [
      | true ↦ λ t e. subst IsBetween (ap (λ (r : Read). r.1) (some_equal e)) (end-step s c t)
      | false ↦ λ t e. next-between (step default_config s c).0 (fields_after (step default_config s c).1 fields field) (field_after (step default_config s c).1 c field) rest q e
    ] refl h

-- A line feed after a carriage return makes no difference between two records.
cond-twice : {A : Type 0} (a b : Bool) (x y : A) → cond b x (cond (a || b) x y) ≡ cond (a || b) x y
cond-twice true true x y = refl
cond-twice true false x y = refl
cond-twice false true x y = refl
cond-twice false false x y = refl

pub after-cr : (fields : List (List ℕ)) (field xs : List ℕ) → next_record default_config st.AfterCr fields field xs ≡ next_record default_config st.StartRecord fields field xs
unfolding next_record
after-cr fields field [] = refl
after-cr fields field (c ∷ rest) =
    ap (λ (p : State × Action). cond (is_end p.1) (Some (fields_after p.1 fields field, p.0, rest)) (next_record default_config p.0 (fields_after p.1 fields field) (field_after p.1 c field) rest))
    (cond-twice (eqb c 13) (eqb c 10) (st.StartRecord, act.Skip) (start_field default_config c))

between-same : (s : State) (fields : List (List ℕ)) (field xs : List ℕ) → IsBetween s → next_record default_config s fields field xs ≡ next_record default_config st.StartRecord fields field xs
between-same s fields field xs (inl e) = ap (λ t. next_record default_config t fields field xs) e
between-same s fields field xs (inr e) = ap (λ t. next_record default_config t fields field xs) e ∙ after-cr fields field xs

not-ending : (s : State) → IsBetween s → ends_at_end s ≡ false
not-ending s (inl e) = ap ends_at_end e
not-ending s (inr e) = ap ends_at_end e

-- More steps than bytes give the same records.
records-enough : (n m : ℕ) (s t : State) (xs : List ℕ) → IsBetween s → IsBetween t → length xs < n → length xs < m → records_from default_config n s xs ≡ records_from default_config m t xs
unfolding records_from
records-enough zero m s t xs b d h k = absurd (omega arith)
records-enough (suc n) zero s t xs b d h k = absurd (omega arith)
records-enough (suc n) (suc m) s t xs b d h k =
    ap (records_next (records_from default_config n)) (between-same s [] [] xs b)
    ∙ both (next_record default_config st.StartRecord [] [] xs) (λ q e.
    let less = shorter default_config st.StartRecord [] [] xs q refl e in
    let between = next-between st.StartRecord [] [] xs q e in
    ap (λ l. q.0 ∷ l) (records-enough n m q.1 q.1 q.2 between between (omega arith) (omega arith)))
    ∙ ap (records_next (records_from default_config m)) (sym (between-same t [] [] xs d))
  where
    both : (o : Option Read) → ((q : Read) → o ≡ Some q → q.0 ∷ records_from default_config n q.1 q.2 ≡ q.0 ∷ records_from default_config m q.1 q.2)
        → records_next (records_from default_config n) o ≡ records_next (records_from default_config m) o
    both None f = refl
    both (Some q) f = f q refl

-- A text whose next record is this one has this record, then those of the text after it. A text without one has none.
pub records-some : (s : State) (xs : List ℕ) (q : Read) → IsBetween s → next_record default_config s [] [] xs ≡ Some q → records_in xs ≡ q.0 ∷ records_in q.2
unfolding records_from
records-some s xs q b h =
    let e : next_record default_config st.StartRecord [] [] xs ≡ Some q = sym (between-same s [] [] xs b) ∙ h in
    let less = shorter default_config st.StartRecord [] [] xs q refl e in
    let between = next-between st.StartRecord [] [] xs q e in
    rw (add-one (length xs), e) (ap (λ l. q.0 ∷ l) (records-enough (length xs) (length q.2 + 1) q.1 st.StartRecord q.2 between (inl refl) (omega arith) (omega arith)))

pub records-none : (s : State) (xs : List ℕ) → IsBetween s → next_record default_config s [] [] xs ≡ None → records_in xs ≡ []
unfolding records_from
records-none s xs b h = rw (add-one (length xs), sym (between-same s [] [] xs b) ∙ h) refl

-- A reader that finds a record has the bytes after it left. One that finds none has no record left.
pub reader-step : (a b : Reader (Bor (List ℕ))) (left : List ℕ) (found : Bool) (fields : List (List ℕ)) → HasLeft a left → took_first b ≡ true
    → ReadRecord (λ s. Some s.now) a b found fields → ReadsNext left b fields found
unfolding Reached
reader-step a b left true fields h first r =
    let more = rows-more (λ (s : Bor (List ℕ)). Some s.now) a b fields default_config a.state left left [] h.config h.source (refl, refl) r in
    let p = more.2.0 in
    let e = more.2.1 in
    let between = subst IsBetween more.2.3.0 (next-between a.state [] [] left p e) in
    let less = shorter default_config a.state [] [] left p (not-ending a.state h.state) e in (
      more.0,
      record { trim = r.3 ∙ h.trim; ready = inl first; config = r.2 ∙ h.config; state = between; source = more.1 },
      subst (λ (y : List ℕ). length y < length left) more.2.3.1 less,
      records-some a.state left p h.state e ∙ ap (λ (f : List (List ℕ)). f ∷ records_in p.2) (sym more.2.2) ∙ ap (λ (y : List ℕ). fields ∷ records_in y) more.2.3.1,
    )
reader-step a b left false fields h first r =
    records-none a.state left h.state (rows-end (λ (s : Bor (List ℕ)). Some s.now) a b fields default_config left h.config h.source r)

-- The number of bytes that a reader has left, if that is known.
abbrev pub known_length : Option (List ℕ) → ℕ
known_length None = 0
known_length (Some left) = length left

-- A text without its byte order mark is no longer.
pub without-mark : (xs : List ℕ) → length (strip_bom xs) ≤ length xs
unfolding strip_bom
without-mark [] = omega arith
without-mark (a ∷ []) = omega arith
without-mark (a ∷ b ∷ []) = omega arith
without-mark (a ∷ b ∷ c ∷ xs) =
    elim (eqb a 239 && eqb b 187 && eqb c 191) as (λ t. length (cond t xs (a ∷ b ∷ c ∷ xs)) ≤ suc (suc (suc (length xs)))) [ true ↦ omega arith | false ↦ omega arith ]
