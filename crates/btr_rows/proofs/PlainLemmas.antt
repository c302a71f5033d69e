-- Lemmas on a record of fields without quotes, which is cut at its commas.
use Rattle.std.proofs.Common.{◌≡◌, ◌≢◌, ℕ, ◌+◌, Bool, true, false, not, cond, ◌||◌, ◌⊎◌, inl, inr, eqb, List, [], ◌∷◌, ◌++◌, take, drop, Option, Some, None, refl, sym, ap, subst, ◌∙◌, append_assoc}
use Rattle.std.specs.List.{prefix_len, slice_index}
use Rattle.std.proofs.lemmas.Bool.{cases_Bool, ne_eqb, or_parts, false≢true}
use Rattle.std.proofs.lemmas.List.{append-nil}
use Rattle.csv.specs.Machine.{Read, after_end, next_record}
use Rattle.csv.specs.Reading.{default_config, strip_bom}
use Rattle.csv.specs.declared.parser.State.TheVariants as st
use Rattle.csv.specs.declared.parser.Terminator.TheVariants as term
use Rattle.btr_rows.specs.Reading.{ends_field, ends_line, field_size, records_in}
use Rattle.btr_rows.proofs.RecordLemmas.{records-some, records-none}
use Rattle.btr_rows.proofs.SmallLemmas.{one_more}

-- The next record of a text, between two records, and in a field.
abbrev next : List ℕ → Option Read
next xs = next_record default_config st.StartRecord [] [] xs

abbrev in_field : List (List ℕ) → List ℕ → List ℕ → Option Read
in_field fields field xs = next_record default_config st.InField fields field xs

-- Two texts with the same next record have the same records.
records-same : (xs ys : List ℕ) → next xs ≡ next ys → records_in xs ≡ records_in ys
records-same xs ys e = by (next ys) refl
  where
    by : (o : Option Read) → next ys ≡ o → records_in xs ≡ records_in ys
    by None h = records-none st.StartRecord xs (inl refl) (e ∙ h) ∙ sym (records-none st.StartRecord ys (inl refl) h)
    by (Some q) h = records-some st.StartRecord xs q (inl refl) (e ∙ h) ∙ sym (records-some st.StartRecord ys q (inl refl) h)

next-skip : (c : ℕ) (xs : List ℕ) → ends_line c ≡ true → next (c ∷ xs) ≡ next xs
unfolding next_record
next-skip c xs e = rw e refl

skip-line : (c : ℕ) (xs : List ℕ) → ends_line c ≡ true → records_in (c ∷ xs) ≡ records_in xs
skip-line c xs e = records-same (c ∷ xs) xs (next-skip c xs e)

-- Line ends between two records make no difference.
pub skip-lines : (xs : List ℕ) → records_in (drop (prefix_len ends_line xs) xs) ≡ records_in xs
skip-lines [] = refl
skip-lines (c ∷ xs) =
    elim (ends_line c) as (λ t. ends_line c ≡ t → records_in (drop (cond t (1 + prefix_len ends_line xs) 0) (c ∷ xs)) ≡ records_in (c ∷ xs)) [
      | true ↦ λ e. rw one_more (skip-lines xs ∙ sym (skip-line c xs e))
      | false ↦ λ e. refl
    ] refl

pub after-lines : (xs : List ℕ) → ends_line (slice_index (drop (prefix_len ends_line xs) xs) 0) ≡ false
after-lines [] = refl
after-lines (c ∷ xs) =
    elim (ends_line c) as (λ t. ends_line c ≡ t → ends_line (slice_index (drop (cond t (1 + prefix_len ends_line xs) 0) (c ∷ xs)) 0) ≡ false) [
      | true ↦ λ e. rw one_more (after-lines xs)
      | false ↦ λ e. e
    ] refl

-- A byte that ends no line begins the first field.
first-field : (c : ℕ) (xs : List ℕ) → ends_line c ≡ false → next (c ∷ xs) ≡ next_record default_config st.StartField [] [] (c ∷ xs)
unfolding next_record
first-field c xs e = rw e refl

-- The bytes of a field join it.
start-in : (fields : List (List ℕ)) (xs : List ℕ) → slice_index xs 0 ≢ 34 → next_record default_config st.StartField fields [] xs ≡ in_field fields [] xs
unfolding next_record
start-in fields [] h = refl
start-in fields (c ∷ xs) h = rw (ne_eqb c 34 h) refl

run-in : (fields : List (List ℕ)) (field xs : List ℕ)
    → in_field fields field xs ≡ in_field fields (field ++ take (field_size xs) xs) (drop (field_size xs) xs)
unfolding next_record
run-in fields field [] = rw (append-nil field) refl
run-in fields field (c ∷ xs) = by (cases_Bool (ends_field c)) (run-in fields (field ++ c ∷ []) xs)
  where
    by : (ends_field c ≡ true) ⊎ (ends_field c ≡ false)
        → in_field fields (field ++ c ∷ []) xs ≡ in_field fields ((field ++ c ∷ []) ++ take (field_size xs) xs) (drop (field_size xs) xs)
        → in_field fields field (c ∷ xs) ≡ in_field fields (field ++ take (prefix_len (λ b. not (ends_field b)) (c ∷ xs)) (c ∷ xs)) (drop (prefix_len (λ b. not (ends_field b)) (c ∷ xs)) (c ∷ xs))
    by (inl e) more = rw (e, append-nil field) refl
    by (inr e) more =
        let p = or_parts (eqb c 44) (ends_line c) e in
        rw (p.0, p.1, one_more) (more ∙ ap (λ f. in_field fields f (drop (field_size xs) xs)) (append_assoc field (c ∷ []) (take (field_size xs) xs)))

-- A comma ends a field.
field-comma : (fields : List (List ℕ)) (field rest : List ℕ) → in_field fields field (44 ∷ rest) ≡ next_record default_config st.StartField (fields ++ field ∷ []) [] rest
unfolding next_record
field-comma fields field rest = refl

-- A field ends at the end of a text, or at a byte that ends a field.
field-end : (xs : List ℕ) → (drop (field_size xs) xs ≡ [])
    ⊎ ((c : ℕ) × (rest : List ℕ) × (drop (field_size xs) xs ≡ c ∷ rest) × (ends_field c ≡ true))
field-end [] = inl refl
field-end (c ∷ xs) =
    elim (ends_field c) as (λ t. ends_field c ≡ t → (drop (cond (not t) (1 + prefix_len (λ b. not (ends_field b)) xs) 0) (c ∷ xs) ≡ [])
    ⊎ ((d : ℕ) × (rest : List ℕ) × (drop (cond (not t) (1 + prefix_len (λ b. not (ends_field b)) xs) 0) (c ∷ xs) ≡ d ∷ rest) × (ends_field d ≡ true))) [
      | true ↦ λ e. inr (c, xs, refl, e)
      | false ↦ λ e. rw one_more (field-end xs)
    ] refl

-- A field that no comma ends is the last one of its record.
abbrev IsLast : List (List ℕ) → List ℕ → Option Read → Type 0
IsLast fields rest o = (q : Read) × (o ≡ Some q) × (q.0 ≡ fields) × (records_in q.2 ≡ records_in rest)

last-byte : (fields : List (List ℕ)) (field : List ℕ) (c : ℕ) (rest : List ℕ) → c ≢ 44 → ends_line c ≡ true → IsLast (fields ++ field ∷ []) (c ∷ rest) (in_field fields field (c ∷ rest))
unfolding next_record
last-byte fields field c rest h e = ((fields ++ field ∷ [], after_end term.CRLF c, rest), rw (ne_eqb c 44 h, e) refl, refl, sym (skip-line c rest e))

last-end : (fields : List (List ℕ)) (field : List ℕ) → IsLast (fields ++ field ∷ []) [] (in_field fields field [])
unfolding next_record
last-end fields field = ((fields ++ field ∷ [], st.StartRecord, []), refl, refl, refl)

second : (a b : Bool) → a ≡ false → (a || b) ≡ true → b ≡ true
second true b e h = cc e
second false b e h = h

-- A field with a comma after it, and a field without.
field-step : (fields : List (List ℕ)) (xs rest : List ℕ) → slice_index xs 0 ≢ 34 → drop (field_size xs) xs ≡ 44 ∷ rest
    → next_record default_config st.StartField fields [] xs ≡ next_record default_config st.StartField (fields ++ take (field_size xs) xs ∷ []) [] rest
field-step fields xs rest h e =
    start-in fields xs h ∙ run-in fields [] xs ∙ ap (in_field fields (take (field_size xs) xs)) e ∙ field-comma fields (take (field_size xs) xs) rest

field-last : (fields : List (List ℕ)) (xs rest : List ℕ) → slice_index xs 0 ≢ 34 → rest ≡ drop (field_size xs) xs → slice_index rest 0 ≢ 44
    → IsLast (fields ++ take (field_size xs) xs ∷ []) rest (next_record default_config st.StartField fields [] xs)
field-last fields xs rest h r ne = by (field-end xs)
  where
    whole : next_record default_config st.StartField fields [] xs ≡ in_field fields (take (field_size xs) xs) rest
    whole = start-in fields xs h ∙ run-in fields [] xs ∙ ap (in_field fields (take (field_size xs) xs)) (sym r)

    by : (drop (field_size xs) xs ≡ []) ⊎ ((c : ℕ) × (more : List ℕ) × (drop (field_size xs) xs ≡ c ∷ more) × (ends_field c ≡ true))
        → IsLast (fields ++ take (field_size xs) xs ∷ []) rest (next_record default_config st.StartField fields [] xs)
    by (inl e) =
        let last = last-end fields (take (field_size xs) xs) in
        subst (λ t. IsLast (fields ++ take (field_size xs) xs ∷ []) t (next_record default_config st.StartField fields [] xs)) (sym (r ∙ e))
        (last.0, whole ∙ ap (in_field fields (take (field_size xs) xs)) (r ∙ e) ∙ last.1, last.2, last.3)
    by (inr e) =
        let at : rest ≡ e.0 ∷ e.1 = r ∙ e.2 in
        let other : e.0 ≢ 44 = λ same. ne (ap (λ l. slice_index l 0) at ∙ same) in
        let last = last-byte fields (take (field_size xs) xs) e.0 e.1 other (second (eqb e.0 44) (ends_line e.0) (ne_eqb e.0 44 other) e.3) in
        subst (λ t. IsLast (fields ++ take (field_size xs) xs ∷ []) t (next_record default_config st.StartField fields [] xs)) (sym at)
        (last.0, whole ∙ ap (in_field fields (take (field_size xs) xs)) at ∙ last.1, last.2, last.3)

first-of-line : (xs rest : List ℕ) → ends_line (slice_index xs 0) ≡ false → drop (field_size xs) xs ≡ 44 ∷ rest
    → next xs ≡ next_record default_config st.StartField [] [] xs
first-of-line [] rest h e = cc e
first-of-line (c ∷ xs) rest h e = first-field c xs h

-- A text that does not begin with the first byte of a byte order mark has none.
no-mark : (xs : List ℕ) → slice_index xs 0 ≢ 239 → strip_bom xs ≡ xs
unfolding strip_bom
no-mark [] h = refl
no-mark (a ∷ []) h = refl
no-mark (a ∷ b ∷ []) h = refl
no-mark (a ∷ b ∷ c ∷ xs) h = rw (ne_eqb a 239 h) refl

zero_is_no_mark : slice_index [] 0 ≡ 239 → ⊥
zero_is_no_mark h = cc h

end-no-mark : (xs rest : List ℕ) → rest ≡ drop (field_size xs) xs → slice_index rest 0 ≢ 239
end-no-mark xs rest r same = by (field-end xs)
  where
    by : (drop (field_size xs) xs ≡ [])
        ⊎ ((c : ℕ) × (more : List ℕ) × (drop (field_size xs) xs ≡ c ∷ more) × (ends_field c ≡ true)) → ⊥
    by (inl e) = zero_is_no_mark (sym (ap (λ l. slice_index l 0) (r ∙ e)) ∙ same)
    by (inr e) = false≢true (sym (ap ends_field (sym (ap (λ l. slice_index l 0) (r ∙ e.2)) ∙ same)) ∙ e.3)

-- The first record of a text that begins with no byte order mark, after line ends: three fields without quotes.
pub three-plain : (text line after1 after2 rest : List ℕ) → slice_index text 0 ≢ 239
    → line ≡ drop (prefix_len ends_line text) text → slice_index line 0 ≢ 34
    → drop (field_size line) line ≡ 44 ∷ after1 → slice_index after1 0 ≢ 34
    → drop (field_size after1) after1 ≡ 44 ∷ after2 → slice_index after2 0 ≢ 34
    → rest ≡ drop (field_size after2) after2 → slice_index rest 0 ≢ 44
    → records_in (strip_bom text) ≡ (take (field_size line) line ∷ take (field_size after1) after1 ∷ take (field_size after2) after2 ∷ []) ∷ records_in (strip_bom rest)
three-plain text line after1 after2 rest mark at q1 e1 q2 e2 q3 e3 last =
    let id = take (field_size line) line in
    let time = take (field_size after1) after1 in
    let value = take (field_size after2) after2 in
    let starts : ends_line (slice_index line 0) ≡ false = ap (λ l. ends_line (slice_index l 0)) at ∙ after-lines text in
    let n : next line ≡ next_record default_config st.StartField (id ∷ time ∷ []) [] after2 =
    first-of-line line after1 starts e1 ∙ field-step [] line after1 q1 e1 ∙ field-step (id ∷ []) after1 after2 q2 e2 in
    let end = field-last (id ∷ time ∷ []) after2 rest q3 e3 last in
    ap records_in (no-mark text mark) ∙ sym (skip-lines text) ∙ ap records_in (sym at)
    ∙ records-some st.StartRecord line end.0 (inl refl) (n ∙ end.1)
    ∙ ap (λ f. f ∷ records_in end.0.2) end.2 ∙ ap (λ r. (id ∷ time ∷ value ∷ []) ∷ r) (end.3 ∙ ap records_in (sym (no-mark rest (end-no-mark after2 rest e3))))
