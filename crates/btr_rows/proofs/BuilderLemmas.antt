-- Lemmas on a list of rows that grows by one row.
use Rattle.std.proofs.Common.{◌≡◌, ℕ, ◌+◌, List, [], ◌∷◌, ◌++◌, length, map, Result, Ok, Err, OnOk, refl, sym, ap, ◌∙◌, arith}
use Rattle.std.specs.List.{enumerate_from}
use Rattle.std.specs.declared.alloc.AllocError.{AllocError}
use Rattle.std.proofs.lemmas.List.{append-nil, append_assoc, length_push, map-append}
use Rattle.std.proofs.lemmas.List.Elements.{filter_map-append}
use Rattle.btr_rows.specs.declared.row.Row.{Row}
use Rattle.btr_rows.specs.declared.row.RowReason.{RowReason}
use Rattle.btr_rows.specs.declared.row.RefusedRow.{RefusedRow}
use Rattle.btr_rows.specs.Row.{row_of}
use Rattle.btr_rows.specs.Rows.{good_row, good_rows, refused_row, refused_rows}
use Rattle.btr_rows.specs.Streams.{StreamValue, by_stream}
use Rattle.btr_rows.specs.Builder.{BuilderValue, built_of}

-- One row more has the next number.
enumerate-push : {X : Type 0} (first : ℕ) (xs : List X) (x : X) → enumerate_from first (xs ++ x ∷ []) ≡ enumerate_from first xs ++ (first + length xs, x) ∷ []
enumerate-push first [] x = ap (λ n. (n, x) ∷ []) (omega arith)
enumerate-push first (y ∷ xs) x = ap (λ l. (first, y) ∷ l) (enumerate-push (first + 1) xs x ∙ ap (λ n. enumerate_from (first + 1) xs ++ (n, x) ∷ []) (omega arith))

next-number : (rows : List (Result Row RowReason)) (said : Result Row RowReason) (count : ℕ) → count ≡ length rows + 1
    → enumerate_from 1 (rows ++ said ∷ []) ≡ enumerate_from 1 rows ++ (count, said) ∷ []
next-number rows said count e = enumerate-push 1 rows said ∙ ap (λ n. enumerate_from 1 rows ++ (n, said) ∷ []) (omega arith)

-- A builder with one row more, of these streams and refused rows.
abbrev pub grown : List StreamValue → List RefusedRow → ℕ → BuilderValue
grown streams refused count = record { list = record { streams = streams; refused = refused }; count = count }

same-builder : (s t : List StreamValue) (p q : List RefusedRow) (m n : ℕ) → s ≡ t → p ≡ q → m ≡ n → grown s p m ≡ grown t q n
same-builder s t p q m n e f g = rw (e, f, g) refl

pub grown-ok : (rows : List (Result Row RowReason)) (row : Row) (b : BuilderValue) (streams : List StreamValue) (r : Result (Unit {0}) AllocError) → b ≡ built_of rows
    → OnOk r (streams ≡ by_stream (good_rows (enumerate_from 1 rows) ++ (b.count + 1, row) ∷ []))
    → OnOk r (grown streams b.list.refused (b.count + 1) ≡ built_of (rows ++ Ok row ∷ []))
grown-ok rows row b streams (Err e) same h = tt
grown-ok rows row b streams (Ok x) same h =
    let n = next-number rows (Ok row) (b.count + 1) (ap (λ v. v.count + 1) same) in
    let good : good_rows (enumerate_from 1 (rows ++ Ok row ∷ [])) ≡ good_rows (enumerate_from 1 rows) ++ (b.count + 1, row) ∷ [] =
    ap good_rows n ∙ filter_map-append good_row (enumerate_from 1 rows) ((b.count + 1, Ok row) ∷ []) in
    let refused : refused_rows (enumerate_from 1 (rows ++ Ok row ∷ [])) ≡ refused_rows (enumerate_from 1 rows) =
    ap refused_rows n ∙ filter_map-append refused_row (enumerate_from 1 rows) ((b.count + 1, Ok row) ∷ []) ∙ append-nil _ in
    same-builder _ _ _ _ _ _ (h ∙ ap by_stream (sym good)) (ap (λ v. v.list.refused) same ∙ sym refused) (ap (λ v. v.count + 1) same ∙ sym (length_push rows (Ok row)))

pub grown-err : (rows : List (Result Row RowReason)) (reason : RowReason) (b : BuilderValue) (refused : List RefusedRow) → b ≡ built_of rows
    → refused ≡ b.list.refused ++ (record { number = b.count + 1; reason = reason }) ∷ []
    → grown b.list.streams refused (b.count + 1) ≡ built_of (rows ++ Err reason ∷ [])
grown-err rows reason b refused same h =
    let n = next-number rows (Err reason) (b.count + 1) (ap (λ v. v.count + 1) same) in
    let good : good_rows (enumerate_from 1 (rows ++ Err reason ∷ [])) ≡ good_rows (enumerate_from 1 rows) =
    ap good_rows n ∙ filter_map-append good_row (enumerate_from 1 rows) ((b.count + 1, Err reason) ∷ []) ∙ append-nil _ in
    let gone : refused_rows (enumerate_from 1 (rows ++ Err reason ∷ [])) ≡ refused_rows (enumerate_from 1 rows) ++ (record { number = b.count + 1; reason = reason }) ∷ [] =
    ap refused_rows n ∙ filter_map-append refused_row (enumerate_from 1 rows) ((b.count + 1, Err reason) ∷ []) in
    same-builder _ _ _ _ _ _ (ap (λ v. v.list.streams) same ∙ ap by_stream (sym good))
    (h ∙ ap (λ v. v.list.refused ++ (record { number = b.count + 1; reason = reason }) ∷ []) same ∙ sym gone) (ap (λ v. v.count + 1) same ∙ sym (length_push rows (Err reason)))

-- What one record more says, after others.
pub said-push : (before : List (Result Row RowReason)) (taken : List (List (List ℕ))) (fields : List (List ℕ)) (said : Result Row RowReason) → said ≡ row_of fields
    → (before ++ map row_of taken) ++ said ∷ [] ≡ before ++ map row_of (taken ++ fields ∷ [])
said-push before taken fields said e = append_assoc before (map row_of taken) (said ∷ []) ∙ ap (λ l. before ++ l) (ap (λ s. map row_of taken ++ s ∷ []) e ∙ sym (map-append row_of taken (fields ∷ [])))

pub record-push : (whole taken rest more : List (List (List ℕ))) (fields : List (List ℕ)) → whole ≡ taken ++ rest → rest ≡ fields ∷ more → whole ≡ (taken ++ fields ∷ []) ++ more
record-push whole taken rest more fields e f = e ∙ ap (λ l. taken ++ l) f ∙ sym (append_assoc taken (fields ∷ []) more)
