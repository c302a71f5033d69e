-- Lemmas on the bytes that a source gave, followed by what it has left.
use Rattle.std.proofs.Common.{◌≡◌, ◌∙◌, sym, ap, ◌++◌, [], ℕ, ◌+◌, ◌-◌, ◌≤◌, List, length, take, drop, Err, arith, length-append, length-drop}
use Rattle.std.proofs.lemmas.List.{drop-drop, take-append-drop, append-nil}
use Rattle.std.proofs.Math.Seq.{drop-append-add}
use Rattle.std.proofs.Math.ListN.{drop_of_length-le}
use Rattle.std.specs.Prelude.{IsErrOf}
use Rattle.btr_io.specs.Bytes.{gave, Gives}

-- the next n bytes, and those after them, are the bytes from here on
pub prefix-and-rest : (bytes prefix : List ℕ) (at n : ℕ) → prefix ≡ take n (drop at bytes) → drop at bytes ≡ prefix ++ drop (at + n) bytes
prefix-and-rest bytes prefix at n is =
    sym (take-append-drop n (drop at bytes)) ∙ ap (λ xs. xs ++ drop n (drop at bytes)) (sym is)
    ∙ ap (λ xs. prefix ++ xs) (drop-drop n at bytes)

-- what was read before counts too
pub gave-after : (got before now whole : List ℕ) (most : ℕ) → got ++ before ≡ whole → Gives most before now → gave whole now ≡ length got + gave before now
gave-after got before now whole most e r =
    omega (arith, ap length e, length-append got before, ap length r.rest, length-drop (gave before now) before)

pub gives-after : (got before now whole : List ℕ) (limit : ℕ) → length got ≤ limit → got ++ before ≡ whole → Gives (limit + 1 - length got) before now → Gives (limit + 1) whole now
gives-after got before now whole limit h e r =
    let more : gave whole now ≡ length got + gave before now = gave-after got before now whole _ e r in
    record {
      bounded = omega (arith, more, r.bounded);
      rest =
          r.rest ∙ sym (drop-append-add got before (gave before now)) ∙ ap (λ k. drop k (got ++ before)) (sym more)
          ∙ ap (λ xs. drop (gave whole now) xs) e;
    }

-- a source that gave all
pub all-given : (got now whole : List ℕ) → got ++ now ≡ whole → now ≡ [] → got ≡ whole
all-given got now whole e end = sym (append-nil got) ∙ ap (λ xs. got ++ xs) (sym end) ∙ e

pub gave-got : (got now whole : List ℕ) → got ++ now ≡ whole → gave whole now ≡ length got
gave-got got now whole e = omega (arith, ap length e, length-append got now)

pub gives-end : (got now whole : List ℕ) (limit : ℕ) → length got ≤ limit → got ++ now ≡ whole → now ≡ [] → Gives (limit + 1) whole now
gives-end got now whole limit h e end =
    let all : gave whole now ≡ length got = gave-got got now whole e in
    let same : length got ≡ length whole = ap length (all-given got now whole e end) in
    record {
      bounded = omega (arith, all);
      rest = end ∙ sym (drop_of_length-le whole {i = gave whole now} (omega (arith, all, same)));
    }

-- an error is the same beside any type of values
pub err-same : {T U E : Type 0} (x y : E) → IsErrOf {T = T} (Err x) y → IsErrOf {T = U} (Err x) y
err-same x y e = cc
