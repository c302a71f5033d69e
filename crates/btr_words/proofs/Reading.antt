-- The number that is read for an option, and what is read for a flag.
use Rattle.std.proofs.Common.{◌≡◌, ◌<◌, ℕ, Bool, true, false, cond, Option, Some, None, refl, sym, ap, ◌∙◌, arith, codes, unwrap_or, ◌^◌}
use Rattle.std.specs.Prelude.{Ok, Err, Result}
use Rattle.std.specs.Option.{option_and_then, option_map_or}
use Rattle.std.specs.Str.{bytes_eq}
use Rattle.std.specs.Str.Parse.{ParsesBool, ParsesUnsigned, digits_value, without_leading_plus}
use Rattle.std.proofs.lemmas.Slice.Eq.{bytes_eq-Decides}
use Rattle.clap.specs.Matches.{ReadsOne}
use Rattle.clap.specs.ValueTests.{is_unsigned_in}
use Rattle.clap.specs.Walk.{Text}
use Rattle.clap.specs.declared.builder.value_parser.ValueParser.TheVariants as vp
use Rattle.clap.proofs.ValueTestLemmas.{accepts-Accepts, Accepts-accepts}
use Rattle.btr_words.specs.Words.{number_of}

-- The number that a text is read as.
pub reads_number : (E : Type 0) (G : Text → Result ℕ E → Type 0) → ((u : Text) (x : Result ℕ E) → G u x → ParsesUnsigned 64 10 u x)
    → (r : Option ℕ) (text : Option Text) → (text ≡ None → r ≡ None) → ((t : Text) → text ≡ Some t → ReadsOne G t r)
    → r ≡ option_and_then (number_of 0 18446744073709551615) text
reads_number E G only r None none some = none refl
reads_number E G only r (Some t) none some = go r (some t refl)
  where
    go : (o : Option ℕ) → ReadsOne G t o → o ≡ number_of 0 18446744073709551615 t
    go (Some v) h =
        let parsed = only t (Ok v) h in
        let n = digits_value 10 (without_leading_plus t) in
        let fits : n < 2 ^ 64 = parsed.0.1 in
        let passes : is_unsigned_in 0 18446744073709551615 t ≡ true = Accepts-accepts false (vp.Unsigned 0 18446744073709551615) t (parsed.0.0, parsed.0.1, omega arith, omega arith) in
        ap {A = ℕ} {B = Option ℕ} Some parsed.1 ∙ sym (ap (λ (b : Bool). cond b (Some n) None) passes)
    go None h = none_here (is_unsigned_in 0 18446744073709551615 t) refl
      where
        none_here : (b : Bool) → is_unsigned_in 0 18446744073709551615 t ≡ b → None ≡ cond b (Some (digits_value 10 (without_leading_plus t))) None
        none_here false e = refl
        none_here true e =
            let all = accepts-Accepts false (vp.Unsigned 0 18446744073709551615) t e in
            absurd (only t (Err h.0) h.1 (all.0, all.1))

-- A flag is read as given if its text is `true`.
pub reads_flag : (E : Type 0) (G : Text → Result Bool E → Type 0) → ((u : Text) (x : Result Bool E) → G u x → ParsesBool u x)
    → (r : Option Bool) (text : Option Text) → (text ≡ None → r ≡ None) → ((t : Text) → text ≡ Some t → ReadsOne G t r)
    → unwrap_or r false ≡ option_map_or (λ t. bytes_eq t (codes "true")) text false
reads_flag E G only r None none some = ap (λ (o : Option Bool). unwrap_or o false) (none refl)
reads_flag E G only r (Some t) none some = go r (some t refl)
  where
    go : (o : Option Bool) → ReadsOne G t o → unwrap_or o false ≡ bytes_eq t (codes "true")
    go (Some true) h = sym ((bytes_eq-Decides t (codes "true")).1 (only t (Ok true) h))
    go (Some false) h = sym (ap (λ (u : Text). bytes_eq u (codes "true")) (only t (Ok false) h))
    go None h = none_here (bytes_eq t (codes "true")) refl
      where
        none_here : (b : Bool) → bytes_eq t (codes "true") ≡ b → false ≡ b
        none_here false e = refl
        none_here true e = absurd ((only t (Err h.0) h.1).0 ((bytes_eq-Decides t (codes "true")).0 e))
