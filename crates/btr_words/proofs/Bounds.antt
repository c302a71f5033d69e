-- The numbers of commands lie in their bounds.
use Rattle.std.proofs.Common.{◌≡◌, ◌≤◌, ◌∷◌, ◌&&◌, ◌*◌, ℕ, Bool, true, false, cond, List, [], Option, Some, None, refl, sym, ap, ◌∙◌, subst, codes, nat_lt, nat_le, ◌^◌, arith, unwrap_or}
use Rattle.std.specs.Prelude.{IfSome, find, is_some}
use Rattle.std.specs.Option.{option_and_then, option_map, option_map_or}
use Rattle.std.specs.Str.{bytes_eq}
use Rattle.std.specs.Str.Parse.{digits_value, without_leading_plus}
use Rattle.std.proofs.lemmas.Slice.Eq.{bytes_eq-Decides}
use Rattle.std.proofs.lemmas.Bool.{leb-true}
use Rattle.clap.specs.ValueTests.{is_numeral, is_unsigned_in}
use Rattle.clap.proofs.WalkLemmas.{both}
use Rattle.btr_words.specs.declared.command.Command.{Command}
use Rattle.btr_words.specs.declared.command.Command.TheVariants.{Format, Load, Ask, Distil, Live, LiveGroups, Sample, Checkpoint, Seal, Check, Ship, Hear, Serve, ServeRead}
use Rattle.btr_words.specs.Words.{Argument, Found, IsInBounds, Takes, Text, argument_named, batch_argument, batch_of, between, blocks_argument, command_of, format_of, group_argument, live_arguments, live_of}
use Rattle.btr_words.specs.Words.{materialize_of, nothing, number_for, number_of, numbers_in_order, numbers_of, option_numbers, options_after, others, sample_arguments, sample_of}
use Rattle.btr_words.specs.Words.{cold_argument, cold_of, from_argument, ship_of, serve_arguments, serve_of, is_found}
use Rattle.btr_words.specs.Words.{sample_within, taken, without_marker, workers_argument, workers_of}
use Rattle.btr_words.proofs.Found.{named_in_others, some_is}

abbrev Within : ℕ → ℕ → ℕ → Type 0
Within low high n = (low ≤ n) × (n ≤ high)

number_lies : (low high : ℕ) (text : Text) → IfSome (number_of low high text) (Within low high)
number_lies low high text = go (is_unsigned_in low high text) refl
  where
    go : (b : Bool) → is_unsigned_in low high text ≡ b → IfSome (cond b (Some (digits_value 10 (without_leading_plus text))) None) (Within low high)
    go false e = tt
    go true e = lies (digits_value 10 (without_leading_plus text)) e
      where
        lies : (k : ℕ) → (is_numeral (without_leading_plus text) && (nat_lt k (2 ^ 64) && (nat_le low k && nat_le k high))) ≡ true → Within low high k
        lies k h =
            let a = both (is_numeral (without_leading_plus text)) (nat_lt k (2 ^ 64) && (nat_le low k && nat_le k high)) h in
            let b = both (nat_lt k (2 ^ 64)) (nat_le low k && nat_le k high) a.1 in
            let c = both (nat_le low k) (nat_le k high) b.1 in
            (leb-true low k c.0, leb-true k high c.1)

-- The number lies in the bounds of what an argument takes.
abbrev Fits : Takes → ℕ → Type 0
Fits (between low high) n = Within low high n
Fits nothing n = Unit {0}

taken_fits : (takes : Takes) (v : Option Text) → IfSome (taken takes v) (λ n. IfSome n (Fits takes))
taken_fits (between low high) (Some text) = go (number_of low high text) (number_lies low high text)
  where
    go : (o : Option ℕ) → IfSome o (Within low high) → IfSome (option_map (λ (n : ℕ). Some n) o) (λ n. IfSome n (Within low high))
    go None h = tt
    go (Some n) h = h
taken_fits (between low high) None = tt
taken_fits nothing (Some text) = tt
taken_fits nothing None = tt

-- Each number that was found for one of the arguments lies in its bounds.
abbrev Lie : List Argument → Found → Type 0
Lie arguments found = (name : Text) (a : Argument) → argument_named name arguments ≡ Some a → IfSome (number_for name found) (Fits a.takes)

-- One more argument is found, if it is the only one of its name that counts.
lie_more : (arguments : List Argument) (a : Argument) (name : Text) (n : Option ℕ) (found : Found) → argument_named name arguments ≡ Some a → IfSome n (Fits a.takes)
    → ((other : Text) (b : Argument) → bytes_eq name other ≡ false → argument_named other arguments ≡ Some b → IfSome (number_for other found) (Fits b.takes))
    → Lie arguments ((name, n) ∷ found)
lie_more arguments a name n found named lies rest other b named_b = go (bytes_eq name other) refl
  where
    go : (c : Bool) → bytes_eq name other ≡ c
        → IfSome (option_and_then (λ (p : Text × Option ℕ). p.1) (cond c (Some (name, n)) (find (λ (p : Text × Option ℕ). bytes_eq p.0 other) found))) (Fits b.takes)
    go true e =
        let same : name ≡ other = (bytes_eq-Decides name other).0 e in
        let it : a ≡ b = some_is a b (sym named ∙ ap (λ (t : Text). argument_named t arguments) same ∙ named_b) in
        subst (λ (y : Argument). IfSome n (Fits y.takes)) it lies
    go false e = rest other b e named_b

numbers_lie : (arguments : List Argument) (options : List (Text × Option Text)) → IfSome (numbers_of arguments options) (Lie arguments)
numbers_lie arguments [] = λ name a named. tt
numbers_lie arguments (p ∷ options) = go (numbers_of (others p.0 arguments) options) (numbers_lie (others p.0 arguments) options) (argument_named p.0 arguments) refl
  where
    go : (later : Option Found) → IfSome later (Lie (others p.0 arguments)) → (o : Option Argument) → argument_named p.0 arguments ≡ o
        → IfSome (option_and_then (λ a. option_and_then (λ n. option_map (λ found. (p.0, n) ∷ found) later) (taken a.takes p.1)) o) (Lie arguments)
    go later h None e = tt
    go later h (Some a) e = number (taken a.takes p.1) (taken_fits a.takes p.1)
      where
        all : (n : Option ℕ) → IfSome n (Fits a.takes) → (l : Option Found) → IfSome l (Lie (others p.0 arguments)) → IfSome (option_map (λ found. (p.0, n) ∷ found) l) (Lie arguments)
        all n w None i = tt
        all n w (Some found) i = lie_more arguments a p.0 n found e w
            (λ other b differ named. i other b (named_in_others p.0 other arguments ∙ ap (λ (c : Bool). cond c None (argument_named other arguments)) differ ∙ named))

        number : (o : Option (Option ℕ)) → IfSome o (λ n. IfSome n (Fits a.takes)) → IfSome (option_and_then (λ n. option_map (λ found. (p.0, n) ∷ found) later) o) (Lie arguments)
        number None w = tt
        number (Some n) w = all n w later h

options_lie : (arguments : List Argument) (words : List Text) → IfSome (option_numbers arguments words) (Lie arguments)
options_lie arguments words = go (options_after arguments None words)
  where
    go : (o : Option (List (Text × Option Text))) → IfSome (option_and_then (numbers_of arguments) o) (Lie arguments)
    go None = tt
    go (Some options) = numbers_lie arguments options

same_name : (name : Text) → bytes_eq name name ≡ true
same_name name = (bytes_eq-Decides name name).1 refl

values_lie : (arguments : List Argument) (words : List Text) → IfSome (numbers_in_order arguments words) (Lie arguments)
values_lie [] [] = λ name a named. tt
values_lie (a ∷ rest) [] = λ name b named. tt
values_lie [] (word ∷ words) = tt
values_lie (a ∷ rest) (word ∷ words) = number (taken a.takes (Some word)) (taken_fits a.takes (Some word)) (numbers_in_order rest words) (values_lie rest words)
  where
    first : argument_named a.name (a ∷ rest) ≡ Some a
    first = ap (λ (c : Bool). cond c (Some a) (argument_named a.name rest)) (same_name a.name)

    all : (n : Option ℕ) → IfSome n (Fits a.takes) → (l : Option Found) → IfSome l (Lie rest) → IfSome (option_map (λ found. (a.name, n) ∷ found) l) (Lie (a ∷ rest))
    all n w None i = tt
    all n w (Some found) i = lie_more (a ∷ rest) a a.name n found first w
        (λ other b differ named. i other b (sym (ap (λ (c : Bool). cond c (Some a) (argument_named other rest)) differ) ∙ named))

    number : (o : Option (Option ℕ)) → IfSome o (λ n. IfSome n (Fits a.takes)) → (l : Option Found) → IfSome l (Lie rest)
        → IfSome (option_and_then (λ n. option_map (λ found. (a.name, n) ∷ found) l) o) (Lie (a ∷ rest))
    number None w l i = tt
    number (Some n) w l i = all n w l i

-- ---- commands

abbrev Good : Option Command → Type 0
Good o = IfSome o IsInBounds

mapped : (arguments : List Argument) (command : Found → Command) → ((found : Found) → Lie arguments found → IsInBounds (command found))
    → (words : List Text) → Good (option_map command (option_numbers arguments words))
mapped arguments command each words = go (option_numbers arguments words) (options_lie arguments words)
  where
    go : (o : Option Found) → IfSome o (Lie arguments) → Good (option_map command o)
    go None h = tt
    go (Some found) h = each found h

chained : (arguments : List Argument) (command : Found → Option Command) → ((found : Found) → Lie arguments found → Good (command found))
    → (o : Option Found) → IfSome o (Lie arguments) → Good (option_and_then command o)
chained arguments command each None h = tt
chained arguments command each (Some found) h = each found h

or_default : (low high default : ℕ) (o : Option ℕ) → Within low high default → IfSome o (Within low high) → Within low high (unwrap_or o default)
or_default low high default None d h = d
or_default low high default (Some n) d h = h

workers_lie : (arguments : List Argument) → argument_named (codes "workers") arguments ≡ Some workers_argument → (found : Found) → Lie arguments found → Within 1 16 (workers_of found)
workers_lie arguments named found h = or_default 1 16 1 (number_for (codes "workers") found) (omega arith, omega arith) (h (codes "workers") workers_argument named)

batch_lies : (arguments : List Argument) → argument_named (codes "batch") arguments ≡ Some batch_argument → (found : Found) → Lie arguments found → Within 1 65536 (batch_of found)
batch_lies arguments named found h = or_default 1 65536 4096 (number_for (codes "batch") found) (omega arith, omega arith) (h (codes "batch") batch_argument named)

format_good : (words : List Text) → Good (option_and_then format_of (option_numbers (blocks_argument ∷ []) words))
format_good words = chained (blocks_argument ∷ []) format_of
    (λ found h. go (number_for (codes "blocks") found) (h (codes "blocks") blocks_argument refl))
    (option_numbers (blocks_argument ∷ []) words) (options_lie (blocks_argument ∷ []) words)
  where
    go : (o : Option ℕ) → IfSome o (Within 8 4294967296) → Good (option_map (λ n. Format n) o)
    go None h = tt
    go (Some n) h = h

load_good : (words : List Text) → Good (option_map (λ found. Load (workers_of found) (batch_of found)) (option_numbers (workers_argument ∷ batch_argument ∷ []) words))
load_good words = mapped (workers_argument ∷ batch_argument ∷ []) (λ found. Load (workers_of found) (batch_of found))
    (λ found h.
    let w : Within 1 16 (workers_of found) = workers_lie (workers_argument ∷ batch_argument ∷ []) refl found h in
    let b : Within 1 65536 (batch_of found) = batch_lies (workers_argument ∷ batch_argument ∷ []) refl found h in
    (w.0, w.1, b.0, b.1)) words

live_good : (words : List Text) → Good (option_and_then live_of (option_numbers live_arguments words))
live_good words = chained live_arguments live_of
    (λ found h. go found (number_for (codes "group") found) (h (codes "group") group_argument refl) (is_some (number_for (codes "batch") found))
    (batch_lies live_arguments refl found h))
    (option_numbers live_arguments words) (options_lie live_arguments words)
  where
    go : (found : Found) (o : Option ℕ) → IfSome o (Within 1 65536) → (b : Bool) → Within 1 65536 (batch_of found)
        → Good (option_map_or (λ n. cond b None (Some (LiveGroups n (materialize_of found)))) o (Some (Live (batch_of found) (materialize_of found))))
    go found None h b w = w
    go found (Some n) h true w = tt
    go found (Some n) h false w = h

serve_good : (words : List Text) → Good (option_and_then serve_of (option_numbers serve_arguments words))
serve_good words = chained serve_arguments serve_of
    (λ found h. go found (is_found (codes "read") found) (is_some (number_for (codes "batch") found)) (batch_lies serve_arguments refl found h))
    (option_numbers serve_arguments words) (options_lie serve_arguments words)
  where
    go : (found : Found) (f b : Bool) → Within 1 65536 (batch_of found) → Good (cond f (cond b None (Some ServeRead)) (Some (Serve (batch_of found))))
    go found true true w = tt
    go found true false w = tt
    go found false b w = w

sample_good : (words : List Text) → Good (option_and_then sample_of (numbers_in_order sample_arguments words))
sample_good words = chained sample_arguments sample_of
    (λ found h. go (number_for (codes "number") found) (h (codes "number") (record { name = codes "number"; takes = between 0 2147483647 }) refl)
    (number_for (codes "streams") found) (h (codes "streams") (record { name = codes "streams"; takes = between 1 1000 }) refl)
    (number_for (codes "points") found) (h (codes "points") (record { name = codes "points"; takes = between 1 1000000 }) refl))
    (numbers_in_order sample_arguments words) (values_lie sample_arguments words)
  where
    product : (i j k : ℕ) → Within 0 2147483647 i → Within 1 1000 j → Within 1 1000000 k → (b : Bool) → nat_le (j * k) 1000000 ≡ b → Good (cond b (Some (Sample i j k)) None)
    product i j k x y z true e = (x.1, y.0, y.1, z.0, z.1, leb-true (j * k) 1000000 e)
    product i j k x y z false e = tt

    go : (x : Option ℕ) → IfSome x (Within 0 2147483647) → (y : Option ℕ) → IfSome y (Within 1 1000) → (z : Option ℕ) → IfSome z (Within 1 1000000)
        → Good (option_and_then (λ i. option_and_then (λ j. option_and_then (sample_within i j) z) y) x)
    go None a y b z c = tt
    go (Some i) a None b z c = tt
    go (Some i) a (Some j) b None c = tt
    go (Some i) a (Some j) b (Some k) c = product i j k a b c (nat_le (j * k) 1000000) refl

ship_good : (words : List Text) → Good (option_and_then ship_of (numbers_in_order (from_argument ∷ []) words))
ship_good words = chained (from_argument ∷ []) ship_of
    (λ found h. go (number_for (codes "from") found) (h (codes "from") from_argument refl))
    (numbers_in_order (from_argument ∷ []) words) (values_lie (from_argument ∷ []) words)
  where
    go : (o : Option ℕ) → IfSome o (Within 1 18446744073709551615) → Good (option_map (λ n. Ship n) o)
    go None h = tt
    go (Some n) h = h

pub in_bounds : (words : List Text) → Good (command_of words)
in_bounds [] = tt
in_bounds (word ∷ words) = go (is (codes "format")) (is (codes "load")) (is (codes "ask")) (is (codes "distil")) (is (codes "live")) (is (codes "sample")) (is (codes "checkpoint")) (is (codes "seal")) (is (codes "check")) (is (codes "ship")) (is (codes "hear")) (is (codes "serve"))
  where
    is : Text → Bool
    is name = bytes_eq name word

    go : (b1 b2 b3 b4 b5 b6 b7 b8 b9 b10 b11 b12 : Bool) → Good (cond b1 (option_and_then format_of (option_numbers (blocks_argument ∷ []) words))
        (cond b2 (option_map (λ found. Load (workers_of found) (batch_of found)) (option_numbers (workers_argument ∷ batch_argument ∷ []) words))
        (cond b3 (option_map (λ found. Ask (cold_of found)) (option_numbers (cold_argument ∷ []) words))
        (cond b4 (option_map (λ found. Distil (workers_of found)) (option_numbers (workers_argument ∷ []) words))
        (cond b5 (option_and_then live_of (option_numbers live_arguments words))
        (cond b6 (option_and_then sample_of (numbers_in_order sample_arguments (without_marker words)))
        (cond b7 (option_map (λ found. Checkpoint) (option_numbers [] words))
        (cond b8 (option_map (λ found. Seal) (option_numbers [] words))
        (cond b9 (option_map (λ found. Check) (option_numbers [] words))
        (cond b10 (option_and_then ship_of (numbers_in_order (from_argument ∷ []) (without_marker words)))
        (cond b11 (option_map (λ found. Hear) (option_numbers [] words))
        (cond b12 (option_and_then serve_of (option_numbers serve_arguments words)) None))))))))))))
    go true b2 b3 b4 b5 b6 b7 b8 b9 b10 b11 b12 = format_good words
    go false true b3 b4 b5 b6 b7 b8 b9 b10 b11 b12 = load_good words
    go false false true b4 b5 b6 b7 b8 b9 b10 b11 b12 = mapped (cold_argument ∷ []) (λ found. Ask (cold_of found)) (λ found h. tt) words
    go false false false true b5 b6 b7 b8 b9 b10 b11 b12 = mapped (workers_argument ∷ []) (λ found. Distil (workers_of found)) (workers_lie (workers_argument ∷ []) refl) words
    go false false false false true b6 b7 b8 b9 b10 b11 b12 = live_good words
    go false false false false false true b7 b8 b9 b10 b11 b12 = sample_good (without_marker words)
    go false false false false false false true b8 b9 b10 b11 b12 = mapped [] (λ found. Checkpoint) (λ found h. tt) words
    go false false false false false false false true b9 b10 b11 b12 = mapped [] (λ found. Seal) (λ found h. tt) words
    go false false false false false false false false true b10 b11 b12 = mapped [] (λ found. Check) (λ found h. tt) words
    go false false false false false false false false false true b11 b12 = ship_good (without_marker words)
    go false false false false false false false false false false true b12 = mapped [] (λ found. Hear) (λ found h. tt) words
    go false false false false false false false false false false false true = serve_good words
    go false false false false false false false false false false false false = tt
