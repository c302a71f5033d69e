-- What a parse makes of the words of a subcommand with numbers in their places.
use Rattle.std.proofs.Common.{◌≡◌, ◌&&◌, ◌||◌, ◌+◌, ◌++◌, ℕ, Bool, true, false, cond, List, [], ◌∷◌, Option, Some, None, refl, sym, ap, ◌∙◌, subst, fold, map, min}
use Rattle.std.specs.Option.{option_and_then, option_map, option_map_or}
use Rattle.std.specs.Str.{bytes_eq}
use Rattle.std.proofs.lemmas.List.{append_assoc, append-nil}
use Rattle.clap.specs.Lexer.{long_of, usize_max}
use Rattle.clap.specs.Walk.{Held, Row, Rule, Text, Walk, after_flag, arg_by_id, arg_by_index, arg_by_long, finished, has_row, idle, is_pending, long_met}
use Rattle.clap.specs.Walk.{pushed, settled, settled_rows, takes_several, to_positional, used_by_id, value, walked, with_default}
use Rattle.clap.specs.Faults.{long_fault, positional_fault, settle_fault, step_fault, stray_fault, use_fault, walk_fault}
use Rattle.clap.specs.Kinds.{Kinds, or_else}
use Rattle.clap.specs.Simple.{Shape}
use Rattle.clap.specs.declared.error.kind.ErrorKind.TheVariants.{UnknownArgument}
use Rattle.btr_words.specs.declared.command.Command.{Command}
use Rattle.btr_words.specs.Words.{Argument, Found, argument_named, between, number_of, numbers_in_order, taken, without_marker}
use Rattle.btr_words.proofs.WordCases.{HasNoShorts, dashes, held}
use Rattle.btr_words.proofs.Turns.{After, Gives, IsFault, at, ending, fault_from, first_fault, is_fault, refused_gives, rows_from, step_is, turn_cases}
use Rattle.btr_words.proofs.Found.{Reads, read_more, row}
use Rattle.btr_words.proofs.Leaf.{Blank, Use, accepted, ends_with, first_use, leaf, long_is_none, one_value, refused, rule, short_is_none}

-- A value: its name, the least number and the greatest one.
pub record Value : Type 0 where
  pub name : Text
  pub low : ℕ
  pub high : ℕ

abbrev pub argument_of : Value → Argument
argument_of a = record { name = a.name; takes = between a.low a.high }

abbrev pub value_rule : ℕ → Value → Rule
value_rule place a = rule None (Some place) a.name (between a.low a.high)

-- The values that come next, from a place on, after these rows.
abbrev pub Ahead : List Rule → List Argument → ℕ → List Value → List Row → Type 0
Ahead rules all place [] now = arg_by_index rules place ≡ None
Ahead rules all place (a ∷ rest) now =
    (arg_by_index rules place ≡ Some (value_rule place a)) × (arg_by_id rules a.name ≡ Some (value_rule place a))
    × (argument_named a.name all ≡ Some (argument_of a)) × (has_row a.name now ≡ false)
    × ((v : Text) → Ahead rules all (min (place + 1) usize_max) rest (now ++ row a.name v ∷ []))

module _ (label : Text) (R : List Rule) (all : List Argument) (blank : Blank R) (no_shorts : HasNoShorts (leaf label R))
    (no_longs : (name : Text) → arg_by_long R name ≡ None) where
  abbrev s : Shape
  s = leaf label R

  -- ---- faults

  single : (b : Bool) (c : Bool) (ks : Kinds) → c ≡ false → cond (b && c) [] ks ≡ ks
  single b c ks e = ap (λ (x : Bool). cond (b && x) [] ks) e ∙ go b
    where
      go : (b : Bool) → cond (b && false) [] ks ≡ ks
      go true = refl
      go false = refl

  value_fails : (place : ℕ) (h : Held) → IsFault (settle_fault R false h) → IsFault (step_fault s place h value)
  value_fails place h f = go (arg_by_index R place) refl
    where
      go : (o : Option Rule) → arg_by_index R place ≡ o → IsFault (option_map_or (λ (a : Rule). positional_fault R false a h) o (stray_fault s))
      go None e = is_fault UnknownArgument []
      go (Some a) e = subst IsFault (sym (single (is_pending a h.pending) (takes_several a) (settle_fault R false h) (one_value R place a blank e))) f

  long_fails : (p : Text × Option Text) (h : Held) → IsFault (long_fault R false (arg_by_long R p.0) p.1 h)
  long_fails p h = subst (λ (r : Option Rule). IsFault (long_fault R false r p.1 h)) (sym (no_longs p.0)) (is_fault UnknownArgument [])

  -- A value that was refused makes the parse fail.
  doomed : (words : List Text) (is_trailing : Bool) (place : ℕ) (rows : List Row) (pending : Option (Text × List Text))
      → IsFault (settle_fault R false (held rows pending)) → IsFault (fault_from s (at place idle is_trailing rows pending) words)
  unfolding walk_fault
  doomed [] is_trailing place rows pending f = first_fault _ _ f
  doomed (word ∷ rest) true place rows pending f = first_fault _ _ (first_fault _ _ (value_fails place (held rows pending) f))
  doomed (word ∷ rest) false place rows pending f = turn_cases (λ ks _. IsFault ks) s place idle word rows pending rest no_shorts
      (λ d. doomed rest true place rows pending f)
      (λ p _ _. first_fault _ _ (first_fault _ _ (long_fails p (held rows pending))))
      (λ _ _ _ _ k ks _. is_fault k ks)
      (λ _ _. first_fault _ _ (value_fails place (held rows pending) f))

  module _ (F : List Row → Option Command) (K : Found → Option Command)
      (same : (rows : List Row) (found : Found) → Reads all rows found → F (fold with_default rows R) ≡ K found) where
    abbrev completed : Found → Option Found → Option Command
    completed before found = option_and_then (λ more. K (before ++ more)) found

    abbrev numbers : List Value → List Text → Option Found
    numbers ahead words = numbers_in_order (map argument_of ahead) words

    abbrev meaning : List Value → Found → List Text → Option Command
    meaning ahead before words = completed before (numbers ahead words)

    abbrev taken_by : Value → Text → Option (Option ℕ)
    taken_by a word = taken (between a.low a.high) (Some word)

    record Quiet (place : ℕ) (rows : List Row) (pending : Option (Text × List Text)) (now : List Row) (ahead : List Value) (before : Found) : Type 0 where
      settles : settle_fault R false (held rows pending) ≡ []
      settled : settled_rows R pending rows ≡ now
      next : Ahead R all place ahead now
      reads : Reads all now before

    -- The words that are left, without a first `--` if it has not come yet.
    abbrev values : Bool → List Text → List Text
    values is_trailing words = cond is_trailing words (without_marker words)

    abbrev Gained : List Text → Type 0
    Gained words = (is_trailing : Bool) (place : ℕ) (rows : List Row) (pending : Option (Text × List Text)) (now : List Row) (ahead : List Value) (before : Found)
        → Quiet place rows pending now ahead before
        → Gives F (fault_from s (at place idle is_trailing rows pending) words) (rows_from s (at place idle is_trailing rows pending) words) (meaning ahead before (values is_trailing words))

    at_end : Gained []
    unfolding walk_fault
    at_end is_trailing place rows pending now ahead before q =
        subst (λ (l : List Text). Gives F (ending s (held rows pending)) (finished R (held rows pending)) (meaning ahead before l)) (sym (none is_trailing))
        (ends_with label R blank F (K (before ++ [])) rows now pending q.settles q.settled (same now before q.reads ∙ ap K (sym (append-nil before))))
      where
        the_end : List Text
        the_end = []

        none : (b : Bool) → cond b the_end the_end ≡ the_end
        none true = refl
        none false = refl

    -- ---- the meaning with one value first

    -- What the values come to, if the first gives this number.
    abbrev by_number : Value → List Value → Found → List Text → Option (Option ℕ) → Option Command
    by_number a ahead before words o = completed before (option_and_then (λ n. option_map (λ found. (a.name, n) ∷ found) (numbers ahead words)) o)

    not_taken : (a : Value) (ahead : List Value) (before : Found) (word : Text) (words : List Text) → taken_by a word ≡ None
        → meaning (a ∷ ahead) before (word ∷ words) ≡ None
    not_taken a ahead before word words none = ap (by_number a ahead before words) none

    one_more : (a : Value) (ahead : List Value) (before : Found) (word : Text) (words : List Text) (n : Option ℕ) → taken_by a word ≡ Some n
        → meaning (a ∷ ahead) before (word ∷ words) ≡ meaning ahead (before ++ (a.name, n) ∷ []) words
    one_more a ahead before word words n is = ap (by_number a ahead before words) is ∙ rest (numbers ahead words)
      where
        rest : (found : Option Found) → completed before (option_map (λ found. (a.name, n) ∷ found) found) ≡ completed (before ++ (a.name, n) ∷ []) found
        rest None = refl
        rest (Some found) = ap K (sym (append_assoc before ((a.name, n) ∷ []) found))

    no_value : (ahead : List Value) (before : Found) (word : Text) (words : List Text) → ((low high : ℕ) → number_of low high word ≡ None)
        → meaning ahead before (word ∷ words) ≡ None
    no_value [] before word words none = refl
    no_value (a ∷ ahead) before word words none =
        not_taken a ahead before word words (ap (option_map (λ (n : ℕ). Some n)) (none a.low a.high))

    -- ---- one more value

    -- What comes after a word that goes to the argument in its place.
    abbrev ValueGives : Bool → ℕ → List Row → Option (Text × List Text) → Text → List Text → Option Rule → Option Command → Type 0
    ValueGives is_trailing place rows pending word rest r c = Gives F
        (or_else (option_map_or (λ (a : Rule). positional_fault R false a (held rows pending)) r (stray_fault s))
        (fault_from s (to_positional R r word (at place idle is_trailing rows pending) (held rows pending)) rest))
        (rows_from s (to_positional R r word (at place idle is_trailing rows pending) (held rows pending)) rest) c

    still : (b : Bool) → b || false ≡ b
    still true = refl
    still false = refl

    value_step : (word : Text) (rest : List Text) → Gained rest → (is_trailing : Bool) (place : ℕ) (rows : List Row) (pending : Option (Text × List Text)) (now : List Row)
        (ahead : List Value) (before : Found) → Quiet place rows pending now ahead before
        → ValueGives is_trailing place rows pending word rest (arg_by_index R place) (meaning ahead before (word ∷ values is_trailing rest))
    value_step word rest below is_trailing place rows pending now [] before q =
        subst (λ (r : Option Rule). ValueGives is_trailing place rows pending word rest r None) (sym q.next) refl
    value_step word rest below is_trailing place rows pending now (a ∷ ahead) before q =
        subst (λ (r : Option Rule). ValueGives is_trailing place rows pending word rest r c) (sym q.next.0)
        (subst at_fault (sym (single pends false (settle_fault R false (held rows pending)) refl ∙ q.settles))
        (subst at_held (sym (ap (pushed a.name word) (keeps pends) ∙ ap (λ (l : List Row). held l (Some (a.name, word ∷ []))) q.settled))
        (subst (λ (t : Bool). Gives F (fault_from s (at later idle t now (Some (a.name, word ∷ []))) rest) (rows_from s (at later idle t now (Some (a.name, word ∷ []))) rest) c)
        (sym (still is_trailing)) (go (first_use None (Some place) a.name (between a.low a.high) (Some word) now q.next.3)))))
      where
        r : Rule
        r = value_rule place a

        c : Option Command
        c = meaning (a ∷ ahead) before (word ∷ values is_trailing rest)

        later : ℕ
        later = min (place + 1) usize_max

        pends : Bool
        pends = is_pending r pending

        keeps : (b : Bool) → cond (b && false) (held rows pending) (settled R (held rows pending)) ≡ settled R (held rows pending)
        keeps true = refl
        keeps false = refl

        after : Held → Walk
        after h = record { held = h; waiting = idle; position = later; is_trailing = is_trailing || false; stopped = None }

        at_fault : Kinds → Type 0
        at_fault ks = Gives F (or_else ks (fault_from s (after (pushed a.name word (cond (pends && false) (held rows pending) (settled R (held rows pending))))) rest))
            (rows_from s (after (pushed a.name word (cond (pends && false) (held rows pending) (settled R (held rows pending))))) rest) c

        at_held : Held → Type 0
        at_held h = Gives F (fault_from s (after h) rest) (rows_from s (after h) rest) c

        by_id : (vs : List Text) → settle_fault R false (held now (Some (a.name, vs))) ≡ use_fault false r vs now
        by_id vs = ap (λ (x : Option Rule). option_map_or (λ (y : Rule). use_fault false y vs now) x []) q.next.1

        ends : Option Command → Type 0
        ends x = Gives F (fault_from s (at later idle is_trailing now (Some (a.name, word ∷ []))) rest)
            (rows_from s (at later idle is_trailing now (Some (a.name, word ∷ []))) rest) x

        go : Use None (Some place) a.name (between a.low a.high) (Some word) now → ends c
        go (refused f none) = subst ends (sym (not_taken a ahead before word (values is_trailing rest) none))
            (refused_gives F _ _ (doomed rest is_trailing later now (Some (a.name, word ∷ [])) (subst IsFault (sym (by_id (word ∷ []))) f)))
        go (accepted text n usage row_is is stands) =
            let quiet : Quiet later now (Some (a.name, word ∷ [])) (now ++ row a.name text ∷ []) ahead (before ++ (a.name, n) ∷ []) = record {
              settles = by_id (word ∷ []) ∙ usage;
              settled = ap (λ (x : Option Rule). used_by_id x (word ∷ []) now) q.next.1 ∙ row_is;
              next = q.next.4 text;
              reads = read_more all now before (row a.name text) (a.name, n) q.reads
                  (record { text = text; argument = argument_of a; is = refl; named = q.next.2; stands = stands });
            } in
            subst ends (sym (one_more a ahead before word (values is_trailing rest) n is))
            (below is_trailing later now (Some (a.name, word ∷ [])) (now ++ row a.name text ∷ []) ahead (before ++ (a.name, n) ∷ []) quiet)

    trailing_step : (word : Text) (rest : List Text) → Gained rest → (place : ℕ) (rows : List Row) (pending : Option (Text × List Text)) (now : List Row)
        (ahead : List Value) (before : Found) → Quiet place rows pending now ahead before
        → Gives F (fault_from s (at place idle true rows pending) (word ∷ rest)) (rows_from s (at place idle true rows pending) (word ∷ rest)) (meaning ahead before (word ∷ rest))
    unfolding walked
    trailing_step word rest below place rows pending now ahead before q =
        subst (λ (ks : Kinds). Gives F ks (rows_from s (at place idle true rows pending) (word ∷ rest)) (meaning ahead before (word ∷ rest)))
        (sym (step_is s (at place idle true rows pending) word rest))
        (value_step word rest below true place rows pending now ahead before q)

    open_step : (word : Text) (rest : List Text) → Gained rest → (place : ℕ) (rows : List Row) (pending : Option (Text × List Text)) (now : List Row)
        (ahead : List Value) (before : Found) → Quiet place rows pending now ahead before
        → Gives F (fault_from s (at place idle false rows pending) (word ∷ rest)) (rows_from s (at place idle false rows pending) (word ∷ rest))
        (meaning ahead before (without_marker (word ∷ rest)))
    open_step word rest below place rows pending now ahead before q =
        turn_cases (λ ks found. Gives F ks found (meaning ahead before (without_marker (word ∷ rest)))) s place idle word rows pending rest no_shorts
        (λ d. subst (λ (b : Bool). Gives F (fault_from s (at place idle true rows pending) rest) (rows_from s (at place idle true rows pending) rest)
        (meaning ahead before (cond b rest (word ∷ without_marker rest)))) (sym d) (below true place rows pending now ahead before q))
        on_long
        (λ e d flags is k ks found. more d ∙ no_value ahead before word (without_marker rest) (λ low high. short_is_none low high word flags is))
        (λ e d. subst (λ (b : Bool). ValueGives false place rows pending word rest (arg_by_index R place) (meaning ahead before (cond b rest (word ∷ without_marker rest)))) (sym d)
        (value_step word rest below false place rows pending now ahead before q))
      where
        more : bytes_eq word dashes ≡ false → meaning ahead before (without_marker (word ∷ rest)) ≡ meaning ahead before (word ∷ without_marker rest)
        more d = ap (λ (b : Bool). meaning ahead before (cond b rest (word ∷ without_marker rest))) d

        on_long : (p : Text × Option Text) → long_of word ≡ Some p → bytes_eq word dashes ≡ false
            → After (λ ks found. Gives F ks found (meaning ahead before (without_marker (word ∷ rest)))) s place idle word rows pending rest
            (long_fault R false (arg_by_long R p.0) p.1 (held rows pending))
            (after_flag R idle word (long_met R (arg_by_long R p.0) p.1 (held rows pending)).0 (long_met R (arg_by_long R p.0) p.1 (held rows pending)).1)
        on_long p e d = subst (λ (r : Option Rule). After (λ ks found. Gives F ks found (meaning ahead before (without_marker (word ∷ rest)))) s place idle word rows pending rest
            (long_fault R false r p.1 (held rows pending)) (after_flag R idle word (long_met R r p.1 (held rows pending)).0 (long_met R r p.1 (held rows pending)).1))
            (sym (no_longs p.0)) (more d ∙ no_value ahead before word (without_marker rest) (λ low high. long_is_none low high word p e))

    gains : (words : List Text) → Gained words
    gains [] = at_end
    gains (word ∷ rest) = step (gains rest)
      where
        step : Gained rest → Gained (word ∷ rest)
        step below true place rows pending now ahead before q = trailing_step word rest below place rows pending now ahead before q
        step below false place rows pending now ahead before q = open_step word rest below place rows pending now ahead before q

    -- The parse of the words of the subcommand gives their meaning.
    pub values_give : (ahead : List Value) → Ahead R all 1 ahead [] → (words : List Text)
        → Gives F (fault_from s (at 1 idle false [] None) words) (rows_from s (at 1 idle false [] None) words)
        (option_and_then K (numbers ahead (without_marker words)))
    values_give ahead next words = gains words false 1 [] None [] ahead [] (record { settles = refl; settled = refl; next = next; reads = tt })
