-- A subcommand without subcommands, whose arguments each take one number or are flags: words, uses of an argument, and the end of a parse.
use Rattle.std.proofs.Common.{◌≡◌, ◌≤◌, ◌==◌, ◌&&◌, ◌||◌, ◌++◌, ℕ, Bool, true, false, not, cond, List, [], ◌∷◌, Option, Some, None, refl, sym, ap, ◌∙◌, subst, codes, fold}
use Rattle.std.specs.Prelude.{find}
use Rattle.std.specs.Option.{option_and_then, option_map, option_map_or}
use Rattle.std.specs.List.{list_any}
use Rattle.std.proofs.lemmas.List.{append-nil}
use Rattle.std.specs.Str.{bytes_eq}
use Rattle.std.specs.Str.Parse.{digits_value, without_leading_plus}
use Rattle.std.proofs.lemmas.Slice.Eq.{bytes_eq-Decides}
use Rattle.std.proofs.lemmas.Bool.{eqb-true}
use Rattle.clap.specs.Lexer.{long_of, short_of}
use Rattle.clap.specs.ValueTests.{is_unsigned_in}
use Rattle.clap.specs.Walk.{Row, Rule, Text, arg_by_index, at_row, finished, has_row, more_values, row_text, settled_rows, takes_several, used, with_default}
use Rattle.clap.specs.Takes.{is_given}
use Rattle.clap.specs.Faults.{check_fault, default_fault, defaults_fault, settle_fault, use_fault}
use Rattle.clap.specs.Kinds.{Kinds, check_kinds, or_else}
use Rattle.clap.proofs.WalkLemmas.{both}
use Rattle.clap.specs.Simple.{Shape, new_rule, new_shape}
use Rattle.clap.specs.declared.builder.action.ArgAction.{ArgAction}
use Rattle.clap.specs.declared.builder.action.ArgAction.TheVariants.{Set, SetTrue}
use Rattle.clap.specs.declared.builder.value_parser.Reading.TheVariants as reading
use Rattle.clap.specs.declared.builder.value_parser.ValueParser.{ValueParser}
use Rattle.clap.specs.declared.builder.value_parser.ValueParser.TheVariants as vp
use Rattle.clap.specs.declared.parser.matches.ValueSource.TheVariants.{CommandLine, DefaultValue}
use Rattle.clap.specs.declared.error.kind.ErrorKind.TheVariants.{ArgumentConflict, InvalidValue, ValueValidation, WrongNumberOfValues}
use Rattle.btr_words.specs.declared.command.Command.{Command}
use Rattle.btr_words.specs.Words.{Argument, Found, Takes, argument_named, is_end, is_found, number_for, number_of, taken}
use Rattle.btr_words.specs.Words.{between, nothing}
use Rattle.btr_words.specs.Program.{flag_in, number_in}
use Rattle.btr_words.proofs.WordCases.{dashes, held}
use Rattle.btr_words.proofs.Turns.{Gives, IsFault, ending, is_fault, second_fault}
use Rattle.btr_words.proofs.Found.{Reads, Stands, flag_is, no_such_row, number_is, row}

-- ---- words

pub not_end : (word : Text) (rest : List Text) → bytes_eq word dashes ≡ false → is_end (word ∷ rest) ≡ false
not_end word [] d = d
not_end word (x ∷ rest) d = refl

pub dashes_long : (word : Text) → bytes_eq word dashes ≡ true → long_of word ≡ None
dashes_long word d = ap long_of ((bytes_eq-Decides word dashes).0 d)

no_numeral : (low high : ℕ) (xs : Text) → is_unsigned_in low high (45 ∷ xs) ≡ true → false ≡ true
no_numeral low high xs h = (both _ _ (both _ _ h).0).1

-- A numeral begins with no hyphen.
begins : (low high x : ℕ) (xs : Text) → is_unsigned_in low high (x ∷ xs) ≡ true → (x == 45) ≡ false
begins low high x xs h = go (x == 45) refl
  where
    go : (b : Bool) → (x == 45) ≡ b → (x == 45) ≡ false
    go false e = e
    go true e =
        let bad : false ≡ true = no_numeral low high xs (subst (λ (y : ℕ). is_unsigned_in low high (y ∷ xs) ≡ true) (eqb-true x 45 e) h) in
        absurd (cc)

pub numeral_long : (low high : ℕ) (text : Text) → is_unsigned_in low high text ≡ true → long_of text ≡ None
numeral_long low high [] h = refl
numeral_long low high (x ∷ xs) h = rw (begins low high x xs h) refl

pub numeral_short : (low high : ℕ) (text : Text) → is_unsigned_in low high text ≡ true → short_of text ≡ None
numeral_short low high [] h = refl
numeral_short low high (x ∷ xs) h = rw (begins low high x xs h) refl

pub numeral_dashes : (low high : ℕ) (text : Text) → is_unsigned_in low high text ≡ true → bytes_eq text dashes ≡ false
numeral_dashes low high [] h = refl
numeral_dashes low high (x ∷ xs) h = rw (begins low high x xs h) refl

abbrev pub number_by : Text → Bool → Option ℕ
number_by text b = cond b (Some (digits_value 10 (without_leading_plus text))) None

pub no_number : (low high : ℕ) (text : Text) → is_unsigned_in low high text ≡ false → number_of low high text ≡ None
no_number low high text e = ap (number_by text) e

pub a_number : (low high : ℕ) (text : Text) → is_unsigned_in low high text ≡ true → number_of low high text ≡ Some (digits_value 10 (without_leading_plus text))
a_number low high text e = ap (number_by text) e

-- A text that begins as an option does is no number.
pub long_is_none : (low high : ℕ) (text : Text) (p : Text × Option Text) → long_of text ≡ Some p → number_of low high text ≡ None
long_is_none low high text p is = go (is_unsigned_in low high text) refl
  where
    go : (b : Bool) → is_unsigned_in low high text ≡ b → number_of low high text ≡ None
    go false e = no_number low high text e
    go true e =
        let none : long_of text ≡ None = numeral_long low high text e in
        absurd (cc)

pub short_is_none : (low high : ℕ) (text flags : Text) → short_of text ≡ Some flags → number_of low high text ≡ None
short_is_none low high text flags is = go (is_unsigned_in low high text) refl
  where
    go : (b : Bool) → is_unsigned_in low high text ≡ b → number_of low high text ≡ None
    go false e = no_number low high text e
    go true e =
        let none : short_of text ≡ None = numeral_short low high text e in
        absurd (cc)

-- A text that gives a number is a numeral.
pub numeral_of : (low high : ℕ) (text : Text) (n : Option ℕ) → taken (between low high) (Some text) ≡ Some n → is_unsigned_in low high text ≡ true
numeral_of low high text n is = go (is_unsigned_in low high text) refl
  where
    go : (b : Bool) → is_unsigned_in low high text ≡ b → is_unsigned_in low high text ≡ true
    go true e = e
    go false e =
        let none : taken (between low high) (Some text) ≡ None = ap (option_map (λ (k : ℕ). Some k)) (no_number low high text e) in
        absurd (cc)

-- ---- the subcommand

abbrev action_by : Takes → ArgAction
action_by (between low high) = Set
action_by nothing = SetTrue

abbrev parser_by : Takes → ValueParser
parser_by (between low high) = vp.Unsigned low high
parser_by nothing = vp.Bool

abbrev values_by : Takes → ℕ
values_by (between low high) = 1
values_by nothing = 0

abbrev defaults_by : Takes → List Text
defaults_by (between low high) = []
defaults_by nothing = codes "false" ∷ []

abbrev missing_by : Takes → List Text
missing_by (between low high) = []
missing_by nothing = codes "true" ∷ []

-- The rule of an argument of this name that takes this, as building leaves it, with its long name or its place.
abbrev pub rule : Option Text → Option ℕ → Text → Takes → Rule
rule long index name takes = record (new_rule name) {
  long = long;
  index = index;
  action = Some (action_by takes);
  range = Some (record { start_inclusive = values_by takes; end_inclusive = values_by takes });
  defaults = defaults_by takes;
  missing = missing_by takes;
  parser = Some (parser_by takes);
}

abbrev pub leaf : Text → List Rule → Shape
leaf label rules = record (new_shape label) {
  rules = rules;
  no_binary_name = true;
  disable_help_flag = true;
  disable_help_subcommand = true;
  disable_version_flag = true;
  is_built = true;
}

-- ---- one use of an argument

-- The values of a use with this text, or with none.
abbrev pub given : Option Text → List Text
given (Some text) = text ∷ []
given None = []

abbrev pub UseFault : Option Text → Option ℕ → Text → Takes → Option Text → List Row → Kinds
UseFault long index name takes v rows = use_fault false (rule long index name takes) (given v) rows

-- A second use is refused.
pub repeated : (long : Option Text) (index : Option ℕ) (name : Text) (takes : Takes) (v : Option Text) (rows : List Row) → has_row name rows ≡ true
    → IsFault (UseFault long index name takes v rows)
repeated long index name (between low high) (Some v) rows has =
    subst (λ (b : Bool). IsFault (or_else (cond (b && true) (ArgumentConflict ∷ []) []) (or_else (cond (is_unsigned_in low high v) [] (ValueValidation ∷ [])) [])))
    (sym has) (is_fault ArgumentConflict [])
repeated long index name (between low high) None rows has = is_fault InvalidValue []
repeated long index name nothing (Some v) rows has = is_fault WrongNumberOfValues []
repeated long index name nothing None rows has =
    subst (λ (b : Bool). IsFault (or_else (cond (b && true) (ArgumentConflict ∷ []) []) [])) (sym has) (is_fault ArgumentConflict [])

-- What a first use comes to: it is refused, or it adds a row, which stands for what is found.
pub data Use (long : Option Text) (index : Option ℕ) (name : Text) (takes : Takes) (v : Option Text) (rows : List Row) : Type 0 where
  refused : IsFault (UseFault long index name takes v rows) → taken takes v ≡ None → Use long index name takes v rows
  accepted : (text : Text) (n : Option ℕ) → UseFault long index name takes v rows ≡ []
      → used (rule long index name takes) (given v) rows ≡ rows ++ row name text ∷ []
      → taken takes v ≡ Some n → Stands takes text n → Use long index name takes v rows

-- A first use adds a row.
adds_row : (name text : Text) (rows : List Row) → has_row name rows ≡ false
    → at_row name (more_values CommandLine (text ∷ [])) (row name text ∷ []) (at_row name (λ _. []) [] rows) ≡ rows ++ row name text ∷ []
adds_row name text rows has =
    ap (λ (l : List Row). at_row name (more_values CommandLine (text ∷ [])) (row name text ∷ []) l)
    (no_such_row name (λ _. []) [] rows has ∙ append-nil rows)
    ∙ no_such_row name (more_values CommandLine (text ∷ [])) (row name text ∷ []) rows has

pub first_use : (long : Option Text) (index : Option ℕ) (name : Text) (takes : Takes) (v : Option Text) (rows : List Row) → has_row name rows ≡ false
    → Use long index name takes v rows
first_use long index name (between low high) (Some v) rows has = go (is_unsigned_in low high v) refl
  where
    fault_by : Bool → Bool → Kinds
    fault_by again fits = or_else (cond (again && true) (ArgumentConflict ∷ []) []) (or_else (cond fits [] (ValueValidation ∷ [])) [])

    go : (b : Bool) → is_unsigned_in low high v ≡ b → Use long index name (between low high) (Some v) rows
    go false bad = refused
        (subst (λ (b : Bool). IsFault (fault_by (has_row name rows) b)) (sym bad)
        (second_fault (cond (has_row name rows && true) (ArgumentConflict ∷ []) []) (ValueValidation ∷ []) (is_fault ValueValidation [])))
        (ap (option_map (λ (n : ℕ). Some n)) (no_number low high v bad))
    go true good = accepted v (Some (digits_value 10 (without_leading_plus v)))
        (ap (λ (b : Bool). fault_by b (is_unsigned_in low high v)) has ∙ ap (fault_by false) good)
        (adds_row name v rows has)
        (ap (option_map (λ (n : ℕ). Some n)) (a_number low high v good))
        (a_number low high v good)
first_use long index name (between low high) None rows has = refused (is_fault InvalidValue []) refl
first_use long index name nothing (Some v) rows has = refused (is_fault WrongNumberOfValues []) refl
first_use long index name nothing None rows has = accepted (codes "true") None
    (ap (λ (b : Bool). or_else (cond (b && true) (ArgumentConflict ∷ []) []) []) has) (adds_row name (codes "true") rows has) refl (refl, refl)

-- ---- the end

-- The rule is that of an argument, as building leaves it.
pub record Plain (a : Rule) : Type 0 where
  pub long : Option Text
  pub index : Option ℕ
  pub name : Text
  pub takes : Takes
  pub is : a ≡ rule long index name takes

pub plain : (long : Option Text) (index : Option ℕ) (name : Text) (takes : Takes) → Plain (rule long index name takes)
plain long index name takes = record { long = long; index = index; name = name; takes = takes; is = refl }

abbrev pub Blank : List Rule → Type 0
Blank [] = Unit {0}
Blank (a ∷ rest) = Plain a × Blank rest

one_each : (long : Option Text) (index : Option ℕ) (name : Text) (takes : Takes) → takes_several (rule long index name takes) ≡ false
one_each long index name (between low high) = refl
one_each long index name nothing = refl

pub one_value : (rules : List Rule) (i : ℕ) (a : Rule) → Blank rules → arg_by_index rules i ≡ Some a → takes_several a ≡ false
one_value [] i a blank e = absurd (cc)
one_value (x ∷ rest) i a blank e = go (one_value rest i a blank.1) (option_map_or (λ k. k == i) x.index false) e
  where
    go : (arg_by_index rest i ≡ Some a → takes_several a ≡ false) → (b : Bool) → cond b (Some x) (arg_by_index rest i) ≡ Some a → takes_several a ≡ false
    go below true is =
        let it : x ≡ a = cc in
        subst (λ (y : Rule). takes_several y ≡ false) (sym blank.0.is ∙ it) (one_each blank.0.long blank.0.index blank.0.name blank.0.takes)
    go below false is = below is

no_default_fault : (rules : List Rule) (rows : List Row) → Blank rules → defaults_fault rows rules ≡ []
unfolding defaults_fault
no_default_fault [] rows blank = refl
no_default_fault (a ∷ rest) rows blank =
    ap (λ (ks : Kinds). or_else ks (defaults_fault (with_default rows a) rest))
    (ap (λ (x : Rule). default_fault rows x) blank.0.is ∙ each blank.0.takes)
    ∙ no_default_fault rest (with_default rows a) blank.1
  where
    either : (b : Bool) (ks : Kinds) → ks ≡ [] → cond b [] ks ≡ []
    either true ks e = refl
    either false ks e = e

    each : (takes : Takes) → default_fault rows (rule blank.0.long blank.0.index blank.0.name takes) ≡ []
    each (between low high) = either (has_row blank.0.name rows || true) [] refl
    each nothing = either (has_row blank.0.name rows || false) [] refl

nothing_required : (rules : List Rule) (rows : List Row) → Blank rules → list_any (λ a. a.required && not (is_given a.id rows)) rules ≡ false
nothing_required [] rows blank = refl
nothing_required (a ∷ rest) rows blank =
    ap (λ (x : Rule). (x.required && not (is_given x.id rows)) || list_any (λ y. y.required && not (is_given y.id rows)) rest) blank.0.is
    ∙ nothing_required rest rows blank.1

-- The row of a flag that was not given.
abbrev unset : Text → Row
unset name = record { id = name; values = codes "false" ∷ []; count = None; source = Some DefaultValue; reading = reading.AsWritten }

-- What reads a flag that was not given as an argument without a row does not see the defaults.
module _ {X : Type 0} (G : Option Row → X) (name : Text) (unseen : (id : Text) → G (Some (unset id)) ≡ G None) where
  abbrev read : List Row → X
  read rows = G (find (λ r. bytes_eq r.id name) rows)

  one_unseen : (id : Text) (rows : List Row) → read (rows ++ unset id ∷ []) ≡ read rows
  one_unseen id [] = go (bytes_eq id name)
    where
      go : (b : Bool) → G (cond b (Some (unset id)) None) ≡ G None
      go true = unseen id
      go false = refl
  one_unseen id (x ∷ rows) = go (one_unseen id rows) (bytes_eq x.id name)
    where
      go : read (rows ++ unset id ∷ []) ≡ read rows → (b : Bool)
          → G (cond b (Some x) (find (λ r. bytes_eq r.id name) (rows ++ unset id ∷ []))) ≡ G (cond b (Some x) (find (λ r. bytes_eq r.id name) rows))
      go below true = refl
      go below false = below

  default_unseen : (long : Option Text) (index : Option ℕ) (id : Text) (takes : Takes) (rows : List Row)
      → read (with_default rows (rule long index id takes)) ≡ read rows
  default_unseen long index id (between low high) rows = go (has_row id rows)
    where
      go : (b : Bool) → read (cond b rows rows) ≡ read rows
      go true = refl
      go false = refl
  default_unseen long index id nothing rows = go (has_row id rows) refl
    where
      go : (b : Bool) → has_row id rows ≡ b
          → read (cond b rows (at_row id (more_values DefaultValue (codes "false" ∷ [])) (unset id ∷ []) rows)) ≡ read rows
      go true e = refl
      go false e = ap read (no_such_row id (more_values DefaultValue (codes "false" ∷ [])) (unset id ∷ []) rows e) ∙ one_unseen id rows

  defaults_unseen : (rules : List Rule) (rows : List Row) → Blank rules → read (fold with_default rows rules) ≡ read rows
  defaults_unseen [] rows blank = refl
  defaults_unseen (a ∷ rest) rows blank =
      defaults_unseen rest (with_default rows a) blank.1
      ∙ ap (λ (x : Rule). read (with_default rows x)) blank.0.is
      ∙ default_unseen blank.0.long blank.0.index blank.0.name blank.0.takes rows

-- The number of an argument in the rows at the end is the number that was found for it.
pub number_at_end : (rules : List Rule) (arguments : List Argument) (name : Text) (low high big : ℕ) (rows : List Row) (found : Found) → Blank rules
    → argument_named name arguments ≡ Some (record { name = name; takes = between low high }) → high ≤ big → Reads arguments rows found
    → number_in name (fold with_default rows rules) big ≡ number_for name found
number_at_end rules arguments name low high big rows found blank named le reads =
    defaults_unseen (λ r. option_and_then (number_of 0 big) (option_and_then row_text r)) name (λ id. refl) rules rows blank
    ∙ number_is arguments name low high big rows found named le reads

-- The rows at the end say that a flag was given if it was found.
pub flag_at_end : (rules : List Rule) (arguments : List Argument) (name : Text) (rows : List Row) (found : Found) → Blank rules
    → argument_named name arguments ≡ Some (record { name = name; takes = nothing }) → Reads arguments rows found
    → flag_in name (fold with_default rows rules) ≡ is_found name found
flag_at_end rules arguments name rows found blank named reads =
    defaults_unseen (λ r. option_map_or (λ t. bytes_eq t (codes "true")) (option_and_then row_text r) false) name (λ id. refl) rules rows blank
    ∙ flag_is arguments name rows found named reads

module _ (label : Text) (rules : List Rule) (blank : Blank rules) where
  abbrev s : Shape
  s = leaf label rules

  ends_well : (rows now : List Row) (pending : Option (Text × List Text)) → settle_fault rules false (held rows pending) ≡ []
      → settled_rows rules pending rows ≡ now → ending s (held rows pending) ≡ []
  ends_well rows now pending settles settled =
      ap (λ (ks : Kinds). or_else [] (or_else ks (or_else (defaults_fault (settled_rows rules pending rows) rules)
      (check_fault s (finished rules (held rows pending)) false)))) settles
      ∙ ap (λ (ks : Kinds). or_else ks (check_fault s (finished rules (held rows pending)) false)) (no_default_fault rules (settled_rows rules pending rows) blank)
      ∙ ap (λ (b : Bool). check_kinds false false b) (nothing_required rules (finished rules (held rows pending)) blank)

  -- At the end the rows are those that were found, and those of flags that were not given.
  pub ends_with : (F : List Row → Option Command) (command : Option Command) (rows now : List Row) (pending : Option (Text × List Text))
      → settle_fault rules false (held rows pending) ≡ [] → settled_rows rules pending rows ≡ now → F (fold with_default now rules) ≡ command
      → Gives F (ending s (held rows pending)) (finished rules (held rows pending)) command
  ends_with F command rows now pending settles settled is =
      subst (λ (ks : Kinds). Gives F ks (finished rules (held rows pending)) command) (sym (ends_well rows now pending settles settled))
      (ap (λ (l : List Row). F (fold with_default l rules)) settled ∙ is)
