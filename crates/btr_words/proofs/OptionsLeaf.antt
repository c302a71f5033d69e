-- What a parse makes of the words of a subcommand with options that take numbers, and flags.
use Rattle.std.proofs.Common.{◌≡◌, ◌&&◌, ◌||◌, ◌++◌, ℕ, Bool, true, false, cond, List, [], ◌∷◌, Option, Some, None, is_some, refl, sym, ap, ◌∙◌, subst, fold, map, nat_lt}
use Rattle.std.specs.Option.{option_and_then, option_map, option_map_or}
use Rattle.std.specs.Str.{bytes_eq}
use Rattle.std.proofs.lemmas.List.{append_assoc, append-nil}
use Rattle.clap.specs.Lexer.{long_of}
use Rattle.clap.specs.Walk.{Held, Row, Rule, Text, Waiting, after_flag, arg_by_id, arg_by_index, arg_by_long, arg_by_short, finished, has_row, idle, long_met, next, option}
use Rattle.clap.specs.Walk.{Walk, after_step, option_word, plain_word, settled_rows, used, used_by_id, value, with_default}
use Rattle.clap.specs.Faults.{long_fault, settle_fault, step_fault, stray_fault, positional_fault, use_fault, walk_fault}
use Rattle.clap.specs.Kinds.{Kinds, or_else}
use Rattle.clap.specs.Simple.{Shape}
use Rattle.clap.specs.declared.error.kind.ErrorKind.TheVariants.{InvalidValue, TooManyValues, UnknownArgument}
use Rattle.btr_words.specs.declared.command.Command.{Command}
use Rattle.btr_words.specs.Words.{Argument, Found, Takes, argument_named, between, is_end, is_flag, nothing, numbers_of, options_after, others, taken, takes_nothing}
use Rattle.btr_words.proofs.WordCases.{HasNoShorts, dashes, held}
use Rattle.btr_words.proofs.Turns.{After, Gives, IsFault, at, ending, fault_from, first_fault, is_fault, refused_gives, rows_from, turn_cases}
use Rattle.btr_words.proofs.Found.{Reads, has_row_more, named_in_others, named_is, read_more, row, same_text}
use Rattle.btr_words.proofs.Leaf.{Blank, Use, UseFault, accepted, dashes_long, ends_with, first_use, given, leaf, not_end, numeral_dashes, numeral_long, numeral_of, numeral_short}
use Rattle.btr_words.proofs.Leaf.{plain, refused, repeated, rule}

-- The argument of this name that takes this, and its rule.
abbrev pub argument : Text → Takes → Argument
argument name takes = record { name = name; takes = takes }

abbrev pub rule_as : Text → Takes → Rule
rule_as name takes = rule (Some name) None name takes

abbrev pub option_rule : Argument → Rule
option_rule a = rule_as a.name a.takes

-- ---- rules by name

no_short : (arguments : List Argument) (x : ℕ) → arg_by_short (map option_rule arguments) x ≡ None
no_short [] x = refl
no_short (a ∷ rest) x = no_short rest x

no_place : (arguments : List Argument) (i : ℕ) → arg_by_index (map option_rule arguments) i ≡ None
no_place [] i = refl
no_place (a ∷ rest) i = no_place rest i

pub blank_rules : (arguments : List Argument) → Blank (map option_rule arguments)
blank_rules [] = tt
blank_rules (a ∷ rest) = (plain (Some a.name) None a.name a.takes, blank_rules rest)

rule_by_id : (arguments : List Argument) (name : Text) → arg_by_id (map option_rule arguments) name ≡ option_map option_rule (argument_named name arguments)
rule_by_id [] name = refl
rule_by_id (a ∷ rest) name = go (rule_by_id rest name) (bytes_eq a.name name)
  where
    go : arg_by_id (map option_rule rest) name ≡ option_map option_rule (argument_named name rest) → (b : Bool) → cond b (Some (option_rule a)) (arg_by_id (map option_rule rest) name) ≡ option_map option_rule (cond b (Some a) (argument_named name rest))
    go below true = refl
    go below false = below

rule_by_long : (arguments : List Argument) (name : Text) → arg_by_long (map option_rule arguments) name ≡ option_map option_rule (argument_named name arguments)
rule_by_long [] name = refl
rule_by_long (a ∷ rest) name = go (rule_by_long rest name) (bytes_eq a.name name)
  where
    go : arg_by_long (map option_rule rest) name ≡ option_map option_rule (argument_named name rest) → (b : Bool) → cond (true && (b || false)) (Some (option_rule a)) (arg_by_long (map option_rule rest) name) ≡ option_map option_rule (cond b (Some a) (argument_named name rest))
    go below true = refl
    go below false = below

either_way : (b : Bool) (o : Option Argument) → cond b o o ≡ o
either_way true o = refl
either_way false o = refl

module _ (label : Text) (arguments : List Argument) where
  abbrev R : List Rule
  R = map option_rule arguments

  abbrev s : Shape
  s = leaf label R

  abbrev IsNamed : Text → Takes → Type 0
  IsNamed name takes = argument_named name arguments ≡ Some (argument name takes)

  no_shorts : HasNoShorts s
  no_shorts x = no_short arguments x

  by_id : (name : Text) (takes : Takes) → IsNamed name takes → arg_by_id R name ≡ Some (rule_as name takes)
  by_id name takes named = rule_by_id arguments name ∙ ap (option_map option_rule) named

  stray : (h : Held) → IsFault (step_fault s 1 h value)
  stray h = subst (λ (o : Option Rule). IsFault (option_map_or (λ (a : Rule). positional_fault R false a h) o (stray_fault s)))
      (sym (no_place arguments 1)) (is_fault UnknownArgument [])

  trailing_more : (waiting : Waiting) (rows : List Row) (pending : Option (Text × List Text)) (word : Text) (rest : List Text)
      → IsFault (fault_from s (at 1 waiting true rows pending) (word ∷ rest))
  unfolding walk_fault
  trailing_more waiting rows pending word rest = first_fault _ _ (first_fault _ _ (stray (held rows pending)))

  -- ---- an option's faults

  long_when_pending : (name : Text) (takes : Takes) (v : Option Text) (h : Held) → IsFault (settle_fault R false h)
      → IsFault (long_fault R false (Some (rule_as name takes)) v h)
  long_when_pending name (between low high) (Some u) h f = first_fault _ _ f
  long_when_pending name (between low high) None h f = f
  long_when_pending name nothing (Some u) h f = is_fault TooManyValues []
  long_when_pending name nothing None h f = first_fault _ _ f

  long_settles : (p : Text × Option Text) (h : Held) → IsFault (settle_fault R false h)
      → IsFault (long_fault R false (arg_by_long R p.0) p.1 h)
  long_settles p h f = subst (λ (r : Option Rule). IsFault (long_fault R false r p.1 h)) (sym (rule_by_long arguments p.0)) (go (argument_named p.0 arguments))
    where
      go : (o : Option Argument) → IsFault (long_fault R false (option_map option_rule o) p.1 h)
      go None = is_fault UnknownArgument []
      go (Some a) = long_when_pending a.name a.takes p.1 h f

  empty_use : (name : Text) (low high : ℕ) (rows : List Row) → IsNamed name (between low high) → IsFault (settle_fault R false (held rows (Some (name, []))))
  empty_use name low high rows named = subst (λ (r : Option Rule). IsFault (option_map_or (λ (x : Rule). use_fault false x [] rows) r []))
      (sym (by_id name (between low high) named)) (is_fault InvalidValue [])

  pending_use : (name : Text) (takes : Takes) (rows : List Row) (v : Text) → IsNamed name takes → IsFault (UseFault (Some name) None name takes (Some v) rows)
      → IsFault (settle_fault R false (held rows (Some (name, v ∷ []))))
  pending_use name takes rows v named f = subst (λ (r : Option Rule). IsFault (option_map_or (λ (x : Rule). use_fault false x (v ∷ []) rows) r []))
      (sym (by_id name takes named)) f

  -- ---- states from which each way fails

  trailing_ends : (waiting : Waiting) (rows : List Row) (pending : Option (Text × List Text)) → IsFault (settle_fault R false (held rows pending))
      → (rest : List Text) → IsFault (fault_from s (at 1 waiting true rows pending) rest)
  unfolding walk_fault
  trailing_ends waiting rows pending f [] = first_fault _ _ f
  trailing_ends waiting rows pending f (word ∷ rest) = trailing_more waiting rows pending word rest

  doomed : (rows : List Row) (pending : Option (Text × List Text)) → IsFault (settle_fault R false (held rows pending))
      → (words : List Text) → IsFault (fault_from s (at 1 idle false rows pending) words)
  unfolding walk_fault
  doomed rows pending f [] = first_fault _ _ f
  doomed rows pending f (word ∷ rest) = turn_cases (λ ks _. IsFault ks) s 1 idle word rows pending rest no_shorts
      (λ d. trailing_ends idle rows pending f rest)
      (λ p _ _. first_fault _ _ (first_fault _ _ (long_settles p (held rows pending) f)))
      (λ _ _ _ _ k ks _. is_fault k ks)
      (λ _ _. first_fault _ _ (stray (held rows pending)))

  plain_is : (name : Text) (low high : ℕ) (rows : List Row) (word : Text) → IsNamed name (between low high)
      → plain_word R (option name) word (held rows (Some (name, []))) ≡ (held rows (Some (name, word ∷ [])), next idle)
  plain_is name low high rows word named =
      ap (λ (r : Option Rule). ((option_word r name word (held rows (Some (name, [])))).0, next (option_word r name word (held rows (Some (name, [])))).1))
      (by_id name (between low high) named)
      ∙ ap (λ (b : Bool). (held rows (Some (name, word ∷ [])), next (cond (nat_lt (cond b 1 0) 1) (option name) idle))) (same_text name)

  -- The option waits for a text, and its use with this text fails.
  waits_doomed : (name : Text) (low high : ℕ) (rows : List Row) (v : Text) (rest : List Text) → IsNamed name (between low high)
      → IsFault (UseFault (Some name) None name (between low high) (Some v) rows)
      → IsFault (fault_from s (at 1 (option name) false rows (Some (name, []))) (v ∷ rest))
  waits_doomed name low high rows v rest named f = turn_cases (λ ks _. IsFault ks) s 1 (option name) v rows (Some (name, [])) rest no_shorts
      (λ d. trailing_ends (option name) rows (Some (name, [])) (empty_use name low high rows named) rest)
      (λ p _ _. first_fault _ _ (first_fault _ _ (long_settles p (held rows (Some (name, []))) (empty_use name low high rows named))))
      (λ _ _ _ _ k ks _. is_fault k ks)
      (λ _ _. subst (After (λ ks _. IsFault ks) s 1 (option name) v rows (Some (name, [])) rest []) (sym (plain_is name low high rows v named))
      (doomed rows (Some (name, v ∷ [])) (pending_use name (between low high) rows v named f) rest))

  -- ---- what the words mean

  -- The arguments that are left are those without a row.
  abbrev Left : List Argument → List Row → Type 0
  Left left rows = (name : Text) → argument_named name left ≡ cond (has_row name rows) None (argument_named name arguments)

  left_more : (left : List Argument) (rows : List Row) (name v : Text) → Left left rows → Left (others name left) (rows ++ row name v ∷ [])
  left_more left rows name v h other =
      named_in_others name other left
      ∙ go (bytes_eq name other) (has_row other rows) (h other)
      ∙ ap (λ (b : Bool). cond b None (argument_named other arguments)) (sym (has_row_more other rows (row name v)))
    where
      go : (b1 b2 : Bool) → argument_named other left ≡ cond b2 None (argument_named other arguments)
          → cond b1 None (argument_named other left) ≡ cond (b2 || b1) None (argument_named other arguments)
      go true true e = refl
      go true false e = refl
      go false true e = e
      go false false e = e

  module _ (F : List Row → Option Command) (K : Found → Option Command)
      (same : (rows : List Row) (found : Found) → Reads arguments rows found → F (fold with_default rows R) ≡ K found) where
    abbrev Options : Type 0
    Options = Option (List (Text × Option Text))

    abbrev options_in : List Text → Options
    options_in words = options_after arguments None words

    abbrev completed : Found → Option Found → Option Command
    completed before found = option_and_then (λ more. K (before ++ more)) found

    abbrev meaning_of : List Argument → Found → Options → Option Command
    meaning_of left before options = completed before (option_and_then (numbers_of left) options)

    -- The options with one that was written first.
    abbrev with_first : Text → Option Text → Options → Options
    with_first name v options = option_map (λ more. (name, v) ∷ more) options

    abbrev after_name : Text → Option Text → List Text → Options
    after_name name v rest = cond (is_some v || is_flag name arguments) (with_first name v (options_in rest)) (options_after arguments (Some name) rest)

    record Quiet (rows : List Row) (pending : Option (Text × List Text)) (now : List Row) (left : List Argument) (before : Found) : Type 0 where
      settles : settle_fault R false (held rows pending) ≡ []
      settled : settled_rows R pending rows ≡ now
      lefts : Left left now
      reads : Reads arguments now before

    abbrev Idle : List Text → Type 0
    Idle words = (rows : List Row) (pending : Option (Text × List Text)) (now : List Row) (left : List Argument) (before : Found)
        → Quiet rows pending now left before
        → Gives F (fault_from s (at 1 idle false rows pending) words) (rows_from s (at 1 idle false rows pending) words) (meaning_of left before (options_in words))

    abbrev Waits : List Text → Type 0
    Waits words = (name : Text) (low high : ℕ) (now : List Row) (left : List Argument) (before : Found)
        → IsNamed name (between low high) → Left left now → Reads arguments now before
        → Gives F (fault_from s (at 1 (option name) false now (Some (name, []))) words) (rows_from s (at 1 (option name) false now (Some (name, []))) words)
        (meaning_of left before (options_after arguments (Some name) words))

    -- ---- the meaning with one option first

    -- What the options come to, if the first has this argument left.
    abbrev by_argument : List Argument → Found → Text → Option Text → List (Text × Option Text) → Option Argument → Option Command
    by_argument left before name v more o = completed before
        (option_and_then (λ a. option_and_then (λ n. option_map (λ found. (name, n) ∷ found) (numbers_of (others name left) more)) (taken a.takes v)) o)

    abbrev by_number : List Argument → Found → Text → List (Text × Option Text) → Option (Option ℕ) → Option Command
    by_number left before name more o = completed before (option_and_then (λ n. option_map (λ found. (name, n) ∷ found) (numbers_of (others name left) more)) o)

    none_left : (left : List Argument) (before : Found) (name : Text) (v : Option Text) (o : Options) → argument_named name left ≡ None
        → meaning_of left before (with_first name v o) ≡ None
    none_left left before name v None e = refl
    none_left left before name v (Some more) e = ap (by_argument left before name v more) e

    not_taken : (left : List Argument) (before : Found) (name : Text) (takes : Takes) (v : Option Text) (o : Options)
        → argument_named name left ≡ Some (argument name takes) → taken takes v ≡ None → meaning_of left before (with_first name v o) ≡ None
    not_taken left before name takes v None e none = refl
    not_taken left before name takes v (Some more) e none = ap (by_argument left before name v more) e ∙ ap (by_number left before name more) none

    one_more : (left : List Argument) (before : Found) (name : Text) (takes : Takes) (v : Option Text) (o : Options) (n : Option ℕ)
        → argument_named name left ≡ Some (argument name takes) → taken takes v ≡ Some n
        → meaning_of left before (with_first name v o) ≡ meaning_of (others name left) (before ++ (name, n) ∷ []) o
    one_more left before name takes v None n e is = refl
    one_more left before name takes v (Some more) n e is =
        ap (by_argument left before name v more) e ∙ ap (by_number left before name more) is ∙ rest (numbers_of (others name left) more)
      where
        rest : (found : Option Found) → completed before (option_map (λ found. (name, n) ∷ found) found) ≡ completed (before ++ (name, n) ∷ []) found
        rest None = refl
        rest (Some found) = ap K (sym (append_assoc before ((name, n) ∷ []) found))

    -- ---- one more option

    -- What an option with this text, or a flag, comes to: it fails, or there is one more row, which stands for what is found.
    data Comes (name : Text) (takes : Takes) (now : List Row) (left : List Argument) (v : Option Text) : Type 0 where
      fails : IsFault (UseFault (Some name) None name takes v now)
          → ((before : Found) (o : Options) → meaning_of left before (with_first name v o) ≡ None)
          → Comes name takes now left v
      passes : (text : Text) (n : Option ℕ) → UseFault (Some name) None name takes v now ≡ []
          → used (rule_as name takes) (given v) now ≡ now ++ row name text ∷ []
          → taken takes v ≡ Some n → Left (others name left) (now ++ row name text ∷ [])
          → ((before : Found) → Reads arguments now before → Reads arguments (now ++ row name text ∷ []) (before ++ (name, n) ∷ []))
          → ((before : Found) (o : Options) → meaning_of left before (with_first name v o) ≡ meaning_of (others name left) (before ++ (name, n) ∷ []) o)
          → Comes name takes now left v

    comes : (name : Text) (takes : Takes) (now : List Row) (left : List Argument) (v : Option Text) → IsNamed name takes → Left left now
        → Comes name takes now left v
    comes name takes now left v named lefts = row_there (has_row name now) refl
      where
        first : argument_named name left ≡ Some (argument name takes) → Use (Some name) None name takes v now → Comes name takes now left v
        first here (refused f none) = fails f (λ before o. not_taken left before name takes v o here none)
        first here (accepted text n usage row_is is stands) = passes text n usage row_is is
            (left_more left now name text lefts)
            (λ before reads. read_more arguments now before (row name text) (name, n) reads
            (record { text = text; argument = argument name takes; is = refl; named = named; stands = stands }))
            (λ before o. one_more left before name takes v o n here is)

        row_there : (b : Bool) → has_row name now ≡ b → Comes name takes now left v
        row_there true has = fails (repeated (Some name) None name takes v now has)
            (λ before o. none_left left before name v o (lefts name ∙ ap (λ (b : Bool). cond b None (argument_named name arguments)) has))
        row_there false none = first (lefts name ∙ ap (λ (b : Bool). cond b None (argument_named name arguments)) none ∙ named)
            (first_use (Some name) None name takes v now none)

    -- ---- the words

    idle_end : Idle []
    unfolding walk_fault
    idle_end rows pending now left before q =
        ends_with label R (blank_rules arguments) F (K (before ++ [])) rows now pending q.settles q.settled (same now before q.reads ∙ ap K (sym (append-nil before)))

    waits_end : Waits []
    unfolding walk_fault
    waits_end name low high now left before named lefts reads = refused_gives F _ _ (first_fault _ _ (empty_use name low high now named))

    waits_step : (text : Text) (rest : List Text) → Idle rest → Waits (text ∷ rest)
    waits_step text rest below name low high now left before named lefts reads = go (comes name (between low high) now left (Some text) named lefts)
      where
        walk : Walk
        walk = at 1 (option name) false now (Some (name, []))

        goal : Option Command → Type 0
        goal c = Gives F (fault_from s walk (text ∷ rest)) (rows_from s walk (text ∷ rest)) c

        go : Comes name (between low high) now left (Some text) → goal (meaning_of left before (with_first name (Some text) (options_in rest)))
        go (fails f none) = subst goal (sym (none before (options_in rest)))
            (refused_gives F (fault_from s walk (text ∷ rest)) (rows_from s walk (text ∷ rest)) (waits_doomed name low high now text rest named f))
        go (passes t n usage row_is is lefts_now reads_now means) =
            let good = numeral_of low high text n is in
            let not_dashes = numeral_dashes low high text good in
            let not_long = numeral_long low high text good in
            let not_short = numeral_short low high text good in
            let q : Quiet now (Some (name, text ∷ [])) (now ++ row name t ∷ []) (others name left) (before ++ (name, n) ∷ []) = record {
              settles = ap (λ (r : Option Rule). option_map_or (λ (x : Rule). use_fault false x (text ∷ []) now) r []) (by_id name (between low high) named) ∙ usage;
              settled = ap (λ (r : Option Rule). used_by_id r (text ∷ []) now) (by_id name (between low high) named) ∙ row_is;
              lefts = lefts_now;
              reads = reads_now before reads;
            } in
            subst goal (sym (means before (options_in rest)))
            (turn_cases (λ ks found. Gives F ks found (meaning_of (others name left) (before ++ (name, n) ∷ []) (options_in rest)))
            s 1 (option name) text now (Some (name, [])) rest no_shorts
            (λ d. absurd (cc))
            (λ p e _. absurd (cc))
            (λ _ _ flags e k ks found. absurd (cc))
            (λ _ _. subst (After (λ ks found. Gives F ks found (meaning_of (others name left) (before ++ (name, n) ∷ []) (options_in rest)))
            s 1 (option name) text now (Some (name, [])) rest []) (sym (plain_is name low high now text named))
            (below now (Some (name, text ∷ [])) (now ++ row name t ∷ []) (others name left) (before ++ (name, n) ∷ []) q)))

    -- What comes after an option's word.
    abbrev AfterOption : Text → List Text → List Row → Option (Text × List Text) → Option Rule → Option Text → Option Command → Type 0
    AfterOption word rest rows pending r v c = After (λ ks found. Gives F ks found c) s 1 idle word rows pending rest (long_fault R false r v (held rows pending))
        (after_flag R idle word (long_met R r v (held rows pending)).0 (long_met R r v (held rows pending)).1)

    -- What comes after a word that is a whole option.
    abbrev AfterUse : List Text → List Row → Option (Text × List Text) → Text → Takes → Option Text → Option Command → Type 0
    AfterUse rest rows pending name takes v c = Gives F
        (or_else (or_else (or_else (settle_fault R false (held rows pending)) (UseFault (Some name) None name takes v (settled_rows R pending rows))) [])
        (fault_from s (at 1 idle false (used (rule_as name takes) (given v) (settled_rows R pending rows)) None) rest))
        (rows_from s (at 1 idle false (used (rule_as name takes) (given v) (settled_rows R pending rows)) None) rest) c

    whole : (rest : List Text) (rows now : List Row) (pending : Option (Text × List Text)) (left : List Argument) (before : Found) (name : Text) (takes : Takes) (v : Option Text)
        → Idle rest → Quiet rows pending now left before → IsNamed name takes
        → AfterUse rest rows pending name takes v (meaning_of left before (with_first name v (options_in rest)))
    whole rest rows now pending left before name takes v below q named =
        subst by_settle (sym q.settles) (subst by_rows (sym q.settled) (go (comes name takes now left v named q.lefts)))
      where
        c : Option Command
        c = meaning_of left before (with_first name v (options_in rest))

        left_of : Kinds → List Row → Type 0
        left_of ks l = Gives F (or_else (or_else ks []) (fault_from s (at 1 idle false l None) rest)) (rows_from s (at 1 idle false l None) rest) c

        by_settle : Kinds → Type 0
        by_settle ks = left_of (or_else ks (UseFault (Some name) None name takes v (settled_rows R pending rows))) (used (rule_as name takes) (given v) (settled_rows R pending rows))

        by_rows : List Row → Type 0
        by_rows l = left_of (UseFault (Some name) None name takes v l) (used (rule_as name takes) (given v) l)

        go : Comes name takes now left v → by_rows now
        go (fails f none) = subst (Gives F (or_else (or_else (UseFault (Some name) None name takes v now) []) (fault_from s (at 1 idle false (used (rule_as name takes) (given v) now) None) rest))
            (rows_from s (at 1 idle false (used (rule_as name takes) (given v) now) None) rest)) (sym (none before (options_in rest)))
            (refused_gives F _ _ (first_fault _ _ (first_fault _ _ f)))
        go (passes t n usage row_is is lefts_now reads_now means) =
            let quiet : Quiet (now ++ row name t ∷ []) None (now ++ row name t ∷ []) (others name left) (before ++ (name, n) ∷ []) = record {
              settles = refl;
              settled = refl;
              lefts = lefts_now;
              reads = reads_now before q.reads;
            } in
            subst (λ (ks : Kinds). left_of ks (used (rule_as name takes) (given v) now)) (sym usage)
            (subst (λ (l : List Row). left_of [] l) (sym row_is)
            (subst (λ (x : Option Command). Gives F (fault_from s (at 1 idle false (now ++ row name t ∷ []) None) rest) (rows_from s (at 1 idle false (now ++ row name t ∷ []) None) rest) x)
            (sym (means before (options_in rest)))
            (below (now ++ row name t ∷ []) None (now ++ row name t ∷ []) (others name left) (before ++ (name, n) ∷ []) quiet)))

    begun : (word : Text) (rest : List Text) (rows now : List Row) (pending : Option (Text × List Text)) (left : List Argument) (before : Found) (name : Text) (low high : ℕ)
        → Waits rest → Quiet rows pending now left before → IsNamed name (between low high)
        → AfterOption word rest rows pending (Some (rule_as name (between low high))) None (meaning_of left before (options_after arguments (Some name) rest))
    begun word rest rows now pending left before name low high below q named =
        subst by_settle (sym q.settles) (subst by_rows (sym q.settled) (below name low high now left before named q.lefts q.reads))
      where
        by_rows : List Row → Type 0
        by_rows l = Gives F (fault_from s (at 1 (option name) false l (Some (name, []))) rest) (rows_from s (at 1 (option name) false l (Some (name, []))) rest)
            (meaning_of left before (options_after arguments (Some name) rest))

        by_settle : Kinds → Type 0
        by_settle ks = Gives F (or_else (or_else ks []) (fault_from s (at 1 (option name) false (settled_rows R pending rows) (Some (name, []))) rest))
            (rows_from s (at 1 (option name) false (settled_rows R pending rows) (Some (name, []))) rest)
            (meaning_of left before (options_after arguments (Some name) rest))

    known : (word : Text) (rest : List Text) (rows now : List Row) (pending : Option (Text × List Text)) (left : List Argument) (before : Found)
        (name : Text) (takes : Takes) (v : Option Text)
        → Idle rest → Waits rest → Quiet rows pending now left before → IsNamed name takes
        → AfterOption word rest rows pending (Some (rule_as name takes)) v (meaning_of left before (after_name name v rest))
    known word rest rows now pending left before name (between low high) (Some u) below waits q named =
        whole rest rows now pending left before name (between low high) (Some u) below q named
    known word rest rows now pending left before name (between low high) None below waits q named =
        subst (λ (b : Bool). AfterOption word rest rows pending (Some (rule_as name (between low high))) None
        (meaning_of left before (cond b (with_first name None (options_in rest)) (options_after arguments (Some name) rest))))
        (sym (ap (λ (o : Option Argument). option_map_or (λ (a : Argument). takes_nothing a.takes) o false) named))
        (begun word rest rows now pending left before name low high waits q named)
    known word rest rows now pending left before name nothing (Some u) below waits q named = go (comes name nothing now left (Some u) named q.lefts)
      where
        go : Comes name nothing now left (Some u) → meaning_of left before (with_first name (Some u) (options_in rest)) ≡ None
        go (fails f none) = none before (options_in rest)
        go (passes t n usage row_is is lefts_now reads_now means) = absurd (cc)
    known word rest rows now pending left before name nothing None below waits q named =
        subst (λ (b : Bool). AfterOption word rest rows pending (Some (rule_as name nothing)) None
        (meaning_of left before (cond b (with_first name None (options_in rest)) (options_after arguments (Some name) rest))))
        (sym (ap (λ (o : Option Argument). option_map_or (λ (a : Argument). takes_nothing a.takes) o false) named))
        (whole rest rows now pending left before name nothing None below q named)

    unknown : (left : List Argument) (before : Found) (name : Text) (v : Option Text) (rest : List Text) → argument_named name left ≡ None
        → meaning_of left before (after_name name v rest) ≡ None
    unknown left before name (Some u) rest e = none_left left before name (Some u) (options_in rest) e
    unknown left before name None rest e = go (is_flag name arguments) rest
      where
        go : (b : Bool) (rest : List Text) → meaning_of left before (cond b (with_first name None (options_in rest)) (options_after arguments (Some name) rest)) ≡ None
        go true rest = none_left left before name None (options_in rest) e
        go false [] = refl
        go false (text ∷ rest) = none_left left before name (Some text) (options_in rest) e

    by_name : (word : Text) (rest : List Text) (rows now : List Row) (pending : Option (Text × List Text)) (left : List Argument) (before : Found) (p : Text × Option Text)
        → Idle rest → Waits rest → Quiet rows pending now left before → (o : Option Argument) → argument_named p.0 arguments ≡ o
        → AfterOption word rest rows pending (option_map option_rule o) p.1 (meaning_of left before (after_name p.0 p.1 rest))
    by_name word rest rows now pending left before p below waits q None e =
        unknown left before p.0 p.1 rest (q.lefts p.0 ∙ ap (λ (o : Option Argument). cond (has_row p.0 now) None o) e ∙ either_way (has_row p.0 now) None)
    by_name word rest rows now pending left before p below waits q (Some a) e =
        let name : a.name ≡ p.0 = named_is p.0 arguments a e in
        subst (λ (n : Text). AfterOption word rest rows pending (Some (option_rule a)) p.1 (meaning_of left before (after_name n p.1 rest))) name
        (known word rest rows now pending left before a.name a.takes p.1 below waits q (ap (λ (n : Text). argument_named n arguments) name ∙ e))

    idle_step : (word : Text) (rest : List Text) → Idle rest → Waits rest → Idle (word ∷ rest)
    unfolding walk_fault
    idle_step word rest below waits rows pending now left before q =
        turn_cases (λ ks found. Gives F ks found (meaning (word ∷ rest))) s 1 idle word rows pending rest no_shorts
        (on_dashes rest)
        on_long
        (λ e d _ _ _ _ _. no_option rest (not_end word rest d) e)
        (λ e d. subst stray_word (sym (no_option rest (not_end word rest d) e)) (refused_gives F
        (or_else (step_fault s 1 (held rows pending) value) (fault_from s onward rest)) (rows_from s onward rest)
        (first_fault (step_fault s 1 (held rows pending) value) (fault_from s onward rest) (stray (held rows pending)))))
      where
        meaning : List Text → Option Command
        meaning words = meaning_of left before (options_in words)

        onward : Walk
        onward = after_step R word (at 1 idle false rows pending) (held rows pending) value

        stray_word : Option Command → Type 0
        stray_word c = Gives F (or_else (step_fault s 1 (held rows pending) value) (fault_from s onward rest)) (rows_from s onward rest) c

        by_option : Option (Text × Option Text) → List Text → Options
        by_option o l = option_and_then (λ (p : Text × Option Text). after_name p.0 p.1 l) o

        no_option : (l : List Text) → is_end (word ∷ l) ≡ false → long_of word ≡ None → meaning (word ∷ l) ≡ None
        no_option l more e =
            ap (λ (b : Bool). meaning_of left before (cond b (Some []) (by_option (long_of word) l))) more
            ∙ ap (λ (o : Option (Text × Option Text)). meaning_of left before (by_option o l)) e

        on_dashes : (l : List Text) → bytes_eq word dashes ≡ true
            → Gives F (fault_from s (at 1 idle true rows pending) l) (rows_from s (at 1 idle true rows pending) l) (meaning (word ∷ l))
        on_dashes [] d = subst (λ (b : Bool). Gives F (ending s (held rows pending)) (finished R (held rows pending)) (meaning_of left before (cond b (Some []) (by_option (long_of word) [])))) (sym d)
            (idle_end rows pending now left before q)
        on_dashes (x ∷ l) d = subst (Gives F (fault_from s (at 1 idle true rows pending) (x ∷ l)) (rows_from s (at 1 idle true rows pending) (x ∷ l)))
            (sym (no_option (x ∷ l) refl (dashes_long word d)))
            (refused_gives F (fault_from s (at 1 idle true rows pending) (x ∷ l)) (rows_from s (at 1 idle true rows pending) (x ∷ l)) (trailing_more idle rows pending x l))

        on_long : (p : Text × Option Text) → long_of word ≡ Some p → bytes_eq word dashes ≡ false → AfterOption word rest rows pending (arg_by_long R p.0) p.1 (meaning (word ∷ rest))
        on_long p e d =
            let means : meaning (word ∷ rest) ≡ meaning_of left before (after_name p.0 p.1 rest) =
            ap (λ (b : Bool). meaning_of left before (cond b (Some []) (by_option (long_of word) rest))) (not_end word rest d)
            ∙ ap (λ (o : Option (Text × Option Text)). meaning_of left before (by_option o rest)) e in
            subst (AfterOption word rest rows pending (arg_by_long R p.0) p.1) (sym means)
            (subst (λ (r : Option Rule). AfterOption word rest rows pending r p.1 (meaning_of left before (after_name p.0 p.1 rest))) (sym (rule_by_long arguments p.0))
            (by_name word rest rows now pending left before p below waits q (argument_named p.0 arguments) refl))

    both_ways : (words : List Text) → Idle words × Waits words
    both_ways [] = (idle_end, waits_end)
    both_ways (word ∷ rest) =
        let below = both_ways rest in
        (idle_step word rest below.0 below.1, waits_step word rest below.0)

    -- The parse of the words of the subcommand gives their meaning.
    pub options_give : (words : List Text)
        → Gives F (fault_from s (at 1 idle false [] None) words) (rows_from s (at 1 idle false [] None) words)
        (option_and_then K (option_and_then (numbers_of arguments) (options_after arguments None words)))
    options_give words = (both_ways words).0 [] None [] arguments [] (record { settles = refl; settled = refl; lefts = λ name. refl; reads = tt })
