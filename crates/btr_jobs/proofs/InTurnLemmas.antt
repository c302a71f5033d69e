-- Lemmas on jobs that are done one after another: it is true for ever, parts follow each other, and each job did its part.
use Rattle.std.specs.Prelude.{◌≡◌, ℕ, List, [], ◌∷◌, ◌++◌}
use Rattle.std.proofs.Common.{refl, arith}
use Rattle.btr_disk.specs.declared.disk.Disk.{Ghosts}
use Rattle.btr_hist.specs.declared.entry.Entry.{Entry}
use Rattle.btr_gate.specs.Numbers.{times}
use Rattle.btr_gate.specs.Prefixes.{StartsWith}
use Rattle.btr_gate.proofs.NumberLemmas.{times_append}
use Rattle.btr_gate.proofs.PrefixLemmas.{starts_refl, starts_trans}
use Rattle.btr_hall.specs.declared.session.Hall.{Hall}
use Rattle.btr_hall.specs.declared.session.Session.{Session}
use Rattle.btr_hall.specs.Session.{Splits, Meets}
use Rattle.btr_jobs.specs.States.{StoreState, LogState, GoesOn}
use Rattle.btr_jobs.specs.Jobs.{Doing, AllDid, DidInTurn, IsAt, Does}
use Rattle.btr_jobs.proofs.JobLemmas.{all_did_lowers}
use Rattle.btr_jobs.specs.TurnLaws.{goes_refl, goes_trans}
use Rattle.btr_jobs.proofs.DoesLemmas.{does_none, does_implied, does_then, does_both}
use Rattle.btr_jobs.proofs.RunLemmas.{Lasts, Lowers, Did}

-- The items of lists, one list after another.
abbrev pub flat : {A : Type 0} → List (List A) → List A
flat [] = []
flat (l ∷ ls) = l ++ flat ls

-- What is said of each job may be put for another thing, which it implies.
pub turn_implied : {J : Type 0} (did more : Doing J) (start : StoreState) → ((log : LogState) (low : List Entry) (was now : J) (own : List ℕ) → did start log low was now own → more start log low was now own) → (late : LogState) (low : List Entry) (before after : List J) (own : List ℕ) → DidInTurn did start late low before after own → DidInTurn more start late low before after own
turn_implied did more start implies late low [] [] own turn = turn
turn_implied did more start implies late low [] (now ∷ after) own turn = absurd turn
turn_implied did more start implies late low (was ∷ before) [] own turn = absurd turn
turn_implied did more start implies late low (was ∷ before) (now ∷ after) own turn = (
  turn.0,
  turn.1,
  turn.2,
  turn.3,
  turn.4,
  implies turn.0 low was now turn.3 turn.5,
  turn_implied did more start implies late turn.0.history before after turn.4 turn.6,
  turn.7,
)

module _ {J : Type 0} (did : Doing J) (start : StoreState) where
  -- The order of the numbers does not matter.
  pub turn_alike : (late : LogState) (low : List Entry) (before after : List J) (own other : List ℕ) → ((n : ℕ) → times n other ≡ times n own) → DidInTurn did start late low before after own → DidInTurn did start late low before after other
  turn_alike late low [] [] own other alike turn =
      (turn.0, λ n. let same = alike n in let none = turn.1 n in omega (arith, same, none))
  turn_alike late low [] (now ∷ after) own other alike turn = absurd turn
  turn_alike late low (was ∷ before) [] own other alike turn = absurd turn
  turn_alike late low (was ∷ before) (now ∷ after) own other alike turn =
      (turn.0, turn.1, turn.2, turn.3, turn.4, turn.5, turn.6, λ n. let same = alike n in let sum = turn.7 n in omega (arith, same, sum))

  -- It is true for ever.
  pub turn_lasts : (late early : LogState) (low : List Entry) (before after : List J) (own : List ℕ) → GoesOn start late early → DidInTurn did start early low before after own → DidInTurn did start late low before after own
  turn_lasts late early low [] [] own on turn = (starts_trans late.history early.history low on.begins turn.0, turn.1)
  turn_lasts late early low [] (now ∷ after) own on turn = absurd turn
  turn_lasts late early low (was ∷ before) [] own on turn = absurd turn
  turn_lasts late early low (was ∷ before) (now ∷ after) own on turn = (
    turn.0,
    goes_trans start late early turn.0 on turn.1,
    turn.2,
    turn.3,
    turn.4,
    turn.5,
    turn_lasts late early turn.0.history before after turn.4 on turn.6,
    turn.7,
  )

  module _ (lowers : Lowers did) where
    -- It is true after less had been seen.
    pub turn_lowers : (late : LogState) (low less : List Entry) (before after : List J) (own : List ℕ) → StartsWith low less → DidInTurn did start late low before after own → DidInTurn did start late less before after own
    turn_lowers late low less [] [] own starts turn = (starts_trans late.history low less turn.0 starts, turn.1)
    turn_lowers late low less [] (now ∷ after) own starts turn = absurd turn
    turn_lowers late low less (was ∷ before) [] own starts turn = absurd turn
    turn_lowers late low less (was ∷ before) (now ∷ after) own starts turn = (
      turn.0,
      turn.1,
      starts_trans turn.0.history low less turn.2 starts,
      turn.3,
      turn.4,
      lowers start turn.0 low less was now turn.3 starts turn.5,
      turn.6,
      turn.7,
    )

    -- Jobs after jobs.
    pub turn_append : (late middle : LogState) (low : List Entry) (before after : List J) (own : List ℕ) (more_before more_after : List J) (more : List ℕ) → GoesOn start late middle → DidInTurn did start middle low before after own → DidInTurn did start late middle.history more_before more_after more → DidInTurn did start late low (before ++ more_before) (after ++ more_after) (own ++ more)
    turn_append late middle low [] [] own more_before more_after more on turn then =
        turn_alike late low more_before more_after more (own ++ more) (λ n.
        let both = times_append n own more in let none = turn.1 n in omega (arith, both, none))
        (turn_lowers late middle.history low more_before more_after more turn.0 then)
    turn_append late middle low [] (now ∷ after) own more_before more_after more on turn then = absurd turn
    turn_append late middle low (was ∷ before) [] own more_before more_after more on turn then = absurd turn
    turn_append late middle low (was ∷ before) (now ∷ after) own more_before more_after more on turn then = (
      turn.0,
      goes_trans start late middle turn.0 on turn.1,
      turn.2,
      turn.3,
      turn.4 ++ more,
      turn.5,
      turn_append late middle turn.0.history before after turn.4 more_before more_after more on turn.6 then,
      λ n.
          let both = times_append n own more in
          let rest = times_append n turn.4 more in
          let sum = turn.7 n in
          omega (arith, both, rest, sum),
    )

    -- Each job did its part.
    pub turn_all : Lasts did → (late : LogState) (low : List Entry) (before after : List J) (own : List ℕ) → DidInTurn did start late low before after own → AllDid did start late low before after own
    turn_all lasts late low [] [] own turn = turn.1
    turn_all lasts late low [] (now ∷ after) own turn = absurd turn
    turn_all lasts late low (was ∷ before) [] own turn = absurd turn
    turn_all lasts late low (was ∷ before) (now ∷ after) own turn =
        let rest = turn_all lasts late turn.0.history before after turn.4 turn.6 in (
          turn.3,
          turn.4,
          lasts start late turn.0 low was now turn.3 turn.1 turn.5,
          all_did_lowers did start late turn.0.history low (λ w n o. lowers start late turn.0.history low w n o turn.2) before after turn.4 rest,
          turn.7,
        )

    -- Lists of jobs one after another are all their jobs one after another.
    pub turn_flat : (late : LogState) (low : List Entry) (before after : List (List J)) (own : List ℕ) → DidInTurn (DidInTurn did) start late low before after own → DidInTurn did start late low (flat before) (flat after) own
    turn_flat late low [] [] own turn = turn
    turn_flat late low [] (now ∷ after) own turn = absurd turn
    turn_flat late low (was ∷ before) [] own turn = absurd turn
    turn_flat late low (was ∷ before) (now ∷ after) own turn =
        let rest = turn_flat late turn.0.history before after turn.4 turn.6 in
        turn_alike late low (was ++ flat before) (now ++ flat after) (turn.3 ++ turn.4) own
        (λ n. let both = times_append n turn.3 turn.4 in let sum = turn.7 n in omega (arith, both, sum))
        (turn_append late turn.0 low was now turn.3 (flat before) (flat after) turn.4 turn.1 turn.5 rest)

  -- One job.
  pub turn_one : (late : LogState) (low : List Entry) (was now : J) (own : List ℕ) → StartsWith late.history low → did start late low was now own → DidInTurn did start late low (was ∷ []) (now ∷ []) own
  turn_one late low was now own starts one =
      (late, goes_refl start late, starts, own, [], one, (starts_refl late.history, λ n. refl), λ n. omega arith)

module _ {J : Type 0} (did : Doing J) where
  -- These jobs were done one after another.
  abbrev pub InTurn : List J → List J → StoreState → LogState → List Entry → List ℕ → Type 0
  InTurn before after start log low own = DidInTurn did start log low before after own

  module _ {D : Type 0} {disk : Ghosts D} (hall : Hall D disk) where
    -- No job was done.
    pub in_turn_none : (s : Session D disk) → Does hall s s (InTurn [] [])
    in_turn_none s = does_none hall s (InTurn [] []) (λ start log. (starts_refl log.history, λ n. refl))

    -- One job more was done.
    pub in_turn_more : Lowers did → (old mid new : Session D disk) (before after : List J) (was now : J) → IsAt hall new → Does hall old mid (InTurn before after) → Does hall mid new (λ start log low own. did start log low was now own) → Does hall old new (InTurn (before ++ was ∷ []) (after ++ now ∷ []))
    in_turn_more lowers old mid new before after was now at all one =
        does_then hall old mid new (InTurn before after) (λ start log low own. did start log low was now own) (InTurn (before ++ was ∷ []) (after ++ now ∷ [])) at
        (λ start late early low a b on starts first second.
        turn_append did start lowers late early low before after a (was ∷ []) (now ∷ []) b on first
        (turn_one did start late early.history was now b on.begins second))
        all one

    -- Each of them did its part.
    pub in_turn_all : Lasts did → Lowers did → (old new : Session D disk) (before after : List J) → Does hall old new (InTurn before after) → Does hall old new (Did did before after)
    in_turn_all lasts lowers old new before after does =
        does_implied hall old new (InTurn before after) (Did did before after) (λ start log low own. turn_all did start lowers lasts log low before after own) does

    -- They were done by a session that was split off and met again. The other one did nothing.
    pub in_turn_apart : (old kept other right new : Session D disk) → Splits old kept other → Meets kept right new → IsAt hall new → (before after : List J) → Does hall other right (InTurn before after) → Does hall old new (InTurn before after)
    in_turn_apart old kept other right new splits meets at before after does =
        does_both old kept other kept right new splits meets hall (λ start log low own. (n : ℕ) → times n own ≡ 0) (InTurn before after) (InTurn before after) at
        (λ start late early other_early low a b on other_on none turn.
        turn_alike did start late low before after b (a ++ b) (λ n. let both = times_append n a b in let zero = none n in omega (arith, both, zero))
        (turn_lasts did start late other_early low before after b other_on turn))
        (does_none hall kept (λ start log low own. (n : ℕ) → times n own ≡ 0) (λ start log n. refl)) does
