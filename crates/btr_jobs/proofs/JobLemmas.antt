-- Lemmas on many jobs: lists after one another, and what is said of each job.
use Rattle.std.specs.Prelude.{◌≡◌, ℕ, List, [], ◌∷◌, ◌++◌, length}
use Rattle.std.proofs.Common.{suc, refl, ap, ◌∙◌, arith}
use Rattle.btr_hist.specs.declared.entry.Entry.{Entry}
use Rattle.btr_gate.specs.Numbers.{times}
use Rattle.btr_gate.proofs.NumberLemmas.{times_append}
use Rattle.btr_jobs.specs.States.{StoreState, LogState}
use Rattle.btr_jobs.specs.Jobs.{Doing, AllDid}

module _ {J : Type 0} where
  -- What is said of each job may be put for another thing, which it implies.
  pub all_did_implied : (did more : Doing J) (start : StoreState) (log next : LogState) (low less : List Entry)
      → ((was now : J) (own : List ℕ) → did start log low was now own → more start next less was now own)
      → (before after : List J) (own : List ℕ)
      → AllDid did start log low before after own → AllDid more start next less before after own
  all_did_implied did more start log next low less implies [] [] own all = all
  all_did_implied did more start log next low less implies [] (now ∷ after) own all = absurd all
  all_did_implied did more start log next low less implies (was ∷ before) [] own all = absurd all
  all_did_implied did more start log next low less implies (was ∷ before) (now ∷ after) own all =
      let rest = all_did_implied did more start log next low less implies before after all.1 all.3 in
      (all.0, all.1, implies was now all.0 all.2, rest, all.4)

  -- If what is said of a job is true for ever, it is so of all jobs.
  pub all_did_lasts : (did : Doing J) (start : StoreState) (late early : LogState) (low : List Entry)
      → ((was now : J) (own : List ℕ) → did start early low was now own → did start late low was now own)
      → (before after : List J) (own : List ℕ)
      → AllDid did start early low before after own → AllDid did start late low before after own
  all_did_lasts did start late early low lasts before after own all =
      all_did_implied did did start early late low low lasts before after own all

  -- If what is said of a job is true of one that had seen less, it is so of all jobs.
  pub all_did_lowers : (did : Doing J) (start : StoreState) (log : LogState) (low less : List Entry)
      → ((was now : J) (own : List ℕ) → did start log low was now own → did start log less was now own)
      → (before after : List J) (own : List ℕ)
      → AllDid did start log low before after own → AllDid did start log less before after own
  all_did_lowers did start log low less lowers before after own all =
      all_did_implied did did start log log low less lowers before after own all

  module _ (did : Doing J) (start : StoreState) (log : LogState) (low : List Entry) where
    -- The order of the numbers does not matter.
    pub all_did_alike : (before after : List J) (own other : List ℕ) → ((n : ℕ) → times n other ≡ times n own)
        → AllDid did start log low before after own → AllDid did start log low before after other
    all_did_alike [] [] own other alike all = λ n. alike n ∙ all n
    all_did_alike [] (now ∷ after) own other alike all = absurd all
    all_did_alike (was ∷ before) [] own other alike all = absurd all
    all_did_alike (was ∷ before) (now ∷ after) own other alike all = (all.0, all.1, all.2, all.3, λ n. alike n ∙ all.4 n)

    -- Jobs after jobs.
    pub all_did_append : (before after : List J) (own : List ℕ) (more_before more_after : List J) (more : List ℕ)
        → AllDid did start log low before after own → AllDid did start log low more_before more_after more
        → AllDid did start log low (before ++ more_before) (after ++ more_after) (own ++ more)
    all_did_append [] [] own more_before more_after more all then =
        all_did_alike more_before more_after more (own ++ more) (λ n.
        let both = times_append n own more in let none = all n in omega (arith, both, none)) then
    all_did_append [] (now ∷ after) own more_before more_after more all then = absurd all
    all_did_append (was ∷ before) [] own more_before more_after more all then = absurd all
    all_did_append (was ∷ before) (now ∷ after) own more_before more_after more all then = (
      all.0,
      all.1 ++ more,
      all.2,
      all_did_append before after all.1 more_before more_after more all.3 then,
      λ n.
          let both = times_append n own more in
          let rest = times_append n all.1 more in
          let sum = all.4 n in
          omega (arith, both, rest, sum),
    )

    -- One job.
    pub all_did_one : (was now : J) (own : List ℕ) → did start log low was now own
        → AllDid did start log low (was ∷ []) (now ∷ []) own
    all_did_one was now own one = (own, [], one, (λ n. refl), λ n. omega arith)

    -- Each job is still in its place.
    pub all_did_length : (before after : List J) (own : List ℕ)
        → AllDid did start log low before after own → length after ≡ length before
    all_did_length [] [] own all = refl
    all_did_length [] (now ∷ after) own all = absurd all
    all_did_length (was ∷ before) [] own all = absurd all
    all_did_length (was ∷ before) (now ∷ after) own all = ap suc (all_did_length before after all.1 all.3)
