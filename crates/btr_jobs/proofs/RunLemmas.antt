-- Lemmas on jobs that are shared among sessions: one job more, and two parts beside each other.
use Rattle.std.specs.Prelude.{◌≡◌, ℕ, List, [], ◌∷◌, ◌++◌}
use Rattle.std.proofs.Common.{◌<◌, ◌+◌, length, take, drop, get_or, set, refl, sym, ap, ◌∙◌, subst, arith}
use Rattle.std.proofs.lemmas.List.{take_more, take_more_set, drop_more, drop-set-lt, length-set}
use mathlib.Core.List.{head-eq_of_cons-eq, tail-eq_of_cons-eq}
use Rattle.btr_disk.specs.declared.disk.Disk.{Ghosts}
use Rattle.btr_hist.specs.declared.entry.Entry.{Entry}
use Rattle.btr_gate.specs.Prefixes.{StartsWith}
use Rattle.btr_hall.specs.declared.session.Hall.{Hall}
use Rattle.btr_hall.specs.declared.session.Session.{Session}
use Rattle.btr_hall.specs.Session.{Splits, Meets}
use Rattle.btr_jobs.specs.States.{StoreState, LogState, GoesOn}
use Rattle.btr_jobs.specs.Jobs.{AllKeep, Doing, AllDid, IsAt, Does}
use Rattle.btr_jobs.proofs.JobLemmas.{all_did_lasts, all_did_append, all_did_one}
use Rattle.btr_jobs.proofs.DoesLemmas.{does_none, does_then, does_both}

-- A list in which the items up to the index i were changed: the item at i is still what it was.
module _ {A : Type 0} (items now : List A) (i : ℕ) (was done : A) (inside : i < length now) (long : length now ≡ length items) (rest : drop i now ≡ drop i items) (is : was ≡ get_or now i was) where
  at_both : get_or now i was ∷ drop (i + 1) now ≡ get_or items i was ∷ drop (i + 1) items
  at_both = sym (drop_more now i was inside) ∙ rest ∙ drop_more items i was (subst (λ n. i < n) long inside)

  pub length_after : length (set now i done) ≡ length items
  length_after = length-set now i done ∙ long

  pub rest_after : drop (i + 1) (set now i done) ≡ drop (i + 1) items
  rest_after = drop-set-lt (i + 1) now i done (omega arith) ∙ tail-eq_of_cons-eq at_both

  pub items_more : take i items ++ was ∷ [] ≡ take (i + 1) items
  items_more =
      let same : was ≡ get_or items i was = is ∙ head-eq_of_cons-eq at_both in
      ap (λ x. take i items ++ x ∷ []) same ∙ sym (take_more items i was (subst (λ n. i < n) long inside))

  pub now_more : take i now ++ done ∷ [] ≡ take (i + 1) (set now i done)
  now_more = sym (take_more_set now i done inside)

module _ {J : Type 0} (did : Doing J) where
  -- What a job did is true for ever, and of a job that had seen less.
  abbrev pub Lasts : Type 0
  Lasts = (start : StoreState) (late early : LogState) (low : List Entry) (was now : J) (own : List ℕ) → GoesOn start late early → did start early low was now own → did start late low was now own

  abbrev pub Lowers : Type 0
  Lowers = (start : StoreState) (log : LogState) (low less : List Entry) (was now : J) (own : List ℕ) → StartsWith low less → did start log low was now own → did start log less was now own

  -- These jobs did their part.
  abbrev pub Did : List J → List J → StoreState → LogState → List Entry → List ℕ → Type 0
  Did before after start log low own = AllDid did start log low before after own

  module _ {D : Type 0} {disk : Ghosts D} (hall : Hall D disk) where
    -- No job was done.
    pub did_none : (s : Session D disk) → Does hall s s (Did [] [])
    did_none s = does_none hall s (Did [] []) (λ start log n. refl)

    -- One job more was done.
    pub did_more : Lasts → Lowers → (old mid new : Session D disk) (before after : List J) (was now : J) → IsAt hall new → Does hall old mid (Did before after) → Does hall mid new (λ start log low own. did start log low was now own) → Does hall old new (Did (before ++ was ∷ []) (after ++ now ∷ []))
    did_more lasts lowers old mid new before after was now at all one =
        does_then hall old mid new (Did before after) (λ start log low own. did start log low was now own) (Did (before ++ was ∷ []) (after ++ now ∷ [])) at
        (λ start late early low a b on starts first second.
        all_did_append did start late low before after a (was ∷ []) (now ∷ []) b
        (all_did_lasts did start late early low (λ w n o. lasts start late early low w n o on) before after a first)
        (all_did_one did start late low was now b (lowers start late early.history low was now b starts second)))
        all one

    -- Two parts were done beside each other.
    pub did_both : Lasts → (old kept other left right new : Session D disk) → Splits old kept other → Meets left right new → IsAt hall new → (before after more_before more_after : List J) → Does hall kept left (Did before after) → Does hall other right (Did more_before more_after) → Does hall old new (Did (before ++ more_before) (after ++ more_after))
    did_both lasts old kept other left right new splits meets at before after more_before more_after first second =
        does_both old kept other left right new splits meets hall (Did before after) (Did more_before more_after) (Did (before ++ more_before) (after ++ more_after)) at
        (λ start late early other_early low a b on other_on one two.
        all_did_append did start late low before after a more_before more_after b
        (all_did_lasts did start late early low (λ w n o. lasts start late early low w n o on) before after a one)
        (all_did_lasts did start late other_early low (λ w n o. lasts start late other_early low w n o other_on) more_before more_after b two))
        first second

-- ---- what jobs keep

module _ {J : Type 0} (keeps : J → J → Type 0) where
  pub keep_append : (before after more last : List J) → AllKeep keeps before after → AllKeep keeps more last → AllKeep keeps (before ++ more) (after ++ last)
  keep_append [] [] more last keep then = then
  keep_append [] (now ∷ after) more last keep then = absurd keep
  keep_append (was ∷ before) [] more last keep then = absurd keep
  keep_append (was ∷ before) (now ∷ after) more last keep then = (keep.0, keep_append before after more last keep.1 then)

  pub keep_push : (before after : List J) (was now : J) → AllKeep keeps before after → keeps was now → AllKeep keeps (before ++ was ∷ []) (after ++ now ∷ [])
  keep_push before after was now keep one = keep_append before after (was ∷ []) (now ∷ []) keep (one, tt)
