-- Why `format` ends so, from what the call that formats says of its answer.
use Rattle.std.proofs.Common.{◌≡◌, ℕ, ◌<◌, ◌≤◌, ◌↔◌, Result, Ok, Err, OnOk, refl, subst, arith, inl, inr, ⊎_elim}
use Rattle.std.proofs.lemmas.Bool.{cases_lt}
use Rattle.btr_disk.specs.declared.disk.Disk.{Ghosts}
use Rattle.btr_disk.specs.Causes.{Rose, CountedTimes}
use Rattle.btr_disk.specs.Images.{Only}
use Rattle.btr_disk.specs.Moments.{IsUnwritten}
use Rattle.btr_super.specs.Format.{IsTooSmall, IsOccupied, HasClosedGates, Formatted}
use Rattle.btr_super.specs.declared.formatting.FormatFault.{FormatFault}
use Rattle.btr_super.specs.declared.formatting.FormatFault.TheVariants as faults
use Rattle.btr_top.specs.declared.ending.Ending.TheVariants as endings
use Rattle.btr_top.specs.Format.{FormatCause}

module _ {T D : Type 0} (disk : Ghosts D) where
  -- what a format says of its answer
  pub record FormatFacts (blocks : ℕ) (old new : D) (done : Result T FormatFault) : Type 0 where
    pub too_small : (asked has : ℕ) → (done ≡ Err (faults.TooSmall asked has)) ↔ IsTooSmall (disk.size old) blocks asked has
    pub uncalled : disk.size old < blocks → new ≡ old
    pub occupied : disk.is_observable → blocks ≤ disk.size old → (done ≡ Err faults.Fault → ⊥) → (block : ℕ) → (done ≡ Err (faults.Occupied block)) ↔ IsOccupied (disk.contents old) block
    pub refused : disk.is_observable → (block : ℕ) → done ≡ Err (faults.Occupied block) → IsUnwritten disk.calls disk.contents disk.images_now disk.images_since old new
    pub formatted : disk.is_observable → OnOk done (Formatted (disk.size old) blocks (disk.contents old) (disk.contents new))
    pub synced : disk.is_observable → OnOk done (Only (disk.contents new) (disk.images_now new))

  -- the store fits where the answer is another
  fits : (blocks : ℕ) (old new : D) (done : Result T FormatFault) → FormatFacts blocks old new done → (done ≡ Err (faults.TooSmall blocks (disk.size old)) → ⊥) → blocks ≤ disk.size old
  fits blocks old new done facts other =
      ⊎_elim
      (λ lt. absurd (other ((facts.too_small blocks (disk.size old)).1 (record { short = lt; asked_is = refl; has_is = refl }))))
      (λ le. le)
      (cases_lt (disk.size old) blocks)

  -- where a store was made none was there
  was_free : (blocks : ℕ) (old new : D) (x : T) → disk.is_observable → FormatFacts blocks old new (Ok x) → blocks ≤ disk.size old → HasClosedGates (disk.contents old)
  was_free blocks old new x reported facts le =
      let none : (block : ℕ) → IsOccupied (disk.contents old) block → ⊥ =
      λ block is. let e : Ok x ≡ Err (faults.Occupied block) = (facts.occupied reported le (λ f. cc) block).1 is in cc in
      record {
        first = λ opened. none 0 (inl (refl, opened));
        second = λ opened. none 2 (inr (refl, (λ first. none 0 (inl (refl, first))), opened));
      }

  pub after_ok : (blocks : ℕ) (old new : D) (x : T) → FormatFacts blocks old new (Ok x) → CountedTimes 8 (disk.calls old) (disk.calls new) → FormatCause disk blocks old new (endings.Formatted blocks)
  after_ok blocks old new x facts calls =
      let le : blocks ≤ disk.size old = fits blocks old new (Ok x) facts (λ e. cc) in (
        refl,
        le,
        calls,
        λ reported. record {
          was_free = was_free blocks old new x reported facts le;
          made = facts.formatted reported;
          durable = facts.synced reported;
        },
      )

  pub after_fault : (blocks : ℕ) (old new : D) (why : FormatFault) → why ≡ faults.Fault → FormatFacts blocks old new (Err why) → Rose (disk.faults old) (disk.faults new) → FormatCause disk blocks old new endings.NoDevice
  after_fault blocks old new why e given rose =
      let facts = subst (λ f. FormatFacts blocks old new (Err f)) e given in
      (fits blocks old new (Err faults.Fault) facts (λ e. cc), rose)

  pub after_occupied : (blocks : ℕ) (old new : D) (why : FormatFault) (block : ℕ) → why ≡ faults.Occupied block → FormatFacts blocks old new (Err why) → FormatCause disk blocks old new endings.Occupied
  after_occupied blocks old new why block e given =
      let facts = subst (λ f. FormatFacts blocks old new (Err f)) e given in
      let le : blocks ≤ disk.size old = fits blocks old new (Err (faults.Occupied block)) facts (λ e. cc) in (
        le,
        λ reported. record {
          block = block;
          was_there = (facts.occupied reported le (λ f. cc) block).0 refl;
          kept = facts.refused reported block refl;
        },
      )

  pub after_too_small : (blocks : ℕ) (old new : D) (why : FormatFault) (asked has : ℕ) → why ≡ faults.TooSmall asked has → FormatFacts blocks old new (Err why) → FormatCause disk blocks old new (endings.TooSmall asked has)
  after_too_small blocks old new why asked has e given =
      let facts = subst (λ f. FormatFacts blocks old new (Err f)) e given in
      let small = (facts.too_small asked has).0 refl in
      (small.asked_is, small.has_is, omega (arith, small.short, small.asked_is, small.has_is), facts.uncalled small.short)
