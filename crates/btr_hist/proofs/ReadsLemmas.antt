-- Lemmas on the versions of its inputs that an output reads: that the inputs have them, and that a distillate may read them.
use Rattle.std.specs.Prelude.{◌≡◌, ℕ, ◌≤◌, nat_le, true, ◌&&◌, List, ◌++◌, Option, Some, None}
use Rattle.std.specs.Option.{option_map}
use Rattle.std.proofs.Common.{refl, arith, subst}
use Rattle.std.proofs.lemmas.Bool.{leb-true, le-leb, and_parts, and_from}
use Rattle.btr_hist.specs.declared.entry.Entry.{Entry}
use Rattle.btr_hist.specs.declared.kernel.Spec.{Spec}
use Rattle.btr_hist.specs.declared.kernel.Reads.{Reads}
use Rattle.btr_hist.specs.History.{latest, nothing_read, latest_reads, second_points, inputs_at}
use Rattle.btr_hist.specs.Legal.{may_read_second, may_read}
use Rattle.btr_hist.proofs.HistoryLemmas.{bag-append}
use Rattle.btr_hist.proofs.VersionLemmas.{latest-more}

-- ---- the inputs have the versions

-- There is a version exactly if there is a second input, and the input has it.
abbrev pub IsSecondThere : List Entry → Option ℕ → Option ℕ → Type 0
IsSecondThere h None None = Unit {0}
IsSecondThere h (Some s) (Some version) = version ≤ latest h s
IsSecondThere h None (Some version) = ⊥
IsSecondThere h (Some s) None = ⊥

-- The inputs of the spec have these versions.
pub record AreThere (h : List Entry) (spec : Spec) (r : Reads) : Type 0 where
  pub first : r.first ≤ latest h spec.first
  pub second : IsSecondThere h spec.second r.second

-- The second input, if there is one, has the version.
pub there-second : (h : List Entry) (spec : Spec) (r : Reads) (s version : ℕ) → AreThere h spec r → spec.second ≡ Some s → r.second ≡ Some version → version ≤ latest h s
there-second h spec r s version there is read =
    subst (λ (o : Option ℕ). IsSecondThere h (Some s) o) read (subst (λ (o : Option ℕ). IsSecondThere h o r.second) is there.second)

second_there-more : (h more : List Entry) (s version : Option ℕ) → IsSecondThere h s version → IsSecondThere (h ++ more) s version
second_there-more h more None None there = tt
second_there-more h more (Some s) (Some version) there = omega (arith, latest-more h more s)
second_there-more h more None (Some version) there = absurd there
second_there-more h more (Some s) None there = absurd there

pub there-more : (h more : List Entry) (spec : Spec) (r : Reads) → AreThere h spec r → AreThere (h ++ more) spec r
there-more h more spec r there =
    let low = there.first in
    record { first = omega (arith, latest-more h more spec.first); second = second_there-more h more spec.second r.second there.second }

second_there-nothing : (h : List Entry) (s : Option ℕ) → IsSecondThere h s (option_map (λ t. 0) s)
second_there-nothing h None = tt
second_there-nothing h (Some s) = omega arith

-- Each input has a version 0.
pub there-nothing : (h : List Entry) (spec : Spec) → AreThere h spec (nothing_read spec)
there-nothing h spec = record { first = omega arith; second = second_there-nothing h spec.second }

second_points-append : (h more : List Entry) (s version : Option ℕ) → IsSecondThere h s version → second_points (h ++ more) s version ≡ second_points h s version
second_points-append h more None None there = refl
second_points-append h more (Some s) (Some version) there = bag-append h more s version there
second_points-append h more None (Some version) there = absurd there
second_points-append h more (Some s) None there = absurd there

-- The points of the inputs at versions that they have never change.
pub inputs_at-append : (h more : List Entry) (spec : Spec) (r : Reads) → AreThere h spec r → inputs_at (h ++ more) spec r ≡ inputs_at h spec r
inputs_at-append h more spec r there =
    let a = bag-append h more spec.first r.first there.first in
    let b = second_points-append h more spec.second r.second there.second in
    λ i. record { first = a i; second = b i }

-- ---- a distillate may read the versions

second-there : (h : List Entry) (s old new : Option ℕ) → may_read_second h s old new ≡ true → IsSecondThere h s new
second-there h None None None may = tt
second-there h None None (Some n) may = absurd (cc)
second-there h None (Some o) None may = absurd (cc)
second-there h None (Some o) (Some n) may = absurd (cc)
second-there h (Some s) None None may = absurd (cc)
second-there h (Some s) None (Some n) may = absurd (cc)
second-there h (Some s) (Some o) None may = absurd (cc)
second-there h (Some s) (Some o) (Some n) may =
    leb-true n (latest h s) (and_parts (nat_le o n) (nat_le n (latest h s)) may).1

-- What may be read is there.
pub may_read-there : (h : List Entry) (spec : Spec) (old new : Reads) → may_read h spec old new ≡ true → AreThere h spec new
may_read-there h spec old new may =
    let second = may_read_second h spec.second old.second new.second in
    let rest = (and_parts (nat_le old.first new.first) (nat_le new.first (latest h spec.first) && second) may).1 in
    let both = and_parts (nat_le new.first (latest h spec.first)) second rest in
    record { first = leb-true new.first (latest h spec.first) both.0; second = second-there h spec.second old.second new.second both.1 }

second-latest : (h : List Entry) (s old : Option ℕ) → IsSecondThere h s old → may_read_second h s old (option_map (λ t. latest h t) s) ≡ true
second-latest h None None there = refl
second-latest h (Some s) (Some o) there =
    and_from (nat_le o (latest h s)) (nat_le (latest h s) (latest h s)) (le-leb o (latest h s) there) (le-leb (latest h s) (latest h s) (omega arith))
second-latest h None (Some o) there = absurd there
second-latest h (Some s) None there = absurd there

-- The latest versions may be read, whatever was read before.
pub may_read-latest : (h : List Entry) (spec : Spec) (old : Reads) → AreThere h spec old → may_read h spec old (latest_reads h spec) ≡ true
may_read-latest h spec old there =
    let last = latest h spec.first in
    let second = may_read_second h spec.second old.second (latest_reads h spec).second in
    and_from (nat_le old.first last) (nat_le last last && second) (le-leb old.first last there.first) (and_from (nat_le last last) second (le-leb last last (omega arith)) (second-latest h spec.second old.second there.second))

second-more : (h more : List Entry) (s old new : Option ℕ) → may_read_second h s old new ≡ true → may_read_second (h ++ more) s old new ≡ true
second-more h more None None None may = refl
second-more h more None None (Some n) may = absurd (cc)
second-more h more None (Some o) None may = absurd (cc)
second-more h more None (Some o) (Some n) may = absurd (cc)
second-more h more (Some s) None None may = absurd (cc)
second-more h more (Some s) None (Some n) may = absurd (cc)
second-more h more (Some s) (Some o) None may = absurd (cc)
second-more h more (Some s) (Some o) (Some n) may =
    let both = and_parts (nat_le o n) (nat_le n (latest h s)) may in
    let low = leb-true n (latest h s) both.1 in
    and_from (nat_le o n) (nat_le n (latest (h ++ more) s)) both.0 (le-leb n (latest (h ++ more) s) (omega (arith, latest-more h more s)))

-- What may be read may be read in each longer history.
pub may_read-more : (h more : List Entry) (spec : Spec) (old new : Reads) → may_read h spec old new ≡ true → may_read (h ++ more) spec old new ≡ true
may_read-more h more spec old new may =
    let second = may_read_second h spec.second old.second new.second in
    let parts = and_parts (nat_le old.first new.first) (nat_le new.first (latest h spec.first) && second) may in
    let both = and_parts (nat_le new.first (latest h spec.first)) second parts.1 in
    let low = leb-true new.first (latest h spec.first) both.0 in
    let last = latest (h ++ more) spec.first in
    let here = le-leb new.first last (omega (arith, latest-more h more spec.first)) in
    let next = second-more h more spec.second old.second new.second both.1 in
    and_from (nat_le old.first new.first) (nat_le new.first last && may_read_second (h ++ more) spec.second old.second new.second) parts.0 (and_from (nat_le new.first last) (may_read_second (h ++ more) spec.second old.second new.second) here next)
