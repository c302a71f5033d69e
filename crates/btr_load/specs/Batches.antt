-- The points of a stream, cut into batches, and the commit of each batch.
use Rattle.std.specs.Prelude.{ℕ, zero, suc, List, [], ◌∷◌, map, length, take, drop, Result, Ok, Err}
use Rattle.btr_base.specs.Bag.{sort}
use Rattle.btr_base.specs.Commit.{Change}
use Rattle.btr_hist.specs.declared.entry.Entry.{Entry}
use Rattle.btr_hist.specs.declared.entry.Entry.TheVariants.{Commit}
use Rattle.btr_rows.specs.declared.row.NumberedPoint.{NumberedPoint}
use Rattle.btr_streams.specs.declared.board.Receipt.{Receipt}
use Rattle.btr_engine.specs.declared.step.StepFault.{StepFault}

-- At most this many batches of a list. Each has `size` items, and the last one what is left.
abbrev pub some_batches : {A : Type 0} → ℕ → ℕ → List A → List (List A)
some_batches zero size items = []
some_batches (suc count) size [] = []
some_batches (suc count) size (item ∷ items) =
    take size (item ∷ items) ∷ some_batches count size (drop size (item ∷ items))

-- All batches of a list.
abbrev pub batches_of : {A : Type 0} → ℕ → List A → List (List A)
batches_of size items = some_batches (length items) size items

-- The commit of a batch: it cuts nothing, and adds the points of the batch.
abbrev pub batch_entry : ℕ → List NumberedPoint → Entry
batch_entry stream batch = Commit stream [] (sort (map (λ b. b.point) batch))

-- The change of this commit.
abbrev pub batch_change : List NumberedPoint → Change
batch_change batch = record { cut = []; added = sort (map (λ b. b.point) batch) }

-- The version of the last accepted batch. If none was accepted it is the version before.
abbrev pub last_version : ℕ → List (Result Receipt StepFault) → ℕ
last_version version [] = version
last_version version (Ok receipt ∷ results) = last_version receipt.version results
last_version version (Err fault ∷ results) = last_version version results
