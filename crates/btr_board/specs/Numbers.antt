-- What a node of an index has for each id, and the partial function of ids that an index is.
use Rattle.std.specs.Prelude.{ℕ, zero, suc, ◌*◌, ◌/◌, ◌%◌, ◌^◌, Bool, ◌==◌, if◌then◌else◌, List, [], ◌∷◌, Option, None, Some}
use Rattle.std.specs.Option.{option_and_then}
use Rattle.btr_board.specs.declared.index_node.IndexEntry.{IndexEntry}
use Rattle.btr_board.specs.declared.index_node.IndexNode.{IndexNode, out-IndexNode}
use Rattle.btr_board.specs.declared.index_node.IndexNode.TheOpen.{IndexNode-F}

-- The number of the first entry with this id, if there is one.
abbrev pub first : List IndexEntry → ℕ → Option ℕ
first [] id = None
first (e ∷ es) id = if e.id == id then Some e.number else first es id

-- A bit of the id's hash: its product with an odd number near 2^128 over the golden ratio, modulo 2^128.
unfoldable pub bit : ℕ → ℕ → Bool
bit place id = (id * 210306068529402873165736369884012333109 % 2 ^ 128 / 2 ^ place % 2) == 1

-- The entries of a leaf.
abbrev pub leaf_entries : IndexNode-F IndexNode → List IndexEntry
leaf_entries (IndexNode-F.Leaf entries) = entries.items
leaf_entries (IndexNode-F.Inner zeros ones) = []

-- The number that a leaf has for an id, or that the half with the id has for it, by the id's next bit.
abbrev pub number_of_kind : (IndexNode → Option ℕ) → Bool → ℕ → IndexNode-F IndexNode → Option ℕ
number_of_kind number_of_half is_one id (IndexNode-F.Leaf entries) = first entries.items id
number_of_kind number_of_half is_one id (IndexNode-F.Inner zeros ones) =
    if is_one then number_of_half ones.value else number_of_half zeros.value

-- The number that a node of this height has for an id, if it has one.
unfoldable pub number_in : ℕ → IndexNode → ℕ → Option ℕ
number_in zero n id = first (leaf_entries (out-IndexNode n)) id
number_in (suc below) n id = number_of_kind (λ m. number_in below m id) (bit below id) id (out-IndexNode n)

-- The root of an index. Its height is 128, the number of bits of an id.
pub record IndexValue : Type 0 where
  pub root : Option IndexNode

-- The number that an index has for an id, if it has one. This is all that an index says: callers cite nothing else of it.
unfoldable pub number_of : IndexValue → ℕ → Option ℕ
number_of index id = option_and_then (λ n. number_in 128 n id) index.root
