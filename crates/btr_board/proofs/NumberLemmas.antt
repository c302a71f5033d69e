-- Lemmas on the number that a node has for an id: at a leaf, at an inner node, and with an entry put.
use Rattle.std.specs.Prelude.{◌≡◌, ◌≢◌, ℕ, zero, suc, Bool, true, false, if◌then◌else◌, List, Vec, Option, None, Some}
use Rattle.std.proofs.Common.{refl, sym, ap, ◌∙◌}
use Rattle.std.specs.Option.{option_and_then}
use Rattle.std.specs.declared.alloc.Global.{Global}
use Rattle.std.specs.declared.sync.Arc.{Arc}
use Rattle.btr_board.specs.declared.index_node.IndexEntry.{IndexEntry}
use Rattle.btr_board.specs.declared.index_node.IndexNode.{IndexNode, out-IndexNode}
use Rattle.btr_board.specs.declared.index_node.IndexNode.TheVariants.{Leaf, Inner, rolls-Leaf, rolls-Inner}
use Rattle.btr_board.specs.declared.index_node.IndexNode.TheOpen.{IndexNode-F}
use Rattle.btr_board.specs.declared.index_node.IndexNode.TheViews.{out-roll-IndexNode}
use Rattle.btr_board.specs.Put.{put_at}
use Rattle.btr_board.specs.Places.{node_of}
use Rattle.btr_board.specs.Numbers.{first, bit, leaf_entries, number_of_kind, number_in, IndexValue, number_of}
use Rattle.btr_board.proofs.PutLemmas.{put-other, put-alike}

out-leaf : (es : Vec IndexEntry Global) → out-IndexNode (Leaf es) ≡ IndexNode-F.Leaf es
out-leaf es = ap out-IndexNode (sym (rolls-Leaf es)) ∙ out-roll-IndexNode (IndexNode-F.Leaf es)

out-inner : (zs os : Arc IndexNode Global) → out-IndexNode (Inner zs os) ≡ IndexNode-F.Inner zs os
out-inner zs os =
    ap out-IndexNode (sym (rolls-Inner zs os)) ∙ out-roll-IndexNode (IndexNode-F.Inner zs os)

pub number-leaf : (h : ℕ) (n : IndexNode) (es : Vec IndexEntry Global) (j : ℕ) → n ≡ Leaf es → number_in h n j ≡ first es.items j
unfolding number_in
number-leaf zero n es j e = ap (λ m. first (leaf_entries m) j) (ap out-IndexNode e ∙ out-leaf es)
number-leaf (suc k) n es j e =
    ap (number_of_kind (λ m. number_in k m j) (bit k j) j) (ap out-IndexNode e ∙ out-leaf es)

-- A node of height 0 has no halves.
lowest-inner : (n : IndexNode) (zs os : Arc IndexNode Global) (j : ℕ) → n ≡ Inner zs os → number_in 0 n j ≡ None
unfolding number_in
lowest-inner n zs os j e = ap (λ m. first (leaf_entries m) j) (ap out-IndexNode e ∙ out-inner zs os)

pub number-lowest : (h : ℕ) (n : IndexNode) (zs os : Arc IndexNode Global) (j : ℕ) → h ≡ 0 → n ≡ Inner zs os → number_in h n j ≡ None
number-lowest h n zs os j low e = ap (λ k. number_in k n j) low ∙ lowest-inner n zs os j e

inner-next : (k : ℕ) (n : IndexNode) (zs os : Arc IndexNode Global) (j : ℕ) → n ≡ Inner zs os → number_in (suc k) n j ≡ (if bit k j then number_in k os.value j else number_in k zs.value j)
unfolding number_in
inner-next k n zs os j e =
    ap (number_of_kind (λ m. number_in k m j) (bit k j) j) (ap out-IndexNode e ∙ out-inner zs os)

number-inner : (k h : ℕ) (n : IndexNode) (zs os : Arc IndexNode Global) (j : ℕ) → h ≡ suc k → n ≡ Inner zs os → number_in h n j ≡ (if bit k j then number_in k os.value j else number_in k zs.value j)
number-inner k h n zs os j high e = ap (λ i. number_in i n j) high ∙ inner-next k n zs os j e

-- The half with the id has its number.
pub number-one : (k h : ℕ) (n : IndexNode) (zs os : Arc IndexNode Global) (j : ℕ) → h ≡ suc k → n ≡ Inner zs os → bit k j ≡ true → number_in h n j ≡ number_in k os.value j
number-one k h n zs os j high e b =
    number-inner k h n zs os j high e
    ∙ ap (λ t. if t then number_in k os.value j else number_in k zs.value j) b

pub number-zero : (k h : ℕ) (n : IndexNode) (zs os : Arc IndexNode Global) (j : ℕ) → h ≡ suc k → n ≡ Inner zs os → bit k j ≡ false → number_in h n j ≡ number_in k zs.value j
number-zero k h n zs os j high e b =
    number-inner k h n zs os j high e
    ∙ ap (λ t. if t then number_in k os.value j else number_in k zs.value j) b

other-bit : (k i j : ℕ) → bit k i ≡ true → bit k j ≡ false → j ≢ i
other-bit k i j set clear same = let e = ap (bit k) same in cc

-- A node with an entry put into the half of the ones.
put-one : (b : Bool) (k h : ℕ) (n m : IndexNode) (zs os zs' os' : Arc IndexNode Global) (id number j : ℕ) → bit k j ≡ b → h ≡ suc k → n ≡ Inner zs os → m ≡ Inner zs' os' → bit k id ≡ true → zs'.value ≡ zs.value → ((i : ℕ) → number_in k os'.value i ≡ put_at id number (number_in k os.value) i) → number_in h m j ≡ put_at id number (number_in h n) j
put-one true k h n m zs os zs' os' id number j b high e e' set same put =
    number-one k h m zs' os' j high e' b
    ∙ put j
    ∙ put-alike id number (number_in k os.value) (number_in h n) j (sym (number-one k h n zs os j high e b))
put-one false k h n m zs os zs' os' id number j b high e e' set same put =
    number-zero k h m zs' os' j high e' b
    ∙ ap (λ x. number_in k x j) same
    ∙ sym (number-zero k h n zs os j high e b)
    ∙ sym (put-other id number (number_in h n) j (other-bit k id j set b))

pub number-put-one : (k h : ℕ) (n m : IndexNode) (zs os zs' os' : Arc IndexNode Global) (id number j : ℕ) → h ≡ suc k → n ≡ Inner zs os → m ≡ Inner zs' os' → bit k id ≡ true → zs'.value ≡ zs.value → ((i : ℕ) → number_in k os'.value i ≡ put_at id number (number_in k os.value) i) → number_in h m j ≡ put_at id number (number_in h n) j
number-put-one k h n m zs os zs' os' id number j = put-one (bit k j) k h n m zs os zs' os' id number j refl

-- A node with an entry put into the half of the zeros.
put-zero : (b : Bool) (k h : ℕ) (n m : IndexNode) (zs os zs' os' : Arc IndexNode Global) (id number j : ℕ) → bit k j ≡ b → h ≡ suc k → n ≡ Inner zs os → m ≡ Inner zs' os' → bit k id ≡ false → os'.value ≡ os.value → ((i : ℕ) → number_in k zs'.value i ≡ put_at id number (number_in k zs.value) i) → number_in h m j ≡ put_at id number (number_in h n) j
put-zero false k h n m zs os zs' os' id number j b high e e' clear same put =
    number-zero k h m zs' os' j high e' b
    ∙ put j
    ∙ put-alike id number (number_in k zs.value) (number_in h n) j (sym (number-zero k h n zs os j high e b))
put-zero true k h n m zs os zs' os' id number j b high e e' clear same put =
    number-one k h m zs' os' j high e' b
    ∙ ap (λ x. number_in k x j) same
    ∙ sym (number-one k h n zs os j high e b)
    ∙ sym (put-other id number (number_in h n) j (λ s. other-bit k j id b clear (sym s)))

pub number-put-zero : (k h : ℕ) (n m : IndexNode) (zs os zs' os' : Arc IndexNode Global) (id number j : ℕ) → h ≡ suc k → n ≡ Inner zs os → m ≡ Inner zs' os' → bit k id ≡ false → os'.value ≡ os.value → ((i : ℕ) → number_in k zs'.value i ≡ put_at id number (number_in k zs.value) i) → number_in h m j ≡ put_at id number (number_in h n) j
number-put-zero k h n m zs os zs' os' id number j = put-zero (bit k j) k h n m zs os zs' os' id number j refl

-- A node of two halves of entries has their numbers.
split-by : (b : Bool) (k h : ℕ) (n : IndexNode) (zs os : Arc IndexNode Global) (es zeros ones : List IndexEntry) (j : ℕ) → bit k j ≡ b → h ≡ suc k → n ≡ Inner zs os → ((i : ℕ) → bit k i ≡ false → first zeros i ≡ first es i) → ((i : ℕ) → number_in k zs.value i ≡ first zeros i) → ((i : ℕ) → bit k i ≡ true → first ones i ≡ first es i) → ((i : ℕ) → number_in k os.value i ≡ first ones i) → number_in h n j ≡ first es j
split-by true k h n zs os es zeros ones j b high e zeros_are below ones_are above =
    number-one k h n zs os j high e b ∙ above j ∙ ones_are j b
split-by false k h n zs os es zeros ones j b high e zeros_are below ones_are above =
    number-zero k h n zs os j high e b ∙ below j ∙ zeros_are j b

pub split-number : (k h : ℕ) (n : IndexNode) (zs os : Arc IndexNode Global) (es zeros ones : List IndexEntry) (j : ℕ) → h ≡ suc k → n ≡ Inner zs os → ((i : ℕ) → bit k i ≡ false → first zeros i ≡ first es i) → ((i : ℕ) → number_in k zs.value i ≡ first zeros i) → ((i : ℕ) → bit k i ≡ true → first ones i ≡ first es i) → ((i : ℕ) → number_in k os.value i ≡ first ones i) → number_in h n j ≡ first es j
split-number k h n zs os es zeros ones j = split-by (bit k j) k h n zs os es zeros ones j refl

-- The number that a whole index has, by its root.
pub none-number : (root : Option (Arc IndexNode Global)) (m : IndexValue) (j : ℕ) → root ≡ None → record { root = node_of root } ≡ m → number_of m j ≡ None
unfolding number_of
none-number root m j e view =
    ap (λ v. number_of v j) (sym view)
    ∙ ap (λ o. option_and_then (λ n. number_in 128 n j) (node_of o)) e

pub some-number : (root : Option (Arc IndexNode Global)) (m : IndexValue) (node : Arc IndexNode Global) (j : ℕ) → root ≡ Some node → record { root = node_of root } ≡ m → number_of m j ≡ number_in 128 node.value j
unfolding number_of
some-number root m node j e view =
    ap (λ v. number_of v j) (sym view)
    ∙ ap (λ o. option_and_then (λ n. number_in 128 n j) (node_of o)) e
