-- The blocks of an extent that are made while they are written, one by one.
use Rattle.std.specs.Prelude.{◌≡◌, ℕ, zero, suc, ◌+◌, ◌-◌, ◌*◌, ◌<◌, ◌≤◌, true, false, Bool, List, [], ◌∷◌, ◌++◌, length, take, drop, replicate, get_or, Option, Some, None, IfSome, MatchOption, option_map}
use Rattle.std.specs.List.{flat_map}
use borrow.Rule.Slice.PartMut.{put_mid}
use Rattle.std.proofs.Common.{refl, sym, ◌∙◌, ap, arith, length-append, length-drop}
use Rattle.std.proofs.Math.Seq.{take-append_seam, drop-append-add, take-add}
use Rattle.std.proofs.lemmas.List.{append-nil, drop_all, drop-drop, length-map, length-take, take_all}
use Rattle.std.proofs.lemmas.List.Concat.{flat_map-cons}
use Rattle.std.proofs.lemmas.List.{append_assoc}
use Rattle.btr_disk.specs.Gate.{zeros}
use Rattle.btr_disk.proofs.GateLemmas.{length-zeros}
use Rattle.btr_tree.specs.NewNodes.{NewNodeValue}
use Rattle.btr_node.specs.Page.{page_bytes}
use Rattle.btr_pages.specs.Pages.{page_of, pages_of}
use Rattle.btr_pages.proofs.PageOfLemmas.{page_of-places}
use Rattle.btr_pages.proofs.BlockLemmas.{length-page, length-pages}
use Rattle.btr_engine.specs.Streamed.{streamed_bytes, node_block}
use Rattle.btr_engine.proofs.Written.{pages-places}

module _ (stream : ℕ) where
  -- The bytes of the pages of these nodes, and of what follows them.
  abbrev all : List NewNodeValue → List ℕ → List ℕ
  all nodes end = flat_map page_bytes (pages_of stream nodes) ++ end

  long : (n : NewNodeValue) → length (page_bytes (page_of stream n)) ≡ 4096
  long n = length-page (page_of stream n) (page_of-places stream n)

  first-is : (n : NewNodeValue) (nodes : List NewNodeValue) (end : List ℕ) → all (n ∷ nodes) end ≡ page_bytes (page_of stream n) ++ all nodes end
  first-is n nodes end =
      ap (λ l. l ++ end) (flat_map-cons page_bytes (page_of stream n) (pages_of stream nodes))
      ∙ append_assoc (page_bytes (page_of stream n)) (flat_map page_bytes (pages_of stream nodes)) end

  -- A block after the first is one of the others.
  later : (n : NewNodeValue) (nodes : List NewNodeValue) (end : List ℕ) (i : ℕ) → drop (4096 * suc i) (all (n ∷ nodes) end) ≡ drop (4096 * i) (all nodes end)
  later n nodes end i =
      let page = page_bytes (page_of stream n) in
      let size = long n in
      let place : 4096 * suc i ≡ length page + 4096 * i = omega (arith, size) in
      ap (drop (4096 * suc i)) (first-is n nodes end) ∙ ap (λ k. drop k (page ++ all nodes end)) place ∙ drop-append-add page (all nodes end) (4096 * i)

  -- The block of a node is its page.
  pub page-there : (nodes : List NewNodeValue) (end : List ℕ) (i : ℕ) (n : NewNodeValue) → i < length nodes → n ≡ get_or nodes i n → take 4096 (drop (4096 * i) (flat_map page_bytes (pages_of stream nodes) ++ end)) ≡ page_bytes (page_of stream n)
  page-there [] end i n lt is = absurd (omega arith)
  page-there (m ∷ nodes) end zero n lt is =
      let page = page_bytes (page_of stream m) in
      ap (take 4096) (first-is m nodes end) ∙ ap (λ k. take k (page ++ all nodes end)) (sym (long m)) ∙ take-append_seam page (all nodes end) ∙ ap (λ x. page_bytes (page_of stream x)) (sym is)
  page-there (m ∷ nodes) end (suc i) n lt is = ap (take 4096) (later m nodes end i) ∙ page-there nodes end i n (omega arith) is

  -- After the pages comes what follows them.
  pub end-there : (nodes : List NewNodeValue) (end : List ℕ) → drop (4096 * length nodes) (flat_map page_bytes (pages_of stream nodes) ++ end) ≡ end
  end-there [] end = refl
  end-there (n ∷ nodes) end = later n nodes end (length nodes) ∙ end-there nodes end

  pub length-streamed : (nodes : List NewNodeValue) → length (streamed_bytes true stream nodes) ≡ 4096 * (length nodes + 1)
  length-streamed nodes =
      omega (arith, length-append (flat_map page_bytes (pages_of stream nodes)) (zeros 4096), length-zeros 4096, length-pages (pages_of stream nodes) (pages-places stream nodes), length-map nodes (page_of stream))

  -- A block that is streamed is that of a node, or the one after them.
  pub is-there : (is_streamed : Bool) (nodes : List NewNodeValue) (i : ℕ) → 4096 * i + 4096 ≤ length (streamed_bytes is_streamed stream nodes) → (is_streamed ≡ true) × (i ≤ length nodes)
  is-there true nodes i fits = (refl, omega (arith, length-streamed nodes))
  is-there false nodes i fits = absurd (omega (arith, fits))

-- Each block is that of its node, or the one after them.
pub block-there : {X : Type 0} (now : X → NewNodeValue) (Q : X → Type 0) (o : Option X) (stream : ℕ) (nodes : List NewNodeValue) (i : ℕ) → MatchOption o (length nodes ≤ i) (λ x. (i < length nodes) × Q x) → IfSome o (λ x. now x ≡ get_or nodes i (now x)) → 4096 * i + 4096 ≤ length (streamed_bytes true stream nodes) → node_block stream (option_map now o) ≡ take 4096 (drop (4096 * i) (streamed_bytes true stream nodes))
block-there now Q (Some x) stream nodes i there is fits = sym (page-there stream nodes (zeros 4096) i (now x) there.0 is)
block-there now Q None stream nodes i past is fits =
    let end : i ≡ length nodes = omega (arith, past, (is-there stream true nodes i fits).1) in
    sym (ap (λ k. take 4096 (drop (4096 * k) (streamed_bytes true stream nodes))) end ∙ ap (take 4096) (end-there stream nodes (zeros 4096)) ∙ take_all 4096 (zeros 4096) (omega (arith, length-zeros 4096)))

-- A block that is put where a slice is written, and what is after it.
module _ (xs block ys : List ℕ) (at : ℕ) (fits : at + 4096 ≤ length xs) (size : length block ≡ 4096) (is : ys ≡ block ++ drop 4096 (take (length xs - at) (drop at xs))) where
  rest-length : length ys ≡ length xs - at
  rest-length =
      omega (arith, ap (length {A = ℕ}) is, length-append block (drop 4096 (take (length xs - at) (drop at xs))), length-drop 4096 (take (length xs - at) (drop at xs)), length-take (length xs - at) (drop at xs), length-drop at xs, size, fits)

  pub put-length : length (put_mid at (length xs - at) xs ys) ≡ length xs
  put-length =
      omega (arith, length-append (take at xs) (ys ++ drop (length xs - at) (drop at xs)), length-append ys (drop (length xs - at) (drop at xs)), length-drop (length xs - at) (drop at xs), length-drop at xs, length-take at xs, rest-length, fits)

  pub put-begins : take (at + 4096) (put_mid at (length xs - at) xs ys) ≡ take at xs ++ block
  put-begins =
      let after = drop 4096 (take (length xs - at) (drop at xs)) in
      let post = drop (length xs - at) (drop at xs) in
      let here : at + 4096 ≡ length (take at xs ++ block) = omega (arith, length-append (take at xs) block, length-take at xs, size, fits) in
      let parts : put_mid at (length xs - at) xs ys ≡ (take at xs ++ block) ++ (after ++ post) = ap (λ l. take at xs ++ (l ++ post)) is ∙ ap (λ l. take at xs ++ l) (append_assoc block after post) ∙ sym (append_assoc (take at xs) block (after ++ post)) in
      ap (λ n. take n (put_mid at (length xs - at) xs ys)) here ∙ ap (take (length (take at xs ++ block))) parts ∙ take-append_seam (take at xs ++ block) (after ++ post)

-- Blocks that are all there is, or none.
pub all-inside : (is_streamed : Bool) (stream : ℕ) (nodes : List NewNodeValue) (first n : ℕ) → 4096 * first + n ≤ length (streamed_bytes is_streamed stream nodes) → 4096 * first + n ≤ length (streamed_bytes true stream nodes)
all-inside true stream nodes first n fits = fits
all-inside false stream nodes first n fits = omega (arith, fits)

pub all-same : (is_streamed : Bool) (stream : ℕ) (nodes : List NewNodeValue) (first n : ℕ) → 4096 * first + n ≤ length (streamed_bytes is_streamed stream nodes) → take n (drop (4096 * first) (streamed_bytes true stream nodes)) ≡ take n (drop (4096 * first) (streamed_bytes is_streamed stream nodes))
all-same true stream nodes first n fits = refl
all-same false stream nodes first n fits =
    let none : n ≡ 0 = omega (arith, fits) in
    ap (λ k. take k (drop (4096 * first) (streamed_bytes true stream nodes))) none
    ∙ sym (ap (λ k. take k (drop (4096 * first) (streamed_bytes false stream nodes))) none)

-- One more block of those from the first one on.
pub one-block-more : (bytes to new block : List ℕ) (first i at size : ℕ) → at ≡ i * 4096 → size ≡ 4096 → take (4096 * i) to ≡ take (4096 * i) (drop (4096 * first) bytes) → take (at + size) new ≡ take at to ++ block → block ≡ take 4096 (drop (4096 * (first + i)) bytes) → take (4096 * (i + 1)) new ≡ take (4096 * (i + 1)) (drop (4096 * first) bytes)
one-block-more bytes to new block first i at size at_is size_is so_far now is =
    let rest = drop (4096 * first) bytes in
    let more : 4096 * (i + 1) ≡ 4096 * i + 4096 = omega arith in
    let end : 4096 * (i + 1) ≡ at + size = omega arith in
    let begin : at ≡ 4096 * i = omega arith in
    let place : 4096 * first + 4096 * i ≡ 4096 * (first + i) = omega arith in
    ap (λ n. take n new) end
    ∙ now
    ∙ ap (λ l. l ++ block) (ap (λ n. take n to) begin ∙ so_far)
    ∙ ap (λ l. take (4096 * i) rest ++ l) (is ∙ ap (take 4096) (sym (drop-drop (4096 * i) (4096 * first) bytes ∙ ap (λ n. drop n bytes) place)))
    ∙ sym (take-add (4096 * i) 4096 rest)
    ∙ ap (λ n. take n rest) (sym more)

-- A list that was lengthened begins with what it was.
pub begins-with : (old items : List ℕ) (begin end filled : ℕ) → begin ≡ length old → length old ≤ end → items ≡ take end old ++ replicate (end - filled) 0 → take begin items ≡ old
begins-with old items begin end filled begin_is le is =
    ap (take begin) (is ∙ ap (λ l. l ++ replicate (end - filled) 0) (take_all end old le))
    ∙ ap (λ n. take n (old ++ replicate (end - filled) 0)) begin_is
    ∙ take-append_seam old (replicate (end - filled) 0)

-- Bytes that are put at the end of a list that was lengthened for them.
pub put-at-end : (old items ys bytes rest : List ℕ) (begin size n : ℕ) → take begin items ≡ old → begin ≡ length old → size ≡ length items → length items ≡ begin + length bytes → n ≡ length bytes → ys ≡ take n bytes → take size (put_mid begin (length items - begin) items ys ++ rest) ≡ old ++ bytes
put-at-end old items ys bytes rest begin size n old_is begin_is size_is long n_is is =
    let same : ys ≡ bytes = is ∙ take_all n bytes (omega (arith, n_is)) in
    let past : drop (length items - begin) (drop begin items) ≡ [] = drop_all (length items - begin) (drop begin items) (omega (arith, length-drop begin items)) in
    let whole : put_mid begin (length items - begin) items ys ≡ old ++ bytes = ap (λ l. l ++ (ys ++ drop (length items - begin) (drop begin items))) old_is ∙ ap (λ l. old ++ (ys ++ l)) past ∙ ap (λ l. old ++ l) (append-nil ys ∙ same) in
    let all : size ≡ length (old ++ bytes) = omega (arith, length-append old bytes, size_is, long, begin_is) in
    ap (λ l. take size (l ++ rest)) whole ∙ ap (λ k. take k ((old ++ bytes) ++ rest)) all ∙ take-append_seam (old ++ bytes) rest

-- The part of a longer list from an index on.
pub part-at-end : (items bytes : List ℕ) (begin : ℕ) → length items ≡ begin + length bytes → length (take (length items - begin) (drop begin items)) ≡ length bytes
part-at-end items bytes begin long =
    omega (arith, long, length-take (length items - begin) (drop begin items), length-drop begin items)
