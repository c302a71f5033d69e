-- The bytes of an extent from its pieces.
use Rattle.std.specs.Prelude.{◌≡◌, ℕ, ◌+◌, ◌-◌, ◌*◌, true, List, [], ◌++◌, length, take, replicate}
use Rattle.std.specs.List.{flat_map}
use Rattle.std.proofs.Common.{refl, sym, ◌∙◌, ap, arith, append_assoc}
use Rattle.std.proofs.lemmas.List.{take_all, length-map}
use Rattle.btr_disk.specs.Gate.{zeros}
use Rattle.btr_log.specs.declared.head.Head.{Head}
use Rattle.btr_log.specs.Head.{content_blocks, head_bytes, entry_head}
use Rattle.btr_tree.specs.NewNodes.{NewNodeValue}
use Rattle.btr_node.specs.Page.{page_bytes}
use Rattle.btr_pages.specs.Pages.{page_of, pages_of}
use Rattle.btr_hist.specs.declared.entry.Entry.{Entry}
use Rattle.btr_entry.specs.Grammar.{spelling}
use Rattle.btr_entry.specs.Format.{format_of}
use Rattle.btr_engine.specs.Body.{padding, body_of, extent_bytes}
use Rattle.btr_engine.specs.Streamed.{streamed_bytes}

-- A head and a content, and zeros up to the end of the last block of the content.
pub filled_up : (written run : List ℕ) (content size filled : ℕ) → length written ≡ 64 + content → size ≡ content_blocks content * 4096 → filled ≡ length written → run ≡ take size written ++ replicate (size - filled) 0 → run ≡ written ++ zeros (padding content)
unfolding zeros
filled_up written run content size filled long size_is filled_is run_is =
    let prefix : take size written ≡ written = take_all size written (omega arith) in
    let left : size - filled ≡ padding content = omega arith in
    run_is ∙ ap (λ l. l ++ replicate (size - filled) 0) prefix ∙ ap (λ n. written ++ replicate n 0) left

-- The zeros after a content of this length, in a list of their own.
pub only_zeros : (run before : List ℕ) (content size filled : ℕ) → before ≡ [] → size ≡ padding content → filled ≡ 0 → run ≡ take size before ++ replicate (size - filled) 0 → run ≡ zeros (padding content)
unfolding zeros
only_zeros run before content size filled none size_is filled_is run_is =
    let empty : take size before ≡ [] = take_all size before (omega (arith, ap (length {A = ℕ}) none)) ∙ none in
    let left : size - filled ≡ padding content = omega arith in
    run_is ∙ ap (λ l. l ++ replicate (size - filled) 0) empty ∙ ap (λ n. replicate n 0) left

-- One block of zeros.
pub zero_block : replicate 4096 0 ≡ zeros 4096
unfolding zeros
zero_block = refl

-- A head, a content and zeros, one after the other.
pub in_order : (head prefix written first content padded : List ℕ) → prefix ≡ [] ++ head → written ≡ prefix ++ content → first ≡ written ++ padded → first ≡ head ++ (content ++ padded)
in_order head prefix written first content padded prefix_is written_is first_is =
    first_is ∙ ap (λ l. l ++ padded) (written_is ∙ ap (λ l. l ++ content) prefix_is) ∙ append_assoc head content padded

-- A head, a content and zeros, and then the blocks that are streamed.
pub streamed_is : (head : Head) (e : Entry) (stream : ℕ) (nodes : List NewNodeValue) (prefix : List ℕ) → prefix ≡ head_bytes head ++ (spelling e ++ zeros (padding (length (spelling e)))) → prefix ++ streamed_bytes true stream nodes ≡ extent_bytes head (spelling e) (pages_of stream nodes)
streamed_is head e stream nodes prefix is =
    let content = spelling e ++ zeros (padding (length (spelling e))) in
    let bytes = flat_map page_bytes (pages_of stream nodes) in
    ap (λ l. l ++ (bytes ++ zeros 4096)) is
    ∙ append_assoc (head_bytes head) content (bytes ++ zeros 4096)
    ∙ ap (λ l. head_bytes head ++ l) (sym (append_assoc content bytes (zeros 4096)))
    ∙ sym (append_assoc (head_bytes head) (content ++ bytes) (zeros 4096))

-- The extent of an entry is its body, and one block of zeros.
pub extent_is : (number : ℕ) (e : Entry) (stream root count : ℕ) (nodes : List NewNodeValue) (head : Head) → count ≡ length (spelling e) → head ≡ entry_head (format_of e) number count (length nodes) root → extent_bytes head (spelling e) (pages_of stream nodes) ≡ body_of number e root (pages_of stream nodes) ++ zeros 4096
unfolding body_of
extent_is number e stream root count nodes head count_is head_is =
    let ps = pages_of stream nodes in
    let many : length nodes ≡ length ps = sym (length-map nodes (page_of stream)) in
    ap (λ (x : Head). extent_bytes x (spelling e) ps) (head_is ∙ ap (λ n. entry_head (format_of e) number n (length nodes) root) count_is ∙ ap (λ n. entry_head (format_of e) number (length (spelling e)) n root) many)
