-- Lemmas on the content of a body: a body has one, and not an entry's and a checkpoint's; and the body of an entry is its content and then
-- its pages.
use Rattle.std.specs.Prelude.{◌≡◌, ℕ, ◌+◌, ◌<◌, ◌≤◌, ◌^◌, List, [], ◌∷◌, ◌++◌, length, take}
use Rattle.std.specs.List.{flat_map, AllByRecursion}
use Rattle.std.proofs.Common.{refl, sym, ◌∙◌, ap, arith, append_assoc, length-append}
use Rattle.std.proofs.lemmas.List.{take_at}
use Rattle.std.proofs.lemmas.Nat.{from_be_bytes-to_be_bytes_4}
use Rattle.btr_disk.specs.Gate.{zeros}
use Rattle.btr_disk.specs.Numbers.{u32_at}
use Rattle.btr_log.specs.declared.head.Head.{Head}
use Rattle.btr_log.specs.Extents.{need}
use Rattle.btr_log.specs.Head.{head_bytes, IsHead, entry_head, checkpoint_head}
use Rattle.btr_log.proofs.HeadLemmas.{length-head_bytes, head_bytes-one, IsHead-entry_head}
use Rattle.btr_node.specs.Page.{page_bytes, Fits}
use Rattle.btr_node.specs.declared.page.NodePage.{NodePage}
use Rattle.btr_pages.proofs.BlockLemmas.{parts-one, each-places, length-pages}
use Rattle.btr_hist.specs.declared.entry.Entry.{Entry}
use Rattle.btr_hist.specs.declared.entry.Entry.TheVariants.{Create, Commit, Define, Distillate, Retire}
use Rattle.btr_entry.specs.Format.{format_of}
use Rattle.btr_entry.proofs.FormatLemmas.{format-from, format-to}
use Rattle.btr_entry.specs.Grammar.{spelling}
use Rattle.btr_roll.specs.Roll.{roll_bytes}
use Rattle.btr_entry.specs.Grammar.{IsSpelled}
use Rattle.btr_entry.proofs.SpellingLemmas.{length-spelling, same_entry}
use Rattle.btr_streams.specs.Rolling.{roll_of}
use Rattle.btr_engine.specs.Body.{padding, body_of, Prefix, IsBodyOf, needed_format, checkpoint_body, IsCheckpointOf, MayHavePages}
use Rattle.btr_engine.proofs.BodyLemmas.{filled, need-body_of, some-needed}
use Rattle.btr_open.specs.Content.{content_of, HasContent, HasCheckpoint, MayHaveNodes}

-- ---- the head of a content

module _ (number : ℕ) (e : Entry) (root : ℕ) (blocks body : List ℕ) (has : HasContent number e root blocks body) where
  -- The head of the content.
  abbrev pub content_head : Head
  content_head = entry_head (format_of e) number (length (spelling e)) has.nodes root

  pub IsHead-content : 1 ≤ number → number < 2 ^ 64 → IsHead content_head
  IsHead-content some few =
      IsHead-entry_head (format_of e) number (length (spelling e)) has.nodes root (format-from e) (omega (arith, format-to e)) some few (omega (arith, length-spelling e has.spelled)) has.room has.low

  -- The head, the spelling and the zeros, and then the node blocks.
  pub content-parts : body ≡ head_bytes content_head ++ (filled e ++ blocks)
  unfolding content_of
  content-parts = has.bytes ∙ append_assoc (head_bytes content_head) (filled e) blocks

-- ---- one content

-- A body has one content.
pub content-one : (number : ℕ) (e f : Entry) (q r : ℕ) (x y body : List ℕ) → 1 ≤ number → number < 2 ^ 64 → HasContent number e q x body → HasContent number f r y body → (e ≡ f) × (q ≡ r) × (x ≡ y)
content-one number e f q r x y body some few is is_too =
    let first = content_head number e q x body is in
    let second = content_head number f r y body is_too in
    let same = sym (content-parts number e q x body is) ∙ content-parts number f r y body is_too in
    let parts = parts-one (head_bytes first) (head_bytes second) (filled e ++ x) (filled f ++ y) (length-head_bytes first ∙ sym (length-head_bytes second)) same in
    let heads : first ≡ second = head_bytes-one first second (IsHead-content number e q x body is some few) (IsHead-content number f r y body is_too some few) parts.0 in
    let size : length (spelling e) ≡ length (spelling f) = ap (λ (h : Head). h.length) heads in
    let pads = λ (d : Entry). length-append (spelling d) (zeros (padding (length (spelling d)))) in
    let long : length (filled e) ≡ length (filled f) = pads e ∙ ap (λ n. n + length (zeros (padding n))) size ∙ sym (pads f) in
    let contents = parts-one (filled e) (filled f) x y long parts.1 in
    let spellings = parts-one (spelling e) (spelling f) (zeros (padding (length (spelling e)))) (zeros (padding (length (spelling f)))) size contents.0 in (
      same_entry e f is.spelled is_too.spelled spellings.0,
      ap (λ (h : Head). h.root) heads,
      contents.1,
    )

-- ---- the content of a checkpoint

-- The kind in the bytes of a head.
kind-in : (head : Head) → head.kind < 2 ^ 32 → u32_at 8 (head_bytes head) ≡ head.kind
unfolding head_bytes
kind-in head small = from_be_bytes-to_be_bytes_4 head.kind small

-- The body of a checkpoint begins with its head.
pub checkpoint-head : (least number : ℕ) (contents : ℕ → List ℕ) (body : List ℕ) (has : HasCheckpoint least number contents body) → take 64 body ≡ head_bytes (checkpoint_head has.format number (length (contents has.format)))
checkpoint-head least number contents body has =
    let content = contents has.format in
    let head = checkpoint_head has.format number (length content) in
    ap (take 64) has.bytes ∙ take_at (head_bytes head) (content ++ zeros (padding (length content))) 64 (length-head_bytes head)

-- A head that such a body begins with has the kind of a checkpoint.
pub checkpoint-kind : (least number : ℕ) (contents : ℕ → List ℕ) (body : List ℕ) (head : Head) → HasCheckpoint least number contents body → take 64 body ≡ head_bytes head → head.kind < 2 ^ 32 → head.kind ≡ 2
checkpoint-kind least number contents body head has begins small =
    sym (kind-in head small) ∙ ap (u32_at 8) (sym begins ∙ checkpoint-head least number contents body has) ∙ kind-in (checkpoint_head has.format number (length (contents has.format))) (omega arith)

-- The body of a checkpoint of the entries of a prefix has the bytes of their roll as content, and the other way round.
pub has-roll : (log : Prefix) (body : List ℕ) → IsCheckpointOf log body → HasCheckpoint (needed_format log.entries) (length log.entries) (λ format. roll_bytes format (roll_of log.entries log.roots)) body
unfolding checkpoint_body
has-roll log body is = record {
  format = is.format;
  from = (omega (arith, some-needed log.entries, is.least), is.least);
  most = is.most;
  room = is.room;
  bytes = is.bytes;
}

-- A body has not the content of an entry and that of a checkpoint.
pub contents-apart : (number least entries : ℕ) (e : Entry) (root : ℕ) (nodes : List ℕ) (contents : ℕ → List ℕ) (body : List ℕ) → HasContent number e root nodes body → HasCheckpoint least entries contents body → ⊥
contents-apart number least entries e root nodes contents body has is =
    let head = content_head number e root nodes body has in
    let begins : take 64 body ≡ head_bytes head = ap (take 64) (content-parts number e root nodes body has) ∙ take_at (head_bytes head) (filled e ++ nodes) 64 (length-head_bytes head) in
    let kinds : 1 ≡ 2 = checkpoint-kind least entries contents body head is begins (omega arith) in
    absurd (omega (arith, kinds))

-- ---- the body of an entry

-- The bytes of the body of an entry are its content and then its pages.
content-bytes : (number : ℕ) (e : Entry) (root : ℕ) (pages : List NodePage) → body_of number e root pages ≡ content_of number e root (length pages) ++ flat_map page_bytes pages
unfolding body_of content_of
content-bytes number e root pages =
    sym (append_assoc (head_bytes (entry_head (format_of e) number (length (spelling e)) (length pages) root)) (filled e) (flat_map page_bytes pages))

-- An entry that may have these pages may have as many node blocks, and the other way round.
pub nodes-of-pages : (e : Entry) (pages : List NodePage) → MayHavePages e pages → MayHaveNodes e (length pages)
nodes-of-pages (Create id) pages may = tt
nodes-of-pages (Commit stream cut added) pages may = tt
nodes-of-pages (Define id spec) pages may = tt
nodes-of-pages (Distillate stream cut added reads) pages may = tt
nodes-of-pages (Retire stream first) pages may = ap (length {A = NodePage}) may

pub pages-of-nodes : (e : Entry) (pages : List NodePage) (nodes : ℕ) → nodes ≡ length pages → MayHaveNodes e nodes → MayHavePages e pages
pages-of-nodes (Create id) pages nodes count may = tt
pages-of-nodes (Commit stream cut added) pages nodes count may = tt
pages-of-nodes (Define id spec) pages nodes count may = tt
pages-of-nodes (Distillate stream cut added reads) pages nodes count may = tt
pages-of-nodes (Retire stream first) [] nodes count may = refl
pages-of-nodes (Retire stream first) (page ∷ pages) nodes count may = absurd (omega (arith, count, may))

-- The bytes of the body of an entry have its content, and its node blocks are its pages.
pub content-of-bytes : (number : ℕ) (e : Entry) (root : ℕ) (pages : List NodePage) (body : List ℕ) → need body ≤ 2 ^ 64 → IsSpelled e → root < 2 ^ 64 → AllByRecursion Fits pages → MayHavePages e pages → body ≡ body_of number e root pages → HasContent number e root (flat_map page_bytes pages) body
content-of-bytes number e root pages body short spelled low fits may_have bytes =
    let places = each-places pages fits in
    let needed = ap need bytes ∙ need-body_of number e root pages places in
    record {
      spelled = spelled;
      low = low;
      nodes = length pages;
      whole = length-pages pages places;
      may_have = nodes-of-pages e pages may_have;
      room = omega (arith, short, needed);
      bytes = bytes ∙ content-bytes number e root pages;
    }

pub body-content : (before : Prefix) (e : Entry) (root : ℕ) (pages : List NodePage) (body : List ℕ) → before.gate + need body < 2 ^ 64 → IsBodyOf before e root pages body → HasContent (length before.entries + 1) e root (flat_map page_bytes pages) body
body-content before e root pages body short is =
    content-of-bytes (length before.entries + 1) e root pages body (omega (arith, short)) is.spelled is.low is.fits is.may_have is.bytes

-- A content whose node blocks are pages has the bytes of the body of its entry.
pub bytes-content : (number : ℕ) (e : Entry) (root : ℕ) (nodes : List ℕ) (pages : List NodePage) (body : List ℕ) → HasContent number e root nodes body → nodes ≡ flat_map page_bytes pages → AllByRecursion Fits pages → body ≡ body_of number e root pages
bytes-content number e root nodes pages body has same fits =
    let count : has.nodes ≡ length pages = omega (arith, has.whole, ap length same, length-pages pages (each-places pages fits)) in
    has.bytes ∙ (λ i. content_of number e root (count i) ++ same i) ∙ sym (content-bytes number e root pages)

-- The entry of a content whose node blocks are pages may have them.
pub pages-content : (number : ℕ) (e : Entry) (root : ℕ) (nodes : List ℕ) (pages : List NodePage) (body : List ℕ) → HasContent number e root nodes body → nodes ≡ flat_map page_bytes pages → AllByRecursion Fits pages → MayHavePages e pages
pages-content number e root nodes pages body has same fits =
    pages-of-nodes e pages has.nodes (omega (arith, has.whole, ap length same, length-pages pages (each-places pages fits))) has.may_have
