-- The parts of a body: its head, the bytes of the content after it, zeros up to the end of the last block of the content, and node blocks.
-- Those of a checkpoint have no node blocks.
use Rattle.std.specs.Prelude.{◌≡◌, ℕ, ◌+◌, ◌-◌, ◌*◌, ◌<◌, ◌≤◌, ◌^◌, List, [], ◌∷◌, ◌++◌, length, take, drop, EachIndex, slice_index, Option, Some, None, IfNone}
use Rattle.std.proofs.Common.{refl, sym, ◌∙◌, ap, inr, arith, ⊎_elim, append_assoc, get_or, replicate}
use Rattle.std.proofs.lemmas.List.{take_at, drop_at, drop-drop, length-take-le, length-drop, take-append-drop, take_all, append-nil, ext_get_or, length-replicate, get_or-replicate}
use Rattle.btr_disk.specs.Gate.{zeros}
use Rattle.btr_disk.proofs.GateLemmas.{length-zeros}
use Rattle.btr_log.specs.declared.head.Head.{Head}
use Rattle.btr_log.specs.Extents.{IsBody}
use Rattle.btr_log.specs.Head.{content_blocks, head_bytes, IsHead, entry_head, checkpoint_head}
use Rattle.btr_log.proofs.HeadLemmas.{length-head_bytes, Spells-one}
use Rattle.btr_hist.specs.declared.entry.Entry.{Entry}
use Rattle.btr_entry.specs.Format.{format_of}
use Rattle.btr_entry.specs.Grammar.{spelling, IsEntry}
use Rattle.btr_engine.specs.Body.{padding}
use Rattle.btr_engine.proofs.BodyLemmas.{filled}
use Rattle.btr_open.specs.Content.{content_of, HasContent, HasCheckpoint, node_blocks_of, MayHaveNodes}
use Rattle.btr_open.proofs.ContentLemmas.{content_head, IsHead-content, content-parts, checkpoint-head}

-- ---- zeros

-- A list of which each byte is 0 has nothing but zeros, and the other way round.
zeros-from-each : (xs : List ℕ) → EachIndex xs (λ k. slice_index xs k ≡ 0) → xs ≡ zeros (length xs)
unfolding zeros
zeros-from-each xs each =
    ext_get_or 0 xs (replicate (length xs) 0) (sym (length-replicate (length xs) 0)) (λ i lt. each i lt ∙ sym (get_or-replicate (length xs) i 0 0 lt))

each-from-zeros : (n : ℕ) (xs : List ℕ) → xs ≡ zeros n → EachIndex xs (λ k. slice_index xs k ≡ 0)
unfolding zeros
each-from-zeros n xs same k lt =
    let size : length xs ≡ n = ap length same ∙ length-replicate n 0 in
    ap (λ l. get_or l k 0) same ∙ get_or-replicate n k 0 0 (omega arith)

-- ---- the parts

-- The bytes between two indices.
abbrev pub between : ℕ → ℕ → List ℕ → List ℕ
between from to body = take (to - from) (drop from body)

-- The bytes of the content after the head, those after them up to the end of the content's last block, and the other blocks.
abbrev text : ℕ → List ℕ → List ℕ
text long body = take long (drop 64 body)

abbrev behind : ℕ → List ℕ → List ℕ
behind long body = take (padding long) (drop (64 + long) body)

abbrev others : ℕ → List ℕ → List ℕ
others long body = drop (4096 * content_blocks long) body

all-parts : (long : ℕ) (body : List ℕ) → take 64 body ++ ((text long body ++ behind long body) ++ others long body) ≡ body
all-parts long body =
    let end : 64 + long + padding long ≡ 4096 * content_blocks long = omega arith in
    let last : behind long body ++ others long body ≡ drop (64 + long) body =
    ap (λ l. behind long body ++ l) (ap (λ n. drop n body) (sym end) ∙ sym (drop-drop (padding long) (64 + long) body)) ∙ take-append-drop (padding long) (drop (64 + long) body) in
    let rest : text long body ++ drop (64 + long) body ≡ drop 64 body = ap (λ l. text long body ++ l) (sym (drop-drop long 64 body)) ∙ take-append-drop long (drop 64 body) in
    ap (λ l. take 64 body ++ l) (append_assoc (text long body) (behind long body) (others long body) ∙ ap (λ l. text long body ++ l) last ∙ rest) ∙ take-append-drop 64 body

-- Kind, format and number determine the head of an entry, with its other fields.
head-is : (format number : ℕ) (head : Head) → IsHead head → head.kind ≡ 1 → head.format ≡ format → head.number ≡ number → head ≡ entry_head format number head.length head.nodes head.root
head-is format number head is kind spells same =
    let n = is.blocks in
    λ i. record { kind = kind i; format = spells i; number = same i; n = n i; length = head.length; nodes = head.nodes; root = head.root }

-- ---- the tests of a body

abbrev pub IsHeadOf : ℕ → Head → Type 0
IsHeadOf number head = (head.kind ≡ 1) × (head.number ≡ number)

-- Each byte between the content and the index `to` is 0.
abbrev pub ZerosTo : ℕ → Head → List ℕ → Type 0
ZerosTo to head body =
    let rest = between (64 + head.length) to body in EachIndex rest (λ k. slice_index rest k ≡ 0)

module _ (number : ℕ) (body : List ℕ) (head : Head) (is : IsBody body head) where
  -- A body whose tests succeed has the content of the entry that its text spells.
  pub content-found : (to : ℕ) → to ≡ 4096 * content_blocks head.length → IsHeadOf number head → ZerosTo to head body → (e : Entry) → IsEntry (between 64 (64 + head.length) body) e → head.format ≡ format_of e → MayHaveNodes e head.nodes → HasContent number e head.root (node_blocks_of head body) body
  unfolding content_of
  content-found to end fields each e entry format may_have =
      let long = head.length in
      let n : head.n ≡ content_blocks long + head.nodes = is.spells.is_head.blocks in
      let whole : length body ≡ 4096 * (content_blocks long + head.nodes) = is.whole ∙ ap (λ m. 4096 * m) n in
      let same : 64 + long - 64 ≡ long = omega arith in
      let texts : text long body ≡ spelling e = ap (λ m. take m (drop 64 body)) (sym same) ∙ entry.bytes_are in
      let fit : long ≤ length (drop 64 body) = omega (arith, length-drop 64 body, whole) in
      let size : long ≡ length (spelling e) = sym (length-take-le long (drop 64 body) fit) ∙ ap length texts in
      let pad : padding long ≤ length (drop (64 + long) body) = omega (arith, length-drop (64 + long) body, whole) in
      let here : between (64 + long) to body ≡ behind long body = ap (λ m. take (m - (64 + long)) (drop (64 + long) body)) end in
      let zero : behind long body ≡ zeros (padding (length (spelling e))) =
      sym here ∙ zeros-from-each (between (64 + long) to body) each ∙ ap (λ l. zeros (length l)) here ∙ ap zeros (length-take-le (padding long) (drop (64 + long) body) pad) ∙ ap (λ m. zeros (padding m)) size in
      let heads : head ≡ entry_head (format_of e) number (length (spelling e)) head.nodes head.root =
      head-is (format_of e) number head is.spells.is_head fields.0 format fields.1 ∙ (λ i. entry_head (format_of e) number (size i) head.nodes head.root) in
      let front : take 64 body ≡ head_bytes (entry_head (format_of e) number (length (spelling e)) head.nodes head.root) = is.spells.spelling ∙ ap head_bytes heads in
      let parts : take 64 body ++ ((text long body ++ behind long body) ++ others long body) ≡ head_bytes (entry_head (format_of e) number (length (spelling e)) head.nodes head.root) ++ (filled e ++ others long body) =
      λ i. front i ++ ((texts i ++ zero i) ++ others long body) in
      record {
        spelled = entry.is_spelled;
        low = is.spells.is_head.fits.root;
        nodes = head.nodes;
        whole = omega (arith, length-drop (4096 * content_blocks long) body, whole);
        may_have = may_have;
        room = omega (arith, is.spells.is_head.fits.n, n, ap content_blocks size);
        bytes = sym (all-parts long body) ∙ parts ∙ sym (append_assoc (head_bytes (entry_head (format_of e) number (length (spelling e)) head.nodes head.root)) (filled e) (others long body));
      }

  module _ (some : 1 ≤ number) (few : number < 2 ^ 64) (e : Entry) (root : ℕ) (blocks : List ℕ) (has : HasContent number e root blocks body) where
    abbrev wanted : Head
    wanted = content_head number e root blocks body has

    -- The head of a body with a content is the content's.
    pub heads : head ≡ wanted
    heads =
        let front : take 64 body ≡ head_bytes wanted =
        ap (take 64) (content-parts number e root blocks body has) ∙ take_at (head_bytes wanted) (filled e ++ blocks) 64 (length-head_bytes wanted) in
        Spells-one (take 64 body) head wanted is.spells (record { is_head = IsHead-content number e root blocks body has some few; spelling = front })

    size : head.length ≡ length (spelling e)
    size = ap (λ (h : Head). h.length) heads

    -- The bytes after the head.
    after-head : drop 64 body ≡ spelling e ++ (zeros (padding (length (spelling e))) ++ blocks)
    after-head =
        ap (drop 64) (content-parts number e root blocks body has) ∙ drop_at (head_bytes wanted) (filled e ++ blocks) 64 (length-head_bytes wanted) ∙ append_assoc (spelling e) (zeros (padding (length (spelling e)))) blocks

    -- A body with a content passes each test.
    pub content-fields : IsHeadOf number head
    content-fields = (ap (λ (h : Head). h.kind) heads, ap (λ (h : Head). h.number) heads)

    pub content-format : head.format ≡ format_of e
    content-format = ap (λ (h : Head). h.format) heads

    pub content-nodes : head.nodes ≡ has.nodes
    content-nodes = ap (λ (h : Head). h.nodes) heads

    pub content-zeros : (to : ℕ) → to ≡ 4096 * content_blocks head.length → ZerosTo to head body
    content-zeros to end =
        let long = length (spelling e) in
        let pad = padding long in
        let there : drop (64 + long) body ≡ zeros pad ++ blocks =
        sym (drop-drop long 64 body) ∙ ap (drop long) after-head ∙ drop_at (spelling e) (zeros pad ++ blocks) long refl in
        let here : between (64 + head.length) to body ≡ take pad (drop (64 + long) body) =
        ap (λ m. between (64 + head.length) m body) end ∙ ap (λ m. between (64 + m) (4096 * content_blocks m) body) size in
        each-from-zeros pad (between (64 + head.length) to body) (here ∙ ap (take pad) there ∙ take_at (zeros pad) blocks pad (length-zeros pad))

    pub content-entry : IsEntry (between 64 (64 + head.length) body) e
    content-entry =
        let same : 64 + head.length - 64 ≡ length (spelling e) = omega (arith, size) in
        record {
          is_spelled = has.spelled;
          bytes_are = (λ i. take (same i) (after-head i)) ∙ take_at (spelling e) (zeros (padding (length (spelling e))) ++ blocks) (length (spelling e)) refl;
        }

-- ---- a checkpoint

-- The kind, the number and the length determine the head of a checkpoint.
head-of : (number length : ℕ) (head : Head) → IsHead head → head.kind ≡ 2 → head.number ≡ number → head.length ≡ length → head ≡ checkpoint_head head.format number length
head-of number length head is kind same long =
    let none : (head.nodes ≡ 0) × (head.root ≡ 0) = ⊎_elim (λ e. let one = e.0 in absurd (omega (arith, one, kind))) (λ c. (c.1, c.2)) is.kind in
    let n : head.n ≡ content_blocks length = is.blocks ∙ (λ i. content_blocks (long i) + none.0 i) ∙ omega arith in
    let nodes = none.0 in
    let root = none.1 in
    λ i. record { kind = kind i; format = head.format; number = same i; n = n i; length = long i; nodes = nodes i; root = root i }

-- Each byte after the content is 0.
abbrev pub ZerosAfter : ℕ → List ℕ → Type 0
ZerosAfter from body =
    let rest = take (length body - from) (drop from body) in EachIndex rest (λ k. slice_index rest k ≡ 0)

module _ (least number : ℕ) (contents : ℕ → List ℕ) (body : List ℕ) (head : Head) (is : IsBody body head) where
  abbrev found : List ℕ
  found = contents head.format

  abbrev long : ℕ
  long = length found

  no-more : (xs : List ℕ) → length xs ≡ 0 → xs ≡ []
  no-more [] none = refl
  no-more (x ∷ xs) none = absurd (omega arith)

  -- The head is that of a checkpoint with this content.
  found-head : head.kind ≡ 2 → head.number ≡ number → head.length ≡ long → head ≡ checkpoint_head head.format number long
  found-head kind same size = head-of number long head is.spells.is_head kind same size

  pub found-room : head.kind ≡ 2 → head.number ≡ number → head.length ≡ long → content_blocks long < 2 ^ 64
  found-room kind same size =
      let n : head.n ≡ content_blocks long = ap (λ (h : Head). h.n) (found-head kind same size) in
      omega (arith, is.spells.is_head.fits.n, n)

  pub found-bytes : (end : ℕ) → end ≡ 64 + long → head.kind ≡ 2 → head.number ≡ number → head.length ≡ long → take (end - 64) (drop 64 body) ≡ found → ZerosAfter end body → body ≡ head_bytes (checkpoint_head head.format number long) ++ (found ++ zeros (padding long))
  found-bytes end ends kind same size text_is each =
      let heads = found-head kind same size in
      let n : head.n ≡ content_blocks long = ap (λ (h : Head). h.n) heads in
      let whole : length body ≡ 4096 * content_blocks long = is.whole ∙ ap (λ m. 4096 * m) n in
      let front : take 64 body ≡ head_bytes (checkpoint_head head.format number long) = is.spells.spelling ∙ ap head_bytes heads in
      let at : end - 64 ≡ long = omega arith in
      let texts : text long body ≡ found = ap (λ m. take m (drop 64 body)) (sym at) ∙ text_is in
      let rest : List ℕ = take (length body - end) (drop end body) in
      let size_rest : length body - end ≡ padding long = omega (arith, whole, ends) in
      let here : rest ≡ behind long body = (λ i. take (size_rest i) (drop (ends i) body)) in
      let pad : padding long ≤ length (drop (64 + long) body) = omega (arith, length-drop (64 + long) body, whole) in
      let zero : behind long body ≡ zeros (padding long) =
      sym here ∙ zeros-from-each rest each ∙ ap (λ l. zeros (length l)) here ∙ ap zeros (length-take-le (padding long) (drop (64 + long) body) pad) in
      let none : others long body ≡ [] = no-more (others long body) (omega (arith, length-drop (4096 * content_blocks long) body, whole)) in
      let parts : take 64 body ++ ((text long body ++ behind long body) ++ others long body) ≡ head_bytes (checkpoint_head head.format number long) ++ ((found ++ zeros (padding long)) ++ []) =
      λ i. front i ++ ((texts i ++ zero i) ++ none i) in
      sym (all-parts long body) ∙ parts ∙ ap (λ l. head_bytes (checkpoint_head head.format number long) ++ l) (append-nil (found ++ zeros (padding long)))

  -- A body whose tests succeed is that of a checkpoint.
  abbrev pub checkpoint-found : (end : ℕ) → end ≡ 64 + length (contents head.format) → head.kind ≡ 2 → least ≤ head.format → head.number ≡ number → head.length ≡ length (contents head.format) → take (end - 64) (drop 64 body) ≡ contents head.format → ZerosAfter end body → HasCheckpoint least number contents body
  checkpoint-found end ends kind some same size text_is each =
      record {
        format = head.format;
        from = (is.spells.is_head.format.0, some);
        most = is.spells.is_head.format.1;
        room = found-room kind same size;
        bytes = found-bytes end ends kind same size text_is each;
      }

  module _ (few : number < 2 ^ 64) (has : HasCheckpoint least number contents body) (short : length (contents has.format) < 2 ^ 64) where
    abbrev content : List ℕ
    content = contents has.format

    abbrev its-long : ℕ
    its-long = length content

    -- The head of a checkpoint's body is the checkpoint's.
    its-head : head ≡ checkpoint_head has.format number its-long
    its-head =
        Spells-one (take 64 body) head (checkpoint_head has.format number its-long) is.spells (record {
          is_head = record {
            kind = inr (refl, refl, refl);
            format = (has.from.0, has.most);
            blocks = omega arith;
            fits = record { number = few; n = has.room; length = short; nodes = omega arith; root = omega arith };
          };
          spelling = checkpoint-head least number contents body has;
        })

    pub checkpoint-format : head.format ≡ has.format
    checkpoint-format = ap (λ (h : Head). h.format) its-head

    pub checkpoint-number : head.number ≡ number
    checkpoint-number = ap (λ (h : Head). h.number) its-head

    pub checkpoint-length : head.length ≡ length content
    checkpoint-length = ap (λ (h : Head). h.length) its-head

    after : drop 64 body ≡ content ++ zeros (padding its-long)
    after = ap (drop 64) has.bytes ∙ drop_at (head_bytes (checkpoint_head has.format number its-long)) (content ++ zeros (padding its-long)) 64 (length-head_bytes (checkpoint_head has.format number its-long))

    pub checkpoint-text : (end : ℕ) → end ≡ 64 + length content → take (end - 64) (drop 64 body) ≡ content
    checkpoint-text end ends =
        let at : end - 64 ≡ its-long = omega arith in
        (λ i. take (at i) (after i)) ∙ take_at content (zeros (padding its-long)) its-long refl

    pub checkpoint-zeros : (end : ℕ) → end ≡ 64 + length content → ZerosAfter end body
    checkpoint-zeros end ends =
        let pad = padding its-long in
        let last : drop end body ≡ zeros pad = ap (λ m. drop m body) ends ∙ sym (drop-drop its-long 64 body) ∙ ap (drop its-long) after ∙ drop_at content (zeros pad) its-long refl in
        let rest : List ℕ = take (length body - end) (drop end body) in
        let all : rest ≡ zeros pad = take_all (length body - end) (drop end body) (omega (arith, length-drop end body)) ∙ last in
        each-from-zeros pad rest all

-- What holds of `None`, weakened.
pub IfNone_then : {X : Type 0} (o : Option X) (P Q : Type 0) → (P → Q) → IfNone o P → IfNone o Q
IfNone_then (Some x) P Q f p = tt
IfNone_then None P Q f p = f p
