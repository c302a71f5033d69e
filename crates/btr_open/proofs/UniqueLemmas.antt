-- A body is that of one entry at most, with one root and one list of pages, or of one checkpoint; and it is not both.
use Rattle.std.specs.Prelude.{◌≡◌, ℕ, ◌+◌, ◌<◌, ◌≤◌, ◌^◌, List, ◌++◌, length, take}
use Rattle.std.specs.List.{flat_map}
use Rattle.std.proofs.Common.{refl, sym, ◌∙◌, ap, subst, inr, arith, append_assoc, length-append}
use Rattle.std.proofs.lemmas.List.{take_at}
use Rattle.btr_disk.specs.Gate.{zeros}
use Rattle.btr_disk.proofs.GateLemmas.{length-zeros}
use Rattle.btr_log.specs.declared.head.Head.{Head}
use Rattle.btr_log.specs.Head.{content_blocks, head_bytes, IsHead, entry_head, checkpoint_head}
use Rattle.btr_log.specs.Extents.{need}
use Rattle.btr_log.proofs.HeadLemmas.{length-head_bytes, head_bytes-one}
use Rattle.btr_node.specs.Page.{page_bytes}
use Rattle.btr_node.specs.declared.page.NodePage.{NodePage}
use Rattle.btr_pages.proofs.BlockLemmas.{parts-one, each-places, length-pages}
use Rattle.btr_hist.specs.declared.entry.Entry.{Entry}
use Rattle.btr_entry.specs.Format.{format_of}
use Rattle.btr_entry.specs.Grammar.{spelling}
use Rattle.btr_roll.specs.Roll.{RollStreamValue, RollFits, roll_bytes}
use Rattle.btr_roll.proofs.RollLemmas.{roll_once}
use Rattle.btr_engine.specs.Body.{padding, body_of}
use Rattle.btr_engine.specs.Mark.{body_of_roll}
use Rattle.btr_engine.proofs.BodyLemmas.{filled, FitsBody, SameBody, body_of-one, need-body_of}
use Rattle.btr_open.specs.Content.{content_of, HasContent, HasCheckpoint}
use Rattle.btr_open.specs.Reached.{Reached}
use Rattle.btr_open.specs.Start.{HasRoll}
use Rattle.btr_open.specs.Walk.{IsNextBody, IsCheckpointBody}
use Rattle.btr_open.proofs.ContentLemmas.{content_head, content-parts, checkpoint-kind, nodes-of-pages}

-- ---- the body of a checkpoint

-- The head of a checkpoint keeps the grammar, if its numbers fit.
IsHead-checkpoint : (format number length : ℕ) → (1 ≤ format) × (format ≤ 4) → number < 2 ^ 64 → length < 2 ^ 64 → IsHead (checkpoint_head format number length)
IsHead-checkpoint format number length known few short = record {
  kind = inr (refl, refl, refl);
  format = known;
  blocks = omega arith;
  fits = record { number = few; n = omega (arith, short); length = short; nodes = omega arith; root = omega arith };
}

-- The blocks of the body and of the gate after it.
need-roll : (format number : ℕ) (roll : List RollStreamValue) → need (body_of_roll format number roll) ≡ content_blocks (length (roll_bytes format roll)) + 1
unfolding body_of_roll
need-roll format number roll =
    let size = length (roll_bytes format roll) in
    let head = checkpoint_head format number size in
    omega (arith, length-append (head_bytes head) (roll_bytes format roll ++ zeros (padding size)), length-append (roll_bytes format roll) (zeros (padding size)), length-head_bytes head, length-zeros (padding size))

-- A body is that of one checkpoint: it has one number, and one list of streams.
roll-one : (v w m n : ℕ) (a b : List RollStreamValue) → (1 ≤ v) × (v ≤ 4) → (1 ≤ w) × (w ≤ 4) → m < 2 ^ 64 → n < 2 ^ 64 → length (roll_bytes v a) < 2 ^ 64 → length (roll_bytes w b) < 2 ^ 64 → RollFits v a → RollFits w b → body_of_roll v m a ≡ body_of_roll w n b → (m ≡ n) × (a ≡ b)
unfolding body_of_roll
roll-one v w m n a b known knows few fewer short shorter h k same =
    let x = roll_bytes v a in
    let y = roll_bytes w b in
    let first = checkpoint_head v m (length x) in
    let second = checkpoint_head w n (length y) in
    let parts = parts-one (head_bytes first) (head_bytes second) (x ++ zeros (padding (length x))) (y ++ zeros (padding (length y))) (length-head_bytes first ∙ sym (length-head_bytes second)) same in
    let heads : first ≡ second = head_bytes-one first second (IsHead-checkpoint v m (length x) known few short) (IsHead-checkpoint w n (length y) knows fewer shorter) parts.0 in
    let size : length x ≡ length y = ap (λ (h : Head). h.length) heads in
    let contents = parts-one x y (zeros (padding (length x))) (zeros (padding (length y))) size parts.1 in
    let formats : v ≡ w = ap (λ (h : Head). h.format) heads in (
      ap (λ (h : Head). h.number) heads,
      roll_once v a b h (subst (λ n. RollFits n b) (sym formats) k) (contents.0 ∙ ap (λ n. roll_bytes n b) (sym formats)),
    )

-- The content of a checkpoint whose body is short.
short-roll : (gate n : ℕ) (roll : List RollStreamValue) (body : List ℕ) → need body ≤ 2 ^ 32 → (has : HasRoll gate n roll body) → length (roll_bytes has.format roll) < 2 ^ 64
short-roll gate n roll body short has =
    omega (arith, short, ap need has.bytes ∙ need-roll has.format n roll)

pub has-roll-one : (gate m n : ℕ) (a b : List RollStreamValue) (body : List ℕ) → gate < 2 ^ 64 → need body ≤ 2 ^ 32 → HasRoll gate m a body → HasRoll gate n b body → (m ≡ n) × (a ≡ b)
has-roll-one gate m n a b body low short first second =
    roll-one first.format second.format m n a b first.known second.known (omega (arith, first.bound, low)) (omega (arith, second.bound, low)) (short-roll gate m a body short first) (short-roll gate n b body short second)
    first.is_roll.fits second.is_roll.fits (sym first.bytes ∙ second.bytes)

-- ---- the body of the next entry

-- The bytes of the body of an entry are its content and then its pages.
content-and-pages : (number : ℕ) (e : Entry) (root : ℕ) (pages : List NodePage) → body_of number e root pages ≡ content_of number e root (length pages) ++ flat_map page_bytes pages
unfolding body_of content_of
content-and-pages number e root pages =
    sym (append_assoc (head_bytes (entry_head (format_of e) number (length (spelling e)) (length pages) root)) (filled e) (flat_map page_bytes pages))

module _ (log : Reached) (e : Entry) (root : ℕ) (pages : List NodePage) (body : List ℕ) (is : IsNextBody log e root pages body) where
  needed : need body ≡ content_blocks (length (spelling e)) + length pages + 1
  needed = ap need is.bytes ∙ need-body_of (log.entries + 1) e root pages (each-places pages is.fits)

  -- A body that is not too long fits.
  pub fits-next : log.entries + 1 < 2 ^ 64 → need body ≤ 2 ^ 64 → FitsBody (log.entries + 1) e root pages
  fits-next few short = record {
    some = omega arith;
    few = few;
    spelled = is.spelled;
    low = is.low;
    places = each-places pages is.fits;
    room = omega (arith, short, needed);
  }

  -- It has the content of the entry, and its node blocks are its pages.
  pub next-content : need body ≤ 2 ^ 64 → HasContent (log.entries + 1) e root (flat_map page_bytes pages) body
  next-content short = record {
    spelled = is.spelled;
    low = is.low;
    nodes = length pages;
    whole = length-pages pages (each-places pages is.fits);
    may_have = nodes-of-pages e pages is.may_have;
    room = omega (arith, short, needed);
    bytes = is.bytes ∙ content-and-pages (log.entries + 1) e root pages;
  }

-- After the same number of entries a body that is not too long is that of one entry at most, with one root and one list of pages.
pub next-one : (p q : Reached) (e f : Entry) (root other : ℕ) (pages others : List NodePage) (body : List ℕ) → p.entries ≡ q.entries → p.entries + 1 < 2 ^ 64 → need body ≤ 2 ^ 64 → IsNextBody p e root pages body → IsNextBody q f other others body → SameBody e root pages f other others
next-one p q e f root other pages others body same few short is is_too =
    let there : FitsBody (p.entries + 1) f other others = subst (λ n. FitsBody (n + 1) f other others) (sym same) (fits-next q f other others body is_too (omega (arith, few, same)) short) in
    let bytes = sym is.bytes ∙ is_too.bytes ∙ ap (λ n. body_of (n + 1) f other others) (sym same) in
    body_of-one (p.entries + 1) e f root other pages others (fits-next p e root pages body is few short) there is.fits is_too.fits bytes

-- ---- not both

-- The body of a checkpoint has its content.
pub has-checkpoint : (log : Reached) (body : List ℕ) → IsCheckpointBody log body → HasCheckpoint log.least log.entries (λ format. roll_bytes format log.roll) body
unfolding body_of_roll
has-checkpoint log body is =
    record { format = is.format; from = is.from; most = is.most; room = is.room; bytes = is.bytes }

-- The body of a checkpoint has no content of an entry.
pub marks-apart : (log : Reached) (number : ℕ) (e : Entry) (root : ℕ) (nodes body : List ℕ) → HasContent number e root nodes body → IsCheckpointBody log body → ⊥
marks-apart log number e root nodes body content is =
    let head = content_head number e root nodes body content in
    let begins : take 64 body ≡ head_bytes head = ap (take 64) (content-parts number e root nodes body content) ∙ take_at (head_bytes head) (filled e ++ nodes) 64 (length-head_bytes head) in
    let kinds : 1 ≡ 2 = checkpoint-kind log.least log.entries (λ format. roll_bytes format log.roll) body head (has-checkpoint log body is) begins (omega arith) in
    absurd (omega (arith, kinds))
