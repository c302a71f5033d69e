-- Lemmas on the content of a checkpoint's body: the streams that it spells.
use Rattle.std.specs.Prelude.{◌≡◌, ℕ, ◌+◌, ◌-◌, ◌*◌, ◌<◌, ◌≤◌, ◌^◌, List, ◌++◌, length, take, drop, Option, Some, None, IfNone}
use Rattle.std.specs.List.{AllByRecursion}
use Rattle.std.proofs.Common.{refl, sym, ◌∙◌, ap, subst, arith, length-append}
use Rattle.std.proofs.lemmas.List.{length-take-le, length-drop}
use Rattle.btr_disk.specs.Gate.{zeros}
use Rattle.btr_log.specs.declared.head.Head.{Head}
use Rattle.btr_log.specs.Extents.{IsBody}
use Rattle.btr_log.specs.Head.{content_blocks, head_bytes, checkpoint_head}
use Rattle.btr_roll.specs.Roll.{RollStreamValue, IsRoll, IsRollBytes, roll_bytes}
use Rattle.btr_roll.proofs.RollLemmas.{roll_once}
use Rattle.btr_engine.specs.Body.{padding}
use Rattle.btr_engine.specs.Mark.{body_of_roll}
use Rattle.btr_open.specs.Content.{HasCheckpoint}
use Rattle.btr_open.specs.Start.{HasRoll, IsMadeWithin}
use Rattle.btr_open.specs.Checkpoint.{IsContent}
use Rattle.btr_open.proofs.BodyParts.{ZerosAfter, checkpoint-found, checkpoint-format, checkpoint-number, checkpoint-length, checkpoint-text, checkpoint-zeros}

-- The content of a body is not longer than the body.
content-within : (least number : ℕ) (contents : ℕ → List ℕ) (body : List ℕ) (has : HasCheckpoint least number contents body) → length (contents has.format) ≤ length body
content-within least number contents body has =
    let content = contents has.format in
    let filled = content ++ zeros (padding (length content)) in
    let whole : length body ≡ length (head_bytes (checkpoint_head has.format number (length content)) ++ filled) = ap length has.bytes in
    omega (arith, whole, length-append (head_bytes (checkpoint_head has.format number (length content))) filled, length-append content (zeros (padding (length content))))

-- A checkpoint with other contents, if those of its format are the same.
other-contents : (least number : ℕ) (contents others : ℕ → List ℕ) (body : List ℕ) (has : HasCheckpoint least number contents body) → contents has.format ≡ others has.format → HasCheckpoint least number others body
other-contents least number contents others body has same = record {
  format = has.format;
  from = has.from;
  most = has.most;
  room = subst (λ (content : List ℕ). content_blocks (length content) < 2 ^ 64) same has.room;
  bytes = has.bytes ∙ ap (λ content. head_bytes (checkpoint_head has.format number (length content)) ++ (content ++ zeros (padding (length content)))) same;
}

-- A checkpoint has the content of the format that its head says.
module _ (least number : ℕ) (contents : ℕ → List ℕ) (body : List ℕ) (head : Head) (is : IsBody body head) (few : number < 2 ^ 64) (short : length body < 2 ^ 64) where
  pub content-of-head : HasCheckpoint least number contents body → HasCheckpoint least number (λ format. contents head.format) body
  content-of-head has =
      let same = checkpoint-format least number contents body head is few has (omega (arith, short, content-within least number contents body has)) in
      other-contents least number contents (λ format. contents head.format) body has (ap contents (sym same))

  pub head-of-content : HasCheckpoint least number (λ format. contents head.format) body → HasCheckpoint least number contents body
  head-of-content has =
      let same = checkpoint-format least number (λ format. contents head.format) body head is few has (omega (arith, short, content-within least number (λ format. contents head.format) body has)) in
      other-contents least number (λ format. contents head.format) contents body has (ap contents same)

-- The streams of a checkpoint at a gate are the content of its body.
pub roll-content : (gate entries : ℕ) (roll : List RollStreamValue) (body : List ℕ) → HasRoll gate entries roll body → IsContent entries roll body
unfolding body_of_roll
roll-content gate entries roll body has = record {
  has = record { format = has.format; from = (has.known.0, has.known.0); most = has.known.1; room = has.room; bytes = has.bytes };
  is_roll = has.is_roll;
}

module _ (body : List ℕ) (head : Head) (is : IsBody body head) (end : ℕ) (ends : end ≡ 64 + head.length) where
  -- The bytes after the head spell the streams, and nothing but zeros follows.
  pub content-is : head.kind ≡ 2 → ZerosAfter end body → (roll : List RollStreamValue) → IsRollBytes head.format (take (end - 64) (drop 64 body)) roll → IsContent head.number roll body
  content-is kind none roll spells =
      let fit : end - 64 ≤ length (drop 64 body) = omega (arith, ends, length-drop 64 body, is.whole, is.spells.is_head.blocks) in
      let size : end - 64 ≡ length (roll_bytes head.format roll) = sym (length-take-le (end - 64) (drop 64 body) fit) ∙ ap length spells.bytes_are in
      record {
        has = checkpoint-found 1 head.number (λ format. roll_bytes format roll) body head is end (omega (arith, ends, size)) kind is.spells.is_head.format.0 refl (omega (arith, ends, size)) spells.bytes_are none;
        is_roll = spells.is_roll;
      }

  module _ (short : length body < 2 ^ 64) (entries : ℕ) (roll : List RollStreamValue) (few : entries < 2 ^ 64) (has : IsContent entries roll body) where
    abbrev contents : ℕ → List ℕ
    contents format = roll_bytes format roll

    fits : length (contents has.has.format) < 2 ^ 64
    fits = omega (arith, short, content-within 1 entries contents body has.has)

    -- The head has the format of the content, and its number.
    pub has-format : head.format ≡ has.has.format
    has-format = checkpoint-format 1 entries contents body head is few has.has fits

    pub has-number : head.number ≡ entries
    has-number = checkpoint-number 1 entries contents body head is few has.has fits

    its-end : end ≡ 64 + length (contents has.has.format)
    its-end = omega (arith, ends, checkpoint-length 1 entries contents body head is few has.has fits)

    pub has-zeros : ZerosAfter end body
    has-zeros = checkpoint-zeros 1 entries contents body head is few has.has fits end its-end

    pub has-bytes : IsRollBytes head.format (take (end - 64) (drop 64 body)) roll
    has-bytes = record {
      is_roll = subst (λ n. IsRoll n roll) (sym has-format) has.is_roll;
      bytes_are = checkpoint-text 1 entries contents body head is few has.has fits end its-end ∙ ap contents (sym has-format);
    }

  -- The head has the format in which a checkpoint at a gate has its streams.
  pub roll-format : length body < 2 ^ 64 → (gate entries : ℕ) (roll : List RollStreamValue) → entries < 2 ^ 64 → (has : HasRoll gate entries roll body) → head.format ≡ has.format
  unfolding roll-content
  roll-format short gate entries roll few has =
      has-format short entries roll few (roll-content gate entries roll body has)

  -- A body has the content of one list of streams.
  pub one-content : length body < 2 ^ 64 → (m n : ℕ) (a b : List RollStreamValue) → m < 2 ^ 64 → n < 2 ^ 64 → IsContent m a body → IsContent n b body → a ≡ b
  one-content short m n a b few fewer is_a is_b =
      let first = has-bytes short m a few is_a in
      let second = has-bytes short n b fewer is_b in
      roll_once head.format a b first.is_roll.fits second.is_roll.fits (sym first.bytes_are ∙ second.bytes_are)

  -- The streams that were found are made by these entries, if some streams of the body are.
  pub made-too : length body < 2 ^ 64 → (gate entries : ℕ) (roll mine : List RollStreamValue) → head.number < 2 ^ 64 → HasRoll gate entries roll body → entries < 2 ^ 64 → IsContent head.number mine body → head.number ≡ entries → AllByRecursion (IsMadeWithin head.number) mine
  made-too short gate entries roll mine low has few is_mine same =
      let one : roll ≡ mine = one-content short entries head.number roll mine few low (roll-content gate entries roll body has) is_mine in
      subst (λ l. AllByRecursion (IsMadeWithin head.number) l) one (subst (λ n. AllByRecursion (IsMadeWithin n) roll) (sym same) has.made)

pub content-roll : (gate entries : ℕ) (roll : List RollStreamValue) (body : List ℕ) → IsContent entries roll body → 2 * entries + 4 ≤ gate → AllByRecursion (IsMadeWithin entries) roll → HasRoll gate entries roll body
unfolding body_of_roll
content-roll gate entries roll body is bound made = record {
  format = is.has.format;
  known = (is.has.from.0, is.has.most);
  is_roll = is.is_roll;
  bound = bound;
  made = made;
  room = is.has.room;
  bytes = is.has.bytes;
}

-- What holds of `None`, of an option that is nothing else.
pub if-none : {X : Type 0} (o : Option X) (P : Type 0) → ((x : X) → o ≡ Some x → ⊥) → IfNone o P → P
if-none None P not is = is
if-none (Some x) P not is = absurd (not x refl)
