-- The body of a checkpoint with given streams: its length, that it is a body, and its run from its pieces.
use Rattle.std.specs.Prelude.{◌≡◌, ℕ, ◌+◌, ◌*◌, ◌<◌, ◌≤◌, ◌^◌, List, ◌++◌, length, replicate}
use Rattle.std.proofs.Common.{refl, sym, ◌∙◌, ap, subst, inr, arith, length-append}
use Rattle.std.proofs.lemmas.List.{take_at}
use Rattle.btr_disk.specs.Gate.{zeros}
use Rattle.btr_disk.proofs.GateLemmas.{length-zeros}
use Rattle.btr_log.specs.declared.head.Head.{Head}
use Rattle.btr_log.specs.Head.{content_blocks, head_bytes, IsHead, checkpoint_head}
use Rattle.btr_log.proofs.HeadLemmas.{length-head_bytes}
use Rattle.btr_log.specs.Append.{body_in_run, IsAppendRun}
use Rattle.btr_log.proofs.AppendLemmas.{body_in_run-append, IsAppendRun-from}
use Rattle.btr_log.specs.Extents.{IsBody, need}
use Rattle.btr_hist.specs.declared.entry.Entry.{Entry}
use Rattle.btr_roll.specs.Roll.{RollStreamValue, roll_bytes}
use Rattle.btr_streams.specs.Rolling.{roll_of}
use Rattle.btr_engine.specs.Body.{padding, checkpoint_body}
use Rattle.btr_engine.specs.Mark.{body_of_roll}
use Rattle.btr_engine.proofs.ExtentBytes.{zero_block}

-- The head of a checkpoint keeps the grammar, if its numbers fit.
pub IsHead-checkpoint_head : (format number length : ℕ) → 1 ≤ format → format ≤ 4 → number < 2 ^ 64 → length < 2 ^ 64 → IsHead (checkpoint_head format number length)
IsHead-checkpoint_head format number length some known few short = record {
  kind = inr (refl, refl, refl);
  format = (some, known);
  blocks = omega arith;
  fits = record { number = few; n = omega (arith, short); length = short; nodes = omega arith; root = omega arith };
}

module _ (format number : ℕ) (streams : List RollStreamValue) where
  abbrev content : List ℕ
  content = roll_bytes format streams

  abbrev filled : List ℕ
  filled = content ++ zeros (padding (length content))

  abbrev head : Head
  head = checkpoint_head format number (length content)

  length-body_of_roll : length (body_of_roll format number streams) ≡ 4096 * content_blocks (length content)
  unfolding body_of_roll
  length-body_of_roll =
      omega (arith, length-append (head_bytes head) filled, length-append content (zeros (padding (length content))), length-head_bytes head, length-zeros (padding (length content)))

  -- The blocks of the body and of the gate after it.
  pub need-body_of_roll : need (body_of_roll format number streams) ≡ content_blocks (length content) + 1
  need-body_of_roll = omega (arith, length-body_of_roll)

  IsBody-body_of_roll : 1 ≤ format → format ≤ 4 → number < 2 ^ 64 → length content < 2 ^ 64 → IsBody (body_of_roll format number streams) head
  unfolding body_of_roll
  IsBody-body_of_roll some known few short = record {
    spells = record {
      is_head = IsHead-checkpoint_head format number (length content) some known few short;
      spelling = take_at (head_bytes head) filled 64 (length-head_bytes head);
    };
    whole = length-body_of_roll;
  }

  -- The body and one block of zeros can be appended.
  pub run-body_of_roll : (run : List ℕ) → run ≡ body_of_roll format number streams ++ zeros 4096 → 1 ≤ format → format ≤ 4 → number < 2 ^ 64 → length content < 2 ^ 64 → IsAppendRun run
  run-body_of_roll run is some known few short =
      subst IsAppendRun (sym is) (IsAppendRun-from (body_of_roll format number streams) head (IsBody-body_of_roll some known few short))

  -- The body of such a run.
  pub brings-roll : (run : List ℕ) → run ≡ body_of_roll format number streams ++ zeros 4096 → body_in_run run ≡ body_of_roll format number streams
  brings-roll run is = ap body_in_run is ∙ body_in_run-append (body_of_roll format number streams)

  -- The head, the content with zeros, and one block of zeros.
  pub assembled-roll : (bytes first second run : List ℕ) → bytes ≡ content → first ≡ head_bytes (checkpoint_head format number (length bytes)) → second ≡ first ++ (bytes ++ zeros (padding (length bytes))) → run ≡ second ++ replicate 4096 0 → run ≡ body_of_roll format number streams ++ zeros 4096
  unfolding body_of_roll
  assembled-roll bytes first second run is first_is second_is run_is =
      let rest = bytes ++ zeros (padding (length bytes)) in
      let whole : run ≡ (head_bytes (checkpoint_head format number (length bytes)) ++ rest) ++ zeros 4096 = run_is ∙ ap (λ l. l ++ replicate 4096 0) (second_is ∙ ap (λ l. l ++ rest) first_is) ∙ ap (λ l. (head_bytes (checkpoint_head format number (length bytes)) ++ rest) ++ l) zero_block in
      subst (λ l. run ≡ (head_bytes (checkpoint_head format number (length l)) ++ (l ++ zeros (padding (length l)))) ++ zeros 4096) is whole

-- The body of a checkpoint after a history is that of the history's streams.
pub body-of-history : (format : ℕ) (h : List Entry) (roots : List ℕ) → body_of_roll format (length h) (roll_of h roots) ≡ checkpoint_body format h roots
unfolding body_of_roll checkpoint_body
body-of-history format h roots = refl
