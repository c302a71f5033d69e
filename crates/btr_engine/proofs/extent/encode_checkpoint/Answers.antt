use Rattle.std.specs.Prelude.{◌≡◌, ◌++◌, length}
use Rattle.std.proofs.Common.{◌∙◌, ap, arith, length-append, append_assoc}
use Rattle.std.proofs.lemmas.Result.{IfOk-weaker}
use Rattle.btr_disk.specs.Gate.{zeros}
use Rattle.btr_log.specs.Head.{head_bytes, checkpoint_head}
use Rattle.btr_log.proofs.HeadLemmas.{length-head_bytes}
use Rattle.btr_roll.specs.Roll.{roll_bytes}
use Rattle.btr_engine.specs.Body.{padding}
use Rattle.btr_engine.specs.Mark.{body_of_roll}
use Rattle.btr_engine.proofs.RollBody.{assembled-roll, run-body_of_roll}
use Rattle.btr_engine.proofs.extent.encode_checkpoint.Goals.{After-drop-content-2}
use Rattle.btr_engine.proofs.extent.encode_checkpoint.Goals as goal

pub fill_up-requires-clause-long : goal.fill_up-requires-clause-long
fill_up-requires-clause-long c =
    let head = head_bytes c.for_checkpoint-head.result in
    omega (arith, ap length c.in_ok-extend_from_slice.ensures.items, length-append c.put_head.new.extent.items c.deref.result.now, ap length c.in_ok-put_head.ensures, length-append c.in_ok-extent.extent.items head, ap length c.in_ok-extent.ensures.items, length-head_bytes c.for_checkpoint-head.result, ap length c.deref.ensures.value)

bytes : (c : After-drop-content-2) → c.extend_from_slice-2.new.self.items ≡ body_of_roll c.args.format c.args.entries c.args.roll.now ++ zeros 4096
bytes c =
    let content = c.in_ok-content.content.items in
    let before = c.put_head.new.extent.items in
    let length_is : c.len.result ≡ length content = omega arith in
    let again : c.len-2.result ≡ length content = omega arith in
    let head_is = c.for_checkpoint-head.ensures ∙ ap (checkpoint_head c.args.format c.args.entries) length_is in
    let first : before ≡ head_bytes (checkpoint_head c.args.format c.args.entries (length content)) = c.in_ok-put_head.ensures ∙ ap (λ l. l ++ head_bytes c.for_checkpoint-head.result) c.in_ok-extent.ensures.items ∙ ap head_bytes head_is in
    let written : c.extend_from_slice.new.self.items ≡ before ++ content = c.in_ok-extend_from_slice.ensures.items ∙ ap (λ l. before ++ l) c.deref.ensures.value in
    let second : c.fill_up.new.extent.items ≡ before ++ (content ++ zeros (padding (length content))) = c.in_ok-fill_up.ensures ∙ ap (λ l. l ++ zeros (padding c.len-2.result)) written ∙ ap (λ n. (before ++ content) ++ zeros (padding n)) again ∙ append_assoc before content (zeros (padding (length content))) in
    assembled-roll c.args.format c.args.entries c.args.roll.now content before c.fill_up.new.extent.items c.extend_from_slice-2.new.self.items c.in_ok-content.ensures.bytes first second c.in_ok-extend_from_slice-2.ensures.items

pub returns-clause-bytes : goal.returns-clause-bytes
returns-clause-bytes c = IfOk-weaker c.of.result _ _ (λ p is. is ∙ bytes c) c.of.ensures

pub returns-clause-run : goal.returns-clause-run
returns-clause-run c =
    let same : length c.in_ok-content.content.items ≡ length (roll_bytes c.args.format c.args.roll.now) = ap (length {A = _}) c.in_ok-content.ensures.bytes in
    IfOk-weaker c.of.result _ _ (λ p is. run-body_of_roll c.args.format c.args.entries c.args.roll.now p (is ∙ bytes c) c.requires.known.0 c.requires.known.1 (omega arith) (omega (arith, same))) c.of.ensures
