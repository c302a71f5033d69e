-- One more reply is in its place.
use Rattle.std.proofs.Common.{◌≡◌, ◌+◌, sym, ap, subst, ◌∙◌, ◌++◌, ◌∷◌, length, take, drop, get_or, [], arith, length-append}
use Rattle.std.proofs.lemmas.List.{take_more, drop_more, length-take-le}
use Rattle.btr_live.specs.Parts.{replies_at}
use Rattle.btr_live.proofs.OrderLemmas.{HasLeft, HasPlaced, left-first, left-more, placed-more}
use Rattle.btr_live.proofs.order.in_order.Goals as goal

pub loop-lane-preserved : goal.loop-lane-preserved
loop-lane-preserved g c =
    let before = c.loop-lane.invariant in
    let i = c.loop-lane.lane-index in
    let lanes = c.args.lanes.now in
    let low = c.loop-lane-test.true in
    let lane = get_or lanes i 0 in
    let reply = c.next_reply-reply.result in
    let placed = c.loop-lane.replies.items in
    let left = replies_at c.loop-lane.parts in
    let after = replies_at c.next_reply-reply.new.parts in
    let items = c.push_reserved.ensures.items in
    let long : length (take i lanes) ≡ i = length-take-le i lanes (omega (arith, low)) in
    let more = ap length items ∙ length-append placed (reply ∷ []) in
    let rest = drop (i + 1) lanes in
    let all = replies_at c.args.parts.now in
    let has : HasLeft all lanes → HasLeft left (lane ∷ rest) = λ each. subst (HasLeft left) (drop_more lanes i 0 low) (before.left each) in
    let reported = λ (each : HasLeft all lanes). c.next_reply-reply.ensures.reported (left-first left lane rest (has each)) in
    record {
      each = omega (arith, more, before.each);
      room = omega (arith, before.room, c.push_reserved.ensures.capacity);
      parts = c.next_reply-reply.ensures.parts ∙ before.parts;
      feeds = c.next_reply-reply.ensures.feeds ∙ before.feeds;
      left = λ each. left-more left after lane reply rest (has each) (reported each);
      placed = λ each.
          subst (λ ls. HasPlaced all after ls c.push_reserved.new.self.items) (sym (take_more lanes i 0 low))
          (subst (λ rs. HasPlaced all after (take i lanes ++ lane ∷ []) rs) (sym items)
          (placed-more all left after (take i lanes) placed lane reply (before.each ∙ sym long) (before.placed each) (reported each)));
    }
