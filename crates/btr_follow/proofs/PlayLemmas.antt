-- Lemmas on what is kept of a leader and its follower while events are played.
use Rattle.std.specs.Prelude.{◌≡◌, ℕ, ◌+◌, ◌-◌, ◌<◌, ◌≤◌, List, [], ◌∷◌, ◌++◌, length, drop, get_or, slice_get, Some}
use Rattle.std.proofs.Common.{sym, ap, ◌∙◌, arith, subst, append_assoc}
use Rattle.std.proofs.lemmas.List.{map-append, drop_more}
use Rattle.std.proofs.lemmas.Option.{slice_get-get_or}
use Rattle.btr_hist.specs.declared.entry.Entry.{Entry}
use Rattle.btr_core.specs.Machine.{IsMachineOf}
use Rattle.btr_follow.specs.declared.event.FollowEvent.{FollowEvent}
use Rattle.btr_follow.specs.declared.event.Lengths.{Lengths}
use Rattle.btr_follow.specs.declared.play.Play.{Play}
use Rattle.btr_follow.specs.World.{Shipped, World, entry_at, with_frame, next_world, lengths_of, lengths_from}
use Rattle.btr_follow.specs.Play.{IsPlayOf}
use Rattle.btr_follow.proofs.WorldLemmas.{entry-at}

some-at : (h : List Entry) (n : ℕ) → n < length h → (e : Entry) × (slice_get h n ≡ Some e)
some-at [] n low = absurd (omega arith)
some-at (e ∷ h) n low = (get_or (e ∷ h) n e, slice_get-get_or (e ∷ h) n e low)

-- The leader has an entry of each number up to its length.
some-entry : (h : List Entry) (n : ℕ) → 1 ≤ n → n ≤ length h → (e : Entry) × (entry_at h n ≡ Some e)
some-entry h n low high =
    let there = some-at h (n - 1) (omega arith) in
    (there.0, entry-at h n low ∙ there.1)

-- One more frame was shipped.
pub play-shipped : (w : World) (s t : Play) (n : ℕ) → IsPlayOf w s → 1 ≤ n → n ≤ length w.leader.history → t.leader ≡ s.leader → t.shipped.items ≡ s.shipped.items ++ n ∷ [] → t.follower ≡ s.follower → t.acked ≡ s.acked → IsPlayOf (with_frame w n (entry_at w.leader.history n)) t
play-shipped w s t n of low high leader shipped follower acked =
    let e = some-entry w.leader.history n low high in
    subst (λ o. IsPlayOf (with_frame w n o) t) (sym e.1) (record {
      leader = subst (IsMachineOf w.leader) (sym leader) of.leader;
      shipped = shipped ∙ ap (λ (l : List ℕ). l ++ n ∷ []) of.shipped ∙ sym (map-append (λ (x : Shipped). x.number) w.shipped (record { number = n; entry = e.0 } ∷ []));
      follower = follower ∙ of.follower;
      acked = acked ∙ of.acked;
    })

-- The event at an index, and those after it.
pub drop-step : (es : List FollowEvent) (i : ℕ) (e : FollowEvent) → i < length es → e ≡ get_or es i e → drop i es ≡ e ∷ drop (i + 1) es
drop-step es i e low at = drop_more es i e low ∙ ap (λ (x : FollowEvent). x ∷ drop (i + 1) es) (sym at)

-- After one more event the lengths so far and those after the events that are left are still all.
pub lengths-more : (w : World) (done new : List Lengths) (l : Lengths) (e : FollowEvent) (left rest : List FollowEvent) (all : List Lengths) → left ≡ e ∷ rest → new ≡ done ++ l ∷ [] → l ≡ lengths_of (next_world w e) → done ++ lengths_from w left ≡ all → new ++ lengths_from (next_world w e) rest ≡ all
lengths-more w done new l e left rest all split pushed is so_far =
    let others = lengths_from (next_world w e) rest in
    ap (λ (ls : List Lengths). ls ++ others) pushed
    ∙ append_assoc done (l ∷ []) others
    ∙ ap (λ (x : Lengths). done ++ x ∷ others) is
    ∙ ap (λ (es : List FollowEvent). done ++ lengths_from w es) (sym split)
    ∙ so_far
