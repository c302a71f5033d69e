-- What a follower answers to a frame of its leader is the delivery of the frame.
use Rattle.std.specs.Prelude.{◌≡◌, ℕ, ◌+◌, Bool, List, [], ◌∷◌, ◌++◌, cond, length, slice_get, Option, Some}
use Rattle.std.proofs.Common.{sym, ap, ◌∙◌, arith, subst}
use Rattle.std.proofs.lemmas.Bool.{eq-eqb, ne_eqb}
use Rattle.btr_hist.specs.declared.entry.Entry.{Entry}
use Rattle.btr_hist.specs.Legal.{Legal, Allowed}
use Rattle.btr_hist.proofs.HistoryLemmas.{legal-last}
use Rattle.btr_hist.proofs.LandingLemmas.{legal-front}
use Rattle.btr_entry.specs.Grammar.{IsEntry}
use Rattle.btr_entry.proofs.SpellingLemmas.{same_entry}
use Rattle.btr_follow.specs.declared.event.FollowEvent.TheVariants.{Deliver}
use Rattle.btr_follow.specs.declared.frame.Frame.{Frame}
use Rattle.btr_follow.specs.declared.heard.Heard.{Heard}
use Rattle.btr_follow.specs.declared.heard.Heard.TheVariants.{Stale, Early, Garbled, Foreign, Taken}
use Rattle.btr_follow.specs.Hears.{Hears}
use Rattle.btr_follow.specs.World.{Shipped, World, taken, delivered, next_world}
use Rattle.btr_follow.specs.Followed.{IsFrameOf, IsDelivered}
use Rattle.btr_follow.proofs.WorldLemmas.{Keeps, taken-front, shipped-at}

-- Two entries with the same bytes are the same.
pub entry-once : (bytes : List ℕ) (e f : Entry) → IsEntry bytes e → IsEntry bytes f → e ≡ f
entry-once bytes e f h k = same_entry e f h.is_spelled k.is_spelled (sym h.bytes_are ∙ k.bytes_are)

module _ (w : World) (i : ℕ) (x : Shipped) (at : slice_get w.shipped i ≡ Some x) where
  -- A frame of another number is not taken.
  left : (x.number ≡ length w.follower + 1 → ⊥) → w.follower ≡ (next_world w (Deliver i)).follower
  left other =
      sym (ap (λ (o : Option Shipped). (delivered w o).follower) at
      ∙ ap {A = Bool} {B = List Entry} (λ t. (cond t (taken w x) w).follower) (ne_eqb x.number (length w.follower + 1) other))

  -- A frame of the next number is taken.
  grown : x.number ≡ length w.follower + 1 → w.follower ++ x.entry ∷ [] ≡ (next_world w (Deliver i)).follower
  grown next =
      sym (ap (λ (o : Option Shipped). (delivered w o).follower) at
      ∙ ap {A = Bool} {B = List Entry} (λ t. (cond t (taken w x) w).follower) (eq-eqb x.number (length w.follower + 1) next))

  module _ (keeps : Keeps w) (legal : Legal w.leader.history) (f : Frame) (of : IsFrameOf x f) where
    -- Its entry is allowed.
    allowed : x.number ≡ length w.follower + 1 → Allowed w.follower x.entry
    allowed next =
        let front = taken-front w x keeps (shipped-at w i x keeps at) next in
        legal-last w.follower x.entry (legal-front (w.follower ++ x.entry ∷ []) w.leader.history front legal)

    pub heard-delivered : (answer : Heard) (after : List Entry) → Hears w.follower f answer after → IsDelivered w i answer after
    heard-delivered (Stale entries) after hears = record {
      of_leader = tt;
      delivery = hears.2 ∙ left (λ next. omega (arith, hears.0, of.numbered));
    }
    heard-delivered (Early entries) after hears = record {
      of_leader = tt;
      delivery = hears.2 ∙ left (λ next. omega (arith, hears.0, of.numbered));
    }
    heard-delivered Garbled after hears = absurd (hears.1 x.entry of.spelled)
    heard-delivered Foreign after hears =
        let brings = hears.0.brings in
        let same = entry-once f.bytes x.entry hears.0.entry of.spelled brings.spelled in
        absurd (hears.0.foreign (subst (Allowed w.follower) same (allowed (sym of.numbered ∙ brings.next))))
    heard-delivered (Taken number) after hears =
        let brings = hears.1.brings in
        let same = entry-once f.bytes hears.1.entry x.entry brings.spelled of.spelled in
        record {
          of_leader = tt;
          delivery = hears.1.grown ∙ ap (λ (e : Entry). w.follower ++ e ∷ []) same ∙ grown (sym of.numbered ∙ brings.next);
        }
