-- Lemmas on a leader and its follower: what each event keeps, and that the follower's history is a prefix of the leader's.
use Rattle.std.specs.Prelude.{◌≡◌, ℕ, zero, suc, ◌+◌, ◌-◌, ◌≤◌, ◌==◌, Bool, true, false, List, [], ◌∷◌, ◌++◌, cond, length, slice_get, Option, Some, None}
use Rattle.std.specs.List.{AllByRecursion}
use Rattle.std.proofs.Common.{refl, sym, ap, ◌∙◌, arith, subst, append_assoc, length-append}
use Rattle.std.proofs.lemmas.Bool.{eqb-true, ne_eqb}
use Rattle.std.proofs.lemmas.List.{append-nil}
use Rattle.std.proofs.lemmas.Option.{slice_get_past}
use Rattle.btr_base.proofs.ListLemmas.{each-weaker, each-append, get-append, get_last}
use Rattle.btr_hist.specs.declared.entry.Entry.{Entry}
use Rattle.btr_hist.specs.Legal.{Legal}
use Rattle.btr_hist.specs.Machine.{offered, plan_of}
use Rattle.btr_hist.specs.Machine as model
use Rattle.btr_hist.specs.Machine.{Event as events}
use Rattle.btr_hist.specs.Laws.{MachineStaysLegal}
use Rattle.btr_hist.proofs.LandingLemmas.{IsFront, front-itself, front-trans, legal-front, committed-front, landing-front}
use Rattle.btr_hist.proofs.RightLemmas.{legal-right}
use Rattle.btr_core.specs.Events.{event_of}
use Rattle.btr_follow.specs.declared.event.FollowEvent.{FollowEvent}
use Rattle.btr_follow.specs.declared.event.FollowEvent.TheVariants.{Lead, Ship, Deliver, Torn}
use Rattle.btr_follow.specs.World.{Shipped, World, first_world, entry_at, with_frame, taken, delivered, restarted, next_world, run_world, world_after}
use Rattle.btr_follow.specs.Followed.{IsShippedBy, FollowsLeader}

-- ---- the entry of a number

-- From 1 on it is the one at the index before.
pub entry-at : (h : List Entry) (n : ℕ) → 1 ≤ n → entry_at h n ≡ slice_get h (n - 1)
entry-at h n low = ap {A = Bool} {B = Option Entry} (λ t. cond t None (slice_get h (n - 1))) (ne_eqb n 0 (λ e. omega arith))

at-more : (h more : List Entry) (n : ℕ) (e : Entry) (t : Bool) → cond t None (slice_get h n) ≡ Some e → cond t None (slice_get (h ++ more) n) ≡ Some e
at-more h more n e true is = absurd (cc)
at-more h more n e false is = get-append h more n e is

-- It is the same in each longer history.
shipped-front : (h k : List Entry) → IsFront h k → (x : Shipped) → IsShippedBy h x → IsShippedBy k x
shipped-front h k front x is =
    subst (λ l. IsShippedBy l x) front.1 (at-more h front.0 (x.number - 1) x.entry (x.number == 0) is)

-- The entry after those of a prefix makes a longer prefix.
pub front-one : (f h : List Entry) (e : Entry) → IsFront f h → slice_get h (length f) ≡ Some e → IsFront (f ++ e ∷ []) h
front-one f h e ([], is) at =
    let same : f ≡ h = sym (append-nil f) ∙ is in
    let none : slice_get h (length f) ≡ None = subst (λ (l : List Entry). slice_get l (length f) ≡ None) same (slice_get_past f (length f) (omega arith)) in
    absurd (cc)
front-one f h e (d ∷ more, is) at =
    let whole : (f ++ d ∷ []) ++ more ≡ h = append_assoc f (d ∷ []) more ∙ is in
    let there : slice_get h (length f) ≡ Some d = subst (λ (l : List Entry). slice_get l (length f) ≡ Some d) whole (get-append (f ++ d ∷ []) more (length f) d (get_last f d)) in
    let same : d ≡ e = cc in
    (more, subst (λ (x : Entry). (f ++ x ∷ []) ++ more ≡ h) same whole)

-- ---- one of a list

pub each-get : {X : Type 0} (P : X → Type 0) (xs : List X) (i : ℕ) (x : X) → AllByRecursion P xs → slice_get xs i ≡ Some x → P x
each-get P [] i x each at = absurd (cc)
each-get P (y ∷ ys) zero x each at = let same : y ≡ x = cc in subst P same each.0
each-get P (y ∷ ys) (suc i) x each at = each-get P ys i x each.1 at

-- ---- the leader

next-front : (m : model.Machine) (actor : ℕ) (event : model.Event) → IsFront m.history (model.next m actor event).history
next-front m actor (events.Commit e) = committed-front m.history e (offered m.history e)
next-front m actor events.Admit = front-itself m.history
next-front m actor (events.Ask q) = front-itself m.history
next-front m actor (events.Plan stream) = front-itself m.history
next-front m actor events.Land = landing-front m.history (m.plan actor)

-- What happens at the leader.
abbrev pub led : List FollowEvent → List (ℕ × model.Event)
led [] = []
led (Lead e ∷ es) = (e.actor, event_of e.what) ∷ led es
led (Ship number ∷ es) = led es
led (Deliver frame ∷ es) = led es
led (Torn frame kept ∷ es) = led es

leader-shipped : (w : World) (number : ℕ) (o : Option Entry) → (with_frame w number o).leader ≡ w.leader
leader-shipped w number None = refl
leader-shipped w number (Some e) = refl

leader-delivered : (w : World) (o : Option Shipped) → (delivered w o).leader ≡ w.leader
leader-delivered w None = refl
leader-delivered w (Some x) =
    elim (x.number == length w.follower + 1) as (λ t. (cond t (taken w x) w).leader ≡ w.leader) [ true ↦ refl | false ↦ refl ]

leader-torn : (w : World) (o : Option Shipped) (kept : Bool) → (restarted (cond kept (delivered w o) w)).leader ≡ w.leader
leader-torn w o true = leader-delivered w o
leader-torn w o false = refl

-- The leader is the machine of what happens at it.
pub leader-run : (w : World) (es : List FollowEvent) → (run_world w es).leader ≡ model.run w.leader (led es)
leader-run w [] = refl
leader-run w (Lead e ∷ es) = leader-run (next_world w (Lead e)) es
leader-run w (Ship number ∷ es) =
    leader-run (next_world w (Ship number)) es ∙ ap (λ (m : model.Machine). model.run m (led es)) (leader-shipped w number (entry_at w.leader.history number))
leader-run w (Deliver frame ∷ es) =
    leader-run (next_world w (Deliver frame)) es ∙ ap (λ (m : model.Machine). model.run m (led es)) (leader-delivered w (slice_get w.shipped frame))
leader-run w (Torn frame kept ∷ es) =
    leader-run (next_world w (Torn frame kept)) es ∙ ap (λ (m : model.Machine). model.run m (led es)) (leader-torn w (slice_get w.shipped frame) kept)

pub leader-legal : MachineStaysLegal → (es : List FollowEvent) → Legal (world_after es).leader.history
leader-legal legal es = subst (λ (m : model.Machine). Legal m.history) (sym (leader-run first_world es)) (legal (led es))

-- ---- what is kept

-- The follower's history is a prefix of the leader's, each frame has the leader's entry of its number, and the follower has acknowledged
-- all its entries.
pub record Keeps (w : World) : Type 0 where
  pub prefix : IsFront w.follower w.leader.history
  pub frames : AllByRecursion (IsShippedBy w.leader.history) w.shipped
  pub acked : w.acked ≡ length w.follower

-- The entry of the next frame makes a longer prefix.
pub taken-front : (w : World) (x : Shipped) → Keeps w → IsShippedBy w.leader.history x → x.number ≡ length w.follower + 1 → IsFront (w.follower ++ x.entry ∷ []) w.leader.history
taken-front w x keeps is next =
    let index : x.number - 1 ≡ length w.follower = omega arith in
    let at : slice_get w.leader.history (x.number - 1) ≡ Some x.entry = sym (entry-at w.leader.history x.number (omega arith)) ∙ is in
    front-one w.follower w.leader.history x.entry keeps.prefix (subst (λ i. slice_get w.leader.history i ≡ Some x.entry) index at)

taken-keeps : (w : World) (x : Shipped) → Keeps w → IsShippedBy w.leader.history x → x.number ≡ length w.follower + 1 → Keeps (taken w x)
taken-keeps w x keeps is next = record {
  prefix = taken-front w x keeps is next;
  frames = keeps.frames;
  acked = next ∙ sym (length-append w.follower (x.entry ∷ []));
}

delivered-keeps : (w : World) (o : Option Shipped) → Keeps w → ((x : Shipped) → o ≡ Some x → IsShippedBy w.leader.history x) → Keeps (delivered w o)
delivered-keeps w None keeps each = keeps
delivered-keeps w (Some x) keeps each =
    elim (x.number == length w.follower + 1) as (λ (t : Bool). (x.number == length w.follower + 1) ≡ t → Keeps (cond t (taken w x) w)) [
      | true ↦ λ is. taken-keeps w x keeps (each x refl) (eqb-true x.number (length w.follower + 1) is)
      | false ↦ λ _. keeps
    ] refl

-- What is delivered was shipped.
pub shipped-at : (w : World) (i : ℕ) (x : Shipped) → Keeps w → slice_get w.shipped i ≡ Some x → IsShippedBy w.leader.history x
shipped-at w i x keeps at = each-get (IsShippedBy w.leader.history) w.shipped i x keeps.frames at

restarted-keeps : (w : World) → Keeps w → Keeps (restarted w)
restarted-keeps w keeps = record { prefix = keeps.prefix; frames = keeps.frames; acked = refl }

shipped-keeps : (w : World) (number : ℕ) (o : Option Entry) → Keeps w → entry_at w.leader.history number ≡ o → Keeps (with_frame w number o)
shipped-keeps w number None keeps is = keeps
shipped-keeps w number (Some e) keeps is = record {
  prefix = keeps.prefix;
  frames = each-append (IsShippedBy w.leader.history) w.shipped (record { number = number; entry = e } ∷ []) keeps.frames (is, tt);
  acked = keeps.acked;
}

torn-keeps : (w : World) (frame : ℕ) (kept : Bool) → Keeps w → Keeps (restarted (cond kept (delivered w (slice_get w.shipped frame)) w))
torn-keeps w frame true keeps =
    restarted-keeps (delivered w (slice_get w.shipped frame)) (delivered-keeps w (slice_get w.shipped frame) keeps (λ x at. shipped-at w frame x keeps at))
torn-keeps w frame false keeps = restarted-keeps w keeps

next-keeps : (w : World) (e : FollowEvent) → Keeps w → Keeps (next_world w e)
next-keeps w (Lead e) keeps =
    let front = next-front w.leader e.actor (event_of e.what) in
    let h = w.leader.history in
    let k = (model.next w.leader e.actor (event_of e.what)).history in
    record {
      prefix = front-trans w.follower h k keeps.prefix front;
      frames = each-weaker (IsShippedBy h) (IsShippedBy k) (shipped-front h k front) w.shipped keeps.frames;
      acked = keeps.acked;
    }
next-keeps w (Ship number) keeps = shipped-keeps w number (entry_at w.leader.history number) keeps refl
next-keeps w (Deliver frame) keeps =
    delivered-keeps w (slice_get w.shipped frame) keeps (λ x at. shipped-at w frame x keeps at)
next-keeps w (Torn frame kept) keeps = torn-keeps w frame kept keeps

run-keeps : (w : World) (es : List FollowEvent) → Keeps w → Keeps (run_world w es)
run-keeps w [] keeps = keeps
run-keeps w (e ∷ es) keeps = run-keeps (next_world w e) es (next-keeps w e keeps)

first-keeps : Keeps first_world
first-keeps = record { prefix = front-itself []; frames = tt; acked = refl }

pub always-keeps : (es : List FollowEvent) → Keeps (world_after es)
always-keeps es = run-keeps first_world es first-keeps

pub always-follows : MachineStaysLegal → (es : List FollowEvent) → FollowsLeader (world_after es)
always-follows stays es =
    let w = world_after es in
    let keeps = always-keeps es in
    let legal = legal-front w.follower w.leader.history keeps.prefix (leader-legal stays es) in
    record {
      prefix = keeps.prefix;
      legal = legal;
      right = legal-right w.follower legal;
      frames = keeps.frames;
      acked = omega (arith, keeps.acked);
    }

-- ---- the follower's history never gets shorter

longer-shipped : (w : World) (number : ℕ) (o : Option Entry) → length w.follower ≤ length (with_frame w number o).follower
longer-shipped w number None = omega arith
longer-shipped w number (Some e) = omega arith

longer-delivered : (w : World) (o : Option Shipped) → length w.follower ≤ length (delivered w o).follower
longer-delivered w None = omega arith
longer-delivered w (Some x) =
    elim (x.number == length w.follower + 1) as (λ t. length w.follower ≤ length (cond t (taken w x) w).follower) [
      | true ↦ omega (arith, length-append w.follower (x.entry ∷ []))
      | false ↦ omega arith
    ]

longer-torn : (w : World) (o : Option Shipped) (kept : Bool) → length w.follower ≤ length (restarted (cond kept (delivered w o) w)).follower
longer-torn w o true = longer-delivered w o
longer-torn w o false = omega arith

longer-next : (w : World) (e : FollowEvent) → length w.follower ≤ length (next_world w e).follower
longer-next w (Lead e) = omega arith
longer-next w (Ship number) = longer-shipped w number (entry_at w.leader.history number)
longer-next w (Deliver frame) = longer-delivered w (slice_get w.shipped frame)
longer-next w (Torn frame kept) = longer-torn w (slice_get w.shipped frame) kept

longer-run : (w : World) (es : List FollowEvent) → length w.follower ≤ length (run_world w es).follower
longer-run w [] = omega arith
longer-run w (e ∷ es) = omega (arith, longer-next w e, longer-run (next_world w e) es)

run-append : (w : World) (es more : List FollowEvent) → run_world w (es ++ more) ≡ run_world (run_world w es) more
run-append w [] more = refl
run-append w (e ∷ es) more = run-append (next_world w e) es more

pub never-forgets : (es more : List FollowEvent) → (world_after es).acked ≤ (world_after (es ++ more)).acked
never-forgets es more =
    let here = (always-keeps es).acked in
    let there = (always-keeps (es ++ more)).acked in
    let long = longer-run (world_after es) more in
    let same = ap (λ (w : World). length w.follower) (run-append first_world es more) in
    omega (arith, here, there, long, same)
