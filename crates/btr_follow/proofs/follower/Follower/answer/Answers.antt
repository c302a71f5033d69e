-- Nothing was called, or an entry was taken.
use Rattle.std.specs.Prelude.{ℕ, ◌+◌, List}
use Rattle.std.proofs.Common.{refl, sym, ◌∙◌, ap, subst}
use Rattle.std.proofs.lemmas.Bool.{eqb-true}
use Rattle.btr_hist.specs.declared.entry.Entry.{Entry}
use Rattle.btr_entry.specs.Grammar.{IsEntry}
use Rattle.btr_engine.proofs.TravelLemmas.{HasMoments}
use Rattle.btr_follow.specs.Hears.{Brings}
use Rattle.btr_follow.specs.Follower.{engine_of, IsFollowerOf}
use Rattle.btr_follow.proofs.TakingLemmas.{taking_heard, taking_cause, leaves_same, leaves_taking, acks-at_rest, acks-taking}
use Rattle.btr_follow.proofs.follower.Follower.answer.Given.{Over}
use Rattle.btr_follow.proofs.follower.Follower.answer.Goals.{In-Some}
use Rattle.btr_follow.proofs.follower.Follower.answer.Goals as goal

-- the laws of the device
laws : (g : Over) → HasMoments g.D.Disk
laws g = record {
  only_now = λ seen d. g.met.D.Disk.only_now seen d;
  counts_now = λ seen d. g.met.D.Disk.counts_now seen d;
}

-- the frame has the next entry
its_entry : (g : Over) (c : In-Some g) (h : List Entry) → IsFollowerOf h c.args.self.now → Brings h c.args.frame.now c.in-Some.entry
its_entry g c h of = record {
  next = eqb-true c.args.frame.now.number (c.entries-entries.result + 1) (sym c.is_next.ensures ∙ c.if-not-is_next.false) ∙ ap (λ n. n + 1) (c.entries-entries.ensures.of h of);
  spelled = subst (λ (bytes : List ℕ). IsEntry bytes c.in-Some.entry) c.as_slice.ensures (rw c.in-Some.is at c.in_ok-entry.ensures.found);
}

pub returns-then-frame-entries-clause-torn : goal.returns-then-frame-entries-clause-torn
returns-then-frame-entries-clause-torn g c = λ seen h rest.
    leaves_same (laws g) seen h (engine_of c.args.self.now) (engine_of c.args.self.now) rest c.args.frame.now refl

pub returns-then-not-is_next-clause-torn : goal.returns-then-not-is_next-clause-torn
returns-then-not-is_next-clause-torn g c = λ seen h rest.
    leaves_same (laws g) seen h (engine_of c.args.self.now) (engine_of c.args.self.now) rest c.args.frame.now refl

pub returns-in_err-entry-clause-torn : goal.returns-in_err-entry-clause-torn
returns-in_err-entry-clause-torn g c = λ seen h rest.
    leaves_same (laws g) seen h (engine_of c.args.self.now) (engine_of c.args.self.now) rest c.args.frame.now refl

pub returns-in-None-clause-torn : goal.returns-in-None-clause-torn
returns-in-None-clause-torn g c = λ seen h rest.
    leaves_same (laws g) seen h (engine_of c.args.self.now) (engine_of c.args.self.now) rest c.args.frame.now refl

pub returns-in-Some-clause-heard : goal.returns-in-Some-clause-heard
returns-in-Some-clause-heard g c = λ h of.
    taking_heard h c.args.self.now _ c.args.frame.now c.in-Some.entry c.take_entry.result of (its_entry g (goal.at.returns-in-Some-clause-heard g c).In-Some h of) c.take_entry.ensures

pub returns-in-Some-clause-cause : goal.returns-in-Some-clause-cause
returns-in-Some-clause-cause g c = λ h of.
    taking_cause h c.args.self.now (record { engine = c.take_entry.new.engine; home = c.take_entry.ensures.home }) c.args.frame.now c.in-Some.entry c.take_entry.result of (its_entry g (goal.at.returns-in-Some-clause-cause g c).In-Some h of) c.take_entry.ensures

pub returns-in-Some-clause-torn : goal.returns-in-Some-clause-torn
returns-in-Some-clause-torn g c = λ seen h rest.
    leaves_taking (laws g) seen h (engine_of c.args.self.now) c.take_entry.new.engine rest c.args.frame.now c.in-Some.entry c.take_entry.result (its_entry g (goal.at.returns-in-Some-clause-torn g c).In-Some h rest.of) c.take_entry.ensures

pub returns-then-frame-entries-clause-acknowledged : goal.returns-then-frame-entries-clause-acknowledged
returns-then-frame-entries-clause-acknowledged g c = λ seen h rest. acks-at_rest (laws g) seen h c.args.self.now rest

pub returns-then-not-is_next-clause-acknowledged : goal.returns-then-not-is_next-clause-acknowledged
returns-then-not-is_next-clause-acknowledged g c = λ seen h rest. acks-at_rest (laws g) seen h c.args.self.now rest

pub returns-in-None-clause-acknowledged : goal.returns-in-None-clause-acknowledged
returns-in-None-clause-acknowledged g c = λ seen h rest. acks-at_rest (laws g) seen h c.args.self.now rest

pub returns-in-Some-clause-acknowledged : goal.returns-in-Some-clause-acknowledged
returns-in-Some-clause-acknowledged g c = λ seen h rest.
    acks-taking (laws g) seen h c.args.self.now _ c.in-Some.entry c.take_entry.result rest c.take_entry.ensures
