-- One lane more has its feeds and its lines, and then come the rounds.
use Rattle.std.specs.Prelude.{◌≡◌, ◌∷◌, ◌++◌, [], length, List, Option, None, Some}
use Rattle.std.proofs.Common.{refl, ap, sym, subst, arith, length-append}
use Rattle.btr_live.specs.declared.rounds.Rounds.{Rounds}
use Rattle.btr_live.specs.declared.lane.Lane.{Lane}
use Rattle.btr_live.specs.declared.part.ScriptPart.{ScriptPart}
use Rattle.btr_live.specs.Parts.{AreLanesOf}
use Rattle.btr_live.proofs.LaneLemmas.{split-push, none_left}
use Rattle.btr_live.proofs.PartLemmas.{lanes_push, lanes_rounds}
use Rattle.btr_live.proofs.prepare.assemble.Goals as goal

pub loop-work-preserved-in-Some-next : goal.loop-work-preserved-in-Some-next
loop-work-preserved-in-Some-next g c =
    let before = c.loop-work.invariant in
    let fs : List g.row.F.Denot = before.feeds.0 in
    let f : g.row.F.Denot = c.in-Some-next.feeding in
    let work = c.in-Some.work in
    let yielded = c.loop-work.yielded in
    let lane : Lane g.row.F.Denot = record { feeding = f; work = work } in
    let rest = ap length c.in-Some.ensures.steps.0 in
    let long : length (fs ++ f ∷ []) ≡ length (yielded ++ work ∷ []) = omega (arith, before.feeds.2, length-append fs (f ∷ []), length-append yielded (work ∷ [])) in
    record {
      split = split-push yielded c.loop-work.work-iterator.rest.items c.next.new.self.rest.items c.args.works.items work before.split c.in-Some.ensures.steps.0;
      feeds = (
        fs ++ f ∷ [],
        split-push fs c.loop-work.feeds.rest.items c.next-in-loop-work.new.self.rest.items c.args.feeds.items f before.feeds.1 c.in-Some-next.ensures.items,
        long,
        subst (λ (ps : List (ScriptPart g.row.F.Denot)). AreLanesOf (fs ++ f ∷ []) (yielded ++ work ∷ []) None ps) (sym c.push_reserved.ensures.items)
            (lanes_push fs yielded c.loop-work.parts.items lane f work before.feeds.3 refl refl),
      );
      room = omega (arith, rest, before.room, c.push_reserved.ensures.len, c.push_reserved.ensures.capacity);
    }

pub returns-in-Some-rounds : goal.returns-in-Some-rounds
returns-in-Some-rounds g c =
    let before = c.loop-work.invariant in
    let fs : List g.row.F.Denot = before.feeds.0 in
    let yielded = c.loop-work.yielded in
    let parts = c.loop-work.parts.items in
    let rounds : Rounds = c.in-Some-rounds.rounds in
    let works : length c.loop-work.work-iterator.rest.items ≡ 0 = omega (arith, c.in-None.ensures.steps.0, c.loop-work.work-iterator.rest.ok.0) in
    let left : yielded ≡ c.args.works.items = none_left yielded c.loop-work.work-iterator.rest.items c.args.works.items before.split works in
    let fed : length c.loop-work.feeds.rest.items ≡ 0 =
    omega (arith, before.feeds.2, ap length left, c.requires.each, ap length before.feeds.1, length-append fs c.loop-work.feeds.rest.items) in
    let all : fs ≡ c.args.feeds.items = none_left fs c.loop-work.feeds.rest.items c.args.feeds.items before.feeds.1 fed in
    let are : AreLanesOf fs yielded (Some rounds) c.push_reserved-in-Some-rounds.new.self.items = subst (λ (ps : List (ScriptPart g.row.F.Denot)). AreLanesOf fs yielded (Some rounds) ps) (sym c.push_reserved-in-Some-rounds.ensures.items) (lanes_rounds fs yielded parts rounds before.feeds.3) in
    subst (λ (o : Option Rounds). AreLanesOf c.args.feeds.items c.args.works.items o c.push_reserved-in-Some-rounds.new.self.items) (sym c.in-Some-rounds.is)
    (subst (λ ws. AreLanesOf c.args.feeds.items ws (Some rounds) c.push_reserved-in-Some-rounds.new.self.items) left
    (subst (λ (l : List g.row.F.Denot). AreLanesOf l yielded (Some rounds) c.push_reserved-in-Some-rounds.new.self.items) all are))
