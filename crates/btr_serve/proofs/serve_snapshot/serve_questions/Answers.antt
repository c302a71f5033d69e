-- The talk was at the desk of a snapshot of the engine that was opened, whose device is handed back.
use Rattle.std.proofs.Common.{refl}
use Rattle.btr_store.specs.declared.status.Status.TheVariants.{Done}
use Rattle.btr_serve.specs.declared.question_desk.QuestionDesk.{QuestionDesk}
use Rattle.btr_serve.proofs.QuestionLemmas.{asks_held}
use Rattle.btr_serve.proofs.serve_snapshot.serve_questions.Goals as goal

pub returns-clause-serves : goal.returns-clause-serves
returns-clause-serves g c =
    let begun : QuestionDesk = record { alloc = c.args.system.alloc; snapshot = c.in_ok-engine.snapshot; status = Done } in record {
      begun = begun;
      now = c.talk-end.new.desk;
      nothing = refl;
      moments = c.talk-end.result.moments.items;
      talks = c.talk-end.ensures.talks;
      same_status = refl;
      sound = c.in_ok-engine.ensures.opened.sound;
      held = asks_held g.D.Disk begun c.args.disk c.into_parts-disk.result.0 c.in_ok-engine.engine c.in_ok-engine.ensures.opened
          c.into_parts-disk.ensures.disk c.in_ok-engine.ensures.snapshot;
    }
