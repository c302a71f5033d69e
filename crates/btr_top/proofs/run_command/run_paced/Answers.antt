-- What the command did and what was shown of it make the run. If nothing fails, the run comes to its end. It says that the device failed
-- only if it did.
use Rattle.std.specs.Prelude.{map, string_bytes}
use Rattle.btr_words.specs.Words.{command_of}
use Rattle.btr_top.proofs.FaultCauses.{fault_shown}
use Rattle.btr_top.proofs.FormatCompletes.{formats_shown}
use Rattle.btr_top.proofs.PlainStatuses.{benign_shown}
use Rattle.btr_top.proofs.RunCompletes.{plain_run}
use Rattle.btr_top.proofs.SinkFaults.{format_at_end, rose_after, rose_before}
use Rattle.btr_top.proofs.UnsoundKept.{refused_shown}
use Rattle.btr_top.proofs.run_command.run_paced.Goals as goal

pub returns : goal.returns
returns g c =
    let source = g.S.Source in
    let sink = g.K.Sink in
    let disk = g.D.Disk in
    let command = command_of (map string_bytes c.args.words.now) in
    let given = c.args.source.now in
    let rest = c.dispatch-ending.new.source in
    let before = c.args.sink.now in
    let sent = c.dispatch-ending.new.sink in
    let after = c.show-status.new.sink in
    let old = c.args.disk in
    let new = c.dispatch-ending.result.disk in
    let course = c.dispatch-ending.new.course in
    let e = c.dispatch-ending.result.ending in
    let status = c.show-status.result in
    let did = c.dispatch-ending.ensures in
    let shown = c.show-status.ensures in record {
      runs = record {
        size = did.size;
        input = did.input;
        ends = record { ending = e; sent = sent; cause = did.cause; at_end = did.at_end; shown = shown };
        faulted = fault_shown source sink disk given rest before sent old new course after command e status did.cause shown;
        format_leaves = did.format_leaves;
        formats = λ reported blocks is can works. formats_shown source sink disk given rest before sent after old new course command blocks is reported can works e status (did.at_end (format_at_end command blocks is)) did.cause shown;
        completes = λ source_reported reported can works.
            benign_shown sink sent after (λ rose. works.others.sink_works (rose_after sink before sent after did.later rose)) e status
            (plain_run source sink disk given rest before sent old new course c.held_is_sound.ensures c.one_history_is_held.ensures source_reported reported works.source_works (λ rose. works.others.sink_works (rose_before sink before sent after e status shown rose)) works.others.device_works command can e did.cause)
            shown;
        unsound = λ reported opens unsound.
            refused_shown disk (g.met.D.Disk g.world.𝓛 g.world.𝓜 g.world.𝓡 ((λ s x. x), (λ x. x), (λ x. x), λ x. x)).only_now old new reported unsound source sink given rest before sent course after command e status opens did.cause shown;
        kept = did.kept;
      };
    }
