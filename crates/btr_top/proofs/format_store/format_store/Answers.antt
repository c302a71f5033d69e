-- Why the format ends so, in each arm.
use Rattle.std.proofs.Common.{Err, ap}
use Rattle.btr_top.proofs.FormatCauses.{after_fault, after_ok, after_occupied, after_too_small}
use Rattle.btr_top.proofs.format_store.format_store.Goals as goal

pub returns-in-Ok-clause-cause : goal.returns-in-Ok-clause-cause
returns-in-Ok-clause-cause g c =
    after_ok g.D.Disk c.args.blocks c.args.disk.now c.format.new.device c.in-Ok.field-0 (record {
      too_small = c.in-Ok.ensures.too_small;
      uncalled = c.in-Ok.ensures.uncalled;
      occupied = c.in-Ok.ensures.occupied;
      refused = c.in-Ok.ensures.refused;
      formatted = λ seen. (c.in-Ok.ensures.made seen).formatted;
      synced = λ seen. (c.in-Ok.ensures.made seen).synced;
    }) c.in-Ok.ensures.counts.counted.all

pub returns-in-Err-Occupied-clause-cause : goal.returns-in-Err-Occupied-clause-cause
returns-in-Err-Occupied-clause-cause g c =
    after_occupied g.D.Disk c.args.blocks c.args.disk.now c.format.new.device c.in-Err-Occupied.field-0 c.in-Err-Occupied.field-0-0 c.in-Err-Occupied.field-0-is (record {
      too_small = c.in-Err-Occupied.ensures.too_small;
      uncalled = c.in-Err-Occupied.ensures.uncalled;
      occupied = c.in-Err-Occupied.ensures.occupied;
      refused = c.in-Err-Occupied.ensures.refused;
      formatted = λ seen. (c.in-Err-Occupied.ensures.made seen).formatted;
      synced = λ seen. (c.in-Err-Occupied.ensures.made seen).synced;
    })

pub returns-in-Err-TooSmall-clause-cause : goal.returns-in-Err-TooSmall-clause-cause
returns-in-Err-TooSmall-clause-cause g c =
    after_too_small g.D.Disk c.args.blocks c.args.disk.now c.format.new.device c.in-Err-TooSmall.field-0 c.in-Err-TooSmall.asked c.in-Err-TooSmall.has c.in-Err-TooSmall.field-0-is (record {
      too_small = c.in-Err-TooSmall.ensures.too_small;
      uncalled = c.in-Err-TooSmall.ensures.uncalled;
      occupied = c.in-Err-TooSmall.ensures.occupied;
      refused = c.in-Err-TooSmall.ensures.refused;
      formatted = λ seen. (c.in-Err-TooSmall.ensures.made seen).formatted;
      synced = λ seen. (c.in-Err-TooSmall.ensures.made seen).synced;
    })

pub returns-in-Err-Fault-clause-cause : goal.returns-in-Err-Fault-clause-cause
returns-in-Err-Fault-clause-cause g c =
    after_fault g.D.Disk c.args.blocks c.args.disk.now c.format.new.device c.in-Err-Fault.field-0 c.in-Err-Fault.field-0-is (record {
      too_small = c.in-Err-Fault.ensures.too_small;
      uncalled = c.in-Err-Fault.ensures.uncalled;
      occupied = c.in-Err-Fault.ensures.occupied;
      refused = c.in-Err-Fault.ensures.refused;
      formatted = λ seen. (c.in-Err-Fault.ensures.made seen).formatted;
      synced = λ seen. (c.in-Err-Fault.ensures.made seen).synced;
    }) (c.in-Err-Fault.ensures.counts.cause.rose (ap Err c.in-Err-Fault.field-0-is))
