use Rattle.btr_disk.proofs.Filled.{undone_left}
use Rattle.btr_disk.proofs.call_record.CallRecord.leave.Goals as goal

pub returns-in-Kept-clause-image : goal.returns-in-Kept-clause-image
returns-in-Kept-clause-image c = undone_left c.args.self.now c.args.bytes.now c.undo.new.bytes c.undo.ensures.undone c.undo.ensures.are_bytes
