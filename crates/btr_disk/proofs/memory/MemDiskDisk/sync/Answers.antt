use Rattle.btr_disk.specs.CallRecord.{contents_of}
use Rattle.btr_disk.proofs.Recording.{counted_alone, nothing_either, sync_recorded}
use Rattle.btr_disk.proofs.memory.MemDiskDisk.sync.Goals as goal

pub returns-then-fails_now-clause-time : goal.returns-then-fails_now-clause-time
returns-then-fails_now-clause-time c =
    nothing_either c.note.result (contents_of c.args.self.now.bytes.items) c.args.self.now.made c.note.new.self c.note.ensures.recorded

pub returns-clause-time : goal.returns-clause-time
returns-clause-time c =
    sync_recorded (contents_of c.args.self.now.bytes.items) c.args.self.now.made c.note-2.new.self c.if-not-note.ensures.recorded

pub returns-then-not-note-clause-time : goal.returns-then-not-note-clause-time
returns-then-not-note-clause-time c =
    counted_alone (contents_of c.args.self.now.bytes.items) c.args.self.now.made c.note-2.new.self c.if-not-note.ensures.recorded
