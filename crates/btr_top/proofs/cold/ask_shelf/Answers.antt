-- What was answered from the nodes was answered from the device.
use Rattle.std.proofs.Common.{◌∙◌, sym, inl, inr}
use Rattle.btr_top.proofs.ColdCauses.{nodes_read, nodes_replied}
use Rattle.btr_top.proofs.cold.ask_shelf.Goals as goal
use Rattle.btr_top.proofs.cold.ask_shelf.Goals.{in-Ok, in-Err}

pub returns-clause-reads : goal.returns-clause-reads
returns-clause-reads g c =
    nodes_read g.D.Disk c.args.disk c.reply_to_each-answered.new.nodes.start.value c.into_disk-disk.result (c.reply_to_each-answered.ensures.same ∙ c.new-nodes.ensures.start) c.into_disk-disk.ensures.counts c.into_disk-disk.ensures.nothing

pub returns-clause-cause : goal.returns-clause-cause
returns-clause-cause g c =
    elim c.match-answered.branch [
      | in-Ok w ↦ inl (
        w.in-Ok.transcript,
        w.ending-is,
        nodes_replied g.D.Disk c.args.shelf.now c.args.lines.items w.in-Ok.transcript c.args.disk c.new-nodes.result.start.value c.new-nodes.result.disk c.reply_to_each-answered.new.nodes.disk c.into_disk-disk.result c.new-nodes.ensures.start c.new-nodes.ensures.disk c.into_disk-disk.ensures.disk w.in-Ok.ensures.replied,
      )
      | in-Err w ↦ inr w.ending-is
    ]
