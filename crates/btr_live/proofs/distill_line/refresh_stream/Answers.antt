-- What became of the output is replied.
use Rattle.std.proofs.Common.{sym, subst}
use Rattle.btr_live.specs.Serving.{RefreshAsks, ServesIn}
use Rattle.btr_live.proofs.RefreshLines.{refreshed_serves}
use Rattle.btr_live.proofs.distill_line.refresh_stream.Goals as goal

pub returns-clause-serves : goal.returns-clause-serves
returns-clause-serves g c =
    let new = c.refresh_output-refreshed.new.session in
    subst (λ r. ServesIn c.args.hall.now c.args.session.now new (RefreshAsks c.args.stream) r) (sym c.reply_of_refreshed.ensures)
    (refreshed_serves c.args.hall.now c.args.session.now new c.args.stream c.refresh_output-refreshed.result c.refresh_output-refreshed.ensures.refreshed c.refresh_output-refreshed.ensures.stopped)
