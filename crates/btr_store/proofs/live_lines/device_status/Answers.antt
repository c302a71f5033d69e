-- The engine is stopped if the device failed.
use Rattle.std.proofs.Common.{◌∙◌, sym, ap, length}
use Rattle.btr_hall.specs.Trace.{history_of}
use Rattle.btr_hall.specs.Session.{opening_of, seen_of}
use Rattle.btr_jobs.proofs.StateLemmas.{log_at}
use Rattle.btr_store.specs.Live.{log_status}
use Rattle.btr_store.proofs.LiveLineLemmas.{failure_is, success_is}
use Rattle.btr_store.proofs.live_lines.device_status.Goals as goal

pub returns-in-Some-clause-status : goal.returns-in-Some-clause-status
returns-in-Some-clause-status g c = λ h of.
    let seen = seen_of c.stopped.new.self in
    failure_is h (opening_of c.args.hall.now) seen (length (history_of h seen)) c.in-Some.field-0 c.requires.runs (sym c.in-Some.is ∙ c.stopped.ensures.entries h of)
    ∙ ap (λ l. log_status (log_at h l)) (c.stopped.ensures.looks.alone c.requires.alone)

pub returns-in-None-clause-status : goal.returns-in-None-clause-status
returns-in-None-clause-status g c = λ h of.
    let seen = seen_of c.stopped.new.self in
    success_is h (opening_of c.args.hall.now) seen (length (history_of h seen)) c.requires.runs (sym c.in-None.is ∙ c.stopped.ensures.entries h of)
    ∙ ap (λ l. log_status (log_at h l)) (c.stopped.ensures.looks.alone c.requires.alone)
