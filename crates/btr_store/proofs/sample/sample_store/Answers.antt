-- The work was done on the device, what it added is allowed, and the laws of loads and reports hold of it.
use Rattle.btr_store.specs.Sample.{Samples, SaysSomeSample}
use Rattle.btr_store.proofs.TranscriptLemmas.{still_said}
use Rattle.btr_store.specs.SampleLaw.{SamplesStore}
use Rattle.btr_store.proofs.WorkLemmas.{does_store}
use Rattle.btr_store.proofs.SampleLemmas.{samples_allowed, samples_reported}
use Rattle.btr_store.proofs.SampleLawLemmas.{samples_store}
use Rattle.btr_store.proofs.sample.sample_store.Goals as goal

pub returns-clause-plain : goal.returns-clause-plain
returns-clause-plain g c = c.close_hall.ensures.plain c.args.disk c.in_ok-hall.ensures.begun.opened

pub returns-clause-says : goal.returns-clause-says
returns-clause-says g c =
    still_said (SaysSomeSample c.args.streams) c.sample-said.result c.close_hall.result.said c.close_hall.ensures.said c.sample-said.ensures.says

pub returns-clause-done : goal.returns-clause-done
returns-clause-done g c =
    let number = c.args.number in
    let streams = c.args.streams in
    let points = c.args.points in
    let said = c.sample-said.result in
    let reported = c.close_hall.result.said in
    let begun = c.in_ok-hall.ensures.begun in
    does_store g.D.Disk (λ start log low own. Samples number streams points start log low said own) (λ start log own. SamplesStore number streams points start log reported own) c.args.disk c.close_hall.result.disk c.in_ok-hall.hall c.in_ok-hall.session c.sample-said.new.session
    (λ start log own is. samples_allowed number streams points start log start.history said own is)
    (λ start log own works legal is.
    samples_store number streams points start log own works.each_once works.follows legal reported
    (samples_reported number streams points start log start.history said reported own c.close_hall.ensures.said is))
    begun c.sample-said.ensures.does (c.close_hall.ensures.works c.args.disk begun.opened) c.close_hall.result.failed (c.close_hall.ensures.failed c.args.disk begun.opened)
