use Rattle.std.proofs.Common.{subst}
use Rattle.std.specs.Prelude.{IfOk}
use Rattle.btr_super.specs.Super.{IsSuper}
use Rattle.btr_super.specs.Chosen.{ChoiceIs}
use Rattle.btr_super.proofs.ChoiceIsUnique.{chosen_exactly, none_exactly, damaged_exactly, no_fault, keeps_table}
use Rattle.btr_super.proofs.choosing.choose.Goals as goal

pub returns-clause-cause : goal.returns-clause-cause
returns-clause-cause g c = record {
  later = c.read_prefix.ensures.cause.later;
  rose = λ e. absurd (no_fault c.blocks-size.result c.read_prefix.new.prefix c.choose_in.result c.choose_in.ensures e);
}

pub returns-clause-chosen : goal.returns-clause-chosen
returns-clause-chosen g c is_observable honest =
    let d0 = c.args.device.now in
    let image = g.D.Disk.contents d0 in
    let result = c.choose_in.result in
    chosen_exactly (g.D.Disk.size d0) image result (subst (λ n. ChoiceIs n image result) c.blocks-size.ensures (c.choose_in.ensures image (c.in_ok-read_prefix.ensures.bytes is_observable)))

pub returns-clause-not_a_store : goal.returns-clause-not_a_store
returns-clause-not_a_store g c is_observable honest =
    let d0 = c.args.device.now in
    let image = g.D.Disk.contents d0 in
    let result = c.choose_in.result in
    none_exactly (g.D.Disk.size d0) image result (subst (λ n. ChoiceIs n image result) c.blocks-size.ensures (c.choose_in.ensures image (c.in_ok-read_prefix.ensures.bytes is_observable)))

pub returns-clause-damaged : goal.returns-clause-damaged
returns-clause-damaged g c is_observable honest =
    let d0 = c.args.device.now in
    let image = g.D.Disk.contents d0 in
    let result = c.choose_in.result in
    damaged_exactly (g.D.Disk.size d0) image result (subst (λ n. ChoiceIs n image result) c.blocks-size.ensures (c.choose_in.ensures image (c.in_ok-read_prefix.ensures.bytes is_observable)))

pub returns-clause-table : goal.returns-clause-table
returns-clause-table g c =
    subst (λ n. IfOk c.choose_in.result (IsSuper n)) c.blocks-size.ensures (keeps_table c.blocks-size.result c.read_prefix.new.prefix c.choose_in.result c.choose_in.ensures)
