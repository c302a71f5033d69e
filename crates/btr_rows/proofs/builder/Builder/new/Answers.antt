use Rattle.std.proofs.Common.{refl}
use Rattle.btr_rows.specs.Streams.{ids_of}
use Rattle.btr_rows.proofs.builder.Builder.new.Goals as goal

pub returns : goal.returns
unfolding ids_of
returns c = rw (c.new.ensures, c.new-2.ensures.items) refl
