-- The superblock of an empty store is chosen, and its first gate is closed.
use Rattle.std.specs.Prelude.{[]}
use Rattle.std.proofs.Common.{refl, inl, arith}
use Rattle.btr_pages.specs.Pages.{no_pages}
use Rattle.btr_super.specs.Super.{first_super}
use Rattle.btr_hist.proofs.HistoryLemmas.{follows-none}
use Rattle.btr_open.proofs.laws.empty_store_holds_nothing.Goals as goal

pub returns : goal.returns
returns c = λ size blocks image is. record {
  super = first_super blocks;
  chosen = is.chosen;
  same_blocks = refl;
  bodies = [];
  extents = refl;
  leads = record { roots = []; pages = no_pages; lead = refl };
  formats = tt;
  starts = inl (refl, refl);
  sealed = λ sealed. refl;
  closed = is.no_entry;
  inside = omega (arith, is.chosen.stored.spelled.keeps.blocks_from);
  follows = follows-none;
}
