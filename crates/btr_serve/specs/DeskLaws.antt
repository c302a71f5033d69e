-- The laws of a desk at a store that is later than another, which the ghost members of the desk cite.
use Rattle.std.specs.Prelude.{[], ◌++◌}
use Rattle.std.proofs.Common.{refl, ◌∙◌}
use Rattle.btr_disk.specs.declared.disk.Disk.{Ghosts}
use Rattle.btr_jobs.proofs.DoesLemmas.{goes_none as session_stays, goes_then as session_later}
use Rattle.btr_serve.specs.declared.store_desk.StoreDesk.{StoreDesk}
use Rattle.btr_serve.specs.Desk.{GoesOn}

module _ {D : Type 0} {disk : Ghosts D} where
  -- A desk to which nothing was done.
  pub goes_none : (desk : StoreDesk D disk) → GoesOn desk desk
  goes_none desk = record { same_hall = refl; same_batch = refl; own = []; goes = session_stays desk.session }

  -- A desk that is later than one that is later.
  pub goes_then : (old mid new : StoreDesk D disk) → GoesOn old mid → GoesOn mid new → GoesOn old new
  goes_then old mid new first second = record {
    same_hall = second.same_hall ∙ first.same_hall;
    same_batch = second.same_batch ∙ first.same_batch;
    own = first.own ++ second.own;
    goes = session_later old.session mid.session new.session first.own second.own first.goes second.goes;
  }
