-- Of which list the engine that a gate carries is.
use Rattle.std.specs.Prelude.{◌≡◌, true, List}
use Rattle.btr_disk.specs.declared.disk.Disk.{Ghosts}
use Rattle.btr_engine.specs.declared.engine.Engine.{Engine}
use Rattle.btr_engine.specs.Engine.{is_home}
use Rattle.btr_engine.specs.Travel.{IsLike}
use Rattle.btr_hall.specs.declared.item.Item.{Item}
use Rattle.btr_hall.specs.declared.store.Store.{Store}
use Rattle.btr_hall.specs.Trace.{engine_after, has_halt, IsTraceOf}

module _ {D : Type 0} {disk : Ghosts D} where
  -- The store is at the end of this list, in a hall that began with this engine. The engines of the list have their logs at home. That of
  -- the store is the last one of them, but its log may be out.
  pub record IsStoreOf (s : Store D disk) (l : List (Item D disk)) (x : Engine D disk) : Type 0 where
    pub opening : x ≡ s.opening.value
    pub trace : IsTraceOf x l
    pub engine : IsLike s.engine (engine_after x l)
    pub home : is_home (engine_after x l) ≡ true
    pub halted : s.halted ≡ has_halt l
