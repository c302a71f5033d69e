-- Where the log of an engine is: at home in the engine, or out of it.
use Rattle.std.specs.Prelude.{Bool, true, false, Option, Some, None}
use Rattle.btr_disk.specs.declared.disk.Disk.{Ghosts}
use Rattle.btr_log.specs.declared.log.Log.{Log}
use Rattle.btr_engine.specs.declared.place.Place.{Place}
use Rattle.btr_engine.specs.declared.place.Place.TheVariants.{Home, Out}

module _ {D : Type 0} {disk : Ghosts D} where
  -- The log: the one at home, or the one that is out, as it was taken.
  abbrev pub log_in : Place D disk → Log D disk
  log_in (Home log) = log
  log_in (Out taken) = taken.value

  -- Whether the log is at home.
  abbrev pub has_log : Place D disk → Bool
  has_log (Home log) = true
  has_log (Out taken) = false

  -- The log, if it is at home.
  abbrev pub log_here : Place D disk → Option (Log D disk)
  log_here (Home log) = Some log
  log_here (Out taken) = None
