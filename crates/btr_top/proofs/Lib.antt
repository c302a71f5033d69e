-- what a device holds
mod OneStore
-- why a format ends so
mod FormatCauses
-- why a checkpoint ends so
mod CheckpointCauses
-- why a command ends so
mod LineLists
mod AskedLines
mod ColdReplies
mod ColdCauses
mod ShipCauses
mod HeardLemmas
mod HeardCauses
mod SinkFaults
mod UnsoundKept
mod WorkCauses
mod ServeCauses
mod FaultCauses
-- if nothing fails
mod BenignStatuses
mod ServiceLemmas
mod LineTurns
mod LineEntries
mod WaitingPlaces
mod LaneServes
mod RoundServes
mod PlaceLemmas
mod HistoriesFit
mod PartyServes
mod RunFits
mod Gifts
mod BookPlaces
mod BatchServes
mod OfferLines
mod SharedLaneServes
mod SharedFits
mod ScriptFits
mod PlainStatuses
mod StoreCompletes
mod LiveCompletes
mod WorkCompletes
mod AskCompletes
mod ColdCompletes
mod FormatCompletes
mod CheckpointCompletes
mod CheckCompletes
mod HearCompletes
mod ServeCompletes
mod RunCompletes
