-- Entries without where their bytes lie in memory.
use Rattle.replay_log.specs.declared.event.Event.{Event}
use Rattle.replay_log.specs.declared.event.Event.TheVariants.{Datagram, Tick}
use Rattle.replay_log.specs.Entry.{Entry, datagram, tick}

abbrev pub entry_of : Event → Entry
entry_of (Datagram sender bytes) = datagram sender bytes.now
entry_of (Tick moment) = tick moment
