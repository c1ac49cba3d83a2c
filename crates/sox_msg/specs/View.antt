-- Commands without where their bytes lie in memory.
use Rattle.sox_msg.specs.declared.command.Command.{Command}
use Rattle.sox_msg.specs.declared.command.Command.TheVariants.{Add, ReadPart, Delete, Invoke, Link, Unlink, Rename}
use Rattle.sox_msg.specs.declared.command.Command.TheVariants.{Reorder, ReadSlot, Subscribe, Unsubscribe, Version}
use Rattle.sox_msg.specs.declared.command.Command.TheVariants.{Write, Clear}
use Rattle.sox_msg.specs.declared.command.Request.{Request}
use Rattle.sox_msg.specs.Command.{Asked, Asking, add, read_part, delete, invoke, link, unlink, rename, reorder}
use Rattle.sox_msg.specs.Command.{read_slot, subscribe, unsubscribe, version, write, clear}

abbrev pub asked_of : Command → Asked
asked_of (Add parent kit kind name config) = add parent.0 kit kind name.now config.now
asked_of (ReadPart id part) = read_part id.0 part
asked_of (Delete id) = delete id.0
asked_of (Invoke id slot arg) = invoke id.0 slot arg.now
asked_of (Link source from_slot target to_slot) = link source.0 from_slot target.0 to_slot
asked_of (Unlink source from_slot target to_slot) = unlink source.0 from_slot target.0 to_slot
asked_of (Rename id name) = rename id.0 name.now
asked_of (Reorder id children) = reorder id.0 children.now
asked_of (ReadSlot id slot) = read_slot id.0 slot
asked_of (Subscribe id mask) = subscribe id.0 mask
asked_of (Unsubscribe id mask) = unsubscribe id.0 mask
asked_of Version = version
asked_of (Write id slot value) = write id.0 slot value.now
asked_of (Clear id) = clear id.0

abbrev pub asking_of : Request → Asking
asking_of request = record { number = request.number; command = asked_of request.command }
