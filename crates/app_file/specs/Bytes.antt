-- Commands as they come in a message: the values that they give are bytes.
use Rattle.std.specs.Prelude.{IsTrue}
use Rattle.sed_value.specs.Value.{are_bytes}
use Rattle.comp_tree.specs.Edit.{Add, Clear, Command, Connect, Delete, Disconnect, Invoke, ReadPart, ReadSlot, Rename}
use Rattle.comp_tree.specs.Edit.{Reorder, Subscribe, Unsubscribe, Version, Write}

-- what an add and a write give is told byte by byte; no other command gives values that are stored
abbrev pub GivesBytes : Command → Type 0
GivesBytes (Add parent kit number name config) = IsTrue (are_bytes config)
GivesBytes (Write id slot value) = IsTrue (are_bytes value)
GivesBytes (ReadPart id letter) = Unit {0}
GivesBytes (Delete id) = Unit {0}
GivesBytes (Invoke id slot argument) = Unit {0}
GivesBytes (Connect link) = Unit {0}
GivesBytes (Disconnect link) = Unit {0}
GivesBytes (Rename id name) = Unit {0}
GivesBytes (Reorder id children) = Unit {0}
GivesBytes (ReadSlot id slot) = Unit {0}
GivesBytes (Subscribe id) = Unit {0}
GivesBytes (Unsubscribe id) = Unit {0}
GivesBytes Version = Unit {0}
GivesBytes (Clear id) = Unit {0}
