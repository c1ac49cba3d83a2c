-- The statuses of the process by their numbers.
use Rattle.std.specs.Prelude.{ℕ}
use Rattle.sedona_cli.specs.declared.refusal.Refusal.{Refusal}
use Rattle.sedona_cli.specs.declared.refusal.Refusal.TheVariants as refusal
use Rattle.sedona_cli.specs.declared.status.Status.{Status}
use Rattle.sedona_cli.specs.declared.status.Status.TheVariants.{Done, Usage, Refused, FileFault, DeviceFault}
use Rattle.sedona_cli.specs.declared.status.Status.TheVariants.{StoreRefused, NoMemory, SinkFault, RecordRefused}
use Rattle.sedona_cli.specs.declared.status.Status.TheVariants.{ImageRefused, LinkFault, InputRefused, SlotTooSmall}

abbrev pub number_of : Status → ℕ
number_of Done = 0
number_of Usage = 1
number_of Refused = 2
number_of FileFault = 3
number_of DeviceFault = 4
number_of StoreRefused = 5
number_of ImageRefused = 6
number_of NoMemory = 7
number_of SinkFault = 8
number_of RecordRefused = 9
number_of LinkFault = 10
number_of InputRefused = 11
number_of SlotTooSmall = 12

-- that of a refusal
abbrev pub status_of : Refusal → Status
status_of (refusal.FileFault file) = FileFault
status_of (refusal.Refused file why) = Refused
status_of (refusal.Rule file at rule) = Refused
status_of (refusal.MethodTooLong n) = Refused
status_of (refusal.ImageRefused at) = ImageRefused
status_of (refusal.ImageBroken method at rule) = ImageRefused
status_of (refusal.SlotTooSmall needs has) = SlotTooSmall
status_of refusal.DeviceFault = DeviceFault
status_of refusal.StoreExists = StoreRefused
status_of refusal.NoStore = StoreRefused
status_of refusal.NoApplication = StoreRefused
status_of (refusal.WrongKits kit in_file in_kits) = StoreRefused
status_of (refusal.OverLimit which) = StoreRefused
status_of refusal.BadUsers = InputRefused
status_of refusal.ShortSecret = InputRefused
status_of (refusal.BadRecord at) = RecordRefused
status_of refusal.LinkFault = LinkFault
status_of refusal.Memory = NoMemory
