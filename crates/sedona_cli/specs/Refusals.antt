-- Why a command is refused.
use Rattle.std.specs.Prelude.{ℕ, Bool, true, false, List, [], ◌∷◌}
use Rattle.app_file.specs.declared.refusal.AppRefusal.{AppRefusal}
use Rattle.app_file.specs.declared.refusal.AppRefusal.TheVariants as app
use Rattle.input_files.specs.declared.refusal.InputRefusal.{InputRefusal}
use Rattle.input_files.specs.declared.refusal.InputRefusal.TheVariants as inputs
use Rattle.sed_outside.specs.declared.files.FileFault.{FileFault as FileFailure}
use Rattle.sed_outside.specs.declared.files.FileFault.TheVariants.{Failed, Memory as NoMemory}
use Rattle.sed_check.specs.declared.refusal.KitsRefusal.{KitsRefusal}
use Rattle.sed_check.specs.declared.refusal.KitsRefusal.TheVariants as kits
use Rattle.sedona_cli.specs.declared.refusal.Refusal.{Refusal}
use Rattle.sedona_cli.specs.declared.refusal.Refusal.TheVariants.{FileFault, Refused, Rule, SlotTooSmall, DeviceFault}
use Rattle.sedona_cli.specs.declared.refusal.Refusal.TheVariants.{StoreExists, NoStore, NoApplication, WrongKits}
use Rattle.sedona_cli.specs.declared.refusal.Refusal.TheVariants.{OverLimit, BadUsers, ShortSecret, BadRecord}
use Rattle.sedona_cli.specs.declared.refusal.Refusal.TheVariants.{ImageBroken, ImageRefused, LinkFault, Memory}
use Rattle.sedona_cli.specs.declared.refusal.Refusal.TheVariants.{MethodTooLong}
use Rattle.scode_compile.specs.declared.refusal.CompileRefusal.{CompileRefusal}
use Rattle.scode_compile.specs.declared.refusal.CompileRefusal.TheVariants as compiled

-- it is want of memory
abbrev pub is_want : Refusal → Bool
is_want (FileFault file) = false
is_want (Refused file why) = false
is_want (Rule file at rule) = false
is_want (MethodTooLong n) = false
is_want (ImageRefused at) = false
is_want (ImageBroken method at rule) = false
is_want (SlotTooSmall needs has) = false
is_want DeviceFault = false
is_want StoreExists = false
is_want NoStore = false
is_want NoApplication = false
is_want (WrongKits kit in_file in_kits) = false
is_want (OverLimit which) = false
is_want BadUsers = false
is_want ShortSecret = false
is_want (BadRecord at) = false
is_want LinkFault = false
is_want Memory = true

-- the refusal that ends the loading of kits, as one of a command
abbrev pub of_kits : KitsRefusal → Refusal
of_kits (kits.FileFault file) = FileFault file
of_kits (kits.Refused file why) = Refused file why
of_kits (kits.Rule file at rule) = Rule file at rule
of_kits kits.Memory = Memory

-- why a program is not compiled, as a refusal of a command
abbrev pub of_compiling : CompileRefusal → Refusal
of_compiling (compiled.MethodTooLong n) = MethodTooLong n
of_compiling compiled.Memory = Memory

-- why no application is read, as a refusal of a command
abbrev pub of_app : AppRefusal → Refusal
of_app (app.NotAnApp at) = NoApplication
of_app (app.WrongKits kit in_file in_kits) = WrongKits kit in_file in_kits
of_app (app.OverLimit which) = OverLimit which
of_app app.Memory = Memory

-- why a file of users, of a secret, of a record or of an image is refused, as a refusal of a command
abbrev pub of_inputs : InputRefusal → Refusal
of_inputs (inputs.FileFault file) = FileFault file
of_inputs inputs.BadUsers = BadUsers
of_inputs inputs.ShortSecret = ShortSecret
of_inputs (inputs.BadRecord at) = BadRecord at
of_inputs (inputs.BadImage at) = ImageRefused at
of_inputs (inputs.BrokenRule method at rule) = ImageBroken method at rule
of_inputs inputs.Memory = Memory

-- why the file of a name could not be written
abbrev pub of_write : List ℕ → FileFailure → Refusal
of_write file Failed = FileFault file
of_write file NoMemory = Memory

-- the names of the reads, or of the write, that failed
abbrev pub failed_of : Refusal → List (List ℕ)
failed_of (FileFault file) = file ∷ []
failed_of (Refused file why) = []
failed_of (Rule file at rule) = []
failed_of (MethodTooLong n) = []
failed_of (ImageRefused at) = []
failed_of (ImageBroken method at rule) = []
failed_of (SlotTooSmall needs has) = []
failed_of DeviceFault = []
failed_of StoreExists = []
failed_of NoStore = []
failed_of NoApplication = []
failed_of (WrongKits kit in_file in_kits) = []
failed_of (OverLimit which) = []
failed_of BadUsers = []
failed_of ShortSecret = []
failed_of (BadRecord at) = []
failed_of LinkFault = []
failed_of Memory = []

-- it is one that the disk, what stands on it or the link tells, and so one before which the store was come to
abbrev pub is_of_store : Refusal → Bool
is_of_store (FileFault file) = false
is_of_store (Refused file why) = false
is_of_store (Rule file at rule) = false
is_of_store (MethodTooLong n) = false
is_of_store (ImageRefused at) = false
is_of_store (ImageBroken method at rule) = false
is_of_store (SlotTooSmall needs has) = false
is_of_store DeviceFault = true
is_of_store StoreExists = true
is_of_store NoStore = true
is_of_store NoApplication = true
is_of_store (WrongKits kit in_file in_kits) = true
is_of_store (OverLimit which) = true
is_of_store BadUsers = false
is_of_store ShortSecret = false
is_of_store (BadRecord at) = false
is_of_store LinkFault = true
is_of_store Memory = false

-- its line is of words that take memory
abbrev pub is_worded : Refusal → Bool
is_worded (FileFault file) = true
is_worded (Refused file why) = true
is_worded (Rule file at rule) = true
is_worded (MethodTooLong n) = true
is_worded (ImageRefused at) = true
is_worded (ImageBroken method at rule) = true
is_worded (SlotTooSmall needs has) = true
is_worded DeviceFault = false
is_worded StoreExists = false
is_worded NoStore = false
is_worded NoApplication = false
is_worded (WrongKits kit in_file in_kits) = true
is_worded (OverLimit which) = true
is_worded BadUsers = false
is_worded ShortSecret = false
is_worded (BadRecord at) = true
is_worded LinkFault = false
is_worded Memory = false
