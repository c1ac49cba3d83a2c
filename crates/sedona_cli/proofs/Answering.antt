-- How a command is answered.
use Rattle.std.proofs.Common.{◌≡◌, ℕ, true, List, Option, Err, refl}
use Rattle.sedona_cli.specs.declared.refusal.Refusal.{Refusal}
use Rattle.sedona_cli.specs.declared.refusal.Refusal.TheVariants.{FileFault, ImageBroken, ImageRefused, MethodTooLong, Refused, Rule, SlotTooSmall, DeviceFault, StoreExists, NoStore, NoApplication, WrongKits, OverLimit, BadUsers, ShortSecret, BadRecord, LinkFault, Memory}
use Rattle.sedona_words.specs.Command.{Command}
use Rattle.sedona_cli.specs.Lines.{line_of, memory_line}
use Rattle.sedona_cli.specs.Outside.{Ask}
use Rattle.sedona_cli.specs.Refusals.{is_worded}
use Rattle.sedona_cli.specs.Status.{number_of, status_of}
use Rattle.sedona_cli.specs.Puts.{Puts}
use Rattle.sedona_cli.specs.Program.{ComesOrWants, IsAnswer, refused, wanted}
use Rattle.sedona_cli.proofs.Comings.{spares_early}

-- ---- a refusal

pub is_refused : (command : Command) (asks : List Ask) (before after : Option (List ℕ)) (fb fa : ℕ) (refusal : Refusal)
    → Puts before after fb fa (line_of refusal) → ComesOrWants command asks (Err refusal)
    → IsAnswer command asks before after fb fa (number_of (status_of refusal))
is_refused command asks before after fb fa (FileFault file) puts came = refused (FileFault file) came refl puts
is_refused command asks before after fb fa (Refused file why) puts came = refused (Refused file why) came refl puts
is_refused command asks before after fb fa (Rule file at rule) puts came = refused (Rule file at rule) came refl puts
is_refused command asks before after fb fa (MethodTooLong n) puts came = refused (MethodTooLong n) came refl puts
is_refused command asks before after fb fa (ImageRefused at) puts came = refused (ImageRefused at) came refl puts
is_refused command asks before after fb fa (ImageBroken method at rule) puts came = refused (ImageBroken method at rule) came refl puts
is_refused command asks before after fb fa (SlotTooSmall needs has) puts came = refused (SlotTooSmall needs has) came refl puts
is_refused command asks before after fb fa DeviceFault puts came = refused DeviceFault came refl puts
is_refused command asks before after fb fa StoreExists puts came = refused StoreExists came refl puts
is_refused command asks before after fb fa NoStore puts came = refused NoStore came refl puts
is_refused command asks before after fb fa NoApplication puts came = refused NoApplication came refl puts
is_refused command asks before after fb fa (WrongKits kit in_file in_kits) puts came = refused (WrongKits kit in_file in_kits) came refl puts
is_refused command asks before after fb fa (OverLimit which) puts came = refused (OverLimit which) came refl puts
is_refused command asks before after fb fa BadUsers puts came = refused BadUsers came refl puts
is_refused command asks before after fb fa ShortSecret puts came = refused ShortSecret came refl puts
is_refused command asks before after fb fa (BadRecord at) puts came = refused (BadRecord at) came refl puts
is_refused command asks before after fb fa LinkFault puts came = refused LinkFault came refl puts
is_refused command asks before after fb fa Memory puts came = wanted came refl puts

-- memory was wanted for its line
pub is_wanted : (command : Command) (asks : List Ask) (before after : Option (List ℕ)) (fb fa : ℕ) (refusal : Refusal) → is_worded refusal ≡ true
    → Puts before after fb fa memory_line → ComesOrWants command asks (Err refusal) → IsAnswer command asks before after fb fa 7
is_wanted command asks before after fb fa (FileFault file) worded puts came = wanted (spares_early command asks (FileFault file) refl came) refl puts
is_wanted command asks before after fb fa (Refused file why) worded puts came = wanted (spares_early command asks (Refused file why) refl came) refl puts
is_wanted command asks before after fb fa (Rule file at rule) worded puts came = wanted (spares_early command asks (Rule file at rule) refl came) refl puts
is_wanted command asks before after fb fa (MethodTooLong n) worded puts came = wanted (spares_early command asks (MethodTooLong n) refl came) refl puts
is_wanted command asks before after fb fa (ImageRefused at) worded puts came = wanted (spares_early command asks (ImageRefused at) refl came) refl puts
is_wanted command asks before after fb fa (ImageBroken method at rule) worded puts came = wanted (spares_early command asks (ImageBroken method at rule) refl came) refl puts
is_wanted command asks before after fb fa (SlotTooSmall needs has) worded puts came = wanted (spares_early command asks (SlotTooSmall needs has) refl came) refl puts
is_wanted command asks before after fb fa (WrongKits kit in_file in_kits) worded puts came = wanted (spares_early command asks (WrongKits kit in_file in_kits) refl came) refl puts
is_wanted command asks before after fb fa (OverLimit which) worded puts came = wanted (spares_early command asks (OverLimit which) refl came) refl puts
is_wanted command asks before after fb fa (BadRecord at) worded puts came = wanted (spares_early command asks (BadRecord at) refl came) refl puts
is_wanted command asks before after fb fa BadUsers worded puts came = absurd (cc)
is_wanted command asks before after fb fa ShortSecret worded puts came = absurd (cc)
is_wanted command asks before after fb fa DeviceFault worded puts came = absurd (cc)
is_wanted command asks before after fb fa LinkFault worded puts came = absurd (cc)
is_wanted command asks before after fb fa StoreExists worded puts came = absurd (cc)
is_wanted command asks before after fb fa NoStore worded puts came = absurd (cc)
is_wanted command asks before after fb fa NoApplication worded puts came = absurd (cc)
is_wanted command asks before after fb fa Memory worded puts came = absurd (cc)
