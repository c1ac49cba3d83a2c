-- What verifying an image gives.
use Rattle.std.specs.Prelude.{◌≡◌, Result, Ok, Err}
use Rattle.scode_image.specs.declared.image.Image.{Image}
use Rattle.scode_code.specs.Breaks.{BreaksNone, IsFirstBroken}
use Rattle.scode_verify.specs.declared.verified.VerifyRefusal.{VerifyRefusal}
use Rattle.scode_verify.specs.declared.verified.VerifyRefusal.TheVariants as refusal

-- the image itself where it breaks no rule, and else the first rule that it breaks; nothing is said where memory is
-- wanted
abbrev pub IsOutcome : Image → Result Image VerifyRefusal → Type 0
IsOutcome image (Ok verified) = (verified ≡ image) × BreaksNone image
IsOutcome image (Err (refusal.Fault method at rule)) =
    IsFirstBroken image (record { method = method; at = at; rule = rule })
IsOutcome image (Err refusal.Memory) = Unit {0}
