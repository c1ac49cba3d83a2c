-- Why a payload is refused.
use Rattle.std.specs.Prelude.{ℕ, List}
use Rattle.sed_value.specs.declared.refusal.Refusal.{Refusal}
use Rattle.sed_value.specs.declared.refusal.Refusal.TheVariants.{Malformed, UnknownCommand}
use Rattle.sox_msg.specs.Command.{HasUnknownLetter, IsMalformed}

-- for no other reason
abbrev pub IsRefusedFor : Refusal → List ℕ → Type 0
IsRefusedFor Malformed payload = IsMalformed payload
IsRefusedFor UnknownCommand payload = HasUnknownLetter payload
IsRefusedFor refusal payload = ⊥
