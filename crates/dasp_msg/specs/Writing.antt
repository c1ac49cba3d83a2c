-- What a call that writes into a slice does.
use Rattle.std.specs.Prelude.{◌≡◌, ℕ, ◌≤◌, ◌%◌, ◌<◌, Option, Some, None, List, [], ◌∷◌, ◌++◌, length, IsTrue, ⊤}
use Rattle.sed_wire.specs.Text.{is_text}
use Rattle.sed_wire.specs.Writing.{Puts as PutsText}
use Rattle.dasp_msg.specs.declared.field.Field.{Field}
use Rattle.dasp_msg.specs.declared.sent.Sent.{Sent}
use Rattle.dasp_msg.specs.Field.{Content, nil, number, text, run, Part, form_of}
use Rattle.dasp_msg.specs.View.{part_of}

-- what is put in front of the slice spells something
pub record Puts {A : Type 0} (Spells : A → List ℕ → Type 0) (thing : A) (count : ℕ) (old new : List ℕ) : Type 0 where
  pub text : List ℕ
  pub spelled : Spells thing text
  pub put : PutsText text count old new

abbrev pub CanBeContent : Content → Type 0
CanBeContent nil = ⊤
CanBeContent (number n) = ⊤
CanBeContent (text characters) = IsTrue (is_text characters)
CanBeContent (run bytes) = length bytes ≤ 255

-- a field whose byte says the form of what is behind it
pub record CanBeField (part : Part) : Type 0 where
  pub byte : part.byte < 256
  pub form : part.byte % 4 ≡ form_of part.content
  pub content : CanBeContent part.content

abbrev pub CanBeFields : List Part → Type 0
CanBeFields [] = ⊤
CanBeFields (part ∷ behind) = CanBeField part × CanBeFields behind

abbrev pub listed : Option Field → List Part
listed None = []
listed (Some field) = part_of field ∷ []

abbrev pub parts_of : Sent → List Part
parts_of sent = listed sent.first ++ (listed sent.second ++ listed sent.third)
