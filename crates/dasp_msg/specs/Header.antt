-- The five bytes in front of the fields.
use Rattle.std.specs.Prelude.{◌≡◌, ℕ, ◌+◌, ◌*◌, ◌<◌, List, [], ◌∷◌, ◌++◌}
use Rattle.sed_wire.specs.Number.{SpellsNumber}
use Rattle.dasp_msg.specs.declared.header.Header.{Header}
use Rattle.dasp_msg.specs.Kind.{number_of_kind}

-- the number of the kind in the high four bits, and how many fields there are in the low four
abbrev pub kind_and_count : Header → ℕ
kind_and_count header = 16 * number_of_kind header.kind + header.count

pub record SpellsHeader (header : Header) (bytes : List ℕ) : Type 0 where
  pub to : List ℕ
  pub sequence : List ℕ
  pub to_spelled : SpellsNumber 2 header.to to
  pub sequence_spelled : SpellsNumber 2 header.sequence sequence
  pub few : header.count < 16
  pub whole : bytes ≡ to ++ (sequence ++ kind_and_count header ∷ [])
