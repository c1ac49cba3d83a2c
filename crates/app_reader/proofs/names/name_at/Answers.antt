use Rattle.std.proofs.Common.{ℕ, ◌≤◌, IsTrue, List, length, sym, subst, arith}
use Rattle.std.specs.Prelude.{nat_le}
use Rattle.std.proofs.lemmas.Bool.Decides.{nat_tests}
use Rattle.sed_value.specs.Characters.{is_letter, is_word_byte}
use Rattle.sed_value.specs.Names.{is_first_then, is_name}
use Rattle.sed_value.proofs.Truths.{and_right}
use Rattle.app_reader.proofs.names.name_at.Goals as goal

is_short : (name : List ℕ) → IsTrue (is_name name) → length name ≤ 31
is_short name is = let short = and_right (is_first_then is_letter is_word_byte name) (nat_le (length name) 31) is in grind (arith, nat_tests)

pub new-requires : goal.new-requires
new-requires c = (
  omega arith,
  subst (λ (name : List ℕ). length name ≤ 31) (sym c.as_bytes.ensures.same) (is_short c.in-Some.row.now.name c.as_bytes.ensures.form),
)
