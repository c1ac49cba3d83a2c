-- How high the tree of a term is, where no head of a chain is a chain: a run of links is one level, and a row of items
-- none.
use Rattle.std.specs.Prelude.{ℕ, ◌+◌, max, Bool, true, false, if◌then◌else◌}
use Rattle.sed_terms.specs.declared.sign.Sign.{Sign}
use Rattle.sed_terms.specs.declared.sign.Sign.TheVariants as sign
use Rattle.sed_terms.specs.Term.{Term, Absent, Node}

-- what follows an operand
abbrev pub is_link : Sign → Bool
is_link (sign.Binary op) = true
is_link sign.And = true
is_link sign.Or = true
is_link (sign.Field p i) = true
is_link (sign.Part k i) = true
is_link (sign.Element p n i) = true
is_link (sign.Size i) = true
is_link (sign.Byte i) = true
is_link (sign.Invoke k m) = true
is_link (sign.TextCall op) = true
is_link sign.After = true
is_link (sign.Array p n i) = true
is_link (sign.Buf i) = true
is_link (sign.Bytes i) = true
is_link s = false

-- items beside one another
abbrev pub is_row : Sign → Bool
is_row sign.More = true
is_row sign.Pair = true
is_row (sign.Label l) = true
is_row s = false

-- the level that a node makes, by itself and in a run of links
abbrev pub own_level : Sign → ℕ
own_level s = if is_row s then 0 else 1

abbrev pub run_level : Sign → ℕ
run_level s = if is_link s then 0 else own_level s

abbrev mutual
  pub term_height : Term → ℕ
  term_height Absent = 0
  term_height (Node s a b) = own_level s + max (if is_link s then run_height a else term_height a) (term_height b)

  -- in a run of links, which its first operand begins
  pub run_height : Term → ℕ
  run_height Absent = 0
  run_height (Node s a b) = run_level s + max (if is_link s then run_height a else term_height a) (term_height b)
