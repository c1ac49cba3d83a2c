-- The rules on stores. Rule 14 is broken where what is assigned to is no place, and rule 15 at a value that does not go
-- to its place. What an assignment that computes reads is an operand, so rule 13 speaks of it too.
use Rattle.std.specs.Prelude.{ℕ, Bool, true, false, ◌&&◌, ◌||◌, if◌then◌else◌, not, Option, Some, None}
use Rattle.sed_units.specs.declared.operators.AssignOp.{AssignOp}
use Rattle.sed_units.specs.declared.operators.AssignOp.TheVariants as assign
use Rattle.sed_typed.specs.declared.kind.Kind.{Kind}
use Rattle.sed_typed.specs.declared.operators.Arithmetic.{Arithmetic}
use Rattle.sed_typed.specs.declared.operators.Arithmetic.TheVariants as arithmetic
use Rattle.sed_typed.specs.declared.operators.Gives.{Gives}
use Rattle.sed_typed.specs.declared.operators.Gives.TheVariants.{New}
use Rattle.sed_typed.specs.declared.operators.Update.{Update}
use Rattle.sed_typed.specs.declared.operators.Width.{Width}
use Rattle.sed_terms.specs.declared.judged.Judged.{Judged}
use Rattle.sed_terms.specs.declared.judged.Judged.TheVariants.{Sound, Unknown}
use Rattle.sed_terms.specs.Faults.{Marks, broken, after, joined, unless, some_or}
use Rattle.sed_terms.specs.Forms.{stored, updated}
use Rattle.sed_terms.specs.Ones.{one_in}
use Rattle.sed_terms.specs.Sorts.{sort_of, term_kind, is_place}
use Rattle.sed_terms.specs.Term.{Term}
use Rattle.sed_body_rules.specs.Conversions.{is_number, is_int, is_long, width_of, in_width, placed}
use Rattle.sed_body_rules.specs.Wants.{wants}

-- What is assigned to. A cast of a variable comes to what the variable does, but names no place, so it is said beside
-- whether the source may name one.
abbrev pub target : {F : Type 0} → Marks F → ℕ → Bool → Judged Term F → Judged Term F
target m at may x = after x (λ t. unless m (may && is_place t) (broken 14 at) t)

-- a value that goes to a place of a kind
abbrev pub going : {F : Type 0} → Marks F → (ℕ → ℕ → Bool) → Kind → ℕ → Term → Judged Term F
going m below to at t = some_or m (broken 15 at) (placed below to t)

-- `=`, with the place of the whole and that of the value
abbrev pub assigned : {F : Type 0} → Marks F → (ℕ → ℕ → Bool) → ℕ → Bool
    → ℕ → Judged Term F → Judged Term F → Judged Term F
assigned m below at may right x y =
    joined m (target m at may x) y (λ s t. after (going m below (term_kind s) right t) (λ v. Sound (stored s v)))

-- what is read, and then stored again, is a place and a number
abbrev pub is_target : {F : Type 0} → Marks F → ℕ → ℕ → Bool → Bool → Judged Bool F
is_target m at left place number =
    joined m (unless m place (broken 14 at) place) (unless m number (broken 13 left) number) (λ a b. Sound b)

-- with the place of the whole, and where it stands in the text
abbrev pub number_target : {F : Type 0} → Marks F → ℕ → Bool → ℕ → Judged Term F → Judged Term F
number_target m at may left x =
    after x (λ t. after {A = Bool} (is_target m at left (may && is_place t) (is_number (sort_of t)))
    (λ number. Sound t))

abbrev pub storing : Arithmetic → Width → Update
storing a w = record { arithmetic = a; width = w; gives = New }

abbrev pub is_shift : Arithmetic → Bool
is_shift arithmetic.ShiftLeft = true
is_shift arithmetic.ShiftRight = true
is_shift a = false

-- what is computed is a long where one of both is, and a long goes to no place of an int
abbrev pub is_no_longer : Term → Term → Bool
is_no_longer s t = is_long (sort_of s) || not (is_long (sort_of t))

-- the operand of `op=` in the width of what it is stored in
abbrev pub lengthened : {F : Type 0} → Marks F → Arithmetic → ℕ → Term → Term → Judged Term F
lengthened m a right s t = if is_no_longer s t then Sound (updated (storing a (width_of s)) s (in_width (width_of s) t))
    else Unknown (m.one (broken 15 right))

-- `op=` with a shift, whose count is an int
abbrev pub shifted : {F : Type 0} → Marks F → Arithmetic → ℕ → Bool → ℕ → Judged Term F → Judged Term F → Judged Term F
shifted m a at may right x y =
    joined m (number_target m at may at x) (wants m is_int right y)
    (λ s t. Sound (updated (storing a (width_of s)) s t))

-- and with another operator
abbrev pub computed : {F : Type 0} → Marks F → Arithmetic → ℕ → Bool → ℕ → Judged Term F → Judged Term F → Judged Term F
computed m a at may right x y =
    joined m (number_target m at may at x) (wants m is_number right y) (λ s t. lengthened m a right s t)

-- with the place of the whole and that of the operand
abbrev pub compound : {F : Type 0} → Marks F → Arithmetic → ℕ → Bool → ℕ → Judged Term F → Judged Term F → Judged Term F
compound m a at may right x y = if is_shift a then shifted m a at may right x y else computed m a at may right x y

abbrev pub arithmetic_of : AssignOp → Option Arithmetic
arithmetic_of assign.Set = None
arithmetic_of assign.Add = Some arithmetic.Add
arithmetic_of assign.Subtract = Some arithmetic.Subtract
arithmetic_of assign.Multiply = Some arithmetic.Multiply
arithmetic_of assign.Divide = Some arithmetic.Divide
arithmetic_of assign.Remainder = Some arithmetic.Remainder
arithmetic_of assign.BitAnd = Some arithmetic.BitAnd
arithmetic_of assign.BitOr = Some arithmetic.BitOr
arithmetic_of assign.BitXor = Some arithmetic.BitXor
arithmetic_of assign.ShiftLeft = Some arithmetic.ShiftLeft
arithmetic_of assign.ShiftRight = Some arithmetic.ShiftRight

-- `++` and `--`, with the place of the whole and that of the operand
abbrev pub counted : {F : Type 0} → Marks F → Arithmetic → Gives → ℕ → Bool → ℕ → Judged Term F → Judged Term F
counted m a gives at may left x =
    after (number_target m at may left x)
    (λ s. Sound (updated (record { arithmetic = a; width = width_of s; gives = gives }) s (one_in (width_of s))))
