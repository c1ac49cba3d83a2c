-- Faults in a text, and the least of them.
use Rattle.std.specs.Prelude.{ℕ, ◌+◌, Bool, true, false, ◌==◌, ◌&&◌, ◌||◌, nat_lt, if◌then◌else◌, List, [], ◌∷◌, ◌++◌}
use Rattle.std.specs.Prelude.{Option, Some, None}
use Rattle.sed_faults.specs.declared.fault.Fault.{Fault}

abbrev pub broken : ℕ → ℕ → Fault
broken rule at = record { at = at; rule = rule }

-- a fault of a rule at a place, exactly where the test holds
abbrev pub broken_if : Bool → ℕ → ℕ → List Fault
broken_if true rule at = broken rule at ∷ []
broken_if false rule at = []

-- what is said of each item of a row, the first of which has this number
abbrev pub said_from : {X : Type 0} → (ℕ → X → List Fault) → ℕ → List X → List Fault
said_from said n [] = []
said_from said n (x ∷ xs) = said n x ++ said_from said (n + 1) xs

-- the order of faults in a text: by place, and at a place by rule
abbrev pub is_before : Fault → Fault → Bool
is_before a b = nat_lt a.at b.at || ((a.at == b.at) && nat_lt a.rule b.rule)

-- the lesser one of two that may be there
abbrev pub lesser : Option Fault → Option Fault → Option Fault
lesser None b = b
lesser (Some a) None = Some a
lesser (Some a) (Some b) = Some (if is_before b a then b else a)

-- the least of a list
abbrev pub least : List Fault → Option Fault
least [] = None
least (f ∷ fs) = lesser (Some f) (least fs)
