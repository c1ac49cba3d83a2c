-- How many steps a machine has left at most: each goes on in a method, or back to a `turn`, or it takes a turn.
use Rattle.std.specs.Prelude.{ℕ, suc, ◌+◌, ◌*◌, ◌==◌, ◌||◌, Bool, true, false, if◌then◌else◌, List, [], ◌∷◌, length}
use Rattle.std.specs.Prelude.{map}
use Rattle.scode_image.specs.declared.image.ImageMethod.{ImageMethod}
use Rattle.scode_ops.specs.Decoding.{op_at}
use Rattle.scode_code.specs.CodeRules.{is_turn, starts}
use Rattle.scode_code.specs.Fields.{Setting}
use Rattle.scode_code.specs.Machine.{Frame, Point, At, Over}
use Rattle.scode_code.specs.Steps.{code_of, longest_of}

-- ---- in a list of places, some of which have a `turn`

-- one where a `turn` stands before
abbrev pub extra : Bool → ℕ
extra true = 1
extra false = 0

-- at a `turn` one; else the instructions from here on, and one more where a `turn` stands before
abbrev pub here_left : Bool → ℕ → Bool → ℕ
here_left seen n turn = if turn then 1 else n + extra seen

-- at the place `p` of these places, where a `turn` was seen before them or not; none where it is not among them
abbrev pub left : (ℕ → Bool) → Bool → List ℕ → ℕ → ℕ
left turn seen [] p = 0
left turn seen (q ∷ qs) p =
    if q == p then here_left seen (suc (length qs)) (turn q) else left turn (seen || turn q) qs p

-- ---- in code

abbrev pub turn_at : List ℕ → ℕ → Bool
turn_at code p = is_turn (op_at code p)

-- without a turn, at a place of code
abbrev pub left_at : List ℕ → ℕ → ℕ
left_at code p = left (turn_at code) false (starts code) p

-- ---- at a point

abbrev pub left_of : Setting → ℕ → ℕ → ℕ
left_of w method place = left_at (code_of w.image method) place

-- the instructions of the longest method
abbrev pub longest : Setting → ℕ
longest w = longest_of (map (λ (x : ImageMethod). x.code) w.image.methods)

-- in frames that wait
abbrev pub weigh : Setting → List Frame → ℕ
weigh w [] = 0
weigh w (f ∷ fs) = left_of w f.method f.place + weigh w fs

-- so many for each turn, and those of its frames
abbrev pub potential : Setting → Point → ℕ
potential w (Over c) = 0
potential w (At x) = x.shared.turns * longest w + left_of w x.top.method x.top.place + weigh w x.below
