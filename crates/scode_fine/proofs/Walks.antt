-- Walks along code and its marks: instructions one behind the other, each with the kinds declared for the stack before
-- it, and marks where they are entered. What one comes to, another goes on from.
use Rattle.std.proofs.Common.{◌≡◌, ◌<◌, ◌≤◌, ◌⊎◌, ℕ, ◌+◌, ◌&&◌, Bool, true, false, List, [], ◌∷◌, ◌++◌, length, Option, Some, None, refl, subst, arith}
use Rattle.scode_image.specs.declared.image.Image.{Image}
use Rattle.scode_image.specs.declared.image.ImageKind.{ImageKind}
use Rattle.scode_image.specs.declared.image.ImageMethod.{ImageMethod}
use Rattle.scode_code.specs.CodeRules.{after, field_missing, is_end, jumps_to, locals_after, number_missing, result_differs}
use Rattle.scode_code.specs.Kinds.{Shape, all_go}
use Rattle.scode_code.specs.Wants.{meets, needs}
use Rattle.scode_code.specs.declared.needs.Need.{Need}
use Rattle.scode_ops.specs.declared.op.Op.{Op}
use Rattle.scode_ops.specs.declared.op.Op.TheVariants as op
use Rattle.scode_ops.specs.Decoding.{size_of}
use Rattle.scode_emit.proofs.Counts.{count}
use Rattle.scode_entries.specs.declared.marks.Mark.{Mark}

-- the kinds on a stack, the top first
abbrev pub Stack : Type 0
Stack = List ImageKind

-- A method of an image whose code is walked along, what is told of stacks at places that jumps lead to, and the places
-- of its turns.
pub record Ground : Type 1 where
  pub image : Image
  pub m : ImageMethod
  pub Told : ℕ → Stack → Type 0
  pub Turned : ℕ → Type 0

-- ---- one instruction

-- the kinds declared for all locals, and these on the stack
abbrev pub here : Ground → Stack → Shape
here g stack = record { locals = g.m.locals; stack = stack }

abbrev pub left_by : Ground → Stack → Op → Stack
left_by g stack i = (after g.image (here g stack) i).stack

-- each need is met by the cell in its place
abbrev pub has_all : Image → List Need → Stack → Bool
has_all image [] ks = true
has_all image (n ∷ ns) [] = false
has_all image (n ∷ ns) (k ∷ ks) = meets image n k && has_all image ns ks

-- what it needs is there
pub record Fits (g : Ground) (stack : Stack) (i : Op) : Type 0 where
  pub numbers : number_missing g.image g.m i ≡ false
  pub cells : has_all g.image (needs g.image (here g stack) i) stack ≡ true
  pub fields : field_missing g.image stack i ≡ false
  pub result : result_differs g.image g.m (here g stack) i ≡ false
  pub locals : all_go g.image (locals_after (here g stack) i) g.m.locals ≡ true
  pub low : length stack ≤ g.m.stack
  pub left_low : length (left_by g stack i) ≤ g.m.stack

-- where it may jump to, what it leaves is told there; it goes forward, or to a turn
abbrev pub JumpsTo : Ground → ℕ → Stack → Option ℕ → Type 0
JumpsTo g at stack None = Unit {0}
JumpsTo g at stack (Some to) = g.Told to stack × ((at < to) ⊎ g.Turned to)

-- what it leaves goes to what is declared behind it, if the code goes on there
abbrev pub GoesOn : Ground → Bool → Stack → Option Stack → Type 0
GoesOn g true stack None = Unit {0}
GoesOn g true stack (Some next) = ⊥
GoesOn g false stack None = ⊥
GoesOn g false stack (Some next) = all_go g.image stack next ≡ true

pub record Steps (g : Ground) (at : ℕ) (stack : Stack) (i : Op) (next : Option Stack) : Type 0 where
  pub fits : Fits g stack i
  pub jumps : JumpsTo g at (left_by g stack i) (jumps_to i)
  pub goes_on : GoesOn g (is_end i) (left_by g stack i) next

-- ---- instructions one behind the other

-- where code is entered with a stack, nothing comes from before, or the same
abbrev pub Joins : Option Stack → Stack → Type 0
Joins None stack = Unit {0}
Joins (Some now) stack = now ≡ stack

pub data Walks (g : Ground) : ℕ → Option Stack → List Op → List Mark → List ℕ → Option Stack → Type 0 where
  Stops : {at : ℕ} {now : Option Stack} → Walks g at now [] [] [] now
  Enters : {at : ℕ} {now : Option Stack} {ops : List Op} {ms : List Mark} {ts : List ℕ} {last : Option Stack} (k : Mark) →
      k.place ≡ at → Joins now k.stack → Walks g at (Some k.stack) ops ms ts last → Walks g at now ops (k ∷ ms) ts last
  Runs : {at : ℕ} {stack : Stack} {i : Op} {next : Option Stack} {to : ℕ} {ops : List Op} {ms : List Mark} {ts : List ℕ} {last : Option Stack} →
      Steps g at stack i next → to ≡ at + size_of i → Walks g to next ops ms ts last →
      Walks g at (Some stack) (i ∷ ops) ms ts last
  Turns : {at : ℕ} {stack : Stack} {next : Option Stack} {to : ℕ} {ops : List Op} {ms : List Mark} {ts : List ℕ} {last : Option Stack} →
      Steps g at stack op.Turn next → to ≡ at + 1 → Walks g to next ops ms ts last →
      Walks g at (Some stack) (op.Turn ∷ ops) ms (at ∷ ts) last

pub moved : {g : Ground} {p q : ℕ} {now last : Option Stack} {ops : List Op} {ms : List Mark} {ts : List ℕ} → p ≡ q →
    Walks g p now ops ms ts last → Walks g q now ops ms ts last
moved {g} {p} {q} {now} {last} {ops} {ms} {ts} e w = subst (λ (n : ℕ). Walks g n now ops ms ts last) e w

-- one behind the other
pub both : {g : Ground} {at next : ℕ} {now mid last : Option Stack} {xs ys : List Op} {ms ns : List Mark} {ts us : List ℕ} →
    Walks g at now xs ms ts mid → next ≡ at + count xs → Walks g next mid ys ns us last →
    Walks g at now (xs ++ ys) (ms ++ ns) (ts ++ us) last
both {at = at} {next = next} Stops e w = let f : next ≡ at = omega (arith, e) in moved f w
both (Enters k p j rest) e w = Enters k p j (both rest e w)
both {at = at} {next = next} (Runs {i = i} {to = to} {ops = ops} s step rest) e w =
    let f : next ≡ to + count ops = omega (arith, e, step) in Runs s step (both rest f w)
both {at = at} {next = next} (Turns {to = to} {ops = ops} s step rest) e w =
    let f : next ≡ to + count ops = omega (arith, e, step) in Turns s step (both rest f w)

-- what stands behind has no marks
pub onto : {g : Ground} {at next : ℕ} {now mid last : Option Stack} {xs ys : List Op} {ms : List Mark} {ts : List ℕ} →
    Walks g at now xs ms ts mid → next ≡ at + count xs → Walks g next mid ys [] [] last →
    Walks g at now (xs ++ ys) ms ts last
onto {at = at} {next = next} Stops e w = let f : next ≡ at = omega (arith, e) in moved f w
onto (Enters k p j rest) e w = Enters k p j (onto rest e w)
onto {at = at} {next = next} (Runs {i = i} {to = to} {ops = ops} s step rest) e w =
    let f : next ≡ to + count ops = omega (arith, e, step) in Runs s step (onto rest f w)
onto {at = at} {next = next} (Turns {to = to} {ops = ops} s step rest) e w =
    let f : next ≡ to + count ops = omega (arith, e, step) in Turns s step (onto rest f w)

-- the end is entered too
pub ended : {g : Ground} {at : ℕ} {now mid : Option Stack} {ops : List Op} {ms : List Mark} {ts : List ℕ} (k : Mark) →
    Walks g at now ops ms ts mid → k.place ≡ at + count ops → Joins mid k.stack →
    Walks g at now ops (ms ++ k ∷ []) ts (Some k.stack)
ended {at = at} k Stops e j = let f : k.place ≡ at = omega (arith, e) in Enters k f j Stops
ended k (Enters l p i rest) e j = Enters l p i (ended k rest e j)
ended {at = at} k (Runs {i = i} {to = to} {ops = ops} s step rest) e j =
    let f : k.place ≡ to + count ops = omega (arith, e, step) in Runs s step (ended k rest f j)
ended {at = at} k (Turns {to = to} {ops = ops} s step rest) e j =
    let f : k.place ≡ to + count ops = omega (arith, e, step) in Turns s step (ended k rest f j)

-- ---- instructions directly behind

pub runs : {g : Ground} {at : ℕ} {stack : Stack} {i : Op} {next last : Option Stack} {ops : List Op} {ms : List Mark} {ts : List ℕ} →
    Steps g at stack i next → Walks g (at + size_of i) next ops ms ts last →
    Walks g at (Some stack) (i ∷ ops) ms ts last
runs s rest = Runs s refl rest

pub only : {g : Ground} {at : ℕ} {stack : Stack} {i : Op} {next : Option Stack} → Steps g at stack i next →
    Walks g at (Some stack) (i ∷ []) [] [] next
only s = Runs s refl Stops

-- with the same kinds at the end
pub to_stack : {g : Ground} {at : ℕ} {now : Option Stack} {ops : List Op} {ms : List Mark} {ts : List ℕ} {a b : Stack} → a ≡ b →
    Walks g at now ops ms ts (Some a) → Walks g at now ops ms ts (Some b)
to_stack {g} {at} {now} {ops} {ms} {ts} e w = subst (λ (s : Stack). Walks g at now ops ms ts (Some s)) e w

pub from_stack : {g : Ground} {at : ℕ} {last : Option Stack} {ops : List Op} {ms : List Mark} {ts : List ℕ} {a b : Stack} → a ≡ b →
    Walks g at (Some a) ops ms ts last → Walks g at (Some b) ops ms ts last
from_stack {g} {at} {last} {ops} {ms} {ts} e w = subst (λ (s : Stack). Walks g at (Some s) ops ms ts last) e w
