-- Reading one item after another, as a loop does: what was read so far, and what is still read.
use Rattle.std.proofs.Common.{◌≡◌, ℕ, zero, suc, ◌-◌, ◌+◌, ◌≤◌, ◌<◌, Bool, true, false, List, [], ◌∷◌, ◌++◌, Err, refl, sym, ap, ◌∙◌, append_assoc, arith}
use Rattle.std.proofs.lemmas.List.{append-nil}
use Rattle.sed_lexer.specs.Token.{Token}
use Rattle.sed_value.specs.declared.halt.Halt.{Halt}
use Rattle.sed_value.specs.declared.halt.Halt.TheVariants.{Fault, Memory}
use Rattle.sed_parser.specs.Reading.{Reading, Found, Stuck, Reads, read_on, many_at}
use Rattle.sed_parser.specs.Halts.{Gives}

-- items that were read before those of a reading
abbrev pub with_front : {X : Type 0} → List X → Reading (List X) → Reading (List X)
with_front front reading = read_on reading (λ xs rest. Found (front ++ xs) rest)

-- an item in front of a reading goes to the end of the front
moved : {X : Type 0} (front : List X) (x : X) (reading : Reading (List X))
    → with_front front (read_on reading (λ xs rest. Found (x ∷ xs) rest)) ≡ with_front (front ++ x ∷ []) reading
moved {X} front x (Found ys r) = ap (λ (xs : List X). Found xs r) (simp append_assoc)
moved front x (Stuck r) = refl

counted_down : (count i : ℕ) → i < count → count - i ≡ suc (count - (i + 1))
counted_down count i below = omega arith

nothing_left : (count i : ℕ) → count ≤ i → count - i ≡ 0
nothing_left count i above = omega arith

pub one_more : {X : Type 0} (go : List Token → Bool) (item : Reads X) (front : List X) (count i : ℕ)
    (tokens : List Token) (x : X) (after : List Token) (all : Reading (List X))
    → i < count → go tokens ≡ true → item tokens ≡ Found x after
    → with_front front (many_at go item (count - i) tokens) ≡ all
    → with_front (front ++ x ∷ []) (many_at go item (count - (i + 1)) after) ≡ all
one_more {X} go item front count i tokens x after all below goes read so_far =
    let here : with_front front (many_at go item (count - i) tokens)
    ≡ with_front (front ++ x ∷ []) (many_at go item (count - (i + 1)) after) =
    rw (counted_down count i below, goes, read) (moved front x (many_at go item (count - (i + 1)) after)) in
    sym here ∙ so_far

pub refused : {X : Type 0} (go : List Token → Bool) (item : Reads X) (halt : Halt) (after : List Token) (front : List X)
    (count i : ℕ) (tokens : List Token) (all : Reading (List X))
    → i < count → go tokens ≡ true → Gives (Err halt) after (item tokens)
    → with_front front (many_at go item (count - i) tokens) ≡ all → Gives (Err halt) after all
refused {X} go item Fault after front count i tokens all below goes read so_far =
    let here : with_front front (many_at go item (count - i) tokens) ≡ Stuck after =
    rw (counted_down count i below, goes, read) refl in
    sym so_far ∙ here
refused go item Memory after front count i tokens all below goes read so_far = tt

stops : {X : Type 0} (go : List Token → Bool) (item : Reads X) (count : ℕ) (tokens : List Token)
    → go tokens ≡ false → many_at go item count tokens ≡ Found [] tokens
stops go item zero tokens stop = rw stop refl
stops go item (suc count) tokens stop = rw stop refl

pub last : {X : Type 0} (go : List Token → Bool) (item : Reads X) (front : List X) (count : ℕ) (tokens : List Token)
    (all : Reading (List X))
    → go tokens ≡ false → with_front front (many_at go item count tokens) ≡ all → all ≡ Found front tokens
last {X} go item front count tokens all stop so_far =
    sym so_far ∙ ap (with_front front) (stops go item count tokens stop)
    ∙ ap (λ (xs : List X). Found xs tokens) (append-nil front)

pub too_many : {X : Type 0} (go : List Token → Bool) (item : Reads X) (front : List X) (count i : ℕ)
    (tokens : List Token) (all : Reading (List X))
    → count ≤ i → go tokens ≡ true → with_front front (many_at go item (count - i) tokens) ≡ all → all ≡ Stuck tokens
too_many {X} go item front count i tokens all above goes so_far =
    let here : with_front front (many_at go item (count - i) tokens) ≡ Stuck tokens =
    rw (nothing_left count i above, goes) refl in
    sym so_far ∙ here

-- what the first items were
pub begun : {X : Type 0} (reading all : Reading (List X)) (front other : List X)
    → front ≡ other → reading ≡ with_front front all → reading ≡ with_front other all
begun reading all front other same so_far = rw (← same) so_far
