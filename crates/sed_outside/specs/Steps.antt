-- What is asked of the outside, step by step, and how it ends: with a value, or at the first refusal. What is asked may
-- be reads of files, or whatever else is told with its answer.
use Rattle.std.specs.Prelude.{◌≡◌, ℕ, Bool, List, [], ◌∷◌, ◌++◌, Option, Result, Ok, Err, MatchBool}

-- A read of a file: its name, and the text that it gave, none where it failed.
pub record Read : Type 0 where
  pub name : List ℕ
  pub gave : Option (List ℕ)

-- A step makes these reads, in their order, and ends so: with a value, or with a refusal.
abbrev pub Step : Type 0 → Type 0 → Type 1
Step E X = List Read → Result X E → Type 0

-- Nothing is asked, and the step ends with a value or a refusal of which this holds.
pub record Decides {A E X : Type 0} (Holds : Result X E → Type 0) (asks : List A) (end : Result X E) : Type 0 where
  pub none : asks ≡ []
  pub holds : Holds end

-- One step, and then another with its value. A refusal of the first ends both, and nothing more is asked.
pub data AndThen {A E X Y : Type 0} (first : List A → Result X E → Type 0) (next : X → List A → Result Y E → Type 0)
    (asks : List A) (end : Result Y E) : Type 0 where
  stops : (refusal : E) → first asks (Err refusal) → end ≡ Err refusal → AndThen first next asks end
  goes_on : (front back : List A) (value : X) → asks ≡ front ++ back → first front (Ok value) → next value back end
      → AndThen first next asks end

-- A step for each item, one after another. The first refusal ends them.
abbrev pub Each : {E X Y : Type 0} → (X → List Read → Result Y E → Type 0) → List X
    → List Read → Result (List Y) E → Type 0
Each one [] = Decides (λ end. end ≡ Ok [])
Each one (x ∷ xs) = AndThen (one x) (λ y. AndThen (Each one xs) (λ ys. Decides (λ end. end ≡ Ok (y ∷ ys))))

-- A refusal that passes the test, as want of memory, may end a step in place of what else does.
abbrev pub UnlessFree : {E X : Type 0} → (E → Bool) → (Result X E → Type 0) → Result X E → Type 0
UnlessFree is_free Holds (Ok value) = Holds (Ok value)
UnlessFree is_free Holds (Err refusal) = MatchBool (is_free refusal) (Unit {0}) (Holds (Err refusal))

-- Two rows of reads give the same wherever they read one name at one place.
abbrev pub Agree : List Read → List Read → Type 0
Agree (read ∷ reads) (other ∷ others) = (read.name ≡ other.name → read.gave ≡ other.gave) × Agree reads others
Agree reads others = Unit {0}
