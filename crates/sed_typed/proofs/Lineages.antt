-- The lineage of a class is the class and then the lineage of its base.
use Rattle.std.proofs.Common.{◌≡◌, ℕ, zero, suc, ◌<◌, Bool, true, false, ◌==◌, List, [], ◌∷◌, length, Option, Some, None, refl, sym, ap, subst, ◌∙◌, arith}
use Rattle.std.specs.Prelude.{IfSome, slice_get, ◌||◌}
use Rattle.std.specs.List.{list_any}
use Rattle.std.specs.Option.{option_and_then, option_map}
use Rattle.std.proofs.lemmas.Bool.{eqb-true}
use Rattle.std.proofs.lemmas.Option.{slice_get_within}
use Rattle.sed_typed.specs.declared.program.Program.{Program}
use Rattle.sed_typed.specs.declared.schema.ClassInfo.{ClassInfo}
use Rattle.sed_typed.specs.Classes.{base_of, reached, lineage}
use Rattle.sed_typed.specs.Typed.{Typed}
use Rattle.sed_typed.specs.TypedSchema.{IsClass, HasBase, is_below}

pub none_is : {P : Type 0} {A : Type 0} (x : A) → None ≡ Some x → P
none_is x e = let never : ⊥ = cc in absurd never

of_info : (program : Program) (class base : ℕ) (o : Option ClassInfo) → IfSome o (IsClass program class) → option_and_then (λ info. option_map (λ b. b.0) info.base) o ≡ Some base → IfSome (base_of program.schema.classes class) (HasBase program class)
of_info program class base None h e = none_is base e
of_info program class base (Some info) h e = h.base

pub has_base : (program : Program) → Typed program → (class base : ℕ) → base_of program.schema.classes class ≡ Some base → HasBase program class base
has_base program typed class base e =
    subst (λ (o : Option ℕ). IfSome o (HasBase program class)) e (of_info program class base (slice_get program.schema.classes class) (typed.classes class) e)

pub has_info : (classes : List ClassInfo) (class base : ℕ) (o : Option ClassInfo) → slice_get classes class ≡ o → option_and_then (λ info. option_map (λ b. b.0) info.base) o ≡ Some base → class < length classes
has_info classes class base None is e = none_is base e
has_info classes class base (Some info) is e = slice_get_within classes class info is

pub none_reached : (next : ℕ → Option ℕ) (n : ℕ) → reached next n None ≡ []
none_reached next zero = refl
none_reached next (suc n) = refl

further : (next : ℕ → Option ℕ) (n at : ℕ) → ((b : ℕ) → next at ≡ Some b → reached next (suc n) (Some b) ≡ reached next n (Some b)) → (o : Option ℕ) → next at ≡ o → reached next (suc n) o ≡ reached next n o
further next n at again None e = sym (none_reached next n)
further next n at again (Some b) e = again b e

-- where each step goes down, more steps than numbers below reach no more
reached_all : (next : ℕ → Option ℕ) → ((at base : ℕ) → next at ≡ Some base → base < at) → (n at : ℕ) → at < n → reached next (suc n) (Some at) ≡ reached next n (Some at)
reached_all next falls zero at h = absurd (omega (arith, h))
reached_all next falls (suc n) at h =
    ap (λ (rest : List ℕ). at ∷ rest)
    (further next n at (λ b e. let below : b < at = falls at b e in reached_all next falls n b (omega (arith, h, below))) (next at) refl)

pub lineage_of_base : (program : Program) → Typed program → (class base : ℕ) → base_of program.schema.classes class ≡ Some base →
    lineage program.schema.classes class ≡ class ∷ lineage program.schema.classes base
lineage_of_base program typed class base e =
    let falls : (at low : ℕ) → base_of program.schema.classes at ≡ Some low → low < at = λ at low is. (has_base program typed at low is).before in
    let inside : class < length program.schema.classes = has_info program.schema.classes class base (slice_get program.schema.classes class) refl e in
    sym (reached_all (base_of program.schema.classes) falls (length program.schema.classes) class inside)
    ∙ ap (λ (o : Option ℕ). class ∷ reached (base_of program.schema.classes) (length program.schema.classes) o) e

-- of a class with no base it is the class alone
reached_alone : (next : ℕ → Option ℕ) (class n : ℕ) → 0 < n → next class ≡ None → reached next n (Some class) ≡ class ∷ []
reached_alone next class zero h e = absurd (omega (arith, h))
reached_alone next class (suc n) h e =
    ap (λ (o : Option ℕ). class ∷ reached next n o) e ∙ ap (λ (rest : List ℕ). class ∷ rest) (none_reached next n)

pub lineage_alone : (classes : List ClassInfo) (class : ℕ) → 0 < length classes → base_of classes class ≡ None → lineage classes class ≡ class ∷ []
lineage_alone classes class h e = reached_alone (base_of classes) class (length classes) h e

-- ---- what goes down from base to class

module _ (classes : List ClassInfo) (P : ℕ → Type 0) (above : ℕ) (top : P above) (down : (class base : ℕ) → base_of classes class ≡ Some base → P base → P class) where
  reached_down : (k class : ℕ) → list_any (λ c. c == above) (reached (base_of classes) k (Some class)) ≡ true → P class
  reached_down zero class h = let never : ⊥ = cc in absurd never
  reached_down (suc k) class h = here (λ base. reached_down k base) (class == above) refl h
    where
      up : ((base : ℕ) → list_any (λ c. c == above) (reached (base_of classes) k (Some base)) ≡ true → P base) →
          (o : Option ℕ) → base_of classes class ≡ o → list_any (λ c. c == above) (reached (base_of classes) k o) ≡ true → P class
      up again None e h = let gone : false ≡ true = ap (list_any (λ c. c == above)) (sym (none_reached (base_of classes) k)) ∙ h in let never : ⊥ = cc in absurd never
      up again (Some base) e h = down class base e (again base h)

      here : ((base : ℕ) → list_any (λ c. c == above) (reached (base_of classes) k (Some base)) ≡ true → P base) →
          (b : Bool) → (class == above) ≡ b → (b || list_any (λ c. c == above) (reached (base_of classes) k (base_of classes class))) ≡ true → P class
      here again true e h = subst P (sym (eqb-true class above e)) top
      here again false e h = up again (base_of classes class) refl h

  -- what a class has, and each class whose base has it, have all classes below
  pub going_down : (class : ℕ) → is_below classes above class ≡ true → P class
  going_down class h = reached_down (length classes) class h
