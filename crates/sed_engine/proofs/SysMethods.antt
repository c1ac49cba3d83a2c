-- The types of `sys` in a typed program, and the methods of `Component`.
use Rattle.std.proofs.Common.{◌≡◌, ◌<◌, ℕ, zero, suc, ◌==◌, ◌&&◌, Bool, true, false, if◌then◌else◌, List, [], ◌∷◌, length, Option, Some, None, refl, sym, ap, subst, ◌∙◌, arith}
use Rattle.std.specs.Prelude.{⊤, All, ◌||◌, IsSomeAnd, slice_get, position}
use Rattle.std.specs.List.{list_any}
use Rattle.std.specs.Option.{option_and_then}
use Rattle.std.specs.Str.{bytes_eq}
use Rattle.std.proofs.lemmas.Bool.{and_parts, eqb-true}
use Rattle.std.proofs.lemmas.List.Elements.{All-nil, All-cons}
use Rattle.std.proofs.lemmas.Option.{MatchOption-at_some, none-some, same_Some, slice_get_within}
use Rattle.sed_typed.specs.declared.program.Method.{Method}
use Rattle.sed_typed.specs.declared.program.Program.{Program}
use Rattle.sed_typed.specs.declared.schema.ActionArg.{ActionArg}
use Rattle.sed_typed.specs.declared.schema.ClassInfo.{ClassInfo}
use Rattle.sed_typed.specs.Classes.{base_of, reached, first_found, declared_method, declared_methods, find}
use Rattle.sed_typed.specs.Schemas.{numbered, type_at}
use Rattle.sed_typed.specs.SysMembers.{AreSysMethods, HasSysMembers, sys_methods, component_methods}
use Rattle.sed_typed.specs.SysTypes.{HasSysType, component_type}
use Rattle.sed_typed.specs.Typed.{Typed}
use Rattle.sed_typed.specs.TypedSchema.{IsAction}
use Rattle.sed_engine.proofs.Below.{IsPassed, of_some, position_passes}
use Rattle.sed_engine.proofs.Positions.{both_at, of_passing}

-- ---- types by their numbers

-- a type of `sys`, with its class
pub record SysClass (classes : List ClassInfo) (number : ℕ) (P : ClassInfo → Type 0) : Type 0 where
  pub class : ℕ
  pub is : type_at classes 0 number ≡ Some class
  pub info : ClassInfo
  pub there : slice_get classes class ≡ Some info
  pub kit : info.kit ≡ 0
  pub number_is : info.number ≡ number
  pub has : P info

placed : (o : Option ℕ) (n : ℕ) → option_and_then numbered o ≡ Some n → o ≡ Some n
placed None n e = absurd (none-some n e)
placed (Some m) n e = go _ e
  where
    go : (b : Bool) → (if b then Some m else None) ≡ Some n → Some m ≡ Some n
    go true e = e
    go false e = absurd (none-some n e)

pub sys_class : (classes : List ClassInfo) (number : ℕ) (P : ClassInfo → Type 0) → HasSysType classes number P → SysClass classes number P
sys_class classes number P h =
    let at = of_some (type_at classes 0 number) h in
    let info = of_some (slice_get classes at.0) at.2 in
    let test : ClassInfo → Bool = λ c. (c.kit == 0) && (c.number == number) in
    let passed : IsPassed test classes at.0 = position_passes test classes at.0 (placed (position test classes) at.0 at.1) in
    let same : passed.value ≡ info.0 = same_Some passed.value info.0 (sym passed.is ∙ info.1) in
    let parts = and_parts (info.0.kit == 0) (info.0.number == number) (sym (ap test same) ∙ passed.passes) in
    record {
      class = at.0;
      is = at.1;
      info = info.0;
      there = info.1;
      kit = eqb-true info.0.kit 0 parts.0;
      number_is = eqb-true info.0.number number parts.1;
      has = info.2;
    }

-- ---- methods by their names

-- those of these wants that are of a name take such an argument
abbrev pub TakeIt : List (List ℕ × ActionArg) → List ℕ → ActionArg → Type 0
TakeIt [] name a = Unit {0}
TakeIt (want ∷ more) name a = (bytes_eq want.0 name ≡ true → want.1 ≡ a) × TakeIt more name a

wanted_some : (wants : List (List ℕ × ActionArg)) (ms : List Method) (name : List ℕ) → AreSysMethods wants ms → list_any (λ w. bytes_eq w.0 name) wants ≡ true → list_any (λ m. bytes_eq m.name name) ms ≡ true
wanted_some [] [] name h e = e
wanted_some [] (m ∷ ms) name h e = absurd h
wanted_some (w ∷ ws) [] name h e = absurd h
wanted_some (w ∷ ws) (m ∷ ms) name h e =
    ap (λ (n : List ℕ). bytes_eq n name || list_any (λ m. bytes_eq m.name name) ms) h.0.name_is ∙ go (bytes_eq w.0 name) (wanted_some ws ms name h.1) e
  where
    go : (b : Bool) → (list_any (λ w. bytes_eq w.0 name) ws ≡ true → list_any (λ m. bytes_eq m.name name) ms ≡ true) → (b || list_any (λ w. bytes_eq w.0 name) ws) ≡ true → (b || list_any (λ m. bytes_eq m.name name) ms) ≡ true
    go true later e = refl
    go false later e = later e

-- a method of this name takes this argument
abbrev Takes : List ℕ → ActionArg → Method → Type 0
Takes name a m = bytes_eq m.name name ≡ true → IsAction a m

wanted_all : (wants : List (List ℕ × ActionArg)) (ms : List Method) (name : List ℕ) (a : ActionArg) → AreSysMethods wants ms → TakeIt wants name a → All (Takes name a) ms
wanted_all [] [] name a h t = All-nil (Takes name a)
wanted_all [] (m ∷ ms) name a h t = absurd h
wanted_all (w ∷ ws) [] name a h t = absurd h
wanted_all (w ∷ ws) (m ∷ ms) name a h t =
    All-cons (Takes name a) m ms (λ e. subst (λ (b : ActionArg). IsAction b m) (t.0 (ap (λ (n : List ℕ). bytes_eq n name) (sym h.0.name_is) ∙ e)) h.0.form) (wanted_all ws ms name a h.1 t.1)

-- ---- what `Component` has

-- a method that a root call runs, with such an argument
abbrev pub IsRoot : Program → ActionArg → ℕ → Type 0
IsRoot program a n = IsSomeAnd (slice_get program.methods n) (IsAction a)

own_first : (next : ℕ → Option ℕ) (n class : ℕ) → class < n → (rest : List ℕ) × (reached next n (Some class) ≡ class ∷ rest)
own_first next zero class h = absurd (omega (arith, h))
own_first next (suc n) class h = (reached next n (next class), refl)

found_own : (program : Program) (class n : ℕ) (name : List ℕ) → class < length program.schema.classes → declared_method program.methods name class ≡ Some n → find program class name ≡ Some n
found_own program class n name within e =
    let first = own_first (base_of program.schema.classes) (length program.schema.classes) class within in
    ap (first_found (declared_method program.methods name)) first.1 ∙ here (declared_method program.methods name) class first.0 n e
  where
    here : (look : ℕ → Option ℕ) (at : ℕ) (rest : List ℕ) (n : ℕ) → look at ≡ Some n → first_found look (at ∷ rest) ≡ Some n
    here look at rest n e = rw e refl

pub root_there : (program : Program) → Typed program → (c : SysClass program.schema.classes component_type (λ _. Unit {0})) → (name : List ℕ) (a : ActionArg) →
    list_any (λ w. bytes_eq w.0 name) component_methods ≡ true → TakeIt component_methods name a → IsSomeAnd (find program c.class name) (IsRoot program a)
root_there program typed c name a some takes =
    let members : HasSysMembers program c.class c.info = MatchOption-at_some ⊤ (λ info. info.kit ≡ 0 → HasSysMembers program c.class info) c.info c.there (typed.sys c.class) c.kit in
    let own : AreSysMethods component_methods (declared_methods program.methods c.class) = subst (λ (n : ℕ). AreSysMethods (sys_methods n) (declared_methods program.methods c.class)) c.number_is members.methods in
    let of_class : Method → Bool = λ m. m.class.0 == c.class in
    let named : Method → Bool = λ m. bytes_eq m.name name in
    let at = both_at of_class named program.methods (wanted_some component_methods (declared_methods program.methods c.class) name own some) in
    let passed : IsPassed (λ m. (m.class.0 == c.class) && bytes_eq m.name name) program.methods at.0 = position_passes (λ m. (m.class.0 == c.class) && bytes_eq m.name name) program.methods at.0 at.1 in
    let parts = and_parts (passed.value.class.0 == c.class) (bytes_eq passed.value.name name) passed.passes in
    let is : IsAction a passed.value = of_passing (Takes name a) of_class program.methods (wanted_all component_methods (declared_methods program.methods c.class) name a own takes) at.0 passed.value passed.is parts.0 parts.1 in
    subst (λ (o : Option ℕ). IsSomeAnd o (IsRoot program a)) (sym (found_own program c.class at.0 name (slice_get_within program.schema.classes c.class c.info c.there) at.1))
    (subst (λ (o : Option Method). IsSomeAnd o (IsAction a)) (sym passed.is) is)
