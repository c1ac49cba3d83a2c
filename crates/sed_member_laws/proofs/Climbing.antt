-- From a base to the classes based on it; and what a name stands for, step by step.
use Rattle.std.proofs.Common.{◌≡◌, ◌<◌, ◌≤◌, ℕ, zero, suc, false, List, [], ◌∷◌, drop, length, map, Option, Some, None, refl, sym, ap, ◌∙◌, arith}
use Rattle.std.specs.List.{list_any}
use Rattle.std.specs.Option.{option_map, option_or}
use Rattle.sed_typed.specs.declared.program.Program.{Program}
use Rattle.sed_typed.specs.Classes.{declared_method, find, first_found}
use Rattle.sed_classes.specs.declared.kit_units.KitUnits.{KitUnits}
use Rattle.sed_classes.specs.Bases.{base_of, bases, lineage}
use Rattle.sed_classes.specs.Members.{declares, has_name, members_of, nearest, nearest_among, own_named, owned, kit_of}
use Rattle.sed_program.specs.Ordered.{IsOrdered, number, places}
use Rattle.sed_member_laws.proofs.Own.{found_or_none, or_left, or_right}

climb_to : (units : List KitUnits) (program : Program) → IsOrdered units program → (P : ℕ → Type 0) → ((c : ℕ) →
    base_of units c ≡ None → P c) →
    ((c b : ℕ) → base_of units c ≡ Some b → P b → P c) → (n c : ℕ) → length (lineage units c) ≤ n → P c
climb_to units program o P first on zero c le = by_base (base_of units c) refl
  where
    by_base : (b : Option ℕ) → base_of units c ≡ b → P c
    by_base None e = first c e
    by_base (Some b) e =
        let more : length (lineage units c) ≡ suc (length (lineage units b)) = ap length (o.lineage_cons c b e) in
        absurd (omega arith)
climb_to units program o P first on (suc n) c le = by_base (λ b l. climb_to units program o P first on n b l)
    (base_of units c) refl
  where
    by_base : ((b : ℕ) → length (lineage units b) ≤ n → P b) → (b : Option ℕ) → base_of units c ≡ b → P c
    by_base later None e = first c e
    by_base later (Some b) e =
        let more : length (lineage units c) ≡ suc (length (lineage units b)) = ap length (o.lineage_cons c b e) in
        on c b e (later b (omega arith))

-- what passes from a base to each class based on it holds everywhere
pub climb : (units : List KitUnits) (program : Program) → IsOrdered units program → (P : ℕ → Type 0) → ((c : ℕ) →
    base_of units c ≡ None → P c) →
    ((c b : ℕ) → base_of units c ≡ Some b → P b → P c) → (c : ℕ) → P c
climb units program o P first on c = climb_to units program o P first on (length (lineage units c)) c (omega arith)

-- ---- bases

pub bases_cons : (units : List KitUnits) (program : Program) → IsOrdered units program → (c b : ℕ) →
    base_of units c ≡ Some b →
    bases units c ≡ lineage units b
bases_cons units program o c b e = ap (drop 1) (o.lineage_cons c b e)

pub bases_one : (units : List KitUnits) (program : Program) → IsOrdered units program → (c : ℕ) →
    base_of units c ≡ None → bases units c ≡ []
bases_one units program o c e = ap (drop 1) (o.lineage_one c e)

-- ---- the nearest of a name

pub nearest_cons : (units : List KitUnits) (program : Program) → IsOrdered units program → (c b : ℕ) (name : List ℕ) →
    base_of units c ≡ Some b →
    nearest units c name ≡ option_or (own_named units name c) (nearest units b name)
nearest_cons units program o c b name e = ap (nearest_among units name) (o.lineage_cons c b e)

pub nearest_one : (units : List KitUnits) (program : Program) → IsOrdered units program → (c : ℕ) (name : List ℕ) →
    base_of units c ≡ None →
    nearest units c name ≡ option_or (own_named units name c) None
nearest_one units program o c name e = ap (nearest_among units name) (o.lineage_one c e)

-- where no class declares one, there is none
pub none_among : (units : List KitUnits) (name : List ℕ) (cs : List ℕ) → list_any (declares units name) cs ≡ false →
    nearest_among units name cs ≡ None
none_among units name [] e = refl
none_among units name (c ∷ cs) e =
    let none : own_named units name c ≡ None =
    ap
    (option_map (owned c (kit_of units c)))
    (found_or_none (has_name name) (members_of units c) (or_left (declares units name c) (list_any
    (declares units name) cs) e)) in
    ap (λ o. option_or o (nearest_among units name cs)) none
    ∙ none_among units name cs (or_right (declares units name c) (list_any (declares units name) cs) e)

-- ---- the number that is found

first_or : (look : ℕ → Option ℕ) (at : ℕ) (rest : List ℕ) →
    first_found look (at ∷ rest) ≡ option_or (look at) (first_found look rest)
first_or look at rest = by_found (look at) refl
  where
    by_found : (r : Option ℕ) → look at ≡ r → first_found look (at ∷ rest) ≡ option_or (look at) (first_found look rest)
    by_found None e = rw e refl
    by_found (Some n) e = rw e refl

pub find_cons : (units : List KitUnits) (program : Program) → IsOrdered units program → (c b : ℕ) (name : List ℕ) →
    c < places units →
    base_of units c ≡ Some b →
    find program (number units c) name ≡ option_or (declared_method program.methods name (number units c))
    (find program (number units b) name)
find_cons units program o c b name h e =
    let row : map (number units) (lineage units c) ≡ number units c ∷ map (number units) (lineage units b) =
    ap (map (number units)) (o.lineage_cons c b e) in
    ap (first_found (declared_method program.methods name)) (o.lineage_at (number units c) c (o.place_is c h) ∙ row)
    ∙ first_or (declared_method program.methods name) (number units c) (map (number units) (lineage units b))
    ∙ sym (ap
    (λ cs. option_or (declared_method program.methods name (number units c)) (first_found
    (declared_method program.methods name) cs))
    (o.lineage_at (number units b) b (o.place_is b (o.base_in c b e))))

pub find_one : (units : List KitUnits) (program : Program) → IsOrdered units program → (c : ℕ) (name : List ℕ) →
    c < places units →
    base_of units c ≡ None →
    find program (number units c) name ≡ option_or (declared_method program.methods name (number units c)) None
find_one units program o c name h e =
    let row : map (number units) (lineage units c) ≡ number units c ∷ [] = ap (map (number units))
    (o.lineage_one c e) in
    ap (first_found (declared_method program.methods name)) (o.lineage_at (number units c) c (o.place_is c h) ∙ row)
    ∙ first_or (declared_method program.methods name) (number units c) []
