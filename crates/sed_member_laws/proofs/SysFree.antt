-- The types of `sys` break no rule on what they declare.
use Rattle.std.proofs.Common.{◌≡◌, ◌+◌, ℕ, zero, suc, false, List, [], ◌∷◌, slice_get, codes, Some, None, refl, sym, ap, ◌∙◌, arith}
use Rattle.sed_typed.specs.declared.program.Program.{Program}
use Rattle.sed_units.specs.declared.leaves.ModifierWord.TheVariants as word
use Rattle.sed_units.specs.declared.classes.Class.{Class}
use Rattle.sed_classes.specs.declared.kit_units.KitUnits.{KitUnits}
use Rattle.sed_classes.specs.Bases.{leads_back, lineage}
use Rattle.sed_classes.specs.Declarations.{Declaration, all_classes, class_at, declared_in}
use Rattle.sed_classes.specs.Faults.{declaration_faults}
use Rattle.sed_classes.specs.Names.{class_in}
use Rattle.sed_classes.specs.SysSource.{a_class, component_members, empty_method}
use Rattle.sed_program.specs.Ordered.{IsOrdered, number}
use Rattle.sed_member_laws.proofs.Flat.{some_is}
use Rattle.sed_member_laws.proofs.SysBases.{base_app, base_component, base_folder, base_obj, base_virtual, named}

abbrev in_sys : ℕ → Class → Declaration
in_sys n c = record { kit = 0; text = 0; number = n; class = c }

pub lineage_0 : (units : List KitUnits) (program : Program) → IsOrdered units program → lineage units 0 ≡ 0 ∷ []
lineage_0 units program o = o.lineage_one 0 (base_obj units)

pub lineage_1 : (units : List KitUnits) (program : Program) → IsOrdered units program → lineage units 1 ≡ 1 ∷ 0 ∷ []
lineage_1 units program o = o.lineage_cons 1 0 (base_virtual units) ∙ ap (λ cs. 1 ∷ cs) (lineage_0 units program o)

pub lineage_2 : (units : List KitUnits) (program : Program) → IsOrdered units program → lineage units 2 ≡ 2 ∷ 1 ∷ 0 ∷ []
lineage_2 units program o = o.lineage_cons 2 1 (base_component units) ∙ ap (λ cs. 2 ∷ cs) (lineage_1 units program o)

free_obj : (units : List KitUnits) → declaration_faults units 0 (in_sys 0 (a_class (word.Abstract ∷ [])
    (codes "Obj") None [])) ≡ []
unfolding all_classes
free_obj units = refl

free_virtual : (units : List KitUnits) → class_in units (codes "Obj") 0 ≡ Some 0 →
    declaration_faults units 1 (in_sys 1 (a_class (word.Abstract ∷ []) (codes "Virtual") (Some (codes "Obj")) [])) ≡ []
unfolding all_classes
free_virtual units n = simp n

free_component : (units : List KitUnits) → leads_back units 2 ≡ false → class_in units (codes "Virtual") 0 ≡ Some 1 →
    lineage units 2 ≡ 2 ∷ 1 ∷ 0 ∷ [] →
    declaration_faults units 2 (in_sys 2 (a_class (word.Abstract ∷ []) (codes "Component") (Some
    (codes "Virtual")) component_members)) ≡ []
unfolding all_classes
free_component units b n l = rw l (rw b (simp n))

pub lineage_3 : (units : List KitUnits) (program : Program) → IsOrdered units program →
    lineage units 3 ≡ 3 ∷ 2 ∷ 1 ∷ 0 ∷ []
lineage_3 units program o = o.lineage_cons 3 2 (base_app units) ∙ ap (λ cs. 3 ∷ cs) (lineage_2 units program o)

pub lineage_4 : (units : List KitUnits) (program : Program) → IsOrdered units program →
    lineage units 4 ≡ 4 ∷ 2 ∷ 1 ∷ 0 ∷ []
lineage_4 units program o = o.lineage_cons 4 2 (base_folder units) ∙ ap (λ cs. 4 ∷ cs) (lineage_2 units program o)

free_app : (units : List KitUnits) → leads_back units 3 ≡ false → class_in units (codes "Component") 0 ≡ Some 2 →
    lineage units 3 ≡ 3 ∷ 2 ∷ 1 ∷ 0 ∷ [] →
    declaration_faults units 3 (in_sys 3 (a_class [] (codes "App") (Some (codes "Component")) (empty_method word.Action
    (codes "save") [] ∷ []))) ≡ []
unfolding all_classes
free_app units b n l = rw l (rw l (rw b (simp n)))

free_folder : (units : List KitUnits) → leads_back units 4 ≡ false → class_in units (codes "Component") 0 ≡ Some 2 →
    lineage units 4 ≡ 4 ∷ 2 ∷ 1 ∷ 0 ∷ [] →
    declaration_faults units 4 (in_sys 4 (a_class [] (codes "Folder") (Some (codes "Component")) [])) ≡ []
unfolding all_classes
free_folder units b n l = rw l (rw l (rw b (simp n)))

name_obj : (units : List KitUnits) → class_in units (codes "Obj") 0 ≡ Some 0
unfolding all_classes
name_obj units = named units (codes "Obj") 0 refl (omega arith)

name_virtual : (units : List KitUnits) → class_in units (codes "Virtual") 0 ≡ Some 1
unfolding all_classes
name_virtual units = named units (codes "Virtual") 1 refl (omega arith)

name_component : (units : List KitUnits) → class_in units (codes "Component") 0 ≡ Some 2
unfolding all_classes
name_component units = named units (codes "Component") 2 refl (omega arith)

free_at : (units : List KitUnits) (k : ℕ) (d e : Declaration) → Some d ≡ Some e → declaration_faults units k d ≡ [] →
    declaration_faults units k e ≡ []
free_at units k d e same f = ap (declaration_faults units k) (sym (some_is d e same)) ∙ f

-- where no class leads back to itself, and the classes that the units declare break no rule, none does
pub all_free : (units : List KitUnits) (program : Program) → IsOrdered units program → ((c : ℕ) →
    leads_back units c ≡ false) →
    ((i : ℕ) (d : Declaration) → slice_get (declared_in units) i ≡ Some d → declaration_faults units (5 + i) d ≡ []) →
    (c : ℕ) (d : Declaration) → class_at units c ≡ Some d → declaration_faults units c d ≡ []
unfolding all_classes
all_free units program o back own zero d e =
    free_at units 0 (in_sys 0 (a_class (word.Abstract ∷ []) (codes "Obj") None [])) d e (free_obj units)
all_free units program o back own (suc zero) d e =
    free_at units 1 (in_sys 1 (a_class (word.Abstract ∷ []) (codes "Virtual") (Some (codes "Obj")) [])) d e
    (free_virtual units (name_obj units))
all_free units program o back own (suc (suc zero)) d e =
    free_at
    units
    2
    (in_sys 2 (a_class (word.Abstract ∷ []) (codes "Component") (Some (codes "Virtual")) component_members))
    d
    e
    (free_component units (back 2) (name_virtual units) (lineage_2 units program o))
all_free units program o back own (suc (suc (suc zero))) d e =
    free_at
    units
    3
    (in_sys 3 (a_class [] (codes "App") (Some (codes "Component")) (empty_method word.Action (codes "save") [] ∷ [])))
    d
    e
    (free_app units (back 3) (name_component units) (lineage_3 units program o))
all_free units program o back own (suc (suc (suc (suc zero)))) d e =
    free_at
    units
    4
    (in_sys 4 (a_class [] (codes "Folder") (Some (codes "Component")) []))
    d
    e
    (free_folder units (back 4) (name_component units) (lineage_4 units program o))
all_free units program o back own (suc (suc (suc (suc (suc i))))) d e =
    let at : 5 + i ≡ suc (suc (suc (suc (suc i)))) = omega arith in
    ap (λ n. declaration_faults units n d) (sym at) ∙ own i d e
