-- Which class a name stands for.
use Rattle.std.specs.Prelude.{ℕ, suc, ◌-◌, Bool, true, false, ◌==◌, ◌&&◌, ◌||◌, if◌then◌else◌, List, [], ◌∷◌, position}
use Rattle.std.specs.Prelude.{slice_get, Option, Some, None, codes}
use Rattle.std.specs.List.{list_any}
use Rattle.std.specs.Option.{option_and_then, option_map, option_map_or, option_or}
use Rattle.std.specs.Str.{bytes_eq}
use Rattle.sed_units.specs.declared.leaves.Ident.{Ident}
use Rattle.sed_units.specs.declared.leaves.TypeName.{TypeName}
use Rattle.sed_classes.specs.declared.kit_units.KitUnits.{KitUnits}
use Rattle.sed_classes.specs.Declarations.{Declaration, all_classes}

-- ---- kits

-- the kit of a number, which is no `sys`
abbrev pub kit_at : List KitUnits → ℕ → Option KitUnits
kit_at units kit = if kit == 0 then None else slice_get units (kit - 1)

-- the number of the first kit of a name
abbrev pub kit_numbered : List KitUnits → List ℕ → Option ℕ
kit_numbered units name =
    if bytes_eq name (codes "sys") then Some 0 else option_map (λ n. suc n) (position (λ k. bytes_eq k.kit name) units)

-- the names of the kits that a kit depends on; `sys` depends on none
abbrev pub depends_of : List KitUnits → ℕ → List (List ℕ)
depends_of units kit = option_map_or (λ k. k.depends) (kit_at units kit) []

-- ---- classes

-- a class of this name in this kit
abbrev pub is_named : List ℕ → ℕ → Declaration → Bool
is_named name kit d = (d.kit == kit) && bytes_eq d.class.name.bytes name

-- the place of the first one
abbrev pub class_in : List KitUnits → List ℕ → ℕ → Option ℕ
class_in units name kit = position (is_named name kit) (all_classes units)

-- the same in the kit of a name
abbrev pub class_in_named : List KitUnits → List ℕ → List ℕ → Option ℕ
class_in_named units name kit = option_and_then (class_in units name) (kit_numbered units kit)

-- the class of a name in the first of these kits that has one, and else in `sys`
abbrev pub class_among : List KitUnits → List ℕ → List (List ℕ) → Option ℕ
class_among units name [] = class_in units name 0
class_among units name (kit ∷ kits) = option_or (class_in_named units name kit) (class_among units name kits)

-- `NAME` in a kit: sought in the kit itself, then in those that it depends on, in order, and then in `sys`
abbrev pub plain_class : List KitUnits → ℕ → List ℕ → Option ℕ
plain_class units kit name = option_or (class_in units name kit) (class_among units name (depends_of units kit))

-- a kit may name another: itself, one that it depends on, or `sys`
abbrev pub may_name : List KitUnits → ℕ → List ℕ → Bool
may_name units kit other =
    bytes_eq other (codes "sys")
    || option_map_or (λ k. bytes_eq k.kit other || list_any (λ d. bytes_eq d other) k.depends) (kit_at units kit) false

-- `KIT::NAME` in a kit: sought in that one alone, which it may name
abbrev pub class_of_kit : List KitUnits → ℕ → List ℕ → List ℕ → Option ℕ
class_of_kit units kit other name = if may_name units kit other then class_in_named units name other else None

abbrev pub class_named : List KitUnits → ℕ → Option Ident → List ℕ → Option ℕ
class_named units kit None name = plain_class units kit name
class_named units kit (Some other) name = class_of_kit units kit other.bytes name

-- the class that a type name in this kit stands for
abbrev pub class_of_name : List KitUnits → ℕ → TypeName → Option ℕ
class_of_name units kit name = class_named units kit name.kit name.id.bytes

-- ---- words

abbrev pub is_absent : Option Ident → Bool
is_absent None = true
is_absent (Some kit) = false

-- a type name that is this word, with no kit before it
abbrev pub is_word : List ℕ → TypeName → Bool
is_word word name = is_absent name.kit && bytes_eq name.id.bytes word

-- `Str` and `Buf` are words, and no class is named so
abbrev pub is_text_name : TypeName → Bool
is_text_name name = is_word (codes "Str") name

abbrev pub is_buffer_name : TypeName → Bool
is_buffer_name name = is_word (codes "Buf") name
