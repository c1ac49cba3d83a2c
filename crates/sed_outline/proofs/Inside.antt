-- A round over what is known of objects that stand in objects goes one deeper.
use mathlib.Core.Path.{fun_ext}
use Rattle.std.proofs.Common.{◌≡◌, ◌≤◌, ℕ, zero, suc, ◌+◌, ◌==◌, ◌||◌, ◌&&◌, Bool, true, false, if◌then◌else◌, List, [], ◌∷◌, length, replicate, Option, Some, None, refl, sym, ap, ◌∙◌, arith}
use Rattle.std.specs.List.{cons_option, filter_map, flat_map, list_any, range_with_len}
use Rattle.std.specs.Option.{option_map_or}
use Rattle.std.proofs.lemmas.List.Folds.{list_any-append}
use Rattle.std.proofs.lemmas.List.FromFn.{length-map-range_with_len}
use Rattle.std.proofs.lemmas.Simd.{map-map}
use Rattle.sed_units.specs.declared.classes.Member.{Member}
use Rattle.sed_classes.specs.declared.kit_units.KitUnits.{KitUnits}
use Rattle.sed_classes.specs.Declarations.{all_classes}
use Rattle.sed_classes.specs.Bases.{lineage}
use Rattle.sed_classes.specs.Members.{kit_of, members_of, is_instance_field}
use Rattle.sed_classes.specs.Objects.{declares_by, holds_by, holds_itself, holds_within, inline_class}
use Rattle.sed_outline.specs.Rounds.{inline_in, inline_of, inline_own, is_or_has, item, next_holding, row_of, rounds}
use Rattle.sed_outline.proofs.Rounds.{constant_row, item_is, lineage_behind, members_behind, rounds_reach}

-- ---- the classes of inline objects, listed

held_one : (passes : ℕ → Bool) (b : Bool) (found : Option ℕ) (far : List ℕ) (rest : Bool) → rest ≡ list_any passes far →
    ((b && option_map_or passes found false) || rest) ≡ list_any passes (cons_option (if b then found else None) far)
held_one passes true None far rest e = e
held_one passes true (Some class) far rest e = ap (λ r. passes class || r) e
held_one passes false found far rest e = e

held_members : (passes : ℕ → Bool) (units : List KitUnits) (kit : ℕ) (ms : List Member) →
    list_any (holds_by passes units kit) ms ≡ list_any passes (filter_map (inline_of units kit) ms)
held_members passes units kit [] = refl
held_members passes units kit (m ∷ ms) =
    held_one
    passes
    (is_instance_field m)
    (inline_class units kit m)
    (filter_map (inline_of units kit) ms)
    (list_any (holds_by passes units kit) ms)
    (held_members passes units kit ms)

pub held_classes : (passes : ℕ → Bool) (units : List KitUnits) (cs : List ℕ) →
    list_any (declares_by passes units) cs ≡ list_any passes (flat_map (inline_own units) cs)
held_classes passes units [] = refl
held_classes passes units (c ∷ cs) =
    ap (λ b. declares_by passes units c || b) (held_classes passes units cs)
    ∙ ap (λ b. b || list_any passes (flat_map (inline_own units) cs)) (held_members passes units (kit_of units c)
    (members_of units c))
    ∙ sym (list_any-append passes (inline_own units c) (flat_map (inline_own units) cs))

-- ---- places behind all classes

declares_behind : (units : List KitUnits) (passes : ℕ → Bool) (h : ℕ) → length (all_classes units) ≤ h →
    declares_by passes units h ≡ false
declares_behind units passes h le = ap (list_any (holds_by passes units (kit_of units h))) (members_behind units h le)

pub holds_behind : (units : List KitUnits) (k inner h : ℕ) → length (all_classes units) ≤ h →
    holds_within units k inner h ≡ false
holds_behind units zero inner h le = refl
holds_behind units (suc k) inner h le =
    let passes : ℕ → Bool = λ (c : ℕ). (c == inner) || holds_within units k inner c in
    ap (list_any (declares_by passes units)) (lineage_behind units h le)
    ∙ ap (λ b. b || false) (declares_behind units passes h le)

-- ---- rounds

one_deeper : (units : List KitUnits) (inner k : ℕ) →
    next_holding (row_of units (inline_in units)) inner (row_of units (holds_within units k inner))
    ≡ row_of units (holds_within units (suc k) inner)
one_deeper units inner k =
    map-map
    (list_any (is_or_has inner (row_of units (holds_within units k inner))))
    (inline_in units)
    (range_with_len 0 (length (all_classes units)))
    ∙ ap
    (λ (f : ℕ → Bool). row_of units (λ class. list_any (λ (c : ℕ). (c == inner) || f c) (inline_in units class)))
    (fun_ext (item_is units (holds_within units k inner) false (holds_behind units k inner)))
    ∙ ap
    (row_of units)
    (fun_ext (λ class. sym (held_classes (λ (c : ℕ). (c == inner) || holds_within units k inner c) units
    (lineage units class))))

holding_reached : (units : List KitUnits) (inner n : ℕ) →
    rounds (next_holding (row_of units (inline_in units)) inner) n (row_of units (λ (i : ℕ). false))
    ≡ row_of units (holds_within units n inner)
holding_reached units inner n =
    let e : 0 + n ≡ n = omega arith in
    rounds_reach
    units
    (next_holding (row_of units (inline_in units)) inner)
    (λ k. holds_within units k inner)
    (one_deeper units inner)
    n
    0
    ∙ ap (λ k. row_of units (holds_within units k inner)) e

pub itself_is : (units : List KitUnits) (class : ℕ) → item false (row_of units (holds_itself units)) class
    ≡ holds_itself units class
itself_is units class = item_is units (holds_itself units) false (λ h le. holds_behind units (length
    (all_classes units)) h h le) class

-- what all rounds say of the class itself
pub held_at : (units : List KitUnits) (inside : List (List ℕ)) (held : List Bool) (class : ℕ) (answer : Bool) →
    inside ≡ row_of units (inline_in units) →
    held ≡ rounds (next_holding inside class) (length inside) (replicate (length inside) false) →
    answer ≡ item false held class → answer ≡ holds_itself units class
held_at units inside held class answer i h a =
    let count : length (row_of units (inline_in units)) ≡ length (all_classes units) =
    length-map-range_with_len (inline_in units) 0 (length (all_classes units)) in
    let rows : held ≡ row_of units (holds_within units (length (all_classes units)) class) =
    h
    ∙ ap (λ (r : List (List ℕ)). rounds (next_holding r class) (length r) (replicate (length r) false)) i
    ∙ ap (λ n. rounds (next_holding (row_of units (inline_in units)) class) n (replicate n false)) count
    ∙ ap
    (rounds (next_holding (row_of units (inline_in units)) class) (length (all_classes units)))
    (constant_row units false)
    ∙ holding_reached units class (length (all_classes units)) in
    a
    ∙ ap (λ r. item false r class) rows
    ∙ item_is
    units
    (holds_within units (length (all_classes units)) class)
    false
    (holds_behind units (length (all_classes units)) class)
    class
