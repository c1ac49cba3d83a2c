-- Groups of names, after one was changed or put behind them.
use Rattle.std.proofs.Common.{◌≡◌, ◌<◌, ◌≤◌, ℕ, zero, suc, ◌+◌, Bool, true, false, ◌==◌, ◌&&◌, cond, if◌then◌else◌, is_some, List, [], ◌∷◌, ◌++◌, length, drop, slice_get, slice_set, Option, Some, None, unwrap_or, nat_lt, position, refl, sym, subst, ap, ◌∙◌, arith, ltb-true, ltb-false}
use Rattle.std.specs.List.{position_from}
use Rattle.std.specs.Option.{option_map_or}
use Rattle.std.specs.Str.{bytes_eq}
use Rattle.std.proofs.Math.Seq.{drop-length}
use Rattle.std.proofs.lemmas.List.{length-map}
use Rattle.std.proofs.lemmas.Option.{slice_get_past}
use Rattle.sed_units.specs.declared.classes.Member.{Member}
use Rattle.sed_classes.specs.declared.entry.Entry.{Entry}
use Rattle.sed_classes.specs.Declarations.{Declaration}
use Rattle.sed_classes.specs.Entries.{declaration_of, declarations}
use Rattle.sed_classes.specs.Indexed.{IsPut, IsPutIn, IsSame, Places, members_at, place_in, place_of}
use Rattle.sed_classes.specs.Members.{has_name}
use Rattle.sed_classes.specs.Names.{is_named}
use Rattle.sed_classes.proofs.FirstPlaces.{from_before}
use Rattle.sed_classes.proofs.Lists.{get_seen}

-- ---- groups

-- one more group without names
pub no_more : (groups : List Places) (more : Places) → ((q : List ℕ) → place_of more q ≡ None) → IsSame groups (groups ++ more ∷ [])
unfolding place_in
no_more [] more none zero q = none q
no_more [] more none (suc g) q = refl
no_more (x ∷ xs) more none zero q = refl
no_more (x ∷ xs) more none (suc g) q = no_more xs more none g q

-- what the group behind others has
pub at_end : (groups : List Places) (more : Places) (k : ℕ) (q : List ℕ) → k ≡ length groups → place_in (groups ++ more ∷ []) k q ≡ place_of more q
unfolding place_in
at_end [] more zero q e = refl
at_end [] more (suc k) q e = absurd (omega (arith, e))
at_end (x ∷ xs) more zero q e = absurd (omega (arith, e))
at_end (x ∷ xs) more (suc k) q e = at_end xs more k q (omega (arith, e))

-- and what those before it have
pub in_front : (groups : List Places) (more : Places) (k : ℕ) (q : List ℕ) → k < length groups → place_in (groups ++ more ∷ []) k q ≡ place_in groups k q
unfolding place_in
in_front [] more k q lt = absurd (omega (arith, lt))
in_front (x ∷ xs) more zero q lt = refl
in_front (x ∷ xs) more (suc k) q lt = in_front xs more k q (omega (arith, lt))

-- behind the last group nothing is found
pub past_end : (groups : List Places) (k : ℕ) (q : List ℕ) → length groups ≤ k → place_in groups k q ≡ None
unfolding place_in
past_end [] k q le = refl
past_end (x ∷ xs) zero q le = absurd (omega (arith, le))
past_end (x ∷ xs) (suc k) q le = past_end xs k q (omega (arith, le))

-- a name is given a place in one of them
pub put_one : (groups : List Places) (group : ℕ) (at new : Places) (name : List ℕ) (place : ℕ) → slice_get groups group ≡ Some at → IsPut at new name place
    → IsPutIn groups (slice_set groups group new) group name place
unfolding place_in
put_one [] group at new name place there put g q = absurd (let no : false ≡ true = ap is_some there in cc)
put_one (x ∷ xs) zero at new name place there put zero q =
    let same : x ≡ at = ap (λ o. unwrap_or o x) there in
    subst (λ was. place_of new q ≡ (if bytes_eq name q then Some place else place_of was q)) (sym same) (put q)
put_one (x ∷ xs) zero at new name place there put (suc g) q = let other : (0 == suc g) ≡ false = grind arith in rw other refl
put_one (x ∷ xs) (suc group) at new name place there put zero q = let other : (suc group == 0) ≡ false = grind arith in rw other refl
put_one (x ∷ xs) (suc group) at new name place there put (suc g) q =
    let same : (suc group == suc g) ≡ (group == g) = grind arith in rw same (put_one xs group at new name place there put g q)

-- ---- from the end to the front

-- one class more
pub class_before : (all : List Entry) (left next : ℕ) (e : Entry) (old new : List Places) → next ≡ left + 1 → slice_get all left ≡ Some e
    → ((kit : ℕ) (name : List ℕ) → place_in old kit name ≡ position_from (is_named name kit) next (drop next (declarations all)))
    → IsPutIn old new e.kit e.class.now.name.bytes left
    → (kit : ℕ) (name : List ℕ) → place_in new kit name ≡ position_from (is_named name kit) left (drop left (declarations all))
class_before all left next e old new is there far put kit name =
    put kit name
    ∙ ap (λ o. if is_named name kit (declaration_of e) then Some left else o) (far kit name ∙ ap (λ n. position_from (is_named name kit) n (drop n (declarations all))) is)
    ∙ sym (from_before (is_named name kit) (declarations all) left (declaration_of e) (sym (get_seen declaration_of all left (Some e) (sym there))))

-- one member more
pub member_before : (members : List Member) (left next : ℕ) (m : Member) (old new : Places) → next ≡ left + 1 → slice_get members left ≡ Some m
    → ((name : List ℕ) → place_of old name ≡ position_from (has_name name) next (drop next members))
    → IsPut old new m.name.bytes left
    → (name : List ℕ) → place_of new name ≡ position_from (has_name name) left (drop left members)
member_before members left next m old new is there far put name =
    put name
    ∙ ap (λ o. if has_name name m then Some left else o) (far name ∙ ap (λ n. position_from (has_name name) n (drop n members)) is)
    ∙ sym (from_before (has_name name) members left m there)

-- of the classes behind the last one nothing is found
pub none_left : (all : List Entry) (p : Declaration → Bool) → position_from p (length all) (drop (length all) (declarations all)) ≡ None
none_left all p =
    ap (position_from p (length all)) (ap (λ n. drop n (declarations all)) (sym (length-map all declaration_of)) ∙ drop-length (declarations all))

-- ---- class by class

-- the members of one class more
pub class_more : (all : List Entry) (class : ℕ) (e : Entry) (old : List Places) (new : Places) → slice_get all class ≡ Some e → length old ≡ class
    → ((name : List ℕ) → place_of new name ≡ position (has_name name) e.class.now.members)
    → ((k : ℕ) (name : List ℕ) → k < class → place_in old k name ≡ position (has_name name) (members_at (declarations all) k))
    → (k : ℕ) (name : List ℕ) → k < class + 1 → place_in (old ++ new ∷ []) k name ≡ position (has_name name) (members_at (declarations all) k)
class_more all class e old new there count found far k name lt = by_test (nat_lt k class) refl
  where
    by_test : (b : Bool) → nat_lt k class ≡ b → place_in (old ++ new ∷ []) k name ≡ position (has_name name) (members_at (declarations all) k)
    by_test true is = let before = ltb-true k class is in in_front old new k name (omega (arith, before, count)) ∙ far k name before
    by_test false is =
        let behind = ltb-false k class is in
        let same : k ≡ class = omega (arith, behind, lt) in
        at_end old new k name (same ∙ sym count) ∙ found name
        ∙ ap (λ (o : Option Declaration). position (has_name name) (option_map_or (λ d. d.class.members) o []))
        (get_seen declaration_of all class (Some e) (sym there) ∙ ap (slice_get (declarations all)) (sym same))

-- the members of all classes
pub all_classes_found : (all : List Entry) (class : ℕ) (groups : List Places) → length all ≤ class → length groups ≡ class
    → ((k : ℕ) (name : List ℕ) → k < class → place_in groups k name ≡ position (has_name name) (members_at (declarations all) k))
    → (k : ℕ) (name : List ℕ) → place_in groups k name ≡ position (has_name name) (members_at (declarations all) k)
all_classes_found all class groups over count far k name = by_test (nat_lt k class) refl
  where
    by_test : (b : Bool) → nat_lt k class ≡ b → place_in groups k name ≡ position (has_name name) (members_at (declarations all) k)
    by_test true is = far k name (ltb-true k class is)
    by_test false is =
        let behind = ltb-false k class is in
        let size = length-map all declaration_of in
        past_end groups k name (omega (arith, behind, count))
        ∙ ap (λ (o : Option Declaration). position (has_name name) (option_map_or (λ d. d.class.members) o []))
        (sym (slice_get_past (declarations all) k (omega (arith, behind, over, size))))
