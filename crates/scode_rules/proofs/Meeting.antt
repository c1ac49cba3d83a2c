-- Needs that are met cell by cell.
use Rattle.std.proofs.Common.{◌≡◌, ℕ, zero, suc, ◌+◌, ◌-◌, ◌<◌, ◌≤◌, Bool, true, false, if◌then◌else◌, ◌&&◌, List, [], ◌∷◌, ◌++◌, drop, length, map, reverse, slice_get, get_or, Option, Some, refl, ap, sym, ◌∙◌, arith}
use Rattle.std.specs.Option.{option_map}
use Rattle.std.proofs.Math.Bool.{and_assoc, and-true}
use Rattle.std.proofs.lemmas.List.{drop_all, get_or_default, length-map, length-reverse, map-append, reverse-append}
use Rattle.std.proofs.lemmas.Option.{slice_get-map}
use Rattle.scode_image.specs.declared.image.Image.{Image}
use Rattle.scode_image.specs.declared.image.ImageKind.{ImageKind}
use Rattle.scode_image.specs.declared.image.ImageMethod.{ImageMethod}
use Rattle.scode_code.specs.Calls.{is_instance}
use Rattle.scode_code.specs.CodeRules.{all_meet}
use Rattle.scode_code.specs.Kinds.{object}
use Rattle.scode_code.specs.Wants as wants
use Rattle.scode_code.specs.declared.needs.Need.{Need}
use Rattle.scode_code.specs.declared.needs.Need.TheVariants as need
use Rattle.scode_rules.specs.Words.{meets_at}
use Rattle.scode_rules.proofs.Rows.{get_from_top}

pub one_meets : (image : Image) (a : Need) (ks : List ImageKind)
    → all_meet image (a ∷ []) ks ≡ meets_at image a (slice_get ks 0)
one_meets image a [] = refl
one_meets image a (k ∷ ks) = and-true (wants.meets image a k)

pub two_meet : (image : Image) (a b : Need) (ks : List ImageKind)
    → all_meet image (a ∷ b ∷ []) ks ≡ (meets_at image a (slice_get ks 0) && meets_at image b (slice_get ks 1))
two_meet image a b [] = refl
two_meet image a b (k ∷ ks) = ap (λ (t : Bool). wants.meets image a k && t) (one_meets image b ks)

pub three_meet : (image : Image) (a b c : Need) (ks : List ImageKind)
    → all_meet image (a ∷ b ∷ c ∷ []) ks
    ≡ ((meets_at image a (slice_get ks 0) && meets_at image b (slice_get ks 1)) && meets_at image c (slice_get ks 2))
three_meet image a b c [] = refl
three_meet image a b c (k ∷ ks) =
    ap (λ (t : Bool). wants.meets image a k && t) (two_meet image b c ks)
    ∙ sym (and_assoc (wants.meets image a k) (meets_at image b (slice_get ks 0)) (meets_at image c (slice_get ks 1)))

-- ---- arguments, the last on top, and a receiver below them

receiver_below : (image : Image) (needs : List Need) (r : Need) (ks : List ImageKind)
    → all_meet image (needs ++ r ∷ []) ks ≡ (all_meet image needs ks && meets_at image r (slice_get ks (length needs)))
receiver_below image [] r ks = one_meets image r ks
receiver_below image (n ∷ ns) r [] = refl
receiver_below image (n ∷ ns) r (k ∷ ks) =
    ap (λ (t : Bool). wants.meets image n k && t) (receiver_below image ns r ks)
    ∙ sym (and_assoc (wants.meets image n k) (all_meet image ns ks) (meets_at image r (slice_get ks (length ns))))

-- what a method takes with a receiver, or without
abbrev taken_by : ℕ → Bool → List ImageKind → List Need
taken_by class b params = map need.Goes (reverse ((if b then object class ∷ [] else []) ++ params))

pub arguments_without : (image : Image) (class : ℕ) (m : ImageMethod) (ks : List ImageKind) → is_instance m ≡ false
    → all_meet image (wants.argument_needs class m) ks ≡ all_meet image (map need.Goes (reverse m.params)) ks
arguments_without image class m ks fixed = ap (λ (b : Bool). all_meet image (taken_by class b m.params) ks) fixed

pub arguments_with : (image : Image) (class : ℕ) (m : ImageMethod) (ks : List ImageKind) → is_instance m ≡ true
    → all_meet image (wants.argument_needs class m) ks
    ≡ (all_meet image (map need.Goes (reverse m.params)) ks
    && meets_at image (need.Goes (object class)) (slice_get ks (length m.params)))
arguments_with image class m ks own =
    let kinds : reverse (object class ∷ m.params) ≡ reverse m.params ++ object class ∷ [] = reverse-append (object class ∷ []) m.params in
    let needs : map need.Goes (reverse (object class ∷ m.params)) ≡ map need.Goes (reverse m.params) ++ need.Goes (object class) ∷ [] =
    ap (λ (xs : List ImageKind). map need.Goes xs) kinds ∙ map-append need.Goes (reverse m.params) (object class ∷ []) in
    let long : length (map need.Goes (reverse m.params)) ≡ length m.params =
    length-map (reverse m.params) need.Goes ∙ length-reverse m.params in
    ap (λ (b : Bool). all_meet image (taken_by class b m.params) ks) own
    ∙ ap (λ (ns : List Need). all_meet image ns ks) needs
    ∙ receiver_below image (map need.Goes (reverse m.params)) (need.Goes (object class)) ks
    ∙ ap (λ (n : ℕ). all_meet image (map need.Goes (reverse m.params)) ks && meets_at image (need.Goes (object class)) (slice_get ks n))
    long

-- ---- one cell after the other

none_left : (image : Image) (ns : List Need) → all_meet image ns [] ≡ true
none_left image [] = refl
none_left image (n ∷ ns) = refl

none_at : (image : Image) (ns : List Need) (d : ℕ) → all_meet image ns (drop d []) ≡ true
none_at image ns d = ap (λ (ks : List ImageKind). all_meet image ns ks) (drop_all d [] (omega arith)) ∙ none_left image ns

next_at : (image : Image) (needs : List Need) (ks : List ImageKind) (d : ℕ) (n : Need) → slice_get needs d ≡ Some n
    → all_meet image (drop d needs) (drop d ks)
    ≡ (meets_at image n (slice_get ks d) && all_meet image (drop (suc d) needs) (drop (suc d) ks))
next_at image [] ks d n is = cc
next_at image (m ∷ ns) [] d n is = none_at image (drop d (m ∷ ns)) d ∙ sym (none_at image (drop (suc d) (m ∷ ns)) (suc d))
next_at image (m ∷ ns) (k ∷ ks) zero n is =
    let same : m ≡ n = cc in
    ap (λ (x : Need). wants.meets image x k && all_meet image ns ks) same
next_at image (m ∷ ns) (k ∷ ks) (suc d) n is = next_at image ns ks d n is

need_at : (params : List ImageKind) (d : ℕ) (p : ImageKind) → d < length params → p ≡ get_or params (length params - 1 - d) p
    → slice_get (map need.Goes (reverse params)) d ≡ Some (need.Goes p)
need_at params d p within is =
    slice_get-map need.Goes (reverse params) d
    ∙ ap (λ (o : Option ImageKind). option_map need.Goes o)
    (get_from_top params d p within ∙ ap (λ (k : ImageKind). Some k) (sym is))

-- the cells from a depth on meet the parameters that are left
abbrev pub meet_from : Image → List ImageKind → List ImageKind → ℕ → Bool
meet_from image params ks d = all_meet image (drop d (map need.Goes (reverse params))) (drop d ks)

meets_next : (image : Image) (params ks : List ImageKind) (d : ℕ) (p : ImageKind) → d < length params
    → p ≡ get_or params (length params - 1 - d) p
    → meet_from image params ks d ≡ (meets_at image (need.Goes p) (slice_get ks d) && meet_from image params ks (d + 1))
meets_next image params ks d p within is =
    let one : suc d ≡ d + 1 = omega arith in
    next_at image (map need.Goes (reverse params)) ks d (need.Goes p) (need_at params d p within is)
    ∙ ap (λ (n : ℕ). meets_at image (need.Goes p) (slice_get ks d) && meet_from image params ks n) one

pub meets_not : (image : Image) (params ks : List ImageKind) (d : ℕ) (p : ImageKind) → d < length params
    → p ≡ get_or params (length params - 1 - d) p → meets_at image (need.Goes p) (slice_get ks d) ≡ false
    → meet_from image params ks d ≡ false
meets_not image params ks d p within is fails =
    meets_next image params ks d p within is ∙ ap (λ (b : Bool). b && meet_from image params ks (d + 1)) fails

pub meets_on : (image : Image) (params ks : List ImageKind) (d : ℕ) (p : ImageKind) → d < length params
    → p ≡ get_or params (length params - 1 - d) p → meets_at image (need.Goes p) (slice_get ks d) ≡ true
    → meet_from image params ks d ≡ meet_from image params ks (d + 1)
meets_on image params ks d p within is holds =
    meets_next image params ks d p within is ∙ ap (λ (b : Bool). b && meet_from image params ks (d + 1)) holds

pub meets_all : (image : Image) (params ks : List ImageKind) (d : ℕ) → length params ≤ d → meet_from image params ks d ≡ true
meets_all image params ks d past =
    ap (λ (ns : List Need). all_meet image ns (drop d ks))
    (drop_all d (map need.Goes (reverse params))
    (omega (arith, length-map (reverse params) need.Goes, length-reverse params)))

pub meets_not_at : (image : Image) (params ks : List ImageKind) (d : ℕ) (e : ImageKind) → d < length params
    → meets_at image (need.Goes (get_or params (length params - 1 - d) e)) (slice_get ks d) ≡ false
    → meet_from image params ks d ≡ false
meets_not_at image params ks d e within fails =
    meets_not image params ks d (get_or params (length params - 1 - d) e) within
    (get_or_default params (length params - 1 - d) e (get_or params (length params - 1 - d) e) (omega arith)) fails

pub meets_on_at : (image : Image) (params ks : List ImageKind) (d : ℕ) (e : ImageKind) → d < length params
    → meets_at image (need.Goes (get_or params (length params - 1 - d) e)) (slice_get ks d) ≡ true
    → meet_from image params ks d ≡ meet_from image params ks (d + 1)
meets_on_at image params ks d e within holds =
    meets_on image params ks d (get_or params (length params - 1 - d) e) within
    (get_or_default params (length params - 1 - d) e (get_or params (length params - 1 - d) e) (omega arith)) holds

pub ruleset each_meets = (one_meets, two_meet, three_meet)
