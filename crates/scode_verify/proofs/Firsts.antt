-- The first rule of two lists.
use Rattle.std.proofs.Common.{◌≡◌, ℕ, ◌≤◌, ◌||◌, length, cond, Bool, true, false, List, [], ◌∷◌, ◌++◌, refl, ap, ◌∙◌, Option, Some, None}
use Rattle.std.proofs.lemmas.Bool.{ltb-false, or_parts}
use Rattle.scode_image.specs.declared.image.Image.{Image}
use Rattle.scode_image.specs.declared.image.ImageKind.{ImageKind}
use Rattle.scode_image.specs.declared.image.ImageMethod.{ImageMethod}
use Rattle.scode_ops.specs.declared.op.Op.{Op}
use Rattle.scode_code.specs.Kinds.{Shape}
use Rattle.scode_code.specs.CodeRules.{arrives_wrong, broken_by, field_missing, first_of, kind_differs, kind_rules, plain_rules, stack_breaks}
use Rattle.scode_code.specs.Wants.{needs}
use Rattle.scode_rules.specs.Words.{shape}
use Rattle.scode_verify.specs.Words.{carried}

cases_first : (n : ℕ) (b : Bool) (xs ys : List (ℕ × Bool)) (r : ℕ) → cond b (Some n) (first_of xs) ≡ Some r
    → (first_of xs ≡ Some r → first_of (xs ++ ys) ≡ Some r) → cond b (Some n) (first_of (xs ++ ys)) ≡ Some r
cases_first n true xs ys r is more = is
cases_first n false xs ys r is more = more is

pub first_of_front : (xs ys : List (ℕ × Bool)) (r : ℕ) → first_of xs ≡ Some r → first_of (xs ++ ys) ≡ Some r
first_of_front [] ys r is = cc
first_of_front (x ∷ xs) ys r is = cases_first x.0 x.1 xs ys r is (first_of_front xs ys r)

cases_none : (n : ℕ) (b : Bool) (xs ys : List (ℕ × Bool)) → cond b (Some n) (first_of xs) ≡ None
    → (first_of xs ≡ None → first_of (xs ++ ys) ≡ first_of ys) → cond b (Some n) (first_of (xs ++ ys)) ≡ first_of ys
cases_none n true xs ys is more = cc
cases_none n false xs ys is more = more is

pub first_of_behind : (xs ys : List (ℕ × Bool)) → first_of xs ≡ None → first_of (xs ++ ys) ≡ first_of ys
first_of_behind [] ys is = refl
first_of_behind (x ∷ xs) ys is = cases_none x.0 x.1 xs ys is (first_of_behind xs ys)

-- ---- the rules without kinds, and then those with kinds

pub broken_plainly : (image : Image) (m : ImageMethod) (place : ℕ) (wrong stands : Bool) (locals stack : List ImageKind)
    (i : Op) (r : ℕ) → first_of (plain_rules image m place i) ≡ Some r
    → broken_by image m place wrong (carried stands locals stack) i ≡ Some r
broken_plainly image m place wrong true locals stack i r is =
    first_of_front (plain_rules image m place i) (kind_rules image m wrong (shape locals stack) i) r is
broken_plainly image m place wrong false locals stack i r is =
    first_of_front (plain_rules image m place i) ((9, true) ∷ []) r is

pub broken_without_kinds : (image : Image) (m : ImageMethod) (place : ℕ) (wrong stands : Bool)
    (locals stack : List ImageKind) (i : Op) → stands ≡ false → first_of (plain_rules image m place i) ≡ None
    → broken_by image m place wrong (carried stands locals stack) i ≡ Some 9
broken_without_kinds image m place wrong stands locals stack i none is =
    ap (λ (b : Bool). broken_by image m place wrong (carried b locals stack) i) none
    ∙ first_of_behind (plain_rules image m place i) ((9, true) ∷ []) is

pub broken_by_kinds : (image : Image) (m : ImageMethod) (place : ℕ) (wrong stands : Bool) (locals stack : List ImageKind)
    (i : Op) → stands ≡ true → first_of (plain_rules image m place i) ≡ None
    → broken_by image m place wrong (carried stands locals stack) i
    ≡ first_of (kind_rules image m wrong (shape locals stack) i)
broken_by_kinds image m place wrong stands locals stack i some is =
    ap (λ (b : Bool). broken_by image m place wrong (carried b locals stack) i) some
    ∙ first_of_behind (plain_rules image m place i) (kind_rules image m wrong (shape locals stack) i) is

-- ---- where no rule is broken, the cells that are taken are there

cases_behind : (n : ℕ) (b : Bool) (o : Option ℕ) → cond b (Some n) o ≡ None → o ≡ None
cases_behind n true o is = cc
cases_behind n false o is = is

none_behind : (xs ys : List (ℕ × Bool)) → first_of (xs ++ ys) ≡ None → first_of ys ≡ None
none_behind [] ys is = is
none_behind (x ∷ xs) ys is = none_behind xs ys (cases_behind x.0 x.1 (first_of (xs ++ ys)) is)

not_first : (n : ℕ) (b : Bool) (o : Option ℕ) → cond b (Some n) o ≡ None → b ≡ false
not_first n true o is = cc
not_first n false o is = refl

-- and jumps go to entries
pub arrived : (image : Image) (m : ImageMethod) (place : ℕ) (wrong : Bool) (s : Shape) (i : Op)
    → broken_by image m place wrong (Some s) i ≡ None → arrives_wrong image m s i ≡ false
arrived image m place wrong s i none =
    let kinds = none_behind (plain_rules image m place i) (kind_rules image m wrong s i) none in
    let behind_six = cases_behind 6 (stack_breaks image m s i) _ kinds in
    let behind_seven = cases_behind 7 (kind_differs image s i) _ behind_six in
    let behind_eight = cases_behind 8 (field_missing image s.stack i) _ behind_seven in
    (or_parts wrong (arrives_wrong image m s i) (not_first 9 (wrong || arrives_wrong image m s i) _ behind_eight)).1

pub room : (image : Image) (m : ImageMethod) (place : ℕ) (wrong : Bool) (s : Shape) (i : Op)
    → broken_by image m place wrong (Some s) i ≡ None → length (needs image s i) ≤ length s.stack
room image m place wrong s i none =
    let kinds = none_behind (plain_rules image m place i) (kind_rules image m wrong s i) none in
    let cells = not_first 6 (stack_breaks image m s i) _ kinds in
    ltb-false (length s.stack) (length (needs image s i)) (or_parts _ _ (or_parts _ _ cells).0).1
