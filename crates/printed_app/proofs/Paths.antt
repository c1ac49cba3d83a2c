-- The path of a component and that of its parent.
use Rattle.std.proofs.Common.{◌≡◌, ℕ, zero, suc, ◌<◌, ◌≤◌, ◌==◌, if◌then◌else◌, Bool, false, [], ◌∷◌, ◌++◌, Option}
use Rattle.std.proofs.Common.{Some, None, codes, refl, sym, ap, subst, ◌∙◌, reverse, arith}
use Rattle.std.specs.List.{flat_map}
use Rattle.std.specs.Option.{option_and_then}
use Rattle.std.proofs.lemmas.Bool.Decides.{nat_tests}
use Rattle.sed_typed.specs.Classes.{reached}
use Rattle.comp_tree.specs.Application.{ById, children_of, is_live, name_of, parent_of}
use Rattle.comp_tree.specs.Order.{ancestors}
use Rattle.comp_tree.specs.Shape.{IsTree, up_by}
use Rattle.printed_app.specs.Application.{path_text, step_text}
use Rattle.printed_app.proofs.Steps.{flat_map-reverse}

-- nothing goes on from nothing
from_none : (next : ℕ → Option ℕ) (k : ℕ) → reached next k None ≡ []
from_none next zero = refl
from_none next (suc k) = refl

-- where the root is within reach, one step more reaches nothing else
enough : (next : ℕ → Option ℕ) (n k at : ℕ) → next 0 ≡ None → up_by next n at ≡ Some 0 → n ≤ k →
    reached next k (next at) ≡ reached next (suc k) (next at)
enough next zero k at root is few =
    let zero_at : at ≡ 0 = cc in
    let none : next at ≡ None = ap next zero_at ∙ root in
    subst (λ (o : Option ℕ). reached next k o ≡ reached next (suc k) o) (sym none)
    (from_none next k ∙ sym (from_none next (suc k)))
enough next (suc n) zero at root is few = absurd (omega arith)
enough next (suc n) (suc k) at root is few = by_case (next at) (λ b e. enough next n k b root e (omega arith)) is
  where
    by_case : (o : Option ℕ) →
        ((b : ℕ) → up_by next n b ≡ Some 0 → reached next k (next b) ≡ reached next (suc k) (next b)) →
        option_and_then (up_by next n) o ≡ Some 0 → reached next (suc k) o ≡ reached next (suc (suc k)) o
    by_case None again e = refl
    by_case (Some b) again e = ap (λ l. b ∷ l) (again b e)

-- from a component whose parent is there the root is within reach of the parent
above : (next : ℕ → Option ℕ) (n id up : ℕ) → next 0 ≡ None → next id ≡ Some up → up_by next n id ≡ Some 0 → n ≤ 16 →
    (k : ℕ) × (up_by next k up ≡ Some 0) × (k ≤ 16)
above next zero id up root parent is few =
    let zero_id : id ≡ 0 = cc in
    absurd (let no : ◌≡◌ {A = Option ℕ} None (Some up) = sym (ap next zero_id ∙ root) ∙ parent in cc)
above next (suc n) id up root parent is few =
    (n, sym (ap (option_and_then (up_by next n)) parent) ∙ is, omega arith)

not_root : (next : ℕ → Option ℕ) (id up : ℕ) → next 0 ≡ None → next id ≡ Some up → 0 < id
not_root next zero up root parent = absurd (let no : ◌≡◌ {A = Option ℕ} None (Some up) = sym root ∙ parent in cc)
not_root next (suc id) up root parent = grind arith

other : (id : ℕ) → 0 < id → (id == 0) ≡ false
other id more = grind (arith, nat_tests)

-- what the path has of a component that is not the App
pub step : (all : ById) (id : ℕ) → 0 < id → step_text all id ≡ codes "/" ++ name_of all id
step all id more = ap (λ (b : Bool). if b then [] else codes "/" ++ name_of all id) (other id more)

whole : (all : ById) (id : ℕ) → 0 < id → path_text all id ≡ flat_map (step_text all) (reverse (id ∷ ancestors all id))
whole all id more =
    ap (λ (b : Bool). if b then codes "/" else flat_map (step_text all) (reverse (id ∷ ancestors all id)))
    (other id more)

-- a path is what leads to the parent, and the step to the component
down : (all : ById) → IsTree (is_live all) (parent_of all) (children_of all) → (id up : ℕ) →
    parent_of all id ≡ Some up →
    path_text all id ≡ flat_map (step_text all) (reverse (up ∷ ancestors all up)) ++ (codes "/" ++ name_of all id)
down all tree id up parent =
    let next = parent_of all in
    let more = not_root next id up tree.root parent in
    let way = tree.within id (tree.known id up parent) in
    let reach = above next way.0 id up tree.root parent way.2 way.1 in
    let same : ancestors all id ≡ up ∷ ancestors all up =
    ap (reached next 17) parent ∙ ap (λ l. up ∷ l) (enough next reach.0 16 up tree.root reach.1 reach.2) in
    whole all id more ∙ flat_map-reverse (step_text all) id (ancestors all id)
    ∙ ap (λ l. flat_map (step_text all) (reverse l) ++ step_text all id) same
    ∙ ap (λ l. flat_map (step_text all) (reverse (up ∷ ancestors all up)) ++ l) (step all id more)

pub below_app : (all : ById) → IsTree (is_live all) (parent_of all) (children_of all) → (id : ℕ) →
    parent_of all id ≡ Some 0 → path_text all id ≡ codes "/" ++ name_of all id
below_app all tree id parent =
    down all tree id 0 parent
    ∙ ap (λ l. l ++ (codes "/" ++ name_of all id))
    (flat_map-reverse (step_text all) 0 (ancestors all 0)
    ∙ ap (λ (o : Option ℕ). flat_map (step_text all) (reverse (reached (parent_of all) 17 o)) ++ []) tree.root)

pub below_parent : (all : ById) → IsTree (is_live all) (parent_of all) (children_of all) → (id up : ℕ) →
    parent_of all id ≡ Some up → 0 < up → path_text all id ≡ path_text all up ++ (codes "/" ++ name_of all id)
below_parent all tree id up parent more =
    down all tree id up parent ∙ ap (λ l. l ++ (codes "/" ++ name_of all id)) (sym (whole all up more))
