-- Methods that are judged one after another.
use Rattle.std.proofs.Common.{◌≡◌, ℕ, ◌+◌, ◌<◌, Bool, true, ◌&&◌, List, [], ◌∷◌, ◌++◌, map, take, length, get_or, Option, sym, ap, subst, ◌∙◌, arith}
use Rattle.std.specs.List.{enumerate_from, flat_map, list_all}
use Rattle.std.proofs.Math.Numerals.{add-one}
use Rattle.std.proofs.Math.Seq.{take-suc}
use Rattle.std.proofs.lemmas.Grind.{flat_map-append}
use Rattle.std.proofs.lemmas.List.{append-nil}
use Rattle.std.proofs.lemmas.List.Folds.{list_all-append}
use Rattle.std.proofs.lemmas.List.FromFn.{length-enumerate_from, get_or-enumerate_from}
use Rattle.sed_typed.specs.declared.statement.Stmt.{Stmt}
use Rattle.sed_faults.specs.declared.fault.Fault.{Fault}
use Rattle.sed_faults.specs.Faults.{least as least_of}
use Rattle.sed_classes.specs.declared.kit_units.KitUnits.{KitUnits}
use Rattle.sed_classes.specs.declared.source_type.PlacedFault.{PlacedFault}
use Rattle.sed_classes.specs.Faults.{first_of}
use Rattle.sed_classes.specs.Members.{form_body}
use Rattle.sed_program.specs.Methods.{MethodAt}
use Rattle.sed_check.specs.declared.bodies.Bodies.{Bodies}
use Rattle.sed_check.specs.Bodies.{AreBodies, IsBodyOf, faults_of_form, method_faults, placed_at}
use Rattle.sed_check.specs.Judgements.{AreJudged, Grows, has_known_body, least_fault_at}
use Rattle.std.proofs.lemmas.Bool.{and_parts as both_true}
use Rattle.std.proofs.Math.Bool.{and-true as one_known}

-- ---- one more

bodies_more : (units : List KitUnits) (es : List MethodAt) (bs : List (Option Stmt)) (e : MethodAt) (b : Option Stmt) →
    AreBodies units es bs → IsBodyOf units e b → AreBodies units (es ++ e ∷ []) (bs ++ b ∷ [])
bodies_more units [] [] e b all here = (here, tt)
bodies_more units [] (x ∷ bs) e b all here = absurd all
bodies_more units (x ∷ es) [] e b all here = absurd all
bodies_more units (x ∷ es) (y ∷ bs) e b all here = (all.0, bodies_more units es bs e b all.1 here)

pub grown_by_one : (units : List KitUnits) (e : MethodAt) (old new : Bodies) (fault : Option Fault) (known : Bool)
    (tree : Option Stmt) →
    fault ≡ least_fault_at units e → known ≡ has_known_body units e → (known ≡ true → IsBodyOf units e tree) →
    ((xs : List Fault) (ys : List PlacedFault) → fault ≡ least_of xs → old.first ≡ first_of ys →
    new.first ≡ first_of (ys ++ placed_at units e.owned.class xs)) →
    new.are_known ≡ (old.are_known && known) → new.trees.items ≡ old.trees.items ++ tree ∷ [] →
    Grows units (e ∷ []) old new
grown_by_one units e old new fault known tree least is_known body first are_known trees before judged = record {
  fault =
      first (faults_of_form units e (form_body e.owned.member.form))
      (flat_map (method_faults units) before) least judged.fault
      ∙ sym (ap first_of (flat_map-append (method_faults units) before (e ∷ [])
      ∙ ap (λ fs. flat_map (method_faults units) before ++ fs) (append-nil (method_faults units e))));
  known =
      are_known
      ∙ ap (λ k. k && known) judged.known
      ∙ ap (λ k. list_all (has_known_body units) before && k) (is_known ∙ sym (one_known (has_known_body units e)))
      ∙ sym (list_all-append (has_known_body units) before (e ∷ []));
  bodies = λ k.
      let all = both_true old.are_known known (sym are_known ∙ k) in
      subst (AreBodies units (before ++ e ∷ [])) (sym trees)
      (bodies_more units before old.trees.items e tree (judged.bodies all.0) (body all.1));
}

-- ---- the classes in their order

take_more : {X : Type 0} (xs : List X) (i : ℕ) (x : X) → i < length xs → get_or xs i x ≡ x →
    take (i + 1) xs ≡ take i xs ++ x ∷ []
take_more xs i x h e = ap (λ n. take n xs) (add-one i) ∙ take-suc xs i x h ∙ ap (λ y. take i xs ++ y ∷ []) e

numbered_more : (xs : List ℕ) (i : ℕ) (x : ℕ) → i < length xs → get_or xs i x ≡ x →
    take (i + 1) (enumerate_from 0 xs) ≡ take i (enumerate_from 0 xs) ++ (i, x) ∷ []
numbered_more xs i x h e =
    let within : i < length (enumerate_from 0 xs) = omega (arith, length-enumerate_from 0 xs) in
    let start : 0 + i ≡ i = omega arith in
    let at : get_or (enumerate_from 0 xs) i (i, x) ≡ (i, x) =
    get_or-enumerate_from 0 xs i (i, x) h ∙ ap (λ n. (n, get_or xs i x)) start ∙ ap (λ y. (i, y)) e in
    take_more (enumerate_from 0 xs) i (i, x) within at

-- the classes in their order, with one class more
pub judged_with_class : (units : List KitUnits) (f : ℕ × ℕ → List MethodAt) (xs : List ℕ) (i x : ℕ) (b c : Bodies) →
    i < length xs → get_or xs i x ≡ x → AreJudged units (flat_map f (take i (enumerate_from 0 xs))) b →
    Grows units (f (i, x)) b c → AreJudged units (flat_map f (take (i + 1) (enumerate_from 0 xs))) c
judged_with_class units f xs i x b c h e far one =
    let front = flat_map f (take i (enumerate_from 0 xs)) in
    let same : flat_map f (take (i + 1) (enumerate_from 0 xs)) ≡ front ++ f (i, x) =
    ap (flat_map f) (numbered_more xs i x h e)
    ∙ flat_map-append f (take i (enumerate_from 0 xs)) ((i, x) ∷ [])
    ∙ ap (λ es. front ++ es) (append-nil (f (i, x))) in
    subst (λ l. AreJudged units l c) (sym same) (one front far)
