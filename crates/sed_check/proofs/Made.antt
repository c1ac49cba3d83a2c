-- Rows of methods that grow, each with the next of some bodies.
use Rattle.std.proofs.Common.{◌≡◌, ◌<◌, ◌≤◌, ℕ, ◌+◌, List, [], ◌∷◌, ◌++◌, map, filter, take, length, get_or}
use Rattle.std.proofs.Common.{true, if◌then◌else◌}
use Rattle.std.proofs.Common.{Result, Ok, Err, IfOk, Option, Some, None, refl, subst, sym, ap, ◌∙◌, append_assoc, arith}
use Rattle.std.specs.List.{enumerate_from, flat_map}
use Rattle.std.proofs.lemmas.List.{append-nil, map-append, take_all}
use Rattle.std.proofs.lemmas.List.Elements.{filter-append}
use Rattle.sed_units.specs.Tree.{Tree}
use Rattle.sed_units.specs.declared.classes.Member.{Member}
use Rattle.sed_typed.specs.declared.program.Method.{Method}
use Rattle.sed_typed.specs.declared.statement.Stmt.{Stmt}
use Rattle.sed_classes.specs.declared.kit_units.KitUnits.{KitUnits}
use Rattle.sed_classes.specs.Members.{form_body, is_method}
use Rattle.sed_classes.specs.Schema.{class_order}
use Rattle.sed_program.specs.Methods.{MethodAt, methods_in, methods_of}
use Rattle.sed_program.specs.Outlined.{AreHeads, IsHead, is_there}
use Rattle.sed_program.proofs.FieldRows.{classes_step}
use Rattle.sed_program.proofs.Lists.{front_more}
use Rattle.sed_check.specs.Bodies.{AreBodies, HasTree}
use Rattle.sed_check.specs.Parts.{AreDeclared, AreMade, AreMethods, Grows, IsDeclared}

-- ---- one row after another

pub grows_none : (units : List KitUnits) (ms : List Method) (left : List (Option Stmt)) → Grows units [] ms left ms left
grows_none units ms left es bodies made = subst (λ xs. AreMade units xs bodies ms left) (sym (append-nil es)) made

pub grows_more : (units : List KitUnits) (a b : List MethodAt) (ms : List Method) (left : List (Option Stmt))
    (next : List Method) (next_left : List (Option Stmt)) (last : List Method) (last_left : List (Option Stmt)) →
    Grows units a ms left next next_left → Grows units b next next_left last last_left →
    Grows units (a ++ b) ms left last last_left
grows_more units a b ms left next next_left last last_left f g es bodies made =
    subst
    (λ xs. AreMade units xs bodies last last_left)
    (append_assoc es a b)
    (g (es ++ a) bodies (f es bodies made))

pub grows_same : (units : List KitUnits) (a b : List MethodAt) (ms : List Method) (left : List (Option Stmt))
    (last : List Method) (last_left : List (Option Stmt)) → a ≡ b → Grows units a ms left last last_left →
    Grows units b ms left last last_left
grows_same units a b ms left last last_left e f =
    subst (λ xs. Grows units xs ms left last last_left) e f

-- ---- one method more

declared_more : (units : List KitUnits) (es : List MethodAt) (ms : List Method) (e : MethodAt) (m : Method) →
    AreDeclared units es ms → IsDeclared units e m → AreDeclared units (es ++ e ∷ []) (ms ++ m ∷ [])
declared_more units [] [] e m d one = (one, tt)
declared_more units (x ∷ es) (y ∷ ms) e m d one = (d.0, declared_more units es ms e m d.1 one)
declared_more units [] (y ∷ ms) e m d one = absurd d
declared_more units (x ∷ es) [] e m d one = absurd d

pub grows_one : (units : List KitUnits) (e : MethodAt) (m : Method) (ms : List Method) (left : List (Option Stmt))
    (last : List Method) (last_left : List (Option Stmt)) → IsDeclared units e m → left ≡ m.body ∷ last_left →
    last ≡ ms ++ m ∷ [] → Grows units (e ∷ []) ms left last last_left
grows_one units e m ms left last last_left one next put es bodies made = record {
  declared =
      subst (AreDeclared units (es ++ e ∷ [])) (sym put) (declared_more units es ms e m made.declared one);
  bodied =
      ap (λ xs. map (λ (x : Method). x.body) xs ++ last_left) put
      ∙ ap (λ xs. xs ++ last_left) (map-append (λ (x : Method). x.body) ms (m ∷ []))
      ∙ append_assoc (map (λ (x : Method). x.body) ms) (m.body ∷ []) last_left
      ∙ ap (λ xs. map (λ (x : Method). x.body) ms ++ xs) (sym next)
      ∙ made.bodied;
}

-- ---- the members of a class, and the classes

pub one_method : (f : Member → MethodAt) (m : Member) → is_method m ≡ true →
    f m ∷ [] ≡ map f (filter is_method (m ∷ []))
one_method f m e = ap (λ b. map f (if b then m ∷ [] else [])) (sym e)

pub members_more : (f : Member → MethodAt) (n : ℕ) (items ms : List Member) (m : Member) → items ≡ ms →
    n < length items → m ≡ get_or items n m →
    map f (filter is_method (take n ms)) ++ map f (filter is_method (m ∷ []))
    ≡ map f (filter is_method (take (n + 1) ms))
members_more f n items ms m q h e =
    sym (map-append f (filter is_method (take n ms)) (filter is_method (m ∷ [])))
    ∙ ap (map f) (sym (filter-append is_method (take n ms) (m ∷ [])))
    ∙ ap (λ xs. map f (filter is_method (take n xs ++ m ∷ []))) (sym q)
    ∙ ap (λ xs. map f (filter is_method xs)) (sym (front_more n items m h e))
    ∙ ap (λ xs. map f (filter is_method (take (n + 1) xs))) q

pub members_all : (f : Member → MethodAt) (n : ℕ) (items ms : List Member) → items ≡ ms → length items ≤ n →
    map f (filter is_method (take n ms)) ≡ map f (filter is_method ms)
members_all f n items ms q h =
    let past : length ms ≤ n = omega (arith, h, ap length q) in
    ap (λ xs. map f (filter is_method xs)) (take_all n ms past)

pub classes_more : (units : List KitUnits) (n : ℕ) (order : List ℕ) (class : ℕ) → n < length order →
    class ≡ get_or order n class →
    flat_map (methods_in units) (enumerate_from 0 (take n order)) ++ methods_in units (n, class)
    ≡ flat_map (methods_in units) (enumerate_from 0 (take (n + 1) order))
classes_more units n order class h e =
    classes_step
    (methods_in units)
    n
    order
    class
    (flat_map (methods_in units) (enumerate_from 0 (take n order)))
    (flat_map (methods_in units) (enumerate_from 0 (take n order)) ++ methods_in units (n, class))
    h
    e
    refl
    refl

pub classes_all : (units : List KitUnits) (n : ℕ) (order : List ℕ) → order ≡ class_order units → length order ≤ n →
    flat_map (methods_in units) (enumerate_from 0 (take n order)) ≡ methods_of units
classes_all units n order q h =
    ap (λ xs. flat_map (methods_in units) (enumerate_from 0 xs)) (take_all n order h ∙ q)

-- ---- bodies

there : (units : List KitUnits) (e : MethodAt) (all : Option (List Tree)) (body : Option Stmt) →
    HasTree units e all body → is_there body ≡ is_there all
there units e None None h = refl
there units e (Some all) (Some body) h = refl
there units e None (Some body) h = absurd h
there units e (Some all) None h = absurd h

whole : (units : List KitUnits) (e : MethodAt) (m : Method) → IsDeclared units e m →
    HasTree units e (form_body e.owned.member.form) m.body → IsHead units e m
whole units e m d h = record {
  class = d.class;
  name = d.name;
  static = d.static;
  virtual = d.virtual;
  params = d.params;
  result = d.result;
  bodied = there units e (form_body e.owned.member.form) m.body h;
}

heads : (units : List KitUnits) (es : List MethodAt) (ms : List Method) (left : List (Option Stmt)) →
    AreDeclared units es ms → AreBodies units es (map (λ (m : Method). m.body) ms ++ left) →
    AreHeads units es ms × AreBodies units es (map (λ (m : Method). m.body) ms)
heads units [] [] left d b = (tt, tt)
heads units (e ∷ es) (m ∷ ms) left d b =
    let rest = heads units es ms left d.1 b.1 in
    ((whole units e m d.0 b.0, rest.0), (b.0, rest.1))
heads units [] (m ∷ ms) left d b = absurd d
heads units (e ∷ es) [] left d b = absurd d

pub made_heads : (units : List KitUnits) (bodies : List (Option Stmt)) (ms : List Method) → AreMethods units bodies ms →
    AreBodies units (methods_of units) bodies →
    AreHeads units (methods_of units) ms × AreBodies units (methods_of units) (map (λ (m : Method). m.body) ms)
made_heads units bodies ms made are =
    heads
    units
    (methods_of units)
    ms
    made.0
    made.1.declared
    (subst (AreBodies units (methods_of units)) (sym made.1.bodied) are)

-- ---- all methods

pub made_from : (units : List KitUnits) (bodies given : List (Option Stmt)) (ms : List Method)
    (left : List (Option Stmt)) → given ≡ bodies → Grows units (methods_of units) [] given ms left →
    AreMethods units bodies ms
made_from units bodies given ms left e grows = (left, grows [] bodies (record { declared = tt; bodied = e }))

pub if_ok : {A E : Type 0} (P Q : A → Type 0) (r : Result A E) → ((a : A) → P a → Q a) → IfOk r P → IfOk r Q
if_ok P Q (Ok a) f p = f a p
if_ok P Q (Err e) f p = tt
