-- Programs that the same reads load are the same, but for where the trees of their bodies lie in memory.
use Rattle.std.proofs.Common.{◌≡◌, Bool, List, [], ◌∷◌, ◌++◌, map, Option, Some, None, Result, Ok, Err, refl, sym, ap, subst, ◌∙◌}
use Rattle.std.specs.Option.{option_map}
use Rattle.std.proofs.lemmas.List.{append-nil}
use Rattle.sed_outside.specs.Steps.{Read, Decides, AndThen, stops, goes_on, Agree}
use Rattle.sed_outside.proofs.One.{IsOne}
use Rattle.sed_classes.specs.declared.kit_units.KitUnits.{KitUnits}
use Rattle.sed_classes.specs.Members.{form_body}
use Rattle.sed_program.specs.Methods.{MethodAt, methods_of}
use Rattle.sed_program.specs.Outlined.{AreHeads}
use Rattle.sed_program.specs.Types.{result_kind}
use Rattle.sed_check.specs.Checked.{IsSpelled}
use Rattle.sed_check.specs.Bodies.{AreBodies, HasTree, judged_body}
use Rattle.sed_faults.specs.declared.fault.Fault.{Fault}
use Rattle.sed_terms.specs.declared.judged.Judged.{Judged}
use Rattle.sed_terms.specs.declared.judged.Judged.TheVariants.{Sound}
use Rattle.sed_terms.specs.Seen.{stmt_term}
use Rattle.sed_terms.specs.Term.{Term}
use Rattle.sed_units.specs.Tree.{Tree}
use Rattle.sed_typed.specs.declared.kind.Kind.{Kind}
use Rattle.sed_typed.specs.declared.program.Method.{Method}
use Rattle.sed_typed.specs.declared.program.Program.{Program}
use Rattle.sed_typed.specs.declared.statement.Stmt.{Stmt}
use Rattle.sed_typed.specs.Bare.{bare_stmt}
use Rattle.sed_typed.specs.Flat.{IsFlatStmt}
use Rattle.kit_sources.specs.declared.refusal.SourcesRefusal.{SourcesRefusal}
use Rattle.kit_sources.specs.declared.sources.Sources.{Sources}
use Rattle.sed_check.specs.declared.refusal.KitsRefusal.{KitsRefusal}
use Rattle.sed_check.specs.Refusals.{AreAlike, of_sources}
use Rattle.sed_check.specs.Loading.{Told, IsChecked}

-- ---- methods

some_injective : (xs ys : List Kind) → map (λ (k : Kind). Some k) xs ≡ map (λ (k : Kind). Some k) ys → xs ≡ ys
some_injective [] [] same = refl
some_injective [] (y ∷ ys) same = cc
some_injective (x ∷ xs) [] same = cc
some_injective (x ∷ xs) (y ∷ ys) same =
    let here : x ≡ y = cc in
    let behind : map (λ (k : Kind). Some k) xs ≡ map (λ (k : Kind). Some k) ys = cc in
    let rest : xs ≡ ys = some_injective xs ys behind in
    λ i. here i ∷ rest i

some_kind : (x y : Kind) (o : Option Kind) → Some x ≡ o → Some y ≡ o → x ≡ y
some_kind x y o one other = cc

-- Methods that declare the same, in bodies that are the same wherever they lie.
record SameMethods (ms ns : List Method) : Type 0 where
  classes : map (λ (m : Method). m.class) ms ≡ map (λ (m : Method). m.class) ns
  names : map (λ (m : Method). m.name) ms ≡ map (λ (m : Method). m.name) ns
  static : map (λ (m : Method). m.is_static) ms ≡ map (λ (m : Method). m.is_static) ns
  virtual : map (λ (m : Method). m.is_virtual) ms ≡ map (λ (m : Method). m.is_virtual) ns
  params : map (λ (m : Method). m.params) ms ≡ map (λ (m : Method). m.params) ns
  results : map (λ (m : Method). m.result) ms ≡ map (λ (m : Method). m.result) ns

same_heads : (units : List KitUnits) (es : List MethodAt) (ms ns : List Method) → AreHeads units es ms → AreHeads units es ns → SameMethods ms ns
same_heads units [] [] [] h k = record { classes = refl; names = refl; static = refl; virtual = refl; params = refl; results = refl }
same_heads units [] [] (n ∷ ns) h k = absurd k
same_heads units [] (m ∷ ms) ns h k = absurd h
same_heads units (e ∷ es) [] ns h k = absurd h
same_heads units (e ∷ es) (m ∷ ms) [] h k = absurd k
same_heads units (e ∷ es) (m ∷ ms) (n ∷ ns) h k =
    let rest = same_heads units es ms ns h.1 k.1 in
    let class = h.0.class ∙ sym k.0.class in
    let name = h.0.name ∙ sym k.0.name in
    let static = h.0.static ∙ sym k.0.static in
    let virtual = h.0.virtual ∙ sym k.0.virtual in
    let params = some_injective m.params n.params (h.0.params ∙ sym k.0.params) in
    let result = some_kind m.result n.result (result_kind units e.owned.kit e.owned.member) h.0.result k.0.result in
    record {
      classes = λ i. class i ∷ rest.classes i;
      names = λ i. name i ∷ rest.names i;
      static = λ i. static i ∷ rest.static i;
      virtual = λ i. virtual i ∷ rest.virtual i;
      params = λ i. params i ∷ rest.params i;
      results = λ i. result i ∷ rest.results i;
    }

-- ---- bodies

-- A term has at most one flat tree, wherever that lies.
abbrev pub OneTree : Type 0
OneTree = (a b : Stmt) → IsFlatStmt a → IsFlatStmt b → stmt_term a ≡ stmt_term b → bare_stmt a ≡ bare_stmt b

one_sound : (x y : Term) (j : Judged Term (List Fault)) → j ≡ Sound x → j ≡ Sound y → x ≡ y
one_sound x y j one other = cc

one_body : OneTree → (units : List KitUnits) (e : MethodAt) (form : Option (List Tree)) (b c : Option Stmt) → HasTree units e form b → HasTree units e form c
    → option_map bare_stmt b ≡ option_map bare_stmt c
one_body one units e None None None h k = refl
one_body one units e None None (Some t) h k = absurd k
one_body one units e None (Some s) c h k = absurd h
one_body one units e (Some all) None c h k = absurd h
one_body one units e (Some all) (Some s) None h k = absurd k
one_body one units e (Some all) (Some s) (Some t) h k =
    let same = one s t h.1 k.1 (one_sound (stmt_term s) (stmt_term t) (judged_body units e all) h.0 k.0) in
    λ i. Some (same i)

same_bodies : OneTree → (units : List KitUnits) (es : List MethodAt) (ms ns : List Method)
    → AreBodies units es (map (λ (m : Method). m.body) ms) → AreBodies units es (map (λ (m : Method). m.body) ns)
    → map (λ (m : Method). option_map bare_stmt m.body) ms ≡ map (λ (m : Method). option_map bare_stmt m.body) ns
same_bodies one units [] [] [] h k = refl
same_bodies one units [] [] (n ∷ ns) h k = absurd k
same_bodies one units [] (m ∷ ms) ns h k = absurd h
same_bodies one units (e ∷ es) [] ns h k = absurd h
same_bodies one units (e ∷ es) (m ∷ ms) [] h k = absurd k
same_bodies one units (e ∷ es) (m ∷ ms) (n ∷ ns) h k =
    let here = one_body one units e (form_body e.owned.member.form) m.body n.body h.0 k.0 in
    let rest = same_bodies one units es ms ns h.1 k.1 in
    λ i. here i ∷ rest i

-- ---- programs

spelled_alike : OneTree → (units others : List KitUnits) (p q : Program) → units ≡ others → IsSpelled units p → IsSpelled others q → AreAlike p q
spelled_alike one units others p q same first other =
    let more = subst (λ (u : List KitUnits). IsSpelled u q) (sym same) other in
    let heads = same_heads units (methods_of units) p.methods q.methods first.outlined.methods more.outlined.methods in
    record {
      schema = first.outlined.schema ∙ sym more.outlined.schema;
      fields = first.outlined.fields ∙ sym more.outlined.fields;
      statics = first.outlined.statics ∙ sym more.outlined.statics;
      texts = first.outlined.texts ∙ sym more.outlined.texts;
      classes = heads.classes;
      names = heads.names;
      static = heads.static;
      virtual = heads.virtual;
      params = heads.params;
      results = heads.results;
      bodies = same_bodies one units (methods_of units) p.methods q.methods first.bodies more.bodies;
    }

ok_err : (p : Program) (r : KitsRefusal) → ◌≡◌ {A = Result Program KitsRefusal} (Ok p) (Err r) → ⊥
ok_err p r same = cc

one_value : {X : Type 0} (x y : X) → ◌≡◌ {A = Result X SourcesRefusal} (Ok x) (Ok y) → x ≡ y
one_value x y same = cc

all_front : (reads front back : List Read) → reads ≡ front ++ back → back ≡ [] → reads ≡ front
all_front reads front back parts none = parts ∙ ap (λ (r : List Read). front ++ r) none ∙ append-nil front

pub load_alike : {X : Type 0} → OneTree → (first : List Read → Result X SourcesRefusal → Type 0) (input : X → Sources) (cycles : Bool) → IsOne first → (reads others : List Read) (p q : Program)
    → AndThen (Told of_sources first) (λ x. Decides (IsChecked cycles (input x))) reads (Ok p)
    → AndThen (Told of_sources first) (λ x. Decides (IsChecked cycles (input x))) others (Ok q)
    → Agree reads others → AreAlike p q
load_alike trees first input cycles one reads others p q (stops r h e) second agree = absurd (ok_err p r e)
load_alike trees first input cycles one reads others p q (goes_on f b x parts h n) (stops r k d) agree = absurd (ok_err q r d)
load_alike trees first input cycles one reads others p q (goes_on f b x parts h n) (goes_on g d y more k m) agree =
    let fronts : Agree f g =
    subst (λ (o : List Read). Agree f o) (all_front others g d more m.none) (subst (λ (r : List Read). Agree r others) (all_front reads f b parts n.none) agree) in
    let same = one_value x y (one f g (Ok x) (Ok y) h k fronts).1 in
    spelled_alike trees (input x).kits (input y).kits p q (ap (λ z. (input z).kits) same) n.holds.1 m.holds.1
