-- What is true of a plan: places, classes and contents by numbers.
use Rattle.std.proofs.Common.{◌≡◌, inl, inr, ℕ, ◌+◌, ◌<◌, ◌≤◌, List, [], ◌∷◌, ◌++◌, length, get_or, nat_lt, Bool, true, false, cond, Option, Some, None, refl, sym, ap, subst, ◌∙◌, arith}
use Rattle.std.specs.Option.{option_map}
use Rattle.std.specs.Prelude.{IsSome, IfSome, IfNone, nat_eq}
use Rattle.std.specs.Str.{bytes_eq}
use Rattle.std.proofs.Math.ListN.{set}
use Rattle.std.proofs.lemmas.Bool.{cases_eq}
use Rattle.std.proofs.lemmas.Bool.Decides.{nat_tests}
use Rattle.std.proofs.lemmas.List.{get_or_default, get_or_push, get_or_append_left}
use Rattle.std.proofs.lemmas.Slice.Eq.{bytes_eq-Decides}
use Rattle.sed_value.specs.declared.value.Value.{Value}
use Rattle.sed_value.specs.declared.value.Value.TheVariants as kept
use Rattle.sed_typed.specs.declared.program.FieldForm.{FieldForm}
use Rattle.sed_typed.specs.declared.program.FieldForm.TheVariants.{Prim, Str, Buf, Array, Object}
use Rattle.sed_typed.specs.declared.program.Program.{Program}
use Rattle.sed_typed.specs.Contents.{Path, value_at, with_value}
use Rattle.sed_typed.specs.Initial.{begun, object_begun}
use Rattle.sed_cells.specs.declared.layout.Node.{Node}
use Rattle.sed_cells.specs.declared.layout.Stands.{Stands}
use Rattle.sed_cells.specs.declared.layout.Stands.TheVariants.{Statics, Part}
use Rattle.sed_cells.specs.Layouts.{Layout, IsLayout, keeps_value, class_standing, node_at, child}
use Rattle.sed_cells.specs.Places.{walk, number_of, known, path_of, value_in, seen, first_of, class_under, stands_at, Plan, IsPlan, classes_in, no_layout, layout_at}
use Rattle.sed_cells.proofs.Numbers.{some_eq, walk-append, walk-step, path_to, path-child, child-inside, number-path, path-number, known-within}
use Rattle.sed_cells.proofs.Found.{AllFound, all-found, statics-found, found-number, seen-first, seen-at, seen-written}
use Rattle.sed_cells.proofs.Kept.{Sub, HasParent, leaf-in, a-piece}
use Rattle.sed_cells.proofs.ClassesThere.{class-there, nothing-there}

-- what stands at the top of a layout
abbrev pub IsTop : Stands → Type 0
IsTop Statics = Unit {0}
IsTop (Part (Prim p)) = ⊥
IsTop (Part (Str n)) = ⊥
IsTop (Part (Buf n)) = ⊥
IsTop (Part (Array p n)) = ⊥
IsTop (Part (Object t)) = Unit {0}

pub top_is : (program : Program) (top : ℕ) → IsTop (stands_at program top)
top_is program top = go (nat_lt top (length program.schema.classes))
  where
    go : (b : Bool) → IsTop (cond b (Part (Object (record { 0 = top }))) Statics)
    go true = tt
    go false = tt

known-is : (nodes : List Node) (n : ℕ) → n < length nodes → known nodes n ≡ n
known-is nodes n h = let e : nat_lt n (length nodes) ≡ true = grind (arith, nat_tests) in ap (λ (b : Bool). cond b n 0) e

module _ (program : Program) (top : Stands) (is : IsTop top) (layout : Layout) (g : IsLayout program top layout) where
  first-found : AllFound layout.nodes layout.values (first_of program top)
  first-found = go top is g.root
    where
      go : (s : Stands) → IsTop s → (node_at layout.nodes 0).stands ≡ s → AllFound layout.nodes layout.values (first_of program s)
      go Statics w e = statics-found program top layout.nodes layout.values g e
      go (Part (Prim p)) w e = absurd w
      go (Part (Str n)) w e = absurd w
      go (Part (Buf n)) w e = absurd w
      go (Part (Array p n)) w e = absurd w
      go (Part (Object t)) w e = all-found program top layout.nodes layout.values g (length program.schema.classes) 0 [] (Object t) (get_or layout.values 0 kept.Nothing)
          (record { within = g.some; found = refl; stands = e; room = g.room; value = g.nothing })

  pub of-fresh : seen layout.nodes (first_of program top) layout.values ≡ first_of program top
  of-fresh = seen-first layout.nodes layout.values (first_of program top) first-found

  root-in : (form : FieldForm) → IsTop (Part form) → (v : Value) → Sub (begun (object_begun program (length program.schema.classes)) [] form v) (first_of program (Part form))
  root-in (Prim p) w v = absurd w
  root-in (Str n) w v = absurd w
  root-in (Buf n) w v = absurd w
  root-in (Array p n) w v = absurd w
  root-in (Object t) w v = λ path h. h

  leaf-there : (k : ℕ) → k < length layout.nodes → keeps_value (node_at layout.nodes k).stands ≡ true → IsSome (value_at (first_of program top) (path_to layout.nodes k))
  leaf-there = leaf-in program top layout.nodes layout.values g (first_of program top)
      (λ form e v. let same : Part form ≡ top = sym e ∙ g.root in subst (λ (s : Stands). Sub (begun (object_begun program (length program.schema.classes)) [] form v) (first_of program s)) same (root-in form (subst IsTop (sym same) is) v))
      (λ e. let same : Statics ≡ top = sym e ∙ g.root in subst (λ (s : Stands). Sub (first_of program Statics) (first_of program s)) same (λ path h. h))

  -- the value that is seen at a node
  pub value-there : (k : ℕ) → k < length layout.nodes → (values : List Value) →
      value_at (seen layout.nodes (first_of program top) values) (path_to layout.nodes k) ≡ cond (keeps_value (node_at layout.nodes k).stands) (Some (get_or values k kept.Nothing)) None
  value-there k h values =
      seen-at layout.nodes (first_of program top) values (path_to layout.nodes k)
      ∙ ap (λ (r : Option ℕ). option_map (λ (_ : Value). value_in values r) (value_at (first_of program top) (path_to layout.nodes k))) (number-path program top layout.nodes layout.values g k h)
      ∙ go (keeps_value (node_at layout.nodes k).stands) refl
    where
      some : (r : Option Value) → IsSome r → option_map (λ (_ : Value). get_or values k kept.Nothing) r ≡ Some (get_or values k kept.Nothing)
      some None w = absurd (let never : false ≡ true = w in cc)
      some (Some v) w = refl

      none : keeps_value (node_at layout.nodes k).stands ≡ false → (r : Option Value) → value_at (first_of program top) (path_to layout.nodes k) ≡ r → option_map (λ (_ : Value). get_or values k kept.Nothing) r ≡ None
      none t None e = refl
      none t (Some v) e =
          let f = found-number layout.nodes layout.values (first_of program top) (path_to layout.nodes k) v first-found e in
          let same : f.0 ≡ k = some_eq (sym f.1 ∙ number-path program top layout.nodes layout.values g k h) in
          let keeps : keeps_value (node_at layout.nodes k).stands ≡ true = subst (λ (n : ℕ). keeps_value (node_at layout.nodes n).stands ≡ true) same f.2 in
          absurd (let never : true ≡ false = sym keeps ∙ t in let no : ⊥ = cc in no)

      go : (b : Bool) → keeps_value (node_at layout.nodes k).stands ≡ b →
          option_map (λ (_ : Value). get_or values k kept.Nothing) (value_at (first_of program top) (path_to layout.nodes k)) ≡ cond b (Some (get_or values k kept.Nothing)) None
      go true t = some (value_at (first_of program top) (path_to layout.nodes k)) (leaf-there k h t)
      go false t = none t (value_at (first_of program top) (path_to layout.nodes k)) refl

  -- nothing is seen at a path without a number
  pub nothing-seen : (path : Path) → number_of layout.nodes path ≡ None → (values : List Value) → value_at (seen layout.nodes (first_of program top) values) path ≡ None
  nothing-seen path e values = seen-at layout.nodes (first_of program top) values path ∙ go (value_at (first_of program top) path) refl
    where
      go : (r : Option Value) → value_at (first_of program top) path ≡ r → option_map (λ (_ : Value). value_in values (number_of layout.nodes path)) r ≡ None
      go None w = refl
      go (Some v) w =
          let f = found-number layout.nodes layout.values (first_of program top) path v first-found w in
          absurd (let never : None ≡ Some f.0 = sym e ∙ f.1 in let no : ⊥ = cc in no)

  pub written-there : (k : ℕ) → k < length layout.nodes → (values : List Value) (v : Value) → k < length values →
      seen layout.nodes (first_of program top) (set values k v) ≡ with_value (seen layout.nodes (first_of program top) values) (path_to layout.nodes k) v
  written-there k h values v lt =
      seen-written layout.nodes k (path_to layout.nodes k) (number-path program top layout.nodes layout.values g k h)
      (λ p m e same. sym (path-number program top layout.nodes layout.values g p m e).1 ∙ ap (path_to layout.nodes) same)
      (first_of program top) values v lt

  no-number : (n k : ℕ) (rest : Path) → n < length layout.nodes → child layout.nodes n k ≡ None → number_of layout.nodes (path_to layout.nodes n ++ k ∷ rest) ≡ None
  no-number n k rest h e =
      walk-append layout.nodes (path_to layout.nodes n) (k ∷ rest) (Some 0)
      ∙ ap (walk layout.nodes (k ∷ rest)) (number-path program top layout.nodes layout.values g n h)
      ∙ ap (walk layout.nodes rest) e

  pub found-at : (place step : ℕ) (r : Option ℕ) → r ≡ child layout.nodes (known layout.nodes place) step → IfSome r (λ m. path_of layout.nodes m ≡ path_of layout.nodes place ++ step ∷ [])
  found-at place step None e = tt
  found-at place step (Some m) e =
      let h = known-within program top layout.nodes layout.values g place in
      let i = child-inside program top layout.nodes layout.values g (known layout.nodes place) step m h (sym e) in
      ap (path_to layout.nodes) (known-is layout.nodes m i.0) ∙ path-child program top layout.nodes layout.values g (known layout.nodes place) step m h (sym e)

  pub nothing-at : (place step : ℕ) (r : Option ℕ) → r ≡ child layout.nodes (known layout.nodes place) step →
      IfNone r ((values : List Value) (rest : Path) → value_at (seen layout.nodes (first_of program top) values) (path_of layout.nodes place ++ step ∷ rest) ≡ None)
  nothing-at place step (Some m) e = tt
  nothing-at place step None e = λ values rest.
      nothing-seen (path_of layout.nodes place ++ step ∷ rest) (no-number (known layout.nodes place) step rest (known-within program top layout.nodes layout.values g place) (sym e)) values

  -- a node past the first as a piece of its parent
  part-of : (m : ℕ) → 0 < m → m < length layout.nodes → HasParent program layout.nodes layout.values m
  part-of = a-piece program top layout.nodes layout.values g (first_of program top)
      (λ form e v. let same : Part form ≡ top = sym e ∙ g.root in subst (λ (s : Stands). Sub (begun (object_begun program (length program.schema.classes)) [] form v) (first_of program s)) same (root-in form (subst IsTop (sym same) is) v))
      (λ e. let same : Statics ≡ top = sym e ∙ g.root in subst (λ (s : Stands). Sub (first_of program Statics) (first_of program s)) same (λ path h. h))

  pub no-class-at : (place step : ℕ) (r : Option ℕ) → r ≡ child layout.nodes (known layout.nodes place) step → IfNone r (class_under program top (path_of layout.nodes place ++ step ∷ []) ≡ None)
  no-class-at place step (Some m) e = tt
  no-class-at place step None e =
      nothing-there program top layout.nodes layout.values g (λ m pos h. let a = part-of m pos h in (a.0, a.1, a.2.stands)) (known layout.nodes place) step
      (known-within program top layout.nodes layout.values g place) (sym e)

  pub class-at : (place : ℕ) → class_under program top (path_of layout.nodes place) ≡ class_standing (node_at layout.nodes (known layout.nodes place)).stands
  class-at place =
      class-there program top layout.nodes layout.values g (λ m pos h. let a = part-of m pos h in (a.0, a.1, a.2.stands)) (known layout.nodes place) (known-within program top layout.nodes layout.values g place)

  pub read-at : (place : ℕ) (r : Option ℕ) → r ≡ cond (keeps_value (node_at layout.nodes (known layout.nodes place)).stands) (Some (known layout.nodes place)) None → (values : List Value) →
      value_at (seen layout.nodes (first_of program top) values) (path_of layout.nodes place) ≡ option_map (λ n. get_or values n kept.Nothing) r
  read-at place r e values =
      value-there (known layout.nodes place) (known-within program top layout.nodes layout.values g place) values
      ∙ go (keeps_value (node_at layout.nodes (known layout.nodes place)).stands)
      ∙ ap (option_map (λ (n : ℕ). get_or values n kept.Nothing)) (sym e)
    where
      go : (b : Bool) → cond b (Some (get_or values (known layout.nodes place) kept.Nothing)) None ≡ option_map (λ (n : ℕ). get_or values n kept.Nothing) (cond b (Some (known layout.nodes place)) None)
      go true = refl
      go false = refl

  pub written-at : (place : ℕ) (r : Option ℕ) → r ≡ cond (keeps_value (node_at layout.nodes (known layout.nodes place)).stands) (Some (known layout.nodes place)) None →
      IfSome r (λ n. (values : List Value) (v : Value) → n < length values → seen layout.nodes (first_of program top) (set values n v) ≡ with_value (seen layout.nodes (first_of program top) values) (path_of layout.nodes place) v)
  written-at place None e = tt
  written-at place (Some n) e = λ values v lt. go (keeps_value (node_at layout.nodes (known layout.nodes place)).stands) e values v lt
    where
      go : (b : Bool) → Some n ≡ cond b (Some (known layout.nodes place)) None → (values : List Value) (v : Value) → n < length values →
          seen layout.nodes (first_of program top) (set values n v) ≡ with_value (seen layout.nodes (first_of program top) values) (path_of layout.nodes place) v
      go false w values v lt = absurd (let never : Some n ≡ None = w in let no : ⊥ = cc in no)
      go true w values v lt =
          let same : n ≡ known layout.nodes place = some_eq w in
          let less : known layout.nodes place < length values = omega arith in
          ap (λ (k : ℕ). seen layout.nodes (first_of program top) (set values k v)) same
          ∙ written-there (known layout.nodes place) (known-within program top layout.nodes layout.values g place) values v less

  pub same-at : (a b : ℕ) → nat_eq (known layout.nodes a) (known layout.nodes b) ≡ bytes_eq (path_of layout.nodes a) (path_of layout.nodes b)
  same-at a b = elim (cases_eq (known layout.nodes a) (known layout.nodes b)) [
    | inl e ↦
        let yes : nat_eq (known layout.nodes a) (known layout.nodes b) ≡ true = grind (arith, nat_tests) in
        yes ∙ sym ((bytes_eq-Decides (path_of layout.nodes a) (path_of layout.nodes b)).1 (ap (path_to layout.nodes) e))
    | inr ne ↦
        let no : nat_eq (known layout.nodes a) (known layout.nodes b) ≡ false = grind (arith, nat_tests) in
        no ∙ go (bytes_eq (path_of layout.nodes a) (path_of layout.nodes b)) refl ne
  ]
    where
      go : (r : Bool) → bytes_eq (path_of layout.nodes a) (path_of layout.nodes b) ≡ r → (known layout.nodes a ≡ known layout.nodes b → ⊥) → false ≡ r
      go false t ne = refl
      go true t ne =
          let same : path_of layout.nodes a ≡ path_of layout.nodes b = (bytes_eq-Decides (path_of layout.nodes a) (path_of layout.nodes b)).0 t in
          let na = number-path program top layout.nodes layout.values g (known layout.nodes a) (known-within program top layout.nodes layout.values g a) in
          let nb = number-path program top layout.nodes layout.values g (known layout.nodes b) (known-within program top layout.nodes layout.values g b) in
          absurd (ne (some_eq (sym na ∙ ap (number_of layout.nodes) same ∙ nb)))

-- ---- plans

module _ (plan : Plan) (ok : IsPlan plan) (top : ℕ) (within : top ≤ classes_in plan) where
  pub layout-is : (x : Layout) → x ≡ get_or plan.layouts top x → x ≡ layout_at plan top
  layout-is x e = let h : top < length plan.layouts = omega (arith, ok.layouts) in e ∙ get_or_default plan.layouts top x _ h

  pub has-layout : top < length plan.layouts
  has-layout = omega (arith, ok.layouts)

  pub layout-ok : IsLayout plan.program (stands_at plan.program top) (layout_at plan top)
  layout-ok = ok.each top within

-- ---- layouts one after another

pub stands-class : (program : Program) (top class : ℕ) → top < length program.schema.classes → class ≡ top → Part (Object (record { 0 = class })) ≡ stands_at program top
stands-class program top class h e =
    let b : nat_lt top (length program.schema.classes) ≡ true = grind (arith, nat_tests) in
    ap (λ (n : ℕ). Part (Object (record { 0 = n }))) e ∙ ap (λ (x : Bool). cond x (Part (Object (record { 0 = top }))) Statics) (sym b)

pub stands-statics : (program : Program) (top : ℕ) → length program.schema.classes ≤ top → Statics ≡ stands_at program top
stands-statics program top h =
    let b : nat_lt top (length program.schema.classes) ≡ false = grind (arith, nat_tests) in
    ap (λ (x : Bool). cond x (Part (Object (record { 0 = top }))) Statics) (sym b)

pub one-more : (program : Program) (xs : List Layout) (x : Layout) (n : ℕ) → length xs ≡ n → ((k : ℕ) → k < n → IsLayout program (stands_at program k) (get_or xs k no_layout)) →
    IsLayout program (stands_at program n) x → (k : ℕ) → k < n + 1 → IsLayout program (stands_at program k) (get_or (xs ++ x ∷ []) k no_layout)
one-more program xs x n len each ok k h = elim (cases_eq k n) [
  | inl e ↦
      let last : x ≡ get_or (xs ++ x ∷ []) k no_layout = sym (get_or_push xs x no_layout k (len ∙ sym e)) in
      subst (λ (l : Layout). IsLayout program (stands_at program k) l) last (subst (λ (m : ℕ). IsLayout program (stands_at program m) x) (sym e) ok)
  | inr ne ↦
      let before : k < n = omega arith in
      let inside : k < length xs = omega (arith, len) in
      subst (λ (l : Layout). IsLayout program (stands_at program k) l) (sym (get_or_append_left xs (x ∷ []) no_layout k inside)) (each k before)
]
