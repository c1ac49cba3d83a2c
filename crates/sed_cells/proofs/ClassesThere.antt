-- The class of what stands at a node is that at its path.
use Rattle.std.proofs.Common.{◌≡◌, ◌⊎◌, inl, inr, ℕ, zero, suc, ◌+◌, ◌<◌, ◌≤◌, List, [], ◌∷◌, ◌++◌, length, map, get_or, Option, Some, None, refl, sym, ap, ◌∙◌, arith}
use Rattle.std.specs.Prelude.{slice_get}
use Rattle.std.proofs.lemmas.Bool.{cases_lt}
use Rattle.std.proofs.lemmas.List.{length-map, length-replicate, get_or-map, get_or-replicate}
use Rattle.sed_value.specs.declared.value.Value.{Value}
use Rattle.sed_typed.specs.declared.program.Field.{Field}
use Rattle.sed_typed.specs.declared.program.FieldForm.TheVariants.{Prim, Str, Buf, Array, Object}
use Rattle.sed_typed.specs.declared.program.Program.{Program}
use Rattle.sed_typed.specs.Classes.{fields}
use Rattle.sed_typed.specs.Contents.{Path}
use Rattle.sed_typed.specs.Objects.{form_class, field_class, object_class}
use Rattle.sed_cells.specs.declared.layout.Node.{Node}
use Rattle.sed_cells.specs.declared.layout.Stands.{Stands}
use Rattle.sed_cells.specs.declared.layout.Stands.TheVariants.{Statics, Part}
use Rattle.sed_cells.specs.Layouts.{Piece, piece_of, element_of, pieces_of, class_standing, node_at, child, IsGrowing}
use Rattle.sed_cells.specs.Places.{class_under}
use Rattle.sed_cells.proofs.Numbers.{child-some, path_to, path-below, rises}
use Rattle.sed_cells.proofs.Kept.{any_piece}

pub slice-some : {X : Type 0} (xs : List X) (k : ℕ) (d : X) → k < length xs → slice_get xs k ≡ Some (get_or xs k d)
slice-some [] k d h = absurd (omega arith)
slice-some (x ∷ xs) zero d h = refl
slice-some (x ∷ xs) (suc k) d h = slice-some xs k d (omega arith)

slice-none : {X : Type 0} (xs : List X) (k : ℕ) → length xs ≤ k → slice_get xs k ≡ None
slice-none [] k h = refl
slice-none (x ∷ xs) zero h = absurd (omega arith)
slice-none (x ∷ xs) (suc k) h = slice-none xs k (omega arith)

a_field : (all : List Field) (k : ℕ) → k < length all → Field
a_field [] k h = absurd (omega arith)
a_field (f ∷ fs) k h = f

class-end : (program : Program) (r : Option ℕ) → object_class program [] r ≡ r
class-end program None = refl
class-end program (Some c) = refl

class-append : (program : Program) (p q : Path) (r : Option ℕ) → object_class program (p ++ q) r ≡ object_class program q (object_class program p r)
class-append program p q None = refl
class-append program [] q (Some c) = refl
class-append program (i ∷ p) q (Some c) = class-append program p q (field_class (slice_get (fields program c) i))

-- the class of a piece of what stands somewhere
abbrev pub class_of_piece : Program → Stands → ℕ → Option ℕ
class_of_piece program Statics k = field_class (slice_get program.statics k)
class_of_piece program (Part form) k = object_class program (k ∷ []) (form_class form)

under-first : (program : Program) (s : Stands) → class_under program s [] ≡ class_standing s
under-first program Statics = refl
under-first program (Part form) = class-end program (form_class form)

under-one : (program : Program) (s : Stands) (k : ℕ) → class_under program s (k ∷ []) ≡ class_of_piece program s k
under-one program Statics k = class-end program (field_class (slice_get program.statics k))
under-one program (Part form) k = refl

-- past the first step the class comes from the object before
under-more : (program : Program) (s : Stands) (p : Path) (i k : ℕ) → class_under program s ((p ++ i ∷ []) ++ k ∷ []) ≡ object_class program (k ∷ []) (class_under program s (p ++ i ∷ []))
under-more program (Part form) p i k = class-append program (p ++ i ∷ []) (k ∷ []) (form_class form)
under-more program Statics [] i k = ap (λ (r : Option ℕ). object_class program (k ∷ []) r) (sym (class-end program (field_class (slice_get program.statics i))))
under-more program Statics (x ∷ p) i k = class-append program (p ++ i ∷ []) (k ∷ []) (field_class (slice_get program.statics x))

field-piece : (all : List Field) (k : ℕ) → k < length (map piece_of all) → field_class (slice_get all k) ≡ form_class (get_or (map piece_of all) k any_piece).form
field-piece all k h =
    let few : k < length all = omega (arith, length-map all piece_of) in
    let d = a_field all k few in
    ap field_class (slice-some all k d few) ∙ ap (λ (x : Piece). form_class x.form) (sym (get_or-map piece_of all k d any_piece few))

piece-class : (program : Program) (s : Stands) (k : ℕ) → k < length (pieces_of program s) → class_of_piece program s k ≡ form_class (get_or (pieces_of program s) k any_piece).form
piece-class program Statics k h = field-piece program.statics k h
piece-class program (Part (Prim p)) k h = absurd (omega arith)
piece-class program (Part (Str n)) k h = absurd (omega arith)
piece-class program (Part (Buf n)) k h = absurd (omega arith)
piece-class program (Part (Array p n)) k h =
    ap (λ (x : Piece). form_class x.form) (sym (get_or-replicate n k (element_of p) any_piece (omega (arith, length-replicate n (element_of p)))))
piece-class program (Part (Object t)) k h = class-end program (field_class (slice_get (fields program t.0) k)) ∙ field-piece (fields program t.0) k h

no-class : (program : Program) (s : Stands) (k : ℕ) → length (pieces_of program s) ≤ k → class_of_piece program s k ≡ None
no-class program Statics k h = ap field_class (slice-none program.statics k (omega (arith, length-map program.statics piece_of)))
no-class program (Part (Prim p)) k h = refl
no-class program (Part (Str n)) k h = refl
no-class program (Part (Buf n)) k h = refl
no-class program (Part (Array p n)) k h = refl
no-class program (Part (Object t)) k h =
    class-end program (field_class (slice_get (fields program t.0) k)) ∙ ap field_class (slice-none (fields program t.0) k (omega (arith, length-map (fields program t.0) piece_of)))

module _ (program : Program) (top : Stands) (nodes : List Node) (values : List Value) (g : IsGrowing program top nodes values (length nodes))
    (piece : (m : ℕ) → 0 < m → m < length nodes →
    ((node_at nodes m).parent < m)
    × ((node_at nodes m).step < length (pieces_of program (node_at nodes (node_at nodes m).parent).stands))
    × ((node_at nodes m).stands ≡ Part (get_or (pieces_of program (node_at nodes (node_at nodes m).parent).stands) (node_at nodes m).step any_piece).form)) where
  -- the class at a step from a node, where that of the node is known
  step-class : (n k : ℕ) → n < length nodes → class_under program top (path_to nodes n) ≡ class_standing (node_at nodes n).stands →
      class_under program top (path_to nodes n ++ k ∷ []) ≡ class_of_piece program (node_at nodes n).stands k
  step-class zero k h e = under-one program top k ∙ ap (λ (s : Stands). class_of_piece program s k) (sym g.root)
  step-class (suc n) k h e =
      let p = piece (suc n) (omega arith) h in
      let form = (get_or (pieces_of program (node_at nodes (node_at nodes (suc n)).parent).stands) (node_at nodes (suc n)).step any_piece).form in
      let path_is = path-below nodes (rises program top nodes values g) (suc n) (omega arith) in
      ap (λ (q : Path). class_under program top (q ++ k ∷ [])) path_is
      ∙ under-more program top (path_to nodes (node_at nodes (suc n)).parent) (node_at nodes (suc n)).step k
      ∙ ap (λ (q : Path). object_class program (k ∷ []) (class_under program top q)) (sym path_is)
      ∙ ap (λ (r : Option ℕ). object_class program (k ∷ []) r) e
      ∙ ap (λ (s : Stands). object_class program (k ∷ []) (class_standing s)) p.2
      ∙ ap (λ (s : Stands). class_of_piece program s k) (sym p.2)

  class-most : (most n : ℕ) → n ≤ most → n < length nodes → class_under program top (path_to nodes n) ≡ class_standing (node_at nodes n).stands
  class-most most zero le h = under-first program top ∙ ap class_standing (sym g.root)
  class-most zero (suc n) le h = absurd (omega arith)
  class-most (suc most) (suc n) le h =
      let p = piece (suc n) (omega arith) h in
      let q = (node_at nodes (suc n)).parent in
      let k = (node_at nodes (suc n)).step in
      let before : q < suc n = p.0 in
      let inside : q < length nodes = omega arith in
      ap (class_under program top) (path-below nodes (rises program top nodes values g) (suc n) (omega arith))
      ∙ step-class q k inside (class-most most q (omega arith) inside)
      ∙ piece-class program (node_at nodes q).stands k p.1
      ∙ ap class_standing (sym p.2)

  pub class-there : (n : ℕ) → n < length nodes → class_under program top (path_to nodes n) ≡ class_standing (node_at nodes n).stands
  class-there n h = class-most n n (omega arith) h

  pub nothing-there : (n k : ℕ) → n < length nodes → child nodes n k ≡ None → class_under program top (path_to nodes n ++ k ∷ []) ≡ None
  nothing-there n k h e = go (cases_lt k (node_at nodes n).count)
    where
      go : (k < (node_at nodes n).count) ⊎ ((node_at nodes n).count ≤ k) → class_under program top (path_to nodes n ++ k ∷ []) ≡ None
      go (inl lt) = absurd (let never : None ≡ Some ((node_at nodes n).first + k) = sym e ∙ child-some (node_at nodes n) k lt in let no : ⊥ = cc in no)
      go (inr le) = let c : (node_at nodes n).count ≡ length (pieces_of program (node_at nodes n).stands) = (g.pieces n h).count in
          step-class n k h (class-there n h) ∙ no-class program (node_at nodes n).stands k (omega arith)
