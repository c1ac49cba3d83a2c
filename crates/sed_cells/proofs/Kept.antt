-- Each cell that keeps a value has a place in first contents.
use Rattle.std.proofs.Common.{◌≡◌, inl, inr, ℕ, zero, suc, ◌+◌, ◌-◌, ◌<◌, ◌≤◌, List, [], ◌∷◌, ◌++◌, length, map, get_or, replicate, Bool, true, false, cond, Some, None, refl, sym, ap, subst, ◌∙◌, arith}
use Rattle.std.specs.List.{flat_map, enumerate_from, range_with_len}
use Rattle.std.specs.Prelude.{IsSome, is_some}
use Rattle.std.specs.Str.{bytes_eq}
use Rattle.std.proofs.lemmas.Bool.{cases_eq}
use Rattle.std.proofs.lemmas.List.{length-map, length-replicate, get_or-map, get_or-replicate}
use Rattle.std.proofs.lemmas.Slice.Eq.{bytes_eq-Decides}
use Rattle.sed_value.specs.declared.value.Value.{Value}
use Rattle.sed_value.specs.declared.value.Value.TheVariants as kept
use Rattle.sed_typed.specs.declared.program.Field.{Field}
use Rattle.sed_typed.specs.declared.program.FieldForm.{FieldForm}
use Rattle.sed_typed.specs.declared.program.FieldForm.TheVariants.{Prim, Str, Buf, Array, Object}
use Rattle.sed_typed.specs.declared.program.Program.{Program}
use Rattle.sed_typed.specs.Classes.{fields}
use Rattle.sed_typed.specs.Contents.{Contents, Path, value_at}
use Rattle.sed_typed.specs.Initial.{zero_value, begun, fields_begun, object_begun}
use Rattle.sed_cells.specs.declared.layout.Node.{Node}
use Rattle.sed_cells.specs.declared.layout.Stands.{Stands}
use Rattle.sed_cells.specs.declared.layout.Stands.TheVariants.{Statics, Part}
use Rattle.sed_cells.specs.Cells.{start_of}
use Rattle.sed_cells.specs.Layouts.{Piece, piece_of, element_of, pieces_of, keeps_value, room_below, HasRoom, node_at, IsPiece, IsGrowing}
use Rattle.sed_cells.proofs.Numbers.{child-within, path_to, path-below, rises, piece-at}

-- what stands in some contents stands in others
abbrev pub Sub : Contents → Contents → Type 0
Sub a b = (path : Path) → IsSome (value_at a path) → IsSome (value_at b path)

hit : (e : List ℕ × Value) (path : Path) → IsSome (value_at (e ∷ []) path) → bytes_eq e.0 path ≡ true
hit e path w = go (bytes_eq e.0 path) w
  where
    go : (x : Bool) → is_some (cond x (Some e.1) None) ≡ true → x ≡ true
    go true h = refl
    go false h = absurd (let never : false ≡ true = h in cc)

front-some : (e : List ℕ × Value) (es : Contents) (path : Path) → bytes_eq e.0 path ≡ true → IsSome (value_at (e ∷ es) path)
front-some e es path t = ap (λ (b : Bool). is_some (cond b (Some e.1) (value_at es path))) t

tail-some : (e : List ℕ × Value) (es : Contents) (path : Path) → IsSome (value_at es path) → IsSome (value_at (e ∷ es) path)
tail-some e es path h = go (bytes_eq e.0 path)
  where
    go : (x : Bool) → is_some (cond x (Some e.1) (value_at es path)) ≡ true
    go true = refl
    go false = h

sub-front : (a b : Contents) → Sub a (a ++ b)
sub-front [] b path h = absurd (let never : false ≡ true = h in cc)
sub-front (e ∷ es) b path h = go (λ w. sub-front es b path w) (bytes_eq e.0 path) h
  where
    go : (IsSome (value_at es path) → IsSome (value_at (es ++ b) path)) → (x : Bool) → is_some (cond x (Some e.1) (value_at es path)) ≡ true → is_some (cond x (Some e.1) (value_at (es ++ b) path)) ≡ true
    go later true w = refl
    go later false w = later w

sub-back : (a b : Contents) → Sub b (a ++ b)
sub-back [] b path h = h
sub-back (e ∷ es) b path h = tail-some e (es ++ b) path (sub-back es b path h)

-- a field's own contents in those of the fields
sub-field : (object : ℕ → Path → Contents) (path : Path) (all : List Field) (from k : ℕ) (d : Field) → k < length all →
    Sub (begun object (path ++ (from + k) ∷ []) (get_or all k d).form (get_or all k d).initial) (flat_map (λ (at : ℕ × Field). begun object (path ++ at.0 ∷ []) at.1.form at.1.initial) (enumerate_from from all))
sub-field object path [] from k d h = absurd (omega arith)
sub-field object path (f ∷ fs) from zero d h =
    let e : from ≡ from + 0 = omega arith in
    subst (λ (n : ℕ). Sub (begun object (path ++ n ∷ []) f.form f.initial) (flat_map (λ (at : ℕ × Field). begun object (path ++ at.0 ∷ []) at.1.form at.1.initial) (enumerate_from from (f ∷ fs)))) e
    (sub-front (begun object (path ++ from ∷ []) f.form f.initial) (flat_map (λ (at : ℕ × Field). begun object (path ++ at.0 ∷ []) at.1.form at.1.initial) (enumerate_from (from + 1) fs)))
sub-field object path (f ∷ fs) from (suc k) d h =
    let e : (from + 1) + k ≡ from + suc k = omega arith in
    let later = sub-field object path fs (from + 1) k d (omega arith) in
    let back = sub-back (begun object (path ++ from ∷ []) f.form f.initial) (flat_map (λ (at : ℕ × Field). begun object (path ++ at.0 ∷ []) at.1.form at.1.initial) (enumerate_from (from + 1) fs)) in
    subst (λ (n : ℕ). Sub (begun object (path ++ n ∷ []) (get_or fs k d).form (get_or fs k d).initial) (flat_map (λ (at : ℕ × Field). begun object (path ++ at.0 ∷ []) at.1.form at.1.initial) (enumerate_from from (f ∷ fs)))) e
    (λ p w. back p (later p w))

-- an element in those of its array
sub-element : (f : ℕ → List ℕ × Value) (a n k : ℕ) → a ≤ k → k < a + n → Sub (f k ∷ []) (map f (range_with_len a n))
sub-element f a zero k lo hi path w = absurd (omega arith)
sub-element f a (suc n) k lo hi path w = elim (cases_eq a k) [
  | inl e ↦ front-some (f a) (map f (range_with_len (a + 1) n)) path (ap (λ (i : ℕ). bytes_eq (f i).0 path) e ∙ hit (f k) path w)
  | inr ne ↦ tail-some (f a) (map f (range_with_len (a + 1) n)) path (sub-element f (a + 1) n k (omega arith) (omega arith) path w)
]

begun-start : (object : ℕ → Path → Contents) (path : Path) (form : FieldForm) (v : Value) → begun object path form (start_of form v) ≡ begun object path form v
begun-start object path (Prim p) v = refl
begun-start object path (Str n) v = refl
begun-start object path (Buf n) v = refl
begun-start object path (Array p n) v = refl
begun-start object path (Object t) v = refl

abbrev pub any_piece : Piece
any_piece = record { form = Str 0; initial = kept.Nothing }

-- a node is a piece of its parent
abbrev pub HasParent : Program → List Node → List Value → ℕ → Type 0
HasParent program nodes values m =
    ((node_at nodes m).parent < m)
    × ((node_at nodes m).step < length (pieces_of program (node_at nodes (node_at nodes m).parent).stands))
    × IsPiece nodes values (node_at nodes m).parent (node_at nodes m).step (room_below (node_at nodes (node_at nodes m).parent).stands (node_at nodes (node_at nodes m).parent).room)
    (get_or (pieces_of program (node_at nodes (node_at nodes m).parent).stands) (node_at nodes m).step any_piece) m

part_form : (a b : FieldForm) → Part a ≡ Part b → a ≡ b
part_form a b e = cc

module _ (program : Program) (top : Stands) (nodes : List Node) (values : List Value) (g : IsGrowing program top nodes values (length nodes)) (first : Contents)
    (root_in : (form : FieldForm) → (node_at nodes 0).stands ≡ Part form → (v : Value) → Sub (begun (object_begun program (length program.schema.classes)) [] form v) first)
    (statics_in : (node_at nodes 0).stands ≡ Statics → Sub (fields_begun (object_begun program (length program.schema.classes)) [] program.statics) first) where
  -- a node past the first is a piece of its parent
  pub a-piece : (m : ℕ) → 0 < m → m < length nodes → HasParent program nodes values m
  a-piece m pos h =
      let b = g.below m pos h in
      let q = (node_at nodes m).parent in
      let k = (node_at nodes m).step in
      let before : q < m = b.before in
      let w = child-within (node_at nodes q) k m b.child in
      let inside : q < length nodes = omega arith in
      let c : (node_at nodes q).count ≡ length (pieces_of program (node_at nodes q).stands) = (g.pieces q inside).count in
      let lt : k < (node_at nodes q).count = w.0 in (
        before,
        omega arith,
        subst (λ (x : ℕ). IsPiece nodes values q k (room_below (node_at nodes q).stands (node_at nodes q).room) (get_or (pieces_of program (node_at nodes q).stands) k any_piece) x) w.1
            (piece-at program top nodes values g q k any_piece inside lt),
      )

  pub only-first : (n : ℕ) → n < length nodes → (node_at nodes n).stands ≡ Statics → n ≡ 0
  only-first zero h e = refl
  only-first (suc n) h e =
      let i = (a-piece (suc n) (omega arith) h).2 in
      let never : Statics ≡ Part (get_or (pieces_of program (node_at nodes (node_at nodes (suc n)).parent).stands) (node_at nodes (suc n)).step any_piece).form = sym e ∙ i.stands in
      absurd (let no : ⊥ = cc in no)

  -- what stands at a node, of which a piece is to be found
  piece-in : (q : ℕ) → q < length nodes → ((form : FieldForm) → (node_at nodes q).stands ≡ Part form → Sub (begun (object_begun program (node_at nodes q).room) (path_to nodes q) form (get_or values q kept.Nothing)) first) →
      (s : Stands) → (node_at nodes q).stands ≡ s → HasRoom s (node_at nodes q).room → (k : ℕ) → k < length (pieces_of program s) →
      Sub (begun (object_begun program (room_below s (node_at nodes q).room)) (path_to nodes q ++ k ∷ []) (get_or (pieces_of program s) k any_piece).form (get_or (pieces_of program s) k any_piece).initial) first
  piece-in q h up Statics e room k lt =
      let zero_is : q ≡ 0 = only-first q h e in
      let path_is : path_to nodes q ≡ [] = ap (path_to nodes) zero_is in
      let room_is : (node_at nodes q).room ≡ length program.schema.classes = ap (λ (n : ℕ). (node_at nodes n).room) zero_is ∙ g.room in
      let few : k < length program.statics = omega (arith, length-map program.statics piece_of) in
      let d = a_field program.statics k few in
      let piece_is : get_or (map piece_of program.statics) k any_piece ≡ piece_of (get_or program.statics k d) = get_or-map piece_of program.statics k d any_piece few in
      let n_is : 0 + k ≡ k = omega arith in
      let object = object_begun program (length program.schema.classes) in
      let whole : Sub (begun object ([] ++ (0 + k) ∷ []) (get_or program.statics k d).form (get_or program.statics k d).initial) first =
      λ p w. statics_in (ap (λ (n : ℕ). (node_at nodes n).stands) (sym zero_is) ∙ e) p (sub-field object [] program.statics 0 k d few p w) in
      subst (λ (r : ℕ). Sub (begun (object_begun program r) (path_to nodes q ++ k ∷ []) (get_or (map piece_of program.statics) k any_piece).form (get_or (map piece_of program.statics) k any_piece).initial) first) (sym room_is)
      (subst (λ (path : Path). Sub (begun object (path ++ k ∷ []) (get_or (map piece_of program.statics) k any_piece).form (get_or (map piece_of program.statics) k any_piece).initial) first) (sym path_is)
      (subst (λ (x : Piece). Sub (begun object ([] ++ k ∷ []) x.form x.initial) first) (sym piece_is)
      (subst (λ (i : ℕ). Sub (begun object ([] ++ i ∷ []) (get_or program.statics k d).form (get_or program.statics k d).initial) first) n_is whole)))
    where
      a_field : (all : List Field) (k : ℕ) → k < length all → Field
      a_field [] k h = absurd (omega arith)
      a_field (f ∷ fs) k h = f
  piece-in q h up (Part (Prim p)) e room k lt = absurd (omega arith)
  piece-in q h up (Part (Str n)) e room k lt = absurd (omega arith)
  piece-in q h up (Part (Buf n)) e room k lt = absurd (omega arith)
  piece-in q h up (Part (Array p n)) e room k lt =
      let few : k < n = omega (arith, length-replicate n (element_of p)) in
      let piece_is : get_or (replicate n (element_of p)) k any_piece ≡ element_of p = get_or-replicate n k (element_of p) any_piece few in
      subst (λ (x : Piece). Sub (begun (object_begun program ((node_at nodes q).room - 1)) (path_to nodes q ++ k ∷ []) x.form x.initial) first) (sym piece_is)
      (λ path w. up (Array p n) e path (sub-element (λ i. (path_to nodes q ++ i ∷ [], zero_value p)) 0 n k (omega arith) (omega arith) path w))
  piece-in q h up (Part (Object t)) e room k lt =
      let all = fields program t.0 in
      let few : k < length all = omega (arith, length-map all piece_of) in
      let d = a_field all k few in
      let piece_is : get_or (map piece_of all) k any_piece ≡ piece_of (get_or all k d) = get_or-map piece_of all k d any_piece few in
      let less : ℕ = (node_at nodes q).room - 1 in
      let room_is : (node_at nodes q).room ≡ suc less = let some : 0 < (node_at nodes q).room = room in omega arith in
      let object = object_begun program less in
      let n_is : 0 + k ≡ k = omega arith in
      let mine : Sub (begun (object_begun program (suc less)) (path_to nodes q) (Object t) (get_or values q kept.Nothing)) first =
      subst (λ (r : ℕ). Sub (begun (object_begun program r) (path_to nodes q) (Object t) (get_or values q kept.Nothing)) first) room_is (up (Object t) e) in
      let whole : Sub (begun object (path_to nodes q ++ (0 + k) ∷ []) (get_or all k d).form (get_or all k d).initial) first =
      λ p w. mine p (sub-field object (path_to nodes q) all 0 k d few p w) in
      subst (λ (x : Piece). Sub (begun object (path_to nodes q ++ k ∷ []) x.form x.initial) first) (sym piece_is)
      (subst (λ (i : ℕ). Sub (begun object (path_to nodes q ++ i ∷ []) (get_or all k d).form (get_or all k d).initial) first) n_is whole)
    where
      a_field : (all : List Field) (k : ℕ) → k < length all → Field
      a_field [] k h = absurd (omega arith)
      a_field (f ∷ fs) k h = f

  in-first : (most m : ℕ) → m ≤ most → m < length nodes → (form : FieldForm) → (node_at nodes m).stands ≡ Part form →
      Sub (begun (object_begun program (node_at nodes m).room) (path_to nodes m) form (get_or values m kept.Nothing)) first
  in-first most zero le h form e =
      subst (λ (r : ℕ). Sub (begun (object_begun program r) [] form (get_or values 0 kept.Nothing)) first) (sym g.room) (root_in form e (get_or values 0 kept.Nothing))
  in-first zero (suc m) le h form e = absurd (omega arith)
  in-first (suc most) (suc m) le h form e =
      let a = a-piece (suc m) (omega arith) h in
      let q = (node_at nodes (suc m)).parent in
      let k = (node_at nodes (suc m)).step in
      let before : q < suc m = a.0 in
      let inside : q < length nodes = omega arith in
      let s = (node_at nodes q).stands in
      let piece = get_or (pieces_of program s) k any_piece in
      let below = piece-in q inside (λ f w. in-first most q (omega arith) inside f w) s refl (g.pieces q inside).room k a.1 in
      let form_is : piece.form ≡ form = part_form piece.form form (sym a.2.stands ∙ e) in
      let path_is : path_to nodes q ++ k ∷ [] ≡ path_to nodes (suc m) = sym (path-below nodes (rises program top nodes values g) (suc m) (omega arith)) in
      let room_is : room_below s (node_at nodes q).room ≡ (node_at nodes (suc m)).room = sym a.2.room in
      subst (λ (r : ℕ). Sub (begun (object_begun program r) (path_to nodes (suc m)) form (get_or values (suc m) kept.Nothing)) first) room_is
      (subst (λ (p : Path). Sub (begun (object_begun program (room_below s (node_at nodes q).room)) p form (get_or values (suc m) kept.Nothing)) first) path_is
      (subst (λ (f : FieldForm). Sub (begun (object_begun program (room_below s (node_at nodes q).room)) (path_to nodes q ++ k ∷ []) f (get_or values (suc m) kept.Nothing)) first) form_is
      (subst (λ (v : Value). Sub (begun (object_begun program (room_below s (node_at nodes q).room)) (path_to nodes q ++ k ∷ []) piece.form v) first) (sym a.2.value)
      (subst (λ (es : Contents). Sub es first) (sym (begun-start (object_begun program (room_below s (node_at nodes q).room)) (path_to nodes q ++ k ∷ []) piece.form piece.initial)) below))))

  -- a node where a value is kept stands in first contents
  pub leaf-in : (m : ℕ) → m < length nodes → keeps_value (node_at nodes m).stands ≡ true → IsSome (value_at first (path_to nodes m))
  leaf-in m h keeps = go (node_at nodes m).stands refl keeps
    where
      self : (v : Value) → IsSome (value_at ((path_to nodes m, v) ∷ []) (path_to nodes m))
      self v = front-some (path_to nodes m, v) [] (path_to nodes m) ((bytes_eq-Decides (path_to nodes m) (path_to nodes m)).1 refl)

      go : (s : Stands) → (node_at nodes m).stands ≡ s → keeps_value s ≡ true → IsSome (value_at first (path_to nodes m))
      go Statics e w = absurd (let never : false ≡ true = w in cc)
      go (Part (Prim p)) e w = in-first m m (omega arith) h (Prim p) e (path_to nodes m) (self (get_or values m kept.Nothing))
      go (Part (Str n)) e w = in-first m m (omega arith) h (Str n) e (path_to nodes m) (self (kept.Buf (replicate n 0)))
      go (Part (Buf n)) e w = in-first m m (omega arith) h (Buf n) e (path_to nodes m) (self (get_or values m kept.Nothing))
      go (Part (Array p n)) e w = absurd (let never : false ≡ true = w in cc)
      go (Part (Object t)) e w = absurd (let never : false ≡ true = w in cc)
