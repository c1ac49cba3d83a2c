-- Each value of first contents has its cell.
use Rattle.std.proofs.Common.{◌≡◌, ◌≢◌, ℕ, zero, suc, ◌+◌, ◌-◌, ◌<◌, ◌≤◌, List, [], ◌∷◌, ◌++◌, length, map, get_or, replicate, Bool, true, false, cond, Option, Some, None, refl, sym, ap, subst, ◌∙◌, arith}
use Rattle.std.specs.List.{flat_map, enumerate_from, range_with_len}
use Rattle.std.specs.Option.{option_map}
use Rattle.std.specs.Str.{bytes_eq}
use Rattle.std.proofs.lemmas.List.{length-map, length-replicate, get_or-map, get_or-replicate, get_or-set_same, get_or-set_other}
use Rattle.std.proofs.Math.ListN.{set}
use Rattle.std.proofs.lemmas.Slice.Eq.{bytes_eq-Decides}
use Rattle.sed_value.specs.declared.slot_type.Primitive.{Primitive}
use Rattle.sed_value.specs.declared.value.Value.{Value}
use Rattle.sed_value.specs.declared.value.Value.TheVariants as kept
use Rattle.sed_typed.specs.declared.program.Field.{Field}
use Rattle.sed_typed.specs.declared.program.FieldForm.{FieldForm}
use Rattle.sed_typed.specs.declared.program.FieldForm.TheVariants.{Prim, Str, Buf, Array, Object}
use Rattle.sed_typed.specs.declared.program.Program.{Program}
use Rattle.sed_typed.specs.Classes.{fields}
use Rattle.sed_typed.specs.Contents.{Contents, Path, value_at, with_value}
use Rattle.sed_typed.specs.Initial.{zero_value, begun, fields_begun, object_begun}
use Rattle.sed_cells.specs.declared.layout.Node.{Node}
use Rattle.sed_cells.specs.declared.layout.Stands.{Stands}
use Rattle.sed_cells.specs.declared.layout.Stands.TheVariants.{Statics, Part}
use Rattle.sed_cells.specs.Cells.{start_of}
use Rattle.sed_cells.specs.Layouts.{Piece, piece_of, element_of, pieces_of, keeps_value, room_below, HasRoom, node_at, IsGrowing}
use Rattle.sed_cells.specs.Places.{walk, number_of, value_in, seen}
use Rattle.sed_cells.proofs.Numbers.{walk-append, walk-step, child-some, piece-at}

-- a value has a cell that begins with it
pub record Found (nodes : List Node) (values : List Value) (e : List ℕ × Value) : Type 0 where
  pub number : ℕ
  pub found : number_of nodes e.0 ≡ Some number
  pub keeps : keeps_value (node_at nodes number).stands ≡ true
  pub value : get_or values number kept.Nothing ≡ e.1

abbrev pub AllFound : List Node → List Value → Contents → Type 0
AllFound nodes values [] = Unit {0}
AllFound nodes values (e ∷ es) = Found nodes values e × AllFound nodes values es

found-append : (nodes : List Node) (values : List Value) (a b : Contents) → AllFound nodes values a → AllFound nodes values b → AllFound nodes values (a ++ b)
found-append nodes values [] b ha hb = hb
found-append nodes values (e ∷ es) b ha hb = (ha.0, found-append nodes values es b ha.1 hb)

found-range : (nodes : List Node) (values : List Value) (f : ℕ → List ℕ × Value) (a n : ℕ) → ((i : ℕ) → a ≤ i → i < a + n → Found nodes values (f i)) → AllFound nodes values (map f (range_with_len a n))
found-range nodes values f a zero h = tt
found-range nodes values f a (suc n) h = (h a (omega arith) (omega arith), found-range nodes values f (a + 1) n (λ i lo hi. h i (omega arith) (omega arith)))

-- a node where what a form says stands
pub record IsAt (nodes : List Node) (values : List Value) (m space : ℕ) (path : Path) (form : FieldForm) (initial : Value) : Type 0 where
  pub within : m < length nodes
  pub found : number_of nodes path ≡ Some m
  pub stands : (node_at nodes m).stands ≡ Part form
  pub room : (node_at nodes m).room ≡ space
  pub value : get_or values m kept.Nothing ≡ start_of form initial

module _ (program : Program) (top : Stands) (nodes : List Node) (values : List Value) (g : IsGrowing program top nodes values (length nodes)) where
  step-number : (path : Path) (n k : ℕ) → number_of nodes path ≡ Some n → k < (node_at nodes n).count → number_of nodes (path ++ k ∷ []) ≡ Some ((node_at nodes n).first + k)
  step-number path n k e h =
      walk-append nodes path (k ∷ []) (Some 0) ∙ ap (walk nodes (k ∷ [])) e ∙ walk-step nodes k n ∙ child-some (node_at nodes n) k h

  piece-found : (path : Path) (n k : ℕ) (d : Piece) → n < length nodes → number_of nodes path ≡ Some n → k < (node_at nodes n).count →
      IsAt nodes values ((node_at nodes n).first + k) (room_below (node_at nodes n).stands (node_at nodes n).room) (path ++ k ∷ [])
      (get_or (pieces_of program (node_at nodes n).stands) k d).form (get_or (pieces_of program (node_at nodes n).stands) k d).initial
  piece-found path n k d h e lt =
      let i = piece-at program top nodes values g n k d h lt in
      record { within = i.within; found = step-number path n k e lt; stands = i.stands; room = i.room; value = i.value }

  leaf : (m space : ℕ) (path : Path) (form : FieldForm) (initial v : Value) → IsAt nodes values m space path form initial → keeps_value (Part form) ≡ true → start_of form initial ≡ v → AllFound nodes values ((path, v) ∷ [])
  leaf m space path form initial v i keeps e = (record { number = m; found = i.found; keeps = ap keeps_value i.stands ∙ keeps; value = i.value ∙ e }, tt)

  elements : (m space n : ℕ) (path : Path) (p : Primitive) (initial : Value) → IsAt nodes values m space path (Array p n) initial →
      AllFound nodes values (map (λ i. (path ++ i ∷ [], zero_value p)) (range_with_len 0 n))
  elements m space n path p initial i =
      let pieces_are : pieces_of program (node_at nodes m).stands ≡ replicate n (element_of p) = ap (pieces_of program) i.stands in
      let h = g.pieces m i.within in
      let count_is : (node_at nodes m).count ≡ n = h.count ∙ ap length pieces_are ∙ length-replicate n (element_of p) in
      found-range nodes values (λ k. (path ++ k ∷ [], zero_value p)) 0 n (λ k lo hi.
      let lt : k < (node_at nodes m).count = omega arith in
      let at = piece-found path m k (element_of p) i.within i.found lt in
      let few : k < n = omega arith in
      let piece_is : get_or (pieces_of program (node_at nodes m).stands) k (element_of p) ≡ element_of p =
      ap (λ (ps : List Piece). get_or ps k (element_of p)) pieces_are ∙ get_or-replicate n k (element_of p) (element_of p) few in
      record {
        number = (node_at nodes m).first + k;
        found = at.found;
        keeps = ap keeps_value at.stands ∙ ap (λ (x : Piece). keeps_value (Part x.form)) piece_is;
        value = at.value ∙ ap (λ (x : Piece). start_of x.form x.initial) piece_is;
      })

  found-in : (object : ℕ → Path → Contents) (m space : ℕ) (path : Path) (form : FieldForm) (initial : Value) → IsAt nodes values m space path form initial →
      ((t : _) → form ≡ Object t → AllFound nodes values (object t.0 path)) → AllFound nodes values (begun object path form initial)
  found-in object m space path (Prim p) initial i h = leaf m space path (Prim p) initial initial i refl refl
  found-in object m space path (Str n) initial i h = leaf m space path (Str n) initial (kept.Buf (replicate n 0)) i refl refl
  found-in object m space path (Buf n) initial i h = leaf m space path (Buf n) initial initial i refl refl
  found-in object m space path (Array p n) initial i h = elements m space n path p initial i
  found-in object m space path (Object t) initial i h = h t refl

  -- the fields of what stands at a node, from one of them on
  fields-found : (object : ℕ → Path → Contents) (space : ℕ) → ((m : ℕ) (path : Path) (form : FieldForm) (initial : Value) → IsAt nodes values m space path form initial → AllFound nodes values (begun object path form initial)) →
      (path : Path) (all : List Field) (from : ℕ) → ((k : ℕ) (d : Field) → k < length all → (m : ℕ) × IsAt nodes values m space (path ++ (from + k) ∷ []) (get_or all k d).form (get_or all k d).initial) →
      AllFound nodes values (flat_map (λ (at : ℕ × Field). begun object (path ++ at.0 ∷ []) at.1.form at.1.initial) (enumerate_from from all))
  fields-found object space inside path [] from h = tt
  fields-found object space inside path (f ∷ fs) from h =
      let first = h 0 f (omega arith) in
      let e : from + 0 ≡ from = omega arith in
      found-append nodes values (begun object (path ++ from ∷ []) f.form f.initial) (flat_map (λ (at : ℕ × Field). begun object (path ++ at.0 ∷ []) at.1.form at.1.initial) (enumerate_from (from + 1) fs))
      (inside first.0 (path ++ from ∷ []) f.form f.initial (subst (λ (n : ℕ). IsAt nodes values first.0 space (path ++ n ∷ []) f.form f.initial) e first.1))
      (fields-found object space inside path fs (from + 1) (λ k d lt.
      let later = h (suc k) d (omega arith) in
      let e : from + suc k ≡ (from + 1) + k = omega arith in
      (later.0, subst (λ (n : ℕ). IsAt nodes values later.0 space (path ++ n ∷ []) (get_or fs k d).form (get_or fs k d).initial) e later.1)))

  of-fields : (n space : ℕ) (path : Path) (all : List Field) → n < length nodes → number_of nodes path ≡ Some n → pieces_of program (node_at nodes n).stands ≡ map piece_of all →
      room_below (node_at nodes n).stands (node_at nodes n).room ≡ space →
      (k : ℕ) (d : Field) → k < length all → (m : ℕ) × IsAt nodes values m space (path ++ (0 + k) ∷ []) (get_or all k d).form (get_or all k d).initial
  of-fields n space path all h e pieces_are room_is k d lt =
      let c : (node_at nodes n).count ≡ length all = (g.pieces n h).count ∙ ap length pieces_are ∙ length-map all piece_of in
      let few : k < (node_at nodes n).count = omega arith in
      let at = piece-found path n k (piece_of d) h e few in
      let piece_is : get_or (pieces_of program (node_at nodes n).stands) k (piece_of d) ≡ piece_of (get_or all k d) =
      ap (λ (ps : List Piece). get_or ps k (piece_of d)) pieces_are ∙ get_or-map piece_of all k d (piece_of d) lt in
      let zero_is : 0 + k ≡ k = omega arith in (
        (node_at nodes n).first + k,
        subst (λ (i : ℕ). IsAt nodes values ((node_at nodes n).first + k) space (path ++ i ∷ []) (get_or all k d).form (get_or all k d).initial) (sym zero_is)
            (subst (λ (s : ℕ). IsAt nodes values ((node_at nodes n).first + k) s (path ++ k ∷ []) (get_or all k d).form (get_or all k d).initial) room_is
            (subst (λ (x : Piece). IsAt nodes values ((node_at nodes n).first + k) (room_below (node_at nodes n).stands (node_at nodes n).room) (path ++ k ∷ []) x.form x.initial) piece_is at)),
      )

  pub all-found : (space m : ℕ) (path : Path) (form : FieldForm) (initial : Value) → IsAt nodes values m space path form initial → AllFound nodes values (begun (object_begun program space) path form initial)
  all-found zero m path form initial i =
      found-in (object_begun program zero) m zero path form initial i (λ t e.
      let room : HasRoom (Part (Object t)) 0 = subst (λ (s : Stands). HasRoom s 0) (i.stands ∙ ap Part e) (subst (λ (r : ℕ). HasRoom (node_at nodes m).stands r) i.room (g.pieces m i.within).room) in
      absurd (omega arith))
  all-found (suc space) m path form initial i =
      found-in (object_begun program (suc space)) m (suc space) path form initial i (λ t e.
      let stands_is : (node_at nodes m).stands ≡ Part (Object t) = i.stands ∙ ap Part e in
      let less : suc space - 1 ≡ space = omega arith in
      let room_is : room_below (node_at nodes m).stands (node_at nodes m).room ≡ space =
      ap (λ (s : Stands). room_below s (node_at nodes m).room) stands_is ∙ ap (λ (r : ℕ). r - 1) i.room ∙ less in
      fields-found (object_begun program space) space (λ q p f v at. all-found space q p f v at) path (fields program t.0) 0
      (of-fields m space path (fields program t.0) i.within i.found (ap (pieces_of program) stands_is) room_is))

  pub statics-found : (node_at nodes 0).stands ≡ Statics → AllFound nodes values (fields_begun (object_begun program (length program.schema.classes)) [] program.statics)
  statics-found stands_is =
      let room_is : room_below (node_at nodes 0).stands (node_at nodes 0).room ≡ length program.schema.classes =
      ap (λ (s : Stands). room_below s (node_at nodes 0).room) stands_is ∙ g.room in
      fields-found (object_begun program (length program.schema.classes)) (length program.schema.classes) (λ q p f v at. all-found (length program.schema.classes) q p f v at) [] program.statics 0
      (of-fields 0 (length program.schema.classes) [] program.statics g.some refl (ap (pieces_of program) stands_is) room_is)

-- ---- what a value found means for contents that are seen

pub found-number : (nodes : List Node) (values : List Value) (first : Contents) (path : Path) (v : Value) → AllFound nodes values first → value_at first path ≡ Some v →
    (m : ℕ) × (number_of nodes path ≡ Some m) × (keeps_value (node_at nodes m).stands ≡ true)
found-number nodes values [] path v h e = absurd (let never : None ≡ Some v = e in cc)
found-number nodes values (x ∷ xs) path v h e = go (λ w. found-number nodes values xs path v h.1 w) (bytes_eq x.0 path) refl e
  where
    go : (value_at xs path ≡ Some v → (m : ℕ) × (number_of nodes path ≡ Some m) × (keeps_value (node_at nodes m).stands ≡ true)) → (b : Bool) → bytes_eq x.0 path ≡ b → cond b (Some x.1) (value_at xs path) ≡ Some v → (m : ℕ) × (number_of nodes path ≡ Some m) × (keeps_value (node_at nodes m).stands ≡ true)
    go later true t w = let same : x.0 ≡ path = (bytes_eq-Decides x.0 path).0 t in (h.0.number, subst (λ (p : List ℕ). number_of nodes p ≡ Some h.0.number) same h.0.found, h.0.keeps)
    go later false t w = later w

pub seen-first : (nodes : List Node) (values : List Value) (first : Contents) → AllFound nodes values first → seen nodes first values ≡ first
seen-first nodes values [] h = refl
seen-first nodes values (x ∷ xs) h =
    let v : value_in values (number_of nodes x.0) ≡ x.1 = ap (value_in values) h.0.found ∙ h.0.value in
    ap (λ (y : Value). (x.0, y) ∷ seen nodes xs values) v ∙ ap (λ (ys : Contents). x ∷ ys) (seen-first nodes values xs h.1)

-- a value that is seen at a path
pub seen-at : (nodes : List Node) (first : Contents) (values : List Value) (path : Path) →
    value_at (seen nodes first values) path ≡ option_map (λ (_ : Value). value_in values (number_of nodes path)) (value_at first path)
seen-at nodes [] values path = refl
seen-at nodes (x ∷ xs) values path = go (seen-at nodes xs values path) (bytes_eq x.0 path) refl
  where
    go : value_at (seen nodes xs values) path ≡ option_map (λ (_ : Value). value_in values (number_of nodes path)) (value_at xs path) → (b : Bool) → bytes_eq x.0 path ≡ b →
        cond b (Some (value_in values (number_of nodes x.0))) (value_at (seen nodes xs values) path)
        ≡ option_map (λ (_ : Value). value_in values (number_of nodes path)) (cond b (Some x.1) (value_at xs path))
    go later true t = ap (λ (p : List ℕ). Some (value_in values (number_of nodes p))) ((bytes_eq-Decides x.0 path).0 t)
    go later false t = later

module _ (nodes : List Node) (n : ℕ) (path : Path) (here : number_of nodes path ≡ Some n) (only : (p : Path) (m : ℕ) → number_of nodes p ≡ Some m → m ≡ n → p ≡ path) where
  one-written : (values : List Value) (v : Value) (p : Path) → n < length values → value_in (set values n v) (number_of nodes p) ≡ cond (bytes_eq p path) v (value_in values (number_of nodes p))
  one-written values v p h = go (bytes_eq p path) refl
    where
      other : (r : Option ℕ) → number_of nodes p ≡ r → bytes_eq p path ≡ false → value_in (set values n v) r ≡ value_in values r
      other None e t = refl
      other (Some m) e t =
          let ne : m ≢ n = λ same. let eq : p ≡ path = only p m e same in let is : bytes_eq p path ≡ true = (bytes_eq-Decides p path).1 eq in let never : true ≡ false = sym is ∙ t in cc in
          get_or-set_other values n m v kept.Nothing ne

      go : (b : Bool) → bytes_eq p path ≡ b → value_in (set values n v) (number_of nodes p) ≡ cond b v (value_in values (number_of nodes p))
      go true t =
          let eq : p ≡ path = (bytes_eq-Decides p path).0 t in
          ap (value_in (set values n v)) (ap (number_of nodes) eq ∙ here) ∙ get_or-set_same values n v kept.Nothing h
      go false t = other (number_of nodes p) refl t

  pub seen-written : (first : Contents) (values : List Value) (v : Value) → n < length values → seen nodes first (set values n v) ≡ with_value (seen nodes first values) path v
  seen-written [] values v h = refl
  seen-written (x ∷ xs) values v h =
      ap (λ (y : Value). (x.0, y) ∷ seen nodes xs (set values n v)) (one-written values v x.0 h)
      ∙ ap (λ (ys : Contents). (x.0, cond (bytes_eq x.0 path) v (value_in values (number_of nodes x.0))) ∷ ys) (seen-written xs values v h)
