-- Numbers and paths: each node has one path, and each path at most one number.
use Rattle.std.proofs.Common.{◌≡◌, ◌⊎◌, inl, inr, ℕ, zero, suc, ◌+◌, ◌<◌, ◌≤◌, List, [], ◌∷◌, ◌++◌, length, get_or, nat_lt, Bool, true, false, cond, Option, Some, None, refl, sym, ap, subst, ◌∙◌, arith, append_assoc}
use Rattle.std.proofs.lemmas.Bool.{cases_lt}
use Rattle.std.proofs.lemmas.Bool.Decides.{nat_tests}
use Rattle.std.proofs.lemmas.List.{append-nil, get_or_past}
use Rattle.sed_value.specs.declared.value.Value.{Value}
use Rattle.sed_typed.specs.declared.program.Program.{Program}
use Rattle.sed_cells.specs.declared.layout.Node.{Node}
use Rattle.sed_cells.specs.declared.layout.Stands.{Stands}
use Rattle.sed_cells.specs.Layouts.{Piece, pieces_of, room_below, no_node, node_at, child_of, child, IsPiece, IsGrowing}
use Rattle.sed_cells.specs.Places.{walk, number_of, climb, known}

pub some_eq : {X : Type 0} {x y : X} → Some x ≡ Some y → x ≡ y
some_eq e = cc

pub walk-append : (nodes : List Node) (p q : List ℕ) (r : Option ℕ) → walk nodes (p ++ q) r ≡ walk nodes q (walk nodes p r)
walk-append nodes p q None = refl
walk-append nodes [] q (Some n) = refl
walk-append nodes (s ∷ p) q (Some n) = walk-append nodes p q (child nodes n s)

pub walk-end : (nodes : List Node) (r : Option ℕ) → walk nodes [] r ≡ r
walk-end nodes None = refl
walk-end nodes (Some n) = refl

pub walk-step : (nodes : List Node) (k : ℕ) (n : ℕ) → walk nodes (k ∷ []) (Some n) ≡ child nodes n k
walk-step nodes k n = walk-end nodes (child nodes n k)

pub child-some : (node : Node) (k : ℕ) → k < node.count → child_of node k ≡ Some (node.first + k)
child-some node k h = let e : nat_lt k node.count ≡ true = grind (arith, nat_tests) in ap (λ b. cond b (Some (node.first + k)) None) e

pub child-none : (node : Node) (k : ℕ) → node.count ≤ k → child_of node k ≡ None
child-none node k h = let e : nat_lt k node.count ≡ false = grind (arith, nat_tests) in ap (λ b. cond b (Some (node.first + k)) None) e

-- a step that leads somewhere is one of the node's
pub child-within : (node : Node) (k m : ℕ) → child_of node k ≡ Some m → (k < node.count) × (node.first + k ≡ m)
child-within node k m e = go (cases_lt k node.count)
  where
    go : (k < node.count) ⊎ (node.count ≤ k) → (k < node.count) × (node.first + k ≡ m)
    go (inl h) = (h, some_eq (sym (child-some node k h) ∙ e))
    go (inr h) = absurd (let none = child-none node k h in let never : None ≡ Some m = sym none ∙ e in cc)

-- every node but the first stands behind its parent
abbrev pub Rises : List Node → Type 0
Rises nodes = (m : ℕ) → (node_at nodes (suc m)).parent ≤ m

module _ (nodes : List Node) (rises : Rises nodes) where
  pub climb-same : (a b n : ℕ) (rest : List ℕ) → n ≤ a → n ≤ b → climb nodes a n rest ≡ climb nodes b n rest
  climb-same zero zero n rest ha hb = refl
  climb-same zero (suc b) zero rest ha hb = refl
  climb-same zero (suc b) (suc n) rest ha hb = absurd (omega arith)
  climb-same (suc a) zero zero rest ha hb = refl
  climb-same (suc a) zero (suc n) rest ha hb = absurd (omega arith)
  climb-same (suc a) (suc b) zero rest ha hb = refl
  climb-same (suc a) (suc b) (suc n) rest ha hb =
      let up : (node_at nodes (suc n)).parent ≤ n = rises n in
      climb-same a b (node_at nodes (suc n)).parent ((node_at nodes (suc n)).step ∷ rest) (omega arith) (omega arith)

climb-rest : (nodes : List Node) (a n : ℕ) (rest more : List ℕ) → climb nodes a n (rest ++ more) ≡ climb nodes a n rest ++ more
climb-rest nodes zero n rest more = refl
climb-rest nodes (suc a) zero rest more = refl
climb-rest nodes (suc a) (suc n) rest more = climb-rest nodes a (node_at nodes (suc n)).parent ((node_at nodes (suc n)).step ∷ rest) more

-- the path of a node by its number
abbrev pub path_to : List Node → ℕ → List ℕ
path_to nodes n = climb nodes n n []

path-suc : (nodes : List Node) → Rises nodes → (m : ℕ) → path_to nodes (suc m) ≡ path_to nodes (node_at nodes (suc m)).parent ++ (node_at nodes (suc m)).step ∷ []
path-suc nodes rises m =
    let q = (node_at nodes (suc m)).parent in
    let s = (node_at nodes (suc m)).step in
    let up : q ≤ m = rises m in
    climb-same nodes rises m q q (s ∷ []) up (omega arith) ∙ climb-rest nodes q q [] (s ∷ [])

pub path-below : (nodes : List Node) → Rises nodes → (m : ℕ) → 0 < m → path_to nodes m ≡ path_to nodes (node_at nodes m).parent ++ (node_at nodes m).step ∷ []
path-below nodes rises zero h = absurd (omega arith)
path-below nodes rises (suc m) h = path-suc nodes rises m

module _ (program : Program) (top : Stands) (nodes : List Node) (values : List Value) (g : IsGrowing program top nodes values (length nodes)) where
  pub rises : Rises nodes
  rises m = go (cases_lt (suc m) (length nodes))
    where
      go : (suc m < length nodes) ⊎ (length nodes ≤ suc m) → (node_at nodes (suc m)).parent ≤ m
      go (inl h) = let b : (node_at nodes (suc m)).parent < suc m = (g.below (suc m) (omega arith) h).before in omega arith
      go (inr h) = let e : (node_at nodes (suc m)).parent ≡ 0 = ap (λ (x : Node). x.parent) (get_or_past nodes (suc m) no_node h) in omega arith

  -- the piece at a step of a node
  pub piece-at : (n k : ℕ) (d : Piece) → n < length nodes → k < (node_at nodes n).count →
      IsPiece nodes values n k (room_below (node_at nodes n).stands (node_at nodes n).room) (get_or (pieces_of program (node_at nodes n).stands) k d) ((node_at nodes n).first + k)
  piece-at n k d h lt = let p = g.pieces n h in let c : (node_at nodes n).count ≡ length (pieces_of program (node_at nodes n).stands) = p.count in p.each k d (omega arith)

  pub child-inside : (n k m : ℕ) → n < length nodes → child nodes n k ≡ Some m → (m < length nodes) × ((node_at nodes m).parent ≡ n) × ((node_at nodes m).step ≡ k) × (0 < m)
  child-inside n k m h e =
      let w = child-within (node_at nodes n) k m e in
      let lt : k < (node_at nodes n).count = w.0 in
      let at : (node_at nodes n).first + k ≡ m = w.1 in
      let p = g.pieces n h in
      let c : (node_at nodes n).count ≡ length (pieces_of program (node_at nodes n).stands) = p.count in
      let few : k < length (pieces_of program (node_at nodes n).stands) = omega arith in
      let i = p.each k (first_piece (pieces_of program (node_at nodes n).stands) k few) few in
      let later : n < (node_at nodes n).first + k = i.later in
      (subst (λ (x : ℕ). x < length nodes) at i.within, subst (λ (x : ℕ). (node_at nodes x).parent ≡ n) at i.parent, subst (λ (x : ℕ). (node_at nodes x).step ≡ k) at i.step, omega arith)
    where
      first_piece : (ps : List Piece) (k : ℕ) → k < length ps → Piece
      first_piece [] k h = absurd (omega arith)
      first_piece (p ∷ ps) k h = p

  pub path-child : (n k m : ℕ) → n < length nodes → child nodes n k ≡ Some m → path_to nodes m ≡ path_to nodes n ++ k ∷ []
  path-child n k m h e =
      let i = child-inside n k m h e in
      path-below nodes rises m i.3 ∙ ap (λ (q : ℕ). path_to nodes q ++ (node_at nodes m).step ∷ []) i.1 ∙ ap (λ (s : ℕ). path_to nodes n ++ s ∷ []) i.2

  number-most : (most n : ℕ) → n ≤ most → n < length nodes → number_of nodes (path_to nodes n) ≡ Some n
  number-most most zero le h = refl
  number-most zero (suc n) le h = absurd (omega arith)
  number-most (suc most) (suc n) le h =
      let b = g.below (suc n) (omega arith) h in
      let q = (node_at nodes (suc n)).parent in
      let s = (node_at nodes (suc n)).step in
      let before : q < suc n = b.before in
      ap (number_of nodes) (path-suc nodes rises n)
      ∙ walk-append nodes (path_to nodes q) (s ∷ []) (Some 0)
      ∙ ap (walk nodes (s ∷ [])) (number-most most q (omega arith) (omega arith))
      ∙ walk-step nodes s q
      ∙ b.child

  pub number-path : (n : ℕ) → n < length nodes → number_of nodes (path_to nodes n) ≡ Some n
  number-path n h = number-most n n (omega arith) h

  walk-path : (path : List ℕ) (n m : ℕ) → n < length nodes → walk nodes path (Some n) ≡ Some m → (m < length nodes) × (path_to nodes m ≡ path_to nodes n ++ path)
  walk-path [] n m h e =
      let same : n ≡ m = some_eq e in
      (omega arith, ap (path_to nodes) (sym same) ∙ sym (append-nil (path_to nodes n)))
  walk-path (s ∷ path) n m h e = go (λ q inside w. walk-path path q m inside w) (child nodes n s) refl e
    where
      go : ((q : ℕ) → q < length nodes → walk nodes path (Some q) ≡ Some m → (m < length nodes) × (path_to nodes m ≡ path_to nodes q ++ path)) →
          (r : Option ℕ) → child nodes n s ≡ r → walk nodes path r ≡ Some m → (m < length nodes) × (path_to nodes m ≡ path_to nodes n ++ s ∷ path)
      go rest None c w = absurd (let never : None ≡ Some m = w in cc)
      go rest (Some q) c w =
          let i = child-inside n s q h c in
          let r = rest q i.0 w in
          (r.0, r.1 ∙ ap (λ (p : List ℕ). p ++ path) (path-child n s q h c) ∙ append_assoc (path_to nodes n) (s ∷ []) path)

  -- a path with a number is that of its number
  pub path-number : (path : List ℕ) (m : ℕ) → number_of nodes path ≡ Some m → (m < length nodes) × (path_to nodes m ≡ path)
  path-number path m e = walk-path path 0 m g.some e

  pub known-within : (n : ℕ) → known nodes n < length nodes
  known-within n = go (cases_lt n (length nodes))
    where
      go : (n < length nodes) ⊎ (length nodes ≤ n) → known nodes n < length nodes
      go (inl h) = let e : nat_lt n (length nodes) ≡ true = grind (arith, nat_tests) in subst (λ (b : Bool). cond b n 0 < length nodes) (sym e) h
      go (inr h) = let e : nat_lt n (length nodes) ≡ false = grind (arith, nat_tests) in subst (λ (b : Bool). cond b n 0 < length nodes) (sym e) g.some

  pub fits : (n : ℕ) → (node_at nodes n).first + (node_at nodes n).count ≤ length nodes
  fits n = go (cases_lt n (length nodes))
    where
      go : (n < length nodes) ⊎ (length nodes ≤ n) → (node_at nodes n).first + (node_at nodes n).count ≤ length nodes
      go (inl h) = (g.pieces n h).fits
      go (inr h) = let e = get_or_past nodes n no_node h in subst (λ (x : Node). x.first + x.count ≤ length nodes) (sym e) (omega arith)
