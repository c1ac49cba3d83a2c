-- Nodes with the pieces of one more.
use Rattle.std.proofs.Common.{◌≡◌, ◌≢◌, inl, inr, ℕ, zero, suc, ◌+◌, ◌-◌, ◌<◌, List, [], ◌∷◌, ◌++◌, length, get_or, nat_lt, true, cond, Some, None, refl, sym, ap, subst, ◌∙◌, arith}
use Rattle.std.proofs.lemmas.Bool.{cases_eq, cases_lt}
use Rattle.std.proofs.lemmas.Bool.Decides.{nat_tests}
use Rattle.std.proofs.lemmas.List.{length-set, length-append, length-map, get_or-set_same, get_or-set_other, get_or_append_left, get_or-append-add, get_or-map}
use Rattle.sed_value.specs.declared.value.Value.{Value}
use Rattle.sed_value.specs.declared.value.Value.TheVariants as kept
use Rattle.sed_typed.specs.declared.program.Program.{Program}
use Rattle.sed_cells.specs.declared.layout.Node.{Node}
use Rattle.sed_cells.specs.declared.layout.Stands.{Stands}
use Rattle.sed_cells.specs.Cells.{start_of}
use Rattle.sed_cells.specs.Layouts.{Piece, pieces_of, room_below, HasRoom, no_node, node_at, child_of, child, IsPiece, HasPieces, IsBelow, IsGrowing, node_of, children, starts, with_pieces, grown}

pub length-children : (n step room : ℕ) (ps : List Piece) → length (children n step room ps) ≡ length ps
length-children n step room [] = refl
length-children n step room (p ∷ ps) = ap suc (length-children n (step + 1) room ps)

pub get_or-children : (n step room : ℕ) (ps : List Piece) (k : ℕ) (d : Piece) → k < length ps →
    node_at (children n step room ps) k ≡ node_of n (step + k) room (get_or ps k d).form
get_or-children n step room [] k d h = absurd (omega arith)
get_or-children n step room (p ∷ ps) zero d h = let e : step ≡ step + 0 = omega arith in ap (λ (s : ℕ). node_of n s room p.form) e
get_or-children n step room (p ∷ ps) (suc k) d h =
    let e : (step + 1) + k ≡ step + suc k = omega arith in
    get_or-children n (step + 1) room ps k d (omega arith) ∙ ap (λ (s : ℕ). node_of n s room (get_or ps k d).form) e

some_child : (node : Node) (k : ℕ) → k < node.count → child_of node k ≡ Some (node.first + k)
some_child node k h = let e : nat_lt k node.count ≡ true = grind (arith, nat_tests) in ap (λ b. cond b (Some (node.first + k)) None) e

module _ (program : Program) (nodes : List Node) (done : ℕ) (lt : done < length nodes) where
  more : List Node
  more = children done 0 (room_below (node_at nodes done).stands (node_at nodes done).room) (pieces_of program (node_at nodes done).stands)

  pub length-grown : length (grown program nodes done) ≡ length nodes + length (pieces_of program (node_at nodes done).stands)
  length-grown =
      let ps = pieces_of program (node_at nodes done).stands in
      let r = room_below (node_at nodes done).stands (node_at nodes done).room in
      length-set (nodes ++ children done 0 r ps) done (with_pieces (node_at nodes done) (length nodes) (length ps))
      ∙ length-append nodes (children done 0 r ps) ∙ ap (λ (k : ℕ). length nodes + k) (length-children done 0 r ps)

  at_done : node_at (grown program nodes done) done ≡ with_pieces (node_at nodes done) (length nodes) (length (pieces_of program (node_at nodes done).stands))
  at_done =
      let ps = pieces_of program (node_at nodes done).stands in
      let r = room_below (node_at nodes done).stands (node_at nodes done).room in
      get_or-set_same (nodes ++ children done 0 r ps) done (with_pieces (node_at nodes done) (length nodes) (length ps)) no_node
      (omega (arith, length-append nodes (children done 0 r ps)))

  at_other : (n : ℕ) → n < length nodes → n ≢ done → node_at (grown program nodes done) n ≡ node_at nodes n
  at_other n h ne =
      let ps = pieces_of program (node_at nodes done).stands in
      let r = room_below (node_at nodes done).stands (node_at nodes done).room in
      get_or-set_other (nodes ++ children done 0 r ps) done n (with_pieces (node_at nodes done) (length nodes) (length ps)) no_node ne
      ∙ get_or_append_left nodes (children done 0 r ps) no_node n h

  at_more : (k : ℕ) (d : Piece) → k < length (pieces_of program (node_at nodes done).stands) →
      node_at (grown program nodes done) (length nodes + k)
      ≡ node_of done k (room_below (node_at nodes done).stands (node_at nodes done).room) (get_or (pieces_of program (node_at nodes done).stands) k d).form
  at_more k d h =
      let ps = pieces_of program (node_at nodes done).stands in
      let r = room_below (node_at nodes done).stands (node_at nodes done).room in
      let ne : length nodes + k ≢ done = omega arith in
      let e : 0 + k ≡ k = omega arith in
      get_or-set_other (nodes ++ children done 0 r ps) done (length nodes + k) (with_pieces (node_at nodes done) (length nodes) (length ps)) no_node ne
      ∙ get_or-append-add nodes (children done 0 r ps) k no_node
      ∙ get_or-children done 0 r ps k d h
      ∙ ap (λ (s : ℕ). node_of done s r (get_or ps k d).form) e

  -- what a node says of itself but its pieces stays
  stays : {X : Type 0} (f : Node → X) → f (with_pieces (node_at nodes done) (length nodes) (length (pieces_of program (node_at nodes done).stands))) ≡ f (node_at nodes done) →
      (m : ℕ) → m < length nodes → f (node_at (grown program nodes done) m) ≡ f (node_at nodes m)
  stays f same m h = elim (cases_eq m done) [
    | inl e ↦ ap (λ (n : ℕ). f (node_at (grown program nodes done) n)) e ∙ ap f at_done ∙ same ∙ ap (λ (n : ℕ). f (node_at nodes n)) (sym e)
    | inr ne ↦ ap f (at_other m h ne)
  ]

  module _ (values : List Value) (same : length values ≡ length nodes) where
    old_value : (m : ℕ) → m < length nodes → get_or (values ++ starts (pieces_of program (node_at nodes done).stands)) m kept.Nothing ≡ get_or values m kept.Nothing
    old_value m h = get_or_append_left values (starts (pieces_of program (node_at nodes done).stands)) kept.Nothing m (omega (arith, same))

    new_value : (k : ℕ) (d : Piece) → k < length (pieces_of program (node_at nodes done).stands) →
        get_or (values ++ starts (pieces_of program (node_at nodes done).stands)) (length nodes + k) kept.Nothing
        ≡ start_of (get_or (pieces_of program (node_at nodes done).stands) k d).form (get_or (pieces_of program (node_at nodes done).stands) k d).initial
    new_value k d h =
        let ps = pieces_of program (node_at nodes done).stands in
        let start : Piece → Value = λ p. start_of p.form p.initial in
        ap (λ (n : ℕ). get_or (values ++ starts ps) (n + k) kept.Nothing) (sym same)
        ∙ get_or-append-add values (starts ps) k kept.Nothing
        ∙ get_or-map start ps k d kept.Nothing h

    piece_stays : (n k space : ℕ) (p : Piece) (m : ℕ) → IsPiece nodes values n k space p m →
        IsPiece (grown program nodes done) (values ++ starts (pieces_of program (node_at nodes done).stands)) n k space p m
    piece_stays n k space p m i = record {
      within = omega (arith, length-grown, i.within);
      later = i.later;
      parent = stays (λ (x : Node). x.parent) refl m i.within ∙ i.parent;
      step = stays (λ (x : Node). x.step) refl m i.within ∙ i.step;
      room = stays (λ (x : Node). x.room) refl m i.within ∙ i.room;
      stands = stays (λ (x : Node). x.stands) refl m i.within ∙ i.stands;
      value = old_value m i.within ∙ i.value;
    }

    pieces_stay : (n : ℕ) (node : Node) → HasPieces program nodes values n node → HasPieces program (grown program nodes done) (values ++ starts (pieces_of program (node_at nodes done).stands)) n node
    pieces_stay n node h = record {
      count = h.count;
      room = h.room;
      fits = omega (arith, length-grown, h.fits);
      each = λ k d lt'. piece_stays n k (room_below node.stands node.room) (get_or (pieces_of program node.stands) k d) (node.first + k) (h.each k d lt');
    }

    new_piece : (k : ℕ) (d : Piece) → k < length (pieces_of program (node_at nodes done).stands) →
        IsPiece (grown program nodes done) (values ++ starts (pieces_of program (node_at nodes done).stands)) done k (room_below (node_at nodes done).stands (node_at nodes done).room)
        (get_or (pieces_of program (node_at nodes done).stands) k d) (length nodes + k)
    new_piece k d h = record {
      within = omega (arith, length-grown, h);
      later = omega (arith, lt);
      parent = ap (λ (x : Node). x.parent) (at_more k d h);
      step = ap (λ (x : Node). x.step) (at_more k d h);
      room = ap (λ (x : Node). x.room) (at_more k d h);
      stands = ap (λ (x : Node). x.stands) (at_more k d h);
      value = new_value k d h;
    }

    done_pieces : HasRoom (node_at nodes done).stands (node_at nodes done).room →
        HasPieces program (grown program nodes done) (values ++ starts (pieces_of program (node_at nodes done).stands)) done
        (with_pieces (node_at nodes done) (length nodes) (length (pieces_of program (node_at nodes done).stands)))
    done_pieces room = record { count = refl; room = room; fits = omega (arith, length-grown); each = λ k d h. new_piece k d h }

    below_stays : (m : ℕ) → m < length nodes → IsBelow nodes m done → IsBelow (grown program nodes done) m (done + 1)
    below_stays m h b =
        let parent_is : (node_at (grown program nodes done) m).parent ≡ (node_at nodes m).parent = stays (λ (x : Node). x.parent) refl m h in
        let step_is : (node_at (grown program nodes done) m).step ≡ (node_at nodes m).step = stays (λ (x : Node). x.step) refl m h in
        let q = (node_at nodes m).parent in
        let ne : q ≢ done = let below : q < done = b.done in omega arith in
        let inside : q < length nodes = let before : q < m = b.before in omega arith in
        record {
          before = omega (arith, parent_is, b.before);
          done = omega (arith, parent_is, b.done);
          child = ap (λ (n : ℕ). child (grown program nodes done) n (node_at (grown program nodes done) m).step) parent_is
              ∙ ap (λ (s : ℕ). child (grown program nodes done) q s) step_is
              ∙ ap (λ (x : Node). child_of x (node_at nodes m).step) (at_other q inside ne)
              ∙ b.child;
        }

    new_below : (k : ℕ) (d : Piece) → k < length (pieces_of program (node_at nodes done).stands) → IsBelow (grown program nodes done) (length nodes + k) (done + 1)
    new_below k d h =
        let i = new_piece k d h in
        let parent_is : (node_at (grown program nodes done) (length nodes + k)).parent ≡ done = i.parent in
        let step_is : (node_at (grown program nodes done) (length nodes + k)).step ≡ k = i.step in
        record {
          before = omega (arith, parent_is, lt);
          done = omega (arith, parent_is);
          child = ap (λ (n : ℕ). child (grown program nodes done) n (node_at (grown program nodes done) (length nodes + k)).step) parent_is
              ∙ ap (λ (s : ℕ). child (grown program nodes done) done s) step_is
              ∙ ap (λ (x : Node). child_of x k) at_done
              ∙ some_child (with_pieces (node_at nodes done) (length nodes) (length (pieces_of program (node_at nodes done).stands))) k h;
        }

no_piece : (ps : List Piece) (k : ℕ) → k < length ps → Piece
no_piece [] k h = absurd (omega arith)
no_piece (p ∷ ps) k h = p

pub grows : (program : Program) (top : Stands) (nodes : List Node) (values : List Value) (done : ℕ) → IsGrowing program top nodes values done → done < length nodes →
    HasRoom (node_at nodes done).stands (node_at nodes done).room →
    IsGrowing program top (grown program nodes done) (values ++ starts (pieces_of program (node_at nodes done).stands)) (done + 1)
grows program top nodes values done g lt room =
    let ps = pieces_of program (node_at nodes done).stands in
    let len = length-grown program nodes done lt in
    record {
      some = omega (arith, len, g.some);
      root = stays program nodes done lt (λ (x : Node). x.stands) refl 0 g.some ∙ g.root;
      room = stays program nodes done lt (λ (x : Node). x.room) refl 0 g.some ∙ g.room;
      nothing = old_value program nodes done lt values g.lengths 0 g.some ∙ g.nothing;
      lengths = length-append values (starts ps) ∙ ap (λ (k : ℕ). length values + k) (length-map ps (λ (p : Piece). start_of p.form p.initial)) ∙ ap (λ (k : ℕ). k + length ps) g.lengths ∙ sym len;
      below = λ m pos lt'. elim (cases_lt m (length nodes)) [
        | inl h ↦ below_stays program nodes done lt values g.lengths m h (g.below m pos h)
        | inr h ↦
            let k : ℕ = m - length nodes in
            let at : length nodes + k ≡ m = omega arith in
            let few : k < length ps = omega (arith, len) in
            subst (λ (n : ℕ). IsBelow (grown program nodes done) n (done + 1)) at (new_below program nodes done lt values g.lengths k (no_piece ps k few) few)
      ];
      pieces = λ n h. elim (cases_eq n done) [
        | inl e ↦ subst (λ (x : ℕ). HasPieces program (grown program nodes done) (values ++ starts ps) x (node_at (grown program nodes done) x)) (sym e)
            (subst (λ (x : Node). HasPieces program (grown program nodes done) (values ++ starts ps) done x) (sym (at_done program nodes done lt)) (done_pieces program nodes done lt values g.lengths room))
        | inr ne ↦
            let before : n < done = omega arith in
            let inside : n < length nodes = omega arith in
            subst (λ (x : Node). HasPieces program (grown program nodes done) (values ++ starts ps) n x) (sym (at_other program nodes done lt n inside ne))
            (pieces_stay program nodes done lt values g.lengths n (node_at nodes n) (g.pieces n before))
      ];
    }
