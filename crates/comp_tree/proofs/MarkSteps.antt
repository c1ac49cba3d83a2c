-- What a step does to the marks and to the bytes of parts.
use Rattle.std.proofs.Common.{ℕ, ◌≡◌, ◌≢◌, ◌<◌, ◌⊎◌, length, inl, inr, Bool, true, false, List, refl, sym, ◌∙◌, ap, subst, arith}
use Rattle.std.proofs.Math.ListN.{get_or-map}
use Rattle.std.proofs.lemmas.Bool.{cases_eq, or_parts as or_cases}
use Rattle.std.proofs.lemmas.List.{get_or-set_same, get_or-set_other}
use Rattle.std.proofs.lemmas.Bool.Decides.{nat_tests}
use Rattle.std.specs.Prelude.{Option, Some, None, IsTrue, is_some, ◌==◌, ◌&&◌, ◌||◌, if◌then◌else◌}
use Rattle.std.specs.Option.{option_map_or}
use Rattle.std.specs.FinMap as map
use Rattle.sed_engine.specs.declared.engine.Engine.{Ghosts}
use Rattle.node_table.specs.Changed.{settled, touched, with_marks}
use Rattle.node_table.specs.declared.marks.Parts.{Parts}
use Rattle.node_table.specs.declared.node.Node.{Node}
use Rattle.comp_tree.specs.Application.{is_live}
use Rattle.comp_tree.specs.Held.{Held, IsHeld, IsPlaced, IsTreeOf, Nodes, by_id_of, component_of, components_of}
use Rattle.comp_tree.specs.Marks.{KeepsMarks, Part, all_parts, is_among, marks_at, marks_in, no_parts, only, part_at, parts_at, with_parts, without_parts}
use Rattle.comp_tree.specs.Marks.Part.{Tree, Config, Runtime}
use Rattle.comp_tree.proofs.MapLemmas.{get_beside, get_put, put_same}
use Rattle.comp_tree.proofs.NodeTrees.{tree_alike}
use Rattle.comp_tree.proofs.RunLemmas.{by_id_node, placed_node}
use Rattle.comp_tree.proofs.TreeLemmas.{component_is}

-- ---- sets of parts

or_false : (b : Bool) → (b || false) ≡ b
or_false true = refl
or_false false = refl

pub with_none : (p : Parts) → with_parts no_parts p ≡ p
with_none p = λ i. record { tree = or_false p.tree i; config = or_false p.config i; runtime = or_false p.runtime i }

pub among_with : (part : Part) (more p : Parts) → is_among part (with_parts more p) ≡ (is_among part p || is_among part more)
among_with Tree more p = refl
among_with Config more p = refl
among_with Runtime more p = refl

pub among_none : (part : Part) → is_among part no_parts ≡ false
among_none Tree = refl
among_none Config = refl
among_none Runtime = refl

pub among_all : (part : Part) → is_among part all_parts ≡ true
among_all Tree = refl
among_all Config = refl
among_all Runtime = refl

pub only_here : (at : ℕ) (parts : Parts) (id : ℕ) → id ≡ at → only at parts id ≡ parts
only_here at parts id e = let yes : (id == at) ≡ true = grind (arith, nat_tests) in ap (λ (b : Bool). if b then parts else no_parts) yes

pub only_beside : (at : ℕ) (parts : Parts) (id : ℕ) → id ≢ at → only at parts id ≡ no_parts
only_beside at parts id ne = let no : (id == at) ≡ false = grind (arith, nat_tests) in ap (λ (b : Bool). if b then parts else no_parts) no

-- ---- marks of nodes

pub touched_here : (parts : Parts) (marks : List Parts) (place : ℕ) → parts_at (touched parts marks) place ≡ with_parts parts (parts_at marks place)
touched_here parts marks place = get_or-map (with_parts parts) marks place all_parts

module _ (nodes : Nodes) (id : ℕ) (k : Node) where
  pub marks_put : (place : ℕ) → marks_in (map.insert nodes id k) id place ≡ parts_at k.marks place
  marks_put place = ap (λ r. option_map_or (λ (n : Node). parts_at n.marks place) r all_parts) (get_put nodes id k)

  pub marks_beside : (q place : ℕ) → q ≢ id → marks_in (map.insert nodes id k) q place ≡ marks_in nodes q place
  marks_beside q place ne = ap (λ r. option_map_or (λ (n : Node). parts_at n.marks place) r all_parts) (get_beside nodes id k q ne)

  -- a node that is put with these marks besides those that it had
  pub marks_changed : (parts : Parts) (n : Node) (after : Nodes) → map.get nodes id ≡ Some n → ((place : ℕ) → parts_at k.marks place ≡ with_parts parts (parts_at n.marks place)) → after ≡ map.insert nodes id k
      → (q place : ℕ) → marks_in after q place ≡ with_parts (only id parts q) (marks_in nodes q place)
  marks_changed parts n after found more is q place = elim (cases_eq q id) [
    | inl e ↦
        ap (λ (m : Nodes). marks_in m q place) is ∙ ap (λ (p : ℕ). marks_in (map.insert nodes id k) p place) e ∙ marks_put place ∙ more place
        ∙ ap (with_parts parts) (sym (ap (λ r. option_map_or (λ (n : Node). parts_at n.marks place) r all_parts) found))
        ∙ ap (λ (p : ℕ). with_parts parts (marks_in nodes p place)) (sym e)
        ∙ ap (λ (ps : Parts). with_parts ps (marks_in nodes q place)) (sym (only_here id parts q e))
    | inr ne ↦
        ap (λ (m : Nodes). marks_in m q place) is ∙ marks_beside q place ne ∙ sym (with_none (marks_in nodes q place))
        ∙ ap (λ (ps : Parts). with_parts ps (marks_in nodes q place)) (sym (only_beside id parts q ne))
  ]

-- what is not there has all marks, which more does not change
pub marks_dead : (nodes : Nodes) (id : ℕ) (parts : Parts) → map.get nodes id ≡ None → (place : ℕ) → marks_in nodes id place ≡ with_parts parts (marks_in nodes id place)
marks_dead nodes id parts none place =
    let dead : marks_in nodes id place ≡ all_parts = ap (λ r. option_map_or (λ (n : Node). parts_at n.marks place) r all_parts) none in
    dead ∙ ap (with_parts parts) (sym dead)

pub marks_untouched : (nodes : Nodes) (id : ℕ) (parts : Parts) → map.get nodes id ≡ None → (q place : ℕ) → marks_in nodes q place ≡ with_parts (only id parts q) (marks_in nodes q place)
marks_untouched nodes id parts none q place = elim (cases_eq q id) [
  | inl e ↦
      ap (λ (p : ℕ). marks_in nodes p place) e ∙ marks_dead nodes id parts none place ∙ ap (λ (p : ℕ). with_parts parts (marks_in nodes p place)) (sym e)
      ∙ ap (λ (ps : Parts). with_parts ps (marks_in nodes q place)) (sym (only_here id parts q e))
  | inr ne ↦ sym (with_none (marks_in nodes q place)) ∙ ap (λ (ps : Parts). with_parts ps (marks_in nodes q place)) (sym (only_beside id parts q ne))
]

-- ---- a step

-- the marks after are those before and a row's, and what is not in the row has the same bytes; said of what is live after
pub record Touches {E : Type 0} (g : Ghosts E) (row : ℕ → Parts) (before after : Held E) : Type 0 where
  pub marks : (id place : ℕ) → IsTrue (is_live (components_of g after).by_id id) → marks_at after id place ≡ with_parts (row id) (marks_at before id place)
  pub bytes : (id : ℕ) (part : Part) → IsTrue (is_live (components_of g after).by_id id) → is_among part (row id) ≡ false
      → part_at (g.meaning before.engine) (components_of g before).by_id id part ≡ part_at (g.meaning after.engine) (components_of g after).by_id id part

or_set : (a b : Bool) → (a || b) ≡ true → (a ≡ true) ⊎ (b ≡ true)
or_set true b e = inl refl
or_set false b e = inr e

or_keeps : (a b : Bool) → a ≡ true → (a || b) ≡ true
or_keeps true b e = refl
or_keeps false b e = absurd (let no = e in cc)

module _ {E : Type 0} (g : Ghosts E) (row : ℕ → Parts) (before after : Held E) where
  -- what a call does to the marks, from its step
  pub keeps_of : Touches g row before after → ((id : ℕ) → is_live (components_of g after).by_id id ≡ is_some (map.get after.nodes id)) → KeepsMarks g row before after
  keeps_of step lives = record {
    tells = λ id place part clear.
        let live = live_if_clear id place part clear in
        let both = or_cases (is_among part (marks_at before id place)) (is_among part (row id)) (sym (among_with part (row id) (marks_at before id place)) ∙ ap (is_among part) (sym (step.marks id place live)) ∙ clear) in
        (both.0, step.bytes id part live both.1);
    sets = λ id place part live set.
        or_set (is_among part (marks_at before id place)) (is_among part (row id)) (sym (among_with part (row id) (marks_at before id place)) ∙ ap (is_among part) (sym (step.marks id place live)) ∙ set);
    clears_none = λ id place part live set.
        ap (is_among part) (step.marks id place live) ∙ among_with part (row id) (marks_at before id place) ∙ or_keeps (is_among part (marks_at before id place)) (is_among part (row id)) set;
  }
    where
      live_if_clear : (id place : ℕ) (part : Part) → is_among part (marks_at after id place) ≡ false → IsTrue (is_live (components_of g after).by_id id)
      live_if_clear id place part clear = lives id ∙ by_node (map.get after.nodes id) clear
        where
          by_node : (r : Option Node) → is_among part (option_map_or (λ (n : Node). parts_at n.marks place) r all_parts) ≡ false → is_some r ≡ true
          by_node None e = absurd (let no = sym (among_all part) ∙ e in cc)
          by_node (Some n) e = refl

-- ---- nodes whose marks change alone

module _ {E : Type 0} (g : Ghosts E) (h : Held E) (was : IsPlaced (g.meaning h.engine) (g.live h.engine) h.nodes) (id : ℕ) (n : Node) (found : map.get h.nodes id ≡ Some n) (marks : List Parts) (after : Nodes) (is : after ≡ map.insert h.nodes id (with_marks marks n)) where
  pub same_components : components_of g (record { engine = h.engine; nodes = after }) ≡ components_of g h
  same_components =
      let by_id : by_id_of (g.live h.engine) after ≡ by_id_of (g.live h.engine) h.nodes =
      by_id_node (g.meaning h.engine) (g.live h.engine) h.nodes was id n found after (with_marks marks n) refl refl is
      ∙ put_same (by_id_of (g.live h.engine) h.nodes) id (component_of (g.live h.engine) n) (component_is (g.meaning h.engine) (g.live h.engine) h.nodes id n found)
      in
      λ i. record { by_id = by_id i; statics = g.statics h.engine; limit = g.limit h.engine }

  pub marked_held : IsTreeOf h.nodes → IsHeld (g.meaning h.engine) (g.live h.engine) after
  marked_held tree = record {
    placed = placed_node (g.meaning h.engine) (g.live h.engine) h.nodes was id n found after (with_marks marks n) refl refl is;
    tree = subst IsTreeOf (sym is) (tree_alike h.nodes id n (with_marks marks n) found refl refl tree);
  }

-- ---- settling

pub marks_settled : (nodes after : Nodes) (id place : ℕ) (parts : Parts) (n : Node) → map.get nodes id ≡ Some n → place < length n.marks → after ≡ map.insert nodes id (with_marks (settled place parts n.marks) n)
    → (q p : ℕ) → marks_in after q p ≡ (if (q == id) && (p == place) then without_parts parts (marks_in nodes q p) else marks_in nodes q p)
marks_settled nodes after id place parts n found lt is q p = elim (cases_eq q id) [
  | inl e ↦
      let yes : (q == id) ≡ true = grind (arith, nat_tests) in
      let here : marks_in nodes q p ≡ parts_at n.marks p = ap (λ (k : ℕ). marks_in nodes k p) e ∙ ap (λ r. option_map_or (λ (n : Node). parts_at n.marks p) r all_parts) found in
      ap (λ (m : Nodes). marks_in m q p) is ∙ ap (λ (k : ℕ). marks_in (map.insert nodes id (with_marks (settled place parts n.marks) n)) k p) e
      ∙ marks_put nodes id (with_marks (settled place parts n.marks) n) p
      ∙ at_place p (cases_eq p place)
      ∙ ap (λ (b : Bool). if b && (p == place) then without_parts parts (parts_at n.marks p) else parts_at n.marks p) (sym yes)
      ∙ ap (λ (ps : Parts). if (q == id) && (p == place) then without_parts parts ps else ps) (sym here)
  | inr ne ↦
      let no : (q == id) ≡ false = grind (arith, nat_tests) in
      ap (λ (m : Nodes). marks_in m q p) is ∙ marks_beside nodes id (with_marks (settled place parts n.marks) n) q p ne
      ∙ ap (λ (b : Bool). if b && (p == place) then without_parts parts (marks_in nodes q p) else marks_in nodes q p) (sym no)
]
  where
    at_place : (p : ℕ) → (p ≡ place) ⊎ (p ≢ place) → parts_at (settled place parts n.marks) p ≡ (if p == place then without_parts parts (parts_at n.marks p) else parts_at n.marks p)
    at_place p (inl e) =
        let yes : (p == place) ≡ true = grind (arith, nat_tests) in
        ap (parts_at (settled place parts n.marks)) e ∙ get_or-set_same n.marks place (without_parts parts (parts_at n.marks place)) all_parts lt
        ∙ ap (λ (k : ℕ). without_parts parts (parts_at n.marks k)) (sym e)
        ∙ ap (λ (b : Bool). if b then without_parts parts (parts_at n.marks p) else parts_at n.marks p) (sym yes)
    at_place p (inr ne) =
        let no : (p == place) ≡ false = grind (arith, nat_tests) in
        get_or-set_other n.marks place p (without_parts parts (parts_at n.marks place)) all_parts ne
        ∙ ap (λ (b : Bool). if b then without_parts parts (parts_at n.marks p) else parts_at n.marks p) (sym no)

-- a node that is put with the marks that it had
pub marks_kept : (nodes after : Nodes) (id : ℕ) (n k : Node) → map.get nodes id ≡ Some n → k.marks ≡ n.marks → after ≡ map.insert nodes id k → (q place : ℕ) → marks_in after q place ≡ marks_in nodes q place
marks_kept nodes after id n k found same is q place = elim (cases_eq q id) [
  | inl e ↦
      ap (λ (m : Nodes). marks_in m q place) is ∙ ap (λ (p : ℕ). marks_in (map.insert nodes id k) p place) e ∙ marks_put nodes id k place ∙ ap (λ (ms : List Parts). parts_at ms place) same
      ∙ sym (ap (λ r. option_map_or (λ (n : Node). parts_at n.marks place) r all_parts) found) ∙ ap (λ (p : ℕ). marks_in nodes p place) (sym e)
  | inr ne ↦ ap (λ (m : Nodes). marks_in m q place) is ∙ marks_beside nodes id k q place ne
]
