-- What each kind of change does to the marks: the application's step and its marks together.
use Rattle.std.proofs.Common.{ℕ, ℤ, ◌≡◌, ◌⊎◌, inl, inr, Bool, true, false, [], ◌∷◌, ◌++◌, refl, sym, ◌∙◌, ap, subst}
use Rattle.std.proofs.lemmas.Bool.{cases_eq}
use Rattle.std.specs.Prelude.{Option, Some, None, IfSome, IsTrue, ◌==◌, ◌||◌, if◌then◌else◌}
use Rattle.std.specs.Option.{option_map_or}
use Rattle.std.specs.FinMap as map
use Rattle.std.specs.Ordering.{nat_cmp}
use Rattle.sed_value.specs.declared.value.Value.{Value}
use Rattle.sed_engine.specs.declared.call.Root.{Root}
use Rattle.sed_engine.specs.declared.engine.Engine.{Ghosts}
use Rattle.sed_engine.specs.Code.{Meaning, root_of}
use Rattle.node_table.specs.declared.marks.Parts.{Parts}
use Rattle.comp_tree.specs.Application.{ById, Component, Components, change_at, is_live, object_of}
use Rattle.comp_tree.specs.Calls.{ended, not_run, run_at, with_end}
use Rattle.comp_tree.specs.Edits.{with_child, without_fault}
use Rattle.comp_tree.specs.Held.{Held, IsPlaced, Nodes, component_of, components_of, contents_at}
use Rattle.comp_tree.specs.Marks.{KeepsMarks, Part, added_at, all_parts, bytes_of, is_among, marks_at, marks_in, no_parts, only, part_at, parts_at, tree_parts, value_parts, with_parts}
use Rattle.comp_tree.specs.Marks.Part.{Tree, Config, Runtime}
use Rattle.node_table.specs.Changed.{with_children as node_children}
use Rattle.node_table.specs.declared.node.Node.{Node}
use Rattle.comp_tree.proofs.EditLemmas.{changed_is, live_same, of_found}
use Rattle.comp_tree.proofs.HeldLemmas.{component_with}
use Rattle.comp_tree.proofs.MapLemmas.{get_beside, get_put}
use Rattle.comp_tree.proofs.MarkSteps.{Touches, among_all, among_none, among_with, keeps_of, marks_beside, marks_changed, marks_put, only_beside, only_here, touched_here, with_none}

-- ---- bytes of parts

-- a component in the place of another, whose parts but these have the same bytes
pub part_put : (m : Meaning) (all : ById) (id : ℕ) (c k : Component) (parts : Parts) → map.get all id ≡ Some c → ((part : Part) → is_among part parts ≡ false → bytes_of m part c ≡ bytes_of m part k)
    → (q : ℕ) (part : Part) → is_among part (only id parts q) ≡ false → part_at m all q part ≡ part_at m (map.insert all id k) q part
part_put m all id c k parts found same q part out = elim (cases_eq q id) [
  | inl e ↦
      ap (λ (p : ℕ). part_at m all p part) e ∙ ap (λ r. option_map_or (bytes_of m part) r []) found
      ∙ same part (sym (ap (is_among part) (only_here id parts q e)) ∙ out)
      ∙ sym (ap (λ r. option_map_or (bytes_of m part) r []) (get_put all id k)) ∙ ap (λ (p : ℕ). part_at m (map.insert all id k) p part) (sym e)
  | inr ne ↦ sym (ap (λ r. option_map_or (bytes_of m part) r []) (get_beside all id k q ne))
]

pub part_change : (m : Meaning) (all : ById) (id : ℕ) (change : Component → Component) (parts : Parts) → ((part : Part) (c : Component) → is_among part parts ≡ false → bytes_of m part c ≡ bytes_of m part (change c))
    → (q : ℕ) (part : Part) → is_among part (only id parts q) ≡ false → part_at m all q part ≡ part_at m (change_at all id change) q part
part_change m all id change parts same q part out = by_component (map.get all id) refl
  where
    by_component : (r : Option Component) → map.get all id ≡ r → part_at m all q part ≡ part_at m (option_map_or (λ (c : Component). map.insert all id (change c)) r all) q part
    by_component None e = refl
    by_component (Some c) e = part_put m all id c (change c) parts e (λ part out. same part c out) q part out

-- a root call changes values alone
pub values_alone : (m : Meaning) (c k : Component) → bytes_of m Tree c ≡ bytes_of m Tree k → (part : Part) → is_among part value_parts ≡ false → bytes_of m part c ≡ bytes_of m part k
values_alone m c k same Tree out = same
values_alone m c k same Config out = absurd (let no = out in cc)
values_alone m c k same Runtime out = absurd (let no = out in cc)

pub tree_alone : (m : Meaning) (c k : Component) → bytes_of m Config c ≡ bytes_of m Config k → bytes_of m Runtime c ≡ bytes_of m Runtime k → (part : Part) → is_among part tree_parts ≡ false → bytes_of m part c ≡ bytes_of m part k
tree_alone m c k config runtime Tree out = absurd (let no = out in cc)
tree_alone m c k config runtime Config out = config
tree_alone m c k config runtime Runtime out = runtime

pub part_run : (m : Meaning) (a : Components) (id : ℕ) (which : Root) (argument : Value) (turns : ℕ) (moment : ℤ) (q : ℕ) (part : Part) → is_among part (only id value_parts q) ≡ false
    → part_at m a.by_id q part ≡ part_at m (run_at m a id which argument turns moment).left.by_id q part
part_run m a id which argument turns moment q part out = by_component (map.get a.by_id id) refl
  where
    by_fault : (c : Component) → map.get a.by_id id ≡ Some c → (b : Bool)
        → part_at m a.by_id q part ≡ part_at m (if b then ended a id c (root_of m (object_of c) a.statics which argument turns moment) else not_run a turns).left.by_id q part
    by_fault c e false = refl
    by_fault c e true =
        part_put m a.by_id id c (with_end c (root_of m (object_of c) a.statics which argument turns moment)) value_parts e
        (values_alone m c (with_end c (root_of m (object_of c) a.statics which argument turns moment)) refl) q part out

    by_component : (r : Option Component) → map.get a.by_id id ≡ r → part_at m a.by_id q part
        ≡ part_at m (option_map_or (λ c. if c.fault == 0 then ended a id c (root_of m (object_of c) a.statics which argument turns moment) else not_run a turns) r (not_run a turns)).left.by_id q part
    by_component None e = refl
    by_component (Some c) e = by_fault c e (c.fault == 0)

-- ---- steps

module _ {E : Type 0} (g : Ghosts E) (row : ℕ → Parts) (before after : Held E) where
  -- marks of a row besides, and the bytes of the other parts as they were
  pub keeps_step : g.meaning after.engine ≡ g.meaning before.engine → (all : ById) → (components_of g after).by_id ≡ all
      → ((id place : ℕ) → IsTrue (is_live (components_of g after).by_id id) → marks_at after id place ≡ with_parts (row id) (marks_at before id place))
      → ((id : ℕ) (part : Part) → IsTrue (is_live (components_of g after).by_id id) → is_among part (row id) ≡ false → part_at (g.meaning before.engine) (components_of g before).by_id id part ≡ part_at (g.meaning before.engine) all id part)
      → KeepsMarks g row before after
  keeps_step meaning all is marks bytes =
      let step : Touches g row before after = record {
        marks = marks;
        bytes = λ id part live out.
            bytes id part live out ∙ ap (λ (m : Meaning). part_at m all id part) (sym meaning) ∙ ap (λ (x : ById). part_at (g.meaning after.engine) x id part) (sym is);
      } in
      keeps_of g row before after step (λ id. live_same (g.live after.engine) after.nodes id)

-- nothing has changed
pub keeps_same : {E : Type 0} (g : Ghosts E) (row : ℕ → Parts) (before after : Held E) → after ≡ before → KeepsMarks g row before after
keeps_same g row before after same = subst (λ x. KeepsMarks g row before x) (sym same) (record {
  tells = λ id place part clear. (clear, refl);
  sets = λ id place part live set. inl set;
  clears_none = λ id place part live set. set;
})

-- a smaller row, where what is more in the other is of nothing that is live
pub keeps_narrow : {E : Type 0} (g : Ghosts E) (row less : ℕ → Parts) (before after : Held E) → KeepsMarks g row before after
    → ((id : ℕ) (part : Part) → IsTrue (is_live (components_of g after).by_id id) → is_among part (row id) ≡ true → is_among part (less id) ≡ true) → KeepsMarks g less before after
keeps_narrow g row less before after keeps more = record {
  tells = keeps.tells;
  sets = λ id place part live set. elim (keeps.sets id place part live set) [ inl was ↦ inl was | inr there ↦ inr (more id part live there) ];
  clears_none = keeps.clears_none;
}

-- one step, and then another that makes nothing live
pub keeps_then : {E : Type 0} (g : Ghosts E) (row next all : ℕ → Parts) (before mid after : Held E) → KeepsMarks g row before mid → KeepsMarks g next mid after
    → ((id : ℕ) → IsTrue (is_live (components_of g after).by_id id) → IsTrue (is_live (components_of g mid).by_id id))
    → ((id : ℕ) (part : Part) → IsTrue (is_live (components_of g after).by_id id) → (is_among part (row id) ≡ true) ⊎ (is_among part (next id) ≡ true) → is_among part (all id) ≡ true)
    → KeepsMarks g all before after
keeps_then g row next all before mid after first second lives both = record {
  tells = λ id place part clear.
      let s = second.tells id place part clear in
      let f = first.tells id place part s.0 in
      (f.0, f.1 ∙ s.1);
  sets = λ id place part live set. elim (second.sets id place part live set) [
    | inl was ↦ elim (first.sets id place part (lives id live) was) [ inl long ↦ inl long | inr there ↦ inr (both id part live (inl there)) ]
    | inr there ↦ inr (both id part live (inr there))
  ];
  clears_none = λ id place part live set. second.clears_none id place part live (first.clears_none id place part (lives id live) set);
}

-- ---- the kinds of change

module _ {E : Type 0} (g : Ghosts E) (before mid after : Held E) (id : ℕ) (parts : Parts)
    (marks : (q place : ℕ) → marks_at mid q place ≡ marks_at before q place) (more : (q place : ℕ) → marks_at after q place ≡ with_parts (only id parts q) (marks_at mid q place))
    (stays : components_of g after ≡ components_of g mid) (meaning : g.meaning after.engine ≡ g.meaning before.engine) where
  marked : (q place : ℕ) → marks_at after q place ≡ with_parts (only id parts q) (marks_at before q place)
  marked q place = more q place ∙ ap (with_parts (only id parts q)) (marks q place)

  -- a step that changes these parts of a component alone, and then their marks
  pub keeps_marked : (left : Components) → components_of g mid ≡ left
      → ((q : ℕ) (part : Part) → is_among part (only id parts q) ≡ false → part_at (g.meaning before.engine) (components_of g before).by_id q part ≡ part_at (g.meaning before.engine) left.by_id q part)
      → KeepsMarks g (only id parts) before after
  keeps_marked left is bytes =
      keeps_step g (only id parts) before after meaning left.by_id (ap (λ (a : Components). a.by_id) (stays ∙ is)) (λ q place live. marked q place) (λ q part live out. bytes q part out)

-- a node that changes, with its component: these parts are marked, and the others have the same bytes
module _ {E : Type 0} (g : Ghosts E) (h : Held E) (was : IsPlaced (g.meaning h.engine) (g.live h.engine) h.nodes) (id : ℕ) (n : Node) (found : map.get h.nodes id ≡ Some n) (change : Node → Node)
    (kind : (change n).kind ≡ n.kind) (place : (change n).place ≡ n.place) (after : Nodes) (nodes_are : IfSome (map.get h.nodes id) (λ k. after ≡ map.insert h.nodes id (change k)))
    (with : Component → Component) (is : component_with (change n) (contents_at (g.live h.engine) n.place.0) ≡ with (component_of (g.live h.engine) n)) (parts : Parts)
    (more : (at : ℕ) → parts_at (change n).marks at ≡ with_parts parts (parts_at n.marks at)) (bytes : (part : Part) (c : Component) → is_among part parts ≡ false → bytes_of (g.meaning h.engine) part c ≡ bytes_of (g.meaning h.engine) part (with c)) where
  pub keeps_changed : KeepsMarks g (only id parts) h (record { engine = h.engine; nodes = after })
  keeps_changed =
      keeps_step g (only id parts) h (record { engine = h.engine; nodes = after }) refl (change_at (components_of g h).by_id id with)
      (ap (λ (a : Components). a.by_id) (changed_is g h was id n found change kind place after nodes_are with is))
      (λ q at live. marks_changed h.nodes id (change n) parts n after found more (of_found _ n (λ k. after ≡ map.insert h.nodes id (change k)) found nodes_are) q at)
      (λ q part live out. part_change (g.meaning h.engine) (components_of g h).by_id id with parts bytes q part out)

pub among_no_one : (at q : ℕ) (part : Part) → is_among part (only at no_parts q) ≡ true → is_among part no_parts ≡ true
among_no_one at q part e = sym (ap (is_among part) (by_test (q == at))) ∙ e
  where
    by_test : (b : Bool) → (if b then no_parts else no_parts) ≡ no_parts
    by_test true = refl
    by_test false = refl

pub no_fault_part : (m : Meaning) (part : Part) (c : Component) → is_among part no_parts ≡ false → bytes_of m part c ≡ bytes_of m part (without_fault c)
no_fault_part m Tree c out = refl
no_fault_part m Config c out = refl
no_fault_part m Runtime c out = refl

pub same_either : {A : Type 0} → A ⊎ A → A
same_either (inl a) = a
same_either (inr a) = a

-- ---- a component that is added

or_true : (b : Bool) → (b || true) ≡ true
or_true true = refl
or_true false = refl

with_all : (p : Parts) → with_parts all_parts p ≡ all_parts
with_all p = λ i. record { tree = or_true p.tree i; config = or_true p.config i; runtime = or_true p.runtime i }

or_both : (a b c : Bool) → ((a || b) || c) ≡ (a || (b || c))
or_both true b c = refl
or_both false b c = refl

with_both : (p q r : Parts) → with_parts p (with_parts q r) ≡ with_parts (with_parts p q) r
with_both p q r = λ i. record { tree = or_both r.tree q.tree p.tree i; config = or_both r.config q.config p.config i; runtime = or_both r.runtime q.runtime p.runtime i }

-- marks that a node is put with, where all are set
pub marks_new : (nodes after : Nodes) (id : ℕ) (k : Node) → ((at : ℕ) → parts_at k.marks at ≡ all_parts) → after ≡ map.insert nodes id k → (q at : ℕ) → marks_in after q at ≡ with_parts (only id all_parts q) (marks_in nodes q at)
marks_new nodes after id k set is q at = elim (cases_eq q id) [
  | inl e ↦
      ap (λ (m : Nodes). marks_in m q at) is ∙ ap (λ (p : ℕ). marks_in (map.insert nodes id k) p at) e ∙ marks_put nodes id k at ∙ set at
      ∙ sym (with_all (marks_in nodes q at)) ∙ ap (λ (ps : Parts). with_parts ps (marks_in nodes q at)) (sym (only_here id all_parts q e))
  | inr ne ↦
      ap (λ (m : Nodes). marks_in m q at) is ∙ marks_beside nodes id k q at ne ∙ sym (with_none (marks_in nodes q at))
      ∙ ap (λ (ps : Parts). with_parts ps (marks_in nodes q at)) (sym (only_beside id all_parts q ne))
]

pub all_set : (nodes after : Nodes) (id : ℕ) (k : Node) → ((q at : ℕ) → marks_in nodes q at ≡ all_parts) → ((at : ℕ) → parts_at k.marks at ≡ all_parts) → after ≡ map.insert nodes id k → (q at : ℕ) → marks_in after q at ≡ all_parts
all_set nodes after id k before set is q at = elim (cases_eq q id) [
  | inl e ↦ ap (λ (m : Nodes). marks_in m q at) is ∙ ap (λ (p : ℕ). marks_in (map.insert nodes id k) p at) e ∙ marks_put nodes id k at ∙ set at
  | inr ne ↦ ap (λ (m : Nodes). marks_in m q at) is ∙ marks_beside nodes id k q at ne ∙ before q at
]

pub all_none : (nodes : Nodes) → nodes ≡ map.empty → (q at : ℕ) → marks_in nodes q at ≡ all_parts
all_none nodes none q at = ap (λ r. option_map_or (λ (n : Node). parts_at n.marks at) r all_parts) (ap (λ (m : Nodes). map.get m q) none ∙ map.get-empty nat_cmp q)

pub all_of_them : (p : Parts) → ((part : Part) → is_among part p ≡ true) → p ≡ all_parts
all_of_them p each = λ i. record { tree = each Tree i; config = each Config i; runtime = each Runtime i }

module _ (m : Meaning) (all : ById) (parent new : ℕ) (k : Component) where
  -- the new component aside, only the parent's children change
  pub part_added : (q : ℕ) (part : Part) → is_among part (added_at parent new q) ≡ false → part_at m all q part ≡ part_at m (map.insert (change_at all parent (with_child new)) new k) q part
  part_added q part out = elim (cases_eq q new) [
    | inl e ↦ absurd (let set = sym (ap (is_among part) (only_here new all_parts q e) ∙ among_all part) in let clear = both.1 in cc)
    | inr ne ↦
        part_change m all parent (with_child new) tree_parts (λ part c out. tree_alone m c (with_child new c) refl refl part out) q part both.0
        ∙ sym (ap (λ r. option_map_or (bytes_of m part) r []) (get_beside (change_at all parent (with_child new)) new k q ne))
  ]
    where
      or_clear : (a b : Bool) → (a || b) ≡ false → (a ≡ false) × (b ≡ false)
      or_clear true b e = absurd (let no = e in cc)
      or_clear false b e = (refl, e)

      both : (is_among part (only parent tree_parts q) ≡ false) × (is_among part (only new all_parts q) ≡ false)
      both = or_clear (is_among part (only parent tree_parts q)) (is_among part (only new all_parts q)) (sym (among_with part (only new all_parts q) (only parent tree_parts q)) ∙ out)

module _ {E : Type 0} (g : Ghosts E) (before after : Held E) (meaning : g.meaning after.engine ≡ g.meaning before.engine) (parent new : ℕ) (k : Component) (above n : Node) (found : map.get before.nodes parent ≡ Some above)
    (mid : Nodes) (pushed : IfSome (map.get before.nodes parent) (λ x. mid ≡ map.insert before.nodes parent (node_children (x.children ++ new ∷ []) x))) (put : after.nodes ≡ map.insert mid new n) (set : (at : ℕ) → parts_at n.marks at ≡ all_parts)
    (is : (components_of g after).by_id ≡ map.insert (change_at (components_of g before).by_id parent (with_child new)) new k) where
  pub keeps_added : KeepsMarks g (added_at parent new) before after
  keeps_added =
      keeps_step g (added_at parent new) before after meaning (map.insert (change_at (components_of g before).by_id parent (with_child new)) new k) is
      (λ q at live.
      marks_new mid after.nodes new n set put q at
      ∙ ap (with_parts (only new all_parts q)) (marks_changed before.nodes parent (node_children (above.children ++ new ∷ []) above) tree_parts above mid found (touched_here tree_parts above.marks)
      (of_found _ above (λ x. mid ≡ map.insert before.nodes parent (node_children (x.children ++ new ∷ []) x)) found pushed) q at)
      ∙ with_both (only new all_parts q) (only parent tree_parts q) (marks_in before.nodes q at))
      (λ q part live out. part_added (g.meaning before.engine) (components_of g before).by_id parent new k q part out)

-- the values of the new component are among what an add may mark
pub values_in_added : (parent new q : ℕ) (part : Part) → (is_among part (added_at parent new q) ≡ true) ⊎ (is_among part (only new value_parts q) ≡ true) → is_among part (added_at parent new q) ≡ true
values_in_added parent new q part (inl e) = e
values_in_added parent new q part (inr e) = elim (cases_eq q new) [
  | inl same ↦
      among_with part (only new all_parts q) (only parent tree_parts q) ∙ ap (λ (b : Bool). is_among part (only parent tree_parts q) || b) (ap (is_among part) (only_here new all_parts q same) ∙ among_all part)
      ∙ or_true (is_among part (only parent tree_parts q))
  | inr ne ↦ absurd (let none = sym (ap (is_among part) (only_beside new value_parts q ne) ∙ among_none part) ∙ e in cc)
]
