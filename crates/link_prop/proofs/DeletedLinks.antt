-- What a delete leaves of the links.
use Rattle.std.proofs.Common.{ℕ, zero, suc, ℤ, ◌≡◌, Bool, true, false, inl, inr, cond, ◌≤◌, refl, sym, ◌∙◌, ap, subst, arith, get_or, replicate}
use Rattle.std.specs.Prelude.{Option, Some, None, not, List, [], ◌∷◌, length, ◌==◌, ◌||◌, if◌then◌else◌}
use Rattle.std.specs.Option.{option_map, option_map_or}
use Rattle.std.specs.List.{All, flat_map, fold, list_any}
use Rattle.std.specs.FinMap as map
use Rattle.std.proofs.Math.ListN.{get_or-eq_default}
use Rattle.std.proofs.lemmas.Bool.{cases_eq, cases_lt}
use Rattle.std.proofs.lemmas.Bool.Decides.{nat_tests}
use Rattle.std.proofs.lemmas.List.{get_or-replicate, length-replicate}
use Rattle.std.proofs.lemmas.List.Elements.{All-filter}
use Rattle.sed_engine.specs.declared.call.Callback.TheVariants.{Stop}
use Rattle.sed_engine.specs.declared.call.Root.{Root}
use Rattle.sed_engine.specs.declared.call.Root.TheVariants.{Callback}
use Rattle.sed_engine.specs.Code.{Meaning, root_of}
use Rattle.sed_value.specs.declared.value.Value.{Value}
use Rattle.sed_value.proofs.Orders.{put_at, put_beside}
use Rattle.sub_table.specs.Link.{Link}
use Rattle.sub_table.specs.Links.{links_at, without_links_at}
use Rattle.comp_tree.specs.Application.{ById, Component, Components, change_at, children_of, object_of, parent_of}
use Rattle.comp_tree.specs.Calls.{Call, Counted, call_each, callback_argument, ended, not_run, run_at, then_run, with_end}
use Rattle.comp_tree.specs.Edits.{after_delete, removed, without_all, without_child}
use Rattle.comp_tree.specs.Order.{down_from, subtree}
use Rattle.comp_tree.specs.Whole.{IsLink}
use Rattle.link_prop.specs.Linked.{AreLinked}
use Rattle.link_prop.proofs.AlikeComponents.{AreAlike, alike_change, alike_more, alike_run, alike_same, class_at, link_with_classes}

-- ---- the ids of a subtree

-- a root call changes no children
module _ (m : Meaning) (a : Components) (id : ℕ) (which : Root) (argument : Value) (turns : ℕ) (moment : ℤ) (q : ℕ) where
  put_children : (c d : Component) → map.get a.by_id id ≡ Some c → d.children ≡ c.children → children_of (map.insert a.by_id id d) q ≡ children_of a.by_id q
  put_children c d there same = elim (cases_eq q id) [
    | inl is ↦
        ap (children_of (map.insert a.by_id id d)) is ∙ ap (λ r. option_map_or (λ (c : Component). c.children) r []) (put_at a.by_id id d)
        ∙ same ∙ ap (λ r. option_map_or (λ (c : Component). c.children) r []) (sym there) ∙ ap (children_of a.by_id) (sym is)
    | inr ne ↦ ap (λ r. option_map_or (λ (c : Component). c.children) r []) (put_beside a.by_id id d q ne)
  ]

  ran : (c : Component) → map.get a.by_id id ≡ Some c → (b : Bool) → children_of (if b then ended a id c (root_of m (object_of c) a.statics which argument turns moment) else not_run a turns).left.by_id q ≡ children_of a.by_id q
  ran c there true = put_children c (with_end c (root_of m (object_of c) a.statics which argument turns moment)) there refl
  ran c there false = refl

  ran_if : (o : Option Component) → map.get a.by_id id ≡ o → children_of (option_map_or (λ (c : Component). if c.fault == 0 then ended a id c (root_of m (object_of c) a.statics which argument turns moment) else not_run a turns) o (not_run a turns)).left.by_id q ≡ children_of a.by_id q
  ran_if None there = refl
  ran_if (Some c) there = ran c there (c.fault == 0)

  children_after_run : children_of (run_at m a id which argument turns moment).left.by_id q ≡ children_of a.by_id q
  children_after_run = ran_if (map.get a.by_id id) refl

-- it is told by the children alone
down_same : (before after : ById) → ((q : ℕ) → children_of after q ≡ children_of before q) → (levels id : ℕ) → down_from after levels id ≡ down_from before levels id
unfolding down_from
down_same before after same zero id = refl
down_same before after same (suc levels) id =
    ap (λ (ids : List ℕ). id ∷ ids)
    (ap (flat_map (down_from after levels)) (same id) ∙ ap (λ (f : ℕ → List ℕ). flat_map f (children_of before id)) (λ i x. down_same before after same levels x i))

-- ---- the calls of `stop`

module _ (m : Meaning) (turns : ℕ) (moment : ℤ) where
  abbrev stop_one : Counted → ℕ → Counted
  stop_one s id = then_run s (λ a. Call m a id Stop 0 turns moment)

  alike_stops : (ids : List ℕ) (s : Counted) → AreAlike s.left.by_id (fold stop_one s ids).left.by_id
  alike_stops [] s = alike_same s.left.by_id
  alike_stops (id ∷ ids) s =
      alike_more s.left.by_id (stop_one s id).left.by_id _ (alike_run m s.left id (Callback Stop) (callback_argument Stop 0) turns moment)
      (alike_stops ids (stop_one s id))

  children_after_stops : (ids : List ℕ) (s : Counted) (q : ℕ) → children_of (fold stop_one s ids).left.by_id q ≡ children_of s.left.by_id q
  children_after_stops [] s q = refl
  children_after_stops (id ∷ ids) s q =
      children_after_stops ids (stop_one s id) q ∙ children_after_run m s.left id (Callback Stop) (callback_argument Stop 0) turns moment q

-- ---- what is not among the ids that go

turned : (n k : ℕ) → (n == k) ≡ (k == n)
turned n k = grind (arith, nat_tests)

any_turned : (q : ℕ) (ids : List ℕ) → list_any (λ other. other == q) ids ≡ list_any (λ id. q == id) ids
any_turned q ids = ap (λ (p : ℕ → Bool). list_any p ids) (λ i other. turned other q i)

get_beside_all : (ids : List ℕ) (all : ById) (q : ℕ) → list_any (λ id. q == id) ids ≡ false → map.get (without_all ids all) q ≡ map.get all q
get_beside_all ids all q out =
    map.get-retain_keys all (λ (id : ℕ). not (list_any (λ other. other == id) ids)) q (λ x e. ap (λ (k : ℕ). not (list_any (λ other. other == k) ids)) (sym (map.nat_cmp-IsAntisymmetric q x e)))
    ∙ ap (λ (b : Bool). cond (not b) (map.get all q) None) (any_turned q ids ∙ out)

without_parents_child : (all : ById) (id : ℕ) (parent : Option ℕ) → AreAlike all (option_map_or (λ above. change_at all above (without_child id)) parent all)
without_parents_child all id None = alike_same all
without_parents_child all id (Some above) = alike_change all above (without_child id) (λ c. refl)

class_beside : (all : ById) (id q : ℕ) → list_any (λ other. q == other) (subtree all id) ≡ false → class_at (removed all id) q ≡ class_at all q
class_beside all id q out =
    ap (option_map (λ (c : Component). c.class))
    (get_beside_all (subtree all id) (option_map_or (λ above. change_at all above (without_child id)) (parent_of all id) all) q out)
    ∙ without_parents_child all id (parent_of all id) q

module _ (m : Meaning) (a : Components) (id turns : ℕ) (moment : ℤ) where
  abbrev stopped : Components
  stopped = (call_each m Stop turns moment a (subtree a.by_id id)).left

  same_subtree : subtree stopped.by_id id ≡ subtree a.by_id id
  same_subtree = down_same a.by_id stopped.by_id (λ q. children_after_stops m turns moment (subtree a.by_id id) (record { left = a; traps = 0 }) q) 17 id

  class_kept : (q : ℕ) → list_any (λ other. q == other) (subtree a.by_id id) ≡ false → class_at (after_delete m a id turns moment).by_id q ≡ class_at a.by_id q
  class_kept q out =
      class_beside stopped.by_id id q (ap (list_any (λ other. q == other)) same_subtree ∙ out)
      ∙ alike_stops m turns moment (subtree a.by_id id) (record { left = a; traps = 0 }) q

  module _ (links : List Link) (gone : All (λ (l : Link). (list_any (λ other. l.from == other) (subtree a.by_id id) ≡ false) × (list_any (λ other. l.to == other) (subtree a.by_id id) ≡ false)) (without_links_at (subtree a.by_id id) links))
      (fewer : (q : ℕ) → length (links_at q (without_links_at (subtree a.by_id id) links)) ≤ length (links_at q links)) (were : AreLinked m a.by_id links) where
    left_linked : AreLinked m (after_delete m a id turns moment).by_id (without_links_at (subtree a.by_id id) links)
    left_linked = record {
      typed = λ k d lt.
          let out = gone k d lt in
          link_with_classes m a.by_id (after_delete m a id turns moment).by_id (get_or (without_links_at (subtree a.by_id id) links) k d)
          (class_kept _ out.0) (class_kept _ out.1)
          (All-filter (λ (l : Link). not (list_any (λ other. (l.from == other) || (l.to == other)) (subtree a.by_id id))) (IsLink m a.by_id) links were.typed k d lt);
      at_each = λ q. more (fewer q) (were.at_each q);
    }
      where
        more : {a b c : ℕ} → a ≤ b → b ≤ c → a ≤ c
        more p q = omega arith

    pub linked_after_delete : (n : Meaning) (b : Components) (left : List Link) → n ≡ m → b ≡ after_delete m a id turns moment → left ≡ without_links_at (subtree a.by_id id) links → AreLinked n b.by_id left
    linked_after_delete n b left same is are =
        subst (λ m. AreLinked m b.by_id left) (sym same)
        (subst (λ (c : Components). AreLinked m c.by_id left) (sym is)
        (subst (AreLinked m (after_delete m a id turns moment).by_id) (sym are) left_linked))

-- ---- marks

pub none_marked : (n q : ℕ) → false ≡ get_or (replicate n false) q false
none_marked n q = elim (cases_lt q n) [
  | inl lt ↦ sym (get_or-replicate n q false false lt)
  | inr le ↦ let all = length-replicate n false in sym (get_or-eq_default (replicate n false) false (omega (arith, le, all)))
]
