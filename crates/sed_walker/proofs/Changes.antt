-- What each call of a walker changes, over what it keeps.
use Rattle.std.proofs.Common.{◌≡◌, ℕ, ℤ, ◌+◌, ◌-◌, ◌≤◌, List, [], map, refl, sym, ◌∙◌, ap, subst, arith}
use Rattle.std.specs.Prelude.{Option, Some, None, IfSome, IsSomeAnd, IsTrue, slice_get}
use Rattle.std.specs.Option.{option_map, option_map_or}
use Rattle.std.specs.FinMap as finite
use Rattle.std.specs.Int.{w64}
use Rattle.std.specs.Ordering.{nat_cmp}
use Rattle.sed_value.specs.Value.{is_signed}
use Rattle.sed_value.specs.declared.value.Value.{Value}
use Rattle.sed_typed.specs.declared.schema.ClassInfo.{ClassInfo}
use Rattle.sed_typed.specs.declared.program.Program.{Program}
use Rattle.sed_typed.specs.Contents.{Contents}
use Rattle.sed_typed.specs.Initial.{initial, initial_statics}
use Rattle.sed_typed.specs.Spelled.{CanBeTold}
use Rattle.sed_engine.specs.declared.call.Root.{Root}
use Rattle.sed_engine.specs.Asked.{MayAsk}
use Rattle.sed_engine.specs.Code.{Object, Question, asked_of, data_of, may_call, new_object, root_of}
use Rattle.sed_engine.specs.Fits.{Fits}
use Rattle.sed_engine.specs.Program.{code_of, meaning_of}
use Rattle.sed_engine.specs.Root.{RootEnd}
use Rattle.sed_engine.specs.Whole.{IsObject, IsWhole}
use Rattle.sed_cells.specs.Places.{Plan, classes_in, contents_of, first_at}
use Rattle.slab.specs.Slab.{Slab, Updates, entries_from, get}
use Rattle.sed_walker.specs.declared.component.Component.{Component}
use Rattle.sed_walker.specs.Held.{Held, IsHeld, held_of, live_of, object_seen}
use Rattle.sed_walker.specs.Calls.{asked}
use Rattle.sed_walker.proofs.Live.{get-live, live-out, live-put}
use Rattle.sed_walker.proofs.Keeping.{first-statics, held-less, held-more, held-over, may-ask, size-is}
use Rattle.sed_value.proofs.Maps.{total_none}

module _ (plan : Plan) (s : Slab Component) (k : ℕ) where
  -- a live place has a component
  pub component_at : (P : Object → Type 0) → IsSomeAnd (finite.get (live_of plan s) k) P → (c : Component) × (get s k ≡ Some c) × P (object_seen plan c)
  component_at P h = go (get s k) refl (subst (λ (r : Option Object). IsSomeAnd r P) (get-live plan s k) h)
    where
      go : (r : Option Component) → get s k ≡ r → IsSomeAnd (option_map (object_seen plan) r) P → (c : Component) × (get s k ≡ Some c) × P (object_seen plan c)
      go (Some c) e h = (c, e, h)
      go None e h = absurd h

  pub live_at : (c : Component) → get s k ≡ Some c → finite.get (live_of plan s) k ≡ Some (object_seen plan c)
  live_at c e = get-live plan s k ∙ ap (option_map (object_seen plan)) e

  pub none_at : get s k ≡ None → finite.get (live_of plan s) k ≡ None
  none_at e = get-live plan s k ∙ ap (option_map (object_seen plan)) e

  -- a place is not live where there is no component
  pub not_live : (P : Object → Type 0) → get s k ≡ None → IsSomeAnd (finite.get (live_of plan s) k) P → ⊥
  not_live P e h = subst (λ (r : Option Object). IsSomeAnd r P) (none_at e) h

-- ---- what a walker's value tells of its components

module _ (plan : Plan) (s : Slab Component) (statics : List Value) (limit : ℕ) (h : Held) (view : held_of plan s statics limit ≡ h) (k : ℕ) where
  pub component_of : (P : Program → Object → Type 0) → IsSomeAnd (finite.get h.live k) (P h.program) → (c : Component) × (get s k ≡ Some c) × P plan.program (object_seen plan c)
  component_of P has = component_at plan s k (P plan.program) (subst (λ (h : Held). IsSomeAnd (finite.get h.live k) (P h.program)) (sym view) has)

  pub told : (Q : Held → Object → Type 0) (c : Component) → get s k ≡ Some c → Q (held_of plan s statics limit) (object_seen plan c) → IfSome (finite.get h.live k) (Q h)
  told Q c at q =
      subst (λ (h : Held). IfSome (finite.get h.live k) (Q h)) view
      (subst (λ (r : Option Object). IfSome r (Q (held_of plan s statics limit))) (sym (live_at plan s k c at)) q)

-- the bytes of a class, as the schema has them
pub size_there : (plan : Plan) (program : Program) (class n : ℕ) → IsWhole (meaning_of plan.program) → program ≡ plan.program
    → n ≡ option_map_or (λ (c : ClassInfo). c.size) (slice_get program.schema.classes class) 0 → n ≡ (meaning_of plan.program).data_size class
size_there plan program class n whole same is =
    is ∙ ap (λ (p : Program). option_map_or (λ (c : ClassInfo). c.size) (slice_get p.schema.classes class) 0) same
    ∙ sym (size-is (meaning_of plan.program) whole.tables class)

module _ (plan : Plan) (s : Slab Component) (statics : List Value) (limit used : ℕ) (is : IsHeld (held_of plan s statics limit) used) where
  -- ---- add

  module _ (new : Slab Component) (k size class : ℕ) (cells : List Value) (first : contents_of plan class cells ≡ initial plan.program class)
      (created : IsObject (meaning_of plan.program) (new_object (meaning_of plan.program) class)) (fresh : get s k ≡ None) (updates : Updates s new k (Some (record { class = class; cells = cells }))) where
    pub added : live_of plan new ≡ finite.insert (live_of plan s) k (new_object (meaning_of plan.program) class)
    added =
        live-put plan s new k (record { class = class; cells = cells }) updates.changed updates.others
        ∙ ap (λ (contents : Contents). finite.insert (live_of plan s) k (record { class = class; contents = contents })) first

    pub held-added : size ≡ (meaning_of plan.program).data_size class → used + size ≤ limit → IsHeld (held_of plan new statics limit) (used + size)
    held-added same fits =
        subst (λ live. IsHeld (record { program = plan.program; live = live; statics = contents_of plan (classes_in plan) statics; limit = limit }) (used + size)) (sym added)
        (held-more (held_of plan s statics limit) used is k (new_object (meaning_of plan.program) class) size created (none_at plan s k fresh) same fits)

  -- ---- remove

  module _ (new : Slab Component) (k size : ℕ) (c : Component) (at : get s k ≡ Some c) (updates : Updates s new k None) where
    pub removed : live_of plan new ≡ finite.remove (live_of plan s) k
    removed = live-out plan s new k updates.changed updates.others

    less : size ≡ (meaning_of plan.program).data_size c.class → (size ≤ used) × IsHeld (record (held_of plan s statics limit) { live = finite.remove (live_of plan s) k }) (used - size)
    less same = held-less (held_of plan s statics limit) used is k (object_seen plan c) size (live_at plan s k c at) same

    pub size_within : size ≡ (meaning_of plan.program).data_size c.class → size ≤ used
    size_within same = (less same).0

    pub held-removed : size ≡ (meaning_of plan.program).data_size c.class → IsHeld (held_of plan new statics limit) (used - size)
    held-removed same =
        subst (λ live. IsHeld (record { program = plan.program; live = live; statics = contents_of plan (classes_in plan) statics; limit = limit }) (used - size)) (sym removed) (less same).1

  -- ---- set and call

  pub held-changed : (new : Slab Component) (after : List Value) (k : ℕ) (c : Component) (n : Object) → get s k ≡ Some c → live_of plan new ≡ finite.insert (live_of plan s) k n
      → IsObject (meaning_of plan.program) n → c.class ≡ n.class
      → Fits (meaning_of plan.program).fields (meaning_of plan.program).static_fields (meaning_of plan.program).initial_statics (contents_of plan (classes_in plan) after)
      → IsHeld (held_of plan new after limit) used
  held-changed new after k c n at left object same fits =
      subst (λ live. IsHeld (record { program = plan.program; live = live; statics = contents_of plan (classes_in plan) after; limit = limit }) used) (sym left)
      (held-over (held_of plan s statics limit) used is k (object_seen plan c) n (contents_of plan (classes_in plan) after) (live_at plan s k c at) object same fits)

-- ---- call

-- what the walker's code gives
abbrev pub meant : Held → Object → Root → Value → ℕ → ℤ → RootEnd
meant h o which argument turns moment = root_of (meaning_of h.program) o h.statics which argument turns moment

-- what is said of a component that is there, with the same plan, argument and moment
pub moved : (Q : Plan → Component → Value → ℤ → Type 0) (q plan : Plan) → q ≡ plan → (u v : Value) → u ≡ v → (y z : ℤ) → y ≡ z → (r : Option Component) (c : Component) → r ≡ Some c
    → IfSome r (λ x. Q q x u y) → Q plan c v z
moved Q q plan e u v f y z g r c at h =
    subst (λ (r : Option Component). IfSome r (λ x. Q plan x v z)) at
    (subst (λ (p : Plan). IfSome r (λ x. Q p x v z)) e (subst (λ (a : Value). IfSome r (λ x. Q q x a z)) f (subst (λ (b : ℤ). IfSome r (λ x. Q q x u b)) g h)))

module _ (plan : Plan) (s : Slab Component) (statics : List Value) (limit used : ℕ) (is : IsHeld (held_of plan s statics limit) used)
    (k : ℕ) (c : Component) (at : get s k ≡ Some c) (which : Root) (argument : Value) (turns : ℕ) (moment : ℤ) where
  -- what may be asked is answered as the program's root call answers
  pub answered : ((q : Question) → MayAsk (code_of plan.program) q → (meaning_of plan.program).root q ≡ (code_of plan.program).root q)
      → IsTrue (may_call (meaning_of plan.program) c.class which argument) → 1 ≤ turns → turns ≤ 1000000 → IsTrue (is_signed w64 moment)
      → asked plan c statics which argument turns moment ≡ meant (held_of plan s statics limit) (object_seen plan c) which argument turns moment
  answered answers may some most long =
      sym (answers (asked_of (object_seen plan c) (contents_of plan (classes_in plan) statics) which argument turns moment)
      (may-ask (held_of plan s statics limit) used is k (object_seen plan c) which argument turns moment (live_at plan s k c at) may some most long))

-- ---- new

module _ (plan : Plan) (program : Program) (same : plan.program ≡ program) (s : Slab Component) (empty : s.slots ≡ []) (cells : List Value) (limit : ℕ) where
  pub nothing_live : live_of plan s ≡ finite.empty
  nothing_live = ap (λ (slots : List (Option Component)). finite.from_entries (map (λ (e : ℕ × Component). (e.0, object_seen plan e.1)) (entries_from 0 slots))) empty

  first : contents_of plan (classes_in plan) cells ≡ first_at plan.program (classes_in plan) → contents_of plan (classes_in plan) cells ≡ initial_statics plan.program
  first begins = begins ∙ first-statics plan.program

  pub held-first : IsWhole (meaning_of program) → CanBeTold program.schema → contents_of plan (classes_in plan) cells ≡ first_at plan.program (classes_in plan) → IsHeld (held_of plan s cells limit) 0
  held-first is_whole can_be_told begins =
      let whole : IsWhole (meaning_of plan.program) = subst (λ (p : Program). IsWhole (meaning_of p)) (sym same) is_whole in
      record {
        whole = whole;
        told = subst (λ (p : Program). CanBeTold p.schema) (sym same) can_be_told;
        objects = λ p. subst (λ (r : Option Object). IfSome r (IsObject (meaning_of plan.program))) (sym (ap (λ live. finite.get live p) nothing_live ∙ finite.get-empty nat_cmp p)) tt;
        statics = subst (λ (contents : Contents). Fits (meaning_of plan.program).fields (meaning_of plan.program).static_fields (meaning_of plan.program).initial_statics contents) (sym (first begins)) whole.tables.first_statics;
        counted = sym (ap (data_of (meaning_of plan.program)) nothing_live ∙ total_none (λ (o : Object). (meaning_of plan.program).data_size o.class));
        within = omega arith;
      }

  pub first_is : contents_of plan (classes_in plan) cells ≡ first_at plan.program (classes_in plan) → contents_of plan (classes_in plan) cells ≡ initial_statics program
  first_is begins = first begins ∙ ap initial_statics same
