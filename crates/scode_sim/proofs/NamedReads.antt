-- What is read by name: texts, the receiver, locals, statics, and the parts of objects.
use Rattle.std.proofs.Common.{◌≡◌, ℕ, ◌+◌, ◌<◌, false, List, [], ◌∷◌, length, Option, Some, None, Result, Ok, Err, slice_get, slice_set, refl, sym, ap, ◌∙◌, subst, arith}
use Rattle.std.specs.Option.{option_and_then}
use Rattle.std.proofs.lemmas.Option.{same_Some}
use Rattle.sed_value.specs.declared.value.Value.{Value}
use Rattle.sed_value.specs.declared.value.Value.TheVariants as kept
use Rattle.sed_value.specs.declared.slot_type.Primitive.{Primitive}
use Rattle.sed_typed.specs.declared.kind.Kind.{Kind}
use Rattle.sed_typed.specs.declared.kind.Kind.TheVariants as kind
use Rattle.sed_typed.specs.declared.program.FieldForm.{FieldForm}
use Rattle.sed_typed.specs.declared.program.FieldForm.TheVariants as form
use Rattle.sed_typed.specs.declared.program.Program.{Program}
use Rattle.sed_typed.specs.Kinds.{read_kind}
use Rattle.sed_typed.specs.TypedExpr.{static_form, part_kind}
use Rattle.sed_typed.specs.Contents.{value_at}
use Rattle.sed_engine.specs.Expressions.{Calls, part_at, class_of}
use Rattle.sed_engine.specs.Places.{static_spot}
use Rattle.sed_engine.specs.State.{Shared, State, End, gives, answers, after, then_do}
use Rattle.sed_engine.specs.Steps.{contents_of, read_local, read_this, write_local, read_spot}
use Rattle.sed_engine.specs.Stops.{Stop, there, map_ok}
use Rattle.sed_engine.specs.Values.{Val, At, Literal, Spot, begun, receiver, bytes_of}
use Rattle.sed_engine.proofs.Below.{absent}
use Rattle.sed_engine.proofs.Frames.{local_held}
use Rattle.sed_engine.proofs.Kinded.{HasKind}
use Rattle.sed_engine.proofs.Ranges.{Sound}
use Rattle.sed_engine.proofs.Ready.{Holds}
use Rattle.scode_ops.specs.declared.op.Op.TheVariants as op
use Rattle.scode_ops.specs.Decoding.{size_of}
use Rattle.scode_image.specs.declared.image.Image.{Image}
use Rattle.scode_code.specs.Effect.{push, no_push, form_number}
use Rattle.scode_code.specs.Effect as does
use Rattle.scode_code.specs.Fields.{Setting}
use Rattle.scode_code.specs.Machine.{Point, Onward, pushed}
use Rattle.scode_code.specs.Steps.{effect, instruction_at}
use Rattle.scode_emit.specs.Site.{Layout}
use Rattle.scode_emit.specs.Instructions.{get_op, part_op}
use Rattle.scode_emit.proofs.Counts.{get_sized, part_sized}
use Rattle.scode_sim.specs.Made.{number_of_form, room_of_form}
use Rattle.scode_sim.proofs.Apart.{Apart, state, gives_apart, apart_then}
use Rattle.scode_sim.proofs.Comes.{Comes, here}
use Rattle.scode_sim.proofs.Context.{Known, Body, running, machine, source, runs}
use Rattle.scode_sim.proofs.Follows.{Ends, point, Stands, Pushed, not_void, HasAt, by_op_to, by_load, by_store, Sim, extend, push_sim, to_place}
use Rattle.scode_sim.proofs.Frames.{Running, IsCell, IsSolid, pushed_is, get_agrees, set_agrees, begun_cell, get_other, there_is}
use Rattle.scode_sim.proofs.Keeping.{reads}
use Rattle.scode_sim.proofs.Leaves.{constant_sim}
use Rattle.scode_sim.proofs.Objects.{block, static_field, static_str_room}
use Rattle.scode_sim.proofs.Operations.{IsField, get_effect, then_assoc}
use Rattle.scode_sim.proofs.Stores.{read_solid}
use Rattle.scode_sim.proofs.Waiting.{reads_apart}

-- a part is where it is said to be, or what is asked is not typed
part_text : (P : Val → Type 0) (spot : Spot) (s : State) (o : Option Value) →
    (let e = then_do (then_do (answers (there o) s) (λ v s1. answers (bytes_of v) s1)) (λ _ s1. gives (At spot) s1) in Sound P e.result → e ≡ gives (At spot) s)
part_text P spot s None h = absurd h
part_text P spot s (Some (kept.Buf bytes)) h = refl
part_text P spot s (Some (kept.Bool t)) h = absurd h
part_text P spot s (Some (kept.Byte n)) h = absurd h
part_text P spot s (Some (kept.Short n)) h = absurd h
part_text P spot s (Some (kept.Int n)) h = absurd h
part_text P spot s (Some (kept.Long n)) h = absurd h
part_text P spot s (Some kept.Nothing) h = absurd h

part_object : (P : Val → Type 0) (spot : Spot) (s : State) (o : Option ℕ) →
    (let e = then_do (answers (there o) s) (λ _ s1. gives (At spot) s1) in Sound P e.result → e ≡ gives (At spot) s)
part_object P spot s None h = absurd h
part_object P spot s (Some c) h = refl

part_gives : (program : Program) (class : ℕ) (calls : Calls) (P : Val → Type 0) (k : Kind) (spot : Spot) (s : State) → Sound P (part_at (source program class calls) k spot s).result →
    part_at (source program class calls) k spot s ≡ gives (At spot) s
part_gives program class calls P kind.Text spot s h = part_text P spot s (value_at (contents_of spot.base s.shared) spot.path) h
part_gives program class calls P (kind.Object d) spot s h = part_object P spot s (class_of (source program class calls) spot) h
part_gives program class calls P kind.Void spot s h = absurd h
part_gives program class calls P kind.Bool spot s h = absurd h
part_gives program class calls P kind.Int spot s h = absurd h
part_gives program class calls P kind.Long spot s h = absurd h

after_part : (program : Program) (class : ℕ) (calls : Calls) (P : Val → Type 0) (k : Kind) (r : Result Spot Stop) (t : State) →
    Sound P (after r t (λ spot s1. part_at (source program class calls) k spot s1)).result →
    after r t (λ spot s1. part_at (source program class calls) k spot s1) ≡ after r t (λ spot s1. gives (At spot) s1)
after_part program class calls P k (Ok spot) t h = part_gives program class calls P k spot t h
after_part program class calls P k (Err stop) t h = refl

module _ (program : Program) (layout : Layout) (image : Image) (class : ℕ) (known : Known program layout image class) (b : Body) where
  abbrev w : Setting
  w = machine image class

  abbrev x : Running
  x = running b

  abbrev G : State → Type 0
  G s = runs program class b s

  abbrev Has : Kind → Val → Type 0
  Has k v = HasKind program class k v

  pub text_sim : (n m place : ℕ) (st : List Val) → m < length program.texts → HasAt w x.method place (op.Text m ∷ []) → Sim w G x n Val (gives (Literal m)) place st (Pushed x n kind.Text (place + 3) st)
  text_sim n m place st lt has =
      let old = there_is program.texts m lt in
      let e : slice_get image.texts m ≡ Some old.0 = ap (λ ts. slice_get ts m) known.made.texts ∙ old.1 in
      constant_sim w G x n kind.Text (Literal m) place (place + 3) (op.Text m) st has.0 refl tt
      (λ s. ap (λ o. then_do (answers (there o) s) (λ _ s1. gives (Onward (Literal m ∷ st)) s1)) e)

  -- the receiver, which is an object
  pub this_at_sim : (n place : ℕ) (st : List Val) → b.frame.static ≡ false → HasAt w x.method place (op.Load 0 ∷ []) → Sim w G x n Val read_this place st (λ v s q. ((spot : Spot) × (v ≡ At spot)) × Stands x n (place + 2) (v ∷ st) s q)
  this_at_sim n place st instance has = record {
    comes = λ s ms g a t.
        let r = a.this instance in
        let e = get_agrees b.frame.locals s.locals ms a.each 0 (kind.Object b.frame.own) (b.frame.first instance) (At r.0) r.1 in
        let Q : Option Val → Type 0 = λ o. (let d = then_do (answers (there o) s) (λ v s1. answers (receiver v) s1) in Comes w (point x place ms st s.shared) (Ends (λ v s q. ((spot : Spot) × (v ≡ At spot)) × Stands x n (place + 2) (v ∷ st) s q) d.result d.state)) in
        subst Q (sym r.1)
        (by_load w x place 0 (At r.0) st ms s.shared _ has.0 e tt
        (here ((r.0, refl), record { locals = ms; agree = a; turns = t; is = refl })));
  }

  pub this_sim : (n place : ℕ) (st : List Val) → b.frame.static ≡ false → HasAt w x.method place (op.Load 0 ∷ []) → Sim w G x n Val read_this place st (Pushed x n (kind.Object b.frame.own) (place + 2) st)
  this_sim n place st instance has =
      extend w G (this_at_sim n place st instance has) (λ v s q e. here (record {
        void = not_void (kind.Object b.frame.own) v tt;
        stands = subst (λ stack. Stands x n (place + 2) stack s q) (sym (pushed_is v st (subst IsCell (sym e.0.1) tt))) e.1;
      }))

  pub local_sim : (n i place : ℕ) (k : Kind) (st : List Val) → slice_get b.frame.locals i ≡ Some k → HasAt w x.method place (op.Load i ∷ []) → Sim w G x n Val (read_local k i) place st (Pushed x n k (place + 2) st)
  local_sim n i place k st is has = record {
    comes = λ s ms g a t.
        let r = local_held program class b.frame.locals s.locals i k g.holds is in
        let u = begun k r.0 in
        let solid = b.solid i k is in
        let cell = begun_cell k r.0 solid in
        let e = get_agrees b.frame.locals s.locals ms a.each i k is r.0 r.1 in
        let Q : Option Val → Type 0 = λ o. (let d = then_do (answers (there o) s) (λ v s1. gives (begun k v) s1) in Comes w (point x place ms st s.shared) (Ends (Pushed x n k (place + 2) st) d.result d.state)) in
        subst Q (sym r.1)
        (by_load w x place i u st ms s.shared _ has.0 e cell
        (here (record { void = not_void k u solid; stands = record { locals = ms; agree = a; turns = t; is = ap (λ stack. point x (place + 2) ms stack s.shared) (sym (pushed_is u st cell)) } })));
  }

  -- the value on top into a local that is not the receiver
  pub store_sim : (n i place : ℕ) (k : Kind) (v : Val) (st : List Val) → slice_get b.frame.locals i ≡ Some k → (b.frame.static ≡ false → i ≡ 0 → ⊥) → IsCell v → HasAt w x.method place (op.Store i ∷ []) →
      Sim w G x n Val (write_local i v) place (v ∷ st) (λ u s q. (u ≡ v) × Stands x n (place + 2) st s q)
  store_sim n i place k v st is apart cell has = record {
    comes = λ s ms g a t.
        let r = local_held program class b.frame.locals s.locals i k g.holds is in
        let e = get_agrees b.frame.locals s.locals ms a.each i k is r.0 r.1 in
        let Q : Option Val → Type 0 = λ o. (let d = then_do (answers (map_ok (λ _. slice_set s.locals i v) (there o)) s) (λ locals s1. gives v (record { shared = s1.shared; locals = locals })) in
        Comes w (point x place ms (v ∷ st) s.shared) (Ends (λ u s q. (u ≡ v) × Stands x n (place + 2) st s q) d.result d.state)) in
        subst Q (sym r.1)
        (by_store w x place i (begun k r.0) v st ms s.shared _ has.0 e
        (here (
          refl,
          record {
            locals = slice_set ms i v;
            agree = record {
              each = set_agrees b.frame.locals s.locals ms a.each i k is v cell;
              this = λ instance. let old = a.this instance in (old.0, get_other s.locals i 0 v (apart instance) ∙ old.1);
            };
            turns = t;
            is = refl;
          },
        )));
  }

  -- ---- statics

  pub by_statics : (place : ℕ) (st ms : List Val) (sh : Shared) (Q : Point → Type 0) → instruction_at image x.method place ≡ Some op.Statics →
      Comes w (point x (place + 1) ms (block program known.typed layout image known.made class known.component ∷ st) sh) Q → Comes w (point x place ms st sh) Q
  by_statics place st ms sh Q has c =
      by_op_to w x place (place + 1) op.Statics st ms sh (gives (Onward (block program known.typed layout image known.made class known.component ∷ st)) (state sh ms)) Q has refl refl c

  abbrev the_block : Val
  the_block = block program known.typed layout image known.made class known.component

  pub static_is : (i : ℕ) (f : FieldForm) → static_form program i ≡ Some f → IsField w the_block (number_of_form f) (layout.static_offset i) (room_of_form f) (gives (static_spot i))
  static_is i f e = record { is = static_field program known.typed layout image known.made class known.component i f e }

  pub static_sim : (n i place : ℕ) (p : Primitive) (st : List Val) → static_form program i ≡ Some (form.Prim p) → HasAt w x.method place (op.Statics ∷ get_op p (layout.static_offset i) ∷ []) →
      Sim w G x n Val (read_spot (static_spot i)) place st (Pushed x n (read_kind p) (place + 4) st)
  static_sim n i place p st e has = record {
    comes = λ s ms g a t.
        let get = push_sim w G x n (read_kind p) (reads (gives (static_spot i))) (place + 1) (place + 4) (get_op p (layout.static_offset i)) (the_block ∷ st) st has.1.0
        (let size = get_sized p (layout.static_offset i) in let z : place + 1 + size_of (get_op p (layout.static_offset i)) ≡ place + 4 = omega (arith, size) in z) (read_solid p) (reads_apart (gives_apart (static_spot i)))
        (get_effect w p (layout.static_offset i) the_block (gives (static_spot i)) (static_is i (form.Prim p) e) st) in
        by_statics place st ms s.shared _ has.0 (get.comes s ms g a t);
  }

  -- ---- parts

  same_where : {n : ℕ} {A : Type 0} {f g : State → End A} {place : ℕ} {stack : List Val} {Q : A → State → Point → Type 0} →
      ((s : State) → G s → f s ≡ g s) → Sim w G x n A f place stack Q → Sim w G x n A g place stack Q
  same_where {n} {A} {f} {g} {place} {stack} {Q} same sim = record {
    comes = λ s ms gs a t. subst (λ (e : End A). Comes w (point x place ms stack s.shared) (Ends Q e.result e.state)) (same s gs) (sim.comes s ms gs a t);
  }

  -- a reference to what stands at a place
  abbrev refers : (State → End Spot) → State → End Val
  refers base s = then_do (base s) (λ spot s1. gives (At spot) s1)

  part_effect : (o : Val) (base : State → End Spot) (k : Kind) (f : FieldForm) (offset room : ℕ) → part_kind f ≡ Some k → ((n : ℕ) → f ≡ form.Str n → room ≡ n) → IsField w o (number_of_form f) offset (room_of_form f) base →
      (rest : List Val) (s : State) → effect w (part_op k offset room) (o ∷ rest) s ≡ push rest (refers base s)
  part_effect o base k (form.Object t) offset room e fits is rest s =
      let same : kind.Object t ≡ k = same_Some (kind.Object t) k e in
      subst (λ (k : Kind). effect w (part_op k offset room) (o ∷ rest) s ≡ push rest (refers base s)) same
      (ap (λ d. then_do d (λ spot s2. gives (Onward (At spot ∷ rest)) s2)) (is.is s) ∙ sym (then_assoc (base s) (λ spot s1. gives (At spot) s1) (λ v s1. gives (Onward (pushed v rest)) s1)))
  part_effect o base k (form.Str n) offset room e fits is rest s =
      let same : kind.Text ≡ k = same_Some kind.Text k e in
      subst (λ (k : Kind). effect w (part_op k offset room) (o ∷ rest) s ≡ push rest (refers base s)) same
      (ap (λ m. does.part w 6 offset m (o ∷ rest) s) (fits n refl)
      ∙ ap (λ d. then_do d (λ spot s2. gives (Onward (At spot ∷ rest)) s2)) (is.is s) ∙ sym (then_assoc (base s) (λ spot s1. gives (At spot) s1) (λ v s1. gives (Onward (pushed v rest)) s1)))
  part_effect o base k (form.Prim p) offset room e fits is rest s = absent k e
  part_effect o base k (form.Buf n) offset room e fits is rest s = absent k e
  part_effect o base k (form.Array p n) offset room e fits is rest s = absent k e

  part_solid : (f : FieldForm) (k : Kind) → part_kind f ≡ Some k → IsSolid k
  part_solid (form.Object t) k e = subst IsSolid (same_Some (kind.Object t) k e) tt
  part_solid (form.Str n) k e = subst IsSolid (same_Some kind.Text k e) tt
  part_solid (form.Prim p) k e = absent k e
  part_solid (form.Buf n) k e = absent k e
  part_solid (form.Array p n) k e = absent k e

  pub some_form : (o : Option FieldForm) (k : Kind) → option_and_then part_kind o ≡ Some k → (f : FieldForm) × (o ≡ Some f) × (part_kind f ≡ Some k)
  some_form None k e = absent k e
  some_form (Some f) k e = (f, refl, e)

  pub part_sim : (calls : Calls) (n place : ℕ) (o : Val) (base : State → End Spot) (k : Kind) (f : FieldForm) (offset room : ℕ) (st : List Val) → part_kind f ≡ Some k → ((m : ℕ) → f ≡ form.Str m → room ≡ m) →
      IsField w o (number_of_form f) offset (room_of_form f) base → Apart Spot base →
      Holds G Val (Has k) (λ s. then_do (base s) (λ spot s1. part_at (source program class calls) k spot s1)) → HasAt w x.method place (part_op k offset room ∷ []) →
      Sim w G x n Val (λ s. then_do (base s) (λ spot s1. part_at (source program class calls) k spot s1)) place (o ∷ st) (Pushed x n k (place + 5) st)
  part_sim calls n place o base k f offset room st e fits is apart holds has =
      same_where (λ s g. sym (after_part program class calls (Has k) k (base s).result (base s).state (holds.holds s g).1))
      (push_sim w G x n k (refers base) place (place + 5) (part_op k offset room) (o ∷ st) st has.0 (ap (λ m. place + m) (part_sized k offset room)) (part_solid f k e)
      (apart_then apart (λ spot. gives_apart (At spot))) (part_effect o base k f offset room e fits is st))

  pub static_part_sim : (calls : Calls) (n i place : ℕ) (k : Kind) (st : List Val) → option_and_then part_kind (static_form program i) ≡ Some k → Holds G Val (Has k) (part_at (source program class calls) k (static_spot i)) →
      HasAt w x.method place (op.Statics ∷ part_op k (layout.static_offset i) (layout.static_room i) ∷ []) →
      Sim w G x n Val (part_at (source program class calls) k (static_spot i)) place st (Pushed x n k (place + 6) st)
  static_part_sim calls n i place k st e holds has = record {
    comes = λ s ms g a t.
        let f = some_form (static_form program i) k e in
        let room : (m : ℕ) → f.0 ≡ form.Str m → layout.static_room i ≡ m = λ m is. static_str_room program known.typed layout image known.made class known.component i m (f.1 ∙ ap (λ (g : FieldForm). Some g) is) in
        let part = part_sim calls n (place + 1) the_block (gives (static_spot i)) k f.0 (layout.static_offset i) (layout.static_room i) st f.2 room (static_is i f.0 f.1) (gives_apart (static_spot i)) holds (has.1.0, tt) in
        let end : place + 1 + 5 ≡ place + 6 = omega arith in
        by_statics place st ms s.shared _ has.0 ((to_place w G (place + 6) end part).comes s ms g a t);
  }
