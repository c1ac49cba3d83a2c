-- Calls of the methods of objects, virtual and not.
use Rattle.std.proofs.Common.{◌≡◌, ℕ, ◌+◌, ◌≤◌, ◌==◌, ◌||◌, zero, suc, Bool, true, false, if◌then◌else◌, List, [], ◌∷◌, ◌++◌, length, Option, Some, None, Ok, Err, slice_get, refl, sym, ap, ◌∙◌, subst, arith}
use Rattle.std.specs.List.{list_any}
use Rattle.std.specs.Option.{option_and_then, option_map_or}
use Rattle.std.proofs.lemmas.Bool.Decides.{nat_tests}
use Rattle.std.proofs.lemmas.Option.{same_Some}
use Rattle.sed_typed.specs.declared.kind.Kind.{Kind}
use Rattle.sed_typed.specs.declared.kind.Kind.TheVariants as kind
use Rattle.sed_typed.specs.declared.number.TypeNo.{TypeNo}
use Rattle.sed_typed.specs.declared.program.Method.{Method}
use Rattle.sed_typed.specs.declared.program.Program.{Program}
use Rattle.sed_typed.specs.Classes.{base_of, declared_method, find, first_found, method_name, reached}
use Rattle.sed_typed.specs.Typed.{receiver_of}
use Rattle.sed_typed.specs.TypedExpr.{AllGoTo, IsCallOf, IsInvocation, object_class}
use Rattle.sed_typed.specs.TypedSchema.{is_below}
use Rattle.sed_typed.proofs.Nearest.{plain_below}
use Rattle.sed_engine.specs.declared.trap.Trap.TheVariants.{NullReference}
use Rattle.sed_engine.specs.Expressions.{Setting as Source, Calls, put_all, frame_of, call, invoke, method_for, class_from}
use Rattle.sed_engine.specs.State.{State, End, answers, then_do}
use Rattle.sed_engine.specs.Stops.{Traps, there}
use Rattle.sed_engine.specs.Values.{Val, Nothing, Truth, Int, Long, Null, At, Literal, Spot, spot_of}
use Rattle.sed_engine.proofs.Below.{absent, of_some, FoundFor, found_below, found_above}
use Rattle.sed_engine.proofs.CallSteps.{ArgsHold, is_method}
use Rattle.sed_engine.proofs.Kinded.{HasKind}
use Rattle.sed_engine.proofs.Spots.{concrete, found_body}
use Rattle.scode_ops.specs.declared.op.Op.TheVariants as op
use Rattle.scode_image.specs.declared.image.Image.{Image}
use Rattle.scode_code.specs.Calls.{table_method}
use Rattle.scode_code.specs.Fields.{Setting}
use Rattle.scode_code.specs.Machine.{Point}
use Rattle.scode_code.specs.Steps.{instruction_at}
use Rattle.scode_emit.specs.Site.{Site, Layout, is_virtual}
use Rattle.scode_emit.specs.Instructions.{invoke_op, invoke_size}
use Rattle.scode_sim.proofs.Arguments.{Built, others_of}
use Rattle.scode_sim.proofs.CallForms.{FrameFor, framed, built_call, instance_count}
use Rattle.scode_sim.proofs.CallSims.{CallsFollowed, null_comes}
use Rattle.scode_sim.proofs.Callees.{others_room}
use Rattle.scode_sim.proofs.Comes.{Comes}
use Rattle.scode_sim.proofs.Context.{Known, Body, running, site, machine, source, runs}
use Rattle.scode_sim.proofs.Fields.{class_is}
use Rattle.scode_sim.proofs.Follows.{Ends, Pushed, Sim, then_sim}
use Rattle.scode_sim.proofs.Frames.{Running}
use Rattle.scode_sim.proofs.Objects.{below_is}
use Rattle.scode_sim.proofs.VirtualSims.{virtual_comes, virtual_null}

module _ (program : Program) (layout : Layout) (image : Image) (class : ℕ) (known : Known program layout image class) (b : Body) (calls : Calls) (frames : ℕ) (followed : CallsFollowed program image class frames calls) (deep : suc (length b.below) + frames ≡ 32) where
  abbrev w : Setting
  w = machine image class

  abbrev x : Running
  x = running b

  abbrev S : Site
  S = site program layout b

  abbrev G : State → Type 0
  G s = runs program class b s

  abbrev Has : Kind → Val → Type 0
  Has k v = HasKind program class k v

  abbrev L : Source
  L = source program class calls

  -- the method that the language calls on an object
  method_is : (spot : Spot) (c n k : ℕ) (m : Method) → class_from program class spot.base spot.path ≡ Some c → slice_get program.methods n ≡ Some m → find program c (method_name program n) ≡ Some k → method_for L spot n ≡ Ok k
  method_is spot c n k m is e found =
      let named : method_name program n ≡ m.name = ap (λ (o : Option Method). option_map_or (λ y. y.name) o []) e in
      ap (λ (o : Option ℕ). there (option_and_then (λ at. option_and_then (λ (y : Method). find program at y.name) (slice_get program.methods n)) o)) is
      ∙ ap (λ (o : Option Method). there (option_and_then (λ (y : Method). find program c y.name) o)) e
      ∙ ap (λ (name : List ℕ). there (find program c name)) (sym named) ∙ ap (λ (o : Option ℕ). there o) found

  -- what a call on an object is, once its receiver is known
  on_object : (spot : Spot) (n k : ℕ) (fr : List Val) (s : State) → method_for L spot n ≡ Ok k →
      then_do (answers (spot_of (At spot)) s) (λ p s2. then_do (answers (method_for L p n) s2) (λ j s3. call L j fr s3)) ≡ call L k fr s
  on_object spot n k fr s e = ap (λ r. then_do (answers r s) (λ j s3. call L j fr s3)) e

  -- a class that has a method is at itself
  own_is : (d number : ℕ) → find program d (method_name program number) ≡ Some number → is_below program.schema.classes d d ≡ true
  own_is d number e = own_in (length program.schema.classes) e
    where
      own_in : (most : ℕ) → first_found (declared_method program.methods (method_name program number)) (reached (base_of program.schema.classes) most (Some d)) ≡ Some number → list_any (λ c. c == d) (reached (base_of program.schema.classes) most (Some d)) ≡ true
      own_in zero e = let never : ⊥ = cc in absurd never
      own_in (suc most) e = let r : (d == d) ≡ true = grind (arith, nat_tests) in ap (λ (b : Bool). b || list_any (λ c. c == d) (reached (base_of program.schema.classes) most (base_of program.schema.classes d))) r

  -- ---- on null

  plain_null : (Q : Val → State → Point → Type 0) (n q number : ℕ) (m : Method) (st fr : List Val) (many : ℕ) → slice_get program.methods number ≡ Some m → many ≡ length (receiver_of m ++ m.params) → m.is_static ≡ false →
      (s : State) (p : Point) → Built x n q st many 65 (Null ∷ []) fr s p → instruction_at image x.method q ≡ Some (op.Call number) → Comes w p (Ends {A = Val} Q (Err (Traps NullReference)) s)
  plain_null Q n q number m st fr many is count instance s p built at =
      let stands = built.stands in
      subst (λ p. Comes w p (Ends {A = Val} Q (Err (Traps NullReference)) s)) (sym stands.is)
      (null_comes program layout image class known b calls frames followed deep Q q number m is st built.args (built.long ∙ count) instance (built.begins 0 Null refl) stands.locals s at)

  table_null : (Q : Val → State → Point → Type 0) (n q d place number : ℕ) (m : Method) (st fr : List Val) (many : ℕ) → slice_get program.methods number ≡ Some m → many ≡ length (receiver_of m ++ m.params) → table_method image d place ≡ Some number →
      (s : State) (p : Point) → Built x n q st many 65 (Null ∷ []) fr s p → instruction_at image x.method q ≡ Some (op.VirtualCall d place) → Comes w p (Ends {A = Val} Q (Err (Traps NullReference)) s)
  table_null Q n q d place number m st fr many is count table s p built at =
      let stands = built.stands in
      subst (λ p. Comes w p (Ends {A = Val} Q (Err (Traps NullReference)) s)) (sym stands.is)
      (virtual_null program layout image class known b calls frames followed deep Q q d place number m is table st built.args (built.long ∙ count) (built.begins 0 Null refl) stands.locals s at)

  -- ---- on an object

  table_call : (n q d place declared number c : ℕ) (m y : Method) (st fr : List Val) (many : ℕ) → slice_get program.methods declared ≡ Some m → many ≡ length (receiver_of m ++ m.params) → table_method image d place ≡ Some declared →
      slice_get program.methods number ≡ Some y → (y.body ≡ None → ⊥) → many ≡ length (receiver_of y ++ y.params) → (spot : Spot) → class_from program class spot.base spot.path ≡ Some c → table_method image c place ≡ Some number → FrameFor program layout image class known b calls frames followed deep y fr →
      (s : State) (p : Point) → G s → Built x n q st many 65 (At spot ∷ []) fr s p → instruction_at image x.method q ≡ Some (op.VirtualCall d place) →
      (let f = call L number fr s in Comes w p (Ends (Pushed x n y.result (q + 4) st) f.result f.state))
  table_call n q d place declared number c m y st fr many is count table here_is some count_y spot of_class there_is has s p g built at =
      let f = call L number fr s in
      let stands = built.stands in
      let room : length (others_of y) ≤ length built.blank =
      let l = built.long in let wh = built.whole in let o = others_room program y (is_method program known.typed class known.component b.frame number y here_is) some in omega (arith, l, wh, o, count_y) in
      subst (λ p. Comes w p (Ends (Pushed x n y.result (q + 4) st) f.result f.state)) (sym stands.is)
      (virtual_comes program layout image class known b calls frames followed deep n q d place declared number c m y is table here_is some spot (class_is program layout image known.made class spot.base spot.path ∙ of_class) there_is
      st fr built.args built.blank built.is built.cells built.nothing (built.long ∙ count) (built.long ∙ count_y) (built.begins 0 (At spot) refl) has.0 has.1 room stands.locals s g stands.agree stands.turns at)

  -- what is known of the method that an object has for one of its class
  pub record Target (d : TypeNo) (spot : Spot) (number : ℕ) (m : Method) (ks : List Kind) (result : Kind) : Type 0 where
    pub at : ℕ
    pub of_class : class_from program class spot.base spot.path ≡ Some at
    pub below : is_below program.schema.classes d.0 at ≡ true
    pub target : ℕ
    pub method : Method
    pub is : slice_get program.methods target ≡ Some method
    pub found : find program at (method_name program number) ≡ Some target
    pub some : method.body ≡ None → ⊥
    pub static : method.is_static ≡ false
    pub takes : AllGoTo program ks method.params
    pub self : Has (kind.Object method.class) (At spot)
    pub few : length method.params ≤ 8
    pub gives : method.result ≡ result

  target_of : (d : TypeNo) (spot : Spot) (number : ℕ) (m : Method) (ks : List Kind) (result : Kind) → Has (kind.Object d) (At spot) → find program d.0 (method_name program number) ≡ Some number → slice_get program.methods number ≡ Some m → m.is_static ≡ false → IsCallOf program m result ks →
      Target d spot number m ks result
  target_of d spot number m ks result h found is static call_of =
      let r : FoundFor program h.at (method_name program number) m = found_below program known.typed d.0 h.at number (method_name program number) m h.below found is in
      let known_at = concrete program known.typed class known.component spot.base spot.path h.at h.is in
      record {
        at = h.at;
        of_class = h.is;
        below = below_is program known.typed d.0 h.at known_at.0 h.below;
        target = r.number;
        method = r.method;
        is = r.is;
        found = r.found;
        some = found_body program known.typed h.at number r.number r.method known_at r.found r.is;
        static = r.same.static ∙ static;
        takes = subst (AllGoTo program ks) (sym r.same.params) call_of.takes;
        self = record { at = h.at; is = h.is; below = (found_above program h.at r.number (method_name program number) r.method r.found r.is).0 };
        few = (is_method program known.typed class known.component b.frame r.number r.method r.is).params_most;
        gives = r.same.result ∙ call_of.gives;
      }

  -- ---- both

  pub invoke_sim : (n at q number : ℕ) (k : Kind) (v : Val) (result : Kind) (st : List Val) (ks : List Kind) (fs : List (State → End Val)) → ArgsHold G Has ks fs → Has k v → IsInvocation program (object_class k) number result ks →
      Sim w G x n (List Val) (put_all 1 fs (frame_of v)) at (v ∷ st) (Built x n q st (suc (length ks)) 65 (v ∷ [])) → instruction_at image x.method q ≡ Some (invoke_op S k number) →
      Sim w G x n Val (invoke L v number fs) at (v ∷ st) (Pushed x n result (q + invoke_size S number) st)
  invoke_sim n at q number (kind.Object d) Null result st ks fs args h is sim code =
      let m = of_some (slice_get program.methods number) is.1 in
      let count = instance_count program layout image class known b calls frames followed deep m.0 ks m.2.1.takes m.2.0 in
      then_sim w G sim (framed program layout image class known b calls frames followed deep m.0 Null ks fs args m.2.1.takes m.2.0 tt (is_method program known.typed class known.component b.frame number m.0 m.1).params_most)
      (record { each = λ fr p s point g built. go (is_virtual S number) refl m.0 m.1 m.2.0 count fr s point built code })
    where
      go : (c : Bool) → is_virtual S number ≡ c → (m : Method) → slice_get program.methods number ≡ Some m → m.is_static ≡ false → suc (length ks) ≡ length (receiver_of m ++ m.params) → (fr : List Val) (s : State) (p : Point) → Built x n q st (suc (length ks)) 65 (Null ∷ []) fr s p →
          instruction_at image x.method q ≡ Some (invoke_op S (kind.Object d) number) → Comes w p (Ends {A = Val} (Pushed x n result (q + invoke_size S number) st) (Err (Traps NullReference)) s)
      go true e m here_is static count fr s p built code =
          let place = layout.table_place d.0 number in
          let at_op : instruction_at image x.method q ≡ Some (op.VirtualCall d.0 place) = code ∙ ap (λ (c : Bool). Some (if c then op.VirtualCall d.0 place else op.Call number)) e in
          table_null (Pushed x n result (q + invoke_size S number) st) n q d.0 place number m st fr (suc (length ks)) here_is count (known.made.places d.0 d.0 number number e (own_is d.0 number is.0) is.0 is.0) s p built at_op
      go false e m here_is static count fr s p built code =
          let at_op : instruction_at image x.method q ≡ Some (op.Call number) = code ∙ ap (λ (c : Bool). Some (if c then op.VirtualCall d.0 (layout.table_place d.0 number) else op.Call number)) e in
          plain_null (Pushed x n result (q + invoke_size S number) st) n q number m st fr (suc (length ks)) here_is count static s p built at_op
  invoke_sim n at q number (kind.Object d) (At spot) result st ks fs args h is sim code =
      let m = of_some (slice_get program.methods number) is.1 in
      let t = target_of d spot number m.0 ks result h is.0 m.1 m.2.0 m.2.1 in
      let count = instance_count program layout image class known b calls frames followed deep m.0 ks m.2.1.takes m.2.0 in
      let count_y = instance_count program layout image class known b calls frames followed deep t.method ks t.takes t.static in
      then_sim w G sim (framed program layout image class known b calls frames followed deep t.method (At spot) ks fs args t.takes t.static t.self t.few)
      (record { each = λ fr p s point g built. go (is_virtual S number) refl m.0 m.1 count t count_y fr p s point g built code })
    where
      go : (c : Bool) → is_virtual S number ≡ c → (m : Method) → slice_get program.methods number ≡ Some m → suc (length ks) ≡ length (receiver_of m ++ m.params) → (t : Target d spot number m ks result) → suc (length ks) ≡ length (receiver_of t.method ++ t.method.params) →
          (fr : List Val) → FrameFor program layout image class known b calls frames followed deep t.method fr → (s : State) (p : Point) → G s → Built x n q st (suc (length ks)) 65 (At spot ∷ []) fr s p →
          instruction_at image x.method q ≡ Some (invoke_op S (kind.Object d) number) →
          (let f = then_do (answers (spot_of (At spot)) s) (λ p s2. then_do (answers (method_for L p number) s2) (λ j s3. call L j fr s3)) in Comes w p (Ends (Pushed x n result (q + invoke_size S number) st) f.result f.state))
      go true e m here_is count t count_y fr has s p g built code =
          let place = layout.table_place d.0 number in
          let at_op : instruction_at image x.method q ≡ Some (op.VirtualCall d.0 place) = code ∙ ap (λ (c : Bool). Some (if c then op.VirtualCall d.0 place else op.Call number)) e in
          let size : q + 4 ≡ q + invoke_size S number = ap (λ (c : Bool). q + (if c then 4 else 3)) (sym e) in
          let own = known.made.places d.0 d.0 number number e (own_is d.0 number is.0) is.0 is.0 in
          let there_is = known.made.places d.0 t.at number t.target e t.below is.0 t.found in
          let f = call L t.target fr s in
          let one = table_call n q d.0 place number t.target t.at m t.method st fr (suc (length ks)) here_is count own t.is t.some count_y spot t.of_class there_is has s p g built at_op in
          subst (λ (f : End Val). Comes w p (Ends (Pushed x n result (q + invoke_size S number) st) f.result f.state)) (sym (on_object spot number t.target fr s (method_is spot t.at number t.target m t.of_class here_is t.found)))
          (subst (λ next. Comes w p (Ends (Pushed x n result next st) f.result f.state)) size (subst (λ k. Comes w p (Ends (Pushed x n k (q + 4) st) f.result f.state)) t.gives one))
      go false e m here_is count t count_y fr has s p g built code =
          let at_op : instruction_at image x.method q ≡ Some (op.Call number) = code ∙ ap (λ (c : Bool). Some (if c then op.VirtualCall d.0 (layout.table_place d.0 number) else op.Call number)) e in
          let size : q + 3 ≡ q + invoke_size S number = ap (λ (c : Bool). q + (if c then 4 else 3)) (sym e) in
          let plain : m.is_virtual ≡ false = sym (ap (λ (o : Option Method). option_map_or (λ z. z.is_virtual) o false) here_is) ∙ e in
          let same : t.target ≡ number = same_Some t.target number (sym t.found ∙ plain_below program known.typed d.0 t.at number (method_name program number) m t.below is.0 here_is plain) in
          let at_target : instruction_at image x.method q ≡ Some (op.Call t.target) = at_op ∙ ap (λ n. Some (op.Call n)) (sym same) in
          let f = call L t.target fr s in
          let one = built_call program layout image class known b calls frames followed deep n q t.target t.method st (At spot ∷ []) fr (suc (length ks)) t.is t.some count_y (λ instance. (spot, refl)) has s p g built at_target in
          subst (λ (f : End Val). Comes w p (Ends (Pushed x n result (q + invoke_size S number) st) f.result f.state)) (sym (on_object spot number t.target fr s (method_is spot t.at number t.target m t.of_class here_is t.found)))
          (subst (λ next. Comes w p (Ends (Pushed x n result next st) f.result f.state)) size (subst (λ k. Comes w p (Ends (Pushed x n k (q + 3) st) f.result f.state)) t.gives one))
  invoke_sim n at q number (kind.Object d) Nothing result st ks fs args h is sim code = absurd h
  invoke_sim n at q number (kind.Object d) (Truth t) result st ks fs args h is sim code = absurd h
  invoke_sim n at q number (kind.Object d) (Int m) result st ks fs args h is sim code = absurd h
  invoke_sim n at q number (kind.Object d) (Long m) result st ks fs args h is sim code = absurd h
  invoke_sim n at q number (kind.Object d) (Literal m) result st ks fs args h is sim code = absurd h
  invoke_sim n at q number kind.Void v result st ks fs args h is sim code = absent number is.0
  invoke_sim n at q number kind.Bool v result st ks fs args h is sim code = absent number is.0
  invoke_sim n at q number kind.Int v result st ks fs args h is sim code = absent number is.0
  invoke_sim n at q number kind.Long v result st ks fs args h is sim code = absent number is.0
  invoke_sim n at q number kind.Text v result st ks fs args h is sim code = absent number is.0
