-- Calls of the methods of a typed program, as they stand in its image.
use Rattle.std.proofs.Common.{◌≡◌, ◌<◌, ℕ, not, Bool, true, false, if◌then◌else◌, List, ◌∷◌, ◌++◌, length, Option, Some, None, refl, sym, ap, ◌∙◌, arith}
use Rattle.std.specs.Prelude.{is_none, slice_get}
use Rattle.std.specs.Option.{option_and_then, option_map_or}
use Rattle.sed_typed.specs.declared.kind.Kind.{Kind}
use Rattle.sed_typed.specs.declared.kind.Kind.TheVariants as kind
use Rattle.sed_typed.specs.declared.program.Method.{Method}
use Rattle.sed_typed.specs.declared.program.Program.{Program}
use Rattle.sed_typed.specs.Classes.{base_of, find, method_name}
use Rattle.sed_typed.specs.Typed.{IsMethod}
use Rattle.sed_typed.specs.TypedExpr.{IsCallOf, IsInvocation, IsStaticCall, IsSuperCall, object_class}
use Rattle.sed_engine.proofs.Below.{Based, found_above, of_some}
use Rattle.scode_image.specs.declared.image.Image.{Image}
use Rattle.scode_code.specs.Calls.{is_instance}
use Rattle.scode_code.specs.CodeRules.{is_abstract}
use Rattle.scode_code.specs.Kinds.{goes_to, object}
use Rattle.scode_code.specs.Wants.{result_cells}
use Rattle.scode_code.proofs.Places.{none_some, some_eq}
use Rattle.scode_code.proofs.Verifies.{goes_to_itself}
use Rattle.scode_whole.proofs.Truths.{no_truth}
use Rattle.scode_ops.specs.declared.op.Op.TheVariants as op
use Rattle.scode_emit.specs.Instructions.{invoke_op}
use Rattle.scode_emit.specs.Site.{Layout}
use Rattle.scode_entries.specs.Entries.{above}
use Rattle.scode_entries.specs.Method.{image_method}
use Rattle.scode_made.proofs.Places.{all_at}
use Rattle.scode_made.proofs.MadeMethods.{by_flags, by_two, with_body}
use Rattle.scode_fine.proofs.Builds.{Does}
use Rattle.scode_fine.proofs.CallOps.{call_does, own_taken, result_above, static_taken, virtual_does}
use Rattle.scode_fine.proofs.Images.{Known, cell_goes, class_goes}
use Rattle.scode_fine.proofs.Orders.{below_is, below_itself, classes_of}
use Rattle.scode_fine.proofs.PlainOps.{args_on}
use Rattle.scode_fine.proofs.Walks.{Ground, Stack}

-- from a base where there is one
based : (look : ℕ → Option ℕ) (o : Option ℕ) (n : ℕ) → option_and_then look o ≡ Some n → (b : ℕ) × (o ≡ Some b) × (look b ≡ Some n)
based look None n e = absurd (none_some n e)
based look (Some b) n e = (b, refl, e)

module _ (program : Program) (layout : Layout) (image : Image) (known : Known program layout image) where
  pub instance_is : (y : Method) (b : Bool) → y.is_static ≡ b → is_instance (image_method program layout y) ≡ not b
  instance_is y b e = by_flags y.is_static (is_none y.body) ∙ ap not e

  pub concrete_is : (y : Method) → (y.body ≡ None → ⊥) → is_abstract (image_method program layout y) ≡ false
  concrete_is y h = by_two y.is_static (is_none y.body) ∙ with_body y.body h

  pub method_is : (n : ℕ) (y : Method) → slice_get program.methods n ≡ Some y → IsMethod program y
  method_is n y is = all_at (IsMethod program) program.methods n y is known.typed.methods

  some_class : (n : ℕ) (y : Method) → slice_get program.methods n ≡ Some y → 0 < length (classes_of program)
  some_class n y is = let within = (method_is n y is).class in omega (arith, within)

  answered : (y : Method) (k : Kind) (below : Stack) → y.result ≡ k → result_cells (image_method program layout y).result ++ below ≡ above k below
  answered y k below e = result_above y.result below ∙ ap (λ (j : Kind). above j below) e

  -- a call finds the method declared at its class or above
  pub found_goes : (class n : ℕ) (name : List ℕ) (y : Method) → find program class name ≡ Some n → slice_get program.methods n ≡ Some y →
      goes_to image (object class) (object y.class.0) ≡ true
  found_goes class n name y found is =
      class_goes program layout image known y.class.0 class
      (below_is program known.typed y.class.0 class (some_class n y is) (found_above program class n name y found is).0)

module _ (program : Program) (layout : Layout) (g : Ground) (known : Known program layout g.image) where
  pub static_does : (n : ℕ) (k : Kind) (args : List Kind) (below : Stack) → IsStaticCall program n k args →
      Does g (op.Call n) (args_on args below) (above k below)
  static_does n k args below h =
      let r = of_some (slice_get program.methods n) h in
      let y = r.0 in
      let fine = method_is program layout g.image known n y r.1 in
      let body : y.body ≡ None → ⊥ = (λ none. no_truth (sym (fine.virtual (fine.no_body none).0).0 ∙ r.2.0)) in
      call_does g n (image_method program layout y) (args_on args below) below (above k below) (known.methods n y r.1)
      (concrete_is program layout g.image known y body)
      (static_taken g.image program (cell_goes program layout g.image known) y.class.0 (image_method program layout y) args y.params below refl
      (instance_is program layout g.image known y true r.2.0) r.2.1.takes fine.params)
      (answered program layout g.image known y k below r.2.1.gives)

  -- a method with a receiver, which is not looked up
  direct_does : (n : ℕ) (y : Method) (class : ℕ) (k : Kind) (args : List Kind) (below : Stack) → slice_get program.methods n ≡ Some y →
      y.is_static ≡ false → IsCallOf program y k args → (y.body ≡ None → ⊥) →
      goes_to g.image (object class) (object y.class.0) ≡ true → Does g (op.Call n) (args_on args (object class ∷ below)) (above k below)
  direct_does n y class k args below is own call body goes =
      let fine = method_is program layout g.image known n y is in
      call_does g n (image_method program layout y) (args_on args (object class ∷ below)) below (above k below) (known.methods n y is)
      (concrete_is program layout g.image known y body)
      (own_taken g.image program (cell_goes program layout g.image known) y.class.0 (image_method program layout y) args y.params (object class) below refl
      (instance_is program layout g.image known y false own) goes call.takes fine.params)
      (answered program layout g.image known y k below call.gives)

  pub super_does : (class n : ℕ) (k : Kind) (args : List Kind) (below : Stack) → IsSuperCall program class n k args →
      Does g (op.Call n) (args_on args (object class ∷ below)) (above k below)
  super_does class n k args below h =
      let b = based (λ (c : ℕ). find program c (method_name program n)) (base_of program.schema.classes class) n h.0.0 in
      let r = of_some (slice_get program.methods n) h.0.1 in
      let s = of_some (slice_get program.methods n) h.1 in
      let y = r.0 in
      let same : s.0 ≡ y = some_eq s.0 y (sym s.1 ∙ r.1) in
      let body : y.body ≡ None → ⊥ = (λ none. s.2 (ap (λ (z : Method). z.body) same ∙ none)) in
      let up = (found_above program b.0 n (method_name program n) y b.2 r.1).0 in
      let goes = class_goes program layout g.image known y.class.0 class
      (below_is program known.typed y.class.0 class (some_class program layout g.image known n y r.1) (Based b.0 class b.1 up)) in
      direct_does n y class k args below r.1 r.2.0 r.2.1 body goes

  pub invoke_does : (class n locals : ℕ) (k : Kind) (l : Kind) (args : List Kind) (below : Stack) → IsInvocation program (object_class k) n l args →
      Does g (invoke_op (record { program = program; layout = layout; class = class; locals = locals }) k n) (args_on args (above k below)) (above l below)
  invoke_does class n locals kind.Void l args below h = absurd (none_some n h.0)
  invoke_does class n locals kind.Bool l args below h = absurd (none_some n h.0)
  invoke_does class n locals kind.Int l args below h = absurd (none_some n h.0)
  invoke_does class n locals kind.Long l args below h = absurd (none_some n h.0)
  invoke_does class n locals kind.Text l args below h = absurd (none_some n h.0)
  invoke_does class n locals (kind.Object own) l args below h =
      by_sort (option_map_or (λ (x : Method). x.is_virtual) (slice_get program.methods n) false) refl
    where
      r : (y : Method) × (slice_get program.methods n ≡ Some y) × ((y.is_static ≡ false) × IsCallOf program y l args)
      r = of_some (slice_get program.methods n) h.1

      by_sort : (b : Bool) → option_map_or (λ (x : Method). x.is_virtual) (slice_get program.methods n) false ≡ b →
          Does g (if b then op.VirtualCall own.0 (layout.table_place own.0 n) else op.Call n) (args_on args (object own.0 ∷ below)) (above l below)
      by_sort true virtual =
          let y = r.0 in
          let fine = method_is program layout g.image known n y r.1 in
          let found = known.made.places own.0 own.0 n n virtual (below_itself program own.0 (some_class program layout g.image known n y r.1)) h.0 h.0 in
          virtual_does g own.0 (layout.table_place own.0 n) n (image_method program layout y) (args_on args (object own.0 ∷ below)) below (above l below)
          found (known.methods n y r.1)
          (own_taken g.image program (cell_goes program layout g.image known) own.0 (image_method program layout y) args y.params (object own.0) below refl
          (instance_is program layout g.image known y false r.2.0) (goes_to_itself g.image (object own.0)) r.2.1.takes fine.params)
          (answered program layout g.image known y l below r.2.1.gives)
      by_sort false plain =
          let y = r.0 in
          let fine = method_is program layout g.image known n y r.1 in
          let same : y.is_virtual ≡ false = sym (ap (λ (o : Option Method). option_map_or (λ x. x.is_virtual) o false) r.1) ∙ plain in
          let body : y.body ≡ None → ⊥ = (λ none. no_truth (sym same ∙ (fine.no_body none).0)) in
          direct_does n y own.0 l args below r.1 r.2.0 r.2.1 body
          (found_goes program layout g.image known own.0 n (method_name program n) y h.0 r.1)
