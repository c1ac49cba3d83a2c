-- A method as it stands in the image: its receiver, its parameters, and what its locals begin as.
use Rattle.std.proofs.Common.{◌≡◌, ℕ, ◌+◌, ◌%◌, ◌==◌, Bool, true, false, not, cond, List, [], ◌∷◌, ◌++◌, map, pos, Option, Some, None, refl, ap, sym, subst, ◌∙◌}
use Rattle.std.specs.Prelude.{All, IfSome, is_none, nat_le, slice_get}
use Rattle.std.specs.Option.{option_map, option_map_or}
use Rattle.std.proofs.lemmas.List.{length-map}
use Rattle.std.proofs.lemmas.List.Elements.{All-append, All-cons, All-head, All-nil, All-tail}
use Rattle.std.proofs.lemmas.Option.{slice_get-map}
use Rattle.sed_typed.specs.declared.kind.Kind.{Kind}
use Rattle.sed_typed.specs.declared.kind.Kind.TheVariants as kind
use Rattle.sed_typed.specs.declared.program.Method.{Method}
use Rattle.sed_typed.specs.declared.program.Program.{Program}
use Rattle.sed_typed.specs.declared.statement.Stmt.{Stmt}
use Rattle.sed_typed.specs.Locals.{Declared, declared_in}
use Rattle.sed_typed.specs.Typed.{IsBody, IsMethod, IsStorable, Typed, declared_by, locals_of, receiver_of}
use Rattle.sed_typed.specs.TypedExpr.{IsKindOf}
use Rattle.sed_engine.specs.Values.{Val, Truth, Int, Long, zero_of}
use Rattle.scode_code.specs.Calls as machine
use Rattle.scode_entries.specs.Entries.{cell_of}
use Rattle.scode_entries.specs.Method.{image_method, waiting_kinds}
use Rattle.scode_gen.specs.Generated.{image_layout, image_of}
use Rattle.scode_image.specs.declared.image.ImageMethod.{ImageMethod}
use Rattle.scode_ops.specs.Codes.{IsOp}
use Rattle.scode_emit.specs.Method.{code_of}
use Rattle.scode_emit.specs.Site.{Layout}
use Rattle.scode_sim.specs.Made.{IsMethodOf}
use Rattle.scode_made.proofs.Places.{all_at}

-- what the compiler's locals begin as
abbrev waiting_values : List Val
waiting_values = Truth 0 ∷ Int (pos 0) ∷ Long (pos 0) ∷ Int (pos 0) ∷ []

zero_is : (program : Program) (k : Kind) → IsStorable program k → machine.zero_of (cell_of k) ≡ zero_of k
zero_is program kind.Void h = absurd h
zero_is program kind.Bool h = refl
zero_is program kind.Int h = refl
zero_is program kind.Long h = refl
zero_is program kind.Text h = refl
zero_is program (kind.Object class) h = refl

locals_begin : (program : Program) (kinds : List Kind) → All (IsStorable program) kinds →
    map machine.zero_of (map cell_of kinds ++ waiting_kinds) ≡ map zero_of kinds ++ waiting_values
locals_begin program [] h = refl
locals_begin program (k ∷ ks) h =
    ap (λ (v : Val). v ∷ map machine.zero_of (map cell_of ks ++ waiting_kinds)) (zero_is program k (All-head (IsStorable program) k ks h))
    ∙ ap (λ (vs : List Val). zero_of k ∷ vs) (locals_begin program ks (All-tail (IsStorable program) k ks h))

-- ---- flags: 1 says that a method has a receiver, and 2 that it has no body

pub by_flags : (static abstract : Bool) → (((cond static 0 1) + (cond abstract 2 0)) % 2 == 1) ≡ not static
by_flags true true = refl
by_flags true false = refl
by_flags false true = refl
by_flags false false = refl

pub by_two : (static abstract : Bool) → nat_le 2 ((cond static 0 1) + (cond abstract 2 0)) ≡ abstract
by_two true true = refl
by_two true false = refl
by_two false true = refl
by_two false false = refl

pub with_body : (o : Option Stmt) → (o ≡ None → ⊥) → is_none o ≡ false
with_body None h = absurd (h refl)
with_body (Some body) h = refl

-- ---- methods

-- what is stored is of a kind of the program
pub storable_kind : (program : Program) (k : Kind) → IsStorable program k → IsKindOf program k
storable_kind program kind.Void h = absurd h
storable_kind program kind.Bool h = tt
storable_kind program kind.Int h = tt
storable_kind program kind.Long h = tt
storable_kind program kind.Text h = tt
storable_kind program (kind.Object class) h = h

-- no local is void
pub storable : (program : Program) (m : Method) → IsMethod program m → All (IsStorable program) (locals_of m)
storable program m is = by_body m.body refl is.body
  where
    receiver : (b : Bool) → All (IsStorable program) (cond b [] (kind.Object m.class ∷ []))
    receiver true = All-nil (IsStorable program)
    receiver false = All-cons (IsStorable program) (kind.Object m.class) [] is.class (All-nil (IsStorable program))

    by_body : (o : Option Stmt) → m.body ≡ o → IfSome o (IsBody program m) → All (IsStorable program) (locals_of m)
    by_body None none h =
        let declared : map (λ (d : Declared). d.kind) (declared_by m) ≡ [] =
        ap (λ (o : Option Stmt). map (λ (d : Declared). d.kind) (option_map_or declared_in o [])) none in
        subst (λ (ks : List Kind). All (IsStorable program) (receiver_of m ++ m.params ++ ks)) (sym declared)
        (All-append (IsStorable program) (receiver_of m ++ m.params) []
        (All-append (IsStorable program) (receiver_of m) m.params (receiver m.is_static) is.params) (All-nil (IsStorable program)))
    by_body (Some body) there h = h.storable

is_made : (program : Program) (layout : Layout) (m : Method) → IsMethod program m → All IsOp (code_of program layout m) →
    IsMethodOf program layout m (image_method program layout m)
is_made program layout m is exists = record {
  code = refl;
  spelled = exists;
  instance = by_flags m.is_static (is_none m.body);
  params = length-map m.params cell_of;
  waiting = waiting_values;
  four = refl;
  locals = locals_begin program (locals_of m) (storable program m is);
}

pub methods_made : (program : Program) → Typed program → All (λ m. All IsOp (code_of program (image_layout program) m)) program.methods →
    (number : ℕ) (m : Method) → slice_get program.methods number ≡ Some m →
    (x : ImageMethod) × (slice_get (image_of program).methods number ≡ Some x) × IsMethodOf program (image_layout program) m x
methods_made program typed exist number m at =
    let layout = image_layout program in (
      image_method program layout m,
      slice_get-map (image_method program layout) program.methods number ∙ ap (option_map (image_method program layout)) at,
      is_made program layout m (all_at (IsMethod program) program.methods number m at typed.methods)
          (all_at (λ (x : Method). All IsOp (code_of program layout x)) program.methods number m at exist),
    )
