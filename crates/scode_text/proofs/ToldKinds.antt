-- Kinds of cells have a spelling, if their classes are those of a typed program.
use Rattle.std.proofs.Common.{◌≡◌, ℕ, ◌<◌, ◌≤◌, ◌==◌, Bool, true, false, cond, List, [], ◌∷◌, ◌++◌, length, map, reverse, refl, arith}
use Rattle.std.specs.Prelude.{All}
use Rattle.std.proofs.lemmas.Grind.{reverse_onto}
use Rattle.std.proofs.lemmas.List.Elements.{All-cons, All-map, All-nil, All-push, All-same, All-weaker}
use Rattle.sed_typed.specs.declared.kind.Kind.{Kind}
use Rattle.sed_typed.specs.declared.kind.Kind.TheVariants as variant
use Rattle.sed_typed.specs.declared.program.Program.{Program}
use Rattle.sed_typed.specs.Typed.{IsStorable}
use Rattle.sed_typed.specs.TypedExpr.{IsKindOf}
use Rattle.sed_wire.specs.Form.{given}
use Rattle.sed_wire.specs.Leaves.{u2}
use Rattle.scode_image.specs.declared.image.ImageKind.{ImageKind}
use Rattle.scode_image.specs.Grammar.{u1_to, kind, kind_class}
use Rattle.scode_code.specs.Kinds.{plain, object, statics}
use Rattle.scode_entries.specs.Entries.{cell_of}
use Rattle.scode_entries.specs.Method.{waiting_kinds}
use Rattle.scode_entries.proofs.Admits.{Each}
use Rattle.scode_made.proofs.MadeMethods.{storable_kind}
use Rattle.scode_text.proofs.Forms.{HasBytes, then_bytes, u1_to_bytes, u2_bytes}

abbrev pub IsToldKind : ImageKind → Type 0
IsToldKind k = HasBytes kind k

no_class : (b : Bool) → b ≡ false → HasBytes (cond b u2 (given 0)) 0
no_class true e = let never : ⊥ = cc in absurd never
no_class false e = ([], (refl, refl))

pub plain_told : (n : ℕ) → n ≤ 5 → IsToldKind (plain n)
unfolding kind kind_class
plain_told n le =
    let other : (n == 6) ≡ false = grind (arith, le) in
    then_bytes (u1_to 6) kind_class n 0 (u1_to_bytes 6 n (omega (arith, le)) (omega (arith, le))) (no_class (n == 6) other)

pub object_told : (class : ℕ) → class ≤ 65535 → IsToldKind (object class)
unfolding kind kind_class
object_told class le = then_bytes (u1_to 6) kind_class 6 class (u1_to_bytes 6 6 (omega arith) (omega arith)) (u2_bytes class le)

pub statics_told : IsToldKind statics
statics_told = object_told 0xffff (omega arith)

-- ---- of a program with few classes

module _ (program : Program) (few : length program.schema.classes ≤ 1024) where
  pub cell_told : (k : Kind) → IsKindOf program k → IsToldKind (cell_of k)
  cell_told variant.Void h = plain_told 0 (omega arith)
  cell_told variant.Bool h = plain_told 1 (omega arith)
  cell_told variant.Int h = plain_told 2 (omega arith)
  cell_told variant.Long h = plain_told 3 (omega arith)
  cell_told variant.Text h = plain_told 4 (omega arith)
  cell_told (variant.Object class) h = let less : class.0 < length program.schema.classes = h in object_told class.0 (omega (arith, less, few))

  pub cells_told : (ks : List Kind) → All (IsKindOf program) ks → All IsToldKind (map cell_of ks)
  cells_told ks h = All-map IsToldKind cell_of ks (All-weaker (IsKindOf program) (λ (k : Kind). IsToldKind (cell_of k)) cell_told ks h)

pub storable_are_kinds : (program : Program) (ks : List Kind) → All (IsStorable program) ks → All (IsKindOf program) ks
storable_are_kinds program ks h = All-weaker (IsStorable program) (IsKindOf program) (storable_kind program) ks h

pub waiting_told : All IsToldKind waiting_kinds
waiting_told =
    All-cons IsToldKind (plain 1) (plain 2 ∷ plain 3 ∷ plain 2 ∷ []) (plain_told 1 (omega arith))
    (All-cons IsToldKind (plain 2) (plain 3 ∷ plain 2 ∷ []) (plain_told 2 (omega arith))
    (All-cons IsToldKind (plain 3) (plain 2 ∷ []) (plain_told 3 (omega arith))
    (All-cons IsToldKind (plain 2) [] (plain_told 2 (omega arith)) (All-nil IsToldKind))))

-- ---- stacks

-- the lowest first
pub reversed_told : (ks : List ImageKind) → Each IsToldKind ks → All IsToldKind (reverse ks)
reversed_told [] h = All-nil IsToldKind
reversed_told (k ∷ ks) h =
    All-same IsToldKind (reverse (k ∷ ks)) (reverse ks ++ k ∷ []) (reverse_onto ks k []) (All-push IsToldKind (reverse ks) k (reversed_told ks h.1) h.0)
