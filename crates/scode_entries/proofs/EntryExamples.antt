-- The entries of code, worked out by hand from it. In each, local 0 is the component, and behind the method's own locals
-- there wait a bool, an int, a long and an index. Below a statement the stack is empty.
use Rattle.std.proofs.Common.{◌≡◌, ℕ, List, [], ◌∷◌, map, None, refl}
use Rattle.sed_value.specs.declared.slot_type.Primitive.TheVariants as prim
use Rattle.sed_typed.specs.declared.kind.Kind.TheVariants as kind
use Rattle.sed_typed.specs.declared.operators.Comparison.TheVariants as comparison
use Rattle.sed_typed.specs.declared.statement.Stmt.{Stmt}
use Rattle.sed_typed.specs.declared.statement.Stmt.TheVariants as stmt
use Rattle.sed_typed.specs.declared.tree.Link.TheVariants as link
use Rattle.sed_engine.proofs.Building.{Pointer, chain, int, set, set_y, y, block_of_three, execute}
use Rattle.scode_image.specs.declared.image.ImageKind.{ImageKind}
use Rattle.scode_code.specs.Kinds as kinds
use Rattle.scode_emit.proofs.FormExamples as forms
use Rattle.scode_emit.proofs.Building.{layout, program, m, q, is, looping, switching, counting}
use Rattle.scode_entries.specs.Method.{entries_of, local_kinds}
use Rattle.scode_entries.proofs.Building.{entries, places}

-- y = 7
assigns : (p : Pointer) → entries p (set_y p (int 7)) ≡ []
assigns p = refl

-- q = q && y < 3: the component is below, and behind the operands the bool above it; the lowest stands first
both : (p : Pointer) → entries p (set p prim.Bool 7 (chain p (q p) (link.And (is p (y p) comparison.Less (int 3))))) ≡
    (let locals = kinds.object 5 ∷ kinds.bool ∷ kinds.int ∷ kinds.long ∷ kinds.int ∷ [] in
    record { place = 26; locals = locals; stack = kinds.object 5 ∷ [] }
    ∷ record { place = 28; locals = locals; stack = kinds.object 5 ∷ kinds.bool ∷ [] } ∷ [])
both p = refl

-- int m(int n) { return n + y }: nothing goes on behind the `return`
returns : (p : Pointer) → entries_of (program p stmt.Empty) layout (m p) ≡ record { place = 9; locals = local_kinds (m p); stack = [] } ∷ []
returns p = refl

-- while (y < 3) { y = y + 1; if (y == 1) continue; break }
loops : (p : Pointer) → places p (looping p) ≡ (3, []) ∷ (37, []) ∷ (40, []) ∷ (54, []) ∷ []
loops p = refl

-- switch (y) { case 1: y = 10; default: y = 20; break; case 3: y = 30 }
switches : (p : Pointer) → places p (switching p (y p)) ≡ (32, []) ∷ (42, []) ∷ (55, []) ∷ (65, []) ∷ []
switches p = refl

-- for (int i = 0; ; i++) if (i == 4) break
counts : (p : Pointer) → places p (counting p) ≡ (10, []) ∷ (25, []) ∷ (35, []) ∷ (40, []) ∷ []
counts p = refl

-- do { } while (y != 0)
waits : (p : Pointer) → places p (stmt.DoWhile' p stmt.Empty (is p (y p) comparison.NotEqual (int 0))) ≡ (0, []) ∷ (1, []) ∷ (15, []) ∷ []
waits p = refl

-- if (q) y = 1; else y = 2
branches : (p : Pointer) → places p (stmt.If' (q p) p (set_y p (int 1)) p (set_y p (int 2))) ≡ (21, []) ∷ (31, []) ∷ []
branches p = refl

-- Str t; return; y = 1: what is never reached has an entry
dead : (p : Pointer) → places p (block_of_three p (stmt.Local kind.Text 1 None) (stmt.Return None) (set_y p (int 1))) ≡ (4, []) ∷ []
dead p = refl

-- ---- forms whose code stands in FormExamples of scode_emit. Each with its stack, the lowest cell first.

abbrev form_places : Pointer → Stmt → List (ℕ × List ImageKind)
form_places p body = map (λ e. (e.place, e.stack)) (entries_of (forms.program p body) forms.layout (execute 5 body))

-- a[1] = (q ? 1 : 2): object and index are below
element_chosen : (p : Pointer) → form_places p (forms.element_chosen p) ≡
    (23, kinds.object 5 ∷ kinds.int ∷ []) ∷ (28, kinds.object 5 ∷ kinds.int ∷ kinds.int ∷ []) ∷ []
element_chosen p = refl

-- a[1] += (q ? 1 : 2): and the value before
element_added : (p : Pointer) → form_places p (forms.element_added p) ≡
    (39, kinds.object 5 ∷ kinds.int ∷ kinds.int ∷ []) ∷ (44, kinds.object 5 ∷ kinds.int ∷ kinds.int ∷ kinds.int ∷ []) ∷ []
element_added p = refl

-- A t; while (q) { t = this; t = null }: whatever t is, its kind is the declared one
references : (p : Pointer) → entries_of (forms.program p (forms.references p)) forms.layout (execute 5 (forms.references p)) ≡
    (let locals = kinds.object 5 ∷ kinds.object 5 ∷ kinds.bool ∷ kinds.int ∷ kinds.long ∷ kinds.int ∷ [] in
    record { place = 6; locals = locals; stack = [] }
    ∷ record { place = 14; locals = locals; stack = [] }
    ∷ record { place = 22; locals = locals; stack = [] } ∷ [])
references p = refl

-- do { if (q) continue; y = 1 } while (y < 3)
skipping : (p : Pointer) → form_places p (forms.skipping p) ≡ (0, []) ∷ (12, []) ∷ (22, []) ∷ (36, []) ∷ []
skipping p = refl

-- for (int i = 0; i < 3; i++) { switch (i) { case 1: continue; default: break } y = i }
passing : (p : Pointer) → form_places p (forms.passing p) ≡
    (10, []) ∷ (29, []) ∷ (32, []) ∷ (35, []) ∷ (42, []) ∷ (52, []) ∷ (63, []) ∷ []
passing p = refl

-- y = super.m(q ? 1 : 2): the object that is assigned to, and the receiver
supers : (p : Pointer) → form_places p (forms.supers p) ≡
    (20, kinds.object 5 ∷ kinds.object 5 ∷ []) ∷ (25, kinds.object 5 ∷ kinds.object 5 ∷ kinds.int ∷ []) ∷ []
supers p = refl

-- q ? s.set(0, 65) : s.copyFromStr("abc"): no value is there behind it
void_chosen : (p : Pointer) → form_places p (forms.void_chosen p) ≡ (29, []) ∷ (40, []) ∷ []
void_chosen p = refl
