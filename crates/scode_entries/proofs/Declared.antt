-- The kinds of the locals that a body declares are those of its declarations.
use Rattle.std.proofs.Common.{◌≡◌, ℕ, ◌+◌, Bool, true, false, if◌then◌else◌, List, [], ◌∷◌, ◌++◌, length, map, Vec, Global, Option, Some, None, Result, Ok, Err, refl, sym, ap, ap₂, ◌∙◌, arith, length-append}
use Rattle.std.proofs.lemmas.List.{map-append, length-map, append-nil}
use Rattle.std.specs.Prelude.{OnOk}
use Rattle.std.specs.Option.{option_map_or}
use mathlib.Core.Former.{Count}
use Rattle.sed_typed.specs.declared.kind.Kind.{Kind}
use Rattle.sed_typed.specs.declared.kind.Kind.TheVariants as kind
use Rattle.sed_typed.specs.declared.program.Method.{Method}
use Rattle.sed_typed.specs.declared.statement.Stmt.{Stmt, Row_of-Stmt, end_of-Stmt, more_of-Stmt, items-the_row-Stmt, items_hidden-the_row-Stmt-0}
use Rattle.sed_typed.specs.declared.statement.Stmt.TheBlock.{hidden-the_row-Stmt-0}
use Rattle.sed_typed.specs.declared.statement.Stmt.TheVariants as stmt
use Rattle.sed_typed.specs.Locals.{Declared, declared_in, all_declared_in}
use Rattle.sed_typed.specs.Typed.{locals_of, receiver_of, declared_by}
use Rattle.scode_image.specs.declared.image.ImageKind.{ImageKind}
use Rattle.scode_code.specs.Kinds.{object}
use Rattle.scode_entries.specs.Entries.{cell_of}
use Rattle.scode_entries.specs.Method.{local_kinds, waiting_kinds}
use Rattle.scode_entries.specs.LocalLists.{declared_kinds, all_declared_kinds, block_kinds, kinds_by}

-- ---- rows

rows_are : {n : Count} (row : Row_of-Stmt n) → all_declared_kinds row ≡ block_kinds (items-the_row-Stmt n row)
rows_are end_of-Stmt = refl
rows_are (more_of-Stmt s ss) = ap (λ (ks : List ImageKind). declared_kinds s ++ ks) (rows_are ss)

pub block_kinds_hidden : (all : Vec Stmt Global) → all_declared_kinds (hidden-the_row-Stmt-0 all) ≡ block_kinds all.items
block_kinds_hidden all = rows_are (hidden-the_row-Stmt-0 all) ∙ ap block_kinds (items_hidden-the_row-Stmt-0 all)

-- what is put behind what is there
pub put : {T E : Type 0} (r : Result T E) (n o y e : List ImageKind) → OnOk r (n ≡ o ++ y) → e ≡ y → OnOk r (n ≡ o ++ e)
put (Ok v) n o y e h f = h ∙ ap (λ (l : List ImageKind). o ++ l) (sym f)
put (Err w) n o y e h f = tt

-- ---- declarations

abbrev cells : List Declared → List ImageKind
cells ds = map (λ (d : Declared). cell_of d.kind) ds

both : (ds es : List Declared) (ks ls : List ImageKind) → ks ≡ cells ds → ls ≡ cells es → ks ++ ls ≡ cells (ds ++ es)
both ds es ks ls f g = ap₂ (λ (a b : List ImageKind). a ++ b) f g ∙ sym (map-append (λ (d : Declared). cell_of d.kind) ds es)

mutual
  kinds_are : (s : Stmt) → declared_kinds s ≡ cells (declared_in s)
  kinds_are stmt.Empty = refl
  kinds_are (stmt.Do e) = refl
  kinds_are (stmt.Local k i e) = refl
  kinds_are (stmt.Block' shape all) = all_kinds_are all
  kinds_are (stmt.If' t p a q b) = both (declared_in a) (declared_in b) (declared_kinds a) (declared_kinds b) (kinds_are a) (kinds_are b)
  kinds_are (stmt.While' t p body) = kinds_are body
  kinds_are (stmt.DoWhile' p body t) = kinds_are body
  kinds_are (stmt.For' p first t last q body) =
      both (declared_in first) (declared_in body) (declared_kinds first) (declared_kinds body) (kinds_are first) (kinds_are body)
  kinds_are (stmt.Switch' e labels shape all) = all_kinds_are all
  kinds_are stmt.Break = refl
  kinds_are stmt.Continue = refl
  kinds_are (stmt.Return e) = refl

  all_kinds_are : {n : Count} (ss : Row_of-Stmt n) → all_declared_kinds ss ≡ cells (all_declared_in ss)
  all_kinds_are end_of-Stmt = refl
  all_kinds_are (more_of-Stmt s ss) =
      both (declared_in s) (all_declared_in ss) (declared_kinds s) (all_declared_kinds ss) (kinds_are s) (all_kinds_are ss)

-- ---- a method's locals

twice : (ds : List Declared) → cells ds ≡ map cell_of (map (λ (d : Declared). d.kind) ds)
twice [] = refl
twice (d ∷ ds) = ap (λ (ks : List ImageKind). cell_of d.kind ∷ ks) (twice ds)

by_are : (o : Option Stmt) → kinds_by o ≡ map cell_of (map (λ (d : Declared). d.kind) (option_map_or declared_in o []))
by_are None = refl
by_are (Some body) = kinds_are body ∙ twice (declared_in body)

receiver_is : (m : Method) → (if m.is_static then [] else object m.class.0 ∷ []) ≡ map cell_of (receiver_of m)
receiver_is m = cases m.is_static
  where
    cases : (b : Bool) → (if b then [] else object m.class.0 ∷ []) ≡ map cell_of (if b then [] else kind.Object m.class ∷ [])
    cases true = refl
    cases false = refl

pub own_are : (m : Method) → ((if m.is_static then [] else object m.class.0 ∷ []) ++ map cell_of m.params) ++ kinds_by m.body ≡ map cell_of (locals_of m)
own_are m =
    let declared = map (λ (d : Declared). d.kind) (declared_by m) in
    ap₂ (λ (a b : List ImageKind). (a ++ map cell_of m.params) ++ b) (receiver_is m) (by_are m.body)
    ∙ ap (λ (ks : List ImageKind). ks ++ map cell_of declared) (sym (map-append cell_of (receiver_of m) m.params))
    ∙ sym (map-append cell_of (receiver_of m ++ m.params) declared)

pub own_count : (m : Method) → length (if m.is_static then [] else object m.class.0 ∷ []) + length m.params + length (kinds_by m.body) ≡ length (locals_of m)
own_count m =
    let receiver : List ImageKind = if m.is_static then [] else object m.class.0 ∷ [] in
    let kinds : List ImageKind = map cell_of m.params in
    let all : length ((receiver ++ kinds) ++ kinds_by m.body) ≡ length (map cell_of (locals_of m)) = ap length (own_are m) in
    omega (arith, all, length-append (receiver ++ kinds) (kinds_by m.body), length-append receiver kinds, length-map m.params cell_of, length-map (locals_of m) cell_of)

-- kinds put one behind another
pub all_are : (m : Method) (none receiver params body all : List ImageKind) (ks : List Kind) → none ≡ [] → receiver ≡ none ++ (if m.is_static then [] else object m.class.0 ∷ []) →
    ks ≡ m.params → params ≡ receiver ++ map cell_of ks → body ≡ params ++ kinds_by m.body → all ≡ body ++ waiting_kinds → all ≡ local_kinds m
all_are m none receiver params body all ks a b k c d e =
    let first : List ImageKind = if m.is_static then [] else object m.class.0 ∷ [] in
    e ∙ ap (λ (l : List ImageKind). l ++ waiting_kinds)
    (d ∙ ap (λ (l : List ImageKind). l ++ kinds_by m.body)
    (c ∙ ap (λ (l : List ImageKind). l ++ map cell_of ks) (b ∙ ap (λ (l : List ImageKind). l ++ first) a)
    ∙ ap (λ (l : List Kind). first ++ map cell_of l) k)
    ∙ own_are m)
