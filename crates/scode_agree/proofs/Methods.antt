-- The methods of the image agree: their kinds are there, an abstract one is empty, and their locals begin with what
-- they are called with.
use Rattle.std.proofs.Common.{◌≡◌, ◌+◌, ◌%◌, ◌==◌, ◌&&◌, Bool, true, false, cond, if◌then◌else◌, List, [], ◌∷◌, ◌++◌}
use Rattle.std.proofs.Common.{map, reverse, Option, Some, None, refl, ap, sym, ◌∙◌, append_assoc}
use Rattle.std.specs.Prelude.{All, IfSome, is_none}
use Rattle.std.specs.List.{list_all}
use Rattle.std.proofs.lemmas.Bool.{and_from, or_left, or_right}
use Rattle.std.proofs.lemmas.List.{map-append}
use Rattle.std.proofs.lemmas.List.Elements.{All-weaker}
use Rattle.sed_typed.specs.declared.kind.Kind.{Kind}
use Rattle.sed_typed.specs.declared.kind.Kind.TheVariants as kind
use Rattle.sed_typed.specs.declared.program.Method.{Method}
use Rattle.sed_typed.specs.declared.program.Program.{Program}
use Rattle.sed_typed.specs.declared.statement.Stmt.{Stmt}
use Rattle.sed_typed.specs.Locals.{Declared}
use Rattle.sed_typed.specs.Typed.{IsBody, IsMethod, IsStorable, declared_by, locals_of, receiver_of}
use Rattle.sed_typed.specs.TypedExpr.{Context, IsKindOf}
use Rattle.scode_image.specs.declared.image.ImageEntry.{ImageEntry}
use Rattle.scode_image.specs.declared.image.ImageKind.{ImageKind}
use Rattle.scode_image.specs.declared.image.ImageMethod.{ImageMethod}
use Rattle.scode_code.specs.Kinds.{object, same_kind, statics}
use Rattle.scode_code.specs.TableRules.{abstract_is_empty, begins, has_class, is_kind_of_cell, is_kind_of_result}
use Rattle.scode_code.specs.TableRules.{kinds_are_there, locals_begin, method_agrees}
use Rattle.scode_emit.specs.Code.{body_code, bytes_of}
use Rattle.scode_emit.specs.Method.{site_of}
use Rattle.scode_emit.specs.Site.{Site}
use Rattle.scode_entries.specs.declared.marks.Mark.{Mark}
use Rattle.scode_entries.specs.Entries.{above, body_marks, cell_of, each_once, stmt_marks}
use Rattle.scode_entries.specs.Method.{entries_of, entry_of, image_method, local_kinds, waiting_kinds}
use Rattle.scode_entries.specs.Stack.{body_stack}
use Rattle.scode_entries.proofs.Admits.{Each}
use Rattle.scode_entries.proofs.Entering.{each_told}
use Rattle.scode_gen.specs.Generated.{image_layout, image_of}
use Rattle.scode_made.proofs.MadeMethods.{storable, storable_kind}
use Rattle.scode_made.proofs.Places.{all_at}
use Rattle.scode_agree.proofs.Given.{IsGiven}
use Rattle.scode_agree.proofs.Infos.{class_there}
use Rattle.scode_agree.proofs.Marks.{Keeps, stmt_told}
use Rattle.scode_agree.proofs.Tables.{kind_itself}
use Rattle.scode_agree.proofs.Tests.{both_pass, four, mapped_pass, reversed_pass}

-- ---- lists

begin_front : (front behind : List ImageKind) → begins same_kind front (front ++ behind) ≡ true
begin_front [] behind = refl
begin_front (k ∷ ks) behind =
    and_from (same_kind k k) (begins same_kind ks (ks ++ behind)) (kind_itself k) (begin_front ks behind)

each_marked : (P : Mark → Type 0) (q : ImageEntry → Bool) (locals : List ImageKind)
    → ((m : Mark) → P m → q (entry_of locals m) ≡ true) → (ms : List Mark) → Each P ms →
    list_all q (map (entry_of locals) ms) ≡ true
each_marked P q locals f [] h = refl
each_marked P q locals f (m ∷ ms) h =
    and_from (q (entry_of locals m)) (list_all q (map (entry_of locals) ms)) (f m h.0) (each_marked P q locals f ms h.1)

-- ---- what is the same of all methods

-- a method without what its class and its body say
abbrev shell : Site → Method → Bool → Option Stmt → ImageMethod
shell w m static body = record {
  class = m.class.0;
  flags = cond static 0 1 + cond (is_none body) 2 0;
  params = map cell_of m.params;
  result = cell_of m.result;
  locals = local_kinds m;
  stack = body_stack body;
  code = bytes_of (body_code w m.result body);
  entries = map (entry_of (local_kinds m)) (each_once (body_marks w body));
}

empty : (w : Site) (m : Method) (static : Bool) (body : Option Stmt) → (body ≡ None → static ≡ false)
    → abstract_is_empty (shell w m static body) ≡ true
empty w m true (Some body) h = refl
empty w m false (Some body) h = refl
empty w m false None h = refl
empty w m true None h = let gone : true ≡ false = h refl in let never : ⊥ = cc in absurd never

-- what a method is called with
called_with : (m : Method) (static abstract : Bool) →
    (if (cond static 0 1 + cond abstract 2 0) % 2 == 1 then object m.class.0 ∷ [] else []) ≡ map cell_of
    (cond static [] (kind.Object m.class ∷ []))
called_with m true true = refl
called_with m true false = refl
called_with m false true = refl
called_with m false false = refl

first_locals : (w : Site) (m : Method) → locals_begin (shell w m m.is_static m.body) ≡ true
first_locals w m =
    ap (λ (front : List ImageKind). begins same_kind (front ++ map cell_of m.params) (local_kinds m))
    (called_with m m.is_static (is_none m.body))
    ∙ ap (λ (front : List ImageKind). begins same_kind front (local_kinds m))
    (sym (map-append cell_of (receiver_of m) m.params))
    ∙ ap (begins same_kind (map cell_of (receiver_of m ++ m.params))) whole
    ∙ begin_front (map cell_of (receiver_of m ++ m.params)) (map cell_of declared ++ waiting_kinds)
  where
    declared : List Kind
    declared = map (λ (d : Declared). d.kind) (declared_by m)

    whole : local_kinds m ≡ map cell_of (receiver_of m ++ m.params) ++ (map cell_of declared ++ waiting_kinds)
    whole =
        ap (λ (front : List ImageKind). front ++ waiting_kinds)
        (map-append cell_of (receiver_of m ++ m.params) declared)
        ∙ append_assoc (map cell_of (receiver_of m ++ m.params)) (map cell_of declared) waiting_kinds

-- ---- kinds

module _ (program : Program) where
  cell_there : (block : Bool) (k : Kind) → IsStorable program k
      → is_kind_of_cell (image_of program) block (cell_of k) ≡ true
  cell_there block kind.Void h = absurd h
  cell_there block kind.Bool h = refl
  cell_there block kind.Int h = refl
  cell_there block kind.Long h = refl
  cell_there block kind.Text h = refl
  cell_there block (kind.Object class) h =
      or_left (has_class (image_of program) class.0) (block && (class.0 == 0xffff)) (class_there program class.0 h)

  result_there : (k : Kind) → IsKindOf program k → is_kind_of_result (image_of program) (cell_of k) ≡ true
  result_there kind.Void h = refl
  result_there kind.Bool h = refl
  result_there kind.Int h = refl
  result_there kind.Long h = refl
  result_there kind.Text h = refl
  result_there (kind.Object class) h = cell_there false (kind.Object class) h

  cells_there : (block : Bool) (ks : List Kind) → All (IsStorable program) ks
      → list_all (is_kind_of_cell (image_of program) block) (map cell_of ks) ≡ true
  cells_there block ks h =
      mapped_pass cell_of (is_kind_of_cell (image_of program) block) ks
      (λ i k at. cell_there block k (all_at (IsStorable program) ks i k at h))

  abbrev Fit : List ImageKind → Type 0
  Fit ks = list_all (is_kind_of_cell (image_of program) true) ks ≡ true

  value_fits : (k : Kind) (below : List ImageKind) → IsKindOf program k → Fit below → Fit (above k below)
  value_fits kind.Void below t h = h
  value_fits kind.Bool below t h = h
  value_fits kind.Int below t h = h
  value_fits kind.Long below t h = h
  value_fits kind.Text below t h = h
  value_fits (kind.Object class) below t h =
      and_from (is_kind_of_cell (image_of program) true (object class.0))
      (list_all (is_kind_of_cell (image_of program) true) below)
      (cell_there true (kind.Object class) t) h

  block_fits : (below : List ImageKind) → Fit below → Fit (statics ∷ below)
  block_fits below h =
      and_from (is_kind_of_cell (image_of program) true statics)
      (list_all (is_kind_of_cell (image_of program) true) below)
      (or_right (has_class (image_of program) 0xffff) true refl) h

  module _ (is : IsGiven program) (m : Method) (known : IsMethod program m) where
    abbrev w : Site
    w = site_of program (image_layout program) m

    abbrev context : Context
    context =
        record {
          program = program;
          class = m.class.0;
          is_static = m.is_static;
          locals = locals_of m;
          result = m.result;
        }

    abbrev keeps : Keeps context w
    keeps = record {
      Fits = Fit;
      none = refl;
      value = value_fits;
      truth = λ below h. h;
      block = block_fits;
      receiver = λ below h. value_fits (kind.Object m.class) below known.class h;
    }

    kinds_of_locals : All (IsKindOf program) (locals_of m)
    kinds_of_locals =
        All-weaker (IsStorable program) (IsKindOf program) (storable_kind program) (locals_of m)
        (storable program m known)

    locals_there : list_all (is_kind_of_cell (image_of program) true) (local_kinds m) ≡ true
    locals_there =
        both_pass (is_kind_of_cell (image_of program) true) (map cell_of (locals_of m)) waiting_kinds
        (cells_there true (locals_of m) (storable program m known)) refl

    abbrev entry_there : ImageEntry → Bool
    entry_there e =
        list_all (is_kind_of_cell (image_of program) true) e.locals
        && list_all (is_kind_of_cell (image_of program) true) e.stack

    entries_there : (body : Option Stmt) → IfSome body (IsBody program m)
        → list_all entry_there (map (entry_of (local_kinds m)) (each_once (body_marks w body))) ≡ true
    entries_there None h = refl
    entries_there (Some body) h =
        each_marked (λ (x : Mark). Fit x.stack) entry_there (local_kinds m)
        (λ x fits.
        and_from (list_all (is_kind_of_cell (image_of program) true) (local_kinds m))
        (list_all (is_kind_of_cell (image_of program) true) (reverse x.stack))
        locals_there (reversed_pass (is_kind_of_cell (image_of program) true) x.stack fits))
        (each_once (stmt_marks w 0 body))
        (each_told (λ (x : Mark). Fit x.stack) [] (stmt_marks w 0 body) tt
        (stmt_told context is.typed known.class kinds_of_locals w keeps
        (record { breaks = false; continues = false }) 0 body h.typed))

    kinds_there : kinds_are_there (image_of program) (image_method program (image_layout program) m) ≡ true
    kinds_there =
        four (list_all (is_kind_of_cell (image_of program) false) (map cell_of m.params))
        (is_kind_of_result (image_of program) (cell_of m.result))
        (list_all (is_kind_of_cell (image_of program) true) (local_kinds m))
        (list_all entry_there (entries_of program (image_layout program) m))
        (cells_there false m.params known.params) (result_there m.result known.result) locals_there
        (entries_there m.body known.body)

    pub method_fits : method_agrees (image_of program) (image_method program (image_layout program) m) ≡ true
    method_fits =
        four (has_class (image_of program) m.class.0)
        (kinds_are_there (image_of program) (image_method program (image_layout program) m))
        (abstract_is_empty (image_method program (image_layout program) m))
        (locals_begin (image_method program (image_layout program) m))
        (class_there program m.class.0 known.class) kinds_there
        (empty w m m.is_static m.body (λ none. (known.virtual (known.no_body none).0).0))
        (first_locals w m)

pub methods_agree : (program : Program) → IsGiven program
    → list_all (method_agrees (image_of program)) (image_of program).methods ≡ true
methods_agree program is =
    mapped_pass (image_method program (image_layout program)) (method_agrees (image_of program)) program.methods
    (λ i m at. method_fits program is m (all_at (IsMethod program) program.methods i m at is.typed.methods))
