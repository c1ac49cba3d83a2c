-- Programs that are the same but for where the trees of their bodies lie in memory mean one code: what a body does is
-- said of its bare tree, with nothing of the program beside it but what a call and a class are looked up in.
use Rattle.std.proofs.Common.{◌≡◌, ◌∙◌, ℕ, zero, suc, Bool, true, false, not, ◌==◌, ◌&&◌, List, [], ◌∷◌, length, map, replicate, slice_get, Option, Some, None, Result, Ok, Err, refl, sym, ap}
use mathlib.Core.Former.{Count}
use Rattle.std.specs.Prelude.{◌+◌, nat_lt, if◌then◌else◌, is_some, codes, cond, position}
use Rattle.std.specs.List.{position_or_len}
use Rattle.std.specs.Option.{option_and_then, option_map}
use Rattle.std.specs.Str.{bytes_eq}
use Rattle.sed_typed.specs.Bare as bare
use Rattle.sed_typed.specs.Bare.{BareExpr, BareExprs, BareLink, BareLinks, BarePlace, BareStmt, BareStmts, bare_expr, bare_exprs, bare_link, bare_links, bare_or, bare_place, bare_stmt, bare_stmts}
use Rattle.sed_typed.specs.declared.kind.Kind.{Kind}
use Rattle.sed_typed.specs.declared.kind.Kind.TheVariants as kind
use Rattle.sed_typed.specs.declared.program.Field.{Field}
use Rattle.sed_typed.specs.declared.program.Method.{Method}
use Rattle.sed_typed.specs.declared.program.Program.{Program}
use Rattle.sed_typed.specs.declared.statement.Stmt.{Stmt, Row_of-Stmt, end_of-Stmt, more_of-Stmt}
use Rattle.sed_typed.specs.declared.statement.Stmt.TheVariants as stmt
use Rattle.sed_typed.specs.declared.tree.Expr.{Expr, Row_of-Expr, end_of-Expr, more_of-Expr, Row_of-Link, end_of-Link, more_of-Link}
use Rattle.sed_typed.specs.declared.tree.Expr.TheVariants as expr
use Rattle.sed_typed.specs.declared.tree.Link.{Link}
use Rattle.sed_typed.specs.declared.tree.Link.TheVariants as link
use Rattle.sed_typed.specs.declared.tree.Place.{Place}
use Rattle.sed_typed.specs.declared.tree.Place.TheVariants as place
use Rattle.sed_typed.specs.Classes.{declared_method, fields, find, first_found, lineage, slot_name}
use Rattle.sed_typed.specs.Contents.{Path}
use Rattle.sed_typed.specs.Initial.{fields_begun}
use Rattle.sed_typed.specs.Objects.{form_of, object_in, static_object_in}
use Rattle.sed_typed.specs.Schemas.{type_at}
use Rattle.sed_typed.specs.SysTypes.{component_type}
use Rattle.sed_typed.specs.TypedSchema.{in_slot}
use Rattle.sed_engine.specs.Asked.{masked}
use Rattle.sed_engine.specs.Code.{Meaning}
use Rattle.sed_engine.specs.declared.call.Root.{Root}
use Rattle.sed_engine.specs.declared.call.Root.TheVariants as which
use Rattle.sed_engine.specs.Expressions.{Called, Calls, Setting, back, buf_byte, buf_size, call, class_from, class_of, eval, evals, frame_of, in_chain, invoke, locate, meaning, meanings, method_for, new_frame, part_at, put_all, text_call}
use Rattle.sed_engine.specs.Operators.{arithmetic_of, binary_of, unary_of, given}
use Rattle.sed_engine.specs.Places.{Target, OfLocal, OfStatic, OfField, OfElement, OfStaticElement, static_spot, field_spot, element_spot, field_element, fetch, put}
use Rattle.sed_engine.specs.Program.{code_of, meaning_of, shape_of}
use Rattle.sed_engine.specs.Root.{RootEnd, argument_of, callback_method, callback_name, called, calls_with, method_at, most_frames, root, root_end, root_method, run_body, run_method, start_root, untyped}
use Rattle.sed_engine.specs.State.{Shared, State, End, gives, answers, then_do}
use Rattle.sed_engine.specs.Statements.{Flow, Next, Break, Continue, Return, do_round, eval_or, exec, execs, follows, in_order, round, rounds, switch}
use Rattle.sed_engine.specs.Steps.{choose, read_spot, read_bytes, read_local, read_this, read_moment, take_turn, write_local}
use Rattle.sed_engine.specs.Stops.{Stop, and_then, map_ok, there}
use Rattle.sed_engine.specs.Values.{Val, Nothing, Int, Long, Null, At, Truth, Literal, Base, Component, Statics, Spot, is_met, spot_of, truth, zero_of}
use Rattle.sed_check.specs.Refusals.{AreAlike}
use Rattle.sedona_laws.proofs.AlikeFiles.{begun_alike, fields_alike, sizes_alike}

-- ---- what a bare tree does

-- what an evaluation asks of the program that it stands in
record Site : Type 0 where
  texts : List (List ℕ)
  part : Kind → Spot → State → End Val
  method : Spot → ℕ → Result ℕ Stop
  call_of : ℕ → List Val → State → End Val

abbrev site : Setting → Site
site w = record { texts = w.program.texts; part = part_at w; method = method_for w; call_of = call w }

abbrev mutual
  eval_in : Site → BareExpr → State → End Val
  eval_in w (bare.Int n) s = gives (Int n) s
  eval_in w (bare.Long n) s = gives (Long n) s
  eval_in w (bare.Truth t) s = gives (Truth t) s
  eval_in w (bare.Null k) s = gives Null s
  eval_in w (bare.Text n) s = gives (Literal n) s
  eval_in w (bare.This class) s = read_this s
  eval_in w (bare.Local k i) s = read_local k i s
  eval_in w (bare.Static p i) s = read_spot (static_spot i) s
  eval_in w (bare.StaticPart k i) s = w.part k (static_spot i) s
  eval_in w (bare.StaticElement p count i e) s =
      then_do (eval_in w e s) (λ index s1.
      then_do (element_spot count (static_spot i) index s1) (λ spot s2. read_spot spot s2))
  eval_in w bare.Ticks s = read_moment s
  eval_in w (bare.Unary op e) s = then_do (eval_in w e s) (λ v s1. answers (unary_of op v) s1)
  eval_in w (bare.Choose c a b) s = then_do (eval_in w c s) (λ v s1. choose v (eval_in w a) (eval_in w b) s1)
  eval_in w (bare.Set target e) s =
      then_do (locate_in w target s) (λ found s1. then_do (eval_in w e s1) (λ v s2. put found v s2))
  eval_in w (bare.Update u target e) s =
      then_do (locate_in w target s) (λ found s1.
      then_do (fetch found s1) (λ old s2.
      then_do (eval_in w e s2) (λ x s3. then_do (answers (arithmetic_of u.arithmetic u.width old x) s3)
      (λ v s4. then_do (put found v s4) (λ new s5. gives (given u.gives old new) s5)))))
  eval_in w (bare.Call k m args) s = then_do (put_all 0 (evals_in w args) new_frame s) (λ frame s1. w.call_of m frame s1)
  eval_in w (bare.Super k m args) s =
      then_do (read_this s) (λ this s1.
      then_do (put_all 1 (evals_in w args) (frame_of this) s1) (λ frame s2. w.call_of m frame s2))
  eval_in w (bare.Chain e links) s = then_do (eval_in w e s) (λ v s1. in_chain (meanings_in w links) v s1)

  locate_in : Site → BarePlace → State → End Target
  locate_in w (bare.LocalPlace k i) s = gives (OfLocal k i) s
  locate_in w (bare.StaticPlace p i) s = gives (OfStatic p i) s
  locate_in w (bare.FieldPlace p e i) s = then_do (eval_in w e s) (λ object s1. gives (OfField p object i) s1)
  locate_in w (bare.ElementPlace p count e f i) s =
      then_do (eval_in w e s) (λ object s1.
      then_do (eval_in w i s1) (λ index s2. gives (OfElement p count object f index) s2))
  locate_in w (bare.StaticElementPlace p count i e) s =
      then_do (eval_in w e s) (λ index s1. gives (OfStaticElement p count i index) s1)

  meaning_in : Site → BareLink → Val → State → End Val
  meaning_in w (bare.Binary op e) v s = then_do (eval_in w e s) (λ x s1. answers (binary_of op v x) s1)
  meaning_in w (bare.And e) v s =
      choose v (λ s1. then_do (eval_in w e s1) (λ x s2. answers (map_ok truth (is_met x)) s2)) (gives (truth false)) s
  meaning_in w (bare.Or e) v s =
      choose v (gives (truth true)) (λ s1. then_do (eval_in w e s1) (λ x s2. answers (map_ok truth (is_met x)) s2)) s
  meaning_in w (bare.Field p i) v s = then_do (field_spot v i s) (λ spot s1. read_spot spot s1)
  meaning_in w (bare.Part k i) v s = then_do (field_spot v i s) (λ spot s1. w.part k spot s1)
  meaning_in w (bare.Element p count i e) v s =
      then_do (eval_in w e s) (λ index s1. then_do (field_element count v i index s1) (λ spot s2. read_spot spot s2))
  meaning_in w (bare.Size i) v s = buf_size v i s
  meaning_in w (bare.Byte i e) v s = then_do (eval_in w e s) (λ index s1. buf_byte v i index s1)
  meaning_in w (bare.Invoke k m args) v s =
      then_do (put_all 1 (evals_in w args) (frame_of v) s) (λ frame s1.
      then_do (answers (spot_of v) s1) (λ spot s2.
      then_do (answers (w.method spot m) s2) (λ found s3. w.call_of found frame s3)))
  meaning_in w (bare.TextCall op args) v s =
      then_do (put_all 0 (evals_in w args) (replicate 2 Nothing) s) (λ xs s1. text_call w.texts op v xs s1)
  meaning_in w (bare.After e) v s = eval_in w e s

  evals_in : Site → BareExprs → List (State → End Val)
  evals_in w bare.NoExprs = []
  evals_in w (bare.MoreExprs e es) = eval_in w e ∷ evals_in w es

  meanings_in : Site → BareLinks → List (Val → State → End Val)
  meanings_in w bare.NoLinks = []
  meanings_in w (bare.MoreLinks l ls) = meaning_in w l ∷ meanings_in w ls

abbrev eval_or_in : Site → Val → Option BareExpr → State → End Val
eval_or_in w v None s = gives v s
eval_or_in w v (Some e) s = eval_in w e s

abbrev mutual
  exec_in : Site → BareStmt → State → End Flow
  exec_in w bare.Empty s = gives Next s
  exec_in w (bare.Do e) s = then_do (eval_in w e s) (λ v s1. gives Next s1)
  exec_in w (bare.Begin k i e) s =
      then_do (eval_or_in w (zero_of k) e s) (λ v s1. then_do (write_local i v s1) (λ _ s2. gives Next s2))
  exec_in w (bare.Block all) s = in_order (execs_in w all) s
  exec_in w (bare.If c a b) s = then_do (eval_in w c s) (λ v s1. choose v (exec_in w a) (exec_in w b) s1)
  exec_in w (bare.While c body) s = rounds (round (eval_in w c) (exec_in w body) (gives Nothing)) s
  exec_in w (bare.DoWhile body c) s = rounds (do_round (exec_in w body) (eval_in w c)) s
  exec_in w (bare.For first c last body) s =
      then_do (exec_in w first s) (λ flow s1.
      follows flow (rounds (round (eval_or_in w (truth true) c) (exec_in w body) (eval_or_in w Nothing last))) s1)
  exec_in w (bare.Switch e labels all) s = switch (eval_in w e) labels (execs_in w all) s
  exec_in w bare.Break s = gives Break s
  exec_in w bare.Continue s = gives Continue s
  exec_in w (bare.Return e) s = then_do (eval_or_in w Nothing e s) (λ v s1. gives (Return v) s1)

  execs_in : Site → BareStmts → List (State → End Flow)
  execs_in w bare.NoStmts = []
  execs_in w (bare.MoreStmts x xs) = exec_in w x ∷ execs_in w xs

-- ---- a tree does what its bare tree does

mutual
  eval_seen : (w : Setting) (e : Expr) → eval w e ≡ eval_in (site w) (bare_expr e)
  eval_seen w (expr.Int n) = refl
  eval_seen w (expr.Long n) = refl
  eval_seen w (expr.Bool t) = refl
  eval_seen w (expr.Null k) = refl
  eval_seen w (expr.Text n) = refl
  eval_seen w (expr.This class) = refl
  eval_seen w (expr.Local k i) = refl
  eval_seen w (expr.Static p i) = refl
  eval_seen w (expr.StaticPart k i) = refl
  eval_seen w (expr.StaticElement' p count j q e) =
      λ i s. then_do (eval_seen w e i s) (λ index s1. then_do (element_spot count (static_spot j) index s1) (λ spot s2. read_spot spot s2))
  eval_seen w expr.Ticks = refl
  eval_seen w (expr.Unary' op p e) = λ i s. then_do (eval_seen w e i s) (λ v s1. answers (unary_of op v) s1)
  eval_seen w (expr.Choose' p c q a r b) =
      λ i s. then_do (eval_seen w c i s) (λ v s1. choose v (eval_seen w a i) (eval_seen w b i) s1)
  eval_seen w (expr.Set' target p e) =
      λ i s. then_do (locate_seen w target i s) (λ found s1. then_do (eval_seen w e i s1) (λ v s2. put found v s2))
  eval_seen w (expr.Update' u target p e) =
      λ i s. then_do (locate_seen w target i s) (λ found s1.
      then_do (fetch found s1) (λ old s2.
      then_do (eval_seen w e i s2) (λ x s3. then_do (answers (arithmetic_of u.arithmetic u.width old x) s3)
      (λ v s4. then_do (put found v s4) (λ new s5. gives (given u.gives old new) s5)))))
  eval_seen w (expr.Call' k m shape args) =
      λ i s. then_do (put_all 0 (evals_seen w args i) new_frame s) (λ frame s1. call w m frame s1)
  eval_seen w (expr.Super' k m shape args) =
      λ i s. then_do (read_this s) (λ this s1.
      then_do (put_all 1 (evals_seen w args i) (frame_of this) s1) (λ frame s2. call w m frame s2))
  eval_seen w (expr.Chain' p e shape links) =
      λ i s. then_do (eval_seen w e i s) (λ v s1. in_chain (meanings_seen w links i) v s1)

  locate_seen : (w : Setting) (target : Place) → locate w target ≡ locate_in (site w) (bare_place target)
  locate_seen w (place.Local k j) = refl
  locate_seen w (place.Static p j) = refl
  locate_seen w (place.Field' p q e j) = λ i s. then_do (eval_seen w e i s) (λ object s1. gives (OfField p object j) s1)
  locate_seen w (place.Element' p count q e f r x) =
      λ i s. then_do (eval_seen w e i s) (λ object s1.
      then_do (eval_seen w x i s1) (λ index s2. gives (OfElement p count object f index) s2))
  locate_seen w (place.StaticElement' p count j q e) =
      λ i s. then_do (eval_seen w e i s) (λ index s1. gives (OfStaticElement p count j index) s1)

  meaning_seen : (w : Setting) (l : Link) → meaning w l ≡ meaning_in (site w) (bare_link l)
  meaning_seen w (link.Binary op e) = λ i v s. then_do (eval_seen w e i s) (λ x s1. answers (binary_of op v x) s1)
  meaning_seen w (link.And e) =
      λ i v s. choose v (λ s1. then_do (eval_seen w e i s1) (λ x s2. answers (map_ok truth (is_met x)) s2)) (gives (truth false)) s
  meaning_seen w (link.Or e) =
      λ i v s. choose v (gives (truth true)) (λ s1. then_do (eval_seen w e i s1) (λ x s2. answers (map_ok truth (is_met x)) s2)) s
  meaning_seen w (link.Field p j) = refl
  meaning_seen w (link.Part k j) = refl
  meaning_seen w (link.Element p count j e) =
      λ i v s. then_do (eval_seen w e i s) (λ index s1. then_do (field_element count v j index s1) (λ spot s2. read_spot spot s2))
  meaning_seen w (link.Size j) = refl
  meaning_seen w (link.Byte j e) = λ i v s. then_do (eval_seen w e i s) (λ index s1. buf_byte v j index s1)
  meaning_seen w (link.Invoke' k m shape args) = λ i v s. invoke w v m (evals_seen w args i) s
  meaning_seen w (link.TextCall' op shape args) =
      λ i v s. then_do (put_all 0 (evals_seen w args i) (replicate 2 Nothing) s) (λ xs s1. text_call w.program.texts op v xs s1)
  meaning_seen w (link.After e) = λ i v s. eval_seen w e i s

  evals_seen : {n : Count} (w : Setting) (es : Row_of-Expr n) → evals w es ≡ evals_in (site w) (bare_exprs es)
  evals_seen w end_of-Expr = refl
  evals_seen w (more_of-Expr e es) = λ i. eval_seen w e i ∷ evals_seen w es i

  meanings_seen : {n : Count} (w : Setting) (ls : Row_of-Link n) → meanings w ls ≡ meanings_in (site w) (bare_links ls)
  meanings_seen w end_of-Link = refl
  meanings_seen w (more_of-Link l ls) = λ i. meaning_seen w l i ∷ meanings_seen w ls i

or_seen : (w : Setting) (v : Val) (e : Option Expr) → eval_or w v e ≡ eval_or_in (site w) v (bare_or e)
or_seen w v None = refl
or_seen w v (Some e) = λ i s. eval_seen w e i s

mutual
  exec_seen : (w : Setting) (x : Stmt) → exec w x ≡ exec_in (site w) (bare_stmt x)
  exec_seen w stmt.Empty = refl
  exec_seen w (stmt.Do e) = λ i s. then_do (eval_seen w e i s) (λ v s1. gives Next s1)
  exec_seen w (stmt.Local k j e) =
      λ i s. then_do (or_seen w (zero_of k) e i s) (λ v s1. then_do (write_local j v s1) (λ _ s2. gives Next s2))
  exec_seen w (stmt.Block' shape all) = λ i s. in_order (execs_seen w all i) s
  exec_seen w (stmt.If' c p a q b) =
      λ i s. then_do (eval_seen w c i s) (λ v s1. choose v (exec_seen w a i) (exec_seen w b i) s1)
  exec_seen w (stmt.While' c p body) = λ i s. rounds (round (eval_seen w c i) (exec_seen w body i) (gives Nothing)) s
  exec_seen w (stmt.DoWhile' p body c) = λ i s. rounds (do_round (exec_seen w body i) (eval_seen w c i)) s
  exec_seen w (stmt.For' p first c last q body) =
      λ i s. then_do (exec_seen w first i s) (λ flow s1.
      follows flow (rounds (round (or_seen w (truth true) c i) (exec_seen w body i) (or_seen w Nothing last i))) s1)
  exec_seen w (stmt.Switch' e labels shape all) = λ i s. switch (eval_seen w e i) labels.items (execs_seen w all i) s
  exec_seen w stmt.Break = refl
  exec_seen w stmt.Continue = refl
  exec_seen w (stmt.Return e) = λ i s. then_do (or_seen w Nothing e i s) (λ v s1. gives (Return v) s1)

  execs_seen : {n : Count} (w : Setting) (xs : Row_of-Stmt n) → execs w xs ≡ execs_in (site w) (bare_stmts xs)
  execs_seen w end_of-Stmt = refl
  execs_seen w (more_of-Stmt x xs) = λ i. exec_seen w x i ∷ execs_seen w xs i

-- ---- methods

abbrev result_of : Method → Kind
result_of m = m.result

abbrev body_of : Method → Option BareStmt
body_of m = option_map bare_stmt m.body

abbrev body_in : Site → Kind → Option BareStmt → List Val → Shared → Called
body_in w k None frame shared = untyped frame shared
body_in w k (Some body) frame shared = called k (exec_in w body (record { shared = shared; locals = frame }))

abbrev method_in : Site → Option Kind → Option (Option BareStmt) → List Val → Shared → Called
method_in w (Some k) (Some body) frame shared = body_in w k body frame shared
method_in w k body frame shared = untyped frame shared

body_seen : (w : Setting) (k : Kind) (body : Option Stmt) (frame : List Val) (shared : Shared)
    → run_body w k body frame shared ≡ body_in (site w) k (option_map bare_stmt body) frame shared
body_seen w k None frame shared = refl
body_seen w k (Some x) frame shared = λ i. called k (exec_seen w x i (record { shared = shared; locals = frame }))

method_seen : (w : Setting) (m : Option Method) (frame : List Val) (shared : Shared)
    → run_method w m frame shared ≡ method_in (site w) (option_map result_of m) (option_map body_of m) frame shared
method_seen w None frame shared = refl
method_seen w (Some m) frame shared = body_seen w m.result m.body frame shared

-- what stands at a place of a list, told of it
told_at : {A B : Type 0} (f : A → B) (xs : List A) (n : ℕ) → option_map f (slice_get xs n) ≡ slice_get (map f xs) n
told_at f [] n = refl
told_at f (x ∷ xs) zero = refl
told_at f (x ∷ xs) (suc n) = told_at f xs n

told_same : {A B : Type 0} (f : A → B) (xs ys : List A) (n : ℕ) → map f xs ≡ map f ys → option_map f (slice_get xs n) ≡ option_map f (slice_get ys n)
told_same f xs ys n same = told_at f xs n ∙ ap (λ l. slice_get l n) same ∙ sym (told_at f ys n)

-- whether a method is one of this name of this class
abbrev is_it : List ℕ → ℕ → Method → Bool
is_it name class m = (m.class.0 == class) && bytes_eq m.name name

-- the place of the first method of a name that a class declares, by the classes and the names of all
first_same : (ms ns : List Method) → map (λ (m : Method). m.class) ms ≡ map (λ (m : Method). m.class) ns → map (λ (m : Method). m.name) ms ≡ map (λ (m : Method). m.name) ns
    → (name : List ℕ) (class : ℕ) → position_or_len (is_it name class) ms ≡ position_or_len (is_it name class) ns
first_same [] [] classes names name class = refl
first_same [] (n ∷ ns) classes names name class = absurd (cc)
first_same (m ∷ ms) [] classes names name class = absurd (cc)
first_same (m ∷ ms) (n ∷ ns) classes names name class =
    let here : m.class ≡ n.class = cc in
    let called : m.name ≡ n.name = cc in
    let behind : map (λ (m : Method). m.class) ms ≡ map (λ (m : Method). m.class) ns = cc in
    let rest : map (λ (m : Method). m.name) ms ≡ map (λ (m : Method). m.name) ns = cc in
    λ i. cond (not (((here i).0 == class) && bytes_eq (called i) name)) (1 + first_same ms ns behind rest name class i) 0

long_same : (ms ns : List Method) → map (λ (m : Method). m.class) ms ≡ map (λ (m : Method). m.class) ns → length ms ≡ length ns
long_same [] [] classes = refl
long_same [] (n ∷ ns) classes = absurd (cc)
long_same (m ∷ ms) [] classes = absurd (cc)
long_same (m ∷ ms) (n ∷ ns) classes =
    let behind : map (λ (m : Method). m.class) ms ≡ map (λ (m : Method). m.class) ns = cc in
    ap (λ n. suc n) (long_same ms ns behind)

declared_same : (ms ns : List Method) → map (λ (m : Method). m.class) ms ≡ map (λ (m : Method). m.class) ns → map (λ (m : Method). m.name) ms ≡ map (λ (m : Method). m.name) ns
    → (name : List ℕ) (class : ℕ) → declared_method ms name class ≡ declared_method ns name class
declared_same ms ns classes names name class = λ i.
    cond (nat_lt (first_same ms ns classes names name class i) (long_same ms ns classes i)) (Some (first_same ms ns classes names name class i)) None

-- the name is what a method is looked for by
by_name : {B : Type 0} (g : List ℕ → Option B) (m : Option Method) → option_and_then (λ (m : Method). g m.name) m ≡ option_and_then g (option_map (λ (m : Method). m.name) m)
by_name g None = refl
by_name g (Some m) = refl

-- ---- two programs

module _ (p q : Program) (alike : AreAlike p q) where
  all_fields : fields p ≡ fields q
  all_fields = fields_alike p q alike.schema alike.fields

  found : find p ≡ find q
  found = λ i class name. first_found (λ at. declared_same p.methods q.methods alike.classes alike.names name at i) (lineage (alike.schema i).classes class)

  class_same : (class : ℕ) (base : Base) (path : List ℕ) → class_from p class base path ≡ class_from q class base path
  class_same class Component path = λ i. object_in form_of (all_fields i) path (Some class)
  class_same class Statics path = λ i. static_object_in form_of (all_fields i) (alike.statics i) path

  module _ (class : ℕ) (calls others : Calls) (same : calls ≡ others) where
    abbrev one : Setting
    one = record { program = p; class = class; calls = calls }

    abbrev other : Setting
    other = record { program = q; class = class; calls = others }

    part_same : (k : Kind) (spot : Spot) (s : State) → part_at one k spot s ≡ part_at other k spot s
    part_same kind.Text spot s = refl
    part_same (kind.Object n) spot s = λ i. then_do (answers (there (class_same class spot.base spot.path i)) s) (λ _ s1. gives (At spot) s1)
    part_same kind.Void spot s = refl
    part_same kind.Bool spot s = refl
    part_same kind.Int spot s = refl
    part_same kind.Long spot s = refl

    named_same : (m n : ℕ) → option_and_then (λ (m : Method). find p n m.name) (slice_get p.methods m) ≡ option_and_then (λ (m : Method). find q n m.name) (slice_get q.methods m)
    named_same m n =
        by_name (find p n) (slice_get p.methods m)
        ∙ (λ i. option_and_then (found i n) (told_same (λ (m : Method). m.name) p.methods q.methods m alike.names i))
        ∙ sym (by_name (find q n) (slice_get q.methods m))

    for_same : (spot : Spot) (m : ℕ) → method_for one spot m ≡ method_for other spot m
    for_same spot m = λ i. there (option_and_then (λ n. named_same m n i) (class_same class spot.base spot.path i))

    site_same : site one ≡ site other
    site_same = λ i. record {
      texts = alike.texts i;
      part = λ k spot s. part_same k spot s i;
      method = λ spot m. for_same spot m i;
      call_of = λ m frame s. then_do (take_turn s) (λ _ s1. back (same i m frame s1.shared) s1.locals);
    }

    run_same : (m : ℕ) (frame : List Val) (shared : Shared) → run_method one (slice_get p.methods m) frame shared ≡ run_method other (slice_get q.methods m) frame shared
    run_same m frame shared =
        method_seen one (slice_get p.methods m) frame shared
        ∙ (λ i. method_in (site_same i) (told_same result_of p.methods q.methods m alike.results i) (told_same body_of p.methods q.methods m alike.bodies i) frame shared)
        ∙ sym (method_seen other (slice_get q.methods m) frame shared)

  calls_same : (class frames : ℕ) → calls_with p class frames ≡ calls_with q class frames
  unfolding calls_with
  calls_same class zero = λ i m frame shared. calls_with p class zero m frame shared
  calls_same class (suc frames) = λ i m frame shared. run_same class (calls_with p class frames) (calls_with q class frames) (calls_same class frames) m frame shared i

  method_same : (class : ℕ) (r : Root) → root_method p class r ≡ root_method q class r
  method_same class which.Execute = λ i. map_ok (λ m. Some m) (there (found i class (codes "execute")))
  method_same class (which.Action slot) = λ i. map_ok (λ m. Some m) (there (found i class (slot_name (alike.schema i).classes class slot.0)))
  method_same class (which.Callback c) =
      λ i. and_then (there (type_at (alike.schema i).classes 0 component_type))
      (λ (component : ℕ). if is_some (found i component (callback_name c)) then map_ok (λ m. Some m) (there (found i class (callback_name c))) else Ok None)

  pub programs_mean_one : meaning_of p ≡ meaning_of q
  programs_mean_one = ap masked code_same
    where
      code_same : code_of p ≡ code_of q
      code_same = λ i. record {
        schema = alike.schema i;
        fields = λ class. map shape_of (all_fields i class);
        slot_field = λ class slot. position (in_slot slot) (all_fields i class);
        static_fields = map shape_of (alike.statics i);
        initial = λ class. begun_alike p q all_fields (length (alike.schema i).classes) i class [];
        initial_statics = fields_begun (begun_alike p q all_fields (length (alike.schema i).classes) i) [] (alike.statics i);
        data_size = λ class. sizes_alike p q all_fields (length (alike.schema i).classes) i class;
        root = λ a. root_end (start_root (calls_same a.class most_frames i) (method_same a.class a.which i) (argument_of a.argument)
            (record { contents = a.contents; statics = a.statics; turns = a.turns; moment = a.moment }));
      }
