-- What holds of each step holds of every expression and statement: one induction for all laws of that form.
use Rattle.std.proofs.Common.{ℕ, suc, ◌+◌, ◌-◌, Bool, true, false, if◌then◌else◌, List, [], ◌∷◌, drop, length, replicate, slice_get, zero, Option, Some, None, Result, Ok}
use Rattle.sed_value.specs.declared.slot_type.Primitive.{Primitive}
use Rattle.sed_value.specs.declared.value.Value.{Value}
use Rattle.sed_value.specs.declared.value.Value.TheVariants as kept
use Rattle.sed_typed.specs.declared.kind.Kind.{Kind}
use Rattle.sed_typed.specs.declared.kind.Kind.TheVariants as kind
use Rattle.sed_typed.specs.declared.operators.TextCall.{TextCall}
use Rattle.sed_typed.specs.declared.operators.TextCall.TheVariants as text
use Rattle.sed_typed.specs.declared.operators.Width.TheVariants as width
use Rattle.sed_typed.specs.declared.tree.Place.{Place}
use Rattle.sed_typed.specs.declared.tree.Place.TheVariants as place
use Rattle.sed_typed.specs.declared.tree.Expr.{Expr, Row_of-Expr, end_of-Expr, more_of-Expr, Row_of-Link, end_of-Link, more_of-Link}
use Rattle.sed_typed.specs.declared.tree.Expr.TheVariants as expr
use Rattle.sed_typed.specs.declared.tree.Link.{Link}
use Rattle.sed_typed.specs.declared.tree.Link.TheVariants as link
use Rattle.sed_typed.specs.declared.statement.Stmt.{Stmt, Row_of-Stmt, end_of-Stmt, more_of-Stmt}
use Rattle.sed_typed.specs.declared.statement.Stmt.TheVariants as stmt
use Rattle.sed_engine.specs.Stops.{Stop, there}
use Rattle.sed_engine.specs.Values.{Val, Nothing, Int, At, Null, Literal, Truth, Long, Spot, whole, truth, is_met, spot_of, stored_as, read_as, bytes_of, receiver, zero_of}
use Rattle.sed_engine.specs.Texts.{index_of, with_character}
use Rattle.sed_engine.specs.State.{State, End, gives, answers, then_do}
use Rattle.sed_engine.specs.Steps.{inside, choose, load, store, read_spot, write_spot, read_bytes, write_bytes, with_local, read_local, read_this, write_local, read_moment, take_turn}
use Rattle.sed_engine.specs.Places.{Target, OfLocal, OfStatic, OfField, OfElement, OfStaticElement, static_spot, field_spot, element_spot, field_element, fetch, put}
use Rattle.sed_engine.specs.Expressions.{Setting, back, put_all, new_frame, frame_of, call, call_static, call_super, invoke, class_of, part_at, method_for, text_bytes, changeable, operand, text_call, buf_bytes, in_chain, eval, locate, meaning, evals, meanings}
use Rattle.sed_engine.specs.Statements.{Flow, Next, Break, Continue, Return, Round, Again, Over, Answer, follows, in_order, after_body, round, do_round, rounds, label_of, eval_or, exec, execs}

data AllHave (R : (A : Type 0) → (State → End A) → Type 0) (A : Type 0) : List (State → End A) → Type 0 where
  NoMore : AllHave R A []
  OneMore : (f : State → End A) (fs : List (State → End A)) → R A f → AllHave R A fs → AllHave R A (f ∷ fs)

data AllLinksHave (R : (A : Type 0) → (State → End A) → Type 0) : List (Val → State → End Val) → Type 0 where
  NoLinks : AllLinksHave R []
  OneLink : (f : Val → State → End Val) (fs : List (Val → State → End Val)) → ((v : Val) → R Val (f v)) → AllLinksHave R fs → AllLinksHave R (f ∷ fs)

-- R holds of the steps, of what is made of them by `then_do`, of calls, and of loops whose rounds have it
pub record Closed (R : (A : Type 0) → (State → End A) → Type 0) (w : Setting) : Type 1 where
  pub follow : {A B : Type 0} {f : State → End A} {h : A → State → End B} → R A f → ((a : A) → R B (h a)) → R B (λ s. then_do (f s) h)
  pub answer : {A : Type 0} (r : Result A Stop) → R A (λ s. answers r s)
  pub of_locals : {A : Type 0} (f : List Val → Result A Stop) → R A (λ s. answers (f s.locals) s)
  pub of_new_locals : (v : Val) (locals : List Val) → R Val (λ s. gives v (record { shared = s.shared; locals = locals }))
  pub of_load : (spot : Spot) → R Value (λ s. load spot s)
  pub of_store : (spot : Spot) (new : Value) → R (Unit {0}) (λ s. store spot new s)
  pub of_moment : R Val (λ s. read_moment s)
  pub of_turn : R (Unit {0}) (λ s. take_turn s)
  pub of_calls : (m : ℕ) (frame : List Val) → R Val (λ s. back (w.calls m frame s.shared) s.locals)
  pub of_rounds : {one : State → End Round} → R Round one → R Flow (rounds one)

module _ (R : (A : Type 0) → (State → End A) → Type 0) (w : Setting) (c : Closed R w) where
  give : {A : Type 0} (v : A) → R A (λ s. gives v s)
  give v = c.answer (Ok v)

  pick : {A : Type 0} {f g : State → End A} (b : Bool) → R A f → R A g → R A (λ s. (if b then f else g) s)
  pick true x y = x
  pick false x y = y

  of_choose : {A : Type 0} {f g : State → End A} (v : Val) → R A f → R A g → R A (λ s. choose v f g s)
  of_choose v x y = c.follow (c.answer (is_met v)) (λ b. pick b x y)

  of_read_local : (kind : Kind) (i : ℕ) → R Val (read_local kind i)
  of_read_local kind i = c.follow (c.of_locals (λ locals. there (slice_get locals i))) (λ v. give _)

  of_this : R Val read_this
  of_this = c.follow (c.of_locals (λ locals. there (slice_get locals 0))) (λ v. c.answer (receiver v))

  of_write_local : (i : ℕ) (v : Val) → R Val (write_local i v)
  of_write_local i v = c.follow (c.of_locals (λ locals. with_local locals i v)) (λ locals. c.of_new_locals v locals)

  of_read_spot : (spot : Spot) → R Val (read_spot spot)
  of_read_spot spot = c.follow (c.of_load spot) (λ v. c.answer (read_as v))

  of_write_spot : (p : Primitive) (spot : Spot) (v : Val) → R Val (write_spot p spot v)
  of_write_spot p spot v = c.follow (c.answer (stored_as p v)) (λ new. c.follow (c.of_store spot new) (λ _. c.answer (read_as new)))

  of_read_bytes : (spot : Spot) → R (List ℕ) (read_bytes spot)
  of_read_bytes spot = c.follow (c.of_load spot) (λ v. c.answer (bytes_of v))

  of_write_bytes : (spot : Spot) (bytes : List ℕ) → R Val (write_bytes spot bytes)
  of_write_bytes spot bytes = c.follow (c.of_store spot (kept.Buf bytes)) (λ _. give Nothing)

  of_put_all : (i : ℕ) (es : List (State → End Val)) (frame : List Val) → AllHave R Val es → R (List Val) (put_all i es frame)
  of_put_all i [] frame all = give frame
  of_put_all i (e ∷ es) frame (OneMore f fs one rest) = c.follow one (λ v. c.follow (c.answer (with_local frame i v)) (λ more. of_put_all (i + 1) es more rest))

  of_chain : (ls : List (Val → State → End Val)) → AllLinksHave R ls → (v : Val) → R Val (in_chain ls v)
  of_chain [] all v = give v
  of_chain (l ∷ ls) (OneLink f fs one rest) v = c.follow (one v) (λ x. of_chain ls rest x)

  of_call : (m : ℕ) (frame : List Val) → R Val (call w m frame)
  of_call m frame = c.follow c.of_turn (λ _. c.of_calls m frame)

  of_static : (m : ℕ) (es : List (State → End Val)) → AllHave R Val es → R Val (call_static w m es)
  of_static m es all = c.follow (of_put_all 0 es new_frame all) (λ frame. of_call m frame)

  of_super : (m : ℕ) (es : List (State → End Val)) → AllHave R Val es → R Val (call_super w m es)
  of_super m es all = c.follow of_this (λ this. c.follow (of_put_all 1 es (frame_of this) all) (λ frame. of_call m frame))

  of_invoke : (v : Val) (m : ℕ) (es : List (State → End Val)) → AllHave R Val es → R Val (invoke w v m es)
  of_invoke v m es all = c.follow (of_put_all 1 es (frame_of v) all) (λ frame. c.follow (c.answer (spot_of v)) (λ spot. c.follow (c.answer (method_for w spot m)) (λ n. of_call n frame)))

  of_field : (v : Val) (i : ℕ) → R Spot (field_spot v i)
  of_field v i = c.follow (c.answer (spot_of v)) (λ spot. give (inside spot i))

  of_element : (count : ℕ) (array : Spot) (index : Val) → R Spot (element_spot count array index)
  of_element count array index = c.follow (c.answer (index_of count index)) (λ i. give (inside array i))

  of_field_element : (count : ℕ) (v : Val) (i : ℕ) (index : Val) → R Spot (field_element count v i index)
  of_field_element count v i index = c.follow (of_field v i) (λ array. of_element count array index)

  of_fetch : (t : Target) → R Val (fetch t)
  of_fetch (OfLocal kind i) = of_read_local kind i
  of_fetch (OfStatic p i) = of_read_spot (static_spot i)
  of_fetch (OfField p v i) = c.follow (of_field v i) of_read_spot
  of_fetch (OfElement p count v i index) = c.follow (of_field_element count v i index) of_read_spot
  of_fetch (OfStaticElement p count i index) = c.follow (of_element count (static_spot i) index) of_read_spot

  of_put : (t : Target) (v : Val) → R Val (put t v)
  of_put (OfLocal kind i) v = of_write_local i v
  of_put (OfStatic p i) v = of_write_spot p (static_spot i) v
  of_put (OfField p o i) v = c.follow (of_field o i) (λ spot. of_write_spot p spot v)
  of_put (OfElement p count o i index) v = c.follow (of_field_element count o i index) (λ spot. of_write_spot p spot v)
  of_put (OfStaticElement p count i index) v = c.follow (of_element count (static_spot i) index) (λ spot. of_write_spot p spot v)

  of_part : (k : Kind) (spot : Spot) → R Val (part_at w k spot)
  of_part kind.Text spot = c.follow (of_read_bytes spot) (λ bytes. give _)
  of_part (kind.Object class) spot = c.follow (c.answer (there (class_of w spot))) (λ class. give _)
  of_part k spot = c.answer _

  of_text_bytes : (v : Val) → R (List ℕ) (text_bytes w.program.texts v)
  of_text_bytes Nothing = c.follow (c.answer (spot_of Nothing)) of_read_bytes
  of_text_bytes (Truth t) = c.follow (c.answer (spot_of (Truth t))) of_read_bytes
  of_text_bytes (Int n) = c.follow (c.answer (spot_of (Int n))) of_read_bytes
  of_text_bytes (Long n) = c.follow (c.answer (spot_of (Long n))) of_read_bytes
  of_text_bytes Null = c.follow (c.answer (spot_of Null)) of_read_bytes
  of_text_bytes (At spot) = c.follow (c.answer (spot_of (At spot))) of_read_bytes
  of_text_bytes (Literal n) = c.answer _

  of_text_call : (op : TextCall) (v : Val) (args : List Val) → R Val (text_call w.program.texts op v args)
  of_text_call text.Length v args = c.follow (of_text_bytes v) (λ bytes. give _)
  of_text_call text.Get v args = c.follow (of_text_bytes v) (λ bytes. c.follow (c.answer _) (λ i. give _))
  of_text_call text.Set v args = c.follow (c.answer (changeable v)) (λ spot. c.follow (of_read_bytes spot) (λ bytes. c.follow {A = ℕ} (c.answer (index_of (length {A = ℕ} bytes - 1) (operand args 0))) (λ i. c.follow (c.answer (whole width.Int (operand args 1))) (λ n. of_write_bytes spot (with_character bytes i n)))))
  of_text_call text.Equals v args = c.follow (of_text_bytes v) (λ a. c.follow (of_text_bytes (operand args 0)) (λ b. give _))
  of_text_call text.Copy v args = c.follow (of_text_bytes v) (λ old. c.follow (of_text_bytes (operand args 0)) (λ new. c.follow (c.answer (changeable v)) (λ spot. of_write_bytes spot _)))

  of_buf_bytes : (v : Val) (i : ℕ) → R (List ℕ) (buf_bytes v i)
  of_buf_bytes v i = c.follow (of_field v i) of_read_bytes

  mutual
    pub of_expr : (e : Expr) → R Val (eval w e)
    of_expr (expr.Int n) = give _
    of_expr (expr.Long n) = give _
    of_expr (expr.Bool t) = give _
    of_expr (expr.Null kind) = give _
    of_expr (expr.Text n) = give _
    of_expr (expr.This class) = of_this
    of_expr (expr.Local kind i) = of_read_local kind i
    of_expr (expr.Static p i) = of_read_spot (static_spot i)
    of_expr (expr.StaticPart k i) = of_part k (static_spot i)
    of_expr (expr.StaticElement' p count i q e) = c.follow (of_expr e) (λ index. c.follow (of_element count (static_spot i) index) of_read_spot)
    of_expr expr.Ticks = c.of_moment
    of_expr (expr.Unary' op p e) = c.follow (of_expr e) (λ v. c.answer _)
    of_expr (expr.Choose' p t q a r b) = c.follow (of_expr t) (λ v. of_choose v (of_expr a) (of_expr b))
    of_expr (expr.Set' target p e) = c.follow (of_place target) (λ t. c.follow (of_expr e) (λ v. of_put t v))
    of_expr (expr.Update' u target p e) = c.follow (of_place target) (λ t. c.follow (of_fetch t) (λ old. c.follow (of_expr e) (λ x. c.follow (c.answer _) (λ v. c.follow (of_put t v) (λ new. give _)))))
    of_expr (expr.Call' kind m shape args) = of_static m (evals w args) (of_exprs args)
    of_expr (expr.Super' kind m shape args) = of_super m (evals w args) (of_exprs args)
    of_expr (expr.Chain' p e shape links) = c.follow (of_expr e) (λ v. of_chain (meanings w links) (of_links links) v)

    of_place : (t : Place) → R Target (locate w t)
    of_place (place.Local kind i) = give _
    of_place (place.Static p i) = give _
    of_place (place.Field' p q e i) = c.follow (of_expr e) (λ v. give _)
    of_place (place.Element' p count q e f r i) = c.follow (of_expr e) (λ v. c.follow (of_expr i) (λ index. give _))
    of_place (place.StaticElement' p count i q e) = c.follow (of_expr e) (λ index. give _)

    of_link : (l : Link) (v : Val) → R Val (meaning w l v)
    of_link (link.Binary op e) v = c.follow (of_expr e) (λ x. c.answer _)
    of_link (link.And e) v = of_choose v (c.follow (of_expr e) (λ x. c.answer _)) (give _)
    of_link (link.Or e) v = of_choose v (give _) (c.follow (of_expr e) (λ x. c.answer _))
    of_link (link.Field p i) v = c.follow (of_field v i) of_read_spot
    of_link (link.Part k i) v = c.follow (of_field v i) (of_part k)
    of_link (link.Element p count i e) v = c.follow (of_expr e) (λ index. c.follow (of_field_element count v i index) of_read_spot)
    of_link (link.Size i) v = c.follow (of_buf_bytes v i) (λ bytes. give _)
    of_link (link.Byte i e) v = c.follow (of_expr e) (λ index. c.follow (of_buf_bytes v i) (λ bytes. c.follow (c.answer _) (λ at. give _)))
    of_link (link.Invoke' kind m shape args) v = of_invoke v m (evals w args) (of_exprs args)
    of_link (link.TextCall' op shape args) v = c.follow (of_put_all 0 (evals w args) (replicate 2 Nothing) (of_exprs args)) (λ xs. of_text_call op v xs)
    of_link (link.After e) v = of_expr e

    of_exprs : {n : _} (es : Row_of-Expr n) → AllHave R Val (evals w es)
    of_exprs end_of-Expr = NoMore
    of_exprs (more_of-Expr e es) = OneMore (eval w e) (evals w es) (of_expr e) (of_exprs es)

    of_links : {n : _} (ls : Row_of-Link n) → AllLinksHave R (meanings w ls)
    of_links end_of-Link = NoLinks
    of_links (more_of-Link l ls) = OneLink (meaning w l) (meanings w ls) (of_link l) (of_links ls)

  of_follows : (flow : Flow) (f : State → End Flow) → R Flow f → R Flow (follows flow f)
  of_follows Next f one = one
  of_follows Break f one = give Break
  of_follows Continue f one = give Continue
  of_follows (Return v) f one = give (Return v)

  of_order : (fs : List (State → End Flow)) → AllHave R Flow fs → R Flow (in_order fs)
  of_order [] all = give Next
  of_order (f ∷ fs) (OneMore g gs one rest) = c.follow one (λ flow. of_follows flow (in_order fs) (of_order fs rest))

  of_drop : (n : ℕ) (fs : List (State → End Flow)) → AllHave R Flow fs → AllHave R Flow (drop n fs)
  of_drop zero fs all = all
  of_drop (suc n) [] all = all
  of_drop (suc n) (f ∷ fs) (OneMore g gs one rest) = of_drop n fs rest

  of_after_body : (flow : Flow) (f : State → End Round) → R Round f → R Round (after_body flow f)
  of_after_body Next f one = one
  of_after_body Continue f one = one
  of_after_body Break f one = give Over
  of_after_body (Return v) f one = give (Answer v)

  of_round : {test last : State → End Val} {body : State → End Flow} → R Val test → R Flow body → R Val last → R Round (round test body last)
  of_round {test} {last} {body} t b l =
      c.follow t (λ v. of_choose v (c.follow c.of_turn (λ _. c.follow b (λ flow. of_after_body flow _ (c.follow l (λ _. give Again))))) (give Over))

  of_do_round : {test : State → End Val} {body : State → End Flow} → R Flow body → R Val test → R Round (do_round body test)
  of_do_round b t = c.follow c.of_turn (λ _. c.follow b (λ flow. of_after_body flow _ (c.follow t (λ v. of_choose v (give Again) (give Over)))))

  of_expr_or : (v : Val) (o : Option Expr) → R Val (eval_or w v o)
  of_expr_or v None = give v
  of_expr_or v (Some e) = of_expr e

  mutual
    pub of_stmt : (x : Stmt) → R Flow (exec w x)
    of_stmt stmt.Empty = give Next
    of_stmt (stmt.Do e) = c.follow (of_expr e) (λ v. give Next)
    of_stmt (stmt.Local kind i e) = c.follow (of_expr_or (zero_of kind) e) (λ v. c.follow (of_write_local i v) (λ _. give Next))
    of_stmt (stmt.Block' shape all) = of_order (execs w all) (of_stmts all)
    of_stmt (stmt.If' t p a q b) = c.follow (of_expr t) (λ v. of_choose v (of_stmt a) (of_stmt b))
    of_stmt (stmt.While' t p body) = c.of_rounds (of_round (of_expr t) (of_stmt body) (give Nothing))
    of_stmt (stmt.DoWhile' p body t) = c.of_rounds (of_do_round (of_stmt body) (of_expr t))
    of_stmt (stmt.For' p first t last q body) =
        c.follow (of_stmt first) (λ flow. of_follows flow _ (c.of_rounds (of_round (of_expr_or (truth true) t) (of_stmt body) (of_expr_or Nothing last))))
    of_stmt (stmt.Switch' e labels shape all) =
        c.follow (of_expr e) (λ v. c.follow (c.answer (whole width.Int v)) (λ n. c.follow (of_order _ (of_drop (label_of labels.items n) (execs w all) (of_stmts all))) (λ flow. give _)))
    of_stmt stmt.Break = give Break
    of_stmt stmt.Continue = give Continue
    of_stmt (stmt.Return e) = c.follow (of_expr_or Nothing e) (λ v. give _)

    of_stmts : {n : _} (xs : Row_of-Stmt n) → AllHave R Flow (execs w xs)
    of_stmts end_of-Stmt = NoMore
    of_stmts (more_of-Stmt x xs) = OneMore (exec w x) (execs w xs) (of_stmt x) (of_stmts xs)
