-- Instructions that stay in their method and change no local: where one stands, it leads on with cells of the kinds
-- that
-- the rules say, or it traps.
use Rattle.std.proofs.Common.{◌≡◌, ◌<◌, ◌≤◌, ◌||◌, not, nat_lt, ℕ, Bool, true, false, List, [], ◌∷◌, ◌++◌, length, take, drop, Option, Some, Result, refl, sym, ap, subst, ◌∙◌, arith, inl, inr, ◌⊎◌}
use Rattle.std.specs.Prelude.{slice_get}
use Rattle.std.specs.Option.{option_map_or}
use Rattle.std.proofs.lemmas.Bool.{eqb-true, ltb-true}
use Rattle.sed_value.specs.declared.slot_type.Primitive.TheVariants as prim
use Rattle.sed_typed.specs.declared.kind.Kind.{Kind}
use Rattle.sed_typed.specs.declared.kind.Kind.TheVariants as kind
use Rattle.sed_typed.specs.declared.operators.Arithmetic.TheVariants.{Add, Subtract, Multiply, Divide, Remainder, BitAnd, BitOr, BitXor, ShiftLeft, ShiftRight}
use Rattle.sed_typed.specs.declared.operators.Binary.{Binary}
use Rattle.sed_typed.specs.declared.operators.Binary.TheVariants as binary
use Rattle.sed_typed.specs.declared.operators.Comparison.TheVariants.{Equal, NotEqual, Less, LessOrEqual, Greater, GreaterOrEqual}
use Rattle.sed_typed.specs.declared.operators.Unary.{Unary}
use Rattle.sed_typed.specs.declared.operators.Unary.TheVariants as unary
use Rattle.sed_typed.specs.declared.operators.Width.TheVariants as width
use Rattle.sed_typed.specs.Kinds.{binary_kind, unary_kind}
use Rattle.sed_typed.specs.TypedExpr.{AreOperands, operand_kind}
use Rattle.sed_engine.specs.Operators.{binary_of, unary_of}
use Rattle.sed_engine.specs.State.{State, gives, answers, then_do}
use Rattle.sed_engine.specs.Steps.{choose, local_at, read_moment}
use Rattle.sed_engine.specs.Stops.{Stop, map_ok, there}
use Rattle.sed_engine.specs.Values.{Val, Int, Long, Truth, Null, At, Literal, Statics, same_reference, truth}
use Rattle.sed_engine.proofs.Kinded as language
use Rattle.sed_engine.proofs.Ranges.{Sound}
use Rattle.sed_engine.proofs.Ready.{Holds, then_holds, gives_it, answers_it}
use Rattle.scode_ops.specs.declared.op.Op.{Op}
use Rattle.scode_ops.specs.declared.op.Op.TheVariants as op
use Rattle.scode_ops.specs.Codes.{IsOp}
use Rattle.scode_image.specs.declared.image.ImageKind.{ImageKind}
use Rattle.scode_image.specs.declared.image.ImageMethod.{ImageMethod}
use Rattle.scode_code.specs.CodeRules.{after_stack, field_missing, is_end, number_missing}
use Rattle.scode_code.specs.Effect.{of_one, of_two, on_top, push}
use Rattle.scode_code.specs.Fields.{Setting}
use Rattle.scode_code.specs.Kinds.{Shape, bool, long, str, is_null, is_object, is_str}
use Rattle.scode_code.specs.Machine.{Move, Onward, Goto}
use Rattle.scode_code.specs.Steps.{effect}
use Rattle.scode_code.specs.declared.needs.Need.TheVariants.{Goes, Reference, Anything}
use Rattle.scode_code.specs.Wants.{constant, loads, needs, nothing as no_effect, wants_of}
use Rattle.scode_whole.proofs.Truths.{either, no_truth, same_value}
use Rattle.scode_sound.specs.Cells.{Block, Concrete, Fit, HasKind}
use Rattle.scode_sound.proofs.Rules.{Tables, stands_at}
use Rattle.scode_sound.proofs.Cells.{fit_get, goes}
use Rattle.scode_sound.proofs.Keeping.{Now}
use Rattle.scode_sound.proofs.Plain.{IsPlain, compared_is, image_kind, nothing, reference_is, sound_from, to_plain, truth_is}
use Rattle.scode_sound.proofs.Stacks.{Cell, Lands, Takes, chooses, one_off, two_off, push_it}
use Rattle.scode_sound.proofs.Objects as objects
use Rattle.scode_sound.proofs.Strs as strs
use Rattle.scode_sound.proofs.Booleans.{not_not}

abbrev pub is_straight : Op → Bool
is_straight (op.Store i) = false
is_straight op.Turn = false
is_straight (op.Call number) = false
is_straight (op.VirtualCall class place) = false
is_straight op.Return = false
is_straight op.ReturnValue = false
is_straight other = true

module _ (w : Setting) (is : Tables w.image) (own : Concrete w.image w.class) (given turns : ℕ)
    (locals : List Val) where
  abbrev pub G : State → Type 0
  G s = Now w given turns locals s

  abbrev Has : ImageKind → Val → Type 0
  Has k v = HasKind w k v

  -- ---- operators

  plain_cell : (k : Kind) (o : Option ImageKind) (v : Val) → IsPlain k → Cell w (Goes (image_kind k)) o v
      → language.HasKind nothing 0 k v
  plain_cell k o v p c = to_plain w k v p (goes w is c.kind (image_kind k) v c.meets_it c.has)

  two_it : (operator : Binary) (j k : Kind) → IsPlain j → IsPlain k → IsPlain (binary_kind operator)
      → AreOperands operator j k → (i : Op) (ks : List ImageKind) (stack : List Val) → is_end i ≡ false
      → Takes w (Goes (image_kind k) ∷ Goes (image_kind j) ∷ []) ks stack
      → Holds G Move (Lands w i (image_kind (binary_kind operator) ∷ drop 2 ks)) (of_two operator stack)
  two_it operator j k pj pk p operands i ks stack on t =
      two_off w G (λ ls. Lands w i (image_kind (binary_kind operator) ∷ ls)) (Goes (image_kind k))
      (Goes (image_kind j)) ks stack (λ a b rest s1. push rest (answers (binary_of operator a b) s1)) t
      (λ a b ls rest c d fit.
      push_it w G i (image_kind (binary_kind operator)) ls rest (answers (binary_of operator a b)) on fit
      (answers_it (binary_of operator a b)
      (sound_from w (binary_kind operator) (binary_of operator a b) p
      (language.binary_is nothing 0 operator j k a b operands (plain_cell j (slice_get ks 1) a pj c)
      (plain_cell k (slice_get ks 0) b pk d)))))

  one_it : (operator : Unary) → IsPlain (operand_kind operator) → IsPlain (unary_kind operator) → (i : Op)
      (ks : List ImageKind) (stack : List Val) → is_end i ≡ false
      → Takes w (Goes (image_kind (operand_kind operator)) ∷ []) ks stack
      → Holds G Move (Lands w i (image_kind (unary_kind operator) ∷ drop 1 ks)) (of_one operator stack)
  one_it operator pk p i ks stack on t =
      one_off w G (λ ls. Lands w i (image_kind (unary_kind operator) ∷ ls)) (Goes (image_kind (operand_kind operator)))
      ks stack (λ v rest s1. push rest (answers (unary_of operator v) s1)) t
      (λ v ls rest c fit.
      push_it w G i (image_kind (unary_kind operator)) ls rest (answers (unary_of operator v)) on fit
      (answers_it (unary_of operator v)
      (sound_from w (unary_kind operator) (unary_of operator v) p
      (language.unary_is nothing 0 operator v (plain_cell (operand_kind operator) (slice_get ks 0) v pk c)))))

  high : (k : ImageKind) → ((is_object k || is_null k) || is_str k) ≡ true → 4 ≤ k.kind
  high k h = first (either (is_object k || is_null k) (is_str k) h)
    where
      second : (is_object k ≡ true) ⊎ (is_null k ≡ true) → 4 ≤ k.kind
      second (inl e) = let same : k.kind ≡ 6 = eqb-true k.kind 6 e in omega (arith, same)
      second (inr e) = let same : k.kind ≡ 5 = eqb-true k.kind 5 e in omega (arith, same)

      first : ((is_object k || is_null k) ≡ true) ⊎ (is_str k ≡ true) → 4 ≤ k.kind
      first (inl e) = second (either (is_object k) (is_null k) e)
      first (inr e) = let same : k.kind ≡ 4 = eqb-true k.kind 4 e in omega (arith, same)

  same_it : (operator : Binary) (f : Bool → Val) → ((b : Bool) → Has bool (f b))
      → ((a b : Val) → binary_of operator a b ≡ map_ok f (same_reference a b)) → (i : Op) (ks : List ImageKind)
      (stack : List Val) → is_end i ≡ false → Takes w (Reference ∷ Reference ∷ []) ks stack
      → Holds G Move (Lands w i (bool ∷ drop 2 ks)) (of_two operator stack)
  same_it operator f each by i ks stack on t =
      two_off w G (λ ls. Lands w i (bool ∷ ls)) Reference Reference ks stack
      (λ a b rest s1. push rest (answers (binary_of operator a b) s1)) t
      (λ a b ls rest c d fit.
      push_it w G i bool ls rest (answers (binary_of operator a b)) on fit
      (answers_it (binary_of operator a b)
      (subst (λ (r : Result Val Stop). Sound (Has bool) r) (sym (by a b))
      (compared_is w f each a b (reference_is w c.kind a (high c.kind c.meets_it) c.has)
      (reference_is w d.kind b (high d.kind d.meets_it) d.has)))))

  -- ---- jumps and locals

  false_it : (to : ℕ) (ks : List ImageKind) (stack : List Val) → Takes w (Goes bool ∷ []) ks stack
      → Holds G Move (Lands w (op.JumpFalse to) (drop 1 ks))
      (on_top stack (λ v rest s1. choose v (gives (Onward rest)) (gives (Goto to rest)) s1))
  false_it to ks stack t =
      one_off w G (λ ls. Lands w (op.JumpFalse to) ls) (Goes bool) ks stack
      (λ v rest s1. choose v (gives (Onward rest)) (gives (Goto to rest)) s1) t
      (λ v ls rest c fit.
      chooses w G (Lands w (op.JumpFalse to) ls) (gives (Onward rest)) (gives (Goto to rest)) v
      (goes w is c.kind bool v c.meets_it c.has) (gives_it (Onward rest) (refl, fit))
      (gives_it (Goto to rest) (refl, fit)))

  true_it : (to : ℕ) (ks : List ImageKind) (stack : List Val) → Takes w (Goes bool ∷ []) ks stack
      → Holds G Move (Lands w (op.JumpTrue to) (drop 1 ks))
      (on_top stack (λ v rest s1. choose v (gives (Goto to rest)) (gives (Onward rest)) s1))
  true_it to ks stack t =
      one_off w G (λ ls. Lands w (op.JumpTrue to) ls) (Goes bool) ks stack
      (λ v rest s1. choose v (gives (Goto to rest)) (gives (Onward rest)) s1) t
      (λ v ls rest c fit.
      chooses w G (Lands w (op.JumpTrue to) ls) (gives (Goto to rest)) (gives (Onward rest)) v
      (goes w is c.kind bool v c.meets_it c.has) (gives_it (Goto to rest) (refl, fit))
      (gives_it (Onward rest) (refl, fit)))

  local_it : (ks : List ImageKind) (i : ℕ) (k : ImageKind) → Fit w ks locals → slice_get ks i ≡ Some k
      → Holds G Val (Has k) (local_at i)
  local_it ks i k fit e = record {
    holds = λ s g.
        let v = fit_get w ks locals i k fit e in
        let is : slice_get s.locals i ≡ Some v.0 = ap (λ (all : List Val). slice_get all i) g.locals_are ∙ v.1 in
        (g, subst (λ (o : Option Val). Sound (Has k) (there o)) (sym is) v.2);
  }

  load_it : (m : ImageMethod) (shape : Shape) (i : ℕ) (stack : List Val) → i < length m.locals
      → length shape.locals ≡ length m.locals → Fit w shape.locals locals → Fit w shape.stack stack
      → Holds G Move (Lands w (op.Load i) (after_stack w.image (loads shape.locals i) shape.stack))
      (λ s. push stack (local_at i s))
  load_it m shape i stack low many fit cells =
      let k = stands_at shape.locals i (omega (arith, low, many)) in
      subst (λ (o : Option ImageKind). Holds G Move (Lands w (op.Load i)
      (after_stack w.image (option_map_or (λ k. constant k) o no_effect) shape.stack)) (λ s. push stack (local_at i s))) (sym k.1)
      (push_it w G (op.Load i) k.0 shape.stack stack (local_at i) refl cells (local_it shape.locals i k.0 fit k.1))

  text_it : (n : ℕ) (ks : List ImageKind) (stack : List Val) → n < length w.image.texts → Fit w ks stack
      → Holds G Move (Lands w (op.Text n) (str ∷ ks))
      (λ s. then_do (answers (there (slice_get w.image.texts n)) s) (λ _ s1. gives (Onward (Literal n ∷ stack)) s1))
  text_it n ks stack low fit =
      let t = stands_at w.image.texts n low in
      let known : Sound {A = List ℕ} (λ _. Unit {0}) (there (slice_get w.image.texts n)) =
      subst (λ (o : Option (List ℕ)). Sound {A = List ℕ} (λ _. Unit {0}) (there o)) (sym t.1) tt in
      then_holds (answers_it (there (slice_get w.image.texts n)) known)
      (λ _ _. gives_it (Onward (Literal n ∷ stack)) (refl, ((refl, low), fit)))

  dup_it : (ks : List ImageKind) (stack : List Val) → Takes w (Anything ∷ []) ks stack
      → Holds G Move (Lands w op.Dup ((take 1 ks ++ take 1 ks) ++ drop 1 ks))
      (on_top stack (λ v rest s1. gives (Onward (v ∷ v ∷ rest)) s1))
  dup_it [] stack t = absurd t
  dup_it (k ∷ ks) [] t = absurd t
  dup_it (k ∷ ks) (v ∷ vs) t =
      let h : Has k v = subst (λ (x : ImageKind). Has x v) (sym (same_value k t.0.kind t.0.is)) t.0.has in
      gives_it (Onward (v ∷ v ∷ vs)) (refl, (h, (h, t.1)))

  pop_it : (ks : List ImageKind) (stack : List Val) → Takes w (Anything ∷ []) ks stack
      → Holds G Move (Lands w op.Pop (drop 1 ks)) (on_top stack (λ v rest s1. gives (Onward rest) s1))
  pop_it ks stack t =
      one_off w G (λ ls. Lands w op.Pop ls) Anything ks stack (λ v rest s1. gives (Onward rest) s1) t
      (λ v ls rest c fit. gives_it (Onward rest) (refl, fit))

  moment_it : Holds G Val (Has long) read_moment
  moment_it = record { holds = λ s g. (g, (refl, g.fitting.moment)) }

  -- ---- all of them

  -- what is known where an instruction stands
  pub record Stood (m : ImageMethod) (shape : Shape) (i : Op) (stack : List Val) : Type 0 where
    pub spelled : IsOp i
    pub numbers : number_missing w.image m i ≡ false
    pub fields : field_missing w.image shape.stack i ≡ false
    pub cells : Takes w (needs w.image shape i) shape.stack stack
    pub many : length shape.locals ≡ length m.locals
    pub fit_locals : Fit w shape.locals locals
    pub fit_stack : Fit w shape.stack stack

  pub straight : (m : ImageMethod) (shape : Shape) (i : Op) (stack : List Val) → is_straight i ≡ true
      → Stood m shape i stack
      → Holds G Move (Lands w i (after_stack w.image (wants_of w.image shape.locals i) shape.stack)) (effect w i stack)
  straight m shape (op.Int n) stack st h =
      gives_it (Onward (Int n ∷ stack)) (refl, ((refl, h.spelled.fits), h.fit_stack))
  straight m shape (op.Long n) stack st h =
      gives_it (Onward (Long n ∷ stack)) (refl, ((refl, h.spelled.fits), h.fit_stack))
  straight m shape (op.Bool t) stack st h =
      gives_it (Onward (Truth t ∷ stack)) (refl, ((refl, h.spelled.spelled), h.fit_stack))
  straight m shape op.Null stack st h =
      gives_it (Onward (Null ∷ stack)) (refl, ((omega arith, omega arith), h.fit_stack))
  straight m shape (op.Text n) stack st h =
      text_it n shape.stack stack
      (ltb-true n (length w.image.texts) (not_not (nat_lt n (length w.image.texts)) h.numbers)) h.fit_stack
  straight m shape op.Statics stack st h =
      gives_it (Onward (At (record { base = Statics; path = [] }) ∷ stack)) (refl, (Block refl refl refl, h.fit_stack))
  straight m shape (op.Load i) stack st h =
      load_it m shape i stack (ltb-true i (length m.locals) (not_not (nat_lt i (length m.locals)) h.numbers)) h.many
      h.fit_locals h.fit_stack
  straight m shape (op.Store i) stack st h =
      no_truth st
  straight m shape op.Dup stack st h =
      dup_it shape.stack stack h.cells
  straight m shape op.Pop stack st h =
      pop_it shape.stack stack h.cells
  straight m shape op.IntAdd stack st h =
      two_it (binary.Arithmetic Add width.Int) kind.Int kind.Int tt tt tt (refl, refl) op.IntAdd shape.stack stack refl
      h.cells
  straight m shape op.IntSub stack st h =
      two_it (binary.Arithmetic Subtract width.Int) kind.Int kind.Int tt tt tt
      (refl, refl) op.IntSub shape.stack stack refl
      h.cells
  straight m shape op.IntMul stack st h =
      two_it (binary.Arithmetic Multiply width.Int) kind.Int kind.Int tt tt tt
      (refl, refl) op.IntMul shape.stack stack refl
      h.cells
  straight m shape op.IntDiv stack st h =
      two_it (binary.Arithmetic Divide width.Int) kind.Int kind.Int tt tt tt
      (refl, refl) op.IntDiv shape.stack stack refl
      h.cells
  straight m shape op.IntRem stack st h =
      two_it (binary.Arithmetic Remainder width.Int) kind.Int kind.Int tt tt tt
      (refl, refl) op.IntRem shape.stack stack refl
      h.cells
  straight m shape op.IntAnd stack st h =
      two_it (binary.Arithmetic BitAnd width.Int) kind.Int kind.Int tt tt tt
      (refl, refl) op.IntAnd shape.stack stack refl
      h.cells
  straight m shape op.IntOr stack st h =
      two_it (binary.Arithmetic BitOr width.Int) kind.Int kind.Int tt tt tt (refl, refl) op.IntOr shape.stack stack refl
      h.cells
  straight m shape op.IntXor stack st h =
      two_it (binary.Arithmetic BitXor width.Int) kind.Int kind.Int tt tt tt
      (refl, refl) op.IntXor shape.stack stack refl
      h.cells
  straight m shape op.IntShl stack st h =
      two_it (binary.Arithmetic ShiftLeft width.Int) kind.Int kind.Int tt tt tt
      (refl, refl) op.IntShl shape.stack stack refl
      h.cells
  straight m shape op.IntShr stack st h =
      two_it (binary.Arithmetic ShiftRight width.Int) kind.Int kind.Int tt tt tt
      (refl, refl) op.IntShr shape.stack stack refl
      h.cells
  straight m shape op.IntNeg stack st h =
      one_it (unary.Negate width.Int) tt tt op.IntNeg shape.stack stack refl h.cells
  straight m shape op.IntNot stack st h =
      one_it (unary.Flip width.Int) tt tt op.IntNot shape.stack stack refl h.cells
  straight m shape op.LongAdd stack st h =
      two_it (binary.Arithmetic Add width.Long) kind.Long kind.Long tt tt tt
      (refl, refl) op.LongAdd shape.stack stack refl
      h.cells
  straight m shape op.LongSub stack st h =
      two_it (binary.Arithmetic Subtract width.Long) kind.Long kind.Long tt tt tt
      (refl, refl) op.LongSub shape.stack stack refl
      h.cells
  straight m shape op.LongMul stack st h =
      two_it (binary.Arithmetic Multiply width.Long) kind.Long kind.Long tt tt tt
      (refl, refl) op.LongMul shape.stack stack refl
      h.cells
  straight m shape op.LongDiv stack st h =
      two_it (binary.Arithmetic Divide width.Long) kind.Long kind.Long tt tt tt
      (refl, refl) op.LongDiv shape.stack stack refl
      h.cells
  straight m shape op.LongRem stack st h =
      two_it (binary.Arithmetic Remainder width.Long) kind.Long kind.Long tt tt tt
      (refl, refl) op.LongRem shape.stack stack refl
      h.cells
  straight m shape op.LongAnd stack st h =
      two_it (binary.Arithmetic BitAnd width.Long) kind.Long kind.Long tt tt tt
      (refl, refl) op.LongAnd shape.stack stack refl
      h.cells
  straight m shape op.LongOr stack st h =
      two_it (binary.Arithmetic BitOr width.Long) kind.Long kind.Long tt tt tt
      (refl, refl) op.LongOr shape.stack stack refl
      h.cells
  straight m shape op.LongXor stack st h =
      two_it (binary.Arithmetic BitXor width.Long) kind.Long kind.Long tt tt tt
      (refl, refl) op.LongXor shape.stack stack refl
      h.cells
  straight m shape op.LongShl stack st h =
      two_it (binary.Arithmetic ShiftLeft width.Long) kind.Long kind.Int tt tt tt
      (refl, refl) op.LongShl shape.stack stack refl
      h.cells
  straight m shape op.LongShr stack st h =
      two_it (binary.Arithmetic ShiftRight width.Long) kind.Long kind.Int tt tt tt
      (refl, refl) op.LongShr shape.stack stack refl
      h.cells
  straight m shape op.LongNeg stack st h =
      one_it (unary.Negate width.Long) tt tt op.LongNeg shape.stack stack refl h.cells
  straight m shape op.LongNot stack st h =
      one_it (unary.Flip width.Long) tt tt op.LongNot shape.stack stack refl h.cells
  straight m shape op.IntEq stack st h =
      two_it (binary.Compare Equal width.Int) kind.Int kind.Int tt tt tt (refl, refl) op.IntEq shape.stack stack refl
      h.cells
  straight m shape op.IntNe stack st h =
      two_it (binary.Compare NotEqual width.Int) kind.Int kind.Int tt tt tt (refl, refl) op.IntNe shape.stack stack refl
      h.cells
  straight m shape op.IntLt stack st h =
      two_it (binary.Compare Less width.Int) kind.Int kind.Int tt tt tt (refl, refl) op.IntLt shape.stack stack refl
      h.cells
  straight m shape op.IntLe stack st h =
      two_it (binary.Compare LessOrEqual width.Int) kind.Int kind.Int tt tt tt
      (refl, refl) op.IntLe shape.stack stack refl
      h.cells
  straight m shape op.IntGt stack st h =
      two_it (binary.Compare Greater width.Int) kind.Int kind.Int tt tt tt (refl, refl) op.IntGt shape.stack stack refl
      h.cells
  straight m shape op.IntGe stack st h =
      two_it (binary.Compare GreaterOrEqual width.Int) kind.Int kind.Int tt tt tt
      (refl, refl) op.IntGe shape.stack stack refl
      h.cells
  straight m shape op.LongEq stack st h =
      two_it (binary.Compare Equal width.Long) kind.Long kind.Long tt tt tt
      (refl, refl) op.LongEq shape.stack stack refl
      h.cells
  straight m shape op.LongNe stack st h =
      two_it (binary.Compare NotEqual width.Long) kind.Long kind.Long tt tt tt
      (refl, refl) op.LongNe shape.stack stack refl
      h.cells
  straight m shape op.LongLt stack st h =
      two_it (binary.Compare Less width.Long) kind.Long kind.Long tt tt tt (refl, refl) op.LongLt shape.stack stack refl
      h.cells
  straight m shape op.LongLe stack st h =
      two_it (binary.Compare LessOrEqual width.Long) kind.Long kind.Long tt tt tt
      (refl, refl) op.LongLe shape.stack stack refl
      h.cells
  straight m shape op.LongGt stack st h =
      two_it (binary.Compare Greater width.Long) kind.Long kind.Long tt tt tt
      (refl, refl) op.LongGt shape.stack stack refl
      h.cells
  straight m shape op.LongGe stack st h =
      two_it (binary.Compare GreaterOrEqual width.Long) kind.Long kind.Long tt tt tt
      (refl, refl) op.LongGe shape.stack stack refl
      h.cells
  straight m shape op.BoolEq stack st h =
      two_it binary.SameTruth kind.Bool kind.Bool tt tt tt (refl, refl) op.BoolEq shape.stack stack refl h.cells
  straight m shape op.BoolNe stack st h =
      two_it binary.OtherTruth kind.Bool kind.Bool tt tt tt (refl, refl) op.BoolNe shape.stack stack refl h.cells
  straight m shape op.RefEq stack st h =
      same_it binary.SameReference truth (truth_is w) (λ a b. refl) op.RefEq shape.stack stack refl h.cells
  straight m shape op.RefNe stack st h =
      same_it binary.OtherReference (λ same. truth (not same)) (λ b. truth_is w (not b)) (λ a b. refl) op.RefNe
      shape.stack stack refl h.cells
  straight m shape op.IntToLong stack st h =
      one_it unary.ToLong tt tt op.IntToLong shape.stack stack refl h.cells
  straight m shape op.LongToInt stack st h =
      one_it unary.ToInt tt tt op.LongToInt shape.stack stack refl h.cells
  straight m shape op.Not stack st h =
      one_it unary.Not tt tt op.Not shape.stack stack refl h.cells
  straight m shape op.IntToByte stack st h =
      one_it (unary.LowByte width.Int) tt tt op.IntToByte shape.stack stack refl h.cells
  straight m shape op.IntToShort stack st h =
      one_it (unary.LowShort width.Int) tt tt op.IntToShort shape.stack stack refl h.cells
  straight m shape (op.Jump to) stack st h =
      gives_it (Goto to stack) (refl, h.fit_stack)
  straight m shape (op.JumpFalse to) stack st h =
      false_it to shape.stack stack h.cells
  straight m shape (op.JumpTrue to) stack st h =
      true_it to shape.stack stack h.cells
  straight m shape op.Turn stack st h =
      no_truth st
  straight m shape (op.GetBool offset) stack st h =
      objects.get_it w is own given turns locals prim.Bool offset (op.GetBool offset) shape.stack stack refl h.cells
      h.fields
  straight m shape (op.GetByte offset) stack st h =
      objects.get_it w is own given turns locals prim.Byte offset (op.GetByte offset) shape.stack stack refl h.cells
      h.fields
  straight m shape (op.GetShort offset) stack st h =
      objects.get_it w is own given turns locals prim.Short offset (op.GetShort offset) shape.stack stack refl h.cells
      h.fields
  straight m shape (op.GetInt offset) stack st h =
      objects.get_it w is own given turns locals prim.Int offset (op.GetInt offset) shape.stack stack refl h.cells
      h.fields
  straight m shape (op.GetLong offset) stack st h =
      objects.get_it w is own given turns locals prim.Long offset (op.GetLong offset) shape.stack stack refl h.cells
      h.fields
  straight m shape (op.PutBool offset) stack st h =
      objects.put_it w is own given turns locals prim.Bool offset (op.PutBool offset) shape.stack stack refl h.cells
      h.fields
  straight m shape (op.PutByte offset) stack st h =
      objects.put_it w is own given turns locals prim.Byte offset (op.PutByte offset) shape.stack stack refl h.cells
      h.fields
  straight m shape (op.PutShort offset) stack st h =
      objects.put_it w is own given turns locals prim.Short offset (op.PutShort offset) shape.stack stack refl h.cells
      h.fields
  straight m shape (op.PutInt offset) stack st h =
      objects.put_it w is own given turns locals prim.Int offset (op.PutInt offset) shape.stack stack refl h.cells
      h.fields
  straight m shape (op.PutLong offset) stack st h =
      objects.put_it w is own given turns locals prim.Long offset (op.PutLong offset) shape.stack stack refl h.cells
      h.fields
  straight m shape (op.Inner offset class) stack st h =
      objects.inner_it w is own given turns locals offset class (op.Inner offset class) shape.stack stack refl h.cells
      h.fields
  straight m shape (op.Str offset size) stack st h =
      objects.str_it w is own given turns locals offset size
      (op.Str offset size) shape.stack stack refl h.cells h.fields
  straight m shape (op.BufSize offset) stack st h =
      objects.buf_size_it w is own given turns locals offset (op.BufSize offset) shape.stack stack refl h.cells h.fields
  straight m shape (op.BufGet offset capacity) stack st h =
      objects.buf_get_it w is own given turns locals offset capacity (op.BufGet offset capacity) shape.stack stack refl
      h.cells h.fields
  straight m shape (op.ArrayGetBool offset count) stack st h =
      objects.array_get_it w is own given turns locals prim.Bool offset count (op.ArrayGetBool offset count)
      shape.stack stack refl h.cells h.fields
  straight m shape (op.ArrayGetByte offset count) stack st h =
      objects.array_get_it w is own given turns locals prim.Byte offset count (op.ArrayGetByte offset count)
      shape.stack stack refl h.cells h.fields
  straight m shape (op.ArrayGetShort offset count) stack st h =
      objects.array_get_it w is own given turns locals prim.Short offset count (op.ArrayGetShort offset count)
      shape.stack stack refl h.cells h.fields
  straight m shape (op.ArrayGetInt offset count) stack st h =
      objects.array_get_it w is own given turns locals prim.Int offset count (op.ArrayGetInt offset count)
      shape.stack stack refl h.cells h.fields
  straight m shape (op.ArrayGetLong offset count) stack st h =
      objects.array_get_it w is own given turns locals prim.Long offset count (op.ArrayGetLong offset count)
      shape.stack stack refl h.cells h.fields
  straight m shape (op.ArrayPutBool offset count) stack st h =
      objects.array_put_it w is own given turns locals prim.Bool offset count (op.ArrayPutBool offset count)
      shape.stack stack refl h.cells h.fields
  straight m shape (op.ArrayPutByte offset count) stack st h =
      objects.array_put_it w is own given turns locals prim.Byte offset count (op.ArrayPutByte offset count)
      shape.stack stack refl h.cells h.fields
  straight m shape (op.ArrayPutShort offset count) stack st h =
      objects.array_put_it w is own given turns locals prim.Short offset count (op.ArrayPutShort offset count)
      shape.stack stack refl h.cells h.fields
  straight m shape (op.ArrayPutInt offset count) stack st h =
      objects.array_put_it w is own given turns locals prim.Int offset count (op.ArrayPutInt offset count)
      shape.stack stack refl h.cells h.fields
  straight m shape (op.ArrayPutLong offset count) stack st h =
      objects.array_put_it w is own given turns locals prim.Long offset count (op.ArrayPutLong offset count)
      shape.stack stack refl h.cells h.fields
  straight m shape (op.Call number) stack st h =
      no_truth st
  straight m shape (op.VirtualCall class place) stack st h =
      no_truth st
  straight m shape op.Return stack st h =
      no_truth st
  straight m shape op.ReturnValue stack st h =
      no_truth st
  straight m shape op.Ticks stack st h =
      push_it w G op.Ticks long shape.stack stack read_moment refl h.fit_stack moment_it
  straight m shape op.StrLen stack st h =
      strs.length_it w is own given turns locals op.StrLen shape.stack stack refl h.cells
  straight m shape op.StrGet stack st h =
      strs.get_it w is own given turns locals op.StrGet shape.stack stack refl h.cells
  straight m shape op.StrSet stack st h =
      strs.set_it w is own given turns locals op.StrSet shape.stack stack refl h.cells
  straight m shape op.StrEq stack st h =
      strs.equal_it w is own given turns locals op.StrEq shape.stack stack refl h.cells
  straight m shape op.StrCopy stack st h =
      strs.copy_it w is own given turns locals op.StrCopy shape.stack stack refl h.cells
