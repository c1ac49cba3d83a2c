-- What is kept goes on to be what may be kept.
use Rattle.std.proofs.Common.{◌≡◌, ℕ, ℤ, zero, suc, ◌+◌, ◌-◌, ◌≤◌, ◌<◌, List, [], ◌∷◌, inl, inr, length, refl, sym, ◌∙◌, ap, subst, arith}
use Rattle.std.specs.Prelude.{Option, Some, None, IfSome, IsTrue, slice_get, nat_lt, if◌then◌else◌, true, false, Bool, not, ◌&&◌, is_some}
use Rattle.std.specs.Option.{option_map_or}
use Rattle.std.specs.FinMap as finite
use Rattle.std.proofs.lemmas.Bool.{cases_eq, cases_lt, lt-ltb}
use Rattle.std.proofs.lemmas.Bool.Decides.{nat_tests}
use Rattle.std.proofs.lemmas.Option.{slice_get_within}
use Rattle.std.specs.Int.{w64}
use Rattle.sed_value.specs.Value.{is_signed}
use Rattle.sed_value.specs.declared.value.Value.{Value}
use Rattle.sed_typed.specs.declared.program.FieldForm.TheVariants.{Object as Inline}
use Rattle.sed_typed.specs.declared.schema.ClassInfo.{ClassInfo}
use Rattle.sed_typed.specs.declared.program.Program.{Program}
use Rattle.sed_typed.specs.Contents.{Contents}
use Rattle.sed_typed.specs.Initial.{initial, initial_statics}
use Rattle.sed_engine.specs.declared.call.Root.{Root}
use Rattle.sed_engine.specs.Asked.{MayAsk}
use Rattle.sed_engine.specs.Code.{Meaning, Object, asked_of, data_of, is_creatable, may_call}
use Rattle.sed_engine.specs.Fits.{Fits}
use Rattle.sed_engine.specs.Program.{code_of, meaning_of}
use Rattle.sed_engine.specs.Whole.{HasTables, IsObject}
use Rattle.sed_cells.specs.declared.layout.Stands.TheVariants.{Statics, Part}
use Rattle.sed_cells.specs.Places.{first_at, first_of}
use Rattle.sed_engine.proofs.Asking.{may_then}
use Rattle.sed_walker.specs.Held.{Held, IsHeld}
use Rattle.sed_value.proofs.Maps.{get_put, get_beside, taken_out, kept_beside, total_more, total_over, total_less}

-- ---- classes

is_class : (m : Meaning) (class : ℕ) → IsTrue (is_creatable m class) → class < length m.schema.classes
is_class m class h = go (slice_get m.schema.classes class) refl h
  where
    go : (o : Option ClassInfo) → slice_get m.schema.classes class ≡ o → option_map_or (λ c. c.is_component && not c.is_abstract) o false ≡ true → class < length m.schema.classes
    go None is h = absurd (let never : false ≡ true = h in cc)
    go (Some c) is h = slice_get_within m.schema.classes class c is

pub object_class : (m : Meaning) (o : Object) → IsObject m o → o.class < length m.schema.classes
object_class m o is = is_class m o.class is.creatable

pub creatable_class : (m : Meaning) (class : ℕ) → IsTrue (is_creatable m class) → class < length m.schema.classes
creatable_class m class h = is_class m class h

-- the data size is what the schema says
pub size-is : (m : Meaning) → HasTables m → (class : ℕ) → m.data_size class ≡ option_map_or (λ (c : ClassInfo). c.size) (slice_get m.schema.classes class) 0
size-is m tables class = go (slice_get m.schema.classes class) refl (tables.sizes class)
  where
    within : {A : Type 0} (xs : List A) (k : ℕ) → k < length xs → slice_get xs k ≡ None → ⊥
    within [] k lt e = omega arith
    within (x ∷ xs) zero lt e = let never = ap is_some e in cc
    within (x ∷ xs) (suc k) lt e = within xs k (omega arith) e

    past : slice_get m.schema.classes class ≡ None → length m.schema.classes ≤ class
    past is = elim (cases_lt class (length m.schema.classes)) [
      | inl lt ↦ absurd (within (m.schema.classes) class lt is)
      | inr le ↦ le
    ]

    go : (o : Option ClassInfo) → slice_get m.schema.classes class ≡ o → IfSome o (λ c. m.data_size class ≡ c.size) → m.data_size class ≡ option_map_or (λ (c : ClassInfo). c.size) o 0
    go (Some c) is h = h
    go None is h = (tables.beyond class (past is)).size

-- ---- first contents

pub first-class : (program : Program) (class : ℕ) → class < length program.schema.classes → first_at program class ≡ initial program class
first-class program class lt = go (nat_lt class (length program.schema.classes)) (lt-ltb class (length program.schema.classes) lt)
  where
    go : (b : Bool) → b ≡ true → first_of program (if b then Part (Inline (record { 0 = class })) else Statics) ≡ initial program class
    go true e = refl
    go false e = absurd (let never : false ≡ true = e in cc)

pub first-statics : (program : Program) → first_at program (length program.schema.classes) ≡ initial_statics program
first-statics program = go (nat_lt (length program.schema.classes) (length program.schema.classes)) (grind (arith, nat_tests))
  where
    go : (b : Bool) → b ≡ false → first_of program (if b then Part (Inline (record { 0 = length program.schema.classes })) else Statics) ≡ initial_statics program
    go false e = refl
    go true e = absurd (let never : true ≡ false = e in cc)

-- ---- changes

module _ (h : Held) (used : ℕ) (is : IsHeld h used) where
  size_of : Object → ℕ
  size_of o = (meaning_of h.program).data_size o.class

  -- the object under a key
  pub object_at : (k : ℕ) (o : Object) → finite.get h.live k ≡ Some o → IsObject (meaning_of h.program) o
  object_at k o at = subst (λ (r : Option Object). IfSome r (IsObject (meaning_of h.program))) at (is.objects k)

  objects_put : (k : ℕ) (o : Object) → IsObject (meaning_of h.program) o → (q : ℕ) → IfSome (finite.get (finite.insert h.live k o) q) (IsObject (meaning_of h.program))
  objects_put k o object q = elim (cases_eq q k) [
    | inl e ↦ subst (λ (r : Option Object). IfSome r (IsObject (meaning_of h.program))) (sym (ap (finite.get (finite.insert h.live k o)) e ∙ get_put h.live k o)) object
    | inr ne ↦ subst (λ (r : Option Object). IfSome r (IsObject (meaning_of h.program))) (sym (get_beside h.live k o q ne)) (is.objects q)
  ]

  objects_out : (k : ℕ) (q : ℕ) → IfSome (finite.get (finite.remove h.live k) q) (IsObject (meaning_of h.program))
  objects_out k q = elim (cases_eq q k) [
    | inl e ↦ subst (λ (r : Option Object). IfSome r (IsObject (meaning_of h.program))) (sym (ap (finite.get (finite.remove h.live k)) e ∙ taken_out h.live k)) tt
    | inr ne ↦ subst (λ (r : Option Object). IfSome r (IsObject (meaning_of h.program))) (sym (kept_beside h.live k q ne)) (is.objects q)
  ]

  -- one more object
  pub held-more : (k : ℕ) (o : Object) (size : ℕ) → IsObject (meaning_of h.program) o → finite.get h.live k ≡ None → size ≡ (meaning_of h.program).data_size o.class → used + size ≤ h.limit
      → IsHeld (record h { live = finite.insert h.live k o }) (used + size)
  unfolding size_of
  held-more k o size object none same fits = record {
    whole = is.whole;
    told = is.told;
    objects = objects_put k o object;
    statics = is.statics;
    counted = ap (λ n. n + size) is.counted ∙ ap (λ n. data_of (meaning_of h.program) h.live + n) same ∙ sym (total_more size_of h.live k o none);
    within = fits;
  }

  -- one less
  pub held-less : (k : ℕ) (o : Object) (size : ℕ) → finite.get h.live k ≡ Some o → size ≡ (meaning_of h.program).data_size o.class
      → (size ≤ used) × IsHeld (record h { live = finite.remove h.live k }) (used - size)
  unfolding size_of
  held-less k o size at same =
      let less : data_of (meaning_of h.program) (finite.remove h.live k) + (meaning_of h.program).data_size o.class ≡ data_of (meaning_of h.program) h.live = total_less size_of h.live k o at in
      let counted = is.counted in
      let within = is.within in (
        omega arith,
        record {
          whole = is.whole;
          told = is.told;
          objects = objects_out k;
          statics = is.statics;
          counted = omega arith;
          within = omega arith;
        },
      )

  -- another object of its class in the place of one, and other statics
  pub held-over : (k : ℕ) (o n : Object) (statics : Contents) → finite.get h.live k ≡ Some o → IsObject (meaning_of h.program) n → o.class ≡ n.class
      → Fits (meaning_of h.program).fields (meaning_of h.program).static_fields (meaning_of h.program).initial_statics statics
      → IsHeld (record h { live = finite.insert h.live k n; statics = statics }) used
  unfolding size_of
  held-over k o n statics at object same fits = record {
    whole = is.whole;
    told = is.told;
    objects = objects_put k n object;
    statics = fits;
    counted = is.counted ∙ sym (total_over size_of h.live k o n at (ap (meaning_of h.program).data_size same));
    within = is.within;
  }

  -- a root call may be asked
  pub may-ask : (k : ℕ) (o : Object) (which : Root) (argument : Value) (turns : ℕ) (moment : ℤ) → finite.get h.live k ≡ Some o → IsTrue (may_call (meaning_of h.program) o.class which argument)
      → 1 ≤ turns → turns ≤ 1000000 → IsTrue (is_signed w64 moment) → MayAsk (code_of h.program) (asked_of o h.statics which argument turns moment)
  may-ask k o which argument turns moment at may some most long =
      let object : IsObject (meaning_of h.program) o = object_at k o at in
      may_then (code_of h.program) (asked_of o h.statics which argument turns moment) (record {
        creatable = object.creatable;
        contents = object.fits;
        statics = is.statics;
        argument = may;
        some_turns = some;
        most_turns = most;
        moment = long;
      })
