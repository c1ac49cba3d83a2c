-- A code that is whole though two slots name one field, codes that are nearly whole, and what a masked code answers.
use Rattle.std.proofs.Common.{◌≡◌, ◌≤◌, ◌<◌, ◌==◌, ◌&&◌, ℕ, zero, suc, pos, Bool, true, false, if◌then◌else◌, List, [], ◌∷◌, Option, Some, None, codes, refl, sym, ap, subst, ◌∙◌, lit<, lit≤, arith}
use Rattle.std.specs.Prelude.{IfSome, IsSome, IsSomeAnd}
use Rattle.std.specs.Option.{option_map_or}
use Rattle.std.specs.Int.{int_wrap}
use Rattle.std.proofs.lemmas.Bool.{and_parts, eqb-true}
use Rattle.sed_value.specs.Value.{is_of_type}
use Rattle.sed_value.specs.declared.slot_type.SlotType.TheVariants as slot
use Rattle.sed_value.specs.declared.value.Value.TheVariants as kept
use Rattle.sed_typed.specs.declared.schema.ClassInfo.{ClassInfo}
use Rattle.sed_typed.specs.declared.schema.SlotForm.TheVariants.{Prop}
use Rattle.sed_typed.specs.declared.schema.SlotInfo.{SlotInfo}
use Rattle.sed_typed.specs.Classes.{base_of}
use Rattle.sed_typed.specs.Contents.{Shape, value_at}
use Rattle.sed_typed.specs.SysTypes.{meta_slot}
use Rattle.sed_engine.specs.declared.call.CallEnd.{CallEnd}
use Rattle.sed_engine.specs.declared.call.CallEnd.TheVariants.{Done, Trap}
use Rattle.sed_engine.specs.Asked.{MayAsk, may_ask, masked, unasked}
use Rattle.sed_engine.specs.Code.{Meaning, Question, slot_type, slot_value, with_slot, new_object}
use Rattle.sed_engine.specs.Fits.{form_at}
use Rattle.sed_engine.specs.Program.{code_of, meaning_of}
use Rattle.sed_engine.specs.Root.{calls_with}
use Rattle.sed_engine.specs.Whole.{AnswersWell, EndsWell, FollowsBase, HasTables, IsWhole, SaysNothing, field_form}
use Rattle.sed_engine.proofs.Asking.{Asked, may_from, may_then}
use Rattle.sed_engine.proofs.Building.{Pointer}
use Rattle.sed_engine.proofs.MaskedCodes.{masked_whole}
use Rattle.sed_engine.proofs.Ramp.{ramp_class, int_slot, ramp, sys_kit}
use Rattle.sed_engine.proofs.RampTyped.{new_ramp, ramp_asked, ramp_is_typed}
use Rattle.sed_engine.proofs.TypedCodes.{answers_of, tables_of}

-- ---- two slots name one field

-- the field of each slot of the ramp, but that of `out`, slot 2 of class 5, is that of `step`, 1
abbrev named : Pointer → ℕ → ℕ → Option ℕ
named p class n = if (class == 5) && (n == 2) then Some 1 else (code_of (ramp p)).slot_field class n

abbrev twice_named : Pointer → Meaning
twice_named p = record (code_of (ramp p)) { slot_field = named p }

-- what holds of the ramp's own field, and of 1 at that slot, holds of the field that is named
either : (p : Pointer) (P : Option ℕ → Type 0) (class n : ℕ) → P ((code_of (ramp p)).slot_field class n) → (class ≡ 5 → n ≡ 2 → P (Some 1)) → P (named p class n)
either p P class n own here = go ((class == 5) && (n == 2)) refl
  where
    go : (b : Bool) → ((class == 5) && (n == 2)) ≡ b → P (if b then Some 1 else (code_of (ramp p)).slot_field class n)
    go true e = let both = and_parts (class == 5) (n == 2) e in here (eqb-true class 5 both.0) (eqb-true n 2 both.1)
    go false e = own

no_base_5 : (p : Pointer) (class : ℕ) → base_of (ramp p).schema.classes class ≡ Some 5 → ⊥
no_base_5 p zero e = let never : ⊥ = cc in never
no_base_5 p (suc zero) e = let never : ⊥ = cc in never
no_base_5 p (suc (suc zero)) e = let never : ⊥ = cc in never
no_base_5 p (suc (suc (suc zero))) e = let never : ⊥ = cc in never
no_base_5 p (suc (suc (suc (suc zero)))) e = let never : ⊥ = cc in never
no_base_5 p (suc (suc (suc (suc (suc zero))))) e = let never : ⊥ = cc in never
no_base_5 p (suc (suc (suc (suc (suc (suc class)))))) e = let never : ⊥ = cc in never

some_is : (x y : ℕ) → Some x ≡ Some y → x ≡ y
some_is x y e = cc

-- the slot of a base is none at class 5's slot 2, so nothing is asked of it there
base_slot : (p : Pointer) (class base n : ℕ) → base_of (ramp p).schema.classes class ≡ Some base → IfSome ((code_of (ramp p)).slot_field base n) (λ i. (code_of (ramp p)).slot_field class n ≡ Some i) →
    IfSome (named p base n) (λ i. named p class n ≡ Some i)
base_slot p class base n e own =
    either p (λ o. IfSome o (λ i. named p class n ≡ Some i)) base n
    (either p (λ o. IfSome ((code_of (ramp p)).slot_field base n) (λ i. o ≡ Some i)) class n own inherits)
    (λ is at. absurd (no_base_5 p class (e ∙ ap (λ (b : ℕ). Some b) is)))
  where
    inherits : class ≡ 5 → n ≡ 2 → IfSome ((code_of (ramp p)).slot_field base n) (λ i. Some 1 ≡ Some i)
    inherits is at =
        let base_is : 2 ≡ base = some_is 2 base (ap (base_of (ramp p).schema.classes) (sym is) ∙ e) in
        subst (λ (b : ℕ). IfSome ((code_of (ramp p)).slot_field b n) (λ i. Some 1 ≡ Some i)) base_is
        (subst (λ (k : ℕ). IfSome ((code_of (ramp p)).slot_field 2 k) (λ i. Some 1 ≡ Some i)) (sym at) tt)

none_there : (p : Pointer) (class n : ℕ) → slot_type (code_of (ramp p)) class n ≡ None → class ≡ 5 → n ≡ 2 → ◌≡◌ {A = Option ℕ} (Some 1) None
none_there p class n none is at =
    let here : slot_type (code_of (ramp p)) 5 2 ≡ None = subst (λ (k : ℕ). slot_type (code_of (ramp p)) 5 k ≡ None) at (subst (λ (c : ℕ). slot_type (code_of (ramp p)) c n ≡ None) is none) in
    let never : ⊥ = cc in
    absurd never

twice_tables : (p : Pointer) → HasTables (twice_named p)
twice_tables p =
    let t : HasTables (code_of (ramp p)) = tables_of (ramp p) (ramp_is_typed p) in
    record {
      limits = t.limits;
      names = t.names;
      components = t.components;
      bases = λ class base e.
          let f : FollowsBase (code_of (ramp p)) class base = t.bases class base e in
          record { before = f.before; slots = f.slots; fields = f.fields; slot_fields = λ n. base_slot p class base n e (f.slot_fields n) };
      sizes = t.sizes;
      slot_fields = λ class n.
          let P : ℕ → ℕ → Option ℕ → Type 0 = λ class n o. IfSome (slot_type (code_of (ramp p)) class n) (λ t. IsSomeAnd o (λ i. form_at ((code_of (ramp p)).fields class) i ≡ Some (field_form t))) in
          either p (P class n) class n (t.slot_fields class n) (λ is at. subst (λ (c : ℕ). P c n (Some 1)) (sym is) (subst (λ (k : ℕ). P 5 k (Some 1)) (sym at) refl));
      no_fields = λ class n none. either p (λ o. o ≡ None) class n (t.no_fields class n none) (none_there p class n none);
      values = λ class n.
          let P : ℕ → ℕ → Option ℕ → Type 0 = λ class n o. IfSome (slot_type (code_of (ramp p)) class n) (λ t. IsSome (value_at ((code_of (ramp p)).initial class) (option_map_or (λ i. i ∷ []) o []))) in
          either p (P class n) class n (t.values class n) (λ is at. subst (λ (c : ℕ). P c n (Some 1)) (sym is) (subst (λ (k : ℕ). P 5 k (Some 1)) (sym at) refl));
      first = t.first;
      first_statics = t.first_statics;
      beyond = λ class h. let n : SaysNothing (code_of (ramp p)) class = t.beyond class h in record { fields = n.fields; initial = n.initial; size = n.size };
    }

twice_answers : (p : Pointer) (q : Question) → MayAsk (twice_named p) q → AnswersWell (twice_named p) q
twice_answers p q h =
    let b : Asked (twice_named p) q = may_from (twice_named p) q h in
    let a : AnswersWell (code_of (ramp p)) q =
    answers_of (ramp p) (ramp_is_typed p) q
    (may_then (code_of (ramp p)) q (record { creatable = b.creatable; contents = b.contents; statics = b.statics; argument = b.argument; some_turns = b.some_turns; most_turns = b.most_turns; moment = b.moment })) in
    record { contents = a.contents; statics = a.statics; end = a.end }

pub twice_is_whole : (p : Pointer) → IsWhole (masked (twice_named p))
twice_is_whole p = masked_whole (twice_named p) (twice_answers p) (twice_tables p)

-- what is stored in the one slot is read from the other
stored_twice : (p : Pointer) → slot_value (twice_named p) (with_slot (twice_named p) (new_object (twice_named p) 5) 1 (kept.Int (pos 7))) 2 ≡ kept.Int (pos 7)
stored_twice p = refl

-- ---- codes that are nearly whole

with_classes : List ClassInfo → Pointer → Meaning
with_classes classes p = record (meaning_of (ramp p)) { schema = record { kits = (ramp p).schema.kits; classes = classes } }

-- a number of a kit twice
number_twice : (p : Pointer) → IsWhole (with_classes (ramp_class 2 ∷ record (ramp_class 2) { name = codes "Other" } ∷ []) p) → ⊥
unfolding with_classes
number_twice p whole = let once : 2 ≤ 1 = whole.tables.names.once 1 0 in omega (arith, once)

-- a class of a kit that is not there
unknown_kit : (p : Pointer) → IsWhole (with_classes (record (ramp_class 2) { kit = 7 } ∷ []) p) → ⊥
unfolding with_classes
unknown_kit p whole = let there : 7 < 2 = whole.tables.names.known 0 (ramp_class 2) (lit< tt) in omega (arith, there)

-- a first kit that is not `sys`
no_sys : (p : Pointer) → IsWhole (record (meaning_of (ramp p)) { schema = record { kits = []; classes = (ramp p).schema.classes } }) → ⊥
no_sys p whole = whole.tables.names.sys

-- a sixth type of kit 0
sixth_type : (p : Pointer) → IsWhole (with_classes (record (ramp_class 2) { kit = 0; number = 5 } ∷ sys_kit) p) → ⊥
unfolding with_classes
sixth_type p whole = let five : 6 ≡ 5 = whole.tables.names.types.five in omega (arith, five)

-- a Buf of 200 bytes
wide_buf : (p : Pointer) → IsWhole (with_classes (record (ramp_class 2) { slots = record { name = codes "b"; config = false; form = Prop (slot.Buf 200) } ∷ [] } ∷ []) p) → ⊥
unfolding with_classes
wide_buf p whole = let sizes : (1 ≤ 200) × (200 ≤ 128) = whole.tables.limits.bufs 0 (ramp_class 2) (lit< tt) 0 meta_slot (lit< tt) in let most : 200 ≤ 128 = sizes.1 in omega (arith, most)

-- a component that is said to be none, and one whose first slot is not `meta`
unmarked : (p : Pointer) → IsWhole (with_classes (record (ramp_class 3) { is_component = false } ∷ sys_kit) p) → ⊥
unfolding with_classes
unmarked p whole = let marked : false ≡ true = (whole.tables.components 0).marked in let never : ⊥ = cc in never

meta_later : (p : Pointer) → IsWhole (with_classes (record (ramp_class 3) { slots = int_slot (codes "out") false ∷ meta_slot ∷ [] } ∷ sys_kit) p) → ⊥
unfolding with_classes
meta_later p whole =
    let first : false ≡ true = ap (λ (o : Option SlotInfo). option_map_or (λ s. s.config) o true) ((whole.tables.components 0).meta refl) in
    let never : ⊥ = cc in
    never

-- a property without a field, an action with one, and a class that is none with a field
without_fields : (p : Pointer) → IsWhole (record (meaning_of (ramp p)) { slot_field = λ class n. None }) → ⊥
without_fields p whole = whole.tables.slot_fields 5 1

action_with_field : (p : Pointer) → IsWhole (record (meaning_of (ramp p)) { slot_field = λ class n. Some 0 }) → ⊥
action_with_field p whole = let none : ◌≡◌ {A = Option ℕ} (Some 0) None = whole.tables.no_fields 3 1 refl in let never : ⊥ = cc in never

field_beyond : (p : Pointer) → IsWhole (record (meaning_of (ramp p)) { fields = λ class. (meaning_of (ramp p)).fields 5 }) → ⊥
field_beyond p whole = let none : ◌≡◌ {A = List Shape} ((meaning_of (ramp p)).fields 5) [] = (whole.tables.beyond 6 (lit≤ tt)).fields in let never : ⊥ = cc in never

-- the ramp's code, but that each root call that may be asked ends so
ends_as : CallEnd → Pointer → Meaning
ends_as end p = record (code_of (ramp p)) { root = λ q. record ((code_of (ramp p)).root q) { end = end } }

well_of : (end : CallEnd) (p : Pointer) → IsWhole (masked (ends_as end p)) → EndsWell 10 end
unfolding ends_as may_ask
well_of end p whole =
    let a : Asked (meaning_of (ramp p)) (new_ramp p) = may_from (meaning_of (ramp p)) (new_ramp p) (ramp_asked p) in
    (whole.answers (new_ramp p)
    (may_then (masked (ends_as end p)) (new_ramp p) (record { creatable = a.creatable; contents = a.contents; statics = a.statics; argument = a.argument; some_turns = a.some_turns; most_turns = a.most_turns; moment = a.moment }))).end

-- a trap that there is not, and more turns left than the 10 that were given
by_trap_77 : (p : Pointer) → IsWhole (masked (ends_as (Trap 77) p)) → ⊥
by_trap_77 p whole = let most : 77 ≤ 5 = (well_of (Trap 77) p whole).1 in omega (arith, most)

leaves_11 : (p : Pointer) → IsWhole (masked (ends_as (Done 11) p)) → ⊥
leaves_11 p whole = let most : 11 ≤ 10 = well_of (Done 11) p whole in omega (arith, most)

-- ---- what is asked, and what is not

-- `out` is 1 after one `execute`, and no turn is taken
asked : (p : Pointer) → ((meaning_of (ramp p)).root (new_ramp p)).end ≡ Done 10
unfolding may_ask calls_with int_wrap
asked p = refl

-- no turn, a turn too many, an argument, and contents that do not fit
no_turn : (p : Pointer) → (meaning_of (ramp p)).root (record (new_ramp p) { turns = 0 }) ≡ unasked (record (new_ramp p) { turns = 0 })
unfolding may_ask
no_turn p = refl

-- as the program is defined, it would do without
no_turn_of_code : (p : Pointer) → ((code_of (ramp p)).root (record (new_ramp p) { turns = 0 })).end ≡ Done 0
unfolding calls_with int_wrap
no_turn_of_code p = refl

too_many_turns : (p : Pointer) → ((meaning_of (ramp p)).root (record (new_ramp p) { turns = 1000001 })).end ≡ Trap 0
unfolding may_ask
too_many_turns p = refl

with_argument : (p : Pointer) → ((meaning_of (ramp p)).root (record (new_ramp p) { argument = kept.Int (pos 1) })).end ≡ Trap 0
unfolding may_ask
with_argument p = refl

without_contents : (p : Pointer) → ((meaning_of (ramp p)).root (record (new_ramp p) { contents = [] })).end ≡ Trap 0
unfolding may_ask
without_contents p = refl

-- App may be made, Component may not
abstract_class : (p : Pointer) → ((meaning_of (ramp p)).root (record (new_ramp p) { class = 2; contents = (meaning_of (ramp p)).initial 2 })).end ≡ Trap 0
unfolding may_ask
abstract_class p = refl

-- ---- bytes

-- a Buf's numbers are bytes
wide_byte : is_of_type (slot.Buf 4) (kept.Buf (300 ∷ [])) ≡ false
wide_byte = refl

bytes : is_of_type (slot.Buf 4) (kept.Buf (255 ∷ 0 ∷ [])) ≡ true
bytes = refl
