-- What an `add` and then a `set` leave, over plain maps.
use Rattle.std.proofs.Common.{◌≡◌, ◌≢◌, ◌+◌, ◌<◌, ◌≤◌, ℕ, ℤ, Bool, true, false, cond, Option, Some, None, refl, sym, ap, subst, ◌∙◌, arith}
use Rattle.std.specs.Prelude.{IsTrue, IfSome, IsSomeAnd}
use Rattle.std.specs.FinMap as finite
use Rattle.std.specs.Option.{option_map_or}
use Rattle.std.specs.Ordering.{nat_cmp}
use Rattle.std.specs.Cmp.{nat_cmp_total}
use Rattle.std.specs.Int.{w64}
use Rattle.sed_value.specs.Value.{goes_to, is_signed}
use Rattle.sed_value.specs.declared.value.Value.{Value}
use Rattle.sed_value.specs.declared.slot_type.SlotType.{SlotType}
use Rattle.sed_engine.proofs.Asking.{may_then}
use Rattle.tiny_engine.specs.Tiny.{One, Held, live_of, meaning_of}
use Rattle.tiny_engine.proofs.TinyLemmas.{data_none}
use Rattle.sed_typed.specs.Contents.{Contents}
use Rattle.sed_engine.specs.declared.call.CallEnd.{CallEnd}
use Rattle.sed_engine.specs.declared.call.Root.{Root}
use Rattle.sed_engine.specs.Code.{Meaning, Object, Places, asked_of, data_of, is_property, may_call, may_store, new_object, root_of, slot_type, slot_value, with_slot}
use Rattle.sed_engine.specs.Fits.{Fits}
use Rattle.sed_engine.specs.Whole.{EndsWell, IsObject, IsWhole}
use Rattle.sed_value.proofs.Orders.{tied_same, tied_apart}

get_put : (m : Places) (p : ℕ) (o : Object) → finite.get (finite.insert m p o) p ≡ Some o
get_put m p o = finite.get-insert nat_cmp_total m p o p ∙ ap (λ (b : Bool). cond b (Some o) (finite.get m p)) (tied_same p)

get_other : (m : Places) (p q : ℕ) (o : Object) → q ≢ p → finite.get (finite.insert m p o) q ≡ finite.get m q
get_other m p q o ne = finite.get-insert nat_cmp_total m p o q ∙ ap (λ (b : Bool). cond b (Some o) (finite.get m q)) (tied_apart q p ne)

pub there : (before after : Places) (p : ℕ) (o : Object) → after ≡ finite.insert before p o → finite.get after p ≡ Some o
there before after p o e = ap (λ (m : Places). finite.get m p) e ∙ get_put before p o

pub elsewhere : (before after : Places) (p q : ℕ) (o : Object) → after ≡ finite.insert before p o → q ≢ p → finite.get after q ≡ finite.get before q
elsewhere before after p q o e ne = ap (λ (m : Places). finite.get m q) e ∙ get_other before p q o ne

pub at_some : (r : Option Object) (o : Object) (P : Object → Type 0) → r ≡ Some o → P o → IsSomeAnd r P
at_some r o P e h = subst (λ (x : Option Object). IsSomeAnd x P) (sym e) h

pub of_some : (r : Option Object) (o : Object) (P : Object → Type 0) → r ≡ Some o → IfSome r P → P o
of_some r o P e h = subst (λ (x : Option Object). IfSome x P) e h

of_type : (t : Option SlotType) (v : Value) → option_map_or (λ t. goes_to t v) t false ≡ true → option_map_or (λ (t : SlotType). true) t false ≡ true
of_type None v h = h
of_type (Some t) v h = refl

-- a slot in which a value may be stored is a property
pub stored_in_property : (m : Meaning) (class slot : ℕ) (v : Value) → may_store m class slot v ≡ true → is_property m class slot ≡ true
stored_in_property m class slot v h = of_type (slot_type m class slot) v h

-- the whole of what the two calls leave
pub record Leaves (m0 m1 m2 : Meaning) (before mid after : Places) (p class slot : ℕ) (v : Value) : Type 0 where
  pub same1 : m1 ≡ m0
  pub same2 : m2 ≡ m1
  pub added : mid ≡ finite.insert before p (new_object m0 class)
  pub written : after ≡ finite.insert mid p (with_slot m1 (new_object m0 class) slot v)

pub mid_has : (m0 m1 : Meaning) (before mid : Places) (p class slot : ℕ) (v : Value) → m1 ≡ m0 → mid ≡ finite.insert before p (new_object m0 class) → may_store m0 class slot v ≡ true →
    IsSomeAnd (finite.get mid p) (λ o. IsTrue (may_store m1 o.class slot v))
mid_has m0 m1 before mid p class slot v same added goes =
    at_some (finite.get mid p) (new_object m0 class) (λ o. IsTrue (may_store m1 o.class slot v)) (there before mid p (new_object m0 class) added)
    (subst (λ (m : Meaning). may_store m class slot v ≡ true) (sym same) goes)

pub written_is : (m0 m1 : Meaning) (before mid after : Places) (p class slot : ℕ) (v : Value) → mid ≡ finite.insert before p (new_object m0 class) →
    IfSome (finite.get mid p) (λ o. after ≡ finite.insert mid p (with_slot m1 o slot v)) → after ≡ finite.insert mid p (with_slot m1 (new_object m0 class) slot v)
written_is m0 m1 before mid after p class slot v added written =
    of_some (finite.get mid p) (new_object m0 class) (λ o. after ≡ finite.insert mid p (with_slot m1 o slot v)) (there before mid p (new_object m0 class) added) written

module _ {m0 m1 m2 : Meaning} {before mid after : Places} {p class slot : ℕ} {v : Value} (l : Leaves m0 m1 m2 before mid after p class slot v) where
  pub after_has : finite.get after p ≡ Some (with_slot m0 (new_object m0 class) slot v)
  after_has = there mid after p (with_slot m1 (new_object m0 class) slot v) l.written ∙ ap (λ (m : Meaning). Some (with_slot m (new_object m0 class) slot v)) l.same1

  pub after_property : may_store m0 class slot v ≡ true → IsSomeAnd (finite.get after p) (λ o. IsTrue (is_property m2 o.class slot))
  after_property goes =
      at_some (finite.get after p) (with_slot m0 (new_object m0 class) slot v) (λ o. IsTrue (is_property m2 o.class slot)) after_has
      (subst (λ (m : Meaning). is_property m class slot ≡ true) (sym (l.same2 ∙ l.same1)) (stored_in_property m0 class slot v goes))

  pub after_value : (out : Value) → IfSome (finite.get after p) (λ o. out ≡ slot_value m2 o slot) → out ≡ slot_value m0 (with_slot m0 (new_object m0 class) slot v) slot
  after_value out told =
      of_some (finite.get after p) (with_slot m0 (new_object m0 class) slot v) (λ o. out ≡ slot_value m2 o slot) after_has told
      ∙ ap (λ (m : Meaning). slot_value m (with_slot m0 (new_object m0 class) slot v) slot) (l.same2 ∙ l.same1)

  pub after_others : (q : ℕ) → q ≢ p → finite.get after q ≡ finite.get before q
  after_others q ne = elsewhere mid after p q _ l.written ne ∙ elsewhere before mid p q _ l.added ne

-- an engine without a component is not full
pub few_live : (one : Option One) → one ≡ None → finite.len (live_of one) < 4096
few_live one e = subst (λ (o : Option One). finite.len (live_of o) < 4096) (sym e) (let h : finite.len (live_of None) ≡ 0 = finite.len-empty nat_cmp Object in omega (arith, h))

-- an engine without a component is full for a folder only where its limit is below the folder's 4 bytes
pub below_folder : (h : Held) (limit : ℕ) → h.one ≡ None → h.limit ≡ limit → h.limit < data_of (meaning_of h.schema) (live_of h.one) + (meaning_of h.schema).data_size 4 → limit < 4
below_folder h limit empty is full =
    let none : data_of (meaning_of h.schema) (live_of h.one) ≡ 0 = ap (λ (o : Option One). data_of (meaning_of h.schema) (live_of o)) empty ∙ data_none h.schema in
    omega (arith, none, is, full)

-- a root call that an engine may be given ends well
pub ends_well : (m : Meaning) → IsWhole m → (statics : Contents) → Fits m.fields m.static_fields m.initial_statics statics → (which : Root) (argument : Value) (turns : ℕ) (moment : ℤ) →
    1 ≤ turns → turns ≤ 1000000 → is_signed w64 moment ≡ true → (end : CallEnd) → (r : Option Object) → IfSome r (IsObject m) → IsSomeAnd r (λ o. IsTrue (may_call m o.class which argument)) →
    IfSome r (λ o. end ≡ (root_of m o statics which argument turns moment).end) → EndsWell turns end
ends_well m whole statics fit which argument turns moment some most long end None object may is = absurd may
ends_well m whole statics fit which argument turns moment some most long end (Some o) object may is =
    subst (λ (e : CallEnd). EndsWell turns e) (sym is)
    (whole.answers (asked_of o statics which argument turns moment)
    (may_then m (asked_of o statics which argument turns moment)
    (record { creatable = object.creatable; contents = object.fits; statics = fit; argument = may; some_turns = some; most_turns = most; moment = long }))).end
