-- Codes that carry one another are one code.
use Rattle.std.proofs.Common.{◌≡◌, inl, inr, ℕ, ◌<◌, ◌≤◌, [], length, Option, Some, None, refl, sym, ap, ◌∙◌, arith}
use mathlib.Core.Path.{fun_ext}
use Rattle.std.specs.Prelude.{is_some, slice_get}
use Rattle.std.specs.Option.{option_map}
use Rattle.std.proofs.lemmas.Bool.{cases_Bool, cases_lt, both_ways}
use Rattle.sed_value.specs.declared.slot_type.SlotType.{SlotType}
use Rattle.sed_typed.specs.declared.schema.Schema.{Schema}
use Rattle.sed_typed.specs.Classes.{slots}
use Rattle.sed_engine.specs.Asked.{may_ask}
use Rattle.sed_engine.specs.Carries.{Carries}
use Rattle.sed_engine.specs.Code.{Meaning, Question, property_type, slot_type}
use Rattle.sed_engine.specs.Whole.{IsWhole}

-- a code with the answers of another
abbrev with_answers : Meaning → Meaning → Meaning
with_answers m n = record m { root = n.root }

-- what may be asked does not hang on the answers
asks_alike : (m n : Meaning) (q : Question) → may_ask (with_answers m n) q ≡ may_ask m q
unfolding may_ask
asks_alike m n q = refl

-- the type of a slot is the schema's
abbrev type_in : Schema → ℕ → ℕ → Option SlotType
type_in schema class k = property_type (option_map (λ s. s.form) (slice_get (slots schema.classes class) k))

-- functions of classes that are alike at each class, and beyond the classes one thing
alike_everywhere : {A : Type 0} (f g : ℕ → A) (none : A) (k l : ℕ) → k ≡ l → ((class : ℕ) → class < k → f class ≡ g class) →
    ((class : ℕ) → k ≤ class → f class ≡ none) → ((class : ℕ) → l ≤ class → g class ≡ none) → f ≡ g
alike_everywhere f g none k l e within beyond_f beyond_g = fun_ext (λ class. elim (cases_lt class k) [
  | inl h ↦ within class h
  | inr h ↦ beyond_f class h ∙ sym (beyond_g class (omega (arith, e, h)))
])

module _ {m n : Meaning} (c : Carries m n) (p : IsWhole m) (r : IsWhole n) where
  classes_same : length m.schema.classes ≡ length n.schema.classes
  classes_same = ap (λ (s : Schema). length s.classes) c.schema

  fields_same : m.fields ≡ n.fields
  fields_same = alike_everywhere m.fields n.fields [] (length m.schema.classes) (length n.schema.classes) classes_same c.fields (λ class h. (p.tables.beyond class h).fields) (λ class h. (r.tables.beyond class h).fields)

  initial_same : m.initial ≡ n.initial
  initial_same = alike_everywhere m.initial n.initial [] (length m.schema.classes) (length n.schema.classes) classes_same c.initial (λ class h. (p.tables.beyond class h).initial) (λ class h. (r.tables.beyond class h).initial)

  sizes_same : m.data_size ≡ n.data_size
  sizes_same = alike_everywhere m.data_size n.data_size 0 (length m.schema.classes) (length n.schema.classes) classes_same c.sizes (λ class h. (p.tables.beyond class h).size) (λ class h. (r.tables.beyond class h).size)

  slot_same : (class k : ℕ) (o : Option SlotType) → slot_type m class k ≡ o → m.slot_field class k ≡ n.slot_field class k
  slot_same class k None is = p.tables.no_fields class k is ∙ sym (r.tables.no_fields class k (sym (ap (λ (s : Schema). type_in s class k) c.schema) ∙ is))
  slot_same class k (Some t) is = c.slot_fields class k (ap is_some is)

  slot_fields_same : m.slot_field ≡ n.slot_field
  slot_fields_same = fun_ext (λ class. fun_ext (λ k. slot_same class k (slot_type m class k) refl))

  but_answers : with_answers m n ≡ n
  but_answers = λ i. record {
    schema = c.schema i;
    fields = fields_same i;
    slot_field = slot_fields_same i;
    static_fields = c.static_fields i;
    initial = initial_same i;
    initial_statics = c.initial_statics i;
    data_size = sizes_same i;
    root = n.root;
  }

  may_alike : (q : Question) → may_ask m q ≡ may_ask n q
  may_alike q = sym (asks_alike m n q) ∙ ap (λ (x : Meaning). may_ask x q) but_answers

  answers_same : (q : Question) → m.root q ≡ n.root q
  answers_same q = elim (cases_Bool (may_ask m q)) [
    | inl e ↦ c.roots q e
    | inr e ↦
        p.unasked q (λ h. both_ways (may_ask m q) e h)
        ∙ sym (r.unasked q (λ h. both_ways (may_ask m q) e (may_alike q ∙ h)))
  ]

  pub one_code : m ≡ n
  one_code = λ i. record (but_answers i) { root = fun_ext answers_same i }
