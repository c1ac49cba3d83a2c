-- A code that answers well whatever it may be asked is whole once it is masked.
use Rattle.std.proofs.Common.{◌≡◌, inl, inr, Bool, true, false, if◌then◌else◌, sym, ap, subst, ◌∙◌}
use Rattle.std.proofs.lemmas.Bool.{cases_Bool, both_ways}
use Rattle.sed_engine.specs.Asked.{MayAsk, may_ask, unasked, masked}
use Rattle.sed_engine.specs.Code.{Meaning, Question}
use Rattle.sed_engine.specs.Fits.{Fits}
use Rattle.sed_engine.specs.Root.{RootEnd}
use Rattle.sed_engine.specs.Whole.{AnswersWell, EndsWell, HasTables, IsWhole, FollowsBase, SaysNothing}
use Rattle.sed_engine.proofs.Asking.{masked_asks}

-- ---- what a masked code answers

own : (b : Bool) (x y : RootEnd) → b ≡ true → (if b then x else y) ≡ x
own b x y e = ap (λ (t : Bool). if t then x else y) e

other : (b : Bool) (x y : RootEnd) → b ≡ false → (if b then x else y) ≡ y
other b x y e = ap (λ (t : Bool). if t then x else y) e

-- the code's own answer, where it may be asked; what an engine uses
pub answer_is : (m : Meaning) (q : Question) → MayAsk m q → (masked m).root q ≡ m.root q
answer_is m q h = own (may_ask m q) (m.root q) (unasked q) h

pub to_masked : (m : Meaning) (q : Question) → MayAsk m q → MayAsk (masked m) q
to_masked m q h = masked_asks m q ∙ h

pub from_masked : (m : Meaning) (q : Question) → MayAsk (masked m) q → MayAsk m q
from_masked m q h = sym (masked_asks m q) ∙ h

-- ---- the masked code is whole

-- nothing of the tables is changed
tables_masked : (m : Meaning) → HasTables m → HasTables (masked m)
tables_masked m t = record {
  limits = t.limits;
  names = t.names;
  components = t.components;
  bases = λ class base e. let f : FollowsBase m class base = t.bases class base e in record { before = f.before; slots = f.slots; fields = f.fields; slot_fields = f.slot_fields };
  sizes = t.sizes;
  slot_fields = t.slot_fields;
  no_fields = t.no_fields;
  values = t.values;
  first = t.first;
  first_statics = t.first_statics;
  beyond = λ class h. let n : SaysNothing m class = t.beyond class h in record { fields = n.fields; initial = n.initial; size = n.size };
}

module _ (m : Meaning) (well : (q : Question) → MayAsk m q → AnswersWell m q) where
  unasked_masked : (q : Question) → (MayAsk (masked m) q → ⊥) → (masked m).root q ≡ unasked q
  unasked_masked q h = elim (cases_Bool (may_ask m q)) [
    | inl e ↦ absurd (h (to_masked m q e))
    | inr e ↦ other (may_ask m q) (m.root q) (unasked q) e
  ]

  answers_masked : (q : Question) → MayAsk (masked m) q → AnswersWell (masked m) q
  answers_masked q h =
      let may : MayAsk m q = from_masked m q h in
      let same : m.root q ≡ (masked m).root q = sym (answer_is m q may) in
      let a : AnswersWell m q = well q may in
      record {
        contents = subst (λ (x : RootEnd). Fits m.fields (m.fields q.class) (m.initial q.class) x.contents) same a.contents;
        statics = subst (λ (x : RootEnd). Fits m.fields m.static_fields m.initial_statics x.statics) same a.statics;
        end = subst (λ (x : RootEnd). EndsWell q.turns x.end) same a.end;
      }

  pub masked_whole : HasTables m → IsWhole (masked m)
  masked_whole tables = record { tables = tables_masked m tables; unasked = unasked_masked; answers = answers_masked }

-- ---- what a whole code leaves

-- whatever it is asked, also what it may not be asked
pub whole_leaves : (m : Meaning) → IsWhole m → (q : Question) → Fits m.fields (m.fields q.class) (m.initial q.class) q.contents →
    Fits m.fields m.static_fields m.initial_statics q.statics →
    Fits m.fields (m.fields q.class) (m.initial q.class) (m.root q).contents × Fits m.fields m.static_fields m.initial_statics (m.root q).statics
whole_leaves m whole q given given_statics = elim (cases_Bool (may_ask m q)) [
  | inl e ↦ let a : AnswersWell m q = whole.answers q e in (a.contents, a.statics)
  | inr e ↦
      subst (λ (x : RootEnd). Fits m.fields (m.fields q.class) (m.initial q.class) x.contents × Fits m.fields m.static_fields m.initial_statics x.statics)
      (sym (whole.unasked q (λ h. both_ways (may_ask m q) e h))) (given, given_statics)
]
