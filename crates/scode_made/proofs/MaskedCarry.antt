-- Codes that carry one another carry one another once they are masked.
use Rattle.std.proofs.Common.{◌≡◌, ◌∙◌, refl, sym}
use Rattle.sed_engine.specs.Asked.{MayAsk, masked, may_ask}
use Rattle.sed_engine.specs.Carries.{Carries}
use Rattle.sed_engine.specs.Code.{Meaning, Question}

-- a code that is masked may be asked the same
masked_asks : (m : Meaning) (q : Question) → may_ask (masked m) q ≡ may_ask m q
unfolding may_ask
masked_asks m q = refl

pub masked_carry : (m n : Meaning) → ((x : Meaning) (q : Question) → MayAsk x q → (masked x).root q ≡ x.root q) → ((q : Question) → may_ask m q ≡ may_ask n q) → Carries m n →
    Carries (masked m) (masked n)
masked_carry m n answers asks carries = record {
  schema = carries.schema;
  fields = carries.fields;
  slot_fields = carries.slot_fields;
  static_fields = carries.static_fields;
  initial = carries.initial;
  initial_statics = carries.initial_statics;
  sizes = carries.sizes;
  roots = λ q may.
      let own : MayAsk m q = sym (masked_asks m q) ∙ may in
      let other : MayAsk n q = sym (asks q) ∙ own in
      answers m q own ∙ carries.roots q own ∙ sym (answers n q other);
}
