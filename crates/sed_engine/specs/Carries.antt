-- Codes that are alike in all that may be asked of them.
use Rattle.std.specs.Prelude.{ℕ, ◌≡◌, ◌<◌, IsSome, length}
use Rattle.sed_engine.specs.Asked.{MayAsk}
use Rattle.sed_engine.specs.Code.{Meaning, Question, slot_type}

-- one code has the schema of another and, at each class, its fields, first contents and size, at each property its
-- field, and at each question that it may be asked its answer
pub record Carries (m n : Meaning) : Type 0 where
  pub schema : m.schema ≡ n.schema
  pub fields : (class : ℕ) → class < length m.schema.classes → m.fields class ≡ n.fields class
  pub slot_fields : (class k : ℕ) → IsSome (slot_type m class k) → m.slot_field class k ≡ n.slot_field class k
  pub static_fields : m.static_fields ≡ n.static_fields
  pub initial : (class : ℕ) → class < length m.schema.classes → m.initial class ≡ n.initial class
  pub initial_statics : m.initial_statics ≡ n.initial_statics
  pub sizes : (class : ℕ) → class < length m.schema.classes → m.data_size class ≡ n.data_size class
  pub roots : (q : Question) → MayAsk m q → m.root q ≡ n.root q
