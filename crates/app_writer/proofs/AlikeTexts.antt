-- Programs that are alike in all but their methods have one text of the App alone.
use Rattle.std.proofs.Common.{◌≡◌, ℕ, zero, suc, [], length, map, refl, sym, ◌∙◌}
use Rattle.std.specs.Prelude.{position}
use Rattle.sed_typed.specs.declared.program.Program.{Program}
use Rattle.sed_typed.specs.Classes.{fields}
use Rattle.sed_typed.specs.Initial.{object_begun, fields_begun}
use Rattle.sed_typed.specs.TypedSchema.{in_slot}
use Rattle.sed_engine.specs.Code.{Meaning, Question}
use Rattle.sed_engine.specs.Program.{meaning_of, shape_of}
use Rattle.sed_engine.specs.Root.{RootEnd}
use Rattle.app_writer.specs.Alone.{text_alone}

-- the fields of a class
fields_alike : (p q : Program) → p.schema ≡ q.schema → p.fields ≡ q.fields → fields p ≡ fields q
fields_alike p q schema same = λ i class. fields (record { schema = schema i; fields = same i; statics = p.statics; methods = p.methods; texts = p.texts }) class

-- what an object begins with
begun_alike : (p q : Program) → fields p ≡ fields q → (depth : ℕ) → object_begun p depth ≡ object_begun q depth
begun_alike p q same zero = refl
begun_alike p q same (suc depth) = λ i class path. fields_begun (begun_alike p q same depth i) path (same i class)

-- the text has nothing of root calls and of sizes
no_root : (m : Meaning) (root : Question → RootEnd) (sizes : ℕ → ℕ) (limit : ℕ) → text_alone m limit ≡ text_alone (record m { root = root; data_size = sizes }) limit
unfolding text_alone
no_root m root sizes limit = refl

pub texts_alike : (p q : Program) (limit : ℕ) → p.schema ≡ q.schema → p.fields ≡ q.fields → p.statics ≡ q.statics → text_alone (meaning_of p) limit ≡ text_alone (meaning_of q) limit
texts_alike p q limit schema same statics = no_root (meaning_of p) root sizes limit ∙ between ∙ sym (no_root (meaning_of q) root sizes limit)
  where
    root : Question → RootEnd
    root = (meaning_of p).root

    sizes : ℕ → ℕ
    sizes = (meaning_of p).data_size

    all : fields p ≡ fields q
    all = fields_alike p q schema same

    between : text_alone (record (meaning_of p) { root = root; data_size = sizes }) limit ≡ text_alone (record (meaning_of q) { root = root; data_size = sizes }) limit
    between = λ i. text_alone (record {
      schema = schema i;
      fields = λ class. map shape_of (all i class);
      slot_field = λ class slot. position (in_slot slot) (all i class);
      static_fields = map shape_of (statics i);
      initial = λ class. begun_alike p q all (length (schema i).classes) i class [];
      initial_statics = fields_begun (begun_alike p q all (length (schema i).classes) i) [] (statics i);
      data_size = sizes;
      root = root;
    }) limit
