-- Fields that properties have, by the two kinds of them.
use Rattle.std.proofs.Common.{◌≡◌, ◌+◌, ◌<◌, ◌≤◌, ◌^◌, ◌==◌, ◌&&◌, ◌||◌, if◌then◌else◌, ℕ, nat_le, Bool, true, false, List, length, Option, Some, None, inl, inr, refl, sym, ◌∙◌, ap, subst, arith}
use Rattle.std.specs.Prelude.{IsSomeAnd, IsTrue}
use Rattle.std.proofs.lemmas.Bool.{and_parts, eqb-true, leb-true}
use Rattle.sed_value.specs.declared.slot_type.SlotType.TheVariants as slot
use Rattle.sed_value.specs.Value.{are_bytes, is_of_type}
use Rattle.sed_value.specs.declared.value.Value.{Value}
use Rattle.sed_value.specs.declared.value.Value.TheVariants as kept
use Rattle.sed_typed.specs.declared.program.FieldForm.{FieldForm}
use Rattle.sed_typed.specs.declared.program.FieldForm.TheVariants as form
use Rattle.sed_typed.specs.Contents.{Path}
use Rattle.sed_engine.specs.Values.{Base, Component}
use Rattle.scode_image.specs.declared.image.Image.{Image}
use Rattle.scode_image.specs.declared.image.ImageField.{ImageField}
use Rattle.scode_code.specs.Parts.{Part, part_of}
use Rattle.scode_code.specs.TableRules.{tables_agree}
use Rattle.scode_code.specs.Tables.{form_of, primitive_of}
use Rattle.scode_mem.specs.declared.block.Block.{Block}
use Rattle.scode_mem.specs.Blocks.{HasBytes, Held, bytes_of}
use Rattle.scode_state.specs.Stands.{StandsAt}
use Rattle.scode_state.specs.Values.{part_width, size_in}
use Rattle.scode_whole.proofs.SlotFields.{form_buf, form_prim}
use Rattle.scode_whole.proofs.Truths.{either, no_truth}
use Rattle.scode_engine.specs.Slots.{is_buf, is_held, type_of}

module _ (f : ImageField) (held : is_held f ≡ true) where
  -- ---- a Buf

  module _ (buf : is_buf f.form ≡ true) where
    form_is : f.form ≡ 7
    form_is = eqb-true f.form 7 buf

    high : nat_le f.form 5 ≡ false
    high = ap (λ (k : ℕ). nat_le k 5) form_is

    pub few : f.n ≤ 128
    few = leb-true f.n 128 (and_parts (is_buf f.form) (nat_le f.n 128)
        (sym (ap (λ (t : Bool). t || (is_buf f.form && nat_le f.n 128)) high) ∙ held)).1

    pub of_buf : form_of f ≡ form.Buf f.n
    of_buf = form_buf f high (ap (λ (k : ℕ). k == 6) form_is) buf

    pub buf_type : type_of f ≡ slot.Buf f.n
    buf_type = ap (λ (t : Bool). if t then slot.Buf f.n else slot.Prim (primitive_of f.form)) buf

  -- ---- a primitive

  module _ (none : is_buf f.form ≡ false) where
    low : nat_le f.form 5 ≡ true
    low = elim (either (nat_le f.form 5) (is_buf f.form && nat_le f.n 128) held) [
      | inl e ↦ e
      | inr e ↦ no_truth (sym none ∙ (and_parts (is_buf f.form) (nat_le f.n 128) e).0)
    ]

    pub of_prim : form_of f ≡ form.Prim (primitive_of f.form)
    of_prim = form_prim f low

    pub prim_type : type_of f ≡ slot.Prim (primitive_of f.form)
    prim_type = ap (λ (t : Bool). if t then slot.Buf f.n else slot.Prim (primitive_of f.form)) none

-- ---- what stands of such a field

-- by the form that it has
pub stands_as : (image : Image) (class : ℕ) (path : Path) (h : Held) (b : Block) (f : ImageField) (g : FieldForm)
    → form_of f ≡ g → StandsAt image class Component path h b f.offset (form_of f)
    → StandsAt image class Component path h b f.offset g
stands_as image class path h b f g is at =
    subst (λ (x : FieldForm). StandsAt image class Component path h b f.offset x) is at

-- how far a Buf of a block reaches
pub reaches : (image : Image) (class : ℕ) (h : Held) (b : Block) (path : Path) (offset n : ℕ)
    → StandsAt image class Component path h b offset (form.Buf n)
    → ((image : Image) (class : ℕ) (base : Base) (path : Path) (part : Part) → tables_agree image ≡ true
    → part_of image class base path ≡ Some part → part.0 + part_width image part.1 ≤ size_in image class base)
    → ((image : Image) (class : ℕ) (base : Base) → tables_agree image ≡ true → size_in image class base < 2 ^ 16)
    → offset + (n + 2) < 2 ^ 16
reaches image class h b path offset n at within reach =
    let low : offset + (n + 2) ≤ size_in image class Component =
    within image class Component path (let p : Part = (offset, form.Buf n) in p) at.agree at.part in
    let most = reach image class Component at.agree in
    omega (arith, low, most)

-- ---- values of a Buf

-- what a Buf keeps is bytes
pub bytes_in : (v : Value) (most : ℕ) → IsTrue (is_of_type (slot.Buf most) v) → (bytes : List ℕ) × (v ≡ kept.Buf bytes)
bytes_in (kept.Buf bytes) most is = (bytes, refl)
bytes_in (kept.Bool t) most is = no_truth is
bytes_in (kept.Byte n) most is = no_truth is
bytes_in (kept.Short n) most is = no_truth is
bytes_in (kept.Int n) most is = no_truth is
bytes_in (kept.Long n) most is = no_truth is
bytes_in kept.Nothing most is = no_truth is

-- no more of them than there is room for
pub bytes_within : (v : Value) (bytes lent : List ℕ) (most : ℕ) → v ≡ kept.Buf bytes → lent ≡ bytes
    → IsTrue (is_of_type (slot.Buf most) v) → length lent ≤ most
bytes_within v bytes lent most same lend is =
    let fits : (are_bytes bytes && nat_le (length bytes) most) ≡ true =
    subst (λ (u : Value). IsTrue (is_of_type (slot.Buf most) u)) same is in
    subst (λ (l : List ℕ). length l ≤ most) (sym lend)
    (leb-true (length bytes) most (and_parts (are_bytes bytes) (nat_le (length bytes) most) fits).1)

-- a block has the front of what it has
pub has_front : (h : Held) (b : Block) (at few most : ℕ) → few ≤ most → HasBytes h b at (most + 2)
    → HasBytes h b at (2 + few)
has_front h b at few most less has = go (bytes_of h b) has
  where
    go : (o : Option (List ℕ)) → IsSomeAnd o (λ bytes. at + (most + 2) ≤ length bytes)
        → IsSomeAnd o (λ bytes. at + (2 + few) ≤ length bytes)
    go None has = absurd has
    go (Some bytes) has = omega (arith, has, less)
