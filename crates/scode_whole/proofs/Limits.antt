-- The limits that an image keeps whose tables agree.
use Rattle.std.proofs.Common.{◌≡◌, ℕ, ◌<◌, ◌≤◌, ◌==◌, nat_le, length, map, Some, arith}
use Rattle.std.specs.Prelude.{All, filter, slice_get}
use Rattle.std.proofs.lemmas.Bool.{leb-true}
use Rattle.std.proofs.lemmas.List.{length-map}
use Rattle.sed_typed.specs.declared.schema.ClassInfo.{ClassInfo}
use Rattle.sed_typed.specs.declared.schema.SlotInfo.{SlotInfo}
use Rattle.sed_typed.specs.Sizes.{config_size, runtime_size}
use Rattle.sed_engine.specs.Whole.{HasBufSize, KeepsLimits}
use Rattle.scode_image.specs.declared.image.Image.{Image}
use Rattle.scode_image.specs.declared.image.ImageClass.{ImageClass}
use Rattle.scode_image.specs.declared.image.ImageMethod.{ImageMethod}
use Rattle.scode_code.specs.Tables.{class_of, kit_of, schema_of, slot_of}
use Rattle.scode_whole.proofs.Truths.{all_mapped, six}
use Rattle.scode_whole.proofs.Rule.{Agrees, class_agrees, limits_of}
use Rattle.scode_whole.proofs.Kits.{types_most}
use Rattle.scode_whole.proofs.SlotFields.{bufs_of}

record ClassKeeps (c : ImageClass) : Type 0 where
  bytes : length c.contents ≤ 65535
  slots : length c.slots ≤ 64
  config : config_size (map slot_of c.slots) ≤ 400
  runtime : runtime_size (map slot_of c.slots) ≤ 400

class_keeps : (image : Image) → Agrees image → (class : ℕ) (c : ImageClass) → slice_get image.classes class ≡ Some c
    → ClassKeeps c
class_keeps image is class c there =
    let p = six (nat_le (length c.contents) 65535) (nat_le (length c.slots) 64) (nat_le (length c.table) 255)
    (nat_le (length (filter (λ (m : ImageMethod). m.class == class) image.methods)) 60)
    (nat_le (config_size (map slot_of c.slots)) 400) (nat_le (runtime_size (map slot_of c.slots)) 400)
    (class_agrees image is class c there).limits in
    record {
      bytes = leb-true (length c.contents) 65535 p.0;
      slots = leb-true (length c.slots) 64 p.1;
      config = leb-true (config_size (map slot_of c.slots)) 400 p.4;
      runtime = leb-true (runtime_size (map slot_of c.slots)) 400 p.5;
    }

module _ (image : Image) (is : Agrees image) where
  kits_most : length (schema_of image).kits ≤ 16
  kits_most =
      let few : length image.kits ≤ 16 = leb-true (length image.kits) 16 (limits_of image is).kits in
      let same : length (schema_of image).kits ≡ length image.kits = length-map image.kits kit_of in
      omega (arith, few, same)

  slots_most : All (λ (c : ClassInfo). length c.slots ≤ 64) (schema_of image).classes
  slots_most =
      all_mapped class_of (λ (c : ClassInfo). length c.slots ≤ 64) image.classes
      (λ k c e. let few : length c.slots ≤ 64 = (class_keeps image is k c e).slots in
      let same : length (map slot_of c.slots) ≡ length c.slots = length-map c.slots slot_of in
      let all : length (class_of c).slots ≤ 64 = omega (arith, few, same) in
      all)

  bufs_most : All (λ (c : ClassInfo). All (λ (s : SlotInfo). HasBufSize s.form) c.slots) (schema_of image).classes
  bufs_most =
      all_mapped class_of (λ (c : ClassInfo). All (λ (s : SlotInfo). HasBufSize s.form) c.slots) image.classes
      (λ k c e. all_mapped slot_of (λ (s : SlotInfo). HasBufSize s.form) c.slots
      (bufs_of image k c (class_agrees image is k c e)))

  sizes_most : All (λ (c : ClassInfo). c.size < 65536) (schema_of image).classes
  sizes_most =
      all_mapped class_of (λ (c : ClassInfo). c.size < 65536) image.classes
      (λ k c e. let few : length c.contents ≤ 65535 = (class_keeps image is k c e).bytes in
      let less : length c.contents < 65536 = omega (arith, few) in
      less)

  pub limits_are : KeepsLimits (schema_of image)
  limits_are = record {
    kits = kits_most;
    types = types_most image is;
    slots = slots_most;
    bufs = bufs_most;
    sizes = sizes_most;
    config =
        all_mapped class_of (λ (c : ClassInfo). config_size c.slots ≤ 400) image.classes
        (λ k c e. (class_keeps image is k c e).config);
    runtime =
        all_mapped class_of (λ (c : ClassInfo). runtime_size c.slots ≤ 400) image.classes
        (λ k c e. (class_keeps image is k c e).runtime);
  }
