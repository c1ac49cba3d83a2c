-- What stands beside the code of the small program of the examples: its entries, and its image.
use Rattle.std.proofs.Common.{ℕ, pos, List, [], ◌∷◌, ◌++◌, map, replicate, Some, codes}
use Rattle.sed_typed.specs.declared.statement.Stmt.{Stmt}
use Rattle.sed_engine.proofs.Building.{Pointer, execute}
use Rattle.scode_image.specs.declared.image.Image.{Image}
use Rattle.scode_image.specs.declared.image.ImageEntry.{ImageEntry}
use Rattle.scode_image.specs.declared.image.ImageKind.{ImageKind}
use Rattle.scode_code.proofs.Building as image
use Rattle.scode_emit.proofs.Building.{layout, program}
use Rattle.scode_entries.specs.Method.{entries_of, image_method}

-- the entries of `execute`
abbrev pub entries : Pointer → Stmt → List ImageEntry
entries p body = entries_of (program p body) layout (execute 5 body)

-- each with what is on the stack
abbrev pub places : Pointer → Stmt → List (ℕ × List ImageKind)
places p body = map (λ e. (e.place, e.stack)) (entries p body)

-- the image: its tables by hand, its methods by the compiler
abbrev pub image_of : Pointer → Stmt → Image
image_of p body = record {
  kits = record { name = codes "sys"; checksum = pos 0 } ∷ record { name = codes "k"; checksum = pos 0 } ∷ [];
  classes = image.sys ++ image.class 1 0 (codes "A") 2 2
      (image.field 0 4 0 ∷ image.field 4 4 0 ∷ image.field 8 2 0 ∷ image.field 9 12 3 ∷ image.field 21 5 0 ∷ image.field 29 6 8
      ∷ image.field 37 7 4 ∷ image.field 43 1 0 ∷ [])
      (image.meta ∷ []) (1 ∷ 2 ∷ []) (replicate 44 0) ∷ [];
  static_fields = image.field 0 4 0 ∷ image.field 4 5 0 ∷ [];
  static_bytes = replicate 12 0;
  texts = codes "abc" ∷ [];
  methods = map (image_method (program p body) layout) (program p body).methods;
}
