use Rattle.std.proofs.Common.{◌≡◌, ◌∙◌, true, ap, subst, sym}
use Rattle.scode_image.specs.declared.image.Image.{Image}
use Rattle.scode_code.specs.Image.{meaning_of}
use Rattle.scode_code.specs.Tables.{schema_of}
use Rattle.scode_cells.specs.Frames.{Frames}
use Rattle.scode_vm.specs.Calling.{AreZeros}
use Rattle.scode_vm.specs.Doings.{HasCells}
use Rattle.scode_engine.specs.Loaded.{IsLoaded, statics_of}
use Rattle.scode_whole.proofs.Whole.{first_rule}
use Rattle.scode_engine.specs.Rows.{AreRows}
use Rattle.scode_code.specs.TableRules.{tables_agree}
use Rattle.scode_engine.proofs.machine.Machine.new.Goals as goal

pub rows_of-requires : goal.rows_of-requires
rows_of-requires c =
    subst (λ (i : Image). tables_agree i ≡ true) (sym c.image-3.ensures.image)
    (first_rule c.args.code c.image-3.ensures.verified)

pub invariant_of-result : goal.invariant_of-result
invariant_of-result c = record {
  objects = subst (λ (i : Image). IsLoaded i c.in_ok-pool.pool) c.image-4.ensures.image c.in_ok-pool.ensures.loaded;
  schema_is = c.in_ok-schema.ensures ∙ ap schema_of c.image.ensures.image;
  told = c.schema_is_spelled_out.ensures.told;
  zeros_are = subst (λ (i : Image). AreZeros i c.in_ok-zeros.zeros.items) c.image-2.ensures.image c.in_ok-zeros.ensures;
  rows_are = subst (λ (i : Image). AreRows i.methods c.in_ok-rows.rows.items) c.image-3.ensures.image c.in_ok-rows.ensures;
  room = record {
    idle = ap (λ (s : Frames). s.frames) c.in_ok-cells.ensures;
    enough = subst (λ (s : Frames). HasCells c.args.code s.most) (sym c.in_ok-cells.ensures)
        (subst (λ (i : Image). HasCells i c.most_cells.result) c.image-5.ensures.image c.most_cells.ensures);
  };
}

pub returns-clause-statics : goal.returns-clause-statics
returns-clause-statics c =
    subst (λ (i : Image). statics_of i c.in_ok-pool.pool ≡ (meaning_of i).initial_statics) c.image-4.ensures.image
    c.in_ok-pool.ensures.statics
