use Rattle.std.proofs.Common.{ℕ, List, length, ap, sym, ◌∙◌, subst}
use Rattle.scode_image.specs.declared.image.ImageField.{ImageField}
use Rattle.scode_fields.specs.Rows.{AreLaid, HaveRows, Tells, below, fields_test}
use Rattle.scode_fields.proofs.Fits.{static_rows, statics_told}
use Rattle.scode_fields.proofs.Staged.{known, laid_fields}
use Rattle.scode_fields.proofs.bytes.statics_fit.Goals as goal

pub row_of-requires-clause-laid : goal.row_of-requires-clause-laid
row_of-requires-clause-laid c =
    let image = c.args.image.now in
    subst (λ (size : ℕ). AreLaid image size c.as_slice.result.now) (sym c.len-size.ensures)
    (subst (λ (fs : List ImageField). AreLaid image (length image.static_bytes) fs) (sym c.as_slice.ensures)
    (laid_fields image (length image.static_bytes) image.static_fields (known image c.requires.laid).statics))

pub row_of-requires-clause-rows : goal.row_of-requires-clause-rows
row_of-requires-clause-rows c =
    let image = c.args.image.now in
    subst (λ (fs : List ImageField). HaveRows image c.args.rows.now c.args.places.now fs) (sym c.as_slice.ensures)
    (static_rows image c.args.rows.now c.args.places.now c.requires.laid c.requires.rows)

pub returns : goal.returns
returns c =
    let image = c.args.image.now in
    let row = c.in_ok-row.row.items in
    c.is_below.ensures
    ∙ ap (λ (r : List ℕ). below r c.as_slice-3.result.now) c.as_slice-2.ensures.value
    ∙ ap (λ (bytes : List ℕ). below row bytes) c.as_slice-3.ensures
    ∙ statics_told image row (length c.args.rows.now) c.requires.laid c.requires.few (c.in_ok-row.ensures.long
    ∙ c.len-size.ensures)
    (λ depth deep. subst (λ (fs : List ImageField). Tells row (fields_test depth image fs)) c.as_slice.ensures
    (c.in_ok-row.ensures.tells depth deep))
