use Rattle.std.proofs.Common.{◌≡◌, ℕ, ◌≤◌, ◌++◌, List, [], ◌∷◌, length, set, ap, sym, ◌∙◌, subst}
use Rattle.scode_image.specs.declared.image.ImageField.{ImageField}
use Rattle.scode_fields.specs.Fitting.{HasOneMore}
use Rattle.scode_fields.specs.Rows.{AreLaid, Tells, below, fields_test}
use Rattle.scode_fields.proofs.Fits.{one_fails, one_more}
use Rattle.scode_fields.proofs.Staged.{class_fields_laid, laid_fields}
use Rattle.scode_fields.proofs.bytes.fit_class.Goals as goal

pub row_of-requires-clause-laid : goal.row_of-requires-clause-laid
row_of-requires-clause-laid c =
    let image = c.args.image.now in
    let found = c.args.found.now in
    subst (λ (size : ℕ). AreLaid image size c.as_slice-fields.result.now) (sym c.len-size.ensures)
    (subst (λ (fs : List ImageField). AreLaid image (length found.contents) fs) (sym c.as_slice-fields.ensures)
    (laid_fields image (length found.contents) found.fields (class_fields_laid image c.args.class found
    c.requires.laid c.requires.there)))

pub returns-then-not-is_below : goal.returns-then-not-is_below
returns-then-not-is_below c =
    let image = c.args.image.now in
    let found = c.args.found.now in
    let row = c.in_ok-row.row.items in
    one_fails image row c.args.class found (length c.args.rows.now.items) c.requires.laid c.requires.there
    c.requires.few
    (c.in_ok-row.ensures.long ∙ c.len-size.ensures)
    (λ depth deep. subst (λ (fs : List ImageField). Tells row (fields_test depth image fs)) c.as_slice-fields.ensures
    (c.in_ok-row.ensures.tells depth (subst (λ (rs : List (List ℕ)). length rs ≤ depth)
    (sym c.as_slice.ensures.value) deep)))
    (sym (c.is_below.ensures
    ∙ ap (λ (r : List ℕ). below r c.as_slice-4.result.now) c.as_slice-3.ensures.value
    ∙ ap (λ (bytes : List ℕ). below row bytes) c.as_slice-4.ensures) ∙ c.if-not-is_below.true)

pub returns : goal.returns
returns c =
    let image = c.args.image.now in
    let found = c.args.found.now in
    let row = c.in_ok-row.row.items in
    let rows = c.args.rows.now.items in
    let places = c.args.places.now.items in
    let more = one_more image rows places row c.args.class found c.requires.laid c.requires.places c.requires.there
    c.requires.few
    (c.in_ok-row.ensures.long ∙ c.len-size.ensures)
    (λ depth deep. subst (λ (fs : List ImageField). Tells row (fields_test depth image fs)) c.as_slice-fields.ensures
    (c.in_ok-row.ensures.tells depth (subst (λ (rs : List (List ℕ)). length rs ≤ depth)
    (sym c.as_slice.ensures.value) deep)))
    (sym (c.is_below.ensures
    ∙ ap (λ (r : List ℕ). below r c.as_slice-4.result.now) c.as_slice-3.ensures.value
    ∙ ap (λ (bytes : List ℕ). below row bytes) c.as_slice-4.ensures) ∙ c.if-not-is_below.false) in
    let pushed : c.push.new.self.items ≡ rows ++ row ∷ [] =
    c.in_ok-push.ensures.items ∙ ap (λ (r : List ℕ). rows ++ r ∷ []) c.new.ensures in
    let placed : c.put_place.new.places.items ≡ set places c.args.class (length rows) =
    c.put_place.ensures ∙ ap (λ (n : ℕ). set places c.args.class n)
    (c.len.ensures ∙ sym c.as_slice.ensures.len ∙ ap length c.as_slice.ensures.value) in
    subst (λ (ps : List ℕ). HasOneMore image rows places c.push.new.self.items ps c.args.class) (sym placed)
    (subst (λ (rs : List (List ℕ)). HasOneMore image rows places rs (set places c.args.class
    (length rows)) c.args.class) (sym pushed)
    more)
