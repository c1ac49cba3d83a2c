use Rattle.std.proofs.Common.{◌≡◌, ◌∙◌, ℕ, ℤ, List, Option, FitsSigned, w32, to_z, of_z, length, position, sym, ap}
use Rattle.std.proofs.lemmas.Int.{to_z-of_z}
use Rattle.std.specs.Option.{option_map_or}
use Rattle.sed_typed.specs.declared.statement.Label.{Label}
use Rattle.sed_typed.specs.TypedStmt.{is_default}
use Rattle.sed_engine.specs.Statements.{is_case}
use Rattle.sed_walk.proofs.bodies.label_of.Goals as goal

same : (n : ℤ) → FitsSigned w32 n → (labels : List Label) → position (is_case (to_z w32 (of_z w32 n))) labels ≡ position (is_case n) labels
same n fits labels = ap (λ (m : ℤ). position (is_case m) labels) (to_z-of_z w32 n fits)

pub returns-in-Some : goal.returns-in-Some
returns-in-Some c =
    let rest = option_map_or (λ (i : ℕ). i) (position is_default c.args.labels.now) (length c.args.labels.now) in
    ap (λ (o : Option ℕ). option_map_or (λ (i : ℕ). i) o rest) (sym c.in-Some.is ∙ c.case_of.ensures ∙ same c.args.number c.ranges.number c.args.labels.now)

pub returns-in-Some-default_of : goal.returns-in-Some-default_of
returns-in-Some-default_of c =
    let rest = option_map_or (λ (i : ℕ). i) (position is_default c.args.labels.now) (length c.args.labels.now) in
    ap (λ (o : Option ℕ). option_map_or (λ (i : ℕ). i) o (length c.args.labels.now)) (sym c.in-Some-default_of.is ∙ c.default_of.ensures)
    ∙ ap (λ (o : Option ℕ). option_map_or (λ (i : ℕ). i) o rest) (sym c.in-None.is ∙ c.case_of.ensures ∙ same c.args.number c.ranges.number c.args.labels.now)

pub returns-in-None-default_of : goal.returns-in-None-default_of
returns-in-None-default_of c =
    let rest = option_map_or (λ (i : ℕ). i) (position is_default c.args.labels.now) (length c.args.labels.now) in
    ap (λ (o : Option ℕ). option_map_or (λ (i : ℕ). i) o (length c.args.labels.now)) (sym c.in-None-default_of.is ∙ c.default_of.ensures)
    ∙ ap (λ (o : Option ℕ). option_map_or (λ (i : ℕ). i) o rest) (sym c.in-None.is ∙ c.case_of.ensures ∙ same c.args.number c.ranges.number c.args.labels.now)
