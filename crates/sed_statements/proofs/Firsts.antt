-- The first part of a `for` that is an expression declares nothing.
use Rattle.std.proofs.Common.{◌≡◌, true, refl}
use Rattle.sed_units.specs.Tree.{Tree, Absent, Part}
use Rattle.sed_units.specs.declared.label.Label.TheVariants as label
use Rattle.sed_names.specs.Names.{Names}
use Rattle.sed_body_rules.specs.Scope.{Scope, behind}
use Rattle.sed_statements.specs.Parts.{is_expression}

pub expression_declares_nothing : (n : Names) (s : Scope) (t : Tree) → is_expression t ≡ true → behind n s t ≡ s
expression_declares_nothing n s Absent h = refl
expression_declares_nothing n s (Part (label.Literal l) x y) h = refl
expression_declares_nothing n s (Part (label.This at) x y) h = refl
expression_declares_nothing n s (Part (label.Super at id) x y) h = refl
expression_declares_nothing n s (Part (label.Name id) x y) h = refl
expression_declares_nothing n s (Part (label.Of kit id) x y) h = refl
expression_declares_nothing n s (Part (label.Call id) x y) h = refl
expression_declares_nothing n s (Part (label.Paren at) x y) h = refl
expression_declares_nothing n s (Part (label.Prefix at op) x y) h = refl
expression_declares_nothing n s (Part (label.Cast at kind) x y) h = refl
expression_declares_nothing n s (Part (label.Chain at) x y) h = refl
expression_declares_nothing n s (Part (label.Update at op) x y) h = refl
expression_declares_nothing n s (Part (label.Conditional at) x y) h = refl
expression_declares_nothing n s (Part (label.Assign at op) x y) h = refl
expression_declares_nothing n s (Part l x y) h = absurd (cc)
