use Rattle.std.proofs.Common.{◌≡◌, ℕ, All, true, rules, map, subst, sym, ap, ◌∙◌}
use Rattle.sed_classes.specs.Members.{members_of}
use Rattle.sed_typed.specs.declared.program.Method.{Method}
use Rattle.sed_outline.specs.Fits.{IsNamed}
use Rattle.sed_outline.proofs.Fitting.{fits}
use Rattle.sed_program.specs.Fields.{fields_of, statics_of}
use Rattle.sed_program.specs.Methods.{methods_of}
use Rattle.sed_program.specs.Outlined.{AreHeads}
use Rattle.sed_program.specs.Texts.{program_texts}
use Rattle.sed_check.specs.Bodies.{AreBodies}
use Rattle.sed_check.specs.Parts.{AreMethods}
use Rattle.sed_check.proofs.Made.{made_heads}
use Rattle.sed_check.proofs.outcomes.program.Goals as goal

pub fields-requires : goal.fields-requires
fields-requires c =
    subst
    (λ u. (k : ℕ) → All IsNamed (members_of u k))
    (sym (c.ordered.ensures ∙ c.requires.same))
    (fits c.args.units.now c.requires.unbroken).named

pub statics-requires : goal.statics-requires
statics-requires c =
    subst
    (λ u. (k : ℕ) → All IsNamed (members_of u k))
    (sym (c.ordered-2.ensures ∙ c.requires.same))
    (fits c.args.units.now c.requires.unbroken).named

pub returns : goal.returns
returns c =
    let units = c.args.units.now in
    let known : c.args.bodies.are_known ≡ true = search rules in
    let made : AreMethods units c.args.bodies.trees.items c.in_ok-methods.methods.items =
    subst
    (λ u. AreMethods u c.args.bodies.trees.items c.in_ok-methods.methods.items)
    c.requires.same
    c.in_ok-methods.ensures in
    let heads = made_heads
    units
    c.args.bodies.trees.items
    c.in_ok-methods.methods.items
    made
    (c.requires.trees known) in
    record {
      outlined = record {
        schema = c.in_ok-schema.ensures;
        fields = c.new-2.ensures ∙ c.in_ok-fields.ensures ∙ ap fields_of (c.ordered.ensures ∙ c.requires.same);
        statics = c.new-3.ensures ∙ c.in_ok-statics.ensures ∙ ap statics_of (c.ordered-2.ensures ∙ c.requires.same);
        texts = c.new-4.ensures ∙ c.in_ok-texts.ensures.items ∙ c.texts.ensures ∙ ap program_texts c.requires.same;
        methods = subst (AreHeads units (methods_of units)) (sym c.new.ensures) heads.0;
      };
      bodies =
          subst
          (λ ms. AreBodies units (methods_of units) (map (λ (m : Method). m.body) ms))
          (sym c.new.ensures)
          heads.1;
    }
