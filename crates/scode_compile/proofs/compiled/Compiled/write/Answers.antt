use Rattle.std.proofs.Common.{◌≡◌, ◌∙◌, ◌++◌, List, ℕ, Ok, Err, Result, subst, sym}
use Rattle.std.specs.Prelude.{OnOk}
use Rattle.sed_typed.specs.declared.program.Program.{Program}
use Rattle.sed_engine.specs.Carries.{Carries}
use Rattle.sed_engine.specs.Program.{code_of, meaning_of}
use Rattle.scode_image.specs.declared.image.Image.{Image}
use Rattle.scode_image.specs.Grammar.{IsImage}
use Rattle.scode_code.specs.Faults.{IsVerified}
use Rattle.scode_code.specs.Image as made
use Rattle.scode_gen.specs.Generated.{image_of}
use Rattle.scode_compile.specs.Compiled.{IsImageOf}
use Rattle.scode_compile.specs.Right.{HasRightImage}
use Rattle.scode_compile.proofs.compiled.Compiled.write.Goals as goal

on_ok : {E : Type 0} (P Q : Type 0) (r : Result (Unit {0}) E) → (P → Q) → OnOk r P → OnOk r Q
on_ok P Q (Ok done) f p = f p
on_ok P Q (Err refusal) f p = tt

pub returns-clause-ok : goal.returns-clause-ok
returns-clause-ok c =
    let own : Program = c.self.inside.program in
    let right : HasRightImage own = c.image_is_right.ensures c.self.invariant.short in
    let is : c.image.result.now ≡ image_of own = c.image.ensures.image ∙ c.self.invariant.image_is in
    let verified : IsVerified c.image.result.now = subst IsVerified (sym is) right.verified in
    let carries : Carries (made.code_of c.image.result.now) (code_of own) =
    subst (λ (image : Image). Carries (made.code_of image) (code_of own)) (sym is) right.carries in
    let same : own ≡ c.args.self.now = c.self.view_is in
    on_ok
    ((text : List ℕ) × IsImage text c.image.result.now × (c.write_image.new.into.items ≡ c.args.into.now.items ++ text))
    ((text : List ℕ) × IsImageOf c.args.self.now text × (c.write_image.new.into.items ≡ c.args.into.now.items ++ text))
    c.write_image.result
    (λ put. (
      put.0,
      subst (λ (p : Program). IsImageOf p put.0) same (record {
        image = c.image.result.now;
        is_text = put.1;
        verified = verified;
        carries = carries;
        means = subst (λ (image : Image). made.meaning_of image ≡ meaning_of own) (sym is) right.means;
      }),
      put.2,
    )) c.write_image.ensures.ok
