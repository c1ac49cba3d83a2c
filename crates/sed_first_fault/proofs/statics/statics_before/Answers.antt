use Rattle.std.proofs.Common.{◌≡◌, ◌+◌, ℕ, map, [], ◌∷◌, ◌++◌, sym, ap, ◌∙◌, arith}
use Rattle.std.specs.List.{range_with_len}
use Rattle.std.proofs.lemmas.List.FromFn.{map-range_with_len_more}
use Rattle.sed_classes.specs.Declarations.{all_classes}
use Rattle.sed_classes.specs.LimitRules.{statics_before, statics_of}
use Rattle.sed_outline.specs.Rounds.{capped}
use Rattle.sed_first_fault.proofs.Capped.{found_step}
use Rattle.sed_first_fault.proofs.statics.statics_before.Goals as goal

pub loop-class-preserved : goal.loop-class-preserved
loop-class-preserved c =
    let class = c.loop-class.class in
    let at : 0 + class ≡ class = omega arith in
    let before : ℕ → ℕ = λ k. capped (statics_before c.args.measured.now k) in
    record {
      sum = found_step
          (statics_of c.args.measured.now)
          class
          (all_classes c.args.measured.now)
          c.loop-class.before
          c.add-before.result
          c.class_statics.result
          c.class_statics.ensures
          c.add-before.ensures
          c.loop-class.invariant.sum;
      so_far = c.in_ok-push.ensures.items
          ∙ ap (λ xs. xs ++ c.loop-class.before ∷ []) c.loop-class.invariant.so_far
          ∙ ap (λ b. map before (range_with_len 0 class) ++ b ∷ []) c.loop-class.invariant.sum
          ∙ sym (map-range_with_len_more before 0 class class at);
    }
