use Rattle.std.proofs.Common.{◌≡◌, ◌∙◌, ℕ, suc, ◌+◌, ◌-◌, List, [], ◌∷◌, ◌++◌, replicate, sym, ap, arith, append_assoc}
use Rattle.sed_value.specs.declared.value.Value.{Value}
use Rattle.sed_typed.specs.declared.program.FieldForm.TheVariants.{Prim}
use Rattle.sed_cells.specs.declared.layout.Node.{Node}
use Rattle.sed_cells.specs.Cells.{start_of}
use Rattle.sed_cells.specs.Layouts.{children, starts, node_of, element_of}
use Rattle.sed_cells.proofs.layout.push_elements.Goals as goal

pub loop-step-preserved : goal.loop-step-preserved
loop-step-preserved c =
    let rest : ℕ = c.args.count - (c.loop-step.step + 1) in
    let left : c.args.count - c.loop-step.step ≡ suc rest = omega arith in
    let e = element_of c.args.prim in
    let more : List Node = children c.args.parent (c.loop-step.step + 1) c.args.room (replicate rest e) in (
      ap (λ (ns : List Node). ns ++ more) c.in_ok-push_piece.ensures.nodes
          ∙ append_assoc c.loop-step.nodes.items (node_of c.args.parent c.loop-step.step c.args.room (Prim c.args.prim) ∷ []) more
          ∙ ap (λ (n : ℕ). c.loop-step.nodes.items ++ children c.args.parent c.loop-step.step c.args.room (replicate n e)) (sym left)
          ∙ c.loop-step.invariant.0,
      ap (λ (vs : List Value). vs ++ starts (replicate rest e)) c.in_ok-push_piece.ensures.values
          ∙ append_assoc c.loop-step.fresh (start_of (Prim c.args.prim) c.zero_value-zero.result ∷ []) (starts (replicate rest e))
          ∙ ap (λ (v : Value). c.loop-step.fresh ++ start_of (Prim c.args.prim) v ∷ starts (replicate rest e)) c.zero_value-zero.ensures
          ∙ ap (λ (n : ℕ). c.loop-step.fresh ++ starts (replicate n e)) (sym left)
          ∙ c.loop-step.invariant.1,
    )
