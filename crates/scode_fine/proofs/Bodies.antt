-- The code of a typed body is walked along to its end, behind which nothing stands.
use Rattle.std.proofs.Common.{◌≡◌, ◌≤◌, ℕ, ◌+◌, max, false, [], ◌∷◌, length, Some, None, refl, sym, subst, ◌∙◌, arith}
use Rattle.sed_typed.specs.declared.kind.Kind.{Kind}
use Rattle.sed_typed.specs.declared.kind.Kind.TheVariants as kind
use Rattle.sed_typed.specs.declared.statement.Stmt.{Stmt}
use Rattle.sed_typed.specs.TypedExpr.{Context, IsKindOf}
use Rattle.sed_typed.specs.TypedStmt.{IsStmt}
use Rattle.scode_image.specs.declared.image.ImageKind.{ImageKind}
use Rattle.scode_code.specs.CodeRules.{result_differs}
use Rattle.scode_whole.proofs.Truths.{no_truth}
use Rattle.scode_ops.specs.declared.op.Op.TheVariants as op
use Rattle.scode_ops.specs.Decoding.{size_of}
use Rattle.scode_emit.specs.Code.{body_code, end_code, stmt_code}
use Rattle.scode_emit.specs.Instructions.{zero_op}
use Rattle.scode_emit.specs.Sizes.{stmt_size}
use Rattle.scode_emit.specs.Site.{Site}
use Rattle.scode_emit.proofs.Sized.{stmt_sized}
use Rattle.scode_entries.specs.Entries.{cell_of, stmt_marks}
use Rattle.scode_entries.specs.Stack.{stmt_stack}
use Rattle.scode_entries.proofs.Admits.{Each}
use Rattle.scode_sim.proofs.Frames.{IsSolid}
use Rattle.scode_fine.proofs.Builds.{answer_does, return_does}
use Rattle.scode_fine.proofs.Exprs.{Tells, behind}
use Rattle.scode_fine.proofs.Facts.{Facts}
use Rattle.scode_fine.proofs.Parts.{zero_does}
use Rattle.scode_fine.proofs.Stmts.{Exits, stmt_walks, turns_of}
use Rattle.scode_fine.proofs.Walks.{Ground, Walks, here, onto, only, runs}

module _ (g : Ground) (c : Context) (w : Site) (f : Facts g c w) where
  solid_end : (at : ℕ) (k : Kind) → IsSolid k → c.result ≡ k → 1 ≤ g.m.stack →
      Walks g at (Some []) (zero_op k ∷ op.ReturnValue ∷ []) [] [] None
  solid_end at k s e low =
      let not_void : c.result ≡ kind.Void → ⊥ = (λ v. subst IsSolid (sym e ∙ v) s) in
      let known : IsKindOf c.program k = subst (λ (x : Kind). IsKindOf c.program x) e f.ends in
      let answers : result_differs g.image g.m (here g (cell_of k ∷ [])) op.ReturnValue ≡ false =
      subst (λ (x : Kind). result_differs g.image g.m (here g (cell_of x ∷ [])) op.ReturnValue ≡ false) e
      (f.answers_own [] not_void) in
      let none : length {A = ImageKind} [] ≤ g.m.stack = omega arith in
      runs (zero_does g c w f k [] s known at none low)
      (only (answer_does g (at + size_of (zero_op k)) (cell_of k) [] answers low))

  end_walks : (at : ℕ) (k : Kind) → c.result ≡ k → 1 ≤ g.m.stack → Walks g at (Some []) (end_code k) [] [] None
  end_walks at kind.Void e low =
      let none : length {A = ImageKind} [] ≤ g.m.stack = omega arith in only (return_does g at [] (f.returns [] e) none)
  end_walks at kind.Bool e low = solid_end at kind.Bool tt e low
  end_walks at kind.Int e low = solid_end at kind.Int tt e low
  end_walks at kind.Long e low = solid_end at kind.Long tt e low
  end_walks at kind.Text e low = solid_end at kind.Text tt e low
  end_walks at (kind.Object class) e low = solid_end at (kind.Object class) tt e low

  pub body_walks : (body : Stmt) → IsStmt c (record { breaks = false; continues = false }) body →
      Each (Tells g c w f) (stmt_marks w 0 body) → Each g.Turned (turns_of w 0 body) → max 1 (stmt_stack body) ≤ g.m.stack →
      Walks g 0 (Some []) (body_code w c.result (Some body)) (stmt_marks w 0 body) (turns_of w 0 body) None
  body_walks body h t u le =
      let exits : Exits g (record { breaks = false; continues = false }) (0 + stmt_size w body) 0 0 = record {
        breaks = λ e. no_truth e;
        continues = λ e. no_truth e;
      } in
      onto (stmt_walks g c w f (record { breaks = false; continues = false }) 0 0 0 body h t u le exits)
      (behind 0 (stmt_size w body) (stmt_code w 0 0 0 body) (stmt_sized w 0 0 0 body))
      (end_walks (0 + stmt_size w body) c.result refl (omega (arith, le)))
