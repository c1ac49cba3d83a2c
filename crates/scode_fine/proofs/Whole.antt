-- No method of the image of a typed program breaks a rule on code.
use Rattle.std.proofs.Common.{◌≡◌, ◌≤◌, ℕ, max, true, false, List, [], ◌∷◌, ◌++◌, length, map, Option, Some, None, refl, sym, ap, subst, ◌∙◌, arith}
use Rattle.std.specs.Prelude.{All, IfSome, is_none, slice_get}
use Rattle.std.specs.Option.{option_map}
use Rattle.std.proofs.lemmas.List.Elements.{All-head, All-tail}
use Rattle.std.proofs.lemmas.Option.{slice_get-map}
use Rattle.sed_typed.specs.declared.program.Method.{Method}
use Rattle.sed_typed.specs.declared.program.Program.{Program}
use Rattle.sed_typed.specs.declared.statement.Stmt.{Stmt}
use Rattle.sed_typed.specs.Typed.{IsBody, IsMethod}
use Rattle.scode_image.specs.declared.image.Image.{Image}
use Rattle.scode_image.specs.declared.image.ImageMethod.{ImageMethod}
use Rattle.scode_ops.specs.declared.op.Op.{Op}
use Rattle.scode_ops.specs.Codes.{IsOp}
use Rattle.scode_ops.specs.Decoding.{op_at}
use Rattle.scode_code.specs.Breaks as breaks
use Rattle.scode_code.specs.Breaks.{BreaksNone, CodeBreaks}
use Rattle.scode_code.specs.CodeRules.{is_abstract}
use Rattle.scode_code.specs.TableRules.{tables_agree}
use Rattle.scode_code.proofs.Places.{none_some, some_eq}
use Rattle.scode_whole.proofs.Truths.{no_truth}
use Rattle.scode_emit.specs.Code.{body_code, bytes_of}
use Rattle.scode_emit.specs.Method.{code_of, site_of}
use Rattle.scode_emit.specs.Site.{Layout}
use Rattle.scode_emit.proofs.Counts.{count, count-bytes}
use Rattle.scode_entries.specs.declared.marks.Mark.{Mark}
use Rattle.scode_entries.specs.Entries.{body_marks, each_once, mark, stmt_marks}
use Rattle.scode_entries.specs.Method.{entry_of, image_method, local_kinds}
use Rattle.scode_entries.specs.Stack.{body_stack, stmt_stack}
use Rattle.scode_made.proofs.MadeMethods.{by_two}
use Rattle.scode_fine.proofs.Bodies.{body_walks}
use Rattle.scode_fine.proofs.Clean.{clean}
use Rattle.scode_fine.proofs.Exprs.{Tells}
use Rattle.scode_fine.proofs.Facts.{Facts}
use Rattle.scode_fine.proofs.Grounds.{context, facts, ground}
use Rattle.scode_fine.proofs.Has.{Has, each_of}
use Rattle.scode_fine.proofs.Images.{Known}
use Rattle.scode_fine.proofs.MarkEntries.{marks_enter}
use Rattle.scode_fine.proofs.Methods.{method_is}
use Rattle.scode_fine.proofs.Orders.{ordered}
use Rattle.scode_fine.proofs.Points.{Coded}
use Rattle.scode_fine.proofs.Stmts.{turns_of}
use Rattle.scode_fine.proofs.Walks.{Ground, Stack, Walks}

-- an instruction that has an encoding stands among bytes behind those before it
abbrev pub Stand : Type 0
Stand = (before behind : List Op) (i : Op) → IsOp i →
    op_at (bytes_of (before ++ i ∷ behind)) (length (bytes_of before)) ≡ Some i

middle : (before behind : List Op) (i : Op) → All IsOp (before ++ i ∷ behind) → IsOp i
middle [] behind i all = All-head IsOp i behind all
middle (j ∷ before) behind i all = middle before behind i (All-tail IsOp j (before ++ i ∷ behind) all)

coded : Stand → (m : ImageMethod) (whole : List Op) → m.code ≡ bytes_of whole → All IsOp whole → Coded m whole
coded stand m whole e all = record {
  long = ap (λ (code : List ℕ). length code) e ∙ count-bytes whole;
  stands = λ before behind i split.
      let op_is : IsOp i = middle before behind i (subst (λ (ops : List Op). All IsOp ops) split all) in
      ap (λ (code : List ℕ). op_at code (count before)) e
      ∙ ap (λ (ops : List Op). op_at (bytes_of ops) (count before)) split
      ∙ ap (λ (n : ℕ). op_at (bytes_of (before ++ i ∷ behind)) n) (sym (count-bytes before))
      ∙ stand before behind i op_is;
}

module _ (program : Program) (layout : Layout) (image : Image) (known : Known program layout image) (stand : Stand) where
  -- what is told of the stacks of a body, and its turns
  abbrev all_of : Method → Stmt → List Mark
  all_of m body = stmt_marks (site_of program layout m) 0 body

  abbrev turned : Method → Stmt → List ℕ
  turned m body = turns_of (site_of program layout m) 0 body

  abbrev told_in : Method → Stmt → ℕ → Stack → Type 0
  told_in m body place stack = Has (all_of m body) (mark place stack)

  abbrev turned_in : Method → Stmt → ℕ → Type 0
  turned_in m body place = Has (turned m body) place

  abbrev code_with : Method → Option Stmt → List Op
  code_with m o = body_code (site_of program layout m) m.result o

  module _ (n : ℕ) (m : Method) (body : Stmt) (at : slice_get program.methods n ≡ Some m) (is : m.body ≡ Some body) where
    fine : IsMethod program m
    fine = method_is program layout image known n m at

    typed_body : IsBody program m body
    typed_body = subst (λ (o : Option Stmt). IfSome o (IsBody program m)) is fine.body

    abbrev on : Ground
    on = ground program layout m typed_body.storable image known fine (told_in m body) (turned_in m body)

    abbrev told : Facts on (context program layout m typed_body.storable image known fine (told_in m body) (turned_in m body)) (site_of program layout m)
    told = facts program layout m typed_body.storable image known fine (told_in m body) (turned_in m body)

    low : max 1 (stmt_stack body) ≤ on.m.stack
    low =
        let same : body_stack m.body ≡ max 1 (stmt_stack body) = ap (λ (o : Option Stmt). body_stack o) is in
        subst (λ (n : ℕ). max 1 (stmt_stack body) ≤ n) (sym same) (omega arith)

    walk : Walks on 0 (Some []) (code_with m (Some body)) (all_of m body) (turned m body) None
    walk =
        body_walks on (context program layout m typed_body.storable image known fine (told_in m body) (turned_in m body)) (site_of program layout m) told
        body typed_body.typed
        (each_of (Tells on (context program layout m typed_body.storable image known fine (told_in m body) (turned_in m body)) (site_of program layout m) told) (all_of m body) (λ k h. h))
        (each_of (turned_in m body) (turned m body) (λ t h. h)) low

    body_clean : All IsOp (code_of program layout m) → (place rule : ℕ) → CodeBreaks image (image_method program layout m) place rule → ⊥
    body_clean spelled =
        clean on (code_with m (Some body)) (all_of m body) (turned m body) (record {
          coded = coded stand (image_method program layout m) (code_with m (Some body)) (ap (λ (o : Option Stmt). bytes_of (code_with m o)) is)
              (subst (λ (o : Option Stmt). All IsOp (code_with m o)) is spelled);
          entered = marks_enter on (all_of m body)
              (ap (λ (o : Option Stmt). map (entry_of (local_kinds m)) (each_once (body_marks (site_of program layout m) o))) is);
          ordered = ordered program known.typed known.few image known.schema known.tables;
          walk = walk;
          told = λ place stack h. h;
          turns = λ place h. h;
        })

  -- an abstract method has no body, and the others have one
  method_clean : (n : ℕ) (m : Method) → slice_get program.methods n ≡ Some m → is_abstract (image_method program layout m) ≡ false →
      All IsOp (code_of program layout m) → (place rule : ℕ) → CodeBreaks image (image_method program layout m) place rule → ⊥
  method_clean n m at concrete spelled = by_body m.body refl
    where
      none_is : m.body ≡ None → is_abstract (image_method program layout m) ≡ true
      none_is e = by_two m.is_static (is_none m.body) ∙ ap (λ (o : Option Stmt). is_none o) e

      by_body : (o : Option Stmt) → m.body ≡ o → (place rule : ℕ) → CodeBreaks image (image_method program layout m) place rule → ⊥
      by_body None e = no_truth (sym concrete ∙ none_is e)
      by_body (Some body) e = body_clean n m body at e spelled

  pub none_breaks : image.methods ≡ map (image_method program layout) program.methods → tables_agree image ≡ true →
      ((n : ℕ) (m : Method) → slice_get program.methods n ≡ Some m → All IsOp (code_of program layout m)) → BreaksNone image
  none_breaks same agree spelled method place rule (breaks.tables other) = no_truth (sym other ∙ agree)
  none_breaks same agree spelled method place rule (breaks.code n p r x agreed there concrete broken) =
      by_method (slice_get program.methods n) refl
    where
      made : slice_get image.methods n ≡ option_map (image_method program layout) (slice_get program.methods n)
      made =
          ap (λ (xs : List ImageMethod). slice_get xs n) same
          ∙ slice_get-map (image_method program layout) program.methods n

      by_method : (o : Option Method) → slice_get program.methods n ≡ o → ⊥
      by_method None e =
          none_some x (sym (ap (λ (o : Option Method). option_map (image_method program layout) o) e) ∙ sym made ∙ there)
      by_method (Some m) e =
          let is : image_method program layout m ≡ x =
          some_eq (image_method program layout m) x
          (sym (ap (λ (o : Option Method). option_map (image_method program layout) o) e) ∙ sym made ∙ there) in
          method_clean n m e (subst (λ (y : ImageMethod). is_abstract y ≡ false) (sym is) concrete) (spelled n m e) p r
          (subst (λ (y : ImageMethod). CodeBreaks image y p r) (sym is) broken)
