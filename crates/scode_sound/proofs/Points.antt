-- What holds of each point that a verified image reaches, and how many steps are left there at most.
use Rattle.std.proofs.Common.{◌≡◌, ◌<◌, ◌≤◌, ◌==◌, ◌&&◌, ℕ, zero, suc, true, false, List, [], ◌∷◌, length, Option, Some, refl, sym, ap, subst, ◌∙◌, arith}
use Rattle.std.specs.Prelude.{slice_get}
use Rattle.std.specs.Option.{option_map_or}
use Rattle.std.proofs.lemmas.Bool.{and_parts}
use Rattle.scode_ops.specs.declared.op.Op.{Op}
use Rattle.scode_ops.specs.Decoding.{op_at}
use Rattle.scode_image.specs.declared.image.ImageKind.{ImageKind}
use Rattle.scode_image.specs.declared.image.ImageMethod.{ImageMethod}
use Rattle.scode_code.specs.CodeRules.{is_start}
use Rattle.scode_code.specs.Fields.{Setting}
use Rattle.scode_code.specs.Kinds.{Shape, void, all_go, goes_to}
use Rattle.scode_code.specs.Machine.{Point}
use Rattle.scode_code.specs.Steps.{code_of}
use Rattle.scode_code.specs.Verified.{IsVerifiedBy, Leads, Shapes, Stands}
use Rattle.scode_whole.proofs.Truths.{no_truth, same_value, two}
use Rattle.scode_sound.specs.Fine.{AtPlace, Fine, result_of}
use Rattle.scode_sound.specs.Potential.{left_at, left_of, longest, potential}
use Rattle.scode_sound.proofs.Left.{at_most, longest_is_most}

module _ (w : Setting) where
  pub code_is : (method : ℕ) (m : ImageMethod) → slice_get w.image.methods method ≡ Some m
      → code_of w.image method ≡ m.code
  code_is method m e = ap (λ (o : Option ImageMethod). option_map_or (λ (x : ImageMethod). x.code) o []) e

  pub result_is : (method : ℕ) (m : ImageMethod) → slice_get w.image.methods method ≡ Some m
      → result_of w method ≡ m.result
  result_is method m e = ap (λ (o : Option ImageMethod). option_map_or (λ (x : ImageMethod). x.result) o void) e

  pub left_most : (method place : ℕ) (m : ImageMethod) → slice_get w.image.methods method ≡ Some m
      → left_of w method place ≤ longest w
  left_most method place m e =
      let same : left_of w method place ≡ left_at m.code place =
      ap (λ (code : List ℕ). left_at code place) (code_is method m e) in
      let most = at_most m.code place in
      let long = longest_is_most w.image.methods method m e in
      omega (arith, same, most, long)

  pub go_length : (ks ls : List ImageKind) → all_go w.image ks ls ≡ true → length ks ≡ length ls
  go_length [] [] h = refl
  go_length [] (l ∷ ls) h = no_truth h
  go_length (k ∷ ks) [] h = no_truth h
  go_length (k ∷ ks) (l ∷ ls) h = ap suc (go_length ks ls (and_parts (goes_to w.image k l) (all_go w.image ks ls) h).1)

  pub goes_parts : (a b : Shape) → (all_go w.image a.locals b.locals && all_go w.image a.stack b.stack) ≡ true
      → (all_go w.image a.locals b.locals ≡ true) × (all_go w.image a.stack b.stack ≡ true)
  goes_parts a b h = two (all_go w.image a.locals b.locals) (all_go w.image a.stack b.stack) h

pub positive : (n : ℕ) → (n == 0) ≡ false → 0 < n
positive zero h = no_truth (sym h)
positive (suc n) h = omega arith

module _ (w : Setting) (given : ℕ) (shapes : Shapes) where
  pub record Better (n : ℕ) (q : Point) : Type 0 where
    pub fine : Fine w given shapes q
    pub less : potential w q < n

  pub reached_at : (method place : ℕ) (m : ImageMethod) (s : Shape) → slice_get w.image.methods method ≡ Some m
      → is_start m.code place ≡ true → length s.locals ≡ length m.locals
      → (l : Leads w.image shapes method place s) → AtPlace w shapes method place l.reached
  reached_at method place m s e start many l = record {
    m = m;
    known = e;
    stands = l.stands;
    start = start;
    many = sym (go_length w s.locals l.reached.locals (goes_parts w s l.reached l.goes).0) ∙ many;
  }

  -- the code at a place to which a shape leads
  pub code_there : IsVerifiedBy w.image shapes → (method place : ℕ) (m : ImageMethod) (s : Shape)
      → slice_get w.image.methods method ≡ Some m
      → Leads w.image shapes method place s → (j : Op) × (op_at m.code place ≡ Some j)
  code_there verified method place m s e l =
      let st : Stands w.image shapes method place l.reached = verified.each method place l.reached l.stands in
      let same : st.m ≡ m = same_value st.m m (sym st.there ∙ e) in
      (st.i, subst (λ (x : ImageMethod). op_at x.code place ≡ Some st.i) same st.instruction)
