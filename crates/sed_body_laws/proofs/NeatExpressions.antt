-- What an expression comes to is neat, and of at most six nodes for each part of its source.
use Rattle.std.proofs.Common.{◌≤◌, ℕ, suc, ◌+◌, ◌*◌, Bool, List, [], Option, Some, None, arith}
use Rattle.sed_units.specs.declared.label.Label.TheVariants as label
use Rattle.sed_units.specs.declared.operators.PrefixOp.{PrefixOp}
use Rattle.sed_units.specs.declared.operators.PrefixOp.TheVariants as prefix
use Rattle.sed_units.specs.Tree.{Tree, Absent as NoTree, Part, tree_size}
use Rattle.sed_typed.specs.declared.kind.Kind.{Kind}
use Rattle.sed_typed.specs.declared.number.TypeNo.{TypeNo}
use Rattle.sed_typed.specs.declared.operators.Arithmetic.{Arithmetic}
use Rattle.sed_typed.specs.declared.operators.Arithmetic.TheVariants as arithmetic
use Rattle.sed_typed.specs.declared.operators.Gives.TheVariants.{Old, New}
use Rattle.sed_names.specs.Names.{Names}
use Rattle.sed_body_rules.specs.Operands.{form_of}
use Rattle.sed_body_rules.specs.Scope.{Scope}
use Rattle.sed_body_rules.specs.Stores.{arithmetic_of}
use Rattle.sed_terms.specs.declared.judged.Judged.{Judged}
use Rattle.sed_terms.specs.declared.judged.Judged.TheVariants.{Sound}
use Rattle.sed_terms.specs.Faults.{Marks, IfSound}
use Rattle.sed_terms.specs.Term.{Term, Absent}
use Rattle.sed_bodies.specs.declared.context.Body.{Body}
use Rattle.sed_bodies.specs.Calls.{row_length, kind_at, params_of, params_behind}
use Rattle.sed_bodies.specs.Members.{before_link, spelled_head}
use Rattle.sed_bodies.specs.Places.{place_of, may_name}
use Rattle.sed_bodies.specs.Expressions.{prefixed, counting, stored_by, super_method, judge, judge_args, judge_step, judge_class, judge_system, judge_links}
use Rattle.sed_body_laws.proofs.Sounds.{weaker}
use Rattle.sed_body_laws.proofs.DeepExpressions.{first_sound}
use Rattle.sed_body_laws.proofs.Members.{spelled_sound, spelled_head_sound}
use Rattle.sed_body_laws.proofs.NeatRules.{Tidy, up, negated_tidy, opposite_tidy, flipped_tidy, cast_tidy, operated_tidy, element_tidy, chosen_tidy, assigned_tidy, compound_tidy, counted_tidy}
use Rattle.sed_body_laws.proofs.NeatMembers.{literal_tidy, named_tidy, receiver_tidy, class_member_tidy, member_tidy, TidyRow, no_row, with_argument_tidy, own_call_tidy, super_called_tidy, class_call_tidy, called_tidy, system_tidy}

prefixed_tidy : {F : Type 0} (m : Marks F) (at : ℕ) (o : PrefixOp) (may : Bool) (right k : ℕ) (x : Judged Term F) →
    IfSound x (Tidy k) → IfSound (prefixed m at o may right x) (Tidy (2 + k))
prefixed_tidy m at prefix.Not may right k x f =
    up (suc (suc k)) (2 + k) (prefixed m at prefix.Not may right x) (omega arith) (negated_tidy m right k x f)
prefixed_tidy m at prefix.Minus may right k x f =
    up (suc k) (2 + k) (prefixed m at prefix.Minus may right x) (omega arith) (opposite_tidy m right k x f)
prefixed_tidy m at prefix.BitNot may right k x f =
    up (suc k) (2 + k) (prefixed m at prefix.BitNot may right x) (omega arith) (flipped_tidy m right k x f)
prefixed_tidy m at prefix.Increment may right k x f = counted_tidy m arithmetic.Add New at may right k x f
prefixed_tidy m at prefix.Decrement may right k x f = counted_tidy m arithmetic.Subtract New at may right k x f

stored_by_tidy : {F : Type 0} (m : Marks F) (n : Names) (a : Option Arithmetic) (at : ℕ) (may : Bool)
    (right k l : ℕ) (x y : Judged Term F) → IfSound x (Tidy k) → IfSound y (Tidy l) →
    IfSound (stored_by m n a at may right x y) (Tidy (2 + (k + l)))
stored_by_tidy m n None at may right k l x y f g = assigned_tidy m n.below at may right k l x y f g
stored_by_tidy m n (Some a) at may right k l x y f g = compound_tidy m a at may right k l x y f g

pub row_up : {F : Type 0} (k l : ℕ) (x : Judged Term F) → k ≤ l → IfSound x (TidyRow k) → IfSound x (TidyRow l)
row_up k l x p f = weaker (TidyRow k) (TidyRow l) x
    (λ t g. record { neat = g.neat; size = omega (arith, g.size, p); row = g.row }) f

-- six nodes for each part
abbrev pub room : Tree → ℕ
room t = 6 * tree_size t

mutual
  pub judged_tidy : {F : Type 0} (m : Marks F) (n : Names) (b : Body) (s : Scope) (t : Tree) →
      IfSound (judge m n b s t) (Tidy (room t))
  judged_tidy m n b s (Part (label.Literal l) x y) =
      up 1 (6 * (tree_size x + tree_size y + 1)) _ (omega arith) (literal_tidy m n l)
  judged_tidy m n b s (Part (label.This at) x y) =
      up 1 (6 * (tree_size x + tree_size y + 1)) _ (omega arith) (receiver_tidy m b at)
  judged_tidy m n b s (Part (label.Name id) x y) =
      up 2 (6 * (tree_size x + tree_size y + 1)) _ (omega arith)
      (spelled_sound m (Tidy 2) id _ (named_tidy m n b s id))
  judged_tidy m n b s (Part (label.Of kit id) x y) =
      spelled_sound m (Tidy (6 * (tree_size x + tree_size y + 1))) kit _
      (spelled_sound m (Tidy (6 * (tree_size x + tree_size y + 1))) id _ tt)
  judged_tidy m n b s (Part (label.Paren at) x y) =
      up (room x) (6 * (tree_size x + tree_size y + 1)) (judge m n b s x) (omega arith) (judged_tidy m n b s x)
  judged_tidy m n b s (Part (label.Prefix at o) x y) =
      up (2 + room x) (6 * (tree_size x + tree_size y + 1)) _ (omega arith)
      (prefixed_tidy m at o (may_name x) (place_of x) (room x) (judge m n b s x) (judged_tidy m n b s x))
  judged_tidy m n b s (Part (label.Cast at kind) x y) =
      up (suc (room x)) (6 * (tree_size x + tree_size y + 1)) _ (omega arith)
      (cast_tidy m at kind (place_of x) (room x) (judge m n b s x) (judged_tidy m n b s x))
  judged_tidy m n b s (Part (label.Update at o) x y) =
      up (2 + room x) (6 * (tree_size x + tree_size y + 1)) _ (omega arith)
      (counted_tidy m (counting o) Old at (may_name x) (place_of x) (room x) (judge m n b s x)
      (judged_tidy m n b s x))
  judged_tidy m n b s (Part (label.Conditional at) t (Part label.Both x y)) =
      up (7 + (room t + (room x + room y))) (6 * (tree_size t + (tree_size x + tree_size y + 1) + 1)) _ (omega arith)
      (chosen_tidy m (place_of t) (place_of x) (place_of y) (room t) (room x) (room y) (judge m n b s t)
      (judge m n b s x) (judge m n b s y) (judged_tidy m n b s t) (judged_tidy m n b s x) (judged_tidy m n b s y))
  judged_tidy m n b s (Part (label.Assign at o) x y) =
      up (2 + (room x + room y)) (6 * (tree_size x + tree_size y + 1)) _ (omega arith)
      (stored_by_tidy m n (arithmetic_of o) at (may_name x) (place_of y) (room x) (room y) (judge m n b s x)
      (judge m n b s y) (judged_tidy m n b s x) (judged_tidy m n b s y))
  judged_tidy m n b s (Part (label.Call id) args y) =
      up (2 + (0 + room args)) (6 * (tree_size args + tree_size y + 1)) _ (omega arith)
      (spelled_sound m (Tidy (2 + (0 + room args))) id _
      (own_call_tidy m b id.at (row_length args) (n.method b.class.0 id.bytes) (0 + room args)
      (judge_args m n b s id.at (params_of (n.method b.class.0 id.bytes)) 0 (Sound Absent) args)
      (judged_rows m n b s id.at (params_of (n.method b.class.0 id.bytes)) 0 (Sound Absent) args 0 (no_row 0))))
  judged_tidy m n b s (Part (label.Super at id) args y) =
      up (2 + (0 + room args)) (6 * (tree_size args + tree_size y + 1)) _ (omega arith)
      (spelled_sound m (Tidy (2 + (0 + room args))) id _
      (super_called_tidy m b at (row_length args) (super_method n b id.bytes) (0 + room args)
      (judge_args m n b s at (params_of (super_method n b id.bytes)) 0 (Sound Absent) args)
      (judged_rows m n b s at (params_of (super_method n b id.bytes)) 0 (Sound Absent) args 0 (no_row 0))))
  judged_tidy m n b s (Part (label.Chain at) x (Part label.More link links)) =
      up (room x + room link + room links) (6 * (tree_size x + (tree_size link + tree_size links + 1) + 1)) _
      (omega arith)
      (judged_links m n b s at _ links (room x + room link)
      (first_sound (Tidy (room x + room link)) (before_link n b s x link) (judge_step m n b s at (judge m n b s x) link)
      (λ class. spelled_head m x (judge_class m n b s at class link)) (judge_system m n b s at link)
      (judged_step m n b s at (judge m n b s x) link (room x) (judged_tidy m n b s x))
      (λ class. spelled_head_sound m (Tidy (room x + room link)) x _
      (up (room link) (room x + room link) _ (omega arith) (judged_class m n b s at class link)))
      (up (room link) (room x + room link) _ (omega arith) (judged_system m n b s at link))))
  judged_tidy m n b s (Part (label.Chain at) x NoTree) =
      up (room x) (6 * (tree_size x + 0 + 1)) (judge m n b s x) (omega arith) (judged_tidy m n b s x)
  judged_tidy m n b s t = tt

  judged_rows : {F : Type 0} (m : Marks F) (n : Names) (b : Body) (s : Scope) (at : ℕ) (params : List (Option Kind))
      (i : ℕ) (xs : Judged Term F) (t : Tree) (k : ℕ) → IfSound xs (TidyRow k) →
      IfSound (judge_args m n b s at params i xs t) (TidyRow (k + room t))
  judged_rows m n b s at params i xs (Part label.More t rest) k r =
      row_up (suc (k + suc (room t)) + room rest) (k + 6 * (tree_size t + tree_size rest + 1)) _ (omega arith)
      (judged_rows m n b s at params (suc i) _ rest (suc (k + suc (room t)))
      (with_argument_tidy m n at (kind_at params i) k (room t) xs (judge m n b s t) r (judged_tidy m n b s t)))
  judged_rows m n b s at params i xs t k r = row_up k (k + room t) xs (omega arith) r

  judged_step : {F : Type 0} (m : Marks F) (n : Names) (b : Body) (s : Scope) (at : ℕ) (x : Judged Term F) (t : Tree)
      (k : ℕ) → IfSound x (Tidy k) → IfSound (judge_step m n b s at x t) (Tidy (k + room t))
  judged_step m n b s at x (Part (label.Member p id) y z) k r =
      up (2 + k) (k + 6 * (tree_size y + tree_size z + 1)) _ (omega arith)
      (spelled_sound m (Tidy (2 + k)) id _ (member_tidy m n id k x r))
  judged_step m n b s at x (Part (label.Method p id) args z) k r =
      up (2 + (k + (0 + room args))) (k + 6 * (tree_size args + tree_size z + 1)) _ (omega arith)
      (spelled_sound m (Tidy (2 + (k + (0 + room args)))) id _
      (called_tidy m n id.bytes at (row_length args) k (0 + room args) x _ r
      (judged_rows m n b s at (params_behind n id.bytes x) 0 (Sound Absent) args 0 (no_row 0))))
  judged_step m n b s at x (Part (label.Index p) y z) k r =
      up (k + room y) (k + 6 * (tree_size y + tree_size z + 1)) _ (omega arith)
      (element_tidy m at (place_of y) k (room y) x (judge m n b s y) r (judged_tidy m n b s y))
  judged_step m n b s at x (Part (label.Operand p o) y z) k r =
      up (5 + (k + room y)) (k + 6 * (tree_size y + tree_size z + 1)) _ (omega arith)
      (operated_tidy m (form_of o) at (place_of y) k (room y) x (judge m n b s y) r (judged_tidy m n b s y))
  judged_step m n b s at x t k r = up k (k + room t) x (omega arith) r

  judged_class : {F : Type 0} (m : Marks F) (n : Names) (b : Body) (s : Scope) (at : ℕ) (class : TypeNo) (t : Tree) →
      IfSound (judge_class m n b s at class t) (Tidy (room t))
  judged_class m n b s at class (Part (label.Member p id) y z) =
      up 1 (6 * (tree_size y + tree_size z + 1)) _ (omega arith)
      (spelled_sound m (Tidy 1) id _ (class_member_tidy m id.at (n.member class.0 id.bytes)))
  judged_class m n b s at class (Part (label.Method p id) args z) =
      up (suc (0 + room args)) (6 * (tree_size args + tree_size z + 1)) _ (omega arith)
      (spelled_sound m (Tidy (suc (0 + room args))) id _
      (class_call_tidy m id.at at (row_length args) (n.method class.0 id.bytes) (0 + room args) _
      (judged_rows m n b s at (params_of (n.method class.0 id.bytes)) 0 (Sound Absent) args 0 (no_row 0))))
  judged_class m n b s at class t = tt

  judged_system : {F : Type 0} (m : Marks F) (n : Names) (b : Body) (s : Scope) (at : ℕ) (t : Tree) →
      IfSound (judge_system m n b s at t) (Tidy (room t))
  judged_system m n b s at (Part (label.Member p id) y z) =
      spelled_sound m (Tidy (6 * (tree_size y + tree_size z + 1))) id _ tt
  judged_system m n b s at (Part (label.Method p id) args z) =
      up 1 (6 * (tree_size args + tree_size z + 1)) _ (omega arith)
      (spelled_sound m (Tidy 1) id _ (system_tidy m id.bytes at (row_length args)
      (judge_args m n b s at [] 0 (Sound Absent) args)))
  judged_system m n b s at t = tt

  judged_links : {F : Type 0} (m : Marks F) (n : Names) (b : Body) (s : Scope) (at : ℕ) (x : Judged Term F) (t : Tree)
      (k : ℕ) → IfSound x (Tidy k) → IfSound (judge_links m n b s at x t) (Tidy (k + room t))
  judged_links m n b s at x NoTree k r = up k (k + 6 * 0) x (omega arith) r
  judged_links m n b s at x (Part l link links) k r =
      up (k + room link + room links) (k + 6 * (tree_size link + tree_size links + 1)) _ (omega arith)
      (judged_links m n b s at _ links (k + room link) (judged_step m n b s at x link k r))
