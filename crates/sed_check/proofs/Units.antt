-- Units that spelled tokens derive are read.
use Rattle.std.proofs.Common.{IsTrue, IfSome, List, Option, codes}
use Rattle.sed_value.specs.Names.{is_identifier}
use Rattle.sed_units.specs.declared.leaves.Init.{Init}
use Rattle.sed_units.specs.declared.classes.Member.{Member}
use Rattle.sed_units.specs.declared.classes.MemberForm.{MemberForm}
use Rattle.sed_parser.specs.Leaves as part
use Rattle.sed_parser.specs.Statements.{statement}
use Rattle.sed_parser.specs.Classes.{facets, modifiers, params, own_statements, body, method, field_value, member_form, member, next_member, members, base, class, next_class, classes}
use Rattle.sed_classes.specs.Bodies.{nodes_of, texts_of}
use Rattle.sed_classes.specs.Members.{form_body, form_value}
use Rattle.sed_units.specs.Tree.{Tree}
use Rattle.sed_check.specs.Read.{IsLexed, IsLexedValue, IsLexedInit, IsReadMember, IsReadClass}
use Rattle.sed_check.proofs.Kept.{Each, all_of, Keeps, gives, in_order, past, either, several}
use Rattle.sed_check.proofs.Spelled.{literal_kept, ident_kept}
use Rattle.sed_check.proofs.Trees.{IsLexedTree, lexed_body, lexed_texts}
use Rattle.sed_check.proofs.Expressions.{AllKept}
use Rattle.sed_check.proofs.Statements.{statements_kept, statement_kept}

-- ---- initial values

init_value_kept : Keeps part.init_value.holds IsLexedValue
unfolding part.init_value
init_value_kept = either
    (past (part.mark (codes "-")) (λ u. in_order literal_kept (λ l h. gives h)))
    (either (in_order literal_kept (λ l h. gives h)) (past part.ident (λ name. gives tt)))

initial_kept : Keeps part.initial.holds (λ (i : Init). IsLexedValue i.value)
unfolding part.initial
initial_kept = past part.place (λ at. in_order init_value_kept (λ value h. gives h))

field_value_kept : Keeps field_value.holds IsLexedInit
unfolding field_value
field_value_kept = either
    (past (part.mark (codes "=")) (λ u. in_order initial_kept (λ value h. gives h)))
    (gives tt)

-- ---- bodies

own_statements_kept : AllKept own_statements
unfolding own_statements
own_statements_kept = statements_kept (statement 64) (statement_kept 64)

abbrev IsLexedBody : Option (List Tree) → Type 0
IsLexedBody b = IfSome b (Each IsLexedTree)

body_kept : Keeps body.holds IsLexedBody
unfolding body
body_kept = either
    (past (part.mark (codes "{")) (λ u. in_order own_statements_kept (λ ss h.
    past (part.mark (codes "}")) (λ v. gives h))))
    (past part.end (λ u. gives tt))

-- ---- members, classes and units

record IsLexedForm (f : MemberForm) : Type 0 where
  pub value : IsLexedInit (form_value f)
  pub body : IsLexedBody (form_body f)

method_kept : Keeps method.holds IsLexedForm
unfolding method
method_kept = past params (λ ps. in_order body_kept (λ ss h. gives (record { value = tt; body = h })))

member_form_kept : Keeps member_form.holds IsLexedForm
unfolding member_form
member_form_kept = either method_kept
    (in_order field_value_kept (λ value h. past part.end (λ u. gives (record { value = h; body = tt }))))

is_read : (m : Member) → IsTrue (is_identifier m.name.bytes) → IsLexedForm m.form → IsReadMember m
is_read m name f = record {
  name = name;
  value = f.value;
  texts = all_of IsLexed (texts_of m) (lexed_texts (nodes_of m) (lexed_body (form_body m.form) f.body));
}

member_kept : Keeps member.holds IsReadMember
unfolding member
member_kept = past part.place (λ at. past facets (λ fs. past modifiers (λ ms. past part.type_of (λ kind.
    in_order ident_kept (λ name n. in_order member_form_kept (λ f h. gives (is_read _ n h)))))))

members_kept : Keeps members.holds (Each IsReadMember)
unfolding members
members_kept = several next_member member_kept

class_kept : Keeps class.holds IsReadClass
unfolding class
class_kept = past part.place (λ at. past facets (λ fs. past modifiers (λ ms. past (part.key (codes "class")) (λ u.
    in_order ident_kept (λ name n. past base (λ b. past (part.mark (codes "{")) (λ v. in_order members_kept (λ xs h.
    past (part.mark (codes "}")) (λ w. gives (record { name = n; members = all_of IsReadMember xs h }))))))))))

pub classes_kept : Keeps classes.holds (Each IsReadClass)
unfolding classes
classes_kept = several next_class class_kept
