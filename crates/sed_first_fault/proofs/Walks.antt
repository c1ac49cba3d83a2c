-- What is noted of a tree is what stands in its nodes, one after another.
use Rattle.std.proofs.Common.{◌≡◌, ℕ, List, [], ◌∷◌, ◌++◌, Option, Some, None, refl, sym, ap, ◌∙◌}
use Rattle.std.specs.List.{cons_option, filter_map, flat_map}
use Rattle.std.specs.Option.{option_to_list}
use Rattle.sed_units.specs.declared.label.Label.{Label}
use Rattle.sed_units.specs.declared.label.Label.TheVariants as label
use Rattle.sed_units.specs.declared.leaves.Literal.{Literal}
use Rattle.sed_units.specs.declared.leaves.LiteralKind.{LiteralKind}
use Rattle.sed_units.specs.declared.leaves.LiteralKind.TheVariants as literal
use Rattle.sed_units.specs.declared.classes.Member.{Member}
use Rattle.sed_units.specs.Tree.{Tree, Absent, Part}
use Rattle.sed_faults.specs.declared.fault.Fault.{Fault}
use Rattle.sed_faults.specs.Faults.{least, lesser}
use Rattle.sed_faults.proofs.Least.{least_together, lesser_assoc, lesser_none}
use Rattle.sed_classes.specs.Bodies.{nodes_in, body_nodes, nodes_of, text_in, text_literal, texts_of}
use Rattle.sed_classes.specs.LimitRules.{too_long_name, too_long_in_type}
use Rattle.sed_classes.specs.Members.{form_body}
use Rattle.sed_first_fault.specs.Integers.{too_large_in_type}
use Rattle.sed_first_fault.specs.Nodes.{Noted, noted, noted_in, noted_in_all, noted_in_body, spelled_faults, spelled_in_node, with_spelled}
use Rattle.sed_first_fault.specs.Texts.{with_literals}

-- the nodes of a row, one after another
abbrev noted_all : Noted → List Label → Noted
noted_all n [] = n
noted_all n (l ∷ ls) = noted_all (noted n l) ls

all_together : (n : Noted) (xs ys : List Label) → noted_all n (xs ++ ys) ≡ noted_all (noted_all n xs) ys
all_together n [] ys = refl
all_together n (x ∷ xs) ys = all_together (noted n x) xs ys

in_nodes : (n : Noted) (t : Tree) → noted_in n t ≡ noted_all n (nodes_in t)
in_nodes n Absent = refl
in_nodes n (Part l a b) =
    ap (λ k. noted_in k b) (in_nodes (noted n l) a)
    ∙ in_nodes (noted_all (noted n l) (nodes_in a)) b
    ∙ sym (all_together (noted n l) (nodes_in a) (nodes_in b))

in_row : (n : Noted) (ts : List Tree) → noted_in_all n ts ≡ noted_all n (flat_map nodes_in ts)
in_row n [] = refl
in_row n (t ∷ ts) =
    ap (λ k. noted_in_all k ts) (in_nodes n t)
    ∙ in_row (noted_all n (nodes_in t)) ts
    ∙ sym (all_together n (nodes_in t) (flat_map nodes_in ts))

in_body : (n : Noted) (body : Option (List Tree)) → noted_in_body n body ≡ noted_all n (body_nodes body)
in_body n None = refl
in_body n (Some ts) = in_row n ts

-- ---- texts

spelled_text : (n : Noted) (l : Literal) (k : LiteralKind) →
    (with_spelled n k l.bytes).texts ≡ with_literals n.texts (option_to_list (text_literal k l))
spelled_text n l literal.Integer = refl
spelled_text n l literal.Character = refl
spelled_text n l literal.Text = refl
spelled_text n l literal.True = refl
spelled_text n l literal.False = refl
spelled_text n l literal.Null = refl

node_text : (n : Noted) (l : Label) → (noted n l).texts ≡ with_literals n.texts (option_to_list (text_in l))
node_text n (label.Literal l) = spelled_text n l l.kind
node_text n l = refl

pub literals_together : (known : List (List ℕ)) (xs ys : List Literal) →
    with_literals known (xs ++ ys) ≡ with_literals (with_literals known xs) ys
literals_together known [] ys = refl
literals_together known (x ∷ xs) ys = literals_together (with_literals known (x ∷ [])) xs ys

first_found : (l : Label) (ls : List Label) → filter_map text_in (l ∷ ls)
    ≡ option_to_list (text_in l) ++ filter_map text_in ls
first_found l ls = by_text (text_in l) (filter_map text_in ls)
  where
    by_text : (o : Option Literal) (xs : List Literal) → cons_option o xs ≡ option_to_list o ++ xs
    by_text None xs = refl
    by_text (Some x) xs = refl

all_texts : (n : Noted) (ls : List Label) → (noted_all n ls).texts ≡ with_literals n.texts (filter_map text_in ls)
all_texts n [] = refl
all_texts n (l ∷ ls) =
    all_texts (noted n l) ls
    ∙ ap (λ known. with_literals known (filter_map text_in ls)) (node_text n l)
    ∙ sym (literals_together n.texts (option_to_list (text_in l)) (filter_map text_in ls))
    ∙ sym (ap (with_literals n.texts) (first_found l ls))

pub body_texts : (n : Noted) (m : Member) → (noted_in_body n (form_body m.form)).texts
    ≡ with_literals n.texts (texts_of m)
body_texts n m = ap (λ (k : Noted). k.texts) (in_body n (form_body m.form)) ∙ all_texts n (nodes_of m)

-- ---- the first fault

-- two lists of faults, one behind the other
pub then_both : (a : Option Fault) (xs ys : List Fault) →
    lesser (lesser a (least xs)) (least ys) ≡ lesser a (least (xs ++ ys))
then_both a xs ys = lesser_assoc a (least xs) (least ys) ∙ sym (ap (lesser a) (least_together xs ys))

kind_first : (n : Noted) (l : Literal) (k : LiteralKind) → (with_spelled n k l.bytes).first ≡ n.first
kind_first n l literal.Integer = refl
kind_first n l literal.Character = refl
kind_first n l literal.Text = refl
kind_first n l literal.True = refl
kind_first n l literal.False = refl
kind_first n l literal.Null = refl

node_first : (n : Noted) (l : Label) → (noted n l).first ≡ lesser n.first (least (spelled_in_node l))
node_first n (label.Literal l) = kind_first n l l.kind ∙ sym (lesser_none n.first)
node_first n (label.Local at type name) =
    ap (λ f. lesser f (least (too_large_in_type type))) (then_both n.first (too_long_in_type type) (too_long_name name))
    ∙ then_both n.first (too_long_in_type type ++ too_long_name name) (too_large_in_type type)
node_first n l = sym (lesser_none n.first)

all_first : (n : Noted) (ls : List Label) → (noted_all n ls).first
    ≡ lesser n.first (least (flat_map spelled_in_node ls))
all_first n [] = sym (lesser_none n.first)
all_first n (l ∷ ls) =
    all_first (noted n l) ls
    ∙ ap (λ f. lesser f (least (flat_map spelled_in_node ls))) (node_first n l)
    ∙ then_both n.first (spelled_in_node l) (flat_map spelled_in_node ls)

pub body_first : (n : Noted) (m : Member) →
    (noted_in_body n (form_body m.form)).first ≡ lesser n.first (least (spelled_faults m))
body_first n m = ap (λ (k : Noted). k.first) (in_body n (form_body m.form)) ∙ all_first n (nodes_of m)
