-- What calls do: arguments that go to the parameters are taken off, and the result stands there.
use Rattle.std.proofs.Common.{◌≡◌, ℕ, zero, suc, not, Bool, true, false, if◌then◌else◌, List, [], ◌∷◌, ◌++◌, length, map, drop, reverse, Option, Some, refl, sym, ap, subst, ◌∙◌, arith, append_assoc, append-nil, length-append}
use Rattle.std.specs.Prelude.{All, is_some, slice_get}
use Rattle.std.specs.Option.{option_map_or}
use Rattle.std.proofs.lemmas.Grind.{reverse_onto}
use Rattle.std.proofs.lemmas.List.{length-map, length-reverse, map-append}
use Rattle.std.proofs.lemmas.List.Elements.{All-tail}
use Rattle.std.proofs.lemmas.Bool.{and_from}
use Rattle.sed_typed.specs.declared.kind.Kind.{Kind}
use Rattle.sed_typed.specs.declared.kind.Kind.TheVariants as kind
use Rattle.sed_typed.specs.declared.program.Program.{Program}
use Rattle.sed_typed.specs.Typed.{IsStorable}
use Rattle.sed_typed.specs.TypedExpr.{AllGoTo, GoesTo}
use Rattle.scode_image.specs.declared.image.Image.{Image}
use Rattle.scode_image.specs.declared.image.ImageKind.{ImageKind}
use Rattle.scode_image.specs.declared.image.ImageMethod.{ImageMethod}
use Rattle.scode_code.specs.Calls.{is_instance, table_method}
use Rattle.scode_code.specs.CodeRules.{after_stack, is_abstract}
use Rattle.scode_code.specs.Kinds.{all_go, goes_to, object}
use Rattle.scode_code.specs.Wants.{argument_needs, arguments, needs_of, nothing, result_cells}
use Rattle.scode_code.specs.declared.needs.Need.{Need}
use Rattle.scode_code.specs.declared.needs.Need.TheVariants as need
use Rattle.scode_code.proofs.Verifies.{all_go_to_themselves}
use Rattle.scode_ops.specs.declared.op.Op.TheVariants as op
use Rattle.scode_entries.specs.Entries.{above, cell_of}
use Rattle.scode_sim.proofs.Callees.{args_solid}
use Rattle.scode_fine.proofs.Builds.{Does, builds}
use Rattle.scode_fine.proofs.Facts.{solid_above}
use Rattle.scode_fine.proofs.PlainOps.{args_on}
use Rattle.scode_fine.proofs.Walks.{Ground, Stack, has_all, left_by}

pub result_above : (k : Kind) (below : Stack) → result_cells (cell_of k) ++ below ≡ above k below
result_above kind.Void below = refl
result_above kind.Bool below = refl
result_above kind.Int below = refl
result_above kind.Long below = refl
result_above kind.Text below = refl
result_above (kind.Object class) below = refl

-- ---- arguments

drop_more : (n : ℕ) (xs : Stack) → drop (suc n) xs ≡ drop 1 (drop n xs)
drop_more zero [] = refl
drop_more zero (x ∷ xs) = refl
drop_more (suc n) [] = refl
drop_more (suc n) (x ∷ xs) = drop_more n xs

module _ (image : Image) (program : Program) (goes : (l k : Kind) → GoesTo program l k → goes_to image (cell_of l) (cell_of k) ≡ true) where
  -- what the parameters need above other needs is met
  pub args_has : (ks qs : List Kind) (ns : List Need) (below : Stack) → AllGoTo program ks qs → All (IsStorable program) qs →
      has_all image ns below ≡ true → has_all image (map need.Goes (reverse (map cell_of qs)) ++ ns) (args_on ks below) ≡ true
  args_has [] [] ns below h s n = n
  args_has [] (q ∷ qs) ns below h s n = absurd h
  args_has (k ∷ ks) [] ns below h s n = absurd h
  args_has (k ∷ ks) (q ∷ qs) ns below h s n =
      let cs = map cell_of qs in
      let turned : map need.Goes (reverse (cell_of q ∷ cs)) ++ ns ≡ map need.Goes (reverse cs) ++ (need.Goes (cell_of q) ∷ ns) =
      ap (λ (rs : List ImageKind). map need.Goes rs ++ ns) (reverse_onto cs (cell_of q) [])
      ∙ ap (λ (xs : List Need). xs ++ ns) (map-append need.Goes (reverse cs) (cell_of q ∷ []))
      ∙ append_assoc (map need.Goes (reverse cs)) (need.Goes (cell_of q) ∷ []) ns in
      let met : has_all image (need.Goes (cell_of q) ∷ ns) (above k below) ≡ true =
      subst (λ (st : Stack). has_all image (need.Goes (cell_of q) ∷ ns) st ≡ true)
      (sym (solid_above k below (args_solid program (k ∷ ks) (q ∷ qs) h s).0))
      (and_from (goes_to image (cell_of k) (cell_of q)) (has_all image ns below) (goes k q h.0) n) in
      subst (λ (all : List Need). has_all image all (args_on ks (above k below)) ≡ true) (sym turned)
      (args_has ks qs (need.Goes (cell_of q) ∷ ns) (above k below) h.1 (All-tail (IsStorable program) q qs s) met)

  pub args_drop : (ks qs : List Kind) (below : Stack) → AllGoTo program ks qs → All (IsStorable program) qs →
      drop (length qs) (args_on ks below) ≡ below
  args_drop [] [] below h s = refl
  args_drop [] (q ∷ qs) below h s = absurd h
  args_drop (k ∷ ks) [] below h s = absurd h
  args_drop (k ∷ ks) (q ∷ qs) below h s =
      drop_more (length qs) (args_on ks (above k below))
      ∙ ap (λ (st : Stack). drop 1 st) (args_drop ks qs (above k below) h.1 (All-tail (IsStorable program) q qs s)
      ∙ solid_above k below (args_solid program (k ∷ ks) (q ∷ qs) h s).0)

-- ---- what a method of the image needs

-- the parameters of a method that has no receiver, and of one that has
abbrev pub plain_needs : List Kind → List Need
plain_needs qs = map need.Goes (reverse (map cell_of qs))

pub static_needs : (class : ℕ) (x : ImageMethod) (qs : List Kind) → x.params ≡ map cell_of qs → is_instance x ≡ false →
    argument_needs class x ≡ plain_needs qs
static_needs class x qs p e =
    ap (λ (b : Bool). map need.Goes (reverse ((if b then object class ∷ [] else []) ++ x.params))) e
    ∙ ap (λ (ps : List ImageKind). map need.Goes (reverse ps)) p

pub own_needs : (class : ℕ) (x : ImageMethod) (qs : List Kind) → x.params ≡ map cell_of qs → is_instance x ≡ true →
    argument_needs class x ≡ plain_needs qs ++ need.Goes (object class) ∷ []
own_needs class x qs p e =
    ap (λ (b : Bool). map need.Goes (reverse ((if b then object class ∷ [] else []) ++ x.params))) e
    ∙ ap (λ (ps : List ImageKind). map need.Goes (reverse (object class ∷ ps))) p
    ∙ ap (λ (rs : List ImageKind). map need.Goes rs) (reverse_onto (map cell_of qs) (object class) [])
    ∙ map-append need.Goes (reverse (map cell_of qs)) (object class ∷ [])

plain_many : (qs : List Kind) → length (plain_needs qs) ≡ length qs
plain_many qs =
    length-map (reverse (map cell_of qs)) need.Goes ∙ length-reverse (map cell_of qs) ∙ length-map qs cell_of

own_many : (class : ℕ) (qs : List Kind) → length (plain_needs qs ++ need.Goes (object class) ∷ []) ≡ suc (length qs)
own_many class qs = let many = plain_many qs in omega (arith, length-append (plain_needs qs) (need.Goes (object class) ∷ []), many)

-- what is needed is there, and what is below is left
pub record Taken (image : Image) (class : ℕ) (x : ImageMethod) (stack below : Stack) : Type 0 where
  pub cells : has_all image (argument_needs class x) stack ≡ true
  pub rest : drop (length (argument_needs class x)) stack ≡ below

module _ (image : Image) (program : Program) (goes : (l k : Kind) → GoesTo program l k → goes_to image (cell_of l) (cell_of k) ≡ true) where
  pub static_taken : (class : ℕ) (x : ImageMethod) (ks qs : List Kind) (below : Stack) → x.params ≡ map cell_of qs → is_instance x ≡ false →
      AllGoTo program ks qs → All (IsStorable program) qs → Taken image class x (args_on ks below) below
  static_taken class x ks qs below p e h s =
      let is = static_needs class x qs p e in
      record {
        cells = subst (λ (ns : List Need). has_all image ns (args_on ks below) ≡ true) (sym (is ∙ sym (append-nil (plain_needs qs))))
            (args_has image program goes ks qs [] below h s refl);
        rest = ap (λ (n : ℕ). drop n (args_on ks below)) (ap (λ (ns : List Need). length ns) is ∙ plain_many qs)
            ∙ args_drop image program goes ks qs below h s;
      }

  pub own_taken : (class : ℕ) (x : ImageMethod) (ks qs : List Kind) (receiver : ImageKind) (below : Stack) → x.params ≡ map cell_of qs →
      is_instance x ≡ true → goes_to image receiver (object class) ≡ true → AllGoTo program ks qs → All (IsStorable program) qs →
      Taken image class x (args_on ks (receiver ∷ below)) below
  own_taken class x ks qs receiver below p e to h s =
      let is = own_needs class x qs p e in
      record {
        cells = subst (λ (ns : List Need). has_all image ns (args_on ks (receiver ∷ below)) ≡ true) (sym is)
            (args_has image program goes ks qs (need.Goes (object class) ∷ []) (receiver ∷ below) h s
            (and_from (goes_to image receiver (object class)) true to refl));
        rest = ap (λ (n : ℕ). drop n (args_on ks (receiver ∷ below))) (ap (λ (ns : List Need). length ns) is ∙ own_many class qs)
            ∙ drop_more (length qs) (args_on ks (receiver ∷ below))
            ∙ ap (λ (st : Stack). drop 1 st) (args_drop image program goes ks qs (receiver ∷ below) h s);
      }

-- ---- calls

-- the effect of a call of a method that is there
called_cells : (image : Image) (n class : ℕ) (x : ImageMethod) (stack below : Stack) → slice_get image.methods n ≡ Some x →
    Taken image class x stack below → has_all image (needs_of image (arguments n class).takes) stack ≡ true
called_cells image n class x stack below there t =
    ap (λ (o : Option ImageMethod). has_all image (option_map_or (argument_needs class) o []) stack) there ∙ t.cells

called_left : (image : Image) (n class : ℕ) (x : ImageMethod) (stack below : Stack) → slice_get image.methods n ≡ Some x →
    Taken image class x stack below → after_stack image (arguments n class) stack ≡ result_cells x.result ++ below
called_left image n class x stack below there t =
    ap (λ (o : Option ImageMethod).
    option_map_or (λ (m : ImageMethod). result_cells m.result) o [] ++ drop (length (option_map_or (argument_needs class) o [])) stack) there
    ∙ ap (λ (rest : Stack). result_cells x.result ++ rest) t.rest

pub call_does : (g : Ground) (n : ℕ) (x : ImageMethod) (stack below next : Stack) → slice_get g.image.methods n ≡ Some x →
    is_abstract x ≡ false → Taken g.image x.class x stack below → result_cells x.result ++ below ≡ next → Does g (op.Call n) stack next
call_does g n x stack below next there concrete t is at low high =
    builds stack next (op.Call n) (ap (λ (o : Option ImageMethod). option_map_or is_abstract o true) there ∙ concrete)
    (ap (λ (o : Option ImageMethod). has_all g.image (needs_of g.image (option_map_or (λ (m : ImageMethod). arguments n m.class) o nothing).takes) stack) there
    ∙ called_cells g.image n x.class x stack below there t)
    refl refl (all_go_to_themselves g.image g.m.locals) refl refl
    (subst (λ (st : Stack). all_go g.image (left_by g stack (op.Call n)) st ≡ true)
    (ap (λ (o : Option ImageMethod). after_stack g.image (option_map_or (λ (m : ImageMethod). arguments n m.class) o nothing) stack) there
    ∙ called_left g.image n x.class x stack below there t ∙ is)
    (all_go_to_themselves g.image (left_by g stack (op.Call n)))) low high

pub virtual_does : (g : Ground) (class place n : ℕ) (x : ImageMethod) (stack below next : Stack) → table_method g.image class place ≡ Some n →
    slice_get g.image.methods n ≡ Some x → Taken g.image class x stack below → result_cells x.result ++ below ≡ next →
    Does g (op.VirtualCall class place) stack next
virtual_does g class place n x stack below next found there t is at low high =
    builds stack next (op.VirtualCall class place) (ap (λ (o : Option ℕ). not (is_some o)) found)
    (ap (λ (o : Option ℕ). has_all g.image (needs_of g.image (option_map_or (λ (k : ℕ). arguments k class) o nothing).takes) stack) found
    ∙ called_cells g.image n class x stack below there t)
    refl refl (all_go_to_themselves g.image g.m.locals) refl refl
    (subst (λ (st : Stack). all_go g.image (left_by g stack (op.VirtualCall class place)) st ≡ true)
    (ap (λ (o : Option ℕ). after_stack g.image (option_map_or (λ (k : ℕ). arguments k class) o nothing) stack) found
    ∙ called_left g.image n class x stack below there t ∙ is)
    (all_go_to_themselves g.image (left_by g stack (op.VirtualCall class place)))) low high
