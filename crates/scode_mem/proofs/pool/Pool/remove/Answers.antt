use Rattle.std.proofs.Common.{◌≡◌, ◌<◌, ℕ, List, [], ◌∷◌, ◌++◌, get_or, length, take, ap, sym, subst, ◌∙◌, arith}
use Rattle.std.specs.Prelude.{Contains, remove, vec_capacity, vec_len}
use Rattle.std.proofs.lemmas.List.{get_or_read_under}
use Rattle.scode_mem.specs.declared.entry.Entry.{Entry}
use Rattle.scode_mem.specs.Kept.{size_at}
use Rattle.scode_mem.proofs.Told.{among_live, class_told, entry_read, in_directory, k_below, less_told, parts_of, removed_told, size_told}
use Rattle.scode_mem.proofs.pool.Pool.remove.Goals as goal

pub index-requires : goal.index-requires
index-requires c = let below = in_directory c.self.inside c.self.invariant c.args.self.now c.self.view_is c.args.p.0 c.requires in omega arith

pub size_of-size-requires : goal.size_of-size-requires
size_of-size-requires c =
    let entry = ap (λ (e : Entry). e.class) (entry_read c.self.inside c.self.invariant c.args.self.now c.self.view_is c.args.p.0 c.requires c.index.result.now c.index.ensures) in
    let lt = class_told c.self.inside c.self.invariant c.args.self.now c.self.view_is c.args.p.0 c.requires in
    let long = ap length c.deref.ensures.value in
    omega arith

pub index_of-k-requires : goal.index_of-k-requires
index_of-k-requires c =
    subst (λ (xs : List ℕ). Contains (take c.self.inside.count xs) c.args.p.0) (sym c.deref-2.ensures.value)
    (among_live c.self.inside c.self.invariant c.args.self.now c.self.view_is c.args.p.0 c.requires)

pub overflow_sub-self-2 : goal.overflow_sub-self-2
overflow_sub-self-2 c =
    let i = c.self.inside in
    let all : take i.count c.deref-2.result.now ≡ take i.count i.places.items = ap (take i.count) c.deref-2.ensures.value in
    let within : c.index_of-k.result < length (take i.count i.places.items) = subst (λ (xs : List ℕ). c.index_of-k.result < length xs) all c.index_of-k.ensures.within in
    let found : get_or (take i.count i.places.items) c.index_of-k.result 0 ≡ c.args.p.0 = subst (λ (xs : List ℕ). get_or xs c.index_of-k.result 0 ≡ c.args.p.0) all c.index_of-k.ensures.found in
    let entry = ap (λ (e : Entry). e.class) (entry_read i c.self.invariant c.args.self.now c.self.view_is c.args.p.0 c.requires c.index.result.now c.index.ensures) in
    let size : c.size_of-size.result ≡ size_at (parts_of i) c.args.p.0 = c.size_of-size.ensures ∙ (λ j. length (get_or (c.deref.ensures.value j) (entry j) [])) in
    size_told i c.self.invariant c.args.self.now c.self.view_is c.args.p.0 c.index_of-k.result within found c.size_of-size.result size

pub invariant_of-self : goal.invariant_of-self
invariant_of-self c =
    let i = c.self.inside in
    let all : take i.count c.deref-2.result.now ≡ take i.count i.places.items = ap (take i.count) c.deref-2.ensures.value in
    let within : c.index_of-k.result < length (take i.count i.places.items) = subst (λ (xs : List ℕ). c.index_of-k.result < length xs) all c.index_of-k.ensures.within in
    let found : get_or (take i.count i.places.items) c.index_of-k.result 0 ≡ c.args.p.0 = subst (λ (xs : List ℕ). get_or xs c.index_of-k.result 0 ≡ c.args.p.0) all c.index_of-k.ensures.found in
    let entry = ap (λ (e : Entry). e.class) (entry_read i c.self.invariant c.args.self.now c.self.view_is c.args.p.0 c.requires c.index.result.now c.index.ensures) in
    let size : c.size_of-size.result ≡ size_at (parts_of i) c.args.p.0 = c.size_of-size.ensures ∙ (λ j. length (get_or (c.deref.ensures.value j) (entry j) [])) in
    let low = k_below i c.self.invariant c.args.self.now c.self.view_is c.args.p.0 c.index_of-k.result within found in
    let some = c.self.invariant.some in
    let every = c.self.invariant.every.all in
    let place : c.remove-place.result ≡ get_or i.places.items c.index_of-k.result 0 =
    get_or_read_under i.places.items c.index_of-k.result (vec_len i.places) c.remove-place.result 0 c.remove-place.ensures.value (omega arith) (omega arith) in
    let left : c.push_reserved.new.self.items ≡ remove i.places.items c.index_of-k.result ++ get_or i.places.items c.index_of-k.result 0 ∷ [] =
    c.push_reserved.ensures.items ∙ (λ j. c.remove-place.ensures.items j ++ place j ∷ []) in
    less_told i c.self.invariant c.args.self.now c.self.view_is c.args.p.0 c.index_of-k.result within found c.size_of-size.result size c.push_reserved.new.self.items
    (vec_capacity c.push_reserved.new.self) left (c.push_reserved.ensures.capacity ∙ c.remove-place.ensures.capacity)

pub returns : goal.returns
returns c =
    let i = c.self.inside in
    let all : take i.count c.deref-2.result.now ≡ take i.count i.places.items = ap (take i.count) c.deref-2.ensures.value in
    let within : c.index_of-k.result < length (take i.count i.places.items) = subst (λ (xs : List ℕ). c.index_of-k.result < length xs) all c.index_of-k.ensures.within in
    let found : get_or (take i.count i.places.items) c.index_of-k.result 0 ≡ c.args.p.0 = subst (λ (xs : List ℕ). get_or xs c.index_of-k.result 0 ≡ c.args.p.0) all c.index_of-k.ensures.found in
    let low = k_below i c.self.invariant c.args.self.now c.self.view_is c.args.p.0 c.index_of-k.result within found in
    let some = c.self.invariant.some in
    let every = c.self.invariant.every.all in
    let place : c.remove-place.result ≡ get_or i.places.items c.index_of-k.result 0 =
    get_or_read_under i.places.items c.index_of-k.result (vec_len i.places) c.remove-place.result 0 c.remove-place.ensures.value (omega arith) (omega arith) in
    let left : c.push_reserved.new.self.items ≡ remove i.places.items c.index_of-k.result ++ get_or i.places.items c.index_of-k.result 0 ∷ [] =
    c.push_reserved.ensures.items ∙ (λ j. c.remove-place.ensures.items j ++ place j ∷ []) in
    removed_told i c.self.invariant c.args.self.now c.self.view_is c.args.p.0 c.index_of-k.result within found c.push_reserved.new.self.items left
