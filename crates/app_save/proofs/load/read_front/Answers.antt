use Rattle.std.proofs.Common.{◌≡◌, ◌∙◌, ◌++◌, ℕ, List, length, take, ap, Result, Ok, Err, OnOk}
use Rattle.std.proofs.lemmas.List.{length-take-le, take_at}
use Rattle.app_save.proofs.load.read_front.Goals as goal

-- what stands in front is what was read
front : {T E : Type 0} (r : Result T E) (len k : ℕ) (into rest part : List ℕ) → length into ≡ k → k ≡ len → OnOk r (into ≡ take k part) → OnOk r (take len (into ++ rest) ≡ take len part)
front (Ok x) len k into rest part size is same = take_at into rest len (size ∙ is) ∙ same ∙ ap (λ (n : ℕ). take n part) is
front (Err e) len k into rest part size is same = same

pub returns-clause-bytes : goal.returns-clause-bytes
returns-clause-bytes g c told = front c.read.result c.args.len _ c.read.new.into _ _ c.read.auto.into (length-take-le c.args.len c.args.into.now c.requires.room) (c.read.ensures.bytes told)
