use Rattle.std.proofs.Common.{true, false}
use Rattle.sed_units.specs.declared.classes.Unit.{Unit as TheUnit}
use Rattle.kit_sources.specs.declared.sources.Sources.{Sources}
use Rattle.kit_sources.specs.Sources.{KitsRead, SourceRead}
use Rattle.sed_check.specs.Loading.{KitsLoaded, TextLoaded, local}
use Rattle.sed_check.proofs.Alike.{load_alike}
use Rattle.sed_check.proofs.Loads.{load_one}
use Rattle.sed_check.proofs.kit_laws.loads_agree.Goals as goal

pub returns-clause-kits : goal.returns-clause-kits
unfolding KitsLoaded
returns-clause-kits c = λ names reads others end other h k agree.
    load_one (KitsRead names) (λ (s : Sources). s) false (λ rs os e o p q a. c.what_is_read_is_one.ensures.kits names rs os e o p q a) reads others end other h k agree

pub returns-clause-alike : goal.returns-clause-alike
unfolding KitsLoaded
returns-clause-alike c = λ names reads others p q h k agree.
    load_alike c.terms_have_one_tree.ensures.statement (KitsRead names) (λ (s : Sources). s) false (λ rs os e o m n a. c.what_is_read_is_one.ensures.kits names rs os e o m n a) reads others p q h k agree

pub returns-clause-text : goal.returns-clause-text
unfolding TextLoaded
returns-clause-text c = λ name reads others end other h k agree.
    load_one (SourceRead name) (λ (u : TheUnit). local name u) true (λ rs os e o p q a. c.what_is_read_is_one.ensures.source name rs os e o p q a) reads others end other h k agree

pub returns-clause-alone : goal.returns-clause-alone
unfolding TextLoaded
returns-clause-alone c = λ name reads others p q h k agree.
    load_alike c.terms_have_one_tree.ensures.statement (SourceRead name) (λ (u : TheUnit). local name u) true (λ rs os e o m n a. c.what_is_read_is_one.ensures.source name rs os e o m n a) reads others p q h k agree
