use Rattle.sed_typed.specs.Classes.{fields}
use Rattle.sed_layout.proofs.Apart.{ends_before}
use Rattle.sed_layout.proofs.offset_laws.fields_do_not_overlap.Goals as goal

pub returns : goal.returns
returns c program class first second f is less = ends_before program (fields program class) first second f is less
