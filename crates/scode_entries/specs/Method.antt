-- A method as it stands in an image.
use Rattle.std.specs.Prelude.{ℕ, ◌+◌, if◌then◌else◌, List, [], ◌∷◌, ◌++◌, map, reverse, is_none}
use Rattle.sed_typed.specs.declared.program.Method.{Method}
use Rattle.sed_typed.specs.declared.program.Program.{Program}
use Rattle.sed_typed.specs.Typed.{locals_of}
use Rattle.scode_image.specs.declared.image.ImageEntry.{ImageEntry}
use Rattle.scode_image.specs.declared.image.ImageKind.{ImageKind}
use Rattle.scode_image.specs.declared.image.ImageMethod.{ImageMethod}
use Rattle.scode_code.specs.Kinds.{bool, int, long}
use Rattle.scode_emit.specs.Site.{Site, Layout}
use Rattle.scode_emit.specs.Code.{body_code, bytes_of}
use Rattle.scode_emit.specs.Method.{site_of}
use Rattle.scode_entries.specs.declared.marks.Mark.{Mark}
use Rattle.scode_entries.specs.Entries.{cell_of, body_marks, each_once}
use Rattle.scode_entries.specs.Stack.{body_stack}

-- the compiler's locals: a bool, an int and a long that wait, and an index. Whatever is stored in them is of these
-- kinds.
abbrev pub waiting_kinds : List ImageKind
waiting_kinds = bool ∷ int ∷ long ∷ int ∷ []

-- the locals at entry, and at each entry of the code: the receiver, the parameters, the declared ones, the compiler's
abbrev pub local_kinds : Method → List ImageKind
local_kinds m = map cell_of (locals_of m) ++ waiting_kinds

abbrev pub entry_of : List ImageKind → Mark → ImageEntry
entry_of locals m = record { place = m.place; locals = locals; stack = reverse m.stack }

abbrev pub entries_of : Program → Layout → Method → List ImageEntry
entries_of program layout m = map (entry_of (local_kinds m)) (each_once (body_marks (site_of program layout m) m.body))

-- flag 1 says instance, 2 abstract
abbrev pub flags_of : Method → ℕ
flags_of m = (if m.is_static then 0 else 1) + (if is_none m.body then 2 else 0)

-- a method whose code is made for this
abbrev pub method_at : Site → Method → ImageMethod
method_at w m = record {
  class = m.class.0;
  flags = flags_of m;
  params = map cell_of m.params;
  result = cell_of m.result;
  locals = local_kinds m;
  stack = body_stack m.body;
  code = bytes_of (body_code w m.result m.body);
  entries = map (entry_of (local_kinds m)) (each_once (body_marks w m.body));
}

abbrev pub image_method : Program → Layout → Method → ImageMethod
image_method program layout m = method_at (site_of program layout m) m
