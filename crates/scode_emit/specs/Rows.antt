-- The layout that rows of fields and tables say.
use Rattle.std.specs.Prelude.{ℕ, ◌==◌, min, position, List, [], slice_get}
use Rattle.std.specs.Option.{option_map_or}
use Rattle.scode_image.specs.declared.image.ImageField.{ImageField}
use Rattle.scode_emit.specs.declared.site.Site.{Site as Given}
use Rattle.scode_emit.specs.Site.{Site, Layout}

-- what a row has in this place; each class has a row
abbrev pub row_of : {X : Type 0} → List (List X) → ℕ → List X
row_of rows class = option_map_or (λ row. row) (slice_get rows class) []

abbrev pub offset_at : List ImageField → ℕ → ℕ
offset_at fields number = option_map_or (λ f. f.offset) (slice_get fields number) 0

abbrev pub room_at : List ImageField → ℕ → ℕ
room_at fields number = option_map_or (λ f. f.n) (slice_get fields number) 0

-- a table has at most 255 places
abbrev pub place_at : List ℕ → ℕ → ℕ
place_at table method = option_map_or (λ place. min place 255) (position (λ other. other == method) table) 0

-- the fields of the classes and the statics as they stand in an image, and the tables of the classes
abbrev pub layout_of : List (List ImageField) → List ImageField → List (List ℕ) → Layout
layout_of fields statics tables = record {
  offset = λ class number. offset_at (row_of fields class) number;
  room = λ class number. room_at (row_of fields class) number;
  static_offset = λ number. offset_at statics number;
  static_room = λ number. room_at statics number;
  table_place = λ class method. place_at (row_of tables class) method;
}

abbrev pub seen : Given → Site
seen w = record {
  program = w.program.now;
  layout = layout_of w.fields.now w.statics.now w.tables.now;
  class = w.class;
  locals = w.locals;
}
