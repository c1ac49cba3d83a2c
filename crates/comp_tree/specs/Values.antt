-- Values as bytes, one behind another.
pub use Rattle.node_table.specs.Values.{spelling_of, spelling_of_all, value_of, values_of, taken, is_bad_truth}
pub use Rattle.node_table.specs.Values.{is_too_long, are_bad_values, have_long_buffer}
