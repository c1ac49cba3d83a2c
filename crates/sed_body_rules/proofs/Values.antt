-- What a value of each sort is.
use Rattle.sed_body_rules.specs.Values.{number_value, bool_value, reference_value}

pub ruleset values = (number_value, bool_value, reference_value)
