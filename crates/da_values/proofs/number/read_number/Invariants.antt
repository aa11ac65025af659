use Rattle.std.proofs.Common.{◌≡◌, ◌≤◌, length}
use Rattle.std.specs.Char.{is_ascii_digit}
use Rattle.std.specs.List.{list_all}
use Rattle.std.specs.Str.Parse.{digits_value, digits_value_after}
use Rattle.da_values.specs.Piece.{number_max}
use Rattle.da_values.proofs.number.read_number.Given as goal

abbrev pub invariant-loop-digits : goal.invariant-loop-digits
invariant-loop-digits l = record {
  digits : list_all is_ascii_digit l.digits ≡ list_all is_ascii_digit l.initial.digits;
  small : l.number ≤ number_max;
  value : digits_value_after 10 l.number l.digits ≡ digits_value 10 l.initial.digits;
}

abbrev pub decreases-loop-digits : goal.decreases-loop-digits
decreases-loop-digits l = length l.digits
