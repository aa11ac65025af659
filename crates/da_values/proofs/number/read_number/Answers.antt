use Rattle.std.proofs.Common.{◌≡◌, true, sym, rules, get_or, arith}
use Rattle.std.specs.Char.{is_ascii_digit}
use Rattle.da_values.proofs.NumberLemmas.{too_large}
use Rattle.da_values.proofs.number.read_number.Goals as goal

pub returns-then-more-from : goal.returns-then-more-from
returns-then-more-from c =
    let digit : is_ascii_digit (get_or c.loop-digits.digits.now 0 0) ≡ true = search rules in
    sym (too_large c.loop-digits.number c.loop-digits.digits.now c.args.digits.now (omega arith) digit (omega arith) c.loop-digits.invariant.value)
