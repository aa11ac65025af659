use Rattle.std.proofs.Common.{◌≡◌, length}
use Rattle.da_values.specs.Tokens.{tokens, scan, prepend}
use Rattle.da_lex.specs.Scanning.{scan_of, Fits}
use Rattle.da_lex.proofs.tokens.lex.Given as goal

abbrev pub invariant-loop-rest : goal.invariant-loop-rest
invariant-loop-rest l = record {
  fits : Fits (scan_of l.scanner) (length l.rest);
  scanned : prepend l.scanner.tokens (scan 0 (scan_of l.scanner) l.rest) ≡ tokens l.text;
}

abbrev pub decreases-loop-rest : goal.decreases-loop-rest
decreases-loop-rest l = length l.rest
