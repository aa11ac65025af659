-- What the steps of the scan do, by the definition.
use Rattle.std.specs.Prelude.{◌≡◌, ◌≢◌, ℕ, ◌+◌, ◌≤◌, List, ◌++◌, reverse, Result, Ok, Err}
use Rattle.da_values.specs.declared.token.LexKind.TheVariants as kind
use Rattle.da_values.specs.declared.token.Token.{Token}
use Rattle.da_values.specs.Tokens.{Fault, Levelled, Scan, Scanned}
use Rattle.da_lex.specs.declared.fault.LexFault.{LexFault}
use Rattle.da_lex.specs.declared.fault.LexFault.TheVariants.{Refused, Memory}
use Rattle.da_lex.specs.declared.scanner.Scanner.{Scanner}

-- the scan of the definition at which the code stands
abbrev pub scan_of : Scanner → Scan
scan_of s = record {
  at = s.at;
  line = s.line;
  is_fresh = s.is_fresh;
  spaces = s.spaces;
  levels = reverse s.levels;
  brackets = s.brackets;
  bracket_line = s.bracket_line;
  past = s.past;
  last_line = s.last_line;
}

-- the fault of the definition that the code answers; want of memory is none
abbrev pub fault_of : LexFault → Fault
fault_of (Refused k line) = record { kind = k; line = line }
fault_of Memory = record { kind = kind.BadByte; line = 0 }

-- what a function answered and did is this, unless memory was refused
abbrev pub Steps : {A : Type 0} → Levelled → Result A LexFault → Scanner → Scanner → Type 0
Steps levelled (Ok a) old new = (ts : List Token) × (levelled ≡ Ok (ts, scan_of new)) × (new.tokens ≡ old.tokens ++ ts)
Steps levelled (Err e) old new = e ≢ Memory → levelled ≡ Err (fault_of e)

-- what the end of a text answered is this
abbrev pub Ends : Scanned → List Token → Result (List Token) LexFault → Type 0
Ends scanned before (Ok all) = (ts : List Token) × (scanned ≡ Ok ts) × (all ≡ before ++ ts)
Ends scanned before (Err e) = e ≢ Memory → scanned ≡ Err (fault_of e)

-- the counts are at most what was read, and what is left fits
pub record Fits (s : Scan) (left : ℕ) : Type 0 where
  pub at : s.at + left ≤ 1048576
  pub line : s.line ≤ s.at + 1
  pub spaces : s.spaces ≤ s.at
  pub brackets : s.brackets ≤ s.at

-- A fault that is answered is that of the definition, but want of memory may come at any text.
abbrev pub IsFaultOf : LexFault → Scanned → Type 0
IsFaultOf (Refused k line) scanned = scanned ≡ Err (record { kind = k; line = line })
IsFaultOf Memory scanned = Unit {0}
