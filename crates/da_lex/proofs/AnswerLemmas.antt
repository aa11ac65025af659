-- What `lex` answers.
use Rattle.std.proofs.Common.{◌≡◌, ◌≢◌, Err}
use Rattle.da_values.specs.Tokens.{Scanned}
use Rattle.da_lex.specs.declared.fault.LexFault.{LexFault}
use Rattle.da_lex.specs.declared.fault.LexFault.TheVariants.{Refused, Memory}
use Rattle.da_lex.specs.Scanning.{IsFaultOf, fault_of}

pub fault-found : (e : LexFault) (scanned : Scanned) → (e ≢ Memory → scanned ≡ Err (fault_of e)) → IsFaultOf e scanned
fault-found (Refused k line) scanned found = found (λ same. cc)
fault-found Memory scanned found = tt
