-- What is answered of a program that is not typed.
use Rattle.std.specs.Prelude.{◌≡◌, Some}
use Rattle.da_lang.specs.declared.program.Program.{Program}
use Rattle.da_lang.specs.Typing.{type_fault}
use Rattle.da_types.specs.declared.top.TypeFault.{TypeFault}
use Rattle.da_types.specs.declared.top.TypeFault.TheVariants.{Refused, Memory}

-- this is the earliest line that breaks a rule of types; or memory was refused
abbrev pub IsRefusedAs : Program → TypeFault → Type 0
IsRefusedAs p (Refused line) = type_fault p ≡ Some line
IsRefusedAs p Memory = Unit {0}
