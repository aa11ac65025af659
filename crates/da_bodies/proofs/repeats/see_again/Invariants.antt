use Rattle.std.proofs.Common.{◌≡◌, take, ℕ, List, bytes_eq}
use Rattle.std.specs.List.{list_any}
use Rattle.da_lang.specs.NameRules.{again}
use Rattle.da_lang.specs.Scopes.{at_lines}
use Rattle.da_bodies.specs.Repeats.{declared_in, is_seen}
use Rattle.da_bodies.specs.Telling.{telling}
use Rattle.da_bodies.proofs.AgainLaws.{names_of}
use Rattle.da_bodies.proofs.repeats.see_again.Given as goal

abbrev pub invariant-loop-one : goal.invariant-loop-one
invariant-loop-one l = record {
  told : l.least ≡ telling l.initial.least (at_lines l.kind (again (declared_in (take l.one-index l.declared))));
  known : (q : List ℕ) → is_seen l.seen q ≡ list_any (bytes_eq q) (names_of (declared_in (take l.one-index l.declared)));
}
